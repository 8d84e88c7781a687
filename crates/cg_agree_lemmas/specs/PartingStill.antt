-- Who leaves a configuration in no primary component and in no attempt has the same greens and yellow names as before.
use Rattle.std.proofs.Common.{◌≡◌, ℕ, suc, Bool, true, false, cond, List, refl, sym, ap, ◌∙◌}
use Rattle.std.specs.Prelude.{◌==◌, nat_le}
use Rattle.std.proofs.lemmas.Bool.{cond_both}
use Rattle.cg_base.specs.Cuts.{index_in}
use Rattle.cg_action.specs.declared.action.Action.{Action}
use Rattle.cg_queue.specs.Queue.{Marks, Gaps, placed_red, marked_red}
use Rattle.cg_queue.specs.declared.mark.Mark.TheVariants.{Placed, Known}
use Rattle.cg_wire.specs.declared.message.Msg.{Msg}
use Rattle.cg_wire.specs.declared.message.Msg.TheVariants.{Action as ActionMsg, State as StateMsg, GreenItem, RedItem, Cpc}
use Rattle.cg_group.specs.State.{GroupState, home}
use Rattle.cg_client.specs.Replica.{State, RegPrim, TransPrim, ExchangeStates, ExchangeActions, Construct, No, Un, NonPrim, Left, Replica}
use Rattle.cg_client.specs.Turn.{Turn, begin}
use Rattle.cg_client.specs.Marks.{is_unmade, marked, mark_red}
use Rattle.cg_states.specs.ReplicaStep.{on_message, on_transitional, after_delivery}
use Rattle.cg_model.specs.FactsReplica.{is_primary, is_attempting}
use Rattle.cg_model.specs.Small.{take_parting}
use Rattle.cg_agree_lemmas.specs.PartingNo.{kept-places}

-- in no primary component and in no attempt, behind a configuration
abbrev pub is_apart : State → Bool
is_apart (NonPrim regular) = true
is_apart Left = true
is_apart _ = false

pub record StaysApart (old new : Replica) : Type 0 where
  pub state : is_apart new.state ≡ true
  pub yellow : new.held.queue.yellow ≡ old.held.queue.yellow
  pub greens : new.held.queue.greens ≡ old.held.queue.greens

-- a red mark leaves all that
record LeavesAll (old new : Replica) : Type 0 where
  state : new.state ≡ old.state
  yellow : new.held.queue.yellow ≡ old.held.queue.yellow
  greens : new.held.queue.greens ≡ old.held.queue.greens

red-leaves : (t : Turn) (a : Action) → LeavesAll t.replica (mark_red t a).replica
unfolding mark_red
red-leaves t a =
    let q = t.replica.held.queue in
    let cut = index_in q.red_cut a.id.creator in
    cond_both (is_unmade t.replica.held a) t (marked t a (marked_red q a)) (λ u. LeavesAll t.replica u.replica)
    (λ y. record { state = refl; yellow = refl; greens = refl })
    (λ n. cond_both (nat_le a.id.index cut) (Marks Known q) (cond (a.id.index == suc cut) (Marks Placed (placed_red q a)) (Gaps cut)) (λ m. LeavesAll t.replica (marked t a m).replica)
    (λ y. record { state = refl; yellow = refl; greens = refl })
    (λ n. cond_both (a.id.index == suc cut) (Marks Placed (placed_red q a)) (Gaps cut) (λ m. LeavesAll t.replica (marked t a m).replica)
    (λ y. record { state = refl; yellow = refl; greens = refl })
    (λ n. record { state = refl; yellow = refl; greens = refl })))

message-apart : (old : Replica) (state : State) (from : ℕ) (m : Msg) (t : Turn) → t.replica.state ≡ state → StaysApart old t.replica → StaysApart old (on_message state from m t).replica
unfolding on_message
message-apart old (NonPrim regular) from (ActionMsg a) t e is =
    let red = red-leaves t a in
    record { state = ap is_apart (red.state ∙ e); yellow = red.yellow ∙ is.yellow; greens = red.greens ∙ is.greens }
message-apart old (NonPrim regular) from (StateMsg s) t e is = is
message-apart old (NonPrim regular) from (GreenItem at a) t e is = is
message-apart old (NonPrim regular) from (RedItem a) t e is = is
message-apart old (NonPrim regular) from (Cpc i k) t e is = is
message-apart old Left from (ActionMsg a) t e is = is
message-apart old Left from (StateMsg s) t e is = is
message-apart old Left from (GreenItem at a) t e is = is
message-apart old Left from (RedItem a) t e is = is
message-apart old Left from (Cpc i k) t e is = is
message-apart old RegPrim from m t e is = absurd (let clash : false ≡ true = sym (ap is_apart e) ∙ is.state in cc)
message-apart old TransPrim from m t e is = absurd (let clash : false ≡ true = sym (ap is_apart e) ∙ is.state in cc)
message-apart old (ExchangeStates k set heard) from m t e is = absurd (let clash : false ≡ true = sym (ap is_apart e) ∙ is.state in cc)
message-apart old (ExchangeActions k heard n) from m t e is = absurd (let clash : false ≡ true = sym (ap is_apart e) ∙ is.state in cc)
message-apart old (Construct k heard) from m t e is = absurd (let clash : false ≡ true = sym (ap is_apart e) ∙ is.state in cc)
message-apart old (No k heard) from m t e is = absurd (let clash : false ≡ true = sym (ap is_apart e) ∙ is.state in cc)
message-apart old Un from m t e is = absurd (let clash : false ≡ true = sym (ap is_apart e) ∙ is.state in cc)

first-apart : (state : State) (r : Replica) → r.state ≡ state → is_primary state ≡ false → is_attempting state ≡ false → StaysApart r (on_transitional state (begin r)).replica
unfolding on_transitional
first-apart (ExchangeStates k set heard) r e beside none = record { state = refl; yellow = refl; greens = refl }
first-apart (ExchangeActions k heard n) r e beside none = record { state = refl; yellow = refl; greens = refl }
first-apart (NonPrim regular) r e beside none = record { state = refl; yellow = refl; greens = refl }
first-apart Left r e beside none = record { state = ap is_apart e; yellow = refl; greens = refl }
first-apart RegPrim r e beside none = absurd (let clash : true ≡ false = beside in cc)
first-apart TransPrim r e beside none = absurd (let clash : true ≡ false = beside in cc)
first-apart (Construct k heard) r e beside none = absurd (let clash : true ≡ false = none in cc)
first-apart (No k heard) r e beside none = absurd (let clash : true ≡ false = none in cc)
first-apart Un r e beside none = absurd (let clash : true ≡ false = none in cc)

pub parting-apart : (g : GroupState Msg) (p : ℕ) (set places : List ℕ) (r : Replica) → is_primary r.state ≡ false → is_attempting r.state ≡ false → StaysApart r (take_parting g p set places (begin r)).replica
unfolding after_delivery
parting-apart g p set places r beside none =
    kept-places (StaysApart r) (home g p) (λ from m t is. message-apart r t.replica.state from m t refl is) places (on_transitional r.state (begin r)) (first-apart r.state r refl beside none)
