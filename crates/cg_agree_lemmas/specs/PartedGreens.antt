-- What becomes green where a replica parts from its configuration: nothing, or all that its attempt installs.
use Rattle.std.proofs.Common.{◌≡◌, ℕ, suc, Bool, true, false, cond, not, ◌&&◌, List, [], ◌∷◌, ◌++◌, Option, Some, None, refl, sym, ap, ◌∙◌, subst, nat_lt}
use Rattle.std.specs.Prelude.{◌==◌, nat_le}
use Rattle.std.specs.Option.{option_map_or}
use Rattle.std.proofs.lemmas.Bool.{cond_both}
use Rattle.std.proofs.lemmas.List.Sums.{fold-append}
use Rattle.cg_base.specs.declared.action_id.ActionId.{ActionId}
use Rattle.cg_base.specs.declared.weighted.Weighted.{Weighted}
use Rattle.cg_base.specs.Cuts.{index_in}
use Rattle.cg_base.specs.Ids.{has_name}
use Rattle.cg_base.specs.Lists.{at_place}
use Rattle.cg_base.specs.Sets.{with_member, is_within}
use Rattle.cg_action.specs.declared.action.Action.{Action}
use Rattle.cg_queue.specs.Queue.{QueueView, Marking, Marks, Gaps, marked_red, marked_yellow, and_yellow, placed_red}
use Rattle.cg_queue.specs.declared.mark.Mark.TheVariants.{Placed, Known}
use Rattle.cg_wire.specs.declared.message.Msg.{Msg}
use Rattle.cg_wire.specs.declared.message.Msg.TheVariants.{Action as ActionMsg, State as StateMsg, GreenItem, RedItem, Cpc}
use Rattle.cg_group.specs.declared.delivery.Delivery.TheVariants.{Message}
use Rattle.cg_group.specs.State.{GroupState, Configuration, Sent, home}
use Rattle.cg_group.specs.Events.{delivery_at, deliveries_at}
use Rattle.cg_client.specs.Replica.{Held, State, RegPrim, TransPrim, ExchangeStates, ExchangeActions, Construct, No, Un, NonPrim, Left, Replica}
use Rattle.cg_client.specs.Turn.{Turn, begin, go_to}
use Rattle.cg_client.specs.Marks.{is_unmade, marked, mark_red, mark_yellow}
use Rattle.cg_client.specs.Install.{install}
use Rattle.cg_states.specs.Construct.{attempt_set, is_announced}
use Rattle.cg_states.specs.No.{no_with}
use Rattle.cg_states.specs.ReplicaStep.{on_message, on_transitional, after_delivery}
use Rattle.cg_model.specs.FactsReplica.{is_attempting}
use Rattle.cg_model.specs.Small.{take_all, take_parting}
use Rattle.cg_agree_lemmas.specs.HeldAll.{installed_by, install-all}
use Rattle.cg_agree_lemmas.specs.HeldMarks.{IsOneself}
use Rattle.cg_agree_lemmas.specs.TurnValues.{even-mark_red, even-mark_yellow}
use Rattle.cg_agree_lemmas.specs.Looking.{is_waiting}

-- ---- marks that make nothing green

-- what a mark leaves of the greens
abbrev LeavesGreens : List Action → Marking → Type 0
LeavesGreens greens (Marks mark q) = q.greens ≡ greens
LeavesGreens greens (Gaps cut) = Unit {0}

marked-greens : (t : Turn) (a : Action) (m : Marking) → LeavesGreens t.replica.held.queue.greens m → (marked t a m).replica.held.queue.greens ≡ t.replica.held.queue.greens
marked-greens t a (Marks Placed q) is = is
marked-greens t a (Marks Known q) is = is
marked-greens t a (Gaps cut) is = refl

leaves-red : (q : QueueView) (a : Action) → LeavesGreens q.greens (marked_red q a)
leaves-red q a =
    let cut = index_in q.red_cut a.id.creator in
    cond_both (nat_le a.id.index cut) (Marks Known q) (cond (a.id.index == suc cut) (Marks Placed (placed_red q a)) (Gaps cut)) (LeavesGreens q.greens) (λ y. refl)
    (λ n. cond_both (a.id.index == suc cut) (Marks Placed (placed_red q a)) (Gaps cut) (LeavesGreens q.greens) (λ y. refl) (λ n. tt))

leaves-yellow : (greens : List Action) (id : ActionId) (m : Marking) → LeavesGreens greens m → LeavesGreens greens (and_yellow id m)
leaves-yellow greens id (Marks mark q) is =
    cond_both (nat_lt (index_in q.green_cut id.creator) id.index && not (has_name q.yellow id)) (record q { yellow = q.yellow ++ id ∷ [] }) q (λ (x : QueueView). x.greens ≡ greens) (λ y. is) (λ n. is)
leaves-yellow greens id (Gaps cut) is = tt

red-greens : (t : Turn) (a : Action) → (mark_red t a).replica.held.queue.greens ≡ t.replica.held.queue.greens
unfolding mark_red
red-greens t a =
    let q = t.replica.held.queue in
    cond_both (is_unmade t.replica.held a) t (marked t a (marked_red q a)) (λ u. u.replica.held.queue.greens ≡ q.greens) (λ y. refl) (λ n. marked-greens t a (marked_red q a) (leaves-red q a))

yellow-greens : (t : Turn) (a : Action) → (mark_yellow t a).replica.held.queue.greens ≡ t.replica.held.queue.greens
unfolding mark_yellow
yellow-greens t a =
    let q = t.replica.held.queue in
    cond_both (is_unmade t.replica.held a) t (marked t a (marked_yellow q a)) (λ u. u.replica.held.queue.greens ≡ q.greens) (λ y. refl)
    (λ n. marked-greens t a (marked_yellow q a) (leaves-yellow q.greens a.id (marked_red q a) (leaves-red q a)))

-- ---- states behind a parting

-- nothing becomes green in the first, and the others may still install
abbrev pub is_resting : State → Bool
is_resting TransPrim = true
is_resting (NonPrim regular) = true
is_resting Left = true
is_resting _ = false

record Rests (t u : Turn) : Type 0 where
  pub greens : u.replica.held.queue.greens ≡ t.replica.held.queue.greens
  pub resting : is_resting u.replica.state ≡ true

rest-message : (state : State) (from : ℕ) (m : Msg) (t : Turn) → t.replica.state ≡ state → is_resting state ≡ true → Rests t (on_message state from m t)
unfolding on_message
rest-message TransPrim from (ActionMsg a) t is rests = record { greens = yellow-greens t a; resting = ap is_resting ((even-mark_yellow t a).state ∙ is) }
rest-message TransPrim from (StateMsg s) t is rests = record { greens = refl; resting = ap is_resting is }
rest-message TransPrim from (GreenItem at a) t is rests = record { greens = refl; resting = ap is_resting is }
rest-message TransPrim from (RedItem a) t is rests = record { greens = refl; resting = ap is_resting is }
rest-message TransPrim from (Cpc id k) t is rests = record { greens = refl; resting = ap is_resting is }
rest-message (NonPrim regular) from (ActionMsg a) t is rests = record { greens = red-greens t a; resting = ap is_resting ((even-mark_red t a).state ∙ is) }
rest-message (NonPrim regular) from (StateMsg s) t is rests = record { greens = refl; resting = ap is_resting is }
rest-message (NonPrim regular) from (GreenItem at a) t is rests = record { greens = refl; resting = ap is_resting is }
rest-message (NonPrim regular) from (RedItem a) t is rests = record { greens = refl; resting = ap is_resting is }
rest-message (NonPrim regular) from (Cpc id k) t is rests = record { greens = refl; resting = ap is_resting is }
rest-message Left from (ActionMsg a) t is rests = record { greens = refl; resting = ap is_resting is }
rest-message Left from (StateMsg s) t is rests = record { greens = refl; resting = ap is_resting is }
rest-message Left from (GreenItem at a) t is rests = record { greens = refl; resting = ap is_resting is }
rest-message Left from (RedItem a) t is rests = record { greens = refl; resting = ap is_resting is }
rest-message Left from (Cpc id k) t is rests = record { greens = refl; resting = ap is_resting is }
rest-message RegPrim from m t is rests = absurd (let clash : false ≡ true = rests in cc)
rest-message (ExchangeStates conf set heard) from m t is rests = absurd (let clash : false ≡ true = rests in cc)
rest-message (ExchangeActions conf heard accepted) from m t is rests = absurd (let clash : false ≡ true = rests in cc)
rest-message (Construct conf heard) from m t is rests = absurd (let clash : false ≡ true = rests in cc)
rest-message (No conf heard) from m t is rests = absurd (let clash : false ≡ true = rests in cc)
rest-message Un from m t is rests = absurd (let clash : false ≡ true = rests in cc)

-- ---- what a parting has come to

-- nothing became green; or nothing at all has changed, and the attempt may still be installed; or it is installed
pub data PartedGreens (r u : Replica) : Type 0 where
  NoneGreen : (greens : u.held.queue.greens ≡ r.held.queue.greens) (resting : is_resting u.state ≡ true) → PartedGreens r u
  Waiting : (held : u.held ≡ r.held) (waiting : is_waiting u.state ≡ true) (was : is_attempting r.state ≡ true) → PartedGreens r u
  AllGreen : (greens : u.held.queue.greens ≡ r.held.queue.greens ++ installed_by r.held) (was : is_attempting r.state ≡ true) (resting : is_resting u.state ≡ true) → PartedGreens r u

pub parted-first : (state : State) (r : Replica) → r.state ≡ state → PartedGreens r (on_transitional state (begin r)).replica
unfolding on_transitional
parted-first RegPrim r is = NoneGreen refl refl
parted-first (ExchangeStates conf set heard) r is = NoneGreen refl refl
parted-first (ExchangeActions conf heard accepted) r is = NoneGreen refl refl
parted-first (Construct conf heard) r is = Waiting refl refl (ap is_attempting is)
parted-first (NonPrim regular) r is = NoneGreen refl refl
parted-first TransPrim r is = NoneGreen refl (ap is_resting is)
parted-first (No conf heard) r is = Waiting refl (ap is_waiting is) (ap is_attempting is)
parted-first Un r is = Waiting refl (ap is_waiting is) (ap is_attempting is)
parted-first Left r is = NoneGreen refl (ap is_resting is)

module _ (start : List Weighted) (all : List Action) (r : Replica) (own : IsOneself start r.held all) where
  installed-greens : (t : Turn) → IsOneself start t.replica.held all → (install t).replica.held.queue.greens ≡ t.replica.held.queue.greens ++ installed_by t.replica.held
  unfolding install
  installed-greens t is = (install-all start all t is).kept

  late : (t : Turn) (a : Action) → t.replica.held ≡ r.held → is_attempting r.state ≡ true → PartedGreens r (go_to (mark_yellow (install t) a) TransPrim).replica
  late t a held was =
      AllGreen (yellow-greens (install t) a ∙ installed-greens t (subst (λ (h : Held). IsOneself start h all) (sym held) own) ∙ ap (λ (h : Held). h.queue.greens ++ installed_by h) held) was refl

  wait-message : (state : State) (from : ℕ) (m : Msg) (t : Turn) → t.replica.state ≡ state → t.replica.held ≡ r.held → is_attempting r.state ≡ true → is_waiting state ≡ true → PartedGreens r (on_message state from m t).replica
  unfolding on_message
  wait-message (No conf heard) from (Cpc id k) t is held was waits =
      let all' = with_member heard from in
      cond_both (is_announced t.replica.held conf from id k) (no_with t conf all') t (λ u. PartedGreens r u.replica)
      (λ y. cond_both (is_within (attempt_set t.replica.held) all') (go_to t Un) (go_to t (No conf all')) (λ u. PartedGreens r u.replica) (λ y. Waiting held refl was) (λ n. Waiting held refl was))
      (λ n. Waiting held (ap is_waiting is) was)
  wait-message (No conf heard) from (ActionMsg a) t is held was waits = Waiting held (ap is_waiting is) was
  wait-message (No conf heard) from (StateMsg s) t is held was waits = Waiting held (ap is_waiting is) was
  wait-message (No conf heard) from (GreenItem at a) t is held was waits = Waiting held (ap is_waiting is) was
  wait-message (No conf heard) from (RedItem a) t is held was waits = Waiting held (ap is_waiting is) was
  wait-message Un from (ActionMsg a) t is held was waits = late t a held was
  wait-message Un from (StateMsg s) t is held was waits = Waiting held (ap is_waiting is) was
  wait-message Un from (GreenItem at a) t is held was waits = Waiting held (ap is_waiting is) was
  wait-message Un from (RedItem a) t is held was waits = Waiting held (ap is_waiting is) was
  wait-message Un from (Cpc id k) t is held was waits = Waiting held (ap is_waiting is) was
  wait-message RegPrim from m t is held was waits = absurd (let clash : false ≡ true = waits in cc)
  wait-message TransPrim from m t is held was waits = absurd (let clash : false ≡ true = waits in cc)
  wait-message (ExchangeStates conf set heard) from m t is held was waits = absurd (let clash : false ≡ true = waits in cc)
  wait-message (ExchangeActions conf heard accepted) from m t is held was waits = absurd (let clash : false ≡ true = waits in cc)
  wait-message (Construct conf heard) from m t is held was waits = absurd (let clash : false ≡ true = waits in cc)
  wait-message (NonPrim regular) from m t is held was waits = absurd (let clash : false ≡ true = waits in cc)
  wait-message Left from m t is held was waits = absurd (let clash : false ≡ true = waits in cc)

  part-message : (from : ℕ) (m : Msg) (t : Turn) → PartedGreens r t.replica → PartedGreens r (on_message t.replica.state from m t).replica
  part-message from m t (NoneGreen greens resting) = let next = rest-message t.replica.state from m t refl resting in NoneGreen (next.greens ∙ greens) next.resting
  part-message from m t (Waiting held waiting was) = wait-message t.replica.state from m t refl held was waiting
  part-message from m t (AllGreen greens was resting) = let next = rest-message t.replica.state from m t refl resting in AllGreen (next.greens ∙ greens) was next.resting

  part-place : (conf : Configuration Msg) (place : ℕ) (t : Turn) → PartedGreens r t.replica → PartedGreens r (take_all (delivery_at conf place) t).replica
  unfolding delivery_at after_delivery
  part-place conf place t so = at (at_place conf.ordered place) where
    at : (o : Option (Sent Msg)) → PartedGreens r (take_all (option_map_or (λ s. Message place s.from s.message ∷ []) o []) t).replica
    at None = so
    at (Some s) = part-message s.from s.message t so

  part-places : (conf : Configuration Msg) (places : List ℕ) (t : Turn) → PartedGreens r t.replica → PartedGreens r (take_all (deliveries_at conf places) t).replica
  part-places conf [] t so = so
  part-places conf (place ∷ places) t so =
      subst (λ (u : Turn). PartedGreens r u.replica) (sym (fold-append after_delivery t (delivery_at conf place) (deliveries_at conf places)))
      (part-places conf places (take_all (delivery_at conf place) t) (part-place conf place t so))

  -- What becomes green in a parting.
  pub parting-greens : (g : GroupState Msg) (p : ℕ) (set places : List ℕ) → PartedGreens r (take_parting g p set places (begin r)).replica
  unfolding after_delivery
  parting-greens g p set places = part-places (home g p) places (on_transitional r.state (begin r)) (parted-first r.state r refl)
