-- What an installation makes green, by the last announcement or in a parting: all that the replica had as valid yellow, and then the
-- other reds.
use Rattle.std.proofs.Common.{◌≡◌, ℕ, true, false, cond, not, List, [], ◌∷◌, ◌++◌, Option, Some, None, drop, length, nat_le, nat_lt, refl, sym, ap, ◌∙◌, subst}
use Rattle.std.specs.Prelude.{◌==◌, ◌&&◌, suc}
use Rattle.std.specs.Option.{option_map_or}
use Rattle.std.proofs.lemmas.Bool.{cond_both}
use Rattle.std.proofs.lemmas.List.Sums.{fold-append}
use Rattle.cg_base.specs.declared.weighted.Weighted.{Weighted}
use Rattle.cg_base.specs.Cuts.{index_in}
use Rattle.cg_base.specs.Ids.{has_name}
use Rattle.cg_base.specs.Lists.{at_place}
use Rattle.cg_base.specs.Sets.{is_within, with_member}
use Rattle.cg_action.specs.declared.action.Action.{Action}
use Rattle.cg_queue.specs.Queue.{QueueView, Marks, Gaps, and_yellow, with_yellow, marked_yellow, placed_red}
use Rattle.cg_queue.specs.declared.mark.Mark.TheVariants.{Placed, Known}
use Rattle.cg_wire.specs.declared.message.Msg.{Msg}
use Rattle.cg_wire.specs.declared.message.Msg.TheVariants.{Action as ActionMsg, State as StateMsg, GreenItem, RedItem, Cpc}
use Rattle.cg_group.specs.State.{GroupState, Configuration, Sent, home}
use Rattle.cg_group.specs.declared.delivery.Delivery.TheVariants.{Message}
use Rattle.cg_group.specs.Events.{delivery_at, deliveries_at}
use Rattle.cg_client.specs.Replica.{Held, State, RegPrim, TransPrim, ExchangeStates, ExchangeActions, Construct, No, Un, NonPrim, Left, Replica}
use Rattle.cg_client.specs.Turn.{Turn, begin, go_to}
use Rattle.cg_client.specs.Marks.{is_unmade, marked, mark_yellow}
use Rattle.cg_client.specs.Install.{install}
use Rattle.cg_states.specs.Construct.{attempt_set, is_announced, construct_with}
use Rattle.cg_states.specs.No.{no_with}
use Rattle.cg_states.specs.ReplicaStep.{on_message, on_transitional, after_delivery}
use Rattle.cg_model.specs.FactsReplica.{is_primary}
use Rattle.cg_model.specs.Small.{newly_green, take_all, take_parting}
use Rattle.cg_agree_lemmas.specs.HeldMarks.{IsOneself}
use Rattle.cg_agree_lemmas.specs.HeldAll.{installed_by}
use Rattle.cg_agree_lemmas.specs.HeldMessages.{installed-all}
use Rattle.cg_agree_lemmas.specs.TurnValues.{even-mark_yellow}
use Rattle.cg_agree_lemmas.specs.ActsWay.{drop-behind}
use Rattle.cg_agree_lemmas.specs.Looking.{is_waiting}

-- a yellow mark leaves the greens
pub yellow-greens : (t : Turn) (a : Action) → (mark_yellow t a).replica.held.queue.greens ≡ t.replica.held.queue.greens
unfolding mark_yellow
yellow-greens t a =
    let q = t.replica.held.queue in
    let cut = index_in q.red_cut a.id.creator in
    cond_both (is_unmade t.replica.held a) t (marked t a (marked_yellow q a)) (λ u. u.replica.held.queue.greens ≡ q.greens) (λ y. refl)
    (λ n. cond_both (nat_le a.id.index cut) (Marks Known q) (cond (a.id.index == suc cut) (Marks Placed (placed_red q a)) (Gaps cut)) (λ m. (marked t a (and_yellow a.id m)).replica.held.queue.greens ≡ q.greens)
    (λ y. named q)
    (λ z. cond_both (a.id.index == suc cut) (Marks Placed (placed_red q a)) (Gaps cut) (λ m. (marked t a (and_yellow a.id m)).replica.held.queue.greens ≡ q.greens) (λ y. named (placed_red q a)) (λ w. refl))) where
      named : (q : QueueView) → (with_yellow q a.id).greens ≡ q.greens
      named q =
          cond_both (nat_lt (index_in q.green_cut a.id.creator) a.id.index && not (has_name q.yellow a.id)) (record q { yellow = q.yellow ++ a.id ∷ [] }) q (λ (x : QueueView). x.greens ≡ q.greens) (λ y. refl) (λ n. refl)

-- the replica has these greens more
abbrev pub HasInstalledAll : Replica → Replica → Type 0
HasInstalledAll r new = new.held.queue.greens ≡ r.held.queue.greens ++ installed_by r.held

pub newly-installed : (r new : Replica) → HasInstalledAll r new → newly_green r new ≡ installed_by r.held
newly-installed r new is = ap (drop (length r.held.queue.greens)) is ∙ drop-behind r.held.queue.greens (installed_by r.held)

-- ---- by the last announcement

pub record ByAnnouncement (r new : Replica) (m : Msg) : Type 0 where
  pub greens : HasInstalledAll r new
  pub state : new.state ≡ RegPrim
  pub none : (a : Action) → m ≡ ActionMsg a → ⊥

pub by-announcement : (start : List Weighted) (all : List Action) (r : Replica) → IsOneself start r.held all → (conf : ℕ) (heard : List ℕ) → r.state ≡ Construct conf heard → (from : ℕ) (m : Msg) →
    is_primary (on_message (Construct conf heard) from m (begin r)).replica.state ≡ true → ByAnnouncement r (on_message (Construct conf heard) from m (begin r)).replica m
unfolding on_message
by-announcement start all r is conf heard at from (StateMsg s) primary = absurd (let clash : false ≡ true = sym (ap is_primary at) ∙ primary in cc)
by-announcement start all r is conf heard at from (GreenItem place a) primary = absurd (let clash : false ≡ true = sym (ap is_primary at) ∙ primary in cc)
by-announcement start all r is conf heard at from (RedItem a) primary = absurd (let clash : false ≡ true = sym (ap is_primary at) ∙ primary in cc)
by-announcement start all r is conf heard at from (ActionMsg a) primary = absurd (let clash : false ≡ true = sym (ap is_primary at) ∙ primary in cc)
by-announcement start all r is conf heard at from (Cpc id of_conf) primary = cond_both (is_announced r.held conf from id of_conf) (construct_with (begin r) conf more) (begin r)
    (λ u. is_primary u.replica.state ≡ true → ByAnnouncement r u.replica (Cpc id of_conf))
    (λ y. cond_both (is_within (attempt_set r.held) more) (go_to (install (begin r)) RegPrim) (go_to (begin r) (Construct conf more)) (λ u. is_primary u.replica.state ≡ true → ByAnnouncement r u.replica (Cpc id of_conf))
    (λ z p. record { greens = (installed-all start all (begin r) is).kept; state = refl; none = λ a e. (let clash : Cpc id of_conf ≡ ActionMsg a = e in cc) })
    (λ z p. absurd (let clash : false ≡ true = p in cc)))
    (λ n p. absurd (let clash : false ≡ true = sym (ap is_primary at) ∙ p in cc)) primary where
      more : List ℕ
      more = with_member heard from

-- ---- in a parting

-- the replica waits with what it held, or has installed its attempt
data Parting (r u : Replica) : Type 0 where
  Waits : (waiting : is_waiting u.state ≡ true) (held : u.held ≡ r.held) → Parting r u
  Done : (state : u.state ≡ TransPrim) (greens : HasInstalledAll r u) → Parting r u

module _ (start : List Weighted) (all : List Action) (r : Replica) (is : IsOneself start r.held all) where
  waits-message : (state : State) (from : ℕ) (m : Msg) (t : Turn) → t.replica.state ≡ state → is_waiting state ≡ true → t.replica.held ≡ r.held → Parting r (on_message state from m t).replica
  unfolding on_message
  waits-message (No conf heard) from (Cpc id of_conf) t at waiting held =
      cond_both (is_announced t.replica.held conf from id of_conf) (no_with t conf more) t (λ u. Parting r u.replica)
      (λ y. cond_both (is_within (attempt_set t.replica.held) more) (go_to t Un) (go_to t (No conf more)) (λ u. Parting r u.replica) (λ z. Waits refl held) (λ z. Waits refl held))
      (λ n. Waits (ap is_waiting at) held) where
        more : List ℕ
        more = with_member heard from
  waits-message (No conf heard) from (ActionMsg a) t at waiting held = Waits (ap is_waiting at) held
  waits-message (No conf heard) from (StateMsg s) t at waiting held = Waits (ap is_waiting at) held
  waits-message (No conf heard) from (GreenItem place a) t at waiting held = Waits (ap is_waiting at) held
  waits-message (No conf heard) from (RedItem a) t at waiting held = Waits (ap is_waiting at) held
  waits-message Un from (ActionMsg a) t at waiting held =
      let one = subst (λ (h : Held). IsOneself start h all) (sym held) is in
      Done refl (yellow-greens (install t) a ∙ (installed-all start all t one).kept ∙ ap (λ (h : Held). h.queue.greens ++ installed_by h) held)
  waits-message Un from (StateMsg s) t at waiting held = Waits (ap is_waiting at) held
  waits-message Un from (GreenItem place a) t at waiting held = Waits (ap is_waiting at) held
  waits-message Un from (RedItem a) t at waiting held = Waits (ap is_waiting at) held
  waits-message Un from (Cpc id of_conf) t at waiting held = Waits (ap is_waiting at) held
  waits-message RegPrim from m t at waiting held = absurd (let clash : false ≡ true = waiting in cc)
  waits-message TransPrim from m t at waiting held = absurd (let clash : false ≡ true = waiting in cc)
  waits-message (ExchangeStates conf set heard) from m t at waiting held = absurd (let clash : false ≡ true = waiting in cc)
  waits-message (ExchangeActions conf heard accepted) from m t at waiting held = absurd (let clash : false ≡ true = waiting in cc)
  waits-message (Construct conf heard) from m t at waiting held = absurd (let clash : false ≡ true = waiting in cc)
  waits-message (NonPrim regular) from m t at waiting held = absurd (let clash : false ≡ true = waiting in cc)
  waits-message Left from m t at waiting held = absurd (let clash : false ≡ true = waiting in cc)

  done-message : (from : ℕ) (m : Msg) (t : Turn) → t.replica.state ≡ TransPrim → HasInstalledAll r t.replica → Parting r (on_message TransPrim from m t).replica
  unfolding on_message
  done-message from (ActionMsg a) t at greens = Done ((even-mark_yellow t a).state ∙ at) (yellow-greens t a ∙ greens)
  done-message from (StateMsg s) t at greens = Done at greens
  done-message from (GreenItem place a) t at greens = Done at greens
  done-message from (RedItem a) t at greens = Done at greens
  done-message from (Cpc id of_conf) t at greens = Done at greens

  parting-message : (from : ℕ) (m : Msg) (t : Turn) → Parting r t.replica → Parting r (on_message t.replica.state from m t).replica
  parting-message from m t (Waits waiting held) = waits-message t.replica.state from m t refl waiting held
  parting-message from m t (Done state greens) = subst (λ (s : State). Parting r (on_message s from m t).replica) (sym state) (done-message from m t state greens)

  parting-place : (conf : Configuration Msg) (place : ℕ) (t : Turn) → Parting r t.replica → Parting r (take_all (delivery_at conf place) t).replica
  unfolding delivery_at after_delivery
  parting-place conf place t so = at (at_place conf.ordered place) where
    at : (o : Option (Sent Msg)) → Parting r (take_all (option_map_or (λ s. Message place s.from s.message ∷ []) o []) t).replica
    at None = so
    at (Some s) = parting-message s.from s.message t so

  parting-places : (conf : Configuration Msg) (places : List ℕ) (t : Turn) → Parting r t.replica → Parting r (take_all (deliveries_at conf places) t).replica
  parting-places conf [] t so = so
  parting-places conf (place ∷ places) t so =
      subst (λ (u : Turn). Parting r u.replica) (sym (fold-append after_delivery t (delivery_at conf place) (deliveries_at conf places)))
      (parting-places conf places (take_all (delivery_at conf place) t) (parting-place conf place t so))

  begins-parting : (conf : ℕ) (heard : List ℕ) → r.state ≡ Construct conf heard → Parting r (on_transitional r.state (begin r)).replica
  unfolding on_transitional
  begins-parting conf heard at = subst (λ (s : State). Parting r (on_transitional s (begin r)).replica) (sym at) (Waits refl refl)

  -- a member that was waiting for announcements, and is one of a primary component behind its parting
  pub in-parting : (g : GroupState Msg) (p : ℕ) (set places : List ℕ) (conf : ℕ) (heard : List ℕ) → r.state ≡ Construct conf heard → is_primary (take_parting g p set places (begin r)).replica.state ≡ true →
      HasInstalledAll r (take_parting g p set places (begin r)).replica × ((take_parting g p set places (begin r)).replica.state ≡ TransPrim)
  unfolding after_delivery
  in-parting g p set places conf heard at primary = by (parting-places (home g p) places (on_transitional r.state (begin r)) (begins-parting conf heard at)) where
    u : Replica
    u = (take_all (deliveries_at (home g p) places) (on_transitional r.state (begin r))).replica

    never : (s : State) → is_waiting s ≡ true → is_primary s ≡ true → ⊥
    never RegPrim a b = let clash : false ≡ true = a in cc
    never TransPrim a b = let clash : false ≡ true = a in cc
    never (ExchangeStates conf set heard) a b = let clash : false ≡ true = a in cc
    never (ExchangeActions conf heard accepted) a b = let clash : false ≡ true = a in cc
    never (Construct conf heard) a b = let clash : false ≡ true = a in cc
    never (No conf heard) a b = let clash : false ≡ true = b in cc
    never Un a b = let clash : false ≡ true = b in cc
    never (NonPrim regular) a b = let clash : false ≡ true = a in cc
    never Left a b = let clash : false ≡ true = a in cc

    by : Parting r u → HasInstalledAll r u × (u.state ≡ TransPrim)
    by (Waits waiting held) = absurd (never u.state waiting primary)
    by (Done state greens) = (greens, state)
