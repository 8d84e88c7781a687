-- A replica whose attempt is cut short by a parting: it stays in No only where it lacks an announcement, and goes on otherwise.
use Rattle.std.proofs.Common.{◌≡◌, ℕ, Bool, true, false, ◌&&◌, ◌⊎◌, inl, inr, List, [], ◌∷◌, Option, Some, None, fold, refl, sym, ap, subst, ◌∙◌, ⊎_elim, eqb-true, eq-eqb}
use Rattle.std.specs.Prelude.{◌==◌}
use Rattle.std.specs.Option.{option_map_or}
use Rattle.std.proofs.lemmas.Bool.{cases_Bool, cond-true, cond-false, cond_both, or_left, or_right, or_cases}
use Rattle.std.proofs.lemmas.List.Sums.{fold-append}
use Rattle.cg_base.specs.Lists.{at_place}
use Rattle.cg_base.specs.Sets.{has, is_within, with_member}
use Rattle.cg_base.specs.SetLaws.{has-with_member}
use Rattle.cg_action.specs.declared.action.Action.{Action}
use Rattle.cg_queue.specs.Queue.{Marking, Marks, Gaps, marked_yellow, marked_red}
use Rattle.cg_queue.specs.declared.mark.Mark.TheVariants.{Placed, Known}
use Rattle.cg_wire.specs.declared.message.Msg.{Msg}
use Rattle.cg_wire.specs.declared.message.Msg.TheVariants.{Action as ActionMsg, State as StateMsg, GreenItem, RedItem, Cpc}
use Rattle.cg_group.specs.declared.delivery.Delivery.TheVariants.{Message}
use Rattle.cg_group.specs.State.{Sent, Configuration}
use Rattle.cg_group.specs.Events.{delivery_at, deliveries_at}
use Rattle.cg_client.specs.Replica.{State, RegPrim, TransPrim, ExchangeStates, ExchangeActions, Construct, No, Un, NonPrim, Left, Replica}
use Rattle.cg_client.specs.Turn.{Turn, go_to}
use Rattle.cg_client.specs.Marks.{is_unmade, marked, mark_red, mark_yellow}
use Rattle.cg_states.specs.Construct.{attempt_set, is_announced}
use Rattle.cg_states.specs.No.{no_with, no_on_cpc}
use Rattle.cg_states.specs.ReplicaStep.{on_message, after_delivery}

-- ---- states that messages of a parting don't change

pub state-marked : (t : Turn) (a : Action) (m : Marking) → (marked t a m).replica.state ≡ t.replica.state
state-marked t a (Marks Placed q) = refl
state-marked t a (Marks Known q) = refl
state-marked t a (Gaps cut) = refl

state-red : (t : Turn) (a : Action) → (mark_red t a).replica.state ≡ t.replica.state
unfolding mark_red
state-red t a = cond_both (is_unmade t.replica.held a) t (marked t a (marked_red t.replica.held.queue a)) (λ u. u.replica.state ≡ t.replica.state) (λ y. refl) (λ n. state-marked t a (marked_red t.replica.held.queue a))

pub state-yellow : (t : Turn) (a : Action) → (mark_yellow t a).replica.state ≡ t.replica.state
unfolding mark_yellow
state-yellow t a = cond_both (is_unmade t.replica.held a) t (marked t a (marked_yellow t.replica.held.queue a)) (λ u. u.replica.state ≡ t.replica.state) (λ y. refl) (λ n. state-marked t a (marked_yellow t.replica.held.queue a))

pub alone-kept : (from : ℕ) (m : Msg) (t : Turn) → t.replica.state ≡ NonPrim false → (on_message (NonPrim false) from m t).replica.state ≡ NonPrim false
unfolding on_message
alone-kept from (ActionMsg a) t e = state-red t a ∙ e
alone-kept from (StateMsg s) t e = e
alone-kept from (GreenItem at a) t e = e
alone-kept from (RedItem a) t e = e
alone-kept from (Cpc i k) t e = e

pub left-kept : (from : ℕ) (m : Msg) (t : Turn) → t.replica.state ≡ Left → (on_message Left from m t).replica.state ≡ Left
unfolding on_message
left-kept from (ActionMsg a) t e = e
left-kept from (StateMsg s) t e = e
left-kept from (GreenItem at a) t e = e
left-kept from (RedItem a) t e = e
left-kept from (Cpc i k) t e = e

-- past the announcements: in Un or in TransPrim
abbrev pub is_past : State → Bool
is_past Un = true
is_past TransPrim = true
is_past _ = false

pub past-kept : (state : State) → is_past state ≡ true → (from : ℕ) (m : Msg) (t : Turn) → t.replica.state ≡ state → is_past (on_message state from m t).replica.state ≡ true
unfolding on_message
past-kept Un past from (ActionMsg a) t e = refl
past-kept Un past from (StateMsg s) t e = ap is_past e
past-kept Un past from (GreenItem at a) t e = ap is_past e
past-kept Un past from (RedItem a) t e = ap is_past e
past-kept Un past from (Cpc i k) t e = ap is_past e
past-kept TransPrim past from (ActionMsg a) t e = ap is_past (state-yellow t a ∙ e)
past-kept TransPrim past from (StateMsg s) t e = ap is_past e
past-kept TransPrim past from (GreenItem at a) t e = ap is_past e
past-kept TransPrim past from (RedItem a) t e = ap is_past e
past-kept TransPrim past from (Cpc i k) t e = ap is_past e
past-kept RegPrim past from m t e = absurd (let clash : false ≡ true = past in cc)
past-kept (ExchangeStates at set heard) past from m t e = absurd (let clash : false ≡ true = past in cc)
past-kept (ExchangeActions at heard n) past from m t e = absurd (let clash : false ≡ true = past in cc)
past-kept (Construct at heard) past from m t e = absurd (let clash : false ≡ true = past in cc)
past-kept (No at heard) past from m t e = absurd (let clash : false ≡ true = past in cc)
past-kept (NonPrim regular) past from m t e = absurd (let clash : false ≡ true = past in cc)
past-kept Left past from m t e = absurd (let clash : false ≡ true = past in cc)

-- what every message keeps all messages of some places keep
module _ (P : Replica → Type 0) (C : Configuration Msg) (each : (from : ℕ) (m : Msg) (t : Turn) → P t.replica → P (on_message t.replica.state from m t).replica) where
  kept-place : (place : ℕ) (t : Turn) → P t.replica → P (fold after_delivery t (delivery_at C place)).replica
  unfolding delivery_at after_delivery
  kept-place place t is = at (at_place C.ordered place) where
    at : (o : Option (Sent Msg)) → P (fold after_delivery t (option_map_or (λ s. Message place s.from s.message ∷ []) o [])).replica
    at None = is
    at (Some s) = each s.from s.message t is

  pub kept-places : (places : List ℕ) (t : Turn) → P t.replica → P (fold after_delivery t (deliveries_at C places)).replica
  kept-places [] t is = is
  kept-places (place ∷ places) t is =
      subst (λ (u : Turn). P u.replica) (sym (fold-append after_delivery t (delivery_at C place) (deliveries_at C places)))
      (kept-places places (fold after_delivery t (delivery_at C place)) (kept-place place t is))

pub alone-places : (C : Configuration Msg) (places : List ℕ) (t : Turn) → t.replica.state ≡ NonPrim false → (fold after_delivery t (deliveries_at C places)).replica.state ≡ NonPrim false
alone-places C places t is = kept-places (λ r. r.state ≡ NonPrim false) C
    (λ from m t e. subst (λ x. (on_message x from m t).replica.state ≡ NonPrim false) (sym e) (alone-kept from m t e)) places t is

pub left-places : (C : Configuration Msg) (places : List ℕ) (t : Turn) → t.replica.state ≡ Left → (fold after_delivery t (deliveries_at C places)).replica.state ≡ Left
left-places C places t is = kept-places (λ r. r.state ≡ Left) C (λ from m t e. subst (λ x. (on_message x from m t).replica.state ≡ Left) (sym e) (left-kept from m t e)) places t is

pub past-places : (C : Configuration Msg) (places : List ℕ) (t : Turn) → is_past t.replica.state ≡ true → is_past (fold after_delivery t (deliveries_at C places)).replica.state ≡ true
past-places C places t is = kept-places (λ r. is_past r.state ≡ true) C (λ from m t e. past-kept t.replica.state e from m t refl) places t is

-- ---- No

-- an announcement at a place that counts for the attempt's members
pub record IsAnnouncement (conf : ℕ) (set : List ℕ) (s : Sent Msg) (q : ℕ) : Type 0 where
  pub id : ℕ
  pub at : ℕ
  pub is : s.message ≡ Cpc id at
  pub sender : s.from ≡ q
  pub own : id ≡ q
  pub here : at ≡ conf
  pub member : has set q ≡ true

-- the replica is past the announcements, or in No and has heard at least these, not all, with the same attempt
pub record Waits (conf : ℕ) (set heard : List ℕ) (r : Replica) : Type 0 where
  pub all : List ℕ
  pub state : r.state ≡ No conf all
  pub same : attempt_set r.held ≡ set
  pub more : (q : ℕ) → has heard q ≡ true → has all q ≡ true
  pub few : is_within set all ≡ false

abbrev pub PastOrWaits : ℕ → List ℕ → List ℕ → Replica → Type 0
PastOrWaits conf set heard r = (is_past r.state ≡ true) ⊎ Waits conf set heard r

-- one message in No
no-message : (conf : ℕ) (set heard all : List ℕ) (from : ℕ) (m : Msg) (t : Turn) → t.replica.state ≡ No conf all → attempt_set t.replica.held ≡ set → ((q : ℕ) → has heard q ≡ true → has all q ≡ true) → is_within set all ≡ false →
    PastOrWaits conf set heard (on_message (No conf all) from m t).replica
unfolding on_message
no-message conf set heard all from (ActionMsg a) t e same more few = inr (record { all = all; state = e; same = same; more = more; few = few })
no-message conf set heard all from (StateMsg s) t e same more few = inr (record { all = all; state = e; same = same; more = more; few = few })
no-message conf set heard all from (GreenItem at a) t e same more few = inr (record { all = all; state = e; same = same; more = more; few = few })
no-message conf set heard all from (RedItem a) t e same more few = inr (record { all = all; state = e; same = same; more = more; few = few })
no-message conf set heard all from (Cpc i k) t e same more few =
    let next = with_member all from in
    ⊎_elim
    (λ y. ⊎_elim
    (λ z. inl (ap (λ (u : Turn). is_past u.replica.state) (cond-true (is_announced t.replica.held conf from i k) (no_with t conf next) t y ∙ cond-true (is_within (attempt_set t.replica.held) next) (go_to t Un) (go_to t (No conf next)) z)))
    (λ z. inr (subst (λ (u : Turn). Waits conf set heard u.replica) (sym (cond-true (is_announced t.replica.held conf from i k) (no_with t conf next) t y ∙ cond-false (is_within (attempt_set t.replica.held) next) (go_to t Un) (go_to t (No conf next)) z))
    (record { all = next; state = refl; same = same; more = λ q h. has-with_member all from q ∙ or_left (has all q) (from == q) (more q h); few = ap (λ s. is_within s next) (sym same) ∙ z })))
    (cases_Bool (is_within (attempt_set t.replica.held) next)))
    (λ n. inr (subst (λ (u : Turn). Waits conf set heard u.replica) (sym (cond-false (is_announced t.replica.held conf from i k) (no_with t conf next) t n))
    (record { all = all; state = e; same = same; more = more; few = few })))
    (cases_Bool (is_announced t.replica.held conf from i k))

pub waits-message : (conf : ℕ) (set heard : List ℕ) (from : ℕ) (m : Msg) (t : Turn) → PastOrWaits conf set heard t.replica → PastOrWaits conf set heard (on_message t.replica.state from m t).replica
waits-message conf set heard from m t (inl past) = inl (past-kept t.replica.state past from m t refl)
waits-message conf set heard from m t (inr w) =
    subst (λ x. PastOrWaits conf set heard (on_message x from m t).replica) (sym w.state) (no-message conf set heard w.all from m t w.state w.same w.more w.few)

-- and with an announcement it has heard that too
pub announcement-heard : (conf : ℕ) (set heard : List ℕ) (s : Sent Msg) (q : ℕ) (t : Turn) → IsAnnouncement conf set s q → PastOrWaits conf set heard t.replica →
    PastOrWaits conf set (with_member heard q) (on_message t.replica.state s.from s.message t).replica
unfolding on_message
announcement-heard conf set heard s q t is (inl past) = inl (past-kept t.replica.state past s.from s.message t refl)
announcement-heard conf set heard s q t is (inr w) =
    let next = with_member w.all q in
    let turn : on_message t.replica.state s.from s.message t ≡ no_on_cpc t conf w.all q q conf =
    ap (λ x. on_message x s.from s.message t) w.state ∙ ap (λ m. on_message (No conf w.all) s.from m t) is.is ∙ named s.from is.id is.at is.sender is.own is.here in
    let counts : is_announced t.replica.held conf q q conf ≡ true = counted is.member w.same in
    let took : no_on_cpc t conf w.all q q conf ≡ no_with t conf next = cond-true (is_announced t.replica.held conf q q conf) (no_with t conf next) t counts in
    ⊎_elim
    (λ z. inl (ap (λ (u : Turn). is_past u.replica.state) (turn ∙ took ∙ cond-true (is_within (attempt_set t.replica.held) next) (go_to t Un) (go_to t (No conf next)) z)))
    (λ z. inr (subst (λ (u : Turn). Waits conf set (with_member heard q) u.replica) (sym (turn ∙ took ∙ cond-false (is_within (attempt_set t.replica.held) next) (go_to t Un) (go_to t (No conf next)) z))
    (record {
      all = next;
      state = refl;
      same = w.same;
      more = λ x h. has-with_member w.all q x ∙ ⊎_elim
          (λ was. or_left (has w.all x) (q == x) (w.more x was)) (λ now. or_right (has w.all x) (q == x) now) (or_cases (has heard x) (q == x) (sym (has-with_member heard q x) ∙ h));
      few = ap (λ s. is_within s next) (sym w.same) ∙ z;
    })))
    (cases_Bool (is_within (attempt_set t.replica.held) next)) where
      named : (from id at : ℕ) → from ≡ q → id ≡ q → at ≡ conf → no_on_cpc t conf w.all from id at ≡ no_on_cpc t conf w.all q q conf
      named from id at a b e = rw (a, b, e) refl

      counted : has set q ≡ true → attempt_set t.replica.held ≡ set → ((q == q) && (conf == conf) && has (attempt_set t.replica.held) q) ≡ true
      counted member same = rw (eq-eqb q q refl, eq-eqb conf conf refl, same, member) refl

-- ---- all places of a parting

-- at some of the places stands an announcement of that member
module _ (C : Configuration Msg) (conf : ℕ) (set : List ℕ) where
  place-waits : (heard : List ℕ) (place : ℕ) (t : Turn) → PastOrWaits conf set heard t.replica → PastOrWaits conf set heard (fold after_delivery t (delivery_at C place)).replica
  unfolding delivery_at after_delivery
  place-waits heard place t is = at (at_place C.ordered place) where
    at : (o : Option (Sent Msg)) → PastOrWaits conf set heard (fold after_delivery t (option_map_or (λ s. Message place s.from s.message ∷ []) o [])).replica
    at None = is
    at (Some s) = waits-message conf set heard s.from s.message t is

  place-heard : (heard : List ℕ) (place q : ℕ) (s : Sent Msg) (t : Turn) → at_place C.ordered place ≡ Some s → IsAnnouncement conf set s q → PastOrWaits conf set heard t.replica →
      PastOrWaits conf set (with_member heard q) (fold after_delivery t (delivery_at C place)).replica
  unfolding delivery_at after_delivery
  place-heard heard place q s t e is w =
      subst (λ (o : Option (Sent Msg)). PastOrWaits conf set (with_member heard q) (fold after_delivery t (option_map_or (λ s. Message place s.from s.message ∷ []) o [])).replica) (sym e)
      (announcement-heard conf set heard s q t is w)

  pub places-wait : (heard : List ℕ) (places : List ℕ) (t : Turn) → PastOrWaits conf set heard t.replica → PastOrWaits conf set heard (fold after_delivery t (deliveries_at C places)).replica
  places-wait heard [] t is = is
  places-wait heard (place ∷ places) t is =
      subst (λ (u : Turn). PastOrWaits conf set heard u.replica) (sym (fold-append after_delivery t (delivery_at C place) (deliveries_at C places)))
      (places-wait heard places (fold after_delivery t (delivery_at C place)) (place-waits heard place t is))

  pub places-heard : (heard : List ℕ) (places : List ℕ) (place q : ℕ) (s : Sent Msg) (t : Turn) → has places place ≡ true → at_place C.ordered place ≡ Some s → IsAnnouncement conf set s q →
      PastOrWaits conf set heard t.replica → PastOrWaits conf set (with_member heard q) (fold after_delivery t (deliveries_at C places)).replica
  places-heard heard [] place q s t there e is w = absurd (let clash : false ≡ true = there in cc)
  places-heard heard (x ∷ places) place q s t there e is w =
      subst (λ (u : Turn). PastOrWaits conf set (with_member heard q) u.replica) (sym (fold-append after_delivery t (delivery_at C x) (deliveries_at C places))) (⊎_elim
      (λ first. places-wait (with_member heard q) places (fold after_delivery t (delivery_at C x)) (place-heard heard x q s t (ap (at_place C.ordered) (eqb-true x place first) ∙ e) is w))
      (λ later. places-heard heard places place q s (fold after_delivery t (delivery_at C x)) later e is (place-waits heard x t w))
      (or_cases (x == place) (has places place) there))
