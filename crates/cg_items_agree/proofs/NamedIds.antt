-- Each replica that has begun in a run, and each that was named, has the number of a replica.
use Rattle.std.proofs.Common.{◌≡◌, ◌⊎◌, ℕ, zero, suc, ◌≤◌, Bool, true, false, ◌||◌, List, [], ◌∷◌, ◌++◌, fold, Option, Some, None, IfSome, is_none, is_some, refl, sym, ap, ◌∙◌, subst, inl, inr, arith, eqb-true}
use Rattle.std.specs.Prelude.{◌==◌, ◌+◌, min}
use Rattle.std.specs.Option.{option_map_or}
use Rattle.std.proofs.lemmas.Bool.{cases_Bool, cond_both, or_cases}
use Rattle.cg_base.specs.declared.weighted.Weighted.{Weighted}
use Rattle.cg_base.specs.Lists.{first_some}
use Rattle.cg_base.specs.Sets.{Ascends, IsId, has}
use Rattle.cg_base.specs.SetLaws.{has-with_member}
use Rattle.cg_base.specs.Weights.{ids}
use Rattle.cg_action.specs.declared.action.Kind.TheVariants.{Update, Join as JoinKind, Leave as LeaveKind}
use Rattle.cg_wire.specs.declared.message.Msg.{Msg}
use Rattle.cg_group.specs.declared.delivery.Handed.{Handed}
use Rattle.cg_group.specs.declared.reason.Reason.{Reason}
use Rattle.cg_group.specs.Events.{deliver, split, merge}
use Rattle.cg_group.specs.Refusals.{not_up}
use Rattle.cg_client.specs.Joined.{piece_count}
use Rattle.cg_client.specs.Replica.{Replica}
use Rattle.cg_client.specs.Turn.{Turn}
use Rattle.cg_disk_records.specs.Crash.{EventEnd, FailOnce, StopWith, Strike, Runs, Crashes, end_event, new_disk}
use Rattle.cg_states.specs.ReplicaStep.{Input, Asks, replica_step}
use Rattle.cg_schedule.specs.declared.event.Event.{Event}
use Rattle.cg_schedule.specs.declared.event.Event.TheVariants.{Start, Split, Merge, Request, Weak, Dirty, Order, Recover, RecoverStopped, Downgrade, Show, ShowOrder, Gather, End, Receive, Deliver, Rounds, Stop, Fail, Join, Leave, Transfer}
use Rattle.cg_model.specs.World.{NodeState, Up, Down, Node, TransferState, World, no_world, node_of, replica_of, has_begun, bring_up}
use Rattle.cg_model.specs.Admission.{first_refusal, unknown, has_left, takes_part, never_named, cannot_rise}
use Rattle.cg_model.specs.Show.{StepInProgress, ended}
use Rattle.cg_model.specs.Step.{arm, begin_replica, hand, hand_over, happens, joiner_replica, name_also, quietly, recover, snapshot_for, transfer, without_snapshot, world_step, downgrade}
use Rattle.cg_model.specs.AtNode.{after_event, arm_at, crash_at, hand_to, recover_from, take_pieces, with_pieces}
use Rattle.cg_model.specs.Run.{MayStand}
use Rattle.cg_model.specs.Looks.{disk_held}
use Rattle.cg_model.specs.Touched.{touched}
use Rattle.cg_agree_lemmas.specs.TouchedNodes.{happens-stays}
use Rattle.cg_agree_lemmas.specs.UnorderedKept.{first-none, refused-not}
use Rattle.cg_agree_lemmas.specs.DiskSwaps.{Swaps, downgrade-swaps, recover_under-cases}

pub record AreIds (w : World) : Type 0 where
  pub begun : (p : ℕ) → has_begun w p ≡ true → IsId p
  pub named : (p : ℕ) → has w.named p ≡ true → IsId p

-- ---- sets

in-set : (low : ℕ) (set : List ℕ) (q : ℕ) → 1 ≤ low → Ascends low set → has set q ≡ true → IsId q
in-set low [] q one up there = absurd (let clash : false ≡ true = there in cc)
in-set low (p ∷ set) q one up there = elim (or_cases (p == q) (has set q) there) [
  | inl here ↦
      let same = eqb-true p q here in
      let least = up.0 in
      let most = up.1 in
      (omega arith, omega arith)
  | inr later ↦ (let least = up.0 in in-set (suc p) set q (omega arith) up.2 later)
]

only : (p q : ℕ) → has (p ∷ []) q ≡ true → p ≡ q
only p q there = elim (or_cases (p == q) false there) [
  | inl here ↦ eqb-true p q here
  | inr none ↦ absurd (let clash : false ≡ true = none in cc)
]

-- ---- who is touched

module _ (w : World) (are : AreIds w) (q : ℕ) where
  known : (p : ℕ) (rest : List (Option Reason)) → is_none (first_some (unknown w p ∷ rest)) ≡ true →
      has (p ∷ []) q ≡ true → IsId q
  known p rest admitted there =
      let begun = refused-not (has_begun w p) _ (first-none (unknown w p) rest admitted).0 in
      are.begun q (ap (has_begun w) (sym (only p q there)) ∙ begun)

  taking : (p : ℕ) → takes_part w p ≡ None → has (p ∷ []) q ≡ true → IsId q
  taking p admitted there = known p (not_up w.group p ∷ has_left w p ∷ []) (ap is_none admitted) there

  nobody : has [] q ≡ true → IsId q
  nobody there = absurd (let clash : false ≡ true = there in cc)

  touched-id : (e : Event) → MayStand w e → first_refusal w e ≡ None → has (touched e) q ≡ true → IsId q
  unfolding first_refusal touched
  touched-id (Start set) may admitted there = in-set 1 (ids set) q (omega arith) may.1.ascends there
  touched-id (Split set) may admitted there = in-set 1 set q (omega arith) may.1.ascends there
  touched-id (Merge set) may admitted there = in-set 1 set q (omega arith) may.1.ascends there
  touched-id (Request p cmds query) may admitted there = taking p admitted there
  touched-id (Weak p query) may admitted there = nobody there
  touched-id (Dirty p query) may admitted there = nobody there
  touched-id (Order p) may admitted there = nobody there
  touched-id (Recover p) may admitted there = known p _ (ap is_none admitted) there
  touched-id (RecoverStopped p call fill) may admitted there = known p _ (ap is_none admitted) there
  touched-id (Downgrade p) may admitted there = known p _ (ap is_none (first-none (cannot_rise w p) _ (ap is_none admitted)).0) there
  touched-id (Show p) may admitted there = nobody there
  touched-id ShowOrder may admitted there = nobody there
  touched-id Gather may admitted there = nobody there
  touched-id End may admitted there = nobody there
  touched-id (Receive p place) may admitted there = nobody there
  touched-id (Deliver p count) may admitted there = known p _ (ap is_none admitted) there
  touched-id (Rounds count) may admitted there = nobody there
  touched-id (Stop p call fill) may admitted there = taking p admitted there
  touched-id (Fail p call) may admitted there = taking p admitted there
  touched-id (Join p joiner weight) may admitted there = taking p (first-none (takes_part w p) _ (ap is_none admitted)).0 there
  touched-id (Leave p server) may admitted there = taking p (first-none (takes_part w p) _ (ap is_none admitted)).0 there
  touched-id (Transfer p joiner pieces) may admitted there =
      let behind = (first-none (takes_part w p) _ (ap is_none admitted)).1 in
      let named = refused-not (has w.named joiner) _ (first-none (never_named w joiner) _ behind).0 in
      are.named q (ap (has w.named) (sym (only joiner q there)) ∙ named)

-- ---- who is named

hand-named : (go : StepInProgress) (p : ℕ) (input : Input) → (hand go p input).world.named ≡ go.world.named
unfolding hand
hand-named go p input = at (node_of go.world p) where
  ends : (t : Turn) (e : EventEnd) → (after_event go p t e).world.named ≡ go.world.named
  ends t (Runs r disk) = refl
  ends t (Crashes disk green) = refl

  life : (l : NodeState) → (hand_to go p input l).world.named ≡ go.world.named
  life (Up r disk) = let t = replica_step r input in ends t (end_event disk r.held t)
  life (Down disk green) = refl

  at : (o : Option Node) → (option_map_or (λ s. hand_to go p input s.life) o go).world.named ≡ go.world.named
  at None = refl
  at (Some s) = life s.life

handed-named : (list : List (Handed Msg)) (go : StepInProgress) → (fold hand_over go list).world.named ≡ go.world.named
handed-named [] go = refl
handed-named (h ∷ list) go = handed-named list (hand_over go h) ∙ hand-named go h.to _

by_life : (w : World) (change : NodeState → World) → ((l : NodeState) → (change l).named ≡ w.named) →
    (o : Option Node) → (option_map_or (λ s. change s.life) o w).named ≡ w.named
by_life w change each None = refl
by_life w change each (Some s) = each s.life

arm-named : (w : World) (p : ℕ) (strike : Strike) → (arm w p strike).named ≡ w.named
arm-named w p strike = by_life w (arm_at w p strike) each (node_of w p) where
  each : (l : NodeState) → (arm_at w p strike l).named ≡ w.named
  each (Up r disk) = refl
  each (Down disk green) = refl

crash-named : (w : World) (p : ℕ) → (option_map_or (λ s. crash_at w p s.life) (node_of w p) w).named ≡ w.named
crash-named w p = by_life w (crash_at w p) each (node_of w p) where
  each : (l : NodeState) → (crash_at w p l).named ≡ w.named
  each (Up r disk) = refl
  each (Down disk green) = refl

recover-named : (w : World) (p : ℕ) → (recover w p).world.named ≡ w.named
recover-named w p = at (node_of w p) where
  life : (l : NodeState) → (recover_from w l).world.named ≡ w.named
  life (Up r disk) = refl
  life (Down disk green) = refl

  at : (o : Option Node) → (option_map_or (λ s. recover_from w s.life) o (quietly w)).world.named ≡ w.named
  at None = refl
  at (Some s) = life s.life

swapped-named : (w v : World) (p : ℕ) → Swaps w v p → v.named ≡ w.named
swapped-named w v p is = elim is [
  | inl same ↦ ap (λ (x : World). x.named) same
  | inr other ↦ ap (λ (x : World). x.named) other.world
]

pieces-named : (w : World) (s : TransferState) (n : ℕ) → (with_pieces w s n).named ≡ w.named
pieces-named w s n =
    let others = without_snapshot w s.joiner in
    let r = joiner_replica s.joiner s.content in
    cond_both (n == piece_count s.content) (bring_up others r (new_disk r.held)) (record others { snapshots = others.snapshots ++ record s { taken = n } ∷ [] }) (λ (v : World). v.named ≡ w.named)
    (λ y. refl) (λ no. refl)

transfer-named : (w : World) (p joiner pieces : ℕ) → (transfer w p joiner pieces).world.named ≡ w.named
transfer-named w p joiner pieces = at (replica_of w p) where
  at : (o : Option Replica) →
      (option_map_or (λ r. take_pieces w (snapshot_for w p joiner r) pieces) o (quietly w)).world.named ≡ w.named
  at None = refl
  at (Some r) = let s = snapshot_for w p joiner r in pieces-named w s (min (piece_count s.content) (s.taken + pieces))

start-named : (set : List Weighted) (list : List ℕ) (w : World) (q : ℕ) →
    has (fold (begin_replica set) w list).named q ≡ true → (has w.named q ≡ true) ⊎ (has list q ≡ true)
start-named set [] w q there = inl there
start-named set (p ∷ list) w q there = elim (start-named set list (begin_replica set w p) q there) [
  | inl new ↦ elim (or_cases (has w.named q) (p == q) (sym (has-with_member w.named p q) ∙ new)) [
    | inl old ↦ inl old
    | inr here ↦ inr (ap (λ b. b || has list q) here)
  ]
  | inr later ↦ inr (or-later (p == q) (has list q) later)
] where
  or-later : (a b : Bool) → b ≡ true → (a || b) ≡ true
  or-later true b e = refl
  or-later false b e = e

module _ (w : World) (are : AreIds w) (q : ℕ) where
  as-before : (new : List ℕ) → new ≡ w.named → has new q ≡ true → IsId q
  as-before new same there = are.named q (ap (λ set. has set q) (sym same) ∙ there)

  named-id : (e : Event) → MayStand w e → has (happens w e).world.named q ≡ true → IsId q
  unfolding happens
  named-id (Start set) may there = elim (start-named set (ids set) w q there) [
    | inl old ↦ are.named q old
    | inr new ↦ in-set 1 (ids set) q (omega arith) may.1.ascends new
  ]
  named-id (Split set) may there = as-before _ (handed-named (split w.group set).handed _) there
  named-id (Merge set) may there = as-before _ (handed-named (merge w.group set).handed _) there
  named-id (Request p cmds query) may there = as-before _ (hand-named (quietly w) p (Asks (Update cmds query))) there
  named-id (Weak p query) may there = are.named q there
  named-id (Dirty p query) may there = are.named q there
  named-id (Order p) may there = are.named q there
  named-id (Recover p) may there = as-before _ (recover-named w p) there
  named-id (RecoverStopped p call fill) may there =
      as-before _ (recover_under-cases w p (record { call = call; fault = StopWith fill }) (λ go. go.world.named ≡ w.named) (λ v. swapped-named w v p) (recover-named w p)) there
  named-id (Downgrade p) may there = as-before _ (swapped-named w (downgrade w p) p (downgrade-swaps w p)) there
  named-id (Show p) may there = are.named q there
  named-id ShowOrder may there = are.named q there
  named-id Gather may there = are.named q there
  named-id End may there = are.named q there
  named-id (Receive p place) may there = are.named q there
  named-id (Deliver p count) may there = as-before _ (handed-named (deliver w.group p count).handed _) there
  named-id (Rounds count) may there = are.named q there
  named-id (Stop p zero fill) may there = as-before _ (crash-named w p) there
  named-id (Stop p (suc call) fill) may there = as-before _ (arm-named w p (record { call = suc call; fault = StopWith fill })) there
  named-id (Fail p call) may there = as-before _ (arm-named w p (record { call = call; fault = FailOnce })) there
  named-id (Join p joiner weight) may there =
      elim (or_cases (has w.named q) (joiner == q) (sym (has-with_member w.named joiner q) ∙ ap (λ set. has set q) (sym (hand-named (quietly (name_also w joiner)) p (Asks (JoinKind joiner weight)))) ∙ there)) [
        | inl old ↦ are.named q old
        | inr new ↦ subst IsId (eqb-true joiner q new) may.1.0
      ]
  named-id (Leave p server) may there = as-before _ (hand-named (quietly w) p (Asks (LeaveKind server))) there
  named-id (Transfer p joiner pieces) may there = as-before _ (transfer-named w p joiner pieces) there

-- ---- an event

pub ids-behind : (w : World) (e : Event) → AreIds w → ((p : ℕ) → IfSome (disk_held w p) (λ h. h.id ≡ p)) →
    MayStand w e → first_refusal w e ≡ None → AreIds (world_step w e).world
unfolding world_step ended
ids-behind w e are own may admitted = record {
  begun = λ q begun. elim (cases_Bool (has (touched e) q)) [
    | inl inside ↦ touched-id w are q e may admitted inside
    | inr outside ↦ are.begun q (ap (λ (o : Option Node). is_some o) (sym (happens-stays q w e own outside).node) ∙ begun)
  ];
  named = λ q there. named-id w are q e may there;
}

pub no-ids : AreIds no_world
no-ids = record { begun = λ p e. absurd (let clash : false ≡ true = e in cc); named = λ p e. absurd (let clash : false ≡ true = e in cc) }
