-- What a joiner is to begin with stands in the printed order, and its giver has it: behind each event too.
use Rattle.cg_states.specs.ReplicaStep.{Input, Deliveries, Asks as AsksOf, replica_step}
use Rattle.cg_action.specs.declared.action.Kind.TheVariants.{Update, Join as JoinKind, Leave as LeaveKind}
use Rattle.cg_schedule.specs.declared.event.Event.{Event}
use Rattle.cg_schedule.specs.declared.event.Event.TheVariants.{Start, Split, Merge, Request, Weak, Dirty, Order, Recover, RecoverStopped, Downgrade, Show, ShowOrder, Gather, End, Receive, Deliver, Rounds, Stop, Fail, Join, Leave, Transfer}
use Rattle.cg_model.specs.Step.{quietly, hand, hand_over, name_also, begin_replica, joiner_replica, snapshot_for, without_snapshot, transfer, happens, world_step, downgrade}
use Rattle.cg_model.specs.AtNode.{after_event, hand_to, arm_at, crash_at, recover_from, with_pieces, take_pieces}
use Rattle.cg_model.specs.World.{NodeState, Up, Down, Node, TransferState, World, node_of, replica_of, bring_up}
use Rattle.std.proofs.Common.{◌≡◌, ◌++◌, ◌∷◌, ◌≤◌, ◌&&◌, ◌+◌, IfSome, List, None, Option, Some, arith, eq-eqb, filter, find, fold, inl, inr, length, map, min, not, refl, subst, suc, sym, true, zero, ℕ, []}
use Rattle.std.proofs.lemmas.Bool.{cases_Bool, cond-false, cond-true, cond_both}
use Rattle.std.specs.Option.{option_map_or}
use Rattle.std.specs.Prelude.{◌==◌}
use Rattle.cg_agree_lemmas.specs.MadeTransfer.{none-filtered, nothing-of}
use Rattle.cg_agree_lemmas.specs.DiskSwaps.{Swaps, downgrade-swaps, recover_under-cases}
use Rattle.cg_model.specs.Show.{StepInProgress, ended}
use Rattle.cg_base.specs.Weights.{ids}
use Rattle.cg_base.specs.declared.weighted.Weighted.{Weighted}
use Rattle.cg_client.specs.Replica.{Held, Replica}
use Rattle.cg_client.specs.Turn.{Turn}
use Rattle.cg_base.specs.Lists.{Each}
use Rattle.cg_base.specs.EachLaws.{Each-append, Each-filter}
use Rattle.cg_base.specs.FindLaws.{found_each}
use Rattle.cg_group.specs.Events.{deliver, handed_in_split, merge, split}
use Rattle.cg_group.specs.declared.delivery.Handed.{Handed}
use Rattle.cg_disk_records.specs.Crash.{Crashes, EventEnd, FailOnce, Runs, StopWith, Strike, end_event, new_disk}
use Rattle.cg_wire.specs.declared.message.Msg.{Msg}
use Rattle.cg_client.specs.Joined.{piece_count}

-- ---- lists

module _ {X : Type 0} (P : X → Type 0) where
  -- where of each key there is one, what holds of the one that is found holds of each
  pub each-found : (key : X → ℕ) (xs : List X) → ((j : ℕ) → length (filter (λ x. key x == j) xs) ≤ 1) → ((j : ℕ) → IfSome (find (λ x. key x == j) xs) P) → Each P xs
  each-found key [] once each = tt
  each-found key (x ∷ xs) once each = (
    subst (λ (o : Option X). IfSome o P) (cond-true (key x == key x) (Some x) (find (λ z. key z == key x) xs) (eq-eqb (key x) (key x) refl)) (each (key x)),
    each-found key xs (λ j. fewer j) (λ j. elim (cases_Bool (key x == j)) [
      | inl here ↦ subst (λ (o : Option X). IfSome o P) (sym (none-left j here)) tt
      | inr other ↦ subst (λ (o : Option X). IfSome o P) (cond-false (key x == j) (Some x) (find (λ z. key z == j) xs) other) (each j)
    ]),
  )
    where
      fewer : (j : ℕ) → length (filter (λ z. key z == j) xs) ≤ 1
      fewer j = cond_both (key x == j) (x ∷ filter (λ z. key z == j) xs) (filter (λ z. key z == j) xs) (λ list. length list ≤ 1 → length (filter (λ z. key z == j) xs) ≤ 1)
          (λ y few. (let less : suc (length (filter (λ z. key z == j) xs)) ≤ 1 = few in omega arith)) (λ n few. few) (once j)

      none-left : (j : ℕ) → (key x == j) ≡ true → find (λ z. key z == j) xs ≡ None
      none-left j here =
          let few : suc (length (filter (λ z. key z == j) xs)) ≤ 1 = subst (λ (list : List X). length list ≤ 1) (cond-true (key x == j) (x ∷ filter (λ z. key z == j) xs) (filter (λ z. key z == j) xs) here) (once j) in
          none-filtered (λ z. key z == j) (λ z. true) xs (nothing-of (λ z. key z == j) (λ z. true) (filter (λ z. key z == j) xs) few)

-- ---- events

-- what holds of what each replica holds, and of each snapshot
module _ (Holds : ℕ → Held → Type 0) where
  abbrev pub OfSnapshots : World → Type 0
  OfSnapshots w = Each (λ s. Holds s.giver s.content) w.snapshots

  module _ (w : World) (is : OfSnapshots w) where
    copies-begun : (set : List Weighted) (list : List ℕ) (v : World) → OfSnapshots v → OfSnapshots (fold (begin_replica set) v list)
    copies-begun set [] v is = is
    copies-begun set (q ∷ list) v is = copies-begun set list (begin_replica set v q) is

    copies-ended : (go : StepInProgress) (q : ℕ) (t : Turn) (e : EventEnd) → OfSnapshots go.world → OfSnapshots (after_event go q t e).world
    copies-ended go q t (Runs r disk) is = is
    copies-ended go q t (Crashes disk green) is = Each-filter (λ s. Holds s.giver s.content) (λ s. not (s.giver == q)) go.world.snapshots is

    copies-hand : (go : StepInProgress) (q : ℕ) (input : Input) → OfSnapshots go.world → OfSnapshots (hand go q input).world
    unfolding hand
    copies-hand go q input is = at (node_of go.world q) where
      life : (l : NodeState) → OfSnapshots (hand_to go q input l).world
      life (Up r disk) = copies-ended go q (replica_step r input) (end_event disk r.held (replica_step r input)) is
      life (Down disk green) = is

      at : (o : Option Node) → OfSnapshots (option_map_or (λ s. hand_to go q input s.life) o go).world
      at None = is
      at (Some s) = life s.life

    copies-handed : (list : List (Handed Msg)) (go : StepInProgress) → OfSnapshots go.world → OfSnapshots (fold hand_over go list).world
    copies-handed [] go is = is
    copies-handed (h ∷ list) go is = copies-handed list (hand_over go h) (copies-hand go h.to (Deliveries h.list) is)

    copies-stopped : (q : ℕ) → OfSnapshots (option_map_or (λ s. crash_at w q s.life) (node_of w q) w)
    copies-stopped q = at (node_of w q) where
      life : (l : NodeState) → OfSnapshots (crash_at w q l)
      life (Up r disk) = Each-filter (λ s. Holds s.giver s.content) (λ s. not (s.giver == q)) w.snapshots is
      life (Down disk green) = is

      at : (o : Option Node) → OfSnapshots (option_map_or (λ s. crash_at w q s.life) o w)
      at None = is
      at (Some s) = life s.life

    copies-armed : (q : ℕ) (strike : Strike) → OfSnapshots (option_map_or (λ s. arm_at w q strike s.life) (node_of w q) w)
    copies-armed q strike = at (node_of w q) where
      life : (l : NodeState) → OfSnapshots (arm_at w q strike l)
      life (Up r disk) = is
      life (Down disk green) = is

      at : (o : Option Node) → OfSnapshots (option_map_or (λ s. arm_at w q strike s.life) o w)
      at None = is
      at (Some s) = life s.life

    copies-recovered : (q : ℕ) → OfSnapshots (option_map_or (λ s. recover_from w s.life) (node_of w q) (quietly w)).world
    copies-recovered q = at (node_of w q) where
      life : (l : NodeState) → OfSnapshots (recover_from w l).world
      life (Up r disk) = is
      life (Down disk green) = is

      at : (o : Option Node) → OfSnapshots (option_map_or (λ s. recover_from w s.life) o (quietly w)).world
      at None = is
      at (Some s) = life s.life

    copies-swapped : (v : World) (q : ℕ) → Swaps w v q → OfSnapshots v
    copies-swapped v q swaps = elim swaps [
      | inl same ↦ subst OfSnapshots (sym same) is
      | inr other ↦ subst OfSnapshots (sym other.world) is
    ]

    copies-pieces : (s : TransferState) (taken : ℕ) → Holds s.giver s.content → OfSnapshots (with_pieces w s taken)
    copies-pieces s taken here =
        let others = without_snapshot w s.joiner in
        let r = joiner_replica s.joiner s.content in
        let left = Each-filter (λ x. Holds x.giver x.content) (λ x. not (x.joiner == s.joiner)) w.snapshots is in
        let more : TransferState = record s { taken = taken } in
        cond_both (taken == piece_count s.content) (bring_up others r (new_disk r.held)) (record others { snapshots = others.snapshots ++ record s { taken = taken } ∷ [] }) OfSnapshots
        (λ y. left) (λ no. Each-append (λ x. Holds x.giver x.content) others.snapshots (more ∷ []) left (here, tt))

    module _ (holds : (q : ℕ) (r : Replica) → replica_of w q ≡ Some r → Holds q r.held) where
      -- also of the one of which pieces are taken
      pub copy-of : (q joiner : ℕ) (r : Replica) → replica_of w q ≡ Some r → (let s = snapshot_for w q joiner r in Holds s.giver s.content)
      copy-of q joiner r e =
          let new : TransferState = record { joiner = joiner; giver = q; content = r.held; taken = 0 } in
          at new (find (λ s. (s.joiner == joiner) && (s.giver == q)) w.snapshots) (found_each (λ s. Holds s.giver s.content) (λ s. (s.joiner == joiner) && (s.giver == q)) w.snapshots is) (holds q r e) where
            at : (new : TransferState) (o : Option TransferState) → IfSome o (λ s. Holds s.giver s.content) → Holds new.giver new.content → (let s = option_map_or (λ s. s) o new in Holds s.giver s.content)
            at new None found other = other
            at new (Some s) found other = found

      copies-transferred : (q joiner pieces : ℕ) → OfSnapshots (transfer w q joiner pieces).world
      copies-transferred q joiner pieces = at (replica_of w q) refl where
        at : (o : Option Replica) → replica_of w q ≡ o → OfSnapshots (option_map_or (λ r. take_pieces w (snapshot_for w q joiner r) pieces) o (quietly w)).world
        at None e = is
        at (Some r) e = (let s = snapshot_for w q joiner r in copies-pieces s (min (piece_count s.content) (s.taken + pieces)) (copy-of q joiner r e))

      copies-happen : (e : Event) → OfSnapshots (happens w e).world
      unfolding happens split merge deliver
      copies-happen (Start set) = copies-begun set (ids set) w is
      copies-happen (Split set) = copies-handed (map (handed_in_split w.group set) set) (quietly (record w { group = (split w.group set).group })) is
      copies-happen (Merge set) = copies-handed (merge w.group set).handed (quietly (record w { group = (merge w.group set).group })) is
      copies-happen (Request q cmds query) = copies-hand (quietly w) q (AsksOf (Update cmds query)) is
      copies-happen (Weak q query) = is
      copies-happen (Dirty q query) = is
      copies-happen (Order q) = is
      copies-happen (Recover q) = copies-recovered q
      copies-happen (RecoverStopped q call fill) = recover_under-cases w q (record { call = call; fault = StopWith fill }) (λ go. OfSnapshots go.world) (λ v. copies-swapped v q) (copies-recovered q)
      copies-happen (Downgrade q) = copies-swapped (downgrade w q) q (downgrade-swaps w q)
      copies-happen (Show q) = is
      copies-happen ShowOrder = is
      copies-happen Gather = is
      copies-happen End = is
      copies-happen (Receive q place) = is
      copies-happen (Deliver q count) = copies-handed (deliver w.group q count).handed (quietly (record w { group = (deliver w.group q count).group })) is
      copies-happen (Rounds count) = is
      copies-happen (Stop q zero fill) = copies-stopped q
      copies-happen (Stop q (suc call) fill) = copies-armed q (record { call = suc call; fault = StopWith fill })
      copies-happen (Fail q call) = copies-armed q (record { call = call; fault = FailOnce })
      copies-happen (Join q joiner weight) = copies-hand (quietly (name_also w joiner)) q (AsksOf (JoinKind joiner weight)) is
      copies-happen (Leave q server) = copies-hand (quietly w) q (AsksOf (LeaveKind server)) is
      copies-happen (Transfer q joiner pieces) = copies-transferred q joiner pieces

      pub copies-event : (e : Event) → OfSnapshots (world_step w e).world
      unfolding world_step ended
      copies-event e = copies-happen e
