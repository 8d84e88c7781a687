-- A replica that an event doesn't touch keeps its node, and stands in the group as it did.
use Rattle.std.proofs.Common.{◌≡◌, ℕ, zero, suc, ◌+◌, min, false, List, [], ◌∷◌, ◌++◌, fold, map, Option, Some, None, IfSome, option_map, refl, ap, ◌∙◌, sym, subst, inl, inr}
use Rattle.std.specs.Prelude.{◌==◌}
use Rattle.std.specs.Option.{option_map_or}
use Rattle.std.proofs.lemmas.Bool.{cond-false, cond_both, or_parts}
use Rattle.cg_base.specs.declared.weighted.Weighted.{Weighted}
use Rattle.cg_base.specs.Sets.{has}
use Rattle.cg_base.specs.Weights.{ids}
use Rattle.cg_action.specs.declared.action.Kind.TheVariants.{Update, Join as JoinKind, Leave as LeaveKind}
use Rattle.cg_wire.specs.declared.message.Msg.{Msg}
use Rattle.cg_group.specs.declared.phase.Phase.{Phase}
use Rattle.cg_group.specs.declared.phase.Phase.TheVariants.{Alone, Regular}
use Rattle.cg_group.specs.declared.delivery.Handed.{Handed}
use Rattle.cg_group.specs.Events.{order, receive, gather, deliver, handed_in_split, split, merge}
use Rattle.cg_group.specs.LookupLaws.{put, eqb_comm}
use Rattle.cg_client.specs.Replica.{Replica, Held, fresh}
use Rattle.cg_client.specs.Turn.{Turn}
use Rattle.cg_states.specs.ReplicaStep.{Input, Deliveries, Asks as AsksOf, replica_step}
use Rattle.cg_disk_records.specs.Crash.{Disk, FailOnce, StopWith, Strike, EventEnd, Runs, Crashes, end_event, new_disk, recovered, disk_recovered}
use Rattle.cg_schedule.specs.declared.event.Event.{Event}
use Rattle.cg_schedule.specs.declared.event.Event.TheVariants.{Start, Split, Merge, Request, Weak, Dirty, Order, Recover, RecoverStopped, Downgrade, Show, ShowOrder, Gather, End, Receive, Deliver, Rounds, Stop, Fail, Join, Leave, Transfer}
use Rattle.cg_model.specs.World.{NodeState, Up, Down, Node, TransferState, World, node_of, replica_of, set_life, bring_up}
use Rattle.cg_model.specs.Show.{StepInProgress}
use Rattle.cg_model.specs.Step.{quietly, hand, hand_over, name_also, begin_replica, arm, recover, joiner_replica, snapshot_for, without_snapshot, transfer, happens, downgrade}
use Rattle.cg_model.specs.AtNode.{after_event, hand_to, arm_at, crash_at, recover_from, with_pieces, take_pieces}
use Rattle.cg_model.specs.Looks.{on_disk, disk_held}
use Rattle.cg_model.specs.PhaseLaws.{Group, where_is, sent-place, order-place, receive-place, gather-place, deliver-place, up-place, down-place, split-other, next_conf, merge-place}
use Rattle.cg_model.specs.Touched.{touched}
use Rattle.cg_agree_lemmas.specs.ChronicleFacts.{node_of-set}
use Rattle.cg_agree_lemmas.specs.HeldCommit.{recovered-id}
use Rattle.cg_agree_lemmas.specs.DiskSwaps.{Swaps, downgrade-swaps, recover_under-cases}
use Rattle.cg_client.specs.Joined.{piece_count}
use Rattle.cg_model.specs.NodeLaws.{snapshot-joiner}

module _ (q : ℕ) where
  pub record Stays (w v : World) : Type 0 where
    pub node : node_of v q ≡ node_of w q
    pub place : where_is v.group q ≡ where_is w.group q

  stays : (w : World) → Stays w w
  stays w = record { node = refl; place = refl }

  stays-on : (w v u : World) → Stays w v → Stays v u → Stays w u
  stays-on w v u a b = record { node = b.node ∙ a.node; place = b.place ∙ a.place }

  -- ---- another replica changes

  other-node : (w : World) (p : ℕ) (life : NodeState) → (p == q) ≡ false → node_of (set_life w p life) q ≡ node_of w q
  other-node w p life apart = node_of-set w p life q ∙ cond-false (p == q) (Some (let s : Node = record { id = p; life = life } in s)) (node_of w q) apart

  other-place : (g : Group) (p : ℕ) (phase : Option Phase) → (p == q) ≡ false → put (where_is g) p phase q ≡ where_is g q
  other-place g p phase apart = cond-false (q == p) phase (where_is g q) (eqb_comm q p ∙ apart)

  brought-stays : (w : World) (r : Replica) (disk : Disk) → (r.held.id == q) ≡ false → Stays w (bring_up w r disk)
  brought-stays w r disk apart = record {
    node = other-node w r.held.id (Up r disk) apart;
    place = up-place w.group r.held.id q ∙ other-place w.group r.held.id (Some Alone) apart;
  }

  hand-stays : (go : StepInProgress) (p : ℕ) (input : Input) → (p == q) ≡ false → Stays go.world (hand go p input).world
  unfolding hand
  hand-stays go p input apart = at (node_of go.world p) where
    ends : (t : Turn) (e : EventEnd) → Stays go.world (after_event go p t e).world
    ends t (Runs r disk) = record { node = other-node go.world p (Up r disk) apart; place = sent-place t.sent go.world.group p q }
    ends t (Crashes disk green) = record {
      node = other-node go.world p (Down disk green) apart;
      place = down-place go.world.group p q ∙ other-place go.world.group p None apart;
    }

    life : (l : NodeState) → Stays go.world (hand_to go p input l).world
    life (Up r disk) = let t = replica_step r input in ends t (end_event disk r.held t)
    life (Down disk green) = stays go.world

    at : (o : Option Node) → Stays go.world (option_map_or (λ s. hand_to go p input s.life) o go).world
    at None = stays go.world
    at (Some s) = life s.life

  handed-stays : (f : ℕ → Handed Msg) → ((p : ℕ) → (f p).to ≡ p) → (list : List ℕ) (go : StepInProgress) → has list q ≡ false → Stays go.world (fold hand_over go (map f list)).world
  handed-stays f to [] go out = stays go.world
  handed-stays f to (p ∷ list) go out =
      let parts = or_parts (p == q) (has list q) out in
      let first = hand_over go (f p) in
      stays-on go.world first.world (fold hand_over first (map f list)).world
      (hand-stays go (f p).to (Deliveries (f p).list) (ap (λ n. n == q) (to p) ∙ parts.0)) (handed-stays f to list first parts.1)

  begun-stays : (set : List Weighted) (list : List ℕ) (w : World) → has list q ≡ false → Stays w (fold (begin_replica set) w list)
  begun-stays set [] w out = stays w
  begun-stays set (p ∷ list) w out =
      let parts = or_parts (p == q) (has list q) out in
      let r = fresh p set in
      let first = brought-stays (name_also w p) r (new_disk r.held) parts.0 in
      stays-on w (begin_replica set w p) (fold (begin_replica set) (begin_replica set w p) list) (record { node = first.node; place = first.place }) (begun-stays set list (begin_replica set w p) parts.1)

  -- ---- faults and recoveries

  by_life : (w : World) (change : NodeState → World) → ((l : NodeState) → Stays w (change l)) → (o : Option Node) → Stays w (option_map_or (λ s. change s.life) o w)
  by_life w change each None = stays w
  by_life w change each (Some s) = each s.life

  armed-stays : (w : World) (p : ℕ) (strike : Strike) → (p == q) ≡ false → Stays w (arm w p strike)
  armed-stays w p strike apart = by_life w (arm_at w p strike) each (node_of w p) where
    each : (l : NodeState) → Stays w (arm_at w p strike l)
    each (Up r disk) = record { node = other-node w p (Up r (record disk { armed = Some strike })) apart; place = refl }
    each (Down disk green) = stays w

  stopped-stays : (w : World) (p : ℕ) → (p == q) ≡ false → Stays w (option_map_or (λ s. crash_at w p s.life) (node_of w p) w)
  stopped-stays w p apart = by_life w (crash_at w p) each (node_of w p) where
    each : (l : NodeState) → Stays w (crash_at w p l)
    each (Up r disk) = record { node = other-node w p _ apart; place = down-place w.group p q ∙ other-place w.group p None apart }
    each (Down disk green) = stays w

  recovered-stays : (w : World) (p : ℕ) → IfSome (disk_held w p) (λ h. h.id ≡ p) → (p == q) ≡ false → Stays w (recover w p).world
  recovered-stays w p own apart = at (node_of w p) own where
    life : (l : NodeState) → (on_disk l).id ≡ p → Stays w (recover_from w l).world
    life (Up r disk) named = stays w
    life (Down disk green) named =
        let back = brought-stays w (recovered disk) (disk_recovered disk) (ap (λ n. n == q) (recovered-id disk.content ∙ named) ∙ apart) in
        record { node = back.node; place = back.place }

    at : (o : Option Node) → IfSome (option_map (λ s. on_disk s.life) o) (λ (h : Held). h.id ≡ p) → Stays w (option_map_or (λ s. recover_from w s.life) o (quietly w)).world
    at None named = stays w
    at (Some s) named = life s.life named

  swapped-stays : (w v : World) (p : ℕ) → (p == q) ≡ false → Swaps w v p → Stays w v
  swapped-stays w v p apart is = elim is [
    | inl same ↦ subst (Stays w) (sym same) (stays w)
    | inr other ↦ subst (Stays w) (sym other.world) (record { node = other-node w p (Down other.new other.green) apart; place = refl })
  ]

  -- ---- snapshots

  pieces-stay : (w : World) (s : TransferState) (n : ℕ) → (s.joiner == q) ≡ false → Stays w (with_pieces w s n)
  pieces-stay w s n apart =
      let others = without_snapshot w s.joiner in
      let r = joiner_replica s.joiner s.content in
      cond_both (n == piece_count s.content) (bring_up others r (new_disk r.held)) (record others { snapshots = others.snapshots ++ record s { taken = n } ∷ [] }) (Stays w)
      (λ y. (let up = brought-stays others r (new_disk r.held) apart in record { node = up.node; place = up.place })) (λ no. record { node = refl; place = refl })

  transferred-stays : (w : World) (p joiner pieces : ℕ) → (joiner == q) ≡ false → Stays w (transfer w p joiner pieces).world
  transferred-stays w p joiner pieces apart = at (replica_of w p) where
    at : (o : Option Replica) → Stays w (option_map_or (λ r. take_pieces w (snapshot_for w p joiner r) pieces) o (quietly w)).world
    at None = stays w
    at (Some r) =
        let s = snapshot_for w p joiner r in
        pieces-stay w s (min (piece_count s.content) (s.taken + pieces)) (ap (λ n. n == q) (snapshot-joiner w p joiner r) ∙ apart)

  -- ---- events

  grouped-stays : (w : World) (g : Group) → where_is g q ≡ where_is w.group q → Stays w (record w { group = g })
  grouped-stays w g place = record { node = refl; place = place }

  handed_out-stays : (w : World) (g : Group) (f : ℕ → Handed Msg) → ((p : ℕ) → (f p).to ≡ p) → (list : List ℕ) → has list q ≡ false → where_is g q ≡ where_is w.group q →
      Stays w (fold hand_over (quietly (record w { group = g })) (map f list)).world
  handed_out-stays w g f to list out place =
      let v : World = record w { group = g } in
      stays-on w v (fold hand_over (quietly v) (map f list)).world (grouped-stays w g place) (handed-stays f to list (quietly v) out)

  only : (p : ℕ) → has (p ∷ []) q ≡ false → (p == q) ≡ false
  only p out = (or_parts (p == q) false out).0

  split-stays : (w : World) (set : List ℕ) → has set q ≡ false → Stays w (fold hand_over (quietly (record w { group = (split w.group set).group })) (split w.group set).handed).world
  unfolding split handed_in_split
  split-stays w set out = handed_out-stays w (split w.group set).group (handed_in_split w.group set) (λ p. refl) set out (split-other w.group set q out)

  merge-stays : (w : World) (set : List ℕ) → has set q ≡ false → Stays w (fold hand_over (quietly (record w { group = (merge w.group set).group })) (merge w.group set).handed).world
  unfolding merge
  merge-stays w set out =
      handed_out-stays w (merge w.group set).group _ (λ p. refl) set out
      (merge-place w.group set q ∙ cond-false (has set q) (Some (Regular (next_conf w.group))) (where_is w.group q) out)

  deliver-stays : (w : World) (p k : ℕ) → (p == q) ≡ false → Stays w (fold hand_over (quietly (record w { group = (deliver w.group p k).group })) (deliver w.group p k).handed).world
  unfolding deliver
  deliver-stays w p k apart =
      let v : World = record w { group = (deliver w.group p k).group } in
      stays-on w v _ (grouped-stays w (deliver w.group p k).group (deliver-place w.group p k q)) (hand-stays (quietly v) p _ apart)

  named-stays : (w : World) (p : ℕ) (v : World) → Stays (name_also w p) v → Stays w v
  named-stays w p v is = record { node = is.node; place = is.place }

  pub happens-stays : (w : World) (e : Event) → ((p : ℕ) → IfSome (disk_held w p) (λ h. h.id ≡ p)) → has (touched e) q ≡ false → Stays w (happens w e).world
  unfolding happens touched
  happens-stays w (Start set) own out = begun-stays set (ids set) w out
  happens-stays w (Split set) own out = split-stays w set out
  happens-stays w (Merge set) own out = merge-stays w set out
  happens-stays w (Request p cmds query) own out = hand-stays (quietly w) p (AsksOf (Update cmds query)) (only p out)
  happens-stays w (Weak p query) own out = stays w
  happens-stays w (Dirty p query) own out = stays w
  happens-stays w (Order p) own out = grouped-stays w (order w.group p) (order-place w.group p q)
  happens-stays w (Recover p) own out = recovered-stays w p (own p) (only p out)
  happens-stays w (RecoverStopped p call fill) own out =
      recover_under-cases w p (record { call = call; fault = StopWith fill }) (λ go. Stays w go.world) (λ v. swapped-stays w v p (only p out)) (recovered-stays w p (own p) (only p out))
  happens-stays w (Downgrade p) own out = swapped-stays w (downgrade w p) p (only p out) (downgrade-swaps w p)
  happens-stays w (Show p) own out = stays w
  happens-stays w ShowOrder own out = stays w
  happens-stays w Gather own out = grouped-stays w (gather w.group) (gather-place w.group q)
  happens-stays w End own out = stays w
  happens-stays w (Receive p place) own out = grouped-stays w (receive w.group p place) (receive-place w.group p place q)
  happens-stays w (Deliver p count) own out = deliver-stays w p count (only p out)
  happens-stays w (Rounds count) own out = stays w
  happens-stays w (Stop p zero fill) own out = stopped-stays w p (only p out)
  happens-stays w (Stop p (suc call) fill) own out = armed-stays w p (record { call = suc call; fault = StopWith fill }) (only p out)
  happens-stays w (Fail p call) own out = armed-stays w p (record { call = call; fault = FailOnce }) (only p out)
  happens-stays w (Join p joiner weight) own out =
      named-stays w joiner (hand (quietly (name_also w joiner)) p (AsksOf (JoinKind joiner weight))).world (hand-stays (quietly (name_also w joiner)) p (AsksOf (JoinKind joiner weight)) (only p out))
  happens-stays w (Leave p server) own out = hand-stays (quietly w) p (AsksOf (LeaveKind server)) (only p out)
  happens-stays w (Transfer p joiner pieces) own out = transferred-stays w p joiner pieces (only joiner out)
