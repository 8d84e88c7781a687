-- What an event does leaves the last printed lines; only the end of its step prints.
use Rattle.std.proofs.Common.{◌≡◌, ℕ, zero, suc, ◌+◌, min, Bool, true, false, List, [], ◌∷◌, ◌++◌, fold, Option, Some, None, refl, ◌∙◌, if◌then◌else◌, ap, inl, inr}
use Rattle.std.specs.Prelude.{◌==◌}
use Rattle.std.specs.Option.{option_map_or}
use Rattle.cg_base.specs.declared.weighted.Weighted.{Weighted}
use Rattle.cg_base.specs.Weights.{ids}
use Rattle.cg_action.specs.declared.action.Kind.TheVariants.{Update, Join as JoinKind, Leave as LeaveKind}
use Rattle.cg_wire.specs.declared.message.Msg.{Msg}
use Rattle.cg_group.specs.declared.delivery.Handed.{Handed}
use Rattle.cg_group.specs.Events.{split, merge, deliver}
use Rattle.cg_client.specs.Replica.{Replica}
use Rattle.cg_client.specs.Turn.{Turn}
use Rattle.cg_states.specs.ReplicaStep.{Input, Deliveries, Asks as AsksOf, replica_step}
use Rattle.cg_disk_records.specs.Crash.{FailOnce, StopWith, Strike, EventEnd, Runs, Crashes, end_event, new_disk}
use Rattle.cg_schedule.specs.declared.event.Event.{Event}
use Rattle.cg_schedule.specs.declared.event.Event.TheVariants.{Start, Split, Merge, Request, Weak, Dirty, Order, Recover, RecoverStopped, Downgrade, Show, ShowOrder, Gather, End, Receive, Deliver, Rounds, Stop, Fail, Join, Leave, Transfer}
use Rattle.cg_model.specs.World.{NodeState, Up, Down, Node, TransferState, World, node_of, replica_of, bring_up}
use Rattle.cg_model.specs.Show.{StepInProgress}
use Rattle.cg_model.specs.Step.{quietly, hand, hand_over, name_also, begin_replica, recover, joiner_replica, snapshot_for, without_snapshot, transfer, happens, downgrade}
use Rattle.cg_model.specs.AtNode.{after_event, hand_to, arm_at, crash_at, recover_from, with_pieces, take_pieces}
use Rattle.cg_client.specs.Joined.{piece_count}
use Rattle.cg_agree_lemmas.specs.DiskSwaps.{Swaps, downgrade-swaps, recover_under-cases}

hand-lines : (go : StepInProgress) (p : ℕ) (input : Input) → (hand go p input).world.lines ≡ go.world.lines
unfolding hand
hand-lines go p input = at (node_of go.world p) where
  ends : (t : Turn) (e : EventEnd) → (after_event go p t e).world.lines ≡ go.world.lines
  ends t (Runs r disk) = refl
  ends t (Crashes disk green) = refl

  life : (l : NodeState) → (hand_to go p input l).world.lines ≡ go.world.lines
  life (Up r disk) = let t = replica_step r input in ends t (end_event disk r.held t)
  life (Down disk green) = refl

  at : (o : Option Node) → (option_map_or (λ s. hand_to go p input s.life) o go).world.lines ≡ go.world.lines
  at None = refl
  at (Some s) = life s.life

all-lines : (go : StepInProgress) (list : List (Handed Msg)) → (fold hand_over go list).world.lines ≡ go.world.lines
all-lines go [] = refl
all-lines go (h ∷ list) = all-lines (hand_over go h) list ∙ hand-lines go h.to (Deliveries h.list)

begun-lines : (set : List Weighted) (list : List ℕ) (w : World) → (fold (begin_replica set) w list).lines ≡ w.lines
begun-lines set [] w = refl
begun-lines set (p ∷ list) w = begun-lines set list (begin_replica set w p)

by_life : (w : World) (change : NodeState → World) → ((l : NodeState) → (change l).lines ≡ w.lines) → (o : Option Node) → (option_map_or (λ s. change s.life) o w).lines ≡ w.lines
by_life w change each None = refl
by_life w change each (Some s) = each s.life

armed-lines : (w : World) (p : ℕ) (strike : Strike) → (option_map_or (λ s. arm_at w p strike s.life) (node_of w p) w).lines ≡ w.lines
armed-lines w p strike = by_life w (arm_at w p strike) each (node_of w p) where
  each : (l : NodeState) → (arm_at w p strike l).lines ≡ w.lines
  each (Up r disk) = refl
  each (Down disk green) = refl

stopped-lines : (w : World) (p : ℕ) → (option_map_or (λ s. crash_at w p s.life) (node_of w p) w).lines ≡ w.lines
stopped-lines w p = by_life w (crash_at w p) each (node_of w p) where
  each : (l : NodeState) → (crash_at w p l).lines ≡ w.lines
  each (Up r disk) = refl
  each (Down disk green) = refl

recovered-lines : (w : World) (p : ℕ) → (recover w p).world.lines ≡ w.lines
recovered-lines w p = at (node_of w p) where
  life : (l : NodeState) → (recover_from w l).world.lines ≡ w.lines
  life (Up r disk) = refl
  life (Down disk green) = refl

  at : (o : Option Node) → (option_map_or (λ s. recover_from w s.life) o (quietly w)).world.lines ≡ w.lines
  at None = refl
  at (Some s) = life s.life

swapped-lines : (w v : World) (p : ℕ) → Swaps w v p → v.lines ≡ w.lines
swapped-lines w v p is = elim is [
  | inl same ↦ ap (λ (x : World). x.lines) same
  | inr other ↦ ap (λ (x : World). x.lines) other.world
]

transferred-lines : (w : World) (p joiner pieces : ℕ) → (transfer w p joiner pieces).world.lines ≡ w.lines
transferred-lines w p joiner pieces = at (replica_of w p) where
  one_of : (b : Bool) (x y : World) → x.lines ≡ w.lines → y.lines ≡ w.lines → (if b then x else y).lines ≡ w.lines
  one_of true x y e f = e
  one_of false x y e f = f

  pieces_taken : (s : TransferState) (n : ℕ) → (with_pieces w s n).lines ≡ w.lines
  pieces_taken s n =
      let others = without_snapshot w s.joiner in
      let r = joiner_replica s.joiner s.content in
      one_of (n == piece_count s.content) (bring_up others r (new_disk r.held)) (record others { snapshots = others.snapshots ++ record s { taken = n } ∷ [] }) refl refl

  at : (o : Option Replica) → (option_map_or (λ r. take_pieces w (snapshot_for w p joiner r) pieces) o (quietly w)).world.lines ≡ w.lines
  at None = refl
  at (Some r) = (let s = snapshot_for w p joiner r in pieces_taken s (min (piece_count s.content) (s.taken + pieces)))

pub happens-lines : (w : World) (e : Event) → (happens w e).world.lines ≡ w.lines
unfolding happens
happens-lines w (Start set) = begun-lines set (ids set) w
happens-lines w (Split set) = all-lines (quietly (record w { group = (split w.group set).group })) (split w.group set).handed
happens-lines w (Merge set) = all-lines (quietly (record w { group = (merge w.group set).group })) (merge w.group set).handed
happens-lines w (Request p cmds query) = hand-lines (quietly w) p (AsksOf (Update cmds query))
happens-lines w (Weak p query) = refl
happens-lines w (Dirty p query) = refl
happens-lines w (Order p) = refl
happens-lines w (Recover p) = recovered-lines w p
happens-lines w (RecoverStopped p call fill) =
    recover_under-cases w p (record { call = call; fault = StopWith fill }) (λ go. go.world.lines ≡ w.lines) (λ v. swapped-lines w v p) (recovered-lines w p)
happens-lines w (Downgrade p) = swapped-lines w (downgrade w p) p (downgrade-swaps w p)
happens-lines w (Show p) = refl
happens-lines w ShowOrder = refl
happens-lines w Gather = refl
happens-lines w End = refl
happens-lines w (Receive p place) = refl
happens-lines w (Deliver p count) = all-lines (quietly (record w { group = (deliver w.group p count).group })) (deliver w.group p count).handed
happens-lines w (Rounds count) = refl
happens-lines w (Stop p zero fill) = stopped-lines w p
happens-lines w (Stop p (suc call) fill) = armed-lines w p (record { call = suc call; fault = StopWith fill })
happens-lines w (Fail p call) = armed-lines w p (record { call = call; fault = FailOnce })
happens-lines w (Join p joiner weight) = hand-lines (quietly (name_also w joiner)) p (AsksOf (JoinKind joiner weight))
happens-lines w (Leave p server) = hand-lines (quietly w) p (AsksOf (LeaveKind server))
happens-lines w (Transfer p joiner pieces) = transferred-lines w p joiner pieces
