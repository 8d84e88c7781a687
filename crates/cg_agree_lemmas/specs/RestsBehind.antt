-- Behind each event every replica is at rest with its disk, where it was before it.
use Rattle.std.proofs.Common.{◌≡◌, ℕ, zero, suc, ◌+◌, ◌≤◌, min, false, List, [], ◌∷◌, ◌++◌, map, fold, find, length, Option, Some, None, refl, sym, ap, subst, inl, inr, option_and_then}
use Rattle.std.specs.Prelude.{◌==◌}
use Rattle.std.specs.Option.{option_map_or}
use Rattle.std.proofs.lemmas.Bool.{cond_both}
use Rattle.std.proofs.lemmas.Option.{same_Some}
use Rattle.cg_base.specs.declared.weighted.Weighted.{Weighted}
use Rattle.cg_base.specs.Lists.{at_place, above_up_to, Each}
use Rattle.cg_base.specs.Weights.{ids}
use Rattle.cg_action.specs.declared.action.Action.{Action}
use Rattle.cg_action.specs.declared.action.Kind.{Kind}
use Rattle.cg_action.specs.declared.action.Kind.TheVariants.{Update, Join as JoinKind, Leave as LeaveKind}
use Rattle.cg_wire.specs.declared.message.Msg.{Msg}
use Rattle.cg_group.specs.declared.delivery.Handed.{Handed}
use Rattle.cg_group.specs.declared.delivery.Delivery.TheVariants.{Message, Transitional as TransitionalIn, Regular as RegularIn}
use Rattle.cg_group.specs.State.{Sent, Configuration, GroupState, configuration, regular_in, phase_of, delivered_to, home}
use Rattle.cg_group.specs.Events.{delivery_at, deliveries_at, transitional_places, furthest, handed_in_split, deliver, split, merge}
use Rattle.cg_base.specs.EachLaws.{Each-append}
use Rattle.cg_client.specs.Replica.{Held, Replica, fresh}
use Rattle.cg_states.specs.ReplicaStep.{Input, Deliveries, Asks as AsksOf}
use Rattle.cg_disk_records.specs.Crash.{FailOnce, StopWith, Strike, at_rest, new_disk, recovered, disk_recovered}
use Rattle.cg_schedule.specs.declared.event.Event.{Event}
use Rattle.cg_schedule.specs.declared.event.Event.TheVariants.{Start, Split, Merge, Request, Weak, Dirty, Order, Recover, RecoverStopped, Downgrade, Show, ShowOrder, Gather, End, Receive, Deliver, Rounds, Stop, Fail, Join, Leave, Transfer}
use Rattle.cg_model.specs.World.{NodeState, Up, Down, Node, World, running, node_of, replica_of, set_life, bring_up, TransferState}
use Rattle.cg_model.specs.Show.{ended}
use Rattle.cg_model.specs.Run.{MayStand}
use Rattle.cg_model.specs.Levels.{is_record_of}
use Rattle.cg_model.specs.Step.{quietly, hand_out, ask, name_also, begin_replica, arm, recover, joiner_replica, snapshot_for, without_snapshot, transfer, happens, world_step, downgrade}
use Rattle.cg_model.specs.AtNode.{arm_at, crash_at, recover_from, with_pieces, take_pieces}
use Rattle.cg_model.specs.FactsLists.{IsRising}
use Rattle.cg_agree_lemmas.specs.ChronicleFacts.{node_of-set}
use Rattle.cg_agree_lemmas.specs.HeldMarks.{IsOneself}
use Rattle.cg_agree_lemmas.specs.MadeSplit.{rising-set-list}
use Rattle.cg_agree_lemmas.specs.DiskAhead.{OwnRuns}
use Rattle.cg_agree_lemmas.specs.AttemptNew.{HasNoRecordYet, IsNewConf, IsNewIn}
use Rattle.cg_agree_lemmas.specs.LivesRest.{LifeRests, NodeRests, turn-rests, recovered-rests, begun-rests}
use Rattle.cg_agree_lemmas.specs.WorldTurns.{IsBehind, hand-behind, from-same, handed-behind}
use Rattle.cg_agree_lemmas.specs.DiskSwaps.{Swaps, downgrade-swaps, recover_under-cases}
use Rattle.cg_client.specs.Joined.{piece_count}

-- there are greens of which a replica holds what they make
pub record IsCoreOf (start : List Weighted) (h : Held) : Type 0 where
  pub greens : List Action
  pub is : IsOneself start h greens

abbrev pub RestsAt : World → ℕ → Type 0
RestsAt w p = NodeRests (node_of w p)

-- what a replica has to be, that its step leaves it at rest: its own actions go on, and it has no record yet of the attempt of its
-- exchange, nor of the one of the next configuration; and one that is down, that it comes up so
abbrev pub LifeSteps : List Weighted → ℕ → NodeState → Type 0
LifeSteps start next (Up r disk) = OwnRuns r.held × HasNoRecordYet r r.state × (is_record_of next r.held.vulnerable ≡ false)
LifeSteps start next (Down disk green) = IsCoreOf start disk.content

abbrev pub NodeSteps : List Weighted → ℕ → Option Node → Type 0
NodeSteps start next None = Unit {0}
NodeSteps start next (Some s) = LifeSteps start next s.life

-- ---- one node changes

pub rests-set : (w : World) (p : ℕ) (life : NodeState) (q : ℕ) → LifeRests life → RestsAt w q → RestsAt (set_life w p life) q
rests-set w p life q is rests =
    subst NodeRests (sym (node_of-set w p life q))
    (cond_both (p == q) (Some (record { id = p; life = life })) (node_of w q) NodeRests (λ y. is) (λ n. rests))

module _ (w : World) (q : ℕ) (rests : RestsAt w q) where
  -- what is made of a life, where a replica has begun
  of-node : (p : ℕ) (f : NodeState → World) → ((s : Node) → node_of w p ≡ Some s → RestsAt (f s.life) q) → RestsAt (option_map_or (λ s. f s.life) (node_of w p) w) q
  of-node p f each = at (node_of w p) refl where
    at : (o : Option Node) → node_of w p ≡ o → RestsAt (option_map_or (λ s. f s.life) o w) q
    at None e = rests
    at (Some s) e = each s e

-- ---- the start

begun-one : (set : List Weighted) (w : World) (p q : ℕ) → RestsAt w q → RestsAt (begin_replica set w p) q
begun-one set w p q rests = rests-set (name_also w p) (fresh p set).held.id (Up (fresh p set) (new_disk (fresh p set).held)) q (begun-rests (fresh p set).held) rests

begun-all : (set : List Weighted) (list : List ℕ) (w : World) (q : ℕ) → RestsAt w q → RestsAt (fold (begin_replica set) w list) q
begun-all set [] w q rests = rests
begun-all set (p ∷ list) w q rests = begun-all set list (begin_replica set w p) q (begun-one set w p q rests)

-- ---- what is handed

module _ (r : Replica) where
  placed-new : (c : Configuration Msg) (place : ℕ) → Each (IsNewConf r) (delivery_at c place)
  unfolding delivery_at
  placed-new c place = at (at_place c.ordered place) where
    at : (o : Option (Sent Msg)) → Each (IsNewConf r) (option_map_or (λ s. Message place s.from s.message ∷ []) o [])
    at None = tt
    at (Some s) = (tt, tt)

  places-new : (c : Configuration Msg) (places : List ℕ) → Each (IsNewConf r) (deliveries_at c places)
  places-new c [] = tt
  places-new c (place ∷ places) = Each-append (IsNewConf r) (delivery_at c place) (deliveries_at c places) (placed-new c place) (places-new c places)

  split-new : (g : GroupState Msg) (set : List ℕ) (p : ℕ) → Each (IsNewConf r) (handed_in_split g set p).list
  unfolding handed_in_split
  split-new g set p =
      let conf = regular_in (phase_of g p) in
      let c = configuration g conf in
      let k = furthest g set in
      Each-append (IsNewConf r) (deliveries_at c (above_up_to (delivered_to g p) k)) (TransitionalIn conf set ∷ deliveries_at c (transitional_places c set k))
      (places-new c (above_up_to (delivered_to g p) k)) (tt, places-new c (transitional_places c set k))

-- an input that brings a replica of this world no configuration of whose attempt it has a record
abbrev pub BringsNew : World → ℕ → Input → Type 0
BringsNew w p input = (r : Replica) → replica_of w p ≡ Some r → IsNewIn r input

pub handed-ids : (f : ℕ → Handed Msg) → ((q : ℕ) → (f q).to ≡ q) → (set : List ℕ) (low : ℕ) → IsRising low set → IsRising low (map (λ h. h.to) (map f set))
handed-ids f same [] low rise = tt
handed-ids f same (p ∷ set) low rise =
    (subst (λ n. low ≤ n) (sym (same p)) rise.0, subst (λ n. IsRising (suc n) (map (λ h. h.to) (map f set))) (sym (same p)) (handed-ids f same set (suc p) rise.1))

pub each-handed : (Q : ℕ → Input → Type 0) (f : ℕ → Handed Msg) → ((q : ℕ) → Q (f q).to (Deliveries (f q).list)) → (set : List ℕ) → Each (λ h. Q h.to (Deliveries h.list)) (map f set)
each-handed Q f each [] = tt
each-handed Q f each (p ∷ set) = (each p, each-handed Q f each set)

pub split-to : (g : GroupState Msg) (set : List ℕ) (q : ℕ) → (handed_in_split g set q).to ≡ q
unfolding handed_in_split
split-to g set q = refl

-- ---- events

module _ (start : List Weighted) (w : World) (rests : (q : ℕ) → RestsAt w q) (steps : (q : ℕ) → NodeSteps start (suc (length w.group.configurations)) (node_of w q)) where
  abbrev next : ℕ
  next = suc (length w.group.configurations)

  of-turn : (v : World) (p : ℕ) → IsBehind (BringsNew w) w v p → RestsAt v p
  of-turn v p is = elim is [
    | inl same ↦ subst NodeRests (sym same) (rests p)
    | inr turn ↦
        let own = subst (NodeSteps start next) turn.before (steps p) in
        let new = turn.of turn.replica (ap (λ (o : Option Node). option_and_then (λ s. running s.life) o) turn.before) in
        subst NodeRests (sym turn.behind) (turn-rests turn.replica turn.disk turn.input (subst NodeRests turn.before (rests p)) own.0 own.1 new)
  ]

  -- the world with another group
  of-group : (g : GroupState Msg) (v : World) (p : ℕ) → IsBehind (BringsNew w) (record w { group = g }) v p → RestsAt v p
  of-group g v p is = of-turn v p (from-same (BringsNew w) w (record w { group = g }) v p refl is)

  asked : (v : World) (p : ℕ) (kind : Kind) (q : ℕ) → v.nodes ≡ w.nodes → RestsAt (ask v p kind).world q
  asked v p kind q nodes =
      of-turn (ask v p kind).world q
      (from-same (BringsNew w) w v (ask v p kind).world q (ap (λ (list : List Node). find (λ s. s.id == q) list) nodes) (hand-behind (BringsNew w) (quietly v) p (AsksOf kind) (λ r e. tt) q))

  came-up : (p q : ℕ) → RestsAt (recover w p).world q
  came-up p q = at (node_of w p) refl where
    life : (s : Node) (l : NodeState) → s.life ≡ l → node_of w p ≡ Some s → RestsAt (recover_from w l).world q
    life s (Up r disk) is e = rests q
    life s (Down disk green) is e =
        let core = subst (LifeSteps start next) is (subst (NodeSteps start next) e (steps p)) in
        rests-set w (recovered disk).held.id (Up (recovered disk) (disk_recovered disk)) q (recovered-rests start disk core.greens core.is) (rests q)

    at : (o : Option Node) → node_of w p ≡ o → RestsAt (option_map_or (λ s. recover_from w s.life) o (quietly w)).world q
    at None e = rests q
    at (Some s) e = life s s.life refl e

  stopped : (p q : ℕ) → RestsAt (option_map_or (λ s. crash_at w p s.life) (node_of w p) w) q
  stopped p q = of-node w q (rests q) p (crash_at w p) (λ s e. life s.life) where
    life : (l : NodeState) → RestsAt (crash_at w p l) q
    life (Up r disk) = rests-set w p (Down (at_rest disk) []) q tt (rests q)
    life (Down disk green) = rests q

  armed : (p : ℕ) (strike : Strike) (q : ℕ) → RestsAt (arm w p strike) q
  armed p strike q = of-node w q (rests q) p (arm_at w p strike) (λ s e. life s.life (subst NodeRests e (rests p))) where
    life : (l : NodeState) → LifeRests l → RestsAt (arm_at w p strike l) q
    life (Up r disk) is = rests-set w p (Up r (record disk { armed = Some strike })) q is (rests q)
    life (Down disk green) is = rests q

  swapped : (v : World) (p q : ℕ) → Swaps w v p → RestsAt v q
  swapped v p q is = elim is [
    | inl same ↦ subst (λ (x : World). RestsAt x q) (sym same) (rests q)
    | inr other ↦ subst (λ (x : World). RestsAt x q) (sym other.world) (rests-set w p (Down other.new other.green) q tt (rests q))
  ]

  joined-rests : (s : TransferState) (taken q : ℕ) → RestsAt (with_pieces w s taken) q
  joined-rests s taken q =
      let others = without_snapshot w s.joiner in
      let r = joiner_replica s.joiner s.content in
      cond_both (taken == piece_count s.content) (bring_up others r (new_disk r.held)) (record others { snapshots = others.snapshots ++ record s { taken = taken } ∷ [] }) (λ v. RestsAt v q)
      (λ y. rests-set others s.joiner (Up r (new_disk r.held)) q (begun-rests r.held) (rests q)) (λ n. rests q)

  transferred : (p joiner pieces q : ℕ) → RestsAt (transfer w p joiner pieces).world q
  transferred p joiner pieces q = at (replica_of w p) where
    at : (o : Option Replica) → RestsAt (option_map_or (λ r. take_pieces w (snapshot_for w p joiner r) pieces) o (quietly w)).world q
    at None = rests q
    at (Some r) = (let s = snapshot_for w p joiner r in joined-rests s (min (piece_count s.content) (s.taken + pieces)) q)

  -- Behind an event every replica is at rest.
  pub event-rests : (e : Event) → MayStand w e → (q : ℕ) → RestsAt (world_step w e).world q
  unfolding world_step happens ended split merge deliver
  event-rests (Start set) may q = begun-all set (ids set) w q (rests q)
  event-rests (Split set) may q =
      of-group (split w.group set).group (hand_out w (split w.group set)).world q
      (handed-behind (BringsNew w) (map (handed_in_split w.group set) set) (quietly (record w { group = (split w.group set).group })) 1
      (handed-ids (handed_in_split w.group set) (split-to w.group set) set 1 (rising-set-list 1 set may.1.ascends))
      (each-handed (BringsNew w) (handed_in_split w.group set) (λ p r e. split-new r w.group set p) set) q)
  event-rests (Merge set) may q =
      let f : ℕ → Handed Msg = λ p. record { to = p; list = RegularIn next set ∷ [] } in
      of-group (merge w.group set).group (hand_out w (merge w.group set)).world q
      (handed-behind (BringsNew w) (map f set) (quietly (record w { group = (merge w.group set).group })) 1
      (handed-ids f (λ p. refl) set 1 (rising-set-list 1 set may.1.ascends))
      (each-handed (BringsNew w) f (λ p r e. (no-record p r e, tt)) set) q)
    where
      no-record : (p : ℕ) (r : Replica) → replica_of w p ≡ Some r → is_record_of next r.held.vulnerable ≡ false
      no-record p r e = at (node_of w p) e (steps p) where
        life : (l : NodeState) → running l ≡ Some r → LifeSteps start next l → is_record_of next r.held.vulnerable ≡ false
        life (Up x disk) is own = subst (λ (y : Replica). is_record_of next y.held.vulnerable ≡ false) (same_Some x r is) own.2
        life (Down disk green) is own = absurd (let clash : None ≡ Some r = is in cc)

        at : (o : Option Node) → option_and_then (λ s. running s.life) o ≡ Some r → NodeSteps start next o → is_record_of next r.held.vulnerable ≡ false
        at None is own = absurd (let clash : None ≡ Some r = is in cc)
        at (Some s) is own = life s.life is own
  event-rests (Request p cmds query) may q = asked w p (Update cmds query) q refl
  event-rests (Weak p query) may q = rests q
  event-rests (Dirty p query) may q = rests q
  event-rests (Order p) may q = rests q
  event-rests (Recover p) may q = came-up p q
  event-rests (RecoverStopped p call fill) may q = recover_under-cases w p (record { call = call; fault = StopWith fill }) (λ go. RestsAt go.world q) (λ v. swapped v p q) (came-up p q)
  event-rests (Downgrade p) may q = swapped (downgrade w p) p q (downgrade-swaps w p)
  event-rests (Show p) may q = rests q
  event-rests ShowOrder may q = rests q
  event-rests Gather may q = rests q
  event-rests End may q = absurd may
  event-rests (Receive p place) may q = rests q
  event-rests (Deliver p count) may q =
      let g = w.group in
      let from = delivered_to g p in
      let list = deliveries_at (home g p) (above_up_to from (from + count)) in
      of-group (deliver g p count).group (hand_out w (deliver g p count)).world q
      (hand-behind (BringsNew w) (quietly (record w { group = (deliver g p count).group })) p (Deliveries list) (λ r e. places-new r (home g p) (above_up_to from (from + count))) q)
  event-rests (Rounds count) may q = absurd may
  event-rests (Stop p zero fill) may q = stopped p q
  event-rests (Stop p (suc call) fill) may q = armed p (record { call = suc call; fault = StopWith fill }) q
  event-rests (Fail p call) may q = armed p (record { call = call; fault = FailOnce }) q
  event-rests (Join p joiner weight) may q = asked (name_also w joiner) p (JoinKind joiner weight) q refl
  event-rests (Leave p server) may q = asked w p (LeaveKind server) q refl
  event-rests (Transfer p joiner pieces) may q = transferred p joiner pieces q
