-- Nodes stay: a start that is admitted begins a replica, and whoever has begun has begun behind every event.
use Rattle.std.proofs.Common.{◌≡◌, ℕ, zero, suc, ◌+◌, ◌<◌, min, Bool, true, false, cond, List, [], ◌∷◌, ◌++◌, fold, filter, find, is_some, map, length, Option, Some, None, refl, ap, subst, arith, eqb-true, eq-eqb, nat_lt, if◌then◌else◌, sym, ◌∙◌, ◌&&◌}
use Rattle.std.specs.Prelude.{◌==◌}
use Rattle.std.specs.Option.{option_map_or}
use Rattle.std.proofs.lemmas.Bool.{cond_both, ne_eqb, eqb-false, and_parts}
use Rattle.cg_base.specs.declared.weighted.Weighted.{Weighted}
use Rattle.cg_base.specs.Weights.{ids}
use Rattle.cg_base.specs.ChoiceLaws.{chosen}
use Rattle.cg_action.specs.declared.action.Kind.TheVariants.{Update, Join as JoinKind, Leave as LeaveKind}
use Rattle.cg_base.specs.Lists.{Each}
use Rattle.cg_wire.specs.declared.message.Msg.{Msg}
use Rattle.cg_group.specs.declared.delivery.Handed.{Handed}
use Rattle.cg_group.specs.Events.{split, merge, deliver}
use Rattle.cg_group.specs.declared.reason.Reason.TheVariants.{EmptySet}
use Rattle.cg_group.specs.Refusals.{empty_set}
use Rattle.cg_client.specs.Replica.{Replica}
use Rattle.cg_states.specs.ReplicaStep.{Input, Deliveries, Asks as AsksOf}
use Rattle.cg_disk_records.specs.Crash.{FailOnce, StopWith, Strike, new_disk}
use Rattle.cg_schedule.specs.declared.event.Event.{Event}
use Rattle.cg_schedule.specs.declared.event.Event.TheVariants.{Start, Split, Merge, Request, Weak, Dirty, Order, Recover, RecoverStopped, Downgrade, Show, ShowOrder, Gather, End, Receive, Deliver, Rounds, Stop, Fail, Join, Leave, Transfer}
use Rattle.cg_model.specs.World.{NodeState, Node, TransferState, World, running, node_of, at_node, has_begun, replica_of, up_replicas, with_node, set_life, bring_up, bring_down}
use Rattle.cg_model.specs.Admission.{first_refusal}
use Rattle.cg_model.specs.Show.{EventEffects, StepInProgress, ended}
use Rattle.cg_model.specs.Step.{quietly, taken, comes_back, hand, hand_over, name_also, begin_replica, armed, crashed, risen, recover, stays_down, recover_under, downgraded, joiner_replica, snapshot_for, without_snapshot, takes, transfer, happens, world_step}
use Rattle.cg_model.specs.AtNode.{comes_up, take_pieces}
use Rattle.cg_model.specs.Run.{MayStand}
use Rattle.cg_client.specs.Joined.{piece_count}
use Rattle.cg_group.specs.LookupLaws.{at-cond}
use Rattle.cg_base.specs.FindLaws.{found_passes}

-- ---- the node that is found

abbrev pub node_in : List Node → ℕ → Option Node
node_in nodes q = find (λ s. s.id == q) nodes

pub found-node : (nodes : List Node) (new : Node) (q : ℕ) →
    node_in (with_node nodes new) q ≡ (if new.id == q then Some new else node_in nodes q)
found-node [] new q = refl
found-node (s ∷ nodes) new q =
    at-cond (λ z. node_in z q) (s.id == new.id) (new ∷ nodes) (if nat_lt new.id s.id then new ∷ s ∷ nodes
    else s ∷ with_node nodes new)
    ∙ ap (cond (s.id == new.id) (node_in (new ∷ nodes) q))
    (at-cond (λ z. node_in z q) (nat_lt new.id s.id) (new ∷ s ∷ nodes) (s ∷ with_node nodes new))
    ∙ chosen (s.id == new.id) (nat_lt new.id s.id) (s.id == q) (new.id
    == q) (Some new) (Some s) (node_in nodes q) (node_in (with_node nodes new) q)
    (λ same. ap (λ z. z == q) (eqb-true s.id new.id same))
    (λ other here. ne_eqb new.id q (λ e. eqb-false s.id new.id other (eqb-true s.id q here ∙ sym e)))
    (found-node nodes new q)

-- ---- what comes of a node, or doesn't

module _ {S T : Type 0} (put : S → T) (stays : T) (P : T → Type 0) (each : (x : S) → P (put x)) (is : P stays) where
  life_both : (o : Option S) → P (option_map_or put o stays)
  life_both None = is
  life_both (Some x) = each x

  found_both : (made : NodeState → Option S) (o : Option Node) →
      P (option_map_or (λ s. option_map_or put (made s.life) stays) o stays)
  found_both made None = is
  found_both made (Some s) = life_both (made s.life)

  pub at_node_both : (w : World) (p : ℕ) (made : NodeState → Option S) → P (at_node w p made put stays)
  at_node_both w p made = found_both made (node_of w p)

-- ---- what a new or changed node keeps

module _ (P : List Node → Type 0) (kept : (nodes : List Node) (new : Node) → P nodes → P (with_node nodes new)) where
  hand_keeps : (go : StepInProgress) (p : ℕ) (input : Input) → P go.world.nodes → P (hand go p input).world.nodes
  unfolding hand
  hand_keeps go p input is =
      at_node_both (comes_back go p) go (λ g. P g.world.nodes) back is go.world p (taken input) where
        back : (x : NodeState × Option (EventEffects × List Msg)) → P (comes_back go p x).world.nodes
        back (life, Some (news, sent)) = kept go.world.nodes _ is
        back (life, None) = kept go.world.nodes _ is

  all_keep : (go : StepInProgress) (list : List (Handed Msg)) → P go.world.nodes → P (fold hand_over go list).world.nodes
  all_keep go [] is = is
  all_keep go (h ∷ list) is = all_keep (hand_over go h) list (hand_keeps go h.to (Deliveries h.list) is)

  begun_keep : (set : List Weighted) (list : List ℕ) (w : World) → P w.nodes → P (fold (begin_replica set) w list).nodes
  begun_keep set [] w is = is
  begun_keep set (p ∷ list) w is = begun_keep set list (begin_replica set w p) (kept w.nodes _ is)

  put_keeps : (w : World) (p : ℕ) (made : NodeState → Option NodeState) → P w.nodes →
      P (at_node w p made (set_life w p) w).nodes
  put_keeps w p made is =
      at_node_both (set_life w p) w (λ (w : World). P w.nodes) (λ life. kept w.nodes _ is) is w p made

  stopped_keeps : (w : World) (p : ℕ) → P w.nodes → P (at_node w p crashed (bring_down w p) w).nodes
  stopped_keeps w p is =
      at_node_both (bring_down w p) w (λ (w : World). P w.nodes) (λ life. kept w.nodes _ is) is w p crashed

  recovered_keeps : (w : World) (p : ℕ) → P w.nodes → P (recover w p).world.nodes
  recovered_keeps w p is =
      at_node_both (comes_up w) (quietly w) (λ (g : StepInProgress). P g.world.nodes) (λ up. kept w.nodes _ is) is
      w p (risen w.made)

  risen_keeps : (w : World) (p : ℕ) (strike : Strike) → P w.nodes → P (recover_under w p strike).world.nodes
  risen_keeps w p strike is =
      at_node_both (λ life. quietly (set_life w p life)) (recover w p) (λ (g : StepInProgress). P g.world.nodes)
      (λ life. kept w.nodes _ is) (recovered_keeps w p is) w p (stays_down strike)

  taken_keep : (w : World) (s : TransferState) (pieces : ℕ) → P w.nodes → P (takes w s pieces).world.nodes
  taken_keep w s pieces is =
      let r = joiner_replica s.joiner s.content in
      let taken = min (piece_count s.content) (s.taken + pieces) in
      cond_both (taken == piece_count s.content) (bring_up w r (new_disk r.held))
      (record w { snapshots = w.snapshots ++ record s { taken = taken } ∷ [] }) (λ w. P w.nodes)
      (λ y. kept w.nodes _ is) (λ n. is)

  transferred_keeps : (w : World) (p joiner pieces : ℕ) → P w.nodes → P (transfer w p joiner pieces).world.nodes
  transferred_keeps w p joiner pieces is = at (replica_of w p) where
    at : (o : Option Replica) →
        P (option_map_or (λ r. take_pieces w (snapshot_for w p joiner r) pieces) o (quietly w)).world.nodes
    at None = is
    at (Some r) = (let s = snapshot_for w p joiner r in taken_keep (without_snapshot w s.joiner) s pieces is)

  step_keeps : (w : World) (e : Event) → P w.nodes → P (world_step w e).world.nodes
  unfolding world_step happens ended
  step_keeps w (Start set) is = begun_keep set (ids set) w is
  step_keeps w (Split set) is =
      all_keep (quietly (record w { group = (split w.group set).group })) (split w.group set).handed is
  step_keeps w (Merge set) is =
      all_keep (quietly (record w { group = (merge w.group set).group })) (merge w.group set).handed is
  step_keeps w (Request p cmds query) is = hand_keeps (quietly w) p (AsksOf (Update cmds query)) is
  step_keeps w (Recover p) is = recovered_keeps w p is
  step_keeps w (RecoverStopped p call fill) is = risen_keeps w p (record { call = call; fault = StopWith fill }) is
  step_keeps w (Downgrade p) is = put_keeps w p downgraded is
  step_keeps w (Deliver p count) is =
      all_keep (quietly (record w { group = (deliver w.group p count).group })) (deliver w.group p count).handed is
  step_keeps w (Stop p zero fill) is = stopped_keeps w p is
  step_keeps w (Stop p (suc call) fill) is =
      put_keeps w p (armed (record { call = suc call; fault = StopWith fill })) is
  step_keeps w (Fail p call) is = put_keeps w p (armed (record { call = call; fault = FailOnce })) is
  step_keeps w (Join p joiner weight) is =
      hand_keeps (quietly (name_also w joiner)) p (AsksOf (JoinKind joiner weight)) is
  step_keeps w (Leave p server) is = hand_keeps (quietly w) p (AsksOf (LeaveKind server)) is
  step_keeps w (Transfer p joiner pieces) is = transferred_keeps w p joiner pieces is
  step_keeps w (Weak p query) is = is
  step_keeps w (Dirty p query) is = is
  step_keeps w (Order p) is = is
  step_keeps w (Show p) is = is
  step_keeps w ShowOrder is = is
  step_keeps w Gather is = is
  step_keeps w End is = is
  step_keeps w (Receive p place) is = is
  step_keeps w (Rounds count) is = is

-- ---- some replica has begun

abbrev pub IsHosted : World → Type 0
IsHosted w = 0 < length w.nodes

with_hosted : (nodes : List Node) (new : Node) → 0 < length (with_node nodes new)
with_hosted [] new = omega arith
with_hosted (s ∷ nodes) new =
    cond_both (s.id == new.id) (new ∷ nodes) (if nat_lt new.id s.id then new ∷ s ∷ nodes
    else s ∷ with_node nodes new) (λ list. 0 < length list)
    (λ y. omega arith)
    (λ n. cond_both (nat_lt new.id s.id) (new ∷ s ∷ nodes) (s
    ∷ with_node nodes new) (λ list. 0 < length list) (λ y. omega arith) (λ n. omega arith))

-- an admitted start begins a replica
pub start_nodes : (w : World) (set : List Weighted) → first_refusal w (Start set) ≡ None →
    IsHosted (world_step w (Start set)).world
unfolding world_step happens ended first_refusal
start_nodes w set admitted = begins (ids set) admitted where
  begins : (list : List ℕ) → empty_set list ≡ None → IsHosted (fold (begin_replica set) w list)
  begins [] e = absurd (let clash : Some EmptySet ≡ None = e in cc)
  begins (p ∷ list) e = begun_keep (λ nodes. 0 < length nodes) (λ nodes new is. with_hosted nodes new) set
      list (begin_replica set w p) (with_hosted w.nodes _)

-- no event takes the last node away
pub nodes_stay : (w : World) (e : Event) → IsHosted w → IsHosted (world_step w e).world
nodes_stay w e = step_keeps (λ nodes. 0 < length nodes) (λ nodes new is. with_hosted nodes new) w e

-- behind every event that may stand and is admitted some replica has begun
pub step_nodes : (w : World) (e : Event) → MayStand w e → first_refusal w e ≡ None → IsHosted (world_step w e).world
step_nodes w (Start set) may admitted = start_nodes w set admitted
step_nodes w End may admitted = absurd may
step_nodes w (Rounds count) may admitted = absurd may
step_nodes w (Split set) may admitted = nodes_stay w (Split set) may.0
step_nodes w (Merge set) may admitted = nodes_stay w (Merge set) may.0
step_nodes w (Request p cmds query) may admitted = nodes_stay w (Request p cmds query) may.0
step_nodes w (Weak p query) may admitted = nodes_stay w (Weak p query) may.0
step_nodes w (Dirty p query) may admitted = nodes_stay w (Dirty p query) may.0
step_nodes w (Order p) may admitted = nodes_stay w (Order p) may.0
step_nodes w (Recover p) may admitted = nodes_stay w (Recover p) may.0
step_nodes w (RecoverStopped p call fill) may admitted = nodes_stay w (RecoverStopped p call fill) may.0
step_nodes w (Downgrade p) may admitted = nodes_stay w (Downgrade p) may.0
step_nodes w (Show p) may admitted = nodes_stay w (Show p) may.0
step_nodes w ShowOrder may admitted = nodes_stay w ShowOrder may.0
step_nodes w Gather may admitted = nodes_stay w Gather may.0
step_nodes w (Receive p place) may admitted = nodes_stay w (Receive p place) may.0
step_nodes w (Deliver p count) may admitted = nodes_stay w (Deliver p count) may.0
step_nodes w (Stop p call fill) may admitted = nodes_stay w (Stop p call fill) may.0
step_nodes w (Fail p call) may admitted = nodes_stay w (Fail p call) may.0
step_nodes w (Join p joiner weight) may admitted = nodes_stay w (Join p joiner weight) may.0
step_nodes w (Leave p server) may admitted = nodes_stay w (Leave p server) may.0
step_nodes w (Transfer p joiner pieces) may admitted = nodes_stay w (Transfer p joiner pieces) may.0

-- ---- who has begun

abbrev is_there : ℕ → List Node → Bool
is_there q nodes = is_some (find (λ s. s.id == q) nodes)

there_behind : (q : ℕ) (s : Node) (nodes : List Node) → is_there q nodes ≡ true → is_there q (s ∷ nodes) ≡ true
there_behind q s nodes is =
    cond_both (s.id == q) (Some s) (find (λ s. s.id == q) nodes) (λ (o : Option Node). is_some o ≡
    true) (λ y. refl) (λ n. is)

there_kept : (q : ℕ) (nodes : List Node) (new : Node) → is_there q nodes ≡ true →
    is_there q (with_node nodes new) ≡ true
there_kept q [] new is = absurd (let clash : false ≡ true = is in cc)
there_kept q (s ∷ nodes) new is =
    cond_both (s.id == new.id) (new ∷ nodes) (if nat_lt new.id s.id then new ∷ s ∷ nodes
    else s ∷ with_node nodes new) (λ list. is_there q list ≡ true)
    (λ y. subst (λ n. is_some (cond (n == q) (Some new) (find (λ s. s.id == q) nodes)) ≡
    true) (eqb-true s.id new.id y) (changed (s.id == q) is))
    (λ n. cond_both (nat_lt new.id s.id) (new ∷ s ∷ nodes) (s ∷ with_node nodes new) (λ list. is_there q list ≡ true)
    (λ y. there_behind q new (s ∷ nodes) is) (λ n. later (s.id == q) is (there_kept q nodes new)))
  where
    changed : (b : Bool) → is_some (cond b (Some s) (find (λ s. s.id == q) nodes)) ≡ true →
        is_some (cond b (Some new) (find (λ s. s.id == q) nodes)) ≡ true
    changed true is = refl
    changed false is = is

    later : (b : Bool) → is_some (cond b (Some s) (find (λ s. s.id == q) nodes)) ≡ true →
        (is_there q nodes ≡ true → is_there q (with_node nodes new) ≡ true)
        → is_some (cond b (Some s) (find (λ s. s.id == q) (with_node nodes new))) ≡ true
    later true is on = refl
    later false is on = on is

-- whoever has begun has begun behind every event
pub begun_stay : (w : World) (e : Event) (q : ℕ) → has_begun w q ≡ true → has_begun (world_step w e).world q ≡ true
begun_stay w e q = step_keeps (λ nodes. is_there q nodes ≡ true) (there_kept q) w e

up_there : (nodes all : List Node) → ((q : ℕ) → is_there q nodes ≡ true → is_there q all ≡ true) →
    Each (λ q. is_there q all ≡ true) (map (λ s. s.id) (filter (λ s. is_some (running s.life)) nodes))
up_there [] all on = tt
up_there (s ∷ nodes) all on =
    let rest = up_there nodes all (λ q is. on q (there_behind q s nodes is)) in
    let first : is_there s.id (s ∷ nodes) ≡ true =
    ap (λ b. is_some (cond b (Some s) (find (λ x. x.id == s.id) nodes))) (eq-eqb s.id s.id refl) in
    cond_both (is_some (running s.life)) (s ∷ filter (λ s. is_some (running s.life)) nodes)
    (filter (λ s. is_some (running s.life)) nodes)
    (λ list. Each (λ q. is_there q all ≡ true) (map (λ s. s.id) list)) (λ y. (on s.id first, rest)) (λ n. rest)

-- the replicas that are up have begun
pub up_begun : (w : World) → Each (λ q. has_begun w q ≡ true) (up_replicas w)
up_begun w = up_there w.nodes w.nodes (λ q is. is)

-- the snapshot of which pieces are taken is one of this joiner
pub snapshot-joiner : (w : World) (p joiner : ℕ) (r : Replica) → (snapshot_for w p joiner r).joiner ≡ joiner
snapshot-joiner w p joiner r = at (find (λ s. (s.joiner == joiner) && (s.giver == p)) w.snapshots) refl where
  new : TransferState
  new = record { joiner = joiner; giver = p; content = r.held; taken = 0 }

  at : (o : Option TransferState) → find (λ s. (s.joiner == joiner) && (s.giver == p)) w.snapshots ≡ o → (option_map_or (λ s. s) o new).joiner ≡ joiner
  at None e = refl
  at (Some s) e =
      eqb-true s.joiner joiner (and_parts (s.joiner == joiner) (s.giver == p) (found_passes (λ (s : TransferState). (s.joiner == joiner) && (s.giver == p)) w.snapshots s e)).0
