-- The order lines of a run are the order of the world that it leads to.
use Rattle.std.proofs.Common.{◌≡◌, ℕ, zero, suc, List, [], ◌∷◌, ◌++◌, Option, Some, None, refl, sym, ap, subst, ◌∙◌, arith, length-append, map, fold, inl, inr}
use Rattle.std.specs.Prelude.{◌+◌, ◌==◌, min, length, Bool, true, false, if◌then◌else◌}
use Rattle.std.specs.Option.{option_map_or}
use Rattle.std.proofs.lemmas.List.{map-append, append-nil, length-map}
use Rattle.cg_base.specs.declared.action_id.ActionId.{ActionId}
use Rattle.cg_base.specs.declared.weighted.Weighted.{Weighted}
use Rattle.cg_base.specs.Lists.{count_up}
use Rattle.cg_base.specs.Weights.{ids}
use Rattle.cg_base.specs.EachLaws.{count_up-add}
use Rattle.cg_action.specs.declared.action.Kind.TheVariants.{Update, Join as JoinKind, Leave as LeaveKind}
use Rattle.cg_wire.specs.declared.message.Msg.{Msg}
use Rattle.cg_group.specs.declared.delivery.Handed.{Handed}
use Rattle.cg_group.specs.Events.{HandedOut, split, merge, deliver}
use Rattle.cg_client.specs.Replica.{Replica}
use Rattle.cg_client.specs.Turn.{Turn}
use Rattle.cg_states.specs.ReplicaStep.{Input, Deliveries, Asks, replica_step}
use Rattle.cg_disk_records.specs.Crash.{FailOnce, Strike, EventEnd, Runs, Crashes, end_event, recovered, StopWith}
use Rattle.cg_schedule.specs.declared.event.Event.{Event}
use Rattle.cg_schedule.specs.declared.event.Event.TheVariants.{Start, Split, Merge, Request, Weak, Dirty, Order, Recover, RecoverStopped, Downgrade, Show, ShowOrder, Gather, End, Receive, Deliver, Rounds, Stop, Fail, Join, Leave, Transfer}
use Rattle.cg_queue.specs.Queue.{green_count}
use Rattle.cg_report.specs.declared.entry.Placed.{Placed}
use Rattle.cg_model.specs.World.{NodeState, Up, Down, Node, TransferState, World, node_of, replica_of}
use Rattle.cg_model.specs.Show.{StepInProgress, Moved, placed_from, beyond, ended}
use Rattle.cg_model.specs.Step.{quietly, hand, hand_over, hand_out, name_also, begin_replica, arm, stop, recover, transfer, snapshot_for, happens, world_step, downgrade}
use Rattle.cg_model.specs.AtNode.{after_event, hand_to, arm_at, crash_at, recover_from, take_pieces, with_pieces}
use Rattle.cg_model.specs.Run.{Step, IsRunFrom, world_after}
use Rattle.cg_model.specs.Shown.{order_of, order_lines}
use Rattle.cg_client.specs.Joined.{piece_count}
use Rattle.cg_agree_lemmas.specs.DiskSwaps.{Swaps, downgrade-swaps, recover_under-cases}

-- the order is that of a world and the names of these order lines, whose places go on behind it
pub record TellsOrder (w : World) (order : List ActionId) (orders : List Placed) : Type 0 where
  pub names : order ≡ w.order ++ map (λ o. o.id) orders
  pub places : map (λ o. o.place) orders ≡ count_up (suc (length w.order)) (length orders)

-- the order of a step under way is that of a world, and the order lines so far
abbrev Keeps : World → StepInProgress → Type 0
Keeps w g = TellsOrder w g.world.order g.orders

placed_names : (n : ℕ) (names : List ActionId) → map (λ o. o.id) (placed_from n names) ≡ names
placed_names n [] = refl
placed_names n (id ∷ names) = ap (λ rest. id ∷ rest) (placed_names (suc n) names)

-- two lists behind one another
behind : (xs ys zs : List ActionId) → (xs ++ ys) ++ zs ≡ xs ++ (ys ++ zs)
behind [] ys zs = refl
behind (x ∷ xs) ys zs = ap (λ rest. x ∷ rest) (behind xs ys zs)

placed_places : (n : ℕ) (names : List ActionId) → map (λ o. o.place) (placed_from n names) ≡ count_up (suc n) (length names)
placed_places n [] = refl
placed_places n (id ∷ names) = ap (λ rest. suc n ∷ rest) (placed_places (suc n) names)

placed_count : (n : ℕ) (names : List ActionId) → length (placed_from n names) ≡ length names
placed_count n [] = refl
placed_count n (id ∷ names) = ap suc (placed_count (suc n) names)

-- new names come to the order, and their lines to the order lines
told_names : (w : World) (order : List ActionId) (orders : List Placed) (new : List ActionId) → order ≡ w.order ++ map (λ o. o.id) orders →
    order ++ new ≡ w.order ++ map (λ o. o.id) (orders ++ placed_from (length order) new)
told_names w order orders new k =
    let placed = placed_from (length order) new in
    ap (λ xs. xs ++ new) k ∙ (behind w.order (map (λ o. o.id) orders) new
    ∙ ap (λ xs. w.order ++ xs) (ap (λ xs. map (λ o. o.id) orders ++ xs) (sym (placed_names (length order) new)) ∙ sym (map-append (λ o. o.id) orders placed)))

told_count : (w : World) (order : List ActionId) (orders : List Placed) → order ≡ w.order ++ map (λ o. o.id) orders → length order ≡ length w.order + length orders
told_count w order orders k =
    ap length k ∙ (length-append w.order (map (λ o. o.id) orders) ∙ ap (λ n. length w.order + n) (length-map orders (λ o. o.id)))

told_places : (w : World) (order : List ActionId) (orders : List Placed) (new : List ActionId) → TellsOrder w order orders →
    map (λ o. o.place) (orders ++ placed_from (length order) new) ≡ count_up (suc (length w.order)) (length (orders ++ placed_from (length order) new))
told_places w order orders new k =
    let placed = placed_from (length order) new in
    let first = suc (length w.order) in
    let start : suc (length order) ≡ first + length orders = (let count = told_count w order orders k.names in omega (arith, count)) in
    let there : map (λ o. o.place) placed ≡ count_up (first + length orders) (length placed) =
    placed_places (length order) new ∙ (ap (λ n. count_up n (length new)) start ∙ ap (λ n. count_up (first + length orders) n) (sym (placed_count (length order) new))) in
    map-append (λ o. o.place) orders placed ∙ (ap (λ xs. xs ++ map (λ o. o.place) placed) k.places
    ∙ (ap (λ xs. count_up first (length orders) ++ xs) there
    ∙ (sym (count_up-add first (length orders) (length placed)) ∙ ap (λ n. count_up first n) (sym (length-append orders placed)))))

told_order : (w : World) (order : List ActionId) (orders : List Placed) (new : List ActionId) → TellsOrder w order orders →
    TellsOrder w (order ++ new) (orders ++ placed_from (length order) new)
told_order w order orders new k = record { names = told_names w order orders new k.names; places = told_places w order orders new k }

-- ---- each event

ended_order : (w : World) (g : StepInProgress) (p : ℕ) (t : Turn) (e : EventEnd) → Keeps w g → Keeps w (after_event g p t e)
ended_order w g p t (Runs r disk) k = told_order w g.world.order g.orders (beyond g.world.order t.green (green_count t.replica.held.queue)) k
ended_order w g p t (Crashes disk green) k = k

handed_order : (w : World) (g : StepInProgress) (p : ℕ) (input : Input) (life : NodeState) → Keeps w g → Keeps w (hand_to g p input life)
handed_order w g p input (Up r disk) k = let t = replica_step r input in ended_order w g p t (end_event disk r.held t) k
handed_order w g p input (Down disk green) k = k

hand_order : (w : World) (g : StepInProgress) (p : ℕ) (input : Input) → Keeps w g → Keeps w (hand g p input)
unfolding hand
hand_order w g p input k = by_node (node_of g.world p) where
  by_node : (o : Option Node) → Keeps w (option_map_or (λ s. hand_to g p input s.life) o g)
  by_node None = k
  by_node (Some s) = handed_order w g p input s.life k

all_handed : (w : World) (g : StepInProgress) (handed : List (Handed Msg)) → Keeps w g → Keeps w (fold hand_over g handed)
all_handed w g [] k = k
all_handed w g (h ∷ handed) k = all_handed w (hand_over g h) handed (hand_order w g h.to (Deliveries h.list) k)

-- nothing is shown, and the order stays
still : (w : World) → Keeps w (quietly w)
still w = record { names = sym (append-nil w.order); places = refl }

out_order : (w : World) (o : HandedOut Msg) → Keeps w (hand_out w o)
out_order w o = all_handed w (quietly (record w { group = o.group })) o.handed (still w)

pub begun_order : (set : List Weighted) (w : World) (names : List ℕ) → (fold (begin_replica set) w names).order ≡ w.order
begun_order set w [] = refl
begun_order set w (p ∷ names) = begun_order set (begin_replica set w p) names

same : (w v : World) → v.order ≡ w.order → Keeps w (quietly v)
same w v e = record { names = e ∙ sym (append-nil w.order); places = refl }

by_life : (w : World) (change : NodeState → World) → ((life : NodeState) → (change life).order ≡ w.order) → (o : Option Node) → (option_map_or (λ s. change s.life) o w).order ≡ w.order
by_life w change each None = refl
by_life w change each (Some s) = each s.life

armed_order : (w : World) (p : ℕ) (strike : Strike) → (arm w p strike).order ≡ w.order
armed_order w p strike = by_life w (arm_at w p strike) each (node_of w p) where
  each : (life : NodeState) → (arm_at w p strike life).order ≡ w.order
  each (Up r disk) = refl
  each (Down disk green) = refl

stopped_order : (w : World) (p n : ℕ) (fill : List ℕ) → (stop w p n fill).order ≡ w.order
stopped_order w p zero fill = by_life w (crash_at w p) each (node_of w p) where
  each : (life : NodeState) → (crash_at w p life).order ≡ w.order
  each (Up r disk) = refl
  each (Down disk green) = refl
stopped_order w p (suc n) fill = armed_order w p _

recovered_order : (w : World) (p : ℕ) → Keeps w (recover w p)
recovered_order w p = by_node (node_of w p) where
  each : (life : NodeState) → Keeps w (recover_from w life)
  each (Up r disk) = still w
  each (Down disk green) = told_order w w.order [] (beyond w.order green (green_count (recovered disk).held.queue)) (still w)

  by_node : (o : Option Node) → Keeps w (option_map_or (λ s. recover_from w s.life) o (quietly w))
  by_node None = still w
  by_node (Some s) = each s.life

swapped_order : (w v : World) (p : ℕ) → Swaps w v p → v.order ≡ w.order
swapped_order w v p is = elim is [
  | inl unchanged ↦ ap (λ (x : World). x.order) unchanged
  | inr other ↦ ap (λ (x : World). x.order) other.world
]

one_of : (b : Bool) (w x y : World) → x.order ≡ w.order → y.order ≡ w.order → (if b then x else y).order ≡ w.order
one_of true w x y e f = e
one_of false w x y e f = f

taken_order : (w : World) (s : TransferState) (taken : ℕ) → (with_pieces w s taken).order ≡ w.order
taken_order w s taken = one_of (taken == piece_count s.content) w _ _ refl refl

pieces_order : (w : World) (s : TransferState) (pieces : ℕ) → Keeps w (take_pieces w s pieces)
pieces_order w s pieces =
    record { names = taken_order w s (min (piece_count s.content) (s.taken + pieces)) ∙ sym (append-nil w.order); places = refl }

transferred_order : (w : World) (p joiner pieces : ℕ) → Keeps w (transfer w p joiner pieces)
transferred_order w p joiner pieces = by_replica (replica_of w p) where
  by_replica : (o : Option Replica) → Keeps w (option_map_or (λ r. take_pieces w (snapshot_for w p joiner r) pieces) o (quietly w))
  by_replica None = still w
  by_replica (Some r) = pieces_order w (snapshot_for w p joiner r) pieces

happens_order : (w : World) (e : Event) → Keeps w (happens w e)
unfolding happens
happens_order w (Start set) = same w (fold (begin_replica set) w (ids set)) (begun_order set w (ids set))
happens_order w (Split set) = out_order w (split w.group set)
happens_order w (Merge set) = out_order w (merge w.group set)
happens_order w (Request p cmds query) = hand_order w (quietly w) p (Asks (Update cmds query)) (still w)
happens_order w (Weak p query) = still w
happens_order w (Dirty p query) = still w
happens_order w (Order p) = still w
happens_order w (Recover p) = recovered_order w p
happens_order w (RecoverStopped p call fill) =
    recover_under-cases w p (record { call = call; fault = StopWith fill }) (Keeps w) (λ v is. same w v (swapped_order w v p is)) (recovered_order w p)
happens_order w (Downgrade p) = same w (downgrade w p) (swapped_order w (downgrade w p) p (downgrade-swaps w p))
happens_order w (Show p) = still w
happens_order w ShowOrder = still w
happens_order w Gather = still w
happens_order w End = still w
happens_order w (Receive p place) = still w
happens_order w (Deliver p count) = out_order w (deliver w.group p count)
happens_order w (Rounds count) = still w
happens_order w (Stop p call fill) = same w (stop w p call fill) (stopped_order w p call fill)
happens_order w (Fail p call) = same w (arm w p (record { call = call; fault = FailOnce })) (armed_order w p (record { call = call; fault = FailOnce }))
happens_order w (Join p joiner weight) = hand_order w (quietly (name_also w joiner)) p (Asks (JoinKind joiner weight)) (still w)
happens_order w (Leave p server) = hand_order w (quietly w) p (Asks (LeaveKind server)) (still w)
happens_order w (Transfer p joiner pieces) = transferred_order w p joiner pieces

-- ---- runs

stepped_order : (w : World) (e : Event) → TellsOrder w (world_step w e).world.order (world_step w e).entry.orders
unfolding world_step ended
stepped_order w e = happens_order w e

-- a step of a run
pub step_order : (w : World) (s : Step) → record { entry = s.entry; world = s.world } ≡ world_step w s.event → TellsOrder w s.world.order s.entry.orders
step_order w s moved = subst (λ (m : Moved). TellsOrder w m.world.order m.entry.orders) (sym moved) (stepped_order w s.event)

pub order_told : (w : World) (steps : List Step) → IsRunFrom w steps → (world_after w steps).order ≡ w.order ++ order_of steps
order_told w [] run = sym (append-nil w.order)
order_told w (s ∷ steps) run =
    order_told s.world steps run.3
    ∙ (ap (λ xs. xs ++ order_of steps) (step_order w s run.2).names
    ∙ (behind w.order (map (λ o. o.id) s.entry.orders) (order_of steps)
    ∙ ap (λ xs. w.order ++ xs) (sym (map-append (λ o. o.id) s.entry.orders (order_lines steps)))))

-- the places of the order lines go on behind the order before them
pub places_told : (w : World) (steps : List Step) → IsRunFrom w steps →
    map (λ o. o.place) (order_lines steps) ≡ count_up (suc (length w.order)) (length (order_lines steps))
places_told w [] run = refl
places_told w (s ∷ steps) run =
    let here = step_order w s run.2 in
    let first = suc (length w.order) in
    let start : suc (length s.world.order) ≡ first + length s.entry.orders = (let count = told_count w s.world.order s.entry.orders here.names in omega (arith, count)) in
    map-append (λ o. o.place) s.entry.orders (order_lines steps)
    ∙ (ap (λ xs. xs ++ map (λ o. o.place) (order_lines steps)) here.places
    ∙ (ap (λ xs. count_up first (length s.entry.orders) ++ xs) (places_told s.world steps run.3 ∙ ap (λ n. count_up n (length (order_lines steps))) start)
    ∙ (sym (count_up-add first (length s.entry.orders) (length (order_lines steps))) ∙ ap (λ n. count_up first n) (sym (length-append s.entry.orders (order_lines steps))))))
