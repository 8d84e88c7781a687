-- The steps of events at which no replica takes a turn are made of small steps: orders, receipts, shows, armed faults, and the start.
use Rattle.std.proofs.Common.{◌≡◌, ℕ, suc, true, cond, List, [], ◌∷◌, Option, Some, None, map, refl, sym, ap, ◌∙◌, is_none, option_map, option_and_then}
use Rattle.std.specs.Option.{option_map_or}
use Rattle.std.proofs.lemmas.Bool.{ne_eqb, and_from, le-leb}
use Rattle.cg_base.specs.declared.weighted.Weighted.{Weighted}
use Rattle.cg_base.specs.Lists.{first_some}
use Rattle.cg_base.specs.Sets.{Ascends}
use Rattle.cg_base.specs.Text.{is_nil}
use Rattle.cg_base.specs.Weights.{ids, IsWeightSet}
use Rattle.cg_action.specs.declared.query.Query.{Query}
use Rattle.cg_group.specs.declared.reason.Reason.{Reason}
use Rattle.cg_group.specs.Events.{order, receive}
use Rattle.cg_group.specs.Refusals.{order_refusal, receive_refusal}
use Rattle.cg_disk_records.specs.Crash.{Strike, FailOnce, StopWith}
use Rattle.cg_schedule.specs.declared.event.Event.{Event}
use Rattle.cg_schedule.specs.declared.event.Event.TheVariants.{Start, Weak, Dirty, Order, Show, ShowOrder, Receive, Fail, Stop}
use Rattle.cg_model.specs.World.{NodeState, Up, Down, Node, TransferState, World, no_world, node_of, replica_of, running}
use Rattle.cg_model.specs.Admission.{first_refusal, unknown}
use Rattle.cg_model.specs.Show.{ended}
use Rattle.cg_model.specs.Step.{happens, world_step, arm}
use Rattle.cg_model.specs.AtNode.{arm_at}
use Rattle.cg_model.specs.Looks.{on_disk, disk_held}
use Rattle.cg_model.specs.Small.{Starts, Crashes}
use Rattle.cg_model.specs.Smalls.{is_set_from, is_set, may_make, smalls_in}
use Rattle.cg_model.specs.FactsLists.{IsRising}
use Rattle.cg_model.specs.Played.{IsSame, given_for}
use Rattle.cg_agree_lemmas.specs.UnorderedKept.{first-none}
use Rattle.cg_agree_lemmas.specs.NodeFacts.{put-found, ids-found, running-set, disk-set}
use Rattle.cg_agree_lemmas.specs.SmallWorlds.{small_in, may_in, played_in, MayIn}

-- the step of the event is made of small steps
abbrev pub IsMadeIn : World → Event → Type 0
IsMadeIn w e = MayIn w (smalls_in w e) × IsSame (played_in w (smalls_in w e)) (world_step w e).world

-- two worlds are one where group, nodes and snapshots are
pub same-worlds : (w v : World) → w.group ≡ v.group → w.nodes ≡ v.nodes → w.snapshots ≡ v.snapshots → IsSame w v
same-worlds w v group nodes snapshots = record {
  group = group;
  nodes = ap (map (λ s. s.id)) nodes;
  running = λ p. ap (λ (list : List Node). replica_of (record w { nodes = list }) p) nodes;
  disk = λ p. ap (λ (list : List Node). disk_held (record w { nodes = list }) p) nodes;
  given = λ joiner. ap (λ (list : List TransferState). given_for (record w { snapshots = list }) joiner) snapshots;
}

-- what no reason is given for none of two is given for
pub second-none : (o u : Option Reason) → first_some (o ∷ u ∷ []) ≡ None → is_none u ≡ true
second-none o u e = ap is_none (first-none u [] (first-none o (u ∷ []) (ap is_none e)).1).0

-- ---- the group alone

pub order-made : (w : World) (p : ℕ) → first_refusal w (Order p) ≡ None → IsMadeIn w (Order p)
unfolding first_refusal may_make may_in smalls_in small_in world_step happens ended
order-made w p admitted = (
  (second-none (unknown w p) (order_refusal w.group p) admitted, tt),
  same-worlds (record w { group = order w.group p }) (world_step w (Order p)).world refl refl refl,
)

pub receive-made : (w : World) (p place : ℕ) → first_refusal w (Receive p place) ≡ None → IsMadeIn w (Receive p place)
unfolding first_refusal may_make may_in smalls_in small_in world_step happens ended
receive-made w p place admitted = (
  (second-none (unknown w p) (receive_refusal w.group p place) admitted, tt),
  same-worlds (record w { group = receive w.group p place }) (world_step w (Receive p place)).world refl refl refl,
)

-- ---- what changes nothing

pub weak-made : (w : World) (p : ℕ) (query : Query) → IsMadeIn w (Weak p query)
unfolding smalls_in world_step happens ended
weak-made w p query = (tt, same-worlds w (world_step w (Weak p query)).world refl refl refl)

pub dirty-made : (w : World) (p : ℕ) (query : Query) → IsMadeIn w (Dirty p query)
unfolding smalls_in world_step happens ended
dirty-made w p query = (tt, same-worlds w (world_step w (Dirty p query)).world refl refl refl)

pub show-made : (w : World) (p : ℕ) → IsMadeIn w (Show p)
unfolding smalls_in world_step happens ended
show-made w p = (tt, same-worlds w (world_step w (Show p)).world refl refl refl)

pub show_order-made : (w : World) → IsMadeIn w ShowOrder
unfolding smalls_in world_step happens ended
show_order-made w = (tt, same-worlds w (world_step w ShowOrder).world refl refl refl)

-- ---- a fault is armed

-- two worlds are one still where the second has other lines
pub same-lined : (w v : World) → IsSame w v → (lines : _) → IsSame w (record v { lines = lines })
same-lined w v same lines = record { group = same.group; nodes = same.nodes; running = same.running; disk = same.disk; given = same.given }

armed-same : (w : World) (p : ℕ) (strike : Strike) → IsRising 0 (map (λ s. s.id) w.nodes) → IsSame w (arm w p strike)
armed-same w p strike rising = at (node_of w p) refl where
  life-same : (s : Node) → node_of w p ≡ Some s → (life : NodeState) → s.life ≡ life → IsSame w (arm_at w p strike life)
  life-same s e (Down disk green) is = same-worlds w w refl refl refl
  life-same s e (Up r disk) is =
      let armed : NodeState = Up r (record disk { armed = Some strike }) in
      record {
        group = refl;
        nodes = sym (ids-found w.nodes p armed s e rising);
        running = λ q. sym (running-set w p armed q
            ∙ put-found (replica_of w) p (Some r) (ap (λ (o : Option Node). option_and_then (λ s. running s.life) o) e ∙ ap running is) q);
        disk = λ q. sym (disk-set w p armed q
            ∙ put-found (disk_held w) p (Some disk.content) (ap (λ (o : Option Node). option_map (λ s. on_disk s.life) o) e ∙ ap (λ l. Some (on_disk l)) is) q);
        given = λ joiner. refl;
      }

  at : (o : Option Node) → node_of w p ≡ o → IsSame w (option_map_or (λ s. arm_at w p strike s.life) o w)
  at None e = same-worlds w w refl refl refl
  at (Some s) e = life-same s e s.life refl

pub fail-made : (w : World) (p call : ℕ) → IsRising 0 (map (λ s. s.id) w.nodes) → IsMadeIn w (Fail p call)
unfolding smalls_in world_step happens ended
fail-made w p call rising =
    let strike : Strike = record { call = call; fault = FailOnce } in
    (tt, same-lined w (arm w p strike) (armed-same w p strike rising) ((world_step w (Fail p call)).world.lines))

pub armed-made : (w : World) (p call : ℕ) (fill : List ℕ) → IsRising 0 (map (λ s. s.id) w.nodes) → IsMadeIn w (Stop p (suc call) fill)
unfolding smalls_in world_step happens ended
armed-made w p call fill rising =
    let strike : Strike = record { call = suc call; fault = StopWith fill } in
    let none : smalls_in w (Stop p (suc call) fill) ≡ [] = ap (λ b. cond b (Crashes p ∷ []) []) (ne_eqb (suc call) 0 (λ e. (let clash : suc call ≡ 0 = e in cc))) in
    rw none (tt, same-lined w (arm w p strike) (armed-same w p strike rising) ((world_step w (Stop p (suc call) fill)).world.lines))

-- ---- the start

-- a set's list is one
pub set-is : (low : ℕ) (set : List ℕ) → Ascends low set → is_set_from low set ≡ true
set-is low [] a = refl
set-is low (p ∷ set) a = and_from _ _ (and_from _ _ (le-leb low p a.0) (le-leb p 32 a.1)) (set-is (suc p) set a.2)

pub start-made : (w : World) (set : List Weighted) → w ≡ no_world → IsWeightSet set → IsMadeIn w (Start set)
unfolding may_make may_in smalls_in small_in world_step happens ended
start-made w set none is = (
  (and_from (is_nil w.nodes) (is_set (ids set)) (ap (λ (v : World). is_nil v.nodes) none) (set-is 1 (ids set) is.ascends), tt),
  same-worlds (small_in w (Starts set)) (world_step w (Start set)).world refl refl refl,
)
