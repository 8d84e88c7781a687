-- What each event shows as made stands with replicas that are up, and its names are each the next of their creators.
use Rattle.std.proofs.Common.{◌≡◌, ℕ, zero, suc, ◌+◌, ◌≤◌, min, List, [], ◌∷◌, ◌++◌, map, find, fold, length, Option, Some, None, IfSome, refl, sym, ap, ◌∙◌, subst, inl, inr, arith, option_map}
use Rattle.std.specs.Prelude.{◌==◌}
use Rattle.std.specs.Option.{option_map_or}
use Rattle.std.proofs.lemmas.Bool.{cond_both}
use Rattle.cg_base.specs.declared.weighted.Weighted.{Weighted}
use Rattle.cg_base.specs.Cuts.{index_in}
use Rattle.cg_base.specs.Lists.{above_up_to}
use Rattle.cg_base.specs.Weights.{ids}
use Rattle.cg_action.specs.declared.action.Kind.TheVariants.{Update, Join as JoinKind, Leave as LeaveKind}
use Rattle.cg_wire.specs.declared.message.Msg.{Msg}
use Rattle.cg_group.specs.declared.delivery.Handed.{Handed}
use Rattle.cg_group.specs.declared.delivery.Delivery.TheVariants.{Regular as RegularIn}
use Rattle.cg_group.specs.State.{delivered_to, home}
use Rattle.cg_group.specs.Events.{order, receive, gather, deliveries_at, handed_in_split, deliver, split, merge}
use Rattle.cg_client.specs.Replica.{Held, Replica, fresh}
use Rattle.cg_states.specs.ReplicaStep.{Input, Deliveries, Asks as AsksOf}
use Rattle.cg_disk_records.specs.Crash.{FailOnce, StopWith, Strike, at_rest, new_disk}
use Rattle.cg_schedule.specs.declared.event.Event.{Event}
use Rattle.cg_schedule.specs.declared.event.Event.TheVariants.{Start, Split, Merge, Request, Weak, Dirty, Order, Recover, RecoverStopped, Downgrade, Show, ShowOrder, Gather, End, Receive, Deliver, Rounds, Stop, Fail, Join, Leave, Transfer}
use Rattle.cg_report.specs.declared.entry.Made.{Made}
use Rattle.cg_model.specs.FactsBooks.{LifeMade, MadeFits, NodeMade}
use Rattle.cg_model.specs.World.{NodeState, Up, Down, Node, TransferState, World, node_of, replica_of, bring_up, set_life}
use Rattle.cg_model.specs.Show.{StepInProgress, ended}
use Rattle.cg_model.specs.Run.{MayStand}
use Rattle.cg_model.specs.Step.{quietly, hand, hand_over, name_also, begin_replica, joiner_replica, snapshot_for, without_snapshot, transfer, happens, world_step, downgrade}
use Rattle.cg_model.specs.AtNode.{hand_to, arm_at, crash_at, recover_from, with_pieces, take_pieces}
use Rattle.cg_model.specs.Chronicle.{Chronicle}
use Rattle.cg_model.specs.Looks.{on_disk, disk_held, stood_of}
use Rattle.cg_model.specs.FactsLists.{IsRising}
use Rattle.cg_model.specs.FactsReplica.{IsCore}
use Rattle.cg_model.specs.Played.{StandsBeside}
use Rattle.cg_agree_lemmas.specs.ChronicleFacts.{node_of-set}
use Rattle.cg_agree_lemmas.specs.MadeSplit.{rising-set-list}
use Rattle.cg_agree_lemmas.specs.RestsBehind.{handed-ids, split-to}
use Rattle.cg_agree_lemmas.specs.WorldTurns.{hand-behind}
use Rattle.cg_agree_lemmas.specs.MadeWorlds.{NodeSound, fits-same, hand-fits}
use Rattle.cg_agree.proofs.MadeBookKept.{sound-at}
use Rattle.cg_agree_lemmas.specs.MadeShown.{AreLast, NodeLast, AddsTo, Adds, adds-wider, LifeWell, NodeWell, last-set, core-last, turn-adds, none-adds, recovery-adds}
use Rattle.cg_agree_lemmas.specs.DiskSwaps.{Swaps, downgrade-swaps, recover_under-cases}
use Rattle.cg_agree_lemmas.specs.RecoveryMakes.{IsOwnLast}
use Rattle.cg_client.specs.Joined.{piece_count}

-- ---- what is handed

-- a step under way, in which replicas below that one took their turns
record IsUnderWay (start : List Weighted) (w : World) (low : ℕ) (go : StepInProgress) : Type 0 where
  adds : AddsTo w low go
  fits : MadeFits go.world
  well : (p : ℕ) → low ≤ p → NodeWell start p (node_of go.world p)

hand-adds : (start : List Weighted) (w : World) (go : StepInProgress) (p : ℕ) (input : Input) → IsUnderWay start w p go → AddsTo w (suc p) (hand go p input)
unfolding hand
hand-adds start w go p input way = at (node_of go.world p) (way.well p (let same : p ≤ p = omega arith in same)) (way.fits.nodes p) where
  none : AddsTo w (suc p) go
  none = adds-wider w p (suc p) go.made go.world (let le : p ≤ suc p = omega arith in le) way.adds

  life : (l : NodeState) → LifeWell start p l → LifeMade (index_in go.world.made p) p l → AddsTo w (suc p) (hand_to go p input l)
  life (Up r disk) well made = turn-adds start w go p r disk input well way.fits.rising made way.adds
  life (Down disk green) well made = none

  at : (o : Option Node) → NodeWell start p o → NodeMade (index_in go.world.made p) p o → AddsTo w (suc p) (option_map_or (λ s. hand_to go p input s.life) o go)
  at None well made = none
  at (Some s) well made = life s.life well made

well-sound : (start : List Weighted) (p : ℕ) (o : Option Node) → NodeWell start p o → NodeSound start p o
well-sound start p None well = tt
well-sound start p (Some s) well = well.0

abbrev pub AddsSome : World → List Made → World → Type 0
AddsSome w list v = (low : ℕ) × Adds w low list v

handed-adds : (start : List Weighted) (w : World) (list : List (Handed Msg)) (go : StepInProgress) (low : ℕ) → IsRising low (map (λ h. h.to) list) → IsUnderWay start w low go →
    (let g = fold hand_over go list in AddsSome w g.made g.world)
handed-adds start w [] go low rise way = (low, way.adds)
handed-adds start w (h ∷ list) go low rise way =
    let p = h.to in
    let first = rise.0 in
    let here : IsUnderWay start w p go = record { adds = adds-wider w low p go.made go.world first way.adds; fits = way.fits; well = λ q le. way.well q (omega arith) } in
    handed-adds start w list (hand_over go h) (suc p) rise.1 (record {
      adds = hand-adds start w go p (Deliveries h.list) here;
      fits = hand-fits start go p (Deliveries h.list) (well-sound start p (node_of go.world p) (way.well p first)) way.fits;
      well = λ q le. subst (NodeWell start q) (sym (stays q le)) (way.well q (omega arith));
    }) where
      stays : (q : ℕ) → suc h.to ≤ q → node_of (hand_over go h).world q ≡ node_of go.world q
      stays q le = elim (hand-behind (λ x input. x ≡ h.to) go h.to (Deliveries h.list) refl q) [
        | inl same ↦ same
        | inr turn ↦ absurd (let same : q ≡ h.to = turn.of in omega arith)
      ]

-- ---- who begins, and who goes down

-- nothing is shown of it
record IsQuiet (w v : World) : Type 0 where
  made : v.made ≡ w.made
  order : v.order ≡ w.order
  last : AreLast v.made v.nodes

quiet-adds : (w v : World) → IsQuiet w v → AddsSome w [] v
quiet-adds w v is = (0, none-adds w v 0 is.made is.order is.last)

begun-last : (set : List Weighted) (list : List ℕ) (w : World) → AreLast w.made w.nodes → IsQuiet w (fold (begin_replica set) w list)
begun-last set [] w last = record { made = refl; order = refl; last = last }
begun-last set (p ∷ list) w last =
    let r = fresh p set in
    let v = begin_replica set w p in
    let rest = begun-last set list v (last-set w v p (Up r (new_disk r.held)) (λ q. node_of-set (name_also w p) p (Up r (new_disk r.held)) q) tt (λ q apart. refl) last) in
    record { made = rest.made; order = rest.order; last = rest.last }

module _ (start : List Weighted) (w : World) (p : ℕ) (well : NodeWell start p (node_of w p)) (fits : MadeFits w) (last : AreLast w.made w.nodes) where
  of-node : (f : NodeState → World) → ((l : NodeState) → LifeWell start p l → LifeMade (index_in w.made p) p l → IsQuiet w (f l)) → IsQuiet w (option_map_or (λ s. f s.life) (node_of w p) w)
  of-node f each = at (node_of w p) well (fits.nodes p) where
    at : (o : Option Node) → NodeWell start p o → NodeMade (index_in w.made p) p o → IsQuiet w (option_map_or (λ s. f s.life) o w)
    at None well made = record { made = refl; order = refl; last = last }
    at (Some s) well made = each s.life well made

  stopped-quiet : IsQuiet w (option_map_or (λ s. crash_at w p s.life) (node_of w p) w)
  stopped-quiet = of-node (crash_at w p) life where
    life : (l : NodeState) → LifeWell start p l → LifeMade (index_in w.made p) p l → IsQuiet w (crash_at w p l)
    life (Up r disk) well made = record {
      made = refl;
      order = refl;
      last = last-set w (crash_at w p (Up r disk)) p (Down (at_rest disk) []) (λ q. node_of-set w p (Down (at_rest disk) []) q)
          (core-last start (index_in w.made p) p disk.content well.1 (made ∙ well.0.1.created)) (λ q apart. refl) last;
    }
    life (Down disk green) well made = record { made = refl; order = refl; last = last }

  armed-quiet : (strike : Strike) → IsQuiet w (option_map_or (λ s. arm_at w p strike s.life) (node_of w p) w)
  armed-quiet strike = of-node (arm_at w p strike) life where
    life : (l : NodeState) → LifeWell start p l → LifeMade (index_in w.made p) p l → IsQuiet w (arm_at w p strike l)
    life (Up r disk) well made = record {
      made = refl;
      order = refl;
      last = last-set w (arm_at w p strike (Up r disk)) p (Up r (record disk { armed = Some strike })) (λ q. node_of-set w p (Up r (record disk { armed = Some strike })) q) tt (λ q apart. refl) last;
    }
    life (Down disk green) well made = record { made = refl; order = refl; last = last }

swapped-quiet : (w v : World) (p : ℕ) → AreLast w.made w.nodes → Swaps w v p → IsQuiet w v
swapped-quiet w v p last is = elim is [
  | inl same ↦ subst (IsQuiet w) (sym same) (record { made = refl; order = refl; last = last })
  | inr other ↦
      let new : NodeState = Down other.new other.green in
      let here : IsOwnLast (index_in w.made p) p other.old.content = subst (NodeLast (index_in w.made p) p) other.node (last p) in
      subst (IsQuiet w) (sym other.world) (record {
        made = refl;
        order = refl;
        last = last-set w (set_life w p new) p new (λ q. node_of-set w p new q) (subst (IsOwnLast (index_in w.made p) p) (sym other.content) here) (λ q apart. refl) last;
      })
]

-- a joiner comes up
pieces-quiet : (w : World) (s : TransferState) (taken : ℕ) → AreLast w.made w.nodes → IsQuiet w (with_pieces w s taken)
pieces-quiet w s taken last =
    let others = without_snapshot w s.joiner in
    let r = joiner_replica s.joiner s.content in
    cond_both (taken == piece_count s.content) (bring_up others r (new_disk r.held)) (record others { snapshots = others.snapshots ++ record s { taken = taken } ∷ [] }) (IsQuiet w)
    (λ y. record { made = refl; order = refl; last = last-set w (bring_up others r (new_disk r.held)) s.joiner (Up r (new_disk r.held)) (λ q. node_of-set others s.joiner (Up r (new_disk r.held)) q) tt (λ q apart. refl) last })
    (λ n. record { made = refl; order = refl; last = last })

-- ---- events

module _ (c : Chronicle) (w : World) (stands : StandsBeside c w) (fits : MadeFits w) (last : AreLast w.made w.nodes) where
  well-at : (p : ℕ) → NodeWell c.start p (node_of w p)
  well-at p = at (node_of w p) refl (sound-at c w stands p) where
    at : (o : Option Node) → node_of w p ≡ o → NodeSound c.start p o → NodeWell c.start p o
    at None e sound = tt
    at (Some s) e sound =
        let content = on_disk s.life in
        let has : disk_held w p ≡ Some content = ap (λ (o : Option Node). option_map (λ s. on_disk s.life) o) e in
        let here : disk_held c.world p ≡ Some content = sym (stands.same.disk p) ∙ has in
        let core = subst (λ (o : Option Held). IfSome o (λ h. IsCore c h (stood_of c p))) here (stands.facts.replica.cores.disk p) in
        let id = subst (λ (o : Option Held). IfSome o (λ h. h.id ≡ p)) here (stands.facts.net.hosted.disk p) in (
          sound,
          record {
            greens = stood_of c p;
            is = record { made_of = core.made_of; contiguous = core.contiguous; yellow_closed = core.yellow_closed };
            id = id;
          },
        )

  unchanged : AddsSome w [] w
  unchanged = quiet-adds w w (record { made = refl; order = refl; last = last })

  under-way : (low : ℕ) (v : World) → v.nodes ≡ w.nodes → v.made ≡ w.made → v.order ≡ w.order → IsUnderWay c.start w low (quietly v)
  under-way low v nodes made order = record {
    adds = none-adds w v low made order (subst (λ m. AreLast m v.nodes) (sym made) (subst (AreLast w.made) (sym nodes) last));
    fits = fits-same w v nodes made fits;
    well = λ p le. subst (NodeWell c.start p) (ap (λ (list : List Node). find (λ s. s.id == p) list) (sym nodes)) (well-at p);
  }

  one-turn : (v : World) (p : ℕ) (input : Input) → v.nodes ≡ w.nodes → v.made ≡ w.made → v.order ≡ w.order → (let g = hand (quietly v) p input in AddsSome w g.made g.world)
  one-turn v p input nodes made order = (suc p, hand-adds c.start w (quietly v) p input (under-way p v nodes made order))

  recovered-adds : (p : ℕ) → (let g = option_map_or (λ s. recover_from w s.life) (node_of w p) (quietly w) in AddsSome w g.made g.world)
  recovered-adds p = at (node_of w p) (well-at p) (fits.nodes p) (last p) where
    at : (o : Option Node) → NodeWell c.start p o → NodeMade (index_in w.made p) p o → NodeLast (index_in w.made p) p o →
        (let g = option_map_or (λ s. recover_from w s.life) o (quietly w) in AddsSome w g.made g.world)
    at None well made is = unchanged
    at (Some s) well made is = (suc p, recovery-adds c.start w p s.life well fits.rising made is last)

  transferred-adds : (p joiner pieces : ℕ) → (let g = transfer w p joiner pieces in AddsSome w g.made g.world)
  transferred-adds p joiner pieces = at (replica_of w p) where
    at : (o : Option Replica) → (let g = option_map_or (λ r. take_pieces w (snapshot_for w p joiner r) pieces) o (quietly w) in AddsSome w g.made g.world)
    at None = unchanged
    at (Some r) = (let s = snapshot_for w p joiner r in let taken = min (piece_count s.content) (s.taken + pieces) in quiet-adds w (with_pieces w s taken) (pieces-quiet w s taken last))

  happens-adds : (e : Event) → MayStand w e → (let g = happens w e in AddsSome w g.made g.world)
  unfolding happens split merge deliver
  happens-adds (Start set) may = quiet-adds w (fold (begin_replica set) w (ids set)) (begun-last set (ids set) w last)
  happens-adds (Split set) may =
      handed-adds c.start w (map (handed_in_split w.group set) set) (quietly (record w { group = (split w.group set).group })) 1
      (handed-ids (handed_in_split w.group set) (split-to w.group set) set 1 (rising-set-list 1 set may.1.ascends)) (under-way 1 (record w { group = (split w.group set).group }) refl refl refl)
  happens-adds (Merge set) may =
      let f : ℕ → Handed Msg = λ p. record { to = p; list = RegularIn (suc (length w.group.configurations)) set ∷ [] } in
      handed-adds c.start w (map f set) (quietly (record w { group = (merge w.group set).group })) 1
      (handed-ids f (λ p. refl) set 1 (rising-set-list 1 set may.1.ascends)) (under-way 1 (record w { group = (merge w.group set).group }) refl refl refl)
  happens-adds (Request p cmds query) may = one-turn w p (AsksOf (Update cmds query)) refl refl refl
  happens-adds (Weak p query) may = unchanged
  happens-adds (Dirty p query) may = unchanged
  happens-adds (Order p) may = quiet-adds w (record w { group = order w.group p }) (record { made = refl; order = refl; last = last })
  happens-adds (Recover p) may = recovered-adds p
  happens-adds (RecoverStopped p call fill) may =
      recover_under-cases w p (record { call = call; fault = StopWith fill }) (λ go. AddsSome w go.made go.world) (λ v is. quiet-adds w v (swapped-quiet w v p last is)) (recovered-adds p)
  happens-adds (Downgrade p) may = quiet-adds w (downgrade w p) (swapped-quiet w (downgrade w p) p last (downgrade-swaps w p))
  happens-adds (Show p) may = unchanged
  happens-adds ShowOrder may = unchanged
  happens-adds Gather may = quiet-adds w (record w { group = gather w.group }) (record { made = refl; order = refl; last = last })
  happens-adds End may = unchanged
  happens-adds (Receive p place) may = quiet-adds w (record w { group = receive w.group p place }) (record { made = refl; order = refl; last = last })
  happens-adds (Deliver p count) may =
      let g = w.group in
      let from = delivered_to g p in
      let list = deliveries_at (home g p) (above_up_to from (from + count)) in
      one-turn (record w { group = (deliver g p count).group }) p (Deliveries list) refl refl refl
  happens-adds (Rounds count) may = unchanged
  happens-adds (Stop p zero fill) may = quiet-adds w _ (stopped-quiet c.start w p (well-at p) fits last)
  happens-adds (Stop p (suc call) fill) may = quiet-adds w _ (armed-quiet c.start w p (well-at p) fits last (record { call = suc call; fault = StopWith fill }))
  happens-adds (Fail p call) may = quiet-adds w _ (armed-quiet c.start w p (well-at p) fits last (record { call = call; fault = FailOnce }))
  happens-adds (Join p joiner weight) may = one-turn (name_also w joiner) p (AsksOf (JoinKind joiner weight)) refl refl refl
  happens-adds (Leave p server) may = one-turn w p (AsksOf (LeaveKind server)) refl refl refl
  happens-adds (Transfer p joiner pieces) may = transferred-adds p joiner pieces

  -- the step of an event
  pub event-adds : (e : Event) → MayStand w e → (let m = world_step w e in AddsSome w m.entry.made m.world)
  unfolding world_step ended
  event-adds e may =
      let is = happens-adds e may in
      let adds = is.1 in
      (is.0, record { run = adds.run; cut = adds.cut; there = adds.there; below = adds.below; last = adds.last; reach = adds.reach })
