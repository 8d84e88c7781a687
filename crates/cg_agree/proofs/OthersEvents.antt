-- While a replica is down nobody else has an action of it that wasn't shown as made: that is kept by each event behind which it is down.
use Rattle.cg_states.specs.ReplicaStep.{Input, Deliveries, Asks as AsksOf, replica_step}
use Rattle.cg_action.specs.declared.action.Kind.TheVariants.{Update, Join as JoinKind, Leave as LeaveKind}
use Rattle.cg_schedule.specs.declared.event.Event.{Event}
use Rattle.cg_schedule.specs.declared.event.Event.TheVariants.{Start, Split, Merge, Request, Weak, Dirty, Order, Recover, RecoverStopped, Downgrade, Show, ShowOrder, Gather, End, Receive, Deliver, Rounds, Stop, Fail, Join, Leave, Transfer}
use Rattle.cg_group.specs.declared.delivery.Delivery.TheVariants.{Transitional as TransitionalIn, Regular as RegularIn}
use Rattle.cg_model.specs.FactsBooks.{AreShown, IsActionShown, IsMessageShown, IsNameShown, LifeIsDown, LifeShown, NodeIsDown, NodeShown, HoldsFine}
use Rattle.cg_model.specs.Step.{quietly, hand, hand_over, name_also, begin_replica, recover, joiner_replica, snapshot_for, without_snapshot, transfer, happens, world_step, downgrade}
use Rattle.cg_model.specs.AtNode.{arm_at, crash_at, recover_from, with_pieces, take_pieces}
use Rattle.cg_disk_records.specs.Stored.{recovery_turn as recover_disk}
use Rattle.cg_model.specs.World.{NodeState, Up, Down, Node, TransferState, World, has_begun, node_of, replica_of, set_life, bring_up, bring_down}
use Rattle.cg_group.specs.Events.{order, receive, gather, deliveries_at, handed_in_split, transitional_places, furthest, deliver, split, merge}
use Rattle.std.proofs.Common.{◌≡◌, ◌++◌, ◌∷◌, ◌≤◌, ◌∙◌, ◌-◌, ◌+◌, List, None, Option, Some, ap, arith, cond, eq-eqb, eqb-true, false, fold, inl, inr, length, map, min, refl, subst, suc, sym, zero, ℕ, []}
use Rattle.std.proofs.lemmas.Bool.{cases_eq, cond-true, cond_both}
use Rattle.std.specs.Option.{option_map_or}
use Rattle.std.specs.Prelude.{◌==◌}
use Rattle.cg_agree_lemmas.specs.BookedRows.{own-fine}
use Rattle.cg_agree_lemmas.specs.ChronicleFacts.{node_of-set}
use Rattle.cg_disk_records.specs.Holds.{Rising}
use Rattle.cg_agree.proofs.GroupSays.{GroupSays, says-down, says-gather, says-handed, says-merge, says-order, says-receive, says-split, says-up}
use Rattle.cg_agree_lemmas.specs.HeldCommit.{recovered-id}
use Rattle.cg_agree.proofs.MadeBookKept.{sound-at, transfer-unbegun}
use Rattle.cg_agree.proofs.MadeOnceKept.{places-come}
use Rattle.cg_agree_lemmas.specs.MadeSplit.{rising-set-list}
use Rattle.cg_agree_lemmas.specs.MadeWorlds.{LifeSound, NodeSound}
use Rattle.cg_agree.proofs.OthersShown.{EndFalls, InputShown, LifeFalls, NodeFalls, drop-shown, hand-shown, hands-shown}
use Rattle.cg_agree_lemmas.specs.RestsBehind.{handed-ids, split-to}
use Rattle.cg_agree_lemmas.specs.TurnWorlds.{life_at}
use Rattle.cg_agree_lemmas.specs.WorldTurns.{IsBehind, from-same, hand-behind, handed-behind}
use Rattle.cg_agree_lemmas.specs.DiskSwaps.{Swaps, downgrade-swaps, recover_under-cases}
use Rattle.cg_model.specs.Admission.{first_refusal}
use Rattle.cg_model.specs.Chronicle.{Chronicle}
use Rattle.cg_model.specs.FactsLists.{IsRising}
use Rattle.cg_model.specs.Played.{StandsBeside}
use Rattle.cg_model.specs.Run.{MayStand}
use Rattle.cg_model.specs.Show.{beyond, ended, unshown}
use Rattle.cg_base.specs.Cuts.{index_in}
use Rattle.cg_base.specs.Lists.{above_up_to, Each}
use Rattle.cg_base.specs.Weights.{ids}
use Rattle.cg_base.specs.declared.weighted.Weighted.{Weighted}
use Rattle.cg_client.specs.Replica.{NonPrim, Replica, fresh}
use Rattle.cg_client.specs.Turn.{begin}
use Rattle.cg_base.specs.EachLaws.{Each-append}
use Rattle.cg_group.specs.State.{GroupState, configuration, delivered_to, home, phase_of, regular_in}
use Rattle.cg_group.specs.declared.delivery.Handed.{Handed}
use Rattle.cg_queue.specs.Queue.{green_count, names_of}
use Rattle.cg_disk_records.specs.Crash.{Crashes, EventEnd, FailOnce, Runs, StopWith, Strike, at_rest, disk_recovered, end_event, new_disk, recovered}
use Rattle.cg_wire.specs.declared.message.Msg.{Msg}
use Rattle.cg_disk_records.specs.CutRaiseLaws.{behind-rises, rising-behind}
use Rattle.cg_client.specs.Joined.{piece_count}
use Rattle.cg_model.specs.Recorded.{OfDelivery}

-- ---- turns behind which it is down

module _ (p n : ℕ) (w u : World) (input : Input) (down : NodeIsDown (node_of u p)) where
  falls-stay : (o : Option Node) → NodeIsDown o → NodeFalls p n input o
  falls-stay None is = tt
  falls-stay (Some s) is = life s.life is where
    life : (l : NodeState) → LifeIsDown l → LifeFalls p n input l
    life (Up r disk) is = absurd is
    life (Down disk green) is = tt

  end-falls : (e : EventEnd) → LifeIsDown (life_at e) → EndFalls p n e
  end-falls (Runs r disk) is = absurd is
  end-falls (Crashes disk green) is = tt

  pub falls-of : IsBehind (λ q x. q ≡ p → x ≡ input) w u p → NodeFalls p n input (node_of w p)
  falls-of is = elim is [
    | inl same ↦ falls-stay (node_of w p) (subst NodeIsDown same down)
    | inr turn ↦
        let fallen : LifeIsDown (life_at (end_event turn.disk turn.replica.held (replica_step turn.replica turn.input))) = subst NodeIsDown turn.behind down in
        let end = end-falls (end_event turn.disk turn.replica.held (replica_step turn.replica turn.input)) fallen in
        subst (NodeFalls p n input) (sym turn.before)
        (subst (λ (x : Input). EndFalls p n (end_event turn.disk turn.replica.held (replica_step turn.replica x))) (turn.of refl) end)
  ]

each-map : (X : Handed Msg → Type 0) (f : ℕ → Handed Msg) → ((q : ℕ) → X (f q)) → (set : List ℕ) → Each X (map f set)
each-map X f each [] = tt
each-map X f each (q ∷ set) = (each q, each-map X f each set)

-- the start leaves nobody down
pub begun-up : (set : List Weighted) (p : ℕ) (list : List ℕ) (w : World) → (NodeIsDown (node_of w p) → ⊥) → NodeIsDown (node_of (fold (begin_replica set) w list) p) → ⊥
begun-up set p [] w up = up
begun-up set p (q ∷ list) w up = begun-up set p list (begin_replica set w q) (λ down. one (subst NodeIsDown (node_of-set (name_also w q) q (Up r (new_disk r.held)) p) down)) where
  r : Replica
  r = fresh q set

  one : NodeIsDown (cond (q == p) (Some (let s : Node = record { id = q; life = Up r (new_disk r.held) } in s)) (node_of w p)) → ⊥
  one = cond_both (q == p) (Some (let s : Node = record { id = q; life = Up r (new_disk r.held) } in s)) (node_of w p) (λ o. NodeIsDown o → ⊥) (λ y down. down) (λ no. up)

module _ (c : Chronicle) (w : World) (stands : StandsBeside c w) (p n : ℕ) (is : AreShown p n w) where
  sound : (q : ℕ) → NodeSound c.start q (node_of w q)
  sound q = sound-at c w stands q

  grouped : (g : GroupState Msg) → GroupSays (IsMessageShown p n) g → AreShown p n (record w { group = g })
  grouped g says = record { rising = is.rising; low = is.low; nodes = is.nodes; group = says; order = is.order }

  named : (list : List ℕ) → AreShown p n (record w { named = list })
  named list = record { rising = is.rising; low = is.low; nodes = is.nodes; group = is.group; order = is.order }

  -- one life changes
  set-shown : (v : World) (q : ℕ) (life : NodeState) → ((x : ℕ) → node_of v x ≡ cond (q == x) (Some (record { id = q; life = life })) (node_of w x)) → Rising 0 v.made → n ≤ index_in v.made p →
      GroupSays (IsMessageShown p n) v.group → Each (IsNameShown p n) v.order → ((q ≡ p → ⊥) → LifeShown p n life) → AreShown p n v
  set-shown v q life node rising low group order here = record {
    rising = rising;
    low = low;
    nodes = λ x other. subst (NodeShown p n) (sym (node x))
        (cond_both (q == x) (Some (let s : Node = record { id = q; life = life } in s)) (node_of w x) (NodeShown p n)
        (λ y. here (λ e. other (sym (eqb-true q x y) ∙ e))) (λ no. is.nodes x other));
    group = group;
    order = order;
  }

  -- ---- turns

  listed : (f : ℕ → Handed Msg) (same : (q : ℕ) → (f q).to ≡ q) (set : List ℕ) (g : GroupState Msg) → IsRising 1 set → GroupSays (IsMessageShown p n) g → ((q : ℕ) → Each (OfDelivery (IsActionShown p n)) (f q).list) →
      NodeIsDown (node_of (fold hand_over (quietly (record w { group = g })) (map f set)).world p) → AreShown p n (fold hand_over (quietly (record w { group = g })) (map f set)).world
  listed f same set g rise says come down =
      let v : World = record w { group = g } in
      let u = (fold hand_over (quietly v) (map f set)).world in
      let input : Input = Deliveries (f p).list in
      let Q : ℕ → Input → Type 0 = λ q x. q ≡ p → x ≡ input in
      let rises = handed-ids f same set 1 rise in
      let behind = handed-behind Q (map f set) (quietly v) 1 rises (each-map (λ h. Q h.to (Deliveries h.list)) f (λ q e. ap (λ x. Deliveries (f x).list) (sym (same q) ∙ e)) set) p in
      let falls = falls-of p n w u input down (from-same Q w v u p refl behind) in
      hands-shown p n c.start w (map f set) (quietly v) 1 rises (λ q le. refl) sound
      (each-map (λ h. Each (OfDelivery (IsActionShown p n)) h.list × (h.to ≡ p → NodeFalls p n (Deliveries h.list) (node_of w h.to))) f (λ q. (
        come q,
        λ e. subst (λ (x : ℕ). NodeFalls p n (Deliveries (f x).list) (node_of w (f x).to)) (sym (sym (same q) ∙ e)) (subst (λ (x : ℕ). NodeFalls p n input (node_of w x)) (sym (same p)) falls),
      )) set)
      (grouped g says)

  -- one replica takes its turn, in a world with the same nodes
  alone : (v : World) (q : ℕ) (input : Input) → AreShown p n v → ((x : ℕ) → node_of v x ≡ node_of w x) → ((other : q ≡ p → ⊥) → InputShown p n q other input) →
      NodeIsDown (node_of (hand (quietly v) q input).world p) → AreShown p n (hand (quietly v) q input).world
  alone v q input are nodes come down =
      let u = (hand (quietly v) q input).world in
      let Q : ℕ → Input → Type 0 = λ x y. x ≡ p → y ≡ input in
      let falls = falls-of p n v u input down (hand-behind Q (quietly v) q input (λ e. refl) p) in
      hand-shown p n c.start (quietly v) q input (subst (NodeSound c.start q) (sym (nodes q)) (sound q)) come
      (λ e. subst (λ (x : ℕ). NodeFalls p n input (node_of v x)) (sym e) falls) are

  -- what is delivered of a configuration
  places-shown : (conf : ℕ) (places : List ℕ) → Each (OfDelivery (IsActionShown p n)) (deliveries_at (configuration w.group conf) places)
  places-shown conf places = places-come (IsActionShown p n) (configuration w.group conf) places (is.group.0 conf)

  split-shown : (set : List ℕ) (q : ℕ) → Each (OfDelivery (IsActionShown p n)) (handed_in_split w.group set q).list
  unfolding handed_in_split
  split-shown set q =
      let conf = regular_in (phase_of w.group q) in
      let k = furthest w.group set in
      Each-append (OfDelivery (IsActionShown p n)) (deliveries_at (configuration w.group conf) (above_up_to (delivered_to w.group q) k))
      (TransitionalIn conf set ∷ deliveries_at (configuration w.group conf) (transitional_places (configuration w.group conf) set k))
      (places-shown conf (above_up_to (delivered_to w.group q) k)) (tt, places-shown conf (transitional_places (configuration w.group conf) set k))

  -- ---- who goes down, and who comes up

  stopped : (q : ℕ) → AreShown p n (option_map_or (λ s. crash_at w q s.life) (node_of w q) w)
  stopped q = at (node_of w q) (is.nodes q) where
    life : (l : NodeState) → ((q ≡ p → ⊥) → LifeShown p n l) → AreShown p n (crash_at w q l)
    life (Up r disk) shown =
        set-shown (bring_down w q (Down (at_rest disk) [])) q (Down (at_rest disk) []) (λ x. node_of-set w q (Down (at_rest disk) []) x) is.rising is.low
        (says-down (IsMessageShown p n) w.group q is.group) is.order (λ other. ((shown other).1, tt))
    life (Down disk green) shown = is

    at : (o : Option Node) → ((q ≡ p → ⊥) → NodeShown p n o) → AreShown p n (option_map_or (λ s. crash_at w q s.life) o w)
    at None shown = is
    at (Some s) shown = life s.life shown

  armed : (q : ℕ) (strike : Strike) → AreShown p n (option_map_or (λ s. arm_at w q strike s.life) (node_of w q) w)
  armed q strike = at (node_of w q) (is.nodes q) where
    life : (l : NodeState) → ((q ≡ p → ⊥) → LifeShown p n l) → AreShown p n (arm_at w q strike l)
    life (Up r disk) shown =
        let new : NodeState = Up r (record disk { armed = Some strike }) in
        set-shown (set_life w q new) q new (λ x. node_of-set w q new x) is.rising is.low is.group is.order shown
    life (Down disk green) shown = is

    at : (o : Option Node) → ((q ≡ p → ⊥) → NodeShown p n o) → AreShown p n (option_map_or (λ s. arm_at w q strike s.life) o w)
    at None shown = is
    at (Some s) shown = life s.life shown

  swapped : (v : World) (q : ℕ) → Swaps w v q → AreShown p n v
  swapped v q swaps = elim swaps [
    | inl same ↦ subst (AreShown p n) (sym same) is
    | inr other ↦
        let new : NodeState = Down other.new other.green in
        subst (AreShown p n) (sym other.world)
        (set-shown (set_life w q new) q new (λ x. node_of-set w q new x) is.rising is.low is.group is.order
        (λ apart. (
        let shown : LifeShown p n (Down other.old other.green) = subst (NodeShown p n) other.node (is.nodes q apart) in
        (subst (HoldsFine (IsActionShown p n)) (sym other.content) shown.0, shown.1)
        )))
  ]

  came-up-shown : (q : ℕ) → NodeIsDown (node_of (recover w q).world p) → AreShown p n (recover w q).world
  unfolding recover_disk
  came-up-shown q = at (node_of w q) (sound q) (is.nodes q) where
    life : (l : NodeState) → LifeSound c.start q l → ((q ≡ p → ⊥) → LifeShown p n l) → NodeIsDown (node_of (recover_from w l).world p) → AreShown p n (recover_from w l).world
    life (Up r disk) core shown down = is
    life (Down disk green) core shown down =
        let r = recovered disk in
        let new : NodeState = Up r (disk_recovered disk) in
        let id : r.held.id ≡ q = recovered-id disk.content ∙ core.id in
        let node : (x : ℕ) → node_of (recover_from w (Down disk green)).world x ≡ cond (q == x) (Some (record { id = q; life = new })) (node_of w x) =
        λ x. node_of-set w r.held.id new x ∙ ap (λ m. cond (m == x) (Some (record { id = m; life = new })) (node_of w x)) id in
        elim (cases_eq q p) [
          | inl same ↦ absurd (subst NodeIsDown (node p ∙ cond-true (q == p) (Some (let s : Node = record { id = q; life = new } in s)) (node_of w p) (eq-eqb q p same)) down)
          | inr other ↦
              let here = shown other in
              set-shown (recover_from w (Down disk green)).world q new node (rising-behind w.made (names_of (unshown w.made r.held)) is.rising)
              (let up = behind-rises w.made (names_of (unshown w.made r.held)) p is.rising in let was = is.low in omega arith)
              (says-up (IsMessageShown p n) w.group r.held.id is.group)
              (Each-append (IsNameShown p n) w.order (beyond w.order green (green_count r.held.queue)) is.order
              (drop-shown p n (length w.order + length green - green_count r.held.queue) green here.1))
              (λ other. (own-fine (IsActionShown p n) (begin (record { held = disk.content; state = NonPrim false })) here.0, here.0))
        ]

    at : (o : Option Node) → NodeSound c.start q o → ((q ≡ p → ⊥) → NodeShown p n o) → NodeIsDown (node_of (option_map_or (λ s. recover_from w s.life) o (quietly w)).world p) →
        AreShown p n (option_map_or (λ s. recover_from w s.life) o (quietly w)).world
    at None core shown down = is
    at (Some s) core shown down = life s.life core shown down

  -- ---- joiners

  pieces-shown : (s : TransferState) (taken : ℕ) → Each (IsActionShown p n) s.content.queue.greens → AreShown p n (with_pieces w s taken)
  pieces-shown s taken greens =
      let others = without_snapshot w s.joiner in
      let r = joiner_replica s.joiner s.content in
      let left : AreShown p n (record others { snapshots = others.snapshots ++ record s { taken = taken } ∷ [] }) =
      record { rising = is.rising; low = is.low; nodes = is.nodes; group = is.group; order = is.order } in
      cond_both (taken == piece_count s.content) (bring_up others r (new_disk r.held)) (record others { snapshots = others.snapshots ++ record s { taken = taken } ∷ [] }) (AreShown p n)
      (λ y. set-shown (bring_up others r (new_disk r.held)) s.joiner (Up r (new_disk r.held)) (λ x. node_of-set others s.joiner (Up r (new_disk r.held)) x) is.rising is.low
      (says-up (IsMessageShown p n) w.group s.joiner is.group) is.order
      (λ other. (record { greens = greens; reds = tt; own = tt }, record { greens = greens; reds = tt; own = tt })))
      (λ no. left)

  -- what a joiner is to begin with has none of it
  abbrev pub CopiesShown : Type 0
  CopiesShown = (q joiner : ℕ) (r : Replica) → replica_of w q ≡ Some r → has_begun w joiner ≡ false → Each (IsActionShown p n) (snapshot_for w q joiner r).content.queue.greens

  transferred-shown : CopiesShown → (q joiner pieces : ℕ) → has_begun w joiner ≡ false → AreShown p n (transfer w q joiner pieces).world
  transferred-shown copied q joiner pieces none = at (replica_of w q) refl where
    at : (o : Option Replica) → replica_of w q ≡ o → AreShown p n (option_map_or (λ r. take_pieces w (snapshot_for w q joiner r) pieces) o (quietly w)).world
    at None e = is
    at (Some r) e = (let s = snapshot_for w q joiner r in pieces-shown s (min (piece_count s.content) (s.taken + pieces)) (copied q joiner r e none))

  -- ---- events

  happens-shown : CopiesShown → (e : Event) → MayStand w e → first_refusal w e ≡ None → NodeIsDown (node_of (happens w e).world p) → AreShown p n (happens w e).world
  unfolding happens split merge deliver
  happens-shown copied (Start set) may admitted down =
      absurd (begun-up set p (ids set) w (subst (λ (v : World). NodeIsDown (node_of v p) → ⊥) (sym may.0) (λ down. down)) down)
  happens-shown copied (Split set) may admitted down =
      listed (handed_in_split w.group set) (split-to w.group set) set (split w.group set).group (rising-set-list 1 set may.1.ascends) (says-split (IsMessageShown p n) w.group set is.group) (split-shown set) down
  happens-shown copied (Merge set) may admitted down =
      let f : ℕ → Handed Msg = λ q. record { to = q; list = RegularIn (suc (length w.group.configurations)) set ∷ [] } in
      listed f (λ q. refl) set (merge w.group set).group (rising-set-list 1 set may.1.ascends) (says-merge (IsMessageShown p n) w.group set is.group) (λ q. (tt, tt)) down
  happens-shown copied (Request q cmds query) may admitted down = alone w q (AsksOf (Update cmds query)) is (λ x. refl) (λ other. tt) down
  happens-shown copied (Weak q query) may admitted down = is
  happens-shown copied (Dirty q query) may admitted down = is
  happens-shown copied (Order q) may admitted down = grouped (order w.group q) (says-order (IsMessageShown p n) w.group q is.group)
  happens-shown copied (Recover q) may admitted down = came-up-shown q down
  happens-shown copied (RecoverStopped q call fill) may admitted down =
      recover_under-cases w q (record { call = call; fault = StopWith fill }) (λ go. NodeIsDown (node_of go.world p) → AreShown p n go.world) (λ v swaps down. swapped v q swaps) (came-up-shown q) down
  happens-shown copied (Downgrade q) may admitted down = swapped (downgrade w q) q (downgrade-swaps w q)
  happens-shown copied (Show q) may admitted down = is
  happens-shown copied ShowOrder may admitted down = is
  happens-shown copied Gather may admitted down = grouped (gather w.group) (says-gather (IsMessageShown p n) w.group is.group)
  happens-shown copied End may admitted down = absurd may
  happens-shown copied (Receive q place) may admitted down = grouped (receive w.group q place) (says-receive (IsMessageShown p n) w.group q place is.group)
  happens-shown copied (Deliver q count) may admitted down =
      let g = w.group in
      let from = delivered_to g q in
      let h = (deliver g q count).group in
      alone (record w { group = h }) q (Deliveries (deliveries_at (home g q) (above_up_to from (from + count)))) (grouped h (says-handed (IsMessageShown p n) g q (from + count) is.group)) (λ x. refl)
      (λ other. places-shown (regular_in (phase_of g q)) (above_up_to from (from + count))) down
  happens-shown copied (Rounds count) may admitted down = absurd may
  happens-shown copied (Stop q zero fill) may admitted down = stopped q
  happens-shown copied (Stop q (suc call) fill) may admitted down = armed q (record { call = suc call; fault = StopWith fill })
  happens-shown copied (Fail q call) may admitted down = armed q (record { call = call; fault = FailOnce })
  happens-shown copied (Join q joiner weight) may admitted down = alone (name_also w joiner) q (AsksOf (JoinKind joiner weight)) (named (name_also w joiner).named) (λ x. refl) (λ other. tt) down
  happens-shown copied (Leave q server) may admitted down = alone w q (AsksOf (LeaveKind server)) is (λ x. refl) (λ other. tt) down
  happens-shown copied (Transfer q joiner pieces) may admitted down = transferred-shown copied q joiner pieces (transfer-unbegun w q joiner pieces admitted)

  -- Behind an event behind which the replica is down it is so still.
  pub event-shown : CopiesShown → (e : Event) → MayStand w e → first_refusal w e ≡ None → NodeIsDown (node_of (world_step w e).world p) → AreShown p n (world_step w e).world
  unfolding world_step ended
  event-shown copied e may admitted down =
      let all = happens-shown copied e may admitted down in
      record { rising = all.rising; low = all.low; nodes = all.nodes; group = all.group; order = all.order }
