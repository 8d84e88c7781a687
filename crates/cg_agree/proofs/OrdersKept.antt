-- The printed order is kept by each event: it stays on the newest level's line, and no action stands in it before it was shown as made.
use Rattle.cg_states.specs.ReplicaStep.{Input, Deliveries, Asks as AsksOf}
use Rattle.cg_group.specs.Events.{order as order_group, receive, gather, deliveries_at, handed_in_split, deliver, split, merge}
use Rattle.cg_action.specs.declared.action.Kind.TheVariants.{Update, Join as JoinKind, Leave as LeaveKind}
use Rattle.cg_schedule.specs.declared.event.Event.{Event}
use Rattle.cg_schedule.specs.declared.event.Event.TheVariants.{Start, Split, Merge, Request, Weak, Dirty, Order, Recover, RecoverStopped, Downgrade, Show, ShowOrder, Gather, End, Receive, Deliver, Rounds, Stop, Fail, Join, Leave, Transfer}
use Rattle.cg_group.specs.declared.delivery.Delivery.TheVariants.{Regular as RegularIn}
use Rattle.cg_model.specs.FactsBooks.{AreShown, IsNameShown, KeepsUnshown, LifeIsDown, LifeToShow, MadeFits, OrderFits, NodeIsDown, NodeToShow}
use Rattle.cg_model.specs.Step.{quietly, ask, hand_out, name_also, begin_replica, arm, stop, recover, joiner_replica, snapshot_for, without_snapshot, transfer, happens, world_step, downgrade, recover_under}
use Rattle.cg_model.specs.AtNode.{arm_at, crash_at, recover_from, take_pieces}
use Rattle.cg_model.specs.World.{NodeState, Up, Down, Node, TransferState, World, no_world, running, node_of, replica_of, bring_up}
use Rattle.cg_model.specs.Show.{ended}
use Rattle.cg_model.specs.Small.{Starts, small_step, Small}
use Rattle.cg_model.specs.Smalls.{smalls_in}
use Rattle.cg_agree_lemmas.specs.RestsBehind.{handed-ids, split-to, each-handed}
use Rattle.cg_agree_lemmas.specs.MadeSplit.{rising-set-list}
use Rattle.cg_agree.proofs.MovesKept.{kept-by-smalls}
use Rattle.cg_model.specs.Chronicle.{Chronicle, no_chronicle}
use Rattle.std.proofs.Common.{◌≡◌, ◌++◌, ◌∷◌, ◌≤◌, ◌∙◌, ◌+◌, Bool, IfSome, List, None, Option, Some, ap, arith, cond, false, fold, length, map, min, nat_le, option_and_then, option_map, refl, subst, suc, sym, take, true, zero, ℕ, [], inl, inr}
use Rattle.std.proofs.lemmas.Bool.{and_from, le-leb}
use Rattle.std.specs.List.{list_all}
use Rattle.std.specs.Option.{option_map_or}
use Rattle.std.specs.Prelude.{◌==◌}
use Rattle.cg_action.specs.declared.action.Action.{Action}
use Rattle.cg_agree_lemmas.specs.BookGrows.{IsNamed, cut_of}
use Rattle.cg_agree_lemmas.specs.BookedCores.{each-booked, front-each}
use Rattle.cg_agree_lemmas.specs.ChronicleFacts.{node_of-set}
use Rattle.cg_agree.proofs.CopiesBooked.{greens-on_line}
use Rattle.cg_agree.proofs.CopiesOrdered.{IsCopied, copied-behind, copies-first, copies-shown, copy-count, replica-copy}
use Rattle.cg_agree.proofs.CreatorNumbered.{names-take}
use Rattle.cg_agree_lemmas.specs.EventMembers.{coming-members, leaving-members}
use Rattle.cg_agree_lemmas.specs.EventsReached.{deliver-reached, join-reached, leave-reached, merge-reached, request-reached, split-reached}
use Rattle.cg_agree_lemmas.specs.FrontFacts.{Front-length, Front-refl, Front-take, take-Front}
use Rattle.cg_agree_lemmas.specs.HeldCommit.{recovered-id}
use Rattle.cg_agree.proofs.MadeBookKept.{event-made}
use Rattle.cg_agree.proofs.MadeOfSmalls.{made-of-smalls}
use Rattle.cg_agree.proofs.OneLine.{IsOnTop}
use Rattle.cg_agree.proofs.OrderBehind.{IsKept, NodeStateOrder, NodeOrder, alone-kept, armed-kept, joined-kept, listed-kept, order-stays, quiet-kept, recovered-kept, stopped-kept, swapped-kept}
use Rattle.cg_agree_lemmas.specs.OrderCopies.{copies-event, copy-of}
use Rattle.cg_agree_lemmas.specs.OrderGrows.{IsOrder}
use Rattle.cg_agree.proofs.OrderOnTop.{green-there}
use Rattle.cg_agree.proofs.OrderTellers.{ToldWithin, entries-up, told-merged, told-stays, untold-smalls}
use Rattle.cg_agree_lemmas.specs.OrderTold.{begun_order}
use Rattle.cg_agree.proofs.OthersBooked.{booked-index, booked-made, booked-shown, unbegun-made}
use Rattle.cg_agree.proofs.OthersEvents.{begun-up, event-shown}
use Rattle.cg_agree.proofs.RestsKept.{rests-kept}
use Rattle.cg_agree_lemmas.specs.NodeFacts.{node-id}
use Rattle.cg_agree_lemmas.specs.SoundWorlds.{IsSound, sound-of, sound-same}
use Rattle.cg_agree_lemmas.specs.SpineKept.{start-line}
use Rattle.cg_agree_lemmas.specs.Standings.{rising-lower}
use Rattle.cg_agree_lemmas.specs.TurnGreens.{greens-along}
use Rattle.cg_agree_lemmas.specs.TurnsReached.{NodeReached}
use Rattle.cg_agree_lemmas.specs.WorldTurns.{IsBehind, from-same, handed-behind}
use Rattle.cg_agree_lemmas.specs.DiskSwaps.{Swaps, downgrade-swaps, recover_under-cases}
use Rattle.cg_model.specs.Admission.{first_refusal}
use Rattle.cg_model.specs.Facts.{Invariant}
use Rattle.cg_model.specs.Fronts.{Front}
use Rattle.cg_model.specs.Levels.{line_at, reached_at}
use Rattle.cg_model.specs.Looks.{disk_held, greens_of, on_disk, stood_of, told_in, top_of}
use Rattle.cg_model.specs.Noting.{chronicle_step, played}
use Rattle.cg_model.specs.Played.{IsSame, KeptBySmalls, MayBeMade, StandsBeside, with_world}
use Rattle.cg_model.specs.Run.{MayStand}
use Rattle.cg_base.specs.Cuts.{index_in}
use Rattle.cg_base.specs.Lists.{above_up_to, Each}
use Rattle.cg_base.specs.Weights.{ids}
use Rattle.cg_base.specs.declared.action_id.ActionId.{ActionId}
use Rattle.cg_base.specs.declared.weighted.Weighted.{Weighted}
use Rattle.cg_client.specs.Replica.{Held, Replica}
use Rattle.cg_group.specs.State.{GroupState, delivered_to, home}
use Rattle.cg_group.specs.declared.delivery.Handed.{Handed}
use Rattle.cg_queue.specs.Queue.{green_count, names_of}
use Rattle.cg_disk_records.specs.Crash.{Disk, FailOnce, StopWith, Strike, at_rest, disk_recovered, new_disk, recovered}
use Rattle.cg_wire.specs.declared.message.Msg.{Msg}
use Rattle.cg_client.specs.Joined.{piece_count}
use Rattle.cg_queue.specs.NameLaws.{names-count}

module _ (kept : KeptBySmalls) (c : Chronicle) (w : World) (stands : StandsBeside c w) (order : OrderFits c w) where
  sound : IsSound w
  sound = sound-same w c.world stands.same (sound-of c stands.facts)

  -- ---- events by which one node is another, or none

  module _ (smalls : List Small) (may : MayBeMade c smalls) (j : Invariant (played c smalls)) (u : World) (same : IsSame u (played c smalls).world)
      (rest_on : (q : ℕ) → greens_of (played c smalls) q ≡ stood_of (played c smalls) q) where
    abbrev KeepsTo : List ActionId → Type 0
    KeepsTo new = IsKept kept c w stands order smalls may j u same rest_on new

    node-as : (v : World) → v ≡ u → (q : ℕ) → node_of u q ≡ node_of v q
    node-as v is q = ap (λ x. node_of x q) (sym is)

    quiet : (v : World) → v ≡ u → ((q : ℕ) → node_of v q ≡ node_of w q) → v.order ≡ w.order → KeepsTo u.order
    quiet v is nodes same_order =
        subst KeepsTo (sym same_order ∙ ap (λ (x : World). x.order) is) (quiet-kept kept c w stands order smalls may j u same rest_on (λ q. node-as v is q ∙ nodes q))

    named-node : (p : ℕ) (s : Node) → node_of w p ≡ Some s → (l : NodeState) → s.life ≡ l → node_of w p ≡ Some (record { id = p; life = l })
    named-node p s e l is = e ∙ (λ i. Some (record { id = node-id w p s e i; life = is i }))

    recover-kept : (p : ℕ) → (recover w p).world ≡ u → KeepsTo u.order
    recover-kept p = at (node_of w p) refl where
      up : (s : Node) → node_of w p ≡ Some s → (l : NodeState) → s.life ≡ l → (recover_from w l).world ≡ u → KeepsTo u.order
      up s e (Up r disk) l is = quiet w is (λ q. refl) refl
      up s e (Down disk green) l is =
          let r = recovered disk in
          let new : NodeState = Up r (disk_recovered disk) in
          let node = named-node p s e (Down disk green) l in
          let held : disk_held c.world p ≡ Some disk.content = sym (stands.same.disk p) ∙ ap (λ (o : Option Node). option_map (λ s. on_disk s.life) o) node in
          let id : r.held.id ≡ p = recovered-id disk.content ∙ subst (λ (o : Option Held). IfSome o (λ h. h.id ≡ p)) held (stands.facts.net.hosted.disk p) in
          subst KeepsTo (ap (λ (x : World). x.order) is)
          (recovered-kept kept c w stands order smalls may j u same rest_on p disk green node
          (λ q. node-as (recover_from w (Down disk green)).world is q ∙ node_of-set w r.held.id new q ∙ ap (λ m. cond (m == q) (Some (record { id = m; life = new })) (node_of w q)) id))

      at : (o : Option Node) → node_of w p ≡ o → (option_map_or (λ s. recover_from w s.life) o (quietly w)).world ≡ u → KeepsTo u.order
      at None e is = quiet w is (λ q. refl) refl
      at (Some s) e is = up s e s.life refl is

    stop-kept : (p : ℕ) → option_map_or (λ s. crash_at w p s.life) (node_of w p) w ≡ u → KeepsTo u.order
    stop-kept p = at (node_of w p) refl where
      life : (s : Node) → node_of w p ≡ Some s → (l : NodeState) → s.life ≡ l → crash_at w p l ≡ u → KeepsTo u.order
      life s e (Up r disk) l is =
          subst KeepsTo (ap (λ (x : World). x.order) is)
          (stopped-kept kept c w stands order smalls may j u same rest_on p r disk (named-node p s e (Up r disk) l)
          (λ q. node-as (crash_at w p (Up r disk)) is q ∙ node_of-set w p (Down (at_rest disk) []) q))
      life s e (Down disk green) l is = quiet w is (λ q. refl) refl

      at : (o : Option Node) → node_of w p ≡ o → option_map_or (λ s. crash_at w p s.life) o w ≡ u → KeepsTo u.order
      at None e is = quiet w is (λ q. refl) refl
      at (Some s) e is = life s e s.life refl is

    arm-kept : (p : ℕ) (strike : Strike) → option_map_or (λ s. arm_at w p strike s.life) (node_of w p) w ≡ u → KeepsTo u.order
    arm-kept p strike = at (node_of w p) refl where
      life : (s : Node) → node_of w p ≡ Some s → (l : NodeState) → s.life ≡ l → arm_at w p strike l ≡ u → KeepsTo u.order
      life s e (Up r disk) l is =
          let after : Disk = record disk { armed = Some strike } in
          subst KeepsTo (ap (λ (x : World). x.order) is)
          (armed-kept kept c w stands order smalls may j u same rest_on p r disk after (named-node p s e (Up r disk) l) refl
          (λ q. node-as (arm_at w p strike (Up r disk)) is q ∙ node_of-set w p (Up r after) q))
      life s e (Down disk green) l is = quiet w is (λ q. refl) refl

      at : (o : Option Node) → node_of w p ≡ o → option_map_or (λ s. arm_at w p strike s.life) o w ≡ u → KeepsTo u.order
      at None e is = quiet w is (λ q. refl) refl
      at (Some s) e is = life s e s.life refl is

    swap-kept : (p : ℕ) → Swaps w u p → KeepsTo u.order
    swap-kept p is = elim is [
      | inl unchanged ↦ quiet w (sym unchanged) (λ q. refl) refl
      | inr other ↦ subst KeepsTo (sym (ap (λ (x : World). x.order) other.world)) (swapped-kept kept c w stands order smalls may j u same rest_on p other)
    ]

    recover_under-kept : (p : ℕ) (strike : Strike) → (recover_under w p strike).world ≡ u → KeepsTo u.order
    recover_under-kept p strike =
        recover_under-cases w p strike (λ go. go.world ≡ u → KeepsTo u.order) (λ v swaps is. swap-kept p (subst (λ (x : World). Swaps w x p) is swaps)) (recover-kept p)

    transfer-kept : (p joiner pieces : ℕ) → (transfer w p joiner pieces).world ≡ u → KeepsTo u.order
    transfer-kept p joiner pieces = at (replica_of w p) refl where
      pieced : (s : TransferState) (taken : ℕ) → IsCopied c w stands s.giver s.content → (b : Bool) →
          (let others = without_snapshot w s.joiner in
          let r = joiner_replica s.joiner s.content in
          cond b (bring_up others r (new_disk r.held)) (record others { snapshots = others.snapshots ++ record s { taken = taken } ∷ [] })) ≡ u → KeepsTo u.order
      pieced s taken y true is =
          let others = without_snapshot w s.joiner in
          let r = joiner_replica s.joiner s.content in
          let count : green_count s.content.queue ≡ length y.all = copy-count w.order (greens_of c) s.giver s.content y in
          let names : length (names_of y.all) ≡ length y.all = names-count y.all in
          let low : length (names_of y.all) ≤ length w.order = Front-length (names_of y.all) w.order y.there in
          subst KeepsTo (ap (λ (x : World). x.order) is)
          (joined-kept kept c w stands order smalls may j u same rest_on s.joiner r (new_disk r.held)
          (λ q. node-as (bring_up others r (new_disk r.held)) is q ∙ node_of-set others s.joiner (Up r (new_disk r.held)) q)
          (let few : green_count s.content.queue ≤ length w.order = omega arith in few))
      pieced s taken y false is =
          let others = without_snapshot w s.joiner in
          quiet (record others { snapshots = others.snapshots ++ record s { taken = taken } ∷ [] }) is (λ q. refl) refl

      at : (o : Option Replica) → replica_of w p ≡ o → (option_map_or (λ r. take_pieces w (snapshot_for w p joiner r) pieces) o (quietly w)).world ≡ u → KeepsTo u.order
      at None e is = quiet w is (λ q. refl) refl
      at (Some r) e is =
          let s = snapshot_for w p joiner r in
          let taken = min (piece_count s.content) (s.taken + pieces) in
          pieced s taken (copy-of (IsCopied c w stands) w (copies-first c w stands) (replica-copy c w stands) p joiner r e) (taken == piece_count s.content) is

    -- nothing is green yet
    start-kept : line_at (played c smalls) (top_of (played c smalls)) ≡ [] → ((q : ℕ) → NodeIsDown (node_of u q) → ⊥) → w.order ≡ u.order → KeepsTo u.order
    start-kept empty up same_order = record {
      on = subst (Front w.order) same_order (Front-refl w.order);
      fits = subst (IsOrder (names_of (line_at (played c smalls) (top_of (played c smalls)))) (reached_at (played c smalls) (top_of (played c smalls)))) same_order
          (order-stays kept c w stands order smalls may j u same rest_on);
      nodes = λ q. at q (node_of u q) (up q);
    } where
      d : Chronicle
      d = played c smalls

      nothing : (xs : List Action) → Front xs [] → xs ≡ []
      nothing [] front = refl
      nothing (x ∷ xs) front = absurd front

      none : (q : ℕ) → greens_of d q ≡ []
      none q = nothing (greens_of d q) (subst (Front (greens_of d q)) empty (greens-on_line d j.green.one_order j.replica.disk_behind j.net.hosted q))

      life : (q : ℕ) (l : NodeState) → (LifeIsDown l → ⊥) → NodeStateOrder u.order (names_of (greens_of d q)) l
      life q (Up r disk) up = subst (λ (xs : List Action). Front (names_of xs) u.order) (sym (none q)) tt
      life q (Down disk green) up = absurd (up tt)

      at : (q : ℕ) (o : Option Node) → (NodeIsDown o → ⊥) → NodeOrder u.order (names_of (greens_of d q)) o
      at q None up = tt
      at q (Some s) up = life q s.life up

  -- ---- events

  reached-listed : (smalls : List Small) (f : ℕ → Handed Msg) → ((q : ℕ) → (f q).to ≡ q) → (set : List ℕ) → Each (λ q. NodeReached w smalls (Deliveries (f q).list) q (node_of w q)) set →
      Each (λ h. NodeReached w smalls (Deliveries h.list) h.to (node_of w h.to)) (map f set)
  reached-listed smalls f same [] each = tt
  reached-listed smalls f same (q ∷ set) each =
      (subst (λ (x : ℕ). NodeReached w smalls (Deliveries (f q).list) x (node_of w x)) (sym (same q)) each.0, reached-listed smalls f same set each.1)

  -- the start finds an empty chronicle
  started-empty : (set : List Weighted) → w ≡ no_world → line_at (played c (smalls_in w (Start set))) (top_of (played c (smalls_in w (Start set)))) ≡ []
  unfolding smalls_in small_step
  started-empty set is =
      let d = played c (Starts set ∷ []) in
      let nodes : c.world.nodes ≡ [] = no-ids c.world.nodes (sym stands.same.nodes ∙ ap (λ (x : World). map (λ s. s.id) x.nodes) is) in
      let nothing : c ≡ no_chronicle = stands.facts.net.hosted.before nodes in
      ap (λ n. line_at d n) (ap (λ (x : Chronicle). top_of x) nothing) ∙ start-line d where
        no-ids : (nodes : List Node) → map (λ s. s.id) nodes ≡ [] → nodes ≡ []
        no-ids [] e = refl
        no-ids (s ∷ nodes) e = absurd (let clash : s.id ∷ map (λ s. s.id) nodes ≡ [] = e in cc)

  happens-kept : (e : Event) → MayStand w e → first_refusal w e ≡ None → (may : MayBeMade c (smalls_in w e)) (j : Invariant (played c (smalls_in w e))) (same : IsSame (happens w e).world (played c (smalls_in w e)).world)
      (rest_on : (q : ℕ) → greens_of (played c (smalls_in w e)) q ≡ stood_of (played c (smalls_in w e)) q) →
      IsKept kept c w stands order (smalls_in w e) may j (happens w e).world same rest_on (happens w e).world.order
  unfolding happens split merge deliver first_refusal
  happens-kept (Start set) stand admitted may j same rest_on =
      start-kept (smalls_in w (Start set)) may j (fold (begin_replica set) w (ids set)) same rest_on (started-empty set stand.0)
      (λ q. begun-up set q (ids set) w (subst (λ (v : World). NodeIsDown (node_of v q) → ⊥) (sym stand.0) (λ down. down))) (sym (begun_order set w (ids set)))
  happens-kept (Split set) stand admitted may j same rest_on =
      let f = handed_in_split w.group set in
      let first = rising-set-list 1 set stand.1.ascends in
      let rise = rising-lower 0 1 set (omega arith) first in
      listed-kept kept c w stands order (smalls_in w (Split set)) may j (hand_out w (split w.group set)).world same rest_on (split w.group set).group (map f set) refl
      (handed-ids f (split-to w.group set) set 1 first)
      (reached-listed (smalls_in w (Split set)) f (split-to w.group set) set (split-reached w sound.nodes sound.group.rises set rise (leaving-members w sound set admitted)))
  happens-kept (Merge set) stand admitted may j same rest_on =
      let f : ℕ → Handed Msg = λ q. record { to = q; list = RegularIn (suc (length w.group.configurations)) set ∷ [] } in
      let first = rising-set-list 1 set stand.1.ascends in
      let rise = rising-lower 0 1 set (omega arith) first in
      listed-kept kept c w stands order (smalls_in w (Merge set)) may j (hand_out w (merge w.group set)).world same rest_on (merge w.group set).group (map f set) refl
      (handed-ids f (λ q. refl) set 1 first)
      (reached-listed (smalls_in w (Merge set)) f (λ q. refl) set (merge-reached w sound.nodes sound.group.rises set rise (coming-members w sound set admitted)))
  happens-kept (Request q cmds query) stand admitted may j same rest_on =
      alone-kept kept c w stands order (smalls_in w (Request q cmds query)) may j (ask w q (Update cmds query)).world same rest_on w q (AsksOf (Update cmds query)) refl (λ x. refl) refl
      (request-reached w sound.nodes sound.group.rises q cmds query)
  happens-kept (Weak q query) stand admitted may j same rest_on = quiet (smalls_in w (Weak q query)) may j w same rest_on w refl (λ x. refl) refl
  happens-kept (Dirty q query) stand admitted may j same rest_on = quiet (smalls_in w (Dirty q query)) may j w same rest_on w refl (λ x. refl) refl
  happens-kept (Order q) stand admitted may j same rest_on = (let v : World = record w { group = order_group w.group q } in quiet (smalls_in w (Order q)) may j v same rest_on v refl (λ x. refl) refl)
  happens-kept (Recover q) stand admitted may j same rest_on = recover-kept (smalls_in w (Recover q)) may j (recover w q).world same rest_on q refl
  happens-kept (RecoverStopped q call fill) stand admitted may j same rest_on =
      let strike : Strike = record { call = call; fault = StopWith fill } in
      recover_under-kept (smalls_in w (RecoverStopped q call fill)) may j (recover_under w q strike).world same rest_on q strike refl
  happens-kept (Downgrade q) stand admitted may j same rest_on = swap-kept (smalls_in w (Downgrade q)) may j (downgrade w q) same rest_on q (downgrade-swaps w q)
  happens-kept (Show q) stand admitted may j same rest_on = quiet (smalls_in w (Show q)) may j w same rest_on w refl (λ x. refl) refl
  happens-kept ShowOrder stand admitted may j same rest_on = quiet (smalls_in w ShowOrder) may j w same rest_on w refl (λ x. refl) refl
  happens-kept Gather stand admitted may j same rest_on = (let v : World = record w { group = gather w.group } in quiet (smalls_in w Gather) may j v same rest_on v refl (λ x. refl) refl)
  happens-kept End stand admitted may j same rest_on = absurd stand
  happens-kept (Receive q place) stand admitted may j same rest_on =
      (let v : World = record w { group = receive w.group q place } in quiet (smalls_in w (Receive q place)) may j v same rest_on v refl (λ x. refl) refl)
  happens-kept (Deliver q count) stand admitted may j same rest_on =
      let g = w.group in
      let from = delivered_to g q in
      alone-kept kept c w stands order (smalls_in w (Deliver q count)) may j (hand_out w (deliver g q count)).world same rest_on (record w { group = (deliver g q count).group }) q
      (Deliveries (deliveries_at (home g q) (above_up_to from (from + count)))) refl (λ x. refl) refl (deliver-reached w sound.nodes sound.group.rises q count admitted)
  happens-kept (Rounds count) stand admitted may j same rest_on = absurd stand
  happens-kept (Stop q zero fill) stand admitted may j same rest_on = stop-kept (smalls_in w (Stop q zero fill)) may j (stop w q zero fill) same rest_on q refl
  happens-kept (Stop q (suc call) fill) stand admitted may j same rest_on =
      arm-kept (smalls_in w (Stop q (suc call) fill)) may j (stop w q (suc call) fill) same rest_on q (record { call = suc call; fault = StopWith fill }) refl
  happens-kept (Fail q call) stand admitted may j same rest_on =
      arm-kept (smalls_in w (Fail q call)) may j (arm w q (record { call = call; fault = FailOnce })) same rest_on q (record { call = call; fault = FailOnce }) refl
  happens-kept (Join q joiner weight) stand admitted may j same rest_on =
      alone-kept kept c w stands order (smalls_in w (Join q joiner weight)) may j (ask (name_also w joiner) q (JoinKind joiner weight)).world same rest_on (name_also w joiner) q (AsksOf (JoinKind joiner weight)) refl (λ x. refl) refl
      (join-reached w sound.nodes sound.group.rises q joiner weight)
  happens-kept (Leave q server) stand admitted may j same rest_on =
      alone-kept kept c w stands order (smalls_in w (Leave q server)) may j (ask w q (LeaveKind server)).world same rest_on w q (AsksOf (LeaveKind server)) refl (λ x. refl) refl
      (leave-reached w sound.nodes sound.group.rises q server)
  happens-kept (Transfer q joiner pieces) stand admitted may j same rest_on = transfer-kept (smalls_in w (Transfer q joiner pieces)) may j (transfer w q joiner pieces).world same rest_on q joiner pieces refl

  -- ---- what was told

  merge-behind : (set : List ℕ) → MayStand w (Merge set) → (p : ℕ) → IsBehind (λ q x. x ≡ Deliveries (RegularIn (suc (length w.group.configurations)) set ∷ [])) w (happens w (Merge set)).world p
  unfolding happens merge
  merge-behind set stand p =
      let conf = suc (length w.group.configurations) in
      let Q : ℕ → Input → Type 0 = λ q x. x ≡ Deliveries (RegularIn conf set ∷ []) in
      let f : ℕ → Handed Msg = λ q. record { to = q; list = RegularIn conf set ∷ [] } in
      let v : World = record w { group = (merge w.group set).group } in
      from-same Q w v (hand_out w (merge w.group set)).world p refl
      (handed-behind Q (map f set) (quietly v) 1 (handed-ids f (λ q. refl) set 1 (rising-set-list 1 set stand.1.ascends)) (each-handed Q f (λ q. refl) set) p)

  tells-within : (e : Event) → MayStand w e → (may : MayBeMade c (smalls_in w e)) (j : Invariant (played c (smalls_in w e))) (same : IsSame (happens w e).world (played c (smalls_in w e)).world)
      (rest_on : (q : ℕ) → greens_of (played c (smalls_in w e)) q ≡ stood_of (played c (smalls_in w e)) q) →
      (is : IsKept kept c w stands order (smalls_in w e) may j (happens w e).world same rest_on (happens w e).world.order) →
      ToldWithin kept c w stands order (smalls_in w e) may j (happens w e).world same rest_on (happens w e).world.order is
  tells-within (Merge set) stand may j same rest_on is =
      told-merged kept c w stands order (smalls_in w (Merge set)) may j (happens w (Merge set)).world same rest_on (happens w (Merge set)).world.order is (suc (length w.group.configurations)) set
      (merge-behind set stand) (entries-up w set)
  tells-within (Start set) stand may j same rest_on is = told-stays kept c w stands order _ may j _ same rest_on _ is (untold-smalls w (Start set) tt)
  tells-within (Split set) stand may j same rest_on is = told-stays kept c w stands order _ may j _ same rest_on _ is (untold-smalls w (Split set) tt)
  tells-within (Request q cmds query) stand may j same rest_on is = told-stays kept c w stands order _ may j _ same rest_on _ is (untold-smalls w (Request q cmds query) tt)
  tells-within (Weak q query) stand may j same rest_on is = told-stays kept c w stands order _ may j _ same rest_on _ is (untold-smalls w (Weak q query) tt)
  tells-within (Dirty q query) stand may j same rest_on is = told-stays kept c w stands order _ may j _ same rest_on _ is (untold-smalls w (Dirty q query) tt)
  tells-within (Order q) stand may j same rest_on is = told-stays kept c w stands order _ may j _ same rest_on _ is (untold-smalls w (Order q) tt)
  tells-within (Recover q) stand may j same rest_on is = told-stays kept c w stands order _ may j _ same rest_on _ is (untold-smalls w (Recover q) tt)
  tells-within (RecoverStopped q call fill) stand may j same rest_on is = told-stays kept c w stands order _ may j _ same rest_on _ is (untold-smalls w (RecoverStopped q call fill) tt)
  tells-within (Downgrade q) stand may j same rest_on is = told-stays kept c w stands order _ may j _ same rest_on _ is (untold-smalls w (Downgrade q) tt)
  tells-within (Show q) stand may j same rest_on is = told-stays kept c w stands order _ may j _ same rest_on _ is (untold-smalls w (Show q) tt)
  tells-within ShowOrder stand may j same rest_on is = told-stays kept c w stands order _ may j _ same rest_on _ is (untold-smalls w ShowOrder tt)
  tells-within Gather stand may j same rest_on is = told-stays kept c w stands order _ may j _ same rest_on _ is (untold-smalls w Gather tt)
  tells-within End stand may j same rest_on is = absurd stand
  tells-within (Receive q place) stand may j same rest_on is = told-stays kept c w stands order _ may j _ same rest_on _ is (untold-smalls w (Receive q place) tt)
  tells-within (Deliver q count) stand may j same rest_on is = told-stays kept c w stands order _ may j _ same rest_on _ is (untold-smalls w (Deliver q count) tt)
  tells-within (Rounds count) stand may j same rest_on is = absurd stand
  tells-within (Stop q call fill) stand may j same rest_on is = told-stays kept c w stands order _ may j _ same rest_on _ is (untold-smalls w (Stop q call fill) tt)
  tells-within (Fail q call) stand may j same rest_on is = told-stays kept c w stands order _ may j _ same rest_on _ is (untold-smalls w (Fail q call) tt)
  tells-within (Join q joiner weight) stand may j same rest_on is = told-stays kept c w stands order _ may j _ same rest_on _ is (untold-smalls w (Join q joiner weight) tt)
  tells-within (Leave q server) stand may j same rest_on is = told-stays kept c w stands order _ may j _ same rest_on _ is (untold-smalls w (Leave q server) tt)
  tells-within (Transfer q joiner pieces) stand may j same rest_on is = told-stays kept c w stands order _ may j _ same rest_on _ is (untold-smalls w (Transfer q joiner pieces) tt)

-- ---- what stands in the order was shown

module _ (d : Chronicle) (v : World) (facts : Invariant d) (same : IsSame v d.world) (fits : MadeFits v) (others : (p : ℕ) → NodeIsDown (node_of v p) → KeepsUnshown v p) where
  abbrev IsCounted : ActionId → Type 0
  IsCounted id = id.index ≤ index_in (cut_of d.book) id.creator

  abbrev IsMade : ActionId → Type 0
  IsMade id = id.index ≤ index_in v.made id.creator

  counted-all : (list : List Action) → Each (IsNamed d.book) list → Each IsCounted (names_of list)
  counted-all [] each = tt
  counted-all (a ∷ list) each = (booked-index d facts a each.0, counted-all list each.1)

  made-one : (id : ActionId) → IsCounted id → ((down : NodeIsDown (node_of v id.creator)) → IsNameShown id.creator (others id.creator down).shown id) → IsMade id
  made-one id counted shown = at (node_of v id.creator) refl where
    p : ℕ
    p = id.creator

    life : (s : Node) → node_of v p ≡ Some s → (l : NodeState) → s.life ≡ l → IsMade id
    life s e (Up r disk) is =
        let runs : replica_of v p ≡ Some r = ap (λ (o : Option Node). option_and_then (λ s. running s.life) o) e ∙ ap running is in
        let count = booked-made d v facts same fits p r runs in
        omega arith
    life s e (Down disk green) is =
        let down : NodeIsDown (node_of v p) = subst NodeIsDown (sym e) (subst LifeIsDown (sym is) tt) in
        let low = (others p down).are.low in
        let le = shown down refl in
        omega arith

    at : (o : Option Node) → node_of v p ≡ o → IsMade id
    at None e = (let count = unbegun-made d v facts same fits p e in omega arith)
    at (Some s) e = life s e s.life refl

  made-all : (ids : List ActionId) → Each IsCounted ids → ((p : ℕ) (down : NodeIsDown (node_of v p)) → Each (IsNameShown p (others p down).shown) ids) → Each IsMade ids
  made-all [] counted shown = tt
  made-all (id ∷ ids) counted shown = (made-one id counted.0 (λ down. (shown id.creator down).0), made-all ids counted.1 (λ p down. (shown p down).1))

  pub order-made : (order : List ActionId) → IsOrder (names_of (line_at d (top_of d))) (reached_at d (top_of d)) order → ((p : ℕ) (down : NodeIsDown (node_of v p)) → Each (IsNameShown p (others p down).shown) order) →
      list_all (λ id. nat_le id.index (index_in v.made id.creator)) order ≡ true
  order-made order is shown =
      let line = line_at d (top_of d) in
      let list = take (length order) line in
      let names : order ≡ names_of list = take-Front order (names_of line) is.front ∙ sym (names-take (length order) line) in
      let count : length list ≡ length order = sym (ap length names ∙ names-count list) in
      let few = is.count in
      let on : IsOnTop d list = record { front = Front-take (length order) line; count = omega arith } in
      let there = green-there d facts list on in
      let booked = front-each (IsNamed d.book) list (greens_of d there.by) there.front (each-booked d (greens_of d there.by) (facts.replica.made_once.in_greens there.by)) in
      whole order (made-all order (subst (Each IsCounted) (sym names) (counted-all list booked)) shown) where
        whole : (ids : List ActionId) → Each IsMade ids → list_all (λ id. nat_le id.index (index_in v.made id.creator)) ids ≡ true
        whole [] each = refl
        whole (id ∷ ids) each = and_from (nat_le id.index (index_in v.made id.creator)) _ (le-leb id.index (index_in v.made id.creator) each.0) (whole ids each.1)

-- ---- behind an event

ended-same : (w : World) (e : Event) (x : World) → IsSame (world_step w e).world x → IsSame (happens w e).world x
unfolding world_step ended
ended-same w e x is = record { group = is.group; nodes = is.nodes; running = is.running; disk = is.disk; given = is.given }

up-in : (order greens : List ActionId) (o : Option Node) → NodeOrder order greens o → IfSome (option_and_then (λ s. running s.life) o) (λ r. Front greens order)
up-in order greens None is = tt
up-in order greens (Some s) is = life s.life is where
  life : (l : NodeState) → NodeStateOrder order greens l → IfSome (running l) (λ r. Front greens order)
  life (Up r disk) is = is
  life (Down disk green) is = tt

down-in : (order greens stood : List ActionId) → greens ≡ stood → (o : Option Node) → NodeOrder order greens o → NodeToShow order stood o
down-in order greens stood same None is = tt
down-in order greens stood same (Some s) is = life s.life is where
  life : (l : NodeState) → NodeStateOrder order greens l → LifeToShow order stood l
  life (Up r disk) is = tt
  life (Down disk green) is = record { shown = is.shown; all = sym same ∙ is.all; there = is.there }

-- ---- each event

module _ (kept : KeptBySmalls) (c : Chronicle) (w : World) (e : Event) (stands : StandsBeside c w) (fits : MadeFits w) (order : OrderFits c w) (stand : MayStand w e) (admitted : first_refusal w e ≡ None)
    (facts : Invariant (chronicle_step c w e)) where
  abbrev d : Chronicle
  d = chronicle_step c w e

  abbrev v : World
  v = (world_step w e).world

  may : MayBeMade c (smalls_in w e)
  may = (made-of-smalls c w e stands stand admitted).0

  same : IsSame v d.world
  same = (made-of-smalls c w e stands stand admitted).1

  rest_on : (q : ℕ) → greens_of d q ≡ stood_of d q
  rest_on = (rests-kept c w stands e stand admitted facts).disk_agrees.greens

  abbrev Kept : List ActionId → Type 0
  Kept new = IsKept kept c w stands order (smalls_in w e) may facts (happens w e).world (ended-same w e d.world same) rest_on new

  is : Kept (happens w e).world.order
  is = happens-kept kept c w stands order e stand admitted may facts (ended-same w e d.world same) rest_on

  on : Front w.order v.order
  unfolding world_step ended
  on = is.on

  fits-on : IsOrder (names_of (line_at d (top_of d))) (reached_at d (top_of d)) v.order
  unfolding world_step ended
  fits-on = record { front = is.fits.front; count = is.fits.count }

  nodes-on : (q : ℕ) → NodeOrder v.order (names_of (greens_of d q)) (node_of v q)
  unfolding world_step ended
  nodes-on = is.nodes

  told-on : (conf p : ℕ) → IfSome (told_in d conf p) (λ t. t.summary.green_count ≤ length v.order)
  unfolding world_step ended
  told-on = tells-within kept c w stands order e stand may facts (ended-same w e d.world same) rest_on is

  grown : (q : ℕ) → Front (greens_of c q) (greens_of d q)
  grown q = greens-along kept (smalls_in w e) c stands.facts may q

  others-on : (p : ℕ) → NodeIsDown (node_of v p) → KeepsUnshown v p
  others-on p down = at (node_of w p) refl (order.others p) where
    goes-on : (n : ℕ) → AreShown p n w → KeepsUnshown v p
    goes-on n are = record { shown = n; are = event-shown c w stands p n are (copies-shown c w stands p n are) e stand admitted down }

    life : (s : Node) → node_of w p ≡ Some s → (l : NodeState) → s.life ≡ l → (LifeIsDown l → KeepsUnshown w p) → KeepsUnshown v p
    life s e (Up r disk) l before =
        let runs : replica_of w p ≡ Some r = ap (λ (o : Option Node). option_and_then (λ s. running s.life) o) e ∙ ap running l in
        goes-on (index_in w.made p) (booked-shown c w stands fits order p (booked-made c w stands.facts stands.same fits p r runs))
    life s e (Down disk green) l before = (let was = before tt in goes-on was.shown was.are)

    at : (o : Option Node) → node_of w p ≡ o → (NodeIsDown o → KeepsUnshown w p) → KeepsUnshown v p
    at None e before = goes-on (index_in w.made p) (booked-shown c w stands fits order p (unbegun-made c w stands.facts stands.same fits p e))
    at (Some s) e before = life s e s.life refl before

  abbrev grouped : GroupState Msg → Chronicle
  grouped g = with_world d (record v { group = g })

  pub order-on : OrderFits d v
  order-on = record {
    book = record {
      line = subst (λ (g : GroupState Msg). Front v.order (names_of (line_at (grouped g) (top_of d)))) (sym same.group) fits-on.front;
      reached = subst (λ (g : GroupState Msg). length v.order ≤ reached_at (grouped g) (top_of d)) (sym same.group) fits-on.count;
      up = λ p. up-in v.order (names_of (greens_of d p)) (node_of v p) (nodes-on p);
      told = told-on;
      copied = copied-behind c w stands d v facts same grown on (copies-event (IsCopied c w stands) w (copies-first c w stands) (replica-copy c w stands) e);
      made = order-made d v facts same (event-made c w stands fits e stand admitted) others-on v.order fits-on (λ p down. (others-on p down).are.order);
    };
    down = λ p. down-in v.order (names_of (greens_of d p)) (names_of (stood_of d p)) (ap names_of (rest_on p)) (node_of v p) (nodes-on p);
    others = others-on;
  }

-- The order is kept by each event.
pub orders-kept : (c : Chronicle) (w : World) (e : Event) → StandsBeside c w → MadeFits w → OrderFits c w → MayStand w e → first_refusal w e ≡ None → Invariant (chronicle_step c w e) →
    OrderFits (chronicle_step c w e) (world_step w e).world
orders-kept c w e stands fits order stand admitted facts = order-on kept-by-smalls c w e stands fits order stand admitted facts
