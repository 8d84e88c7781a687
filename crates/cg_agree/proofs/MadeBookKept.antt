-- Behind each event what was shown as made counts what each replica has created, where it does before.
use Rattle.std.proofs.Common.{◌≡◌, ℕ, zero, suc, ◌+◌, ◌≤◌, min, true, false, length, is_some, List, [], ◌∷◌, ◌++◌, map, Option, Some, None, IfSome, refl, sym, ap, ◌∙◌, subst, arith, option_and_then, option_map, is_none}
use Rattle.std.specs.Prelude.{◌==◌}
use Rattle.std.specs.Option.{option_map_or}
use Rattle.std.proofs.lemmas.Bool.{cond_both}
use Rattle.cg_base.specs.Cuts.{index_in}
use Rattle.cg_base.specs.Lists.{above_up_to}
use Rattle.cg_base.specs.Weights.{ids}
use Rattle.cg_action.specs.declared.action.Action.{Action}
use Rattle.cg_action.specs.declared.action.Kind.{Kind}
use Rattle.cg_action.specs.declared.action.Kind.TheVariants.{Update, Join as JoinKind, Leave as LeaveKind}
use Rattle.cg_wire.specs.declared.message.Msg.{Msg}
use Rattle.cg_group.specs.declared.delivery.Handed.{Handed}
use Rattle.cg_group.specs.declared.delivery.Delivery.TheVariants.{Regular as RegularIn}
use Rattle.cg_group.specs.State.{GroupState, delivered_to, home}
use Rattle.cg_group.specs.Events.{order, receive, gather, deliveries_at, handed_in_split, deliver, split, merge}
use Rattle.cg_client.specs.Replica.{Held, Replica, created}
use Rattle.cg_states.specs.ReplicaStep.{Deliveries, Asks as AsksOf}
use Rattle.cg_disk_records.specs.Crash.{FailOnce, StopWith, new_disk}
use Rattle.cg_schedule.specs.declared.event.Event.{Event}
use Rattle.cg_schedule.specs.declared.event.Event.TheVariants.{Start, Split, Merge, Request, Weak, Dirty, Order, Recover, RecoverStopped, Downgrade, Show, ShowOrder, Gather, End, Receive, Deliver, Rounds, Stop, Fail, Join, Leave, Transfer}
use Rattle.cg_model.specs.World.{NodeState, Up, Down, Node, World, no_world, running, has_begun, node_of, replica_of, bring_up, TransferState}
use Rattle.cg_model.specs.Admission.{first_refusal, takes_part, never_named, joiner_left, not_green}
use Rattle.cg_model.specs.AdmissionCalls.{begun_already}
use Rattle.cg_model.specs.Show.{ended}
use Rattle.cg_model.specs.Run.{MayStand}
use Rattle.cg_model.specs.Chronicle.{Chronicle}
use Rattle.cg_model.specs.Attempts.{held_in}
use Rattle.cg_model.specs.Looks.{greens_of, stood_of, on_disk, disk_held}
use Rattle.cg_model.specs.Step.{quietly, ask, name_also, joiner_replica, snapshot_for, without_snapshot, transfer, happens, world_step, downgrade}
use Rattle.cg_model.specs.AtNode.{recover_from, with_pieces, take_pieces}
use Rattle.cg_model.specs.FactsBooks.{LifeMade, MadeBook, MadeFits, NodeMade}
use Rattle.cg_model.specs.FactsReplica.{IsCore, IsModeData}
use Rattle.cg_model.specs.Played.{StandsBeside, with_world}
use Rattle.cg_agree_lemmas.specs.UnorderedKept.{first-none}
use Rattle.cg_agree_lemmas.specs.MadeSplit.{rising-set-list}
use Rattle.cg_agree_lemmas.specs.LivesRest.{LifeRests, NodeRests, node-in}
use Rattle.cg_agree_lemmas.specs.RestsBehind.{handed-ids, split-to}
use Rattle.cg_agree_lemmas.specs.MadeWorlds.{IsCoreAt, LifeSound, NodeSound, fits-same, hand-fits, handed-fits, begun-fits, stopped-fits, armed-fits, came-up, joined-fits, swapped-fits}
use Rattle.cg_agree_lemmas.specs.DiskSwaps.{downgrade-swaps, recover_under-cases}
use Rattle.cg_agree.proofs.JoinersMadeNone.{snapshot-none}
use Rattle.cg_client.specs.Joined.{piece_count}
use Rattle.cg_group.specs.RefusalLaws.{refuse_none}

-- ---- the book

-- What was shown as made, as the fact says it.
pub made_book-of : (c : Chronicle) (w : World) → MadeFits w → MadeBook (with_world c w)
made_book-of c w fits = record { begun = λ p. begun p (node_of w p) (fits.nodes p); up = λ p. up p (node_of w p) (fits.nodes p) } where
  begun : (p : ℕ) (o : Option Node) → NodeMade (index_in w.made p) p o → IfSome (option_map (λ s. held_in s.life) o) (λ h. index_in w.made p ≤ created h)
  begun p None is = tt
  begun p (Some s) is = life s.life is where
    life : (l : NodeState) → LifeMade (index_in w.made p) p l → index_in w.made p ≤ created (held_in l)
    life (Up r disk) is = omega arith
    life (Down disk green) is = is.0

  up : (p : ℕ) (o : Option Node) → NodeMade (index_in w.made p) p o → IfSome (option_and_then (λ s. running s.life) o) (λ r. index_in w.made p ≡ created r.held)
  up p None is = tt
  up p (Some s) is = life s.life is where
    life : (l : NodeState) → LifeMade (index_in w.made p) p l → IfSome (running l) (λ r. index_in w.made p ≡ created r.held)
    life (Up r disk) is = is
    life (Down disk green) is = tt

pub nothing-made : MadeFits no_world
nothing-made = record { rising = tt; nodes = λ p. refl }

-- who joins hasn't begun
pub transfer-unbegun : (w : World) (p joiner pieces : ℕ) → first_refusal w (Transfer p joiner pieces) ≡ None → has_begun w joiner ≡ false
unfolding first_refusal
transfer-unbegun w p joiner pieces admitted =
    let first = first-none (takes_part w p) (never_named w joiner ∷ begun_already w joiner ∷ joiner_left w p joiner ∷ not_green w p joiner ∷ []) (ap is_none admitted) in
    let second = first-none (never_named w joiner) (begun_already w joiner ∷ joiner_left w p joiner ∷ not_green w p joiner ∷ []) first.1 in
    let third = first-none (begun_already w joiner) (joiner_left w p joiner ∷ not_green w p joiner ∷ []) second.1 in
    refuse_none (has_begun w joiner) _ third.0

-- ---- events

module _ (c : Chronicle) (w : World) (stands : StandsBeside c w) where
  -- what each replica holds
  pub sound-at : (p : ℕ) → NodeSound c.start p (node_of w p)
  sound-at p = at (node_of w p) refl (node-in (node_of w p) (stands.rests.replica.disk_agrees.up p) (stands.rests.replica.buffer_empty p)) where
    oneself : {h : Held} (greens : List Action) → IsCore c h greens → h.id ≡ p → IsCoreAt c.start p h
    oneself greens core id = record { greens = greens; is = record { made_of = core.made_of; contiguous = core.contiguous; yellow_closed = core.yellow_closed }; id = id }

    life : (l : NodeState) → replica_of w p ≡ running l → disk_held w p ≡ Some (on_disk l) → (s : Node) → s.life ≡ l → NodeRests (Some s) → LifeSound c.start p l
    life (Up r disk) runs has_disk s e rests =
        let here : replica_of c.world p ≡ Some r = sym (stands.same.running p) ∙ runs in
        let mode = subst (λ (o : Option Replica). IfSome o (IsModeData c p)) here (stands.facts.replica.mode_data p) in
        (oneself (greens_of c p) (subst (λ (o : Option Replica). IfSome o (λ r. IsCore c r.held (greens_of c p))) here (stands.facts.replica.cores.memory p)) mode.id, (subst LifeRests e rests).1)
    life (Down disk green) runs has_disk s e rests =
        let here : disk_held c.world p ≡ Some disk.content = sym (stands.same.disk p) ∙ has_disk in
        oneself (stood_of c p) (subst (λ (o : Option Held). IfSome o (λ h. IsCore c h (stood_of c p))) here (stands.facts.replica.cores.disk p))
        (subst (λ (o : Option Held). IfSome o (λ h. h.id ≡ p)) here (stands.facts.net.hosted.disk p))

    at : (o : Option Node) → node_of w p ≡ o → NodeRests o → NodeSound c.start p o
    at None e rests = tt
    at (Some s) e rests = life s.life (ap (λ (o : Option Node). option_and_then (λ s. running s.life) o) e) (ap (λ (o : Option Node). option_map (λ s. on_disk s.life) o) e) s refl rests

  module _ (fits : MadeFits w) where
    grouped-fits : (g : GroupState Msg) → MadeFits (record w { group = g })
    grouped-fits g = fits-same w (record w { group = g }) refl refl fits

    asked : (v : World) (p : ℕ) (kind : Kind) → v.nodes ≡ w.nodes → v.made ≡ w.made → MadeFits (ask v p kind).world
    asked v p kind nodes made =
        hand-fits c.start (quietly v) p (AsksOf kind) (subst (NodeSound c.start p) (ap (λ (list : List Node). node_of (record w { nodes = list }) p) (sym nodes)) (sound-at p)) (fits-same w v nodes made fits)

    recovered-fits : (p : ℕ) → MadeFits (option_map_or (λ s. recover_from w s.life) (node_of w p) (quietly w)).world
    recovered-fits p = at (node_of w p) (sound-at p) (fits.nodes p) where
      at : (o : Option Node) → NodeSound c.start p o → NodeMade (index_in w.made p) p o → MadeFits (option_map_or (λ s. recover_from w s.life) o (quietly w)).world
      at None sound made = fits
      at (Some s) sound made = came-up c.start w p (sound-at p) fits s.life sound made

    pieces-fit : (joiner : ℕ) → has_begun w joiner ≡ false → (s : TransferState) (taken : ℕ) → s.joiner ≡ joiner → index_in s.content.queue.green_cut joiner ≡ 0 → MadeFits (with_pieces w s taken)
    pieces-fit joiner none s taken of green =
        let others = without_snapshot w s.joiner in
        let r = joiner_replica s.joiner s.content in
        cond_both (taken == piece_count s.content) (bring_up others r (new_disk r.held)) (record others { snapshots = others.snapshots ++ record s { taken = taken } ∷ [] }) MadeFits
        (λ y. joined-fits w others s.joiner s.content refl refl
        (subst (λ (n : ℕ). index_in w.made n ≡ 0) (sym of) (unmade (node_of w joiner) none (fits.nodes joiner)))
        (subst (λ (n : ℕ). index_in s.content.queue.green_cut n ≡ 0) (sym of) green) fits)
        (λ n. fits-same w (record others { snapshots = others.snapshots ++ record s { taken = taken } ∷ [] }) refl refl fits)
      where
        unmade : (o : Option Node) → is_some o ≡ false → NodeMade (index_in w.made joiner) joiner o → index_in w.made joiner ≡ 0
        unmade None e is = is
        unmade (Some s) e is = absurd (let clash : true ≡ false = e in cc)

    transferred : (p joiner pieces : ℕ) → has_begun w joiner ≡ false → MadeFits (transfer w p joiner pieces).world
    transferred p joiner pieces none = at (replica_of w p) refl where
      at : (o : Option Replica) → replica_of w p ≡ o → MadeFits (option_map_or (λ r. take_pieces w (snapshot_for w p joiner r) pieces) o (quietly w)).world
      at None e = fits
      at (Some r) e =
          let s = snapshot_for w p joiner r in
          let is = snapshot-none c w stands joiner none p r e in
          pieces-fit joiner none s (min (piece_count s.content) (s.taken + pieces)) is.0 is.1

    happens-made : (e : Event) → MayStand w e → first_refusal w e ≡ None → MadeFits (happens w e).world
    unfolding happens split merge deliver
    happens-made (Start set) may admitted = begun-fits set (ids set) w (ap (λ (v : World). v.made) may.0) fits
    happens-made (Split set) may admitted =
        handed-fits c.start (map (handed_in_split w.group set) set) (quietly (record w { group = (split w.group set).group })) 1
        (handed-ids (handed_in_split w.group set) (split-to w.group set) set 1 (rising-set-list 1 set may.1.ascends)) (λ p le. sound-at p) (grouped-fits (split w.group set).group)
    happens-made (Merge set) may admitted =
        let f : ℕ → Handed Msg = λ p. record { to = p; list = RegularIn (suc (length w.group.configurations)) set ∷ [] } in
        handed-fits c.start (map f set) (quietly (record w { group = (merge w.group set).group })) 1
        (handed-ids f (λ p. refl) set 1 (rising-set-list 1 set may.1.ascends)) (λ p le. sound-at p) (grouped-fits (merge w.group set).group)
    happens-made (Request p cmds query) may admitted = asked w p (Update cmds query) refl refl
    happens-made (Weak p query) may admitted = fits
    happens-made (Dirty p query) may admitted = fits
    happens-made (Order p) may admitted = grouped-fits (order w.group p)
    happens-made (Recover p) may admitted = recovered-fits p
    happens-made (RecoverStopped p call fill) may admitted =
        recover_under-cases w p (record { call = call; fault = StopWith fill }) (λ go. MadeFits go.world) (λ v. swapped-fits w v p fits) (recovered-fits p)
    happens-made (Downgrade p) may admitted = swapped-fits w (downgrade w p) p fits (downgrade-swaps w p)
    happens-made (Show p) may admitted = fits
    happens-made ShowOrder may admitted = fits
    happens-made Gather may admitted = grouped-fits (gather w.group)
    happens-made End may admitted = absurd may
    happens-made (Receive p place) may admitted = grouped-fits (receive w.group p place)
    happens-made (Deliver p count) may admitted =
        let g = w.group in
        let from = delivered_to g p in
        let list = deliveries_at (home g p) (above_up_to from (from + count)) in
        hand-fits c.start (quietly (record w { group = (deliver g p count).group })) p (Deliveries list) (sound-at p) (grouped-fits (deliver g p count).group)
    happens-made (Rounds count) may admitted = absurd may
    happens-made (Stop p zero fill) may admitted = stopped-fits c.start w p (sound-at p) fits
    happens-made (Stop p (suc call) fill) may admitted = armed-fits c.start w p (sound-at p) fits (record { call = suc call; fault = StopWith fill })
    happens-made (Fail p call) may admitted = armed-fits c.start w p (sound-at p) fits (record { call = call; fault = FailOnce })
    happens-made (Join p joiner weight) may admitted = asked (name_also w joiner) p (JoinKind joiner weight) refl refl
    happens-made (Leave p server) may admitted = asked w p (LeaveKind server) refl refl
    happens-made (Transfer p joiner pieces) may admitted = transferred p joiner pieces (transfer-unbegun w p joiner pieces admitted)

    -- Behind an event what was shown as made counts what was created.
    pub event-made : (e : Event) → MayStand w e → first_refusal w e ≡ None → MadeFits (world_step w e).world
    unfolding world_step ended
    event-made e may admitted = fits-same (happens w e).world (world_step w e).world refl refl (happens-made e may admitted)
