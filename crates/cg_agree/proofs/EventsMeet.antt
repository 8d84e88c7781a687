-- What each admitted event brings to each replica, and what it shows of it.
use Rattle.std.proofs.Common.{◌≡◌, ℕ, zero, suc, ◌+◌, true, false, is_none, List, [], ◌∷◌, map, length, Option, Some, None, IfSome, refl, sym, ap, ◌∙◌, subst, option_map}
use Rattle.std.specs.Option.{option_map_or}
use Rattle.cg_base.specs.Lists.{above_up_to, Each}
use Rattle.cg_action.specs.declared.action.Kind.TheVariants.{Update, Join as JoinKind, Leave as LeaveKind}
use Rattle.cg_wire.specs.declared.message.Msg.{Msg}
use Rattle.cg_group.specs.declared.delivery.Handed.{Handed}
use Rattle.cg_base.specs.EachLaws.{Each-has}
use Rattle.cg_base.specs.Sets.{has}
use Rattle.cg_group.specs.declared.delivery.Delivery.TheVariants.{Regular as RegularIn}
use Rattle.cg_group.specs.State.{delivered_to, home}
use Rattle.cg_group.specs.Events.{deliveries_at, handed_in_split, deliver, split, merge}
use Rattle.cg_client.specs.Replica.{Held, Replica}
use Rattle.cg_states.specs.ReplicaStep.{Deliveries}
use Rattle.cg_disk_records.specs.Crash.{FailOnce, StopWith, Disk}
use Rattle.cg_base.specs.declared.action_id.ActionId.{ActionId}
use Rattle.cg_base.specs.OptionLaws.{is_some_false}
use Rattle.cg_schedule.specs.declared.event.Event.{Event}
use Rattle.cg_schedule.specs.declared.event.Event.TheVariants.{Start, Split, Merge, Request, Weak, Dirty, Order, Recover, RecoverStopped, Downgrade, Show, ShowOrder, Gather, End, Receive, Deliver, Rounds, Stop, Fail, Join, Leave, Transfer}
use Rattle.cg_model.specs.World.{Down, Node, World, has_begun, node_of, replica_of}
use Rattle.cg_model.specs.Admission.{first_refusal, takes_part, never_named, joiner_left, not_green}
use Rattle.cg_model.specs.AdmissionCalls.{begun_already}
use Rattle.cg_model.specs.Run.{MayStand}
use Rattle.cg_model.specs.Chronicle.{Chronicle}
use Rattle.cg_model.specs.Looks.{on_disk, disk_held}
use Rattle.cg_model.specs.Step.{quietly, name_also, snapshot_for, transfer, happens, downgrade}
use Rattle.cg_model.specs.AtNode.{take_pieces}
use Rattle.cg_model.specs.Played.{StandsBeside}
use Rattle.cg_agree_lemmas.specs.UnorderedKept.{first-none}
use Rattle.cg_agree_lemmas.specs.MadeSplit.{rising-set-list}
use Rattle.cg_agree_lemmas.specs.RestsBehind.{handed-ids, split-to}
use Rattle.cg_agree.proofs.JoinersMadeNone.{snapshot-none}
use Rattle.cg_agree_lemmas.specs.EventInputs.{IsHanded}
use Rattle.cg_agree_lemmas.specs.EventSays.{NodeOwes}
use Rattle.cg_agree_lemmas.specs.DiskSwaps.{downgrade-swaps}
use Rattle.cg_agree.proofs.EventMeets.{Meets, same-stays, asked, handed-one, handed-out, start-meets, stop-meets, arm-meets, recover-meets, pieces-meet, swap-meets, recover_under-meets}
use Rattle.cg_group.specs.RefusalLaws.{refuse_none}

module _ (c : Chronicle) (w : World) (stands : StandsBeside c w) where
  -- the disk of a replica that is down is its own
  disk-named : (q : ℕ) (d : Disk) (green : List ActionId) (s : Node) → node_of w q ≡ Some s → s.life ≡ Down d green → d.content.id ≡ q
  disk-named q d green s found is =
      let here : disk_held c.world q ≡ Some d.content = sym (stands.same.disk q) ∙ ap (λ (o : Option Node). option_map (λ s. on_disk s.life) o) found ∙ ap (λ l. Some (on_disk l)) is in
      subst (λ (o : Option Held). IfSome o (λ h. h.id ≡ q)) here (stands.facts.net.hosted.disk q)

  unbegun : (p joiner pieces : ℕ) → first_refusal w (Transfer p joiner pieces) ≡ None → has_begun w joiner ≡ false
  unfolding first_refusal
  unbegun p joiner pieces admitted =
      let first = first-none (takes_part w p) (never_named w joiner ∷ begun_already w joiner ∷ joiner_left w p joiner ∷ not_green w p joiner ∷ []) (ap is_none admitted) in
      let second = first-none (never_named w joiner) (begun_already w joiner ∷ joiner_left w p joiner ∷ not_green w p joiner ∷ []) first.1 in
      let third = first-none (begun_already w joiner) (joiner_left w p joiner ∷ not_green w p joiner ∷ []) second.1 in
      refuse_none (has_begun w joiner) _ third.0

  transfer-meets : (q joiner pieces p : ℕ) → has_begun w joiner ≡ false → Meets w (Transfer q joiner pieces) (transfer w q joiner pieces) p
  transfer-meets q joiner pieces p none = at (replica_of w q) refl where
    at : (o : Option Replica) → replica_of w q ≡ o → Meets w (Transfer q joiner pieces) (option_map_or (λ r. take_pieces w (snapshot_for w q joiner r) pieces) o (quietly w)) p
    at None e = same-stays w (Transfer q joiner pieces) (quietly w) p refl refl refl
    at (Some r) e =
        let s = snapshot_for w q joiner r in
        let is = snapshot-none c w stands joiner none q r e in
        pieces-meet w (Transfer q joiner pieces) s pieces p (ap (node_of w) is.0 ∙ is_some_false (node_of w joiner) none)

  each-split : (set list : List ℕ) → Each (λ q. has set q ≡ true) list → Each (λ h. IsHanded w (Split set) h.to (Deliveries h.list)) (map (handed_in_split w.group set) list)
  each-split set [] each = tt
  each-split set (q ∷ list) each =
      let to = split-to w.group set q in
      ((ap (has set) to ∙ each.0, ap (λ n. Deliveries (handed_in_split w.group set n).list) (sym to)), each-split set list each.1)

  each-merge : (set list : List ℕ) → Each (λ q. has set q ≡ true) list →
      Each (λ h. IsHanded w (Merge set) h.to (Deliveries h.list)) (map (λ (p : ℕ). (let h : Handed Msg = record { to = p; list = RegularIn (suc (length w.group.configurations)) set ∷ [] } in h)) list)
  each-merge set [] each = tt
  each-merge set (q ∷ list) each = ((each.0, refl), each-merge set list each.1)

  module _ (owes : (p : ℕ) → NodeOwes c.start p (node_of w p)) where
    pub happens-meets : (e : Event) → MayStand w e → first_refusal w e ≡ None → (p : ℕ) → Meets w e (happens w e) p
    unfolding happens split merge deliver
    happens-meets (Start set) may admitted p = start-meets w set p (ap (λ (v : World). node_of v p) may.0)
    happens-meets (Split set) may admitted p =
        handed-out c.start w owes (Split set) (split w.group set).group (map (handed_in_split w.group set) set) p refl
        (handed-ids (handed_in_split w.group set) (split-to w.group set) set 1 (rising-set-list 1 set may.1.ascends)) (each-split set set (Each-has set))
    happens-meets (Merge set) may admitted p =
        let f : ℕ → Handed Msg = λ p. record { to = p; list = RegularIn (suc (length w.group.configurations)) set ∷ [] } in
        handed-out c.start w owes (Merge set) (merge w.group set).group (map f set) p refl (handed-ids f (λ p. refl) set 1 (rising-set-list 1 set may.1.ascends)) (each-merge set set (Each-has set))
    happens-meets (Request q cmds query) may admitted p = asked c.start w owes (Request q cmds query) w q (Update cmds query) p refl (refl, refl) refl
    happens-meets (Weak q query) may admitted p = same-stays w (Weak q query) _ p refl refl refl
    happens-meets (Dirty q query) may admitted p = same-stays w (Dirty q query) _ p refl refl refl
    happens-meets (Order q) may admitted p = same-stays w (Order q) _ p refl refl refl
    happens-meets (Recover q) may admitted p = recover-meets w (Recover q) q p refl (disk-named q)
    happens-meets (RecoverStopped q call fill) may admitted p = recover_under-meets w (RecoverStopped q call fill) q (record { call = call; fault = StopWith fill }) p refl (disk-named q)
    happens-meets (Downgrade q) may admitted p = swap-meets w (downgrade w q) (Downgrade q) q p (downgrade-swaps w q)
    happens-meets (Show q) may admitted p = same-stays w (Show q) _ p refl refl refl
    happens-meets ShowOrder may admitted p = same-stays w ShowOrder _ p refl refl refl
    happens-meets Gather may admitted p = same-stays w Gather _ p refl refl refl
    happens-meets End may admitted p = absurd may
    happens-meets (Receive q place) may admitted p = same-stays w (Receive q place) _ p refl refl refl
    happens-meets (Deliver q count) may admitted p =
        let g = w.group in
        let from = delivered_to g q in
        let list = deliveries_at (home g q) (above_up_to from (from + count)) in
        handed-one c.start w owes (Deliver q count) (deliver g q count).group q (Deliveries list) p refl (refl, refl)
    happens-meets (Rounds count) may admitted p = absurd may
    happens-meets (Stop q zero fill) may admitted p = stop-meets w (Stop q zero fill) q p
    happens-meets (Stop q (suc call) fill) may admitted p = arm-meets w (Stop q (suc call) fill) q (record { call = suc call; fault = StopWith fill }) p
    happens-meets (Fail q call) may admitted p = arm-meets w (Fail q call) q (record { call = call; fault = FailOnce }) p
    happens-meets (Join q joiner weight) may admitted p = asked c.start w owes (Join q joiner weight) (name_also w joiner) q (JoinKind joiner weight) p refl (refl, refl) refl
    happens-meets (Leave q server) may admitted p = asked c.start w owes (Leave q server) w q (LeaveKind server) p refl (refl, refl) refl
    happens-meets (Transfer q joiner pieces) may admitted p = transfer-meets q joiner pieces p (unbegun q joiner pieces admitted)
