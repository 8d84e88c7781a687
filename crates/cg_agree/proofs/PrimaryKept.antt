-- In a primary component all greens are the installation and the actions handed, behind every small step.
use Rattle.std.proofs.Common.{◌≡◌, ℕ, suc, Bool, true, false, not, List, [], Option, Some, None, IfSome, is_some, refl, sym, ap, ◌∙◌, subst, inl, inr, eq-eqb, eqb-true, option_map, option_and_then}
use Rattle.std.specs.Prelude.{◌==◌}
use Rattle.std.specs.Option.{option_map_or}
use Rattle.std.proofs.lemmas.Bool.{cases_Bool, cond-true, cond-false, and_parts, not-true, eqb-false, ne_eqb}
use Rattle.std.proofs.lemmas.Option.{same_Some}
use Rattle.cg_base.specs.declared.weighted.Weighted.{Weighted}
use Rattle.cg_base.specs.Sets.{has}
use Rattle.cg_base.specs.Text.{is_nil}
use Rattle.cg_base.specs.Weights.{ids}
use Rattle.cg_base.specs.FindLaws.{found_passes}
use Rattle.cg_action.specs.declared.action.Kind.{Kind}
use Rattle.cg_wire.specs.declared.message.Msg.{Msg}
use Rattle.cg_group.specs.declared.phase.Phase.{Phase}
use Rattle.cg_group.specs.declared.phase.Phase.TheVariants.{Down as DownPhase, Alone, Regular, Transitional}
use Rattle.cg_group.specs.State.{GroupState, phase_of, delivered_to, regular_in, is_up, standing_of}
use Rattle.cg_client.specs.Replica.{Held, State, RegPrim, TransPrim, ExchangeStates, ExchangeActions, Construct, No, Un, NonPrim, Left, Replica}
use Rattle.cg_client.specs.Turn.{Turn, begin}
use Rattle.cg_client.specs.Requests.{settle}
use Rattle.cg_disk_records.specs.Stored.{stored_of, whiten}
use Rattle.cg_disk_records.specs.Crash.{new_disk, at_rest, recovered, disk_recovered}
use Rattle.cg_model.specs.World.{NodeState, Up, Down, Node, TransferState, node_of, replica_of, running, has_begun, is_left}
use Rattle.cg_model.specs.Step.{joiner_replica}
use Rattle.cg_model.specs.Chronicle.{Past, Attempt, Chronicle}
use Rattle.cg_model.specs.Fronts.{When}
use Rattle.cg_model.specs.Looks.{past_of, greens_of, on_disk, disk_held, conf_at, attempt_of, attempt_at, copied_for}
use Rattle.cg_model.specs.FactsTalk.{ModeFits, IsStateIn, IsTransitional}
use Rattle.cg_model.specs.FactsReplica.{IsModeData, HasModeData, IsCounted, is_primary}
use Rattle.cg_model.specs.FactsAttempts.{IsAttempt}
use Rattle.cg_model.specs.FactsGreens.{IsOnLine, IsHandedGreen, PrimaryGreens}
use Rattle.cg_model.specs.Facts.{Invariant}
use Rattle.cg_model.specs.Small.{Small, Starts, Makes, Enters, Orders, Receives, Hands, Leaves, Asks, Settles, Commits, Crashes, Recovers, Copies, Joins, new_past, struck, newest_conf, turning, take_newest, take_next, take_parting, take_request, coming, handed_next, leaving, commit_as, crash_as, recover_as, copy_as, join_with, small_step}
use Rattle.cg_model.specs.Smalls.{may_make, is_running, is_set}
use Rattle.cg_agree.proofs.BegunKept.{nothing-before}
use Rattle.cg_agree_lemmas.specs.ChronicleFacts.{past-begun}
use Rattle.cg_agree_lemmas.specs.CoresKept.{past-there}
use Rattle.cg_agree.proofs.ExchangeBehind.{up-now}
use Rattle.cg_agree.proofs.ExchangeSmalls.{greens-turning, replica-behind, greens-behind, greens-settle, greens-request}
use Rattle.cg_agree.proofs.GreenLine.{HasGreenLine, as-before}
use Rattle.cg_agree_lemmas.specs.GroupKept.{leaving-regular}
use Rattle.cg_agree_lemmas.specs.HeldCommit.{recovered-id}
use Rattle.cg_agree_lemmas.specs.HandsKept.{hosted}
use Rattle.cg_agree_lemmas.specs.HandsNow.{HandsNow, hands-now, hands-regular, hand-turned, new}
use Rattle.cg_agree.proofs.ModeKept.{mode_data-kept}
use Rattle.cg_agree_lemmas.specs.NextThere.{orders-now, receives-now}
use Rattle.cg_agree_lemmas.specs.OneStands.{Stands}
use Rattle.cg_agree_lemmas.specs.OneSteps.{turns-step, hands-step, leaves-step, enters-step, commits-step, crashes-step, recovers-step, joins-step, may-join, node-there}
use Rattle.cg_agree_lemmas.specs.OrdersWorld.{ordered-step, step-is}
use Rattle.cg_agree.proofs.PartsKept.{attempt_shape-kept}
use Rattle.cg_agree.proofs.PastKept.{enters-now}
use Rattle.cg_agree.proofs.PrimaryHands.{goes-green, installs-green}
use Rattle.cg_agree_lemmas.specs.ReachFacts.{all-at}
use Rattle.cg_agree_lemmas.specs.SmallTalk.{receive-is, receive-same}
use Rattle.cg_agree.proofs.TalkAlone.{replica-set}
use Rattle.cg_agree.proofs.TalkFactsKept.{mode_fits-kept, talk_legal-kept}
use Rattle.cg_agree.proofs.TalkQuiet.{replica-turning}
use Rattle.cg_agree_lemmas.specs.TurnKinds.{IsQuiet, Turned, Quiet, Installs, Decides, Attempts}
use Rattle.cg_agree_lemmas.specs.TurnParts.{settle-quiet, request-quiet, newest-come}
use Rattle.cg_agree_lemmas.specs.TurnAlong.{commit-same}
use Rattle.cg_agree_lemmas.specs.ListStill.{when-from}
use Rattle.cg_agree.proofs.ModeStates.{from-primary}

-- what a member of a primary component in its regular phase has
abbrev pub LineAt : Chronicle → ℕ → Type 0
LineAt d q = (new : Replica) → replica_of d.world q ≡ Some new → new.state ≡ RegPrim → HasGreenLine d q (attempt_at d new.held.prim.index)

-- it is in a regular phase
regular-now : (d : Chronicle) → ModeFits d → (q : ℕ) (new : Replica) → replica_of d.world q ≡ Some new → new.state ≡ RegPrim → (k : ℕ) × (phase_of d.world.group q ≡ Regular k)
regular-now d modes q new up regular = at (phase_of d.world.group q) refl (subst (λ (o : Option Replica). IfSome o (IsStateIn d q (phase_of d.world.group q))) up (modes q)) where
  at : (x : Phase) → phase_of d.world.group q ≡ x → IsStateIn d q x new → (k : ℕ) × (phase_of d.world.group q ≡ Regular k)
  at (Regular k) e is = (k, e)
  at (Transitional k set) e is = absurd (subst (IsTransitional d k q new.held) regular is)
  at Alone e is = absurd (let clash : true ≡ false = sym (ap is_primary regular) ∙ ap is_primary is in cc)
  at DownPhase e is = absurd (let clash : true ≡ false = sym (ap is_primary regular) ∙ ap is_primary is in cc)

module _ (c : Chronicle) (i : Invariant c) where
  -- a replica that stays as it is
  line-same : (s : Small) → may_make c s ≡ true → (q : ℕ) → replica_of (small_step c s).world q ≡ replica_of c.world q → phase_of (small_step c s).world.group q ≡ phase_of c.world.group q →
      delivered_to (small_step c s).world.group q ≡ delivered_to c.world.group q → greens_of (small_step c s) q ≡ greens_of c q → LineAt (small_step c s) q
  line-same s may q replica phase delivered greens new up regular =
      let k = regular-now (small_step c s) (mode_fits-kept c s i may) q new up regular in
      as-before c s i may q k.0 new (record { old = new; was = sym replica ∙ up; primary = ap is_primary regular; prim = refl; phase = sym phase ∙ k.1; delivered = delivered; greens = greens })

  -- one replica stands otherwise
  line-one : (s : Small) → may_make c s ≡ true → (p : ℕ) (now : Phase) (n : ℕ) (up : Bool) → Stands c.world.group (small_step c s).world.group p now n up →
      ((q : ℕ) → (q == p) ≡ false → replica_of (small_step c s).world q ≡ replica_of c.world q) → ((q : ℕ) → (q == p) ≡ false → greens_of (small_step c s) q ≡ greens_of c q) →
      LineAt (small_step c s) p → (q : ℕ) → LineAt (small_step c s) q
  line-one s may p now n up stands replica greens own q = elim (cases_Bool (q == p)) [
    | inl same ↦ subst (LineAt (small_step c s)) (sym (eqb-true q p same)) own
    | inr other ↦ line-same s may q (replica q other) (stands.phase q ∙ cond-false (q == p) now (phase_of c.world.group q) other)
        (stands.delivered q ∙ cond-false (q == p) n (delivered_to c.world.group q) other) (greens q other)
  ]

  -- in no regular phase
  line-none : (s : Small) → may_make c s ≡ true → (p : ℕ) (now : Phase) (n : ℕ) (up : Bool) → Stands c.world.group (small_step c s).world.group p now n up → ((k : ℕ) → now ≡ Regular k → ⊥) → LineAt (small_step c s) p
  line-none s may p now n up stands out new there regular =
      let k = regular-now (small_step c s) (mode_fits-kept c s i may) p new there regular in
      absurd (out k.0 (sym (stands.phase p ∙ cond-true (p == p) now (phase_of c.world.group p) (eq-eqb p p refl)) ∙ k.1))

  -- a turn that leaves it in its state
  line-quiet : (s : Small) → may_make c s ≡ true → (p : ℕ) (r after : Replica) → replica_of c.world p ≡ Some r → replica_of (small_step c s).world p ≡ Some after → is_primary after.state ≡ is_primary r.state → after.held.prim ≡ r.held.prim →
      Stands c.world.group (small_step c s).world.group p (phase_of c.world.group p) (delivered_to c.world.group p) (is_up c.world.group p) → greens_of (small_step c s) p ≡ greens_of c p → LineAt (small_step c s) p
  line-quiet s may p r after up there primary prim stands greens new is regular =
      let same : after ≡ new = same_Some after new (sym there ∙ is) in
      let k = regular-now (small_step c s) (mode_fits-kept c s i may) p new is regular in
      as-before c s i may p k.0 new (record {
        old = r;
        was = up;
        primary = sym primary ∙ ap (λ (x : Replica). is_primary x.state) same ∙ ap is_primary regular;
        prim = ap (λ (x : Replica). x.held.prim) (sym same) ∙ prim;
        phase = sym (stands.phase p ∙ cond-true (p == p) (phase_of c.world.group p) (phase_of c.world.group p) (eq-eqb p p refl)) ∙ k.1;
        delivered = stands.delivered p ∙ cond-true (p == p) (delivered_to c.world.group p) (delivered_to c.world.group p) (eq-eqb p p refl);
        greens = greens;
      })

  makes-line : (set : List ℕ) → may_make c (Makes set) ≡ true → (q : ℕ) → LineAt (small_step c (Makes set)) q
  unfolding small_step standing_of
  makes-line set may q = line-same (Makes set) may q refl refl refl refl

  orders-line : (p : ℕ) → may_make c (Orders p) ≡ true → (q : ℕ) → LineAt (small_step c (Orders p)) q
  orders-line p may q =
      let n = orders-now c p i.net.phase_sound i.net.receipts_inside.places may in
      let step = ordered-step c p n.conf n.stands n.message n.rest n.at in
      let is = step-is c p n.conf n.stands n.message n.rest n.at in
      line-same (Orders p) may q (ap (λ (x : Chronicle). replica_of x.world q) is ∙ step.replica q) (ap (λ (x : Chronicle). phase_of x.world.group q) is ∙ step.phase q)
      (ap (λ (x : Chronicle). delivered_to x.world.group q) is ∙ step.delivered q) (ap (λ (x : Chronicle). greens_of x q) is)

  receives-line : (p place : ℕ) → may_make c (Receives p place) ≡ true → (q : ℕ) → LineAt (small_step c (Receives p place)) q
  unfolding small_step
  receives-line p place may q =
      let n = receives-now c p place i.net.phase_sound may in
      let same = receive-same c p n.conf place n.regular n.number n.there in
      let is = receive-is c p n.conf place n.regular n.number n.there in
      line-same (Receives p place) may q refl (ap (λ (h : GroupState Msg). phase_of h q) is ∙ same.phase q) (ap (λ (h : GroupState Msg). delivered_to h q) is ∙ same.delivered q) refl

  enters-line : (p : ℕ) → may_make c (Enters p) ≡ true → (q : ℕ) → LineAt (small_step c (Enters p)) q
  unfolding small_step
  enters-line p may =
      let n = enters-now c p i.net.phase_sound (i.replica.mode_data p) may in
      let step = enters-step c p i.net.phase_sound n.may.comes in
      let g = c.world.group in
      let part = take_newest g in
      let come = newest-come g n.replica n.between in
      let there = replica-behind (coming c p) p part n.replica n.disk n.node in
      line-one (Enters p) may p (Regular (newest_conf g)) 0 true step.stands (λ q other. replica-turning (coming c p) p part q other) (λ q other. greens-turning (coming c p) p part q other)
      (λ new is regular. absurd (let clash : true ≡ false = sym (ap is_primary regular) ∙ ap (λ (x : Replica). is_primary x.state) (same_Some new (part (begin n.replica)).replica (sym is ∙ there)) ∙ ap is_primary come.state in cc))

  leaves-line : (p : ℕ) (set : List ℕ) (own : ℕ) (places : List ℕ) → may_make c (Leaves p set own places) ≡ true → (q : ℕ) → LineAt (small_step c (Leaves p set own places)) q
  unfolding small_step
  leaves-line p set own places may =
      let step = leaves-step c p set own places i.net.phase_sound (leaving-regular c p set own places may) in
      let g = c.world.group in
      let part = take_parting g p set places in
      line-one (Leaves p set own places) may p (Transitional (regular_in (phase_of g p)) set) own true step.stands (λ q other. replica-turning (leaving c p set own) p part q other) (λ q other. greens-turning (leaving c p set own) p part q other)
      (line-none (Leaves p set own places) may p (Transitional (regular_in (phase_of g p)) set) own true step.stands (λ k e. (let clash : Transitional (regular_in (phase_of g p)) set ≡ Regular k = e in cc)))

  turns-line : (s : Small) → may_make c s ≡ true → (p : ℕ) (part : Turn → Turn) → small_step c s ≡ turning c p part → is_running c p ≡ true → ((r : Replica) → IsQuiet r (part (begin r)).replica) →
      ((r : Replica) → (part (begin r)).replica.held.queue.greens ≡ r.held.queue.greens) → (q : ℕ) → LineAt (small_step c s) q
  turns-line s may p part is runs quiet kept =
      let step = turns-step c p part i.net.phase_sound in
      let sits = hosted c.world p runs in
      let r = sits.replica in
      let up : replica_of c.world p ≡ Some r = ap (λ (o : Option Node). option_and_then (λ s. running s.life) o) sits.node in
      let stands = subst (λ (x : Chronicle). Stands c.world.group x.world.group p (phase_of c.world.group p) (delivered_to c.world.group p) (is_up c.world.group p)) (sym is) step.stands in
      line-one s may p (phase_of c.world.group p) (delivered_to c.world.group p) (is_up c.world.group p) stands
      (λ q other. ap (λ (x : Chronicle). replica_of x.world q) is ∙ replica-turning c p part q other) (λ q other. ap (λ (x : Chronicle). greens_of x q) is ∙ greens-turning c p part q other)
      (line-quiet s may p r (part (begin r)).replica up (ap (λ (x : Chronicle). replica_of x.world p) is ∙ replica-behind c p part r sits.disk sits.node) (quiet r).primary (quiet r).values.prim stands
      (ap (λ (x : Chronicle). greens_of x p) is ∙ greens-behind c p part r sits.disk sits.node i.net.hosted.past (kept r)))

  asks-line : (p : ℕ) (kind : Kind) → may_make c (Asks p kind) ≡ true → (q : ℕ) → LineAt (small_step c (Asks p kind)) q
  unfolding may_make small_step
  asks-line p kind may = turns-line (Asks p kind) may p (take_request kind) refl (and_parts (is_running c p) (not (is_left c.world p)) may).0 (request-quiet kind) (λ r. greens-request (begin r) kind)

  settles-line : (p : ℕ) → may_make c (Settles p) ≡ true → (q : ℕ) → LineAt (small_step c (Settles p)) q
  unfolding may_make small_step
  settles-line p may = turns-line (Settles p) may p settle refl may settle-quiet (λ r. greens-settle (begin r))

  commits-line : (p : ℕ) → may_make c (Commits p) ≡ true → (q : ℕ) → LineAt (small_step c (Commits p)) q
  unfolding may_make small_step whiten
  commits-line p may =
      let sits = hosted c.world p may in
      let r = sits.replica in
      let life : NodeState = Up (record r { held = whiten r.held }) (record sits.disk { content = stored_of (whiten r.held) }) in
      let up : replica_of c.world p ≡ Some r = ap (λ (o : Option Node). option_and_then (λ s. running s.life) o) sits.node in
      let is = ap (λ (o : Option Node). option_map_or (λ s. commit_as c p s.life) o c) sits.node in
      let step = commits-step c p i.net.phase_sound in
      line-one (Commits p) may p (phase_of c.world.group p) (delivered_to c.world.group p) (is_up c.world.group p) step.stands
      (λ q other. ap (λ (x : Chronicle). replica_of x.world q) is ∙ replica-set c.world p life q ∙ cond-false (q == p) (Some (record r { held = whiten r.held })) (replica_of c.world q) other)
      (λ q other. ap (λ (x : Chronicle). greens_of x q) is ∙ commit-same c p (Up r sits.disk) q)
      (line-quiet (Commits p) may p r (record r { held = whiten r.held }) up
      (ap (λ (x : Chronicle). replica_of x.world p) is ∙ replica-set c.world p life p ∙ cond-true (p == p) (Some (record r { held = whiten r.held })) (replica_of c.world p) (eq-eqb p p refl)) refl refl step.stands
      (ap (λ (x : Chronicle). greens_of x p) is ∙ commit-same c p (Up r sits.disk) p))

  crashes-line : (p : ℕ) → may_make c (Crashes p) ≡ true → (q : ℕ) → LineAt (small_step c (Crashes p)) q
  unfolding may_make small_step
  crashes-line p may =
      let sits = hosted c.world p may in
      let life : NodeState = Down (at_rest sits.disk) [] in
      let is = ap (λ (o : Option Node). option_map_or (λ s. crash_as c p s.life) o c) sits.node in
      let step = crashes-step c p may in
      line-one (Crashes p) may p DownPhase 0 false step.stands
      (λ q other. ap (λ (x : Chronicle). replica_of x.world q) is ∙ replica-set c.world p life q ∙ cond-false (q == p) None (replica_of c.world q) other)
      (λ q other. ap (λ (x : Chronicle). greens_of x q) is ∙ ap (λ (o : Option Past). option_map_or (λ x. x.greens) o []) (past-there struck (λ x. refl) c p q (λ e. eqb-false q p other (sym e))))
      (line-none (Crashes p) may p DownPhase 0 false step.stands (λ k e. (let clash : DownPhase ≡ Regular k = e in cc)))

  recovers-line : (p : ℕ) → may_make c (Recovers p) ≡ true → (q : ℕ) → LineAt (small_step c (Recovers p)) q
  unfolding may_make small_step
  recovers-line p may =
      let parts = and_parts (has_begun c.world p) (not (is_running c p)) may in
      let there = node-there c p parts.0 in
      let is = ap (λ (o : Option Node). option_map_or (λ s. recover_as c s.life) o c) there.there in
      let step = recovers-step c p i.net.hosted parts.0 (not-true (is_running c p) parts.1) in
      line-one (Recovers p) may p Alone 0 true step.stands
      (λ q other. ap (λ (x : Chronicle). replica_of x.world q) is ∙ others there.node there.node.life refl there.there q other) (λ q other. ap (λ (x : Chronicle). greens_of x q) is ∙ same there.node.life q)
      (line-none (Recovers p) may p Alone 0 true step.stands (λ k e. (let clash : Alone ≡ Regular k = e in cc))) where
        same : (l : NodeState) (q : ℕ) → greens_of (recover_as c l) q ≡ greens_of c q
        same (Up r disk) q = refl
        same (Down disk green) q = refl

        others : (s : Node) (l : NodeState) → s.life ≡ l → node_of c.world p ≡ Some s → (q : ℕ) → (q == p) ≡ false → replica_of (recover_as c l).world q ≡ replica_of c.world q
        others s (Up r disk) is e q other = refl
        others s (Down disk green) is e q other =
            let held : disk_held c.world p ≡ Some disk.content = ap (λ (o : Option Node). option_map (λ s. on_disk s.life) o) e ∙ ap (λ l. Some (on_disk l)) is in
            let name : (recovered disk).held.id ≡ p = recovered-id disk.content ∙ subst (λ (o : Option Held). IfSome o (λ h. h.id ≡ p)) held (i.net.hosted.disk p) in
            let me = (recovered disk).held.id in
            replica-set c.world me (Up (recovered disk) (disk_recovered disk)) q ∙ cond-false (q == me) (Some (recovered disk)) (replica_of c.world q) (ap (λ n. q == n) name ∙ other)

  copies-line : (p joiner : ℕ) → may_make c (Copies p joiner) ≡ true → (q : ℕ) → LineAt (small_step c (Copies p joiner)) q
  unfolding small_step
  copies-line p joiner may q = line-same (Copies p joiner) may q (same (λ x. replica_of x.world q) (λ r. refl) (replica_of c.world p)) (same (λ x. phase_of x.world.group q) (λ r. refl) (replica_of c.world p))
      (same (λ x. delivered_to x.world.group q) (λ r. refl) (replica_of c.world p)) (same (λ x. greens_of x q) (λ r. refl) (replica_of c.world p)) where
        same : {X : Type 0} (f : Chronicle → X) → ((r : Replica) → f (copy_as c p joiner r) ≡ f c) → (o : Option Replica) → f (option_map_or (copy_as c p joiner) o c) ≡ f c
        same f each None = refl
        same f each (Some r) = each r

  joins-line : (joiner : ℕ) → may_make c (Joins joiner) ≡ true → (q : ℕ) → LineAt (small_step c (Joins joiner)) q
  unfolding may_make small_step
  joins-line joiner may =
      let one = may-join c joiner may in
      let r = joiner_replica joiner one.snapshot.content in
      let life : NodeState = Up r (new_disk r.held) in
      let begun = new_past (copied_for c joiner) joiner in
      let absent : past_of c joiner ≡ None = none-of (past_of c joiner) (i.net.hosted.past joiner ∙ one.fresh) in
      let is = ap (λ (o : Option TransferState). option_map_or (λ s. join_with c joiner s.content) o c) one.there in
      let step = joins-step c joiner one in
      line-one (Joins joiner) may joiner Alone 0 true step.stands
      (λ q other. ap (λ (x : Chronicle). replica_of x.world q) is ∙ replica-set c.world joiner life q ∙ cond-false (q == joiner) (Some r) (replica_of c.world q) other)
      (λ q other. ap (λ (x : Chronicle). greens_of x q) is
      ∙ ap (λ (o : Option Past). option_map_or (λ x. x.greens) o []) (past-begun c.pasts begun q absent ∙ cond-false (joiner == q) (Some begun) (past_of c q) (ne_eqb joiner q (λ e. eqb-false q joiner other (sym e)))))
      (line-none (Joins joiner) may joiner Alone 0 true step.stands (λ k e. (let clash : Alone ≡ Regular k = e in cc))) where
        none-of : (o : Option Past) → is_some o ≡ false → o ≡ None
        none-of None e = refl
        none-of (Some x) e = absurd (let clash : true ≡ false = e in cc)

  hands-line : (p : ℕ) → may_make c (Hands p) ≡ true → (q : ℕ) → LineAt (small_step c (Hands p)) q
  unfolding small_step
  hands-line p may =
      let n = hands-now c p i may in
      let step = hands-step c p i.net.phase_sound (hands-regular c p may) in
      let part = take_next c.world.group p in
      line-one (Hands p) may p (phase_of c.world.group p) (suc (delivered_to c.world.group p)) true step.stands
      (λ q other. replica-turning (handed_next c p) p part q other) (λ q other. greens-turning (handed_next c p) p part q other) (own n) where
        by : (n : HandsNow c p) → (new c p i n).state ≡ RegPrim → Turned n.replica (new c p i n) n.next.message → HasGreenLine (small_step c (Hands p)) p (attempt_at (small_step c (Hands p)) (new c p i n).held.prim.index)
        by n regular (Quiet quiet) = goes-green c p i may n (sym quiet.primary ∙ ap is_primary regular) regular
        by n regular (Installs done) = installs-green c p i may n done
        by n regular (Decides conf heard ends decided) = absurd (let clash : true ≡ false = sym (ap is_primary regular) ∙ ap is_primary decided.state in cc)
        by n regular (Attempts conf heard ends attempted) = absurd (let clash : true ≡ false = sym (ap is_primary regular) ∙ ap is_primary attempted.state in cc)

        own : (n : HandsNow c p) → LineAt (small_step c (Hands p)) p
        own n x is regular =
            let same : new c p i n ≡ x = same_Some (new c p i n) x (sym (up-now c p i may n) ∙ is) in
            subst (λ (r : Replica). HasGreenLine (small_step c (Hands p)) p (attempt_at (small_step c (Hands p)) r.held.prim.index)) same
            (by n (ap (λ (r : Replica). r.state) same ∙ regular) (hand-turned c p i n))

  -- at the start there is no attempt
  starts-line : (set : List Weighted) → may_make c (Starts set) ≡ true → (q : ℕ) → LineAt (small_step c (Starts set)) q
  unfolding may_make small_step
  starts-line set may q new up regular =
      let d = small_step c (Starts set) in
      let empty = nothing-before c i.net.hosted (and_parts (is_nil c.world.nodes) (is_set (ids set)) may).0 in
      let mode = subst (λ (o : Option Replica). IfSome o (IsModeData d q)) up (mode_data-kept c (Starts set) i may q) in
      let data_of : HasModeData d new.held (phase_of d.world.group q) RegPrim = subst (HasModeData d new.held (phase_of d.world.group q)) regular mode.data_of in
      let k = conf_at (phase_of d.world.group q) in
      let none : attempt_of d k ≡ None = ap (λ (x : Chronicle). attempt_of x k) empty in
      absurd (let clash : None ≡ Some (attempt_at d new.held.prim.index) = sym none ∙ data_of.0.opened in cc)

pub line-behind : (c : Chronicle) (s : Small) → Invariant c → may_make c s ≡ true → (q : ℕ) → LineAt (small_step c s) q
line-behind c (Starts set) i may = starts-line c i set may
line-behind c (Makes set) i may = makes-line c i set may
line-behind c (Enters p) i may = enters-line c i p may
line-behind c (Orders p) i may = orders-line c i p may
line-behind c (Receives p place) i may = receives-line c i p place may
line-behind c (Hands p) i may = hands-line c i p may
line-behind c (Leaves p set own places) i may = leaves-line c i p set own places may
line-behind c (Asks p kind) i may = asks-line c i p kind may
line-behind c (Settles p) i may = settles-line c i p may
line-behind c (Commits p) i may = commits-line c i p may
line-behind c (Crashes p) i may = crashes-line c i p may
line-behind c (Recovers p) i may = recovers-line c i p may
line-behind c (Copies p joiner) i may = copies-line c i p joiner may
line-behind c (Joins joiner) i may = joins-line c i joiner may

-- ---- the fact

handed-at : (d : Chronicle) (p : ℕ) (a : Attempt) (state : State) → (state ≡ RegPrim → HasGreenLine d p a) → IsHandedGreen d p a state
handed-at d p a RegPrim f = f refl
handed-at d p a TransPrim f = tt
handed-at d p a (ExchangeStates conf set heard) f = tt
handed-at d p a (ExchangeActions conf heard accepted) f = tt
handed-at d p a (Construct conf heard) f = tt
handed-at d p a (No conf heard) f = tt
handed-at d p a Un f = tt
handed-at d p a (NonPrim regular) f = tt
handed-at d p a Left f = tt

-- In a primary component all greens are the installation and the actions handed.
pub primary_greens-kept : (c : Chronicle) (s : Small) → Invariant c → may_make c s ≡ true → PrimaryGreens (small_step c s)
primary_greens-kept c s i may p = at (replica_of d.world p) refl (mode_data-kept c s i may p) where
  d : Chronicle
  d = small_step c s

  line : (r : Replica) → replica_of d.world p ≡ Some r → IsModeData d p r → is_primary r.state ≡ true → IsOnLine d p r
  line r up mode primary =
      let k = conf_at (phase_of d.world.group p) in
      let b = attempt_at d r.held.prim.index in
      let in_it = from-primary d r.held (phase_of d.world.group p) r.state primary mode.data_of in
      let counted : IsCounted b r = subst (λ (o : Option Attempt). IfSome o (λ a. IsCounted a r)) in_it.opened mode.counted in
      let shape : IsAttempt d k b = subst (λ (o : Option Attempt). IfSome o (IsAttempt d k)) in_it.opened (attempt_shape-kept c s i may (talk_legal-kept c s i may) k) in
      let installed : has b.installed p ≡ true = ap (has b.installed) (sym mode.id) ∙ counted.installed ∙ primary in
      record {
        conf = eqb-true b.conf k (found_passes (λ (a : Attempt). a.conf == k) d.attempts b in_it.opened);
        member = all-at (has b.set) b.entered p shape.entered (all-at (has b.entered) b.installed p shape.installed installed);
        greens = handed-at d p b r.state (line-behind c s i may p r up);
      }

  at : (o : Option Replica) → replica_of d.world p ≡ o → IfSome o (IsModeData d p) → IfSome o (λ r. When (is_primary r.state) (IsOnLine d p r))
  at None up mode = tt
  at (Some r) up mode = when-from (is_primary r.state) (IsOnLine d p r) (line r up mode)
