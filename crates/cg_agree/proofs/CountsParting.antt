-- Counts behind a parting of the member that leaves: it has the greens that it had, or has installed its attempt.
use Rattle.std.proofs.Common.{◌≡◌, ℕ, true, List, [], ◌∷◌, ◌++◌, length, Option, Some, None, IfSome, refl, sym, ap, ◌∙◌, subst, inl, inr, arith, eq-eqb, eqb-true, option_and_then, append-nil}
use Rattle.std.specs.Prelude.{◌==◌}
use Rattle.std.specs.Option.{option_map_or}
use Rattle.std.proofs.lemmas.Bool.{cond-true}
use Rattle.std.proofs.lemmas.List.Sums.{fold-append}
use Rattle.cg_base.specs.Lists.{at_place}
use Rattle.cg_base.specs.Sets.{has}
use Rattle.cg_base.specs.FindLaws.{found_passes}
use Rattle.cg_wire.specs.declared.message.Msg.{Msg}
use Rattle.cg_wire.specs.declared.message.Msg.TheVariants.{Action as ActionMsg, State as StateMsg, GreenItem, RedItem, Cpc}
use Rattle.cg_group.specs.declared.delivery.Delivery.TheVariants.{Message}
use Rattle.cg_group.specs.declared.phase.Phase.{Phase}
use Rattle.cg_group.specs.declared.phase.Phase.TheVariants.{Regular, Transitional}
use Rattle.cg_group.specs.Events.{delivery_at, deliveries_at}
use Rattle.cg_group.specs.State.{GroupState, Configuration, Sent, phase_of, regular_in, home}
use Rattle.cg_client.specs.Replica.{State, RegPrim, TransPrim, Replica}
use Rattle.cg_client.specs.Turn.{Turn, begin}
use Rattle.cg_states.specs.ReplicaStep.{on_message, on_transitional, after_delivery as take_one}
use Rattle.cg_disk_records.specs.Crash.{Disk}
use Rattle.cg_model.specs.World.{Node, replica_of, running}
use Rattle.cg_model.specs.Chronicle.{Attempt, Chronicle}
use Rattle.cg_model.specs.Looks.{greens_of, conf_at, is_at, is_in, attempt_of, attempt_at, left_count, installation}
use Rattle.cg_model.specs.Levels.{count_in}
use Rattle.cg_model.specs.FactsReplica.{IsModeData, HasModeData, IsCounted, is_primary}
use Rattle.cg_model.specs.FactsTalk.{handed_talk}
use Rattle.cg_model.specs.Facts.{Invariant}
use Rattle.cg_model.specs.Small.{Leaves, take_all, take_parting, leaving, newly_green, small_step}
use Rattle.cg_model.specs.Smalls.{may_make}
use Rattle.cg_agree.proofs.AttemptSteps.{leaves-installing}
use Rattle.cg_agree_lemmas.specs.AttemptsGrow.{attempts-grow}
use Rattle.cg_agree_lemmas.specs.CoresKept.{greens-turn}
use Rattle.cg_agree.proofs.CountsOut.{IsCountedIn, inside-counted}
use Rattle.cg_agree_lemmas.specs.EntryGreens.{nothing-new}
use Rattle.cg_agree.proofs.ExchangeSmalls.{replica-behind}
use Rattle.cg_agree.proofs.GreenLine.{regular-state}
use Rattle.cg_agree_lemmas.specs.GroupKept.{leaving-regular}
use Rattle.cg_agree_lemmas.specs.HandsKept.{regular-phase, hosted}
use Rattle.cg_agree_lemmas.specs.InstallGreens.{yellow-greens, in-parting}
use Rattle.cg_agree.proofs.InstalledParts.{waits-announced, oneself-before, installs-all}
use Rattle.cg_agree.proofs.ModeKept.{mode_data-kept}
use Rattle.cg_agree_lemmas.specs.OneSteps.{leaves-step}
use Rattle.cg_agree_lemmas.specs.PartingActs.{PartedBy, parting-by}
use Rattle.cg_agree_lemmas.specs.RecordKept.{turn-is}
use Rattle.cg_agree_lemmas.specs.SameAttempt.{same-installation}
use Rattle.cg_agree_lemmas.specs.TurnValues.{even-mark_yellow}
use Rattle.cg_agree.proofs.ModeStates.{from-primary}
use Rattle.cg_group.specs.RefusalLaws.{regular-up}

-- ---- a member of a primary component marks nothing green in its parting

abbrev HasSame : Replica → Replica → Type 0
HasSame r u = (u.state ≡ TransPrim) × (u.held.queue.greens ≡ r.held.queue.greens)

same-message : (r : Replica) (from : ℕ) (m : Msg) (t : Turn) → HasSame r t.replica → HasSame r (on_message TransPrim from m t).replica
unfolding on_message
same-message r from (ActionMsg a) t is = ((even-mark_yellow t a).state ∙ is.0, yellow-greens t a ∙ is.1)
same-message r from (StateMsg s) t is = is
same-message r from (GreenItem place a) t is = is
same-message r from (RedItem a) t is = is
same-message r from (Cpc id conf) t is = is

same-place : (r : Replica) (conf : Configuration Msg) (place : ℕ) (t : Turn) → HasSame r t.replica → HasSame r (take_all (delivery_at conf place) t).replica
unfolding delivery_at take_one
same-place r conf place t is = at (at_place conf.ordered place) where
  at : (o : Option (Sent Msg)) → HasSame r (take_all (option_map_or (λ s. Message place s.from s.message ∷ []) o []) t).replica
  at None = is
  at (Some s) = subst (λ (x : State). HasSame r (on_message x s.from s.message t).replica) (sym is.0) (same-message r s.from s.message t is)

same-places : (r : Replica) (conf : Configuration Msg) (places : List ℕ) (t : Turn) → HasSame r t.replica → HasSame r (take_all (deliveries_at conf places) t).replica
same-places r conf [] t is = is
same-places r conf (place ∷ places) t is =
    subst (λ (u : Turn). HasSame r u.replica) (sym (fold-append take_one t (delivery_at conf place) (deliveries_at conf places)))
    (same-places r conf places (take_all (delivery_at conf place) t) (same-place r conf place t is))

pub prim-parting : (g : GroupState Msg) (p : ℕ) (set places : List ℕ) (r : Replica) → r.state ≡ RegPrim → (take_parting g p set places (begin r)).replica.held.queue.greens ≡ r.held.queue.greens
unfolding take_one on_transitional
prim-parting g p set places r at =
    (same-places r (home g p) places (on_transitional r.state (begin r)) (subst (λ (s : State). HasSame r (on_transitional s (begin r)).replica) (sym at) (refl, refl))).1

-- ---- the member that leaves

module _ (c : Chronicle) (p : ℕ) (set : List ℕ) (own : ℕ) (places : List ℕ) (i : Invariant c) (may : may_make c (Leaves p set own places) ≡ true) (conf : ℕ) (b : Attempt)
    (found : attempt_of (small_step c (Leaves p set own places)) conf ≡ Some b) (installed : has b.installed p ≡ true) (inside : is_in (small_step c (Leaves p set own places)) conf p ≡ true) where
  abbrev d : Chronicle
  d = small_step c (Leaves p set own places)

  abbrev part : Turn → Turn
  part = take_parting c.world.group p set places

  some-is : (x y : Attempt) → Some x ≡ Some y → x ≡ y
  some-is x y e = ap (λ o. option_map_or (λ z. z) o x) e

  phase-behind : phase_of d.world.group p ≡ Transitional (regular_in (phase_of c.world.group p)) set
  phase-behind =
      (leaves-step c p set own places i.net.phase_sound (leaving-regular c p set own places may)).stands.phase p
      ∙ cond-true (p == p) (Transitional (regular_in (phase_of c.world.group p)) set) (phase_of c.world.group p) (eq-eqb p p refl)

  -- its configuration was this one
  phase-before : phase_of c.world.group p ≡ Regular conf
  phase-before =
      let phase = regular-phase (phase_of c.world.group p) (leaving-regular c p set own places may) in
      let here : regular_in (phase_of c.world.group p) ≡ conf = eqb-true (regular_in (phase_of c.world.group p)) conf (ap (is_at conf) (sym phase-behind) ∙ inside) in
      phase.is ∙ ap Regular (sym (ap regular_in phase.is) ∙ here)

  in-before : is_in c conf p ≡ true
  in-before = ap (is_at conf) phase-before ∙ eq-eqb conf conf refl

  module _ (r : Replica) (disk : Disk) (up : replica_of c.world p ≡ Some r) (after : replica_of d.world p ≡ Some (part (begin r)).replica) (greens : greens_of d p ≡ greens_of c p ++ newly_green r (part (begin r)).replica) where
    abbrev new' : Replica
    new' = (part (begin r)).replica

    mode-behind : IsModeData d p new'
    mode-behind = subst (λ (o : Option Replica). IfSome o (IsModeData d p)) after (mode_data-kept c (Leaves p set own places) i may p)

    primary-behind : is_primary new'.state ≡ true
    primary-behind =
        let here : conf_at (phase_of d.world.group p) ≡ conf = ap conf_at phase-behind ∙ ap regular_in phase-before in
        let counted : IsCounted b new' = subst (λ (o : Option Attempt). IfSome o (λ a. IsCounted a new')) (ap (attempt_of d) here ∙ found) mode-behind.counted in
        sym counted.installed ∙ ap (has b.installed) mode-behind.id ∙ installed

    by : PartedBy (home c.world.group p) r new' → IsCountedIn d conf b p
    by (inl quiet) =
        let primary : is_primary r.state ≡ true = sym quiet.primary ∙ primary-behind in
        let mode : IsModeData c p r = subst (λ (o : Option Replica). IfSome o (IsModeData c p)) up (i.replica.mode_data p) in
        let in_it = from-primary c r.held (Regular conf) r.state primary (subst (λ (x : Phase). HasModeData c r.held x r.state) phase-before mode.data_of) in
        let a = attempt_at c r.held.prim.index in
        let counted : IsCounted a r = subst (λ (o : Option Attempt). IfSome o (λ a. IsCounted a r)) (ap (λ x. attempt_of c (conf_at x)) phase-before ∙ in_it.opened) mode.counted in
        let state = regular-state c i p conf r up phase-before primary in
        let still : greens_of d p ≡ greens_of c p = greens ∙ ap (λ xs. greens_of c p ++ xs) (nothing-new r new' (prim-parting c.world.group p set places r state)) ∙ append-nil (greens_of c p) in
        inside-counted c (Leaves p set own places) i may conf a in_it.opened b p found (ap (has a.installed) (sym mode.id) ∙ counted.installed ∙ primary) in-before inside still
    by (inr done) =
        let ins = leaves-installing c i p set own places may r new' up done.0 done.1 in
        let waits = waits-announced c i p r ins done.0.before in
        let all = in-parting c.start (greens_of c p) r (oneself-before c i p r ins done.0.before) c.world.group p set places ins.conf (handed_talk c ins.conf p).announced waits done.0.after in
        let here : ins.conf ≡ conf = ap regular_in (sym ins.regular ∙ phase-before) in
        let is = (attempts-grow c (Leaves p set own places)).still ins.conf ins.a ins.found in
        let this : is.now ≡ b = some-is is.now b (sym is.found ∙ ap (attempt_of d) here ∙ found) in
        let whole : length (greens_of d p) ≡ length (installation b) =
        ap length (greens ∙ installs-all c i p r ins done.0.before new' all.0 ∙ sym (same-installation ins.a is.now is.grown.same) ∙ ap installation this) in
        let conf_is : b.conf ≡ conf = eqb-true b.conf conf (found_passes (λ (a : Attempt). a.conf == conf) d.attempts b found) in
        let count : count_in d b p ≡ length (greens_of d p) = cond-true (is_in d b.conf p) (length (greens_of d p)) (left_count b p) (ap (λ k. is_in d k p) conf_is ∙ inside) in
        ((omega (arith, count, whole)), (omega (arith, count, whole)))

  -- Who leaves has its installation green, and no more than every member has received.
  pub leaves-counted : IsCountedIn d conf b p
  unfolding small_step
  leaves-counted =
      let sits = hosted c.world p (i.net.phase_sound.up p ∙ regular-up c.world.group p (leaving-regular c p set own places may)) in
      let r = sits.replica in
      let before = leaving c p set own in
      by r sits.disk (ap (λ (o : Option Node). option_and_then (λ s. running s.life) o) sits.node) (replica-behind before p part r sits.disk sits.node)
      (ap (λ (x : Chronicle). greens_of x p) (turn-is before p part r sits.disk sits.node) ∙ greens-turn before p r sits.disk (part (begin r)) i.net.hosted.past sits.node)
      (parting-by c.world.group p set places r)
