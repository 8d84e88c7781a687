-- Where an attempt behind a small step comes from; an attempt that is over stays so.
use Rattle.std.proofs.Common.{◌⊎◌, ◌≡◌, ℕ, ◌≤◌, ◌<◌, Bool, true, false, cond, not, ◌&&◌, ◌||◌, List, [], ◌∷◌, ◌++◌, length, Option, Some, None, option_map, refl, sym, ap, ◌∙◌, subst, inl, inr, eqb-true}
use Rattle.std.specs.Prelude.{◌==◌}
use Rattle.std.specs.List.{list_any}
use Rattle.std.proofs.lemmas.Bool.{cases_Bool, cond_both, cond-true, cond-false, false_from_ne_true}
use Rattle.std.proofs.lemmas.Option.{same_Some}
use Rattle.cg_base.specs.Sets.{has}
use Rattle.cg_base.specs.FindLaws.{found_passes}
use Rattle.cg_action.specs.declared.action.Action.{Action}
use Rattle.cg_knowledge.specs.declared.summary.Summary.{Summary}
use Rattle.cg_group.specs.State.{phase_of}
use Rattle.cg_client.specs.Replica.{Replica}
use Rattle.cg_model.specs.World.{replica_of}
use Rattle.cg_model.specs.Attempts.{new_attempt}
use Rattle.cg_model.specs.Chronicle.{Attempt, Chronicle}
use Rattle.cg_model.specs.Looks.{greens_of, core_of, conf_at, ordered_in, attempt_of}
use Rattle.cg_model.specs.Levels.{is_out_lacking, is_live, is_installed, is_dead}
use Rattle.cg_model.specs.FactsReplica.{own_record, is_attempting, is_primary}
use Rattle.cg_model.specs.Facts.{Invariant}
use Rattle.cg_model.specs.Small.{Small, small_step, with_leaver, with_entrant, with_installer, opened_by}
use Rattle.cg_model.specs.Smalls.{may_make}
use Rattle.cg_agree_lemmas.specs.Keyed.{found-changed}
use Rattle.cg_agree_lemmas.specs.SameAttempt.{SameAttempt, same-refl}
use Rattle.cg_agree_lemmas.specs.ReachSteps.{goes_on-kept}
use Rattle.cg_agree.proofs.FixedKept.{receipts_fixed-kept}
use Rattle.cg_agree_lemmas.specs.TurnKinds.{HasInstalled, HasAttempted, new_record}
use Rattle.cg_agree_lemmas.specs.AttemptsGrow.{grown-leaver, grown-entrant}
use Rattle.cg_agree_lemmas.specs.AttemptsTurn.{at_conf, entered-now, installing-now}
use Rattle.cg_agree_lemmas.specs.PlanEnd.{AtPlanEnd}
use Rattle.cg_agree.proofs.AttemptSteps.{group-of, Installing, IsHanded, AttemptStep, Same, Goes, Begun, Installed, attempt-step}
use Rattle.cg_agree.proofs.DeadKept.{said-attempt, dead-still, installing-alive}

-- a member begins an attempt at the end of a plan
pub record Begins (c : Chronicle) (p conf : ℕ) (heard : List Summary) (r new : Replica) : Type 0 where
  pub end : AtPlanEnd c p r conf heard
  pub id : r.held.id ≡ p
  pub begun : HasAttempted conf heard r new
  pub beside : (is_attempting r.state ≡ false) × (is_primary r.state ≡ false)
  pub up : replica_of c.world p ≡ Some r

-- an attempt that is there behind the step: it was there, and perhaps a replica left, entered or installed it; or it was made
pub data Came (c d : Chronicle) (conf : ℕ) (b : Attempt) : Type 0 where
  Stayed : (found : attempt_of c conf ≡ Some b) → Came c d conf b
  WasLeft : (a : Attempt) (found : attempt_of c conf ≡ Some a) (p n : ℕ) (here : conf ≡ conf_at (phase_of c.world.group p)) (now : b ≡ with_leaver p n a)
      (low : n ≤ length (greens_of d p)) → Came c d conf b
  WasEntered : (a : Attempt) (found : attempt_of c conf ≡ Some a) (p : ℕ) (heard : List Summary) (r new : Replica) (begins : Begins c p conf heard r new) (now : b ≡ with_entrant new.held.id a) (moved : replica_of d.world p ≡ Some new) → Came c d conf b
  WasInstalled : (p : ℕ) (r new : Replica) (ins : Installing c p r) (done : HasInstalled r new) (here : conf ≡ ins.conf) (now : b ≡ with_installer p ins.a)
      (levels : d.levels ≡ c.levels ++ opened_by c (Some (own_record ins.a p))) (core : core_of d p ≡ Some new.held) (moved : replica_of d.world p ≡ Some new) → Came c d conf b
  WasMade : (none : attempt_of c conf ≡ None) (p : ℕ) (heard : List Summary) (r new : Replica) (begins : Begins c p conf heard r new) (greens : List Action)
      (now : b ≡ with_entrant new.held.id (new_attempt greens new.held (new_record conf heard r.held.id))) (moved : replica_of d.world p ≡ Some new) (handed : IsHanded c d p greens) → Came c d conf b

pub ins-conf : (c : Chronicle) (p : ℕ) (r : Replica) (ins : Installing c p r) → ins.a.conf ≡ ins.conf
ins-conf c p r ins = eqb-true ins.a.conf ins.conf (found_passes (λ (a : Attempt). a.conf == ins.conf) c.attempts ins.a ins.found)

pub came : (c d : Chronicle) (conf : ℕ) (b : Attempt) → AttemptStep c d → attempt_of d conf ≡ Some b → Came c d conf b
came c d conf b (Same attempts levels) e = Stayed (sym (ap (λ xs. at_conf xs conf) attempts) ∙ e)
came c d conf b (Goes p n attempts levels low) e =
    at (attempt_of c conf) refl (cases_Bool (conf == conf_at (phase_of c.world.group p)))
    (sym (ap (λ xs. at_conf xs conf) attempts ∙ found-changed (λ (a : Attempt). a.conf) (with_leaver p n) (λ a. (grown-leaver p n a).same.conf) (conf_at (phase_of c.world.group p)) c.attempts conf) ∙ e) where
      at : (o : Option Attempt) → attempt_of c conf ≡ o → ((conf == conf_at (phase_of c.world.group p)) ≡ true) ⊎ ((conf == conf_at (phase_of c.world.group p)) ≡ false) →
          cond (conf == conf_at (phase_of c.world.group p)) (option_map (with_leaver p n) (attempt_of c conf)) (attempt_of c conf) ≡ Some b → Came c d conf b
      at o is (inr other) e = Stayed (sym (cond-false (conf == conf_at (phase_of c.world.group p)) (option_map (with_leaver p n) (attempt_of c conf)) (attempt_of c conf) other) ∙ e)
      at None is (inl here) e = absurd (let clash : None ≡ Some b = sym (cond-true (conf == conf_at (phase_of c.world.group p)) (option_map (with_leaver p n) (attempt_of c conf)) (attempt_of c conf) here ∙ ap (option_map (with_leaver p n)) is) ∙ e in cc)
      at (Some a) is (inl here) e =
          let now : Some (with_leaver p n a) ≡ Some b = sym (cond-true (conf == conf_at (phase_of c.world.group p)) (option_map (with_leaver p n) (attempt_of c conf)) (attempt_of c conf) here ∙ ap (option_map (with_leaver p n)) is) ∙ e in
          WasLeft a is p n (eqb-true conf (conf_at (phase_of c.world.group p)) here) (sym (same_Some (with_leaver p n a) b now)) low
came c d conf b (Begun p k heard r new end id begun up greens attempts levels beside moved handed) e =
    let v = new_record k heard r.held.id in
    let entered = entered-now c.attempts greens new.held v in
    elim (cases_Bool (conf == k)) [
      | inr other ↦ Stayed (sym (ap (λ xs. at_conf xs conf) attempts ∙ entered.now conf ∙ cond-false (conf == k) (Some (with_entrant new.held.id entered.first)) (at_conf c.attempts conf) other) ∙ e)
      | inl here ↦
          let same : conf ≡ k = eqb-true conf k here in
          let now : Some (with_entrant new.held.id entered.first) ≡ Some b = sym (ap (λ xs. at_conf xs conf) attempts ∙ entered.now conf ∙ cond-true (conf == k) (Some (with_entrant new.held.id entered.first)) (at_conf c.attempts conf) here) ∙ e in
          elim entered.whose [
            | inl found ↦ WasEntered entered.first (ap (at_conf c.attempts) same ∙ found) p heard r new (begins-at same) (sym (same_Some (with_entrant new.held.id entered.first) b now)) moved
            | inr made ↦ WasMade (ap (at_conf c.attempts) same ∙ made.0) p heard r new (begins-at same) greens
                (sym (same_Some (with_entrant new.held.id entered.first) b now) ∙ ap (with_entrant new.held.id) made.1 ∙ ap (λ n. with_entrant new.held.id (new_attempt greens new.held (new_record n heard r.held.id))) (sym same)) moved handed
          ]
    ]
  where
    begins-at : conf ≡ k → Begins c p conf heard r new
    begins-at same = subst (λ n. Begins c p n heard r new) (sym same) (record { end = end; id = id; begun = begun; beside = beside; up = up })
came c d conf b (Installed p r new ins done attempts levels core moved) e =
    let v = own_record ins.a p in
    let found = ap (λ xs. at_conf xs conf) attempts ∙ installing-now c.attempts p v conf in
    elim (cases_Bool (conf == ins.a.conf)) [
      | inr other ↦ Stayed (sym (found ∙ cond-false (conf == ins.a.conf) (option_map (with_installer p) (at_conf c.attempts conf)) (at_conf c.attempts conf) other) ∙ e)
      | inl here ↦
          let same : conf ≡ ins.conf = eqb-true conf ins.a.conf here ∙ ins-conf c p r ins in
          let now : Some (with_installer p ins.a) ≡ Some b =
          sym (found ∙ cond-true (conf == ins.a.conf) (option_map (with_installer p) (at_conf c.attempts conf)) (at_conf c.attempts conf) here ∙ ap (option_map (with_installer p)) (ap (at_conf c.attempts) same ∙ ins.found)) ∙ e in
          WasInstalled p r new ins done same (sym (same_Some (with_installer p ins.a) b now)) levels core moved
    ]

-- ---- what is over stays over

pub same-left : (p n : ℕ) (a : Attempt) → is_installed (with_leaver p n a) ≡ is_installed a
same-left p n a = cond_both (has a.entered p) (record a { left = a.left ++ record { member = p; count = n } ∷ [] }) a (λ (x : Attempt). is_installed x ≡ is_installed a) (λ y. refl) (λ n. refl)

pub dead-none : (c : Chronicle) (a : Attempt) → is_dead c a ≡ true → is_installed a ≡ false
dead-none c a dead = false_from_ne_true (is_installed a) (λ is. (let clash : true ≡ false = sym dead ∙ ap (λ b. not b && (list_any (is_out_lacking c a) a.set || not (is_live c a))) is in cc))

pub dead-kept : (c : Chronicle) (s : Small) (i : Invariant c) → may_make c s ≡ true → (conf : ℕ) (a b : Attempt) → attempt_of c conf ≡ Some a → attempt_of (small_step c s) conf ≡ Some b →
    is_dead c a ≡ true → is_dead (small_step c s) b ≡ true
dead-kept c s i may conf a b found now dead = at (came c (small_step c s) conf b (attempt-step c s i may) now) where
  said : 0 < length (ordered_in c conf)
  said = said-attempt c conf a i found

  same : (x : Attempt) → attempt_of c conf ≡ Some x → a ≡ x
  same x e = same_Some a x (sym found ∙ e)

  still : SameAttempt a b → is_installed b ≡ is_installed a → is_dead (small_step c s) b ≡ true
  still same e =
      dead-still c (small_step c s) conf (goes_on-kept conf c s i.net.phase_sound i.net.receipts_inside may said) (receipts_fixed-kept c s i.net.hosted may (group-of c i)) i.net.receipts_inside said
      a b same (eqb-true a.conf conf (found_passes (λ (a : Attempt). a.conf == conf) c.attempts a found)) (e ∙ dead-none c a dead) dead

  at : Came c (small_step c s) conf b → is_dead (small_step c s) b ≡ true
  at (Stayed e) = still (subst (SameAttempt a) (same b e) (same-refl a)) (ap is_installed (sym (same b e)))
  at (WasLeft x e p n here is low) =
      let me = same x e in
      still (subst (SameAttempt a) (sym is) (subst (λ y. SameAttempt a (with_leaver p n y)) me (grown-leaver p n a).same)) (ap is_installed is ∙ same-left p n x ∙ ap is_installed (sym me))
  at (WasEntered x e p heard r new begins is moved) =
      let me = same x e in
      still (subst (SameAttempt a) (sym is) (subst (λ y. SameAttempt a (with_entrant new.held.id y)) me (grown-entrant new.held.id a).same)) (ap is_installed is ∙ ap is_installed (sym me))
  at (WasInstalled p r new ins done here is levels core moved) =
      absurd (let clash : true ≡ false = sym dead ∙ ap (is_dead c) (same ins.a (ap (at_conf c.attempts) here ∙ ins.found)) ∙ installing-alive c i p r ins in cc)
  at (WasMade none p heard r new begins greens is moved handed) = absurd (let clash : None ≡ Some a = sym none ∙ found in cc)

-- ---- one attempt is made at a time

-- the configuration in which one was begun
pub begun_conf : (c d : Chronicle) → AttemptStep c d → ℕ
begun_conf c d (Same attempts levels) = 0
begun_conf c d (Goes p n attempts levels low) = 0
begun_conf c d (Begun p conf heard r new end id begun up greens attempts levels beside moved handed) = conf
begun_conf c d (Installed p r new ins done attempts levels core moved) = 0

not-none : (o : Option Attempt) (f : Attempt → Attempt) (b : Bool) (x : Attempt) → o ≡ None → cond b (option_map f o) o ≡ Some x → ⊥
not-none o f true x none e = let clash : None ≡ Some x = sym (ap (option_map f) none) ∙ e in cc
not-none o f false x none e = let clash : None ≡ Some x = sym none ∙ e in cc

-- an attempt that wasn't there is of that configuration
pub made-there : (c d : Chronicle) (step : AttemptStep c d) (conf : ℕ) (b : Attempt) → attempt_of c conf ≡ None → attempt_of d conf ≡ Some b → conf ≡ begun_conf c d step
unfolding begun_conf
made-there c d (Same attempts levels) conf b none e = absurd (let clash : None ≡ Some b = sym none ∙ sym (ap (λ xs. at_conf xs conf) attempts) ∙ e in cc)
made-there c d (Goes p n attempts levels low) conf b none e =
    absurd (not-none (attempt_of c conf) (with_leaver p n) (conf == conf_at (phase_of c.world.group p)) b none
    (sym (ap (λ xs. at_conf xs conf) attempts ∙ found-changed (λ (a : Attempt). a.conf) (with_leaver p n) (λ a. (grown-leaver p n a).same.conf) (conf_at (phase_of c.world.group p)) c.attempts conf) ∙ e))
made-there c d (Begun p k heard r new end id begun up greens attempts levels beside moved handed) conf b none e =
    let entered = entered-now c.attempts greens new.held (new_record k heard r.held.id) in
    elim (cases_Bool (conf == k)) [
      | inl here ↦ eqb-true conf k here
      | inr other ↦ absurd (let clash : None ≡ Some b = sym none ∙ sym (ap (λ xs. at_conf xs conf) attempts ∙ entered.now conf ∙ cond-false (conf == k) (Some (with_entrant new.held.id entered.first)) (at_conf c.attempts conf) other) ∙ e in cc)
    ]
made-there c d (Installed p r new ins done attempts levels core moved) conf b none e =
    absurd (not-none (attempt_of c conf) (with_installer p) (conf == ins.a.conf) b none (sym (ap (λ xs. at_conf xs conf) attempts ∙ installing-now c.attempts p (own_record ins.a p) conf) ∙ e))
