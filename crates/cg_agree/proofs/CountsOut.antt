-- Counts behind a small step of who was out of an attempt's configuration before it, and of who is in it with the greens that it had.
use Rattle.std.proofs.Common.{◌≡◌, ℕ, ◌+◌, ◌≤◌, ◌<◌, true, take, length, Option, Some, IfSome, sym, ap, ◌∙◌, subst, arith, eqb-true}
use Rattle.std.specs.Prelude.{◌==◌}
use Rattle.std.proofs.lemmas.Bool.{cond-true}
use Rattle.std.proofs.lemmas.Option.{same_Some}
use Rattle.cg_base.specs.Sets.{has}
use Rattle.cg_base.specs.FindLaws.{found_passes}
use Rattle.cg_group.specs.Ready.{all_received}
use Rattle.cg_model.specs.Chronicle.{Attempt, Chronicle}
use Rattle.cg_model.specs.Fronts.{When}
use Rattle.cg_model.specs.Looks.{greens_of, is_in, conf_of, ordered_in, received_by_all, attempt_of, left_count, installation}
use Rattle.cg_model.specs.Talk.{acts_in}
use Rattle.cg_model.specs.Levels.{count_in}
use Rattle.cg_model.specs.FactsReplica.{has_installed}
use Rattle.cg_model.specs.Facts.{Invariant}
use Rattle.cg_model.specs.Small.{Small, small_step}
use Rattle.cg_model.specs.Smalls.{may_make}
use Rattle.cg_agree.proofs.AttemptSteps.{group-of}
use Rattle.cg_agree_lemmas.specs.AttemptsGrow.{attempts-grow}
use Rattle.cg_agree.proofs.DeadKept.{said-attempt}
use Rattle.cg_agree_lemmas.specs.Reach.{row-within, acts-more, take-front}
use Rattle.cg_agree_lemmas.specs.ReachSteps.{goes_on-kept}
use Rattle.cg_agree_lemmas.specs.ReachWorld.{when-is}
use Rattle.cg_agree.proofs.ReceivedKept.{received-kept}
use Rattle.cg_agree_lemmas.specs.SameAttempt.{same-installation}

-- within the installation and what every member has received behind it
abbrev pub IsCountedIn : Chronicle → ℕ → Attempt → ℕ → Type 0
IsCountedIn c conf a p =
    (length (installation a) ≤ count_in c a p) × (count_in c a p ≤ length (installation a) + length (acts_in (take (received_by_all c conf) (ordered_in c conf))))

module _ (c : Chronicle) (s : Small) (i : Invariant c) (may : may_make c s ≡ true) (conf : ℕ) (a : Attempt) (found : attempt_of c conf ≡ Some a) where
  abbrev d : Chronicle
  d = small_step c s

  said : 0 < length (ordered_in c conf)
  said = said-attempt c conf a i found

  conf-is : a.conf ≡ conf
  conf-is = eqb-true a.conf conf (found_passes (λ (a : Attempt). a.conf == conf) c.attempts a found)

  old : (p : ℕ) → has a.installed p ≡ true → IsCountedIn c conf a p
  old p installed = when-is (has a.installed p) (IsCountedIn c conf a p) installed
      (subst (λ (o : Option Attempt). IfSome o (λ a. When (has_installed a p) (IsCountedIn c conf a p))) found (i.green.installed_count conf p))

  -- what every member has received doesn't fall
  pub acts-grow : length (acts_in (take (received_by_all c conf) (ordered_in c conf))) ≤ length (acts_in (take (received_by_all d conf) (ordered_in d conf)))
  acts-grow =
      let on = goes_on-kept conf c s i.net.phase_sound i.net.receipts_inside may said in
      let more = received-kept c s i.net.hosted may (group-of c i) conf said in
      let short = row-within (all_received (conf_of c conf)) (length (ordered_in c conf)) in
      let same = ap (λ xs. length (acts_in xs)) (take-front (received_by_all c conf) (ordered_in c conf) (ordered_in d conf) on.ordered short) in
      let le = acts-more (received_by_all c conf) (received_by_all d conf) (ordered_in d conf) more in
      omega (arith, same, le)

  -- a count that stays
  pub count-stays : (b : Attempt) (p : ℕ) → attempt_of d conf ≡ Some b → has a.installed p ≡ true → count_in d b p ≡ count_in c a p → IsCountedIn d conf b p
  count-stays b p now installed same =
      let is = (attempts-grow c s).still conf a found in
      let this : is.now ≡ b = same_Some is.now b (sym is.found ∙ now) in
      let long : length (installation b) ≡ length (installation a) = ap (λ (x : Attempt). length (installation x)) (sym this) ∙ ap length (same-installation a is.now is.grown.same) in
      let bounds = old p installed in
      let low = bounds.0 in
      let high = bounds.1 in
      let more = acts-grow in
      ((omega (arith, long, low, same)), (omega (arith, long, high, same, more)))

  conf-now : (b : Attempt) → attempt_of d conf ≡ Some b → b.conf ≡ conf
  conf-now b now = eqb-true b.conf conf (found_passes (λ (a : Attempt). a.conf == conf) d.attempts b now)

  -- who is in the configuration before and behind the step, with the same greens
  pub inside-counted : (b : Attempt) (p : ℕ) → attempt_of d conf ≡ Some b → has a.installed p ≡ true → is_in c conf p ≡ true → is_in d conf p ≡ true → greens_of d p ≡ greens_of c p → IsCountedIn d conf b p
  inside-counted b p now installed was is greens =
      count-stays b p now installed
      (cond-true (is_in d b.conf p) (length (greens_of d p)) (left_count b p) (ap (λ k. is_in d k p) (conf-now b now) ∙ is) ∙ ap length greens
      ∙ sym (cond-true (is_in c a.conf p) (length (greens_of c p)) (left_count a p) (ap (λ k. is_in c k p) conf-is ∙ was)))
