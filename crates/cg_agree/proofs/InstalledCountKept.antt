-- Who has installed an attempt has its installation green, and no more behind it than every member has received: every small step keeps
-- it, where who is in an attempt's configuration hasn't left it.
use Rattle.std.proofs.Common.{◌⊎◌, ◌≡◌, ℕ, ◌≤◌, ◌<◌, true, false, length, Option, Some, None, IfSome, is_some, refl, sym, ap, ◌∙◌, subst, arith, inl, inr, eqb, eqb-true, eq-eqb}
use Rattle.std.specs.Prelude.{◌==◌}
use Rattle.std.specs.Option.{option_map_or}
use Rattle.std.proofs.lemmas.Bool.{cases_Bool, or_cases, cond-true, cond-false}
use Rattle.cg_base.specs.Sets.{has}
use Rattle.cg_base.specs.SetLaws.{has-with_member}
use Rattle.cg_group.specs.declared.phase.Phase.TheVariants.{Down}
use Rattle.cg_group.specs.State.{phase_of}
use Rattle.cg_client.specs.Replica.{Replica}
use Rattle.cg_model.specs.World.{Node, node_of, replica_of}
use Rattle.cg_model.specs.Chronicle.{Attempt, Chronicle}
use Rattle.cg_model.specs.Fronts.{When}
use Rattle.cg_model.specs.Looks.{greens_of, stood_of, is_at, is_in, is_regular_at, is_regular_in, attempt_of, left_count}
use Rattle.cg_model.specs.Levels.{count_in}
use Rattle.cg_model.specs.FactsReplica.{has_installed}
use Rattle.cg_model.specs.FactsAttempts.{IsAttempt, LeftOut}
use Rattle.cg_model.specs.FactsGreens.{InstalledCount}
use Rattle.cg_model.specs.Facts.{Invariant}
use Rattle.cg_model.specs.Played.{AtRest}
use Rattle.cg_model.specs.Small.{Small, Crashes, small_step, crash_as}
use Rattle.cg_model.specs.Smalls.{may_make}
use Rattle.cg_agree.proofs.AttemptSteps.{attempt-step}
use Rattle.cg_agree.proofs.AttemptsCame.{Came, Stayed, WasLeft, WasEntered, WasInstalled, WasMade, came}
use Rattle.cg_agree.proofs.CountsMove.{found-conf, count-move}
use Rattle.cg_agree.proofs.CountsOut.{IsCountedIn, count-stays}
use Rattle.cg_agree.proofs.CountsParting.{leaves-counted}
use Rattle.cg_agree.proofs.CountsRegular.{regular-counted}
use Rattle.cg_agree.proofs.DeadKept.{said-attempt}
use Rattle.cg_agree.proofs.GreensFront.{crash-same}
use Rattle.cg_agree.proofs.InstalledIndexKept.{same-installed, installed_index-kept}
use Rattle.cg_agree_lemmas.specs.OneSteps.{crashes-step}
use Rattle.cg_agree.proofs.OutStays.{said-number}
use Rattle.cg_agree_lemmas.specs.ReachFacts.{all-at}
use Rattle.cg_agree.proofs.RegularEnds.{RegularEnds, Still, Parting, Crashing, regular-ends, regular-inside}
use Rattle.cg_agree_lemmas.specs.ListStill.{when-from}

-- a crash loses no green of who has written all
crash-greens : (c : Chronicle) (p : ℕ) → greens_of c p ≡ stood_of c p → greens_of (small_step c (Crashes p)) p ≡ greens_of c p
unfolding small_step
crash-greens c p agree = at (node_of c.world p) where
  at : (o : Option Node) → greens_of (option_map_or (λ s. crash_as c p s.life) o c) p ≡ greens_of c p
  at None = refl
  at (Some s) = crash-same c p agree s.life p

-- who crashes is down, and in no configuration
crash-down : (c : Chronicle) (p : ℕ) → may_make c (Crashes p) ≡ true → is_some (replica_of (small_step c (Crashes p)).world p) ≡ false
unfolding may_make
crash-down c p may = (crashes-step c p may).runs p ∙ cond-true (p == p) false (is_some (replica_of c.world p)) (eq-eqb p p refl)

crash-out : (c : Chronicle) (p conf : ℕ) → may_make c (Crashes p) ≡ true → is_in (small_step c (Crashes p)) conf p ≡ false
unfolding may_make
crash-out c p conf may = ap (is_at conf) ((crashes-step c p may).stands.phase p ∙ cond-true (p == p) Down (phase_of c.world.group p) (eq-eqb p p refl))

-- ---- an attempt that was there

module _ (c : Chronicle) (i : Invariant c) (conf p : ℕ) (a b : Attempt) (found : attempt_of c conf ≡ Some a) where
  entered : has a.installed p ≡ true → has a.entered p ≡ true
  entered is =
      let shape = subst (λ (o : Option Attempt). IfSome o (IsAttempt c conf)) found (i.attempt.attempt_shape conf) in
      all-at (has a.entered) a.installed p shape.installed is

  some : 0 < conf
  some = said-number c conf (said-attempt c conf a i found)

  module _ (s : Small) (may : may_make c s ≡ true) (now : attempt_of (small_step c s) conf ≡ Some b) where
    -- who has installed it behind the step had installed it before; or it is regular there, and up behind it
    abbrev InstallsNow : Type 0
    InstallsNow = (is_regular_in c conf p ≡ true) × (is_some (replica_of (small_step c s).world p) ≡ true)

    installed-before : has b.installed p ≡ true → (has a.installed p ≡ true) ⊎ InstallsNow
    installed-before installed = at (came c (small_step c s) conf b (attempt-step c s i may) now) where
      same : (x : Attempt) → attempt_of c conf ≡ Some x → a ≡ x
      same x e = ap (λ o. option_map_or (λ z. z) o a) (sym found ∙ e)

      at : Came c (small_step c s) conf b → (has a.installed p ≡ true) ⊎ InstallsNow
      at (Stayed e) = inl (ap (λ (x : Attempt). has x.installed p) (same b e) ∙ installed)
      at (WasLeft x e q n here is low) =
          inl (ap (λ (x : Attempt). has x.installed p) (same x e) ∙ sym (same-installed q n p x) ∙ ap (λ (x : Attempt). has x.installed p) (sym is) ∙ installed)
      at (WasEntered x e q heard r new begins is moved) = inl (ap (λ (x : Attempt). has x.installed p) (same x e) ∙ ap (λ (x : Attempt). has x.installed p) (sym is) ∙ installed)
      at (WasInstalled q r new ins done here is levels core moved) =
          elim (or_cases (has ins.a.installed p) (eqb q p) (sym (has-with_member ins.a.installed q p) ∙ ap (λ (x : Attempt). has x.installed p) (sym is) ∙ installed)) [
            | inl old ↦ inl (ap (λ (x : Attempt). has x.installed p) (same ins.a (ap (attempt_of c) here ∙ ins.found)) ∙ old)
            | inr this ↦
                (let mine = eqb-true q p this in
                inr (
                  ap (is_regular_in c conf) (sym mine) ∙ ap (is_regular_at conf) ins.regular ∙ eq-eqb ins.conf conf (sym here),
                  ap (λ x. is_some (replica_of (small_step c s).world x)) (sym mine) ∙ ap (λ (o : Option Replica). is_some o) moved,
                ))
          ]
      at (WasMade none q heard r new begins greens is moved handed) = absurd (let clash : None ≡ Some a = sym none ∙ found in cc)

    module _ (rest : AtRest c s) (out : LeftOut c) where
      -- who was in its transitional phase there, or is out: its count stays
      waiting-counted : has b.installed p ≡ true → is_regular_in c conf p ≡ false → IsCountedIn (small_step c s) conf b p
      waiting-counted installed away = elim (installed-before installed) [
        | inr late ↦ absurd (let clash : true ≡ false = sym late.0 ∙ away in cc)
        | inl before ↦
            (let move = count-move c s i may rest out conf a b found now p (entered before) in
            let low = move.0 in
            let high = move.1 away in
            count-stays c s i may conf a found b p now before (omega (arith, low, high)))
      ]

  -- who crashes as it is regular there: its note has its green count
  crash-counted : (may : may_make c (Crashes p) ≡ true) → AtRest c (Crashes p) → LeftOut c → attempt_of (small_step c (Crashes p)) conf ≡ Some b → has b.installed p ≡ true → is_regular_in c conf p ≡ true → IsCountedIn (small_step c (Crashes p)) conf b p
  crash-counted may rest out now installed was = elim (installed-before (Crashes p) may now installed) [
    | inr late ↦ absurd (let clash : true ≡ false = sym late.1 ∙ crash-down c p may in cc)
    | inl before ↦
        (let d = small_step c (Crashes p) in
        let low = (count-move c (Crashes p) i may rest out conf a b found now p (entered before)).0 in
        let count : count_in d b p ≡ left_count b p = cond-false (is_in d b.conf p) (length (greens_of d p)) (left_count b p) (ap (λ k. is_in d k p) (found-conf d conf b now) ∙ crash-out c p conf may) in
        let noted : left_count b p ≤ length (greens_of d p) =
        subst (λ (o : Option Attempt). IfSome o (λ x. left_count x p ≤ length (greens_of d p))) now ((installed_index-kept c (Crashes p) i may rest).count conf p) in
        let same : length (greens_of d p) ≡ length (greens_of c p) = ap length (crash-greens c p rest.greens) in
        let own : count_in c a p ≡ length (greens_of c p) =
        cond-true (is_in c a.conf p) (length (greens_of c p)) (left_count a p) (ap (λ k. is_in c k p) (found-conf c conf a found) ∙ regular-inside c conf p was) in
        count-stays c (Crashes p) i may conf a found b p now before (omega (arith, low, count, noted, same, own)))
  ]

module _ (c : Chronicle) (s : Small) (i : Invariant c) (may : may_make c s ≡ true) (rest : AtRest c s) (out : LeftOut c) (conf p : ℕ) (b : Attempt)
    (now : attempt_of (small_step c s) conf ≡ Some b) (installed : has b.installed p ≡ true) where
  regular-before : (a : Attempt) → attempt_of c conf ≡ Some a → is_regular_in c conf p ≡ true → RegularEnds c s conf p → IsCountedIn (small_step c s) conf b p
  regular-before a found was (Still regular) = regular-counted c s i may conf p b now installed regular
  regular-before a found was (Parting set own places step inside) =
      subst (λ x. IsCountedIn (small_step c x) conf b p) (sym step)
      (leaves-counted c p set own places i (subst (λ x. may_make c x ≡ true) step may) conf b (subst (λ x. attempt_of (small_step c x) conf ≡ Some b) step now) installed (subst (λ x. is_in (small_step c x) conf p ≡ true) step inside))
  regular-before a found was (Crashing step) =
      subst (λ x. IsCountedIn (small_step c x) conf b p) (sym step)
      (crash-counted c i conf p a b found (subst (λ x. may_make c x ≡ true) step may) (subst (AtRest c) step rest) out (subst (λ x. attempt_of (small_step c x) conf ≡ Some b) step now) installed was)

  old-counted : (a : Attempt) → attempt_of c conf ≡ Some a → IsCountedIn (small_step c s) conf b p
  old-counted a found = elim (cases_Bool (is_regular_in c conf p)) [
    | inl was ↦ regular-before a found was (regular-ends c s i may conf p (some c i conf p a b found) was)
    | inr away ↦ waiting-counted c i conf p a b found s may now rest out installed away
  ]

  -- an attempt that is made in the step has been installed by nobody
  there-before : (o : Option Attempt) → attempt_of c conf ≡ o → IsCountedIn (small_step c s) conf b p
  there-before (Some a) found = old-counted a found
  there-before None none = at (came c (small_step c s) conf b (attempt-step c s i may) now) where
    gone : (x : Attempt) → attempt_of c conf ≡ Some x → ⊥
    gone x e = let clash : None ≡ Some x = sym none ∙ e in cc

    at : Came c (small_step c s) conf b → IsCountedIn (small_step c s) conf b p
    at (Stayed e) = absurd (gone b e)
    at (WasLeft x e q n here is low) = absurd (gone x e)
    at (WasEntered x e q heard r new begins is moved) = absurd (gone x e)
    at (WasInstalled q r new ins done here is levels core moved) = absurd (gone ins.a (ap (attempt_of c) here ∙ ins.found))
    at (WasMade e q heard r new begins greens is moved handed) = absurd (let clash : true ≡ false = sym installed ∙ ap (λ (x : Attempt). has x.installed p) is in cc)

-- Each small step keeps it.
pub installed_count-kept : (c : Chronicle) (s : Small) → Invariant c → may_make c s ≡ true → AtRest c s → LeftOut c → InstalledCount (small_step c s)
installed_count-kept c s i may rest out conf p = at (attempt_of (small_step c s) conf) refl where
  at : (o : Option Attempt) → attempt_of (small_step c s) conf ≡ o → IfSome o (λ b. When (has_installed b p) (IsCountedIn (small_step c s) conf b p))
  at None e = tt
  at (Some b) now = when-from (has_installed b p) (IsCountedIn (small_step c s) conf b p) (λ installed. there-before c s i may rest out conf p b now installed (attempt_of c conf) refl)
