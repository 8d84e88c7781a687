-- The green counts of those that have entered an attempt, through a small step: none falls, and that of a member that isn't regular in
-- the attempt's configuration stays.
use Rattle.std.proofs.Common.{◌≡◌, ℕ, ◌≤◌, ◌<◌, Bool, true, false, cond, not, List, [], ◌∷◌, ◌++◌, length, find, Option, Some, None, option_map, refl, sym, ap, ap₂, ◌∙◌, subst, arith, inl, inr, ◌⊎◌, eqb-true, eq-eqb}
use Rattle.std.specs.Prelude.{◌==◌}
use Rattle.std.specs.Option.{option_map_or}
use Rattle.std.proofs.lemmas.Bool.{cases_eq, cases_Bool, cond_both, cond-true, cond-false, ne_eqb}
use Rattle.cg_base.specs.Sets.{has}
use Rattle.cg_base.specs.FindLaws.{found_passes, found_before}
use Rattle.cg_action.specs.declared.action.Action.{Action}
use Rattle.cg_group.specs.declared.phase.Phase.{Phase}
use Rattle.cg_group.specs.declared.phase.Phase.TheVariants.{Down, Alone, Regular, Transitional}
use Rattle.cg_group.specs.State.{phase_of, regular_in}
use Rattle.cg_group.specs.LookupLaws.{eqb_comm}
use Rattle.cg_model.specs.Chronicle.{Leaving, Attempt, Chronicle}
use Rattle.cg_model.specs.Looks.{greens_of, conf_at, is_at, is_in, is_regular_at, is_regular_in, ordered_in, attempt_of}
use Rattle.cg_model.specs.Levels.{count_in}
use Rattle.cg_model.specs.FactsAttempts.{LeftOut}
use Rattle.cg_model.specs.Facts.{Invariant}
use Rattle.cg_model.specs.Played.{AtRest}
use Rattle.cg_model.specs.Small.{Small, small_step, changed_attempt, with_leaver}
use Rattle.cg_model.specs.Smalls.{may_make}
use Rattle.cg_agree.proofs.AttemptSteps.{group-of}
use Rattle.cg_agree_lemmas.specs.AttemptsGrow.{grown-leaver}
use Rattle.cg_agree.proofs.DeadKept.{said-attempt}
use Rattle.cg_agree_lemmas.specs.FrontFacts.{Front-length}
use Rattle.cg_agree.proofs.GreensFront.{greens-go_on}
use Rattle.cg_agree.proofs.GreensMove.{GreensMove, Stays, IsHanded, Parts, Begins, greens-move}
use Rattle.cg_agree_lemmas.specs.HandsNow.{hands-regular}
use Rattle.cg_agree_lemmas.specs.Keyed.{found-changed, find-none}
use Rattle.cg_agree.proofs.LeftMoves.{left_in, lefts, LeftMove, NoneLeaves, OneLeaves, left-move, in-running}
use Rattle.cg_agree_lemmas.specs.OneSteps.{running-begun}
use Rattle.cg_agree.proofs.OutStays.{out-stays, said-number}

abbrev pub leaving_of : ℕ → List Leaving → Option Leaving
leaving_of q left = find (λ l. l.member == q) left

-- ---- lists of those that left

one-more : (left : List Leaving) (p n q : ℕ) → (q ≡ p → ⊥) → leaving_of q (left ++ record { member = p; count = n } ∷ []) ≡ leaving_of q left
one-more left p n q apart = at (leaving_of q left) refl where
  at : (o : Option Leaving) → leaving_of q left ≡ o → leaving_of q (left ++ record { member = p; count = n } ∷ []) ≡ o
  at (Some l) e = found_before (λ (l : Leaving). l.member == q) left (record { member = p; count = n } ∷ []) l e
  at None e =
      find-none (λ (l : Leaving). l.member == q) left (record { member = p; count = n } ∷ []) e
      ∙ cond-false (p == q) (let x : Option Leaving = Some (record { member = p; count = n }) in x) None (ne_eqb p q (λ e. apart (sym e)))

own-last : (left : List Leaving) (p n : ℕ) → leaving_of p left ≡ None → leaving_of p (left ++ record { member = p; count = n } ∷ []) ≡ Some (record { member = p; count = n })
own-last left p n none =
    find-none (λ (l : Leaving). l.member == p) left (record { member = p; count = n } ∷ []) none
    ∙ cond-true (p == p) (let x : Option Leaving = Some (record { member = p; count = n }) in x) None (eq-eqb p p refl)

leaver-other : (o : Option Attempt) (b : Bool) (p n q : ℕ) → (q ≡ p → ⊥) → leaving_of q (left_in (cond b (option_map (with_leaver p n) o) o)) ≡ leaving_of q (left_in o)
leaver-other o false p n q apart = refl
leaver-other None true p n q apart = refl
leaver-other (Some a) true p n q apart =
    cond_both (has a.entered p) (record a { left = a.left ++ record { member = p; count = n } ∷ [] }) a (λ (x : Attempt). leaving_of q x.left ≡ leaving_of q a.left) (λ y. one-more a.left p n q apart) (λ n. refl)

-- a phase that isn't of the configuration
at-out : (conf : ℕ) (x : Phase) → 0 < conf → is_at conf x ≡ false → (conf == conf_at x) ≡ false
at-out conf Down some out = ne_eqb conf 0 (λ e. omega arith)
at-out conf Alone some out = ne_eqb conf 0 (λ e. omega arith)
at-out conf (Regular k) some out = eqb_comm conf k ∙ out
at-out conf (Transitional k set) some out = eqb_comm conf k ∙ out

at-here : (conf : ℕ) (x : Phase) → 0 < conf → is_at conf x ≡ true → (conf == conf_at x) ≡ true
at-here conf Down some here = absurd (let clash : false ≡ true = here in cc)
at-here conf Alone some here = absurd (let clash : false ≡ true = here in cc)
at-here conf (Regular k) some here = eqb_comm conf k ∙ here
at-here conf (Transitional k set) some here = eqb_comm conf k ∙ here

regular-at : (conf : ℕ) (x : Phase) → not (regular_in x == 0) ≡ true → is_at conf x ≡ true → is_regular_at conf x ≡ true
regular-at conf (Regular k) regular here = here
regular-at conf (Transitional k set) regular here = absurd (let clash : false ≡ true = regular in cc)
regular-at conf Down regular here = here
regular-at conf Alone regular here = here

abbrev count-of : Option Leaving → ℕ
count-of o = option_map_or (λ l. l.count) o 0

pub found-conf : (c : Chronicle) (conf : ℕ) (a : Attempt) → attempt_of c conf ≡ Some a → a.conf ≡ conf
found-conf c conf a e = eqb-true a.conf conf (found_passes (λ (a : Attempt). a.conf == conf) c.attempts a e)

count-is : (c : Chronicle) (conf q : ℕ) (a : Attempt) → attempt_of c conf ≡ Some a →
    count_in c a q ≡ cond (is_in c conf q) (length (greens_of c q)) (count-of (leaving_of q (lefts c.attempts conf)))
count-is c conf q a e =
    ap₂ (λ k (l : List Leaving). cond (is_in c k q) (length (greens_of c q)) (option_map_or (λ l. l.count) (leaving_of q l) 0)) (found-conf c conf a e) (sym (ap left_in e))

-- ---- a small step

module _ (c : Chronicle) (s : Small) (i : Invariant c) (may : may_make c s ≡ true) (rest : AtRest c s) where
  abbrev d : Chronicle
  d = small_step c s

  behind-other : (p n q conf : ℕ) → (q ≡ p → ⊥) → lefts (small_step c s).attempts conf ≡ lefts (changed_attempt (with_leaver p n) (conf_at (phase_of c.world.group p)) c.attempts) conf →
      leaving_of q (lefts (small_step c s).attempts conf) ≡ leaving_of q (lefts c.attempts conf)
  behind-other p n q conf apart left =
      ap (leaving_of q) (left ∙ ap left_in (found-changed (λ (a : Attempt). a.conf) (with_leaver p n) (λ a. (grown-leaver p n a).same.conf) (conf_at (phase_of c.world.group p)) c.attempts conf))
      ∙ leaver-other (attempt_of c conf) (conf == conf_at (phase_of c.world.group p)) p n q apart

  -- greens of one that isn't regular there
  pub greens-still : (conf q : ℕ) → is_in c conf q ≡ true → is_regular_in c conf q ≡ false → greens_of (small_step c s) q ≡ greens_of c q
  greens-still conf q here out = at (greens-move c s i may rest q) where
    at : GreensMove c (small_step c s) q → greens_of (small_step c s) q ≡ greens_of c q
    at (Stays same) = same
    at (IsHanded may' step) = absurd (let clash : true ≡ false = sym (regular-at conf (phase_of c.world.group q) (hands-regular c q may') here) ∙ out in cc)
    at (Parts late) =
        let phase = late.installing.regular in
        absurd (let clash : true ≡ false = sym (ap (is_at conf) (sym phase) ∙ here) ∙ ap (is_regular_at conf) (sym phase) ∙ out in cc)
    at (Begins none greens) = absurd (let clash : true ≡ false = sym (running-begun c q (in-running c i.net.phase_sound conf q here)) ∙ none in cc)

  module _ (out : LeftOut c) where
    module _ (conf : ℕ) (a b : Attempt) (found : attempt_of c conf ≡ Some a) (now : attempt_of (small_step c s) conf ≡ Some b) where
      said : 0 < length (ordered_in c conf)
      said = said-attempt c conf a i found

      abbrev before : ℕ → ℕ
      before q = cond (is_in c conf q) (length (greens_of c q)) (count-of (leaving_of q (lefts c.attempts conf)))

      abbrev behind : ℕ → ℕ
      behind q = cond (is_in (small_step c s) conf q) (length (greens_of (small_step c s) q)) (count-of (leaving_of q (lefts (small_step c s).attempts conf)))

      abbrev Both : ℕ → Type 0
      Both q = (before q ≤ behind q) × (is_regular_in c conf q ≡ false → behind q ≤ before q)

      -- one that is in it before and behind
      stays : (q : ℕ) → is_in c conf q ≡ true → is_in (small_step c s) conf q ≡ true → Both q
      stays q here there =
          let one : before q ≡ length (greens_of c q) = cond-true (is_in c conf q) (length (greens_of c q)) (count-of (leaving_of q (lefts c.attempts conf))) here in
          let two : behind q ≡ length (greens_of (small_step c s) q) = cond-true (is_in (small_step c s) conf q) (length (greens_of (small_step c s) q)) (count-of (leaving_of q (lefts (small_step c s).attempts conf))) there in
          let more = Front-length (greens_of c q) (greens_of (small_step c s) q) (greens-go_on c s i may rest q) in
          ((omega (arith, one, two, more)), (λ regular. (let same = ap (λ (xs : List Action). length xs) (greens-still conf q here regular) in omega (arith, one, two, same))))

      -- one that is out
      stays-out : (q : ℕ) → is_in c conf q ≡ false → leaving_of q (lefts (small_step c s).attempts conf) ≡ leaving_of q (lefts c.attempts conf) → Both q
      stays-out q away same =
          let there = out-stays c s i.net.hosted may (group-of c i) conf q said away in
          let one : before q ≡ count-of (leaving_of q (lefts c.attempts conf)) = cond-false (is_in c conf q) (length (greens_of c q)) (count-of (leaving_of q (lefts c.attempts conf))) away in
          let two : behind q ≡ count-of (leaving_of q (lefts (small_step c s).attempts conf)) = cond-false (is_in (small_step c s) conf q) (length (greens_of (small_step c s) q)) (count-of (leaving_of q (lefts (small_step c s).attempts conf))) there in
          let e = ap count-of same in
          ((omega (arith, one, two, e)), (λ regular. omega (arith, one, two, e)))

      -- the one that leaves
      leaves : (p n : ℕ) → n ≡ length (greens_of c p) → has a.entered p ≡ true → is_in c conf p ≡ true → is_in (small_step c s) conf p ≡ false →
          lefts (small_step c s).attempts conf ≡ lefts (changed_attempt (with_leaver p n) (conf_at (phase_of c.world.group p)) c.attempts) conf → Both p
      leaves p n count entered here there left =
          let k = conf_at (phase_of c.world.group p) in
          let changed : lefts (small_step c s).attempts conf ≡ (with_leaver p n a).left =
          left ∙ ap left_in (found-changed (λ (a : Attempt). a.conf) (with_leaver p n) (λ a. (grown-leaver p n a).same.conf) k c.attempts conf
          ∙ cond-true (conf == k) (option_map (with_leaver p n) (attempt_of c conf)) (attempt_of c conf) (at-here conf (phase_of c.world.group p) (said-number c conf said) here)
          ∙ ap (option_map (with_leaver p n)) found) in
          let noted : (with_leaver p n a).left ≡ a.left ++ record { member = p; count = n } ∷ [] =
          ap (λ (x : Attempt). x.left) (cond-true (has a.entered p) (record a { left = a.left ++ record { member = p; count = n } ∷ [] }) a entered) in
          let none : leaving_of p a.left ≡ None = ap (leaving_of p) (sym (ap left_in found)) ∙ out conf p here in
          let own = ap count-of (ap (leaving_of p) (changed ∙ noted) ∙ own-last a.left p n none) in
          let one : before p ≡ length (greens_of c p) = cond-true (is_in c conf p) (length (greens_of c p)) (count-of (leaving_of p (lefts c.attempts conf))) here in
          let two : behind p ≡ count-of (leaving_of p (lefts (small_step c s).attempts conf)) = cond-false (is_in (small_step c s) conf p) (length (greens_of (small_step c s) p)) (count-of (leaving_of p (lefts (small_step c s).attempts conf))) there in
          ((omega (arith, one, two, own, count)), (λ regular. omega (arith, one, two, own, count)))

      both : (q : ℕ) → has a.entered q ≡ true → Both q
      both q entered = at (left-move c s i may rest) (cases_Bool (is_in c conf q)) where
        at : LeftMove c (small_step c s) → (is_in c conf q ≡ true) ⊎ (is_in c conf q ≡ false) → Both q
        at (NoneLeaves inside left) (inl here) = stays q here (inside conf q here)
        at (NoneLeaves inside left) (inr away) = stays-out q away (ap (leaving_of q) (left conf))
        at (OneLeaves p n others out' count left) (inl here) = elim (cases_eq q p) [
          | inr apart ↦ stays q here (others conf q apart here)
          | inl same ↦ subst Both (sym same) (leaves p n count (ap (has a.entered) (sym same) ∙ entered) (ap (is_in c conf) (sym same) ∙ here) (out' conf said) (left conf))
        ]
        at (OneLeaves p n others out' count left) (inr away) = elim (cases_eq q p) [
          | inr apart ↦ stays-out q away (behind-other p n q conf apart (left conf))
          | inl same ↦ stays-out q away (ap (leaving_of q) (left conf
              ∙ ap left_in (found-changed (λ (a : Attempt). a.conf) (with_leaver p n) (λ a. (grown-leaver p n a).same.conf) (conf_at (phase_of c.world.group p)) c.attempts conf
              ∙ cond-false (conf == conf_at (phase_of c.world.group p)) (option_map (with_leaver p n) (attempt_of c conf)) (attempt_of c conf)
              (at-out conf (phase_of c.world.group p) (said-number c conf said) (ap (is_in c conf) (sym same) ∙ away)))))
        ]

      -- No count falls, and that of one that isn't regular there stays.
      pub count-move : (q : ℕ) → has a.entered q ≡ true → (count_in c a q ≤ count_in (small_step c s) b q) × (is_regular_in c conf q ≡ false → count_in (small_step c s) b q ≤ count_in c a q)
      count-move q entered =
          let is = both q entered in
          let one = count-is c conf q a found in
          let two = count-is (small_step c s) conf q b now in
          let low = is.0 in
          ((omega (arith, one, two, low)), (λ regular. (let high = is.1 regular in omega (arith, one, two, high))))

    -- who is in an attempt's configuration behind the step hasn't left it
    pub left_out-kept : LeftOut (small_step c s)
    left_out-kept conf q there = at (attempt_of c conf) refl (left-move c s i may rest) where
      nothing : attempt_of c conf ≡ None → lefts (small_step c s).attempts conf ≡ [] → leaving_of q (lefts (small_step c s).attempts conf) ≡ None
      nothing none e = ap (leaving_of q) e

      was-in : (a : Attempt) → attempt_of c conf ≡ Some a → is_in c conf q ≡ true
      was-in a found = elim (cases_Bool (is_in c conf q)) [
        | inl here ↦ here
        | inr away ↦ absurd (let clash : true ≡ false = sym there ∙ out-stays c s i.net.hosted may (group-of c i) conf q (said-attempt c conf a i found) away in cc)
      ]

      leaver-none : (b : Bool) (p n : ℕ) (o : Option Attempt) → o ≡ None → left_in (cond b (option_map (with_leaver p n) o) o) ≡ []
      leaver-none true p n o e = ap (λ x. left_in (option_map (with_leaver p n) x)) e
      leaver-none false p n o e = ap left_in e

      at : (o : Option Attempt) → attempt_of c conf ≡ o → LeftMove c (small_step c s) → leaving_of q (lefts (small_step c s).attempts conf) ≡ None
      at None none (NoneLeaves inside left) = nothing none (left conf ∙ ap left_in none)
      at None none (OneLeaves p n others out' count left) =
          nothing none (left conf ∙ ap left_in (found-changed (λ (a : Attempt). a.conf) (with_leaver p n) (λ a. (grown-leaver p n a).same.conf) (conf_at (phase_of c.world.group p)) c.attempts conf)
          ∙ leaver-none (conf == conf_at (phase_of c.world.group p)) p n (attempt_of c conf) none)
      at (Some a) found (NoneLeaves inside left) = ap (leaving_of q) (left conf) ∙ out conf q (was-in a found)
      at (Some a) found (OneLeaves p n others out' count left) = elim (cases_eq q p) [
        | inr apart ↦ behind-other p n q conf apart (left conf) ∙ out conf q (was-in a found)
        | inl same ↦ absurd (let clash : true ≡ false = sym there ∙ ap (is_in (small_step c s) conf) same ∙ out' conf (said-attempt c conf a i found) in cc)
      ]
