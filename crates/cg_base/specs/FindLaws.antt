-- What is found in a list by a test.
use Rattle.std.proofs.Common.{◌≡◌, Bool, true, false, List, [], ◌∷◌, ◌++◌, Some, None, IfSome, find, refl, sym, ap, ◌∙◌, ⊎_elim}
use Rattle.std.proofs.lemmas.Bool.{cases_Bool, cond-true, cond-false, cond_both}
use Rattle.std.proofs.lemmas.Option.{same_Some}
use Rattle.cg_base.specs.Lists.{Each}

module _ {X : Type 0} (test : X → Bool) where
  -- what is found passes the test
  pub found_passes : (xs : List X) (x : X) → find test xs ≡ Some x → test x ≡ true
  found_passes [] x e = absurd (let none : None ≡ Some x = e in cc)
  found_passes (y ∷ xs) x e = ⊎_elim
      (λ here. ap test (sym (same_Some y x (sym (cond-true (test y) (Some y) (find test xs) here) ∙ e))) ∙ here)
      (λ later. found_passes xs x (sym (cond-false (test y) (Some y) (find test xs) later) ∙ e))
      (cases_Bool (test y))

  -- what is found is found where more stands behind
  pub found_before : (xs ys : List X) (x : X) → find test xs ≡ Some x → find test (xs ++ ys) ≡ Some x
  found_before [] ys x e = absurd (let none : None ≡ Some x = e in cc)
  found_before (y ∷ xs) ys x e = ⊎_elim
      (λ here. cond-true (test y) (Some y) (find test (xs ++ ys)) here
      ∙ sym (cond-true (test y) (Some y) (find test xs) here) ∙ e)
      (λ later. cond-false (test y) (Some y) (find test (xs ++ ys)) later
      ∙ found_before xs ys x (sym (cond-false (test y) (Some y) (find test xs) later) ∙ e))
      (cases_Bool (test y))

  -- where nothing is found, none passes the test
  pub none_found : (xs : List X) → find test xs ≡ None → Each (λ x. test x ≡ false) xs
  none_found [] e = tt
  none_found (x ∷ xs) e = ⊎_elim
      (λ here. absurd (let clash : Some x ≡ None = sym (cond-true (test x) (Some x) (find test xs) here) ∙ e in cc))
      (λ later. (later, none_found xs (sym (cond-false (test x) (Some x) (find test xs) later) ∙ e)))
      (cases_Bool (test x))

  -- where none passes the test, nothing is found
  pub find_none : (xs : List X) → Each (λ x. test x ≡ false) xs → find test xs ≡ None
  find_none [] each = refl
  find_none (x ∷ xs) each = cond-false (test x) (Some x) (find test xs) each.0 ∙ find_none xs each.1

-- what holds of each holds of the one that is found
pub found_each : {X : Type 0} (P : X → Type 0) (test : X → Bool) (xs : List X) → Each P xs → IfSome (find test xs) P
found_each P test [] each = tt
found_each P test (x ∷ xs) each =
    cond_both (test x) (Some x) (find test xs) (λ o. IfSome o P) (λ here. each.0) (λ later. found_each P test xs each.1)
