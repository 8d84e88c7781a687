-- The follower of a number in a list of followers, where one of them is put in.
use Rattle.std.proofs.Common.{◌≡◌, ℕ, false, cond, List, [], ◌∷◌, Some, None, refl, sym, ap, ◌∙◌, inl, inr, eq-eqb, eqb-true, if◌then◌else◌, nat_lt}
use Rattle.std.specs.Prelude.{◌==◌}
use Rattle.std.proofs.lemmas.Bool.{cases_Bool, cond-true, cond-false}
use Rattle.cg_follower_list.specs.Life.{Follower}
use Rattle.cg_follower_list.specs.Followers.{follower_at, with_follower}

-- the follower that was put in
pub placed-there : (fs : List Follower) (new : Follower) → follower_at (with_follower fs new) new.id ≡ Some new
placed-there [] new = cond-true (new.id == new.id) (Some new) None (eq-eqb new.id new.id refl)
placed-there (x ∷ fs) new = elim (cases_Bool (x.id == new.id)) [
  | inl same ↦
      ap (λ list. follower_at list new.id)
      (cond-true (x.id == new.id) (new ∷ fs)
      (if nat_lt new.id x.id then new ∷ x ∷ fs else x ∷ with_follower fs new) same)
      ∙ cond-true (new.id == new.id) (Some new) (follower_at fs new.id) (eq-eqb new.id new.id refl)
  | inr other ↦ elim (cases_Bool (nat_lt new.id x.id)) [
    | inl less ↦
        ap (λ list. follower_at list new.id)
        (cond-false (x.id == new.id) (new ∷ fs)
        (if nat_lt new.id x.id then new ∷ x ∷ fs else x ∷ with_follower fs new) other
        ∙ cond-true (nat_lt new.id x.id) (new ∷ x ∷ fs) (x ∷ with_follower fs new) less)
        ∙ cond-true (new.id == new.id) (Some new) (follower_at (x ∷ fs) new.id) (eq-eqb new.id new.id refl)
    | inr more ↦
        ap (λ list. follower_at list new.id)
        (cond-false (x.id == new.id) (new ∷ fs)
        (if nat_lt new.id x.id then new ∷ x ∷ fs else x ∷ with_follower fs new) other
        ∙ cond-false (nat_lt new.id x.id) (new ∷ x ∷ fs) (x ∷ with_follower fs new) more)
        ∙ cond-false (x.id == new.id) (Some x) (follower_at (with_follower fs new) new.id) other ∙ placed-there fs new
  ]
]

-- the others stay
pub others-there : (fs : List Follower) (new : Follower) (g : ℕ) → (new.id == g) ≡ false →
    follower_at (with_follower fs new) g ≡ follower_at fs g
others-there [] new g apart = cond-false (new.id == g) (Some new) None apart
others-there (x ∷ fs) new g apart = elim (cases_Bool (x.id == new.id)) [
  | inl same ↦
      let away : (x.id == g) ≡ false = ap (λ n. n == g) (eqb-true x.id new.id same) ∙ apart in
      ap (λ list. follower_at list g)
      (cond-true (x.id == new.id) (new ∷ fs)
      (if nat_lt new.id x.id then new ∷ x ∷ fs else x ∷ with_follower fs new) same)
      ∙ cond-false (new.id == g) (Some new) (follower_at fs g) apart
      ∙ sym (cond-false (x.id == g) (Some x) (follower_at fs g) away)
  | inr other ↦ elim (cases_Bool (nat_lt new.id x.id)) [
    | inl less ↦
        ap (λ list. follower_at list g)
        (cond-false (x.id == new.id) (new ∷ fs)
        (if nat_lt new.id x.id then new ∷ x ∷ fs else x ∷ with_follower fs new) other
        ∙ cond-true (nat_lt new.id x.id) (new ∷ x ∷ fs) (x ∷ with_follower fs new) less)
        ∙ cond-false (new.id == g) (Some new) (follower_at (x ∷ fs) g) apart
    | inr more ↦
        ap (λ list. follower_at list g)
        (cond-false (x.id == new.id) (new ∷ fs)
        (if nat_lt new.id x.id then new ∷ x ∷ fs else x ∷ with_follower fs new) other
        ∙ cond-false (nat_lt new.id x.id) (new ∷ x ∷ fs) (x ∷ with_follower fs new) more)
        ∙ ap (cond (x.id == g) (Some x)) (others-there fs new g apart)
  ]
]
