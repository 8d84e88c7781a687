-- Filters, one after the other.
use Rattle.std.proofs.Common.{◌≡◌, Bool, true, false, cond, ◌&&◌, List, [], ◌∷◌, refl, sym, ap, ◌∙◌}
use Rattle.std.proofs.Math.Bool.{and_comm}
use Rattle.std.specs.List.{filter, fold, list_all}

filter-filter : {X : Type 0} (p q : X → Bool) (xs : List X) → filter q (filter p xs) ≡ filter (λ x. p x && q x) xs
filter-filter p q [] = refl
filter-filter p q (x ∷ xs) =
    elim (p x) as (λ b. filter q (cond b (x ∷ filter p xs) (filter p xs)) ≡ cond (b && q x) (x ∷ filter (λ y. p y && q y) xs) (filter (λ y. p y && q y) xs)) [
      | true ↦ ap (λ ys. cond (q x) (x ∷ ys) ys) (filter-filter p q xs)
      | false ↦ filter-filter p q xs
    ]

filter-all : {X : Type 0} (xs : List X) → filter (λ x. true) xs ≡ xs
filter-all [] = refl
filter-all (x ∷ xs) = ap (λ ys. x ∷ ys) (filter-all xs)

-- what one test after another keeps is what all of them keep
fold-filter : {S X : Type 0} (p : S → X → Bool) (tests : List S) (xs : List X) → fold (λ ys s. filter (p s) ys) xs tests ≡ filter (λ x. list_all (λ s. p s x) tests) xs
fold-filter p [] xs = sym (filter-all xs)
fold-filter p (s ∷ tests) xs = fold-filter p tests (filter (p s) xs) ∙ filter-filter (p s) (λ x. list_all (λ t. p t x) tests) xs

-- the same, where a test of another kind goes first
pub fold-filter-behind : {S X : Type 0} (p : S → X → Bool) (q : X → Bool) (tests : List S) (xs : List X)
    → fold (λ ys s. filter (p s) ys) (filter q xs) tests ≡ filter (λ x. list_all (λ s. p s x) tests && q x) xs
fold-filter-behind p q tests xs =
    fold-filter p tests (filter q xs)
    ∙ filter-filter q (λ x. list_all (λ s. p s x) tests) xs
    ∙ ap (λ r. filter r xs) (λ i x. and_comm (q x) (list_all (λ s. p s x) tests) i)
