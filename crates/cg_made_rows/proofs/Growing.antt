-- Rows with one action more, and how they are made in place.
use Rattle.std.proofs.Common.{◌≡◌, ℕ, zero, suc, ◌<◌, ◌≤◌, List, [], ◌∷◌, ◌++◌, length, take, get_or, refl, ap, ◌∙◌, set, arith}
use Rattle.std.proofs.lemmas.List.{length-append, take-append-le}
use Rattle.cg_base.specs.Lists.{row_at}
use Rattle.cg_action.specs.declared.action.Action.{Action}
use Rattle.cg_made_rows.specs.Grown.{IsGrown}
use Rattle.cg_made_rows.specs.Rows.{with_made}

-- ---- what stands in the rows

pub row-there : (rows : List (List Action)) (k : ℕ) (d : List Action) → k < length rows →
    get_or rows k d ≡ row_at rows k
row-there [] k d there = absurd (omega arith)
row-there (row ∷ rows) zero d there = refl
row-there (row ∷ rows) (suc k) d there = row-there rows k d (omega arith)

-- ---- empty rows behind the others

more-same : (rows : List (List Action)) (slot : ℕ) (a : Action) → length rows ≤ slot →
    with_made (rows ++ [] ∷ []) slot a ≡ with_made rows slot a
more-same [] zero a past = refl
more-same [] (suc slot) a past = refl
more-same (row ∷ rows) zero a past = absurd (omega arith)
more-same (row ∷ rows) (suc slot) a past = ap (λ others. row ∷ others) (more-same rows slot a (omega arith))

whole : {X : Type 0} (xs : List X) → take (length xs) xs ≡ xs
whole [] = refl
whole (x ∷ xs) = ap (λ ys. x ∷ ys) (whole xs)

pub grown-more : (rows grown : List (List Action)) (slot : ℕ) → IsGrown rows grown slot → length grown ≤ slot →
    IsGrown rows (grown ++ [] ∷ []) slot
grown-more rows grown slot is past = record {
  front = let long = is.long in take-append-le (length rows) grown ([] ∷ []) long ∙ is.front;
  long = let long = is.long in omega (arith, length-append grown ([] ∷ []));
  same = λ a. more-same grown slot a past ∙ is.same a;
}

-- ---- one row changed in place

set-made : (rows : List (List Action)) (slot : ℕ) (a : Action) → slot < length rows →
    set rows slot (row_at rows slot ++ a ∷ []) ≡ with_made rows slot a
set-made [] slot a there = absurd (omega arith)
set-made (row ∷ rows) zero a there = refl
set-made (row ∷ rows) (suc slot) a there = ap (λ others. row ∷ others) (set-made rows slot a (omega arith))

pub put-made : (rows grown : List (List Action)) (slot : ℕ) (a : Action) (before after : List Action) →
    IsGrown rows grown slot →
    slot < length grown → before ≡ row_at grown slot → after ≡ before ++ a ∷ [] →
    set grown slot after ≡ with_made rows slot a
put-made rows grown slot a before after is there at put =
    ap (λ row. set grown slot row) (put ∙ ap (λ row. row ++ a ∷ []) at) ∙ set-made grown slot a there ∙ is.same a
