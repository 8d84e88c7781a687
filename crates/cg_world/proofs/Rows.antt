-- Rows at places.
use Rattle.std.proofs.Common.{◌≡◌, ℕ, zero, suc, ◌<◌, ◌≢◌, List, [], ◌∷◌, ◌++◌, length, set, get_or, None, slice_get, refl, sym, ap, ◌∙◌, arith, inl, inr}
use Rattle.std.proofs.lemmas.Bool.{cases_eq}
use Rattle.cg_base.specs.Lists.{at_place}
use Rattle.cg_action.specs.declared.action.Action.{Action}
use Rattle.cg_world.specs.MadeActions.{row_at}
use Rattle.cg_model.specs.MadeRowLaws.{AreRowsOf, made_by-own, made_by-other}

pub row-there : (rows : List (List Action)) (k : ℕ) (row : List Action) → k < length rows → row_at rows k ≡ get_or rows k row
row-there [] k row less = absurd (omega arith)
row-there (r ∷ rows) zero row less = refl
row-there (r ∷ rows) (suc k) row less = row-there rows k row (omega arith)

pub row-append : (rows : List (List Action)) (row : List Action) (k : ℕ) → row ≡ [] → row_at (rows ++ row ∷ []) k ≡ row_at rows k
row-append [] row zero none = none
row-append [] row (suc k) none = refl
row-append (r ∷ rows) row zero none = refl
row-append (r ∷ rows) row (suc k) none = row-append rows row k none

set-here : (rows : List (List Action)) (slot : ℕ) (row : List Action) → slot < length rows → row_at (set rows slot row) slot ≡ row
set-here [] slot row less = absurd (omega arith)
set-here (r ∷ rows) zero row less = refl
set-here (r ∷ rows) (suc slot) row less = set-here rows slot row (omega arith)

set-other : (rows : List (List Action)) (slot : ℕ) (row : List Action) (k : ℕ) → slot ≢ k → row_at (set rows slot row) k ≡ row_at rows k
set-other [] slot row k apart = refl
set-other (r ∷ rows) zero row zero apart = absurd (apart refl)
set-other (r ∷ rows) zero row (suc k) apart = refl
set-other (r ∷ rows) (suc slot) row zero apart = refl
set-other (r ∷ rows) (suc slot) row (suc k) apart = set-other rows slot row k (λ e. apart (ap suc e))

-- ---- one action more

-- it is written behind its creator's row
pub rows-with : (made : List Action) (rows : List (List Action)) (a : Action) (slot : ℕ) (row : List Action) → slot ≡ a.id.creator → slot < length rows →
    row ≡ row_at rows slot ++ a ∷ [] → AreRowsOf made rows → AreRowsOf (made ++ a ∷ []) (set rows slot row)
rows-with made rows a slot row own less is are k = elim (cases_eq a.id.creator k) [
  | inl mine ↦
      let here = own ∙ mine in
      ap (row_at (set rows slot row)) (sym here) ∙ set-here rows slot row less ∙ is ∙ ap (λ n. row_at rows n ++ a ∷ []) here
      ∙ ap (λ (list : List Action). list ++ a ∷ []) (are k) ∙ sym (made_by-own made a k mine)
  | inr other ↦ set-other rows slot row k (λ e. other (sym own ∙ e)) ∙ are k ∙ sym (made_by-other made a k other)
]

-- ---- what is looked up

pub none-at : (row : List Action) (n : ℕ) → row ≡ [] → None ≡ at_place row n
none-at row n none = at n ∙ ap (λ (xs : List Action). at_place xs n) (sym none) where
  at : (n : ℕ) → None ≡ at_place {X = Action} [] n
  at zero = refl
  at (suc n) = refl

pub first-at : (row : List Action) (n k : ℕ) → n ≡ suc k → slice_get row k ≡ at_place row n
first-at row n k is = ap (at_place row) (sym is)
