-- Small facts on lists and results.
use Rattle.std.proofs.Common.{◌≡◌, ℕ, zero, suc, List, ◌∷◌, drop, sym, ap, ◌∙◌}
use Rattle.std.specs.Prelude.{Some, Result, Ok, Err, IsOk, OnOk, slice_get}
use Rattle.cg_base.specs.ListLaws.{drop-at}

-- what stands from a place on
pub dropped : {X : Type 0} (xs : List X) (i j : ℕ) (x : X) → j ≡ suc i → slice_get xs i ≡ Some x → drop i xs ≡ x ∷ drop j xs
dropped xs i j x next is = drop-at xs i x is ∙ ap (λ k. x ∷ drop k xs) (sym next)

pub OnOk-then : {X E : Type 0} {P : Type 0} (r : Result X E) → IsOk r → OnOk r P → P
OnOk-then (Ok x) ok p = p
OnOk-then (Err e) ok p = absurd (cc)
