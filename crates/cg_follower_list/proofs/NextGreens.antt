-- The greens behind a cursor, one by one.
use Rattle.std.proofs.Common.{◌≡◌, ℕ, zero, suc, List, [], ◌∷◌, take, drop, Some, None, refl, sym, ap}
use Rattle.std.specs.List.{slice_get}

-- the next one, and those behind it
pub next-taken : {X : Type 0} (xs : List X) (n more : ℕ) (x : X) → slice_get xs n ≡ Some x →
    x ∷ take more (drop (suc n) xs) ≡ take (suc more) (drop n xs)
next-taken [] n more x e = absurd (let clash : None ≡ Some x = e in cc)
next-taken (y ∷ xs) zero more x e = let same : y ≡ x = cc in ap (λ z. z ∷ take more xs) (sym same)
next-taken (y ∷ xs) (suc n) more x e = next-taken xs n more x e

-- behind the last one
pub none-taken : {X : Type 0} (xs : List X) (n more : ℕ) → slice_get xs n ≡ None → take more (drop (suc n) xs) ≡ take (suc more) (drop n xs)
none-taken [] zero zero e = refl
none-taken [] (suc n) zero e = refl
none-taken [] zero (suc more) e = refl
none-taken [] (suc n) (suc more) e = refl
none-taken (y ∷ xs) zero more e = absurd (let clash : Some y ≡ None = e in cc)
none-taken (y ∷ xs) (suc n) more e = none-taken xs n more e
