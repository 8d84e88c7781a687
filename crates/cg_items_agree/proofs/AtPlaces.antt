-- What stands at a place of a part of a list stands in the list itself; and where no name is twice in it, a name has one place.
use Rattle.std.proofs.Common.{◌≡◌, ℕ, zero, suc, ◌+◌, ◌-◌, ◌<◌, List, [], ◌∷◌, ◌++◌, take, drop, length, slice_get, Some, Contains, refl, sym, ap, ◌∙◌, subst, arith}
use Rattle.std.proofs.lemmas.List.Elements.{Contains-append_right}
use Rattle.std.proofs.lemmas.Option.{same_Some, none-some}
use Rattle.cg_base.specs.declared.action_id.ActionId.{ActionId}
use Rattle.cg_base.specs.Lists.{at_place}
use Rattle.cg_compare.specs.Orders.{HasNoRepeats}
use Rattle.cg_terms.specs.Linearizable.{AllDiffer}

module _ {X : Type 0} where
  in-front : (xs ys : List X) (k : ℕ) (x : X) → slice_get xs k ≡ Some x → slice_get (xs ++ ys) k ≡ Some x
  in-front [] ys k x e = absurd (none-some x e)
  in-front (y ∷ xs) ys zero x e = e
  in-front (y ∷ xs) ys (suc k) x e = in-front xs ys k x e

  in-taken : (n : ℕ) (xs : List X) (k : ℕ) (x : X) → slice_get (take n xs) k ≡ Some x → slice_get xs k ≡ Some x
  in-taken zero xs k x e = absurd (none-some x e)
  in-taken (suc n) [] k x e = absurd (none-some x e)
  in-taken (suc n) (y ∷ xs) zero x e = e
  in-taken (suc n) (y ∷ xs) (suc k) x e = in-taken n xs k x e

  in-dropped : (n : ℕ) (xs : List X) (k : ℕ) (x : X) → slice_get (drop n xs) k ≡ Some x → slice_get xs (n + k) ≡ Some x
  in-dropped zero xs k x e = ap (slice_get xs) (let same : 0 + k ≡ k = omega arith in same) ∙ e
  in-dropped (suc n) [] k x e = absurd (none-some x e)
  in-dropped (suc n) (y ∷ xs) k x e = ap (slice_get (y ∷ xs)) (let same : suc n + k ≡ suc (n + k) = omega arith in same) ∙ in-dropped n xs k x e

  there : (xs : List X) (k : ℕ) (x : X) → slice_get xs k ≡ Some x → Contains xs x
  there [] k x e = absurd (none-some x e)
  there (y ∷ xs) zero x e = (zero, (let less : 0 < suc (length xs) = omega arith in less), same_Some y x e)
  there (y ∷ xs) (suc k) x e = Contains-append_right (y ∷ []) xs x (there xs k x e)

  -- what stands behind the first places of a front
  pub part-at : (white n place : ℕ) (xs ys : List X) (x : X) →
      at_place (drop white (take n xs)) (place - white) ≡ Some x → at_place (xs ++ ys) place ≡ Some x
  part-at white n place xs ys x e = at (place - white) refl e where
    at : (k : ℕ) → place - white ≡ k → at_place (drop white (take n xs)) k ≡ Some x → at_place (xs ++ ys) place ≡ Some x
    at zero is e = absurd (none-some x e)
    at (suc k) is e =
        let here : place ≡ suc (white + k) = omega arith in
        ap (at_place (xs ++ ys)) here ∙ in-front xs ys (white + k) x (in-taken n xs (white + k) x (in-dropped white (take n xs) k x e))

one-place : (ids : List ActionId) → AllDiffer ids → (k m : ℕ) (id : ActionId) → slice_get ids k ≡ Some id →
    slice_get ids m ≡ Some id → k ≡ m
one-place [] differ k m id first second = absurd (none-some id first)
one-place (x ∷ ids) differ zero zero id first second = refl
one-place (x ∷ ids) differ zero (suc m) id first second = absurd (differ.0 (subst (Contains ids) (sym (same_Some x id first)) (there ids m id second)))
one-place (x ∷ ids) differ (suc k) zero id first second = absurd (differ.0 (subst (Contains ids) (sym (same_Some x id second)) (there ids k id first)))
one-place (x ∷ ids) differ (suc k) (suc m) id first second = ap suc (one-place ids differ.1 k m id first second)

pub no-repeats : (ids : List ActionId) → AllDiffer ids → HasNoRepeats ids
no-repeats ids differ zero q id first second = absurd (none-some id first)
no-repeats ids differ (suc p) zero id first second = absurd (none-some id second)
no-repeats ids differ (suc p) (suc q) id first second = ap suc (one-place ids differ p q id first second)
