-- Lists: where an element stands, the last element, and what is in them one after the other.
use Rattle.std.proofs.Common.{◌≡◌, ◌⊎◌, ℕ, zero, suc, ◌<◌, List, [], ◌∷◌, ◌++◌, flat_map, length, take, Option, Some, None, Bool, true, Contains, refl, sym, ap, ◌∙◌, inl, inr, subst, arith, append_assoc}
use Rattle.std.specs.List.{list_any}
use Rattle.std.proofs.lemmas.Bool.{or_left, or_right}
use Rattle.std.proofs.lemmas.List.Elements.{Contains-append_right}
use Rattle.cg_base.specs.Lists.{present, Each}

module _ {X : Type 0} where
  pub contains-none : (x : X) → Contains [] x → ⊥
  contains-none x there = let none = there.1 in omega arith

  pub contains-here : (x : X) (xs : List X) → Contains (x ∷ xs) x
  contains-here x xs = (zero, (let less : 0 < suc (length xs) = omega arith in less), refl)

  pub contains-later : (y : X) (xs : List X) (x : X) → Contains xs x → Contains (y ∷ xs) x
  contains-later y xs x there = Contains-append_right (y ∷ []) xs x there

  pub contains-cases : (y : X) (xs : List X) (x : X) → Contains (y ∷ xs) x → (y ≡ x) ⊎ Contains xs x
  contains-cases y xs x (zero, less, is) = inl is
  contains-cases y xs x (suc k, less, is) = inr (k, (let more : suc k < suc (length xs) = less in omega arith), is)

  pub contains-at : (before : List X) (x : X) (after : List X) → Contains (before ++ x ∷ after) x
  contains-at before x after = Contains-append_right before (x ∷ after) x (contains-here x after)

  -- a test that one of them passes
  pub any-contains : (test : X → Bool) (xs : List X) (x : X) → Contains xs x → test x ≡ true → list_any test xs ≡ true
  any-contains test [] x there is = absurd (contains-none x there)
  any-contains test (y ∷ xs) x (zero, less, here) is = or_left (test y) (list_any test xs) (ap test here ∙ is)
  any-contains test (y ∷ xs) x (suc k, less, later) is =
      let within : k < length xs = (let more : suc k < suc (length xs) = less in omega arith) in
      or_right (test y) (list_any test xs) (any-contains test xs x (k, within, later) is)

  pub take-there : (n : ℕ) (xs : List X) (x : X) → Contains (take n xs) x → Contains xs x
  take-there zero xs x there = absurd (contains-none x there)
  take-there (suc n) [] x there = absurd (contains-none x there)
  take-there (suc n) (y ∷ xs) x there = elim (contains-cases y (take n xs) x there) [
    | inl here ↦ (zero, (let less : 0 < suc (length xs) = omega arith in less), here)
    | inr later ↦ contains-later y xs x (take-there n xs x later)
  ]

  -- a list is none, or has a last element
  pub record HasLast (xs : List X) : Type 0 where
    pub front : List X
    pub last : X
    pub is : xs ≡ front ++ last ∷ []

  pub last-of : (xs : List X) → (xs ≡ []) ⊎ HasLast xs
  last-of [] = inl refl
  last-of (x ∷ xs) = elim (last-of xs) [
    | inl none ↦ inr (record { front = []; last = x; is = ap (λ zs. x ∷ zs) none })
    | inr some ↦ inr (record { front = x ∷ some.front; last = some.last; is = ap (λ zs. x ∷ zs) some.is })
  ]

  pub present-append : (xs ys : List (Option X)) → present (xs ++ ys) ≡ present xs ++ present ys
  present-append [] ys = refl
  present-append (None ∷ xs) ys = present-append xs ys
  present-append (Some x ∷ xs) ys = ap (λ zs. x ∷ zs) (present-append xs ys)

module _ {X Y : Type 0} (f : X → List Y) where
  pub flat-append : (xs ys : List X) → flat_map f (xs ++ ys) ≡ flat_map f xs ++ flat_map f ys
  flat-append [] ys = refl
  flat-append (x ∷ xs) ys = ap (λ zs. f x ++ zs) (flat-append xs ys)
      ∙ sym (append_assoc (f x) (flat_map f xs) (flat_map f ys))

-- what holds of each element holds of one that stands there
pub each-contains : {X : Type 0} (P : X → Type 0) (xs : List X) (x : X) → Each P xs → Contains xs x → P x
each-contains P [] x each there = absurd (contains-none x there)
each-contains P (y ∷ xs) x each (zero, less, is) = subst P is each.0
each-contains P (y ∷ xs) x each (suc k, less, is) =
    each-contains P xs x each.1 (k, (let more : suc k < suc (length xs) = less in omega arith), is)
