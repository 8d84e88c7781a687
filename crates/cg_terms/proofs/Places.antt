-- Lists: where an element stands, and lists in which no name stands twice.
use Rattle.std.proofs.Common.{◌≡◌, List, [], ◌∷◌, ◌++◌, map, Contains, refl, ap, subst, inl, inr}
use Rattle.std.proofs.lemmas.List.Elements.{Contains-append_left, Contains-append_cases}
use Rattle.cg_base.specs.declared.action_id.ActionId.{ActionId}
use Rattle.cg_model.specs.Fronts.{Front}
use Rattle.cg_terms.specs.Linearizable.{AllDiffer}
use Rattle.cg_base.specs.ElementLaws.{contains-none, contains-here, contains-later, contains-cases}

module _ {X : Type 0} where
  pub record IsAt (xs : List X) (x : X) : Type 0 where
    pub before : List X
    pub after : List X
    pub is : xs ≡ before ++ x ∷ after

  pub split-at : (xs : List X) (x : X) → Contains xs x → IsAt xs x
  split-at [] x there = absurd (contains-none x there)
  split-at (y ∷ xs) x there = elim (contains-cases y xs x there) [
    | inl here ↦ record { before = []; after = xs; is = ap (λ z. z ∷ xs) here }
    | inr later ↦ let rest = split-at xs x later in record { before = y ∷ rest.before; after = rest.after; is = ap (λ zs. y ∷ zs) rest.is }
  ]

  pub front-append : (xs ys : List X) → Front xs (xs ++ ys)
  front-append [] ys = tt
  front-append (x ∷ xs) ys = (refl, front-append xs ys)

module _ {X Y : Type 0} (f : X → Y) where
  pub contains-map : (xs : List X) (x : X) → Contains xs x → Contains (map f xs) (f x)
  contains-map [] x there = absurd (contains-none x there)
  contains-map (y ∷ xs) x there = elim (contains-cases y xs x there) [
    | inl here ↦ subst (λ (z : X). Contains (map f (y ∷ xs)) (f z)) here (contains-here (f y) (map f xs))
    | inr later ↦ contains-later (f y) (map f xs) (f x) (contains-map xs x later)
  ]

  pub record IsOf (xs : List X) (y : Y) : Type 0 where
    pub from : X
    pub there : Contains xs from
    pub is : f from ≡ y

  pub contains-map_back : (xs : List X) (y : Y) → Contains (map f xs) y → IsOf xs y
  contains-map_back [] y there = absurd (contains-none y there)
  contains-map_back (x ∷ xs) y there = elim (contains-cases (f x) (map f xs) y there) [
    | inl here ↦ record { from = x; there = contains-here x xs; is = here }
    | inr later ↦ let rest = contains-map_back xs y later in record { from = rest.from; there = contains-later x xs rest.from rest.there; is = rest.is }
  ]

-- ---- names that differ

pub differ-append : (xs ys : List ActionId) → AllDiffer xs → AllDiffer ys → ((id : ActionId) → Contains xs id → Contains ys id → ⊥) → AllDiffer (xs ++ ys)
differ-append [] ys differ others apart = others
differ-append (x ∷ xs) ys differ others apart = (
  (λ again. elim (Contains-append_cases xs ys x again) [ inl first ↦ differ.0 first | inr second ↦ apart x (contains-here x xs) second ]),
  differ-append xs ys differ.1 others (λ id first second. apart id (contains-later x xs id first) second),
)

pub differ-front : (xs ys : List ActionId) → AllDiffer (xs ++ ys) → AllDiffer xs
differ-front [] ys differ = tt
differ-front (x ∷ xs) ys differ = ((λ again. differ.0 (Contains-append_left xs ys x again)), differ-front xs ys differ.1)

-- ---- steps
