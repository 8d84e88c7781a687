-- When two names of actions are one, and which comes before.
use Rattle.std.proofs.Common.{◌≡◌, ◌≢◌, ◌⊎◌, ◌<◌, List, Contains, arith, true, false, refl, sym, ap, eqb, eqb-true, inl, inr, ◌∷◌, ◌++◌, ◌||◌, ◌∙◌, []}
use Rattle.std.specs.Prelude.{◌==◌}
use Rattle.std.proofs.lemmas.Bool.{cases_Bool, and_parts, eq-eqb, ne_eqb, lt-ltb, le-ltb}
use Rattle.cg_base.specs.declared.action_id.ActionId.{ActionId}
use Rattle.cg_base.specs.Ids.{same_id, id_before, has_name}
use Rattle.cg_base.specs.ElementLaws.{any-contains}
use Rattle.cg_base.specs.BoolLaws.{or_assoc}

pub same_id-false : (a b : ActionId) → (a.creator ≢ b.creator) ⊎ (a.index ≢ b.index) → same_id a b ≡ false
same_id-false a b (inl apart) = rw (ne_eqb a.creator b.creator apart)
same_id-false a b (inr apart) = elim (cases_Bool (eqb a.creator b.creator)) [
  | inl same ↦ rw (same, ne_eqb a.index b.index apart)
  | inr other ↦ rw other
]

pub same_id-true : (a b : ActionId) → a.creator ≡ b.creator → a.index ≡ b.index → same_id a b ≡ true
same_id-true a b creators indexes = rw (eq-eqb a.creator b.creator creators, eq-eqb a.index b.index indexes)

pub same_name : (a b : ActionId) → a.creator ≡ b.creator → a.index ≡ b.index → a ≡ b
same_name a b creators indexes i = record { creator = creators i; index = indexes i }

pub same_id-is : (a b : ActionId) → same_id a b ≡ true → a ≡ b
same_id-is a b same =
    let parts = and_parts (a.creator == b.creator) (a.index == b.index) same in
    same_name a b (eqb-true a.creator b.creator parts.0) (eqb-true a.index b.index parts.1)

pub same_id-self : (a : ActionId) → same_id a a ≡ true
same_id-self a = same_id-true a a refl refl

pub same_id-back : (a b : ActionId) → same_id a b ≡ true → same_id b a ≡ true
same_id-back a b same =
    let is = same_id-is a b same in
    same_id-true b a (ap (λ (x : ActionId). x.creator) (sym is)) (ap (λ (x : ActionId). x.index) (sym is))

-- a name that stands in the list is found there
pub has_name-contained : (ids : List ActionId) (id : ActionId) → Contains ids id → has_name ids id ≡ true
has_name-contained ids id there = any-contains (same_id id) ids id there (same_id-self id)

-- ---- which name comes before

pub before-creator : (a b : ActionId) → a.creator < b.creator → id_before a b ≡ true
before-creator a b lt = rw (lt-ltb a.creator b.creator lt) refl

pub before-index : (a b : ActionId) → a.creator ≡ b.creator → a.index < b.index → id_before a b ≡ true
before-index a b same lt = rw (
  le-ltb a.creator b.creator (omega arith),
  eq-eqb a.creator b.creator same,
  lt-ltb a.index b.index lt,
) refl

pub has_name-append : (xs ys : List ActionId) (id : ActionId) → has_name (xs ++ ys) id ≡ (has_name xs id || has_name ys id)
has_name-append [] ys id = refl
has_name-append (x ∷ xs) ys id = ap (λ b. same_id id x || b) (has_name-append xs ys id) ∙ sym (or_assoc (same_id id x) (has_name xs id) (has_name ys id))
