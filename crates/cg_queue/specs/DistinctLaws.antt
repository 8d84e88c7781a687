-- Of lists of names in which none stands twice.
use Rattle.std.proofs.Common.{◌≡◌, List, [], ◌∷◌, ◌++◌, filter, Bool, true, false, not, refl, sym, ap, ◌∙◌, inl, inr}
use Rattle.std.proofs.lemmas.Bool.{cases_Bool, and_parts, and_from, or_from, not-true}
use Rattle.cg_base.specs.declared.action_id.ActionId.{ActionId}
use Rattle.cg_base.specs.Ids.{same_id, has_name}
use Rattle.cg_base.specs.IdLaws.{same_id-back}
use Rattle.cg_queue.specs.Distinct.{is_distinct}

pub apart-back : (a b : ActionId) → same_id a b ≡ false → same_id b a ≡ false
apart-back a b apart = elim (cases_Bool (same_id b a)) [
  | inl same ↦ absurd (let clash : true ≡ false = sym (same_id-back b a same) ∙ apart in cc)
  | inr other ↦ other
]

pub names-apart : (ids : List ActionId) (id x : ActionId) → same_id x id ≡ false → has_name ids x ≡ false →
    has_name (ids ++ id ∷ []) x ≡ false
names-apart [] id x apart none = or_from (same_id x id) false apart refl
names-apart (y ∷ ids) id x apart none = elim (cases_Bool (same_id x y)) [
  | inl here ↦ absurd (let clash : true ≡ false = rw here at none in cc)
  | inr other ↦ rw other (names-apart ids id x apart (rw other at none))
]

-- a new name behind distinct ones
pub distinct-behind : (ids : List ActionId) (id : ActionId) → is_distinct ids ≡ true → has_name ids id ≡ false →
    is_distinct (ids ++ id ∷ []) ≡ true
distinct-behind [] id distinct new = refl
distinct-behind (x ∷ ids) id distinct new =
    let parts = and_parts (not (has_name ids x)) (is_distinct ids) distinct in
    elim (cases_Bool (same_id id x)) [
      | inl here ↦ absurd (let clash : true ≡ false = rw here at new in cc)
      | inr other ↦
          and_from (not (has_name (ids ++ id ∷ []) x)) (is_distinct (ids ++ id ∷ []))
          (ap not (names-apart ids id x (apart-back id x other) (not-true (has_name ids x) parts.0))) (distinct-behind ids
          id parts.1 (rw other at new))
    ]

names-kept : (test : ActionId → Bool) (ids : List ActionId) (x : ActionId) → has_name ids x ≡ false →
    has_name (filter test ids) x ≡ false
names-kept test [] x none = refl
names-kept test (y ∷ ids) x none = elim (cases_Bool (same_id x y)) [
  | inl here ↦ absurd (let clash : true ≡ false = rw here at none in cc)
  | inr other ↦
      let rest = names-kept test ids x (rw other at none) in
      elim (cases_Bool (test y)) [
        | inl stays ↦ rw stays (or_from (same_id x y) (has_name (filter test ids) x) other rest)
        | inr goes ↦ rw goes rest
      ]
]

-- some of distinct names
pub distinct-kept : (test : ActionId → Bool) (ids : List ActionId) → is_distinct ids ≡ true →
    is_distinct (filter test ids) ≡ true
distinct-kept test [] distinct = refl
distinct-kept test (id ∷ ids) distinct =
    let parts = and_parts (not (has_name ids id)) (is_distinct ids) distinct in
    let rest = distinct-kept test ids parts.1 in
    elim (cases_Bool (test id)) [
      | inl stays ↦ rw stays (and_from (not (has_name (filter test ids) id)) (is_distinct (filter test ids))
          (ap not (names-kept test ids id (not-true (has_name ids id) parts.0))) rest)
      | inr goes ↦ rw goes rest
    ]
