-- The names that may be yellow: those of reds, each once.
use Rattle.std.proofs.Common.{◌≡◌, List, [], ◌∷◌, ◌++◌, filter, fold, true, false, not, refl, sym, ◌∙◌, inl, inr, append_assoc}
use Rattle.std.proofs.lemmas.List.{append-nil}
use Rattle.std.proofs.lemmas.Bool.{cases_Bool, and_parts, not-true}
use Rattle.cg_base.specs.declared.action_id.ActionId.{ActionId}
use Rattle.cg_base.specs.Ids.{same_id, has_name}
use Rattle.cg_queue.specs.Answers.{AreReds}
use Rattle.cg_queue.specs.Distinct.{is_distinct}
use Rattle.cg_queue.specs.DistinctLaws.{apart-back, names-apart, distinct-behind}
use Rattle.cg_queue.specs.Queue.{QueueView, names_of}
use Rattle.cg_states.specs.PlanEnd.{with_name, usable_names}

reds-push : (q : QueueView) (ids : List ActionId) (id : ActionId) → AreReds q ids → has_name (names_of q.reds) id ≡ true → AreReds q (ids ++ id ∷ [])
reds-push q [] id reds red = (red, tt)
reds-push q (first ∷ ids) id reds red = (reds.0, reds-push q ids id reds.1 red)

reds-from : (q : QueueView) (list ids : List ActionId) → AreReds q list → AreReds q (fold (with_name q) list ids)
reds-from q list [] reds = reds
reds-from q list (id ∷ ids) reds = reds-from q (with_name q list id) ids (elim (cases_Bool (has_name (names_of q.reds) id)) [
  | inl red ↦ elim (cases_Bool (has_name list id)) [
    | inl there ↦ rw (red, there) reds
    | inr new ↦ rw (red, new) (reds-push q list id reds red)
  ]
  | inr other ↦ rw other reds
])

pub usable-reds : (q : QueueView) (ids : List ActionId) → AreReds q (usable_names q ids)
unfolding usable_names
usable-reds q ids = reds-from q [] ids tt

distinct-from : (q : QueueView) (list ids : List ActionId) → is_distinct list ≡ true → is_distinct (fold (with_name q) list ids) ≡ true
distinct-from q list [] distinct = distinct
distinct-from q list (id ∷ ids) distinct = distinct-from q (with_name q list id) ids (elim (cases_Bool (has_name (names_of q.reds) id)) [
  | inl red ↦ elim (cases_Bool (has_name list id)) [
    | inl there ↦ rw (red, there) distinct
    | inr new ↦ rw (red, new) (distinct-behind list id distinct new)
  ]
  | inr other ↦ rw other distinct
])

pub usable-distinct : (q : QueueView) (ids : List ActionId) → is_distinct (usable_names q ids) ≡ true
unfolding usable_names
usable-distinct q ids = distinct-from q [] ids refl

-- ---- names that are distinct already

-- none of the names stands in the list
abbrev pub AreNew : List ActionId → List ActionId → Type 0
AreNew list [] = Unit {0}
AreNew list (id ∷ ids) = (has_name list id ≡ false) × AreNew list ids

all-new : (ids : List ActionId) → AreNew [] ids
all-new [] = tt
all-new (id ∷ ids) = (refl, all-new ids)

new-behind : (list ids : List ActionId) (id : ActionId) → AreNew list ids → has_name ids id ≡ false → AreNew (list ++ id ∷ []) ids
new-behind list [] id new none = tt
new-behind list (x ∷ ids) id new none = elim (cases_Bool (same_id id x)) [
  | inl here ↦ absurd (let clash : true ≡ false = rw here at none in cc)
  | inr other ↦ (names-apart list id x (apart-back id x other) new.0, new-behind list ids id new.1 (rw other at none))
]

filter-from : (q : QueueView) (list ids : List ActionId) → AreNew list ids → is_distinct ids ≡ true → fold (with_name q) list ids ≡ list ++ filter (has_name (names_of q.reds)) ids
filter-from q list [] new distinct = sym (append-nil list)
filter-from q list (id ∷ ids) new distinct =
    let parts = and_parts (not (has_name ids id)) (is_distinct ids) distinct in
    elim (cases_Bool (has_name (names_of q.reds) id)) [
      | inl red ↦ rw (red, new.0)
          (filter-from q (list ++ id ∷ []) ids (new-behind list ids id new.1 (not-true (has_name ids id) parts.0)) parts.1
          ∙ append_assoc list (id ∷ []) (filter (has_name (names_of q.reds)) ids))
      | inr other ↦ rw other (filter-from q list ids new.1 parts.1)
    ]

pub usable-filter : (q : QueueView) (ids : List ActionId) → is_distinct ids ≡ true → usable_names q ids ≡ filter (has_name (names_of q.reds)) ids
unfolding usable_names
usable-filter q ids distinct = filter-from q [] ids (all-new ids) distinct
