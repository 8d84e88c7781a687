-- The reds of all creators in a row, by name.
use Rattle.std.proofs.Common.{◌≡◌, ℕ, zero, suc, ◌+◌, ◌<◌, ◌≤◌, ◌≢◌, ◌⊎◌, List, [], ◌∷◌, ◌++◌, length, drop, not, true, false, refl, sym, ap, ◌∙◌, arith, inl, inr, append_assoc}
use Rattle.std.proofs.lemmas.Bool.{cases_eq, cases_Bool, eq-eqb, ne_eqb, le-ltb, or_cases, or_right}
use Rattle.cg_base.specs.declared.action_id.ActionId.{ActionId}
use Rattle.cg_base.specs.Ids.{same_id, id_before, has_name}
use Rattle.cg_action.specs.declared.action.Action.{Action}
use Rattle.cg_queue.specs.declared.red.Red.{Red}
use Rattle.cg_queue.specs.Lanes.{with_lane}
use Rattle.cg_queue.specs.Queue.{with_red, without_action, names_of}
use Rattle.cg_queue.specs.Body.{Stretch, actions_in, reds_from, all_reds}
use Rattle.cg_queue.proofs.RowLemmas.{with_lane-same, with_lane-other}
use Rattle.cg_base.specs.IdLaws.{same_id-false, same_id-true, before-creator}
use Rattle.std.proofs.lemmas.List.{map_push}
use Rattle.std.proofs.lemmas.List.Elements.{filter-append}

-- ---- other rows don't matter

pub reds_from-other : (lanes more : ℕ → List Red) (count first : ℕ) → ((k : ℕ) → first ≤ k → k < first + count → actions_in (more k) ≡ actions_in (lanes k)) → reds_from more count first ≡ reds_from lanes count first
unfolding reds_from
reds_from-other lanes more zero first same = refl
reds_from-other lanes more (suc count) first same =
    rw (same first (omega arith) (omega arith), reds_from-other lanes more count (suc first) (λ k le lt. same k (omega arith) (omega arith)))

pub all_reds-same : (lanes more : ℕ → List Red) → ((k : ℕ) → k < 32 → actions_in (more k) ≡ actions_in (lanes k)) → all_reds more ≡ all_reds lanes
unfolding all_reds
all_reds-same lanes more same = reds_from-other lanes more 32 0 (λ k le lt. same k (omega arith))

-- ---- one more

id_before-false : (id other : ActionId) → (other.creator < id.creator) ⊎ ((other.creator ≡ id.creator) × (other.index ≤ id.index)) → id_before id other ≡ false
id_before-false id other (inl lower) = rw (le-ltb id.creator other.creator (omega arith), ne_eqb id.creator other.creator (λ e. omega arith))
id_before-false id other (inr same) = rw (le-ltb id.creator other.creator (let e = same.0 in omega arith), eq-eqb id.creator other.creator (sym (same.0)), le-ltb id.index other.index same.1)

-- an action goes behind a row that comes before it
with_red-behind : (reds : List Red) (others : List Action) (a : Action) (c from : ℕ) → Stretch c from reds → (c < a.id.creator) ⊎ ((c ≡ a.id.creator) × (from + length reds ≤ a.id.index))
    → with_red (actions_in reds ++ others) a ≡ actions_in reds ++ with_red others a
with_red-behind [] others a c from stretch before = refl
with_red-behind (r ∷ reds) others a c from stretch before =
    let creator : r.action.id.creator ≡ c = stretch.0 in
    let index : r.action.id.index ≡ from = stretch.1 in
    rw (id_before-false a.id r.action.id (elim before [
      | inl lower ↦ inl (omega arith)
      | inr same ↦ inr (creator ∙ same.0, (let le = same.1 in omega arith))
    ])) (ap (λ xs. r.action ∷ xs) (with_red-behind reds others a c (suc from) stretch.2 (elim before [
      | inl lower ↦ inl lower
      | inr same ↦ inr (same.0, (let le = same.1 in omega arith))
    ])))

-- an action goes before a row of a later creator
with_red-row : (reds : List Red) (others : List Action) (a : Action) (c from : ℕ) → Stretch c from reds → a.id.creator < c → with_red others a ≡ a ∷ others → with_red (actions_in reds ++ others) a ≡ a ∷ (actions_in reds ++ others)
with_red-row [] others a c from stretch lt rest = rest
with_red-row (r ∷ reds) others a c from stretch lt rest = let creator : r.action.id.creator ≡ c = stretch.0 in rw (before-creator a.id r.action.id (omega arith))

module _ (lanes : ℕ → List Red) (low : ℕ → ℕ) (stretches : (k : ℕ) → k < 32 → Stretch (suc k) (low k) (lanes k)) where
  -- an action goes before the rows that come behind it
  with_red-front : (count first : ℕ) (a : Action) → first + count ≤ 32 → a.id.creator ≤ first → with_red (reds_from lanes count first) a ≡ a ∷ reds_from lanes count first
  unfolding reds_from
  with_red-front zero first a within le = refl
  with_red-front (suc count) first a within le =
      with_red-row (lanes first) (reds_from lanes count (suc first)) a (suc first) (low first) (stretches first (omega arith)) (omega arith) (with_red-front count (suc first) a (omega arith) (omega arith))

  reds_from-added : (count first slot : ℕ) (r : Red) → first + count ≤ 32 → first ≤ slot → slot < first + count → r.action.id.creator ≡ suc slot
      → r.action.id.index ≡ low slot + length (lanes slot)
      → reds_from (with_lane lanes slot (lanes slot ++ r ∷ [])) count first ≡ with_red (reds_from lanes count first) r.action
  unfolding reds_from
  reds_from-added zero first slot r within le lt creator index = absurd (omega arith)
  reds_from-added (suc count) first slot r within le lt creator index = elim (cases_eq first slot) [
    | inl same ↦
        let row = lanes first in
        let new = with_lane lanes slot (lanes slot ++ r ∷ []) in
        let here : actions_in (new first) ≡ actions_in row ++ r.action ∷ [] =
        ap actions_in (with_lane-same lanes slot (lanes slot ++ r ∷ []) first same ∙ ap (λ k. lanes k ++ r ∷ []) (sym same)) ∙ map_push (λ x. x.action) row r in
        let rest : reds_from new count (suc first) ≡ reds_from lanes count (suc first) =
        reds_from-other lanes new count (suc first) (λ k above under. ap actions_in (with_lane-other lanes slot (lanes slot ++ r ∷ []) k (λ e. omega arith))) in
        let own : r.action.id.index ≡ low first + length row = rw (← same) at index in
        ap (λ xs. xs ++ reds_from new count (suc first)) here
        ∙ append_assoc (actions_in row) (r.action ∷ []) (reds_from new count (suc first))
        ∙ ap (λ xs. actions_in row ++ r.action ∷ xs) rest
        ∙ ap (λ xs. actions_in row ++ xs) (sym (with_red-front count (suc first) r.action (omega arith) (omega arith)))
        ∙ sym (with_red-behind row (reds_from lanes count (suc first)) r.action (suc first) (low first) (stretches first (omega arith)) (inr (ap suc same ∙ sym creator, omega arith)))
    | inr apart ↦
        let new = with_lane lanes slot (lanes slot ++ r ∷ []) in
        ap (λ xs. actions_in xs ++ reds_from new count (suc first)) (with_lane-other lanes slot (lanes slot ++ r ∷ []) first apart)
        ∙ ap (λ xs. actions_in (lanes first) ++ xs) (reds_from-added count (suc first) slot r (omega arith) (omega arith) (omega arith) creator index)
        ∙ sym (with_red-behind (lanes first) (reds_from lanes count (suc first)) r.action (suc first) (low first) (stretches first (omega arith)) (inl (omega arith)))
  ]

  pub all_reds-added : (slot : ℕ) (r : Red) → slot < 32 → r.action.id.creator ≡ suc slot → r.action.id.index ≡ low slot + length (lanes slot)
      → all_reds (with_lane lanes slot (lanes slot ++ r ∷ [])) ≡ with_red (all_reds lanes) r.action
  unfolding all_reds
  all_reds-added slot r lt creator index = reds_from-added 32 0 slot r (omega arith) (omega arith) (omega arith) creator index

-- ---- one less

-- in a row that doesn't have the name nothing is lost
without-outside : (reds : List Red) (id : ActionId) (c from : ℕ) → Stretch c from reds → (c ≢ id.creator) ⊎ (id.index < from) → without_action (actions_in reds) id ≡ actions_in reds
without-outside [] id c from stretch outside = refl
without-outside (r ∷ reds) id c from stretch outside =
    let creator : r.action.id.creator ≡ c = stretch.0 in
    let index : r.action.id.index ≡ from = stretch.1 in
    rw (same_id-false r.action.id id (elim outside [
      | inl apart ↦ inl (λ e. apart (sym creator ∙ e))
      | inr before ↦ inr (λ e. omega arith)
    ])) (ap (λ xs. r.action ∷ xs) (without-outside reds id c (suc from) stretch.2 (elim outside [
      | inl apart ↦ inl apart
      | inr before ↦ inr (omega arith)
    ])))

without-first : (reds : List Red) (id : ActionId) (c from : ℕ) → Stretch c from reds → id.creator ≡ c → id.index ≡ from → without_action (actions_in reds) id ≡ actions_in (drop 1 reds)
without-first [] id c from stretch creator index = refl
without-first (r ∷ reds) id c from stretch creator index =
    rw (same_id-true r.action.id id (stretch.0 ∙ sym creator) (stretch.1 ∙ sym index)) (without-outside reds id c (suc from) stretch.2 (inr (omega arith)))

module _ (lanes : ℕ → List Red) (low : ℕ → ℕ) (stretches : (k : ℕ) → k < 32 → Stretch (suc k) (low k) (lanes k)) where
  reds_from-dropped : (count first slot : ℕ) (id : ActionId) → first + count ≤ 32 → id.creator ≡ suc slot → id.index ≡ low slot
      → reds_from (with_lane lanes slot (drop 1 (lanes slot))) count first ≡ without_action (reds_from lanes count first) id
  unfolding reds_from
  reds_from-dropped zero first slot id within creator index = refl
  reds_from-dropped (suc count) first slot id within creator index =
      let new = with_lane lanes slot (drop 1 (lanes slot)) in
      let rest = reds_from-dropped count (suc first) slot id (omega arith) creator index in
      let whole = filter-append (λ a. not (same_id a.id id)) (actions_in (lanes first)) (reds_from lanes count (suc first)) in
      elim (cases_eq first slot) [
        | inl same ↦
            let at_place : id.index ≡ low first = rw (← same) at index in
            ap (λ xs. actions_in xs ++ reds_from new count (suc first)) (with_lane-same lanes slot (drop 1 (lanes slot)) first same ∙ ap (λ k. drop 1 (lanes k)) (sym same))
            ∙ ap (λ xs. xs ++ reds_from new count (suc first)) (sym (without-first (lanes first) id (suc first) (low first) (stretches first (omega arith)) (creator ∙ ap suc (sym same)) at_place))
            ∙ ap (λ xs. without_action (actions_in (lanes first)) id ++ xs) rest
            ∙ sym whole
        | inr apart ↦
            ap (λ xs. actions_in xs ++ reds_from new count (suc first)) (with_lane-other lanes slot (drop 1 (lanes slot)) first apart)
            ∙ ap (λ xs. xs ++ reds_from new count (suc first)) (sym (without-outside (lanes first) id (suc first) (low first) (stretches first (omega arith)) (inl (λ e. apart (omega arith)))))
            ∙ ap (λ xs. without_action (actions_in (lanes first)) id ++ xs) rest
            ∙ sym whole
      ]

  pub all_reds-dropped : (slot : ℕ) (id : ActionId) → id.creator ≡ suc slot → id.index ≡ low slot → all_reds (with_lane lanes slot (drop 1 (lanes slot))) ≡ without_action (all_reds lanes) id
  unfolding all_reds
  all_reds-dropped slot id creator index = reds_from-dropped 32 0 slot id (omega arith) creator index

-- ---- a name of one of them

-- it is the name at a place of a creator's row
pub record IsNamed (lanes : ℕ → List Red) (low : ℕ → ℕ) (id : ActionId) : Type 0 where
  pub slot : ℕ
  pub within : slot < 32
  pub creator : id.creator ≡ suc slot
  pub above : low slot ≤ id.index
  pub below : id.index < low slot + length (lanes slot)

names-join : (xs ys : List Action) (id : ActionId) → has_name (names_of (xs ++ ys)) id ≡ true → (has_name (names_of xs) id ≡ true) ⊎ (has_name (names_of ys) id ≡ true)
names-join [] ys id there = inr there
names-join (x ∷ xs) ys id there = elim (or_cases (same_id id x.id) (has_name (names_of (xs ++ ys)) id) there) [
  | inl own ↦ inl (rw own)
  | inr later ↦ elim (names-join xs ys id later) [
    | inl here ↦ inl (or_right (same_id id x.id) (has_name (names_of xs) id) here)
    | inr behind ↦ inr behind
  ]
]

never : false ≡ true → ⊥
never e = cc

names-stretch : (reds : List Red) (id : ActionId) (c from : ℕ) → Stretch c from reds → has_name (names_of (actions_in reds)) id ≡ true → (id.creator ≡ c) × (from ≤ id.index) × (id.index < from + length reds)
names-stretch [] id c from stretch there = absurd (never there)
names-stretch (r ∷ reds) id c from stretch there =
    let creator : r.action.id.creator ≡ c = stretch.0 in
    let index : r.action.id.index ≡ from = stretch.1 in
    elim (cases_eq id.creator r.action.id.creator) [
      | inl same ↦ elim (cases_eq id.index r.action.id.index) [
        | inl equal ↦ (same ∙ creator, omega arith, omega arith)
        | inr differ ↦
            let rest = names-stretch reds id c (suc from) stretch.2 (rw (same_id-false id r.action.id (inr differ)) at there) in
            let low = rest.1 in
            (rest.0, omega arith, (let high = rest.2 in omega arith))
      ]
      | inr apart ↦
          let rest = names-stretch reds id c (suc from) stretch.2 (rw (same_id-false id r.action.id (inl apart)) at there) in
          let low = rest.1 in
          (rest.0, omega arith, (let high = rest.2 in omega arith))
    ]

module _ (lanes : ℕ → List Red) (low : ℕ → ℕ) (stretches : (k : ℕ) → k < 32 → Stretch (suc k) (low k) (lanes k)) where
  named-from : (count first : ℕ) (id : ActionId) → first + count ≤ 32 → has_name (names_of (reds_from lanes count first)) id ≡ true → IsNamed lanes low id
  unfolding reds_from
  named-from zero first id within there = absurd (never there)
  named-from (suc count) first id within there = elim (names-join (actions_in (lanes first)) (reds_from lanes count (suc first)) id there) [
    | inl here ↦
        let named = names-stretch (lanes first) id (suc first) (low first) (stretches first (omega arith)) here in
        record { slot = first; within = omega arith; creator = named.0; above = named.1; below = named.2 }
    | inr later ↦ named-from count (suc first) id (omega arith) later
  ]

  pub is_named : (id : ActionId) → has_name (names_of (all_reds lanes)) id ≡ true → IsNamed lanes low id
  unfolding all_reds
  is_named id there = named-from 32 0 id (omega arith) there

-- ---- a name that stands in a row is one of a red

names-row : (reds : List Red) (id : ActionId) (c from i : ℕ) → Stretch c from reds → id.creator ≡ c → id.index ≡ from + i → i < length reds → has_name (names_of (actions_in reds)) id ≡ true
names-row [] id c from i stretch creator index lt = absurd (omega arith)
names-row (r ∷ reds) id c from zero stretch creator index lt =
    let own : r.action.id.index ≡ from = stretch.1 in
    rw (same_id-true id r.action.id (creator ∙ sym stretch.0) (omega arith))
names-row (r ∷ reds) id c from (suc i) stretch creator index lt =
    or_right (same_id id r.action.id) (has_name (names_of (actions_in reds)) id) (names-row reds id c (suc from) i stretch.2 creator (omega arith) (omega arith))

names-left : (xs ys : List Action) (id : ActionId) → has_name (names_of xs) id ≡ true → has_name (names_of (xs ++ ys)) id ≡ true
names-left [] ys id there = absurd (never there)
names-left (x ∷ xs) ys id there = elim (cases_Bool (same_id id x.id)) [
  | inl own ↦ rw own
  | inr other ↦ rw other (names-left xs ys id (rw other at there))
]

names-right : (xs ys : List Action) (id : ActionId) → has_name (names_of ys) id ≡ true → has_name (names_of (xs ++ ys)) id ≡ true
names-right [] ys id there = there
names-right (x ∷ xs) ys id there = or_right (same_id id x.id) (has_name (names_of (xs ++ ys)) id) (names-right xs ys id there)

module _ (lanes : ℕ → List Red) (low : ℕ → ℕ) (stretches : (k : ℕ) → k < 32 → Stretch (suc k) (low k) (lanes k)) where
  names-from : (count first slot i : ℕ) (id : ActionId) → first + count ≤ 32 → first ≤ slot → slot < first + count → id.creator ≡ suc slot → id.index ≡ low slot + i → i < length (lanes slot)
      → has_name (names_of (reds_from lanes count first)) id ≡ true
  unfolding reds_from
  names-from zero first slot i id within le lt creator index inside = absurd (omega arith)
  names-from (suc count) first slot i id within le lt creator index inside = elim (cases_eq first slot) [
    | inl same ↦
        let at_first : id.index ≡ low first + i = rw (← same) at index in
        let in_first : i < length (lanes first) = rw (← same) at inside in
        names-left (actions_in (lanes first)) (reds_from lanes count (suc first)) id
        (names-row (lanes first) id (suc first) (low first) i (stretches first (omega arith)) (creator ∙ ap suc (sym same)) at_first in_first)
    | inr apart ↦
        names-right (actions_in (lanes first)) (reds_from lanes count (suc first)) id (names-from count (suc first) slot i id (omega arith) (omega arith) (omega arith) creator index inside)
  ]

  pub names-all : (slot i : ℕ) (id : ActionId) → slot < 32 → id.creator ≡ suc slot → id.index ≡ low slot + i → i < length (lanes slot) → has_name (names_of (all_reds lanes)) id ≡ true
  unfolding all_reds
  names-all slot i id lt creator index inside = names-from 32 0 slot i id (omega arith) (omega arith) (omega arith) creator index inside
