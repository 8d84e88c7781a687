-- Joins with a weight among the actions that a queue knows, by their names.
use Rattle.std.proofs.Common.{◌≡◌, ◌≢◌, ℕ, suc, ◌+◌, ◌<◌, ◌≤◌, Bool, true, false, ◌&&◌, cond, eqb, List, [], ◌∷◌, ◌++◌, refl, sym, ap, subst, ◌∙◌, arith, inl, inr}
use Rattle.std.proofs.lemmas.Bool.{cases_Bool, cases_eq, cases_lt, or_from, or_left, or_right, or_cases, ne_eqb}
use Rattle.std.proofs.lemmas.List.Folds.{list_any-append}
use Rattle.std.specs.Prelude.{Option, Some, None, find}
use Rattle.std.specs.List.{list_any}
use Rattle.std.specs.Option.{option_map_or}
use Rattle.cg_base.specs.declared.action_id.ActionId.{ActionId}
use Rattle.cg_base.specs.Choice.{Either}
use Rattle.cg_base.specs.Cuts.{index_in}
use Rattle.cg_base.specs.Ids.{same_id, id_before, has_name}
use Rattle.cg_base.specs.IdLaws.{same_id-is, same_id-self, same_id-false, same_name}
use Rattle.cg_action.specs.declared.action.Action.{Action}
use Rattle.cg_queue.specs.Body.{Follows}
use Rattle.cg_queue.specs.Queue.{QueueView, names_of, action_of}
use Rattle.cg_queue.specs.Shown.{IsBetween, IsAhead, NamesAscend, IsShown}
use Rattle.cg_disk_records.specs.RunMarkLaws.{before-parts, before-trans}
use Rattle.cg_older.specs.Weights.{is_heavy_join, is_heavy_name}

abbrev has_id : ActionId → Action → Bool
has_id id a = same_id a.id id

abbrev is_heavy : Option Action → Bool
is_heavy o = option_map_or is_heavy_join o false

-- ---- what is found is there

found-there : (xs : List Action) (id : ActionId) → is_heavy (find (has_id id) xs) ≡ true → list_any is_heavy_join xs ≡ true
found-there [] id heavy = heavy
found-there (x ∷ xs) id heavy = elim (cases_Bool (same_id x.id id)) [
  | inl here ↦ let one : is_heavy_join x ≡ true = rw here at heavy in or_left (is_heavy_join x) (list_any is_heavy_join xs) one
  | inr other ↦ let rest : is_heavy (find (has_id id) xs) ≡ true = rw other at heavy in or_right (is_heavy_join x) (list_any is_heavy_join xs) (found-there xs id rest)
]

pub heavy-known : (q : QueueView) (id : ActionId) (next : Option Action) → next ≡ action_of q id → is_heavy next ≡ true → list_any is_heavy_join (q.greens ++ q.reds) ≡ true
heavy-known q id next is heavy = found-there (q.greens ++ q.reds) id (rw is at heavy)

-- ---- no green has the name of a red

abbrev NoneBelow : ℕ → ℕ → ActionId → List Action → Type 0
NoneBelow from last id greens = (from ≤ suc last) × (find (has_id id) greens ≡ None)

none-green : (greens : List Action) (from last : ℕ) (id : ActionId) → Follows id.creator from last greens → last < id.index → NoneBelow from last id greens
none-green [] from last id follows above = (omega (arith, follows), refl)
none-green (a ∷ greens) from last id follows above =
    at (eqb a.id.creator id.creator) follows (λ rest. none-green greens (suc from) last id rest above) (λ rest. none-green greens from last id rest above)
  where
    at : (b : Bool) → Either b ((a.id.index ≡ from) × Follows id.creator (suc from) last greens) (Follows id.creator from last greens)
        → (Follows id.creator (suc from) last greens → NoneBelow (suc from) last id greens) → (Follows id.creator from last greens → NoneBelow from last id greens)
        → (from ≤ suc last) × (cond (b && eqb a.id.index id.index) (Some a) (find (has_id id) greens) ≡ None)
    at true next one other =
        let rest = one next.1 in
        let least : suc from ≤ suc last = rest.0 in
        let index : a.id.index ≡ from = next.0 in
        (omega (arith, least), rw (ne_eqb a.id.index id.index (λ e. omega (arith, e, index, least, above))) rest.1)
    at false next one other = other next

find-behind : (xs ys : List Action) (id : ActionId) → find (has_id id) xs ≡ None → find (has_id id) (xs ++ ys) ≡ find (has_id id) ys
find-behind [] ys id none = refl
find-behind (x ∷ xs) ys id none = elim (cases_Bool (same_id x.id id)) [
  | inl here ↦ absurd (let clash : Some x ≡ None = rw here at none in cc)
  | inr other ↦ let rest : find (has_id id) xs ≡ None = rw other at none in rw other (find-behind xs ys id rest)
]

-- ---- names that ascend

-- a name that comes before all others comes before this one of them
ahead-names : (x : ActionId) (ids : List ActionId) (id : ActionId) → IsAhead x ids → NamesAscend ids → has_name ids id ≡ true → id_before x id ≡ true
ahead-names x [] id ahead ascend named = absurd (let clash : false ≡ true = named in cc)
ahead-names x (n ∷ ids) id ahead ascend named = elim (or_cases (same_id id n) (has_name ids id) named) [
  | inl here ↦ subst (λ m. id_before x m ≡ true) (sym (same_id-is id n here)) ahead
  | inr there ↦ before-trans x n id ahead (ahead-names n ids id ascend.0 ascend.1 there)
]

before-apart : (x id : ActionId) → id_before x id ≡ true → same_id x id ≡ false
before-apart x id before = elim (before-parts x id before) [
  | inl creator ↦ same_id-false x id (inl (λ e. omega (arith, creator, e)))
  | inr index ↦ same_id-false x id (inr (λ e. let lt = index.1 in omega (arith, lt, e)))
]

-- where a join with a weight is red, there is a name under which one is found
abbrev HeavyName : List Action → Type 0
HeavyName reds = (id : ActionId) × (has_name (names_of reds) id ≡ true) × (is_heavy (find (has_id id) reds) ≡ true)

heavy-name : (reds : List Action) → NamesAscend (names_of reds) → list_any is_heavy_join reds ≡ true → HeavyName reds
heavy-name [] ascend heavy = absurd (let clash : false ≡ true = heavy in cc)
heavy-name (x ∷ reds) ascend heavy = elim (cases_Bool (is_heavy_join x)) [
  | inl here ↦ (x.id, or_left (same_id x.id x.id) (has_name (names_of reds) x.id) (same_id-self x.id), rw (same_id-self x.id) here)
  | inr light ↦
      let rest : list_any is_heavy_join reds ≡ true = rw light at heavy in
      let found = heavy-name reds ascend.1 rest in
      let apart = before-apart x.id found.0 (ahead-names x.id (names_of reds) found.0 ascend.0 ascend.1 found.1) in
      (found.0, or_right (same_id found.0 x.id) (has_name (names_of reds) found.0) found.1, rw apart found.2)
]

-- ---- all that is known

abbrev NoneBetween : QueueView → Type 0
NoneBetween q = (id : ActionId) → IsBetween q.green_cut q.red_cut id → is_heavy_name q id ≡ false

light-reds : (q : QueueView) → IsShown q → NoneBetween q → list_any is_heavy_join q.reds ≡ true → list_any is_heavy_join q.reds ≡ false
light-reds q shown none heavy =
    let found = heavy-name q.reds shown.ascend heavy in
    let id = found.0 in
    let between = (shown.reds id).0 found.1 in
    let lead = shown.greens id.creator between.0 in
    let behind : action_of q id ≡ find (has_id id) q.reds = find-behind q.greens q.reds id (none-green q.greens lead.first (index_in q.green_cut id.creator) id lead.follows between.1).1 in
    let clash : true ≡ false = sym found.2 ∙ ap is_heavy (sym behind) ∙ none id between in
    absurd cc

-- no join with a weight is known, if none is green and none is found under a red name
pub light-known : (q : QueueView) → IsShown q → list_any is_heavy_join q.greens ≡ false → NoneBetween q → list_any is_heavy_join (q.greens ++ q.reds) ≡ false
light-known q shown greens none =
    let reds : list_any is_heavy_join q.reds ≡ false = elim (cases_Bool (list_any is_heavy_join q.reds)) [
      | inl heavy ↦ light-reds q shown none heavy
      | inr light ↦ light
    ] in
    list_any-append is_heavy_join q.greens q.reds ∙ or_from (list_any is_heavy_join q.greens) (list_any is_heavy_join q.reds) greens reds

-- ---- what calls answer

-- a call that was answered with false by all creators up to one, and by the next
pub next-creator : (q : QueueView) (slot creator : ℕ) → creator ≡ slot + 1 → ((id : ActionId) → IsBetween q.green_cut q.red_cut id → id.creator ≤ slot → is_heavy_name q id ≡ false)
    → ((i : ℕ) → index_in q.green_cut creator < i → i ≤ index_in q.red_cut creator → is_heavy_name q (record { creator = creator; index = i }) ≡ false)
    → (id : ActionId) → IsBetween q.green_cut q.red_cut id → id.creator ≤ slot + 1 → is_heavy_name q id ≡ false
next-creator q slot creator is so_far none id between most = elim (cases_eq id.creator creator) [
  | inl here ↦
      let light = none id.index (subst (λ p. index_in q.green_cut p < id.index) here between.1) (subst (λ p. id.index ≤ index_in q.red_cut p) here between.2) in
      subst (λ n. is_heavy_name q n ≡ false) (same_name (record { creator = creator; index = id.index }) id (sym here) refl) light
  | inr other ↦ so_far id between (lower id.creator creator slot is other most)
]
  where
    lower : (p creator slot : ℕ) → creator ≡ slot + 1 → p ≢ creator → p ≤ slot + 1 → p ≤ slot
    lower p creator slot is other most = elim (cases_lt slot p) [
      | inl above ↦ absurd (other (omega (arith, is, most, above)))
      | inr below ↦ below
    ]

pub known-told : (q : QueueView) → IsShown q → list_any is_heavy_join q.greens ≡ false → (has : Bool) → (has ≡ true → list_any is_heavy_join (q.greens ++ q.reds) ≡ true) → (has ≡ false → NoneBetween q)
    → has ≡ list_any is_heavy_join (q.greens ++ q.reds)
known-told q shown greens true found none = sym (found refl)
known-told q shown greens false found none = sym (light-known q shown greens (none refl))
