-- The kept action of a name is found by its index.
use Rattle.std.proofs.Common.{◌≡◌, ℕ, zero, suc, ◌+◌, ◌-◌, ◌<◌, ◌≤◌, ◌≢◌, ◌⊎◌, List, [], ◌∷◌, ◌++◌, length, Option, Some, None, false, refl, sym, ap, subst, ◌∙◌, arith, inl, inr}
use Rattle.std.specs.Prelude.{find, slice_get, nat_lt}
use Rattle.std.specs.Option.{option_map}
use Rattle.std.proofs.lemmas.Bool.{cases_eq, cases_lt, cases_Bool, eq-eqb, ne_eqb, lt-ltb, le-ltb, false_from_ne_true}
use Rattle.cg_base.specs.declared.action_id.ActionId.{ActionId}
use Rattle.cg_base.specs.Ids.{same_id, has_name}
use Rattle.cg_base.specs.Sets.{IsId}
use Rattle.cg_base.specs.Cuts.{index_in}
use Rattle.cg_action.specs.declared.action.Action.{Action}
use Rattle.cg_queue.specs.declared.red.Red.{Red}
use Rattle.cg_queue.specs.Queue.{action_of, names_of}
use Rattle.cg_queue.specs.Body.{Parts, seen, Stretch, Follows, positions_of, actions_in, reds_from, all_reds, IsSound, lane_of}
use Rattle.cg_base.specs.IdLaws.{same_id-false, same_id-true}
use Rattle.cg_queue.proofs.RedLemmas.{is_named, names-all}
use Rattle.cg_queue.proofs.Soundness.{low_of, stretches_of, has_lane}
use Rattle.std.proofs.lemmas.Option.{same_Some}

-- the action of that name
abbrev pub named : ActionId → List Action → Option Action
named id actions = find (λ a. same_id a.id id) actions

named-skips : (id : ActionId) (a : Action) (rest : List Action) → (a.id.creator ≢ id.creator) ⊎ (a.id.index ≢ id.index) → named id (a ∷ rest) ≡ named id rest
named-skips id a rest apart = rw (same_id-false a.id id apart)

named-first : (id : ActionId) (a : Action) (rest : List Action) → a.id.creator ≡ id.creator → a.id.index ≡ id.index → named id (a ∷ rest) ≡ Some a
named-first id a rest creators indexes = rw (same_id-true a.id id creators indexes)

named-behind : (id : ActionId) (xs ys : List Action) → named id xs ≡ None → named id (xs ++ ys) ≡ named id ys
named-behind id [] ys none = refl
named-behind id (x ∷ xs) ys none = elim (cases_Bool (same_id x.id id)) [
  | inl same ↦ absurd (never x (sym none ∙ rw same))
  | inr apart ↦ rw apart (named-behind id xs ys (rw apart at none))
]
  where
    never : (x : Action) → None ≡ Some x → ⊥
    never x e = cc

named-before : (id : ActionId) (xs ys : List Action) → named id ys ≡ None → named id (xs ++ ys) ≡ named id xs
named-before id [] ys none = none
named-before id (x ∷ xs) ys none = elim (cases_Bool (same_id x.id id)) [
  | inl same ↦ rw same
  | inr apart ↦ rw apart (named-before id xs ys none)
]

-- ---- greens

Follows-le : (c from last : ℕ) (greens : List Action) → Follows c from last greens → from ≤ suc last
Follows-le c from last [] follows = omega arith
Follows-le c from last (a ∷ greens) follows = elim (cases_eq a.id.creator c) [
  | inl same ↦
      let here = rw (eq-eqb a.id.creator c same) at follows in
      let more = Follows-le c (suc from) last greens here.1 in
      omega arith
  | inr apart ↦ Follows-le c from last greens (rw (ne_eqb a.id.creator c apart) at follows)
]

pub Follows-count : (c position from last : ℕ) (greens : List Action) → Follows c from last greens → from + length (positions_of c position greens) ≡ suc last
Follows-count c position from last [] follows = omega arith
Follows-count c position from last (a ∷ greens) follows = elim (cases_eq a.id.creator c) [
  | inl same ↦
      let here = rw (eq-eqb a.id.creator c same) at follows in
      let more = Follows-count c (suc position) (suc from) last greens here.1 in
      rw (eq-eqb a.id.creator c same) (omega arith)
  | inr apart ↦ rw (ne_eqb a.id.creator c apart) (Follows-count c (suc position) from last greens (rw (ne_eqb a.id.creator c apart) at follows))
]

greens-none : (id : ActionId) (c from last : ℕ) (greens : List Action) → Follows c from last greens → id.creator ≡ c → (id.index < from) ⊎ (last < id.index) → named id greens ≡ None
greens-none id c from last [] follows creator outside = refl
greens-none id c from last (a ∷ greens) follows creator outside = elim (cases_eq a.id.creator c) [
  | inl same ↦
      let here = rw (eq-eqb a.id.creator c same) at follows in
      let index : a.id.index ≡ from = here.0 in
      let more = Follows-le c (suc from) last greens here.1 in
      let differ : a.id.index ≢ id.index = λ e. elim outside [
        | inl before ↦ omega arith
        | inr behind ↦ omega arith
      ] in
      named-skips id a greens (inr differ) ∙ greens-none id c (suc from) last greens here.1 creator (elim outside [
        | inl before ↦ inl (omega arith)
        | inr behind ↦ inr behind
      ])
  | inr apart ↦ named-skips id a greens (inl (λ e. apart (e ∙ creator))) ∙ greens-none id c from last greens (rw (ne_eqb a.id.creator c apart) at follows) creator outside
]

-- where a green stands among those that begin at a position
pub record StandsAt (id : ActionId) (greens : List Action) (position spot : ℕ) : Type 0 where
  pub behind : position ≤ spot
  pub found : named id greens ≡ slice_get greens (spot - position)

stands-later : (id : ActionId) (a : Action) (greens : List Action) (position spot : ℕ) → StandsAt id greens (suc position) spot → (a.id.creator ≢ id.creator) ⊎ (a.id.index ≢ id.index) → StandsAt id (a ∷ greens) position spot
stands-later id a greens position spot rest apart =
    let le = rest.behind in
    let next : spot - position ≡ suc (spot - suc position) = omega arith in
    record { behind = omega arith; found = named-skips id a greens apart ∙ rest.found ∙ ap (slice_get (a ∷ greens)) (sym next) }

stands-here : (id : ActionId) (a : Action) (greens : List Action) (position spot : ℕ) → Some position ≡ Some spot → a.id.creator ≡ id.creator → a.id.index ≡ id.index → StandsAt id (a ∷ greens) position spot
stands-here id a greens position spot is_first creators indexes =
    let here : position ≡ spot = same_Some position spot is_first in
    let none : spot - position ≡ 0 = omega arith in
    record { behind = omega arith; found = named-first id a greens creators indexes ∙ ap (slice_get (a ∷ greens)) (sym none) }

nothing-there : (spot : ℕ) → None ≡ Some spot → ⊥
nothing-there spot e = cc

-- the own one is at the position, or further back
stands-own : (id : ActionId) (c position from : ℕ) (a : Action) (greens : List Action) (i spot : ℕ) → id.creator ≡ c → id.index ≡ from + i → a.id.creator ≡ c → a.id.index ≡ from
    → slice_get (position ∷ positions_of c (suc position) greens) i ≡ Some spot → ((j : ℕ) → id.index ≡ suc from + j → slice_get (positions_of c (suc position) greens) j ≡ Some spot → StandsAt id greens (suc position) spot)
    → StandsAt id (a ∷ greens) position spot
stands-own id c position from a greens zero spot creator index same own there rest = stands-here id a greens position spot there (same ∙ sym creator) (omega arith)
stands-own id c position from a greens (suc j) spot creator index same own there rest = stands-later id a greens position spot (rest j (omega arith) there) (inr (λ e. omega arith))

pub greens-found : (id : ActionId) (c position from last : ℕ) (greens : List Action) (i spot : ℕ) → Follows c from last greens → id.creator ≡ c → id.index ≡ from + i
    → slice_get (positions_of c position greens) i ≡ Some spot → StandsAt id greens position spot
greens-found id c position from last [] i spot follows creator index there = absurd (nothing-there spot there)
greens-found id c position from last (a ∷ greens) i spot follows creator index there = elim (cases_eq a.id.creator c) [
  | inl same ↦
      let here = rw (eq-eqb a.id.creator c same) at follows in
      let spots = rw (eq-eqb a.id.creator c same) at there in
      stands-own id c position from a greens i spot creator index same here.0 spots (λ j at_later later. greens-found id c (suc position) (suc from) last greens j spot here.1 creator at_later later)
  | inr apart ↦
      let rest = greens-found id c (suc position) from last greens i spot (rw (ne_eqb a.id.creator c apart) at follows) creator index (rw (ne_eqb a.id.creator c apart) at there) in
      stands-later id a greens position spot rest (inl (λ e. apart (e ∙ creator)))
]

-- ---- reds

stretch-none : (id : ActionId) (c from : ℕ) (reds : List Red) (others : List Action) → Stretch c from reds → (c ≢ id.creator) ⊎ (id.index < from) → named id (actions_in reds ++ others) ≡ named id others
stretch-none id c from [] others stretch outside = refl
stretch-none id c from (r ∷ reds) others stretch outside =
    let creator : r.action.id.creator ≡ c = stretch.0 in
    let index : r.action.id.index ≡ from = stretch.1 in
    named-skips id r.action (actions_in reds ++ others) (elim outside [
      | inl apart ↦ inl (λ e. apart (sym creator ∙ e))
      | inr before ↦ inr (λ e. omega arith)
    ]) ∙ stretch-none id c (suc from) reds others stretch.2 (elim outside [
      | inl apart ↦ inl apart
      | inr before ↦ inr (omega arith)
    ])

stretch-found : (id : ActionId) (c from : ℕ) (reds : List Red) (others : List Action) (i : ℕ) → Stretch c from reds → id.creator ≡ c → id.index ≡ from + i → named id others ≡ None
    → named id (actions_in reds ++ others) ≡ option_map (λ r. r.action) (slice_get reds i)
stretch-found id c from [] others i stretch creator index none = none
stretch-found id c from (r ∷ reds) others zero stretch creator index none = named-first id r.action (actions_in reds ++ others) (stretch.0 ∙ sym creator) (let own : r.action.id.index ≡ from = stretch.1 in omega arith)
stretch-found id c from (r ∷ reds) others (suc i) stretch creator index none =
    named-skips id r.action (actions_in reds ++ others) (inr (λ e. let own : r.action.id.index ≡ from = stretch.1 in omega arith))
    ∙ stretch-found id c (suc from) reds others i stretch.2 creator (omega arith) none

module _ (lanes : ℕ → List Red) (low : ℕ → ℕ) (stretches : (k : ℕ) → k < 32 → Stretch (suc k) (low k) (lanes k)) (id : ActionId) where
  reds-none : (count first : ℕ) → first + count ≤ 32 → ((k : ℕ) → first ≤ k → k < 32 → (suc k ≢ id.creator) ⊎ (id.index < low k)) → named id (reds_from lanes count first) ≡ None
  unfolding reds_from
  reds-none zero first within outside = refl
  reds-none (suc count) first within outside =
      stretch-none id (suc first) (low first) (lanes first) (reds_from lanes count (suc first)) (stretches first (omega arith)) (outside first (omega arith) (omega arith))
      ∙ reds-none count (suc first) (omega arith) (λ k le lt. outside k (omega arith) lt)

  reds-found : (count first slot i : ℕ) → first + count ≤ 32 → first ≤ slot → slot < first + count → id.creator ≡ suc slot → id.index ≡ low slot + i
      → named id (reds_from lanes count first) ≡ option_map (λ r. r.action) (slice_get (lanes slot) i)
  unfolding reds_from
  reds-found zero first slot i within le lt creator index = absurd (omega arith)
  reds-found (suc count) first slot i within le lt creator index = elim (cases_eq first slot) [
    | inl same ↦
        let at_first : id.index ≡ low first + i = rw (← same) at index in
        stretch-found id (suc first) (low first) (lanes first) (reds_from lanes count (suc first)) i (stretches first (omega arith)) (creator ∙ ap suc (sym same)) at_first
        (reds-none count (suc first) (omega arith) (λ k above under. inl (λ e. omega (arith, e, creator))))
        ∙ ap (λ k. option_map (λ r. r.action) (slice_get (lanes k) i)) same
    | inr apart ↦
        stretch-none id (suc first) (low first) (lanes first) (reds_from lanes count (suc first)) (stretches first (omega arith)) (inl (λ e. apart (omega (arith, e, creator))))
        ∙ reds-found count (suc first) slot i (omega arith) (omega arith) (omega arith) creator index
  ]

-- ---- both

module _ (b : Parts) (id : ActionId) (sound : IsSound b) (is_id : IsId id.creator) where
  abbrev pub green_index : ℕ
  green_index = index_in b.green_cut id.creator

  green_there : index_in b.green_cut (suc (lane_of id)) ≡ green_index
  green_there = ap (index_in b.green_cut) (has_lane id is_id).creator

  pub found-red : (i : ℕ) → id.index ≡ suc green_index + i → action_of (seen b) id ≡ option_map (λ r. r.action) (slice_get (b.reds (lane_of id)) i)
  unfolding all_reds
  found-red i index =
      let own = has_lane id is_id in
      let lane = sound.lanes (lane_of id) own.within in
      let green = green_there in
      named-behind id b.greens (all_reds b.reds) (greens-none id (suc (lane_of id)) lane.first (index_in b.green_cut (suc (lane_of id))) b.greens lane.greens (sym own.creator) (inr (omega arith)))
      ∙ reds-found b.reds (low_of b) (stretches_of b sound) id 32 0 (lane_of id) i (omega arith) (omega arith) (let lt = own.within in omega arith) (sym own.creator) (omega arith)

  no_red : id.index ≤ green_index → named id (all_reds b.reds) ≡ None
  unfolding all_reds
  no_red le = reds-none b.reds (low_of b) (stretches_of b sound) id 32 0 (omega arith) (λ k low lt. elim (cases_eq (suc k) id.creator) [
    | inl same ↦ inr (let here : index_in b.green_cut (suc k) ≡ green_index = ap (index_in b.green_cut) same in omega arith)
    | inr apart ↦ inl apart
  ])

  -- so many of the creator's greens are kept
  pub kept-count : (sound.lanes (lane_of id) ((has_lane id is_id).within)).first + length (b.positions (lane_of id)) ≡ suc green_index
  kept-count =
      let own = has_lane id is_id in
      let lane = sound.lanes (lane_of id) own.within in
      ap (λ xs. lane.first + length xs) lane.positions ∙ Follows-count (suc (lane_of id)) (suc b.white) lane.first (index_in b.green_cut (suc (lane_of id))) b.greens lane.greens ∙ ap suc green_there

  pub found-none : id.index ≤ green_index → length (b.positions (lane_of id)) ≤ green_index - id.index → action_of (seen b) id ≡ None
  found-none le short =
      let own = has_lane id is_id in
      let lane = sound.lanes (lane_of id) own.within in
      let count = kept-count in
      named-before id b.greens (all_reds b.reds) (no_red le)
      ∙ greens-none id (suc (lane_of id)) lane.first (index_in b.green_cut (suc (lane_of id))) b.greens lane.greens (sym own.creator) (inl (omega arith))

  pub found-green : (i spot : ℕ) → id.index ≤ green_index → i + suc (green_index - id.index) ≡ length (b.positions (lane_of id)) → slice_get (b.positions (lane_of id)) i ≡ Some spot
      → (suc b.white ≤ spot) × (action_of (seen b) id ≡ slice_get b.greens (spot - suc b.white))
  found-green i spot le at_index there =
      let own = has_lane id is_id in
      let lane = sound.lanes (lane_of id) own.within in
      let count = kept-count in
      let stands = greens-found id (suc (lane_of id)) (suc b.white) lane.first (index_in b.green_cut (suc (lane_of id))) b.greens i spot lane.greens (sym own.creator) (omega arith)
      (ap (λ xs. slice_get xs i) (sym lane.positions) ∙ there) in
      (stands.behind, named-before id b.greens (all_reds b.reds) (no_red le) ∙ stands.found)

-- ---- whether a name is one of a red

module _ (b : Parts) (id : ActionId) (sound : IsSound b) (is_id : IsId id.creator) where
  cut_there : index_in b.green_cut (suc (lane_of id)) ≡ index_in b.green_cut id.creator
  cut_there = ap (index_in b.green_cut) (has_lane id is_id).creator

  pub red-not : id.index ≤ index_in b.green_cut id.creator → has_name (names_of (all_reds b.reds)) id ≡ false
  red-not le = false_from_ne_true (has_name (names_of (all_reds b.reds)) id) (λ there.
      let found = is_named b.reds (low_of b) (stretches_of b sound) id there in
      let creator = found.creator in
      let above = found.above in
      let green : index_in b.green_cut (suc found.slot) ≡ index_in b.green_cut id.creator = ap (index_in b.green_cut) (sym creator) in
      omega arith)

  pub red-test : (i : ℕ) → id.index ≡ suc (index_in b.green_cut id.creator) + i → nat_lt i (length (b.reds (lane_of id))) ≡ has_name (names_of (all_reds b.reds)) id
  red-test i index =
      let own = has_lane id is_id in
      let green = cut_there in
      elim (cases_lt i (length (b.reds (lane_of id)))) [
        | inl lt ↦ lt-ltb i (length (b.reds (lane_of id))) lt ∙ sym (names-all b.reds (low_of b) (stretches_of b sound) (lane_of id) i id own.within (sym own.creator) (omega arith) lt)
        | inr le ↦ le-ltb i (length (b.reds (lane_of id))) le ∙ sym (false_from_ne_true (has_name (names_of (all_reds b.reds)) id) (λ there.
            let found = is_named b.reds (low_of b) (stretches_of b sound) id there in
            let creator = found.creator in
            let row : found.slot ≡ lane_of id = omega arith in
            let below : id.index < low_of b (lane_of id) + length (b.reds (lane_of id)) = subst (λ k. id.index < low_of b k + length (b.reds k)) row found.below in
            omega arith))
      ]
