-- What rows name up to a cut, where the rows are numbered: of each creator the names up to the cut, each once, and of each name its action.
use Rattle.std.proofs.Common.{◌≡◌, ◌≢◌, ℕ, zero, suc, ◌+◌, ◌≤◌, ◌<◌, true, false, cond, List, [], ◌∷◌, take, length, Some, refl, sym, ap, ◌∙◌, subst, inl, inr, arith, eq-eqb}
use Rattle.std.specs.Prelude.{◌==◌, nat_lt, nat_le}
use Rattle.std.specs.List.{flat_map}
use Rattle.std.proofs.lemmas.Bool.{cases_Bool, cases_eq, cases_lt, cond-true, cond-false, ne_eqb, and_parts, and_from, false_from_ne_true, ltb-true, leb-true, lt-ltb, le-leb}
use Rattle.cg_base.specs.EachLaws.{Each-append, Each-weaker, Each-take}
use Rattle.cg_base.specs.declared.action_id.ActionId.{ActionId}
use Rattle.cg_base.specs.Ids.{same_id, has_name}
use Rattle.cg_base.specs.IdLaws.{same_id-true, same_id-false, same_id-self}
use Rattle.cg_base.specs.Cuts.{index_in}
use Rattle.cg_base.specs.Lists.{count_up, row_at, Each}
use Rattle.cg_base.specs.Replicas.{every_replica}
use Rattle.cg_base.specs.Sets.{IsId}
use Rattle.cg_action.specs.declared.action.Action.{Action}
use Rattle.cg_queue.specs.Queue.{names_of}
use Rattle.cg_model.specs.World.{World}
use Rattle.cg_model.specs.Making.{made_by, AreNextOf}
use Rattle.cg_agree_lemmas.specs.BookGrows.{named_in as action_in}
use Rattle.cg_agree_lemmas.specs.NamesTimes.{times-named, named-times}
use Rattle.cg_agree_lemmas.specs.RepliesPlaced.{times}
use Rattle.cg_made_rows.specs.Rows.{named_in}
use Rattle.cg_items_agree.proofs.SameCells.{AreOf, times-appended}
use Rattle.cg_items_agree.proofs.KnownNames.{is_up_to, AreUpTo}
use Rattle.cg_items_agree.proofs.MadeRows.{AreNumbered}
use Rattle.cg_model.specs.MadeRowLaws.{AreRowsOf}

-- ---- a row

take-next : (p n k : ℕ) (xs : List Action) → AreNextOf p n xs → AreNextOf p n (take k xs)
take-next p n zero xs next = tt
take-next p n (suc k) [] next = tt
take-next p n (suc k) (a ∷ xs) next = (next.0, take-next p (suc n) k xs next.1)

take-length : (k : ℕ) (xs : List Action) → k ≤ length xs → length (take k xs) ≡ k
take-length zero xs le = refl
take-length (suc k) [] le = absurd (omega arith)
take-length (suc k) (a ∷ xs) le = ap suc (take-length k xs (omega arith))

module _ (id : ActionId) where
  here : (a : Action) (xs : List Action) → a.id.creator ≡ id.creator → a.id.index ≡ id.index →
      times id (names_of (a ∷ xs)) ≡ suc (times id (names_of xs))
  here a xs creator index = cond-true (same_id a.id id) (suc (times id (names_of xs))) (times id (names_of xs)) (same_id-true a.id id creator index)

  not-creator : (a : Action) (xs : List Action) → a.id.creator ≢ id.creator →
      times id (names_of (a ∷ xs)) ≡ times id (names_of xs)
  not-creator a xs apart = cond-false (same_id a.id id) (suc (times id (names_of xs))) (times id (names_of xs)) (same_id-false a.id id (inl apart))

  not-index : (a : Action) (xs : List Action) → a.id.index ≢ id.index →
      times id (names_of (a ∷ xs)) ≡ times id (names_of xs)
  not-index a xs apart = cond-false (same_id a.id id) (suc (times id (names_of xs))) (times id (names_of xs)) (same_id-false a.id id (inr apart))

  next-creator : (p n : ℕ) (a : Action) → a.id ≡ record { creator = p; index = suc n } → a.id.creator ≡ p
  next-creator p n a is = ap (λ (x : ActionId). x.creator) is

  next-index : (p n : ℕ) (a : Action) → a.id ≡ record { creator = p; index = suc n } → a.id.index ≡ suc n
  next-index p n a is = ap (λ (x : ActionId). x.index) is

  of-another : (p n : ℕ) (xs : List Action) → AreNextOf p n xs → p ≢ id.creator → times id (names_of xs) ≡ 0
  of-another p n [] next apart = refl
  of-another p n (a ∷ xs) next apart = not-creator a xs (λ e. apart (sym (next-creator p n a next.0) ∙ e)) ∙ of-another p (suc n) xs next.1 apart

  below : (p n : ℕ) (xs : List Action) → AreNextOf p n xs → id.index ≤ n → times id (names_of xs) ≡ 0
  below p n [] next low = refl
  below p n (a ∷ xs) next low =
      not-index a xs (λ e. let own = next-index p n a next.0 in absurd (omega arith)) ∙ below p (suc n) xs next.1 (omega arith)

  above : (p n : ℕ) (xs : List Action) → AreNextOf p n xs → n + length xs < id.index → times id (names_of xs) ≡ 0
  above p n [] next high = refl
  above p n (a ∷ xs) next high =
      not-index a xs (λ e. let own = next-index p n a next.0 in absurd (omega arith)) ∙ above p (suc n) xs next.1 (omega arith)

  within : (p n : ℕ) (xs : List Action) → AreNextOf p n xs → p ≡ id.creator → n < id.index → id.index ≤ n + length xs →
      times id (names_of xs) ≡ 1
  within p n [] next mine low high = absurd (omega arith)
  within p n (a ∷ xs) next mine low high =
      let own = next-index p n a next.0 in
      elim (cases_eq (suc n) id.index) [
        | inl this ↦ here a xs (next-creator p n a next.0 ∙ mine) (own ∙ this) ∙ ap suc (below p (suc n) xs next.1 (omega arith))
        | inr other ↦ not-index a xs (λ e. other (sym own ∙ e)) ∙ within p (suc n) xs next.1 mine (omega arith) (omega arith)
      ]

  -- ---- rows one behind the other

  module _ (f : ℕ → List Action) (others : (p : ℕ) → p ≢ id.creator → times id (names_of (f p)) ≡ 0) where
    outside-before : (from n : ℕ) → id.creator < from → times id (names_of (flat_map f (count_up from n))) ≡ 0
    outside-before from zero less = refl
    outside-before from (suc n) less =
        let both = times-appended id (f from) (flat_map f (count_up (suc from) n)) in
        let first = others from (λ e. absurd (omega arith)) in
        let rest = outside-before (suc from) n (omega arith) in
        omega arith

    outside-behind : (from n : ℕ) → from + n ≤ id.creator → times id (names_of (flat_map f (count_up from n))) ≡ 0
    outside-behind from zero le = refl
    outside-behind from (suc n) le =
        let both = times-appended id (f from) (flat_map f (count_up (suc from) n)) in
        let first = others from (λ e. absurd (omega arith)) in
        let rest = outside-behind (suc from) n (omega arith) in
        omega arith

    inside : (from n : ℕ) → from ≤ id.creator → id.creator < from + n →
        times id (names_of (flat_map f (count_up from n))) ≡ times id (names_of (f id.creator))
    inside from zero le less = absurd (omega arith)
    inside from (suc n) le less =
        let both = times-appended id (f from) (flat_map f (count_up (suc from) n)) in
        elim (cases_eq from id.creator) [
          | inl this ↦
              let rest = outside-before (suc from) n (omega arith) in
              let first = ap (λ p. times id (names_of (f p))) this in
              omega arith
          | inr other ↦
              let first = others from other in
              let rest = inside (suc from) n (omega arith) (omega arith) in
              omega arith
        ]

-- ---- up to a cut

pub counts : (cut ids : List ActionId) → ((id : ActionId) → is_up_to cut id ≡ true → times id ids ≡ 1) →
    ((id : ActionId) → is_up_to cut id ≡ false → times id ids ≡ 0) → AreUpTo cut ids
counts cut ids one none = record {
  once = λ id. elim (cases_Bool (is_up_to cut id)) [
    | inl is ↦ (let count = one id is in omega arith)
    | inr not ↦ (let count = none id not in omega arith)
  ];
  known = λ id. elim (cases_Bool (is_up_to cut id)) [
    | inl is ↦ times-named id ids (let count = one id is in omega arith) ∙ sym is
    | inr not ↦ false_from_ne_true (has_name ids id) (λ there.
        let some = named-times id ids there in
        let count = none id not in
        absurd (omega arith)) ∙ sym not
  ];
}

module _ (rows : List (List Action)) (made : List Action) (w : World) (are : AreRowsOf made rows) (all : AreNumbered w made) (cut : List ActionId)
    (low : (p : ℕ) → index_in cut p ≤ index_in w.made p) (ids : (p : ℕ) → 0 < index_in cut p → IsId p) where
  row : ℕ → List Action
  row p = take (index_in cut p) (row_at rows p)

  row-next : (p : ℕ) → AreNextOf p 0 (row p)
  unfolding row
  row-next p = take-next p 0 (index_in cut p) (row_at rows p) (subst (AreNextOf p 0) (sym (are p)) (all.numbered p))

  row-length : (p : ℕ) → length (row p) ≡ index_in cut p
  unfolding row
  row-length p =
      let whole : length (row_at rows p) ≡ index_in w.made p = ap length (are p) ∙ all.count p in
      let le = low p in
      take-length (index_in cut p) (row_at rows p) (omega arith)

  row-others : (id : ActionId) (p : ℕ) → p ≢ id.creator → times id (names_of (row p)) ≡ 0
  row-others id p apart = of-another id p 0 (row p) (row-next p) apart

  row-known : (id : ActionId) → is_up_to cut id ≡ true → times id (names_of (named_in rows cut)) ≡ 1
  unfolding row every_replica
  row-known id is =
      let parts = and_parts (nat_lt 0 id.index) (nat_le id.index (index_in cut id.creator)) is in
      let some : 0 < id.index = ltb-true 0 id.index parts.0 in
      let most : id.index ≤ index_in cut id.creator = leb-true id.index (index_in cut id.creator) parts.1 in
      let named = ids id.creator (omega arith) in
      let least = named.0 in
      let greatest = named.1 in
      let count = row-length id.creator in
      inside id row (row-others id) 1 32 least (omega arith)
      ∙ within id id.creator 0 (row id.creator) (row-next id.creator) refl some (omega arith)

  row-unknown : (id : ActionId) → is_up_to cut id ≡ false → times id (names_of (named_in rows cut)) ≡ 0
  unfolding row every_replica
  row-unknown id not = elim (cases_lt id.creator 1) [
    | inl before ↦ outside-before id row (row-others id) 1 32 before
    | inr least ↦ elim (cases_lt id.creator 33) [
      | inr behind ↦ outside-behind id row (row-others id) 1 32 (omega arith)
      | inl most ↦ inside id row (row-others id) 1 32 least (omega arith) ∙ elim (cases_lt 0 id.index) [
        | inr none ↦ below id id.creator 0 (row id.creator) (row-next id.creator) none
        | inl some ↦ elim (cases_lt (index_in cut id.creator) id.index) [
          | inl high ↦ above id id.creator 0 (row id.creator) (row-next id.creator) (let count = row-length id.creator in omega arith)
          | inr within ↦
              let yes = and_from (nat_lt 0 id.index) (nat_le id.index (index_in cut id.creator)) (lt-ltb 0 id.index some) (le-leb id.index (index_in cut id.creator) within) in
              absurd (let clash : true ≡ false = sym yes ∙ not in cc)
        ]
      ]
    ]
  ]

  pub rows-known : AreUpTo cut (names_of (named_in rows cut))
  rows-known = counts cut (names_of (named_in rows cut)) row-known row-unknown

-- ---- of each name its action

next-each : (p n : ℕ) (xs : List Action) → AreNextOf p n xs → Each (λ a. (a.id.creator ≡ p) × (suc n ≤ a.id.index)) xs
next-each p n [] next = tt
next-each p n (a ∷ xs) next = (
  (ap (λ (x : ActionId). x.creator) next.0, (let own = ap (λ (x : ActionId). x.index) next.0 in omega arith)),
  Each-weaker (λ a. (a.id.creator ≡ p) × (suc (suc n) ≤ a.id.index)) (λ a. (a.id.creator ≡ p) × (suc n ≤ a.id.index)) (λ a is. (is.0, (let le = is.1 in omega arith))) xs (next-each p (suc n) xs next.1),
)

found-behind : (first : Action) (n : ℕ) (all xs : List Action) → first.id.index ≡ suc n →
    Each (λ a. suc (suc n) ≤ a.id.index) xs → Each (λ a. action_in all a.id ≡ Some a) xs →
    Each (λ a. action_in (first ∷ all) a.id ≡ Some a) xs
found-behind first n all [] own later each = tt
found-behind first n all (a ∷ xs) own later each = (
  cond-false (same_id first.id a.id) (Some first) (action_in all a.id) (same_id-false first.id a.id (inr (λ e. let le = later.0 in absurd (omega arith)))) ∙ each.0,
  found-behind first n all xs own later.1 each.1,
)

next-found : (p n : ℕ) (xs : List Action) → AreNextOf p n xs → Each (λ a. action_in xs a.id ≡ Some a) xs
next-found p n [] next = tt
next-found p n (a ∷ xs) next = (
  cond-true (same_id a.id a.id) (Some a) (action_in xs a.id) (same_id-self a.id),
  found-behind a n xs xs (ap (λ (x : ActionId). x.index) next.0)
      (Each-weaker (λ a. (a.id.creator ≡ p) × (suc (suc n) ≤ a.id.index)) (λ a. suc (suc n) ≤ a.id.index) (λ a is. is.1) xs (next-each p (suc n) xs next.1))
      (next-found p (suc n) xs next.1),
)

-- the first of a name is among those of its creator
find-own : (id : ActionId) (made : List Action) → action_in made id ≡ action_in (made_by id.creator made) id
find-own id [] = refl
find-own id (a ∷ made) = elim (cases_eq a.id.creator id.creator) [
  | inl mine ↦
      ap (cond (same_id a.id id) (Some a)) (find-own id made)
      ∙ sym (ap (λ (own : List Action). action_in own id)
      (cond-true (a.id.creator == id.creator) (a ∷ made_by id.creator made) (made_by id.creator made) (eq-eqb a.id.creator id.creator mine)))
  | inr other ↦
      cond-false (same_id a.id id) (Some a) (action_in made id) (same_id-false a.id id (inl other)) ∙ find-own id made
      ∙ sym (ap (λ (own : List Action). action_in own id)
      (cond-false (a.id.creator == id.creator) (a ∷ made_by id.creator made) (made_by id.creator made) (ne_eqb a.id.creator id.creator other)))
]

in-made : (made : List Action) (p : ℕ) (xs : List Action) → Each (λ a. a.id.creator ≡ p) xs →
    Each (λ a. action_in (made_by p made) a.id ≡ Some a) xs → AreOf (action_in made) xs
in-made made p [] mine each = tt
in-made made p (a ∷ xs) mine each = (
  find-own a.id made ∙ ap (λ q. action_in (made_by q made) a.id) mine.0 ∙ each.0,
  in-made made p xs mine.1 each.1,
)

flat-each : (P : Action → Type 0) (f : ℕ → List Action) (ps : List ℕ) → ((p : ℕ) → Each P (f p)) →
    Each P (flat_map f ps)
flat-each P f [] each = tt
flat-each P f (p ∷ ps) each = Each-append P (f p) (flat_map f ps) (each p) (flat-each P f ps each)

pub rows-own : (rows : List (List Action)) (made : List Action) (w : World) → AreRowsOf made rows → AreNumbered w made →
    (cut : List ActionId) → AreOf (action_in made) (named_in rows cut)
rows-own rows made w are all cut =
    flat-each (λ a. action_in made a.id ≡ Some a) (λ p. take (index_in cut p) (row_at rows p)) every_replica (λ p.
    Each-take (λ a. action_in made a.id ≡ Some a) (index_in cut p) (row_at rows p)
    (subst (AreOf (action_in made)) (sym (are p))
    (in-made made p (made_by p made)
    (Each-weaker (λ a. (a.id.creator ≡ p) × (1 ≤ a.id.index)) (λ a. a.id.creator ≡ p) (λ a is. is.0) (made_by p made) (next-each p 0 (made_by p made) (all.numbered p)))
    (next-found p 0 (made_by p made) (all.numbered p)))))
