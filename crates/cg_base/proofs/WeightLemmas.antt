-- Sets with weights: what a member weighs after a change, and sums.
use Rattle.std.proofs.Common.{◌≡◌, ℕ, zero, suc, ◌+◌, ◌-◌, ◌<◌, ◌≤◌, ◌≢◌, List, [], ◌∷◌, ◌++◌, filter, fold, cond, Bool, not, true, false, eqb, set, refl, sym, ap, ◌∙◌, arith, inl, inr, append_assoc, append-nil}
use Rattle.std.specs.List.{sum_by}
use Rattle.std.specs.Bool.{Decides}
use Rattle.std.specs.Cmp.Lexicographic.{pointwise, pointwise_decides}
use Rattle.std.proofs.lemmas.Bool.{cases_eq, cases_Bool, eq-eqb, ne_eqb, eqb-true, and_parts, and_from, or_cases, false_from_ne_true}
use Rattle.std.proofs.lemmas.List.Sums.{sum_by-append}
use Rattle.std.proofs.lemmas.List.Elements.{filter-append}
use Rattle.std.proofs.lemmas.Slice.Eq.{bytes_eq-Decides}
use Rattle.cg_base.specs.declared.weighted.Weighted.{Weighted}
use Rattle.cg_base.specs.Sets.{IsSet, IsId, Ascends, has}
use Rattle.cg_base.specs.Weights.{IsWeightSet, Weigh, same_weighted, ids, with_weight, each_once, total, total_of}
use Rattle.cg_base.specs.Calls.{weight_in}
use Rattle.cg_base.specs.Slots.{held_from, held, IsArray, weighted, array_slot, array_of}
use Rattle.cg_base.specs.SlotLaws.{held_from-empty, held_from-filled, weights_tell, Ascends-held, weight_in-value_in, weight_in-held, array_of-weights}
use Rattle.cg_base.proofs.Canonical.{EachMade, held-is}
use Rattle.cg_base.specs.ArrayLaws.{zeros, array_slot-zeros, array_slot-set_same, array_slot-set_other}
use Rattle.cg_base.proofs.ArrayLemmas.{held_from-more_empty, held_from-more_filled}
use Rattle.cg_base.specs.WeightLaws.{weight_in-with_weight, IsWeightSet-with_weight, with_weight-last, ids-append}

-- the members that the slots of an array weigh
abbrev pub weights_of : List ℕ → List Weighted
weights_of slots = held weighted (array_slot slots)

-- ---- what the slots hold is a set with weights

Weigh-held_from : (slot : ℕ → ℕ) (count first : ℕ) → ((p : ℕ) → slot p < 256) → Weigh (held_from weighted slot count first)
unfolding held_from
Weigh-held_from slot zero first small = tt
Weigh-held_from slot (suc count) first small = elim (cases_eq (slot first) 0) [
  | inl none ↦ rw (held_from-empty weighted slot count first none) (Weigh-held_from slot count (suc first) small)
  | inr some ↦ rw (held_from-filled weighted slot count first some)
      (let most = small first in (omega arith, omega arith, Weigh-held_from slot count (suc first) small))
]

pub IsWeightSet-weights_of : (slots : List ℕ) → IsArray slots 256 → IsWeightSet (weights_of slots)
unfolding held
IsWeightSet-weights_of slots array = record {
  ascends = Ascends-held weighted (λ m. m.id) (λ m. m.weight) (array_slot slots) (weights_tell (array_slot slots));
  weigh = Weigh-held_from (array_slot slots) 32 1 (λ p. array.small (p - 1));
}

pub each_made : (set : List Weighted) → Weigh set → EachMade weighted (λ m. m.id) (λ m. m.weight) set
each_made [] weigh = tt
each_made (m ∷ set) weigh = (refl, weigh.0, each_made set weigh.2)

-- an array whose slots weigh as a set with weights does holds that set
pub weights_of_is : (slots : List ℕ) (set : List Weighted) → IsWeightSet set → ((p : ℕ) → 1 ≤ p → p ≤ 32 → array_slot slots p ≡ weight_in set p) → weights_of slots ≡ set
weights_of_is slots set is_set same =
    held-is weighted (λ m. m.id) (λ m. m.weight) (array_slot slots) set is_set.ascends (each_made set is_set.weigh)
    (λ p low high. same p low high ∙ weight_in-value_in set p)

pub weights_of-zeros : weights_of (zeros 32) ≡ []
weights_of-zeros = weights_of_is (zeros 32) [] (record { ascends = tt; weigh = tt }) (λ p low high. array_slot-zeros p)

-- ---- a member's weight

pub weights_of-set : (slots : List ℕ) (p n : ℕ) → IsArray slots 256 → IsId p → 1 ≤ n → n ≤ 255
    → weights_of (set slots (p - 1) n) ≡ with_weight (weights_of slots) (record { id = p; weight = n })
weights_of-set slots p n array is_id some most =
    let member : Weighted = record { id = p; weight = n } in
    weights_of_is (set slots (p - 1) n) (with_weight (weights_of slots) member)
    (IsWeightSet-with_weight (weights_of slots) member is_id some most (IsWeightSet-weights_of slots array))
    (λ k low high. sym (weight_in-with_weight (weights_of slots) member k ∙ elim (cases_eq p k) [
      | inl same ↦ rw (eq-eqb p k same, ← same) (sym (array_slot-set_same slots 256 p n array is_id))
      | inr apart ↦ rw (ne_eqb p k apart) (weight_in-held (array_slot slots) k low high ∙ sym (array_slot-set_other slots p k n is_id.0 low (λ e. apart (sym e))))
    ]))

-- ---- members

pub weight_in-has : (set : List Weighted) (p : ℕ) → Weigh set → not (eqb (weight_in set p) 0) ≡ has (ids set) p
weight_in-has [] p weigh = refl
weight_in-has (m ∷ set) p weigh = elim (cases_eq m.id p) [
  | inl same ↦ rw (eq-eqb m.id p same, ne_eqb m.weight 0 (let some : 1 ≤ m.weight = weigh.0 in λ e. omega arith))
  | inr apart ↦ rw (ne_eqb m.id p apart) (weight_in-has set p weigh.2)
]

-- ---- the same set

same_weighted-Decides : (m n : Weighted) → Decides (same_weighted m n) (m ≡ n)
same_weighted-Decides m n = (
  (λ e. let parts = and_parts (eqb m.id n.id) (eqb m.weight n.weight) e in
      λ i. record { id = eqb-true m.id n.id parts.0 i; weight = eqb-true m.weight n.weight parts.1 i }),
  (λ e. and_from (eqb m.id n.id) (eqb m.weight n.weight) (eq-eqb m.id n.id (ap (λ x. x.id) e)) (eq-eqb m.weight n.weight (ap (λ x. x.weight) e))),
)

pub weights_of-same : (a b : List ℕ) (r : Bool) → IsArray a 256 → IsArray b 256 → r ≡ pointwise eqb a b → r ≡ pointwise same_weighted (weights_of a) (weights_of b)
weights_of-same a b r a_array b_array is =
    let items = bytes_eq-Decides a b in
    let held_items = pointwise_decides same_weighted-Decides (weights_of a) (weights_of b) in
    elim (cases_Bool (pointwise eqb a b)) [
      | inl same ↦ is ∙ same ∙ sym (held_items.1 (ap weights_of (items.0 same)))
      | inr differ ↦ is ∙ differ ∙ sym (false_from_ne_true (pointwise same_weighted (weights_of a) (weights_of b))
          (λ e. absurd (both (sym differ ∙ items.1 (sym (array_of-weights a a_array) ∙ ap (λ set. array_of (weight_in set)) (held_items.0 e) ∙ array_of-weights b b_array)))))
    ]
  where
    both : false ≡ true → ⊥
    both e = cc

-- ---- as far as a loop has come

total-more_empty : (slot : ℕ → ℕ) (count : ℕ) → slot (count + 1) ≡ 0 → total (held_from weighted slot (count + 1) 1) ≡ total (held_from weighted slot count 1) + slot (count + 1)
total-more_empty slot count empty =
    let next : count + 1 ≡ suc count = omega arith in
    let same : held_from weighted slot (suc count) 1 ≡ held_from weighted slot count 1 = held_from-more_empty weighted slot count 1 (count + 1) (omega arith) empty in
    ap (λ n. total (held_from weighted slot n 1)) next ∙ ap total same ∙ (let none = empty in omega arith)

total-more_filled : (slot : ℕ → ℕ) (count : ℕ) → slot (count + 1) ≢ 0 → total (held_from weighted slot (count + 1) 1) ≡ total (held_from weighted slot count 1) + slot (count + 1)
total-more_filled slot count filled =
    let next : count + 1 ≡ suc count = omega arith in
    let more : List Weighted = weighted (count + 1) (slot (count + 1)) ∷ [] in
    let grown : held_from weighted slot (suc count) 1 ≡ held_from weighted slot count 1 ++ weighted (count + 1) (slot (count + 1)) ∷ [] =
    held_from-more_filled weighted slot count 1 (count + 1) (omega arith) filled in
    ap (λ n. total (held_from weighted slot n 1)) next ∙ ap total grown
    ∙ sum_by-append (λ m. m.weight) (held_from weighted slot count 1) (weighted (count + 1) (slot (count + 1)) ∷ [])
    ∙ omega arith

pub total-more : (slot : ℕ → ℕ) (count : ℕ) → total (held_from weighted slot (count + 1) 1) ≡ total (held_from weighted slot count 1) + slot (count + 1)
total-more slot count = elim (cases_eq (slot (count + 1)) 0) [ inl empty ↦ total-more_empty slot count empty | inr filled ↦ total-more_filled slot count filled ]

-- the weight of the member at a place, where it is in the given set
abbrev pub counted : (ℕ → ℕ) → List ℕ → ℕ → ℕ
counted slot present p = cond (has present p) (slot p) 0

total_of-single : (m : Weighted) (present : List ℕ) → total_of (m ∷ []) present ≡ cond (has present m.id) m.weight 0
total_of-single m present = elim (cases_Bool (has present m.id)) [ inl here ↦ rw here (omega arith) | inr away ↦ rw away ]

pub total_of-append : (xs ys : List Weighted) (present : List ℕ) → total_of (xs ++ ys) present ≡ total_of xs present + total_of ys present
total_of-append xs ys present =
    ap (sum_by (λ m. m.weight)) (filter-append (λ m. has present m.id) xs ys)
    ∙ sum_by-append (λ m. m.weight) (filter (λ m. has present m.id) xs) (filter (λ m. has present m.id) ys)

counted-empty : (slot : ℕ → ℕ) (present : List ℕ) (p : ℕ) → slot p ≡ 0 → counted slot present p ≡ 0
counted-empty slot present p empty = elim (cases_Bool (has present p)) [ inl here ↦ rw here empty | inr away ↦ rw away ]

pub total_of-more : (slot : ℕ → ℕ) (present : List ℕ) (count : ℕ)
    → total_of (held_from weighted slot (count + 1) 1) present ≡ total_of (held_from weighted slot count 1) present + counted slot present (count + 1)
total_of-more slot present count =
    let next : count + 1 ≡ suc count = omega arith in
    let start : total_of (held_from weighted slot (count + 1) 1) present ≡ total_of (held_from weighted slot (suc count) 1) present =
    ap (λ n. total_of (held_from weighted slot n 1) present) next in
    elim (cases_eq (slot (count + 1)) 0) [
      | inl empty ↦
          let none : counted slot present (count + 1) ≡ 0 = counted-empty slot present (count + 1) empty in
          start ∙ ap (λ s. total_of s present) (held_from-more_empty weighted slot count 1 (count + 1) (omega arith) empty) ∙ (omega arith)
      | inr filled ↦
          let single : total_of (weighted (count + 1) (slot (count + 1)) ∷ []) present ≡ counted slot present (count + 1) = total_of-single (weighted (count + 1) (slot (count + 1))) present in
          start ∙ ap (λ s. total_of s present) (held_from-more_filled weighted slot count 1 (count + 1) (omega arith) filled)
          ∙ total_of-append (held_from weighted slot count 1) (weighted (count + 1) (slot (count + 1)) ∷ []) present
          ∙ ap (λ n. total_of (held_from weighted slot count 1) present + n) single
    ]

-- ---- each with weight 1

-- a member put in with weight 1
abbrev pub put_once : List Weighted → ℕ → List Weighted
put_once set p = with_weight set (record { id = p; weight = 1 })

pub fold-put_once : (xs : List Weighted) (set : List ℕ) (low : ℕ) → ((k : ℕ) → has (ids xs) k ≡ true → k < low) → Ascends low set → fold put_once xs set ≡ xs ++ each_once set
fold-put_once xs [] low below ascends = sym (append-nil xs)
fold-put_once xs (p ∷ set) low below ascends =
    let above : low ≤ p = ascends.0 in
    let one : List Weighted = weighted p 1 ∷ [] in
    let last : put_once xs p ≡ xs ++ weighted p 1 ∷ [] = with_weight-last xs (weighted p 1) (λ k h. let small = below k h in omega arith) in
    let later : (k : ℕ) → has (ids (xs ++ weighted p 1 ∷ [])) k ≡ true → k < suc p =
    λ k h. elim (or_cases (has (ids xs) k) (has (ids (weighted p 1 ∷ [])) k) (sym (ids-append xs (weighted p 1 ∷ []) k) ∙ h)) [
      | inl before ↦ let small = below k before in omega arith
      | inr here ↦ elim (or_cases (eqb p k) false here) [ inl same ↦ let e = eqb-true p k same in omega arith | inr never ↦ absurd (cc) ]
    ] in
    ap (λ s. fold put_once s set) last
    ∙ fold-put_once (xs ++ weighted p 1 ∷ []) set (suc p) later ascends.2
    ∙ append_assoc xs (weighted p 1 ∷ []) (each_once set)

pub each_once-is : (set : List ℕ) → IsSet set → fold put_once [] set ≡ each_once set
each_once-is set is_set = fold-put_once [] set 1 (λ k h. absurd (cc)) is_set.ascends
