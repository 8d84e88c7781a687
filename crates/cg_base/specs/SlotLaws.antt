-- Slots give back what was put in them. The models of sets, weights and cuts rest on these laws.
use Rattle.std.proofs.Common.{◌≡◌, ℕ, zero, suc, ◌+◌, ◌-◌, ◌^◌, ◌<◌, ◌≤◌, ◌≢◌, List, [], ◌∷◌, length, map, cond, drop-cons, true, false, eqb, max, drop, refl, sym, ap, ◌∙◌, arith, inl, inr}
use Rattle.std.specs.Int.{bit_at}
use Rattle.std.proofs.lemmas.List.{drop_all}
use Rattle.std.proofs.lemmas.Bool.{cases_eq, cases_lt, eq-eqb, ne_eqb}
use Rattle.std.proofs.lemmas.Nat.Bits.{bit_at_or, bit_at-lt, bit_at-pow_same, bit_at-pow_other, bit_at_above, bit_at-zero, same_from_bits}
use Rattle.cg_base.specs.declared.action_id.ActionId.{ActionId}
use Rattle.cg_base.specs.declared.weighted.Weighted.{Weighted}
use Rattle.cg_base.specs.Lists.{count_up}
use Rattle.cg_base.specs.Sets.{Ascends}
use Rattle.cg_base.specs.Replicas.{every_replica}
use Rattle.cg_base.specs.Slots.{held_from, held, IsArray, member, weighted, top, bit_slot, array_slot, word_of, array_of}
use Rattle.cg_base.specs.Calls.{weight_in}
use Rattle.cg_base.specs.Cuts.{index_in}

-- the value of the element with that key, 0 where there is none
abbrev pub value_in : {X : Type 0} → (X → ℕ) → (X → ℕ) → List X → ℕ → ℕ
value_in key value [] p = 0
value_in key value (x ∷ xs) p = cond (eqb (key x) p) (value x) (value_in key value xs p)

module _ {X : Type 0} (make : ℕ → ℕ → X) (slot : ℕ → ℕ) where
  pub held_from-empty : (count first : ℕ) → slot first ≡ 0 →
      held_from make slot (suc count) first ≡ held_from make slot count (suc first)
  unfolding held_from
  held_from-empty count first empty = rw (eq-eqb (slot first) 0 empty)

  pub held_from-filled : (count first : ℕ) → slot first ≢ 0 →
      held_from make slot (suc count) first ≡ make first (slot first) ∷ held_from make slot count (suc first)
  unfolding held_from
  held_from-filled count first filled = rw (ne_eqb (slot first) 0 filled)

-- what is held has the keys and values of the slots
pub record Tells {X : Type 0} (make : ℕ → ℕ → X) (key value : X → ℕ) (slot : ℕ → ℕ) : Type 0 where
  pub keyed : (p n : ℕ) → key (make p n) ≡ p
  pub valued : (p : ℕ) → slot p ≢ 0 → value (make p (slot p)) ≡ slot p

module _ {X : Type 0} (make : ℕ → ℕ → X) (key value : X → ℕ) (slot : ℕ → ℕ) (tells : Tells make key value slot) where
  pub value_in-other : (first p n : ℕ) (xs : List X) → first ≢ p →
      value_in key value (make first n ∷ xs) p ≡ value_in key value xs p
  value_in-other first p n xs apart =
      let other : eqb (key (make first n)) p ≡ false = rw (tells.keyed first n) (ne_eqb first p apart) in
      rw other

  pub value_in-below : (count first p : ℕ) → p < first → value_in key value (held_from make slot count first) p ≡ 0
  unfolding held_from
  value_in-below zero first p lt = refl
  value_in-below (suc count) first p lt = elim (cases_eq (slot first) 0) [
    | inl empty ↦ rw (held_from-empty make slot count first empty) (value_in-below count (suc first) p (omega arith))
    | inr filled ↦ rw (held_from-filled make slot count first filled)
        (value_in-other first p (slot first) (held_from make slot count (suc first)) (omega arith)
        ∙ value_in-below count (suc first) p (omega arith))
  ]

  pub value_in-above : (count first p : ℕ) → first + count ≤ p →
      value_in key value (held_from make slot count first) p ≡ 0
  unfolding held_from
  value_in-above zero first p le = refl
  value_in-above (suc count) first p le = elim (cases_eq (slot first) 0) [
    | inl empty ↦ rw (held_from-empty make slot count first empty) (value_in-above count (suc first) p (omega arith))
    | inr filled ↦ rw (held_from-filled make slot count first filled)
        (value_in-other first p (slot first) (held_from make slot count (suc first)) (omega arith)
        ∙ value_in-above count (suc first) p (omega arith))
  ]

  value_in-first : (p : ℕ) (xs : List X) → slot p ≢ 0 → value_in key value (make p (slot p) ∷ xs) p ≡ slot p
  value_in-first p xs filled =
      let same : eqb (key (make p (slot p))) p ≡ true = rw (tells.keyed p (slot p)) (eq-eqb p p refl) in
      rw same (tells.valued p filled)

  pub value_in-held_from : (count first p : ℕ) → first ≤ p → p < first + count →
      value_in key value (held_from make slot count first) p ≡ slot p
  value_in-held_from zero first p le lt = absurd (omega arith)
  value_in-held_from (suc count) first p le lt = elim (cases_eq (slot first) 0) [
    | inl empty ↦ rw (held_from-empty make slot count first empty) (elim (cases_eq first p) [
      | inl same ↦ value_in-below count (suc first) p (omega arith) ∙ sym empty ∙ ap slot same
      | inr apart ↦ value_in-held_from count (suc first) p (omega arith) (omega arith)
    ])
    | inr filled ↦ rw (held_from-filled make slot count first filled) (elim (cases_eq first p) [
      | inl same ↦ rw (← same) (value_in-first first (held_from make slot count (suc first)) filled)
      | inr apart ↦ value_in-other first p (slot first) (held_from make slot count (suc first)) apart
          ∙ value_in-held_from count (suc first) p (omega arith) (omega arith)
    ])
  ]

  pub Ascends-held_from : (count first low : ℕ) → low ≤ first → first + count ≤ 33 →
      Ascends low (map key (held_from make slot count first))
  unfolding held_from
  Ascends-held_from zero first low le within = tt
  Ascends-held_from (suc count) first low le within = elim (cases_eq (slot first) 0) [
    | inl empty ↦ rw (held_from-empty make slot count first empty) (Ascends-held_from count (suc first)
        low (omega arith) (omega arith))
    | inr filled ↦ rw (held_from-filled make slot count first filled, tells.keyed first (slot first))
        (omega arith, omega arith, Ascends-held_from count (suc first) (suc first) (omega arith) (omega arith))
  ]

  -- each identifier's slot is told by what all slots hold
  pub value_in-held : (p : ℕ) → 1 ≤ p → p ≤ 32 → value_in key value (held make slot) p ≡ slot p
  unfolding held
  value_in-held p low high = value_in-held_from 32 1 p low (omega arith)

  pub value_in-held-above : (p : ℕ) → 32 < p → value_in key value (held make slot) p ≡ 0
  unfolding held
  value_in-held-above p above = value_in-above 32 1 p (omega arith)

  pub Ascends-held : Ascends 1 (map key (held make slot))
  unfolding held
  Ascends-held = Ascends-held_from 32 1 1 (omega arith) (omega arith)

-- ---- words

pub word_tells : (word : ℕ) → Tells member (λ p. p) (λ _. 1) (bit_slot word)
word_tells word = record {
  keyed = λ p n. refl;
  valued = λ p filled. let small : bit_slot word p < 2 = bit_at-lt word (p - 1) in omega arith;
}

larger_bit : (x : ℕ) → x < 2 → max x 1 ≡ 1
larger_bit x small = omega arith

pub bit_at-word_of : (set : List ℕ) (low i : ℕ) → 1 ≤ low → Ascends low set →
    bit_at (word_of set) i ≡ value_in (λ p. p) (λ _. 1) set (suc i)
bit_at-word_of [] low i one ascends = bit_at-zero i
bit_at-word_of (p ∷ set) low i one ascends =
    let above : low ≤ p = ascends.0 in
    let rest : bit_at (word_of set) i ≡ value_in (λ q. q) (λ _. 1) set (suc i) =
    bit_at-word_of set (suc p) i (omega arith) ascends.2 in
    rw bit_at_or (elim (cases_eq p (suc i)) [
      | inl same ↦
          let place : p - 1 ≡ i = omega arith in
          rw (place, bit_at-pow_same i, eq-eqb p (suc i) same) (larger_bit _ (bit_at-lt (word_of set) i))
      | inr apart ↦
          let other : i ≢ p - 1 = λ q. apart (omega arith) in
          rw (bit_at-pow_other (p - 1) i other, ne_eqb p (suc i) apart) (let keep : max (bit_at (word_of set) i) 0 ≡
          bit_at (word_of set) i = omega arith in keep ∙ rest)
    ])

pub map-itself : (xs : List ℕ) → map (λ p. p) xs ≡ xs
map-itself [] = refl
map-itself (p ∷ xs) = ap (λ ys. p ∷ ys) (map-itself xs)

pub Ascends-members : (word : ℕ) → Ascends 1 (held member (bit_slot word))
Ascends-members word =
    let ascends : Ascends 1 (map (λ p. p) (held member (bit_slot word))) =
    Ascends-held member (λ p. p) (λ _. 1) (bit_slot word) (word_tells word) in
    rw map-itself at ascends

-- a member's bit is 1, and each other bit is 0
pub bit_at-members : (word i : ℕ) → word < 2 ^ 32 →
    value_in (λ p. p) (λ _. 1) (held member (bit_slot word)) (suc i) ≡ bit_at word i
bit_at-members word i small = elim (cases_lt i 32) [
  | inl within ↦
      let place : suc i - 1 ≡ i = omega arith in
      value_in-held member (λ p. p) (λ _. 1) (bit_slot word) (word_tells word) (suc i) (omega arith) (omega arith)
      ∙ ap (bit_at word) place
  | inr beyond ↦
      value_in-held-above member (λ p. p) (λ _. 1) (bit_slot word) (word_tells word) (suc i) (omega arith)
      ∙ sym (bit_at_above word 32 i small beyond)
]

pub word_of-held : (word : ℕ) → word < 2 ^ 32 → word_of (held member (bit_slot word)) ≡ word
word_of-held word small =
    same_from_bits _ _ (λ i.
    bit_at-word_of (held member (bit_slot word)) 1 i (omega arith) (Ascends-members word) ∙ bit_at-members word i small)

-- ---- arrays

-- numbers that count up, each as f and as g make it
pub map-count_up : {X : Type 0} (f g : ℕ → X) (count first : ℕ) → ((p : ℕ) → first ≤ p → p < first + count → f p ≡ g p)
    → map f (count_up first count) ≡ map g (count_up first count)
map-count_up f g zero first same = refl
map-count_up f g (suc count) first same =
    rw (
      same first (omega arith) (omega arith),
      map-count_up f g count (suc first) (λ p le lt. same p (omega arith) (omega arith)),
    )

array_slot-count_up : (slots : List ℕ) (count before : ℕ) → before + count ≡ length slots
    → map (array_slot slots) (count_up (suc before) count) ≡ drop before slots
array_slot-count_up slots zero before all = sym (drop_all before slots (omega arith))
array_slot-count_up slots (suc count) before all =
    let place : suc before - 1 ≡ before = omega arith in
    let within : before < length slots = omega arith in
    let rest : map (array_slot slots) (count_up (suc (suc before)) count) ≡ drop (suc before) slots =
    array_slot-count_up slots count (suc before) (omega arith) in
    rw (place, drop-cons slots before 0, rest)

-- an array is made again from numbers that are those of its slots
pub array_of-slots : (slots : List ℕ) (f : ℕ → ℕ) → length slots ≡ 32 →
    ((p : ℕ) → 1 ≤ p → p ≤ 32 → f p ≡ array_slot slots p) → array_of f ≡ slots
unfolding array_of every_replica
array_of-slots slots f long same =
    map-count_up f (array_slot slots) 32 1 (λ p le lt. same p le (omega arith))
    ∙ array_slot-count_up slots 32 0 (omega arith)

pub weight_in-value_in : (set : List Weighted) (p : ℕ) → weight_in set p ≡ value_in (λ m. m.id) (λ m. m.weight) set p
weight_in-value_in [] p = refl
weight_in-value_in (m ∷ set) p = ap (λ n. cond (eqb m.id p) m.weight n) (weight_in-value_in set p)

pub index_in-value_in : (cut : List ActionId) (p : ℕ) → index_in cut p ≡ value_in (λ t. t.creator) (λ t. t.index) cut p
index_in-value_in [] p = refl
index_in-value_in (t ∷ cut) p = ap (λ n. cond (eqb t.creator p) t.index n) (index_in-value_in cut p)

pub weights_tell : (slot : ℕ → ℕ) → Tells weighted (λ m. m.id) (λ m. m.weight) slot
weights_tell slot = record { keyed = λ p n. refl; valued = λ p filled. refl }

pub indexes_tell : (slot : ℕ → ℕ) → Tells top (λ t. t.creator) (λ t. t.index) slot
indexes_tell slot = record { keyed = λ p n. refl; valued = λ p filled. refl }

pub weight_in-held : (slot : ℕ → ℕ) (p : ℕ) → 1 ≤ p → p ≤ 32 → weight_in (held weighted slot) p ≡ slot p
weight_in-held slot p low high = weight_in-value_in (held weighted slot) p
    ∙ value_in-held weighted (λ m. m.id) (λ m. m.weight) slot (weights_tell slot) p low high

pub index_in-held : (slot : ℕ → ℕ) (p : ℕ) → 1 ≤ p → p ≤ 32 → index_in (held top slot) p ≡ slot p
index_in-held slot p low high = index_in-value_in (held top slot) p
    ∙ value_in-held top (λ t. t.creator) (λ t. t.index) slot (indexes_tell slot) p low high

pub array_of-weights : (slots : List ℕ) → IsArray slots 256 →
    array_of (weight_in (held weighted (array_slot slots))) ≡ slots
array_of-weights slots array = array_of-slots slots _ array.long (weight_in-held (array_slot slots))

pub array_of-indexes : (slots : List ℕ) → IsArray slots (2 ^ 64) →
    array_of (index_in (held top (array_slot slots))) ≡ slots
array_of-indexes slots array = array_of-slots slots _ array.long (index_in-held (array_slot slots))
