-- What a word of 32 bits says of its members.
use Rattle.std.proofs.Common.{◌≡◌, ℕ, zero, suc, ◌+◌, ◌-◌, ◌*◌, ◌%◌, ◌^◌, ◌<◌, ◌≤◌, ◌≢◌, ◌||◌, ◌&&◌, List, [], ◌∷◌, length, filter, cond, Bool, not, true, false, eqb, ltb, min, max, refl, sym, ap, ◌∙◌, arith, inl, inr, bit_and, bit_or, w32, Some}
use Rattle.std.specs.Int.{bit_at, bit_not, trailing_zeros}
use Rattle.std.specs.List.{list_all}
use Rattle.std.specs.Cmp.Lexicographic.{pointwise}
use mir.Val.{bits}
use Rattle.std.proofs.lemmas.Bool.{cases_eq, cases_lt, cases_Bool, eq-eqb, ne_eqb, lt-ltb, le-ltb, false_from_ne_true}
use Rattle.std.proofs.lemmas.List.{nil_from_length}
use Rattle.std.proofs.lemmas.Nat.Bits.{bit_at_or, bit_at_and, bit_at-lt, bit_at_not, bit_at-zero, bit_at_set_same, bit_at_set_other, bit_at_clear_same, bit_at_clear_other, bit_at-trailing_zeros, bit_at_mask_inside, bit_at_mask_below}
use Rattle.std.proofs.lemmas.Slice.Eq.{bytes_eq-Decides}
use Rattle.cg_base.specs.Sets.{IsSet, IsId, Ascends, has, with_member, without_member, union, common, without, least}
use Rattle.cg_base.specs.BoolLaws.{or_true, or_false}
use Rattle.cg_base.specs.Slots.{held_from, held, member, bit_slot, word_of}
use Rattle.cg_base.specs.SlotLaws.{value_in, map-itself, held_from-empty, held_from-filled, word_tells, value_in-held, Ascends-members, word_of-held}
use Rattle.cg_base.proofs.Canonical.{EachMade, held-is}
use Rattle.cg_base.specs.SetLaws.{has-with_member, Ascends-with_member, has-filter, Ascends-filter, has-union, Ascends-union, has-common, has-without, has-without_member}

-- the members of a word
abbrev pub members : ℕ → List ℕ
members word = held member (bit_slot word)

pub value_in-has : (set : List ℕ) (p : ℕ) → value_in (λ q. q) (λ _. 1) set p ≡ cond (has set p) 1 0
value_in-has [] p = refl
value_in-has (q ∷ set) p = elim (cases_eq q p) [
  | inl same ↦ rw (eq-eqb q p same)
  | inr apart ↦ rw (ne_eqb q p apart) (value_in-has set p)
]

pub each_made : (set : List ℕ) → EachMade member (λ q. q) (λ _. 1) set
each_made [] = tt
each_made (p ∷ set) = (refl, omega arith, each_made set)

bit_by_test : (b : ℕ) (t : Bool) → b < 2 → eqb b 1 ≡ t → b ≡ cond t 1 0
bit_by_test zero t small same = rw (← same)
bit_by_test (suc zero) t small same = rw (← same)
bit_by_test (suc (suc b)) t small same = absurd (omega arith)

-- a word whose bits are those of a set has its members
pub members_is : (word : ℕ) (set : List ℕ) → Ascends 1 set → ((p : ℕ) → 1 ≤ p → p ≤ 32 → eqb (bit_slot word p) 1 ≡ has set p) → members word ≡ set
members_is word set ascends same =
    held-is member (λ q. q) (λ _. 1) (bit_slot word) set (rw (map-itself set) ascends) (each_made set)
    (λ p low high. bit_by_test (bit_slot word p) (has set p) (bit_at-lt word (p - 1)) (same p low high) ∙ sym (value_in-has set p))

test_of_cond : (t : Bool) (b : ℕ) → cond t 1 0 ≡ b → t ≡ eqb b 1
test_of_cond true b same = rw (← same)
test_of_cond false b same = rw (← same)

pub has-members : (word p : ℕ) → 1 ≤ p → p ≤ 32 → has (members word) p ≡ eqb (bit_slot word p) 1
has-members word p low high =
    test_of_cond (has (members word) p) (bit_slot word p)
    (sym (value_in-has (members word) p) ∙ value_in-held member (λ q. q) (λ _. 1) (bit_slot word) (word_tells word) p low high)

pub members-0 : members 0 ≡ []
members-0 = members_is 0 [] tt (λ p low high. rw (bit_at-zero (p - 1)))

pub IsSet-members : (word : ℕ) → IsSet (members word)
IsSet-members word = record { ascends = Ascends-members word }

-- ---- operations on bits

larger_bit : (x y : ℕ) → x < 2 → y < 2 → eqb (max x y) 1 ≡ (eqb x 1 || eqb y 1)
larger_bit zero zero p q = refl
larger_bit zero (suc zero) p q = refl
larger_bit (suc zero) zero p q = refl
larger_bit (suc zero) (suc zero) p q = refl
larger_bit (suc (suc x)) y p q = absurd (omega arith)
larger_bit x (suc (suc y)) p q = absurd (omega arith)

lesser_bit : (x y : ℕ) → x < 2 → y < 2 → eqb (min x y) 1 ≡ (eqb x 1 && eqb y 1)
lesser_bit zero zero p q = refl
lesser_bit zero (suc zero) p q = refl
lesser_bit (suc zero) zero p q = refl
lesser_bit (suc zero) (suc zero) p q = refl
lesser_bit (suc (suc x)) y p q = absurd (omega arith)
lesser_bit x (suc (suc y)) p q = absurd (omega arith)

other_bit : (x : ℕ) → x < 2 → eqb (1 - x) 1 ≡ not (eqb x 1)
other_bit zero p = refl
other_bit (suc zero) p = refl
other_bit (suc (suc x)) p = absurd (omega arith)

pub bit-or : (a b p : ℕ) → eqb (bit_slot (bit_or a b) p) 1 ≡ (eqb (bit_slot a p) 1 || eqb (bit_slot b p) 1)
bit-or a b p = rw bit_at_or (larger_bit _ _ (bit_at-lt a (p - 1)) (bit_at-lt b (p - 1)))

pub bit-and : (a b p : ℕ) → eqb (bit_slot (bit_and a b) p) 1 ≡ (eqb (bit_slot a p) 1 && eqb (bit_slot b p) 1)
bit-and a b p = rw bit_at_and (lesser_bit _ _ (bit_at-lt a (p - 1)) (bit_at-lt b (p - 1)))

pub bit-not : (a p : ℕ) → a < 2 ^ 32 → 1 ≤ p → p ≤ 32 → eqb (bit_slot (bit_not w32 a) p) 1 ≡ not (eqb (bit_slot a p) 1)
bit-not a p small low high = rw (bit_at_not w32 a (p - 1) small (omega arith)) (other_bit _ (bit_at-lt a (p - 1)))

pub members-or : (a b : ℕ) → members (bit_or a b) ≡ union (members a) (members b)
members-or a b =
    members_is (bit_or a b) (union (members a) (members b)) (Ascends-union (members a) (members b) 1 (omega arith) (Ascends-members a) (Ascends-members b))
    (λ p low high. bit-or a b p ∙ sym (has-union (members a) (members b) p ∙ rw (has-members a p low high, has-members b p low high)))

pub members-and : (a b : ℕ) → members (bit_and a b) ≡ common (members a) (members b)
members-and a b =
    members_is (bit_and a b) (common (members a) (members b)) (Ascends-filter (has (members b)) (members a) 1 (Ascends-members a))
    (λ p low high. bit-and a b p ∙ sym (has-common (members a) (members b) p ∙ rw (has-members a p low high, has-members b p low high)))

pub members-and_not : (a b : ℕ) → b < 2 ^ 32 → members (bit_and a (bit_not w32 b)) ≡ without (members a) (members b)
members-and_not a b small =
    members_is (bit_and a (bit_not w32 b)) (without (members a) (members b)) (Ascends-filter (λ p. not (has (members b) p)) (members a) 1 (Ascends-members a))
    (λ p low high. bit-and a (bit_not w32 b) p
    ∙ rw (bit-not b p small low high) (sym (has-without (members a) (members b) p ∙ rw (has-members a p low high, has-members b p low high))))

pub bit-set : (w id p : ℕ) → IsId id → 1 ≤ p → p ≤ 32 → eqb (bit_slot (bit_or w (1 * 2 ^ (id - 1) % 2 ^ bits w32)) p) 1 ≡ (eqb (bit_slot w p) 1 || eqb id p)
bit-set w id p is_id low high = elim (cases_eq id p) [
  | inl same ↦
      let place : p - 1 ≡ id - 1 = ap (λ n. n - 1) (sym same) in
      let within : id - 1 < bits w32 = let one = is_id.0 in let most = is_id.1 in omega arith in
      rw (place, bit_at_set_same w32 w (id - 1) within, eq-eqb id p same) (sym (or_true (eqb (bit_at w (id - 1)) 1)))
  | inr apart ↦
      let one = is_id.0 in
      let within : id - 1 < bits w32 = let most = is_id.1 in omega arith in
      let other : p - 1 ≢ id - 1 = λ e. apart (omega arith) in
      rw (bit_at_set_other w32 w (id - 1) within (p - 1) other, ne_eqb id p apart) (sym (or_false (eqb (bit_at w (p - 1)) 1)))
]

pub members-set : (w id : ℕ) → IsId id → members (bit_or w (1 * 2 ^ (id - 1) % 2 ^ bits w32)) ≡ with_member (members w) id
members-set w id is_id =
    members_is _ (with_member (members w) id) (Ascends-with_member (members w) 1 id is_id.0 is_id.1 (Ascends-members w))
    (λ p low high. bit-set w id p is_id low high ∙ sym (has-with_member (members w) id p ∙ rw (has-members w p low high)))

and_false : (a : Bool) → false ≡ (a && not true)
and_false true = refl
and_false false = refl

and_true : (a : Bool) → a ≡ (a && not false)
and_true true = refl
and_true false = refl

pub bit-clear : (w id p : ℕ) → IsId id → 1 ≤ p → p ≤ 32
    → eqb (bit_slot (bit_and w (bit_not w32 (1 * 2 ^ (id - 1) % 2 ^ bits w32))) p) 1 ≡ (eqb (bit_slot w p) 1 && not (eqb p id))
bit-clear w id p is_id low high = elim (cases_eq p id) [
  | inl same ↦
      let place : p - 1 ≡ id - 1 = ap (λ n. n - 1) same in
      let within : id - 1 < bits w32 = let one = is_id.0 in let most = is_id.1 in omega arith in
      rw (place, bit_at_clear_same w32 w (id - 1) within, eq-eqb p id same) (and_false (eqb (bit_at w (id - 1)) 1))
  | inr apart ↦
      let one = is_id.0 in
      let within : id - 1 < bits w32 = let most = is_id.1 in omega arith in
      let other : p - 1 ≢ id - 1 = λ e. apart (omega arith) in
      rw (bit_at_clear_other w32 w (id - 1) within (p - 1) (omega arith) other, ne_eqb p id apart) (and_true (eqb (bit_at w (p - 1)) 1))
]

pub members-clear : (w id : ℕ) → IsId id → members (bit_and w (bit_not w32 (1 * 2 ^ (id - 1) % 2 ^ bits w32))) ≡ without_member (members w) id
members-clear w id is_id =
    members_is _ (without_member (members w) id) (Ascends-filter (λ q. not (eqb q id)) (members w) 1 (Ascends-members w))
    (λ p low high. bit-clear w id p is_id low high ∙ sym (has-without_member (members w) id p ∙ rw (has-members w p low high)))

-- ---- tests

-- a set is empty where its word is 0
pub members-empty : (w : ℕ) → w < 2 ^ 32 → eqb w 0 ≡ eqb (length (members w)) 0
members-empty w small = elim (cases_eq w 0) [
  | inl none ↦ eq-eqb w 0 none ∙ sym (eq-eqb (length (members w)) 0 (ap (λ n. length (members n)) none ∙ ap length members-0))
  | inr some ↦ ne_eqb w 0 some ∙ sym (ne_eqb (length (members w)) 0 (λ e. some (sym (word_of-held w small) ∙ ap word_of (nil_from_length (members w) e))))
]

pub length-filter_none : {X : Type 0} (test : X → Bool) (xs : List X) → eqb (length (filter (λ x. not (test x)) xs)) 0 ≡ list_all test xs
length-filter_none test [] = refl
length-filter_none test (x ∷ xs) = elim (cases_Bool (test x)) [
  | inl passes ↦ rw passes (length-filter_none test xs)
  | inr fails ↦ rw fails (ne_eqb _ 0 (λ e. omega arith))
]

pub members-same : (a b : ℕ) → a < 2 ^ 32 → b < 2 ^ 32 → eqb a b ≡ pointwise eqb (members a) (members b)
members-same a b a_small b_small = elim (cases_eq a b) [
  | inl same ↦ eq-eqb a b same ∙ sym ((bytes_eq-Decides (members a) (members b)).1 (ap members same))
  | inr apart ↦ ne_eqb a b apart ∙ sym (false_from_ne_true (pointwise eqb (members a) (members b))
      (λ e. apart (sym (word_of-held a a_small) ∙ ap word_of ((bytes_eq-Decides (members a) (members b)).0 e) ∙ word_of-held b b_small)))
]

-- ---- the least member

least-held_from : (slot : ℕ → ℕ) (count first k : ℕ) → first ≤ k → k < first + count → slot k ≢ 0 → ((p : ℕ) → first ≤ p → p < k → slot p ≡ 0)
    → least (held_from member slot count first) ≡ Some k
least-held_from slot zero first k le lt filled none = absurd (omega arith)
least-held_from slot (suc count) first k le lt filled none = elim (cases_eq first k) [
  | inl same ↦ rw (held_from-filled member slot count first (λ e. filled (sym (ap slot same) ∙ e))) (ap Some same)
  | inr apart ↦ rw (held_from-empty member slot count first (none first (omega arith) (omega arith)))
      (least-held_from slot count (suc first) k (omega arith) (omega arith) filled (λ p low high. none p (omega arith) high))
]

pub least-members : (w : ℕ) → 0 < w → w < 2 ^ 32 → least (members w) ≡ Some (suc (trailing_zeros w32 w))
unfolding held
least-members w some small =
    let place = bit_at-trailing_zeros w32 w some small in
    let k = trailing_zeros w32 w in
    let within : k < bits w32 = place.0 in
    let here : suc k - 1 ≡ k = omega arith in
    let filled : bit_slot w (suc k) ≢ 0 = λ e. let one : bit_at w k ≡ 1 = place.1 in let zero_bit : bit_at w k ≡ 0 = rw here at e in omega arith in
    least-held_from (bit_slot w) 32 1 (suc k) (omega arith) (omega arith) filled (λ p low high. place.2 (p - 1) (omega arith))

-- ---- the members above one

pub bit-above : (w id p : ℕ) → id ≤ 32 → 1 ≤ p → p ≤ 32 → eqb (bit_slot (bit_and w (2 ^ 64 - 2 ^ id)) p) 1 ≡ (eqb (bit_slot w p) 1 && ltb id p)
bit-above w id p most low high = elim (cases_lt id p) [
  | inl above ↦ bit-and w (2 ^ 64 - 2 ^ id) p ∙ rw (bit_at_mask_inside id 64 (p - 1) (omega arith) (omega arith), lt-ltb id p above)
  | inr below ↦ bit-and w (2 ^ 64 - 2 ^ id) p ∙ rw (bit_at_mask_below id 64 (p - 1) (omega arith), le-ltb id p below)
]

pub members-above : (w id : ℕ) → id ≤ 32 → members (bit_and w (2 ^ 64 - 2 ^ id)) ≡ filter (ltb id) (members w)
members-above w id most =
    members_is _ (filter (ltb id) (members w)) (Ascends-filter (ltb id) (members w) 1 (Ascends-members w))
    (λ p low high. bit-above w id p most low high ∙ sym (has-filter (ltb id) (members w) p ∙ rw (has-members w p low high)))
