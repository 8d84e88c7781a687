-- What arrays of 32 slots hold.
use Rattle.std.proofs.Common.{◌≡◌, ℕ, zero, suc, ◌-◌, ◌<◌, ◌≤◌, ◌≢◌, List, length, replicate, get_or, set, refl, ◌∙◌, arith, inl, inr}
use Rattle.std.proofs.Math.ListN.{length-set}
use Rattle.std.proofs.lemmas.List.{get_or-set_same, get_or-set_other}
use Rattle.std.proofs.lemmas.Bool.{cases_eq}
use Rattle.cg_base.specs.Sets.{IsId}
use Rattle.cg_base.specs.Slots.{IsArray, array_slot}

abbrev pub zeros : ℕ → List ℕ
zeros n = replicate n 0

get_or-zeros : (n k : ℕ) → get_or (zeros n) k 0 ≡ 0
get_or-zeros zero k = refl
get_or-zeros (suc n) zero = refl
get_or-zeros (suc n) (suc k) = get_or-zeros n k

pub array_slot-zeros : (p : ℕ) → array_slot (zeros 32) p ≡ 0
array_slot-zeros p = get_or-zeros 32 (p - 1)

pub IsArray-zeros : (limit : ℕ) → 0 < limit → IsArray (zeros 32) limit
IsArray-zeros limit some = record { long = refl; small = λ k. rw (get_or-zeros 32 k) some }

pub IsArray-set : (slots : List ℕ) (limit i n : ℕ) → IsArray slots limit → i < 32 → n < limit →
    IsArray (set slots i n) limit
IsArray-set slots limit i n array within small =
    let long = array.long in
    let inside : i < length slots = omega arith in
    record {
      long = length-set slots i n ∙ long;
      small = λ k. elim (cases_eq k i) [
        | inl same ↦ rw (same, get_or-set_same slots i n 0 inside) small
        | inr apart ↦ rw (get_or-set_other slots i k n 0 apart) (array.small k)
      ];
    }

pub array_slot-set_same : (slots : List ℕ) (limit p n : ℕ) → IsArray slots limit → IsId p →
    array_slot (set slots (p - 1) n) p ≡ n
array_slot-set_same slots limit p n array is_id =
    let long = array.long in
    let one : 1 ≤ p = is_id.0 in
    let most : p ≤ 32 = is_id.1 in
    get_or-set_same slots (p - 1) n 0 (omega arith)

pub array_slot-set_other : (slots : List ℕ) (p k n : ℕ) → 1 ≤ p → 1 ≤ k → k ≢ p →
    array_slot (set slots (p - 1) n) k ≡ array_slot slots k
array_slot-set_other slots p k n one low apart =
    let other : k - 1 ≢ p - 1 = λ e. apart (omega arith) in
    get_or-set_other slots (p - 1) (k - 1) n 0 other
