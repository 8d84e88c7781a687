-- A number that digits spell only grows with each digit behind it.
use Rattle.std.proofs.Common.{◌≡◌, ℕ, ◌^◌, ◌<◌, ◌≤◌, Bool, true, false, List, [], ◌∷◌, length, get_or, drop, drop-cons, drop_of_length-le, Some, None, suc, refl, arith}
use Rattle.std.specs.Prelude.{fold, if◌then◌else◌}
use Rattle.std.proofs.lemmas.Bool.{le-ltb, lt-ltb, ltb-false}
use Rattle.cg_text.specs.Numbers.{with_digit, value_of_digits, fits_u64}

value_grows : (digits : List ℕ) (n : ℕ) → n ≤ fold with_digit n digits
value_grows [] n = omega arith
value_grows (digit ∷ digits) n = omega (arith, value_grows digits (with_digit n digit))

-- a number without room
pub without_room : (n : ℕ) → None ≡ (if fits_u64 n then Some n else None) → 2 ^ 64 ≤ n
without_room n e = ltb-false n (2 ^ 64) (refused (fits_u64 n) e)
  where
    refused : (b : Bool) → None ≡ (if b then Some n else None) → b ≡ false
    refused true e = absurd cc
    refused false e = refl

-- past the bound the digits may go on as they like
pub past_bound : (digits : List ℕ) (value i : ℕ) → i < length digits → fold with_digit value (drop i digits) ≡ value_of_digits digits
    → 2 ^ 64 ≤ with_digit value (get_or digits i 0) → fits_u64 (value_of_digits digits) ≡ false
past_bound digits value i lt so_far past =
    let step : drop i digits ≡ get_or digits i 0 ∷ drop (suc i) digits = drop-cons digits i 0 lt in
    let grown = value_grows (drop (suc i) digits) (with_digit value (get_or digits i 0)) in
    let whole : fold with_digit (with_digit value (get_or digits i 0)) (drop (suc i) digits) ≡ value_of_digits digits = rw step at so_far in
    le-ltb _ _ (omega (arith, whole, grown))

-- a number that fits is the answer
pub fits_at_end : (digits : List ℕ) (value i : ℕ) → length digits ≤ i → fold with_digit value (drop i digits) ≡ value_of_digits digits → value < 2 ^ 64
    → Some value ≡ (if fits_u64 (value_of_digits digits) then Some (value_of_digits digits) else None)
fits_at_end digits value i le so_far fits =
    let none : drop i digits ≡ [] = drop_of_length-le digits le in
    let whole : value ≡ value_of_digits digits = rw none at so_far in
    rw (← whole, lt-ltb value (2 ^ 64) fits) refl
