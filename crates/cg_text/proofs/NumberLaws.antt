-- Numbers are read as they are printed, and no other way.
use Rattle.std.proofs.Common.{◌≡◌, ℕ, zero, suc, ◌^◌, ◌<◌, Bool, true, false, cond, eqb, List, [], ◌∷◌, length, get_or, Option, Some, None, Ok, Err, refl, sym, ap, ◌∙◌, arith, rules}
use Rattle.std.specs.Prelude.{ℤ, pos, negsuc, decimal, option_and_then, option_map, ◌==◌}
use Rattle.std.specs.Fmt.{signed_decimal}
use Rattle.std.specs.List.{list_all}
use Rattle.std.proofs.lemmas.Bool.{eqb-true, eqb-false, ne_eqb, ltb-true, lt-ltb}
use Rattle.std.proofs.lemmas.List.{nil_from_length}
use Rattle.std.proofs.lemmas.Int.{ints}
use Rattle.std.specs.Int.{w64}
use mir.Val.{SFits}
use Rattle.std.proofs.lemmas.Option.{cond_some, same_Some, option_and_then_some}
use Rattle.std.proofs.lemmas.Fmt.{decimal_digit, decimal_nonempty, first_decimal, digits_decimal, digits_value-decimal, decimal-digits_value}
use Rattle.cg_text.specs.declared.fault.TextFault.{TextFault}
use Rattle.cg_text.specs.declared.fault.TextFault.TheVariants.{NotANumber, TooLarge}
use Rattle.cg_text.specs.Fault.{fitting, IsSpelling}
use Rattle.cg_text.specs.Numbers.{is_digit, value_of_digits, is_plain, plain_number, negative, plain_integer, fits_u64, fits_i64, read_u64, read_i64}
use Rattle.cg_text.specs.NumberLaws.{digits_are_numerals}

-- ---- what was read

-- a value that fits
pub fitting-ok : {X : Type 0} (spelling size : TextFault) (is_small : X → Bool) (o : Option X) (x : X) → fitting spelling size is_small o ≡ Ok x → (o ≡ Some x) × (is_small x ≡ true)
fitting-ok spelling size is_small None x e = absurd cc
fitting-ok {X = X} spelling size is_small (Some y) x e =
    let g = by_test (is_small y) y e in
    (ap (λ (v : X). Some v) g.1, rw (← g.1) g.0)
  where
    by_test : (b : Bool) (v : X) → cond b (Ok v) (Err size) ≡ Ok x → (b ≡ true) × (v ≡ x)
    by_test true v f = (refl, cc)
    by_test false v f = absurd cc

-- ---- digits

-- digits of which the first is 0 only where it stands alone
record ArePlain (digits : List ℕ) : Type 0 where
  all : list_all is_digit digits ≡ true
  some : 0 < length digits
  first : get_or digits 0 0 ≡ 48 → length digits ≡ 1

is_plain-from : (digits : List ℕ) → ArePlain digits → is_plain digits ≡ true
is_plain-from [] plain = absurd (omega (arith, plain.some))
is_plain-from (digit ∷ digits) plain = by_zero (eqb digit 48) refl
  where
    by_zero : (b : Bool) → eqb digit 48 ≡ b → is_plain (digit ∷ digits) ≡ true
    by_zero true e = let alone = plain.first (eqb-true digit 48 e) in let none : length digits ≡ 0 = omega arith in rw (e, none) refl
    by_zero false e = rw e plain.all

ArePlain-from : (digits : List ℕ) → is_plain digits ≡ true → ArePlain digits
ArePlain-from [] e = absurd cc
ArePlain-from (digit ∷ digits) e = by_zero (eqb digit 48) refl
  where
    by_zero : (b : Bool) → eqb digit 48 ≡ b → ArePlain (digit ∷ digits)
    by_zero true f =
        let alone : (length digits == 0) ≡ true = rw f at e in
        let none : digits ≡ [] = nil_from_length digits (eqb-true _ _ alone) in
        rw (eqb-true digit 48 f, none) record { all = refl; some = omega arith; first = λ zero. refl }
    by_zero false f = record { all = rw f at e; some = omega arith; first = λ zero. absurd (eqb-false digit 48 f zero) }

-- what is printed is plain, and has the number's value
decimal-plain : (n : ℕ) → n < 2 ^ 64 → plain_number (decimal n) ≡ Some n
decimal-plain n small = rw (is_plain-from (decimal n) record { all = digits_decimal digits_are_numerals n small; some = decimal_nonempty n small; first = first n small }, digits_value-decimal digits_are_numerals n small) refl
  where
    first : (m : ℕ) → m < 2 ^ 64 → get_or (decimal m) 0 0 ≡ 48 → length (decimal m) ≡ 1
    first zero lt is = rw (decimal_digit 0 (omega arith)) refl
    first (suc m) lt is = let above : 48 < get_or (decimal (suc m)) 0 0 = first_decimal (suc m) (omega arith) lt in absurd (omega arith)

-- what is plain is printed so
plain_number-decimal : (bytes : List ℕ) (n : ℕ) → n < 2 ^ 64 → plain_number bytes ≡ Some n → bytes ≡ decimal n
plain_number-decimal bytes n small e =
    let g = cond_some (is_plain bytes) (value_of_digits bytes) n e in
    let plain = ArePlain-from bytes g.0 in
    let same : decimal (value_of_digits bytes) ≡ bytes = decimal-digits_value digits_are_numerals bytes plain.all plain.some plain.first (rw g.1 small) in
    sym same ∙ ap decimal g.1

pub u64_spelling : IsSpelling (λ n. n < 2 ^ 64) decimal read_u64
u64_spelling = record {
  again = λ n small. rw (decimal-plain n small, lt-ltb n (2 ^ 64) small) refl;
  found = λ bytes n e.
      let g = fitting-ok NotANumber TooLarge fits_u64 (plain_number bytes) n e in
      let small = ltb-true n (2 ^ 64) g.1 in
      (small, plain_number-decimal bytes n small g.0);
}

-- ---- numbers with a sign

-- a digit is no sign
no_sign : (byte : ℕ) (bytes : List ℕ) → is_plain (byte ∷ bytes) ≡ true → eqb byte 45 ≡ false
no_sign byte bytes plain = ne_eqb byte 45 (λ sign. minus (rw sign at plain))
  where
    minus : is_plain (45 ∷ bytes) ≡ true → ⊥
    minus e = cc

plain_integer-plain : (bytes : List ℕ) → is_plain bytes ≡ true → plain_integer bytes ≡ option_map pos (plain_number bytes)
plain_integer-plain [] plain = absurd cc
plain_integer-plain (byte ∷ bytes) plain = rw (no_sign byte bytes plain) refl

plain_integer-signed : (z : ℤ) → SFits w64 z → plain_integer (signed_decimal z) ≡ Some z
plain_integer-signed (pos n) fits =
    let small : n < 2 ^ 64 = omega (arith, ints) in
    let number = decimal-plain n small in
    plain_integer-plain (decimal n) (cond_some (is_plain (decimal n)) (value_of_digits (decimal n)) n number).0 ∙ ap (option_map pos) number
plain_integer-signed (negsuc n) fits = let small : suc n < 2 ^ 64 = omega (arith, ints) in rw (decimal-plain (suc n) small) refl

fits_i64-from : (z : ℤ) → SFits w64 z → fits_i64 z ≡ true
fits_i64-from (pos n) fits = lt-ltb n (2 ^ 63) (omega (arith, ints))
fits_i64-from (negsuc n) fits = lt-ltb n (2 ^ 63) (omega (arith, ints))

fits_i64-to : (z : ℤ) → fits_i64 z ≡ true → SFits w64 z
fits_i64-to (pos n) e = let lt = ltb-true n (2 ^ 63) e in grind (arith, ints)
fits_i64-to (negsuc n) e = let lt = ltb-true n (2 ^ 63) e in grind (arith, ints)

-- the number below 0 that stands behind a sign
negative-is : (bytes : List ℕ) (z : ℤ) → fits_i64 z ≡ true → option_and_then negative (plain_number bytes) ≡ Some z → 45 ∷ bytes ≡ signed_decimal z
negative-is bytes z fits e = option_and_then_some negative (plain_number bytes) z e by_number
  where
    by_number : (m : ℕ) → plain_number bytes ≡ Some m → negative m ≡ Some z → 45 ∷ bytes ≡ signed_decimal z
    by_number zero p n = absurd cc
    by_number (suc m) p n =
        let is : negsuc m ≡ z = same_Some (negsuc m) z n in
        let lt : m < 2 ^ 63 = ltb-true m (2 ^ 63) (rw (← is) at fits) in
        rw (← is) (ap (λ (bs : List ℕ). 45 ∷ bs) (plain_number-decimal bytes (suc m) (omega arith) p))

positive-is : (bytes : List ℕ) (z : ℤ) → fits_i64 z ≡ true → option_map pos (plain_number bytes) ≡ Some z → bytes ≡ signed_decimal z
positive-is bytes z fits e = by_number (plain_number bytes) refl
  where
    by_number : (o : Option ℕ) → plain_number bytes ≡ o → bytes ≡ signed_decimal z
    by_number None p = let none : option_map pos None ≡ Some z = rw p at e in absurd cc
    by_number (Some m) p =
        let some : option_map pos (Some m) ≡ Some z = rw p at e in
        let is : pos m ≡ z = same_Some (pos m) z some in
        let lt : m < 2 ^ 63 = ltb-true m (2 ^ 63) (rw (← is) at fits) in
        rw (← is) (plain_number-decimal bytes m (omega arith) p)

plain_integer-found : (bytes : List ℕ) (z : ℤ) → fits_i64 z ≡ true → plain_integer bytes ≡ Some z → bytes ≡ signed_decimal z
plain_integer-found [] z fits e = absurd cc
plain_integer-found (byte ∷ bytes) z fits e = by_sign (eqb byte 45) refl
  where
    by_sign : (b : Bool) → eqb byte 45 ≡ b → byte ∷ bytes ≡ signed_decimal z
    by_sign true f = ap (λ (b : ℕ). b ∷ bytes) (eqb-true byte 45 f) ∙ negative-is bytes z fits (rw f at e)
    by_sign false f = positive-is (byte ∷ bytes) z fits (rw f at e)

pub i64_spelling : IsSpelling (SFits w64) signed_decimal read_i64
i64_spelling = record {
  again = λ z fits. rw (plain_integer-signed z fits, fits_i64-from z fits) refl;
  found = λ bytes z e.
      let g = fitting-ok NotANumber TooLarge fits_i64 (plain_integer bytes) z e in
      (fits_i64-to z g.1, plain_integer-found bytes z g.1 g.0);
}
