-- Numbers are told apart before anything that begins with no digit.
use Rattle.std.proofs.Common.{◌≡◌, ℕ, suc, ◌<◌, Bool, true, false, not, eqb, List, [], ◌∷◌, ◌++◌, length, refl, sym, ap, ◌∙◌, arith, rules, true≢false}
use Rattle.std.specs.Prelude.{ℤ, pos, negsuc, decimal}
use Rattle.std.proofs.lemmas.Bool.{eqb-true}
use Rattle.std.specs.Fmt.{signed_decimal}
use Rattle.std.specs.List.{list_all}
use Rattle.std.specs.Str.Parse.{digits_value}
use Rattle.std.proofs.lemmas.Fmt.{decimal_is_IsNumeral_wide}
use Rattle.cg_text.specs.Numbers.{is_digit}
use Rattle.cg_short.specs.Short.{IsShort, IsShortInt}
use Rattle.cg_laws.proofs.Separating.{Separates, begins_without, one, same_first, other_first, left_true, right_true}
use Rattle.cg_text.specs.NumberLaws.{digits_are_numerals}

-- no digit comes first
abbrev pub no_digit : List ℕ → Bool
no_digit u = begins_without is_digit u

all-digits : (n : ℕ) → IsShort n → list_all is_digit (decimal n) ≡ true
all-digits n short = digits_are_numerals.from (decimal n) (decimal_is_IsNumeral_wide n short).0.1

-- what is printed begins with a digit
pub begins-digit : (n : ℕ) → IsShort n → (digit : ℕ) × (digits : List ℕ) × (decimal n ≡ digit ∷ digits) × (is_digit digit ≡ true)
begins-digit n short = first (decimal n) (decimal_is_IsNumeral_wide n short).0.0 (all-digits n short)
  where
    first : (ds : List ℕ) → 0 < length ds → list_all is_digit ds ≡ true → (digit : ℕ) × (digits : List ℕ) × (ds ≡ digit ∷ digits) × (is_digit digit ≡ true)
    first [] some all = absurd (omega arith)
    first (d ∷ ds) some all = (d, ds, refl, left_true (is_digit d) (list_all is_digit ds) all)

no-both : (b : Bool) → not b ≡ true → b ≡ true → ⊥
no-both true none some = true≢false (sym none)
no-both false none some = true≢false (sym some)

-- what may follow begins with no digit
not-digit : (digit : ℕ) (digits u : List ℕ) → is_digit digit ≡ true → no_digit u ≡ true → u ≡ digit ∷ digits → ⊥
not-digit digit digits u is ends e = no-both (is_digit digit) (ap no_digit (sym e) ∙ ends) is

digits-apart : (ds es u v : List ℕ) → list_all is_digit ds ≡ true → list_all is_digit es ≡ true → no_digit u ≡ true → no_digit v ≡ true → ds ++ u ≡ es ++ v → (ds ≡ es) × (u ≡ v)
digits-apart [] [] u v a b eu ev e = (refl, e)
digits-apart [] (d ∷ es) u v a b eu ev e = absurd (not-digit d (es ++ v) u (left_true (is_digit d) (list_all is_digit es) b) eu e)
digits-apart (d ∷ ds) [] u v a b eu ev e = absurd (not-digit d (ds ++ u) v (left_true (is_digit d) (list_all is_digit ds) a) ev (sym e))
digits-apart (d ∷ ds) (c ∷ es) u v a b eu ev e =
    let first = same_first {A = ℕ} e in
    let rest = digits-apart ds es u v (right_true (is_digit d) (list_all is_digit ds) a) (right_true (is_digit c) (list_all is_digit es) b) eu ev first.1 in
    ((λ i. first.0 i ∷ rest.0 i), rest.1)

pub number : Separates no_digit IsShort decimal one
number = record {
  apart = λ m n u v hm hn eu ev e.
      let g = digits-apart (decimal m) (decimal n) u v (all-digits m hm) (all-digits n hn) eu ev e in
      (sym (decimal_is_IsNumeral_wide m hm).1 ∙ ap (digits_value 10) g.0 ∙ (decimal_is_IsNumeral_wide n hn).1, g.1);
}

-- a digit is another byte than one that is none
pub digit-other : (digit byte : ℕ) → is_digit digit ≡ true → is_digit byte ≡ false → eqb digit byte ≡ false
digit-other digit byte is other = by_test (eqb digit byte) refl
  where
    by_test : (b : Bool) → eqb digit byte ≡ b → b ≡ false
    by_test true e = absurd (true≢false (sym is ∙ ap is_digit (eqb-true digit byte e) ∙ other))
    by_test false e = refl

-- a number doesn't begin with a byte that is no digit
pub number-other : {A : Type 0} (n byte : ℕ) (u v : List ℕ) → IsShort n → is_digit byte ≡ false → decimal n ++ u ≡ byte ∷ v → A
number-other n byte u v short other e =
    let first = begins-digit n short in
    let is : first.0 ≡ byte = (same_first {A = ℕ} (ap (λ ds. ds ++ u) (sym first.2) ∙ e)).0 in
    absurd (true≢false (sym first.3 ∙ ap is_digit is ∙ other))

-- ---- with a sign

signed-apart : (m n : ℤ) (u v : List ℕ) → IsShortInt m → IsShortInt n → no_digit u ≡ true → no_digit v ≡ true → signed_decimal m ++ u ≡ signed_decimal n ++ v → (m ≡ n) × (u ≡ v)
signed-apart (pos m) (pos n) u v hm hn eu ev e = let g = number.apart m n u v hm hn eu ev e in ((λ i. pos (g.0 i)), g.1)
signed-apart (pos m) (negsuc n) u v hm hn eu ev e = number-other m 45 u (decimal (suc n) ++ v) hm refl e
signed-apart (negsuc m) (pos n) u v hm hn eu ev e = number-other n 45 v (decimal (suc m) ++ u) hn refl (sym e)
signed-apart (negsuc m) (negsuc n) u v hm hn eu ev e =
    let g = number.apart (suc m) (suc n) u v hm hn eu ev (same_first {A = ℕ} e).1 in
    let same : m ≡ n = omega (arith, g.0) in
    ((λ i. negsuc (same i)), g.1)

pub signed : Separates no_digit IsShortInt signed_decimal one
signed = record { apart = signed-apart }

-- nor with a byte that is neither, where it may have a sign
pub signed-other : {A : Type 0} (n : ℤ) (byte : ℕ) (u v : List ℕ) → IsShortInt n → is_digit byte ≡ false → eqb 45 byte ≡ false → signed_decimal n ++ u ≡ byte ∷ v → A
signed-other (pos n) byte u v short none sign e = number-other n byte u v short none e
signed-other (negsuc n) byte u v short none sign e = other_first sign e
