-- Identifiers with weights are read as they are spelled.
use Rattle.std.proofs.Common.{◌≡◌, ℕ, ◌^◌, ◌<◌, Bool, true, false, cond, eqb, List, [], ◌∷◌, ◌++◌, length, Some, None, Result, Ok, Err, refl, sym, ap, ◌∙◌, arith}
use Rattle.std.specs.Prelude.{decimal, not}
use Rattle.std.specs.List.{list_all, slice_split, join_with_byte}
use Rattle.std.proofs.lemmas.Bool.{eqb-true, eqb-false, ne_eqb, leb-true, and_parts, not-true}
use Rattle.std.proofs.lemmas.List.{append-nil, nil_from_length}
use Rattle.std.proofs.lemmas.List.Splits.{join_with_byte-slice_split}
use Rattle.cg_base.specs.declared.weighted.Weighted.{Weighted}
use Rattle.cg_base.specs.Text.{weighted_text, pieces_of}
use Rattle.cg_text.specs.declared.fault.TextFault.TheVariants.{NotANumber, TooLarge}
use Rattle.cg_text.specs.Fault.{fitting}
use Rattle.cg_text.specs.Numbers.{is_digit, value_of_digits, is_plain, fits_u64, read_u64}
use Rattle.cg_schedule.specs.declared.fault.LineFault.{LineFault}
use Rattle.cg_schedule.specs.Fault.{bad_number}
use Rattle.cg_schedule.specs.Part.{number, with_weight, weighted_of, weighted}
use Rattle.cg_schedule.specs.Limits.{IsWithin, IsMember}
use Rattle.cg_schedule.specs.PartLaws.{IsToken}
use Rattle.cg_schedule.proofs.TokenParts.{TextFacts, number_token}
use Rattle.cg_base.specs.EachLaws.{list_all_kept_by}

-- ---- digits

-- a number is digits, at least one
plain-digits : (bytes : List ℕ) → is_plain bytes ≡ true → (list_all is_digit bytes ≡ true) × (0 < length bytes)
plain-digits [] e = absurd cc
plain-digits (byte ∷ bytes) e = (by_zero (eqb byte 48) refl e, omega arith) where
  by_zero : (b : Bool) → eqb byte 48 ≡ b → cond b (eqb (length bytes) 0) (list_all is_digit (byte ∷ bytes)) ≡ true → list_all is_digit (byte ∷ bytes) ≡ true
  by_zero false zero f = f
  by_zero true zero f = rw (eqb-true byte 48 zero, nil_from_length bytes (eqb-true (length bytes) 0 f)) refl

read_u64-plain : (bytes : List ℕ) (n : ℕ) → read_u64 bytes ≡ Ok n → is_plain bytes ≡ true
read_u64-plain bytes n e = by_plain (is_plain bytes) refl e where
  by_plain : (b : Bool) → is_plain bytes ≡ b → fitting NotANumber TooLarge fits_u64 (cond b (Some (value_of_digits bytes)) None) ≡ Ok n → b ≡ true
  by_plain true plain f = refl
  by_plain false plain f = absurd cc

pub decimal-digits : TextFacts → (n : ℕ) → n < 2 ^ 64 → (list_all is_digit (decimal n) ≡ true) × (0 < length (decimal n))
decimal-digits facts n small = plain-digits (decimal n) (read_u64-plain (decimal n) n (facts.unsigned.again n small))

-- ---- pieces

-- without a separator there is one piece
slice_split-alone : (p : ℕ → Bool) (bytes : List ℕ) → list_all (λ byte. not (p byte)) bytes ≡ true → slice_split p bytes ≡ bytes ∷ []
slice_split-alone p [] e = refl
slice_split-alone p (byte ∷ bytes) e =
    let parts = and_parts (not (p byte)) (list_all (λ b. not (p b)) bytes) e in
    rw (not-true (p byte) parts.0, slice_split-alone p bytes parts.1) refl

-- at the first separator a piece ends
slice_split-cut : (p : ℕ → Bool) (bytes : List ℕ) (separator : ℕ) (rest : List ℕ) → list_all (λ byte. not (p byte)) bytes ≡ true → p separator ≡ true
    → slice_split p (bytes ++ separator ∷ rest) ≡ bytes ∷ slice_split p rest
slice_split-cut p [] separator rest e is = rw is refl
slice_split-cut p (byte ∷ bytes) separator rest e is =
    let parts = and_parts (not (p byte)) (list_all (λ b. not (p b)) bytes) e in
    rw (not-true (p byte) parts.0, slice_split-cut p bytes separator rest parts.1 is) refl

digit_no_star : (byte : ℕ) → is_digit byte ≡ true → not (eqb byte 42) ≡ true
digit_no_star byte e =
    let from = leb-true 48 byte (and_parts _ _ e).0 in
    rw (ne_eqb byte 42 (λ star. absurd (omega arith))) refl

-- ---- members

with_weight-ok : (a b : Result ℕ LineFault) (m : Weighted) → with_weight a b ≡ Ok m → (a ≡ Ok m.id) × (b ≡ Ok m.weight)
with_weight-ok (Ok id) (Ok weight) m e =
    let same : record { id = id; weight = weight } ≡ m = known (record { id = id; weight = weight }) m e in
    (ap (λ (v : Weighted). Ok v.id) same, ap (λ (v : Weighted). Ok v.weight) same)
  where
    known : (v w : Weighted) → with_weight (Ok v.id) (Ok v.weight) ≡ Ok w → v ≡ w
    known v w f = cc
with_weight-ok (Ok id) (Err fault) m e = absurd cc
with_weight-ok (Err fault) weight m e = absurd cc

pub weighted_token : TextFacts → IsToken IsMember (λ m. weighted_text m.id m.weight) weighted
unfolding weighted
weighted_token facts = record { again = λ m has. again m has (eqb m.weight 1) refl; found = λ m token e. found m token (pieces_of 42 token) refl e } where
  identifiers : IsToken (IsWithin 1 32) decimal (number 1 32)
  identifiers = number_token facts 1 32 (omega arith)

  weights : IsToken (IsWithin 2 255) decimal (number 2 255)
  weights = number_token facts 2 255 (omega arith)

  no_star : (n : ℕ) → n < 2 ^ 64 → list_all (λ byte. not (eqb byte 42)) (decimal n) ≡ true
  no_star n small = list_all_kept_by is_digit (λ byte. not (eqb byte 42)) digit_no_star (decimal n) (decimal-digits facts n small).0

  again : (m : Weighted) → IsMember m → (b : Bool) → eqb m.weight 1 ≡ b → weighted (decimal m.id ++ cond b [] (42 ∷ decimal m.weight)) ≡ Ok m
  again m has true one =
      let id = identifiers.again m.id has.0 in
      rw (append-nil (decimal m.id), slice_split-alone (λ byte. eqb byte 42) (decimal m.id) (no_star m.id (omega (arith, has.0.1))), id, ← eqb-true m.weight 1 one) refl
  again m has false more =
      let id = identifiers.again m.id has.0 in
      let not_one = eqb-false m.weight 1 more in
      let weight = weights.again m.weight (omega (arith, has.1.0, not_one), has.1.1) in
      rw (
        slice_split-cut (λ byte. eqb byte 42) (decimal m.id) 42 (decimal m.weight) (no_star m.id (omega (arith, has.0.1))) refl,
        slice_split-alone (λ byte. eqb byte 42) (decimal m.weight) (no_star m.weight (omega (arith, has.1.1))),
        id,
        weight,
      ) refl

  found : (m : Weighted) (token : List ℕ) (pieces : List (List ℕ)) → pieces_of 42 token ≡ pieces → weighted_of pieces ≡ Ok m → IsMember m × (token ≡ weighted_text m.id m.weight)
  found m token [] split e = absurd cc
  found m token (piece ∷ []) split e =
      let g = with_weight-ok (number 1 32 piece) (Ok 1) m e in
      let f = identifiers.found m.id piece g.0 in
      let one : 1 ≡ m.weight = cc in
      let whole : token ≡ piece = sym (join_with_byte-slice_split 42 token) ∙ ap (join_with_byte 42) split in
      rw (← one) ((f.0, (omega arith, omega arith)), whole ∙ f.1 ∙ sym (append-nil (decimal m.id)))
  found m token (piece ∷ weight ∷ []) split e =
      let g = with_weight-ok (number 1 32 piece) (number 2 255 weight) m e in
      let f = identifiers.found m.id piece g.0 in
      let w = weights.found m.weight weight g.1 in
      let whole : token ≡ piece ++ 42 ∷ weight = sym (join_with_byte-slice_split 42 token) ∙ ap (join_with_byte 42) split in
      let not_one : eqb m.weight 1 ≡ false = ne_eqb m.weight 1 (λ one. absurd (omega (arith, w.0.0))) in
      ((f.0, (omega (arith, w.0.0), w.0.1)), rw not_one (rw (f.1, w.1) at whole))
  found m token (piece ∷ weight ∷ more ∷ pieces) split e = absurd (refused (with_weight-ok (number 1 32 piece) (Err bad_number) m e).1) where
    refused : Err bad_number ≡ Ok m.weight → ⊥
    refused f = cc
