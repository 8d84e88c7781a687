-- What is printed is UTF-8.
use Rattle.std.proofs.Common.{◌≡◌, ℕ, ◌<◌, ◌≤◌, Bool, true, false, cond, List, [], ◌∷◌, length, get_or, refl, sym, subst, arith, inl, inr}
use Rattle.std.specs.Prelude.{nat_lt}
use Rattle.std.specs.List.{flat_map, list_all}
use Rattle.std.specs.Str.{IsUtf8}
use Rattle.std.proofs.lemmas.Bool.{and_parts, cases_lt, ltb-true}
use Rattle.std.proofs.lemmas.List.{append-nil}
use Rattle.std.proofs.lemmas.List.Concat.{flat_map-append}
use Rattle.std.proofs.lemmas.Str.{IsUtf8-append, IsUtf8-nil, IsUtf8-encode, encode_ascii, inside_one}
use lib.Utf8.{scalar, scalars, encode, encodes}
use Rattle.cg_text.specs.Quoted.{is_special, escaped, quoted}
use Rattle.cg_base.specs.TextLaws.{ascii_then}
use Rattle.cg_text.specs.QuotedLaws.{escaped-high}

-- a byte that is a character by itself
abbrev pub is_ascii : ℕ → Bool
is_ascii byte = nat_lt byte 128

pub IsUtf8-ascii : (bytes : List ℕ) → list_all is_ascii bytes ≡ true → IsUtf8 bytes
IsUtf8-ascii [] e = IsUtf8-nil
IsUtf8-ascii (byte ∷ bytes) e =
    let parts = and_parts (is_ascii byte) (list_all is_ascii bytes) e in
    ascii_then byte bytes (ltb-true byte 128 parts.0) (IsUtf8-ascii bytes parts.1)

escaped_ascii : (byte : ℕ) → byte < 128 → IsUtf8 (escaped byte)
escaped_ascii byte small = by_special (is_special byte) where
  by_special : (b : Bool) → IsUtf8 (cond b (92 ∷ byte ∷ []) (byte ∷ []))
  by_special true = ascii_then 92 (byte ∷ []) (omega arith) (ascii_then byte [] small IsUtf8-nil)
  by_special false = ascii_then byte [] small IsUtf8-nil

one_char : (c : ℕ) → scalar c ≡ true → IsUtf8 (flat_map escaped (encode c))
one_char c ok = elim (cases_lt c 128) [
  | inl small ↦ rw (encode_ascii c small, append-nil (escaped c)) (escaped_ascii c small)
  | inr big ↦
      let high : (k : ℕ) → k < length (encode c) → 128 ≤ get_or (encode c) k 0 = λ k below. elim (cases_lt (get_or (encode c) k 0) 128) [
        | inl low ↦ absurd (omega (arith, inside_one c [] (encode c) k (sym (append-nil (encode c))) below low))
        | inr h ↦ h
      ] in
      subst IsUtf8 (sym (escaped-high (encode c) high)) (IsUtf8-encode c ok)
]

all_chars : (cs : List ℕ) → scalars cs ≡ true → IsUtf8 (flat_map escaped (encodes cs))
all_chars [] e = IsUtf8-nil
all_chars (c ∷ cs) e =
    let p = and_parts _ _ e in
    subst IsUtf8 (sym (flat_map-append escaped (encode c) (encodes cs))) (IsUtf8-append _ _ (one_char c p.0) (all_chars cs p.1))

pub IsUtf8-quoted : (t : List ℕ) → IsUtf8 t → IsUtf8 (quoted t)
IsUtf8-quoted t utf8 = ascii_then 34 _ (omega arith) (IsUtf8-append _ _ (subst (λ (s : List ℕ). IsUtf8 (flat_map escaped s)) utf8.1.1 (all_chars utf8.0 utf8.1.0)) (IsUtf8-ascii (34 ∷ []) refl))
