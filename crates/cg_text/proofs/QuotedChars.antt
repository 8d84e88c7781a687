-- What stands between quotes, character by character.
use Rattle.std.proofs.Common.{◌≡◌, ◌≢◌, ℕ, List, [], ◌∷◌, ◌++◌, get_or, refl, sym, ap, ◌∙◌, arith, inl, inr}
use Rattle.std.specs.List.{flat_map}
use Rattle.std.proofs.lemmas.Bool.{cases_lt}
use Rattle.std.proofs.lemmas.List.{append-nil}
use Rattle.std.proofs.lemmas.List.Concat.{flat_map-append}
use Rattle.std.proofs.lemmas.Str.{encode_ascii, encodes-append, inside_one}
use lib.Utf8.{encode, encodes}
use Rattle.cg_text.specs.Quoted.{escaped}
use Rattle.cg_text.specs.QuotedLaws.{escaped_plain, escaped-high}

-- a character that isn't special stands as it is
pub plain_char : (c : ℕ) → c ≢ 34 → c ≢ 92 → flat_map escaped (encode c) ≡ encode c
plain_char c quote backslash = elim (cases_lt c 128) [
  | inl small ↦ rw (encode_ascii c small, escaped_plain c quote backslash) refl
  | inr big ↦ escaped-high (encode c) (λ k below. elim (cases_lt (get_or (encode c) k 0) 128) [
    | inl low ↦ absurd (omega (arith, inside_one c [] (encode c) k (sym (append-nil (encode c))) below low))
    | inr high ↦ high
  ])
]

-- one character more
pub shown_more : (cs : List ℕ) (c : ℕ) → flat_map escaped (encodes cs) ++ flat_map escaped (encode c) ≡ flat_map escaped (encodes (cs ++ c ∷ []))
shown_more cs c =
    sym (flat_map-append escaped (encodes cs) (encode c))
    ∙ ap (flat_map escaped) (ap (λ (b : List ℕ). encodes cs ++ b) (sym (append-nil (encode c))) ∙ sym (encodes-append cs (c ∷ [])))
