-- A text between quotes is read as it is printed, and no other way.
use Rattle.std.proofs.Common.{◌≡◌, ℕ, ◌≤◌, Bool, true, false, cond, eqb, List, [], ◌∷◌, ◌++◌, length, Option, Some, None, refl, sym, ap, append_assoc, ◌&&◌, not, ◌⊎◌, inl, inr}
use Rattle.std.specs.Prelude.{flat_map, nat_le}
use Rattle.std.specs.Str.{IsUtf8, is_utf8}
use Rattle.std.proofs.lemmas.Bool.{eqb-true, leb-true, le-leb, or_parts, not-false}
use Rattle.std.proofs.lemmas.List.Concat.{flat_map-cons}
use Rattle.std.proofs.lemmas.Option.{cond_some, none-some, same_Some, option_and_then_some}
use Rattle.std.proofs.lemmas.Str.{IsUtf8-from_is_utf8, is_utf8-from_IsUtf8}
use Rattle.cg_text.specs.declared.fault.TextFault.TheVariants.{BadQuote, TooLong}
use Rattle.cg_text.specs.Fault.{IsSpelling}
use Rattle.cg_text.specs.Quoted.{is_special, is_control, escaped, quoted, closed, onto, kept, text_up_to_quote, text_between, if_text, quoted_text, read_quoted}
use Rattle.cg_text.specs.Printable.{is_printable}
use Rattle.cg_text.proofs.NumberLaws.{fitting-ok}
use Rattle.cg_text.proofs.Scanning.{one_of}

-- the bytes up to the closing quote, as they are printed
abbrev pub rest_of : List ℕ → List ℕ
rest_of text = flat_map escaped text ++ 34 ∷ []

-- a byte and the text behind it
pub rest_of-cons : (byte : ℕ) (text : List ℕ) → rest_of (byte ∷ text) ≡ escaped byte ++ rest_of text
rest_of-cons byte text = rw flat_map-cons (append_assoc (escaped byte) (flat_map escaped text) (34 ∷ []))

-- ---- what is printed is read

-- a byte that has no backslash before it
plain_again : (byte : ℕ) (rest text : List ℕ) → is_special byte ≡ false → is_control byte ≡ false → text_up_to_quote false rest ≡ Some text
    → text_up_to_quote false (byte ∷ rest) ≡ Some (byte ∷ text)
plain_again byte rest text plain printed e =
    let tests = or_parts (eqb byte 34) (eqb byte 92) plain in
    rw (tests.0, tests.1, printed, e) refl

-- a byte behind its backslash
special_again : (byte : ℕ) (rest text : List ℕ) → is_special byte ≡ true → text_up_to_quote false rest ≡ Some text → text_up_to_quote false (92 ∷ byte ∷ rest) ≡ Some (byte ∷ text)
special_again byte rest text special e = rw (special, e) refl

text_again : (text : List ℕ) → is_printable text ≡ true → text_up_to_quote false (rest_of text) ≡ Some text
text_again [] printable = refl
text_again (byte ∷ text) printable =
    let parts = both (is_control byte) (is_printable text) printable in
    rw rest_of-cons (by_special (is_special byte) refl parts.0 (text_again text parts.1))
  where
    both : (a b : Bool) → (not a && b) ≡ true → (a ≡ false) × (b ≡ true)
    both true b f = absurd cc
    both false b f = (refl, f)

    by_special : (b : Bool) → is_special byte ≡ b → is_control byte ≡ false → text_up_to_quote false (rest_of text) ≡ Some text → text_up_to_quote false (escaped byte ++ rest_of text) ≡ Some (byte ∷ text)
    by_special true special printed e = rw special (special_again byte (rest_of text) text special e)
    by_special false plain printed e = rw plain (plain_again byte (rest_of text) text plain printed e)

-- ---- what is read is printed so

-- the text is printable, and these are its bytes up to the closing quote
record Spelled (text bytes : List ℕ) : Type 0 where
  bytes_are : bytes ≡ rest_of text
  printable : is_printable text ≡ true

-- the same of bytes of which the first may stand behind a backslash
abbrev SpelledFrom : Bool → List ℕ → List ℕ → Type 0
SpelledFrom false text bytes = Spelled text bytes
SpelledFrom true [] bytes = ⊥
SpelledFrom true (byte ∷ text) bytes = (is_special byte ≡ true) × (rest : List ℕ) × (bytes ≡ byte ∷ rest) × Spelled text rest

-- a test that leads to a text
either : (b : Bool) (x y : Option (List ℕ)) (text : List ℕ) → cond b x y ≡ Some text → ((b ≡ true) × (x ≡ Some text)) ⊎ ((b ≡ false) × (y ≡ Some text))
either true x y text e = inl (refl, e)
either false x y text e = inr (refl, e)

closed-is : (bytes text : List ℕ) → closed bytes ≡ Some text → (bytes ≡ []) × (text ≡ [])
closed-is [] text e = (refl, sym (same_Some [] text e))
closed-is (byte ∷ bytes) text e = absurd cc

onto-is : (front : List ℕ) (o : Option (List ℕ)) (text : List ℕ) → onto front o ≡ Some text → (rest : List ℕ) × (o ≡ Some rest) × (text ≡ front ++ rest)
onto-is front None text e = absurd cc
onto-is front (Some rest) text e = (rest, refl, sym (same_Some (front ++ rest) text e))

-- a quote or a backslash is no control byte
special-printed : (byte : ℕ) → is_special byte ≡ true → is_control byte ≡ false
special-printed byte special = one_of (λ b. is_control b ≡ false) byte 34 92 special refl refl

-- a byte behind its backslash, and the text behind it
Spelled-special : (byte : ℕ) (text rest : List ℕ) → is_special byte ≡ true → Spelled text rest → Spelled (byte ∷ text) (92 ∷ byte ∷ rest)
Spelled-special byte text rest special s = record {
  bytes_are = rw (rest_of-cons, special) (ap (λ (t : List ℕ). 92 ∷ byte ∷ t) s.bytes_are);
  printable = rw (special-printed byte special) s.printable;
}

Spelled-plain : (byte : ℕ) (text rest : List ℕ) → eqb byte 34 ≡ false → eqb byte 92 ≡ false → is_control byte ≡ false → Spelled text rest → Spelled (byte ∷ text) (byte ∷ rest)
Spelled-plain byte text rest no_quote no_backslash printed s = record {
  bytes_are = rw (rest_of-cons, no_quote, no_backslash) (ap (λ (t : List ℕ). byte ∷ t) s.bytes_are);
  printable = rw printed s.printable;
}

-- behind a backslash stands one of the two bytes that have one
Spelled-escaped : (text rest : List ℕ) → SpelledFrom true text rest → Spelled text (92 ∷ rest)
Spelled-escaped [] rest s = absurd s
Spelled-escaped (byte ∷ text) rest s = rw s.2 (Spelled-special byte text s.1 s.0 s.3)

-- what is known of the bytes behind the first
abbrev IsFoundBehind : List ℕ → Type 0
IsFoundBehind bytes = (is_escaped : Bool) (text : List ℕ) → text_up_to_quote is_escaped bytes ≡ Some text → SpelledFrom is_escaped text bytes

found_escaped : (byte : ℕ) (bytes text : List ℕ) → IsFoundBehind bytes → text_up_to_quote true (byte ∷ bytes) ≡ Some text → SpelledFrom true text (byte ∷ bytes)
found_escaped byte bytes text behind e =
    elim (either (not (is_special byte)) None (onto (byte ∷ []) (text_up_to_quote false bytes)) text e) [
      | inl refused ↦ absurd (none-some text refused.1)
      | inr goes ↦
          let g = onto-is (byte ∷ []) (text_up_to_quote false bytes) text goes.1 in
          rw g.2 (not-false (is_special byte) goes.0, bytes, refl, behind false g.0 g.1)
    ]

found_unescaped : (byte : ℕ) (bytes text : List ℕ) → IsFoundBehind bytes → eqb byte 34 ≡ false → is_control byte ≡ false → (b : Bool) → eqb byte 92 ≡ b
    → onto (kept b byte) (text_up_to_quote b bytes) ≡ Some text → Spelled text (byte ∷ bytes)
found_unescaped byte bytes text behind no_quote printed true backslash e =
    let g = onto-is [] (text_up_to_quote true bytes) text e in
    rw (eqb-true byte 92 backslash, g.2) (Spelled-escaped g.0 bytes (behind true g.0 g.1))
found_unescaped byte bytes text behind no_quote printed false no_backslash e =
    let g = onto-is (byte ∷ []) (text_up_to_quote false bytes) text e in
    rw g.2 (Spelled-plain byte g.0 bytes no_quote no_backslash printed (behind false g.0 g.1))

found_first : (byte : ℕ) (bytes text : List ℕ) → IsFoundBehind bytes → text_up_to_quote false (byte ∷ bytes) ≡ Some text → Spelled text (byte ∷ bytes)
found_first byte bytes text behind e =
    elim (either (eqb byte 34) (closed bytes) (cond (is_control byte) None (onto (kept (eqb byte 92) byte) (text_up_to_quote (eqb byte 92) bytes))) text e) [
      | inl ends ↦
          let g = closed-is bytes text ends.1 in
          rw (eqb-true byte 34 ends.0, g.0, g.1) record { bytes_are = refl; printable = refl }
      | inr goes ↦
          elim (either (is_control byte) None (onto (kept (eqb byte 92) byte) (text_up_to_quote (eqb byte 92) bytes)) text goes.1) [
            | inl refused ↦ absurd (none-some text refused.1)
            | inr stands ↦ found_unescaped byte bytes text behind goes.0 stands.0 (eqb byte 92) refl stands.1
          ]
    ]

text_found : (is_escaped : Bool) (bytes text : List ℕ) → text_up_to_quote is_escaped bytes ≡ Some text → SpelledFrom is_escaped text bytes
text_found is_escaped [] text e = absurd cc
text_found true (byte ∷ bytes) text e = found_escaped byte bytes text (λ is_escaped t f. text_found is_escaped bytes t f) e
text_found false (byte ∷ bytes) text e = found_first byte bytes text (λ is_escaped t f. text_found is_escaped bytes t f) e

-- ---- both ways

between_found : (bytes text : List ℕ) → text_between bytes ≡ Some text → (bytes ≡ quoted text) × (is_printable text ≡ true)
between_found [] text e = absurd cc
between_found (byte ∷ bytes) text e =
    elim (either (eqb byte 34) (text_up_to_quote false bytes) None text e) [
      | inl begins ↦
          let s = text_found false bytes text begins.1 in
          (rw (eqb-true byte 34 begins.0, s.bytes_are) refl, s.printable)
      | inr other ↦ absurd (none-some text other.1)
    ]

pub quoted_text-again : (text : List ℕ) → IsUtf8 text → is_printable text ≡ true → quoted_text (quoted text) ≡ Some text
quoted_text-again text utf8 printable = rw (text_again text printable, is_utf8-from_IsUtf8 text utf8) refl

pub quoted_text-found : (bytes text : List ℕ) → quoted_text bytes ≡ Some text → IsUtf8 text × (is_printable text ≡ true) × (bytes ≡ quoted text)
quoted_text-found bytes text e = option_and_then_some if_text (text_between bytes) text e by_text
  where
    by_text : (t : List ℕ) → text_between bytes ≡ Some t → if_text t ≡ Some text → IsUtf8 text × (is_printable text ≡ true) × (bytes ≡ quoted text)
    by_text t between is =
        let g = cond_some (is_utf8 t) t text is in
        let f = between_found bytes t between in
        (rw (← g.1) (IsUtf8-from_is_utf8 t g.0), rw (← g.1) f.1, rw (← g.1) f.0)

pub quoted_spelling : (max : ℕ) → IsSpelling (λ text. IsUtf8 text × (is_printable text ≡ true) × (length text ≤ max)) quoted (read_quoted max)
quoted_spelling max = record {
  again = λ text has. rw (quoted_text-again text has.0 has.1, le-leb (length text) max has.2) refl;
  found = λ bytes text e.
      let g = fitting-ok BadQuote TooLong (λ t. nat_le (length t) max) (quoted_text bytes) text e in
      let f = quoted_text-found bytes text g.0 in
      ((f.0, f.1, leb-true (length text) max g.1), f.2);
}
