-- The tokens of a line that was printed token by token.
use Rattle.std.proofs.Common.{◌≡◌, ℕ, Bool, true, false, eqb, List, [], ◌∷◌, ◌++◌, refl, sym, ap, ◌∙◌, append_assoc, ◌&&◌, ◌||◌, not}
use Rattle.std.specs.List.{list_all}
use Rattle.std.proofs.lemmas.List.{append-nil}
use Rattle.cg_text.specs.Quoted.{is_special, escaped, quoted}
use Rattle.cg_text.specs.Tokens.{is_blank, is_separator, is_mark, tokens_from, tokens, InWord, InText, is_word, ends_word}
use Rattle.cg_text.proofs.Scanning.{tokens-word, word-goes_on, word-stops, word-ends, text-goes_on, text-stops, tokens-text}
use Rattle.cg_text.proofs.QuotedLaws.{rest_of, rest_of-cons}
use Rattle.std.proofs.lemmas.Bool.{or_parts}

-- a first part that holds, and the others
both : (a b : Bool) → (not a && b) ≡ true → (a ≡ false) × (b ≡ true)
both true b e = absurd cc
both false b e = (refl, e)

-- no mark is neither a blank nor a separator nor a quote
record IsNoMark (byte : ℕ) : Type 0 where
  no_blank : is_blank byte ≡ false
  no_separator : is_separator byte ≡ false
  no_quote : eqb byte 34 ≡ false

no_mark : (byte : ℕ) → is_mark byte ≡ false → IsNoMark byte
no_mark byte e =
    let a = or_parts (is_blank byte || is_separator byte) (eqb byte 34) e in
    let b = or_parts (is_blank byte) (is_separator byte) a.0 in
    record { no_blank = b.0; no_separator = b.1; no_quote = a.1 }

-- ---- words

word_end : (word rest : List ℕ) → ends_word rest ≡ true → tokens_from (InWord word) rest ≡ word ∷ tokens rest
word_end word [] ends = word-ends word
word_end word (byte ∷ rest) ends = word-stops word byte rest ends

word_behind : (front word rest : List ℕ) → list_all (λ b. not (is_mark b)) word ≡ true → ends_word rest ≡ true → tokens_from (InWord front) (word ++ rest) ≡ (front ++ word) ∷ tokens rest
word_behind front [] rest marks ends = rw (append-nil front) (word_end front rest ends)
word_behind front (byte ∷ word) rest marks ends =
    let parts = both (is_mark byte) (list_all (λ b. not (is_mark b)) word) marks in
    word-goes_on front byte (word ++ rest) parts.0 ∙ word_behind (front ++ byte ∷ []) word rest parts.1 ends ∙ ap (λ (t : List ℕ). t ∷ tokens rest) (append_assoc front (byte ∷ []) word)

pub tokens-bare : (word rest : List ℕ) → is_word word ≡ true → ends_word rest ≡ true → tokens (word ++ rest) ≡ word ∷ tokens rest
tokens-bare [] rest marks ends = absurd cc
tokens-bare (byte ∷ word) rest marks ends =
    let parts = both (is_mark byte) (list_all (λ b. not (is_mark b)) word) marks in
    let first = no_mark byte parts.0 in
    tokens-word byte (word ++ rest) first.no_blank first.no_separator first.no_quote ∙ word_behind [] (byte ∷ word) rest marks ends

-- ---- texts

-- a byte as it stands between quotes leaves the text open
escaped_behind : (front : List ℕ) (byte : ℕ) (rest : List ℕ) → tokens_from (InText front false) (escaped byte ++ rest) ≡ tokens_from (InText (front ++ escaped byte) false) rest
escaped_behind front byte rest = by_special (is_special byte) refl
  where
    by_special : (b : Bool) → is_special byte ≡ b → tokens_from (InText front false) (escaped byte ++ rest) ≡ tokens_from (InText (front ++ escaped byte) false) rest
    by_special true e = rw e (text-goes_on front false 92 (byte ∷ rest) refl ∙ text-goes_on (front ++ 92 ∷ []) true byte rest refl ∙ ap (λ (t : List ℕ). tokens_from (InText t false) rest) (append_assoc front (92 ∷ []) (byte ∷ [])))
    by_special false e =
        let tests = or_parts (eqb byte 34) (eqb byte 92) e in
        rw e (text-goes_on front false byte rest tests.0 ∙ ap (λ (b : Bool). tokens_from (InText (front ++ byte ∷ []) b) rest) tests.1)

text_behind : (front text rest : List ℕ) → tokens_from (InText front false) (rest_of text ++ rest) ≡ (front ++ rest_of text) ∷ tokens rest
text_behind front [] rest = text-stops front false 34 rest refl
text_behind front (byte ∷ text) rest =
    let grouped : rest_of (byte ∷ text) ++ rest ≡ escaped byte ++ (rest_of text ++ rest) = ap (λ (t : List ℕ). t ++ rest) (rest_of-cons byte text) ∙ append_assoc (escaped byte) (rest_of text) rest in
    let whole : (front ++ escaped byte) ++ rest_of text ≡ front ++ rest_of (byte ∷ text) = append_assoc front (escaped byte) (rest_of text) ∙ ap (λ (t : List ℕ). front ++ t) (sym (rest_of-cons byte text)) in
    ap (tokens_from (InText front false)) grouped ∙ escaped_behind front byte (rest_of text ++ rest) ∙ text_behind (front ++ escaped byte) text rest ∙ ap (λ (t : List ℕ). t ∷ tokens rest) whole

pub tokens-quoted : (text rest : List ℕ) → tokens (quoted text ++ rest) ≡ quoted text ∷ tokens rest
tokens-quoted text rest = tokens-text (rest_of text ++ rest) ∙ text_behind (34 ∷ []) text rest
