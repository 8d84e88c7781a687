-- How the tokens of a line come, from the left.
use Rattle.std.proofs.Common.{◌≡◌, ℕ, ◌+◌, ◌<◌, ◌≤◌, Bool, true, false, eqb, List, [], ◌∷◌, ◌++◌, length, get_or, take, drop, drop-cons, drop_of_length-le, refl, sym, ap, ◌∙◌, add-one, arith, ◌||◌}
use Rattle.std.proofs.Math.Seq.{take-suc}
use Rattle.std.proofs.lemmas.Bool.{eqb-true, ne_eqb}
use Rattle.cg_text.specs.Quoted.{ends_text, escapes}
use Rattle.cg_text.specs.Tokens.{is_blank, is_separator, is_mark, tokens_from, tokens, InWord, InText}

-- ---- a byte at a time

-- a byte that is one of two
pub one_of : (P : ℕ → Type 0) (byte x y : ℕ) → (eqb byte x || eqb byte y) ≡ true → P x → P y → P byte
one_of P byte x y either at_x at_y = by_x (eqb byte x) refl
  where
    by_y : (b : Bool) → eqb byte y ≡ b → eqb byte x ≡ false → P byte
    by_y true e f = rw (eqb-true byte y e) at_y
    by_y false e f = absurd cc

    by_x : (b : Bool) → eqb byte x ≡ b → P byte
    by_x true e = rw (eqb-true byte x e) at_x
    by_x false e = by_y (eqb byte y) refl e

pub tokens-none : tokens [] ≡ []
unfolding tokens_from
tokens-none = refl

pub tokens-blank : (byte : ℕ) (bytes : List ℕ) → is_blank byte ≡ true → tokens (byte ∷ bytes) ≡ tokens bytes
unfolding tokens_from
tokens-blank byte bytes blank = one_of (λ b. tokens (b ∷ bytes) ≡ tokens bytes) byte 32 9 blank refl refl

pub tokens-separator : (byte : ℕ) (bytes : List ℕ) → is_separator byte ≡ true → tokens (byte ∷ bytes) ≡ (byte ∷ []) ∷ tokens bytes
unfolding tokens_from
tokens-separator byte bytes separator = one_of (λ b. tokens (b ∷ bytes) ≡ (b ∷ []) ∷ tokens bytes) byte 59 63 separator refl refl

pub tokens-text : (bytes : List ℕ) → tokens (34 ∷ bytes) ≡ tokens_from (InText (34 ∷ []) false) bytes
unfolding tokens_from
tokens-text bytes = refl

pub tokens-word : (byte : ℕ) (bytes : List ℕ) → is_blank byte ≡ false → is_separator byte ≡ false → eqb byte 34 ≡ false → tokens (byte ∷ bytes) ≡ tokens_from (InWord []) (byte ∷ bytes)
unfolding tokens_from
tokens-word byte bytes no_blank no_separator no_quote = rw (no_blank, no_separator, no_quote) refl

-- a word goes on with each byte that is no mark, and stands before a mark or the end
pub word-goes_on : (word : List ℕ) (byte : ℕ) (bytes : List ℕ) → is_mark byte ≡ false → tokens_from (InWord word) (byte ∷ bytes) ≡ tokens_from (InWord (word ++ byte ∷ [])) bytes
unfolding tokens_from
word-goes_on word byte bytes no_mark = rw no_mark refl

pub word-stops : (word : List ℕ) (byte : ℕ) (bytes : List ℕ) → is_mark byte ≡ true → tokens_from (InWord word) (byte ∷ bytes) ≡ word ∷ tokens (byte ∷ bytes)
unfolding tokens_from
word-stops word byte bytes mark = rw mark refl

pub word-ends : (word : List ℕ) → tokens_from (InWord word) [] ≡ word ∷ tokens []
unfolding tokens_from
word-ends word = refl

-- a text goes on up to the byte that ends it
pub text-goes_on : (text : List ℕ) (is_escaped : Bool) (byte : ℕ) (bytes : List ℕ) → ends_text is_escaped byte ≡ false
    → tokens_from (InText text is_escaped) (byte ∷ bytes) ≡ tokens_from (InText (text ++ byte ∷ []) (escapes is_escaped byte)) bytes
unfolding tokens_from
text-goes_on text is_escaped byte bytes goes = rw goes refl

pub text-stops : (text : List ℕ) (is_escaped : Bool) (byte : ℕ) (bytes : List ℕ) → ends_text is_escaped byte ≡ true → tokens_from (InText text is_escaped) (byte ∷ bytes) ≡ (text ++ byte ∷ []) ∷ tokens bytes
unfolding tokens_from
text-stops text is_escaped byte bytes stops = rw stops refl

pub text-ends : (text : List ℕ) (is_escaped : Bool) → tokens_from (InText text is_escaped) [] ≡ text ∷ tokens []
unfolding tokens_from
text-ends text is_escaped = refl

-- ---- at a place of the line

cut_at : (line : List ℕ) (i : ℕ) → i < length line → drop i line ≡ get_or line i 0 ∷ drop (i + 1) line
cut_at line i lt = rw add-one (drop-cons line i 0 lt)

longer : (line : List ℕ) (i : ℕ) → i < length line → take (i + 1) line ≡ take i line ++ get_or line i 0 ∷ []
longer line i lt = rw add-one (take-suc line i 0 lt)

-- a blank before the token
pub blank_at : (line : List ℕ) (i : ℕ) (total : List (List ℕ)) → i < length line → is_blank (get_or line i 0) ≡ true → tokens (drop i line) ≡ total → tokens (drop (i + 1) line) ≡ total
blank_at line i total lt blank so_far = sym (rw (cut_at line i lt) (tokens-blank (get_or line i 0) (drop (i + 1) line) blank)) ∙ so_far

-- in a word
pub word_goes_on_at : (line : List ℕ) (i : ℕ) (total : List (List ℕ)) → i < length line → is_mark (get_or line i 0) ≡ false
    → tokens_from (InWord (take i line)) (drop i line) ≡ total → tokens_from (InWord (take (i + 1) line)) (drop (i + 1) line) ≡ total
word_goes_on_at line i total lt no_mark so_far =
    let step : tokens_from (InWord (take i line)) (drop i line) ≡ tokens_from (InWord (take (i + 1) line)) (drop (i + 1) line) = rw (cut_at line i lt, longer line i lt) (word-goes_on (take i line) (get_or line i 0) (drop (i + 1) line) no_mark) in
    sym step ∙ so_far

pub word_stops_at : (line : List ℕ) (i : ℕ) (total : List (List ℕ)) → i < length line → is_mark (get_or line i 0) ≡ true
    → tokens_from (InWord (take i line)) (drop i line) ≡ total → total ≡ take i line ∷ tokens (drop i line)
word_stops_at line i total lt mark so_far =
    let step : tokens_from (InWord (take i line)) (drop i line) ≡ take i line ∷ tokens (drop i line) = rw (cut_at line i lt) (word-stops (take i line) (get_or line i 0) (drop (i + 1) line) mark) in
    sym so_far ∙ step

pub word_ends_at : (line : List ℕ) (i : ℕ) (total : List (List ℕ)) → i ≤ length line → length line ≤ i
    → tokens_from (InWord (take i line)) (drop i line) ≡ total → total ≡ take (length line) line ∷ tokens (drop (length line) line)
word_ends_at line i total le ge so_far =
    let at_end : i ≡ length line = omega arith in
    let none : drop i line ≡ [] = drop_of_length-le line ge in
    let step : tokens_from (InWord (take i line)) (drop i line) ≡ take i line ∷ tokens (drop i line) = rw none (word-ends (take i line)) in
    rw (← at_end) (sym so_far ∙ step)

-- in a text
pub text_goes_on_at : (line : List ℕ) (i : ℕ) (is_escaped : Bool) (total : List (List ℕ)) → i < length line → ends_text is_escaped (get_or line i 0) ≡ false
    → tokens_from (InText (take i line) is_escaped) (drop i line) ≡ total → tokens_from (InText (take (i + 1) line) (escapes is_escaped (get_or line i 0))) (drop (i + 1) line) ≡ total
text_goes_on_at line i is_escaped total lt goes so_far =
    let step : tokens_from (InText (take i line) is_escaped) (drop i line) ≡ tokens_from (InText (take (i + 1) line) (escapes is_escaped (get_or line i 0))) (drop (i + 1) line) = rw (cut_at line i lt, longer line i lt) (text-goes_on (take i line) is_escaped (get_or line i 0) (drop (i + 1) line) goes) in
    sym step ∙ so_far

pub text_stops_at : (line : List ℕ) (i : ℕ) (is_escaped : Bool) (total : List (List ℕ)) → i < length line → ends_text is_escaped (get_or line i 0) ≡ true
    → tokens_from (InText (take i line) is_escaped) (drop i line) ≡ total → total ≡ take (i + 1) line ∷ tokens (drop (i + 1) line)
text_stops_at line i is_escaped total lt stops so_far =
    let step : tokens_from (InText (take i line) is_escaped) (drop i line) ≡ take (i + 1) line ∷ tokens (drop (i + 1) line) = rw (cut_at line i lt, longer line i lt) (text-stops (take i line) is_escaped (get_or line i 0) (drop (i + 1) line) stops) in
    sym so_far ∙ step

pub text_ends_at : (line : List ℕ) (i : ℕ) (is_escaped : Bool) (total : List (List ℕ)) → i ≤ length line → length line ≤ i
    → tokens_from (InText (take i line) is_escaped) (drop i line) ≡ total → total ≡ take (length line) line ∷ tokens (drop (length line) line)
text_ends_at line i is_escaped total le ge so_far =
    let at_end : i ≡ length line = omega arith in
    let none : drop i line ≡ [] = drop_of_length-le line ge in
    let step : tokens_from (InText (take i line) is_escaped) (drop i line) ≡ take i line ∷ tokens (drop i line) = rw none (text-ends (take i line) is_escaped) in
    rw (← at_end) (sym so_far ∙ step)

-- ---- the first token of a line

first_is : (line : List ℕ) → 0 < length line → line ≡ get_or line 0 0 ∷ drop 1 line
first_is line some = drop-cons line 0 0 some

pub first_separator : (line : List ℕ) → 0 < length line → is_separator (get_or line 0 0) ≡ true → tokens line ≡ take 1 line ∷ tokens (drop 1 line)
first_separator line some separator =
    ap tokens (first_is line some) ∙ tokens-separator (get_or line 0 0) (drop 1 line) separator ∙ ap (λ (t : List ℕ). t ∷ tokens (drop 1 line)) (sym (longer line 0 some))

pub first_text : (line : List ℕ) → 0 < length line → get_or line 0 0 ≡ 34 → tokens line ≡ tokens_from (InText (take 1 line) false) (drop 1 line)
first_text line some quote =
    let one : take 1 line ≡ 34 ∷ [] = longer line 0 some ∙ ap (λ (b : ℕ). b ∷ []) quote in
    let whole : line ≡ 34 ∷ drop 1 line = first_is line some ∙ ap (λ (b : ℕ). b ∷ drop 1 line) quote in
    ap tokens whole ∙ tokens-text (drop 1 line) ∙ ap (λ (t : List ℕ). tokens_from (InText t false) (drop 1 line)) (sym one)

pub first_word : (line : List ℕ) → 0 < length line → is_blank (get_or line 0 0) ≡ false → is_separator (get_or line 0 0) ≡ false → (get_or line 0 0 ≡ 34 → ⊥) → tokens line ≡ tokens_from (InWord []) line
first_word line some no_blank no_separator no_quote =
    let whole = first_is line some in
    ap tokens whole ∙ tokens-word (get_or line 0 0) (drop 1 line) no_blank no_separator (ne_eqb _ _ no_quote) ∙ ap (tokens_from (InWord [])) (sym whole)

-- nothing is left
pub none_at : (line : List ℕ) (i : ℕ) → length line ≤ i → tokens (drop i line) ≡ tokens line → tokens line ≡ []
unfolding tokens_from
none_at line i ge so_far =
    let none : drop i line ≡ [] = drop_of_length-le line ge in
    sym so_far ∙ ap tokens none
