-- The tokens of a line, each as its bytes stand there: bare words, quoted texts with their quotes, semicolons and question marks.
use Rattle.std.specs.Prelude.{ℕ, ◌==◌, Bool, true, false, ◌||◌, not, List, [], ◌∷◌, ◌++◌, if◌then◌else◌}
use Rattle.std.specs.List.{list_all}
use Rattle.cg_base.specs.Ascii.{TAB, SPACE, QUOTE}
use Rattle.cg_text.specs.Quoted.{ends_text, escapes}

-- a space or a tab
abbrev pub is_blank : ℕ → Bool
is_blank byte = (byte == SPACE) || (byte == TAB)

-- a byte that is a token by itself
abbrev pub is_separator : ℕ → Bool
is_separator byte = (byte == 59) || (byte == 63)

-- a byte that ends a word
abbrev pub is_mark : ℕ → Bool
is_mark byte = is_blank byte || is_separator byte || (byte == QUOTE)

-- where a reader of the line stands: between tokens, in a word, or in a quoted text, maybe behind a backslash; in a token it has the bytes so far
pub data Scan : Type 0 where
  Between : Scan
  InWord : (word : List ℕ) → Scan
  InText : (text : List ℕ) (is_escaped : Bool) → Scan

-- where the reader stands after a byte that ends a word
abbrev pub after_mark : ℕ → Scan
after_mark byte = if byte == QUOTE then InText (byte ∷ []) false else Between

-- where the reader stands after a byte
abbrev pub next_scan : Scan → ℕ → Scan
next_scan Between byte = if is_mark byte then after_mark byte else InWord (byte ∷ [])
next_scan (InWord word) byte = if is_mark byte then after_mark byte else InWord (word ++ byte ∷ [])
next_scan (InText text is_escaped) byte = if ends_text is_escaped byte then Between
    else InText (text ++ byte ∷ []) (escapes is_escaped byte)

-- the token that a byte is by itself
abbrev pub mark_token : ℕ → List (List ℕ)
mark_token byte = if is_separator byte then (byte ∷ []) ∷ [] else []

-- the tokens that a byte completes
abbrev pub completed : Scan → ℕ → List (List ℕ)
completed Between byte = mark_token byte
completed (InWord word) byte = if is_mark byte then word ∷ mark_token byte else []
completed (InText text is_escaped) byte = if ends_text is_escaped byte then (text ++ byte ∷ []) ∷ [] else []

-- the token that the line's end completes; a quoted text there isn't closed
abbrev pub completed_by_end : Scan → List (List ℕ)
completed_by_end Between = []
completed_by_end (InWord word) = word ∷ []
completed_by_end (InText text is_escaped) = text ∷ []

-- the tokens that the bytes complete
unfoldable pub tokens_from : Scan → List ℕ → List (List ℕ)
tokens_from scan [] = completed_by_end scan
tokens_from scan (byte ∷ bytes) = completed scan byte ++ tokens_from (next_scan scan byte) bytes

-- the tokens of a line
abbrev pub tokens : List ℕ → List (List ℕ)
tokens line = tokens_from Between line

-- the line holds blanks alone, or a # comes first past the blanks
abbrev pub is_passed_over : List ℕ → Bool
is_passed_over [] = true
is_passed_over (byte ∷ bytes) = if is_blank byte then is_passed_over bytes else byte == 35

-- a bare word
abbrev pub is_word : List ℕ → Bool
is_word [] = false
is_word (byte ∷ bytes) = list_all (λ b. not (is_mark b)) (byte ∷ bytes)

-- a word may end before these bytes
abbrev pub ends_word : List ℕ → Bool
ends_word [] = true
ends_word (byte ∷ bytes) = is_mark byte
