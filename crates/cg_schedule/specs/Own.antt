-- How a line reads for a command that has lines of its own beside those of a schedule.
use Rattle.std.specs.Prelude.{ℕ, Bool, List, [], ◌∷◌, Option, Some, None, Result, Ok, Err, if◌then◌else◌}
use Rattle.std.specs.Str.{is_utf8}
use Rattle.cg_text.specs.Tokens.{tokens, is_passed_over}
use Rattle.cg_schedule.specs.declared.fault.LineFault.{LineFault}
use Rattle.cg_schedule.specs.Fault.{not_utf8}
use Rattle.cg_schedule.specs.Reading.{Reading, whole}

-- what was read stands there
abbrev pub some_read : {X : Type 0} → Result X LineFault → Result (Option X) LineFault
some_read (Ok x) = Ok (Some x)
some_read (Err fault) = Err fault

-- the parts after a word, where that is one of the command's, in a line that is a text
abbrev pub after_word : {X : Type 0} → Bool → Option (Reading X) → List (List ℕ) → Result (Option X) LineFault
after_word is_text None rest = Ok None
after_word is_text (Some reading) rest = if is_text then some_read (whole reading rest) else Err not_utf8

abbrev pub tokens_reading : {X : Type 0} → (List ℕ → Option (Reading X)) → Bool → List (List ℕ) →
    Result (Option X) LineFault
tokens_reading reading_of is_text [] = Ok None
tokens_reading reading_of is_text (word ∷ rest) = after_word is_text (reading_of word) rest

-- how a line reads, where each of the command's words has its reading: as none of its own, where it is passed over or
-- its first token is none of the words, or as what follows the word; else why it is refused
abbrev pub own_reading : {X : Type 0} → (List ℕ → Option (Reading X)) → List ℕ → Result (Option X) LineFault
own_reading reading_of line = if is_passed_over line then Ok None
    else tokens_reading reading_of (is_utf8 line) (tokens line)
