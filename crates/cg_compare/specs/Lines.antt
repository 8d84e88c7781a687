-- The lines of logs: which log a line reads as, or why it is refused.
use Rattle.std.specs.Prelude.{ℕ, ◌-◌, Bool, List, [], ◌∷◌, ◌++◌, Option, Some, None, Result, Ok, Err, codes, drop, find, length, take, if◌then◌else◌}
use Rattle.std.specs.Option.{option_and_then, option_map_or}
use Rattle.std.specs.Str.{is_utf8}
use Rattle.cg_base.specs.Ascii.{COMMA, COLON}
use Rattle.cg_base.specs.declared.limits.TheConstants.{COUNT_LIMIT}
use Rattle.cg_base.specs.declared.action_id.ActionId.{ActionId}
use Rattle.cg_base.specs.Text.{pieces_of}
use Rattle.cg_text.specs.Order.{same_text}
use Rattle.cg_text.specs.Tokens.{tokens, is_passed_over}
use Rattle.cg_schedule.specs.declared.fault.LineFault.{LineFault}
use Rattle.cg_schedule.specs.Fault.{not_utf8, unknown_word, bad_number, misplaced}
use Rattle.cg_schedule.specs.Reading.{Reading, ◌>>=◌, done, part, whole}
use Rattle.cg_schedule.specs.Own.{some_read}
use Rattle.cg_schedule.specs.Part.{number, number_part}
use Rattle.cg_compare.specs.declared.log_line.LogLine.{LogLine}
use Rattle.cg_compare.specs.declared.log_line.LogLine.TheVariants as line
use Rattle.cg_compare.specs.declared.log_line.LogWord.{LogWord}
use Rattle.cg_compare.specs.declared.log_line.LogWord.TheVariants.{Log, End}

-- ---- the word, and whether it may stand there

abbrev pub word_text : LogWord → List ℕ
word_text Log = codes "log"
word_text End = codes "end"

unfoldable pub word_of : List ℕ → Option LogWord
word_of text = find (λ word. same_text (word_text word) text) (Log ∷ End ∷ [])

-- nothing may stand after the end
abbrev pub placed : Bool → List (List ℕ) → Option LogWord → Result (Option (LogWord × List (List ℕ))) LineFault
placed has_ended rest None = Err unknown_word
placed has_ended rest (Some word) = if has_ended then Err misplaced else Ok (Some (word, rest))

abbrev pub opening_of : Bool → List (List ℕ) → Result (Option (LogWord × List (List ℕ))) LineFault
opening_of has_ended [] = Err unknown_word
opening_of has_ended (token ∷ rest) = placed has_ended rest (word_of token)

-- how a line begins: nothing where it is passed over, and else a word that may stand there
unfoldable pub opening : Bool → List ℕ → Result (Option (LogWord × List (List ℕ))) LineFault
opening has_ended line =
    if is_passed_over line then Ok None
    else if is_utf8 line then opening_of has_ended (tokens line)
    else Err not_utf8

-- ---- the parts of a log

-- a creator and an index, each where it was read
abbrev pub named : Result ℕ LineFault → Result ℕ LineFault → Option ActionId
named (Ok creator) (Ok index) = Some (record { creator = creator; index = index })
named (Ok creator) (Err fault) = None
named (Err fault) index = None

abbrev pub id_of : List (List ℕ) → Option ActionId
id_of [] = None
id_of (creator ∷ []) = None
id_of (creator ∷ index ∷ []) = named (number 1 32 creator) (number 1 (COUNT_LIMIT - 1) index)
id_of (creator ∷ index ∷ piece ∷ pieces) = None

-- the name of an action that bytes spell: its creator, a colon, and its index
abbrev pub read_id : List ℕ → Option ActionId
read_id bytes = id_of (pieces_of COLON bytes)

-- the names that pieces spell after those that were read, where each spells one
abbrev pub each_id : List ActionId → List (List ℕ) → Option (List ActionId)
each_id ids [] = Some ids
each_id ids (piece ∷ pieces) = option_and_then (λ id. each_id (ids ++ id ∷ []) pieces) (read_id piece)

-- names with a comma between two, or none
abbrev pub ids_within : List ℕ → Option (List ActionId)
ids_within [] = Some []
ids_within (b ∷ bytes) = each_id [] (pieces_of COMMA (b ∷ bytes))

-- what stands after the bracket that begins the bytes, and what before the one that ends them
abbrev pub after_bracket : List ℕ → Option (List ℕ)
after_bracket bytes = if same_text (take 1 bytes) (codes "[") then Some (drop 1 bytes) else None

abbrev pub before_bracket : List ℕ → Option (List ℕ)
before_bracket bytes =
    if same_text (drop (length bytes - 1) bytes) (codes "]") then Some (take (length bytes - 1) bytes) else None

abbrev pub within_brackets : List ℕ → Option (List ℕ)
within_brackets token = option_and_then before_bracket (after_bracket token)

-- the names that a token spells, as `[1:1,2:1]`
unfoldable pub read_ids : List ℕ → Result (List ActionId) LineFault
read_ids token = option_map_or (λ ids. Ok ids) (option_and_then ids_within (within_brackets token)) (Err bad_number)

unfoldable pub ids_part : Reading (List ActionId)
ids_part left = part read_ids left

unfoldable pub log_reading : Reading LogLine
log_reading = do
  white ← number_part 0 1000000
  list ← ids_part
  done (line.Log white list)

-- what a word says, from the tokens after it
unfoldable pub line_reading : LogWord → Reading LogLine
line_reading Log = log_reading
line_reading End = done line.End

-- ---- the line

abbrev pub after_opening : Result (Option (LogWord × List (List ℕ))) LineFault → Result (Option LogLine) LineFault
after_opening (Ok None) = Ok None
after_opening (Ok (Some opened)) = some_read (whole (line_reading opened.0) opened.1)
after_opening (Err fault) = Err fault

-- how a line reads, where the end has stood before it or hasn't: as nothing, where it is passed over, or as what it
-- says; else why it is refused
abbrev pub reading : Bool → List ℕ → Result (Option LogLine) LineFault
reading has_ended line = after_opening (opening has_ended line)
