-- How a line begins behind the end of logs: as no event.
use Rattle.std.proofs.Common.{◌≡◌, ℕ, List, [], ◌∷◌, Bool, true, false, Option, Some, None, Ok, Err, if◌then◌else◌, refl}
use Rattle.std.specs.Str.{is_utf8}
use Rattle.cg_text.specs.Tokens.{tokens, is_passed_over}
use Rattle.cg_schedule.specs.declared.reader_state.ReaderState.{ReaderState}
use Rattle.cg_schedule.specs.declared.word.Word.{Word}
use Rattle.cg_schedule.specs.Fault.{misplaced, not_utf8}
use Rattle.cg_schedule.specs.Line.{fits, opening, opening_of, placed, word_of}
use Rattle.cg_run.specs.Ending.{behind_end, with_logs}

placed-ended : (st : ReaderState) (rest : List (List ℕ)) (word : Option Word) → placed (with_logs true st) rest word ≡ behind_end (placed st rest word)
placed-ended st rest None = refl
placed-ended st rest (Some word) = by_fits (fits st word) where
  by_fits : (b : Bool) → Err misplaced ≡ behind_end (if b then Ok (Some (word, rest)) else Err misplaced)
  by_fits true = refl
  by_fits false = refl

opening_of-ended : (st : ReaderState) (tokens : List (List ℕ)) → opening_of (with_logs true st) tokens ≡ behind_end (opening_of st tokens)
opening_of-ended st [] = refl
opening_of-ended st (token ∷ rest) = placed-ended st rest (word_of token)

pub opening_ended : (st : ReaderState) (line : List ℕ) → opening (with_logs true st) line ≡ behind_end (opening st line)
unfolding opening
opening_ended st line = by_tests (is_passed_over line) (is_utf8 line) where
  by_tests : (passed text : Bool) → (if passed then Ok None else if text then opening_of (with_logs true st) (tokens line) else Err not_utf8)
      ≡ behind_end (if passed then Ok None else if text then opening_of st (tokens line) else Err not_utf8)
  by_tests true text = refl
  by_tests false true = opening_of-ended st (tokens line)
  by_tests false false = refl
