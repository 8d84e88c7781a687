-- The lines of an input, one after the other.
use Rattle.std.proofs.Common.{◌≡◌, ℕ, ◌+◌, List, [], ◌∷◌, length, false, refl, sym, ap, ◌∙◌, Option, Some, None, Bool, true, Result, Ok}
use Rattle.std.proofs.lemmas.Bool.{true≢false}
use Rattle.cg_base.specs.Text.{is_nil}
use Rattle.cg_items.specs.declared.companion.Companion.{Companion}
use Rattle.cg_items.specs.declared.companion.Companion.TheVariants.{Comparing}
use Rattle.cg_items.specs.declared.companion.Further.{Further}
use Rattle.cg_items.specs.Companion.{further_reading, in_place}
use Rattle.cg_outcome.specs.Outcome.{Ending, read_outcome, further_outcome, log_outcome, line_beside, line_outcome, whole_line, replayed}
use Rattle.cg_outcome.specs.Produced.{Progress, and_then}
use Rattle.cg_schedule.specs.declared.fault.LineFault.{LineFault}
use Rattle.cg_schedule.specs.declared.word.Word.{Word}
use Rattle.cg_schedule.specs.Line.{opening, event_reading, reading_behind, some_event}
use Rattle.cg_schedule.specs.Reading.{whole}
use Rattle.cg_compare.specs.declared.log_line.LogLine.{LogLine}
use Rattle.cg_compare.specs.Lines.{reading as log_reading}
use Rattle.cg_outcome.specs.Calls.{word_outcome}

pub replayed-more : (n at : ℕ) (line : List ℕ) (rest : List (List ℕ)) (how : Ending) (s : Progress) →
    is_nil rest ≡ false
    → replayed n at (line ∷ rest) how s ≡
    and_then (whole_line n at line s) (replayed (n + 1) (at + length line + 1) rest how)
replayed-more n at line [] how s more = absurd (true≢false more)
replayed-more n at line (next ∷ others) how s more = refl

-- the command compares logs
abbrev pub is_comparing : Companion → Bool
is_comparing Comparing = true
is_comparing other = false

-- a line as a log, as none, or as neither
pub line-log : (n : ℕ) (line : List ℕ) (s : Progress) (r : Result (Option LogLine) LineFault) →
    s.companion ≡ Comparing → log_reading s.reader.ended line ≡ r → line_outcome n line s ≡ log_outcome n r s
unfolding line_outcome
line-log n line s r compares is = ap (λ c. line_beside c n line s) compares ∙ ap (λ r. log_outcome n r s) is

-- a line as one of the command's own events, as none of them, or as neither
pub line-further : (n : ℕ) (line : List ℕ) (s : Progress) (r : Result (Option Further) LineFault) →
    is_comparing s.companion ≡ false → in_place s.reader (further_reading s.companion line) ≡ r →
    line_outcome n line s ≡ further_outcome n r line s
unfolding line_outcome
line-further n line s r other is = by_companion s.companion other ∙ ap (λ r. further_outcome n r line s) is where
  by_companion : (c : Companion) → is_comparing c ≡ false →
      line_beside c n line s ≡ further_outcome n (in_place s.reader (further_reading c line)) line s
  by_companion Comparing is = absurd (true≢false is)
  by_companion c is = refl

-- the command has none of its own here
abbrev pub IsPlain : List ℕ → Progress → Type 0
IsPlain line s = in_place s.reader (further_reading s.companion line) ≡ Ok None

-- a line that begins so
pub line-opened : (n : ℕ) (line : List ℕ) (s : Progress) (r : Result (Option (Word × List (List ℕ))) LineFault) →
    is_comparing s.companion ≡ false → IsPlain line s → opening s.reader line ≡ r →
    line_outcome n line s ≡ read_outcome n (reading_behind r) s
line-opened n line s r other plain is =
    line-further n line s (Ok None) other plain ∙ ap (λ o. read_outcome n (reading_behind o) s) is

-- a line that begins with a word
pub word-read : (n : ℕ) (word : Word) (tokens : List (List ℕ)) (s : Progress)
    → word_outcome n word tokens s
    ≡ read_outcome n (some_event (whole (event_reading word) tokens)) s
unfolding word_outcome
word-read n word tokens s = refl

pub line-word : (n : ℕ) (line : List ℕ) (s : Progress) (o : Word × List (List ℕ)) →
    is_comparing s.companion ≡ false → IsPlain line s → opening s.reader line ≡ Ok (Some o) →
    line_outcome n line s ≡ word_outcome n o.0 o.1 s
line-word n line s o other plain is =
    line-opened n line s (Ok (Some o)) other plain is ∙ sym (word-read n o.0 o.1 s)
