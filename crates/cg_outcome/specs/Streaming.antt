-- A run that takes its input as it needs it: where it stands between two lines, what it has gone through, and what one
-- take brings.
use Rattle.std.specs.Prelude.{suc, ◌≡◌, ◌<◌, ◌≤◌, ◌+◌, ◌==◌, ℕ, false, List, [], ◌∷◌, ◌++◌, length, take, Option, Some, None, Result, MatchResult}
use Rattle.std.specs.List.{All}
use Rattle.std.specs.Io.KnownBytes.{Consumes}
use Rattle.cg_base.specs.Ascii.{LINE_FEED}
use Rattle.cg_outcome.specs.declared.limits.TheConstants.{INPUT_BYTES, LINES, LINE_BYTES}
use Rattle.cg_base.specs.Text.{pieces_of}
use Rattle.cg_io.specs.Outside.{SourceView, SinkView}
use Rattle.cg_outcome.specs.declared.command.Command.{Command}
use Rattle.cg_outcome.specs.Outcome.{Ending, Failed, Open, limit_of, whole_line, replayed, text_put}
use Rattle.cg_items.specs.declared.report.Report.{Report}
use Rattle.cg_outcome.specs.declared.status.Limit.{Limit}
use Rattle.cg_outcome.specs.declared.status.Status.{Status}
use Rattle.cg_outcome.specs.declared.status.Status.TheVariants as status
use Rattle.cg_items.specs.declared.companion.Companion.{Companion}
use Rattle.cg_items.specs.Items.{Item}
use Rattle.cg_outcome.specs.Produced.{Progress, Produced, before_all, prepend, text_of, status_of}
use Rattle.cg_outcome.specs.Putting.{StopsWith}
use Rattle.cg_outcome.specs.Taking.{most_taken, most_at_once, HasCause, InTime}
use Rattle.cg_outcome.specs.UnderWay.{IsUnderWay}
use Rattle.cg_outcome.specs.Stopping.{Leaves, Shows, Stopped}
use Rattle.cg_model.specs.World.{World}

-- where a run stands between two lines: the number of the next one, where it begins in the input, and how far it has come
pub record Stage : Type 0 where
  pub line : ℕ
  pub at : ℕ
  pub progress : Progress

-- before the first line, with this beside the world
abbrev pub first_stage : Companion → Stage
first_stage c = record { line = 1; at = 0; progress = before_all c }

-- what these bytes come to from a stage on
abbrev pub from_stage : Stage → List ℕ → Ending → Produced
from_stage st bytes how = replayed st.line st.at (pieces_of LINE_FEED bytes) how st.progress

-- no line ends in these bytes
abbrev pub IsUnended : List ℕ → Type 0
IsUnended bytes = All (λ b. (b == LINE_FEED) ≡ false) bytes

-- the limit that a line passes of which these bytes were taken
abbrev pub held_limit : ℕ → ℕ → List ℕ → Option Limit
held_limit n at [] = None
held_limit n at (b ∷ bs) = limit_of n (length (b ∷ bs)) (at + length (b ∷ bs))

-- the input's limits aren't passed, and the run is under way
pub record IsStage (st : Stage) : Type 0 where
  pub within : st.at ≤ INPUT_BYTES
  pub counted : 1 ≤ st.line
  pub few : st.line ≤ suc LINES
  pub under_way : IsUnderWay st.progress

-- nothing is found, and its items begin those that were made
pub record IsMade (p : Produced) (made : List Item) : Type 0 where
  pub none : p.found ≡ None
  pub later : List Item
  pub front : made ≡ p.items ++ later

-- Whole lines were gone through and made these items: whatever follows comes to these and to what it comes to from the new
-- stage on, and no front of the lines comes to anything else.
pub record Passes (old : Stage) (gone : List ℕ) (made : List Item) (new : Stage) : Type 0 where
  pub same : (more : List ℕ) (how : Ending) → from_stage old (gone ++ more) how ≡ prepend made (from_stage new more how)
  pub fronts : (m : ℕ) → m ≤ length gone → IsMade (from_stage old (take m gone) Open) made
  pub placed : new.at ≡ old.at + length gone

-- a line that has its end was gone through, and nothing was found
pub record EndsLine (report : Report) (old : Stage) (line : List ℕ) (from to : SinkView) (held : List ℕ)
    (new : Stage) : Type 0 where
  pub empty : held ≡ []
  pub none : (whole_line old.line old.at line old.progress).found ≡ None
  pub progress : new.progress ≡ (whole_line old.line old.at line old.progress).progress
  pub counted : new.line ≡ old.line + 1
  pub placed : new.at ≡ old.at + length line + 1
  pub short : length line ≤ LINE_BYTES
  pub stands : IsStage new
  pub put : Shows report from to (whole_line old.line old.at line old.progress).items

-- so far whole lines of the bytes were gone through and their entries put, and the others are still to come
pub record GoesThrough (report : Report) (old : Stage) (bytes : List ℕ) (from to : SinkView) (left : List ℕ)
    (new : Stage) : Type 0 where
  pub gone : List ℕ
  pub made : List Item
  pub whole : bytes ≡ gone ++ left
  pub passes : Passes old gone made new
  pub stands : IsStage new
  pub put : Shows report from to made

-- what is left is no whole line, and passes no limit
pub record IsHeld (st : Stage) (held : List ℕ) : Type 0 where
  pub unended : IsUnended held
  pub unpassed : held_limit st.line st.at held ≡ None

-- these bytes are held behind a stage, or the run has ended
abbrev pub HoldsRest : Report → Stage → List ℕ → SinkView → SinkView → List ℕ → Result Stage Status → Type 0
HoldsRest report st bytes from to held result =
    MatchResult result
    (λ next. (next ≡ st) × (held ≡ bytes) × IsHeld st held × (to ≡ from))
    (λ status. Stopped report (from_stage st bytes Open) from to status)

-- the whole lines of the bytes were gone through and the rest is held, or the run has ended
abbrev pub TakesUp : Report → Stage → List ℕ → SinkView → SinkView → List ℕ → Result Stage Status → Type 0
TakesUp report st bytes from to held result =
    MatchResult result
    (λ next. GoesThrough report st bytes from to held next × IsHeld next held)
    (λ status. Stopped report (from_stage st bytes Open) from to status)

-- a failed take ends the run, which comes to that and to nothing else
abbrev pub FailedIsLast : Ending → Produced → Type 0
FailedIsLast how p = how ≡ Failed → status_of p ≡ Some status.ReadFault

-- what there is between two takes: what the input still gives, what was put, and the bytes of a line that are held
pub record BetweenTakes : Type 0 where
  pub input : SourceView
  pub output : SinkView
  pub held : List ℕ

-- one take behind what is held: a chunk of the input, which is taken up; or the taking has ended, and the run with it, and
-- this is left of it
pub record TakesTurn (report : Report) (st : Stage) (before after : BetweenTakes) (left : Option World)
    (result : Result Stage Status) : Type 0 where
  pub chunk : List ℕ
  pub ending : Ending
  pub consumed : Consumes before.input.left after.input.left chunk
  pub cause : HasCause ending before.input after.input
  pub few : length chunk ≤ most_at_once
  pub within : st.at + length before.held + length chunk ≤ most_taken
  pub last : FailedIsLast ending (from_stage st (before.held ++ chunk) ending)
  pub comes :
      MatchResult result
      (λ next. (0 < length chunk) × (after.input.faults ≡ before.input.faults)
      × GoesThrough report st (before.held ++ chunk) before.output after.output after.held next
      × IsHeld next after.held)
      (λ status. Stopped report (from_stage st (before.held ++ chunk) ending) before.output after.output status
      × Leaves status report (from_stage st (before.held ++ chunk) ending).progress.world left)

-- some bytes were taken, the taking ended in some way, and this holds of them
pub record OfTaken (old new : SourceView) (Holds : List ℕ → Ending → Type 0) : Type 0 where
  pub taken : List ℕ
  pub ending : Ending
  pub consumed : Consumes old.left new.left taken
  pub cause : HasCause ending old new
  pub holds : Holds taken ending

-- the run has ended with this status, and put what the command puts of what it comes to, with this image
abbrev pub Ends : Option Command → List ℕ → Produced → SinkView → SinkView → Status → Type 0
Ends command image p from to status = StopsWith (text_put command image p) (status_of p) from to status

-- the input was taken as it was needed, and replayed, and this is left
abbrev pub Replays : Report → Companion → SourceView → SourceView → SinkView → SinkView → Option World → Status → Type 0
Replays report c old new from to left status =
    OfTaken old new (λ taken how.
    (length taken ≤ most_taken) × Stopped report (from_stage (first_stage c) taken how) from to status
    × InTime (text_of report) (λ front. from_stage (first_stage c) front Open) taken from to
    × FailedIsLast how (from_stage (first_stage c) taken how)
    × Leaves status report (from_stage (first_stage c) taken how).progress.world left)
