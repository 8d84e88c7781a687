-- What single calls of this crate say, and nothing that `run` says rests on.
use Rattle.std.specs.Prelude.{ℕ, Bool, List, if◌then◌else◌}
use Rattle.cg_base.specs.Sets.{IsId}
use Rattle.cg_schedule.specs.declared.word.Word.{Word}
use Rattle.cg_schedule.specs.Line.{event_reading, some_event}
use Rattle.cg_schedule.specs.Reading.{whole}
use Rattle.cg_outcome.specs.declared.command.Command.{Command}
use Rattle.cg_outcome.specs.declared.command.Command.TheVariants.{Generate, Trial, Image}
use Rattle.cg_outcome.specs.Produced.{Progress, Produced}
use Rattle.cg_outcome.specs.declared.status.Status.{Status}
use Rattle.cg_outcome.specs.declared.status.Status.TheVariants as status
use Rattle.cg_outcome.specs.Outcome.{read_outcome}

-- the numbers of the statuses
abbrev pub status_number : Status → ℕ
status_number status.Done = 0
status_number status.Usage = 1
status_number (status.Syntax line reason) = 2
status_number (status.Refused line reason) = 3
status_number status.ReadFault = 4
status_number status.WriteFault = 5
status_number (status.Limit line what) = 6
status_number status.NoMemory = 7
status_number (status.NoEnd lines) = 8
status_number status.NotAnImage = 10
status_number status.NotAStore = 11

-- the command of a schedule that is generated: it is put, or tried
abbrev pub of_schedule : Bool → ℕ → ℕ → ℕ → Command
of_schedule is_trial seed replicas lines = if is_trial then Trial seed replicas lines else Generate seed replicas lines

-- a generated schedule is for replicas, and an image is of one
abbrev pub IsCommand : Command → Type 0
IsCommand (Generate seed replicas lines) = IsId replicas
IsCommand (Trial seed replicas lines) = IsId replicas
IsCommand (Image replica) = IsId replica
IsCommand other = Unit {0}

-- what line n comes to that begins with the word, before these tokens
unfoldable pub word_outcome : ℕ → Word → List (List ℕ) → Progress → Produced
word_outcome n word tokens s = read_outcome n (some_event (whole (event_reading word) tokens)) s
