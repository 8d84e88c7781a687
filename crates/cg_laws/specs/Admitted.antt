-- That no event of a generated schedule is refused: neither in the run of its events, nor in what a trial and a replay of its lines come to.
use Rattle.std.specs.Prelude.{◌≡◌, ℕ, ◌<◌, ◌≤◌, List, length, Option, Some, None}
use Rattle.cg_outcome.specs.declared.limits.TheConstants.{INPUT_BYTES, LINES, LINE_BYTES}
use Rattle.cg_base.specs.Sets.{IsId}
use Rattle.cg_base.specs.Lists.{Each}
use Rattle.cg_schedule.specs.declared.event.Event.{Event}
use Rattle.cg_schedule.specs.Print.{line_of}
use Rattle.cg_gen.specs.Generated.{generated}
use Rattle.cg_gen.specs.Lines.{lines_of}
use Rattle.cg_model.specs.Schedules.{run_of}
use Rattle.cg_outcome.specs.declared.command.Command.TheVariants.{Replay, Trial}
use Rattle.cg_outcome.specs.Outcome.{Ending, Ended, outcome_of}
use Rattle.cg_items.specs.declared.report.Report.{Report}
use Rattle.cg_outcome.specs.declared.status.Limit.TheVariants.{Steps}
use Rattle.cg_outcome.specs.declared.status.Status.{Status}
use Rattle.cg_outcome.specs.declared.status.Status.TheVariants as status
use Rattle.cg_outcome.specs.Produced.{status_of, refusal_of}

-- whatever the seed, however many replicas from 1 to 32 and however many lines: the run of the schedule is refused nowhere
abbrev pub GeneratedAreAdmitted : Type 0
GeneratedAreAdmitted = (seed replicas lines : ℕ) → IsId replicas →
    (run_of (generated seed replicas lines)).refused ≡ None

-- what a trial comes to is no refusal
abbrev pub TrialsAreAdmitted : Type 0
TrialsAreAdmitted =
    (seed replicas lines : ℕ) → IsId replicas → (taken : List ℕ) (how : Ending) →
    refusal_of (outcome_of (Some (Trial seed replicas lines)) taken how) ≡ None

-- the end of all lines, or the limit of steps
abbrev pub IsEndOrLimit : Option Status → Type 0
IsEndOrLimit (Some status.Done) = Unit {0}
IsEndOrLimit (Some (status.Limit line Steps)) = Unit {0}
IsEndOrLimit other = ⊥

-- each line of a trial of two lines or more is read, so nothing but its end or the limit of steps ends it
abbrev pub TrialsEnd : Type 0
TrialsEnd =
    (seed replicas lines : ℕ) → IsId replicas → 1 < lines → (taken : List ℕ) (how : Ending) →
    IsEndOrLimit (status_of (outcome_of (Some (Trial seed replicas lines)) taken how))

-- the lines of events are within the limits of an input
pub record AreWithinLimits (events : List Event) : Type 0 where
  pub few : length events ≤ LINES
  pub short : Each (λ event. length (line_of event) ≤ LINE_BYTES) events
  pub small : length (lines_of events) ≤ INPUT_BYTES

-- a replay of the lines that are generated, where they are within the limits of an input, comes to what a trial comes to
abbrev pub TrialsAreReplays : Type 0
TrialsAreReplays =
    (seed replicas lines : ℕ) → IsId replicas → AreWithinLimits (generated seed replicas lines) →
    (report : Report) (taken : List ℕ) (how : Ending)
    → outcome_of (Some (Replay report)) (lines_of (generated seed replicas lines)) Ended ≡
    outcome_of (Some (Trial seed replicas lines)) taken how
