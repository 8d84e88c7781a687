-- How what was taken stands to the bytes that the input had left, and what holds of all that a run comes to.
use Rattle.std.specs.Prelude.{◌≡◌, ◌⊎◌, ◌+◌, ◌++◌, true, ℕ, zero, suc, List, [], ◌∷◌, ◌≤◌, length, take, Option, Some, None}
use Rattle.std.specs.Io.KnownBytes.{Consumes, IsAtEnd}
use Rattle.cg_base.specs.Ascii.{LINE_FEED}
use Rattle.cg_outcome.specs.declared.limits.TheConstants.{INPUT_BYTES, TAKE_BYTES}
use Rattle.cg_base.specs.Text.{pieces_of}
use Rattle.cg_io.specs.Outside.{SourceView, SinkView, PutsAll}
use Rattle.cg_group.specs.declared.reason.Reason.{Reason}
use Rattle.cg_model.specs.World.{World, no_world, disk_at, has_begun}
use Rattle.cg_model.specs.Run.{Step}
use Rattle.cg_model.specs.Agreement.{RefusedExactly}
use Rattle.cg_outcome.specs.Outcome.{Ending, Ended, Failed, Open, companion_for, outcome_of, outcome, pieces_for, text_put}
use Rattle.cg_outcome.specs.declared.status.Status.{Status}
use Rattle.cg_outcome.specs.declared.status.Status.TheVariants as status
use Rattle.cg_outcome.specs.declared.status.Limit.TheVariants as limit
use Rattle.cg_items.specs.Items.{Item, steps_of}
use Rattle.cg_items.specs.Kept.{AreNoted}
use Rattle.cg_items.specs.OfRun.{AreOfRun}
use Rattle.cg_items.specs.Refused.{Refused}
use Rattle.cg_compare.specs.Join.{join_logs}
use Rattle.cg_compare.specs.Orders.{IsTold}
use Rattle.cg_outcome.specs.Produced.{Produced, status_of, refused_in, refusal_of}
use Rattle.cg_outcome.specs.Refusing.{RefusesLine, RefusesFurther}
use Rattle.cg_outcome.specs.Commands.{command_of, reads_input}
use Rattle.cg_outcome.specs.declared.command.Command.{Command}
use Rattle.cg_outcome.specs.declared.command.Command.TheVariants.{Image}
use Rattle.cg_disk.specs.Sides.{Image as Sides}
use Rattle.cg_disk_records.specs.Crash.{Disk}
use Rattle.cg_image.specs.Images.{image_text}
use Rattle.cg_store.specs.Images.{IsImageOf}
use Rattle.cg_outcome.specs.Putting.{Puts, StopsWith}
use Rattle.cg_outcome.specs.Stopping.{EndsShort}

-- at most the input's limit and one byte more are taken, and at most so many at once
abbrev pub most_taken : ℕ
most_taken = suc INPUT_BYTES

abbrev pub most_at_once : ℕ
most_at_once = TAKE_BYTES

-- how the taking ended has its cause: the input's end, or a fault, which is counted; else no take failed
abbrev pub HasCause : Ending → SourceView → SourceView → Type 0
HasCause Ended old new = IsAtEnd new.left × (new.faults ≡ old.faults)
HasCause Failed old new = new.faults ≡ old.faults + 1
HasCause Open old new = new.faults ≡ old.faults

-- a status tells of a failed take where one failed, unless the rest couldn't be put or memory was refused
abbrev pub ReadCause : SourceView → SourceView → Status → Type 0
ReadCause old new status.ReadFault = new.faults ≡ old.faults + 1
ReadCause old new status.WriteFault = Unit {0}
ReadCause old new status.NoMemory = Unit {0}
ReadCause old new other = new.faults ≡ old.faults

-- All but the last bytes, as many as are taken at once, had been gone through before the last take: they come to no finding,
-- and what they come to was put, before the rest.
abbrev pub InTime : (Produced → List ℕ) → (List ℕ → Produced) → List ℕ → SinkView → SinkView → Type 0
InTime text comes taken from to =
    (m : ℕ) → m + most_at_once ≤ length taken → ((comes (take m taken)).found ≡ None) × (rest : List ℕ)
    × PutsAll from to (text (comes (take m taken)) ++ rest)

-- the line of a finding, where it is one of a line
abbrev pub found_in : Status → Option ℕ
found_in (status.Syntax line reason) = Some line
found_in (status.Refused line reason) = Some line
found_in (status.Limit line what) = Some line
found_in other = None

-- the offset just behind the ends of so many lines
abbrev pub end_of_line : ℕ → List (List ℕ) → ℕ
end_of_line zero lines = 0
end_of_line (suc n) [] = 0
end_of_line (suc n) (line ∷ lines) = length line + 1 + end_of_line n lines

-- where a schedule was replayed, and all of its report was put, no number in what its steps show has more digits than are
-- printed
abbrev pub ShowsShort : Option Command → Produced → Status → Type 0
ShowsShort command p status = reads_input command ≡ true → EndsShort p status

-- where a run is done the bytes are the image of the disk that a replica has in the world, if it has begun there
abbrev pub IsImageAt : Status → ℕ → World → List ℕ → Type 0
IsImageAt status.Done p w image =
    (disk : Disk) → disk_at w p ≡ Some disk → (sides : Sides) × IsImageOf p disk sides × (image ≡ image_text p sides)
IsImageAt st p w image = Unit {0}

-- a command that puts an image puts that of the world at the end
abbrev pub IsImage : Option Command → Produced → Status → List ℕ → Type 0
IsImage (Some (Image p)) end st image = IsImageAt st p end.progress.world image
IsImage command end st image = Unit {0}

-- A command has run: these bytes were taken, no more than the most, and the taking ended in some way; what was put and the status
-- are what these bytes come to; and they were taken as they were needed: where a line, counted from 1, is the first finding, no more past
-- its end than is taken at once.
pub record Runs (command : Option Command) (old new : SourceView) (from to : SinkView) (status : Status) : Type 0 where
  pub taken : List ℕ
  pub ending : Ending
  pub consumed : Consumes old.left new.left taken
  pub cause : HasCause ending old new
  pub most : length taken ≤ most_taken
  pub image : List ℕ
  pub imaged : IsImage command (outcome_of command taken ending) status image
  pub ends : StopsWith (text_put command image (outcome_of command taken ending))
      (status_of (outcome_of command taken ending)) from to status
  pub in_time : InTime (text_put command image) (λ front. outcome_of command front Open) taken from to
  pub short : ShowsShort command (outcome_of command taken ending) status
  pub near : (n : ℕ) → 1 ≤ n → found_in status ≡ Some n →
      length taken ≤ end_of_line n (pieces_of LINE_FEED taken) + most_at_once

-- no limit is passed that lines and inputs have: the limit of steps may be
abbrev pub IsWithinLimits : Option Status → Type 0
IsWithinLimits (Some (status.Limit line limit.Line)) = ⊥
IsWithinLimits (Some (status.Limit line limit.Input)) = ⊥
IsWithinLimits (Some (status.Limit line limit.Lines)) = ⊥
IsWithinLimits other = Unit {0}

-- Where no take and no put failed, and the whole input is within the limits, the run comes to what the whole input comes to, and all of
-- that was put; or memory was refused. So an input that comes to its end is done, with the whole report.
abbrev pub Completes : Option Command → SourceView → SourceView → SinkView → SinkView → Status → Type 0
Completes command old new from to result =
    (all : List ℕ) → (reads_input command ≡ true → old.left ≡ Some all) →
    IsWithinLimits (status_of (outcome_of command all Ended))
    → new.faults ≡ old.faults → to.faults ≡ from.faults
    → (result ≡ status.NoMemory) ⊎ ((status_of (outcome_of command all Ended) ≡ Some result)
    × (image : List ℕ) × IsImage command (outcome_of command all Ended) result image
    × Puts from to (text_put command image (outcome_of command all Ended)))

-- what holds of the steps of the outcome, whatever was taken and however the taking ended
abbrev pub OfSteps : List (List ℕ) → (List Step → Type 0) → Type 0
OfSteps words holds = (taken : List ℕ) (how : Ending) → holds (steps_of (outcome words taken how).items)

-- what holds of the items of the outcome, and of the refusal that ends it, where one does
abbrev pub OfItems : List (List ℕ) → (List Item → Option Refused → Type 0) → Type 0
OfItems words holds = (taken : List ℕ) (how : Ending) →
    holds (outcome words taken how).items (refused_in (outcome words taken how))

-- the items are numbered from 1, within the limit, and their further lines are those that have come of them beside the world
abbrev pub IsNoted : List (List ℕ) → Type 0
IsNoted words = OfItems words (λ items refused. AreNoted no_world (companion_for (command_of words)) 0 items)

-- with what the command keeps beside the world at first, the items are those of a run, and so is the refusal that ends it
abbrev pub IsOfRun : List (List ℕ) → Type 0
IsOfRun words = OfItems words (AreOfRun (companion_for (command_of words)))

-- a run that ends by a refusal tells of the line that is refused, and of the first reason
abbrev pub TellsOfRefusals : List (List ℕ) → Type 0
TellsOfRefusals words =
    (taken : List ℕ) (how : Ending) (n : ℕ) (reason : Reason) →
    status_of (outcome words taken how) ≡ Some (status.Refused n reason)
    → RefusesLine (companion_for (command_of words)) (pieces_for (command_of words) taken)
    (steps_of (outcome words taken how).items) n reason
    ⊎ RefusesFurther (companion_for (command_of words)) (pieces_for (command_of words) taken)
    (outcome words taken how).items n reason

-- no test of an event that made a step gives a reason, and the event that ended the run by a refusal has that reason first
abbrev pub RefusesExactly : List (List ℕ) → Type 0
RefusesExactly words = (taken : List ℕ) (how : Ending) →
    RefusedExactly (steps_of (outcome words taken how).items) (refusal_of (outcome words taken how))

-- where a run is done of which the image of a disk is put, its replica has begun
abbrev pub IsImaged : List (List ℕ) → Type 0
IsImaged words = (taken : List ℕ) (how : Ending) (p : ℕ) → command_of words ≡ Some (Image p) →
    status_of (outcome words taken how) ≡ Some status.Done →
    has_begun (outcome words taken how).progress.world p ≡ true

-- what is told of the logs that were read is so
abbrev pub TellsOfLogs : List (List ℕ) → Type 0
TellsOfLogs words = (taken : List ℕ) (how : Ending) →
    let logs = (outcome words taken how).progress.logs in IsTold logs (join_logs logs)
