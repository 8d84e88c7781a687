-- What stood before a line, with the end of logs, and how a line begins there.
use Rattle.std.specs.Prelude.{ℕ, Bool, ◌||◌, List, Option, Some, Result, Ok, Err}
use Rattle.cg_schedule.specs.declared.fault.LineFault.{LineFault}
use Rattle.cg_schedule.specs.declared.reader_state.ReaderState.{ReaderState}
use Rattle.cg_schedule.specs.declared.word.Word.{Word}
use Rattle.cg_schedule.specs.Fault.{misplaced}

-- where the end of logs was read an end stood before it
abbrev pub with_logs : Bool → ReaderState → ReaderState
with_logs logs_ended state = record { started = state.started; ended = logs_ended || state.ended }

-- nothing may stand behind the end
abbrev pub behind_end : Result (Option (Word × List (List ℕ))) LineFault → Result (Option (Word × List (List ℕ))) LineFault
behind_end (Ok (Some begun)) = Err misplaced
behind_end other = other
