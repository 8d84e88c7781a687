-- How what was put stands to what a part of a run produces.
use Rattle.std.specs.Prelude.{◌≡◌, ◌+◌, ℕ, List, Option, Some}
use Rattle.cg_io.specs.Outside.{SinkView, PutsAll, PutsFront}
use Rattle.cg_outcome.specs.declared.status.Status.{Status}
use Rattle.cg_outcome.specs.declared.status.Status.TheVariants as status

-- the text was put, without a fault
pub record Puts (old new : SinkView) (text : List ℕ) : Type 0 where
  pub all : PutsAll old new text
  pub no_fault : new.faults ≡ old.faults

-- some front of the text was put, with so many faults
pub record PutsPart (old new : SinkView) (text : List ℕ) (faults : ℕ) : Type 0 where
  pub front : PutsFront old new text
  pub counted : new.faults ≡ old.faults + faults

-- the run has ended with this status: it is what was found, and all of the text was put, or putting was cut short
abbrev pub StopsWith : List ℕ → Option Status → SinkView → SinkView → Status → Type 0
StopsWith text found old new status.WriteFault = PutsPart old new text 1
StopsWith text found old new status.NoMemory = PutsPart old new text 0
StopsWith text found old new other = (found ≡ Some other) × Puts old new text
