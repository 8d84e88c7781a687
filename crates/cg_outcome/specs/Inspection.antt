-- An input that is looked at as the image of a replica's disk: all of it is taken first.
use Rattle.std.specs.Prelude.{◌≡◌, ◌≤◌, ℕ, List, [], length, Some}
use Rattle.std.specs.Io.KnownBytes.{Consumes}
use Rattle.cg_io.specs.Outside.{SourceView, SinkView}
use Rattle.cg_outcome.specs.declared.command.Command.TheVariants.{Inspect}
use Rattle.cg_outcome.specs.declared.status.Status.{Status}
use Rattle.cg_outcome.specs.Outcome.{inspection}
use Rattle.cg_outcome.specs.Streaming.{Ends, FailedIsLast, OfTaken}
use Rattle.cg_outcome.specs.Taking.{most_taken}

-- these bytes were taken so far, no more than the most, and no take failed
pub record Gathers (old now : SourceView) (bytes : List ℕ) : Type 0 where
  pub consumed : Consumes old.left now.left bytes
  pub no_fault : now.faults ≡ old.faults
  pub most : length bytes ≤ most_taken

-- some bytes were taken, and what is seen in them was put
abbrev pub Inspects : SourceView → SourceView → SinkView → SinkView → Status → Type 0
Inspects old new from to status =
    OfTaken old new (λ taken how.
    (length taken ≤ most_taken) × Ends (Some Inspect) [] (inspection taken how) from to status
    × FailedIsLast how (inspection taken how))
