-- What a take and a put do.
use Rattle.std.specs.Prelude.{◌≡◌, ◌+◌, ◌≤◌, ℕ, List, length, take, Result, MatchResult}
use Rattle.std.specs.Io.KnownBytes.{Consumes, Keeps, IsAtEnd}
use Rattle.cg_io.specs.declared.outside.Failed.{Failed}
use Rattle.cg_io.specs.declared.outside.IoFault.{IoFault}
use Rattle.cg_io.specs.declared.outside.IoFault.TheVariants as fault
use Rattle.cg_io.specs.Outside.{SourceView, SinkView}

-- at `Ok(n)` the front of the buffer are the next n bytes, none only at the end; at `Failed` nothing was taken
abbrev pub Takes : SourceView → SourceView → Result ℕ Failed → List ℕ → Type 0
Takes old new r buf =
    MatchResult r (λ n. (n ≤ length buf) × Consumes old.left new.left (take n buf)
    × (n ≡ 0 → IsAtEnd new.left)) (λ _. Keeps old.left new.left)

-- the count of faults rises by one exactly where the take failed
abbrev pub TakeCause : SourceView → SourceView → Result ℕ Failed → Type 0
TakeCause old new r = MatchResult r (λ _. new.faults ≡ old.faults) (λ _. new.faults ≡ old.faults + 1)

-- nothing was put
abbrev pub PutsNothing : SinkView → SinkView → Type 0
PutsNothing old new = Keeps old.held new.held

-- the count of faults rises by one where the put failed, and only there
abbrev pub FaultCause : SinkView → SinkView → IoFault → Type 0
FaultCause old new fault.Failed = new.faults ≡ old.faults + 1
FaultCause old new fault.NoMemory = new.faults ≡ old.faults

abbrev pub PutCause : SinkView → SinkView → Result (Unit {0}) IoFault → Type 0
PutCause old new r = MatchResult r (λ _. new.faults ≡ old.faults) (λ f. FaultCause old new f)
