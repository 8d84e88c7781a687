-- What the calls of a journal answer.
use Rattle.std.specs.Prelude.{◌≡◌, ◌⊎◌, ℕ, ◌+◌, ◌≤◌, List, Option, Some, Result, Ok, Err}
use Rattle.std.specs.Option.{option_map}
use Rattle.cg_disk.specs.Sides.{Image}
use Rattle.cg_disk.specs.View.{DiskView, IsAtRest, LeavesOnly}
use Rattle.cg_disk.specs.declared.disk.Side.{Side}
use Rattle.cg_journal.specs.Records.{Records, records, added, emptied, on_side}
use Rattle.cg_journal.specs.Strikes.{IsUnstruck}
use Rattle.cg_journal.specs.Adds.{IsEither, IsLostIn}
use Rattle.cg_journal.specs.Closes.{IsLostClosing}
use Rattle.cg_journal.specs.Held.{end_of}
use Rattle.cg_journal.specs.declared.journal.AppendErr.{AppendErr}
use Rattle.cg_journal.specs.declared.journal.AppendErr.TheVariants.{Lost, NoMemory}

-- the records of both sides can be read
pub record CanBeRead (d : DiskView) : Type 0 where
  pub all : Records
  pub read : records d.reads ≡ Some all

-- the records with one more on a side
abbrev pub with_record : Side → List ℕ → DiskView → Option Records
with_record side body old = option_map (added side body) (records old.reads)

-- the new records stand on the disk, after so many calls
pub record IsDone (after : Option Records) (calls : ℕ) (old new : DiskView) : Type 0 where
  pub records_new : records new.reads ≡ after
  pub rest : IsAtRest new
  pub time : new.time ≡ old.time + calls
  pub unstruck : IsUnstruck old new

-- memory was refused, after at most so many calls
pub record IsRefused (stands : Option Records → Type 0) (calls : ℕ) (old new : DiskView) : Type 0 where
  pub records_new : stands (records new.reads)
  pub rest : IsAtRest new
  pub time : new.time ≤ old.time + calls
  pub unstruck : IsUnstruck old new

-- the gate of a new record is the one behind the records of its side
abbrev pub IsGateOf : Side → ℕ → DiskView → Type 0
IsGateOf side gate old = (r : Records) → records old.reads ≡ Some r → gate + 1 ≡ end_of (on_side side r)

-- an append was struck in one of its four calls
pub record IsLostAppend (side : Side) (body : List ℕ) (old new : DiskView) : Type 0 where
  pub call : ℕ
  pub gate : ℕ
  pub is_gate : IsGateOf side gate old
  pub lost : IsLostIn 0 call side gate (records old.reads) (with_record side body old) old new

abbrev pub Appends : {D : Type 0} → (D → DiskView) → Side → List ℕ → DiskView → Result D (AppendErr D) → Type 0
Appends view side body old (Ok journal) = IsDone (with_record side body old) 4 old (view journal)
Appends view side body old (Err (Lost disk)) = IsLostAppend side body old (view disk)
Appends view side body old (Err (NoMemory journal)) = IsRefused (λ r. r ≡ records old.reads) 2 old (view journal)

-- the records with none on a side
abbrev pub without_records : Side → DiskView → Option Records
without_records side old = option_map (emptied side) (records old.reads)

-- the records with one alone on a side
abbrev pub with_record_alone : Side → List ℕ → DiskView → Option Records
with_record_alone side body old = option_map (added side body) (without_records side old)

-- the records of a side were taken away
abbrev pub ClosesSide : {D : Type 0} → (D → DiskView) → Side → DiskView → Result D (AppendErr D) → Type 0
ClosesSide view side old (Ok journal) = IsDone (without_records side old) 2 old (view journal)
ClosesSide view side old (Err (Lost disk)) =
    (call : ℕ) × IsLostClosing call (records old.reads) (without_records side old) old (view disk)
ClosesSide view side old (Err (NoMemory journal)) = IsRefused (λ r. r ≡ records old.reads) 0 old (view journal)

-- a restart was struck in one of its last four calls: the gate is the first one of the side
pub record IsLostRestart (side : Side) (body : List ℕ) (old new : DiskView) : Type 0 where
  pub call : ℕ
  pub gate : ℕ
  pub is_gate : (r : Records) → records old.reads ≡ Some r → gate ≡ 8
  pub lost : IsLostIn 2 call side gate (without_records side old) (with_record_alone side body old) old new

-- a restart was struck in one of its first two calls or in one of the four behind them; where memory was refused the
-- side has the records before or none
abbrev pub Restarts : {D : Type 0} → (D → DiskView) → Side → List ℕ → DiskView → Result D (AppendErr D) → Type 0
Restarts view side body old (Ok journal) = IsDone (with_record_alone side body old) 6 old (view journal)
Restarts view side body old (Err (Lost disk)) =
    ((call : ℕ) × IsLostClosing call (records old.reads) (without_records side old) old (view disk))
    ⊎ IsLostRestart side body old (view disk)
Restarts view side body old (Err (NoMemory journal)) =
    IsRefused (λ r. (r ≡ records old.reads) ⊎ (r ≡ without_records side old)) 4 old (view journal)

-- the side has the records before, none, or the new one alone
abbrev pub IsRestarting : Side → List ℕ → DiskView → Image → Type 0
IsRestarting side body old c = IsEither (records old.reads) (without_records side old) c
    ⊎ (records c ≡ with_record_alone side body old)

-- a crash at each moment of a call leaves an image that has P
abbrev pub EachMoment : {D : Type 0} → (D → DiskView) → (Image → Type 0) → DiskView → Result D (AppendErr D) → Type 0
EachMoment view P old (Ok journal) = LeavesOnly old (view journal) P
EachMoment view P old (Err (Lost disk)) = LeavesOnly old (view disk) P
EachMoment view P old (Err (NoMemory journal)) = LeavesOnly old (view journal) P
