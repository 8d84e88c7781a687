-- What the calls leave by which a disk goes over to the newer format: at each moment every image stands for the same
-- state.
use Rattle.std.specs.Prelude.{◌≡◌, ◌⊎◌, ℕ, ◌+◌, ◌≤◌, List, [], Some, None, Result, Ok, Err, if◌then◌else◌}
use Rattle.cg_disk.specs.Sides.{Image}
use Rattle.cg_disk.specs.State.{DiskState, Blow, DiskStrike, left_by}
use Rattle.cg_disk.specs.View.{DiskView, IsAtRest, LeavesOnly}
use Rattle.cg_journal.specs.Strikes.{IsUnstruck, IsStruck}
use Rattle.cg_journal.specs.Reads.{IsReadOnly}
use Rattle.cg_journal.specs.Fresh.{IsLostWithin, IsRefusedWithin}
use Rattle.cg_disk_records.specs.Crash.{migrated}
use Rattle.cg_disk_records.specs.Recovery.{recovery_calls, has_moved, format_left, recovery_outcome}
use Rattle.cg_disk_records.specs.Stored.{Stored}
use Rattle.cg_older.specs.OldDisk.{old_disk}
use Rattle.cg_store.specs.Stands.{checkpointed, disk_of}
use Rattle.cg_store.specs.Defined.{strike_at}
use Rattle.cg_store.specs.Formats.{Standing, StandsFor, StandsForState, standing_on_disk, created_old, opened, disk_in}
use Rattle.cg_journal.specs.declared.open.FormatErr.{FormatErr}
use Rattle.cg_journal.specs.declared.open.FormatErr.TheVariants.{Lost as FormatLost, NoMemory as FormatNoMemory}
use Rattle.cg_store.specs.declared.errors.CommitErr.{CommitErr}
use Rattle.cg_store.specs.declared.errors.CommitErr.TheVariants.{Lost, NoMemory}

-- an image in an opening: one that a crash might have left before it, or one that stands for the state that the disk,
-- as it read, stood for, where it stood for one
abbrev pub IsOpening : ℕ → DiskView → Image → Type 0
IsOpening id old c = old.may_leave c ⊎ ((s : Standing) → StandsFor id old.reads s → StandsForState id s.on.content c)

-- what a crash leaves in one of the calls of an opening
abbrev pub standing_left : Standing → ℕ → Blow → List ℕ → Standing
standing_left s call blow fill =
    let strike = strike_at call blow fill in
    record { on = if has_moved s.format strike then checkpointed s.on else s.on; format = format_left s.format strike }

-- what a disk tells that was struck there: what each fill leaves
pub record IsCutOpening (id : ℕ) (s : Standing) (call : ℕ) (before after : DiskState) : Type 0 where
  pub strike : DiskStrike
  pub armed : before.strike ≡ Some strike
  pub fills : (fill : List ℕ) → StandsFor id (left_by after fill) (standing_left s call strike.blow fill)

-- one of the calls was struck of a disk that stood for this
pub record IsLostAt (id : ℕ) (s : Standing) (call : ℕ) (old new : DiskView) : Type 0 where
  pub within : call ≤ recovery_calls s.format
  pub images : (c : Image) → new.may_leave c → old.may_leave c ⊎ StandsForState id s.on.content c
  pub told : IsAtRest old → (d e : DiskState) → old.state ≡ Some d → new.state ≡ Some e → IsCutOpening id s call d e

-- one was struck; those of a disk that stood for none only read
pub record IsLostOpening (id : ℕ) (old new : DiskView) : Type 0 where
  pub call : ℕ
  pub struck : IsStruck old new
  pub time : new.time ≡ old.time + call
  pub reads : new.may_leave new.reads
  pub stood : (s : Standing) → StandsFor id old.reads s → IsLostAt id s call old new
  pub stood_for_none : standing_on_disk id old.reads ≡ None → (call ≤ 5) × IsReadOnly old new
  pub moments : LeavesOnly old new (IsOpening id old)

-- memory was refused in one of them
pub record IsOpeningRefused (id : ℕ) (old new : DiskView) : Type 0 where
  pub stood : (s : Standing) → StandsFor id old.reads s → StandsForState id s.on.content new.reads
  pub stood_for_none : standing_on_disk id old.reads ≡ None → IsReadOnly old new
  pub calls : new.time ≤ old.time + 16
  pub unstruck : IsUnstruck old new
  pub moments : LeavesOnly old new (IsOpening id old)

-- ---- the same in the account of a replica's events

-- a disk of the older format is that of the definitions as it is made, as it goes over to the newer one, and as a strike in
-- one of those calls leaves it
pub record MigratesAsDefined : Type 0 where
  pub made : (s : Stored) → disk_in [] (created_old s) ≡ old_disk s
  pub opened_is : (s : Standing) → disk_of [] (opened s) ≡ migrated (disk_in [] s)
  pub struck : (s : Standing) (call : ℕ) (blow : Blow) (fill : List ℕ) →
      disk_in [] (standing_left s call blow fill) ≡ recovery_outcome (disk_in [] s) (strike_at call blow fill)

-- ---- a new disk of the older format

-- in seven calls; after an error the disk may be no store
pub record IsMadeOld (id : ℕ) (s : Stored) (old new : DiskView) : Type 0 where
  pub stands : StandsFor id new.reads (created_old s)
  pub rest : IsAtRest new
  pub time : new.time ≡ old.time + 7
  pub unstruck : IsUnstruck old new

abbrev pub MakesOld : {D : Type 0} → (D → DiskView) → ℕ → Stored → DiskView → Result D (CommitErr D) → Type 0
MakesOld view id s old (Ok disk) = IsMadeOld id s old (view disk)
MakesOld view id s old (Err (Lost disk)) = IsLostWithin 7 old (view disk)
MakesOld view id s old (Err (NoMemory disk)) = IsRefusedWithin 7 old (view disk)

-- what ended the making of the disk
abbrev pub format_fault : {D : Type 0} → FormatErr D → CommitErr D
format_fault (FormatLost disk) = Lost disk
format_fault (FormatNoMemory disk) = NoMemory disk
