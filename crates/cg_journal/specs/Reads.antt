-- A run of calls that only look, or sync.
use Rattle.std.specs.Prelude.{◌≡◌, ℕ, ◌+◌, ◌≤◌, Result, Ok, Err}
use Rattle.cg_disk.specs.Sides.{Image}
use Rattle.cg_disk.specs.View.{DiskView, IsAtRest, LeavesOnly}
use Rattle.cg_disk.specs.Calls.{HasImages}
use Rattle.cg_disk.specs.declared.disk.DiskFault.{DiskFault}
use Rattle.cg_disk.specs.declared.disk.DiskFault.TheVariants.{Failed, NoMemory}
use Rattle.cg_journal.specs.Strikes.{IsUnstruck, IsStruck}

-- what a read gives stays, and a crash at each moment leaves what it might have left before
pub record IsReadOnly (old new : DiskView) : Type 0 where
  pub reads : new.reads ≡ old.reads
  pub images : (c : Image) → new.may_leave c → old.may_leave c
  pub moments : LeavesOnly old new old.may_leave

pub record IsRead (calls : ℕ) (old new : DiskView) : Type 0 where
  pub only : IsReadOnly old new
  pub rest : IsAtRest new
  pub time : new.time ≡ old.time + calls
  pub unstruck : IsUnstruck old new

pub record IsReadStruck (calls : ℕ) (old new : DiskView) : Type 0 where
  pub only : IsReadOnly old new
  pub time : new.time ≤ old.time + calls
  pub struck : IsStruck old new
  pub has : HasImages new

pub record IsReadRefused (calls : ℕ) (old new : DiskView) : Type 0 where
  pub only : IsReadOnly old new
  pub time : new.time ≤ old.time + calls
  pub unstruck : IsUnstruck old new

abbrev pub Reads : {T : Type 0} → ℕ → DiskView → DiskView → Result T DiskFault → Type 0
Reads calls old new (Ok _) = IsRead calls old new
Reads calls old new (Err Failed) = IsReadStruck calls old new
Reads calls old new (Err NoMemory) = IsReadRefused calls old new
