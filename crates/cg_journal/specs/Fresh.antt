-- Both sides of a disk without records.
use Rattle.std.specs.Prelude.{◌≡◌, ℕ, ◌+◌, ◌≤◌, List, [], Result, Ok, Err}
use Rattle.cg_disk.specs.View.{DiskView, IsAtRest}
use Rattle.cg_disk.specs.Writes.{overwritten}
use Rattle.cg_disk.specs.declared.disk.DiskFault.{DiskFault}
use Rattle.cg_disk.specs.declared.disk.DiskFault.TheVariants.{Failed, NoMemory}
use Rattle.cg_journal.specs.Records.{HasRecords}
use Rattle.cg_journal.specs.Strikes.{IsUnstruck, IsStruck}

-- a fault, after at most so many calls
pub record IsLostWithin (calls : ℕ) (old new : DiskView) : Type 0 where
  pub struck : IsStruck old new
  pub time : new.time ≤ old.time + calls

-- memory refused, after at most so many calls
pub record IsRefusedWithin (calls : ℕ) (old new : DiskView) : Type 0 where
  pub unstruck : IsUnstruck old new
  pub time : new.time ≤ old.time + calls

-- these bytes stand at the front of both sides
pub record HasFronts (front : List ℕ) (old new : DiskView) : Type 0 where
  pub a : new.reads.a ≡ overwritten old.reads.a 0 front
  pub b : new.reads.b ≡ overwritten old.reads.b 0 front
  pub rest : IsAtRest new
  pub time : new.time ≡ old.time + 3
  pub unstruck : IsUnstruck old new

abbrev pub PutsFronts : {T : Type 0} → List ℕ → DiskView → DiskView → Result T DiskFault → Type 0
PutsFronts front old new (Ok _) = HasFronts front old new
PutsFronts front old new (Err Failed) = IsLostWithin 3 old new
PutsFronts front old new (Err NoMemory) = IsRefusedWithin 1 old new

pub record IsFresh (old new : DiskView) : Type 0 where
  pub on_a : HasRecords new.reads.a 9 []
  pub on_b : HasRecords new.reads.b 9 []
  pub rest : IsAtRest new
  pub time : new.time ≡ old.time + 3
  pub unstruck : IsUnstruck old new

abbrev pub FormatsSides : {T : Type 0} → DiskView → DiskView → Result T DiskFault → Type 0
FormatsSides old new (Ok _) = IsFresh old new
FormatsSides old new (Err Failed) = IsLostWithin 3 old new
FormatsSides old new (Err NoMemory) = IsRefusedWithin 1 old new
