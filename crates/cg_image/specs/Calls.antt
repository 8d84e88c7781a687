-- What the calls of a disk do on which nothing is armed.
use Rattle.std.specs.Prelude.{◌≡◌, ℕ, ◌+◌, None, Some}
use Rattle.cg_disk.specs.Crashes.{clean_disk}
use Rattle.cg_disk.specs.Sides.{Image}
use Rattle.cg_disk.specs.State.{DiskState}
use Rattle.cg_disk.specs.View.{DiskView, IsAtRest}

-- the disk tells its state, and nothing is armed on it
pub record IsUnarmed (d : DiskView) : Type 0 where
  pub state : DiskState
  pub told : d.state ≡ Some state
  pub unarmed : state.strike ≡ None

-- so many calls have only looked
pub record IsSeen (calls : ℕ) (old new : DiskView) : Type 0 where
  pub reads : new.reads ≡ old.reads
  pub time : new.time ≡ old.time + calls
  pub unarmed : IsUnarmed new

-- a call that isn't struck has done this to the state
pub record IsDone (done : DiskState → DiskState) (old new : DiskView) : Type 0 where
  pub time : new.time ≡ old.time + 1
  pub faults : new.faults ≡ old.faults
  pub state : (s : DiskState) → old.state ≡ Some s → new.state ≡ Some (done s)

-- the disk has this image, nothing is unsynced on it, and nothing is armed; so many calls were made
pub record IsDiskOf (image : Image) (calls : ℕ) (d : DiskView) : Type 0 where
  pub reads : d.reads ≡ image
  pub state : d.state ≡ Some (clean_disk image)
  pub time : d.time ≡ calls
  pub faults : d.faults ≡ 0
  pub rest : IsAtRest d
