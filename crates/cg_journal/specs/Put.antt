-- A write and its sync on a disk at rest.
use Rattle.std.specs.Prelude.{◌≡◌, ◌⊎◌, ℕ, ◌+◌, ◌<◌, List, length, Some, Result, Ok, Err}
use Rattle.cg_base.specs.declared.limits.TheConstants.{NUMBER_LIMIT}
use Rattle.cg_disk.specs.Sides.{Image, bytes_of, with_bytes}
use Rattle.cg_disk.specs.Writes.{TornSide, overwritten}
use Rattle.cg_disk.specs.State.{DiskState, DiskStrike, Blow, Fails, Stops, synced_side, wrote}
use Rattle.cg_disk.specs.View.{DiskView, IsAtRest}
use Rattle.cg_disk.specs.Calls.{HasImages}
use Rattle.cg_disk.specs.declared.disk.Side.{Side}
use Rattle.cg_disk.specs.declared.disk.DiskFault.{DiskFault}
use Rattle.cg_disk.specs.declared.disk.DiskFault.TheVariants.{Failed, NoMemory}
use Rattle.cg_journal.specs.Strikes.{IsUnstruck, IsStruck}

-- the bytes of both sides after a write on one
abbrev pub put_on : Side → ℕ → List ℕ → Image → Image
put_on side offset bytes image = with_bytes side (overwritten (bytes_of side image) offset bytes) image

-- the bytes are written and synced
pub record IsPut (side : Side) (offset : ℕ) (bytes : List ℕ) (old new : DiskView) : Type 0 where
  pub reads : new.reads ≡ put_on side offset bytes old.reads
  pub rest : IsAtRest new
  pub time : new.time ≡ old.time + 2
  pub unstruck : IsUnstruck old new
  pub short : offset + length bytes < NUMBER_LIMIT

-- what a strike in the first or the second of the two calls leaves of the sides that a disk tells
abbrev pub CutBy : Blow → DiskState → DiskState → ℕ → DiskState → Type 0
CutBy Stops s w calls e = (e.a ≡ w.a) × (e.b ≡ w.b)
CutBy Fails s w calls e = (calls ≡ 1 → (e.a ≡ s.a) × (e.b ≡ s.b))
    × (calls ≡ 2 → (e.a ≡ synced_side w.a) × (e.b ≡ synced_side w.b))

pub record IsCutState (side : Side) (offset : ℕ) (bytes : List ℕ) (calls : ℕ) (s e : DiskState) : Type 0 where
  pub strike : DiskStrike
  pub armed : s.strike ≡ Some strike
  pub left : CutBy strike.blow s (wrote side offset bytes s) calls e

-- the write or its sync is struck
pub record IsCut (side : Side) (offset : ℕ) (bytes : List ℕ) (calls : ℕ) (old new : DiskView) : Type 0 where
  pub struck : IsStruck old new
  pub time : new.time ≡ old.time + calls
  pub first_or_second : (calls ≡ 1) ⊎ (calls ≡ 2)
  pub images : (c : Image) → new.may_leave c → TornSide side offset (length bytes) old.reads c
  pub reads : calls ≡ 2 → new.reads ≡ put_on side offset bytes old.reads
  pub has : HasImages new
  pub told : (s : DiskState) → old.state ≡ Some s → (e : DiskState) × (new.state ≡ Some e)
      × IsCutState side offset bytes calls s e

-- nothing was written, since memory was refused
pub record IsKept (old new : DiskView) : Type 0 where
  pub reads : new.reads ≡ old.reads
  pub rest : IsAtRest new
  pub time : new.time ≡ old.time
  pub unstruck : IsUnstruck old new

abbrev pub Puts : {T : Type 0} → Side → ℕ → List ℕ → DiskView → DiskView → Result T DiskFault → Type 0
Puts side offset bytes old new (Ok _) = IsPut side offset bytes old new
Puts side offset bytes old new (Err Failed) = (calls : ℕ) × IsCut side offset bytes calls old new
Puts side offset bytes old new (Err NoMemory) = IsKept old new
