-- A side that goes over to the newer format with one record in place of all that it has, in seven calls: its gate is
-- closed, its header and the record are written behind the closed gate, and the gate is opened.
use Rattle.std.specs.Prelude.{◌≡◌, ◌≢◌, ◌⊎◌, ℕ, ◌+◌, ◌-◌, ◌≤◌, List, [], ◌∷◌, Some, Result, Ok, Err}
use Rattle.cg_base.specs.Choice.{Either}
use Rattle.cg_disk.specs.Sides.{Image, bytes_of, opposite}
use Rattle.cg_disk.specs.State.{DiskState, DiskStrike, left_by}
use Rattle.cg_disk.specs.View.{DiskView, IsAtRest, LeavesOnly}
use Rattle.cg_disk.specs.declared.disk.Side.{Side}
use Rattle.cg_journal.specs.Strikes.{IsUnstruck, IsStruck}
use Rattle.cg_journal.specs.Adds.{gate_stands}
use Rattle.cg_journal.specs.Found.{Sides, sides, blank, with_found, found_at}
use Rattle.cg_journal.specs.declared.open.MigrateErr.{MigrateErr}
use Rattle.cg_journal.specs.declared.open.MigrateErr.TheVariants.{Lost, NoMemory}

-- this is found on the disk, and the other side has a format, so that the disk stays a journal whatever stands at the
-- front of this one
pub record MayGo (side : Side) (s : Sides) (d : DiskView) : Type 0 where
  pub found : sides d.reads ≡ Some s
  pub other : (found_at (opposite side) s).version ≢ 0

-- the side has no records, whichever format its header names
pub record IsBlank (side : Side) (s : Sides) (c : Image) : Type 0 where
  pub version : ℕ
  pub is : sides c ≡ Some (with_found side (blank version) s)

-- the side is as before, or has no records
abbrev pub IsUnrenewed : Side → Sides → Image → Type 0
IsUnrenewed side s c = (sides c ≡ Some s) ⊎ IsBlank side s c

-- the side with this record alone, in the newer format
abbrev pub renewed : Side → List ℕ → Sides → Sides
renewed side body s = with_found side (record { version = 2; bodies = body ∷ [] }) s

abbrev pub IsRenewed : Side → List ℕ → Sides → Image → Type 0
IsRenewed side body s c = sides c ≡ Some (renewed side body s)

-- an image at any moment
abbrev pub IsRenewing : Side → List ℕ → Sides → Image → Type 0
IsRenewing side body s c = IsUnrenewed side s c ⊎ IsRenewed side body s c

-- what a disk tells that was struck in one of the seven calls: the record's gate is written by the sixth and synced by
-- the seventh
pub record IsCutRenewal (side : Side) (body : List ℕ) (s : Sides) (call : ℕ) (before after : DiskState) : Type 0 where
  pub strike : DiskStrike
  pub armed : before.strike ≡ Some strike
  pub fills : (fill : List ℕ) → Either (gate_stands strike.blow (call - 3) fill)
      (IsRenewed side body s (left_by after fill)) (IsUnrenewed side s (left_by after fill))

pub record IsLostRenewal (side : Side) (body : List ℕ) (s : Sides) (old new : DiskView) : Type 0 where
  pub call : ℕ
  pub within : (1 ≤ call) × (call ≤ 7)
  pub struck : IsStruck old new
  pub time : new.time ≡ old.time + call
  pub images : (c : Image) → new.may_leave c → IsRenewing side body s c
  pub early : call ≤ 5 → (c : Image) → new.may_leave c → IsUnrenewed side s c
  pub reads : new.may_leave new.reads
  pub told : (d e : DiskState) → old.state ≡ Some d → new.state ≡ Some e → IsCutRenewal side body s call d e

-- the record stands there alone, in the newer format; the other side is as it was
pub record IsRenewedBy (side : Side) (body : List ℕ) (s : Sides) (old new : DiskView) : Type 0 where
  pub is : IsRenewed side body s new.reads
  pub other : bytes_of (opposite side) new.reads ≡ bytes_of (opposite side) old.reads
  pub rest : IsAtRest new
  pub time : new.time ≡ old.time + 7
  pub unstruck : IsUnstruck old new

-- memory was refused, behind at most five calls
pub record IsUnrenewedBy (side : Side) (s : Sides) (old new : DiskView) : Type 0 where
  pub is : IsUnrenewed side s new.reads
  pub other : bytes_of (opposite side) new.reads ≡ bytes_of (opposite side) old.reads
  pub rest : IsAtRest new
  pub time : new.time ≤ old.time + 5
  pub unstruck : IsUnstruck old new

abbrev pub Renews : {D : Type 0} → (D → DiskView) → Side → List ℕ → Sides → DiskView → Result D (MigrateErr D) → Type 0
Renews view side body s old (Ok journal) = IsRenewedBy side body s old (view journal)
Renews view side body s old (Err (Lost disk)) = IsLostRenewal side body s old (view disk)
Renews view side body s old (Err (NoMemory disk)) = IsUnrenewedBy side s old (view disk)

-- a crash at each moment of a call leaves an image that has P
abbrev pub MomentsOf : {D : Type 0} → (D → DiskView) → (Image → Type 0) → DiskView → Result D (MigrateErr D) → Type 0
MomentsOf view P old (Ok journal) = LeavesOnly old (view journal) P
MomentsOf view P old (Err (Lost disk)) = LeavesOnly old (view disk) P
MomentsOf view P old (Err (NoMemory disk)) = LeavesOnly old (view disk) P
