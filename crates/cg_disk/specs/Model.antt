-- A disk in memory as contracts see it.
use Rattle.std.specs.Prelude.{◌≡◌, ℕ, ◌⊎◌, suc, Option, Some, None, Result, Ok, Err, List, [], ◌∷◌, reverse}
use Rattle.cg_disk.specs.State.{SideState, DiskState, DiskStrike, Fails, Stops, Leaves, blow_at, wrote}
use Rattle.cg_disk.specs.View.{DiskView}
use Rattle.cg_disk.specs.Undo.{side_after}
use Rattle.cg_disk.specs.Armed.{strike_of}
use Rattle.cg_disk.specs.Past.{SyncPoint, MayHaveLeft}
use Rattle.cg_disk.specs.declared.disk.Side.{Side}
use Rattle.cg_disk.specs.declared.disk.DiskFault.{DiskFault}
use Rattle.cg_disk.specs.declared.disk.DiskFault.TheVariants.{Failed, NoMemory}
use Rattle.cg_disk.specs.declared.written.Written.{Written}
use Rattle.cg_disk.specs.declared.model_side.ModelSide.{ModelSide}
use Rattle.cg_disk.specs.declared.model_disk.ModelDisk.{ModelDisk}

abbrev pub writes_of : ModelSide → List Written
writes_of s = reverse s.unsynced.items

abbrev pub side_of : ModelSide → SideState
side_of s = side_after s.bytes.items (writes_of s)

abbrev pub points_of : ModelDisk → List SyncPoint
points_of m = m.past

abbrev pub state_of : ModelDisk → DiskState
state_of m = record { a = side_of m.a; b = side_of m.b; strike = strike_of m.calls m.armed }

-- what contracts see of a disk with these sides, this strike, so many calls and faults, so many calls before the last
-- `begin`, and these sync points since
abbrev pub view_with : SideState → SideState → Option DiskStrike → ℕ → ℕ → ℕ → List SyncPoint → DiskView
view_with a b strike calls faults begun points = record {
  reads = record { a = a.seen; b = b.seen };
  may_leave = Leaves a b;
  left_since = MayHaveLeft a b calls begun points;
  time = calls;
  faults = faults;
  state = Some (record { a = a; b = b; strike = strike });
}

abbrev pub view_of : ModelDisk → DiskView
view_of m = view_with (side_of m.a) (side_of m.b) (strike_of m.calls m.armed) m.calls m.faults m.begun (points_of m)

-- both sides, the sync points and the moments answered for are as before
pub record SameSides (old new : ModelDisk) : Type 0 where
  pub bytes_a : new.a.bytes.items ≡ old.a.bytes.items
  pub bytes_b : new.b.bytes.items ≡ old.b.bytes.items
  pub writes_a : new.a.unsynced.items ≡ old.a.unsynced.items
  pub writes_b : new.b.unsynced.items ≡ old.b.unsynced.items
  pub past : new.past ≡ old.past
  pub begun : new.begun ≡ old.begun

-- a sync point with all writes since the last one was added
pub record HasPoint (old new : ModelDisk) : Type 0 where
  pub point : SyncPoint
  pub more : points_of new ≡ point ∷ points_of old
  pub call : point.call ≡ new.calls
  pub a : reverse point.a ≡ writes_of old.a
  pub b : reverse point.b ≡ writes_of old.b

-- all writes count as synced
pub record Settles (old new : ModelDisk) : Type 0 where
  pub bytes_a : new.a.bytes.items ≡ old.a.bytes.items
  pub bytes_b : new.b.bytes.items ≡ old.b.bytes.items
  pub writes_a : new.a.unsynced.items ≡ []
  pub writes_b : new.b.unsynced.items ≡ []
  pub begun : new.begun ≡ old.begun
  pub past : HasPoint old new

-- a call was counted that nothing strikes
pub record IsCounted (old new : ModelDisk) : Type 0 where
  pub same : SameSides old new
  pub calls : new.calls ≡ suc old.calls
  pub faults : new.faults ≡ old.faults
  pub strike : strike_of new.calls new.armed ≡ strike_of old.calls old.armed
  pub unstruck : blow_at (strike_of old.calls old.armed) new.calls ≡ None

-- a call was counted in which the disk stops
pub record IsStopped (old new : ModelDisk) : Type 0 where
  pub same : SameSides old new
  pub calls : new.calls ≡ suc old.calls
  pub faults : new.faults ≡ suc old.faults
  pub struck : blow_at (strike_of old.calls old.armed) new.calls ≡ Some Stops
  pub strike : strike_of new.calls new.armed ≡ Some (record { call = suc new.calls; blow = Stops })

-- a call was counted that fails once
pub record FailsOnce (old new : ModelDisk) : Type 0 where
  pub settles : Settles old new
  pub calls : new.calls ≡ suc old.calls
  pub faults : new.faults ≡ suc old.faults
  pub struck : blow_at (strike_of old.calls old.armed) new.calls ≡ Some Fails
  pub strike : strike_of new.calls new.armed ≡ None

-- how a call was counted
abbrev pub Counts : {T : Type 0} → ModelDisk → ModelDisk → Result T DiskFault → Type 0
Counts old new (Ok _) = IsCounted old new
Counts old new (Err Failed) = IsStopped old new ⊎ FailsOnce old new
Counts old new (Err NoMemory) = ⊥

-- these bytes were written on a side, and nothing else has changed of the sides and the sync points
pub record IsWritten (side : Side) (offset : ℕ) (bytes : List ℕ) (old new : ModelDisk) : Type 0 where
  pub a : side_of new.a ≡ (wrote side offset bytes (state_of old)).a
  pub b : side_of new.b ≡ (wrote side offset bytes (state_of old)).b
  pub past : new.past ≡ old.past
  pub begun : new.begun ≡ old.begun
