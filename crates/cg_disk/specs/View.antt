-- What contracts see of a disk.
use Rattle.std.specs.Prelude.{◌≡◌, ℕ, ◌≤◌, ◌<◌, ◌⊎◌, Option, IfSome}
use Rattle.cg_disk.specs.Sides.{Image}
use Rattle.cg_disk.specs.State.{DiskState, shown, synced_side}
use Rattle.cg_disk.specs.Writes.{Only}

-- what a read gives; what a crash now may leave; what a crash at some moment since a time may have left; the time,
-- which is the number of calls made; how often the disk has failed; and its state, where it tells it
pub record DiskView : Type 1 where
  pub reads : Image
  pub may_leave : Image → Type 0
  pub left_since : ℕ → Image → Type 0
  pub time : ℕ
  pub faults : ℕ
  pub state : Option DiskState

-- this moment is one of those since an earlier one, and since this moment there is no other; a told state shows what a
-- read gives, and its strike is still to come
pub record IsView (d : DiskView) : Type 0 where
  pub counts_now : (t : ℕ) (c : Image) → t ≤ d.time → d.may_leave c → d.left_since t c
  pub only_now : (c : Image) → d.left_since d.time c → d.may_leave c
  pub shows : IfSome d.state (λ s. shown s ≡ d.reads)
  pub ahead : IfSome d.state (λ s. IfSome s.strike (λ strike. d.time < strike.call))

-- a crash at any moment since the old view leaves an image that has P
pub record LeavesOnly (old new : DiskView) (P : Image → Type 0) : Type 0 where
  pub later : old.time ≤ new.time
  pub each : (c : Image) → new.left_since old.time c → P c
  -- for a run that began earlier
  pub before : (t : ℕ) (c : Image) → t ≤ old.time → new.left_since t c → old.left_since t c ⊎ P c

-- nothing is unsynced on either side
abbrev pub IsSynced : DiskState → Type 0
IsSynced s = (s.a ≡ synced_side s.a) × (s.b ≡ synced_side s.b)

-- a crash now leaves what a read gives, and where the disk tells its state nothing is unsynced
pub record IsAtRest (d : DiskView) : Type 0 where
  pub only : Only d.reads d.may_leave
  pub clean : IfSome d.state IsSynced
