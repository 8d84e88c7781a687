-- How the calls of a store that write a record end: when it stands, when a call was struck, when memory was refused.
use Rattle.std.specs.Prelude.{◌≡◌, ◌≢◌, ℕ, ◌+◌, ◌≤◌, List, Some, Result, Ok, Err, slice_index, if◌then◌else◌}
use Rattle.cg_disk.specs.Sides.{Image, bytes_of}
use Rattle.cg_disk.specs.State.{DiskState, DiskStrike, left_by}
use Rattle.cg_disk.specs.View.{DiskView, IsAtRest, LeavesOnly}
use Rattle.cg_disk.specs.declared.disk.Side.{Side}
use Rattle.cg_journal.specs.Adds.{gate_stands}
use Rattle.cg_journal.specs.Strikes.{IsUnstruck, IsStruck}
use Rattle.cg_store.specs.Stands.{OnDisk, Stands}
use Rattle.cg_store.specs.declared.errors.CommitErr.{CommitErr}
use Rattle.cg_store.specs.declared.errors.CommitErr.TheVariants.{Lost, NoMemory}

-- behind so many calls the disk, as it reads and in every image, stands for this
pub record IsReached (id calls : ℕ) (after : OnDisk) (old new : DiskView) : Type 0 where
  pub stands : Stands id new.reads after
  pub rest : IsAtRest new
  pub time : new.time ≡ old.time + calls
  pub unstruck : IsUnstruck old new

-- memory was refused behind at most so many calls: the disk, as it reads and in every image, stands for this
pub record IsRefused (id calls : ℕ) (before : OnDisk) (old new : DiskView) : Type 0 where
  pub stands : Stands id new.reads before
  pub rest : IsAtRest new
  pub time : new.time ≤ old.time + calls
  pub unstruck : IsUnstruck old new

-- the byte at a gate decides what an image stands for
pub record Decides (id : ℕ) (side : Side) (gate : ℕ) (before after : OnDisk) (c : Image) : Type 0 where
  pub opened : slice_index (bytes_of side c) gate ≡ 1 → Stands id c after
  pub closed : slice_index (bytes_of side c) gate ≢ 1 → Stands id c before

-- what a disk tells that was struck in one of the four calls of a record: what each fill leaves
pub record IsCutShort (id call : ℕ) (before after : OnDisk) (s e : DiskState) : Type 0 where
  pub strike : DiskStrike
  pub armed : s.strike ≡ Some strike
  pub fills : (fill : List ℕ) → Stands id (left_by e fill) (if gate_stands strike.blow call fill then after else before)

-- behind so many calls one of the four that write a record was struck: the byte at its gate decides
pub record IsLost (id earlier : ℕ) (before after : OnDisk) (old new : DiskView) : Type 0 where
  pub call : ℕ
  pub side : Side
  pub gate : ℕ
  pub struck : IsStruck old new
  pub time : new.time ≡ old.time + earlier + call
  pub within : (1 ≤ call) × (call ≤ 4)
  pub gates : (c : Image) → new.may_leave c → Decides id side gate before after c
  pub early : call ≤ 2 → (c : Image) → new.may_leave c → Stands id c before
  pub last : call ≡ 4 → Stands id new.reads after
  pub reads : new.may_leave new.reads
  pub told : (s e : DiskState) → old.state ≡ Some s → new.state ≡ Some e → IsCutShort id call before after s e

-- a crash at each moment of a call leaves an image that has P
abbrev pub EachMoment : {T D : Type 0} → (D → DiskView) → (T → D) → (Image → Type 0) → DiskView →
    Result T (CommitErr D) → Type 0
EachMoment view disk_in P old (Ok done) = LeavesOnly old (view (disk_in done)) P
EachMoment view disk_in P old (Err (Lost disk)) = LeavesOnly old (view disk) P
EachMoment view disk_in P old (Err (NoMemory disk)) = LeavesOnly old (view disk) P
