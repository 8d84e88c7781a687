-- A feed: how it ends where its record stands, where one of its calls was struck, and where memory was refused.
use Rattle.std.specs.Prelude.{◌≡◌, ◌≢◌, ℕ, ◌+◌, ◌≤◌, List, Some, slice_index, if◌then◌else◌}
use Rattle.cg_disk.specs.Sides.{Image}
use Rattle.cg_disk.specs.State.{DiskState, DiskStrike, left_by}
use Rattle.cg_disk.specs.View.{DiskView, IsAtRest}
use Rattle.cg_journal.specs.Adds.{gate_stands}
use Rattle.cg_journal.specs.Strikes.{IsUnstruck, IsStruck}
use Rattle.cg_follow.specs.Followed.{Followed}
use Rattle.cg_follow.specs.Stands.{Stands}

-- behind so many calls the disk, as it reads and in every image, stands for this follower
pub record IsReached (calls : ℕ) (after : Followed) (old new : DiskView) : Type 0 where
  pub stands : Stands new.reads after
  pub rest : IsAtRest new
  pub time : new.time ≡ old.time + calls
  pub unstruck : IsUnstruck old new

-- memory was refused behind at most so many calls: it stands for the follower before
pub record IsRefused (calls : ℕ) (before : Followed) (old new : DiskView) : Type 0 where
  pub stands : Stands new.reads before
  pub rest : IsAtRest new
  pub time : new.time ≤ old.time + calls
  pub unstruck : IsUnstruck old new

-- the byte at a gate of side A decides which follower an image stands for
pub record Decides (gate : ℕ) (before after : Followed) (c : Image) : Type 0 where
  pub opened : slice_index c.a gate ≡ 1 → Stands c after
  pub closed : slice_index c.a gate ≢ 1 → Stands c before

-- what a disk tells that was struck in one of the four calls of a feed: what each fill leaves
pub record IsCutShort (call : ℕ) (before after : Followed) (s e : DiskState) : Type 0 where
  pub strike : DiskStrike
  pub armed : s.strike ≡ Some strike
  pub fills : (fill : List ℕ) → Stands (left_by e fill) (if gate_stands strike.blow call fill then after else before)

-- one of the four calls was struck. In the first two the feed is on no image; in the third and the fourth it is on
-- those in which the gate is open; after a failure in the fourth it can be read
pub record IsLost (before after : Followed) (old new : DiskView) : Type 0 where
  pub call : ℕ
  pub gate : ℕ
  pub struck : IsStruck old new
  pub time : new.time ≡ old.time + call
  pub within : (1 ≤ call) × (call ≤ 4)
  pub gates : (c : Image) → new.may_leave c → Decides gate before after c
  pub early : call ≤ 2 → (c : Image) → new.may_leave c → Stands c before
  pub last : call ≡ 4 → Stands new.reads after
  pub reads : new.may_leave new.reads
  pub told : (s e : DiskState) → old.state ≡ Some s → new.state ≡ Some e → IsCutShort call before after s e
