-- A follower of a run, as what its disk stands for.
use Rattle.std.specs.Prelude.{ℕ, Option}
use Rattle.cg_disk_records.specs.Crash.{Strike}
use Rattle.cg_follow.specs.Followed.{Followed}

-- a follower is up, with the stop that is armed on its disk; or it is down, and its disk stands for this
pub data Life : Type 0 where
  Up : (now : Followed) (armed : Option Strike) → Life
  Fallen : (left : Followed) → Life

-- a follower: its number, the cursor that was last shown of it, and how it stands
pub record Follower : Type 0 where
  pub id : ℕ
  pub shown : ℕ
  pub life : Life
