-- The laws of what a replica holds and of its disk, without a step.
use Rattle.std.specs.Prelude.{◌≡◌, ℕ, List, Some}
use Rattle.cg_base.specs.declared.weighted.Weighted.{Weighted}
use Rattle.cg_queue.specs.Queue.{green_count}
use Rattle.cg_client.specs.Replica.{Held, fresh_held}
use Rattle.cg_client.specs.Calls.{IsLineGreen}
use Rattle.cg_disk_records.specs.Stored.{Stored, stored_of, whiten, recovery_turn}
use Rattle.cg_disk_records.specs.declared.change.Change.{Change}
use Rattle.cg_disk_records.specs.Limits.{IsStored}
use Rattle.cg_disk_records.specs.Following.{know, green_by_name, make, all_of, after_change}
use Rattle.cg_disk_records.specs.Agreeing.{Agrees}
use Rattle.cg_disk_records.specs.Holds.{Holds}

-- it holds of a new replica, and is kept by a commit's white count, on the disk and by a recovery; it holds of a checkpoint
-- whose parts agree, and is kept by each change that fits, also before its values are put in and the white count rises
pub record AlwaysHolds : Type 0 where
  pub fresh : (id : ℕ) (set : List Weighted) → Holds (fresh_held id set)
  pub whitened : (h : Held) → Holds h → Holds (whiten h)
  pub stored : (h : Held) → Holds h → Holds (stored_of h)
  pub recovered : (s : Stored) → Holds s → Holds (recovery_turn s).replica.held
  pub marked : (s : Stored) (c : Change) (t : Stored) → Holds s →
      all_of make (all_of green_by_name (all_of know (Some s) c.known) c.green) c.made ≡ Some t → Holds t
  pub changed : (s : Stored) (c : Change) (t : Stored) → Holds s → after_change s c ≡ Some t → Holds t
  pub opened : (s : Stored) → Agrees s → IsStored s → Holds s

-- no server is ahead of the greens, and a commit makes none of them
pub record AlwaysCounts : Type 0 where
  pub line : (h : Held) → Holds h → IsLineGreen h
  pub same_count : (h : Held) → Holds h → green_count (whiten h).queue ≡ green_count h.queue

-- what a commit leaves has a checkpoint
abbrev pub AlwaysSettled : Type 0
AlwaysSettled = (h : Held) → Holds h → Agrees (stored_of (whiten h))

-- what holds has a checkpoint
abbrev pub AlwaysAgrees : Type 0
AlwaysAgrees = (h : Held) → Holds h → Agrees (stored_of h)
