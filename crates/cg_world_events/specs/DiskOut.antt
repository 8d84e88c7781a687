-- The disk of a replica, as it is handed out.
use Rattle.std.specs.Prelude.{◌≡◌, ◌≤◌, ◌+◌, ℕ, Option, Some, None, IfSome}
use Rattle.cg_base.specs.declared.limits.TheConstants.{COUNT_LIMIT}
use Rattle.cg_disk.specs.View.{DiskView, IsAtRest}
use Rattle.cg_disk_records.specs.Crash.{Disk}
use Rattle.cg_model.specs.World.{World, node_of, disk_at}
use Rattle.cg_store.specs.Images.{IsImageOf}
use Rattle.cg_world_events.specs.declared.limits.TheConstants.{RECOVERY_CALLS}

-- what is read of it is an image of this disk; nothing on it is unsynced, nothing is armed, and there is room for the calls of a recovery
pub record HoldsDisk (id : ℕ) (disk : Disk) (d : DiskView) : Type 0 where
  pub image : IsImageOf id disk d.reads
  pub rest : IsAtRest d
  pub unarmed : IfSome d.state (λ s. s.strike ≡ None)
  pub room : d.time + RECOVERY_CALLS ≤ COUNT_LIMIT

-- the disk that the world holds for the replica; none where it hasn't begun
abbrev pub GivesDisk : {D : Type 0} → (D → DiskView) → World → ℕ → Option D → Type 0
GivesDisk view w p None = node_of w p ≡ None
GivesDisk view w p (Some d) = (disk : Disk) × (disk_at w p ≡ Some disk) × HoldsDisk p disk (view d)
