-- What is known of the disk of a replica that is down.
use Rattle.std.specs.Prelude.{◌≡◌, ◌≤◌, ◌+◌, ℕ, None, IfSome}
use Rattle.cg_base.specs.declared.limits.TheConstants.{COUNT_LIMIT}
use Rattle.cg_disk.specs.View.{DiskView, IsAtRest}
use Rattle.cg_store.specs.Formats.{Standing, StandsFor}
use Rattle.cg_world_events.specs.declared.limits.TheConstants.{RECOVERY_CALLS}

-- the disk stands for a state, nothing on it is unsynced, nothing is armed, and there is room for the calls of a recovery
pub record IsCrashedDisk (d : DiskView) (id : ℕ) : Type 0 where
  pub standing : Standing
  pub stands : StandsFor id d.reads standing
  pub rest : IsAtRest d
  pub unarmed : IfSome d.state (λ s. s.strike ≡ None)
  pub room : d.time + RECOVERY_CALLS ≤ COUNT_LIMIT
