-- An engine, what a fault leaves of one, and what holds of an engine.
use Rattle.std.specs.Prelude.{◌≡◌, ℕ, nat_lt, List, [], if◌then◌else◌}
use Rattle.cg_base.specs.declared.action_id.ActionId.{ActionId}
use Rattle.cg_action.specs.declared.action.Action.{Action}
use Rattle.cg_disk.specs.View.{DiskView}
use Rattle.cg_queue.specs.Queue.{green_count}
use Rattle.cg_client.specs.Replica.{Held, Replica}
use Rattle.cg_model.specs.Following.{Follows}
use Rattle.cg_store.specs.StoreState.{StoreState}
use Rattle.cg_store.specs.Stands.{OnDisk, Stands, disk_of}

-- a replica that is up: its store, and what it is in memory
pub record Up (D : Type 0) : Type 0 where
  pub store : StoreState D
  pub replica : Replica

-- a replica that is down: its disk, whose it is, and the names that its last event had newly made green, behind so many
-- greens
pub record Fallen (D : Type 0) : Type 0 where
  pub disk : D
  pub id : ℕ
  pub count : ℕ
  pub green : List ActionId

-- the disk stands for a state that the replica follows
pub record IsEngine (d : DiskView) (id : ℕ) (unwritten : List Action) (h : Held) : Type 0 where
  pub standing : OnDisk
  pub stands : Stands id d.reads standing
  pub follows : Follows (disk_of unwritten standing) h

-- the names of the last event, where they are green in what is held now
abbrev pub told : {D : Type 0} → Fallen D → Held → List ActionId
told w h = if nat_lt w.count (green_count h.queue) then w.green else []

-- nothing is changed but the disk
pub record IsSame {D : Type 0} (old new : Up D) : Type 0 where
  pub id : new.store.id ≡ old.store.id
  pub unwritten : new.store.unwritten ≡ old.store.unwritten
  pub replica : new.replica ≡ old.replica
