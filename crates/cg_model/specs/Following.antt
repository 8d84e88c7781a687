-- A replica and its disk: what holds of the two together, event by event, whatever strikes.
use Rattle.std.specs.Prelude.{◌≡◌, ◌⊎◌, []}
use Rattle.cg_base.specs.declared.action_id.ActionId.{ActionId}
use Rattle.cg_action.specs.declared.action.Action.{Action}
use Rattle.cg_client.specs.Replica.{Held, Replica}
use Rattle.cg_client.specs.Turn.{Turn}
use Rattle.cg_disk_records.specs.Stored.{Stored, stored_of, whiten}
use Rattle.cg_disk_records.specs.Following.{IsAhead}
use Rattle.cg_states.specs.ReplicaStep.{Input, replica_step}
use Rattle.cg_disk_records.specs.Crash.{Disk, new_disk, EventEnd, Runs, Crashes, end_event, at_rest, recovered, disk_recovered}
use Rattle.cg_disk_records.specs.Holds.{Holds}
use Rattle.cg_model.specs.Recorded.{AreBooked}

-- what stands on a disk holds, and has nothing that is kept in memory alone
pub record DiskHolds (disk : Disk) : Type 0 where
  pub content : Holds disk.content
  pub buffered : disk.content.buffered ≡ []
  pub owed : disk.content.owed ≡ []

-- a replica holds what stands on its disk, and the red marks that stand in no record
pub record Follows (disk : Disk) (h : Held) : Type 0 where
  pub on_disk : DiskHolds disk
  pub held : Holds h
  pub ahead : IsAhead disk.content disk.unwritten h

-- behind an event the replica follows its disk; behind a crash the disk has what stood there before, or what the event's
-- commit leaves
abbrev pub EndsFollowing : Disk → Turn → EventEnd → Type 0
EndsFollowing disk t (Runs r after) = Follows after r.held
EndsFollowing disk t (Crashes after green) =
    DiskHolds after × (after.unwritten ≡ [])
    × ((after.content ≡ disk.content) ⊎ (after.content ≡ stored_of (whiten t.replica.held)))

-- a replica follows its disk from a new disk on, through each event and after each recovery
pub record AlwaysFollows : Type 0 where
  pub new : (s : Stored) → Holds s → s.buffered ≡ [] → s.owed ≡ [] → Follows (new_disk s) s
  pub event : (disk : Disk) (r : Replica) (input : Input) (book : ActionId → Action) → Follows disk r.held →
      AreBooked book r.held input →
      EndsFollowing disk (replica_step r input) (end_event disk r.held (replica_step r input))
  pub crash : (disk : Disk) → DiskHolds disk → DiskHolds (at_rest disk)
  pub recovery : (disk : Disk) → DiskHolds disk → Follows (disk_recovered disk) (recovered disk).held
