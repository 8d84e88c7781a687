-- What an event leaves on its replica's disk, and what a crash inside of it does.
use Rattle.std.specs.Prelude.{ℕ, suc, ◌-◌, ◌==◌, nat_lt, nat_le, Bool, true, false, ◌&&◌, ◌||◌, List, [], ◌∷◌, ◌++◌, Option, Some, None, if◌then◌else◌}
use Rattle.cg_base.specs.declared.action_id.ActionId.{ActionId}
use Rattle.cg_action.specs.declared.action.Action.{Action}
use Rattle.cg_client.specs.Replica.{Held, Replica}
use Rattle.cg_client.specs.Turn.{Turn}
use Rattle.cg_disk_records.specs.Stored.{Stored, stored_of, whiten, recovery_turn}
use Rattle.cg_disk_records.specs.Change.{spelled_change, change_of}
use Rattle.cg_disk_records.specs.Checkpoint.{spelled_checkpoint, size_with, empty_size, size_limit}
use Rattle.cg_disk_records.specs.Commit.{commits}
use Rattle.cg_disk_records.specs.Format.{Format, Older, Newer, all_newer}

-- how a device call is to fail: once, or by a crash that leaves these bytes in the unsynced places
pub data Fault : Type 0 where
  FailOnce : Fault
  StopWith : (fill : List ℕ) → Fault

-- the device call, counted from now, at which a fault strikes
pub record Strike : Type 0 where
  pub call : ℕ
  pub fault : Fault

-- a disk: what stands on it, the length of the side in use and its generation, its format, and the strike that is armed;
-- and the red marks of its running replica that stand in no record yet, in their order
pub record Disk : Type 0 where
  pub content : Stored
  pub unwritten : List Action
  pub size : ℕ
  pub generation : ℕ
  pub format : Format
  pub armed : Option Strike

-- a disk that has this content in one checkpoint
abbrev pub new_disk : Stored → Disk
new_disk s = record {
  content = s;
  unwritten = [];
  size = size_with empty_size (spelled_checkpoint 1 s);
  generation = 1;
  format = all_newer;
  armed = None;
}

-- ---- one event

-- the disk after a commit without a checkpoint
unfoldable pub with_change : Disk → Turn → Disk
with_change disk t =
    record disk {
      content = stored_of (whiten t.replica.held);
      unwritten = [];
      size = size_with disk.size (spelled_change (change_of disk.unwritten t));
    }

-- the disk after a checkpoint, which goes to the other side
unfoldable pub with_checkpoint : Disk → Disk
with_checkpoint disk =
    record disk {
      size = size_with empty_size (spelled_checkpoint (suc disk.generation) disk.content);
      generation = suc disk.generation;
    }

-- how many device calls a commit makes that left the disk so: four, and six more for the checkpoint that follows where the side is too long
abbrev pub calls_of : Disk → ℕ
calls_of changed = if nat_lt size_limit changed.size then 10 else 4

-- the disk after a commit, with the checkpoint that it brings about
abbrev pub checkpointed : Disk → Disk
checkpointed changed = if nat_lt size_limit changed.size then with_checkpoint changed else changed

-- ---- a crash inside of it

-- the first byte left by a crash opens a gate
abbrev pub opens : List ℕ → Bool
opens [] = false
opens (byte ∷ fill) = byte == 1

-- the record that a gate opens stands there: after a failed call where the gate was written and its sync failed, and
-- after a crash in the gate's write or its sync where the first byte opens it
abbrev pub gate_stands : ℕ → ℕ → Fault → Bool
gate_stands write call FailOnce = nat_lt write call
gate_stands write call (StopWith fill) = nat_lt (suc write) call || (nat_le write call && opens fill)

-- the event's commit stands on the disk: its gate is written by the third call and synced by the fourth
abbrev pub is_committed : Strike → Bool
is_committed strike = gate_stands 3 strike.call strike.fault

-- so does its checkpoint, by the ninth and the tenth
abbrev pub is_checkpointed : Strike → Bool
is_checkpointed strike = gate_stands 9 strike.call strike.fault

-- a replica that is down has no marks in memory, and no strike is armed
abbrev pub at_rest : Disk → Disk
at_rest disk = record disk { unwritten = []; armed = None }

-- the disk that a crash leaves in a device call of an event
unfoldable pub crash_outcome : Disk → Turn → Strike → Disk
crash_outcome disk t strike =
    let changed = with_change disk t in
    if is_checkpointed strike then with_checkpoint changed else if is_committed strike then changed else disk

-- ---- how an event ends

-- with the replica after it; or with its crash, which leaves a disk and the names newly green on it
pub data EventEnd : Type 0 where
  Runs : (replica : Replica) (disk : Disk) → EventEnd
  Crashes : (disk : Disk) (green : List ActionId) → EventEnd

-- the replica after a commit
abbrev pub whitened : Replica → Replica
whitened r = record r { held = whiten r.held }

-- a strike reaches the event's device calls, or is still to come
abbrev pub struck : Disk → Turn → Strike → EventEnd
struck disk t strike = Crashes (at_rest (crash_outcome disk t strike)) (if is_committed strike then t.green else [])

-- a commit, with the strike that is armed
abbrev pub commit_under : Option Strike → Disk → Turn → EventEnd
commit_under None disk t = Runs (whitened t.replica) (checkpointed (with_change disk t))
commit_under (Some strike) disk t =
    let changed = with_change disk t in
    let calls = calls_of changed in
    let done = checkpointed changed in
    if nat_le strike.call calls then struck disk t strike
    else Runs (whitened t.replica) (record done { armed = Some (record strike { call = strike.call - calls }) })

-- the end of an event at a replica that held this before it: a commit where one is due; else its red marks stand in no record yet
unfoldable pub end_event : Disk → Held → Turn → EventEnd
end_event disk old t = if commits old t then commit_under disk.armed disk t
    else Runs t.replica (record disk { unwritten = disk.unwritten ++ t.known })

-- ---- how a replica comes up

abbrev pub is_older : Format → Bool
is_older Older = true
is_older (Newer front) = false

-- the disk with this format; where its content has moved, that stands in a checkpoint on the other side
abbrev pub moved_to : Bool → Format → Disk → Disk
moved_to moved format disk =
    record disk {
      size = if moved then size_with empty_size (spelled_checkpoint (suc disk.generation) disk.content) else disk.size;
      generation = if moved then suc disk.generation else disk.generation;
      format = format;
    }

-- the disk behind a recovery: it has gone over to the newer format
abbrev pub migrated : Disk → Disk
migrated disk = moved_to (is_older disk.format) all_newer disk

-- the replica that comes up from a disk, and the disk with its red marks
abbrev pub recovered : Disk → Replica
recovered disk = (recovery_turn disk.content).replica

abbrev pub disk_recovered : Disk → Disk
disk_recovered disk = let d = migrated disk in record d { unwritten = (recovery_turn disk.content).known }
