-- The record of a checkpoint, and how long the side of a disk is.
use Rattle.std.specs.Prelude.{ℕ, ◌+◌, List, ◌++◌, length}
use Rattle.cg_disk_records.specs.declared.limits.TheConstants.{CHECKPOINT_BYTES}
use Rattle.cg_codec.specs.Fields.{byte, number64, text, list}
use Rattle.cg_action.specs.Bytes.{spelled_action, spelled_value}
use Rattle.cg_action.specs.declared.entry.DbEntry.{DbEntry}
use Rattle.cg_members.specs.declared.server.Server.{Server}
use Rattle.cg_queue.specs.Queue.{green_count}
use Rattle.cg_records.specs.Bytes.{spelled_set, spelled_cut, spelled_stable}
use Rattle.cg_disk_records.specs.declared.checkpoint.Reached.{Reached}
use Rattle.cg_disk_records.specs.declared.checkpoint.KeptActions.{KeptActions}
use Rattle.cg_disk_records.specs.declared.checkpoint.Checkpoint.{Checkpoint}
use Rattle.cg_disk_records.specs.Stored.{Stored, stable_of}

-- a server: its identifier, its line and its weight
unfoldable pub spelled_server : Server → List ℕ
spelled_server x = byte x.id ++ (number64 x.line ++ byte x.weight)

unfoldable pub spelled_entry : DbEntry → List ℕ
spelled_entry e = text e.key ++ spelled_value e.value

-- the counts of greens and of discarded ones, the green cut and the members
unfoldable pub spelled_reached : Reached → List ℕ
spelled_reached r =
    number64 r.count ++ (number64 r.white
    ++ (spelled_cut r.cut ++ (list spelled_server r.members.servers ++ spelled_set r.members.left)))

-- the actions that are kept: greens, reds by name, own ones
unfoldable pub spelled_kept : KeptActions → List ℕ
spelled_kept k = list spelled_action k.greens ++ (list spelled_action k.reds ++ list spelled_action k.own)

-- the parts of a checkpoint in bytes: the discarded greens stand in it by their count, their cut and what they made of the
-- database
unfoldable pub spelled_parts : Checkpoint → List ℕ
spelled_parts p =
    number64 p.generation ++ (spelled_stable p.stable
    ++ (spelled_reached p.reached ++ (list spelled_entry p.db ++ spelled_kept p.kept)))

-- the parts of a checkpoint of what stands on the disk
abbrev pub reached_of : Stored → Reached
reached_of s = record {
  count = green_count s.queue;
  white = s.queue.white;
  cut = s.queue.green_cut;
  members = s.members;
}

abbrev pub kept_of : Stored → KeptActions
kept_of s = record { greens = s.queue.greens; reds = s.queue.reds; own = s.own }

abbrev pub parts_of : ℕ → Stored → Checkpoint
parts_of generation s = record {
  generation = generation;
  stable = stable_of s;
  reached = reached_of s;
  db = s.db;
  kept = kept_of s;
}

-- a checkpoint in bytes
unfoldable pub spelled_checkpoint : ℕ → Stored → List ℕ
spelled_checkpoint generation s = spelled_parts (parts_of generation s)

-- ---- sizes

-- the length of a side with one more record: a gate, a length of four bytes, and a body
abbrev pub size_with : ℕ → List ℕ → ℕ
size_with size body = size + 5 + length body

-- the length of a side without records: eight bytes and a closed gate
abbrev pub empty_size : ℕ
empty_size = 9

-- a side longer than this is followed by a checkpoint on the other side
abbrev pub size_limit : ℕ
size_limit = CHECKPOINT_BYTES
