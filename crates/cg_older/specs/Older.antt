-- What records of the older format stand for, and which states have one.
use Rattle.std.specs.Prelude.{ℕ, nat_lt, Bool, ◌||◌, List, ◌++◌, Option, None, option_and_then, if◌then◌else◌}
use Rattle.cg_base.specs.declared.limits.TheConstants.{COUNT_LIMIT}
use Rattle.std.specs.List.{list_any}
use Rattle.cg_codec.specs.Reading.{whole}
use Rattle.cg_disk_records.specs.declared.change.Change.{Change}
use Rattle.cg_disk_records.specs.declared.checkpoint.Checkpoint.{Checkpoint}
use Rattle.cg_disk_records.specs.Stored.{Stored}
use Rattle.cg_disk_records.specs.Parts.{read_value, Saved, saved_of}
use Rattle.cg_older.specs.Reading.{old_change_reading, old_checkpoint_reading}
use Rattle.cg_older.specs.Weights.{is_heavy_member, is_heavy_server, is_heavy_join}

-- the change that all of the bytes spell, if they spell one
unfoldable pub old_change_in : List ℕ → Option Change
old_change_in bytes = read_value (whole old_change_reading bytes)

-- the parts are those of a checkpoint of this replica where they agree, and where there is room for many later
-- generations
abbrev pub old_saved_of : ℕ → Checkpoint → Option Saved
old_saved_of id p = if nat_lt p.generation COUNT_LIMIT then saved_of id p else None

-- the checkpoint of this replica that all of the bytes are, if they are one
unfoldable pub old_checkpoint_in : ℕ → List ℕ → Option Saved
old_checkpoint_in id bytes = option_and_then (old_saved_of id) (read_value (whole old_checkpoint_reading bytes))

-- a weight above 1 stands in the last primary component, in the server set, or in a join among the actions that are
-- kept: then there is no checkpoint of the older format
unfoldable pub has_weights : Stored → Bool
has_weights s =
    list_any is_heavy_member s.prim.set
    || list_any is_heavy_server s.members.servers
    || list_any is_heavy_join (s.queue.greens ++ s.queue.reds ++ s.own)
