-- The record of a commit: what it changes of what stands on the disk.
use Rattle.std.specs.Prelude.{ℕ, List, ◌++◌}
use Rattle.cg_codec.specs.Fields.{list}
use Rattle.cg_action.specs.declared.action.Action.{Action}
use Rattle.cg_codec.specs.Fields.{spelled_id}
use Rattle.cg_action.specs.Bytes.{spelled_action}
use Rattle.cg_records.specs.Bytes.{spelled_stable}
use Rattle.cg_client.specs.Turn.{Turn}
use Rattle.cg_disk_records.specs.declared.change.Change.{Change}
use Rattle.cg_disk_records.specs.Stored.{stable_of}

-- a change in bytes
unfoldable pub spelled_change : Change → List ℕ
spelled_change c = spelled_stable c.stable
    ++ (list spelled_action c.known ++ (list spelled_id c.green ++ list spelled_action c.made))

-- the change that an event brings about, behind the red marks of earlier events that stand in no record
abbrev pub change_of : List Action → Turn → Change
change_of unwritten t = record {
  stable = stable_of t.replica.held;
  known = unwritten ++ t.known;
  green = t.green;
  made = t.made;
}
