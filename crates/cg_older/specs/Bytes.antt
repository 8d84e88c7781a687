-- Records of the older format in bytes. No weight stands in them, since each is 1; all else is as in the newer one.
use Rattle.std.specs.Prelude.{ℕ, List, ◌++◌}
use Rattle.cg_base.specs.Weights.{ids}
use Rattle.cg_codec.specs.Fields.{byte, number64, list, optional, spelled_id}
use Rattle.cg_action.specs.Bytes.{spelled_action}
use Rattle.cg_members.specs.declared.server.Server.{Server}
use Rattle.cg_records.specs.declared.primary.Primary.{Primary}
use Rattle.cg_records.specs.declared.stable.Stable.{Stable}
use Rattle.cg_records.specs.Bytes.{spelled_set, spelled_cut, spelled_vulnerable, spelled_yellow}
use Rattle.cg_disk_records.specs.declared.change.Change.{Change}
use Rattle.cg_disk_records.specs.declared.checkpoint.Reached.{Reached}
use Rattle.cg_disk_records.specs.declared.checkpoint.Checkpoint.{Checkpoint}
use Rattle.cg_disk_records.specs.Stored.{Stored}
use Rattle.cg_disk_records.specs.Checkpoint.{spelled_entry, spelled_kept, parts_of}

-- a primary component: its index, its configuration, and its members
unfoldable pub spelled_old_prim : Primary → List ℕ
spelled_old_prim p = number64 p.index ++ (number64 p.conf ++ spelled_set (ids p.set))

unfoldable pub spelled_old_stable : Stable → List ℕ
spelled_old_stable s =
    spelled_old_prim s.prim ++ (number64 s.attempt_index
    ++ (optional spelled_vulnerable s.vulnerable ++ (spelled_yellow s.yellow ++ number64 s.created)))

-- a server: its identifier and its line
unfoldable pub spelled_old_server : Server → List ℕ
spelled_old_server x = byte x.id ++ number64 x.line

-- how far the greens reach
unfoldable pub spelled_old_reached : Reached → List ℕ
spelled_old_reached r =
    number64 r.count ++ (number64 r.white
    ++ (spelled_cut r.cut ++ (list spelled_old_server r.members.servers ++ spelled_set r.members.left)))

-- the parts of a checkpoint
unfoldable pub spelled_old_parts : Checkpoint → List ℕ
spelled_old_parts p =
    number64 p.generation ++ (spelled_old_stable p.stable
    ++ (spelled_old_reached p.reached ++ (list spelled_entry p.db ++ spelled_kept p.kept)))

-- a checkpoint of a state
unfoldable pub spelled_old_checkpoint : ℕ → Stored → List ℕ
spelled_old_checkpoint generation s = spelled_old_parts (parts_of generation s)

-- a change
unfoldable pub spelled_old_change : Change → List ℕ
spelled_old_change c = spelled_old_stable c.stable
    ++ (list spelled_action c.known ++ (list spelled_id c.green ++ list spelled_action c.made))
