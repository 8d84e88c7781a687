-- How the records of a disk are read, field by field from the left.
use Rattle.std.specs.Prelude.{ℕ, ◌-◌, List, [], fold}
use Rattle.cg_base.specs.declared.limits.TheConstants.{LIST_LIMIT}
use Rattle.cg_base.specs.declared.action_id.ActionId.{ActionId}
use Rattle.cg_codec.specs.Reading.{Reading, ◌>>=◌, done, only, take_list}
use Rattle.cg_text.specs.Order.{text_before}
use Rattle.cg_action.specs.declared.action.Action.{Action}
use Rattle.cg_action.specs.Reading.{id_reading, key_reading, value_reading, action_reading}
use Rattle.cg_action.specs.declared.entry.DbEntry.{DbEntry}
use Rattle.cg_members.specs.declared.server.Server.{Server}
use Rattle.cg_members.specs.Members.{Members}
use Rattle.cg_members.specs.Listed.{server_ids}
use Rattle.cg_records.specs.Reading.{take_number, take_id_above, last_of, take_set, take_cut, take_stable, take_weight}
use Rattle.cg_disk_records.specs.declared.change.Change.{Change}
use Rattle.cg_disk_records.specs.declared.checkpoint.Reached.{Reached}
use Rattle.cg_disk_records.specs.declared.checkpoint.KeptActions.{KeptActions}
use Rattle.cg_disk_records.specs.declared.checkpoint.Checkpoint.{Checkpoint}

-- actions, and names of actions, in any order
unfoldable pub actions_reading : Reading (List Action)
actions_reading = take_list (LIST_LIMIT - 1) (λ _. action_reading)

unfoldable pub ids_reading : Reading (List ActionId)
ids_reading = take_list (LIST_LIMIT - 1) (λ _. id_reading)

-- a change
unfoldable pub change_reading : Reading Change
change_reading = do
  stable ← take_stable
  known ← actions_reading
  green ← ids_reading
  made ← actions_reading
  done (record { stable = stable; known = known; green = green; made = made })

-- a server with an identifier above the given one
unfoldable pub server_reading : ℕ → Reading Server
server_reading last = do
  id ← take_id_above last
  line ← take_number
  weight ← take_weight
  done (record { id = id; line = line; weight = weight })

-- servers: each above the one before
unfoldable pub servers_reading : Reading (List Server)
servers_reading = take_list 32 (λ taken. server_reading (last_of (server_ids taken)))

unfoldable pub members_reading : Reading Members
members_reading = do
  servers ← servers_reading
  left ← take_set
  done (record { servers = servers; left = left })

-- the key of the last of these entries, empty where there is none
abbrev pub last_key : List DbEntry → List ℕ
last_key taken = fold (λ _ e. e.key) [] taken

-- a key behind the given one, and an entry with such a key
unfoldable pub key_behind_reading : List ℕ → Reading (List ℕ)
key_behind_reading last left = only (text_before last) key_reading left

unfoldable pub entry_reading : List ℕ → Reading DbEntry
entry_reading last = do
  key ← key_behind_reading last
  value ← value_reading
  done (record { key = key; value = value })

-- the entries of a database: each key behind the one before
unfoldable pub entries_reading : Reading (List DbEntry)
entries_reading = take_list (LIST_LIMIT - 1) (λ taken. entry_reading (last_key taken))

-- how far the greens reach
unfoldable pub reached_reading : Reading Reached
reached_reading = do
  count ← take_number
  white ← take_number
  cut ← take_cut
  members ← members_reading
  done (record { count = count; white = white; cut = cut; members = members })

unfoldable pub kept_reading : Reading KeptActions
kept_reading = do
  greens ← actions_reading
  reds ← actions_reading
  own ← actions_reading
  done (record { greens = greens; reds = reds; own = own })

-- a checkpoint
unfoldable pub checkpoint_reading : Reading Checkpoint
checkpoint_reading = do
  generation ← take_number
  stable ← take_stable
  reached ← reached_reading
  db ← entries_reading
  kept ← kept_reading
  done (record { generation = generation; stable = stable; reached = reached; db = db; kept = kept })
