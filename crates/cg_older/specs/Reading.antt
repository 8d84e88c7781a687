-- How records of the older format are read, field by field from the left. Each weight that is read is 1.
use Rattle.std.specs.Prelude.{ℕ, List}
use Rattle.cg_base.specs.Weights.{each_once}
use Rattle.cg_codec.specs.Reading.{Reading, ◌>>=◌, done, only, take_list}
use Rattle.cg_action.specs.declared.action.Action.{Action}
use Rattle.cg_members.specs.declared.server.Server.{Server}
use Rattle.cg_members.specs.Members.{Members}
use Rattle.cg_members.specs.Listed.{server_ids}
use Rattle.cg_records.specs.declared.primary.Primary.{Primary}
use Rattle.cg_records.specs.declared.stable.Stable.{Stable}
use Rattle.cg_records.specs.Reading.{take_number, take_id_above, last_of, take_set, take_cut, take_maybe_vulnerable, take_yellow}
use Rattle.cg_disk_records.specs.declared.change.Change.{Change}
use Rattle.cg_disk_records.specs.declared.checkpoint.Reached.{Reached}
use Rattle.cg_disk_records.specs.declared.checkpoint.KeptActions.{KeptActions}
use Rattle.cg_disk_records.specs.declared.checkpoint.Checkpoint.{Checkpoint}
use Rattle.cg_disk_records.specs.Reading.{actions_reading, ids_reading, entries_reading}
use Rattle.cg_older.specs.Weights.{are_light}

-- actions: those of the newer format but for a join with a weight, whose tag is none here
unfoldable pub old_actions_reading : Reading (List Action)
old_actions_reading left = only are_light actions_reading left

-- a primary component: its members have weight 1 each
unfoldable pub old_prim_reading : Reading Primary
old_prim_reading = do
  index ← take_number
  conf ← take_number
  set ← take_set
  done (record { index = index; conf = conf; set = each_once set })

unfoldable pub old_stable_reading : Reading Stable
old_stable_reading = do
  prim ← old_prim_reading
  attempt_index ← take_number
  vulnerable ← take_maybe_vulnerable
  yellow ← take_yellow
  created ← take_number
  done (record {
    prim = prim;
    attempt_index = attempt_index;
    vulnerable = vulnerable;
    yellow = yellow;
    created = created;
  })

-- a change
unfoldable pub old_change_reading : Reading Change
old_change_reading = do
  stable ← old_stable_reading
  known ← old_actions_reading
  green ← ids_reading
  made ← old_actions_reading
  done (record { stable = stable; known = known; green = green; made = made })

-- a server with an identifier above the given one
unfoldable pub old_server_reading : ℕ → Reading Server
old_server_reading last = do
  id ← take_id_above last
  line ← take_number
  done (record { id = id; line = line; weight = 1 })

unfoldable pub old_servers_reading : Reading (List Server)
old_servers_reading = take_list 32 (λ taken. old_server_reading (last_of (server_ids taken)))

unfoldable pub old_members_reading : Reading Members
old_members_reading = do
  servers ← old_servers_reading
  left ← take_set
  done (record { servers = servers; left = left })

-- how far the greens reach
unfoldable pub old_reached_reading : Reading Reached
old_reached_reading = do
  count ← take_number
  white ← take_number
  cut ← take_cut
  members ← old_members_reading
  done (record { count = count; white = white; cut = cut; members = members })

unfoldable pub old_kept_reading : Reading KeptActions
old_kept_reading = do
  greens ← old_actions_reading
  reds ← old_actions_reading
  own ← old_actions_reading
  done (record { greens = greens; reds = reds; own = own })

-- a checkpoint
unfoldable pub old_checkpoint_reading : Reading Checkpoint
old_checkpoint_reading = do
  generation ← take_number
  stable ← old_stable_reading
  reached ← old_reached_reading
  db ← entries_reading
  kept ← old_kept_reading
  done (record { generation = generation; stable = stable; reached = reached; db = db; kept = kept })
