-- The records of a follower's disk, in bytes: first its cursor and its entries, and behind it the actions of each feed.
use Rattle.std.specs.Prelude.{ℕ, nat_lt, Bool, List, ◌++◌, length, Option}
use Rattle.cg_base.specs.declared.limits.TheConstants.{COUNT_LIMIT}
use Rattle.cg_codec.specs.Fields.{number64, list}
use Rattle.cg_codec.specs.Reading.{Reading, ◌>>=◌, done, only, take_u64, whole}
use Rattle.cg_action.specs.declared.action.Action.{Action}
use Rattle.cg_action.specs.Bytes.{spelled_action}
use Rattle.cg_disk_records.specs.Checkpoint.{spelled_entry}
use Rattle.cg_disk_records.specs.Parts.{read_value}
use Rattle.cg_disk_records.specs.Reading.{actions_reading, entries_reading}
use Rattle.cg_follow.specs.Followed.{Followed}

unfoldable pub spelled_follower : Followed → List ℕ
spelled_follower f = number64 f.cursor ++ list spelled_entry f.db

unfoldable pub spelled_feed : List Action → List ℕ
spelled_feed actions = list spelled_action actions

-- a cursor is below the limit of counts
abbrev pub is_cursor : ℕ → Bool
is_cursor n = nat_lt n COUNT_LIMIT

unfoldable pub cursor_reading : Reading ℕ
cursor_reading left = only is_cursor take_u64 left

-- a cursor, and entries each behind the one before
unfoldable pub follower_reading : Reading Followed
follower_reading = do
  cursor ← cursor_reading
  db ← entries_reading
  done (record { cursor = cursor; db = db })

-- one action or more
abbrev pub is_some : List Action → Bool
is_some actions = nat_lt 0 (length actions)

unfoldable pub feed_reading : Reading (List Action)
feed_reading left = only is_some actions_reading left

-- the follower, and the actions, that all of the bytes spell, if they spell any
unfoldable pub follower_in : List ℕ → Option Followed
follower_in bytes = read_value (whole follower_reading bytes)

unfoldable pub feed_in : List ℕ → Option (List Action)
feed_in bytes = read_value (whole feed_reading bytes)
