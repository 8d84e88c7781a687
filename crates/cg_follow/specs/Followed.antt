-- A follower: how many actions of the global order it has taken, and the database that they make.
use Rattle.std.specs.Prelude.{ℕ, ◌+◌, ◌<◌, List, length}
use Rattle.cg_base.specs.declared.limits.TheConstants.{COUNT_LIMIT}
use Rattle.cg_action.specs.declared.action.Action.{Action}
use Rattle.cg_action.specs.declared.entry.DbEntry.{DbEntry}
use Rattle.cg_db.specs.Apply.{fold_actions, fold_actions_from}
use Rattle.cg_disk_records.specs.Limits.{IsDatabase, AreActions}

pub record Followed : Type 0 where
  pub cursor : ℕ
  pub db : List DbEntry

-- the follower behind the next actions of the order
abbrev pub fed : Followed → List Action → Followed
fed f actions = record { cursor = f.cursor + length actions; db = fold_actions_from f.db actions }

-- the follower of the first actions of the order, all of them
abbrev pub follower_of : List Action → Followed
follower_of actions = record { cursor = length actions; db = fold_actions actions }

-- a follower that has a first record
pub record IsFollowed (f : Followed) : Type 0 where
  pub cursor : f.cursor < COUNT_LIMIT
  pub db : IsDatabase f.db

-- actions that have a record: there are some
pub record AreFed (list : List Action) : Type 0 where
  pub some : 0 < length list
  pub actions : AreActions list
