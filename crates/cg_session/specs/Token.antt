-- What a session has seen: a position in the global order below which it reads nothing, and the actions that it wrote.
use Rattle.std.specs.Prelude.{ℕ, nat_lt, Bool, ◌&&◌, List, [], ◌∷◌, ◌++◌, Result, Ok, Err, if◌then◌else◌}
use Rattle.cg_base.specs.declared.action_id.ActionId.{ActionId}
use Rattle.cg_base.specs.Ids.{has_name}
use Rattle.cg_session.specs.declared.token.BehindErr.{BehindErr}

-- the position, and the names of the written actions, in the order of the writes
pub record Token : Type 0 where
  pub position : ℕ
  pub written : List ActionId

abbrev pub new_token : Token
new_token = record { position = 0; written = [] }

-- the action was written here; a name stands there once
abbrev pub wrote : Token → ActionId → Token
wrote t id = if has_name t.written id then t else record t { written = t.written ++ id ∷ [] }

-- a state at this position is read, unless it is behind what was seen
abbrev pub read : Token → ℕ → Result Token BehindErr
read t pos = if nat_lt pos t.position then Err (record { have = pos; want = t.position })
    else Ok (record t { position = pos })

-- the reply to an action at this place raises the position: the action was written here, and its place is above
abbrev pub raises : Token → ActionId → ℕ → Bool
raises t id place = has_name t.written id && nat_lt t.position place

-- behind the reply to an action at this place
abbrev pub replied : Token → ActionId → ℕ → Token
replied t id place = if raises t id place then record t { position = place } else t
