-- Actions in bytes. Each kind of value begins with a tag.
use Rattle.std.specs.Prelude.{ℕ, ◌==◌, List, ◌++◌, Option, Some, None, if◌then◌else◌}
use Rattle.cg_codec.specs.Fields.{byte, number64, signed64, text, list, optional, spelled_id}
use Rattle.cg_action.specs.declared.value.Value.{Value}
use Rattle.cg_action.specs.declared.value.Value.TheVariants.{Text, Int}
use Rattle.cg_action.specs.declared.command.Cmd.{Cmd}
use Rattle.cg_action.specs.declared.command.Cmd.TheVariants.{Put, Del, Inc, Cas, Move, Need}
use Rattle.cg_action.specs.declared.query.Query.{Query}
use Rattle.cg_action.specs.declared.query.Query.TheVariants.{Get, Keys, Count}
use Rattle.cg_action.specs.declared.action.Kind.{Kind}
use Rattle.cg_action.specs.declared.action.Kind.TheVariants.{Update, Join, Leave}
use Rattle.cg_action.specs.declared.action.Action.{Action}

abbrev pub spelled_value : Value → List ℕ
spelled_value (Text t) = byte 1 ++ text t
spelled_value (Int n) = byte 2 ++ signed64 n

-- a value, or 0 alone where it is absent
abbrev pub spelled_want : Option Value → List ℕ
spelled_want None = byte 0
spelled_want (Some v) = spelled_value v

abbrev pub spelled_command : Cmd → List ℕ
spelled_command (Put key value) = byte 1 ++ text key ++ spelled_value value
spelled_command (Del key) = byte 2 ++ text key
spelled_command (Inc key by) = byte 3 ++ text key ++ signed64 by
spelled_command (Cas key want value) = byte 4 ++ text key ++ spelled_want want ++ spelled_value value
spelled_command (Move source target amount) = byte 5 ++ text source ++ text target ++ signed64 amount
spelled_command (Need key want) = byte 6 ++ text key ++ spelled_want want

abbrev pub spelled_query : Query → List ℕ
spelled_query (Get key) = byte 1 ++ text key
spelled_query (Keys prefix) = byte 2 ++ text prefix
spelled_query Count = byte 3

-- a join with weight 1 has a tag of its own, and no weight behind it
abbrev pub spelled_join : ℕ → ℕ → List ℕ
spelled_join joiner weight = if weight == 1 then byte 2 ++ byte joiner else byte 4 ++ byte joiner ++ byte weight

abbrev pub spelled_kind : Kind → List ℕ
spelled_kind (Update cmds query) = byte 1 ++ list spelled_command cmds ++ optional spelled_query query
spelled_kind (Join joiner weight) = spelled_join joiner weight
spelled_kind (Leave server) = byte 3 ++ byte server

-- an action: its name, its green line, and what it does
abbrev pub spelled_action : Action → List ℕ
spelled_action a = spelled_id a.id ++ number64 a.green_line ++ spelled_kind a.kind
