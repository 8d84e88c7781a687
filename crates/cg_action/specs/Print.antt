-- What actions do, as lines show it.
use Rattle.std.specs.Prelude.{ℕ, List, [], ◌∷◌, ◌++◌, Option, Some, None, codes, decimal, flat_map}
use Rattle.std.specs.Fmt.{signed_decimal}
use Rattle.cg_text.specs.Quoted.{quoted}
use Rattle.cg_base.specs.Text.{weighted_text}
use Rattle.cg_action.specs.declared.value.Value.{Value}
use Rattle.cg_action.specs.declared.value.Value.TheVariants.{Text, Int}
use Rattle.cg_action.specs.declared.command.Cmd.{Cmd}
use Rattle.cg_action.specs.declared.command.Cmd.TheVariants.{Put, Del, Inc, Cas, Move, Need}
use Rattle.cg_action.specs.declared.query.Query.{Query}
use Rattle.cg_action.specs.declared.query.Query.TheVariants.{Get, Keys, Count}
use Rattle.cg_action.specs.declared.action.Kind.{Kind}
use Rattle.cg_action.specs.declared.action.Kind.TheVariants.{Update, Join, Leave}

-- a value: a text between quotes, or a number
abbrev pub value_text : Value → List ℕ
value_text (Text t) = quoted t
value_text (Int n) = signed_decimal n

-- a value, or the word absent
abbrev pub want_text : Option Value → List ℕ
want_text None = codes "absent"
want_text (Some v) = value_text v

abbrev pub command_text : Cmd → List ℕ
command_text (Put key value) = codes "put " ++ quoted key ++ codes " " ++ value_text value
command_text (Del key) = codes "del " ++ quoted key
command_text (Inc key by) = codes "inc " ++ quoted key ++ codes " " ++ signed_decimal by
command_text (Cas key want value) = codes "cas " ++ quoted key ++ codes " " ++ want_text want
    ++ codes " " ++ value_text value
command_text (Move source target amount) =
    codes "move " ++ quoted source ++ codes " " ++ quoted target ++ codes " " ++ signed_decimal amount
command_text (Need key want) = codes "need " ++ quoted key ++ codes " " ++ want_text want

abbrev pub query_text : Query → List ℕ
query_text (Get key) = codes "get " ++ quoted key
query_text (Keys prefix) = codes "keys " ++ quoted prefix
query_text Count = codes "count"

-- a command behind another
abbrev pub next_text : Cmd → List ℕ
next_text cmd = codes "; " ++ command_text cmd

-- commands, with a semicolon before each but the first
abbrev pub commands_text : List Cmd → List ℕ
commands_text [] = []
commands_text (c ∷ cmds) = command_text c ++ flat_map next_text cmds

-- commands, and behind a question mark the query
abbrev pub update_text : List Cmd → Option Query → List ℕ
update_text cmds None = commands_text cmds
update_text [] (Some q) = codes "? " ++ query_text q
update_text (c ∷ cmds) (Some q) = commands_text (c ∷ cmds) ++ codes " ? " ++ query_text q

abbrev pub kind_text : Kind → List ℕ
kind_text (Update cmds query) = update_text cmds query
kind_text (Join joiner weight) = codes "join " ++ weighted_text joiner weight
kind_text (Leave server) = codes "leave " ++ decimal server
