-- What a database answers behind actions that aren't written: its entries at the keys that the actions name are taken into
-- a part, the actions are written there, and what the part then has stands in for what it had.
use Rattle.std.specs.Prelude.{ℕ, ◌+◌, ◌-◌, Bool, not, ◌||◌, List, [], ◌∷◌, Option, Some, None, is_some, fold, filter, length, pos, if◌then◌else◌}
use Rattle.cg_action.specs.declared.value.Value.{Value}
use Rattle.cg_action.specs.declared.value.Value.TheVariants.{Int as IntValue}
use Rattle.cg_action.specs.declared.command.Cmd.{Cmd}
use Rattle.cg_action.specs.declared.command.Cmd.TheVariants.{Put, Del, Inc, Cas, Move, Need}
use Rattle.cg_action.specs.declared.action.Kind.{Kind}
use Rattle.cg_action.specs.declared.action.Kind.TheVariants.{Update, Join, Leave}
use Rattle.cg_action.specs.declared.action.Action.{Action}
use Rattle.cg_action.specs.declared.query.Query.{Query}
use Rattle.cg_action.specs.declared.query.Query.TheVariants.{Get, Keys as KeysOf, Count as CountAll}
use Rattle.cg_action.specs.declared.answer.Answer.{Answer}
use Rattle.cg_action.specs.declared.answer.Answer.TheVariants.{Keys, Count}
use Rattle.cg_action.specs.declared.entry.DbEntry.{DbEntry}
use Rattle.cg_db.specs.Map.{value_of, put, keys}
use Rattle.cg_db.specs.Find.{answer, keys_from}

-- the keys that a command reads or writes
abbrev pub keys_of : Cmd → List (List ℕ)
keys_of (Put key value) = key ∷ []
keys_of (Del key) = key ∷ []
keys_of (Inc key by) = key ∷ []
keys_of (Cas key want value) = key ∷ []
keys_of (Move source target amount) = source ∷ target ∷ []
keys_of (Need key want) = key ∷ []

abbrev pub commands_of : Kind → List Cmd
commands_of (Update cmds query) = cmds
commands_of (Join joiner weight) = []
commands_of (Leave server) = []

-- a part with what was found at a key, if anything was
abbrev pub put_found : List DbEntry → List ℕ → Option Value → List DbEntry
put_found part key None = part
put_found part key (Some value) = put part key value

abbrev pub with_key : List DbEntry → List DbEntry → List ℕ → List DbEntry
with_key db part key = put_found part key (value_of db key)

abbrev pub with_command : List DbEntry → List DbEntry → Cmd → List DbEntry
with_command db part cmd = fold (with_key db) part (keys_of cmd)

abbrev pub with_commands : List DbEntry → List DbEntry → List Cmd → List DbEntry
with_commands db part cmds = fold (with_command db) part cmds

abbrev pub with_action : List DbEntry → List DbEntry → Action → List DbEntry
with_action db part a = with_commands db part (commands_of a.kind)

-- the entries of a database at the keys that these actions name
abbrev pub named_part : List DbEntry → List Action → List DbEntry
named_part db actions = fold (with_action db) [] actions

abbrev pub has_key : List DbEntry → List ℕ → Bool
has_key db key = is_some (value_of db key)

-- a key among others; its value doesn't matter
abbrev pub with_mark : List DbEntry → List ℕ → List DbEntry
with_mark marks key = put marks key (IntValue (pos 0))

-- the keys that aren't in the part, and others, ascending
abbrev pub merged_keys : List DbEntry → List (List ℕ) → List (List ℕ) → List (List ℕ)
merged_keys part found others =
    keys (fold with_mark (fold with_mark [] (filter (λ key. not (has_key part key)) found)) others)

-- the answer of a database in which a part has become another one
abbrev pub answer_with : List DbEntry → List DbEntry → List DbEntry → Query → Answer
answer_with db before after (Get key) = if has_key before key || has_key after key then answer after (Get key)
    else answer db (Get key)
answer_with db before after (KeysOf prefix) = Keys (merged_keys before (keys_from db prefix) (keys_from after prefix))
answer_with db before after CountAll = Count (length db - length before + length after)
