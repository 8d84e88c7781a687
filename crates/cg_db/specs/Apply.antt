-- What actions make of a database.
use Rattle.std.specs.Prelude.{ℕ, suc, List, [], ◌∷◌, Option, Some, None, fold, ℤ, pos, ◌+ℤ◌, ◌-ℤ◌, int_lt, if◌then◌else◌}
use Rattle.cg_text.specs.Numbers.{fits_i64}
use Rattle.cg_action.specs.declared.value.Value.{Value}
use Rattle.cg_action.specs.declared.value.Value.TheVariants.{Text, Int}
use Rattle.cg_action.specs.declared.command.Cmd.{Cmd}
use Rattle.cg_action.specs.declared.command.Cmd.TheVariants.{Put, Del, Inc, Cas, Move, Need}
use Rattle.cg_action.specs.declared.action.Kind.{Kind}
use Rattle.cg_action.specs.declared.action.Kind.TheVariants.{Update, Join, Leave}
use Rattle.cg_action.specs.declared.action.Action.{Action}
use Rattle.cg_action.specs.declared.entry.DbEntry.{DbEntry}
use Rattle.cg_action.specs.declared.effect.Effect.{Effect}
use Rattle.cg_action.specs.declared.effect.Effect.TheVariants.{Done, Aborted, Range}
use Rattle.cg_db.specs.Map.{value_of, put, remove, has_value}

-- how one command ends: with a changed database, or as one that fails
pub data Ran : Type 0 where
  Changed : (db : List DbEntry) → Ran
  Aborts : Ran
  Overflows : Ran

-- the number of a key; an absent key counts as 0, a text is none
abbrev pub number_of : Option Value → Option ℤ
number_of None = Some (pos 0)
number_of (Some (Int n)) = Some n
number_of (Some (Text t)) = None

-- the key set to a number, where that has 64 bits
abbrev pub set_number : List DbEntry → List ℕ → ℤ → Ran
set_number db key n = if fits_i64 n then Changed (put db key (Int n)) else Overflows

-- a number added to that of a key
abbrev pub add_number : List DbEntry → List ℕ → ℤ → Option ℤ → Ran
add_number db key by None = Aborts
add_number db key by (Some n) = set_number db key (n +ℤ by)

-- a number added to a key
abbrev pub add_to : List DbEntry → List ℕ → ℤ → Ran
add_to db key by = add_number db key by (number_of (value_of db key))

-- an amount taken from a key that has so much, and then added to another
abbrev pub move_number : List DbEntry → List ℕ → List ℕ → ℤ → Option ℤ → Ran
move_number db source target amount None = Aborts
move_number db source target amount (Some n) =
    if int_lt n amount then Aborts else add_to (put db source (Int (n -ℤ amount))) target amount

-- one command
abbrev pub run_command : List DbEntry → Cmd → Ran
run_command db (Put key value) = Changed (put db key value)
run_command db (Del key) = Changed (remove db key)
run_command db (Inc key by) = add_to db key by
run_command db (Cas key want value) = if has_value db key want then Changed (put db key value) else Changed db
run_command db (Move source target amount) = move_number db source target amount (number_of (value_of db source))
run_command db (Need key want) = if has_value db key want then Changed db else Aborts

-- a database, and the effect of what was applied to it
pub record Applied : Type 0 where
  pub db : List DbEntry
  pub effect : Effect

-- the commands in order, behind so many; where one fails the database stays as it was
unfoldable pub run_commands : List DbEntry → ℕ → List Cmd → Ran → Applied
run_commands old number cmds Aborts = record { db = old; effect = Aborted number }
run_commands old number cmds Overflows = record { db = old; effect = Range number }
run_commands old number [] (Changed db) = record { db = db; effect = Done }
run_commands old number (cmd ∷ cmds) (Changed db) = run_commands old (suc number) cmds (run_command db cmd)

-- what an action does
abbrev pub apply_kind : List DbEntry → Kind → Applied
apply_kind db (Update cmds query) = run_commands db 0 cmds (Changed db)
apply_kind db (Join joiner weight) = record { db = db; effect = Done }
apply_kind db (Leave server) = record { db = db; effect = Done }

-- an action, applied to a database
abbrev pub apply : List DbEntry → Action → Applied
apply db action = apply_kind db action.kind

-- a database after these actions
abbrev pub fold_actions_from : List DbEntry → List Action → List DbEntry
fold_actions_from db actions = fold (λ db action. (apply db action).db) db actions

-- the database that a list of actions makes of the empty one
abbrev pub fold_actions : List Action → List DbEntry
fold_actions actions = fold_actions_from [] actions
