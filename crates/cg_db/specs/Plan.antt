-- The changes that an action makes, before they are written.
use Rattle.std.specs.Prelude.{ℕ, List, ◌++◌, Option, Some, None, fold}
use Rattle.std.specs.Option.{option_to_list}
use Rattle.cg_action.specs.declared.value.Value.{Value}
use Rattle.cg_action.specs.declared.entry.DbEntry.{DbEntry}
use Rattle.cg_action.specs.declared.effect.Effect.{Effect}
use Rattle.cg_action.specs.declared.effect.Effect.TheVariants.{Done, Aborted, Range}
use Rattle.cg_db.specs.declared.changes.KeyChange.{KeyChange}
use Rattle.cg_db.specs.declared.changes.Changes.{Changes}
use Rattle.cg_db.specs.declared.plan.CommandEnd.{CommandEnd}
use Rattle.cg_db.specs.declared.plan.CommandEnd.TheVariants.{Goes, Fails, Overflows as Exceeds}
use Rattle.cg_db.specs.Map.{put, remove}
use Rattle.cg_db.specs.Apply.{Ran, Changed, Aborts, Overflows}

-- the changes in order
abbrev pub listed : Changes → List KeyChange
listed changes = changes.earlier.items ++ option_to_list changes.last

-- the database with what a key is to have
abbrev pub set_option : List DbEntry → List ℕ → Option Value → List DbEntry
set_option db key (Some value) = put db key value
set_option db key None = remove db key

abbrev pub changed : List DbEntry → KeyChange → List DbEntry
changed db change = set_option db change.key change.value

-- the database with the changes made in order
unfoldable pub with_changes : List DbEntry → List KeyChange → List DbEntry
with_changes db changes = fold changed db changes

-- how a command ended that led to this database
abbrev pub ran : CommandEnd → List DbEntry → Ran
ran Goes db = Changed db
ran Fails db = Aborts
ran Exceeds db = Overflows

-- what an action with this effect leaves of two databases, the one before it and the one after its commands
abbrev pub left_by : Effect → List DbEntry → List DbEntry → List DbEntry
left_by Done old new = new
left_by (Aborted number) old new = old
left_by (Range number) old new = old
