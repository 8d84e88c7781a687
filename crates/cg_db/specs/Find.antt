-- What queries find in a database.
use Rattle.std.specs.Prelude.{ℕ, List, Option, Some, None, filter, length}
use Rattle.cg_text.specs.Order.{begins_with}
use Rattle.cg_action.specs.declared.value.Value.{Value}
use Rattle.cg_action.specs.declared.value.Value.TheVariants.{Text as TextValue, Int as IntValue}
use Rattle.cg_action.specs.declared.query.Query.{Query}
use Rattle.cg_action.specs.declared.query.Query.TheVariants.{Get, Keys as KeysOf, Count as CountAll}
use Rattle.cg_action.specs.declared.action.Kind.{Kind}
use Rattle.cg_action.specs.declared.action.Kind.TheVariants.{Update, Join, Leave}
use Rattle.cg_action.specs.declared.entry.DbEntry.{DbEntry}
use Rattle.cg_action.specs.declared.answer.Answer.{Answer}
use Rattle.cg_action.specs.declared.answer.Answer.TheVariants.{Absent, Text, Int, Keys, Count}
use Rattle.cg_db.specs.Map.{value_of, keys}

-- what is answered of a key's value
abbrev pub answer_of : Option Value → Answer
answer_of None = Absent
answer_of (Some (TextValue t)) = Text t
answer_of (Some (IntValue n)) = Int n

-- the keys that begin with a text, ascending
abbrev pub keys_from : List DbEntry → List ℕ → List (List ℕ)
keys_from db prefix = filter (λ key. begins_with key prefix) (keys db)

-- the answer to a query
abbrev pub answer : List DbEntry → Query → Answer
answer db (Get key) = answer_of (value_of db key)
answer db (KeysOf prefix) = Keys (keys_from db prefix)
answer db CountAll = Count (length db)

-- the query of an action, if it has one
abbrev pub query_of : Kind → Option Query
query_of (Update cmds query) = query
query_of (Join joiner weight) = None
query_of (Leave server) = None
