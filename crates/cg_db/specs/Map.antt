-- A database: the list of its entries, ascending by key, each key once.
use Rattle.std.specs.Prelude.{ℕ, Bool, not, List, [], ◌∷◌, Option, Some, None, map, filter, if◌then◌else◌}
use Rattle.std.specs.Option.{option_eq}
use Rattle.cg_text.specs.Order.{same_text, text_before}
use Rattle.cg_action.specs.declared.value.Value.{Value}
use Rattle.cg_action.specs.contracts.value.ValuePartialEq.TheImpl.{ghosts as values}
use Rattle.cg_action.specs.declared.entry.DbEntry.{DbEntry}

-- the value of a key, if it is there
abbrev pub value_of : List DbEntry → List ℕ → Option Value
value_of [] key = None
value_of (entry ∷ db) key = if same_text key entry.key then Some entry.value else value_of db key

-- the database with the key set to the value
abbrev pub put : List DbEntry → List ℕ → Value → List DbEntry
put [] key value = record { key = key; value = value } ∷ []
put (entry ∷ db) key value =
    if same_text key entry.key then record { key = key; value = value } ∷ db
    else if text_before key entry.key then record { key = key; value = value } ∷ entry ∷ db
    else entry ∷ put db key value

-- the database without the key
abbrev pub remove : List DbEntry → List ℕ → List DbEntry
remove db key = filter (λ entry. not (same_text key entry.key)) db

abbrev pub keys : List DbEntry → List (List ℕ)
keys db = map (λ entry. entry.key) db

-- the key has the wanted value, or is absent where none is wanted
abbrev pub has_value : List DbEntry → List ℕ → Option Value → Bool
has_value db key want = option_eq values.eq (value_of db key) want
