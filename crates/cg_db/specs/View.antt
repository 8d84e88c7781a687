-- What is seen of a map under texts.
use Rattle.std.specs.Prelude.{ℕ, List, [], ◌∷◌, Option, Some, None}
use Rattle.cg_action.specs.declared.value.Value.{Value}
use Rattle.cg_action.specs.declared.entry.DbEntry.{DbEntry}
use Rattle.cg_db.specs.Map.{put}

-- the database that has the entries, of which the first counts where a key stands twice
abbrev pub of_entries : List (List ℕ × Value) → List DbEntry
of_entries [] = []
of_entries (e ∷ es) = put (of_entries es) e.0 e.1

-- the entry of a key, if it is there
abbrev pub entry_at : List ℕ → Option Value → List DbEntry
entry_at key None = []
entry_at key (Some value) = record { key = key; value = value } ∷ []
