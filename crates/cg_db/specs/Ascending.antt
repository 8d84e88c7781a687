-- The order of the entries.
use Rattle.std.specs.Prelude.{◌≡◌, ℕ, true, List, [], ◌∷◌}
use Rattle.cg_text.specs.Order.{text_before}
use Rattle.cg_action.specs.declared.entry.DbEntry.{DbEntry}

-- the first of the keys comes after the given one
abbrev pub IsBefore : List ℕ → List DbEntry → Type 0
IsBefore key [] = Unit {0}
IsBefore key (entry ∷ db) = text_before key entry.key ≡ true

-- the keys ascend strictly
abbrev pub Ascends : List DbEntry → Type 0
Ascends [] = Unit {0}
Ascends (entry ∷ db) = IsBefore entry.key db × Ascends db
