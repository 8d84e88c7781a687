-- Which entries a database may have: the keys and values of actions.
use Rattle.std.specs.Prelude.{List, [], ◌∷◌}
use Rattle.cg_action.specs.ActionLimits.{IsKey, IsValue}
use Rattle.cg_action.specs.declared.entry.DbEntry.{DbEntry}

pub record IsEntry (entry : DbEntry) : Type 0 where
  pub key : IsKey entry.key
  pub value : IsValue entry.value

abbrev pub AreEntries : List DbEntry → Type 0
AreEntries [] = Unit {0}
AreEntries (entry ∷ db) = IsEntry entry × AreEntries db
