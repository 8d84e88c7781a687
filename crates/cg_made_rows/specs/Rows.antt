-- The made actions, in a row for each creator, and what is read of those that a cut names.
use Rattle.std.specs.Prelude.{ℕ, zero, suc, List, [], ◌∷◌, ◌++◌, flat_map, take}
use Rattle.cg_base.specs.declared.action_id.ActionId.{ActionId}
use Rattle.cg_base.specs.Cuts.{index_in}
use Rattle.cg_base.specs.Lists.{row_at}
use Rattle.cg_base.specs.Replicas.{every_replica}
use Rattle.cg_action.specs.declared.action.Action.{Action}
use Rattle.cg_relaxed.specs.declared.cell.Cell.{Cell}
use Rattle.cg_relaxed.specs.Cells.{cell_of}

-- the rows, with one action more behind the others of its row; rows that aren't there are empty
abbrev pub with_made : List (List Action) → ℕ → Action → List (List Action)
with_made [] zero a = (a ∷ []) ∷ []
with_made [] (suc p) a = [] ∷ with_made [] p a
with_made (row ∷ rows) zero a = (row ++ a ∷ []) ∷ rows
with_made (row ∷ rows) (suc p) a = row ∷ with_made rows p a

-- the actions that a cut names, creator by creator
abbrev pub named_in : List (List Action) → List ActionId → List Action
named_in rows cut = flat_map (λ p. take (index_in cut p) (row_at rows p)) every_replica

-- what is read of a key where these are known
abbrev pub cell_at : List (List Action) → List ActionId → List ℕ → Cell
cell_at rows cut key = cell_of (named_in rows cut) key
