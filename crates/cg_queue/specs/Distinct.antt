-- Lists of names in which none stands twice.
use Rattle.std.specs.Prelude.{Bool, true, not, ◌&&◌, List, [], ◌∷◌}
use Rattle.cg_base.specs.declared.action_id.ActionId.{ActionId}
use Rattle.cg_base.specs.Ids.{has_name}

-- no name stands in the list twice
abbrev pub is_distinct : List ActionId → Bool
is_distinct [] = true
is_distinct (id ∷ ids) = not (has_name ids id) && is_distinct ids
