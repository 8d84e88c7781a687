-- Names of actions: by creator, then by index.
use Rattle.std.specs.Prelude.{◌==◌, nat_lt, Bool, ◌&&◌, ◌||◌, List}
use Rattle.std.specs.List.{list_any}
use Rattle.cg_base.specs.declared.action_id.ActionId.{ActionId}

-- the two are one name
abbrev pub same_id : ActionId → ActionId → Bool
same_id a b = (a.creator == b.creator) && (a.index == b.index)

-- the first name comes before the second
abbrev pub id_before : ActionId → ActionId → Bool
id_before a b = nat_lt a.creator b.creator || ((a.creator == b.creator) && nat_lt a.index b.index)

-- the name stands in the list
abbrev pub has_name : List ActionId → ActionId → Bool
has_name list id = list_any (same_id id) list
