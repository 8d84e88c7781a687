-- The own actions that weren't delivered yet, in the order of their creation.
use Rattle.std.specs.Prelude.{ℕ, List, [], ◌∷◌, if◌then◌else◌}
use Rattle.cg_base.specs.declared.action_id.ActionId.{ActionId}
use Rattle.cg_base.specs.Ids.{same_id}
use Rattle.cg_action.specs.declared.action.Action.{Action}

-- own actions are delivered in the order of their creation: the first one is no longer waited for where it is this one
abbrev pub after_first : List Action → ActionId → List Action
after_first [] id = []
after_first (a ∷ own) id = if same_id a.id id then own else a ∷ own

-- the index of the last of these actions, 0 where there is none
abbrev pub last_index : List Action → ℕ
last_index [] = 0
last_index (a ∷ []) = a.id.index
last_index (a ∷ b ∷ rest) = last_index (b ∷ rest)
