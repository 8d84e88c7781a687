-- The made actions, in a row for each creator.
use Rattle.std.specs.Prelude.{List, [], Option, find}
use Rattle.cg_base.specs.declared.action_id.ActionId.{ActionId}
use Rattle.cg_base.specs.Ids.{same_id}
use Rattle.cg_base.specs.Lists.{at_place}
pub use Rattle.cg_base.specs.Lists.{row_at}
use Rattle.cg_action.specs.declared.action.Action.{Action}
use Rattle.cg_model.specs.Making.{made_by}

-- the action in the place of this name's number among those of its creator
abbrev pub action_at : List Action → ActionId → Option Action
action_at made id = at_place (made_by id.creator made) id.index

-- the first action of this name
abbrev pub made_named : List Action → ActionId → Option Action
made_named made id = find (λ a. same_id a.id id) made
