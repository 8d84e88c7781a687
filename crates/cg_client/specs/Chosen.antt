-- Which of the actions that are known are asked for.
use Rattle.std.specs.Prelude.{nat_lt, not, List, [], ◌∷◌, filter, flat_map, if◌then◌else◌}
use Rattle.std.specs.Option.{option_to_list}
use Rattle.cg_base.specs.declared.action_id.ActionId.{ActionId}
use Rattle.cg_base.specs.Ids.{has_name}
use Rattle.cg_base.specs.Cuts.{index_in}
use Rattle.cg_action.specs.declared.action.Action.{Action}
use Rattle.cg_queue.specs.Queue.{QueueView, action_of}

-- the kept actions of these names, in the order of the names
abbrev pub actions_named : QueueView → List ActionId → List Action
actions_named q ids = flat_map (λ id. option_to_list (action_of q id)) ids

-- the reds that aren't yellow, by name
abbrev pub plain_reds : QueueView → List Action
plain_reds q = filter (λ a. not (has_name q.yellow a.id)) q.reds

-- the action, where it wasn't known
abbrev pub unknown_in : QueueView → Action → List Action
unknown_in q a = if nat_lt (index_in q.red_cut a.id.creator) a.id.index then a ∷ [] else []
