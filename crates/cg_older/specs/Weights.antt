-- Weights above 1, which the older format has no bytes for.
use Rattle.std.specs.Prelude.{nat_lt, Bool, not, false, List}
use Rattle.std.specs.List.{list_any}
use Rattle.std.specs.Option.{option_map_or}
use Rattle.cg_base.specs.declared.action_id.ActionId.{ActionId}
use Rattle.cg_base.specs.declared.weighted.Weighted.{Weighted}
use Rattle.cg_action.specs.declared.action.Kind.{Kind}
use Rattle.cg_action.specs.declared.action.Kind.TheVariants.{Join}
use Rattle.cg_action.specs.declared.action.Action.{Action}
use Rattle.cg_queue.specs.Queue.{QueueView, action_of}
use Rattle.cg_members.specs.declared.server.Server.{Server}

abbrev pub is_heavy_member : Weighted → Bool
is_heavy_member m = nat_lt 1 m.weight

abbrev pub is_heavy_server : Server → Bool
is_heavy_server x = nat_lt 1 x.weight

-- the join of a server with a weight above 1
abbrev pub is_heavy_kind : Kind → Bool
is_heavy_kind (Join joiner weight) = nat_lt 1 weight
is_heavy_kind _ = false

abbrev pub is_heavy_join : Action → Bool
is_heavy_join a = is_heavy_kind a.kind

-- no action is such a join
abbrev pub are_light : List Action → Bool
are_light actions = not (list_any is_heavy_join actions)

-- the kept action of a name is such a join
abbrev pub is_heavy_name : QueueView → ActionId → Bool
is_heavy_name q id = option_map_or is_heavy_join (action_of q id) false
