use Rattle.std.proofs.Common.{◌≡◌, None, subst}
use Rattle.cg_world_events.proofs.NodeFacts.{found}
use Rattle.cg_world_events.proofs.nodes.Nodes.put_boxed.Goals as goal

pub add-requires : goal.add-requires
add-requires c = subst (λ n. found c.clear.new.self n ≡ None) c.id.ensures c.clear.ensures.away
