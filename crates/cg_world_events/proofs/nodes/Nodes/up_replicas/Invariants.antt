use Rattle.std.proofs.Common.{◌≡◌, [], fold, drop}
use Rattle.cg_world_events.specs.Hosting.{with_up}
use Rattle.cg_world_events.proofs.nodes.Nodes.up_replicas.Given as goal

abbrev pub invariant-loop-node : goal.invariant-loop-node
invariant-loop-node l = fold with_up l.up (drop l.node-index l.node-items) ≡ fold with_up [] l.node-items
