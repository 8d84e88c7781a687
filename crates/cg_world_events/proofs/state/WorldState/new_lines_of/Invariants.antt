use Rattle.std.proofs.Common.{◌≡◌, [], fold, drop}
use Rattle.cg_world_events.specs.StepInProgress.{with_line}
use Rattle.cg_world_events.proofs.state.WorldState.new_lines_of.Given as goal

-- the nodes that are left lead to where all lead
abbrev pub invariant-loop-node : goal.invariant-loop-node
invariant-loop-node l = fold (with_line l.set l.self) l.lines (drop l.node-index l.node-items) ≡ fold (with_line l.set l.self) [] l.node-items
