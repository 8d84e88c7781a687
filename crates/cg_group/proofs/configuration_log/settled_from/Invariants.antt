use Rattle.std.proofs.Common.{◌≤◌, ◌-◌, length}
use Rattle.cg_group.specs.Logs.{IsSettled}
use Rattle.cg_group.proofs.configuration_log.settled_from.Given as goal

abbrev pub invariant-loop-place : goal.invariant-loop-place
invariant-loop-place g l = (l.place ≤ length l.ordered) × (IsSettled l.members l.ordered l.fn.from → IsSettled l.members l.ordered l.place)

abbrev pub decreases-loop-place : goal.decreases-loop-place
decreases-loop-place g l = length l.ordered - l.place
