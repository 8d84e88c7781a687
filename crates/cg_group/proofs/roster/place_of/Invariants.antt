use Rattle.std.proofs.Common.{◌≤◌, length}
use Rattle.cg_group.proofs.PlaceFacts.{AreAbove}
use Rattle.cg_group.proofs.roster.place_of.Given as goal

abbrev pub invariant-loop-left : goal.invariant-loop-left
invariant-loop-left g l = (l.left ≤ length l.members) × AreAbove l.members l.number l.left

abbrev pub decreases-loop-left : goal.decreases-loop-left
decreases-loop-left g l = l.left
