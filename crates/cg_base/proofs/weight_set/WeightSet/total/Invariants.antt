use Rattle.std.proofs.Common.{◌≡◌, ◌≤◌, ◌*◌}
use Rattle.cg_base.specs.Slots.{held_from, weighted, array_slot}
use Rattle.cg_base.specs.Weights.{total}
use Rattle.cg_base.proofs.weight_set.WeightSet.total.Given as goal

-- the weights at the slots so far
abbrev pub invariant-loop-weight : goal.invariant-loop-weight
invariant-loop-weight l = (l.sum ≡ total (held_from weighted (array_slot l.weight-items) l.weight-index 1)) × (l.sum ≤ 255 * l.weight-index)
