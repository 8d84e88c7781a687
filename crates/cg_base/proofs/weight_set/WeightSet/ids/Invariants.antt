use Rattle.std.proofs.Common.{◌≡◌}
use Rattle.cg_base.specs.Slots.{held_from, weighted, array_slot}
use Rattle.cg_base.specs.Weights.{ids}
use Rattle.cg_base.proofs.weight_set.WeightSet.ids.Given as goal

-- the members among the slots so far
abbrev pub invariant-loop-slot : goal.invariant-loop-slot
invariant-loop-slot l = l.set ≡ ids (held_from weighted (array_slot l.weight-items) l.slot 1)
