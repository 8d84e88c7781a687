use Rattle.std.proofs.Common.{◌≡◌, ◌≤◌, ◌*◌}
use Rattle.cg_base.specs.Slots.{held_from, weighted, array_slot}
use Rattle.cg_base.specs.Weights.{total_of}
use Rattle.cg_base.proofs.weight_set.WeightSet.total_of.Given as goal

-- the weights at the slots so far, of those that are in the other set
abbrev pub invariant-loop-slot : goal.invariant-loop-slot
invariant-loop-slot l = (l.sum ≡ total_of (held_from weighted (array_slot l.weight-items) l.slot 1) l.present) × (l.sum ≤ 255 * l.slot)
