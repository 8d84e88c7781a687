use Rattle.std.proofs.Common.{◌≡◌}
use Rattle.cg_base.specs.Slots.{held_from, top, array_slot}
use Rattle.cg_base.specs.Cuts.{creators_in}
use Rattle.cg_base.proofs.cut.Cut.creators.Given as goal

-- the creators among the slots so far
abbrev pub invariant-loop-slot : goal.invariant-loop-slot
invariant-loop-slot l = l.set ≡ creators_in (held_from top (array_slot l.index-items) l.slot 1)
