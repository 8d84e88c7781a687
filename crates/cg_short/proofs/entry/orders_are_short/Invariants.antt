use Rattle.std.proofs.Common.{take}
use Rattle.cg_base.specs.Lists.{Each}
use Rattle.cg_short.specs.Short.{IsShortPlaced}
use Rattle.cg_short.proofs.entry.orders_are_short.Given as goal

abbrev pub invariant-loop-one : goal.invariant-loop-one
invariant-loop-one l = Each IsShortPlaced (take l.one-index l.orders)
