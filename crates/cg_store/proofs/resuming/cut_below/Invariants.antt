use Rattle.cg_store.proofs.Leading.{IsBelowTo}
use Rattle.cg_store.proofs.resuming.cut_below.Given as goal

abbrev pub invariant-loop-slot : goal.invariant-loop-slot
invariant-loop-slot l = IsBelowTo l.cut l.greens l.slot l.below
