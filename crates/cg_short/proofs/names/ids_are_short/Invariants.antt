use Rattle.std.proofs.Common.{take}
use Rattle.cg_base.specs.Lists.{Each}
use Rattle.cg_short.specs.Short.{IsShortId}
use Rattle.cg_short.proofs.names.ids_are_short.Given as goal

abbrev pub invariant-loop-id : goal.invariant-loop-id
invariant-loop-id l = Each IsShortId (take l.id-index l.ids)
