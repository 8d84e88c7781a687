use Rattle.std.proofs.Common.{arith}
use Rattle.cg_base.proofs.CutLemmas.{tops_of-least}
use Rattle.cg_base.proofs.cut.Cut.least.Goals as goal

pub returns : goal.returns
returns c = rw (← c.self.view_is, ← c.o.view_is)
    (tops_of-least c.self.inside.indexes c.o.inside.indexes c.loop-slot.indexes c.self.invariant
    (λ p low high. c.loop-slot.invariant.1 _ (omega arith)))
