use Rattle.cg_base.proofs.CutLemmas.{IsCut-tops_of}
use Rattle.cg_base.proofs.cut.Cut.holds.Goals as goal

pub returns : goal.returns
returns c = rw (← c.self.view_is) (IsCut-tops_of c.self.inside.indexes c.self.invariant)
