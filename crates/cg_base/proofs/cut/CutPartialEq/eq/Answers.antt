use Rattle.cg_base.proofs.CutLemmas.{tops_of-same}
use Rattle.cg_base.proofs.cut.CutPartialEq.eq.Goals as goal

pub returns : goal.returns
returns c = rw (← c.self.view_is, ← c.other.view_is)
    (tops_of-same c.self.inside.indexes c.other.inside.indexes c.eq.result c.self.invariant c.other.invariant c.eq.ensures)
