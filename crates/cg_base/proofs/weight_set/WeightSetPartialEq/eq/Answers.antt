use Rattle.cg_base.proofs.WeightLemmas.{weights_of-same}
use Rattle.cg_base.proofs.weight_set.WeightSetPartialEq.eq.Goals as goal

pub returns : goal.returns
returns c = rw (← c.self.view_is, ← c.other.view_is)
    (weights_of-same c.self.inside.weights c.other.inside.weights c.eq.result c.self.invariant c.other.invariant c.eq.ensures)
