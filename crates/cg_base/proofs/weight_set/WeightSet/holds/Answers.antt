use Rattle.cg_base.proofs.WeightLemmas.{IsWeightSet-weights_of}
use Rattle.cg_base.proofs.weight_set.WeightSet.holds.Goals as goal

pub returns : goal.returns
returns c = rw (← c.self.view_is) (IsWeightSet-weights_of c.self.inside.weights c.self.invariant)
