use Rattle.cg_base.proofs.WeightLemmas.{weight_in-has}
use Rattle.cg_base.proofs.weight_set.WeightSet.contains.Goals as goal

pub returns : goal.returns
returns c = rw c.weight.ensures (weight_in-has c.args.self.now c.args.id c.holds.ensures.weigh)
