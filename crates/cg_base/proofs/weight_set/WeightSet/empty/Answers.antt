use Rattle.cg_base.specs.ArrayLaws.{IsArray-zeros}
use Rattle.cg_base.proofs.WeightLemmas.{weights_of-zeros}
use Rattle.std.proofs.Common.{arith}
use Rattle.cg_base.proofs.weight_set.WeightSet.empty.Goals as goal

pub returns : goal.returns
returns c = weights_of-zeros

pub invariant_of-result : goal.invariant_of-result
invariant_of-result c = IsArray-zeros 256 (omega arith)
