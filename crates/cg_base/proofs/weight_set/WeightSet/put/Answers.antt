use Rattle.std.proofs.Common.{arith}
use Rattle.cg_base.specs.ArrayLaws.{IsArray-set}
use Rattle.cg_base.proofs.WeightLemmas.{weights_of-set}
use Rattle.cg_base.proofs.weight_set.WeightSet.put.Goals as goal

pub returns : goal.returns
returns c = rw (← c.self.view_is, c.from-slot.ensures, c.get.ensures.value)
    (weights_of-set c.self.inside.weights c.args.id c.args.weight c.self.invariant c.get.ensures.range c.requires (omega arith))

pub invariant_of-self : goal.invariant_of-self
invariant_of-self c = IsArray-set c.self.inside.weights 256 c.from-slot.result c.args.weight c.self.invariant (omega arith) (omega arith)
