use Rattle.std.proofs.Common.{sym}
use Rattle.cg_base.specs.Slots.{array_slot}
use Rattle.cg_base.specs.SlotLaws.{weight_in-held}
use Rattle.cg_base.proofs.weight_set.WeightSet.weight.Goals as goal

pub returns : goal.returns
returns c = rw (← c.self.view_is, c.from.ensures, c.get.ensures.value)
    (sym (weight_in-held (array_slot c.self.inside.weights) c.args.id c.get.ensures.range.0 c.get.ensures.range.1))
