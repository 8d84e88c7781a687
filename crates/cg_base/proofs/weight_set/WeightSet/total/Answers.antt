use Rattle.std.proofs.Common.{◌∙◌, ap, refl, arith}
use Rattle.cg_base.specs.Slots.{held_from, weighted, array_slot}
use Rattle.cg_base.specs.Weights.{total}
use Rattle.cg_base.proofs.ArrayLemmas.{array_slot-at, held_from-all}
use Rattle.cg_base.proofs.WeightLemmas.{total-more}
use Rattle.cg_base.proofs.weight_set.WeightSet.total.Goals as goal

pub loop-weight-init : goal.loop-weight-init
unfolding held_from
loop-weight-init c = (refl, omega arith)

pub loop-weight-preserved : goal.loop-weight-preserved
loop-weight-preserved c =
    let slots = c.self.inside.weights in
    let here = array_slot-at slots c.loop-weight.weight-index in
    let more = total-more (array_slot slots) c.loop-weight.weight-index in
    let small = c.self.invariant.small c.loop-weight.weight-index in
    (omega (arith, here, more, c.loop-weight.invariant.0, c.from-sum.ensures), omega (arith, small, c.loop-weight.invariant.1, c.from-sum.ensures))

pub returns : goal.returns
returns c = rw (← c.self.view_is) (c.loop-weight.invariant.0 ∙ ap total (held_from-all weighted (array_slot c.self.inside.weights) c.loop-weight.weight-index (omega arith)))
