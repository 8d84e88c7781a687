use Rattle.std.proofs.Common.{◌∙◌, ap, refl, arith}
use Rattle.cg_base.specs.Slots.{held_from, weighted, array_slot}
use Rattle.cg_base.specs.Sets.{with_member}
use Rattle.cg_base.specs.Weights.{ids}
use Rattle.cg_base.proofs.ArrayLemmas.{array_keys-empty, array_keys-filled, held_from-all}
use Rattle.cg_base.proofs.weight_set.WeightSet.ids.Goals as goal
use Rattle.cg_base.proofs.weight_set.WeightSet.ids.Goals.{then-weight-ne0, else-weight-ne0}

pub loop-slot-init : goal.loop-slot-init
unfolding held_from
loop-slot-init c = c.empty-set.ensures

pub loop-slot-preserved : goal.loop-slot-preserved
loop-slot-preserved c =
    let slots = c.self.inside.weights in
    elim c.if-weight-ne0.branch [
      | then-weight-ne0 w ↦ w.set-is ∙ w.add.ensures
          ∙ ap (λ s. with_member s w.known.result) c.loop-slot.invariant
          ∙ ap (with_member (ids (held_from weighted (array_slot slots) c.loop-slot.slot 1))) w.known.ensures
          ∙ array_keys-filled weighted (λ m. m.id) (λ p n. refl) slots c.loop-slot.slot w.if-weight-ne0.true
      | else-weight-ne0 w ↦ w.set-is ∙ c.loop-slot.invariant ∙ array_keys-empty weighted (λ m. m.id) slots c.loop-slot.slot w.if-weight-ne0.false
    ]

pub returns : goal.returns
returns c = rw (← c.self.view_is) (c.loop-slot.invariant ∙ ap ids (held_from-all weighted (array_slot c.self.inside.weights) c.loop-slot.slot (omega arith)))
