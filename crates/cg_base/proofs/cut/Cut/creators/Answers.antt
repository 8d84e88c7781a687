use Rattle.std.proofs.Common.{◌∙◌, ap, refl, arith}
use Rattle.cg_base.specs.Slots.{held_from, top, array_slot}
use Rattle.cg_base.specs.Sets.{with_member}
use Rattle.cg_base.specs.Cuts.{creators_in}
use Rattle.cg_base.proofs.ArrayLemmas.{array_keys-empty, array_keys-filled, held_from-all}
use Rattle.cg_base.proofs.cut.Cut.creators.Goals as goal
use Rattle.cg_base.proofs.cut.Cut.creators.Goals.{then-index-ne0, else-index-ne0}

pub loop-slot-init : goal.loop-slot-init
unfolding held_from
loop-slot-init c = c.empty-set.ensures

pub loop-slot-preserved : goal.loop-slot-preserved
loop-slot-preserved c =
    let slots = c.self.inside.indexes in
    elim c.if-index-ne0.branch [
      | then-index-ne0 w ↦ w.set-is ∙ w.add.ensures
          ∙ ap (λ s. with_member s w.known.result) c.loop-slot.invariant
          ∙ ap (with_member (creators_in (held_from top (array_slot slots) c.loop-slot.slot 1))) w.known.ensures
          ∙ array_keys-filled top (λ t. t.creator) (λ p n. refl) slots c.loop-slot.slot w.if-index-ne0.true
      | else-index-ne0 w ↦ w.set-is ∙ c.loop-slot.invariant ∙ array_keys-empty top (λ t. t.creator) slots c.loop-slot.slot w.if-index-ne0.false
    ]

pub returns : goal.returns
returns c = rw (← c.self.view_is) (c.loop-slot.invariant ∙ ap creators_in (held_from-all top (array_slot c.self.inside.indexes) c.loop-slot.slot (omega arith)))
