use Rattle.std.proofs.Common.{◌≡◌, ◌∙◌, ◌+◌, true, false, ap, refl, sym, arith, get_or}
use Rattle.cg_base.specs.Sets.{has}
use Rattle.cg_base.specs.Slots.{held_from, weighted, array_slot}
use Rattle.cg_base.specs.Weights.{total_of}
use Rattle.cg_base.proofs.ArrayLemmas.{array_slot-at, held_from-all}
use Rattle.cg_base.proofs.WeightLemmas.{counted, total_of-more}
use Rattle.cg_base.proofs.weight_set.WeightSet.total_of.Goals as goal
use Rattle.cg_base.proofs.weight_set.WeightSet.total_of.Goals.{then-contains, else-contains}

pub loop-slot-init : goal.loop-slot-init
unfolding held_from
loop-slot-init c = (refl, omega arith)

pub loop-slot-preserved : goal.loop-slot-preserved
loop-slot-preserved c =
    let slots = c.self.inside.weights in
    let present = c.args.present.now in
    let slot = c.loop-slot.slot in
    let here = array_slot-at slots slot in
    let more = total_of-more (array_slot slots) present slot in
    let small = c.self.invariant.small slot in
    elim c.if-contains.branch [
      | then-contains w ↦
          let there : has present (slot + 1) ≡ true = rw c.known.ensures at (sym c.contains.ensures ∙ w.if-contains.true) in
          let counts : counted (array_slot slots) present (slot + 1) ≡ get_or slots slot 0 = rw there here in
          (omega (arith, more, counts, w.sum-is, w.from-sum.ensures, c.loop-slot.invariant.0), omega (arith, small, w.sum-is, w.from-sum.ensures, c.loop-slot.invariant.1))
      | else-contains w ↦
          let away : has present (slot + 1) ≡ false = rw c.known.ensures at (sym c.contains.ensures ∙ w.if-contains.false) in
          let counts : counted (array_slot slots) present (slot + 1) ≡ 0 = rw away in
          (omega (arith, more, counts, w.sum-is, c.loop-slot.invariant.0), omega (arith, w.sum-is, c.loop-slot.invariant.1))
    ]

pub returns : goal.returns
returns c = rw (← c.self.view_is) (c.loop-slot.invariant.0 ∙ ap (λ s. total_of s c.args.present.now) (held_from-all weighted (array_slot c.self.inside.weights) c.loop-slot.slot (omega arith)))
