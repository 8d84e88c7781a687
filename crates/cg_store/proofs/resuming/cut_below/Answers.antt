use Rattle.std.proofs.Common.{◌-◌, ◌∙◌}
use Rattle.cg_store.proofs.Leading.{below-made}
use Rattle.cg_store.proofs.resuming.cut_below.Goals as goal

pub loop-slot-preserved : goal.loop-slot-preserved
loop-slot-preserved c =
    below-made c.args.cut.now c.args.greens.now c.loop-slot.slot c.known-id.result c.saturating_sub.result c.loop-slot.below c.raise.new.self
    c.loop-slot-test.true c.requires.indexes c.loop-slot.invariant c.known-id.ensures
    (c.saturating_sub.ensures ∙ (λ i. c.get.ensures i - c.count_of.ensures i)) c.raise.ensures
