use Rattle.cg_older.proofs.HeavyNames.{next-creator}
use Rattle.cg_older.proofs.weights.has_heavy_red.Goals as goal

pub loop-slot-preserved : goal.loop-slot-preserved
loop-slot-preserved c =
    next-creator c.args.core.now.queue c.loop-slot.slot c.known.result c.known.ensures c.loop-slot.invariant (c.has_heavy_of.ensures.none c.if-has_heavy_of.false)
