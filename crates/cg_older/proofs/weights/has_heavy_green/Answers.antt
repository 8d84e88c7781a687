use Rattle.std.proofs.Common.{sym, ◌∙◌}
use Rattle.std.specs.Option.{option_copied}
use Rattle.cg_older.proofs.Heavy.{heavy-found, heavy-next}
use Rattle.cg_older.proofs.weights.has_heavy_green.Goals as goal

pub returns-then-is_heavy_at : goal.returns-then-is_heavy_at
returns-then-is_heavy_at c =
    heavy-found c.args.core.now.queue.greens c.loop-i.i (option_copied c.green_at.result) c.green_at.ensures (sym c.is_heavy_at.ensures ∙ c.if-is_heavy_at.true) c.loop-i.invariant

pub loop-i-preserved : goal.loop-i-preserved
loop-i-preserved c =
    heavy-next c.args.core.now.queue.greens c.loop-i.i (option_copied c.green_at.result) c.green_at.ensures (sym c.is_heavy_at.ensures ∙ c.if-is_heavy_at.false) c.loop-i.invariant
