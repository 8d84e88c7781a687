use Rattle.std.proofs.Common.{sym, subst, ◌∙◌}
use Rattle.cg_queue.specs.Shown.{IsShown}
use Rattle.cg_older.proofs.HeavyNames.{known-told}
use Rattle.cg_older.proofs.weights.has_heavy_known.Goals as goal

pub returns-else-has_heavy_green : goal.returns-else-has_heavy_green
returns-else-has_heavy_green c =
    let shown = subst IsShown c.queue.ensures.value c.holds.ensures.shown in
    known-told c.args.core.now.queue shown (sym c.has_heavy_green.ensures ∙ c.if-has_heavy_green.false) c.has_heavy_red.result c.has_heavy_red.ensures.found c.has_heavy_red.ensures.none
