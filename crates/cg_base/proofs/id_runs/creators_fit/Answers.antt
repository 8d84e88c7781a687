use Rattle.cg_base.proofs.RunLemmas.{named-next}
use Rattle.cg_base.proofs.id_runs.creators_fit.Goals as goal

pub loop-run-preserved : goal.loop-run-preserved
loop-run-preserved c =
    named-next c.args.runs.now c.loop-run.run-index c.run-item.result c.loop-run-test.true c.run-item.is
    c.loop-run.invariant c.holds.ensures
