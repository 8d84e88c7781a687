use Rattle.cg_base.proofs.RunLemmas.{runs_fit}
use Rattle.cg_base.proofs.id_runs.IdRuns.indexes_fit.Goals as goal

pub returns : goal.returns
returns c = rw (← c.self.view_is) (runs_fit c.self.inside.runs.items c.self.invariant)
