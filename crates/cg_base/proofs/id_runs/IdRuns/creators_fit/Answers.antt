use Rattle.std.proofs.Common.{subst}
use Rattle.cg_base.specs.IdRuns.{AreOfReplicas}
use Rattle.cg_base.proofs.RunLemmas.{runs_named}
use Rattle.cg_base.proofs.id_runs.IdRuns.creators_fit.Goals as goal

pub returns : goal.returns
returns c = rw (← c.self.view_is) (runs_named c.self.inside.runs.items (subst AreOfReplicas c.as_slice.ensures.value c.creators_fit.ensures))
