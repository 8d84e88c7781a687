use Rattle.std.proofs.Common.{take}
use Rattle.cg_base.specs.IdRuns.{AreOfReplicas}
use Rattle.cg_base.proofs.id_runs.creators_fit.Given as goal

abbrev pub invariant-loop-run : goal.invariant-loop-run
invariant-loop-run l = AreOfReplicas (take l.run-index l.runs)
