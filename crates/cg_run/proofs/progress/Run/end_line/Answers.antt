use Rattle.std.proofs.Common.{ap}
use Rattle.cg_run.specs.Performing.{Place}
use Rattle.cg_run.proofs.progress.Run.end_line.Goals as goal

pub returns-in-Ok-clause-report : goal.returns-in-Ok-clause-report
returns-in-Ok-clause-report g c = ap (λ (p : Place). p.report) c.whole_line.ensures.placed

pub returns-in-Err-clause-report : goal.returns-in-Err-clause-report
returns-in-Err-clause-report g c = ap (λ (p : Place). p.report) c.whole_line.ensures.placed
