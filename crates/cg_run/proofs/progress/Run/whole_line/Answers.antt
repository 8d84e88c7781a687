use Rattle.std.proofs.Common.{sym, ◌∙◌}
use Rattle.cg_run.proofs.progress.Run.whole_line.Goals as goal

pub returns-in-Some-clause-performs : goal.returns-in-Some-clause-performs
returns-in-Some-clause-performs g c = rw (sym c.passed_limit.ensures ∙ c.in-Some.is) c.end.ensures
