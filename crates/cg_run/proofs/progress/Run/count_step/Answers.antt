use Rattle.std.proofs.Common.{ap}
use Rattle.cg_run.specs.Performing.{place}
use Rattle.cg_run.proofs.Counting.{begun-counted}
use Rattle.cg_run.proofs.progress.Run.count_step.Goals as goal

pub returns-clause-begun : goal.returns-clause-begun
returns-clause-begun g c = begun-counted c.args.self.now c.count_entry.new.self c.count_entry.ensures.rest (record { started = c.requires.started; hosted = c.requires.hosted })

pub returns-clause-placed : goal.returns-clause-placed
returns-clause-placed g c = ap place c.count_entry.ensures.rest
