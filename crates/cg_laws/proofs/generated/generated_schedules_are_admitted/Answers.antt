use Rattle.cg_laws.proofs.Schedule.{generated-are-admitted}
use Rattle.cg_laws.proofs.Trials.{trials-are-admitted, trials-end, trials-are-replays}
use Rattle.cg_laws.proofs.generated.generated_schedules_are_admitted.Goals as goal

pub returns-clause-run : goal.returns-clause-run
returns-clause-run c = generated-are-admitted

pub returns-clause-trial : goal.returns-clause-trial
returns-clause-trial c = trials-are-admitted c.printed_lines_are_read.ensures generated-are-admitted

pub returns-clause-ends : goal.returns-clause-ends
returns-clause-ends c = trials-end c.printed_lines_are_read.ensures generated-are-admitted

pub returns-clause-replay : goal.returns-clause-replay
returns-clause-replay c = trials-are-replays
