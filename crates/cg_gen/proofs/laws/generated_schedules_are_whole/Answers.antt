use Rattle.cg_gen.specs.GeneratedLaws.{generated-length, generated-ends, generated-stands}
use Rattle.cg_gen.proofs.laws.generated_schedules_are_whole.Goals as goal

pub returns-clause-length : goal.returns-clause-length
returns-clause-length c = generated-length

pub returns-clause-end : goal.returns-clause-end
returns-clause-end c = generated-ends

pub returns-clause-places : goal.returns-clause-places
returns-clause-places c = generated-stands
