use Rattle.std.proofs.Common.{sym, subst}
use Rattle.std.specs.Option.{option_copied}
use Rattle.cg_model.specs.Show.{Moved}
use Rattle.cg_model.specs.NodeLaws.{IsHosted, step_nodes}
use Rattle.cg_run.proofs.GoingOn.{on-ok}
use Rattle.cg_run.proofs.Happening.{one_step-done}
use Rattle.cg_run.specs.Performing.{seen}
use Rattle.cg_run.proofs.progress.Run.take_step.Goals as goal

pub count_step-requires-clause-hosted : goal.count_step-requires-clause-hosted
count_step-requires-clause-hosted g c =
    let w = (seen c.args.self.now).world in
    let e = c.args.event.now in
    let stepped = c.in-Ok.ensures in
    subst (λ (m : Moved). IsHosted m.world) (sym stepped.1) (step_nodes w e c.requires.stands stepped.0)

pub returns-in-Ok-clause-performs : goal.returns-in-Ok-clause-performs
returns-in-Ok-clause-performs g c =
    rw (one_step-done c.args.self.now.line (option_copied c.args.asked) c.args.event.now (seen c.args.self.now) c.step.new.self.world c.in-Ok.entry c.in-Ok.ensures.0 c.in-Ok.ensures.1)
    (c.count_step.ensures.performs (seen c.args.self.now).world c.args.event.now)

pub returns-in-Ok-clause-begun : goal.returns-in-Ok-clause-begun
returns-in-Ok-clause-begun g c = on-ok c.count_step.result c.count_step.ensures.begun
