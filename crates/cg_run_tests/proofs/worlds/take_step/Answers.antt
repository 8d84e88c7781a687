use Rattle.std.proofs.Common.{sym, subst}
use Rattle.cg_model.specs.Show.{Moved}
use Rattle.cg_model.specs.NodeLaws.{IsHosted, step_nodes}
use Rattle.cg_run_tests.proofs.worlds.take_step.Goals as goal

-- src/worlds.rt: the world behind a step is hosted
pub returns-in-Done : goal.returns-in-Done
returns-in-Done c =
    let stepped = c.in-Done.ensures in
    subst (λ (m : Moved). IsHosted m.world) (sym stepped.1) (step_nodes c.args.world.world c.args.event.now c.requires.stands stepped.0)
