use Rattle.std.proofs.Common.{[], subst}
use Rattle.cg_engine.specs.Engines.{Fallen}
use Rattle.cg_engine.specs.Answers.{EndsEvent}
use Rattle.cg_engine.specs.declared.answers.Handled.TheVariants.{NoMemory}
use Rattle.cg_engine.specs.declared.wreck.LastEvent.{LastEvent}
use Rattle.cg_engine.proofs.Ending.{refused_as, refuses}
use Rattle.cg_engine.proofs.engine.Engine.refuse.Goals as goal

pub returns : goal.returns
returns g c = λ u t written stands.
    let view = g.D.Disk.view in
    let store = c.args.store in
    let last : LastEvent = record { count = c.args.count; green = [] } in
    subst (λ (w : Fallen _). EndsEvent view store c.args.count u t written (NoMemory w))
    (refused_as store.disk c.into_disk.result c.id-id.result store.id c.args.count c.new-green.result c.of.result c.of.ensures c.into_disk.ensures.disk c.id-id.ensures c.new-green.ensures)
    (refuses view store u (g.met.D.Disk.is_view store.disk) c.into_disk.ensures.rest stands t written last)
