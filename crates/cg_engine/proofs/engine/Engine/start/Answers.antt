use Rattle.cg_engine.proofs.Starting.{not_begun}
use Rattle.cg_engine.proofs.engine.Engine.start.Goals as goal

pub returns-in-Err : goal.returns-in-Err
returns-in-Err g c = not_begun g.D.Disk.view c.args.disk c.args.id c.args.servers.now c.new.result (g.met.D.Disk.is_view c.args.disk) c.new.ensures
