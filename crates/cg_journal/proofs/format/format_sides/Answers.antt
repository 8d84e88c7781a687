use Rattle.cg_journal.proofs.Opening.{fresh_from}
use Rattle.cg_journal.proofs.format.format_sides.Goals as goal

pub returns : goal.returns
returns g c = fresh_from (g.D.Disk.view c.args.disk.now) (g.D.Disk.view c.put_fronts.new.disk) c.put_fronts.result c.put_fronts.ensures
