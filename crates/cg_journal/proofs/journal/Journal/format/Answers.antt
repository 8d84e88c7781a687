use Rattle.cg_journal.proofs.Opening.{fresh_done}
use Rattle.cg_journal.proofs.journal.Journal.format.Goals as goal

pub returns-in-Ok : goal.returns-in-Ok
returns-in-Ok g c = fresh_done (g.D.Disk.view c.args.disk) (g.D.Disk.view c.format_sides.new.disk) c.in-Ok.ensures
