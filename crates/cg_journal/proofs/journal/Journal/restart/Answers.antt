use Rattle.std.proofs.Common.{◌∙◌}
use Rattle.cg_journal.proofs.Appending.{restarts_from}
use Rattle.cg_journal.proofs.journal.Journal.restart.Goals as goal

pub returns-in-Ok-closed-clause-ends : goal.returns-in-Ok-closed-clause-ends
returns-in-Ok-closed-clause-ends g c =
    restarts_from c.args.side c.args.body.now (g.D.Disk.view c.args.self) (g.D.Disk.view c.in-Ok-closed.journal) c.in-Ok-closed.ensures.ends g.D.Disk.view c.append_framed.result
    (c.append_framed.ensures.ends c.args.body.now (c.deref.ensures.value ∙ c.in-Ok.ensures) c.requires.short)
