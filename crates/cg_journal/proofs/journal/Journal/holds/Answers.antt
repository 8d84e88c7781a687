use Rattle.std.proofs.Common.{subst}
use Rattle.cg_journal.specs.Answers.{CanBeRead}
use Rattle.cg_journal.proofs.Appending.{can_be_read}
use Rattle.cg_journal.proofs.journal.Journal.holds.Goals as goal

pub returns : goal.returns
returns g c = subst (λ d. CanBeRead (g.D.Disk.view d)) c.self.view_is (can_be_read (g.D.Disk.view c.self.inside.disk) c.self.inside.ends c.self.invariant)
