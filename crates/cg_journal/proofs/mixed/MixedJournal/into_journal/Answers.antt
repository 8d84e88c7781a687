use Rattle.std.proofs.Common.{sym, subst}
use Rattle.cg_journal.specs.Answers.{CanBeRead}
use Rattle.cg_journal.proofs.MixedHeads.{journal_held}
use Rattle.cg_journal.proofs.mixed.MixedJournal.into_journal.Goals as goal

pub of-requires : goal.of-requires
of-requires g c = journal_held (g.D.Disk.view c.self.inside.disk) c.self.inside.heads c.self.invariant (subst (λ d. CanBeRead (g.D.Disk.view d)) (sym c.self.view_is) c.requires)
