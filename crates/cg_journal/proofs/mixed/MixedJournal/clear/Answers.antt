use Rattle.std.proofs.Common.{sym, subst}
use Rattle.cg_journal.specs.Heads.{IsMixedJournal}
use Rattle.cg_journal.proofs.MixedHeads.{cleared_held}
use Rattle.cg_journal.proofs.mixed.MixedJournal.clear.Goals as goal

pub invariant_of-result : goal.invariant_of-result
invariant_of-result g c =
    let new = g.D.Disk.view c.clear_side.new.disk in
    subst (IsMixedJournal new) (sym c.with-heads.ensures)
    (cleared_held c.args.side (g.D.Disk.view c.self.inside.disk) new c.self.inside.heads c.self.invariant c.in-Ok.ensures.side)
