use Rattle.std.proofs.Common.{◌≡◌, ◌+◌, length, sym, ◌∙◌, ap, subst, arith}
use Rattle.cg_journal.specs.Heads.{IsMixedJournal}
use Rattle.cg_journal.proofs.Adding.{length-framed}
use Rattle.cg_journal.proofs.MixedHeads.{renewed_held}
use Rattle.cg_journal.proofs.mixed.MixedJournal.renew.Goals as goal

pub invariant_of-result : goal.invariant_of-result
invariant_of-result g c =
    let body = c.args.body.now in
    let new = g.D.Disk.view c.renew_side.new.disk in
    let bytes = c.in-Ok.bytes in
    let end : 9 + c.len.result ≡ 14 + length body = omega (arith, c.len.ensures, bytes.ok, ap length c.in-Ok.ensures, length-framed body) in
    subst (IsMixedJournal new) (sym c.with-heads.ensures)
    (renewed_held c.args.side body (9 + c.len.result) (g.D.Disk.view c.self.inside.disk) new c.self.inside.heads c.self.invariant
    (c.in-Ok-renew_side.ensures.side body (c.deref.ensures.value ∙ c.in-Ok.ensures) c.requires.short) end)
