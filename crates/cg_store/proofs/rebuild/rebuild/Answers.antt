use Rattle.std.proofs.Common.{sym, subst}
use Rattle.cg_queue.specs.Queue.{names_of}
use Rattle.cg_client.specs.Replica.{Held}
use Rattle.cg_disk_records.specs.Parts.{queue_in}
use Rattle.cg_store.specs.Leading.{AreNext}
use Rattle.cg_disk_records.specs.NameLaws.{small-cut}
use Rattle.cg_store.proofs.Leading.{greens-lead, reds-next}
use Rattle.cg_store.proofs.Rebuilding.{all-but-values, yellow-red, rebuilt}
use Rattle.cg_store.proofs.rebuild.rebuild.Goals as goal

pub resume-requires-clause-lead : goal.resume-requires-clause-lead
resume-requires-clause-lead c = greens-lead (queue_in c.args.p) c.requires.fits.agrees.each

pub put_reds-requires-clause-next : goal.put_reds-requires-clause-next
put_reds-requires-clause-next c =
    let p = c.args.p in
    subst (λ (h : Held). AreNext h.queue.red_cut (names_of p.kept.reds)) (sym c.in_ok-core.ensures)
    (reds-next (queue_in p) c.requires.fits.agrees.each (small-cut p.reached.cut c.requires.parts.reached.cut) c.requires.parts.kept.reds.each)

pub take_values-requires : goal.take_values-requires
take_values-requires c =
    let p = c.args.p in
    yellow-red p c.put_own.new.core c.args.id
    (all-but-values c.args.id p c.in_ok-core.core c.put_reds.new.core c.put_own.new.core c.in_ok-core.ensures c.in_ok-put_reds.ensures c.in_ok-put_own.ensures c.requires.fits.agrees.by_name)
    c.requires.fits.agrees.yellow

pub returns : goal.returns
returns c =
    let p = c.args.p in
    rebuilt c.args.id p c.put_own.new.core c.take_values.new.core
    (all-but-values c.args.id p c.in_ok-core.core c.put_reds.new.core c.put_own.new.core c.in_ok-core.ensures c.in_ok-put_reds.ensures c.in_ok-put_own.ensures c.requires.fits.agrees.by_name)
    c.in_ok-take_values.ensures
