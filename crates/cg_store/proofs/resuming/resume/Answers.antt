use Rattle.std.proofs.Common.{sym, subst}
use Rattle.cg_queue.specs.Queue.{names_of}
use Rattle.cg_client.specs.Replica.{Held}
use Rattle.cg_store.specs.Leading.{AreNext, IsBelow}
use Rattle.cg_store.proofs.KeptGreens.{greens_resumed}
use Rattle.cg_disk_records.specs.NameLaws.{small-cut}
use Rattle.cg_store.proofs.Leading.{below-next, below-leads}
use Rattle.cg_store.proofs.resuming.resume.Goals as goal

pub put_greens-requires-clause-next : goal.put_greens-requires-clause-next
put_greens-requires-clause-next c =
    let g = c.args.state in
    let below = c.cut_below-below.result in
    let is = subst (λ greens. IsBelow g.reached.cut greens below) c.as_slice.ensures c.cut_below-below.ensures in
    subst (λ (h : Held). AreNext h.queue.green_cut (names_of g.greens)) (sym c.in_ok-core.ensures)
    (below-next g.reached.cut g.greens below is c.requires.greens c.requires.lead)

pub returns : goal.returns
returns c =
    let g = c.args.state in
    let below = c.cut_below-below.result in
    let is = subst (λ greens. IsBelow g.reached.cut greens below) c.as_slice.ensures c.cut_below-below.ensures in
    greens_resumed c.args.id g below c.in_ok-core.core c.put_greens.new.core c.in_ok-core.ensures c.in_ok-put_greens.ensures
    (below-leads g.reached.cut g.greens below is c.requires.greens c.requires.lead (small-cut g.reached.cut c.requires.reached.cut))
