use Rattle.std.proofs.Common.{sym, subst}
use Rattle.cg_store.specs.Settling.{IsCleared}
use Rattle.cg_store.proofs.Clearing.{across_back, newer_back, goes, cleared_reads, may_go, cleared_reached, cleared_moments, clearing_fails}
use Rattle.cg_store.proofs.settling.clear_other.Goals as goal

pub into_journal-requires : goal.into_journal-requires
into_journal-requires g c =
    let side = c.other.result in
    let old = g.D.Disk.view c.args.journal in
    let back = newer_back c.args.side side old c.other.ensures c.requires.newer in
    cleared_reads side old (g.D.Disk.view c.in-Ok.journal) back (c.in-Ok.ensures.ends back.on (goes side old back))

pub returns-in-Ok-clause-clears : goal.returns-in-Ok-clause-clears
returns-in-Ok-clause-clears g c id earlier was s u ready on =
    let view = g.D.Disk.view in
    let old = view c.args.journal in
    let new = view c.in-Ok.journal in
    let side = c.other.result in
    let far = across_back u.side c.args.side side on c.other.ensures in
    let go = may_go id earlier was s u old new side ready far in
    subst (λ j. IsCleared view id was old (record { journal = j; side = c.args.side; generation = c.args.generation })) (sym c.into_journal.ensures)
    (record {
      reached = cleared_reached id earlier was s u old new side ready far (c.in-Ok.ensures.ends s go);
      moments = cleared_moments id earlier was s u old new side ready far (c.in-Ok.ensures.moments s go);
    })

pub returns-in-Err-clause-clears : goal.returns-in-Err-clause-clears
returns-in-Err-clause-clears g c id earlier was s u ready on =
    let view = g.D.Disk.view in
    let side = c.other.result in
    let far = across_back u.side c.args.side side on c.other.ensures in
    clearing_fails view id earlier was s u (view c.args.journal) side ready far c.in-Err.fault c.in-Err.ensures.ends c.in-Err.ensures.moments
