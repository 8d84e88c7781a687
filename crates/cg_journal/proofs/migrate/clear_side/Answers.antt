use Rattle.cg_disk.specs.Writes.{TornSide}
use Rattle.cg_journal.specs.Migrates.{IsShutting}
use Rattle.cg_journal.specs.Renews.{IsUnrenewed}
use Rattle.cg_journal.specs.ViewLaws.{chained, weakened}
use Rattle.cg_journal.proofs.Clearing.{clears, cleared_at, early_failed, torn_unrenewed}
use Rattle.cg_journal.proofs.Renewing.{shutting_unrenewed}
use Rattle.cg_journal.proofs.migrate.clear_side.Goals as goal

pub returns-in-Ok-clause-clears : goal.returns-in-Ok-clause-clears
returns-in-Ok-clause-clears g c = λ s may.
    clears c.args.side s (g.D.Disk.view c.args.disk.now) (g.D.Disk.view c.shut.new.disk) may c.in-Ok.ensures.shuts (g.met.D.Disk.is_view c.shut.new.disk) (g.D.Disk.view c.put.new.disk) c.put.result c.put.ensures.puts

pub returns-in-Ok-clause-moments : goal.returns-in-Ok-clause-moments
returns-in-Ok-clause-moments g c = λ s may.
    let side = c.args.side in
    let old = g.D.Disk.view c.args.disk.now in
    let m1 = g.D.Disk.view c.shut.new.disk in
    let new = g.D.Disk.view c.put.new.disk in
    let P = IsUnrenewed side s in
    chained old m1 new P (TornSide side 0 8 m1.reads) (weakened old m1 (IsShutting side old.reads) P c.shut.ensures.moments (shutting_unrenewed side s old may)) c.put.ensures.moments
    (torn_unrenewed side s old m1 may c.in-Ok.ensures.shuts (g.met.D.Disk.is_view c.shut.new.disk) new)

pub returns-in-Err-clause-clears : goal.returns-in-Err-clause-clears
returns-in-Err-clause-clears g c = λ s may.
    early_failed c.args.side s (g.D.Disk.view c.args.disk.now) (g.D.Disk.view c.shut.new.disk) may (Unit {0}) c.in-Err.fault c.in-Err.ensures.shuts

pub returns-in-Err-clause-moments : goal.returns-in-Err-clause-moments
returns-in-Err-clause-moments g c = λ s may.
    let side = c.args.side in
    let old = g.D.Disk.view c.args.disk.now in
    weakened old (g.D.Disk.view c.shut.new.disk) (IsShutting side old.reads) (IsUnrenewed side s) c.shut.ensures.moments (shutting_unrenewed side s old may)

pub returns-in-Ok-clause-side : goal.returns-in-Ok-clause-side
returns-in-Ok-clause-side g c =
    cleared_at c.args.side (g.D.Disk.view c.args.disk.now) (g.D.Disk.view c.shut.new.disk) (g.D.Disk.view c.put.new.disk) c.in-Ok.ensures.shuts c.put.result c.put.ensures.puts
