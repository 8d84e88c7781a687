use Rattle.std.proofs.Common.{Err, sym, subst}
use Rattle.cg_store.specs.Opening.{OpensStore}
use Rattle.cg_store.proofs.Opened.{reading_fails, opens_from}
use Rattle.cg_store.proofs.store.Store.open.Goals as goal

pub returns-in-Ok : goal.returns-in-Ok
returns-in-Ok g c = opens_from g.D.Disk.view c.args.id (g.D.Disk.view c.args.disk) c.in-Ok.journal c.in-Ok.ensures.read c.open_sides.result c.open_sides.ensures

pub returns-in-Err : goal.returns-in-Err
returns-in-Err g c =
    subst (λ x. OpensStore g.D.Disk.view c.args.id (g.D.Disk.view c.args.disk) (Err x)) (sym c.read_fault.ensures)
    (reading_fails g.D.Disk.view c.args.id (g.D.Disk.view c.args.disk) c.in-Err.fault c.in-Err.ensures)
