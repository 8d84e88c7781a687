use Rattle.std.proofs.Common.{Err, sym, subst, ◌∙◌}
use Rattle.cg_disk_records.specs.Stored.{stored_of}
use Rattle.cg_store.specs.Migrating.{MakesOld}
use Rattle.cg_store.proofs.MakingOld.{makes_old, making_fails}
use Rattle.cg_store.proofs.store.Store.create_old.Goals as goal

pub returns-in-Ok-make_old : goal.returns-in-Ok-make_old
returns-in-Ok-make_old g c =
    makes_old c.old_checkpoints_are_exact.ensures.again g.D.Disk.view c.args.core.now c.deref.result.now (g.D.Disk.view c.args.disk) (c.deref.ensures.value ∙ c.in-Ok.ensures.spelled)
    c.in-Ok.ensures.within c.requires.agrees c.requires.weights c.in-Ok-make_old.disk c.in-Ok-make_old.ensures

pub returns : goal.returns
returns g c =
    subst (λ x. MakesOld g.D.Disk.view c.args.core.now.id (stored_of c.args.core.now) (g.D.Disk.view c.args.disk) (Err x)) (sym c.format_fault.ensures)
    (making_fails g.D.Disk.view c.args.core.now.id (stored_of c.args.core.now) c.deref.result.now (g.D.Disk.view c.args.disk) c.in-Err-make_old.fault c.in-Err-make_old.ensures)
