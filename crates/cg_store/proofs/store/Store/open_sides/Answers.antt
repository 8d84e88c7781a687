use Rattle.std.proofs.Common.{subst}
use Rattle.cg_store.specs.Translated.{FindsOn}
use Rattle.cg_store.proofs.Opened.{for_none}
use Rattle.cg_store.proofs.store.Store.open_sides.Goals as goal

pub returns-in-Ok-None : goal.returns-in-Ok-None
returns-in-Ok-None g c =
    let none = subst (FindsOn c.args.id (record { a = c.args.a; b = c.args.b })) c.in-Ok-None.field-0-is c.in-Ok-None.ensures in
    (c.into_disk.ensures, for_none c.args.id (g.D.Disk.view c.args.journal).reads (record { a = c.args.a; b = c.args.b }) c.requires.found none)
