use Rattle.std.proofs.Common.{lit<}
use Rattle.cg_store.proofs.Appending.{begun_held}
use Rattle.cg_store.proofs.store.Store.first.Goals as goal

pub invariant_of-result : goal.invariant_of-result
invariant_of-result g c =
    begun_held (g.D.Disk.view c.args.journal) (g.D.Disk.view c.in-Ok.journal) c.args.id c.args.body.now c.requires.empty c.args.values c.requires.first c.in-Ok.ensures.ends (lit< tt)
