use Rattle.std.proofs.Common.{◌≡◌, nat_lt, ap, subst}
use Rattle.cg_disk_records.specs.Checkpoint.{size_limit}
use Rattle.cg_store.specs.Stands.{OnDisk, Stands}
use Rattle.cg_store.proofs.Appending.{its_side}
use Rattle.cg_store.proofs.Standing.{stands_end}
use Rattle.cg_store.proofs.store.Store.is_long.Goals as goal

pub returns : goal.returns
returns g c =
    let s = c.self.inside in
    let held = c.self.invariant in
    let old = g.D.Disk.view s.journal in
    subst (λ k. (u : OnDisk) → Stands k.id (g.D.Disk.view k.disk).reads u → nat_lt size_limit c.length.result ≡ nat_lt size_limit u.size) c.self.view_is
    (λ u stands. ap (nat_lt size_limit) (stands_end s.id old.reads u s.side c.length.result stands (its_side old s.id s.side s.generation s.values held u stands) c.length.ensures))
