use Rattle.std.proofs.Common.{subst}
use Rattle.cg_store.specs.Stands.{OnDisk, Stands}
use Rattle.cg_store.proofs.Appending.{standing_at}
use Rattle.cg_store.proofs.store.Store.holds.Goals as goal

pub returns-clause-stands : goal.returns-clause-stands
returns-clause-stands g c =
    let s = c.self.inside in
    let held = c.self.invariant in
    subst (λ k. (u : OnDisk) × Stands k.id (g.D.Disk.view k.disk).reads u) c.self.view_is (standing_at s.side s.generation held.size held.content, held.stands)
