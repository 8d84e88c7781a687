use Rattle.std.proofs.Common.{ap, subst, ℕ}
use Rattle.cg_store.specs.Opening.{IsOpened}
use Rattle.cg_engine.proofs.Rising.{opened_is, recovers}
use Rattle.cg_engine.specs.declared.wreck.LastEvent.{LastEvent}
use Rattle.cg_engine.proofs.engine.Engine.recover.Goals as goal

pub recover_replica-requires : goal.recover_replica-requires
recover_replica-requires g c =
    let view = g.D.Disk.view in
    let parts = c.into_parts-disk.ensures in
    let store = c.in-Ok.store in
    let core = c.in-Ok.core in
    let is_open = subst (λ (p : g.row.D.Denot × ℕ × LastEvent). IsOpened view p.1 (view p.0) store core) parts c.in-Ok.ensures in
    opened_is view c.args.w c.into_parts-disk.result.2 (ap (λ (p : g.row.D.Denot × ℕ × LastEvent). p.2.count) parts) (ap (λ (p : g.row.D.Denot × ℕ × LastEvent). p.2.green) parts) store core is_open

pub returns-in-Ok : goal.returns-in-Ok
returns-in-Ok g c =
    let view = g.D.Disk.view in
    let parts = c.into_parts-disk.ensures in
    let store = c.in-Ok.store in
    let core = c.in-Ok.core in
    let is_open = subst (λ (p : g.row.D.Denot × ℕ × LastEvent). IsOpened view p.1 (view p.0) store core) parts c.in-Ok.ensures in
    recovers view c.args.w c.into_parts-disk.result.2 (ap (λ (p : g.row.D.Denot × ℕ × LastEvent). p.2.count) parts) (ap (λ (p : g.row.D.Denot × ℕ × LastEvent). p.2.green) parts) store core is_open c.recover_replica.result c.recover_replica.ensures
