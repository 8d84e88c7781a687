use Rattle.std.proofs.Common.{subst, inl}
use Rattle.cg_disk.specs.Writes.{TornSide}
use Rattle.cg_journal.specs.Migrates.{IsShut, IsShutting, IsHeadedBy}
use Rattle.cg_journal.specs.Renews.{IsRenewing}
use Rattle.cg_journal.specs.ViewLaws.{chained, weakened}
use Rattle.cg_journal.proofs.Renewing.{renews, renewed_at, head_failed, shut_failed, shutting_unrenewed, shut_unrenewed, gate_renewing}
use Rattle.cg_journal.proofs.migrate.renew_side.Goals as goal

pub returns-in-Ok-head-clause-renews : goal.returns-in-Ok-head-clause-renews
returns-in-Ok-head-clause-renews g c = λ body s is short may.
    let old = g.D.Disk.view c.args.disk.now in
    let m1 = g.D.Disk.view c.shut.new.disk in
    let m2 = g.D.Disk.view c.head.new.disk in
    let headed = subst (λ l. IsHeadedBy c.args.side l m1 m2) is c.in-Ok-head.ensures.heads in
    renews c.args.side body short s old m1 may c.in-Ok.ensures.shuts m2 headed (g.met.D.Disk.is_view c.head.new.disk) (g.D.Disk.view c.put.new.disk) c.put.result c.put.ensures.puts

pub returns-in-Ok-head-clause-moments : goal.returns-in-Ok-head-clause-moments
returns-in-Ok-head-clause-moments g c = λ body s is short may.
    let side = c.args.side in
    let old = g.D.Disk.view c.args.disk.now in
    let m1 = g.D.Disk.view c.shut.new.disk in
    let m2 = g.D.Disk.view c.head.new.disk in
    let new = g.D.Disk.view c.put.new.disk in
    let P = IsRenewing side body s in
    let headed = subst (λ l. IsHeadedBy side l m1 m2) is c.in-Ok-head.ensures.heads in
    let first = weakened old m1 (IsShutting side old.reads) P c.shut.ensures.moments (λ x shutting. inl (shutting_unrenewed side s old may x shutting)) in
    let second = chained old m1 m2 P (IsShut side m1.reads) first c.head.ensures.moments (λ x shut. inl (shut_unrenewed side body short s old m1 may c.in-Ok.ensures.shuts x shut)) in
    chained old m2 new P (TornSide side 8 1 m2.reads) second c.put.ensures.moments
    (gate_renewing side body short s old m1 may c.in-Ok.ensures.shuts m2 headed (g.met.D.Disk.is_view c.head.new.disk))

pub returns-in-Err-head-clause-renews : goal.returns-in-Err-head-clause-renews
returns-in-Err-head-clause-renews g c = λ body s is short may.
    let old = g.D.Disk.view c.args.disk.now in
    let m1 = g.D.Disk.view c.shut.new.disk in
    head_failed c.args.side body short s old m1 may c.in-Ok.ensures.shuts (Unit {0}) (g.D.Disk.view c.head.new.disk) c.args.bytes.now c.in-Err-head.fault c.in-Err-head.ensures.heads

pub returns-in-Err-head-clause-moments : goal.returns-in-Err-head-clause-moments
returns-in-Err-head-clause-moments g c = λ body s is short may.
    let side = c.args.side in
    let old = g.D.Disk.view c.args.disk.now in
    let m1 = g.D.Disk.view c.shut.new.disk in
    let P = IsRenewing side body s in
    let first = weakened old m1 (IsShutting side old.reads) P c.shut.ensures.moments (λ x shutting. inl (shutting_unrenewed side s old may x shutting)) in
    chained old m1 (g.D.Disk.view c.head.new.disk) P (IsShut side m1.reads) first c.head.ensures.moments (λ x shut. inl (shut_unrenewed side body short s old m1 may c.in-Ok.ensures.shuts x shut))

pub returns-in-Err-clause-renews : goal.returns-in-Err-clause-renews
returns-in-Err-clause-renews g c = λ body s is short may.
    shut_failed c.args.side body short s (g.D.Disk.view c.args.disk.now) (g.D.Disk.view c.shut.new.disk) may (Unit {0}) c.in-Err.fault c.in-Err.ensures.shuts

pub returns-in-Err-clause-moments : goal.returns-in-Err-clause-moments
returns-in-Err-clause-moments g c = λ body s is short may.
    let side = c.args.side in
    let old = g.D.Disk.view c.args.disk.now in
    weakened old (g.D.Disk.view c.shut.new.disk) (IsShutting side old.reads) (IsRenewing side body s) c.shut.ensures.moments (λ x shutting. inl (shutting_unrenewed side s old may x shutting))

pub returns-in-Ok-head-clause-side : goal.returns-in-Ok-head-clause-side
returns-in-Ok-head-clause-side g c = λ body is short.
    let m1 = g.D.Disk.view c.shut.new.disk in
    let m2 = g.D.Disk.view c.head.new.disk in
    renewed_at c.args.side body short (g.D.Disk.view c.args.disk.now) m1 m2 (g.D.Disk.view c.put.new.disk) c.in-Ok.ensures.shuts (subst (λ l. IsHeadedBy c.args.side l m1 m2) is c.in-Ok-head.ensures.heads) c.put.result c.put.ensures.puts
