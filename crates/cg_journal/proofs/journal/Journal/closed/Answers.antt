use Rattle.std.proofs.Common.{◌≡◌, ℕ, Err, sym, subst}
use Rattle.cg_disk.specs.Sides.{bytes_of}
use Rattle.cg_disk.specs.View.{LeavesOnly}
use Rattle.cg_journal.specs.Records.{HasRecords, records}
use Rattle.cg_journal.specs.Adds.{IsEither}
use Rattle.cg_journal.specs.Put.{IsKept}
use Rattle.cg_journal.specs.Closes.{IsLostClosing, Closes}
use Rattle.cg_journal.specs.Held.{IsJournal}
use Rattle.cg_journal.specs.Answers.{without_records, IsDone, IsRefused}
use Rattle.cg_journal.proofs.Appending.{closed_held, closed_done, kept_held, kept_refused}
use Rattle.cg_journal.proofs.journal.Journal.closed.Goals as goal

pub invariant_of-result : goal.invariant_of-result
invariant_of-result g c =
    let side = c.args.side in
    let old = g.D.Disk.view c.self.inside.disk in
    let new = g.D.Disk.view c.close.new.disk in
    let held = c.self.invariant in
    let bodies = (held.on side).bodies in
    let has = subst (λ n. HasRecords (bytes_of side old.reads) n bodies) (sym c.on.ensures) (held.on side).has in
    subst (λ e. IsJournal new e) (sym c.with.ensures) (closed_held side old new c.self.inside.ends held (c.in-Ok.ensures.closes bodies has))

pub returns-in-Ok-clause-ends : goal.returns-in-Ok-clause-ends
returns-in-Ok-clause-ends g c =
    let side = c.args.side in
    let old = g.D.Disk.view c.self.inside.disk in
    let new = g.D.Disk.view c.close.new.disk in
    let held = c.self.invariant in
    let bodies = (held.on side).bodies in
    let has = subst (λ n. HasRecords (bytes_of side old.reads) n bodies) (sym c.on.ensures) (held.on side).has in
    subst (λ d. IsDone (without_records side (g.D.Disk.view d)) 2 (g.D.Disk.view d) new) c.self.view_is (closed_done side old new c.self.inside.ends held (c.in-Ok.ensures.closes bodies has))

pub returns-in-Ok-clause-moments : goal.returns-in-Ok-clause-moments
returns-in-Ok-clause-moments g c =
    let side = c.args.side in
    let old = g.D.Disk.view c.self.inside.disk in
    let new = g.D.Disk.view c.close.new.disk in
    let held = c.self.invariant in
    let bodies = (held.on side).bodies in
    let has = subst (λ n. HasRecords (bytes_of side old.reads) n bodies) (sym c.on.ensures) (held.on side).has in
    subst (λ d. LeavesOnly (g.D.Disk.view d) new (IsEither (records (g.D.Disk.view d).reads) (without_records side (g.D.Disk.view d)))) c.self.view_is
    (c.close.ensures.moments bodies has)

pub returns-in-Err-Failed-clause-ends : goal.returns-in-Err-Failed-clause-ends
returns-in-Err-Failed-clause-ends g c =
    let side = c.args.side in
    let old = g.D.Disk.view c.self.inside.disk in
    let new = g.D.Disk.view c.close.new.disk in
    let held = c.self.invariant in
    let bodies = (held.on side).bodies in
    let has = subst (λ n. HasRecords (bytes_of side old.reads) n bodies) (sym c.on.ensures) (held.on side).has in
    let lost = subst (λ f. Closes {T = Unit {0}} side old new (Err f)) c.in-Err-Failed.field-0-is (c.in-Err-Failed.ensures.closes bodies has) in
    subst (λ d. (call : ℕ) × IsLostClosing call (records (g.D.Disk.view d).reads) (without_records side (g.D.Disk.view d)) (g.D.Disk.view d) new) c.self.view_is lost

pub returns-in-Err-Failed-clause-moments : goal.returns-in-Err-Failed-clause-moments
returns-in-Err-Failed-clause-moments g c =
    let side = c.args.side in
    let old = g.D.Disk.view c.self.inside.disk in
    let new = g.D.Disk.view c.close.new.disk in
    let held = c.self.invariant in
    let bodies = (held.on side).bodies in
    let has = subst (λ n. HasRecords (bytes_of side old.reads) n bodies) (sym c.on.ensures) (held.on side).has in
    subst (λ d. LeavesOnly (g.D.Disk.view d) new (IsEither (records (g.D.Disk.view d).reads) (without_records side (g.D.Disk.view d)))) c.self.view_is
    (c.close.ensures.moments bodies has)

pub invariant_of-result-in-Err-NoMemory : goal.invariant_of-result-in-Err-NoMemory
invariant_of-result-in-Err-NoMemory g c =
    let side = c.args.side in
    let old = g.D.Disk.view c.self.inside.disk in
    let new = g.D.Disk.view c.close.new.disk in
    let held = c.self.invariant in
    let bodies = (held.on side).bodies in
    let has = subst (λ n. HasRecords (bytes_of side old.reads) n bodies) (sym c.on.ensures) (held.on side).has in
    let kept : IsKept old new = subst (λ f. Closes {T = Unit {0}} side old new (Err f)) c.in-Err-NoMemory.field-0-is (c.in-Err-NoMemory.ensures.closes bodies has) in
    kept_held old new c.self.inside.ends held kept

pub returns-in-Err-NoMemory-clause-ends : goal.returns-in-Err-NoMemory-clause-ends
returns-in-Err-NoMemory-clause-ends g c =
    let side = c.args.side in
    let old = g.D.Disk.view c.self.inside.disk in
    let new = g.D.Disk.view c.close.new.disk in
    let held = c.self.invariant in
    let bodies = (held.on side).bodies in
    let has = subst (λ n. HasRecords (bytes_of side old.reads) n bodies) (sym c.on.ensures) (held.on side).has in
    let kept : IsKept old new = subst (λ f. Closes {T = Unit {0}} side old new (Err f)) c.in-Err-NoMemory.field-0-is (c.in-Err-NoMemory.ensures.closes bodies has) in
    subst (λ d. IsRefused (λ r. r ≡ records (g.D.Disk.view d).reads) 0 (g.D.Disk.view d) new) c.self.view_is (kept_refused old new kept)

pub returns-in-Err-NoMemory-clause-moments : goal.returns-in-Err-NoMemory-clause-moments
returns-in-Err-NoMemory-clause-moments g c =
    let side = c.args.side in
    let old = g.D.Disk.view c.self.inside.disk in
    let new = g.D.Disk.view c.close.new.disk in
    let held = c.self.invariant in
    let bodies = (held.on side).bodies in
    let has = subst (λ n. HasRecords (bytes_of side old.reads) n bodies) (sym c.on.ensures) (held.on side).has in
    subst (λ d. LeavesOnly (g.D.Disk.view d) new (IsEither (records (g.D.Disk.view d).reads) (without_records side (g.D.Disk.view d)))) c.self.view_is
    (c.close.ensures.moments bodies has)
