use Rattle.std.proofs.Common.{◌≡◌, ◌+◌, ◌-◌, length, Err, sym, ◌∙◌, ap, subst, arith}
use Rattle.cg_disk.specs.Sides.{bytes_of}
use Rattle.cg_disk.specs.View.{LeavesOnly}
use Rattle.cg_journal.specs.Records.{HasRecords, records}
use Rattle.cg_journal.specs.Adds.{Adds, IsEither, IsAdded, IsNotAdded, IsLostIn}
use Rattle.cg_journal.specs.Held.{end_on, with_end, IsJournal}
use Rattle.cg_journal.specs.Answers.{with_record, IsDone, IsRefused, IsLostAppend}
use Rattle.cg_journal.proofs.Adding.{length-framed}
use Rattle.cg_journal.proofs.Appending.{append_held, append_done, append_lost, append_refused, refused_held}
use Rattle.cg_journal.proofs.journal.Journal.append_framed.Goals as goal

pub invariant_of-result : goal.invariant_of-result
invariant_of-result g c =
    let body = c.requires.framed.body in
    let is = c.requires.framed.is in
    let short = c.requires.framed.short in
    let side = c.args.side in
    let old = g.D.Disk.view c.self.inside.disk in
    let new = g.D.Disk.view c.add.new.disk in
    let held = c.self.invariant in
    let bodies = (held.on side).bodies in
    let has = subst (λ n. HasRecords (bytes_of side old.reads) n bodies) (sym c.on-end.ensures) (held.on side).has in
    let done = subst (λ n. IsAdded side n bodies body old new) c.on-end.ensures (c.in-Ok.ensures.adds bodies body has is short) in
    let next : c.on-end.result + length c.args.bytes.now ≡ end_on side c.self.inside.ends + 5 + length body = omega (arith, c.on-end.ensures, ap length is, length-framed body) in
    subst (λ e. IsJournal new e) (sym (c.with.ensures ∙ ap (λ n. with_end side n c.self.inside.ends) next))
    (append_held side body old new c.self.inside.ends held bodies done)

pub returns-in-Ok-clause-ends : goal.returns-in-Ok-clause-ends
returns-in-Ok-clause-ends g c = λ body is short.
    let side = c.args.side in
    let old = g.D.Disk.view c.self.inside.disk in
    let new = g.D.Disk.view c.add.new.disk in
    let held = c.self.invariant in
    let bodies = (held.on side).bodies in
    let has = subst (λ n. HasRecords (bytes_of side old.reads) n bodies) (sym c.on-end.ensures) (held.on side).has in
    let done = subst (λ n. IsAdded side n bodies body old new) c.on-end.ensures (c.in-Ok.ensures.adds bodies body has is short) in
    subst (λ d. IsDone (with_record side body (g.D.Disk.view d)) 4 (g.D.Disk.view d) new) c.self.view_is (append_done side body old new c.self.inside.ends held bodies done)

pub returns-in-Ok-clause-moments : goal.returns-in-Ok-clause-moments
returns-in-Ok-clause-moments g c = λ body is short.
    let side = c.args.side in
    let old = g.D.Disk.view c.self.inside.disk in
    let new = g.D.Disk.view c.add.new.disk in
    let held = c.self.invariant in
    let bodies = (held.on side).bodies in
    let has = subst (λ n. HasRecords (bytes_of side old.reads) n bodies) (sym c.on-end.ensures) (held.on side).has in
    subst (λ d. LeavesOnly (g.D.Disk.view d) new (IsEither (records (g.D.Disk.view d).reads) (with_record side body (g.D.Disk.view d)))) c.self.view_is
    (c.add.ensures.moments bodies body has is short)

pub returns-in-Err-Failed-clause-ends : goal.returns-in-Err-Failed-clause-ends
returns-in-Err-Failed-clause-ends g c = λ body is short.
    let side = c.args.side in
    let old = g.D.Disk.view c.self.inside.disk in
    let new = g.D.Disk.view c.add.new.disk in
    let held = c.self.invariant in
    let bodies = (held.on side).bodies in
    let has = subst (λ n. HasRecords (bytes_of side old.reads) n bodies) (sym c.on-end.ensures) (held.on side).has in
    let lost = subst (λ f. Adds {T = Unit {0}} side c.on-end.result bodies body old new (Err f)) c.in-Err-Failed.field-0-is (c.in-Err-Failed.ensures.adds bodies body has is short) in
    let at : IsLostIn 0 lost.0 side (end_on side c.self.inside.ends - 1) (records old.reads) (with_record side body old) old new =
    subst (λ n. IsLostIn 0 lost.0 side (n - 1) (records old.reads) (with_record side body old) old new) c.on-end.ensures lost.1 in
    subst (λ d. IsLostAppend side body (g.D.Disk.view d) new) c.self.view_is
    (append_lost side body old new c.self.inside.ends held bodies lost.0 (held.on side).has at)

pub returns-in-Err-Failed-clause-moments : goal.returns-in-Err-Failed-clause-moments
returns-in-Err-Failed-clause-moments g c = λ body is short.
    let side = c.args.side in
    let old = g.D.Disk.view c.self.inside.disk in
    let new = g.D.Disk.view c.add.new.disk in
    let held = c.self.invariant in
    let bodies = (held.on side).bodies in
    let has = subst (λ n. HasRecords (bytes_of side old.reads) n bodies) (sym c.on-end.ensures) (held.on side).has in
    subst (λ d. LeavesOnly (g.D.Disk.view d) new (IsEither (records (g.D.Disk.view d).reads) (with_record side body (g.D.Disk.view d)))) c.self.view_is
    (c.add.ensures.moments bodies body has is short)

pub invariant_of-result-in-Err-NoMemory : goal.invariant_of-result-in-Err-NoMemory
invariant_of-result-in-Err-NoMemory g c =
    let body = c.requires.framed.body in
    let is = c.requires.framed.is in
    let short = c.requires.framed.short in
    let side = c.args.side in
    let old = g.D.Disk.view c.self.inside.disk in
    let new = g.D.Disk.view c.add.new.disk in
    let held = c.self.invariant in
    let bodies = (held.on side).bodies in
    let has = subst (λ n. HasRecords (bytes_of side old.reads) n bodies) (sym c.on-end.ensures) (held.on side).has in
    let none = subst (λ n. IsNotAdded side n bodies old new) c.on-end.ensures
    (subst (λ f. Adds {T = Unit {0}} side c.on-end.result bodies body old new (Err f)) c.in-Err-NoMemory.field-0-is (c.in-Err-NoMemory.ensures.adds bodies body has is short)) in
    refused_held side body old new c.self.inside.ends held bodies none

pub returns-in-Err-NoMemory-clause-ends : goal.returns-in-Err-NoMemory-clause-ends
returns-in-Err-NoMemory-clause-ends g c = λ body is short.
    let side = c.args.side in
    let old = g.D.Disk.view c.self.inside.disk in
    let new = g.D.Disk.view c.add.new.disk in
    let held = c.self.invariant in
    let bodies = (held.on side).bodies in
    let has = subst (λ n. HasRecords (bytes_of side old.reads) n bodies) (sym c.on-end.ensures) (held.on side).has in
    let none = subst (λ n. IsNotAdded side n bodies old new) c.on-end.ensures
    (subst (λ f. Adds {T = Unit {0}} side c.on-end.result bodies body old new (Err f)) c.in-Err-NoMemory.field-0-is (c.in-Err-NoMemory.ensures.adds bodies body has is short)) in
    subst (λ d. IsRefused (λ r. r ≡ records (g.D.Disk.view d).reads) 2 (g.D.Disk.view d) new) c.self.view_is
    (append_refused side body old new c.self.inside.ends held bodies none)

pub returns-in-Err-NoMemory-clause-moments : goal.returns-in-Err-NoMemory-clause-moments
returns-in-Err-NoMemory-clause-moments g c = λ body is short.
    let side = c.args.side in
    let old = g.D.Disk.view c.self.inside.disk in
    let new = g.D.Disk.view c.add.new.disk in
    let held = c.self.invariant in
    let bodies = (held.on side).bodies in
    let has = subst (λ n. HasRecords (bytes_of side old.reads) n bodies) (sym c.on-end.ensures) (held.on side).has in
    subst (λ d. LeavesOnly (g.D.Disk.view d) new (IsEither (records (g.D.Disk.view d).reads) (with_record side body (g.D.Disk.view d)))) c.self.view_is
    (c.add.ensures.moments bodies body has is short)
