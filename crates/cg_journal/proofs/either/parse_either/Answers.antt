use Rattle.std.proofs.Common.{◌≡◌, ◌≢◌, ◌≤◌, length, take, None, Some, slice_set, sym, ◌∙◌, ap, arith}
use Rattle.cg_journal.specs.Records.{HasRecords, bodies_of}
use Rattle.cg_journal.specs.Found.{version_of}
use Rattle.cg_journal.proofs.EitherSide.{of_version, too_short, no_format, read_some, read_none, head_of}
use Rattle.cg_journal.proofs.either.parse_either.Goals as goal

pub returns-then-len-lt9-clause-read : goal.returns-then-len-lt9-clause-read
returns-then-len-lt9-clause-read c = too_short c.args.side.items (omega (arith, c.if-len-lt9.true, c.len.ensures, c.args.side.ok))

pub returns-then-version-eq0-clause-read : goal.returns-then-version-eq0-clause-read
returns-then-version-eq0-clause-read c =
    let none : version_of (take 8 c.args.side.items) ≡ 0 = sym (c.version_of-version.ensures ∙ ap (λ l. version_of (take 8 l)) c.deref.ensures.value) ∙ c.if-version-eq0.true in
    no_format c.args.side.items (omega (arith, c.if-len-lt9.false, c.len.ensures, c.args.side.ok)) none
    ∙ (λ i. Some (of_version (sym c.if-version-eq0.true i) (sym c.empty.ensures i)))

pub returns-in-Some-clause-read : goal.returns-in-Some-clause-read
returns-in-Some-clause-read c =
    let side = c.args.side.items in
    let long : 9 ≤ length side = omega (arith, c.if-len-lt9.false, c.len.ensures, c.args.side.ok) in
    let is : c.version_of-version.result ≡ version_of (take 8 side) = c.version_of-version.ensures ∙ ap (λ l. version_of (take 8 l)) c.deref.ensures.value in
    let some : version_of (take 8 side) ≢ 0 = (λ none. absurd (omega (arith, c.if-version-eq0.false, is, none))) in
    let read : bodies_of (slice_set side 7 50) ≡ Some c.in-Some.parsed.bodies = (rw c.in-Some.is at c.in_ok-parsed.ensures.read) in
    read_some side c.in-Some.parsed.bodies long some read ∙ ap (λ v. Some (of_version v c.in-Some.parsed.bodies)) (sym is)

pub returns-in-Some-clause-head : goal.returns-in-Some-clause-head
returns-in-Some-clause-head c = λ short.
    let side = c.args.side.items in
    let long : 9 ≤ length side = omega (arith, c.if-len-lt9.false, c.len.ensures, c.args.side.ok) in
    let has : HasRecords (slice_set side 7 50) c.in-Some.parsed.end c.in-Some.parsed.bodies = (rw c.in-Some.is at c.in_ok-parsed.ensures.end) in
    head_of side c.index.result.now c.in-Some.parsed.end c.in-Some.parsed.bodies long c.index.ensures has short

pub returns-in-None-clause-read : goal.returns-in-None-clause-read
returns-in-None-clause-read c =
    let side = c.args.side.items in
    let long : 9 ≤ length side = omega (arith, c.if-len-lt9.false, c.len.ensures, c.args.side.ok) in
    let is : c.version_of-version.result ≡ version_of (take 8 side) = c.version_of-version.ensures ∙ ap (λ l. version_of (take 8 l)) c.deref.ensures.value in
    let some : version_of (take 8 side) ≢ 0 = (λ none. absurd (omega (arith, c.if-version-eq0.false, is, none))) in
    let read : bodies_of (slice_set side 7 50) ≡ None = (rw c.in-None.is at c.in_ok-parsed.ensures.read) in
    read_none side long some read
