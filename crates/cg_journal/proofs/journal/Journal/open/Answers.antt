use Rattle.std.proofs.Common.{◌≡◌, ◌<◌, ◌^◌, length, sym, ◌∙◌, ap, arith}
use Rattle.cg_disk.specs.Sides.{Image}
use Rattle.cg_journal.proofs.Opening.{journal_of, ended}
use Rattle.cg_journal.proofs.journal.Journal.open.Goals as goal

pub invariant_of-result : goal.invariant_of-result
invariant_of-result g c =
    let new = g.D.Disk.view c.load.new.disk in
    let same = c.in-Ok.ensures.reads.only.reads in
    let sides = c.in-Ok.sides in
    let a = sides.0.items in
    let b = sides.1.items in
    let is_a : a ≡ new.reads.a = c.in-Ok.ensures.bytes.0 ∙ sym (ap (λ (i : Image). i.a) same) in
    let is_b : b ≡ new.reads.b = c.in-Ok.ensures.bytes.1 ∙ sym (ap (λ (i : Image). i.b) same) in
    let short_a : length a < 2 ^ 63 = omega (arith, sides.0.ok.0, sides.0.ok.1, sides.0.small) in
    let short_b : length b < 2 ^ 63 = omega (arith, sides.1.ok.0, sides.1.ok.1, sides.1.small) in
    journal_of new (record { a = c.in-Ok-Some.a.end; b = c.in-Ok-Some.b.end })
    (ended new.reads.a a c.in-Ok-Some.a.end c.in-Ok-Some.a.bodies is_a (rw c.in-Ok-Some.field-0-is at c.in-Ok-Some.ensures.end_a) short_a)
    (ended new.reads.b b c.in-Ok-Some.b.end c.in-Ok-Some.b.bodies is_b (rw c.in-Ok-Some.field-0-is at c.in-Ok-Some.ensures.end_b) short_b)
    c.in-Ok.ensures.reads.rest
