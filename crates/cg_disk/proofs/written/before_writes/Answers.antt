use Rattle.std.proofs.Common.{◌≡◌, ℕ, ◌+◌, ◌-◌, ◌≤◌, ◌<◌, List, ◌++◌, take, drop, length, reverse, ap, ◌∙◌, arith}
use Rattle.std.proofs.lemmas.List.{length-take-le}
use Rattle.cg_disk.specs.Undo.{undone}
use Rattle.cg_disk.specs.declared.written.Written.{Written}
use Rattle.cg_disk.proofs.Undoing.{undone_behind}
use Rattle.cg_disk.proofs.written.before_writes.Goals as goal

pub loop-left-preserved : goal.loop-left-preserved
loop-left-preserved c =
    let writes = c.args.writes.now in
    let front = take c.args.from c.args.bytes.now in
    let n = c.loop-left.left - 1 in
    let w = c.index-writes-left.result in
    let inside : n < length writes = omega (arith, c.loop-left.invariant.within, c.loop-left-test.true) in
    let one_more : n + 1 ≡ c.loop-left.left = omega (arith, c.loop-left-test.true) in
    let above : c.args.from ≤ w.offset = omega (arith, c.requires.above n w inside, ap (λ (x : Written). x.offset) c.index-writes-left.is) in
    record {
      same = undone_behind writes n w front c.loop-left.old.items c.substitute.new.bytes.items _ c.args.from inside c.index-writes-left.is
          (length-take-le c.args.from c.args.bytes.now c.requires.inside) above
          (c.in_ok-substitute.ensures ∙ ap (λ (l : List ℕ). take (w.offset - c.args.from) c.loop-left.old.items ++ l ++ drop (w.offset - c.args.from + w.count) c.loop-left.old.items) c.deref.ensures.value)
          (ap (λ k. undone (front ++ c.loop-left.old.items) (reverse (take k writes))) one_more ∙ c.loop-left.invariant.same);
      within = omega arith;
    }
