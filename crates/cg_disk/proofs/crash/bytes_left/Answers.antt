use Rattle.std.proofs.Common.{◌≡◌, ℕ, ◌+◌, ◌-◌, ◌<◌, ◌≤◌, ◌++◌, List, length, take, reverse, get_or, set, true, sym, ◌∙◌, ap, subst, arith}
use Rattle.std.proofs.lemmas.List.{get_or_read, length-take-le}
use Rattle.cg_disk.specs.State.{is_unsynced}
use Rattle.cg_disk.specs.Undo.{undone, side_after}
use Rattle.cg_disk.proofs.Offsets.{among_reverse}
use Rattle.cg_disk.proofs.Untouched.{untouched_below, untouched_behind}
use Rattle.cg_disk.proofs.Filling.{same_filled, fill_begins, fill_done, fill_keeps, fill_takes, fill_puts_back, fill_stops, old_at}
use Rattle.cg_disk.proofs.crash.bytes_left.Goals as goal
use Rattle.cg_disk.proofs.crash.bytes_left.Goals.{then-is_among+then-used-fill, then-is_among+else-used-fill+then-offset-from, else-is_among}

pub loop-offset-init : goal.loop-offset-init
loop-offset-init c =
    let bytes = c.args.bytes.items in
    let writes = c.args.writes.now in
    fill_begins (side_after bytes (reverse writes)) c.args.fill.now c.lowest_offset-from.result (untouched_below bytes writes c.lowest_offset-from.result c.lowest_offset-from.ensures.above)

pub returns : goal.returns
returns c =
    let bytes = c.args.bytes.items in
    let writes = c.args.writes.now in
    let to = c.highest_end-to.result in
    fill_done (side_after bytes (reverse writes)) c.args.fill.now c.loop-offset.offset c.loop-offset.used c.loop-offset.left.items c.loop-offset.invariant
    (untouched_behind bytes writes to (length bytes) c.loop-offset.offset (λ k above below. c.highest_end-to.ensures.none k above (omega (arith, c.len-2.ensures, c.args.bytes.ok.0))) (omega (arith, c.loop-offset-test.false)))

pub returns-else-offset-from : goal.returns-else-offset-from
returns-else-offset-from c =
    let bytes = c.args.bytes.items in
    let writes = c.args.writes.now in
    let offset = c.loop-offset.offset in
    let from = c.lowest_offset-from.result in
    let inside : offset < length bytes = omega (arith, c.args.bytes.ok.0, c.len-2.ensures, c.highest_end-to.ensures.within, c.loop-offset-test.true) in
    let above : from ≤ length bytes = omega (arith, c.args.bytes.ok.0, c.len.ensures, c.lowest_offset-from.ensures.within) in
    let written : is_unsynced (side_after bytes (reverse writes)).unsynced offset ≡ true = among_reverse writes offset ∙ sym c.is_among.ensures ∙ c.if-is_among.true in
    let whole : take from bytes ++ c.in_ok-old.old.items ≡ undone bytes (reverse writes) = subst (λ (l : List ℕ). take from l ++ c.in_ok-old.old.items ≡ undone l (reverse writes)) c.deref.ensures.value c.in_ok-old.ensures in
    let old = old_at (take from bytes) c.in_ok-old.old.items (undone bytes (reverse writes)) from offset whole (length-take-le from bytes above) (omega arith) in
    c.truncate.ensures.items ∙ fill_stops (side_after bytes (reverse writes)) c.args.fill.now offset c.loop-offset.used c.loop-offset.left.items c.loop-offset.invariant inside written (omega (arith, c.if-used-fill.false))
    (omega (arith, old.0, c.in_ok-old.old.ok.0, c.len-else-used-fill.ensures, c.if-offset-from.false))

pub loop-offset-preserved : goal.loop-offset-preserved
loop-offset-preserved c =
    let bytes = c.args.bytes.items in
    let writes = c.args.writes.now in
    let fill = c.args.fill.now in
    let s = side_after bytes (reverse writes) in
    let offset = c.loop-offset.offset in
    let used = c.loop-offset.used in
    let left = c.loop-offset.left.items in
    let from = c.lowest_offset-from.result in
    let inside : offset < length bytes = omega (arith, c.args.bytes.ok.0, c.len-2.ensures, c.highest_end-to.ensures.within, c.loop-offset-test.true) in
    let among : is_unsynced s.unsynced offset ≡ c.is_among.result = among_reverse writes offset ∙ sym c.is_among.ensures in
    elim c.if-is_among.branch [
      | then-is_among+then-used-fill w ↦
          same_filled s fill (offset + 1) (used + 1) c.if-is_among.used _ c.if-is_among.left.items w.used-is (λ i. (w.left-is i).items)
          (fill_takes s fill offset used left c.loop-offset.invariant inside (among ∙ w.if-is_among.true) (omega (arith, w.if-used-fill.true)))
      | then-is_among+else-used-fill+then-offset-from w ↦
          let above : from ≤ length bytes = omega (arith, c.args.bytes.ok.0, c.len.ensures, c.lowest_offset-from.ensures.within) in
          let whole : take from bytes ++ c.in_ok-old.old.items ≡ undone bytes (reverse writes) = subst (λ (l : List ℕ). take from l ++ c.in_ok-old.old.items ≡ undone l (reverse writes)) c.deref.ensures.value c.in_ok-old.ensures in
          let old = old_at (take from bytes) c.in_ok-old.old.items (undone bytes (reverse writes)) from offset whole (length-take-le from bytes above) (omega arith) in
          let there : offset - from < length c.in_ok-old.old.items = omega (arith, c.in_ok-old.old.ok.0, w.if-offset-from.true, w.len-else-used-fill.ensures) in
          let byte : w.index.result.now ≡ get_or (undone bytes (reverse writes)) offset 0 = get_or_read c.in_ok-old.old.items (offset - from) w.index.result.now there w.index.ensures 0 ∙ sym old.1 in
          same_filled s fill (offset + 1) used c.if-is_among.used _ c.if-is_among.left.items w.used-is ((λ i. (w.left-is i).items) ∙ ap (λ x. set left offset x) byte)
          (fill_puts_back s fill offset used left c.loop-offset.invariant inside (among ∙ w.if-is_among.true) (omega (arith, w.if-used-fill.false)) (omega (arith, old.0, there)))
      | else-is_among w ↦
          same_filled s fill (offset + 1) used c.if-is_among.used left c.if-is_among.left.items w.used-is (λ i. (w.left-is i).items)
          (fill_keeps s fill offset used left c.loop-offset.invariant inside (among ∙ w.if-is_among.false))
    ]
