use Rattle.std.proofs.Common.{◌<◌, ◌^◌, length, ap, arith}
use Rattle.cg_queue.specs.Lanes.{rows_of}
use Rattle.cg_queue.proofs.Soundness.{reds-all}
use Rattle.cg_queue.proofs.Places.{count-more, count-end}
use Rattle.cg_queue.proofs.queue.count_in.Goals as goal

pub loop-slot-init : goal.loop-slot-init
loop-slot-init c = (omega (arith, ap (λ xs. length xs) (reds-all (rows_of c.args.reds.now))), omega arith)

pub returns-then-more-count : goal.returns-then-more-count
returns-then-more-count c =
    let lanes = rows_of c.args.reds.now in
    let slot = c.loop-slot.slot in
    let small : c.loop-slot.count < 2 ^ 32 = c.loop-slot.invariant.1 in
    omega (arith, count-more lanes slot (omega arith), c.loop-slot.invariant.0, small, c.len-more.ensures)

pub loop-slot-preserved : goal.loop-slot-preserved
loop-slot-preserved c =
    let lanes = rows_of c.args.reds.now in
    let slot = c.loop-slot.slot in
    let small : c.loop-slot.count < 2 ^ 32 = c.loop-slot.invariant.1 in
    (omega (arith, count-more lanes slot (omega arith), c.loop-slot.invariant.0, c.len-more.ensures), omega (arith, small))

pub returns : goal.returns
returns c =
    let lanes = rows_of c.args.reds.now in
    omega (arith, count-end lanes c.loop-slot.slot (omega arith), c.loop-slot.invariant.0)
