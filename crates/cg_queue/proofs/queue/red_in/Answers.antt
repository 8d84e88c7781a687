use Rattle.std.proofs.Common.{◌+◌, ◌-◌, ap, sym, ◌∙◌, arith}
use Rattle.std.specs.Prelude.{slice_get}
use Rattle.cg_queue.specs.Lanes.{rows_of}
use Rattle.cg_queue.specs.Body.{reds_from}
use Rattle.cg_queue.proofs.Soundness.{reds-all}
use Rattle.cg_queue.proofs.Places.{slot-here, slot-later, slot-nowhere}
use Rattle.cg_queue.proofs.queue.red_in.Goals as goal

pub loop-slot-init : goal.loop-slot-init
loop-slot-init c = ap (λ xs. slice_get xs c.args.i) (reds-all (rows_of c.args.reds.now))

pub returns-then-left-count : goal.returns-then-left-count
returns-then-left-count c =
    let lanes = rows_of c.args.reds.now in
    let slot = c.loop-slot.slot in
    c.action_at.ensures ∙ sym (slot-here lanes slot c.loop-slot.left (omega arith) (omega (arith, c.len-count.ensures))) ∙ c.loop-slot.invariant

pub loop-slot-preserved : goal.loop-slot-preserved
loop-slot-preserved c =
    let lanes = rows_of c.args.reds.now in
    let slot = c.loop-slot.slot in
    let left = c.loop-slot.left in
    ap (λ n. slice_get (reds_from lanes (32 - (slot + 1)) (slot + 1)) (left - n)) c.len-count.ensures
    ∙ slot-later lanes slot left (omega arith) (omega (arith, c.len-count.ensures))
    ∙ c.loop-slot.invariant

pub returns : goal.returns
returns c =
    let lanes = rows_of c.args.reds.now in
    sym (slot-nowhere lanes c.loop-slot.slot c.loop-slot.left (omega arith)) ∙ c.loop-slot.invariant
