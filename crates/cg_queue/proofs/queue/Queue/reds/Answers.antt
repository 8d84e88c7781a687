use Rattle.std.proofs.Common.{◌≡◌, ◌∙◌, ◌++◌, ◌+◌, ◌-◌, suc, ap, sym, arith, append_assoc}
use Rattle.cg_queue.specs.Lanes.{rows_of}
use Rattle.cg_queue.specs.Body.{actions_in, reds_from}
use Rattle.cg_queue.proofs.RowLemmas.{append-nothing}
use Rattle.cg_queue.proofs.Soundness.{reds-step, reds-end, reds-all}
use Rattle.cg_queue.proofs.queue.Queue.reds.Goals as goal

pub loop-slot-init : goal.loop-slot-init
loop-slot-init c =
    let lanes = rows_of c.self.inside.body.reds in
    ap (λ xs. xs ++ reds_from lanes 32 0) c.new-list.ensures ∙ reds-all lanes

pub loop-slot-preserved : goal.loop-slot-preserved
loop-slot-preserved c =
    let lanes = rows_of c.self.inside.body.reds in
    let slot = c.loop-slot.slot in
    let next : slot + 1 ≡ suc slot = omega arith in
    ap (λ xs. xs ++ reds_from lanes (32 - (slot + 1)) (slot + 1)) c.in_ok-copy_reds_from.ensures
    ∙ append_assoc c.loop-slot.list (actions_in (lanes slot)) (reds_from lanes (32 - (slot + 1)) (slot + 1))
    ∙ ap (λ n. c.loop-slot.list ++ (actions_in (lanes slot) ++ reds_from lanes (32 - n) n)) next
    ∙ ap (λ xs. c.loop-slot.list ++ xs) (sym (reds-step lanes slot (omega arith)))
    ∙ c.loop-slot.invariant

pub returns : goal.returns
returns c =
    let lanes = rows_of c.self.inside.body.reds in
    let slot = c.loop-slot.slot in
    sym (append-nothing c.loop-slot.list)
    ∙ ap (λ xs. c.loop-slot.list ++ xs) (sym (reds-end lanes slot (omega arith)))
    ∙ c.loop-slot.invariant
    ∙ ap (λ q. q.reds) c.self.view_is
