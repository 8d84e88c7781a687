use Rattle.std.proofs.Common.{◌≡◌, ◌∙◌, ◌-◌, suc, ap, arith}
use Rattle.cg_base.specs.Cuts.{index_in}
use Rattle.cg_queue.specs.Lanes.{rows_of, with_lane, marked_at}
use Rattle.cg_queue.specs.Body.{lane_of}
use Rattle.cg_queue.specs.MarkLaws.{is_above-true}
use Rattle.cg_queue.proofs.body.flag_one.Goals as goal

pub returns-then-green-id : goal.returns-then-green-id
returns-then-green-id c =
    let lanes = rows_of c.args.reds.now in
    let id = c.args.id.now in
    let cut = c.args.cut.now in
    let flag = c.args.is_yellow in
    let green : c.get-green.result ≡ index_in cut id.creator = c.get-green.ensures in
    let slot : c.lane_of-slot.result ≡ lane_of id = c.lane_of-slot.ensures.value in
    let i : id.index - c.get-green.result - 1 ≡ id.index - suc (index_in cut id.creator) = omega arith in
    rw (is_above-true cut id (omega arith))
    (c.mark.ensures
    ∙ ap (λ k. with_lane lanes k (marked_at (lanes k) (id.index - c.get-green.result - 1) flag)) slot
    ∙ ap (λ j. with_lane lanes (lane_of id) (marked_at (lanes (lane_of id)) j flag)) i)
