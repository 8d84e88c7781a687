use Rattle.std.proofs.Common.{◌∙◌, ◌<◌, length, sym, ap, arith}
use Rattle.std.specs.VecDeque.{deque_items}
use Rattle.cg_queue.specs.Lanes.{lane_at}
use Rattle.cg_queue.proofs.RowLemmas.{lane_at-get, lanes-set, lanes-left, lanes-same}
use Rattle.cg_queue.proofs.lanes.Lanes.make_room.Goals as goal

pub returns-in_err-reserve-clause-same : goal.returns-in_err-reserve-clause-same
returns-in_err-reserve-clause-same g c =
    let rows = c.grow.new.rows in
    let slot = c.args.slot in
    let long = rows.ok.0 in
    let within : slot < length rows.items = omega (arith, c.in_ok-grow.ensures.ok) in
    let there = ap deque_items c.index_mut.ensures.value ∙ sym (lane_at-get deque_items rows.items slot c.index_mut.result.now within) in
    lanes-set deque_items rows.items slot c.reserve.new.self _ within (c.reserve.ensures.items ∙ there)
    ∙ sym (lanes-left deque_items rows.items slot _ (λ i. lane_at deque_items rows.items slot))
    ∙ lanes-same deque_items rows.items c.args.self.now.rows.items c.grow.ensures.same

pub returns-clause-same : goal.returns-clause-same
returns-clause-same g c =
    let rows = c.grow.new.rows in
    let slot = c.args.slot in
    let long = rows.ok.0 in
    let within : slot < length rows.items = omega (arith, c.in_ok-grow.ensures.ok) in
    let there = ap deque_items c.index_mut.ensures.value ∙ sym (lane_at-get deque_items rows.items slot c.index_mut.result.now within) in
    lanes-set deque_items rows.items slot c.reserve.new.self _ within (c.reserve.ensures.items ∙ there)
    ∙ sym (lanes-left deque_items rows.items slot _ (λ i. lane_at deque_items rows.items slot))
    ∙ lanes-same deque_items rows.items c.args.self.now.rows.items c.grow.ensures.same
