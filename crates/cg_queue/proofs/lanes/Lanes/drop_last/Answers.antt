use Rattle.std.proofs.Common.{◌∙◌, ◌<◌, ◌≤◌, length, sym, ap, arith}
use Rattle.std.specs.VecDeque.{deque_items}
use Rattle.cg_queue.specs.Lanes.{front_of}
use Rattle.cg_queue.proofs.RowLemmas.{lane_at-get, lane_at-behind, lanes-set, lanes-left, front_of-take}
use Rattle.cg_queue.proofs.lanes.Lanes.drop_last.Goals as goal

pub returns-then-slot-len : goal.returns-then-slot-len
returns-then-slot-len g c =
    let rows = c.args.self.now.rows in
    let slot = c.args.slot in
    let long = rows.ok.0 in
    let within : slot < length rows.items = omega arith in
    let row = c.index_mut.result.now in
    lanes-set deque_items rows.items slot c.pop_back.new.self _ within
    (c.pop_back.ensures.rest ∙ front_of-take row.items row.len row.ok.0 ∙ ap (λ q. front_of q.items) c.index_mut.ensures.value ∙ ap front_of (sym (lane_at-get deque_items rows.items slot row within)))

pub returns-else-slot-len : goal.returns-else-slot-len
returns-else-slot-len g c =
    let rows = c.args.self.now.rows in
    let slot = c.args.slot in
    let long = rows.ok.0 in
    let behind : length rows.items ≤ slot = omega arith in
    let none = lane_at-behind deque_items rows.items slot behind in
    lanes-left deque_items rows.items slot _ (ap front_of none ∙ sym none)
