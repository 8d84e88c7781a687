use Rattle.std.proofs.Common.{◌∙◌, ◌<◌, ◌≤◌, length, sym, ap, arith}
use Rattle.std.specs.VecDeque.{deque_items}
use Rattle.cg_queue.proofs.RowLemmas.{lane_at-get, lane_at-behind}
use Rattle.cg_queue.proofs.lanes.Lanes.len.Goals as goal

pub returns-then-slot-len : goal.returns-then-slot-len
returns-then-slot-len g c =
    let rows = c.args.self.now.rows in
    let long = rows.ok.0 in
    let within : c.args.slot < length rows.items = omega arith in
    c.len-then-slot-len.ensures ∙ c.index.result.now.ok.0 ∙ ap (λ q. length q.items) c.index.ensures ∙ ap length (sym (lane_at-get deque_items rows.items c.args.slot c.index.result.now within))

pub returns-else-slot-len : goal.returns-else-slot-len
returns-else-slot-len g c =
    let rows = c.args.self.now.rows in
    let long = rows.ok.0 in
    let behind : length rows.items ≤ c.args.slot = omega arith in
    ap length (sym (lane_at-behind deque_items rows.items c.args.slot behind))
