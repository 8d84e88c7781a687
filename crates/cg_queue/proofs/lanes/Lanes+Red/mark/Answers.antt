use Rattle.std.proofs.Common.{◌∙◌, ◌<◌, ◌≤◌, length, sym, ap, arith}
use Rattle.std.specs.VecDeque.{deque_items}
use Rattle.cg_queue.specs.Lanes.{marked_at}
use Rattle.cg_queue.proofs.RowLemmas.{lane_at-get, lane_at-behind, lanes-set, lanes-left, marked-set, marked-behind}
use Rattle.cg_queue.proofs.lanes.Lanes+Red.mark.Goals as goal
use Rattle.cg_queue.proofs.lanes.Lanes+Red.mark.Goals.{else-slot-len-via-then-slot-len+else-i-len, else-slot-len-via-else-slot-len}

pub returns-then-i-len : goal.returns-then-i-len
returns-then-i-len c =
    let rows = c.args.self.now.rows in
    let slot = c.args.slot in
    let flag = c.args.is_yellow in
    let long = rows.ok.0 in
    let within : slot < length rows.items = omega arith in
    let row = c.index_mut.result.now in
    lanes-set deque_items rows.items slot _ _ within
    (marked-set row.items c.args.i c.index_mut-then-i-len.result.now flag c.index_mut-then-i-len.ensures.value
    ∙ ap (λ q. marked_at q.items c.args.i flag) c.index_mut.ensures.value ∙ ap (λ xs. marked_at xs c.args.i flag) (sym (lane_at-get deque_items rows.items slot row within)))

pub returns-else-slot-len : goal.returns-else-slot-len
returns-else-slot-len c =
    let rows = c.args.self.now.rows in
    let slot = c.args.slot in
    let flag = c.args.is_yellow in
    let long = rows.ok.0 in
    elim c.else-slot-len.branch [
      | else-slot-len-via-then-slot-len+else-i-len w ↦
          let within : slot < length rows.items = omega arith in
          let row = w.index.result.now in
          let own = row.ok.0 in
          let behind : length row.items ≤ c.args.i = omega arith in
          let there = ap deque_items w.index.ensures ∙ sym (lane_at-get deque_items rows.items slot row within) in
          lanes-left deque_items rows.items slot _ (ap (λ xs. marked_at xs c.args.i flag) (sym there) ∙ marked-behind row.items c.args.i flag behind ∙ there)
      | else-slot-len-via-else-slot-len w ↦
          let behind : length rows.items ≤ slot = omega arith in
          let none = lane_at-behind deque_items rows.items slot behind in
          lanes-left deque_items rows.items slot _ (ap (λ xs. marked_at xs c.args.i flag) none ∙ sym none)
    ]
