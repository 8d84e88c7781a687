use Rattle.std.proofs.Common.{◌≤◌, length, arith}
use Rattle.std.specs.VecDeque.{deque_items}
use Rattle.cg_queue.proofs.RowLemmas.{lane_at-behind}
use Rattle.cg_queue.proofs.lanes.Lanes.used.Goals as goal

pub returns-then-count-lt32-clause-rest : goal.returns-then-count-lt32-clause-rest
returns-then-count-lt32-clause-rest g c = λ slot le lt.
    let behind : length c.args.self.now.rows.items ≤ slot = omega (arith, le) in
    lane_at-behind deque_items c.args.self.now.rows.items slot behind
