use Rattle.std.proofs.Common.{◌≡◌, ℕ, ◌+◌, ◌-◌, vec_len}
use Rattle.std.specs.VecDeque.{deque_items}
use Rattle.cg_queue.specs.Lanes.{lane_at}
use Rattle.cg_queue.proofs.lanes.grow.Given as goal

abbrev pub invariant-loop-alloc : goal.invariant-loop-alloc
invariant-loop-alloc g l = (k : ℕ) → lane_at deque_items l.rows.items k ≡ lane_at deque_items l.fn.rows.items k

abbrev pub decreases-loop-alloc : goal.decreases-loop-alloc
decreases-loop-alloc g l = l.slot + 1 - vec_len l.rows
