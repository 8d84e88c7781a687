use Rattle.std.proofs.Common.{◌∙◌}
use Rattle.std.specs.VecDeque.{deque_items}
use Rattle.cg_queue.proofs.RowLemmas.{lane_at-append}
use Rattle.cg_queue.proofs.lanes.grow.Goals as goal

pub loop-alloc-preserved : goal.loop-alloc-preserved
loop-alloc-preserved g c = λ k. rw c.in_ok-push.ensures.items (lane_at-append deque_items c.loop-alloc.rows.items c.new.result k c.new.ensures.items ∙ c.loop-alloc.invariant k)
