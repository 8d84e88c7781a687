use Rattle.std.proofs.Common.{◌≡◌, ◌+◌, ◌-◌, ◌<◌, ◌^◌, length}
use Rattle.cg_queue.specs.Lanes.{rows_of}
use Rattle.cg_queue.specs.Body.{reds_from, all_reds}
use Rattle.cg_queue.proofs.queue.count_in.Given as goal

-- so many so far, and those that are left make the whole
abbrev pub invariant-loop-slot : goal.invariant-loop-slot
invariant-loop-slot l = (l.count + length (reds_from (rows_of l.reds) (32 - l.slot) l.slot) ≡ length (all_reds (rows_of l.reds))) × (l.count < 2 ^ 32)
