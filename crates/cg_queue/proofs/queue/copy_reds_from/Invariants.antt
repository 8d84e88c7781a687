use Rattle.std.proofs.Common.{◌≡◌, ◌++◌, drop}
use Rattle.cg_queue.specs.Lanes.{rows_of}
use Rattle.cg_queue.specs.Body.{actions_in}
use Rattle.cg_queue.proofs.queue.copy_reds_from.Given as goal

abbrev pub invariant-loop-i : goal.invariant-loop-i
invariant-loop-i l = l.list ++ actions_in (drop l.i (rows_of l.reds l.slot)) ≡ l.fn.list ++ actions_in (drop l.first (rows_of l.reds l.slot))
