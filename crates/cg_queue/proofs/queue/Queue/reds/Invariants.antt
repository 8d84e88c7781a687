use Rattle.std.proofs.Common.{◌≡◌, ◌++◌, ◌-◌}
use Rattle.cg_queue.specs.Lanes.{rows_of}
use Rattle.cg_queue.specs.Body.{reds_from, all_reds}
use Rattle.cg_queue.proofs.queue.Queue.reds.Given as goal

abbrev pub invariant-loop-slot : goal.invariant-loop-slot
invariant-loop-slot l = l.list ++ reds_from (rows_of l.self-inside.body.reds) (32 - l.slot) l.slot ≡ all_reds (rows_of l.self-inside.body.reds)
