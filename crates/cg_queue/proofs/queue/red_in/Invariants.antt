use Rattle.std.proofs.Common.{◌≡◌, ◌-◌}
use Rattle.std.specs.Prelude.{slice_get}
use Rattle.cg_queue.specs.Lanes.{rows_of}
use Rattle.cg_queue.specs.Body.{reds_from, all_reds}
use Rattle.cg_queue.proofs.queue.red_in.Given as goal

abbrev pub invariant-loop-slot : goal.invariant-loop-slot
invariant-loop-slot l = slice_get (reds_from (rows_of l.reds) (32 - l.slot) l.slot) l.left ≡ slice_get (all_reds (rows_of l.reds)) l.i
