use Rattle.std.proofs.Common.{◌≡◌, fold, take}
use Rattle.cg_queue.specs.Lanes.{rows_of}
use Rattle.cg_queue.specs.Body.{flag_name}
use Rattle.cg_queue.proofs.body.flag_names.Given as goal

abbrev pub invariant-loop-id : goal.invariant-loop-id
invariant-loop-id l = rows_of l.reds ≡ fold (flag_name l.cut l.is_yellow) (rows_of l.fn.reds) (take l.id-index l.list)
