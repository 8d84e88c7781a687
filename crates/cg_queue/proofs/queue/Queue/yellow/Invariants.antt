use Rattle.std.proofs.Common.{◌≡◌, filter, take}
use Rattle.cg_queue.specs.Body.{is_above}
use Rattle.cg_queue.proofs.queue.Queue.yellow.Given as goal

abbrev pub invariant-loop-id : goal.invariant-loop-id
invariant-loop-id l = l.list ≡ filter (is_above l.self-inside.body.green_cut) (take l.id-index l.self-inside.body.yellow.items)
