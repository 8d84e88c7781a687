use Rattle.std.proofs.Common.{◌≡◌, take}
use Rattle.cg_queue.specs.Queue.{names_of}
use Rattle.cg_client.proofs.chosen.names_of.Given as goal

abbrev pub invariant-loop-a : goal.invariant-loop-a
invariant-loop-a l = l.ids ≡ names_of (take l.a-index l.actions)
