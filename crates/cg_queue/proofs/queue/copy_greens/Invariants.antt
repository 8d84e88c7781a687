use Rattle.std.proofs.Common.{◌≡◌, ◌++◌, drop}
use Rattle.cg_queue.proofs.queue.copy_greens.Given as goal

abbrev pub invariant-loop-i : goal.invariant-loop-i
invariant-loop-i l = l.list ++ drop l.i l.greens.items ≡ drop l.first l.greens.items
