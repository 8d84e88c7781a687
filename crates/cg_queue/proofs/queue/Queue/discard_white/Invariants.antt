use Rattle.std.proofs.Common.{◌≡◌, ◌≤◌, ◌-◌}
use Rattle.cg_queue.specs.Queue.{discarded, green_count}
use Rattle.cg_queue.proofs.queue.Queue.discard_white.Given as goal

-- discarding what is left comes to the same
abbrev pub invariant-loop-self : goal.invariant-loop-self
invariant-loop-self l = (discarded l.self l.n ≡ discarded l.fn.self l.n) × (l.self.white ≤ l.n) × (l.n ≤ green_count l.self)

abbrev pub decreases-loop-self : goal.decreases-loop-self
decreases-loop-self l = l.n - l.self.white
