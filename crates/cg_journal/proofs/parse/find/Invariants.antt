use Rattle.std.proofs.Common.{◌-◌, length}
use Rattle.cg_journal.specs.Bodies.{bodies_at, AreWithin}
use Rattle.cg_journal.proofs.Parsing.{IsReadTo}
use Rattle.cg_journal.proofs.parse.find.Given as goal

abbrev pub invariant-loop-gate : goal.invariant-loop-gate
invariant-loop-gate l = IsReadTo l.side l.gate (bodies_at l.side l.spans.items) × AreWithin l.side l.spans.items

abbrev pub decreases-loop-gate : goal.decreases-loop-gate
decreases-loop-gate l = length l.side - l.gate
