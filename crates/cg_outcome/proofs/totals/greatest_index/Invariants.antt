use Rattle.std.proofs.Common.{◌≡◌, take}
use Rattle.cg_outcome.specs.Totals.{greatest_index}
use Rattle.cg_outcome.proofs.totals.greatest_index.Given as goal

abbrev pub invariant-loop-line : goal.invariant-loop-line
invariant-loop-line l = l.greatest ≡ greatest_index l.before (take l.line-index l.lines)
