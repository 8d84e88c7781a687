use Rattle.std.proofs.Common.{◌≡◌, ◌++◌, drop, length}
use Rattle.cg_compare.specs.Seen.{covered_above}
use Rattle.cg_compare.proofs.seen.covered.Given as goal

abbrev pub invariant-loop-s : goal.invariant-loop-s
invariant-loop-s l = l.list ++ covered_above (length l.list) (drop l.s-index l.names) ≡ covered_above 0 l.names
