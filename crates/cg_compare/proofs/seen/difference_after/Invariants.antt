use Rattle.std.proofs.Common.{◌≡◌, drop}
use Rattle.cg_compare.specs.Seen.{difference_after}
use Rattle.cg_compare.proofs.seen.difference_after.Given as goal

abbrev pub invariant-loop-s : goal.invariant-loop-s
invariant-loop-s l = difference_after l.first (drop l.s-index l.more) ≡ difference_after l.initial.first l.more
