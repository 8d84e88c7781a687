use Rattle.std.proofs.Common.{◌≡◌, ◌++◌, ◌<◌, ◌+◌, ◌-◌, None, length, replicate}
use Rattle.cg_compare.proofs.seen.put_at.Given as goal

abbrev pub invariant-loop-list : goal.invariant-loop-list
invariant-loop-list l = record {
  below : length l.list < l.place;
  holes : l.list ++ replicate (l.place - (length l.list + 1)) None ≡ l.fn.list ++ replicate (l.place - (length l.fn.list + 1)) None;
}

abbrev pub decreases-loop-list : goal.decreases-loop-list
decreases-loop-list l = l.place - length l.list
