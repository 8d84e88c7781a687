use Rattle.std.proofs.Common.{◌≡◌, ◌≤◌, ◌++◌, take, length, reverse}
use Rattle.cg_disk.specs.Undo.{undone}
use Rattle.cg_disk.proofs.written.before_writes.Given as goal

abbrev pub invariant-loop-left : goal.invariant-loop-left
invariant-loop-left l = record {
  same : undone (take l.from l.bytes ++ l.old.items) (reverse (take l.left l.writes)) ≡ undone l.bytes (reverse l.writes);
  within : l.left ≤ length l.writes;
}

abbrev pub decreases-loop-left : goal.decreases-loop-left
decreases-loop-left l = l.left
