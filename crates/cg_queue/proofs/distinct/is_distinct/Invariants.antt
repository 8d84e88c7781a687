use Rattle.std.proofs.Common.{◌≡◌, true, take}
use Rattle.cg_queue.specs.Distinct.{is_distinct}
use Rattle.cg_queue.proofs.NoneTwice.{AreBehind}
use Rattle.cg_queue.proofs.distinct.is_distinct.Given as goal

abbrev pub invariant-loop-i : goal.invariant-loop-i
invariant-loop-i l = record {
  behind : AreBehind l.last (take l.i l.ids);
  distinct : is_distinct (take l.i l.ids) ≡ true;
}
