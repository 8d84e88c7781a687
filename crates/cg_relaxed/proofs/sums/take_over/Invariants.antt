use Rattle.std.proofs.Common.{◌≡◌, ◌≤◌, length, drop}
use Rattle.std.specs.Map.{lookup}
use Rattle.cg_relaxed.specs.declared.sum_key.SumKey.{SumKey}
use Rattle.cg_relaxed.specs.RelaxedState.{same_part, is_wanted, taken_over}
use Rattle.cg_relaxed.proofs.sums.take_over.Given as goal

-- the sums from a place on are taken over
abbrev pub invariant-loop-left : goal.invariant-loop-left
invariant-loop-left l = record {
  taken : (q : SumKey) → lookup (same_part q) l.to.entries
      ≡ taken_over (is_wanted l.less l.known l.other) (drop l.left l.from.entries) l.fn.to.entries q;
  within : l.left ≤ length l.from.entries;
}

abbrev pub decreases-loop-left : goal.decreases-loop-left
decreases-loop-left l = l.left
