use Rattle.std.proofs.Common.{◌≡◌, ℕ, List, ◌≤◌, length, drop}
use Rattle.cg_relaxed.specs.RelaxedState.{write_at, merged}
use Rattle.cg_relaxed.proofs.registers.merge.Given as goal

-- the registers from a place on are merged
abbrev pub invariant-loop-left : goal.invariant-loop-left
invariant-loop-left l = record {
  written : (q : List ℕ) → write_at l.to.entries q
      ≡ merged (write_at (drop l.left l.from.entries) q) (write_at l.other.entries q) (write_at l.fn.to.entries q);
  within : l.left ≤ length l.from.entries;
}

abbrev pub decreases-loop-left : goal.decreases-loop-left
decreases-loop-left l = l.left
