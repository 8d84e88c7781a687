use Rattle.std.proofs.Common.{◌≡◌, ℕ, List, ◌+◌, ◌*◌, ◌^◌, ◌≤◌, length, cond, eqb}
use Rattle.std.specs.Prelude.{All}
use Rattle.std.specs.Vec.Iter.{into_iter_items}
use Rattle.indexmap.specs.IndexMap.{spare}
use Rattle.cg_action.specs.ActionLimits.{IsCommand}
use Rattle.cg_relaxed.specs.Writes.{sum_after, written_from, later}
use Rattle.cg_relaxed.specs.RelaxedState.{sum_at, write_at, IsWithin}
use Rattle.cg_relaxed.proofs.run.run_each.Given as goal

-- what is left makes of the sums and registers what all make of those at first; there is room for it, and no sum is large
abbrev pub invariant-loop-cmd : goal.invariant-loop-cmd
invariant-loop-cmd l = record {
  sums : (key : List ℕ) (p : ℕ) →
      cond (eqb p l.fn.first.creator) (sum_after (sum_at l.sums.entries key p) key (into_iter_items l.cmd-iterator)) (sum_at l.sums.entries key p)
      ≡ cond (eqb p l.fn.first.creator) (sum_after (sum_at l.fn.sums.entries key p) key l.fn.cmds.items) (sum_at l.fn.sums.entries key p);
  registers : (key : List ℕ) →
      later (write_at l.registers.entries key) (written_from key l.stamp (into_iter_items l.cmd-iterator))
      ≡ later (write_at l.fn.registers.entries key) (written_from key l.fn.first l.fn.cmds.items);
  creator : l.stamp.creator ≡ l.fn.first.creator;
  place : l.stamp.place + length (into_iter_items l.cmd-iterator) ≤ 17;
  each : All IsCommand (into_iter_items l.cmd-iterator);
  within : (key : List ℕ) → IsWithin (2 ^ 107 + l.stamp.place * 2 ^ 63) (sum_at l.sums.entries key l.fn.first.creator);
  sums_room : length (into_iter_items l.cmd-iterator) ≤ spare l.sums;
  registers_room : length (into_iter_items l.cmd-iterator) ≤ spare l.registers;
}
