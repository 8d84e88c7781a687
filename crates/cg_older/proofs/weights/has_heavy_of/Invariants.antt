use Rattle.std.proofs.Common.{◌≡◌, ℕ, ◌<◌, ◌≤◌, false}
use Rattle.cg_base.specs.Cuts.{index_in}
use Rattle.cg_older.specs.Weights.{is_heavy_name}
use Rattle.cg_older.proofs.weights.has_heavy_of.Given as goal

-- none of the creator's actions behind the green cut and not behind this one is such a join
abbrev pub invariant-loop-last : goal.invariant-loop-last
invariant-loop-last l = (i : ℕ) → index_in l.core.queue.green_cut l.creator < i → i ≤ l.last → is_heavy_name l.core.queue (record { creator = l.creator; index = i }) ≡ false
