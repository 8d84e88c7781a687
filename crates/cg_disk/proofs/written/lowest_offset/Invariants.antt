use Rattle.std.proofs.Common.{ℕ, ◌≤◌, ◌<◌, get_or}
use Rattle.cg_disk.specs.declared.written.Written.{Written}
use Rattle.cg_disk.proofs.written.lowest_offset.Given as goal

abbrev pub invariant-loop-w : goal.invariant-loop-w
invariant-loop-w l = (l.lowest ≤ l.limit) × ((k : ℕ) (d : Written) → k < l.w-index → l.lowest ≤ (get_or l.writes k d).offset)
