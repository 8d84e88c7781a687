use Rattle.std.proofs.Common.{◌≡◌, ℕ, ◌≤◌, ◌<◌, drop}
use Rattle.cg_disk.specs.State.{is_unsynced}
use Rattle.cg_disk.specs.Undo.{ranges}
use Rattle.cg_disk.proofs.written.highest_end.Given as goal

abbrev pub invariant-loop-w : goal.invariant-loop-w
invariant-loop-w l = (k : ℕ) → l.highest ≤ k → k < l.limit → is_unsynced (ranges l.writes) k ≡ is_unsynced (ranges (drop l.w-index l.writes)) k
