use Rattle.std.proofs.Common.{◌≡◌, drop}
use Rattle.cg_disk.specs.State.{is_unsynced}
use Rattle.cg_disk.specs.Undo.{ranges}
use Rattle.cg_disk.proofs.written.is_among.Given as goal

abbrev pub invariant-loop-w : goal.invariant-loop-w
invariant-loop-w l = is_unsynced (ranges (drop l.w-index l.writes)) l.offset ≡ is_unsynced (ranges l.writes) l.offset
