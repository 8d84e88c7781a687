use Rattle.std.proofs.Common.{reverse}
use Rattle.cg_disk.specs.Undo.{side_after}
use Rattle.cg_disk.proofs.Filling.{FilledBelow}
use Rattle.cg_disk.proofs.crash.bytes_left.Given as goal

abbrev pub invariant-loop-offset : goal.invariant-loop-offset
invariant-loop-offset l = FilledBelow (side_after l.fn.bytes.items (reverse l.writes)) l.fill l.offset l.used l.left.items
