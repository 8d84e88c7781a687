use Rattle.std.proofs.Common.{◌≡◌, ◌≤◌, ◌+◌, drop}
use Rattle.cg_disk.specs.State.{unsynced_from}
use Rattle.cg_disk.specs.Model.{side_of}
use Rattle.cg_disk.proofs.model_side.ModelSide.unsynced_offsets.Given as goal

abbrev pub invariant-loop-offset : goal.invariant-loop-offset
invariant-loop-offset l = (l.count + unsynced_from (side_of l.self) l.offset (drop l.offset l.self.bytes.items) ≡ unsynced_from (side_of l.self) 0 l.self.bytes.items) × (l.count ≤ l.offset)
