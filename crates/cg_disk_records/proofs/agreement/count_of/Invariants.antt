use Rattle.std.proofs.Common.{◌≡◌, ◌≤◌, take, length}
use Rattle.cg_disk_records.specs.Agreeing.{indexes_of}
use Rattle.cg_disk_records.proofs.agreement.count_of.Given as goal

abbrev pub invariant-loop-a : goal.invariant-loop-a
invariant-loop-a l = (l.count ≡ length (indexes_of (take l.a-index l.actions) l.id)) × (l.count ≤ l.a-index)
