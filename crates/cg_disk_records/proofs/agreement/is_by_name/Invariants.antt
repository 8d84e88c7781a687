use Rattle.std.proofs.Common.{◌≡◌, length}
use Rattle.cg_disk_records.specs.Agreeing.{is_by_name}
use Rattle.cg_disk_records.proofs.agreement.is_by_name.Given as goal

abbrev pub invariant-loop-first : goal.invariant-loop-first
invariant-loop-first l = is_by_name l.rest ≡ is_by_name l.actions

abbrev pub decreases-loop-first : goal.decreases-loop-first
decreases-loop-first l = length l.rest
