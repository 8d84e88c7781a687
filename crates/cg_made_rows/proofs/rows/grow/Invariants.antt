use Rattle.std.proofs.Common.{◌+◌, ◌-◌, vec_len}
use Rattle.cg_made_rows.specs.Grown.{IsGrown}
use Rattle.cg_made_rows.proofs.rows.grow.Given as goal

abbrev pub invariant-loop-alloc : goal.invariant-loop-alloc
invariant-loop-alloc l = IsGrown l.fn.rows.items l.rows.items l.slot

abbrev pub decreases-loop-alloc : goal.decreases-loop-alloc
decreases-loop-alloc l = l.slot + 1 - vec_len l.rows
