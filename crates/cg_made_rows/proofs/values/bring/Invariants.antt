use Rattle.std.proofs.Common.{◌+◌, ◌-◌, vec_len}
use Rattle.cg_made_rows.specs.Kept.{AreKept}
use Rattle.cg_made_rows.proofs.values.bring.Given as goal

abbrev pub invariant-loop-values : goal.invariant-loop-values
invariant-loop-values l = AreKept l.rows l.values.items

abbrev pub decreases-loop-values : goal.decreases-loop-values
decreases-loop-values l = l.slot + 1 - vec_len l.values
