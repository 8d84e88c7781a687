use Rattle.cg_made_rows.specs.Kept.{IsFrom}
use Rattle.cg_made_rows.proofs.values.bring_one.Given as goal

abbrev pub invariant-loop-top : goal.invariant-loop-top
invariant-loop-top l = IsFrom l.rows l.value
