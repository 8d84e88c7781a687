use Rattle.cg_made_rows.specs.Kept.{IsFrom}
use Rattle.cg_made_rows.proofs.values.follow.Given as goal

abbrev pub invariant-actions : goal.invariant-actions
invariant-actions l = IsFrom l.rows l.value
