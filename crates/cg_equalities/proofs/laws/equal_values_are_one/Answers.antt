use Rattle.cg_equalities.proofs.Exact.{values-are-one, primaries-are-one, records-are-one, yellows-are-one, lines-are-one}
use Rattle.cg_equalities.proofs.laws.equal_values_are_one.Goals as goal

pub returns-clause-value : goal.returns-clause-value
returns-clause-value c = values-are-one

pub returns-clause-primary : goal.returns-clause-primary
returns-clause-primary c = primaries-are-one

pub returns-clause-vulnerable : goal.returns-clause-vulnerable
returns-clause-vulnerable c = records-are-one

pub returns-clause-yellow : goal.returns-clause-yellow
returns-clause-yellow c = yellows-are-one

pub returns-clause-line : goal.returns-clause-line
returns-clause-line c = lines-are-one
