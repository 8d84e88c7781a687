use Rattle.cg_plan.proofs.Following.{follows, ends, same_item-tells}
use Rattle.cg_plan.proofs.laws.plans_end.Goals as goal

pub returns-clause-follows : goal.returns-clause-follows
returns-clause-follows c = follows

pub returns-clause-ends : goal.returns-clause-ends
returns-clause-ends c = ends

pub returns-clause-same : goal.returns-clause-same
returns-clause-same c = same_item-tells
