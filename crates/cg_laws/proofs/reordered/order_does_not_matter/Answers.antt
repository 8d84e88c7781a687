use Rattle.cg_laws.proofs.Planning.{knowledge-any_order, plan-any_order}
use Rattle.cg_laws.proofs.reordered.order_does_not_matter.Goals as goal

pub returns-clause-knowledge : goal.returns-clause-knowledge
returns-clause-knowledge c = knowledge-any_order

pub returns-clause-plan : goal.returns-clause-plan
returns-clause-plan c = plan-any_order
