use Rattle.cg_knowledge.proofs.LawProofs.{common_stands}
use Rattle.cg_knowledge.proofs.laws.common_yellow_stands_in_each.Goals as goal

pub returns : goal.returns
returns c = common_stands
