use Rattle.cg_knowledge.proofs.LawProofs.{deciders_meet}
use Rattle.cg_knowledge.proofs.laws.deciders_meet.Goals as goal

pub returns : goal.returns
returns c = deciders_meet
