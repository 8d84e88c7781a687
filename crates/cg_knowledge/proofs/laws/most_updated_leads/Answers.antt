use Rattle.cg_knowledge.proofs.MostUpdated.{has_most_updated}
use Rattle.cg_knowledge.proofs.laws.most_updated_leads.Goals as goal

pub returns : goal.returns
returns c = has_most_updated
