use Rattle.cg_join.proofs.Joined.{joined-agrees}
use Rattle.cg_join.proofs.laws.joiners_agree.Goals as goal

pub returns : goal.returns
returns c = joined-agrees
