use Rattle.cg_base.proofs.WordLemmas.{members-0}
use Rattle.cg_base.proofs.id_set.IdSet.empty.Goals as goal

pub returns : goal.returns
returns c = members-0
