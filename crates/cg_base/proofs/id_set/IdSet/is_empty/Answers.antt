use Rattle.cg_base.proofs.WordLemmas.{members-empty}
use Rattle.cg_base.proofs.id_set.IdSet.is_empty.Goals as goal

pub returns : goal.returns
returns c = rw (← c.self.view_is) (members-empty c.self.inside.word c.self.invariant)
