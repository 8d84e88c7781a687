use Rattle.cg_base.proofs.WordLemmas.{members-and}
use Rattle.cg_base.proofs.id_set.IdSet.common.Goals as goal

pub returns : goal.returns
returns c = rw (← c.self.view_is, ← c.o.view_is) (members-and c.self.inside.word c.o.inside.word)
