use Rattle.cg_base.proofs.WordLemmas.{members-or}
use Rattle.cg_base.proofs.id_set.IdSet.union.Goals as goal

pub returns : goal.returns
returns c = rw (← c.self.view_is, ← c.o.view_is) (members-or c.self.inside.word c.o.inside.word)
