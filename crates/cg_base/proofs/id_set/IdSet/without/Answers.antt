use Rattle.cg_base.proofs.WordLemmas.{members-and_not}
use Rattle.cg_base.proofs.id_set.IdSet.without.Goals as goal

pub returns : goal.returns
returns c = rw (← c.self.view_is, ← c.o.view_is) (members-and_not c.self.inside.word c.o.inside.word c.o.invariant)
