use Rattle.cg_base.proofs.WordLemmas.{members-same}
use Rattle.cg_base.proofs.id_set.IdSetPartialEq.eq.Goals as goal

pub returns : goal.returns
returns c = rw (← c.self.view_is, ← c.other.view_is) (members-same c.self.inside.word c.other.inside.word c.self.invariant c.other.invariant)
