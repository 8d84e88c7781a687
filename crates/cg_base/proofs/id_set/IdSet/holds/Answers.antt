use Rattle.cg_base.proofs.WordLemmas.{IsSet-members}
use Rattle.cg_base.proofs.id_set.IdSet.holds.Goals as goal

pub returns : goal.returns
returns c = rw (← c.self.view_is) (IsSet-members c.self.inside.word)
