use Rattle.cg_base.proofs.WordLemmas.{members-set}
use Rattle.cg_base.proofs.id_set.IdSet.add.Goals as goal

pub returns : goal.returns
returns c = rw (← c.self.view_is, c.from-slot.ensures, c.get.ensures.value) (members-set c.self.inside.word c.args.id c.get.ensures.range)
