use Rattle.cg_base.proofs.WordLemmas.{members-clear}
use Rattle.cg_base.proofs.id_set.IdSet.remove.Goals as goal

pub returns : goal.returns
returns c = rw (← c.self.view_is, c.from-slot.ensures, c.get.ensures.value) (members-clear c.self.inside.word c.args.id c.get.ensures.range)
