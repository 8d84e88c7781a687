use Rattle.cg_agree.proofs.NeverMet.{never-met}
use Rattle.cg_agree.proofs.laws.nothing_is_wrongly_ignored.Goals as goal

pub returns : goal.returns
returns c = never-met
