use Rattle.cg_agree.proofs.AlwaysMade.{always-holds}
use Rattle.cg_agree.proofs.RunSteps.{stands-for}
use Rattle.cg_agree.proofs.laws.runs_tell_of_their_worlds.Goals as goal

pub returns : goal.returns
returns c = λ steps run. (stands-for always-holds steps run).tells
