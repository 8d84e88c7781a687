use Rattle.cg_agree.proofs.RunsAgree.{runs-agree}
use Rattle.cg_agree.proofs.laws.runs_agree.Goals as goal

pub returns : goal.returns
returns c = runs-agree
