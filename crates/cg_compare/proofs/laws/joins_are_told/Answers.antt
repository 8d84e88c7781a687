use Rattle.cg_compare.proofs.Agreeing as agreeing
use Rattle.cg_compare.proofs.laws.joins_are_told.Goals as goal

pub returns : goal.returns
returns c = agreeing.joins_are_told
