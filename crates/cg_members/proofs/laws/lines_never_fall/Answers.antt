use Rattle.cg_members.proofs.Falling.{never_fall}
use Rattle.cg_members.proofs.laws.lines_never_fall.Goals as goal

pub returns : goal.returns
returns c = never_fall
