use Rattle.cg_session.proofs.Rising.{never_falls}
use Rattle.cg_session.proofs.laws.tokens_never_fall.Goals as goal

pub returns : goal.returns
returns c = never_falls
