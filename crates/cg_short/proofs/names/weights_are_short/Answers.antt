use Rattle.cg_short.proofs.Setting.{weights-short}
use Rattle.cg_short.proofs.names.weights_are_short.Goals as goal

pub returns : goal.returns
returns c = weights-short c.args.set c.holds.ensures
