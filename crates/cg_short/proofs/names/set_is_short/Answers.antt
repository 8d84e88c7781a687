use Rattle.cg_short.proofs.Setting.{set-short}
use Rattle.cg_short.proofs.names.set_is_short.Goals as goal

pub returns : goal.returns
returns c = set-short c.args.set c.holds.ensures
