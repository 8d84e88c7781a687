use Rattle.cg_short.proofs.Setting.{names-short}
use Rattle.cg_short.proofs.names.runs_are_short.Goals as goal

pub returns : goal.returns
returns c = names-short c.args.ids.now c.creators_fit.ensures c.indexes_fit.ensures
