use Rattle.cg_base.proofs.RunLemmas.{none-is_nil}
use Rattle.cg_base.proofs.id_runs.IdRuns.is_empty.Goals as goal

pub returns : goal.returns
returns c = rw (← c.self.view_is, c.is_empty.ensures, c.as_slice.ensures.value) (none-is_nil c.self.inside.runs.items)
