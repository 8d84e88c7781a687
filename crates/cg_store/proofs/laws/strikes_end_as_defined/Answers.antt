use Rattle.cg_store.proofs.Outcome.{ends_as_defined}
use Rattle.cg_store.proofs.laws.strikes_end_as_defined.Goals as goal

pub returns : goal.returns
returns c = ends_as_defined
