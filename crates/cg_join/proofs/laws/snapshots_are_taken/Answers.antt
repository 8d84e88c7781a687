use Rattle.cg_join.proofs.Handed.{next_taken}
use Rattle.cg_join.proofs.laws.snapshots_are_taken.Goals as goal

pub returns : goal.returns
returns c = next_taken c.pieces_are_exact.ensures.whole
