use Rattle.cg_join.proofs.PartLists.{parts_counted}
use Rattle.cg_join.proofs.laws.snapshots_are_counted.Goals as goal

pub returns : goal.returns
returns c = parts_counted
