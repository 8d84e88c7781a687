use Rattle.cg_db.proofs.ViewLemmas.{Ascends-of_entries}
use Rattle.cg_db.proofs.db.Db.holds.Goals as goal

pub returns : goal.returns
returns c = rw (← c.self.view_is) (Ascends-of_entries c.self.inside.map.entries)
