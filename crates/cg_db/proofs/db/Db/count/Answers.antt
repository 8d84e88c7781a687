use Rattle.std.proofs.Common.{sym, ◌∙◌}
use Rattle.cg_db.proofs.KeyLemmas.{length-of_entries}
use Rattle.cg_db.proofs.db.Db.count.Goals as goal

pub returns : goal.returns
returns c = rw (← c.self.view_is) (c.len.ensures.len ∙ sym (length-of_entries c.self.inside.map.entries c.len.ensures.unique))
