use Rattle.std.proofs.Common.{sym, ◌∙◌}
use Rattle.cg_db.proofs.ViewLemmas.{value_of-of_entries}
use Rattle.cg_db.proofs.db.Db.value.Goals as goal

pub returns : goal.returns
returns c = rw (← c.self.view_is) (c.get.ensures.value ∙ sym (value_of-of_entries c.self.inside.map.entries c.args.key.now))
