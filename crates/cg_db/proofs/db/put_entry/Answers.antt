use Rattle.std.specs.Prelude.{Some}
use Rattle.cg_db.proofs.ViewLemmas.{of_entries-updated}
use Rattle.cg_db.proofs.db.put_entry.Goals as goal

pub returns-clause-ok : goal.returns-clause-ok
returns-clause-ok c = of_entries-updated c.args.key c.args.map.now c.insert.new.self (Some c.args.value) c.in_ok-insert.ensures.updates
