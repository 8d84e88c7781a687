use Rattle.std.specs.Prelude.{Some, None, IsOk}
use Rattle.cg_db.proofs.ViewLemmas.{of_entries-updated}
use Rattle.cg_db.proofs.db.write_one.Goals as goal
use Rattle.cg_base.specs.ResultLaws.{OnOk_then}

pub returns-in-Some-clause-changed : goal.returns-in-Some-clause-changed
returns-in-Some-clause-changed c =
    let ok : IsOk c.insert.result = c.insert.ensures.succeeds c.requires in
    rw c.in-Some.is (of_entries-updated c.args.change.key c.args.map.now c.insert.new.self (Some c.in-Some.value) (OnOk_then c.insert.result ok c.insert.ensures.updates))

pub returns-in-None-clause-changed : goal.returns-in-None-clause-changed
returns-in-None-clause-changed c =
    rw c.in-None.is (of_entries-updated c.args.change.key c.args.map.now c.swap_remove.new.self None c.swap_remove.ensures.updates)
