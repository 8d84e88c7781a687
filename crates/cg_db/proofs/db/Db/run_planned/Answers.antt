use Rattle.std.proofs.Common.{◌≡◌}
use Rattle.cg_db.specs.View.{of_entries}
use Rattle.cg_db.specs.Plan.{listed, with_changes}
use Rattle.cg_db.proofs.PlanLemmas.{run_done, run_aborted, run_overflowed}
use Rattle.cg_db.proofs.db.Db.run_planned.Goals as goal

pub returns-in_ok-write-in-Done-clause-ok : goal.returns-in_ok-write-in-Done-clause-ok
returns-in_ok-write-in-Done-clause-ok c =
    let db = c.args.self.now in
    let changes = listed c.plan.new.changes in
    let written : of_entries c.write.new.map.entries ≡ with_changes db changes = rw (← c.self.view_is) c.in_ok-write-in-Done.ensures.ok in
    run_done db (of_entries c.write.new.map.entries) c.args.cmds.now (listed c.new-changes.result) changes c.in_ok-effect.effect c.new-changes.ensures c.in_ok-effect.ensures c.in-Done.is written

pub returns-in-Aborted-clause-ok : goal.returns-in-Aborted-clause-ok
returns-in-Aborted-clause-ok c =
    run_aborted c.args.self.now c.args.cmds.now (listed c.new-changes.result) (listed c.plan.new.changes) c.in_ok-effect.effect c.in-Aborted.number c.new-changes.ensures c.in_ok-effect.ensures c.in-Aborted.is

pub returns-in-Range-clause-ok : goal.returns-in-Range-clause-ok
returns-in-Range-clause-ok c =
    run_overflowed c.args.self.now c.args.cmds.now (listed c.new-changes.result) (listed c.plan.new.changes) c.in_ok-effect.effect c.in-Range.number c.new-changes.ensures c.in_ok-effect.ensures c.in-Range.is
