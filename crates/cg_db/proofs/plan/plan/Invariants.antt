use Rattle.std.proofs.Common.{◌≡◌, drop}
use Rattle.cg_db.specs.Apply.{Changed, run_commands}
use Rattle.cg_db.specs.Plan.{listed, with_changes}
use Rattle.cg_db.proofs.plan.plan.Given as goal

-- what is left makes of the changes so far what all make of the first
abbrev pub invariant-loop-i : goal.invariant-loop-i
invariant-loop-i l = run_commands l.db l.i (drop l.i l.cmds) (Changed (with_changes l.db (listed l.changes))) ≡ run_commands l.db 0 l.cmds (Changed (with_changes l.db (listed l.initial.changes)))
