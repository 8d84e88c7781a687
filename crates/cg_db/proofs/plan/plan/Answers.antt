use Rattle.std.proofs.Common.{◌≡◌, ◌+◌, ◌<◌, ◌≤◌, length, drop, sym, ◌∙◌, arith}
use Rattle.cg_db.specs.Apply.{Changed, Aborts, Overflows, run_command, run_commands}
use Rattle.cg_db.specs.Plan.{listed, with_changes}
use Rattle.cg_db.proofs.PlanLemmas.{run_more, run_aborts, run_overflows, run_end}
use Rattle.cg_db.proofs.plan.plan.Goals as goal

pub returns-in-Fails : goal.returns-in-Fails
returns-in-Fails c =
    let db = c.args.db.now in
    let cmds = c.args.cmds.now in
    let i = c.loop-i.i in
    let cmd = c.index-cmds-i.result in
    let before = with_changes db (listed c.loop-i.changes) in
    let lt : i < length cmds = omega arith in
    let ended : run_command before cmd ≡ Aborts = rw c.in-Fails.is at c.in_ok-run_command.ensures in
    let total = run_commands db 0 cmds (Changed (with_changes db (listed c.args.changes.now))) in
    sym (run_more db before i cmds cmd total Aborts lt (sym c.index-cmds-i.is) c.loop-i.invariant ended) ∙ run_aborts db (i + 1) (drop (i + 1) cmds)

pub returns-in-Overflows : goal.returns-in-Overflows
returns-in-Overflows c =
    let db = c.args.db.now in
    let cmds = c.args.cmds.now in
    let i = c.loop-i.i in
    let cmd = c.index-cmds-i.result in
    let before = with_changes db (listed c.loop-i.changes) in
    let lt : i < length cmds = omega arith in
    let ended : run_command before cmd ≡ Overflows = rw c.in-Overflows.is at c.in_ok-run_command.ensures in
    let total = run_commands db 0 cmds (Changed (with_changes db (listed c.args.changes.now))) in
    sym (run_more db before i cmds cmd total Overflows lt (sym c.index-cmds-i.is) c.loop-i.invariant ended) ∙ run_overflows db (i + 1) (drop (i + 1) cmds)

pub loop-i-preserved : goal.loop-i-preserved
loop-i-preserved c =
    let db = c.args.db.now in
    let cmds = c.args.cmds.now in
    let i = c.loop-i.i in
    let cmd = c.index-cmds-i.result in
    let before = with_changes db (listed c.loop-i.changes) in
    let after = with_changes db (listed c.run_command.new.changes) in
    let lt : i < length cmds = omega arith in
    let ended : run_command before cmd ≡ Changed after = rw c.in-Goes.is at c.in_ok-run_command.ensures in
    let total = run_commands db 0 cmds (Changed (with_changes db (listed c.args.changes.now))) in
    run_more db before i cmds cmd total (Changed after) lt (sym c.index-cmds-i.is) c.loop-i.invariant ended

pub returns : goal.returns
returns c =
    let db = c.args.db.now in
    let cmds = c.args.cmds.now in
    let le : length cmds ≤ c.loop-i.i = omega arith in
    run_end db (with_changes db (listed c.loop-i.changes)) c.loop-i.i cmds (run_commands db 0 cmds (Changed (with_changes db (listed c.args.changes.now)))) le c.loop-i.invariant
