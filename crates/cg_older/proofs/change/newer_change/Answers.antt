use Rattle.std.proofs.Common.{sym, ◌∙◌}
use Rattle.cg_older.proofs.ChangeFields.{change-same, change-none}
use Rattle.cg_older.proofs.change.newer_change.Goals as goal
use Rattle.cg_codec.specs.FaultLaws.{numbered}

pub returns-in_ok-bytes_of_change-in-Ok : goal.returns-in_ok-bytes_of_change-in-Ok
returns-in_ok-bytes_of_change-in-Ok c =
    change-same c.args.body.now c.in_ok-bytes_of_change-in-Ok.field-0.items c.in-Ok.change (c.changes_are_exact.ensures.again c.in-Ok.change c.in-Ok.ensures.within) c.in-Ok.ensures.read c.in_ok-bytes_of_change-in-Ok.ensures

pub returns-in-Some : goal.returns-in-Some
returns-in-Some c =
    change-none c.args.body.now c.in-Err.fault (c.in-Err.ensures.read (numbered c.in-Err.fault c.in-Some.field-0 (sym c.number.ensures ∙ c.in-Some.is)))
