use Rattle.std.proofs.Common.{sym, ◌∙◌}
use Rattle.cg_older.proofs.StandingLaws.{newer-told, checkpoint-none}
use Rattle.cg_older.proofs.checkpoint.newer_checkpoint.Goals as goal
use Rattle.cg_codec.specs.FaultLaws.{numbered}

pub returns-in-Ok : goal.returns-in-Ok
returns-in-Ok c =
    newer-told (λ bytes. bytes.items) c.parts_are_exact.ensures.whole c.args.body.now c.in-Ok.checkpoint c.in-Ok.ensures.within c.in-Ok.ensures.read c.newer_bytes.result c.newer_bytes.ensures

pub returns-in-Some : goal.returns-in-Some
returns-in-Some c =
    checkpoint-none c.args.body.now c.in-Err.fault (c.in-Err.ensures.read (numbered c.in-Err.fault c.in-Some.field-0 (sym c.number.ensures ∙ c.in-Some.is)))
