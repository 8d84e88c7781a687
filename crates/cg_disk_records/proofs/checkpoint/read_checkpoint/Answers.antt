use Rattle.std.proofs.Common.{sym, ◌∙◌}
use Rattle.cg_disk_records.proofs.StandingLaws.{checkpoint-told, checkpoint-none}
use Rattle.cg_disk_records.proofs.checkpoint.read_checkpoint.Goals as goal
use Rattle.cg_codec.specs.FaultLaws.{numbered}

pub returns-in-Ok : goal.returns-in-Ok
returns-in-Ok c = checkpoint-told c.args.id c.args.bytes.now c.in-Ok.checkpoint c.of.result c.holds.ensures c.in-Ok.ensures.exact.0 c.in-Ok.ensures.read c.of.ensures

pub returns-in-Some : goal.returns-in-Some
returns-in-Some c =
    checkpoint-none c.args.id c.args.bytes.now c.in-Err.fault (c.in-Err.ensures.read (numbered c.in-Err.fault c.in-Some.field-0 (sym c.number.ensures ∙ c.in-Some.is)))
