use Rattle.std.proofs.Common.{length, take}
use Rattle.std.specs.List.{flat_map}
use Rattle.cg_base.specs.TextLaws.{OnErr_from}
use Rattle.cg_codec.specs.Fields.{number32}
use Rattle.cg_action.specs.Bytes.{spelled_command}
use Rattle.cg_action.proofs.Fronts.{front_after}
use Rattle.cg_action.proofs.writing.write_commands.Goals as goal

pub returns-in_err-write_command-clause-err : goal.returns-in_err-write_command-clause-err
returns-in_err-write_command-clause-err c =
    OnErr_from c.from_residual-in_err-write_command.result
    (front_after c.args.out.now.items (number32 (length c.args.cmds.now)) c.put_u32.new.out.items (flat_map spelled_command (take c.loop-cmd.cmd-index c.args.cmds.now)) c.loop-cmd.out.items c.write_command.new.out.items c.in_ok-put_u32.ensures.ok c.loop-cmd.invariant c.in_err-write_command.ensures.err)
