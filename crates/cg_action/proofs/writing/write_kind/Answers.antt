use Rattle.cg_codec.specs.Fields.{byte, list}
use Rattle.cg_action.specs.Bytes.{spelled_command}
use Rattle.cg_action.proofs.Fronts.{front_kept}
use Rattle.cg_action.proofs.writing.write_kind.Goals as goal

pub returns-in_ok-write_commands-in-Update-clause-err : goal.returns-in_ok-write_commands-in-Update-clause-err
returns-in_ok-write_commands-in-Update-clause-err c =
    front_kept c.write_query_or_none.result c.args.out.now.items (byte 1) c.put_u8.new.out.items (list spelled_command c.in-Update.cmds) c.write_commands.new.out.items c.write_query_or_none.new.out.items c.in_ok-put_u8-in-Update.ensures.ok (rw c.as_slice.ensures at c.in_ok-write_commands-in-Update.ensures.ok) c.write_query_or_none.ensures.err
