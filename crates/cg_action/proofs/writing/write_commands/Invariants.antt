use Rattle.std.proofs.Common.{◌≡◌, ◌++◌, take}
use Rattle.std.specs.List.{flat_map}
use Rattle.cg_action.specs.Bytes.{spelled_command}
use Rattle.cg_action.proofs.writing.write_commands.Given as goal

abbrev pub invariant-loop-cmd : goal.invariant-loop-cmd
invariant-loop-cmd l = l.out.items ≡ l.initial.out.items ++ flat_map spelled_command (take l.cmd-index l.cmds)
