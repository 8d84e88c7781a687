use Rattle.std.proofs.Common.{◌≡◌, fold, take}
use Rattle.cg_client.specs.Overlay.{with_command}
use Rattle.cg_client.proofs.overlay.take_commands.Given as goal

abbrev pub invariant-loop-cmd : goal.invariant-loop-cmd
invariant-loop-cmd l = l.part ≡ fold (with_command l.db) l.fn.part (take l.cmd-index l.cmds)
