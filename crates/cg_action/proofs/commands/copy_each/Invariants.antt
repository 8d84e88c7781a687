use Rattle.std.proofs.Common.{◌≡◌, take}
use Rattle.cg_action.proofs.commands.copy_each.Given as goal

abbrev pub invariant-loop-cmd : goal.invariant-loop-cmd
invariant-loop-cmd l = l.copies ≡ take l.cmd-index l.cmds
