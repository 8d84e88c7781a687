use Rattle.std.proofs.Common.{take}
use Rattle.cg_base.specs.Lists.{Each}
use Rattle.cg_short.specs.Short.{IsShortCommand}
use Rattle.cg_short.proofs.actions.commands_are_short.Given as goal

abbrev pub invariant-loop-cmd : goal.invariant-loop-cmd
invariant-loop-cmd l = Each IsShortCommand (take l.cmd-index l.cmds)
