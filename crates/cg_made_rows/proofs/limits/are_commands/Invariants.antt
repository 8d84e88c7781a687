use Rattle.std.proofs.Common.{take}
use Rattle.std.specs.Prelude.{All}
use Rattle.cg_action.specs.ActionLimits.{IsCommand}
use Rattle.cg_made_rows.proofs.limits.are_commands.Given as goal

abbrev pub invariant-loop-cmd : goal.invariant-loop-cmd
invariant-loop-cmd l = All IsCommand (take l.cmd-index l.cmds)
