use Rattle.std.proofs.Common.{◌≡◌, take}
use Rattle.cg_relaxed.proofs.run.copy_all.Given as goal

abbrev pub invariant-loop-cmd : goal.invariant-loop-cmd
invariant-loop-cmd l = l.copies.items ≡ take l.cmd-index l.cmds
