use Rattle.std.proofs.Common.{take}
use Rattle.cg_base.specs.Lists.{Each}
use Rattle.cg_short.specs.Short.{IsShortDbEntry}
use Rattle.cg_short.proofs.answers.entries_are_short.Given as goal

abbrev pub invariant-loop-entry : goal.invariant-loop-entry
invariant-loop-entry l = Each IsShortDbEntry (take l.entry-index l.entries)
