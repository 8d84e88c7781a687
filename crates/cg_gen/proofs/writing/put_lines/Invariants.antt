use Rattle.std.proofs.Common.{◌≡◌, ◌++◌, length}
use Rattle.cg_gen.specs.Lines.{lines_of}
use Rattle.cg_gen.proofs.writing.put_lines.Given as goal

abbrev pub invariant-loop-event : goal.invariant-loop-event
invariant-loop-event l = l.out.items ++ lines_of l.generator ≡ l.initial.out.items ++ lines_of l.initial.generator

abbrev pub decreases-loop-event : goal.decreases-loop-event
decreases-loop-event l = length l.generator
