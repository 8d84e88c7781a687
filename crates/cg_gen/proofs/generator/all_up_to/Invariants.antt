use Rattle.std.proofs.Common.{◌≡◌}
use Rattle.cg_base.specs.Lists.{count_up}
use Rattle.cg_gen.proofs.generator.all_up_to.Given as goal

abbrev pub invariant-loop-n : goal.invariant-loop-n
invariant-loop-n l = l.set ≡ count_up 1 l.n
