use Rattle.std.proofs.Common.{◌≡◌}
use Rattle.cg_base.specs.Iterators.{members_left}
use Rattle.cg_gen.specs.Generated.{halved}
use Rattle.cg_gen.proofs.halves.halve.Given as goal

-- what is still to be drawn behind the halves so far gives what the whole gives
abbrev pub invariant-loop-p : goal.invariant-loop-p
invariant-loop-p l = halved (members_left l.p-iterator) l.halves l.draws ≡ halved (members_left l.initial.p-iterator) l.initial.halves l.initial.draws
