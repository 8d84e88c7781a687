use Rattle.std.proofs.Common.{◌≡◌, not, find}
use Rattle.std.specs.Prelude.{◌==◌}
use Rattle.cg_base.specs.Iterators.{members_left}
use Rattle.cg_group.specs.State.{regular_in, phase_of}
use Rattle.cg_group.proofs.group.Group.first_outside.Given as goal

abbrev pub invariant-loop-q : goal.invariant-loop-q
invariant-loop-q g l =
    find (λ q. not (regular_in (phase_of l.self q) == l.conf)) (members_left l.q-iterator) ≡ find (λ q. not (regular_in (phase_of l.self q) == l.conf)) l.set
