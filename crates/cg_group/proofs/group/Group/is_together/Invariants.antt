use Rattle.std.proofs.Common.{◌≡◌}
use Rattle.std.specs.List.{list_any}
use Rattle.cg_base.specs.Iterators.{members_left}
use Rattle.cg_group.specs.State.{phase_of}
use Rattle.cg_group.specs.Refusals.{left_together}
use Rattle.cg_group.proofs.group.Group.is_together.Given as goal

abbrev pub invariant-loop-p : goal.invariant-loop-p
invariant-loop-p g l = list_any (λ p. left_together (phase_of l.self p) l.phase) (members_left l.p-iterator) ≡ list_any (λ p. left_together (phase_of l.self p) l.phase) l.set
