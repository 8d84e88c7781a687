use Rattle.std.proofs.Common.{◌≡◌}
use Rattle.cg_base.specs.Iterators.{members_left}
use Rattle.cg_group.specs.Refusals.{any_of, not_regular}
use Rattle.cg_group.proofs.group.Group.first_not_regular.Given as goal

abbrev pub invariant-loop-p : goal.invariant-loop-p
invariant-loop-p g l = any_of (not_regular l.self) (members_left l.p-iterator) ≡ any_of (not_regular l.self) l.set
