use Rattle.std.proofs.Common.{◌≡◌}
use Rattle.cg_base.specs.Iterators.{members_left}
use Rattle.cg_group.specs.Refusals.{any_of, not_up}
use Rattle.cg_world_events.proofs.admission.first_down.Given as goal

abbrev pub invariant-loop-p : goal.invariant-loop-p
invariant-loop-p l = any_of (not_up l.state.group) (members_left l.p-iterator) ≡ any_of (not_up l.state.group) l.set
