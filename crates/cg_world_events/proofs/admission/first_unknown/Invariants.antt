use Rattle.std.proofs.Common.{◌≡◌}
use Rattle.cg_base.specs.Iterators.{members_left}
use Rattle.cg_group.specs.Refusals.{any_of}
use Rattle.cg_model.specs.Admission.{unknown}
use Rattle.cg_world_events.proofs.admission.first_unknown.Given as goal

abbrev pub invariant-loop-p : goal.invariant-loop-p
invariant-loop-p l = any_of (unknown l.state) (members_left l.p-iterator) ≡ any_of (unknown l.state) l.set
