use Rattle.std.proofs.Common.{◌≡◌, fold}
use Rattle.cg_base.specs.Iterators.{members_left}
use Rattle.cg_base.specs.Weights.{ids}
use Rattle.cg_model.specs.Step.{begin_replica}
use Rattle.cg_world_events.proofs.NotYetUp.{AreStillDown}
use Rattle.cg_world_events.proofs.beginning.begin_all.Given as goal

-- the members that are left begin as all of them do
abbrev pub invariant-loop-p : goal.invariant-loop-p
invariant-loop-p l =
    (fold (begin_replica l.set) l.state (members_left l.p-iterator) ≡ fold (begin_replica l.set) l.fn.state (ids l.set))
    × AreStillDown l.state.group 0 (members_left l.p-iterator)
