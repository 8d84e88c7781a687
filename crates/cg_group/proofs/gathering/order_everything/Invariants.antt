use Rattle.std.proofs.Common.{◌≡◌, fold}
use Rattle.cg_base.specs.Iterators.{members_left}
use Rattle.cg_group.specs.Events.{order_all}
use Rattle.cg_group.specs.Logs.{RoomForAll, group_of}
use Rattle.cg_group.proofs.gathering.order_everything.Given as goal

abbrev pub invariant-loop-p : goal.invariant-loop-p
invariant-loop-p g l =
    (fold order_all (group_of l.logs l.roster) (members_left l.p-iterator) ≡ fold order_all (group_of l.initial.logs l.initial.roster) l.set)
    × RoomForAll l.logs l.roster
