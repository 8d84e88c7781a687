use Rattle.std.proofs.Common.{◌≡◌, ◌-◌}
use Rattle.cg_group.specs.Events.{order}
use Rattle.cg_group.specs.Logs.{RoomForAll, group_of}
use Rattle.cg_group.proofs.OrderFacts.{times}
use Rattle.cg_group.proofs.gathering.order_all.Given as goal

-- the messages that are left are still to be ordered, and there is room for all
abbrev pub invariant-loop-i : goal.invariant-loop-i
invariant-loop-i g l =
    (times (l.count - l._i) (λ h. order h l.p) (group_of l.logs l.roster) ≡ times l.count (λ h. order h l.p) (group_of l.initial.logs l.initial.roster))
    × RoomForAll l.logs l.roster
