use Rattle.std.proofs.Common.{◌≡◌, fold}
use Rattle.cg_base.specs.Iterators.{members_left}
use Rattle.cg_group.specs.Events.{become_regular}
use Rattle.cg_group.specs.Rosters.{AllUp}
use Rattle.cg_group.proofs.group.Group.enter_regular.Given as goal

abbrev pub invariant-loop-p : goal.invariant-loop-p
invariant-loop-p g l =
    (fold (become_regular l.conf) l.self (members_left l.p-iterator) ≡ fold (become_regular l.conf) l.initial.self l.set)
    × AllUp l.self (members_left l.p-iterator)
