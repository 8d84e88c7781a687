use Rattle.std.proofs.Common.{◌≡◌, fold}
use Rattle.cg_base.specs.Iterators.{members_left}
use Rattle.cg_group.specs.Events.{become_transitional}
use Rattle.cg_group.specs.Rosters.{AllUp}
use Rattle.cg_group.proofs.group.Group.part.Given as goal

abbrev pub invariant-loop-p : goal.invariant-loop-p
invariant-loop-p g l =
    (fold (become_transitional l.set) l.self (members_left l.p-iterator) ≡ fold (become_transitional l.set) l.initial.self l.set)
    × AllUp l.self (members_left l.p-iterator)
