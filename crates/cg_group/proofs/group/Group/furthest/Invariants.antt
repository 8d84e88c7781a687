use Rattle.std.proofs.Common.{◌≡◌, fold, map, max}
use Rattle.cg_base.specs.Iterators.{members_left}
use Rattle.cg_group.specs.State.{delivered_to}
use Rattle.cg_group.specs.Events.{furthest}
use Rattle.cg_group.proofs.group.Group.furthest.Given as goal

abbrev pub invariant-loop-p : goal.invariant-loop-p
invariant-loop-p g l = fold max l.most (map (delivered_to l.self) (members_left l.p-iterator)) ≡ furthest l.self l.set
