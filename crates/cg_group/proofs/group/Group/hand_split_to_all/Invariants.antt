use Rattle.std.proofs.Common.{◌≡◌, ◌++◌, map}
use Rattle.cg_base.specs.Iterators.{members_left}
use Rattle.cg_group.specs.Events.{handed_in_split}
use Rattle.cg_group.proofs.group.Group.hand_split_to_all.Given as goal

abbrev pub invariant-loop-p : goal.invariant-loop-p
invariant-loop-p g l =
    l.handed.items ++ map (handed_in_split l.self l.set) (members_left l.p-iterator) ≡ map (handed_in_split l.self l.set) l.set
