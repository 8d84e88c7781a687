use Rattle.std.proofs.Common.{◌≡◌, ◌++◌}
use Rattle.std.specs.List.{flat_map}
use Rattle.cg_base.specs.Iterators.{weights_left}
use Rattle.cg_base.specs.Fronts.{KeepsFront}
use Rattle.cg_records.specs.Bytes.{spelled_weighted}
use Rattle.cg_records.proofs.sets.write_weight_set.Given as goal

-- what is written so far and what is still to be written make the whole
abbrev pub invariant-loop-member : goal.invariant-loop-member
invariant-loop-member l =
    (l.out.items ++ flat_map spelled_weighted (weights_left l.member-iterator) ≡ l.initial.out.items ++ flat_map spelled_weighted (weights_left l.initial.member-iterator))
    × KeepsFront l.initial.out.items l.out.items
