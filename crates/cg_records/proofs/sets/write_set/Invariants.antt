use Rattle.std.proofs.Common.{◌≡◌, ◌++◌}
use Rattle.std.specs.List.{flat_map}
use Rattle.cg_base.specs.Iterators.{members_left}
use Rattle.cg_base.specs.Fronts.{KeepsFront}
use Rattle.cg_codec.specs.Fields.{byte}
use Rattle.cg_records.proofs.sets.write_set.Given as goal

-- what is written so far and what is still to be written make the whole
abbrev pub invariant-loop-id : goal.invariant-loop-id
invariant-loop-id l =
    (l.out.items ++ flat_map byte (members_left l.id-iterator) ≡ l.initial.out.items ++ flat_map byte (members_left l.initial.id-iterator))
    × KeepsFront l.initial.out.items l.out.items
