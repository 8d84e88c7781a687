use Rattle.std.proofs.Common.{◌≡◌, ◌++◌}
use Rattle.std.specs.List.{flat_map}
use Rattle.cg_base.specs.Iterators.{tops_left}
use Rattle.cg_base.specs.Fronts.{KeepsFront}
use Rattle.cg_codec.specs.Fields.{spelled_id}
use Rattle.cg_records.proofs.names.write_cut.Given as goal

-- what is written so far and what is still to be written make the whole
abbrev pub invariant-loop-top : goal.invariant-loop-top
invariant-loop-top l =
    (l.out.items ++ flat_map spelled_id (tops_left l.top-iterator) ≡ l.initial.out.items ++ flat_map spelled_id (tops_left l.initial.top-iterator))
    × KeepsFront l.initial.out.items l.out.items
