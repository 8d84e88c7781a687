use Rattle.std.proofs.Common.{◌≡◌, ◌++◌, drop}
use Rattle.std.specs.List.{flat_map}
use Rattle.cg_base.specs.Fronts.{KeepsFront}
use Rattle.cg_action.specs.Bytes.{spelled_action}
use Rattle.cg_disk_records.specs.Kept.{list_in}
use Rattle.cg_disk_records.proofs.kept.write_list.Given as goal

-- what is written so far and what is still to be written make the whole
abbrev pub invariant-loop-i : goal.invariant-loop-i
invariant-loop-i l =
    (l.out.items ++ flat_map spelled_action (drop l.i (list_in l.core l.which)) ≡ l.initial.out.items ++ flat_map spelled_action (list_in l.core l.which))
    × KeepsFront l.initial.out.items l.out.items
