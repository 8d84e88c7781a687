use Rattle.std.proofs.Common.{◌≡◌, ◌++◌, take}
use Rattle.std.specs.List.{flat_map}
use Rattle.cg_action.specs.Bytes.{spelled_action}
use Rattle.cg_disk_records.proofs.lists.write_each.Given as goal

abbrev pub invariant-loop-action : goal.invariant-loop-action
invariant-loop-action l = l.out.items ≡ l.initial.out.items ++ flat_map spelled_action (take l.action-index l.actions)
