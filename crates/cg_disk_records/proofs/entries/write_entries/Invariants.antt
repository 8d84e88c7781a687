use Rattle.std.proofs.Common.{◌≡◌, ◌++◌, take}
use Rattle.std.specs.List.{flat_map}
use Rattle.cg_db.specs.Map.{value_of}
use Rattle.cg_db.specs.View.{entry_at}
use Rattle.cg_disk_records.specs.Checkpoint.{spelled_entry}
use Rattle.cg_disk_records.proofs.entries.write_entries.Given as goal

abbrev pub invariant-loop-key : goal.invariant-loop-key
invariant-loop-key l = l.out.items ≡ l.initial.out.items ++ flat_map (λ key. flat_map spelled_entry (entry_at key (value_of l.db key))) (take l.key-index l.key-items)
