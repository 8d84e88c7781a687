use Rattle.std.proofs.Common.{◌≡◌, ◌≤◌, ◌+◌, length}
use Rattle.std.specs.Vec.Iter.{into_iter_items}
use Rattle.indexmap.specs.IndexMap.{spare}
use Rattle.cg_db.specs.View.{of_entries}
use Rattle.cg_db.specs.Plan.{with_changes}
use Rattle.cg_db.proofs.db.write_each.Given as goal

-- what is left makes of the map what all make of it, there is room for it, and what was written took no more than its own
abbrev pub invariant-loop-change : goal.invariant-loop-change
invariant-loop-change l = record {
  same : with_changes (of_entries l.map.entries) (into_iter_items l.change-iterator) ≡ with_changes (of_entries l.initial.map.entries) (into_iter_items l.initial.change-iterator);
  room : length (into_iter_items l.change-iterator) ≤ spare l.map;
  used : spare l.initial.map + length (into_iter_items l.change-iterator) ≤ spare l.map + length (into_iter_items l.initial.change-iterator);
}
