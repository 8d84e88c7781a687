use Rattle.std.proofs.Common.{◌≡◌, fold}
use Rattle.std.specs.Vec.Iter.{into_iter_items}
use Rattle.cg_db.specs.Limits.{AreEntries}
use Rattle.cg_join.specs.Snapshot.{with_entry_part}
use Rattle.cg_join.proofs.snapshot.push_entries.Given as goal

-- those that are left give what all gave
abbrev pub invariant-loop-e : goal.invariant-loop-e
invariant-loop-e l = (fold with_entry_part l.parts (into_iter_items l.e-iterator) ≡ fold with_entry_part l.fn.parts l.fn.entries) × AreEntries (into_iter_items l.e-iterator)
