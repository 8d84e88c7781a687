use Rattle.std.proofs.Common.{◌≡◌, ◌≤◌, length, drop}
use Rattle.cg_db.specs.View.{of_entries}
use Rattle.cg_db.proofs.db.Db.copy.Given as goal

-- the entries from a place on are copied
abbrev pub invariant-loop-left : goal.invariant-loop-left
invariant-loop-left l = (of_entries l.map.entries ≡ of_entries (drop l.left l.self-inside.map.entries)) × (l.left ≤ length l.self-inside.map.entries)

abbrev pub decreases-loop-left : goal.decreases-loop-left
decreases-loop-left l = l.left
