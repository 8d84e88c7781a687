use Rattle.std.proofs.Common.{◌≡◌, Some, drop}
use Rattle.cg_disk_records.specs.Holds.{Holds}
use Rattle.cg_store.specs.Repeating.{IsRecent}
use Rattle.cg_store.specs.Stands.{led_by_all}
use Rattle.cg_store.proofs.finding.follow_all.Given as goal

-- those that are left lead to what all lead to, and what is held so far holds
abbrev pub invariant-loop-i : goal.invariant-loop-i
invariant-loop-i l = (led_by_all (Some l.core) (drop l.i l.bodies) ≡ led_by_all (Some l.fn.core) (drop 1 l.bodies)) × Holds l.core × IsRecent l.recent
