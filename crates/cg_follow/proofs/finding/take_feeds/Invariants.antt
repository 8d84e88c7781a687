use Rattle.std.proofs.Common.{◌≡◌, Some, drop, fold}
use Rattle.cg_follow.specs.Stands.{led_by}
use Rattle.cg_follow.proofs.finding.take_feeds.Given as goal

-- the records that are left lead to what all lead to
abbrev pub invariant-loop-i : goal.invariant-loop-i
invariant-loop-i l = fold led_by (Some l.taken) (drop l.i l.bodies) ≡ fold led_by (Some l.fn.first) (drop 1 l.bodies)
