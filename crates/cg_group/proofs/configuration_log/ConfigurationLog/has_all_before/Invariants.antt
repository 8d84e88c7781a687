use Rattle.std.proofs.Common.{◌≡◌, ℕ, ◌-◌, ◌<◌, ◌≤◌, false}
use Rattle.std.specs.Prelude.{◌==◌}
use Rattle.cg_group.specs.Refusals.{sender_at}
use Rattle.cg_group.proofs.configuration_log.ConfigurationLog.has_all_before.Given as goal

-- no place behind this one is the sender's
abbrev pub invariant-loop-last : goal.invariant-loop-last
invariant-loop-last g l =
    (l.last ≤ l.place - 1)
    × ((earlier : ℕ) → l.last < earlier → earlier < l.place → (sender_at l.self.configuration earlier == sender_at l.self.configuration l.place) ≡ false)

abbrev pub decreases-loop-last : goal.decreases-loop-last
decreases-loop-last g l = l.last
