use Rattle.std.proofs.Common.{◌≡◌, ◌≤◌, ◌+◌, ◌-◌}
use Rattle.std.specs.List.{prefix_len}
use Rattle.cg_base.specs.Lists.{above_up_to}
use Rattle.cg_group.specs.Ready.{all_received}
use Rattle.cg_group.proofs.configuration_log.ConfigurationLog.ready.Given as goal

abbrev pub invariant-loop-place : goal.invariant-loop-place
invariant-loop-place g l =
    (l.delivered ≤ l.place)
    × (prefix_len (all_received l.self.configuration) (above_up_to l.place l.len) + (l.place - l.delivered)
    ≡ prefix_len (all_received l.self.configuration) (above_up_to l.delivered l.len))

abbrev pub decreases-loop-place : goal.decreases-loop-place
decreases-loop-place g l = l.len - l.place
