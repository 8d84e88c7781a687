use Rattle.std.proofs.Common.{◌≡◌, ◌-◌, find}
use Rattle.cg_base.specs.Lists.{above_up_to}
use Rattle.cg_group.specs.Refusals.{is_missing}
use Rattle.cg_group.proofs.configuration_log.ConfigurationLog.first_missing.Given as goal

abbrev pub invariant-loop-before : goal.invariant-loop-before
invariant-loop-before g l =
    find (is_missing l.self.configuration l.p l.place) (above_up_to l.before (l.place - 1))
    ≡ find (is_missing l.self.configuration l.p l.place) (above_up_to 0 (l.place - 1))
