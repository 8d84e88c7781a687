use Rattle.std.proofs.Common.{◌≡◌, ◌++◌}
use Rattle.cg_base.specs.Lists.{above_up_to}
use Rattle.cg_group.specs.Events.{deliveries_at}
use Rattle.cg_group.proofs.configuration_log.ConfigurationLog.put_deliveries.Given as goal

-- what is put so far and what is still to be put are all
abbrev pub invariant-loop-place : goal.invariant-loop-place
invariant-loop-place g l =
    l.out.items ++ deliveries_at l.self.configuration (above_up_to l.place l.to)
    ≡ l.initial.out.items ++ deliveries_at l.self.configuration (above_up_to l.fn.from l.to)
