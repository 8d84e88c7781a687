use Rattle.std.proofs.Common.{◌≡◌, ◌++◌, filter}
use Rattle.std.specs.List.{list_any}
use Rattle.cg_base.specs.Lists.{above_up_to}
use Rattle.cg_group.specs.State.{has_received}
use Rattle.cg_group.specs.Events.{deliveries_at}
use Rattle.cg_group.proofs.configuration_log.ConfigurationLog.put_later.Given as goal

abbrev pub invariant-loop-place : goal.invariant-loop-place
invariant-loop-place g l =
    l.out.items ++ deliveries_at l.self.configuration (filter (λ place. list_any (λ q. has_received l.self.configuration q place) l.set) (above_up_to l.place l.len))
    ≡ l.initial.out.items ++ deliveries_at l.self.configuration (filter (λ place. list_any (λ q. has_received l.self.configuration q place) l.set) (above_up_to l.fn.first l.len))
