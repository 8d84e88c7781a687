use Rattle.std.proofs.Common.{◌≡◌}
use Rattle.std.specs.List.{list_any}
use Rattle.cg_base.specs.Iterators.{members_left}
use Rattle.cg_group.specs.State.{has_received}
use Rattle.cg_group.proofs.configuration_log.ConfigurationLog.is_received_by_any.Given as goal

abbrev pub invariant-loop-q : goal.invariant-loop-q
invariant-loop-q g l =
    list_any (λ q. has_received l.self.configuration q l.place) (members_left l.q-iterator) ≡ list_any (λ q. has_received l.self.configuration q l.place) l.set
