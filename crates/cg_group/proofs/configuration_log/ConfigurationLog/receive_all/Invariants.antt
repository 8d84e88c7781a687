use Rattle.std.proofs.Common.{◌≡◌, fold}
use Rattle.cg_base.specs.Lists.{above_up_to}
use Rattle.cg_group.specs.Events.{with_receipt}
use Rattle.cg_group.proofs.configuration_log.ConfigurationLog.receive_all.Given as goal

abbrev pub invariant-loop-place : goal.invariant-loop-place
invariant-loop-place g l =
    (fold (λ c place. with_receipt c l.p place) l.self.configuration (above_up_to l.place l.len)
    ≡ fold (λ c place. with_receipt c l.p place) l.initial.self.configuration (above_up_to 0 l.len))
    × (l.self.room ≡ l.initial.self.room)
