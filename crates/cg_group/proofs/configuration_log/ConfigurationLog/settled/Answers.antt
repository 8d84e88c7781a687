use Rattle.cg_group.proofs.SettledFacts.{settled-all_received}
use Rattle.cg_group.proofs.configuration_log.ConfigurationLog.settled.Goals as goal

pub returns-clause-received : goal.returns-clause-received
returns-clause-received g c = λ place pos le.
    rw (← c.self.view_is) (settled-all_received c.self.inside.members c.self.inside.ordered.items c.self.inside.settled place c.self.invariant.0 pos le)
