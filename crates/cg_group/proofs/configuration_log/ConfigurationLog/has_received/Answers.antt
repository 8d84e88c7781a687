use Rattle.std.proofs.Common.{refl}
use Rattle.cg_group.proofs.LogFacts.{has_received-at}
use Rattle.cg_group.proofs.configuration_log.ConfigurationLog.has_received.Goals as goal

pub returns-in-Some : goal.returns-in-Some
returns-in-Some g c =
    rw (← c.self.view_is, has_received-at c.self.inside.members c.self.inside.ordered.items c.args.p c.args.place, ← c.as_slice.ensures.value, ← c.at_place.ensures, c.in-Some.is) c.contains.ensures

pub returns-in-None : goal.returns-in-None
returns-in-None g c =
    rw (← c.self.view_is, has_received-at c.self.inside.members c.self.inside.ordered.items c.args.p c.args.place, ← c.as_slice.ensures.value, ← c.at_place.ensures, c.in-None.is) refl
