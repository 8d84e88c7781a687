use Rattle.std.proofs.Common.{arith}
use Rattle.std.proofs.lemmas.List.{length-map}
use Rattle.cg_group.proofs.SettledFacts.{settled-has, settled-same, front_of}
use Rattle.cg_group.proofs.configuration_log.ConfigurationLog.received_by.Goals as goal

pub returns-clause-within : goal.returns-clause-within
returns-clause-within g c =
    let front = front_of c.self.inside.ordered.items c.self.inside.fronts.items c.args.p c.from-slot.result c.index.result.now c.self.invariant.1 (omega arith) (omega arith) c.index.ensures in
    rw (← c.self.view_is, length-map) front.within

pub returns-clause-received : goal.returns-clause-received
returns-clause-received g c = λ place pos le.
    let front = front_of c.self.inside.ordered.items c.self.inside.fronts.items c.args.p c.from-slot.result c.index.result.now c.self.invariant.1 (omega arith) (omega arith) c.index.ensures in
    rw (← c.self.view_is) (settled-has c.self.inside.members c.self.inside.ordered.items c.index.result.now c.args.p place front pos le)

pub returns-clause-same : goal.returns-clause-same
returns-clause-same g c = λ place pos le.
    let front = front_of c.self.inside.ordered.items c.self.inside.fronts.items c.args.p c.from-slot.result c.index.result.now c.self.invariant.1 (omega arith) (omega arith) c.index.ensures in
    rw (← c.self.view_is) (settled-same c.self.inside.members c.self.inside.ordered.items c.index.result.now c.args.p place front pos le)
