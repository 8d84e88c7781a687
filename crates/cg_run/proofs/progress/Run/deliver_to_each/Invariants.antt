use Rattle.std.proofs.Common.{◌≡◌}
use Rattle.cg_base.specs.Iterators.{members_left}
use Rattle.cg_outcome.specs.Rounds.{deliveries}
use Rattle.cg_outcome.specs.UnderWay.{HasBegun}
use Rattle.cg_run.specs.Performing.{place, seen}
use Rattle.cg_run.proofs.progress.Run.deliver_to_each.Given as goal
use Rattle.cg_outcome.specs.Stopping.{GoesOn}

abbrev pub invariant-loop-to : goal.invariant-loop-to
invariant-loop-to g l =
    GoesOn l.fn.self.report (deliveries l.fn.self.line l.set (seen l.fn.self)) (g.K.Sink.view l.fn.output) (g.K.Sink.view l.output) (deliveries l.fn.self.line (members_left l.to-iterator) (seen l.self))
    × ((g.K.Sink.view l.output).faults ≡ (g.K.Sink.view l.fn.output).faults) × HasBegun (seen l.self) × (place l.self ≡ place l.fn.self)
