use Rattle.std.proofs.Common.{◌≡◌, ◌-◌}
use Rattle.cg_outcome.specs.Rounds.{passes}
use Rattle.cg_outcome.specs.UnderWay.{HasBegun}
use Rattle.cg_run.specs.Performing.{place, seen}
use Rattle.cg_run.proofs.progress.Run.make_passes.Given as goal
use Rattle.cg_outcome.specs.Stopping.{GoesOn}

abbrev pub invariant-loop-made : goal.invariant-loop-made
invariant-loop-made g l =
    GoesOn l.fn.self.report (passes l.fn.self.line l.count (seen l.fn.self)) (g.K.Sink.view l.fn.output) (g.K.Sink.view l.output) (passes l.fn.self.line (l.count - l.made) (seen l.self))
    × ((g.K.Sink.view l.output).faults ≡ (g.K.Sink.view l.fn.output).faults) × HasBegun (seen l.self) × (place l.self ≡ place l.fn.self)
