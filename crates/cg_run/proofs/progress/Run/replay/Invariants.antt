use Rattle.std.proofs.Common.{◌≡◌, ◌+◌, ◌-◌, length}
use Rattle.cg_outcome.specs.StreamLaws.{Streams}
use Rattle.cg_run.specs.Performing.{seen_stage}
use Rattle.cg_run.proofs.progress.Run.replay.Given as goal

abbrev pub invariant-loop-status : goal.invariant-loop-status
invariant-loop-status g l =
    Streams l.fn.self.report l.fn.self.companion (g.S.Source.view l.fn.input) (g.S.Source.view l.input) (g.K.Sink.view l.fn.output) (g.K.Sink.view l.output) l.held.items (seen_stage l.self)
    × (l.self.report ≡ l.fn.self.report)

abbrev pub decreases-loop-status : goal.decreases-loop-status
decreases-loop-status g l = 8388609 - (l.self.at + length l.held.items)
