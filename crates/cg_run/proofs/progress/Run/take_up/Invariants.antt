use Rattle.std.proofs.Common.{◌≡◌, ◌++◌, length}
use Rattle.cg_outcome.specs.Streaming.{IsUnended, GoesThrough}
use Rattle.cg_run.specs.Performing.{seen_stage}
use Rattle.cg_run.proofs.progress.Run.take_up.Given as goal

abbrev pub invariant-loop-piece : goal.invariant-loop-piece
invariant-loop-piece g l =
    GoesThrough l.fn.self.report (seen_stage l.fn.self) (l.fn.held.items ++ l.chunk) (g.K.Sink.view l.fn.output) (g.K.Sink.view l.output) (l.held.items ++ l.rest) (seen_stage l.self)
    × IsUnended l.held.items × (l.self.report ≡ l.fn.self.report)

abbrev pub decreases-loop-piece : goal.decreases-loop-piece
decreases-loop-piece g l = length l.rest
