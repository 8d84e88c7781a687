use Rattle.std.proofs.Common.{◌≡◌, length}
use Rattle.cg_gen.specs.Generated.{generated}
use Rattle.cg_items.specs.declared.companion.Companion.TheVariants.{Alone}
use Rattle.cg_items.specs.declared.report.Report.TheVariants.{Tail}
use Rattle.cg_outcome.specs.Outcome.{performed}
use Rattle.cg_outcome.specs.Produced.{before_all}
use Rattle.cg_outcome.specs.TrialLaws.{Plays}
use Rattle.cg_run.specs.Performing.{seen}
use Rattle.cg_run.proofs.trial.try_schedule.Given as goal

abbrev pub invariant-loop-event : goal.invariant-loop-event
invariant-loop-event g l =
    Plays (performed 0 (generated l.seed l.replicas l.lines) (before_all Alone)) (g.K.Sink.view l.fn.output) (g.K.Sink.view l.output) l.lines l.gone l.events (seen l.run)
    × (l.run.report ≡ Tail)

abbrev pub decreases-loop-event : goal.decreases-loop-event
decreases-loop-event g l = length l.events
