use Rattle.std.proofs.Common.{None}
use Rattle.cg_run.specs.Performing.{left_of}
use Rattle.cg_run.proofs.Replaying.{Replays-nothing, begins, replayed-as}
use Rattle.cg_run.proofs.streaming.replay_alone.Goals as goal

pub replay-status-requires-clause-first : goal.replay-status-requires-clause-first
replay-status-requires-clause-first g c = begins c.in-Ok.run' c.args.companion c.in-Ok.ensures.first

pub returns-in_default : goal.returns-in_default
returns-in_default g c = (None, Replays-nothing c.args.report c.args.companion (g.S.Source.view c.args.input.now) (g.K.Sink.view c.args.output.now) None)

pub returns : goal.returns
returns g c =
    let left = left_of c.replay-status.new.self in (
      left,
      replayed-as c.in-Ok.run' c.args.report c.args.companion (g.S.Source.view c.args.input.now) (g.S.Source.view c.replay-status.new.input) (g.K.Sink.view c.args.output.now) (g.K.Sink.view c.replay-status.new.output)
          left c.replay-status.result c.in-Ok.ensures.first c.in-Ok.ensures.report c.replay-status.ensures,
    )
