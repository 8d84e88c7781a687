use Rattle.cg_outcome.specs.CompleteLaws.{Runs-complete}
use Rattle.cg_outcome.specs.Commands.{command_of}
use Rattle.cg_run.proofs.running.run.Goals as goal

pub returns-clause-completes : goal.returns-clause-completes
returns-clause-completes g c =
    Runs-complete (command_of c.args.words.now) (g.S.Source.view c.args.input.now) (g.S.Source.view c.run_command.new.input) (g.K.Sink.view c.args.output.now) (g.K.Sink.view c.run_command.new.output)
    c.run_command.result c.run_command.ensures.ran
