use Rattle.std.proofs.Common.{Some, sym, subst}
use Rattle.cg_outcome.specs.GoingOnLaws.{end-undone}
use Rattle.cg_outcome.specs.Putting.{StopsWith}
use Rattle.cg_run.proofs.GoingOn.{undone}
use Rattle.cg_run.specs.Performing.{seen}
use Rattle.cg_run.proofs.progress.Run.end.Goals as goal

pub returns-in_default : goal.returns-in_default
returns-in_default g c =
    let r = c.args.self.now in
    let st = c.args.status in (
      subst (λ text. StopsWith text (Some st) (g.K.Sink.view c.args.output.now) (g.K.Sink.view c.finish.new.output) c.finish.result)
          (sym (end-undone r.report st c.args.lines (seen r) (undone st c.in_default.not-Done))) c.finish.ensures,
      λ finding. tt,
    )
