use Rattle.std.proofs.Common.{◌+◌, ◌-◌, ◌∙◌, arith}
use Rattle.std.proofs.lemmas.Result.{err_from_is_err_and}
use Rattle.cg_outcome.specs.Produced.{and_then}
use Rattle.cg_outcome.specs.Rounds.{passes, one_pass}
use Rattle.cg_outcome.specs.GoingOnLaws.{GoesOn-part, GoesOn-stop, Stopped-and_then}
use Rattle.cg_run.proofs.GoingOn.{went-at, stopped-at}
use Rattle.cg_run.proofs.Happening.{passes-step}
use Rattle.cg_run.specs.Performing.{seen}
use Rattle.cg_run.proofs.progress.Run.make_passes.Goals as goal

pub loop-made-preserved : goal.loop-made-preserved
loop-made-preserved g c =
    let r = c.args.self.now in
    let now = c.loop-made.self in
    let v = g.K.Sink.view c.args.output.now in
    let v1 = g.K.Sink.view c.loop-made.output in
    let v2 = g.K.Sink.view c.make_pass.new.output in
    let whole = passes r.line c.args.count (seen r) in
    let more = passes r.line (c.args.count - (c.loop-made.made + 1)) in
    let before = rw (passes-step r.line c.args.count c.loop-made.made (seen now) (omega arith)) at c.loop-made.invariant.0 in
    let done = went-at (λ n. one_pass n (seen now)) v1 v2 c.make_pass.new.self c.loop-made.invariant.3 c.in_ok-make_pass.ensures.performs in (
      GoesOn-part r.report whole (one_pass r.line (seen now)) more v v1 v2 (seen c.make_pass.new.self) before done.0 done.1 done.2,
      done.2.no_fault ∙ c.loop-made.invariant.1,
      c.in_ok-make_pass.ensures.begun,
      c.make_pass.ensures.placed ∙ c.loop-made.invariant.3,
    )

pub returns-in_err-make_pass-clause-performs : goal.returns-in_err-make_pass-clause-performs
returns-in_err-make_pass-clause-performs g c =
    let exit = err_from_is_err_and c.from_residual.result c.from_residual.ensures.1 in
    let status = c.in_err-make_pass.field-0.0 in
    let r = c.args.self.now in
    let now = c.loop-made.self in
    let v = g.K.Sink.view c.args.output.now in
    let v1 = g.K.Sink.view c.loop-made.output in
    let v2 = g.K.Sink.view c.make_pass.new.output in
    let whole = passes r.line c.args.count (seen r) in
    let p = one_pass r.line (seen now) in
    let more = passes r.line (c.args.count - (c.loop-made.made + 1)) in
    let before = rw (passes-step r.line c.args.count c.loop-made.made (seen now) (omega arith)) at c.loop-made.invariant.0 in
    let ended = stopped-at (λ n. one_pass n (seen now)) v1 v2 status c.loop-made.invariant.3 c.in_err-make_pass.ensures.performs in
    rw (exit.1, exit.2) (GoesOn-stop r.report whole (and_then p more) v v1 v2 status before (Stopped-and_then r.report p more v1 v2 status ended))

pub returns-in_err-make_pass-clause-placed : goal.returns-in_err-make_pass-clause-placed
returns-in_err-make_pass-clause-placed g c = c.make_pass.ensures.placed ∙ c.loop-made.invariant.3
