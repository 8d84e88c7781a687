use Rattle.std.proofs.Common.{◌≡◌, ◌++◌, ◌==◌, ◌∙◌, [], ◌∷◌, length, false, refl, sym, ap, subst, arith, length-append}
use Rattle.std.proofs.lemmas.List.Elements.{All-nil}
use Rattle.std.proofs.lemmas.Result.{err_from_is_err_and}
use Rattle.cg_items.specs.declared.report.Report.{Report}
use Rattle.cg_outcome.specs.Streaming.{EndsLine, HoldsRest, IsUnended}
use Rattle.cg_outcome.specs.Stopping.{Stopped}
use Rattle.cg_outcome.specs.FeedLaws.{line_before, first_unended}
use Rattle.cg_outcome.specs.StageLaws.{GoesThrough-begin, GoesThrough-line, GoesThrough-stop, line-stop, take_up-ends}
use Rattle.cg_outcome.specs.Outcome.{Open, whole_line}
use Rattle.cg_run.specs.Performing.{seen, seen_stage, seen_end}
use Rattle.cg_run.proofs.progress.Run.take_up.Goals as goal

pub loop-piece-init : goal.loop-piece-init
loop-piece-init g c = (GoesThrough-begin c.args.self.now.report (seen_stage c.args.self.now) (c.args.held.now.items ++ c.args.chunk.now) (g.K.Sink.view c.args.output.now) c.requires.stands, c.requires.unended, refl)

pub end_line-requires-clause-few_faults : goal.end_line-requires-clause-few_faults
end_line-requires-clause-few_faults g c = omega (arith, c.loop-piece.invariant.0.put.no_fault, c.requires.few_faults)

pub end_line-requires-clause-stands : goal.end_line-requires-clause-stands
end_line-requires-clause-stands g c = c.loop-piece.invariant.0.stands

pub returns-in_err-end_line-clause-takes : goal.returns-in_err-end_line-clause-takes
returns-in_err-end_line-clause-takes g c =
    let exit = err_from_is_err_and c.from_residual.result c.from_residual.ensures.1 in
    let status = c.in_err-end_line.field-0.0 in
    let r = c.args.self.now in
    let now = c.loop-piece.self in
    let v = g.K.Sink.view c.args.output.now in
    let v1 = g.K.Sink.view c.loop-piece.output in
    let v2 = g.K.Sink.view c.end_line.new.output in
    let held = c.loop-piece.held.items in
    let rest = c.loop-piece.rest.now in
    let stopped = subst (λ (report : Report). Stopped report (whole_line now.line now.at (held ++ c.in-Some.piece.now) (seen now)) v1 v2 status) c.loop-piece.invariant.2 c.in_err-end_line.ensures.ends in
    rw (exit.1, exit.2)
    (GoesThrough-stop r.report (seen_stage r) (seen_stage now) (c.args.held.now.items ++ c.args.chunk.now) (held ++ rest) Open v v1 v2 status c.loop-piece.invariant.0
    (line-stop r.report (seen_stage now) held rest c.in-Some.piece.now c.in-Some.behind.now v1 v2 status c.loop-piece.invariant.1 c.in-Some.ensures stopped))

pub loop-piece-smaller : goal.loop-piece-smaller
loop-piece-smaller g c =
    let rest = c.loop-piece.rest.now in
    let all = line_before rest c.in-Some.piece.now c.in-Some.behind.now c.in-Some.ensures in
    let long : length rest ≡ length (c.in-Some.piece.now ++ 10 ∷ c.in-Some.behind.now) = ap length all in
    omega (arith, long, length-append c.in-Some.piece.now (10 ∷ c.in-Some.behind.now))

pub loop-piece-preserved : goal.loop-piece-preserved
loop-piece-preserved g c =
    let r = c.args.self.now in
    let now = c.loop-piece.self in
    let next = c.end_line.new.self in
    let v1 = g.K.Sink.view c.loop-piece.output in
    let v2 = g.K.Sink.view c.end_line.new.output in
    let held = c.loop-piece.held.items in
    let rest = c.loop-piece.rest.now in
    let ends = subst (λ (report : Report). EndsLine report (seen_stage now) (held ++ c.in-Some.piece.now) v1 v2 c.end_line.new.held.items (seen_stage next)) c.loop-piece.invariant.2 c.in_ok-end_line.ensures.ends in (
      GoesThrough-line r.report (seen_stage r) (seen_stage now) (seen_stage next) (c.args.held.now.items ++ c.args.chunk.now) held rest c.in-Some.piece.now c.in-Some.behind.now c.end_line.new.held.items
          (g.K.Sink.view c.args.output.now) v1 v2 c.loop-piece.invariant.0 c.loop-piece.invariant.1 c.in-Some.ensures ends,
      subst IsUnended (sym ends.empty) (All-nil (λ b. (b == 10) ≡ false)),
      c.end_line.ensures.report ∙ c.loop-piece.invariant.2,
    )

pub hold_rest-requires-clause-few_faults : goal.hold_rest-requires-clause-few_faults
hold_rest-requires-clause-few_faults g c = omega (arith, c.loop-piece.invariant.0.put.no_fault, c.requires.few_faults)

pub hold_rest-requires-clause-stands : goal.hold_rest-requires-clause-stands
hold_rest-requires-clause-stands g c = c.loop-piece.invariant.0.stands

pub hold_rest-requires-clause-unended : goal.hold_rest-requires-clause-unended
hold_rest-requires-clause-unended g c = c.loop-piece.invariant.1

pub hold_rest-requires-clause-unended_rest : goal.hold_rest-requires-clause-unended_rest
hold_rest-requires-clause-unended_rest g c = first_unended c.loop-piece.rest.now c.loop-piece.rest.now [] c.in_default.ensures

pub returns-clause-takes : goal.returns-clause-takes
returns-clause-takes g c =
    let r = c.args.self.now in
    let now = c.loop-piece.self in
    let v1 = g.K.Sink.view c.loop-piece.output in
    let v2 = g.K.Sink.view c.hold_rest.new.output in
    let bytes = c.loop-piece.held.items ++ c.loop-piece.rest.now in
    let held = c.hold_rest.new.held.items in
    let ended = seen_end now c.hold_rest.result in
    take_up-ends r.report (seen_stage r) (seen_stage now) (c.args.held.now.items ++ c.args.chunk.now) bytes held
    (g.K.Sink.view c.args.output.now) v1 v2 ended c.loop-piece.invariant.0
    (subst (λ (report : Report). HoldsRest report (seen_stage now) bytes v1 v2 held ended) c.loop-piece.invariant.2 c.hold_rest.ensures)

pub returns-in_err-end_line-clause-report : goal.returns-in_err-end_line-clause-report
returns-in_err-end_line-clause-report g c = c.end_line.ensures.report ∙ c.loop-piece.invariant.2
