use Rattle.std.proofs.Common.{◌∙◌, ℕ, List, Ok, Err, refl, sym, subst, arith}
use Rattle.cg_items.specs.declared.report.Report.{Report}
use Rattle.cg_outcome.specs.Streaming.{BetweenTakes, Stage, TakesTurn, first_stage}
use Rattle.cg_outcome.specs.StreamLaws.{Streams, Streams-begin, Streams-turn, Streams-stop, turn-smaller}
use Rattle.cg_run.specs.Performing.{left_of, seen_stage}
use Rattle.cg_run.proofs.progress.Run.replay.Goals as goal

pub loop-status-init : goal.loop-status-init
loop-status-init g c =
    let r = c.args.self.now in
    let old = g.S.Source.view c.args.input.now in
    let v = g.K.Sink.view c.args.output.now in
    let begun = subst (λ (held : List ℕ). Streams r.report r.companion old old v v held (first_stage r.companion)) (sym c.new-held.ensures.items) (Streams-begin r.report r.companion old v) in
    (subst (λ (st : Stage). Streams r.report r.companion old old v v c.new-held.result.items st) (sym c.requires.first) begun, refl)

pub make_turn-requires-clause-few_read_faults : goal.make_turn-requires-clause-few_read_faults
make_turn-requires-clause-few_read_faults g c = omega (arith, c.loop-status.invariant.0.no_fault, c.requires.few_read_faults)

pub make_turn-requires-clause-few_write_faults : goal.make_turn-requires-clause-few_write_faults
make_turn-requires-clause-few_write_faults g c = omega (arith, c.loop-status.invariant.0.put.no_fault, c.requires.few_write_faults)

pub make_turn-requires-clause-stands : goal.make_turn-requires-clause-stands
make_turn-requires-clause-stands g c = c.loop-status.invariant.0.stands

pub make_turn-requires-clause-held : goal.make_turn-requires-clause-held
make_turn-requires-clause-held g c = c.loop-status.invariant.0.is_held

pub loop-status-smaller : goal.loop-status-smaller
loop-status-smaller g c =
    let r = c.args.self.now in
    let now = c.loop-status.self in
    let next = c.make_turn.new.self in
    let before : BetweenTakes = record { input = g.S.Source.view c.loop-status.input; output = g.K.Sink.view c.loop-status.output; held = c.loop-status.held.items } in
    let after : BetweenTakes = record { input = g.S.Source.view c.make_turn.new.input; output = g.K.Sink.view c.make_turn.new.output; held = c.make_turn.new.held.items } in
    turn-smaller r.report r.companion (g.S.Source.view c.args.input.now) (g.K.Sink.view c.args.output.now) before after (left_of next) (seen_stage now) c.loop-status.invariant.0 (seen_stage next)
    (subst (λ (report : Report). TakesTurn report (seen_stage now) before after (left_of next) (Ok (seen_stage next))) c.loop-status.invariant.1 c.in-Ok.ensures.takes)

pub loop-status-preserved : goal.loop-status-preserved
loop-status-preserved g c =
    let r = c.args.self.now in
    let now = c.loop-status.self in
    let next = c.make_turn.new.self in
    let before : BetweenTakes = record { input = g.S.Source.view c.loop-status.input; output = g.K.Sink.view c.loop-status.output; held = c.loop-status.held.items } in
    let after : BetweenTakes = record { input = g.S.Source.view c.make_turn.new.input; output = g.K.Sink.view c.make_turn.new.output; held = c.make_turn.new.held.items } in (
      Streams-turn r.report r.companion (g.S.Source.view c.args.input.now) (g.K.Sink.view c.args.output.now) before after (left_of next) (seen_stage now) c.loop-status.invariant.0 (seen_stage next)
          (subst (λ (report : Report). TakesTurn report (seen_stage now) before after (left_of next) (Ok (seen_stage next))) c.loop-status.invariant.1 c.in-Ok.ensures.takes),
      c.make_turn.ensures.report ∙ c.loop-status.invariant.1,
    )

pub returns-in-Err : goal.returns-in-Err
returns-in-Err g c =
    let r = c.args.self.now in
    let now = c.loop-status.self in
    let next = c.make_turn.new.self in
    let before : BetweenTakes = record { input = g.S.Source.view c.loop-status.input; output = g.K.Sink.view c.loop-status.output; held = c.loop-status.held.items } in
    let after : BetweenTakes = record { input = g.S.Source.view c.make_turn.new.input; output = g.K.Sink.view c.make_turn.new.output; held = c.make_turn.new.held.items } in
    Streams-stop r.report r.companion (g.S.Source.view c.args.input.now) (g.K.Sink.view c.args.output.now) before after (left_of next) (seen_stage now) c.loop-status.invariant.0 c.in-Err.status
    (subst (λ (report : Report). TakesTurn report (seen_stage now) before after (left_of next) (Err c.in-Err.status)) c.loop-status.invariant.1 c.in-Err.ensures.takes)
