use Rattle.std.proofs.Common.{ℕ, ◌+◌, ◌≤◌, ◌++◌, length, sym, ap, subst, ◌∙◌, take, rules}
use Rattle.std.proofs.lemmas.List.{take-append-le}
use Rattle.std.specs.Io.KnownBytes.{Consumes}
use Rattle.cg_outcome.specs.Outcome.{Ended, Failed}
use Rattle.cg_outcome.specs.Streaming.{from_stage, TakesUp, BetweenTakes}
use Rattle.cg_outcome.specs.StageLaws.{from-held, last-failed}
use Rattle.cg_outcome.specs.StreamLaws.{turn-goes, turn-ended, turn-failed}
use Rattle.cg_run.specs.Performing.{Place, left_of, seen_stage, seen_end}
use Rattle.cg_run.proofs.progress.Run.make_turn.Goals as goal
use Rattle.cg_outcome.specs.Stopping.{Leaves, Stopped}

pub returns-in-Err-clause-takes : goal.returns-in-Err-clause-takes
returns-in-Err-clause-takes g c =
    let r = c.args.self.now in
    let st = seen_stage r in
    let held = c.args.held.now.items in
    let v = g.K.Sink.view c.args.output.now in
    let v1 = g.K.Sink.view c.end.new.output in
    let before : BetweenTakes = record { input = g.S.Source.view c.args.input.now; output = v; held = held } in
    let after : BetweenTakes = record { input = g.S.Source.view c.take.new.self; output = v1; held = held } in
    turn-failed r.report st before after (left_of r) c.end.result c.requires.stands c.requires.held c.in-Err.ensures.bytes c.in-Err.ensures.cause
    (subst (λ p. Stopped r.report p v v1 c.end.result) (sym (from-held st held Failed c.requires.held.unended ∙ last-failed st.line st.at held st.progress c.requires.held.unpassed)) c.end.ensures)

pub returns-in-Ok-eq0-clause-takes : goal.returns-in-Ok-eq0-clause-takes
returns-in-Ok-eq0-clause-takes g c =
    let r = c.args.self.now in
    let left = left_of c.close.new.self in
    let v = g.K.Sink.view c.args.output.now in
    let v1 = g.K.Sink.view c.close.new.output in
    let old = g.S.Source.view c.args.input.now in
    let new = g.S.Source.view c.take.new.self in
    let before : BetweenTakes = record { input = old; output = v; held = c.args.held.now.items } in
    let after : BetweenTakes = record { input = new; output = v1; held = c.args.held.now.items } in
    let took = c.in-Ok-eq0.ensures in
    turn-ended r.report (seen_stage r) Ended before after left c.close.result c.requires.stands c.requires.held
    (subst (λ (n : ℕ). Consumes old.left new.left (take n c.take.new.buf)) c.in-Ok-eq0.field-0-test took.bytes.1) (took.bytes.2 c.in-Ok-eq0.field-0-test, took.cause) (λ e. absurd cc)
    (subst (λ held. Stopped r.report (from_stage (seen_stage r) held Ended) v v1 c.close.result) c.as_slice.ensures.value c.close.ensures.stopped)
    (subst (λ held. Leaves c.close.result r.report (from_stage (seen_stage r) held Ended).progress.world left) c.as_slice.ensures.value c.close.ensures.left)

pub returns-in-Ok-clause-takes : goal.returns-in-Ok-clause-takes
returns-in-Ok-clause-takes g c =
    let r = c.args.self.now in
    let next = c.take_up.new.self in
    let v = g.K.Sink.view c.args.output.now in
    let v1 = g.K.Sink.view c.take_up.new.output in
    let before : BetweenTakes = record { input = g.S.Source.view c.args.input.now; output = v; held = c.args.held.now.items } in
    let after : BetweenTakes = record { input = g.S.Source.view c.take.new.self; output = v1; held = c.take_up.new.held.items } in
    let took = c.in-Ok.ensures in
    let within : r.at + length c.args.held.now.items + length (take c.in-Ok.count c.take.new.buf) ≤ 8388609 = search rules in
    turn-goes r.report (seen_stage r) before after (left_of next) (seen_end next c.take_up.result) (take c.in-Ok.count c.take.new.buf) took.bytes.1 took.cause (search rules) (search rules) within
    (subst (λ bytes. TakesUp r.report (seen_stage r) (c.args.held.now.items ++ bytes) v v1 c.take_up.new.held.items (seen_end next c.take_up.result))
    (take-append-le c.in-Ok.count c.take.new.buf _ took.bytes.0) c.take_up.ensures.takes)

pub returns-in-Ok-eq0-clause-report : goal.returns-in-Ok-eq0-clause-report
returns-in-Ok-eq0-clause-report g c = ap (λ (p : Place). p.report) c.close.ensures.placed
