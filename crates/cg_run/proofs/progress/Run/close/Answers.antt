use Rattle.std.proofs.Common.{◌≡◌, ◌-◌, ◌<◌, length, Err, sym, ap, subst, rules, ◌∙◌}
use Rattle.cg_outcome.specs.Outcome.{Ended, at_end, line_outcome}
use Rattle.cg_outcome.specs.Produced.{Progress, Produced}
use Rattle.cg_outcome.specs.GoingOnLaws.{Stopped-and_then, and_then-none}
use Rattle.cg_outcome.specs.SparedLaws.{IsInLine-line, Undone-in_line}
use Rattle.cg_outcome.specs.StageLaws.{at_end-stays}
use Rattle.cg_outcome.specs.StreamLaws.{undone-leaves}
use Rattle.cg_outcome.specs.Stopping.{Leaves, Stopped}
use Rattle.cg_run.proofs.Closing.{held-nothing, held-line, leaves-there}
use Rattle.cg_run.proofs.GoingOn.{Performs-and_then, stopped-at}
use Rattle.cg_run.specs.Performing.{left_of, seen, seen_stage}
use Rattle.cg_run.proofs.progress.Run.close.Goals as goal

pub returns-then-is_empty-clause-stopped : goal.returns-then-is_empty-clause-stopped
returns-then-is_empty-clause-stopped g c =
    let r = c.args.self.now in
    let none : length c.args.rest.now ≡ 0 = search rules in
    subst (λ p. Stopped r.report p (g.K.Sink.view c.args.output.now) (g.K.Sink.view c.end_input.new.output) c.end_input.result)
    (sym (held-nothing (seen_stage r) c.args.rest.now c.requires.held none)) c.end_input.ensures

pub returns-then-is_empty-clause-left : goal.returns-then-is_empty-clause-left
returns-then-is_empty-clause-left g c =
    let r = c.args.self.now in
    let none : length c.args.rest.now ≡ 0 = search rules in
    let behind = ap (λ (p : Produced). p.progress) (held-nothing (seen_stage r) c.args.rest.now c.requires.held none) ∙ at_end-stays (r.line - 1) (seen r) in
    subst (λ (s : Progress). Leaves c.end_input.result r.report s.world (left_of r)) (sym behind) (leaves-there c.end_input.result r.report (seen r).world)

pub returns-in-Ok-clause-stopped : goal.returns-in-Ok-clause-stopped
returns-in-Ok-clause-stopped g c =
    let r = c.args.self.now in
    let next = c.begin_line.new.self in
    let v = g.K.Sink.view c.args.output.now in
    let v1 = g.K.Sink.view c.begin_line.new.output in
    let v2 = g.K.Sink.view c.end_input-in-Ok.new.output in
    let some : 0 < length c.args.rest.now = search rules in
    let done = c.in-Ok.ensures.performs in
    let ended = stopped-at (λ n. at_end n Ended (seen next)) v1 v2 c.end_input-in-Ok.result c.begin_line.ensures.placed c.end_input-in-Ok.ensures in
    subst (λ p. Stopped r.report p v v2 c.end_input-in-Ok.result) (sym (held-line (seen_stage r) c.args.rest.now c.requires.held some))
    (Performs-and_then r.report (line_outcome r.line c.args.rest.now (seen r)) (at_end r.line Ended) v v1 v2 (seen next) next {T = Unit {0}} (Err c.end_input-in-Ok.result) done.0 done.1 done.2 ended)

pub returns-in-Ok-clause-left : goal.returns-in-Ok-clause-left
returns-in-Ok-clause-left g c =
    let r = c.args.self.now in
    let next = c.begin_line.new.self in
    let p = line_outcome r.line c.args.rest.now (seen r) in
    let some : 0 < length c.args.rest.now = search rules in
    let done = c.in-Ok.ensures.performs in
    let behind = ap (λ (q : Produced). q.progress) (held-line (seen_stage r) c.args.rest.now c.requires.held some ∙ and_then-none p (at_end r.line Ended) done.0) ∙ at_end-stays r.line p.progress ∙ sym done.1 in
    subst (λ (s : Progress). Leaves c.end_input-in-Ok.result r.report s.world (left_of next)) (sym behind) (leaves-there c.end_input-in-Ok.result r.report (seen next).world)

pub returns-in-Err-clause-stopped : goal.returns-in-Err-clause-stopped
returns-in-Err-clause-stopped g c =
    let r = c.args.self.now in
    let v = g.K.Sink.view c.args.output.now in
    let v1 = g.K.Sink.view c.begin_line.new.output in
    let some : 0 < length c.args.rest.now = search rules in
    subst (λ p. Stopped r.report p v v1 c.in-Err.status) (sym (held-line (seen_stage r) c.args.rest.now c.requires.held some))
    (Stopped-and_then r.report (line_outcome r.line c.args.rest.now (seen r)) (at_end r.line Ended) v v1 c.in-Err.status c.in-Err.ensures.performs)

pub returns-in-Err-clause-left : goal.returns-in-Err-clause-left
returns-in-Err-clause-left g c =
    let r = c.args.self.now in
    let s = seen r in
    let text = c.args.rest.now in
    undone-leaves r.report (line_outcome r.line text s) (g.K.Sink.view c.args.output.now) (g.K.Sink.view c.begin_line.new.output) c.in-Err.status _ (left_of c.begin_line.new.self)
    (Undone-in_line r.line (line_outcome r.line text s) (IsInLine-line r.line text s)) c.in-Err.ensures.performs
