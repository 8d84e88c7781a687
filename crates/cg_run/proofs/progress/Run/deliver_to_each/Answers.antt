use Rattle.std.proofs.Common.{rules, ◌≡◌, ◌∙◌, None}
use Rattle.cg_schedule.specs.declared.event.Event.TheVariants.{Deliver}
use Rattle.std.proofs.lemmas.Result.{err_from_is_err_and}
use Rattle.cg_base.specs.Iterators.{members_left}
use Rattle.cg_outcome.specs.declared.status.Status.TheVariants.{NoMemory}
use Rattle.cg_outcome.specs.Produced.{and_then, one_step}
use Rattle.cg_outcome.specs.Rounds.{deliver_ready, deliveries}
use Rattle.cg_outcome.specs.GoingOnLaws.{GoesOn-part, GoesOn-stop, Stopped-and_then}
use Rattle.cg_run.proofs.GoingOn.{went-at, stopped-at, stopped-now}
use Rattle.cg_run.proofs.Happening.{deliveries-step}
use Rattle.cg_run.specs.Performing.{seen}
use Rattle.cg_run.proofs.progress.Run.deliver_to_each.Goals as goal

pub loop-to-preserved : goal.loop-to-preserved
loop-to-preserved g c =
    let r = c.args.self.now in
    let now = c.loop-to.self in
    let v = g.K.Sink.view c.args.output.now in
    let v1 = g.K.Sink.view c.loop-to.output in
    let v2 = g.K.Sink.view c.take_step.new.output in
    let whole = deliveries r.line c.args.set.now (seen r) in
    let left = members_left c.next.new.self in
    let p = deliver_ready r.line c.in-Some.to (seen now) in
    let more = deliveries r.line left in
    let before = rw (deliveries-step r.line (members_left c.loop-to.to-iterator) c.in-Some.to left (seen now) c.in-Some.ensures.steps) at c.loop-to.invariant.0 in
    let is : p ≡ one_step r.line None (Deliver c.in-Some.to c.ready-count.result) (seen now) = search rules in
    let step = went-at (λ n. one_step n None (Deliver c.in-Some.to c.ready-count.result) (seen now)) v1 v2 c.take_step.new.self c.loop-to.invariant.3 c.in_ok-take_step.ensures.performs in
    let done = rw (← is) at step in (
      GoesOn-part r.report whole p more v v1 v2 (seen c.take_step.new.self) before done.0 done.1 done.2,
      done.2.no_fault ∙ c.loop-to.invariant.1,
      c.in_ok-take_step.ensures.begun,
      c.take_step.ensures.placed ∙ c.loop-to.invariant.3,
    )

pub returns-in_err-take_step-clause-performs : goal.returns-in_err-take_step-clause-performs
returns-in_err-take_step-clause-performs g c =
    let exit = err_from_is_err_and c.from_residual.result c.from_residual.ensures.1 in
    let status = c.in_err-take_step.field-0.0 in
    let r = c.args.self.now in
    let now = c.loop-to.self in
    let v = g.K.Sink.view c.args.output.now in
    let v1 = g.K.Sink.view c.loop-to.output in
    let v2 = g.K.Sink.view c.take_step.new.output in
    let whole = deliveries r.line c.args.set.now (seen r) in
    let left = members_left c.next.new.self in
    let p = deliver_ready r.line c.in-Some.to (seen now) in
    let more = deliveries r.line left in
    let before = rw (deliveries-step r.line (members_left c.loop-to.to-iterator) c.in-Some.to left (seen now) c.in-Some.ensures.steps) at c.loop-to.invariant.0 in
    let is : p ≡ one_step r.line None (Deliver c.in-Some.to c.ready-count.result) (seen now) = search rules in
    let step = stopped-at (λ n. one_step n None (Deliver c.in-Some.to c.ready-count.result) (seen now)) v1 v2 status c.loop-to.invariant.3 c.in_err-take_step.ensures.performs in
    let ended = rw (← is) at step in
    rw (exit.1, exit.2) (GoesOn-stop r.report whole (and_then p more) v v1 v2 status before
    (Stopped-and_then r.report p more v1 v2 status ended))

pub returns-in_default-clause-performs : goal.returns-in_default-clause-performs
returns-in_default-clause-performs g c =
    let r = c.args.self.now in
    let v1 = g.K.Sink.view c.loop-to.output in
    let rest = deliveries r.line (members_left c.loop-to.to-iterator) (seen c.loop-to.self) in
    GoesOn-stop r.report (deliveries r.line c.args.set.now (seen r)) rest (g.K.Sink.view c.args.output.now) v1 v1 NoMemory c.loop-to.invariant.0 (stopped-now r.report rest v1)

pub returns-in_err-take_step-clause-placed : goal.returns-in_err-take_step-clause-placed
returns-in_err-take_step-clause-placed g c = c.take_step.ensures.placed ∙ c.loop-to.invariant.3
