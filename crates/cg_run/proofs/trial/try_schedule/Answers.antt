use Rattle.std.proofs.Common.{◌+◌, ◌∙◌, [], ◌∷◌, refl, ap, subst}
use Rattle.cg_gen.specs.Generated.{generated}
use Rattle.cg_gen.specs.GeneratedLaws.{generated-length}
use Rattle.cg_items.specs.declared.companion.Companion.TheVariants.{Alone}
use Rattle.cg_items.specs.declared.report.Report.{Report}
use Rattle.cg_outcome.specs.declared.status.Status.TheVariants.{NoMemory}
use Rattle.cg_outcome.specs.Outcome.{line_outcome, performed, without_return}
use Rattle.cg_outcome.specs.Stopping.{Stopped}
use Rattle.cg_schedule.specs.Print.{line_of}
use Rattle.cg_outcome.specs.Produced.{before_all}
use Rattle.cg_outcome.specs.Streaming.{Stage}
use Rattle.cg_outcome.specs.AskedLaws.{before_under_way}
use Rattle.cg_outcome.specs.TrialLaws.{Plays-begin, Plays-ended, Plays-line, Plays-next, next-some, next-none, Plays-nothing, Plays-stop}
use Rattle.cg_run.specs.Performing.{Place, Went, seen}
use Rattle.cg_run.proofs.trial.try_schedule.Goals as goal

pub loop-event-init : goal.loop-event-init
loop-event-init g c = (
  rw (c.in-Ok.ensures, c.known.ensures, ap (λ (st : Stage). st.progress) c.in-Ok-new.ensures.first) (Plays-begin c.args.lines (generated c.args.seed c.args.replicas c.args.lines) (g.K.Sink.view c.args.output.now) (before_all Alone)
      (generated-length c.args.seed c.args.replicas c.args.lines) (before_under_way Alone)),
  c.in-Ok-new.ensures.report,
)

pub returns-in-Err-play_event : goal.returns-in-Err-play_event
returns-in-Err-play_event g c =
    let whole = performed 0 (generated c.args.seed c.args.replicas c.args.lines) (before_all Alone) in
    let v = g.K.Sink.view c.args.output.now in
    let v1 = g.K.Sink.view c.loop-event.output in
    let v2 = g.K.Sink.view c.play_event.new.output in
    let gone = c.loop-event.gone in
    let s = seen c.loop-event.run in
    let p = line_outcome (gone + 1) (without_return (line_of c.in-Ok-Some.event)) s in
    let all = Plays-next whole v v1 c.args.lines gone c.loop-event.events (c.in-Ok-Some.event ∷ c.next.new.self) s
    (next-some c.loop-event.events c.next.new.self c.in-Ok-Some.field-0 c.in-Ok-Some.event c.in-Ok-Some.ensures.ok c.in-Ok-Some.field-0-is) c.loop-event.invariant.0 in
    Plays-ended whole v v1 v2 c.args.lines gone c.in-Ok-Some.event c.next.new.self s c.in-Err-play_event.status all (subst (λ (report : Report). Stopped report p v1 v2 c.in-Err-play_event.status) c.loop-event.invariant.1 c.in-Err-play_event.ensures.performs)

pub loop-event-preserved : goal.loop-event-preserved
loop-event-preserved g c =
    let whole = performed 0 (generated c.args.seed c.args.replicas c.args.lines) (before_all Alone) in
    let v = g.K.Sink.view c.args.output.now in
    let v1 = g.K.Sink.view c.loop-event.output in
    let v2 = g.K.Sink.view c.play_event.new.output in
    let gone = c.loop-event.gone in
    let s = seen c.loop-event.run in
    let p = line_outcome (gone + 1) (without_return (line_of c.in-Ok-Some.event)) s in
    let all = Plays-next whole v v1 c.args.lines gone c.loop-event.events (c.in-Ok-Some.event ∷ c.next.new.self) s
    (next-some c.loop-event.events c.next.new.self c.in-Ok-Some.field-0 c.in-Ok-Some.event c.in-Ok-Some.ensures.ok c.in-Ok-Some.field-0-is) c.loop-event.invariant.0 in
    let next = c.play_event.new.self in
    let done = subst (λ (report : Report). Went report p v1 v2 next) c.loop-event.invariant.1 c.in-Ok-play_event.ensures.performs in (
      Plays-line whole v v1 v2 c.args.lines gone c.in-Ok-Some.event c.next.new.self s (seen next) all done.0 done.1 done.2 c.in-Ok-play_event.ensures.under_way,
      ap (λ (at : Place). at.report) c.play_event.ensures.placed ∙ c.loop-event.invariant.1,
    )

pub returns-in-Ok-None : goal.returns-in-Ok-None
returns-in-Ok-None g c =
    let whole = performed 0 (generated c.args.seed c.args.replicas c.args.lines) (before_all Alone) in
    let v = g.K.Sink.view c.args.output.now in
    let v1 = g.K.Sink.view c.loop-event.output in
    let gone = c.loop-event.gone in
    let s = seen c.loop-event.run in
    let all = Plays-next whole v v1 c.args.lines gone c.loop-event.events [] s
    (next-none c.loop-event.events c.next.new.self c.in-Ok-None.field-0 c.in-Ok-None.ensures.ok c.in-Ok-None.field-0-is) c.loop-event.invariant.0 in
    Plays-stop whole v v1 (g.K.Sink.view c.end_trial.new.output) c.args.lines gone [] s c.end_trial.result all c.end_trial.ensures

pub returns-in-Err : goal.returns-in-Err
returns-in-Err g c =
    let whole = performed 0 (generated c.args.seed c.args.replicas c.args.lines) (before_all Alone) in
    Plays-nothing whole (g.K.Sink.view c.args.output.now) (g.K.Sink.view c.loop-event.output) c.args.lines c.loop-event.gone c.loop-event.events (seen c.loop-event.run) NoMemory
    c.loop-event.invariant.0 refl
