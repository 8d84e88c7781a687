use Rattle.std.proofs.Common.{◌≡◌, ◌∙◌, ℕ, List, None, subst, rules}
use Rattle.std.proofs.lemmas.Result.{err_from_is_err_and}
use Rattle.cg_schedule.specs.declared.event.Event.TheVariants.{Gather}
use Rattle.cg_model.specs.World.{up_replicas}
use Rattle.cg_outcome.specs.Produced.{one_step}
use Rattle.cg_outcome.specs.Rounds.{deliveries}
use Rattle.cg_outcome.specs.GoingOnLaws.{Stopped-and_then}
use Rattle.cg_run.proofs.GoingOn.{Performs-and_then, performs-at}
use Rattle.cg_run.proofs.progress.Run.make_pass.Goals as goal
use Rattle.cg_run.specs.Performing.{seen, Performs}

pub returns-in_err-gather-clause-performs : goal.returns-in_err-gather-clause-performs
returns-in_err-gather-clause-performs g c =
    let exit = err_from_is_err_and c.from_residual.result c.from_residual.ensures.1 in
    let r = c.args.self.now in
    let s = seen r in
    rw (exit.1, exit.2)
    (Stopped-and_then r.report (one_step r.line None Gather s) (deliveries r.line (up_replicas s.world)) (g.K.Sink.view c.args.output.now) (g.K.Sink.view c.gather.new.output) c.in_err-gather.field-0.0 c.in_err-gather.ensures.performs)

pub returns-clause-performs : goal.returns-clause-performs
returns-clause-performs g c =
    let r = c.args.self.now in
    let s = seen r in
    let next = c.gather.new.self in
    let v1 = g.K.Sink.view c.gather.new.output in
    let v2 = g.K.Sink.view c.deliver_to_each.new.output in
    let behind = c.deliver_to_each.new.self in
    let done = c.in_ok-gather.ensures.performs in
    let set : c.up_replicas-up.result ≡ up_replicas s.world = search rules in
    let each = performs-at (λ n. deliveries n c.up_replicas-up.result (seen next)) v1 v2 behind c.deliver_to_each.result c.gather.ensures.placed c.deliver_to_each.ensures.performs in
    Performs-and_then r.report (one_step r.line None Gather s) (deliveries r.line (up_replicas s.world)) (g.K.Sink.view c.args.output.now) v1 v2
    (seen next) behind c.deliver_to_each.result done.0 done.1 done.2
    (subst (λ (set : List ℕ). Performs r.report (deliveries r.line set (seen next)) v1 v2 behind c.deliver_to_each.result) set each)

pub returns-clause-placed : goal.returns-clause-placed
returns-clause-placed g c = c.deliver_to_each.ensures.placed ∙ c.gather.ensures.placed
