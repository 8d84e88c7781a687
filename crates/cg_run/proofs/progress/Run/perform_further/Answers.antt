use Rattle.std.proofs.Common.{◌≡◌, sym, ap, subst, ◌∙◌}
use Rattle.cg_items.specs.Companion.{further_refusal}
use Rattle.cg_items.specs.Refused.{OfFurther}
use Rattle.cg_outcome.specs.Produced.{Produced, one_further, refused_with, unless_further_refused}
use Rattle.cg_outcome.specs.Stopping.{Stopped}
use Rattle.cg_run.specs.Performing.{seen}
use Rattle.cg_world.specs.SoFar.{SoFar}
use Rattle.cg_run.proofs.progress.Run.perform_further.Goals as goal

pub returns-in-Some-clause-performs : goal.returns-in-Some-clause-performs
returns-in-Some-clause-performs g c =
    let r = c.args.self.now in
    let e = c.args.event.now in
    let s = seen r in
    let reason = c.in-Some.reason in
    let is : one_further r.line e s ≡ refused_with r.line (OfFurther e reason) reason s =
    ap (λ refusal. unless_further_refused refusal r.line e s)
    (ap (λ (w : SoFar). further_refusal w.world s.companion e) (sym c.in-Ok.ensures) ∙ sym c.further_refusal.ensures ∙ c.in-Some.is) in
    subst (λ (p : Produced). Stopped r.report p (g.K.Sink.view c.args.output.now) (g.K.Sink.view c.end.new.output) c.end.result) (sym is)
    c.end.ensures
