use Rattle.std.proofs.Common.{Some, subst}
use Rattle.cg_store.specs.Opening.{FindsFirst}
use Rattle.cg_store.proofs.Chosen.{chosen_later}
use Rattle.cg_store.proofs.finding.front_of.Goals as goal

pub returns-in-Some : goal.returns-in-Some
returns-in-Some c =
    chosen_later c.args.id c.args.a.now c.args.b.now c.later-side.result c.in-Some.first c.later-side.ensures
    (subst (λ bodies. FindsFirst c.args.id bodies (Some c.in-Some.first)) c.bodies_on.ensures (subst (FindsFirst c.args.id c.bodies_on.result.now) c.in-Some.is c.in_ok-first.ensures))
