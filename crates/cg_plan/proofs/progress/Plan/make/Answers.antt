use Rattle.cg_plan.specs.Plan.{plan_of}
use Rattle.cg_plan.specs.Place.{AreFilled}
use Rattle.cg_plan.proofs.Places.{place-first, begun-is}
use Rattle.cg_plan.specs.FilledLaws.{plan-filled}
use Rattle.cg_plan.proofs.progress.Plan.make.Goals as goal

pub invariant_of-result : goal.invariant_of-result
invariant_of-result c =
    let filled : AreFilled c.in_ok-turns.turns.items = rw c.in_ok-turns.ensures (plan-filled c.args.summaries.now) in
    place-first c.in_ok-turns.turns.items filled

pub returns : goal.returns
returns c = begun-is c.in_ok-turns.turns.items (plan_of c.args.summaries.now) c.in_ok-turns.ensures
