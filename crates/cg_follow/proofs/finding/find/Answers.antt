use Rattle.std.proofs.Common.{sym, ◌∙◌}
use Rattle.cg_follow.proofs.Found.{none-first}
use Rattle.cg_follow.proofs.finding.find.Goals as goal

pub returns-in-None : goal.returns-in-None
returns-in-None c = sym (none-first c.args.bodies.now c.in-Some.body.now (sym c.in-Some.ensures)
    (sym c.in_ok-taken.ensures ∙ c.in-None.is))
