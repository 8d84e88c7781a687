use Rattle.std.proofs.Common.{rules}
use Rattle.cg_db.specs.Plan.{listed}
use Rattle.cg_db.proofs.PlanLemmas.{with_changes-behind}
use Rattle.cg_db.proofs.plan.set.Goals as goal

pub returns : goal.returns
returns c = with_changes-behind c.args.db.now (listed c.args.changes.now) (listed c.push.new.self) c.args.key.now c.args.value (search rules)
