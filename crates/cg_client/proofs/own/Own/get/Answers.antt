use Rattle.cg_action.specs.ActionLimits.{IsAction}
use Rattle.cg_client.proofs.own.Own.get.Goals as goal
use Rattle.cg_base.specs.EachLaws.{Each-get}

pub returns-clause-action : goal.returns-clause-action
returns-clause-action c = rw (← c.self.view_is) (Each-get IsAction c.self.inside.actions c.args.i c.self.invariant.0)
