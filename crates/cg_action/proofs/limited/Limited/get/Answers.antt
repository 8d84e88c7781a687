use Rattle.std.proofs.Common.{zero, suc}
use Rattle.cg_action.proofs.limited.Limited.get.Goals as goal
use Rattle.cg_base.specs.EachLaws.{Each-get}

pub returns-clause-limit : goal.returns-clause-limit
returns-clause-limit g c = rw (← c.self.view_is) (Each-get g.T.Limits.limit c.self.inside.list c.args.i c.self.invariant.0)
