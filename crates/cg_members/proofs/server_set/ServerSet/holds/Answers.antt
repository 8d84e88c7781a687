use Rattle.cg_members.proofs.ServerLemmas.{AreServers-with}
use Rattle.cg_members.proofs.server_set.ServerSet.holds.Goals as goal

pub returns : goal.returns
returns c = rw (← c.self.view_is) (AreServers-with c.self.inside.lines c.self.inside.weights c.self.invariant.0)
