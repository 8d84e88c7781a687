use Rattle.std.proofs.Common.{◌∙◌, sym}
use Rattle.cg_members.proofs.ServerLemmas.{server_ids-with}
use Rattle.cg_members.proofs.server_set.ServerSet.ids.Goals as goal

pub returns : goal.returns
returns c = rw (← c.self.view_is) (c.self.invariant.1 ∙ sym (server_ids-with c.self.inside.lines c.self.inside.weights))
