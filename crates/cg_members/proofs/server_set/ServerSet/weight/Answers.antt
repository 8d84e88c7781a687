use Rattle.std.proofs.Common.{◌∙◌, sym}
use Rattle.cg_members.proofs.ServerLemmas.{weight_of-with}
use Rattle.cg_members.proofs.server_set.ServerSet.weight.Goals as goal

pub returns : goal.returns
returns c = rw (← c.self.view_is) (c.weight.ensures ∙ sym (weight_of-with c.self.inside.lines c.self.inside.weights c.args.id))
