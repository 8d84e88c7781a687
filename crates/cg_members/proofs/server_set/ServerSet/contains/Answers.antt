use Rattle.std.proofs.Common.{◌∙◌, sym}
use Rattle.cg_members.proofs.ServerLemmas.{is_among-with}
use Rattle.cg_members.proofs.server_set.ServerSet.contains.Goals as goal

pub returns : goal.returns
returns c = rw (← c.self.view_is) (c.contains.ensures ∙ sym (is_among-with c.self.inside.lines c.self.inside.weights c.args.id))
