use Rattle.cg_members.proofs.ServerLemmas.{first_lines}
use Rattle.cg_members.proofs.server_set.ServerSet.of.Goals as goal

pub returns : goal.returns
returns c = first_lines c.args.set
