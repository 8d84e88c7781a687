use Rattle.cg_client.proofs.Lines.{start-lined}
use Rattle.cg_client.proofs.checked_servers.CheckedServers.start.Goals as goal

pub invariant_of-result : goal.invariant_of-result
invariant_of-result c = rw c.start.ensures (start-lined c.args.set)
