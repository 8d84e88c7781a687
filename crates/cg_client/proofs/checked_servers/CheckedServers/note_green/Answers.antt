use Rattle.std.proofs.Common.{subst, sym}
use Rattle.cg_members.specs.Members.{Members}
use Rattle.cg_client.proofs.Lines.{Lined, green-lined}
use Rattle.cg_client.proofs.checked_servers.CheckedServers.note_green.Goals as goal

pub invariant_of-self : goal.invariant_of-self
invariant_of-self c =
    subst (λ (m : Members). Lined m.servers) (sym c.note_green.ensures)
    (green-lined c.self.inside.members c.args.at c.args.a.now c.requires.few c.self.invariant)
