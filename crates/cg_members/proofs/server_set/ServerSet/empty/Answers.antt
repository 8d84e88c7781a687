use Rattle.cg_members.proofs.server_set.ServerSet.empty.Goals as goal

pub invariant_of-result : goal.invariant_of-result
invariant_of-result c = rw c.empty.ensures (record { ascends = tt; weigh = tt }, c.empty-2.ensures)
