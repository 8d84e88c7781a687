use Rattle.cg_transfer.proofs.HeldAgrees.{held-agrees}
use Rattle.cg_transfer.proofs.transfer.Transfer.of.Goals as goal

pub start-requires-clause-agrees : goal.start-requires-clause-agrees
start-requires-clause-agrees c =
    let h = c.args.core.now in
    let laws = c.what_is_held_agrees.ensures in
    c.joiners_agree.ensures c.args.joiner h (held-agrees h laws.counts laws.settled c.requires.holds)
