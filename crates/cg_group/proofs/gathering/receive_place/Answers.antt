use Rattle.cg_group.proofs.OrderFacts.{received_there}
use Rattle.cg_group.proofs.gathering.receive_place.Goals as goal

pub returns : goal.returns
returns g c =
    let changed = rw c.regular_in.ensures at c.receive_at.ensures in
    received_there c.args.logs.now c.receive_at.new.logs c.args.roster.now c.args.p c.args.place changed
