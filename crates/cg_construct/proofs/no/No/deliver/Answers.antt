use Rattle.std.proofs.Common.{◌≡◌}
use Rattle.cg_client.specs.Replica.{No, Un}
use Rattle.cg_states.specs.No.{no_record}
use Rattle.cg_states.specs.ReplicaStep.{on_regular}
use Rattle.cg_construct.proofs.Entering.{from_any_state}
use Rattle.cg_construct.proofs.no.No.deliver.Goals as goal

pub returns-in-Regular-clause-turn : goal.returns-in-Regular-clause-turn
unfolding on_regular
returns-in-Regular-clause-turn c =
    let held : c.forget_record.new.self ≡ no_record c.args.self.held = cc in
    rw (held, c.in-Regular.is) (from_any_state (no_record c.args.self.held) (No c.args.self.conf c.args.self.heard) Un c.args.draft.now c.in-Regular.conf c.in-Regular.set)
