use Rattle.cg_client.proofs.Keeping.{after_red}
use Rattle.cg_client.proofs.checked_queue.CheckedQueue.mark_red.Goals as goal

pub invariant_of-self : goal.invariant_of-self
invariant_of-self c = after_red c.self.inside.queue c.mark_red.new.self c.args.a c.mark_red.result c.self.invariant c.requires c.mark_red.ensures
