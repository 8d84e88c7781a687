use Rattle.cg_client.proofs.Keeping.{after_yellow}
use Rattle.cg_client.proofs.checked_queue.CheckedQueue.mark_yellow.Goals as goal

pub invariant_of-self : goal.invariant_of-self
invariant_of-self c = after_yellow c.self.inside.queue c.mark_yellow.new.self c.args.a c.mark_yellow.result c.self.invariant c.requires c.mark_yellow.ensures
