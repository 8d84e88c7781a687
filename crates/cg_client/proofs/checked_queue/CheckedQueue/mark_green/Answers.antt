use Rattle.cg_client.proofs.Keeping.{after_green}
use Rattle.cg_client.proofs.checked_queue.CheckedQueue.mark_green.Goals as goal

pub invariant_of-self : goal.invariant_of-self
invariant_of-self c = after_green c.self.inside.queue c.mark_green.new.self c.args.at c.args.a c.mark_green.result c.self.invariant c.requires.action c.mark_green.ensures
