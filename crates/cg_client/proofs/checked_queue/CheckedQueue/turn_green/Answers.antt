use Rattle.cg_client.proofs.Keeping.{after_turn}
use Rattle.cg_client.proofs.checked_queue.CheckedQueue.turn_green.Goals as goal

pub invariant_of-self : goal.invariant_of-self
invariant_of-self c = after_turn c.self.inside.queue c.turn_green.new.self c.args.id c.turn_green.result c.self.invariant c.turn_green.ensures.ok c.turn_green.ensures.err
