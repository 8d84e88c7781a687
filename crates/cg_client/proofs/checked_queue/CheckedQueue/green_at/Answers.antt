use Rattle.std.proofs.Common.{◌-◌}
use Rattle.cg_client.proofs.Keeping.{kept-at}
use Rattle.cg_client.proofs.checked_queue.CheckedQueue.green_at.Goals as goal

pub returns-clause-action : goal.returns-clause-action
returns-clause-action c = rw (← c.self.view_is) (kept-at c.self.inside.queue.greens (c.args.at - c.self.inside.queue.white) c.self.invariant.greens)
