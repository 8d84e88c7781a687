use Rattle.std.proofs.Common.{◌++◌}
use Rattle.cg_queue.specs.NameLaws.{found-named}
use Rattle.cg_client.proofs.Keeping.{found}
use Rattle.cg_client.proofs.checked_queue.CheckedQueue.get.Goals as goal

pub returns-clause-action : goal.returns-clause-action
returns-clause-action c = rw (← c.self.view_is) (found c.self.inside.queue c.args.id c.self.invariant)

pub returns-clause-name : goal.returns-clause-name
returns-clause-name c = rw (← c.self.view_is) (found-named (c.self.inside.queue.greens ++ c.self.inside.queue.reds) c.args.id)
