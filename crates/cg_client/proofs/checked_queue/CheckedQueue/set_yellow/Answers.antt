use Rattle.std.proofs.Common.{subst, sym}
use Rattle.cg_queue.specs.Answers.{AreReds}
use Rattle.cg_queue.specs.Queue.{QueueView}
use Rattle.cg_client.proofs.Keeping.{after_names}
use Rattle.cg_client.proofs.checked_queue.CheckedQueue.set_yellow.Goals as goal

pub invariant_of-self : goal.invariant_of-self
invariant_of-self c =
    let reds : AreReds c.self.inside.queue c.args.list.now = subst (λ (q : QueueView). AreReds q c.args.list.now) (sym c.self.view_is) c.requires.reds in
    after_names c.self.inside.queue c.set_yellow.new.self c.args.list.now c.set_yellow.result c.self.invariant reds c.set_yellow.ensures.ok c.set_yellow.ensures.err
