use Rattle.std.proofs.Common.{subst}
use Rattle.cg_queue.specs.Body.{parts_of}
use Rattle.cg_queue.specs.Shown.{IsShown}
use Rattle.cg_queue.proofs.ShownReds.{shown_of}
use Rattle.cg_queue.proofs.queue.Queue.holds.Goals as goal

pub returns-clause-shown : goal.returns-clause-shown
returns-clause-shown c = subst IsShown c.self.view_is (shown_of (parts_of c.self.inside.body) c.self.invariant)
