use Rattle.std.proofs.Common.{sym, ◌∙◌, ap}
use Rattle.cg_group.specs.State.{delivered_to}
use Rattle.cg_group.specs.Ready.{ready_in}
use Rattle.cg_group.proofs.LogFacts.{ready_in-nowhere}
use Rattle.cg_group.proofs.group.Group.ready.Goals as goal

pub returns-in-None-clause-count : goal.returns-in-None-clause-count
returns-in-None-clause-count g c = sym (ap (λ x. ready_in x (delivered_to c.args.self.now c.args.p)) c.in-None.ensures ∙ ready_in-nowhere _ (delivered_to c.args.self.now c.args.p))
