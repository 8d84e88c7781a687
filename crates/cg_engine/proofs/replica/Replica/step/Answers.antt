use Rattle.std.proofs.Common.{ap, ◌∙◌}
use Rattle.cg_engine.specs.Inputs.{taken}
use Rattle.cg_engine.specs.InputLaws.{taken-is}
use Rattle.cg_engine.specs.Seen.{turn_of}
use Rattle.cg_engine.proofs.replica.Replica.step.Goals as goal

pub returns-in-Ok : goal.returns-in-Ok
returns-in-Ok c = c.in-Ok.ensures ∙ ap (λ d. taken (turn_of c.args.self d) c.args.input) c.new-draft.ensures ∙ taken-is c.args.self c.args.input
