use Rattle.cg_model.proofs.Counting.{always-kept}
use Rattle.cg_model.proofs.step_laws.each_event_keeps_what_holds.Goals as goal

pub returns : goal.returns
returns c = always-kept
