use Rattle.cg_model.proofs.Recording.{always-recorded, always-ahead}
use Rattle.cg_model.proofs.step_laws.each_commit_is_recorded.Goals as goal

pub returns-clause-recorded : goal.returns-clause-recorded
returns-clause-recorded c = always-recorded

pub returns-clause-ahead : goal.returns-clause-ahead
returns-clause-ahead c = always-ahead
