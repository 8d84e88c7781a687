use Rattle.cg_agree.proofs.ActionsMade.{always-made}
use Rattle.cg_agree.proofs.laws.made_actions_stand_in_the_book.Goals as goal

pub returns : goal.returns
returns c = always-made
