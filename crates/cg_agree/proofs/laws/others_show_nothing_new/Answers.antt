use Rattle.cg_agree.proofs.OthersOld.{others-show-nothing-new}
use Rattle.cg_agree.proofs.laws.others_show_nothing_new.Goals as goal

pub returns : goal.returns
returns c = others-show-nothing-new
