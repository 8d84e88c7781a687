use Rattle.cg_agree_lemmas.specs.ActionsBooked.{always-booked}
use Rattle.cg_agree.proofs.laws.actions_stand_in_one_book.Goals as goal

pub returns : goal.returns
returns c = always-booked
