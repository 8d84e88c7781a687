use Rattle.cg_agree.proofs.EventsUndo.{events-undo-nothing}
use Rattle.cg_agree.proofs.laws.events_undo_nothing.Goals as goal

pub returns : goal.returns
returns c = events-undo-nothing
