use Rattle.cg_agree.proofs.EventsLead.{always-stands}
use Rattle.cg_agree.proofs.laws.facts_stand_beside_each_world.Goals as goal

pub returns : goal.returns
returns c = always-stands
