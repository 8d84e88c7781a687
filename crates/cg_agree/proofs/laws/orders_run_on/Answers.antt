use Rattle.cg_agree.proofs.CreatorNumbered.{order-runs}
use Rattle.cg_agree.proofs.EventsLead.{always-stands}
use Rattle.cg_agree.proofs.laws.orders_run_on.Goals as goal

pub returns : goal.returns
returns c = λ c w reached. order-runs c w (always-stands.beside c w reached)
