use Rattle.cg_group.proofs.Synchronous.{always}
use Rattle.cg_group.proofs.law.virtually_synchronous.Goals as goal

pub returns : goal.returns
returns g c = always
