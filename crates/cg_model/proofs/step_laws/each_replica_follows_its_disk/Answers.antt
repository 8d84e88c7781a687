use Rattle.cg_model.proofs.Following.{always-follows}
use Rattle.cg_model.proofs.step_laws.each_replica_follows_its_disk.Goals as goal

pub returns : goal.returns
returns c = always-follows
