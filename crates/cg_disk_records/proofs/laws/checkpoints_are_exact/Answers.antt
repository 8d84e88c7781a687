use Rattle.cg_disk_records.proofs.StandingLaws.{checkpoint-again, checkpoint-found, checkpoint-one}
use Rattle.cg_disk_records.proofs.laws.checkpoints_are_exact.Goals as goal

pub returns : goal.returns
returns c = record { again = checkpoint-again; found = checkpoint-found; one = checkpoint-one }
