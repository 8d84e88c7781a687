use Rattle.cg_disk_records.proofs.Always.{always-holds, always-counts}
use Rattle.cg_disk_records.proofs.Settling.{agrees-stored, always-settled}
use Rattle.cg_disk_records.proofs.commit_laws.what_is_held_agrees.Goals as goal

pub returns-clause-holds : goal.returns-clause-holds
returns-clause-holds c = always-holds

pub returns-clause-counts : goal.returns-clause-counts
returns-clause-counts c = always-counts

pub returns-clause-agrees : goal.returns-clause-agrees
returns-clause-agrees c = agrees-stored

pub returns-clause-settled : goal.returns-clause-settled
returns-clause-settled c = always-settled
