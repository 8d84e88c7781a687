use Rattle.cg_disk_records.proofs.Agreeing.{fits-agree, agree-fits}
use Rattle.cg_disk_records.proofs.laws.agreement_is_tested.Goals as goal

pub returns : goal.returns
returns c = record { fits = agree-fits; agree = fits-agree }
