use Rattle.cg_records.specs.RecordLaws.{stable_whole}
use Rattle.cg_records.proofs.laws.all_bytes_are_stable.Goals as goal

pub returns : goal.returns
returns c = stable_whole
