use Rattle.std.proofs.Common.{rules}
use Rattle.cg_codec.specs.Laws.{AreBytes}
use Rattle.cg_disk_records.specs.Checkpoint.{spelled_parts}
use Rattle.cg_disk_records.specs.Limits.{AreParts}
use Rattle.cg_disk_records.specs.Reading.{checkpoint_reading}
use Rattle.cg_disk_records.proofs.ChangeFields.{whole-gives}
use Rattle.cg_disk_records.proofs.CheckpointFields.{parts_whole}
use Rattle.cg_disk_records.proofs.checkpoint.decode_checkpoint.Goals as goal

pub returns-clause-exact : goal.returns-clause-exact
returns-clause-exact c =
    let fits : AreBytes c.args.bytes.now = λ i. search rules in
    whole-gives AreParts spelled_parts checkpoint_reading c.args.bytes.now c.read_all.result parts_whole fits c.read_all.ensures
