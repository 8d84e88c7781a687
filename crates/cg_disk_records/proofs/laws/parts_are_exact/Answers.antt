use Rattle.cg_codec.specs.ShapeLaws.{field_front}
use Rattle.cg_disk_records.specs.Checkpoint.{spelled_parts}
use Rattle.cg_disk_records.specs.Limits.{AreParts}
use Rattle.cg_disk_records.specs.Reading.{checkpoint_reading}
use Rattle.cg_disk_records.proofs.CheckpointFields.{reached_field, parts_field, parts_whole}
use Rattle.cg_disk_records.proofs.laws.parts_are_exact.Goals as goal

pub returns : goal.returns
returns c = record { reached = reached_field; field = parts_field; whole = parts_whole; apart = field_front AreParts spelled_parts checkpoint_reading parts_field }
