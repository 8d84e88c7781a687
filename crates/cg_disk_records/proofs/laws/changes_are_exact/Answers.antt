use Rattle.cg_codec.specs.ShapeLaws.{field_front}
use Rattle.cg_disk_records.specs.Change.{spelled_change}
use Rattle.cg_disk_records.specs.Limits.{IsChange}
use Rattle.cg_disk_records.specs.Reading.{change_reading}
use Rattle.cg_disk_records.proofs.ChangeFields.{change_field, change_whole}
use Rattle.cg_disk_records.proofs.StandingLaws.{change-again, change-found}
use Rattle.cg_disk_records.proofs.laws.changes_are_exact.Goals as goal

pub returns : goal.returns
returns c = record { field = change_field; whole = change_whole; again = change-again; found = change-found; apart = field_front IsChange spelled_change change_reading change_field }
