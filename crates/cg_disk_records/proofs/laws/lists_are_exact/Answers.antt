use Rattle.cg_disk_records.proofs.EntryFields.{entries_field, any_entry_field}
use Rattle.cg_disk_records.specs.ListLaws.{actions_field}
use Rattle.cg_disk_records.proofs.laws.lists_are_exact.Goals as goal

pub returns : goal.returns
returns c = record { actions = actions_field; entries = entries_field; entry = any_entry_field }
