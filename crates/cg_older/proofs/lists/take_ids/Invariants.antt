use Rattle.std.proofs.Common.{◌≡◌, ◌-◌}
use Rattle.cg_action.specs.Reading.{id_reading}
use Rattle.cg_codec.specs.Reading.{take_items}
use Rattle.cg_codec.specs.Taking.{unread_of}
use Rattle.cg_disk_records.specs.Reading.{ids_reading}
use Rattle.cg_older.proofs.lists.take_ids.Given as goal

abbrev pub invariant-names : goal.invariant-names
invariant-names l = take_items (λ _. id_reading) (l.count - l.counter) l.ids (unread_of l.after) ≡ ids_reading (unread_of l.fields)
