use Rattle.std.proofs.Common.{◌≡◌, ◌-◌}
use Rattle.cg_codec.specs.Reading.{take_items}
use Rattle.cg_codec.specs.Taking.{unread_of}
use Rattle.cg_records.specs.Reading.{take_names, take_name_above}
use Rattle.cg_records.proofs.names.take_names.Given as goal

abbrev pub invariant-names : goal.invariant-names
invariant-names l = take_items (λ _. take_name_above 0) (l.count - l.counter) l.ids (unread_of l.after) ≡ take_names (unread_of l.f)
