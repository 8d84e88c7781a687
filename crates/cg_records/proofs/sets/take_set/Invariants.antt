use Rattle.cg_codec.specs.Taking.{unread_of}
use Rattle.cg_records.specs.Reading.{take_set, take_id_above, last_of}
use Rattle.cg_records.specs.ItemLoopLaws.{ReadSoFar}
use Rattle.cg_records.proofs.sets.take_set.Given as goal

abbrev pub invariant-members : goal.invariant-members
invariant-members l = ReadSoFar (λ taken. take_id_above (last_of taken)) (take_set (unread_of l.f)) l.count l.counter l.last l.set l.set (unread_of l.after)
