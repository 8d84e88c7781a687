use Rattle.cg_base.specs.Weights.{ids}
use Rattle.cg_codec.specs.Taking.{unread_of}
use Rattle.cg_records.specs.Reading.{take_weight_set, take_weighted_above, last_of}
use Rattle.cg_records.specs.ItemLoopLaws.{ReadSoFar}
use Rattle.cg_records.proofs.sets.take_weight_set.Given as goal

abbrev pub invariant-members : goal.invariant-members
invariant-members l =
    ReadSoFar (λ taken. take_weighted_above (last_of (ids taken))) (take_weight_set (unread_of l.f)) l.count l.counter l.last (ids l.set) l.set (unread_of l.after)
