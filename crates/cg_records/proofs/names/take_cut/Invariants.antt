use Rattle.cg_base.specs.Cuts.{creators_in}
use Rattle.cg_codec.specs.Taking.{unread_of}
use Rattle.cg_records.specs.Reading.{take_cut, take_name_above, last_of}
use Rattle.cg_records.specs.ItemLoopLaws.{ReadSoFar}
use Rattle.cg_records.proofs.names.take_cut.Given as goal

abbrev pub invariant-tops : goal.invariant-tops
invariant-tops l =
    ReadSoFar (λ taken. take_name_above (last_of (creators_in taken))) (take_cut (unread_of l.f)) l.count l.counter l.last (creators_in l.cut) l.cut (unread_of l.after)
