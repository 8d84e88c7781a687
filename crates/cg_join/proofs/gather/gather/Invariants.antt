use Rattle.std.proofs.Common.{◌≡◌, fold}
use Rattle.std.specs.Vec.Iter.{into_iter_items}
use Rattle.cg_base.specs.Lists.{Each}
use Rattle.cg_join.specs.Gathered.{with_part, nothing, IsGathered}
use Rattle.cg_join.specs.Limits.{IsPart}
use Rattle.cg_join.proofs.gather.gather.Given as goal

-- those that are left give what all gave
abbrev pub invariant-loop-part : goal.invariant-loop-part
invariant-loop-part l =
    (fold with_part l.gathered (into_iter_items l.part-iterator) ≡ fold with_part nothing l.fn.parts.items) × Each IsPart (into_iter_items l.part-iterator) × IsGathered l.gathered
