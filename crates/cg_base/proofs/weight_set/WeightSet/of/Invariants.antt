use Rattle.std.proofs.Common.{◌≡◌, [], fold}
use Rattle.cg_base.specs.Iterators.{members_left}
use Rattle.cg_base.proofs.WeightLemmas.{put_once}
use Rattle.cg_base.proofs.weight_set.WeightSet.of.Given as goal

-- what is put in so far, and what is still to be put in
abbrev pub invariant-loop-id : goal.invariant-loop-id
invariant-loop-id l = fold put_once l.weighted (members_left l.id-iterator) ≡ fold put_once [] l.set
