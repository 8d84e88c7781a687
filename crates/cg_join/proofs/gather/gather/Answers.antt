use Rattle.std.proofs.Common.{rules, ◌≡◌, ◌∷◌}
use Rattle.std.specs.Vec.Iter.{into_iter_items}
use Rattle.cg_join.specs.Gathered.{with_part}
use Rattle.cg_join.proofs.Gathering.{part-within}
use Rattle.cg_join.proofs.gather.gather.Goals as goal

pub loop-part-preserved : goal.loop-part-preserved
loop-part-preserved c =
    let next : into_iter_items c.loop-part.part-iterator ≡ c.in-Some.part ∷ into_iter_items c.next.new.self = search rules in
    let before = rw next at c.loop-part.invariant in
    let now : c.add.new.gathered ≡ with_part c.loop-part.gathered c.in-Some.part = c.in_ok-add.ensures in
    (rw now before.0, before.1.1, rw now (part-within c.loop-part.gathered c.in-Some.part before.2 before.1.0))
