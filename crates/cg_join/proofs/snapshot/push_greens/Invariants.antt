use Rattle.std.proofs.Common.{◌≡◌, fold}
use Rattle.std.specs.Vec.Iter.{into_iter_items}
use Rattle.cg_action.specs.ActionLimits.{IsAction}
use Rattle.cg_base.specs.Lists.{Each}
use Rattle.cg_join.specs.Snapshot.{with_green_part}
use Rattle.cg_join.proofs.snapshot.push_greens.Given as goal

-- those that are left give what all gave
abbrev pub invariant-loop-a : goal.invariant-loop-a
invariant-loop-a l = (fold with_green_part l.parts (into_iter_items l.a-iterator) ≡ fold with_green_part l.fn.parts l.fn.greens) × Each IsAction (into_iter_items l.a-iterator)
