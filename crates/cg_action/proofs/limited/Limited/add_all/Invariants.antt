use Rattle.std.proofs.Common.{◌≡◌, ◌++◌}
use Rattle.std.specs.Vec.Iter.{into_iter_items}
use Rattle.cg_base.specs.Lists.{Each}
use Rattle.cg_action.proofs.limited.Limited.add_all.Given as goal

-- with those that are left it is what it is with all
abbrev pub invariant-loop-item : goal.invariant-loop-item
invariant-loop-item g l = (l.self ++ into_iter_items l.item-iterator ≡ l.fn.self ++ l.fn.items) × Each g.T.Limits.limit (into_iter_items l.item-iterator)
