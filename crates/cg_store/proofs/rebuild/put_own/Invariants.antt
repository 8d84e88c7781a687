use Rattle.std.proofs.Common.{◌≡◌, fold}
use Rattle.std.specs.Vec.Iter.{into_iter_items}
use Rattle.cg_action.specs.ActionLimits.{IsAction}
use Rattle.cg_base.specs.Lists.{Each}
use Rattle.cg_store.specs.Rebuilt.{with_kept_own}
use Rattle.cg_store.proofs.rebuild.put_own.Given as goal

-- those that are left give what all gave
abbrev pub invariant-loop-a : goal.invariant-loop-a
invariant-loop-a l = (fold with_kept_own l.core (into_iter_items l.a-iterator) ≡ fold with_kept_own l.fn.core l.fn.own) × Each IsAction (into_iter_items l.a-iterator)
