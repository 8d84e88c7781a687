use Rattle.std.proofs.Common.{◌≡◌}
use Rattle.std.specs.Vec.Iter.{into_iter_items}
use Rattle.cg_action.specs.ActionLimits.{IsAction}
use Rattle.cg_base.specs.Lists.{Each}
use Rattle.cg_db.specs.Apply.{fold_actions_from}
use Rattle.cg_client.proofs.overlay.apply_all.Given as goal

-- those that are left lead to where all lead
abbrev pub invariant-loop-a : goal.invariant-loop-a
invariant-loop-a l = (fold_actions_from l.db (into_iter_items l.a-iterator) ≡ fold_actions_from l.fn.db l.fn.actions) × Each IsAction (into_iter_items l.a-iterator)
