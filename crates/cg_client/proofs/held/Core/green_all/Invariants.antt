use Rattle.std.proofs.Common.{◌≡◌, fold}
use Rattle.std.specs.Vec.Iter.{into_iter_items}
use Rattle.cg_action.specs.ActionLimits.{IsAction}
use Rattle.cg_base.specs.Lists.{Each}
use Rattle.cg_client.specs.Replica.{State}
use Rattle.cg_client.specs.Marks.{mark_green}
use Rattle.cg_client.specs.Drafts.{turn_with}
use Rattle.cg_client.proofs.held.Core.green_all.Given as goal

-- those that are left give what all gave
abbrev pub invariant-loop-a : goal.invariant-loop-a
invariant-loop-a l =
    ((state : State) → fold mark_green (turn_with l.self state l.draft) (into_iter_items l.a-iterator) ≡ fold mark_green (turn_with l.fn.self state l.fn.draft) l.fn.actions)
    × Each IsAction (into_iter_items l.a-iterator)
