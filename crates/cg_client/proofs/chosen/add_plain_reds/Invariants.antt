use Rattle.std.proofs.Common.{◌≡◌, ◌++◌, not, filter}
use Rattle.std.specs.Vec.Iter.{into_iter_items}
use Rattle.cg_base.specs.Ids.{has_name}
use Rattle.cg_action.specs.ActionLimits.{IsAction}
use Rattle.cg_base.specs.Lists.{Each}
use Rattle.cg_client.specs.Chosen.{plain_reds}
use Rattle.cg_client.proofs.chosen.add_plain_reds.Given as goal

-- those taken so far, and the plain ones of those left
abbrev pub invariant-loop-a : goal.invariant-loop-a
invariant-loop-a l =
    (l.list ++ filter (λ a. not (has_name l.queue.yellow a.id)) (into_iter_items l.a-iterator) ≡ l.fn.list ++ plain_reds l.queue)
    × Each IsAction (into_iter_items l.a-iterator)
