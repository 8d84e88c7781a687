use Rattle.std.proofs.Common.{◌≡◌, fold}
use Rattle.std.specs.Vec.Iter.{into_iter_items}
use Rattle.cg_action.specs.ActionLimits.{IsAction}
use Rattle.cg_queue.specs.Queue.{names_of}
use Rattle.cg_base.specs.Lists.{Each}
use Rattle.cg_store.specs.Leading.{AreNext}
use Rattle.cg_store.specs.Rebuilt.{with_kept_red}
use Rattle.cg_store.proofs.rebuild.put_reds.Given as goal

-- those that are left give what all gave
abbrev pub invariant-loop-a : goal.invariant-loop-a
invariant-loop-a l =
    (fold with_kept_red l.core (into_iter_items l.a-iterator) ≡ fold with_kept_red l.fn.core l.fn.reds) × Each IsAction (into_iter_items l.a-iterator)
    × AreNext l.core.queue.red_cut (names_of (into_iter_items l.a-iterator))
