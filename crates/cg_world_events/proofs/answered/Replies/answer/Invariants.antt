use Rattle.std.proofs.Common.{◌≡◌, ◌+◌, ◌≤◌, fold, drop, length}
use Rattle.std.specs.Vec.Iter.{into_iter_items}
use Rattle.cg_model.specs.Show.{answered_from, with_answered}
use Rattle.cg_world_events.proofs.answered.Replies.answer.Given as goal

-- the replies that are left, to the names that are left, give what all gave
abbrev pub invariant-loop-reply : goal.invariant-loop-reply
invariant-loop-reply l =
    (l.next ≤ length l.ids)
    × (fold with_answered l.self (answered_from (l.before + l.next) (drop l.next l.ids) (into_iter_items l.reply-iterator))
    ≡ fold with_answered l.fn.self (answered_from l.fn.before l.fn.ids l.fn.replies))
