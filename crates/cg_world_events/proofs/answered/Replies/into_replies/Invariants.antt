use Rattle.std.proofs.Common.{◌≡◌, ◌++◌, map}
use Rattle.std.specs.Vec.Iter.{into_iter_items}
use Rattle.cg_world_events.proofs.answered.Replies.into_replies.Given as goal

-- those so far and those that are left are all
abbrev pub invariant-loop-one : goal.invariant-loop-one
invariant-loop-one l = l.row ++ map (λ r. r.reply) (into_iter_items l.one-iterator) ≡ map (λ r. r.reply) l.fn.self
