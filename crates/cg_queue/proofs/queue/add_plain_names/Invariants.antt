use Rattle.std.proofs.Common.{◌≡◌, ◌++◌, ◌-◌, drop}
use Rattle.cg_queue.specs.Body.{parts_of, seen, actions_in}
use Rattle.cg_queue.specs.Queue.{names_of}
use Rattle.cg_queue.proofs.PlainReds.{plain}
use Rattle.cg_queue.proofs.queue.add_plain_names.Given as goal

abbrev pub invariant-loop-index : goal.invariant-loop-index
invariant-loop-index l =
    let b = parts_of l.body in
    l.ids ++ plain (seen b).yellow (names_of (actions_in (drop (l.index - l.low) (b.reds l.slot)))) ≡ l.initial.ids ++ plain (seen b).yellow (names_of (actions_in (b.reds l.slot)))
