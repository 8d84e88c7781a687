use Rattle.std.proofs.Common.{◌≡◌, ◌++◌, ◌-◌}
use Rattle.cg_queue.specs.Body.{parts_of, seen, reds_from, all_reds}
use Rattle.cg_queue.specs.Queue.{names_of}
use Rattle.cg_queue.proofs.PlainReds.{plain}
use Rattle.cg_queue.proofs.queue.Queue.plain_red_names.Given as goal

abbrev pub invariant-loop-slot : goal.invariant-loop-slot
invariant-loop-slot l =
    let b = parts_of l.self-inside.body in
    l.ids ++ plain (seen b).yellow (names_of (reds_from b.reds (32 - l.slot) l.slot)) ≡ plain (seen b).yellow (names_of (all_reds b.reds))
