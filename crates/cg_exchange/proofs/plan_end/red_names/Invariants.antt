use Rattle.std.proofs.Common.{◌≡◌, filter, take}
use Rattle.cg_base.specs.Ids.{has_name}
use Rattle.cg_queue.specs.Queue.{names_of}
use Rattle.cg_exchange.proofs.plan_end.red_names.Given as goal

abbrev pub invariant-loop-id : goal.invariant-loop-id
invariant-loop-id l = l.list ≡ filter (has_name (names_of l.core.queue.reds)) (take l.id-index l.ids)
