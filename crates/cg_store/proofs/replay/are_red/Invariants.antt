use Rattle.std.proofs.Common.{◌≡◌, drop}
use Rattle.std.specs.List.{list_all}
use Rattle.cg_base.specs.Ids.{has_name}
use Rattle.cg_queue.specs.Queue.{names_of}
use Rattle.cg_store.proofs.replay.are_red.Given as goal

abbrev pub invariant-loop-id : goal.invariant-loop-id
invariant-loop-id l = list_all (has_name (names_of l.core.queue.reds)) (drop l.id-index l.ids) ≡ list_all (has_name (names_of l.core.queue.reds)) l.ids
