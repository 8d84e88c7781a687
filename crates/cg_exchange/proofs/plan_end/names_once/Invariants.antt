use Rattle.std.proofs.Common.{◌≡◌, fold, take, []}
use Rattle.cg_states.specs.PlanEnd.{with_name}
use Rattle.cg_exchange.proofs.plan_end.names_once.Given as goal

abbrev pub invariant-loop-id : goal.invariant-loop-id
invariant-loop-id l = l.list ≡ fold (with_name l.core.queue) [] (take l.id-index l.ids)
