use Rattle.std.proofs.Common.{◌≡◌, ◌≤◌, false}
use Rattle.cg_base.specs.declared.action_id.ActionId.{ActionId}
use Rattle.cg_queue.specs.Shown.{IsBetween}
use Rattle.cg_older.specs.Weights.{is_heavy_name}
use Rattle.cg_older.proofs.weights.has_heavy_red.Given as goal

-- no red of the first creators is such a join
abbrev pub invariant-loop-slot : goal.invariant-loop-slot
invariant-loop-slot l = (id : ActionId) → IsBetween l.core.queue.green_cut l.core.queue.red_cut id → id.creator ≤ l.slot → is_heavy_name l.core.queue id ≡ false
