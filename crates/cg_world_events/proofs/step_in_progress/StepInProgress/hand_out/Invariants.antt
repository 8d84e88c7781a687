use Rattle.std.proofs.Common.{◌≡◌, fold}
use Rattle.std.specs.Vec.Iter.{into_iter_items}
use Rattle.cg_base.specs.declared.action_id.ActionId.{ActionId}
use Rattle.cg_action.specs.declared.action.Action.{Action}
use Rattle.cg_model.specs.Step.{hand_over}
use Rattle.cg_model.specs.Standing.{AreBookedInTurn}
use Rattle.cg_world_events.proofs.step_in_progress.StepInProgress.hand_out.Given as goal

-- those that are left lead to where all lead, and are booked in their turn
abbrev pub invariant-loop-h : goal.invariant-loop-h
invariant-loop-h l =
    (fold hand_over l.self (into_iter_items l.h-iterator) ≡ fold hand_over l.fn.self l.fn.handed)
    × ((book : ActionId → Action) × AreBookedInTurn book l.self (into_iter_items l.h-iterator))
