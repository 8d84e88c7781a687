-- What ends a run by a refusal.
use Rattle.cg_group.specs.declared.reason.Reason.{Reason}
use Rattle.cg_model.specs.Run.{Refusal}
use Rattle.cg_items.specs.declared.companion.Further.{Further}

-- an event that wasn't admitted, and the reason: one of the schedule, or a further one
pub data Refused : Type 0 where
  OfEvent : (refusal : Refusal) → Refused
  OfFurther : (event : Further) (reason : Reason) → Refused
