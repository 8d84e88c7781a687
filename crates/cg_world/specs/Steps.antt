-- What comes of an event in a world.
use Rattle.std.specs.Prelude.{◌≡◌, List, ◌++◌, Some, None}
use Rattle.cg_action.specs.declared.action.Action.{Action}
use Rattle.cg_schedule.specs.declared.event.Event.{Event}
use Rattle.cg_model.specs.Admission.{first_refusal}
use Rattle.cg_model.specs.Show.{Moved}
use Rattle.cg_model.specs.Step.{world_step}
use Rattle.cg_model.specs.Making.{newly_made}
use Rattle.cg_world.specs.declared.world.Stepped.{Stepped}
use Rattle.cg_world.specs.declared.world.Stepped.TheVariants as stepped
use Rattle.cg_world.specs.SoFar.{SoFar}
pub use Rattle.cg_world_events.specs.Happening.{IsCounted}

-- what comes of an event: its step, and what it shows as made is made too; or exactly the reason why it isn't admitted
abbrev pub Steps : SoFar → Event → Stepped → Type 0
Steps before e (stepped.Done after entry) =
    (first_refusal before.world e ≡ None)
    × (record { entry = entry; world = after.world } ≡ world_step before.world e)
    × (after.made ≡ before.made ++ newly_made (record { entry = entry; world = after.world }))
Steps before e (stepped.Refused after reason) = (first_refusal before.world e ≡ Some reason) × (after ≡ before)
Steps before e stepped.NoMemory = Unit {0}

-- the step is made as it was meant, and what it shows as made comes behind the rest; or memory was wanting
abbrev pub IsEnd : Moved → List Action → Stepped → Type 0
IsEnd m made (stepped.Done after entry) =
    (record { entry = entry; world = after.world } ≡ m)
    × (after.made ≡ made ++ newly_made (record { entry = entry; world = after.world }))
IsEnd m made (stepped.Refused after reason) = ⊥
IsEnd m made stepped.NoMemory = Unit {0}
