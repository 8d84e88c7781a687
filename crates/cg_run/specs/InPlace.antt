-- What comes of an event in a world that is changed in place.
use Rattle.std.specs.Prelude.{◌≡◌, Some, None, Result, Ok, Err}
use Rattle.cg_group.specs.declared.error.GroupErr.{GroupErr}
use Rattle.cg_group.specs.declared.error.GroupErr.TheVariants as error
use Rattle.cg_model.specs.Admission.{first_refusal}
use Rattle.cg_model.specs.Step.{world_step}
use Rattle.cg_report.specs.declared.entry.Entry.{Entry}
use Rattle.cg_schedule.specs.declared.event.Event.{Event}
use Rattle.cg_world.specs.SoFar.{SoFar}

-- its step, or exactly the reason why it isn't admitted, and then the world is as before
abbrev pub StepsInPlace : SoFar → Event → SoFar → Result Entry GroupErr → Type 0
StepsInPlace before e after (Ok entry) =
    (first_refusal before.world e ≡ None) × (record { entry = entry; world = after.world } ≡ world_step before.world e)
StepsInPlace before e after (Err (error.Refused reason)) =
    (first_refusal before.world e ≡ Some reason) × (after ≡ before)
StepsInPlace before e after (Err error.NoMemory) = Unit {0}
