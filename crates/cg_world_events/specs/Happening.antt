-- What comes of an event: what it does, or the reason by which it isn't admitted.
use Rattle.std.specs.Prelude.{◌≡◌, ◌≤◌, Option, Some, None, Result, Ok, Err, MatchResult}
use Rattle.cg_schedule.specs.declared.event.Event.{Event}
use Rattle.cg_schedule.specs.declared.event.Event.TheVariants.{Fail, RecoverStopped}
use Rattle.cg_group.specs.declared.reason.Reason.{Reason}
use Rattle.cg_group.specs.declared.error.GroupErr.{GroupErr}
use Rattle.cg_group.specs.declared.error.GroupErr.TheVariants as fault
use Rattle.cg_model.specs.Show.{StepInProgress}
use Rattle.cg_model.specs.Admission.{first_refusal}
use Rattle.cg_model.specs.Step.{happens}

-- the call that is to fail, or in which a recovery is to be stopped, is counted from 1
abbrev pub IsCounted : Event → Type 0
IsCounted (Fail p call) = 1 ≤ call
IsCounted (RecoverStopped p call fill) = 1 ≤ call
IsCounted other = Unit {0}

-- where there is a reason the event isn't admitted
abbrev pub admits : Option Reason → Result (Unit {0}) GroupErr
admits None = Ok tt
admits (Some reason) = Err (fault.Refused reason)

-- it isn't admitted, and all is as before; or memory was refused
abbrev pub Refuses : StepInProgress → Event → StepInProgress → GroupErr → Type 0
Refuses before e after (fault.Refused reason) = (first_refusal before.world e ≡ Some reason) × (after ≡ before)
Refuses before e after fault.NoMemory = Unit {0}

-- an admitted event does this
abbrev pub Happens : {T : Type 0} → StepInProgress → Event → StepInProgress → Result T GroupErr → Type 0
Happens before e after result =
    MatchResult result (λ x. (first_refusal before.world e ≡ None) × (after ≡ happens before.world e))
    (Refuses before e after)
