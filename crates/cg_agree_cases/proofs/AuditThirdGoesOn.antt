-- A member goes on marking green after the two others have left and have installed the next attempt.
use Rattle.std.specs.Prelude.{◌≡◌, refl, List, [], ◌∷◌, None, codes}
use Rattle.cg_action.specs.declared.command.Cmd.TheVariants.{Put}
use Rattle.cg_action.specs.declared.value.Value.TheVariants.{Text}
use Rattle.cg_schedule.specs.declared.event.Event.{Event}
use Rattle.cg_schedule.specs.declared.event.Event.TheVariants.{Start, Split, Merge, Request, Gather, Deliver, Rounds}
use Rattle.cg_agree_cases.specs.Audit.{tried}
use Rattle.cg_agree_cases.specs.Computing.{cases_compute}
use Rattle.cg_base.specs.Weights.{each_once}

abbrev third_goes_on : List Event
third_goes_on =
    Start (each_once (1 ∷ 2 ∷ 3 ∷ []))
    ∷ Merge (1 ∷ 2 ∷ 3 ∷ [])
    ∷ Rounds 2
    ∷ Request 2 (Put (codes "k") (Text (codes "v")) ∷ []) None
    ∷ Gather
    ∷ Split (2 ∷ 3 ∷ [])
    ∷ Merge (2 ∷ 3 ∷ [])
    ∷ Gather
    ∷ Deliver 2 2
    ∷ Deliver 3 2
    ∷ Gather
    ∷ Deliver 2 2
    ∷ Deliver 3 2
    ∷ Deliver 1 1
    ∷ []

third_goes_on_holds : (tried third_goes_on).failed ≡ []
unfolding cases_compute
third_goes_on_holds = refl
