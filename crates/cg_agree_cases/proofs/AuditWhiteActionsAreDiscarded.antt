-- Actions that every server is known to have green are no longer shown.
use Rattle.std.specs.Prelude.{◌≡◌, refl, List, [], ◌∷◌, None, codes, pos}
use Rattle.cg_action.specs.declared.command.Cmd.TheVariants.{Put, Inc}
use Rattle.cg_action.specs.declared.value.Value.TheVariants.{Int}
use Rattle.cg_schedule.specs.declared.event.Event.{Event}
use Rattle.cg_schedule.specs.declared.event.Event.TheVariants.{Start, Merge, Request, Show, Rounds}
use Rattle.cg_agree_cases.specs.Audit.{tried}
use Rattle.cg_agree_cases.specs.Computing.{cases_compute}
use Rattle.cg_base.specs.Weights.{each_once}

abbrev white_actions_are_discarded : List Event
white_actions_are_discarded =
    Start (each_once (1 ∷ 2 ∷ 3 ∷ []))
    ∷ Merge (1 ∷ 2 ∷ 3 ∷ [])
    ∷ Rounds 2
    ∷ Request 1 (Put (codes "a") (Int (pos 1)) ∷ []) None
    ∷ Request 2 (Put (codes "b") (Int (pos 2)) ∷ []) None
    ∷ Request 3 (Put (codes "c") (Int (pos 3)) ∷ []) None
    ∷ Rounds 1
    ∷ Request 1 (Inc (codes "a") (pos 1) ∷ []) None
    ∷ Request 2 (Inc (codes "b") (pos 1) ∷ []) None
    ∷ Request 3 (Inc (codes "c") (pos 1) ∷ []) None
    ∷ Rounds 1
    ∷ Show 1
    ∷ []

white_actions_are_discarded_holds : (tried white_actions_are_discarded).failed ≡ []
unfolding cases_compute
white_actions_are_discarded_holds = refl
