-- An action in the transitional list shows that its sender installed, so the others install too.
use Rattle.std.specs.Prelude.{◌≡◌, refl, List, [], ◌∷◌, None, codes, pos}
use Rattle.cg_action.specs.declared.command.Cmd.TheVariants.{Put}
use Rattle.cg_action.specs.declared.value.Value.TheVariants.{Int}
use Rattle.cg_schedule.specs.declared.event.Event.{Event}
use Rattle.cg_schedule.specs.declared.event.Event.TheVariants.{Start, Split, Merge, Request, Order, Gather, Receive, Deliver, Rounds}
use Rattle.cg_agree_cases.specs.Audit.{tried}
use Rattle.cg_agree_cases.specs.Computing.{cases_compute}
use Rattle.cg_base.specs.Weights.{each_once}

abbrev action_in_the_transitional_list_proves_the_installation : List Event
action_in_the_transitional_list_proves_the_installation =
    Start (each_once (1 ∷ 2 ∷ 3 ∷ []))
    ∷ Merge (1 ∷ 2 ∷ 3 ∷ [])
    ∷ Rounds 1
    ∷ Gather
    ∷ Deliver 1 3
    ∷ Request 1 (Put (codes "x") (Int (pos 1)) ∷ []) None
    ∷ Order 1
    ∷ Receive 2 7
    ∷ Split (2 ∷ 3 ∷ [])
    ∷ []

action_in_the_transitional_list_proves_the_installation_holds : (tried action_in_the_transitional_list_proves_the_installation).failed ≡ []
unfolding cases_compute
action_in_the_transitional_list_proves_the_installation_holds = refl
