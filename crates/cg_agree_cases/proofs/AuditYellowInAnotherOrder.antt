-- A yellow list stands in the order of the places, and not in that of names.
use Rattle.std.specs.Prelude.{◌≡◌, refl, List, [], ◌∷◌, None, codes, pos}
use Rattle.cg_action.specs.declared.command.Cmd.TheVariants.{Put}
use Rattle.cg_action.specs.declared.value.Value.TheVariants.{Int}
use Rattle.cg_schedule.specs.declared.event.Event.{Event}
use Rattle.cg_schedule.specs.declared.event.Event.TheVariants.{Start, Split, Merge, Request, Order, Receive, Deliver, Rounds}
use Rattle.cg_agree_cases.specs.Audit.{tried}
use Rattle.cg_agree_cases.specs.Computing.{cases_compute}
use Rattle.cg_base.specs.Weights.{each_once}

abbrev yellow_in_another_order : List Event
yellow_in_another_order =
    Start (each_once (1 ∷ 2 ∷ 3 ∷ []))
    ∷ Merge (1 ∷ 2 ∷ 3 ∷ [])
    ∷ Rounds 2
    ∷ Request 3 (Put (codes "b") (Int (pos 2)) ∷ []) None
    ∷ Request 1 (Put (codes "a") (Int (pos 1)) ∷ []) None
    ∷ Order 3
    ∷ Order 1
    ∷ Receive 1 7
    ∷ Receive 2 7
    ∷ Receive 2 8
    ∷ Receive 3 8
    ∷ Deliver 3 1
    ∷ Split (1 ∷ 2 ∷ [])
    ∷ Merge (1 ∷ 2 ∷ [])
    ∷ Rounds 4
    ∷ []

yellow_in_another_order_holds : (tried yellow_in_another_order).failed ≡ []
unfolding cases_compute
yellow_in_another_order_holds = refl
