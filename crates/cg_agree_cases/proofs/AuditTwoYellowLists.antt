-- Two yellow lists have different gaps; what any member can have made green stands in both.
use Rattle.std.specs.Prelude.{◌≡◌, refl, List, [], ◌∷◌, None, codes, pos}
use Rattle.cg_action.specs.declared.command.Cmd.TheVariants.{Put}
use Rattle.cg_action.specs.declared.value.Value.TheVariants.{Int}
use Rattle.cg_schedule.specs.declared.event.Event.{Event}
use Rattle.cg_schedule.specs.declared.event.Event.TheVariants.{Start, Split, Merge, Request, Order, Receive, Rounds}
use Rattle.cg_agree_cases.specs.Audit.{tried}
use Rattle.cg_agree_cases.specs.Computing.{cases_compute}
use Rattle.cg_base.specs.Weights.{each_once}

abbrev two_yellow_lists : List Event
two_yellow_lists =
    Start (each_once (1 ∷ 2 ∷ 3 ∷ []))
    ∷ Merge (1 ∷ 2 ∷ 3 ∷ [])
    ∷ Rounds 2
    ∷ Request 1 (Put (codes "a") (Int (pos 1)) ∷ []) None
    ∷ Request 3 (Put (codes "b") (Int (pos 2)) ∷ []) None
    ∷ Request 2 (Put (codes "c") (Int (pos 3)) ∷ []) None
    ∷ Order 1
    ∷ Order 3
    ∷ Order 2
    ∷ Receive 2 7
    ∷ Split (2 ∷ [])
    ∷ Split (1 ∷ 3 ∷ [])
    ∷ Merge (1 ∷ 2 ∷ 3 ∷ [])
    ∷ Rounds 4
    ∷ []

two_yellow_lists_holds : (tried two_yellow_lists).failed ≡ []
unfolding cases_compute
two_yellow_lists_holds = refl
