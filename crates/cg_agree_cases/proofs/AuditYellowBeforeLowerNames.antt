-- What is yellow is made green before red actions with lower names.
use Rattle.std.specs.Prelude.{◌≡◌, refl, List, [], ◌∷◌, None, codes, pos}
use Rattle.cg_action.specs.declared.command.Cmd.TheVariants.{Put}
use Rattle.cg_action.specs.declared.value.Value.TheVariants.{Int}
use Rattle.cg_schedule.specs.declared.event.Event.{Event}
use Rattle.cg_schedule.specs.declared.event.Event.TheVariants.{Start, Split, Merge, Request, Order, Receive, Rounds}
use Rattle.cg_agree_cases.specs.Audit.{tried}
use Rattle.cg_agree_cases.specs.Computing.{cases_compute}
use Rattle.cg_base.specs.Weights.{each_once}

abbrev yellow_before_lower_names : List Event
yellow_before_lower_names =
    Start (each_once (1 ∷ 2 ∷ 3 ∷ []))
    ∷ Merge (1 ∷ 2 ∷ 3 ∷ [])
    ∷ Rounds 2
    ∷ Request 3 (Put (codes "b") (Int (pos 2)) ∷ []) None
    ∷ Request 1 (Put (codes "a") (Int (pos 1)) ∷ []) None
    ∷ Order 3
    ∷ Receive 1 7
    ∷ Receive 2 7
    ∷ Split (1 ∷ 2 ∷ 3 ∷ [])
    ∷ Merge (1 ∷ 2 ∷ 3 ∷ [])
    ∷ Rounds 4
    ∷ []

yellow_before_lower_names_holds : (tried yellow_before_lower_names).failed ≡ []
unfolding cases_compute
yellow_before_lower_names_holds = refl
