-- Of two equal halves the one with the least identifier forms the next primary.
use Rattle.std.specs.Prelude.{◌≡◌, refl, List, [], ◌∷◌}
use Rattle.cg_schedule.specs.declared.event.Event.{Event}
use Rattle.cg_schedule.specs.declared.event.Event.TheVariants.{Start, Split, Merge, Rounds}
use Rattle.cg_agree_cases.specs.Audit.{tried}
use Rattle.cg_agree_cases.specs.Computing.{cases_compute}
use Rattle.cg_base.specs.Weights.{each_once}

abbrev tie_won_by_the_least_identifier : List Event
tie_won_by_the_least_identifier =
    Start (each_once (1 ∷ 2 ∷ 3 ∷ 4 ∷ []))
    ∷ Merge (1 ∷ 2 ∷ 3 ∷ 4 ∷ [])
    ∷ Rounds 2
    ∷ Split (1 ∷ 2 ∷ [])
    ∷ Split (3 ∷ 4 ∷ [])
    ∷ Merge (1 ∷ 2 ∷ [])
    ∷ Merge (3 ∷ 4 ∷ [])
    ∷ Rounds 2
    ∷ []

tie_won_by_the_least_identifier_holds : (tried tie_won_by_the_least_identifier).failed ≡ []
unfolding cases_compute
tie_won_by_the_least_identifier_holds = refl
