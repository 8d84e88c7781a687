-- Two members that heard all but could not tell whether the third installed wait until they meet it again.
use Rattle.std.specs.Prelude.{◌≡◌, refl, List, [], ◌∷◌}
use Rattle.cg_schedule.specs.declared.event.Event.{Event}
use Rattle.cg_schedule.specs.declared.event.Event.TheVariants.{Start, Split, Merge, Gather, Deliver, Rounds}
use Rattle.cg_agree_cases.specs.Audit.{tried}
use Rattle.cg_agree_cases.specs.Computing.{cases_compute}
use Rattle.cg_base.specs.Weights.{each_once}

abbrev two_of_three_cannot_know_the_third_installed : List Event
two_of_three_cannot_know_the_third_installed =
    Start (each_once (1 ∷ 2 ∷ 3 ∷ []))
    ∷ Merge (1 ∷ 2 ∷ 3 ∷ [])
    ∷ Rounds 1
    ∷ Gather
    ∷ Deliver 1 3
    ∷ Split (2 ∷ 3 ∷ [])
    ∷ Merge (2 ∷ 3 ∷ [])
    ∷ Rounds 1
    ∷ Split (2 ∷ 3 ∷ [])
    ∷ Split (1 ∷ [])
    ∷ Merge (1 ∷ 2 ∷ 3 ∷ [])
    ∷ Rounds 2
    ∷ []

two_of_three_cannot_know_the_third_installed_holds : (tried two_of_three_cannot_know_the_third_installed).failed ≡ []
unfolding cases_compute
two_of_three_cannot_know_the_third_installed_holds = refl
