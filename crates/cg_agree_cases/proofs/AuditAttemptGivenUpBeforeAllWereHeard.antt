-- An attempt in which one member was not heard is given up and made again.
use Rattle.std.specs.Prelude.{◌≡◌, refl, List, [], ◌∷◌}
use Rattle.cg_schedule.specs.declared.event.Event.{Event}
use Rattle.cg_schedule.specs.declared.event.Event.TheVariants.{Start, Split, Merge, Order, Rounds}
use Rattle.cg_agree_cases.specs.Audit.{tried}
use Rattle.cg_agree_cases.specs.Computing.{cases_compute}
use Rattle.cg_base.specs.Weights.{each_once}

abbrev attempt_given_up_before_all_were_heard : List Event
attempt_given_up_before_all_were_heard =
    Start (each_once (1 ∷ 2 ∷ 3 ∷ []))
    ∷ Merge (1 ∷ 2 ∷ 3 ∷ [])
    ∷ Rounds 1
    ∷ Order 1
    ∷ Order 2
    ∷ Split (1 ∷ 2 ∷ 3 ∷ [])
    ∷ Merge (1 ∷ 2 ∷ 3 ∷ [])
    ∷ Rounds 2
    ∷ []

attempt_given_up_before_all_were_heard_holds : (tried attempt_given_up_before_all_were_heard).failed ≡ []
unfolding cases_compute
attempt_given_up_before_all_were_heard_holds = refl
