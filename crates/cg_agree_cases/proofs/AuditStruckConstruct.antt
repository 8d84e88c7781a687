-- A member crashes in the commit that enters an attempt: its disk has the record, and its announcement is never sent.
use Rattle.std.specs.Prelude.{◌≡◌, refl, List, [], ◌∷◌}
use Rattle.cg_schedule.specs.declared.event.Event.{Event}
use Rattle.cg_schedule.specs.declared.event.Event.TheVariants.{Start, Split, Merge, Recover, Gather, Deliver, Rounds, Stop}
use Rattle.cg_agree_cases.specs.Audit.{tried}
use Rattle.cg_agree_cases.specs.Computing.{cases_compute}
use Rattle.cg_base.specs.Weights.{each_once}

abbrev struck_construct : List Event
struck_construct =
    Start (each_once (1 ∷ 2 ∷ 3 ∷ []))
    ∷ Merge (1 ∷ 2 ∷ 3 ∷ [])
    ∷ Gather
    ∷ Stop 1 3 (1 ∷ [])
    ∷ Deliver 1 3
    ∷ Deliver 2 3
    ∷ Deliver 3 3
    ∷ Recover 1
    ∷ Split (2 ∷ 3 ∷ [])
    ∷ Merge (1 ∷ 2 ∷ 3 ∷ [])
    ∷ Rounds 4
    ∷ []

struck_construct_holds : (tried struck_construct).failed ≡ []
unfolding cases_compute
struck_construct_holds = refl
