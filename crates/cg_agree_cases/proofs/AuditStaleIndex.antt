-- Two members enter an attempt from an index from which a third one has installed another attempt since.
use Rattle.std.specs.Prelude.{◌≡◌, refl, List, [], ◌∷◌}
use Rattle.cg_schedule.specs.declared.event.Event.{Event}
use Rattle.cg_schedule.specs.declared.event.Event.TheVariants.{Start, Split, Merge, Gather, Deliver, Rounds}
use Rattle.cg_agree_cases.specs.Audit.{tried}
use Rattle.cg_agree_cases.specs.Computing.{cases_compute}

abbrev stale_index : List Event
stale_index =
    Start (record { id = 1; weight = 1 } ∷ record { id = 2; weight = 1 } ∷ record { id = 3; weight = 3 } ∷ [])
    ∷ Merge (1 ∷ 2 ∷ 3 ∷ [])
    ∷ Rounds 2
    ∷ Split (1 ∷ 2 ∷ 3 ∷ [])
    ∷ Merge (1 ∷ 2 ∷ 3 ∷ [])
    ∷ Gather
    ∷ Split (3 ∷ [])
    ∷ Merge (3 ∷ [])
    ∷ Gather
    ∷ Deliver 3 1
    ∷ Gather
    ∷ Deliver 3 1
    ∷ Deliver 1 3
    ∷ Deliver 2 3
    ∷ Split (1 ∷ 2 ∷ [])
    ∷ Merge (1 ∷ 2 ∷ [])
    ∷ Rounds 2
    ∷ Split (1 ∷ 2 ∷ [])
    ∷ Split (3 ∷ [])
    ∷ Merge (1 ∷ 2 ∷ 3 ∷ [])
    ∷ Rounds 4
    ∷ []

stale_index_holds : (tried stale_index).failed ≡ []
unfolding cases_compute
stale_index_holds = refl
