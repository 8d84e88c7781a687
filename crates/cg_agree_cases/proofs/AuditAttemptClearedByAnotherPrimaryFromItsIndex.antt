-- Two holders of a record, who meet a primary that others made from the same index, are no longer held up by it.
use Rattle.std.specs.Prelude.{◌≡◌, refl, List, [], ◌∷◌}
use Rattle.cg_schedule.specs.declared.event.Event.{Event}
use Rattle.cg_schedule.specs.declared.event.Event.TheVariants.{Start, Split, Merge, Order, Gather, Receive, Deliver, Rounds}
use Rattle.cg_agree_cases.specs.Audit.{tried}
use Rattle.cg_agree_cases.specs.Computing.{cases_compute}
use Rattle.cg_base.specs.Weights.{each_once}

abbrev attempt_cleared_by_another_primary_from_its_index : List Event
attempt_cleared_by_another_primary_from_its_index =
    Start (each_once (1 ∷ 2 ∷ 3 ∷ 4 ∷ 5 ∷ []))
    ∷ Merge (1 ∷ 2 ∷ 3 ∷ 4 ∷ 5 ∷ [])
    ∷ Rounds 2
    ∷ Split (1 ∷ 2 ∷ 3 ∷ [])
    ∷ Split (4 ∷ 5 ∷ [])
    ∷ Merge (1 ∷ 2 ∷ 3 ∷ [])
    ∷ Gather
    ∷ Deliver 1 3
    ∷ Deliver 2 3
    ∷ Deliver 3 3
    ∷ Order 1
    ∷ Order 2
    ∷ Order 3
    ∷ Receive 2 4
    ∷ Receive 2 6
    ∷ Split (2 ∷ 3 ∷ [])
    ∷ Split (1 ∷ [])
    ∷ Merge (1 ∷ 4 ∷ 5 ∷ [])
    ∷ Rounds 3
    ∷ Split (4 ∷ 5 ∷ [])
    ∷ Merge (2 ∷ 3 ∷ 4 ∷ 5 ∷ [])
    ∷ Rounds 2
    ∷ []

attempt_cleared_by_another_primary_from_its_index_holds : (tried attempt_cleared_by_another_primary_from_its_index).failed ≡ []
unfolding cases_compute
attempt_cleared_by_another_primary_from_its_index_holds = refl
