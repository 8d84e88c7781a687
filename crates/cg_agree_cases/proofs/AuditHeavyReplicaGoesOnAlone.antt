-- A replica with more weight than the two others together forms a primary alone.
use Rattle.std.specs.Prelude.{◌≡◌, refl, List, [], ◌∷◌}
use Rattle.cg_schedule.specs.declared.event.Event.{Event}
use Rattle.cg_schedule.specs.declared.event.Event.TheVariants.{Start, Split, Merge, Rounds}
use Rattle.cg_agree_cases.specs.Audit.{tried}
use Rattle.cg_agree_cases.specs.Computing.{cases_compute}

abbrev heavy_replica_goes_on_alone : List Event
heavy_replica_goes_on_alone =
    Start (record { id = 1; weight = 3 } ∷ record { id = 2; weight = 1 } ∷ record { id = 3; weight = 1 } ∷ [])
    ∷ Merge (1 ∷ 2 ∷ 3 ∷ [])
    ∷ Rounds 2
    ∷ Split (1 ∷ [])
    ∷ Split (2 ∷ 3 ∷ [])
    ∷ Merge (1 ∷ [])
    ∷ Merge (2 ∷ 3 ∷ [])
    ∷ Rounds 2
    ∷ []

heavy_replica_goes_on_alone_holds : (tried heavy_replica_goes_on_alone).failed ≡ []
unfolding cases_compute
heavy_replica_goes_on_alone_holds = refl
