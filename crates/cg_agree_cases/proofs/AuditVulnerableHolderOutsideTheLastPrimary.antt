-- A replica outside the last known primary keeps its record of an attempt, and so no second primary comes from one index.
use Rattle.std.specs.Prelude.{◌≡◌, refl, List, [], ◌∷◌, None, codes, pos}
use Rattle.cg_action.specs.declared.command.Cmd.TheVariants.{Put}
use Rattle.cg_action.specs.declared.value.Value.TheVariants.{Int}
use Rattle.cg_schedule.specs.declared.event.Event.{Event}
use Rattle.cg_schedule.specs.declared.event.Event.TheVariants.{Start, Split, Merge, Request, Recover, Gather, Deliver, Rounds, Stop}
use Rattle.cg_agree_cases.specs.Audit.{tried}
use Rattle.cg_agree_cases.specs.Computing.{cases_compute}
use Rattle.cg_base.specs.Weights.{each_once}

abbrev vulnerable_holder_outside_the_last_primary : List Event
vulnerable_holder_outside_the_last_primary =
    Start (each_once (1 ∷ 2 ∷ 3 ∷ 4 ∷ []))
    ∷ Merge (1 ∷ 2 ∷ 3 ∷ [])
    ∷ Rounds 2
    ∷ Split (1 ∷ 2 ∷ [])
    ∷ Split (3 ∷ [])
    ∷ Merge (1 ∷ 2 ∷ 4 ∷ [])
    ∷ Rounds 1
    ∷ Gather
    ∷ Deliver 1 3
    ∷ Request 1 (Put (codes "x") (Int (pos 1)) ∷ []) None
    ∷ Gather
    ∷ Deliver 1 1
    ∷ Stop 2 0 []
    ∷ Stop 4 0 []
    ∷ Recover 4
    ∷ Recover 2
    ∷ Merge (4 ∷ [])
    ∷ Rounds 1
    ∷ Split (4 ∷ [])
    ∷ Merge (2 ∷ 3 ∷ 4 ∷ [])
    ∷ Rounds 1
    ∷ Split (2 ∷ 3 ∷ 4 ∷ [])
    ∷ Split (1 ∷ [])
    ∷ Merge (1 ∷ 2 ∷ 3 ∷ 4 ∷ [])
    ∷ Rounds 3
    ∷ []

vulnerable_holder_outside_the_last_primary_holds : (tried vulnerable_holder_outside_the_last_primary).failed ≡ []
unfolding cases_compute
vulnerable_holder_outside_the_last_primary_holds = refl
