-- A replica outside of a primary component has greens from a member of it that is down now.
use Rattle.std.specs.Prelude.{◌≡◌, refl, List, [], ◌∷◌, None, codes, pos}
use Rattle.cg_action.specs.declared.command.Cmd.TheVariants.{Put}
use Rattle.cg_action.specs.declared.value.Value.TheVariants.{Int}
use Rattle.cg_schedule.specs.declared.event.Event.{Event}
use Rattle.cg_schedule.specs.declared.event.Event.TheVariants.{Start, Split, Merge, Request, Recover, Gather, Deliver, Rounds, Stop}
use Rattle.cg_agree_cases.specs.Audit.{tried}
use Rattle.cg_agree_cases.specs.Computing.{cases_compute}
use Rattle.cg_base.specs.Weights.{each_once}

abbrev outside_set : List Event
outside_set =
    Start (each_once (1 ∷ 2 ∷ 3 ∷ 4 ∷ []))
    ∷ Merge (1 ∷ 2 ∷ 3 ∷ [])
    ∷ Rounds 2
    ∷ Request 1 (Put (codes "x") (Int (pos 1)) ∷ []) None
    ∷ Gather
    ∷ Deliver 1 1
    ∷ Stop 1 0 []
    ∷ Recover 1
    ∷ Split (2 ∷ 3 ∷ [])
    ∷ Merge (1 ∷ 4 ∷ [])
    ∷ Rounds 3
    ∷ Stop 1 0 []
    ∷ Split (4 ∷ [])
    ∷ Merge (2 ∷ 3 ∷ 4 ∷ [])
    ∷ Rounds 4
    ∷ []

outside_set_holds : (tried outside_set).failed ≡ []
unfolding cases_compute
outside_set_holds = refl
