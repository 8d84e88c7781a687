-- A schedule that was drawn: two replicas that split and merge alone.
use Rattle.std.specs.Prelude.{◌≡◌, refl, List, [], ◌∷◌, None, codes, pos}
use Rattle.cg_action.specs.declared.command.Cmd.TheVariants.{Put}
use Rattle.cg_action.specs.declared.value.Value.TheVariants.{Int}
use Rattle.cg_schedule.specs.declared.event.Event.{Event}
use Rattle.cg_schedule.specs.declared.event.Event.TheVariants.{Start, Split, Merge, Request, Gather, Deliver, Rounds}
use Rattle.cg_agree_cases.specs.Audit.{tried}
use Rattle.cg_agree_cases.specs.Computing.{cases_compute}
use Rattle.cg_base.specs.Weights.{each_once}

abbrev drawn_3872 : List Event
drawn_3872 =
    Start (each_once (1 ∷ 2 ∷ []))
    ∷ Merge (1 ∷ [])
    ∷ Split (1 ∷ [])
    ∷ Request 2 (Put (codes "x") (Int (pos 1)) ∷ []) None
    ∷ Merge (1 ∷ 2 ∷ [])
    ∷ Gather
    ∷ Rounds 2
    ∷ Request 2 (Put (codes "x") (Int (pos 1)) ∷ []) None
    ∷ Gather
    ∷ Deliver 1 2
    ∷ Split (2 ∷ [])
    ∷ Gather
    ∷ Split (1 ∷ [])
    ∷ Merge (1 ∷ [])
    ∷ Merge (2 ∷ [])
    ∷ Gather
    ∷ Rounds 2
    ∷ []

drawn_3872_holds : (tried drawn_3872).failed ≡ []
unfolding cases_compute
drawn_3872_holds = refl
