-- Two members end an exchange with the summary of a third one that has left and gone on.
use Rattle.std.specs.Prelude.{◌≡◌, refl, List, [], ◌∷◌, None, codes, pos}
use Rattle.cg_action.specs.declared.command.Cmd.TheVariants.{Put}
use Rattle.cg_action.specs.declared.value.Value.TheVariants.{Int}
use Rattle.cg_schedule.specs.declared.event.Event.{Event}
use Rattle.cg_schedule.specs.declared.event.Event.TheVariants.{Start, Split, Merge, Request, Gather, Deliver, Rounds}
use Rattle.cg_agree_cases.specs.Audit.{tried}
use Rattle.cg_agree_cases.specs.Computing.{cases_compute}
use Rattle.cg_base.specs.Weights.{each_once}

abbrev stale_summary : List Event
stale_summary =
    Start (each_once (1 ∷ 2 ∷ 3 ∷ []))
    ∷ Merge (1 ∷ 2 ∷ 3 ∷ [])
    ∷ Rounds 2
    ∷ Request 3 (Put (codes "x") (Int (pos 1)) ∷ []) None
    ∷ Gather
    ∷ Split (1 ∷ 2 ∷ 3 ∷ [])
    ∷ Merge (1 ∷ 2 ∷ 3 ∷ [])
    ∷ Gather
    ∷ Split (3 ∷ [])
    ∷ Deliver 1 3
    ∷ Deliver 2 3
    ∷ Merge (3 ∷ [])
    ∷ Rounds 3
    ∷ Split (1 ∷ 2 ∷ [])
    ∷ Merge (1 ∷ 2 ∷ [])
    ∷ Rounds 4
    ∷ []

stale_summary_holds : (tried stale_summary).failed ≡ []
unfolding cases_compute
stale_summary_holds = refl
