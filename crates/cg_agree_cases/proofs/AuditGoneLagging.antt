-- A server that was removed while it was away lags behind in an exchange, and leaves in the midst of it.
use Rattle.std.specs.Prelude.{◌≡◌, refl, List, [], ◌∷◌, None, codes, pos}
use Rattle.cg_action.specs.declared.command.Cmd.TheVariants.{Put}
use Rattle.cg_action.specs.declared.value.Value.TheVariants.{Int}
use Rattle.cg_schedule.specs.declared.event.Event.{Event}
use Rattle.cg_schedule.specs.declared.event.Event.TheVariants.{Start, Split, Merge, Request, Gather, Deliver, Rounds, Leave}
use Rattle.cg_agree_cases.specs.Audit.{tried}
use Rattle.cg_agree_cases.specs.Computing.{cases_compute}
use Rattle.cg_base.specs.Weights.{each_once}

abbrev gone_lagging : List Event
gone_lagging =
    Start (each_once (1 ∷ 2 ∷ 3 ∷ []))
    ∷ Merge (1 ∷ 2 ∷ 3 ∷ [])
    ∷ Rounds 2
    ∷ Split (1 ∷ 2 ∷ [])
    ∷ Split (3 ∷ [])
    ∷ Merge (1 ∷ 2 ∷ [])
    ∷ Merge (3 ∷ [])
    ∷ Rounds 2
    ∷ Request 3 (Put (codes "z") (Int (pos 9)) ∷ []) None
    ∷ Leave 1 3
    ∷ Rounds 1
    ∷ Split (1 ∷ 2 ∷ [])
    ∷ Split (3 ∷ [])
    ∷ Merge (1 ∷ 2 ∷ 3 ∷ [])
    ∷ Gather
    ∷ Deliver 1 3
    ∷ Deliver 2 3
    ∷ Deliver 3 3
    ∷ Gather
    ∷ Deliver 1 1
    ∷ Deliver 2 1
    ∷ Gather
    ∷ Deliver 1 2
    ∷ Deliver 2 2
    ∷ Request 1 (Put (codes "y") (Int (pos 2)) ∷ []) None
    ∷ Gather
    ∷ Split (3 ∷ [])
    ∷ []

gone_lagging_holds : (tried gone_lagging).failed ≡ []
unfolding cases_compute
gone_lagging_holds = refl
