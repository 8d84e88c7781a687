-- All three replicas crash where one alone has installed an attempt and made an action green; two of them wait for it.
use Rattle.std.specs.Prelude.{◌≡◌, refl, List, [], ◌∷◌, None, codes, pos}
use Rattle.cg_action.specs.declared.command.Cmd.TheVariants.{Put}
use Rattle.cg_action.specs.declared.value.Value.TheVariants.{Int}
use Rattle.cg_schedule.specs.declared.event.Event.{Event}
use Rattle.cg_schedule.specs.declared.event.Event.TheVariants.{Start, Split, Merge, Request, Recover, Gather, Deliver, Rounds, Stop}
use Rattle.cg_agree_cases.specs.Audit.{tried}
use Rattle.cg_agree_cases.specs.Computing.{cases_compute}
use Rattle.cg_base.specs.Weights.{each_once}

abbrev crash_all : List Event
crash_all =
    Start (each_once (1 ∷ 2 ∷ 3 ∷ []))
    ∷ Merge (1 ∷ 2 ∷ 3 ∷ [])
    ∷ Rounds 1
    ∷ Gather
    ∷ Deliver 1 3
    ∷ Deliver 2 3
    ∷ Request 1 (Put (codes "x") (Int (pos 1)) ∷ []) None
    ∷ Gather
    ∷ Deliver 1 1
    ∷ Stop 1 0 []
    ∷ Stop 2 0 []
    ∷ Stop 3 0 []
    ∷ Recover 2
    ∷ Recover 3
    ∷ Merge (2 ∷ 3 ∷ [])
    ∷ Rounds 3
    ∷ Split (2 ∷ 3 ∷ [])
    ∷ Recover 1
    ∷ Merge (1 ∷ 2 ∷ 3 ∷ [])
    ∷ Rounds 4
    ∷ []

crash_all_holds : (tried crash_all).failed ≡ []
unfolding cases_compute
crash_all_holds = refl
