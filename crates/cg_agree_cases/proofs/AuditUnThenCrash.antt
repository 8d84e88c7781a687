-- A member that can not tell whether its attempt was installed crashes, and its record outlives the crash.
use Rattle.std.specs.Prelude.{◌≡◌, refl, List, [], ◌∷◌, None, codes, pos}
use Rattle.cg_action.specs.declared.command.Cmd.TheVariants.{Put}
use Rattle.cg_action.specs.declared.value.Value.TheVariants.{Int}
use Rattle.cg_schedule.specs.declared.event.Event.{Event}
use Rattle.cg_schedule.specs.declared.event.Event.TheVariants.{Start, Split, Merge, Request, Recover, Gather, Deliver, Rounds, Stop}
use Rattle.cg_agree_cases.specs.Audit.{tried}
use Rattle.cg_agree_cases.specs.Computing.{cases_compute}
use Rattle.cg_base.specs.Weights.{each_once}

abbrev un_then_crash : List Event
un_then_crash =
    Start (each_once (1 ∷ 2 ∷ 3 ∷ []))
    ∷ Merge (1 ∷ 2 ∷ 3 ∷ [])
    ∷ Rounds 1
    ∷ Gather
    ∷ Deliver 1 3
    ∷ Request 1 (Put (codes "x") (Int (pos 1)) ∷ []) None
    ∷ Split (2 ∷ 3 ∷ [])
    ∷ Stop 2 0 []
    ∷ Recover 2
    ∷ Merge (2 ∷ 3 ∷ [])
    ∷ Rounds 3
    ∷ Split (2 ∷ 3 ∷ [])
    ∷ Split (1 ∷ [])
    ∷ Merge (1 ∷ 2 ∷ 3 ∷ [])
    ∷ Rounds 4
    ∷ []

un_then_crash_holds : (tried un_then_crash).failed ≡ []
unfolding cases_compute
un_then_crash_holds = refl
