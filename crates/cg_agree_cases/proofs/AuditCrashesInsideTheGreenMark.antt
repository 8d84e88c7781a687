-- Two replicas crash inside the commit of one green mark, and one of them has it after the crash.
use Rattle.std.specs.Prelude.{◌≡◌, refl, List, [], ◌∷◌, None, codes, pos}
use Rattle.cg_action.specs.declared.command.Cmd.TheVariants.{Put}
use Rattle.cg_action.specs.declared.value.Value.TheVariants.{Int}
use Rattle.cg_schedule.specs.declared.event.Event.{Event}
use Rattle.cg_schedule.specs.declared.event.Event.TheVariants.{Start, Merge, Request, Recover, Gather, Deliver, Rounds, Stop}
use Rattle.cg_agree_cases.specs.Audit.{tried}
use Rattle.cg_agree_cases.specs.Computing.{cases_compute}
use Rattle.cg_base.specs.Weights.{each_once}

abbrev crashes_inside_the_green_mark : List Event
crashes_inside_the_green_mark =
    Start (each_once (1 ∷ 2 ∷ 3 ∷ []))
    ∷ Merge (1 ∷ 2 ∷ 3 ∷ [])
    ∷ Rounds 2
    ∷ Request 1 (Put (codes "x") (Int (pos 1)) ∷ []) None
    ∷ Gather
    ∷ Stop 1 3 (1 ∷ [])
    ∷ Stop 2 3 (7 ∷ [])
    ∷ Deliver 1 1
    ∷ Deliver 2 1
    ∷ Stop 3 0 []
    ∷ Recover 1
    ∷ Recover 2
    ∷ Recover 3
    ∷ Merge (1 ∷ 2 ∷ 3 ∷ [])
    ∷ Rounds 3
    ∷ []

crashes_inside_the_green_mark_holds : (tried crashes_inside_the_green_mark).failed ≡ []
unfolding cases_compute
crashes_inside_the_green_mark_holds = refl
