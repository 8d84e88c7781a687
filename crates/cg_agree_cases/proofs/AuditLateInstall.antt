-- A member installs an attempt after the others have left it and have ended the next exchange.
use Rattle.std.specs.Prelude.{◌≡◌, refl, List, [], ◌∷◌, None, codes, pos}
use Rattle.cg_action.specs.declared.command.Cmd.TheVariants.{Put}
use Rattle.cg_action.specs.declared.value.Value.TheVariants.{Int}
use Rattle.cg_schedule.specs.declared.event.Event.{Event}
use Rattle.cg_schedule.specs.declared.event.Event.TheVariants.{Start, Split, Merge, Request, Gather, Deliver, Rounds}
use Rattle.cg_agree_cases.specs.Audit.{tried}
use Rattle.cg_agree_cases.specs.Computing.{cases_compute}
use Rattle.cg_base.specs.Weights.{each_once}

abbrev late_install : List Event
late_install =
    Start (each_once (1 ∷ 2 ∷ 3 ∷ []))
    ∷ Merge (1 ∷ 2 ∷ 3 ∷ [])
    ∷ Rounds 1
    ∷ Gather
    ∷ Deliver 1 3
    ∷ Deliver 2 3
    ∷ Request 1 (Put (codes "x") (Int (pos 1)) ∷ []) None
    ∷ Gather
    ∷ Split (1 ∷ 2 ∷ [])
    ∷ Merge (1 ∷ 2 ∷ [])
    ∷ Gather
    ∷ Deliver 1 2
    ∷ Deliver 2 2
    ∷ Gather
    ∷ Deliver 1 2
    ∷ Deliver 2 2
    ∷ Deliver 3 4
    ∷ []

late_install_holds : (tried late_install).failed ≡ []
unfolding cases_compute
late_install_holds = refl
