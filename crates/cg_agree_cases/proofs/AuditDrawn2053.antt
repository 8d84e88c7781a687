-- A schedule that was drawn: requests before any configuration, a join within an exchange, and an uneven delivery.
use Rattle.std.specs.Prelude.{◌≡◌, refl, List, [], ◌∷◌, None, codes, pos}
use Rattle.cg_action.specs.declared.command.Cmd.TheVariants.{Put}
use Rattle.cg_action.specs.declared.value.Value.TheVariants.{Int}
use Rattle.cg_schedule.specs.declared.event.Event.{Event}
use Rattle.cg_schedule.specs.declared.event.Event.TheVariants.{Start, Merge, Request, Gather, Deliver, Rounds, Join}
use Rattle.cg_agree_cases.specs.Audit.{tried}
use Rattle.cg_agree_cases.specs.Computing.{cases_compute}
use Rattle.cg_base.specs.Weights.{each_once}

abbrev drawn_2053 : List Event
drawn_2053 =
    Start (each_once (1 ∷ 2 ∷ 3 ∷ []))
    ∷ Request 3 (Put (codes "x") (Int (pos 1)) ∷ []) None
    ∷ Request 1 (Put (codes "x") (Int (pos 1)) ∷ []) None
    ∷ Merge (1 ∷ 2 ∷ 3 ∷ [])
    ∷ Gather
    ∷ Join 1 6 1
    ∷ Request 3 (Put (codes "x") (Int (pos 1)) ∷ []) None
    ∷ Deliver 2 3
    ∷ Deliver 1 3
    ∷ Rounds 3
    ∷ Gather
    ∷ Request 2 (Put (codes "x") (Int (pos 1)) ∷ []) None
    ∷ Gather
    ∷ Deliver 2 1
    ∷ []

drawn_2053_holds : (tried drawn_2053).failed ≡ []
unfolding cases_compute
drawn_2053_holds = refl
