-- An action in a transitional list, whose predecessor was not received, is ignored.
use Rattle.std.specs.Prelude.{◌≡◌, refl, List, [], ◌∷◌, None, codes, pos}
use Rattle.cg_action.specs.declared.command.Cmd.TheVariants.{Put}
use Rattle.cg_action.specs.declared.value.Value.TheVariants.{Int}
use Rattle.cg_schedule.specs.declared.event.Event.{Event}
use Rattle.cg_schedule.specs.declared.event.Event.TheVariants.{Start, Split, Merge, Request, Order, Gather, Receive, Deliver, Rounds}
use Rattle.cg_agree_cases.specs.Audit.{tried}
use Rattle.cg_agree_cases.specs.Computing.{cases_compute}
use Rattle.cg_base.specs.Weights.{each_once}

abbrev ignored_gap : List Event
ignored_gap =
    Start (each_once (1 ∷ 2 ∷ 3 ∷ 4 ∷ 5 ∷ []))
    ∷ Merge (1 ∷ [])
    ∷ Rounds 1
    ∷ Request 1 (Put (codes "x") (Int (pos 1)) ∷ []) None
    ∷ Rounds 1
    ∷ Split (1 ∷ [])
    ∷ Merge (1 ∷ 2 ∷ [])
    ∷ Rounds 1
    ∷ Gather
    ∷ Deliver 1 1
    ∷ Request 1 (Put (codes "y") (Int (pos 2)) ∷ []) None
    ∷ Order 1
    ∷ Receive 2 4
    ∷ Split (2 ∷ [])
    ∷ []

ignored_gap_holds : (tried ignored_gap).failed ≡ []
unfolding cases_compute
ignored_gap_holds = refl
