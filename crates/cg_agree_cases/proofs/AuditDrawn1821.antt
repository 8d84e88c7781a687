-- A schedule that was drawn: a request before any configuration, a crash, a recovery, and a crash inside a split.
use Rattle.std.specs.Prelude.{◌≡◌, refl, List, [], ◌∷◌, None, codes, pos}
use Rattle.cg_action.specs.declared.command.Cmd.TheVariants.{Put}
use Rattle.cg_action.specs.declared.value.Value.TheVariants.{Int}
use Rattle.cg_schedule.specs.declared.event.Event.{Event}
use Rattle.cg_schedule.specs.declared.event.Event.TheVariants.{Start, Split, Merge, Request, Recover, Gather, Rounds, Stop}
use Rattle.cg_agree_cases.specs.Audit.{tried}
use Rattle.cg_agree_cases.specs.Computing.{cases_compute}
use Rattle.cg_base.specs.Weights.{each_once}

abbrev drawn_1821 : List Event
drawn_1821 =
    Start (each_once (1 ∷ 2 ∷ 3 ∷ []))
    ∷ Gather
    ∷ Request 3 (Put (codes "x") (Int (pos 1)) ∷ []) None
    ∷ Merge (1 ∷ 2 ∷ 3 ∷ [])
    ∷ Rounds 3
    ∷ Stop 1 0 []
    ∷ Split (2 ∷ 3 ∷ [])
    ∷ Merge (2 ∷ 3 ∷ [])
    ∷ Recover 1
    ∷ Rounds 1
    ∷ Split (3 ∷ [])
    ∷ Stop 3 3 (1 ∷ [])
    ∷ []

drawn_1821_holds : (tried drawn_1821).failed ≡ []
unfolding cases_compute
drawn_1821_holds = refl
