-- A server that was removed while it was away becomes Left at the next exchange, and a merge that names it is refused.
use Rattle.std.specs.Prelude.{◌≡◌, refl, List, [], ◌∷◌, None, codes, pos}
use Rattle.cg_action.specs.declared.command.Cmd.TheVariants.{Put}
use Rattle.cg_action.specs.declared.value.Value.TheVariants.{Int}
use Rattle.cg_schedule.specs.declared.event.Event.{Event}
use Rattle.cg_schedule.specs.declared.event.Event.TheVariants.{Start, Split, Merge, Request, Rounds, Leave}
use Rattle.cg_agree_cases.specs.Audit.{tried}
use Rattle.cg_agree_cases.specs.Computing.{cases_compute}
use Rattle.cg_base.specs.Weights.{each_once}

abbrev leaver_is_told_and_refused_and_white_actions_are_discarded : List Event
leaver_is_told_and_refused_and_white_actions_are_discarded =
    Start (each_once (1 ∷ 2 ∷ 3 ∷ []))
    ∷ Merge (1 ∷ 2 ∷ 3 ∷ [])
    ∷ Rounds 2
    ∷ Split (1 ∷ 2 ∷ [])
    ∷ Split (3 ∷ [])
    ∷ Merge (1 ∷ 2 ∷ [])
    ∷ Merge (3 ∷ [])
    ∷ Rounds 2
    ∷ Request 3 (Put (codes "z") (Int (pos 9)) ∷ []) None
    ∷ Leave 1 3
    ∷ Rounds 1
    ∷ Request 1 (Put (codes "a") (Int (pos 1)) ∷ []) None
    ∷ Request 2 (Put (codes "b") (Int (pos 2)) ∷ []) None
    ∷ Rounds 1
    ∷ Split (1 ∷ 2 ∷ [])
    ∷ Split (3 ∷ [])
    ∷ Merge (1 ∷ 2 ∷ 3 ∷ [])
    ∷ Rounds 3
    ∷ Split (1 ∷ 2 ∷ 3 ∷ [])
    ∷ []

leaver_is_told_and_refused_and_white_actions_are_discarded_holds : (tried leaver_is_told_and_refused_and_white_actions_are_discarded).failed ≡ []
unfolding cases_compute
leaver_is_told_and_refused_and_white_actions_are_discarded_holds = refl
