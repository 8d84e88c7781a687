-- Where the only server left is one that has not begun, actions turn green and white in one commit, and their order is shown all the same.
use Rattle.std.specs.Prelude.{◌≡◌, refl, List, [], ◌∷◌, None, codes, pos}
use Rattle.cg_action.specs.declared.command.Cmd.TheVariants.{Put}
use Rattle.cg_action.specs.declared.value.Value.TheVariants.{Int}
use Rattle.cg_schedule.specs.declared.event.Event.{Event}
use Rattle.cg_schedule.specs.declared.event.Event.TheVariants.{Start, Merge, Request, Show, ShowOrder, Rounds, Join, Leave, Transfer}
use Rattle.cg_agree_cases.specs.Audit.{tried}
use Rattle.cg_agree_cases.specs.Computing.{cases_compute}
use Rattle.cg_base.specs.Weights.{each_once}

abbrev actions_discarded_by_the_commit_that_makes_them_green : List Event
actions_discarded_by_the_commit_that_makes_them_green =
    Start (each_once (1 ∷ []))
    ∷ Merge (1 ∷ [])
    ∷ Rounds 2
    ∷ Join 1 24 1
    ∷ Leave 1 1
    ∷ Request 1 (Put (codes "x") (Int (pos 1)) ∷ []) None
    ∷ Rounds 1
    ∷ Show 1
    ∷ ShowOrder
    ∷ Transfer 1 24 9
    ∷ []

actions_discarded_by_the_commit_that_makes_them_green_holds : (tried actions_discarded_by_the_commit_that_makes_them_green).failed ≡ []
unfolding cases_compute
actions_discarded_by_the_commit_that_makes_them_green_holds = refl
