-- A request in a component without a quorum stays red, shows in a dirty answer, and is ordered after the merge.
use Rattle.std.specs.Prelude.{◌≡◌, refl, List, [], ◌∷◌, None, codes, pos}
use Rattle.cg_action.specs.declared.command.Cmd.TheVariants.{Put}
use Rattle.cg_action.specs.declared.query.Query.TheVariants.{Get}
use Rattle.cg_action.specs.declared.value.Value.TheVariants.{Int}
use Rattle.cg_schedule.specs.declared.event.Event.{Event}
use Rattle.cg_schedule.specs.declared.event.Event.TheVariants.{Start, Split, Merge, Request, Weak, Dirty, ShowOrder, Rounds}
use Rattle.cg_agree_cases.specs.Audit.{tried}
use Rattle.cg_agree_cases.specs.Computing.{cases_compute}
use Rattle.cg_base.specs.Weights.{each_once}

abbrev red_action_of_a_minority_is_ordered_after_the_merge : List Event
red_action_of_a_minority_is_ordered_after_the_merge =
    Start (each_once (1 ∷ 2 ∷ 3 ∷ []))
    ∷ Merge (1 ∷ 2 ∷ 3 ∷ [])
    ∷ Rounds 2
    ∷ Split (1 ∷ 2 ∷ [])
    ∷ Split (3 ∷ [])
    ∷ Merge (1 ∷ 2 ∷ [])
    ∷ Merge (3 ∷ [])
    ∷ Rounds 2
    ∷ Request 3 (Put (codes "a") (Int (pos 1)) ∷ []) None
    ∷ Request 1 (Put (codes "b") (Int (pos 2)) ∷ []) None
    ∷ Rounds 1
    ∷ Weak 3 (Get (codes "a"))
    ∷ Dirty 3 (Get (codes "a"))
    ∷ Split (1 ∷ 2 ∷ [])
    ∷ Split (3 ∷ [])
    ∷ Merge (1 ∷ 2 ∷ 3 ∷ [])
    ∷ Rounds 4
    ∷ ShowOrder
    ∷ []

red_action_of_a_minority_is_ordered_after_the_merge_holds : (tried red_action_of_a_minority_is_ordered_after_the_merge).failed ≡ []
unfolding cases_compute
red_action_of_a_minority_is_ordered_after_the_merge_holds = refl
