-- A joiner whose representative crashed takes a new snapshot from another one and is then a member like the others.
use Rattle.std.specs.Prelude.{◌≡◌, refl, List, [], ◌∷◌, None, codes, pos}
use Rattle.cg_action.specs.declared.command.Cmd.TheVariants.{Put}
use Rattle.cg_action.specs.declared.value.Value.TheVariants.{Int}
use Rattle.cg_schedule.specs.declared.event.Event.{Event}
use Rattle.cg_schedule.specs.declared.event.Event.TheVariants.{Start, Split, Merge, Request, Rounds, Stop, Join, Transfer}
use Rattle.cg_agree_cases.specs.Audit.{tried}
use Rattle.cg_agree_cases.specs.Computing.{cases_compute}
use Rattle.cg_base.specs.Weights.{each_once}

abbrev snapshot_begins_again_with_another_representative : List Event
snapshot_begins_again_with_another_representative =
    Start (each_once (1 ∷ 2 ∷ 3 ∷ []))
    ∷ Merge (1 ∷ 2 ∷ 3 ∷ [])
    ∷ Rounds 2
    ∷ Request 1 (Put (codes "x") (Int (pos 1)) ∷ []) None
    ∷ Rounds 1
    ∷ Join 2 4 1
    ∷ Rounds 1
    ∷ Transfer 2 4 2
    ∷ Stop 2 0 []
    ∷ Transfer 3 4 9
    ∷ Split (1 ∷ 3 ∷ [])
    ∷ Merge (1 ∷ 3 ∷ 4 ∷ [])
    ∷ Rounds 2
    ∷ []

snapshot_begins_again_with_another_representative_holds : (tried snapshot_begins_again_with_another_representative).failed ≡ []
unfolding cases_compute
snapshot_begins_again_with_another_representative_holds = refl
