-- A commit is struck that makes an action green and discards it at once.
use Rattle.std.specs.Prelude.{◌≡◌, refl, List, [], ◌∷◌}
use Rattle.cg_schedule.specs.declared.event.Event.{Event}
use Rattle.cg_schedule.specs.declared.event.Event.TheVariants.{Start, Merge, Recover, Show, ShowOrder, Gather, Deliver, Rounds, Stop, Join, Leave}
use Rattle.cg_agree_cases.specs.Audit.{tried}
use Rattle.cg_agree_cases.specs.Computing.{cases_compute}
use Rattle.cg_base.specs.Weights.{each_once}

abbrev discarded_struck : List Event
discarded_struck =
    Start (each_once (1 ∷ 2 ∷ []))
    ∷ Merge (1 ∷ 2 ∷ [])
    ∷ Rounds 2
    ∷ Leave 1 1
    ∷ Leave 2 2
    ∷ Join 2 3 1
    ∷ Gather
    ∷ Stop 1 3 (1 ∷ [])
    ∷ Deliver 1 3
    ∷ Stop 2 0 []
    ∷ Recover 1
    ∷ Show 1
    ∷ ShowOrder
    ∷ Recover 2
    ∷ Merge (1 ∷ 2 ∷ [])
    ∷ Rounds 3
    ∷ []

discarded_struck_holds : (tried discarded_struck).failed ≡ []
unfolding cases_compute
discarded_struck_holds = refl
