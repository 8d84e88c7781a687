-- An action is discarded as it becomes green, because the only server left has not begun.
use Rattle.std.specs.Prelude.{◌≡◌, refl, List, [], ◌∷◌}
use Rattle.cg_schedule.specs.declared.event.Event.{Event}
use Rattle.cg_schedule.specs.declared.event.Event.TheVariants.{Start, Merge, Show, ShowOrder, Gather, Deliver, Rounds, Join, Leave}
use Rattle.cg_agree_cases.specs.Audit.{tried}
use Rattle.cg_agree_cases.specs.Computing.{cases_compute}
use Rattle.cg_base.specs.Weights.{each_once}

abbrev discarded_at_once : List Event
discarded_at_once =
    Start (each_once (1 ∷ []))
    ∷ Merge (1 ∷ [])
    ∷ Rounds 2
    ∷ Join 1 2 1
    ∷ Leave 1 1
    ∷ Gather
    ∷ Deliver 1 2
    ∷ Show 1
    ∷ ShowOrder
    ∷ []

discarded_at_once_holds : (tried discarded_at_once).failed ≡ []
unfolding cases_compute
discarded_at_once_holds = refl
