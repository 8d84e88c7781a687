-- A fault inside the commit of a green mark leaves the state before it, or that after it.
use Rattle.std.specs.Prelude.{◌≡◌, refl, ℕ, List, [], ◌∷◌, None, codes, pos}
use Rattle.cg_action.specs.declared.command.Cmd.TheVariants.{Put}
use Rattle.cg_action.specs.declared.value.Value.TheVariants.{Int}
use Rattle.cg_schedule.specs.declared.event.Event.{Event}
use Rattle.cg_schedule.specs.declared.event.Event.TheVariants.{Start, Merge, Request, Recover, Gather, Deliver, Rounds, Fail}
use Rattle.cg_agree_cases.specs.Audit.{tried}
use Rattle.cg_agree_cases.specs.Computing.{cases_compute}
use Rattle.cg_base.specs.Weights.{each_once}

-- the commit in which replica 1 marks its action green fails at this call
abbrev failing_mark : ℕ → List Event
failing_mark call =
    Start (each_once (1 ∷ 2 ∷ 3 ∷ []))
    ∷ Merge (1 ∷ 2 ∷ 3 ∷ [])
    ∷ Rounds 2
    ∷ Request 1 (Put (codes "x") (Int (pos 1)) ∷ []) None
    ∷ Gather
    ∷ Fail 1 call
    ∷ Deliver 1 1
    ∷ Recover 1
    ∷ []

mark_at_the_gate_holds : (tried (failing_mark 3)).failed ≡ []
unfolding cases_compute
mark_at_the_gate_holds = refl

mark_at_the_last_sync_holds : (tried (failing_mark 4)).failed ≡ []
unfolding cases_compute
mark_at_the_last_sync_holds = refl
