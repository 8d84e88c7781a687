-- A fault of a device call ends a replica: the facts hold whether its commit stands then or not.
use Rattle.std.specs.Prelude.{◌≡◌, refl, ℕ, List, [], ◌∷◌, None, codes, pos}
use Rattle.cg_action.specs.declared.command.Cmd.TheVariants.{Put}
use Rattle.cg_action.specs.declared.value.Value.TheVariants.{Int}
use Rattle.cg_schedule.specs.declared.event.Event.{Event}
use Rattle.cg_schedule.specs.declared.event.Event.TheVariants.{Start, Split, Merge, Request, Recover, Rounds, Fail}
use Rattle.cg_agree_cases.specs.Audit.{tried}
use Rattle.cg_agree_cases.specs.Computing.{cases_compute}
use Rattle.cg_base.specs.Weights.{each_once}

-- a device call of replica 1 fails
abbrev faulty : ℕ → List Event
faulty call =
    Start (each_once (1 ∷ 2 ∷ 3 ∷ []))
    ∷ Fail 1 call
    ∷ Merge (1 ∷ 2 ∷ 3 ∷ [])
    ∷ Rounds 2
    ∷ Request 2 (Put (codes "x") (Int (pos 1)) ∷ []) None
    ∷ Rounds 1
    ∷ Recover 1
    ∷ Split (2 ∷ 3 ∷ [])
    ∷ Merge (1 ∷ 2 ∷ 3 ∷ [])
    ∷ Rounds 4
    ∷ []

at_the_gate_holds : (tried (faulty 3)).failed ≡ []
unfolding cases_compute
at_the_gate_holds = refl

at_the_next_commit_holds : (tried (faulty 5)).failed ≡ []
unfolding cases_compute
at_the_next_commit_holds = refl
