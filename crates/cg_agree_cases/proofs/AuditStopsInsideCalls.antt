-- A replica crashes inside one of its device calls: the facts hold whether its commit stands then or not.
use Rattle.std.specs.Prelude.{◌≡◌, refl, ℕ, List, [], ◌∷◌, None, codes, pos}
use Rattle.cg_action.specs.declared.command.Cmd.TheVariants.{Put}
use Rattle.cg_action.specs.declared.value.Value.TheVariants.{Int}
use Rattle.cg_schedule.specs.declared.event.Event.{Event}
use Rattle.cg_schedule.specs.declared.event.Event.TheVariants.{Start, Split, Merge, Request, Recover, Rounds, Stop}
use Rattle.cg_agree_cases.specs.Audit.{tried}
use Rattle.cg_agree_cases.specs.Computing.{cases_compute}
use Rattle.cg_base.specs.Weights.{each_once}

-- replica 1 crashes inside the call of this number, of which these bytes are written
abbrev stopped : ℕ → List ℕ → List Event
stopped call bytes =
    Start (each_once (1 ∷ 2 ∷ 3 ∷ []))
    ∷ Stop 1 call bytes
    ∷ Merge (1 ∷ 2 ∷ 3 ∷ [])
    ∷ Rounds 2
    ∷ Request 2 (Put (codes "x") (Int (pos 1)) ∷ []) None
    ∷ Rounds 1
    ∷ Recover 1
    ∷ Split (2 ∷ 3 ∷ [])
    ∷ Merge (1 ∷ 2 ∷ 3 ∷ [])
    ∷ Rounds 4
    ∷ []

within_the_first_call_holds : (tried (stopped 1 [])).failed ≡ []
unfolding cases_compute
within_the_first_call_holds = refl

with_the_gate_open_holds : (tried (stopped 3 (1 ∷ []))).failed ≡ []
unfolding cases_compute
with_the_gate_open_holds = refl

within_the_last_sync_holds : (tried (stopped 4 (1 ∷ []))).failed ≡ []
unfolding cases_compute
within_the_last_sync_holds = refl

within_a_later_commit_holds : (tried (stopped 10 [])).failed ≡ []
unfolding cases_compute
within_a_later_commit_holds = refl
