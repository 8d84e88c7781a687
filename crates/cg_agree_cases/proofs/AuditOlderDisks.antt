-- A disk becomes one of the older format, and a recovery from it is stopped: the facts hold while the replica is down, and behind
-- its recovery.
use Rattle.std.specs.Prelude.{◌≡◌, refl, List, [], ◌∷◌, ◌++◌, None, codes, pos}
use Rattle.cg_action.specs.declared.command.Cmd.TheVariants.{Put}
use Rattle.cg_action.specs.declared.value.Value.TheVariants.{Int}
use Rattle.cg_schedule.specs.declared.event.Event.{Event}
use Rattle.cg_schedule.specs.declared.event.Event.TheVariants.{Start, Split, Merge, Request, Recover, RecoverStopped, Downgrade, Rounds, Stop}
use Rattle.cg_agree_cases.specs.Audit.{tried}
use Rattle.cg_agree_cases.specs.Computing.{cases_compute}
use Rattle.cg_base.specs.Weights.{each_once}

-- replica 1 goes down with what it has ordered, its disk becomes one of the older format, and these are its recoveries
abbrev older : List Event → List Event
older recoveries =
    (Start (each_once (1 ∷ 2 ∷ 3 ∷ []))
    ∷ Merge (1 ∷ 2 ∷ 3 ∷ [])
    ∷ Rounds 2
    ∷ Request 1 (Put (codes "x") (Int (pos 1)) ∷ []) None
    ∷ Rounds 1
    ∷ Stop 1 0 []
    ∷ Downgrade 1
    ∷ [])
    ++ recoveries
    ++ Split (2 ∷ 3 ∷ [])
    ∷ Merge (1 ∷ 2 ∷ 3 ∷ [])
    ∷ Rounds 4
    ∷ []

stopped_before_it_moves_holds : (tried (older (RecoverStopped 1 5 [] ∷ Recover 1 ∷ []))).failed ≡ []
unfolding cases_compute
stopped_before_it_moves_holds = refl

-- it is stopped once its content has moved, then in the last of nine calls, and then in a call that it doesn't make
stopped_twice_holds : (tried (older (RecoverStopped 1 11 (1 ∷ []) ∷ RecoverStopped 1 9 (67 ∷ []) ∷ RecoverStopped 1 10 [] ∷ []))).failed
    ≡ []
unfolding cases_compute
stopped_twice_holds = refl

not_reached_holds : (tried (older (RecoverStopped 1 17 [] ∷ []))).failed ≡ []
unfolding cases_compute
not_reached_holds = refl
