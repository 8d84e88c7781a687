-- A message that has no place yet can't be received at the place that it will have.
use Rattle.std.specs.Prelude.{◌≡◌, List, [], ◌∷◌, Some, codes}
use Prim.Native.String.{String}
use mathlib.Core.Path.{refl}
use Rattle.cg_run_cases.specs.Replaying.{last_line}
use Rattle.cg_run_cases.specs.Computing.{cases_compute}

abbrev no_place : List String
no_place =
    "start 1 2 3" ∷
    "merge 1 2 3" ∷
    "rounds 2" ∷
    "request 1 put \"x\" 1" ∷
    "receive 2 7" ∷
    []

no_place-tail : last_line no_place ≡ Some (codes "refused 5 4 7")
unfolding cases_compute
no_place-tail = refl
