-- Four places are ready at a replica: a delivery of five is refused, with the four.
use Rattle.std.specs.Prelude.{◌≡◌, List, [], ◌∷◌, Some, codes}
use Prim.Native.String.{String}
use mathlib.Core.Path.{refl}
use Rattle.cg_run_cases.specs.Replaying.{last_line}
use Rattle.cg_run_cases.specs.Computing.{cases_compute}

abbrev too_much : List String
too_much =
    "start 1 2 3" ∷
    "merge 1 2 3" ∷
    "rounds 2" ∷
    "request 1 put \"x\" 1" ∷
    "request 1 put \"x\" 1" ∷
    "request 1 put \"x\" 1" ∷
    "request 1 put \"x\" 1" ∷
    "gather" ∷
    "deliver 2 5" ∷
    []

too_much-tail : last_line too_much ≡ Some (codes "refused 9 6 4")
unfolding cases_compute
too_much-tail = refl
