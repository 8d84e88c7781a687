-- A place is not received before an earlier place of the same sender.
use Rattle.std.specs.Prelude.{◌≡◌, List, [], ◌∷◌, Some, codes}
use Prim.Native.String.{String}
use mathlib.Core.Path.{refl}
use Rattle.cg_run_cases.specs.Replaying.{last_line}
use Rattle.cg_run_cases.specs.Computing.{cases_compute}

abbrev out_of_order : List String
out_of_order =
    "start 1 2 3" ∷
    "merge 1 2 3" ∷
    "rounds 2" ∷
    "request 1 put \"x\" 1" ∷
    "request 1 put \"x\" 1" ∷
    "order 1" ∷
    "order 1" ∷
    "receive 2 8" ∷
    []

out_of_order-tail : last_line out_of_order ≡ Some (codes "refused 8 15 7")
unfolding cases_compute
out_of_order-tail = refl
