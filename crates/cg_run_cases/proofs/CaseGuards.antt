-- A need that fails aborts its action, and a sum past the range changes nothing; what is answered and shown then is the
-- database without them.
use Rattle.std.specs.Prelude.{◌≡◌, List, [], ◌∷◌, Some, codes}
use Prim.Native.String.{String}
use mathlib.Core.Path.{refl}
use Rattle.cg_run_cases.specs.Replaying.{last_line, last_of_entry}
use Rattle.cg_run_cases.specs.Computing.{cases_compute}

abbrev guards : List String
guards =
    "start 1 2 3" ∷
    "merge 1 2 3" ∷
    "rounds 2" ∷
    "request 1 put \"x\" 1" ∷
    "rounds 1" ∷
    "request 1 need \"x\" 1; put \"x\" 2" ∷
    "request 2 need \"x\" 1; put \"x\" 3" ∷
    "rounds 1" ∷
    "request 3 put \"n\" 9223372036854775807; inc \"n\" 1 ? get \"n\"" ∷
    "rounds 1" ∷
    "show 1" ∷
    "end" ∷
    []

guards-tail : last_line guards ≡ Some (codes "end 27")
unfolding cases_compute
guards-tail = refl

guards-19-last : last_of_entry guards (codes "= 19") ≡ Some (codes "reply 1:2 done")
unfolding cases_compute
guards-19-last = refl

guards-20-last : last_of_entry guards (codes "= 20") ≡ Some (codes "reply 2:1 aborted 1")
unfolding cases_compute
guards-20-last = refl

guards-26-last : last_of_entry guards (codes "= 26") ≡ Some (codes "reply 3:1 range 2 ? absent")
unfolding cases_compute
guards-26-last = refl

guards-27-last : last_of_entry guards (codes "= 27") ≡ Some (codes "db 1 \"x\"=2")
unfolding cases_compute
guards-27-last = refl
