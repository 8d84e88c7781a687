-- A run with a partition and a crash, of which all guarantees hold by the clauses of `run`: the replies are those of one order, the minority
-- reads an older prefix of it, and the replica that crashed reads what it had applied.
use Rattle.std.specs.Prelude.{◌≡◌, true, List, [], ◌∷◌, Some, codes}
use Prim.Native.String.{String}
use mathlib.Core.Path.{refl}
use Rattle.cg_run_cases.specs.Replaying.{last_line, shows_in_entry}
use Rattle.cg_run_cases.specs.Computing.{cases_compute}

abbrev parted_and_crashed : List String
parted_and_crashed =
    "start 1 2 3" ∷
    "merge 1 2 3" ∷
    "rounds 2" ∷
    "request 1 put \"x\" 1 ? get \"x\"" ∷
    "rounds 1" ∷
    "split 1 2" ∷
    "merge 1 2" ∷
    "rounds 3" ∷
    "request 2 inc \"x\" 4 ? get \"x\"" ∷
    "rounds 1" ∷
    "weak 3 get \"x\"" ∷
    "stop 1 0 -" ∷
    "weak 2 get \"x\"" ∷
    "recover 1" ∷
    "weak 1 get \"x\"" ∷
    "split 2" ∷
    "split 3" ∷
    "merge 1 2 3" ∷
    "rounds 4" ∷
    "weak 3 get \"x\"" ∷
    "show order" ∷
    "end" ∷
    []

parted_and_crashed-tail : last_line parted_and_crashed ≡ Some (codes "end 51")
unfolding cases_compute
parted_and_crashed-tail = refl

parted_and_crashed-13 : shows_in_entry parted_and_crashed (codes "= 13") (codes "reply 1:1 done ? 1") ≡ true
unfolding cases_compute
parted_and_crashed-13 = refl

-- the second action begins when the first is over, and finds it
parted_and_crashed-28 : shows_in_entry parted_and_crashed (codes "= 28") (codes "reply 2:1 done ? 5") ≡ true
unfolding cases_compute
parted_and_crashed-28 = refl

-- the minority reads a prefix
parted_and_crashed-29 : shows_in_entry parted_and_crashed (codes "= 29") (codes "weak 3 1") ≡ true
unfolding cases_compute
parted_and_crashed-29 = refl

-- who has crashed reads no less than it had applied
parted_and_crashed-33 : shows_in_entry parted_and_crashed (codes "= 33") (codes "weak 1 5") ≡ true
unfolding cases_compute
parted_and_crashed-33 = refl

parted_and_crashed-51 : shows_in_entry parted_and_crashed (codes "= 51") (codes "all [1:1,2:1]") ≡ true
unfolding cases_compute
parted_and_crashed-51 = refl
