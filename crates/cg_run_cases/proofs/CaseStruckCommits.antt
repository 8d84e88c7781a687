-- Commits that are struck: at a closed gate what was done is gone, at an open one it is known after the recovery.
use Rattle.std.specs.Prelude.{◌≡◌, true, false, List, [], ◌∷◌, Some, codes}
use Prim.Native.String.{String}
use mathlib.Core.Path.{refl}
use Rattle.cg_run_cases.specs.Replaying.{last_line, shows_in_entry}
use Rattle.cg_run_cases.specs.Computing.{cases_compute}

-- a request whose commit was struck with the gate closed is gone
abbrev closed_gate : List String
closed_gate =
    "start 1 2 3" ∷
    "merge 1 2 3" ∷
    "rounds 2" ∷
    "stop 1 3 -" ∷
    "request 1 put \"x\" 1" ∷
    "recover 1" ∷
    "end" ∷
    []

closed_gate-tail : last_line closed_gate ≡ Some (codes "end 13")
unfolding cases_compute
closed_gate-tail = refl

closed_gate-12a : shows_in_entry closed_gate (codes "= 12") (codes "1 Down") ≡ true
unfolding cases_compute
closed_gate-12a = refl

closed_gate-13b : shows_in_entry closed_gate (codes "= 13") (codes "1 NonPrim - g0 w0 p1@1{1,2,3} a0 v1/0{1,2,3}{1} y- r[] o[] x{} b0") ≡ true
unfolding cases_compute
closed_gate-13b = refl

closed_gate-13c : shows_in_entry closed_gate (codes "= 13") (codes "made 1:1 put \"x\" 1") ≡ false
unfolding cases_compute
closed_gate-13c = refl

-- one whose commit was struck with the gate open is made known at the recovery
abbrev open_gate : List String
open_gate =
    "start 1 2 3" ∷
    "merge 1 2 3" ∷
    "rounds 2" ∷
    "stop 1 3 01" ∷
    "request 1 put \"x\" 1" ∷
    "recover 1" ∷
    "end" ∷
    []

open_gate-tail : last_line open_gate ≡ Some (codes "end 13")
unfolding cases_compute
open_gate-tail = refl

open_gate-12a : shows_in_entry open_gate (codes "= 12") (codes "1 Down") ≡ true
unfolding cases_compute
open_gate-12a = refl

open_gate-13b : shows_in_entry open_gate (codes "= 13") (codes "made 1:1 put \"x\" 1") ≡ true
unfolding cases_compute
open_gate-13b = refl

open_gate-13c : shows_in_entry open_gate (codes "= 13") (codes "1 NonPrim - g0 w0 p1@1{1,2,3} a0 v1/0{1,2,3}{1} y- r[1:1] o[] x{} b0") ≡ true
unfolding cases_compute
open_gate-13c = refl

-- two replicas crash inside the commit of one green mark, and one of them has it after the crash, without a reply
abbrev green_mark : List String
green_mark =
    "start 1 2 3" ∷
    "merge 1 2 3" ∷
    "rounds 2" ∷
    "request 1 put \"x\" 1" ∷
    "gather" ∷
    "stop 1 3 01" ∷
    "stop 2 3 07" ∷
    "deliver 1 1" ∷
    "deliver 2 1" ∷
    "stop 3 0 -" ∷
    "recover 1" ∷
    "recover 2" ∷
    "recover 3" ∷
    "merge 1 2 3" ∷
    "rounds 3" ∷
    "end" ∷
    []

green_mark-tail : last_line green_mark ≡ Some (codes "end 33")
unfolding cases_compute
green_mark-tail = refl

green_mark-15a : shows_in_entry green_mark (codes "= 15") (codes "1 Down") ≡ true
unfolding cases_compute
green_mark-15a = refl

green_mark-16b : shows_in_entry green_mark (codes "= 16") (codes "2 Down") ≡ true
unfolding cases_compute
green_mark-16b = refl

green_mark-18c : shows_in_entry green_mark (codes "= 18") (codes "order 1 1:1") ≡ true
unfolding cases_compute
green_mark-18c = refl

green_mark-18d : shows_in_entry green_mark (codes "= 18") (codes "1 NonPrim - g1 w0 p1@1{1,2,3} a0 v1/0{1,2,3}{1} y- r[] o[] x{} b0") ≡ true
unfolding cases_compute
green_mark-18d = refl

green_mark-18e : shows_in_entry green_mark (codes "= 18") (codes "reply 1:1 done") ≡ false
unfolding cases_compute
green_mark-18e = refl

green_mark-19f : shows_in_entry green_mark (codes "= 19") (codes "2 NonPrim - g0 w0 p1@1{1,2,3} a0 v1/0{1,2,3}{2} y- r[] o[] x{} b0") ≡ true
unfolding cases_compute
green_mark-19f = refl

green_mark-32g : shows_in_entry green_mark (codes "= 32") (codes "2 RegPrim c2 g1 w0 p2@2{1,2,3} a0 v2/1{1,2,3}{2} y- r[] o[] x{} b0") ≡ true
unfolding cases_compute
green_mark-32g = refl
