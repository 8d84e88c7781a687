-- Cases of cases/ with their whole reports, which `.ci/theorems` writes down here.
use Rattle.std.specs.Prelude.{◌≡◌, [], ◌∷◌}
use mathlib.Core.Path.{refl}
use Rattle.cg_run_cases.specs.Replaying.{replayed_text, written}
use Rattle.cg_run_cases.specs.Computing.{cases_compute}

-- A crash inside a device call leaves the state before or after its commit, and the run goes on to the same end.
stop_inside_call_03_with_one_byte_of_one :
    replayed_text (
    "start 1 2 3" ∷
    "stop 1 3 01" ∷
    "merge 1 2 3" ∷
    "rounds 2" ∷
    "request 2 put \"x\" 1" ∷
    "rounds 1" ∷
    "recover 1" ∷
    "split 2 3" ∷
    "merge 1 2 3" ∷
    "rounds 4" ∷
    "show order" ∷
    "end" ∷
    [])
    ≡ written (
    "= 1" ∷
    "1 NonPrim - g0 w0 p0@0{1,2,3} a0 v- y- r[] o[] x{} b0" ∷
    "2 NonPrim - g0 w0 p0@0{1,2,3} a0 v- y- r[] o[] x{} b0" ∷
    "3 NonPrim - g0 w0 p0@0{1,2,3} a0 v- y- r[] o[] x{} b0" ∷
    "= 3" ∷
    "1 ExchangeStates c1 g0 w0 p0@0{1,2,3} a0 v- y- r[] o[] x{} b0" ∷
    "2 ExchangeStates c1 g0 w0 p0@0{1,2,3} a0 v- y- r[] o[] x{} b0" ∷
    "3 ExchangeStates c1 g0 w0 p0@0{1,2,3} a0 v- y- r[] o[] x{} b0" ∷
    "= 5" ∷
    "1 Down" ∷
    "= 6" ∷
    "2 Construct c1 g0 w0 p0@0{1,2,3} a1 v1/0{1,2,3}{2} y- r[] o[] x{} b0" ∷
    "= 7" ∷
    "3 Construct c1 g0 w0 p0@0{1,2,3} a1 v1/0{1,2,3}{3} y- r[] o[] x{} b0" ∷
    "= 9" ∷
    "2 Construct c1 g0 w0 p0@0{1,2,3} a1 v1/0{1,2,3}{2} y- r[] o[] x{} b1" ∷
    "= 11" ∷
    "1 NonPrim - g0 w0 p0@0{1,2,3} a1 v1/0{1,2,3}{1} y- r[] o[] x{} b0" ∷
    "= 12" ∷
    "2 No t1 g0 w0 p0@0{1,2,3} a1 v1/0{1,2,3}{2} y- r[] o[] x{} b1" ∷
    "3 No t1 g0 w0 p0@0{1,2,3} a1 v1/0{1,2,3}{3} y- r[] o[] x{} b0" ∷
    "= 13" ∷
    "1 ExchangeStates c2 g0 w0 p0@0{1,2,3} a1 v1/0{1,2,3}{1} y- r[] o[] x{} b0" ∷
    "2 ExchangeStates c2 g0 w0 p0@0{1,2,3} a1 v- y- r[] o[] x{} b1" ∷
    "3 ExchangeStates c2 g0 w0 p0@0{1,2,3} a1 v- y- r[] o[] x{} b0" ∷
    "= 15" ∷
    "1 Construct c2 g0 w0 p0@0{1,2,3} a2 v2/0{1,2,3}{1} y- r[] o[] x{} b0" ∷
    "= 16" ∷
    "2 Construct c2 g0 w0 p0@0{1,2,3} a2 v2/0{1,2,3}{2} y- r[] o[] x{} b1" ∷
    "= 17" ∷
    "3 Construct c2 g0 w0 p0@0{1,2,3} a2 v2/0{1,2,3}{3} y- r[] o[] x{} b0" ∷
    "= 19" ∷
    "1 RegPrim c2 g0 w0 p1@2{1,2,3} a0 v2/0{1,2,3}{1} y- r[] o[] x{} b0" ∷
    "= 20" ∷
    "made 2:1 put \"x\" 1" ∷
    "2 RegPrim c2 g0 w0 p1@2{1,2,3} a0 v2/0{1,2,3}{2} y- r[] o[2:1] x{} b0" ∷
    "= 21" ∷
    "3 RegPrim c2 g0 w0 p1@2{1,2,3} a0 v2/0{1,2,3}{3} y- r[] o[] x{} b0" ∷
    "= 23" ∷
    "order 1 2:1" ∷
    "1 RegPrim c2 g1 w0 p1@2{1,2,3} a0 v2/0{1,2,3}{1} y- r[] o[] x{} b0" ∷
    "= 24" ∷
    "2 RegPrim c2 g1 w0 p1@2{1,2,3} a0 v2/0{1,2,3}{2} y- r[] o[] x{} b0" ∷
    "reply 2:1 done" ∷
    "= 25" ∷
    "3 RegPrim c2 g1 w0 p1@2{1,2,3} a0 v2/0{1,2,3}{3} y- r[] o[] x{} b0" ∷
    "= 27" ∷
    "all [2:1]" ∷
    "end 27" ∷
    [])
unfolding cases_compute
stop_inside_call_03_with_one_byte_of_one = refl

-- A crash inside a device call leaves the state before or after its commit, and the run goes on to the same end.
stop_inside_call_04_with_no_bytes :
    replayed_text (
    "start 1 2 3" ∷
    "stop 1 4 -" ∷
    "merge 1 2 3" ∷
    "rounds 2" ∷
    "request 2 put \"x\" 1" ∷
    "rounds 1" ∷
    "recover 1" ∷
    "split 2 3" ∷
    "merge 1 2 3" ∷
    "rounds 4" ∷
    "show order" ∷
    "end" ∷
    [])
    ≡ written (
    "= 1" ∷
    "1 NonPrim - g0 w0 p0@0{1,2,3} a0 v- y- r[] o[] x{} b0" ∷
    "2 NonPrim - g0 w0 p0@0{1,2,3} a0 v- y- r[] o[] x{} b0" ∷
    "3 NonPrim - g0 w0 p0@0{1,2,3} a0 v- y- r[] o[] x{} b0" ∷
    "= 3" ∷
    "1 ExchangeStates c1 g0 w0 p0@0{1,2,3} a0 v- y- r[] o[] x{} b0" ∷
    "2 ExchangeStates c1 g0 w0 p0@0{1,2,3} a0 v- y- r[] o[] x{} b0" ∷
    "3 ExchangeStates c1 g0 w0 p0@0{1,2,3} a0 v- y- r[] o[] x{} b0" ∷
    "= 5" ∷
    "1 Down" ∷
    "= 6" ∷
    "2 Construct c1 g0 w0 p0@0{1,2,3} a1 v1/0{1,2,3}{2} y- r[] o[] x{} b0" ∷
    "= 7" ∷
    "3 Construct c1 g0 w0 p0@0{1,2,3} a1 v1/0{1,2,3}{3} y- r[] o[] x{} b0" ∷
    "= 9" ∷
    "2 Construct c1 g0 w0 p0@0{1,2,3} a1 v1/0{1,2,3}{2} y- r[] o[] x{} b1" ∷
    "= 11" ∷
    "1 NonPrim - g0 w0 p0@0{1,2,3} a0 v- y- r[] o[] x{} b0" ∷
    "= 12" ∷
    "2 No t1 g0 w0 p0@0{1,2,3} a1 v1/0{1,2,3}{2} y- r[] o[] x{} b1" ∷
    "3 No t1 g0 w0 p0@0{1,2,3} a1 v1/0{1,2,3}{3} y- r[] o[] x{} b0" ∷
    "= 13" ∷
    "1 ExchangeStates c2 g0 w0 p0@0{1,2,3} a0 v- y- r[] o[] x{} b0" ∷
    "2 ExchangeStates c2 g0 w0 p0@0{1,2,3} a1 v- y- r[] o[] x{} b1" ∷
    "3 ExchangeStates c2 g0 w0 p0@0{1,2,3} a1 v- y- r[] o[] x{} b0" ∷
    "= 15" ∷
    "1 Construct c2 g0 w0 p0@0{1,2,3} a2 v2/0{1,2,3}{1} y- r[] o[] x{} b0" ∷
    "= 16" ∷
    "2 Construct c2 g0 w0 p0@0{1,2,3} a2 v2/0{1,2,3}{2} y- r[] o[] x{} b1" ∷
    "= 17" ∷
    "3 Construct c2 g0 w0 p0@0{1,2,3} a2 v2/0{1,2,3}{3} y- r[] o[] x{} b0" ∷
    "= 19" ∷
    "1 RegPrim c2 g0 w0 p1@2{1,2,3} a0 v2/0{1,2,3}{1} y- r[] o[] x{} b0" ∷
    "= 20" ∷
    "made 2:1 put \"x\" 1" ∷
    "2 RegPrim c2 g0 w0 p1@2{1,2,3} a0 v2/0{1,2,3}{2} y- r[] o[2:1] x{} b0" ∷
    "= 21" ∷
    "3 RegPrim c2 g0 w0 p1@2{1,2,3} a0 v2/0{1,2,3}{3} y- r[] o[] x{} b0" ∷
    "= 23" ∷
    "order 1 2:1" ∷
    "1 RegPrim c2 g1 w0 p1@2{1,2,3} a0 v2/0{1,2,3}{1} y- r[] o[] x{} b0" ∷
    "= 24" ∷
    "2 RegPrim c2 g1 w0 p1@2{1,2,3} a0 v2/0{1,2,3}{2} y- r[] o[] x{} b0" ∷
    "reply 2:1 done" ∷
    "= 25" ∷
    "3 RegPrim c2 g1 w0 p1@2{1,2,3} a0 v2/0{1,2,3}{3} y- r[] o[] x{} b0" ∷
    "= 27" ∷
    "all [2:1]" ∷
    "end 27" ∷
    [])
unfolding cases_compute
stop_inside_call_04_with_no_bytes = refl

-- A crash inside a device call leaves the state before or after its commit, and the run goes on to the same end.
stop_inside_call_04_with_one_byte_of_one :
    replayed_text (
    "start 1 2 3" ∷
    "stop 1 4 01" ∷
    "merge 1 2 3" ∷
    "rounds 2" ∷
    "request 2 put \"x\" 1" ∷
    "rounds 1" ∷
    "recover 1" ∷
    "split 2 3" ∷
    "merge 1 2 3" ∷
    "rounds 4" ∷
    "show order" ∷
    "end" ∷
    [])
    ≡ written (
    "= 1" ∷
    "1 NonPrim - g0 w0 p0@0{1,2,3} a0 v- y- r[] o[] x{} b0" ∷
    "2 NonPrim - g0 w0 p0@0{1,2,3} a0 v- y- r[] o[] x{} b0" ∷
    "3 NonPrim - g0 w0 p0@0{1,2,3} a0 v- y- r[] o[] x{} b0" ∷
    "= 3" ∷
    "1 ExchangeStates c1 g0 w0 p0@0{1,2,3} a0 v- y- r[] o[] x{} b0" ∷
    "2 ExchangeStates c1 g0 w0 p0@0{1,2,3} a0 v- y- r[] o[] x{} b0" ∷
    "3 ExchangeStates c1 g0 w0 p0@0{1,2,3} a0 v- y- r[] o[] x{} b0" ∷
    "= 5" ∷
    "1 Down" ∷
    "= 6" ∷
    "2 Construct c1 g0 w0 p0@0{1,2,3} a1 v1/0{1,2,3}{2} y- r[] o[] x{} b0" ∷
    "= 7" ∷
    "3 Construct c1 g0 w0 p0@0{1,2,3} a1 v1/0{1,2,3}{3} y- r[] o[] x{} b0" ∷
    "= 9" ∷
    "2 Construct c1 g0 w0 p0@0{1,2,3} a1 v1/0{1,2,3}{2} y- r[] o[] x{} b1" ∷
    "= 11" ∷
    "1 NonPrim - g0 w0 p0@0{1,2,3} a1 v1/0{1,2,3}{1} y- r[] o[] x{} b0" ∷
    "= 12" ∷
    "2 No t1 g0 w0 p0@0{1,2,3} a1 v1/0{1,2,3}{2} y- r[] o[] x{} b1" ∷
    "3 No t1 g0 w0 p0@0{1,2,3} a1 v1/0{1,2,3}{3} y- r[] o[] x{} b0" ∷
    "= 13" ∷
    "1 ExchangeStates c2 g0 w0 p0@0{1,2,3} a1 v1/0{1,2,3}{1} y- r[] o[] x{} b0" ∷
    "2 ExchangeStates c2 g0 w0 p0@0{1,2,3} a1 v- y- r[] o[] x{} b1" ∷
    "3 ExchangeStates c2 g0 w0 p0@0{1,2,3} a1 v- y- r[] o[] x{} b0" ∷
    "= 15" ∷
    "1 Construct c2 g0 w0 p0@0{1,2,3} a2 v2/0{1,2,3}{1} y- r[] o[] x{} b0" ∷
    "= 16" ∷
    "2 Construct c2 g0 w0 p0@0{1,2,3} a2 v2/0{1,2,3}{2} y- r[] o[] x{} b1" ∷
    "= 17" ∷
    "3 Construct c2 g0 w0 p0@0{1,2,3} a2 v2/0{1,2,3}{3} y- r[] o[] x{} b0" ∷
    "= 19" ∷
    "1 RegPrim c2 g0 w0 p1@2{1,2,3} a0 v2/0{1,2,3}{1} y- r[] o[] x{} b0" ∷
    "= 20" ∷
    "made 2:1 put \"x\" 1" ∷
    "2 RegPrim c2 g0 w0 p1@2{1,2,3} a0 v2/0{1,2,3}{2} y- r[] o[2:1] x{} b0" ∷
    "= 21" ∷
    "3 RegPrim c2 g0 w0 p1@2{1,2,3} a0 v2/0{1,2,3}{3} y- r[] o[] x{} b0" ∷
    "= 23" ∷
    "order 1 2:1" ∷
    "1 RegPrim c2 g1 w0 p1@2{1,2,3} a0 v2/0{1,2,3}{1} y- r[] o[] x{} b0" ∷
    "= 24" ∷
    "2 RegPrim c2 g1 w0 p1@2{1,2,3} a0 v2/0{1,2,3}{2} y- r[] o[] x{} b0" ∷
    "reply 2:1 done" ∷
    "= 25" ∷
    "3 RegPrim c2 g1 w0 p1@2{1,2,3} a0 v2/0{1,2,3}{3} y- r[] o[] x{} b0" ∷
    "= 27" ∷
    "all [2:1]" ∷
    "end 27" ∷
    [])
unfolding cases_compute
stop_inside_call_04_with_one_byte_of_one = refl

-- A crash inside a device call leaves the state before or after its commit, and the run goes on to the same end.
stop_inside_call_05_with_no_bytes :
    replayed_text (
    "start 1 2 3" ∷
    "stop 1 5 -" ∷
    "merge 1 2 3" ∷
    "rounds 2" ∷
    "request 2 put \"x\" 1" ∷
    "rounds 1" ∷
    "recover 1" ∷
    "split 2 3" ∷
    "merge 1 2 3" ∷
    "rounds 4" ∷
    "show order" ∷
    "end" ∷
    [])
    ≡ written (
    "= 1" ∷
    "1 NonPrim - g0 w0 p0@0{1,2,3} a0 v- y- r[] o[] x{} b0" ∷
    "2 NonPrim - g0 w0 p0@0{1,2,3} a0 v- y- r[] o[] x{} b0" ∷
    "3 NonPrim - g0 w0 p0@0{1,2,3} a0 v- y- r[] o[] x{} b0" ∷
    "= 3" ∷
    "1 ExchangeStates c1 g0 w0 p0@0{1,2,3} a0 v- y- r[] o[] x{} b0" ∷
    "2 ExchangeStates c1 g0 w0 p0@0{1,2,3} a0 v- y- r[] o[] x{} b0" ∷
    "3 ExchangeStates c1 g0 w0 p0@0{1,2,3} a0 v- y- r[] o[] x{} b0" ∷
    "= 5" ∷
    "1 Construct c1 g0 w0 p0@0{1,2,3} a1 v1/0{1,2,3}{1} y- r[] o[] x{} b0" ∷
    "= 6" ∷
    "2 Construct c1 g0 w0 p0@0{1,2,3} a1 v1/0{1,2,3}{2} y- r[] o[] x{} b0" ∷
    "= 7" ∷
    "3 Construct c1 g0 w0 p0@0{1,2,3} a1 v1/0{1,2,3}{3} y- r[] o[] x{} b0" ∷
    "= 9" ∷
    "1 Down" ∷
    "= 10" ∷
    "2 RegPrim c1 g0 w0 p1@1{1,2,3} a0 v1/0{1,2,3}{2} y- r[] o[] x{} b0" ∷
    "= 11" ∷
    "3 RegPrim c1 g0 w0 p1@1{1,2,3} a0 v1/0{1,2,3}{3} y- r[] o[] x{} b0" ∷
    "= 12" ∷
    "made 2:1 put \"x\" 1" ∷
    "2 RegPrim c1 g0 w0 p1@1{1,2,3} a0 v1/0{1,2,3}{2} y- r[] o[2:1] x{} b0" ∷
    "= 14" ∷
    "1 NonPrim - g0 w0 p0@0{1,2,3} a1 v1/0{1,2,3}{1} y- r[] o[] x{} b0" ∷
    "= 15" ∷
    "2 TransPrim t1 g0 w0 p1@1{1,2,3} a0 v1/0{1,2,3}{2} y?[2:1] r[] o[] x{} b0" ∷
    "3 TransPrim t1 g0 w0 p1@1{1,2,3} a0 v1/0{1,2,3}{3} y?[2:1] r[] o[] x{} b0" ∷
    "= 16" ∷
    "1 ExchangeStates c2 g0 w0 p0@0{1,2,3} a1 v1/0{1,2,3}{1} y- r[] o[] x{} b0" ∷
    "2 ExchangeStates c2 g0 w0 p1@1{1,2,3} a0 v- y![2:1] r[] o[] x{} b0" ∷
    "3 ExchangeStates c2 g0 w0 p1@1{1,2,3} a0 v- y![2:1] r[] o[] x{} b0" ∷
    "= 18" ∷
    "1 ExchangeActions c2 g0 w0 p0@0{1,2,3} a1 v1/0{1,2,3}{1} y- r[] o[] x{} b0" ∷
    "= 19" ∷
    "2 ExchangeActions c2 g0 w0 p1@1{1,2,3} a0 v- y![2:1] r[] o[] x{} b0" ∷
    "= 20" ∷
    "3 ExchangeActions c2 g0 w0 p1@1{1,2,3} a0 v- y![2:1] r[] o[] x{} b0" ∷
    "= 22" ∷
    "1 Construct c2 g0 w0 p1@1{1,2,3} a1 v2/1{1,2,3}{1} y![2:1] r[] o[] x{} b0" ∷
    "= 23" ∷
    "2 Construct c2 g0 w0 p1@1{1,2,3} a1 v2/1{1,2,3}{2} y![2:1] r[] o[] x{} b0" ∷
    "= 24" ∷
    "3 Construct c2 g0 w0 p1@1{1,2,3} a1 v2/1{1,2,3}{3} y![2:1] r[] o[] x{} b0" ∷
    "= 26" ∷
    "order 1 2:1" ∷
    "1 RegPrim c2 g1 w0 p2@2{1,2,3} a0 v2/1{1,2,3}{1} y- r[] o[] x{} b0" ∷
    "= 27" ∷
    "2 RegPrim c2 g1 w0 p2@2{1,2,3} a0 v2/1{1,2,3}{2} y- r[] o[] x{} b0" ∷
    "reply 2:1 done" ∷
    "= 28" ∷
    "3 RegPrim c2 g1 w0 p2@2{1,2,3} a0 v2/1{1,2,3}{3} y- r[] o[] x{} b0" ∷
    "= 30" ∷
    "all [2:1]" ∷
    "end 30" ∷
    [])
unfolding cases_compute
stop_inside_call_05_with_no_bytes = refl

-- A crash inside a device call leaves the state before or after its commit, and the run goes on to the same end.
stop_inside_call_05_with_one_byte_of_one :
    replayed_text (
    "start 1 2 3" ∷
    "stop 1 5 01" ∷
    "merge 1 2 3" ∷
    "rounds 2" ∷
    "request 2 put \"x\" 1" ∷
    "rounds 1" ∷
    "recover 1" ∷
    "split 2 3" ∷
    "merge 1 2 3" ∷
    "rounds 4" ∷
    "show order" ∷
    "end" ∷
    [])
    ≡ written (
    "= 1" ∷
    "1 NonPrim - g0 w0 p0@0{1,2,3} a0 v- y- r[] o[] x{} b0" ∷
    "2 NonPrim - g0 w0 p0@0{1,2,3} a0 v- y- r[] o[] x{} b0" ∷
    "3 NonPrim - g0 w0 p0@0{1,2,3} a0 v- y- r[] o[] x{} b0" ∷
    "= 3" ∷
    "1 ExchangeStates c1 g0 w0 p0@0{1,2,3} a0 v- y- r[] o[] x{} b0" ∷
    "2 ExchangeStates c1 g0 w0 p0@0{1,2,3} a0 v- y- r[] o[] x{} b0" ∷
    "3 ExchangeStates c1 g0 w0 p0@0{1,2,3} a0 v- y- r[] o[] x{} b0" ∷
    "= 5" ∷
    "1 Construct c1 g0 w0 p0@0{1,2,3} a1 v1/0{1,2,3}{1} y- r[] o[] x{} b0" ∷
    "= 6" ∷
    "2 Construct c1 g0 w0 p0@0{1,2,3} a1 v1/0{1,2,3}{2} y- r[] o[] x{} b0" ∷
    "= 7" ∷
    "3 Construct c1 g0 w0 p0@0{1,2,3} a1 v1/0{1,2,3}{3} y- r[] o[] x{} b0" ∷
    "= 9" ∷
    "1 Down" ∷
    "= 10" ∷
    "2 RegPrim c1 g0 w0 p1@1{1,2,3} a0 v1/0{1,2,3}{2} y- r[] o[] x{} b0" ∷
    "= 11" ∷
    "3 RegPrim c1 g0 w0 p1@1{1,2,3} a0 v1/0{1,2,3}{3} y- r[] o[] x{} b0" ∷
    "= 12" ∷
    "made 2:1 put \"x\" 1" ∷
    "2 RegPrim c1 g0 w0 p1@1{1,2,3} a0 v1/0{1,2,3}{2} y- r[] o[2:1] x{} b0" ∷
    "= 14" ∷
    "1 NonPrim - g0 w0 p0@0{1,2,3} a1 v1/0{1,2,3}{1} y- r[] o[] x{} b0" ∷
    "= 15" ∷
    "2 TransPrim t1 g0 w0 p1@1{1,2,3} a0 v1/0{1,2,3}{2} y?[2:1] r[] o[] x{} b0" ∷
    "3 TransPrim t1 g0 w0 p1@1{1,2,3} a0 v1/0{1,2,3}{3} y?[2:1] r[] o[] x{} b0" ∷
    "= 16" ∷
    "1 ExchangeStates c2 g0 w0 p0@0{1,2,3} a1 v1/0{1,2,3}{1} y- r[] o[] x{} b0" ∷
    "2 ExchangeStates c2 g0 w0 p1@1{1,2,3} a0 v- y![2:1] r[] o[] x{} b0" ∷
    "3 ExchangeStates c2 g0 w0 p1@1{1,2,3} a0 v- y![2:1] r[] o[] x{} b0" ∷
    "= 18" ∷
    "1 ExchangeActions c2 g0 w0 p0@0{1,2,3} a1 v1/0{1,2,3}{1} y- r[] o[] x{} b0" ∷
    "= 19" ∷
    "2 ExchangeActions c2 g0 w0 p1@1{1,2,3} a0 v- y![2:1] r[] o[] x{} b0" ∷
    "= 20" ∷
    "3 ExchangeActions c2 g0 w0 p1@1{1,2,3} a0 v- y![2:1] r[] o[] x{} b0" ∷
    "= 22" ∷
    "1 Construct c2 g0 w0 p1@1{1,2,3} a1 v2/1{1,2,3}{1} y![2:1] r[] o[] x{} b0" ∷
    "= 23" ∷
    "2 Construct c2 g0 w0 p1@1{1,2,3} a1 v2/1{1,2,3}{2} y![2:1] r[] o[] x{} b0" ∷
    "= 24" ∷
    "3 Construct c2 g0 w0 p1@1{1,2,3} a1 v2/1{1,2,3}{3} y![2:1] r[] o[] x{} b0" ∷
    "= 26" ∷
    "order 1 2:1" ∷
    "1 RegPrim c2 g1 w0 p2@2{1,2,3} a0 v2/1{1,2,3}{1} y- r[] o[] x{} b0" ∷
    "= 27" ∷
    "2 RegPrim c2 g1 w0 p2@2{1,2,3} a0 v2/1{1,2,3}{2} y- r[] o[] x{} b0" ∷
    "reply 2:1 done" ∷
    "= 28" ∷
    "3 RegPrim c2 g1 w0 p2@2{1,2,3} a0 v2/1{1,2,3}{3} y- r[] o[] x{} b0" ∷
    "= 30" ∷
    "all [2:1]" ∷
    "end 30" ∷
    [])
unfolding cases_compute
stop_inside_call_05_with_one_byte_of_one = refl

-- A crash inside a device call leaves the state before or after its commit, and the run goes on to the same end.
stop_inside_call_06_with_no_bytes :
    replayed_text (
    "start 1 2 3" ∷
    "stop 1 6 -" ∷
    "merge 1 2 3" ∷
    "rounds 2" ∷
    "request 2 put \"x\" 1" ∷
    "rounds 1" ∷
    "recover 1" ∷
    "split 2 3" ∷
    "merge 1 2 3" ∷
    "rounds 4" ∷
    "show order" ∷
    "end" ∷
    [])
    ≡ written (
    "= 1" ∷
    "1 NonPrim - g0 w0 p0@0{1,2,3} a0 v- y- r[] o[] x{} b0" ∷
    "2 NonPrim - g0 w0 p0@0{1,2,3} a0 v- y- r[] o[] x{} b0" ∷
    "3 NonPrim - g0 w0 p0@0{1,2,3} a0 v- y- r[] o[] x{} b0" ∷
    "= 3" ∷
    "1 ExchangeStates c1 g0 w0 p0@0{1,2,3} a0 v- y- r[] o[] x{} b0" ∷
    "2 ExchangeStates c1 g0 w0 p0@0{1,2,3} a0 v- y- r[] o[] x{} b0" ∷
    "3 ExchangeStates c1 g0 w0 p0@0{1,2,3} a0 v- y- r[] o[] x{} b0" ∷
    "= 5" ∷
    "1 Construct c1 g0 w0 p0@0{1,2,3} a1 v1/0{1,2,3}{1} y- r[] o[] x{} b0" ∷
    "= 6" ∷
    "2 Construct c1 g0 w0 p0@0{1,2,3} a1 v1/0{1,2,3}{2} y- r[] o[] x{} b0" ∷
    "= 7" ∷
    "3 Construct c1 g0 w0 p0@0{1,2,3} a1 v1/0{1,2,3}{3} y- r[] o[] x{} b0" ∷
    "= 9" ∷
    "1 Down" ∷
    "= 10" ∷
    "2 RegPrim c1 g0 w0 p1@1{1,2,3} a0 v1/0{1,2,3}{2} y- r[] o[] x{} b0" ∷
    "= 11" ∷
    "3 RegPrim c1 g0 w0 p1@1{1,2,3} a0 v1/0{1,2,3}{3} y- r[] o[] x{} b0" ∷
    "= 12" ∷
    "made 2:1 put \"x\" 1" ∷
    "2 RegPrim c1 g0 w0 p1@1{1,2,3} a0 v1/0{1,2,3}{2} y- r[] o[2:1] x{} b0" ∷
    "= 14" ∷
    "1 NonPrim - g0 w0 p0@0{1,2,3} a1 v1/0{1,2,3}{1} y- r[] o[] x{} b0" ∷
    "= 15" ∷
    "2 TransPrim t1 g0 w0 p1@1{1,2,3} a0 v1/0{1,2,3}{2} y?[2:1] r[] o[] x{} b0" ∷
    "3 TransPrim t1 g0 w0 p1@1{1,2,3} a0 v1/0{1,2,3}{3} y?[2:1] r[] o[] x{} b0" ∷
    "= 16" ∷
    "1 ExchangeStates c2 g0 w0 p0@0{1,2,3} a1 v1/0{1,2,3}{1} y- r[] o[] x{} b0" ∷
    "2 ExchangeStates c2 g0 w0 p1@1{1,2,3} a0 v- y![2:1] r[] o[] x{} b0" ∷
    "3 ExchangeStates c2 g0 w0 p1@1{1,2,3} a0 v- y![2:1] r[] o[] x{} b0" ∷
    "= 18" ∷
    "1 ExchangeActions c2 g0 w0 p0@0{1,2,3} a1 v1/0{1,2,3}{1} y- r[] o[] x{} b0" ∷
    "= 19" ∷
    "2 ExchangeActions c2 g0 w0 p1@1{1,2,3} a0 v- y![2:1] r[] o[] x{} b0" ∷
    "= 20" ∷
    "3 ExchangeActions c2 g0 w0 p1@1{1,2,3} a0 v- y![2:1] r[] o[] x{} b0" ∷
    "= 22" ∷
    "1 Construct c2 g0 w0 p1@1{1,2,3} a1 v2/1{1,2,3}{1} y![2:1] r[] o[] x{} b0" ∷
    "= 23" ∷
    "2 Construct c2 g0 w0 p1@1{1,2,3} a1 v2/1{1,2,3}{2} y![2:1] r[] o[] x{} b0" ∷
    "= 24" ∷
    "3 Construct c2 g0 w0 p1@1{1,2,3} a1 v2/1{1,2,3}{3} y![2:1] r[] o[] x{} b0" ∷
    "= 26" ∷
    "order 1 2:1" ∷
    "1 RegPrim c2 g1 w0 p2@2{1,2,3} a0 v2/1{1,2,3}{1} y- r[] o[] x{} b0" ∷
    "= 27" ∷
    "2 RegPrim c2 g1 w0 p2@2{1,2,3} a0 v2/1{1,2,3}{2} y- r[] o[] x{} b0" ∷
    "reply 2:1 done" ∷
    "= 28" ∷
    "3 RegPrim c2 g1 w0 p2@2{1,2,3} a0 v2/1{1,2,3}{3} y- r[] o[] x{} b0" ∷
    "= 30" ∷
    "all [2:1]" ∷
    "end 30" ∷
    [])
unfolding cases_compute
stop_inside_call_06_with_no_bytes = refl

-- A crash inside a device call leaves the state before or after its commit, and the run goes on to the same end.
stop_inside_call_06_with_one_byte_of_one :
    replayed_text (
    "start 1 2 3" ∷
    "stop 1 6 01" ∷
    "merge 1 2 3" ∷
    "rounds 2" ∷
    "request 2 put \"x\" 1" ∷
    "rounds 1" ∷
    "recover 1" ∷
    "split 2 3" ∷
    "merge 1 2 3" ∷
    "rounds 4" ∷
    "show order" ∷
    "end" ∷
    [])
    ≡ written (
    "= 1" ∷
    "1 NonPrim - g0 w0 p0@0{1,2,3} a0 v- y- r[] o[] x{} b0" ∷
    "2 NonPrim - g0 w0 p0@0{1,2,3} a0 v- y- r[] o[] x{} b0" ∷
    "3 NonPrim - g0 w0 p0@0{1,2,3} a0 v- y- r[] o[] x{} b0" ∷
    "= 3" ∷
    "1 ExchangeStates c1 g0 w0 p0@0{1,2,3} a0 v- y- r[] o[] x{} b0" ∷
    "2 ExchangeStates c1 g0 w0 p0@0{1,2,3} a0 v- y- r[] o[] x{} b0" ∷
    "3 ExchangeStates c1 g0 w0 p0@0{1,2,3} a0 v- y- r[] o[] x{} b0" ∷
    "= 5" ∷
    "1 Construct c1 g0 w0 p0@0{1,2,3} a1 v1/0{1,2,3}{1} y- r[] o[] x{} b0" ∷
    "= 6" ∷
    "2 Construct c1 g0 w0 p0@0{1,2,3} a1 v1/0{1,2,3}{2} y- r[] o[] x{} b0" ∷
    "= 7" ∷
    "3 Construct c1 g0 w0 p0@0{1,2,3} a1 v1/0{1,2,3}{3} y- r[] o[] x{} b0" ∷
    "= 9" ∷
    "1 Down" ∷
    "= 10" ∷
    "2 RegPrim c1 g0 w0 p1@1{1,2,3} a0 v1/0{1,2,3}{2} y- r[] o[] x{} b0" ∷
    "= 11" ∷
    "3 RegPrim c1 g0 w0 p1@1{1,2,3} a0 v1/0{1,2,3}{3} y- r[] o[] x{} b0" ∷
    "= 12" ∷
    "made 2:1 put \"x\" 1" ∷
    "2 RegPrim c1 g0 w0 p1@1{1,2,3} a0 v1/0{1,2,3}{2} y- r[] o[2:1] x{} b0" ∷
    "= 14" ∷
    "1 NonPrim - g0 w0 p0@0{1,2,3} a1 v1/0{1,2,3}{1} y- r[] o[] x{} b0" ∷
    "= 15" ∷
    "2 TransPrim t1 g0 w0 p1@1{1,2,3} a0 v1/0{1,2,3}{2} y?[2:1] r[] o[] x{} b0" ∷
    "3 TransPrim t1 g0 w0 p1@1{1,2,3} a0 v1/0{1,2,3}{3} y?[2:1] r[] o[] x{} b0" ∷
    "= 16" ∷
    "1 ExchangeStates c2 g0 w0 p0@0{1,2,3} a1 v1/0{1,2,3}{1} y- r[] o[] x{} b0" ∷
    "2 ExchangeStates c2 g0 w0 p1@1{1,2,3} a0 v- y![2:1] r[] o[] x{} b0" ∷
    "3 ExchangeStates c2 g0 w0 p1@1{1,2,3} a0 v- y![2:1] r[] o[] x{} b0" ∷
    "= 18" ∷
    "1 ExchangeActions c2 g0 w0 p0@0{1,2,3} a1 v1/0{1,2,3}{1} y- r[] o[] x{} b0" ∷
    "= 19" ∷
    "2 ExchangeActions c2 g0 w0 p1@1{1,2,3} a0 v- y![2:1] r[] o[] x{} b0" ∷
    "= 20" ∷
    "3 ExchangeActions c2 g0 w0 p1@1{1,2,3} a0 v- y![2:1] r[] o[] x{} b0" ∷
    "= 22" ∷
    "1 Construct c2 g0 w0 p1@1{1,2,3} a1 v2/1{1,2,3}{1} y![2:1] r[] o[] x{} b0" ∷
    "= 23" ∷
    "2 Construct c2 g0 w0 p1@1{1,2,3} a1 v2/1{1,2,3}{2} y![2:1] r[] o[] x{} b0" ∷
    "= 24" ∷
    "3 Construct c2 g0 w0 p1@1{1,2,3} a1 v2/1{1,2,3}{3} y![2:1] r[] o[] x{} b0" ∷
    "= 26" ∷
    "order 1 2:1" ∷
    "1 RegPrim c2 g1 w0 p2@2{1,2,3} a0 v2/1{1,2,3}{1} y- r[] o[] x{} b0" ∷
    "= 27" ∷
    "2 RegPrim c2 g1 w0 p2@2{1,2,3} a0 v2/1{1,2,3}{2} y- r[] o[] x{} b0" ∷
    "reply 2:1 done" ∷
    "= 28" ∷
    "3 RegPrim c2 g1 w0 p2@2{1,2,3} a0 v2/1{1,2,3}{3} y- r[] o[] x{} b0" ∷
    "= 30" ∷
    "all [2:1]" ∷
    "end 30" ∷
    [])
unfolding cases_compute
stop_inside_call_06_with_one_byte_of_one = refl

-- A crash inside a device call leaves the state before or after its commit, and the run goes on to the same end.
stop_inside_call_07_with_no_bytes :
    replayed_text (
    "start 1 2 3" ∷
    "stop 1 7 -" ∷
    "merge 1 2 3" ∷
    "rounds 2" ∷
    "request 2 put \"x\" 1" ∷
    "rounds 1" ∷
    "recover 1" ∷
    "split 2 3" ∷
    "merge 1 2 3" ∷
    "rounds 4" ∷
    "show order" ∷
    "end" ∷
    [])
    ≡ written (
    "= 1" ∷
    "1 NonPrim - g0 w0 p0@0{1,2,3} a0 v- y- r[] o[] x{} b0" ∷
    "2 NonPrim - g0 w0 p0@0{1,2,3} a0 v- y- r[] o[] x{} b0" ∷
    "3 NonPrim - g0 w0 p0@0{1,2,3} a0 v- y- r[] o[] x{} b0" ∷
    "= 3" ∷
    "1 ExchangeStates c1 g0 w0 p0@0{1,2,3} a0 v- y- r[] o[] x{} b0" ∷
    "2 ExchangeStates c1 g0 w0 p0@0{1,2,3} a0 v- y- r[] o[] x{} b0" ∷
    "3 ExchangeStates c1 g0 w0 p0@0{1,2,3} a0 v- y- r[] o[] x{} b0" ∷
    "= 5" ∷
    "1 Construct c1 g0 w0 p0@0{1,2,3} a1 v1/0{1,2,3}{1} y- r[] o[] x{} b0" ∷
    "= 6" ∷
    "2 Construct c1 g0 w0 p0@0{1,2,3} a1 v1/0{1,2,3}{2} y- r[] o[] x{} b0" ∷
    "= 7" ∷
    "3 Construct c1 g0 w0 p0@0{1,2,3} a1 v1/0{1,2,3}{3} y- r[] o[] x{} b0" ∷
    "= 9" ∷
    "1 Down" ∷
    "= 10" ∷
    "2 RegPrim c1 g0 w0 p1@1{1,2,3} a0 v1/0{1,2,3}{2} y- r[] o[] x{} b0" ∷
    "= 11" ∷
    "3 RegPrim c1 g0 w0 p1@1{1,2,3} a0 v1/0{1,2,3}{3} y- r[] o[] x{} b0" ∷
    "= 12" ∷
    "made 2:1 put \"x\" 1" ∷
    "2 RegPrim c1 g0 w0 p1@1{1,2,3} a0 v1/0{1,2,3}{2} y- r[] o[2:1] x{} b0" ∷
    "= 14" ∷
    "1 NonPrim - g0 w0 p0@0{1,2,3} a1 v1/0{1,2,3}{1} y- r[] o[] x{} b0" ∷
    "= 15" ∷
    "2 TransPrim t1 g0 w0 p1@1{1,2,3} a0 v1/0{1,2,3}{2} y?[2:1] r[] o[] x{} b0" ∷
    "3 TransPrim t1 g0 w0 p1@1{1,2,3} a0 v1/0{1,2,3}{3} y?[2:1] r[] o[] x{} b0" ∷
    "= 16" ∷
    "1 ExchangeStates c2 g0 w0 p0@0{1,2,3} a1 v1/0{1,2,3}{1} y- r[] o[] x{} b0" ∷
    "2 ExchangeStates c2 g0 w0 p1@1{1,2,3} a0 v- y![2:1] r[] o[] x{} b0" ∷
    "3 ExchangeStates c2 g0 w0 p1@1{1,2,3} a0 v- y![2:1] r[] o[] x{} b0" ∷
    "= 18" ∷
    "1 ExchangeActions c2 g0 w0 p0@0{1,2,3} a1 v1/0{1,2,3}{1} y- r[] o[] x{} b0" ∷
    "= 19" ∷
    "2 ExchangeActions c2 g0 w0 p1@1{1,2,3} a0 v- y![2:1] r[] o[] x{} b0" ∷
    "= 20" ∷
    "3 ExchangeActions c2 g0 w0 p1@1{1,2,3} a0 v- y![2:1] r[] o[] x{} b0" ∷
    "= 22" ∷
    "1 Construct c2 g0 w0 p1@1{1,2,3} a1 v2/1{1,2,3}{1} y![2:1] r[] o[] x{} b0" ∷
    "= 23" ∷
    "2 Construct c2 g0 w0 p1@1{1,2,3} a1 v2/1{1,2,3}{2} y![2:1] r[] o[] x{} b0" ∷
    "= 24" ∷
    "3 Construct c2 g0 w0 p1@1{1,2,3} a1 v2/1{1,2,3}{3} y![2:1] r[] o[] x{} b0" ∷
    "= 26" ∷
    "order 1 2:1" ∷
    "1 RegPrim c2 g1 w0 p2@2{1,2,3} a0 v2/1{1,2,3}{1} y- r[] o[] x{} b0" ∷
    "= 27" ∷
    "2 RegPrim c2 g1 w0 p2@2{1,2,3} a0 v2/1{1,2,3}{2} y- r[] o[] x{} b0" ∷
    "reply 2:1 done" ∷
    "= 28" ∷
    "3 RegPrim c2 g1 w0 p2@2{1,2,3} a0 v2/1{1,2,3}{3} y- r[] o[] x{} b0" ∷
    "= 30" ∷
    "all [2:1]" ∷
    "end 30" ∷
    [])
unfolding cases_compute
stop_inside_call_07_with_no_bytes = refl

-- A crash inside a device call leaves the state before or after its commit, and the run goes on to the same end.
stop_inside_call_07_with_one_byte_of_one :
    replayed_text (
    "start 1 2 3" ∷
    "stop 1 7 01" ∷
    "merge 1 2 3" ∷
    "rounds 2" ∷
    "request 2 put \"x\" 1" ∷
    "rounds 1" ∷
    "recover 1" ∷
    "split 2 3" ∷
    "merge 1 2 3" ∷
    "rounds 4" ∷
    "show order" ∷
    "end" ∷
    [])
    ≡ written (
    "= 1" ∷
    "1 NonPrim - g0 w0 p0@0{1,2,3} a0 v- y- r[] o[] x{} b0" ∷
    "2 NonPrim - g0 w0 p0@0{1,2,3} a0 v- y- r[] o[] x{} b0" ∷
    "3 NonPrim - g0 w0 p0@0{1,2,3} a0 v- y- r[] o[] x{} b0" ∷
    "= 3" ∷
    "1 ExchangeStates c1 g0 w0 p0@0{1,2,3} a0 v- y- r[] o[] x{} b0" ∷
    "2 ExchangeStates c1 g0 w0 p0@0{1,2,3} a0 v- y- r[] o[] x{} b0" ∷
    "3 ExchangeStates c1 g0 w0 p0@0{1,2,3} a0 v- y- r[] o[] x{} b0" ∷
    "= 5" ∷
    "1 Construct c1 g0 w0 p0@0{1,2,3} a1 v1/0{1,2,3}{1} y- r[] o[] x{} b0" ∷
    "= 6" ∷
    "2 Construct c1 g0 w0 p0@0{1,2,3} a1 v1/0{1,2,3}{2} y- r[] o[] x{} b0" ∷
    "= 7" ∷
    "3 Construct c1 g0 w0 p0@0{1,2,3} a1 v1/0{1,2,3}{3} y- r[] o[] x{} b0" ∷
    "= 9" ∷
    "1 Down" ∷
    "= 10" ∷
    "2 RegPrim c1 g0 w0 p1@1{1,2,3} a0 v1/0{1,2,3}{2} y- r[] o[] x{} b0" ∷
    "= 11" ∷
    "3 RegPrim c1 g0 w0 p1@1{1,2,3} a0 v1/0{1,2,3}{3} y- r[] o[] x{} b0" ∷
    "= 12" ∷
    "made 2:1 put \"x\" 1" ∷
    "2 RegPrim c1 g0 w0 p1@1{1,2,3} a0 v1/0{1,2,3}{2} y- r[] o[2:1] x{} b0" ∷
    "= 14" ∷
    "1 NonPrim - g0 w0 p1@1{1,2,3} a0 v1/0{1,2,3}{1} y- r[] o[] x{} b0" ∷
    "= 15" ∷
    "2 TransPrim t1 g0 w0 p1@1{1,2,3} a0 v1/0{1,2,3}{2} y?[2:1] r[] o[] x{} b0" ∷
    "3 TransPrim t1 g0 w0 p1@1{1,2,3} a0 v1/0{1,2,3}{3} y?[2:1] r[] o[] x{} b0" ∷
    "= 16" ∷
    "1 ExchangeStates c2 g0 w0 p1@1{1,2,3} a0 v1/0{1,2,3}{1} y- r[] o[] x{} b0" ∷
    "2 ExchangeStates c2 g0 w0 p1@1{1,2,3} a0 v- y![2:1] r[] o[] x{} b0" ∷
    "3 ExchangeStates c2 g0 w0 p1@1{1,2,3} a0 v- y![2:1] r[] o[] x{} b0" ∷
    "= 18" ∷
    "1 ExchangeActions c2 g0 w0 p1@1{1,2,3} a0 v1/0{1,2,3}{1} y- r[] o[] x{} b0" ∷
    "= 19" ∷
    "2 ExchangeActions c2 g0 w0 p1@1{1,2,3} a0 v- y![2:1] r[] o[] x{} b0" ∷
    "= 20" ∷
    "3 ExchangeActions c2 g0 w0 p1@1{1,2,3} a0 v- y![2:1] r[] o[] x{} b0" ∷
    "= 22" ∷
    "1 Construct c2 g0 w0 p1@1{1,2,3} a1 v2/1{1,2,3}{1} y![2:1] r[] o[] x{} b0" ∷
    "= 23" ∷
    "2 Construct c2 g0 w0 p1@1{1,2,3} a1 v2/1{1,2,3}{2} y![2:1] r[] o[] x{} b0" ∷
    "= 24" ∷
    "3 Construct c2 g0 w0 p1@1{1,2,3} a1 v2/1{1,2,3}{3} y![2:1] r[] o[] x{} b0" ∷
    "= 26" ∷
    "order 1 2:1" ∷
    "1 RegPrim c2 g1 w0 p2@2{1,2,3} a0 v2/1{1,2,3}{1} y- r[] o[] x{} b0" ∷
    "= 27" ∷
    "2 RegPrim c2 g1 w0 p2@2{1,2,3} a0 v2/1{1,2,3}{2} y- r[] o[] x{} b0" ∷
    "reply 2:1 done" ∷
    "= 28" ∷
    "3 RegPrim c2 g1 w0 p2@2{1,2,3} a0 v2/1{1,2,3}{3} y- r[] o[] x{} b0" ∷
    "= 30" ∷
    "all [2:1]" ∷
    "end 30" ∷
    [])
unfolding cases_compute
stop_inside_call_07_with_one_byte_of_one = refl

-- A crash inside a device call leaves the state before or after its commit, and the run goes on to the same end.
stop_inside_call_08_with_no_bytes :
    replayed_text (
    "start 1 2 3" ∷
    "stop 1 8 -" ∷
    "merge 1 2 3" ∷
    "rounds 2" ∷
    "request 2 put \"x\" 1" ∷
    "rounds 1" ∷
    "recover 1" ∷
    "split 2 3" ∷
    "merge 1 2 3" ∷
    "rounds 4" ∷
    "show order" ∷
    "end" ∷
    [])
    ≡ written (
    "= 1" ∷
    "1 NonPrim - g0 w0 p0@0{1,2,3} a0 v- y- r[] o[] x{} b0" ∷
    "2 NonPrim - g0 w0 p0@0{1,2,3} a0 v- y- r[] o[] x{} b0" ∷
    "3 NonPrim - g0 w0 p0@0{1,2,3} a0 v- y- r[] o[] x{} b0" ∷
    "= 3" ∷
    "1 ExchangeStates c1 g0 w0 p0@0{1,2,3} a0 v- y- r[] o[] x{} b0" ∷
    "2 ExchangeStates c1 g0 w0 p0@0{1,2,3} a0 v- y- r[] o[] x{} b0" ∷
    "3 ExchangeStates c1 g0 w0 p0@0{1,2,3} a0 v- y- r[] o[] x{} b0" ∷
    "= 5" ∷
    "1 Construct c1 g0 w0 p0@0{1,2,3} a1 v1/0{1,2,3}{1} y- r[] o[] x{} b0" ∷
    "= 6" ∷
    "2 Construct c1 g0 w0 p0@0{1,2,3} a1 v1/0{1,2,3}{2} y- r[] o[] x{} b0" ∷
    "= 7" ∷
    "3 Construct c1 g0 w0 p0@0{1,2,3} a1 v1/0{1,2,3}{3} y- r[] o[] x{} b0" ∷
    "= 9" ∷
    "1 Down" ∷
    "= 10" ∷
    "2 RegPrim c1 g0 w0 p1@1{1,2,3} a0 v1/0{1,2,3}{2} y- r[] o[] x{} b0" ∷
    "= 11" ∷
    "3 RegPrim c1 g0 w0 p1@1{1,2,3} a0 v1/0{1,2,3}{3} y- r[] o[] x{} b0" ∷
    "= 12" ∷
    "made 2:1 put \"x\" 1" ∷
    "2 RegPrim c1 g0 w0 p1@1{1,2,3} a0 v1/0{1,2,3}{2} y- r[] o[2:1] x{} b0" ∷
    "= 14" ∷
    "1 NonPrim - g0 w0 p0@0{1,2,3} a1 v1/0{1,2,3}{1} y- r[] o[] x{} b0" ∷
    "= 15" ∷
    "2 TransPrim t1 g0 w0 p1@1{1,2,3} a0 v1/0{1,2,3}{2} y?[2:1] r[] o[] x{} b0" ∷
    "3 TransPrim t1 g0 w0 p1@1{1,2,3} a0 v1/0{1,2,3}{3} y?[2:1] r[] o[] x{} b0" ∷
    "= 16" ∷
    "1 ExchangeStates c2 g0 w0 p0@0{1,2,3} a1 v1/0{1,2,3}{1} y- r[] o[] x{} b0" ∷
    "2 ExchangeStates c2 g0 w0 p1@1{1,2,3} a0 v- y![2:1] r[] o[] x{} b0" ∷
    "3 ExchangeStates c2 g0 w0 p1@1{1,2,3} a0 v- y![2:1] r[] o[] x{} b0" ∷
    "= 18" ∷
    "1 ExchangeActions c2 g0 w0 p0@0{1,2,3} a1 v1/0{1,2,3}{1} y- r[] o[] x{} b0" ∷
    "= 19" ∷
    "2 ExchangeActions c2 g0 w0 p1@1{1,2,3} a0 v- y![2:1] r[] o[] x{} b0" ∷
    "= 20" ∷
    "3 ExchangeActions c2 g0 w0 p1@1{1,2,3} a0 v- y![2:1] r[] o[] x{} b0" ∷
    "= 22" ∷
    "1 Construct c2 g0 w0 p1@1{1,2,3} a1 v2/1{1,2,3}{1} y![2:1] r[] o[] x{} b0" ∷
    "= 23" ∷
    "2 Construct c2 g0 w0 p1@1{1,2,3} a1 v2/1{1,2,3}{2} y![2:1] r[] o[] x{} b0" ∷
    "= 24" ∷
    "3 Construct c2 g0 w0 p1@1{1,2,3} a1 v2/1{1,2,3}{3} y![2:1] r[] o[] x{} b0" ∷
    "= 26" ∷
    "order 1 2:1" ∷
    "1 RegPrim c2 g1 w0 p2@2{1,2,3} a0 v2/1{1,2,3}{1} y- r[] o[] x{} b0" ∷
    "= 27" ∷
    "2 RegPrim c2 g1 w0 p2@2{1,2,3} a0 v2/1{1,2,3}{2} y- r[] o[] x{} b0" ∷
    "reply 2:1 done" ∷
    "= 28" ∷
    "3 RegPrim c2 g1 w0 p2@2{1,2,3} a0 v2/1{1,2,3}{3} y- r[] o[] x{} b0" ∷
    "= 30" ∷
    "all [2:1]" ∷
    "end 30" ∷
    [])
unfolding cases_compute
stop_inside_call_08_with_no_bytes = refl
