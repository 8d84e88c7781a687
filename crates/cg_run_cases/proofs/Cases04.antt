-- Cases of cases/ with their whole reports, which `.ci/theorems` writes down here.
use Rattle.std.specs.Prelude.{◌≡◌, [], ◌∷◌}
use mathlib.Core.Path.{refl}
use Rattle.cg_run_cases.specs.Replaying.{replayed_text, written}
use Rattle.cg_run_cases.specs.Computing.{cases_compute}

-- A fault at a device call leaves the state before or after its commit, and the run goes on to the same end.
fault_at_call_02 :
    replayed_text (
    "start 1 2 3" ∷
    "fail 1 2" ∷
    "merge 1 2 3" ∷
    "rounds 2" ∷
    "request 2 put \"x\" 1" ∷
    "rounds 1" ∷
    "recover 1" ∷
    "split 2 3" ∷
    "merge 1 2 3" ∷
    "rounds 4" ∷
    "show order" ∷
    "end" ∷
    [])
    ≡ written (
    "= 1" ∷
    "1 NonPrim - g0 w0 p0@0{1,2,3} a0 v- y- r[] o[] x{} b0" ∷
    "2 NonPrim - g0 w0 p0@0{1,2,3} a0 v- y- r[] o[] x{} b0" ∷
    "3 NonPrim - g0 w0 p0@0{1,2,3} a0 v- y- r[] o[] x{} b0" ∷
    "= 3" ∷
    "1 ExchangeStates c1 g0 w0 p0@0{1,2,3} a0 v- y- r[] o[] x{} b0" ∷
    "2 ExchangeStates c1 g0 w0 p0@0{1,2,3} a0 v- y- r[] o[] x{} b0" ∷
    "3 ExchangeStates c1 g0 w0 p0@0{1,2,3} a0 v- y- r[] o[] x{} b0" ∷
    "= 5" ∷
    "1 Down" ∷
    "= 6" ∷
    "2 Construct c1 g0 w0 p0@0{1,2,3} a1 v1/0{1,2,3}{2} y- r[] o[] x{} b0" ∷
    "= 7" ∷
    "3 Construct c1 g0 w0 p0@0{1,2,3} a1 v1/0{1,2,3}{3} y- r[] o[] x{} b0" ∷
    "= 9" ∷
    "2 Construct c1 g0 w0 p0@0{1,2,3} a1 v1/0{1,2,3}{2} y- r[] o[] x{} b1" ∷
    "= 11" ∷
    "1 NonPrim - g0 w0 p0@0{1,2,3} a0 v- y- r[] o[] x{} b0" ∷
    "= 12" ∷
    "2 No t1 g0 w0 p0@0{1,2,3} a1 v1/0{1,2,3}{2} y- r[] o[] x{} b1" ∷
    "3 No t1 g0 w0 p0@0{1,2,3} a1 v1/0{1,2,3}{3} y- r[] o[] x{} b0" ∷
    "= 13" ∷
    "1 ExchangeStates c2 g0 w0 p0@0{1,2,3} a0 v- y- r[] o[] x{} b0" ∷
    "2 ExchangeStates c2 g0 w0 p0@0{1,2,3} a1 v- y- r[] o[] x{} b1" ∷
    "3 ExchangeStates c2 g0 w0 p0@0{1,2,3} a1 v- y- r[] o[] x{} b0" ∷
    "= 15" ∷
    "1 Construct c2 g0 w0 p0@0{1,2,3} a2 v2/0{1,2,3}{1} y- r[] o[] x{} b0" ∷
    "= 16" ∷
    "2 Construct c2 g0 w0 p0@0{1,2,3} a2 v2/0{1,2,3}{2} y- r[] o[] x{} b1" ∷
    "= 17" ∷
    "3 Construct c2 g0 w0 p0@0{1,2,3} a2 v2/0{1,2,3}{3} y- r[] o[] x{} b0" ∷
    "= 19" ∷
    "1 RegPrim c2 g0 w0 p1@2{1,2,3} a0 v2/0{1,2,3}{1} y- r[] o[] x{} b0" ∷
    "= 20" ∷
    "made 2:1 put \"x\" 1" ∷
    "2 RegPrim c2 g0 w0 p1@2{1,2,3} a0 v2/0{1,2,3}{2} y- r[] o[2:1] x{} b0" ∷
    "= 21" ∷
    "3 RegPrim c2 g0 w0 p1@2{1,2,3} a0 v2/0{1,2,3}{3} y- r[] o[] x{} b0" ∷
    "= 23" ∷
    "order 1 2:1" ∷
    "1 RegPrim c2 g1 w0 p1@2{1,2,3} a0 v2/0{1,2,3}{1} y- r[] o[] x{} b0" ∷
    "= 24" ∷
    "2 RegPrim c2 g1 w0 p1@2{1,2,3} a0 v2/0{1,2,3}{2} y- r[] o[] x{} b0" ∷
    "reply 2:1 done" ∷
    "= 25" ∷
    "3 RegPrim c2 g1 w0 p1@2{1,2,3} a0 v2/0{1,2,3}{3} y- r[] o[] x{} b0" ∷
    "= 27" ∷
    "all [2:1]" ∷
    "end 27" ∷
    [])
unfolding cases_compute
fault_at_call_02 = refl

-- A fault at a device call leaves the state before or after its commit, and the run goes on to the same end.
fault_at_call_03 :
    replayed_text (
    "start 1 2 3" ∷
    "fail 1 3" ∷
    "merge 1 2 3" ∷
    "rounds 2" ∷
    "request 2 put \"x\" 1" ∷
    "rounds 1" ∷
    "recover 1" ∷
    "split 2 3" ∷
    "merge 1 2 3" ∷
    "rounds 4" ∷
    "show order" ∷
    "end" ∷
    [])
    ≡ written (
    "= 1" ∷
    "1 NonPrim - g0 w0 p0@0{1,2,3} a0 v- y- r[] o[] x{} b0" ∷
    "2 NonPrim - g0 w0 p0@0{1,2,3} a0 v- y- r[] o[] x{} b0" ∷
    "3 NonPrim - g0 w0 p0@0{1,2,3} a0 v- y- r[] o[] x{} b0" ∷
    "= 3" ∷
    "1 ExchangeStates c1 g0 w0 p0@0{1,2,3} a0 v- y- r[] o[] x{} b0" ∷
    "2 ExchangeStates c1 g0 w0 p0@0{1,2,3} a0 v- y- r[] o[] x{} b0" ∷
    "3 ExchangeStates c1 g0 w0 p0@0{1,2,3} a0 v- y- r[] o[] x{} b0" ∷
    "= 5" ∷
    "1 Down" ∷
    "= 6" ∷
    "2 Construct c1 g0 w0 p0@0{1,2,3} a1 v1/0{1,2,3}{2} y- r[] o[] x{} b0" ∷
    "= 7" ∷
    "3 Construct c1 g0 w0 p0@0{1,2,3} a1 v1/0{1,2,3}{3} y- r[] o[] x{} b0" ∷
    "= 9" ∷
    "2 Construct c1 g0 w0 p0@0{1,2,3} a1 v1/0{1,2,3}{2} y- r[] o[] x{} b1" ∷
    "= 11" ∷
    "1 NonPrim - g0 w0 p0@0{1,2,3} a0 v- y- r[] o[] x{} b0" ∷
    "= 12" ∷
    "2 No t1 g0 w0 p0@0{1,2,3} a1 v1/0{1,2,3}{2} y- r[] o[] x{} b1" ∷
    "3 No t1 g0 w0 p0@0{1,2,3} a1 v1/0{1,2,3}{3} y- r[] o[] x{} b0" ∷
    "= 13" ∷
    "1 ExchangeStates c2 g0 w0 p0@0{1,2,3} a0 v- y- r[] o[] x{} b0" ∷
    "2 ExchangeStates c2 g0 w0 p0@0{1,2,3} a1 v- y- r[] o[] x{} b1" ∷
    "3 ExchangeStates c2 g0 w0 p0@0{1,2,3} a1 v- y- r[] o[] x{} b0" ∷
    "= 15" ∷
    "1 Construct c2 g0 w0 p0@0{1,2,3} a2 v2/0{1,2,3}{1} y- r[] o[] x{} b0" ∷
    "= 16" ∷
    "2 Construct c2 g0 w0 p0@0{1,2,3} a2 v2/0{1,2,3}{2} y- r[] o[] x{} b1" ∷
    "= 17" ∷
    "3 Construct c2 g0 w0 p0@0{1,2,3} a2 v2/0{1,2,3}{3} y- r[] o[] x{} b0" ∷
    "= 19" ∷
    "1 RegPrim c2 g0 w0 p1@2{1,2,3} a0 v2/0{1,2,3}{1} y- r[] o[] x{} b0" ∷
    "= 20" ∷
    "made 2:1 put \"x\" 1" ∷
    "2 RegPrim c2 g0 w0 p1@2{1,2,3} a0 v2/0{1,2,3}{2} y- r[] o[2:1] x{} b0" ∷
    "= 21" ∷
    "3 RegPrim c2 g0 w0 p1@2{1,2,3} a0 v2/0{1,2,3}{3} y- r[] o[] x{} b0" ∷
    "= 23" ∷
    "order 1 2:1" ∷
    "1 RegPrim c2 g1 w0 p1@2{1,2,3} a0 v2/0{1,2,3}{1} y- r[] o[] x{} b0" ∷
    "= 24" ∷
    "2 RegPrim c2 g1 w0 p1@2{1,2,3} a0 v2/0{1,2,3}{2} y- r[] o[] x{} b0" ∷
    "reply 2:1 done" ∷
    "= 25" ∷
    "3 RegPrim c2 g1 w0 p1@2{1,2,3} a0 v2/0{1,2,3}{3} y- r[] o[] x{} b0" ∷
    "= 27" ∷
    "all [2:1]" ∷
    "end 27" ∷
    [])
unfolding cases_compute
fault_at_call_03 = refl

-- A fault at a device call leaves the state before or after its commit, and the run goes on to the same end.
fault_at_call_04 :
    replayed_text (
    "start 1 2 3" ∷
    "fail 1 4" ∷
    "merge 1 2 3" ∷
    "rounds 2" ∷
    "request 2 put \"x\" 1" ∷
    "rounds 1" ∷
    "recover 1" ∷
    "split 2 3" ∷
    "merge 1 2 3" ∷
    "rounds 4" ∷
    "show order" ∷
    "end" ∷
    [])
    ≡ written (
    "= 1" ∷
    "1 NonPrim - g0 w0 p0@0{1,2,3} a0 v- y- r[] o[] x{} b0" ∷
    "2 NonPrim - g0 w0 p0@0{1,2,3} a0 v- y- r[] o[] x{} b0" ∷
    "3 NonPrim - g0 w0 p0@0{1,2,3} a0 v- y- r[] o[] x{} b0" ∷
    "= 3" ∷
    "1 ExchangeStates c1 g0 w0 p0@0{1,2,3} a0 v- y- r[] o[] x{} b0" ∷
    "2 ExchangeStates c1 g0 w0 p0@0{1,2,3} a0 v- y- r[] o[] x{} b0" ∷
    "3 ExchangeStates c1 g0 w0 p0@0{1,2,3} a0 v- y- r[] o[] x{} b0" ∷
    "= 5" ∷
    "1 Down" ∷
    "= 6" ∷
    "2 Construct c1 g0 w0 p0@0{1,2,3} a1 v1/0{1,2,3}{2} y- r[] o[] x{} b0" ∷
    "= 7" ∷
    "3 Construct c1 g0 w0 p0@0{1,2,3} a1 v1/0{1,2,3}{3} y- r[] o[] x{} b0" ∷
    "= 9" ∷
    "2 Construct c1 g0 w0 p0@0{1,2,3} a1 v1/0{1,2,3}{2} y- r[] o[] x{} b1" ∷
    "= 11" ∷
    "1 NonPrim - g0 w0 p0@0{1,2,3} a1 v1/0{1,2,3}{1} y- r[] o[] x{} b0" ∷
    "= 12" ∷
    "2 No t1 g0 w0 p0@0{1,2,3} a1 v1/0{1,2,3}{2} y- r[] o[] x{} b1" ∷
    "3 No t1 g0 w0 p0@0{1,2,3} a1 v1/0{1,2,3}{3} y- r[] o[] x{} b0" ∷
    "= 13" ∷
    "1 ExchangeStates c2 g0 w0 p0@0{1,2,3} a1 v1/0{1,2,3}{1} y- r[] o[] x{} b0" ∷
    "2 ExchangeStates c2 g0 w0 p0@0{1,2,3} a1 v- y- r[] o[] x{} b1" ∷
    "3 ExchangeStates c2 g0 w0 p0@0{1,2,3} a1 v- y- r[] o[] x{} b0" ∷
    "= 15" ∷
    "1 Construct c2 g0 w0 p0@0{1,2,3} a2 v2/0{1,2,3}{1} y- r[] o[] x{} b0" ∷
    "= 16" ∷
    "2 Construct c2 g0 w0 p0@0{1,2,3} a2 v2/0{1,2,3}{2} y- r[] o[] x{} b1" ∷
    "= 17" ∷
    "3 Construct c2 g0 w0 p0@0{1,2,3} a2 v2/0{1,2,3}{3} y- r[] o[] x{} b0" ∷
    "= 19" ∷
    "1 RegPrim c2 g0 w0 p1@2{1,2,3} a0 v2/0{1,2,3}{1} y- r[] o[] x{} b0" ∷
    "= 20" ∷
    "made 2:1 put \"x\" 1" ∷
    "2 RegPrim c2 g0 w0 p1@2{1,2,3} a0 v2/0{1,2,3}{2} y- r[] o[2:1] x{} b0" ∷
    "= 21" ∷
    "3 RegPrim c2 g0 w0 p1@2{1,2,3} a0 v2/0{1,2,3}{3} y- r[] o[] x{} b0" ∷
    "= 23" ∷
    "order 1 2:1" ∷
    "1 RegPrim c2 g1 w0 p1@2{1,2,3} a0 v2/0{1,2,3}{1} y- r[] o[] x{} b0" ∷
    "= 24" ∷
    "2 RegPrim c2 g1 w0 p1@2{1,2,3} a0 v2/0{1,2,3}{2} y- r[] o[] x{} b0" ∷
    "reply 2:1 done" ∷
    "= 25" ∷
    "3 RegPrim c2 g1 w0 p1@2{1,2,3} a0 v2/0{1,2,3}{3} y- r[] o[] x{} b0" ∷
    "= 27" ∷
    "all [2:1]" ∷
    "end 27" ∷
    [])
unfolding cases_compute
fault_at_call_04 = refl

-- A fault at a device call leaves the state before or after its commit, and the run goes on to the same end.
fault_at_call_05 :
    replayed_text (
    "start 1 2 3" ∷
    "fail 1 5" ∷
    "merge 1 2 3" ∷
    "rounds 2" ∷
    "request 2 put \"x\" 1" ∷
    "rounds 1" ∷
    "recover 1" ∷
    "split 2 3" ∷
    "merge 1 2 3" ∷
    "rounds 4" ∷
    "show order" ∷
    "end" ∷
    [])
    ≡ written (
    "= 1" ∷
    "1 NonPrim - g0 w0 p0@0{1,2,3} a0 v- y- r[] o[] x{} b0" ∷
    "2 NonPrim - g0 w0 p0@0{1,2,3} a0 v- y- r[] o[] x{} b0" ∷
    "3 NonPrim - g0 w0 p0@0{1,2,3} a0 v- y- r[] o[] x{} b0" ∷
    "= 3" ∷
    "1 ExchangeStates c1 g0 w0 p0@0{1,2,3} a0 v- y- r[] o[] x{} b0" ∷
    "2 ExchangeStates c1 g0 w0 p0@0{1,2,3} a0 v- y- r[] o[] x{} b0" ∷
    "3 ExchangeStates c1 g0 w0 p0@0{1,2,3} a0 v- y- r[] o[] x{} b0" ∷
    "= 5" ∷
    "1 Construct c1 g0 w0 p0@0{1,2,3} a1 v1/0{1,2,3}{1} y- r[] o[] x{} b0" ∷
    "= 6" ∷
    "2 Construct c1 g0 w0 p0@0{1,2,3} a1 v1/0{1,2,3}{2} y- r[] o[] x{} b0" ∷
    "= 7" ∷
    "3 Construct c1 g0 w0 p0@0{1,2,3} a1 v1/0{1,2,3}{3} y- r[] o[] x{} b0" ∷
    "= 9" ∷
    "1 Down" ∷
    "= 10" ∷
    "2 RegPrim c1 g0 w0 p1@1{1,2,3} a0 v1/0{1,2,3}{2} y- r[] o[] x{} b0" ∷
    "= 11" ∷
    "3 RegPrim c1 g0 w0 p1@1{1,2,3} a0 v1/0{1,2,3}{3} y- r[] o[] x{} b0" ∷
    "= 12" ∷
    "made 2:1 put \"x\" 1" ∷
    "2 RegPrim c1 g0 w0 p1@1{1,2,3} a0 v1/0{1,2,3}{2} y- r[] o[2:1] x{} b0" ∷
    "= 14" ∷
    "1 NonPrim - g0 w0 p0@0{1,2,3} a1 v1/0{1,2,3}{1} y- r[] o[] x{} b0" ∷
    "= 15" ∷
    "2 TransPrim t1 g0 w0 p1@1{1,2,3} a0 v1/0{1,2,3}{2} y?[2:1] r[] o[] x{} b0" ∷
    "3 TransPrim t1 g0 w0 p1@1{1,2,3} a0 v1/0{1,2,3}{3} y?[2:1] r[] o[] x{} b0" ∷
    "= 16" ∷
    "1 ExchangeStates c2 g0 w0 p0@0{1,2,3} a1 v1/0{1,2,3}{1} y- r[] o[] x{} b0" ∷
    "2 ExchangeStates c2 g0 w0 p1@1{1,2,3} a0 v- y![2:1] r[] o[] x{} b0" ∷
    "3 ExchangeStates c2 g0 w0 p1@1{1,2,3} a0 v- y![2:1] r[] o[] x{} b0" ∷
    "= 18" ∷
    "1 ExchangeActions c2 g0 w0 p0@0{1,2,3} a1 v1/0{1,2,3}{1} y- r[] o[] x{} b0" ∷
    "= 19" ∷
    "2 ExchangeActions c2 g0 w0 p1@1{1,2,3} a0 v- y![2:1] r[] o[] x{} b0" ∷
    "= 20" ∷
    "3 ExchangeActions c2 g0 w0 p1@1{1,2,3} a0 v- y![2:1] r[] o[] x{} b0" ∷
    "= 22" ∷
    "1 Construct c2 g0 w0 p1@1{1,2,3} a1 v2/1{1,2,3}{1} y![2:1] r[] o[] x{} b0" ∷
    "= 23" ∷
    "2 Construct c2 g0 w0 p1@1{1,2,3} a1 v2/1{1,2,3}{2} y![2:1] r[] o[] x{} b0" ∷
    "= 24" ∷
    "3 Construct c2 g0 w0 p1@1{1,2,3} a1 v2/1{1,2,3}{3} y![2:1] r[] o[] x{} b0" ∷
    "= 26" ∷
    "order 1 2:1" ∷
    "1 RegPrim c2 g1 w0 p2@2{1,2,3} a0 v2/1{1,2,3}{1} y- r[] o[] x{} b0" ∷
    "= 27" ∷
    "2 RegPrim c2 g1 w0 p2@2{1,2,3} a0 v2/1{1,2,3}{2} y- r[] o[] x{} b0" ∷
    "reply 2:1 done" ∷
    "= 28" ∷
    "3 RegPrim c2 g1 w0 p2@2{1,2,3} a0 v2/1{1,2,3}{3} y- r[] o[] x{} b0" ∷
    "= 30" ∷
    "all [2:1]" ∷
    "end 30" ∷
    [])
unfolding cases_compute
fault_at_call_05 = refl

-- A fault at a device call leaves the state before or after its commit, and the run goes on to the same end.
fault_at_call_06 :
    replayed_text (
    "start 1 2 3" ∷
    "fail 1 6" ∷
    "merge 1 2 3" ∷
    "rounds 2" ∷
    "request 2 put \"x\" 1" ∷
    "rounds 1" ∷
    "recover 1" ∷
    "split 2 3" ∷
    "merge 1 2 3" ∷
    "rounds 4" ∷
    "show order" ∷
    "end" ∷
    [])
    ≡ written (
    "= 1" ∷
    "1 NonPrim - g0 w0 p0@0{1,2,3} a0 v- y- r[] o[] x{} b0" ∷
    "2 NonPrim - g0 w0 p0@0{1,2,3} a0 v- y- r[] o[] x{} b0" ∷
    "3 NonPrim - g0 w0 p0@0{1,2,3} a0 v- y- r[] o[] x{} b0" ∷
    "= 3" ∷
    "1 ExchangeStates c1 g0 w0 p0@0{1,2,3} a0 v- y- r[] o[] x{} b0" ∷
    "2 ExchangeStates c1 g0 w0 p0@0{1,2,3} a0 v- y- r[] o[] x{} b0" ∷
    "3 ExchangeStates c1 g0 w0 p0@0{1,2,3} a0 v- y- r[] o[] x{} b0" ∷
    "= 5" ∷
    "1 Construct c1 g0 w0 p0@0{1,2,3} a1 v1/0{1,2,3}{1} y- r[] o[] x{} b0" ∷
    "= 6" ∷
    "2 Construct c1 g0 w0 p0@0{1,2,3} a1 v1/0{1,2,3}{2} y- r[] o[] x{} b0" ∷
    "= 7" ∷
    "3 Construct c1 g0 w0 p0@0{1,2,3} a1 v1/0{1,2,3}{3} y- r[] o[] x{} b0" ∷
    "= 9" ∷
    "1 Down" ∷
    "= 10" ∷
    "2 RegPrim c1 g0 w0 p1@1{1,2,3} a0 v1/0{1,2,3}{2} y- r[] o[] x{} b0" ∷
    "= 11" ∷
    "3 RegPrim c1 g0 w0 p1@1{1,2,3} a0 v1/0{1,2,3}{3} y- r[] o[] x{} b0" ∷
    "= 12" ∷
    "made 2:1 put \"x\" 1" ∷
    "2 RegPrim c1 g0 w0 p1@1{1,2,3} a0 v1/0{1,2,3}{2} y- r[] o[2:1] x{} b0" ∷
    "= 14" ∷
    "1 NonPrim - g0 w0 p0@0{1,2,3} a1 v1/0{1,2,3}{1} y- r[] o[] x{} b0" ∷
    "= 15" ∷
    "2 TransPrim t1 g0 w0 p1@1{1,2,3} a0 v1/0{1,2,3}{2} y?[2:1] r[] o[] x{} b0" ∷
    "3 TransPrim t1 g0 w0 p1@1{1,2,3} a0 v1/0{1,2,3}{3} y?[2:1] r[] o[] x{} b0" ∷
    "= 16" ∷
    "1 ExchangeStates c2 g0 w0 p0@0{1,2,3} a1 v1/0{1,2,3}{1} y- r[] o[] x{} b0" ∷
    "2 ExchangeStates c2 g0 w0 p1@1{1,2,3} a0 v- y![2:1] r[] o[] x{} b0" ∷
    "3 ExchangeStates c2 g0 w0 p1@1{1,2,3} a0 v- y![2:1] r[] o[] x{} b0" ∷
    "= 18" ∷
    "1 ExchangeActions c2 g0 w0 p0@0{1,2,3} a1 v1/0{1,2,3}{1} y- r[] o[] x{} b0" ∷
    "= 19" ∷
    "2 ExchangeActions c2 g0 w0 p1@1{1,2,3} a0 v- y![2:1] r[] o[] x{} b0" ∷
    "= 20" ∷
    "3 ExchangeActions c2 g0 w0 p1@1{1,2,3} a0 v- y![2:1] r[] o[] x{} b0" ∷
    "= 22" ∷
    "1 Construct c2 g0 w0 p1@1{1,2,3} a1 v2/1{1,2,3}{1} y![2:1] r[] o[] x{} b0" ∷
    "= 23" ∷
    "2 Construct c2 g0 w0 p1@1{1,2,3} a1 v2/1{1,2,3}{2} y![2:1] r[] o[] x{} b0" ∷
    "= 24" ∷
    "3 Construct c2 g0 w0 p1@1{1,2,3} a1 v2/1{1,2,3}{3} y![2:1] r[] o[] x{} b0" ∷
    "= 26" ∷
    "order 1 2:1" ∷
    "1 RegPrim c2 g1 w0 p2@2{1,2,3} a0 v2/1{1,2,3}{1} y- r[] o[] x{} b0" ∷
    "= 27" ∷
    "2 RegPrim c2 g1 w0 p2@2{1,2,3} a0 v2/1{1,2,3}{2} y- r[] o[] x{} b0" ∷
    "reply 2:1 done" ∷
    "= 28" ∷
    "3 RegPrim c2 g1 w0 p2@2{1,2,3} a0 v2/1{1,2,3}{3} y- r[] o[] x{} b0" ∷
    "= 30" ∷
    "all [2:1]" ∷
    "end 30" ∷
    [])
unfolding cases_compute
fault_at_call_06 = refl

-- A fault at a device call leaves the state before or after its commit, and the run goes on to the same end.
fault_at_call_07 :
    replayed_text (
    "start 1 2 3" ∷
    "fail 1 7" ∷
    "merge 1 2 3" ∷
    "rounds 2" ∷
    "request 2 put \"x\" 1" ∷
    "rounds 1" ∷
    "recover 1" ∷
    "split 2 3" ∷
    "merge 1 2 3" ∷
    "rounds 4" ∷
    "show order" ∷
    "end" ∷
    [])
    ≡ written (
    "= 1" ∷
    "1 NonPrim - g0 w0 p0@0{1,2,3} a0 v- y- r[] o[] x{} b0" ∷
    "2 NonPrim - g0 w0 p0@0{1,2,3} a0 v- y- r[] o[] x{} b0" ∷
    "3 NonPrim - g0 w0 p0@0{1,2,3} a0 v- y- r[] o[] x{} b0" ∷
    "= 3" ∷
    "1 ExchangeStates c1 g0 w0 p0@0{1,2,3} a0 v- y- r[] o[] x{} b0" ∷
    "2 ExchangeStates c1 g0 w0 p0@0{1,2,3} a0 v- y- r[] o[] x{} b0" ∷
    "3 ExchangeStates c1 g0 w0 p0@0{1,2,3} a0 v- y- r[] o[] x{} b0" ∷
    "= 5" ∷
    "1 Construct c1 g0 w0 p0@0{1,2,3} a1 v1/0{1,2,3}{1} y- r[] o[] x{} b0" ∷
    "= 6" ∷
    "2 Construct c1 g0 w0 p0@0{1,2,3} a1 v1/0{1,2,3}{2} y- r[] o[] x{} b0" ∷
    "= 7" ∷
    "3 Construct c1 g0 w0 p0@0{1,2,3} a1 v1/0{1,2,3}{3} y- r[] o[] x{} b0" ∷
    "= 9" ∷
    "1 Down" ∷
    "= 10" ∷
    "2 RegPrim c1 g0 w0 p1@1{1,2,3} a0 v1/0{1,2,3}{2} y- r[] o[] x{} b0" ∷
    "= 11" ∷
    "3 RegPrim c1 g0 w0 p1@1{1,2,3} a0 v1/0{1,2,3}{3} y- r[] o[] x{} b0" ∷
    "= 12" ∷
    "made 2:1 put \"x\" 1" ∷
    "2 RegPrim c1 g0 w0 p1@1{1,2,3} a0 v1/0{1,2,3}{2} y- r[] o[2:1] x{} b0" ∷
    "= 14" ∷
    "1 NonPrim - g0 w0 p0@0{1,2,3} a1 v1/0{1,2,3}{1} y- r[] o[] x{} b0" ∷
    "= 15" ∷
    "2 TransPrim t1 g0 w0 p1@1{1,2,3} a0 v1/0{1,2,3}{2} y?[2:1] r[] o[] x{} b0" ∷
    "3 TransPrim t1 g0 w0 p1@1{1,2,3} a0 v1/0{1,2,3}{3} y?[2:1] r[] o[] x{} b0" ∷
    "= 16" ∷
    "1 ExchangeStates c2 g0 w0 p0@0{1,2,3} a1 v1/0{1,2,3}{1} y- r[] o[] x{} b0" ∷
    "2 ExchangeStates c2 g0 w0 p1@1{1,2,3} a0 v- y![2:1] r[] o[] x{} b0" ∷
    "3 ExchangeStates c2 g0 w0 p1@1{1,2,3} a0 v- y![2:1] r[] o[] x{} b0" ∷
    "= 18" ∷
    "1 ExchangeActions c2 g0 w0 p0@0{1,2,3} a1 v1/0{1,2,3}{1} y- r[] o[] x{} b0" ∷
    "= 19" ∷
    "2 ExchangeActions c2 g0 w0 p1@1{1,2,3} a0 v- y![2:1] r[] o[] x{} b0" ∷
    "= 20" ∷
    "3 ExchangeActions c2 g0 w0 p1@1{1,2,3} a0 v- y![2:1] r[] o[] x{} b0" ∷
    "= 22" ∷
    "1 Construct c2 g0 w0 p1@1{1,2,3} a1 v2/1{1,2,3}{1} y![2:1] r[] o[] x{} b0" ∷
    "= 23" ∷
    "2 Construct c2 g0 w0 p1@1{1,2,3} a1 v2/1{1,2,3}{2} y![2:1] r[] o[] x{} b0" ∷
    "= 24" ∷
    "3 Construct c2 g0 w0 p1@1{1,2,3} a1 v2/1{1,2,3}{3} y![2:1] r[] o[] x{} b0" ∷
    "= 26" ∷
    "order 1 2:1" ∷
    "1 RegPrim c2 g1 w0 p2@2{1,2,3} a0 v2/1{1,2,3}{1} y- r[] o[] x{} b0" ∷
    "= 27" ∷
    "2 RegPrim c2 g1 w0 p2@2{1,2,3} a0 v2/1{1,2,3}{2} y- r[] o[] x{} b0" ∷
    "reply 2:1 done" ∷
    "= 28" ∷
    "3 RegPrim c2 g1 w0 p2@2{1,2,3} a0 v2/1{1,2,3}{3} y- r[] o[] x{} b0" ∷
    "= 30" ∷
    "all [2:1]" ∷
    "end 30" ∷
    [])
unfolding cases_compute
fault_at_call_07 = refl

-- A fault at a device call leaves the state before or after its commit, and the run goes on to the same end.
fault_at_call_08 :
    replayed_text (
    "start 1 2 3" ∷
    "fail 1 8" ∷
    "merge 1 2 3" ∷
    "rounds 2" ∷
    "request 2 put \"x\" 1" ∷
    "rounds 1" ∷
    "recover 1" ∷
    "split 2 3" ∷
    "merge 1 2 3" ∷
    "rounds 4" ∷
    "show order" ∷
    "end" ∷
    [])
    ≡ written (
    "= 1" ∷
    "1 NonPrim - g0 w0 p0@0{1,2,3} a0 v- y- r[] o[] x{} b0" ∷
    "2 NonPrim - g0 w0 p0@0{1,2,3} a0 v- y- r[] o[] x{} b0" ∷
    "3 NonPrim - g0 w0 p0@0{1,2,3} a0 v- y- r[] o[] x{} b0" ∷
    "= 3" ∷
    "1 ExchangeStates c1 g0 w0 p0@0{1,2,3} a0 v- y- r[] o[] x{} b0" ∷
    "2 ExchangeStates c1 g0 w0 p0@0{1,2,3} a0 v- y- r[] o[] x{} b0" ∷
    "3 ExchangeStates c1 g0 w0 p0@0{1,2,3} a0 v- y- r[] o[] x{} b0" ∷
    "= 5" ∷
    "1 Construct c1 g0 w0 p0@0{1,2,3} a1 v1/0{1,2,3}{1} y- r[] o[] x{} b0" ∷
    "= 6" ∷
    "2 Construct c1 g0 w0 p0@0{1,2,3} a1 v1/0{1,2,3}{2} y- r[] o[] x{} b0" ∷
    "= 7" ∷
    "3 Construct c1 g0 w0 p0@0{1,2,3} a1 v1/0{1,2,3}{3} y- r[] o[] x{} b0" ∷
    "= 9" ∷
    "1 Down" ∷
    "= 10" ∷
    "2 RegPrim c1 g0 w0 p1@1{1,2,3} a0 v1/0{1,2,3}{2} y- r[] o[] x{} b0" ∷
    "= 11" ∷
    "3 RegPrim c1 g0 w0 p1@1{1,2,3} a0 v1/0{1,2,3}{3} y- r[] o[] x{} b0" ∷
    "= 12" ∷
    "made 2:1 put \"x\" 1" ∷
    "2 RegPrim c1 g0 w0 p1@1{1,2,3} a0 v1/0{1,2,3}{2} y- r[] o[2:1] x{} b0" ∷
    "= 14" ∷
    "1 NonPrim - g0 w0 p1@1{1,2,3} a0 v1/0{1,2,3}{1} y- r[] o[] x{} b0" ∷
    "= 15" ∷
    "2 TransPrim t1 g0 w0 p1@1{1,2,3} a0 v1/0{1,2,3}{2} y?[2:1] r[] o[] x{} b0" ∷
    "3 TransPrim t1 g0 w0 p1@1{1,2,3} a0 v1/0{1,2,3}{3} y?[2:1] r[] o[] x{} b0" ∷
    "= 16" ∷
    "1 ExchangeStates c2 g0 w0 p1@1{1,2,3} a0 v1/0{1,2,3}{1} y- r[] o[] x{} b0" ∷
    "2 ExchangeStates c2 g0 w0 p1@1{1,2,3} a0 v- y![2:1] r[] o[] x{} b0" ∷
    "3 ExchangeStates c2 g0 w0 p1@1{1,2,3} a0 v- y![2:1] r[] o[] x{} b0" ∷
    "= 18" ∷
    "1 ExchangeActions c2 g0 w0 p1@1{1,2,3} a0 v1/0{1,2,3}{1} y- r[] o[] x{} b0" ∷
    "= 19" ∷
    "2 ExchangeActions c2 g0 w0 p1@1{1,2,3} a0 v- y![2:1] r[] o[] x{} b0" ∷
    "= 20" ∷
    "3 ExchangeActions c2 g0 w0 p1@1{1,2,3} a0 v- y![2:1] r[] o[] x{} b0" ∷
    "= 22" ∷
    "1 Construct c2 g0 w0 p1@1{1,2,3} a1 v2/1{1,2,3}{1} y![2:1] r[] o[] x{} b0" ∷
    "= 23" ∷
    "2 Construct c2 g0 w0 p1@1{1,2,3} a1 v2/1{1,2,3}{2} y![2:1] r[] o[] x{} b0" ∷
    "= 24" ∷
    "3 Construct c2 g0 w0 p1@1{1,2,3} a1 v2/1{1,2,3}{3} y![2:1] r[] o[] x{} b0" ∷
    "= 26" ∷
    "order 1 2:1" ∷
    "1 RegPrim c2 g1 w0 p2@2{1,2,3} a0 v2/1{1,2,3}{1} y- r[] o[] x{} b0" ∷
    "= 27" ∷
    "2 RegPrim c2 g1 w0 p2@2{1,2,3} a0 v2/1{1,2,3}{2} y- r[] o[] x{} b0" ∷
    "reply 2:1 done" ∷
    "= 28" ∷
    "3 RegPrim c2 g1 w0 p2@2{1,2,3} a0 v2/1{1,2,3}{3} y- r[] o[] x{} b0" ∷
    "= 30" ∷
    "all [2:1]" ∷
    "end 30" ∷
    [])
unfolding cases_compute
fault_at_call_08 = refl

-- A fault at a device call leaves the state before or after its commit, and the run goes on to the same end.
fault_at_call_09 :
    replayed_text (
    "start 1 2 3" ∷
    "fail 1 9" ∷
    "merge 1 2 3" ∷
    "rounds 2" ∷
    "request 2 put \"x\" 1" ∷
    "rounds 1" ∷
    "recover 1" ∷
    "split 2 3" ∷
    "merge 1 2 3" ∷
    "rounds 4" ∷
    "show order" ∷
    "end" ∷
    [])
    ≡ written (
    "= 1" ∷
    "1 NonPrim - g0 w0 p0@0{1,2,3} a0 v- y- r[] o[] x{} b0" ∷
    "2 NonPrim - g0 w0 p0@0{1,2,3} a0 v- y- r[] o[] x{} b0" ∷
    "3 NonPrim - g0 w0 p0@0{1,2,3} a0 v- y- r[] o[] x{} b0" ∷
    "= 3" ∷
    "1 ExchangeStates c1 g0 w0 p0@0{1,2,3} a0 v- y- r[] o[] x{} b0" ∷
    "2 ExchangeStates c1 g0 w0 p0@0{1,2,3} a0 v- y- r[] o[] x{} b0" ∷
    "3 ExchangeStates c1 g0 w0 p0@0{1,2,3} a0 v- y- r[] o[] x{} b0" ∷
    "= 5" ∷
    "1 Construct c1 g0 w0 p0@0{1,2,3} a1 v1/0{1,2,3}{1} y- r[] o[] x{} b0" ∷
    "= 6" ∷
    "2 Construct c1 g0 w0 p0@0{1,2,3} a1 v1/0{1,2,3}{2} y- r[] o[] x{} b0" ∷
    "= 7" ∷
    "3 Construct c1 g0 w0 p0@0{1,2,3} a1 v1/0{1,2,3}{3} y- r[] o[] x{} b0" ∷
    "= 9" ∷
    "1 RegPrim c1 g0 w0 p1@1{1,2,3} a0 v1/0{1,2,3}{1} y- r[] o[] x{} b0" ∷
    "= 10" ∷
    "2 RegPrim c1 g0 w0 p1@1{1,2,3} a0 v1/0{1,2,3}{2} y- r[] o[] x{} b0" ∷
    "= 11" ∷
    "3 RegPrim c1 g0 w0 p1@1{1,2,3} a0 v1/0{1,2,3}{3} y- r[] o[] x{} b0" ∷
    "= 12" ∷
    "made 2:1 put \"x\" 1" ∷
    "2 RegPrim c1 g0 w0 p1@1{1,2,3} a0 v1/0{1,2,3}{2} y- r[] o[2:1] x{} b0" ∷
    "= 14" ∷
    "1 Down" ∷
    "= 15" ∷
    "order 1 2:1" ∷
    "2 RegPrim c1 g1 w0 p1@1{1,2,3} a0 v1/0{1,2,3}{2} y- r[] o[] x{} b0" ∷
    "reply 2:1 done" ∷
    "= 16" ∷
    "3 RegPrim c1 g1 w0 p1@1{1,2,3} a0 v1/0{1,2,3}{3} y- r[] o[] x{} b0" ∷
    "= 17" ∷
    "1 NonPrim - g0 w0 p1@1{1,2,3} a0 v1/0{1,2,3}{1} y- r[] o[] x{} b0" ∷
    "= 18" ∷
    "2 TransPrim t1 g1 w0 p1@1{1,2,3} a0 v1/0{1,2,3}{2} y- r[] o[] x{} b0" ∷
    "3 TransPrim t1 g1 w0 p1@1{1,2,3} a0 v1/0{1,2,3}{3} y- r[] o[] x{} b0" ∷
    "= 19" ∷
    "1 ExchangeStates c2 g0 w0 p1@1{1,2,3} a0 v1/0{1,2,3}{1} y- r[] o[] x{} b0" ∷
    "2 ExchangeStates c2 g1 w0 p1@1{1,2,3} a0 v- y![] r[] o[] x{} b0" ∷
    "3 ExchangeStates c2 g1 w0 p1@1{1,2,3} a0 v- y![] r[] o[] x{} b0" ∷
    "= 21" ∷
    "1 ExchangeActions c2 g0 w0 p1@1{1,2,3} a0 v1/0{1,2,3}{1} y- r[] o[] x{} b0" ∷
    "= 22" ∷
    "2 ExchangeActions c2 g1 w0 p1@1{1,2,3} a0 v- y![] r[] o[] x{} b0" ∷
    "= 23" ∷
    "3 ExchangeActions c2 g1 w0 p1@1{1,2,3} a0 v- y![] r[] o[] x{} b0" ∷
    "= 25" ∷
    "1 Construct c2 g1 w0 p1@1{1,2,3} a1 v2/1{1,2,3}{1} y![] r[] o[] x{} b0" ∷
    "= 26" ∷
    "2 Construct c2 g1 w0 p1@1{1,2,3} a1 v2/1{1,2,3}{2} y![] r[] o[] x{} b0" ∷
    "= 27" ∷
    "3 Construct c2 g1 w0 p1@1{1,2,3} a1 v2/1{1,2,3}{3} y![] r[] o[] x{} b0" ∷
    "= 29" ∷
    "1 RegPrim c2 g1 w0 p2@2{1,2,3} a0 v2/1{1,2,3}{1} y- r[] o[] x{} b0" ∷
    "= 30" ∷
    "2 RegPrim c2 g1 w0 p2@2{1,2,3} a0 v2/1{1,2,3}{2} y- r[] o[] x{} b0" ∷
    "= 31" ∷
    "3 RegPrim c2 g1 w0 p2@2{1,2,3} a0 v2/1{1,2,3}{3} y- r[] o[] x{} b0" ∷
    "= 33" ∷
    "all [2:1]" ∷
    "end 33" ∷
    [])
unfolding cases_compute
fault_at_call_09 = refl

-- A fault at a device call leaves the state before or after its commit, and the run goes on to the same end.
fault_at_call_10 :
    replayed_text (
    "start 1 2 3" ∷
    "fail 1 10" ∷
    "merge 1 2 3" ∷
    "rounds 2" ∷
    "request 2 put \"x\" 1" ∷
    "rounds 1" ∷
    "recover 1" ∷
    "split 2 3" ∷
    "merge 1 2 3" ∷
    "rounds 4" ∷
    "show order" ∷
    "end" ∷
    [])
    ≡ written (
    "= 1" ∷
    "1 NonPrim - g0 w0 p0@0{1,2,3} a0 v- y- r[] o[] x{} b0" ∷
    "2 NonPrim - g0 w0 p0@0{1,2,3} a0 v- y- r[] o[] x{} b0" ∷
    "3 NonPrim - g0 w0 p0@0{1,2,3} a0 v- y- r[] o[] x{} b0" ∷
    "= 3" ∷
    "1 ExchangeStates c1 g0 w0 p0@0{1,2,3} a0 v- y- r[] o[] x{} b0" ∷
    "2 ExchangeStates c1 g0 w0 p0@0{1,2,3} a0 v- y- r[] o[] x{} b0" ∷
    "3 ExchangeStates c1 g0 w0 p0@0{1,2,3} a0 v- y- r[] o[] x{} b0" ∷
    "= 5" ∷
    "1 Construct c1 g0 w0 p0@0{1,2,3} a1 v1/0{1,2,3}{1} y- r[] o[] x{} b0" ∷
    "= 6" ∷
    "2 Construct c1 g0 w0 p0@0{1,2,3} a1 v1/0{1,2,3}{2} y- r[] o[] x{} b0" ∷
    "= 7" ∷
    "3 Construct c1 g0 w0 p0@0{1,2,3} a1 v1/0{1,2,3}{3} y- r[] o[] x{} b0" ∷
    "= 9" ∷
    "1 RegPrim c1 g0 w0 p1@1{1,2,3} a0 v1/0{1,2,3}{1} y- r[] o[] x{} b0" ∷
    "= 10" ∷
    "2 RegPrim c1 g0 w0 p1@1{1,2,3} a0 v1/0{1,2,3}{2} y- r[] o[] x{} b0" ∷
    "= 11" ∷
    "3 RegPrim c1 g0 w0 p1@1{1,2,3} a0 v1/0{1,2,3}{3} y- r[] o[] x{} b0" ∷
    "= 12" ∷
    "made 2:1 put \"x\" 1" ∷
    "2 RegPrim c1 g0 w0 p1@1{1,2,3} a0 v1/0{1,2,3}{2} y- r[] o[2:1] x{} b0" ∷
    "= 14" ∷
    "1 Down" ∷
    "= 15" ∷
    "order 1 2:1" ∷
    "2 RegPrim c1 g1 w0 p1@1{1,2,3} a0 v1/0{1,2,3}{2} y- r[] o[] x{} b0" ∷
    "reply 2:1 done" ∷
    "= 16" ∷
    "3 RegPrim c1 g1 w0 p1@1{1,2,3} a0 v1/0{1,2,3}{3} y- r[] o[] x{} b0" ∷
    "= 17" ∷
    "1 NonPrim - g0 w0 p1@1{1,2,3} a0 v1/0{1,2,3}{1} y- r[] o[] x{} b0" ∷
    "= 18" ∷
    "2 TransPrim t1 g1 w0 p1@1{1,2,3} a0 v1/0{1,2,3}{2} y- r[] o[] x{} b0" ∷
    "3 TransPrim t1 g1 w0 p1@1{1,2,3} a0 v1/0{1,2,3}{3} y- r[] o[] x{} b0" ∷
    "= 19" ∷
    "1 ExchangeStates c2 g0 w0 p1@1{1,2,3} a0 v1/0{1,2,3}{1} y- r[] o[] x{} b0" ∷
    "2 ExchangeStates c2 g1 w0 p1@1{1,2,3} a0 v- y![] r[] o[] x{} b0" ∷
    "3 ExchangeStates c2 g1 w0 p1@1{1,2,3} a0 v- y![] r[] o[] x{} b0" ∷
    "= 21" ∷
    "1 ExchangeActions c2 g0 w0 p1@1{1,2,3} a0 v1/0{1,2,3}{1} y- r[] o[] x{} b0" ∷
    "= 22" ∷
    "2 ExchangeActions c2 g1 w0 p1@1{1,2,3} a0 v- y![] r[] o[] x{} b0" ∷
    "= 23" ∷
    "3 ExchangeActions c2 g1 w0 p1@1{1,2,3} a0 v- y![] r[] o[] x{} b0" ∷
    "= 25" ∷
    "1 Construct c2 g1 w0 p1@1{1,2,3} a1 v2/1{1,2,3}{1} y![] r[] o[] x{} b0" ∷
    "= 26" ∷
    "2 Construct c2 g1 w0 p1@1{1,2,3} a1 v2/1{1,2,3}{2} y![] r[] o[] x{} b0" ∷
    "= 27" ∷
    "3 Construct c2 g1 w0 p1@1{1,2,3} a1 v2/1{1,2,3}{3} y![] r[] o[] x{} b0" ∷
    "= 29" ∷
    "1 RegPrim c2 g1 w0 p2@2{1,2,3} a0 v2/1{1,2,3}{1} y- r[] o[] x{} b0" ∷
    "= 30" ∷
    "2 RegPrim c2 g1 w0 p2@2{1,2,3} a0 v2/1{1,2,3}{2} y- r[] o[] x{} b0" ∷
    "= 31" ∷
    "3 RegPrim c2 g1 w0 p2@2{1,2,3} a0 v2/1{1,2,3}{3} y- r[] o[] x{} b0" ∷
    "= 33" ∷
    "all [2:1]" ∷
    "end 33" ∷
    [])
unfolding cases_compute
fault_at_call_10 = refl

-- A fault at a device call leaves the state before or after its commit, and the run goes on to the same end.
fault_at_call_11 :
    replayed_text (
    "start 1 2 3" ∷
    "fail 1 11" ∷
    "merge 1 2 3" ∷
    "rounds 2" ∷
    "request 2 put \"x\" 1" ∷
    "rounds 1" ∷
    "recover 1" ∷
    "split 2 3" ∷
    "merge 1 2 3" ∷
    "rounds 4" ∷
    "show order" ∷
    "end" ∷
    [])
    ≡ written (
    "= 1" ∷
    "1 NonPrim - g0 w0 p0@0{1,2,3} a0 v- y- r[] o[] x{} b0" ∷
    "2 NonPrim - g0 w0 p0@0{1,2,3} a0 v- y- r[] o[] x{} b0" ∷
    "3 NonPrim - g0 w0 p0@0{1,2,3} a0 v- y- r[] o[] x{} b0" ∷
    "= 3" ∷
    "1 ExchangeStates c1 g0 w0 p0@0{1,2,3} a0 v- y- r[] o[] x{} b0" ∷
    "2 ExchangeStates c1 g0 w0 p0@0{1,2,3} a0 v- y- r[] o[] x{} b0" ∷
    "3 ExchangeStates c1 g0 w0 p0@0{1,2,3} a0 v- y- r[] o[] x{} b0" ∷
    "= 5" ∷
    "1 Construct c1 g0 w0 p0@0{1,2,3} a1 v1/0{1,2,3}{1} y- r[] o[] x{} b0" ∷
    "= 6" ∷
    "2 Construct c1 g0 w0 p0@0{1,2,3} a1 v1/0{1,2,3}{2} y- r[] o[] x{} b0" ∷
    "= 7" ∷
    "3 Construct c1 g0 w0 p0@0{1,2,3} a1 v1/0{1,2,3}{3} y- r[] o[] x{} b0" ∷
    "= 9" ∷
    "1 RegPrim c1 g0 w0 p1@1{1,2,3} a0 v1/0{1,2,3}{1} y- r[] o[] x{} b0" ∷
    "= 10" ∷
    "2 RegPrim c1 g0 w0 p1@1{1,2,3} a0 v1/0{1,2,3}{2} y- r[] o[] x{} b0" ∷
    "= 11" ∷
    "3 RegPrim c1 g0 w0 p1@1{1,2,3} a0 v1/0{1,2,3}{3} y- r[] o[] x{} b0" ∷
    "= 12" ∷
    "made 2:1 put \"x\" 1" ∷
    "2 RegPrim c1 g0 w0 p1@1{1,2,3} a0 v1/0{1,2,3}{2} y- r[] o[2:1] x{} b0" ∷
    "= 14" ∷
    "1 Down" ∷
    "= 15" ∷
    "order 1 2:1" ∷
    "2 RegPrim c1 g1 w0 p1@1{1,2,3} a0 v1/0{1,2,3}{2} y- r[] o[] x{} b0" ∷
    "reply 2:1 done" ∷
    "= 16" ∷
    "3 RegPrim c1 g1 w0 p1@1{1,2,3} a0 v1/0{1,2,3}{3} y- r[] o[] x{} b0" ∷
    "= 17" ∷
    "1 NonPrim - g0 w0 p1@1{1,2,3} a0 v1/0{1,2,3}{1} y- r[] o[] x{} b0" ∷
    "= 18" ∷
    "2 TransPrim t1 g1 w0 p1@1{1,2,3} a0 v1/0{1,2,3}{2} y- r[] o[] x{} b0" ∷
    "3 TransPrim t1 g1 w0 p1@1{1,2,3} a0 v1/0{1,2,3}{3} y- r[] o[] x{} b0" ∷
    "= 19" ∷
    "1 ExchangeStates c2 g0 w0 p1@1{1,2,3} a0 v1/0{1,2,3}{1} y- r[] o[] x{} b0" ∷
    "2 ExchangeStates c2 g1 w0 p1@1{1,2,3} a0 v- y![] r[] o[] x{} b0" ∷
    "3 ExchangeStates c2 g1 w0 p1@1{1,2,3} a0 v- y![] r[] o[] x{} b0" ∷
    "= 21" ∷
    "1 ExchangeActions c2 g0 w0 p1@1{1,2,3} a0 v1/0{1,2,3}{1} y- r[] o[] x{} b0" ∷
    "= 22" ∷
    "2 ExchangeActions c2 g1 w0 p1@1{1,2,3} a0 v- y![] r[] o[] x{} b0" ∷
    "= 23" ∷
    "3 ExchangeActions c2 g1 w0 p1@1{1,2,3} a0 v- y![] r[] o[] x{} b0" ∷
    "= 25" ∷
    "1 Construct c2 g1 w0 p1@1{1,2,3} a1 v2/1{1,2,3}{1} y![] r[] o[] x{} b0" ∷
    "= 26" ∷
    "2 Construct c2 g1 w0 p1@1{1,2,3} a1 v2/1{1,2,3}{2} y![] r[] o[] x{} b0" ∷
    "= 27" ∷
    "3 Construct c2 g1 w0 p1@1{1,2,3} a1 v2/1{1,2,3}{3} y![] r[] o[] x{} b0" ∷
    "= 29" ∷
    "1 RegPrim c2 g1 w0 p2@2{1,2,3} a0 v2/1{1,2,3}{1} y- r[] o[] x{} b0" ∷
    "= 30" ∷
    "2 RegPrim c2 g1 w0 p2@2{1,2,3} a0 v2/1{1,2,3}{2} y- r[] o[] x{} b0" ∷
    "= 31" ∷
    "3 RegPrim c2 g1 w0 p2@2{1,2,3} a0 v2/1{1,2,3}{3} y- r[] o[] x{} b0" ∷
    "= 33" ∷
    "all [2:1]" ∷
    "end 33" ∷
    [])
unfolding cases_compute
fault_at_call_11 = refl
