-- Cases of cases/ with their whole reports, which `.ci/theorems` writes down here.
use Rattle.std.specs.Prelude.{◌≡◌, [], ◌∷◌}
use mathlib.Core.Path.{refl}
use Rattle.cg_run_cases.specs.Replaying.{replayed_text, written}
use Rattle.cg_run_cases.specs.Computing.{cases_compute}

-- A fault at a device call leaves the state before or after its commit, and the run goes on to the same end.
fault_at_call_12 :
    replayed_text (
    "start 1 2 3" ∷
    "fail 1 12" ∷
    "merge 1 2 3" ∷
    "rounds 2" ∷
    "request 2 put \"x\" 1" ∷
    "rounds 1" ∷
    "recover 1" ∷
    "split 2 3" ∷
    "merge 1 2 3" ∷
    "rounds 4" ∷
    "show order" ∷
    "end" ∷
    [])
    ≡ written (
    "= 1" ∷
    "1 NonPrim - g0 w0 p0@0{1,2,3} a0 v- y- r[] o[] x{} b0" ∷
    "2 NonPrim - g0 w0 p0@0{1,2,3} a0 v- y- r[] o[] x{} b0" ∷
    "3 NonPrim - g0 w0 p0@0{1,2,3} a0 v- y- r[] o[] x{} b0" ∷
    "= 3" ∷
    "1 ExchangeStates c1 g0 w0 p0@0{1,2,3} a0 v- y- r[] o[] x{} b0" ∷
    "2 ExchangeStates c1 g0 w0 p0@0{1,2,3} a0 v- y- r[] o[] x{} b0" ∷
    "3 ExchangeStates c1 g0 w0 p0@0{1,2,3} a0 v- y- r[] o[] x{} b0" ∷
    "= 5" ∷
    "1 Construct c1 g0 w0 p0@0{1,2,3} a1 v1/0{1,2,3}{1} y- r[] o[] x{} b0" ∷
    "= 6" ∷
    "2 Construct c1 g0 w0 p0@0{1,2,3} a1 v1/0{1,2,3}{2} y- r[] o[] x{} b0" ∷
    "= 7" ∷
    "3 Construct c1 g0 w0 p0@0{1,2,3} a1 v1/0{1,2,3}{3} y- r[] o[] x{} b0" ∷
    "= 9" ∷
    "1 RegPrim c1 g0 w0 p1@1{1,2,3} a0 v1/0{1,2,3}{1} y- r[] o[] x{} b0" ∷
    "= 10" ∷
    "2 RegPrim c1 g0 w0 p1@1{1,2,3} a0 v1/0{1,2,3}{2} y- r[] o[] x{} b0" ∷
    "= 11" ∷
    "3 RegPrim c1 g0 w0 p1@1{1,2,3} a0 v1/0{1,2,3}{3} y- r[] o[] x{} b0" ∷
    "= 12" ∷
    "made 2:1 put \"x\" 1" ∷
    "2 RegPrim c1 g0 w0 p1@1{1,2,3} a0 v1/0{1,2,3}{2} y- r[] o[2:1] x{} b0" ∷
    "= 14" ∷
    "1 Down" ∷
    "= 15" ∷
    "order 1 2:1" ∷
    "2 RegPrim c1 g1 w0 p1@1{1,2,3} a0 v1/0{1,2,3}{2} y- r[] o[] x{} b0" ∷
    "reply 2:1 done" ∷
    "= 16" ∷
    "3 RegPrim c1 g1 w0 p1@1{1,2,3} a0 v1/0{1,2,3}{3} y- r[] o[] x{} b0" ∷
    "= 17" ∷
    "1 NonPrim - g1 w0 p1@1{1,2,3} a0 v1/0{1,2,3}{1} y- r[] o[] x{} b0" ∷
    "= 18" ∷
    "2 TransPrim t1 g1 w0 p1@1{1,2,3} a0 v1/0{1,2,3}{2} y- r[] o[] x{} b0" ∷
    "3 TransPrim t1 g1 w0 p1@1{1,2,3} a0 v1/0{1,2,3}{3} y- r[] o[] x{} b0" ∷
    "= 19" ∷
    "1 ExchangeStates c2 g1 w0 p1@1{1,2,3} a0 v1/0{1,2,3}{1} y- r[] o[] x{} b0" ∷
    "2 ExchangeStates c2 g1 w0 p1@1{1,2,3} a0 v- y![] r[] o[] x{} b0" ∷
    "3 ExchangeStates c2 g1 w0 p1@1{1,2,3} a0 v- y![] r[] o[] x{} b0" ∷
    "= 21" ∷
    "1 Construct c2 g1 w0 p1@1{1,2,3} a1 v2/1{1,2,3}{1} y![] r[] o[] x{} b0" ∷
    "= 22" ∷
    "2 Construct c2 g1 w0 p1@1{1,2,3} a1 v2/1{1,2,3}{2} y![] r[] o[] x{} b0" ∷
    "= 23" ∷
    "3 Construct c2 g1 w0 p1@1{1,2,3} a1 v2/1{1,2,3}{3} y![] r[] o[] x{} b0" ∷
    "= 25" ∷
    "1 RegPrim c2 g1 w0 p2@2{1,2,3} a0 v2/1{1,2,3}{1} y- r[] o[] x{} b0" ∷
    "= 26" ∷
    "2 RegPrim c2 g1 w0 p2@2{1,2,3} a0 v2/1{1,2,3}{2} y- r[] o[] x{} b0" ∷
    "= 27" ∷
    "3 RegPrim c2 g1 w0 p2@2{1,2,3} a0 v2/1{1,2,3}{3} y- r[] o[] x{} b0" ∷
    "= 30" ∷
    "all [2:1]" ∷
    "end 30" ∷
    [])
unfolding cases_compute
fault_at_call_12 = refl

-- A fault at the gate of a commit leaves the state before it.
fault_at_the_gate_a :
    replayed_text (
    "start 4 8 19 27 31" ∷
    "merge 4 8 19 27 31" ∷
    "rounds 3" ∷
    "stop 4 1 -" ∷
    "stop 8 8 01" ∷
    "stop 19 4 42010100000f" ∷
    "request 27 cas \"ab\" absent 0" ∷
    "gather" ∷
    "split 8 31" ∷
    "split 4 27" ∷
    "merge 27" ∷
    "merge 8 31" ∷
    "split 31" ∷
    "recover 4" ∷
    "rounds 3" ∷
    "fail 31 3" ∷
    "recover 8" ∷
    "recover 19" ∷
    "split 27" ∷
    "merge 4 8 19 27 31" ∷
    "rounds 3" ∷
    "recover 31" ∷
    "end" ∷
    [])
    ≡ written (
    "= 1" ∷
    "4 NonPrim - g0 w0 p0@0{4,8,19,27,31} a0 v- y- r[] o[] x{} b0" ∷
    "8 NonPrim - g0 w0 p0@0{4,8,19,27,31} a0 v- y- r[] o[] x{} b0" ∷
    "19 NonPrim - g0 w0 p0@0{4,8,19,27,31} a0 v- y- r[] o[] x{} b0" ∷
    "27 NonPrim - g0 w0 p0@0{4,8,19,27,31} a0 v- y- r[] o[] x{} b0" ∷
    "31 NonPrim - g0 w0 p0@0{4,8,19,27,31} a0 v- y- r[] o[] x{} b0" ∷
    "= 2" ∷
    "4 ExchangeStates c1 g0 w0 p0@0{4,8,19,27,31} a0 v- y- r[] o[] x{} b0" ∷
    "8 ExchangeStates c1 g0 w0 p0@0{4,8,19,27,31} a0 v- y- r[] o[] x{} b0" ∷
    "19 ExchangeStates c1 g0 w0 p0@0{4,8,19,27,31} a0 v- y- r[] o[] x{} b0" ∷
    "27 ExchangeStates c1 g0 w0 p0@0{4,8,19,27,31} a0 v- y- r[] o[] x{} b0" ∷
    "31 ExchangeStates c1 g0 w0 p0@0{4,8,19,27,31} a0 v- y- r[] o[] x{} b0" ∷
    "= 4" ∷
    "4 Construct c1 g0 w0 p0@0{4,8,19,27,31} a1 v1/0{4,8,19,27,31}{4} y- r[] o[] x{} b0" ∷
    "= 5" ∷
    "8 Construct c1 g0 w0 p0@0{4,8,19,27,31} a1 v1/0{4,8,19,27,31}{8} y- r[] o[] x{} b0" ∷
    "= 6" ∷
    "19 Construct c1 g0 w0 p0@0{4,8,19,27,31} a1 v1/0{4,8,19,27,31}{19} y- r[] o[] x{} b0" ∷
    "= 7" ∷
    "27 Construct c1 g0 w0 p0@0{4,8,19,27,31} a1 v1/0{4,8,19,27,31}{27} y- r[] o[] x{} b0" ∷
    "= 8" ∷
    "31 Construct c1 g0 w0 p0@0{4,8,19,27,31} a1 v1/0{4,8,19,27,31}{31} y- r[] o[] x{} b0" ∷
    "= 10" ∷
    "4 RegPrim c1 g0 w0 p1@1{4,8,19,27,31} a0 v1/0{4,8,19,27,31}{4} y- r[] o[] x{} b0" ∷
    "= 11" ∷
    "8 RegPrim c1 g0 w0 p1@1{4,8,19,27,31} a0 v1/0{4,8,19,27,31}{8} y- r[] o[] x{} b0" ∷
    "= 12" ∷
    "19 RegPrim c1 g0 w0 p1@1{4,8,19,27,31} a0 v1/0{4,8,19,27,31}{19} y- r[] o[] x{} b0" ∷
    "= 13" ∷
    "27 RegPrim c1 g0 w0 p1@1{4,8,19,27,31} a0 v1/0{4,8,19,27,31}{27} y- r[] o[] x{} b0" ∷
    "= 14" ∷
    "31 RegPrim c1 g0 w0 p1@1{4,8,19,27,31} a0 v1/0{4,8,19,27,31}{31} y- r[] o[] x{} b0" ∷
    "= 19" ∷
    "made 27:1 cas \"ab\" absent 0" ∷
    "27 RegPrim c1 g0 w0 p1@1{4,8,19,27,31} a0 v1/0{4,8,19,27,31}{27} y- r[] o[27:1] x{} b0" ∷
    "= 21" ∷
    "8 TransPrim t1 g0 w0 p1@1{4,8,19,27,31} a0 v1/0{4,8,19,27,31}{8} y?[27:1] r[] o[] x{} b0" ∷
    "31 TransPrim t1 g0 w0 p1@1{4,8,19,27,31} a0 v1/0{4,8,19,27,31}{31} y?[27:1] r[] o[] x{} b0" ∷
    "= 22" ∷
    "4 Down" ∷
    "27 TransPrim t1 g0 w0 p1@1{4,8,19,27,31} a0 v1/0{4,8,19,27,31}{27} y?[27:1] r[] o[] x{} b0" ∷
    "= 23" ∷
    "27 ExchangeStates c2 g0 w0 p1@1{4,8,19,27,31} a0 v- y![27:1] r[] o[] x{} b0" ∷
    "= 24" ∷
    "8 Down" ∷
    "31 ExchangeStates c3 g0 w0 p1@1{4,8,19,27,31} a0 v- y![27:1] r[] o[] x{} b0" ∷
    "= 25" ∷
    "31 NonPrim t3 g0 w0 p1@1{4,8,19,27,31} a0 v- y![27:1] r[] o[] x{} b0" ∷
    "= 26" ∷
    "4 NonPrim - g0 w0 p1@1{4,8,19,27,31} a0 v1/0{4,8,19,27,31}{4} y- r[] o[] x{} b0" ∷
    "= 28" ∷
    "19 Down" ∷
    "= 29" ∷
    "27 NonPrim c2 g0 w0 p1@1{4,8,19,27,31} a0 v- y![27:1] r[] o[] x{} b0" ∷
    "= 33" ∷
    "8 NonPrim - g0 w0 p1@1{4,8,19,27,31} a0 v- y![27:1] r[] o[] x{} b0" ∷
    "= 34" ∷
    "19 NonPrim - g0 w0 p1@1{4,8,19,27,31} a0 v1/0{4,8,19,27,31}{19} y- r[] o[] x{} b0" ∷
    "= 35" ∷
    "27 NonPrim t2 g0 w0 p1@1{4,8,19,27,31} a0 v- y![27:1] r[] o[] x{} b0" ∷
    "= 36" ∷
    "4 ExchangeStates c4 g0 w0 p1@1{4,8,19,27,31} a0 v1/0{4,8,19,27,31}{4} y- r[] o[] x{} b0" ∷
    "8 ExchangeStates c4 g0 w0 p1@1{4,8,19,27,31} a0 v- y![27:1] r[] o[] x{} b0" ∷
    "19 ExchangeStates c4 g0 w0 p1@1{4,8,19,27,31} a0 v1/0{4,8,19,27,31}{19} y- r[] o[] x{} b0" ∷
    "27 ExchangeStates c4 g0 w0 p1@1{4,8,19,27,31} a0 v- y![27:1] r[] o[] x{} b0" ∷
    "31 ExchangeStates c4 g0 w0 p1@1{4,8,19,27,31} a0 v- y![27:1] r[] o[] x{} b0" ∷
    "= 38" ∷
    "4 ExchangeActions c4 g0 w0 p1@1{4,8,19,27,31} a0 v1/0{4,8,19,27,31}{4} y- r[] o[] x{} b0" ∷
    "= 39" ∷
    "8 ExchangeActions c4 g0 w0 p1@1{4,8,19,27,31} a0 v- y![27:1] r[] o[] x{} b0" ∷
    "= 40" ∷
    "19 ExchangeActions c4 g0 w0 p1@1{4,8,19,27,31} a0 v1/0{4,8,19,27,31}{19} y- r[] o[] x{} b0" ∷
    "= 41" ∷
    "27 ExchangeActions c4 g0 w0 p1@1{4,8,19,27,31} a0 v- y![27:1] r[] o[] x{} b0" ∷
    "= 42" ∷
    "31 ExchangeActions c4 g0 w0 p1@1{4,8,19,27,31} a0 v- y![27:1] r[] o[] x{} b0" ∷
    "= 44" ∷
    "4 Construct c4 g0 w0 p1@1{4,8,19,27,31} a1 v4/1{4,8,19,27,31}{4} y![27:1] r[] o[] x{} b0" ∷
    "= 45" ∷
    "8 Construct c4 g0 w0 p1@1{4,8,19,27,31} a1 v4/1{4,8,19,27,31}{8} y![27:1] r[] o[] x{} b0" ∷
    "= 46" ∷
    "19 Construct c4 g0 w0 p1@1{4,8,19,27,31} a1 v4/1{4,8,19,27,31}{19} y![27:1] r[] o[] x{} b0" ∷
    "= 47" ∷
    "27 Construct c4 g0 w0 p1@1{4,8,19,27,31} a1 v4/1{4,8,19,27,31}{27} y![27:1] r[] o[] x{} b0" ∷
    "= 48" ∷
    "31 Down" ∷
    "= 50" ∷
    "31 NonPrim - g0 w0 p1@1{4,8,19,27,31} a0 v- y![27:1] r[] o[] x{} b0" ∷
    "end 50" ∷
    [])
unfolding cases_compute
fault_at_the_gate_a = refl

-- A fault at the gate of a commit leaves the state before it.
fault_at_the_gate_b :
    replayed_text (
    "start 1 2 3 4 5 6 7" ∷
    "merge 1 2 4 5 6 7" ∷
    "split 1 2 6 7" ∷
    "fail 2 3" ∷
    "split 4 5" ∷
    "merge 1 2 3 4 5 6 7" ∷
    "rounds 3" ∷
    "recover 2" ∷
    "end" ∷
    [])
    ≡ written (
    "= 1" ∷
    "1 NonPrim - g0 w0 p0@0{1,2,3,4,5,6,7} a0 v- y- r[] o[] x{} b0" ∷
    "2 NonPrim - g0 w0 p0@0{1,2,3,4,5,6,7} a0 v- y- r[] o[] x{} b0" ∷
    "3 NonPrim - g0 w0 p0@0{1,2,3,4,5,6,7} a0 v- y- r[] o[] x{} b0" ∷
    "4 NonPrim - g0 w0 p0@0{1,2,3,4,5,6,7} a0 v- y- r[] o[] x{} b0" ∷
    "5 NonPrim - g0 w0 p0@0{1,2,3,4,5,6,7} a0 v- y- r[] o[] x{} b0" ∷
    "6 NonPrim - g0 w0 p0@0{1,2,3,4,5,6,7} a0 v- y- r[] o[] x{} b0" ∷
    "7 NonPrim - g0 w0 p0@0{1,2,3,4,5,6,7} a0 v- y- r[] o[] x{} b0" ∷
    "= 2" ∷
    "1 ExchangeStates c1 g0 w0 p0@0{1,2,3,4,5,6,7} a0 v- y- r[] o[] x{} b0" ∷
    "2 ExchangeStates c1 g0 w0 p0@0{1,2,3,4,5,6,7} a0 v- y- r[] o[] x{} b0" ∷
    "4 ExchangeStates c1 g0 w0 p0@0{1,2,3,4,5,6,7} a0 v- y- r[] o[] x{} b0" ∷
    "5 ExchangeStates c1 g0 w0 p0@0{1,2,3,4,5,6,7} a0 v- y- r[] o[] x{} b0" ∷
    "6 ExchangeStates c1 g0 w0 p0@0{1,2,3,4,5,6,7} a0 v- y- r[] o[] x{} b0" ∷
    "7 ExchangeStates c1 g0 w0 p0@0{1,2,3,4,5,6,7} a0 v- y- r[] o[] x{} b0" ∷
    "= 3" ∷
    "1 NonPrim t1 g0 w0 p0@0{1,2,3,4,5,6,7} a0 v- y- r[] o[] x{} b0" ∷
    "2 NonPrim t1 g0 w0 p0@0{1,2,3,4,5,6,7} a0 v- y- r[] o[] x{} b0" ∷
    "6 NonPrim t1 g0 w0 p0@0{1,2,3,4,5,6,7} a0 v- y- r[] o[] x{} b0" ∷
    "7 NonPrim t1 g0 w0 p0@0{1,2,3,4,5,6,7} a0 v- y- r[] o[] x{} b0" ∷
    "= 5" ∷
    "4 NonPrim t1 g0 w0 p0@0{1,2,3,4,5,6,7} a0 v- y- r[] o[] x{} b0" ∷
    "5 NonPrim t1 g0 w0 p0@0{1,2,3,4,5,6,7} a0 v- y- r[] o[] x{} b0" ∷
    "= 6" ∷
    "1 ExchangeStates c2 g0 w0 p0@0{1,2,3,4,5,6,7} a0 v- y- r[] o[] x{} b0" ∷
    "2 ExchangeStates c2 g0 w0 p0@0{1,2,3,4,5,6,7} a0 v- y- r[] o[] x{} b0" ∷
    "3 ExchangeStates c2 g0 w0 p0@0{1,2,3,4,5,6,7} a0 v- y- r[] o[] x{} b0" ∷
    "4 ExchangeStates c2 g0 w0 p0@0{1,2,3,4,5,6,7} a0 v- y- r[] o[] x{} b0" ∷
    "5 ExchangeStates c2 g0 w0 p0@0{1,2,3,4,5,6,7} a0 v- y- r[] o[] x{} b0" ∷
    "6 ExchangeStates c2 g0 w0 p0@0{1,2,3,4,5,6,7} a0 v- y- r[] o[] x{} b0" ∷
    "7 ExchangeStates c2 g0 w0 p0@0{1,2,3,4,5,6,7} a0 v- y- r[] o[] x{} b0" ∷
    "= 8" ∷
    "1 Construct c2 g0 w0 p0@0{1,2,3,4,5,6,7} a1 v2/0{1,2,3,4,5,6,7}{1} y- r[] o[] x{} b0" ∷
    "= 9" ∷
    "2 Down" ∷
    "= 10" ∷
    "3 Construct c2 g0 w0 p0@0{1,2,3,4,5,6,7} a1 v2/0{1,2,3,4,5,6,7}{3} y- r[] o[] x{} b0" ∷
    "= 11" ∷
    "4 Construct c2 g0 w0 p0@0{1,2,3,4,5,6,7} a1 v2/0{1,2,3,4,5,6,7}{4} y- r[] o[] x{} b0" ∷
    "= 12" ∷
    "5 Construct c2 g0 w0 p0@0{1,2,3,4,5,6,7} a1 v2/0{1,2,3,4,5,6,7}{5} y- r[] o[] x{} b0" ∷
    "= 13" ∷
    "6 Construct c2 g0 w0 p0@0{1,2,3,4,5,6,7} a1 v2/0{1,2,3,4,5,6,7}{6} y- r[] o[] x{} b0" ∷
    "= 14" ∷
    "7 Construct c2 g0 w0 p0@0{1,2,3,4,5,6,7} a1 v2/0{1,2,3,4,5,6,7}{7} y- r[] o[] x{} b0" ∷
    "= 17" ∷
    "2 NonPrim - g0 w0 p0@0{1,2,3,4,5,6,7} a0 v- y- r[] o[] x{} b0" ∷
    "end 17" ∷
    [])
unfolding cases_compute
fault_at_the_gate_b = refl

-- A fault at the gate of a commit leaves the state before it.
fault_at_the_gate_c :
    replayed_text (
    "start 1 2 3 4" ∷
    "merge 1 2 3 4" ∷
    "fail 2 7" ∷
    "gather" ∷
    "deliver 2 4" ∷
    "split 1 2 3 4" ∷
    "merge 1 2 3 4" ∷
    "recover 2" ∷
    "end" ∷
    [])
    ≡ written (
    "= 1" ∷
    "1 NonPrim - g0 w0 p0@0{1,2,3,4} a0 v- y- r[] o[] x{} b0" ∷
    "2 NonPrim - g0 w0 p0@0{1,2,3,4} a0 v- y- r[] o[] x{} b0" ∷
    "3 NonPrim - g0 w0 p0@0{1,2,3,4} a0 v- y- r[] o[] x{} b0" ∷
    "4 NonPrim - g0 w0 p0@0{1,2,3,4} a0 v- y- r[] o[] x{} b0" ∷
    "= 2" ∷
    "1 ExchangeStates c1 g0 w0 p0@0{1,2,3,4} a0 v- y- r[] o[] x{} b0" ∷
    "2 ExchangeStates c1 g0 w0 p0@0{1,2,3,4} a0 v- y- r[] o[] x{} b0" ∷
    "3 ExchangeStates c1 g0 w0 p0@0{1,2,3,4} a0 v- y- r[] o[] x{} b0" ∷
    "4 ExchangeStates c1 g0 w0 p0@0{1,2,3,4} a0 v- y- r[] o[] x{} b0" ∷
    "= 5" ∷
    "2 Construct c1 g0 w0 p0@0{1,2,3,4} a1 v1/0{1,2,3,4}{2} y- r[] o[] x{} b0" ∷
    "= 6" ∷
    "1 No t1 g0 w0 p0@0{1,2,3,4} a1 v1/0{1,2,3,4}{1} y- r[] o[] x{} b0" ∷
    "2 No t1 g0 w0 p0@0{1,2,3,4} a1 v1/0{1,2,3,4}{2} y- r[] o[] x{} b0" ∷
    "3 No t1 g0 w0 p0@0{1,2,3,4} a1 v1/0{1,2,3,4}{3} y- r[] o[] x{} b0" ∷
    "4 No t1 g0 w0 p0@0{1,2,3,4} a1 v1/0{1,2,3,4}{4} y- r[] o[] x{} b0" ∷
    "= 7" ∷
    "1 ExchangeStates c2 g0 w0 p0@0{1,2,3,4} a1 v- y- r[] o[] x{} b0" ∷
    "2 Down" ∷
    "3 ExchangeStates c2 g0 w0 p0@0{1,2,3,4} a1 v- y- r[] o[] x{} b0" ∷
    "4 ExchangeStates c2 g0 w0 p0@0{1,2,3,4} a1 v- y- r[] o[] x{} b0" ∷
    "= 8" ∷
    "2 NonPrim - g0 w0 p0@0{1,2,3,4} a1 v1/0{1,2,3,4}{2} y- r[] o[] x{} b0" ∷
    "end 8" ∷
    [])
unfolding cases_compute
fault_at_the_gate_c = refl

-- Replicas at the start: 5: actions are ordered.
five_replicas_actions_ordered_a :
    replayed_text (
    "start 1 2 3 4 5" ∷
    "merge 1 2 3 4 5" ∷
    "rounds 2" ∷
    "request 3 inc \"z~\" 17 ? get \"y\"" ∷
    "request 5 inc \"k1\" 74 ? get \"k1\"" ∷
    "rounds 2" ∷
    "show order" ∷
    "rounds 1" ∷
    "rounds 3" ∷
    "request 1 put \"k1\" 13 ? get \"a\"" ∷
    "request 3 inc \"long-key\" -4 ? get \"long-key\"" ∷
    "show order" ∷
    "request 4 inc \"it's\" -9223372036854775807" ∷
    "show order" ∷
    "request 3 inc \"z~\" 79" ∷
    "request 1 inc \"a\" -6 ? get \"k1\"" ∷
    "request 4 inc \"x\" 50" ∷
    "request 3 put \"y\" -9223372036854775807 ? get \"z~\"" ∷
    "request 1 put \"x\" -9223372036854775807 ? get \"x\"" ∷
    "request 5 inc \"k1\" 55" ∷
    "request 4 inc \"y\" 1" ∷
    "request 3 inc \"long-key\" 49 ? get \"long-key\"" ∷
    "rounds 2" ∷
    "rounds 3" ∷
    "end" ∷
    [])
    ≡ written (
    "= 1" ∷
    "1 NonPrim - g0 w0 p0@0{1,2,3,4,5} a0 v- y- r[] o[] x{} b0" ∷
    "2 NonPrim - g0 w0 p0@0{1,2,3,4,5} a0 v- y- r[] o[] x{} b0" ∷
    "3 NonPrim - g0 w0 p0@0{1,2,3,4,5} a0 v- y- r[] o[] x{} b0" ∷
    "4 NonPrim - g0 w0 p0@0{1,2,3,4,5} a0 v- y- r[] o[] x{} b0" ∷
    "5 NonPrim - g0 w0 p0@0{1,2,3,4,5} a0 v- y- r[] o[] x{} b0" ∷
    "= 2" ∷
    "1 ExchangeStates c1 g0 w0 p0@0{1,2,3,4,5} a0 v- y- r[] o[] x{} b0" ∷
    "2 ExchangeStates c1 g0 w0 p0@0{1,2,3,4,5} a0 v- y- r[] o[] x{} b0" ∷
    "3 ExchangeStates c1 g0 w0 p0@0{1,2,3,4,5} a0 v- y- r[] o[] x{} b0" ∷
    "4 ExchangeStates c1 g0 w0 p0@0{1,2,3,4,5} a0 v- y- r[] o[] x{} b0" ∷
    "5 ExchangeStates c1 g0 w0 p0@0{1,2,3,4,5} a0 v- y- r[] o[] x{} b0" ∷
    "= 4" ∷
    "1 Construct c1 g0 w0 p0@0{1,2,3,4,5} a1 v1/0{1,2,3,4,5}{1} y- r[] o[] x{} b0" ∷
    "= 5" ∷
    "2 Construct c1 g0 w0 p0@0{1,2,3,4,5} a1 v1/0{1,2,3,4,5}{2} y- r[] o[] x{} b0" ∷
    "= 6" ∷
    "3 Construct c1 g0 w0 p0@0{1,2,3,4,5} a1 v1/0{1,2,3,4,5}{3} y- r[] o[] x{} b0" ∷
    "= 7" ∷
    "4 Construct c1 g0 w0 p0@0{1,2,3,4,5} a1 v1/0{1,2,3,4,5}{4} y- r[] o[] x{} b0" ∷
    "= 8" ∷
    "5 Construct c1 g0 w0 p0@0{1,2,3,4,5} a1 v1/0{1,2,3,4,5}{5} y- r[] o[] x{} b0" ∷
    "= 10" ∷
    "1 RegPrim c1 g0 w0 p1@1{1,2,3,4,5} a0 v1/0{1,2,3,4,5}{1} y- r[] o[] x{} b0" ∷
    "= 11" ∷
    "2 RegPrim c1 g0 w0 p1@1{1,2,3,4,5} a0 v1/0{1,2,3,4,5}{2} y- r[] o[] x{} b0" ∷
    "= 12" ∷
    "3 RegPrim c1 g0 w0 p1@1{1,2,3,4,5} a0 v1/0{1,2,3,4,5}{3} y- r[] o[] x{} b0" ∷
    "= 13" ∷
    "4 RegPrim c1 g0 w0 p1@1{1,2,3,4,5} a0 v1/0{1,2,3,4,5}{4} y- r[] o[] x{} b0" ∷
    "= 14" ∷
    "5 RegPrim c1 g0 w0 p1@1{1,2,3,4,5} a0 v1/0{1,2,3,4,5}{5} y- r[] o[] x{} b0" ∷
    "= 15" ∷
    "made 3:1 inc \"z~\" 17 ? get \"y\"" ∷
    "3 RegPrim c1 g0 w0 p1@1{1,2,3,4,5} a0 v1/0{1,2,3,4,5}{3} y- r[] o[3:1] x{} b0" ∷
    "= 16" ∷
    "made 5:1 inc \"k1\" 74 ? get \"k1\"" ∷
    "5 RegPrim c1 g0 w0 p1@1{1,2,3,4,5} a0 v1/0{1,2,3,4,5}{5} y- r[] o[5:1] x{} b0" ∷
    "= 18" ∷
    "order 1 3:1" ∷
    "order 2 5:1" ∷
    "1 RegPrim c1 g2 w0 p1@1{1,2,3,4,5} a0 v1/0{1,2,3,4,5}{1} y- r[] o[] x{} b0" ∷
    "= 19" ∷
    "2 RegPrim c1 g2 w0 p1@1{1,2,3,4,5} a0 v1/0{1,2,3,4,5}{2} y- r[] o[] x{} b0" ∷
    "= 20" ∷
    "3 RegPrim c1 g2 w0 p1@1{1,2,3,4,5} a0 v1/0{1,2,3,4,5}{3} y- r[] o[] x{} b0" ∷
    "reply 3:1 done ? absent" ∷
    "= 21" ∷
    "4 RegPrim c1 g2 w0 p1@1{1,2,3,4,5} a0 v1/0{1,2,3,4,5}{4} y- r[] o[] x{} b0" ∷
    "= 22" ∷
    "5 RegPrim c1 g2 w0 p1@1{1,2,3,4,5} a0 v1/0{1,2,3,4,5}{5} y- r[] o[] x{} b0" ∷
    "reply 5:1 done ? 74" ∷
    "= 24" ∷
    "all [3:1,5:1]" ∷
    "= 29" ∷
    "made 1:1 put \"k1\" 13 ? get \"a\"" ∷
    "1 RegPrim c1 g2 w0 p1@1{1,2,3,4,5} a0 v1/0{1,2,3,4,5}{1} y- r[] o[1:1] x{} b0" ∷
    "= 30" ∷
    "made 3:2 inc \"long-key\" -4 ? get \"long-key\"" ∷
    "3 RegPrim c1 g2 w0 p1@1{1,2,3,4,5} a0 v1/0{1,2,3,4,5}{3} y- r[] o[3:2] x{} b0" ∷
    "= 31" ∷
    "all [3:1,5:1]" ∷
    "= 32" ∷
    "made 4:1 inc \"it's\" -9223372036854775807" ∷
    "4 RegPrim c1 g2 w0 p1@1{1,2,3,4,5} a0 v1/0{1,2,3,4,5}{4} y- r[] o[4:1] x{} b0" ∷
    "= 33" ∷
    "all [3:1,5:1]" ∷
    "= 34" ∷
    "made 3:3 inc \"z~\" 79" ∷
    "3 RegPrim c1 g2 w0 p1@1{1,2,3,4,5} a0 v1/0{1,2,3,4,5}{3} y- r[] o[3:2,3:3] x{} b0" ∷
    "= 35" ∷
    "made 1:2 inc \"a\" -6 ? get \"k1\"" ∷
    "1 RegPrim c1 g2 w0 p1@1{1,2,3,4,5} a0 v1/0{1,2,3,4,5}{1} y- r[] o[1:1,1:2] x{} b0" ∷
    "= 36" ∷
    "made 4:2 inc \"x\" 50" ∷
    "4 RegPrim c1 g2 w0 p1@1{1,2,3,4,5} a0 v1/0{1,2,3,4,5}{4} y- r[] o[4:1,4:2] x{} b0" ∷
    "= 37" ∷
    "made 3:4 put \"y\" -9223372036854775807 ? get \"z~\"" ∷
    "3 RegPrim c1 g2 w0 p1@1{1,2,3,4,5} a0 v1/0{1,2,3,4,5}{3} y- r[] o[3:2,3:3,3:4] x{} b0" ∷
    "= 38" ∷
    "made 1:3 put \"x\" -9223372036854775807 ? get \"x\"" ∷
    "1 RegPrim c1 g2 w0 p1@1{1,2,3,4,5} a0 v1/0{1,2,3,4,5}{1} y- r[] o[1:1,1:2,1:3] x{} b0" ∷
    "= 39" ∷
    "made 5:2 inc \"k1\" 55" ∷
    "5 RegPrim c1 g2 w0 p1@1{1,2,3,4,5} a0 v1/0{1,2,3,4,5}{5} y- r[] o[5:2] x{} b0" ∷
    "= 40" ∷
    "made 4:3 inc \"y\" 1" ∷
    "4 RegPrim c1 g2 w0 p1@1{1,2,3,4,5} a0 v1/0{1,2,3,4,5}{4} y- r[] o[4:1,4:2,4:3] x{} b0" ∷
    "= 41" ∷
    "made 3:5 inc \"long-key\" 49 ? get \"long-key\"" ∷
    "3 RegPrim c1 g2 w0 p1@1{1,2,3,4,5} a0 v1/0{1,2,3,4,5}{3} y- r[] o[3:2,3:3,3:4,3:5] x{} b0" ∷
    "= 43" ∷
    "order 3 1:1" ∷
    "order 4 1:2" ∷
    "order 5 1:3" ∷
    "order 6 3:2" ∷
    "order 7 3:3" ∷
    "order 8 3:4" ∷
    "order 9 3:5" ∷
    "order 10 4:1" ∷
    "order 11 4:2" ∷
    "order 12 4:3" ∷
    "order 13 5:2" ∷
    "1 RegPrim c1 g13 w0 p1@1{1,2,3,4,5} a0 v1/0{1,2,3,4,5}{1} y- r[] o[] x{} b0" ∷
    "reply 1:1 done ? absent" ∷
    "reply 1:2 done ? 13" ∷
    "reply 1:3 done ? -9223372036854775807" ∷
    "= 44" ∷
    "2 RegPrim c1 g13 w0 p1@1{1,2,3,4,5} a0 v1/0{1,2,3,4,5}{2} y- r[] o[] x{} b0" ∷
    "= 45" ∷
    "3 RegPrim c1 g13 w0 p1@1{1,2,3,4,5} a0 v1/0{1,2,3,4,5}{3} y- r[] o[] x{} b0" ∷
    "reply 3:2 done ? -4" ∷
    "reply 3:3 done" ∷
    "reply 3:4 done ? 96" ∷
    "reply 3:5 done ? 45" ∷
    "= 46" ∷
    "4 RegPrim c1 g13 w0 p1@1{1,2,3,4,5} a0 v1/0{1,2,3,4,5}{4} y- r[] o[] x{} b0" ∷
    "reply 4:1 done" ∷
    "reply 4:2 done" ∷
    "reply 4:3 done" ∷
    "= 47" ∷
    "5 RegPrim c1 g13 w0 p1@1{1,2,3,4,5} a0 v1/0{1,2,3,4,5}{5} y- r[] o[] x{} b0" ∷
    "reply 5:2 done" ∷
    "end 51" ∷
    [])
unfolding cases_compute
five_replicas_actions_ordered_a = refl

-- Replicas at the start: 5: actions are ordered; a crash strikes inside a device call.
five_replicas_actions_ordered_crash_in_a_device_call_a :
    replayed_text (
    "start 1 2 3 4 5" ∷
    "merge 1 2 3 4 5" ∷
    "rounds 1" ∷
    "stop 1 6 010000010101010101" ∷
    "request 4 inc \"y\" -9223372036854775808" ∷
    "rounds 2" ∷
    "stop 2 3 -" ∷
    "gather" ∷
    "request 5 inc \"y\" 0" ∷
    "gather" ∷
    "recover 1" ∷
    "rounds 1" ∷
    "request 4 put \"abc\" \"-1\"; inc \"k1\" 2; put \"b\" -2; del \"y\"; put \"abc\" \"-1\"; cas \"abc\" absent 54; put \"b\" 9223372036854775806; put \"a\" -5; put \"b\" \"hi\"; inc \"x\" 5; inc \"y\" 12; put \"a\" 3; del \"x\"; inc \"z\" 12; put \"z\" 27; inc \"ab\" 7" ∷
    "request 1 ? get \"x\"" ∷
    "rounds 1" ∷
    "rounds 3" ∷
    "gather" ∷
    "gather" ∷
    "stop 3 6 -" ∷
    "rounds 1" ∷
    "rounds 2" ∷
    "request 4 put \"k2\" 63" ∷
    "request 1 cas \"k1\" 9223372036854775807 23" ∷
    "request 2 del \"x\"" ∷
    "end" ∷
    [])
    ≡ written (
    "= 1" ∷
    "1 NonPrim - g0 w0 p0@0{1,2,3,4,5} a0 v- y- r[] o[] x{} b0" ∷
    "2 NonPrim - g0 w0 p0@0{1,2,3,4,5} a0 v- y- r[] o[] x{} b0" ∷
    "3 NonPrim - g0 w0 p0@0{1,2,3,4,5} a0 v- y- r[] o[] x{} b0" ∷
    "4 NonPrim - g0 w0 p0@0{1,2,3,4,5} a0 v- y- r[] o[] x{} b0" ∷
    "5 NonPrim - g0 w0 p0@0{1,2,3,4,5} a0 v- y- r[] o[] x{} b0" ∷
    "= 2" ∷
    "1 ExchangeStates c1 g0 w0 p0@0{1,2,3,4,5} a0 v- y- r[] o[] x{} b0" ∷
    "2 ExchangeStates c1 g0 w0 p0@0{1,2,3,4,5} a0 v- y- r[] o[] x{} b0" ∷
    "3 ExchangeStates c1 g0 w0 p0@0{1,2,3,4,5} a0 v- y- r[] o[] x{} b0" ∷
    "4 ExchangeStates c1 g0 w0 p0@0{1,2,3,4,5} a0 v- y- r[] o[] x{} b0" ∷
    "5 ExchangeStates c1 g0 w0 p0@0{1,2,3,4,5} a0 v- y- r[] o[] x{} b0" ∷
    "= 4" ∷
    "1 Construct c1 g0 w0 p0@0{1,2,3,4,5} a1 v1/0{1,2,3,4,5}{1} y- r[] o[] x{} b0" ∷
    "= 5" ∷
    "2 Construct c1 g0 w0 p0@0{1,2,3,4,5} a1 v1/0{1,2,3,4,5}{2} y- r[] o[] x{} b0" ∷
    "= 6" ∷
    "3 Construct c1 g0 w0 p0@0{1,2,3,4,5} a1 v1/0{1,2,3,4,5}{3} y- r[] o[] x{} b0" ∷
    "= 7" ∷
    "4 Construct c1 g0 w0 p0@0{1,2,3,4,5} a1 v1/0{1,2,3,4,5}{4} y- r[] o[] x{} b0" ∷
    "= 8" ∷
    "5 Construct c1 g0 w0 p0@0{1,2,3,4,5} a1 v1/0{1,2,3,4,5}{5} y- r[] o[] x{} b0" ∷
    "= 10" ∷
    "4 Construct c1 g0 w0 p0@0{1,2,3,4,5} a1 v1/0{1,2,3,4,5}{4} y- r[] o[] x{} b1" ∷
    "= 12" ∷
    "1 RegPrim c1 g0 w0 p1@1{1,2,3,4,5} a0 v1/0{1,2,3,4,5}{1} y- r[] o[] x{} b0" ∷
    "= 13" ∷
    "2 RegPrim c1 g0 w0 p1@1{1,2,3,4,5} a0 v1/0{1,2,3,4,5}{2} y- r[] o[] x{} b0" ∷
    "= 14" ∷
    "3 RegPrim c1 g0 w0 p1@1{1,2,3,4,5} a0 v1/0{1,2,3,4,5}{3} y- r[] o[] x{} b0" ∷
    "= 15" ∷
    "made 4:1 inc \"y\" -9223372036854775808" ∷
    "4 RegPrim c1 g0 w0 p1@1{1,2,3,4,5} a0 v1/0{1,2,3,4,5}{4} y- r[] o[4:1] x{} b0" ∷
    "= 16" ∷
    "5 RegPrim c1 g0 w0 p1@1{1,2,3,4,5} a0 v1/0{1,2,3,4,5}{5} y- r[] o[] x{} b0" ∷
    "= 18" ∷
    "1 Down" ∷
    "= 19" ∷
    "order 1 4:1" ∷
    "2 RegPrim c1 g1 w0 p1@1{1,2,3,4,5} a0 v1/0{1,2,3,4,5}{2} y- r[] o[] x{} b0" ∷
    "= 20" ∷
    "3 RegPrim c1 g1 w0 p1@1{1,2,3,4,5} a0 v1/0{1,2,3,4,5}{3} y- r[] o[] x{} b0" ∷
    "= 21" ∷
    "4 RegPrim c1 g1 w0 p1@1{1,2,3,4,5} a0 v1/0{1,2,3,4,5}{4} y- r[] o[] x{} b0" ∷
    "reply 4:1 done" ∷
    "= 22" ∷
    "5 RegPrim c1 g1 w0 p1@1{1,2,3,4,5} a0 v1/0{1,2,3,4,5}{5} y- r[] o[] x{} b0" ∷
    "= 25" ∷
    "made 5:1 inc \"y\" 0" ∷
    "5 RegPrim c1 g1 w0 p1@1{1,2,3,4,5} a0 v1/0{1,2,3,4,5}{5} y- r[] o[5:1] x{} b0" ∷
    "= 27" ∷
    "1 NonPrim - g0 w0 p1@1{1,2,3,4,5} a0 v1/0{1,2,3,4,5}{1} y- r[] o[] x{} b0" ∷
    "= 29" ∷
    "made 4:2 put \"abc\" \"-1\"; inc \"k1\" 2; put \"b\" -2; del \"y\"; put \"abc\" \"-1\"; cas \"abc\" absent 54; put \"b\" 9223372036854775806; put \"a\" -5; put \"b\" \"hi\"; inc \"x\" 5; inc \"y\" 12; put \"a\" 3; del \"x\"; inc \"z\" 12; put \"z\" 27; inc \"ab\" 7" ∷
    "4 RegPrim c1 g1 w0 p1@1{1,2,3,4,5} a0 v1/0{1,2,3,4,5}{4} y- r[] o[4:2] x{} b0" ∷
    "= 30" ∷
    "1 NonPrim - g0 w0 p1@1{1,2,3,4,5} a0 v1/0{1,2,3,4,5}{1} y- r[] o[] x{} b1" ∷
    "= 41" ∷
    "made 4:3 put \"k2\" 63" ∷
    "4 RegPrim c1 g1 w0 p1@1{1,2,3,4,5} a0 v1/0{1,2,3,4,5}{4} y- r[] o[4:2,4:3] x{} b0" ∷
    "= 42" ∷
    "1 NonPrim - g0 w0 p1@1{1,2,3,4,5} a0 v1/0{1,2,3,4,5}{1} y- r[] o[] x{} b2" ∷
    "= 43" ∷
    "2 Down" ∷
    "end 43" ∷
    [])
unfolding cases_compute
five_replicas_actions_ordered_crash_in_a_device_call_a = refl

-- Replicas at the start: 5: actions are ordered; a crash strikes inside a device call; a snapshot is handed on in pieces.
five_replicas_actions_ordered_crash_in_a_device_call_joiner_a :
    replayed_text (
    "start 1 6 10 15 31" ∷
    "merge 1 6 10 15 31" ∷
    "rounds 3" ∷
    "gather" ∷
    "gather" ∷
    "request 15 inc \"abc\" 9" ∷
    "request 10 del \"x\" ? count" ∷
    "join 10 32" ∷
    "stop 6 5 00" ∷
    "request 15 cas \"b\" 74 95" ∷
    "rounds 3" ∷
    "join 31 2" ∷
    "order 31" ∷
    "join 31 5" ∷
    "transfer 31 32 100" ∷
    "gather" ∷
    "merge 32" ∷
    "gather" ∷
    "request 1 inc \"k1\" -1" ∷
    "join 15 3" ∷
    "split 32" ∷
    "order 1" ∷
    "join 1 4" ∷
    "rounds 2" ∷
    "end" ∷
    [])
    ≡ written (
    "= 1" ∷
    "1 NonPrim - g0 w0 p0@0{1,6,10,15,31} a0 v- y- r[] o[] x{} b0" ∷
    "6 NonPrim - g0 w0 p0@0{1,6,10,15,31} a0 v- y- r[] o[] x{} b0" ∷
    "10 NonPrim - g0 w0 p0@0{1,6,10,15,31} a0 v- y- r[] o[] x{} b0" ∷
    "15 NonPrim - g0 w0 p0@0{1,6,10,15,31} a0 v- y- r[] o[] x{} b0" ∷
    "31 NonPrim - g0 w0 p0@0{1,6,10,15,31} a0 v- y- r[] o[] x{} b0" ∷
    "= 2" ∷
    "1 ExchangeStates c1 g0 w0 p0@0{1,6,10,15,31} a0 v- y- r[] o[] x{} b0" ∷
    "6 ExchangeStates c1 g0 w0 p0@0{1,6,10,15,31} a0 v- y- r[] o[] x{} b0" ∷
    "10 ExchangeStates c1 g0 w0 p0@0{1,6,10,15,31} a0 v- y- r[] o[] x{} b0" ∷
    "15 ExchangeStates c1 g0 w0 p0@0{1,6,10,15,31} a0 v- y- r[] o[] x{} b0" ∷
    "31 ExchangeStates c1 g0 w0 p0@0{1,6,10,15,31} a0 v- y- r[] o[] x{} b0" ∷
    "= 4" ∷
    "1 Construct c1 g0 w0 p0@0{1,6,10,15,31} a1 v1/0{1,6,10,15,31}{1} y- r[] o[] x{} b0" ∷
    "= 5" ∷
    "6 Construct c1 g0 w0 p0@0{1,6,10,15,31} a1 v1/0{1,6,10,15,31}{6} y- r[] o[] x{} b0" ∷
    "= 6" ∷
    "10 Construct c1 g0 w0 p0@0{1,6,10,15,31} a1 v1/0{1,6,10,15,31}{10} y- r[] o[] x{} b0" ∷
    "= 7" ∷
    "15 Construct c1 g0 w0 p0@0{1,6,10,15,31} a1 v1/0{1,6,10,15,31}{15} y- r[] o[] x{} b0" ∷
    "= 8" ∷
    "31 Construct c1 g0 w0 p0@0{1,6,10,15,31} a1 v1/0{1,6,10,15,31}{31} y- r[] o[] x{} b0" ∷
    "= 10" ∷
    "1 RegPrim c1 g0 w0 p1@1{1,6,10,15,31} a0 v1/0{1,6,10,15,31}{1} y- r[] o[] x{} b0" ∷
    "= 11" ∷
    "6 RegPrim c1 g0 w0 p1@1{1,6,10,15,31} a0 v1/0{1,6,10,15,31}{6} y- r[] o[] x{} b0" ∷
    "= 12" ∷
    "10 RegPrim c1 g0 w0 p1@1{1,6,10,15,31} a0 v1/0{1,6,10,15,31}{10} y- r[] o[] x{} b0" ∷
    "= 13" ∷
    "15 RegPrim c1 g0 w0 p1@1{1,6,10,15,31} a0 v1/0{1,6,10,15,31}{15} y- r[] o[] x{} b0" ∷
    "= 14" ∷
    "31 RegPrim c1 g0 w0 p1@1{1,6,10,15,31} a0 v1/0{1,6,10,15,31}{31} y- r[] o[] x{} b0" ∷
    "= 18" ∷
    "made 15:1 inc \"abc\" 9" ∷
    "15 RegPrim c1 g0 w0 p1@1{1,6,10,15,31} a0 v1/0{1,6,10,15,31}{15} y- r[] o[15:1] x{} b0" ∷
    "= 19" ∷
    "made 10:1 del \"x\" ? count" ∷
    "10 RegPrim c1 g0 w0 p1@1{1,6,10,15,31} a0 v1/0{1,6,10,15,31}{10} y- r[] o[10:1] x{} b0" ∷
    "= 20" ∷
    "made 10:2 join 32" ∷
    "10 RegPrim c1 g0 w0 p1@1{1,6,10,15,31} a0 v1/0{1,6,10,15,31}{10} y- r[] o[10:1,10:2] x{} b0" ∷
    "= 22" ∷
    "made 15:2 cas \"b\" 74 95" ∷
    "15 RegPrim c1 g0 w0 p1@1{1,6,10,15,31} a0 v1/0{1,6,10,15,31}{15} y- r[] o[15:1,15:2] x{} b0" ∷
    "= 24" ∷
    "order 1 10:1" ∷
    "order 2 10:2" ∷
    "order 3 15:1" ∷
    "order 4 15:2" ∷
    "1 RegPrim c1 g4 w0 p1@1{1,6,10,15,31} a0 v1/0{1,6,10,15,31}{1} y- r[] o[] x{} b0" ∷
    "= 25" ∷
    "6 RegPrim c1 g4 w0 p1@1{1,6,10,15,31} a0 v1/0{1,6,10,15,31}{6} y- r[] o[] x{} b0" ∷
    "= 26" ∷
    "10 RegPrim c1 g4 w0 p1@1{1,6,10,15,31} a0 v1/0{1,6,10,15,31}{10} y- r[] o[] x{} b0" ∷
    "reply 10:1 done ? count 0" ∷
    "reply 10:2 done" ∷
    "= 27" ∷
    "15 RegPrim c1 g4 w0 p1@1{1,6,10,15,31} a0 v1/0{1,6,10,15,31}{15} y- r[] o[] x{} b0" ∷
    "reply 15:1 done" ∷
    "reply 15:2 done" ∷
    "= 28" ∷
    "31 RegPrim c1 g4 w0 p1@1{1,6,10,15,31} a0 v1/0{1,6,10,15,31}{31} y- r[] o[] x{} b0" ∷
    "= 31" ∷
    "made 31:1 join 2" ∷
    "31 RegPrim c1 g4 w0 p1@1{1,6,10,15,31} a0 v1/0{1,6,10,15,31}{31} y- r[] o[31:1] x{} b0" ∷
    "= 33" ∷
    "made 31:2 join 5" ∷
    "31 RegPrim c1 g4 w0 p1@1{1,6,10,15,31} a0 v1/0{1,6,10,15,31}{31} y- r[] o[31:1,31:2] x{} b0" ∷
    "= 34" ∷
    "32 NonPrim - g4 w0 p1@1{1,6,10,15,31} a0 v- y- r[] o[] x{} b0" ∷
    "pieces 32 7/7" ∷
    "= 36" ∷
    "32 ExchangeStates c2 g4 w0 p1@1{1,6,10,15,31} a0 v- y- r[] o[] x{} b0" ∷
    "= 38" ∷
    "made 1:1 inc \"k1\" -1" ∷
    "1 RegPrim c1 g4 w0 p1@1{1,6,10,15,31} a0 v1/0{1,6,10,15,31}{1} y- r[] o[1:1] x{} b0" ∷
    "= 39" ∷
    "made 15:3 join 3" ∷
    "15 RegPrim c1 g4 w0 p1@1{1,6,10,15,31} a0 v1/0{1,6,10,15,31}{15} y- r[] o[15:3] x{} b0" ∷
    "= 40" ∷
    "32 NonPrim t2 g4 w0 p1@1{1,6,10,15,31} a0 v- y- r[] o[] x{} b0" ∷
    "= 42" ∷
    "made 1:2 join 4" ∷
    "1 RegPrim c1 g4 w0 p1@1{1,6,10,15,31} a0 v1/0{1,6,10,15,31}{1} y- r[] o[1:1,1:2] x{} b0" ∷
    "= 44" ∷
    "order 5 31:1" ∷
    "order 6 31:2" ∷
    "order 7 1:1" ∷
    "order 8 1:2" ∷
    "order 9 15:3" ∷
    "1 RegPrim c1 g9 w0 p1@1{1,6,10,15,31} a0 v1/0{1,6,10,15,31}{1} y- r[] o[] x{} b0" ∷
    "reply 1:1 done" ∷
    "reply 1:2 done" ∷
    "= 45" ∷
    "6 Down" ∷
    "= 46" ∷
    "10 RegPrim c1 g9 w0 p1@1{1,6,10,15,31} a0 v1/0{1,6,10,15,31}{10} y- r[] o[] x{} b0" ∷
    "= 47" ∷
    "15 RegPrim c1 g9 w0 p1@1{1,6,10,15,31} a0 v1/0{1,6,10,15,31}{15} y- r[] o[] x{} b0" ∷
    "reply 15:3 done" ∷
    "= 48" ∷
    "31 RegPrim c1 g9 w0 p1@1{1,6,10,15,31} a0 v1/0{1,6,10,15,31}{31} y- r[] o[] x{} b0" ∷
    "reply 31:1 done" ∷
    "reply 31:2 done" ∷
    "end 49" ∷
    [])
unfolding cases_compute
five_replicas_actions_ordered_crash_in_a_device_call_joiner_a = refl
