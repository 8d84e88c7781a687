-- Cases of cases/ with their whole reports, which `.ci/theorems` writes down here.
use Rattle.std.specs.Prelude.{◌≡◌, [], ◌∷◌}
use mathlib.Core.Path.{refl}
use Rattle.cg_run_cases.specs.Replaying.{replayed_text, written}
use Rattle.cg_run_cases.specs.Computing.{cases_compute}

-- Replicas at the start: 5: actions are ordered; a snapshot is handed on in pieces.
five_replicas_actions_ordered_joiner_a :
    replayed_text (
    "start 1 2 3 4 5" ∷
    "merge 1 2 3 4 5" ∷
    "join 4 6" ∷
    "request 3 need \"z\" absent" ∷
    "rounds 3" ∷
    "rounds 2" ∷
    "transfer 4 6 3" ∷
    "request 2 inc \"z\" 7" ∷
    "rounds 3" ∷
    "request 3 inc \"abc\" 11; del \"ab\" ? get \"b\"" ∷
    "request 1 need \"y\" 87 ? get \"y\"" ∷
    "end" ∷
    [])
    ≡ written (
    "= 1" ∷
    "1 NonPrim - g0 w0 p0@0{1,2,3,4,5} a0 v- y- r[] o[] x{} b0" ∷
    "2 NonPrim - g0 w0 p0@0{1,2,3,4,5} a0 v- y- r[] o[] x{} b0" ∷
    "3 NonPrim - g0 w0 p0@0{1,2,3,4,5} a0 v- y- r[] o[] x{} b0" ∷
    "4 NonPrim - g0 w0 p0@0{1,2,3,4,5} a0 v- y- r[] o[] x{} b0" ∷
    "5 NonPrim - g0 w0 p0@0{1,2,3,4,5} a0 v- y- r[] o[] x{} b0" ∷
    "= 2" ∷
    "1 ExchangeStates c1 g0 w0 p0@0{1,2,3,4,5} a0 v- y- r[] o[] x{} b0" ∷
    "2 ExchangeStates c1 g0 w0 p0@0{1,2,3,4,5} a0 v- y- r[] o[] x{} b0" ∷
    "3 ExchangeStates c1 g0 w0 p0@0{1,2,3,4,5} a0 v- y- r[] o[] x{} b0" ∷
    "4 ExchangeStates c1 g0 w0 p0@0{1,2,3,4,5} a0 v- y- r[] o[] x{} b0" ∷
    "5 ExchangeStates c1 g0 w0 p0@0{1,2,3,4,5} a0 v- y- r[] o[] x{} b0" ∷
    "= 3" ∷
    "4 ExchangeStates c1 g0 w0 p0@0{1,2,3,4,5} a0 v- y- r[] o[] x{} b1" ∷
    "= 4" ∷
    "3 ExchangeStates c1 g0 w0 p0@0{1,2,3,4,5} a0 v- y- r[] o[] x{} b1" ∷
    "= 6" ∷
    "1 Construct c1 g0 w0 p0@0{1,2,3,4,5} a1 v1/0{1,2,3,4,5}{1} y- r[] o[] x{} b0" ∷
    "= 7" ∷
    "2 Construct c1 g0 w0 p0@0{1,2,3,4,5} a1 v1/0{1,2,3,4,5}{2} y- r[] o[] x{} b0" ∷
    "= 8" ∷
    "3 Construct c1 g0 w0 p0@0{1,2,3,4,5} a1 v1/0{1,2,3,4,5}{3} y- r[] o[] x{} b1" ∷
    "= 9" ∷
    "4 Construct c1 g0 w0 p0@0{1,2,3,4,5} a1 v1/0{1,2,3,4,5}{4} y- r[] o[] x{} b1" ∷
    "= 10" ∷
    "5 Construct c1 g0 w0 p0@0{1,2,3,4,5} a1 v1/0{1,2,3,4,5}{5} y- r[] o[] x{} b0" ∷
    "= 12" ∷
    "1 RegPrim c1 g0 w0 p1@1{1,2,3,4,5} a0 v1/0{1,2,3,4,5}{1} y- r[] o[] x{} b0" ∷
    "= 13" ∷
    "2 RegPrim c1 g0 w0 p1@1{1,2,3,4,5} a0 v1/0{1,2,3,4,5}{2} y- r[] o[] x{} b0" ∷
    "= 14" ∷
    "made 3:1 need \"z\" absent" ∷
    "3 RegPrim c1 g0 w0 p1@1{1,2,3,4,5} a0 v1/0{1,2,3,4,5}{3} y- r[] o[3:1] x{} b0" ∷
    "= 15" ∷
    "made 4:1 join 6" ∷
    "4 RegPrim c1 g0 w0 p1@1{1,2,3,4,5} a0 v1/0{1,2,3,4,5}{4} y- r[] o[4:1] x{} b0" ∷
    "= 16" ∷
    "5 RegPrim c1 g0 w0 p1@1{1,2,3,4,5} a0 v1/0{1,2,3,4,5}{5} y- r[] o[] x{} b0" ∷
    "= 18" ∷
    "order 1 3:1" ∷
    "order 2 4:1" ∷
    "1 RegPrim c1 g2 w0 p1@1{1,2,3,4,5} a0 v1/0{1,2,3,4,5}{1} y- r[] o[] x{} b0" ∷
    "= 19" ∷
    "2 RegPrim c1 g2 w0 p1@1{1,2,3,4,5} a0 v1/0{1,2,3,4,5}{2} y- r[] o[] x{} b0" ∷
    "= 20" ∷
    "3 RegPrim c1 g2 w0 p1@1{1,2,3,4,5} a0 v1/0{1,2,3,4,5}{3} y- r[] o[] x{} b0" ∷
    "reply 3:1 done" ∷
    "= 21" ∷
    "4 RegPrim c1 g2 w0 p1@1{1,2,3,4,5} a0 v1/0{1,2,3,4,5}{4} y- r[] o[] x{} b0" ∷
    "reply 4:1 done" ∷
    "= 22" ∷
    "5 RegPrim c1 g2 w0 p1@1{1,2,3,4,5} a0 v1/0{1,2,3,4,5}{5} y- r[] o[] x{} b0" ∷
    "= 25" ∷
    "pieces 6 3/4" ∷
    "= 26" ∷
    "made 2:1 inc \"z\" 7" ∷
    "2 RegPrim c1 g2 w0 p1@1{1,2,3,4,5} a0 v1/0{1,2,3,4,5}{2} y- r[] o[2:1] x{} b0" ∷
    "= 28" ∷
    "order 3 2:1" ∷
    "1 RegPrim c1 g3 w0 p1@1{1,2,3,4,5} a0 v1/0{1,2,3,4,5}{1} y- r[] o[] x{} b0" ∷
    "= 29" ∷
    "2 RegPrim c1 g3 w0 p1@1{1,2,3,4,5} a0 v1/0{1,2,3,4,5}{2} y- r[] o[] x{} b0" ∷
    "reply 2:1 done" ∷
    "= 30" ∷
    "3 RegPrim c1 g3 w0 p1@1{1,2,3,4,5} a0 v1/0{1,2,3,4,5}{3} y- r[] o[] x{} b0" ∷
    "= 31" ∷
    "4 RegPrim c1 g3 w0 p1@1{1,2,3,4,5} a0 v1/0{1,2,3,4,5}{4} y- r[] o[] x{} b0" ∷
    "= 32" ∷
    "5 RegPrim c1 g3 w0 p1@1{1,2,3,4,5} a0 v1/0{1,2,3,4,5}{5} y- r[] o[] x{} b0" ∷
    "= 35" ∷
    "made 3:2 inc \"abc\" 11; del \"ab\" ? get \"b\"" ∷
    "3 RegPrim c1 g3 w0 p1@1{1,2,3,4,5} a0 v1/0{1,2,3,4,5}{3} y- r[] o[3:2] x{} b0" ∷
    "= 36" ∷
    "made 1:1 need \"y\" 87 ? get \"y\"" ∷
    "1 RegPrim c1 g3 w0 p1@1{1,2,3,4,5} a0 v1/0{1,2,3,4,5}{1} y- r[] o[1:1] x{} b0" ∷
    "end 36" ∷
    [])
unfolding cases_compute
five_replicas_actions_ordered_joiner_a = refl

-- Replicas at the start: 5: an attempt at a primary is broken off; a crash strikes inside a device call.
five_replicas_attempt_broken_off_crash_in_a_device_call_b :
    replayed_text (
    "start 11 15 20 27 32" ∷
    "merge 11 15 20 27 32" ∷
    "rounds 1" ∷
    "leave 20 32" ∷
    "request 15 inc \"y\" 9; del \"a\"; put \"ab\" 15; cas \"z\" absent 78 ? get \"a\"" ∷
    "join 15 1" ∷
    "split 27 32" ∷
    "order 15" ∷
    "merge 27 32" ∷
    "request 20 cas \"b\" absent 18; inc \"a\" -2; inc \"a\" 10" ∷
    "request 20 inc \"z\" 2" ∷
    "order 27" ∷
    "fail 15 1" ∷
    "receive 32 1" ∷
    "deliver 27 1" ∷
    "gather" ∷
    "gather" ∷
    "deliver 32 2" ∷
    "deliver 27 1" ∷
    "split 11 15 20" ∷
    "gather" ∷
    "split 27" ∷
    "split 32" ∷
    "merge 11 15 20 27 32" ∷
    "rounds 1" ∷
    "request 11 put \"y\" -1; cas \"y\" absent 90; need \"a\" absent; put \"z\" 47; put \"z\" 93; del \"x\"; need \"a\" 63; put \"a\" -8; inc \"y\" -2; inc \"y\" 6; inc \"z\" -3; put \"a\" 5; inc \"a\" 8; put \"ab\" 91; inc \"ab\" 1; inc \"ab\" 6 ? get \"ab\"" ∷
    "split 20 32" ∷
    "split 11 27" ∷
    "stop 11 0 01" ∷
    "merge 20 27 32" ∷
    "gather" ∷
    "deliver 32 3" ∷
    "split 27" ∷
    "split 32" ∷
    "fail 27 10" ∷
    "merge 27 32" ∷
    "gather" ∷
    "gather" ∷
    "deliver 27 1" ∷
    "split 27 32" ∷
    "merge 27 32" ∷
    "order 27" ∷
    "deliver 20 3" ∷
    "recover 11" ∷
    "split 20" ∷
    "split 32" ∷
    "split 27" ∷
    "merge 11 20 27 32" ∷
    "rounds 4" ∷
    "show order" ∷
    "stop 20 0 -" ∷
    "recover 15" ∷
    "recover 27" ∷
    "recover 20" ∷
    "join 15 23" ∷
    "request 27 inc \"b\" 10 ? get \"k1\"" ∷
    "gather" ∷
    "merge 27" ∷
    "gather" ∷
    "end" ∷
    [])
    ≡ written (
    "= 1" ∷
    "11 NonPrim - g0 w0 p0@0{11,15,20,27,32} a0 v- y- r[] o[] x{} b0" ∷
    "15 NonPrim - g0 w0 p0@0{11,15,20,27,32} a0 v- y- r[] o[] x{} b0" ∷
    "20 NonPrim - g0 w0 p0@0{11,15,20,27,32} a0 v- y- r[] o[] x{} b0" ∷
    "27 NonPrim - g0 w0 p0@0{11,15,20,27,32} a0 v- y- r[] o[] x{} b0" ∷
    "32 NonPrim - g0 w0 p0@0{11,15,20,27,32} a0 v- y- r[] o[] x{} b0" ∷
    "= 2" ∷
    "11 ExchangeStates c1 g0 w0 p0@0{11,15,20,27,32} a0 v- y- r[] o[] x{} b0" ∷
    "15 ExchangeStates c1 g0 w0 p0@0{11,15,20,27,32} a0 v- y- r[] o[] x{} b0" ∷
    "20 ExchangeStates c1 g0 w0 p0@0{11,15,20,27,32} a0 v- y- r[] o[] x{} b0" ∷
    "27 ExchangeStates c1 g0 w0 p0@0{11,15,20,27,32} a0 v- y- r[] o[] x{} b0" ∷
    "32 ExchangeStates c1 g0 w0 p0@0{11,15,20,27,32} a0 v- y- r[] o[] x{} b0" ∷
    "= 4" ∷
    "11 Construct c1 g0 w0 p0@0{11,15,20,27,32} a1 v1/0{11,15,20,27,32}{11} y- r[] o[] x{} b0" ∷
    "= 5" ∷
    "15 Construct c1 g0 w0 p0@0{11,15,20,27,32} a1 v1/0{11,15,20,27,32}{15} y- r[] o[] x{} b0" ∷
    "= 6" ∷
    "20 Construct c1 g0 w0 p0@0{11,15,20,27,32} a1 v1/0{11,15,20,27,32}{20} y- r[] o[] x{} b0" ∷
    "= 7" ∷
    "27 Construct c1 g0 w0 p0@0{11,15,20,27,32} a1 v1/0{11,15,20,27,32}{27} y- r[] o[] x{} b0" ∷
    "= 8" ∷
    "32 Construct c1 g0 w0 p0@0{11,15,20,27,32} a1 v1/0{11,15,20,27,32}{32} y- r[] o[] x{} b0" ∷
    "= 9" ∷
    "20 Construct c1 g0 w0 p0@0{11,15,20,27,32} a1 v1/0{11,15,20,27,32}{20} y- r[] o[] x{} b1" ∷
    "= 10" ∷
    "15 Construct c1 g0 w0 p0@0{11,15,20,27,32} a1 v1/0{11,15,20,27,32}{15} y- r[] o[] x{} b1" ∷
    "= 11" ∷
    "15 Construct c1 g0 w0 p0@0{11,15,20,27,32} a1 v1/0{11,15,20,27,32}{15} y- r[] o[] x{} b2" ∷
    "= 12" ∷
    "27 No t1 g0 w0 p0@0{11,15,20,27,32} a1 v1/0{11,15,20,27,32}{27} y- r[] o[] x{} b0" ∷
    "32 No t1 g0 w0 p0@0{11,15,20,27,32} a1 v1/0{11,15,20,27,32}{32} y- r[] o[] x{} b0" ∷
    "= 14" ∷
    "27 ExchangeStates c2 g0 w0 p0@0{11,15,20,27,32} a1 v- y- r[] o[] x{} b0" ∷
    "32 ExchangeStates c2 g0 w0 p0@0{11,15,20,27,32} a1 v- y- r[] o[] x{} b0" ∷
    "= 15" ∷
    "20 Construct c1 g0 w0 p0@0{11,15,20,27,32} a1 v1/0{11,15,20,27,32}{20} y- r[] o[] x{} b2" ∷
    "= 16" ∷
    "20 Construct c1 g0 w0 p0@0{11,15,20,27,32} a1 v1/0{11,15,20,27,32}{20} y- r[] o[] x{} b3" ∷
    "= 23" ∷
    "32 NonPrim c2 g0 w0 p0@0{11,15,20,27,32} a1 v- y- r[] o[] x{} b0" ∷
    "= 24" ∷
    "27 NonPrim c2 g0 w0 p0@0{11,15,20,27,32} a1 v- y- r[] o[] x{} b0" ∷
    "= 25" ∷
    "11 No t1 g0 w0 p0@0{11,15,20,27,32} a1 v1/0{11,15,20,27,32}{11} y- r[] o[] x{} b0" ∷
    "15 No t1 g0 w0 p0@0{11,15,20,27,32} a1 v1/0{11,15,20,27,32}{15} y- r[] o[] x{} b2" ∷
    "20 No t1 g0 w0 p0@0{11,15,20,27,32} a1 v1/0{11,15,20,27,32}{20} y- r[] o[] x{} b3" ∷
    "= 27" ∷
    "27 NonPrim t2 g0 w0 p0@0{11,15,20,27,32} a1 v- y- r[] o[] x{} b0" ∷
    "= 28" ∷
    "32 NonPrim t2 g0 w0 p0@0{11,15,20,27,32} a1 v- y- r[] o[] x{} b0" ∷
    "= 29" ∷
    "11 ExchangeStates c3 g0 w0 p0@0{11,15,20,27,32} a1 v- y- r[] o[] x{} b0" ∷
    "15 Down" ∷
    "20 ExchangeStates c3 g0 w0 p0@0{11,15,20,27,32} a1 v- y- r[] o[] x{} b3" ∷
    "27 ExchangeStates c3 g0 w0 p0@0{11,15,20,27,32} a1 v- y- r[] o[] x{} b0" ∷
    "32 ExchangeStates c3 g0 w0 p0@0{11,15,20,27,32} a1 v- y- r[] o[] x{} b0" ∷
    "= 31" ∷
    "11 ExchangeStates c3 g0 w0 p0@0{11,15,20,27,32} a1 v- y- r[] o[] x{} b1" ∷
    "= 32" ∷
    "20 NonPrim t3 g0 w0 p0@0{11,15,20,27,32} a1 v- y- r[] o[] x{} b3" ∷
    "32 NonPrim t3 g0 w0 p0@0{11,15,20,27,32} a1 v- y- r[] o[] x{} b0" ∷
    "= 33" ∷
    "11 NonPrim t3 g0 w0 p0@0{11,15,20,27,32} a1 v- y- r[] o[] x{} b1" ∷
    "27 NonPrim t3 g0 w0 p0@0{11,15,20,27,32} a1 v- y- r[] o[] x{} b0" ∷
    "= 34" ∷
    "11 Down" ∷
    "= 35" ∷
    "20 ExchangeStates c4 g0 w0 p0@0{11,15,20,27,32} a1 v- y- r[] o[] x{} b3" ∷
    "27 ExchangeStates c4 g0 w0 p0@0{11,15,20,27,32} a1 v- y- r[] o[] x{} b0" ∷
    "32 ExchangeStates c4 g0 w0 p0@0{11,15,20,27,32} a1 v- y- r[] o[] x{} b0" ∷
    "= 37" ∷
    "32 Construct c4 g0 w0 p0@0{11,15,20,27,32} a2 v4/0{20,27,32}{32} y- r[] o[] x{} b0" ∷
    "= 38" ∷
    "27 NonPrim t4 g0 w0 p0@0{11,15,20,27,32} a1 v- y- r[] o[] x{} b0" ∷
    "= 39" ∷
    "32 No t4 g0 w0 p0@0{11,15,20,27,32} a2 v4/0{20,27,32}{32} y- r[] o[] x{} b0" ∷
    "= 41" ∷
    "27 ExchangeStates c5 g0 w0 p0@0{11,15,20,27,32} a1 v- y- r[] o[] x{} b0" ∷
    "32 ExchangeStates c5 g0 w0 p0@0{11,15,20,27,32} a2 v- y- r[] o[] x{} b0" ∷
    "= 45" ∷
    "27 NonPrim t5 g0 w0 p0@0{11,15,20,27,32} a1 v- y- r[] o[] x{} b0" ∷
    "32 NonPrim t5 g0 w0 p0@0{11,15,20,27,32} a2 v- y- r[] o[] x{} b0" ∷
    "= 46" ∷
    "27 ExchangeStates c6 g0 w0 p0@0{11,15,20,27,32} a1 v- y- r[] o[] x{} b0" ∷
    "32 ExchangeStates c6 g0 w0 p0@0{11,15,20,27,32} a2 v- y- r[] o[] x{} b0" ∷
    "= 48" ∷
    "20 Construct c4 g0 w0 p0@0{11,15,20,27,32} a2 v4/0{20,27,32}{20} y- r[] o[] x{} b3" ∷
    "= 49" ∷
    "11 NonPrim - g0 w0 p0@0{11,15,20,27,32} a1 v- y- r[] o[] x{} b0" ∷
    "= 50" ∷
    "20 No t4 g0 w0 p0@0{11,15,20,27,32} a2 v4/0{20,27,32}{20} y- r[] o[] x{} b3" ∷
    "= 51" ∷
    "32 NonPrim t6 g0 w0 p0@0{11,15,20,27,32} a2 v- y- r[] o[] x{} b0" ∷
    "= 52" ∷
    "27 NonPrim t6 g0 w0 p0@0{11,15,20,27,32} a1 v- y- r[] o[] x{} b0" ∷
    "= 53" ∷
    "11 ExchangeStates c7 g0 w0 p0@0{11,15,20,27,32} a1 v- y- r[] o[] x{} b0" ∷
    "20 ExchangeStates c7 g0 w0 p0@0{11,15,20,27,32} a2 v- y- r[] o[] x{} b3" ∷
    "27 ExchangeStates c7 g0 w0 p0@0{11,15,20,27,32} a1 v- y- r[] o[] x{} b0" ∷
    "32 ExchangeStates c7 g0 w0 p0@0{11,15,20,27,32} a2 v- y- r[] o[] x{} b0" ∷
    "= 55" ∷
    "11 Construct c7 g0 w0 p0@0{11,15,20,27,32} a3 v7/0{11,20,27,32}{11} y- r[] o[] x{} b0" ∷
    "= 56" ∷
    "20 Construct c7 g0 w0 p0@0{11,15,20,27,32} a3 v7/0{11,20,27,32}{20} y- r[] o[] x{} b3" ∷
    "= 57" ∷
    "27 Construct c7 g0 w0 p0@0{11,15,20,27,32} a3 v7/0{11,20,27,32}{27} y- r[] o[] x{} b0" ∷
    "= 58" ∷
    "32 Construct c7 g0 w0 p0@0{11,15,20,27,32} a3 v7/0{11,20,27,32}{32} y- r[] o[] x{} b0" ∷
    "= 60" ∷
    "11 RegPrim c7 g0 w0 p1@7{11,20,27,32} a0 v7/0{11,20,27,32}{11} y- r[] o[] x{} b0" ∷
    "= 61" ∷
    "made 20:1 leave 32" ∷
    "made 20:2 cas \"b\" absent 18; inc \"a\" -2; inc \"a\" 10" ∷
    "made 20:3 inc \"z\" 2" ∷
    "20 RegPrim c7 g0 w0 p1@7{11,20,27,32} a0 v7/0{11,20,27,32}{20} y- r[] o[20:1,20:2,20:3] x{} b0" ∷
    "= 62" ∷
    "27 RegPrim c7 g0 w0 p1@7{11,20,27,32} a0 v7/0{11,20,27,32}{27} y- r[] o[] x{} b0" ∷
    "= 63" ∷
    "32 RegPrim c7 g0 w0 p1@7{11,20,27,32} a0 v7/0{11,20,27,32}{32} y- r[] o[] x{} b0" ∷
    "= 65" ∷
    "order 1 20:1" ∷
    "order 2 20:2" ∷
    "order 3 20:3" ∷
    "11 RegPrim c7 g3 w0 p1@7{11,20,27,32} a0 v7/0{11,20,27,32}{11} y- r[] o[] x{32} b0" ∷
    "= 66" ∷
    "20 RegPrim c7 g3 w0 p1@7{11,20,27,32} a0 v7/0{11,20,27,32}{20} y- r[] o[] x{32} b0" ∷
    "reply 20:1 done" ∷
    "reply 20:2 done" ∷
    "reply 20:3 done" ∷
    "= 67" ∷
    "27 Down" ∷
    "= 68" ∷
    "32 RegPrim c7 g3 w0 p1@7{11,20,27,32} a0 v7/0{11,20,27,32}{32} y- r[] o[] x{32} b0" ∷
    "= 70" ∷
    "all [20:1,20:2,20:3]" ∷
    "= 71" ∷
    "20 Down" ∷
    "= 72" ∷
    "15 NonPrim - g0 w0 p0@0{11,15,20,27,32} a1 v1/0{11,15,20,27,32}{15} y- r[] o[] x{} b0" ∷
    "= 73" ∷
    "27 NonPrim - g0 w0 p1@7{11,20,27,32} a0 v7/0{11,20,27,32}{27} y- r[] o[] x{} b0" ∷
    "= 74" ∷
    "20 NonPrim - g3 w0 p1@7{11,20,27,32} a0 v7/0{11,20,27,32}{20} y- r[] o[] x{32} b0" ∷
    "= 75" ∷
    "15 NonPrim - g0 w0 p0@0{11,15,20,27,32} a1 v1/0{11,15,20,27,32}{15} y- r[] o[] x{} b1" ∷
    "= 76" ∷
    "27 NonPrim - g0 w0 p1@7{11,20,27,32} a0 v7/0{11,20,27,32}{27} y- r[] o[] x{} b1" ∷
    "= 78" ∷
    "27 ExchangeStates c8 g0 w0 p1@7{11,20,27,32} a0 v7/0{11,20,27,32}{27} y- r[] o[] x{} b1" ∷
    "end 79" ∷
    [])
unfolding cases_compute
five_replicas_attempt_broken_off_crash_in_a_device_call_b = refl

-- Replicas at the start: 5: an attempt at a primary is broken off; a crash strikes inside a device call.
five_replicas_attempt_broken_off_crash_in_a_device_call_c :
    replayed_text (
    "start 1 2 3 4 5" ∷
    "merge 1 2 3 4 5" ∷
    "request 1 cas \"x\" absent 87; inc \"b\" 1; inc \"b\" 11 ? keys \"ab\"" ∷
    "gather" ∷
    "deliver 5 5" ∷
    "order 5" ∷
    "gather" ∷
    "deliver 5 1" ∷
    "gather" ∷
    "deliver 3 1" ∷
    "stop 4 3 01" ∷
    "split 1 2 3 4 5" ∷
    "merge 1 2 3 5" ∷
    "split 2 3" ∷
    "split 1 5" ∷
    "merge 1 5" ∷
    "merge 2 3" ∷
    "gather" ∷
    "request 2 del \"x\"; need \"abc\" absent; del \"z\"; inc \"a\" -9223372036854775808 ? get \"abc\"" ∷
    "join 1 10" ∷
    "split 2 3" ∷
    "merge 2 3" ∷
    "request 5 inc \"ab\" -1; inc \"y\" 12" ∷
    "gather" ∷
    "deliver 5 1" ∷
    "split 2 3" ∷
    "rounds 2" ∷
    "show 5" ∷
    "rounds 1" ∷
    "end" ∷
    [])
    ≡ written (
    "= 1" ∷
    "1 NonPrim - g0 w0 p0@0{1,2,3,4,5} a0 v- y- r[] o[] x{} b0" ∷
    "2 NonPrim - g0 w0 p0@0{1,2,3,4,5} a0 v- y- r[] o[] x{} b0" ∷
    "3 NonPrim - g0 w0 p0@0{1,2,3,4,5} a0 v- y- r[] o[] x{} b0" ∷
    "4 NonPrim - g0 w0 p0@0{1,2,3,4,5} a0 v- y- r[] o[] x{} b0" ∷
    "5 NonPrim - g0 w0 p0@0{1,2,3,4,5} a0 v- y- r[] o[] x{} b0" ∷
    "= 2" ∷
    "1 ExchangeStates c1 g0 w0 p0@0{1,2,3,4,5} a0 v- y- r[] o[] x{} b0" ∷
    "2 ExchangeStates c1 g0 w0 p0@0{1,2,3,4,5} a0 v- y- r[] o[] x{} b0" ∷
    "3 ExchangeStates c1 g0 w0 p0@0{1,2,3,4,5} a0 v- y- r[] o[] x{} b0" ∷
    "4 ExchangeStates c1 g0 w0 p0@0{1,2,3,4,5} a0 v- y- r[] o[] x{} b0" ∷
    "5 ExchangeStates c1 g0 w0 p0@0{1,2,3,4,5} a0 v- y- r[] o[] x{} b0" ∷
    "= 3" ∷
    "1 ExchangeStates c1 g0 w0 p0@0{1,2,3,4,5} a0 v- y- r[] o[] x{} b1" ∷
    "= 5" ∷
    "5 Construct c1 g0 w0 p0@0{1,2,3,4,5} a1 v1/0{1,2,3,4,5}{5} y- r[] o[] x{} b0" ∷
    "= 12" ∷
    "1 No t1 g0 w0 p0@0{1,2,3,4,5} a1 v1/0{1,2,3,4,5}{1} y- r[] o[] x{} b1" ∷
    "2 No t1 g0 w0 p0@0{1,2,3,4,5} a1 v1/0{1,2,3,4,5}{2} y- r[] o[] x{} b0" ∷
    "3 No t1 g0 w0 p0@0{1,2,3,4,5} a1 v1/0{1,2,3,4,5}{3} y- r[] o[] x{} b0" ∷
    "4 Down" ∷
    "5 No t1 g0 w0 p0@0{1,2,3,4,5} a1 v1/0{1,2,3,4,5}{5} y- r[] o[] x{} b0" ∷
    "= 13" ∷
    "1 ExchangeStates c2 g0 w0 p0@0{1,2,3,4,5} a1 v- y- r[] o[] x{} b1" ∷
    "2 ExchangeStates c2 g0 w0 p0@0{1,2,3,4,5} a1 v- y- r[] o[] x{} b0" ∷
    "3 ExchangeStates c2 g0 w0 p0@0{1,2,3,4,5} a1 v- y- r[] o[] x{} b0" ∷
    "5 ExchangeStates c2 g0 w0 p0@0{1,2,3,4,5} a1 v- y- r[] o[] x{} b0" ∷
    "= 14" ∷
    "2 NonPrim t2 g0 w0 p0@0{1,2,3,4,5} a1 v- y- r[] o[] x{} b0" ∷
    "3 NonPrim t2 g0 w0 p0@0{1,2,3,4,5} a1 v- y- r[] o[] x{} b0" ∷
    "= 15" ∷
    "1 NonPrim t2 g0 w0 p0@0{1,2,3,4,5} a1 v- y- r[] o[] x{} b1" ∷
    "5 NonPrim t2 g0 w0 p0@0{1,2,3,4,5} a1 v- y- r[] o[] x{} b0" ∷
    "= 16" ∷
    "1 ExchangeStates c3 g0 w0 p0@0{1,2,3,4,5} a1 v- y- r[] o[] x{} b1" ∷
    "5 ExchangeStates c3 g0 w0 p0@0{1,2,3,4,5} a1 v- y- r[] o[] x{} b0" ∷
    "= 17" ∷
    "2 ExchangeStates c4 g0 w0 p0@0{1,2,3,4,5} a1 v- y- r[] o[] x{} b0" ∷
    "3 ExchangeStates c4 g0 w0 p0@0{1,2,3,4,5} a1 v- y- r[] o[] x{} b0" ∷
    "= 19" ∷
    "2 ExchangeStates c4 g0 w0 p0@0{1,2,3,4,5} a1 v- y- r[] o[] x{} b1" ∷
    "= 20" ∷
    "1 ExchangeStates c3 g0 w0 p0@0{1,2,3,4,5} a1 v- y- r[] o[] x{} b2" ∷
    "= 21" ∷
    "2 NonPrim t4 g0 w0 p0@0{1,2,3,4,5} a1 v- y- r[] o[] x{} b1" ∷
    "3 NonPrim t4 g0 w0 p0@0{1,2,3,4,5} a1 v- y- r[] o[] x{} b0" ∷
    "= 22" ∷
    "2 ExchangeStates c5 g0 w0 p0@0{1,2,3,4,5} a1 v- y- r[] o[] x{} b1" ∷
    "3 ExchangeStates c5 g0 w0 p0@0{1,2,3,4,5} a1 v- y- r[] o[] x{} b0" ∷
    "= 23" ∷
    "5 ExchangeStates c3 g0 w0 p0@0{1,2,3,4,5} a1 v- y- r[] o[] x{} b1" ∷
    "= 26" ∷
    "2 NonPrim t5 g0 w0 p0@0{1,2,3,4,5} a1 v- y- r[] o[] x{} b1" ∷
    "3 NonPrim t5 g0 w0 p0@0{1,2,3,4,5} a1 v- y- r[] o[] x{} b0" ∷
    "= 28" ∷
    "made 1:1 cas \"x\" absent 87; inc \"b\" 1; inc \"b\" 11 ? keys \"ab\"" ∷
    "made 1:2 join 10" ∷
    "1 NonPrim c3 g0 w0 p0@0{1,2,3,4,5} a1 v- y- r[] o[1:1,1:2] x{} b0" ∷
    "= 29" ∷
    "made 5:1 inc \"ab\" -1; inc \"y\" 12" ∷
    "5 NonPrim c3 g0 w0 p0@0{1,2,3,4,5} a1 v- y- r[] o[5:1] x{} b0" ∷
    "= 31" ∷
    "1 NonPrim c3 g0 w0 p0@0{1,2,3,4,5} a1 v- y- r[1:1,1:2,5:1] o[] x{} b0" ∷
    "= 32" ∷
    "5 NonPrim c3 g0 w0 p0@0{1,2,3,4,5} a1 v- y- r[1:1,1:2,5:1] o[] x{} b0" ∷
    "= 33" ∷
    "greens 5 []" ∷
    "db 5" ∷
    "end 34" ∷
    [])
unfolding cases_compute
five_replicas_attempt_broken_off_crash_in_a_device_call_c = refl

-- Replicas at the start: 5: an attempt at a primary is broken off; a crash strikes inside a device call; a snapshot is handed on in pieces.
five_replicas_attempt_broken_off_crash_in_a_device_call_joiner_a :
    replayed_text (
    "start 1 2 3 4 5" ∷
    "merge 1 2 3 4 5" ∷
    "rounds 1" ∷
    "gather" ∷
    "deliver 2 4" ∷
    "join 2 6" ∷
    "request 1 inc \"ab\" 9; del \"a\"; inc \"z\" -2; put \"ab\" 53" ∷
    "gather" ∷
    "stop 1 15 -" ∷
    "split 1 2 3 4 5" ∷
    "merge 1 2 3 4 5" ∷
    "rounds 2" ∷
    "rounds 3" ∷
    "rounds 3" ∷
    "transfer 3 6 100" ∷
    "split 2 3 4 5" ∷
    "merge 2 3 4 5 6" ∷
    "rounds 3" ∷
    "request 2 put \"a\" 61; put \"x\" 73 ? get \"x\"" ∷
    "rounds 3" ∷
    "leave 3 6" ∷
    "join 4 7" ∷
    "request 5 put \"y\" \"-1\" ? get \"k2\"" ∷
    "split 3 4 5" ∷
    "split 2 6" ∷
    "merge 2 6" ∷
    "merge 3 4 5" ∷
    "show 4" ∷
    "join 4 8" ∷
    "end" ∷
    [])
    ≡ written (
    "= 1" ∷
    "1 NonPrim - g0 w0 p0@0{1,2,3,4,5} a0 v- y- r[] o[] x{} b0" ∷
    "2 NonPrim - g0 w0 p0@0{1,2,3,4,5} a0 v- y- r[] o[] x{} b0" ∷
    "3 NonPrim - g0 w0 p0@0{1,2,3,4,5} a0 v- y- r[] o[] x{} b0" ∷
    "4 NonPrim - g0 w0 p0@0{1,2,3,4,5} a0 v- y- r[] o[] x{} b0" ∷
    "5 NonPrim - g0 w0 p0@0{1,2,3,4,5} a0 v- y- r[] o[] x{} b0" ∷
    "= 2" ∷
    "1 ExchangeStates c1 g0 w0 p0@0{1,2,3,4,5} a0 v- y- r[] o[] x{} b0" ∷
    "2 ExchangeStates c1 g0 w0 p0@0{1,2,3,4,5} a0 v- y- r[] o[] x{} b0" ∷
    "3 ExchangeStates c1 g0 w0 p0@0{1,2,3,4,5} a0 v- y- r[] o[] x{} b0" ∷
    "4 ExchangeStates c1 g0 w0 p0@0{1,2,3,4,5} a0 v- y- r[] o[] x{} b0" ∷
    "5 ExchangeStates c1 g0 w0 p0@0{1,2,3,4,5} a0 v- y- r[] o[] x{} b0" ∷
    "= 4" ∷
    "1 Construct c1 g0 w0 p0@0{1,2,3,4,5} a1 v1/0{1,2,3,4,5}{1} y- r[] o[] x{} b0" ∷
    "= 5" ∷
    "2 Construct c1 g0 w0 p0@0{1,2,3,4,5} a1 v1/0{1,2,3,4,5}{2} y- r[] o[] x{} b0" ∷
    "= 6" ∷
    "3 Construct c1 g0 w0 p0@0{1,2,3,4,5} a1 v1/0{1,2,3,4,5}{3} y- r[] o[] x{} b0" ∷
    "= 7" ∷
    "4 Construct c1 g0 w0 p0@0{1,2,3,4,5} a1 v1/0{1,2,3,4,5}{4} y- r[] o[] x{} b0" ∷
    "= 8" ∷
    "5 Construct c1 g0 w0 p0@0{1,2,3,4,5} a1 v1/0{1,2,3,4,5}{5} y- r[] o[] x{} b0" ∷
    "= 11" ∷
    "2 Construct c1 g0 w0 p0@0{1,2,3,4,5} a1 v1/0{1,2,3,4,5}{2} y- r[] o[] x{} b1" ∷
    "= 12" ∷
    "1 Construct c1 g0 w0 p0@0{1,2,3,4,5} a1 v1/0{1,2,3,4,5}{1} y- r[] o[] x{} b1" ∷
    "= 15" ∷
    "1 Un t1 g0 w0 p0@0{1,2,3,4,5} a1 v1/0{1,2,3,4,5}{1} y- r[] o[] x{} b1" ∷
    "2 Un t1 g0 w0 p0@0{1,2,3,4,5} a1 v1/0{1,2,3,4,5}{2} y- r[] o[] x{} b1" ∷
    "3 Un t1 g0 w0 p0@0{1,2,3,4,5} a1 v1/0{1,2,3,4,5}{3} y- r[] o[] x{} b0" ∷
    "4 Un t1 g0 w0 p0@0{1,2,3,4,5} a1 v1/0{1,2,3,4,5}{4} y- r[] o[] x{} b0" ∷
    "5 Un t1 g0 w0 p0@0{1,2,3,4,5} a1 v1/0{1,2,3,4,5}{5} y- r[] o[] x{} b0" ∷
    "= 16" ∷
    "1 ExchangeStates c2 g0 w0 p0@0{1,2,3,4,5} a1 v1/0{1,2,3,4,5}{1} y- r[] o[] x{} b1" ∷
    "2 ExchangeStates c2 g0 w0 p0@0{1,2,3,4,5} a1 v1/0{1,2,3,4,5}{2} y- r[] o[] x{} b1" ∷
    "3 ExchangeStates c2 g0 w0 p0@0{1,2,3,4,5} a1 v1/0{1,2,3,4,5}{3} y- r[] o[] x{} b0" ∷
    "4 ExchangeStates c2 g0 w0 p0@0{1,2,3,4,5} a1 v1/0{1,2,3,4,5}{4} y- r[] o[] x{} b0" ∷
    "5 ExchangeStates c2 g0 w0 p0@0{1,2,3,4,5} a1 v1/0{1,2,3,4,5}{5} y- r[] o[] x{} b0" ∷
    "= 18" ∷
    "1 Construct c2 g0 w0 p0@0{1,2,3,4,5} a2 v2/0{1,2,3,4,5}{1} y- r[] o[] x{} b1" ∷
    "= 19" ∷
    "2 Construct c2 g0 w0 p0@0{1,2,3,4,5} a2 v2/0{1,2,3,4,5}{2} y- r[] o[] x{} b1" ∷
    "= 20" ∷
    "3 Construct c2 g0 w0 p0@0{1,2,3,4,5} a2 v2/0{1,2,3,4,5}{3} y- r[] o[] x{} b0" ∷
    "= 21" ∷
    "4 Construct c2 g0 w0 p0@0{1,2,3,4,5} a2 v2/0{1,2,3,4,5}{4} y- r[] o[] x{} b0" ∷
    "= 22" ∷
    "5 Construct c2 g0 w0 p0@0{1,2,3,4,5} a2 v2/0{1,2,3,4,5}{5} y- r[] o[] x{} b0" ∷
    "= 24" ∷
    "made 1:1 inc \"ab\" 9; del \"a\"; inc \"z\" -2; put \"ab\" 53" ∷
    "1 RegPrim c2 g0 w0 p1@2{1,2,3,4,5} a0 v2/0{1,2,3,4,5}{1} y- r[] o[1:1] x{} b0" ∷
    "= 25" ∷
    "made 2:1 join 6" ∷
    "2 RegPrim c2 g0 w0 p1@2{1,2,3,4,5} a0 v2/0{1,2,3,4,5}{2} y- r[] o[2:1] x{} b0" ∷
    "= 26" ∷
    "3 RegPrim c2 g0 w0 p1@2{1,2,3,4,5} a0 v2/0{1,2,3,4,5}{3} y- r[] o[] x{} b0" ∷
    "= 27" ∷
    "4 RegPrim c2 g0 w0 p1@2{1,2,3,4,5} a0 v2/0{1,2,3,4,5}{4} y- r[] o[] x{} b0" ∷
    "= 28" ∷
    "5 RegPrim c2 g0 w0 p1@2{1,2,3,4,5} a0 v2/0{1,2,3,4,5}{5} y- r[] o[] x{} b0" ∷
    "= 30" ∷
    "order 1 1:1" ∷
    "order 2 2:1" ∷
    "1 RegPrim c2 g2 w0 p1@2{1,2,3,4,5} a0 v2/0{1,2,3,4,5}{1} y- r[] o[] x{} b0" ∷
    "reply 1:1 done" ∷
    "= 31" ∷
    "2 RegPrim c2 g2 w0 p1@2{1,2,3,4,5} a0 v2/0{1,2,3,4,5}{2} y- r[] o[] x{} b0" ∷
    "reply 2:1 done" ∷
    "= 32" ∷
    "3 RegPrim c2 g2 w0 p1@2{1,2,3,4,5} a0 v2/0{1,2,3,4,5}{3} y- r[] o[] x{} b0" ∷
    "= 33" ∷
    "4 RegPrim c2 g2 w0 p1@2{1,2,3,4,5} a0 v2/0{1,2,3,4,5}{4} y- r[] o[] x{} b0" ∷
    "= 34" ∷
    "5 RegPrim c2 g2 w0 p1@2{1,2,3,4,5} a0 v2/0{1,2,3,4,5}{5} y- r[] o[] x{} b0" ∷
    "= 40" ∷
    "6 NonPrim - g2 w0 p1@2{1,2,3,4,5} a0 v- y- r[] o[] x{} b0" ∷
    "pieces 6 6/6" ∷
    "= 41" ∷
    "2 TransPrim t2 g2 w0 p1@2{1,2,3,4,5} a0 v2/0{1,2,3,4,5}{2} y- r[] o[] x{} b0" ∷
    "3 TransPrim t2 g2 w0 p1@2{1,2,3,4,5} a0 v2/0{1,2,3,4,5}{3} y- r[] o[] x{} b0" ∷
    "4 TransPrim t2 g2 w0 p1@2{1,2,3,4,5} a0 v2/0{1,2,3,4,5}{4} y- r[] o[] x{} b0" ∷
    "5 TransPrim t2 g2 w0 p1@2{1,2,3,4,5} a0 v2/0{1,2,3,4,5}{5} y- r[] o[] x{} b0" ∷
    "= 42" ∷
    "2 ExchangeStates c3 g2 w0 p1@2{1,2,3,4,5} a0 v- y![] r[] o[] x{} b0" ∷
    "3 ExchangeStates c3 g2 w0 p1@2{1,2,3,4,5} a0 v- y![] r[] o[] x{} b0" ∷
    "4 ExchangeStates c3 g2 w0 p1@2{1,2,3,4,5} a0 v- y![] r[] o[] x{} b0" ∷
    "5 ExchangeStates c3 g2 w0 p1@2{1,2,3,4,5} a0 v- y![] r[] o[] x{} b0" ∷
    "6 ExchangeStates c3 g2 w0 p1@2{1,2,3,4,5} a0 v- y- r[] o[] x{} b0" ∷
    "= 44" ∷
    "2 Construct c3 g2 w0 p1@2{1,2,3,4,5} a1 v3/1{2,3,4,5,6}{2} y![] r[] o[] x{} b0" ∷
    "= 45" ∷
    "3 Construct c3 g2 w0 p1@2{1,2,3,4,5} a1 v3/1{2,3,4,5,6}{3} y![] r[] o[] x{} b0" ∷
    "= 46" ∷
    "4 Construct c3 g2 w0 p1@2{1,2,3,4,5} a1 v3/1{2,3,4,5,6}{4} y![] r[] o[] x{} b0" ∷
    "= 47" ∷
    "5 Construct c3 g2 w0 p1@2{1,2,3,4,5} a1 v3/1{2,3,4,5,6}{5} y![] r[] o[] x{} b0" ∷
    "= 48" ∷
    "6 Construct c3 g2 w0 p1@2{1,2,3,4,5} a1 v3/1{2,3,4,5,6}{6} y![] r[] o[] x{} b0" ∷
    "= 50" ∷
    "2 RegPrim c3 g2 w0 p2@3{2,3,4,5,6} a0 v3/1{2,3,4,5,6}{2} y- r[] o[] x{} b0" ∷
    "= 51" ∷
    "3 RegPrim c3 g2 w0 p2@3{2,3,4,5,6} a0 v3/1{2,3,4,5,6}{3} y- r[] o[] x{} b0" ∷
    "= 52" ∷
    "4 RegPrim c3 g2 w0 p2@3{2,3,4,5,6} a0 v3/1{2,3,4,5,6}{4} y- r[] o[] x{} b0" ∷
    "= 53" ∷
    "5 RegPrim c3 g2 w0 p2@3{2,3,4,5,6} a0 v3/1{2,3,4,5,6}{5} y- r[] o[] x{} b0" ∷
    "= 54" ∷
    "6 RegPrim c3 g2 w0 p2@3{2,3,4,5,6} a0 v3/1{2,3,4,5,6}{6} y- r[] o[] x{} b0" ∷
    "= 56" ∷
    "made 2:2 put \"a\" 61; put \"x\" 73 ? get \"x\"" ∷
    "2 RegPrim c3 g2 w0 p2@3{2,3,4,5,6} a0 v3/1{2,3,4,5,6}{2} y- r[] o[2:2] x{} b0" ∷
    "= 58" ∷
    "order 3 2:2" ∷
    "2 RegPrim c3 g3 w0 p2@3{2,3,4,5,6} a0 v3/1{2,3,4,5,6}{2} y- r[] o[] x{} b0" ∷
    "reply 2:2 done ? 73" ∷
    "= 59" ∷
    "3 RegPrim c3 g3 w0 p2@3{2,3,4,5,6} a0 v3/1{2,3,4,5,6}{3} y- r[] o[] x{} b0" ∷
    "= 60" ∷
    "4 RegPrim c3 g3 w0 p2@3{2,3,4,5,6} a0 v3/1{2,3,4,5,6}{4} y- r[] o[] x{} b0" ∷
    "= 61" ∷
    "5 RegPrim c3 g3 w0 p2@3{2,3,4,5,6} a0 v3/1{2,3,4,5,6}{5} y- r[] o[] x{} b0" ∷
    "= 62" ∷
    "6 RegPrim c3 g3 w0 p2@3{2,3,4,5,6} a0 v3/1{2,3,4,5,6}{6} y- r[] o[] x{} b0" ∷
    "= 65" ∷
    "made 3:1 leave 6" ∷
    "3 RegPrim c3 g3 w0 p2@3{2,3,4,5,6} a0 v3/1{2,3,4,5,6}{3} y- r[] o[3:1] x{} b0" ∷
    "= 66" ∷
    "made 4:1 join 7" ∷
    "4 RegPrim c3 g3 w0 p2@3{2,3,4,5,6} a0 v3/1{2,3,4,5,6}{4} y- r[] o[4:1] x{} b0" ∷
    "= 67" ∷
    "made 5:1 put \"y\" \"-1\" ? get \"k2\"" ∷
    "5 RegPrim c3 g3 w0 p2@3{2,3,4,5,6} a0 v3/1{2,3,4,5,6}{5} y- r[] o[5:1] x{} b0" ∷
    "= 68" ∷
    "3 TransPrim t3 g3 w0 p2@3{2,3,4,5,6} a0 v3/1{2,3,4,5,6}{3} y- r[] o[3:1] x{} b0" ∷
    "4 TransPrim t3 g3 w0 p2@3{2,3,4,5,6} a0 v3/1{2,3,4,5,6}{4} y- r[] o[4:1] x{} b0" ∷
    "5 TransPrim t3 g3 w0 p2@3{2,3,4,5,6} a0 v3/1{2,3,4,5,6}{5} y- r[] o[5:1] x{} b0" ∷
    "= 69" ∷
    "2 TransPrim t3 g3 w0 p2@3{2,3,4,5,6} a0 v3/1{2,3,4,5,6}{2} y- r[] o[] x{} b0" ∷
    "6 TransPrim t3 g3 w0 p2@3{2,3,4,5,6} a0 v3/1{2,3,4,5,6}{6} y- r[] o[] x{} b0" ∷
    "= 70" ∷
    "2 ExchangeStates c4 g3 w0 p2@3{2,3,4,5,6} a0 v- y![] r[] o[] x{} b0" ∷
    "6 ExchangeStates c4 g3 w0 p2@3{2,3,4,5,6} a0 v- y![] r[] o[] x{} b0" ∷
    "= 71" ∷
    "3 ExchangeStates c5 g3 w0 p2@3{2,3,4,5,6} a0 v- y![] r[3:1] o[] x{} b0" ∷
    "4 ExchangeStates c5 g3 w0 p2@3{2,3,4,5,6} a0 v- y![] r[4:1] o[] x{} b0" ∷
    "5 ExchangeStates c5 g3 w0 p2@3{2,3,4,5,6} a0 v- y![] r[5:1] o[] x{} b0" ∷
    "= 72" ∷
    "greens 4 [1:1,2:1,2:2]" ∷
    "db 4 \"a\"=61 \"ab\"=53 \"x\"=73 \"z\"=-2" ∷
    "= 73" ∷
    "4 ExchangeStates c5 g3 w0 p2@3{2,3,4,5,6} a0 v- y![] r[4:1] o[] x{} b1" ∷
    "end 73" ∷
    [])
unfolding cases_compute
five_replicas_attempt_broken_off_crash_in_a_device_call_joiner_a = refl

-- Replicas at the start: 5: no primary is formed.
five_replicas_no_primary_a :
    replayed_text (
    "start 1 2 3 4 5" ∷
    "merge 1 2 3 4 5" ∷
    "request 4 need \"b\" absent" ∷
    "request 1 inc \"y\" 9223372036854775807 ? get \"ab\"" ∷
    "request 3 need \"x\" -3" ∷
    "gather" ∷
    "deliver 2 5" ∷
    "end" ∷
    [])
    ≡ written (
    "= 1" ∷
    "1 NonPrim - g0 w0 p0@0{1,2,3,4,5} a0 v- y- r[] o[] x{} b0" ∷
    "2 NonPrim - g0 w0 p0@0{1,2,3,4,5} a0 v- y- r[] o[] x{} b0" ∷
    "3 NonPrim - g0 w0 p0@0{1,2,3,4,5} a0 v- y- r[] o[] x{} b0" ∷
    "4 NonPrim - g0 w0 p0@0{1,2,3,4,5} a0 v- y- r[] o[] x{} b0" ∷
    "5 NonPrim - g0 w0 p0@0{1,2,3,4,5} a0 v- y- r[] o[] x{} b0" ∷
    "= 2" ∷
    "1 ExchangeStates c1 g0 w0 p0@0{1,2,3,4,5} a0 v- y- r[] o[] x{} b0" ∷
    "2 ExchangeStates c1 g0 w0 p0@0{1,2,3,4,5} a0 v- y- r[] o[] x{} b0" ∷
    "3 ExchangeStates c1 g0 w0 p0@0{1,2,3,4,5} a0 v- y- r[] o[] x{} b0" ∷
    "4 ExchangeStates c1 g0 w0 p0@0{1,2,3,4,5} a0 v- y- r[] o[] x{} b0" ∷
    "5 ExchangeStates c1 g0 w0 p0@0{1,2,3,4,5} a0 v- y- r[] o[] x{} b0" ∷
    "= 3" ∷
    "4 ExchangeStates c1 g0 w0 p0@0{1,2,3,4,5} a0 v- y- r[] o[] x{} b1" ∷
    "= 4" ∷
    "1 ExchangeStates c1 g0 w0 p0@0{1,2,3,4,5} a0 v- y- r[] o[] x{} b1" ∷
    "= 5" ∷
    "3 ExchangeStates c1 g0 w0 p0@0{1,2,3,4,5} a0 v- y- r[] o[] x{} b1" ∷
    "= 7" ∷
    "2 Construct c1 g0 w0 p0@0{1,2,3,4,5} a1 v1/0{1,2,3,4,5}{2} y- r[] o[] x{} b0" ∷
    "end 7" ∷
    [])
unfolding cases_compute
five_replicas_no_primary_a = refl

-- Replicas at the start: 5: no primary is formed.
five_replicas_no_primary_b :
    replayed_text (
    "start 1 2 3 4 5" ∷
    "merge 1 2 3 4 5" ∷
    "stop 1 8 434752554954593101" ∷
    "split 1 2 3 4 5" ∷
    "merge 1 2 3 4 5" ∷
    "rounds 1" ∷
    "request 4 put \"z\" 73 ? keys \"k\"" ∷
    "gather" ∷
    "request 1 cas \"y\" 21 5" ∷
    "request 4 inc \"a\" 2; inc \"z\" 4 ? get \"y\"" ∷
    "request 4 inc \"y\" -9223372036854775808 ? count" ∷
    "end" ∷
    [])
    ≡ written (
    "= 1" ∷
    "1 NonPrim - g0 w0 p0@0{1,2,3,4,5} a0 v- y- r[] o[] x{} b0" ∷
    "2 NonPrim - g0 w0 p0@0{1,2,3,4,5} a0 v- y- r[] o[] x{} b0" ∷
    "3 NonPrim - g0 w0 p0@0{1,2,3,4,5} a0 v- y- r[] o[] x{} b0" ∷
    "4 NonPrim - g0 w0 p0@0{1,2,3,4,5} a0 v- y- r[] o[] x{} b0" ∷
    "5 NonPrim - g0 w0 p0@0{1,2,3,4,5} a0 v- y- r[] o[] x{} b0" ∷
    "= 2" ∷
    "1 ExchangeStates c1 g0 w0 p0@0{1,2,3,4,5} a0 v- y- r[] o[] x{} b0" ∷
    "2 ExchangeStates c1 g0 w0 p0@0{1,2,3,4,5} a0 v- y- r[] o[] x{} b0" ∷
    "3 ExchangeStates c1 g0 w0 p0@0{1,2,3,4,5} a0 v- y- r[] o[] x{} b0" ∷
    "4 ExchangeStates c1 g0 w0 p0@0{1,2,3,4,5} a0 v- y- r[] o[] x{} b0" ∷
    "5 ExchangeStates c1 g0 w0 p0@0{1,2,3,4,5} a0 v- y- r[] o[] x{} b0" ∷
    "= 4" ∷
    "1 NonPrim t1 g0 w0 p0@0{1,2,3,4,5} a0 v- y- r[] o[] x{} b0" ∷
    "2 NonPrim t1 g0 w0 p0@0{1,2,3,4,5} a0 v- y- r[] o[] x{} b0" ∷
    "3 NonPrim t1 g0 w0 p0@0{1,2,3,4,5} a0 v- y- r[] o[] x{} b0" ∷
    "4 NonPrim t1 g0 w0 p0@0{1,2,3,4,5} a0 v- y- r[] o[] x{} b0" ∷
    "5 NonPrim t1 g0 w0 p0@0{1,2,3,4,5} a0 v- y- r[] o[] x{} b0" ∷
    "= 5" ∷
    "1 ExchangeStates c2 g0 w0 p0@0{1,2,3,4,5} a0 v- y- r[] o[] x{} b0" ∷
    "2 ExchangeStates c2 g0 w0 p0@0{1,2,3,4,5} a0 v- y- r[] o[] x{} b0" ∷
    "3 ExchangeStates c2 g0 w0 p0@0{1,2,3,4,5} a0 v- y- r[] o[] x{} b0" ∷
    "4 ExchangeStates c2 g0 w0 p0@0{1,2,3,4,5} a0 v- y- r[] o[] x{} b0" ∷
    "5 ExchangeStates c2 g0 w0 p0@0{1,2,3,4,5} a0 v- y- r[] o[] x{} b0" ∷
    "= 7" ∷
    "1 Construct c2 g0 w0 p0@0{1,2,3,4,5} a1 v2/0{1,2,3,4,5}{1} y- r[] o[] x{} b0" ∷
    "= 8" ∷
    "2 Construct c2 g0 w0 p0@0{1,2,3,4,5} a1 v2/0{1,2,3,4,5}{2} y- r[] o[] x{} b0" ∷
    "= 9" ∷
    "3 Construct c2 g0 w0 p0@0{1,2,3,4,5} a1 v2/0{1,2,3,4,5}{3} y- r[] o[] x{} b0" ∷
    "= 10" ∷
    "4 Construct c2 g0 w0 p0@0{1,2,3,4,5} a1 v2/0{1,2,3,4,5}{4} y- r[] o[] x{} b0" ∷
    "= 11" ∷
    "5 Construct c2 g0 w0 p0@0{1,2,3,4,5} a1 v2/0{1,2,3,4,5}{5} y- r[] o[] x{} b0" ∷
    "= 12" ∷
    "4 Construct c2 g0 w0 p0@0{1,2,3,4,5} a1 v2/0{1,2,3,4,5}{4} y- r[] o[] x{} b1" ∷
    "= 14" ∷
    "1 Construct c2 g0 w0 p0@0{1,2,3,4,5} a1 v2/0{1,2,3,4,5}{1} y- r[] o[] x{} b1" ∷
    "= 15" ∷
    "4 Construct c2 g0 w0 p0@0{1,2,3,4,5} a1 v2/0{1,2,3,4,5}{4} y- r[] o[] x{} b2" ∷
    "= 16" ∷
    "4 Construct c2 g0 w0 p0@0{1,2,3,4,5} a1 v2/0{1,2,3,4,5}{4} y- r[] o[] x{} b3" ∷
    "end 16" ∷
    [])
unfolding cases_compute
five_replicas_no_primary_b = refl

-- Replicas at the start: 5: the input has an odd line; a primary is formed.
five_replicas_odd_input_primary_formed_a :
    replayed_text (
    "start 1 2 3 4 5" ∷
    "merge 1 2 3 4 5" ∷
    "rounds 2" ∷
    "request 2 put \"a\" 22 ? get \"x\"" ∷
    "gather" ∷
    "request 3 del \"abc\"" ∷
    "end" ∷
    "order" ∷
    [])
    ≡ written (
    "= 1" ∷
    "1 NonPrim - g0 w0 p0@0{1,2,3,4,5} a0 v- y- r[] o[] x{} b0" ∷
    "2 NonPrim - g0 w0 p0@0{1,2,3,4,5} a0 v- y- r[] o[] x{} b0" ∷
    "3 NonPrim - g0 w0 p0@0{1,2,3,4,5} a0 v- y- r[] o[] x{} b0" ∷
    "4 NonPrim - g0 w0 p0@0{1,2,3,4,5} a0 v- y- r[] o[] x{} b0" ∷
    "5 NonPrim - g0 w0 p0@0{1,2,3,4,5} a0 v- y- r[] o[] x{} b0" ∷
    "= 2" ∷
    "1 ExchangeStates c1 g0 w0 p0@0{1,2,3,4,5} a0 v- y- r[] o[] x{} b0" ∷
    "2 ExchangeStates c1 g0 w0 p0@0{1,2,3,4,5} a0 v- y- r[] o[] x{} b0" ∷
    "3 ExchangeStates c1 g0 w0 p0@0{1,2,3,4,5} a0 v- y- r[] o[] x{} b0" ∷
    "4 ExchangeStates c1 g0 w0 p0@0{1,2,3,4,5} a0 v- y- r[] o[] x{} b0" ∷
    "5 ExchangeStates c1 g0 w0 p0@0{1,2,3,4,5} a0 v- y- r[] o[] x{} b0" ∷
    "= 4" ∷
    "1 Construct c1 g0 w0 p0@0{1,2,3,4,5} a1 v1/0{1,2,3,4,5}{1} y- r[] o[] x{} b0" ∷
    "= 5" ∷
    "2 Construct c1 g0 w0 p0@0{1,2,3,4,5} a1 v1/0{1,2,3,4,5}{2} y- r[] o[] x{} b0" ∷
    "= 6" ∷
    "3 Construct c1 g0 w0 p0@0{1,2,3,4,5} a1 v1/0{1,2,3,4,5}{3} y- r[] o[] x{} b0" ∷
    "= 7" ∷
    "4 Construct c1 g0 w0 p0@0{1,2,3,4,5} a1 v1/0{1,2,3,4,5}{4} y- r[] o[] x{} b0" ∷
    "= 8" ∷
    "5 Construct c1 g0 w0 p0@0{1,2,3,4,5} a1 v1/0{1,2,3,4,5}{5} y- r[] o[] x{} b0" ∷
    "= 10" ∷
    "1 RegPrim c1 g0 w0 p1@1{1,2,3,4,5} a0 v1/0{1,2,3,4,5}{1} y- r[] o[] x{} b0" ∷
    "= 11" ∷
    "2 RegPrim c1 g0 w0 p1@1{1,2,3,4,5} a0 v1/0{1,2,3,4,5}{2} y- r[] o[] x{} b0" ∷
    "= 12" ∷
    "3 RegPrim c1 g0 w0 p1@1{1,2,3,4,5} a0 v1/0{1,2,3,4,5}{3} y- r[] o[] x{} b0" ∷
    "= 13" ∷
    "4 RegPrim c1 g0 w0 p1@1{1,2,3,4,5} a0 v1/0{1,2,3,4,5}{4} y- r[] o[] x{} b0" ∷
    "= 14" ∷
    "5 RegPrim c1 g0 w0 p1@1{1,2,3,4,5} a0 v1/0{1,2,3,4,5}{5} y- r[] o[] x{} b0" ∷
    "= 15" ∷
    "made 2:1 put \"a\" 22 ? get \"x\"" ∷
    "2 RegPrim c1 g0 w0 p1@1{1,2,3,4,5} a0 v1/0{1,2,3,4,5}{2} y- r[] o[2:1] x{} b0" ∷
    "= 17" ∷
    "made 3:1 del \"abc\"" ∷
    "3 RegPrim c1 g0 w0 p1@1{1,2,3,4,5} a0 v1/0{1,2,3,4,5}{3} y- r[] o[3:1] x{} b0" ∷
    "syntax 8 9" ∷
    [])
unfolding cases_compute
five_replicas_odd_input_primary_formed_a = refl
