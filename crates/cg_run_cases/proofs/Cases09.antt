-- Cases of cases/ with their whole reports, which `.ci/theorems` writes down here.
use Rattle.std.specs.Prelude.{◌≡◌, [], ◌∷◌}
use mathlib.Core.Path.{refl}
use Rattle.cg_run_cases.specs.Replaying.{replayed_text, written}
use Rattle.cg_run_cases.specs.Computing.{cases_compute}

-- Replicas at the start: 5: several primaries follow one another.
five_replicas_several_primaries_a :
    replayed_text (
    "start 1 2 3 4 5" ∷
    "merge 1 2 3 4 5" ∷
    "rounds 2" ∷
    "request 5 del \"z\" ? get \"y\"" ∷
    "request 2 cas \"a\" absent 50" ∷
    "request 1 put \"a\" \"-1\"" ∷
    "gather" ∷
    "deliver 1 3" ∷
    "split 1 5" ∷
    "split 2 3 4" ∷
    "merge 1 2 3 4 5" ∷
    "show 4" ∷
    "rounds 1" ∷
    "gather" ∷
    "deliver 3 2" ∷
    "deliver 4 1" ∷
    "deliver 5 1" ∷
    "deliver 3 1" ∷
    "deliver 5 2" ∷
    "gather" ∷
    "split 1 2 5" ∷
    "split 3 4" ∷
    "merge 1 2 5" ∷
    "merge 3 4" ∷
    "request 1 inc \"abc\" 5; inc \"ab\" 1" ∷
    "dirty 3 get \"b\"" ∷
    "split 1 2 5" ∷
    "split 4" ∷
    "split 3" ∷
    "merge 1 2 3 4 5" ∷
    "rounds 4" ∷
    "request 2 inc \"a\" 1" ∷
    "split 1 2 3 4 5" ∷
    "merge 1 2 3 4 5" ∷
    "rounds 4" ∷
    "end" ∷
    [])
    ≡ written (
    "= 1" ∷
    "1 NonPrim - g0 w0 p0@0{1,2,3,4,5} a0 v- y- r[] o[] x{} b0" ∷
    "2 NonPrim - g0 w0 p0@0{1,2,3,4,5} a0 v- y- r[] o[] x{} b0" ∷
    "3 NonPrim - g0 w0 p0@0{1,2,3,4,5} a0 v- y- r[] o[] x{} b0" ∷
    "4 NonPrim - g0 w0 p0@0{1,2,3,4,5} a0 v- y- r[] o[] x{} b0" ∷
    "5 NonPrim - g0 w0 p0@0{1,2,3,4,5} a0 v- y- r[] o[] x{} b0" ∷
    "= 2" ∷
    "1 ExchangeStates c1 g0 w0 p0@0{1,2,3,4,5} a0 v- y- r[] o[] x{} b0" ∷
    "2 ExchangeStates c1 g0 w0 p0@0{1,2,3,4,5} a0 v- y- r[] o[] x{} b0" ∷
    "3 ExchangeStates c1 g0 w0 p0@0{1,2,3,4,5} a0 v- y- r[] o[] x{} b0" ∷
    "4 ExchangeStates c1 g0 w0 p0@0{1,2,3,4,5} a0 v- y- r[] o[] x{} b0" ∷
    "5 ExchangeStates c1 g0 w0 p0@0{1,2,3,4,5} a0 v- y- r[] o[] x{} b0" ∷
    "= 4" ∷
    "1 Construct c1 g0 w0 p0@0{1,2,3,4,5} a1 v1/0{1,2,3,4,5}{1} y- r[] o[] x{} b0" ∷
    "= 5" ∷
    "2 Construct c1 g0 w0 p0@0{1,2,3,4,5} a1 v1/0{1,2,3,4,5}{2} y- r[] o[] x{} b0" ∷
    "= 6" ∷
    "3 Construct c1 g0 w0 p0@0{1,2,3,4,5} a1 v1/0{1,2,3,4,5}{3} y- r[] o[] x{} b0" ∷
    "= 7" ∷
    "4 Construct c1 g0 w0 p0@0{1,2,3,4,5} a1 v1/0{1,2,3,4,5}{4} y- r[] o[] x{} b0" ∷
    "= 8" ∷
    "5 Construct c1 g0 w0 p0@0{1,2,3,4,5} a1 v1/0{1,2,3,4,5}{5} y- r[] o[] x{} b0" ∷
    "= 10" ∷
    "1 RegPrim c1 g0 w0 p1@1{1,2,3,4,5} a0 v1/0{1,2,3,4,5}{1} y- r[] o[] x{} b0" ∷
    "= 11" ∷
    "2 RegPrim c1 g0 w0 p1@1{1,2,3,4,5} a0 v1/0{1,2,3,4,5}{2} y- r[] o[] x{} b0" ∷
    "= 12" ∷
    "3 RegPrim c1 g0 w0 p1@1{1,2,3,4,5} a0 v1/0{1,2,3,4,5}{3} y- r[] o[] x{} b0" ∷
    "= 13" ∷
    "4 RegPrim c1 g0 w0 p1@1{1,2,3,4,5} a0 v1/0{1,2,3,4,5}{4} y- r[] o[] x{} b0" ∷
    "= 14" ∷
    "5 RegPrim c1 g0 w0 p1@1{1,2,3,4,5} a0 v1/0{1,2,3,4,5}{5} y- r[] o[] x{} b0" ∷
    "= 15" ∷
    "made 5:1 del \"z\" ? get \"y\"" ∷
    "5 RegPrim c1 g0 w0 p1@1{1,2,3,4,5} a0 v1/0{1,2,3,4,5}{5} y- r[] o[5:1] x{} b0" ∷
    "= 16" ∷
    "made 2:1 cas \"a\" absent 50" ∷
    "2 RegPrim c1 g0 w0 p1@1{1,2,3,4,5} a0 v1/0{1,2,3,4,5}{2} y- r[] o[2:1] x{} b0" ∷
    "= 17" ∷
    "made 1:1 put \"a\" \"-1\"" ∷
    "1 RegPrim c1 g0 w0 p1@1{1,2,3,4,5} a0 v1/0{1,2,3,4,5}{1} y- r[] o[1:1] x{} b0" ∷
    "= 19" ∷
    "order 1 1:1" ∷
    "order 2 2:1" ∷
    "order 3 5:1" ∷
    "1 RegPrim c1 g3 w0 p1@1{1,2,3,4,5} a0 v1/0{1,2,3,4,5}{1} y- r[] o[] x{} b0" ∷
    "reply 1:1 done" ∷
    "= 20" ∷
    "1 TransPrim t1 g3 w0 p1@1{1,2,3,4,5} a0 v1/0{1,2,3,4,5}{1} y- r[] o[] x{} b0" ∷
    "5 TransPrim t1 g3 w0 p1@1{1,2,3,4,5} a0 v1/0{1,2,3,4,5}{5} y- r[] o[] x{} b0" ∷
    "reply 5:1 done ? absent" ∷
    "= 21" ∷
    "2 TransPrim t1 g0 w0 p1@1{1,2,3,4,5} a0 v1/0{1,2,3,4,5}{2} y?[1:1,2:1,5:1] r[] o[] x{} b0" ∷
    "3 TransPrim t1 g0 w0 p1@1{1,2,3,4,5} a0 v1/0{1,2,3,4,5}{3} y?[1:1,2:1,5:1] r[] o[] x{} b0" ∷
    "4 TransPrim t1 g0 w0 p1@1{1,2,3,4,5} a0 v1/0{1,2,3,4,5}{4} y?[1:1,2:1,5:1] r[] o[] x{} b0" ∷
    "= 22" ∷
    "1 ExchangeStates c2 g3 w0 p1@1{1,2,3,4,5} a0 v- y![] r[] o[] x{} b0" ∷
    "2 ExchangeStates c2 g0 w0 p1@1{1,2,3,4,5} a0 v- y![1:1,2:1,5:1] r[] o[] x{} b0" ∷
    "3 ExchangeStates c2 g0 w0 p1@1{1,2,3,4,5} a0 v- y![1:1,2:1,5:1] r[] o[] x{} b0" ∷
    "4 ExchangeStates c2 g0 w0 p1@1{1,2,3,4,5} a0 v- y![1:1,2:1,5:1] r[] o[] x{} b0" ∷
    "5 ExchangeStates c2 g3 w0 p1@1{1,2,3,4,5} a0 v- y![] r[] o[] x{} b0" ∷
    "= 23" ∷
    "greens 4 []" ∷
    "db 4" ∷
    "= 25" ∷
    "1 ExchangeActions c2 g3 w0 p1@1{1,2,3,4,5} a0 v- y![] r[] o[] x{} b0" ∷
    "= 26" ∷
    "2 ExchangeActions c2 g0 w0 p1@1{1,2,3,4,5} a0 v- y![1:1,2:1,5:1] r[] o[] x{} b0" ∷
    "= 27" ∷
    "3 ExchangeActions c2 g0 w0 p1@1{1,2,3,4,5} a0 v- y![1:1,2:1,5:1] r[] o[] x{} b0" ∷
    "= 28" ∷
    "4 ExchangeActions c2 g0 w0 p1@1{1,2,3,4,5} a0 v- y![1:1,2:1,5:1] r[] o[] x{} b0" ∷
    "= 29" ∷
    "5 ExchangeActions c2 g3 w0 p1@1{1,2,3,4,5} a0 v- y![] r[] o[] x{} b0" ∷
    "= 31" ∷
    "3 ExchangeActions c2 g2 w0 p1@1{1,2,3,4,5} a0 v- y![5:1] r[] o[] x{} b0" ∷
    "= 32" ∷
    "4 ExchangeActions c2 g1 w0 p1@1{1,2,3,4,5} a0 v- y![2:1,5:1] r[] o[] x{} b0" ∷
    "= 34" ∷
    "3 Construct c2 g3 w0 p1@1{1,2,3,4,5} a1 v2/1{1,2,3,4,5}{3} y![] r[] o[] x{} b0" ∷
    "= 35" ∷
    "5 Construct c2 g3 w0 p1@1{1,2,3,4,5} a1 v2/1{1,2,3,4,5}{5} y![] r[] o[] x{} b0" ∷
    "= 37" ∷
    "1 No t2 g3 w0 p1@1{1,2,3,4,5} a1 v2/1{1,2,3,4,5}{1} y![] r[] o[] x{} b0" ∷
    "2 No t2 g3 w0 p1@1{1,2,3,4,5} a1 v2/1{1,2,3,4,5}{2} y![] r[] o[] x{} b0" ∷
    "5 No t2 g3 w0 p1@1{1,2,3,4,5} a1 v2/1{1,2,3,4,5}{5} y![] r[] o[] x{} b0" ∷
    "reply 2:1 done" ∷
    "= 38" ∷
    "3 No t2 g3 w0 p1@1{1,2,3,4,5} a1 v2/1{1,2,3,4,5}{3} y![] r[] o[] x{} b0" ∷
    "4 No t2 g3 w0 p1@1{1,2,3,4,5} a1 v2/1{1,2,3,4,5}{4} y![] r[] o[] x{} b0" ∷
    "= 39" ∷
    "1 ExchangeStates c3 g3 w0 p1@1{1,2,3,4,5} a1 v- y![] r[] o[] x{} b0" ∷
    "2 ExchangeStates c3 g3 w0 p1@1{1,2,3,4,5} a1 v- y![] r[] o[] x{} b0" ∷
    "5 ExchangeStates c3 g3 w0 p1@1{1,2,3,4,5} a1 v- y![] r[] o[] x{} b0" ∷
    "= 40" ∷
    "3 ExchangeStates c4 g3 w0 p1@1{1,2,3,4,5} a1 v- y![] r[] o[] x{} b0" ∷
    "4 ExchangeStates c4 g3 w0 p1@1{1,2,3,4,5} a1 v- y![] r[] o[] x{} b0" ∷
    "= 41" ∷
    "1 ExchangeStates c3 g3 w0 p1@1{1,2,3,4,5} a1 v- y![] r[] o[] x{} b1" ∷
    "= 42" ∷
    "dirty 3 absent" ∷
    "= 43" ∷
    "1 NonPrim t3 g3 w0 p1@1{1,2,3,4,5} a1 v- y![] r[] o[] x{} b1" ∷
    "2 NonPrim t3 g3 w0 p1@1{1,2,3,4,5} a1 v- y![] r[] o[] x{} b0" ∷
    "5 NonPrim t3 g3 w0 p1@1{1,2,3,4,5} a1 v- y![] r[] o[] x{} b0" ∷
    "= 44" ∷
    "4 NonPrim t4 g3 w0 p1@1{1,2,3,4,5} a1 v- y![] r[] o[] x{} b0" ∷
    "= 45" ∷
    "3 NonPrim t4 g3 w0 p1@1{1,2,3,4,5} a1 v- y![] r[] o[] x{} b0" ∷
    "= 46" ∷
    "1 ExchangeStates c5 g3 w0 p1@1{1,2,3,4,5} a1 v- y![] r[] o[] x{} b1" ∷
    "2 ExchangeStates c5 g3 w0 p1@1{1,2,3,4,5} a1 v- y![] r[] o[] x{} b0" ∷
    "3 ExchangeStates c5 g3 w0 p1@1{1,2,3,4,5} a1 v- y![] r[] o[] x{} b0" ∷
    "4 ExchangeStates c5 g3 w0 p1@1{1,2,3,4,5} a1 v- y![] r[] o[] x{} b0" ∷
    "5 ExchangeStates c5 g3 w0 p1@1{1,2,3,4,5} a1 v- y![] r[] o[] x{} b0" ∷
    "= 48" ∷
    "1 Construct c5 g3 w0 p1@1{1,2,3,4,5} a2 v5/1{1,2,3,4,5}{1} y![] r[] o[] x{} b1" ∷
    "= 49" ∷
    "2 Construct c5 g3 w0 p1@1{1,2,3,4,5} a2 v5/1{1,2,3,4,5}{2} y![] r[] o[] x{} b0" ∷
    "= 50" ∷
    "3 Construct c5 g3 w0 p1@1{1,2,3,4,5} a2 v5/1{1,2,3,4,5}{3} y![] r[] o[] x{} b0" ∷
    "= 51" ∷
    "4 Construct c5 g3 w0 p1@1{1,2,3,4,5} a2 v5/1{1,2,3,4,5}{4} y![] r[] o[] x{} b0" ∷
    "= 52" ∷
    "5 Construct c5 g3 w0 p1@1{1,2,3,4,5} a2 v5/1{1,2,3,4,5}{5} y![] r[] o[] x{} b0" ∷
    "= 54" ∷
    "made 1:2 inc \"abc\" 5; inc \"ab\" 1" ∷
    "1 RegPrim c5 g3 w0 p2@5{1,2,3,4,5} a0 v5/1{1,2,3,4,5}{1} y- r[] o[1:2] x{} b0" ∷
    "= 55" ∷
    "2 RegPrim c5 g3 w0 p2@5{1,2,3,4,5} a0 v5/1{1,2,3,4,5}{2} y- r[] o[] x{} b0" ∷
    "= 56" ∷
    "3 RegPrim c5 g3 w0 p2@5{1,2,3,4,5} a0 v5/1{1,2,3,4,5}{3} y- r[] o[] x{} b0" ∷
    "= 57" ∷
    "4 RegPrim c5 g3 w0 p2@5{1,2,3,4,5} a0 v5/1{1,2,3,4,5}{4} y- r[] o[] x{} b0" ∷
    "= 58" ∷
    "5 RegPrim c5 g3 w0 p2@5{1,2,3,4,5} a0 v5/1{1,2,3,4,5}{5} y- r[] o[] x{} b0" ∷
    "= 60" ∷
    "order 4 1:2" ∷
    "1 RegPrim c5 g4 w0 p2@5{1,2,3,4,5} a0 v5/1{1,2,3,4,5}{1} y- r[] o[] x{} b0" ∷
    "reply 1:2 done" ∷
    "= 61" ∷
    "2 RegPrim c5 g4 w0 p2@5{1,2,3,4,5} a0 v5/1{1,2,3,4,5}{2} y- r[] o[] x{} b0" ∷
    "= 62" ∷
    "3 RegPrim c5 g4 w0 p2@5{1,2,3,4,5} a0 v5/1{1,2,3,4,5}{3} y- r[] o[] x{} b0" ∷
    "= 63" ∷
    "4 RegPrim c5 g4 w0 p2@5{1,2,3,4,5} a0 v5/1{1,2,3,4,5}{4} y- r[] o[] x{} b0" ∷
    "= 64" ∷
    "5 RegPrim c5 g4 w0 p2@5{1,2,3,4,5} a0 v5/1{1,2,3,4,5}{5} y- r[] o[] x{} b0" ∷
    "= 66" ∷
    "made 2:2 inc \"a\" 1" ∷
    "2 RegPrim c5 g4 w0 p2@5{1,2,3,4,5} a0 v5/1{1,2,3,4,5}{2} y- r[] o[2:2] x{} b0" ∷
    "= 67" ∷
    "1 TransPrim t5 g4 w0 p2@5{1,2,3,4,5} a0 v5/1{1,2,3,4,5}{1} y- r[] o[] x{} b0" ∷
    "2 TransPrim t5 g4 w0 p2@5{1,2,3,4,5} a0 v5/1{1,2,3,4,5}{2} y- r[] o[2:2] x{} b0" ∷
    "3 TransPrim t5 g4 w0 p2@5{1,2,3,4,5} a0 v5/1{1,2,3,4,5}{3} y- r[] o[] x{} b0" ∷
    "4 TransPrim t5 g4 w0 p2@5{1,2,3,4,5} a0 v5/1{1,2,3,4,5}{4} y- r[] o[] x{} b0" ∷
    "5 TransPrim t5 g4 w0 p2@5{1,2,3,4,5} a0 v5/1{1,2,3,4,5}{5} y- r[] o[] x{} b0" ∷
    "= 68" ∷
    "1 ExchangeStates c6 g4 w0 p2@5{1,2,3,4,5} a0 v- y![] r[] o[] x{} b0" ∷
    "2 ExchangeStates c6 g4 w0 p2@5{1,2,3,4,5} a0 v- y![] r[2:2] o[] x{} b0" ∷
    "3 ExchangeStates c6 g4 w0 p2@5{1,2,3,4,5} a0 v- y![] r[] o[] x{} b0" ∷
    "4 ExchangeStates c6 g4 w0 p2@5{1,2,3,4,5} a0 v- y![] r[] o[] x{} b0" ∷
    "5 ExchangeStates c6 g4 w0 p2@5{1,2,3,4,5} a0 v- y![] r[] o[] x{} b0" ∷
    "= 70" ∷
    "1 ExchangeActions c6 g4 w0 p2@5{1,2,3,4,5} a0 v- y![] r[] o[] x{} b0" ∷
    "= 71" ∷
    "2 ExchangeActions c6 g4 w0 p2@5{1,2,3,4,5} a0 v- y![] r[2:2] o[] x{} b0" ∷
    "= 72" ∷
    "3 ExchangeActions c6 g4 w0 p2@5{1,2,3,4,5} a0 v- y![] r[] o[] x{} b0" ∷
    "= 73" ∷
    "4 ExchangeActions c6 g4 w0 p2@5{1,2,3,4,5} a0 v- y![] r[] o[] x{} b0" ∷
    "= 74" ∷
    "5 ExchangeActions c6 g4 w0 p2@5{1,2,3,4,5} a0 v- y![] r[] o[] x{} b0" ∷
    "= 76" ∷
    "1 Construct c6 g4 w0 p2@5{1,2,3,4,5} a1 v6/2{1,2,3,4,5}{1} y![] r[2:2] o[] x{} b0" ∷
    "= 77" ∷
    "2 Construct c6 g4 w0 p2@5{1,2,3,4,5} a1 v6/2{1,2,3,4,5}{2} y![] r[2:2] o[] x{} b0" ∷
    "= 78" ∷
    "3 Construct c6 g4 w0 p2@5{1,2,3,4,5} a1 v6/2{1,2,3,4,5}{3} y![] r[2:2] o[] x{} b0" ∷
    "= 79" ∷
    "4 Construct c6 g4 w0 p2@5{1,2,3,4,5} a1 v6/2{1,2,3,4,5}{4} y![] r[2:2] o[] x{} b0" ∷
    "= 80" ∷
    "5 Construct c6 g4 w0 p2@5{1,2,3,4,5} a1 v6/2{1,2,3,4,5}{5} y![] r[2:2] o[] x{} b0" ∷
    "= 82" ∷
    "order 5 2:2" ∷
    "1 RegPrim c6 g5 w0 p3@6{1,2,3,4,5} a0 v6/2{1,2,3,4,5}{1} y- r[] o[] x{} b0" ∷
    "= 83" ∷
    "2 RegPrim c6 g5 w0 p3@6{1,2,3,4,5} a0 v6/2{1,2,3,4,5}{2} y- r[] o[] x{} b0" ∷
    "reply 2:2 aborted 1" ∷
    "= 84" ∷
    "3 RegPrim c6 g5 w0 p3@6{1,2,3,4,5} a0 v6/2{1,2,3,4,5}{3} y- r[] o[] x{} b0" ∷
    "= 85" ∷
    "4 RegPrim c6 g5 w0 p3@6{1,2,3,4,5} a0 v6/2{1,2,3,4,5}{4} y- r[] o[] x{} b0" ∷
    "= 86" ∷
    "5 RegPrim c6 g5 w0 p3@6{1,2,3,4,5} a0 v6/2{1,2,3,4,5}{5} y- r[] o[] x{} b0" ∷
    "end 87" ∷
    [])
unfolding cases_compute
five_replicas_several_primaries_a = refl

-- Replicas at the start: 5: yellow actions pass through an exchange; a crash strikes inside a device call.
five_replicas_yellow_actions_crash_in_a_device_call_a :
    replayed_text (
    "start 5 9 13 24 25" ∷
    "merge 5 9 13 24 25" ∷
    "rounds 2" ∷
    "split 13" ∷
    "request 9 inc \"a\" -9223372036854775808" ∷
    "stop 5 8 -" ∷
    "request 9 put \"b\" 7 ? get \"z\"" ∷
    "request 25 put \"a\" -2; inc \"b\" 6; inc \"ab\" -9223372036854775808" ∷
    "order 25" ∷
    "order 9" ∷
    "order 9" ∷
    "split 5 9 24 25" ∷
    "merge 9 13 24 25" ∷
    "request 24 move \"y\" \"y\" 5" ∷
    "gather" ∷
    "split 9 13 24 25" ∷
    "merge 9 13 24 25" ∷
    "request 13 move \"y\" \"x\" 5" ∷
    "order 9" ∷
    "receive 25 1" ∷
    "order 25" ∷
    "receive 9 2" ∷
    "receive 13 1" ∷
    "split 24" ∷
    "split 25" ∷
    "stop 13 0 01" ∷
    "show order" ∷
    "stop 25 0 00" ∷
    "request 9 inc \"a\" 9223372036854775807; put \"b\" 53; put \"z\" 55 ? get \"y\"" ∷
    "gather" ∷
    "gather" ∷
    "gather" ∷
    "split 9" ∷
    "merge 9 24" ∷
    "request 9 cas \"x\" 35 72 ? get \"x\"" ∷
    "end" ∷
    [])
    ≡ written (
    "= 1" ∷
    "5 NonPrim - g0 w0 p0@0{5,9,13,24,25} a0 v- y- r[] o[] x{} b0" ∷
    "9 NonPrim - g0 w0 p0@0{5,9,13,24,25} a0 v- y- r[] o[] x{} b0" ∷
    "13 NonPrim - g0 w0 p0@0{5,9,13,24,25} a0 v- y- r[] o[] x{} b0" ∷
    "24 NonPrim - g0 w0 p0@0{5,9,13,24,25} a0 v- y- r[] o[] x{} b0" ∷
    "25 NonPrim - g0 w0 p0@0{5,9,13,24,25} a0 v- y- r[] o[] x{} b0" ∷
    "= 2" ∷
    "5 ExchangeStates c1 g0 w0 p0@0{5,9,13,24,25} a0 v- y- r[] o[] x{} b0" ∷
    "9 ExchangeStates c1 g0 w0 p0@0{5,9,13,24,25} a0 v- y- r[] o[] x{} b0" ∷
    "13 ExchangeStates c1 g0 w0 p0@0{5,9,13,24,25} a0 v- y- r[] o[] x{} b0" ∷
    "24 ExchangeStates c1 g0 w0 p0@0{5,9,13,24,25} a0 v- y- r[] o[] x{} b0" ∷
    "25 ExchangeStates c1 g0 w0 p0@0{5,9,13,24,25} a0 v- y- r[] o[] x{} b0" ∷
    "= 4" ∷
    "5 Construct c1 g0 w0 p0@0{5,9,13,24,25} a1 v1/0{5,9,13,24,25}{5} y- r[] o[] x{} b0" ∷
    "= 5" ∷
    "9 Construct c1 g0 w0 p0@0{5,9,13,24,25} a1 v1/0{5,9,13,24,25}{9} y- r[] o[] x{} b0" ∷
    "= 6" ∷
    "13 Construct c1 g0 w0 p0@0{5,9,13,24,25} a1 v1/0{5,9,13,24,25}{13} y- r[] o[] x{} b0" ∷
    "= 7" ∷
    "24 Construct c1 g0 w0 p0@0{5,9,13,24,25} a1 v1/0{5,9,13,24,25}{24} y- r[] o[] x{} b0" ∷
    "= 8" ∷
    "25 Construct c1 g0 w0 p0@0{5,9,13,24,25} a1 v1/0{5,9,13,24,25}{25} y- r[] o[] x{} b0" ∷
    "= 10" ∷
    "5 RegPrim c1 g0 w0 p1@1{5,9,13,24,25} a0 v1/0{5,9,13,24,25}{5} y- r[] o[] x{} b0" ∷
    "= 11" ∷
    "9 RegPrim c1 g0 w0 p1@1{5,9,13,24,25} a0 v1/0{5,9,13,24,25}{9} y- r[] o[] x{} b0" ∷
    "= 12" ∷
    "13 RegPrim c1 g0 w0 p1@1{5,9,13,24,25} a0 v1/0{5,9,13,24,25}{13} y- r[] o[] x{} b0" ∷
    "= 13" ∷
    "24 RegPrim c1 g0 w0 p1@1{5,9,13,24,25} a0 v1/0{5,9,13,24,25}{24} y- r[] o[] x{} b0" ∷
    "= 14" ∷
    "25 RegPrim c1 g0 w0 p1@1{5,9,13,24,25} a0 v1/0{5,9,13,24,25}{25} y- r[] o[] x{} b0" ∷
    "= 15" ∷
    "13 TransPrim t1 g0 w0 p1@1{5,9,13,24,25} a0 v1/0{5,9,13,24,25}{13} y- r[] o[] x{} b0" ∷
    "= 16" ∷
    "made 9:1 inc \"a\" -9223372036854775808" ∷
    "9 RegPrim c1 g0 w0 p1@1{5,9,13,24,25} a0 v1/0{5,9,13,24,25}{9} y- r[] o[9:1] x{} b0" ∷
    "= 18" ∷
    "made 9:2 put \"b\" 7 ? get \"z\"" ∷
    "9 RegPrim c1 g0 w0 p1@1{5,9,13,24,25} a0 v1/0{5,9,13,24,25}{9} y- r[] o[9:1,9:2] x{} b0" ∷
    "= 19" ∷
    "made 25:1 put \"a\" -2; inc \"b\" 6; inc \"ab\" -9223372036854775808" ∷
    "25 RegPrim c1 g0 w0 p1@1{5,9,13,24,25} a0 v1/0{5,9,13,24,25}{25} y- r[] o[25:1] x{} b0" ∷
    "= 23" ∷
    "5 TransPrim t1 g0 w0 p1@1{5,9,13,24,25} a0 v1/0{5,9,13,24,25}{5} y?[25:1,9:1,9:2] r[] o[] x{} b0" ∷
    "9 TransPrim t1 g0 w0 p1@1{5,9,13,24,25} a0 v1/0{5,9,13,24,25}{9} y?[25:1,9:1,9:2] r[] o[] x{} b0" ∷
    "24 TransPrim t1 g0 w0 p1@1{5,9,13,24,25} a0 v1/0{5,9,13,24,25}{24} y?[25:1,9:1,9:2] r[] o[] x{} b0" ∷
    "25 TransPrim t1 g0 w0 p1@1{5,9,13,24,25} a0 v1/0{5,9,13,24,25}{25} y?[25:1,9:1,9:2] r[] o[] x{} b0" ∷
    "refused 13 8 5" ∷
    [])
unfolding cases_compute
five_replicas_yellow_actions_crash_in_a_device_call_a = refl

-- Replicas at the start: 5: yellow actions pass through an exchange; a crash strikes inside a device call.
five_replicas_yellow_actions_crash_in_a_device_call_b :
    replayed_text (
    "start 1 2 3 4 5" ∷
    "merge 1 2 3 4 5" ∷
    "rounds 3" ∷
    "request 5 inc \"k1\" 9; del \"b\"" ∷
    "rounds 4" ∷
    "request 4 inc \"z\" 5" ∷
    "weak 4 count" ∷
    "request 4 inc \"z\" 6" ∷
    "rounds 3" ∷
    "request 4 inc \"abc\" 7" ∷
    "request 3 cas \"b\" absent 80; inc \"b\" 5; put \"a\" 66 ? count" ∷
    "request 2 put \"a\" 81; put \"x\" 79; inc \"abc\" 3; put \"k1\" 3" ∷
    "request 4 need \"b\" 80" ∷
    "order 2" ∷
    "receive 4 14" ∷
    "order 3" ∷
    "split 1 3 4" ∷
    "fail 1 4" ∷
    "rounds 1" ∷
    "request 2 put \"z\" -4 ? count" ∷
    "merge 1 3 4" ∷
    "dirty 4 get \"a\"" ∷
    "request 2 inc \"ab\" 9" ∷
    "split 2" ∷
    "split 3 4" ∷
    "merge 3 4" ∷
    "order 3" ∷
    "receive 4 1" ∷
    "gather" ∷
    "end" ∷
    [])
    ≡ written (
    "= 1" ∷
    "1 NonPrim - g0 w0 p0@0{1,2,3,4,5} a0 v- y- r[] o[] x{} b0" ∷
    "2 NonPrim - g0 w0 p0@0{1,2,3,4,5} a0 v- y- r[] o[] x{} b0" ∷
    "3 NonPrim - g0 w0 p0@0{1,2,3,4,5} a0 v- y- r[] o[] x{} b0" ∷
    "4 NonPrim - g0 w0 p0@0{1,2,3,4,5} a0 v- y- r[] o[] x{} b0" ∷
    "5 NonPrim - g0 w0 p0@0{1,2,3,4,5} a0 v- y- r[] o[] x{} b0" ∷
    "= 2" ∷
    "1 ExchangeStates c1 g0 w0 p0@0{1,2,3,4,5} a0 v- y- r[] o[] x{} b0" ∷
    "2 ExchangeStates c1 g0 w0 p0@0{1,2,3,4,5} a0 v- y- r[] o[] x{} b0" ∷
    "3 ExchangeStates c1 g0 w0 p0@0{1,2,3,4,5} a0 v- y- r[] o[] x{} b0" ∷
    "4 ExchangeStates c1 g0 w0 p0@0{1,2,3,4,5} a0 v- y- r[] o[] x{} b0" ∷
    "5 ExchangeStates c1 g0 w0 p0@0{1,2,3,4,5} a0 v- y- r[] o[] x{} b0" ∷
    "= 4" ∷
    "1 Construct c1 g0 w0 p0@0{1,2,3,4,5} a1 v1/0{1,2,3,4,5}{1} y- r[] o[] x{} b0" ∷
    "= 5" ∷
    "2 Construct c1 g0 w0 p0@0{1,2,3,4,5} a1 v1/0{1,2,3,4,5}{2} y- r[] o[] x{} b0" ∷
    "= 6" ∷
    "3 Construct c1 g0 w0 p0@0{1,2,3,4,5} a1 v1/0{1,2,3,4,5}{3} y- r[] o[] x{} b0" ∷
    "= 7" ∷
    "4 Construct c1 g0 w0 p0@0{1,2,3,4,5} a1 v1/0{1,2,3,4,5}{4} y- r[] o[] x{} b0" ∷
    "= 8" ∷
    "5 Construct c1 g0 w0 p0@0{1,2,3,4,5} a1 v1/0{1,2,3,4,5}{5} y- r[] o[] x{} b0" ∷
    "= 10" ∷
    "1 RegPrim c1 g0 w0 p1@1{1,2,3,4,5} a0 v1/0{1,2,3,4,5}{1} y- r[] o[] x{} b0" ∷
    "= 11" ∷
    "2 RegPrim c1 g0 w0 p1@1{1,2,3,4,5} a0 v1/0{1,2,3,4,5}{2} y- r[] o[] x{} b0" ∷
    "= 12" ∷
    "3 RegPrim c1 g0 w0 p1@1{1,2,3,4,5} a0 v1/0{1,2,3,4,5}{3} y- r[] o[] x{} b0" ∷
    "= 13" ∷
    "4 RegPrim c1 g0 w0 p1@1{1,2,3,4,5} a0 v1/0{1,2,3,4,5}{4} y- r[] o[] x{} b0" ∷
    "= 14" ∷
    "5 RegPrim c1 g0 w0 p1@1{1,2,3,4,5} a0 v1/0{1,2,3,4,5}{5} y- r[] o[] x{} b0" ∷
    "= 16" ∷
    "made 5:1 inc \"k1\" 9; del \"b\"" ∷
    "5 RegPrim c1 g0 w0 p1@1{1,2,3,4,5} a0 v1/0{1,2,3,4,5}{5} y- r[] o[5:1] x{} b0" ∷
    "= 18" ∷
    "order 1 5:1" ∷
    "1 RegPrim c1 g1 w0 p1@1{1,2,3,4,5} a0 v1/0{1,2,3,4,5}{1} y- r[] o[] x{} b0" ∷
    "= 19" ∷
    "2 RegPrim c1 g1 w0 p1@1{1,2,3,4,5} a0 v1/0{1,2,3,4,5}{2} y- r[] o[] x{} b0" ∷
    "= 20" ∷
    "3 RegPrim c1 g1 w0 p1@1{1,2,3,4,5} a0 v1/0{1,2,3,4,5}{3} y- r[] o[] x{} b0" ∷
    "= 21" ∷
    "4 RegPrim c1 g1 w0 p1@1{1,2,3,4,5} a0 v1/0{1,2,3,4,5}{4} y- r[] o[] x{} b0" ∷
    "= 22" ∷
    "5 RegPrim c1 g1 w0 p1@1{1,2,3,4,5} a0 v1/0{1,2,3,4,5}{5} y- r[] o[] x{} b0" ∷
    "reply 5:1 done" ∷
    "= 26" ∷
    "made 4:1 inc \"z\" 5" ∷
    "4 RegPrim c1 g1 w0 p1@1{1,2,3,4,5} a0 v1/0{1,2,3,4,5}{4} y- r[] o[4:1] x{} b0" ∷
    "= 27" ∷
    "weak 4 count 1" ∷
    "= 28" ∷
    "made 4:2 inc \"z\" 6" ∷
    "4 RegPrim c1 g1 w0 p1@1{1,2,3,4,5} a0 v1/0{1,2,3,4,5}{4} y- r[] o[4:1,4:2] x{} b0" ∷
    "= 30" ∷
    "order 2 4:1" ∷
    "order 3 4:2" ∷
    "1 RegPrim c1 g3 w0 p1@1{1,2,3,4,5} a0 v1/0{1,2,3,4,5}{1} y- r[] o[] x{} b0" ∷
    "= 31" ∷
    "2 RegPrim c1 g3 w0 p1@1{1,2,3,4,5} a0 v1/0{1,2,3,4,5}{2} y- r[] o[] x{} b0" ∷
    "= 32" ∷
    "3 RegPrim c1 g3 w0 p1@1{1,2,3,4,5} a0 v1/0{1,2,3,4,5}{3} y- r[] o[] x{} b0" ∷
    "= 33" ∷
    "4 RegPrim c1 g3 w0 p1@1{1,2,3,4,5} a0 v1/0{1,2,3,4,5}{4} y- r[] o[] x{} b0" ∷
    "reply 4:1 done" ∷
    "reply 4:2 done" ∷
    "= 34" ∷
    "5 RegPrim c1 g3 w0 p1@1{1,2,3,4,5} a0 v1/0{1,2,3,4,5}{5} y- r[] o[] x{} b0" ∷
    "= 37" ∷
    "made 4:3 inc \"abc\" 7" ∷
    "4 RegPrim c1 g3 w0 p1@1{1,2,3,4,5} a0 v1/0{1,2,3,4,5}{4} y- r[] o[4:3] x{} b0" ∷
    "= 38" ∷
    "made 3:1 cas \"b\" absent 80; inc \"b\" 5; put \"a\" 66 ? count" ∷
    "3 RegPrim c1 g3 w0 p1@1{1,2,3,4,5} a0 v1/0{1,2,3,4,5}{3} y- r[] o[3:1] x{} b0" ∷
    "= 39" ∷
    "made 2:1 put \"a\" 81; put \"x\" 79; inc \"abc\" 3; put \"k1\" 3" ∷
    "2 RegPrim c1 g3 w0 p1@1{1,2,3,4,5} a0 v1/0{1,2,3,4,5}{2} y- r[] o[2:1] x{} b0" ∷
    "= 40" ∷
    "made 4:4 need \"b\" 80" ∷
    "4 RegPrim c1 g3 w0 p1@1{1,2,3,4,5} a0 v1/0{1,2,3,4,5}{4} y- r[] o[4:3,4:4] x{} b0" ∷
    "= 44" ∷
    "1 TransPrim t1 g3 w0 p1@1{1,2,3,4,5} a0 v1/0{1,2,3,4,5}{1} y?[2:1,3:1] r[] o[] x{} b0" ∷
    "3 TransPrim t1 g3 w0 p1@1{1,2,3,4,5} a0 v1/0{1,2,3,4,5}{3} y?[2:1,3:1] r[] o[] x{} b0" ∷
    "4 TransPrim t1 g3 w0 p1@1{1,2,3,4,5} a0 v1/0{1,2,3,4,5}{4} y?[2:1,3:1] r[] o[4:3,4:4] x{} b0" ∷
    "= 47" ∷
    "made 2:2 put \"z\" -4 ? count" ∷
    "2 RegPrim c1 g3 w0 p1@1{1,2,3,4,5} a0 v1/0{1,2,3,4,5}{2} y- r[] o[2:1,2:2] x{} b0" ∷
    "= 48" ∷
    "1 Down" ∷
    "3 ExchangeStates c2 g3 w0 p1@1{1,2,3,4,5} a0 v- y![2:1,3:1] r[] o[] x{} b0" ∷
    "4 ExchangeStates c2 g3 w0 p1@1{1,2,3,4,5} a0 v- y![2:1,3:1] r[4:3,4:4] o[] x{} b0" ∷
    "= 49" ∷
    "dirty 4 66" ∷
    "= 50" ∷
    "made 2:3 inc \"ab\" 9" ∷
    "2 RegPrim c1 g3 w0 p1@1{1,2,3,4,5} a0 v1/0{1,2,3,4,5}{2} y- r[] o[2:1,2:2,2:3] x{} b0" ∷
    "= 51" ∷
    "2 TransPrim t1 g3 w0 p1@1{1,2,3,4,5} a0 v1/0{1,2,3,4,5}{2} y?[2:1,3:1] r[] o[2:2,2:3] x{} b0" ∷
    "= 52" ∷
    "3 NonPrim t2 g3 w0 p1@1{1,2,3,4,5} a0 v- y![2:1,3:1] r[] o[] x{} b0" ∷
    "4 NonPrim t2 g3 w0 p1@1{1,2,3,4,5} a0 v- y![2:1,3:1] r[4:3,4:4] o[] x{} b0" ∷
    "= 53" ∷
    "3 ExchangeStates c3 g3 w0 p1@1{1,2,3,4,5} a0 v- y![2:1,3:1] r[] o[] x{} b0" ∷
    "4 ExchangeStates c3 g3 w0 p1@1{1,2,3,4,5} a0 v- y![2:1,3:1] r[4:3,4:4] o[] x{} b0" ∷
    "end 56" ∷
    [])
unfolding cases_compute
five_replicas_yellow_actions_crash_in_a_device_call_b = refl

-- Replicas at the start: 5: yellow actions pass through an exchange; a crash strikes inside a device call.
five_replicas_yellow_actions_crash_in_a_device_call_c :
    replayed_text (
    "start 1 2 3 4 5" ∷
    "merge 1 2 3 4 5" ∷
    "rounds 1" ∷
    "request 5 inc \"y\" 9223372036854775807; need \"k2\" absent; del \"a\"" ∷
    "gather" ∷
    "deliver 5 2" ∷
    "deliver 3 5" ∷
    "deliver 4 5" ∷
    "deliver 5 1" ∷
    "gather" ∷
    "gather" ∷
    "gather" ∷
    "deliver 5 2" ∷
    "request 3 inc \"abc\" 9; inc \"abc\" 11" ∷
    "deliver 1 2" ∷
    "request 3 inc \"b\" 5; cas \"a\" absent 62 ? get \"b\"" ∷
    "order 5" ∷
    "deliver 2 1" ∷
    "request 5 move \"y\" \"y\" 1; put \"b\" 0" ∷
    "deliver 2 4" ∷
    "order 3" ∷
    "gather" ∷
    "request 5 put \"abc\" 33 ? get \"ab\"" ∷
    "stop 5 4 -" ∷
    "split 1 3 4" ∷
    "split 2 5" ∷
    "merge 1 3 4" ∷
    "merge 2" ∷
    "order 2" ∷
    "deliver 2 1" ∷
    "gather" ∷
    "request 2 del \"y\"" ∷
    "deliver 1 3" ∷
    "deliver 4 3" ∷
    "show 4" ∷
    "split 1 3 4" ∷
    "request 1 inc \"abc\" 7; need \"a\" \"TTTTTTTTTTTTTTTTTTTTTTTTTTTTTTTTTTTTTTTTTTTTTTTTTTTTTTTTTTTTTTTTTTTTTTTTTTTTTTTTTTTTTTTTTTTTTTTTTTTTTTTTTTTTTTTTTTTTTTTTTTTTTTTTTTTTTTTTTTTTTTTTTTTTTTTTTTTTTTTTTTTTTTTTTTTTTTTTTTTTTTTTTTTTTTTTTTTTTTTTTTTTTTTTTTTTTTTTTTTTTTTTTTTTTTTTTTTTTTTTTTTTTTTTTTTTTTTTTTTTTTTTTTTTTTTTTTTTTTTTTTTTTTTTTTTTTTTTTTTTTTTTTTTTTTTTTTTTTTTTTTTTTTTTTTTTTTTTTTTTTTTTTTTTTTTTTTTTTTTTTTTTTTTTTTTTTTTTTTTTTTTTTTTTTTTTTTTTTTTTTTTTTTTTTTTTTTTTTTTTTTTTTTTTTTTTTTTTTTTTTTTTTTTTTTTTTTTTTTTTTTTTTTTTTTTTTTTTTTTTTTTTTTTTTTTTTTTTTTTTTTTTTTTTTTTTTTTTTTTTTTTTTTTTTTTTTTTTTTTTTTTTTTTTTTTTTTTTTTTTTTTTTTTTTTTTTTTTTTTTTTTTTTTTTTTTTTTTTTTTTTTTTTTTTTTTTTTTTTTTTTTTTTTTTTTTTTTTTTTTTTTTTTTTTTTTTTTTTTTTTTTTTTTTTTTTTTTTTTTTTTTTTTTTTTTTTTTTTTTTTTTTTTTTTTTTTTTTTTTTTTTTTTTTTTTTTTTTTTTTTTTTTTTTTTTTTTTTTTTTTTTTTTTTTTTTTTTTTTTTTTTTTTTTTTTTTTTTTTTTTTTTTTTTTTTTTTTTTTTTTTTTTTTTTTTTTTTTTTTTTTTTTTTTTTTTTTTTTTTTTTTTTTTTTTTTTTTTTTTTTTTTTTTTTTTTTTTTTTTTTTTTTTTTTTTTTTTTTTTTTTTTTTTTTTTTTTTTTTTTTTTTTTTTTTTTTTTTTTTTTTTTTTTTTTTTTTTTTTTTTTTTTTTTTTTTTTTTTTTTTTTTTTTTTTTTTTTTTTTTTTTT\" ? keys \"a\"" ∷
    "request 1 cas \"a\" absent 12; need \"a\" absent" ∷
    "gather" ∷
    "split 2" ∷
    "merge 1 3 4" ∷
    "gather" ∷
    "merge 2" ∷
    "request 3 del \"y\" ? get \"x\"" ∷
    "gather" ∷
    "leave 2 1" ∷
    "deliver 4 3" ∷
    "gather" ∷
    "split 1 3 4" ∷
    "recover 5" ∷
    "split 2" ∷
    "merge 1 2 3 4 5" ∷
    "rounds 1" ∷
    "end" ∷
    [])
    ≡ written (
    "= 1" ∷
    "1 NonPrim - g0 w0 p0@0{1,2,3,4,5} a0 v- y- r[] o[] x{} b0" ∷
    "2 NonPrim - g0 w0 p0@0{1,2,3,4,5} a0 v- y- r[] o[] x{} b0" ∷
    "3 NonPrim - g0 w0 p0@0{1,2,3,4,5} a0 v- y- r[] o[] x{} b0" ∷
    "4 NonPrim - g0 w0 p0@0{1,2,3,4,5} a0 v- y- r[] o[] x{} b0" ∷
    "5 NonPrim - g0 w0 p0@0{1,2,3,4,5} a0 v- y- r[] o[] x{} b0" ∷
    "= 2" ∷
    "1 ExchangeStates c1 g0 w0 p0@0{1,2,3,4,5} a0 v- y- r[] o[] x{} b0" ∷
    "2 ExchangeStates c1 g0 w0 p0@0{1,2,3,4,5} a0 v- y- r[] o[] x{} b0" ∷
    "3 ExchangeStates c1 g0 w0 p0@0{1,2,3,4,5} a0 v- y- r[] o[] x{} b0" ∷
    "4 ExchangeStates c1 g0 w0 p0@0{1,2,3,4,5} a0 v- y- r[] o[] x{} b0" ∷
    "5 ExchangeStates c1 g0 w0 p0@0{1,2,3,4,5} a0 v- y- r[] o[] x{} b0" ∷
    "= 4" ∷
    "1 Construct c1 g0 w0 p0@0{1,2,3,4,5} a1 v1/0{1,2,3,4,5}{1} y- r[] o[] x{} b0" ∷
    "= 5" ∷
    "2 Construct c1 g0 w0 p0@0{1,2,3,4,5} a1 v1/0{1,2,3,4,5}{2} y- r[] o[] x{} b0" ∷
    "= 6" ∷
    "3 Construct c1 g0 w0 p0@0{1,2,3,4,5} a1 v1/0{1,2,3,4,5}{3} y- r[] o[] x{} b0" ∷
    "= 7" ∷
    "4 Construct c1 g0 w0 p0@0{1,2,3,4,5} a1 v1/0{1,2,3,4,5}{4} y- r[] o[] x{} b0" ∷
    "= 8" ∷
    "5 Construct c1 g0 w0 p0@0{1,2,3,4,5} a1 v1/0{1,2,3,4,5}{5} y- r[] o[] x{} b0" ∷
    "= 9" ∷
    "5 Construct c1 g0 w0 p0@0{1,2,3,4,5} a1 v1/0{1,2,3,4,5}{5} y- r[] o[] x{} b1" ∷
    "= 12" ∷
    "3 RegPrim c1 g0 w0 p1@1{1,2,3,4,5} a0 v1/0{1,2,3,4,5}{3} y- r[] o[] x{} b0" ∷
    "= 13" ∷
    "4 RegPrim c1 g0 w0 p1@1{1,2,3,4,5} a0 v1/0{1,2,3,4,5}{4} y- r[] o[] x{} b0" ∷
    "= 18" ∷
    "made 5:1 inc \"y\" 9223372036854775807; need \"k2\" absent; del \"a\"" ∷
    "5 RegPrim c1 g0 w0 p1@1{1,2,3,4,5} a0 v1/0{1,2,3,4,5}{5} y- r[] o[5:1] x{} b0" ∷
    "= 19" ∷
    "made 3:1 inc \"abc\" 9; inc \"abc\" 11" ∷
    "3 RegPrim c1 g0 w0 p1@1{1,2,3,4,5} a0 v1/0{1,2,3,4,5}{3} y- r[] o[3:1] x{} b0" ∷
    "= 21" ∷
    "made 3:2 inc \"b\" 5; cas \"a\" absent 62 ? get \"b\"" ∷
    "3 RegPrim c1 g0 w0 p1@1{1,2,3,4,5} a0 v1/0{1,2,3,4,5}{3} y- r[] o[3:1,3:2] x{} b0" ∷
    "= 24" ∷
    "made 5:2 move \"y\" \"y\" 1; put \"b\" 0" ∷
    "5 RegPrim c1 g0 w0 p1@1{1,2,3,4,5} a0 v1/0{1,2,3,4,5}{5} y- r[] o[5:1,5:2] x{} b0" ∷
    "= 25" ∷
    "2 RegPrim c1 g0 w0 p1@1{1,2,3,4,5} a0 v1/0{1,2,3,4,5}{2} y- r[] o[] x{} b0" ∷
    "= 28" ∷
    "made 5:3 put \"abc\" 33 ? get \"ab\"" ∷
    "5 RegPrim c1 g0 w0 p1@1{1,2,3,4,5} a0 v1/0{1,2,3,4,5}{5} y- r[] o[5:1,5:2,5:3] x{} b0" ∷
    "= 30" ∷
    "1 TransPrim t1 g0 w0 p1@1{1,2,3,4,5} a0 v1/0{1,2,3,4,5}{1} y?[5:1,3:1,3:2,5:2] r[] o[] x{} b0" ∷
    "3 TransPrim t1 g0 w0 p1@1{1,2,3,4,5} a0 v1/0{1,2,3,4,5}{3} y?[5:1,3:1,3:2,5:2] r[] o[] x{} b0" ∷
    "4 TransPrim t1 g0 w0 p1@1{1,2,3,4,5} a0 v1/0{1,2,3,4,5}{4} y?[5:1,3:1,3:2,5:2] r[] o[] x{} b0" ∷
    "= 31" ∷
    "2 TransPrim t1 g0 w0 p1@1{1,2,3,4,5} a0 v1/0{1,2,3,4,5}{2} y?[5:1,3:1,3:2,5:2] r[] o[] x{} b0" ∷
    "5 Down" ∷
    "= 32" ∷
    "1 ExchangeStates c2 g0 w0 p1@1{1,2,3,4,5} a0 v- y![5:1,3:1,3:2,5:2] r[] o[] x{} b0" ∷
    "3 ExchangeStates c2 g0 w0 p1@1{1,2,3,4,5} a0 v- y![5:1,3:1,3:2,5:2] r[] o[] x{} b0" ∷
    "4 ExchangeStates c2 g0 w0 p1@1{1,2,3,4,5} a0 v- y![5:1,3:1,3:2,5:2] r[] o[] x{} b0" ∷
    "= 33" ∷
    "2 ExchangeStates c3 g0 w0 p1@1{1,2,3,4,5} a0 v- y![5:1,3:1,3:2,5:2] r[] o[] x{} b0" ∷
    "= 35" ∷
    "2 NonPrim c3 g0 w0 p1@1{1,2,3,4,5} a0 v- y![5:1,3:1,3:2,5:2] r[] o[] x{} b0" ∷
    "= 37" ∷
    "made 2:1 del \"y\"" ∷
    "2 NonPrim c3 g0 w0 p1@1{1,2,3,4,5} a0 v- y![5:1,3:1,3:2,5:2] r[] o[2:1] x{} b0" ∷
    "= 38" ∷
    "1 Construct c2 g0 w0 p1@1{1,2,3,4,5} a1 v2/1{1,3,4}{1} y![5:1,3:1,3:2,5:2] r[] o[] x{} b0" ∷
    "= 39" ∷
    "4 Construct c2 g0 w0 p1@1{1,2,3,4,5} a1 v2/1{1,3,4}{4} y![5:1,3:1,3:2,5:2] r[] o[] x{} b0" ∷
    "= 40" ∷
    "greens 4 []" ∷
    "db 4" ∷
    "= 41" ∷
    "1 No t2 g0 w0 p1@1{1,2,3,4,5} a1 v2/1{1,3,4}{1} y![5:1,3:1,3:2,5:2] r[] o[] x{} b0" ∷
    "3 No t2 g0 w0 p1@1{1,2,3,4,5} a1 v2/1{1,3,4}{3} y![5:1,3:1,3:2,5:2] r[] o[] x{} b0" ∷
    "4 No t2 g0 w0 p1@1{1,2,3,4,5} a1 v2/1{1,3,4}{4} y![5:1,3:1,3:2,5:2] r[] o[] x{} b0" ∷
    "= 42" ∷
    "1 No t2 g0 w0 p1@1{1,2,3,4,5} a1 v2/1{1,3,4}{1} y![5:1,3:1,3:2,5:2] r[] o[] x{} b1" ∷
    "= 43" ∷
    "1 No t2 g0 w0 p1@1{1,2,3,4,5} a1 v2/1{1,3,4}{1} y![5:1,3:1,3:2,5:2] r[] o[] x{} b2" ∷
    "= 45" ∷
    "2 NonPrim t3 g0 w0 p1@1{1,2,3,4,5} a0 v- y![5:1,3:1,3:2,5:2] r[2:1] o[] x{} b0" ∷
    "= 46" ∷
    "1 ExchangeStates c4 g0 w0 p1@1{1,2,3,4,5} a1 v- y![5:1,3:1,3:2,5:2] r[] o[] x{} b2" ∷
    "3 ExchangeStates c4 g0 w0 p1@1{1,2,3,4,5} a1 v- y![5:1,3:1,3:2,5:2] r[] o[] x{} b0" ∷
    "4 ExchangeStates c4 g0 w0 p1@1{1,2,3,4,5} a1 v- y![5:1,3:1,3:2,5:2] r[] o[] x{} b0" ∷
    "= 48" ∷
    "2 ExchangeStates c5 g0 w0 p1@1{1,2,3,4,5} a0 v- y![5:1,3:1,3:2,5:2] r[2:1] o[] x{} b0" ∷
    "= 49" ∷
    "3 ExchangeStates c4 g0 w0 p1@1{1,2,3,4,5} a1 v- y![5:1,3:1,3:2,5:2] r[] o[] x{} b1" ∷
    "= 51" ∷
    "2 ExchangeStates c5 g0 w0 p1@1{1,2,3,4,5} a0 v- y![5:1,3:1,3:2,5:2] r[2:1] o[] x{} b1" ∷
    "= 52" ∷
    "4 Construct c4 g0 w0 p1@1{1,2,3,4,5} a2 v4/1{1,3,4}{4} y![5:1,3:1,3:2,5:2] r[] o[] x{} b0" ∷
    "= 54" ∷
    "1 No t4 g0 w0 p1@1{1,2,3,4,5} a2 v4/1{1,3,4}{1} y![5:1,3:1,3:2,5:2] r[] o[] x{} b2" ∷
    "3 No t4 g0 w0 p1@1{1,2,3,4,5} a2 v4/1{1,3,4}{3} y![5:1,3:1,3:2,5:2] r[] o[] x{} b1" ∷
    "4 No t4 g0 w0 p1@1{1,2,3,4,5} a2 v4/1{1,3,4}{4} y![5:1,3:1,3:2,5:2] r[] o[] x{} b0" ∷
    "= 55" ∷
    "5 NonPrim - g0 w0 p1@1{1,2,3,4,5} a0 v1/0{1,2,3,4,5}{5} y- r[5:1,5:2,5:3] o[] x{} b0" ∷
    "= 56" ∷
    "2 NonPrim t5 g0 w0 p1@1{1,2,3,4,5} a0 v- y![5:1,3:1,3:2,5:2] r[2:1] o[] x{} b1" ∷
    "= 57" ∷
    "1 ExchangeStates c6 g0 w0 p1@1{1,2,3,4,5} a2 v- y![5:1,3:1,3:2,5:2] r[] o[] x{} b2" ∷
    "2 ExchangeStates c6 g0 w0 p1@1{1,2,3,4,5} a0 v- y![5:1,3:1,3:2,5:2] r[2:1] o[] x{} b1" ∷
    "3 ExchangeStates c6 g0 w0 p1@1{1,2,3,4,5} a2 v- y![5:1,3:1,3:2,5:2] r[] o[] x{} b1" ∷
    "4 ExchangeStates c6 g0 w0 p1@1{1,2,3,4,5} a2 v- y![5:1,3:1,3:2,5:2] r[] o[] x{} b0" ∷
    "5 ExchangeStates c6 g0 w0 p1@1{1,2,3,4,5} a0 v1/0{1,2,3,4,5}{5} y- r[5:1,5:2,5:3] o[] x{} b0" ∷
    "= 59" ∷
    "1 ExchangeActions c6 g0 w0 p1@1{1,2,3,4,5} a2 v- y![5:1,3:1,3:2,5:2] r[] o[] x{} b2" ∷
    "= 60" ∷
    "2 ExchangeActions c6 g0 w0 p1@1{1,2,3,4,5} a0 v- y![5:1,3:1,3:2,5:2] r[2:1] o[] x{} b1" ∷
    "= 61" ∷
    "3 ExchangeActions c6 g0 w0 p1@1{1,2,3,4,5} a2 v- y![5:1,3:1,3:2,5:2] r[] o[] x{} b1" ∷
    "= 62" ∷
    "4 ExchangeActions c6 g0 w0 p1@1{1,2,3,4,5} a2 v- y![5:1,3:1,3:2,5:2] r[] o[] x{} b0" ∷
    "= 63" ∷
    "5 ExchangeActions c6 g0 w0 p1@1{1,2,3,4,5} a0 v1/0{1,2,3,4,5}{5} y- r[5:1,5:2,5:3] o[] x{} b0" ∷
    "end 63" ∷
    [])
unfolding cases_compute
five_replicas_yellow_actions_crash_in_a_device_call_c = refl
