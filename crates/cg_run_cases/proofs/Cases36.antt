-- Cases of cases/ with their whole reports, which `.ci/theorems` writes down here.
use Rattle.std.specs.Prelude.{◌≡◌, [], ◌∷◌}
use mathlib.Core.Path.{refl}
use Rattle.cg_run_cases.specs.Replaying.{replayed_text, written}
use Rattle.cg_run_cases.specs.Computing.{cases_compute}

-- Replicas at the start: 2: a primary is lost in a partition, and after a merge red actions are ordered; a crash strikes inside a device call.
two_replicas_primary_lost_and_reds_ordered_crash_in_a_device_call_d :
    replayed_text (
    "start 1 2" ∷
    "merge 1 2" ∷
    "rounds 1" ∷
    "gather" ∷
    "rounds 2" ∷
    "request 1 put \"k1\" \"absent\"" ∷
    "split 1 2" ∷
    "merge 1 2" ∷
    "rounds 1" ∷
    "gather" ∷
    "deliver 2 1" ∷
    "request 2 put \"z\" 9223372036854775807 ? get \"ab\"" ∷
    "deliver 1 1" ∷
    "order 2" ∷
    "rounds 1" ∷
    "stop 2 2 -" ∷
    "split 1" ∷
    "request 2 put \"abc\" 32" ∷
    "recover 2" ∷
    "merge 1 2" ∷
    "rounds 1" ∷
    "stop 2 6 01" ∷
    "gather" ∷
    "deliver 1 1" ∷
    "deliver 2 1" ∷
    "order 1" ∷
    "split 1 2" ∷
    "request 1 inc \"z\" 3 ? get \"z\"" ∷
    "merge 1 2" ∷
    "recover 2" ∷
    "split 1" ∷
    "merge 1 2" ∷
    "rounds 4" ∷
    "gather" ∷
    "rounds 2" ∷
    "show 2" ∷
    "split 1 2" ∷
    "merge 1 2" ∷
    "split 1 2" ∷
    "gather" ∷
    "gather" ∷
    "end" ∷
    [])
    ≡ written (
    "= 1" ∷
    "1 NonPrim - g0 w0 p0@0{1,2} a0 v- y- r[] o[] x{} b0" ∷
    "2 NonPrim - g0 w0 p0@0{1,2} a0 v- y- r[] o[] x{} b0" ∷
    "= 2" ∷
    "1 ExchangeStates c1 g0 w0 p0@0{1,2} a0 v- y- r[] o[] x{} b0" ∷
    "2 ExchangeStates c1 g0 w0 p0@0{1,2} a0 v- y- r[] o[] x{} b0" ∷
    "= 4" ∷
    "1 Construct c1 g0 w0 p0@0{1,2} a1 v1/0{1,2}{1} y- r[] o[] x{} b0" ∷
    "= 5" ∷
    "2 Construct c1 g0 w0 p0@0{1,2} a1 v1/0{1,2}{2} y- r[] o[] x{} b0" ∷
    "= 8" ∷
    "1 RegPrim c1 g0 w0 p1@1{1,2} a0 v1/0{1,2}{1} y- r[] o[] x{} b0" ∷
    "= 9" ∷
    "2 RegPrim c1 g0 w0 p1@1{1,2} a0 v1/0{1,2}{2} y- r[] o[] x{} b0" ∷
    "= 11" ∷
    "made 1:1 put \"k1\" \"absent\"" ∷
    "1 RegPrim c1 g0 w0 p1@1{1,2} a0 v1/0{1,2}{1} y- r[] o[1:1] x{} b0" ∷
    "= 12" ∷
    "1 TransPrim t1 g0 w0 p1@1{1,2} a0 v1/0{1,2}{1} y- r[] o[1:1] x{} b0" ∷
    "2 TransPrim t1 g0 w0 p1@1{1,2} a0 v1/0{1,2}{2} y- r[] o[] x{} b0" ∷
    "= 13" ∷
    "1 ExchangeStates c2 g0 w0 p1@1{1,2} a0 v- y![] r[1:1] o[] x{} b0" ∷
    "2 ExchangeStates c2 g0 w0 p1@1{1,2} a0 v- y![] r[] o[] x{} b0" ∷
    "= 15" ∷
    "1 ExchangeActions c2 g0 w0 p1@1{1,2} a0 v- y![] r[1:1] o[] x{} b0" ∷
    "= 16" ∷
    "2 ExchangeActions c2 g0 w0 p1@1{1,2} a0 v- y![] r[] o[] x{} b0" ∷
    "= 18" ∷
    "2 Construct c2 g0 w0 p1@1{1,2} a1 v2/1{1,2}{2} y![] r[1:1] o[] x{} b0" ∷
    "= 19" ∷
    "2 Construct c2 g0 w0 p1@1{1,2} a1 v2/1{1,2}{2} y![] r[1:1] o[] x{} b1" ∷
    "= 20" ∷
    "1 Construct c2 g0 w0 p1@1{1,2} a1 v2/1{1,2}{1} y![] r[1:1] o[] x{} b0" ∷
    "= 23" ∷
    "order 1 1:1" ∷
    "1 RegPrim c2 g1 w0 p2@2{1,2} a0 v2/1{1,2}{1} y- r[] o[] x{} b0" ∷
    "reply 1:1 done" ∷
    "= 24" ∷
    "made 2:1 put \"z\" 9223372036854775807 ? get \"ab\"" ∷
    "2 RegPrim c2 g1 w0 p2@2{1,2} a0 v2/1{1,2}{2} y- r[] o[2:1] x{} b0" ∷
    "= 26" ∷
    "1 TransPrim t2 g1 w0 p2@2{1,2} a0 v2/1{1,2}{1} y- r[] o[] x{} b0" ∷
    "= 27" ∷
    "2 Down" ∷
    "= 28" ∷
    "2 NonPrim - g1 w0 p2@2{1,2} a0 v2/1{1,2}{2} y- r[2:1] o[] x{} b0" ∷
    "= 29" ∷
    "1 ExchangeStates c3 g1 w0 p2@2{1,2} a0 v- y![] r[] o[] x{} b0" ∷
    "2 ExchangeStates c3 g1 w0 p2@2{1,2} a0 v2/1{1,2}{2} y- r[2:1] o[] x{} b0" ∷
    "= 31" ∷
    "1 ExchangeActions c3 g1 w0 p2@2{1,2} a0 v- y![] r[] o[] x{} b0" ∷
    "= 32" ∷
    "2 ExchangeActions c3 g1 w0 p2@2{1,2} a0 v2/1{1,2}{2} y- r[2:1] o[] x{} b0" ∷
    "= 35" ∷
    "1 Construct c3 g1 w0 p2@2{1,2} a1 v3/2{1,2}{1} y![] r[2:1] o[] x{} b0" ∷
    "= 36" ∷
    "2 Construct c3 g1 w0 p2@2{1,2} a1 v3/2{1,2}{2} y![] r[2:1] o[] x{} b0" ∷
    "= 38" ∷
    "1 No t3 g1 w0 p2@2{1,2} a1 v3/2{1,2}{1} y![] r[2:1] o[] x{} b0" ∷
    "2 No t3 g1 w0 p2@2{1,2} a1 v3/2{1,2}{2} y![] r[2:1] o[] x{} b0" ∷
    "= 39" ∷
    "1 No t3 g1 w0 p2@2{1,2} a1 v3/2{1,2}{1} y![] r[2:1] o[] x{} b1" ∷
    "= 40" ∷
    "1 ExchangeStates c4 g1 w0 p2@2{1,2} a1 v- y![] r[2:1] o[] x{} b1" ∷
    "2 Down" ∷
    "= 41" ∷
    "2 NonPrim - g1 w0 p2@2{1,2} a1 v3/2{1,2}{2} y![] r[2:1] o[] x{} b0" ∷
    "= 42" ∷
    "1 NonPrim t4 g1 w0 p2@2{1,2} a1 v- y![] r[2:1] o[] x{} b1" ∷
    "= 43" ∷
    "1 ExchangeStates c5 g1 w0 p2@2{1,2} a1 v- y![] r[2:1] o[] x{} b1" ∷
    "2 ExchangeStates c5 g1 w0 p2@2{1,2} a1 v3/2{1,2}{2} y![] r[2:1] o[] x{} b0" ∷
    "= 45" ∷
    "1 Construct c5 g1 w0 p2@2{1,2} a2 v5/2{1,2}{1} y![] r[2:1] o[] x{} b1" ∷
    "= 46" ∷
    "2 Construct c5 g1 w0 p2@2{1,2} a2 v5/2{1,2}{2} y![] r[2:1] o[] x{} b0" ∷
    "= 48" ∷
    "made 1:2 inc \"z\" 3 ? get \"z\"" ∷
    "order 2 2:1" ∷
    "1 RegPrim c5 g2 w0 p3@5{1,2} a0 v5/2{1,2}{1} y- r[] o[1:2] x{} b0" ∷
    "= 49" ∷
    "2 RegPrim c5 g2 w0 p3@5{1,2} a0 v5/2{1,2}{2} y- r[] o[] x{} b0" ∷
    "= 51" ∷
    "order 3 1:2" ∷
    "1 RegPrim c5 g3 w1 p3@5{1,2} a0 v5/2{1,2}{1} y- r[] o[] x{} b0" ∷
    "reply 1:2 range 1 ? 9223372036854775807" ∷
    "= 52" ∷
    "2 RegPrim c5 g3 w1 p3@5{1,2} a0 v5/2{1,2}{2} y- r[] o[] x{} b0" ∷
    "= 57" ∷
    "greens 2 [2:1,1:2]" ∷
    "db 2 \"k1\"=\"absent\" \"z\"=9223372036854775807" ∷
    "= 58" ∷
    "1 TransPrim t5 g3 w1 p3@5{1,2} a0 v5/2{1,2}{1} y- r[] o[] x{} b0" ∷
    "2 TransPrim t5 g3 w1 p3@5{1,2} a0 v5/2{1,2}{2} y- r[] o[] x{} b0" ∷
    "= 59" ∷
    "1 ExchangeStates c6 g3 w1 p3@5{1,2} a0 v- y![] r[] o[] x{} b0" ∷
    "2 ExchangeStates c6 g3 w1 p3@5{1,2} a0 v- y![] r[] o[] x{} b0" ∷
    "= 60" ∷
    "1 NonPrim t6 g3 w1 p3@5{1,2} a0 v- y![] r[] o[] x{} b0" ∷
    "2 NonPrim t6 g3 w1 p3@5{1,2} a0 v- y![] r[] o[] x{} b0" ∷
    "end 62" ∷
    [])
unfolding cases_compute
two_replicas_primary_lost_and_reds_ordered_crash_in_a_device_call_d = refl

-- Replicas at the start: 2: a primary is lost in a partition, and after a merge red actions are ordered; a crash strikes inside a device call.
two_replicas_primary_lost_and_reds_ordered_crash_in_a_device_call_e :
    replayed_text (
    "start 1 2" ∷
    "merge 1 2" ∷
    "rounds 2" ∷
    "request 1 inc \"z\" 10" ∷
    "split 1 2" ∷
    "merge 1 2" ∷
    "rounds 4" ∷
    "gather" ∷
    "stop 2 3 01017baa008c00010100000100e501015600004c11000001840001010101160001db010000015f3d" ∷
    "request 2 put \"abc\" 89" ∷
    "recover 2" ∷
    "merge 2" ∷
    "split 1" ∷
    "split 2" ∷
    "merge 2" ∷
    "gather" ∷
    "split 2" ∷
    "merge 1 2" ∷
    "rounds 3" ∷
    "split 1 2" ∷
    "merge 1 2" ∷
    "split 1" ∷
    "split 2" ∷
    "merge 2" ∷
    "leave 1 2" ∷
    "rounds 1" ∷
    "leave 1 2" ∷
    "dirty 2 get \"z\"" ∷
    "gather" ∷
    "show 1" ∷
    "split 2" ∷
    "merge 1 2" ∷
    "rounds 2" ∷
    "split 1 2" ∷
    "merge 1 2" ∷
    "order 1" ∷
    "request 2 put \"a\" 5; need \"z\" 82; put \"a\" 70 ? get \"ab\"" ∷
    "receive 2 1" ∷
    "request 1 cas \"y\" 6 57; put \"x\" 37; inc \"y\" 4; inc \"b\" 6; put \"b\" 47; put \"k1\" 22; move \"z\" \"b\" 5; inc \"z\" 2; put \"x\" -9223372036854775807; move \"ab\" \"z\" 9223372036854775807; del \"y\"; inc \"x\" 10; del \"x\"; inc \"x\" 12; inc \"ab\" -3; move \"z\" \"b\" 3" ∷
    "stop 1 12 01" ∷
    "request 1 put \"z\" 48; inc \"k1\" 11" ∷
    "request 1 put \"y\" 9223372036854775806 ? get \"z\"" ∷
    "request 1 inc \"y\" 1" ∷
    "split 1 2" ∷
    "merge 1 2" ∷
    "rounds 3" ∷
    "split 1 2" ∷
    "end" ∷
    [])
    ≡ written (
    "= 1" ∷
    "1 NonPrim - g0 w0 p0@0{1,2} a0 v- y- r[] o[] x{} b0" ∷
    "2 NonPrim - g0 w0 p0@0{1,2} a0 v- y- r[] o[] x{} b0" ∷
    "= 2" ∷
    "1 ExchangeStates c1 g0 w0 p0@0{1,2} a0 v- y- r[] o[] x{} b0" ∷
    "2 ExchangeStates c1 g0 w0 p0@0{1,2} a0 v- y- r[] o[] x{} b0" ∷
    "= 4" ∷
    "1 Construct c1 g0 w0 p0@0{1,2} a1 v1/0{1,2}{1} y- r[] o[] x{} b0" ∷
    "= 5" ∷
    "2 Construct c1 g0 w0 p0@0{1,2} a1 v1/0{1,2}{2} y- r[] o[] x{} b0" ∷
    "= 7" ∷
    "1 RegPrim c1 g0 w0 p1@1{1,2} a0 v1/0{1,2}{1} y- r[] o[] x{} b0" ∷
    "= 8" ∷
    "2 RegPrim c1 g0 w0 p1@1{1,2} a0 v1/0{1,2}{2} y- r[] o[] x{} b0" ∷
    "= 9" ∷
    "made 1:1 inc \"z\" 10" ∷
    "1 RegPrim c1 g0 w0 p1@1{1,2} a0 v1/0{1,2}{1} y- r[] o[1:1] x{} b0" ∷
    "= 10" ∷
    "1 TransPrim t1 g0 w0 p1@1{1,2} a0 v1/0{1,2}{1} y- r[] o[1:1] x{} b0" ∷
    "2 TransPrim t1 g0 w0 p1@1{1,2} a0 v1/0{1,2}{2} y- r[] o[] x{} b0" ∷
    "= 11" ∷
    "1 ExchangeStates c2 g0 w0 p1@1{1,2} a0 v- y![] r[1:1] o[] x{} b0" ∷
    "2 ExchangeStates c2 g0 w0 p1@1{1,2} a0 v- y![] r[] o[] x{} b0" ∷
    "= 13" ∷
    "1 ExchangeActions c2 g0 w0 p1@1{1,2} a0 v- y![] r[1:1] o[] x{} b0" ∷
    "= 14" ∷
    "2 ExchangeActions c2 g0 w0 p1@1{1,2} a0 v- y![] r[] o[] x{} b0" ∷
    "= 16" ∷
    "1 Construct c2 g0 w0 p1@1{1,2} a1 v2/1{1,2}{1} y![] r[1:1] o[] x{} b0" ∷
    "= 17" ∷
    "2 Construct c2 g0 w0 p1@1{1,2} a1 v2/1{1,2}{2} y![] r[1:1] o[] x{} b0" ∷
    "= 19" ∷
    "order 1 1:1" ∷
    "1 RegPrim c2 g1 w0 p2@2{1,2} a0 v2/1{1,2}{1} y- r[] o[] x{} b0" ∷
    "reply 1:1 done" ∷
    "= 20" ∷
    "2 RegPrim c2 g1 w0 p2@2{1,2} a0 v2/1{1,2}{2} y- r[] o[] x{} b0" ∷
    "= 24" ∷
    "2 Down" ∷
    "= 25" ∷
    "made 2:1 put \"abc\" 89" ∷
    "2 NonPrim - g1 w0 p2@2{1,2} a0 v2/1{1,2}{2} y- r[2:1] o[] x{} b0" ∷
    "= 26" ∷
    "2 ExchangeStates c3 g1 w0 p2@2{1,2} a0 v2/1{1,2}{2} y- r[2:1] o[] x{} b0" ∷
    "= 27" ∷
    "1 TransPrim t2 g1 w0 p2@2{1,2} a0 v2/1{1,2}{1} y- r[] o[] x{} b0" ∷
    "= 28" ∷
    "2 NonPrim t3 g1 w0 p2@2{1,2} a0 v2/1{1,2}{2} y- r[2:1] o[] x{} b0" ∷
    "= 29" ∷
    "2 ExchangeStates c4 g1 w0 p2@2{1,2} a0 v2/1{1,2}{2} y- r[2:1] o[] x{} b0" ∷
    "= 31" ∷
    "2 NonPrim t4 g1 w0 p2@2{1,2} a0 v2/1{1,2}{2} y- r[2:1] o[] x{} b0" ∷
    "= 32" ∷
    "1 ExchangeStates c5 g1 w0 p2@2{1,2} a0 v- y![] r[] o[] x{} b0" ∷
    "2 ExchangeStates c5 g1 w0 p2@2{1,2} a0 v2/1{1,2}{2} y- r[2:1] o[] x{} b0" ∷
    "= 34" ∷
    "1 ExchangeActions c5 g1 w0 p2@2{1,2} a0 v- y![] r[] o[] x{} b0" ∷
    "= 35" ∷
    "2 ExchangeActions c5 g1 w0 p2@2{1,2} a0 v2/1{1,2}{2} y- r[2:1] o[] x{} b0" ∷
    "= 37" ∷
    "1 Construct c5 g1 w0 p2@2{1,2} a1 v5/2{1,2}{1} y![] r[2:1] o[] x{} b0" ∷
    "= 38" ∷
    "2 Construct c5 g1 w0 p2@2{1,2} a1 v5/2{1,2}{2} y![] r[2:1] o[] x{} b0" ∷
    "= 40" ∷
    "order 2 2:1" ∷
    "1 RegPrim c5 g2 w0 p3@5{1,2} a0 v5/2{1,2}{1} y- r[] o[] x{} b0" ∷
    "= 41" ∷
    "2 RegPrim c5 g2 w0 p3@5{1,2} a0 v5/2{1,2}{2} y- r[] o[] x{} b0" ∷
    "= 42" ∷
    "1 TransPrim t5 g2 w0 p3@5{1,2} a0 v5/2{1,2}{1} y- r[] o[] x{} b0" ∷
    "2 TransPrim t5 g2 w0 p3@5{1,2} a0 v5/2{1,2}{2} y- r[] o[] x{} b0" ∷
    "= 43" ∷
    "1 ExchangeStates c6 g2 w0 p3@5{1,2} a0 v- y![] r[] o[] x{} b0" ∷
    "2 ExchangeStates c6 g2 w0 p3@5{1,2} a0 v- y![] r[] o[] x{} b0" ∷
    "= 44" ∷
    "1 NonPrim t6 g2 w0 p3@5{1,2} a0 v- y![] r[] o[] x{} b0" ∷
    "= 45" ∷
    "2 NonPrim t6 g2 w0 p3@5{1,2} a0 v- y![] r[] o[] x{} b0" ∷
    "= 46" ∷
    "2 ExchangeStates c7 g2 w0 p3@5{1,2} a0 v- y![] r[] o[] x{} b0" ∷
    "= 47" ∷
    "1 NonPrim t6 g2 w0 p3@5{1,2} a0 v- y![] r[] o[] x{} b1" ∷
    "= 49" ∷
    "2 NonPrim c7 g2 w0 p3@5{1,2} a0 v- y![] r[] o[] x{} b0" ∷
    "= 50" ∷
    "1 NonPrim t6 g2 w0 p3@5{1,2} a0 v- y![] r[] o[] x{} b2" ∷
    "= 51" ∷
    "dirty 2 10" ∷
    "= 53" ∷
    "greens 1 [1:1,2:1]" ∷
    "db 1 \"abc\"=89 \"z\"=10" ∷
    "= 54" ∷
    "2 NonPrim t7 g2 w0 p3@5{1,2} a0 v- y![] r[] o[] x{} b0" ∷
    "= 55" ∷
    "1 ExchangeStates c8 g2 w0 p3@5{1,2} a0 v- y![] r[] o[] x{} b2" ∷
    "2 ExchangeStates c8 g2 w0 p3@5{1,2} a0 v- y![] r[] o[] x{} b0" ∷
    "= 57" ∷
    "1 Construct c8 g2 w0 p3@5{1,2} a1 v8/3{1,2}{1} y![] r[] o[] x{} b2" ∷
    "= 58" ∷
    "2 Construct c8 g2 w0 p3@5{1,2} a1 v8/3{1,2}{2} y![] r[] o[] x{} b0" ∷
    "= 60" ∷
    "made 1:2 leave 2" ∷
    "made 1:3 leave 2" ∷
    "1 RegPrim c8 g2 w0 p4@8{1,2} a0 v8/3{1,2}{1} y- r[] o[1:2,1:3] x{} b0" ∷
    "= 61" ∷
    "2 RegPrim c8 g2 w0 p4@8{1,2} a0 v8/3{1,2}{2} y- r[] o[] x{} b0" ∷
    "= 62" ∷
    "1 TransPrim t8 g2 w0 p4@8{1,2} a0 v8/3{1,2}{1} y- r[] o[1:2,1:3] x{} b0" ∷
    "2 TransPrim t8 g2 w0 p4@8{1,2} a0 v8/3{1,2}{2} y- r[] o[] x{} b0" ∷
    "= 63" ∷
    "1 ExchangeStates c9 g2 w0 p4@8{1,2} a0 v- y![] r[1:2,1:3] o[] x{} b0" ∷
    "2 ExchangeStates c9 g2 w0 p4@8{1,2} a0 v- y![] r[] o[] x{} b0" ∷
    "= 65" ∷
    "2 ExchangeStates c9 g2 w0 p4@8{1,2} a0 v- y![] r[] o[] x{} b1" ∷
    "= 67" ∷
    "1 ExchangeStates c9 g2 w0 p4@8{1,2} a0 v- y![] r[1:2,1:3] o[] x{} b1" ∷
    "= 69" ∷
    "1 ExchangeStates c9 g2 w0 p4@8{1,2} a0 v- y![] r[1:2,1:3] o[] x{} b2" ∷
    "= 70" ∷
    "1 ExchangeStates c9 g2 w0 p4@8{1,2} a0 v- y![] r[1:2,1:3] o[] x{} b3" ∷
    "= 71" ∷
    "1 ExchangeStates c9 g2 w0 p4@8{1,2} a0 v- y![] r[1:2,1:3] o[] x{} b4" ∷
    "= 72" ∷
    "1 NonPrim t9 g2 w0 p4@8{1,2} a0 v- y![] r[1:2,1:3] o[] x{} b4" ∷
    "2 NonPrim t9 g2 w0 p4@8{1,2} a0 v- y![] r[] o[] x{} b1" ∷
    "= 73" ∷
    "1 ExchangeStates c10 g2 w0 p4@8{1,2} a0 v- y![] r[1:2,1:3] o[] x{} b4" ∷
    "2 ExchangeStates c10 g2 w0 p4@8{1,2} a0 v- y![] r[] o[] x{} b1" ∷
    "= 75" ∷
    "1 ExchangeActions c10 g2 w0 p4@8{1,2} a0 v- y![] r[1:2,1:3] o[] x{} b4" ∷
    "= 76" ∷
    "2 ExchangeActions c10 g2 w0 p4@8{1,2} a0 v- y![] r[] o[] x{} b1" ∷
    "= 78" ∷
    "1 Construct c10 g2 w0 p4@8{1,2} a1 v10/4{1,2}{1} y![] r[1:2,1:3] o[] x{} b4" ∷
    "= 79" ∷
    "2 Construct c10 g2 w0 p4@8{1,2} a1 v10/4{1,2}{2} y![] r[1:2,1:3] o[] x{} b1" ∷
    "= 81" ∷
    "made 1:4 cas \"y\" 6 57; put \"x\" 37; inc \"y\" 4; inc \"b\" 6; put \"b\" 47; put \"k1\" 22; move \"z\" \"b\" 5; inc \"z\" 2; put \"x\" -9223372036854775807; move \"ab\" \"z\" 9223372036854775807; del \"y\"; inc \"x\" 10; del \"x\"; inc \"x\" 12; inc \"ab\" -3; move \"z\" \"b\" 3" ∷
    "made 1:5 put \"z\" 48; inc \"k1\" 11" ∷
    "made 1:6 put \"y\" 9223372036854775806 ? get \"z\"" ∷
    "made 1:7 inc \"y\" 1" ∷
    "order 3 1:2" ∷
    "order 4 1:3" ∷
    "1 RegPrim c10 g4 w2 p5@10{1,2} a0 v10/4{1,2}{1} y- r[] o[1:4,1:5,1:6,1:7] x{2} b0" ∷
    "reply 1:2 done" ∷
    "reply 1:3 done" ∷
    "= 82" ∷
    "made 2:2 put \"a\" 5; need \"z\" 82; put \"a\" 70 ? get \"ab\"" ∷
    "2 RegPrim c10 g4 w2 p5@10{1,2} a0 v10/4{1,2}{2} y- r[] o[2:2] x{2} b0" ∷
    "= 83" ∷
    "1 TransPrim t10 g4 w2 p5@10{1,2} a0 v10/4{1,2}{1} y- r[] o[1:4,1:5,1:6,1:7] x{2} b0" ∷
    "2 TransPrim t10 g4 w2 p5@10{1,2} a0 v10/4{1,2}{2} y- r[] o[2:2] x{2} b0" ∷
    "end 83" ∷
    [])
unfolding cases_compute
two_replicas_primary_lost_and_reds_ordered_crash_in_a_device_call_e = refl

-- Replicas at the start: 2: a primary is lost in a partition, and after a merge red actions are ordered; a replica crashes; a server that was removed is told so.
two_replicas_primary_lost_and_reds_ordered_crash_leaver_a :
    replayed_text (
    "start 1 2" ∷
    "merge 1 2" ∷
    "rounds 2" ∷
    "request 1 inc \"y\" 4" ∷
    "leave 2 1" ∷
    "split 1" ∷
    "split 2" ∷
    "merge 1 2" ∷
    "rounds 2" ∷
    "leave 2 1" ∷
    "split 1" ∷
    "split 2" ∷
    "merge 2" ∷
    "merge 1" ∷
    "split 2" ∷
    "split 1" ∷
    "merge 1 2" ∷
    "rounds 2" ∷
    "rounds 2" ∷
    "leave 1 2" ∷
    "gather" ∷
    "leave 1 1" ∷
    "stop 1 0 -" ∷
    "recover 1" ∷
    "deliver 2 1" ∷
    "split 2" ∷
    "merge 1 2" ∷
    "rounds 1" ∷
    "gather" ∷
    "gather" ∷
    "gather" ∷
    "gather" ∷
    "gather" ∷
    "gather" ∷
    "split 1 2" ∷
    "gather" ∷
    "gather" ∷
    "gather" ∷
    "rounds 1" ∷
    "rounds 3" ∷
    "gather" ∷
    "rounds 3" ∷
    "rounds 3" ∷
    "show 1" ∷
    "rounds 1" ∷
    "rounds 3" ∷
    "rounds 2" ∷
    "rounds 1" ∷
    "rounds 1" ∷
    "rounds 3" ∷
    "gather" ∷
    "rounds 3" ∷
    "rounds 1" ∷
    "gather" ∷
    "gather" ∷
    "show order" ∷
    "gather" ∷
    "rounds 3" ∷
    "gather" ∷
    "end" ∷
    [])
    ≡ written (
    "= 1" ∷
    "1 NonPrim - g0 w0 p0@0{1,2} a0 v- y- r[] o[] x{} b0" ∷
    "2 NonPrim - g0 w0 p0@0{1,2} a0 v- y- r[] o[] x{} b0" ∷
    "= 2" ∷
    "1 ExchangeStates c1 g0 w0 p0@0{1,2} a0 v- y- r[] o[] x{} b0" ∷
    "2 ExchangeStates c1 g0 w0 p0@0{1,2} a0 v- y- r[] o[] x{} b0" ∷
    "= 4" ∷
    "1 Construct c1 g0 w0 p0@0{1,2} a1 v1/0{1,2}{1} y- r[] o[] x{} b0" ∷
    "= 5" ∷
    "2 Construct c1 g0 w0 p0@0{1,2} a1 v1/0{1,2}{2} y- r[] o[] x{} b0" ∷
    "= 7" ∷
    "1 RegPrim c1 g0 w0 p1@1{1,2} a0 v1/0{1,2}{1} y- r[] o[] x{} b0" ∷
    "= 8" ∷
    "2 RegPrim c1 g0 w0 p1@1{1,2} a0 v1/0{1,2}{2} y- r[] o[] x{} b0" ∷
    "= 9" ∷
    "made 1:1 inc \"y\" 4" ∷
    "1 RegPrim c1 g0 w0 p1@1{1,2} a0 v1/0{1,2}{1} y- r[] o[1:1] x{} b0" ∷
    "= 10" ∷
    "made 2:1 leave 1" ∷
    "2 RegPrim c1 g0 w0 p1@1{1,2} a0 v1/0{1,2}{2} y- r[] o[2:1] x{} b0" ∷
    "= 11" ∷
    "1 TransPrim t1 g0 w0 p1@1{1,2} a0 v1/0{1,2}{1} y- r[] o[1:1] x{} b0" ∷
    "= 12" ∷
    "2 TransPrim t1 g0 w0 p1@1{1,2} a0 v1/0{1,2}{2} y- r[] o[2:1] x{} b0" ∷
    "= 13" ∷
    "1 ExchangeStates c2 g0 w0 p1@1{1,2} a0 v- y![] r[1:1] o[] x{} b0" ∷
    "2 ExchangeStates c2 g0 w0 p1@1{1,2} a0 v- y![] r[2:1] o[] x{} b0" ∷
    "= 15" ∷
    "1 ExchangeActions c2 g0 w0 p1@1{1,2} a0 v- y![] r[1:1] o[] x{} b0" ∷
    "= 16" ∷
    "2 ExchangeActions c2 g0 w0 p1@1{1,2} a0 v- y![] r[2:1] o[] x{} b0" ∷
    "= 19" ∷
    "2 ExchangeActions c2 g0 w0 p1@1{1,2} a0 v- y![] r[1:1,2:1] o[] x{} b0" ∷
    "= 20" ∷
    "2 ExchangeActions c2 g0 w0 p1@1{1,2} a0 v- y![] r[1:1,2:1] o[] x{} b1" ∷
    "= 21" ∷
    "1 NonPrim t2 g0 w0 p1@1{1,2} a0 v- y![] r[1:1] o[] x{} b0" ∷
    "= 22" ∷
    "2 NonPrim t2 g0 w0 p1@1{1,2} a0 v- y![] r[1:1,2:1] o[] x{} b1" ∷
    "= 23" ∷
    "2 ExchangeStates c3 g0 w0 p1@1{1,2} a0 v- y![] r[1:1,2:1] o[] x{} b1" ∷
    "= 24" ∷
    "1 ExchangeStates c4 g0 w0 p1@1{1,2} a0 v- y![] r[1:1] o[] x{} b0" ∷
    "= 25" ∷
    "2 NonPrim t3 g0 w0 p1@1{1,2} a0 v- y![] r[1:1,2:1] o[] x{} b1" ∷
    "= 26" ∷
    "1 NonPrim t4 g0 w0 p1@1{1,2} a0 v- y![] r[1:1] o[] x{} b0" ∷
    "= 27" ∷
    "1 ExchangeStates c5 g0 w0 p1@1{1,2} a0 v- y![] r[1:1] o[] x{} b0" ∷
    "2 ExchangeStates c5 g0 w0 p1@1{1,2} a0 v- y![] r[1:1,2:1] o[] x{} b1" ∷
    "= 29" ∷
    "1 ExchangeActions c5 g0 w0 p1@1{1,2} a0 v- y![] r[1:1] o[] x{} b0" ∷
    "= 30" ∷
    "2 ExchangeActions c5 g0 w0 p1@1{1,2} a0 v- y![] r[1:1,2:1] o[] x{} b1" ∷
    "= 32" ∷
    "1 Construct c5 g0 w0 p1@1{1,2} a1 v5/1{1,2}{1} y![] r[1:1,2:1] o[] x{} b0" ∷
    "= 33" ∷
    "2 Construct c5 g0 w0 p1@1{1,2} a1 v5/1{1,2}{2} y![] r[1:1,2:1] o[] x{} b1" ∷
    "= 35" ∷
    "order 1 1:1" ∷
    "order 2 2:1" ∷
    "1 RegPrim c5 g2 w0 p2@5{1,2} a0 v5/1{1,2}{1} y- r[] o[] x{1} b0" ∷
    "reply 1:1 done" ∷
    "= 36" ∷
    "made 2:2 leave 1" ∷
    "2 RegPrim c5 g2 w0 p2@5{1,2} a0 v5/1{1,2}{2} y- r[] o[2:2] x{1} b0" ∷
    "reply 2:1 done" ∷
    "= 38" ∷
    "order 3 2:2" ∷
    "1 RegPrim c5 g3 w2 p2@5{1,2} a0 v5/1{1,2}{1} y- r[] o[] x{1} b0" ∷
    "= 39" ∷
    "2 RegPrim c5 g3 w2 p2@5{1,2} a0 v5/1{1,2}{2} y- r[] o[] x{1} b0" ∷
    "reply 2:2 done" ∷
    "= 40" ∷
    "made 1:2 leave 2" ∷
    "1 RegPrim c5 g3 w2 p2@5{1,2} a0 v5/1{1,2}{1} y- r[] o[1:2] x{1} b0" ∷
    "= 42" ∷
    "made 1:3 leave 1" ∷
    "1 RegPrim c5 g3 w2 p2@5{1,2} a0 v5/1{1,2}{1} y- r[] o[1:2,1:3] x{1} b0" ∷
    "= 43" ∷
    "1 Down" ∷
    "= 44" ∷
    "1 NonPrim - g3 w2 p2@5{1,2} a0 v5/1{1,2}{1} y- r[1:2,1:3] o[] x{1} b0" ∷
    "= 45" ∷
    "order 4 1:2" ∷
    "2 RegPrim c5 g4 w2 p2@5{1,2} a0 v5/1{1,2}{2} y- r[] o[] x{1,2} b0" ∷
    "= 46" ∷
    "2 TransPrim t5 g4 w2 p2@5{1,2} a0 v5/1{1,2}{2} y- r[] o[] x{1,2} b0" ∷
    "= 47" ∷
    "1 ExchangeStates c6 g3 w2 p2@5{1,2} a0 v5/1{1,2}{1} y- r[1:2,1:3] o[] x{1} b0" ∷
    "2 ExchangeStates c6 g4 w2 p2@5{1,2} a0 v- y![] r[] o[] x{1,2} b0" ∷
    "= 49" ∷
    "1 Left c6 g3 w2 p2@5{1,2} a0 v5/1{1,2}{1} y- r[1:2,1:3] o[] x{1} b0" ∷
    "= 50" ∷
    "2 Left c6 g4 w2 p2@5{1,2} a0 v- y![] r[] o[] x{1,2} b0" ∷
    "= 57" ∷
    "1 Left t6 g3 w2 p2@5{1,2} a0 v5/1{1,2}{1} y- r[1:2,1:3] o[] x{1} b0" ∷
    "2 Left t6 g4 w2 p2@5{1,2} a0 v- y![] r[] o[] x{1,2} b0" ∷
    "= 72" ∷
    "greens 1 [2:2]" ∷
    "db 1 \"y\"=4" ∷
    "= 91" ∷
    "all [1:1,2:1,2:2,1:2]" ∷
    "end 96" ∷
    [])
unfolding cases_compute
two_replicas_primary_lost_and_reds_ordered_crash_leaver_a = refl

-- Replicas at the start: 2: a primary is split; a crash strikes inside a device call; an old disk is migrated.
two_replicas_primary_split_crash_in_a_device_call_old_disk_a :
    replayed_text (
    "start 1 2" ∷
    "merge 1 2" ∷
    "rounds 2" ∷
    "split 1 2" ∷
    "merge 1 2" ∷
    "order 2" ∷
    "gather" ∷
    "fail 2 3" ∷
    "gather" ∷
    "deliver 1 2" ∷
    "request 2 put \"a\" 80" ∷
    "request 2 cas \"x\" absent 77" ∷
    "order 1" ∷
    "deliver 2 2" ∷
    "recover 2 16 ff" ∷
    "join 2 5" ∷
    "rounds 3" ∷
    "end" ∷
    [])
    ≡ written (
    "= 1" ∷
    "1 NonPrim - g0 w0 p0@0{1,2} a0 v- y- r[] o[] x{} b0" ∷
    "2 NonPrim - g0 w0 p0@0{1,2} a0 v- y- r[] o[] x{} b0" ∷
    "= 2" ∷
    "1 ExchangeStates c1 g0 w0 p0@0{1,2} a0 v- y- r[] o[] x{} b0" ∷
    "2 ExchangeStates c1 g0 w0 p0@0{1,2} a0 v- y- r[] o[] x{} b0" ∷
    "= 4" ∷
    "1 Construct c1 g0 w0 p0@0{1,2} a1 v1/0{1,2}{1} y- r[] o[] x{} b0" ∷
    "= 5" ∷
    "2 Construct c1 g0 w0 p0@0{1,2} a1 v1/0{1,2}{2} y- r[] o[] x{} b0" ∷
    "= 7" ∷
    "1 RegPrim c1 g0 w0 p1@1{1,2} a0 v1/0{1,2}{1} y- r[] o[] x{} b0" ∷
    "= 8" ∷
    "2 RegPrim c1 g0 w0 p1@1{1,2} a0 v1/0{1,2}{2} y- r[] o[] x{} b0" ∷
    "= 9" ∷
    "1 TransPrim t1 g0 w0 p1@1{1,2} a0 v1/0{1,2}{1} y- r[] o[] x{} b0" ∷
    "2 TransPrim t1 g0 w0 p1@1{1,2} a0 v1/0{1,2}{2} y- r[] o[] x{} b0" ∷
    "= 10" ∷
    "1 ExchangeStates c2 g0 w0 p1@1{1,2} a0 v- y![] r[] o[] x{} b0" ∷
    "2 ExchangeStates c2 g0 w0 p1@1{1,2} a0 v- y![] r[] o[] x{} b0" ∷
    "= 15" ∷
    "1 Construct c2 g0 w0 p1@1{1,2} a1 v2/1{1,2}{1} y![] r[] o[] x{} b0" ∷
    "= 16" ∷
    "2 ExchangeStates c2 g0 w0 p1@1{1,2} a0 v- y![] r[] o[] x{} b1" ∷
    "= 17" ∷
    "2 ExchangeStates c2 g0 w0 p1@1{1,2} a0 v- y![] r[] o[] x{} b2" ∷
    "= 19" ∷
    "2 Down" ∷
    "= 20" ∷
    "2 NonPrim - g0 w0 p1@1{1,2} a0 v- y![] r[] o[] x{} b0" ∷
    "= 21" ∷
    "2 NonPrim - g0 w0 p1@1{1,2} a0 v- y![] r[] o[] x{} b1" ∷
    "end 24" ∷
    [])
unfolding cases_compute
two_replicas_primary_split_crash_in_a_device_call_old_disk_a = refl
