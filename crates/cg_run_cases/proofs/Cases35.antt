-- Cases of cases/ with their whole reports, which `.ci/theorems` writes down here.
use Rattle.std.specs.Prelude.{◌≡◌, [], ◌∷◌}
use mathlib.Core.Path.{refl}
use Rattle.cg_run_cases.specs.Replaying.{replayed_text, written}
use Rattle.cg_run_cases.specs.Computing.{cases_compute}

-- Replicas at the start: 2: a primary is lost in a partition, and after a merge red actions are ordered; a replica crashes.
two_replicas_primary_lost_and_reds_ordered_crash_a_from_discarding :
    replayed_text (
    "start 1 2" ∷
    "merge 1 2" ∷
    "request 2 put \"z\" 9" ∷
    "request 1 del \"z\" ? get \"x\"" ∷
    "gather" ∷
    "split 1 2" ∷
    "merge 1 2" ∷
    "request 1 need \"abc\" 93 ? get \"b\"" ∷
    "request 1 put \"b\" -3; put \"z\" 58; inc \"x\" 2" ∷
    "request 2 inc \"k1\" 10; put \"y\" 95" ∷
    "split 1" ∷
    "merge 1" ∷
    "split 2" ∷
    "split 1" ∷
    "merge 1 2" ∷
    "gather" ∷
    "deliver 2 2" ∷
    "deliver 1 1" ∷
    "deliver 1 1" ∷
    "gather" ∷
    "deliver 2 2" ∷
    "deliver 1 2" ∷
    "request 1 inc \"x\" 10; cas \"a\" absent 61" ∷
    "split 1" ∷
    "order 2" ∷
    "gather" ∷
    "merge 1" ∷
    "split 2" ∷
    "gather" ∷
    "merge 2" ∷
    "request 2 del \"z\" ? keys \"k\"" ∷
    "gather" ∷
    "request 1 need \"a\" 5" ∷
    "request 1 inc \"a\" 8 ? get \"x\"" ∷
    "stop 1 0 -" ∷
    "recover 1" ∷
    "request 1 move \"b\" \"a\" 6" ∷
    "deliver 2 1" ∷
    "request 1 inc \"x\" 9223372036854775807 ? count" ∷
    "request 2 put \"abc\" 9223372036854775807 ? get \"a\"" ∷
    "request 2 del \"y\"" ∷
    "merge 1" ∷
    "split 2" ∷
    "split 1" ∷
    "merge 1 2" ∷
    "rounds 2" ∷
    "order 2" ∷
    "request 2 put \"x\" \"12\" ? keys \"a\"" ∷
    "gather" ∷
    "split 1 2" ∷
    "merge 1 2" ∷
    "gather" ∷
    "split 1 2" ∷
    "merge 1 2" ∷
    "rounds 2" ∷
    "rounds 2" ∷
    "request 1 put \"a\" 37 ? get \"z\"" ∷
    "split 2" ∷
    "split 1" ∷
    "end" ∷
    [])
    ≡ written (
    "= 1" ∷
    "1 NonPrim - g0 w0 p0@0{1,2} a0 v- y- r[] o[] x{} b0" ∷
    "2 NonPrim - g0 w0 p0@0{1,2} a0 v- y- r[] o[] x{} b0" ∷
    "= 2" ∷
    "1 ExchangeStates c1 g0 w0 p0@0{1,2} a0 v- y- r[] o[] x{} b0" ∷
    "2 ExchangeStates c1 g0 w0 p0@0{1,2} a0 v- y- r[] o[] x{} b0" ∷
    "= 3" ∷
    "2 ExchangeStates c1 g0 w0 p0@0{1,2} a0 v- y- r[] o[] x{} b1" ∷
    "= 4" ∷
    "1 ExchangeStates c1 g0 w0 p0@0{1,2} a0 v- y- r[] o[] x{} b1" ∷
    "= 6" ∷
    "1 NonPrim t1 g0 w0 p0@0{1,2} a0 v- y- r[] o[] x{} b1" ∷
    "2 NonPrim t1 g0 w0 p0@0{1,2} a0 v- y- r[] o[] x{} b1" ∷
    "= 7" ∷
    "1 ExchangeStates c2 g0 w0 p0@0{1,2} a0 v- y- r[] o[] x{} b1" ∷
    "2 ExchangeStates c2 g0 w0 p0@0{1,2} a0 v- y- r[] o[] x{} b1" ∷
    "= 8" ∷
    "1 ExchangeStates c2 g0 w0 p0@0{1,2} a0 v- y- r[] o[] x{} b2" ∷
    "= 9" ∷
    "1 ExchangeStates c2 g0 w0 p0@0{1,2} a0 v- y- r[] o[] x{} b3" ∷
    "= 10" ∷
    "2 ExchangeStates c2 g0 w0 p0@0{1,2} a0 v- y- r[] o[] x{} b2" ∷
    "= 11" ∷
    "1 NonPrim t2 g0 w0 p0@0{1,2} a0 v- y- r[] o[] x{} b3" ∷
    "= 12" ∷
    "1 ExchangeStates c3 g0 w0 p0@0{1,2} a0 v- y- r[] o[] x{} b3" ∷
    "= 13" ∷
    "2 NonPrim t2 g0 w0 p0@0{1,2} a0 v- y- r[] o[] x{} b2" ∷
    "= 14" ∷
    "1 NonPrim t3 g0 w0 p0@0{1,2} a0 v- y- r[] o[] x{} b3" ∷
    "= 15" ∷
    "1 ExchangeStates c4 g0 w0 p0@0{1,2} a0 v- y- r[] o[] x{} b3" ∷
    "2 ExchangeStates c4 g0 w0 p0@0{1,2} a0 v- y- r[] o[] x{} b2" ∷
    "= 17" ∷
    "2 Construct c4 g0 w0 p0@0{1,2} a1 v4/0{1,2}{2} y- r[] o[] x{} b2" ∷
    "= 19" ∷
    "1 Construct c4 g0 w0 p0@0{1,2} a1 v4/0{1,2}{1} y- r[] o[] x{} b3" ∷
    "= 21" ∷
    "made 2:1 put \"z\" 9" ∷
    "made 2:2 inc \"k1\" 10; put \"y\" 95" ∷
    "2 RegPrim c4 g0 w0 p1@4{1,2} a0 v4/0{1,2}{2} y- r[] o[2:1,2:2] x{} b0" ∷
    "= 22" ∷
    "made 1:1 del \"z\" ? get \"x\"" ∷
    "made 1:2 need \"abc\" 93 ? get \"b\"" ∷
    "made 1:3 put \"b\" -3; put \"z\" 58; inc \"x\" 2" ∷
    "1 RegPrim c4 g0 w0 p1@4{1,2} a0 v4/0{1,2}{1} y- r[] o[1:1,1:2,1:3] x{} b0" ∷
    "= 23" ∷
    "made 1:4 inc \"x\" 10; cas \"a\" absent 61" ∷
    "1 RegPrim c4 g0 w0 p1@4{1,2} a0 v4/0{1,2}{1} y- r[] o[1:1,1:2,1:3,1:4] x{} b0" ∷
    "= 24" ∷
    "1 TransPrim t4 g0 w0 p1@4{1,2} a0 v4/0{1,2}{1} y- r[] o[1:1,1:2,1:3,1:4] x{} b0" ∷
    "= 27" ∷
    "1 ExchangeStates c5 g0 w0 p1@4{1,2} a0 v- y![] r[1:1,1:2,1:3,1:4] o[] x{} b0" ∷
    "= 28" ∷
    "2 TransPrim t4 g0 w0 p1@4{1,2} a0 v4/0{1,2}{2} y?[2:1,2:2] r[] o[] x{} b0" ∷
    "= 30" ∷
    "2 ExchangeStates c6 g0 w0 p1@4{1,2} a0 v- y![2:1,2:2] r[] o[] x{} b0" ∷
    "= 31" ∷
    "2 ExchangeStates c6 g0 w0 p1@4{1,2} a0 v- y![2:1,2:2] r[] o[] x{} b1" ∷
    "= 33" ∷
    "1 ExchangeStates c5 g0 w0 p1@4{1,2} a0 v- y![] r[1:1,1:2,1:3,1:4] o[] x{} b1" ∷
    "= 34" ∷
    "1 ExchangeStates c5 g0 w0 p1@4{1,2} a0 v- y![] r[1:1,1:2,1:3,1:4] o[] x{} b2" ∷
    "= 35" ∷
    "1 Down" ∷
    "= 36" ∷
    "1 NonPrim - g0 w0 p1@4{1,2} a0 v- y![] r[1:1,1:2,1:3,1:4] o[] x{} b0" ∷
    "= 37" ∷
    "1 NonPrim - g0 w0 p1@4{1,2} a0 v- y![] r[1:1,1:2,1:3,1:4] o[] x{} b1" ∷
    "= 38" ∷
    "made 2:3 del \"z\" ? keys \"k\"" ∷
    "2 NonPrim c6 g0 w0 p1@4{1,2} a0 v- y![2:1,2:2] r[] o[2:3] x{} b0" ∷
    "= 39" ∷
    "1 NonPrim - g0 w0 p1@4{1,2} a0 v- y![] r[1:1,1:2,1:3,1:4] o[] x{} b2" ∷
    "= 40" ∷
    "made 2:4 put \"abc\" 9223372036854775807 ? get \"a\"" ∷
    "2 NonPrim c6 g0 w0 p1@4{1,2} a0 v- y![2:1,2:2] r[] o[2:3,2:4] x{} b0" ∷
    "= 41" ∷
    "made 2:5 del \"y\"" ∷
    "2 NonPrim c6 g0 w0 p1@4{1,2} a0 v- y![2:1,2:2] r[] o[2:3,2:4,2:5] x{} b0" ∷
    "= 42" ∷
    "1 ExchangeStates c7 g0 w0 p1@4{1,2} a0 v- y![] r[1:1,1:2,1:3,1:4] o[] x{} b2" ∷
    "= 43" ∷
    "2 NonPrim t6 g0 w0 p1@4{1,2} a0 v- y![2:1,2:2] r[] o[2:3,2:4,2:5] x{} b0" ∷
    "= 44" ∷
    "1 NonPrim t7 g0 w0 p1@4{1,2} a0 v- y![] r[1:1,1:2,1:3,1:4] o[] x{} b2" ∷
    "= 45" ∷
    "1 ExchangeStates c8 g0 w0 p1@4{1,2} a0 v- y![] r[1:1,1:2,1:3,1:4] o[] x{} b2" ∷
    "2 ExchangeStates c8 g0 w0 p1@4{1,2} a0 v- y![2:1,2:2] r[2:3,2:4,2:5] o[] x{} b0" ∷
    "= 47" ∷
    "1 ExchangeActions c8 g0 w0 p1@4{1,2} a0 v- y![] r[1:1,1:2,1:3,1:4] o[] x{} b2" ∷
    "= 48" ∷
    "2 ExchangeActions c8 g0 w0 p1@4{1,2} a0 v- y![2:1,2:2] r[2:3,2:4,2:5] o[] x{} b0" ∷
    "= 51" ∷
    "2 ExchangeActions c8 g0 w0 p1@4{1,2} a0 v- y![2:1,2:2] r[1:1,1:2,1:3,1:4,2:3,2:4,2:5] o[] x{} b0" ∷
    "= 53" ∷
    "2 ExchangeActions c8 g0 w0 p1@4{1,2} a0 v- y![2:1,2:2] r[1:1,1:2,1:3,1:4,2:3,2:4,2:5] o[] x{} b1" ∷
    "= 55" ∷
    "1 NonPrim t8 g0 w0 p1@4{1,2} a0 v- y![] r[1:1,1:2,1:3,1:4] o[] x{} b2" ∷
    "2 NonPrim t8 g0 w0 p1@4{1,2} a0 v- y![2:1,2:2] r[1:1,1:2,1:3,1:4,2:3,2:4,2:5] o[] x{} b1" ∷
    "= 56" ∷
    "1 ExchangeStates c9 g0 w0 p1@4{1,2} a0 v- y![] r[1:1,1:2,1:3,1:4] o[] x{} b2" ∷
    "2 ExchangeStates c9 g0 w0 p1@4{1,2} a0 v- y![2:1,2:2] r[1:1,1:2,1:3,1:4,2:3,2:4,2:5] o[] x{} b1" ∷
    "= 58" ∷
    "1 NonPrim t9 g0 w0 p1@4{1,2} a0 v- y![] r[1:1,1:2,1:3,1:4] o[] x{} b2" ∷
    "2 NonPrim t9 g0 w0 p1@4{1,2} a0 v- y![2:1,2:2] r[1:1,1:2,1:3,1:4,2:3,2:4,2:5] o[] x{} b1" ∷
    "= 59" ∷
    "1 ExchangeStates c10 g0 w0 p1@4{1,2} a0 v- y![] r[1:1,1:2,1:3,1:4] o[] x{} b2" ∷
    "2 ExchangeStates c10 g0 w0 p1@4{1,2} a0 v- y![2:1,2:2] r[1:1,1:2,1:3,1:4,2:3,2:4,2:5] o[] x{} b1" ∷
    "= 61" ∷
    "1 ExchangeActions c10 g0 w0 p1@4{1,2} a0 v- y![] r[1:1,1:2,1:3,1:4] o[] x{} b2" ∷
    "= 62" ∷
    "2 ExchangeActions c10 g0 w0 p1@4{1,2} a0 v- y![2:1,2:2] r[1:1,1:2,1:3,1:4,2:3,2:4,2:5] o[] x{} b1" ∷
    "= 64" ∷
    "1 Construct c10 g0 w0 p1@4{1,2} a1 v10/1{1,2}{1} y![] r[1:1,1:2,1:3,1:4,2:1,2:2,2:3,2:4,2:5] o[] x{} b2" ∷
    "= 65" ∷
    "2 Construct c10 g0 w0 p1@4{1,2} a1 v10/1{1,2}{2} y![] r[1:1,1:2,1:3,1:4,2:1,2:2,2:3,2:4,2:5] o[] x{} b1" ∷
    "= 67" ∷
    "made 1:5 move \"b\" \"a\" 6" ∷
    "made 1:6 inc \"x\" 9223372036854775807 ? count" ∷
    "order 1 1:1" ∷
    "order 2 1:2" ∷
    "order 3 1:3" ∷
    "order 4 1:4" ∷
    "order 5 2:1" ∷
    "order 6 2:2" ∷
    "order 7 2:3" ∷
    "order 8 2:4" ∷
    "order 9 2:5" ∷
    "1 RegPrim c10 g9 w0 p2@10{1,2} a0 v10/1{1,2}{1} y- r[] o[1:5,1:6] x{} b0" ∷
    "= 68" ∷
    "made 2:6 put \"x\" \"12\" ? keys \"a\"" ∷
    "2 RegPrim c10 g9 w0 p2@10{1,2} a0 v10/1{1,2}{2} y- r[] o[2:6] x{} b0" ∷
    "reply 2:1 done" ∷
    "reply 2:2 done" ∷
    "reply 2:3 done ? keys \"k1\"" ∷
    "reply 2:4 done ? 61" ∷
    "reply 2:5 done" ∷
    "= 70" ∷
    "order 10 1:5" ∷
    "order 11 1:6" ∷
    "order 12 2:6" ∷
    "1 RegPrim c10 g12 w9 p2@10{1,2} a0 v10/1{1,2}{1} y- r[] o[] x{} b0" ∷
    "reply 1:5 aborted 1" ∷
    "reply 1:6 range 1 ? count 5" ∷
    "= 71" ∷
    "2 RegPrim c10 g12 w9 p2@10{1,2} a0 v10/1{1,2}{2} y- r[] o[] x{} b0" ∷
    "reply 2:6 done ? keys \"a\" \"abc\"" ∷
    "= 72" ∷
    "made 1:7 put \"a\" 37 ? get \"z\"" ∷
    "1 RegPrim c10 g12 w9 p2@10{1,2} a0 v10/1{1,2}{1} y- r[] o[1:7] x{} b0" ∷
    "= 73" ∷
    "2 TransPrim t10 g12 w9 p2@10{1,2} a0 v10/1{1,2}{2} y- r[] o[] x{} b0" ∷
    "= 74" ∷
    "1 TransPrim t10 g12 w9 p2@10{1,2} a0 v10/1{1,2}{1} y- r[] o[1:7] x{} b0" ∷
    "end 74" ∷
    [])
unfolding cases_compute
two_replicas_primary_lost_and_reds_ordered_crash_a_from_discarding = refl

-- Replicas at the start: 2: a primary is lost in a partition, and after a merge red actions are ordered; a crash strikes inside a device call.
two_replicas_primary_lost_and_reds_ordered_crash_in_a_device_call_a_from_discarding :
    replayed_text (
    "start 6 20" ∷
    "merge 6 20" ∷
    "rounds 1" ∷
    "rounds 3" ∷
    "stop 6 6 01" ∷
    "request 20 inc \"y\" 1; inc \"a\" 2 ? get \"z\"" ∷
    "rounds 3" ∷
    "split 6" ∷
    "split 20" ∷
    "merge 6" ∷
    "merge 20" ∷
    "rounds 1" ∷
    "recover 6" ∷
    "request 6 inc \"x\" 4; move \"a\" \"b\" 9223372036854775807; put \"x\" -9223372036854775807; inc \"y\" 10 ? get \"k2\"" ∷
    "gather" ∷
    "split 20" ∷
    "merge 6" ∷
    "merge 20" ∷
    "rounds 1" ∷
    "rounds 3" ∷
    "rounds 2" ∷
    "gather" ∷
    "gather" ∷
    "gather" ∷
    "request 20 inc \"abc\" 1; del \"a\"; inc \"abc\" 3; inc \"abc\" 11" ∷
    "request 20 inc \"b\" 9223372036854775807" ∷
    "split 6" ∷
    "split 20" ∷
    "merge 6 20" ∷
    "rounds 1" ∷
    "request 20 inc \"b\" 1" ∷
    "request 20 put \"y\" 5" ∷
    "gather" ∷
    "deliver 6 1" ∷
    "split 6" ∷
    "split 20" ∷
    "merge 6 20" ∷
    "request 20 put \"z\" 11; put \"b\" 38; inc \"abc\" 11" ∷
    "request 6 put \"ab\" \"; ? #\"" ∷
    "split 6 20" ∷
    "rounds 2" ∷
    "merge 6 20" ∷
    "rounds 2" ∷
    "request 20 inc \"z\" 3; del \"x\" ? count" ∷
    "rounds 2" ∷
    "split 6 20" ∷
    "request 20 inc \"z\" 1" ∷
    "end" ∷
    [])
    ≡ written (
    "= 1" ∷
    "6 NonPrim - g0 w0 p0@0{6,20} a0 v- y- r[] o[] x{} b0" ∷
    "20 NonPrim - g0 w0 p0@0{6,20} a0 v- y- r[] o[] x{} b0" ∷
    "= 2" ∷
    "6 ExchangeStates c1 g0 w0 p0@0{6,20} a0 v- y- r[] o[] x{} b0" ∷
    "20 ExchangeStates c1 g0 w0 p0@0{6,20} a0 v- y- r[] o[] x{} b0" ∷
    "= 4" ∷
    "6 Construct c1 g0 w0 p0@0{6,20} a1 v1/0{6,20}{6} y- r[] o[] x{} b0" ∷
    "= 5" ∷
    "20 Construct c1 g0 w0 p0@0{6,20} a1 v1/0{6,20}{20} y- r[] o[] x{} b0" ∷
    "= 7" ∷
    "6 RegPrim c1 g0 w0 p1@1{6,20} a0 v1/0{6,20}{6} y- r[] o[] x{} b0" ∷
    "= 8" ∷
    "20 RegPrim c1 g0 w0 p1@1{6,20} a0 v1/0{6,20}{20} y- r[] o[] x{} b0" ∷
    "= 12" ∷
    "made 20:1 inc \"y\" 1; inc \"a\" 2 ? get \"z\"" ∷
    "20 RegPrim c1 g0 w0 p1@1{6,20} a0 v1/0{6,20}{20} y- r[] o[20:1] x{} b0" ∷
    "= 14" ∷
    "order 1 20:1" ∷
    "6 RegPrim c1 g1 w0 p1@1{6,20} a0 v1/0{6,20}{6} y- r[] o[] x{} b0" ∷
    "= 15" ∷
    "20 RegPrim c1 g1 w0 p1@1{6,20} a0 v1/0{6,20}{20} y- r[] o[] x{} b0" ∷
    "reply 20:1 done ? absent" ∷
    "= 18" ∷
    "6 TransPrim t1 g1 w0 p1@1{6,20} a0 v1/0{6,20}{6} y- r[] o[] x{} b0" ∷
    "= 19" ∷
    "20 TransPrim t1 g1 w0 p1@1{6,20} a0 v1/0{6,20}{20} y- r[] o[] x{} b0" ∷
    "= 20" ∷
    "6 Down" ∷
    "= 21" ∷
    "20 ExchangeStates c3 g1 w0 p1@1{6,20} a0 v- y![] r[] o[] x{} b0" ∷
    "= 23" ∷
    "20 NonPrim c3 g1 w0 p1@1{6,20} a0 v- y![] r[] o[] x{} b0" ∷
    "= 24" ∷
    "6 NonPrim - g1 w0 p1@1{6,20} a0 v1/0{6,20}{6} y- r[] o[] x{} b0" ∷
    "= 25" ∷
    "6 NonPrim - g1 w0 p1@1{6,20} a0 v1/0{6,20}{6} y- r[] o[] x{} b1" ∷
    "= 27" ∷
    "20 NonPrim t3 g1 w0 p1@1{6,20} a0 v- y![] r[] o[] x{} b0" ∷
    "= 28" ∷
    "6 ExchangeStates c4 g1 w0 p1@1{6,20} a0 v1/0{6,20}{6} y- r[] o[] x{} b1" ∷
    "= 29" ∷
    "20 ExchangeStates c5 g1 w0 p1@1{6,20} a0 v- y![] r[] o[] x{} b0" ∷
    "= 31" ∷
    "made 6:1 inc \"x\" 4; move \"a\" \"b\" 9223372036854775807; put \"x\" -9223372036854775807; inc \"y\" 10 ? get \"k2\"" ∷
    "6 NonPrim c4 g1 w0 p1@1{6,20} a0 v1/0{6,20}{6} y- r[] o[6:1] x{} b0" ∷
    "= 32" ∷
    "20 NonPrim c5 g1 w0 p1@1{6,20} a0 v- y![] r[] o[] x{} b0" ∷
    "= 34" ∷
    "6 NonPrim c4 g1 w0 p1@1{6,20} a0 v1/0{6,20}{6} y- r[6:1] o[] x{} b0" ∷
    "= 42" ∷
    "made 20:2 inc \"abc\" 1; del \"a\"; inc \"abc\" 3; inc \"abc\" 11" ∷
    "20 NonPrim c5 g1 w0 p1@1{6,20} a0 v- y![] r[] o[20:2] x{} b0" ∷
    "= 43" ∷
    "made 20:3 inc \"b\" 9223372036854775807" ∷
    "20 NonPrim c5 g1 w0 p1@1{6,20} a0 v- y![] r[] o[20:2,20:3] x{} b0" ∷
    "= 44" ∷
    "6 NonPrim t4 g1 w0 p1@1{6,20} a0 v1/0{6,20}{6} y- r[6:1] o[] x{} b0" ∷
    "= 45" ∷
    "20 NonPrim t5 g1 w0 p1@1{6,20} a0 v- y![] r[] o[20:2,20:3] x{} b0" ∷
    "= 46" ∷
    "6 ExchangeStates c6 g1 w0 p1@1{6,20} a0 v1/0{6,20}{6} y- r[6:1] o[] x{} b0" ∷
    "20 ExchangeStates c6 g1 w0 p1@1{6,20} a0 v- y![] r[20:2,20:3] o[] x{} b0" ∷
    "= 48" ∷
    "6 ExchangeActions c6 g1 w0 p1@1{6,20} a0 v1/0{6,20}{6} y- r[6:1] o[] x{} b0" ∷
    "= 49" ∷
    "20 ExchangeActions c6 g1 w0 p1@1{6,20} a0 v- y![] r[20:2,20:3] o[] x{} b0" ∷
    "= 50" ∷
    "20 ExchangeActions c6 g1 w0 p1@1{6,20} a0 v- y![] r[20:2,20:3] o[] x{} b1" ∷
    "= 51" ∷
    "20 ExchangeActions c6 g1 w0 p1@1{6,20} a0 v- y![] r[20:2,20:3] o[] x{} b2" ∷
    "= 54" ∷
    "6 NonPrim t6 g1 w0 p1@1{6,20} a0 v1/0{6,20}{6} y- r[6:1] o[] x{} b0" ∷
    "= 55" ∷
    "20 NonPrim t6 g1 w0 p1@1{6,20} a0 v- y![] r[20:2,20:3] o[] x{} b2" ∷
    "= 56" ∷
    "6 ExchangeStates c7 g1 w0 p1@1{6,20} a0 v1/0{6,20}{6} y- r[6:1] o[] x{} b0" ∷
    "20 ExchangeStates c7 g1 w0 p1@1{6,20} a0 v- y![] r[20:2,20:3] o[] x{} b2" ∷
    "= 57" ∷
    "20 ExchangeStates c7 g1 w0 p1@1{6,20} a0 v- y![] r[20:2,20:3] o[] x{} b3" ∷
    "= 58" ∷
    "6 ExchangeStates c7 g1 w0 p1@1{6,20} a0 v1/0{6,20}{6} y- r[6:1] o[] x{} b1" ∷
    "= 59" ∷
    "6 NonPrim t7 g1 w0 p1@1{6,20} a0 v1/0{6,20}{6} y- r[6:1] o[] x{} b1" ∷
    "20 NonPrim t7 g1 w0 p1@1{6,20} a0 v- y![] r[20:2,20:3] o[] x{} b3" ∷
    "= 62" ∷
    "6 ExchangeStates c8 g1 w0 p1@1{6,20} a0 v1/0{6,20}{6} y- r[6:1] o[] x{} b1" ∷
    "20 ExchangeStates c8 g1 w0 p1@1{6,20} a0 v- y![] r[20:2,20:3] o[] x{} b3" ∷
    "= 64" ∷
    "6 ExchangeActions c8 g1 w0 p1@1{6,20} a0 v1/0{6,20}{6} y- r[6:1] o[] x{} b1" ∷
    "= 65" ∷
    "20 ExchangeActions c8 g1 w0 p1@1{6,20} a0 v- y![] r[20:2,20:3] o[] x{} b3" ∷
    "= 68" ∷
    "20 ExchangeActions c8 g1 w0 p1@1{6,20} a0 v- y![] r[6:1,20:2,20:3] o[] x{} b3" ∷
    "= 69" ∷
    "20 ExchangeActions c8 g1 w0 p1@1{6,20} a0 v- y![] r[6:1,20:2,20:3] o[] x{} b4" ∷
    "= 71" ∷
    "6 Construct c8 g1 w0 p1@1{6,20} a1 v8/1{6,20}{6} y![] r[6:1,20:2,20:3] o[] x{} b1" ∷
    "= 72" ∷
    "20 Construct c8 g1 w0 p1@1{6,20} a1 v8/1{6,20}{20} y![] r[6:1,20:2,20:3] o[] x{} b4" ∷
    "= 74" ∷
    "made 6:2 put \"ab\" \"; ? #\"" ∷
    "order 2 6:1" ∷
    "order 3 20:2" ∷
    "order 4 20:3" ∷
    "6 RegPrim c8 g4 w1 p2@8{6,20} a0 v8/1{6,20}{6} y- r[] o[6:2] x{} b0" ∷
    "reply 6:1 aborted 2 ? absent" ∷
    "= 75" ∷
    "made 20:4 inc \"b\" 1" ∷
    "made 20:5 put \"y\" 5" ∷
    "made 20:6 put \"z\" 11; put \"b\" 38; inc \"abc\" 11" ∷
    "made 20:7 inc \"z\" 3; del \"x\" ? count" ∷
    "20 RegPrim c8 g4 w1 p2@8{6,20} a0 v8/1{6,20}{20} y- r[] o[20:4,20:5,20:6,20:7] x{} b0" ∷
    "reply 20:2 done" ∷
    "reply 20:3 done" ∷
    "= 76" ∷
    "6 TransPrim t8 g4 w1 p2@8{6,20} a0 v8/1{6,20}{6} y- r[] o[6:2] x{} b0" ∷
    "20 TransPrim t8 g4 w1 p2@8{6,20} a0 v8/1{6,20}{20} y- r[] o[20:4,20:5,20:6,20:7] x{} b0" ∷
    "= 77" ∷
    "20 TransPrim t8 g4 w1 p2@8{6,20} a0 v8/1{6,20}{20} y- r[] o[20:4,20:5,20:6,20:7] x{} b1" ∷
    "end 77" ∷
    [])
unfolding cases_compute
two_replicas_primary_lost_and_reds_ordered_crash_in_a_device_call_a_from_discarding = refl

-- Replicas at the start: 2: a primary is lost in a partition, and after a merge red actions are ordered; a crash strikes inside a device call.
two_replicas_primary_lost_and_reds_ordered_crash_in_a_device_call_b :
    replayed_text (
    "start 3 11" ∷
    "merge 3 11" ∷
    "rounds 2" ∷
    "rounds 3" ∷
    "gather" ∷
    "gather" ∷
    "gather" ∷
    "gather" ∷
    "gather" ∷
    "request 11 move \"b\" \"z\" 1" ∷
    "request 3 cas \"abc\" absent \"-1\"" ∷
    "split 11" ∷
    "split 3" ∷
    "merge 3 11" ∷
    "gather" ∷
    "deliver 3 1" ∷
    "gather" ∷
    "gather" ∷
    "request 11 put \"y\" 61" ∷
    "deliver 3 1" ∷
    "gather" ∷
    "deliver 11 3" ∷
    "stop 3 16 0101010101" ∷
    "show 11" ∷
    "gather" ∷
    "gather" ∷
    "request 3 del \"b\" ? get \"z\"" ∷
    "split 3 11" ∷
    "merge 3 11" ∷
    "rounds 3" ∷
    "request 3 put \"b\" 9223372036854775807; inc \"a\" 3 ? get \"b\"" ∷
    "recover 3" ∷
    "request 3 put \"y\" \"yes \\\"no\\\"\"; put \"a\" \"back\\\\slash\"; del \"z\"; put \"y\" 77" ∷
    "rounds 2" ∷
    "merge 3" ∷
    "order 3" ∷
    "deliver 3 1" ∷
    "order 3" ∷
    "split 3" ∷
    "merge 3" ∷
    "order 3" ∷
    "end" ∷
    [])
    ≡ written (
    "= 1" ∷
    "3 NonPrim - g0 w0 p0@0{3,11} a0 v- y- r[] o[] x{} b0" ∷
    "11 NonPrim - g0 w0 p0@0{3,11} a0 v- y- r[] o[] x{} b0" ∷
    "= 2" ∷
    "3 ExchangeStates c1 g0 w0 p0@0{3,11} a0 v- y- r[] o[] x{} b0" ∷
    "11 ExchangeStates c1 g0 w0 p0@0{3,11} a0 v- y- r[] o[] x{} b0" ∷
    "= 4" ∷
    "3 Construct c1 g0 w0 p0@0{3,11} a1 v1/0{3,11}{3} y- r[] o[] x{} b0" ∷
    "= 5" ∷
    "11 Construct c1 g0 w0 p0@0{3,11} a1 v1/0{3,11}{11} y- r[] o[] x{} b0" ∷
    "= 7" ∷
    "3 RegPrim c1 g0 w0 p1@1{3,11} a0 v1/0{3,11}{3} y- r[] o[] x{} b0" ∷
    "= 8" ∷
    "11 RegPrim c1 g0 w0 p1@1{3,11} a0 v1/0{3,11}{11} y- r[] o[] x{} b0" ∷
    "= 17" ∷
    "made 11:1 move \"b\" \"z\" 1" ∷
    "11 RegPrim c1 g0 w0 p1@1{3,11} a0 v1/0{3,11}{11} y- r[] o[11:1] x{} b0" ∷
    "= 18" ∷
    "made 3:1 cas \"abc\" absent \"-1\"" ∷
    "3 RegPrim c1 g0 w0 p1@1{3,11} a0 v1/0{3,11}{3} y- r[] o[3:1] x{} b0" ∷
    "= 19" ∷
    "11 TransPrim t1 g0 w0 p1@1{3,11} a0 v1/0{3,11}{11} y- r[] o[11:1] x{} b0" ∷
    "= 20" ∷
    "3 TransPrim t1 g0 w0 p1@1{3,11} a0 v1/0{3,11}{3} y- r[] o[3:1] x{} b0" ∷
    "= 21" ∷
    "3 ExchangeStates c2 g0 w0 p1@1{3,11} a0 v- y![] r[3:1] o[] x{} b0" ∷
    "11 ExchangeStates c2 g0 w0 p1@1{3,11} a0 v- y![] r[11:1] o[] x{} b0" ∷
    "= 26" ∷
    "11 ExchangeStates c2 g0 w0 p1@1{3,11} a0 v- y![] r[11:1] o[] x{} b1" ∷
    "= 27" ∷
    "3 ExchangeActions c2 g0 w0 p1@1{3,11} a0 v- y![] r[3:1] o[] x{} b0" ∷
    "= 29" ∷
    "11 ExchangeActions c2 g0 w0 p1@1{3,11} a0 v- y![] r[3:1,11:1] o[] x{} b1" ∷
    "= 31" ∷
    "greens 11 []" ∷
    "db 11" ∷
    "= 34" ∷
    "3 ExchangeActions c2 g0 w0 p1@1{3,11} a0 v- y![] r[3:1] o[] x{} b1" ∷
    "= 35" ∷
    "3 NonPrim t2 g0 w0 p1@1{3,11} a0 v- y![] r[3:1] o[] x{} b1" ∷
    "11 NonPrim t2 g0 w0 p1@1{3,11} a0 v- y![] r[3:1,11:1] o[] x{} b1" ∷
    "= 36" ∷
    "3 ExchangeStates c3 g0 w0 p1@1{3,11} a0 v- y![] r[3:1] o[] x{} b1" ∷
    "11 ExchangeStates c3 g0 w0 p1@1{3,11} a0 v- y![] r[3:1,11:1] o[] x{} b1" ∷
    "= 38" ∷
    "3 ExchangeActions c3 g0 w0 p1@1{3,11} a0 v- y![] r[3:1] o[] x{} b1" ∷
    "= 39" ∷
    "11 ExchangeActions c3 g0 w0 p1@1{3,11} a0 v- y![] r[3:1,11:1] o[] x{} b1" ∷
    "= 41" ∷
    "3 Construct c3 g0 w0 p1@1{3,11} a1 v3/1{3,11}{3} y![] r[3:1,11:1] o[] x{} b1" ∷
    "= 42" ∷
    "11 Construct c3 g0 w0 p1@1{3,11} a1 v3/1{3,11}{11} y![] r[3:1,11:1] o[] x{} b1" ∷
    "= 44" ∷
    "made 3:2 del \"b\" ? get \"z\"" ∷
    "order 1 3:1" ∷
    "order 2 11:1" ∷
    "3 RegPrim c3 g2 w0 p2@3{3,11} a0 v3/1{3,11}{3} y- r[] o[3:2] x{} b0" ∷
    "reply 3:1 done" ∷
    "= 45" ∷
    "made 11:2 put \"y\" 61" ∷
    "11 RegPrim c3 g2 w0 p2@3{3,11} a0 v3/1{3,11}{11} y- r[] o[11:2] x{} b0" ∷
    "reply 11:1 aborted 1" ∷
    "= 46" ∷
    "made 3:3 put \"b\" 9223372036854775807; inc \"a\" 3 ? get \"b\"" ∷
    "3 RegPrim c3 g2 w0 p2@3{3,11} a0 v3/1{3,11}{3} y- r[] o[3:2,3:3] x{} b0" ∷
    "refused 32 10 3" ∷
    [])
unfolding cases_compute
two_replicas_primary_lost_and_reds_ordered_crash_in_a_device_call_b = refl

-- Replicas at the start: 2: a primary is lost in a partition, and after a merge red actions are ordered; a crash strikes inside a device call.
two_replicas_primary_lost_and_reds_ordered_crash_in_a_device_call_c :
    replayed_text (
    "start 13 19" ∷
    "merge 19" ∷
    "merge 13" ∷
    "rounds 2" ∷
    "request 13 inc \"y\" 10" ∷
    "request 13 inc \"y\" 1; cas \"z\" \"TTTTTTTTTT\" 62; cas \"b\" 31 13; cas \"z\" 0 58; need \"a\" 95; del \"y\"; inc \"k1\" 2; inc \"a\" 11; inc \"x\" -3; need \"a\" 59; inc \"abc\" 6; inc \"abc\" 10; move \"x\" \"x\" 5; cas \"z\" 89 43; inc \"abc\" -3; del \"a\" ? count" ∷
    "order 13" ∷
    "fail 13 7" ∷
    "split 13" ∷
    "split 19" ∷
    "merge 13 19" ∷
    "gather" ∷
    "rounds 1" ∷
    "recover 13" ∷
    "merge 13" ∷
    "request 19 need \"ab\" 69" ∷
    "order 13" ∷
    "deliver 13 1" ∷
    "order 13" ∷
    "deliver 13 1" ∷
    "rounds 1" ∷
    "request 13 put \"z\" 66" ∷
    "order 13" ∷
    "request 13 inc \"x\" -3" ∷
    "deliver 13 1" ∷
    "request 13 inc \"a\" -1" ∷
    "request 13 inc \"x\" 5" ∷
    "gather" ∷
    "deliver 13 1" ∷
    "gather" ∷
    "split 13" ∷
    "request 13 need \"ab\" 82" ∷
    "split 19" ∷
    "merge 13 19" ∷
    "rounds 1" ∷
    "end" ∷
    [])
    ≡ written (
    "= 1" ∷
    "13 NonPrim - g0 w0 p0@0{13,19} a0 v- y- r[] o[] x{} b0" ∷
    "19 NonPrim - g0 w0 p0@0{13,19} a0 v- y- r[] o[] x{} b0" ∷
    "= 2" ∷
    "19 ExchangeStates c1 g0 w0 p0@0{13,19} a0 v- y- r[] o[] x{} b0" ∷
    "= 3" ∷
    "13 ExchangeStates c2 g0 w0 p0@0{13,19} a0 v- y- r[] o[] x{} b0" ∷
    "= 5" ∷
    "13 Construct c2 g0 w0 p0@0{13,19} a1 v2/0{13}{13} y- r[] o[] x{} b0" ∷
    "= 6" ∷
    "19 NonPrim c1 g0 w0 p0@0{13,19} a0 v- y- r[] o[] x{} b0" ∷
    "= 8" ∷
    "13 RegPrim c2 g0 w0 p1@2{13} a0 v2/0{13}{13} y- r[] o[] x{} b0" ∷
    "= 9" ∷
    "made 13:1 inc \"y\" 10" ∷
    "13 RegPrim c2 g0 w0 p1@2{13} a0 v2/0{13}{13} y- r[] o[13:1] x{} b0" ∷
    "= 10" ∷
    "made 13:2 inc \"y\" 1; cas \"z\" \"TTTTTTTTTT\" 62; cas \"b\" 31 13; cas \"z\" 0 58; need \"a\" 95; del \"y\"; inc \"k1\" 2; inc \"a\" 11; inc \"x\" -3; need \"a\" 59; inc \"abc\" 6; inc \"abc\" 10; move \"x\" \"x\" 5; cas \"z\" 89 43; inc \"abc\" -3; del \"a\" ? count" ∷
    "13 RegPrim c2 g0 w0 p1@2{13} a0 v2/0{13}{13} y- r[] o[13:1,13:2] x{} b0" ∷
    "= 13" ∷
    "13 TransPrim t2 g0 w0 p1@2{13} a0 v2/0{13}{13} y?[13:1] r[] o[13:2] x{} b0" ∷
    "= 14" ∷
    "19 NonPrim t1 g0 w0 p0@0{13,19} a0 v- y- r[] o[] x{} b0" ∷
    "= 15" ∷
    "13 Down" ∷
    "19 ExchangeStates c3 g0 w0 p0@0{13,19} a0 v- y- r[] o[] x{} b0" ∷
    "= 18" ∷
    "13 NonPrim - g0 w0 p1@2{13} a0 v2/0{13}{13} y?[13:1] r[13:2] o[] x{} b0" ∷
    "= 19" ∷
    "13 ExchangeStates c4 g0 w0 p1@2{13} a0 v2/0{13}{13} y?[13:1] r[13:2] o[] x{} b0" ∷
    "= 20" ∷
    "19 ExchangeStates c3 g0 w0 p0@0{13,19} a0 v- y- r[] o[] x{} b1" ∷
    "= 22" ∷
    "13 Construct c4 g0 w0 p1@2{13} a1 v4/1{13}{13} y- r[13:1,13:2] o[] x{} b0" ∷
    "= 24" ∷
    "order 1 13:1" ∷
    "order 2 13:2" ∷
    "13 RegPrim c4 g2 w0 p2@4{13} a0 v4/1{13}{13} y- r[] o[] x{} b0" ∷
    "= 26" ∷
    "made 13:3 put \"z\" 66" ∷
    "13 RegPrim c4 g2 w0 p2@4{13} a0 v4/1{13}{13} y- r[] o[13:3] x{} b0" ∷
    "= 28" ∷
    "made 13:4 inc \"x\" -3" ∷
    "13 RegPrim c4 g2 w0 p2@4{13} a0 v4/1{13}{13} y- r[] o[13:3,13:4] x{} b0" ∷
    "= 29" ∷
    "order 3 13:3" ∷
    "13 RegPrim c4 g3 w0 p2@4{13} a0 v4/1{13}{13} y- r[] o[13:4] x{} b0" ∷
    "reply 13:3 done" ∷
    "= 30" ∷
    "made 13:5 inc \"a\" -1" ∷
    "13 RegPrim c4 g3 w0 p2@4{13} a0 v4/1{13}{13} y- r[] o[13:4,13:5] x{} b0" ∷
    "= 31" ∷
    "made 13:6 inc \"x\" 5" ∷
    "13 RegPrim c4 g3 w0 p2@4{13} a0 v4/1{13}{13} y- r[] o[13:4,13:5,13:6] x{} b0" ∷
    "= 33" ∷
    "order 4 13:4" ∷
    "13 RegPrim c4 g4 w0 p2@4{13} a0 v4/1{13}{13} y- r[] o[13:5,13:6] x{} b0" ∷
    "reply 13:4 done" ∷
    "= 35" ∷
    "13 TransPrim t4 g4 w0 p2@4{13} a0 v4/1{13}{13} y?[13:5,13:6] r[] o[] x{} b0" ∷
    "= 36" ∷
    "13 TransPrim t4 g4 w0 p2@4{13} a0 v4/1{13}{13} y?[13:5,13:6] r[] o[] x{} b1" ∷
    "= 37" ∷
    "19 NonPrim t3 g0 w0 p0@0{13,19} a0 v- y- r[] o[] x{} b1" ∷
    "= 38" ∷
    "13 ExchangeStates c5 g4 w0 p2@4{13} a0 v- y![13:5,13:6] r[] o[] x{} b1" ∷
    "19 ExchangeStates c5 g0 w0 p0@0{13,19} a0 v- y- r[] o[] x{} b1" ∷
    "= 40" ∷
    "13 ExchangeActions c5 g4 w0 p2@4{13} a0 v- y![13:5,13:6] r[] o[] x{} b1" ∷
    "= 41" ∷
    "19 ExchangeActions c5 g0 w0 p0@0{13,19} a0 v- y- r[] o[] x{} b1" ∷
    "end 41" ∷
    [])
unfolding cases_compute
two_replicas_primary_lost_and_reds_ordered_crash_in_a_device_call_c = refl
