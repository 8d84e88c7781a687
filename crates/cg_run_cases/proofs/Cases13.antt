-- Cases of cases/ with their whole reports, which `.ci/theorems` writes down here.
use Rattle.std.specs.Prelude.{◌≡◌, [], ◌∷◌}
use mathlib.Core.Path.{refl}
use Rattle.cg_run_cases.specs.Replaying.{replayed_text, written}
use Rattle.cg_run_cases.specs.Computing.{cases_compute}

-- Replicas at the start: 4: a primary is lost in a partition, and after a merge red actions are ordered; a crash strikes inside a device call.
four_replicas_primary_lost_and_reds_ordered_crash_in_a_device_call_d_from_discarding :
    replayed_text (
    "start 1 2 3 4" ∷
    "merge 1 2 3 4" ∷
    "rounds 3" ∷
    "rounds 1" ∷
    "gather" ∷
    "request 2 inc \"x\" 0" ∷
    "request 4 inc \"k1\" 6" ∷
    "request 2 put \"z\" -9223372036854775808" ∷
    "request 1 put \"abc\" 9223372036854775806" ∷
    "request 2 move \"k1\" \"z\" 9223372036854775807 ? get \"abc\"" ∷
    "request 3 ? get \"y\"" ∷
    "rounds 3" ∷
    "gather" ∷
    "request 2 put \"abc\" 9 ? count" ∷
    "request 3 inc \"z\" 7" ∷
    "request 3 inc \"a\" -2" ∷
    "order 3" ∷
    "split 1 2 4" ∷
    "merge 1 2 4" ∷
    "join 3 9" ∷
    "rounds 2" ∷
    "rounds 2" ∷
    "join 3 15" ∷
    "request 1 del \"y\"" ∷
    "stop 2 1 010101010101010101" ∷
    "gather" ∷
    "deliver 1 1" ∷
    "stop 1 3 0101010101010101010101010101010101010101" ∷
    "rounds 3" ∷
    "dirty 1 get \"z\"" ∷
    "gather" ∷
    "join 1 5" ∷
    "recover 1" ∷
    "request 3 inc \"abc\" 1" ∷
    "request 3 cas \"y\" absent 80 ? get \"y\"" ∷
    "gather" ∷
    "show 1" ∷
    "leave 3 1" ∷
    "merge 1" ∷
    "request 4 put \"b\" 81 ? get \"y\"" ∷
    "split 3" ∷
    "split 4" ∷
    "split 1" ∷
    "merge 1 3 4" ∷
    "rounds 4" ∷
    "split 1 3 4" ∷
    "merge 1 3 4" ∷
    "request 3 put \"y\" 93" ∷
    "join 4 6" ∷
    "rounds 3" ∷
    "rounds 3" ∷
    "fail 1 4" ∷
    "request 4 need \"a\" absent" ∷
    "leave 3 3" ∷
    "request 4 inc \"z\" 8; put \"k1\" 25" ∷
    "join 3 7" ∷
    "stop 4 0 -" ∷
    "recover 4" ∷
    "order 3" ∷
    "end" ∷
    [])
    ≡ written (
    "= 1" ∷
    "1 NonPrim - g0 w0 p0@0{1,2,3,4} a0 v- y- r[] o[] x{} b0" ∷
    "2 NonPrim - g0 w0 p0@0{1,2,3,4} a0 v- y- r[] o[] x{} b0" ∷
    "3 NonPrim - g0 w0 p0@0{1,2,3,4} a0 v- y- r[] o[] x{} b0" ∷
    "4 NonPrim - g0 w0 p0@0{1,2,3,4} a0 v- y- r[] o[] x{} b0" ∷
    "= 2" ∷
    "1 ExchangeStates c1 g0 w0 p0@0{1,2,3,4} a0 v- y- r[] o[] x{} b0" ∷
    "2 ExchangeStates c1 g0 w0 p0@0{1,2,3,4} a0 v- y- r[] o[] x{} b0" ∷
    "3 ExchangeStates c1 g0 w0 p0@0{1,2,3,4} a0 v- y- r[] o[] x{} b0" ∷
    "4 ExchangeStates c1 g0 w0 p0@0{1,2,3,4} a0 v- y- r[] o[] x{} b0" ∷
    "= 4" ∷
    "1 Construct c1 g0 w0 p0@0{1,2,3,4} a1 v1/0{1,2,3,4}{1} y- r[] o[] x{} b0" ∷
    "= 5" ∷
    "2 Construct c1 g0 w0 p0@0{1,2,3,4} a1 v1/0{1,2,3,4}{2} y- r[] o[] x{} b0" ∷
    "= 6" ∷
    "3 Construct c1 g0 w0 p0@0{1,2,3,4} a1 v1/0{1,2,3,4}{3} y- r[] o[] x{} b0" ∷
    "= 7" ∷
    "4 Construct c1 g0 w0 p0@0{1,2,3,4} a1 v1/0{1,2,3,4}{4} y- r[] o[] x{} b0" ∷
    "= 9" ∷
    "1 RegPrim c1 g0 w0 p1@1{1,2,3,4} a0 v1/0{1,2,3,4}{1} y- r[] o[] x{} b0" ∷
    "= 10" ∷
    "2 RegPrim c1 g0 w0 p1@1{1,2,3,4} a0 v1/0{1,2,3,4}{2} y- r[] o[] x{} b0" ∷
    "= 11" ∷
    "3 RegPrim c1 g0 w0 p1@1{1,2,3,4} a0 v1/0{1,2,3,4}{3} y- r[] o[] x{} b0" ∷
    "= 12" ∷
    "4 RegPrim c1 g0 w0 p1@1{1,2,3,4} a0 v1/0{1,2,3,4}{4} y- r[] o[] x{} b0" ∷
    "= 16" ∷
    "made 2:1 inc \"x\" 0" ∷
    "2 RegPrim c1 g0 w0 p1@1{1,2,3,4} a0 v1/0{1,2,3,4}{2} y- r[] o[2:1] x{} b0" ∷
    "= 17" ∷
    "made 4:1 inc \"k1\" 6" ∷
    "4 RegPrim c1 g0 w0 p1@1{1,2,3,4} a0 v1/0{1,2,3,4}{4} y- r[] o[4:1] x{} b0" ∷
    "= 18" ∷
    "made 2:2 put \"z\" -9223372036854775808" ∷
    "2 RegPrim c1 g0 w0 p1@1{1,2,3,4} a0 v1/0{1,2,3,4}{2} y- r[] o[2:1,2:2] x{} b0" ∷
    "= 19" ∷
    "made 1:1 put \"abc\" 9223372036854775806" ∷
    "1 RegPrim c1 g0 w0 p1@1{1,2,3,4} a0 v1/0{1,2,3,4}{1} y- r[] o[1:1] x{} b0" ∷
    "= 20" ∷
    "made 2:3 move \"k1\" \"z\" 9223372036854775807 ? get \"abc\"" ∷
    "2 RegPrim c1 g0 w0 p1@1{1,2,3,4} a0 v1/0{1,2,3,4}{2} y- r[] o[2:1,2:2,2:3] x{} b0" ∷
    "= 21" ∷
    "made 3:1 ? get \"y\"" ∷
    "3 RegPrim c1 g0 w0 p1@1{1,2,3,4} a0 v1/0{1,2,3,4}{3} y- r[] o[3:1] x{} b0" ∷
    "= 23" ∷
    "order 1 1:1" ∷
    "order 2 2:1" ∷
    "order 3 2:2" ∷
    "order 4 2:3" ∷
    "order 5 3:1" ∷
    "order 6 4:1" ∷
    "1 RegPrim c1 g6 w0 p1@1{1,2,3,4} a0 v1/0{1,2,3,4}{1} y- r[] o[] x{} b0" ∷
    "reply 1:1 done" ∷
    "= 24" ∷
    "2 RegPrim c1 g6 w0 p1@1{1,2,3,4} a0 v1/0{1,2,3,4}{2} y- r[] o[] x{} b0" ∷
    "reply 2:1 done" ∷
    "reply 2:2 done" ∷
    "reply 2:3 aborted 1 ? 9223372036854775806" ∷
    "= 25" ∷
    "3 RegPrim c1 g6 w0 p1@1{1,2,3,4} a0 v1/0{1,2,3,4}{3} y- r[] o[] x{} b0" ∷
    "reply 3:1 done ? absent" ∷
    "= 26" ∷
    "4 RegPrim c1 g6 w0 p1@1{1,2,3,4} a0 v1/0{1,2,3,4}{4} y- r[] o[] x{} b0" ∷
    "reply 4:1 done" ∷
    "= 30" ∷
    "made 2:4 put \"abc\" 9 ? count" ∷
    "2 RegPrim c1 g6 w0 p1@1{1,2,3,4} a0 v1/0{1,2,3,4}{2} y- r[] o[2:4] x{} b0" ∷
    "= 31" ∷
    "made 3:2 inc \"z\" 7" ∷
    "3 RegPrim c1 g6 w0 p1@1{1,2,3,4} a0 v1/0{1,2,3,4}{3} y- r[] o[3:2] x{} b0" ∷
    "= 32" ∷
    "made 3:3 inc \"a\" -2" ∷
    "3 RegPrim c1 g6 w0 p1@1{1,2,3,4} a0 v1/0{1,2,3,4}{3} y- r[] o[3:2,3:3] x{} b0" ∷
    "= 34" ∷
    "1 TransPrim t1 g6 w0 p1@1{1,2,3,4} a0 v1/0{1,2,3,4}{1} y- r[] o[] x{} b0" ∷
    "2 TransPrim t1 g6 w0 p1@1{1,2,3,4} a0 v1/0{1,2,3,4}{2} y- r[] o[2:4] x{} b0" ∷
    "4 TransPrim t1 g6 w0 p1@1{1,2,3,4} a0 v1/0{1,2,3,4}{4} y- r[] o[] x{} b0" ∷
    "= 35" ∷
    "1 ExchangeStates c2 g6 w0 p1@1{1,2,3,4} a0 v- y![] r[] o[] x{} b0" ∷
    "2 ExchangeStates c2 g6 w0 p1@1{1,2,3,4} a0 v- y![] r[2:4] o[] x{} b0" ∷
    "4 ExchangeStates c2 g6 w0 p1@1{1,2,3,4} a0 v- y![] r[] o[] x{} b0" ∷
    "= 36" ∷
    "made 3:4 join 9" ∷
    "3 RegPrim c1 g6 w0 p1@1{1,2,3,4} a0 v1/0{1,2,3,4}{3} y- r[] o[3:2,3:3,3:4] x{} b0" ∷
    "= 38" ∷
    "1 ExchangeActions c2 g6 w0 p1@1{1,2,3,4} a0 v- y![] r[] o[] x{} b0" ∷
    "= 39" ∷
    "2 ExchangeActions c2 g6 w0 p1@1{1,2,3,4} a0 v- y![] r[2:4] o[] x{} b0" ∷
    "= 40" ∷
    "4 ExchangeActions c2 g6 w0 p1@1{1,2,3,4} a0 v- y![] r[] o[] x{} b0" ∷
    "= 42" ∷
    "1 Construct c2 g6 w0 p1@1{1,2,3,4} a1 v2/1{1,2,4}{1} y![] r[2:4] o[] x{} b0" ∷
    "= 43" ∷
    "2 Construct c2 g6 w0 p1@1{1,2,3,4} a1 v2/1{1,2,4}{2} y![] r[2:4] o[] x{} b0" ∷
    "= 44" ∷
    "4 Construct c2 g6 w0 p1@1{1,2,3,4} a1 v2/1{1,2,4}{4} y![] r[2:4] o[] x{} b0" ∷
    "= 46" ∷
    "order 7 2:4" ∷
    "1 RegPrim c2 g7 w0 p2@2{1,2,4} a0 v2/1{1,2,4}{1} y- r[] o[] x{} b0" ∷
    "= 47" ∷
    "2 RegPrim c2 g7 w0 p2@2{1,2,4} a0 v2/1{1,2,4}{2} y- r[] o[] x{} b0" ∷
    "reply 2:4 done ? count 4" ∷
    "= 48" ∷
    "4 RegPrim c2 g7 w0 p2@2{1,2,4} a0 v2/1{1,2,4}{4} y- r[] o[] x{} b0" ∷
    "= 50" ∷
    "made 3:5 join 15" ∷
    "3 RegPrim c1 g6 w0 p1@1{1,2,3,4} a0 v1/0{1,2,3,4}{3} y- r[] o[3:2,3:3,3:4,3:5] x{} b0" ∷
    "= 51" ∷
    "made 1:2 del \"y\"" ∷
    "1 RegPrim c2 g7 w0 p2@2{1,2,4} a0 v2/1{1,2,4}{1} y- r[] o[1:2] x{} b0" ∷
    "= 54" ∷
    "order 8 1:2" ∷
    "1 RegPrim c2 g8 w0 p2@2{1,2,4} a0 v2/1{1,2,4}{1} y- r[] o[] x{} b0" ∷
    "reply 1:2 done" ∷
    "= 57" ∷
    "2 Down" ∷
    "= 58" ∷
    "4 RegPrim c2 g8 w0 p2@2{1,2,4} a0 v2/1{1,2,4}{4} y- r[] o[] x{} b0" ∷
    "= 61" ∷
    "dirty 1 -9223372036854775808" ∷
    "= 63" ∷
    "1 Down" ∷
    "= 64" ∷
    "made 1:3 join 5" ∷
    "1 NonPrim - g8 w0 p2@2{1,2,4} a0 v2/1{1,2,4}{1} y- r[1:3] o[] x{} b0" ∷
    "= 65" ∷
    "made 3:6 inc \"abc\" 1" ∷
    "3 RegPrim c1 g6 w0 p1@1{1,2,3,4} a0 v1/0{1,2,3,4}{3} y- r[] o[3:2,3:3,3:4,3:5,3:6] x{} b0" ∷
    "= 66" ∷
    "made 3:7 cas \"y\" absent 80 ? get \"y\"" ∷
    "3 RegPrim c1 g6 w0 p1@1{1,2,3,4} a0 v1/0{1,2,3,4}{3} y- r[] o[3:2,3:3,3:4,3:5,3:6,3:7] x{} b0" ∷
    "= 68" ∷
    "greens 1 [1:1,2:1,2:2,2:3,3:1,4:1,2:4,1:2]" ∷
    "db 1 \"abc\"=9 \"k1\"=6 \"x\"=0 \"z\"=-9223372036854775808" ∷
    "= 69" ∷
    "made 3:8 leave 1" ∷
    "3 RegPrim c1 g6 w0 p1@1{1,2,3,4} a0 v1/0{1,2,3,4}{3} y- r[] o[3:2,3:3,3:4,3:5,3:6,3:7,3:8] x{} b0" ∷
    "= 70" ∷
    "1 ExchangeStates c3 g8 w0 p2@2{1,2,4} a0 v2/1{1,2,4}{1} y- r[1:3] o[] x{} b0" ∷
    "= 71" ∷
    "made 4:2 put \"b\" 81 ? get \"y\"" ∷
    "4 RegPrim c2 g8 w0 p2@2{1,2,4} a0 v2/1{1,2,4}{4} y- r[] o[4:2] x{} b0" ∷
    "= 72" ∷
    "3 TransPrim t1 g6 w0 p1@1{1,2,3,4} a0 v1/0{1,2,3,4}{3} y?[3:2,3:3,3:4,3:5,3:6,3:7] r[] o[3:8] x{} b0" ∷
    "= 73" ∷
    "4 TransPrim t2 g8 w0 p2@2{1,2,4} a0 v2/1{1,2,4}{4} y- r[] o[4:2] x{} b0" ∷
    "= 74" ∷
    "1 NonPrim t3 g8 w0 p2@2{1,2,4} a0 v2/1{1,2,4}{1} y- r[1:3] o[] x{} b0" ∷
    "= 75" ∷
    "1 ExchangeStates c4 g8 w0 p2@2{1,2,4} a0 v2/1{1,2,4}{1} y- r[1:3] o[] x{} b0" ∷
    "3 ExchangeStates c4 g6 w0 p1@1{1,2,3,4} a0 v- y![3:2,3:3,3:4,3:5,3:6,3:7] r[3:8] o[] x{} b0" ∷
    "4 ExchangeStates c4 g8 w0 p2@2{1,2,4} a0 v- y![] r[4:2] o[] x{} b0" ∷
    "= 77" ∷
    "1 ExchangeActions c4 g8 w0 p2@2{1,2,4} a0 v2/1{1,2,4}{1} y- r[1:3] o[] x{} b0" ∷
    "= 78" ∷
    "3 ExchangeActions c4 g6 w0 p1@1{1,2,3,4} a0 v- y![3:2,3:3,3:4,3:5,3:6,3:7] r[3:8] o[] x{} b0" ∷
    "= 79" ∷
    "4 ExchangeActions c4 g8 w0 p2@2{1,2,4} a0 v- y![] r[4:2] o[] x{} b0" ∷
    "= 82" ∷
    "3 ExchangeActions c4 g8 w0 p1@1{1,2,3,4} a0 v- y![3:2,3:3,3:4,3:5,3:6,3:7] r[3:8] o[] x{} b0" ∷
    "= 86" ∷
    "3 ExchangeActions c4 g8 w0 p1@1{1,2,3,4} a0 v- y![3:2,3:3,3:4,3:5,3:6,3:7] r[1:3,3:8] o[] x{} b0" ∷
    "= 87" ∷
    "4 ExchangeActions c4 g8 w0 p2@2{1,2,4} a0 v- y![] r[1:3,4:2] o[] x{} b0" ∷
    "= 89" ∷
    "1 ExchangeActions c4 g8 w0 p2@2{1,2,4} a0 v2/1{1,2,4}{1} y- r[1:3,3:2,3:3,3:4,3:5,3:6,3:7,3:8] o[] x{} b0" ∷
    "= 91" ∷
    "4 ExchangeActions c4 g8 w0 p2@2{1,2,4} a0 v- y![] r[1:3,3:2,3:3,3:4,3:5,3:6,3:7,3:8,4:2] o[] x{} b0" ∷
    "= 92" ∷
    "1 NonPrim t4 g8 w0 p2@2{1,2,4} a0 v2/1{1,2,4}{1} y- r[1:3,3:2,3:3,3:4,3:5,3:6,3:7,3:8] o[] x{} b0" ∷
    "3 NonPrim t4 g8 w0 p1@1{1,2,3,4} a0 v- y![3:2,3:3,3:4,3:5,3:6,3:7] r[1:3,3:8] o[] x{} b0" ∷
    "4 NonPrim t4 g8 w0 p2@2{1,2,4} a0 v- y![] r[1:3,3:2,3:3,3:4,3:5,3:6,3:7,3:8,4:2] o[] x{} b0" ∷
    "= 93" ∷
    "1 ExchangeStates c5 g8 w0 p2@2{1,2,4} a0 v2/1{1,2,4}{1} y- r[1:3,3:2,3:3,3:4,3:5,3:6,3:7,3:8] o[] x{} b0" ∷
    "3 ExchangeStates c5 g8 w0 p1@1{1,2,3,4} a0 v- y![3:2,3:3,3:4,3:5,3:6,3:7] r[1:3,3:8] o[] x{} b0" ∷
    "4 ExchangeStates c5 g8 w0 p2@2{1,2,4} a0 v- y![] r[1:3,3:2,3:3,3:4,3:5,3:6,3:7,3:8,4:2] o[] x{} b0" ∷
    "= 94" ∷
    "3 ExchangeStates c5 g8 w0 p1@1{1,2,3,4} a0 v- y![3:2,3:3,3:4,3:5,3:6,3:7] r[1:3,3:8] o[] x{} b1" ∷
    "= 95" ∷
    "4 ExchangeStates c5 g8 w0 p2@2{1,2,4} a0 v- y![] r[1:3,3:2,3:3,3:4,3:5,3:6,3:7,3:8,4:2] o[] x{} b1" ∷
    "= 97" ∷
    "1 ExchangeActions c5 g8 w0 p2@2{1,2,4} a0 v2/1{1,2,4}{1} y- r[1:3,3:2,3:3,3:4,3:5,3:6,3:7,3:8] o[] x{} b0" ∷
    "= 98" ∷
    "3 ExchangeActions c5 g8 w0 p1@1{1,2,3,4} a0 v- y![3:2,3:3,3:4,3:5,3:6,3:7] r[1:3,3:8] o[] x{} b1" ∷
    "= 99" ∷
    "4 ExchangeActions c5 g8 w0 p2@2{1,2,4} a0 v- y![] r[1:3,3:2,3:3,3:4,3:5,3:6,3:7,3:8,4:2] o[] x{} b1" ∷
    "= 101" ∷
    "1 Construct c5 g8 w0 p2@2{1,2,4} a1 v5/2{1,3,4}{1} y![] r[1:3,3:2,3:3,3:4,3:5,3:6,3:7,3:8,4:2] o[] x{} b0" ∷
    "= 102" ∷
    "3 Construct c5 g8 w0 p2@2{1,2,4} a1 v5/2{1,3,4}{3} y![] r[1:3,3:2,3:3,3:4,3:5,3:6,3:7,3:8,4:2] o[] x{} b1" ∷
    "= 103" ∷
    "4 Construct c5 g8 w0 p2@2{1,2,4} a1 v5/2{1,3,4}{4} y![] r[1:3,3:2,3:3,3:4,3:5,3:6,3:7,3:8,4:2] o[] x{} b1" ∷
    "= 105" ∷
    "order 9 1:3" ∷
    "order 10 3:2" ∷
    "order 11 3:3" ∷
    "order 12 3:4" ∷
    "order 13 3:5" ∷
    "order 14 3:6" ∷
    "order 15 3:7" ∷
    "order 16 3:8" ∷
    "order 17 4:2" ∷
    "1 RegPrim c5 g17 w6 p3@5{1,3,4} a0 v5/2{1,3,4}{1} y- r[] o[] x{1} b0" ∷
    "= 106" ∷
    "made 3:9 put \"y\" 93" ∷
    "3 RegPrim c5 g17 w6 p3@5{1,3,4} a0 v5/2{1,3,4}{3} y- r[] o[3:9] x{1} b0" ∷
    "reply 3:2 done" ∷
    "reply 3:3 done" ∷
    "reply 3:4 done" ∷
    "reply 3:5 done" ∷
    "reply 3:6 done" ∷
    "reply 3:7 done ? 80" ∷
    "reply 3:8 done" ∷
    "= 107" ∷
    "made 4:3 join 6" ∷
    "4 RegPrim c5 g17 w6 p3@5{1,3,4} a0 v5/2{1,3,4}{4} y- r[] o[4:3] x{1} b0" ∷
    "reply 4:2 done ? 80" ∷
    "= 109" ∷
    "order 18 3:9" ∷
    "order 19 4:3" ∷
    "1 RegPrim c5 g19 w6 p3@5{1,3,4} a0 v5/2{1,3,4}{1} y- r[] o[] x{1} b0" ∷
    "= 110" ∷
    "3 RegPrim c5 g19 w6 p3@5{1,3,4} a0 v5/2{1,3,4}{3} y- r[] o[] x{1} b0" ∷
    "reply 3:9 done" ∷
    "= 111" ∷
    "4 RegPrim c5 g19 w6 p3@5{1,3,4} a0 v5/2{1,3,4}{4} y- r[] o[] x{1} b0" ∷
    "reply 4:3 done" ∷
    "= 115" ∷
    "made 4:4 need \"a\" absent" ∷
    "4 RegPrim c5 g19 w6 p3@5{1,3,4} a0 v5/2{1,3,4}{4} y- r[] o[4:4] x{1} b0" ∷
    "= 116" ∷
    "made 3:10 leave 3" ∷
    "3 RegPrim c5 g19 w6 p3@5{1,3,4} a0 v5/2{1,3,4}{3} y- r[] o[3:10] x{1} b0" ∷
    "= 117" ∷
    "made 4:5 inc \"z\" 8; put \"k1\" 25" ∷
    "4 RegPrim c5 g19 w6 p3@5{1,3,4} a0 v5/2{1,3,4}{4} y- r[] o[4:4,4:5] x{1} b0" ∷
    "= 118" ∷
    "made 3:11 join 7" ∷
    "3 RegPrim c5 g19 w6 p3@5{1,3,4} a0 v5/2{1,3,4}{3} y- r[] o[3:10,3:11] x{1} b0" ∷
    "= 119" ∷
    "4 Down" ∷
    "= 120" ∷
    "4 NonPrim - g19 w6 p3@5{1,3,4} a0 v5/2{1,3,4}{4} y- r[4:4,4:5] o[] x{1} b0" ∷
    "end 121" ∷
    [])
unfolding cases_compute
four_replicas_primary_lost_and_reds_ordered_crash_in_a_device_call_d_from_discarding = refl

-- Replicas at the start: 4: a primary is lost in a partition, and after a merge red actions are ordered; a crash strikes inside a device call; a server that was removed is told so; the last event is refused.
four_replicas_primary_lost_and_reds_ordered_crash_in_a_device_call_leaver_refused_a :
    replayed_text (
    "start 1 2 3 4" ∷
    "merge 1 2 3 4" ∷
    "rounds 1" ∷
    "gather" ∷
    "deliver 1 4" ∷
    "leave 1 3" ∷
    "stop 2 11 b20001" ∷
    "request 4 put \"y\" 20" ∷
    "request 1 move \"b\" \"ab\" 1; inc \"a\" 7" ∷
    "join 2 28" ∷
    "join 2 5" ∷
    "rounds 2" ∷
    "rounds 2" ∷
    "rounds 1" ∷
    "rounds 2" ∷
    "split 4" ∷
    "split 3" ∷
    "split 1" ∷
    "merge 4" ∷
    "merge 1" ∷
    "merge 3" ∷
    "stop 4 4 01" ∷
    "rounds 3" ∷
    "rounds 2" ∷
    "gather" ∷
    "rounds 2" ∷
    "request 1 put \"a\" 1" ∷
    "gather" ∷
    "request 4 inc \"a\" 6; inc \"ab\" 9; cas \"y\" 57 56 ? count" ∷
    "recover 2" ∷
    "request 1 need \"z\" absent" ∷
    "rounds 2" ∷
    "recover 4" ∷
    "split 1" ∷
    "split 3" ∷
    "merge 1 2 4" ∷
    "rounds 2" ∷
    "rounds 2" ∷
    "rounds 1" ∷
    "request 4 move \"a\" \"a\" 0" ∷
    "split 2" ∷
    "split " ∷
    "end" ∷
    [])
    ≡ written (
    "= 1" ∷
    "1 NonPrim - g0 w0 p0@0{1,2,3,4} a0 v- y- r[] o[] x{} b0" ∷
    "2 NonPrim - g0 w0 p0@0{1,2,3,4} a0 v- y- r[] o[] x{} b0" ∷
    "3 NonPrim - g0 w0 p0@0{1,2,3,4} a0 v- y- r[] o[] x{} b0" ∷
    "4 NonPrim - g0 w0 p0@0{1,2,3,4} a0 v- y- r[] o[] x{} b0" ∷
    "= 2" ∷
    "1 ExchangeStates c1 g0 w0 p0@0{1,2,3,4} a0 v- y- r[] o[] x{} b0" ∷
    "2 ExchangeStates c1 g0 w0 p0@0{1,2,3,4} a0 v- y- r[] o[] x{} b0" ∷
    "3 ExchangeStates c1 g0 w0 p0@0{1,2,3,4} a0 v- y- r[] o[] x{} b0" ∷
    "4 ExchangeStates c1 g0 w0 p0@0{1,2,3,4} a0 v- y- r[] o[] x{} b0" ∷
    "= 4" ∷
    "1 Construct c1 g0 w0 p0@0{1,2,3,4} a1 v1/0{1,2,3,4}{1} y- r[] o[] x{} b0" ∷
    "= 5" ∷
    "2 Construct c1 g0 w0 p0@0{1,2,3,4} a1 v1/0{1,2,3,4}{2} y- r[] o[] x{} b0" ∷
    "= 6" ∷
    "3 Construct c1 g0 w0 p0@0{1,2,3,4} a1 v1/0{1,2,3,4}{3} y- r[] o[] x{} b0" ∷
    "= 7" ∷
    "4 Construct c1 g0 w0 p0@0{1,2,3,4} a1 v1/0{1,2,3,4}{4} y- r[] o[] x{} b0" ∷
    "= 9" ∷
    "1 RegPrim c1 g0 w0 p1@1{1,2,3,4} a0 v1/0{1,2,3,4}{1} y- r[] o[] x{} b0" ∷
    "= 10" ∷
    "made 1:1 leave 3" ∷
    "1 RegPrim c1 g0 w0 p1@1{1,2,3,4} a0 v1/0{1,2,3,4}{1} y- r[] o[1:1] x{} b0" ∷
    "= 12" ∷
    "4 Construct c1 g0 w0 p0@0{1,2,3,4} a1 v1/0{1,2,3,4}{4} y- r[] o[] x{} b1" ∷
    "= 13" ∷
    "made 1:2 move \"b\" \"ab\" 1; inc \"a\" 7" ∷
    "1 RegPrim c1 g0 w0 p1@1{1,2,3,4} a0 v1/0{1,2,3,4}{1} y- r[] o[1:1,1:2] x{} b0" ∷
    "= 14" ∷
    "2 Construct c1 g0 w0 p0@0{1,2,3,4} a1 v1/0{1,2,3,4}{2} y- r[] o[] x{} b1" ∷
    "= 15" ∷
    "2 Construct c1 g0 w0 p0@0{1,2,3,4} a1 v1/0{1,2,3,4}{2} y- r[] o[] x{} b2" ∷
    "= 17" ∷
    "order 1 1:1" ∷
    "order 2 1:2" ∷
    "1 RegPrim c1 g2 w0 p1@1{1,2,3,4} a0 v1/0{1,2,3,4}{1} y- r[] o[] x{3} b0" ∷
    "reply 1:1 done" ∷
    "reply 1:2 aborted 1" ∷
    "= 18" ∷
    "made 2:1 join 28" ∷
    "made 2:2 join 5" ∷
    "2 RegPrim c1 g2 w0 p1@1{1,2,3,4} a0 v1/0{1,2,3,4}{2} y- r[] o[2:1,2:2] x{3} b0" ∷
    "= 19" ∷
    "3 RegPrim c1 g2 w0 p1@1{1,2,3,4} a0 v1/0{1,2,3,4}{3} y- r[] o[] x{3} b0" ∷
    "= 20" ∷
    "made 4:1 put \"y\" 20" ∷
    "4 RegPrim c1 g2 w0 p1@1{1,2,3,4} a0 v1/0{1,2,3,4}{4} y- r[] o[4:1] x{3} b0" ∷
    "= 22" ∷
    "order 3 2:1" ∷
    "order 4 2:2" ∷
    "order 5 4:1" ∷
    "1 RegPrim c1 g5 w0 p1@1{1,2,3,4} a0 v1/0{1,2,3,4}{1} y- r[] o[] x{3} b0" ∷
    "= 23" ∷
    "2 RegPrim c1 g5 w0 p1@1{1,2,3,4} a0 v1/0{1,2,3,4}{2} y- r[] o[] x{3} b0" ∷
    "reply 2:1 done" ∷
    "reply 2:2 done" ∷
    "= 24" ∷
    "3 RegPrim c1 g5 w0 p1@1{1,2,3,4} a0 v1/0{1,2,3,4}{3} y- r[] o[] x{3} b0" ∷
    "= 25" ∷
    "4 RegPrim c1 g5 w0 p1@1{1,2,3,4} a0 v1/0{1,2,3,4}{4} y- r[] o[] x{3} b0" ∷
    "reply 4:1 done" ∷
    "= 31" ∷
    "4 TransPrim t1 g5 w0 p1@1{1,2,3,4} a0 v1/0{1,2,3,4}{4} y- r[] o[] x{3} b0" ∷
    "= 32" ∷
    "3 TransPrim t1 g5 w0 p1@1{1,2,3,4} a0 v1/0{1,2,3,4}{3} y- r[] o[] x{3} b0" ∷
    "= 33" ∷
    "1 TransPrim t1 g5 w0 p1@1{1,2,3,4} a0 v1/0{1,2,3,4}{1} y- r[] o[] x{3} b0" ∷
    "= 34" ∷
    "4 ExchangeStates c2 g5 w0 p1@1{1,2,3,4} a0 v- y![] r[] o[] x{3} b0" ∷
    "= 35" ∷
    "1 ExchangeStates c3 g5 w0 p1@1{1,2,3,4} a0 v- y![] r[] o[] x{3} b0" ∷
    "= 36" ∷
    "3 ExchangeStates c4 g5 w0 p1@1{1,2,3,4} a0 v- y![] r[] o[] x{3} b0" ∷
    "= 39" ∷
    "1 NonPrim c3 g5 w0 p1@1{1,2,3,4} a0 v- y![] r[] o[] x{3} b0" ∷
    "= 40" ∷
    "3 Left c4 g5 w0 p1@1{1,2,3,4} a0 v- y![] r[] o[] x{3} b0" ∷
    "= 41" ∷
    "4 NonPrim c2 g5 w0 p1@1{1,2,3,4} a0 v- y![] r[] o[] x{3} b0" ∷
    "= 49" ∷
    "made 1:3 put \"a\" 1" ∷
    "1 NonPrim c3 g5 w0 p1@1{1,2,3,4} a0 v- y![] r[] o[1:3] x{3} b0" ∷
    "= 51" ∷
    "4 Down" ∷
    "refused 30 10 2" ∷
    [])
unfolding cases_compute
four_replicas_primary_lost_and_reds_ordered_crash_in_a_device_call_leaver_refused_a = refl

-- Replicas at the start: 4: a primary is lost in a partition, and after a merge red actions are ordered; a crash strikes inside a device call; the last event is refused.
four_replicas_primary_lost_and_reds_ordered_crash_in_a_device_call_refused_a :
    replayed_text (
    "start 1 2 3 4" ∷
    "merge 1 2 3 4" ∷
    "rounds 2" ∷
    "request 3 put \"b\" -9223372036854775807 ? count" ∷
    "request 2 del \"k1\"" ∷
    "fail 2 12" ∷
    "request 4 inc \"y\" 4" ∷
    "request 4 put \"z\" 48" ∷
    "order 3" ∷
    "rounds 3" ∷
    "show order" ∷
    "request 3 need \"x\" -9; del \"x\"; put \"b\" 70; put \"b\" 42; put \"y\" 78; inc \"k2\" -3; move \"x\" \"x\" 5; need \"y\" 47; inc \"z\" -1; need \"z\" absent; inc \"a\" 9223372036854775807; inc \"a\" -1; inc \"k1\" -1; put \"z\" 91; inc \"z\" 7; inc \"abc\" 9 ? get \"a\"" ∷
    "show order" ∷
    "request 4 put \"abc\" 36; cas \"a\" 49 \"yes \\\"no\\\"\"; move \"z\" \"b\" 6" ∷
    "recover 2" ∷
    "show order" ∷
    "split 1 3 4" ∷
    "merge 1 2 3 4" ∷
    "order 4" ∷
    "order 1" ∷
    "gather" ∷
    "deliver 1 2" ∷
    "deliver 3 4" ∷
    "deliver 1 2" ∷
    "split 1 2 3 4" ∷
    "request 3 inc \"z\" 1; cas \"ab\" absent 38; put \"x\" \"\"" ∷
    "merge 1 2 3 4" ∷
    "request 4 ? keys \"ab\"" ∷
    "rounds 3" ∷
    "rounds 3" ∷
    "split 1 2 3 4" ∷
    "merge 1 2 3 4" ∷
    "split 1 2 3 4" ∷
    "merge 1 2 3 4" ∷
    "order 4" ∷
    "gather" ∷
    "split 1 2 3 4" ∷
    "merge 1 2 3 4" ∷
    "order 4" ∷
    "receive 1 1" ∷
    "rounds 3" ∷
    "gather" ∷
    "request 1 put \"ab\" 10; move \"a\" \"x\" 5 ? count" ∷
    "request 2 inc \"x\" -1 ? get \"a\"" ∷
    "show 4" ∷
    "request 4 need \"b\" absent" ∷
    "order 4" ∷
    "show 4" ∷
    "receive 1 9" ∷
    "gather" ∷
    "split 2 4" ∷
    "deliver 1 2" ∷
    "request 4 inc \"a\" -9223372036854775808 ? get \"x\"" ∷
    "split 1 2 4" ∷
    "end" ∷
    [])
    ≡ written (
    "= 1" ∷
    "1 NonPrim - g0 w0 p0@0{1,2,3,4} a0 v- y- r[] o[] x{} b0" ∷
    "2 NonPrim - g0 w0 p0@0{1,2,3,4} a0 v- y- r[] o[] x{} b0" ∷
    "3 NonPrim - g0 w0 p0@0{1,2,3,4} a0 v- y- r[] o[] x{} b0" ∷
    "4 NonPrim - g0 w0 p0@0{1,2,3,4} a0 v- y- r[] o[] x{} b0" ∷
    "= 2" ∷
    "1 ExchangeStates c1 g0 w0 p0@0{1,2,3,4} a0 v- y- r[] o[] x{} b0" ∷
    "2 ExchangeStates c1 g0 w0 p0@0{1,2,3,4} a0 v- y- r[] o[] x{} b0" ∷
    "3 ExchangeStates c1 g0 w0 p0@0{1,2,3,4} a0 v- y- r[] o[] x{} b0" ∷
    "4 ExchangeStates c1 g0 w0 p0@0{1,2,3,4} a0 v- y- r[] o[] x{} b0" ∷
    "= 4" ∷
    "1 Construct c1 g0 w0 p0@0{1,2,3,4} a1 v1/0{1,2,3,4}{1} y- r[] o[] x{} b0" ∷
    "= 5" ∷
    "2 Construct c1 g0 w0 p0@0{1,2,3,4} a1 v1/0{1,2,3,4}{2} y- r[] o[] x{} b0" ∷
    "= 6" ∷
    "3 Construct c1 g0 w0 p0@0{1,2,3,4} a1 v1/0{1,2,3,4}{3} y- r[] o[] x{} b0" ∷
    "= 7" ∷
    "4 Construct c1 g0 w0 p0@0{1,2,3,4} a1 v1/0{1,2,3,4}{4} y- r[] o[] x{} b0" ∷
    "= 9" ∷
    "1 RegPrim c1 g0 w0 p1@1{1,2,3,4} a0 v1/0{1,2,3,4}{1} y- r[] o[] x{} b0" ∷
    "= 10" ∷
    "2 RegPrim c1 g0 w0 p1@1{1,2,3,4} a0 v1/0{1,2,3,4}{2} y- r[] o[] x{} b0" ∷
    "= 11" ∷
    "3 RegPrim c1 g0 w0 p1@1{1,2,3,4} a0 v1/0{1,2,3,4}{3} y- r[] o[] x{} b0" ∷
    "= 12" ∷
    "4 RegPrim c1 g0 w0 p1@1{1,2,3,4} a0 v1/0{1,2,3,4}{4} y- r[] o[] x{} b0" ∷
    "= 13" ∷
    "made 3:1 put \"b\" -9223372036854775807 ? count" ∷
    "3 RegPrim c1 g0 w0 p1@1{1,2,3,4} a0 v1/0{1,2,3,4}{3} y- r[] o[3:1] x{} b0" ∷
    "= 14" ∷
    "made 2:1 del \"k1\"" ∷
    "2 RegPrim c1 g0 w0 p1@1{1,2,3,4} a0 v1/0{1,2,3,4}{2} y- r[] o[2:1] x{} b0" ∷
    "= 16" ∷
    "made 4:1 inc \"y\" 4" ∷
    "4 RegPrim c1 g0 w0 p1@1{1,2,3,4} a0 v1/0{1,2,3,4}{4} y- r[] o[4:1] x{} b0" ∷
    "= 17" ∷
    "made 4:2 put \"z\" 48" ∷
    "4 RegPrim c1 g0 w0 p1@1{1,2,3,4} a0 v1/0{1,2,3,4}{4} y- r[] o[4:1,4:2] x{} b0" ∷
    "= 20" ∷
    "order 1 3:1" ∷
    "order 2 2:1" ∷
    "order 3 4:1" ∷
    "order 4 4:2" ∷
    "1 RegPrim c1 g4 w0 p1@1{1,2,3,4} a0 v1/0{1,2,3,4}{1} y- r[] o[] x{} b0" ∷
    "= 21" ∷
    "2 RegPrim c1 g4 w0 p1@1{1,2,3,4} a0 v1/0{1,2,3,4}{2} y- r[] o[] x{} b0" ∷
    "reply 2:1 done" ∷
    "= 22" ∷
    "3 RegPrim c1 g4 w0 p1@1{1,2,3,4} a0 v1/0{1,2,3,4}{3} y- r[] o[] x{} b0" ∷
    "reply 3:1 done ? count 1" ∷
    "= 23" ∷
    "4 RegPrim c1 g4 w0 p1@1{1,2,3,4} a0 v1/0{1,2,3,4}{4} y- r[] o[] x{} b0" ∷
    "reply 4:1 done" ∷
    "reply 4:2 done" ∷
    "= 26" ∷
    "all [3:1,2:1,4:1,4:2]" ∷
    "= 27" ∷
    "made 3:2 need \"x\" -9; del \"x\"; put \"b\" 70; put \"b\" 42; put \"y\" 78; inc \"k2\" -3; move \"x\" \"x\" 5; need \"y\" 47; inc \"z\" -1; need \"z\" absent; inc \"a\" 9223372036854775807; inc \"a\" -1; inc \"k1\" -1; put \"z\" 91; inc \"z\" 7; inc \"abc\" 9 ? get \"a\"" ∷
    "3 RegPrim c1 g4 w0 p1@1{1,2,3,4} a0 v1/0{1,2,3,4}{3} y- r[] o[3:2] x{} b0" ∷
    "= 28" ∷
    "all [3:1,2:1,4:1,4:2]" ∷
    "= 29" ∷
    "made 4:3 put \"abc\" 36; cas \"a\" 49 \"yes \\\"no\\\"\"; move \"z\" \"b\" 6" ∷
    "4 RegPrim c1 g4 w0 p1@1{1,2,3,4} a0 v1/0{1,2,3,4}{4} y- r[] o[4:3] x{} b0" ∷
    "refused 15 10 2" ∷
    [])
unfolding cases_compute
four_replicas_primary_lost_and_reds_ordered_crash_in_a_device_call_refused_a = refl

-- Replicas at the start: 4: a primary is split; a crash strikes inside a device call.
four_replicas_primary_split_crash_in_a_device_call_b :
    replayed_text (
    "start 14 15 22 23" ∷
    "merge 14 15 22 23" ∷
    "rounds 2" ∷
    "gather" ∷
    "stop 15 12 4347525549545931000000" ∷
    "rounds 2" ∷
    "request 23 inc \"y\" 5 ? get \"x\"" ∷
    "gather" ∷
    "deliver 14 1" ∷
    "request 14 ? get \"z\"" ∷
    "deliver 22 1" ∷
    "request 15 inc \"b\" 12" ∷
    "rounds 4" ∷
    "request 14 inc \"x\" -1" ∷
    "request 14 inc \"ab\" 0 ? count" ∷
    "request 14 put \"b\" 66" ∷
    "stop 14 1 ffffffffffffffffffffffffffffffffffffffffffffffffffffffffffffffffffffffffffffffffffffffffffffffffffffffffffffffffffffffffffffffffffffffffffffffffffffffffffffffffffffffffffffffffffffffffffffffffffffffff" ∷
    "request 14 cas \"y\" absent \"hi\" ? get \"x\"" ∷
    "recover 14" ∷
    "gather" ∷
    "gather" ∷
    "gather" ∷
    "split 22 23" ∷
    "merge 14 22 23" ∷
    "end" ∷
    [])
    ≡ written (
    "= 1" ∷
    "14 NonPrim - g0 w0 p0@0{14,15,22,23} a0 v- y- r[] o[] x{} b0" ∷
    "15 NonPrim - g0 w0 p0@0{14,15,22,23} a0 v- y- r[] o[] x{} b0" ∷
    "22 NonPrim - g0 w0 p0@0{14,15,22,23} a0 v- y- r[] o[] x{} b0" ∷
    "23 NonPrim - g0 w0 p0@0{14,15,22,23} a0 v- y- r[] o[] x{} b0" ∷
    "= 2" ∷
    "14 ExchangeStates c1 g0 w0 p0@0{14,15,22,23} a0 v- y- r[] o[] x{} b0" ∷
    "15 ExchangeStates c1 g0 w0 p0@0{14,15,22,23} a0 v- y- r[] o[] x{} b0" ∷
    "22 ExchangeStates c1 g0 w0 p0@0{14,15,22,23} a0 v- y- r[] o[] x{} b0" ∷
    "23 ExchangeStates c1 g0 w0 p0@0{14,15,22,23} a0 v- y- r[] o[] x{} b0" ∷
    "= 4" ∷
    "14 Construct c1 g0 w0 p0@0{14,15,22,23} a1 v1/0{14,15,22,23}{14} y- r[] o[] x{} b0" ∷
    "= 5" ∷
    "15 Construct c1 g0 w0 p0@0{14,15,22,23} a1 v1/0{14,15,22,23}{15} y- r[] o[] x{} b0" ∷
    "= 6" ∷
    "22 Construct c1 g0 w0 p0@0{14,15,22,23} a1 v1/0{14,15,22,23}{22} y- r[] o[] x{} b0" ∷
    "= 7" ∷
    "23 Construct c1 g0 w0 p0@0{14,15,22,23} a1 v1/0{14,15,22,23}{23} y- r[] o[] x{} b0" ∷
    "= 9" ∷
    "14 RegPrim c1 g0 w0 p1@1{14,15,22,23} a0 v1/0{14,15,22,23}{14} y- r[] o[] x{} b0" ∷
    "= 10" ∷
    "15 RegPrim c1 g0 w0 p1@1{14,15,22,23} a0 v1/0{14,15,22,23}{15} y- r[] o[] x{} b0" ∷
    "= 11" ∷
    "22 RegPrim c1 g0 w0 p1@1{14,15,22,23} a0 v1/0{14,15,22,23}{22} y- r[] o[] x{} b0" ∷
    "= 12" ∷
    "23 RegPrim c1 g0 w0 p1@1{14,15,22,23} a0 v1/0{14,15,22,23}{23} y- r[] o[] x{} b0" ∷
    "= 17" ∷
    "made 23:1 inc \"y\" 5 ? get \"x\"" ∷
    "23 RegPrim c1 g0 w0 p1@1{14,15,22,23} a0 v1/0{14,15,22,23}{23} y- r[] o[23:1] x{} b0" ∷
    "= 19" ∷
    "order 1 23:1" ∷
    "14 RegPrim c1 g1 w0 p1@1{14,15,22,23} a0 v1/0{14,15,22,23}{14} y- r[] o[] x{} b0" ∷
    "= 20" ∷
    "made 14:1 ? get \"z\"" ∷
    "14 RegPrim c1 g1 w0 p1@1{14,15,22,23} a0 v1/0{14,15,22,23}{14} y- r[] o[14:1] x{} b0" ∷
    "= 21" ∷
    "22 RegPrim c1 g1 w0 p1@1{14,15,22,23} a0 v1/0{14,15,22,23}{22} y- r[] o[] x{} b0" ∷
    "= 22" ∷
    "made 15:1 inc \"b\" 12" ∷
    "15 RegPrim c1 g0 w0 p1@1{14,15,22,23} a0 v1/0{14,15,22,23}{15} y- r[] o[15:1] x{} b0" ∷
    "= 24" ∷
    "order 2 14:1" ∷
    "order 3 15:1" ∷
    "14 RegPrim c1 g3 w0 p1@1{14,15,22,23} a0 v1/0{14,15,22,23}{14} y- r[] o[] x{} b0" ∷
    "reply 14:1 done ? absent" ∷
    "= 25" ∷
    "15 RegPrim c1 g3 w0 p1@1{14,15,22,23} a0 v1/0{14,15,22,23}{15} y- r[] o[] x{} b0" ∷
    "reply 15:1 done" ∷
    "= 26" ∷
    "22 RegPrim c1 g3 w0 p1@1{14,15,22,23} a0 v1/0{14,15,22,23}{22} y- r[] o[] x{} b0" ∷
    "= 27" ∷
    "23 RegPrim c1 g3 w0 p1@1{14,15,22,23} a0 v1/0{14,15,22,23}{23} y- r[] o[] x{} b0" ∷
    "reply 23:1 done ? absent" ∷
    "= 31" ∷
    "made 14:2 inc \"x\" -1" ∷
    "14 RegPrim c1 g3 w0 p1@1{14,15,22,23} a0 v1/0{14,15,22,23}{14} y- r[] o[14:2] x{} b0" ∷
    "= 32" ∷
    "made 14:3 inc \"ab\" 0 ? count" ∷
    "14 RegPrim c1 g3 w0 p1@1{14,15,22,23} a0 v1/0{14,15,22,23}{14} y- r[] o[14:2,14:3] x{} b0" ∷
    "= 33" ∷
    "made 14:4 put \"b\" 66" ∷
    "14 RegPrim c1 g3 w0 p1@1{14,15,22,23} a0 v1/0{14,15,22,23}{14} y- r[] o[14:2,14:3,14:4] x{} b0" ∷
    "= 35" ∷
    "14 Down" ∷
    "= 36" ∷
    "14 NonPrim - g3 w0 p1@1{14,15,22,23} a0 v1/0{14,15,22,23}{14} y- r[14:2,14:3,14:4] o[] x{} b0" ∷
    "= 40" ∷
    "22 TransPrim t1 g3 w0 p1@1{14,15,22,23} a0 v1/0{14,15,22,23}{22} y- r[] o[] x{} b0" ∷
    "23 TransPrim t1 g3 w0 p1@1{14,15,22,23} a0 v1/0{14,15,22,23}{23} y- r[] o[] x{} b0" ∷
    "= 41" ∷
    "14 ExchangeStates c2 g3 w0 p1@1{14,15,22,23} a0 v1/0{14,15,22,23}{14} y- r[14:2,14:3,14:4] o[] x{} b0" ∷
    "22 ExchangeStates c2 g3 w0 p1@1{14,15,22,23} a0 v- y![] r[] o[] x{} b0" ∷
    "23 ExchangeStates c2 g3 w0 p1@1{14,15,22,23} a0 v- y![] r[] o[] x{} b0" ∷
    "end 41" ∷
    [])
unfolding cases_compute
four_replicas_primary_split_crash_in_a_device_call_b = refl
