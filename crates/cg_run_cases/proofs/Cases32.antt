-- Cases of cases/ with their whole reports, which `.ci/theorems` writes down here.
use Rattle.std.specs.Prelude.{◌≡◌, [], ◌∷◌}
use mathlib.Core.Path.{refl}
use Rattle.cg_run_cases.specs.Replaying.{replayed_text, written}
use Rattle.cg_run_cases.specs.Computing.{cases_compute}

-- Replicas at the start: 3: a primary is lost in a partition, and after a merge red actions are ordered; a crash strikes inside a device call; an old disk is migrated.
three_replicas_primary_lost_and_reds_ordered_crash_in_a_device_call_old_disk_a :
    replayed_text (
    "start 1 2 3" ∷
    "merge 1 2 3" ∷
    "rounds 3" ∷
    "gather" ∷
    "request 1 put \"x\" 92; put \"z\" \"12\"; need \"y\" 0; inc \"y\" 8" ∷
    "request 1 inc \"a\" -1; put \"b\" 22 ? keys \"x\"" ∷
    "request 2 cas \"a\" \"yes \\\"no\\\"\" 9223372036854775807" ∷
    "order 2" ∷
    "gather" ∷
    "rounds 2" ∷
    "stop 2 0 0101" ∷
    "request 1 cas \"k1\" absent 44; put \"ab\" 70; put \"x\" 90 ? get \"abc\"" ∷
    "order 1" ∷
    "gather" ∷
    "request 1 put \"z\" 98 ? keys \"a\"" ∷
    "downgrade 2" ∷
    "recover 2 2 010100010001010101" ∷
    "recover 2" ∷
    "split 1 3" ∷
    "merge 1 2 3" ∷
    "rounds 3" ∷
    "request 2 inc \"z\" 9; inc \"a\" 8 ? get \"x\"" ∷
    "request 3 put \"k1\" 1" ∷
    "split 1 2 3" ∷
    "merge 1 2 3" ∷
    "rounds 1" ∷
    "request 2 put \"x\" \"absent\" ? keys \"ab\"" ∷
    "split 3" ∷
    "split 1 2" ∷
    "merge 1 2" ∷
    "merge 3" ∷
    "gather" ∷
    "rounds 2" ∷
    "gather" ∷
    "split 1 2" ∷
    "request 1 ? get \"z\"" ∷
    "request 3 put \"abc\" 62; move \"k2\" \"k1\" 8; put \"x\" \"12\"; put \"x\" 84" ∷
    "order 3" ∷
    "split 3" ∷
    "merge 1 2 3" ∷
    "rounds 4" ∷
    "gather" ∷
    "rounds 2" ∷
    "split 2 3" ∷
    "request 3 put \"x\" 22" ∷
    "gather" ∷
    "gather" ∷
    "gather" ∷
    "gather" ∷
    "gather" ∷
    "stop 1 15 0101010101" ∷
    "merge 2 3" ∷
    "split 1" ∷
    "stop 2 2 -" ∷
    "weak 1 keys \"x\"" ∷
    "order 3" ∷
    "split 2 3" ∷
    "merge 2 3" ∷
    "rounds 3" ∷
    "end" ∷
    [])
    ≡ written (
    "= 1" ∷
    "1 NonPrim - g0 w0 p0@0{1,2,3} a0 v- y- r[] o[] x{} b0" ∷
    "2 NonPrim - g0 w0 p0@0{1,2,3} a0 v- y- r[] o[] x{} b0" ∷
    "3 NonPrim - g0 w0 p0@0{1,2,3} a0 v- y- r[] o[] x{} b0" ∷
    "= 2" ∷
    "1 ExchangeStates c1 g0 w0 p0@0{1,2,3} a0 v- y- r[] o[] x{} b0" ∷
    "2 ExchangeStates c1 g0 w0 p0@0{1,2,3} a0 v- y- r[] o[] x{} b0" ∷
    "3 ExchangeStates c1 g0 w0 p0@0{1,2,3} a0 v- y- r[] o[] x{} b0" ∷
    "= 4" ∷
    "1 Construct c1 g0 w0 p0@0{1,2,3} a1 v1/0{1,2,3}{1} y- r[] o[] x{} b0" ∷
    "= 5" ∷
    "2 Construct c1 g0 w0 p0@0{1,2,3} a1 v1/0{1,2,3}{2} y- r[] o[] x{} b0" ∷
    "= 6" ∷
    "3 Construct c1 g0 w0 p0@0{1,2,3} a1 v1/0{1,2,3}{3} y- r[] o[] x{} b0" ∷
    "= 8" ∷
    "1 RegPrim c1 g0 w0 p1@1{1,2,3} a0 v1/0{1,2,3}{1} y- r[] o[] x{} b0" ∷
    "= 9" ∷
    "2 RegPrim c1 g0 w0 p1@1{1,2,3} a0 v1/0{1,2,3}{2} y- r[] o[] x{} b0" ∷
    "= 10" ∷
    "3 RegPrim c1 g0 w0 p1@1{1,2,3} a0 v1/0{1,2,3}{3} y- r[] o[] x{} b0" ∷
    "= 13" ∷
    "made 1:1 put \"x\" 92; put \"z\" \"12\"; need \"y\" 0; inc \"y\" 8" ∷
    "1 RegPrim c1 g0 w0 p1@1{1,2,3} a0 v1/0{1,2,3}{1} y- r[] o[1:1] x{} b0" ∷
    "= 14" ∷
    "made 1:2 inc \"a\" -1; put \"b\" 22 ? keys \"x\"" ∷
    "1 RegPrim c1 g0 w0 p1@1{1,2,3} a0 v1/0{1,2,3}{1} y- r[] o[1:1,1:2] x{} b0" ∷
    "= 15" ∷
    "made 2:1 cas \"a\" \"yes \\\"no\\\"\" 9223372036854775807" ∷
    "2 RegPrim c1 g0 w0 p1@1{1,2,3} a0 v1/0{1,2,3}{2} y- r[] o[2:1] x{} b0" ∷
    "= 19" ∷
    "order 1 2:1" ∷
    "order 2 1:1" ∷
    "order 3 1:2" ∷
    "1 RegPrim c1 g3 w0 p1@1{1,2,3} a0 v1/0{1,2,3}{1} y- r[] o[] x{} b0" ∷
    "reply 1:1 aborted 3" ∷
    "reply 1:2 done ? keys" ∷
    "= 20" ∷
    "2 RegPrim c1 g3 w0 p1@1{1,2,3} a0 v1/0{1,2,3}{2} y- r[] o[] x{} b0" ∷
    "reply 2:1 done" ∷
    "= 21" ∷
    "3 RegPrim c1 g3 w0 p1@1{1,2,3} a0 v1/0{1,2,3}{3} y- r[] o[] x{} b0" ∷
    "= 23" ∷
    "2 Down" ∷
    "= 24" ∷
    "made 1:3 cas \"k1\" absent 44; put \"ab\" 70; put \"x\" 90 ? get \"abc\"" ∷
    "1 RegPrim c1 g3 w0 p1@1{1,2,3} a0 v1/0{1,2,3}{1} y- r[] o[1:3] x{} b0" ∷
    "= 27" ∷
    "made 1:4 put \"z\" 98 ? keys \"a\"" ∷
    "1 RegPrim c1 g3 w0 p1@1{1,2,3} a0 v1/0{1,2,3}{1} y- r[] o[1:3,1:4] x{} b0" ∷
    "= 30" ∷
    "2 NonPrim - g3 w0 p1@1{1,2,3} a0 v1/0{1,2,3}{2} y- r[] o[] x{} b0" ∷
    "= 31" ∷
    "1 TransPrim t1 g3 w0 p1@1{1,2,3} a0 v1/0{1,2,3}{1} y?[1:3] r[] o[1:4] x{} b0" ∷
    "3 TransPrim t1 g3 w0 p1@1{1,2,3} a0 v1/0{1,2,3}{3} y?[1:3] r[] o[] x{} b0" ∷
    "= 32" ∷
    "1 ExchangeStates c2 g3 w0 p1@1{1,2,3} a0 v- y![1:3] r[1:4] o[] x{} b0" ∷
    "2 ExchangeStates c2 g3 w0 p1@1{1,2,3} a0 v1/0{1,2,3}{2} y- r[] o[] x{} b0" ∷
    "3 ExchangeStates c2 g3 w0 p1@1{1,2,3} a0 v- y![1:3] r[] o[] x{} b0" ∷
    "= 34" ∷
    "1 ExchangeActions c2 g3 w0 p1@1{1,2,3} a0 v- y![1:3] r[1:4] o[] x{} b0" ∷
    "= 35" ∷
    "2 ExchangeActions c2 g3 w0 p1@1{1,2,3} a0 v1/0{1,2,3}{2} y- r[] o[] x{} b0" ∷
    "= 36" ∷
    "3 ExchangeActions c2 g3 w0 p1@1{1,2,3} a0 v- y![1:3] r[] o[] x{} b0" ∷
    "= 38" ∷
    "1 Construct c2 g3 w0 p1@1{1,2,3} a1 v2/1{1,2,3}{1} y![1:3] r[1:4] o[] x{} b0" ∷
    "= 39" ∷
    "2 Construct c2 g3 w0 p1@1{1,2,3} a1 v2/1{1,2,3}{2} y![1:3] r[1:4] o[] x{} b0" ∷
    "= 40" ∷
    "3 Construct c2 g3 w0 p1@1{1,2,3} a1 v2/1{1,2,3}{3} y![1:3] r[1:4] o[] x{} b0" ∷
    "= 42" ∷
    "order 4 1:3" ∷
    "order 5 1:4" ∷
    "1 RegPrim c2 g5 w0 p2@2{1,2,3} a0 v2/1{1,2,3}{1} y- r[] o[] x{} b0" ∷
    "reply 1:3 done ? absent" ∷
    "reply 1:4 done ? keys \"a\" \"ab\"" ∷
    "= 43" ∷
    "2 RegPrim c2 g5 w0 p2@2{1,2,3} a0 v2/1{1,2,3}{2} y- r[] o[] x{} b0" ∷
    "= 44" ∷
    "3 RegPrim c2 g5 w0 p2@2{1,2,3} a0 v2/1{1,2,3}{3} y- r[] o[] x{} b0" ∷
    "= 45" ∷
    "made 2:2 inc \"z\" 9; inc \"a\" 8 ? get \"x\"" ∷
    "2 RegPrim c2 g5 w0 p2@2{1,2,3} a0 v2/1{1,2,3}{2} y- r[] o[2:2] x{} b0" ∷
    "= 46" ∷
    "made 3:1 put \"k1\" 1" ∷
    "3 RegPrim c2 g5 w0 p2@2{1,2,3} a0 v2/1{1,2,3}{3} y- r[] o[3:1] x{} b0" ∷
    "= 47" ∷
    "1 TransPrim t2 g5 w0 p2@2{1,2,3} a0 v2/1{1,2,3}{1} y- r[] o[] x{} b0" ∷
    "2 TransPrim t2 g5 w0 p2@2{1,2,3} a0 v2/1{1,2,3}{2} y- r[] o[2:2] x{} b0" ∷
    "3 TransPrim t2 g5 w0 p2@2{1,2,3} a0 v2/1{1,2,3}{3} y- r[] o[3:1] x{} b0" ∷
    "= 48" ∷
    "1 ExchangeStates c3 g5 w0 p2@2{1,2,3} a0 v- y![] r[] o[] x{} b0" ∷
    "2 ExchangeStates c3 g5 w0 p2@2{1,2,3} a0 v- y![] r[2:2] o[] x{} b0" ∷
    "3 ExchangeStates c3 g5 w0 p2@2{1,2,3} a0 v- y![] r[3:1] o[] x{} b0" ∷
    "= 50" ∷
    "1 ExchangeActions c3 g5 w0 p2@2{1,2,3} a0 v- y![] r[] o[] x{} b0" ∷
    "= 51" ∷
    "2 ExchangeActions c3 g5 w0 p2@2{1,2,3} a0 v- y![] r[2:2] o[] x{} b0" ∷
    "= 52" ∷
    "3 ExchangeActions c3 g5 w0 p2@2{1,2,3} a0 v- y![] r[3:1] o[] x{} b0" ∷
    "= 53" ∷
    "2 ExchangeActions c3 g5 w0 p2@2{1,2,3} a0 v- y![] r[2:2] o[] x{} b1" ∷
    "= 54" ∷
    "3 NonPrim t3 g5 w0 p2@2{1,2,3} a0 v- y![] r[3:1] o[] x{} b0" ∷
    "= 55" ∷
    "1 NonPrim t3 g5 w0 p2@2{1,2,3} a0 v- y![] r[] o[] x{} b0" ∷
    "2 NonPrim t3 g5 w0 p2@2{1,2,3} a0 v- y![] r[2:2] o[] x{} b1" ∷
    "= 56" ∷
    "1 ExchangeStates c4 g5 w0 p2@2{1,2,3} a0 v- y![] r[] o[] x{} b0" ∷
    "2 ExchangeStates c4 g5 w0 p2@2{1,2,3} a0 v- y![] r[2:2] o[] x{} b1" ∷
    "= 57" ∷
    "3 ExchangeStates c5 g5 w0 p2@2{1,2,3} a0 v- y![] r[3:1] o[] x{} b0" ∷
    "= 60" ∷
    "1 ExchangeActions c4 g5 w0 p2@2{1,2,3} a0 v- y![] r[] o[] x{} b0" ∷
    "= 61" ∷
    "2 ExchangeActions c4 g5 w0 p2@2{1,2,3} a0 v- y![] r[2:2] o[] x{} b1" ∷
    "= 62" ∷
    "3 NonPrim c5 g5 w0 p2@2{1,2,3} a0 v- y![] r[3:1] o[] x{} b0" ∷
    "= 64" ∷
    "1 Construct c4 g5 w0 p2@2{1,2,3} a1 v4/2{1,2}{1} y![] r[2:2] o[] x{} b0" ∷
    "= 65" ∷
    "2 Construct c4 g5 w0 p2@2{1,2,3} a1 v4/2{1,2}{2} y![] r[2:2] o[] x{} b1" ∷
    "= 67" ∷
    "1 Un t4 g5 w0 p2@2{1,2,3} a1 v4/2{1,2}{1} y![] r[2:2] o[] x{} b0" ∷
    "2 Un t4 g5 w0 p2@2{1,2,3} a1 v4/2{1,2}{2} y![] r[2:2] o[] x{} b1" ∷
    "= 68" ∷
    "1 Un t4 g5 w0 p2@2{1,2,3} a1 v4/2{1,2}{1} y![] r[2:2] o[] x{} b1" ∷
    "= 69" ∷
    "made 3:2 put \"abc\" 62; move \"k2\" \"k1\" 8; put \"x\" \"12\"; put \"x\" 84" ∷
    "3 NonPrim c5 g5 w0 p2@2{1,2,3} a0 v- y![] r[3:1] o[3:2] x{} b0" ∷
    "= 71" ∷
    "3 NonPrim t5 g5 w0 p2@2{1,2,3} a0 v- y![] r[3:1,3:2] o[] x{} b0" ∷
    "= 72" ∷
    "1 ExchangeStates c6 g5 w0 p2@2{1,2,3} a1 v4/2{1,2}{1} y![] r[2:2] o[] x{} b1" ∷
    "2 ExchangeStates c6 g5 w0 p2@2{1,2,3} a1 v4/2{1,2}{2} y![] r[2:2] o[] x{} b1" ∷
    "3 ExchangeStates c6 g5 w0 p2@2{1,2,3} a0 v- y![] r[3:1,3:2] o[] x{} b0" ∷
    "= 74" ∷
    "1 ExchangeActions c6 g5 w0 p2@2{1,2,3} a1 v4/2{1,2}{1} y![] r[2:2] o[] x{} b1" ∷
    "= 75" ∷
    "2 ExchangeActions c6 g5 w0 p2@2{1,2,3} a1 v4/2{1,2}{2} y![] r[2:2] o[] x{} b1" ∷
    "= 76" ∷
    "3 ExchangeActions c6 g5 w0 p2@2{1,2,3} a0 v- y![] r[3:1,3:2] o[] x{} b0" ∷
    "= 80" ∷
    "3 ExchangeActions c6 g5 w0 p2@2{1,2,3} a0 v- y![] r[2:2,3:1,3:2] o[] x{} b0" ∷
    "= 82" ∷
    "1 Construct c6 g5 w0 p2@2{1,2,3} a2 v6/2{1,2,3}{1} y![] r[2:2,3:1,3:2] o[] x{} b1" ∷
    "= 83" ∷
    "2 Construct c6 g5 w0 p2@2{1,2,3} a2 v6/2{1,2,3}{2} y![] r[2:2,3:1,3:2] o[] x{} b1" ∷
    "= 84" ∷
    "3 Construct c6 g5 w0 p2@2{1,2,3} a2 v6/2{1,2,3}{3} y![] r[2:2,3:1,3:2] o[] x{} b0" ∷
    "= 86" ∷
    "made 1:5 ? get \"z\"" ∷
    "order 6 2:2" ∷
    "order 7 3:1" ∷
    "order 8 3:2" ∷
    "1 RegPrim c6 g8 w3 p3@6{1,2,3} a0 v6/2{1,2,3}{1} y- r[] o[1:5] x{} b0" ∷
    "= 87" ∷
    "made 2:3 put \"x\" \"absent\" ? keys \"ab\"" ∷
    "2 RegPrim c6 g8 w3 p3@6{1,2,3} a0 v6/2{1,2,3}{2} y- r[] o[2:3] x{} b0" ∷
    "reply 2:2 done ? 90" ∷
    "= 88" ∷
    "3 RegPrim c6 g8 w3 p3@6{1,2,3} a0 v6/2{1,2,3}{3} y- r[] o[] x{} b0" ∷
    "reply 3:1 done" ∷
    "reply 3:2 aborted 2" ∷
    "= 91" ∷
    "order 9 1:5" ∷
    "order 10 2:3" ∷
    "1 RegPrim c6 g10 w5 p3@6{1,2,3} a0 v6/2{1,2,3}{1} y- r[] o[] x{} b0" ∷
    "reply 1:5 done ? 107" ∷
    "= 92" ∷
    "2 RegPrim c6 g10 w5 p3@6{1,2,3} a0 v6/2{1,2,3}{2} y- r[] o[] x{} b0" ∷
    "reply 2:3 done ? keys \"ab\"" ∷
    "= 93" ∷
    "3 RegPrim c6 g10 w5 p3@6{1,2,3} a0 v6/2{1,2,3}{3} y- r[] o[] x{} b0" ∷
    "= 95" ∷
    "2 TransPrim t6 g10 w5 p3@6{1,2,3} a0 v6/2{1,2,3}{2} y- r[] o[] x{} b0" ∷
    "3 TransPrim t6 g10 w5 p3@6{1,2,3} a0 v6/2{1,2,3}{3} y- r[] o[] x{} b0" ∷
    "= 96" ∷
    "3 TransPrim t6 g10 w5 p3@6{1,2,3} a0 v6/2{1,2,3}{3} y- r[] o[] x{} b1" ∷
    "= 103" ∷
    "2 ExchangeStates c7 g10 w5 p3@6{1,2,3} a0 v- y![] r[] o[] x{} b0" ∷
    "3 ExchangeStates c7 g10 w5 p3@6{1,2,3} a0 v- y![] r[] o[] x{} b1" ∷
    "= 104" ∷
    "1 TransPrim t6 g10 w5 p3@6{1,2,3} a0 v6/2{1,2,3}{1} y- r[] o[] x{} b0" ∷
    "= 106" ∷
    "weak 1 keys \"x\"" ∷
    "= 108" ∷
    "2 NonPrim t7 g10 w5 p3@6{1,2,3} a0 v- y![] r[] o[] x{} b0" ∷
    "3 NonPrim t7 g10 w5 p3@6{1,2,3} a0 v- y![] r[] o[] x{} b1" ∷
    "= 109" ∷
    "2 ExchangeStates c8 g10 w5 p3@6{1,2,3} a0 v- y![] r[] o[] x{} b0" ∷
    "3 ExchangeStates c8 g10 w5 p3@6{1,2,3} a0 v- y![] r[] o[] x{} b1" ∷
    "= 111" ∷
    "2 Down" ∷
    "= 112" ∷
    "3 Construct c8 g10 w5 p3@6{1,2,3} a1 v8/3{2,3}{3} y![] r[] o[] x{} b1" ∷
    "end 114" ∷
    [])
unfolding cases_compute
three_replicas_primary_lost_and_reds_ordered_crash_in_a_device_call_old_disk_a = refl

-- Replicas at the start: 3: a primary is lost in a partition, and after a merge red actions are ordered; a server that was removed is told so; a snapshot is handed on in pieces; the last event is refused.
three_replicas_primary_lost_and_reds_ordered_leaver_joiner_refused_a_from_discarding :
    replayed_text (
    "start 1 2 3" ∷
    "merge 1 2 3" ∷
    "leave 3 2" ∷
    "gather" ∷
    "deliver 2 1" ∷
    "join 3 4" ∷
    "request 2 inc \"b\" 12 ? count" ∷
    "deliver 2 2" ∷
    "rounds 3" ∷
    "request 2 inc \"z\" 2; put \"b\" 8" ∷
    "order 2" ∷
    "transfer 1 4 1000000" ∷
    "merge 4" ∷
    "leave 2 4" ∷
    "leave 4 3" ∷
    "rounds 2" ∷
    "gather" ∷
    "request 4 put \"k1\" 22" ∷
    "gather" ∷
    "deliver 4 1" ∷
    "split 4" ∷
    "split 1 2 3" ∷
    "merge 1 2 3 4" ∷
    "request 1 inc \"y\" 10 ? keys \"\"" ∷
    "gather" ∷
    "deliver 2 2" ∷
    "gather" ∷
    "gather" ∷
    "rounds 2" ∷
    "order 1" ∷
    "join 3 15" ∷
    "rounds 2" ∷
    "split 1" ∷
    "split 2 4" ∷
    "split 3" ∷
    "merge 1" ∷
    "merge 3" ∷
    "request 3 inc \"x\" 0" ∷
    "gather" ∷
    "gather" ∷
    "deliver 3 1" ∷
    "join 4 1" ∷
    "end" ∷
    [])
    ≡ written (
    "= 1" ∷
    "1 NonPrim - g0 w0 p0@0{1,2,3} a0 v- y- r[] o[] x{} b0" ∷
    "2 NonPrim - g0 w0 p0@0{1,2,3} a0 v- y- r[] o[] x{} b0" ∷
    "3 NonPrim - g0 w0 p0@0{1,2,3} a0 v- y- r[] o[] x{} b0" ∷
    "= 2" ∷
    "1 ExchangeStates c1 g0 w0 p0@0{1,2,3} a0 v- y- r[] o[] x{} b0" ∷
    "2 ExchangeStates c1 g0 w0 p0@0{1,2,3} a0 v- y- r[] o[] x{} b0" ∷
    "3 ExchangeStates c1 g0 w0 p0@0{1,2,3} a0 v- y- r[] o[] x{} b0" ∷
    "= 3" ∷
    "3 ExchangeStates c1 g0 w0 p0@0{1,2,3} a0 v- y- r[] o[] x{} b1" ∷
    "= 6" ∷
    "3 ExchangeStates c1 g0 w0 p0@0{1,2,3} a0 v- y- r[] o[] x{} b2" ∷
    "= 7" ∷
    "2 ExchangeStates c1 g0 w0 p0@0{1,2,3} a0 v- y- r[] o[] x{} b1" ∷
    "= 8" ∷
    "2 Construct c1 g0 w0 p0@0{1,2,3} a1 v1/0{1,2,3}{2} y- r[] o[] x{} b1" ∷
    "= 10" ∷
    "1 Construct c1 g0 w0 p0@0{1,2,3} a1 v1/0{1,2,3}{1} y- r[] o[] x{} b0" ∷
    "= 12" ∷
    "3 Construct c1 g0 w0 p0@0{1,2,3} a1 v1/0{1,2,3}{3} y- r[] o[] x{} b2" ∷
    "= 14" ∷
    "1 RegPrim c1 g0 w0 p1@1{1,2,3} a0 v1/0{1,2,3}{1} y- r[] o[] x{} b0" ∷
    "= 15" ∷
    "made 2:1 inc \"b\" 12 ? count" ∷
    "2 RegPrim c1 g0 w0 p1@1{1,2,3} a0 v1/0{1,2,3}{2} y- r[] o[2:1] x{} b0" ∷
    "= 16" ∷
    "made 3:1 leave 2" ∷
    "made 3:2 join 4" ∷
    "3 RegPrim c1 g0 w0 p1@1{1,2,3} a0 v1/0{1,2,3}{3} y- r[] o[3:1,3:2] x{} b0" ∷
    "= 18" ∷
    "order 1 2:1" ∷
    "order 2 3:1" ∷
    "order 3 3:2" ∷
    "1 RegPrim c1 g3 w0 p1@1{1,2,3} a0 v1/0{1,2,3}{1} y- r[] o[] x{2} b0" ∷
    "= 19" ∷
    "2 RegPrim c1 g3 w0 p1@1{1,2,3} a0 v1/0{1,2,3}{2} y- r[] o[] x{2} b0" ∷
    "reply 2:1 done ? count 1" ∷
    "= 20" ∷
    "3 RegPrim c1 g3 w0 p1@1{1,2,3} a0 v1/0{1,2,3}{3} y- r[] o[] x{2} b0" ∷
    "reply 3:1 done" ∷
    "reply 3:2 done" ∷
    "= 21" ∷
    "made 2:2 inc \"z\" 2; put \"b\" 8" ∷
    "2 RegPrim c1 g3 w0 p1@1{1,2,3} a0 v1/0{1,2,3}{2} y- r[] o[2:2] x{2} b0" ∷
    "= 23" ∷
    "4 NonPrim - g3 w0 p1@1{1,2,3} a0 v- y- r[] o[] x{2} b0" ∷
    "pieces 4 6/6" ∷
    "= 24" ∷
    "4 ExchangeStates c2 g3 w0 p1@1{1,2,3} a0 v- y- r[] o[] x{2} b0" ∷
    "= 25" ∷
    "made 2:3 leave 4" ∷
    "2 RegPrim c1 g3 w0 p1@1{1,2,3} a0 v1/0{1,2,3}{2} y- r[] o[2:2,2:3] x{2} b0" ∷
    "= 26" ∷
    "4 ExchangeStates c2 g3 w0 p1@1{1,2,3} a0 v- y- r[] o[] x{2} b1" ∷
    "= 28" ∷
    "order 4 2:2" ∷
    "order 5 2:3" ∷
    "1 RegPrim c1 g5 w0 p1@1{1,2,3} a0 v1/0{1,2,3}{1} y- r[] o[] x{2,4} b0" ∷
    "= 29" ∷
    "2 RegPrim c1 g5 w0 p1@1{1,2,3} a0 v1/0{1,2,3}{2} y- r[] o[] x{2,4} b0" ∷
    "reply 2:2 done" ∷
    "reply 2:3 done" ∷
    "= 30" ∷
    "3 RegPrim c1 g5 w0 p1@1{1,2,3} a0 v1/0{1,2,3}{3} y- r[] o[] x{2,4} b0" ∷
    "= 31" ∷
    "made 4:1 leave 3" ∷
    "4 NonPrim c2 g3 w0 p1@1{1,2,3} a0 v- y- r[] o[4:1] x{2} b0" ∷
    "= 33" ∷
    "4 NonPrim c2 g3 w0 p1@1{1,2,3} a0 v- y- r[4:1] o[] x{2} b0" ∷
    "= 35" ∷
    "made 4:2 put \"k1\" 22" ∷
    "4 NonPrim c2 g3 w0 p1@1{1,2,3} a0 v- y- r[4:1] o[4:2] x{2} b0" ∷
    "= 37" ∷
    "4 NonPrim c2 g3 w0 p1@1{1,2,3} a0 v- y- r[4:1,4:2] o[] x{2} b0" ∷
    "= 38" ∷
    "4 NonPrim t2 g3 w0 p1@1{1,2,3} a0 v- y- r[4:1,4:2] o[] x{2} b0" ∷
    "= 39" ∷
    "1 TransPrim t1 g5 w0 p1@1{1,2,3} a0 v1/0{1,2,3}{1} y- r[] o[] x{2,4} b0" ∷
    "2 TransPrim t1 g5 w0 p1@1{1,2,3} a0 v1/0{1,2,3}{2} y- r[] o[] x{2,4} b0" ∷
    "3 TransPrim t1 g5 w0 p1@1{1,2,3} a0 v1/0{1,2,3}{3} y- r[] o[] x{2,4} b0" ∷
    "= 40" ∷
    "1 ExchangeStates c3 g5 w0 p1@1{1,2,3} a0 v- y![] r[] o[] x{2,4} b0" ∷
    "2 ExchangeStates c3 g5 w0 p1@1{1,2,3} a0 v- y![] r[] o[] x{2,4} b0" ∷
    "3 ExchangeStates c3 g5 w0 p1@1{1,2,3} a0 v- y![] r[] o[] x{2,4} b0" ∷
    "4 ExchangeStates c3 g3 w0 p1@1{1,2,3} a0 v- y- r[4:1,4:2] o[] x{2} b0" ∷
    "= 41" ∷
    "1 ExchangeStates c3 g5 w0 p1@1{1,2,3} a0 v- y![] r[] o[] x{2,4} b1" ∷
    "= 47" ∷
    "1 ExchangeActions c3 g5 w0 p1@1{1,2,3} a0 v- y![] r[] o[] x{2,4} b1" ∷
    "= 48" ∷
    "2 ExchangeActions c3 g5 w0 p1@1{1,2,3} a0 v- y![] r[] o[] x{2,4} b0" ∷
    "= 49" ∷
    "3 ExchangeActions c3 g5 w0 p1@1{1,2,3} a0 v- y![] r[] o[] x{2,4} b0" ∷
    "= 50" ∷
    "4 ExchangeActions c3 g3 w0 p1@1{1,2,3} a0 v- y- r[4:1,4:2] o[] x{2} b0" ∷
    "= 52" ∷
    "1 Construct c3 g5 w0 p1@1{1,2,3} a1 v3/1{1,3}{1} y![] r[4:1,4:2] o[] x{2,4} b1" ∷
    "= 53" ∷
    "2 Left c3 g5 w0 p1@1{1,2,3} a0 v- y![] r[] o[] x{2,4} b0" ∷
    "= 54" ∷
    "3 Construct c3 g5 w0 p1@1{1,2,3} a1 v3/1{1,3}{3} y![] r[4:1,4:2] o[] x{2,4} b0" ∷
    "= 55" ∷
    "4 Left c3 g3 w0 p1@1{1,2,3} a0 v- y- r[4:1,4:2] o[] x{2} b0" ∷
    "= 57" ∷
    "3 Construct c3 g5 w0 p1@1{1,2,3} a1 v3/1{1,3}{3} y![] r[4:1,4:2] o[] x{2,4} b1" ∷
    "= 59" ∷
    "made 1:1 inc \"y\" 10 ? keys \"\"" ∷
    "order 6 4:1" ∷
    "order 7 4:2" ∷
    "1 RegPrim c3 g7 w0 p2@3{1,3} a0 v3/1{1,3}{1} y- r[] o[1:1] x{2,3,4} b0" ∷
    "= 61" ∷
    "made 3:3 join 15" ∷
    "3 RegPrim c3 g7 w0 p2@3{1,3} a0 v3/1{1,3}{3} y- r[] o[3:3] x{2,3,4} b0" ∷
    "= 64" ∷
    "order 8 1:1" ∷
    "order 9 3:3" ∷
    "1 RegPrim c3 g9 w7 p2@3{1,3} a0 v3/1{1,3}{1} y- r[] o[] x{2,3,4} b0" ∷
    "reply 1:1 done ? keys \"b\" \"k1\" \"y\" \"z\"" ∷
    "= 66" ∷
    "3 RegPrim c3 g9 w7 p2@3{1,3} a0 v3/1{1,3}{3} y- r[] o[] x{2,3,4} b0" ∷
    "reply 3:3 done" ∷
    "= 68" ∷
    "1 TransPrim t3 g9 w7 p2@3{1,3} a0 v3/1{1,3}{1} y- r[] o[] x{2,3,4} b0" ∷
    "= 69" ∷
    "2 Left t3 g5 w0 p1@1{1,2,3} a0 v- y![] r[] o[] x{2,4} b0" ∷
    "4 Left t3 g3 w0 p1@1{1,2,3} a0 v- y- r[4:1,4:2] o[] x{2} b0" ∷
    "= 70" ∷
    "3 TransPrim t3 g9 w7 p2@3{1,3} a0 v3/1{1,3}{3} y- r[] o[] x{2,3,4} b0" ∷
    "= 71" ∷
    "1 ExchangeStates c4 g9 w7 p2@3{1,3} a0 v- y![] r[] o[] x{2,3,4} b0" ∷
    "= 72" ∷
    "3 ExchangeStates c5 g9 w7 p2@3{1,3} a0 v- y![] r[] o[] x{2,3,4} b0" ∷
    "= 73" ∷
    "3 ExchangeStates c5 g9 w7 p2@3{1,3} a0 v- y![] r[] o[] x{2,3,4} b1" ∷
    "= 76" ∷
    "3 Left c5 g9 w7 p2@3{1,3} a0 v- y![] r[] o[] x{2,3,4} b0" ∷
    "refused 42 14 4" ∷
    [])
unfolding cases_compute
three_replicas_primary_lost_and_reds_ordered_leaver_joiner_refused_a_from_discarding = refl

-- Replicas at the start: 3: a primary is split.
three_replicas_primary_split_a :
    replayed_text (
    "start 15 20 27" ∷
    "merge 15 20 27" ∷
    "rounds 2" ∷
    "request 15 put \"abc\" 84; put \"k2\" 55 ? get \"x\"" ∷
    "split 27" ∷
    "rounds 2" ∷
    "gather" ∷
    "end" ∷
    [])
    ≡ written (
    "= 1" ∷
    "15 NonPrim - g0 w0 p0@0{15,20,27} a0 v- y- r[] o[] x{} b0" ∷
    "20 NonPrim - g0 w0 p0@0{15,20,27} a0 v- y- r[] o[] x{} b0" ∷
    "27 NonPrim - g0 w0 p0@0{15,20,27} a0 v- y- r[] o[] x{} b0" ∷
    "= 2" ∷
    "15 ExchangeStates c1 g0 w0 p0@0{15,20,27} a0 v- y- r[] o[] x{} b0" ∷
    "20 ExchangeStates c1 g0 w0 p0@0{15,20,27} a0 v- y- r[] o[] x{} b0" ∷
    "27 ExchangeStates c1 g0 w0 p0@0{15,20,27} a0 v- y- r[] o[] x{} b0" ∷
    "= 4" ∷
    "15 Construct c1 g0 w0 p0@0{15,20,27} a1 v1/0{15,20,27}{15} y- r[] o[] x{} b0" ∷
    "= 5" ∷
    "20 Construct c1 g0 w0 p0@0{15,20,27} a1 v1/0{15,20,27}{20} y- r[] o[] x{} b0" ∷
    "= 6" ∷
    "27 Construct c1 g0 w0 p0@0{15,20,27} a1 v1/0{15,20,27}{27} y- r[] o[] x{} b0" ∷
    "= 8" ∷
    "15 RegPrim c1 g0 w0 p1@1{15,20,27} a0 v1/0{15,20,27}{15} y- r[] o[] x{} b0" ∷
    "= 9" ∷
    "20 RegPrim c1 g0 w0 p1@1{15,20,27} a0 v1/0{15,20,27}{20} y- r[] o[] x{} b0" ∷
    "= 10" ∷
    "27 RegPrim c1 g0 w0 p1@1{15,20,27} a0 v1/0{15,20,27}{27} y- r[] o[] x{} b0" ∷
    "= 11" ∷
    "made 15:1 put \"abc\" 84; put \"k2\" 55 ? get \"x\"" ∷
    "15 RegPrim c1 g0 w0 p1@1{15,20,27} a0 v1/0{15,20,27}{15} y- r[] o[15:1] x{} b0" ∷
    "= 12" ∷
    "27 TransPrim t1 g0 w0 p1@1{15,20,27} a0 v1/0{15,20,27}{27} y- r[] o[] x{} b0" ∷
    "end 15" ∷
    [])
unfolding cases_compute
three_replicas_primary_split_a = refl

-- Replicas at the start: 3: a primary is split; a crash strikes inside a device call; a server that was removed is told so.
three_replicas_primary_split_crash_in_a_device_call_leaver_a :
    replayed_text (
    "start 4 18 20" ∷
    "merge 4 18 20" ∷
    "rounds 2" ∷
    "gather" ∷
    "weak 18 get \"abc\"" ∷
    "leave 18 20" ∷
    "order 18" ∷
    "receive 4 7" ∷
    "rounds 3" ∷
    "gather" ∷
    "split 4 18 20" ∷
    "merge 4 18 20" ∷
    "gather" ∷
    "rounds 2" ∷
    "request 18 move \"b\" \"x\" 4 ? keys \"\"" ∷
    "rounds 4" ∷
    "rounds 1" ∷
    "show 4" ∷
    "split 4" ∷
    "request 4 put \"b\" 52" ∷
    "request 18 put \"b\" 65" ∷
    "merge 4" ∷
    "request 18 inc \"a\" 4" ∷
    "fail 4 5" ∷
    "rounds 1" ∷
    "request 4 inc \"a\" 12" ∷
    "gather" ∷
    "deliver 4 1" ∷
    "request 18 move \"b\" \"b\" 2; inc \"ab\" -9223372036854775808" ∷
    "end" ∷
    [])
    ≡ written (
    "= 1" ∷
    "4 NonPrim - g0 w0 p0@0{4,18,20} a0 v- y- r[] o[] x{} b0" ∷
    "18 NonPrim - g0 w0 p0@0{4,18,20} a0 v- y- r[] o[] x{} b0" ∷
    "20 NonPrim - g0 w0 p0@0{4,18,20} a0 v- y- r[] o[] x{} b0" ∷
    "= 2" ∷
    "4 ExchangeStates c1 g0 w0 p0@0{4,18,20} a0 v- y- r[] o[] x{} b0" ∷
    "18 ExchangeStates c1 g0 w0 p0@0{4,18,20} a0 v- y- r[] o[] x{} b0" ∷
    "20 ExchangeStates c1 g0 w0 p0@0{4,18,20} a0 v- y- r[] o[] x{} b0" ∷
    "= 4" ∷
    "4 Construct c1 g0 w0 p0@0{4,18,20} a1 v1/0{4,18,20}{4} y- r[] o[] x{} b0" ∷
    "= 5" ∷
    "18 Construct c1 g0 w0 p0@0{4,18,20} a1 v1/0{4,18,20}{18} y- r[] o[] x{} b0" ∷
    "= 6" ∷
    "20 Construct c1 g0 w0 p0@0{4,18,20} a1 v1/0{4,18,20}{20} y- r[] o[] x{} b0" ∷
    "= 8" ∷
    "4 RegPrim c1 g0 w0 p1@1{4,18,20} a0 v1/0{4,18,20}{4} y- r[] o[] x{} b0" ∷
    "= 9" ∷
    "18 RegPrim c1 g0 w0 p1@1{4,18,20} a0 v1/0{4,18,20}{18} y- r[] o[] x{} b0" ∷
    "= 10" ∷
    "20 RegPrim c1 g0 w0 p1@1{4,18,20} a0 v1/0{4,18,20}{20} y- r[] o[] x{} b0" ∷
    "= 12" ∷
    "weak 18 absent" ∷
    "= 13" ∷
    "made 18:1 leave 20" ∷
    "18 RegPrim c1 g0 w0 p1@1{4,18,20} a0 v1/0{4,18,20}{18} y- r[] o[18:1] x{} b0" ∷
    "= 17" ∷
    "order 1 18:1" ∷
    "4 RegPrim c1 g1 w0 p1@1{4,18,20} a0 v1/0{4,18,20}{4} y- r[] o[] x{20} b0" ∷
    "= 18" ∷
    "18 RegPrim c1 g1 w0 p1@1{4,18,20} a0 v1/0{4,18,20}{18} y- r[] o[] x{20} b0" ∷
    "reply 18:1 done" ∷
    "= 19" ∷
    "20 RegPrim c1 g1 w0 p1@1{4,18,20} a0 v1/0{4,18,20}{20} y- r[] o[] x{20} b0" ∷
    "= 23" ∷
    "4 TransPrim t1 g1 w0 p1@1{4,18,20} a0 v1/0{4,18,20}{4} y- r[] o[] x{20} b0" ∷
    "18 TransPrim t1 g1 w0 p1@1{4,18,20} a0 v1/0{4,18,20}{18} y- r[] o[] x{20} b0" ∷
    "20 TransPrim t1 g1 w0 p1@1{4,18,20} a0 v1/0{4,18,20}{20} y- r[] o[] x{20} b0" ∷
    "= 24" ∷
    "4 ExchangeStates c2 g1 w0 p1@1{4,18,20} a0 v- y![] r[] o[] x{20} b0" ∷
    "18 ExchangeStates c2 g1 w0 p1@1{4,18,20} a0 v- y![] r[] o[] x{20} b0" ∷
    "20 ExchangeStates c2 g1 w0 p1@1{4,18,20} a0 v- y![] r[] o[] x{20} b0" ∷
    "= 27" ∷
    "4 Construct c2 g1 w0 p1@1{4,18,20} a1 v2/1{4,18}{4} y![] r[] o[] x{20} b0" ∷
    "= 28" ∷
    "18 Construct c2 g1 w0 p1@1{4,18,20} a1 v2/1{4,18}{18} y![] r[] o[] x{20} b0" ∷
    "= 29" ∷
    "20 Left c2 g1 w0 p1@1{4,18,20} a0 v- y![] r[] o[] x{20} b0" ∷
    "= 31" ∷
    "4 RegPrim c2 g1 w0 p2@2{4,18} a0 v2/1{4,18}{4} y- r[] o[] x{20} b0" ∷
    "= 32" ∷
    "18 RegPrim c2 g1 w0 p2@2{4,18} a0 v2/1{4,18}{18} y- r[] o[] x{20} b0" ∷
    "= 34" ∷
    "made 18:2 move \"b\" \"x\" 4 ? keys \"\"" ∷
    "18 RegPrim c2 g1 w0 p2@2{4,18} a0 v2/1{4,18}{18} y- r[] o[18:2] x{20} b0" ∷
    "= 36" ∷
    "order 2 18:2" ∷
    "4 RegPrim c2 g2 w0 p2@2{4,18} a0 v2/1{4,18}{4} y- r[] o[] x{20} b0" ∷
    "= 37" ∷
    "18 RegPrim c2 g2 w0 p2@2{4,18} a0 v2/1{4,18}{18} y- r[] o[] x{20} b0" ∷
    "reply 18:2 aborted 1 ? keys" ∷
    "= 43" ∷
    "greens 4 [18:1,18:2]" ∷
    "db 4" ∷
    "= 44" ∷
    "4 TransPrim t2 g2 w0 p2@2{4,18} a0 v2/1{4,18}{4} y- r[] o[] x{20} b0" ∷
    "= 45" ∷
    "4 TransPrim t2 g2 w0 p2@2{4,18} a0 v2/1{4,18}{4} y- r[] o[] x{20} b1" ∷
    "= 46" ∷
    "made 18:3 put \"b\" 65" ∷
    "18 RegPrim c2 g2 w0 p2@2{4,18} a0 v2/1{4,18}{18} y- r[] o[18:3] x{20} b0" ∷
    "= 47" ∷
    "4 ExchangeStates c3 g2 w0 p2@2{4,18} a0 v- y![] r[] o[] x{20} b1" ∷
    "= 48" ∷
    "made 18:4 inc \"a\" 4" ∷
    "18 RegPrim c2 g2 w0 p2@2{4,18} a0 v2/1{4,18}{18} y- r[] o[18:3,18:4] x{20} b0" ∷
    "= 51" ∷
    "4 Construct c3 g2 w0 p2@2{4,18} a1 v3/2{4}{4} y![] r[] o[] x{20} b1" ∷
    "= 52" ∷
    "4 Construct c3 g2 w0 p2@2{4,18} a1 v3/2{4}{4} y![] r[] o[] x{20} b2" ∷
    "= 54" ∷
    "4 Down" ∷
    "= 55" ∷
    "made 18:5 move \"b\" \"b\" 2; inc \"ab\" -9223372036854775808" ∷
    "18 RegPrim c2 g2 w0 p2@2{4,18} a0 v2/1{4,18}{18} y- r[] o[18:3,18:4,18:5] x{20} b0" ∷
    "end 55" ∷
    [])
unfolding cases_compute
three_replicas_primary_split_crash_in_a_device_call_leaver_a = refl

-- Replicas at the start: 3: a primary is split; a snapshot is handed on in pieces.
three_replicas_primary_split_joiner_a :
    replayed_text (
    "start 1 2 3" ∷
    "merge 1 2 3" ∷
    "rounds 2" ∷
    "join 3 4" ∷
    "rounds 2" ∷
    "request 2 cas \"x\" 34 84" ∷
    "request 3 inc \"x\" 10" ∷
    "transfer 2 4 1" ∷
    "join 3 5" ∷
    "split 2" ∷
    "split 1 3" ∷
    "merge 1 3" ∷
    "merge 2" ∷
    "order 2" ∷
    "leave 1 1" ∷
    "transfer 1 4 1" ∷
    "show 1" ∷
    "end" ∷
    [])
    ≡ written (
    "= 1" ∷
    "1 NonPrim - g0 w0 p0@0{1,2,3} a0 v- y- r[] o[] x{} b0" ∷
    "2 NonPrim - g0 w0 p0@0{1,2,3} a0 v- y- r[] o[] x{} b0" ∷
    "3 NonPrim - g0 w0 p0@0{1,2,3} a0 v- y- r[] o[] x{} b0" ∷
    "= 2" ∷
    "1 ExchangeStates c1 g0 w0 p0@0{1,2,3} a0 v- y- r[] o[] x{} b0" ∷
    "2 ExchangeStates c1 g0 w0 p0@0{1,2,3} a0 v- y- r[] o[] x{} b0" ∷
    "3 ExchangeStates c1 g0 w0 p0@0{1,2,3} a0 v- y- r[] o[] x{} b0" ∷
    "= 4" ∷
    "1 Construct c1 g0 w0 p0@0{1,2,3} a1 v1/0{1,2,3}{1} y- r[] o[] x{} b0" ∷
    "= 5" ∷
    "2 Construct c1 g0 w0 p0@0{1,2,3} a1 v1/0{1,2,3}{2} y- r[] o[] x{} b0" ∷
    "= 6" ∷
    "3 Construct c1 g0 w0 p0@0{1,2,3} a1 v1/0{1,2,3}{3} y- r[] o[] x{} b0" ∷
    "= 8" ∷
    "1 RegPrim c1 g0 w0 p1@1{1,2,3} a0 v1/0{1,2,3}{1} y- r[] o[] x{} b0" ∷
    "= 9" ∷
    "2 RegPrim c1 g0 w0 p1@1{1,2,3} a0 v1/0{1,2,3}{2} y- r[] o[] x{} b0" ∷
    "= 10" ∷
    "3 RegPrim c1 g0 w0 p1@1{1,2,3} a0 v1/0{1,2,3}{3} y- r[] o[] x{} b0" ∷
    "= 11" ∷
    "made 3:1 join 4" ∷
    "3 RegPrim c1 g0 w0 p1@1{1,2,3} a0 v1/0{1,2,3}{3} y- r[] o[3:1] x{} b0" ∷
    "= 13" ∷
    "order 1 3:1" ∷
    "1 RegPrim c1 g1 w0 p1@1{1,2,3} a0 v1/0{1,2,3}{1} y- r[] o[] x{} b0" ∷
    "= 14" ∷
    "2 RegPrim c1 g1 w0 p1@1{1,2,3} a0 v1/0{1,2,3}{2} y- r[] o[] x{} b0" ∷
    "= 15" ∷
    "3 RegPrim c1 g1 w0 p1@1{1,2,3} a0 v1/0{1,2,3}{3} y- r[] o[] x{} b0" ∷
    "reply 3:1 done" ∷
    "= 17" ∷
    "made 2:1 cas \"x\" 34 84" ∷
    "2 RegPrim c1 g1 w0 p1@1{1,2,3} a0 v1/0{1,2,3}{2} y- r[] o[2:1] x{} b0" ∷
    "= 18" ∷
    "made 3:2 inc \"x\" 10" ∷
    "3 RegPrim c1 g1 w0 p1@1{1,2,3} a0 v1/0{1,2,3}{3} y- r[] o[3:2] x{} b0" ∷
    "= 19" ∷
    "pieces 4 1/3" ∷
    "= 20" ∷
    "made 3:3 join 5" ∷
    "3 RegPrim c1 g1 w0 p1@1{1,2,3} a0 v1/0{1,2,3}{3} y- r[] o[3:2,3:3] x{} b0" ∷
    "= 21" ∷
    "2 TransPrim t1 g1 w0 p1@1{1,2,3} a0 v1/0{1,2,3}{2} y- r[] o[2:1] x{} b0" ∷
    "= 22" ∷
    "1 TransPrim t1 g1 w0 p1@1{1,2,3} a0 v1/0{1,2,3}{1} y- r[] o[] x{} b0" ∷
    "3 TransPrim t1 g1 w0 p1@1{1,2,3} a0 v1/0{1,2,3}{3} y- r[] o[3:2,3:3] x{} b0" ∷
    "= 23" ∷
    "1 ExchangeStates c2 g1 w0 p1@1{1,2,3} a0 v- y![] r[] o[] x{} b0" ∷
    "3 ExchangeStates c2 g1 w0 p1@1{1,2,3} a0 v- y![] r[3:2,3:3] o[] x{} b0" ∷
    "= 24" ∷
    "2 ExchangeStates c3 g1 w0 p1@1{1,2,3} a0 v- y![] r[2:1] o[] x{} b0" ∷
    "= 26" ∷
    "1 ExchangeStates c2 g1 w0 p1@1{1,2,3} a0 v- y![] r[] o[] x{} b1" ∷
    "= 27" ∷
    "pieces 4 1/3" ∷
    "= 28" ∷
    "greens 1 [3:1]" ∷
    "db 1" ∷
    "end 28" ∷
    [])
unfolding cases_compute
three_replicas_primary_split_joiner_a = refl
