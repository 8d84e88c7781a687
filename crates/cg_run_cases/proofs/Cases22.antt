-- Cases of cases/ with their whole reports, which `.ci/theorems` writes down here.
use Rattle.std.specs.Prelude.{◌≡◌, [], ◌∷◌}
use mathlib.Core.Path.{refl}
use Rattle.cg_run_cases.specs.Replaying.{replayed_text, written}
use Rattle.cg_run_cases.specs.Computing.{cases_compute}

-- Replicas at the start: 1: a primary is lost in a partition, and after a merge red actions are ordered; a crash strikes inside a device call.
one_replica_primary_lost_and_reds_ordered_crash_in_a_device_call_d :
    replayed_text (
    "start 1" ∷
    "merge 1" ∷
    "rounds 2" ∷
    "request 1 inc \"k2\" 8" ∷
    "request 1 inc \"x\" -9223372036854775808 ? get \"x\"" ∷
    "rounds 1" ∷
    "rounds 1" ∷
    "split 1" ∷
    "merge 1" ∷
    "gather" ∷
    "deliver 1 1" ∷
    "gather" ∷
    "gather" ∷
    "request 1 need \"k1\" absent; move \"abc\" \"ab\" 5" ∷
    "deliver 1 1" ∷
    "gather" ∷
    "stop 1 11 01" ∷
    "show 1" ∷
    "gather" ∷
    "request 1 cas \"a\" -1 65 ? get \"k1\"" ∷
    "gather" ∷
    "rounds 2" ∷
    "request 1 inc \"z\" -9223372036854775808 ? count" ∷
    "recover 1" ∷
    "merge 1" ∷
    "gather" ∷
    "rounds 1" ∷
    "gather" ∷
    "deliver 1 1" ∷
    "split 1" ∷
    "gather" ∷
    "merge 1" ∷
    "rounds 3" ∷
    "rounds 3" ∷
    "split 1" ∷
    "merge 1" ∷
    "gather" ∷
    "gather" ∷
    "deliver 1 1" ∷
    "request 1 inc \"ab\" 9223372036854775807; inc \"a\" 12; put \"a\" 82; put \"b\" 72; cas \"b\" absent -1; del \"y\"; inc \"abc\" 4; need \"ab\" 75; move \"z\" \"y\" 7; put \"y\" 50; inc \"x\" -1; del \"k1\"; inc \"z\" -3; del \"a\"; inc \"x\" 6; inc \"a\" 0 ? get \"k1\"" ∷
    "request 1 cas \"b\" absent 53; inc \"x\" 1 ? get \"y\"" ∷
    "rounds 1" ∷
    "stop 1 0 00" ∷
    "gather" ∷
    "recover 1" ∷
    "merge 1" ∷
    "show 1" ∷
    "end" ∷
    [])
    ≡ written (
    "= 1" ∷
    "1 NonPrim - g0 w0 p0@0{1} a0 v- y- r[] o[] x{} b0" ∷
    "= 2" ∷
    "1 ExchangeStates c1 g0 w0 p0@0{1} a0 v- y- r[] o[] x{} b0" ∷
    "= 4" ∷
    "1 Construct c1 g0 w0 p0@0{1} a1 v1/0{1}{1} y- r[] o[] x{} b0" ∷
    "= 6" ∷
    "1 RegPrim c1 g0 w0 p1@1{1} a0 v1/0{1}{1} y- r[] o[] x{} b0" ∷
    "= 7" ∷
    "made 1:1 inc \"k2\" 8" ∷
    "1 RegPrim c1 g0 w0 p1@1{1} a0 v1/0{1}{1} y- r[] o[1:1] x{} b0" ∷
    "= 8" ∷
    "made 1:2 inc \"x\" -9223372036854775808 ? get \"x\"" ∷
    "1 RegPrim c1 g0 w0 p1@1{1} a0 v1/0{1}{1} y- r[] o[1:1,1:2] x{} b0" ∷
    "= 10" ∷
    "order 1 1:1" ∷
    "order 2 1:2" ∷
    "1 RegPrim c1 g2 w0 p1@1{1} a0 v1/0{1}{1} y- r[] o[] x{} b0" ∷
    "reply 1:1 done" ∷
    "reply 1:2 done ? -9223372036854775808" ∷
    "= 12" ∷
    "1 TransPrim t1 g2 w0 p1@1{1} a0 v1/0{1}{1} y- r[] o[] x{} b0" ∷
    "= 13" ∷
    "1 ExchangeStates c2 g2 w0 p1@1{1} a0 v- y![] r[] o[] x{} b0" ∷
    "= 15" ∷
    "1 Construct c2 g2 w0 p1@1{1} a1 v2/1{1}{1} y![] r[] o[] x{} b0" ∷
    "= 18" ∷
    "1 Construct c2 g2 w0 p1@1{1} a1 v2/1{1}{1} y![] r[] o[] x{} b1" ∷
    "= 19" ∷
    "made 1:3 need \"k1\" absent; move \"abc\" \"ab\" 5" ∷
    "1 RegPrim c2 g2 w0 p2@2{1} a0 v2/1{1}{1} y- r[] o[1:3] x{} b0" ∷
    "= 22" ∷
    "greens 1 [1:1,1:2]" ∷
    "db 1 \"k2\"=8 \"x\"=-9223372036854775808" ∷
    "= 24" ∷
    "made 1:4 cas \"a\" -1 65 ? get \"k1\"" ∷
    "1 RegPrim c2 g2 w0 p2@2{1} a0 v2/1{1}{1} y- r[] o[1:3,1:4] x{} b0" ∷
    "= 27" ∷
    "order 3 1:3" ∷
    "order 4 1:4" ∷
    "1 RegPrim c2 g4 w2 p2@2{1} a0 v2/1{1}{1} y- r[] o[] x{} b0" ∷
    "reply 1:3 aborted 2" ∷
    "reply 1:4 done ? absent" ∷
    "= 29" ∷
    "1 Down" ∷
    "= 30" ∷
    "made 1:5 inc \"z\" -9223372036854775808 ? count" ∷
    "1 NonPrim - g4 w2 p2@2{1} a0 v2/1{1}{1} y- r[1:5] o[] x{} b0" ∷
    "= 31" ∷
    "1 ExchangeStates c3 g4 w2 p2@2{1} a0 v2/1{1}{1} y- r[1:5] o[] x{} b0" ∷
    "= 34" ∷
    "1 Construct c3 g4 w2 p2@2{1} a1 v3/2{1}{1} y- r[1:5] o[] x{} b0" ∷
    "= 36" ∷
    "order 5 1:5" ∷
    "1 RegPrim c3 g5 w4 p3@3{1} a0 v3/2{1}{1} y- r[] o[] x{} b0" ∷
    "= 37" ∷
    "1 TransPrim t3 g5 w4 p3@3{1} a0 v3/2{1}{1} y- r[] o[] x{} b0" ∷
    "= 39" ∷
    "1 ExchangeStates c4 g5 w4 p3@3{1} a0 v- y![] r[] o[] x{} b0" ∷
    "= 41" ∷
    "1 Construct c4 g5 w4 p3@3{1} a1 v4/3{1}{1} y![] r[] o[] x{} b0" ∷
    "= 43" ∷
    "1 RegPrim c4 g5 w4 p4@4{1} a0 v4/3{1}{1} y- r[] o[] x{} b0" ∷
    "= 48" ∷
    "1 TransPrim t4 g5 w4 p4@4{1} a0 v4/3{1}{1} y- r[] o[] x{} b0" ∷
    "= 49" ∷
    "1 ExchangeStates c5 g5 w4 p4@4{1} a0 v- y![] r[] o[] x{} b0" ∷
    "= 52" ∷
    "1 Construct c5 g5 w4 p4@4{1} a1 v5/4{1}{1} y![] r[] o[] x{} b0" ∷
    "= 53" ∷
    "1 Construct c5 g5 w4 p4@4{1} a1 v5/4{1}{1} y![] r[] o[] x{} b1" ∷
    "= 54" ∷
    "1 Construct c5 g5 w4 p4@4{1} a1 v5/4{1}{1} y![] r[] o[] x{} b2" ∷
    "= 56" ∷
    "made 1:6 inc \"ab\" 9223372036854775807; inc \"a\" 12; put \"a\" 82; put \"b\" 72; cas \"b\" absent -1; del \"y\"; inc \"abc\" 4; need \"ab\" 75; move \"z\" \"y\" 7; put \"y\" 50; inc \"x\" -1; del \"k1\"; inc \"z\" -3; del \"a\"; inc \"x\" 6; inc \"a\" 0 ? get \"k1\"" ∷
    "made 1:7 cas \"b\" absent 53; inc \"x\" 1 ? get \"y\"" ∷
    "1 RegPrim c5 g5 w4 p5@5{1} a0 v5/4{1}{1} y- r[] o[1:6,1:7] x{} b0" ∷
    "= 57" ∷
    "1 Down" ∷
    "= 59" ∷
    "1 NonPrim - g5 w4 p5@5{1} a0 v5/4{1}{1} y- r[1:6,1:7] o[] x{} b0" ∷
    "= 60" ∷
    "1 ExchangeStates c6 g5 w4 p5@5{1} a0 v5/4{1}{1} y- r[1:6,1:7] o[] x{} b0" ∷
    "= 61" ∷
    "greens 1 [1:5]" ∷
    "db 1 \"k2\"=8 \"x\"=-9223372036854775808 \"z\"=-9223372036854775808" ∷
    "end 61" ∷
    [])
unfolding cases_compute
one_replica_primary_lost_and_reds_ordered_crash_in_a_device_call_d = refl

-- Replicas at the start: 1: a primary is lost in a partition, and after a merge red actions are ordered; a crash strikes inside a device call; an old disk is migrated; the last event is refused.
one_replica_primary_lost_and_reds_ordered_crash_in_a_device_call_old_disk_refused_a :
    replayed_text (
    "start 1*2" ∷
    "merge 1" ∷
    "request 1 ? get \"a\"" ∷
    "request 1 ? keys \"ab\"" ∷
    "request 1 ? keys \"a\"" ∷
    "gather" ∷
    "request 1 put \"z\" 20 ? get \"abc\"" ∷
    "stop 1 9 01" ∷
    "request 1 inc \"y\" 0 ? count" ∷
    "rounds 2" ∷
    "split 1" ∷
    "merge 1" ∷
    "rounds 3" ∷
    "recover 1" ∷
    "gather" ∷
    "merge 1" ∷
    "rounds 3" ∷
    "request 1 put \"k2\" \"yes \\\"no\\\"\"" ∷
    "gather" ∷
    "rounds 3" ∷
    "gather" ∷
    "split 1" ∷
    "merge 1" ∷
    "order 1" ∷
    "gather" ∷
    "gather" ∷
    "deliver 1 1" ∷
    "gather" ∷
    "split 1" ∷
    "stop 1 15 09200001498d0101" ∷
    "merge 1" ∷
    "stop 1 0 0000000000" ∷
    "recover 1 9 01" ∷
    "merge 1" ∷
    "order 1" ∷
    "rounds 1" ∷
    "gather" ∷
    "deliver 1 1" ∷
    "split 1" ∷
    "merge 1" ∷
    "request 1 inc \"y\" 4 ? get \"ab\"" ∷
    "deliver 1 1000000" ∷
    "end" ∷
    [])
    ≡ written (
    "= 1" ∷
    "1 NonPrim - g0 w0 p0@0{1*2} a0 v- y- r[] o[] x{} b0" ∷
    "= 2" ∷
    "1 ExchangeStates c1 g0 w0 p0@0{1*2} a0 v- y- r[] o[] x{} b0" ∷
    "= 3" ∷
    "1 ExchangeStates c1 g0 w0 p0@0{1*2} a0 v- y- r[] o[] x{} b1" ∷
    "= 4" ∷
    "1 ExchangeStates c1 g0 w0 p0@0{1*2} a0 v- y- r[] o[] x{} b2" ∷
    "= 5" ∷
    "1 ExchangeStates c1 g0 w0 p0@0{1*2} a0 v- y- r[] o[] x{} b3" ∷
    "= 7" ∷
    "1 ExchangeStates c1 g0 w0 p0@0{1*2} a0 v- y- r[] o[] x{} b4" ∷
    "= 9" ∷
    "1 ExchangeStates c1 g0 w0 p0@0{1*2} a0 v- y- r[] o[] x{} b5" ∷
    "= 11" ∷
    "1 Construct c1 g0 w0 p0@0{1*2} a1 v1/0{1}{1} y- r[] o[] x{} b5" ∷
    "= 13" ∷
    "made 1:1 ? get \"a\"" ∷
    "made 1:2 ? keys \"ab\"" ∷
    "made 1:3 ? keys \"a\"" ∷
    "made 1:4 put \"z\" 20 ? get \"abc\"" ∷
    "made 1:5 inc \"y\" 0 ? count" ∷
    "1 RegPrim c1 g0 w0 p1@1{1*2} a0 v1/0{1}{1} y- r[] o[1:1,1:2,1:3,1:4,1:5] x{} b0" ∷
    "= 14" ∷
    "1 TransPrim t1 g0 w0 p1@1{1*2} a0 v1/0{1}{1} y- r[] o[1:1,1:2,1:3,1:4,1:5] x{} b0" ∷
    "= 15" ∷
    "1 Down" ∷
    "= 19" ∷
    "1 NonPrim - g0 w0 p1@1{1*2} a0 v1/0{1}{1} y- r[1:1,1:2,1:3,1:4,1:5] o[] x{} b0" ∷
    "= 21" ∷
    "1 ExchangeStates c3 g0 w0 p1@1{1*2} a0 v1/0{1}{1} y- r[1:1,1:2,1:3,1:4,1:5] o[] x{} b0" ∷
    "= 23" ∷
    "1 Construct c3 g0 w0 p1@1{1*2} a1 v3/1{1}{1} y- r[1:1,1:2,1:3,1:4,1:5] o[] x{} b0" ∷
    "= 25" ∷
    "order 1 1:1" ∷
    "order 2 1:2" ∷
    "order 3 1:3" ∷
    "order 4 1:4" ∷
    "order 5 1:5" ∷
    "1 RegPrim c3 g5 w0 p2@3{1*2} a0 v3/1{1}{1} y- r[] o[] x{} b0" ∷
    "= 27" ∷
    "made 1:6 put \"k2\" \"yes \\\"no\\\"\"" ∷
    "1 RegPrim c3 g5 w0 p2@3{1*2} a0 v3/1{1}{1} y- r[] o[1:6] x{} b0" ∷
    "= 30" ∷
    "order 6 1:6" ∷
    "1 RegPrim c3 g6 w5 p2@3{1*2} a0 v3/1{1}{1} y- r[] o[] x{} b0" ∷
    "reply 1:6 done" ∷
    "= 34" ∷
    "1 TransPrim t3 g6 w5 p2@3{1*2} a0 v3/1{1}{1} y- r[] o[] x{} b0" ∷
    "= 35" ∷
    "1 ExchangeStates c4 g6 w5 p2@3{1*2} a0 v- y![] r[] o[] x{} b0" ∷
    "= 39" ∷
    "1 Construct c4 g6 w5 p2@3{1*2} a1 v4/2{1}{1} y![] r[] o[] x{} b0" ∷
    "= 41" ∷
    "1 Un t4 g6 w5 p2@3{1*2} a1 v4/2{1}{1} y![] r[] o[] x{} b0" ∷
    "= 43" ∷
    "1 ExchangeStates c5 g6 w5 p2@3{1*2} a1 v4/2{1}{1} y![] r[] o[] x{} b0" ∷
    "= 44" ∷
    "1 Down" ∷
    "= 45" ∷
    "1 NonPrim - g6 w5 p2@3{1*2} a1 v4/2{1}{1} y![] r[] o[] x{} b0" ∷
    "= 46" ∷
    "1 ExchangeStates c6 g6 w5 p2@3{1*2} a1 v4/2{1}{1} y![] r[] o[] x{} b0" ∷
    "= 49" ∷
    "1 Construct c6 g6 w5 p2@3{1*2} a2 v6/2{1}{1} y![] r[] o[] x{} b0" ∷
    "= 51" ∷
    "1 RegPrim c6 g6 w5 p3@6{1*2} a0 v6/2{1}{1} y- r[] o[] x{} b0" ∷
    "= 52" ∷
    "1 TransPrim t6 g6 w5 p3@6{1*2} a0 v6/2{1}{1} y- r[] o[] x{} b0" ∷
    "= 53" ∷
    "1 ExchangeStates c7 g6 w5 p3@6{1*2} a0 v- y![] r[] o[] x{} b0" ∷
    "= 54" ∷
    "1 ExchangeStates c7 g6 w5 p3@6{1*2} a0 v- y![] r[] o[] x{} b1" ∷
    "refused 42 6 0" ∷
    [])
unfolding cases_compute
one_replica_primary_lost_and_reds_ordered_crash_in_a_device_call_old_disk_refused_a = refl

-- Replicas at the start: 1: a primary is split.
one_replica_primary_split_a_from_discarding :
    replayed_text (
    "start 29" ∷
    "merge 29" ∷
    "rounds 2" ∷
    "request 29 inc \"z\" 5; inc \"a\" 7 ? get \"b\"" ∷
    "gather" ∷
    "deliver 29 1" ∷
    "split 29" ∷
    "merge 29" ∷
    "rounds 2" ∷
    "request 29 put \"y\" 76 ? keys \"q\"" ∷
    "rounds 2" ∷
    "request 29 put \"abc\" 97" ∷
    "request 29 put \"x\" 67" ∷
    "gather" ∷
    "deliver 29 1" ∷
    "gather" ∷
    "rounds 2" ∷
    "show 29" ∷
    "rounds 1" ∷
    "rounds 2" ∷
    "request 29 need \"abc\" absent; inc \"ab\" 2" ∷
    "request 29 move \"abc\" \"z\" 0 ? count" ∷
    "gather" ∷
    "request 29 put \"z\" \"back\\\\slash\"" ∷
    "deliver 29 2" ∷
    "request 29 inc \"b\" 4 ? get \"z\"" ∷
    "order 29" ∷
    "rounds 2" ∷
    "request 29 inc \"b\" 12; put \"k1\" 89; move \"x\" \"y\" 5; inc \"x\" -3" ∷
    "end" ∷
    [])
    ≡ written (
    "= 1" ∷
    "29 NonPrim - g0 w0 p0@0{29} a0 v- y- r[] o[] x{} b0" ∷
    "= 2" ∷
    "29 ExchangeStates c1 g0 w0 p0@0{29} a0 v- y- r[] o[] x{} b0" ∷
    "= 4" ∷
    "29 Construct c1 g0 w0 p0@0{29} a1 v1/0{29}{29} y- r[] o[] x{} b0" ∷
    "= 6" ∷
    "29 RegPrim c1 g0 w0 p1@1{29} a0 v1/0{29}{29} y- r[] o[] x{} b0" ∷
    "= 7" ∷
    "made 29:1 inc \"z\" 5; inc \"a\" 7 ? get \"b\"" ∷
    "29 RegPrim c1 g0 w0 p1@1{29} a0 v1/0{29}{29} y- r[] o[29:1] x{} b0" ∷
    "= 9" ∷
    "order 1 29:1" ∷
    "29 RegPrim c1 g1 w0 p1@1{29} a0 v1/0{29}{29} y- r[] o[] x{} b0" ∷
    "reply 29:1 done ? absent" ∷
    "= 10" ∷
    "29 TransPrim t1 g1 w0 p1@1{29} a0 v1/0{29}{29} y- r[] o[] x{} b0" ∷
    "= 11" ∷
    "29 ExchangeStates c2 g1 w0 p1@1{29} a0 v- y![] r[] o[] x{} b0" ∷
    "= 13" ∷
    "29 Construct c2 g1 w0 p1@1{29} a1 v2/1{29}{29} y![] r[] o[] x{} b0" ∷
    "= 15" ∷
    "29 RegPrim c2 g1 w0 p2@2{29} a0 v2/1{29}{29} y- r[] o[] x{} b0" ∷
    "= 16" ∷
    "made 29:2 put \"y\" 76 ? keys \"q\"" ∷
    "29 RegPrim c2 g1 w0 p2@2{29} a0 v2/1{29}{29} y- r[] o[29:2] x{} b0" ∷
    "= 18" ∷
    "order 2 29:2" ∷
    "29 RegPrim c2 g2 w1 p2@2{29} a0 v2/1{29}{29} y- r[] o[] x{} b0" ∷
    "reply 29:2 done ? keys" ∷
    "= 20" ∷
    "made 29:3 put \"abc\" 97" ∷
    "29 RegPrim c2 g2 w1 p2@2{29} a0 v2/1{29}{29} y- r[] o[29:3] x{} b0" ∷
    "= 21" ∷
    "made 29:4 put \"x\" 67" ∷
    "29 RegPrim c2 g2 w1 p2@2{29} a0 v2/1{29}{29} y- r[] o[29:3,29:4] x{} b0" ∷
    "= 23" ∷
    "order 3 29:3" ∷
    "29 RegPrim c2 g3 w2 p2@2{29} a0 v2/1{29}{29} y- r[] o[29:4] x{} b0" ∷
    "reply 29:3 done" ∷
    "= 26" ∷
    "order 4 29:4" ∷
    "29 RegPrim c2 g4 w2 p2@2{29} a0 v2/1{29}{29} y- r[] o[] x{} b0" ∷
    "reply 29:4 done" ∷
    "= 28" ∷
    "greens 29 [29:3,29:4]" ∷
    "db 29 \"a\"=7 \"abc\"=97 \"x\"=67 \"y\"=76 \"z\"=5" ∷
    "= 32" ∷
    "made 29:5 need \"abc\" absent; inc \"ab\" 2" ∷
    "29 RegPrim c2 g4 w2 p2@2{29} a0 v2/1{29}{29} y- r[] o[29:5] x{} b0" ∷
    "= 33" ∷
    "made 29:6 move \"abc\" \"z\" 0 ? count" ∷
    "29 RegPrim c2 g4 w2 p2@2{29} a0 v2/1{29}{29} y- r[] o[29:5,29:6] x{} b0" ∷
    "= 35" ∷
    "made 29:7 put \"z\" \"back\\\\slash\"" ∷
    "29 RegPrim c2 g4 w2 p2@2{29} a0 v2/1{29}{29} y- r[] o[29:5,29:6,29:7] x{} b0" ∷
    "= 36" ∷
    "order 5 29:5" ∷
    "order 6 29:6" ∷
    "29 RegPrim c2 g6 w4 p2@2{29} a0 v2/1{29}{29} y- r[] o[29:7] x{} b0" ∷
    "reply 29:5 aborted 1" ∷
    "reply 29:6 done ? count 5" ∷
    "= 37" ∷
    "made 29:8 inc \"b\" 4 ? get \"z\"" ∷
    "29 RegPrim c2 g6 w4 p2@2{29} a0 v2/1{29}{29} y- r[] o[29:7,29:8] x{} b0" ∷
    "= 40" ∷
    "order 7 29:7" ∷
    "order 8 29:8" ∷
    "29 RegPrim c2 g8 w6 p2@2{29} a0 v2/1{29}{29} y- r[] o[] x{} b0" ∷
    "reply 29:7 done" ∷
    "reply 29:8 done ? \"back\\\\slash\"" ∷
    "= 42" ∷
    "made 29:9 inc \"b\" 12; put \"k1\" 89; move \"x\" \"y\" 5; inc \"x\" -3" ∷
    "29 RegPrim c2 g8 w6 p2@2{29} a0 v2/1{29}{29} y- r[] o[29:9] x{} b0" ∷
    "end 42" ∷
    [])
unfolding cases_compute
one_replica_primary_split_a_from_discarding = refl

-- Replicas at the start: 1: several primaries follow one another.
one_replica_several_primaries_a_from_discarding :
    replayed_text (
    "start 1" ∷
    "merge 1" ∷
    "split 1" ∷
    "merge 1" ∷
    "split 1" ∷
    "show order" ∷
    "merge 1" ∷
    "gather" ∷
    "gather" ∷
    "deliver 1 1" ∷
    "gather" ∷
    "rounds 2" ∷
    "request 1 put \"z\" \"-1\" ? get \"z\"" ∷
    "gather" ∷
    "gather" ∷
    "split 1" ∷
    "merge 1" ∷
    "request 1 put \"x\" 78; inc \"a\" 11" ∷
    "split 1" ∷
    "merge 1" ∷
    "request 1 need \"a\" absent; inc \"abc\" -1 ? get \"y\"" ∷
    "request 1 put \"abc\" 73" ∷
    "gather" ∷
    "deliver 1 1" ∷
    "gather" ∷
    "gather" ∷
    "split 1" ∷
    "merge 1" ∷
    "gather" ∷
    "gather" ∷
    "deliver 1 1" ∷
    "order 1" ∷
    "gather" ∷
    "deliver 1 1" ∷
    "gather" ∷
    "gather" ∷
    "gather" ∷
    "deliver 1 2" ∷
    "deliver 1 1" ∷
    "split 1" ∷
    "merge 1" ∷
    "order 1" ∷
    "gather" ∷
    "gather" ∷
    "gather" ∷
    "request 1 inc \"b\" 4" ∷
    "show 1" ∷
    "gather" ∷
    "request 1 inc \"x\" -2" ∷
    "deliver 1 1" ∷
    "gather" ∷
    "deliver 1 1" ∷
    "gather" ∷
    "gather" ∷
    "gather" ∷
    "split 1" ∷
    "merge 1" ∷
    "gather" ∷
    "gather" ∷
    "end" ∷
    [])
    ≡ written (
    "= 1" ∷
    "1 NonPrim - g0 w0 p0@0{1} a0 v- y- r[] o[] x{} b0" ∷
    "= 2" ∷
    "1 ExchangeStates c1 g0 w0 p0@0{1} a0 v- y- r[] o[] x{} b0" ∷
    "= 3" ∷
    "1 NonPrim t1 g0 w0 p0@0{1} a0 v- y- r[] o[] x{} b0" ∷
    "= 4" ∷
    "1 ExchangeStates c2 g0 w0 p0@0{1} a0 v- y- r[] o[] x{} b0" ∷
    "= 5" ∷
    "1 NonPrim t2 g0 w0 p0@0{1} a0 v- y- r[] o[] x{} b0" ∷
    "= 6" ∷
    "all []" ∷
    "= 7" ∷
    "1 ExchangeStates c3 g0 w0 p0@0{1} a0 v- y- r[] o[] x{} b0" ∷
    "= 10" ∷
    "1 Construct c3 g0 w0 p0@0{1} a1 v3/0{1}{1} y- r[] o[] x{} b0" ∷
    "= 13" ∷
    "1 RegPrim c3 g0 w0 p1@3{1} a0 v3/0{1}{1} y- r[] o[] x{} b0" ∷
    "= 15" ∷
    "made 1:1 put \"z\" \"-1\" ? get \"z\"" ∷
    "1 RegPrim c3 g0 w0 p1@3{1} a0 v3/0{1}{1} y- r[] o[1:1] x{} b0" ∷
    "= 18" ∷
    "1 TransPrim t3 g0 w0 p1@3{1} a0 v3/0{1}{1} y?[1:1] r[] o[] x{} b0" ∷
    "= 19" ∷
    "1 ExchangeStates c4 g0 w0 p1@3{1} a0 v- y![1:1] r[] o[] x{} b0" ∷
    "= 20" ∷
    "1 ExchangeStates c4 g0 w0 p1@3{1} a0 v- y![1:1] r[] o[] x{} b1" ∷
    "= 21" ∷
    "1 NonPrim t4 g0 w0 p1@3{1} a0 v- y![1:1] r[] o[] x{} b1" ∷
    "= 22" ∷
    "1 ExchangeStates c5 g0 w0 p1@3{1} a0 v- y![1:1] r[] o[] x{} b1" ∷
    "= 23" ∷
    "1 ExchangeStates c5 g0 w0 p1@3{1} a0 v- y![1:1] r[] o[] x{} b2" ∷
    "= 24" ∷
    "1 ExchangeStates c5 g0 w0 p1@3{1} a0 v- y![1:1] r[] o[] x{} b3" ∷
    "= 26" ∷
    "1 Construct c5 g0 w0 p1@3{1} a1 v5/1{1}{1} y![1:1] r[] o[] x{} b3" ∷
    "= 29" ∷
    "1 Un t5 g0 w0 p1@3{1} a1 v5/1{1}{1} y![1:1] r[] o[] x{} b3" ∷
    "= 30" ∷
    "1 ExchangeStates c6 g0 w0 p1@3{1} a1 v5/1{1}{1} y![1:1] r[] o[] x{} b3" ∷
    "= 33" ∷
    "1 Construct c6 g0 w0 p1@3{1} a2 v6/1{1}{1} y![1:1] r[] o[] x{} b3" ∷
    "= 36" ∷
    "made 1:2 put \"x\" 78; inc \"a\" 11" ∷
    "made 1:3 need \"a\" absent; inc \"abc\" -1 ? get \"y\"" ∷
    "made 1:4 put \"abc\" 73" ∷
    "order 1 1:1" ∷
    "1 RegPrim c6 g1 w0 p2@6{1} a0 v6/1{1}{1} y- r[] o[1:2,1:3,1:4] x{} b0" ∷
    "reply 1:1 done ? \"-1\"" ∷
    "= 40" ∷
    "order 2 1:2" ∷
    "order 3 1:3" ∷
    "1 RegPrim c6 g3 w1 p2@6{1} a0 v6/1{1}{1} y- r[] o[1:4] x{} b0" ∷
    "reply 1:2 done" ∷
    "reply 1:3 aborted 1 ? absent" ∷
    "= 41" ∷
    "order 4 1:4" ∷
    "1 RegPrim c6 g4 w1 p2@6{1} a0 v6/1{1}{1} y- r[] o[] x{} b0" ∷
    "reply 1:4 done" ∷
    "= 42" ∷
    "1 TransPrim t6 g4 w1 p2@6{1} a0 v6/1{1}{1} y- r[] o[] x{} b0" ∷
    "= 43" ∷
    "1 ExchangeStates c7 g4 w1 p2@6{1} a0 v- y![] r[] o[] x{} b0" ∷
    "= 48" ∷
    "1 ExchangeStates c7 g4 w1 p2@6{1} a0 v- y![] r[] o[] x{} b1" ∷
    "= 49" ∷
    "greens 1 [1:2,1:3,1:4]" ∷
    "db 1 \"a\"=11 \"abc\"=73 \"x\"=78 \"z\"=\"-1\"" ∷
    "= 51" ∷
    "1 ExchangeStates c7 g4 w1 p2@6{1} a0 v- y![] r[] o[] x{} b2" ∷
    "= 52" ∷
    "1 Construct c7 g4 w1 p2@6{1} a1 v7/2{1}{1} y![] r[] o[] x{} b2" ∷
    "= 54" ∷
    "made 1:5 inc \"b\" 4" ∷
    "made 1:6 inc \"x\" -2" ∷
    "1 RegPrim c7 g4 w1 p3@7{1} a0 v7/2{1}{1} y- r[] o[1:5,1:6] x{} b0" ∷
    "= 58" ∷
    "1 TransPrim t7 g4 w1 p3@7{1} a0 v7/2{1}{1} y?[1:5,1:6] r[] o[] x{} b0" ∷
    "= 59" ∷
    "1 ExchangeStates c8 g4 w1 p3@7{1} a0 v- y![1:5,1:6] r[] o[] x{} b0" ∷
    "end 61" ∷
    [])
unfolding cases_compute
one_replica_several_primaries_a_from_discarding = refl

-- Replicas at the start: 1: yellow actions pass through an exchange; a crash strikes inside a device call.
one_replica_yellow_actions_crash_in_a_device_call_a :
    replayed_text (
    "start 1" ∷
    "merge 1" ∷
    "show 1" ∷
    "request 1 cas \"ab\" absent 53" ∷
    "split 1" ∷
    "merge 1" ∷
    "request 1 cas \"y\" absent 12; put \"k1\" 13; inc \"x\" 6; inc \"z\" 1; inc \"y\" -1; put \"b\" \"\"; del \"a\"; move \"y\" \"z\" 1; move \"x\" \"k1\" 0; del \"k1\"; inc \"b\" 4; inc \"y\" 12; put \"abc\" 8; move \"z\" \"abc\" 8; move \"ab\" \"y\" 9223372036854775807; put \"z\" 68" ∷
    "order 1" ∷
    "deliver 1 1" ∷
    "split 1" ∷
    "merge 1" ∷
    "request 1 ? get \"z\"" ∷
    "order 1" ∷
    "deliver 1 1" ∷
    "order 1" ∷
    "split 1" ∷
    "merge 1" ∷
    "gather" ∷
    "request 1 cas \"x\" 77 93; cas \"z\" 5 82; del \"z\"" ∷
    "request 1 inc \"x\" 6" ∷
    "deliver 1 1" ∷
    "request 1 del \"abc\" ? get \"abc\"" ∷
    "order 1" ∷
    "gather" ∷
    "deliver 1 1" ∷
    "gather" ∷
    "gather" ∷
    "split 1" ∷
    "merge 1" ∷
    "gather" ∷
    "split 1" ∷
    "merge 1" ∷
    "gather" ∷
    "gather" ∷
    "deliver 1 1" ∷
    "gather" ∷
    "split 1" ∷
    "merge 1" ∷
    "gather" ∷
    "fail 1 2" ∷
    "request 1 put \"y\" 18" ∷
    "dirty 1 get \"z\"" ∷
    "request 1 put \"abc\" 12" ∷
    "gather" ∷
    "deliver 1 1" ∷
    "recover 1" ∷
    "gather" ∷
    "rounds 2" ∷
    "merge 1" ∷
    "request 1 ? get \"y\"" ∷
    "request 1 move \"a\" \"x\" 5" ∷
    "request 1 inc \"x\" 6" ∷
    "gather" ∷
    "split 1" ∷
    "merge 1" ∷
    "order 1" ∷
    "deliver 1 1" ∷
    "gather" ∷
    "gather" ∷
    "end" ∷
    [])
    ≡ written (
    "= 1" ∷
    "1 NonPrim - g0 w0 p0@0{1} a0 v- y- r[] o[] x{} b0" ∷
    "= 2" ∷
    "1 ExchangeStates c1 g0 w0 p0@0{1} a0 v- y- r[] o[] x{} b0" ∷
    "= 3" ∷
    "greens 1 []" ∷
    "db 1" ∷
    "= 4" ∷
    "1 ExchangeStates c1 g0 w0 p0@0{1} a0 v- y- r[] o[] x{} b1" ∷
    "= 5" ∷
    "1 NonPrim t1 g0 w0 p0@0{1} a0 v- y- r[] o[] x{} b1" ∷
    "= 6" ∷
    "1 ExchangeStates c2 g0 w0 p0@0{1} a0 v- y- r[] o[] x{} b1" ∷
    "= 7" ∷
    "1 ExchangeStates c2 g0 w0 p0@0{1} a0 v- y- r[] o[] x{} b2" ∷
    "= 9" ∷
    "1 Construct c2 g0 w0 p0@0{1} a1 v2/0{1}{1} y- r[] o[] x{} b2" ∷
    "= 10" ∷
    "1 No t2 g0 w0 p0@0{1} a1 v2/0{1}{1} y- r[] o[] x{} b2" ∷
    "= 11" ∷
    "1 ExchangeStates c3 g0 w0 p0@0{1} a1 v- y- r[] o[] x{} b2" ∷
    "= 12" ∷
    "1 ExchangeStates c3 g0 w0 p0@0{1} a1 v- y- r[] o[] x{} b3" ∷
    "= 14" ∷
    "1 Construct c3 g0 w0 p0@0{1} a2 v3/0{1}{1} y- r[] o[] x{} b3" ∷
    "= 16" ∷
    "1 Un t3 g0 w0 p0@0{1} a2 v3/0{1}{1} y- r[] o[] x{} b3" ∷
    "= 17" ∷
    "1 ExchangeStates c4 g0 w0 p0@0{1} a2 v3/0{1}{1} y- r[] o[] x{} b3" ∷
    "= 19" ∷
    "1 ExchangeStates c4 g0 w0 p0@0{1} a2 v3/0{1}{1} y- r[] o[] x{} b4" ∷
    "= 20" ∷
    "1 ExchangeStates c4 g0 w0 p0@0{1} a2 v3/0{1}{1} y- r[] o[] x{} b5" ∷
    "= 21" ∷
    "1 Construct c4 g0 w0 p0@0{1} a3 v4/0{1}{1} y- r[] o[] x{} b5" ∷
    "= 22" ∷
    "1 Construct c4 g0 w0 p0@0{1} a3 v4/0{1}{1} y- r[] o[] x{} b6" ∷
    "= 25" ∷
    "made 1:1 cas \"ab\" absent 53" ∷
    "made 1:2 cas \"y\" absent 12; put \"k1\" 13; inc \"x\" 6; inc \"z\" 1; inc \"y\" -1; put \"b\" \"\"; del \"a\"; move \"y\" \"z\" 1; move \"x\" \"k1\" 0; del \"k1\"; inc \"b\" 4; inc \"y\" 12; put \"abc\" 8; move \"z\" \"abc\" 8; move \"ab\" \"y\" 9223372036854775807; put \"z\" 68" ∷
    "made 1:3 ? get \"z\"" ∷
    "made 1:4 cas \"x\" 77 93; cas \"z\" 5 82; del \"z\"" ∷
    "made 1:5 inc \"x\" 6" ∷
    "made 1:6 del \"abc\" ? get \"abc\"" ∷
    "1 RegPrim c4 g0 w0 p1@4{1} a0 v4/0{1}{1} y- r[] o[1:1,1:2,1:3,1:4,1:5,1:6] x{} b0" ∷
    "= 28" ∷
    "1 TransPrim t4 g0 w0 p1@4{1} a0 v4/0{1}{1} y?[1:1,1:2,1:3,1:4,1:5,1:6] r[] o[] x{} b0" ∷
    "= 29" ∷
    "1 ExchangeStates c5 g0 w0 p1@4{1} a0 v- y![1:1,1:2,1:3,1:4,1:5,1:6] r[] o[] x{} b0" ∷
    "= 31" ∷
    "1 NonPrim t5 g0 w0 p1@4{1} a0 v- y![1:1,1:2,1:3,1:4,1:5,1:6] r[] o[] x{} b0" ∷
    "= 32" ∷
    "1 ExchangeStates c6 g0 w0 p1@4{1} a0 v- y![1:1,1:2,1:3,1:4,1:5,1:6] r[] o[] x{} b0" ∷
    "= 35" ∷
    "1 Construct c6 g0 w0 p1@4{1} a1 v6/1{1}{1} y![1:1,1:2,1:3,1:4,1:5,1:6] r[] o[] x{} b0" ∷
    "= 37" ∷
    "1 Un t6 g0 w0 p1@4{1} a1 v6/1{1}{1} y![1:1,1:2,1:3,1:4,1:5,1:6] r[] o[] x{} b0" ∷
    "= 38" ∷
    "1 ExchangeStates c7 g0 w0 p1@4{1} a1 v6/1{1}{1} y![1:1,1:2,1:3,1:4,1:5,1:6] r[] o[] x{} b0" ∷
    "= 41" ∷
    "1 ExchangeStates c7 g0 w0 p1@4{1} a1 v6/1{1}{1} y![1:1,1:2,1:3,1:4,1:5,1:6] r[] o[] x{} b1" ∷
    "= 42" ∷
    "dirty 1 absent" ∷
    "= 43" ∷
    "1 ExchangeStates c7 g0 w0 p1@4{1} a1 v6/1{1}{1} y![1:1,1:2,1:3,1:4,1:5,1:6] r[] o[] x{} b2" ∷
    "= 45" ∷
    "1 Down" ∷
    "= 46" ∷
    "1 NonPrim - g0 w0 p1@4{1} a1 v6/1{1}{1} y![1:1,1:2,1:3,1:4,1:5,1:6] r[] o[] x{} b0" ∷
    "= 50" ∷
    "1 ExchangeStates c8 g0 w0 p1@4{1} a1 v6/1{1}{1} y![1:1,1:2,1:3,1:4,1:5,1:6] r[] o[] x{} b0" ∷
    "= 51" ∷
    "1 ExchangeStates c8 g0 w0 p1@4{1} a1 v6/1{1}{1} y![1:1,1:2,1:3,1:4,1:5,1:6] r[] o[] x{} b1" ∷
    "= 52" ∷
    "1 ExchangeStates c8 g0 w0 p1@4{1} a1 v6/1{1}{1} y![1:1,1:2,1:3,1:4,1:5,1:6] r[] o[] x{} b2" ∷
    "= 53" ∷
    "1 ExchangeStates c8 g0 w0 p1@4{1} a1 v6/1{1}{1} y![1:1,1:2,1:3,1:4,1:5,1:6] r[] o[] x{} b3" ∷
    "= 55" ∷
    "1 NonPrim t8 g0 w0 p1@4{1} a1 v6/1{1}{1} y![1:1,1:2,1:3,1:4,1:5,1:6] r[] o[] x{} b3" ∷
    "= 56" ∷
    "1 ExchangeStates c9 g0 w0 p1@4{1} a1 v6/1{1}{1} y![1:1,1:2,1:3,1:4,1:5,1:6] r[] o[] x{} b3" ∷
    "= 58" ∷
    "1 Construct c9 g0 w0 p1@4{1} a2 v9/1{1}{1} y![1:1,1:2,1:3,1:4,1:5,1:6] r[] o[] x{} b3" ∷
    "end 60" ∷
    [])
unfolding cases_compute
one_replica_yellow_actions_crash_in_a_device_call_a = refl

-- A schedule of start and end shows the replicas as they begin.
only_start_and_end :
    replayed_text (
    "start 1 2 3" ∷
    "end" ∷
    [])
    ≡ written (
    "= 1" ∷
    "1 NonPrim - g0 w0 p0@0{1,2,3} a0 v- y- r[] o[] x{} b0" ∷
    "2 NonPrim - g0 w0 p0@0{1,2,3} a0 v- y- r[] o[] x{} b0" ∷
    "3 NonPrim - g0 w0 p0@0{1,2,3} a0 v- y- r[] o[] x{} b0" ∷
    "end 1" ∷
    [])
unfolding cases_compute
only_start_and_end = refl

-- A replica that heard all but left before installing keeps its record.
record_kept_by_one_that_cannot_know_a :
    replayed_text (
    "start 1 2 3" ∷
    "merge 1 2 3" ∷
    "stop 1 0 010800010101" ∷
    "recover 1" ∷
    "split 2" ∷
    "split 3" ∷
    "merge 1 2 3" ∷
    "rounds 1" ∷
    "gather" ∷
    "split 3" ∷
    "merge 3" ∷
    "end" ∷
    [])
    ≡ written (
    "= 1" ∷
    "1 NonPrim - g0 w0 p0@0{1,2,3} a0 v- y- r[] o[] x{} b0" ∷
    "2 NonPrim - g0 w0 p0@0{1,2,3} a0 v- y- r[] o[] x{} b0" ∷
    "3 NonPrim - g0 w0 p0@0{1,2,3} a0 v- y- r[] o[] x{} b0" ∷
    "= 2" ∷
    "1 ExchangeStates c1 g0 w0 p0@0{1,2,3} a0 v- y- r[] o[] x{} b0" ∷
    "2 ExchangeStates c1 g0 w0 p0@0{1,2,3} a0 v- y- r[] o[] x{} b0" ∷
    "3 ExchangeStates c1 g0 w0 p0@0{1,2,3} a0 v- y- r[] o[] x{} b0" ∷
    "= 3" ∷
    "1 Down" ∷
    "= 4" ∷
    "1 NonPrim - g0 w0 p0@0{1,2,3} a0 v- y- r[] o[] x{} b0" ∷
    "= 5" ∷
    "2 NonPrim t1 g0 w0 p0@0{1,2,3} a0 v- y- r[] o[] x{} b0" ∷
    "= 6" ∷
    "3 NonPrim t1 g0 w0 p0@0{1,2,3} a0 v- y- r[] o[] x{} b0" ∷
    "= 7" ∷
    "1 ExchangeStates c2 g0 w0 p0@0{1,2,3} a0 v- y- r[] o[] x{} b0" ∷
    "2 ExchangeStates c2 g0 w0 p0@0{1,2,3} a0 v- y- r[] o[] x{} b0" ∷
    "3 ExchangeStates c2 g0 w0 p0@0{1,2,3} a0 v- y- r[] o[] x{} b0" ∷
    "= 9" ∷
    "1 Construct c2 g0 w0 p0@0{1,2,3} a1 v2/0{1,2,3}{1} y- r[] o[] x{} b0" ∷
    "= 10" ∷
    "2 Construct c2 g0 w0 p0@0{1,2,3} a1 v2/0{1,2,3}{2} y- r[] o[] x{} b0" ∷
    "= 11" ∷
    "3 Construct c2 g0 w0 p0@0{1,2,3} a1 v2/0{1,2,3}{3} y- r[] o[] x{} b0" ∷
    "= 13" ∷
    "3 Un t2 g0 w0 p0@0{1,2,3} a1 v2/0{1,2,3}{3} y- r[] o[] x{} b0" ∷
    "= 14" ∷
    "3 ExchangeStates c3 g0 w0 p0@0{1,2,3} a1 v2/0{1,2,3}{3} y- r[] o[] x{} b0" ∷
    "end 14" ∷
    [])
unfolding cases_compute
record_kept_by_one_that_cannot_know_a = refl
