-- Cases of cases/ with their whole reports, which `.ci/theorems` writes down here.
use Rattle.std.specs.Prelude.{◌≡◌, [], ◌∷◌}
use mathlib.Core.Path.{refl}
use Rattle.cg_run_cases.specs.Replaying.{replayed_text, written}
use Rattle.cg_run_cases.specs.Computing.{cases_compute}

-- Replicas at the start: 3: a primary is formed.
three_replicas_primary_formed_a :
    replayed_text (
    "start 1 2 3" ∷
    "merge 1 2 3" ∷
    "rounds 2" ∷
    "request 1 inc \"a\" 9223372036854775807 ? get \"it's\"" ∷
    "request 1 inc \"a\" -1" ∷
    "end" ∷
    [])
    ≡ written (
    "= 1" ∷
    "1 NonPrim - g0 w0 p0@0{1,2,3} a0 v- y- r[] o[] x{} b0" ∷
    "2 NonPrim - g0 w0 p0@0{1,2,3} a0 v- y- r[] o[] x{} b0" ∷
    "3 NonPrim - g0 w0 p0@0{1,2,3} a0 v- y- r[] o[] x{} b0" ∷
    "= 2" ∷
    "1 ExchangeStates c1 g0 w0 p0@0{1,2,3} a0 v- y- r[] o[] x{} b0" ∷
    "2 ExchangeStates c1 g0 w0 p0@0{1,2,3} a0 v- y- r[] o[] x{} b0" ∷
    "3 ExchangeStates c1 g0 w0 p0@0{1,2,3} a0 v- y- r[] o[] x{} b0" ∷
    "= 4" ∷
    "1 Construct c1 g0 w0 p0@0{1,2,3} a1 v1/0{1,2,3}{1} y- r[] o[] x{} b0" ∷
    "= 5" ∷
    "2 Construct c1 g0 w0 p0@0{1,2,3} a1 v1/0{1,2,3}{2} y- r[] o[] x{} b0" ∷
    "= 6" ∷
    "3 Construct c1 g0 w0 p0@0{1,2,3} a1 v1/0{1,2,3}{3} y- r[] o[] x{} b0" ∷
    "= 8" ∷
    "1 RegPrim c1 g0 w0 p1@1{1,2,3} a0 v1/0{1,2,3}{1} y- r[] o[] x{} b0" ∷
    "= 9" ∷
    "2 RegPrim c1 g0 w0 p1@1{1,2,3} a0 v1/0{1,2,3}{2} y- r[] o[] x{} b0" ∷
    "= 10" ∷
    "3 RegPrim c1 g0 w0 p1@1{1,2,3} a0 v1/0{1,2,3}{3} y- r[] o[] x{} b0" ∷
    "= 11" ∷
    "made 1:1 inc \"a\" 9223372036854775807 ? get \"it's\"" ∷
    "1 RegPrim c1 g0 w0 p1@1{1,2,3} a0 v1/0{1,2,3}{1} y- r[] o[1:1] x{} b0" ∷
    "= 12" ∷
    "made 1:2 inc \"a\" -1" ∷
    "1 RegPrim c1 g0 w0 p1@1{1,2,3} a0 v1/0{1,2,3}{1} y- r[] o[1:1,1:2] x{} b0" ∷
    "end 12" ∷
    [])
unfolding cases_compute
three_replicas_primary_formed_a = refl

-- Replicas at the start: 3: a primary is formed; a crash strikes inside a device call.
three_replicas_primary_formed_crash_in_a_device_call_a :
    replayed_text (
    "start 1 2 3" ∷
    "merge 1 2 3" ∷
    "order 3" ∷
    "stop 3 11 01" ∷
    "rounds 2" ∷
    "stop 1 15 -" ∷
    "stop 1 6 -" ∷
    "gather" ∷
    "request 1 need \"y\" absent" ∷
    "request 1 put \"x\" 17" ∷
    "stop 2 0 -" ∷
    "request 3 inc \"x\" -1; inc \"x\" 9" ∷
    "recover 1" ∷
    "recover 3" ∷
    "stop 3 0 -" ∷
    "recover 2" ∷
    "stop 2 16 ff" ∷
    "recover 3" ∷
    "request 2 inc \"z\" -1" ∷
    "gather" ∷
    "stop 3 8 -" ∷
    "request 3 need \"x\" 10" ∷
    "request 1 ? count" ∷
    "gather" ∷
    "request 1 del \"z\"" ∷
    "request 2 put \"a\" 74" ∷
    "fail 1 12" ∷
    "stop 2 0 01" ∷
    "stop 1 0 02" ∷
    "recover 2" ∷
    "recover 1" ∷
    "request 2 put \"a\" 66" ∷
    "stop 1 0 -" ∷
    "rounds 3" ∷
    "gather" ∷
    "rounds 3" ∷
    "rounds 3" ∷
    "request 3 cas \"z\" \"12\" 9223372036854775807; need \"a\" 46; need \"ab\" absent; put \"a\" 74" ∷
    "request 3 need \"z\" absent ? get \"y\"" ∷
    "recover 1" ∷
    "request 3 put \"ab\" \"hi\"" ∷
    "stop 1 0 01" ∷
    "stop 2 12 01" ∷
    "gather" ∷
    "request 3 move \"y\" \"k1\" 1; inc \"x\" 9; cas \"y\" absent 74; put \"z\" 51; cas \"a\" 75 50; put \"z\" -9223372036854775807; put \"ab\" 22; inc \"ab\" 8; put \"abc\" 41; del \"abc\"; put \"x\" 51; put \"abc\" 86; put \"y\" 54; cas \"a\" 53 25; move \"z\" \"a\" 0; need \"a\" absent" ∷
    "recover 1" ∷
    "request 1 inc \"b\" 3" ∷
    "stop 3 10 -" ∷
    "request 2 need \"b\" absent ? keys \"k\"" ∷
    "request 3 put \"z\" 51" ∷
    "show 2" ∷
    "request 3 put \"x\" \"hi\"; inc \"b\" -1 ? keys \"k\"" ∷
    "stop 2 8 01" ∷
    "stop 2 0 434752554954593200" ∷
    "request 1 put \"ab\" -6 ? get \"k2\"" ∷
    "recover 2" ∷
    "rounds 3" ∷
    "stop 1 1 01" ∷
    "stop 2 11 -" ∷
    "end" ∷
    [])
    ≡ written (
    "= 1" ∷
    "1 NonPrim - g0 w0 p0@0{1,2,3} a0 v- y- r[] o[] x{} b0" ∷
    "2 NonPrim - g0 w0 p0@0{1,2,3} a0 v- y- r[] o[] x{} b0" ∷
    "3 NonPrim - g0 w0 p0@0{1,2,3} a0 v- y- r[] o[] x{} b0" ∷
    "= 2" ∷
    "1 ExchangeStates c1 g0 w0 p0@0{1,2,3} a0 v- y- r[] o[] x{} b0" ∷
    "2 ExchangeStates c1 g0 w0 p0@0{1,2,3} a0 v- y- r[] o[] x{} b0" ∷
    "3 ExchangeStates c1 g0 w0 p0@0{1,2,3} a0 v- y- r[] o[] x{} b0" ∷
    "= 6" ∷
    "1 Construct c1 g0 w0 p0@0{1,2,3} a1 v1/0{1,2,3}{1} y- r[] o[] x{} b0" ∷
    "= 7" ∷
    "2 Construct c1 g0 w0 p0@0{1,2,3} a1 v1/0{1,2,3}{2} y- r[] o[] x{} b0" ∷
    "= 8" ∷
    "3 Construct c1 g0 w0 p0@0{1,2,3} a1 v1/0{1,2,3}{3} y- r[] o[] x{} b0" ∷
    "= 10" ∷
    "1 RegPrim c1 g0 w0 p1@1{1,2,3} a0 v1/0{1,2,3}{1} y- r[] o[] x{} b0" ∷
    "= 11" ∷
    "2 RegPrim c1 g0 w0 p1@1{1,2,3} a0 v1/0{1,2,3}{2} y- r[] o[] x{} b0" ∷
    "= 12" ∷
    "3 RegPrim c1 g0 w0 p1@1{1,2,3} a0 v1/0{1,2,3}{3} y- r[] o[] x{} b0" ∷
    "= 16" ∷
    "made 1:1 need \"y\" absent" ∷
    "1 RegPrim c1 g0 w0 p1@1{1,2,3} a0 v1/0{1,2,3}{1} y- r[] o[1:1] x{} b0" ∷
    "= 17" ∷
    "1 Down" ∷
    "= 18" ∷
    "2 Down" ∷
    "= 19" ∷
    "3 Down" ∷
    "= 20" ∷
    "1 NonPrim - g0 w0 p1@1{1,2,3} a0 v1/0{1,2,3}{1} y- r[1:1] o[] x{} b0" ∷
    "= 21" ∷
    "made 3:1 inc \"x\" -1; inc \"x\" 9" ∷
    "3 NonPrim - g0 w0 p1@1{1,2,3} a0 v1/0{1,2,3}{3} y- r[3:1] o[] x{} b0" ∷
    "= 22" ∷
    "3 Down" ∷
    "= 23" ∷
    "2 NonPrim - g0 w0 p1@1{1,2,3} a0 v1/0{1,2,3}{2} y- r[] o[] x{} b0" ∷
    "= 25" ∷
    "3 NonPrim - g0 w0 p1@1{1,2,3} a0 v1/0{1,2,3}{3} y- r[3:1] o[] x{} b0" ∷
    "= 26" ∷
    "2 NonPrim - g0 w0 p1@1{1,2,3} a0 v1/0{1,2,3}{2} y- r[] o[] x{} b1" ∷
    "= 29" ∷
    "3 NonPrim - g0 w0 p1@1{1,2,3} a0 v1/0{1,2,3}{3} y- r[3:1] o[] x{} b1" ∷
    "= 30" ∷
    "1 NonPrim - g0 w0 p1@1{1,2,3} a0 v1/0{1,2,3}{1} y- r[1:1] o[] x{} b1" ∷
    "= 32" ∷
    "1 NonPrim - g0 w0 p1@1{1,2,3} a0 v1/0{1,2,3}{1} y- r[1:1] o[] x{} b2" ∷
    "= 33" ∷
    "2 NonPrim - g0 w0 p1@1{1,2,3} a0 v1/0{1,2,3}{2} y- r[] o[] x{} b2" ∷
    "= 35" ∷
    "2 Down" ∷
    "= 36" ∷
    "1 Down" ∷
    "= 37" ∷
    "2 NonPrim - g0 w0 p1@1{1,2,3} a0 v1/0{1,2,3}{2} y- r[] o[] x{} b0" ∷
    "= 38" ∷
    "1 NonPrim - g0 w0 p1@1{1,2,3} a0 v1/0{1,2,3}{1} y- r[1:1] o[] x{} b0" ∷
    "= 39" ∷
    "2 NonPrim - g0 w0 p1@1{1,2,3} a0 v1/0{1,2,3}{2} y- r[] o[] x{} b1" ∷
    "= 40" ∷
    "1 Down" ∷
    "= 51" ∷
    "3 NonPrim - g0 w0 p1@1{1,2,3} a0 v1/0{1,2,3}{3} y- r[3:1] o[] x{} b2" ∷
    "= 52" ∷
    "3 NonPrim - g0 w0 p1@1{1,2,3} a0 v1/0{1,2,3}{3} y- r[3:1] o[] x{} b3" ∷
    "= 53" ∷
    "1 NonPrim - g0 w0 p1@1{1,2,3} a0 v1/0{1,2,3}{1} y- r[1:1] o[] x{} b0" ∷
    "= 54" ∷
    "3 NonPrim - g0 w0 p1@1{1,2,3} a0 v1/0{1,2,3}{3} y- r[3:1] o[] x{} b4" ∷
    "= 55" ∷
    "1 Down" ∷
    "= 58" ∷
    "3 NonPrim - g0 w0 p1@1{1,2,3} a0 v1/0{1,2,3}{3} y- r[3:1] o[] x{} b5" ∷
    "= 59" ∷
    "1 NonPrim - g0 w0 p1@1{1,2,3} a0 v1/0{1,2,3}{1} y- r[1:1] o[] x{} b0" ∷
    "= 60" ∷
    "1 NonPrim - g0 w0 p1@1{1,2,3} a0 v1/0{1,2,3}{1} y- r[1:1] o[] x{} b1" ∷
    "= 62" ∷
    "2 NonPrim - g0 w0 p1@1{1,2,3} a0 v1/0{1,2,3}{2} y- r[] o[] x{} b2" ∷
    "= 63" ∷
    "3 NonPrim - g0 w0 p1@1{1,2,3} a0 v1/0{1,2,3}{3} y- r[3:1] o[] x{} b6" ∷
    "= 64" ∷
    "greens 2 []" ∷
    "db 2" ∷
    "= 65" ∷
    "3 NonPrim - g0 w0 p1@1{1,2,3} a0 v1/0{1,2,3}{3} y- r[3:1] o[] x{} b7" ∷
    "= 67" ∷
    "2 Down" ∷
    "= 68" ∷
    "1 NonPrim - g0 w0 p1@1{1,2,3} a0 v1/0{1,2,3}{1} y- r[1:1] o[] x{} b2" ∷
    "= 69" ∷
    "2 NonPrim - g0 w0 p1@1{1,2,3} a0 v1/0{1,2,3}{2} y- r[] o[] x{} b0" ∷
    "end 74" ∷
    [])
unfolding cases_compute
three_replicas_primary_formed_crash_in_a_device_call_a = refl

-- Replicas at the start: 3: a primary is lost in a partition, and after a merge red actions are ordered.
three_replicas_primary_lost_and_reds_ordered_a_from_discarding :
    replayed_text (
    "start 1 2 3" ∷
    "merge 1 2 3" ∷
    "gather" ∷
    "deliver 3 2" ∷
    "request 1 inc \"y\" 7 ? get \"a\"" ∷
    "rounds 3" ∷
    "request 1 put \"abc\" \"yes \\\"no\\\"\"" ∷
    "gather" ∷
    "gather" ∷
    "deliver 3 1" ∷
    "request 2 inc \"x\" 2; inc \"x\" 9223372036854775807" ∷
    "request 2 inc \"k1\" 3; inc \"y\" 11; del \"b\"; del \"z\"; inc \"abc\" 4; need \"x\" 5; put \"z\" 21; cas \"z\" 46 17; move \"b\" \"b\" 0; del \"z\"; inc \"ab\" 4; inc \"b\" 11; put \"ab\" \"-1\"; inc \"a\" 8; del \"b\"; put \"ab\" 1" ∷
    "deliver 2 1" ∷
    "request 3 del \"ab\"" ∷
    "request 2 put \"abc\" 13" ∷
    "order 3" ∷
    "receive 2 9" ∷
    "order 2" ∷
    "receive 1 10" ∷
    "order 2" ∷
    "receive 3 10" ∷
    "split 1 2" ∷
    "merge 1 2" ∷
    "split 3" ∷
    "split 1 2" ∷
    "merge 1 2 3" ∷
    "rounds 1" ∷
    "request 2 need \"y\" 34; put \"ab\" 14; inc \"z\" 3; put \"x\" 58" ∷
    "request 2 move \"b\" \"abc\" 9223372036854775807" ∷
    "request 1 need \"z\" 31 ? count" ∷
    "gather" ∷
    "split 1 2 3" ∷
    "merge 1 2 3" ∷
    "request 2 put \"b\" 16 ? get \"ab\"" ∷
    "request 3 inc \"z\" 10" ∷
    "request 3 move \"z\" \"k2\" 9223372036854775807" ∷
    "split 1" ∷
    "split 2 3" ∷
    "merge 1 2 3" ∷
    "rounds 3" ∷
    "request 3 inc \"z\" -1" ∷
    "request 2 cas \"b\" 6 46" ∷
    "request 1 put \"y\" -7; need \"a\" 51" ∷
    "request 3 inc \"x\" -2 ? get \"a\"" ∷
    "gather" ∷
    "deliver 3 3" ∷
    "split 1" ∷
    "merge 1" ∷
    "request 2 put \"z\" 23 ? get \"abc\"" ∷
    "order 1" ∷
    "order 2" ∷
    "receive 3 19" ∷
    "split 1" ∷
    "merge 1" ∷
    "gather" ∷
    "gather" ∷
    "request 3 inc \"a\" 11 ? get \"z\"" ∷
    "show 2" ∷
    "deliver 2 10" ∷
    "end" ∷
    [])
    ≡ written (
    "= 1" ∷
    "1 NonPrim - g0 w0 p0@0{1,2,3} a0 v- y- r[] o[] x{} b0" ∷
    "2 NonPrim - g0 w0 p0@0{1,2,3} a0 v- y- r[] o[] x{} b0" ∷
    "3 NonPrim - g0 w0 p0@0{1,2,3} a0 v- y- r[] o[] x{} b0" ∷
    "= 2" ∷
    "1 ExchangeStates c1 g0 w0 p0@0{1,2,3} a0 v- y- r[] o[] x{} b0" ∷
    "2 ExchangeStates c1 g0 w0 p0@0{1,2,3} a0 v- y- r[] o[] x{} b0" ∷
    "3 ExchangeStates c1 g0 w0 p0@0{1,2,3} a0 v- y- r[] o[] x{} b0" ∷
    "= 5" ∷
    "1 ExchangeStates c1 g0 w0 p0@0{1,2,3} a0 v- y- r[] o[] x{} b1" ∷
    "= 7" ∷
    "1 Construct c1 g0 w0 p0@0{1,2,3} a1 v1/0{1,2,3}{1} y- r[] o[] x{} b1" ∷
    "= 8" ∷
    "2 Construct c1 g0 w0 p0@0{1,2,3} a1 v1/0{1,2,3}{2} y- r[] o[] x{} b0" ∷
    "= 9" ∷
    "3 Construct c1 g0 w0 p0@0{1,2,3} a1 v1/0{1,2,3}{3} y- r[] o[] x{} b0" ∷
    "= 11" ∷
    "made 1:1 inc \"y\" 7 ? get \"a\"" ∷
    "1 RegPrim c1 g0 w0 p1@1{1,2,3} a0 v1/0{1,2,3}{1} y- r[] o[1:1] x{} b0" ∷
    "= 12" ∷
    "2 RegPrim c1 g0 w0 p1@1{1,2,3} a0 v1/0{1,2,3}{2} y- r[] o[] x{} b0" ∷
    "= 13" ∷
    "3 RegPrim c1 g0 w0 p1@1{1,2,3} a0 v1/0{1,2,3}{3} y- r[] o[] x{} b0" ∷
    "= 15" ∷
    "order 1 1:1" ∷
    "1 RegPrim c1 g1 w0 p1@1{1,2,3} a0 v1/0{1,2,3}{1} y- r[] o[] x{} b0" ∷
    "reply 1:1 done ? absent" ∷
    "= 16" ∷
    "2 RegPrim c1 g1 w0 p1@1{1,2,3} a0 v1/0{1,2,3}{2} y- r[] o[] x{} b0" ∷
    "= 17" ∷
    "3 RegPrim c1 g1 w0 p1@1{1,2,3} a0 v1/0{1,2,3}{3} y- r[] o[] x{} b0" ∷
    "= 18" ∷
    "made 1:2 put \"abc\" \"yes \\\"no\\\"\"" ∷
    "1 RegPrim c1 g1 w0 p1@1{1,2,3} a0 v1/0{1,2,3}{1} y- r[] o[1:2] x{} b0" ∷
    "= 21" ∷
    "order 2 1:2" ∷
    "3 RegPrim c1 g2 w0 p1@1{1,2,3} a0 v1/0{1,2,3}{3} y- r[] o[] x{} b0" ∷
    "= 22" ∷
    "made 2:1 inc \"x\" 2; inc \"x\" 9223372036854775807" ∷
    "2 RegPrim c1 g1 w0 p1@1{1,2,3} a0 v1/0{1,2,3}{2} y- r[] o[2:1] x{} b0" ∷
    "= 23" ∷
    "made 2:2 inc \"k1\" 3; inc \"y\" 11; del \"b\"; del \"z\"; inc \"abc\" 4; need \"x\" 5; put \"z\" 21; cas \"z\" 46 17; move \"b\" \"b\" 0; del \"z\"; inc \"ab\" 4; inc \"b\" 11; put \"ab\" \"-1\"; inc \"a\" 8; del \"b\"; put \"ab\" 1" ∷
    "2 RegPrim c1 g1 w0 p1@1{1,2,3} a0 v1/0{1,2,3}{2} y- r[] o[2:1,2:2] x{} b0" ∷
    "= 24" ∷
    "2 RegPrim c1 g2 w0 p1@1{1,2,3} a0 v1/0{1,2,3}{2} y- r[] o[2:1,2:2] x{} b0" ∷
    "= 25" ∷
    "made 3:1 del \"ab\"" ∷
    "3 RegPrim c1 g2 w0 p1@1{1,2,3} a0 v1/0{1,2,3}{3} y- r[] o[3:1] x{} b0" ∷
    "= 26" ∷
    "made 2:3 put \"abc\" 13" ∷
    "2 RegPrim c1 g2 w0 p1@1{1,2,3} a0 v1/0{1,2,3}{2} y- r[] o[2:1,2:2,2:3] x{} b0" ∷
    "= 33" ∷
    "1 TransPrim t1 g2 w0 p1@1{1,2,3} a0 v1/0{1,2,3}{1} y?[3:1,2:1,2:2] r[] o[] x{} b0" ∷
    "2 TransPrim t1 g2 w0 p1@1{1,2,3} a0 v1/0{1,2,3}{2} y?[3:1,2:1,2:2] r[] o[2:3] x{} b0" ∷
    "reply 1:2 done" ∷
    "= 34" ∷
    "1 ExchangeStates c2 g2 w0 p1@1{1,2,3} a0 v- y![3:1,2:1,2:2] r[] o[] x{} b0" ∷
    "2 ExchangeStates c2 g2 w0 p1@1{1,2,3} a0 v- y![3:1,2:1,2:2] r[2:3] o[] x{} b0" ∷
    "= 35" ∷
    "3 TransPrim t1 g2 w0 p1@1{1,2,3} a0 v1/0{1,2,3}{3} y?[3:1,2:1] r[] o[] x{} b0" ∷
    "= 36" ∷
    "1 NonPrim t2 g2 w0 p1@1{1,2,3} a0 v- y![3:1,2:1,2:2] r[] o[] x{} b0" ∷
    "2 NonPrim t2 g2 w0 p1@1{1,2,3} a0 v- y![3:1,2:1,2:2] r[2:3] o[] x{} b0" ∷
    "= 37" ∷
    "1 ExchangeStates c3 g2 w0 p1@1{1,2,3} a0 v- y![3:1,2:1,2:2] r[] o[] x{} b0" ∷
    "2 ExchangeStates c3 g2 w0 p1@1{1,2,3} a0 v- y![3:1,2:1,2:2] r[2:3] o[] x{} b0" ∷
    "3 ExchangeStates c3 g2 w0 p1@1{1,2,3} a0 v- y![3:1,2:1] r[] o[] x{} b0" ∷
    "= 39" ∷
    "1 ExchangeActions c3 g2 w0 p1@1{1,2,3} a0 v- y![3:1,2:1,2:2] r[] o[] x{} b0" ∷
    "= 40" ∷
    "2 ExchangeActions c3 g2 w0 p1@1{1,2,3} a0 v- y![3:1,2:1,2:2] r[2:3] o[] x{} b0" ∷
    "= 41" ∷
    "3 ExchangeActions c3 g2 w0 p1@1{1,2,3} a0 v- y![3:1,2:1] r[] o[] x{} b0" ∷
    "= 42" ∷
    "2 ExchangeActions c3 g2 w0 p1@1{1,2,3} a0 v- y![3:1,2:1,2:2] r[2:3] o[] x{} b1" ∷
    "= 43" ∷
    "2 ExchangeActions c3 g2 w0 p1@1{1,2,3} a0 v- y![3:1,2:1,2:2] r[2:3] o[] x{} b2" ∷
    "= 44" ∷
    "1 ExchangeActions c3 g2 w0 p1@1{1,2,3} a0 v- y![3:1,2:1,2:2] r[] o[] x{} b1" ∷
    "= 46" ∷
    "1 NonPrim t3 g2 w0 p1@1{1,2,3} a0 v- y![3:1,2:1,2:2] r[] o[] x{} b1" ∷
    "2 NonPrim t3 g2 w0 p1@1{1,2,3} a0 v- y![3:1,2:1,2:2] r[2:3] o[] x{} b2" ∷
    "3 NonPrim t3 g2 w0 p1@1{1,2,3} a0 v- y![3:1,2:1] r[] o[] x{} b0" ∷
    "= 47" ∷
    "1 ExchangeStates c4 g2 w0 p1@1{1,2,3} a0 v- y![3:1,2:1,2:2] r[] o[] x{} b1" ∷
    "2 ExchangeStates c4 g2 w0 p1@1{1,2,3} a0 v- y![3:1,2:1,2:2] r[2:3] o[] x{} b2" ∷
    "3 ExchangeStates c4 g2 w0 p1@1{1,2,3} a0 v- y![3:1,2:1] r[] o[] x{} b0" ∷
    "= 48" ∷
    "2 ExchangeStates c4 g2 w0 p1@1{1,2,3} a0 v- y![3:1,2:1,2:2] r[2:3] o[] x{} b3" ∷
    "= 49" ∷
    "3 ExchangeStates c4 g2 w0 p1@1{1,2,3} a0 v- y![3:1,2:1] r[] o[] x{} b1" ∷
    "= 50" ∷
    "3 ExchangeStates c4 g2 w0 p1@1{1,2,3} a0 v- y![3:1,2:1] r[] o[] x{} b2" ∷
    "= 51" ∷
    "1 NonPrim t4 g2 w0 p1@1{1,2,3} a0 v- y![3:1,2:1,2:2] r[] o[] x{} b1" ∷
    "= 52" ∷
    "2 NonPrim t4 g2 w0 p1@1{1,2,3} a0 v- y![3:1,2:1,2:2] r[2:3] o[] x{} b3" ∷
    "3 NonPrim t4 g2 w0 p1@1{1,2,3} a0 v- y![3:1,2:1] r[] o[] x{} b2" ∷
    "= 53" ∷
    "1 ExchangeStates c5 g2 w0 p1@1{1,2,3} a0 v- y![3:1,2:1,2:2] r[] o[] x{} b1" ∷
    "2 ExchangeStates c5 g2 w0 p1@1{1,2,3} a0 v- y![3:1,2:1,2:2] r[2:3] o[] x{} b3" ∷
    "3 ExchangeStates c5 g2 w0 p1@1{1,2,3} a0 v- y![3:1,2:1] r[] o[] x{} b2" ∷
    "= 55" ∷
    "1 ExchangeActions c5 g2 w0 p1@1{1,2,3} a0 v- y![3:1,2:1,2:2] r[] o[] x{} b1" ∷
    "= 56" ∷
    "2 ExchangeActions c5 g2 w0 p1@1{1,2,3} a0 v- y![3:1,2:1,2:2] r[2:3] o[] x{} b3" ∷
    "= 57" ∷
    "3 ExchangeActions c5 g2 w0 p1@1{1,2,3} a0 v- y![3:1,2:1] r[] o[] x{} b2" ∷
    "= 59" ∷
    "1 Construct c5 g2 w0 p1@1{1,2,3} a1 v5/1{1,2,3}{1} y![3:1,2:1] r[2:2,2:3] o[] x{} b1" ∷
    "= 60" ∷
    "2 Construct c5 g2 w0 p1@1{1,2,3} a1 v5/1{1,2,3}{2} y![3:1,2:1] r[2:2,2:3] o[] x{} b3" ∷
    "= 61" ∷
    "3 Construct c5 g2 w0 p1@1{1,2,3} a1 v5/1{1,2,3}{3} y![3:1,2:1] r[2:2,2:3] o[] x{} b2" ∷
    "= 63" ∷
    "made 1:3 need \"z\" 31 ? count" ∷
    "order 3 3:1" ∷
    "order 4 2:1" ∷
    "order 5 2:2" ∷
    "order 6 2:3" ∷
    "1 RegPrim c5 g6 w1 p2@5{1,2,3} a0 v5/1{1,2,3}{1} y- r[] o[1:3] x{} b0" ∷
    "= 64" ∷
    "made 2:4 need \"y\" 34; put \"ab\" 14; inc \"z\" 3; put \"x\" 58" ∷
    "made 2:5 move \"b\" \"abc\" 9223372036854775807" ∷
    "made 2:6 put \"b\" 16 ? get \"ab\"" ∷
    "2 RegPrim c5 g6 w1 p2@5{1,2,3} a0 v5/1{1,2,3}{2} y- r[] o[2:4,2:5,2:6] x{} b0" ∷
    "reply 2:1 range 2" ∷
    "reply 2:2 aborted 5" ∷
    "reply 2:3 done" ∷
    "= 65" ∷
    "made 3:2 inc \"z\" 10" ∷
    "made 3:3 move \"z\" \"k2\" 9223372036854775807" ∷
    "3 RegPrim c5 g6 w1 p2@5{1,2,3} a0 v5/1{1,2,3}{3} y- r[] o[3:2,3:3] x{} b0" ∷
    "reply 3:1 done" ∷
    "= 66" ∷
    "made 3:4 inc \"z\" -1" ∷
    "3 RegPrim c5 g6 w1 p2@5{1,2,3} a0 v5/1{1,2,3}{3} y- r[] o[3:2,3:3,3:4] x{} b0" ∷
    "= 67" ∷
    "made 2:7 cas \"b\" 6 46" ∷
    "2 RegPrim c5 g6 w1 p2@5{1,2,3} a0 v5/1{1,2,3}{2} y- r[] o[2:4,2:5,2:6,2:7] x{} b0" ∷
    "= 68" ∷
    "made 1:4 put \"y\" -7; need \"a\" 51" ∷
    "1 RegPrim c5 g6 w1 p2@5{1,2,3} a0 v5/1{1,2,3}{1} y- r[] o[1:3,1:4] x{} b0" ∷
    "= 69" ∷
    "made 3:5 inc \"x\" -2 ? get \"a\"" ∷
    "3 RegPrim c5 g6 w1 p2@5{1,2,3} a0 v5/1{1,2,3}{3} y- r[] o[3:2,3:3,3:4,3:5] x{} b0" ∷
    "= 71" ∷
    "order 7 1:3" ∷
    "order 8 1:4" ∷
    "order 9 2:4" ∷
    "3 RegPrim c5 g9 w2 p2@5{1,2,3} a0 v5/1{1,2,3}{3} y- r[] o[3:2,3:3,3:4,3:5] x{} b0" ∷
    "= 72" ∷
    "1 TransPrim t5 g6 w1 p2@5{1,2,3} a0 v5/1{1,2,3}{1} y?[1:3,1:4,2:4,2:5,2:6,2:7,3:2,3:3,3:4,3:5] r[] o[] x{} b0" ∷
    "= 73" ∷
    "1 ExchangeStates c6 g6 w1 p2@5{1,2,3} a0 v- y![1:3,1:4,2:4,2:5,2:6,2:7,3:2,3:3,3:4,3:5] r[] o[] x{} b0" ∷
    "= 74" ∷
    "made 2:8 put \"z\" 23 ? get \"abc\"" ∷
    "2 RegPrim c5 g6 w1 p2@5{1,2,3} a0 v5/1{1,2,3}{2} y- r[] o[2:4,2:5,2:6,2:7,2:8] x{} b0" ∷
    "= 78" ∷
    "1 NonPrim t6 g6 w1 p2@5{1,2,3} a0 v- y![1:3,1:4,2:4,2:5,2:6,2:7,3:2,3:3,3:4,3:5] r[] o[] x{} b0" ∷
    "= 79" ∷
    "1 ExchangeStates c7 g6 w1 p2@5{1,2,3} a0 v- y![1:3,1:4,2:4,2:5,2:6,2:7,3:2,3:3,3:4,3:5] r[] o[] x{} b0" ∷
    "= 82" ∷
    "made 3:6 inc \"a\" 11 ? get \"z\"" ∷
    "3 RegPrim c5 g9 w2 p2@5{1,2,3} a0 v5/1{1,2,3}{3} y- r[] o[3:2,3:3,3:4,3:5,3:6] x{} b0" ∷
    "= 83" ∷
    "greens 2 [1:2,3:1,2:1,2:2,2:3]" ∷
    "db 2 \"abc\"=13 \"y\"=7" ∷
    "= 84" ∷
    "order 10 2:5" ∷
    "order 11 2:6" ∷
    "order 12 2:7" ∷
    "order 13 3:2" ∷
    "order 14 3:3" ∷
    "order 15 3:4" ∷
    "order 16 3:5" ∷
    "2 RegPrim c5 g16 w6 p2@5{1,2,3} a0 v5/1{1,2,3}{2} y- r[] o[2:8] x{} b0" ∷
    "reply 2:4 aborted 1" ∷
    "reply 2:5 aborted 1" ∷
    "reply 2:6 done ? absent" ∷
    "reply 2:7 done" ∷
    "end 84" ∷
    [])
unfolding cases_compute
three_replicas_primary_lost_and_reds_ordered_a_from_discarding = refl

-- Replicas at the start: 3: a primary is lost in a partition, and after a merge red actions are ordered; a crash strikes inside a device call.
three_replicas_primary_lost_and_reds_ordered_crash_in_a_device_call_b :
    replayed_text (
    "start 15 16 31" ∷
    "merge 16 31" ∷
    "merge 15" ∷
    "rounds 3" ∷
    "request 31 need \"abc\" 78 ? keys \"x\"" ∷
    "request 15 ? get \"a\"" ∷
    "request 15 put \"a\" -2" ∷
    "gather" ∷
    "deliver 15 1" ∷
    "split 16 31" ∷
    "merge 16 31" ∷
    "split 15" ∷
    "split 31" ∷
    "split 16" ∷
    "merge 15 16 31" ∷
    "gather" ∷
    "deliver 31 3" ∷
    "gather" ∷
    "show order" ∷
    "deliver 16 3" ∷
    "rounds 4" ∷
    "request 31 inc \"z\" 7" ∷
    "gather" ∷
    "gather" ∷
    "deliver 31 1" ∷
    "gather" ∷
    "gather" ∷
    "deliver 15 1" ∷
    "rounds 1" ∷
    "split 16" ∷
    "split 15 31" ∷
    "merge 15 31" ∷
    "fail 15 1" ∷
    "order 31" ∷
    "request 31 cas \"z\" 8 35; put \"b\" \"TTTTTTTTTT\"; inc \"ab\" 9223372036854775807; put \"ab\" 35" ∷
    "order 15" ∷
    "receive 31 2" ∷
    "split 15" ∷
    "split 31" ∷
    "merge 15 16 31" ∷
    "rounds 1" ∷
    "request 31 ? get \"z\"" ∷
    "gather" ∷
    "split 31" ∷
    "split 16" ∷
    "merge 31" ∷
    "order 31" ∷
    "gather" ∷
    "gather" ∷
    "recover 15" ∷
    "request 31 del \"y\" ? keys \"x\"" ∷
    "request 16 inc \"a\" -1" ∷
    "request 31 put \"z\" \"back\\\\slash\"" ∷
    "gather" ∷
    "deliver 31 1" ∷
    "split 31" ∷
    "merge 15" ∷
    "fail 31 4" ∷
    "request 16 inc \"b\" -2; put \"z\" 87; put \"z\" -9223372036854775807; need \"abc\" absent ? get \"k1\"" ∷
    "end" ∷
    [])
    ≡ written (
    "= 1" ∷
    "15 NonPrim - g0 w0 p0@0{15,16,31} a0 v- y- r[] o[] x{} b0" ∷
    "16 NonPrim - g0 w0 p0@0{15,16,31} a0 v- y- r[] o[] x{} b0" ∷
    "31 NonPrim - g0 w0 p0@0{15,16,31} a0 v- y- r[] o[] x{} b0" ∷
    "= 2" ∷
    "16 ExchangeStates c1 g0 w0 p0@0{15,16,31} a0 v- y- r[] o[] x{} b0" ∷
    "31 ExchangeStates c1 g0 w0 p0@0{15,16,31} a0 v- y- r[] o[] x{} b0" ∷
    "= 3" ∷
    "15 ExchangeStates c2 g0 w0 p0@0{15,16,31} a0 v- y- r[] o[] x{} b0" ∷
    "= 5" ∷
    "15 NonPrim c2 g0 w0 p0@0{15,16,31} a0 v- y- r[] o[] x{} b0" ∷
    "= 6" ∷
    "16 Construct c1 g0 w0 p0@0{15,16,31} a1 v1/0{16,31}{16} y- r[] o[] x{} b0" ∷
    "= 7" ∷
    "31 Construct c1 g0 w0 p0@0{15,16,31} a1 v1/0{16,31}{31} y- r[] o[] x{} b0" ∷
    "= 9" ∷
    "16 RegPrim c1 g0 w0 p1@1{16,31} a0 v1/0{16,31}{16} y- r[] o[] x{} b0" ∷
    "= 10" ∷
    "31 RegPrim c1 g0 w0 p1@1{16,31} a0 v1/0{16,31}{31} y- r[] o[] x{} b0" ∷
    "= 12" ∷
    "made 31:1 need \"abc\" 78 ? keys \"x\"" ∷
    "31 RegPrim c1 g0 w0 p1@1{16,31} a0 v1/0{16,31}{31} y- r[] o[31:1] x{} b0" ∷
    "= 13" ∷
    "made 15:1 ? get \"a\"" ∷
    "15 NonPrim c2 g0 w0 p0@0{15,16,31} a0 v- y- r[] o[15:1] x{} b0" ∷
    "= 14" ∷
    "made 15:2 put \"a\" -2" ∷
    "15 NonPrim c2 g0 w0 p0@0{15,16,31} a0 v- y- r[] o[15:1,15:2] x{} b0" ∷
    "= 16" ∷
    "15 NonPrim c2 g0 w0 p0@0{15,16,31} a0 v- y- r[15:1] o[15:2] x{} b0" ∷
    "= 17" ∷
    "16 TransPrim t1 g0 w0 p1@1{16,31} a0 v1/0{16,31}{16} y?[31:1] r[] o[] x{} b0" ∷
    "31 TransPrim t1 g0 w0 p1@1{16,31} a0 v1/0{16,31}{31} y?[31:1] r[] o[] x{} b0" ∷
    "= 18" ∷
    "16 ExchangeStates c3 g0 w0 p1@1{16,31} a0 v- y![31:1] r[] o[] x{} b0" ∷
    "31 ExchangeStates c3 g0 w0 p1@1{16,31} a0 v- y![31:1] r[] o[] x{} b0" ∷
    "= 19" ∷
    "15 NonPrim t2 g0 w0 p0@0{15,16,31} a0 v- y- r[15:1,15:2] o[] x{} b0" ∷
    "= 20" ∷
    "31 NonPrim t3 g0 w0 p1@1{16,31} a0 v- y![31:1] r[] o[] x{} b0" ∷
    "= 21" ∷
    "16 NonPrim t3 g0 w0 p1@1{16,31} a0 v- y![31:1] r[] o[] x{} b0" ∷
    "= 22" ∷
    "15 ExchangeStates c4 g0 w0 p0@0{15,16,31} a0 v- y- r[15:1,15:2] o[] x{} b0" ∷
    "16 ExchangeStates c4 g0 w0 p1@1{16,31} a0 v- y![31:1] r[] o[] x{} b0" ∷
    "31 ExchangeStates c4 g0 w0 p1@1{16,31} a0 v- y![31:1] r[] o[] x{} b0" ∷
    "= 24" ∷
    "31 ExchangeActions c4 g0 w0 p1@1{16,31} a0 v- y![31:1] r[] o[] x{} b0" ∷
    "= 26" ∷
    "all []" ∷
    "= 27" ∷
    "16 ExchangeActions c4 g0 w0 p1@1{16,31} a0 v- y![31:1] r[] o[] x{} b0" ∷
    "= 29" ∷
    "15 ExchangeActions c4 g0 w0 p0@0{15,16,31} a0 v- y- r[15:1,15:2] o[] x{} b0" ∷
    "= 32" ∷
    "16 ExchangeActions c4 g0 w0 p1@1{16,31} a0 v- y![31:1] r[15:1,15:2] o[] x{} b0" ∷
    "= 33" ∷
    "31 ExchangeActions c4 g0 w0 p1@1{16,31} a0 v- y![31:1] r[15:1,15:2] o[] x{} b0" ∷
    "= 35" ∷
    "15 Construct c4 g0 w0 p1@1{16,31} a1 v4/1{15,16,31}{15} y![31:1] r[15:1,15:2] o[] x{} b0" ∷
    "= 36" ∷
    "16 Construct c4 g0 w0 p1@1{16,31} a1 v4/1{15,16,31}{16} y![31:1] r[15:1,15:2] o[] x{} b0" ∷
    "= 37" ∷
    "31 Construct c4 g0 w0 p1@1{16,31} a1 v4/1{15,16,31}{31} y![31:1] r[15:1,15:2] o[] x{} b0" ∷
    "= 39" ∷
    "order 1 31:1" ∷
    "order 2 15:1" ∷
    "order 3 15:2" ∷
    "15 RegPrim c4 g3 w0 p2@4{15,16,31} a0 v4/1{15,16,31}{15} y- r[] o[] x{} b0" ∷
    "reply 15:1 done ? absent" ∷
    "reply 15:2 done" ∷
    "= 40" ∷
    "16 RegPrim c4 g3 w0 p2@4{15,16,31} a0 v4/1{15,16,31}{16} y- r[] o[] x{} b0" ∷
    "= 41" ∷
    "31 RegPrim c4 g3 w0 p2@4{15,16,31} a0 v4/1{15,16,31}{31} y- r[] o[] x{} b0" ∷
    "reply 31:1 aborted 1 ? keys" ∷
    "= 42" ∷
    "made 31:2 inc \"z\" 7" ∷
    "31 RegPrim c4 g3 w0 p2@4{15,16,31} a0 v4/1{15,16,31}{31} y- r[] o[31:2] x{} b0" ∷
    "= 45" ∷
    "order 4 31:2" ∷
    "31 RegPrim c4 g4 w0 p2@4{15,16,31} a0 v4/1{15,16,31}{31} y- r[] o[] x{} b0" ∷
    "reply 31:2 done" ∷
    "= 48" ∷
    "15 RegPrim c4 g4 w0 p2@4{15,16,31} a0 v4/1{15,16,31}{15} y- r[] o[] x{} b0" ∷
    "= 50" ∷
    "16 RegPrim c4 g4 w0 p2@4{15,16,31} a0 v4/1{15,16,31}{16} y- r[] o[] x{} b0" ∷
    "= 51" ∷
    "16 TransPrim t4 g4 w0 p2@4{15,16,31} a0 v4/1{15,16,31}{16} y- r[] o[] x{} b0" ∷
    "= 52" ∷
    "15 TransPrim t4 g4 w0 p2@4{15,16,31} a0 v4/1{15,16,31}{15} y- r[] o[] x{} b0" ∷
    "31 TransPrim t4 g4 w0 p2@4{15,16,31} a0 v4/1{15,16,31}{31} y- r[] o[] x{} b0" ∷
    "= 53" ∷
    "15 ExchangeStates c5 g4 w0 p2@4{15,16,31} a0 v- y![] r[] o[] x{} b0" ∷
    "31 ExchangeStates c5 g4 w0 p2@4{15,16,31} a0 v- y![] r[] o[] x{} b0" ∷
    "= 56" ∷
    "31 ExchangeStates c5 g4 w0 p2@4{15,16,31} a0 v- y![] r[] o[] x{} b1" ∷
    "= 59" ∷
    "15 NonPrim t5 g4 w0 p2@4{15,16,31} a0 v- y![] r[] o[] x{} b0" ∷
    "= 60" ∷
    "31 NonPrim t5 g4 w0 p2@4{15,16,31} a0 v- y![] r[] o[] x{} b1" ∷
    "= 61" ∷
    "15 ExchangeStates c6 g4 w0 p2@4{15,16,31} a0 v- y![] r[] o[] x{} b0" ∷
    "16 ExchangeStates c6 g4 w0 p2@4{15,16,31} a0 v- y![] r[] o[] x{} b0" ∷
    "31 ExchangeStates c6 g4 w0 p2@4{15,16,31} a0 v- y![] r[] o[] x{} b1" ∷
    "= 63" ∷
    "15 Down" ∷
    "= 64" ∷
    "16 Construct c6 g4 w0 p2@4{15,16,31} a1 v6/2{15,16,31}{16} y![] r[] o[] x{} b0" ∷
    "= 65" ∷
    "31 Construct c6 g4 w0 p2@4{15,16,31} a1 v6/2{15,16,31}{31} y![] r[] o[] x{} b1" ∷
    "= 66" ∷
    "31 Construct c6 g4 w0 p2@4{15,16,31} a1 v6/2{15,16,31}{31} y![] r[] o[] x{} b2" ∷
    "= 68" ∷
    "31 No t6 g4 w0 p2@4{15,16,31} a1 v6/2{15,16,31}{31} y![] r[] o[] x{} b2" ∷
    "= 69" ∷
    "16 No t6 g4 w0 p2@4{15,16,31} a1 v6/2{15,16,31}{16} y![] r[] o[] x{} b0" ∷
    "= 70" ∷
    "31 ExchangeStates c7 g4 w0 p2@4{15,16,31} a1 v- y![] r[] o[] x{} b2" ∷
    "= 74" ∷
    "15 NonPrim - g4 w0 p2@4{15,16,31} a0 v- y![] r[] o[] x{} b0" ∷
    "= 75" ∷
    "31 ExchangeStates c7 g4 w0 p2@4{15,16,31} a1 v- y![] r[] o[] x{} b3" ∷
    "= 76" ∷
    "16 No t6 g4 w0 p2@4{15,16,31} a1 v6/2{15,16,31}{16} y![] r[] o[] x{} b1" ∷
    "= 77" ∷
    "31 ExchangeStates c7 g4 w0 p2@4{15,16,31} a1 v- y![] r[] o[] x{} b4" ∷
    "= 79" ∷
    "made 31:3 cas \"z\" 8 35; put \"b\" \"TTTTTTTTTT\"; inc \"ab\" 9223372036854775807; put \"ab\" 35" ∷
    "made 31:4 ? get \"z\"" ∷
    "made 31:5 del \"y\" ? keys \"x\"" ∷
    "made 31:6 put \"z\" \"back\\\\slash\"" ∷
    "31 NonPrim c7 g4 w0 p2@4{15,16,31} a1 v- y![] r[] o[31:3,31:4,31:5,31:6] x{} b0" ∷
    "= 80" ∷
    "31 NonPrim t7 g4 w0 p2@4{15,16,31} a1 v- y![] r[] o[31:3,31:4,31:5,31:6] x{} b0" ∷
    "= 81" ∷
    "15 ExchangeStates c8 g4 w0 p2@4{15,16,31} a0 v- y![] r[] o[] x{} b0" ∷
    "= 83" ∷
    "16 No t6 g4 w0 p2@4{15,16,31} a1 v6/2{15,16,31}{16} y![] r[] o[] x{} b2" ∷
    "end 83" ∷
    [])
unfolding cases_compute
three_replicas_primary_lost_and_reds_ordered_crash_in_a_device_call_b = refl
