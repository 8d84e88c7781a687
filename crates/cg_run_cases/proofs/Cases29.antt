-- Cases of cases/ with their whole reports, which `.ci/theorems` writes down here.
use Rattle.std.specs.Prelude.{◌≡◌, [], ◌∷◌}
use mathlib.Core.Path.{refl}
use Rattle.cg_run_cases.specs.Replaying.{replayed_text, written}
use Rattle.cg_run_cases.specs.Computing.{cases_compute}

-- Replicas at the start: 3: actions are ordered; the last event is refused.
three_replicas_actions_ordered_refused_a :
    replayed_text (
    "start 1 2 3" ∷
    "merge 1 2 3" ∷
    "rounds 2" ∷
    "gather" ∷
    "gather" ∷
    "gather" ∷
    "request 2 inc \"b\" 4" ∷
    "request 1 move \"x\" \"z\" 9223372036854775807" ∷
    "gather" ∷
    "request 2 put \"a\" 54; put \"a\" 40; put \"abc\" 81" ∷
    "gather" ∷
    "show order" ∷
    "request 3 del \"x\" ? get \"b\"" ∷
    "deliver 3 3" ∷
    "order 3" ∷
    "deliver 2 3" ∷
    "show 1" ∷
    "show order" ∷
    "receive 1 10" ∷
    "request 1 inc \"abc\" 12 ? count" ∷
    "deliver 1 1" ∷
    "deliver 1 2" ∷
    "receive 2 10" ∷
    "request 3 cas \"b\" absent 8" ∷
    "deliver 3 1" ∷
    "deliver 1 1" ∷
    "gather" ∷
    "deliver 3 2" ∷
    "gather" ∷
    "receive 2 3" ∷
    "end" ∷
    [])
    ≡ written (
    "= 1" ∷
    "1 NonPrim - g0 w0 p0@0{1,2,3} a0 v- y- r[] o[] x{} b0" ∷
    "2 NonPrim - g0 w0 p0@0{1,2,3} a0 v- y- r[] o[] x{} b0" ∷
    "3 NonPrim - g0 w0 p0@0{1,2,3} a0 v- y- r[] o[] x{} b0" ∷
    "= 2" ∷
    "1 ExchangeStates c1 g0 w0 p0@0{1,2,3} a0 v- y- r[] o[] x{} b0" ∷
    "2 ExchangeStates c1 g0 w0 p0@0{1,2,3} a0 v- y- r[] o[] x{} b0" ∷
    "3 ExchangeStates c1 g0 w0 p0@0{1,2,3} a0 v- y- r[] o[] x{} b0" ∷
    "= 4" ∷
    "1 Construct c1 g0 w0 p0@0{1,2,3} a1 v1/0{1,2,3}{1} y- r[] o[] x{} b0" ∷
    "= 5" ∷
    "2 Construct c1 g0 w0 p0@0{1,2,3} a1 v1/0{1,2,3}{2} y- r[] o[] x{} b0" ∷
    "= 6" ∷
    "3 Construct c1 g0 w0 p0@0{1,2,3} a1 v1/0{1,2,3}{3} y- r[] o[] x{} b0" ∷
    "= 8" ∷
    "1 RegPrim c1 g0 w0 p1@1{1,2,3} a0 v1/0{1,2,3}{1} y- r[] o[] x{} b0" ∷
    "= 9" ∷
    "2 RegPrim c1 g0 w0 p1@1{1,2,3} a0 v1/0{1,2,3}{2} y- r[] o[] x{} b0" ∷
    "= 10" ∷
    "3 RegPrim c1 g0 w0 p1@1{1,2,3} a0 v1/0{1,2,3}{3} y- r[] o[] x{} b0" ∷
    "= 14" ∷
    "made 2:1 inc \"b\" 4" ∷
    "2 RegPrim c1 g0 w0 p1@1{1,2,3} a0 v1/0{1,2,3}{2} y- r[] o[2:1] x{} b0" ∷
    "= 15" ∷
    "made 1:1 move \"x\" \"z\" 9223372036854775807" ∷
    "1 RegPrim c1 g0 w0 p1@1{1,2,3} a0 v1/0{1,2,3}{1} y- r[] o[1:1] x{} b0" ∷
    "= 17" ∷
    "made 2:2 put \"a\" 54; put \"a\" 40; put \"abc\" 81" ∷
    "2 RegPrim c1 g0 w0 p1@1{1,2,3} a0 v1/0{1,2,3}{2} y- r[] o[2:1,2:2] x{} b0" ∷
    "= 19" ∷
    "all []" ∷
    "= 20" ∷
    "made 3:1 del \"x\" ? get \"b\"" ∷
    "3 RegPrim c1 g0 w0 p1@1{1,2,3} a0 v1/0{1,2,3}{3} y- r[] o[3:1] x{} b0" ∷
    "= 21" ∷
    "order 1 1:1" ∷
    "order 2 2:1" ∷
    "order 3 2:2" ∷
    "3 RegPrim c1 g3 w0 p1@1{1,2,3} a0 v1/0{1,2,3}{3} y- r[] o[3:1] x{} b0" ∷
    "= 23" ∷
    "2 RegPrim c1 g3 w0 p1@1{1,2,3} a0 v1/0{1,2,3}{2} y- r[] o[] x{} b0" ∷
    "reply 2:1 done" ∷
    "reply 2:2 done" ∷
    "= 24" ∷
    "greens 1 []" ∷
    "db 1" ∷
    "= 25" ∷
    "all [1:1,2:1,2:2]" ∷
    "= 27" ∷
    "made 1:2 inc \"abc\" 12 ? count" ∷
    "1 RegPrim c1 g0 w0 p1@1{1,2,3} a0 v1/0{1,2,3}{1} y- r[] o[1:1,1:2] x{} b0" ∷
    "= 28" ∷
    "1 RegPrim c1 g1 w0 p1@1{1,2,3} a0 v1/0{1,2,3}{1} y- r[] o[1:2] x{} b0" ∷
    "reply 1:1 aborted 1" ∷
    "= 29" ∷
    "1 RegPrim c1 g3 w0 p1@1{1,2,3} a0 v1/0{1,2,3}{1} y- r[] o[1:2] x{} b0" ∷
    "= 31" ∷
    "made 3:2 cas \"b\" absent 8" ∷
    "3 RegPrim c1 g3 w0 p1@1{1,2,3} a0 v1/0{1,2,3}{3} y- r[] o[3:1,3:2] x{} b0" ∷
    "= 32" ∷
    "order 4 3:1" ∷
    "3 RegPrim c1 g4 w0 p1@1{1,2,3} a0 v1/0{1,2,3}{3} y- r[] o[3:2] x{} b0" ∷
    "reply 3:1 done ? 4" ∷
    "= 33" ∷
    "1 RegPrim c1 g4 w0 p1@1{1,2,3} a0 v1/0{1,2,3}{1} y- r[] o[1:2] x{} b0" ∷
    "= 35" ∷
    "order 5 1:2" ∷
    "order 6 3:2" ∷
    "3 RegPrim c1 g6 w0 p1@1{1,2,3} a0 v1/0{1,2,3}{3} y- r[] o[] x{} b0" ∷
    "reply 3:2 done" ∷
    "refused 30 5 3" ∷
    [])
unfolding cases_compute
three_replicas_actions_ordered_refused_a = refl

-- Replicas at the start: 3: an attempt at a primary is broken off; a crash strikes inside a device call.
three_replicas_attempt_broken_off_crash_in_a_device_call_a :
    replayed_text (
    "start 1 2 3" ∷
    "merge 1 2 3" ∷
    "stop 1 10 -" ∷
    "request 3 del \"y\"" ∷
    "request 2 inc \"z\" 10 ? get \"a\"" ∷
    "request 1 cas \"y\" 68 59" ∷
    "gather" ∷
    "deliver 1 2" ∷
    "split 1 2 3" ∷
    "merge 1 2 3" ∷
    "gather" ∷
    "deliver 3 3" ∷
    "gather" ∷
    "deliver 3 1" ∷
    "deliver 1 1" ∷
    "deliver 2 1" ∷
    "gather" ∷
    "gather" ∷
    "deliver 2 3" ∷
    "deliver 1 3" ∷
    "gather" ∷
    "gather" ∷
    "gather" ∷
    "split 1 2 3" ∷
    "merge 1 2 3" ∷
    "order 2" ∷
    "gather" ∷
    "gather" ∷
    "split 1 2 3" ∷
    "stop 2 0 01" ∷
    "merge 1 3" ∷
    "order 1" ∷
    "gather" ∷
    "split 1" ∷
    "merge 1" ∷
    "order 1" ∷
    "gather" ∷
    "deliver 3 1" ∷
    "gather" ∷
    "gather" ∷
    "deliver 1 1" ∷
    "gather" ∷
    "rounds 2" ∷
    "recover 2" ∷
    "gather" ∷
    "gather" ∷
    "gather" ∷
    "gather" ∷
    "gather" ∷
    "merge 2" ∷
    "request 3 put \"ab\" \"absent\"" ∷
    "recover 1" ∷
    "request 2 put \"x\" 51; cas \"abc\" 14 13" ∷
    "end" ∷
    [])
    ≡ written (
    "= 1" ∷
    "1 NonPrim - g0 w0 p0@0{1,2,3} a0 v- y- r[] o[] x{} b0" ∷
    "2 NonPrim - g0 w0 p0@0{1,2,3} a0 v- y- r[] o[] x{} b0" ∷
    "3 NonPrim - g0 w0 p0@0{1,2,3} a0 v- y- r[] o[] x{} b0" ∷
    "= 2" ∷
    "1 ExchangeStates c1 g0 w0 p0@0{1,2,3} a0 v- y- r[] o[] x{} b0" ∷
    "2 ExchangeStates c1 g0 w0 p0@0{1,2,3} a0 v- y- r[] o[] x{} b0" ∷
    "3 ExchangeStates c1 g0 w0 p0@0{1,2,3} a0 v- y- r[] o[] x{} b0" ∷
    "= 4" ∷
    "3 ExchangeStates c1 g0 w0 p0@0{1,2,3} a0 v- y- r[] o[] x{} b1" ∷
    "= 5" ∷
    "2 ExchangeStates c1 g0 w0 p0@0{1,2,3} a0 v- y- r[] o[] x{} b1" ∷
    "= 6" ∷
    "1 ExchangeStates c1 g0 w0 p0@0{1,2,3} a0 v- y- r[] o[] x{} b1" ∷
    "= 9" ∷
    "1 NonPrim t1 g0 w0 p0@0{1,2,3} a0 v- y- r[] o[] x{} b1" ∷
    "2 NonPrim t1 g0 w0 p0@0{1,2,3} a0 v- y- r[] o[] x{} b1" ∷
    "3 NonPrim t1 g0 w0 p0@0{1,2,3} a0 v- y- r[] o[] x{} b1" ∷
    "= 10" ∷
    "1 ExchangeStates c2 g0 w0 p0@0{1,2,3} a0 v- y- r[] o[] x{} b1" ∷
    "2 ExchangeStates c2 g0 w0 p0@0{1,2,3} a0 v- y- r[] o[] x{} b1" ∷
    "3 ExchangeStates c2 g0 w0 p0@0{1,2,3} a0 v- y- r[] o[] x{} b1" ∷
    "= 12" ∷
    "3 Construct c2 g0 w0 p0@0{1,2,3} a1 v2/0{1,2,3}{3} y- r[] o[] x{} b1" ∷
    "= 19" ∷
    "2 Construct c2 g0 w0 p0@0{1,2,3} a1 v2/0{1,2,3}{2} y- r[] o[] x{} b1" ∷
    "= 20" ∷
    "1 Construct c2 g0 w0 p0@0{1,2,3} a1 v2/0{1,2,3}{1} y- r[] o[] x{} b1" ∷
    "= 24" ∷
    "1 Un t2 g0 w0 p0@0{1,2,3} a1 v2/0{1,2,3}{1} y- r[] o[] x{} b1" ∷
    "2 Un t2 g0 w0 p0@0{1,2,3} a1 v2/0{1,2,3}{2} y- r[] o[] x{} b1" ∷
    "3 Un t2 g0 w0 p0@0{1,2,3} a1 v2/0{1,2,3}{3} y- r[] o[] x{} b1" ∷
    "= 25" ∷
    "1 ExchangeStates c3 g0 w0 p0@0{1,2,3} a1 v2/0{1,2,3}{1} y- r[] o[] x{} b1" ∷
    "2 ExchangeStates c3 g0 w0 p0@0{1,2,3} a1 v2/0{1,2,3}{2} y- r[] o[] x{} b1" ∷
    "3 ExchangeStates c3 g0 w0 p0@0{1,2,3} a1 v2/0{1,2,3}{3} y- r[] o[] x{} b1" ∷
    "= 29" ∷
    "1 NonPrim t3 g0 w0 p0@0{1,2,3} a1 v2/0{1,2,3}{1} y- r[] o[] x{} b1" ∷
    "2 NonPrim t3 g0 w0 p0@0{1,2,3} a1 v2/0{1,2,3}{2} y- r[] o[] x{} b1" ∷
    "3 NonPrim t3 g0 w0 p0@0{1,2,3} a1 v2/0{1,2,3}{3} y- r[] o[] x{} b1" ∷
    "= 30" ∷
    "2 Down" ∷
    "= 31" ∷
    "1 ExchangeStates c4 g0 w0 p0@0{1,2,3} a1 v2/0{1,2,3}{1} y- r[] o[] x{} b1" ∷
    "3 ExchangeStates c4 g0 w0 p0@0{1,2,3} a1 v2/0{1,2,3}{3} y- r[] o[] x{} b1" ∷
    "= 34" ∷
    "1 NonPrim t4 g0 w0 p0@0{1,2,3} a1 v2/0{1,2,3}{1} y- r[] o[] x{} b1" ∷
    "= 35" ∷
    "1 ExchangeStates c5 g0 w0 p0@0{1,2,3} a1 v2/0{1,2,3}{1} y- r[] o[] x{} b1" ∷
    "= 41" ∷
    "made 1:1 cas \"y\" 68 59" ∷
    "1 NonPrim c5 g0 w0 p0@0{1,2,3} a1 v2/0{1,2,3}{1} y- r[] o[1:1] x{} b0" ∷
    "= 44" ∷
    "1 NonPrim c5 g0 w0 p0@0{1,2,3} a1 v2/0{1,2,3}{1} y- r[1:1] o[] x{} b0" ∷
    "= 45" ∷
    "made 3:1 del \"y\"" ∷
    "3 NonPrim c4 g0 w0 p0@0{1,2,3} a1 v2/0{1,2,3}{1,3} y- r[] o[3:1] x{} b0" ∷
    "= 47" ∷
    "2 NonPrim - g0 w0 p0@0{1,2,3} a1 v2/0{1,2,3}{2} y- r[] o[] x{} b0" ∷
    "= 53" ∷
    "2 ExchangeStates c6 g0 w0 p0@0{1,2,3} a1 v2/0{1,2,3}{2} y- r[] o[] x{} b0" ∷
    "= 54" ∷
    "made 3:2 put \"ab\" \"absent\"" ∷
    "3 NonPrim c4 g0 w0 p0@0{1,2,3} a1 v2/0{1,2,3}{1,3} y- r[] o[3:1,3:2] x{} b0" ∷
    "refused 52 10 1" ∷
    [])
unfolding cases_compute
three_replicas_attempt_broken_off_crash_in_a_device_call_a = refl

-- Replicas at the start: 3: an attempt at a primary is broken off; a crash strikes inside a device call.
three_replicas_attempt_broken_off_crash_in_a_device_call_c :
    replayed_text (
    "start 1 2 3" ∷
    "merge 1 2 3" ∷
    "rounds 1" ∷
    "split 1 2" ∷
    "split 3" ∷
    "merge 1 2" ∷
    "merge 3" ∷
    "stop 3 0 2401010000010101010000010101010100018f01dd010101010101010101b90100f6d7010100015f" ∷
    "request 1 need \"a\" absent" ∷
    "request 1 inc \"y\" -3" ∷
    "stop 1 0 01" ∷
    "recover 1" ∷
    "request 1 del \"a\"" ∷
    "rounds 1" ∷
    "fail 2 3" ∷
    "split 2" ∷
    "merge 1" ∷
    "split 1" ∷
    "merge 1 2" ∷
    "split 1" ∷
    "request 2 put \"y\" 64 ? get \"b\"" ∷
    "merge 1" ∷
    "order 1" ∷
    "gather" ∷
    "request 2 inc \"k1\" 8; cas \"k1\" absent 18; put \"abc\" 48; cas \"b\" absent 0 ? get \"y\"" ∷
    "rounds 2" ∷
    "request 1 move \"x\" \"x\" 0" ∷
    "leave 1 3" ∷
    "split 2" ∷
    "split 1" ∷
    "merge 1 2" ∷
    "rounds 2" ∷
    "request 1 put \"x\" 21; inc \"a\" 12" ∷
    "request 1 del \"y\"" ∷
    "order 1" ∷
    "split 1" ∷
    "merge 1" ∷
    "recover 3" ∷
    "split 1" ∷
    "merge 1 3" ∷
    "gather" ∷
    "deliver 1 1" ∷
    "gather" ∷
    "gather" ∷
    "rounds 1" ∷
    "show 1" ∷
    "request 3 put \"z\" 0" ∷
    "split 1" ∷
    "recover 2" ∷
    "split 3" ∷
    "merge 1 2 3" ∷
    "split 3" ∷
    "split 1 2" ∷
    "merge 3" ∷
    "merge 1 2" ∷
    "split 1 2" ∷
    "merge 1 2" ∷
    "gather" ∷
    "split 1 2" ∷
    "end" ∷
    [])
    ≡ written (
    "= 1" ∷
    "1 NonPrim - g0 w0 p0@0{1,2,3} a0 v- y- r[] o[] x{} b0" ∷
    "2 NonPrim - g0 w0 p0@0{1,2,3} a0 v- y- r[] o[] x{} b0" ∷
    "3 NonPrim - g0 w0 p0@0{1,2,3} a0 v- y- r[] o[] x{} b0" ∷
    "= 2" ∷
    "1 ExchangeStates c1 g0 w0 p0@0{1,2,3} a0 v- y- r[] o[] x{} b0" ∷
    "2 ExchangeStates c1 g0 w0 p0@0{1,2,3} a0 v- y- r[] o[] x{} b0" ∷
    "3 ExchangeStates c1 g0 w0 p0@0{1,2,3} a0 v- y- r[] o[] x{} b0" ∷
    "= 4" ∷
    "1 Construct c1 g0 w0 p0@0{1,2,3} a1 v1/0{1,2,3}{1} y- r[] o[] x{} b0" ∷
    "= 5" ∷
    "2 Construct c1 g0 w0 p0@0{1,2,3} a1 v1/0{1,2,3}{2} y- r[] o[] x{} b0" ∷
    "= 6" ∷
    "3 Construct c1 g0 w0 p0@0{1,2,3} a1 v1/0{1,2,3}{3} y- r[] o[] x{} b0" ∷
    "= 7" ∷
    "1 No t1 g0 w0 p0@0{1,2,3} a1 v1/0{1,2,3}{1} y- r[] o[] x{} b0" ∷
    "2 No t1 g0 w0 p0@0{1,2,3} a1 v1/0{1,2,3}{2} y- r[] o[] x{} b0" ∷
    "= 8" ∷
    "3 No t1 g0 w0 p0@0{1,2,3} a1 v1/0{1,2,3}{3} y- r[] o[] x{} b0" ∷
    "= 9" ∷
    "1 ExchangeStates c2 g0 w0 p0@0{1,2,3} a1 v- y- r[] o[] x{} b0" ∷
    "2 ExchangeStates c2 g0 w0 p0@0{1,2,3} a1 v- y- r[] o[] x{} b0" ∷
    "= 10" ∷
    "3 ExchangeStates c3 g0 w0 p0@0{1,2,3} a1 v- y- r[] o[] x{} b0" ∷
    "= 11" ∷
    "3 Down" ∷
    "= 12" ∷
    "1 ExchangeStates c2 g0 w0 p0@0{1,2,3} a1 v- y- r[] o[] x{} b1" ∷
    "= 13" ∷
    "1 ExchangeStates c2 g0 w0 p0@0{1,2,3} a1 v- y- r[] o[] x{} b2" ∷
    "= 14" ∷
    "1 Down" ∷
    "= 15" ∷
    "1 NonPrim - g0 w0 p0@0{1,2,3} a1 v- y- r[] o[] x{} b0" ∷
    "= 16" ∷
    "1 NonPrim - g0 w0 p0@0{1,2,3} a1 v- y- r[] o[] x{} b1" ∷
    "= 19" ∷
    "2 NonPrim t2 g0 w0 p0@0{1,2,3} a1 v- y- r[] o[] x{} b0" ∷
    "= 20" ∷
    "1 ExchangeStates c4 g0 w0 p0@0{1,2,3} a1 v- y- r[] o[] x{} b1" ∷
    "= 21" ∷
    "1 NonPrim t4 g0 w0 p0@0{1,2,3} a1 v- y- r[] o[] x{} b1" ∷
    "= 22" ∷
    "1 ExchangeStates c5 g0 w0 p0@0{1,2,3} a1 v- y- r[] o[] x{} b1" ∷
    "2 ExchangeStates c5 g0 w0 p0@0{1,2,3} a1 v- y- r[] o[] x{} b0" ∷
    "= 23" ∷
    "1 NonPrim t5 g0 w0 p0@0{1,2,3} a1 v- y- r[] o[] x{} b1" ∷
    "= 24" ∷
    "2 ExchangeStates c5 g0 w0 p0@0{1,2,3} a1 v- y- r[] o[] x{} b1" ∷
    "= 25" ∷
    "1 ExchangeStates c6 g0 w0 p0@0{1,2,3} a1 v- y- r[] o[] x{} b1" ∷
    "= 28" ∷
    "2 ExchangeStates c5 g0 w0 p0@0{1,2,3} a1 v- y- r[] o[] x{} b2" ∷
    "= 30" ∷
    "made 1:1 del \"a\"" ∷
    "1 NonPrim c6 g0 w0 p0@0{1,2,3} a1 v- y- r[] o[1:1] x{} b0" ∷
    "= 32" ∷
    "1 NonPrim c6 g0 w0 p0@0{1,2,3} a1 v- y- r[1:1] o[] x{} b0" ∷
    "= 33" ∷
    "made 1:2 move \"x\" \"x\" 0" ∷
    "1 NonPrim c6 g0 w0 p0@0{1,2,3} a1 v- y- r[1:1] o[1:2] x{} b0" ∷
    "= 34" ∷
    "made 1:3 leave 3" ∷
    "1 NonPrim c6 g0 w0 p0@0{1,2,3} a1 v- y- r[1:1] o[1:2,1:3] x{} b0" ∷
    "= 35" ∷
    "2 NonPrim t5 g0 w0 p0@0{1,2,3} a1 v- y- r[] o[] x{} b2" ∷
    "= 36" ∷
    "1 NonPrim t6 g0 w0 p0@0{1,2,3} a1 v- y- r[1:1] o[1:2,1:3] x{} b0" ∷
    "= 37" ∷
    "1 ExchangeStates c7 g0 w0 p0@0{1,2,3} a1 v- y- r[1:1,1:2,1:3] o[] x{} b0" ∷
    "2 ExchangeStates c7 g0 w0 p0@0{1,2,3} a1 v- y- r[] o[] x{} b2" ∷
    "= 39" ∷
    "1 ExchangeActions c7 g0 w0 p0@0{1,2,3} a1 v- y- r[1:1,1:2,1:3] o[] x{} b0" ∷
    "= 40" ∷
    "2 ExchangeActions c7 g0 w0 p0@0{1,2,3} a1 v- y- r[] o[] x{} b2" ∷
    "= 42" ∷
    "1 Construct c7 g0 w0 p0@0{1,2,3} a2 v7/0{1,2}{1} y- r[1:1,1:2,1:3] o[] x{} b0" ∷
    "= 43" ∷
    "2 Down" ∷
    "= 44" ∷
    "1 Construct c7 g0 w0 p0@0{1,2,3} a2 v7/0{1,2}{1} y- r[1:1,1:2,1:3] o[] x{} b1" ∷
    "= 45" ∷
    "1 Construct c7 g0 w0 p0@0{1,2,3} a2 v7/0{1,2}{1} y- r[1:1,1:2,1:3] o[] x{} b2" ∷
    "= 47" ∷
    "1 No t7 g0 w0 p0@0{1,2,3} a2 v7/0{1,2}{1} y- r[1:1,1:2,1:3] o[] x{} b2" ∷
    "= 48" ∷
    "1 ExchangeStates c8 g0 w0 p0@0{1,2,3} a2 v- y- r[1:1,1:2,1:3] o[] x{} b2" ∷
    "= 49" ∷
    "3 NonPrim - g0 w0 p0@0{1,2,3} a1 v- y- r[] o[] x{} b0" ∷
    "= 50" ∷
    "1 NonPrim t8 g0 w0 p0@0{1,2,3} a2 v- y- r[1:1,1:2,1:3] o[] x{} b2" ∷
    "= 51" ∷
    "1 ExchangeStates c9 g0 w0 p0@0{1,2,3} a2 v- y- r[1:1,1:2,1:3] o[] x{} b2" ∷
    "3 ExchangeStates c9 g0 w0 p0@0{1,2,3} a1 v- y- r[] o[] x{} b0" ∷
    "= 57" ∷
    "1 ExchangeActions c9 g0 w0 p0@0{1,2,3} a2 v- y- r[1:1,1:2,1:3] o[] x{} b2" ∷
    "= 58" ∷
    "3 ExchangeActions c9 g0 w0 p0@0{1,2,3} a1 v- y- r[] o[] x{} b0" ∷
    "= 59" ∷
    "greens 1 []" ∷
    "db 1" ∷
    "= 60" ∷
    "3 ExchangeActions c9 g0 w0 p0@0{1,2,3} a1 v- y- r[] o[] x{} b1" ∷
    "= 61" ∷
    "1 NonPrim t9 g0 w0 p0@0{1,2,3} a2 v- y- r[1:1,1:2,1:3] o[] x{} b2" ∷
    "= 62" ∷
    "2 NonPrim - g0 w0 p0@0{1,2,3} a1 v- y- r[] o[] x{} b0" ∷
    "= 63" ∷
    "3 NonPrim t9 g0 w0 p0@0{1,2,3} a1 v- y- r[] o[] x{} b1" ∷
    "= 64" ∷
    "1 ExchangeStates c10 g0 w0 p0@0{1,2,3} a2 v- y- r[1:1,1:2,1:3] o[] x{} b2" ∷
    "2 ExchangeStates c10 g0 w0 p0@0{1,2,3} a1 v- y- r[] o[] x{} b0" ∷
    "3 ExchangeStates c10 g0 w0 p0@0{1,2,3} a1 v- y- r[] o[] x{} b1" ∷
    "= 65" ∷
    "3 NonPrim t10 g0 w0 p0@0{1,2,3} a1 v- y- r[] o[] x{} b1" ∷
    "= 66" ∷
    "1 NonPrim t10 g0 w0 p0@0{1,2,3} a2 v- y- r[1:1,1:2,1:3] o[] x{} b2" ∷
    "2 NonPrim t10 g0 w0 p0@0{1,2,3} a1 v- y- r[] o[] x{} b0" ∷
    "= 67" ∷
    "3 ExchangeStates c11 g0 w0 p0@0{1,2,3} a1 v- y- r[] o[] x{} b1" ∷
    "= 68" ∷
    "1 ExchangeStates c12 g0 w0 p0@0{1,2,3} a2 v- y- r[1:1,1:2,1:3] o[] x{} b2" ∷
    "2 ExchangeStates c12 g0 w0 p0@0{1,2,3} a1 v- y- r[] o[] x{} b0" ∷
    "= 69" ∷
    "1 NonPrim t12 g0 w0 p0@0{1,2,3} a2 v- y- r[1:1,1:2,1:3] o[] x{} b2" ∷
    "2 NonPrim t12 g0 w0 p0@0{1,2,3} a1 v- y- r[] o[] x{} b0" ∷
    "= 70" ∷
    "1 ExchangeStates c13 g0 w0 p0@0{1,2,3} a2 v- y- r[1:1,1:2,1:3] o[] x{} b2" ∷
    "2 ExchangeStates c13 g0 w0 p0@0{1,2,3} a1 v- y- r[] o[] x{} b0" ∷
    "= 72" ∷
    "1 NonPrim t13 g0 w0 p0@0{1,2,3} a2 v- y- r[1:1,1:2,1:3] o[] x{} b2" ∷
    "2 NonPrim t13 g0 w0 p0@0{1,2,3} a1 v- y- r[] o[] x{} b0" ∷
    "end 72" ∷
    [])
unfolding cases_compute
three_replicas_attempt_broken_off_crash_in_a_device_call_c = refl

-- One merge and two rounds take three replicas into a primary component.
three_replicas_form_a_primary :
    replayed_text (
    "start 1 2 3" ∷
    "merge 1 2 3" ∷
    "rounds 2" ∷
    "end" ∷
    [])
    ≡ written (
    "= 1" ∷
    "1 NonPrim - g0 w0 p0@0{1,2,3} a0 v- y- r[] o[] x{} b0" ∷
    "2 NonPrim - g0 w0 p0@0{1,2,3} a0 v- y- r[] o[] x{} b0" ∷
    "3 NonPrim - g0 w0 p0@0{1,2,3} a0 v- y- r[] o[] x{} b0" ∷
    "= 2" ∷
    "1 ExchangeStates c1 g0 w0 p0@0{1,2,3} a0 v- y- r[] o[] x{} b0" ∷
    "2 ExchangeStates c1 g0 w0 p0@0{1,2,3} a0 v- y- r[] o[] x{} b0" ∷
    "3 ExchangeStates c1 g0 w0 p0@0{1,2,3} a0 v- y- r[] o[] x{} b0" ∷
    "= 4" ∷
    "1 Construct c1 g0 w0 p0@0{1,2,3} a1 v1/0{1,2,3}{1} y- r[] o[] x{} b0" ∷
    "= 5" ∷
    "2 Construct c1 g0 w0 p0@0{1,2,3} a1 v1/0{1,2,3}{2} y- r[] o[] x{} b0" ∷
    "= 6" ∷
    "3 Construct c1 g0 w0 p0@0{1,2,3} a1 v1/0{1,2,3}{3} y- r[] o[] x{} b0" ∷
    "= 8" ∷
    "1 RegPrim c1 g0 w0 p1@1{1,2,3} a0 v1/0{1,2,3}{1} y- r[] o[] x{} b0" ∷
    "= 9" ∷
    "2 RegPrim c1 g0 w0 p1@1{1,2,3} a0 v1/0{1,2,3}{2} y- r[] o[] x{} b0" ∷
    "= 10" ∷
    "3 RegPrim c1 g0 w0 p1@1{1,2,3} a0 v1/0{1,2,3}{3} y- r[] o[] x{} b0" ∷
    "end 10" ∷
    [])
unfolding cases_compute
three_replicas_form_a_primary = refl

-- Replicas at the start: 3: no primary is formed.
three_replicas_no_primary_a :
    replayed_text (
    "start 1 2 3" ∷
    "rounds 1" ∷
    "request 1 put \"a\" 9223372036854775806 ? get \"long-key\"" ∷
    "rounds 2" ∷
    "request 1 inc \"long-key\" 86 ? get \"long-key\"" ∷
    "show order" ∷
    "request 2 inc \"a\" 95 ? get \"k1\"" ∷
    "request 1 put \"long-key\" 83 ? get \"x\"" ∷
    "show order" ∷
    "request 1 inc \"k1\" 84 ? get \"z~\"" ∷
    "rounds 2" ∷
    "end" ∷
    [])
    ≡ written (
    "= 1" ∷
    "1 NonPrim - g0 w0 p0@0{1,2,3} a0 v- y- r[] o[] x{} b0" ∷
    "2 NonPrim - g0 w0 p0@0{1,2,3} a0 v- y- r[] o[] x{} b0" ∷
    "3 NonPrim - g0 w0 p0@0{1,2,3} a0 v- y- r[] o[] x{} b0" ∷
    "= 3" ∷
    "1 NonPrim - g0 w0 p0@0{1,2,3} a0 v- y- r[] o[] x{} b1" ∷
    "= 6" ∷
    "1 NonPrim - g0 w0 p0@0{1,2,3} a0 v- y- r[] o[] x{} b2" ∷
    "= 7" ∷
    "all []" ∷
    "= 8" ∷
    "2 NonPrim - g0 w0 p0@0{1,2,3} a0 v- y- r[] o[] x{} b1" ∷
    "= 9" ∷
    "1 NonPrim - g0 w0 p0@0{1,2,3} a0 v- y- r[] o[] x{} b3" ∷
    "= 10" ∷
    "all []" ∷
    "= 11" ∷
    "1 NonPrim - g0 w0 p0@0{1,2,3} a0 v- y- r[] o[] x{} b4" ∷
    "end 13" ∷
    [])
unfolding cases_compute
three_replicas_no_primary_a = refl

-- Replicas at the start: 3: no primary is formed.
three_replicas_no_primary_b :
    replayed_text (
    "start 3 9 15" ∷
    "rounds 2" ∷
    "show order" ∷
    "request 9 inc \"k1\" 38 ? get \"z~\"" ∷
    "request 9 inc \"a\" 16 ? get \"it's\"" ∷
    "request 9 inc \"y\" 64" ∷
    "request 9 inc \"a\" -4 ? get \"k1\"" ∷
    "request 9 inc \"long-key\" 52 ? get \"y\"" ∷
    "rounds 3" ∷
    "rounds 3" ∷
    "request 9 put \"k1\" 78" ∷
    "request 15 inc \"long-key\" 9223372036854775806 ? get \"long-key\"" ∷
    "show order" ∷
    "request 9 put \"a\" 37" ∷
    "request 3 put \"z~\" 71 ? get \"long-key\"" ∷
    "request 3 inc \"it's\" 61" ∷
    "rounds 2" ∷
    "request 15 inc \"long-key\" 49" ∷
    "request 9 inc \"x\" 53" ∷
    "rounds 2" ∷
    "rounds 1" ∷
    "request 9 put \"a\" 16" ∷
    "request 15 inc \"long-key\" 80" ∷
    "rounds 3" ∷
    "request 9 put \"z~\" 27" ∷
    "request 9 put \"a\" -9223372036854775807" ∷
    "request 9 put \"a\" 26 ? get \"y\"" ∷
    "request 9 put \"a\" 9223372036854775807" ∷
    "rounds 2" ∷
    "request 9 put \"k1\" -9223372036854775808 ? get \"it's\"" ∷
    "rounds 2" ∷
    "request 3 put \"y\" -1" ∷
    "rounds 3" ∷
    "request 15 put \"k1\" 76 ? get \"z~\"" ∷
    "request 9 inc \"long-key\" 60" ∷
    "end" ∷
    [])
    ≡ written (
    "= 1" ∷
    "3 NonPrim - g0 w0 p0@0{3,9,15} a0 v- y- r[] o[] x{} b0" ∷
    "9 NonPrim - g0 w0 p0@0{3,9,15} a0 v- y- r[] o[] x{} b0" ∷
    "15 NonPrim - g0 w0 p0@0{3,9,15} a0 v- y- r[] o[] x{} b0" ∷
    "= 4" ∷
    "all []" ∷
    "= 5" ∷
    "9 NonPrim - g0 w0 p0@0{3,9,15} a0 v- y- r[] o[] x{} b1" ∷
    "= 6" ∷
    "9 NonPrim - g0 w0 p0@0{3,9,15} a0 v- y- r[] o[] x{} b2" ∷
    "= 7" ∷
    "9 NonPrim - g0 w0 p0@0{3,9,15} a0 v- y- r[] o[] x{} b3" ∷
    "= 8" ∷
    "9 NonPrim - g0 w0 p0@0{3,9,15} a0 v- y- r[] o[] x{} b4" ∷
    "= 9" ∷
    "9 NonPrim - g0 w0 p0@0{3,9,15} a0 v- y- r[] o[] x{} b5" ∷
    "= 16" ∷
    "9 NonPrim - g0 w0 p0@0{3,9,15} a0 v- y- r[] o[] x{} b6" ∷
    "= 17" ∷
    "15 NonPrim - g0 w0 p0@0{3,9,15} a0 v- y- r[] o[] x{} b1" ∷
    "= 18" ∷
    "all []" ∷
    "= 19" ∷
    "9 NonPrim - g0 w0 p0@0{3,9,15} a0 v- y- r[] o[] x{} b7" ∷
    "= 20" ∷
    "3 NonPrim - g0 w0 p0@0{3,9,15} a0 v- y- r[] o[] x{} b1" ∷
    "= 21" ∷
    "3 NonPrim - g0 w0 p0@0{3,9,15} a0 v- y- r[] o[] x{} b2" ∷
    "= 24" ∷
    "15 NonPrim - g0 w0 p0@0{3,9,15} a0 v- y- r[] o[] x{} b2" ∷
    "= 25" ∷
    "9 NonPrim - g0 w0 p0@0{3,9,15} a0 v- y- r[] o[] x{} b8" ∷
    "= 29" ∷
    "9 NonPrim - g0 w0 p0@0{3,9,15} a0 v- y- r[] o[] x{} b9" ∷
    "= 30" ∷
    "15 NonPrim - g0 w0 p0@0{3,9,15} a0 v- y- r[] o[] x{} b3" ∷
    "= 34" ∷
    "9 NonPrim - g0 w0 p0@0{3,9,15} a0 v- y- r[] o[] x{} b10" ∷
    "= 35" ∷
    "9 NonPrim - g0 w0 p0@0{3,9,15} a0 v- y- r[] o[] x{} b11" ∷
    "= 36" ∷
    "9 NonPrim - g0 w0 p0@0{3,9,15} a0 v- y- r[] o[] x{} b12" ∷
    "= 37" ∷
    "9 NonPrim - g0 w0 p0@0{3,9,15} a0 v- y- r[] o[] x{} b13" ∷
    "= 40" ∷
    "9 NonPrim - g0 w0 p0@0{3,9,15} a0 v- y- r[] o[] x{} b14" ∷
    "= 43" ∷
    "3 NonPrim - g0 w0 p0@0{3,9,15} a0 v- y- r[] o[] x{} b3" ∷
    "= 47" ∷
    "15 NonPrim - g0 w0 p0@0{3,9,15} a0 v- y- r[] o[] x{} b4" ∷
    "= 48" ∷
    "9 NonPrim - g0 w0 p0@0{3,9,15} a0 v- y- r[] o[] x{} b15" ∷
    "end 48" ∷
    [])
unfolding cases_compute
three_replicas_no_primary_b = refl

-- Replicas at the start: 3: no primary is formed.
three_replicas_no_primary_c :
    replayed_text (
    "start 1 2 3" ∷
    "merge 1 2 3" ∷
    "gather" ∷
    "deliver 3 3" ∷
    "request 3 move \"y\" \"a\" 5 ? get \"ab\"" ∷
    "stop 1 2 ff" ∷
    "end" ∷
    [])
    ≡ written (
    "= 1" ∷
    "1 NonPrim - g0 w0 p0@0{1,2,3} a0 v- y- r[] o[] x{} b0" ∷
    "2 NonPrim - g0 w0 p0@0{1,2,3} a0 v- y- r[] o[] x{} b0" ∷
    "3 NonPrim - g0 w0 p0@0{1,2,3} a0 v- y- r[] o[] x{} b0" ∷
    "= 2" ∷
    "1 ExchangeStates c1 g0 w0 p0@0{1,2,3} a0 v- y- r[] o[] x{} b0" ∷
    "2 ExchangeStates c1 g0 w0 p0@0{1,2,3} a0 v- y- r[] o[] x{} b0" ∷
    "3 ExchangeStates c1 g0 w0 p0@0{1,2,3} a0 v- y- r[] o[] x{} b0" ∷
    "= 4" ∷
    "3 Construct c1 g0 w0 p0@0{1,2,3} a1 v1/0{1,2,3}{3} y- r[] o[] x{} b0" ∷
    "= 5" ∷
    "3 Construct c1 g0 w0 p0@0{1,2,3} a1 v1/0{1,2,3}{3} y- r[] o[] x{} b1" ∷
    "end 6" ∷
    [])
unfolding cases_compute
three_replicas_no_primary_c = refl

-- Replicas at the start: 3: no primary is formed; a replica crashes.
three_replicas_no_primary_crash_a :
    replayed_text (
    "start 1 2 3" ∷
    "merge 1 2 3" ∷
    "order 3" ∷
    "gather" ∷
    "stop 3 0 -" ∷
    "recover 3" ∷
    "fail 1 2" ∷
    "request 2 del \"b\"" ∷
    "stop 2 0 0100006b010101010001" ∷
    "gather" ∷
    "request 1 need \"abc\" absent ? get \"z\"" ∷
    "end" ∷
    [])
    ≡ written (
    "= 1" ∷
    "1 NonPrim - g0 w0 p0@0{1,2,3} a0 v- y- r[] o[] x{} b0" ∷
    "2 NonPrim - g0 w0 p0@0{1,2,3} a0 v- y- r[] o[] x{} b0" ∷
    "3 NonPrim - g0 w0 p0@0{1,2,3} a0 v- y- r[] o[] x{} b0" ∷
    "= 2" ∷
    "1 ExchangeStates c1 g0 w0 p0@0{1,2,3} a0 v- y- r[] o[] x{} b0" ∷
    "2 ExchangeStates c1 g0 w0 p0@0{1,2,3} a0 v- y- r[] o[] x{} b0" ∷
    "3 ExchangeStates c1 g0 w0 p0@0{1,2,3} a0 v- y- r[] o[] x{} b0" ∷
    "= 5" ∷
    "3 Down" ∷
    "= 6" ∷
    "3 NonPrim - g0 w0 p0@0{1,2,3} a0 v- y- r[] o[] x{} b0" ∷
    "= 8" ∷
    "2 ExchangeStates c1 g0 w0 p0@0{1,2,3} a0 v- y- r[] o[] x{} b1" ∷
    "= 9" ∷
    "2 Down" ∷
    "= 11" ∷
    "1 ExchangeStates c1 g0 w0 p0@0{1,2,3} a0 v- y- r[] o[] x{} b1" ∷
    "end 11" ∷
    [])
unfolding cases_compute
three_replicas_no_primary_crash_a = refl

-- Replicas at the start: 3: the input has an odd line; a primary is split; a crash strikes inside a device call.
three_replicas_odd_input_primary_split_crash_in_a_device_call_a :
    replayed_text (
    "start 1 2 3" ∷
    "merge 1 2 3" ∷
    "rounds 2" ∷
    "stop 2 3 07" ∷
    "split 2 3" ∷
    "merge 2 3" ∷
    "request 1 need \"b\" absent ? get \"a\"" ∷
    "request 3 put \"abc\" 29" ∷
    "rounds 1" ∷
    "request 1 inc \"z\" -1" ∷
    "recover 2" ∷
    "split 1" ∷
    "split 3" ∷
    "end" ∷
    "\"request\" " ∷
    [])
    ≡ written (
    "= 1" ∷
    "1 NonPrim - g0 w0 p0@0{1,2,3} a0 v- y- r[] o[] x{} b0" ∷
    "2 NonPrim - g0 w0 p0@0{1,2,3} a0 v- y- r[] o[] x{} b0" ∷
    "3 NonPrim - g0 w0 p0@0{1,2,3} a0 v- y- r[] o[] x{} b0" ∷
    "= 2" ∷
    "1 ExchangeStates c1 g0 w0 p0@0{1,2,3} a0 v- y- r[] o[] x{} b0" ∷
    "2 ExchangeStates c1 g0 w0 p0@0{1,2,3} a0 v- y- r[] o[] x{} b0" ∷
    "3 ExchangeStates c1 g0 w0 p0@0{1,2,3} a0 v- y- r[] o[] x{} b0" ∷
    "= 4" ∷
    "1 Construct c1 g0 w0 p0@0{1,2,3} a1 v1/0{1,2,3}{1} y- r[] o[] x{} b0" ∷
    "= 5" ∷
    "2 Construct c1 g0 w0 p0@0{1,2,3} a1 v1/0{1,2,3}{2} y- r[] o[] x{} b0" ∷
    "= 6" ∷
    "3 Construct c1 g0 w0 p0@0{1,2,3} a1 v1/0{1,2,3}{3} y- r[] o[] x{} b0" ∷
    "= 8" ∷
    "1 RegPrim c1 g0 w0 p1@1{1,2,3} a0 v1/0{1,2,3}{1} y- r[] o[] x{} b0" ∷
    "= 9" ∷
    "2 RegPrim c1 g0 w0 p1@1{1,2,3} a0 v1/0{1,2,3}{2} y- r[] o[] x{} b0" ∷
    "= 10" ∷
    "3 RegPrim c1 g0 w0 p1@1{1,2,3} a0 v1/0{1,2,3}{3} y- r[] o[] x{} b0" ∷
    "= 12" ∷
    "2 TransPrim t1 g0 w0 p1@1{1,2,3} a0 v1/0{1,2,3}{2} y- r[] o[] x{} b0" ∷
    "3 TransPrim t1 g0 w0 p1@1{1,2,3} a0 v1/0{1,2,3}{3} y- r[] o[] x{} b0" ∷
    "= 13" ∷
    "2 Down" ∷
    "3 ExchangeStates c2 g0 w0 p1@1{1,2,3} a0 v- y![] r[] o[] x{} b0" ∷
    "= 14" ∷
    "made 1:1 need \"b\" absent ? get \"a\"" ∷
    "1 RegPrim c1 g0 w0 p1@1{1,2,3} a0 v1/0{1,2,3}{1} y- r[] o[1:1] x{} b0" ∷
    "= 15" ∷
    "3 ExchangeStates c2 g0 w0 p1@1{1,2,3} a0 v- y![] r[] o[] x{} b1" ∷
    "= 17" ∷
    "made 1:2 inc \"z\" -1" ∷
    "1 RegPrim c1 g0 w0 p1@1{1,2,3} a0 v1/0{1,2,3}{1} y- r[] o[1:1,1:2] x{} b0" ∷
    "= 18" ∷
    "2 NonPrim - g0 w0 p1@1{1,2,3} a0 v1/0{1,2,3}{2} y- r[] o[] x{} b0" ∷
    "= 19" ∷
    "1 TransPrim t1 g0 w0 p1@1{1,2,3} a0 v1/0{1,2,3}{1} y?[1:1] r[] o[1:2] x{} b0" ∷
    "= 20" ∷
    "3 NonPrim t2 g0 w0 p1@1{1,2,3} a0 v- y![] r[] o[] x{} b1" ∷
    "syntax 15 2" ∷
    [])
unfolding cases_compute
three_replicas_odd_input_primary_split_crash_in_a_device_call_a = refl
