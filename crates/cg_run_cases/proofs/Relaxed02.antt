-- Cases of cases/ with their whole reports, which `.ci/theorems` writes down here.
use Rattle.std.specs.Prelude.{◌≡◌, [], ◌∷◌}
use mathlib.Core.Path.{refl}
use Rattle.cg_run_cases.specs.Replaying.{put_by, written}
use Rattle.cg_run_cases.specs.Computing.{cases_compute}

-- Relaxed: actions are red.
generated_relaxed_red_a :
    put_by "relaxed" (
    "start 6 15" ∷
    "merge 6 15" ∷
    "split 15" ∷
    "stop 6 8 -" ∷
    "relaxed 15 \"z\"" ∷
    "relaxed 6 \"a\"" ∷
    "relaxed 15 \"z\"" ∷
    "order 6" ∷
    "relaxed 15 \"x\"" ∷
    "request 15 ? get \"b\"" ∷
    "relaxed 15 \"z\"" ∷
    "merge 15" ∷
    "relaxed 6 \"abc\"" ∷
    "gather" ∷
    "leave 15 15" ∷
    "gather" ∷
    "deliver 15 1" ∷
    "relaxed 15 \"y\"" ∷
    "joined 6 6 \"b\"" ∷
    "request 6 put \"z\" 30" ∷
    "show order" ∷
    "dirty 6 get \"y\"" ∷
    "relaxed 6 \"a\"" ∷
    "rounds 3" ∷
    "end" ∷
    [])
    ≡ written (
    "= 1" ∷
    "6 NonPrim - g0 w0 p0@0{6,15} a0 v- y- r[] o[] x{} b0" ∷
    "15 NonPrim - g0 w0 p0@0{6,15} a0 v- y- r[] o[] x{} b0" ∷
    "= 2" ∷
    "6 ExchangeStates c1 g0 w0 p0@0{6,15} a0 v- y- r[] o[] x{} b0" ∷
    "15 ExchangeStates c1 g0 w0 p0@0{6,15} a0 v- y- r[] o[] x{} b0" ∷
    "= 3" ∷
    "15 NonPrim t1 g0 w0 p0@0{6,15} a0 v- y- r[] o[] x{} b0" ∷
    "= 5" ∷
    "relaxed 15 absent 0" ∷
    "= 6" ∷
    "relaxed 6 absent 0" ∷
    "= 7" ∷
    "relaxed 15 absent 0" ∷
    "= 9" ∷
    "relaxed 15 absent 0" ∷
    "= 10" ∷
    "15 NonPrim t1 g0 w0 p0@0{6,15} a0 v- y- r[] o[] x{} b1" ∷
    "= 11" ∷
    "relaxed 15 absent 0" ∷
    "= 12" ∷
    "15 ExchangeStates c2 g0 w0 p0@0{6,15} a0 v- y- r[] o[] x{} b1" ∷
    "= 13" ∷
    "relaxed 6 absent 0" ∷
    "= 15" ∷
    "15 ExchangeStates c2 g0 w0 p0@0{6,15} a0 v- y- r[] o[] x{} b2" ∷
    "= 17" ∷
    "made 15:1 ? get \"b\"" ∷
    "made 15:2 leave 15" ∷
    "15 NonPrim c2 g0 w0 p0@0{6,15} a0 v- y- r[] o[15:1,15:2] x{} b0" ∷
    "= 18" ∷
    "relaxed 15 absent 0" ∷
    "= 19" ∷
    "joined 6 6 absent 0" ∷
    "= 20" ∷
    "6 ExchangeStates c1 g0 w0 p0@0{6,15} a0 v- y- r[] o[] x{} b1" ∷
    "= 21" ∷
    "all []" ∷
    "= 22" ∷
    "dirty 6 absent" ∷
    "= 23" ∷
    "relaxed 6 absent 0" ∷
    "= 25" ∷
    "15 NonPrim c2 g0 w0 p0@0{6,15} a0 v- y- r[15:1,15:2] o[] x{} b0" ∷
    "end 27" ∷
    [])
unfolding cases_compute
generated_relaxed_red_a = refl

-- Relaxed: actions are red; a replica crashes.
generated_relaxed_red_crash_a :
    put_by "relaxed" (
    "start 2 14 15 17" ∷
    "merge 2 14 15 17" ∷
    "rounds 2" ∷
    "gather" ∷
    "stop 15 0 ffffffffff" ∷
    "request 2 put \"y\" 9223372036854775806; need \"x\" \"\"; inc \"x\" 2; put \"z\" 85; put \"z\" 22; inc \"z\" 11; del \"abc\"; inc \"z\" 8; need \"b\" 95; put \"z\" 70; inc \"x\" 9223372036854775807; cas \"z\" absent 58; put \"y\" 93; cas \"y\" 0 48; need \"x\" 34; move \"z\" \"y\" 4" ∷
    "request 14 put \"a\" 91" ∷
    "joined 14 2 \"y\"" ∷
    "downgrade 15" ∷
    "recover 15" ∷
    "relaxed 15 \"a\"" ∷
    "merge 15" ∷
    "gather" ∷
    "deliver 15 1" ∷
    "joined 2 15 \"x\"" ∷
    "joined 2 2 \"a\"" ∷
    "request 15 inc \"z\" 8; move \"a\" \"a\" 5; del \"b\"; del \"x\"" ∷
    "leave 14 17" ∷
    "request 15 cas \"a\" absent \"; ? #\" ? get \"b\"" ∷
    "split 17" ∷
    "split 2 14" ∷
    "split 15" ∷
    "merge 2 14 15 17" ∷
    "rounds 2" ∷
    "gather" ∷
    "rounds 2" ∷
    "joined 2 15 \"a\"" ∷
    "fail 14 5" ∷
    "joined 2 17 \"y\"" ∷
    "relaxed 2 \"x\"" ∷
    "relaxed 14 \"a\"" ∷
    "stop 15 16 00" ∷
    "gather" ∷
    "joined 17 2 \"b\"" ∷
    "gather" ∷
    "request 14 inc \"y\" 6; inc \"y\" 7; move \"a\" \"k2\" 9223372036854775807; inc \"b\" -2" ∷
    "deliver 2 3" ∷
    "stop 17 15 01" ∷
    "joined 14 17 \"ab\"" ∷
    "end" ∷
    [])
    ≡ written (
    "= 1" ∷
    "2 NonPrim - g0 w0 p0@0{2,14,15,17} a0 v- y- r[] o[] x{} b0" ∷
    "14 NonPrim - g0 w0 p0@0{2,14,15,17} a0 v- y- r[] o[] x{} b0" ∷
    "15 NonPrim - g0 w0 p0@0{2,14,15,17} a0 v- y- r[] o[] x{} b0" ∷
    "17 NonPrim - g0 w0 p0@0{2,14,15,17} a0 v- y- r[] o[] x{} b0" ∷
    "= 2" ∷
    "2 ExchangeStates c1 g0 w0 p0@0{2,14,15,17} a0 v- y- r[] o[] x{} b0" ∷
    "14 ExchangeStates c1 g0 w0 p0@0{2,14,15,17} a0 v- y- r[] o[] x{} b0" ∷
    "15 ExchangeStates c1 g0 w0 p0@0{2,14,15,17} a0 v- y- r[] o[] x{} b0" ∷
    "17 ExchangeStates c1 g0 w0 p0@0{2,14,15,17} a0 v- y- r[] o[] x{} b0" ∷
    "= 4" ∷
    "2 Construct c1 g0 w0 p0@0{2,14,15,17} a1 v1/0{2,14,15,17}{2} y- r[] o[] x{} b0" ∷
    "= 5" ∷
    "14 Construct c1 g0 w0 p0@0{2,14,15,17} a1 v1/0{2,14,15,17}{14} y- r[] o[] x{} b0" ∷
    "= 6" ∷
    "15 Construct c1 g0 w0 p0@0{2,14,15,17} a1 v1/0{2,14,15,17}{15} y- r[] o[] x{} b0" ∷
    "= 7" ∷
    "17 Construct c1 g0 w0 p0@0{2,14,15,17} a1 v1/0{2,14,15,17}{17} y- r[] o[] x{} b0" ∷
    "= 9" ∷
    "2 RegPrim c1 g0 w0 p1@1{2,14,15,17} a0 v1/0{2,14,15,17}{2} y- r[] o[] x{} b0" ∷
    "= 10" ∷
    "14 RegPrim c1 g0 w0 p1@1{2,14,15,17} a0 v1/0{2,14,15,17}{14} y- r[] o[] x{} b0" ∷
    "= 11" ∷
    "15 RegPrim c1 g0 w0 p1@1{2,14,15,17} a0 v1/0{2,14,15,17}{15} y- r[] o[] x{} b0" ∷
    "= 12" ∷
    "17 RegPrim c1 g0 w0 p1@1{2,14,15,17} a0 v1/0{2,14,15,17}{17} y- r[] o[] x{} b0" ∷
    "= 14" ∷
    "15 Down" ∷
    "= 15" ∷
    "made 2:1 put \"y\" 9223372036854775806; need \"x\" \"\"; inc \"x\" 2; put \"z\" 85; put \"z\" 22; inc \"z\" 11; del \"abc\"; inc \"z\" 8; need \"b\" 95; put \"z\" 70; inc \"x\" 9223372036854775807; cas \"z\" absent 58; put \"y\" 93; cas \"y\" 0 48; need \"x\" 34; move \"z\" \"y\" 4" ∷
    "2 RegPrim c1 g0 w0 p1@1{2,14,15,17} a0 v1/0{2,14,15,17}{2} y- r[] o[2:1] x{} b0" ∷
    "= 16" ∷
    "made 14:1 put \"a\" 91" ∷
    "14 RegPrim c1 g0 w0 p1@1{2,14,15,17} a0 v1/0{2,14,15,17}{14} y- r[] o[14:1] x{} b0" ∷
    "= 17" ∷
    "joined 14 2 absent 0" ∷
    "= 19" ∷
    "15 NonPrim - g0 w0 p1@1{2,14,15,17} a0 v1/0{2,14,15,17}{15} y- r[] o[] x{} b0" ∷
    "= 20" ∷
    "relaxed 15 absent 0" ∷
    "= 21" ∷
    "15 ExchangeStates c2 g0 w0 p1@1{2,14,15,17} a0 v1/0{2,14,15,17}{15} y- r[] o[] x{} b0" ∷
    "= 23" ∷
    "15 NonPrim c2 g0 w0 p1@1{2,14,15,17} a0 v1/0{2,14,15,17}{15} y- r[] o[] x{} b0" ∷
    "= 24" ∷
    "joined 2 15 absent 0" ∷
    "= 25" ∷
    "joined 2 2 absent 0" ∷
    "= 26" ∷
    "made 15:1 inc \"z\" 8; move \"a\" \"a\" 5; del \"b\"; del \"x\"" ∷
    "15 NonPrim c2 g0 w0 p1@1{2,14,15,17} a0 v1/0{2,14,15,17}{15} y- r[] o[15:1] x{} b0" ∷
    "= 27" ∷
    "made 14:2 leave 17" ∷
    "14 RegPrim c1 g0 w0 p1@1{2,14,15,17} a0 v1/0{2,14,15,17}{14} y- r[] o[14:1,14:2] x{} b0" ∷
    "= 28" ∷
    "made 15:2 cas \"a\" absent \"; ? #\" ? get \"b\"" ∷
    "15 NonPrim c2 g0 w0 p1@1{2,14,15,17} a0 v1/0{2,14,15,17}{15} y- r[] o[15:1,15:2] x{} b0" ∷
    "= 29" ∷
    "17 TransPrim t1 g0 w0 p1@1{2,14,15,17} a0 v1/0{2,14,15,17}{17} y?[2:1,14:1] r[] o[] x{} b0" ∷
    "= 30" ∷
    "2 TransPrim t1 g0 w0 p1@1{2,14,15,17} a0 v1/0{2,14,15,17}{2} y?[2:1,14:1] r[] o[] x{} b0" ∷
    "14 TransPrim t1 g0 w0 p1@1{2,14,15,17} a0 v1/0{2,14,15,17}{14} y?[2:1,14:1] r[] o[14:2] x{} b0" ∷
    "= 31" ∷
    "15 NonPrim t2 g0 w0 p1@1{2,14,15,17} a0 v1/0{2,14,15,17}{15} y- r[] o[15:1,15:2] x{} b0" ∷
    "= 32" ∷
    "2 ExchangeStates c3 g0 w0 p1@1{2,14,15,17} a0 v- y![2:1,14:1] r[] o[] x{} b0" ∷
    "14 ExchangeStates c3 g0 w0 p1@1{2,14,15,17} a0 v- y![2:1,14:1] r[14:2] o[] x{} b0" ∷
    "15 ExchangeStates c3 g0 w0 p1@1{2,14,15,17} a0 v1/0{2,14,15,17}{15} y- r[15:1,15:2] o[] x{} b0" ∷
    "17 ExchangeStates c3 g0 w0 p1@1{2,14,15,17} a0 v- y![2:1,14:1] r[] o[] x{} b0" ∷
    "= 34" ∷
    "2 ExchangeActions c3 g0 w0 p1@1{2,14,15,17} a0 v- y![2:1,14:1] r[] o[] x{} b0" ∷
    "= 35" ∷
    "14 ExchangeActions c3 g0 w0 p1@1{2,14,15,17} a0 v- y![2:1,14:1] r[14:2] o[] x{} b0" ∷
    "= 36" ∷
    "15 ExchangeActions c3 g0 w0 p1@1{2,14,15,17} a0 v1/0{2,14,15,17}{15} y- r[15:1,15:2] o[] x{} b0" ∷
    "= 37" ∷
    "17 ExchangeActions c3 g0 w0 p1@1{2,14,15,17} a0 v- y![2:1,14:1] r[] o[] x{} b0" ∷
    "= 41" ∷
    "15 ExchangeActions c3 g0 w0 p1@1{2,14,15,17} a0 v1/0{2,14,15,17}{15} y- r[2:1,15:1,15:2] o[] x{} b0" ∷
    "= 45" ∷
    "2 ExchangeActions c3 g0 w0 p1@1{2,14,15,17} a0 v- y![2:1,14:1] r[14:2] o[] x{} b0" ∷
    "= 47" ∷
    "15 ExchangeActions c3 g0 w0 p1@1{2,14,15,17} a0 v1/0{2,14,15,17}{15} y- r[2:1,14:1,14:2,15:1,15:2] o[] x{} b0" ∷
    "= 48" ∷
    "17 ExchangeActions c3 g0 w0 p1@1{2,14,15,17} a0 v- y![2:1,14:1] r[14:2] o[] x{} b0" ∷
    "= 50" ∷
    "2 Construct c3 g0 w0 p1@1{2,14,15,17} a1 v3/1{2,14,15,17}{2} y![2:1,14:1] r[14:2,15:1,15:2] o[] x{} b0" ∷
    "= 51" ∷
    "14 Construct c3 g0 w0 p1@1{2,14,15,17} a1 v3/1{2,14,15,17}{14} y![2:1,14:1] r[14:2,15:1,15:2] o[] x{} b0" ∷
    "= 52" ∷
    "15 Construct c3 g0 w0 p1@1{2,14,15,17} a1 v3/1{2,14,15,17}{15} y![2:1,14:1] r[14:2,15:1,15:2] o[] x{} b0" ∷
    "= 53" ∷
    "17 Construct c3 g0 w0 p1@1{2,14,15,17} a1 v3/1{2,14,15,17}{17} y![2:1,14:1] r[14:2,15:1,15:2] o[] x{} b0" ∷
    "= 54" ∷
    "joined 2 15 91 0" ∷
    "= 56" ∷
    "joined 2 17 absent 0" ∷
    "= 57" ∷
    "relaxed 2 absent 0" ∷
    "= 58" ∷
    "relaxed 14 91 0" ∷
    "= 61" ∷
    "joined 17 2 absent 0" ∷
    "= 63" ∷
    "14 Construct c3 g0 w0 p1@1{2,14,15,17} a1 v3/1{2,14,15,17}{14} y![2:1,14:1] r[14:2,15:1,15:2] o[] x{} b1" ∷
    "= 66" ∷
    "joined 14 17 absent 0" ∷
    "end 66" ∷
    [])
unfolding cases_compute
generated_relaxed_red_crash_a = refl

-- Relaxed: the last event is refused.
generated_relaxed_refused_a :
    put_by "relaxed" (
    "start 10 25 27" ∷
    "merge 10 25 27" ∷
    "rounds 3" ∷
    "request 27 inc \"k1\" 10" ∷
    "request 10 ? get \"b\"" ∷
    "request 27 put \"y\" 96" ∷
    "request 27 cas \"x\" absent 9223372036854775806; inc \"y\" -2; del \"x\"; inc \"a\" -3 ? get \"a\"" ∷
    "split 10 25 27" ∷
    "merge 10 25 27" ∷
    "rounds 2" ∷
    "request 27 inc \"x\" 9" ∷
    "order 27" ∷
    "request 25 cas \"z\" \"yes \\\"no\\\"\" 22; need \"y\" absent; inc \"y\" 11 ? count" ∷
    "gather" ∷
    "split 10 25 27" ∷
    "merge 10 25 27" ∷
    "rounds 2" ∷
    "split 10 25 27" ∷
    "merge 10 25 27" ∷
    "join 27 10" ∷
    "end" ∷
    [])
    ≡ written (
    "= 1" ∷
    "10 NonPrim - g0 w0 p0@0{10,25,27} a0 v- y- r[] o[] x{} b0" ∷
    "25 NonPrim - g0 w0 p0@0{10,25,27} a0 v- y- r[] o[] x{} b0" ∷
    "27 NonPrim - g0 w0 p0@0{10,25,27} a0 v- y- r[] o[] x{} b0" ∷
    "= 2" ∷
    "10 ExchangeStates c1 g0 w0 p0@0{10,25,27} a0 v- y- r[] o[] x{} b0" ∷
    "25 ExchangeStates c1 g0 w0 p0@0{10,25,27} a0 v- y- r[] o[] x{} b0" ∷
    "27 ExchangeStates c1 g0 w0 p0@0{10,25,27} a0 v- y- r[] o[] x{} b0" ∷
    "= 4" ∷
    "10 Construct c1 g0 w0 p0@0{10,25,27} a1 v1/0{10,25,27}{10} y- r[] o[] x{} b0" ∷
    "= 5" ∷
    "25 Construct c1 g0 w0 p0@0{10,25,27} a1 v1/0{10,25,27}{25} y- r[] o[] x{} b0" ∷
    "= 6" ∷
    "27 Construct c1 g0 w0 p0@0{10,25,27} a1 v1/0{10,25,27}{27} y- r[] o[] x{} b0" ∷
    "= 8" ∷
    "10 RegPrim c1 g0 w0 p1@1{10,25,27} a0 v1/0{10,25,27}{10} y- r[] o[] x{} b0" ∷
    "= 9" ∷
    "25 RegPrim c1 g0 w0 p1@1{10,25,27} a0 v1/0{10,25,27}{25} y- r[] o[] x{} b0" ∷
    "= 10" ∷
    "27 RegPrim c1 g0 w0 p1@1{10,25,27} a0 v1/0{10,25,27}{27} y- r[] o[] x{} b0" ∷
    "= 12" ∷
    "made 27:1 inc \"k1\" 10" ∷
    "27 RegPrim c1 g0 w0 p1@1{10,25,27} a0 v1/0{10,25,27}{27} y- r[] o[27:1] x{} b0" ∷
    "= 13" ∷
    "made 10:1 ? get \"b\"" ∷
    "10 RegPrim c1 g0 w0 p1@1{10,25,27} a0 v1/0{10,25,27}{10} y- r[] o[10:1] x{} b0" ∷
    "= 14" ∷
    "made 27:2 put \"y\" 96" ∷
    "27 RegPrim c1 g0 w0 p1@1{10,25,27} a0 v1/0{10,25,27}{27} y- r[] o[27:1,27:2] x{} b0" ∷
    "= 15" ∷
    "made 27:3 cas \"x\" absent 9223372036854775806; inc \"y\" -2; del \"x\"; inc \"a\" -3 ? get \"a\"" ∷
    "27 RegPrim c1 g0 w0 p1@1{10,25,27} a0 v1/0{10,25,27}{27} y- r[] o[27:1,27:2,27:3] x{} b0" ∷
    "= 16" ∷
    "10 TransPrim t1 g0 w0 p1@1{10,25,27} a0 v1/0{10,25,27}{10} y- r[] o[10:1] x{} b0" ∷
    "25 TransPrim t1 g0 w0 p1@1{10,25,27} a0 v1/0{10,25,27}{25} y- r[] o[] x{} b0" ∷
    "27 TransPrim t1 g0 w0 p1@1{10,25,27} a0 v1/0{10,25,27}{27} y- r[] o[27:1,27:2,27:3] x{} b0" ∷
    "= 17" ∷
    "10 ExchangeStates c2 g0 w0 p1@1{10,25,27} a0 v- y![] r[10:1] o[] x{} b0" ∷
    "25 ExchangeStates c2 g0 w0 p1@1{10,25,27} a0 v- y![] r[] o[] x{} b0" ∷
    "27 ExchangeStates c2 g0 w0 p1@1{10,25,27} a0 v- y![] r[27:1,27:2,27:3] o[] x{} b0" ∷
    "= 19" ∷
    "10 ExchangeActions c2 g0 w0 p1@1{10,25,27} a0 v- y![] r[10:1] o[] x{} b0" ∷
    "= 20" ∷
    "25 ExchangeActions c2 g0 w0 p1@1{10,25,27} a0 v- y![] r[] o[] x{} b0" ∷
    "= 21" ∷
    "27 ExchangeActions c2 g0 w0 p1@1{10,25,27} a0 v- y![] r[27:1,27:2,27:3] o[] x{} b0" ∷
    "= 24" ∷
    "25 ExchangeActions c2 g0 w0 p1@1{10,25,27} a0 v- y![] r[10:1] o[] x{} b0" ∷
    "= 25" ∷
    "27 ExchangeActions c2 g0 w0 p1@1{10,25,27} a0 v- y![] r[10:1,27:1,27:2,27:3] o[] x{} b0" ∷
    "= 26" ∷
    "27 ExchangeActions c2 g0 w0 p1@1{10,25,27} a0 v- y![] r[10:1,27:1,27:2,27:3] o[] x{} b1" ∷
    "= 28" ∷
    "25 ExchangeActions c2 g0 w0 p1@1{10,25,27} a0 v- y![] r[10:1] o[] x{} b1" ∷
    "= 30" ∷
    "10 NonPrim t2 g0 w0 p1@1{10,25,27} a0 v- y![] r[10:1] o[] x{} b0" ∷
    "25 NonPrim t2 g0 w0 p1@1{10,25,27} a0 v- y![] r[10:1] o[] x{} b1" ∷
    "27 NonPrim t2 g0 w0 p1@1{10,25,27} a0 v- y![] r[10:1,27:1,27:2,27:3] o[] x{} b1" ∷
    "= 31" ∷
    "10 ExchangeStates c3 g0 w0 p1@1{10,25,27} a0 v- y![] r[10:1] o[] x{} b0" ∷
    "25 ExchangeStates c3 g0 w0 p1@1{10,25,27} a0 v- y![] r[10:1] o[] x{} b1" ∷
    "27 ExchangeStates c3 g0 w0 p1@1{10,25,27} a0 v- y![] r[10:1,27:1,27:2,27:3] o[] x{} b1" ∷
    "= 33" ∷
    "10 ExchangeActions c3 g0 w0 p1@1{10,25,27} a0 v- y![] r[10:1] o[] x{} b0" ∷
    "= 34" ∷
    "25 ExchangeActions c3 g0 w0 p1@1{10,25,27} a0 v- y![] r[10:1] o[] x{} b1" ∷
    "= 35" ∷
    "27 ExchangeActions c3 g0 w0 p1@1{10,25,27} a0 v- y![] r[10:1,27:1,27:2,27:3] o[] x{} b1" ∷
    "= 37" ∷
    "10 Construct c3 g0 w0 p1@1{10,25,27} a1 v3/1{10,25,27}{10} y![] r[10:1,27:1,27:2,27:3] o[] x{} b0" ∷
    "= 38" ∷
    "25 Construct c3 g0 w0 p1@1{10,25,27} a1 v3/1{10,25,27}{25} y![] r[10:1,27:1,27:2,27:3] o[] x{} b1" ∷
    "= 39" ∷
    "27 Construct c3 g0 w0 p1@1{10,25,27} a1 v3/1{10,25,27}{27} y![] r[10:1,27:1,27:2,27:3] o[] x{} b1" ∷
    "= 40" ∷
    "10 No t3 g0 w0 p1@1{10,25,27} a1 v3/1{10,25,27}{10} y![] r[10:1,27:1,27:2,27:3] o[] x{} b0" ∷
    "25 No t3 g0 w0 p1@1{10,25,27} a1 v3/1{10,25,27}{25} y![] r[10:1,27:1,27:2,27:3] o[] x{} b1" ∷
    "27 No t3 g0 w0 p1@1{10,25,27} a1 v3/1{10,25,27}{27} y![] r[10:1,27:1,27:2,27:3] o[] x{} b1" ∷
    "= 41" ∷
    "10 ExchangeStates c4 g0 w0 p1@1{10,25,27} a1 v- y![] r[10:1,27:1,27:2,27:3] o[] x{} b0" ∷
    "25 ExchangeStates c4 g0 w0 p1@1{10,25,27} a1 v- y![] r[10:1,27:1,27:2,27:3] o[] x{} b1" ∷
    "27 ExchangeStates c4 g0 w0 p1@1{10,25,27} a1 v- y![] r[10:1,27:1,27:2,27:3] o[] x{} b1" ∷
    "refused 20 12 10" ∷
    [])
unfolding cases_compute
generated_relaxed_refused_a = refl

-- Relaxed: registers are written; sums are read.
generated_relaxed_register_sum_a :
    put_by "relaxed" (
    "start 1" ∷
    "merge 1" ∷
    "rounds 3" ∷
    "leave 1 1" ∷
    "leave 1 1" ∷
    "request 1 del \"abc\"; inc \"b\" 4; put \"b\" 80 ? get \"ab\"" ∷
    "show order" ∷
    "relaxed 1 \"a\"" ∷
    "rounds 3" ∷
    "rounds 1" ∷
    "rounds 3" ∷
    "relaxed 1 \"a\"" ∷
    "rounds 3" ∷
    "leave 1 1" ∷
    "joined 1 1 \"a\"" ∷
    "order 1" ∷
    "split 1" ∷
    "merge 1" ∷
    "rounds 3" ∷
    "gather" ∷
    "split 1" ∷
    "gather" ∷
    "relaxed 1 \"y\"" ∷
    "joined 1 1 \"x\"" ∷
    "relaxed 1 \"b\"" ∷
    "gather" ∷
    "rounds 1" ∷
    "joined 1 1 \"z\"" ∷
    "rounds 3" ∷
    "gather" ∷
    "gather" ∷
    "joined 1 1 \"k1\"" ∷
    "relaxed 1 \"x\"" ∷
    "rounds 1" ∷
    "joined 1 1 \"k1\"" ∷
    "joined 1 1 \"a\"" ∷
    "rounds 3" ∷
    "rounds 1" ∷
    "rounds 3" ∷
    "gather" ∷
    "gather" ∷
    "gather" ∷
    "joined 1 1 \"z\"" ∷
    "gather" ∷
    "fail 1 2" ∷
    "end" ∷
    [])
    ≡ written (
    "= 1" ∷
    "1 NonPrim - g0 w0 p0@0{1} a0 v- y- r[] o[] x{} b0" ∷
    "= 2" ∷
    "1 ExchangeStates c1 g0 w0 p0@0{1} a0 v- y- r[] o[] x{} b0" ∷
    "= 4" ∷
    "1 Construct c1 g0 w0 p0@0{1} a1 v1/0{1}{1} y- r[] o[] x{} b0" ∷
    "= 6" ∷
    "1 RegPrim c1 g0 w0 p1@1{1} a0 v1/0{1}{1} y- r[] o[] x{} b0" ∷
    "= 8" ∷
    "made 1:1 leave 1" ∷
    "1 RegPrim c1 g0 w0 p1@1{1} a0 v1/0{1}{1} y- r[] o[1:1] x{} b0" ∷
    "= 9" ∷
    "made 1:2 leave 1" ∷
    "1 RegPrim c1 g0 w0 p1@1{1} a0 v1/0{1}{1} y- r[] o[1:1,1:2] x{} b0" ∷
    "= 10" ∷
    "made 1:3 del \"abc\"; inc \"b\" 4; put \"b\" 80 ? get \"ab\"" ∷
    "1 RegPrim c1 g0 w0 p1@1{1} a0 v1/0{1}{1} y- r[] o[1:1,1:2,1:3] x{} b0" ∷
    "= 11" ∷
    "all []" ∷
    "= 12" ∷
    "relaxed 1 absent 0" ∷
    "= 14" ∷
    "order 1 1:1" ∷
    "order 2 1:2" ∷
    "order 3 1:3" ∷
    "1 RegPrim c1 g3 w0 p1@1{1} a0 v1/0{1}{1} y- r[] o[] x{1} b0" ∷
    "reply 1:1 done" ∷
    "reply 1:2 done" ∷
    "reply 1:3 done ? absent" ∷
    "= 21" ∷
    "relaxed 1 absent 0" ∷
    "= 25" ∷
    "made 1:4 leave 1" ∷
    "1 RegPrim c1 g3 w0 p1@1{1} a0 v1/0{1}{1} y- r[] o[1:4] x{1} b0" ∷
    "= 26" ∷
    "joined 1 1 absent 0" ∷
    "= 28" ∷
    "1 TransPrim t1 g3 w0 p1@1{1} a0 v1/0{1}{1} y?[1:4] r[] o[] x{1} b0" ∷
    "= 29" ∷
    "1 ExchangeStates c2 g3 w0 p1@1{1} a0 v- y![1:4] r[] o[] x{1} b0" ∷
    "= 31" ∷
    "1 Left c2 g3 w0 p1@1{1} a0 v- y![1:4] r[] o[] x{1} b0" ∷
    "= 35" ∷
    "1 Left t2 g3 w0 p1@1{1} a0 v- y![1:4] r[] o[] x{1} b0" ∷
    "= 37" ∷
    "relaxed 1 absent 0" ∷
    "= 38" ∷
    "joined 1 1 absent 0" ∷
    "= 39" ∷
    "relaxed 1 80 4" ∷
    "= 42" ∷
    "joined 1 1 absent 0" ∷
    "= 48" ∷
    "joined 1 1 absent 0" ∷
    "= 49" ∷
    "relaxed 1 absent 0" ∷
    "= 51" ∷
    "joined 1 1 absent 0" ∷
    "= 52" ∷
    "joined 1 1 absent 0" ∷
    "= 63" ∷
    "joined 1 1 absent 0" ∷
    "refused 45 14 1" ∷
    [])
unfolding cases_compute
generated_relaxed_register_sum_a = refl

-- Relaxed: servers have weights.
generated_relaxed_weights_a :
    put_by "relaxed" (
    "start 1*3 2*2 3 4" ∷
    "merge 1 2 3 4" ∷
    "split 3 4" ∷
    "split 1 2" ∷
    "merge 1 2" ∷
    "merge 3 4" ∷
    "split 2" ∷
    "split 1" ∷
    "split 3 4" ∷
    "merge 1 2 3 4" ∷
    "gather" ∷
    "gather" ∷
    "gather" ∷
    "split 2" ∷
    "split 1 3 4" ∷
    "merge 1 3 4" ∷
    "merge 2" ∷
    "relaxed 1 \"b\"" ∷
    "split 1 4" ∷
    "split 3" ∷
    "split 2" ∷
    "merge 1 2 3 4" ∷
    "rounds 2" ∷
    "rounds 3" ∷
    "relaxed 4 \"z\"" ∷
    "joined 1 1 \"z\"" ∷
    "request 1 inc \"b\" 1" ∷
    "request 1 put \"b\" 69; need \"a\" 52; move \"a\" \"a\" 1" ∷
    "gather" ∷
    "merge 2 3 4 14" ∷
    "end" ∷
    [])
    ≡ written (
    "= 1" ∷
    "1 NonPrim - g0 w0 p0@0{1*3,2*2,3,4} a0 v- y- r[] o[] x{} b0" ∷
    "2 NonPrim - g0 w0 p0@0{1*3,2*2,3,4} a0 v- y- r[] o[] x{} b0" ∷
    "3 NonPrim - g0 w0 p0@0{1*3,2*2,3,4} a0 v- y- r[] o[] x{} b0" ∷
    "4 NonPrim - g0 w0 p0@0{1*3,2*2,3,4} a0 v- y- r[] o[] x{} b0" ∷
    "= 2" ∷
    "1 ExchangeStates c1 g0 w0 p0@0{1*3,2*2,3,4} a0 v- y- r[] o[] x{} b0" ∷
    "2 ExchangeStates c1 g0 w0 p0@0{1*3,2*2,3,4} a0 v- y- r[] o[] x{} b0" ∷
    "3 ExchangeStates c1 g0 w0 p0@0{1*3,2*2,3,4} a0 v- y- r[] o[] x{} b0" ∷
    "4 ExchangeStates c1 g0 w0 p0@0{1*3,2*2,3,4} a0 v- y- r[] o[] x{} b0" ∷
    "= 3" ∷
    "3 NonPrim t1 g0 w0 p0@0{1*3,2*2,3,4} a0 v- y- r[] o[] x{} b0" ∷
    "4 NonPrim t1 g0 w0 p0@0{1*3,2*2,3,4} a0 v- y- r[] o[] x{} b0" ∷
    "= 4" ∷
    "1 NonPrim t1 g0 w0 p0@0{1*3,2*2,3,4} a0 v- y- r[] o[] x{} b0" ∷
    "2 NonPrim t1 g0 w0 p0@0{1*3,2*2,3,4} a0 v- y- r[] o[] x{} b0" ∷
    "= 5" ∷
    "1 ExchangeStates c2 g0 w0 p0@0{1*3,2*2,3,4} a0 v- y- r[] o[] x{} b0" ∷
    "2 ExchangeStates c2 g0 w0 p0@0{1*3,2*2,3,4} a0 v- y- r[] o[] x{} b0" ∷
    "= 6" ∷
    "3 ExchangeStates c3 g0 w0 p0@0{1*3,2*2,3,4} a0 v- y- r[] o[] x{} b0" ∷
    "4 ExchangeStates c3 g0 w0 p0@0{1*3,2*2,3,4} a0 v- y- r[] o[] x{} b0" ∷
    "= 7" ∷
    "2 NonPrim t2 g0 w0 p0@0{1*3,2*2,3,4} a0 v- y- r[] o[] x{} b0" ∷
    "= 8" ∷
    "1 NonPrim t2 g0 w0 p0@0{1*3,2*2,3,4} a0 v- y- r[] o[] x{} b0" ∷
    "= 9" ∷
    "3 NonPrim t3 g0 w0 p0@0{1*3,2*2,3,4} a0 v- y- r[] o[] x{} b0" ∷
    "4 NonPrim t3 g0 w0 p0@0{1*3,2*2,3,4} a0 v- y- r[] o[] x{} b0" ∷
    "= 10" ∷
    "1 ExchangeStates c4 g0 w0 p0@0{1*3,2*2,3,4} a0 v- y- r[] o[] x{} b0" ∷
    "2 ExchangeStates c4 g0 w0 p0@0{1*3,2*2,3,4} a0 v- y- r[] o[] x{} b0" ∷
    "3 ExchangeStates c4 g0 w0 p0@0{1*3,2*2,3,4} a0 v- y- r[] o[] x{} b0" ∷
    "4 ExchangeStates c4 g0 w0 p0@0{1*3,2*2,3,4} a0 v- y- r[] o[] x{} b0" ∷
    "= 14" ∷
    "2 NonPrim t4 g0 w0 p0@0{1*3,2*2,3,4} a0 v- y- r[] o[] x{} b0" ∷
    "= 15" ∷
    "1 NonPrim t4 g0 w0 p0@0{1*3,2*2,3,4} a0 v- y- r[] o[] x{} b0" ∷
    "3 NonPrim t4 g0 w0 p0@0{1*3,2*2,3,4} a0 v- y- r[] o[] x{} b0" ∷
    "4 NonPrim t4 g0 w0 p0@0{1*3,2*2,3,4} a0 v- y- r[] o[] x{} b0" ∷
    "= 16" ∷
    "1 ExchangeStates c5 g0 w0 p0@0{1*3,2*2,3,4} a0 v- y- r[] o[] x{} b0" ∷
    "3 ExchangeStates c5 g0 w0 p0@0{1*3,2*2,3,4} a0 v- y- r[] o[] x{} b0" ∷
    "4 ExchangeStates c5 g0 w0 p0@0{1*3,2*2,3,4} a0 v- y- r[] o[] x{} b0" ∷
    "= 17" ∷
    "2 ExchangeStates c6 g0 w0 p0@0{1*3,2*2,3,4} a0 v- y- r[] o[] x{} b0" ∷
    "= 18" ∷
    "relaxed 1 absent 0" ∷
    "= 19" ∷
    "1 NonPrim t5 g0 w0 p0@0{1*3,2*2,3,4} a0 v- y- r[] o[] x{} b0" ∷
    "4 NonPrim t5 g0 w0 p0@0{1*3,2*2,3,4} a0 v- y- r[] o[] x{} b0" ∷
    "= 20" ∷
    "3 NonPrim t5 g0 w0 p0@0{1*3,2*2,3,4} a0 v- y- r[] o[] x{} b0" ∷
    "= 21" ∷
    "2 NonPrim t6 g0 w0 p0@0{1*3,2*2,3,4} a0 v- y- r[] o[] x{} b0" ∷
    "= 22" ∷
    "1 ExchangeStates c7 g0 w0 p0@0{1*3,2*2,3,4} a0 v- y- r[] o[] x{} b0" ∷
    "2 ExchangeStates c7 g0 w0 p0@0{1*3,2*2,3,4} a0 v- y- r[] o[] x{} b0" ∷
    "3 ExchangeStates c7 g0 w0 p0@0{1*3,2*2,3,4} a0 v- y- r[] o[] x{} b0" ∷
    "4 ExchangeStates c7 g0 w0 p0@0{1*3,2*2,3,4} a0 v- y- r[] o[] x{} b0" ∷
    "= 24" ∷
    "1 Construct c7 g0 w0 p0@0{1*3,2*2,3,4} a1 v7/0{1,2,3,4}{1} y- r[] o[] x{} b0" ∷
    "= 25" ∷
    "2 Construct c7 g0 w0 p0@0{1*3,2*2,3,4} a1 v7/0{1,2,3,4}{2} y- r[] o[] x{} b0" ∷
    "= 26" ∷
    "3 Construct c7 g0 w0 p0@0{1*3,2*2,3,4} a1 v7/0{1,2,3,4}{3} y- r[] o[] x{} b0" ∷
    "= 27" ∷
    "4 Construct c7 g0 w0 p0@0{1*3,2*2,3,4} a1 v7/0{1,2,3,4}{4} y- r[] o[] x{} b0" ∷
    "= 29" ∷
    "1 RegPrim c7 g0 w0 p1@7{1*3,2*2,3,4} a0 v7/0{1,2,3,4}{1} y- r[] o[] x{} b0" ∷
    "= 30" ∷
    "2 RegPrim c7 g0 w0 p1@7{1*3,2*2,3,4} a0 v7/0{1,2,3,4}{2} y- r[] o[] x{} b0" ∷
    "= 31" ∷
    "3 RegPrim c7 g0 w0 p1@7{1*3,2*2,3,4} a0 v7/0{1,2,3,4}{3} y- r[] o[] x{} b0" ∷
    "= 32" ∷
    "4 RegPrim c7 g0 w0 p1@7{1*3,2*2,3,4} a0 v7/0{1,2,3,4}{4} y- r[] o[] x{} b0" ∷
    "= 36" ∷
    "relaxed 4 absent 0" ∷
    "= 37" ∷
    "joined 1 1 absent 0" ∷
    "= 38" ∷
    "made 1:1 inc \"b\" 1" ∷
    "1 RegPrim c7 g0 w0 p1@7{1*3,2*2,3,4} a0 v7/0{1,2,3,4}{1} y- r[] o[1:1] x{} b0" ∷
    "= 39" ∷
    "made 1:2 put \"b\" 69; need \"a\" 52; move \"a\" \"a\" 1" ∷
    "1 RegPrim c7 g0 w0 p1@7{1*3,2*2,3,4} a0 v7/0{1,2,3,4}{1} y- r[] o[1:1,1:2] x{} b0" ∷
    "refused 30 11 14" ∷
    [])
unfolding cases_compute
generated_relaxed_weights_a = refl

-- What an update does to the ordered database plays no part: aborted and out of range it counts.
relaxed_aborted_updates_count :
    put_by "relaxed" (
    "start 1 2 3" ∷
    "merge 1 2 3" ∷
    "rounds 2" ∷
    "request 1 put \"t\" \"text\"" ∷
    "rounds 1" ∷
    "request 2 inc \"t\" 3; put \"u\" 8" ∷
    "request 3 inc \"n\" 9223372036854775807; inc \"n\" 1; put \"m\" 2" ∷
    "rounds 1" ∷
    "weak 1 get \"u\"" ∷
    "weak 1 get \"m\"" ∷
    "relaxed 1 \"t\"" ∷
    "relaxed 1 \"u\"" ∷
    "relaxed 1 \"n\"" ∷
    "relaxed 1 \"m\"" ∷
    "end" ∷
    [])
    ≡ written (
    "= 1" ∷
    "1 NonPrim - g0 w0 p0@0{1,2,3} a0 v- y- r[] o[] x{} b0" ∷
    "2 NonPrim - g0 w0 p0@0{1,2,3} a0 v- y- r[] o[] x{} b0" ∷
    "3 NonPrim - g0 w0 p0@0{1,2,3} a0 v- y- r[] o[] x{} b0" ∷
    "= 2" ∷
    "1 ExchangeStates c1 g0 w0 p0@0{1,2,3} a0 v- y- r[] o[] x{} b0" ∷
    "2 ExchangeStates c1 g0 w0 p0@0{1,2,3} a0 v- y- r[] o[] x{} b0" ∷
    "3 ExchangeStates c1 g0 w0 p0@0{1,2,3} a0 v- y- r[] o[] x{} b0" ∷
    "= 4" ∷
    "1 Construct c1 g0 w0 p0@0{1,2,3} a1 v1/0{1,2,3}{1} y- r[] o[] x{} b0" ∷
    "= 5" ∷
    "2 Construct c1 g0 w0 p0@0{1,2,3} a1 v1/0{1,2,3}{2} y- r[] o[] x{} b0" ∷
    "= 6" ∷
    "3 Construct c1 g0 w0 p0@0{1,2,3} a1 v1/0{1,2,3}{3} y- r[] o[] x{} b0" ∷
    "= 8" ∷
    "1 RegPrim c1 g0 w0 p1@1{1,2,3} a0 v1/0{1,2,3}{1} y- r[] o[] x{} b0" ∷
    "= 9" ∷
    "2 RegPrim c1 g0 w0 p1@1{1,2,3} a0 v1/0{1,2,3}{2} y- r[] o[] x{} b0" ∷
    "= 10" ∷
    "3 RegPrim c1 g0 w0 p1@1{1,2,3} a0 v1/0{1,2,3}{3} y- r[] o[] x{} b0" ∷
    "= 11" ∷
    "made 1:1 put \"t\" \"text\"" ∷
    "1 RegPrim c1 g0 w0 p1@1{1,2,3} a0 v1/0{1,2,3}{1} y- r[] o[1:1] x{} b0" ∷
    "= 13" ∷
    "order 1 1:1" ∷
    "1 RegPrim c1 g1 w0 p1@1{1,2,3} a0 v1/0{1,2,3}{1} y- r[] o[] x{} b0" ∷
    "reply 1:1 done" ∷
    "= 14" ∷
    "2 RegPrim c1 g1 w0 p1@1{1,2,3} a0 v1/0{1,2,3}{2} y- r[] o[] x{} b0" ∷
    "= 15" ∷
    "3 RegPrim c1 g1 w0 p1@1{1,2,3} a0 v1/0{1,2,3}{3} y- r[] o[] x{} b0" ∷
    "= 16" ∷
    "made 2:1 inc \"t\" 3; put \"u\" 8" ∷
    "2 RegPrim c1 g1 w0 p1@1{1,2,3} a0 v1/0{1,2,3}{2} y- r[] o[2:1] x{} b0" ∷
    "= 17" ∷
    "made 3:1 inc \"n\" 9223372036854775807; inc \"n\" 1; put \"m\" 2" ∷
    "3 RegPrim c1 g1 w0 p1@1{1,2,3} a0 v1/0{1,2,3}{3} y- r[] o[3:1] x{} b0" ∷
    "= 19" ∷
    "order 2 2:1" ∷
    "order 3 3:1" ∷
    "1 RegPrim c1 g3 w0 p1@1{1,2,3} a0 v1/0{1,2,3}{1} y- r[] o[] x{} b0" ∷
    "= 20" ∷
    "2 RegPrim c1 g3 w0 p1@1{1,2,3} a0 v1/0{1,2,3}{2} y- r[] o[] x{} b0" ∷
    "reply 2:1 aborted 1" ∷
    "= 21" ∷
    "3 RegPrim c1 g3 w0 p1@1{1,2,3} a0 v1/0{1,2,3}{3} y- r[] o[] x{} b0" ∷
    "reply 3:1 range 2" ∷
    "= 22" ∷
    "weak 1 absent" ∷
    "= 23" ∷
    "weak 1 absent" ∷
    "= 24" ∷
    "relaxed 1 \"text\" 3" ∷
    "= 25" ∷
    "relaxed 1 8 0" ∷
    "= 26" ∷
    "relaxed 1 absent 9223372036854775808" ∷
    "= 27" ∷
    "relaxed 1 2 0" ∷
    "end 27" ∷
    [])
unfolding cases_compute
relaxed_aborted_updates_count = refl
