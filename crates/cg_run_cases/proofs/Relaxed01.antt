-- Cases of cases/ with their whole reports, which `.ci/theorems` writes down here.
use Rattle.std.specs.Prelude.{◌≡◌, [], ◌∷◌}
use mathlib.Core.Path.{refl}
use Rattle.cg_run_cases.specs.Replaying.{put_by, written}
use Rattle.cg_run_cases.specs.Computing.{cases_compute}

-- Relaxed: a replica crashes.
generated_relaxed_crash_a :
    put_by "relaxed" (
    "start 1 2 3 4 5" ∷
    "merge 1 2 3 4 5" ∷
    "rounds 2" ∷
    "request 3 put \"abc\" -1" ∷
    "request 1 inc \"a\" 12; inc \"z\" -2" ∷
    "request 2 cas \"ab\" absent 52" ∷
    "gather" ∷
    "request 2 move \"x\" \"z\" 8; need \"z\" -9223372036854775808; need \"b\" absent; put \"y\" 58 ? get \"z\"" ∷
    "joined 4 2 \"x\"" ∷
    "request 3 move \"z\" \"z\" 5" ∷
    "order 2" ∷
    "split 2 4 5" ∷
    "split 1 3" ∷
    "merge 1 3" ∷
    "merge 2 4 5" ∷
    "request 2 inc \"b\" -1" ∷
    "order 2" ∷
    "joined 3 1 \"z\"" ∷
    "stop 5 0 -" ∷
    "joined 3 1 \"a\"" ∷
    "joined 1 3 \"y\"" ∷
    "gather" ∷
    "recover 5" ∷
    "deliver 1 1" ∷
    "request 1 move \"ab\" \"ab\" 1 ? get \"b\"" ∷
    "request 3 put \"b\" \"absent\" ? get \"y\"" ∷
    "gather" ∷
    "merge 5" ∷
    "stop 1 0 07" ∷
    "recover 1" ∷
    "split 3" ∷
    "split 4" ∷
    "split 2" ∷
    "split 5" ∷
    "merge 1 2 3 4 5" ∷
    "gather" ∷
    "gather" ∷
    "gather" ∷
    "deliver 5 4" ∷
    "leave 2 5" ∷
    "end" ∷
    [])
    ≡ written (
    "= 1" ∷
    "1 NonPrim - g0 w0 p0@0{1,2,3,4,5} a0 v- y- r[] o[] x{} b0" ∷
    "2 NonPrim - g0 w0 p0@0{1,2,3,4,5} a0 v- y- r[] o[] x{} b0" ∷
    "3 NonPrim - g0 w0 p0@0{1,2,3,4,5} a0 v- y- r[] o[] x{} b0" ∷
    "4 NonPrim - g0 w0 p0@0{1,2,3,4,5} a0 v- y- r[] o[] x{} b0" ∷
    "5 NonPrim - g0 w0 p0@0{1,2,3,4,5} a0 v- y- r[] o[] x{} b0" ∷
    "= 2" ∷
    "1 ExchangeStates c1 g0 w0 p0@0{1,2,3,4,5} a0 v- y- r[] o[] x{} b0" ∷
    "2 ExchangeStates c1 g0 w0 p0@0{1,2,3,4,5} a0 v- y- r[] o[] x{} b0" ∷
    "3 ExchangeStates c1 g0 w0 p0@0{1,2,3,4,5} a0 v- y- r[] o[] x{} b0" ∷
    "4 ExchangeStates c1 g0 w0 p0@0{1,2,3,4,5} a0 v- y- r[] o[] x{} b0" ∷
    "5 ExchangeStates c1 g0 w0 p0@0{1,2,3,4,5} a0 v- y- r[] o[] x{} b0" ∷
    "= 4" ∷
    "1 Construct c1 g0 w0 p0@0{1,2,3,4,5} a1 v1/0{1,2,3,4,5}{1} y- r[] o[] x{} b0" ∷
    "= 5" ∷
    "2 Construct c1 g0 w0 p0@0{1,2,3,4,5} a1 v1/0{1,2,3,4,5}{2} y- r[] o[] x{} b0" ∷
    "= 6" ∷
    "3 Construct c1 g0 w0 p0@0{1,2,3,4,5} a1 v1/0{1,2,3,4,5}{3} y- r[] o[] x{} b0" ∷
    "= 7" ∷
    "4 Construct c1 g0 w0 p0@0{1,2,3,4,5} a1 v1/0{1,2,3,4,5}{4} y- r[] o[] x{} b0" ∷
    "= 8" ∷
    "5 Construct c1 g0 w0 p0@0{1,2,3,4,5} a1 v1/0{1,2,3,4,5}{5} y- r[] o[] x{} b0" ∷
    "= 10" ∷
    "1 RegPrim c1 g0 w0 p1@1{1,2,3,4,5} a0 v1/0{1,2,3,4,5}{1} y- r[] o[] x{} b0" ∷
    "= 11" ∷
    "2 RegPrim c1 g0 w0 p1@1{1,2,3,4,5} a0 v1/0{1,2,3,4,5}{2} y- r[] o[] x{} b0" ∷
    "= 12" ∷
    "3 RegPrim c1 g0 w0 p1@1{1,2,3,4,5} a0 v1/0{1,2,3,4,5}{3} y- r[] o[] x{} b0" ∷
    "= 13" ∷
    "4 RegPrim c1 g0 w0 p1@1{1,2,3,4,5} a0 v1/0{1,2,3,4,5}{4} y- r[] o[] x{} b0" ∷
    "= 14" ∷
    "5 RegPrim c1 g0 w0 p1@1{1,2,3,4,5} a0 v1/0{1,2,3,4,5}{5} y- r[] o[] x{} b0" ∷
    "= 15" ∷
    "made 3:1 put \"abc\" -1" ∷
    "3 RegPrim c1 g0 w0 p1@1{1,2,3,4,5} a0 v1/0{1,2,3,4,5}{3} y- r[] o[3:1] x{} b0" ∷
    "= 16" ∷
    "made 1:1 inc \"a\" 12; inc \"z\" -2" ∷
    "1 RegPrim c1 g0 w0 p1@1{1,2,3,4,5} a0 v1/0{1,2,3,4,5}{1} y- r[] o[1:1] x{} b0" ∷
    "= 17" ∷
    "made 2:1 cas \"ab\" absent 52" ∷
    "2 RegPrim c1 g0 w0 p1@1{1,2,3,4,5} a0 v1/0{1,2,3,4,5}{2} y- r[] o[2:1] x{} b0" ∷
    "= 19" ∷
    "made 2:2 move \"x\" \"z\" 8; need \"z\" -9223372036854775808; need \"b\" absent; put \"y\" 58 ? get \"z\"" ∷
    "2 RegPrim c1 g0 w0 p1@1{1,2,3,4,5} a0 v1/0{1,2,3,4,5}{2} y- r[] o[2:1,2:2] x{} b0" ∷
    "= 20" ∷
    "joined 4 2 absent 0" ∷
    "= 21" ∷
    "made 3:2 move \"z\" \"z\" 5" ∷
    "3 RegPrim c1 g0 w0 p1@1{1,2,3,4,5} a0 v1/0{1,2,3,4,5}{3} y- r[] o[3:1,3:2] x{} b0" ∷
    "= 23" ∷
    "2 TransPrim t1 g0 w0 p1@1{1,2,3,4,5} a0 v1/0{1,2,3,4,5}{2} y?[1:1,2:1,3:1,2:2] r[] o[] x{} b0" ∷
    "4 TransPrim t1 g0 w0 p1@1{1,2,3,4,5} a0 v1/0{1,2,3,4,5}{4} y?[1:1,2:1,3:1,2:2] r[] o[] x{} b0" ∷
    "5 TransPrim t1 g0 w0 p1@1{1,2,3,4,5} a0 v1/0{1,2,3,4,5}{5} y?[1:1,2:1,3:1,2:2] r[] o[] x{} b0" ∷
    "= 24" ∷
    "1 TransPrim t1 g0 w0 p1@1{1,2,3,4,5} a0 v1/0{1,2,3,4,5}{1} y?[1:1,2:1,3:1] r[] o[] x{} b0" ∷
    "3 TransPrim t1 g0 w0 p1@1{1,2,3,4,5} a0 v1/0{1,2,3,4,5}{3} y?[1:1,2:1,3:1] r[] o[3:2] x{} b0" ∷
    "= 25" ∷
    "1 ExchangeStates c2 g0 w0 p1@1{1,2,3,4,5} a0 v- y![1:1,2:1,3:1] r[] o[] x{} b0" ∷
    "3 ExchangeStates c2 g0 w0 p1@1{1,2,3,4,5} a0 v- y![1:1,2:1,3:1] r[3:2] o[] x{} b0" ∷
    "= 26" ∷
    "2 ExchangeStates c3 g0 w0 p1@1{1,2,3,4,5} a0 v- y![1:1,2:1,3:1,2:2] r[] o[] x{} b0" ∷
    "4 ExchangeStates c3 g0 w0 p1@1{1,2,3,4,5} a0 v- y![1:1,2:1,3:1,2:2] r[] o[] x{} b0" ∷
    "5 ExchangeStates c3 g0 w0 p1@1{1,2,3,4,5} a0 v- y![1:1,2:1,3:1,2:2] r[] o[] x{} b0" ∷
    "= 27" ∷
    "2 ExchangeStates c3 g0 w0 p1@1{1,2,3,4,5} a0 v- y![1:1,2:1,3:1,2:2] r[] o[] x{} b1" ∷
    "= 29" ∷
    "joined 3 1 absent -2" ∷
    "= 30" ∷
    "5 Down" ∷
    "= 31" ∷
    "joined 3 1 absent 12" ∷
    "= 32" ∷
    "joined 1 3 absent 0" ∷
    "= 34" ∷
    "5 NonPrim - g0 w0 p1@1{1,2,3,4,5} a0 v- y![1:1,2:1,3:1,2:2] r[] o[] x{} b0" ∷
    "= 36" ∷
    "1 ExchangeStates c2 g0 w0 p1@1{1,2,3,4,5} a0 v- y![1:1,2:1,3:1] r[] o[] x{} b1" ∷
    "= 37" ∷
    "3 ExchangeStates c2 g0 w0 p1@1{1,2,3,4,5} a0 v- y![1:1,2:1,3:1] r[3:2] o[] x{} b1" ∷
    "= 39" ∷
    "5 ExchangeStates c4 g0 w0 p1@1{1,2,3,4,5} a0 v- y![1:1,2:1,3:1,2:2] r[] o[] x{} b0" ∷
    "= 40" ∷
    "1 Down" ∷
    "= 41" ∷
    "1 NonPrim - g0 w0 p1@1{1,2,3,4,5} a0 v- y![1:1,2:1,3:1] r[] o[] x{} b0" ∷
    "= 42" ∷
    "3 NonPrim t2 g0 w0 p1@1{1,2,3,4,5} a0 v- y![1:1,2:1,3:1] r[3:2] o[] x{} b1" ∷
    "= 43" ∷
    "4 NonPrim t3 g0 w0 p1@1{1,2,3,4,5} a0 v- y![1:1,2:1,3:1,2:2] r[] o[] x{} b0" ∷
    "= 44" ∷
    "2 NonPrim t3 g0 w0 p1@1{1,2,3,4,5} a0 v- y![1:1,2:1,3:1,2:2] r[] o[] x{} b1" ∷
    "= 45" ∷
    "5 NonPrim t4 g0 w0 p1@1{1,2,3,4,5} a0 v- y![1:1,2:1,3:1,2:2] r[] o[] x{} b0" ∷
    "= 46" ∷
    "1 ExchangeStates c5 g0 w0 p1@1{1,2,3,4,5} a0 v- y![1:1,2:1,3:1] r[] o[] x{} b0" ∷
    "2 ExchangeStates c5 g0 w0 p1@1{1,2,3,4,5} a0 v- y![1:1,2:1,3:1,2:2] r[] o[] x{} b1" ∷
    "3 ExchangeStates c5 g0 w0 p1@1{1,2,3,4,5} a0 v- y![1:1,2:1,3:1] r[3:2] o[] x{} b1" ∷
    "4 ExchangeStates c5 g0 w0 p1@1{1,2,3,4,5} a0 v- y![1:1,2:1,3:1,2:2] r[] o[] x{} b0" ∷
    "5 ExchangeStates c5 g0 w0 p1@1{1,2,3,4,5} a0 v- y![1:1,2:1,3:1,2:2] r[] o[] x{} b0" ∷
    "= 51" ∷
    "2 ExchangeStates c5 g0 w0 p1@1{1,2,3,4,5} a0 v- y![1:1,2:1,3:1,2:2] r[] o[] x{} b2" ∷
    "end 51" ∷
    [])
unfolding cases_compute
generated_relaxed_crash_a = refl

-- Relaxed: what two know is joined.
generated_relaxed_joined_a :
    put_by "relaxed" (
    "start 8 14 16 29" ∷
    "merge 8 14 16 29" ∷
    "rounds 2" ∷
    "split 8 16" ∷
    "split 14 29" ∷
    "merge 14 29" ∷
    "merge 8 16" ∷
    "rounds 1" ∷
    "gather" ∷
    "relaxed 16 \"b\"" ∷
    "split 14" ∷
    "split 29" ∷
    "split 8 16" ∷
    "merge 8 14 16 29" ∷
    "rounds 1" ∷
    "gather" ∷
    "deliver 16 1" ∷
    "rounds 3" ∷
    "joined 16 8 \"a\"" ∷
    "request 8 put \"y\" 7; inc \"z\" 12; put \"k2\" 89" ∷
    "gather" ∷
    "request 29 move \"z\" \"x\" 7" ∷
    "rounds 3" ∷
    "relaxed 8 \"x\"" ∷
    "gather" ∷
    "gather" ∷
    "request 14 cas \"z\" absent 46; put \"b\" 21; inc \"b\" 9; inc \"abc\" 2; put \"y\" 27; del \"x\"; inc \"z\" 10; inc \"x\" 5; inc \"abc\" 3; inc \"x\" 7; put \"k2\" 1; put \"x\" -2; put \"ab\" \"back\\\\slash\"; need \"a\" \"v\"; need \"abc\" absent; inc \"y\" 12 ? get \"z\"" ∷
    "gather" ∷
    "deliver 16 1" ∷
    "split 29" ∷
    "split 8" ∷
    "merge 29" ∷
    "request 16 need \"x\" absent ? get \"z\"" ∷
    "deliver 14 1" ∷
    "stop 14 10 4347525549545932" ∷
    "rounds 3" ∷
    "rounds 3" ∷
    "stop 29 2 -" ∷
    "joined 14 8 \"z\"" ∷
    "stop 29 0 -" ∷
    "request 16 put \"b\" 68" ∷
    "gather" ∷
    "split 14 16" ∷
    "merge 8 14 16" ∷
    "merge 1 14 29" ∷
    "end" ∷
    [])
    ≡ written (
    "= 1" ∷
    "8 NonPrim - g0 w0 p0@0{8,14,16,29} a0 v- y- r[] o[] x{} b0" ∷
    "14 NonPrim - g0 w0 p0@0{8,14,16,29} a0 v- y- r[] o[] x{} b0" ∷
    "16 NonPrim - g0 w0 p0@0{8,14,16,29} a0 v- y- r[] o[] x{} b0" ∷
    "29 NonPrim - g0 w0 p0@0{8,14,16,29} a0 v- y- r[] o[] x{} b0" ∷
    "= 2" ∷
    "8 ExchangeStates c1 g0 w0 p0@0{8,14,16,29} a0 v- y- r[] o[] x{} b0" ∷
    "14 ExchangeStates c1 g0 w0 p0@0{8,14,16,29} a0 v- y- r[] o[] x{} b0" ∷
    "16 ExchangeStates c1 g0 w0 p0@0{8,14,16,29} a0 v- y- r[] o[] x{} b0" ∷
    "29 ExchangeStates c1 g0 w0 p0@0{8,14,16,29} a0 v- y- r[] o[] x{} b0" ∷
    "= 4" ∷
    "8 Construct c1 g0 w0 p0@0{8,14,16,29} a1 v1/0{8,14,16,29}{8} y- r[] o[] x{} b0" ∷
    "= 5" ∷
    "14 Construct c1 g0 w0 p0@0{8,14,16,29} a1 v1/0{8,14,16,29}{14} y- r[] o[] x{} b0" ∷
    "= 6" ∷
    "16 Construct c1 g0 w0 p0@0{8,14,16,29} a1 v1/0{8,14,16,29}{16} y- r[] o[] x{} b0" ∷
    "= 7" ∷
    "29 Construct c1 g0 w0 p0@0{8,14,16,29} a1 v1/0{8,14,16,29}{29} y- r[] o[] x{} b0" ∷
    "= 9" ∷
    "8 RegPrim c1 g0 w0 p1@1{8,14,16,29} a0 v1/0{8,14,16,29}{8} y- r[] o[] x{} b0" ∷
    "= 10" ∷
    "14 RegPrim c1 g0 w0 p1@1{8,14,16,29} a0 v1/0{8,14,16,29}{14} y- r[] o[] x{} b0" ∷
    "= 11" ∷
    "16 RegPrim c1 g0 w0 p1@1{8,14,16,29} a0 v1/0{8,14,16,29}{16} y- r[] o[] x{} b0" ∷
    "= 12" ∷
    "29 RegPrim c1 g0 w0 p1@1{8,14,16,29} a0 v1/0{8,14,16,29}{29} y- r[] o[] x{} b0" ∷
    "= 13" ∷
    "8 TransPrim t1 g0 w0 p1@1{8,14,16,29} a0 v1/0{8,14,16,29}{8} y- r[] o[] x{} b0" ∷
    "16 TransPrim t1 g0 w0 p1@1{8,14,16,29} a0 v1/0{8,14,16,29}{16} y- r[] o[] x{} b0" ∷
    "= 14" ∷
    "14 TransPrim t1 g0 w0 p1@1{8,14,16,29} a0 v1/0{8,14,16,29}{14} y- r[] o[] x{} b0" ∷
    "29 TransPrim t1 g0 w0 p1@1{8,14,16,29} a0 v1/0{8,14,16,29}{29} y- r[] o[] x{} b0" ∷
    "= 15" ∷
    "14 ExchangeStates c2 g0 w0 p1@1{8,14,16,29} a0 v- y![] r[] o[] x{} b0" ∷
    "29 ExchangeStates c2 g0 w0 p1@1{8,14,16,29} a0 v- y![] r[] o[] x{} b0" ∷
    "= 16" ∷
    "8 ExchangeStates c3 g0 w0 p1@1{8,14,16,29} a0 v- y![] r[] o[] x{} b0" ∷
    "16 ExchangeStates c3 g0 w0 p1@1{8,14,16,29} a0 v- y![] r[] o[] x{} b0" ∷
    "= 18" ∷
    "8 Construct c3 g0 w0 p1@1{8,14,16,29} a1 v3/1{8,16}{8} y![] r[] o[] x{} b0" ∷
    "= 19" ∷
    "14 NonPrim c2 g0 w0 p1@1{8,14,16,29} a0 v- y![] r[] o[] x{} b0" ∷
    "= 20" ∷
    "16 Construct c3 g0 w0 p1@1{8,14,16,29} a1 v3/1{8,16}{16} y![] r[] o[] x{} b0" ∷
    "= 21" ∷
    "29 NonPrim c2 g0 w0 p1@1{8,14,16,29} a0 v- y![] r[] o[] x{} b0" ∷
    "= 23" ∷
    "relaxed 16 absent 0" ∷
    "= 24" ∷
    "14 NonPrim t2 g0 w0 p1@1{8,14,16,29} a0 v- y![] r[] o[] x{} b0" ∷
    "= 25" ∷
    "29 NonPrim t2 g0 w0 p1@1{8,14,16,29} a0 v- y![] r[] o[] x{} b0" ∷
    "= 26" ∷
    "8 Un t3 g0 w0 p1@1{8,14,16,29} a1 v3/1{8,16}{8} y![] r[] o[] x{} b0" ∷
    "16 Un t3 g0 w0 p1@1{8,14,16,29} a1 v3/1{8,16}{16} y![] r[] o[] x{} b0" ∷
    "= 27" ∷
    "8 ExchangeStates c4 g0 w0 p1@1{8,14,16,29} a1 v3/1{8,16}{8} y![] r[] o[] x{} b0" ∷
    "14 ExchangeStates c4 g0 w0 p1@1{8,14,16,29} a0 v- y![] r[] o[] x{} b0" ∷
    "16 ExchangeStates c4 g0 w0 p1@1{8,14,16,29} a1 v3/1{8,16}{16} y![] r[] o[] x{} b0" ∷
    "29 ExchangeStates c4 g0 w0 p1@1{8,14,16,29} a0 v- y![] r[] o[] x{} b0" ∷
    "= 29" ∷
    "8 Construct c4 g0 w0 p1@1{8,14,16,29} a2 v4/1{8,14,16,29}{8} y![] r[] o[] x{} b0" ∷
    "= 30" ∷
    "14 Construct c4 g0 w0 p1@1{8,14,16,29} a2 v4/1{8,14,16,29}{14} y![] r[] o[] x{} b0" ∷
    "= 31" ∷
    "16 Construct c4 g0 w0 p1@1{8,14,16,29} a2 v4/1{8,14,16,29}{16} y![] r[] o[] x{} b0" ∷
    "= 32" ∷
    "29 Construct c4 g0 w0 p1@1{8,14,16,29} a2 v4/1{8,14,16,29}{29} y![] r[] o[] x{} b0" ∷
    "= 36" ∷
    "8 RegPrim c4 g0 w0 p2@4{8,14,16,29} a0 v4/1{8,14,16,29}{8} y- r[] o[] x{} b0" ∷
    "= 37" ∷
    "14 RegPrim c4 g0 w0 p2@4{8,14,16,29} a0 v4/1{8,14,16,29}{14} y- r[] o[] x{} b0" ∷
    "= 38" ∷
    "16 RegPrim c4 g0 w0 p2@4{8,14,16,29} a0 v4/1{8,14,16,29}{16} y- r[] o[] x{} b0" ∷
    "= 39" ∷
    "29 RegPrim c4 g0 w0 p2@4{8,14,16,29} a0 v4/1{8,14,16,29}{29} y- r[] o[] x{} b0" ∷
    "= 42" ∷
    "joined 16 8 absent 0" ∷
    "= 43" ∷
    "made 8:1 put \"y\" 7; inc \"z\" 12; put \"k2\" 89" ∷
    "8 RegPrim c4 g0 w0 p2@4{8,14,16,29} a0 v4/1{8,14,16,29}{8} y- r[] o[8:1] x{} b0" ∷
    "= 45" ∷
    "made 29:1 move \"z\" \"x\" 7" ∷
    "29 RegPrim c4 g0 w0 p2@4{8,14,16,29} a0 v4/1{8,14,16,29}{29} y- r[] o[29:1] x{} b0" ∷
    "= 47" ∷
    "order 1 8:1" ∷
    "order 2 29:1" ∷
    "8 RegPrim c4 g2 w0 p2@4{8,14,16,29} a0 v4/1{8,14,16,29}{8} y- r[] o[] x{} b0" ∷
    "reply 8:1 done" ∷
    "= 48" ∷
    "14 RegPrim c4 g2 w0 p2@4{8,14,16,29} a0 v4/1{8,14,16,29}{14} y- r[] o[] x{} b0" ∷
    "= 49" ∷
    "16 RegPrim c4 g2 w0 p2@4{8,14,16,29} a0 v4/1{8,14,16,29}{16} y- r[] o[] x{} b0" ∷
    "= 50" ∷
    "29 RegPrim c4 g2 w0 p2@4{8,14,16,29} a0 v4/1{8,14,16,29}{29} y- r[] o[] x{} b0" ∷
    "reply 29:1 done" ∷
    "= 53" ∷
    "relaxed 8 absent 0" ∷
    "= 56" ∷
    "made 14:1 cas \"z\" absent 46; put \"b\" 21; inc \"b\" 9; inc \"abc\" 2; put \"y\" 27; del \"x\"; inc \"z\" 10; inc \"x\" 5; inc \"abc\" 3; inc \"x\" 7; put \"k2\" 1; put \"x\" -2; put \"ab\" \"back\\\\slash\"; need \"a\" \"v\"; need \"abc\" absent; inc \"y\" 12 ? get \"z\"" ∷
    "14 RegPrim c4 g2 w0 p2@4{8,14,16,29} a0 v4/1{8,14,16,29}{14} y- r[] o[14:1] x{} b0" ∷
    "= 58" ∷
    "order 3 14:1" ∷
    "16 RegPrim c4 g3 w0 p2@4{8,14,16,29} a0 v4/1{8,14,16,29}{16} y- r[] o[] x{} b0" ∷
    "= 59" ∷
    "29 TransPrim t4 g2 w0 p2@4{8,14,16,29} a0 v4/1{8,14,16,29}{29} y?[14:1] r[] o[] x{} b0" ∷
    "= 60" ∷
    "8 TransPrim t4 g2 w0 p2@4{8,14,16,29} a0 v4/1{8,14,16,29}{8} y?[14:1] r[] o[] x{} b0" ∷
    "= 61" ∷
    "29 ExchangeStates c5 g2 w0 p2@4{8,14,16,29} a0 v- y![14:1] r[] o[] x{} b0" ∷
    "= 62" ∷
    "made 16:1 need \"x\" absent ? get \"z\"" ∷
    "16 RegPrim c4 g3 w0 p2@4{8,14,16,29} a0 v4/1{8,14,16,29}{16} y- r[] o[16:1] x{} b0" ∷
    "= 63" ∷
    "14 RegPrim c4 g3 w0 p2@4{8,14,16,29} a0 v4/1{8,14,16,29}{14} y- r[] o[] x{} b0" ∷
    "reply 14:1 aborted 14 ? 5" ∷
    "= 66" ∷
    "29 NonPrim c5 g2 w0 p2@4{8,14,16,29} a0 v- y![14:1] r[] o[] x{} b0" ∷
    "= 73" ∷
    "joined 14 8 absent 12" ∷
    "= 74" ∷
    "29 Down" ∷
    "= 75" ∷
    "made 16:2 put \"b\" 68" ∷
    "16 RegPrim c4 g3 w0 p2@4{8,14,16,29} a0 v4/1{8,14,16,29}{16} y- r[] o[16:1,16:2] x{} b0" ∷
    "= 77" ∷
    "14 TransPrim t4 g3 w0 p2@4{8,14,16,29} a0 v4/1{8,14,16,29}{14} y?[16:1,16:2] r[] o[] x{} b0" ∷
    "16 TransPrim t4 g3 w0 p2@4{8,14,16,29} a0 v4/1{8,14,16,29}{16} y?[16:1,16:2] r[] o[] x{} b0" ∷
    "= 78" ∷
    "8 ExchangeStates c6 g2 w0 p2@4{8,14,16,29} a0 v- y![14:1] r[] o[] x{} b0" ∷
    "14 ExchangeStates c6 g3 w0 p2@4{8,14,16,29} a0 v- y![16:1,16:2] r[] o[] x{} b0" ∷
    "16 ExchangeStates c6 g3 w0 p2@4{8,14,16,29} a0 v- y![16:1,16:2] r[] o[] x{} b0" ∷
    "refused 45 11 1" ∷
    [])
unfolding cases_compute
generated_relaxed_joined_a = refl

-- Relaxed: what two know is joined; actions are red.
generated_relaxed_joined_red_a :
    put_by "relaxed" (
    "start 1 2 3 4 5 6 7 8" ∷
    "merge 1 2 3 4 5 6 7 8" ∷
    "rounds 3" ∷
    "request 2 inc \"x\" 5 ? count" ∷
    "show 1" ∷
    "request 2 del \"a\"" ∷
    "request 4 cas \"a\" absent 32 ? get \"k2\"" ∷
    "order 4" ∷
    "receive 2 17" ∷
    "receive 1 17" ∷
    "split 4" ∷
    "split 1 2 5 6 7 8" ∷
    "merge 1 2 4 5 6 7 8" ∷
    "request 7 move \"a\" \"x\" 3" ∷
    "split 3" ∷
    "split 1 5 8" ∷
    "split 2 4 6 7" ∷
    "merge 1 2 3 4 5 6 7 8" ∷
    "rounds 3" ∷
    "show 6" ∷
    "joined 1 5 \"y\"" ∷
    "request 6 inc \"a\" -9223372036854775808 ? get \"ab\"" ∷
    "joined 1 8 \"x\"" ∷
    "split 5" ∷
    "gather" ∷
    "joined 8 3 \"z\"" ∷
    "gather" ∷
    "show order" ∷
    "rounds 3" ∷
    "end" ∷
    [])
    ≡ written (
    "= 1" ∷
    "1 NonPrim - g0 w0 p0@0{1,2,3,4,5,6,7,8} a0 v- y- r[] o[] x{} b0" ∷
    "2 NonPrim - g0 w0 p0@0{1,2,3,4,5,6,7,8} a0 v- y- r[] o[] x{} b0" ∷
    "3 NonPrim - g0 w0 p0@0{1,2,3,4,5,6,7,8} a0 v- y- r[] o[] x{} b0" ∷
    "4 NonPrim - g0 w0 p0@0{1,2,3,4,5,6,7,8} a0 v- y- r[] o[] x{} b0" ∷
    "5 NonPrim - g0 w0 p0@0{1,2,3,4,5,6,7,8} a0 v- y- r[] o[] x{} b0" ∷
    "6 NonPrim - g0 w0 p0@0{1,2,3,4,5,6,7,8} a0 v- y- r[] o[] x{} b0" ∷
    "7 NonPrim - g0 w0 p0@0{1,2,3,4,5,6,7,8} a0 v- y- r[] o[] x{} b0" ∷
    "8 NonPrim - g0 w0 p0@0{1,2,3,4,5,6,7,8} a0 v- y- r[] o[] x{} b0" ∷
    "= 2" ∷
    "1 ExchangeStates c1 g0 w0 p0@0{1,2,3,4,5,6,7,8} a0 v- y- r[] o[] x{} b0" ∷
    "2 ExchangeStates c1 g0 w0 p0@0{1,2,3,4,5,6,7,8} a0 v- y- r[] o[] x{} b0" ∷
    "3 ExchangeStates c1 g0 w0 p0@0{1,2,3,4,5,6,7,8} a0 v- y- r[] o[] x{} b0" ∷
    "4 ExchangeStates c1 g0 w0 p0@0{1,2,3,4,5,6,7,8} a0 v- y- r[] o[] x{} b0" ∷
    "5 ExchangeStates c1 g0 w0 p0@0{1,2,3,4,5,6,7,8} a0 v- y- r[] o[] x{} b0" ∷
    "6 ExchangeStates c1 g0 w0 p0@0{1,2,3,4,5,6,7,8} a0 v- y- r[] o[] x{} b0" ∷
    "7 ExchangeStates c1 g0 w0 p0@0{1,2,3,4,5,6,7,8} a0 v- y- r[] o[] x{} b0" ∷
    "8 ExchangeStates c1 g0 w0 p0@0{1,2,3,4,5,6,7,8} a0 v- y- r[] o[] x{} b0" ∷
    "= 4" ∷
    "1 Construct c1 g0 w0 p0@0{1,2,3,4,5,6,7,8} a1 v1/0{1,2,3,4,5,6,7,8}{1} y- r[] o[] x{} b0" ∷
    "= 5" ∷
    "2 Construct c1 g0 w0 p0@0{1,2,3,4,5,6,7,8} a1 v1/0{1,2,3,4,5,6,7,8}{2} y- r[] o[] x{} b0" ∷
    "= 6" ∷
    "3 Construct c1 g0 w0 p0@0{1,2,3,4,5,6,7,8} a1 v1/0{1,2,3,4,5,6,7,8}{3} y- r[] o[] x{} b0" ∷
    "= 7" ∷
    "4 Construct c1 g0 w0 p0@0{1,2,3,4,5,6,7,8} a1 v1/0{1,2,3,4,5,6,7,8}{4} y- r[] o[] x{} b0" ∷
    "= 8" ∷
    "5 Construct c1 g0 w0 p0@0{1,2,3,4,5,6,7,8} a1 v1/0{1,2,3,4,5,6,7,8}{5} y- r[] o[] x{} b0" ∷
    "= 9" ∷
    "6 Construct c1 g0 w0 p0@0{1,2,3,4,5,6,7,8} a1 v1/0{1,2,3,4,5,6,7,8}{6} y- r[] o[] x{} b0" ∷
    "= 10" ∷
    "7 Construct c1 g0 w0 p0@0{1,2,3,4,5,6,7,8} a1 v1/0{1,2,3,4,5,6,7,8}{7} y- r[] o[] x{} b0" ∷
    "= 11" ∷
    "8 Construct c1 g0 w0 p0@0{1,2,3,4,5,6,7,8} a1 v1/0{1,2,3,4,5,6,7,8}{8} y- r[] o[] x{} b0" ∷
    "= 13" ∷
    "1 RegPrim c1 g0 w0 p1@1{1,2,3,4,5,6,7,8} a0 v1/0{1,2,3,4,5,6,7,8}{1} y- r[] o[] x{} b0" ∷
    "= 14" ∷
    "2 RegPrim c1 g0 w0 p1@1{1,2,3,4,5,6,7,8} a0 v1/0{1,2,3,4,5,6,7,8}{2} y- r[] o[] x{} b0" ∷
    "= 15" ∷
    "3 RegPrim c1 g0 w0 p1@1{1,2,3,4,5,6,7,8} a0 v1/0{1,2,3,4,5,6,7,8}{3} y- r[] o[] x{} b0" ∷
    "= 16" ∷
    "4 RegPrim c1 g0 w0 p1@1{1,2,3,4,5,6,7,8} a0 v1/0{1,2,3,4,5,6,7,8}{4} y- r[] o[] x{} b0" ∷
    "= 17" ∷
    "5 RegPrim c1 g0 w0 p1@1{1,2,3,4,5,6,7,8} a0 v1/0{1,2,3,4,5,6,7,8}{5} y- r[] o[] x{} b0" ∷
    "= 18" ∷
    "6 RegPrim c1 g0 w0 p1@1{1,2,3,4,5,6,7,8} a0 v1/0{1,2,3,4,5,6,7,8}{6} y- r[] o[] x{} b0" ∷
    "= 19" ∷
    "7 RegPrim c1 g0 w0 p1@1{1,2,3,4,5,6,7,8} a0 v1/0{1,2,3,4,5,6,7,8}{7} y- r[] o[] x{} b0" ∷
    "= 20" ∷
    "8 RegPrim c1 g0 w0 p1@1{1,2,3,4,5,6,7,8} a0 v1/0{1,2,3,4,5,6,7,8}{8} y- r[] o[] x{} b0" ∷
    "= 22" ∷
    "made 2:1 inc \"x\" 5 ? count" ∷
    "2 RegPrim c1 g0 w0 p1@1{1,2,3,4,5,6,7,8} a0 v1/0{1,2,3,4,5,6,7,8}{2} y- r[] o[2:1] x{} b0" ∷
    "= 23" ∷
    "greens 1 []" ∷
    "db 1" ∷
    "= 24" ∷
    "made 2:2 del \"a\"" ∷
    "2 RegPrim c1 g0 w0 p1@1{1,2,3,4,5,6,7,8} a0 v1/0{1,2,3,4,5,6,7,8}{2} y- r[] o[2:1,2:2] x{} b0" ∷
    "= 25" ∷
    "made 4:1 cas \"a\" absent 32 ? get \"k2\"" ∷
    "4 RegPrim c1 g0 w0 p1@1{1,2,3,4,5,6,7,8} a0 v1/0{1,2,3,4,5,6,7,8}{4} y- r[] o[4:1] x{} b0" ∷
    "= 29" ∷
    "4 TransPrim t1 g0 w0 p1@1{1,2,3,4,5,6,7,8} a0 v1/0{1,2,3,4,5,6,7,8}{4} y?[4:1] r[] o[] x{} b0" ∷
    "= 30" ∷
    "1 TransPrim t1 g0 w0 p1@1{1,2,3,4,5,6,7,8} a0 v1/0{1,2,3,4,5,6,7,8}{1} y?[4:1] r[] o[] x{} b0" ∷
    "2 TransPrim t1 g0 w0 p1@1{1,2,3,4,5,6,7,8} a0 v1/0{1,2,3,4,5,6,7,8}{2} y?[4:1] r[] o[2:1,2:2] x{} b0" ∷
    "5 TransPrim t1 g0 w0 p1@1{1,2,3,4,5,6,7,8} a0 v1/0{1,2,3,4,5,6,7,8}{5} y?[4:1] r[] o[] x{} b0" ∷
    "6 TransPrim t1 g0 w0 p1@1{1,2,3,4,5,6,7,8} a0 v1/0{1,2,3,4,5,6,7,8}{6} y?[4:1] r[] o[] x{} b0" ∷
    "7 TransPrim t1 g0 w0 p1@1{1,2,3,4,5,6,7,8} a0 v1/0{1,2,3,4,5,6,7,8}{7} y?[4:1] r[] o[] x{} b0" ∷
    "8 TransPrim t1 g0 w0 p1@1{1,2,3,4,5,6,7,8} a0 v1/0{1,2,3,4,5,6,7,8}{8} y?[4:1] r[] o[] x{} b0" ∷
    "= 31" ∷
    "1 ExchangeStates c2 g0 w0 p1@1{1,2,3,4,5,6,7,8} a0 v- y![4:1] r[] o[] x{} b0" ∷
    "2 ExchangeStates c2 g0 w0 p1@1{1,2,3,4,5,6,7,8} a0 v- y![4:1] r[2:1,2:2] o[] x{} b0" ∷
    "4 ExchangeStates c2 g0 w0 p1@1{1,2,3,4,5,6,7,8} a0 v- y![4:1] r[] o[] x{} b0" ∷
    "5 ExchangeStates c2 g0 w0 p1@1{1,2,3,4,5,6,7,8} a0 v- y![4:1] r[] o[] x{} b0" ∷
    "6 ExchangeStates c2 g0 w0 p1@1{1,2,3,4,5,6,7,8} a0 v- y![4:1] r[] o[] x{} b0" ∷
    "7 ExchangeStates c2 g0 w0 p1@1{1,2,3,4,5,6,7,8} a0 v- y![4:1] r[] o[] x{} b0" ∷
    "8 ExchangeStates c2 g0 w0 p1@1{1,2,3,4,5,6,7,8} a0 v- y![4:1] r[] o[] x{} b0" ∷
    "= 32" ∷
    "7 ExchangeStates c2 g0 w0 p1@1{1,2,3,4,5,6,7,8} a0 v- y![4:1] r[] o[] x{} b1" ∷
    "= 33" ∷
    "3 TransPrim t1 g0 w0 p1@1{1,2,3,4,5,6,7,8} a0 v1/0{1,2,3,4,5,6,7,8}{3} y- r[] o[] x{} b0" ∷
    "= 34" ∷
    "1 NonPrim t2 g0 w0 p1@1{1,2,3,4,5,6,7,8} a0 v- y![4:1] r[] o[] x{} b0" ∷
    "5 NonPrim t2 g0 w0 p1@1{1,2,3,4,5,6,7,8} a0 v- y![4:1] r[] o[] x{} b0" ∷
    "8 NonPrim t2 g0 w0 p1@1{1,2,3,4,5,6,7,8} a0 v- y![4:1] r[] o[] x{} b0" ∷
    "= 35" ∷
    "2 NonPrim t2 g0 w0 p1@1{1,2,3,4,5,6,7,8} a0 v- y![4:1] r[2:1,2:2] o[] x{} b0" ∷
    "4 NonPrim t2 g0 w0 p1@1{1,2,3,4,5,6,7,8} a0 v- y![4:1] r[] o[] x{} b0" ∷
    "6 NonPrim t2 g0 w0 p1@1{1,2,3,4,5,6,7,8} a0 v- y![4:1] r[] o[] x{} b0" ∷
    "7 NonPrim t2 g0 w0 p1@1{1,2,3,4,5,6,7,8} a0 v- y![4:1] r[] o[] x{} b1" ∷
    "= 36" ∷
    "1 ExchangeStates c3 g0 w0 p1@1{1,2,3,4,5,6,7,8} a0 v- y![4:1] r[] o[] x{} b0" ∷
    "2 ExchangeStates c3 g0 w0 p1@1{1,2,3,4,5,6,7,8} a0 v- y![4:1] r[2:1,2:2] o[] x{} b0" ∷
    "3 ExchangeStates c3 g0 w0 p1@1{1,2,3,4,5,6,7,8} a0 v- y![] r[] o[] x{} b0" ∷
    "4 ExchangeStates c3 g0 w0 p1@1{1,2,3,4,5,6,7,8} a0 v- y![4:1] r[] o[] x{} b0" ∷
    "5 ExchangeStates c3 g0 w0 p1@1{1,2,3,4,5,6,7,8} a0 v- y![4:1] r[] o[] x{} b0" ∷
    "6 ExchangeStates c3 g0 w0 p1@1{1,2,3,4,5,6,7,8} a0 v- y![4:1] r[] o[] x{} b0" ∷
    "7 ExchangeStates c3 g0 w0 p1@1{1,2,3,4,5,6,7,8} a0 v- y![4:1] r[] o[] x{} b1" ∷
    "8 ExchangeStates c3 g0 w0 p1@1{1,2,3,4,5,6,7,8} a0 v- y![4:1] r[] o[] x{} b0" ∷
    "= 38" ∷
    "1 ExchangeActions c3 g0 w0 p1@1{1,2,3,4,5,6,7,8} a0 v- y![4:1] r[] o[] x{} b0" ∷
    "= 39" ∷
    "2 ExchangeActions c3 g0 w0 p1@1{1,2,3,4,5,6,7,8} a0 v- y![4:1] r[2:1,2:2] o[] x{} b0" ∷
    "= 40" ∷
    "3 ExchangeActions c3 g0 w0 p1@1{1,2,3,4,5,6,7,8} a0 v- y![] r[] o[] x{} b0" ∷
    "= 41" ∷
    "4 ExchangeActions c3 g0 w0 p1@1{1,2,3,4,5,6,7,8} a0 v- y![4:1] r[] o[] x{} b0" ∷
    "= 42" ∷
    "5 ExchangeActions c3 g0 w0 p1@1{1,2,3,4,5,6,7,8} a0 v- y![4:1] r[] o[] x{} b0" ∷
    "= 43" ∷
    "6 ExchangeActions c3 g0 w0 p1@1{1,2,3,4,5,6,7,8} a0 v- y![4:1] r[] o[] x{} b0" ∷
    "= 44" ∷
    "7 ExchangeActions c3 g0 w0 p1@1{1,2,3,4,5,6,7,8} a0 v- y![4:1] r[] o[] x{} b1" ∷
    "= 45" ∷
    "8 ExchangeActions c3 g0 w0 p1@1{1,2,3,4,5,6,7,8} a0 v- y![4:1] r[] o[] x{} b0" ∷
    "= 47" ∷
    "1 ExchangeActions c3 g0 w0 p1@1{1,2,3,4,5,6,7,8} a0 v- y![4:1] r[2:1,2:2] o[] x{} b0" ∷
    "= 49" ∷
    "3 ExchangeActions c3 g0 w0 p1@1{1,2,3,4,5,6,7,8} a0 v- y![] r[2:1,2:2] o[] x{} b0" ∷
    "= 50" ∷
    "4 ExchangeActions c3 g0 w0 p1@1{1,2,3,4,5,6,7,8} a0 v- y![4:1] r[2:1,2:2] o[] x{} b0" ∷
    "= 51" ∷
    "5 ExchangeActions c3 g0 w0 p1@1{1,2,3,4,5,6,7,8} a0 v- y![4:1] r[2:1,2:2] o[] x{} b0" ∷
    "= 52" ∷
    "6 ExchangeActions c3 g0 w0 p1@1{1,2,3,4,5,6,7,8} a0 v- y![4:1] r[2:1,2:2] o[] x{} b0" ∷
    "= 53" ∷
    "7 ExchangeActions c3 g0 w0 p1@1{1,2,3,4,5,6,7,8} a0 v- y![4:1] r[2:1,2:2] o[] x{} b1" ∷
    "= 54" ∷
    "8 ExchangeActions c3 g0 w0 p1@1{1,2,3,4,5,6,7,8} a0 v- y![4:1] r[2:1,2:2] o[] x{} b0" ∷
    "= 56" ∷
    "1 Construct c3 g0 w0 p1@1{1,2,3,4,5,6,7,8} a1 v3/1{1,2,3,4,5,6,7,8}{1} y![] r[2:1,2:2,4:1] o[] x{} b0" ∷
    "= 57" ∷
    "2 Construct c3 g0 w0 p1@1{1,2,3,4,5,6,7,8} a1 v3/1{1,2,3,4,5,6,7,8}{2} y![] r[2:1,2:2,4:1] o[] x{} b0" ∷
    "= 58" ∷
    "3 Construct c3 g0 w0 p1@1{1,2,3,4,5,6,7,8} a1 v3/1{1,2,3,4,5,6,7,8}{3} y![] r[2:1,2:2,4:1] o[] x{} b0" ∷
    "= 59" ∷
    "4 Construct c3 g0 w0 p1@1{1,2,3,4,5,6,7,8} a1 v3/1{1,2,3,4,5,6,7,8}{4} y![] r[2:1,2:2,4:1] o[] x{} b0" ∷
    "= 60" ∷
    "5 Construct c3 g0 w0 p1@1{1,2,3,4,5,6,7,8} a1 v3/1{1,2,3,4,5,6,7,8}{5} y![] r[2:1,2:2,4:1] o[] x{} b0" ∷
    "= 61" ∷
    "6 Construct c3 g0 w0 p1@1{1,2,3,4,5,6,7,8} a1 v3/1{1,2,3,4,5,6,7,8}{6} y![] r[2:1,2:2,4:1] o[] x{} b0" ∷
    "= 62" ∷
    "7 Construct c3 g0 w0 p1@1{1,2,3,4,5,6,7,8} a1 v3/1{1,2,3,4,5,6,7,8}{7} y![] r[2:1,2:2,4:1] o[] x{} b1" ∷
    "= 63" ∷
    "8 Construct c3 g0 w0 p1@1{1,2,3,4,5,6,7,8} a1 v3/1{1,2,3,4,5,6,7,8}{8} y![] r[2:1,2:2,4:1] o[] x{} b0" ∷
    "= 64" ∷
    "greens 6 []" ∷
    "db 6" ∷
    "= 65" ∷
    "joined 1 5 absent 0" ∷
    "= 66" ∷
    "6 Construct c3 g0 w0 p1@1{1,2,3,4,5,6,7,8} a1 v3/1{1,2,3,4,5,6,7,8}{6} y![] r[2:1,2:2,4:1] o[] x{} b1" ∷
    "= 67" ∷
    "joined 1 8 absent 5" ∷
    "= 68" ∷
    "5 No t3 g0 w0 p1@1{1,2,3,4,5,6,7,8} a1 v3/1{1,2,3,4,5,6,7,8}{5} y![] r[2:1,2:2,4:1] o[] x{} b0" ∷
    "= 70" ∷
    "joined 8 3 absent 0" ∷
    "= 72" ∷
    "all []" ∷
    "end 75" ∷
    [])
unfolding cases_compute
generated_relaxed_joined_red_a = refl

-- Relaxed: a server joins.
generated_relaxed_joiner_a :
    put_by "relaxed" (
    "start 1" ∷
    "merge 1" ∷
    "rounds 3" ∷
    "joined 1 1 \"a\"" ∷
    "join 1 2" ∷
    "rounds 1" ∷
    "transfer 1 2 1" ∷
    "rounds 3" ∷
    "request 1 inc \"z\" 5 ? get \"k1\"" ∷
    "transfer 1 2 5" ∷
    "rounds 3" ∷
    "split 1" ∷
    "merge 1 2" ∷
    "gather" ∷
    "gather" ∷
    "gather" ∷
    "relaxed 1 \"ab\"" ∷
    "rounds 2" ∷
    "gather" ∷
    "relaxed 2 \"b\"" ∷
    "deliver 1 1" ∷
    "leave 1 2" ∷
    "joined 1 1 \"z\"" ∷
    "request 2 del \"y\" ? get \"x\"" ∷
    "request 1 inc \"x\" 0" ∷
    "leave 2 1" ∷
    "deliver 2 1" ∷
    "relaxed 2 \"k1\"" ∷
    "gather" ∷
    "request 2 move \"y\" \"y\" 1 ? get \"z\"" ∷
    "request 1 inc \"x\" -3" ∷
    "show order" ∷
    "leave 2 2" ∷
    "split 1" ∷
    "leave 1 2" ∷
    "joined 2 2 \"k1\"" ∷
    "deliver 2 1" ∷
    "split 2" ∷
    "merge 1 2" ∷
    "rounds 4" ∷
    "rounds 3" ∷
    "stop 1 3 ff" ∷
    "rounds 1" ∷
    "leave 1 1" ∷
    "end" ∷
    [])
    ≡ written (
    "= 1" ∷
    "1 NonPrim - g0 w0 p0@0{1} a0 v- y- r[] o[] x{} b0" ∷
    "= 2" ∷
    "1 ExchangeStates c1 g0 w0 p0@0{1} a0 v- y- r[] o[] x{} b0" ∷
    "= 4" ∷
    "1 Construct c1 g0 w0 p0@0{1} a1 v1/0{1}{1} y- r[] o[] x{} b0" ∷
    "= 6" ∷
    "1 RegPrim c1 g0 w0 p1@1{1} a0 v1/0{1}{1} y- r[] o[] x{} b0" ∷
    "= 8" ∷
    "joined 1 1 absent 0" ∷
    "= 9" ∷
    "made 1:1 join 2" ∷
    "1 RegPrim c1 g0 w0 p1@1{1} a0 v1/0{1}{1} y- r[] o[1:1] x{} b0" ∷
    "= 11" ∷
    "order 1 1:1" ∷
    "1 RegPrim c1 g1 w0 p1@1{1} a0 v1/0{1}{1} y- r[] o[] x{} b0" ∷
    "reply 1:1 done" ∷
    "= 12" ∷
    "pieces 2 1/3" ∷
    "= 16" ∷
    "made 1:2 inc \"z\" 5 ? get \"k1\"" ∷
    "1 RegPrim c1 g1 w0 p1@1{1} a0 v1/0{1}{1} y- r[] o[1:2] x{} b0" ∷
    "= 17" ∷
    "2 NonPrim - g1 w0 p1@1{1} a0 v- y- r[] o[] x{} b0" ∷
    "pieces 2 3/3" ∷
    "= 19" ∷
    "order 2 1:2" ∷
    "1 RegPrim c1 g2 w1 p1@1{1} a0 v1/0{1}{1} y- r[] o[] x{} b0" ∷
    "reply 1:2 done ? absent" ∷
    "= 22" ∷
    "1 TransPrim t1 g2 w1 p1@1{1} a0 v1/0{1}{1} y- r[] o[] x{} b0" ∷
    "= 23" ∷
    "1 ExchangeStates c2 g2 w1 p1@1{1} a0 v- y![] r[] o[] x{} b0" ∷
    "2 ExchangeStates c2 g1 w0 p1@1{1} a0 v- y- r[] o[] x{} b0" ∷
    "= 27" ∷
    "relaxed 1 absent 0" ∷
    "= 29" ∷
    "1 ExchangeActions c2 g2 w1 p1@1{1} a0 v- y![] r[] o[] x{} b0" ∷
    "= 30" ∷
    "2 ExchangeActions c2 g1 w0 p1@1{1} a0 v- y- r[] o[] x{} b0" ∷
    "= 32" ∷
    "1 Construct c2 g2 w1 p1@1{1} a1 v2/1{1,2}{1} y![] r[] o[] x{} b0" ∷
    "= 33" ∷
    "2 Construct c2 g2 w1 p1@1{1} a1 v2/1{1,2}{2} y![] r[] o[] x{} b0" ∷
    "= 35" ∷
    "relaxed 2 absent 0" ∷
    "= 37" ∷
    "1 Construct c2 g2 w1 p1@1{1} a1 v2/1{1,2}{1} y![] r[] o[] x{} b1" ∷
    "= 38" ∷
    "joined 1 1 absent 5" ∷
    "= 39" ∷
    "2 Construct c2 g2 w1 p1@1{1} a1 v2/1{1,2}{2} y![] r[] o[] x{} b1" ∷
    "= 40" ∷
    "1 Construct c2 g2 w1 p1@1{1} a1 v2/1{1,2}{1} y![] r[] o[] x{} b2" ∷
    "= 41" ∷
    "2 Construct c2 g2 w1 p1@1{1} a1 v2/1{1,2}{2} y![] r[] o[] x{} b2" ∷
    "= 43" ∷
    "relaxed 2 absent 0" ∷
    "= 45" ∷
    "2 Construct c2 g2 w1 p1@1{1} a1 v2/1{1,2}{2} y![] r[] o[] x{} b3" ∷
    "= 46" ∷
    "1 Construct c2 g2 w1 p1@1{1} a1 v2/1{1,2}{1} y![] r[] o[] x{} b3" ∷
    "= 47" ∷
    "all [1:1,1:2]" ∷
    "= 48" ∷
    "2 Construct c2 g2 w1 p1@1{1} a1 v2/1{1,2}{2} y![] r[] o[] x{} b4" ∷
    "= 49" ∷
    "1 Un t2 g2 w1 p1@1{1} a1 v2/1{1,2}{1} y![] r[] o[] x{} b3" ∷
    "= 50" ∷
    "1 Un t2 g2 w1 p1@1{1} a1 v2/1{1,2}{1} y![] r[] o[] x{} b4" ∷
    "= 51" ∷
    "joined 2 2 absent 0" ∷
    "= 52" ∷
    "made 2:1 del \"y\" ? get \"x\"" ∷
    "made 2:2 leave 1" ∷
    "made 2:3 move \"y\" \"y\" 1 ? get \"z\"" ∷
    "made 2:4 leave 2" ∷
    "2 RegPrim c2 g2 w1 p2@2{1,2} a0 v2/1{1,2}{2} y- r[] o[2:1,2:2,2:3,2:4] x{} b0" ∷
    "= 53" ∷
    "2 TransPrim t2 g2 w1 p2@2{1,2} a0 v2/1{1,2}{2} y- r[] o[2:1,2:2,2:3,2:4] x{} b0" ∷
    "= 54" ∷
    "1 ExchangeStates c3 g2 w1 p1@1{1} a1 v2/1{1,2}{1} y![] r[] o[] x{} b4" ∷
    "2 ExchangeStates c3 g2 w1 p2@2{1,2} a0 v- y![] r[2:1,2:2,2:3,2:4] o[] x{} b0" ∷
    "= 56" ∷
    "1 ExchangeActions c3 g2 w1 p1@1{1} a1 v2/1{1,2}{1} y![] r[] o[] x{} b4" ∷
    "= 57" ∷
    "2 ExchangeActions c3 g2 w1 p2@2{1,2} a0 v- y![] r[2:1,2:2,2:3,2:4] o[] x{} b0" ∷
    "= 59" ∷
    "1 Construct c3 g2 w1 p2@2{1,2} a1 v3/2{1,2}{1} y![] r[2:1,2:2,2:3,2:4] o[] x{} b4" ∷
    "= 60" ∷
    "2 Construct c3 g2 w1 p2@2{1,2} a1 v3/2{1,2}{2} y![] r[2:1,2:2,2:3,2:4] o[] x{} b0" ∷
    "= 62" ∷
    "made 1:3 leave 2" ∷
    "made 1:4 inc \"x\" 0" ∷
    "made 1:5 inc \"x\" -3" ∷
    "made 1:6 leave 2" ∷
    "order 3 2:1" ∷
    "order 4 2:2" ∷
    "order 5 2:3" ∷
    "order 6 2:4" ∷
    "1 RegPrim c3 g6 w1 p3@3{1,2} a0 v3/2{1,2}{1} y- r[] o[1:3,1:4,1:5,1:6] x{1,2} b0" ∷
    "= 63" ∷
    "2 RegPrim c3 g6 w1 p3@3{1,2} a0 v3/2{1,2}{2} y- r[] o[] x{1,2} b0" ∷
    "reply 2:1 done ? absent" ∷
    "reply 2:2 done" ∷
    "reply 2:3 aborted 1 ? 5" ∷
    "reply 2:4 done" ∷
    "= 65" ∷
    "order 7 1:3" ∷
    "order 8 1:4" ∷
    "order 9 1:5" ∷
    "order 10 1:6" ∷
    "1 RegPrim c3 g10 w1 p3@3{1,2} a0 v3/2{1,2}{1} y- r[] o[] x{1,2} b0" ∷
    "reply 1:3 done" ∷
    "reply 1:4 done" ∷
    "reply 1:5 done" ∷
    "reply 1:6 done" ∷
    "= 66" ∷
    "2 RegPrim c3 g10 w1 p3@3{1,2} a0 v3/2{1,2}{2} y- r[] o[] x{1,2} b0" ∷
    "= 72" ∷
    "1 Down" ∷
    "end 72" ∷
    [])
unfolding cases_compute
generated_relaxed_joiner_a = refl
