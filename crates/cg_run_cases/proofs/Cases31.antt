-- Cases of cases/ with their whole reports, which `.ci/theorems` writes down here.
use Rattle.std.specs.Prelude.{◌≡◌, [], ◌∷◌}
use mathlib.Core.Path.{refl}
use Rattle.cg_run_cases.specs.Replaying.{replayed_text, written}
use Rattle.cg_run_cases.specs.Computing.{cases_compute}

-- Replicas at the start: 3: a primary is lost in a partition, and after a merge red actions are ordered; a crash strikes inside a device call.
three_replicas_primary_lost_and_reds_ordered_crash_in_a_device_call_d :
    replayed_text (
    "start 1 2 3" ∷
    "merge 1 2 3" ∷
    "rounds 2" ∷
    "gather" ∷
    "gather" ∷
    "show order" ∷
    "stop 2 5 00a900" ∷
    "gather" ∷
    "split 1 2 3" ∷
    "merge 1 2 3" ∷
    "gather" ∷
    "gather" ∷
    "deliver 3 3" ∷
    "deliver 2 3" ∷
    "deliver 1 2" ∷
    "order 3" ∷
    "request 1 put \"x\" \"TTTTTTTTTTTTTTTTTTTTTTTTTTTTTTTTTTTTTTTTTTTTTTTTTTTTTTTTTTTTTTTTTTTTTTTTTTTTTTTTTTTTTTTTTTTTTTTTTTTTTTTTTTTTTTTTTTTTTTTTTTTTTTTTTTTTTTTTTTTTTTTTTTTTTTTTTTTTTTTTTTTTTTTTTTTTTTTTTTTTTTTTTTTTTTTTTTTTTTTTTTTTTTTTTTTTTTTTTTTTTTTTTTTTTTTTTTTTTTTTTTTTTTTTTTTTTTTTTTTTTTTTTTTTTTTTTTTTTTTTTTTTTTTTTTTTTTTTTTTTTTTTTTTTTTTTTTTTTTTTTTTTTTTTTTTTTTTTTTTTTTTTTTTTTTTTTTTTTTTTTTTTTTTTTTTTTTTTTTTTTTTTTTTTTTTTTTTTTTTTTTTTTTTTTTTTTTTTTTTTTTTTTTTTTTTTTTTTTTTTTTTTTTTTTTTTTTTTTTTTTTTTTTTTTTTTTTTTTTTTTTTTTTTTTTTTTTTTTTTTTTTTTTTTTTTTTTTTTTTTTTTTTTTTTTTTTTTTTTTTTTTTTTTTTTTTTTTTTTTTTTTTTTTTTTTTTTTTTTTTTTTTTTTTTTTTTTTTTTTTTTTTTTTTTTTTTTTTTTTTTTTTTTTTTTTTTTTTTTTTTTTTTTTTTTTTTTTTTTTTTTTTTTTTTTTTTTTTTTTTTTTTTTTTTTTTTTTTTTTTTTTTTTTTTTTTTTTTTTTTTTTTTTTTTTTTTTTTTTTTTTTTTTTTTTTTTTTTTTTTTTTTTTTTTTTTTTTTTTTTTTTTTTTTTTTTTTTTTTTTTTTTTTTTTTTTTTTTTTTTTTTTTTTTTTTTTTTTTTTTTTTTTTTTTTTTTTTTTTTTTTTTTTTTTTTTTTTTTTTTTTTTTTTTTTTTTTTTTTTTTTTTTTTTTTTTTTTTTTTTTTTTTTTTTTTTTTTTTTTTTTTTTTTTTTTTTTTTTTTTTTTTTTTTTTTTTTTTTTTTTTTTTTTTTTTTTTTTTTTTTTTTTTTTTTTTTTTTTTTTTTTT\" ? get \"y\"" ∷
    "rounds 2" ∷
    "recover 2" ∷
    "split 1 3" ∷
    "merge 1 2 3" ∷
    "rounds 2" ∷
    "split 2" ∷
    "split 3" ∷
    "split 1" ∷
    "merge 2" ∷
    "merge 3" ∷
    "merge 1" ∷
    "gather" ∷
    "deliver 2 1" ∷
    "split 2" ∷
    "split 3" ∷
    "split 1" ∷
    "merge 1 2 3" ∷
    "rounds 3" ∷
    "request 2 ? count" ∷
    "split 2" ∷
    "request 3 put \"z\" 70; inc \"b\" 7; need \"y\" absent" ∷
    "request 3 move \"b\" \"b\" 5 ? get \"b\"" ∷
    "gather" ∷
    "split 1 3" ∷
    "merge 1 2 3" ∷
    "request 3 move \"b\" \"abc\" 1; cas \"x\" 69 61; del \"x\"" ∷
    "show 1" ∷
    "request 2 inc \"ab\" 2 ? get \"z\"" ∷
    "request 2 inc \"z\" 0" ∷
    "rounds 2" ∷
    "end" ∷
    [])
    ≡ written (
    "= 1" ∷
    "1 NonPrim - g0 w0 p0@0{1,2,3} a0 v- y- r[] o[] x{} b0" ∷
    "2 NonPrim - g0 w0 p0@0{1,2,3} a0 v- y- r[] o[] x{} b0" ∷
    "3 NonPrim - g0 w0 p0@0{1,2,3} a0 v- y- r[] o[] x{} b0" ∷
    "= 2" ∷
    "1 ExchangeStates c1 g0 w0 p0@0{1,2,3} a0 v- y- r[] o[] x{} b0" ∷
    "2 ExchangeStates c1 g0 w0 p0@0{1,2,3} a0 v- y- r[] o[] x{} b0" ∷
    "3 ExchangeStates c1 g0 w0 p0@0{1,2,3} a0 v- y- r[] o[] x{} b0" ∷
    "= 4" ∷
    "1 Construct c1 g0 w0 p0@0{1,2,3} a1 v1/0{1,2,3}{1} y- r[] o[] x{} b0" ∷
    "= 5" ∷
    "2 Construct c1 g0 w0 p0@0{1,2,3} a1 v1/0{1,2,3}{2} y- r[] o[] x{} b0" ∷
    "= 6" ∷
    "3 Construct c1 g0 w0 p0@0{1,2,3} a1 v1/0{1,2,3}{3} y- r[] o[] x{} b0" ∷
    "= 8" ∷
    "1 RegPrim c1 g0 w0 p1@1{1,2,3} a0 v1/0{1,2,3}{1} y- r[] o[] x{} b0" ∷
    "= 9" ∷
    "2 RegPrim c1 g0 w0 p1@1{1,2,3} a0 v1/0{1,2,3}{2} y- r[] o[] x{} b0" ∷
    "= 10" ∷
    "3 RegPrim c1 g0 w0 p1@1{1,2,3} a0 v1/0{1,2,3}{3} y- r[] o[] x{} b0" ∷
    "= 13" ∷
    "all []" ∷
    "= 16" ∷
    "1 TransPrim t1 g0 w0 p1@1{1,2,3} a0 v1/0{1,2,3}{1} y- r[] o[] x{} b0" ∷
    "2 TransPrim t1 g0 w0 p1@1{1,2,3} a0 v1/0{1,2,3}{2} y- r[] o[] x{} b0" ∷
    "3 TransPrim t1 g0 w0 p1@1{1,2,3} a0 v1/0{1,2,3}{3} y- r[] o[] x{} b0" ∷
    "= 17" ∷
    "1 ExchangeStates c2 g0 w0 p1@1{1,2,3} a0 v- y![] r[] o[] x{} b0" ∷
    "2 ExchangeStates c2 g0 w0 p1@1{1,2,3} a0 v- y![] r[] o[] x{} b0" ∷
    "3 ExchangeStates c2 g0 w0 p1@1{1,2,3} a0 v- y![] r[] o[] x{} b0" ∷
    "= 20" ∷
    "3 Construct c2 g0 w0 p1@1{1,2,3} a1 v2/1{1,2,3}{3} y![] r[] o[] x{} b0" ∷
    "= 21" ∷
    "2 Down" ∷
    "= 24" ∷
    "1 ExchangeStates c2 g0 w0 p1@1{1,2,3} a0 v- y![] r[] o[] x{} b1" ∷
    "= 26" ∷
    "1 Construct c2 g0 w0 p1@1{1,2,3} a1 v2/1{1,2,3}{1} y![] r[] o[] x{} b1" ∷
    "= 28" ∷
    "2 NonPrim - g0 w0 p1@1{1,2,3} a0 v- y![] r[] o[] x{} b0" ∷
    "= 29" ∷
    "1 No t2 g0 w0 p1@1{1,2,3} a1 v2/1{1,2,3}{1} y![] r[] o[] x{} b1" ∷
    "3 No t2 g0 w0 p1@1{1,2,3} a1 v2/1{1,2,3}{3} y![] r[] o[] x{} b0" ∷
    "= 30" ∷
    "1 ExchangeStates c3 g0 w0 p1@1{1,2,3} a1 v- y![] r[] o[] x{} b1" ∷
    "2 ExchangeStates c3 g0 w0 p1@1{1,2,3} a0 v- y![] r[] o[] x{} b0" ∷
    "3 ExchangeStates c3 g0 w0 p1@1{1,2,3} a1 v- y![] r[] o[] x{} b0" ∷
    "= 32" ∷
    "1 Construct c3 g0 w0 p1@1{1,2,3} a2 v3/1{1,2,3}{1} y![] r[] o[] x{} b1" ∷
    "= 33" ∷
    "2 Construct c3 g0 w0 p1@1{1,2,3} a2 v3/1{1,2,3}{2} y![] r[] o[] x{} b0" ∷
    "= 34" ∷
    "3 Construct c3 g0 w0 p1@1{1,2,3} a2 v3/1{1,2,3}{3} y![] r[] o[] x{} b0" ∷
    "= 36" ∷
    "made 1:1 put \"x\" \"TTTTTTTTTTTTTTTTTTTTTTTTTTTTTTTTTTTTTTTTTTTTTTTTTTTTTTTTTTTTTTTTTTTTTTTTTTTTTTTTTTTTTTTTTTTTTTTTTTTTTTTTTTTTTTTTTTTTTTTTTTTTTTTTTTTTTTTTTTTTTTTTTTTTTTTTTTTTTTTTTTTTTTTTTTTTTTTTTTTTTTTTTTTTTTTTTTTTTTTTTTTTTTTTTTTTTTTTTTTTTTTTTTTTTTTTTTTTTTTTTTTTTTTTTTTTTTTTTTTTTTTTTTTTTTTTTTTTTTTTTTTTTTTTTTTTTTTTTTTTTTTTTTTTTTTTTTTTTTTTTTTTTTTTTTTTTTTTTTTTTTTTTTTTTTTTTTTTTTTTTTTTTTTTTTTTTTTTTTTTTTTTTTTTTTTTTTTTTTTTTTTTTTTTTTTTTTTTTTTTTTTTTTTTTTTTTTTTTTTTTTTTTTTTTTTTTTTTTTTTTTTTTTTTTTTTTTTTTTTTTTTTTTTTTTTTTTTTTTTTTTTTTTTTTTTTTTTTTTTTTTTTTTTTTTTTTTTTTTTTTTTTTTTTTTTTTTTTTTTTTTTTTTTTTTTTTTTTTTTTTTTTTTTTTTTTTTTTTTTTTTTTTTTTTTTTTTTTTTTTTTTTTTTTTTTTTTTTTTTTTTTTTTTTTTTTTTTTTTTTTTTTTTTTTTTTTTTTTTTTTTTTTTTTTTTTTTTTTTTTTTTTTTTTTTTTTTTTTTTTTTTTTTTTTTTTTTTTTTTTTTTTTTTTTTTTTTTTTTTTTTTTTTTTTTTTTTTTTTTTTTTTTTTTTTTTTTTTTTTTTTTTTTTTTTTTTTTTTTTTTTTTTTTTTTTTTTTTTTTTTTTTTTTTTTTTTTTTTTTTTTTTTTTTTTTTTTTTTTTTTTTTTTTTTTTTTTTTTTTTTTTTTTTTTTTTTTTTTTTTTTTTTTTTTTTTTTTTTTTTTTTTTTTTTTTTTTTTTTTTTTTTTTTTTTTTTTTTTTTTTTTTTTTTTTTTTTTTTTTTTTTTTTTTTTTTTTTTTTTTTTTT\" ? get \"y\"" ∷
    "1 RegPrim c3 g0 w0 p2@3{1,2,3} a0 v3/1{1,2,3}{1} y- r[] o[1:1] x{} b0" ∷
    "= 37" ∷
    "2 RegPrim c3 g0 w0 p2@3{1,2,3} a0 v3/1{1,2,3}{2} y- r[] o[] x{} b0" ∷
    "= 38" ∷
    "3 RegPrim c3 g0 w0 p2@3{1,2,3} a0 v3/1{1,2,3}{3} y- r[] o[] x{} b0" ∷
    "= 39" ∷
    "2 TransPrim t3 g0 w0 p2@3{1,2,3} a0 v3/1{1,2,3}{2} y- r[] o[] x{} b0" ∷
    "= 40" ∷
    "3 TransPrim t3 g0 w0 p2@3{1,2,3} a0 v3/1{1,2,3}{3} y- r[] o[] x{} b0" ∷
    "= 41" ∷
    "1 TransPrim t3 g0 w0 p2@3{1,2,3} a0 v3/1{1,2,3}{1} y- r[] o[1:1] x{} b0" ∷
    "= 42" ∷
    "2 ExchangeStates c4 g0 w0 p2@3{1,2,3} a0 v- y![] r[] o[] x{} b0" ∷
    "= 43" ∷
    "3 ExchangeStates c5 g0 w0 p2@3{1,2,3} a0 v- y![] r[] o[] x{} b0" ∷
    "= 44" ∷
    "1 ExchangeStates c6 g0 w0 p2@3{1,2,3} a0 v- y![] r[1:1] o[] x{} b0" ∷
    "= 46" ∷
    "2 NonPrim c4 g0 w0 p2@3{1,2,3} a0 v- y![] r[] o[] x{} b0" ∷
    "= 47" ∷
    "2 NonPrim t4 g0 w0 p2@3{1,2,3} a0 v- y![] r[] o[] x{} b0" ∷
    "= 48" ∷
    "3 NonPrim t5 g0 w0 p2@3{1,2,3} a0 v- y![] r[] o[] x{} b0" ∷
    "= 49" ∷
    "1 NonPrim t6 g0 w0 p2@3{1,2,3} a0 v- y![] r[1:1] o[] x{} b0" ∷
    "= 50" ∷
    "1 ExchangeStates c7 g0 w0 p2@3{1,2,3} a0 v- y![] r[1:1] o[] x{} b0" ∷
    "2 ExchangeStates c7 g0 w0 p2@3{1,2,3} a0 v- y![] r[] o[] x{} b0" ∷
    "3 ExchangeStates c7 g0 w0 p2@3{1,2,3} a0 v- y![] r[] o[] x{} b0" ∷
    "= 52" ∷
    "1 ExchangeActions c7 g0 w0 p2@3{1,2,3} a0 v- y![] r[1:1] o[] x{} b0" ∷
    "= 53" ∷
    "2 ExchangeActions c7 g0 w0 p2@3{1,2,3} a0 v- y![] r[] o[] x{} b0" ∷
    "= 54" ∷
    "3 ExchangeActions c7 g0 w0 p2@3{1,2,3} a0 v- y![] r[] o[] x{} b0" ∷
    "= 56" ∷
    "1 Construct c7 g0 w0 p2@3{1,2,3} a1 v7/2{1,2,3}{1} y![] r[1:1] o[] x{} b0" ∷
    "= 57" ∷
    "2 Construct c7 g0 w0 p2@3{1,2,3} a1 v7/2{1,2,3}{2} y![] r[1:1] o[] x{} b0" ∷
    "= 58" ∷
    "3 Construct c7 g0 w0 p2@3{1,2,3} a1 v7/2{1,2,3}{3} y![] r[1:1] o[] x{} b0" ∷
    "= 60" ∷
    "order 1 1:1" ∷
    "1 RegPrim c7 g1 w0 p3@7{1,2,3} a0 v7/2{1,2,3}{1} y- r[] o[] x{} b0" ∷
    "reply 1:1 done ? absent" ∷
    "= 61" ∷
    "2 RegPrim c7 g1 w0 p3@7{1,2,3} a0 v7/2{1,2,3}{2} y- r[] o[] x{} b0" ∷
    "= 62" ∷
    "3 RegPrim c7 g1 w0 p3@7{1,2,3} a0 v7/2{1,2,3}{3} y- r[] o[] x{} b0" ∷
    "= 63" ∷
    "made 2:1 ? count" ∷
    "2 RegPrim c7 g1 w0 p3@7{1,2,3} a0 v7/2{1,2,3}{2} y- r[] o[2:1] x{} b0" ∷
    "= 64" ∷
    "2 TransPrim t7 g1 w0 p3@7{1,2,3} a0 v7/2{1,2,3}{2} y- r[] o[2:1] x{} b0" ∷
    "= 65" ∷
    "made 3:1 put \"z\" 70; inc \"b\" 7; need \"y\" absent" ∷
    "3 RegPrim c7 g1 w0 p3@7{1,2,3} a0 v7/2{1,2,3}{3} y- r[] o[3:1] x{} b0" ∷
    "= 66" ∷
    "made 3:2 move \"b\" \"b\" 5 ? get \"b\"" ∷
    "3 RegPrim c7 g1 w0 p3@7{1,2,3} a0 v7/2{1,2,3}{3} y- r[] o[3:1,3:2] x{} b0" ∷
    "= 68" ∷
    "1 TransPrim t7 g1 w0 p3@7{1,2,3} a0 v7/2{1,2,3}{1} y?[3:1,3:2] r[] o[] x{} b0" ∷
    "3 TransPrim t7 g1 w0 p3@7{1,2,3} a0 v7/2{1,2,3}{3} y?[3:1,3:2] r[] o[] x{} b0" ∷
    "= 69" ∷
    "1 ExchangeStates c8 g1 w0 p3@7{1,2,3} a0 v- y![3:1,3:2] r[] o[] x{} b0" ∷
    "2 ExchangeStates c8 g1 w0 p3@7{1,2,3} a0 v- y![] r[2:1] o[] x{} b0" ∷
    "3 ExchangeStates c8 g1 w0 p3@7{1,2,3} a0 v- y![3:1,3:2] r[] o[] x{} b0" ∷
    "= 70" ∷
    "3 ExchangeStates c8 g1 w0 p3@7{1,2,3} a0 v- y![3:1,3:2] r[] o[] x{} b1" ∷
    "= 71" ∷
    "greens 1 [1:1]" ∷
    "db 1 \"x\"=\"TTTTTTTTTTTTTTTTTTTTTTTTTTTTTTTTTTTTTTTTTTTTTTTTTTTTTTTTTTTTTTTTTTTTTTTTTTTTTTTTTTTTTTTTTTTTTTTTTTTTTTTTTTTTTTTTTTTTTTTTTTTTTTTTTTTTTTTTTTTTTTTTTTTTTTTTTTTTTTTTTTTTTTTTTTTTTTTTTTTTTTTTTTTTTTTTTTTTTTTTTTTTTTTTTTTTTTTTTTTTTTTTTTTTTTTTTTTTTTTTTTTTTTTTTTTTTTTTTTTTTTTTTTTTTTTTTTTTTTTTTTTTTTTTTTTTTTTTTTTTTTTTTTTTTTTTTTTTTTTTTTTTTTTTTTTTTTTTTTTTTTTTTTTTTTTTTTTTTTTTTTTTTTTTTTTTTTTTTTTTTTTTTTTTTTTTTTTTTTTTTTTTTTTTTTTTTTTTTTTTTTTTTTTTTTTTTTTTTTTTTTTTTTTTTTTTTTTTTTTTTTTTTTTTTTTTTTTTTTTTTTTTTTTTTTTTTTTTTTTTTTTTTTTTTTTTTTTTTTTTTTTTTTTTTTTTTTTTTTTTTTTTTTTTTTTTTTTTTTTTTTTTTTTTTTTTTTTTTTTTTTTTTTTTTTTTTTTTTTTTTTTTTTTTTTTTTTTTTTTTTTTTTTTTTTTTTTTTTTTTTTTTTTTTTTTTTTTTTTTTTTTTTTTTTTTTTTTTTTTTTTTTTTTTTTTTTTTTTTTTTTTTTTTTTTTTTTTTTTTTTTTTTTTTTTTTTTTTTTTTTTTTTTTTTTTTTTTTTTTTTTTTTTTTTTTTTTTTTTTTTTTTTTTTTTTTTTTTTTTTTTTTTTTTTTTTTTTTTTTTTTTTTTTTTTTTTTTTTTTTTTTTTTTTTTTTTTTTTTTTTTTTTTTTTTTTTTTTTTTTTTTTTTTTTTTTTTTTTTTTTTTTTTTTTTTTTTTTTTTTTTTTTTTTTTTTTTTTTTTTTTTTTTTTTTTTTTTTTTTTTTTTTTTTTTTTTTTTTTTTTTTTTTTTTTTTTTTTTTTTTTTTTTTTTTTTTTTTTTTTTTTT\"" ∷
    "= 72" ∷
    "2 ExchangeStates c8 g1 w0 p3@7{1,2,3} a0 v- y![] r[2:1] o[] x{} b1" ∷
    "= 73" ∷
    "2 ExchangeStates c8 g1 w0 p3@7{1,2,3} a0 v- y![] r[2:1] o[] x{} b2" ∷
    "= 75" ∷
    "1 ExchangeActions c8 g1 w0 p3@7{1,2,3} a0 v- y![3:1,3:2] r[] o[] x{} b0" ∷
    "= 76" ∷
    "2 ExchangeActions c8 g1 w0 p3@7{1,2,3} a0 v- y![] r[2:1] o[] x{} b2" ∷
    "= 77" ∷
    "3 ExchangeActions c8 g1 w0 p3@7{1,2,3} a0 v- y![3:1,3:2] r[] o[] x{} b1" ∷
    "= 79" ∷
    "1 ExchangeActions c8 g1 w0 p3@7{1,2,3} a0 v- y![3:1,3:2] r[2:1] o[] x{} b0" ∷
    "= 81" ∷
    "3 ExchangeActions c8 g1 w0 p3@7{1,2,3} a0 v- y![3:1,3:2] r[2:1] o[] x{} b1" ∷
    "end 81" ∷
    [])
unfolding cases_compute
three_replicas_primary_lost_and_reds_ordered_crash_in_a_device_call_d = refl

-- Replicas at the start: 3: a primary is lost in a partition, and after a merge red actions are ordered; a crash strikes inside a device call.
three_replicas_primary_lost_and_reds_ordered_crash_in_a_device_call_g :
    replayed_text (
    "start 1 2 3" ∷
    "merge 3" ∷
    "merge 1 2" ∷
    "rounds 2" ∷
    "request 1 inc \"b\" 1" ∷
    "request 3 del \"z\"" ∷
    "gather" ∷
    "split 1 2" ∷
    "split 3" ∷
    "merge 1 2 3" ∷
    "gather" ∷
    "request 3 move \"z\" \"a\" 9223372036854775807" ∷
    "request 2 inc \"a\" 12; inc \"abc\" 0" ∷
    "request 1 inc \"b\" 1 ? get \"a\"" ∷
    "split 2 3" ∷
    "split 1" ∷
    "merge 1 2 3" ∷
    "request 2 inc \"ab\" -9223372036854775808 ? keys \"q\"" ∷
    "order 1" ∷
    "gather" ∷
    "split 1 2" ∷
    "split 3" ∷
    "merge 1 2" ∷
    "merge 3" ∷
    "split 1" ∷
    "split 2" ∷
    "split 3" ∷
    "merge 1 2 3" ∷
    "gather" ∷
    "request 2 put \"a\" 40" ∷
    "rounds 1" ∷
    "gather" ∷
    "deliver 1 1" ∷
    "rounds 2" ∷
    "request 3 put \"y\" 92" ∷
    "split 1 2 3" ∷
    "merge 1 2 3" ∷
    "stop 1 7 01010101010101010101010101010101010101010101010101010101010101010101010101010101010101010101010101010101010101010101010101010101010101010101010101010101010101010101010101010101010101010101010101010101" ∷
    "gather" ∷
    "deliver 2 3" ∷
    "request 2 put \"y\" 55 ? keys \"x\"" ∷
    "rounds 1" ∷
    "request 2 need \"a\" \"; ? #\"" ∷
    "request 3 inc \"z\" 9 ? get \"x\"" ∷
    "request 2 put \"x\" \"12\" ? count" ∷
    "request 1 need \"b\" \"absent\"" ∷
    "rounds 1" ∷
    "end" ∷
    [])
    ≡ written (
    "= 1" ∷
    "1 NonPrim - g0 w0 p0@0{1,2,3} a0 v- y- r[] o[] x{} b0" ∷
    "2 NonPrim - g0 w0 p0@0{1,2,3} a0 v- y- r[] o[] x{} b0" ∷
    "3 NonPrim - g0 w0 p0@0{1,2,3} a0 v- y- r[] o[] x{} b0" ∷
    "= 2" ∷
    "3 ExchangeStates c1 g0 w0 p0@0{1,2,3} a0 v- y- r[] o[] x{} b0" ∷
    "= 3" ∷
    "1 ExchangeStates c2 g0 w0 p0@0{1,2,3} a0 v- y- r[] o[] x{} b0" ∷
    "2 ExchangeStates c2 g0 w0 p0@0{1,2,3} a0 v- y- r[] o[] x{} b0" ∷
    "= 5" ∷
    "1 Construct c2 g0 w0 p0@0{1,2,3} a1 v2/0{1,2}{1} y- r[] o[] x{} b0" ∷
    "= 6" ∷
    "2 Construct c2 g0 w0 p0@0{1,2,3} a1 v2/0{1,2}{2} y- r[] o[] x{} b0" ∷
    "= 7" ∷
    "3 NonPrim c1 g0 w0 p0@0{1,2,3} a0 v- y- r[] o[] x{} b0" ∷
    "= 9" ∷
    "1 RegPrim c2 g0 w0 p1@2{1,2} a0 v2/0{1,2}{1} y- r[] o[] x{} b0" ∷
    "= 10" ∷
    "2 RegPrim c2 g0 w0 p1@2{1,2} a0 v2/0{1,2}{2} y- r[] o[] x{} b0" ∷
    "= 11" ∷
    "made 1:1 inc \"b\" 1" ∷
    "1 RegPrim c2 g0 w0 p1@2{1,2} a0 v2/0{1,2}{1} y- r[] o[1:1] x{} b0" ∷
    "= 12" ∷
    "made 3:1 del \"z\"" ∷
    "3 NonPrim c1 g0 w0 p0@0{1,2,3} a0 v- y- r[] o[3:1] x{} b0" ∷
    "= 14" ∷
    "1 TransPrim t2 g0 w0 p1@2{1,2} a0 v2/0{1,2}{1} y?[1:1] r[] o[] x{} b0" ∷
    "2 TransPrim t2 g0 w0 p1@2{1,2} a0 v2/0{1,2}{2} y?[1:1] r[] o[] x{} b0" ∷
    "= 15" ∷
    "3 NonPrim t1 g0 w0 p0@0{1,2,3} a0 v- y- r[3:1] o[] x{} b0" ∷
    "= 16" ∷
    "1 ExchangeStates c3 g0 w0 p1@2{1,2} a0 v- y![1:1] r[] o[] x{} b0" ∷
    "2 ExchangeStates c3 g0 w0 p1@2{1,2} a0 v- y![1:1] r[] o[] x{} b0" ∷
    "3 ExchangeStates c3 g0 w0 p0@0{1,2,3} a0 v- y- r[3:1] o[] x{} b0" ∷
    "= 18" ∷
    "3 ExchangeStates c3 g0 w0 p0@0{1,2,3} a0 v- y- r[3:1] o[] x{} b1" ∷
    "= 19" ∷
    "2 ExchangeStates c3 g0 w0 p1@2{1,2} a0 v- y![1:1] r[] o[] x{} b1" ∷
    "= 20" ∷
    "1 ExchangeStates c3 g0 w0 p1@2{1,2} a0 v- y![1:1] r[] o[] x{} b1" ∷
    "= 21" ∷
    "2 NonPrim t3 g0 w0 p1@2{1,2} a0 v- y![1:1] r[] o[] x{} b1" ∷
    "3 NonPrim t3 g0 w0 p0@0{1,2,3} a0 v- y- r[3:1] o[] x{} b1" ∷
    "= 22" ∷
    "1 NonPrim t3 g0 w0 p1@2{1,2} a0 v- y![1:1] r[] o[] x{} b1" ∷
    "= 23" ∷
    "1 ExchangeStates c4 g0 w0 p1@2{1,2} a0 v- y![1:1] r[] o[] x{} b1" ∷
    "2 ExchangeStates c4 g0 w0 p1@2{1,2} a0 v- y![1:1] r[] o[] x{} b1" ∷
    "3 ExchangeStates c4 g0 w0 p0@0{1,2,3} a0 v- y- r[3:1] o[] x{} b1" ∷
    "= 24" ∷
    "2 ExchangeStates c4 g0 w0 p1@2{1,2} a0 v- y![1:1] r[] o[] x{} b2" ∷
    "= 27" ∷
    "1 NonPrim t4 g0 w0 p1@2{1,2} a0 v- y![1:1] r[] o[] x{} b1" ∷
    "2 NonPrim t4 g0 w0 p1@2{1,2} a0 v- y![1:1] r[] o[] x{} b2" ∷
    "= 28" ∷
    "3 NonPrim t4 g0 w0 p0@0{1,2,3} a0 v- y- r[3:1] o[] x{} b1" ∷
    "= 29" ∷
    "1 ExchangeStates c5 g0 w0 p1@2{1,2} a0 v- y![1:1] r[] o[] x{} b1" ∷
    "2 ExchangeStates c5 g0 w0 p1@2{1,2} a0 v- y![1:1] r[] o[] x{} b2" ∷
    "= 30" ∷
    "3 ExchangeStates c6 g0 w0 p0@0{1,2,3} a0 v- y- r[3:1] o[] x{} b1" ∷
    "= 31" ∷
    "1 NonPrim t5 g0 w0 p1@2{1,2} a0 v- y![1:1] r[] o[] x{} b1" ∷
    "= 32" ∷
    "2 NonPrim t5 g0 w0 p1@2{1,2} a0 v- y![1:1] r[] o[] x{} b2" ∷
    "= 33" ∷
    "3 NonPrim t6 g0 w0 p0@0{1,2,3} a0 v- y- r[3:1] o[] x{} b1" ∷
    "= 34" ∷
    "1 ExchangeStates c7 g0 w0 p1@2{1,2} a0 v- y![1:1] r[] o[] x{} b1" ∷
    "2 ExchangeStates c7 g0 w0 p1@2{1,2} a0 v- y![1:1] r[] o[] x{} b2" ∷
    "3 ExchangeStates c7 g0 w0 p0@0{1,2,3} a0 v- y- r[3:1] o[] x{} b1" ∷
    "= 36" ∷
    "2 ExchangeStates c7 g0 w0 p1@2{1,2} a0 v- y![1:1] r[] o[] x{} b3" ∷
    "= 38" ∷
    "1 ExchangeActions c7 g0 w0 p1@2{1,2} a0 v- y![1:1] r[] o[] x{} b1" ∷
    "= 39" ∷
    "2 ExchangeActions c7 g0 w0 p1@2{1,2} a0 v- y![1:1] r[] o[] x{} b3" ∷
    "= 40" ∷
    "3 ExchangeActions c7 g0 w0 p0@0{1,2,3} a0 v- y- r[3:1] o[] x{} b1" ∷
    "= 45" ∷
    "3 ExchangeActions c7 g0 w0 p0@0{1,2,3} a0 v- y- r[1:1,3:1] o[] x{} b1" ∷
    "= 47" ∷
    "1 Construct c7 g0 w0 p1@2{1,2} a1 v7/1{1,2,3}{1} y![1:1] r[3:1] o[] x{} b1" ∷
    "= 48" ∷
    "2 Construct c7 g0 w0 p1@2{1,2} a1 v7/1{1,2,3}{2} y![1:1] r[3:1] o[] x{} b3" ∷
    "= 49" ∷
    "3 Construct c7 g0 w0 p1@2{1,2} a1 v7/1{1,2,3}{3} y![1:1] r[3:1] o[] x{} b1" ∷
    "= 50" ∷
    "3 Construct c7 g0 w0 p1@2{1,2} a1 v7/1{1,2,3}{3} y![1:1] r[3:1] o[] x{} b2" ∷
    "= 51" ∷
    "1 No t7 g0 w0 p1@2{1,2} a1 v7/1{1,2,3}{1} y![1:1] r[3:1] o[] x{} b1" ∷
    "2 No t7 g0 w0 p1@2{1,2} a1 v7/1{1,2,3}{2} y![1:1] r[3:1] o[] x{} b3" ∷
    "3 No t7 g0 w0 p1@2{1,2} a1 v7/1{1,2,3}{3} y![1:1] r[3:1] o[] x{} b2" ∷
    "= 52" ∷
    "1 ExchangeStates c8 g0 w0 p1@2{1,2} a1 v- y![1:1] r[3:1] o[] x{} b1" ∷
    "2 ExchangeStates c8 g0 w0 p1@2{1,2} a1 v- y![1:1] r[3:1] o[] x{} b3" ∷
    "3 ExchangeStates c8 g0 w0 p1@2{1,2} a1 v- y![1:1] r[3:1] o[] x{} b2" ∷
    "= 55" ∷
    "2 Construct c8 g0 w0 p1@2{1,2} a2 v8/1{1,2,3}{2} y![1:1] r[3:1] o[] x{} b3" ∷
    "= 56" ∷
    "2 Construct c8 g0 w0 p1@2{1,2} a2 v8/1{1,2,3}{2} y![1:1] r[3:1] o[] x{} b4" ∷
    "= 58" ∷
    "1 Construct c8 g0 w0 p1@2{1,2} a2 v8/1{1,2,3}{1} y![1:1] r[3:1] o[] x{} b1" ∷
    "= 60" ∷
    "3 Construct c8 g0 w0 p1@2{1,2} a2 v8/1{1,2,3}{3} y![1:1] r[3:1] o[] x{} b2" ∷
    "= 61" ∷
    "2 Construct c8 g0 w0 p1@2{1,2} a2 v8/1{1,2,3}{2} y![1:1] r[3:1] o[] x{} b5" ∷
    "= 62" ∷
    "3 Construct c8 g0 w0 p1@2{1,2} a2 v8/1{1,2,3}{3} y![1:1] r[3:1] o[] x{} b3" ∷
    "= 63" ∷
    "2 Construct c8 g0 w0 p1@2{1,2} a2 v8/1{1,2,3}{2} y![1:1] r[3:1] o[] x{} b6" ∷
    "= 64" ∷
    "1 Construct c8 g0 w0 p1@2{1,2} a2 v8/1{1,2,3}{1} y![1:1] r[3:1] o[] x{} b2" ∷
    "= 66" ∷
    "1 Down" ∷
    "= 67" ∷
    "made 2:1 inc \"a\" 12; inc \"abc\" 0" ∷
    "made 2:2 inc \"ab\" -9223372036854775808 ? keys \"q\"" ∷
    "made 2:3 put \"a\" 40" ∷
    "made 2:4 put \"y\" 55 ? keys \"x\"" ∷
    "made 2:5 need \"a\" \"; ? #\"" ∷
    "made 2:6 put \"x\" \"12\" ? count" ∷
    "order 1 1:1" ∷
    "order 2 3:1" ∷
    "2 RegPrim c8 g2 w0 p2@8{1,2,3} a0 v8/1{1,2,3}{2} y- r[] o[2:1,2:2,2:3,2:4,2:5,2:6] x{} b0" ∷
    "= 68" ∷
    "made 3:2 move \"z\" \"a\" 9223372036854775807" ∷
    "made 3:3 put \"y\" 92" ∷
    "made 3:4 inc \"z\" 9 ? get \"x\"" ∷
    "3 RegPrim c8 g2 w0 p2@8{1,2,3} a0 v8/1{1,2,3}{3} y- r[] o[3:2,3:3,3:4] x{} b0" ∷
    "reply 3:1 done" ∷
    "end 68" ∷
    [])
unfolding cases_compute
three_replicas_primary_lost_and_reds_ordered_crash_in_a_device_call_g = refl

-- Replicas at the start: 3: a primary is lost in a partition, and after a merge red actions are ordered; a crash strikes inside a device call; a server that was removed is told so.
three_replicas_primary_lost_and_reds_ordered_crash_in_a_device_call_leaver_a :
    replayed_text (
    "start 1 2 3" ∷
    "merge 1 2 3" ∷
    "rounds 1" ∷
    "split 1 2 3" ∷
    "merge 1 2 3" ∷
    "rounds 3" ∷
    "rounds 4" ∷
    "gather" ∷
    "rounds 3" ∷
    "rounds 2" ∷
    "gather" ∷
    "leave 2 1" ∷
    "rounds 4" ∷
    "show 2" ∷
    "rounds 1" ∷
    "rounds 2" ∷
    "rounds 1" ∷
    "rounds 2" ∷
    "request 2 put \"ab\" 78 ? get \"ab\"" ∷
    "rounds 1" ∷
    "request 3 cas \"a\" \"12\" 96" ∷
    "split 2" ∷
    "split 1 3" ∷
    "merge 1 3" ∷
    "join 3 20" ∷
    "rounds 1" ∷
    "request 3 put \"z\" \"back\\\\slash\"" ∷
    "request 2 put \"a\" 55" ∷
    "gather" ∷
    "gather" ∷
    "deliver 1 2" ∷
    "deliver 3 2" ∷
    "gather" ∷
    "merge 2" ∷
    "gather" ∷
    "split 2" ∷
    "merge 2" ∷
    "rounds 1" ∷
    "split 1" ∷
    "split 3" ∷
    "merge 3" ∷
    "request 2 put \"y\" 10; move \"z\" \"x\" 9223372036854775807; need \"x\" absent ? count" ∷
    "split 2" ∷
    "split 3" ∷
    "merge 2 3" ∷
    "rounds 4" ∷
    "request 2 put \"b\" 5" ∷
    "rounds 2" ∷
    "split 3" ∷
    "split 2" ∷
    "merge 2" ∷
    "merge 3" ∷
    "rounds 2" ∷
    "rounds 1" ∷
    "stop 2 3 -" ∷
    "request 2 inc \"x\" -9223372036854775808" ∷
    "rounds 3" ∷
    "request 3 move \"x\" \"z\" 7" ∷
    "rounds 3" ∷
    "end" ∷
    [])
    ≡ written (
    "= 1" ∷
    "1 NonPrim - g0 w0 p0@0{1,2,3} a0 v- y- r[] o[] x{} b0" ∷
    "2 NonPrim - g0 w0 p0@0{1,2,3} a0 v- y- r[] o[] x{} b0" ∷
    "3 NonPrim - g0 w0 p0@0{1,2,3} a0 v- y- r[] o[] x{} b0" ∷
    "= 2" ∷
    "1 ExchangeStates c1 g0 w0 p0@0{1,2,3} a0 v- y- r[] o[] x{} b0" ∷
    "2 ExchangeStates c1 g0 w0 p0@0{1,2,3} a0 v- y- r[] o[] x{} b0" ∷
    "3 ExchangeStates c1 g0 w0 p0@0{1,2,3} a0 v- y- r[] o[] x{} b0" ∷
    "= 4" ∷
    "1 Construct c1 g0 w0 p0@0{1,2,3} a1 v1/0{1,2,3}{1} y- r[] o[] x{} b0" ∷
    "= 5" ∷
    "2 Construct c1 g0 w0 p0@0{1,2,3} a1 v1/0{1,2,3}{2} y- r[] o[] x{} b0" ∷
    "= 6" ∷
    "3 Construct c1 g0 w0 p0@0{1,2,3} a1 v1/0{1,2,3}{3} y- r[] o[] x{} b0" ∷
    "= 7" ∷
    "1 No t1 g0 w0 p0@0{1,2,3} a1 v1/0{1,2,3}{1} y- r[] o[] x{} b0" ∷
    "2 No t1 g0 w0 p0@0{1,2,3} a1 v1/0{1,2,3}{2} y- r[] o[] x{} b0" ∷
    "3 No t1 g0 w0 p0@0{1,2,3} a1 v1/0{1,2,3}{3} y- r[] o[] x{} b0" ∷
    "= 8" ∷
    "1 ExchangeStates c2 g0 w0 p0@0{1,2,3} a1 v- y- r[] o[] x{} b0" ∷
    "2 ExchangeStates c2 g0 w0 p0@0{1,2,3} a1 v- y- r[] o[] x{} b0" ∷
    "3 ExchangeStates c2 g0 w0 p0@0{1,2,3} a1 v- y- r[] o[] x{} b0" ∷
    "= 10" ∷
    "1 Construct c2 g0 w0 p0@0{1,2,3} a2 v2/0{1,2,3}{1} y- r[] o[] x{} b0" ∷
    "= 11" ∷
    "2 Construct c2 g0 w0 p0@0{1,2,3} a2 v2/0{1,2,3}{2} y- r[] o[] x{} b0" ∷
    "= 12" ∷
    "3 Construct c2 g0 w0 p0@0{1,2,3} a2 v2/0{1,2,3}{3} y- r[] o[] x{} b0" ∷
    "= 14" ∷
    "1 RegPrim c2 g0 w0 p1@2{1,2,3} a0 v2/0{1,2,3}{1} y- r[] o[] x{} b0" ∷
    "= 15" ∷
    "2 RegPrim c2 g0 w0 p1@2{1,2,3} a0 v2/0{1,2,3}{2} y- r[] o[] x{} b0" ∷
    "= 16" ∷
    "3 RegPrim c2 g0 w0 p1@2{1,2,3} a0 v2/0{1,2,3}{3} y- r[] o[] x{} b0" ∷
    "= 29" ∷
    "made 2:1 leave 1" ∷
    "2 RegPrim c2 g0 w0 p1@2{1,2,3} a0 v2/0{1,2,3}{2} y- r[] o[2:1] x{} b0" ∷
    "= 31" ∷
    "order 1 2:1" ∷
    "1 RegPrim c2 g1 w0 p1@2{1,2,3} a0 v2/0{1,2,3}{1} y- r[] o[] x{1} b0" ∷
    "= 32" ∷
    "2 RegPrim c2 g1 w0 p1@2{1,2,3} a0 v2/0{1,2,3}{2} y- r[] o[] x{1} b0" ∷
    "reply 2:1 done" ∷
    "= 33" ∷
    "3 RegPrim c2 g1 w0 p1@2{1,2,3} a0 v2/0{1,2,3}{3} y- r[] o[] x{1} b0" ∷
    "= 37" ∷
    "greens 2 [2:1]" ∷
    "db 2" ∷
    "= 44" ∷
    "made 2:2 put \"ab\" 78 ? get \"ab\"" ∷
    "2 RegPrim c2 g1 w0 p1@2{1,2,3} a0 v2/0{1,2,3}{2} y- r[] o[2:2] x{1} b0" ∷
    "= 46" ∷
    "order 2 2:2" ∷
    "1 RegPrim c2 g2 w0 p1@2{1,2,3} a0 v2/0{1,2,3}{1} y- r[] o[] x{1} b0" ∷
    "= 47" ∷
    "2 RegPrim c2 g2 w0 p1@2{1,2,3} a0 v2/0{1,2,3}{2} y- r[] o[] x{1} b0" ∷
    "reply 2:2 done ? 78" ∷
    "= 48" ∷
    "3 RegPrim c2 g2 w0 p1@2{1,2,3} a0 v2/0{1,2,3}{3} y- r[] o[] x{1} b0" ∷
    "= 49" ∷
    "made 3:1 cas \"a\" \"12\" 96" ∷
    "3 RegPrim c2 g2 w0 p1@2{1,2,3} a0 v2/0{1,2,3}{3} y- r[] o[3:1] x{1} b0" ∷
    "= 50" ∷
    "2 TransPrim t2 g2 w0 p1@2{1,2,3} a0 v2/0{1,2,3}{2} y- r[] o[] x{1} b0" ∷
    "= 51" ∷
    "1 TransPrim t2 g2 w0 p1@2{1,2,3} a0 v2/0{1,2,3}{1} y- r[] o[] x{1} b0" ∷
    "3 TransPrim t2 g2 w0 p1@2{1,2,3} a0 v2/0{1,2,3}{3} y- r[] o[3:1] x{1} b0" ∷
    "= 52" ∷
    "1 ExchangeStates c3 g2 w0 p1@2{1,2,3} a0 v- y![] r[] o[] x{1} b0" ∷
    "3 ExchangeStates c3 g2 w0 p1@2{1,2,3} a0 v- y![] r[3:1] o[] x{1} b0" ∷
    "= 53" ∷
    "3 ExchangeStates c3 g2 w0 p1@2{1,2,3} a0 v- y![] r[3:1] o[] x{1} b1" ∷
    "= 55" ∷
    "1 Left c3 g2 w0 p1@2{1,2,3} a0 v- y![] r[] o[] x{1} b0" ∷
    "= 56" ∷
    "made 3:2 join 20" ∷
    "3 NonPrim c3 g2 w0 p1@2{1,2,3} a0 v- y![] r[3:1] o[3:2] x{1} b0" ∷
    "= 57" ∷
    "made 3:3 put \"z\" \"back\\\\slash\"" ∷
    "3 NonPrim c3 g2 w0 p1@2{1,2,3} a0 v- y![] r[3:1] o[3:2,3:3] x{1} b0" ∷
    "= 58" ∷
    "2 TransPrim t2 g2 w0 p1@2{1,2,3} a0 v2/0{1,2,3}{2} y- r[] o[] x{1} b1" ∷
    "= 62" ∷
    "3 NonPrim c3 g2 w0 p1@2{1,2,3} a0 v- y![] r[3:1,3:2,3:3] o[] x{1} b0" ∷
    "= 64" ∷
    "2 ExchangeStates c4 g2 w0 p1@2{1,2,3} a0 v- y![] r[] o[] x{1} b1" ∷
    "= 66" ∷
    "2 NonPrim t4 g2 w0 p1@2{1,2,3} a0 v- y![] r[] o[] x{1} b1" ∷
    "= 67" ∷
    "2 ExchangeStates c5 g2 w0 p1@2{1,2,3} a0 v- y![] r[] o[] x{1} b1" ∷
    "= 69" ∷
    "made 2:3 put \"a\" 55" ∷
    "2 NonPrim c5 g2 w0 p1@2{1,2,3} a0 v- y![] r[] o[2:3] x{1} b0" ∷
    "= 70" ∷
    "1 Left t3 g2 w0 p1@2{1,2,3} a0 v- y![] r[] o[] x{1} b0" ∷
    "= 71" ∷
    "3 NonPrim t3 g2 w0 p1@2{1,2,3} a0 v- y![] r[3:1,3:2,3:3] o[] x{1} b0" ∷
    "= 72" ∷
    "3 ExchangeStates c6 g2 w0 p1@2{1,2,3} a0 v- y![] r[3:1,3:2,3:3] o[] x{1} b0" ∷
    "= 73" ∷
    "made 2:4 put \"y\" 10; move \"z\" \"x\" 9223372036854775807; need \"x\" absent ? count" ∷
    "2 NonPrim c5 g2 w0 p1@2{1,2,3} a0 v- y![] r[] o[2:3,2:4] x{1} b0" ∷
    "= 74" ∷
    "2 NonPrim t5 g2 w0 p1@2{1,2,3} a0 v- y![] r[] o[2:3,2:4] x{1} b0" ∷
    "= 75" ∷
    "3 NonPrim t6 g2 w0 p1@2{1,2,3} a0 v- y![] r[3:1,3:2,3:3] o[] x{1} b0" ∷
    "= 76" ∷
    "2 ExchangeStates c7 g2 w0 p1@2{1,2,3} a0 v- y![] r[2:3,2:4] o[] x{1} b0" ∷
    "3 ExchangeStates c7 g2 w0 p1@2{1,2,3} a0 v- y![] r[3:1,3:2,3:3] o[] x{1} b0" ∷
    "= 78" ∷
    "2 ExchangeActions c7 g2 w0 p1@2{1,2,3} a0 v- y![] r[2:3,2:4] o[] x{1} b0" ∷
    "= 79" ∷
    "3 ExchangeActions c7 g2 w0 p1@2{1,2,3} a0 v- y![] r[3:1,3:2,3:3] o[] x{1} b0" ∷
    "= 82" ∷
    "3 ExchangeActions c7 g2 w0 p1@2{1,2,3} a0 v- y![] r[2:3,2:4,3:1,3:2,3:3] o[] x{1} b0" ∷
    "= 84" ∷
    "2 Construct c7 g2 w0 p1@2{1,2,3} a1 v7/1{2,3}{2} y![] r[2:3,2:4,3:1,3:2,3:3] o[] x{1} b0" ∷
    "= 85" ∷
    "3 Construct c7 g2 w0 p1@2{1,2,3} a1 v7/1{2,3}{3} y![] r[2:3,2:4,3:1,3:2,3:3] o[] x{1} b0" ∷
    "= 87" ∷
    "order 3 2:3" ∷
    "order 4 2:4" ∷
    "order 5 3:1" ∷
    "order 6 3:2" ∷
    "order 7 3:3" ∷
    "2 RegPrim c7 g7 w2 p2@7{2,3} a0 v7/1{2,3}{2} y- r[] o[] x{1} b0" ∷
    "reply 2:3 done" ∷
    "reply 2:4 aborted 2 ? count 2" ∷
    "= 88" ∷
    "3 RegPrim c7 g7 w2 p2@7{2,3} a0 v7/1{2,3}{3} y- r[] o[] x{1} b0" ∷
    "reply 3:1 done" ∷
    "reply 3:2 done" ∷
    "reply 3:3 done" ∷
    "= 89" ∷
    "made 2:5 put \"b\" 5" ∷
    "2 RegPrim c7 g7 w2 p2@7{2,3} a0 v7/1{2,3}{2} y- r[] o[2:5] x{1} b0" ∷
    "= 91" ∷
    "order 8 2:5" ∷
    "2 RegPrim c7 g8 w2 p2@7{2,3} a0 v7/1{2,3}{2} y- r[] o[] x{1} b0" ∷
    "reply 2:5 done" ∷
    "= 92" ∷
    "3 RegPrim c7 g8 w2 p2@7{2,3} a0 v7/1{2,3}{3} y- r[] o[] x{1} b0" ∷
    "= 94" ∷
    "3 TransPrim t7 g8 w2 p2@7{2,3} a0 v7/1{2,3}{3} y- r[] o[] x{1} b0" ∷
    "= 95" ∷
    "2 TransPrim t7 g8 w2 p2@7{2,3} a0 v7/1{2,3}{2} y- r[] o[] x{1} b0" ∷
    "= 96" ∷
    "2 ExchangeStates c8 g8 w2 p2@7{2,3} a0 v- y![] r[] o[] x{1} b0" ∷
    "= 97" ∷
    "3 ExchangeStates c9 g8 w2 p2@7{2,3} a0 v- y![] r[] o[] x{1} b0" ∷
    "= 99" ∷
    "2 Construct c8 g8 w2 p2@7{2,3} a1 v8/2{2}{2} y![] r[] o[] x{1} b0" ∷
    "= 100" ∷
    "3 NonPrim c9 g8 w2 p2@7{2,3} a0 v- y![] r[] o[] x{1} b0" ∷
    "= 102" ∷
    "2 RegPrim c8 g8 w2 p3@8{2} a0 v8/2{2}{2} y- r[] o[] x{1} b0" ∷
    "= 105" ∷
    "2 Down" ∷
    "= 109" ∷
    "made 3:4 move \"x\" \"z\" 7" ∷
    "3 NonPrim c9 g8 w2 p2@7{2,3} a0 v- y![] r[] o[3:4] x{1} b0" ∷
    "= 111" ∷
    "3 NonPrim c9 g8 w2 p2@7{2,3} a0 v- y![] r[3:4] o[] x{1} b0" ∷
    "end 113" ∷
    [])
unfolding cases_compute
three_replicas_primary_lost_and_reds_ordered_crash_in_a_device_call_leaver_a = refl
