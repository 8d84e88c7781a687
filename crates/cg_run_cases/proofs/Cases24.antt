-- Cases of cases/ with their whole reports, which `.ci/theorems` writes down here.
use Rattle.std.specs.Prelude.{◌≡◌, [], ◌∷◌}
use mathlib.Core.Path.{refl}
use Rattle.cg_run_cases.specs.Replaying.{replayed_text, written}
use Rattle.cg_run_cases.specs.Computing.{cases_compute}

-- Replicas at the start: 7: a primary is lost in a partition, and after a merge red actions are ordered; a crash strikes inside a device call.
seven_replicas_primary_lost_and_reds_ordered_crash_in_a_device_call_a :
    replayed_text (
    "start 1 2 3 4 5 6 7" ∷
    "merge 1 2 3 4 5 6 7" ∷
    "rounds 1" ∷
    "split 3 5 6 7" ∷
    "split 1 2 4" ∷
    "merge 3 5 6 7" ∷
    "merge 1 2 4" ∷
    "split 3 5 6 7" ∷
    "split 2 4" ∷
    "split 1" ∷
    "merge 1 2 3 4 5 6 7" ∷
    "gather" ∷
    "gather" ∷
    "rounds 3" ∷
    "request 6 inc \"k1\" -9223372036854775808" ∷
    "split 2 3 4 5 6" ∷
    "split 1 7" ∷
    "merge 1 7" ∷
    "merge 2 3 4 5 6" ∷
    "dirty 2 get \"y\"" ∷
    "stop 2 0 -" ∷
    "gather" ∷
    "split 1" ∷
    "rounds 1" ∷
    "split 3 4 5 6" ∷
    "recover 2" ∷
    "split 7" ∷
    "merge 1 2 3 4 5 6 7" ∷
    "rounds 3" ∷
    "rounds 1" ∷
    "gather" ∷
    "request 6 put \"a\" 29" ∷
    "stop 3 7 434752554954593200" ∷
    "request 5 del \"k2\"" ∷
    "request 2 put \"z\" -8; inc \"abc\" 4; cas \"abc\" 9223372036854775807 11 ? get \"a\"" ∷
    "gather" ∷
    "gather" ∷
    "gather" ∷
    "deliver 3 3" ∷
    "rounds 3" ∷
    "gather" ∷
    "gather" ∷
    "request 1 put \"k1\" 5" ∷
    "split 2 4 6" ∷
    "request 7 put \"x\" 45 ? get \"y\"" ∷
    "request 7 put \"y\" 89" ∷
    "order 1" ∷
    "order 7" ∷
    "split 1 5 7" ∷
    "merge 2 4 6" ∷
    "request 5 cas \"y\" 81 \"back\\\\slash\"" ∷
    "order 6" ∷
    "request 6 ? get \"z\"" ∷
    "end" ∷
    [])
    ≡ written (
    "= 1" ∷
    "1 NonPrim - g0 w0 p0@0{1,2,3,4,5,6,7} a0 v- y- r[] o[] x{} b0" ∷
    "2 NonPrim - g0 w0 p0@0{1,2,3,4,5,6,7} a0 v- y- r[] o[] x{} b0" ∷
    "3 NonPrim - g0 w0 p0@0{1,2,3,4,5,6,7} a0 v- y- r[] o[] x{} b0" ∷
    "4 NonPrim - g0 w0 p0@0{1,2,3,4,5,6,7} a0 v- y- r[] o[] x{} b0" ∷
    "5 NonPrim - g0 w0 p0@0{1,2,3,4,5,6,7} a0 v- y- r[] o[] x{} b0" ∷
    "6 NonPrim - g0 w0 p0@0{1,2,3,4,5,6,7} a0 v- y- r[] o[] x{} b0" ∷
    "7 NonPrim - g0 w0 p0@0{1,2,3,4,5,6,7} a0 v- y- r[] o[] x{} b0" ∷
    "= 2" ∷
    "1 ExchangeStates c1 g0 w0 p0@0{1,2,3,4,5,6,7} a0 v- y- r[] o[] x{} b0" ∷
    "2 ExchangeStates c1 g0 w0 p0@0{1,2,3,4,5,6,7} a0 v- y- r[] o[] x{} b0" ∷
    "3 ExchangeStates c1 g0 w0 p0@0{1,2,3,4,5,6,7} a0 v- y- r[] o[] x{} b0" ∷
    "4 ExchangeStates c1 g0 w0 p0@0{1,2,3,4,5,6,7} a0 v- y- r[] o[] x{} b0" ∷
    "5 ExchangeStates c1 g0 w0 p0@0{1,2,3,4,5,6,7} a0 v- y- r[] o[] x{} b0" ∷
    "6 ExchangeStates c1 g0 w0 p0@0{1,2,3,4,5,6,7} a0 v- y- r[] o[] x{} b0" ∷
    "7 ExchangeStates c1 g0 w0 p0@0{1,2,3,4,5,6,7} a0 v- y- r[] o[] x{} b0" ∷
    "= 4" ∷
    "1 Construct c1 g0 w0 p0@0{1,2,3,4,5,6,7} a1 v1/0{1,2,3,4,5,6,7}{1} y- r[] o[] x{} b0" ∷
    "= 5" ∷
    "2 Construct c1 g0 w0 p0@0{1,2,3,4,5,6,7} a1 v1/0{1,2,3,4,5,6,7}{2} y- r[] o[] x{} b0" ∷
    "= 6" ∷
    "3 Construct c1 g0 w0 p0@0{1,2,3,4,5,6,7} a1 v1/0{1,2,3,4,5,6,7}{3} y- r[] o[] x{} b0" ∷
    "= 7" ∷
    "4 Construct c1 g0 w0 p0@0{1,2,3,4,5,6,7} a1 v1/0{1,2,3,4,5,6,7}{4} y- r[] o[] x{} b0" ∷
    "= 8" ∷
    "5 Construct c1 g0 w0 p0@0{1,2,3,4,5,6,7} a1 v1/0{1,2,3,4,5,6,7}{5} y- r[] o[] x{} b0" ∷
    "= 9" ∷
    "6 Construct c1 g0 w0 p0@0{1,2,3,4,5,6,7} a1 v1/0{1,2,3,4,5,6,7}{6} y- r[] o[] x{} b0" ∷
    "= 10" ∷
    "7 Construct c1 g0 w0 p0@0{1,2,3,4,5,6,7} a1 v1/0{1,2,3,4,5,6,7}{7} y- r[] o[] x{} b0" ∷
    "= 11" ∷
    "3 No t1 g0 w0 p0@0{1,2,3,4,5,6,7} a1 v1/0{1,2,3,4,5,6,7}{3} y- r[] o[] x{} b0" ∷
    "5 No t1 g0 w0 p0@0{1,2,3,4,5,6,7} a1 v1/0{1,2,3,4,5,6,7}{5} y- r[] o[] x{} b0" ∷
    "6 No t1 g0 w0 p0@0{1,2,3,4,5,6,7} a1 v1/0{1,2,3,4,5,6,7}{6} y- r[] o[] x{} b0" ∷
    "7 No t1 g0 w0 p0@0{1,2,3,4,5,6,7} a1 v1/0{1,2,3,4,5,6,7}{7} y- r[] o[] x{} b0" ∷
    "= 12" ∷
    "1 No t1 g0 w0 p0@0{1,2,3,4,5,6,7} a1 v1/0{1,2,3,4,5,6,7}{1} y- r[] o[] x{} b0" ∷
    "2 No t1 g0 w0 p0@0{1,2,3,4,5,6,7} a1 v1/0{1,2,3,4,5,6,7}{2} y- r[] o[] x{} b0" ∷
    "4 No t1 g0 w0 p0@0{1,2,3,4,5,6,7} a1 v1/0{1,2,3,4,5,6,7}{4} y- r[] o[] x{} b0" ∷
    "= 13" ∷
    "3 ExchangeStates c2 g0 w0 p0@0{1,2,3,4,5,6,7} a1 v- y- r[] o[] x{} b0" ∷
    "5 ExchangeStates c2 g0 w0 p0@0{1,2,3,4,5,6,7} a1 v- y- r[] o[] x{} b0" ∷
    "6 ExchangeStates c2 g0 w0 p0@0{1,2,3,4,5,6,7} a1 v- y- r[] o[] x{} b0" ∷
    "7 ExchangeStates c2 g0 w0 p0@0{1,2,3,4,5,6,7} a1 v- y- r[] o[] x{} b0" ∷
    "= 14" ∷
    "1 ExchangeStates c3 g0 w0 p0@0{1,2,3,4,5,6,7} a1 v- y- r[] o[] x{} b0" ∷
    "2 ExchangeStates c3 g0 w0 p0@0{1,2,3,4,5,6,7} a1 v- y- r[] o[] x{} b0" ∷
    "4 ExchangeStates c3 g0 w0 p0@0{1,2,3,4,5,6,7} a1 v- y- r[] o[] x{} b0" ∷
    "= 15" ∷
    "3 NonPrim t2 g0 w0 p0@0{1,2,3,4,5,6,7} a1 v- y- r[] o[] x{} b0" ∷
    "5 NonPrim t2 g0 w0 p0@0{1,2,3,4,5,6,7} a1 v- y- r[] o[] x{} b0" ∷
    "6 NonPrim t2 g0 w0 p0@0{1,2,3,4,5,6,7} a1 v- y- r[] o[] x{} b0" ∷
    "7 NonPrim t2 g0 w0 p0@0{1,2,3,4,5,6,7} a1 v- y- r[] o[] x{} b0" ∷
    "= 16" ∷
    "2 NonPrim t3 g0 w0 p0@0{1,2,3,4,5,6,7} a1 v- y- r[] o[] x{} b0" ∷
    "4 NonPrim t3 g0 w0 p0@0{1,2,3,4,5,6,7} a1 v- y- r[] o[] x{} b0" ∷
    "= 17" ∷
    "1 NonPrim t3 g0 w0 p0@0{1,2,3,4,5,6,7} a1 v- y- r[] o[] x{} b0" ∷
    "= 18" ∷
    "1 ExchangeStates c4 g0 w0 p0@0{1,2,3,4,5,6,7} a1 v- y- r[] o[] x{} b0" ∷
    "2 ExchangeStates c4 g0 w0 p0@0{1,2,3,4,5,6,7} a1 v- y- r[] o[] x{} b0" ∷
    "3 ExchangeStates c4 g0 w0 p0@0{1,2,3,4,5,6,7} a1 v- y- r[] o[] x{} b0" ∷
    "4 ExchangeStates c4 g0 w0 p0@0{1,2,3,4,5,6,7} a1 v- y- r[] o[] x{} b0" ∷
    "5 ExchangeStates c4 g0 w0 p0@0{1,2,3,4,5,6,7} a1 v- y- r[] o[] x{} b0" ∷
    "6 ExchangeStates c4 g0 w0 p0@0{1,2,3,4,5,6,7} a1 v- y- r[] o[] x{} b0" ∷
    "7 ExchangeStates c4 g0 w0 p0@0{1,2,3,4,5,6,7} a1 v- y- r[] o[] x{} b0" ∷
    "= 22" ∷
    "1 Construct c4 g0 w0 p0@0{1,2,3,4,5,6,7} a2 v4/0{1,2,3,4,5,6,7}{1} y- r[] o[] x{} b0" ∷
    "= 23" ∷
    "2 Construct c4 g0 w0 p0@0{1,2,3,4,5,6,7} a2 v4/0{1,2,3,4,5,6,7}{2} y- r[] o[] x{} b0" ∷
    "= 24" ∷
    "3 Construct c4 g0 w0 p0@0{1,2,3,4,5,6,7} a2 v4/0{1,2,3,4,5,6,7}{3} y- r[] o[] x{} b0" ∷
    "= 25" ∷
    "4 Construct c4 g0 w0 p0@0{1,2,3,4,5,6,7} a2 v4/0{1,2,3,4,5,6,7}{4} y- r[] o[] x{} b0" ∷
    "= 26" ∷
    "5 Construct c4 g0 w0 p0@0{1,2,3,4,5,6,7} a2 v4/0{1,2,3,4,5,6,7}{5} y- r[] o[] x{} b0" ∷
    "= 27" ∷
    "6 Construct c4 g0 w0 p0@0{1,2,3,4,5,6,7} a2 v4/0{1,2,3,4,5,6,7}{6} y- r[] o[] x{} b0" ∷
    "= 28" ∷
    "7 Construct c4 g0 w0 p0@0{1,2,3,4,5,6,7} a2 v4/0{1,2,3,4,5,6,7}{7} y- r[] o[] x{} b0" ∷
    "= 30" ∷
    "1 RegPrim c4 g0 w0 p1@4{1,2,3,4,5,6,7} a0 v4/0{1,2,3,4,5,6,7}{1} y- r[] o[] x{} b0" ∷
    "= 31" ∷
    "2 RegPrim c4 g0 w0 p1@4{1,2,3,4,5,6,7} a0 v4/0{1,2,3,4,5,6,7}{2} y- r[] o[] x{} b0" ∷
    "= 32" ∷
    "3 RegPrim c4 g0 w0 p1@4{1,2,3,4,5,6,7} a0 v4/0{1,2,3,4,5,6,7}{3} y- r[] o[] x{} b0" ∷
    "= 33" ∷
    "4 RegPrim c4 g0 w0 p1@4{1,2,3,4,5,6,7} a0 v4/0{1,2,3,4,5,6,7}{4} y- r[] o[] x{} b0" ∷
    "= 34" ∷
    "5 RegPrim c4 g0 w0 p1@4{1,2,3,4,5,6,7} a0 v4/0{1,2,3,4,5,6,7}{5} y- r[] o[] x{} b0" ∷
    "= 35" ∷
    "6 RegPrim c4 g0 w0 p1@4{1,2,3,4,5,6,7} a0 v4/0{1,2,3,4,5,6,7}{6} y- r[] o[] x{} b0" ∷
    "= 36" ∷
    "7 RegPrim c4 g0 w0 p1@4{1,2,3,4,5,6,7} a0 v4/0{1,2,3,4,5,6,7}{7} y- r[] o[] x{} b0" ∷
    "= 38" ∷
    "made 6:1 inc \"k1\" -9223372036854775808" ∷
    "6 RegPrim c4 g0 w0 p1@4{1,2,3,4,5,6,7} a0 v4/0{1,2,3,4,5,6,7}{6} y- r[] o[6:1] x{} b0" ∷
    "= 39" ∷
    "2 TransPrim t4 g0 w0 p1@4{1,2,3,4,5,6,7} a0 v4/0{1,2,3,4,5,6,7}{2} y- r[] o[] x{} b0" ∷
    "3 TransPrim t4 g0 w0 p1@4{1,2,3,4,5,6,7} a0 v4/0{1,2,3,4,5,6,7}{3} y- r[] o[] x{} b0" ∷
    "4 TransPrim t4 g0 w0 p1@4{1,2,3,4,5,6,7} a0 v4/0{1,2,3,4,5,6,7}{4} y- r[] o[] x{} b0" ∷
    "5 TransPrim t4 g0 w0 p1@4{1,2,3,4,5,6,7} a0 v4/0{1,2,3,4,5,6,7}{5} y- r[] o[] x{} b0" ∷
    "6 TransPrim t4 g0 w0 p1@4{1,2,3,4,5,6,7} a0 v4/0{1,2,3,4,5,6,7}{6} y- r[] o[6:1] x{} b0" ∷
    "= 40" ∷
    "1 TransPrim t4 g0 w0 p1@4{1,2,3,4,5,6,7} a0 v4/0{1,2,3,4,5,6,7}{1} y- r[] o[] x{} b0" ∷
    "7 TransPrim t4 g0 w0 p1@4{1,2,3,4,5,6,7} a0 v4/0{1,2,3,4,5,6,7}{7} y- r[] o[] x{} b0" ∷
    "= 41" ∷
    "1 ExchangeStates c5 g0 w0 p1@4{1,2,3,4,5,6,7} a0 v- y![] r[] o[] x{} b0" ∷
    "7 ExchangeStates c5 g0 w0 p1@4{1,2,3,4,5,6,7} a0 v- y![] r[] o[] x{} b0" ∷
    "= 42" ∷
    "2 ExchangeStates c6 g0 w0 p1@4{1,2,3,4,5,6,7} a0 v- y![] r[] o[] x{} b0" ∷
    "3 ExchangeStates c6 g0 w0 p1@4{1,2,3,4,5,6,7} a0 v- y![] r[] o[] x{} b0" ∷
    "4 ExchangeStates c6 g0 w0 p1@4{1,2,3,4,5,6,7} a0 v- y![] r[] o[] x{} b0" ∷
    "5 ExchangeStates c6 g0 w0 p1@4{1,2,3,4,5,6,7} a0 v- y![] r[] o[] x{} b0" ∷
    "6 ExchangeStates c6 g0 w0 p1@4{1,2,3,4,5,6,7} a0 v- y![] r[6:1] o[] x{} b0" ∷
    "= 43" ∷
    "dirty 2 absent" ∷
    "= 44" ∷
    "2 Down" ∷
    "= 46" ∷
    "1 NonPrim t5 g0 w0 p1@4{1,2,3,4,5,6,7} a0 v- y![] r[] o[] x{} b0" ∷
    "= 48" ∷
    "7 NonPrim c5 g0 w0 p1@4{1,2,3,4,5,6,7} a0 v- y![] r[] o[] x{} b0" ∷
    "= 49" ∷
    "3 NonPrim t6 g0 w0 p1@4{1,2,3,4,5,6,7} a0 v- y![] r[] o[] x{} b0" ∷
    "4 NonPrim t6 g0 w0 p1@4{1,2,3,4,5,6,7} a0 v- y![] r[] o[] x{} b0" ∷
    "5 NonPrim t6 g0 w0 p1@4{1,2,3,4,5,6,7} a0 v- y![] r[] o[] x{} b0" ∷
    "6 NonPrim t6 g0 w0 p1@4{1,2,3,4,5,6,7} a0 v- y![] r[6:1] o[] x{} b0" ∷
    "= 50" ∷
    "2 NonPrim - g0 w0 p1@4{1,2,3,4,5,6,7} a0 v- y![] r[] o[] x{} b0" ∷
    "= 51" ∷
    "7 NonPrim t5 g0 w0 p1@4{1,2,3,4,5,6,7} a0 v- y![] r[] o[] x{} b0" ∷
    "= 52" ∷
    "1 ExchangeStates c7 g0 w0 p1@4{1,2,3,4,5,6,7} a0 v- y![] r[] o[] x{} b0" ∷
    "2 ExchangeStates c7 g0 w0 p1@4{1,2,3,4,5,6,7} a0 v- y![] r[] o[] x{} b0" ∷
    "3 ExchangeStates c7 g0 w0 p1@4{1,2,3,4,5,6,7} a0 v- y![] r[] o[] x{} b0" ∷
    "4 ExchangeStates c7 g0 w0 p1@4{1,2,3,4,5,6,7} a0 v- y![] r[] o[] x{} b0" ∷
    "5 ExchangeStates c7 g0 w0 p1@4{1,2,3,4,5,6,7} a0 v- y![] r[] o[] x{} b0" ∷
    "6 ExchangeStates c7 g0 w0 p1@4{1,2,3,4,5,6,7} a0 v- y![] r[6:1] o[] x{} b0" ∷
    "7 ExchangeStates c7 g0 w0 p1@4{1,2,3,4,5,6,7} a0 v- y![] r[] o[] x{} b0" ∷
    "= 54" ∷
    "1 ExchangeActions c7 g0 w0 p1@4{1,2,3,4,5,6,7} a0 v- y![] r[] o[] x{} b0" ∷
    "= 55" ∷
    "2 ExchangeActions c7 g0 w0 p1@4{1,2,3,4,5,6,7} a0 v- y![] r[] o[] x{} b0" ∷
    "= 56" ∷
    "3 ExchangeActions c7 g0 w0 p1@4{1,2,3,4,5,6,7} a0 v- y![] r[] o[] x{} b0" ∷
    "= 57" ∷
    "4 ExchangeActions c7 g0 w0 p1@4{1,2,3,4,5,6,7} a0 v- y![] r[] o[] x{} b0" ∷
    "= 58" ∷
    "5 ExchangeActions c7 g0 w0 p1@4{1,2,3,4,5,6,7} a0 v- y![] r[] o[] x{} b0" ∷
    "= 59" ∷
    "6 ExchangeActions c7 g0 w0 p1@4{1,2,3,4,5,6,7} a0 v- y![] r[6:1] o[] x{} b0" ∷
    "= 60" ∷
    "7 ExchangeActions c7 g0 w0 p1@4{1,2,3,4,5,6,7} a0 v- y![] r[] o[] x{} b0" ∷
    "= 62" ∷
    "1 Construct c7 g0 w0 p1@4{1,2,3,4,5,6,7} a1 v7/1{1,2,3,4,5,6,7}{1} y![] r[6:1] o[] x{} b0" ∷
    "= 63" ∷
    "2 Construct c7 g0 w0 p1@4{1,2,3,4,5,6,7} a1 v7/1{1,2,3,4,5,6,7}{2} y![] r[6:1] o[] x{} b0" ∷
    "= 64" ∷
    "3 Construct c7 g0 w0 p1@4{1,2,3,4,5,6,7} a1 v7/1{1,2,3,4,5,6,7}{3} y![] r[6:1] o[] x{} b0" ∷
    "= 65" ∷
    "4 Construct c7 g0 w0 p1@4{1,2,3,4,5,6,7} a1 v7/1{1,2,3,4,5,6,7}{4} y![] r[6:1] o[] x{} b0" ∷
    "= 66" ∷
    "5 Construct c7 g0 w0 p1@4{1,2,3,4,5,6,7} a1 v7/1{1,2,3,4,5,6,7}{5} y![] r[6:1] o[] x{} b0" ∷
    "= 67" ∷
    "6 Construct c7 g0 w0 p1@4{1,2,3,4,5,6,7} a1 v7/1{1,2,3,4,5,6,7}{6} y![] r[6:1] o[] x{} b0" ∷
    "= 68" ∷
    "7 Construct c7 g0 w0 p1@4{1,2,3,4,5,6,7} a1 v7/1{1,2,3,4,5,6,7}{7} y![] r[6:1] o[] x{} b0" ∷
    "= 70" ∷
    "order 1 6:1" ∷
    "1 RegPrim c7 g1 w0 p2@7{1,2,3,4,5,6,7} a0 v7/1{1,2,3,4,5,6,7}{1} y- r[] o[] x{} b0" ∷
    "= 71" ∷
    "2 RegPrim c7 g1 w0 p2@7{1,2,3,4,5,6,7} a0 v7/1{1,2,3,4,5,6,7}{2} y- r[] o[] x{} b0" ∷
    "= 72" ∷
    "3 RegPrim c7 g1 w0 p2@7{1,2,3,4,5,6,7} a0 v7/1{1,2,3,4,5,6,7}{3} y- r[] o[] x{} b0" ∷
    "= 73" ∷
    "4 RegPrim c7 g1 w0 p2@7{1,2,3,4,5,6,7} a0 v7/1{1,2,3,4,5,6,7}{4} y- r[] o[] x{} b0" ∷
    "= 74" ∷
    "5 RegPrim c7 g1 w0 p2@7{1,2,3,4,5,6,7} a0 v7/1{1,2,3,4,5,6,7}{5} y- r[] o[] x{} b0" ∷
    "= 75" ∷
    "6 RegPrim c7 g1 w0 p2@7{1,2,3,4,5,6,7} a0 v7/1{1,2,3,4,5,6,7}{6} y- r[] o[] x{} b0" ∷
    "reply 6:1 done" ∷
    "= 76" ∷
    "7 RegPrim c7 g1 w0 p2@7{1,2,3,4,5,6,7} a0 v7/1{1,2,3,4,5,6,7}{7} y- r[] o[] x{} b0" ∷
    "= 79" ∷
    "made 6:2 put \"a\" 29" ∷
    "6 RegPrim c7 g1 w0 p2@7{1,2,3,4,5,6,7} a0 v7/1{1,2,3,4,5,6,7}{6} y- r[] o[6:2] x{} b0" ∷
    "= 81" ∷
    "made 5:1 del \"k2\"" ∷
    "5 RegPrim c7 g1 w0 p2@7{1,2,3,4,5,6,7} a0 v7/1{1,2,3,4,5,6,7}{5} y- r[] o[5:1] x{} b0" ∷
    "= 82" ∷
    "made 2:1 put \"z\" -8; inc \"abc\" 4; cas \"abc\" 9223372036854775807 11 ? get \"a\"" ∷
    "2 RegPrim c7 g1 w0 p2@7{1,2,3,4,5,6,7} a0 v7/1{1,2,3,4,5,6,7}{2} y- r[] o[2:1] x{} b0" ∷
    "= 86" ∷
    "order 2 2:1" ∷
    "order 3 5:1" ∷
    "order 4 6:2" ∷
    "3 RegPrim c7 g4 w0 p2@7{1,2,3,4,5,6,7} a0 v7/1{1,2,3,4,5,6,7}{3} y- r[] o[] x{} b0" ∷
    "= 88" ∷
    "1 RegPrim c7 g4 w0 p2@7{1,2,3,4,5,6,7} a0 v7/1{1,2,3,4,5,6,7}{1} y- r[] o[] x{} b0" ∷
    "= 89" ∷
    "2 RegPrim c7 g4 w0 p2@7{1,2,3,4,5,6,7} a0 v7/1{1,2,3,4,5,6,7}{2} y- r[] o[] x{} b0" ∷
    "reply 2:1 done ? absent" ∷
    "= 90" ∷
    "4 RegPrim c7 g4 w0 p2@7{1,2,3,4,5,6,7} a0 v7/1{1,2,3,4,5,6,7}{4} y- r[] o[] x{} b0" ∷
    "= 91" ∷
    "5 RegPrim c7 g4 w0 p2@7{1,2,3,4,5,6,7} a0 v7/1{1,2,3,4,5,6,7}{5} y- r[] o[] x{} b0" ∷
    "reply 5:1 done" ∷
    "= 92" ∷
    "6 RegPrim c7 g4 w0 p2@7{1,2,3,4,5,6,7} a0 v7/1{1,2,3,4,5,6,7}{6} y- r[] o[] x{} b0" ∷
    "reply 6:2 done" ∷
    "= 93" ∷
    "7 RegPrim c7 g4 w0 p2@7{1,2,3,4,5,6,7} a0 v7/1{1,2,3,4,5,6,7}{7} y- r[] o[] x{} b0" ∷
    "= 98" ∷
    "made 1:1 put \"k1\" 5" ∷
    "1 RegPrim c7 g4 w0 p2@7{1,2,3,4,5,6,7} a0 v7/1{1,2,3,4,5,6,7}{1} y- r[] o[1:1] x{} b0" ∷
    "= 99" ∷
    "2 TransPrim t7 g4 w0 p2@7{1,2,3,4,5,6,7} a0 v7/1{1,2,3,4,5,6,7}{2} y- r[] o[] x{} b0" ∷
    "4 TransPrim t7 g4 w0 p2@7{1,2,3,4,5,6,7} a0 v7/1{1,2,3,4,5,6,7}{4} y- r[] o[] x{} b0" ∷
    "6 TransPrim t7 g4 w0 p2@7{1,2,3,4,5,6,7} a0 v7/1{1,2,3,4,5,6,7}{6} y- r[] o[] x{} b0" ∷
    "= 100" ∷
    "made 7:1 put \"x\" 45 ? get \"y\"" ∷
    "7 RegPrim c7 g4 w0 p2@7{1,2,3,4,5,6,7} a0 v7/1{1,2,3,4,5,6,7}{7} y- r[] o[7:1] x{} b0" ∷
    "= 101" ∷
    "made 7:2 put \"y\" 89" ∷
    "7 RegPrim c7 g4 w0 p2@7{1,2,3,4,5,6,7} a0 v7/1{1,2,3,4,5,6,7}{7} y- r[] o[7:1,7:2] x{} b0" ∷
    "= 104" ∷
    "1 TransPrim t7 g4 w0 p2@7{1,2,3,4,5,6,7} a0 v7/1{1,2,3,4,5,6,7}{1} y?[1:1,7:1] r[] o[] x{} b0" ∷
    "5 TransPrim t7 g4 w0 p2@7{1,2,3,4,5,6,7} a0 v7/1{1,2,3,4,5,6,7}{5} y?[1:1,7:1] r[] o[] x{} b0" ∷
    "7 TransPrim t7 g4 w0 p2@7{1,2,3,4,5,6,7} a0 v7/1{1,2,3,4,5,6,7}{7} y?[1:1,7:1] r[] o[7:2] x{} b0" ∷
    "= 105" ∷
    "2 ExchangeStates c8 g4 w0 p2@7{1,2,3,4,5,6,7} a0 v- y![] r[] o[] x{} b0" ∷
    "4 ExchangeStates c8 g4 w0 p2@7{1,2,3,4,5,6,7} a0 v- y![] r[] o[] x{} b0" ∷
    "6 ExchangeStates c8 g4 w0 p2@7{1,2,3,4,5,6,7} a0 v- y![] r[] o[] x{} b0" ∷
    "= 106" ∷
    "5 TransPrim t7 g4 w0 p2@7{1,2,3,4,5,6,7} a0 v7/1{1,2,3,4,5,6,7}{5} y?[1:1,7:1] r[] o[] x{} b1" ∷
    "= 108" ∷
    "6 ExchangeStates c8 g4 w0 p2@7{1,2,3,4,5,6,7} a0 v- y![] r[] o[] x{} b1" ∷
    "end 108" ∷
    [])
unfolding cases_compute
seven_replicas_primary_lost_and_reds_ordered_crash_in_a_device_call_a = refl

-- Replicas at the start: 6: actions are ordered.
six_replicas_actions_ordered_a :
    replayed_text (
    "start 1 2 3 4 5 6" ∷
    "merge 1 2 3 4 5 6" ∷
    "rounds 3" ∷
    "request 1 put \"it's\" -1" ∷
    "show order" ∷
    "request 6 inc \"y\" -1" ∷
    "request 5 put \"x\" 0" ∷
    "request 6 put \"long-key\" 36 ? get \"y\"" ∷
    "request 6 inc \"z~\" 9223372036854775806 ? get \"x\"" ∷
    "request 3 inc \"a\" 2" ∷
    "rounds 3" ∷
    "request 2 put \"it's\" 81" ∷
    "rounds 1" ∷
    "show order" ∷
    "request 4 inc \"x\" 34" ∷
    "request 1 inc \"z~\" 14" ∷
    "request 3 put \"it's\" 0" ∷
    "end" ∷
    [])
    ≡ written (
    "= 1" ∷
    "1 NonPrim - g0 w0 p0@0{1,2,3,4,5,6} a0 v- y- r[] o[] x{} b0" ∷
    "2 NonPrim - g0 w0 p0@0{1,2,3,4,5,6} a0 v- y- r[] o[] x{} b0" ∷
    "3 NonPrim - g0 w0 p0@0{1,2,3,4,5,6} a0 v- y- r[] o[] x{} b0" ∷
    "4 NonPrim - g0 w0 p0@0{1,2,3,4,5,6} a0 v- y- r[] o[] x{} b0" ∷
    "5 NonPrim - g0 w0 p0@0{1,2,3,4,5,6} a0 v- y- r[] o[] x{} b0" ∷
    "6 NonPrim - g0 w0 p0@0{1,2,3,4,5,6} a0 v- y- r[] o[] x{} b0" ∷
    "= 2" ∷
    "1 ExchangeStates c1 g0 w0 p0@0{1,2,3,4,5,6} a0 v- y- r[] o[] x{} b0" ∷
    "2 ExchangeStates c1 g0 w0 p0@0{1,2,3,4,5,6} a0 v- y- r[] o[] x{} b0" ∷
    "3 ExchangeStates c1 g0 w0 p0@0{1,2,3,4,5,6} a0 v- y- r[] o[] x{} b0" ∷
    "4 ExchangeStates c1 g0 w0 p0@0{1,2,3,4,5,6} a0 v- y- r[] o[] x{} b0" ∷
    "5 ExchangeStates c1 g0 w0 p0@0{1,2,3,4,5,6} a0 v- y- r[] o[] x{} b0" ∷
    "6 ExchangeStates c1 g0 w0 p0@0{1,2,3,4,5,6} a0 v- y- r[] o[] x{} b0" ∷
    "= 4" ∷
    "1 Construct c1 g0 w0 p0@0{1,2,3,4,5,6} a1 v1/0{1,2,3,4,5,6}{1} y- r[] o[] x{} b0" ∷
    "= 5" ∷
    "2 Construct c1 g0 w0 p0@0{1,2,3,4,5,6} a1 v1/0{1,2,3,4,5,6}{2} y- r[] o[] x{} b0" ∷
    "= 6" ∷
    "3 Construct c1 g0 w0 p0@0{1,2,3,4,5,6} a1 v1/0{1,2,3,4,5,6}{3} y- r[] o[] x{} b0" ∷
    "= 7" ∷
    "4 Construct c1 g0 w0 p0@0{1,2,3,4,5,6} a1 v1/0{1,2,3,4,5,6}{4} y- r[] o[] x{} b0" ∷
    "= 8" ∷
    "5 Construct c1 g0 w0 p0@0{1,2,3,4,5,6} a1 v1/0{1,2,3,4,5,6}{5} y- r[] o[] x{} b0" ∷
    "= 9" ∷
    "6 Construct c1 g0 w0 p0@0{1,2,3,4,5,6} a1 v1/0{1,2,3,4,5,6}{6} y- r[] o[] x{} b0" ∷
    "= 11" ∷
    "1 RegPrim c1 g0 w0 p1@1{1,2,3,4,5,6} a0 v1/0{1,2,3,4,5,6}{1} y- r[] o[] x{} b0" ∷
    "= 12" ∷
    "2 RegPrim c1 g0 w0 p1@1{1,2,3,4,5,6} a0 v1/0{1,2,3,4,5,6}{2} y- r[] o[] x{} b0" ∷
    "= 13" ∷
    "3 RegPrim c1 g0 w0 p1@1{1,2,3,4,5,6} a0 v1/0{1,2,3,4,5,6}{3} y- r[] o[] x{} b0" ∷
    "= 14" ∷
    "4 RegPrim c1 g0 w0 p1@1{1,2,3,4,5,6} a0 v1/0{1,2,3,4,5,6}{4} y- r[] o[] x{} b0" ∷
    "= 15" ∷
    "5 RegPrim c1 g0 w0 p1@1{1,2,3,4,5,6} a0 v1/0{1,2,3,4,5,6}{5} y- r[] o[] x{} b0" ∷
    "= 16" ∷
    "6 RegPrim c1 g0 w0 p1@1{1,2,3,4,5,6} a0 v1/0{1,2,3,4,5,6}{6} y- r[] o[] x{} b0" ∷
    "= 18" ∷
    "made 1:1 put \"it's\" -1" ∷
    "1 RegPrim c1 g0 w0 p1@1{1,2,3,4,5,6} a0 v1/0{1,2,3,4,5,6}{1} y- r[] o[1:1] x{} b0" ∷
    "= 19" ∷
    "all []" ∷
    "= 20" ∷
    "made 6:1 inc \"y\" -1" ∷
    "6 RegPrim c1 g0 w0 p1@1{1,2,3,4,5,6} a0 v1/0{1,2,3,4,5,6}{6} y- r[] o[6:1] x{} b0" ∷
    "= 21" ∷
    "made 5:1 put \"x\" 0" ∷
    "5 RegPrim c1 g0 w0 p1@1{1,2,3,4,5,6} a0 v1/0{1,2,3,4,5,6}{5} y- r[] o[5:1] x{} b0" ∷
    "= 22" ∷
    "made 6:2 put \"long-key\" 36 ? get \"y\"" ∷
    "6 RegPrim c1 g0 w0 p1@1{1,2,3,4,5,6} a0 v1/0{1,2,3,4,5,6}{6} y- r[] o[6:1,6:2] x{} b0" ∷
    "= 23" ∷
    "made 6:3 inc \"z~\" 9223372036854775806 ? get \"x\"" ∷
    "6 RegPrim c1 g0 w0 p1@1{1,2,3,4,5,6} a0 v1/0{1,2,3,4,5,6}{6} y- r[] o[6:1,6:2,6:3] x{} b0" ∷
    "= 24" ∷
    "made 3:1 inc \"a\" 2" ∷
    "3 RegPrim c1 g0 w0 p1@1{1,2,3,4,5,6} a0 v1/0{1,2,3,4,5,6}{3} y- r[] o[3:1] x{} b0" ∷
    "= 26" ∷
    "order 1 1:1" ∷
    "order 2 3:1" ∷
    "order 3 5:1" ∷
    "order 4 6:1" ∷
    "order 5 6:2" ∷
    "order 6 6:3" ∷
    "1 RegPrim c1 g6 w0 p1@1{1,2,3,4,5,6} a0 v1/0{1,2,3,4,5,6}{1} y- r[] o[] x{} b0" ∷
    "reply 1:1 done" ∷
    "= 27" ∷
    "2 RegPrim c1 g6 w0 p1@1{1,2,3,4,5,6} a0 v1/0{1,2,3,4,5,6}{2} y- r[] o[] x{} b0" ∷
    "= 28" ∷
    "3 RegPrim c1 g6 w0 p1@1{1,2,3,4,5,6} a0 v1/0{1,2,3,4,5,6}{3} y- r[] o[] x{} b0" ∷
    "reply 3:1 done" ∷
    "= 29" ∷
    "4 RegPrim c1 g6 w0 p1@1{1,2,3,4,5,6} a0 v1/0{1,2,3,4,5,6}{4} y- r[] o[] x{} b0" ∷
    "= 30" ∷
    "5 RegPrim c1 g6 w0 p1@1{1,2,3,4,5,6} a0 v1/0{1,2,3,4,5,6}{5} y- r[] o[] x{} b0" ∷
    "reply 5:1 done" ∷
    "= 31" ∷
    "6 RegPrim c1 g6 w0 p1@1{1,2,3,4,5,6} a0 v1/0{1,2,3,4,5,6}{6} y- r[] o[] x{} b0" ∷
    "reply 6:1 done" ∷
    "reply 6:2 done ? -1" ∷
    "reply 6:3 done ? 0" ∷
    "= 34" ∷
    "made 2:1 put \"it's\" 81" ∷
    "2 RegPrim c1 g6 w0 p1@1{1,2,3,4,5,6} a0 v1/0{1,2,3,4,5,6}{2} y- r[] o[2:1] x{} b0" ∷
    "= 36" ∷
    "order 7 2:1" ∷
    "1 RegPrim c1 g7 w0 p1@1{1,2,3,4,5,6} a0 v1/0{1,2,3,4,5,6}{1} y- r[] o[] x{} b0" ∷
    "= 37" ∷
    "2 RegPrim c1 g7 w0 p1@1{1,2,3,4,5,6} a0 v1/0{1,2,3,4,5,6}{2} y- r[] o[] x{} b0" ∷
    "reply 2:1 done" ∷
    "= 38" ∷
    "3 RegPrim c1 g7 w0 p1@1{1,2,3,4,5,6} a0 v1/0{1,2,3,4,5,6}{3} y- r[] o[] x{} b0" ∷
    "= 39" ∷
    "4 RegPrim c1 g7 w0 p1@1{1,2,3,4,5,6} a0 v1/0{1,2,3,4,5,6}{4} y- r[] o[] x{} b0" ∷
    "= 40" ∷
    "5 RegPrim c1 g7 w0 p1@1{1,2,3,4,5,6} a0 v1/0{1,2,3,4,5,6}{5} y- r[] o[] x{} b0" ∷
    "= 41" ∷
    "6 RegPrim c1 g7 w0 p1@1{1,2,3,4,5,6} a0 v1/0{1,2,3,4,5,6}{6} y- r[] o[] x{} b0" ∷
    "= 42" ∷
    "all [1:1,3:1,5:1,6:1,6:2,6:3,2:1]" ∷
    "= 43" ∷
    "made 4:1 inc \"x\" 34" ∷
    "4 RegPrim c1 g7 w0 p1@1{1,2,3,4,5,6} a0 v1/0{1,2,3,4,5,6}{4} y- r[] o[4:1] x{} b0" ∷
    "= 44" ∷
    "made 1:2 inc \"z~\" 14" ∷
    "1 RegPrim c1 g7 w0 p1@1{1,2,3,4,5,6} a0 v1/0{1,2,3,4,5,6}{1} y- r[] o[1:2] x{} b0" ∷
    "= 45" ∷
    "made 3:2 put \"it's\" 0" ∷
    "3 RegPrim c1 g7 w0 p1@1{1,2,3,4,5,6} a0 v1/0{1,2,3,4,5,6}{3} y- r[] o[3:2] x{} b0" ∷
    "end 45" ∷
    [])
unfolding cases_compute
six_replicas_actions_ordered_a = refl

-- Replicas at the start: 6: several primaries follow one another; a server that was removed is told so; a snapshot is handed on in pieces.
six_replicas_several_primaries_leaver_joiner_a :
    replayed_text (
    "start 1 2 3 4 5 6" ∷
    "merge 1 2 3 4 5 6" ∷
    "rounds 2" ∷
    "leave 2 3" ∷
    "leave 6 3" ∷
    "leave 4 4" ∷
    "gather" ∷
    "split 1 2 3 4 5 6" ∷
    "merge 1 2 3 4 5 6" ∷
    "leave 3 5" ∷
    "rounds 3" ∷
    "rounds 2" ∷
    "join 4 16" ∷
    "rounds 2" ∷
    "join 6 10" ∷
    "gather" ∷
    "request 4 cas \"y\" 19 \"v\"" ∷
    "rounds 2" ∷
    "gather" ∷
    "gather" ∷
    "gather" ∷
    "gather" ∷
    "split 2 3 4 5 6" ∷
    "merge 2 3 4 5 6" ∷
    "order 2" ∷
    "receive 5 1" ∷
    "receive 4 1" ∷
    "gather" ∷
    "split 4" ∷
    "merge 4" ∷
    "request 1 inc \"y\" 3 ? count" ∷
    "deliver 2 5" ∷
    "join 1 7" ∷
    "deliver 6 3" ∷
    "deliver 3 5" ∷
    "deliver 5 5" ∷
    "deliver 6 2" ∷
    "request 1 move \"abc\" \"a\" 9223372036854775807" ∷
    "gather" ∷
    "split 2 3 5" ∷
    "split 6" ∷
    "merge 6" ∷
    "merge 2" ∷
    "transfer 4 16 1" ∷
    "deliver 4 1" ∷
    "split 1" ∷
    "split 4" ∷
    "split 6" ∷
    "split 2" ∷
    "merge 1 2 6" ∷
    "rounds 2" ∷
    "rounds 1" ∷
    "leave 2 10" ∷
    "end" ∷
    [])
    ≡ written (
    "= 1" ∷
    "1 NonPrim - g0 w0 p0@0{1,2,3,4,5,6} a0 v- y- r[] o[] x{} b0" ∷
    "2 NonPrim - g0 w0 p0@0{1,2,3,4,5,6} a0 v- y- r[] o[] x{} b0" ∷
    "3 NonPrim - g0 w0 p0@0{1,2,3,4,5,6} a0 v- y- r[] o[] x{} b0" ∷
    "4 NonPrim - g0 w0 p0@0{1,2,3,4,5,6} a0 v- y- r[] o[] x{} b0" ∷
    "5 NonPrim - g0 w0 p0@0{1,2,3,4,5,6} a0 v- y- r[] o[] x{} b0" ∷
    "6 NonPrim - g0 w0 p0@0{1,2,3,4,5,6} a0 v- y- r[] o[] x{} b0" ∷
    "= 2" ∷
    "1 ExchangeStates c1 g0 w0 p0@0{1,2,3,4,5,6} a0 v- y- r[] o[] x{} b0" ∷
    "2 ExchangeStates c1 g0 w0 p0@0{1,2,3,4,5,6} a0 v- y- r[] o[] x{} b0" ∷
    "3 ExchangeStates c1 g0 w0 p0@0{1,2,3,4,5,6} a0 v- y- r[] o[] x{} b0" ∷
    "4 ExchangeStates c1 g0 w0 p0@0{1,2,3,4,5,6} a0 v- y- r[] o[] x{} b0" ∷
    "5 ExchangeStates c1 g0 w0 p0@0{1,2,3,4,5,6} a0 v- y- r[] o[] x{} b0" ∷
    "6 ExchangeStates c1 g0 w0 p0@0{1,2,3,4,5,6} a0 v- y- r[] o[] x{} b0" ∷
    "= 4" ∷
    "1 Construct c1 g0 w0 p0@0{1,2,3,4,5,6} a1 v1/0{1,2,3,4,5,6}{1} y- r[] o[] x{} b0" ∷
    "= 5" ∷
    "2 Construct c1 g0 w0 p0@0{1,2,3,4,5,6} a1 v1/0{1,2,3,4,5,6}{2} y- r[] o[] x{} b0" ∷
    "= 6" ∷
    "3 Construct c1 g0 w0 p0@0{1,2,3,4,5,6} a1 v1/0{1,2,3,4,5,6}{3} y- r[] o[] x{} b0" ∷
    "= 7" ∷
    "4 Construct c1 g0 w0 p0@0{1,2,3,4,5,6} a1 v1/0{1,2,3,4,5,6}{4} y- r[] o[] x{} b0" ∷
    "= 8" ∷
    "5 Construct c1 g0 w0 p0@0{1,2,3,4,5,6} a1 v1/0{1,2,3,4,5,6}{5} y- r[] o[] x{} b0" ∷
    "= 9" ∷
    "6 Construct c1 g0 w0 p0@0{1,2,3,4,5,6} a1 v1/0{1,2,3,4,5,6}{6} y- r[] o[] x{} b0" ∷
    "= 11" ∷
    "1 RegPrim c1 g0 w0 p1@1{1,2,3,4,5,6} a0 v1/0{1,2,3,4,5,6}{1} y- r[] o[] x{} b0" ∷
    "= 12" ∷
    "2 RegPrim c1 g0 w0 p1@1{1,2,3,4,5,6} a0 v1/0{1,2,3,4,5,6}{2} y- r[] o[] x{} b0" ∷
    "= 13" ∷
    "3 RegPrim c1 g0 w0 p1@1{1,2,3,4,5,6} a0 v1/0{1,2,3,4,5,6}{3} y- r[] o[] x{} b0" ∷
    "= 14" ∷
    "4 RegPrim c1 g0 w0 p1@1{1,2,3,4,5,6} a0 v1/0{1,2,3,4,5,6}{4} y- r[] o[] x{} b0" ∷
    "= 15" ∷
    "5 RegPrim c1 g0 w0 p1@1{1,2,3,4,5,6} a0 v1/0{1,2,3,4,5,6}{5} y- r[] o[] x{} b0" ∷
    "= 16" ∷
    "6 RegPrim c1 g0 w0 p1@1{1,2,3,4,5,6} a0 v1/0{1,2,3,4,5,6}{6} y- r[] o[] x{} b0" ∷
    "= 17" ∷
    "made 2:1 leave 3" ∷
    "2 RegPrim c1 g0 w0 p1@1{1,2,3,4,5,6} a0 v1/0{1,2,3,4,5,6}{2} y- r[] o[2:1] x{} b0" ∷
    "= 18" ∷
    "made 6:1 leave 3" ∷
    "6 RegPrim c1 g0 w0 p1@1{1,2,3,4,5,6} a0 v1/0{1,2,3,4,5,6}{6} y- r[] o[6:1] x{} b0" ∷
    "= 19" ∷
    "made 4:1 leave 4" ∷
    "4 RegPrim c1 g0 w0 p1@1{1,2,3,4,5,6} a0 v1/0{1,2,3,4,5,6}{4} y- r[] o[4:1] x{} b0" ∷
    "= 21" ∷
    "1 TransPrim t1 g0 w0 p1@1{1,2,3,4,5,6} a0 v1/0{1,2,3,4,5,6}{1} y?[2:1,4:1,6:1] r[] o[] x{} b0" ∷
    "2 TransPrim t1 g0 w0 p1@1{1,2,3,4,5,6} a0 v1/0{1,2,3,4,5,6}{2} y?[2:1,4:1,6:1] r[] o[] x{} b0" ∷
    "3 TransPrim t1 g0 w0 p1@1{1,2,3,4,5,6} a0 v1/0{1,2,3,4,5,6}{3} y?[2:1,4:1,6:1] r[] o[] x{} b0" ∷
    "4 TransPrim t1 g0 w0 p1@1{1,2,3,4,5,6} a0 v1/0{1,2,3,4,5,6}{4} y?[2:1,4:1,6:1] r[] o[] x{} b0" ∷
    "5 TransPrim t1 g0 w0 p1@1{1,2,3,4,5,6} a0 v1/0{1,2,3,4,5,6}{5} y?[2:1,4:1,6:1] r[] o[] x{} b0" ∷
    "6 TransPrim t1 g0 w0 p1@1{1,2,3,4,5,6} a0 v1/0{1,2,3,4,5,6}{6} y?[2:1,4:1,6:1] r[] o[] x{} b0" ∷
    "= 22" ∷
    "1 ExchangeStates c2 g0 w0 p1@1{1,2,3,4,5,6} a0 v- y![2:1,4:1,6:1] r[] o[] x{} b0" ∷
    "2 ExchangeStates c2 g0 w0 p1@1{1,2,3,4,5,6} a0 v- y![2:1,4:1,6:1] r[] o[] x{} b0" ∷
    "3 ExchangeStates c2 g0 w0 p1@1{1,2,3,4,5,6} a0 v- y![2:1,4:1,6:1] r[] o[] x{} b0" ∷
    "4 ExchangeStates c2 g0 w0 p1@1{1,2,3,4,5,6} a0 v- y![2:1,4:1,6:1] r[] o[] x{} b0" ∷
    "5 ExchangeStates c2 g0 w0 p1@1{1,2,3,4,5,6} a0 v- y![2:1,4:1,6:1] r[] o[] x{} b0" ∷
    "6 ExchangeStates c2 g0 w0 p1@1{1,2,3,4,5,6} a0 v- y![2:1,4:1,6:1] r[] o[] x{} b0" ∷
    "= 23" ∷
    "3 ExchangeStates c2 g0 w0 p1@1{1,2,3,4,5,6} a0 v- y![2:1,4:1,6:1] r[] o[] x{} b1" ∷
    "= 25" ∷
    "1 Construct c2 g0 w0 p1@1{1,2,3,4,5,6} a1 v2/1{1,2,3,4,5,6}{1} y![2:1,4:1,6:1] r[] o[] x{} b0" ∷
    "= 26" ∷
    "2 Construct c2 g0 w0 p1@1{1,2,3,4,5,6} a1 v2/1{1,2,3,4,5,6}{2} y![2:1,4:1,6:1] r[] o[] x{} b0" ∷
    "= 27" ∷
    "3 Construct c2 g0 w0 p1@1{1,2,3,4,5,6} a1 v2/1{1,2,3,4,5,6}{3} y![2:1,4:1,6:1] r[] o[] x{} b1" ∷
    "= 28" ∷
    "4 Construct c2 g0 w0 p1@1{1,2,3,4,5,6} a1 v2/1{1,2,3,4,5,6}{4} y![2:1,4:1,6:1] r[] o[] x{} b0" ∷
    "= 29" ∷
    "5 Construct c2 g0 w0 p1@1{1,2,3,4,5,6} a1 v2/1{1,2,3,4,5,6}{5} y![2:1,4:1,6:1] r[] o[] x{} b0" ∷
    "= 30" ∷
    "6 Construct c2 g0 w0 p1@1{1,2,3,4,5,6} a1 v2/1{1,2,3,4,5,6}{6} y![2:1,4:1,6:1] r[] o[] x{} b0" ∷
    "= 32" ∷
    "order 1 2:1" ∷
    "order 2 4:1" ∷
    "order 3 6:1" ∷
    "1 RegPrim c2 g3 w0 p2@2{1,2,3,4,5,6} a0 v2/1{1,2,3,4,5,6}{1} y- r[] o[] x{3,4} b0" ∷
    "= 33" ∷
    "2 RegPrim c2 g3 w0 p2@2{1,2,3,4,5,6} a0 v2/1{1,2,3,4,5,6}{2} y- r[] o[] x{3,4} b0" ∷
    "reply 2:1 done" ∷
    "= 34" ∷
    "made 3:1 leave 5" ∷
    "3 RegPrim c2 g3 w0 p2@2{1,2,3,4,5,6} a0 v2/1{1,2,3,4,5,6}{3} y- r[] o[3:1] x{3,4} b0" ∷
    "= 35" ∷
    "4 RegPrim c2 g3 w0 p2@2{1,2,3,4,5,6} a0 v2/1{1,2,3,4,5,6}{4} y- r[] o[] x{3,4} b0" ∷
    "reply 4:1 done" ∷
    "= 36" ∷
    "5 RegPrim c2 g3 w0 p2@2{1,2,3,4,5,6} a0 v2/1{1,2,3,4,5,6}{5} y- r[] o[] x{3,4} b0" ∷
    "= 37" ∷
    "6 RegPrim c2 g3 w0 p2@2{1,2,3,4,5,6} a0 v2/1{1,2,3,4,5,6}{6} y- r[] o[] x{3,4} b0" ∷
    "reply 6:1 done" ∷
    "= 39" ∷
    "order 4 3:1" ∷
    "1 RegPrim c2 g4 w0 p2@2{1,2,3,4,5,6} a0 v2/1{1,2,3,4,5,6}{1} y- r[] o[] x{3,4,5} b0" ∷
    "= 40" ∷
    "2 RegPrim c2 g4 w0 p2@2{1,2,3,4,5,6} a0 v2/1{1,2,3,4,5,6}{2} y- r[] o[] x{3,4,5} b0" ∷
    "= 41" ∷
    "3 RegPrim c2 g4 w0 p2@2{1,2,3,4,5,6} a0 v2/1{1,2,3,4,5,6}{3} y- r[] o[] x{3,4,5} b0" ∷
    "reply 3:1 done" ∷
    "= 42" ∷
    "4 RegPrim c2 g4 w0 p2@2{1,2,3,4,5,6} a0 v2/1{1,2,3,4,5,6}{4} y- r[] o[] x{3,4,5} b0" ∷
    "= 43" ∷
    "5 RegPrim c2 g4 w0 p2@2{1,2,3,4,5,6} a0 v2/1{1,2,3,4,5,6}{5} y- r[] o[] x{3,4,5} b0" ∷
    "= 44" ∷
    "6 RegPrim c2 g4 w0 p2@2{1,2,3,4,5,6} a0 v2/1{1,2,3,4,5,6}{6} y- r[] o[] x{3,4,5} b0" ∷
    "= 47" ∷
    "made 4:2 join 16" ∷
    "4 RegPrim c2 g4 w0 p2@2{1,2,3,4,5,6} a0 v2/1{1,2,3,4,5,6}{4} y- r[] o[4:2] x{3,4,5} b0" ∷
    "= 49" ∷
    "order 5 4:2" ∷
    "1 RegPrim c2 g5 w0 p2@2{1,2,3,4,5,6} a0 v2/1{1,2,3,4,5,6}{1} y- r[] o[] x{3,4,5} b0" ∷
    "= 50" ∷
    "2 RegPrim c2 g5 w0 p2@2{1,2,3,4,5,6} a0 v2/1{1,2,3,4,5,6}{2} y- r[] o[] x{3,4,5} b0" ∷
    "= 51" ∷
    "3 RegPrim c2 g5 w0 p2@2{1,2,3,4,5,6} a0 v2/1{1,2,3,4,5,6}{3} y- r[] o[] x{3,4,5} b0" ∷
    "= 52" ∷
    "4 RegPrim c2 g5 w0 p2@2{1,2,3,4,5,6} a0 v2/1{1,2,3,4,5,6}{4} y- r[] o[] x{3,4,5} b0" ∷
    "reply 4:2 done" ∷
    "= 53" ∷
    "5 RegPrim c2 g5 w0 p2@2{1,2,3,4,5,6} a0 v2/1{1,2,3,4,5,6}{5} y- r[] o[] x{3,4,5} b0" ∷
    "= 54" ∷
    "6 RegPrim c2 g5 w0 p2@2{1,2,3,4,5,6} a0 v2/1{1,2,3,4,5,6}{6} y- r[] o[] x{3,4,5} b0" ∷
    "= 56" ∷
    "made 6:2 join 10" ∷
    "6 RegPrim c2 g5 w0 p2@2{1,2,3,4,5,6} a0 v2/1{1,2,3,4,5,6}{6} y- r[] o[6:2] x{3,4,5} b0" ∷
    "= 58" ∷
    "made 4:3 cas \"y\" 19 \"v\"" ∷
    "4 RegPrim c2 g5 w0 p2@2{1,2,3,4,5,6} a0 v2/1{1,2,3,4,5,6}{4} y- r[] o[4:3] x{3,4,5} b0" ∷
    "= 60" ∷
    "order 6 6:2" ∷
    "order 7 4:3" ∷
    "1 RegPrim c2 g7 w0 p2@2{1,2,3,4,5,6} a0 v2/1{1,2,3,4,5,6}{1} y- r[] o[] x{3,4,5} b0" ∷
    "= 61" ∷
    "2 RegPrim c2 g7 w0 p2@2{1,2,3,4,5,6} a0 v2/1{1,2,3,4,5,6}{2} y- r[] o[] x{3,4,5} b0" ∷
    "= 62" ∷
    "3 RegPrim c2 g7 w0 p2@2{1,2,3,4,5,6} a0 v2/1{1,2,3,4,5,6}{3} y- r[] o[] x{3,4,5} b0" ∷
    "= 63" ∷
    "4 RegPrim c2 g7 w0 p2@2{1,2,3,4,5,6} a0 v2/1{1,2,3,4,5,6}{4} y- r[] o[] x{3,4,5} b0" ∷
    "reply 4:3 done" ∷
    "= 64" ∷
    "5 RegPrim c2 g7 w0 p2@2{1,2,3,4,5,6} a0 v2/1{1,2,3,4,5,6}{5} y- r[] o[] x{3,4,5} b0" ∷
    "= 65" ∷
    "6 RegPrim c2 g7 w0 p2@2{1,2,3,4,5,6} a0 v2/1{1,2,3,4,5,6}{6} y- r[] o[] x{3,4,5} b0" ∷
    "reply 6:2 done" ∷
    "= 71" ∷
    "2 TransPrim t2 g7 w0 p2@2{1,2,3,4,5,6} a0 v2/1{1,2,3,4,5,6}{2} y- r[] o[] x{3,4,5} b0" ∷
    "3 TransPrim t2 g7 w0 p2@2{1,2,3,4,5,6} a0 v2/1{1,2,3,4,5,6}{3} y- r[] o[] x{3,4,5} b0" ∷
    "4 TransPrim t2 g7 w0 p2@2{1,2,3,4,5,6} a0 v2/1{1,2,3,4,5,6}{4} y- r[] o[] x{3,4,5} b0" ∷
    "5 TransPrim t2 g7 w0 p2@2{1,2,3,4,5,6} a0 v2/1{1,2,3,4,5,6}{5} y- r[] o[] x{3,4,5} b0" ∷
    "6 TransPrim t2 g7 w0 p2@2{1,2,3,4,5,6} a0 v2/1{1,2,3,4,5,6}{6} y- r[] o[] x{3,4,5} b0" ∷
    "= 72" ∷
    "2 ExchangeStates c3 g7 w0 p2@2{1,2,3,4,5,6} a0 v- y![] r[] o[] x{3,4,5} b0" ∷
    "3 ExchangeStates c3 g7 w0 p2@2{1,2,3,4,5,6} a0 v- y![] r[] o[] x{3,4,5} b0" ∷
    "4 ExchangeStates c3 g7 w0 p2@2{1,2,3,4,5,6} a0 v- y![] r[] o[] x{3,4,5} b0" ∷
    "5 ExchangeStates c3 g7 w0 p2@2{1,2,3,4,5,6} a0 v- y![] r[] o[] x{3,4,5} b0" ∷
    "6 ExchangeStates c3 g7 w0 p2@2{1,2,3,4,5,6} a0 v- y![] r[] o[] x{3,4,5} b0" ∷
    "= 77" ∷
    "4 NonPrim t3 g7 w0 p2@2{1,2,3,4,5,6} a0 v- y![] r[] o[] x{3,4,5} b0" ∷
    "= 78" ∷
    "4 ExchangeStates c4 g7 w0 p2@2{1,2,3,4,5,6} a0 v- y![] r[] o[] x{3,4,5} b0" ∷
    "= 79" ∷
    "made 1:1 inc \"y\" 3 ? count" ∷
    "1 RegPrim c2 g7 w0 p2@2{1,2,3,4,5,6} a0 v2/1{1,2,3,4,5,6}{1} y- r[] o[1:1] x{3,4,5} b0" ∷
    "= 80" ∷
    "2 NonPrim c3 g7 w0 p2@2{1,2,3,4,5,6} a0 v- y![] r[] o[] x{3,4,5} b0" ∷
    "= 81" ∷
    "made 1:2 join 7" ∷
    "1 RegPrim c2 g7 w0 p2@2{1,2,3,4,5,6} a0 v2/1{1,2,3,4,5,6}{1} y- r[] o[1:1,1:2] x{3,4,5} b0" ∷
    "= 83" ∷
    "3 Left c3 g7 w0 p2@2{1,2,3,4,5,6} a0 v- y![] r[] o[] x{3,4,5} b0" ∷
    "= 84" ∷
    "5 Left c3 g7 w0 p2@2{1,2,3,4,5,6} a0 v- y![] r[] o[] x{3,4,5} b0" ∷
    "= 85" ∷
    "6 NonPrim c3 g7 w0 p2@2{1,2,3,4,5,6} a0 v- y![] r[] o[] x{3,4,5} b0" ∷
    "= 86" ∷
    "made 1:3 move \"abc\" \"a\" 9223372036854775807" ∷
    "1 RegPrim c2 g7 w0 p2@2{1,2,3,4,5,6} a0 v2/1{1,2,3,4,5,6}{1} y- r[] o[1:1,1:2,1:3] x{3,4,5} b0" ∷
    "= 88" ∷
    "2 NonPrim t3 g7 w0 p2@2{1,2,3,4,5,6} a0 v- y![] r[] o[] x{3,4,5} b0" ∷
    "3 Left t3 g7 w0 p2@2{1,2,3,4,5,6} a0 v- y![] r[] o[] x{3,4,5} b0" ∷
    "5 Left t3 g7 w0 p2@2{1,2,3,4,5,6} a0 v- y![] r[] o[] x{3,4,5} b0" ∷
    "= 89" ∷
    "6 NonPrim t3 g7 w0 p2@2{1,2,3,4,5,6} a0 v- y![] r[] o[] x{3,4,5} b0" ∷
    "= 90" ∷
    "6 ExchangeStates c5 g7 w0 p2@2{1,2,3,4,5,6} a0 v- y![] r[] o[] x{3,4,5} b0" ∷
    "= 91" ∷
    "2 ExchangeStates c6 g7 w0 p2@2{1,2,3,4,5,6} a0 v- y![] r[] o[] x{3,4,5} b0" ∷
    "= 92" ∷
    "pieces 16 1/9" ∷
    "= 93" ∷
    "4 Left c4 g7 w0 p2@2{1,2,3,4,5,6} a0 v- y![] r[] o[] x{3,4,5} b0" ∷
    "= 94" ∷
    "1 TransPrim t2 g7 w0 p2@2{1,2,3,4,5,6} a0 v2/1{1,2,3,4,5,6}{1} y?[1:1,1:2,1:3] r[] o[] x{3,4,5} b0" ∷
    "= 95" ∷
    "4 Left t4 g7 w0 p2@2{1,2,3,4,5,6} a0 v- y![] r[] o[] x{3,4,5} b0" ∷
    "= 96" ∷
    "6 NonPrim t5 g7 w0 p2@2{1,2,3,4,5,6} a0 v- y![] r[] o[] x{3,4,5} b0" ∷
    "= 97" ∷
    "2 NonPrim t6 g7 w0 p2@2{1,2,3,4,5,6} a0 v- y![] r[] o[] x{3,4,5} b0" ∷
    "= 98" ∷
    "1 ExchangeStates c7 g7 w0 p2@2{1,2,3,4,5,6} a0 v- y![1:1,1:2,1:3] r[] o[] x{3,4,5} b0" ∷
    "2 ExchangeStates c7 g7 w0 p2@2{1,2,3,4,5,6} a0 v- y![] r[] o[] x{3,4,5} b0" ∷
    "6 ExchangeStates c7 g7 w0 p2@2{1,2,3,4,5,6} a0 v- y![] r[] o[] x{3,4,5} b0" ∷
    "= 100" ∷
    "1 ExchangeActions c7 g7 w0 p2@2{1,2,3,4,5,6} a0 v- y![1:1,1:2,1:3] r[] o[] x{3,4,5} b0" ∷
    "= 101" ∷
    "2 ExchangeActions c7 g7 w0 p2@2{1,2,3,4,5,6} a0 v- y![] r[] o[] x{3,4,5} b0" ∷
    "= 102" ∷
    "6 ExchangeActions c7 g7 w0 p2@2{1,2,3,4,5,6} a0 v- y![] r[] o[] x{3,4,5} b0" ∷
    "= 104" ∷
    "1 Construct c7 g7 w0 p2@2{1,2,3,4,5,6} a1 v7/2{1,2,6}{1} y![] r[1:1,1:2,1:3] o[] x{3,4,5} b0" ∷
    "= 105" ∷
    "2 Construct c7 g7 w0 p2@2{1,2,3,4,5,6} a1 v7/2{1,2,6}{2} y![] r[1:1,1:2,1:3] o[] x{3,4,5} b0" ∷
    "= 106" ∷
    "6 Construct c7 g7 w0 p2@2{1,2,3,4,5,6} a1 v7/2{1,2,6}{6} y![] r[1:1,1:2,1:3] o[] x{3,4,5} b0" ∷
    "= 108" ∷
    "order 8 1:1" ∷
    "order 9 1:2" ∷
    "order 10 1:3" ∷
    "1 RegPrim c7 g10 w0 p3@7{1,2,6} a0 v7/2{1,2,6}{1} y- r[] o[] x{3,4,5} b0" ∷
    "reply 1:1 done ? count 1" ∷
    "reply 1:2 done" ∷
    "reply 1:3 aborted 1" ∷
    "= 109" ∷
    "2 RegPrim c7 g10 w0 p3@7{1,2,6} a0 v7/2{1,2,6}{2} y- r[] o[] x{3,4,5} b0" ∷
    "= 110" ∷
    "6 RegPrim c7 g10 w0 p3@7{1,2,6} a0 v7/2{1,2,6}{6} y- r[] o[] x{3,4,5} b0" ∷
    "= 111" ∷
    "made 2:2 leave 10" ∷
    "2 RegPrim c7 g10 w0 p3@7{1,2,6} a0 v7/2{1,2,6}{2} y- r[] o[2:2] x{3,4,5} b0" ∷
    "end 111" ∷
    [])
unfolding cases_compute
six_replicas_several_primaries_leaver_joiner_a = refl
