-- Cases of cases/ with their whole reports, which `.ci/theorems` writes down here.
use Rattle.std.specs.Prelude.{◌≡◌, [], ◌∷◌}
use mathlib.Core.Path.{refl}
use Rattle.cg_run_cases.specs.Replaying.{replayed_text, written}
use Rattle.cg_run_cases.specs.Computing.{cases_compute}

-- Replicas at the start: 5: a primary is lost in a partition, and after a merge red actions are ordered; a crash strikes inside a device call.
five_replicas_primary_lost_and_reds_ordered_crash_in_a_device_call_c :
    replayed_text (
    "start 1 2 3 4 5" ∷
    "merge 1 2 3 4 5" ∷
    "rounds 2" ∷
    "request 2 put \"a\" -5; inc \"b\" -2" ∷
    "request 5 inc \"abc\" 3" ∷
    "request 2 inc \"z\" -9223372036854775808 ? count" ∷
    "rounds 2" ∷
    "gather" ∷
    "gather" ∷
    "gather" ∷
    "request 2 put \"y\" 86; inc \"a\" 8" ∷
    "split 2" ∷
    "request 4 inc \"y\" 6; inc \"a\" 7; del \"x\" ? count" ∷
    "split 3" ∷
    "split 1 4 5" ∷
    "merge 3" ∷
    "gather" ∷
    "deliver 3 1" ∷
    "stop 1 9 81" ∷
    "dirty 5 get \"ab\"" ∷
    "request 4 inc \"k2\" -1" ∷
    "split 3" ∷
    "merge 1 2 3 4 5" ∷
    "gather" ∷
    "gather" ∷
    "deliver 5 1" ∷
    "gather" ∷
    "gather" ∷
    "request 3 inc \"b\" 8" ∷
    "rounds 3" ∷
    "request 5 need \"y\" absent" ∷
    "request 4 put \"x\" 65" ∷
    "request 3 cas \"x\" 37 50" ∷
    "recover 1" ∷
    "split 2 3 5" ∷
    "split 4" ∷
    "merge 1 2 3 4 5" ∷
    "rounds 4" ∷
    "gather" ∷
    "gather" ∷
    "request 2 inc \"b\" 7" ∷
    "request 1 inc \"a\" 7" ∷
    "gather" ∷
    "split 3" ∷
    "merge 3" ∷
    "gather" ∷
    "deliver 4 2" ∷
    "rounds 1" ∷
    "request 2 put \"b\" 39; put \"y\" 18; inc \"y\" -1 ? get \"x\"" ∷
    "request 5 put \"ab\" \"12\"; del \"ab\" ? keys \"k\"" ∷
    "dirty 2 get \"a\"" ∷
    "rounds 2" ∷
    "gather" ∷
    "end" ∷
    [])
    ≡ written (
    "= 1" ∷
    "1 NonPrim - g0 w0 p0@0{1,2,3,4,5} a0 v- y- r[] o[] x{} b0" ∷
    "2 NonPrim - g0 w0 p0@0{1,2,3,4,5} a0 v- y- r[] o[] x{} b0" ∷
    "3 NonPrim - g0 w0 p0@0{1,2,3,4,5} a0 v- y- r[] o[] x{} b0" ∷
    "4 NonPrim - g0 w0 p0@0{1,2,3,4,5} a0 v- y- r[] o[] x{} b0" ∷
    "5 NonPrim - g0 w0 p0@0{1,2,3,4,5} a0 v- y- r[] o[] x{} b0" ∷
    "= 2" ∷
    "1 ExchangeStates c1 g0 w0 p0@0{1,2,3,4,5} a0 v- y- r[] o[] x{} b0" ∷
    "2 ExchangeStates c1 g0 w0 p0@0{1,2,3,4,5} a0 v- y- r[] o[] x{} b0" ∷
    "3 ExchangeStates c1 g0 w0 p0@0{1,2,3,4,5} a0 v- y- r[] o[] x{} b0" ∷
    "4 ExchangeStates c1 g0 w0 p0@0{1,2,3,4,5} a0 v- y- r[] o[] x{} b0" ∷
    "5 ExchangeStates c1 g0 w0 p0@0{1,2,3,4,5} a0 v- y- r[] o[] x{} b0" ∷
    "= 4" ∷
    "1 Construct c1 g0 w0 p0@0{1,2,3,4,5} a1 v1/0{1,2,3,4,5}{1} y- r[] o[] x{} b0" ∷
    "= 5" ∷
    "2 Construct c1 g0 w0 p0@0{1,2,3,4,5} a1 v1/0{1,2,3,4,5}{2} y- r[] o[] x{} b0" ∷
    "= 6" ∷
    "3 Construct c1 g0 w0 p0@0{1,2,3,4,5} a1 v1/0{1,2,3,4,5}{3} y- r[] o[] x{} b0" ∷
    "= 7" ∷
    "4 Construct c1 g0 w0 p0@0{1,2,3,4,5} a1 v1/0{1,2,3,4,5}{4} y- r[] o[] x{} b0" ∷
    "= 8" ∷
    "5 Construct c1 g0 w0 p0@0{1,2,3,4,5} a1 v1/0{1,2,3,4,5}{5} y- r[] o[] x{} b0" ∷
    "= 10" ∷
    "1 RegPrim c1 g0 w0 p1@1{1,2,3,4,5} a0 v1/0{1,2,3,4,5}{1} y- r[] o[] x{} b0" ∷
    "= 11" ∷
    "2 RegPrim c1 g0 w0 p1@1{1,2,3,4,5} a0 v1/0{1,2,3,4,5}{2} y- r[] o[] x{} b0" ∷
    "= 12" ∷
    "3 RegPrim c1 g0 w0 p1@1{1,2,3,4,5} a0 v1/0{1,2,3,4,5}{3} y- r[] o[] x{} b0" ∷
    "= 13" ∷
    "4 RegPrim c1 g0 w0 p1@1{1,2,3,4,5} a0 v1/0{1,2,3,4,5}{4} y- r[] o[] x{} b0" ∷
    "= 14" ∷
    "5 RegPrim c1 g0 w0 p1@1{1,2,3,4,5} a0 v1/0{1,2,3,4,5}{5} y- r[] o[] x{} b0" ∷
    "= 15" ∷
    "made 2:1 put \"a\" -5; inc \"b\" -2" ∷
    "2 RegPrim c1 g0 w0 p1@1{1,2,3,4,5} a0 v1/0{1,2,3,4,5}{2} y- r[] o[2:1] x{} b0" ∷
    "= 16" ∷
    "made 5:1 inc \"abc\" 3" ∷
    "5 RegPrim c1 g0 w0 p1@1{1,2,3,4,5} a0 v1/0{1,2,3,4,5}{5} y- r[] o[5:1] x{} b0" ∷
    "= 17" ∷
    "made 2:2 inc \"z\" -9223372036854775808 ? count" ∷
    "2 RegPrim c1 g0 w0 p1@1{1,2,3,4,5} a0 v1/0{1,2,3,4,5}{2} y- r[] o[2:1,2:2] x{} b0" ∷
    "= 19" ∷
    "order 1 2:1" ∷
    "order 2 2:2" ∷
    "order 3 5:1" ∷
    "1 RegPrim c1 g3 w0 p1@1{1,2,3,4,5} a0 v1/0{1,2,3,4,5}{1} y- r[] o[] x{} b0" ∷
    "= 20" ∷
    "2 RegPrim c1 g3 w0 p1@1{1,2,3,4,5} a0 v1/0{1,2,3,4,5}{2} y- r[] o[] x{} b0" ∷
    "reply 2:1 done" ∷
    "reply 2:2 done ? count 3" ∷
    "= 21" ∷
    "3 RegPrim c1 g3 w0 p1@1{1,2,3,4,5} a0 v1/0{1,2,3,4,5}{3} y- r[] o[] x{} b0" ∷
    "= 22" ∷
    "4 RegPrim c1 g3 w0 p1@1{1,2,3,4,5} a0 v1/0{1,2,3,4,5}{4} y- r[] o[] x{} b0" ∷
    "= 23" ∷
    "5 RegPrim c1 g3 w0 p1@1{1,2,3,4,5} a0 v1/0{1,2,3,4,5}{5} y- r[] o[] x{} b0" ∷
    "reply 5:1 done" ∷
    "= 28" ∷
    "made 2:3 put \"y\" 86; inc \"a\" 8" ∷
    "2 RegPrim c1 g3 w0 p1@1{1,2,3,4,5} a0 v1/0{1,2,3,4,5}{2} y- r[] o[2:3] x{} b0" ∷
    "= 29" ∷
    "2 TransPrim t1 g3 w0 p1@1{1,2,3,4,5} a0 v1/0{1,2,3,4,5}{2} y- r[] o[2:3] x{} b0" ∷
    "= 30" ∷
    "made 4:1 inc \"y\" 6; inc \"a\" 7; del \"x\" ? count" ∷
    "4 RegPrim c1 g3 w0 p1@1{1,2,3,4,5} a0 v1/0{1,2,3,4,5}{4} y- r[] o[4:1] x{} b0" ∷
    "= 31" ∷
    "3 TransPrim t1 g3 w0 p1@1{1,2,3,4,5} a0 v1/0{1,2,3,4,5}{3} y- r[] o[] x{} b0" ∷
    "= 32" ∷
    "1 TransPrim t1 g3 w0 p1@1{1,2,3,4,5} a0 v1/0{1,2,3,4,5}{1} y- r[] o[] x{} b0" ∷
    "4 TransPrim t1 g3 w0 p1@1{1,2,3,4,5} a0 v1/0{1,2,3,4,5}{4} y- r[] o[4:1] x{} b0" ∷
    "5 TransPrim t1 g3 w0 p1@1{1,2,3,4,5} a0 v1/0{1,2,3,4,5}{5} y- r[] o[] x{} b0" ∷
    "= 33" ∷
    "3 ExchangeStates c2 g3 w0 p1@1{1,2,3,4,5} a0 v- y![] r[] o[] x{} b0" ∷
    "= 35" ∷
    "3 NonPrim c2 g3 w0 p1@1{1,2,3,4,5} a0 v- y![] r[] o[] x{} b0" ∷
    "= 37" ∷
    "dirty 5 absent" ∷
    "= 38" ∷
    "4 TransPrim t1 g3 w0 p1@1{1,2,3,4,5} a0 v1/0{1,2,3,4,5}{4} y- r[] o[4:1] x{} b1" ∷
    "= 39" ∷
    "3 NonPrim t2 g3 w0 p1@1{1,2,3,4,5} a0 v- y![] r[] o[] x{} b0" ∷
    "= 40" ∷
    "1 ExchangeStates c3 g3 w0 p1@1{1,2,3,4,5} a0 v- y![] r[] o[] x{} b0" ∷
    "2 ExchangeStates c3 g3 w0 p1@1{1,2,3,4,5} a0 v- y![] r[2:3] o[] x{} b0" ∷
    "3 ExchangeStates c3 g3 w0 p1@1{1,2,3,4,5} a0 v- y![] r[] o[] x{} b0" ∷
    "4 ExchangeStates c3 g3 w0 p1@1{1,2,3,4,5} a0 v- y![] r[4:1] o[] x{} b1" ∷
    "5 ExchangeStates c3 g3 w0 p1@1{1,2,3,4,5} a0 v- y![] r[] o[] x{} b0" ∷
    "= 46" ∷
    "3 ExchangeStates c3 g3 w0 p1@1{1,2,3,4,5} a0 v- y![] r[] o[] x{} b1" ∷
    "= 48" ∷
    "1 ExchangeActions c3 g3 w0 p1@1{1,2,3,4,5} a0 v- y![] r[] o[] x{} b0" ∷
    "= 49" ∷
    "2 ExchangeActions c3 g3 w0 p1@1{1,2,3,4,5} a0 v- y![] r[2:3] o[] x{} b0" ∷
    "= 50" ∷
    "3 ExchangeActions c3 g3 w0 p1@1{1,2,3,4,5} a0 v- y![] r[] o[] x{} b1" ∷
    "= 51" ∷
    "4 ExchangeActions c3 g3 w0 p1@1{1,2,3,4,5} a0 v- y![] r[4:1] o[] x{} b1" ∷
    "= 52" ∷
    "5 ExchangeActions c3 g3 w0 p1@1{1,2,3,4,5} a0 v- y![] r[] o[] x{} b0" ∷
    "= 54" ∷
    "1 ExchangeActions c3 g3 w0 p1@1{1,2,3,4,5} a0 v- y![] r[2:3] o[] x{} b0" ∷
    "= 56" ∷
    "3 ExchangeActions c3 g3 w0 p1@1{1,2,3,4,5} a0 v- y![] r[2:3] o[] x{} b1" ∷
    "= 57" ∷
    "4 ExchangeActions c3 g3 w0 p1@1{1,2,3,4,5} a0 v- y![] r[2:3,4:1] o[] x{} b1" ∷
    "= 58" ∷
    "5 ExchangeActions c3 g3 w0 p1@1{1,2,3,4,5} a0 v- y![] r[2:3] o[] x{} b0" ∷
    "= 60" ∷
    "1 Construct c3 g3 w0 p1@1{1,2,3,4,5} a1 v3/1{1,2,3,4,5}{1} y![] r[2:3,4:1] o[] x{} b0" ∷
    "= 61" ∷
    "2 Construct c3 g3 w0 p1@1{1,2,3,4,5} a1 v3/1{1,2,3,4,5}{2} y![] r[2:3,4:1] o[] x{} b0" ∷
    "= 62" ∷
    "3 Construct c3 g3 w0 p1@1{1,2,3,4,5} a1 v3/1{1,2,3,4,5}{3} y![] r[2:3,4:1] o[] x{} b1" ∷
    "= 63" ∷
    "4 Construct c3 g3 w0 p1@1{1,2,3,4,5} a1 v3/1{1,2,3,4,5}{4} y![] r[2:3,4:1] o[] x{} b1" ∷
    "= 64" ∷
    "5 Construct c3 g3 w0 p1@1{1,2,3,4,5} a1 v3/1{1,2,3,4,5}{5} y![] r[2:3,4:1] o[] x{} b0" ∷
    "= 65" ∷
    "5 Construct c3 g3 w0 p1@1{1,2,3,4,5} a1 v3/1{1,2,3,4,5}{5} y![] r[2:3,4:1] o[] x{} b1" ∷
    "= 66" ∷
    "4 Construct c3 g3 w0 p1@1{1,2,3,4,5} a1 v3/1{1,2,3,4,5}{4} y![] r[2:3,4:1] o[] x{} b2" ∷
    "= 67" ∷
    "3 Construct c3 g3 w0 p1@1{1,2,3,4,5} a1 v3/1{1,2,3,4,5}{3} y![] r[2:3,4:1] o[] x{} b2" ∷
    "refused 34 10 1" ∷
    [])
unfolding cases_compute
five_replicas_primary_lost_and_reds_ordered_crash_in_a_device_call_c = refl

-- Replicas at the start: 5: a primary is split; a replica crashes.
five_replicas_primary_split_crash_a :
    replayed_text (
    "start 4 10 22 26 32" ∷
    "merge 4 10 22 26" ∷
    "merge 32" ∷
    "rounds 2" ∷
    "show order" ∷
    "split 4 10 22 26" ∷
    "split 32" ∷
    "merge 4 10 22 26 32" ∷
    "split 22 26" ∷
    "split 10 32" ∷
    "split 4" ∷
    "merge 4" ∷
    "merge 22 26" ∷
    "merge 10 32" ∷
    "rounds 1" ∷
    "gather" ∷
    "request 10 put \"b\" 20; inc \"y\" 3; inc \"x\" 4; put \"k1\" 46 ? get \"x\"" ∷
    "order 10" ∷
    "gather" ∷
    "gather" ∷
    "deliver 10 1" ∷
    "gather" ∷
    "deliver 32 1" ∷
    "gather" ∷
    "request 4 cas \"ab\" 85 \"T\"" ∷
    "order 4" ∷
    "deliver 4 1" ∷
    "split 4" ∷
    "request 10 put \"y\" 98" ∷
    "stop 26 0 -" ∷
    "request 10 need \"z\" 30" ∷
    "request 4 cas \"a\" \"; ? #\" 17" ∷
    "recover 26" ∷
    "merge 26" ∷
    "request 22 move \"k1\" \"abc\" 8; cas \"x\" absent \"TTTTTTTTTT\"" ∷
    "split 10" ∷
    "order 22" ∷
    "request 32 put \"y\" -9223372036854775807" ∷
    "split 32" ∷
    "merge 4 10 32" ∷
    "request 4 del \"z\" ? get \"z\"" ∷
    "split 22" ∷
    "split 26" ∷
    "split 4 10 32" ∷
    "merge 4 10 22 26 32" ∷
    "rounds 1" ∷
    "request 26 put \"x\" 50" ∷
    "end" ∷
    [])
    ≡ written (
    "= 1" ∷
    "4 NonPrim - g0 w0 p0@0{4,10,22,26,32} a0 v- y- r[] o[] x{} b0" ∷
    "10 NonPrim - g0 w0 p0@0{4,10,22,26,32} a0 v- y- r[] o[] x{} b0" ∷
    "22 NonPrim - g0 w0 p0@0{4,10,22,26,32} a0 v- y- r[] o[] x{} b0" ∷
    "26 NonPrim - g0 w0 p0@0{4,10,22,26,32} a0 v- y- r[] o[] x{} b0" ∷
    "32 NonPrim - g0 w0 p0@0{4,10,22,26,32} a0 v- y- r[] o[] x{} b0" ∷
    "= 2" ∷
    "4 ExchangeStates c1 g0 w0 p0@0{4,10,22,26,32} a0 v- y- r[] o[] x{} b0" ∷
    "10 ExchangeStates c1 g0 w0 p0@0{4,10,22,26,32} a0 v- y- r[] o[] x{} b0" ∷
    "22 ExchangeStates c1 g0 w0 p0@0{4,10,22,26,32} a0 v- y- r[] o[] x{} b0" ∷
    "26 ExchangeStates c1 g0 w0 p0@0{4,10,22,26,32} a0 v- y- r[] o[] x{} b0" ∷
    "= 3" ∷
    "32 ExchangeStates c2 g0 w0 p0@0{4,10,22,26,32} a0 v- y- r[] o[] x{} b0" ∷
    "= 5" ∷
    "4 Construct c1 g0 w0 p0@0{4,10,22,26,32} a1 v1/0{4,10,22,26}{4} y- r[] o[] x{} b0" ∷
    "= 6" ∷
    "10 Construct c1 g0 w0 p0@0{4,10,22,26,32} a1 v1/0{4,10,22,26}{10} y- r[] o[] x{} b0" ∷
    "= 7" ∷
    "22 Construct c1 g0 w0 p0@0{4,10,22,26,32} a1 v1/0{4,10,22,26}{22} y- r[] o[] x{} b0" ∷
    "= 8" ∷
    "26 Construct c1 g0 w0 p0@0{4,10,22,26,32} a1 v1/0{4,10,22,26}{26} y- r[] o[] x{} b0" ∷
    "= 9" ∷
    "32 NonPrim c2 g0 w0 p0@0{4,10,22,26,32} a0 v- y- r[] o[] x{} b0" ∷
    "= 11" ∷
    "4 RegPrim c1 g0 w0 p1@1{4,10,22,26} a0 v1/0{4,10,22,26}{4} y- r[] o[] x{} b0" ∷
    "= 12" ∷
    "10 RegPrim c1 g0 w0 p1@1{4,10,22,26} a0 v1/0{4,10,22,26}{10} y- r[] o[] x{} b0" ∷
    "= 13" ∷
    "22 RegPrim c1 g0 w0 p1@1{4,10,22,26} a0 v1/0{4,10,22,26}{22} y- r[] o[] x{} b0" ∷
    "= 14" ∷
    "26 RegPrim c1 g0 w0 p1@1{4,10,22,26} a0 v1/0{4,10,22,26}{26} y- r[] o[] x{} b0" ∷
    "= 15" ∷
    "all []" ∷
    "= 16" ∷
    "4 TransPrim t1 g0 w0 p1@1{4,10,22,26} a0 v1/0{4,10,22,26}{4} y- r[] o[] x{} b0" ∷
    "10 TransPrim t1 g0 w0 p1@1{4,10,22,26} a0 v1/0{4,10,22,26}{10} y- r[] o[] x{} b0" ∷
    "22 TransPrim t1 g0 w0 p1@1{4,10,22,26} a0 v1/0{4,10,22,26}{22} y- r[] o[] x{} b0" ∷
    "26 TransPrim t1 g0 w0 p1@1{4,10,22,26} a0 v1/0{4,10,22,26}{26} y- r[] o[] x{} b0" ∷
    "= 17" ∷
    "32 NonPrim t2 g0 w0 p0@0{4,10,22,26,32} a0 v- y- r[] o[] x{} b0" ∷
    "= 18" ∷
    "4 ExchangeStates c3 g0 w0 p1@1{4,10,22,26} a0 v- y![] r[] o[] x{} b0" ∷
    "10 ExchangeStates c3 g0 w0 p1@1{4,10,22,26} a0 v- y![] r[] o[] x{} b0" ∷
    "22 ExchangeStates c3 g0 w0 p1@1{4,10,22,26} a0 v- y![] r[] o[] x{} b0" ∷
    "26 ExchangeStates c3 g0 w0 p1@1{4,10,22,26} a0 v- y![] r[] o[] x{} b0" ∷
    "32 ExchangeStates c3 g0 w0 p0@0{4,10,22,26,32} a0 v- y- r[] o[] x{} b0" ∷
    "= 19" ∷
    "22 NonPrim t3 g0 w0 p1@1{4,10,22,26} a0 v- y![] r[] o[] x{} b0" ∷
    "26 NonPrim t3 g0 w0 p1@1{4,10,22,26} a0 v- y![] r[] o[] x{} b0" ∷
    "= 20" ∷
    "10 NonPrim t3 g0 w0 p1@1{4,10,22,26} a0 v- y![] r[] o[] x{} b0" ∷
    "32 NonPrim t3 g0 w0 p0@0{4,10,22,26,32} a0 v- y- r[] o[] x{} b0" ∷
    "= 21" ∷
    "4 NonPrim t3 g0 w0 p1@1{4,10,22,26} a0 v- y![] r[] o[] x{} b0" ∷
    "= 22" ∷
    "4 ExchangeStates c4 g0 w0 p1@1{4,10,22,26} a0 v- y![] r[] o[] x{} b0" ∷
    "= 23" ∷
    "22 ExchangeStates c5 g0 w0 p1@1{4,10,22,26} a0 v- y![] r[] o[] x{} b0" ∷
    "26 ExchangeStates c5 g0 w0 p1@1{4,10,22,26} a0 v- y![] r[] o[] x{} b0" ∷
    "= 24" ∷
    "10 ExchangeStates c6 g0 w0 p1@1{4,10,22,26} a0 v- y![] r[] o[] x{} b0" ∷
    "32 ExchangeStates c6 g0 w0 p0@0{4,10,22,26,32} a0 v- y- r[] o[] x{} b0" ∷
    "= 26" ∷
    "4 NonPrim c4 g0 w0 p1@1{4,10,22,26} a0 v- y![] r[] o[] x{} b0" ∷
    "= 27" ∷
    "10 NonPrim c6 g0 w0 p1@1{4,10,22,26} a0 v- y![] r[] o[] x{} b0" ∷
    "= 28" ∷
    "22 NonPrim c5 g0 w0 p1@1{4,10,22,26} a0 v- y![] r[] o[] x{} b0" ∷
    "= 29" ∷
    "26 NonPrim c5 g0 w0 p1@1{4,10,22,26} a0 v- y![] r[] o[] x{} b0" ∷
    "= 30" ∷
    "32 NonPrim c6 g0 w0 p1@1{4,10,22,26} a0 v- y![] r[] o[] x{} b0" ∷
    "= 32" ∷
    "made 10:1 put \"b\" 20; inc \"y\" 3; inc \"x\" 4; put \"k1\" 46 ? get \"x\"" ∷
    "10 NonPrim c6 g0 w0 p1@1{4,10,22,26} a0 v- y![] r[] o[10:1] x{} b0" ∷
    "= 36" ∷
    "10 NonPrim c6 g0 w0 p1@1{4,10,22,26} a0 v- y![] r[10:1] o[] x{} b0" ∷
    "= 38" ∷
    "32 NonPrim c6 g0 w0 p1@1{4,10,22,26} a0 v- y![] r[10:1] o[] x{} b0" ∷
    "= 40" ∷
    "made 4:1 cas \"ab\" 85 \"T\"" ∷
    "4 NonPrim c4 g0 w0 p1@1{4,10,22,26} a0 v- y![] r[] o[4:1] x{} b0" ∷
    "= 42" ∷
    "4 NonPrim c4 g0 w0 p1@1{4,10,22,26} a0 v- y![] r[4:1] o[] x{} b0" ∷
    "= 43" ∷
    "4 NonPrim t4 g0 w0 p1@1{4,10,22,26} a0 v- y![] r[4:1] o[] x{} b0" ∷
    "= 44" ∷
    "made 10:2 put \"y\" 98" ∷
    "10 NonPrim c6 g0 w0 p1@1{4,10,22,26} a0 v- y![] r[10:1] o[10:2] x{} b0" ∷
    "= 45" ∷
    "26 Down" ∷
    "= 46" ∷
    "made 10:3 need \"z\" 30" ∷
    "10 NonPrim c6 g0 w0 p1@1{4,10,22,26} a0 v- y![] r[10:1] o[10:2,10:3] x{} b0" ∷
    "= 47" ∷
    "4 NonPrim t4 g0 w0 p1@1{4,10,22,26} a0 v- y![] r[4:1] o[] x{} b1" ∷
    "= 48" ∷
    "26 NonPrim - g0 w0 p1@1{4,10,22,26} a0 v- y![] r[] o[] x{} b0" ∷
    "= 49" ∷
    "26 ExchangeStates c7 g0 w0 p1@1{4,10,22,26} a0 v- y![] r[] o[] x{} b0" ∷
    "= 50" ∷
    "made 22:1 move \"k1\" \"abc\" 8; cas \"x\" absent \"TTTTTTTTTT\"" ∷
    "22 NonPrim c5 g0 w0 p1@1{4,10,22,26} a0 v- y![] r[] o[22:1] x{} b0" ∷
    "= 51" ∷
    "10 NonPrim t6 g0 w0 p1@1{4,10,22,26} a0 v- y![] r[10:1] o[10:2,10:3] x{} b0" ∷
    "= 53" ∷
    "made 32:1 put \"y\" -9223372036854775807" ∷
    "32 NonPrim c6 g0 w0 p1@1{4,10,22,26} a0 v- y![] r[10:1] o[32:1] x{} b0" ∷
    "= 54" ∷
    "32 NonPrim t6 g0 w0 p1@1{4,10,22,26} a0 v- y![] r[10:1] o[32:1] x{} b0" ∷
    "= 55" ∷
    "4 ExchangeStates c8 g0 w0 p1@1{4,10,22,26} a0 v- y![] r[4:1] o[] x{} b1" ∷
    "10 ExchangeStates c8 g0 w0 p1@1{4,10,22,26} a0 v- y![] r[10:1,10:2,10:3] o[] x{} b0" ∷
    "32 ExchangeStates c8 g0 w0 p1@1{4,10,22,26} a0 v- y![] r[10:1,32:1] o[] x{} b0" ∷
    "= 56" ∷
    "4 ExchangeStates c8 g0 w0 p1@1{4,10,22,26} a0 v- y![] r[4:1] o[] x{} b2" ∷
    "= 57" ∷
    "22 NonPrim t5 g0 w0 p1@1{4,10,22,26} a0 v- y![] r[22:1] o[] x{} b0" ∷
    "= 58" ∷
    "26 NonPrim t7 g0 w0 p1@1{4,10,22,26} a0 v- y![] r[] o[] x{} b0" ∷
    "= 59" ∷
    "4 NonPrim t8 g0 w0 p1@1{4,10,22,26} a0 v- y![] r[4:1] o[] x{} b2" ∷
    "10 NonPrim t8 g0 w0 p1@1{4,10,22,26} a0 v- y![] r[10:1,10:2,10:3] o[] x{} b0" ∷
    "32 NonPrim t8 g0 w0 p1@1{4,10,22,26} a0 v- y![] r[10:1,32:1] o[] x{} b0" ∷
    "= 60" ∷
    "4 ExchangeStates c9 g0 w0 p1@1{4,10,22,26} a0 v- y![] r[4:1] o[] x{} b2" ∷
    "10 ExchangeStates c9 g0 w0 p1@1{4,10,22,26} a0 v- y![] r[10:1,10:2,10:3] o[] x{} b0" ∷
    "22 ExchangeStates c9 g0 w0 p1@1{4,10,22,26} a0 v- y![] r[22:1] o[] x{} b0" ∷
    "26 ExchangeStates c9 g0 w0 p1@1{4,10,22,26} a0 v- y![] r[] o[] x{} b0" ∷
    "32 ExchangeStates c9 g0 w0 p1@1{4,10,22,26} a0 v- y![] r[10:1,32:1] o[] x{} b0" ∷
    "= 62" ∷
    "4 ExchangeActions c9 g0 w0 p1@1{4,10,22,26} a0 v- y![] r[4:1] o[] x{} b2" ∷
    "= 63" ∷
    "10 ExchangeActions c9 g0 w0 p1@1{4,10,22,26} a0 v- y![] r[10:1,10:2,10:3] o[] x{} b0" ∷
    "= 64" ∷
    "22 ExchangeActions c9 g0 w0 p1@1{4,10,22,26} a0 v- y![] r[22:1] o[] x{} b0" ∷
    "= 65" ∷
    "26 ExchangeActions c9 g0 w0 p1@1{4,10,22,26} a0 v- y![] r[] o[] x{} b0" ∷
    "= 66" ∷
    "32 ExchangeActions c9 g0 w0 p1@1{4,10,22,26} a0 v- y![] r[10:1,32:1] o[] x{} b0" ∷
    "= 67" ∷
    "26 ExchangeActions c9 g0 w0 p1@1{4,10,22,26} a0 v- y![] r[] o[] x{} b1" ∷
    "end 67" ∷
    [])
unfolding cases_compute
five_replicas_primary_split_crash_a = refl

-- Replicas at the start: 5: a primary is split; a replica crashes; a server that was removed is told so; a snapshot is handed on in pieces.
five_replicas_primary_split_crash_leaver_joiner_a :
    replayed_text (
    "start 1 2 3 4 5" ∷
    "merge 1 2 3 4 5" ∷
    "rounds 2" ∷
    "request 3 inc \"z\" 8" ∷
    "leave 3 5" ∷
    "join 4 9" ∷
    "rounds 3" ∷
    "split 1 4" ∷
    "split 2 3 5" ∷
    "merge 2 3 5" ∷
    "merge 1 4" ∷
    "rounds 2" ∷
    "gather" ∷
    "split 2 3 5" ∷
    "split 1 4" ∷
    "merge 1 2 3 4" ∷
    "rounds 4" ∷
    "request 2 inc \"z\" 5" ∷
    "rounds 1" ∷
    "stop 4 0 -" ∷
    "join 3 6" ∷
    "transfer 3 9 9" ∷
    "rounds 1" ∷
    "recover 4" ∷
    "gather" ∷
    "gather" ∷
    "gather" ∷
    "gather" ∷
    "show 2" ∷
    "request 1 put \"y\" 43" ∷
    "request 3 inc \"x\" 9 ? keys \"x\"" ∷
    "order 1" ∷
    "order 3" ∷
    "receive 2 12" ∷
    "split 2" ∷
    "end" ∷
    [])
    ≡ written (
    "= 1" ∷
    "1 NonPrim - g0 w0 p0@0{1,2,3,4,5} a0 v- y- r[] o[] x{} b0" ∷
    "2 NonPrim - g0 w0 p0@0{1,2,3,4,5} a0 v- y- r[] o[] x{} b0" ∷
    "3 NonPrim - g0 w0 p0@0{1,2,3,4,5} a0 v- y- r[] o[] x{} b0" ∷
    "4 NonPrim - g0 w0 p0@0{1,2,3,4,5} a0 v- y- r[] o[] x{} b0" ∷
    "5 NonPrim - g0 w0 p0@0{1,2,3,4,5} a0 v- y- r[] o[] x{} b0" ∷
    "= 2" ∷
    "1 ExchangeStates c1 g0 w0 p0@0{1,2,3,4,5} a0 v- y- r[] o[] x{} b0" ∷
    "2 ExchangeStates c1 g0 w0 p0@0{1,2,3,4,5} a0 v- y- r[] o[] x{} b0" ∷
    "3 ExchangeStates c1 g0 w0 p0@0{1,2,3,4,5} a0 v- y- r[] o[] x{} b0" ∷
    "4 ExchangeStates c1 g0 w0 p0@0{1,2,3,4,5} a0 v- y- r[] o[] x{} b0" ∷
    "5 ExchangeStates c1 g0 w0 p0@0{1,2,3,4,5} a0 v- y- r[] o[] x{} b0" ∷
    "= 4" ∷
    "1 Construct c1 g0 w0 p0@0{1,2,3,4,5} a1 v1/0{1,2,3,4,5}{1} y- r[] o[] x{} b0" ∷
    "= 5" ∷
    "2 Construct c1 g0 w0 p0@0{1,2,3,4,5} a1 v1/0{1,2,3,4,5}{2} y- r[] o[] x{} b0" ∷
    "= 6" ∷
    "3 Construct c1 g0 w0 p0@0{1,2,3,4,5} a1 v1/0{1,2,3,4,5}{3} y- r[] o[] x{} b0" ∷
    "= 7" ∷
    "4 Construct c1 g0 w0 p0@0{1,2,3,4,5} a1 v1/0{1,2,3,4,5}{4} y- r[] o[] x{} b0" ∷
    "= 8" ∷
    "5 Construct c1 g0 w0 p0@0{1,2,3,4,5} a1 v1/0{1,2,3,4,5}{5} y- r[] o[] x{} b0" ∷
    "= 10" ∷
    "1 RegPrim c1 g0 w0 p1@1{1,2,3,4,5} a0 v1/0{1,2,3,4,5}{1} y- r[] o[] x{} b0" ∷
    "= 11" ∷
    "2 RegPrim c1 g0 w0 p1@1{1,2,3,4,5} a0 v1/0{1,2,3,4,5}{2} y- r[] o[] x{} b0" ∷
    "= 12" ∷
    "3 RegPrim c1 g0 w0 p1@1{1,2,3,4,5} a0 v1/0{1,2,3,4,5}{3} y- r[] o[] x{} b0" ∷
    "= 13" ∷
    "4 RegPrim c1 g0 w0 p1@1{1,2,3,4,5} a0 v1/0{1,2,3,4,5}{4} y- r[] o[] x{} b0" ∷
    "= 14" ∷
    "5 RegPrim c1 g0 w0 p1@1{1,2,3,4,5} a0 v1/0{1,2,3,4,5}{5} y- r[] o[] x{} b0" ∷
    "= 15" ∷
    "made 3:1 inc \"z\" 8" ∷
    "3 RegPrim c1 g0 w0 p1@1{1,2,3,4,5} a0 v1/0{1,2,3,4,5}{3} y- r[] o[3:1] x{} b0" ∷
    "= 16" ∷
    "made 3:2 leave 5" ∷
    "3 RegPrim c1 g0 w0 p1@1{1,2,3,4,5} a0 v1/0{1,2,3,4,5}{3} y- r[] o[3:1,3:2] x{} b0" ∷
    "= 17" ∷
    "made 4:1 join 9" ∷
    "4 RegPrim c1 g0 w0 p1@1{1,2,3,4,5} a0 v1/0{1,2,3,4,5}{4} y- r[] o[4:1] x{} b0" ∷
    "= 19" ∷
    "order 1 3:1" ∷
    "order 2 3:2" ∷
    "order 3 4:1" ∷
    "1 RegPrim c1 g3 w0 p1@1{1,2,3,4,5} a0 v1/0{1,2,3,4,5}{1} y- r[] o[] x{5} b0" ∷
    "= 20" ∷
    "2 RegPrim c1 g3 w0 p1@1{1,2,3,4,5} a0 v1/0{1,2,3,4,5}{2} y- r[] o[] x{5} b0" ∷
    "= 21" ∷
    "3 RegPrim c1 g3 w0 p1@1{1,2,3,4,5} a0 v1/0{1,2,3,4,5}{3} y- r[] o[] x{5} b0" ∷
    "reply 3:1 done" ∷
    "reply 3:2 done" ∷
    "= 22" ∷
    "4 RegPrim c1 g3 w0 p1@1{1,2,3,4,5} a0 v1/0{1,2,3,4,5}{4} y- r[] o[] x{5} b0" ∷
    "reply 4:1 done" ∷
    "= 23" ∷
    "5 RegPrim c1 g3 w0 p1@1{1,2,3,4,5} a0 v1/0{1,2,3,4,5}{5} y- r[] o[] x{5} b0" ∷
    "= 26" ∷
    "1 TransPrim t1 g3 w0 p1@1{1,2,3,4,5} a0 v1/0{1,2,3,4,5}{1} y- r[] o[] x{5} b0" ∷
    "4 TransPrim t1 g3 w0 p1@1{1,2,3,4,5} a0 v1/0{1,2,3,4,5}{4} y- r[] o[] x{5} b0" ∷
    "= 27" ∷
    "2 TransPrim t1 g3 w0 p1@1{1,2,3,4,5} a0 v1/0{1,2,3,4,5}{2} y- r[] o[] x{5} b0" ∷
    "3 TransPrim t1 g3 w0 p1@1{1,2,3,4,5} a0 v1/0{1,2,3,4,5}{3} y- r[] o[] x{5} b0" ∷
    "5 TransPrim t1 g3 w0 p1@1{1,2,3,4,5} a0 v1/0{1,2,3,4,5}{5} y- r[] o[] x{5} b0" ∷
    "= 28" ∷
    "2 ExchangeStates c2 g3 w0 p1@1{1,2,3,4,5} a0 v- y![] r[] o[] x{5} b0" ∷
    "3 ExchangeStates c2 g3 w0 p1@1{1,2,3,4,5} a0 v- y![] r[] o[] x{5} b0" ∷
    "5 ExchangeStates c2 g3 w0 p1@1{1,2,3,4,5} a0 v- y![] r[] o[] x{5} b0" ∷
    "= 29" ∷
    "1 ExchangeStates c3 g3 w0 p1@1{1,2,3,4,5} a0 v- y![] r[] o[] x{5} b0" ∷
    "4 ExchangeStates c3 g3 w0 p1@1{1,2,3,4,5} a0 v- y![] r[] o[] x{5} b0" ∷
    "= 31" ∷
    "1 NonPrim c3 g3 w0 p1@1{1,2,3,4,5} a0 v- y![] r[] o[] x{5} b0" ∷
    "= 32" ∷
    "2 NonPrim c2 g3 w0 p1@1{1,2,3,4,5} a0 v- y![] r[] o[] x{5} b0" ∷
    "= 33" ∷
    "3 NonPrim c2 g3 w0 p1@1{1,2,3,4,5} a0 v- y![] r[] o[] x{5} b0" ∷
    "= 34" ∷
    "4 NonPrim c3 g3 w0 p1@1{1,2,3,4,5} a0 v- y![] r[] o[] x{5} b0" ∷
    "= 35" ∷
    "5 Left c2 g3 w0 p1@1{1,2,3,4,5} a0 v- y![] r[] o[] x{5} b0" ∷
    "= 38" ∷
    "2 NonPrim t2 g3 w0 p1@1{1,2,3,4,5} a0 v- y![] r[] o[] x{5} b0" ∷
    "3 NonPrim t2 g3 w0 p1@1{1,2,3,4,5} a0 v- y![] r[] o[] x{5} b0" ∷
    "5 Left t2 g3 w0 p1@1{1,2,3,4,5} a0 v- y![] r[] o[] x{5} b0" ∷
    "= 39" ∷
    "1 NonPrim t3 g3 w0 p1@1{1,2,3,4,5} a0 v- y![] r[] o[] x{5} b0" ∷
    "4 NonPrim t3 g3 w0 p1@1{1,2,3,4,5} a0 v- y![] r[] o[] x{5} b0" ∷
    "= 40" ∷
    "1 ExchangeStates c4 g3 w0 p1@1{1,2,3,4,5} a0 v- y![] r[] o[] x{5} b0" ∷
    "2 ExchangeStates c4 g3 w0 p1@1{1,2,3,4,5} a0 v- y![] r[] o[] x{5} b0" ∷
    "3 ExchangeStates c4 g3 w0 p1@1{1,2,3,4,5} a0 v- y![] r[] o[] x{5} b0" ∷
    "4 ExchangeStates c4 g3 w0 p1@1{1,2,3,4,5} a0 v- y![] r[] o[] x{5} b0" ∷
    "= 42" ∷
    "1 Construct c4 g3 w0 p1@1{1,2,3,4,5} a1 v4/1{1,2,3,4}{1} y![] r[] o[] x{5} b0" ∷
    "= 43" ∷
    "2 Construct c4 g3 w0 p1@1{1,2,3,4,5} a1 v4/1{1,2,3,4}{2} y![] r[] o[] x{5} b0" ∷
    "= 44" ∷
    "3 Construct c4 g3 w0 p1@1{1,2,3,4,5} a1 v4/1{1,2,3,4}{3} y![] r[] o[] x{5} b0" ∷
    "= 45" ∷
    "4 Construct c4 g3 w0 p1@1{1,2,3,4,5} a1 v4/1{1,2,3,4}{4} y![] r[] o[] x{5} b0" ∷
    "= 47" ∷
    "1 RegPrim c4 g3 w0 p2@4{1,2,3,4} a0 v4/1{1,2,3,4}{1} y- r[] o[] x{5} b0" ∷
    "= 48" ∷
    "2 RegPrim c4 g3 w0 p2@4{1,2,3,4} a0 v4/1{1,2,3,4}{2} y- r[] o[] x{5} b0" ∷
    "= 49" ∷
    "3 RegPrim c4 g3 w0 p2@4{1,2,3,4} a0 v4/1{1,2,3,4}{3} y- r[] o[] x{5} b0" ∷
    "= 50" ∷
    "4 RegPrim c4 g3 w0 p2@4{1,2,3,4} a0 v4/1{1,2,3,4}{4} y- r[] o[] x{5} b0" ∷
    "= 53" ∷
    "made 2:1 inc \"z\" 5" ∷
    "2 RegPrim c4 g3 w0 p2@4{1,2,3,4} a0 v4/1{1,2,3,4}{2} y- r[] o[2:1] x{5} b0" ∷
    "= 55" ∷
    "order 4 2:1" ∷
    "1 RegPrim c4 g4 w0 p2@4{1,2,3,4} a0 v4/1{1,2,3,4}{1} y- r[] o[] x{5} b0" ∷
    "= 56" ∷
    "2 RegPrim c4 g4 w0 p2@4{1,2,3,4} a0 v4/1{1,2,3,4}{2} y- r[] o[] x{5} b0" ∷
    "reply 2:1 done" ∷
    "= 57" ∷
    "3 RegPrim c4 g4 w0 p2@4{1,2,3,4} a0 v4/1{1,2,3,4}{3} y- r[] o[] x{5} b0" ∷
    "= 58" ∷
    "4 RegPrim c4 g4 w0 p2@4{1,2,3,4} a0 v4/1{1,2,3,4}{4} y- r[] o[] x{5} b0" ∷
    "= 59" ∷
    "4 Down" ∷
    "= 60" ∷
    "made 3:3 join 6" ∷
    "3 RegPrim c4 g4 w0 p2@4{1,2,3,4} a0 v4/1{1,2,3,4}{3} y- r[] o[3:3] x{5} b0" ∷
    "= 61" ∷
    "9 NonPrim - g4 w0 p2@4{1,2,3,4} a0 v- y- r[] o[] x{5} b0" ∷
    "pieces 9 7/7" ∷
    "= 63" ∷
    "4 NonPrim - g4 w0 p2@4{1,2,3,4} a0 v4/1{1,2,3,4}{4} y- r[] o[] x{5} b0" ∷
    "= 68" ∷
    "greens 2 [3:1,3:2,4:1,2:1]" ∷
    "db 2 \"z\"=13" ∷
    "= 69" ∷
    "made 1:1 put \"y\" 43" ∷
    "1 RegPrim c4 g4 w0 p2@4{1,2,3,4} a0 v4/1{1,2,3,4}{1} y- r[] o[1:1] x{5} b0" ∷
    "= 70" ∷
    "made 3:4 inc \"x\" 9 ? keys \"x\"" ∷
    "3 RegPrim c4 g4 w0 p2@4{1,2,3,4} a0 v4/1{1,2,3,4}{3} y- r[] o[3:3,3:4] x{5} b0" ∷
    "= 74" ∷
    "2 TransPrim t4 g4 w0 p2@4{1,2,3,4} a0 v4/1{1,2,3,4}{2} y?[3:3,3:4] r[] o[] x{5} b0" ∷
    "end 74" ∷
    [])
unfolding cases_compute
five_replicas_primary_split_crash_leaver_joiner_a = refl
