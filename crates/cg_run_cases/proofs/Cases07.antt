-- Cases of cases/ with their whole reports, which `.ci/theorems` writes down here.
use Rattle.std.specs.Prelude.{◌≡◌, [], ◌∷◌}
use mathlib.Core.Path.{refl}
use Rattle.cg_run_cases.specs.Replaying.{replayed_text, written}
use Rattle.cg_run_cases.specs.Computing.{cases_compute}

-- Replicas at the start: 5: a primary is formed.
five_replicas_primary_formed_a :
    replayed_text (
    "start 1 2 3 4 5" ∷
    "merge 1 2 3 4 5" ∷
    "rounds 2" ∷
    "rounds 2" ∷
    "end" ∷
    [])
    ≡ written (
    "= 1" ∷
    "1 NonPrim - g0 w0 p0@0{1,2,3,4,5} a0 v- y- r[] o[] x{} b0" ∷
    "2 NonPrim - g0 w0 p0@0{1,2,3,4,5} a0 v- y- r[] o[] x{} b0" ∷
    "3 NonPrim - g0 w0 p0@0{1,2,3,4,5} a0 v- y- r[] o[] x{} b0" ∷
    "4 NonPrim - g0 w0 p0@0{1,2,3,4,5} a0 v- y- r[] o[] x{} b0" ∷
    "5 NonPrim - g0 w0 p0@0{1,2,3,4,5} a0 v- y- r[] o[] x{} b0" ∷
    "= 2" ∷
    "1 ExchangeStates c1 g0 w0 p0@0{1,2,3,4,5} a0 v- y- r[] o[] x{} b0" ∷
    "2 ExchangeStates c1 g0 w0 p0@0{1,2,3,4,5} a0 v- y- r[] o[] x{} b0" ∷
    "3 ExchangeStates c1 g0 w0 p0@0{1,2,3,4,5} a0 v- y- r[] o[] x{} b0" ∷
    "4 ExchangeStates c1 g0 w0 p0@0{1,2,3,4,5} a0 v- y- r[] o[] x{} b0" ∷
    "5 ExchangeStates c1 g0 w0 p0@0{1,2,3,4,5} a0 v- y- r[] o[] x{} b0" ∷
    "= 4" ∷
    "1 Construct c1 g0 w0 p0@0{1,2,3,4,5} a1 v1/0{1,2,3,4,5}{1} y- r[] o[] x{} b0" ∷
    "= 5" ∷
    "2 Construct c1 g0 w0 p0@0{1,2,3,4,5} a1 v1/0{1,2,3,4,5}{2} y- r[] o[] x{} b0" ∷
    "= 6" ∷
    "3 Construct c1 g0 w0 p0@0{1,2,3,4,5} a1 v1/0{1,2,3,4,5}{3} y- r[] o[] x{} b0" ∷
    "= 7" ∷
    "4 Construct c1 g0 w0 p0@0{1,2,3,4,5} a1 v1/0{1,2,3,4,5}{4} y- r[] o[] x{} b0" ∷
    "= 8" ∷
    "5 Construct c1 g0 w0 p0@0{1,2,3,4,5} a1 v1/0{1,2,3,4,5}{5} y- r[] o[] x{} b0" ∷
    "= 10" ∷
    "1 RegPrim c1 g0 w0 p1@1{1,2,3,4,5} a0 v1/0{1,2,3,4,5}{1} y- r[] o[] x{} b0" ∷
    "= 11" ∷
    "2 RegPrim c1 g0 w0 p1@1{1,2,3,4,5} a0 v1/0{1,2,3,4,5}{2} y- r[] o[] x{} b0" ∷
    "= 12" ∷
    "3 RegPrim c1 g0 w0 p1@1{1,2,3,4,5} a0 v1/0{1,2,3,4,5}{3} y- r[] o[] x{} b0" ∷
    "= 13" ∷
    "4 RegPrim c1 g0 w0 p1@1{1,2,3,4,5} a0 v1/0{1,2,3,4,5}{4} y- r[] o[] x{} b0" ∷
    "= 14" ∷
    "5 RegPrim c1 g0 w0 p1@1{1,2,3,4,5} a0 v1/0{1,2,3,4,5}{5} y- r[] o[] x{} b0" ∷
    "end 16" ∷
    [])
unfolding cases_compute
five_replicas_primary_formed_a = refl

-- Replicas at the start: 5: a primary is lost in a partition, and after a merge red actions are ordered; a replica crashes.
five_replicas_primary_lost_and_reds_ordered_crash_a :
    replayed_text (
    "start 1 3 16 27 30" ∷
    "merge 1 3 16 27 30" ∷
    "stop 27 0 13de010000016522" ∷
    "request 1 ? count" ∷
    "request 1 inc \"z\" 3; cas \"z\" -1 93" ∷
    "request 3 cas \"y\" 38 5 ? count" ∷
    "order 16" ∷
    "receive 3 1" ∷
    "order 1" ∷
    "order 3" ∷
    "split 1 3 16 30" ∷
    "merge 1 3 16 30" ∷
    "recover 27" ∷
    "split 1 3 16 30" ∷
    "merge 1 3 16 27 30" ∷
    "rounds 3" ∷
    "request 3 need \"a\" -2; inc \"x\" 3; inc \"y\" 10" ∷
    "request 16 inc \"x\" 9 ? count" ∷
    "split 1 3 16 27 30" ∷
    "merge 1 3 16 27 30" ∷
    "rounds 1" ∷
    "request 30 move \"x\" \"z\" 5" ∷
    "gather" ∷
    "request 16 del \"z\"" ∷
    "request 1 put \"y\" 28" ∷
    "split 30" ∷
    "split 27" ∷
    "merge 27 30" ∷
    "split 16" ∷
    "split 1 3" ∷
    "split 27" ∷
    "split 30" ∷
    "merge 1 3 16 27 30" ∷
    "rounds 1" ∷
    "order 3" ∷
    "rounds 1" ∷
    "gather" ∷
    "request 1 inc \"x\" -1" ∷
    "request 3 move \"x\" \"b\" 6 ? get \"x\"" ∷
    "request 16 put \"y\" 54; inc \"a\" 3" ∷
    "gather" ∷
    "split 1 16 27 30" ∷
    "split 3" ∷
    "merge 1 3 16 27 30" ∷
    "request 30 put \"x\" -9223372036854775807 ? get \"a\"" ∷
    "request 30 put \"abc\" -9223372036854775808; inc \"a\" 2" ∷
    "order 1" ∷
    "split 1" ∷
    "split 3 16 27 30" ∷
    "merge 1" ∷
    "split 1" ∷
    "merge 1 3 16 27 30" ∷
    "rounds 4" ∷
    "request 1 cas \"abc\" 21 \"hi\"; del \"z\"; need \"z\" absent; inc \"a\" -3; del \"abc\"; del \"a\"; inc \"b\" -2; inc \"z\" 8; put \"y\" -9223372036854775808; put \"b\" \"yes \\\"no\\\"\"; inc \"y\" 4; inc \"a\" 8; inc \"x\" 7; put \"a\" 33; inc \"y\" -1; inc \"x\" 11" ∷
    "order 1" ∷
    "receive 27 20" ∷
    "receive 30 20" ∷
    "split 1 3" ∷
    "split 16 27" ∷
    "end" ∷
    [])
    ≡ written (
    "= 1" ∷
    "1 NonPrim - g0 w0 p0@0{1,3,16,27,30} a0 v- y- r[] o[] x{} b0" ∷
    "3 NonPrim - g0 w0 p0@0{1,3,16,27,30} a0 v- y- r[] o[] x{} b0" ∷
    "16 NonPrim - g0 w0 p0@0{1,3,16,27,30} a0 v- y- r[] o[] x{} b0" ∷
    "27 NonPrim - g0 w0 p0@0{1,3,16,27,30} a0 v- y- r[] o[] x{} b0" ∷
    "30 NonPrim - g0 w0 p0@0{1,3,16,27,30} a0 v- y- r[] o[] x{} b0" ∷
    "= 2" ∷
    "1 ExchangeStates c1 g0 w0 p0@0{1,3,16,27,30} a0 v- y- r[] o[] x{} b0" ∷
    "3 ExchangeStates c1 g0 w0 p0@0{1,3,16,27,30} a0 v- y- r[] o[] x{} b0" ∷
    "16 ExchangeStates c1 g0 w0 p0@0{1,3,16,27,30} a0 v- y- r[] o[] x{} b0" ∷
    "27 ExchangeStates c1 g0 w0 p0@0{1,3,16,27,30} a0 v- y- r[] o[] x{} b0" ∷
    "30 ExchangeStates c1 g0 w0 p0@0{1,3,16,27,30} a0 v- y- r[] o[] x{} b0" ∷
    "= 3" ∷
    "27 Down" ∷
    "= 4" ∷
    "1 ExchangeStates c1 g0 w0 p0@0{1,3,16,27,30} a0 v- y- r[] o[] x{} b1" ∷
    "= 5" ∷
    "1 ExchangeStates c1 g0 w0 p0@0{1,3,16,27,30} a0 v- y- r[] o[] x{} b2" ∷
    "= 6" ∷
    "3 ExchangeStates c1 g0 w0 p0@0{1,3,16,27,30} a0 v- y- r[] o[] x{} b1" ∷
    "= 11" ∷
    "1 NonPrim t1 g0 w0 p0@0{1,3,16,27,30} a0 v- y- r[] o[] x{} b2" ∷
    "3 NonPrim t1 g0 w0 p0@0{1,3,16,27,30} a0 v- y- r[] o[] x{} b1" ∷
    "16 NonPrim t1 g0 w0 p0@0{1,3,16,27,30} a0 v- y- r[] o[] x{} b0" ∷
    "30 NonPrim t1 g0 w0 p0@0{1,3,16,27,30} a0 v- y- r[] o[] x{} b0" ∷
    "= 12" ∷
    "1 ExchangeStates c2 g0 w0 p0@0{1,3,16,27,30} a0 v- y- r[] o[] x{} b2" ∷
    "3 ExchangeStates c2 g0 w0 p0@0{1,3,16,27,30} a0 v- y- r[] o[] x{} b1" ∷
    "16 ExchangeStates c2 g0 w0 p0@0{1,3,16,27,30} a0 v- y- r[] o[] x{} b0" ∷
    "30 ExchangeStates c2 g0 w0 p0@0{1,3,16,27,30} a0 v- y- r[] o[] x{} b0" ∷
    "= 13" ∷
    "27 NonPrim - g0 w0 p0@0{1,3,16,27,30} a0 v- y- r[] o[] x{} b0" ∷
    "= 14" ∷
    "1 NonPrim t2 g0 w0 p0@0{1,3,16,27,30} a0 v- y- r[] o[] x{} b2" ∷
    "3 NonPrim t2 g0 w0 p0@0{1,3,16,27,30} a0 v- y- r[] o[] x{} b1" ∷
    "16 NonPrim t2 g0 w0 p0@0{1,3,16,27,30} a0 v- y- r[] o[] x{} b0" ∷
    "30 NonPrim t2 g0 w0 p0@0{1,3,16,27,30} a0 v- y- r[] o[] x{} b0" ∷
    "= 15" ∷
    "1 ExchangeStates c3 g0 w0 p0@0{1,3,16,27,30} a0 v- y- r[] o[] x{} b2" ∷
    "3 ExchangeStates c3 g0 w0 p0@0{1,3,16,27,30} a0 v- y- r[] o[] x{} b1" ∷
    "16 ExchangeStates c3 g0 w0 p0@0{1,3,16,27,30} a0 v- y- r[] o[] x{} b0" ∷
    "27 ExchangeStates c3 g0 w0 p0@0{1,3,16,27,30} a0 v- y- r[] o[] x{} b0" ∷
    "30 ExchangeStates c3 g0 w0 p0@0{1,3,16,27,30} a0 v- y- r[] o[] x{} b0" ∷
    "= 17" ∷
    "1 Construct c3 g0 w0 p0@0{1,3,16,27,30} a1 v3/0{1,3,16,27,30}{1} y- r[] o[] x{} b2" ∷
    "= 18" ∷
    "3 Construct c3 g0 w0 p0@0{1,3,16,27,30} a1 v3/0{1,3,16,27,30}{3} y- r[] o[] x{} b1" ∷
    "= 19" ∷
    "16 Construct c3 g0 w0 p0@0{1,3,16,27,30} a1 v3/0{1,3,16,27,30}{16} y- r[] o[] x{} b0" ∷
    "= 20" ∷
    "27 Construct c3 g0 w0 p0@0{1,3,16,27,30} a1 v3/0{1,3,16,27,30}{27} y- r[] o[] x{} b0" ∷
    "= 21" ∷
    "30 Construct c3 g0 w0 p0@0{1,3,16,27,30} a1 v3/0{1,3,16,27,30}{30} y- r[] o[] x{} b0" ∷
    "= 23" ∷
    "made 1:1 ? count" ∷
    "made 1:2 inc \"z\" 3; cas \"z\" -1 93" ∷
    "1 RegPrim c3 g0 w0 p1@3{1,3,16,27,30} a0 v3/0{1,3,16,27,30}{1} y- r[] o[1:1,1:2] x{} b0" ∷
    "= 24" ∷
    "made 3:1 cas \"y\" 38 5 ? count" ∷
    "3 RegPrim c3 g0 w0 p1@3{1,3,16,27,30} a0 v3/0{1,3,16,27,30}{3} y- r[] o[3:1] x{} b0" ∷
    "= 25" ∷
    "16 RegPrim c3 g0 w0 p1@3{1,3,16,27,30} a0 v3/0{1,3,16,27,30}{16} y- r[] o[] x{} b0" ∷
    "= 26" ∷
    "27 RegPrim c3 g0 w0 p1@3{1,3,16,27,30} a0 v3/0{1,3,16,27,30}{27} y- r[] o[] x{} b0" ∷
    "= 27" ∷
    "30 RegPrim c3 g0 w0 p1@3{1,3,16,27,30} a0 v3/0{1,3,16,27,30}{30} y- r[] o[] x{} b0" ∷
    "= 29" ∷
    "order 1 1:1" ∷
    "order 2 1:2" ∷
    "order 3 3:1" ∷
    "1 RegPrim c3 g3 w0 p1@3{1,3,16,27,30} a0 v3/0{1,3,16,27,30}{1} y- r[] o[] x{} b0" ∷
    "reply 1:1 done ? count 0" ∷
    "reply 1:2 done" ∷
    "= 30" ∷
    "3 RegPrim c3 g3 w0 p1@3{1,3,16,27,30} a0 v3/0{1,3,16,27,30}{3} y- r[] o[] x{} b0" ∷
    "reply 3:1 done ? count 1" ∷
    "= 31" ∷
    "16 RegPrim c3 g3 w0 p1@3{1,3,16,27,30} a0 v3/0{1,3,16,27,30}{16} y- r[] o[] x{} b0" ∷
    "= 32" ∷
    "27 RegPrim c3 g3 w0 p1@3{1,3,16,27,30} a0 v3/0{1,3,16,27,30}{27} y- r[] o[] x{} b0" ∷
    "= 33" ∷
    "30 RegPrim c3 g3 w0 p1@3{1,3,16,27,30} a0 v3/0{1,3,16,27,30}{30} y- r[] o[] x{} b0" ∷
    "= 34" ∷
    "made 3:2 need \"a\" -2; inc \"x\" 3; inc \"y\" 10" ∷
    "3 RegPrim c3 g3 w0 p1@3{1,3,16,27,30} a0 v3/0{1,3,16,27,30}{3} y- r[] o[3:2] x{} b0" ∷
    "= 35" ∷
    "made 16:1 inc \"x\" 9 ? count" ∷
    "16 RegPrim c3 g3 w0 p1@3{1,3,16,27,30} a0 v3/0{1,3,16,27,30}{16} y- r[] o[16:1] x{} b0" ∷
    "= 36" ∷
    "1 TransPrim t3 g3 w0 p1@3{1,3,16,27,30} a0 v3/0{1,3,16,27,30}{1} y- r[] o[] x{} b0" ∷
    "3 TransPrim t3 g3 w0 p1@3{1,3,16,27,30} a0 v3/0{1,3,16,27,30}{3} y- r[] o[3:2] x{} b0" ∷
    "16 TransPrim t3 g3 w0 p1@3{1,3,16,27,30} a0 v3/0{1,3,16,27,30}{16} y- r[] o[16:1] x{} b0" ∷
    "27 TransPrim t3 g3 w0 p1@3{1,3,16,27,30} a0 v3/0{1,3,16,27,30}{27} y- r[] o[] x{} b0" ∷
    "30 TransPrim t3 g3 w0 p1@3{1,3,16,27,30} a0 v3/0{1,3,16,27,30}{30} y- r[] o[] x{} b0" ∷
    "= 37" ∷
    "1 ExchangeStates c4 g3 w0 p1@3{1,3,16,27,30} a0 v- y![] r[] o[] x{} b0" ∷
    "3 ExchangeStates c4 g3 w0 p1@3{1,3,16,27,30} a0 v- y![] r[3:2] o[] x{} b0" ∷
    "16 ExchangeStates c4 g3 w0 p1@3{1,3,16,27,30} a0 v- y![] r[16:1] o[] x{} b0" ∷
    "27 ExchangeStates c4 g3 w0 p1@3{1,3,16,27,30} a0 v- y![] r[] o[] x{} b0" ∷
    "30 ExchangeStates c4 g3 w0 p1@3{1,3,16,27,30} a0 v- y![] r[] o[] x{} b0" ∷
    "= 39" ∷
    "1 ExchangeActions c4 g3 w0 p1@3{1,3,16,27,30} a0 v- y![] r[] o[] x{} b0" ∷
    "= 40" ∷
    "3 ExchangeActions c4 g3 w0 p1@3{1,3,16,27,30} a0 v- y![] r[3:2] o[] x{} b0" ∷
    "= 41" ∷
    "16 ExchangeActions c4 g3 w0 p1@3{1,3,16,27,30} a0 v- y![] r[16:1] o[] x{} b0" ∷
    "= 42" ∷
    "27 ExchangeActions c4 g3 w0 p1@3{1,3,16,27,30} a0 v- y![] r[] o[] x{} b0" ∷
    "= 43" ∷
    "30 ExchangeActions c4 g3 w0 p1@3{1,3,16,27,30} a0 v- y![] r[] o[] x{} b0" ∷
    "= 44" ∷
    "30 ExchangeActions c4 g3 w0 p1@3{1,3,16,27,30} a0 v- y![] r[] o[] x{} b1" ∷
    "= 46" ∷
    "16 ExchangeActions c4 g3 w0 p1@3{1,3,16,27,30} a0 v- y![] r[16:1] o[] x{} b1" ∷
    "= 47" ∷
    "1 ExchangeActions c4 g3 w0 p1@3{1,3,16,27,30} a0 v- y![] r[] o[] x{} b1" ∷
    "= 48" ∷
    "30 NonPrim t4 g3 w0 p1@3{1,3,16,27,30} a0 v- y![] r[] o[] x{} b1" ∷
    "= 49" ∷
    "27 NonPrim t4 g3 w0 p1@3{1,3,16,27,30} a0 v- y![] r[] o[] x{} b0" ∷
    "= 50" ∷
    "27 ExchangeStates c5 g3 w0 p1@3{1,3,16,27,30} a0 v- y![] r[] o[] x{} b0" ∷
    "30 ExchangeStates c5 g3 w0 p1@3{1,3,16,27,30} a0 v- y![] r[] o[] x{} b1" ∷
    "= 51" ∷
    "16 NonPrim t4 g3 w0 p1@3{1,3,16,27,30} a0 v- y![] r[16:1] o[] x{} b1" ∷
    "= 52" ∷
    "1 NonPrim t4 g3 w0 p1@3{1,3,16,27,30} a0 v- y![] r[] o[] x{} b1" ∷
    "3 NonPrim t4 g3 w0 p1@3{1,3,16,27,30} a0 v- y![] r[3:2] o[] x{} b0" ∷
    "= 53" ∷
    "27 NonPrim t5 g3 w0 p1@3{1,3,16,27,30} a0 v- y![] r[] o[] x{} b0" ∷
    "= 54" ∷
    "30 NonPrim t5 g3 w0 p1@3{1,3,16,27,30} a0 v- y![] r[] o[] x{} b1" ∷
    "= 55" ∷
    "1 ExchangeStates c6 g3 w0 p1@3{1,3,16,27,30} a0 v- y![] r[] o[] x{} b1" ∷
    "3 ExchangeStates c6 g3 w0 p1@3{1,3,16,27,30} a0 v- y![] r[3:2] o[] x{} b0" ∷
    "16 ExchangeStates c6 g3 w0 p1@3{1,3,16,27,30} a0 v- y![] r[16:1] o[] x{} b1" ∷
    "27 ExchangeStates c6 g3 w0 p1@3{1,3,16,27,30} a0 v- y![] r[] o[] x{} b0" ∷
    "30 ExchangeStates c6 g3 w0 p1@3{1,3,16,27,30} a0 v- y![] r[] o[] x{} b1" ∷
    "= 57" ∷
    "1 ExchangeActions c6 g3 w0 p1@3{1,3,16,27,30} a0 v- y![] r[] o[] x{} b1" ∷
    "= 58" ∷
    "3 ExchangeActions c6 g3 w0 p1@3{1,3,16,27,30} a0 v- y![] r[3:2] o[] x{} b0" ∷
    "= 59" ∷
    "16 ExchangeActions c6 g3 w0 p1@3{1,3,16,27,30} a0 v- y![] r[16:1] o[] x{} b1" ∷
    "= 60" ∷
    "27 ExchangeActions c6 g3 w0 p1@3{1,3,16,27,30} a0 v- y![] r[] o[] x{} b0" ∷
    "= 61" ∷
    "30 ExchangeActions c6 g3 w0 p1@3{1,3,16,27,30} a0 v- y![] r[] o[] x{} b1" ∷
    "= 64" ∷
    "1 ExchangeActions c6 g3 w0 p1@3{1,3,16,27,30} a0 v- y![] r[3:2] o[] x{} b1" ∷
    "= 66" ∷
    "16 ExchangeActions c6 g3 w0 p1@3{1,3,16,27,30} a0 v- y![] r[3:2,16:1] o[] x{} b1" ∷
    "= 67" ∷
    "27 ExchangeActions c6 g3 w0 p1@3{1,3,16,27,30} a0 v- y![] r[3:2] o[] x{} b0" ∷
    "= 68" ∷
    "30 ExchangeActions c6 g3 w0 p1@3{1,3,16,27,30} a0 v- y![] r[3:2] o[] x{} b1" ∷
    "= 70" ∷
    "1 ExchangeActions c6 g3 w0 p1@3{1,3,16,27,30} a0 v- y![] r[3:2] o[] x{} b2" ∷
    "= 71" ∷
    "3 ExchangeActions c6 g3 w0 p1@3{1,3,16,27,30} a0 v- y![] r[3:2] o[] x{} b1" ∷
    "= 72" ∷
    "16 ExchangeActions c6 g3 w0 p1@3{1,3,16,27,30} a0 v- y![] r[3:2,16:1] o[] x{} b2" ∷
    "= 74" ∷
    "1 NonPrim t6 g3 w0 p1@3{1,3,16,27,30} a0 v- y![] r[3:2] o[] x{} b2" ∷
    "16 NonPrim t6 g3 w0 p1@3{1,3,16,27,30} a0 v- y![] r[3:2,16:1] o[] x{} b2" ∷
    "27 NonPrim t6 g3 w0 p1@3{1,3,16,27,30} a0 v- y![] r[3:2] o[] x{} b0" ∷
    "30 NonPrim t6 g3 w0 p1@3{1,3,16,27,30} a0 v- y![] r[3:2] o[] x{} b1" ∷
    "= 75" ∷
    "3 NonPrim t6 g3 w0 p1@3{1,3,16,27,30} a0 v- y![] r[3:2] o[] x{} b1" ∷
    "= 76" ∷
    "1 ExchangeStates c7 g3 w0 p1@3{1,3,16,27,30} a0 v- y![] r[3:2] o[] x{} b2" ∷
    "3 ExchangeStates c7 g3 w0 p1@3{1,3,16,27,30} a0 v- y![] r[3:2] o[] x{} b1" ∷
    "16 ExchangeStates c7 g3 w0 p1@3{1,3,16,27,30} a0 v- y![] r[3:2,16:1] o[] x{} b2" ∷
    "27 ExchangeStates c7 g3 w0 p1@3{1,3,16,27,30} a0 v- y![] r[3:2] o[] x{} b0" ∷
    "30 ExchangeStates c7 g3 w0 p1@3{1,3,16,27,30} a0 v- y![] r[3:2] o[] x{} b1" ∷
    "= 77" ∷
    "30 ExchangeStates c7 g3 w0 p1@3{1,3,16,27,30} a0 v- y![] r[3:2] o[] x{} b2" ∷
    "= 78" ∷
    "30 ExchangeStates c7 g3 w0 p1@3{1,3,16,27,30} a0 v- y![] r[3:2] o[] x{} b3" ∷
    "= 80" ∷
    "1 NonPrim t7 g3 w0 p1@3{1,3,16,27,30} a0 v- y![] r[3:2] o[] x{} b2" ∷
    "= 81" ∷
    "3 NonPrim t7 g3 w0 p1@3{1,3,16,27,30} a0 v- y![] r[3:2] o[] x{} b1" ∷
    "16 NonPrim t7 g3 w0 p1@3{1,3,16,27,30} a0 v- y![] r[3:2,16:1] o[] x{} b2" ∷
    "27 NonPrim t7 g3 w0 p1@3{1,3,16,27,30} a0 v- y![] r[3:2] o[] x{} b0" ∷
    "30 NonPrim t7 g3 w0 p1@3{1,3,16,27,30} a0 v- y![] r[3:2] o[] x{} b3" ∷
    "= 82" ∷
    "1 ExchangeStates c8 g3 w0 p1@3{1,3,16,27,30} a0 v- y![] r[3:2] o[] x{} b2" ∷
    "= 83" ∷
    "1 NonPrim t8 g3 w0 p1@3{1,3,16,27,30} a0 v- y![] r[3:2] o[] x{} b2" ∷
    "= 84" ∷
    "1 ExchangeStates c9 g3 w0 p1@3{1,3,16,27,30} a0 v- y![] r[3:2] o[] x{} b2" ∷
    "3 ExchangeStates c9 g3 w0 p1@3{1,3,16,27,30} a0 v- y![] r[3:2] o[] x{} b1" ∷
    "16 ExchangeStates c9 g3 w0 p1@3{1,3,16,27,30} a0 v- y![] r[3:2,16:1] o[] x{} b2" ∷
    "27 ExchangeStates c9 g3 w0 p1@3{1,3,16,27,30} a0 v- y![] r[3:2] o[] x{} b0" ∷
    "30 ExchangeStates c9 g3 w0 p1@3{1,3,16,27,30} a0 v- y![] r[3:2] o[] x{} b3" ∷
    "= 86" ∷
    "1 ExchangeActions c9 g3 w0 p1@3{1,3,16,27,30} a0 v- y![] r[3:2] o[] x{} b2" ∷
    "= 87" ∷
    "3 ExchangeActions c9 g3 w0 p1@3{1,3,16,27,30} a0 v- y![] r[3:2] o[] x{} b1" ∷
    "= 88" ∷
    "16 ExchangeActions c9 g3 w0 p1@3{1,3,16,27,30} a0 v- y![] r[3:2,16:1] o[] x{} b2" ∷
    "= 89" ∷
    "27 ExchangeActions c9 g3 w0 p1@3{1,3,16,27,30} a0 v- y![] r[3:2] o[] x{} b0" ∷
    "= 90" ∷
    "30 ExchangeActions c9 g3 w0 p1@3{1,3,16,27,30} a0 v- y![] r[3:2] o[] x{} b3" ∷
    "= 92" ∷
    "1 Construct c9 g3 w0 p1@3{1,3,16,27,30} a1 v9/1{1,3,16,27,30}{1} y![] r[3:2,16:1] o[] x{} b2" ∷
    "= 93" ∷
    "3 Construct c9 g3 w0 p1@3{1,3,16,27,30} a1 v9/1{1,3,16,27,30}{3} y![] r[3:2,16:1] o[] x{} b1" ∷
    "= 94" ∷
    "16 Construct c9 g3 w0 p1@3{1,3,16,27,30} a1 v9/1{1,3,16,27,30}{16} y![] r[3:2,16:1] o[] x{} b2" ∷
    "= 95" ∷
    "27 Construct c9 g3 w0 p1@3{1,3,16,27,30} a1 v9/1{1,3,16,27,30}{27} y![] r[3:2,16:1] o[] x{} b0" ∷
    "= 96" ∷
    "30 Construct c9 g3 w0 p1@3{1,3,16,27,30} a1 v9/1{1,3,16,27,30}{30} y![] r[3:2,16:1] o[] x{} b3" ∷
    "= 98" ∷
    "made 1:3 put \"y\" 28" ∷
    "made 1:4 inc \"x\" -1" ∷
    "order 4 3:2" ∷
    "order 5 16:1" ∷
    "1 RegPrim c9 g5 w0 p2@9{1,3,16,27,30} a0 v9/1{1,3,16,27,30}{1} y- r[] o[1:3,1:4] x{} b0" ∷
    "= 99" ∷
    "made 3:3 move \"x\" \"b\" 6 ? get \"x\"" ∷
    "3 RegPrim c9 g5 w0 p2@9{1,3,16,27,30} a0 v9/1{1,3,16,27,30}{3} y- r[] o[3:3] x{} b0" ∷
    "reply 3:2 aborted 1" ∷
    "= 100" ∷
    "made 16:2 del \"z\"" ∷
    "made 16:3 put \"y\" 54; inc \"a\" 3" ∷
    "16 RegPrim c9 g5 w0 p2@9{1,3,16,27,30} a0 v9/1{1,3,16,27,30}{16} y- r[] o[16:2,16:3] x{} b0" ∷
    "reply 16:1 done ? count 2" ∷
    "= 101" ∷
    "27 RegPrim c9 g5 w0 p2@9{1,3,16,27,30} a0 v9/1{1,3,16,27,30}{27} y- r[] o[] x{} b0" ∷
    "= 102" ∷
    "made 30:1 move \"x\" \"z\" 5" ∷
    "made 30:2 put \"x\" -9223372036854775807 ? get \"a\"" ∷
    "made 30:3 put \"abc\" -9223372036854775808; inc \"a\" 2" ∷
    "30 RegPrim c9 g5 w0 p2@9{1,3,16,27,30} a0 v9/1{1,3,16,27,30}{30} y- r[] o[30:1,30:2,30:3] x{} b0" ∷
    "= 104" ∷
    "order 6 1:3" ∷
    "order 7 1:4" ∷
    "order 8 3:3" ∷
    "order 9 16:2" ∷
    "order 10 16:3" ∷
    "order 11 30:1" ∷
    "order 12 30:2" ∷
    "order 13 30:3" ∷
    "1 RegPrim c9 g13 w0 p2@9{1,3,16,27,30} a0 v9/1{1,3,16,27,30}{1} y- r[] o[] x{} b0" ∷
    "reply 1:3 done" ∷
    "reply 1:4 done" ∷
    "= 105" ∷
    "3 RegPrim c9 g13 w0 p2@9{1,3,16,27,30} a0 v9/1{1,3,16,27,30}{3} y- r[] o[] x{} b0" ∷
    "reply 3:3 done ? 2" ∷
    "= 106" ∷
    "16 RegPrim c9 g13 w0 p2@9{1,3,16,27,30} a0 v9/1{1,3,16,27,30}{16} y- r[] o[] x{} b0" ∷
    "reply 16:2 done" ∷
    "reply 16:3 done" ∷
    "= 107" ∷
    "27 RegPrim c9 g13 w0 p2@9{1,3,16,27,30} a0 v9/1{1,3,16,27,30}{27} y- r[] o[] x{} b0" ∷
    "= 108" ∷
    "30 RegPrim c9 g13 w0 p2@9{1,3,16,27,30} a0 v9/1{1,3,16,27,30}{30} y- r[] o[] x{} b0" ∷
    "reply 30:1 aborted 1" ∷
    "reply 30:2 done ? 3" ∷
    "reply 30:3 done" ∷
    "= 109" ∷
    "made 1:5 cas \"abc\" 21 \"hi\"; del \"z\"; need \"z\" absent; inc \"a\" -3; del \"abc\"; del \"a\"; inc \"b\" -2; inc \"z\" 8; put \"y\" -9223372036854775808; put \"b\" \"yes \\\"no\\\"\"; inc \"y\" 4; inc \"a\" 8; inc \"x\" 7; put \"a\" 33; inc \"y\" -1; inc \"x\" 11" ∷
    "1 RegPrim c9 g13 w0 p2@9{1,3,16,27,30} a0 v9/1{1,3,16,27,30}{1} y- r[] o[1:5] x{} b0" ∷
    "= 113" ∷
    "1 TransPrim t9 g13 w0 p2@9{1,3,16,27,30} a0 v9/1{1,3,16,27,30}{1} y?[1:5] r[] o[] x{} b0" ∷
    "3 TransPrim t9 g13 w0 p2@9{1,3,16,27,30} a0 v9/1{1,3,16,27,30}{3} y?[1:5] r[] o[] x{} b0" ∷
    "= 114" ∷
    "16 TransPrim t9 g13 w0 p2@9{1,3,16,27,30} a0 v9/1{1,3,16,27,30}{16} y?[1:5] r[] o[] x{} b0" ∷
    "27 TransPrim t9 g13 w0 p2@9{1,3,16,27,30} a0 v9/1{1,3,16,27,30}{27} y?[1:5] r[] o[] x{} b0" ∷
    "end 114" ∷
    [])
unfolding cases_compute
five_replicas_primary_lost_and_reds_ordered_crash_a = refl

-- Replicas at the start: 5: a primary is lost in a partition, and after a merge red actions are ordered; a crash strikes inside a device call.
five_replicas_primary_lost_and_reds_ordered_crash_in_a_device_call_a :
    replayed_text (
    "start 1 2 3 4 5" ∷
    "merge 1 2 3 4 5" ∷
    "rounds 2" ∷
    "split 5" ∷
    "request 1 put \"y\" 29" ∷
    "merge 5" ∷
    "rounds 2" ∷
    "fail 2 4" ∷
    "request 5 move \"b\" \"z\" 9223372036854775807; need \"b\" absent; cas \"a\" 0 -3 ? count" ∷
    "gather" ∷
    "show order" ∷
    "gather" ∷
    "gather" ∷
    "request 5 put \"y\" -1" ∷
    "request 2 inc \"y\" -1" ∷
    "order 5" ∷
    "split 5" ∷
    "split 1 3 4" ∷
    "merge 1 3 4 5" ∷
    "split 1 3 4 5" ∷
    "merge 1 3 4 5" ∷
    "request 3 del \"a\" ? get \"b\"" ∷
    "order 4" ∷
    "gather" ∷
    "split 1 3 4" ∷
    "gather" ∷
    "gather" ∷
    "gather" ∷
    "deliver 5 4" ∷
    "gather" ∷
    "gather" ∷
    "gather" ∷
    "split 5" ∷
    "stop 4 0 -" ∷
    "merge 1 3 5" ∷
    "rounds 2" ∷
    "request 3 inc \"z\" 7" ∷
    "order 5" ∷
    "request 5 ? get \"ab\"" ∷
    "recover 4" ∷
    "rounds 3" ∷
    "rounds 3" ∷
    "gather" ∷
    "recover 2" ∷
    "request 3 cas \"x\" 68 33; move \"z\" \"b\" 5" ∷
    "split 1 3 5" ∷
    "merge 1 2 3 4 5" ∷
    "request 2 move \"x\" \"z\" 3 ? count" ∷
    "rounds 1" ∷
    "order 1" ∷
    "receive 2 6" ∷
    "gather" ∷
    "deliver 1 1" ∷
    "end" ∷
    [])
    ≡ written (
    "= 1" ∷
    "1 NonPrim - g0 w0 p0@0{1,2,3,4,5} a0 v- y- r[] o[] x{} b0" ∷
    "2 NonPrim - g0 w0 p0@0{1,2,3,4,5} a0 v- y- r[] o[] x{} b0" ∷
    "3 NonPrim - g0 w0 p0@0{1,2,3,4,5} a0 v- y- r[] o[] x{} b0" ∷
    "4 NonPrim - g0 w0 p0@0{1,2,3,4,5} a0 v- y- r[] o[] x{} b0" ∷
    "5 NonPrim - g0 w0 p0@0{1,2,3,4,5} a0 v- y- r[] o[] x{} b0" ∷
    "= 2" ∷
    "1 ExchangeStates c1 g0 w0 p0@0{1,2,3,4,5} a0 v- y- r[] o[] x{} b0" ∷
    "2 ExchangeStates c1 g0 w0 p0@0{1,2,3,4,5} a0 v- y- r[] o[] x{} b0" ∷
    "3 ExchangeStates c1 g0 w0 p0@0{1,2,3,4,5} a0 v- y- r[] o[] x{} b0" ∷
    "4 ExchangeStates c1 g0 w0 p0@0{1,2,3,4,5} a0 v- y- r[] o[] x{} b0" ∷
    "5 ExchangeStates c1 g0 w0 p0@0{1,2,3,4,5} a0 v- y- r[] o[] x{} b0" ∷
    "= 4" ∷
    "1 Construct c1 g0 w0 p0@0{1,2,3,4,5} a1 v1/0{1,2,3,4,5}{1} y- r[] o[] x{} b0" ∷
    "= 5" ∷
    "2 Construct c1 g0 w0 p0@0{1,2,3,4,5} a1 v1/0{1,2,3,4,5}{2} y- r[] o[] x{} b0" ∷
    "= 6" ∷
    "3 Construct c1 g0 w0 p0@0{1,2,3,4,5} a1 v1/0{1,2,3,4,5}{3} y- r[] o[] x{} b0" ∷
    "= 7" ∷
    "4 Construct c1 g0 w0 p0@0{1,2,3,4,5} a1 v1/0{1,2,3,4,5}{4} y- r[] o[] x{} b0" ∷
    "= 8" ∷
    "5 Construct c1 g0 w0 p0@0{1,2,3,4,5} a1 v1/0{1,2,3,4,5}{5} y- r[] o[] x{} b0" ∷
    "= 10" ∷
    "1 RegPrim c1 g0 w0 p1@1{1,2,3,4,5} a0 v1/0{1,2,3,4,5}{1} y- r[] o[] x{} b0" ∷
    "= 11" ∷
    "2 RegPrim c1 g0 w0 p1@1{1,2,3,4,5} a0 v1/0{1,2,3,4,5}{2} y- r[] o[] x{} b0" ∷
    "= 12" ∷
    "3 RegPrim c1 g0 w0 p1@1{1,2,3,4,5} a0 v1/0{1,2,3,4,5}{3} y- r[] o[] x{} b0" ∷
    "= 13" ∷
    "4 RegPrim c1 g0 w0 p1@1{1,2,3,4,5} a0 v1/0{1,2,3,4,5}{4} y- r[] o[] x{} b0" ∷
    "= 14" ∷
    "5 RegPrim c1 g0 w0 p1@1{1,2,3,4,5} a0 v1/0{1,2,3,4,5}{5} y- r[] o[] x{} b0" ∷
    "= 15" ∷
    "5 TransPrim t1 g0 w0 p1@1{1,2,3,4,5} a0 v1/0{1,2,3,4,5}{5} y- r[] o[] x{} b0" ∷
    "= 16" ∷
    "made 1:1 put \"y\" 29" ∷
    "1 RegPrim c1 g0 w0 p1@1{1,2,3,4,5} a0 v1/0{1,2,3,4,5}{1} y- r[] o[1:1] x{} b0" ∷
    "= 17" ∷
    "5 ExchangeStates c2 g0 w0 p1@1{1,2,3,4,5} a0 v- y![] r[] o[] x{} b0" ∷
    "= 19" ∷
    "5 NonPrim c2 g0 w0 p1@1{1,2,3,4,5} a0 v- y![] r[] o[] x{} b0" ∷
    "= 22" ∷
    "made 5:1 move \"b\" \"z\" 9223372036854775807; need \"b\" absent; cas \"a\" 0 -3 ? count" ∷
    "5 NonPrim c2 g0 w0 p1@1{1,2,3,4,5} a0 v- y![] r[] o[5:1] x{} b0" ∷
    "= 24" ∷
    "all []" ∷
    "= 27" ∷
    "made 5:2 put \"y\" -1" ∷
    "5 NonPrim c2 g0 w0 p1@1{1,2,3,4,5} a0 v- y![] r[] o[5:1,5:2] x{} b0" ∷
    "= 28" ∷
    "2 Down" ∷
    "= 30" ∷
    "5 NonPrim t2 g0 w0 p1@1{1,2,3,4,5} a0 v- y![] r[5:1,5:2] o[] x{} b0" ∷
    "= 31" ∷
    "1 TransPrim t1 g0 w0 p1@1{1,2,3,4,5} a0 v1/0{1,2,3,4,5}{1} y?[1:1] r[] o[] x{} b0" ∷
    "3 TransPrim t1 g0 w0 p1@1{1,2,3,4,5} a0 v1/0{1,2,3,4,5}{3} y?[1:1] r[] o[] x{} b0" ∷
    "4 TransPrim t1 g0 w0 p1@1{1,2,3,4,5} a0 v1/0{1,2,3,4,5}{4} y?[1:1] r[] o[] x{} b0" ∷
    "= 32" ∷
    "1 ExchangeStates c3 g0 w0 p1@1{1,2,3,4,5} a0 v- y![1:1] r[] o[] x{} b0" ∷
    "3 ExchangeStates c3 g0 w0 p1@1{1,2,3,4,5} a0 v- y![1:1] r[] o[] x{} b0" ∷
    "4 ExchangeStates c3 g0 w0 p1@1{1,2,3,4,5} a0 v- y![1:1] r[] o[] x{} b0" ∷
    "5 ExchangeStates c3 g0 w0 p1@1{1,2,3,4,5} a0 v- y![] r[5:1,5:2] o[] x{} b0" ∷
    "= 33" ∷
    "1 NonPrim t3 g0 w0 p1@1{1,2,3,4,5} a0 v- y![1:1] r[] o[] x{} b0" ∷
    "3 NonPrim t3 g0 w0 p1@1{1,2,3,4,5} a0 v- y![1:1] r[] o[] x{} b0" ∷
    "4 NonPrim t3 g0 w0 p1@1{1,2,3,4,5} a0 v- y![1:1] r[] o[] x{} b0" ∷
    "5 NonPrim t3 g0 w0 p1@1{1,2,3,4,5} a0 v- y![] r[5:1,5:2] o[] x{} b0" ∷
    "= 34" ∷
    "1 ExchangeStates c4 g0 w0 p1@1{1,2,3,4,5} a0 v- y![1:1] r[] o[] x{} b0" ∷
    "3 ExchangeStates c4 g0 w0 p1@1{1,2,3,4,5} a0 v- y![1:1] r[] o[] x{} b0" ∷
    "4 ExchangeStates c4 g0 w0 p1@1{1,2,3,4,5} a0 v- y![1:1] r[] o[] x{} b0" ∷
    "5 ExchangeStates c4 g0 w0 p1@1{1,2,3,4,5} a0 v- y![] r[5:1,5:2] o[] x{} b0" ∷
    "= 35" ∷
    "3 ExchangeStates c4 g0 w0 p1@1{1,2,3,4,5} a0 v- y![1:1] r[] o[] x{} b1" ∷
    "= 38" ∷
    "1 NonPrim t4 g0 w0 p1@1{1,2,3,4,5} a0 v- y![1:1] r[] o[] x{} b0" ∷
    "3 NonPrim t4 g0 w0 p1@1{1,2,3,4,5} a0 v- y![1:1] r[] o[] x{} b1" ∷
    "4 NonPrim t4 g0 w0 p1@1{1,2,3,4,5} a0 v- y![1:1] r[] o[] x{} b0" ∷
    "= 42" ∷
    "5 ExchangeActions c4 g0 w0 p1@1{1,2,3,4,5} a0 v- y![] r[5:1,5:2] o[] x{} b0" ∷
    "= 46" ∷
    "5 NonPrim t4 g0 w0 p1@1{1,2,3,4,5} a0 v- y![] r[5:1,5:2] o[] x{} b0" ∷
    "= 47" ∷
    "4 Down" ∷
    "= 48" ∷
    "1 ExchangeStates c5 g0 w0 p1@1{1,2,3,4,5} a0 v- y![1:1] r[] o[] x{} b0" ∷
    "3 ExchangeStates c5 g0 w0 p1@1{1,2,3,4,5} a0 v- y![1:1] r[] o[] x{} b1" ∷
    "5 ExchangeStates c5 g0 w0 p1@1{1,2,3,4,5} a0 v- y![] r[5:1,5:2] o[] x{} b0" ∷
    "= 50" ∷
    "1 ExchangeActions c5 g0 w0 p1@1{1,2,3,4,5} a0 v- y![1:1] r[] o[] x{} b0" ∷
    "= 51" ∷
    "3 ExchangeActions c5 g0 w0 p1@1{1,2,3,4,5} a0 v- y![1:1] r[] o[] x{} b1" ∷
    "= 52" ∷
    "5 ExchangeActions c5 g0 w0 p1@1{1,2,3,4,5} a0 v- y![] r[5:1,5:2] o[] x{} b0" ∷
    "= 56" ∷
    "5 ExchangeActions c5 g0 w0 p1@1{1,2,3,4,5} a0 v- y![] r[1:1,5:1,5:2] o[] x{} b0" ∷
    "= 57" ∷
    "3 ExchangeActions c5 g0 w0 p1@1{1,2,3,4,5} a0 v- y![1:1] r[] o[] x{} b2" ∷
    "= 59" ∷
    "5 ExchangeActions c5 g0 w0 p1@1{1,2,3,4,5} a0 v- y![] r[1:1,5:1,5:2] o[] x{} b1" ∷
    "= 60" ∷
    "4 NonPrim - g0 w0 p1@1{1,2,3,4,5} a0 v- y![1:1] r[] o[] x{} b0" ∷
    "= 62" ∷
    "1 Construct c5 g0 w0 p1@1{1,2,3,4,5} a1 v5/1{1,3,5}{1} y![] r[1:1,5:1,5:2] o[] x{} b0" ∷
    "= 63" ∷
    "3 Construct c5 g0 w0 p1@1{1,2,3,4,5} a1 v5/1{1,3,5}{3} y![] r[1:1,5:1,5:2] o[] x{} b2" ∷
    "= 64" ∷
    "5 Construct c5 g0 w0 p1@1{1,2,3,4,5} a1 v5/1{1,3,5}{5} y![] r[1:1,5:1,5:2] o[] x{} b1" ∷
    "= 66" ∷
    "order 1 1:1" ∷
    "order 2 5:1" ∷
    "order 3 5:2" ∷
    "1 RegPrim c5 g3 w0 p2@5{1,3,5} a0 v5/1{1,3,5}{1} y- r[] o[] x{} b0" ∷
    "reply 1:1 done" ∷
    "= 67" ∷
    "made 3:1 del \"a\" ? get \"b\"" ∷
    "made 3:2 inc \"z\" 7" ∷
    "3 RegPrim c5 g3 w0 p2@5{1,3,5} a0 v5/1{1,3,5}{3} y- r[] o[3:1,3:2] x{} b0" ∷
    "= 68" ∷
    "made 5:3 ? get \"ab\"" ∷
    "5 RegPrim c5 g3 w0 p2@5{1,3,5} a0 v5/1{1,3,5}{5} y- r[] o[5:3] x{} b0" ∷
    "reply 5:1 aborted 1 ? count 1" ∷
    "reply 5:2 done" ∷
    "= 70" ∷
    "order 4 3:1" ∷
    "order 5 3:2" ∷
    "order 6 5:3" ∷
    "1 RegPrim c5 g6 w0 p2@5{1,3,5} a0 v5/1{1,3,5}{1} y- r[] o[] x{} b0" ∷
    "= 71" ∷
    "3 RegPrim c5 g6 w0 p2@5{1,3,5} a0 v5/1{1,3,5}{3} y- r[] o[] x{} b0" ∷
    "reply 3:1 done ? absent" ∷
    "reply 3:2 done" ∷
    "= 72" ∷
    "5 RegPrim c5 g6 w0 p2@5{1,3,5} a0 v5/1{1,3,5}{5} y- r[] o[] x{} b0" ∷
    "reply 5:3 done ? absent" ∷
    "= 77" ∷
    "made 2:1 inc \"y\" -1" ∷
    "2 NonPrim - g0 w0 p1@1{1,2,3,4,5} a0 v1/0{1,2,3,4,5}{2} y- r[2:1] o[] x{} b0" ∷
    "= 78" ∷
    "made 3:3 cas \"x\" 68 33; move \"z\" \"b\" 5" ∷
    "3 RegPrim c5 g6 w0 p2@5{1,3,5} a0 v5/1{1,3,5}{3} y- r[] o[3:3] x{} b0" ∷
    "= 79" ∷
    "1 TransPrim t5 g6 w0 p2@5{1,3,5} a0 v5/1{1,3,5}{1} y- r[] o[] x{} b0" ∷
    "3 TransPrim t5 g6 w0 p2@5{1,3,5} a0 v5/1{1,3,5}{3} y- r[] o[3:3] x{} b0" ∷
    "5 TransPrim t5 g6 w0 p2@5{1,3,5} a0 v5/1{1,3,5}{5} y- r[] o[] x{} b0" ∷
    "= 80" ∷
    "1 ExchangeStates c6 g6 w0 p2@5{1,3,5} a0 v- y![] r[] o[] x{} b0" ∷
    "2 ExchangeStates c6 g0 w0 p1@1{1,2,3,4,5} a0 v1/0{1,2,3,4,5}{2} y- r[2:1] o[] x{} b0" ∷
    "3 ExchangeStates c6 g6 w0 p2@5{1,3,5} a0 v- y![] r[3:3] o[] x{} b0" ∷
    "4 ExchangeStates c6 g0 w0 p1@1{1,2,3,4,5} a0 v- y![1:1] r[] o[] x{} b0" ∷
    "5 ExchangeStates c6 g6 w0 p2@5{1,3,5} a0 v- y![] r[] o[] x{} b0" ∷
    "= 81" ∷
    "2 ExchangeStates c6 g0 w0 p1@1{1,2,3,4,5} a0 v1/0{1,2,3,4,5}{2} y- r[2:1] o[] x{} b1" ∷
    "= 83" ∷
    "1 ExchangeActions c6 g6 w0 p2@5{1,3,5} a0 v- y![] r[] o[] x{} b0" ∷
    "= 84" ∷
    "2 ExchangeActions c6 g0 w0 p1@1{1,2,3,4,5} a0 v1/0{1,2,3,4,5}{2} y- r[2:1] o[] x{} b1" ∷
    "= 85" ∷
    "3 ExchangeActions c6 g6 w0 p2@5{1,3,5} a0 v- y![] r[3:3] o[] x{} b0" ∷
    "= 86" ∷
    "4 ExchangeActions c6 g0 w0 p1@1{1,2,3,4,5} a0 v- y![1:1] r[] o[] x{} b0" ∷
    "= 87" ∷
    "5 ExchangeActions c6 g6 w0 p2@5{1,3,5} a0 v- y![] r[] o[] x{} b0" ∷
    "end 91" ∷
    [])
unfolding cases_compute
five_replicas_primary_lost_and_reds_ordered_crash_in_a_device_call_a = refl
