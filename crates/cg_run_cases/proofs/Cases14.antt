-- Cases of cases/ with their whole reports, which `.ci/theorems` writes down here.
use Rattle.std.specs.Prelude.{◌≡◌, [], ◌∷◌}
use mathlib.Core.Path.{refl}
use Rattle.cg_run_cases.specs.Replaying.{replayed_text, written}
use Rattle.cg_run_cases.specs.Computing.{cases_compute}

-- Replicas at the start: 4: a primary is split; a snapshot is handed on in pieces.
four_replicas_primary_split_joiner_a :
    replayed_text (
    "start 1 2 3 4" ∷
    "merge 1 2 3 4" ∷
    "rounds 2" ∷
    "request 4 cas \"z\" 9223372036854775807 73; inc \"x\" -1" ∷
    "rounds 2" ∷
    "gather" ∷
    "gather" ∷
    "gather" ∷
    "gather" ∷
    "gather" ∷
    "request 4 put \"z\" 43" ∷
    "join 3 26" ∷
    "rounds 3" ∷
    "join 4 5" ∷
    "request 3 put \"x\" 68 ? get \"y\"" ∷
    "rounds 1" ∷
    "rounds 2" ∷
    "request 1 inc \"y\" 3" ∷
    "split 1 2 3 4" ∷
    "merge 1 2 3 4" ∷
    "transfer 3 5 1" ∷
    "request 2 cas \"z\" 33 25" ∷
    "gather" ∷
    "transfer 3 26 9" ∷
    "end" ∷
    [])
    ≡ written (
    "= 1" ∷
    "1 NonPrim - g0 w0 p0@0{1,2,3,4} a0 v- y- r[] o[] x{} b0" ∷
    "2 NonPrim - g0 w0 p0@0{1,2,3,4} a0 v- y- r[] o[] x{} b0" ∷
    "3 NonPrim - g0 w0 p0@0{1,2,3,4} a0 v- y- r[] o[] x{} b0" ∷
    "4 NonPrim - g0 w0 p0@0{1,2,3,4} a0 v- y- r[] o[] x{} b0" ∷
    "= 2" ∷
    "1 ExchangeStates c1 g0 w0 p0@0{1,2,3,4} a0 v- y- r[] o[] x{} b0" ∷
    "2 ExchangeStates c1 g0 w0 p0@0{1,2,3,4} a0 v- y- r[] o[] x{} b0" ∷
    "3 ExchangeStates c1 g0 w0 p0@0{1,2,3,4} a0 v- y- r[] o[] x{} b0" ∷
    "4 ExchangeStates c1 g0 w0 p0@0{1,2,3,4} a0 v- y- r[] o[] x{} b0" ∷
    "= 4" ∷
    "1 Construct c1 g0 w0 p0@0{1,2,3,4} a1 v1/0{1,2,3,4}{1} y- r[] o[] x{} b0" ∷
    "= 5" ∷
    "2 Construct c1 g0 w0 p0@0{1,2,3,4} a1 v1/0{1,2,3,4}{2} y- r[] o[] x{} b0" ∷
    "= 6" ∷
    "3 Construct c1 g0 w0 p0@0{1,2,3,4} a1 v1/0{1,2,3,4}{3} y- r[] o[] x{} b0" ∷
    "= 7" ∷
    "4 Construct c1 g0 w0 p0@0{1,2,3,4} a1 v1/0{1,2,3,4}{4} y- r[] o[] x{} b0" ∷
    "= 9" ∷
    "1 RegPrim c1 g0 w0 p1@1{1,2,3,4} a0 v1/0{1,2,3,4}{1} y- r[] o[] x{} b0" ∷
    "= 10" ∷
    "2 RegPrim c1 g0 w0 p1@1{1,2,3,4} a0 v1/0{1,2,3,4}{2} y- r[] o[] x{} b0" ∷
    "= 11" ∷
    "3 RegPrim c1 g0 w0 p1@1{1,2,3,4} a0 v1/0{1,2,3,4}{3} y- r[] o[] x{} b0" ∷
    "= 12" ∷
    "4 RegPrim c1 g0 w0 p1@1{1,2,3,4} a0 v1/0{1,2,3,4}{4} y- r[] o[] x{} b0" ∷
    "= 13" ∷
    "made 4:1 cas \"z\" 9223372036854775807 73; inc \"x\" -1" ∷
    "4 RegPrim c1 g0 w0 p1@1{1,2,3,4} a0 v1/0{1,2,3,4}{4} y- r[] o[4:1] x{} b0" ∷
    "= 15" ∷
    "order 1 4:1" ∷
    "1 RegPrim c1 g1 w0 p1@1{1,2,3,4} a0 v1/0{1,2,3,4}{1} y- r[] o[] x{} b0" ∷
    "= 16" ∷
    "2 RegPrim c1 g1 w0 p1@1{1,2,3,4} a0 v1/0{1,2,3,4}{2} y- r[] o[] x{} b0" ∷
    "= 17" ∷
    "3 RegPrim c1 g1 w0 p1@1{1,2,3,4} a0 v1/0{1,2,3,4}{3} y- r[] o[] x{} b0" ∷
    "= 18" ∷
    "4 RegPrim c1 g1 w0 p1@1{1,2,3,4} a0 v1/0{1,2,3,4}{4} y- r[] o[] x{} b0" ∷
    "reply 4:1 done" ∷
    "= 25" ∷
    "made 4:2 put \"z\" 43" ∷
    "4 RegPrim c1 g1 w0 p1@1{1,2,3,4} a0 v1/0{1,2,3,4}{4} y- r[] o[4:2] x{} b0" ∷
    "= 26" ∷
    "made 3:1 join 26" ∷
    "3 RegPrim c1 g1 w0 p1@1{1,2,3,4} a0 v1/0{1,2,3,4}{3} y- r[] o[3:1] x{} b0" ∷
    "= 28" ∷
    "order 2 3:1" ∷
    "order 3 4:2" ∷
    "1 RegPrim c1 g3 w0 p1@1{1,2,3,4} a0 v1/0{1,2,3,4}{1} y- r[] o[] x{} b0" ∷
    "= 29" ∷
    "2 RegPrim c1 g3 w0 p1@1{1,2,3,4} a0 v1/0{1,2,3,4}{2} y- r[] o[] x{} b0" ∷
    "= 30" ∷
    "3 RegPrim c1 g3 w0 p1@1{1,2,3,4} a0 v1/0{1,2,3,4}{3} y- r[] o[] x{} b0" ∷
    "reply 3:1 done" ∷
    "= 31" ∷
    "4 RegPrim c1 g3 w0 p1@1{1,2,3,4} a0 v1/0{1,2,3,4}{4} y- r[] o[] x{} b0" ∷
    "reply 4:2 done" ∷
    "= 34" ∷
    "made 4:3 join 5" ∷
    "4 RegPrim c1 g3 w0 p1@1{1,2,3,4} a0 v1/0{1,2,3,4}{4} y- r[] o[4:3] x{} b0" ∷
    "= 35" ∷
    "made 3:2 put \"x\" 68 ? get \"y\"" ∷
    "3 RegPrim c1 g3 w0 p1@1{1,2,3,4} a0 v1/0{1,2,3,4}{3} y- r[] o[3:2] x{} b0" ∷
    "= 37" ∷
    "order 4 3:2" ∷
    "order 5 4:3" ∷
    "1 RegPrim c1 g5 w0 p1@1{1,2,3,4} a0 v1/0{1,2,3,4}{1} y- r[] o[] x{} b0" ∷
    "= 38" ∷
    "2 RegPrim c1 g5 w0 p1@1{1,2,3,4} a0 v1/0{1,2,3,4}{2} y- r[] o[] x{} b0" ∷
    "= 39" ∷
    "3 RegPrim c1 g5 w0 p1@1{1,2,3,4} a0 v1/0{1,2,3,4}{3} y- r[] o[] x{} b0" ∷
    "reply 3:2 done ? absent" ∷
    "= 40" ∷
    "4 RegPrim c1 g5 w0 p1@1{1,2,3,4} a0 v1/0{1,2,3,4}{4} y- r[] o[] x{} b0" ∷
    "reply 4:3 done" ∷
    "= 43" ∷
    "made 1:1 inc \"y\" 3" ∷
    "1 RegPrim c1 g5 w0 p1@1{1,2,3,4} a0 v1/0{1,2,3,4}{1} y- r[] o[1:1] x{} b0" ∷
    "= 44" ∷
    "1 TransPrim t1 g5 w0 p1@1{1,2,3,4} a0 v1/0{1,2,3,4}{1} y- r[] o[1:1] x{} b0" ∷
    "2 TransPrim t1 g5 w0 p1@1{1,2,3,4} a0 v1/0{1,2,3,4}{2} y- r[] o[] x{} b0" ∷
    "3 TransPrim t1 g5 w0 p1@1{1,2,3,4} a0 v1/0{1,2,3,4}{3} y- r[] o[] x{} b0" ∷
    "4 TransPrim t1 g5 w0 p1@1{1,2,3,4} a0 v1/0{1,2,3,4}{4} y- r[] o[] x{} b0" ∷
    "= 45" ∷
    "1 ExchangeStates c2 g5 w0 p1@1{1,2,3,4} a0 v- y![] r[1:1] o[] x{} b0" ∷
    "2 ExchangeStates c2 g5 w0 p1@1{1,2,3,4} a0 v- y![] r[] o[] x{} b0" ∷
    "3 ExchangeStates c2 g5 w0 p1@1{1,2,3,4} a0 v- y![] r[] o[] x{} b0" ∷
    "4 ExchangeStates c2 g5 w0 p1@1{1,2,3,4} a0 v- y![] r[] o[] x{} b0" ∷
    "= 46" ∷
    "pieces 5 1/9" ∷
    "= 47" ∷
    "2 ExchangeStates c2 g5 w0 p1@1{1,2,3,4} a0 v- y![] r[] o[] x{} b1" ∷
    "= 49" ∷
    "26 NonPrim - g5 w0 p1@1{1,2,3,4} a0 v- y- r[] o[] x{} b0" ∷
    "pieces 26 9/9" ∷
    "end 49" ∷
    [])
unfolding cases_compute
four_replicas_primary_split_joiner_a = refl

-- Replicas at the start: 4: several primaries follow one another; a crash strikes inside a device call.
four_replicas_several_primaries_crash_in_a_device_call_a :
    replayed_text (
    "start 1 2 3 4" ∷
    "merge 1 3 4" ∷
    "merge 2" ∷
    "rounds 2" ∷
    "split 2" ∷
    "split 1 3 4" ∷
    "merge 1 3 4" ∷
    "gather" ∷
    "split 1 3 4" ∷
    "merge 1 2 3 4" ∷
    "request 4 need \"k1\" 12" ∷
    "request 1 put \"a\" 10 ? keys \"a\"" ∷
    "gather" ∷
    "stop 1 3 0101010101" ∷
    "deliver 3 3" ∷
    "request 1 put \"z\" 12" ∷
    "gather" ∷
    "deliver 1 4" ∷
    "recover 1" ∷
    "split 2 3 4" ∷
    "merge 1 2 3 4" ∷
    "rounds 3" ∷
    "split 1 2 3 4" ∷
    "merge 1 2 3 4" ∷
    "rounds 2" ∷
    "request 2 inc \"ab\" -1" ∷
    "split 3" ∷
    "split 1 2 4" ∷
    "merge 1 2 4" ∷
    "merge 3" ∷
    "split 1" ∷
    "split 2" ∷
    "split 4" ∷
    "merge 4" ∷
    "merge 1" ∷
    "merge 2" ∷
    "split 3" ∷
    "split 4" ∷
    "split 1" ∷
    "split 2" ∷
    "merge 1 2 3 4" ∷
    "rounds 2" ∷
    "split 2 3" ∷
    "split 1 4" ∷
    "merge 2 3" ∷
    "merge 1 4" ∷
    "split 1 4" ∷
    "end" ∷
    [])
    ≡ written (
    "= 1" ∷
    "1 NonPrim - g0 w0 p0@0{1,2,3,4} a0 v- y- r[] o[] x{} b0" ∷
    "2 NonPrim - g0 w0 p0@0{1,2,3,4} a0 v- y- r[] o[] x{} b0" ∷
    "3 NonPrim - g0 w0 p0@0{1,2,3,4} a0 v- y- r[] o[] x{} b0" ∷
    "4 NonPrim - g0 w0 p0@0{1,2,3,4} a0 v- y- r[] o[] x{} b0" ∷
    "= 2" ∷
    "1 ExchangeStates c1 g0 w0 p0@0{1,2,3,4} a0 v- y- r[] o[] x{} b0" ∷
    "3 ExchangeStates c1 g0 w0 p0@0{1,2,3,4} a0 v- y- r[] o[] x{} b0" ∷
    "4 ExchangeStates c1 g0 w0 p0@0{1,2,3,4} a0 v- y- r[] o[] x{} b0" ∷
    "= 3" ∷
    "2 ExchangeStates c2 g0 w0 p0@0{1,2,3,4} a0 v- y- r[] o[] x{} b0" ∷
    "= 5" ∷
    "1 Construct c1 g0 w0 p0@0{1,2,3,4} a1 v1/0{1,3,4}{1} y- r[] o[] x{} b0" ∷
    "= 6" ∷
    "2 NonPrim c2 g0 w0 p0@0{1,2,3,4} a0 v- y- r[] o[] x{} b0" ∷
    "= 7" ∷
    "3 Construct c1 g0 w0 p0@0{1,2,3,4} a1 v1/0{1,3,4}{3} y- r[] o[] x{} b0" ∷
    "= 8" ∷
    "4 Construct c1 g0 w0 p0@0{1,2,3,4} a1 v1/0{1,3,4}{4} y- r[] o[] x{} b0" ∷
    "= 10" ∷
    "1 RegPrim c1 g0 w0 p1@1{1,3,4} a0 v1/0{1,3,4}{1} y- r[] o[] x{} b0" ∷
    "= 11" ∷
    "3 RegPrim c1 g0 w0 p1@1{1,3,4} a0 v1/0{1,3,4}{3} y- r[] o[] x{} b0" ∷
    "= 12" ∷
    "4 RegPrim c1 g0 w0 p1@1{1,3,4} a0 v1/0{1,3,4}{4} y- r[] o[] x{} b0" ∷
    "= 13" ∷
    "2 NonPrim t2 g0 w0 p0@0{1,2,3,4} a0 v- y- r[] o[] x{} b0" ∷
    "= 14" ∷
    "1 TransPrim t1 g0 w0 p1@1{1,3,4} a0 v1/0{1,3,4}{1} y- r[] o[] x{} b0" ∷
    "3 TransPrim t1 g0 w0 p1@1{1,3,4} a0 v1/0{1,3,4}{3} y- r[] o[] x{} b0" ∷
    "4 TransPrim t1 g0 w0 p1@1{1,3,4} a0 v1/0{1,3,4}{4} y- r[] o[] x{} b0" ∷
    "= 15" ∷
    "1 ExchangeStates c3 g0 w0 p1@1{1,3,4} a0 v- y![] r[] o[] x{} b0" ∷
    "3 ExchangeStates c3 g0 w0 p1@1{1,3,4} a0 v- y![] r[] o[] x{} b0" ∷
    "4 ExchangeStates c3 g0 w0 p1@1{1,3,4} a0 v- y![] r[] o[] x{} b0" ∷
    "= 17" ∷
    "1 NonPrim t3 g0 w0 p1@1{1,3,4} a0 v- y![] r[] o[] x{} b0" ∷
    "3 NonPrim t3 g0 w0 p1@1{1,3,4} a0 v- y![] r[] o[] x{} b0" ∷
    "4 NonPrim t3 g0 w0 p1@1{1,3,4} a0 v- y![] r[] o[] x{} b0" ∷
    "= 18" ∷
    "1 ExchangeStates c4 g0 w0 p1@1{1,3,4} a0 v- y![] r[] o[] x{} b0" ∷
    "2 ExchangeStates c4 g0 w0 p0@0{1,2,3,4} a0 v- y- r[] o[] x{} b0" ∷
    "3 ExchangeStates c4 g0 w0 p1@1{1,3,4} a0 v- y![] r[] o[] x{} b0" ∷
    "4 ExchangeStates c4 g0 w0 p1@1{1,3,4} a0 v- y![] r[] o[] x{} b0" ∷
    "= 19" ∷
    "4 ExchangeStates c4 g0 w0 p1@1{1,3,4} a0 v- y![] r[] o[] x{} b1" ∷
    "= 20" ∷
    "1 ExchangeStates c4 g0 w0 p1@1{1,3,4} a0 v- y![] r[] o[] x{} b1" ∷
    "= 24" ∷
    "1 ExchangeStates c4 g0 w0 p1@1{1,3,4} a0 v- y![] r[] o[] x{} b2" ∷
    "= 26" ∷
    "1 Down" ∷
    "= 27" ∷
    "1 NonPrim - g0 w0 p1@1{1,3,4} a1 v4/1{1,2,3,4}{1} y![] r[] o[] x{} b0" ∷
    "= 28" ∷
    "2 NonPrim t4 g0 w0 p0@0{1,2,3,4} a0 v- y- r[] o[] x{} b0" ∷
    "3 NonPrim t4 g0 w0 p1@1{1,3,4} a0 v- y![] r[] o[] x{} b0" ∷
    "4 NonPrim t4 g0 w0 p1@1{1,3,4} a0 v- y![] r[] o[] x{} b1" ∷
    "= 29" ∷
    "1 ExchangeStates c5 g0 w0 p1@1{1,3,4} a1 v4/1{1,2,3,4}{1} y![] r[] o[] x{} b0" ∷
    "2 ExchangeStates c5 g0 w0 p0@0{1,2,3,4} a0 v- y- r[] o[] x{} b0" ∷
    "3 ExchangeStates c5 g0 w0 p1@1{1,3,4} a0 v- y![] r[] o[] x{} b0" ∷
    "4 ExchangeStates c5 g0 w0 p1@1{1,3,4} a0 v- y![] r[] o[] x{} b1" ∷
    "= 31" ∷
    "1 Construct c5 g0 w0 p1@1{1,3,4} a2 v5/1{1,2,3,4}{1} y![] r[] o[] x{} b0" ∷
    "= 32" ∷
    "2 Construct c5 g0 w0 p1@1{1,3,4} a2 v5/1{1,2,3,4}{2} y![] r[] o[] x{} b0" ∷
    "= 33" ∷
    "3 Construct c5 g0 w0 p1@1{1,3,4} a2 v5/1{1,2,3,4}{3} y![] r[] o[] x{} b0" ∷
    "= 34" ∷
    "4 Construct c5 g0 w0 p1@1{1,3,4} a2 v5/1{1,2,3,4}{4} y![] r[] o[] x{} b1" ∷
    "= 36" ∷
    "1 RegPrim c5 g0 w0 p2@5{1,2,3,4} a0 v5/1{1,2,3,4}{1} y- r[] o[] x{} b0" ∷
    "= 37" ∷
    "2 RegPrim c5 g0 w0 p2@5{1,2,3,4} a0 v5/1{1,2,3,4}{2} y- r[] o[] x{} b0" ∷
    "= 38" ∷
    "3 RegPrim c5 g0 w0 p2@5{1,2,3,4} a0 v5/1{1,2,3,4}{3} y- r[] o[] x{} b0" ∷
    "= 39" ∷
    "made 4:1 need \"k1\" 12" ∷
    "4 RegPrim c5 g0 w0 p2@5{1,2,3,4} a0 v5/1{1,2,3,4}{4} y- r[] o[4:1] x{} b0" ∷
    "= 41" ∷
    "order 1 4:1" ∷
    "1 RegPrim c5 g1 w0 p2@5{1,2,3,4} a0 v5/1{1,2,3,4}{1} y- r[] o[] x{} b0" ∷
    "= 42" ∷
    "2 RegPrim c5 g1 w0 p2@5{1,2,3,4} a0 v5/1{1,2,3,4}{2} y- r[] o[] x{} b0" ∷
    "= 43" ∷
    "3 RegPrim c5 g1 w0 p2@5{1,2,3,4} a0 v5/1{1,2,3,4}{3} y- r[] o[] x{} b0" ∷
    "= 44" ∷
    "4 RegPrim c5 g1 w0 p2@5{1,2,3,4} a0 v5/1{1,2,3,4}{4} y- r[] o[] x{} b0" ∷
    "reply 4:1 aborted 1" ∷
    "= 45" ∷
    "1 TransPrim t5 g1 w0 p2@5{1,2,3,4} a0 v5/1{1,2,3,4}{1} y- r[] o[] x{} b0" ∷
    "2 TransPrim t5 g1 w0 p2@5{1,2,3,4} a0 v5/1{1,2,3,4}{2} y- r[] o[] x{} b0" ∷
    "3 TransPrim t5 g1 w0 p2@5{1,2,3,4} a0 v5/1{1,2,3,4}{3} y- r[] o[] x{} b0" ∷
    "4 TransPrim t5 g1 w0 p2@5{1,2,3,4} a0 v5/1{1,2,3,4}{4} y- r[] o[] x{} b0" ∷
    "= 46" ∷
    "1 ExchangeStates c6 g1 w0 p2@5{1,2,3,4} a0 v- y![] r[] o[] x{} b0" ∷
    "2 ExchangeStates c6 g1 w0 p2@5{1,2,3,4} a0 v- y![] r[] o[] x{} b0" ∷
    "3 ExchangeStates c6 g1 w0 p2@5{1,2,3,4} a0 v- y![] r[] o[] x{} b0" ∷
    "4 ExchangeStates c6 g1 w0 p2@5{1,2,3,4} a0 v- y![] r[] o[] x{} b0" ∷
    "= 48" ∷
    "1 Construct c6 g1 w0 p2@5{1,2,3,4} a1 v6/2{1,2,3,4}{1} y![] r[] o[] x{} b0" ∷
    "= 49" ∷
    "2 Construct c6 g1 w0 p2@5{1,2,3,4} a1 v6/2{1,2,3,4}{2} y![] r[] o[] x{} b0" ∷
    "= 50" ∷
    "3 Construct c6 g1 w0 p2@5{1,2,3,4} a1 v6/2{1,2,3,4}{3} y![] r[] o[] x{} b0" ∷
    "= 51" ∷
    "4 Construct c6 g1 w0 p2@5{1,2,3,4} a1 v6/2{1,2,3,4}{4} y![] r[] o[] x{} b0" ∷
    "= 53" ∷
    "1 RegPrim c6 g1 w0 p3@6{1,2,3,4} a0 v6/2{1,2,3,4}{1} y- r[] o[] x{} b0" ∷
    "= 54" ∷
    "2 RegPrim c6 g1 w0 p3@6{1,2,3,4} a0 v6/2{1,2,3,4}{2} y- r[] o[] x{} b0" ∷
    "= 55" ∷
    "3 RegPrim c6 g1 w0 p3@6{1,2,3,4} a0 v6/2{1,2,3,4}{3} y- r[] o[] x{} b0" ∷
    "= 56" ∷
    "4 RegPrim c6 g1 w0 p3@6{1,2,3,4} a0 v6/2{1,2,3,4}{4} y- r[] o[] x{} b0" ∷
    "= 57" ∷
    "made 2:1 inc \"ab\" -1" ∷
    "2 RegPrim c6 g1 w0 p3@6{1,2,3,4} a0 v6/2{1,2,3,4}{2} y- r[] o[2:1] x{} b0" ∷
    "= 58" ∷
    "3 TransPrim t6 g1 w0 p3@6{1,2,3,4} a0 v6/2{1,2,3,4}{3} y- r[] o[] x{} b0" ∷
    "= 59" ∷
    "1 TransPrim t6 g1 w0 p3@6{1,2,3,4} a0 v6/2{1,2,3,4}{1} y- r[] o[] x{} b0" ∷
    "2 TransPrim t6 g1 w0 p3@6{1,2,3,4} a0 v6/2{1,2,3,4}{2} y- r[] o[2:1] x{} b0" ∷
    "4 TransPrim t6 g1 w0 p3@6{1,2,3,4} a0 v6/2{1,2,3,4}{4} y- r[] o[] x{} b0" ∷
    "= 60" ∷
    "1 ExchangeStates c7 g1 w0 p3@6{1,2,3,4} a0 v- y![] r[] o[] x{} b0" ∷
    "2 ExchangeStates c7 g1 w0 p3@6{1,2,3,4} a0 v- y![] r[2:1] o[] x{} b0" ∷
    "4 ExchangeStates c7 g1 w0 p3@6{1,2,3,4} a0 v- y![] r[] o[] x{} b0" ∷
    "= 61" ∷
    "3 ExchangeStates c8 g1 w0 p3@6{1,2,3,4} a0 v- y![] r[] o[] x{} b0" ∷
    "= 62" ∷
    "1 NonPrim t7 g1 w0 p3@6{1,2,3,4} a0 v- y![] r[] o[] x{} b0" ∷
    "= 63" ∷
    "2 NonPrim t7 g1 w0 p3@6{1,2,3,4} a0 v- y![] r[2:1] o[] x{} b0" ∷
    "= 64" ∷
    "4 NonPrim t7 g1 w0 p3@6{1,2,3,4} a0 v- y![] r[] o[] x{} b0" ∷
    "= 65" ∷
    "4 ExchangeStates c9 g1 w0 p3@6{1,2,3,4} a0 v- y![] r[] o[] x{} b0" ∷
    "= 66" ∷
    "1 ExchangeStates c10 g1 w0 p3@6{1,2,3,4} a0 v- y![] r[] o[] x{} b0" ∷
    "= 67" ∷
    "2 ExchangeStates c11 g1 w0 p3@6{1,2,3,4} a0 v- y![] r[2:1] o[] x{} b0" ∷
    "= 68" ∷
    "3 NonPrim t8 g1 w0 p3@6{1,2,3,4} a0 v- y![] r[] o[] x{} b0" ∷
    "= 69" ∷
    "4 NonPrim t9 g1 w0 p3@6{1,2,3,4} a0 v- y![] r[] o[] x{} b0" ∷
    "= 70" ∷
    "1 NonPrim t10 g1 w0 p3@6{1,2,3,4} a0 v- y![] r[] o[] x{} b0" ∷
    "= 71" ∷
    "2 NonPrim t11 g1 w0 p3@6{1,2,3,4} a0 v- y![] r[2:1] o[] x{} b0" ∷
    "= 72" ∷
    "1 ExchangeStates c12 g1 w0 p3@6{1,2,3,4} a0 v- y![] r[] o[] x{} b0" ∷
    "2 ExchangeStates c12 g1 w0 p3@6{1,2,3,4} a0 v- y![] r[2:1] o[] x{} b0" ∷
    "3 ExchangeStates c12 g1 w0 p3@6{1,2,3,4} a0 v- y![] r[] o[] x{} b0" ∷
    "4 ExchangeStates c12 g1 w0 p3@6{1,2,3,4} a0 v- y![] r[] o[] x{} b0" ∷
    "= 74" ∷
    "1 ExchangeActions c12 g1 w0 p3@6{1,2,3,4} a0 v- y![] r[] o[] x{} b0" ∷
    "= 75" ∷
    "2 ExchangeActions c12 g1 w0 p3@6{1,2,3,4} a0 v- y![] r[2:1] o[] x{} b0" ∷
    "= 76" ∷
    "3 ExchangeActions c12 g1 w0 p3@6{1,2,3,4} a0 v- y![] r[] o[] x{} b0" ∷
    "= 77" ∷
    "4 ExchangeActions c12 g1 w0 p3@6{1,2,3,4} a0 v- y![] r[] o[] x{} b0" ∷
    "= 79" ∷
    "1 Construct c12 g1 w0 p3@6{1,2,3,4} a1 v12/3{1,2,3,4}{1} y![] r[2:1] o[] x{} b0" ∷
    "= 80" ∷
    "2 Construct c12 g1 w0 p3@6{1,2,3,4} a1 v12/3{1,2,3,4}{2} y![] r[2:1] o[] x{} b0" ∷
    "= 81" ∷
    "3 Construct c12 g1 w0 p3@6{1,2,3,4} a1 v12/3{1,2,3,4}{3} y![] r[2:1] o[] x{} b0" ∷
    "= 82" ∷
    "4 Construct c12 g1 w0 p3@6{1,2,3,4} a1 v12/3{1,2,3,4}{4} y![] r[2:1] o[] x{} b0" ∷
    "= 83" ∷
    "2 No t12 g1 w0 p3@6{1,2,3,4} a1 v12/3{1,2,3,4}{2} y![] r[2:1] o[] x{} b0" ∷
    "3 No t12 g1 w0 p3@6{1,2,3,4} a1 v12/3{1,2,3,4}{3} y![] r[2:1] o[] x{} b0" ∷
    "= 84" ∷
    "1 No t12 g1 w0 p3@6{1,2,3,4} a1 v12/3{1,2,3,4}{1} y![] r[2:1] o[] x{} b0" ∷
    "4 No t12 g1 w0 p3@6{1,2,3,4} a1 v12/3{1,2,3,4}{4} y![] r[2:1] o[] x{} b0" ∷
    "= 85" ∷
    "2 ExchangeStates c13 g1 w0 p3@6{1,2,3,4} a1 v- y![] r[2:1] o[] x{} b0" ∷
    "3 ExchangeStates c13 g1 w0 p3@6{1,2,3,4} a1 v- y![] r[2:1] o[] x{} b0" ∷
    "= 86" ∷
    "1 ExchangeStates c14 g1 w0 p3@6{1,2,3,4} a1 v- y![] r[2:1] o[] x{} b0" ∷
    "4 ExchangeStates c14 g1 w0 p3@6{1,2,3,4} a1 v- y![] r[2:1] o[] x{} b0" ∷
    "= 87" ∷
    "1 NonPrim t14 g1 w0 p3@6{1,2,3,4} a1 v- y![] r[2:1] o[] x{} b0" ∷
    "4 NonPrim t14 g1 w0 p3@6{1,2,3,4} a1 v- y![] r[2:1] o[] x{} b0" ∷
    "end 87" ∷
    [])
unfolding cases_compute
four_replicas_several_primaries_crash_in_a_device_call_a = refl

-- Replicas at the start: 4: yellow actions pass through an exchange.
four_replicas_yellow_actions_a :
    replayed_text (
    "start 20 25 26 28" ∷
    "merge 25" ∷
    "merge 20 26 28" ∷
    "rounds 2" ∷
    "rounds 1" ∷
    "split 25" ∷
    "split 20 26 28" ∷
    "merge 20 25 26 28" ∷
    "rounds 2" ∷
    "rounds 2" ∷
    "rounds 1" ∷
    "request 20 put \"z\" -9223372036854775807" ∷
    "request 25 put \"x\" 33" ∷
    "request 28 inc \"x\" 6" ∷
    "gather" ∷
    "deliver 25 3" ∷
    "split 20 26" ∷
    "merge 20 26" ∷
    "deliver 28 2" ∷
    "request 25 inc \"a\" -3 ? get \"b\"" ∷
    "request 20 cas \"x\" absent 56; del \"b\"; need \"z\" \"yes \\\"no\\\"\"; move \"z\" \"z\" 9223372036854775807; move \"a\" \"b\" 1; put \"z\" 35; inc \"a\" 2; put \"x\" 50; inc \"b\" -3; inc \"y\" 6; inc \"x\" 5; cas \"y\" absent 68; inc \"y\" -9223372036854775808; del \"y\"; inc \"a\" 8; inc \"b\" 3 ? get \"a\"" ∷
    "request 28 put \"ab\" 0" ∷
    "request 25 move \"a\" \"k1\" 0 ? get \"y\"" ∷
    "gather" ∷
    "deliver 28 1" ∷
    "split 20 26" ∷
    "split 28" ∷
    "merge 20 26 28" ∷
    "split 20" ∷
    "split 26" ∷
    "request 25 del \"k1\" ? get \"x\"" ∷
    "request 26 put \"k1\" 84" ∷
    "order 28" ∷
    "split 25" ∷
    "split 28" ∷
    "merge 20 25 26 28" ∷
    "order 25" ∷
    "request 28 put \"y\" \"\"" ∷
    "request 20 need \"a\" absent" ∷
    "request 26 put \"z\" 63" ∷
    "gather" ∷
    "split 28" ∷
    "split 25" ∷
    "merge 25" ∷
    "gather" ∷
    "deliver 20 4" ∷
    "rounds 1" ∷
    "end" ∷
    [])
    ≡ written (
    "= 1" ∷
    "20 NonPrim - g0 w0 p0@0{20,25,26,28} a0 v- y- r[] o[] x{} b0" ∷
    "25 NonPrim - g0 w0 p0@0{20,25,26,28} a0 v- y- r[] o[] x{} b0" ∷
    "26 NonPrim - g0 w0 p0@0{20,25,26,28} a0 v- y- r[] o[] x{} b0" ∷
    "28 NonPrim - g0 w0 p0@0{20,25,26,28} a0 v- y- r[] o[] x{} b0" ∷
    "= 2" ∷
    "25 ExchangeStates c1 g0 w0 p0@0{20,25,26,28} a0 v- y- r[] o[] x{} b0" ∷
    "= 3" ∷
    "20 ExchangeStates c2 g0 w0 p0@0{20,25,26,28} a0 v- y- r[] o[] x{} b0" ∷
    "26 ExchangeStates c2 g0 w0 p0@0{20,25,26,28} a0 v- y- r[] o[] x{} b0" ∷
    "28 ExchangeStates c2 g0 w0 p0@0{20,25,26,28} a0 v- y- r[] o[] x{} b0" ∷
    "= 5" ∷
    "20 Construct c2 g0 w0 p0@0{20,25,26,28} a1 v2/0{20,26,28}{20} y- r[] o[] x{} b0" ∷
    "= 6" ∷
    "25 NonPrim c1 g0 w0 p0@0{20,25,26,28} a0 v- y- r[] o[] x{} b0" ∷
    "= 7" ∷
    "26 Construct c2 g0 w0 p0@0{20,25,26,28} a1 v2/0{20,26,28}{26} y- r[] o[] x{} b0" ∷
    "= 8" ∷
    "28 Construct c2 g0 w0 p0@0{20,25,26,28} a1 v2/0{20,26,28}{28} y- r[] o[] x{} b0" ∷
    "= 10" ∷
    "20 RegPrim c2 g0 w0 p1@2{20,26,28} a0 v2/0{20,26,28}{20} y- r[] o[] x{} b0" ∷
    "= 11" ∷
    "26 RegPrim c2 g0 w0 p1@2{20,26,28} a0 v2/0{20,26,28}{26} y- r[] o[] x{} b0" ∷
    "= 12" ∷
    "28 RegPrim c2 g0 w0 p1@2{20,26,28} a0 v2/0{20,26,28}{28} y- r[] o[] x{} b0" ∷
    "= 14" ∷
    "25 NonPrim t1 g0 w0 p0@0{20,25,26,28} a0 v- y- r[] o[] x{} b0" ∷
    "= 15" ∷
    "20 TransPrim t2 g0 w0 p1@2{20,26,28} a0 v2/0{20,26,28}{20} y- r[] o[] x{} b0" ∷
    "26 TransPrim t2 g0 w0 p1@2{20,26,28} a0 v2/0{20,26,28}{26} y- r[] o[] x{} b0" ∷
    "28 TransPrim t2 g0 w0 p1@2{20,26,28} a0 v2/0{20,26,28}{28} y- r[] o[] x{} b0" ∷
    "= 16" ∷
    "20 ExchangeStates c3 g0 w0 p1@2{20,26,28} a0 v- y![] r[] o[] x{} b0" ∷
    "25 ExchangeStates c3 g0 w0 p0@0{20,25,26,28} a0 v- y- r[] o[] x{} b0" ∷
    "26 ExchangeStates c3 g0 w0 p1@2{20,26,28} a0 v- y![] r[] o[] x{} b0" ∷
    "28 ExchangeStates c3 g0 w0 p1@2{20,26,28} a0 v- y![] r[] o[] x{} b0" ∷
    "= 18" ∷
    "20 Construct c3 g0 w0 p1@2{20,26,28} a1 v3/1{20,25,26,28}{20} y![] r[] o[] x{} b0" ∷
    "= 19" ∷
    "25 Construct c3 g0 w0 p1@2{20,26,28} a1 v3/1{20,25,26,28}{25} y![] r[] o[] x{} b0" ∷
    "= 20" ∷
    "26 Construct c3 g0 w0 p1@2{20,26,28} a1 v3/1{20,25,26,28}{26} y![] r[] o[] x{} b0" ∷
    "= 21" ∷
    "28 Construct c3 g0 w0 p1@2{20,26,28} a1 v3/1{20,25,26,28}{28} y![] r[] o[] x{} b0" ∷
    "= 23" ∷
    "20 RegPrim c3 g0 w0 p2@3{20,25,26,28} a0 v3/1{20,25,26,28}{20} y- r[] o[] x{} b0" ∷
    "= 24" ∷
    "25 RegPrim c3 g0 w0 p2@3{20,25,26,28} a0 v3/1{20,25,26,28}{25} y- r[] o[] x{} b0" ∷
    "= 25" ∷
    "26 RegPrim c3 g0 w0 p2@3{20,25,26,28} a0 v3/1{20,25,26,28}{26} y- r[] o[] x{} b0" ∷
    "= 26" ∷
    "28 RegPrim c3 g0 w0 p2@3{20,25,26,28} a0 v3/1{20,25,26,28}{28} y- r[] o[] x{} b0" ∷
    "= 30" ∷
    "made 20:1 put \"z\" -9223372036854775807" ∷
    "20 RegPrim c3 g0 w0 p2@3{20,25,26,28} a0 v3/1{20,25,26,28}{20} y- r[] o[20:1] x{} b0" ∷
    "= 31" ∷
    "made 25:1 put \"x\" 33" ∷
    "25 RegPrim c3 g0 w0 p2@3{20,25,26,28} a0 v3/1{20,25,26,28}{25} y- r[] o[25:1] x{} b0" ∷
    "= 32" ∷
    "made 28:1 inc \"x\" 6" ∷
    "28 RegPrim c3 g0 w0 p2@3{20,25,26,28} a0 v3/1{20,25,26,28}{28} y- r[] o[28:1] x{} b0" ∷
    "= 34" ∷
    "order 1 20:1" ∷
    "order 2 25:1" ∷
    "order 3 28:1" ∷
    "25 RegPrim c3 g3 w0 p2@3{20,25,26,28} a0 v3/1{20,25,26,28}{25} y- r[] o[] x{} b0" ∷
    "reply 25:1 done" ∷
    "= 35" ∷
    "20 TransPrim t3 g0 w0 p2@3{20,25,26,28} a0 v3/1{20,25,26,28}{20} y?[20:1,25:1,28:1] r[] o[] x{} b0" ∷
    "26 TransPrim t3 g0 w0 p2@3{20,25,26,28} a0 v3/1{20,25,26,28}{26} y?[20:1,25:1,28:1] r[] o[] x{} b0" ∷
    "= 36" ∷
    "20 ExchangeStates c4 g0 w0 p2@3{20,25,26,28} a0 v- y![20:1,25:1,28:1] r[] o[] x{} b0" ∷
    "26 ExchangeStates c4 g0 w0 p2@3{20,25,26,28} a0 v- y![20:1,25:1,28:1] r[] o[] x{} b0" ∷
    "= 37" ∷
    "28 RegPrim c3 g2 w0 p2@3{20,25,26,28} a0 v3/1{20,25,26,28}{28} y- r[] o[28:1] x{} b0" ∷
    "= 38" ∷
    "made 25:2 inc \"a\" -3 ? get \"b\"" ∷
    "25 RegPrim c3 g3 w0 p2@3{20,25,26,28} a0 v3/1{20,25,26,28}{25} y- r[] o[25:2] x{} b0" ∷
    "= 39" ∷
    "20 ExchangeStates c4 g0 w0 p2@3{20,25,26,28} a0 v- y![20:1,25:1,28:1] r[] o[] x{} b1" ∷
    "= 40" ∷
    "made 28:2 put \"ab\" 0" ∷
    "28 RegPrim c3 g2 w0 p2@3{20,25,26,28} a0 v3/1{20,25,26,28}{28} y- r[] o[28:1,28:2] x{} b0" ∷
    "= 41" ∷
    "made 25:3 move \"a\" \"k1\" 0 ? get \"y\"" ∷
    "25 RegPrim c3 g3 w0 p2@3{20,25,26,28} a0 v3/1{20,25,26,28}{25} y- r[] o[25:2,25:3] x{} b0" ∷
    "= 43" ∷
    "28 RegPrim c3 g3 w0 p2@3{20,25,26,28} a0 v3/1{20,25,26,28}{28} y- r[] o[28:2] x{} b0" ∷
    "reply 28:1 done" ∷
    "= 44" ∷
    "20 NonPrim t4 g0 w0 p2@3{20,25,26,28} a0 v- y![20:1,25:1,28:1] r[] o[] x{} b1" ∷
    "26 NonPrim t4 g0 w0 p2@3{20,25,26,28} a0 v- y![20:1,25:1,28:1] r[] o[] x{} b0" ∷
    "= 45" ∷
    "28 TransPrim t3 g3 w0 p2@3{20,25,26,28} a0 v3/1{20,25,26,28}{28} y?[25:2,25:3,28:2] r[] o[] x{} b0" ∷
    "= 46" ∷
    "20 ExchangeStates c5 g0 w0 p2@3{20,25,26,28} a0 v- y![20:1,25:1,28:1] r[] o[] x{} b1" ∷
    "26 ExchangeStates c5 g0 w0 p2@3{20,25,26,28} a0 v- y![20:1,25:1,28:1] r[] o[] x{} b0" ∷
    "28 ExchangeStates c5 g3 w0 p2@3{20,25,26,28} a0 v- y![25:2,25:3,28:2] r[] o[] x{} b0" ∷
    "= 47" ∷
    "20 NonPrim t5 g0 w0 p2@3{20,25,26,28} a0 v- y![20:1,25:1,28:1] r[] o[] x{} b1" ∷
    "= 48" ∷
    "26 NonPrim t5 g0 w0 p2@3{20,25,26,28} a0 v- y![20:1,25:1,28:1] r[] o[] x{} b0" ∷
    "= 49" ∷
    "made 25:4 del \"k1\" ? get \"x\"" ∷
    "25 RegPrim c3 g3 w0 p2@3{20,25,26,28} a0 v3/1{20,25,26,28}{25} y- r[] o[25:2,25:3,25:4] x{} b0" ∷
    "= 50" ∷
    "26 NonPrim t5 g0 w0 p2@3{20,25,26,28} a0 v- y![20:1,25:1,28:1] r[] o[] x{} b1" ∷
    "= 52" ∷
    "25 TransPrim t3 g3 w0 p2@3{20,25,26,28} a0 v3/1{20,25,26,28}{25} y?[25:2,25:3,28:2] r[] o[25:4] x{} b0" ∷
    "= 53" ∷
    "28 NonPrim t5 g3 w0 p2@3{20,25,26,28} a0 v- y![25:2,25:3,28:2] r[] o[] x{} b0" ∷
    "= 54" ∷
    "20 ExchangeStates c6 g0 w0 p2@3{20,25,26,28} a0 v- y![20:1,25:1,28:1] r[] o[] x{} b1" ∷
    "25 ExchangeStates c6 g3 w0 p2@3{20,25,26,28} a0 v- y![25:2,25:3,28:2] r[25:4] o[] x{} b0" ∷
    "26 ExchangeStates c6 g0 w0 p2@3{20,25,26,28} a0 v- y![20:1,25:1,28:1] r[] o[] x{} b1" ∷
    "28 ExchangeStates c6 g3 w0 p2@3{20,25,26,28} a0 v- y![25:2,25:3,28:2] r[] o[] x{} b0" ∷
    "= 56" ∷
    "28 ExchangeStates c6 g3 w0 p2@3{20,25,26,28} a0 v- y![25:2,25:3,28:2] r[] o[] x{} b1" ∷
    "= 57" ∷
    "20 ExchangeStates c6 g0 w0 p2@3{20,25,26,28} a0 v- y![20:1,25:1,28:1] r[] o[] x{} b2" ∷
    "= 58" ∷
    "26 ExchangeStates c6 g0 w0 p2@3{20,25,26,28} a0 v- y![20:1,25:1,28:1] r[] o[] x{} b2" ∷
    "= 60" ∷
    "28 NonPrim t6 g3 w0 p2@3{20,25,26,28} a0 v- y![25:2,25:3,28:2] r[] o[] x{} b1" ∷
    "= 61" ∷
    "25 NonPrim t6 g3 w0 p2@3{20,25,26,28} a0 v- y![25:2,25:3,28:2] r[25:4] o[] x{} b0" ∷
    "= 62" ∷
    "25 ExchangeStates c7 g3 w0 p2@3{20,25,26,28} a0 v- y![25:2,25:3,28:2] r[25:4] o[] x{} b0" ∷
    "= 64" ∷
    "20 ExchangeActions c6 g0 w0 p2@3{20,25,26,28} a0 v- y![20:1,25:1,28:1] r[] o[] x{} b2" ∷
    "= 66" ∷
    "25 NonPrim c7 g3 w0 p2@3{20,25,26,28} a0 v- y![25:2,25:3,28:2] r[25:4] o[] x{} b0" ∷
    "= 67" ∷
    "26 ExchangeActions c6 g0 w0 p2@3{20,25,26,28} a0 v- y![20:1,25:1,28:1] r[] o[] x{} b2" ∷
    "end 67" ∷
    [])
unfolding cases_compute
four_replicas_yellow_actions_a = refl

-- A stop before the gate is written leaves the state before.
gate_closed_while_the_body_is_written_a :
    replayed_text (
    "start 1" ∷
    "merge 1" ∷
    "fail 1 8" ∷
    "gather" ∷
    "deliver 1 1" ∷
    "gather" ∷
    "deliver 1 1" ∷
    "recover 1" ∷
    "merge 1" ∷
    "order 1" ∷
    "deliver 1 1" ∷
    "order 1" ∷
    "stop 1 6 01010101010101010101010101010101010101010101010101010101010101010101010101010101010101010101010101010101010101010101010101010101010101010101010101010101010101010101010101010101010101010101010101010101" ∷
    "deliver 1 1" ∷
    "split 1" ∷
    "merge 1" ∷
    "recover 1" ∷
    "end" ∷
    [])
    ≡ written (
    "= 1" ∷
    "1 NonPrim - g0 w0 p0@0{1} a0 v- y- r[] o[] x{} b0" ∷
    "= 2" ∷
    "1 ExchangeStates c1 g0 w0 p0@0{1} a0 v- y- r[] o[] x{} b0" ∷
    "= 5" ∷
    "1 Construct c1 g0 w0 p0@0{1} a1 v1/0{1}{1} y- r[] o[] x{} b0" ∷
    "= 7" ∷
    "1 Down" ∷
    "= 8" ∷
    "1 NonPrim - g0 w0 p1@1{1} a0 v1/0{1}{1} y- r[] o[] x{} b0" ∷
    "= 9" ∷
    "1 ExchangeStates c2 g0 w0 p1@1{1} a0 v1/0{1}{1} y- r[] o[] x{} b0" ∷
    "= 11" ∷
    "1 Construct c2 g0 w0 p1@1{1} a1 v2/1{1}{1} y- r[] o[] x{} b0" ∷
    "= 14" ∷
    "1 RegPrim c2 g0 w0 p2@2{1} a0 v2/1{1}{1} y- r[] o[] x{} b0" ∷
    "= 15" ∷
    "1 TransPrim t2 g0 w0 p2@2{1} a0 v2/1{1}{1} y- r[] o[] x{} b0" ∷
    "= 16" ∷
    "1 Down" ∷
    "= 17" ∷
    "1 NonPrim - g0 w0 p2@2{1} a0 v2/1{1}{1} y- r[] o[] x{} b0" ∷
    "end 17" ∷
    [])
unfolding cases_compute
gate_closed_while_the_body_is_written_a = refl

-- A stop before the gate is written leaves the state before.
gate_closed_while_the_body_is_written_b :
    replayed_text (
    "start 1 2 3" ∷
    "merge 1 2 3" ∷
    "stop 2 2 0101" ∷
    "rounds 3" ∷
    "recover 2" ∷
    "end" ∷
    [])
    ≡ written (
    "= 1" ∷
    "1 NonPrim - g0 w0 p0@0{1,2,3} a0 v- y- r[] o[] x{} b0" ∷
    "2 NonPrim - g0 w0 p0@0{1,2,3} a0 v- y- r[] o[] x{} b0" ∷
    "3 NonPrim - g0 w0 p0@0{1,2,3} a0 v- y- r[] o[] x{} b0" ∷
    "= 2" ∷
    "1 ExchangeStates c1 g0 w0 p0@0{1,2,3} a0 v- y- r[] o[] x{} b0" ∷
    "2 ExchangeStates c1 g0 w0 p0@0{1,2,3} a0 v- y- r[] o[] x{} b0" ∷
    "3 ExchangeStates c1 g0 w0 p0@0{1,2,3} a0 v- y- r[] o[] x{} b0" ∷
    "= 5" ∷
    "1 Construct c1 g0 w0 p0@0{1,2,3} a1 v1/0{1,2,3}{1} y- r[] o[] x{} b0" ∷
    "= 6" ∷
    "2 Down" ∷
    "= 7" ∷
    "3 Construct c1 g0 w0 p0@0{1,2,3} a1 v1/0{1,2,3}{3} y- r[] o[] x{} b0" ∷
    "= 10" ∷
    "2 NonPrim - g0 w0 p0@0{1,2,3} a0 v- y- r[] o[] x{} b0" ∷
    "end 10" ∷
    [])
unfolding cases_compute
gate_closed_while_the_body_is_written_b = refl

-- A stop before the gate is written leaves the state before.
gate_closed_while_the_body_is_written_c :
    replayed_text (
    "start 1 2 3 4 5 6 7 8" ∷
    "merge 1 2 3 4 5 6 7 8" ∷
    "split 2 4 6 8" ∷
    "split 1 3 5 7" ∷
    "merge 1 2 3 4 5 6 7 8" ∷
    "split 1 2 5 6 7" ∷
    "split 4" ∷
    "split 3" ∷
    "split 8" ∷
    "merge 1 2 3 4 5 6 7 8" ∷
    "split 1 2 3 4 5 8" ∷
    "merge 1 2 3 4 5 8" ∷
    "stop 8 6 01" ∷
    "rounds 2" ∷
    "recover 8" ∷
    "end" ∷
    [])
    ≡ written (
    "= 1" ∷
    "1 NonPrim - g0 w0 p0@0{1,2,3,4,5,6,7,8} a0 v- y- r[] o[] x{} b0" ∷
    "2 NonPrim - g0 w0 p0@0{1,2,3,4,5,6,7,8} a0 v- y- r[] o[] x{} b0" ∷
    "3 NonPrim - g0 w0 p0@0{1,2,3,4,5,6,7,8} a0 v- y- r[] o[] x{} b0" ∷
    "4 NonPrim - g0 w0 p0@0{1,2,3,4,5,6,7,8} a0 v- y- r[] o[] x{} b0" ∷
    "5 NonPrim - g0 w0 p0@0{1,2,3,4,5,6,7,8} a0 v- y- r[] o[] x{} b0" ∷
    "6 NonPrim - g0 w0 p0@0{1,2,3,4,5,6,7,8} a0 v- y- r[] o[] x{} b0" ∷
    "7 NonPrim - g0 w0 p0@0{1,2,3,4,5,6,7,8} a0 v- y- r[] o[] x{} b0" ∷
    "8 NonPrim - g0 w0 p0@0{1,2,3,4,5,6,7,8} a0 v- y- r[] o[] x{} b0" ∷
    "= 2" ∷
    "1 ExchangeStates c1 g0 w0 p0@0{1,2,3,4,5,6,7,8} a0 v- y- r[] o[] x{} b0" ∷
    "2 ExchangeStates c1 g0 w0 p0@0{1,2,3,4,5,6,7,8} a0 v- y- r[] o[] x{} b0" ∷
    "3 ExchangeStates c1 g0 w0 p0@0{1,2,3,4,5,6,7,8} a0 v- y- r[] o[] x{} b0" ∷
    "4 ExchangeStates c1 g0 w0 p0@0{1,2,3,4,5,6,7,8} a0 v- y- r[] o[] x{} b0" ∷
    "5 ExchangeStates c1 g0 w0 p0@0{1,2,3,4,5,6,7,8} a0 v- y- r[] o[] x{} b0" ∷
    "6 ExchangeStates c1 g0 w0 p0@0{1,2,3,4,5,6,7,8} a0 v- y- r[] o[] x{} b0" ∷
    "7 ExchangeStates c1 g0 w0 p0@0{1,2,3,4,5,6,7,8} a0 v- y- r[] o[] x{} b0" ∷
    "8 ExchangeStates c1 g0 w0 p0@0{1,2,3,4,5,6,7,8} a0 v- y- r[] o[] x{} b0" ∷
    "= 3" ∷
    "2 NonPrim t1 g0 w0 p0@0{1,2,3,4,5,6,7,8} a0 v- y- r[] o[] x{} b0" ∷
    "4 NonPrim t1 g0 w0 p0@0{1,2,3,4,5,6,7,8} a0 v- y- r[] o[] x{} b0" ∷
    "6 NonPrim t1 g0 w0 p0@0{1,2,3,4,5,6,7,8} a0 v- y- r[] o[] x{} b0" ∷
    "8 NonPrim t1 g0 w0 p0@0{1,2,3,4,5,6,7,8} a0 v- y- r[] o[] x{} b0" ∷
    "= 4" ∷
    "1 NonPrim t1 g0 w0 p0@0{1,2,3,4,5,6,7,8} a0 v- y- r[] o[] x{} b0" ∷
    "3 NonPrim t1 g0 w0 p0@0{1,2,3,4,5,6,7,8} a0 v- y- r[] o[] x{} b0" ∷
    "5 NonPrim t1 g0 w0 p0@0{1,2,3,4,5,6,7,8} a0 v- y- r[] o[] x{} b0" ∷
    "7 NonPrim t1 g0 w0 p0@0{1,2,3,4,5,6,7,8} a0 v- y- r[] o[] x{} b0" ∷
    "= 5" ∷
    "1 ExchangeStates c2 g0 w0 p0@0{1,2,3,4,5,6,7,8} a0 v- y- r[] o[] x{} b0" ∷
    "2 ExchangeStates c2 g0 w0 p0@0{1,2,3,4,5,6,7,8} a0 v- y- r[] o[] x{} b0" ∷
    "3 ExchangeStates c2 g0 w0 p0@0{1,2,3,4,5,6,7,8} a0 v- y- r[] o[] x{} b0" ∷
    "4 ExchangeStates c2 g0 w0 p0@0{1,2,3,4,5,6,7,8} a0 v- y- r[] o[] x{} b0" ∷
    "5 ExchangeStates c2 g0 w0 p0@0{1,2,3,4,5,6,7,8} a0 v- y- r[] o[] x{} b0" ∷
    "6 ExchangeStates c2 g0 w0 p0@0{1,2,3,4,5,6,7,8} a0 v- y- r[] o[] x{} b0" ∷
    "7 ExchangeStates c2 g0 w0 p0@0{1,2,3,4,5,6,7,8} a0 v- y- r[] o[] x{} b0" ∷
    "8 ExchangeStates c2 g0 w0 p0@0{1,2,3,4,5,6,7,8} a0 v- y- r[] o[] x{} b0" ∷
    "= 6" ∷
    "1 NonPrim t2 g0 w0 p0@0{1,2,3,4,5,6,7,8} a0 v- y- r[] o[] x{} b0" ∷
    "2 NonPrim t2 g0 w0 p0@0{1,2,3,4,5,6,7,8} a0 v- y- r[] o[] x{} b0" ∷
    "5 NonPrim t2 g0 w0 p0@0{1,2,3,4,5,6,7,8} a0 v- y- r[] o[] x{} b0" ∷
    "6 NonPrim t2 g0 w0 p0@0{1,2,3,4,5,6,7,8} a0 v- y- r[] o[] x{} b0" ∷
    "7 NonPrim t2 g0 w0 p0@0{1,2,3,4,5,6,7,8} a0 v- y- r[] o[] x{} b0" ∷
    "= 7" ∷
    "4 NonPrim t2 g0 w0 p0@0{1,2,3,4,5,6,7,8} a0 v- y- r[] o[] x{} b0" ∷
    "= 8" ∷
    "3 NonPrim t2 g0 w0 p0@0{1,2,3,4,5,6,7,8} a0 v- y- r[] o[] x{} b0" ∷
    "= 9" ∷
    "8 NonPrim t2 g0 w0 p0@0{1,2,3,4,5,6,7,8} a0 v- y- r[] o[] x{} b0" ∷
    "= 10" ∷
    "1 ExchangeStates c3 g0 w0 p0@0{1,2,3,4,5,6,7,8} a0 v- y- r[] o[] x{} b0" ∷
    "2 ExchangeStates c3 g0 w0 p0@0{1,2,3,4,5,6,7,8} a0 v- y- r[] o[] x{} b0" ∷
    "3 ExchangeStates c3 g0 w0 p0@0{1,2,3,4,5,6,7,8} a0 v- y- r[] o[] x{} b0" ∷
    "4 ExchangeStates c3 g0 w0 p0@0{1,2,3,4,5,6,7,8} a0 v- y- r[] o[] x{} b0" ∷
    "5 ExchangeStates c3 g0 w0 p0@0{1,2,3,4,5,6,7,8} a0 v- y- r[] o[] x{} b0" ∷
    "6 ExchangeStates c3 g0 w0 p0@0{1,2,3,4,5,6,7,8} a0 v- y- r[] o[] x{} b0" ∷
    "7 ExchangeStates c3 g0 w0 p0@0{1,2,3,4,5,6,7,8} a0 v- y- r[] o[] x{} b0" ∷
    "8 ExchangeStates c3 g0 w0 p0@0{1,2,3,4,5,6,7,8} a0 v- y- r[] o[] x{} b0" ∷
    "= 11" ∷
    "1 NonPrim t3 g0 w0 p0@0{1,2,3,4,5,6,7,8} a0 v- y- r[] o[] x{} b0" ∷
    "2 NonPrim t3 g0 w0 p0@0{1,2,3,4,5,6,7,8} a0 v- y- r[] o[] x{} b0" ∷
    "3 NonPrim t3 g0 w0 p0@0{1,2,3,4,5,6,7,8} a0 v- y- r[] o[] x{} b0" ∷
    "4 NonPrim t3 g0 w0 p0@0{1,2,3,4,5,6,7,8} a0 v- y- r[] o[] x{} b0" ∷
    "5 NonPrim t3 g0 w0 p0@0{1,2,3,4,5,6,7,8} a0 v- y- r[] o[] x{} b0" ∷
    "8 NonPrim t3 g0 w0 p0@0{1,2,3,4,5,6,7,8} a0 v- y- r[] o[] x{} b0" ∷
    "= 12" ∷
    "1 ExchangeStates c4 g0 w0 p0@0{1,2,3,4,5,6,7,8} a0 v- y- r[] o[] x{} b0" ∷
    "2 ExchangeStates c4 g0 w0 p0@0{1,2,3,4,5,6,7,8} a0 v- y- r[] o[] x{} b0" ∷
    "3 ExchangeStates c4 g0 w0 p0@0{1,2,3,4,5,6,7,8} a0 v- y- r[] o[] x{} b0" ∷
    "4 ExchangeStates c4 g0 w0 p0@0{1,2,3,4,5,6,7,8} a0 v- y- r[] o[] x{} b0" ∷
    "5 ExchangeStates c4 g0 w0 p0@0{1,2,3,4,5,6,7,8} a0 v- y- r[] o[] x{} b0" ∷
    "8 ExchangeStates c4 g0 w0 p0@0{1,2,3,4,5,6,7,8} a0 v- y- r[] o[] x{} b0" ∷
    "= 15" ∷
    "1 Construct c4 g0 w0 p0@0{1,2,3,4,5,6,7,8} a1 v4/0{1,2,3,4,5,8}{1} y- r[] o[] x{} b0" ∷
    "= 16" ∷
    "2 Construct c4 g0 w0 p0@0{1,2,3,4,5,6,7,8} a1 v4/0{1,2,3,4,5,8}{2} y- r[] o[] x{} b0" ∷
    "= 17" ∷
    "3 Construct c4 g0 w0 p0@0{1,2,3,4,5,6,7,8} a1 v4/0{1,2,3,4,5,8}{3} y- r[] o[] x{} b0" ∷
    "= 18" ∷
    "4 Construct c4 g0 w0 p0@0{1,2,3,4,5,6,7,8} a1 v4/0{1,2,3,4,5,8}{4} y- r[] o[] x{} b0" ∷
    "= 19" ∷
    "5 Construct c4 g0 w0 p0@0{1,2,3,4,5,6,7,8} a1 v4/0{1,2,3,4,5,8}{5} y- r[] o[] x{} b0" ∷
    "= 20" ∷
    "8 Construct c4 g0 w0 p0@0{1,2,3,4,5,6,7,8} a1 v4/0{1,2,3,4,5,8}{8} y- r[] o[] x{} b0" ∷
    "= 22" ∷
    "1 RegPrim c4 g0 w0 p1@4{1,2,3,4,5,8} a0 v4/0{1,2,3,4,5,8}{1} y- r[] o[] x{} b0" ∷
    "= 23" ∷
    "2 RegPrim c4 g0 w0 p1@4{1,2,3,4,5,8} a0 v4/0{1,2,3,4,5,8}{2} y- r[] o[] x{} b0" ∷
    "= 24" ∷
    "3 RegPrim c4 g0 w0 p1@4{1,2,3,4,5,8} a0 v4/0{1,2,3,4,5,8}{3} y- r[] o[] x{} b0" ∷
    "= 25" ∷
    "4 RegPrim c4 g0 w0 p1@4{1,2,3,4,5,8} a0 v4/0{1,2,3,4,5,8}{4} y- r[] o[] x{} b0" ∷
    "= 26" ∷
    "5 RegPrim c4 g0 w0 p1@4{1,2,3,4,5,8} a0 v4/0{1,2,3,4,5,8}{5} y- r[] o[] x{} b0" ∷
    "= 27" ∷
    "8 Down" ∷
    "= 28" ∷
    "8 NonPrim - g0 w0 p0@0{1,2,3,4,5,6,7,8} a1 v4/0{1,2,3,4,5,8}{8} y- r[] o[] x{} b0" ∷
    "end 28" ∷
    [])
unfolding cases_compute
gate_closed_while_the_body_is_written_c = refl
