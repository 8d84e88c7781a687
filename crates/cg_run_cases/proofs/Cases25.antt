-- Cases of cases/ with their whole reports, which `.ci/theorems` writes down here.
use Rattle.std.specs.Prelude.{◌≡◌, [], ◌∷◌}
use mathlib.Core.Path.{refl}
use Rattle.cg_run_cases.specs.Replaying.{replayed_text, written}
use Rattle.cg_run_cases.specs.Computing.{cases_compute}

-- snapshot begins again after a crash of its representative
snapshot_begins_again_after_a_crash_of_its_representative :
    replayed_text (
    "start 1 2 3" ∷
    "merge 1 2 3" ∷
    "rounds 2" ∷
    "request 1 put \"x\" 1" ∷
    "rounds 1" ∷
    "join 2 4" ∷
    "rounds 1" ∷
    "transfer 2 4 2" ∷
    "request 1 put \"y\" 2" ∷
    "rounds 1" ∷
    "stop 2 0 -" ∷
    "recover 2" ∷
    "transfer 2 4 2" ∷
    "split 1 3" ∷
    "merge 1 2 3" ∷
    "rounds 3" ∷
    "transfer 2 4 9" ∷
    "merge 4" ∷
    "split 4" ∷
    "split 1 2 3" ∷
    "merge 1 2 3 4" ∷
    "rounds 4" ∷
    "show 4" ∷
    "show order" ∷
    "end" ∷
    [])
    ≡ written (
    "= 1" ∷
    "1 NonPrim - g0 w0 p0@0{1,2,3} a0 v- y- r[] o[] x{} b0" ∷
    "2 NonPrim - g0 w0 p0@0{1,2,3} a0 v- y- r[] o[] x{} b0" ∷
    "3 NonPrim - g0 w0 p0@0{1,2,3} a0 v- y- r[] o[] x{} b0" ∷
    "= 2" ∷
    "1 ExchangeStates c1 g0 w0 p0@0{1,2,3} a0 v- y- r[] o[] x{} b0" ∷
    "2 ExchangeStates c1 g0 w0 p0@0{1,2,3} a0 v- y- r[] o[] x{} b0" ∷
    "3 ExchangeStates c1 g0 w0 p0@0{1,2,3} a0 v- y- r[] o[] x{} b0" ∷
    "= 4" ∷
    "1 Construct c1 g0 w0 p0@0{1,2,3} a1 v1/0{1,2,3}{1} y- r[] o[] x{} b0" ∷
    "= 5" ∷
    "2 Construct c1 g0 w0 p0@0{1,2,3} a1 v1/0{1,2,3}{2} y- r[] o[] x{} b0" ∷
    "= 6" ∷
    "3 Construct c1 g0 w0 p0@0{1,2,3} a1 v1/0{1,2,3}{3} y- r[] o[] x{} b0" ∷
    "= 8" ∷
    "1 RegPrim c1 g0 w0 p1@1{1,2,3} a0 v1/0{1,2,3}{1} y- r[] o[] x{} b0" ∷
    "= 9" ∷
    "2 RegPrim c1 g0 w0 p1@1{1,2,3} a0 v1/0{1,2,3}{2} y- r[] o[] x{} b0" ∷
    "= 10" ∷
    "3 RegPrim c1 g0 w0 p1@1{1,2,3} a0 v1/0{1,2,3}{3} y- r[] o[] x{} b0" ∷
    "= 11" ∷
    "made 1:1 put \"x\" 1" ∷
    "1 RegPrim c1 g0 w0 p1@1{1,2,3} a0 v1/0{1,2,3}{1} y- r[] o[1:1] x{} b0" ∷
    "= 13" ∷
    "order 1 1:1" ∷
    "1 RegPrim c1 g1 w0 p1@1{1,2,3} a0 v1/0{1,2,3}{1} y- r[] o[] x{} b0" ∷
    "reply 1:1 done" ∷
    "= 14" ∷
    "2 RegPrim c1 g1 w0 p1@1{1,2,3} a0 v1/0{1,2,3}{2} y- r[] o[] x{} b0" ∷
    "= 15" ∷
    "3 RegPrim c1 g1 w0 p1@1{1,2,3} a0 v1/0{1,2,3}{3} y- r[] o[] x{} b0" ∷
    "= 16" ∷
    "made 2:1 join 4" ∷
    "2 RegPrim c1 g1 w0 p1@1{1,2,3} a0 v1/0{1,2,3}{2} y- r[] o[2:1] x{} b0" ∷
    "= 18" ∷
    "order 2 2:1" ∷
    "1 RegPrim c1 g2 w0 p1@1{1,2,3} a0 v1/0{1,2,3}{1} y- r[] o[] x{} b0" ∷
    "= 19" ∷
    "2 RegPrim c1 g2 w0 p1@1{1,2,3} a0 v1/0{1,2,3}{2} y- r[] o[] x{} b0" ∷
    "reply 2:1 done" ∷
    "= 20" ∷
    "3 RegPrim c1 g2 w0 p1@1{1,2,3} a0 v1/0{1,2,3}{3} y- r[] o[] x{} b0" ∷
    "= 21" ∷
    "pieces 4 2/5" ∷
    "= 22" ∷
    "made 1:2 put \"y\" 2" ∷
    "1 RegPrim c1 g2 w0 p1@1{1,2,3} a0 v1/0{1,2,3}{1} y- r[] o[1:2] x{} b0" ∷
    "= 24" ∷
    "order 3 1:2" ∷
    "1 RegPrim c1 g3 w0 p1@1{1,2,3} a0 v1/0{1,2,3}{1} y- r[] o[] x{} b0" ∷
    "reply 1:2 done" ∷
    "= 25" ∷
    "2 RegPrim c1 g3 w0 p1@1{1,2,3} a0 v1/0{1,2,3}{2} y- r[] o[] x{} b0" ∷
    "= 26" ∷
    "3 RegPrim c1 g3 w0 p1@1{1,2,3} a0 v1/0{1,2,3}{3} y- r[] o[] x{} b0" ∷
    "= 27" ∷
    "2 Down" ∷
    "= 28" ∷
    "2 NonPrim - g3 w0 p1@1{1,2,3} a0 v1/0{1,2,3}{2} y- r[] o[] x{} b0" ∷
    "= 29" ∷
    "pieces 4 2/7" ∷
    "= 30" ∷
    "1 TransPrim t1 g3 w0 p1@1{1,2,3} a0 v1/0{1,2,3}{1} y- r[] o[] x{} b0" ∷
    "3 TransPrim t1 g3 w0 p1@1{1,2,3} a0 v1/0{1,2,3}{3} y- r[] o[] x{} b0" ∷
    "= 31" ∷
    "1 ExchangeStates c2 g3 w0 p1@1{1,2,3} a0 v- y![] r[] o[] x{} b0" ∷
    "2 ExchangeStates c2 g3 w0 p1@1{1,2,3} a0 v1/0{1,2,3}{2} y- r[] o[] x{} b0" ∷
    "3 ExchangeStates c2 g3 w0 p1@1{1,2,3} a0 v- y![] r[] o[] x{} b0" ∷
    "= 33" ∷
    "1 Construct c2 g3 w0 p1@1{1,2,3} a1 v2/1{1,2,3}{1} y![] r[] o[] x{} b0" ∷
    "= 34" ∷
    "2 Construct c2 g3 w0 p1@1{1,2,3} a1 v2/1{1,2,3}{2} y![] r[] o[] x{} b0" ∷
    "= 35" ∷
    "3 Construct c2 g3 w0 p1@1{1,2,3} a1 v2/1{1,2,3}{3} y![] r[] o[] x{} b0" ∷
    "= 37" ∷
    "1 RegPrim c2 g3 w0 p2@2{1,2,3} a0 v2/1{1,2,3}{1} y- r[] o[] x{} b0" ∷
    "= 38" ∷
    "2 RegPrim c2 g3 w0 p2@2{1,2,3} a0 v2/1{1,2,3}{2} y- r[] o[] x{} b0" ∷
    "= 39" ∷
    "3 RegPrim c2 g3 w0 p2@2{1,2,3} a0 v2/1{1,2,3}{3} y- r[] o[] x{} b0" ∷
    "= 41" ∷
    "4 NonPrim - g3 w0 p1@1{1,2,3} a0 v- y- r[] o[] x{} b0" ∷
    "pieces 4 7/7" ∷
    "= 42" ∷
    "4 ExchangeStates c3 g3 w0 p1@1{1,2,3} a0 v- y- r[] o[] x{} b0" ∷
    "= 43" ∷
    "4 NonPrim t3 g3 w0 p1@1{1,2,3} a0 v- y- r[] o[] x{} b0" ∷
    "= 44" ∷
    "1 TransPrim t2 g3 w0 p2@2{1,2,3} a0 v2/1{1,2,3}{1} y- r[] o[] x{} b0" ∷
    "2 TransPrim t2 g3 w0 p2@2{1,2,3} a0 v2/1{1,2,3}{2} y- r[] o[] x{} b0" ∷
    "3 TransPrim t2 g3 w0 p2@2{1,2,3} a0 v2/1{1,2,3}{3} y- r[] o[] x{} b0" ∷
    "= 45" ∷
    "1 ExchangeStates c4 g3 w0 p2@2{1,2,3} a0 v- y![] r[] o[] x{} b0" ∷
    "2 ExchangeStates c4 g3 w0 p2@2{1,2,3} a0 v- y![] r[] o[] x{} b0" ∷
    "3 ExchangeStates c4 g3 w0 p2@2{1,2,3} a0 v- y![] r[] o[] x{} b0" ∷
    "4 ExchangeStates c4 g3 w0 p1@1{1,2,3} a0 v- y- r[] o[] x{} b0" ∷
    "= 47" ∷
    "1 Construct c4 g3 w0 p2@2{1,2,3} a1 v4/2{1,2,3,4}{1} y![] r[] o[] x{} b0" ∷
    "= 48" ∷
    "2 Construct c4 g3 w0 p2@2{1,2,3} a1 v4/2{1,2,3,4}{2} y![] r[] o[] x{} b0" ∷
    "= 49" ∷
    "3 Construct c4 g3 w0 p2@2{1,2,3} a1 v4/2{1,2,3,4}{3} y![] r[] o[] x{} b0" ∷
    "= 50" ∷
    "4 Construct c4 g3 w0 p2@2{1,2,3} a1 v4/2{1,2,3,4}{4} y![] r[] o[] x{} b0" ∷
    "= 52" ∷
    "1 RegPrim c4 g3 w0 p3@4{1,2,3,4} a0 v4/2{1,2,3,4}{1} y- r[] o[] x{} b0" ∷
    "= 53" ∷
    "2 RegPrim c4 g3 w0 p3@4{1,2,3,4} a0 v4/2{1,2,3,4}{2} y- r[] o[] x{} b0" ∷
    "= 54" ∷
    "3 RegPrim c4 g3 w0 p3@4{1,2,3,4} a0 v4/2{1,2,3,4}{3} y- r[] o[] x{} b0" ∷
    "= 55" ∷
    "4 RegPrim c4 g3 w0 p3@4{1,2,3,4} a0 v4/2{1,2,3,4}{4} y- r[] o[] x{} b0" ∷
    "= 58" ∷
    "greens 4 [1:1,2:1,1:2]" ∷
    "db 4 \"x\"=1 \"y\"=2" ∷
    "= 59" ∷
    "all [1:1,2:1,1:2]" ∷
    "end 59" ∷
    [])
unfolding cases_compute
snapshot_begins_again_after_a_crash_of_its_representative = refl

-- A snapshot begins again with another representative.
snapshot_of_another_representative_a :
    replayed_text (
    "start 1 2" ∷
    "merge 1 2" ∷
    "request 1 need \"y\" 7 ? get \"ab\"" ∷
    "join 1 3" ∷
    "join 1 4" ∷
    "rounds 2" ∷
    "join 2 30" ∷
    "gather" ∷
    "split 1 2" ∷
    "merge 1 2" ∷
    "fail 2 8" ∷
    "split 1" ∷
    "split 2" ∷
    "merge 1 2" ∷
    "rounds 1" ∷
    "gather" ∷
    "deliver 1 2" ∷
    "transfer 1 30 5" ∷
    "deliver 2 2" ∷
    "recover 2" ∷
    "transfer 2 4 100" ∷
    "transfer 4 30 3" ∷
    "end" ∷
    [])
    ≡ written (
    "= 1" ∷
    "1 NonPrim - g0 w0 p0@0{1,2} a0 v- y- r[] o[] x{} b0" ∷
    "2 NonPrim - g0 w0 p0@0{1,2} a0 v- y- r[] o[] x{} b0" ∷
    "= 2" ∷
    "1 ExchangeStates c1 g0 w0 p0@0{1,2} a0 v- y- r[] o[] x{} b0" ∷
    "2 ExchangeStates c1 g0 w0 p0@0{1,2} a0 v- y- r[] o[] x{} b0" ∷
    "= 3" ∷
    "1 ExchangeStates c1 g0 w0 p0@0{1,2} a0 v- y- r[] o[] x{} b1" ∷
    "= 4" ∷
    "1 ExchangeStates c1 g0 w0 p0@0{1,2} a0 v- y- r[] o[] x{} b2" ∷
    "= 5" ∷
    "1 ExchangeStates c1 g0 w0 p0@0{1,2} a0 v- y- r[] o[] x{} b3" ∷
    "= 7" ∷
    "1 Construct c1 g0 w0 p0@0{1,2} a1 v1/0{1,2}{1} y- r[] o[] x{} b3" ∷
    "= 8" ∷
    "2 Construct c1 g0 w0 p0@0{1,2} a1 v1/0{1,2}{2} y- r[] o[] x{} b0" ∷
    "= 10" ∷
    "made 1:1 need \"y\" 7 ? get \"ab\"" ∷
    "made 1:2 join 3" ∷
    "made 1:3 join 4" ∷
    "1 RegPrim c1 g0 w0 p1@1{1,2} a0 v1/0{1,2}{1} y- r[] o[1:1,1:2,1:3] x{} b0" ∷
    "= 11" ∷
    "2 RegPrim c1 g0 w0 p1@1{1,2} a0 v1/0{1,2}{2} y- r[] o[] x{} b0" ∷
    "= 12" ∷
    "made 2:1 join 30" ∷
    "2 RegPrim c1 g0 w0 p1@1{1,2} a0 v1/0{1,2}{2} y- r[] o[2:1] x{} b0" ∷
    "= 14" ∷
    "1 TransPrim t1 g0 w0 p1@1{1,2} a0 v1/0{1,2}{1} y?[1:1,1:2,1:3,2:1] r[] o[] x{} b0" ∷
    "2 TransPrim t1 g0 w0 p1@1{1,2} a0 v1/0{1,2}{2} y?[1:1,1:2,1:3,2:1] r[] o[] x{} b0" ∷
    "= 15" ∷
    "1 ExchangeStates c2 g0 w0 p1@1{1,2} a0 v- y![1:1,1:2,1:3,2:1] r[] o[] x{} b0" ∷
    "2 ExchangeStates c2 g0 w0 p1@1{1,2} a0 v- y![1:1,1:2,1:3,2:1] r[] o[] x{} b0" ∷
    "= 17" ∷
    "1 NonPrim t2 g0 w0 p1@1{1,2} a0 v- y![1:1,1:2,1:3,2:1] r[] o[] x{} b0" ∷
    "= 18" ∷
    "2 NonPrim t2 g0 w0 p1@1{1,2} a0 v- y![1:1,1:2,1:3,2:1] r[] o[] x{} b0" ∷
    "= 19" ∷
    "1 ExchangeStates c3 g0 w0 p1@1{1,2} a0 v- y![1:1,1:2,1:3,2:1] r[] o[] x{} b0" ∷
    "2 ExchangeStates c3 g0 w0 p1@1{1,2} a0 v- y![1:1,1:2,1:3,2:1] r[] o[] x{} b0" ∷
    "= 21" ∷
    "1 Construct c3 g0 w0 p1@1{1,2} a1 v3/1{1,2}{1} y![1:1,1:2,1:3,2:1] r[] o[] x{} b0" ∷
    "= 22" ∷
    "2 Construct c3 g0 w0 p1@1{1,2} a1 v3/1{1,2}{2} y![1:1,1:2,1:3,2:1] r[] o[] x{} b0" ∷
    "= 24" ∷
    "order 1 1:1" ∷
    "order 2 1:2" ∷
    "order 3 1:3" ∷
    "order 4 2:1" ∷
    "1 RegPrim c3 g4 w0 p2@3{1,2} a0 v3/1{1,2}{1} y- r[] o[] x{} b0" ∷
    "reply 1:1 aborted 1 ? absent" ∷
    "reply 1:2 done" ∷
    "reply 1:3 done" ∷
    "= 25" ∷
    "pieces 30 5/6" ∷
    "= 26" ∷
    "2 Down" ∷
    "= 27" ∷
    "2 NonPrim - g4 w0 p2@3{1,2} a0 v3/1{1,2}{2} y- r[] o[] x{} b0" ∷
    "= 28" ∷
    "4 NonPrim - g4 w0 p2@3{1,2} a0 v- y- r[] o[] x{} b0" ∷
    "pieces 4 6/6" ∷
    "= 29" ∷
    "pieces 30 3/6" ∷
    "end 29" ∷
    [])
unfolding cases_compute
snapshot_of_another_representative_a = refl

-- A snapshot begins again with another representative.
snapshot_of_another_representative_b :
    replayed_text (
    "start 1 2 3 4" ∷
    "merge 1 2 3 4" ∷
    "split 2 3 4" ∷
    "merge 2 3 4" ∷
    "join 4 11" ∷
    "rounds 2" ∷
    "join 2 5" ∷
    "gather" ∷
    "deliver 4 2" ∷
    "split 2 3 4" ∷
    "transfer 2 11 3" ∷
    "transfer 3 11 1" ∷
    "end" ∷
    [])
    ≡ written (
    "= 1" ∷
    "1 NonPrim - g0 w0 p0@0{1,2,3,4} a0 v- y- r[] o[] x{} b0" ∷
    "2 NonPrim - g0 w0 p0@0{1,2,3,4} a0 v- y- r[] o[] x{} b0" ∷
    "3 NonPrim - g0 w0 p0@0{1,2,3,4} a0 v- y- r[] o[] x{} b0" ∷
    "4 NonPrim - g0 w0 p0@0{1,2,3,4} a0 v- y- r[] o[] x{} b0" ∷
    "= 2" ∷
    "1 ExchangeStates c1 g0 w0 p0@0{1,2,3,4} a0 v- y- r[] o[] x{} b0" ∷
    "2 ExchangeStates c1 g0 w0 p0@0{1,2,3,4} a0 v- y- r[] o[] x{} b0" ∷
    "3 ExchangeStates c1 g0 w0 p0@0{1,2,3,4} a0 v- y- r[] o[] x{} b0" ∷
    "4 ExchangeStates c1 g0 w0 p0@0{1,2,3,4} a0 v- y- r[] o[] x{} b0" ∷
    "= 3" ∷
    "2 NonPrim t1 g0 w0 p0@0{1,2,3,4} a0 v- y- r[] o[] x{} b0" ∷
    "3 NonPrim t1 g0 w0 p0@0{1,2,3,4} a0 v- y- r[] o[] x{} b0" ∷
    "4 NonPrim t1 g0 w0 p0@0{1,2,3,4} a0 v- y- r[] o[] x{} b0" ∷
    "= 4" ∷
    "2 ExchangeStates c2 g0 w0 p0@0{1,2,3,4} a0 v- y- r[] o[] x{} b0" ∷
    "3 ExchangeStates c2 g0 w0 p0@0{1,2,3,4} a0 v- y- r[] o[] x{} b0" ∷
    "4 ExchangeStates c2 g0 w0 p0@0{1,2,3,4} a0 v- y- r[] o[] x{} b0" ∷
    "= 5" ∷
    "4 ExchangeStates c2 g0 w0 p0@0{1,2,3,4} a0 v- y- r[] o[] x{} b1" ∷
    "= 7" ∷
    "2 Construct c2 g0 w0 p0@0{1,2,3,4} a1 v2/0{2,3,4}{2} y- r[] o[] x{} b0" ∷
    "= 8" ∷
    "3 Construct c2 g0 w0 p0@0{1,2,3,4} a1 v2/0{2,3,4}{3} y- r[] o[] x{} b0" ∷
    "= 9" ∷
    "4 Construct c2 g0 w0 p0@0{1,2,3,4} a1 v2/0{2,3,4}{4} y- r[] o[] x{} b1" ∷
    "= 11" ∷
    "2 RegPrim c2 g0 w0 p1@2{2,3,4} a0 v2/0{2,3,4}{2} y- r[] o[] x{} b0" ∷
    "= 12" ∷
    "3 RegPrim c2 g0 w0 p1@2{2,3,4} a0 v2/0{2,3,4}{3} y- r[] o[] x{} b0" ∷
    "= 13" ∷
    "made 4:1 join 11" ∷
    "4 RegPrim c2 g0 w0 p1@2{2,3,4} a0 v2/0{2,3,4}{4} y- r[] o[4:1] x{} b0" ∷
    "= 14" ∷
    "made 2:1 join 5" ∷
    "2 RegPrim c2 g0 w0 p1@2{2,3,4} a0 v2/0{2,3,4}{2} y- r[] o[2:1] x{} b0" ∷
    "= 16" ∷
    "order 1 2:1" ∷
    "order 2 4:1" ∷
    "4 RegPrim c2 g2 w0 p1@2{2,3,4} a0 v2/0{2,3,4}{4} y- r[] o[] x{} b0" ∷
    "reply 4:1 done" ∷
    "= 17" ∷
    "2 TransPrim t2 g2 w0 p1@2{2,3,4} a0 v2/0{2,3,4}{2} y- r[] o[] x{} b0" ∷
    "3 TransPrim t2 g2 w0 p1@2{2,3,4} a0 v2/0{2,3,4}{3} y- r[] o[] x{} b0" ∷
    "4 TransPrim t2 g2 w0 p1@2{2,3,4} a0 v2/0{2,3,4}{4} y- r[] o[] x{} b0" ∷
    "reply 2:1 done" ∷
    "= 18" ∷
    "pieces 11 3/4" ∷
    "= 19" ∷
    "pieces 11 1/4" ∷
    "end 19" ∷
    [])
unfolding cases_compute
snapshot_of_another_representative_b = refl

-- A snapshot begins again with another representative.
snapshot_of_another_representative_c :
    replayed_text (
    "start 1 2 3 4 5" ∷
    "merge 1 2 3 4 5" ∷
    "split 1" ∷
    "join 5 6" ∷
    "split 2 3 4 5" ∷
    "merge 1 2 3 4 5" ∷
    "rounds 4" ∷
    "transfer 5 6 2" ∷
    "transfer 3 6 2" ∷
    "end" ∷
    [])
    ≡ written (
    "= 1" ∷
    "1 NonPrim - g0 w0 p0@0{1,2,3,4,5} a0 v- y- r[] o[] x{} b0" ∷
    "2 NonPrim - g0 w0 p0@0{1,2,3,4,5} a0 v- y- r[] o[] x{} b0" ∷
    "3 NonPrim - g0 w0 p0@0{1,2,3,4,5} a0 v- y- r[] o[] x{} b0" ∷
    "4 NonPrim - g0 w0 p0@0{1,2,3,4,5} a0 v- y- r[] o[] x{} b0" ∷
    "5 NonPrim - g0 w0 p0@0{1,2,3,4,5} a0 v- y- r[] o[] x{} b0" ∷
    "= 2" ∷
    "1 ExchangeStates c1 g0 w0 p0@0{1,2,3,4,5} a0 v- y- r[] o[] x{} b0" ∷
    "2 ExchangeStates c1 g0 w0 p0@0{1,2,3,4,5} a0 v- y- r[] o[] x{} b0" ∷
    "3 ExchangeStates c1 g0 w0 p0@0{1,2,3,4,5} a0 v- y- r[] o[] x{} b0" ∷
    "4 ExchangeStates c1 g0 w0 p0@0{1,2,3,4,5} a0 v- y- r[] o[] x{} b0" ∷
    "5 ExchangeStates c1 g0 w0 p0@0{1,2,3,4,5} a0 v- y- r[] o[] x{} b0" ∷
    "= 3" ∷
    "1 NonPrim t1 g0 w0 p0@0{1,2,3,4,5} a0 v- y- r[] o[] x{} b0" ∷
    "= 4" ∷
    "5 ExchangeStates c1 g0 w0 p0@0{1,2,3,4,5} a0 v- y- r[] o[] x{} b1" ∷
    "= 5" ∷
    "2 NonPrim t1 g0 w0 p0@0{1,2,3,4,5} a0 v- y- r[] o[] x{} b0" ∷
    "3 NonPrim t1 g0 w0 p0@0{1,2,3,4,5} a0 v- y- r[] o[] x{} b0" ∷
    "4 NonPrim t1 g0 w0 p0@0{1,2,3,4,5} a0 v- y- r[] o[] x{} b0" ∷
    "5 NonPrim t1 g0 w0 p0@0{1,2,3,4,5} a0 v- y- r[] o[] x{} b1" ∷
    "= 6" ∷
    "1 ExchangeStates c2 g0 w0 p0@0{1,2,3,4,5} a0 v- y- r[] o[] x{} b0" ∷
    "2 ExchangeStates c2 g0 w0 p0@0{1,2,3,4,5} a0 v- y- r[] o[] x{} b0" ∷
    "3 ExchangeStates c2 g0 w0 p0@0{1,2,3,4,5} a0 v- y- r[] o[] x{} b0" ∷
    "4 ExchangeStates c2 g0 w0 p0@0{1,2,3,4,5} a0 v- y- r[] o[] x{} b0" ∷
    "5 ExchangeStates c2 g0 w0 p0@0{1,2,3,4,5} a0 v- y- r[] o[] x{} b1" ∷
    "= 8" ∷
    "1 Construct c2 g0 w0 p0@0{1,2,3,4,5} a1 v2/0{1,2,3,4,5}{1} y- r[] o[] x{} b0" ∷
    "= 9" ∷
    "2 Construct c2 g0 w0 p0@0{1,2,3,4,5} a1 v2/0{1,2,3,4,5}{2} y- r[] o[] x{} b0" ∷
    "= 10" ∷
    "3 Construct c2 g0 w0 p0@0{1,2,3,4,5} a1 v2/0{1,2,3,4,5}{3} y- r[] o[] x{} b0" ∷
    "= 11" ∷
    "4 Construct c2 g0 w0 p0@0{1,2,3,4,5} a1 v2/0{1,2,3,4,5}{4} y- r[] o[] x{} b0" ∷
    "= 12" ∷
    "5 Construct c2 g0 w0 p0@0{1,2,3,4,5} a1 v2/0{1,2,3,4,5}{5} y- r[] o[] x{} b1" ∷
    "= 14" ∷
    "1 RegPrim c2 g0 w0 p1@2{1,2,3,4,5} a0 v2/0{1,2,3,4,5}{1} y- r[] o[] x{} b0" ∷
    "= 15" ∷
    "2 RegPrim c2 g0 w0 p1@2{1,2,3,4,5} a0 v2/0{1,2,3,4,5}{2} y- r[] o[] x{} b0" ∷
    "= 16" ∷
    "3 RegPrim c2 g0 w0 p1@2{1,2,3,4,5} a0 v2/0{1,2,3,4,5}{3} y- r[] o[] x{} b0" ∷
    "= 17" ∷
    "4 RegPrim c2 g0 w0 p1@2{1,2,3,4,5} a0 v2/0{1,2,3,4,5}{4} y- r[] o[] x{} b0" ∷
    "= 18" ∷
    "made 5:1 join 6" ∷
    "5 RegPrim c2 g0 w0 p1@2{1,2,3,4,5} a0 v2/0{1,2,3,4,5}{5} y- r[] o[5:1] x{} b0" ∷
    "= 20" ∷
    "order 1 5:1" ∷
    "1 RegPrim c2 g1 w0 p1@2{1,2,3,4,5} a0 v2/0{1,2,3,4,5}{1} y- r[] o[] x{} b0" ∷
    "= 21" ∷
    "2 RegPrim c2 g1 w0 p1@2{1,2,3,4,5} a0 v2/0{1,2,3,4,5}{2} y- r[] o[] x{} b0" ∷
    "= 22" ∷
    "3 RegPrim c2 g1 w0 p1@2{1,2,3,4,5} a0 v2/0{1,2,3,4,5}{3} y- r[] o[] x{} b0" ∷
    "= 23" ∷
    "4 RegPrim c2 g1 w0 p1@2{1,2,3,4,5} a0 v2/0{1,2,3,4,5}{4} y- r[] o[] x{} b0" ∷
    "= 24" ∷
    "5 RegPrim c2 g1 w0 p1@2{1,2,3,4,5} a0 v2/0{1,2,3,4,5}{5} y- r[] o[] x{} b0" ∷
    "reply 5:1 done" ∷
    "= 26" ∷
    "pieces 6 2/3" ∷
    "= 27" ∷
    "pieces 6 2/3" ∷
    "end 27" ∷
    [])
unfolding cases_compute
snapshot_of_another_representative_c = refl

-- A crash inside a device call leaves the state before or after its commit, and the run goes on to the same end.
stop_inside_call_01_with_no_bytes :
    replayed_text (
    "start 1 2 3" ∷
    "stop 1 1 -" ∷
    "merge 1 2 3" ∷
    "rounds 2" ∷
    "request 2 put \"x\" 1" ∷
    "rounds 1" ∷
    "recover 1" ∷
    "split 2 3" ∷
    "merge 1 2 3" ∷
    "rounds 4" ∷
    "show order" ∷
    "end" ∷
    [])
    ≡ written (
    "= 1" ∷
    "1 NonPrim - g0 w0 p0@0{1,2,3} a0 v- y- r[] o[] x{} b0" ∷
    "2 NonPrim - g0 w0 p0@0{1,2,3} a0 v- y- r[] o[] x{} b0" ∷
    "3 NonPrim - g0 w0 p0@0{1,2,3} a0 v- y- r[] o[] x{} b0" ∷
    "= 3" ∷
    "1 ExchangeStates c1 g0 w0 p0@0{1,2,3} a0 v- y- r[] o[] x{} b0" ∷
    "2 ExchangeStates c1 g0 w0 p0@0{1,2,3} a0 v- y- r[] o[] x{} b0" ∷
    "3 ExchangeStates c1 g0 w0 p0@0{1,2,3} a0 v- y- r[] o[] x{} b0" ∷
    "= 5" ∷
    "1 Down" ∷
    "= 6" ∷
    "2 Construct c1 g0 w0 p0@0{1,2,3} a1 v1/0{1,2,3}{2} y- r[] o[] x{} b0" ∷
    "= 7" ∷
    "3 Construct c1 g0 w0 p0@0{1,2,3} a1 v1/0{1,2,3}{3} y- r[] o[] x{} b0" ∷
    "= 9" ∷
    "2 Construct c1 g0 w0 p0@0{1,2,3} a1 v1/0{1,2,3}{2} y- r[] o[] x{} b1" ∷
    "= 11" ∷
    "1 NonPrim - g0 w0 p0@0{1,2,3} a0 v- y- r[] o[] x{} b0" ∷
    "= 12" ∷
    "2 No t1 g0 w0 p0@0{1,2,3} a1 v1/0{1,2,3}{2} y- r[] o[] x{} b1" ∷
    "3 No t1 g0 w0 p0@0{1,2,3} a1 v1/0{1,2,3}{3} y- r[] o[] x{} b0" ∷
    "= 13" ∷
    "1 ExchangeStates c2 g0 w0 p0@0{1,2,3} a0 v- y- r[] o[] x{} b0" ∷
    "2 ExchangeStates c2 g0 w0 p0@0{1,2,3} a1 v- y- r[] o[] x{} b1" ∷
    "3 ExchangeStates c2 g0 w0 p0@0{1,2,3} a1 v- y- r[] o[] x{} b0" ∷
    "= 15" ∷
    "1 Construct c2 g0 w0 p0@0{1,2,3} a2 v2/0{1,2,3}{1} y- r[] o[] x{} b0" ∷
    "= 16" ∷
    "2 Construct c2 g0 w0 p0@0{1,2,3} a2 v2/0{1,2,3}{2} y- r[] o[] x{} b1" ∷
    "= 17" ∷
    "3 Construct c2 g0 w0 p0@0{1,2,3} a2 v2/0{1,2,3}{3} y- r[] o[] x{} b0" ∷
    "= 19" ∷
    "1 RegPrim c2 g0 w0 p1@2{1,2,3} a0 v2/0{1,2,3}{1} y- r[] o[] x{} b0" ∷
    "= 20" ∷
    "made 2:1 put \"x\" 1" ∷
    "2 RegPrim c2 g0 w0 p1@2{1,2,3} a0 v2/0{1,2,3}{2} y- r[] o[2:1] x{} b0" ∷
    "= 21" ∷
    "3 RegPrim c2 g0 w0 p1@2{1,2,3} a0 v2/0{1,2,3}{3} y- r[] o[] x{} b0" ∷
    "= 23" ∷
    "order 1 2:1" ∷
    "1 RegPrim c2 g1 w0 p1@2{1,2,3} a0 v2/0{1,2,3}{1} y- r[] o[] x{} b0" ∷
    "= 24" ∷
    "2 RegPrim c2 g1 w0 p1@2{1,2,3} a0 v2/0{1,2,3}{2} y- r[] o[] x{} b0" ∷
    "reply 2:1 done" ∷
    "= 25" ∷
    "3 RegPrim c2 g1 w0 p1@2{1,2,3} a0 v2/0{1,2,3}{3} y- r[] o[] x{} b0" ∷
    "= 27" ∷
    "all [2:1]" ∷
    "end 27" ∷
    [])
unfolding cases_compute
stop_inside_call_01_with_no_bytes = refl

-- A crash inside a device call leaves the state before or after its commit, and the run goes on to the same end.
stop_inside_call_01_with_one_byte_of_one :
    replayed_text (
    "start 1 2 3" ∷
    "stop 1 1 01" ∷
    "merge 1 2 3" ∷
    "rounds 2" ∷
    "request 2 put \"x\" 1" ∷
    "rounds 1" ∷
    "recover 1" ∷
    "split 2 3" ∷
    "merge 1 2 3" ∷
    "rounds 4" ∷
    "show order" ∷
    "end" ∷
    [])
    ≡ written (
    "= 1" ∷
    "1 NonPrim - g0 w0 p0@0{1,2,3} a0 v- y- r[] o[] x{} b0" ∷
    "2 NonPrim - g0 w0 p0@0{1,2,3} a0 v- y- r[] o[] x{} b0" ∷
    "3 NonPrim - g0 w0 p0@0{1,2,3} a0 v- y- r[] o[] x{} b0" ∷
    "= 3" ∷
    "1 ExchangeStates c1 g0 w0 p0@0{1,2,3} a0 v- y- r[] o[] x{} b0" ∷
    "2 ExchangeStates c1 g0 w0 p0@0{1,2,3} a0 v- y- r[] o[] x{} b0" ∷
    "3 ExchangeStates c1 g0 w0 p0@0{1,2,3} a0 v- y- r[] o[] x{} b0" ∷
    "= 5" ∷
    "1 Down" ∷
    "= 6" ∷
    "2 Construct c1 g0 w0 p0@0{1,2,3} a1 v1/0{1,2,3}{2} y- r[] o[] x{} b0" ∷
    "= 7" ∷
    "3 Construct c1 g0 w0 p0@0{1,2,3} a1 v1/0{1,2,3}{3} y- r[] o[] x{} b0" ∷
    "= 9" ∷
    "2 Construct c1 g0 w0 p0@0{1,2,3} a1 v1/0{1,2,3}{2} y- r[] o[] x{} b1" ∷
    "= 11" ∷
    "1 NonPrim - g0 w0 p0@0{1,2,3} a0 v- y- r[] o[] x{} b0" ∷
    "= 12" ∷
    "2 No t1 g0 w0 p0@0{1,2,3} a1 v1/0{1,2,3}{2} y- r[] o[] x{} b1" ∷
    "3 No t1 g0 w0 p0@0{1,2,3} a1 v1/0{1,2,3}{3} y- r[] o[] x{} b0" ∷
    "= 13" ∷
    "1 ExchangeStates c2 g0 w0 p0@0{1,2,3} a0 v- y- r[] o[] x{} b0" ∷
    "2 ExchangeStates c2 g0 w0 p0@0{1,2,3} a1 v- y- r[] o[] x{} b1" ∷
    "3 ExchangeStates c2 g0 w0 p0@0{1,2,3} a1 v- y- r[] o[] x{} b0" ∷
    "= 15" ∷
    "1 Construct c2 g0 w0 p0@0{1,2,3} a2 v2/0{1,2,3}{1} y- r[] o[] x{} b0" ∷
    "= 16" ∷
    "2 Construct c2 g0 w0 p0@0{1,2,3} a2 v2/0{1,2,3}{2} y- r[] o[] x{} b1" ∷
    "= 17" ∷
    "3 Construct c2 g0 w0 p0@0{1,2,3} a2 v2/0{1,2,3}{3} y- r[] o[] x{} b0" ∷
    "= 19" ∷
    "1 RegPrim c2 g0 w0 p1@2{1,2,3} a0 v2/0{1,2,3}{1} y- r[] o[] x{} b0" ∷
    "= 20" ∷
    "made 2:1 put \"x\" 1" ∷
    "2 RegPrim c2 g0 w0 p1@2{1,2,3} a0 v2/0{1,2,3}{2} y- r[] o[2:1] x{} b0" ∷
    "= 21" ∷
    "3 RegPrim c2 g0 w0 p1@2{1,2,3} a0 v2/0{1,2,3}{3} y- r[] o[] x{} b0" ∷
    "= 23" ∷
    "order 1 2:1" ∷
    "1 RegPrim c2 g1 w0 p1@2{1,2,3} a0 v2/0{1,2,3}{1} y- r[] o[] x{} b0" ∷
    "= 24" ∷
    "2 RegPrim c2 g1 w0 p1@2{1,2,3} a0 v2/0{1,2,3}{2} y- r[] o[] x{} b0" ∷
    "reply 2:1 done" ∷
    "= 25" ∷
    "3 RegPrim c2 g1 w0 p1@2{1,2,3} a0 v2/0{1,2,3}{3} y- r[] o[] x{} b0" ∷
    "= 27" ∷
    "all [2:1]" ∷
    "end 27" ∷
    [])
unfolding cases_compute
stop_inside_call_01_with_one_byte_of_one = refl

-- A crash inside a device call leaves the state before or after its commit, and the run goes on to the same end.
stop_inside_call_02_with_no_bytes :
    replayed_text (
    "start 1 2 3" ∷
    "stop 1 2 -" ∷
    "merge 1 2 3" ∷
    "rounds 2" ∷
    "request 2 put \"x\" 1" ∷
    "rounds 1" ∷
    "recover 1" ∷
    "split 2 3" ∷
    "merge 1 2 3" ∷
    "rounds 4" ∷
    "show order" ∷
    "end" ∷
    [])
    ≡ written (
    "= 1" ∷
    "1 NonPrim - g0 w0 p0@0{1,2,3} a0 v- y- r[] o[] x{} b0" ∷
    "2 NonPrim - g0 w0 p0@0{1,2,3} a0 v- y- r[] o[] x{} b0" ∷
    "3 NonPrim - g0 w0 p0@0{1,2,3} a0 v- y- r[] o[] x{} b0" ∷
    "= 3" ∷
    "1 ExchangeStates c1 g0 w0 p0@0{1,2,3} a0 v- y- r[] o[] x{} b0" ∷
    "2 ExchangeStates c1 g0 w0 p0@0{1,2,3} a0 v- y- r[] o[] x{} b0" ∷
    "3 ExchangeStates c1 g0 w0 p0@0{1,2,3} a0 v- y- r[] o[] x{} b0" ∷
    "= 5" ∷
    "1 Down" ∷
    "= 6" ∷
    "2 Construct c1 g0 w0 p0@0{1,2,3} a1 v1/0{1,2,3}{2} y- r[] o[] x{} b0" ∷
    "= 7" ∷
    "3 Construct c1 g0 w0 p0@0{1,2,3} a1 v1/0{1,2,3}{3} y- r[] o[] x{} b0" ∷
    "= 9" ∷
    "2 Construct c1 g0 w0 p0@0{1,2,3} a1 v1/0{1,2,3}{2} y- r[] o[] x{} b1" ∷
    "= 11" ∷
    "1 NonPrim - g0 w0 p0@0{1,2,3} a0 v- y- r[] o[] x{} b0" ∷
    "= 12" ∷
    "2 No t1 g0 w0 p0@0{1,2,3} a1 v1/0{1,2,3}{2} y- r[] o[] x{} b1" ∷
    "3 No t1 g0 w0 p0@0{1,2,3} a1 v1/0{1,2,3}{3} y- r[] o[] x{} b0" ∷
    "= 13" ∷
    "1 ExchangeStates c2 g0 w0 p0@0{1,2,3} a0 v- y- r[] o[] x{} b0" ∷
    "2 ExchangeStates c2 g0 w0 p0@0{1,2,3} a1 v- y- r[] o[] x{} b1" ∷
    "3 ExchangeStates c2 g0 w0 p0@0{1,2,3} a1 v- y- r[] o[] x{} b0" ∷
    "= 15" ∷
    "1 Construct c2 g0 w0 p0@0{1,2,3} a2 v2/0{1,2,3}{1} y- r[] o[] x{} b0" ∷
    "= 16" ∷
    "2 Construct c2 g0 w0 p0@0{1,2,3} a2 v2/0{1,2,3}{2} y- r[] o[] x{} b1" ∷
    "= 17" ∷
    "3 Construct c2 g0 w0 p0@0{1,2,3} a2 v2/0{1,2,3}{3} y- r[] o[] x{} b0" ∷
    "= 19" ∷
    "1 RegPrim c2 g0 w0 p1@2{1,2,3} a0 v2/0{1,2,3}{1} y- r[] o[] x{} b0" ∷
    "= 20" ∷
    "made 2:1 put \"x\" 1" ∷
    "2 RegPrim c2 g0 w0 p1@2{1,2,3} a0 v2/0{1,2,3}{2} y- r[] o[2:1] x{} b0" ∷
    "= 21" ∷
    "3 RegPrim c2 g0 w0 p1@2{1,2,3} a0 v2/0{1,2,3}{3} y- r[] o[] x{} b0" ∷
    "= 23" ∷
    "order 1 2:1" ∷
    "1 RegPrim c2 g1 w0 p1@2{1,2,3} a0 v2/0{1,2,3}{1} y- r[] o[] x{} b0" ∷
    "= 24" ∷
    "2 RegPrim c2 g1 w0 p1@2{1,2,3} a0 v2/0{1,2,3}{2} y- r[] o[] x{} b0" ∷
    "reply 2:1 done" ∷
    "= 25" ∷
    "3 RegPrim c2 g1 w0 p1@2{1,2,3} a0 v2/0{1,2,3}{3} y- r[] o[] x{} b0" ∷
    "= 27" ∷
    "all [2:1]" ∷
    "end 27" ∷
    [])
unfolding cases_compute
stop_inside_call_02_with_no_bytes = refl

-- A crash inside a device call leaves the state before or after its commit, and the run goes on to the same end.
stop_inside_call_02_with_one_byte_of_one :
    replayed_text (
    "start 1 2 3" ∷
    "stop 1 2 01" ∷
    "merge 1 2 3" ∷
    "rounds 2" ∷
    "request 2 put \"x\" 1" ∷
    "rounds 1" ∷
    "recover 1" ∷
    "split 2 3" ∷
    "merge 1 2 3" ∷
    "rounds 4" ∷
    "show order" ∷
    "end" ∷
    [])
    ≡ written (
    "= 1" ∷
    "1 NonPrim - g0 w0 p0@0{1,2,3} a0 v- y- r[] o[] x{} b0" ∷
    "2 NonPrim - g0 w0 p0@0{1,2,3} a0 v- y- r[] o[] x{} b0" ∷
    "3 NonPrim - g0 w0 p0@0{1,2,3} a0 v- y- r[] o[] x{} b0" ∷
    "= 3" ∷
    "1 ExchangeStates c1 g0 w0 p0@0{1,2,3} a0 v- y- r[] o[] x{} b0" ∷
    "2 ExchangeStates c1 g0 w0 p0@0{1,2,3} a0 v- y- r[] o[] x{} b0" ∷
    "3 ExchangeStates c1 g0 w0 p0@0{1,2,3} a0 v- y- r[] o[] x{} b0" ∷
    "= 5" ∷
    "1 Down" ∷
    "= 6" ∷
    "2 Construct c1 g0 w0 p0@0{1,2,3} a1 v1/0{1,2,3}{2} y- r[] o[] x{} b0" ∷
    "= 7" ∷
    "3 Construct c1 g0 w0 p0@0{1,2,3} a1 v1/0{1,2,3}{3} y- r[] o[] x{} b0" ∷
    "= 9" ∷
    "2 Construct c1 g0 w0 p0@0{1,2,3} a1 v1/0{1,2,3}{2} y- r[] o[] x{} b1" ∷
    "= 11" ∷
    "1 NonPrim - g0 w0 p0@0{1,2,3} a0 v- y- r[] o[] x{} b0" ∷
    "= 12" ∷
    "2 No t1 g0 w0 p0@0{1,2,3} a1 v1/0{1,2,3}{2} y- r[] o[] x{} b1" ∷
    "3 No t1 g0 w0 p0@0{1,2,3} a1 v1/0{1,2,3}{3} y- r[] o[] x{} b0" ∷
    "= 13" ∷
    "1 ExchangeStates c2 g0 w0 p0@0{1,2,3} a0 v- y- r[] o[] x{} b0" ∷
    "2 ExchangeStates c2 g0 w0 p0@0{1,2,3} a1 v- y- r[] o[] x{} b1" ∷
    "3 ExchangeStates c2 g0 w0 p0@0{1,2,3} a1 v- y- r[] o[] x{} b0" ∷
    "= 15" ∷
    "1 Construct c2 g0 w0 p0@0{1,2,3} a2 v2/0{1,2,3}{1} y- r[] o[] x{} b0" ∷
    "= 16" ∷
    "2 Construct c2 g0 w0 p0@0{1,2,3} a2 v2/0{1,2,3}{2} y- r[] o[] x{} b1" ∷
    "= 17" ∷
    "3 Construct c2 g0 w0 p0@0{1,2,3} a2 v2/0{1,2,3}{3} y- r[] o[] x{} b0" ∷
    "= 19" ∷
    "1 RegPrim c2 g0 w0 p1@2{1,2,3} a0 v2/0{1,2,3}{1} y- r[] o[] x{} b0" ∷
    "= 20" ∷
    "made 2:1 put \"x\" 1" ∷
    "2 RegPrim c2 g0 w0 p1@2{1,2,3} a0 v2/0{1,2,3}{2} y- r[] o[2:1] x{} b0" ∷
    "= 21" ∷
    "3 RegPrim c2 g0 w0 p1@2{1,2,3} a0 v2/0{1,2,3}{3} y- r[] o[] x{} b0" ∷
    "= 23" ∷
    "order 1 2:1" ∷
    "1 RegPrim c2 g1 w0 p1@2{1,2,3} a0 v2/0{1,2,3}{1} y- r[] o[] x{} b0" ∷
    "= 24" ∷
    "2 RegPrim c2 g1 w0 p1@2{1,2,3} a0 v2/0{1,2,3}{2} y- r[] o[] x{} b0" ∷
    "reply 2:1 done" ∷
    "= 25" ∷
    "3 RegPrim c2 g1 w0 p1@2{1,2,3} a0 v2/0{1,2,3}{3} y- r[] o[] x{} b0" ∷
    "= 27" ∷
    "all [2:1]" ∷
    "end 27" ∷
    [])
unfolding cases_compute
stop_inside_call_02_with_one_byte_of_one = refl

-- A crash inside a device call leaves the state before or after its commit, and the run goes on to the same end.
stop_inside_call_03_with_no_bytes :
    replayed_text (
    "start 1 2 3" ∷
    "stop 1 3 -" ∷
    "merge 1 2 3" ∷
    "rounds 2" ∷
    "request 2 put \"x\" 1" ∷
    "rounds 1" ∷
    "recover 1" ∷
    "split 2 3" ∷
    "merge 1 2 3" ∷
    "rounds 4" ∷
    "show order" ∷
    "end" ∷
    [])
    ≡ written (
    "= 1" ∷
    "1 NonPrim - g0 w0 p0@0{1,2,3} a0 v- y- r[] o[] x{} b0" ∷
    "2 NonPrim - g0 w0 p0@0{1,2,3} a0 v- y- r[] o[] x{} b0" ∷
    "3 NonPrim - g0 w0 p0@0{1,2,3} a0 v- y- r[] o[] x{} b0" ∷
    "= 3" ∷
    "1 ExchangeStates c1 g0 w0 p0@0{1,2,3} a0 v- y- r[] o[] x{} b0" ∷
    "2 ExchangeStates c1 g0 w0 p0@0{1,2,3} a0 v- y- r[] o[] x{} b0" ∷
    "3 ExchangeStates c1 g0 w0 p0@0{1,2,3} a0 v- y- r[] o[] x{} b0" ∷
    "= 5" ∷
    "1 Down" ∷
    "= 6" ∷
    "2 Construct c1 g0 w0 p0@0{1,2,3} a1 v1/0{1,2,3}{2} y- r[] o[] x{} b0" ∷
    "= 7" ∷
    "3 Construct c1 g0 w0 p0@0{1,2,3} a1 v1/0{1,2,3}{3} y- r[] o[] x{} b0" ∷
    "= 9" ∷
    "2 Construct c1 g0 w0 p0@0{1,2,3} a1 v1/0{1,2,3}{2} y- r[] o[] x{} b1" ∷
    "= 11" ∷
    "1 NonPrim - g0 w0 p0@0{1,2,3} a0 v- y- r[] o[] x{} b0" ∷
    "= 12" ∷
    "2 No t1 g0 w0 p0@0{1,2,3} a1 v1/0{1,2,3}{2} y- r[] o[] x{} b1" ∷
    "3 No t1 g0 w0 p0@0{1,2,3} a1 v1/0{1,2,3}{3} y- r[] o[] x{} b0" ∷
    "= 13" ∷
    "1 ExchangeStates c2 g0 w0 p0@0{1,2,3} a0 v- y- r[] o[] x{} b0" ∷
    "2 ExchangeStates c2 g0 w0 p0@0{1,2,3} a1 v- y- r[] o[] x{} b1" ∷
    "3 ExchangeStates c2 g0 w0 p0@0{1,2,3} a1 v- y- r[] o[] x{} b0" ∷
    "= 15" ∷
    "1 Construct c2 g0 w0 p0@0{1,2,3} a2 v2/0{1,2,3}{1} y- r[] o[] x{} b0" ∷
    "= 16" ∷
    "2 Construct c2 g0 w0 p0@0{1,2,3} a2 v2/0{1,2,3}{2} y- r[] o[] x{} b1" ∷
    "= 17" ∷
    "3 Construct c2 g0 w0 p0@0{1,2,3} a2 v2/0{1,2,3}{3} y- r[] o[] x{} b0" ∷
    "= 19" ∷
    "1 RegPrim c2 g0 w0 p1@2{1,2,3} a0 v2/0{1,2,3}{1} y- r[] o[] x{} b0" ∷
    "= 20" ∷
    "made 2:1 put \"x\" 1" ∷
    "2 RegPrim c2 g0 w0 p1@2{1,2,3} a0 v2/0{1,2,3}{2} y- r[] o[2:1] x{} b0" ∷
    "= 21" ∷
    "3 RegPrim c2 g0 w0 p1@2{1,2,3} a0 v2/0{1,2,3}{3} y- r[] o[] x{} b0" ∷
    "= 23" ∷
    "order 1 2:1" ∷
    "1 RegPrim c2 g1 w0 p1@2{1,2,3} a0 v2/0{1,2,3}{1} y- r[] o[] x{} b0" ∷
    "= 24" ∷
    "2 RegPrim c2 g1 w0 p1@2{1,2,3} a0 v2/0{1,2,3}{2} y- r[] o[] x{} b0" ∷
    "reply 2:1 done" ∷
    "= 25" ∷
    "3 RegPrim c2 g1 w0 p1@2{1,2,3} a0 v2/0{1,2,3}{3} y- r[] o[] x{} b0" ∷
    "= 27" ∷
    "all [2:1]" ∷
    "end 27" ∷
    [])
unfolding cases_compute
stop_inside_call_03_with_no_bytes = refl
