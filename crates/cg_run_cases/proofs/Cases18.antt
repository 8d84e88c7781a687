-- Cases of cases/ with their whole reports, which `.ci/theorems` writes down here.
use Rattle.std.specs.Prelude.{◌≡◌, [], ◌∷◌}
use mathlib.Core.Path.{refl}
use Rattle.cg_run_cases.specs.Replaying.{replayed_text, written}
use Rattle.cg_run_cases.specs.Computing.{cases_compute}

-- A member that is Left need not be named by a merge.
merge_without_a_member_that_left_c :
    replayed_text (
    "start 1 2 3 4 5 6" ∷
    "merge 1 2 3 4 5 6" ∷
    "rounds 3" ∷
    "request 6 need \"y\" 11; inc \"abc\" -2" ∷
    "leave 5 1" ∷
    "gather" ∷
    "deliver 5 2" ∷
    "split 1 2 3 4 5 6" ∷
    "merge 1 2 3 4 5 6" ∷
    "rounds 2" ∷
    "split 1 2 3 4 6" ∷
    "merge 2 3 4 6" ∷
    "end" ∷
    [])
    ≡ written (
    "= 1" ∷
    "1 NonPrim - g0 w0 p0@0{1,2,3,4,5,6} a0 v- y- r[] o[] x{} b0" ∷
    "2 NonPrim - g0 w0 p0@0{1,2,3,4,5,6} a0 v- y- r[] o[] x{} b0" ∷
    "3 NonPrim - g0 w0 p0@0{1,2,3,4,5,6} a0 v- y- r[] o[] x{} b0" ∷
    "4 NonPrim - g0 w0 p0@0{1,2,3,4,5,6} a0 v- y- r[] o[] x{} b0" ∷
    "5 NonPrim - g0 w0 p0@0{1,2,3,4,5,6} a0 v- y- r[] o[] x{} b0" ∷
    "6 NonPrim - g0 w0 p0@0{1,2,3,4,5,6} a0 v- y- r[] o[] x{} b0" ∷
    "= 2" ∷
    "1 ExchangeStates c1 g0 w0 p0@0{1,2,3,4,5,6} a0 v- y- r[] o[] x{} b0" ∷
    "2 ExchangeStates c1 g0 w0 p0@0{1,2,3,4,5,6} a0 v- y- r[] o[] x{} b0" ∷
    "3 ExchangeStates c1 g0 w0 p0@0{1,2,3,4,5,6} a0 v- y- r[] o[] x{} b0" ∷
    "4 ExchangeStates c1 g0 w0 p0@0{1,2,3,4,5,6} a0 v- y- r[] o[] x{} b0" ∷
    "5 ExchangeStates c1 g0 w0 p0@0{1,2,3,4,5,6} a0 v- y- r[] o[] x{} b0" ∷
    "6 ExchangeStates c1 g0 w0 p0@0{1,2,3,4,5,6} a0 v- y- r[] o[] x{} b0" ∷
    "= 4" ∷
    "1 Construct c1 g0 w0 p0@0{1,2,3,4,5,6} a1 v1/0{1,2,3,4,5,6}{1} y- r[] o[] x{} b0" ∷
    "= 5" ∷
    "2 Construct c1 g0 w0 p0@0{1,2,3,4,5,6} a1 v1/0{1,2,3,4,5,6}{2} y- r[] o[] x{} b0" ∷
    "= 6" ∷
    "3 Construct c1 g0 w0 p0@0{1,2,3,4,5,6} a1 v1/0{1,2,3,4,5,6}{3} y- r[] o[] x{} b0" ∷
    "= 7" ∷
    "4 Construct c1 g0 w0 p0@0{1,2,3,4,5,6} a1 v1/0{1,2,3,4,5,6}{4} y- r[] o[] x{} b0" ∷
    "= 8" ∷
    "5 Construct c1 g0 w0 p0@0{1,2,3,4,5,6} a1 v1/0{1,2,3,4,5,6}{5} y- r[] o[] x{} b0" ∷
    "= 9" ∷
    "6 Construct c1 g0 w0 p0@0{1,2,3,4,5,6} a1 v1/0{1,2,3,4,5,6}{6} y- r[] o[] x{} b0" ∷
    "= 11" ∷
    "1 RegPrim c1 g0 w0 p1@1{1,2,3,4,5,6} a0 v1/0{1,2,3,4,5,6}{1} y- r[] o[] x{} b0" ∷
    "= 12" ∷
    "2 RegPrim c1 g0 w0 p1@1{1,2,3,4,5,6} a0 v1/0{1,2,3,4,5,6}{2} y- r[] o[] x{} b0" ∷
    "= 13" ∷
    "3 RegPrim c1 g0 w0 p1@1{1,2,3,4,5,6} a0 v1/0{1,2,3,4,5,6}{3} y- r[] o[] x{} b0" ∷
    "= 14" ∷
    "4 RegPrim c1 g0 w0 p1@1{1,2,3,4,5,6} a0 v1/0{1,2,3,4,5,6}{4} y- r[] o[] x{} b0" ∷
    "= 15" ∷
    "5 RegPrim c1 g0 w0 p1@1{1,2,3,4,5,6} a0 v1/0{1,2,3,4,5,6}{5} y- r[] o[] x{} b0" ∷
    "= 16" ∷
    "6 RegPrim c1 g0 w0 p1@1{1,2,3,4,5,6} a0 v1/0{1,2,3,4,5,6}{6} y- r[] o[] x{} b0" ∷
    "= 18" ∷
    "made 6:1 need \"y\" 11; inc \"abc\" -2" ∷
    "6 RegPrim c1 g0 w0 p1@1{1,2,3,4,5,6} a0 v1/0{1,2,3,4,5,6}{6} y- r[] o[6:1] x{} b0" ∷
    "= 19" ∷
    "made 5:1 leave 1" ∷
    "5 RegPrim c1 g0 w0 p1@1{1,2,3,4,5,6} a0 v1/0{1,2,3,4,5,6}{5} y- r[] o[5:1] x{} b0" ∷
    "= 21" ∷
    "order 1 5:1" ∷
    "order 2 6:1" ∷
    "5 RegPrim c1 g2 w0 p1@1{1,2,3,4,5,6} a0 v1/0{1,2,3,4,5,6}{5} y- r[] o[] x{1} b0" ∷
    "reply 5:1 done" ∷
    "= 22" ∷
    "1 TransPrim t1 g2 w0 p1@1{1,2,3,4,5,6} a0 v1/0{1,2,3,4,5,6}{1} y- r[] o[] x{1} b0" ∷
    "2 TransPrim t1 g2 w0 p1@1{1,2,3,4,5,6} a0 v1/0{1,2,3,4,5,6}{2} y- r[] o[] x{1} b0" ∷
    "3 TransPrim t1 g2 w0 p1@1{1,2,3,4,5,6} a0 v1/0{1,2,3,4,5,6}{3} y- r[] o[] x{1} b0" ∷
    "4 TransPrim t1 g2 w0 p1@1{1,2,3,4,5,6} a0 v1/0{1,2,3,4,5,6}{4} y- r[] o[] x{1} b0" ∷
    "5 TransPrim t1 g2 w0 p1@1{1,2,3,4,5,6} a0 v1/0{1,2,3,4,5,6}{5} y- r[] o[] x{1} b0" ∷
    "6 TransPrim t1 g2 w0 p1@1{1,2,3,4,5,6} a0 v1/0{1,2,3,4,5,6}{6} y- r[] o[] x{1} b0" ∷
    "reply 6:1 aborted 1" ∷
    "= 23" ∷
    "1 ExchangeStates c2 g2 w0 p1@1{1,2,3,4,5,6} a0 v- y![] r[] o[] x{1} b0" ∷
    "2 ExchangeStates c2 g2 w0 p1@1{1,2,3,4,5,6} a0 v- y![] r[] o[] x{1} b0" ∷
    "3 ExchangeStates c2 g2 w0 p1@1{1,2,3,4,5,6} a0 v- y![] r[] o[] x{1} b0" ∷
    "4 ExchangeStates c2 g2 w0 p1@1{1,2,3,4,5,6} a0 v- y![] r[] o[] x{1} b0" ∷
    "5 ExchangeStates c2 g2 w0 p1@1{1,2,3,4,5,6} a0 v- y![] r[] o[] x{1} b0" ∷
    "6 ExchangeStates c2 g2 w0 p1@1{1,2,3,4,5,6} a0 v- y![] r[] o[] x{1} b0" ∷
    "= 25" ∷
    "1 Left c2 g2 w0 p1@1{1,2,3,4,5,6} a0 v- y![] r[] o[] x{1} b0" ∷
    "= 26" ∷
    "2 Construct c2 g2 w0 p1@1{1,2,3,4,5,6} a1 v2/1{2,3,4,5,6}{2} y![] r[] o[] x{1} b0" ∷
    "= 27" ∷
    "3 Construct c2 g2 w0 p1@1{1,2,3,4,5,6} a1 v2/1{2,3,4,5,6}{3} y![] r[] o[] x{1} b0" ∷
    "= 28" ∷
    "4 Construct c2 g2 w0 p1@1{1,2,3,4,5,6} a1 v2/1{2,3,4,5,6}{4} y![] r[] o[] x{1} b0" ∷
    "= 29" ∷
    "5 Construct c2 g2 w0 p1@1{1,2,3,4,5,6} a1 v2/1{2,3,4,5,6}{5} y![] r[] o[] x{1} b0" ∷
    "= 30" ∷
    "6 Construct c2 g2 w0 p1@1{1,2,3,4,5,6} a1 v2/1{2,3,4,5,6}{6} y![] r[] o[] x{1} b0" ∷
    "= 33" ∷
    "2 RegPrim c2 g2 w0 p2@2{2,3,4,5,6} a0 v2/1{2,3,4,5,6}{2} y- r[] o[] x{1} b0" ∷
    "= 34" ∷
    "3 RegPrim c2 g2 w0 p2@2{2,3,4,5,6} a0 v2/1{2,3,4,5,6}{3} y- r[] o[] x{1} b0" ∷
    "= 35" ∷
    "4 RegPrim c2 g2 w0 p2@2{2,3,4,5,6} a0 v2/1{2,3,4,5,6}{4} y- r[] o[] x{1} b0" ∷
    "= 36" ∷
    "5 RegPrim c2 g2 w0 p2@2{2,3,4,5,6} a0 v2/1{2,3,4,5,6}{5} y- r[] o[] x{1} b0" ∷
    "= 37" ∷
    "6 RegPrim c2 g2 w0 p2@2{2,3,4,5,6} a0 v2/1{2,3,4,5,6}{6} y- r[] o[] x{1} b0" ∷
    "= 38" ∷
    "1 Left t2 g2 w0 p1@1{1,2,3,4,5,6} a0 v- y![] r[] o[] x{1} b0" ∷
    "2 TransPrim t2 g2 w0 p2@2{2,3,4,5,6} a0 v2/1{2,3,4,5,6}{2} y- r[] o[] x{1} b0" ∷
    "3 TransPrim t2 g2 w0 p2@2{2,3,4,5,6} a0 v2/1{2,3,4,5,6}{3} y- r[] o[] x{1} b0" ∷
    "4 TransPrim t2 g2 w0 p2@2{2,3,4,5,6} a0 v2/1{2,3,4,5,6}{4} y- r[] o[] x{1} b0" ∷
    "6 TransPrim t2 g2 w0 p2@2{2,3,4,5,6} a0 v2/1{2,3,4,5,6}{6} y- r[] o[] x{1} b0" ∷
    "= 39" ∷
    "2 ExchangeStates c3 g2 w0 p2@2{2,3,4,5,6} a0 v- y![] r[] o[] x{1} b0" ∷
    "3 ExchangeStates c3 g2 w0 p2@2{2,3,4,5,6} a0 v- y![] r[] o[] x{1} b0" ∷
    "4 ExchangeStates c3 g2 w0 p2@2{2,3,4,5,6} a0 v- y![] r[] o[] x{1} b0" ∷
    "6 ExchangeStates c3 g2 w0 p2@2{2,3,4,5,6} a0 v- y![] r[] o[] x{1} b0" ∷
    "end 39" ∷
    [])
unfolding cases_compute
merge_without_a_member_that_left_c = refl

-- A disk of the older format with red and own actions, whose migration is struck, is migrated again.
migration_with_reds_and_own_inside_call_06_with_00 :
    replayed_text (
    "start 1 2 3" ∷
    "merge 1 2 3" ∷
    "rounds 2" ∷
    "request 1 put \"x\" 1" ∷
    "request 2 put \"y\" 2" ∷
    "rounds 1" ∷
    "split 1" ∷
    "split 2 3" ∷
    "merge 1" ∷
    "merge 2 3" ∷
    "rounds 2" ∷
    "request 1 inc \"x\" 5" ∷
    "rounds 1" ∷
    "request 1 put \"own\" \"o\"" ∷
    "stop 1 0 -" ∷
    "downgrade 1" ∷
    "recover 1 6 00" ∷
    "recover 1 5 01" ∷
    "recover 1" ∷
    "show 1" ∷
    "split 2 3" ∷
    "merge 1 2 3" ∷
    "rounds 4" ∷
    "show 3" ∷
    "show order" ∷
    "end" ∷
    [])
    ≡ written (
    "= 1" ∷
    "1 NonPrim - g0 w0 p0@0{1,2,3} a0 v- y- r[] o[] x{} b0" ∷
    "2 NonPrim - g0 w0 p0@0{1,2,3} a0 v- y- r[] o[] x{} b0" ∷
    "3 NonPrim - g0 w0 p0@0{1,2,3} a0 v- y- r[] o[] x{} b0" ∷
    "= 2" ∷
    "1 ExchangeStates c1 g0 w0 p0@0{1,2,3} a0 v- y- r[] o[] x{} b0" ∷
    "2 ExchangeStates c1 g0 w0 p0@0{1,2,3} a0 v- y- r[] o[] x{} b0" ∷
    "3 ExchangeStates c1 g0 w0 p0@0{1,2,3} a0 v- y- r[] o[] x{} b0" ∷
    "= 4" ∷
    "1 Construct c1 g0 w0 p0@0{1,2,3} a1 v1/0{1,2,3}{1} y- r[] o[] x{} b0" ∷
    "= 5" ∷
    "2 Construct c1 g0 w0 p0@0{1,2,3} a1 v1/0{1,2,3}{2} y- r[] o[] x{} b0" ∷
    "= 6" ∷
    "3 Construct c1 g0 w0 p0@0{1,2,3} a1 v1/0{1,2,3}{3} y- r[] o[] x{} b0" ∷
    "= 8" ∷
    "1 RegPrim c1 g0 w0 p1@1{1,2,3} a0 v1/0{1,2,3}{1} y- r[] o[] x{} b0" ∷
    "= 9" ∷
    "2 RegPrim c1 g0 w0 p1@1{1,2,3} a0 v1/0{1,2,3}{2} y- r[] o[] x{} b0" ∷
    "= 10" ∷
    "3 RegPrim c1 g0 w0 p1@1{1,2,3} a0 v1/0{1,2,3}{3} y- r[] o[] x{} b0" ∷
    "= 11" ∷
    "made 1:1 put \"x\" 1" ∷
    "1 RegPrim c1 g0 w0 p1@1{1,2,3} a0 v1/0{1,2,3}{1} y- r[] o[1:1] x{} b0" ∷
    "= 12" ∷
    "made 2:1 put \"y\" 2" ∷
    "2 RegPrim c1 g0 w0 p1@1{1,2,3} a0 v1/0{1,2,3}{2} y- r[] o[2:1] x{} b0" ∷
    "= 14" ∷
    "order 1 1:1" ∷
    "order 2 2:1" ∷
    "1 RegPrim c1 g2 w0 p1@1{1,2,3} a0 v1/0{1,2,3}{1} y- r[] o[] x{} b0" ∷
    "reply 1:1 done" ∷
    "= 15" ∷
    "2 RegPrim c1 g2 w0 p1@1{1,2,3} a0 v1/0{1,2,3}{2} y- r[] o[] x{} b0" ∷
    "reply 2:1 done" ∷
    "= 16" ∷
    "3 RegPrim c1 g2 w0 p1@1{1,2,3} a0 v1/0{1,2,3}{3} y- r[] o[] x{} b0" ∷
    "= 17" ∷
    "1 TransPrim t1 g2 w0 p1@1{1,2,3} a0 v1/0{1,2,3}{1} y- r[] o[] x{} b0" ∷
    "= 18" ∷
    "2 TransPrim t1 g2 w0 p1@1{1,2,3} a0 v1/0{1,2,3}{2} y- r[] o[] x{} b0" ∷
    "3 TransPrim t1 g2 w0 p1@1{1,2,3} a0 v1/0{1,2,3}{3} y- r[] o[] x{} b0" ∷
    "= 19" ∷
    "1 ExchangeStates c2 g2 w0 p1@1{1,2,3} a0 v- y![] r[] o[] x{} b0" ∷
    "= 20" ∷
    "2 ExchangeStates c3 g2 w0 p1@1{1,2,3} a0 v- y![] r[] o[] x{} b0" ∷
    "3 ExchangeStates c3 g2 w0 p1@1{1,2,3} a0 v- y![] r[] o[] x{} b0" ∷
    "= 22" ∷
    "1 NonPrim c2 g2 w0 p1@1{1,2,3} a0 v- y![] r[] o[] x{} b0" ∷
    "= 23" ∷
    "2 Construct c3 g2 w0 p1@1{1,2,3} a1 v3/1{2,3}{2} y![] r[] o[] x{} b0" ∷
    "= 24" ∷
    "3 Construct c3 g2 w0 p1@1{1,2,3} a1 v3/1{2,3}{3} y![] r[] o[] x{} b0" ∷
    "= 26" ∷
    "2 RegPrim c3 g2 w0 p2@3{2,3} a0 v3/1{2,3}{2} y- r[] o[] x{} b0" ∷
    "= 27" ∷
    "3 RegPrim c3 g2 w0 p2@3{2,3} a0 v3/1{2,3}{3} y- r[] o[] x{} b0" ∷
    "= 28" ∷
    "made 1:2 inc \"x\" 5" ∷
    "1 NonPrim c2 g2 w0 p1@1{1,2,3} a0 v- y![] r[] o[1:2] x{} b0" ∷
    "= 30" ∷
    "1 NonPrim c2 g2 w0 p1@1{1,2,3} a0 v- y![] r[1:2] o[] x{} b0" ∷
    "= 31" ∷
    "made 1:3 put \"own\" \"o\"" ∷
    "1 NonPrim c2 g2 w0 p1@1{1,2,3} a0 v- y![] r[1:2] o[1:3] x{} b0" ∷
    "= 32" ∷
    "1 Down" ∷
    "= 36" ∷
    "1 NonPrim - g2 w0 p1@1{1,2,3} a0 v- y![] r[1:2,1:3] o[] x{} b0" ∷
    "= 37" ∷
    "greens 1 [1:1,2:1]" ∷
    "db 1 \"x\"=1 \"y\"=2" ∷
    "= 38" ∷
    "2 TransPrim t3 g2 w0 p2@3{2,3} a0 v3/1{2,3}{2} y- r[] o[] x{} b0" ∷
    "3 TransPrim t3 g2 w0 p2@3{2,3} a0 v3/1{2,3}{3} y- r[] o[] x{} b0" ∷
    "= 39" ∷
    "1 ExchangeStates c4 g2 w0 p1@1{1,2,3} a0 v- y![] r[1:2,1:3] o[] x{} b0" ∷
    "2 ExchangeStates c4 g2 w0 p2@3{2,3} a0 v- y![] r[] o[] x{} b0" ∷
    "3 ExchangeStates c4 g2 w0 p2@3{2,3} a0 v- y![] r[] o[] x{} b0" ∷
    "= 41" ∷
    "1 ExchangeActions c4 g2 w0 p1@1{1,2,3} a0 v- y![] r[1:2,1:3] o[] x{} b0" ∷
    "= 42" ∷
    "2 ExchangeActions c4 g2 w0 p2@3{2,3} a0 v- y![] r[] o[] x{} b0" ∷
    "= 43" ∷
    "3 ExchangeActions c4 g2 w0 p2@3{2,3} a0 v- y![] r[] o[] x{} b0" ∷
    "= 45" ∷
    "1 Construct c4 g2 w0 p2@3{2,3} a1 v4/2{1,2,3}{1} y![] r[1:2,1:3] o[] x{} b0" ∷
    "= 46" ∷
    "2 Construct c4 g2 w0 p2@3{2,3} a1 v4/2{1,2,3}{2} y![] r[1:2,1:3] o[] x{} b0" ∷
    "= 47" ∷
    "3 Construct c4 g2 w0 p2@3{2,3} a1 v4/2{1,2,3}{3} y![] r[1:2,1:3] o[] x{} b0" ∷
    "= 49" ∷
    "order 3 1:2" ∷
    "order 4 1:3" ∷
    "1 RegPrim c4 g4 w0 p3@4{1,2,3} a0 v4/2{1,2,3}{1} y- r[] o[] x{} b0" ∷
    "= 50" ∷
    "2 RegPrim c4 g4 w0 p3@4{1,2,3} a0 v4/2{1,2,3}{2} y- r[] o[] x{} b0" ∷
    "= 51" ∷
    "3 RegPrim c4 g4 w0 p3@4{1,2,3} a0 v4/2{1,2,3}{3} y- r[] o[] x{} b0" ∷
    "= 53" ∷
    "greens 3 [1:1,2:1,1:2,1:3]" ∷
    "db 3 \"own\"=\"o\" \"x\"=6 \"y\"=2" ∷
    "= 54" ∷
    "all [1:1,2:1,1:2,1:3]" ∷
    "end 54" ∷
    [])
unfolding cases_compute
migration_with_reds_and_own_inside_call_06_with_00 = refl

-- A disk of the older format with red and own actions, whose migration is struck, is migrated again.
migration_with_reds_and_own_inside_call_07_with_01 :
    replayed_text (
    "start 1 2 3" ∷
    "merge 1 2 3" ∷
    "rounds 2" ∷
    "request 1 put \"x\" 1" ∷
    "request 2 put \"y\" 2" ∷
    "rounds 1" ∷
    "split 1" ∷
    "split 2 3" ∷
    "merge 1" ∷
    "merge 2 3" ∷
    "rounds 2" ∷
    "request 1 inc \"x\" 5" ∷
    "rounds 1" ∷
    "request 1 put \"own\" \"o\"" ∷
    "stop 1 0 -" ∷
    "downgrade 1" ∷
    "recover 1 7 01" ∷
    "recover 1 6 01" ∷
    "recover 1" ∷
    "show 1" ∷
    "split 2 3" ∷
    "merge 1 2 3" ∷
    "rounds 4" ∷
    "show 3" ∷
    "show order" ∷
    "end" ∷
    [])
    ≡ written (
    "= 1" ∷
    "1 NonPrim - g0 w0 p0@0{1,2,3} a0 v- y- r[] o[] x{} b0" ∷
    "2 NonPrim - g0 w0 p0@0{1,2,3} a0 v- y- r[] o[] x{} b0" ∷
    "3 NonPrim - g0 w0 p0@0{1,2,3} a0 v- y- r[] o[] x{} b0" ∷
    "= 2" ∷
    "1 ExchangeStates c1 g0 w0 p0@0{1,2,3} a0 v- y- r[] o[] x{} b0" ∷
    "2 ExchangeStates c1 g0 w0 p0@0{1,2,3} a0 v- y- r[] o[] x{} b0" ∷
    "3 ExchangeStates c1 g0 w0 p0@0{1,2,3} a0 v- y- r[] o[] x{} b0" ∷
    "= 4" ∷
    "1 Construct c1 g0 w0 p0@0{1,2,3} a1 v1/0{1,2,3}{1} y- r[] o[] x{} b0" ∷
    "= 5" ∷
    "2 Construct c1 g0 w0 p0@0{1,2,3} a1 v1/0{1,2,3}{2} y- r[] o[] x{} b0" ∷
    "= 6" ∷
    "3 Construct c1 g0 w0 p0@0{1,2,3} a1 v1/0{1,2,3}{3} y- r[] o[] x{} b0" ∷
    "= 8" ∷
    "1 RegPrim c1 g0 w0 p1@1{1,2,3} a0 v1/0{1,2,3}{1} y- r[] o[] x{} b0" ∷
    "= 9" ∷
    "2 RegPrim c1 g0 w0 p1@1{1,2,3} a0 v1/0{1,2,3}{2} y- r[] o[] x{} b0" ∷
    "= 10" ∷
    "3 RegPrim c1 g0 w0 p1@1{1,2,3} a0 v1/0{1,2,3}{3} y- r[] o[] x{} b0" ∷
    "= 11" ∷
    "made 1:1 put \"x\" 1" ∷
    "1 RegPrim c1 g0 w0 p1@1{1,2,3} a0 v1/0{1,2,3}{1} y- r[] o[1:1] x{} b0" ∷
    "= 12" ∷
    "made 2:1 put \"y\" 2" ∷
    "2 RegPrim c1 g0 w0 p1@1{1,2,3} a0 v1/0{1,2,3}{2} y- r[] o[2:1] x{} b0" ∷
    "= 14" ∷
    "order 1 1:1" ∷
    "order 2 2:1" ∷
    "1 RegPrim c1 g2 w0 p1@1{1,2,3} a0 v1/0{1,2,3}{1} y- r[] o[] x{} b0" ∷
    "reply 1:1 done" ∷
    "= 15" ∷
    "2 RegPrim c1 g2 w0 p1@1{1,2,3} a0 v1/0{1,2,3}{2} y- r[] o[] x{} b0" ∷
    "reply 2:1 done" ∷
    "= 16" ∷
    "3 RegPrim c1 g2 w0 p1@1{1,2,3} a0 v1/0{1,2,3}{3} y- r[] o[] x{} b0" ∷
    "= 17" ∷
    "1 TransPrim t1 g2 w0 p1@1{1,2,3} a0 v1/0{1,2,3}{1} y- r[] o[] x{} b0" ∷
    "= 18" ∷
    "2 TransPrim t1 g2 w0 p1@1{1,2,3} a0 v1/0{1,2,3}{2} y- r[] o[] x{} b0" ∷
    "3 TransPrim t1 g2 w0 p1@1{1,2,3} a0 v1/0{1,2,3}{3} y- r[] o[] x{} b0" ∷
    "= 19" ∷
    "1 ExchangeStates c2 g2 w0 p1@1{1,2,3} a0 v- y![] r[] o[] x{} b0" ∷
    "= 20" ∷
    "2 ExchangeStates c3 g2 w0 p1@1{1,2,3} a0 v- y![] r[] o[] x{} b0" ∷
    "3 ExchangeStates c3 g2 w0 p1@1{1,2,3} a0 v- y![] r[] o[] x{} b0" ∷
    "= 22" ∷
    "1 NonPrim c2 g2 w0 p1@1{1,2,3} a0 v- y![] r[] o[] x{} b0" ∷
    "= 23" ∷
    "2 Construct c3 g2 w0 p1@1{1,2,3} a1 v3/1{2,3}{2} y![] r[] o[] x{} b0" ∷
    "= 24" ∷
    "3 Construct c3 g2 w0 p1@1{1,2,3} a1 v3/1{2,3}{3} y![] r[] o[] x{} b0" ∷
    "= 26" ∷
    "2 RegPrim c3 g2 w0 p2@3{2,3} a0 v3/1{2,3}{2} y- r[] o[] x{} b0" ∷
    "= 27" ∷
    "3 RegPrim c3 g2 w0 p2@3{2,3} a0 v3/1{2,3}{3} y- r[] o[] x{} b0" ∷
    "= 28" ∷
    "made 1:2 inc \"x\" 5" ∷
    "1 NonPrim c2 g2 w0 p1@1{1,2,3} a0 v- y![] r[] o[1:2] x{} b0" ∷
    "= 30" ∷
    "1 NonPrim c2 g2 w0 p1@1{1,2,3} a0 v- y![] r[1:2] o[] x{} b0" ∷
    "= 31" ∷
    "made 1:3 put \"own\" \"o\"" ∷
    "1 NonPrim c2 g2 w0 p1@1{1,2,3} a0 v- y![] r[1:2] o[1:3] x{} b0" ∷
    "= 32" ∷
    "1 Down" ∷
    "= 36" ∷
    "1 NonPrim - g2 w0 p1@1{1,2,3} a0 v- y![] r[1:2,1:3] o[] x{} b0" ∷
    "= 37" ∷
    "greens 1 [1:1,2:1]" ∷
    "db 1 \"x\"=1 \"y\"=2" ∷
    "= 38" ∷
    "2 TransPrim t3 g2 w0 p2@3{2,3} a0 v3/1{2,3}{2} y- r[] o[] x{} b0" ∷
    "3 TransPrim t3 g2 w0 p2@3{2,3} a0 v3/1{2,3}{3} y- r[] o[] x{} b0" ∷
    "= 39" ∷
    "1 ExchangeStates c4 g2 w0 p1@1{1,2,3} a0 v- y![] r[1:2,1:3] o[] x{} b0" ∷
    "2 ExchangeStates c4 g2 w0 p2@3{2,3} a0 v- y![] r[] o[] x{} b0" ∷
    "3 ExchangeStates c4 g2 w0 p2@3{2,3} a0 v- y![] r[] o[] x{} b0" ∷
    "= 41" ∷
    "1 ExchangeActions c4 g2 w0 p1@1{1,2,3} a0 v- y![] r[1:2,1:3] o[] x{} b0" ∷
    "= 42" ∷
    "2 ExchangeActions c4 g2 w0 p2@3{2,3} a0 v- y![] r[] o[] x{} b0" ∷
    "= 43" ∷
    "3 ExchangeActions c4 g2 w0 p2@3{2,3} a0 v- y![] r[] o[] x{} b0" ∷
    "= 45" ∷
    "1 Construct c4 g2 w0 p2@3{2,3} a1 v4/2{1,2,3}{1} y![] r[1:2,1:3] o[] x{} b0" ∷
    "= 46" ∷
    "2 Construct c4 g2 w0 p2@3{2,3} a1 v4/2{1,2,3}{2} y![] r[1:2,1:3] o[] x{} b0" ∷
    "= 47" ∷
    "3 Construct c4 g2 w0 p2@3{2,3} a1 v4/2{1,2,3}{3} y![] r[1:2,1:3] o[] x{} b0" ∷
    "= 49" ∷
    "order 3 1:2" ∷
    "order 4 1:3" ∷
    "1 RegPrim c4 g4 w0 p3@4{1,2,3} a0 v4/2{1,2,3}{1} y- r[] o[] x{} b0" ∷
    "= 50" ∷
    "2 RegPrim c4 g4 w0 p3@4{1,2,3} a0 v4/2{1,2,3}{2} y- r[] o[] x{} b0" ∷
    "= 51" ∷
    "3 RegPrim c4 g4 w0 p3@4{1,2,3} a0 v4/2{1,2,3}{3} y- r[] o[] x{} b0" ∷
    "= 53" ∷
    "greens 3 [1:1,2:1,1:2,1:3]" ∷
    "db 3 \"own\"=\"o\" \"x\"=6 \"y\"=2" ∷
    "= 54" ∷
    "all [1:1,2:1,1:2,1:3]" ∷
    "end 54" ∷
    [])
unfolding cases_compute
migration_with_reds_and_own_inside_call_07_with_01 = refl

-- A disk of the older format with red and own actions, whose migration is struck, is migrated again.
migration_with_reds_and_own_inside_call_08_with_43475255495459 :
    replayed_text (
    "start 1 2 3" ∷
    "merge 1 2 3" ∷
    "rounds 2" ∷
    "request 1 put \"x\" 1" ∷
    "request 2 put \"y\" 2" ∷
    "rounds 1" ∷
    "split 1" ∷
    "split 2 3" ∷
    "merge 1" ∷
    "merge 2 3" ∷
    "rounds 2" ∷
    "request 1 inc \"x\" 5" ∷
    "rounds 1" ∷
    "request 1 put \"own\" \"o\"" ∷
    "stop 1 0 -" ∷
    "downgrade 1" ∷
    "recover 1 8 43475255495459" ∷
    "recover 1 3 01" ∷
    "recover 1" ∷
    "show 1" ∷
    "split 2 3" ∷
    "merge 1 2 3" ∷
    "rounds 4" ∷
    "show 3" ∷
    "show order" ∷
    "end" ∷
    [])
    ≡ written (
    "= 1" ∷
    "1 NonPrim - g0 w0 p0@0{1,2,3} a0 v- y- r[] o[] x{} b0" ∷
    "2 NonPrim - g0 w0 p0@0{1,2,3} a0 v- y- r[] o[] x{} b0" ∷
    "3 NonPrim - g0 w0 p0@0{1,2,3} a0 v- y- r[] o[] x{} b0" ∷
    "= 2" ∷
    "1 ExchangeStates c1 g0 w0 p0@0{1,2,3} a0 v- y- r[] o[] x{} b0" ∷
    "2 ExchangeStates c1 g0 w0 p0@0{1,2,3} a0 v- y- r[] o[] x{} b0" ∷
    "3 ExchangeStates c1 g0 w0 p0@0{1,2,3} a0 v- y- r[] o[] x{} b0" ∷
    "= 4" ∷
    "1 Construct c1 g0 w0 p0@0{1,2,3} a1 v1/0{1,2,3}{1} y- r[] o[] x{} b0" ∷
    "= 5" ∷
    "2 Construct c1 g0 w0 p0@0{1,2,3} a1 v1/0{1,2,3}{2} y- r[] o[] x{} b0" ∷
    "= 6" ∷
    "3 Construct c1 g0 w0 p0@0{1,2,3} a1 v1/0{1,2,3}{3} y- r[] o[] x{} b0" ∷
    "= 8" ∷
    "1 RegPrim c1 g0 w0 p1@1{1,2,3} a0 v1/0{1,2,3}{1} y- r[] o[] x{} b0" ∷
    "= 9" ∷
    "2 RegPrim c1 g0 w0 p1@1{1,2,3} a0 v1/0{1,2,3}{2} y- r[] o[] x{} b0" ∷
    "= 10" ∷
    "3 RegPrim c1 g0 w0 p1@1{1,2,3} a0 v1/0{1,2,3}{3} y- r[] o[] x{} b0" ∷
    "= 11" ∷
    "made 1:1 put \"x\" 1" ∷
    "1 RegPrim c1 g0 w0 p1@1{1,2,3} a0 v1/0{1,2,3}{1} y- r[] o[1:1] x{} b0" ∷
    "= 12" ∷
    "made 2:1 put \"y\" 2" ∷
    "2 RegPrim c1 g0 w0 p1@1{1,2,3} a0 v1/0{1,2,3}{2} y- r[] o[2:1] x{} b0" ∷
    "= 14" ∷
    "order 1 1:1" ∷
    "order 2 2:1" ∷
    "1 RegPrim c1 g2 w0 p1@1{1,2,3} a0 v1/0{1,2,3}{1} y- r[] o[] x{} b0" ∷
    "reply 1:1 done" ∷
    "= 15" ∷
    "2 RegPrim c1 g2 w0 p1@1{1,2,3} a0 v1/0{1,2,3}{2} y- r[] o[] x{} b0" ∷
    "reply 2:1 done" ∷
    "= 16" ∷
    "3 RegPrim c1 g2 w0 p1@1{1,2,3} a0 v1/0{1,2,3}{3} y- r[] o[] x{} b0" ∷
    "= 17" ∷
    "1 TransPrim t1 g2 w0 p1@1{1,2,3} a0 v1/0{1,2,3}{1} y- r[] o[] x{} b0" ∷
    "= 18" ∷
    "2 TransPrim t1 g2 w0 p1@1{1,2,3} a0 v1/0{1,2,3}{2} y- r[] o[] x{} b0" ∷
    "3 TransPrim t1 g2 w0 p1@1{1,2,3} a0 v1/0{1,2,3}{3} y- r[] o[] x{} b0" ∷
    "= 19" ∷
    "1 ExchangeStates c2 g2 w0 p1@1{1,2,3} a0 v- y![] r[] o[] x{} b0" ∷
    "= 20" ∷
    "2 ExchangeStates c3 g2 w0 p1@1{1,2,3} a0 v- y![] r[] o[] x{} b0" ∷
    "3 ExchangeStates c3 g2 w0 p1@1{1,2,3} a0 v- y![] r[] o[] x{} b0" ∷
    "= 22" ∷
    "1 NonPrim c2 g2 w0 p1@1{1,2,3} a0 v- y![] r[] o[] x{} b0" ∷
    "= 23" ∷
    "2 Construct c3 g2 w0 p1@1{1,2,3} a1 v3/1{2,3}{2} y![] r[] o[] x{} b0" ∷
    "= 24" ∷
    "3 Construct c3 g2 w0 p1@1{1,2,3} a1 v3/1{2,3}{3} y![] r[] o[] x{} b0" ∷
    "= 26" ∷
    "2 RegPrim c3 g2 w0 p2@3{2,3} a0 v3/1{2,3}{2} y- r[] o[] x{} b0" ∷
    "= 27" ∷
    "3 RegPrim c3 g2 w0 p2@3{2,3} a0 v3/1{2,3}{3} y- r[] o[] x{} b0" ∷
    "= 28" ∷
    "made 1:2 inc \"x\" 5" ∷
    "1 NonPrim c2 g2 w0 p1@1{1,2,3} a0 v- y![] r[] o[1:2] x{} b0" ∷
    "= 30" ∷
    "1 NonPrim c2 g2 w0 p1@1{1,2,3} a0 v- y![] r[1:2] o[] x{} b0" ∷
    "= 31" ∷
    "made 1:3 put \"own\" \"o\"" ∷
    "1 NonPrim c2 g2 w0 p1@1{1,2,3} a0 v- y![] r[1:2] o[1:3] x{} b0" ∷
    "= 32" ∷
    "1 Down" ∷
    "= 36" ∷
    "1 NonPrim - g2 w0 p1@1{1,2,3} a0 v- y![] r[1:2,1:3] o[] x{} b0" ∷
    "= 37" ∷
    "greens 1 [1:1,2:1]" ∷
    "db 1 \"x\"=1 \"y\"=2" ∷
    "= 38" ∷
    "2 TransPrim t3 g2 w0 p2@3{2,3} a0 v3/1{2,3}{2} y- r[] o[] x{} b0" ∷
    "3 TransPrim t3 g2 w0 p2@3{2,3} a0 v3/1{2,3}{3} y- r[] o[] x{} b0" ∷
    "= 39" ∷
    "1 ExchangeStates c4 g2 w0 p1@1{1,2,3} a0 v- y![] r[1:2,1:3] o[] x{} b0" ∷
    "2 ExchangeStates c4 g2 w0 p2@3{2,3} a0 v- y![] r[] o[] x{} b0" ∷
    "3 ExchangeStates c4 g2 w0 p2@3{2,3} a0 v- y![] r[] o[] x{} b0" ∷
    "= 41" ∷
    "1 ExchangeActions c4 g2 w0 p1@1{1,2,3} a0 v- y![] r[1:2,1:3] o[] x{} b0" ∷
    "= 42" ∷
    "2 ExchangeActions c4 g2 w0 p2@3{2,3} a0 v- y![] r[] o[] x{} b0" ∷
    "= 43" ∷
    "3 ExchangeActions c4 g2 w0 p2@3{2,3} a0 v- y![] r[] o[] x{} b0" ∷
    "= 45" ∷
    "1 Construct c4 g2 w0 p2@3{2,3} a1 v4/2{1,2,3}{1} y![] r[1:2,1:3] o[] x{} b0" ∷
    "= 46" ∷
    "2 Construct c4 g2 w0 p2@3{2,3} a1 v4/2{1,2,3}{2} y![] r[1:2,1:3] o[] x{} b0" ∷
    "= 47" ∷
    "3 Construct c4 g2 w0 p2@3{2,3} a1 v4/2{1,2,3}{3} y![] r[1:2,1:3] o[] x{} b0" ∷
    "= 49" ∷
    "order 3 1:2" ∷
    "order 4 1:3" ∷
    "1 RegPrim c4 g4 w0 p3@4{1,2,3} a0 v4/2{1,2,3}{1} y- r[] o[] x{} b0" ∷
    "= 50" ∷
    "2 RegPrim c4 g4 w0 p3@4{1,2,3} a0 v4/2{1,2,3}{2} y- r[] o[] x{} b0" ∷
    "= 51" ∷
    "3 RegPrim c4 g4 w0 p3@4{1,2,3} a0 v4/2{1,2,3}{3} y- r[] o[] x{} b0" ∷
    "= 53" ∷
    "greens 3 [1:1,2:1,1:2,1:3]" ∷
    "db 3 \"own\"=\"o\" \"x\"=6 \"y\"=2" ∷
    "= 54" ∷
    "all [1:1,2:1,1:2,1:3]" ∷
    "end 54" ∷
    [])
unfolding cases_compute
migration_with_reds_and_own_inside_call_08_with_43475255495459 = refl

-- A disk of the older format with red and own actions, whose migration is struck, is migrated again.
migration_with_reds_and_own_inside_call_08_with_4347525549545932 :
    replayed_text (
    "start 1 2 3" ∷
    "merge 1 2 3" ∷
    "rounds 2" ∷
    "request 1 put \"x\" 1" ∷
    "request 2 put \"y\" 2" ∷
    "rounds 1" ∷
    "split 1" ∷
    "split 2 3" ∷
    "merge 1" ∷
    "merge 2 3" ∷
    "rounds 2" ∷
    "request 1 inc \"x\" 5" ∷
    "rounds 1" ∷
    "request 1 put \"own\" \"o\"" ∷
    "stop 1 0 -" ∷
    "downgrade 1" ∷
    "recover 1 8 4347525549545932" ∷
    "recover 1 3 01" ∷
    "recover 1" ∷
    "show 1" ∷
    "split 2 3" ∷
    "merge 1 2 3" ∷
    "rounds 4" ∷
    "show 3" ∷
    "show order" ∷
    "end" ∷
    [])
    ≡ written (
    "= 1" ∷
    "1 NonPrim - g0 w0 p0@0{1,2,3} a0 v- y- r[] o[] x{} b0" ∷
    "2 NonPrim - g0 w0 p0@0{1,2,3} a0 v- y- r[] o[] x{} b0" ∷
    "3 NonPrim - g0 w0 p0@0{1,2,3} a0 v- y- r[] o[] x{} b0" ∷
    "= 2" ∷
    "1 ExchangeStates c1 g0 w0 p0@0{1,2,3} a0 v- y- r[] o[] x{} b0" ∷
    "2 ExchangeStates c1 g0 w0 p0@0{1,2,3} a0 v- y- r[] o[] x{} b0" ∷
    "3 ExchangeStates c1 g0 w0 p0@0{1,2,3} a0 v- y- r[] o[] x{} b0" ∷
    "= 4" ∷
    "1 Construct c1 g0 w0 p0@0{1,2,3} a1 v1/0{1,2,3}{1} y- r[] o[] x{} b0" ∷
    "= 5" ∷
    "2 Construct c1 g0 w0 p0@0{1,2,3} a1 v1/0{1,2,3}{2} y- r[] o[] x{} b0" ∷
    "= 6" ∷
    "3 Construct c1 g0 w0 p0@0{1,2,3} a1 v1/0{1,2,3}{3} y- r[] o[] x{} b0" ∷
    "= 8" ∷
    "1 RegPrim c1 g0 w0 p1@1{1,2,3} a0 v1/0{1,2,3}{1} y- r[] o[] x{} b0" ∷
    "= 9" ∷
    "2 RegPrim c1 g0 w0 p1@1{1,2,3} a0 v1/0{1,2,3}{2} y- r[] o[] x{} b0" ∷
    "= 10" ∷
    "3 RegPrim c1 g0 w0 p1@1{1,2,3} a0 v1/0{1,2,3}{3} y- r[] o[] x{} b0" ∷
    "= 11" ∷
    "made 1:1 put \"x\" 1" ∷
    "1 RegPrim c1 g0 w0 p1@1{1,2,3} a0 v1/0{1,2,3}{1} y- r[] o[1:1] x{} b0" ∷
    "= 12" ∷
    "made 2:1 put \"y\" 2" ∷
    "2 RegPrim c1 g0 w0 p1@1{1,2,3} a0 v1/0{1,2,3}{2} y- r[] o[2:1] x{} b0" ∷
    "= 14" ∷
    "order 1 1:1" ∷
    "order 2 2:1" ∷
    "1 RegPrim c1 g2 w0 p1@1{1,2,3} a0 v1/0{1,2,3}{1} y- r[] o[] x{} b0" ∷
    "reply 1:1 done" ∷
    "= 15" ∷
    "2 RegPrim c1 g2 w0 p1@1{1,2,3} a0 v1/0{1,2,3}{2} y- r[] o[] x{} b0" ∷
    "reply 2:1 done" ∷
    "= 16" ∷
    "3 RegPrim c1 g2 w0 p1@1{1,2,3} a0 v1/0{1,2,3}{3} y- r[] o[] x{} b0" ∷
    "= 17" ∷
    "1 TransPrim t1 g2 w0 p1@1{1,2,3} a0 v1/0{1,2,3}{1} y- r[] o[] x{} b0" ∷
    "= 18" ∷
    "2 TransPrim t1 g2 w0 p1@1{1,2,3} a0 v1/0{1,2,3}{2} y- r[] o[] x{} b0" ∷
    "3 TransPrim t1 g2 w0 p1@1{1,2,3} a0 v1/0{1,2,3}{3} y- r[] o[] x{} b0" ∷
    "= 19" ∷
    "1 ExchangeStates c2 g2 w0 p1@1{1,2,3} a0 v- y![] r[] o[] x{} b0" ∷
    "= 20" ∷
    "2 ExchangeStates c3 g2 w0 p1@1{1,2,3} a0 v- y![] r[] o[] x{} b0" ∷
    "3 ExchangeStates c3 g2 w0 p1@1{1,2,3} a0 v- y![] r[] o[] x{} b0" ∷
    "= 22" ∷
    "1 NonPrim c2 g2 w0 p1@1{1,2,3} a0 v- y![] r[] o[] x{} b0" ∷
    "= 23" ∷
    "2 Construct c3 g2 w0 p1@1{1,2,3} a1 v3/1{2,3}{2} y![] r[] o[] x{} b0" ∷
    "= 24" ∷
    "3 Construct c3 g2 w0 p1@1{1,2,3} a1 v3/1{2,3}{3} y![] r[] o[] x{} b0" ∷
    "= 26" ∷
    "2 RegPrim c3 g2 w0 p2@3{2,3} a0 v3/1{2,3}{2} y- r[] o[] x{} b0" ∷
    "= 27" ∷
    "3 RegPrim c3 g2 w0 p2@3{2,3} a0 v3/1{2,3}{3} y- r[] o[] x{} b0" ∷
    "= 28" ∷
    "made 1:2 inc \"x\" 5" ∷
    "1 NonPrim c2 g2 w0 p1@1{1,2,3} a0 v- y![] r[] o[1:2] x{} b0" ∷
    "= 30" ∷
    "1 NonPrim c2 g2 w0 p1@1{1,2,3} a0 v- y![] r[1:2] o[] x{} b0" ∷
    "= 31" ∷
    "made 1:3 put \"own\" \"o\"" ∷
    "1 NonPrim c2 g2 w0 p1@1{1,2,3} a0 v- y![] r[1:2] o[1:3] x{} b0" ∷
    "= 32" ∷
    "1 Down" ∷
    "= 36" ∷
    "1 NonPrim - g2 w0 p1@1{1,2,3} a0 v- y![] r[1:2,1:3] o[] x{} b0" ∷
    "= 37" ∷
    "greens 1 [1:1,2:1]" ∷
    "db 1 \"x\"=1 \"y\"=2" ∷
    "= 38" ∷
    "2 TransPrim t3 g2 w0 p2@3{2,3} a0 v3/1{2,3}{2} y- r[] o[] x{} b0" ∷
    "3 TransPrim t3 g2 w0 p2@3{2,3} a0 v3/1{2,3}{3} y- r[] o[] x{} b0" ∷
    "= 39" ∷
    "1 ExchangeStates c4 g2 w0 p1@1{1,2,3} a0 v- y![] r[1:2,1:3] o[] x{} b0" ∷
    "2 ExchangeStates c4 g2 w0 p2@3{2,3} a0 v- y![] r[] o[] x{} b0" ∷
    "3 ExchangeStates c4 g2 w0 p2@3{2,3} a0 v- y![] r[] o[] x{} b0" ∷
    "= 41" ∷
    "1 ExchangeActions c4 g2 w0 p1@1{1,2,3} a0 v- y![] r[1:2,1:3] o[] x{} b0" ∷
    "= 42" ∷
    "2 ExchangeActions c4 g2 w0 p2@3{2,3} a0 v- y![] r[] o[] x{} b0" ∷
    "= 43" ∷
    "3 ExchangeActions c4 g2 w0 p2@3{2,3} a0 v- y![] r[] o[] x{} b0" ∷
    "= 45" ∷
    "1 Construct c4 g2 w0 p2@3{2,3} a1 v4/2{1,2,3}{1} y![] r[1:2,1:3] o[] x{} b0" ∷
    "= 46" ∷
    "2 Construct c4 g2 w0 p2@3{2,3} a1 v4/2{1,2,3}{2} y![] r[1:2,1:3] o[] x{} b0" ∷
    "= 47" ∷
    "3 Construct c4 g2 w0 p2@3{2,3} a1 v4/2{1,2,3}{3} y![] r[1:2,1:3] o[] x{} b0" ∷
    "= 49" ∷
    "order 3 1:2" ∷
    "order 4 1:3" ∷
    "1 RegPrim c4 g4 w0 p3@4{1,2,3} a0 v4/2{1,2,3}{1} y- r[] o[] x{} b0" ∷
    "= 50" ∷
    "2 RegPrim c4 g4 w0 p3@4{1,2,3} a0 v4/2{1,2,3}{2} y- r[] o[] x{} b0" ∷
    "= 51" ∷
    "3 RegPrim c4 g4 w0 p3@4{1,2,3} a0 v4/2{1,2,3}{3} y- r[] o[] x{} b0" ∷
    "= 53" ∷
    "greens 3 [1:1,2:1,1:2,1:3]" ∷
    "db 3 \"own\"=\"o\" \"x\"=6 \"y\"=2" ∷
    "= 54" ∷
    "all [1:1,2:1,1:2,1:3]" ∷
    "end 54" ∷
    [])
unfolding cases_compute
migration_with_reds_and_own_inside_call_08_with_4347525549545932 = refl
