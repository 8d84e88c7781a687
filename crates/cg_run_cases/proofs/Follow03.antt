-- Cases of cases/ with their whole reports, which `.ci/theorems` writes down here.
use Rattle.std.specs.Prelude.{◌≡◌, [], ◌∷◌}
use mathlib.Core.Path.{refl}
use Rattle.cg_run_cases.specs.Replaying.{put_by, written}
use Rattle.cg_run_cases.specs.Computing.{cases_compute}

-- A follower that is down is not fed, and that is tested before its cursor.
follow_refused_feed_to_one_that_is_down :
    put_by "follow" (
    "start 1 2 3" ∷
    "merge 1 2 3" ∷
    "rounds 2" ∷
    "request 1 put \"a\" 1" ∷
    "rounds 1" ∷
    "follower 4 1" ∷
    "request 1 put \"b\" 2" ∷
    "request 2 put \"c\" 3" ∷
    "request 3 put \"d\" 4" ∷
    "rounds 1" ∷
    "request 1 inc \"a\" 1" ∷
    "request 2 inc \"b\" 1" ∷
    "request 3 inc \"c\" 1" ∷
    "rounds 1" ∷
    "fstop 4 0 -" ∷
    "feed 1 4 9" ∷
    [])
    ≡ written (
    "= 1" ∷
    "1 NonPrim - g0 w0 p0@0{1,2,3} a0 v- y- r[] o[] x{} b0" ∷
    "2 NonPrim - g0 w0 p0@0{1,2,3} a0 v- y- r[] o[] x{} b0" ∷
    "3 NonPrim - g0 w0 p0@0{1,2,3} a0 v- y- r[] o[] x{} b0" ∷
    "= 2" ∷
    "1 ExchangeStates c1 g0 w0 p0@0{1,2,3} a0 v- y- r[] o[] x{} b0" ∷
    "2 ExchangeStates c1 g0 w0 p0@0{1,2,3} a0 v- y- r[] o[] x{} b0" ∷
    "3 ExchangeStates c1 g0 w0 p0@0{1,2,3} a0 v- y- r[] o[] x{} b0" ∷
    "= 4" ∷
    "1 Construct c1 g0 w0 p0@0{1,2,3} a1 v1/0{1,2,3}{1} y- r[] o[] x{} b0" ∷
    "= 5" ∷
    "2 Construct c1 g0 w0 p0@0{1,2,3} a1 v1/0{1,2,3}{2} y- r[] o[] x{} b0" ∷
    "= 6" ∷
    "3 Construct c1 g0 w0 p0@0{1,2,3} a1 v1/0{1,2,3}{3} y- r[] o[] x{} b0" ∷
    "= 8" ∷
    "1 RegPrim c1 g0 w0 p1@1{1,2,3} a0 v1/0{1,2,3}{1} y- r[] o[] x{} b0" ∷
    "= 9" ∷
    "2 RegPrim c1 g0 w0 p1@1{1,2,3} a0 v1/0{1,2,3}{2} y- r[] o[] x{} b0" ∷
    "= 10" ∷
    "3 RegPrim c1 g0 w0 p1@1{1,2,3} a0 v1/0{1,2,3}{3} y- r[] o[] x{} b0" ∷
    "= 11" ∷
    "made 1:1 put \"a\" 1" ∷
    "1 RegPrim c1 g0 w0 p1@1{1,2,3} a0 v1/0{1,2,3}{1} y- r[] o[1:1] x{} b0" ∷
    "= 13" ∷
    "order 1 1:1" ∷
    "1 RegPrim c1 g1 w0 p1@1{1,2,3} a0 v1/0{1,2,3}{1} y- r[] o[] x{} b0" ∷
    "reply 1:1 done" ∷
    "= 14" ∷
    "2 RegPrim c1 g1 w0 p1@1{1,2,3} a0 v1/0{1,2,3}{2} y- r[] o[] x{} b0" ∷
    "= 15" ∷
    "3 RegPrim c1 g1 w0 p1@1{1,2,3} a0 v1/0{1,2,3}{3} y- r[] o[] x{} b0" ∷
    "= 16" ∷
    "follower 4 1" ∷
    "= 17" ∷
    "made 1:2 put \"b\" 2" ∷
    "1 RegPrim c1 g1 w0 p1@1{1,2,3} a0 v1/0{1,2,3}{1} y- r[] o[1:2] x{} b0" ∷
    "= 18" ∷
    "made 2:1 put \"c\" 3" ∷
    "2 RegPrim c1 g1 w0 p1@1{1,2,3} a0 v1/0{1,2,3}{2} y- r[] o[2:1] x{} b0" ∷
    "= 19" ∷
    "made 3:1 put \"d\" 4" ∷
    "3 RegPrim c1 g1 w0 p1@1{1,2,3} a0 v1/0{1,2,3}{3} y- r[] o[3:1] x{} b0" ∷
    "= 21" ∷
    "order 2 1:2" ∷
    "order 3 2:1" ∷
    "order 4 3:1" ∷
    "1 RegPrim c1 g4 w1 p1@1{1,2,3} a0 v1/0{1,2,3}{1} y- r[] o[] x{} b0" ∷
    "reply 1:2 done" ∷
    "= 22" ∷
    "2 RegPrim c1 g4 w1 p1@1{1,2,3} a0 v1/0{1,2,3}{2} y- r[] o[] x{} b0" ∷
    "reply 2:1 done" ∷
    "= 23" ∷
    "3 RegPrim c1 g4 w1 p1@1{1,2,3} a0 v1/0{1,2,3}{3} y- r[] o[] x{} b0" ∷
    "reply 3:1 done" ∷
    "= 24" ∷
    "made 1:3 inc \"a\" 1" ∷
    "1 RegPrim c1 g4 w1 p1@1{1,2,3} a0 v1/0{1,2,3}{1} y- r[] o[1:3] x{} b0" ∷
    "= 25" ∷
    "made 2:2 inc \"b\" 1" ∷
    "2 RegPrim c1 g4 w1 p1@1{1,2,3} a0 v1/0{1,2,3}{2} y- r[] o[2:2] x{} b0" ∷
    "= 26" ∷
    "made 3:2 inc \"c\" 1" ∷
    "3 RegPrim c1 g4 w1 p1@1{1,2,3} a0 v1/0{1,2,3}{3} y- r[] o[3:2] x{} b0" ∷
    "= 28" ∷
    "order 5 1:3" ∷
    "order 6 2:2" ∷
    "order 7 3:2" ∷
    "1 RegPrim c1 g7 w4 p1@1{1,2,3} a0 v1/0{1,2,3}{1} y- r[] o[] x{} b0" ∷
    "reply 1:3 done" ∷
    "= 29" ∷
    "2 RegPrim c1 g7 w4 p1@1{1,2,3} a0 v1/0{1,2,3}{2} y- r[] o[] x{} b0" ∷
    "reply 2:2 done" ∷
    "= 30" ∷
    "3 RegPrim c1 g7 w4 p1@1{1,2,3} a0 v1/0{1,2,3}{3} y- r[] o[] x{} b0" ∷
    "reply 3:2 done" ∷
    "= 31" ∷
    "follower 4 down" ∷
    "refused 16 21 4" ∷
    [])
unfolding cases_compute
follow_refused_feed_to_one_that_is_down = refl

-- A follower that a feed left down is not fed.
follow_refused_feed_to_one_that_was_struck :
    put_by "follow" (
    "start 1 2 3" ∷
    "merge 1 2 3" ∷
    "rounds 2" ∷
    "request 1 put \"x\" 1" ∷
    "rounds 1" ∷
    "follower 7 1" ∷
    "request 1 put \"x\" 2" ∷
    "rounds 1" ∷
    "fstop 7 2 01" ∷
    "feed 1 7 1" ∷
    "feed 1 7 1" ∷
    [])
    ≡ written (
    "= 1" ∷
    "1 NonPrim - g0 w0 p0@0{1,2,3} a0 v- y- r[] o[] x{} b0" ∷
    "2 NonPrim - g0 w0 p0@0{1,2,3} a0 v- y- r[] o[] x{} b0" ∷
    "3 NonPrim - g0 w0 p0@0{1,2,3} a0 v- y- r[] o[] x{} b0" ∷
    "= 2" ∷
    "1 ExchangeStates c1 g0 w0 p0@0{1,2,3} a0 v- y- r[] o[] x{} b0" ∷
    "2 ExchangeStates c1 g0 w0 p0@0{1,2,3} a0 v- y- r[] o[] x{} b0" ∷
    "3 ExchangeStates c1 g0 w0 p0@0{1,2,3} a0 v- y- r[] o[] x{} b0" ∷
    "= 4" ∷
    "1 Construct c1 g0 w0 p0@0{1,2,3} a1 v1/0{1,2,3}{1} y- r[] o[] x{} b0" ∷
    "= 5" ∷
    "2 Construct c1 g0 w0 p0@0{1,2,3} a1 v1/0{1,2,3}{2} y- r[] o[] x{} b0" ∷
    "= 6" ∷
    "3 Construct c1 g0 w0 p0@0{1,2,3} a1 v1/0{1,2,3}{3} y- r[] o[] x{} b0" ∷
    "= 8" ∷
    "1 RegPrim c1 g0 w0 p1@1{1,2,3} a0 v1/0{1,2,3}{1} y- r[] o[] x{} b0" ∷
    "= 9" ∷
    "2 RegPrim c1 g0 w0 p1@1{1,2,3} a0 v1/0{1,2,3}{2} y- r[] o[] x{} b0" ∷
    "= 10" ∷
    "3 RegPrim c1 g0 w0 p1@1{1,2,3} a0 v1/0{1,2,3}{3} y- r[] o[] x{} b0" ∷
    "= 11" ∷
    "made 1:1 put \"x\" 1" ∷
    "1 RegPrim c1 g0 w0 p1@1{1,2,3} a0 v1/0{1,2,3}{1} y- r[] o[1:1] x{} b0" ∷
    "= 13" ∷
    "order 1 1:1" ∷
    "1 RegPrim c1 g1 w0 p1@1{1,2,3} a0 v1/0{1,2,3}{1} y- r[] o[] x{} b0" ∷
    "reply 1:1 done" ∷
    "= 14" ∷
    "2 RegPrim c1 g1 w0 p1@1{1,2,3} a0 v1/0{1,2,3}{2} y- r[] o[] x{} b0" ∷
    "= 15" ∷
    "3 RegPrim c1 g1 w0 p1@1{1,2,3} a0 v1/0{1,2,3}{3} y- r[] o[] x{} b0" ∷
    "= 16" ∷
    "follower 7 1" ∷
    "= 17" ∷
    "made 1:2 put \"x\" 2" ∷
    "1 RegPrim c1 g1 w0 p1@1{1,2,3} a0 v1/0{1,2,3}{1} y- r[] o[1:2] x{} b0" ∷
    "= 19" ∷
    "order 2 1:2" ∷
    "1 RegPrim c1 g2 w0 p1@1{1,2,3} a0 v1/0{1,2,3}{1} y- r[] o[] x{} b0" ∷
    "reply 1:2 done" ∷
    "= 20" ∷
    "2 RegPrim c1 g2 w0 p1@1{1,2,3} a0 v1/0{1,2,3}{2} y- r[] o[] x{} b0" ∷
    "= 21" ∷
    "3 RegPrim c1 g2 w0 p1@1{1,2,3} a0 v1/0{1,2,3}{3} y- r[] o[] x{} b0" ∷
    "= 23" ∷
    "follower 7 down" ∷
    "refused 11 21 7" ∷
    [])
unfolding cases_compute
follow_refused_feed_to_one_that_was_struck = refl

-- That a replica has left is told before that the follower would go back.
follow_refused_follower_of_a_leaver_behind :
    put_by "follow" (
    "start 1 2 3" ∷
    "merge 1 2 3" ∷
    "rounds 2" ∷
    "split 1 2" ∷
    "split 3" ∷
    "merge 1 2" ∷
    "merge 3" ∷
    "rounds 2" ∷
    "leave 1 3" ∷
    "rounds 1" ∷
    "split 1 2" ∷
    "split 3" ∷
    "merge 1 2 3" ∷
    "rounds 3" ∷
    "follower 2 1" ∷
    "follower 2 3" ∷
    [])
    ≡ written (
    "= 1" ∷
    "1 NonPrim - g0 w0 p0@0{1,2,3} a0 v- y- r[] o[] x{} b0" ∷
    "2 NonPrim - g0 w0 p0@0{1,2,3} a0 v- y- r[] o[] x{} b0" ∷
    "3 NonPrim - g0 w0 p0@0{1,2,3} a0 v- y- r[] o[] x{} b0" ∷
    "= 2" ∷
    "1 ExchangeStates c1 g0 w0 p0@0{1,2,3} a0 v- y- r[] o[] x{} b0" ∷
    "2 ExchangeStates c1 g0 w0 p0@0{1,2,3} a0 v- y- r[] o[] x{} b0" ∷
    "3 ExchangeStates c1 g0 w0 p0@0{1,2,3} a0 v- y- r[] o[] x{} b0" ∷
    "= 4" ∷
    "1 Construct c1 g0 w0 p0@0{1,2,3} a1 v1/0{1,2,3}{1} y- r[] o[] x{} b0" ∷
    "= 5" ∷
    "2 Construct c1 g0 w0 p0@0{1,2,3} a1 v1/0{1,2,3}{2} y- r[] o[] x{} b0" ∷
    "= 6" ∷
    "3 Construct c1 g0 w0 p0@0{1,2,3} a1 v1/0{1,2,3}{3} y- r[] o[] x{} b0" ∷
    "= 8" ∷
    "1 RegPrim c1 g0 w0 p1@1{1,2,3} a0 v1/0{1,2,3}{1} y- r[] o[] x{} b0" ∷
    "= 9" ∷
    "2 RegPrim c1 g0 w0 p1@1{1,2,3} a0 v1/0{1,2,3}{2} y- r[] o[] x{} b0" ∷
    "= 10" ∷
    "3 RegPrim c1 g0 w0 p1@1{1,2,3} a0 v1/0{1,2,3}{3} y- r[] o[] x{} b0" ∷
    "= 11" ∷
    "1 TransPrim t1 g0 w0 p1@1{1,2,3} a0 v1/0{1,2,3}{1} y- r[] o[] x{} b0" ∷
    "2 TransPrim t1 g0 w0 p1@1{1,2,3} a0 v1/0{1,2,3}{2} y- r[] o[] x{} b0" ∷
    "= 12" ∷
    "3 TransPrim t1 g0 w0 p1@1{1,2,3} a0 v1/0{1,2,3}{3} y- r[] o[] x{} b0" ∷
    "= 13" ∷
    "1 ExchangeStates c2 g0 w0 p1@1{1,2,3} a0 v- y![] r[] o[] x{} b0" ∷
    "2 ExchangeStates c2 g0 w0 p1@1{1,2,3} a0 v- y![] r[] o[] x{} b0" ∷
    "= 14" ∷
    "3 ExchangeStates c3 g0 w0 p1@1{1,2,3} a0 v- y![] r[] o[] x{} b0" ∷
    "= 16" ∷
    "1 Construct c2 g0 w0 p1@1{1,2,3} a1 v2/1{1,2}{1} y![] r[] o[] x{} b0" ∷
    "= 17" ∷
    "2 Construct c2 g0 w0 p1@1{1,2,3} a1 v2/1{1,2}{2} y![] r[] o[] x{} b0" ∷
    "= 18" ∷
    "3 NonPrim c3 g0 w0 p1@1{1,2,3} a0 v- y![] r[] o[] x{} b0" ∷
    "= 20" ∷
    "1 RegPrim c2 g0 w0 p2@2{1,2} a0 v2/1{1,2}{1} y- r[] o[] x{} b0" ∷
    "= 21" ∷
    "2 RegPrim c2 g0 w0 p2@2{1,2} a0 v2/1{1,2}{2} y- r[] o[] x{} b0" ∷
    "= 22" ∷
    "made 1:1 leave 3" ∷
    "1 RegPrim c2 g0 w0 p2@2{1,2} a0 v2/1{1,2}{1} y- r[] o[1:1] x{} b0" ∷
    "= 24" ∷
    "order 1 1:1" ∷
    "1 RegPrim c2 g1 w0 p2@2{1,2} a0 v2/1{1,2}{1} y- r[] o[] x{3} b0" ∷
    "reply 1:1 done" ∷
    "= 25" ∷
    "2 RegPrim c2 g1 w0 p2@2{1,2} a0 v2/1{1,2}{2} y- r[] o[] x{3} b0" ∷
    "= 26" ∷
    "1 TransPrim t2 g1 w0 p2@2{1,2} a0 v2/1{1,2}{1} y- r[] o[] x{3} b0" ∷
    "2 TransPrim t2 g1 w0 p2@2{1,2} a0 v2/1{1,2}{2} y- r[] o[] x{3} b0" ∷
    "= 27" ∷
    "3 NonPrim t3 g0 w0 p1@1{1,2,3} a0 v- y![] r[] o[] x{} b0" ∷
    "= 28" ∷
    "1 ExchangeStates c4 g1 w0 p2@2{1,2} a0 v- y![] r[] o[] x{3} b0" ∷
    "2 ExchangeStates c4 g1 w0 p2@2{1,2} a0 v- y![] r[] o[] x{3} b0" ∷
    "3 ExchangeStates c4 g0 w0 p1@1{1,2,3} a0 v- y![] r[] o[] x{} b0" ∷
    "= 30" ∷
    "1 Construct c4 g1 w0 p2@2{1,2} a1 v4/2{1,2}{1} y![] r[] o[] x{3} b0" ∷
    "= 31" ∷
    "2 Construct c4 g1 w0 p2@2{1,2} a1 v4/2{1,2}{2} y![] r[] o[] x{3} b0" ∷
    "= 32" ∷
    "3 Left c4 g0 w0 p1@1{1,2,3} a0 v- y![] r[] o[] x{} b0" ∷
    "= 34" ∷
    "1 RegPrim c4 g1 w0 p3@4{1,2} a0 v4/2{1,2}{1} y- r[] o[] x{3} b0" ∷
    "= 35" ∷
    "2 RegPrim c4 g1 w0 p3@4{1,2} a0 v4/2{1,2}{2} y- r[] o[] x{3} b0" ∷
    "= 38" ∷
    "follower 2 1" ∷
    "refused 16 14 3" ∷
    [])
unfolding cases_compute
follow_refused_follower_of_a_leaver_behind = refl

-- A replica that was told that it left gives no follower.
follow_refused_follower_of_a_leaver :
    put_by "follow" (
    "start 1 2 3" ∷
    "merge 1 2 3" ∷
    "rounds 2" ∷
    "split 1 2" ∷
    "split 3" ∷
    "merge 1 2" ∷
    "merge 3" ∷
    "rounds 2" ∷
    "leave 1 3" ∷
    "rounds 1" ∷
    "split 1 2" ∷
    "split 3" ∷
    "merge 1 2 3" ∷
    "rounds 3" ∷
    "follower 2 3" ∷
    [])
    ≡ written (
    "= 1" ∷
    "1 NonPrim - g0 w0 p0@0{1,2,3} a0 v- y- r[] o[] x{} b0" ∷
    "2 NonPrim - g0 w0 p0@0{1,2,3} a0 v- y- r[] o[] x{} b0" ∷
    "3 NonPrim - g0 w0 p0@0{1,2,3} a0 v- y- r[] o[] x{} b0" ∷
    "= 2" ∷
    "1 ExchangeStates c1 g0 w0 p0@0{1,2,3} a0 v- y- r[] o[] x{} b0" ∷
    "2 ExchangeStates c1 g0 w0 p0@0{1,2,3} a0 v- y- r[] o[] x{} b0" ∷
    "3 ExchangeStates c1 g0 w0 p0@0{1,2,3} a0 v- y- r[] o[] x{} b0" ∷
    "= 4" ∷
    "1 Construct c1 g0 w0 p0@0{1,2,3} a1 v1/0{1,2,3}{1} y- r[] o[] x{} b0" ∷
    "= 5" ∷
    "2 Construct c1 g0 w0 p0@0{1,2,3} a1 v1/0{1,2,3}{2} y- r[] o[] x{} b0" ∷
    "= 6" ∷
    "3 Construct c1 g0 w0 p0@0{1,2,3} a1 v1/0{1,2,3}{3} y- r[] o[] x{} b0" ∷
    "= 8" ∷
    "1 RegPrim c1 g0 w0 p1@1{1,2,3} a0 v1/0{1,2,3}{1} y- r[] o[] x{} b0" ∷
    "= 9" ∷
    "2 RegPrim c1 g0 w0 p1@1{1,2,3} a0 v1/0{1,2,3}{2} y- r[] o[] x{} b0" ∷
    "= 10" ∷
    "3 RegPrim c1 g0 w0 p1@1{1,2,3} a0 v1/0{1,2,3}{3} y- r[] o[] x{} b0" ∷
    "= 11" ∷
    "1 TransPrim t1 g0 w0 p1@1{1,2,3} a0 v1/0{1,2,3}{1} y- r[] o[] x{} b0" ∷
    "2 TransPrim t1 g0 w0 p1@1{1,2,3} a0 v1/0{1,2,3}{2} y- r[] o[] x{} b0" ∷
    "= 12" ∷
    "3 TransPrim t1 g0 w0 p1@1{1,2,3} a0 v1/0{1,2,3}{3} y- r[] o[] x{} b0" ∷
    "= 13" ∷
    "1 ExchangeStates c2 g0 w0 p1@1{1,2,3} a0 v- y![] r[] o[] x{} b0" ∷
    "2 ExchangeStates c2 g0 w0 p1@1{1,2,3} a0 v- y![] r[] o[] x{} b0" ∷
    "= 14" ∷
    "3 ExchangeStates c3 g0 w0 p1@1{1,2,3} a0 v- y![] r[] o[] x{} b0" ∷
    "= 16" ∷
    "1 Construct c2 g0 w0 p1@1{1,2,3} a1 v2/1{1,2}{1} y![] r[] o[] x{} b0" ∷
    "= 17" ∷
    "2 Construct c2 g0 w0 p1@1{1,2,3} a1 v2/1{1,2}{2} y![] r[] o[] x{} b0" ∷
    "= 18" ∷
    "3 NonPrim c3 g0 w0 p1@1{1,2,3} a0 v- y![] r[] o[] x{} b0" ∷
    "= 20" ∷
    "1 RegPrim c2 g0 w0 p2@2{1,2} a0 v2/1{1,2}{1} y- r[] o[] x{} b0" ∷
    "= 21" ∷
    "2 RegPrim c2 g0 w0 p2@2{1,2} a0 v2/1{1,2}{2} y- r[] o[] x{} b0" ∷
    "= 22" ∷
    "made 1:1 leave 3" ∷
    "1 RegPrim c2 g0 w0 p2@2{1,2} a0 v2/1{1,2}{1} y- r[] o[1:1] x{} b0" ∷
    "= 24" ∷
    "order 1 1:1" ∷
    "1 RegPrim c2 g1 w0 p2@2{1,2} a0 v2/1{1,2}{1} y- r[] o[] x{3} b0" ∷
    "reply 1:1 done" ∷
    "= 25" ∷
    "2 RegPrim c2 g1 w0 p2@2{1,2} a0 v2/1{1,2}{2} y- r[] o[] x{3} b0" ∷
    "= 26" ∷
    "1 TransPrim t2 g1 w0 p2@2{1,2} a0 v2/1{1,2}{1} y- r[] o[] x{3} b0" ∷
    "2 TransPrim t2 g1 w0 p2@2{1,2} a0 v2/1{1,2}{2} y- r[] o[] x{3} b0" ∷
    "= 27" ∷
    "3 NonPrim t3 g0 w0 p1@1{1,2,3} a0 v- y![] r[] o[] x{} b0" ∷
    "= 28" ∷
    "1 ExchangeStates c4 g1 w0 p2@2{1,2} a0 v- y![] r[] o[] x{3} b0" ∷
    "2 ExchangeStates c4 g1 w0 p2@2{1,2} a0 v- y![] r[] o[] x{3} b0" ∷
    "3 ExchangeStates c4 g0 w0 p1@1{1,2,3} a0 v- y![] r[] o[] x{} b0" ∷
    "= 30" ∷
    "1 Construct c4 g1 w0 p2@2{1,2} a1 v4/2{1,2}{1} y![] r[] o[] x{3} b0" ∷
    "= 31" ∷
    "2 Construct c4 g1 w0 p2@2{1,2} a1 v4/2{1,2}{2} y![] r[] o[] x{3} b0" ∷
    "= 32" ∷
    "3 Left c4 g0 w0 p1@1{1,2,3} a0 v- y![] r[] o[] x{} b0" ∷
    "= 34" ∷
    "1 RegPrim c4 g1 w0 p3@4{1,2} a0 v4/2{1,2}{1} y- r[] o[] x{3} b0" ∷
    "= 35" ∷
    "2 RegPrim c4 g1 w0 p3@4{1,2} a0 v4/2{1,2}{2} y- r[] o[] x{3} b0" ∷
    "refused 15 14 3" ∷
    [])
unfolding cases_compute
follow_refused_follower_of_a_leaver = refl

-- A follower is not made from a replica that has not begun.
follow_refused_follower_of_an_unknown_replica :
    put_by "follow" (
    "start 1 2 3" ∷
    "merge 1 2 3" ∷
    "rounds 2" ∷
    "follower 1 4" ∷
    [])
    ≡ written (
    "= 1" ∷
    "1 NonPrim - g0 w0 p0@0{1,2,3} a0 v- y- r[] o[] x{} b0" ∷
    "2 NonPrim - g0 w0 p0@0{1,2,3} a0 v- y- r[] o[] x{} b0" ∷
    "3 NonPrim - g0 w0 p0@0{1,2,3} a0 v- y- r[] o[] x{} b0" ∷
    "= 2" ∷
    "1 ExchangeStates c1 g0 w0 p0@0{1,2,3} a0 v- y- r[] o[] x{} b0" ∷
    "2 ExchangeStates c1 g0 w0 p0@0{1,2,3} a0 v- y- r[] o[] x{} b0" ∷
    "3 ExchangeStates c1 g0 w0 p0@0{1,2,3} a0 v- y- r[] o[] x{} b0" ∷
    "= 4" ∷
    "1 Construct c1 g0 w0 p0@0{1,2,3} a1 v1/0{1,2,3}{1} y- r[] o[] x{} b0" ∷
    "= 5" ∷
    "2 Construct c1 g0 w0 p0@0{1,2,3} a1 v1/0{1,2,3}{2} y- r[] o[] x{} b0" ∷
    "= 6" ∷
    "3 Construct c1 g0 w0 p0@0{1,2,3} a1 v1/0{1,2,3}{3} y- r[] o[] x{} b0" ∷
    "= 8" ∷
    "1 RegPrim c1 g0 w0 p1@1{1,2,3} a0 v1/0{1,2,3}{1} y- r[] o[] x{} b0" ∷
    "= 9" ∷
    "2 RegPrim c1 g0 w0 p1@1{1,2,3} a0 v1/0{1,2,3}{2} y- r[] o[] x{} b0" ∷
    "= 10" ∷
    "3 RegPrim c1 g0 w0 p1@1{1,2,3} a0 v1/0{1,2,3}{3} y- r[] o[] x{} b0" ∷
    "refused 4 11 4" ∷
    [])
unfolding cases_compute
follow_refused_follower_of_an_unknown_replica = refl

-- A replica that is down gives no follower, also where it would go back.
follow_refused_follower_of_one_that_is_down :
    put_by "follow" (
    "start 1 2 3" ∷
    "merge 1 2 3" ∷
    "rounds 2" ∷
    "split 1 2" ∷
    "split 3" ∷
    "merge 1 2" ∷
    "merge 3" ∷
    "rounds 2" ∷
    "request 1 put \"x\" 5" ∷
    "request 3 put \"x\" 6" ∷
    "rounds 1" ∷
    "follower 2 1" ∷
    "stop 3 0 -" ∷
    "follower 2 3" ∷
    [])
    ≡ written (
    "= 1" ∷
    "1 NonPrim - g0 w0 p0@0{1,2,3} a0 v- y- r[] o[] x{} b0" ∷
    "2 NonPrim - g0 w0 p0@0{1,2,3} a0 v- y- r[] o[] x{} b0" ∷
    "3 NonPrim - g0 w0 p0@0{1,2,3} a0 v- y- r[] o[] x{} b0" ∷
    "= 2" ∷
    "1 ExchangeStates c1 g0 w0 p0@0{1,2,3} a0 v- y- r[] o[] x{} b0" ∷
    "2 ExchangeStates c1 g0 w0 p0@0{1,2,3} a0 v- y- r[] o[] x{} b0" ∷
    "3 ExchangeStates c1 g0 w0 p0@0{1,2,3} a0 v- y- r[] o[] x{} b0" ∷
    "= 4" ∷
    "1 Construct c1 g0 w0 p0@0{1,2,3} a1 v1/0{1,2,3}{1} y- r[] o[] x{} b0" ∷
    "= 5" ∷
    "2 Construct c1 g0 w0 p0@0{1,2,3} a1 v1/0{1,2,3}{2} y- r[] o[] x{} b0" ∷
    "= 6" ∷
    "3 Construct c1 g0 w0 p0@0{1,2,3} a1 v1/0{1,2,3}{3} y- r[] o[] x{} b0" ∷
    "= 8" ∷
    "1 RegPrim c1 g0 w0 p1@1{1,2,3} a0 v1/0{1,2,3}{1} y- r[] o[] x{} b0" ∷
    "= 9" ∷
    "2 RegPrim c1 g0 w0 p1@1{1,2,3} a0 v1/0{1,2,3}{2} y- r[] o[] x{} b0" ∷
    "= 10" ∷
    "3 RegPrim c1 g0 w0 p1@1{1,2,3} a0 v1/0{1,2,3}{3} y- r[] o[] x{} b0" ∷
    "= 11" ∷
    "1 TransPrim t1 g0 w0 p1@1{1,2,3} a0 v1/0{1,2,3}{1} y- r[] o[] x{} b0" ∷
    "2 TransPrim t1 g0 w0 p1@1{1,2,3} a0 v1/0{1,2,3}{2} y- r[] o[] x{} b0" ∷
    "= 12" ∷
    "3 TransPrim t1 g0 w0 p1@1{1,2,3} a0 v1/0{1,2,3}{3} y- r[] o[] x{} b0" ∷
    "= 13" ∷
    "1 ExchangeStates c2 g0 w0 p1@1{1,2,3} a0 v- y![] r[] o[] x{} b0" ∷
    "2 ExchangeStates c2 g0 w0 p1@1{1,2,3} a0 v- y![] r[] o[] x{} b0" ∷
    "= 14" ∷
    "3 ExchangeStates c3 g0 w0 p1@1{1,2,3} a0 v- y![] r[] o[] x{} b0" ∷
    "= 16" ∷
    "1 Construct c2 g0 w0 p1@1{1,2,3} a1 v2/1{1,2}{1} y![] r[] o[] x{} b0" ∷
    "= 17" ∷
    "2 Construct c2 g0 w0 p1@1{1,2,3} a1 v2/1{1,2}{2} y![] r[] o[] x{} b0" ∷
    "= 18" ∷
    "3 NonPrim c3 g0 w0 p1@1{1,2,3} a0 v- y![] r[] o[] x{} b0" ∷
    "= 20" ∷
    "1 RegPrim c2 g0 w0 p2@2{1,2} a0 v2/1{1,2}{1} y- r[] o[] x{} b0" ∷
    "= 21" ∷
    "2 RegPrim c2 g0 w0 p2@2{1,2} a0 v2/1{1,2}{2} y- r[] o[] x{} b0" ∷
    "= 22" ∷
    "made 1:1 put \"x\" 5" ∷
    "1 RegPrim c2 g0 w0 p2@2{1,2} a0 v2/1{1,2}{1} y- r[] o[1:1] x{} b0" ∷
    "= 23" ∷
    "made 3:1 put \"x\" 6" ∷
    "3 NonPrim c3 g0 w0 p1@1{1,2,3} a0 v- y![] r[] o[3:1] x{} b0" ∷
    "= 25" ∷
    "order 1 1:1" ∷
    "1 RegPrim c2 g1 w0 p2@2{1,2} a0 v2/1{1,2}{1} y- r[] o[] x{} b0" ∷
    "reply 1:1 done" ∷
    "= 26" ∷
    "2 RegPrim c2 g1 w0 p2@2{1,2} a0 v2/1{1,2}{2} y- r[] o[] x{} b0" ∷
    "= 27" ∷
    "3 NonPrim c3 g0 w0 p1@1{1,2,3} a0 v- y![] r[3:1] o[] x{} b0" ∷
    "= 28" ∷
    "follower 2 1" ∷
    "= 29" ∷
    "3 Down" ∷
    "refused 14 1 3" ∷
    [])
unfolding cases_compute
follow_refused_follower_of_one_that_is_down = refl

-- A follower that was never made is not asked.
follow_refused_question_to_an_unknown_follower :
    put_by "follow" (
    "start 1 2 3" ∷
    "merge 1 2 3" ∷
    "rounds 2" ∷
    "fweak 1 count" ∷
    [])
    ≡ written (
    "= 1" ∷
    "1 NonPrim - g0 w0 p0@0{1,2,3} a0 v- y- r[] o[] x{} b0" ∷
    "2 NonPrim - g0 w0 p0@0{1,2,3} a0 v- y- r[] o[] x{} b0" ∷
    "3 NonPrim - g0 w0 p0@0{1,2,3} a0 v- y- r[] o[] x{} b0" ∷
    "= 2" ∷
    "1 ExchangeStates c1 g0 w0 p0@0{1,2,3} a0 v- y- r[] o[] x{} b0" ∷
    "2 ExchangeStates c1 g0 w0 p0@0{1,2,3} a0 v- y- r[] o[] x{} b0" ∷
    "3 ExchangeStates c1 g0 w0 p0@0{1,2,3} a0 v- y- r[] o[] x{} b0" ∷
    "= 4" ∷
    "1 Construct c1 g0 w0 p0@0{1,2,3} a1 v1/0{1,2,3}{1} y- r[] o[] x{} b0" ∷
    "= 5" ∷
    "2 Construct c1 g0 w0 p0@0{1,2,3} a1 v1/0{1,2,3}{2} y- r[] o[] x{} b0" ∷
    "= 6" ∷
    "3 Construct c1 g0 w0 p0@0{1,2,3} a1 v1/0{1,2,3}{3} y- r[] o[] x{} b0" ∷
    "= 8" ∷
    "1 RegPrim c1 g0 w0 p1@1{1,2,3} a0 v1/0{1,2,3}{1} y- r[] o[] x{} b0" ∷
    "= 9" ∷
    "2 RegPrim c1 g0 w0 p1@1{1,2,3} a0 v1/0{1,2,3}{2} y- r[] o[] x{} b0" ∷
    "= 10" ∷
    "3 RegPrim c1 g0 w0 p1@1{1,2,3} a0 v1/0{1,2,3}{3} y- r[] o[] x{} b0" ∷
    "refused 4 20 1" ∷
    [])
unfolding cases_compute
follow_refused_question_to_an_unknown_follower = refl

-- A follower that is down is not asked.
follow_refused_question_to_one_that_is_down :
    put_by "follow" (
    "start 1 2 3" ∷
    "merge 1 2 3" ∷
    "rounds 2" ∷
    "follower 7 1" ∷
    "fstop 7 0 -" ∷
    "stop 2 0 -" ∷
    "fweak 7 count" ∷
    [])
    ≡ written (
    "= 1" ∷
    "1 NonPrim - g0 w0 p0@0{1,2,3} a0 v- y- r[] o[] x{} b0" ∷
    "2 NonPrim - g0 w0 p0@0{1,2,3} a0 v- y- r[] o[] x{} b0" ∷
    "3 NonPrim - g0 w0 p0@0{1,2,3} a0 v- y- r[] o[] x{} b0" ∷
    "= 2" ∷
    "1 ExchangeStates c1 g0 w0 p0@0{1,2,3} a0 v- y- r[] o[] x{} b0" ∷
    "2 ExchangeStates c1 g0 w0 p0@0{1,2,3} a0 v- y- r[] o[] x{} b0" ∷
    "3 ExchangeStates c1 g0 w0 p0@0{1,2,3} a0 v- y- r[] o[] x{} b0" ∷
    "= 4" ∷
    "1 Construct c1 g0 w0 p0@0{1,2,3} a1 v1/0{1,2,3}{1} y- r[] o[] x{} b0" ∷
    "= 5" ∷
    "2 Construct c1 g0 w0 p0@0{1,2,3} a1 v1/0{1,2,3}{2} y- r[] o[] x{} b0" ∷
    "= 6" ∷
    "3 Construct c1 g0 w0 p0@0{1,2,3} a1 v1/0{1,2,3}{3} y- r[] o[] x{} b0" ∷
    "= 8" ∷
    "1 RegPrim c1 g0 w0 p1@1{1,2,3} a0 v1/0{1,2,3}{1} y- r[] o[] x{} b0" ∷
    "= 9" ∷
    "2 RegPrim c1 g0 w0 p1@1{1,2,3} a0 v1/0{1,2,3}{2} y- r[] o[] x{} b0" ∷
    "= 10" ∷
    "3 RegPrim c1 g0 w0 p1@1{1,2,3} a0 v1/0{1,2,3}{3} y- r[] o[] x{} b0" ∷
    "= 11" ∷
    "follower 7 0" ∷
    "= 12" ∷
    "follower 7 down" ∷
    "= 13" ∷
    "2 Down" ∷
    "refused 7 21 7" ∷
    [])
unfolding cases_compute
follow_refused_question_to_one_that_is_down = refl

-- A follower that was never made is not recovered.
follow_refused_recovery_of_an_unknown_follower :
    put_by "follow" (
    "start 1 2 3" ∷
    "merge 1 2 3" ∷
    "rounds 2" ∷
    "frecover 32" ∷
    [])
    ≡ written (
    "= 1" ∷
    "1 NonPrim - g0 w0 p0@0{1,2,3} a0 v- y- r[] o[] x{} b0" ∷
    "2 NonPrim - g0 w0 p0@0{1,2,3} a0 v- y- r[] o[] x{} b0" ∷
    "3 NonPrim - g0 w0 p0@0{1,2,3} a0 v- y- r[] o[] x{} b0" ∷
    "= 2" ∷
    "1 ExchangeStates c1 g0 w0 p0@0{1,2,3} a0 v- y- r[] o[] x{} b0" ∷
    "2 ExchangeStates c1 g0 w0 p0@0{1,2,3} a0 v- y- r[] o[] x{} b0" ∷
    "3 ExchangeStates c1 g0 w0 p0@0{1,2,3} a0 v- y- r[] o[] x{} b0" ∷
    "= 4" ∷
    "1 Construct c1 g0 w0 p0@0{1,2,3} a1 v1/0{1,2,3}{1} y- r[] o[] x{} b0" ∷
    "= 5" ∷
    "2 Construct c1 g0 w0 p0@0{1,2,3} a1 v1/0{1,2,3}{2} y- r[] o[] x{} b0" ∷
    "= 6" ∷
    "3 Construct c1 g0 w0 p0@0{1,2,3} a1 v1/0{1,2,3}{3} y- r[] o[] x{} b0" ∷
    "= 8" ∷
    "1 RegPrim c1 g0 w0 p1@1{1,2,3} a0 v1/0{1,2,3}{1} y- r[] o[] x{} b0" ∷
    "= 9" ∷
    "2 RegPrim c1 g0 w0 p1@1{1,2,3} a0 v1/0{1,2,3}{2} y- r[] o[] x{} b0" ∷
    "= 10" ∷
    "3 RegPrim c1 g0 w0 p1@1{1,2,3} a0 v1/0{1,2,3}{3} y- r[] o[] x{} b0" ∷
    "refused 4 20 32" ∷
    [])
unfolding cases_compute
follow_refused_recovery_of_an_unknown_follower = refl

-- A follower that is up is not recovered.
follow_refused_recovery_of_one_that_is_up :
    put_by "follow" (
    "start 1 2 3" ∷
    "merge 1 2 3" ∷
    "rounds 2" ∷
    "follower 7 1" ∷
    "fstop 7 5 -" ∷
    "frecover 7" ∷
    [])
    ≡ written (
    "= 1" ∷
    "1 NonPrim - g0 w0 p0@0{1,2,3} a0 v- y- r[] o[] x{} b0" ∷
    "2 NonPrim - g0 w0 p0@0{1,2,3} a0 v- y- r[] o[] x{} b0" ∷
    "3 NonPrim - g0 w0 p0@0{1,2,3} a0 v- y- r[] o[] x{} b0" ∷
    "= 2" ∷
    "1 ExchangeStates c1 g0 w0 p0@0{1,2,3} a0 v- y- r[] o[] x{} b0" ∷
    "2 ExchangeStates c1 g0 w0 p0@0{1,2,3} a0 v- y- r[] o[] x{} b0" ∷
    "3 ExchangeStates c1 g0 w0 p0@0{1,2,3} a0 v- y- r[] o[] x{} b0" ∷
    "= 4" ∷
    "1 Construct c1 g0 w0 p0@0{1,2,3} a1 v1/0{1,2,3}{1} y- r[] o[] x{} b0" ∷
    "= 5" ∷
    "2 Construct c1 g0 w0 p0@0{1,2,3} a1 v1/0{1,2,3}{2} y- r[] o[] x{} b0" ∷
    "= 6" ∷
    "3 Construct c1 g0 w0 p0@0{1,2,3} a1 v1/0{1,2,3}{3} y- r[] o[] x{} b0" ∷
    "= 8" ∷
    "1 RegPrim c1 g0 w0 p1@1{1,2,3} a0 v1/0{1,2,3}{1} y- r[] o[] x{} b0" ∷
    "= 9" ∷
    "2 RegPrim c1 g0 w0 p1@1{1,2,3} a0 v1/0{1,2,3}{2} y- r[] o[] x{} b0" ∷
    "= 10" ∷
    "3 RegPrim c1 g0 w0 p1@1{1,2,3} a0 v1/0{1,2,3}{3} y- r[] o[] x{} b0" ∷
    "= 11" ∷
    "follower 7 0" ∷
    "refused 6 22 7" ∷
    [])
unfolding cases_compute
follow_refused_recovery_of_one_that_is_up = refl

-- A follower that was never made is not stopped.
follow_refused_stop_of_an_unknown_follower :
    put_by "follow" (
    "start 1 2 3" ∷
    "merge 1 2 3" ∷
    "rounds 2" ∷
    "fstop 7 0 -" ∷
    [])
    ≡ written (
    "= 1" ∷
    "1 NonPrim - g0 w0 p0@0{1,2,3} a0 v- y- r[] o[] x{} b0" ∷
    "2 NonPrim - g0 w0 p0@0{1,2,3} a0 v- y- r[] o[] x{} b0" ∷
    "3 NonPrim - g0 w0 p0@0{1,2,3} a0 v- y- r[] o[] x{} b0" ∷
    "= 2" ∷
    "1 ExchangeStates c1 g0 w0 p0@0{1,2,3} a0 v- y- r[] o[] x{} b0" ∷
    "2 ExchangeStates c1 g0 w0 p0@0{1,2,3} a0 v- y- r[] o[] x{} b0" ∷
    "3 ExchangeStates c1 g0 w0 p0@0{1,2,3} a0 v- y- r[] o[] x{} b0" ∷
    "= 4" ∷
    "1 Construct c1 g0 w0 p0@0{1,2,3} a1 v1/0{1,2,3}{1} y- r[] o[] x{} b0" ∷
    "= 5" ∷
    "2 Construct c1 g0 w0 p0@0{1,2,3} a1 v1/0{1,2,3}{2} y- r[] o[] x{} b0" ∷
    "= 6" ∷
    "3 Construct c1 g0 w0 p0@0{1,2,3} a1 v1/0{1,2,3}{3} y- r[] o[] x{} b0" ∷
    "= 8" ∷
    "1 RegPrim c1 g0 w0 p1@1{1,2,3} a0 v1/0{1,2,3}{1} y- r[] o[] x{} b0" ∷
    "= 9" ∷
    "2 RegPrim c1 g0 w0 p1@1{1,2,3} a0 v1/0{1,2,3}{2} y- r[] o[] x{} b0" ∷
    "= 10" ∷
    "3 RegPrim c1 g0 w0 p1@1{1,2,3} a0 v1/0{1,2,3}{3} y- r[] o[] x{} b0" ∷
    "refused 4 20 7" ∷
    [])
unfolding cases_compute
follow_refused_stop_of_an_unknown_follower = refl

-- A follower that is down is not stopped.
follow_refused_stop_of_one_that_is_down :
    put_by "follow" (
    "start 1 2 3" ∷
    "merge 1 2 3" ∷
    "rounds 2" ∷
    "follower 7 1" ∷
    "fstop 7 0 -" ∷
    "stop 2 0 -" ∷
    "fstop 7 1 -" ∷
    [])
    ≡ written (
    "= 1" ∷
    "1 NonPrim - g0 w0 p0@0{1,2,3} a0 v- y- r[] o[] x{} b0" ∷
    "2 NonPrim - g0 w0 p0@0{1,2,3} a0 v- y- r[] o[] x{} b0" ∷
    "3 NonPrim - g0 w0 p0@0{1,2,3} a0 v- y- r[] o[] x{} b0" ∷
    "= 2" ∷
    "1 ExchangeStates c1 g0 w0 p0@0{1,2,3} a0 v- y- r[] o[] x{} b0" ∷
    "2 ExchangeStates c1 g0 w0 p0@0{1,2,3} a0 v- y- r[] o[] x{} b0" ∷
    "3 ExchangeStates c1 g0 w0 p0@0{1,2,3} a0 v- y- r[] o[] x{} b0" ∷
    "= 4" ∷
    "1 Construct c1 g0 w0 p0@0{1,2,3} a1 v1/0{1,2,3}{1} y- r[] o[] x{} b0" ∷
    "= 5" ∷
    "2 Construct c1 g0 w0 p0@0{1,2,3} a1 v1/0{1,2,3}{2} y- r[] o[] x{} b0" ∷
    "= 6" ∷
    "3 Construct c1 g0 w0 p0@0{1,2,3} a1 v1/0{1,2,3}{3} y- r[] o[] x{} b0" ∷
    "= 8" ∷
    "1 RegPrim c1 g0 w0 p1@1{1,2,3} a0 v1/0{1,2,3}{1} y- r[] o[] x{} b0" ∷
    "= 9" ∷
    "2 RegPrim c1 g0 w0 p1@1{1,2,3} a0 v1/0{1,2,3}{2} y- r[] o[] x{} b0" ∷
    "= 10" ∷
    "3 RegPrim c1 g0 w0 p1@1{1,2,3} a0 v1/0{1,2,3}{3} y- r[] o[] x{} b0" ∷
    "= 11" ∷
    "follower 7 0" ∷
    "= 12" ∷
    "follower 7 down" ∷
    "= 13" ∷
    "2 Down" ∷
    "refused 7 21 7" ∷
    [])
unfolding cases_compute
follow_refused_stop_of_one_that_is_down = refl
