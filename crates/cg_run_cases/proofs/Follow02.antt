-- Cases of cases/ with their whole reports, which `.ci/theorems` writes down here.
use Rattle.std.specs.Prelude.{◌≡◌, [], ◌∷◌}
use mathlib.Core.Path.{refl}
use Rattle.cg_run_cases.specs.Replaying.{put_by, written}
use Rattle.cg_run_cases.specs.Computing.{cases_compute}

-- A follower is made from a replica that joined, and fed by it and by the others.
follow_from_a_joiner :
    put_by "follow" (
    "start 1 2 3" ∷
    "merge 1 2 3" ∷
    "rounds 2" ∷
    "request 1 put \"x\" 1" ∷
    "rounds 1" ∷
    "join 2 4" ∷
    "rounds 1" ∷
    "transfer 2 4 9" ∷
    "follower 1 4" ∷
    "fweak 1 get \"x\"" ∷
    "split 1 2 3" ∷
    "merge 1 2 3 4" ∷
    "rounds 3" ∷
    "request 4 inc \"x\" 5 ? get \"x\"" ∷
    "rounds 1" ∷
    "feed 4 1 2" ∷
    "fweak 1 get \"x\"" ∷
    "feed 1 1 1" ∷
    "end" ∷
    [])
    ≡ written (
    "= 1" ∷
    "1 NonPrim - g0 w0 p0@0{1,2,3} a0 v- y- r[] o[] x{} b0" ∷
    "2 NonPrim - g0 w0 p0@0{1,2,3} a0 v- y- r[] o[] x{} b0" ∷
    "3 NonPrim - g0 w0 p0@0{1,2,3} a0 v- y- r[] o[] x{} b0" ∷
    "= 2" ∷
    "1 ExchangeStates c1 g0 w0 p0@0{1,2,3} a0 v- y- r[] o[] x{} b0" ∷
    "2 ExchangeStates c1 g0 w0 p0@0{1,2,3} a0 v- y- r[] o[] x{} b0" ∷
    "3 ExchangeStates c1 g0 w0 p0@0{1,2,3} a0 v- y- r[] o[] x{} b0" ∷
    "= 4" ∷
    "1 Construct c1 g0 w0 p0@0{1,2,3} a1 v1/0{1,2,3}{1} y- r[] o[] x{} b0" ∷
    "= 5" ∷
    "2 Construct c1 g0 w0 p0@0{1,2,3} a1 v1/0{1,2,3}{2} y- r[] o[] x{} b0" ∷
    "= 6" ∷
    "3 Construct c1 g0 w0 p0@0{1,2,3} a1 v1/0{1,2,3}{3} y- r[] o[] x{} b0" ∷
    "= 8" ∷
    "1 RegPrim c1 g0 w0 p1@1{1,2,3} a0 v1/0{1,2,3}{1} y- r[] o[] x{} b0" ∷
    "= 9" ∷
    "2 RegPrim c1 g0 w0 p1@1{1,2,3} a0 v1/0{1,2,3}{2} y- r[] o[] x{} b0" ∷
    "= 10" ∷
    "3 RegPrim c1 g0 w0 p1@1{1,2,3} a0 v1/0{1,2,3}{3} y- r[] o[] x{} b0" ∷
    "= 11" ∷
    "made 1:1 put \"x\" 1" ∷
    "1 RegPrim c1 g0 w0 p1@1{1,2,3} a0 v1/0{1,2,3}{1} y- r[] o[1:1] x{} b0" ∷
    "= 13" ∷
    "order 1 1:1" ∷
    "1 RegPrim c1 g1 w0 p1@1{1,2,3} a0 v1/0{1,2,3}{1} y- r[] o[] x{} b0" ∷
    "reply 1:1 done" ∷
    "= 14" ∷
    "2 RegPrim c1 g1 w0 p1@1{1,2,3} a0 v1/0{1,2,3}{2} y- r[] o[] x{} b0" ∷
    "= 15" ∷
    "3 RegPrim c1 g1 w0 p1@1{1,2,3} a0 v1/0{1,2,3}{3} y- r[] o[] x{} b0" ∷
    "= 16" ∷
    "made 2:1 join 4" ∷
    "2 RegPrim c1 g1 w0 p1@1{1,2,3} a0 v1/0{1,2,3}{2} y- r[] o[2:1] x{} b0" ∷
    "= 18" ∷
    "order 2 2:1" ∷
    "1 RegPrim c1 g2 w0 p1@1{1,2,3} a0 v1/0{1,2,3}{1} y- r[] o[] x{} b0" ∷
    "= 19" ∷
    "2 RegPrim c1 g2 w0 p1@1{1,2,3} a0 v1/0{1,2,3}{2} y- r[] o[] x{} b0" ∷
    "reply 2:1 done" ∷
    "= 20" ∷
    "3 RegPrim c1 g2 w0 p1@1{1,2,3} a0 v1/0{1,2,3}{3} y- r[] o[] x{} b0" ∷
    "= 21" ∷
    "4 NonPrim - g2 w0 p1@1{1,2,3} a0 v- y- r[] o[] x{} b0" ∷
    "pieces 4 5/5" ∷
    "= 22" ∷
    "follower 1 2" ∷
    "= 23" ∷
    "fweak 1 1" ∷
    "= 24" ∷
    "1 TransPrim t1 g2 w0 p1@1{1,2,3} a0 v1/0{1,2,3}{1} y- r[] o[] x{} b0" ∷
    "2 TransPrim t1 g2 w0 p1@1{1,2,3} a0 v1/0{1,2,3}{2} y- r[] o[] x{} b0" ∷
    "3 TransPrim t1 g2 w0 p1@1{1,2,3} a0 v1/0{1,2,3}{3} y- r[] o[] x{} b0" ∷
    "= 25" ∷
    "1 ExchangeStates c2 g2 w0 p1@1{1,2,3} a0 v- y![] r[] o[] x{} b0" ∷
    "2 ExchangeStates c2 g2 w0 p1@1{1,2,3} a0 v- y![] r[] o[] x{} b0" ∷
    "3 ExchangeStates c2 g2 w0 p1@1{1,2,3} a0 v- y![] r[] o[] x{} b0" ∷
    "4 ExchangeStates c2 g2 w0 p1@1{1,2,3} a0 v- y- r[] o[] x{} b0" ∷
    "= 27" ∷
    "1 Construct c2 g2 w0 p1@1{1,2,3} a1 v2/1{1,2,3,4}{1} y![] r[] o[] x{} b0" ∷
    "= 28" ∷
    "2 Construct c2 g2 w0 p1@1{1,2,3} a1 v2/1{1,2,3,4}{2} y![] r[] o[] x{} b0" ∷
    "= 29" ∷
    "3 Construct c2 g2 w0 p1@1{1,2,3} a1 v2/1{1,2,3,4}{3} y![] r[] o[] x{} b0" ∷
    "= 30" ∷
    "4 Construct c2 g2 w0 p1@1{1,2,3} a1 v2/1{1,2,3,4}{4} y![] r[] o[] x{} b0" ∷
    "= 32" ∷
    "1 RegPrim c2 g2 w0 p2@2{1,2,3,4} a0 v2/1{1,2,3,4}{1} y- r[] o[] x{} b0" ∷
    "= 33" ∷
    "2 RegPrim c2 g2 w0 p2@2{1,2,3,4} a0 v2/1{1,2,3,4}{2} y- r[] o[] x{} b0" ∷
    "= 34" ∷
    "3 RegPrim c2 g2 w0 p2@2{1,2,3,4} a0 v2/1{1,2,3,4}{3} y- r[] o[] x{} b0" ∷
    "= 35" ∷
    "4 RegPrim c2 g2 w0 p2@2{1,2,3,4} a0 v2/1{1,2,3,4}{4} y- r[] o[] x{} b0" ∷
    "= 37" ∷
    "made 4:1 inc \"x\" 5 ? get \"x\"" ∷
    "4 RegPrim c2 g2 w0 p2@2{1,2,3,4} a0 v2/1{1,2,3,4}{4} y- r[] o[4:1] x{} b0" ∷
    "= 39" ∷
    "order 3 4:1" ∷
    "1 RegPrim c2 g3 w0 p2@2{1,2,3,4} a0 v2/1{1,2,3,4}{1} y- r[] o[] x{} b0" ∷
    "= 40" ∷
    "2 RegPrim c2 g3 w0 p2@2{1,2,3,4} a0 v2/1{1,2,3,4}{2} y- r[] o[] x{} b0" ∷
    "= 41" ∷
    "3 RegPrim c2 g3 w0 p2@2{1,2,3,4} a0 v2/1{1,2,3,4}{3} y- r[] o[] x{} b0" ∷
    "= 42" ∷
    "4 RegPrim c2 g3 w0 p2@2{1,2,3,4} a0 v2/1{1,2,3,4}{4} y- r[] o[] x{} b0" ∷
    "reply 4:1 done ? 6" ∷
    "= 43" ∷
    "follower 1 3" ∷
    "= 44" ∷
    "fweak 1 6" ∷
    "end 45" ∷
    [])
unfolding cases_compute
follow_from_a_joiner = refl

-- Joins, leaves, aborted updates and queries alone are places like all others.
follow_joins_and_leaves_are_fed :
    put_by "follow" (
    "start 1 2 3" ∷
    "merge 1 2 3" ∷
    "rounds 2" ∷
    "follower 1 1" ∷
    "join 1 9*3" ∷
    "leave 2 3" ∷
    "request 1 need \"x\" 1; put \"y\" 1" ∷
    "request 2 ? count" ∷
    "request 1 inc \"z\" 9223372036854775807; inc \"z\" 1" ∷
    "request 2 put \"w\" 1" ∷
    "rounds 1" ∷
    "feed 1 1 1" ∷
    "feed 1 1 1" ∷
    "feed 2 1 2" ∷
    "feed 2 1 9" ∷
    "fweak 1 count" ∷
    "fweak 1 keys \"\"" ∷
    "end" ∷
    [])
    ≡ written (
    "= 1" ∷
    "1 NonPrim - g0 w0 p0@0{1,2,3} a0 v- y- r[] o[] x{} b0" ∷
    "2 NonPrim - g0 w0 p0@0{1,2,3} a0 v- y- r[] o[] x{} b0" ∷
    "3 NonPrim - g0 w0 p0@0{1,2,3} a0 v- y- r[] o[] x{} b0" ∷
    "= 2" ∷
    "1 ExchangeStates c1 g0 w0 p0@0{1,2,3} a0 v- y- r[] o[] x{} b0" ∷
    "2 ExchangeStates c1 g0 w0 p0@0{1,2,3} a0 v- y- r[] o[] x{} b0" ∷
    "3 ExchangeStates c1 g0 w0 p0@0{1,2,3} a0 v- y- r[] o[] x{} b0" ∷
    "= 4" ∷
    "1 Construct c1 g0 w0 p0@0{1,2,3} a1 v1/0{1,2,3}{1} y- r[] o[] x{} b0" ∷
    "= 5" ∷
    "2 Construct c1 g0 w0 p0@0{1,2,3} a1 v1/0{1,2,3}{2} y- r[] o[] x{} b0" ∷
    "= 6" ∷
    "3 Construct c1 g0 w0 p0@0{1,2,3} a1 v1/0{1,2,3}{3} y- r[] o[] x{} b0" ∷
    "= 8" ∷
    "1 RegPrim c1 g0 w0 p1@1{1,2,3} a0 v1/0{1,2,3}{1} y- r[] o[] x{} b0" ∷
    "= 9" ∷
    "2 RegPrim c1 g0 w0 p1@1{1,2,3} a0 v1/0{1,2,3}{2} y- r[] o[] x{} b0" ∷
    "= 10" ∷
    "3 RegPrim c1 g0 w0 p1@1{1,2,3} a0 v1/0{1,2,3}{3} y- r[] o[] x{} b0" ∷
    "= 11" ∷
    "follower 1 0" ∷
    "= 12" ∷
    "made 1:1 join 9*3" ∷
    "1 RegPrim c1 g0 w0 p1@1{1,2,3} a0 v1/0{1,2,3}{1} y- r[] o[1:1] x{} b0" ∷
    "= 13" ∷
    "made 2:1 leave 3" ∷
    "2 RegPrim c1 g0 w0 p1@1{1,2,3} a0 v1/0{1,2,3}{2} y- r[] o[2:1] x{} b0" ∷
    "= 14" ∷
    "made 1:2 need \"x\" 1; put \"y\" 1" ∷
    "1 RegPrim c1 g0 w0 p1@1{1,2,3} a0 v1/0{1,2,3}{1} y- r[] o[1:1,1:2] x{} b0" ∷
    "= 15" ∷
    "made 2:2 ? count" ∷
    "2 RegPrim c1 g0 w0 p1@1{1,2,3} a0 v1/0{1,2,3}{2} y- r[] o[2:1,2:2] x{} b0" ∷
    "= 16" ∷
    "made 1:3 inc \"z\" 9223372036854775807; inc \"z\" 1" ∷
    "1 RegPrim c1 g0 w0 p1@1{1,2,3} a0 v1/0{1,2,3}{1} y- r[] o[1:1,1:2,1:3] x{} b0" ∷
    "= 17" ∷
    "made 2:3 put \"w\" 1" ∷
    "2 RegPrim c1 g0 w0 p1@1{1,2,3} a0 v1/0{1,2,3}{2} y- r[] o[2:1,2:2,2:3] x{} b0" ∷
    "= 19" ∷
    "order 1 1:1" ∷
    "order 2 1:2" ∷
    "order 3 1:3" ∷
    "order 4 2:1" ∷
    "order 5 2:2" ∷
    "order 6 2:3" ∷
    "1 RegPrim c1 g6 w0 p1@1{1,2,3} a0 v1/0{1,2,3}{1} y- r[] o[] x{3} b0" ∷
    "reply 1:1 done" ∷
    "reply 1:2 aborted 1" ∷
    "reply 1:3 range 2" ∷
    "= 20" ∷
    "2 RegPrim c1 g6 w0 p1@1{1,2,3} a0 v1/0{1,2,3}{2} y- r[] o[] x{3} b0" ∷
    "reply 2:1 done" ∷
    "reply 2:2 done ? count 0" ∷
    "reply 2:3 done" ∷
    "= 21" ∷
    "3 RegPrim c1 g6 w0 p1@1{1,2,3} a0 v1/0{1,2,3}{3} y- r[] o[] x{3} b0" ∷
    "= 22" ∷
    "follower 1 1" ∷
    "= 23" ∷
    "follower 1 2" ∷
    "= 24" ∷
    "follower 1 4" ∷
    "= 25" ∷
    "follower 1 6" ∷
    "= 26" ∷
    "fweak 1 count 1" ∷
    "= 27" ∷
    "fweak 1 keys \"w\"" ∷
    "end 27" ∷
    [])
unfolding cases_compute
follow_joins_and_leaves_are_fed = refl

-- A follower is made anew at the same cursor, which prints nothing, further on, and while it is down; the new disk has no stop armed.
follow_made_anew :
    put_by "follow" (
    "start 1 2 3" ∷
    "merge 1 2 3" ∷
    "rounds 2" ∷
    "follower 9 1" ∷
    "follower 9 2" ∷
    "fstop 9 1 -" ∷
    "follower 9 2" ∷
    "request 1 put \"x\" 1" ∷
    "rounds 1" ∷
    "feed 3 9 1" ∷
    "fstop 9 0 -" ∷
    "follower 9 3" ∷
    "request 1 put \"x\" 2" ∷
    "rounds 1" ∷
    "follower 9 1" ∷
    "fweak 9 get \"x\"" ∷
    "fstop 9 0 07" ∷
    "follower 9 2" ∷
    "frecover 9" ∷
    [])
    ≡ written (
    "= 1" ∷
    "1 NonPrim - g0 w0 p0@0{1,2,3} a0 v- y- r[] o[] x{} b0" ∷
    "2 NonPrim - g0 w0 p0@0{1,2,3} a0 v- y- r[] o[] x{} b0" ∷
    "3 NonPrim - g0 w0 p0@0{1,2,3} a0 v- y- r[] o[] x{} b0" ∷
    "= 2" ∷
    "1 ExchangeStates c1 g0 w0 p0@0{1,2,3} a0 v- y- r[] o[] x{} b0" ∷
    "2 ExchangeStates c1 g0 w0 p0@0{1,2,3} a0 v- y- r[] o[] x{} b0" ∷
    "3 ExchangeStates c1 g0 w0 p0@0{1,2,3} a0 v- y- r[] o[] x{} b0" ∷
    "= 4" ∷
    "1 Construct c1 g0 w0 p0@0{1,2,3} a1 v1/0{1,2,3}{1} y- r[] o[] x{} b0" ∷
    "= 5" ∷
    "2 Construct c1 g0 w0 p0@0{1,2,3} a1 v1/0{1,2,3}{2} y- r[] o[] x{} b0" ∷
    "= 6" ∷
    "3 Construct c1 g0 w0 p0@0{1,2,3} a1 v1/0{1,2,3}{3} y- r[] o[] x{} b0" ∷
    "= 8" ∷
    "1 RegPrim c1 g0 w0 p1@1{1,2,3} a0 v1/0{1,2,3}{1} y- r[] o[] x{} b0" ∷
    "= 9" ∷
    "2 RegPrim c1 g0 w0 p1@1{1,2,3} a0 v1/0{1,2,3}{2} y- r[] o[] x{} b0" ∷
    "= 10" ∷
    "3 RegPrim c1 g0 w0 p1@1{1,2,3} a0 v1/0{1,2,3}{3} y- r[] o[] x{} b0" ∷
    "= 11" ∷
    "follower 9 0" ∷
    "= 15" ∷
    "made 1:1 put \"x\" 1" ∷
    "1 RegPrim c1 g0 w0 p1@1{1,2,3} a0 v1/0{1,2,3}{1} y- r[] o[1:1] x{} b0" ∷
    "= 17" ∷
    "order 1 1:1" ∷
    "1 RegPrim c1 g1 w0 p1@1{1,2,3} a0 v1/0{1,2,3}{1} y- r[] o[] x{} b0" ∷
    "reply 1:1 done" ∷
    "= 18" ∷
    "2 RegPrim c1 g1 w0 p1@1{1,2,3} a0 v1/0{1,2,3}{2} y- r[] o[] x{} b0" ∷
    "= 19" ∷
    "3 RegPrim c1 g1 w0 p1@1{1,2,3} a0 v1/0{1,2,3}{3} y- r[] o[] x{} b0" ∷
    "= 20" ∷
    "follower 9 1" ∷
    "= 21" ∷
    "follower 9 down" ∷
    "= 22" ∷
    "follower 9 1" ∷
    "= 23" ∷
    "made 1:2 put \"x\" 2" ∷
    "1 RegPrim c1 g1 w0 p1@1{1,2,3} a0 v1/0{1,2,3}{1} y- r[] o[1:2] x{} b0" ∷
    "= 25" ∷
    "order 2 1:2" ∷
    "1 RegPrim c1 g2 w0 p1@1{1,2,3} a0 v1/0{1,2,3}{1} y- r[] o[] x{} b0" ∷
    "reply 1:2 done" ∷
    "= 26" ∷
    "2 RegPrim c1 g2 w0 p1@1{1,2,3} a0 v1/0{1,2,3}{2} y- r[] o[] x{} b0" ∷
    "= 27" ∷
    "3 RegPrim c1 g2 w0 p1@1{1,2,3} a0 v1/0{1,2,3}{3} y- r[] o[] x{} b0" ∷
    "= 28" ∷
    "follower 9 2" ∷
    "= 29" ∷
    "fweak 9 2" ∷
    "= 30" ∷
    "follower 9 down" ∷
    "= 31" ∷
    "follower 9 2" ∷
    "refused 19 22 9" ∷
    [])
unfolding cases_compute
follow_made_anew = refl

-- A replica that feeds crashes, with what it had committed; the follower keeps its cursor, is fed by another and later by the recovered one.
follow_over_a_recovery :
    put_by "follow" (
    "start 1 2 3" ∷
    "merge 1 2 3" ∷
    "rounds 2" ∷
    "request 1 put \"x\" 1" ∷
    "rounds 1" ∷
    "follower 3 1" ∷
    "request 2 inc \"x\" 2" ∷
    "gather" ∷
    "stop 1 2 01" ∷
    "deliver 1 1" ∷
    "recover 1" ∷
    "feed 1 3 5" ∷
    "deliver 2 1" ∷
    "feed 2 3 5" ∷
    "stop 3 3 01" ∷
    "deliver 3 1" ∷
    "recover 3" ∷
    "feed 3 3 5" ∷
    "split 2" ∷
    "merge 1 2 3" ∷
    "rounds 4" ∷
    "request 1 inc \"x\" 3" ∷
    "rounds 1" ∷
    "feed 3 3 5" ∷
    "fweak 3 get \"x\"" ∷
    "follower 4 1" ∷
    "end" ∷
    [])
    ≡ written (
    "= 1" ∷
    "1 NonPrim - g0 w0 p0@0{1,2,3} a0 v- y- r[] o[] x{} b0" ∷
    "2 NonPrim - g0 w0 p0@0{1,2,3} a0 v- y- r[] o[] x{} b0" ∷
    "3 NonPrim - g0 w0 p0@0{1,2,3} a0 v- y- r[] o[] x{} b0" ∷
    "= 2" ∷
    "1 ExchangeStates c1 g0 w0 p0@0{1,2,3} a0 v- y- r[] o[] x{} b0" ∷
    "2 ExchangeStates c1 g0 w0 p0@0{1,2,3} a0 v- y- r[] o[] x{} b0" ∷
    "3 ExchangeStates c1 g0 w0 p0@0{1,2,3} a0 v- y- r[] o[] x{} b0" ∷
    "= 4" ∷
    "1 Construct c1 g0 w0 p0@0{1,2,3} a1 v1/0{1,2,3}{1} y- r[] o[] x{} b0" ∷
    "= 5" ∷
    "2 Construct c1 g0 w0 p0@0{1,2,3} a1 v1/0{1,2,3}{2} y- r[] o[] x{} b0" ∷
    "= 6" ∷
    "3 Construct c1 g0 w0 p0@0{1,2,3} a1 v1/0{1,2,3}{3} y- r[] o[] x{} b0" ∷
    "= 8" ∷
    "1 RegPrim c1 g0 w0 p1@1{1,2,3} a0 v1/0{1,2,3}{1} y- r[] o[] x{} b0" ∷
    "= 9" ∷
    "2 RegPrim c1 g0 w0 p1@1{1,2,3} a0 v1/0{1,2,3}{2} y- r[] o[] x{} b0" ∷
    "= 10" ∷
    "3 RegPrim c1 g0 w0 p1@1{1,2,3} a0 v1/0{1,2,3}{3} y- r[] o[] x{} b0" ∷
    "= 11" ∷
    "made 1:1 put \"x\" 1" ∷
    "1 RegPrim c1 g0 w0 p1@1{1,2,3} a0 v1/0{1,2,3}{1} y- r[] o[1:1] x{} b0" ∷
    "= 13" ∷
    "order 1 1:1" ∷
    "1 RegPrim c1 g1 w0 p1@1{1,2,3} a0 v1/0{1,2,3}{1} y- r[] o[] x{} b0" ∷
    "reply 1:1 done" ∷
    "= 14" ∷
    "2 RegPrim c1 g1 w0 p1@1{1,2,3} a0 v1/0{1,2,3}{2} y- r[] o[] x{} b0" ∷
    "= 15" ∷
    "3 RegPrim c1 g1 w0 p1@1{1,2,3} a0 v1/0{1,2,3}{3} y- r[] o[] x{} b0" ∷
    "= 16" ∷
    "follower 3 1" ∷
    "= 17" ∷
    "made 2:1 inc \"x\" 2" ∷
    "2 RegPrim c1 g1 w0 p1@1{1,2,3} a0 v1/0{1,2,3}{2} y- r[] o[2:1] x{} b0" ∷
    "= 20" ∷
    "1 Down" ∷
    "= 21" ∷
    "1 NonPrim - g1 w0 p1@1{1,2,3} a0 v1/0{1,2,3}{1} y- r[] o[] x{} b0" ∷
    "= 23" ∷
    "order 2 2:1" ∷
    "2 RegPrim c1 g2 w0 p1@1{1,2,3} a0 v1/0{1,2,3}{2} y- r[] o[] x{} b0" ∷
    "reply 2:1 done" ∷
    "= 24" ∷
    "follower 3 2" ∷
    "= 26" ∷
    "3 Down" ∷
    "= 27" ∷
    "3 NonPrim - g2 w0 p1@1{1,2,3} a0 v1/0{1,2,3}{3} y- r[] o[] x{} b0" ∷
    "= 29" ∷
    "2 TransPrim t1 g2 w0 p1@1{1,2,3} a0 v1/0{1,2,3}{2} y- r[] o[] x{} b0" ∷
    "= 30" ∷
    "1 ExchangeStates c2 g1 w0 p1@1{1,2,3} a0 v1/0{1,2,3}{1} y- r[] o[] x{} b0" ∷
    "2 ExchangeStates c2 g2 w0 p1@1{1,2,3} a0 v- y![] r[] o[] x{} b0" ∷
    "3 ExchangeStates c2 g2 w0 p1@1{1,2,3} a0 v1/0{1,2,3}{3} y- r[] o[] x{} b0" ∷
    "= 32" ∷
    "1 ExchangeActions c2 g1 w0 p1@1{1,2,3} a0 v1/0{1,2,3}{1} y- r[] o[] x{} b0" ∷
    "= 33" ∷
    "2 ExchangeActions c2 g2 w0 p1@1{1,2,3} a0 v- y![] r[] o[] x{} b0" ∷
    "= 34" ∷
    "3 ExchangeActions c2 g2 w0 p1@1{1,2,3} a0 v1/0{1,2,3}{3} y- r[] o[] x{} b0" ∷
    "= 36" ∷
    "1 Construct c2 g2 w0 p1@1{1,2,3} a1 v2/1{1,2,3}{1} y![] r[] o[] x{} b0" ∷
    "= 37" ∷
    "2 Construct c2 g2 w0 p1@1{1,2,3} a1 v2/1{1,2,3}{2} y![] r[] o[] x{} b0" ∷
    "= 38" ∷
    "3 Construct c2 g2 w0 p1@1{1,2,3} a1 v2/1{1,2,3}{3} y![] r[] o[] x{} b0" ∷
    "= 40" ∷
    "1 RegPrim c2 g2 w0 p2@2{1,2,3} a0 v2/1{1,2,3}{1} y- r[] o[] x{} b0" ∷
    "= 41" ∷
    "2 RegPrim c2 g2 w0 p2@2{1,2,3} a0 v2/1{1,2,3}{2} y- r[] o[] x{} b0" ∷
    "= 42" ∷
    "3 RegPrim c2 g2 w0 p2@2{1,2,3} a0 v2/1{1,2,3}{3} y- r[] o[] x{} b0" ∷
    "= 44" ∷
    "made 1:2 inc \"x\" 3" ∷
    "1 RegPrim c2 g2 w0 p2@2{1,2,3} a0 v2/1{1,2,3}{1} y- r[] o[1:2] x{} b0" ∷
    "= 46" ∷
    "order 3 1:2" ∷
    "1 RegPrim c2 g3 w0 p2@2{1,2,3} a0 v2/1{1,2,3}{1} y- r[] o[] x{} b0" ∷
    "reply 1:2 done" ∷
    "= 47" ∷
    "2 RegPrim c2 g3 w0 p2@2{1,2,3} a0 v2/1{1,2,3}{2} y- r[] o[] x{} b0" ∷
    "= 48" ∷
    "3 RegPrim c2 g3 w0 p2@2{1,2,3} a0 v2/1{1,2,3}{3} y- r[] o[] x{} b0" ∷
    "= 49" ∷
    "follower 3 3" ∷
    "= 50" ∷
    "fweak 3 6" ∷
    "= 51" ∷
    "follower 4 3" ∷
    "end 51" ∷
    [])
unfolding cases_compute
follow_over_a_recovery = refl

-- That a place was discarded is told even where one more is asked than is there.
follow_refused_discarded_before_the_count :
    put_by "follow" (
    "start 1 2 3" ∷
    "merge 1 2 3" ∷
    "rounds 2" ∷
    "request 1 put \"a\" 1" ∷
    "rounds 1" ∷
    "follower 4 1" ∷
    "request 1 put \"b\" 2" ∷
    "request 2 put \"c\" 3" ∷
    "request 3 put \"d\" 4" ∷
    "rounds 1" ∷
    "request 1 inc \"a\" 1" ∷
    "request 2 inc \"b\" 1" ∷
    "request 3 inc \"c\" 1" ∷
    "rounds 1" ∷
    "request 1 put \"e\" 1" ∷
    "request 2 put \"e\" 2" ∷
    "request 3 put \"e\" 3" ∷
    "rounds 1" ∷
    "feed 2 4 1000000" ∷
    [])
    ≡ written (
    "= 1" ∷
    "1 NonPrim - g0 w0 p0@0{1,2,3} a0 v- y- r[] o[] x{} b0" ∷
    "2 NonPrim - g0 w0 p0@0{1,2,3} a0 v- y- r[] o[] x{} b0" ∷
    "3 NonPrim - g0 w0 p0@0{1,2,3} a0 v- y- r[] o[] x{} b0" ∷
    "= 2" ∷
    "1 ExchangeStates c1 g0 w0 p0@0{1,2,3} a0 v- y- r[] o[] x{} b0" ∷
    "2 ExchangeStates c1 g0 w0 p0@0{1,2,3} a0 v- y- r[] o[] x{} b0" ∷
    "3 ExchangeStates c1 g0 w0 p0@0{1,2,3} a0 v- y- r[] o[] x{} b0" ∷
    "= 4" ∷
    "1 Construct c1 g0 w0 p0@0{1,2,3} a1 v1/0{1,2,3}{1} y- r[] o[] x{} b0" ∷
    "= 5" ∷
    "2 Construct c1 g0 w0 p0@0{1,2,3} a1 v1/0{1,2,3}{2} y- r[] o[] x{} b0" ∷
    "= 6" ∷
    "3 Construct c1 g0 w0 p0@0{1,2,3} a1 v1/0{1,2,3}{3} y- r[] o[] x{} b0" ∷
    "= 8" ∷
    "1 RegPrim c1 g0 w0 p1@1{1,2,3} a0 v1/0{1,2,3}{1} y- r[] o[] x{} b0" ∷
    "= 9" ∷
    "2 RegPrim c1 g0 w0 p1@1{1,2,3} a0 v1/0{1,2,3}{2} y- r[] o[] x{} b0" ∷
    "= 10" ∷
    "3 RegPrim c1 g0 w0 p1@1{1,2,3} a0 v1/0{1,2,3}{3} y- r[] o[] x{} b0" ∷
    "= 11" ∷
    "made 1:1 put \"a\" 1" ∷
    "1 RegPrim c1 g0 w0 p1@1{1,2,3} a0 v1/0{1,2,3}{1} y- r[] o[1:1] x{} b0" ∷
    "= 13" ∷
    "order 1 1:1" ∷
    "1 RegPrim c1 g1 w0 p1@1{1,2,3} a0 v1/0{1,2,3}{1} y- r[] o[] x{} b0" ∷
    "reply 1:1 done" ∷
    "= 14" ∷
    "2 RegPrim c1 g1 w0 p1@1{1,2,3} a0 v1/0{1,2,3}{2} y- r[] o[] x{} b0" ∷
    "= 15" ∷
    "3 RegPrim c1 g1 w0 p1@1{1,2,3} a0 v1/0{1,2,3}{3} y- r[] o[] x{} b0" ∷
    "= 16" ∷
    "follower 4 1" ∷
    "= 17" ∷
    "made 1:2 put \"b\" 2" ∷
    "1 RegPrim c1 g1 w0 p1@1{1,2,3} a0 v1/0{1,2,3}{1} y- r[] o[1:2] x{} b0" ∷
    "= 18" ∷
    "made 2:1 put \"c\" 3" ∷
    "2 RegPrim c1 g1 w0 p1@1{1,2,3} a0 v1/0{1,2,3}{2} y- r[] o[2:1] x{} b0" ∷
    "= 19" ∷
    "made 3:1 put \"d\" 4" ∷
    "3 RegPrim c1 g1 w0 p1@1{1,2,3} a0 v1/0{1,2,3}{3} y- r[] o[3:1] x{} b0" ∷
    "= 21" ∷
    "order 2 1:2" ∷
    "order 3 2:1" ∷
    "order 4 3:1" ∷
    "1 RegPrim c1 g4 w1 p1@1{1,2,3} a0 v1/0{1,2,3}{1} y- r[] o[] x{} b0" ∷
    "reply 1:2 done" ∷
    "= 22" ∷
    "2 RegPrim c1 g4 w1 p1@1{1,2,3} a0 v1/0{1,2,3}{2} y- r[] o[] x{} b0" ∷
    "reply 2:1 done" ∷
    "= 23" ∷
    "3 RegPrim c1 g4 w1 p1@1{1,2,3} a0 v1/0{1,2,3}{3} y- r[] o[] x{} b0" ∷
    "reply 3:1 done" ∷
    "= 24" ∷
    "made 1:3 inc \"a\" 1" ∷
    "1 RegPrim c1 g4 w1 p1@1{1,2,3} a0 v1/0{1,2,3}{1} y- r[] o[1:3] x{} b0" ∷
    "= 25" ∷
    "made 2:2 inc \"b\" 1" ∷
    "2 RegPrim c1 g4 w1 p1@1{1,2,3} a0 v1/0{1,2,3}{2} y- r[] o[2:2] x{} b0" ∷
    "= 26" ∷
    "made 3:2 inc \"c\" 1" ∷
    "3 RegPrim c1 g4 w1 p1@1{1,2,3} a0 v1/0{1,2,3}{3} y- r[] o[3:2] x{} b0" ∷
    "= 28" ∷
    "order 5 1:3" ∷
    "order 6 2:2" ∷
    "order 7 3:2" ∷
    "1 RegPrim c1 g7 w4 p1@1{1,2,3} a0 v1/0{1,2,3}{1} y- r[] o[] x{} b0" ∷
    "reply 1:3 done" ∷
    "= 29" ∷
    "2 RegPrim c1 g7 w4 p1@1{1,2,3} a0 v1/0{1,2,3}{2} y- r[] o[] x{} b0" ∷
    "reply 2:2 done" ∷
    "= 30" ∷
    "3 RegPrim c1 g7 w4 p1@1{1,2,3} a0 v1/0{1,2,3}{3} y- r[] o[] x{} b0" ∷
    "reply 3:2 done" ∷
    "= 31" ∷
    "made 1:4 put \"e\" 1" ∷
    "1 RegPrim c1 g7 w4 p1@1{1,2,3} a0 v1/0{1,2,3}{1} y- r[] o[1:4] x{} b0" ∷
    "= 32" ∷
    "made 2:3 put \"e\" 2" ∷
    "2 RegPrim c1 g7 w4 p1@1{1,2,3} a0 v1/0{1,2,3}{2} y- r[] o[2:3] x{} b0" ∷
    "= 33" ∷
    "made 3:3 put \"e\" 3" ∷
    "3 RegPrim c1 g7 w4 p1@1{1,2,3} a0 v1/0{1,2,3}{3} y- r[] o[3:3] x{} b0" ∷
    "= 35" ∷
    "order 8 1:4" ∷
    "order 9 2:3" ∷
    "order 10 3:3" ∷
    "1 RegPrim c1 g10 w7 p1@1{1,2,3} a0 v1/0{1,2,3}{1} y- r[] o[] x{} b0" ∷
    "reply 1:4 done" ∷
    "= 36" ∷
    "2 RegPrim c1 g10 w7 p1@1{1,2,3} a0 v1/0{1,2,3}{2} y- r[] o[] x{} b0" ∷
    "reply 2:3 done" ∷
    "= 37" ∷
    "3 RegPrim c1 g10 w7 p1@1{1,2,3} a0 v1/0{1,2,3}{3} y- r[] o[] x{} b0" ∷
    "reply 3:3 done" ∷
    "refused 19 18 7" ∷
    [])
unfolding cases_compute
follow_refused_discarded_before_the_count = refl

-- The replica is tested before the follower: it has left.
follow_refused_feed_by_a_leaver :
    put_by "follow" (
    "start 1 2 3" ∷
    "merge 1 2 3" ∷
    "rounds 2" ∷
    "split 1 2" ∷
    "split 3" ∷
    "merge 1 2" ∷
    "merge 3" ∷
    "rounds 2" ∷
    "leave 1 3" ∷
    "rounds 1" ∷
    "split 1 2" ∷
    "split 3" ∷
    "merge 1 2 3" ∷
    "rounds 3" ∷
    "feed 3 9 1" ∷
    [])
    ≡ written (
    "= 1" ∷
    "1 NonPrim - g0 w0 p0@0{1,2,3} a0 v- y- r[] o[] x{} b0" ∷
    "2 NonPrim - g0 w0 p0@0{1,2,3} a0 v- y- r[] o[] x{} b0" ∷
    "3 NonPrim - g0 w0 p0@0{1,2,3} a0 v- y- r[] o[] x{} b0" ∷
    "= 2" ∷
    "1 ExchangeStates c1 g0 w0 p0@0{1,2,3} a0 v- y- r[] o[] x{} b0" ∷
    "2 ExchangeStates c1 g0 w0 p0@0{1,2,3} a0 v- y- r[] o[] x{} b0" ∷
    "3 ExchangeStates c1 g0 w0 p0@0{1,2,3} a0 v- y- r[] o[] x{} b0" ∷
    "= 4" ∷
    "1 Construct c1 g0 w0 p0@0{1,2,3} a1 v1/0{1,2,3}{1} y- r[] o[] x{} b0" ∷
    "= 5" ∷
    "2 Construct c1 g0 w0 p0@0{1,2,3} a1 v1/0{1,2,3}{2} y- r[] o[] x{} b0" ∷
    "= 6" ∷
    "3 Construct c1 g0 w0 p0@0{1,2,3} a1 v1/0{1,2,3}{3} y- r[] o[] x{} b0" ∷
    "= 8" ∷
    "1 RegPrim c1 g0 w0 p1@1{1,2,3} a0 v1/0{1,2,3}{1} y- r[] o[] x{} b0" ∷
    "= 9" ∷
    "2 RegPrim c1 g0 w0 p1@1{1,2,3} a0 v1/0{1,2,3}{2} y- r[] o[] x{} b0" ∷
    "= 10" ∷
    "3 RegPrim c1 g0 w0 p1@1{1,2,3} a0 v1/0{1,2,3}{3} y- r[] o[] x{} b0" ∷
    "= 11" ∷
    "1 TransPrim t1 g0 w0 p1@1{1,2,3} a0 v1/0{1,2,3}{1} y- r[] o[] x{} b0" ∷
    "2 TransPrim t1 g0 w0 p1@1{1,2,3} a0 v1/0{1,2,3}{2} y- r[] o[] x{} b0" ∷
    "= 12" ∷
    "3 TransPrim t1 g0 w0 p1@1{1,2,3} a0 v1/0{1,2,3}{3} y- r[] o[] x{} b0" ∷
    "= 13" ∷
    "1 ExchangeStates c2 g0 w0 p1@1{1,2,3} a0 v- y![] r[] o[] x{} b0" ∷
    "2 ExchangeStates c2 g0 w0 p1@1{1,2,3} a0 v- y![] r[] o[] x{} b0" ∷
    "= 14" ∷
    "3 ExchangeStates c3 g0 w0 p1@1{1,2,3} a0 v- y![] r[] o[] x{} b0" ∷
    "= 16" ∷
    "1 Construct c2 g0 w0 p1@1{1,2,3} a1 v2/1{1,2}{1} y![] r[] o[] x{} b0" ∷
    "= 17" ∷
    "2 Construct c2 g0 w0 p1@1{1,2,3} a1 v2/1{1,2}{2} y![] r[] o[] x{} b0" ∷
    "= 18" ∷
    "3 NonPrim c3 g0 w0 p1@1{1,2,3} a0 v- y![] r[] o[] x{} b0" ∷
    "= 20" ∷
    "1 RegPrim c2 g0 w0 p2@2{1,2} a0 v2/1{1,2}{1} y- r[] o[] x{} b0" ∷
    "= 21" ∷
    "2 RegPrim c2 g0 w0 p2@2{1,2} a0 v2/1{1,2}{2} y- r[] o[] x{} b0" ∷
    "= 22" ∷
    "made 1:1 leave 3" ∷
    "1 RegPrim c2 g0 w0 p2@2{1,2} a0 v2/1{1,2}{1} y- r[] o[1:1] x{} b0" ∷
    "= 24" ∷
    "order 1 1:1" ∷
    "1 RegPrim c2 g1 w0 p2@2{1,2} a0 v2/1{1,2}{1} y- r[] o[] x{3} b0" ∷
    "reply 1:1 done" ∷
    "= 25" ∷
    "2 RegPrim c2 g1 w0 p2@2{1,2} a0 v2/1{1,2}{2} y- r[] o[] x{3} b0" ∷
    "= 26" ∷
    "1 TransPrim t2 g1 w0 p2@2{1,2} a0 v2/1{1,2}{1} y- r[] o[] x{3} b0" ∷
    "2 TransPrim t2 g1 w0 p2@2{1,2} a0 v2/1{1,2}{2} y- r[] o[] x{3} b0" ∷
    "= 27" ∷
    "3 NonPrim t3 g0 w0 p1@1{1,2,3} a0 v- y![] r[] o[] x{} b0" ∷
    "= 28" ∷
    "1 ExchangeStates c4 g1 w0 p2@2{1,2} a0 v- y![] r[] o[] x{3} b0" ∷
    "2 ExchangeStates c4 g1 w0 p2@2{1,2} a0 v- y![] r[] o[] x{3} b0" ∷
    "3 ExchangeStates c4 g0 w0 p1@1{1,2,3} a0 v- y![] r[] o[] x{} b0" ∷
    "= 30" ∷
    "1 Construct c4 g1 w0 p2@2{1,2} a1 v4/2{1,2}{1} y![] r[] o[] x{3} b0" ∷
    "= 31" ∷
    "2 Construct c4 g1 w0 p2@2{1,2} a1 v4/2{1,2}{2} y![] r[] o[] x{3} b0" ∷
    "= 32" ∷
    "3 Left c4 g0 w0 p1@1{1,2,3} a0 v- y![] r[] o[] x{} b0" ∷
    "= 34" ∷
    "1 RegPrim c4 g1 w0 p3@4{1,2} a0 v4/2{1,2}{1} y- r[] o[] x{3} b0" ∷
    "= 35" ∷
    "2 RegPrim c4 g1 w0 p3@4{1,2} a0 v4/2{1,2}{2} y- r[] o[] x{3} b0" ∷
    "refused 15 14 3" ∷
    [])
unfolding cases_compute
follow_refused_feed_by_a_leaver = refl

-- The replica is tested before the follower: it has not begun.
follow_refused_feed_by_an_unknown_replica :
    put_by "follow" (
    "start 1 2 3" ∷
    "merge 1 2 3" ∷
    "rounds 2" ∷
    "feed 4 9 1" ∷
    [])
    ≡ written (
    "= 1" ∷
    "1 NonPrim - g0 w0 p0@0{1,2,3} a0 v- y- r[] o[] x{} b0" ∷
    "2 NonPrim - g0 w0 p0@0{1,2,3} a0 v- y- r[] o[] x{} b0" ∷
    "3 NonPrim - g0 w0 p0@0{1,2,3} a0 v- y- r[] o[] x{} b0" ∷
    "= 2" ∷
    "1 ExchangeStates c1 g0 w0 p0@0{1,2,3} a0 v- y- r[] o[] x{} b0" ∷
    "2 ExchangeStates c1 g0 w0 p0@0{1,2,3} a0 v- y- r[] o[] x{} b0" ∷
    "3 ExchangeStates c1 g0 w0 p0@0{1,2,3} a0 v- y- r[] o[] x{} b0" ∷
    "= 4" ∷
    "1 Construct c1 g0 w0 p0@0{1,2,3} a1 v1/0{1,2,3}{1} y- r[] o[] x{} b0" ∷
    "= 5" ∷
    "2 Construct c1 g0 w0 p0@0{1,2,3} a1 v1/0{1,2,3}{2} y- r[] o[] x{} b0" ∷
    "= 6" ∷
    "3 Construct c1 g0 w0 p0@0{1,2,3} a1 v1/0{1,2,3}{3} y- r[] o[] x{} b0" ∷
    "= 8" ∷
    "1 RegPrim c1 g0 w0 p1@1{1,2,3} a0 v1/0{1,2,3}{1} y- r[] o[] x{} b0" ∷
    "= 9" ∷
    "2 RegPrim c1 g0 w0 p1@1{1,2,3} a0 v1/0{1,2,3}{2} y- r[] o[] x{} b0" ∷
    "= 10" ∷
    "3 RegPrim c1 g0 w0 p1@1{1,2,3} a0 v1/0{1,2,3}{3} y- r[] o[] x{} b0" ∷
    "refused 4 11 4" ∷
    [])
unfolding cases_compute
follow_refused_feed_by_an_unknown_replica = refl

-- The replica is tested before the follower: it is down.
follow_refused_feed_by_one_that_is_down :
    put_by "follow" (
    "start 1 2 3" ∷
    "merge 1 2 3" ∷
    "rounds 2" ∷
    "follower 7 1" ∷
    "fstop 7 0 -" ∷
    "stop 2 0 -" ∷
    "feed 2 9 1" ∷
    [])
    ≡ written (
    "= 1" ∷
    "1 NonPrim - g0 w0 p0@0{1,2,3} a0 v- y- r[] o[] x{} b0" ∷
    "2 NonPrim - g0 w0 p0@0{1,2,3} a0 v- y- r[] o[] x{} b0" ∷
    "3 NonPrim - g0 w0 p0@0{1,2,3} a0 v- y- r[] o[] x{} b0" ∷
    "= 2" ∷
    "1 ExchangeStates c1 g0 w0 p0@0{1,2,3} a0 v- y- r[] o[] x{} b0" ∷
    "2 ExchangeStates c1 g0 w0 p0@0{1,2,3} a0 v- y- r[] o[] x{} b0" ∷
    "3 ExchangeStates c1 g0 w0 p0@0{1,2,3} a0 v- y- r[] o[] x{} b0" ∷
    "= 4" ∷
    "1 Construct c1 g0 w0 p0@0{1,2,3} a1 v1/0{1,2,3}{1} y- r[] o[] x{} b0" ∷
    "= 5" ∷
    "2 Construct c1 g0 w0 p0@0{1,2,3} a1 v1/0{1,2,3}{2} y- r[] o[] x{} b0" ∷
    "= 6" ∷
    "3 Construct c1 g0 w0 p0@0{1,2,3} a1 v1/0{1,2,3}{3} y- r[] o[] x{} b0" ∷
    "= 8" ∷
    "1 RegPrim c1 g0 w0 p1@1{1,2,3} a0 v1/0{1,2,3}{1} y- r[] o[] x{} b0" ∷
    "= 9" ∷
    "2 RegPrim c1 g0 w0 p1@1{1,2,3} a0 v1/0{1,2,3}{2} y- r[] o[] x{} b0" ∷
    "= 10" ∷
    "3 RegPrim c1 g0 w0 p1@1{1,2,3} a0 v1/0{1,2,3}{3} y- r[] o[] x{} b0" ∷
    "= 11" ∷
    "follower 7 0" ∷
    "= 12" ∷
    "follower 7 down" ∷
    "= 13" ∷
    "2 Down" ∷
    "refused 7 1 2" ∷
    [])
unfolding cases_compute
follow_refused_feed_by_one_that_is_down = refl

-- A follower that was never made is not fed.
follow_refused_feed_to_an_unknown_follower :
    put_by "follow" (
    "start 1 2 3" ∷
    "merge 1 2 3" ∷
    "rounds 2" ∷
    "follower 8 1" ∷
    "feed 1 7 1" ∷
    [])
    ≡ written (
    "= 1" ∷
    "1 NonPrim - g0 w0 p0@0{1,2,3} a0 v- y- r[] o[] x{} b0" ∷
    "2 NonPrim - g0 w0 p0@0{1,2,3} a0 v- y- r[] o[] x{} b0" ∷
    "3 NonPrim - g0 w0 p0@0{1,2,3} a0 v- y- r[] o[] x{} b0" ∷
    "= 2" ∷
    "1 ExchangeStates c1 g0 w0 p0@0{1,2,3} a0 v- y- r[] o[] x{} b0" ∷
    "2 ExchangeStates c1 g0 w0 p0@0{1,2,3} a0 v- y- r[] o[] x{} b0" ∷
    "3 ExchangeStates c1 g0 w0 p0@0{1,2,3} a0 v- y- r[] o[] x{} b0" ∷
    "= 4" ∷
    "1 Construct c1 g0 w0 p0@0{1,2,3} a1 v1/0{1,2,3}{1} y- r[] o[] x{} b0" ∷
    "= 5" ∷
    "2 Construct c1 g0 w0 p0@0{1,2,3} a1 v1/0{1,2,3}{2} y- r[] o[] x{} b0" ∷
    "= 6" ∷
    "3 Construct c1 g0 w0 p0@0{1,2,3} a1 v1/0{1,2,3}{3} y- r[] o[] x{} b0" ∷
    "= 8" ∷
    "1 RegPrim c1 g0 w0 p1@1{1,2,3} a0 v1/0{1,2,3}{1} y- r[] o[] x{} b0" ∷
    "= 9" ∷
    "2 RegPrim c1 g0 w0 p1@1{1,2,3} a0 v1/0{1,2,3}{2} y- r[] o[] x{} b0" ∷
    "= 10" ∷
    "3 RegPrim c1 g0 w0 p1@1{1,2,3} a0 v1/0{1,2,3}{3} y- r[] o[] x{} b0" ∷
    "= 11" ∷
    "follower 8 0" ∷
    "refused 5 20 7" ∷
    [])
unfolding cases_compute
follow_refused_feed_to_an_unknown_follower = refl
