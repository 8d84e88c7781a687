-- Cases of cases/ with their whole reports, which `.ci/theorems` writes down here.
use Rattle.std.specs.Prelude.{◌≡◌, [], ◌∷◌}
use mathlib.Core.Path.{refl}
use Rattle.cg_run_cases.specs.Replaying.{put_by, written}
use Rattle.cg_run_cases.specs.Computing.{cases_compute}

-- An armed stop counts the calls of several feeds; a feed of nothing makes none; a later stop takes its place, and a crash and a new disk disarm.
follow_stop_over_several_feeds :
    put_by "follow" (
    "start 1 2 3" ∷
    "merge 1 2 3" ∷
    "rounds 2" ∷
    "follower 1 1" ∷
    "request 1 put \"x\" 1" ∷
    "request 1 put \"x\" 2" ∷
    "request 1 put \"x\" 3" ∷
    "request 1 put \"x\" 4" ∷
    "rounds 1" ∷
    "fstop 1 7 01" ∷
    "feed 2 1 1" ∷
    "feed 2 1 1" ∷
    "frecover 1" ∷
    "feed 2 1 1" ∷
    "feed 2 1 1" ∷
    "fweak 1 get \"x\"" ∷
    "follower 2 3" ∷
    "fstop 2 3 01" ∷
    "fstop 2 5 -" ∷
    "request 2 inc \"x\" 1" ∷
    "rounds 1" ∷
    "feed 1 2 1" ∷
    "fstop 2 0 01" ∷
    "frecover 2" ∷
    "request 2 inc \"x\" 1" ∷
    "rounds 1" ∷
    "feed 1 2 1" ∷
    "fstop 2 1 -" ∷
    "follower 2 1" ∷
    "request 2 inc \"x\" 1" ∷
    "rounds 1" ∷
    "feed 1 2 1" ∷
    "fstop 2 2 -" ∷
    "feed 1 2 5" ∷
    "fweak 2 get \"x\"" ∷
    "end" ∷
    [])
    ≡ written (
    "= 1" ∷
    "1 NonPrim - g0 w0 p0@0{1,2,3} a0 v- y- r[] o[] x{} b0" ∷
    "2 NonPrim - g0 w0 p0@0{1,2,3} a0 v- y- r[] o[] x{} b0" ∷
    "3 NonPrim - g0 w0 p0@0{1,2,3} a0 v- y- r[] o[] x{} b0" ∷
    "= 2" ∷
    "1 ExchangeStates c1 g0 w0 p0@0{1,2,3} a0 v- y- r[] o[] x{} b0" ∷
    "2 ExchangeStates c1 g0 w0 p0@0{1,2,3} a0 v- y- r[] o[] x{} b0" ∷
    "3 ExchangeStates c1 g0 w0 p0@0{1,2,3} a0 v- y- r[] o[] x{} b0" ∷
    "= 4" ∷
    "1 Construct c1 g0 w0 p0@0{1,2,3} a1 v1/0{1,2,3}{1} y- r[] o[] x{} b0" ∷
    "= 5" ∷
    "2 Construct c1 g0 w0 p0@0{1,2,3} a1 v1/0{1,2,3}{2} y- r[] o[] x{} b0" ∷
    "= 6" ∷
    "3 Construct c1 g0 w0 p0@0{1,2,3} a1 v1/0{1,2,3}{3} y- r[] o[] x{} b0" ∷
    "= 8" ∷
    "1 RegPrim c1 g0 w0 p1@1{1,2,3} a0 v1/0{1,2,3}{1} y- r[] o[] x{} b0" ∷
    "= 9" ∷
    "2 RegPrim c1 g0 w0 p1@1{1,2,3} a0 v1/0{1,2,3}{2} y- r[] o[] x{} b0" ∷
    "= 10" ∷
    "3 RegPrim c1 g0 w0 p1@1{1,2,3} a0 v1/0{1,2,3}{3} y- r[] o[] x{} b0" ∷
    "= 11" ∷
    "follower 1 0" ∷
    "= 12" ∷
    "made 1:1 put \"x\" 1" ∷
    "1 RegPrim c1 g0 w0 p1@1{1,2,3} a0 v1/0{1,2,3}{1} y- r[] o[1:1] x{} b0" ∷
    "= 13" ∷
    "made 1:2 put \"x\" 2" ∷
    "1 RegPrim c1 g0 w0 p1@1{1,2,3} a0 v1/0{1,2,3}{1} y- r[] o[1:1,1:2] x{} b0" ∷
    "= 14" ∷
    "made 1:3 put \"x\" 3" ∷
    "1 RegPrim c1 g0 w0 p1@1{1,2,3} a0 v1/0{1,2,3}{1} y- r[] o[1:1,1:2,1:3] x{} b0" ∷
    "= 15" ∷
    "made 1:4 put \"x\" 4" ∷
    "1 RegPrim c1 g0 w0 p1@1{1,2,3} a0 v1/0{1,2,3}{1} y- r[] o[1:1,1:2,1:3,1:4] x{} b0" ∷
    "= 17" ∷
    "order 1 1:1" ∷
    "order 2 1:2" ∷
    "order 3 1:3" ∷
    "order 4 1:4" ∷
    "1 RegPrim c1 g4 w0 p1@1{1,2,3} a0 v1/0{1,2,3}{1} y- r[] o[] x{} b0" ∷
    "reply 1:1 done" ∷
    "reply 1:2 done" ∷
    "reply 1:3 done" ∷
    "reply 1:4 done" ∷
    "= 18" ∷
    "2 RegPrim c1 g4 w0 p1@1{1,2,3} a0 v1/0{1,2,3}{2} y- r[] o[] x{} b0" ∷
    "= 19" ∷
    "3 RegPrim c1 g4 w0 p1@1{1,2,3} a0 v1/0{1,2,3}{3} y- r[] o[] x{} b0" ∷
    "= 21" ∷
    "follower 1 1" ∷
    "= 22" ∷
    "follower 1 down" ∷
    "= 23" ∷
    "follower 1 2" ∷
    "= 24" ∷
    "follower 1 3" ∷
    "= 25" ∷
    "follower 1 4" ∷
    "= 26" ∷
    "fweak 1 4" ∷
    "= 27" ∷
    "follower 2 4" ∷
    "= 30" ∷
    "made 2:1 inc \"x\" 1" ∷
    "2 RegPrim c1 g4 w0 p1@1{1,2,3} a0 v1/0{1,2,3}{2} y- r[] o[2:1] x{} b0" ∷
    "= 32" ∷
    "order 5 2:1" ∷
    "1 RegPrim c1 g5 w0 p1@1{1,2,3} a0 v1/0{1,2,3}{1} y- r[] o[] x{} b0" ∷
    "= 33" ∷
    "2 RegPrim c1 g5 w0 p1@1{1,2,3} a0 v1/0{1,2,3}{2} y- r[] o[] x{} b0" ∷
    "reply 2:1 done" ∷
    "= 34" ∷
    "3 RegPrim c1 g5 w0 p1@1{1,2,3} a0 v1/0{1,2,3}{3} y- r[] o[] x{} b0" ∷
    "= 35" ∷
    "follower 2 5" ∷
    "= 36" ∷
    "follower 2 down" ∷
    "= 37" ∷
    "follower 2 5" ∷
    "= 38" ∷
    "made 2:2 inc \"x\" 1" ∷
    "2 RegPrim c1 g5 w0 p1@1{1,2,3} a0 v1/0{1,2,3}{2} y- r[] o[2:2] x{} b0" ∷
    "= 40" ∷
    "order 6 2:2" ∷
    "1 RegPrim c1 g6 w0 p1@1{1,2,3} a0 v1/0{1,2,3}{1} y- r[] o[] x{} b0" ∷
    "= 41" ∷
    "2 RegPrim c1 g6 w0 p1@1{1,2,3} a0 v1/0{1,2,3}{2} y- r[] o[] x{} b0" ∷
    "reply 2:2 done" ∷
    "= 42" ∷
    "3 RegPrim c1 g6 w0 p1@1{1,2,3} a0 v1/0{1,2,3}{3} y- r[] o[] x{} b0" ∷
    "= 43" ∷
    "follower 2 6" ∷
    "= 46" ∷
    "made 2:3 inc \"x\" 1" ∷
    "2 RegPrim c1 g6 w0 p1@1{1,2,3} a0 v1/0{1,2,3}{2} y- r[] o[2:3] x{} b0" ∷
    "= 48" ∷
    "order 7 2:3" ∷
    "1 RegPrim c1 g7 w0 p1@1{1,2,3} a0 v1/0{1,2,3}{1} y- r[] o[] x{} b0" ∷
    "= 49" ∷
    "2 RegPrim c1 g7 w0 p1@1{1,2,3} a0 v1/0{1,2,3}{2} y- r[] o[] x{} b0" ∷
    "reply 2:3 done" ∷
    "= 50" ∷
    "3 RegPrim c1 g7 w0 p1@1{1,2,3} a0 v1/0{1,2,3}{3} y- r[] o[] x{} b0" ∷
    "= 51" ∷
    "follower 2 7" ∷
    "= 54" ∷
    "fweak 2 7" ∷
    "end 54" ∷
    [])
unfolding cases_compute
follow_stop_over_several_feeds = refl

-- Followers are struck in each of the four calls of a feed, without bytes: the gate stays as it was; a stop at the fifth call waits.
follow_struck_at_each_call_closed :
    put_by "follow" (
    "start 1 2 3" ∷
    "merge 1 2 3" ∷
    "rounds 2" ∷
    "request 1 put \"x\" 1" ∷
    "request 2 inc \"x\" 4" ∷
    "rounds 1" ∷
    "follower 1 1" ∷
    "follower 2 1" ∷
    "follower 3 1" ∷
    "follower 4 1" ∷
    "follower 5 1" ∷
    "request 1 inc \"x\" 10" ∷
    "request 3 put \"y\" \"u\"" ∷
    "rounds 1" ∷
    "fstop 1 1 -" ∷
    "feed 2 1 2" ∷
    "fstop 2 2 -" ∷
    "feed 2 2 2" ∷
    "fstop 3 3 -" ∷
    "feed 2 3 2" ∷
    "fstop 4 4 -" ∷
    "feed 2 4 2" ∷
    "fstop 5 5 -" ∷
    "feed 2 5 2" ∷
    "frecover 1" ∷
    "fweak 1 get \"x\"" ∷
    "fweak 1 count" ∷
    "frecover 2" ∷
    "fweak 2 get \"x\"" ∷
    "fweak 2 count" ∷
    "frecover 3" ∷
    "fweak 3 get \"x\"" ∷
    "fweak 3 count" ∷
    "frecover 4" ∷
    "fweak 4 get \"x\"" ∷
    "fweak 4 count" ∷
    "feed 3 1 9" ∷
    "feed 3 2 9" ∷
    "feed 3 3 9" ∷
    "feed 3 4 9" ∷
    "fweak 1 get \"x\"" ∷
    "fweak 5 get \"y\"" ∷
    "end" ∷
    [])
    ≡ written (
    "= 1" ∷
    "1 NonPrim - g0 w0 p0@0{1,2,3} a0 v- y- r[] o[] x{} b0" ∷
    "2 NonPrim - g0 w0 p0@0{1,2,3} a0 v- y- r[] o[] x{} b0" ∷
    "3 NonPrim - g0 w0 p0@0{1,2,3} a0 v- y- r[] o[] x{} b0" ∷
    "= 2" ∷
    "1 ExchangeStates c1 g0 w0 p0@0{1,2,3} a0 v- y- r[] o[] x{} b0" ∷
    "2 ExchangeStates c1 g0 w0 p0@0{1,2,3} a0 v- y- r[] o[] x{} b0" ∷
    "3 ExchangeStates c1 g0 w0 p0@0{1,2,3} a0 v- y- r[] o[] x{} b0" ∷
    "= 4" ∷
    "1 Construct c1 g0 w0 p0@0{1,2,3} a1 v1/0{1,2,3}{1} y- r[] o[] x{} b0" ∷
    "= 5" ∷
    "2 Construct c1 g0 w0 p0@0{1,2,3} a1 v1/0{1,2,3}{2} y- r[] o[] x{} b0" ∷
    "= 6" ∷
    "3 Construct c1 g0 w0 p0@0{1,2,3} a1 v1/0{1,2,3}{3} y- r[] o[] x{} b0" ∷
    "= 8" ∷
    "1 RegPrim c1 g0 w0 p1@1{1,2,3} a0 v1/0{1,2,3}{1} y- r[] o[] x{} b0" ∷
    "= 9" ∷
    "2 RegPrim c1 g0 w0 p1@1{1,2,3} a0 v1/0{1,2,3}{2} y- r[] o[] x{} b0" ∷
    "= 10" ∷
    "3 RegPrim c1 g0 w0 p1@1{1,2,3} a0 v1/0{1,2,3}{3} y- r[] o[] x{} b0" ∷
    "= 11" ∷
    "made 1:1 put \"x\" 1" ∷
    "1 RegPrim c1 g0 w0 p1@1{1,2,3} a0 v1/0{1,2,3}{1} y- r[] o[1:1] x{} b0" ∷
    "= 12" ∷
    "made 2:1 inc \"x\" 4" ∷
    "2 RegPrim c1 g0 w0 p1@1{1,2,3} a0 v1/0{1,2,3}{2} y- r[] o[2:1] x{} b0" ∷
    "= 14" ∷
    "order 1 1:1" ∷
    "order 2 2:1" ∷
    "1 RegPrim c1 g2 w0 p1@1{1,2,3} a0 v1/0{1,2,3}{1} y- r[] o[] x{} b0" ∷
    "reply 1:1 done" ∷
    "= 15" ∷
    "2 RegPrim c1 g2 w0 p1@1{1,2,3} a0 v1/0{1,2,3}{2} y- r[] o[] x{} b0" ∷
    "reply 2:1 done" ∷
    "= 16" ∷
    "3 RegPrim c1 g2 w0 p1@1{1,2,3} a0 v1/0{1,2,3}{3} y- r[] o[] x{} b0" ∷
    "= 17" ∷
    "follower 1 2" ∷
    "= 18" ∷
    "follower 2 2" ∷
    "= 19" ∷
    "follower 3 2" ∷
    "= 20" ∷
    "follower 4 2" ∷
    "= 21" ∷
    "follower 5 2" ∷
    "= 22" ∷
    "made 1:2 inc \"x\" 10" ∷
    "1 RegPrim c1 g2 w0 p1@1{1,2,3} a0 v1/0{1,2,3}{1} y- r[] o[1:2] x{} b0" ∷
    "= 23" ∷
    "made 3:1 put \"y\" \"u\"" ∷
    "3 RegPrim c1 g2 w0 p1@1{1,2,3} a0 v1/0{1,2,3}{3} y- r[] o[3:1] x{} b0" ∷
    "= 25" ∷
    "order 3 1:2" ∷
    "order 4 3:1" ∷
    "1 RegPrim c1 g4 w0 p1@1{1,2,3} a0 v1/0{1,2,3}{1} y- r[] o[] x{} b0" ∷
    "reply 1:2 done" ∷
    "= 26" ∷
    "2 RegPrim c1 g4 w0 p1@1{1,2,3} a0 v1/0{1,2,3}{2} y- r[] o[] x{} b0" ∷
    "= 27" ∷
    "3 RegPrim c1 g4 w0 p1@1{1,2,3} a0 v1/0{1,2,3}{3} y- r[] o[] x{} b0" ∷
    "reply 3:1 done" ∷
    "= 29" ∷
    "follower 1 down" ∷
    "= 31" ∷
    "follower 2 down" ∷
    "= 33" ∷
    "follower 3 down" ∷
    "= 35" ∷
    "follower 4 down" ∷
    "= 37" ∷
    "follower 5 4" ∷
    "= 38" ∷
    "follower 1 2" ∷
    "= 39" ∷
    "fweak 1 5" ∷
    "= 40" ∷
    "fweak 1 count 1" ∷
    "= 41" ∷
    "follower 2 2" ∷
    "= 42" ∷
    "fweak 2 5" ∷
    "= 43" ∷
    "fweak 2 count 1" ∷
    "= 44" ∷
    "follower 3 2" ∷
    "= 45" ∷
    "fweak 3 5" ∷
    "= 46" ∷
    "fweak 3 count 1" ∷
    "= 47" ∷
    "follower 4 2" ∷
    "= 48" ∷
    "fweak 4 5" ∷
    "= 49" ∷
    "fweak 4 count 1" ∷
    "= 50" ∷
    "follower 1 4" ∷
    "= 51" ∷
    "follower 2 4" ∷
    "= 52" ∷
    "follower 3 4" ∷
    "= 53" ∷
    "follower 4 4" ∷
    "= 54" ∷
    "fweak 1 15" ∷
    "= 55" ∷
    "fweak 5 \"u\"" ∷
    "end 55" ∷
    [])
unfolding cases_compute
follow_struck_at_each_call_closed = refl

-- Followers are struck in each of the four calls of a feed, with many bytes of one; a stop at the fifth call waits.
follow_struck_at_each_call_many_ones :
    put_by "follow" (
    "start 1 2 3" ∷
    "merge 1 2 3" ∷
    "rounds 2" ∷
    "request 1 put \"x\" 1" ∷
    "request 2 inc \"x\" 4" ∷
    "rounds 1" ∷
    "follower 1 1" ∷
    "follower 2 1" ∷
    "follower 3 1" ∷
    "follower 4 1" ∷
    "follower 5 1" ∷
    "request 1 inc \"x\" 10" ∷
    "request 3 put \"y\" \"u\"" ∷
    "rounds 1" ∷
    "fstop 1 1 010101010101010101010101010101010101010101010101010101010101010101010101010101010101010101010101010101010101010101010101" ∷
    "feed 2 1 2" ∷
    "fstop 2 2 010101010101010101010101010101010101010101010101010101010101010101010101010101010101010101010101010101010101010101010101" ∷
    "feed 2 2 2" ∷
    "fstop 3 3 010101010101010101010101010101010101010101010101010101010101010101010101010101010101010101010101010101010101010101010101" ∷
    "feed 2 3 2" ∷
    "fstop 4 4 010101010101010101010101010101010101010101010101010101010101010101010101010101010101010101010101010101010101010101010101" ∷
    "feed 2 4 2" ∷
    "fstop 5 5 010101010101010101010101010101010101010101010101010101010101010101010101010101010101010101010101010101010101010101010101" ∷
    "feed 2 5 2" ∷
    "frecover 1" ∷
    "fweak 1 get \"x\"" ∷
    "fweak 1 count" ∷
    "frecover 2" ∷
    "fweak 2 get \"x\"" ∷
    "fweak 2 count" ∷
    "frecover 3" ∷
    "fweak 3 get \"x\"" ∷
    "fweak 3 count" ∷
    "frecover 4" ∷
    "fweak 4 get \"x\"" ∷
    "fweak 4 count" ∷
    "feed 3 1 9" ∷
    "feed 3 2 9" ∷
    "feed 3 3 9" ∷
    "feed 3 4 9" ∷
    "fweak 1 get \"x\"" ∷
    "fweak 5 get \"y\"" ∷
    "end" ∷
    [])
    ≡ written (
    "= 1" ∷
    "1 NonPrim - g0 w0 p0@0{1,2,3} a0 v- y- r[] o[] x{} b0" ∷
    "2 NonPrim - g0 w0 p0@0{1,2,3} a0 v- y- r[] o[] x{} b0" ∷
    "3 NonPrim - g0 w0 p0@0{1,2,3} a0 v- y- r[] o[] x{} b0" ∷
    "= 2" ∷
    "1 ExchangeStates c1 g0 w0 p0@0{1,2,3} a0 v- y- r[] o[] x{} b0" ∷
    "2 ExchangeStates c1 g0 w0 p0@0{1,2,3} a0 v- y- r[] o[] x{} b0" ∷
    "3 ExchangeStates c1 g0 w0 p0@0{1,2,3} a0 v- y- r[] o[] x{} b0" ∷
    "= 4" ∷
    "1 Construct c1 g0 w0 p0@0{1,2,3} a1 v1/0{1,2,3}{1} y- r[] o[] x{} b0" ∷
    "= 5" ∷
    "2 Construct c1 g0 w0 p0@0{1,2,3} a1 v1/0{1,2,3}{2} y- r[] o[] x{} b0" ∷
    "= 6" ∷
    "3 Construct c1 g0 w0 p0@0{1,2,3} a1 v1/0{1,2,3}{3} y- r[] o[] x{} b0" ∷
    "= 8" ∷
    "1 RegPrim c1 g0 w0 p1@1{1,2,3} a0 v1/0{1,2,3}{1} y- r[] o[] x{} b0" ∷
    "= 9" ∷
    "2 RegPrim c1 g0 w0 p1@1{1,2,3} a0 v1/0{1,2,3}{2} y- r[] o[] x{} b0" ∷
    "= 10" ∷
    "3 RegPrim c1 g0 w0 p1@1{1,2,3} a0 v1/0{1,2,3}{3} y- r[] o[] x{} b0" ∷
    "= 11" ∷
    "made 1:1 put \"x\" 1" ∷
    "1 RegPrim c1 g0 w0 p1@1{1,2,3} a0 v1/0{1,2,3}{1} y- r[] o[1:1] x{} b0" ∷
    "= 12" ∷
    "made 2:1 inc \"x\" 4" ∷
    "2 RegPrim c1 g0 w0 p1@1{1,2,3} a0 v1/0{1,2,3}{2} y- r[] o[2:1] x{} b0" ∷
    "= 14" ∷
    "order 1 1:1" ∷
    "order 2 2:1" ∷
    "1 RegPrim c1 g2 w0 p1@1{1,2,3} a0 v1/0{1,2,3}{1} y- r[] o[] x{} b0" ∷
    "reply 1:1 done" ∷
    "= 15" ∷
    "2 RegPrim c1 g2 w0 p1@1{1,2,3} a0 v1/0{1,2,3}{2} y- r[] o[] x{} b0" ∷
    "reply 2:1 done" ∷
    "= 16" ∷
    "3 RegPrim c1 g2 w0 p1@1{1,2,3} a0 v1/0{1,2,3}{3} y- r[] o[] x{} b0" ∷
    "= 17" ∷
    "follower 1 2" ∷
    "= 18" ∷
    "follower 2 2" ∷
    "= 19" ∷
    "follower 3 2" ∷
    "= 20" ∷
    "follower 4 2" ∷
    "= 21" ∷
    "follower 5 2" ∷
    "= 22" ∷
    "made 1:2 inc \"x\" 10" ∷
    "1 RegPrim c1 g2 w0 p1@1{1,2,3} a0 v1/0{1,2,3}{1} y- r[] o[1:2] x{} b0" ∷
    "= 23" ∷
    "made 3:1 put \"y\" \"u\"" ∷
    "3 RegPrim c1 g2 w0 p1@1{1,2,3} a0 v1/0{1,2,3}{3} y- r[] o[3:1] x{} b0" ∷
    "= 25" ∷
    "order 3 1:2" ∷
    "order 4 3:1" ∷
    "1 RegPrim c1 g4 w0 p1@1{1,2,3} a0 v1/0{1,2,3}{1} y- r[] o[] x{} b0" ∷
    "reply 1:2 done" ∷
    "= 26" ∷
    "2 RegPrim c1 g4 w0 p1@1{1,2,3} a0 v1/0{1,2,3}{2} y- r[] o[] x{} b0" ∷
    "= 27" ∷
    "3 RegPrim c1 g4 w0 p1@1{1,2,3} a0 v1/0{1,2,3}{3} y- r[] o[] x{} b0" ∷
    "reply 3:1 done" ∷
    "= 29" ∷
    "follower 1 down" ∷
    "= 31" ∷
    "follower 2 down" ∷
    "= 33" ∷
    "follower 3 down" ∷
    "= 35" ∷
    "follower 4 down" ∷
    "= 37" ∷
    "follower 5 4" ∷
    "= 38" ∷
    "follower 1 2" ∷
    "= 39" ∷
    "fweak 1 5" ∷
    "= 40" ∷
    "fweak 1 count 1" ∷
    "= 41" ∷
    "follower 2 2" ∷
    "= 42" ∷
    "fweak 2 5" ∷
    "= 43" ∷
    "fweak 2 count 1" ∷
    "= 44" ∷
    "follower 3 4" ∷
    "= 45" ∷
    "fweak 3 15" ∷
    "= 46" ∷
    "fweak 3 count 2" ∷
    "= 47" ∷
    "follower 4 4" ∷
    "= 48" ∷
    "fweak 4 15" ∷
    "= 49" ∷
    "fweak 4 count 2" ∷
    "= 50" ∷
    "follower 1 4" ∷
    "= 51" ∷
    "follower 2 4" ∷
    "= 54" ∷
    "fweak 1 15" ∷
    "= 55" ∷
    "fweak 5 \"u\"" ∷
    "end 55" ∷
    [])
unfolding cases_compute
follow_struck_at_each_call_many_ones = refl

-- Followers are struck in each of the four calls of a feed, with many bytes that are not one; a stop at the fifth call waits.
follow_struck_at_each_call_many_others :
    put_by "follow" (
    "start 1 2 3" ∷
    "merge 1 2 3" ∷
    "rounds 2" ∷
    "request 1 put \"x\" 1" ∷
    "request 2 inc \"x\" 4" ∷
    "rounds 1" ∷
    "follower 1 1" ∷
    "follower 2 1" ∷
    "follower 3 1" ∷
    "follower 4 1" ∷
    "follower 5 1" ∷
    "request 1 inc \"x\" 10" ∷
    "request 3 put \"y\" \"u\"" ∷
    "rounds 1" ∷
    "fstop 1 1 ffffffffffffffffffffffffffffffffffffffffffffffffffffffffffffffffffffffffffffffffffffffffffffffffffffffffffffffffffffffff" ∷
    "feed 2 1 2" ∷
    "fstop 2 2 ffffffffffffffffffffffffffffffffffffffffffffffffffffffffffffffffffffffffffffffffffffffffffffffffffffffffffffffffffffffff" ∷
    "feed 2 2 2" ∷
    "fstop 3 3 ffffffffffffffffffffffffffffffffffffffffffffffffffffffffffffffffffffffffffffffffffffffffffffffffffffffffffffffffffffffff" ∷
    "feed 2 3 2" ∷
    "fstop 4 4 ffffffffffffffffffffffffffffffffffffffffffffffffffffffffffffffffffffffffffffffffffffffffffffffffffffffffffffffffffffffff" ∷
    "feed 2 4 2" ∷
    "fstop 5 5 ffffffffffffffffffffffffffffffffffffffffffffffffffffffffffffffffffffffffffffffffffffffffffffffffffffffffffffffffffffffff" ∷
    "feed 2 5 2" ∷
    "frecover 1" ∷
    "fweak 1 get \"x\"" ∷
    "fweak 1 count" ∷
    "frecover 2" ∷
    "fweak 2 get \"x\"" ∷
    "fweak 2 count" ∷
    "frecover 3" ∷
    "fweak 3 get \"x\"" ∷
    "fweak 3 count" ∷
    "frecover 4" ∷
    "fweak 4 get \"x\"" ∷
    "fweak 4 count" ∷
    "feed 3 1 9" ∷
    "feed 3 2 9" ∷
    "feed 3 3 9" ∷
    "feed 3 4 9" ∷
    "fweak 1 get \"x\"" ∷
    "fweak 5 get \"y\"" ∷
    "end" ∷
    [])
    ≡ written (
    "= 1" ∷
    "1 NonPrim - g0 w0 p0@0{1,2,3} a0 v- y- r[] o[] x{} b0" ∷
    "2 NonPrim - g0 w0 p0@0{1,2,3} a0 v- y- r[] o[] x{} b0" ∷
    "3 NonPrim - g0 w0 p0@0{1,2,3} a0 v- y- r[] o[] x{} b0" ∷
    "= 2" ∷
    "1 ExchangeStates c1 g0 w0 p0@0{1,2,3} a0 v- y- r[] o[] x{} b0" ∷
    "2 ExchangeStates c1 g0 w0 p0@0{1,2,3} a0 v- y- r[] o[] x{} b0" ∷
    "3 ExchangeStates c1 g0 w0 p0@0{1,2,3} a0 v- y- r[] o[] x{} b0" ∷
    "= 4" ∷
    "1 Construct c1 g0 w0 p0@0{1,2,3} a1 v1/0{1,2,3}{1} y- r[] o[] x{} b0" ∷
    "= 5" ∷
    "2 Construct c1 g0 w0 p0@0{1,2,3} a1 v1/0{1,2,3}{2} y- r[] o[] x{} b0" ∷
    "= 6" ∷
    "3 Construct c1 g0 w0 p0@0{1,2,3} a1 v1/0{1,2,3}{3} y- r[] o[] x{} b0" ∷
    "= 8" ∷
    "1 RegPrim c1 g0 w0 p1@1{1,2,3} a0 v1/0{1,2,3}{1} y- r[] o[] x{} b0" ∷
    "= 9" ∷
    "2 RegPrim c1 g0 w0 p1@1{1,2,3} a0 v1/0{1,2,3}{2} y- r[] o[] x{} b0" ∷
    "= 10" ∷
    "3 RegPrim c1 g0 w0 p1@1{1,2,3} a0 v1/0{1,2,3}{3} y- r[] o[] x{} b0" ∷
    "= 11" ∷
    "made 1:1 put \"x\" 1" ∷
    "1 RegPrim c1 g0 w0 p1@1{1,2,3} a0 v1/0{1,2,3}{1} y- r[] o[1:1] x{} b0" ∷
    "= 12" ∷
    "made 2:1 inc \"x\" 4" ∷
    "2 RegPrim c1 g0 w0 p1@1{1,2,3} a0 v1/0{1,2,3}{2} y- r[] o[2:1] x{} b0" ∷
    "= 14" ∷
    "order 1 1:1" ∷
    "order 2 2:1" ∷
    "1 RegPrim c1 g2 w0 p1@1{1,2,3} a0 v1/0{1,2,3}{1} y- r[] o[] x{} b0" ∷
    "reply 1:1 done" ∷
    "= 15" ∷
    "2 RegPrim c1 g2 w0 p1@1{1,2,3} a0 v1/0{1,2,3}{2} y- r[] o[] x{} b0" ∷
    "reply 2:1 done" ∷
    "= 16" ∷
    "3 RegPrim c1 g2 w0 p1@1{1,2,3} a0 v1/0{1,2,3}{3} y- r[] o[] x{} b0" ∷
    "= 17" ∷
    "follower 1 2" ∷
    "= 18" ∷
    "follower 2 2" ∷
    "= 19" ∷
    "follower 3 2" ∷
    "= 20" ∷
    "follower 4 2" ∷
    "= 21" ∷
    "follower 5 2" ∷
    "= 22" ∷
    "made 1:2 inc \"x\" 10" ∷
    "1 RegPrim c1 g2 w0 p1@1{1,2,3} a0 v1/0{1,2,3}{1} y- r[] o[1:2] x{} b0" ∷
    "= 23" ∷
    "made 3:1 put \"y\" \"u\"" ∷
    "3 RegPrim c1 g2 w0 p1@1{1,2,3} a0 v1/0{1,2,3}{3} y- r[] o[3:1] x{} b0" ∷
    "= 25" ∷
    "order 3 1:2" ∷
    "order 4 3:1" ∷
    "1 RegPrim c1 g4 w0 p1@1{1,2,3} a0 v1/0{1,2,3}{1} y- r[] o[] x{} b0" ∷
    "reply 1:2 done" ∷
    "= 26" ∷
    "2 RegPrim c1 g4 w0 p1@1{1,2,3} a0 v1/0{1,2,3}{2} y- r[] o[] x{} b0" ∷
    "= 27" ∷
    "3 RegPrim c1 g4 w0 p1@1{1,2,3} a0 v1/0{1,2,3}{3} y- r[] o[] x{} b0" ∷
    "reply 3:1 done" ∷
    "= 29" ∷
    "follower 1 down" ∷
    "= 31" ∷
    "follower 2 down" ∷
    "= 33" ∷
    "follower 3 down" ∷
    "= 35" ∷
    "follower 4 down" ∷
    "= 37" ∷
    "follower 5 4" ∷
    "= 38" ∷
    "follower 1 2" ∷
    "= 39" ∷
    "fweak 1 5" ∷
    "= 40" ∷
    "fweak 1 count 1" ∷
    "= 41" ∷
    "follower 2 2" ∷
    "= 42" ∷
    "fweak 2 5" ∷
    "= 43" ∷
    "fweak 2 count 1" ∷
    "= 44" ∷
    "follower 3 2" ∷
    "= 45" ∷
    "fweak 3 5" ∷
    "= 46" ∷
    "fweak 3 count 1" ∷
    "= 47" ∷
    "follower 4 2" ∷
    "= 48" ∷
    "fweak 4 5" ∷
    "= 49" ∷
    "fweak 4 count 1" ∷
    "= 50" ∷
    "follower 1 4" ∷
    "= 51" ∷
    "follower 2 4" ∷
    "= 52" ∷
    "follower 3 4" ∷
    "= 53" ∷
    "follower 4 4" ∷
    "= 54" ∷
    "fweak 1 15" ∷
    "= 55" ∷
    "fweak 5 \"u\"" ∷
    "end 55" ∷
    [])
unfolding cases_compute
follow_struck_at_each_call_many_others = refl
