-- Cases of cases/ with their whole reports, which `.ci/theorems` writes down here.
use Rattle.std.specs.Prelude.{◌≡◌, [], ◌∷◌}
use mathlib.Core.Path.{refl}
use Rattle.cg_run_cases.specs.Replaying.{put_by, written}
use Rattle.cg_run_cases.specs.Computing.{cases_compute}

-- Followers are struck in each of the four calls of a feed, with its first byte one: the gate is open from the third call on; a stop at the fifth call waits.
follow_struck_at_each_call_open :
    put_by "follow" (
    "start 1 2 3" ∷
    "merge 1 2 3" ∷
    "rounds 2" ∷
    "request 1 put \"x\" 1" ∷
    "request 2 inc \"x\" 4" ∷
    "rounds 1" ∷
    "follower 1 1" ∷
    "follower 2 1" ∷
    "follower 3 1" ∷
    "follower 4 1" ∷
    "follower 5 1" ∷
    "request 1 inc \"x\" 10" ∷
    "request 3 put \"y\" \"u\"" ∷
    "rounds 1" ∷
    "fstop 1 1 01" ∷
    "feed 2 1 2" ∷
    "fstop 2 2 01" ∷
    "feed 2 2 2" ∷
    "fstop 3 3 01" ∷
    "feed 2 3 2" ∷
    "fstop 4 4 01" ∷
    "feed 2 4 2" ∷
    "fstop 5 5 01" ∷
    "feed 2 5 2" ∷
    "frecover 1" ∷
    "fweak 1 get \"x\"" ∷
    "fweak 1 count" ∷
    "frecover 2" ∷
    "fweak 2 get \"x\"" ∷
    "fweak 2 count" ∷
    "frecover 3" ∷
    "fweak 3 get \"x\"" ∷
    "fweak 3 count" ∷
    "frecover 4" ∷
    "fweak 4 get \"x\"" ∷
    "fweak 4 count" ∷
    "feed 3 1 9" ∷
    "feed 3 2 9" ∷
    "feed 3 3 9" ∷
    "feed 3 4 9" ∷
    "fweak 1 get \"x\"" ∷
    "fweak 5 get \"y\"" ∷
    "end" ∷
    [])
    ≡ written (
    "= 1" ∷
    "1 NonPrim - g0 w0 p0@0{1,2,3} a0 v- y- r[] o[] x{} b0" ∷
    "2 NonPrim - g0 w0 p0@0{1,2,3} a0 v- y- r[] o[] x{} b0" ∷
    "3 NonPrim - g0 w0 p0@0{1,2,3} a0 v- y- r[] o[] x{} b0" ∷
    "= 2" ∷
    "1 ExchangeStates c1 g0 w0 p0@0{1,2,3} a0 v- y- r[] o[] x{} b0" ∷
    "2 ExchangeStates c1 g0 w0 p0@0{1,2,3} a0 v- y- r[] o[] x{} b0" ∷
    "3 ExchangeStates c1 g0 w0 p0@0{1,2,3} a0 v- y- r[] o[] x{} b0" ∷
    "= 4" ∷
    "1 Construct c1 g0 w0 p0@0{1,2,3} a1 v1/0{1,2,3}{1} y- r[] o[] x{} b0" ∷
    "= 5" ∷
    "2 Construct c1 g0 w0 p0@0{1,2,3} a1 v1/0{1,2,3}{2} y- r[] o[] x{} b0" ∷
    "= 6" ∷
    "3 Construct c1 g0 w0 p0@0{1,2,3} a1 v1/0{1,2,3}{3} y- r[] o[] x{} b0" ∷
    "= 8" ∷
    "1 RegPrim c1 g0 w0 p1@1{1,2,3} a0 v1/0{1,2,3}{1} y- r[] o[] x{} b0" ∷
    "= 9" ∷
    "2 RegPrim c1 g0 w0 p1@1{1,2,3} a0 v1/0{1,2,3}{2} y- r[] o[] x{} b0" ∷
    "= 10" ∷
    "3 RegPrim c1 g0 w0 p1@1{1,2,3} a0 v1/0{1,2,3}{3} y- r[] o[] x{} b0" ∷
    "= 11" ∷
    "made 1:1 put \"x\" 1" ∷
    "1 RegPrim c1 g0 w0 p1@1{1,2,3} a0 v1/0{1,2,3}{1} y- r[] o[1:1] x{} b0" ∷
    "= 12" ∷
    "made 2:1 inc \"x\" 4" ∷
    "2 RegPrim c1 g0 w0 p1@1{1,2,3} a0 v1/0{1,2,3}{2} y- r[] o[2:1] x{} b0" ∷
    "= 14" ∷
    "order 1 1:1" ∷
    "order 2 2:1" ∷
    "1 RegPrim c1 g2 w0 p1@1{1,2,3} a0 v1/0{1,2,3}{1} y- r[] o[] x{} b0" ∷
    "reply 1:1 done" ∷
    "= 15" ∷
    "2 RegPrim c1 g2 w0 p1@1{1,2,3} a0 v1/0{1,2,3}{2} y- r[] o[] x{} b0" ∷
    "reply 2:1 done" ∷
    "= 16" ∷
    "3 RegPrim c1 g2 w0 p1@1{1,2,3} a0 v1/0{1,2,3}{3} y- r[] o[] x{} b0" ∷
    "= 17" ∷
    "follower 1 2" ∷
    "= 18" ∷
    "follower 2 2" ∷
    "= 19" ∷
    "follower 3 2" ∷
    "= 20" ∷
    "follower 4 2" ∷
    "= 21" ∷
    "follower 5 2" ∷
    "= 22" ∷
    "made 1:2 inc \"x\" 10" ∷
    "1 RegPrim c1 g2 w0 p1@1{1,2,3} a0 v1/0{1,2,3}{1} y- r[] o[1:2] x{} b0" ∷
    "= 23" ∷
    "made 3:1 put \"y\" \"u\"" ∷
    "3 RegPrim c1 g2 w0 p1@1{1,2,3} a0 v1/0{1,2,3}{3} y- r[] o[3:1] x{} b0" ∷
    "= 25" ∷
    "order 3 1:2" ∷
    "order 4 3:1" ∷
    "1 RegPrim c1 g4 w0 p1@1{1,2,3} a0 v1/0{1,2,3}{1} y- r[] o[] x{} b0" ∷
    "reply 1:2 done" ∷
    "= 26" ∷
    "2 RegPrim c1 g4 w0 p1@1{1,2,3} a0 v1/0{1,2,3}{2} y- r[] o[] x{} b0" ∷
    "= 27" ∷
    "3 RegPrim c1 g4 w0 p1@1{1,2,3} a0 v1/0{1,2,3}{3} y- r[] o[] x{} b0" ∷
    "reply 3:1 done" ∷
    "= 29" ∷
    "follower 1 down" ∷
    "= 31" ∷
    "follower 2 down" ∷
    "= 33" ∷
    "follower 3 down" ∷
    "= 35" ∷
    "follower 4 down" ∷
    "= 37" ∷
    "follower 5 4" ∷
    "= 38" ∷
    "follower 1 2" ∷
    "= 39" ∷
    "fweak 1 5" ∷
    "= 40" ∷
    "fweak 1 count 1" ∷
    "= 41" ∷
    "follower 2 2" ∷
    "= 42" ∷
    "fweak 2 5" ∷
    "= 43" ∷
    "fweak 2 count 1" ∷
    "= 44" ∷
    "follower 3 4" ∷
    "= 45" ∷
    "fweak 3 15" ∷
    "= 46" ∷
    "fweak 3 count 2" ∷
    "= 47" ∷
    "follower 4 4" ∷
    "= 48" ∷
    "fweak 4 15" ∷
    "= 49" ∷
    "fweak 4 count 2" ∷
    "= 50" ∷
    "follower 1 4" ∷
    "= 51" ∷
    "follower 2 4" ∷
    "= 54" ∷
    "fweak 1 15" ∷
    "= 55" ∷
    "fweak 5 \"u\"" ∷
    "end 55" ∷
    [])
unfolding cases_compute
follow_struck_at_each_call_open = refl

-- Followers are struck in each of the four calls of a feed, with a zero and a one; a stop at the fifth call waits.
follow_struck_at_each_call_two :
    put_by "follow" (
    "start 1 2 3" ∷
    "merge 1 2 3" ∷
    "rounds 2" ∷
    "request 1 put \"x\" 1" ∷
    "request 2 inc \"x\" 4" ∷
    "rounds 1" ∷
    "follower 1 1" ∷
    "follower 2 1" ∷
    "follower 3 1" ∷
    "follower 4 1" ∷
    "follower 5 1" ∷
    "request 1 inc \"x\" 10" ∷
    "request 3 put \"y\" \"u\"" ∷
    "rounds 1" ∷
    "fstop 1 1 0001" ∷
    "feed 2 1 2" ∷
    "fstop 2 2 0001" ∷
    "feed 2 2 2" ∷
    "fstop 3 3 0001" ∷
    "feed 2 3 2" ∷
    "fstop 4 4 0001" ∷
    "feed 2 4 2" ∷
    "fstop 5 5 0001" ∷
    "feed 2 5 2" ∷
    "frecover 1" ∷
    "fweak 1 get \"x\"" ∷
    "fweak 1 count" ∷
    "frecover 2" ∷
    "fweak 2 get \"x\"" ∷
    "fweak 2 count" ∷
    "frecover 3" ∷
    "fweak 3 get \"x\"" ∷
    "fweak 3 count" ∷
    "frecover 4" ∷
    "fweak 4 get \"x\"" ∷
    "fweak 4 count" ∷
    "feed 3 1 9" ∷
    "feed 3 2 9" ∷
    "feed 3 3 9" ∷
    "feed 3 4 9" ∷
    "fweak 1 get \"x\"" ∷
    "fweak 5 get \"y\"" ∷
    "end" ∷
    [])
    ≡ written (
    "= 1" ∷
    "1 NonPrim - g0 w0 p0@0{1,2,3} a0 v- y- r[] o[] x{} b0" ∷
    "2 NonPrim - g0 w0 p0@0{1,2,3} a0 v- y- r[] o[] x{} b0" ∷
    "3 NonPrim - g0 w0 p0@0{1,2,3} a0 v- y- r[] o[] x{} b0" ∷
    "= 2" ∷
    "1 ExchangeStates c1 g0 w0 p0@0{1,2,3} a0 v- y- r[] o[] x{} b0" ∷
    "2 ExchangeStates c1 g0 w0 p0@0{1,2,3} a0 v- y- r[] o[] x{} b0" ∷
    "3 ExchangeStates c1 g0 w0 p0@0{1,2,3} a0 v- y- r[] o[] x{} b0" ∷
    "= 4" ∷
    "1 Construct c1 g0 w0 p0@0{1,2,3} a1 v1/0{1,2,3}{1} y- r[] o[] x{} b0" ∷
    "= 5" ∷
    "2 Construct c1 g0 w0 p0@0{1,2,3} a1 v1/0{1,2,3}{2} y- r[] o[] x{} b0" ∷
    "= 6" ∷
    "3 Construct c1 g0 w0 p0@0{1,2,3} a1 v1/0{1,2,3}{3} y- r[] o[] x{} b0" ∷
    "= 8" ∷
    "1 RegPrim c1 g0 w0 p1@1{1,2,3} a0 v1/0{1,2,3}{1} y- r[] o[] x{} b0" ∷
    "= 9" ∷
    "2 RegPrim c1 g0 w0 p1@1{1,2,3} a0 v1/0{1,2,3}{2} y- r[] o[] x{} b0" ∷
    "= 10" ∷
    "3 RegPrim c1 g0 w0 p1@1{1,2,3} a0 v1/0{1,2,3}{3} y- r[] o[] x{} b0" ∷
    "= 11" ∷
    "made 1:1 put \"x\" 1" ∷
    "1 RegPrim c1 g0 w0 p1@1{1,2,3} a0 v1/0{1,2,3}{1} y- r[] o[1:1] x{} b0" ∷
    "= 12" ∷
    "made 2:1 inc \"x\" 4" ∷
    "2 RegPrim c1 g0 w0 p1@1{1,2,3} a0 v1/0{1,2,3}{2} y- r[] o[2:1] x{} b0" ∷
    "= 14" ∷
    "order 1 1:1" ∷
    "order 2 2:1" ∷
    "1 RegPrim c1 g2 w0 p1@1{1,2,3} a0 v1/0{1,2,3}{1} y- r[] o[] x{} b0" ∷
    "reply 1:1 done" ∷
    "= 15" ∷
    "2 RegPrim c1 g2 w0 p1@1{1,2,3} a0 v1/0{1,2,3}{2} y- r[] o[] x{} b0" ∷
    "reply 2:1 done" ∷
    "= 16" ∷
    "3 RegPrim c1 g2 w0 p1@1{1,2,3} a0 v1/0{1,2,3}{3} y- r[] o[] x{} b0" ∷
    "= 17" ∷
    "follower 1 2" ∷
    "= 18" ∷
    "follower 2 2" ∷
    "= 19" ∷
    "follower 3 2" ∷
    "= 20" ∷
    "follower 4 2" ∷
    "= 21" ∷
    "follower 5 2" ∷
    "= 22" ∷
    "made 1:2 inc \"x\" 10" ∷
    "1 RegPrim c1 g2 w0 p1@1{1,2,3} a0 v1/0{1,2,3}{1} y- r[] o[1:2] x{} b0" ∷
    "= 23" ∷
    "made 3:1 put \"y\" \"u\"" ∷
    "3 RegPrim c1 g2 w0 p1@1{1,2,3} a0 v1/0{1,2,3}{3} y- r[] o[3:1] x{} b0" ∷
    "= 25" ∷
    "order 3 1:2" ∷
    "order 4 3:1" ∷
    "1 RegPrim c1 g4 w0 p1@1{1,2,3} a0 v1/0{1,2,3}{1} y- r[] o[] x{} b0" ∷
    "reply 1:2 done" ∷
    "= 26" ∷
    "2 RegPrim c1 g4 w0 p1@1{1,2,3} a0 v1/0{1,2,3}{2} y- r[] o[] x{} b0" ∷
    "= 27" ∷
    "3 RegPrim c1 g4 w0 p1@1{1,2,3} a0 v1/0{1,2,3}{3} y- r[] o[] x{} b0" ∷
    "reply 3:1 done" ∷
    "= 29" ∷
    "follower 1 down" ∷
    "= 31" ∷
    "follower 2 down" ∷
    "= 33" ∷
    "follower 3 down" ∷
    "= 35" ∷
    "follower 4 down" ∷
    "= 37" ∷
    "follower 5 4" ∷
    "= 38" ∷
    "follower 1 2" ∷
    "= 39" ∷
    "fweak 1 5" ∷
    "= 40" ∷
    "fweak 1 count 1" ∷
    "= 41" ∷
    "follower 2 2" ∷
    "= 42" ∷
    "fweak 2 5" ∷
    "= 43" ∷
    "fweak 2 count 1" ∷
    "= 44" ∷
    "follower 3 2" ∷
    "= 45" ∷
    "fweak 3 5" ∷
    "= 46" ∷
    "fweak 3 count 1" ∷
    "= 47" ∷
    "follower 4 2" ∷
    "= 48" ∷
    "fweak 4 5" ∷
    "= 49" ∷
    "fweak 4 count 1" ∷
    "= 50" ∷
    "follower 1 4" ∷
    "= 51" ∷
    "follower 2 4" ∷
    "= 52" ∷
    "follower 3 4" ∷
    "= 53" ∷
    "follower 4 4" ∷
    "= 54" ∷
    "fweak 1 15" ∷
    "= 55" ∷
    "fweak 5 \"u\"" ∷
    "end 55" ∷
    [])
unfolding cases_compute
follow_struck_at_each_call_two = refl

-- A line of followers after the end is misplaced.
follow_syntax_after_the_end :
    put_by "follow" (
    "start 1" ∷
    "merge 1" ∷
    "rounds 2" ∷
    "end" ∷
    "feed 1 1 1" ∷
    [])
    ≡ written (
    "= 1" ∷
    "1 NonPrim - g0 w0 p0@0{1} a0 v- y- r[] o[] x{} b0" ∷
    "= 2" ∷
    "1 ExchangeStates c1 g0 w0 p0@0{1} a0 v- y- r[] o[] x{} b0" ∷
    "= 4" ∷
    "1 Construct c1 g0 w0 p0@0{1} a1 v1/0{1}{1} y- r[] o[] x{} b0" ∷
    "= 6" ∷
    "1 RegPrim c1 g0 w0 p1@1{1} a0 v1/0{1}{1} y- r[] o[] x{} b0" ∷
    "syntax 5 9" ∷
    [])
unfolding cases_compute
follow_syntax_after_the_end = refl

-- A line of followers before the start is misplaced.
follow_syntax_before_the_start :
    put_by "follow" (
    "follower 1 1" ∷
    "start 1" ∷
    [])
    ≡ written (
    "syntax 1 9" ∷
    [])
unfolding cases_compute
follow_syntax_before_the_start = refl

-- A feed takes one place or more.
follow_syntax_feed_of_none :
    put_by "follow" (
    "start 1" ∷
    "merge 1" ∷
    "rounds 2" ∷
    "feed 1 7 0" ∷
    [])
    ≡ written (
    "= 1" ∷
    "1 NonPrim - g0 w0 p0@0{1} a0 v- y- r[] o[] x{} b0" ∷
    "= 2" ∷
    "1 ExchangeStates c1 g0 w0 p0@0{1} a0 v- y- r[] o[] x{} b0" ∷
    "= 4" ∷
    "1 Construct c1 g0 w0 p0@0{1} a1 v1/0{1}{1} y- r[] o[] x{} b0" ∷
    "= 6" ∷
    "1 RegPrim c1 g0 w0 p1@1{1} a0 v1/0{1}{1} y- r[] o[] x{} b0" ∷
    "syntax 4 5" ∷
    [])
unfolding cases_compute
follow_syntax_feed_of_none = refl

-- A feed takes at most a million places.
follow_syntax_feed_past_its_range :
    put_by "follow" (
    "start 1" ∷
    "merge 1" ∷
    "rounds 2" ∷
    "feed 1 7 1000001" ∷
    [])
    ≡ written (
    "= 1" ∷
    "1 NonPrim - g0 w0 p0@0{1} a0 v- y- r[] o[] x{} b0" ∷
    "= 2" ∷
    "1 ExchangeStates c1 g0 w0 p0@0{1} a0 v- y- r[] o[] x{} b0" ∷
    "= 4" ∷
    "1 Construct c1 g0 w0 p0@0{1} a1 v1/0{1}{1} y- r[] o[] x{} b0" ∷
    "= 6" ∷
    "1 RegPrim c1 g0 w0 p1@1{1} a0 v1/0{1}{1} y- r[] o[] x{} b0" ∷
    "syntax 4 5" ∷
    [])
unfolding cases_compute
follow_syntax_feed_past_its_range = refl

-- A feed has a count.
follow_syntax_feed_without_its_count :
    put_by "follow" (
    "start 1" ∷
    "merge 1" ∷
    "rounds 2" ∷
    "feed 1 7" ∷
    [])
    ≡ written (
    "= 1" ∷
    "1 NonPrim - g0 w0 p0@0{1} a0 v- y- r[] o[] x{} b0" ∷
    "= 2" ∷
    "1 ExchangeStates c1 g0 w0 p0@0{1} a0 v- y- r[] o[] x{} b0" ∷
    "= 4" ∷
    "1 Construct c1 g0 w0 p0@0{1} a1 v1/0{1}{1} y- r[] o[] x{} b0" ∷
    "= 6" ∷
    "1 RegPrim c1 g0 w0 p1@1{1} a0 v1/0{1}{1} y- r[] o[] x{} b0" ∷
    "syntax 4 3" ∷
    [])
unfolding cases_compute
follow_syntax_feed_without_its_count = refl

-- Followers are 1 to 32.
follow_syntax_follower_past_its_range :
    put_by "follow" (
    "start 1" ∷
    "merge 1" ∷
    "rounds 2" ∷
    "follower 33 1" ∷
    [])
    ≡ written (
    "= 1" ∷
    "1 NonPrim - g0 w0 p0@0{1} a0 v- y- r[] o[] x{} b0" ∷
    "= 2" ∷
    "1 ExchangeStates c1 g0 w0 p0@0{1} a0 v- y- r[] o[] x{} b0" ∷
    "= 4" ∷
    "1 Construct c1 g0 w0 p0@0{1} a1 v1/0{1}{1} y- r[] o[] x{} b0" ∷
    "= 6" ∷
    "1 RegPrim c1 g0 w0 p1@1{1} a0 v1/0{1}{1} y- r[] o[] x{} b0" ∷
    "syntax 4 5" ∷
    [])
unfolding cases_compute
follow_syntax_follower_past_its_range = refl

-- A schedule of followers ends with end.
follow_syntax_no_end :
    put_by "follow" (
    "start 1" ∷
    "merge 1" ∷
    "rounds 2" ∷
    "follower 1 1" ∷
    [])
    ≡ written (
    "= 1" ∷
    "1 NonPrim - g0 w0 p0@0{1} a0 v- y- r[] o[] x{} b0" ∷
    "= 2" ∷
    "1 ExchangeStates c1 g0 w0 p0@0{1} a0 v- y- r[] o[] x{} b0" ∷
    "= 4" ∷
    "1 Construct c1 g0 w0 p0@0{1} a1 v1/0{1}{1} y- r[] o[] x{} b0" ∷
    "= 6" ∷
    "1 RegPrim c1 g0 w0 p1@1{1} a0 v1/0{1}{1} y- r[] o[] x{} b0" ∷
    "= 7" ∷
    "follower 1 0" ∷
    "no end 4" ∷
    [])
unfolding cases_compute
follow_syntax_no_end = refl

-- A follower is asked a query.
follow_syntax_question_that_is_a_command :
    put_by "follow" (
    "start 1" ∷
    "merge 1" ∷
    "rounds 2" ∷
    "fweak 7 put \"x\" 1" ∷
    [])
    ≡ written (
    "= 1" ∷
    "1 NonPrim - g0 w0 p0@0{1} a0 v- y- r[] o[] x{} b0" ∷
    "= 2" ∷
    "1 ExchangeStates c1 g0 w0 p0@0{1} a0 v- y- r[] o[] x{} b0" ∷
    "= 4" ∷
    "1 Construct c1 g0 w0 p0@0{1} a1 v1/0{1}{1} y- r[] o[] x{} b0" ∷
    "= 6" ∷
    "1 RegPrim c1 g0 w0 p1@1{1} a0 v1/0{1}{1} y- r[] o[] x{} b0" ∷
    "syntax 4 7" ∷
    [])
unfolding cases_compute
follow_syntax_question_that_is_a_command = refl

-- A key is quoted.
follow_syntax_question_without_quotes :
    put_by "follow" (
    "start 1" ∷
    "merge 1" ∷
    "rounds 2" ∷
    "fweak 7 get x" ∷
    [])
    ≡ written (
    "= 1" ∷
    "1 NonPrim - g0 w0 p0@0{1} a0 v- y- r[] o[] x{} b0" ∷
    "= 2" ∷
    "1 ExchangeStates c1 g0 w0 p0@0{1} a0 v- y- r[] o[] x{} b0" ∷
    "= 4" ∷
    "1 Construct c1 g0 w0 p0@0{1} a1 v1/0{1}{1} y- r[] o[] x{} b0" ∷
    "= 6" ∷
    "1 RegPrim c1 g0 w0 p1@1{1} a0 v1/0{1}{1} y- r[] o[] x{} b0" ∷
    "syntax 4 6" ∷
    [])
unfolding cases_compute
follow_syntax_question_without_quotes = refl

-- Nothing follows the follower of a recovery.
follow_syntax_recovery_with_a_further_number :
    put_by "follow" (
    "start 1" ∷
    "merge 1" ∷
    "rounds 2" ∷
    "frecover 7 1" ∷
    [])
    ≡ written (
    "= 1" ∷
    "1 NonPrim - g0 w0 p0@0{1} a0 v- y- r[] o[] x{} b0" ∷
    "= 2" ∷
    "1 ExchangeStates c1 g0 w0 p0@0{1} a0 v- y- r[] o[] x{} b0" ∷
    "= 4" ∷
    "1 Construct c1 g0 w0 p0@0{1} a1 v1/0{1}{1} y- r[] o[] x{} b0" ∷
    "= 6" ∷
    "1 RegPrim c1 g0 w0 p1@1{1} a0 v1/0{1}{1} y- r[] o[] x{} b0" ∷
    "syntax 4 4" ∷
    [])
unfolding cases_compute
follow_syntax_recovery_with_a_further_number = refl

-- The bytes of a stop are pairs of digits.
follow_syntax_stop_with_half_a_byte :
    put_by "follow" (
    "start 1" ∷
    "merge 1" ∷
    "rounds 2" ∷
    "fstop 7 1 010" ∷
    [])
    ≡ written (
    "= 1" ∷
    "1 NonPrim - g0 w0 p0@0{1} a0 v- y- r[] o[] x{} b0" ∷
    "= 2" ∷
    "1 ExchangeStates c1 g0 w0 p0@0{1} a0 v- y- r[] o[] x{} b0" ∷
    "= 4" ∷
    "1 Construct c1 g0 w0 p0@0{1} a1 v1/0{1}{1} y- r[] o[] x{} b0" ∷
    "= 6" ∷
    "1 RegPrim c1 g0 w0 p1@1{1} a0 v1/0{1}{1} y- r[] o[] x{} b0" ∷
    "syntax 4 6" ∷
    [])
unfolding cases_compute
follow_syntax_stop_with_half_a_byte = refl

-- The words of followers are in small letters.
follow_syntax_word_in_capitals :
    put_by "follow" (
    "start 1" ∷
    "merge 1" ∷
    "rounds 2" ∷
    "Follower 1 1" ∷
    [])
    ≡ written (
    "= 1" ∷
    "1 NonPrim - g0 w0 p0@0{1} a0 v- y- r[] o[] x{} b0" ∷
    "= 2" ∷
    "1 ExchangeStates c1 g0 w0 p0@0{1} a0 v- y- r[] o[] x{} b0" ∷
    "= 4" ∷
    "1 Construct c1 g0 w0 p0@0{1} a1 v1/0{1}{1} y- r[] o[] x{} b0" ∷
    "= 6" ∷
    "1 RegPrim c1 g0 w0 p1@1{1} a0 v1/0{1}{1} y- r[] o[] x{} b0" ∷
    "syntax 4 2" ∷
    [])
unfolding cases_compute
follow_syntax_word_in_capitals = refl

-- A word of sessions is none here.
follow_syntax_word_of_sessions :
    put_by "follow" (
    "start 1" ∷
    "merge 1" ∷
    "rounds 2" ∷
    "sweak 1 1 count" ∷
    [])
    ≡ written (
    "= 1" ∷
    "1 NonPrim - g0 w0 p0@0{1} a0 v- y- r[] o[] x{} b0" ∷
    "= 2" ∷
    "1 ExchangeStates c1 g0 w0 p0@0{1} a0 v- y- r[] o[] x{} b0" ∷
    "= 4" ∷
    "1 Construct c1 g0 w0 p0@0{1} a1 v1/0{1}{1} y- r[] o[] x{} b0" ∷
    "= 6" ∷
    "1 RegPrim c1 g0 w0 p1@1{1} a0 v1/0{1}{1} y- r[] o[] x{} b0" ∷
    "syntax 4 2" ∷
    [])
unfolding cases_compute
follow_syntax_word_of_sessions = refl

-- The last shown cursor counts while the follower is down, also where its disk is at an earlier one.
follow_would_go_back_while_down :
    put_by "follow" (
    "start 1 2 3" ∷
    "merge 1 2 3" ∷
    "rounds 2" ∷
    "split 1 2" ∷
    "split 3" ∷
    "merge 1 2" ∷
    "merge 3" ∷
    "rounds 2" ∷
    "request 1 put \"x\" 5" ∷
    "request 3 put \"x\" 6" ∷
    "rounds 1" ∷
    "follower 2 3" ∷
    "feed 1 2 1" ∷
    "fstop 2 0 -" ∷
    "follower 2 3" ∷
    [])
    ≡ written (
    "= 1" ∷
    "1 NonPrim - g0 w0 p0@0{1,2,3} a0 v- y- r[] o[] x{} b0" ∷
    "2 NonPrim - g0 w0 p0@0{1,2,3} a0 v- y- r[] o[] x{} b0" ∷
    "3 NonPrim - g0 w0 p0@0{1,2,3} a0 v- y- r[] o[] x{} b0" ∷
    "= 2" ∷
    "1 ExchangeStates c1 g0 w0 p0@0{1,2,3} a0 v- y- r[] o[] x{} b0" ∷
    "2 ExchangeStates c1 g0 w0 p0@0{1,2,3} a0 v- y- r[] o[] x{} b0" ∷
    "3 ExchangeStates c1 g0 w0 p0@0{1,2,3} a0 v- y- r[] o[] x{} b0" ∷
    "= 4" ∷
    "1 Construct c1 g0 w0 p0@0{1,2,3} a1 v1/0{1,2,3}{1} y- r[] o[] x{} b0" ∷
    "= 5" ∷
    "2 Construct c1 g0 w0 p0@0{1,2,3} a1 v1/0{1,2,3}{2} y- r[] o[] x{} b0" ∷
    "= 6" ∷
    "3 Construct c1 g0 w0 p0@0{1,2,3} a1 v1/0{1,2,3}{3} y- r[] o[] x{} b0" ∷
    "= 8" ∷
    "1 RegPrim c1 g0 w0 p1@1{1,2,3} a0 v1/0{1,2,3}{1} y- r[] o[] x{} b0" ∷
    "= 9" ∷
    "2 RegPrim c1 g0 w0 p1@1{1,2,3} a0 v1/0{1,2,3}{2} y- r[] o[] x{} b0" ∷
    "= 10" ∷
    "3 RegPrim c1 g0 w0 p1@1{1,2,3} a0 v1/0{1,2,3}{3} y- r[] o[] x{} b0" ∷
    "= 11" ∷
    "1 TransPrim t1 g0 w0 p1@1{1,2,3} a0 v1/0{1,2,3}{1} y- r[] o[] x{} b0" ∷
    "2 TransPrim t1 g0 w0 p1@1{1,2,3} a0 v1/0{1,2,3}{2} y- r[] o[] x{} b0" ∷
    "= 12" ∷
    "3 TransPrim t1 g0 w0 p1@1{1,2,3} a0 v1/0{1,2,3}{3} y- r[] o[] x{} b0" ∷
    "= 13" ∷
    "1 ExchangeStates c2 g0 w0 p1@1{1,2,3} a0 v- y![] r[] o[] x{} b0" ∷
    "2 ExchangeStates c2 g0 w0 p1@1{1,2,3} a0 v- y![] r[] o[] x{} b0" ∷
    "= 14" ∷
    "3 ExchangeStates c3 g0 w0 p1@1{1,2,3} a0 v- y![] r[] o[] x{} b0" ∷
    "= 16" ∷
    "1 Construct c2 g0 w0 p1@1{1,2,3} a1 v2/1{1,2}{1} y![] r[] o[] x{} b0" ∷
    "= 17" ∷
    "2 Construct c2 g0 w0 p1@1{1,2,3} a1 v2/1{1,2}{2} y![] r[] o[] x{} b0" ∷
    "= 18" ∷
    "3 NonPrim c3 g0 w0 p1@1{1,2,3} a0 v- y![] r[] o[] x{} b0" ∷
    "= 20" ∷
    "1 RegPrim c2 g0 w0 p2@2{1,2} a0 v2/1{1,2}{1} y- r[] o[] x{} b0" ∷
    "= 21" ∷
    "2 RegPrim c2 g0 w0 p2@2{1,2} a0 v2/1{1,2}{2} y- r[] o[] x{} b0" ∷
    "= 22" ∷
    "made 1:1 put \"x\" 5" ∷
    "1 RegPrim c2 g0 w0 p2@2{1,2} a0 v2/1{1,2}{1} y- r[] o[1:1] x{} b0" ∷
    "= 23" ∷
    "made 3:1 put \"x\" 6" ∷
    "3 NonPrim c3 g0 w0 p1@1{1,2,3} a0 v- y![] r[] o[3:1] x{} b0" ∷
    "= 25" ∷
    "order 1 1:1" ∷
    "1 RegPrim c2 g1 w0 p2@2{1,2} a0 v2/1{1,2}{1} y- r[] o[] x{} b0" ∷
    "reply 1:1 done" ∷
    "= 26" ∷
    "2 RegPrim c2 g1 w0 p2@2{1,2} a0 v2/1{1,2}{2} y- r[] o[] x{} b0" ∷
    "= 27" ∷
    "3 NonPrim c3 g0 w0 p1@1{1,2,3} a0 v- y![] r[3:1] o[] x{} b0" ∷
    "= 28" ∷
    "follower 2 0" ∷
    "= 29" ∷
    "follower 2 1" ∷
    "= 30" ∷
    "follower 2 down" ∷
    "refused 15 19 1" ∷
    [])
unfolding cases_compute
follow_would_go_back_while_down = refl

-- A follower is not made anew from a replica that is behind it.
follow_would_go_back :
    put_by "follow" (
    "start 1 2 3" ∷
    "merge 1 2 3" ∷
    "rounds 2" ∷
    "split 1 2" ∷
    "split 3" ∷
    "merge 1 2" ∷
    "merge 3" ∷
    "rounds 2" ∷
    "request 1 put \"x\" 5" ∷
    "request 3 put \"x\" 6" ∷
    "rounds 1" ∷
    "follower 2 1" ∷
    "follower 2 3" ∷
    [])
    ≡ written (
    "= 1" ∷
    "1 NonPrim - g0 w0 p0@0{1,2,3} a0 v- y- r[] o[] x{} b0" ∷
    "2 NonPrim - g0 w0 p0@0{1,2,3} a0 v- y- r[] o[] x{} b0" ∷
    "3 NonPrim - g0 w0 p0@0{1,2,3} a0 v- y- r[] o[] x{} b0" ∷
    "= 2" ∷
    "1 ExchangeStates c1 g0 w0 p0@0{1,2,3} a0 v- y- r[] o[] x{} b0" ∷
    "2 ExchangeStates c1 g0 w0 p0@0{1,2,3} a0 v- y- r[] o[] x{} b0" ∷
    "3 ExchangeStates c1 g0 w0 p0@0{1,2,3} a0 v- y- r[] o[] x{} b0" ∷
    "= 4" ∷
    "1 Construct c1 g0 w0 p0@0{1,2,3} a1 v1/0{1,2,3}{1} y- r[] o[] x{} b0" ∷
    "= 5" ∷
    "2 Construct c1 g0 w0 p0@0{1,2,3} a1 v1/0{1,2,3}{2} y- r[] o[] x{} b0" ∷
    "= 6" ∷
    "3 Construct c1 g0 w0 p0@0{1,2,3} a1 v1/0{1,2,3}{3} y- r[] o[] x{} b0" ∷
    "= 8" ∷
    "1 RegPrim c1 g0 w0 p1@1{1,2,3} a0 v1/0{1,2,3}{1} y- r[] o[] x{} b0" ∷
    "= 9" ∷
    "2 RegPrim c1 g0 w0 p1@1{1,2,3} a0 v1/0{1,2,3}{2} y- r[] o[] x{} b0" ∷
    "= 10" ∷
    "3 RegPrim c1 g0 w0 p1@1{1,2,3} a0 v1/0{1,2,3}{3} y- r[] o[] x{} b0" ∷
    "= 11" ∷
    "1 TransPrim t1 g0 w0 p1@1{1,2,3} a0 v1/0{1,2,3}{1} y- r[] o[] x{} b0" ∷
    "2 TransPrim t1 g0 w0 p1@1{1,2,3} a0 v1/0{1,2,3}{2} y- r[] o[] x{} b0" ∷
    "= 12" ∷
    "3 TransPrim t1 g0 w0 p1@1{1,2,3} a0 v1/0{1,2,3}{3} y- r[] o[] x{} b0" ∷
    "= 13" ∷
    "1 ExchangeStates c2 g0 w0 p1@1{1,2,3} a0 v- y![] r[] o[] x{} b0" ∷
    "2 ExchangeStates c2 g0 w0 p1@1{1,2,3} a0 v- y![] r[] o[] x{} b0" ∷
    "= 14" ∷
    "3 ExchangeStates c3 g0 w0 p1@1{1,2,3} a0 v- y![] r[] o[] x{} b0" ∷
    "= 16" ∷
    "1 Construct c2 g0 w0 p1@1{1,2,3} a1 v2/1{1,2}{1} y![] r[] o[] x{} b0" ∷
    "= 17" ∷
    "2 Construct c2 g0 w0 p1@1{1,2,3} a1 v2/1{1,2}{2} y![] r[] o[] x{} b0" ∷
    "= 18" ∷
    "3 NonPrim c3 g0 w0 p1@1{1,2,3} a0 v- y![] r[] o[] x{} b0" ∷
    "= 20" ∷
    "1 RegPrim c2 g0 w0 p2@2{1,2} a0 v2/1{1,2}{1} y- r[] o[] x{} b0" ∷
    "= 21" ∷
    "2 RegPrim c2 g0 w0 p2@2{1,2} a0 v2/1{1,2}{2} y- r[] o[] x{} b0" ∷
    "= 22" ∷
    "made 1:1 put \"x\" 5" ∷
    "1 RegPrim c2 g0 w0 p2@2{1,2} a0 v2/1{1,2}{1} y- r[] o[1:1] x{} b0" ∷
    "= 23" ∷
    "made 3:1 put \"x\" 6" ∷
    "3 NonPrim c3 g0 w0 p1@1{1,2,3} a0 v- y![] r[] o[3:1] x{} b0" ∷
    "= 25" ∷
    "order 1 1:1" ∷
    "1 RegPrim c2 g1 w0 p2@2{1,2} a0 v2/1{1,2}{1} y- r[] o[] x{} b0" ∷
    "reply 1:1 done" ∷
    "= 26" ∷
    "2 RegPrim c2 g1 w0 p2@2{1,2} a0 v2/1{1,2}{2} y- r[] o[] x{} b0" ∷
    "= 27" ∷
    "3 NonPrim c3 g0 w0 p1@1{1,2,3} a0 v- y![] r[3:1] o[] x{} b0" ∷
    "= 28" ∷
    "follower 2 1" ∷
    "refused 13 19 1" ∷
    [])
unfolding cases_compute
follow_would_go_back = refl
