-- Cases of cases/ with their whole reports, which `.ci/theorems` writes down here.
use Rattle.std.specs.Prelude.{◌≡◌, [], ◌∷◌}
use mathlib.Core.Path.{refl}
use Rattle.cg_run_cases.specs.Replaying.{put_by, written}
use Rattle.cg_run_cases.specs.Computing.{cases_compute}

-- Follow: a follower is unknown, down or up.
generated_follow_a_follower_is_unknown_down_or_up_a :
    put_by "follow" (
    "start 1 2 3*2 4 5*4" ∷
    "merge 1 2 3 4 5" ∷
    "rounds 2" ∷
    "split 1 2 3 4 5" ∷
    "merge 1 2 3 4 5" ∷
    "order 1" ∷
    "receive 2 1" ∷
    "gather" ∷
    "rounds 1" ∷
    "follower 4 4" ∷
    "request 1 put \"x\" 56; put \"a\" -6 ? get \"a\"" ∷
    "split 1 2" ∷
    "split 3 4 5" ∷
    "merge 3 4 5" ∷
    "gather" ∷
    "gather" ∷
    "split 3 4 5" ∷
    "merge 1 2 3 4 5" ∷
    "rounds 4" ∷
    "feed 1 4 100" ∷
    "request 2 inc \"a\" 1; inc \"b\" 6; put \"ab\" 13" ∷
    "fweak 4 get \"ab\"" ∷
    "order 2" ∷
    "gather" ∷
    "frecover 3" ∷
    "end" ∷
    [])
    ≡ written (
    "= 1" ∷
    "1 NonPrim - g0 w0 p0@0{1,2,3*2,4,5*4} a0 v- y- r[] o[] x{} b0" ∷
    "2 NonPrim - g0 w0 p0@0{1,2,3*2,4,5*4} a0 v- y- r[] o[] x{} b0" ∷
    "3 NonPrim - g0 w0 p0@0{1,2,3*2,4,5*4} a0 v- y- r[] o[] x{} b0" ∷
    "4 NonPrim - g0 w0 p0@0{1,2,3*2,4,5*4} a0 v- y- r[] o[] x{} b0" ∷
    "5 NonPrim - g0 w0 p0@0{1,2,3*2,4,5*4} a0 v- y- r[] o[] x{} b0" ∷
    "= 2" ∷
    "1 ExchangeStates c1 g0 w0 p0@0{1,2,3*2,4,5*4} a0 v- y- r[] o[] x{} b0" ∷
    "2 ExchangeStates c1 g0 w0 p0@0{1,2,3*2,4,5*4} a0 v- y- r[] o[] x{} b0" ∷
    "3 ExchangeStates c1 g0 w0 p0@0{1,2,3*2,4,5*4} a0 v- y- r[] o[] x{} b0" ∷
    "4 ExchangeStates c1 g0 w0 p0@0{1,2,3*2,4,5*4} a0 v- y- r[] o[] x{} b0" ∷
    "5 ExchangeStates c1 g0 w0 p0@0{1,2,3*2,4,5*4} a0 v- y- r[] o[] x{} b0" ∷
    "= 4" ∷
    "1 Construct c1 g0 w0 p0@0{1,2,3*2,4,5*4} a1 v1/0{1,2,3,4,5}{1} y- r[] o[] x{} b0" ∷
    "= 5" ∷
    "2 Construct c1 g0 w0 p0@0{1,2,3*2,4,5*4} a1 v1/0{1,2,3,4,5}{2} y- r[] o[] x{} b0" ∷
    "= 6" ∷
    "3 Construct c1 g0 w0 p0@0{1,2,3*2,4,5*4} a1 v1/0{1,2,3,4,5}{3} y- r[] o[] x{} b0" ∷
    "= 7" ∷
    "4 Construct c1 g0 w0 p0@0{1,2,3*2,4,5*4} a1 v1/0{1,2,3,4,5}{4} y- r[] o[] x{} b0" ∷
    "= 8" ∷
    "5 Construct c1 g0 w0 p0@0{1,2,3*2,4,5*4} a1 v1/0{1,2,3,4,5}{5} y- r[] o[] x{} b0" ∷
    "= 10" ∷
    "1 RegPrim c1 g0 w0 p1@1{1,2,3*2,4,5*4} a0 v1/0{1,2,3,4,5}{1} y- r[] o[] x{} b0" ∷
    "= 11" ∷
    "2 RegPrim c1 g0 w0 p1@1{1,2,3*2,4,5*4} a0 v1/0{1,2,3,4,5}{2} y- r[] o[] x{} b0" ∷
    "= 12" ∷
    "3 RegPrim c1 g0 w0 p1@1{1,2,3*2,4,5*4} a0 v1/0{1,2,3,4,5}{3} y- r[] o[] x{} b0" ∷
    "= 13" ∷
    "4 RegPrim c1 g0 w0 p1@1{1,2,3*2,4,5*4} a0 v1/0{1,2,3,4,5}{4} y- r[] o[] x{} b0" ∷
    "= 14" ∷
    "5 RegPrim c1 g0 w0 p1@1{1,2,3*2,4,5*4} a0 v1/0{1,2,3,4,5}{5} y- r[] o[] x{} b0" ∷
    "= 15" ∷
    "1 TransPrim t1 g0 w0 p1@1{1,2,3*2,4,5*4} a0 v1/0{1,2,3,4,5}{1} y- r[] o[] x{} b0" ∷
    "2 TransPrim t1 g0 w0 p1@1{1,2,3*2,4,5*4} a0 v1/0{1,2,3,4,5}{2} y- r[] o[] x{} b0" ∷
    "3 TransPrim t1 g0 w0 p1@1{1,2,3*2,4,5*4} a0 v1/0{1,2,3,4,5}{3} y- r[] o[] x{} b0" ∷
    "4 TransPrim t1 g0 w0 p1@1{1,2,3*2,4,5*4} a0 v1/0{1,2,3,4,5}{4} y- r[] o[] x{} b0" ∷
    "5 TransPrim t1 g0 w0 p1@1{1,2,3*2,4,5*4} a0 v1/0{1,2,3,4,5}{5} y- r[] o[] x{} b0" ∷
    "= 16" ∷
    "1 ExchangeStates c2 g0 w0 p1@1{1,2,3*2,4,5*4} a0 v- y![] r[] o[] x{} b0" ∷
    "2 ExchangeStates c2 g0 w0 p1@1{1,2,3*2,4,5*4} a0 v- y![] r[] o[] x{} b0" ∷
    "3 ExchangeStates c2 g0 w0 p1@1{1,2,3*2,4,5*4} a0 v- y![] r[] o[] x{} b0" ∷
    "4 ExchangeStates c2 g0 w0 p1@1{1,2,3*2,4,5*4} a0 v- y![] r[] o[] x{} b0" ∷
    "5 ExchangeStates c2 g0 w0 p1@1{1,2,3*2,4,5*4} a0 v- y![] r[] o[] x{} b0" ∷
    "= 21" ∷
    "1 Construct c2 g0 w0 p1@1{1,2,3*2,4,5*4} a1 v2/1{1,2,3,4,5}{1} y![] r[] o[] x{} b0" ∷
    "= 22" ∷
    "2 Construct c2 g0 w0 p1@1{1,2,3*2,4,5*4} a1 v2/1{1,2,3,4,5}{2} y![] r[] o[] x{} b0" ∷
    "= 23" ∷
    "3 Construct c2 g0 w0 p1@1{1,2,3*2,4,5*4} a1 v2/1{1,2,3,4,5}{3} y![] r[] o[] x{} b0" ∷
    "= 24" ∷
    "4 Construct c2 g0 w0 p1@1{1,2,3*2,4,5*4} a1 v2/1{1,2,3,4,5}{4} y![] r[] o[] x{} b0" ∷
    "= 25" ∷
    "5 Construct c2 g0 w0 p1@1{1,2,3*2,4,5*4} a1 v2/1{1,2,3,4,5}{5} y![] r[] o[] x{} b0" ∷
    "= 26" ∷
    "follower 4 0" ∷
    "= 27" ∷
    "1 Construct c2 g0 w0 p1@1{1,2,3*2,4,5*4} a1 v2/1{1,2,3,4,5}{1} y![] r[] o[] x{} b1" ∷
    "= 28" ∷
    "1 No t2 g0 w0 p1@1{1,2,3*2,4,5*4} a1 v2/1{1,2,3,4,5}{1} y![] r[] o[] x{} b1" ∷
    "2 No t2 g0 w0 p1@1{1,2,3*2,4,5*4} a1 v2/1{1,2,3,4,5}{2} y![] r[] o[] x{} b0" ∷
    "= 29" ∷
    "3 No t2 g0 w0 p1@1{1,2,3*2,4,5*4} a1 v2/1{1,2,3,4,5}{3} y![] r[] o[] x{} b0" ∷
    "4 No t2 g0 w0 p1@1{1,2,3*2,4,5*4} a1 v2/1{1,2,3,4,5}{4} y![] r[] o[] x{} b0" ∷
    "5 No t2 g0 w0 p1@1{1,2,3*2,4,5*4} a1 v2/1{1,2,3,4,5}{5} y![] r[] o[] x{} b0" ∷
    "= 30" ∷
    "3 ExchangeStates c3 g0 w0 p1@1{1,2,3*2,4,5*4} a1 v- y![] r[] o[] x{} b0" ∷
    "4 ExchangeStates c3 g0 w0 p1@1{1,2,3*2,4,5*4} a1 v- y![] r[] o[] x{} b0" ∷
    "5 ExchangeStates c3 g0 w0 p1@1{1,2,3*2,4,5*4} a1 v- y![] r[] o[] x{} b0" ∷
    "= 33" ∷
    "3 NonPrim t3 g0 w0 p1@1{1,2,3*2,4,5*4} a1 v- y![] r[] o[] x{} b0" ∷
    "4 NonPrim t3 g0 w0 p1@1{1,2,3*2,4,5*4} a1 v- y![] r[] o[] x{} b0" ∷
    "5 NonPrim t3 g0 w0 p1@1{1,2,3*2,4,5*4} a1 v- y![] r[] o[] x{} b0" ∷
    "= 34" ∷
    "1 ExchangeStates c4 g0 w0 p1@1{1,2,3*2,4,5*4} a1 v- y![] r[] o[] x{} b1" ∷
    "2 ExchangeStates c4 g0 w0 p1@1{1,2,3*2,4,5*4} a1 v- y![] r[] o[] x{} b0" ∷
    "3 ExchangeStates c4 g0 w0 p1@1{1,2,3*2,4,5*4} a1 v- y![] r[] o[] x{} b0" ∷
    "4 ExchangeStates c4 g0 w0 p1@1{1,2,3*2,4,5*4} a1 v- y![] r[] o[] x{} b0" ∷
    "5 ExchangeStates c4 g0 w0 p1@1{1,2,3*2,4,5*4} a1 v- y![] r[] o[] x{} b0" ∷
    "= 36" ∷
    "1 Construct c4 g0 w0 p1@1{1,2,3*2,4,5*4} a2 v4/1{1,2,3,4,5}{1} y![] r[] o[] x{} b1" ∷
    "= 37" ∷
    "2 Construct c4 g0 w0 p1@1{1,2,3*2,4,5*4} a2 v4/1{1,2,3,4,5}{2} y![] r[] o[] x{} b0" ∷
    "= 38" ∷
    "3 Construct c4 g0 w0 p1@1{1,2,3*2,4,5*4} a2 v4/1{1,2,3,4,5}{3} y![] r[] o[] x{} b0" ∷
    "= 39" ∷
    "4 Construct c4 g0 w0 p1@1{1,2,3*2,4,5*4} a2 v4/1{1,2,3,4,5}{4} y![] r[] o[] x{} b0" ∷
    "= 40" ∷
    "5 Construct c4 g0 w0 p1@1{1,2,3*2,4,5*4} a2 v4/1{1,2,3,4,5}{5} y![] r[] o[] x{} b0" ∷
    "= 42" ∷
    "made 1:1 put \"x\" 56; put \"a\" -6 ? get \"a\"" ∷
    "1 RegPrim c4 g0 w0 p2@4{1,2,3*2,4,5*4} a0 v4/1{1,2,3,4,5}{1} y- r[] o[1:1] x{} b0" ∷
    "= 43" ∷
    "2 RegPrim c4 g0 w0 p2@4{1,2,3*2,4,5*4} a0 v4/1{1,2,3,4,5}{2} y- r[] o[] x{} b0" ∷
    "= 44" ∷
    "3 RegPrim c4 g0 w0 p2@4{1,2,3*2,4,5*4} a0 v4/1{1,2,3,4,5}{3} y- r[] o[] x{} b0" ∷
    "= 45" ∷
    "4 RegPrim c4 g0 w0 p2@4{1,2,3*2,4,5*4} a0 v4/1{1,2,3,4,5}{4} y- r[] o[] x{} b0" ∷
    "= 46" ∷
    "5 RegPrim c4 g0 w0 p2@4{1,2,3*2,4,5*4} a0 v4/1{1,2,3,4,5}{5} y- r[] o[] x{} b0" ∷
    "= 48" ∷
    "order 1 1:1" ∷
    "1 RegPrim c4 g1 w0 p2@4{1,2,3*2,4,5*4} a0 v4/1{1,2,3,4,5}{1} y- r[] o[] x{} b0" ∷
    "reply 1:1 done ? -6" ∷
    "= 49" ∷
    "2 RegPrim c4 g1 w0 p2@4{1,2,3*2,4,5*4} a0 v4/1{1,2,3,4,5}{2} y- r[] o[] x{} b0" ∷
    "= 50" ∷
    "3 RegPrim c4 g1 w0 p2@4{1,2,3*2,4,5*4} a0 v4/1{1,2,3,4,5}{3} y- r[] o[] x{} b0" ∷
    "= 51" ∷
    "4 RegPrim c4 g1 w0 p2@4{1,2,3*2,4,5*4} a0 v4/1{1,2,3,4,5}{4} y- r[] o[] x{} b0" ∷
    "= 52" ∷
    "5 RegPrim c4 g1 w0 p2@4{1,2,3*2,4,5*4} a0 v4/1{1,2,3,4,5}{5} y- r[] o[] x{} b0" ∷
    "= 54" ∷
    "follower 4 1" ∷
    "= 55" ∷
    "made 2:1 inc \"a\" 1; inc \"b\" 6; put \"ab\" 13" ∷
    "2 RegPrim c4 g1 w0 p2@4{1,2,3*2,4,5*4} a0 v4/1{1,2,3,4,5}{2} y- r[] o[2:1] x{} b0" ∷
    "= 56" ∷
    "fweak 4 absent" ∷
    "refused 25 20 3" ∷
    [])
unfolding cases_compute
generated_follow_a_follower_is_unknown_down_or_up_a = refl

-- Follow: a place was discarded.
generated_follow_a_place_was_discarded_a :
    put_by "follow" (
    "start 1" ∷
    "merge 1" ∷
    "rounds 3" ∷
    "gather" ∷
    "gather" ∷
    "gather" ∷
    "gather" ∷
    "show order" ∷
    "gather" ∷
    "follower 1 1" ∷
    "request 1 del \"a\"" ∷
    "split 1" ∷
    "merge 1" ∷
    "gather" ∷
    "follower 4 1" ∷
    "fweak 4 get \"ab\"" ∷
    "deliver 1 1" ∷
    "request 1 need \"x\" 16 ? get \"a\"" ∷
    "fstop 4 4 01" ∷
    "request 1 cas \"b\" absent 58 ? get \"a\"" ∷
    "feed 1 4 1000000" ∷
    "rounds 3" ∷
    "rounds 1" ∷
    "rounds 2" ∷
    "feed 1 1 1000000" ∷
    "end" ∷
    [])
    ≡ written (
    "= 1" ∷
    "1 NonPrim - g0 w0 p0@0{1} a0 v- y- r[] o[] x{} b0" ∷
    "= 2" ∷
    "1 ExchangeStates c1 g0 w0 p0@0{1} a0 v- y- r[] o[] x{} b0" ∷
    "= 4" ∷
    "1 Construct c1 g0 w0 p0@0{1} a1 v1/0{1}{1} y- r[] o[] x{} b0" ∷
    "= 6" ∷
    "1 RegPrim c1 g0 w0 p1@1{1} a0 v1/0{1}{1} y- r[] o[] x{} b0" ∷
    "= 12" ∷
    "all []" ∷
    "= 14" ∷
    "follower 1 0" ∷
    "= 15" ∷
    "made 1:1 del \"a\"" ∷
    "1 RegPrim c1 g0 w0 p1@1{1} a0 v1/0{1}{1} y- r[] o[1:1] x{} b0" ∷
    "= 16" ∷
    "1 TransPrim t1 g0 w0 p1@1{1} a0 v1/0{1}{1} y- r[] o[1:1] x{} b0" ∷
    "= 17" ∷
    "1 ExchangeStates c2 g0 w0 p1@1{1} a0 v- y![] r[1:1] o[] x{} b0" ∷
    "= 19" ∷
    "follower 4 0" ∷
    "= 20" ∷
    "fweak 4 absent" ∷
    "= 21" ∷
    "1 Construct c2 g0 w0 p1@1{1} a1 v2/1{1}{1} y![] r[1:1] o[] x{} b0" ∷
    "= 22" ∷
    "1 Construct c2 g0 w0 p1@1{1} a1 v2/1{1}{1} y![] r[1:1] o[] x{} b1" ∷
    "= 24" ∷
    "1 Construct c2 g0 w0 p1@1{1} a1 v2/1{1}{1} y![] r[1:1] o[] x{} b2" ∷
    "= 27" ∷
    "made 1:2 need \"x\" 16 ? get \"a\"" ∷
    "made 1:3 cas \"b\" absent 58 ? get \"a\"" ∷
    "order 1 1:1" ∷
    "1 RegPrim c2 g1 w0 p2@2{1} a0 v2/1{1}{1} y- r[] o[1:2,1:3] x{} b0" ∷
    "reply 1:1 done" ∷
    "= 29" ∷
    "order 2 1:2" ∷
    "order 3 1:3" ∷
    "1 RegPrim c2 g3 w1 p2@2{1} a0 v2/1{1}{1} y- r[] o[] x{} b0" ∷
    "reply 1:2 aborted 1 ? absent" ∷
    "reply 1:3 done ? absent" ∷
    "refused 25 18 1" ∷
    [])
unfolding cases_compute
generated_follow_a_place_was_discarded_a = refl

-- Follow: a replica that feeds was recovered.
generated_follow_over_a_recovery_a :
    put_by "follow" (
    "start 8" ∷
    "merge 8" ∷
    "rounds 1" ∷
    "rounds 3" ∷
    "request 8 inc \"y\" 6; del \"b\"; inc \"x\" 11" ∷
    "request 8 inc \"a\" 4; put \"x\" 96 ? get \"x\"" ∷
    "gather" ∷
    "deliver 8 2" ∷
    "split 8" ∷
    "merge 8" ∷
    "order 8" ∷
    "follower 2 8" ∷
    "request 8 put \"x\" 0; inc \"ab\" 3; put \"abc\" 7; inc \"x\" -9223372036854775808 ? keys \"ab\"" ∷
    "request 8 inc \"y\" 9223372036854775807; inc \"b\" 5; put \"ab\" \"\"; move \"y\" \"a\" 1 ? keys \"k\"" ∷
    "rounds 1" ∷
    "gather" ∷
    "rounds 3" ∷
    "split 8" ∷
    "stop 8 0 -" ∷
    "recover 8" ∷
    "merge 8" ∷
    "fweak 2 get \"y\"" ∷
    "gather" ∷
    "feed 8 2 2" ∷
    "request 8 cas \"a\" 64 56 ? get \"abc\"" ∷
    "split 8" ∷
    "merge 8" ∷
    "split 8" ∷
    "merge 8" ∷
    "end" ∷
    [])
    ≡ written (
    "= 1" ∷
    "8 NonPrim - g0 w0 p0@0{8} a0 v- y- r[] o[] x{} b0" ∷
    "= 2" ∷
    "8 ExchangeStates c1 g0 w0 p0@0{8} a0 v- y- r[] o[] x{} b0" ∷
    "= 4" ∷
    "8 Construct c1 g0 w0 p0@0{8} a1 v1/0{8}{8} y- r[] o[] x{} b0" ∷
    "= 6" ∷
    "8 RegPrim c1 g0 w0 p1@1{8} a0 v1/0{8}{8} y- r[] o[] x{} b0" ∷
    "= 9" ∷
    "made 8:1 inc \"y\" 6; del \"b\"; inc \"x\" 11" ∷
    "8 RegPrim c1 g0 w0 p1@1{8} a0 v1/0{8}{8} y- r[] o[8:1] x{} b0" ∷
    "= 10" ∷
    "made 8:2 inc \"a\" 4; put \"x\" 96 ? get \"x\"" ∷
    "8 RegPrim c1 g0 w0 p1@1{8} a0 v1/0{8}{8} y- r[] o[8:1,8:2] x{} b0" ∷
    "= 12" ∷
    "order 1 8:1" ∷
    "order 2 8:2" ∷
    "8 RegPrim c1 g2 w0 p1@1{8} a0 v1/0{8}{8} y- r[] o[] x{} b0" ∷
    "reply 8:1 done" ∷
    "reply 8:2 done ? 96" ∷
    "= 13" ∷
    "8 TransPrim t1 g2 w0 p1@1{8} a0 v1/0{8}{8} y- r[] o[] x{} b0" ∷
    "= 14" ∷
    "8 ExchangeStates c2 g2 w0 p1@1{8} a0 v- y![] r[] o[] x{} b0" ∷
    "= 16" ∷
    "follower 2 2" ∷
    "= 17" ∷
    "8 ExchangeStates c2 g2 w0 p1@1{8} a0 v- y![] r[] o[] x{} b1" ∷
    "= 18" ∷
    "8 ExchangeStates c2 g2 w0 p1@1{8} a0 v- y![] r[] o[] x{} b2" ∷
    "= 20" ∷
    "8 Construct c2 g2 w0 p1@1{8} a1 v2/1{8}{8} y![] r[] o[] x{} b2" ∷
    "= 23" ∷
    "made 8:3 put \"x\" 0; inc \"ab\" 3; put \"abc\" 7; inc \"x\" -9223372036854775808 ? keys \"ab\"" ∷
    "made 8:4 inc \"y\" 9223372036854775807; inc \"b\" 5; put \"ab\" \"\"; move \"y\" \"a\" 1 ? keys \"k\"" ∷
    "8 RegPrim c2 g2 w0 p2@2{8} a0 v2/1{8}{8} y- r[] o[8:3,8:4] x{} b0" ∷
    "= 25" ∷
    "order 3 8:3" ∷
    "order 4 8:4" ∷
    "8 RegPrim c2 g4 w2 p2@2{8} a0 v2/1{8}{8} y- r[] o[] x{} b0" ∷
    "reply 8:3 done ? keys \"ab\" \"abc\"" ∷
    "reply 8:4 range 1 ? keys" ∷
    "= 27" ∷
    "8 TransPrim t2 g4 w2 p2@2{8} a0 v2/1{8}{8} y- r[] o[] x{} b0" ∷
    "= 28" ∷
    "8 Down" ∷
    "= 29" ∷
    "8 NonPrim - g4 w2 p2@2{8} a0 v2/1{8}{8} y- r[] o[] x{} b0" ∷
    "= 30" ∷
    "8 ExchangeStates c3 g4 w2 p2@2{8} a0 v2/1{8}{8} y- r[] o[] x{} b0" ∷
    "= 31" ∷
    "fweak 2 6" ∷
    "= 33" ∷
    "follower 2 4" ∷
    "= 34" ∷
    "8 ExchangeStates c3 g4 w2 p2@2{8} a0 v2/1{8}{8} y- r[] o[] x{} b1" ∷
    "= 35" ∷
    "8 NonPrim t3 g4 w2 p2@2{8} a0 v2/1{8}{8} y- r[] o[] x{} b1" ∷
    "= 36" ∷
    "8 ExchangeStates c4 g4 w2 p2@2{8} a0 v2/1{8}{8} y- r[] o[] x{} b1" ∷
    "= 37" ∷
    "8 NonPrim t4 g4 w2 p2@2{8} a0 v2/1{8}{8} y- r[] o[] x{} b1" ∷
    "= 38" ∷
    "8 ExchangeStates c5 g4 w2 p2@2{8} a0 v2/1{8}{8} y- r[] o[] x{} b1" ∷
    "end 38" ∷
    [])
unfolding cases_compute
generated_follow_over_a_recovery_a = refl

-- Follow: actions are red.
generated_follow_red_a :
    put_by "follow" (
    "start 1 2 3 4 5" ∷
    "merge 1 2 3 4 5" ∷
    "rounds 3" ∷
    "request 3 move \"z\" \"a\" 5" ∷
    "rounds 1" ∷
    "rounds 1" ∷
    "leave 3 4" ∷
    "rounds 2" ∷
    "request 4 inc \"x\" 9" ∷
    "split 1 3 5" ∷
    "request 1 ? get \"a\"" ∷
    "merge 1 3 5" ∷
    "show 2" ∷
    "gather" ∷
    "stop 2 0 ffffffffffffffffff" ∷
    "rounds 2" ∷
    "follower 2 4" ∷
    "stop 3 2 -" ∷
    "join 1 6*255" ∷
    "rounds 3" ∷
    "gather" ∷
    "recover 3" ∷
    "split 4" ∷
    "split 1 5" ∷
    "merge 1 3 4 5" ∷
    "rounds 3" ∷
    "request 1 put \"x\" 49" ∷
    "gather" ∷
    "deliver 5 1" ∷
    "split 1 3 4 5" ∷
    "merge 1 3 5" ∷
    "request 3 inc \"k1\" 7" ∷
    "feed 1 2 3" ∷
    "request 3 cas \"a\" 56 67" ∷
    "end" ∷
    [])
    ≡ written (
    "= 1" ∷
    "1 NonPrim - g0 w0 p0@0{1,2,3,4,5} a0 v- y- r[] o[] x{} b0" ∷
    "2 NonPrim - g0 w0 p0@0{1,2,3,4,5} a0 v- y- r[] o[] x{} b0" ∷
    "3 NonPrim - g0 w0 p0@0{1,2,3,4,5} a0 v- y- r[] o[] x{} b0" ∷
    "4 NonPrim - g0 w0 p0@0{1,2,3,4,5} a0 v- y- r[] o[] x{} b0" ∷
    "5 NonPrim - g0 w0 p0@0{1,2,3,4,5} a0 v- y- r[] o[] x{} b0" ∷
    "= 2" ∷
    "1 ExchangeStates c1 g0 w0 p0@0{1,2,3,4,5} a0 v- y- r[] o[] x{} b0" ∷
    "2 ExchangeStates c1 g0 w0 p0@0{1,2,3,4,5} a0 v- y- r[] o[] x{} b0" ∷
    "3 ExchangeStates c1 g0 w0 p0@0{1,2,3,4,5} a0 v- y- r[] o[] x{} b0" ∷
    "4 ExchangeStates c1 g0 w0 p0@0{1,2,3,4,5} a0 v- y- r[] o[] x{} b0" ∷
    "5 ExchangeStates c1 g0 w0 p0@0{1,2,3,4,5} a0 v- y- r[] o[] x{} b0" ∷
    "= 4" ∷
    "1 Construct c1 g0 w0 p0@0{1,2,3,4,5} a1 v1/0{1,2,3,4,5}{1} y- r[] o[] x{} b0" ∷
    "= 5" ∷
    "2 Construct c1 g0 w0 p0@0{1,2,3,4,5} a1 v1/0{1,2,3,4,5}{2} y- r[] o[] x{} b0" ∷
    "= 6" ∷
    "3 Construct c1 g0 w0 p0@0{1,2,3,4,5} a1 v1/0{1,2,3,4,5}{3} y- r[] o[] x{} b0" ∷
    "= 7" ∷
    "4 Construct c1 g0 w0 p0@0{1,2,3,4,5} a1 v1/0{1,2,3,4,5}{4} y- r[] o[] x{} b0" ∷
    "= 8" ∷
    "5 Construct c1 g0 w0 p0@0{1,2,3,4,5} a1 v1/0{1,2,3,4,5}{5} y- r[] o[] x{} b0" ∷
    "= 10" ∷
    "1 RegPrim c1 g0 w0 p1@1{1,2,3,4,5} a0 v1/0{1,2,3,4,5}{1} y- r[] o[] x{} b0" ∷
    "= 11" ∷
    "2 RegPrim c1 g0 w0 p1@1{1,2,3,4,5} a0 v1/0{1,2,3,4,5}{2} y- r[] o[] x{} b0" ∷
    "= 12" ∷
    "3 RegPrim c1 g0 w0 p1@1{1,2,3,4,5} a0 v1/0{1,2,3,4,5}{3} y- r[] o[] x{} b0" ∷
    "= 13" ∷
    "4 RegPrim c1 g0 w0 p1@1{1,2,3,4,5} a0 v1/0{1,2,3,4,5}{4} y- r[] o[] x{} b0" ∷
    "= 14" ∷
    "5 RegPrim c1 g0 w0 p1@1{1,2,3,4,5} a0 v1/0{1,2,3,4,5}{5} y- r[] o[] x{} b0" ∷
    "= 16" ∷
    "made 3:1 move \"z\" \"a\" 5" ∷
    "3 RegPrim c1 g0 w0 p1@1{1,2,3,4,5} a0 v1/0{1,2,3,4,5}{3} y- r[] o[3:1] x{} b0" ∷
    "= 18" ∷
    "order 1 3:1" ∷
    "1 RegPrim c1 g1 w0 p1@1{1,2,3,4,5} a0 v1/0{1,2,3,4,5}{1} y- r[] o[] x{} b0" ∷
    "= 19" ∷
    "2 RegPrim c1 g1 w0 p1@1{1,2,3,4,5} a0 v1/0{1,2,3,4,5}{2} y- r[] o[] x{} b0" ∷
    "= 20" ∷
    "3 RegPrim c1 g1 w0 p1@1{1,2,3,4,5} a0 v1/0{1,2,3,4,5}{3} y- r[] o[] x{} b0" ∷
    "reply 3:1 aborted 1" ∷
    "= 21" ∷
    "4 RegPrim c1 g1 w0 p1@1{1,2,3,4,5} a0 v1/0{1,2,3,4,5}{4} y- r[] o[] x{} b0" ∷
    "= 22" ∷
    "5 RegPrim c1 g1 w0 p1@1{1,2,3,4,5} a0 v1/0{1,2,3,4,5}{5} y- r[] o[] x{} b0" ∷
    "= 24" ∷
    "made 3:2 leave 4" ∷
    "3 RegPrim c1 g1 w0 p1@1{1,2,3,4,5} a0 v1/0{1,2,3,4,5}{3} y- r[] o[3:2] x{} b0" ∷
    "= 26" ∷
    "order 2 3:2" ∷
    "1 RegPrim c1 g2 w0 p1@1{1,2,3,4,5} a0 v1/0{1,2,3,4,5}{1} y- r[] o[] x{4} b0" ∷
    "= 27" ∷
    "2 RegPrim c1 g2 w0 p1@1{1,2,3,4,5} a0 v1/0{1,2,3,4,5}{2} y- r[] o[] x{4} b0" ∷
    "= 28" ∷
    "3 RegPrim c1 g2 w0 p1@1{1,2,3,4,5} a0 v1/0{1,2,3,4,5}{3} y- r[] o[] x{4} b0" ∷
    "reply 3:2 done" ∷
    "= 29" ∷
    "4 RegPrim c1 g2 w0 p1@1{1,2,3,4,5} a0 v1/0{1,2,3,4,5}{4} y- r[] o[] x{4} b0" ∷
    "= 30" ∷
    "5 RegPrim c1 g2 w0 p1@1{1,2,3,4,5} a0 v1/0{1,2,3,4,5}{5} y- r[] o[] x{4} b0" ∷
    "= 32" ∷
    "made 4:1 inc \"x\" 9" ∷
    "4 RegPrim c1 g2 w0 p1@1{1,2,3,4,5} a0 v1/0{1,2,3,4,5}{4} y- r[] o[4:1] x{4} b0" ∷
    "= 33" ∷
    "1 TransPrim t1 g2 w0 p1@1{1,2,3,4,5} a0 v1/0{1,2,3,4,5}{1} y- r[] o[] x{4} b0" ∷
    "3 TransPrim t1 g2 w0 p1@1{1,2,3,4,5} a0 v1/0{1,2,3,4,5}{3} y- r[] o[] x{4} b0" ∷
    "5 TransPrim t1 g2 w0 p1@1{1,2,3,4,5} a0 v1/0{1,2,3,4,5}{5} y- r[] o[] x{4} b0" ∷
    "= 34" ∷
    "1 TransPrim t1 g2 w0 p1@1{1,2,3,4,5} a0 v1/0{1,2,3,4,5}{1} y- r[] o[] x{4} b1" ∷
    "= 35" ∷
    "1 ExchangeStates c2 g2 w0 p1@1{1,2,3,4,5} a0 v- y![] r[] o[] x{4} b1" ∷
    "3 ExchangeStates c2 g2 w0 p1@1{1,2,3,4,5} a0 v- y![] r[] o[] x{4} b0" ∷
    "5 ExchangeStates c2 g2 w0 p1@1{1,2,3,4,5} a0 v- y![] r[] o[] x{4} b0" ∷
    "= 36" ∷
    "greens 2 [3:1,3:2]" ∷
    "db 2" ∷
    "= 38" ∷
    "2 Down" ∷
    "= 40" ∷
    "1 Construct c2 g2 w0 p1@1{1,2,3,4,5} a1 v2/1{1,3,5}{1} y![] r[] o[] x{4} b1" ∷
    "= 41" ∷
    "3 Construct c2 g2 w0 p1@1{1,2,3,4,5} a1 v2/1{1,3,5}{3} y![] r[] o[] x{4} b0" ∷
    "= 42" ∷
    "5 Construct c2 g2 w0 p1@1{1,2,3,4,5} a1 v2/1{1,3,5}{5} y![] r[] o[] x{4} b0" ∷
    "= 44" ∷
    "made 1:1 ? get \"a\"" ∷
    "1 RegPrim c2 g2 w0 p2@2{1,3,5} a0 v2/1{1,3,5}{1} y- r[] o[1:1] x{4} b0" ∷
    "= 45" ∷
    "3 RegPrim c2 g2 w0 p2@2{1,3,5} a0 v2/1{1,3,5}{3} y- r[] o[] x{4} b0" ∷
    "= 46" ∷
    "5 RegPrim c2 g2 w0 p2@2{1,3,5} a0 v2/1{1,3,5}{5} y- r[] o[] x{4} b0" ∷
    "= 47" ∷
    "follower 2 2" ∷
    "= 49" ∷
    "made 1:2 join 6*255" ∷
    "1 RegPrim c2 g2 w0 p2@2{1,3,5} a0 v2/1{1,3,5}{1} y- r[] o[1:1,1:2] x{4} b0" ∷
    "= 51" ∷
    "order 3 1:1" ∷
    "order 4 1:2" ∷
    "1 RegPrim c2 g4 w0 p2@2{1,3,5} a0 v2/1{1,3,5}{1} y- r[] o[] x{4} b0" ∷
    "reply 1:1 done ? absent" ∷
    "reply 1:2 done" ∷
    "= 52" ∷
    "3 Down" ∷
    "= 53" ∷
    "5 RegPrim c2 g4 w0 p2@2{1,3,5} a0 v2/1{1,3,5}{5} y- r[] o[] x{4} b0" ∷
    "= 57" ∷
    "3 NonPrim - g2 w0 p2@2{1,3,5} a0 v2/1{1,3,5}{3} y- r[] o[] x{4} b0" ∷
    "= 58" ∷
    "4 TransPrim t1 g2 w0 p1@1{1,2,3,4,5} a0 v1/0{1,2,3,4,5}{4} y?[4:1] r[] o[] x{4} b0" ∷
    "= 59" ∷
    "1 TransPrim t2 g4 w0 p2@2{1,3,5} a0 v2/1{1,3,5}{1} y- r[] o[] x{4} b0" ∷
    "5 TransPrim t2 g4 w0 p2@2{1,3,5} a0 v2/1{1,3,5}{5} y- r[] o[] x{4} b0" ∷
    "= 60" ∷
    "1 ExchangeStates c3 g4 w0 p2@2{1,3,5} a0 v- y![] r[] o[] x{4} b0" ∷
    "3 ExchangeStates c3 g2 w0 p2@2{1,3,5} a0 v2/1{1,3,5}{3} y- r[] o[] x{4} b0" ∷
    "4 ExchangeStates c3 g2 w0 p1@1{1,2,3,4,5} a0 v- y![4:1] r[] o[] x{4} b0" ∷
    "5 ExchangeStates c3 g4 w0 p2@2{1,3,5} a0 v- y![] r[] o[] x{4} b0" ∷
    "= 62" ∷
    "1 ExchangeActions c3 g4 w0 p2@2{1,3,5} a0 v- y![] r[] o[] x{4} b0" ∷
    "= 63" ∷
    "3 ExchangeActions c3 g2 w0 p2@2{1,3,5} a0 v2/1{1,3,5}{3} y- r[] o[] x{4} b0" ∷
    "= 64" ∷
    "4 ExchangeActions c3 g2 w0 p1@1{1,2,3,4,5} a0 v- y![4:1] r[] o[] x{4} b0" ∷
    "= 65" ∷
    "5 ExchangeActions c3 g4 w0 p2@2{1,3,5} a0 v- y![] r[] o[] x{4} b0" ∷
    "= 68" ∷
    "3 ExchangeActions c3 g4 w0 p2@2{1,3,5} a0 v2/1{1,3,5}{3} y- r[] o[] x{4} b0" ∷
    "= 72" ∷
    "1 Construct c3 g4 w0 p2@2{1,3,5} a1 v3/2{1,3,5}{1} y![] r[4:1] o[] x{4} b0" ∷
    "= 73" ∷
    "3 Construct c3 g4 w0 p2@2{1,3,5} a1 v3/2{1,3,5}{3} y![] r[4:1] o[] x{4} b0" ∷
    "= 74" ∷
    "4 Left c3 g2 w0 p1@1{1,2,3,4,5} a0 v- y![4:1] r[] o[] x{4} b0" ∷
    "= 75" ∷
    "5 Construct c3 g4 w0 p2@2{1,3,5} a1 v3/2{1,3,5}{5} y![] r[4:1] o[] x{4} b0" ∷
    "= 76" ∷
    "1 Construct c3 g4 w0 p2@2{1,3,5} a1 v3/2{1,3,5}{1} y![] r[4:1] o[] x{4} b1" ∷
    "= 79" ∷
    "1 Un t3 g4 w0 p2@2{1,3,5} a1 v3/2{1,3,5}{1} y![] r[4:1] o[] x{4} b1" ∷
    "3 Un t3 g4 w0 p2@2{1,3,5} a1 v3/2{1,3,5}{3} y![] r[4:1] o[] x{4} b0" ∷
    "4 Left t3 g2 w0 p1@1{1,2,3,4,5} a0 v- y![4:1] r[] o[] x{4} b0" ∷
    "5 Un t3 g4 w0 p2@2{1,3,5} a1 v3/2{1,3,5}{5} y![] r[4:1] o[] x{4} b0" ∷
    "= 80" ∷
    "1 ExchangeStates c4 g4 w0 p2@2{1,3,5} a1 v3/2{1,3,5}{1} y![] r[4:1] o[] x{4} b1" ∷
    "3 ExchangeStates c4 g4 w0 p2@2{1,3,5} a1 v3/2{1,3,5}{3} y![] r[4:1] o[] x{4} b0" ∷
    "5 ExchangeStates c4 g4 w0 p2@2{1,3,5} a1 v3/2{1,3,5}{5} y![] r[4:1] o[] x{4} b0" ∷
    "= 81" ∷
    "3 ExchangeStates c4 g4 w0 p2@2{1,3,5} a1 v3/2{1,3,5}{3} y![] r[4:1] o[] x{4} b1" ∷
    "= 82" ∷
    "follower 2 4" ∷
    "= 83" ∷
    "3 ExchangeStates c4 g4 w0 p2@2{1,3,5} a1 v3/2{1,3,5}{3} y![] r[4:1] o[] x{4} b2" ∷
    "end 83" ∷
    [])
unfolding cases_compute
generated_follow_red_a = refl

-- Follow: a follower is struck in a feed.
generated_follow_struck_feed_a :
    put_by "follow" (
    "start 1" ∷
    "merge 1" ∷
    "rounds 1" ∷
    "dirty 1 count" ∷
    "gather" ∷
    "split 1" ∷
    "merge 1" ∷
    "order 1" ∷
    "split 1" ∷
    "merge 1" ∷
    "rounds 2" ∷
    "follower 3 1" ∷
    "request 1 move \"y\" \"y\" 3; put \"y\" -9223372036854775807; put \"x\" \"yes \\\"no\\\"\"; move \"x\" \"a\" 7; inc \"abc\" 9223372036854775807; inc \"a\" 4; inc \"abc\" -3; put \"y\" 18; put \"b\" 13; put \"z\" 94; inc \"b\" 10; need \"k1\" absent; cas \"y\" absent 5; need \"ab\" 43; put \"y\" 72; put \"a\" 37" ∷
    "feed 1 3 1" ∷
    "gather" ∷
    "split 1" ∷
    "merge 1" ∷
    "split 1" ∷
    "merge 1" ∷
    "follower 1 1" ∷
    "split 1" ∷
    "merge 1" ∷
    "show 1" ∷
    "split 1" ∷
    "merge 1" ∷
    "request 1 inc \"a\" -2 ? get \"z\"" ∷
    "fstop 1 2 01" ∷
    "split 1" ∷
    "merge 1" ∷
    "split 1" ∷
    "merge 1" ∷
    "split 1" ∷
    "merge 1" ∷
    "fstop 3 0 ffffffffffffffffff" ∷
    "request 1 inc \"ab\" 3 ? count" ∷
    "follower 4 1" ∷
    "gather" ∷
    "deliver 1 1" ∷
    "order 1" ∷
    "end" ∷
    [])
    ≡ written (
    "= 1" ∷
    "1 NonPrim - g0 w0 p0@0{1} a0 v- y- r[] o[] x{} b0" ∷
    "= 2" ∷
    "1 ExchangeStates c1 g0 w0 p0@0{1} a0 v- y- r[] o[] x{} b0" ∷
    "= 4" ∷
    "1 Construct c1 g0 w0 p0@0{1} a1 v1/0{1}{1} y- r[] o[] x{} b0" ∷
    "= 5" ∷
    "dirty 1 count 0" ∷
    "= 7" ∷
    "1 Un t1 g0 w0 p0@0{1} a1 v1/0{1}{1} y- r[] o[] x{} b0" ∷
    "= 8" ∷
    "1 ExchangeStates c2 g0 w0 p0@0{1} a1 v1/0{1}{1} y- r[] o[] x{} b0" ∷
    "= 10" ∷
    "1 NonPrim t2 g0 w0 p0@0{1} a1 v1/0{1}{1} y- r[] o[] x{} b0" ∷
    "= 11" ∷
    "1 ExchangeStates c3 g0 w0 p0@0{1} a1 v1/0{1}{1} y- r[] o[] x{} b0" ∷
    "= 13" ∷
    "1 Construct c3 g0 w0 p0@0{1} a2 v3/0{1}{1} y- r[] o[] x{} b0" ∷
    "= 15" ∷
    "1 RegPrim c3 g0 w0 p1@3{1} a0 v3/0{1}{1} y- r[] o[] x{} b0" ∷
    "= 16" ∷
    "follower 3 0" ∷
    "= 17" ∷
    "made 1:1 move \"y\" \"y\" 3; put \"y\" -9223372036854775807; put \"x\" \"yes \\\"no\\\"\"; move \"x\" \"a\" 7; inc \"abc\" 9223372036854775807; inc \"a\" 4; inc \"abc\" -3; put \"y\" 18; put \"b\" 13; put \"z\" 94; inc \"b\" 10; need \"k1\" absent; cas \"y\" absent 5; need \"ab\" 43; put \"y\" 72; put \"a\" 37" ∷
    "1 RegPrim c3 g0 w0 p1@3{1} a0 v3/0{1}{1} y- r[] o[1:1] x{} b0" ∷
    "= 20" ∷
    "1 TransPrim t3 g0 w0 p1@3{1} a0 v3/0{1}{1} y?[1:1] r[] o[] x{} b0" ∷
    "= 21" ∷
    "1 ExchangeStates c4 g0 w0 p1@3{1} a0 v- y![1:1] r[] o[] x{} b0" ∷
    "= 22" ∷
    "1 NonPrim t4 g0 w0 p1@3{1} a0 v- y![1:1] r[] o[] x{} b0" ∷
    "= 23" ∷
    "1 ExchangeStates c5 g0 w0 p1@3{1} a0 v- y![1:1] r[] o[] x{} b0" ∷
    "= 24" ∷
    "follower 1 0" ∷
    "= 25" ∷
    "1 NonPrim t5 g0 w0 p1@3{1} a0 v- y![1:1] r[] o[] x{} b0" ∷
    "= 26" ∷
    "1 ExchangeStates c6 g0 w0 p1@3{1} a0 v- y![1:1] r[] o[] x{} b0" ∷
    "= 27" ∷
    "greens 1 []" ∷
    "db 1" ∷
    "= 28" ∷
    "1 NonPrim t6 g0 w0 p1@3{1} a0 v- y![1:1] r[] o[] x{} b0" ∷
    "= 29" ∷
    "1 ExchangeStates c7 g0 w0 p1@3{1} a0 v- y![1:1] r[] o[] x{} b0" ∷
    "= 30" ∷
    "1 ExchangeStates c7 g0 w0 p1@3{1} a0 v- y![1:1] r[] o[] x{} b1" ∷
    "= 32" ∷
    "1 NonPrim t7 g0 w0 p1@3{1} a0 v- y![1:1] r[] o[] x{} b1" ∷
    "= 33" ∷
    "1 ExchangeStates c8 g0 w0 p1@3{1} a0 v- y![1:1] r[] o[] x{} b1" ∷
    "= 34" ∷
    "1 NonPrim t8 g0 w0 p1@3{1} a0 v- y![1:1] r[] o[] x{} b1" ∷
    "= 35" ∷
    "1 ExchangeStates c9 g0 w0 p1@3{1} a0 v- y![1:1] r[] o[] x{} b1" ∷
    "= 36" ∷
    "1 NonPrim t9 g0 w0 p1@3{1} a0 v- y![1:1] r[] o[] x{} b1" ∷
    "= 37" ∷
    "1 ExchangeStates c10 g0 w0 p1@3{1} a0 v- y![1:1] r[] o[] x{} b1" ∷
    "= 38" ∷
    "follower 3 down" ∷
    "= 39" ∷
    "1 ExchangeStates c10 g0 w0 p1@3{1} a0 v- y![1:1] r[] o[] x{} b2" ∷
    "= 40" ∷
    "follower 4 0" ∷
    "= 42" ∷
    "1 Construct c10 g0 w0 p1@3{1} a1 v10/1{1}{1} y![1:1] r[] o[] x{} b2" ∷
    "end 43" ∷
    [])
unfolding cases_compute
generated_follow_struck_feed_a = refl
