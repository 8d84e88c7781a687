-- Cases of cases/ with their whole reports, which `.ci/theorems` writes down here.
use Rattle.std.specs.Prelude.{◌≡◌, [], ◌∷◌}
use mathlib.Core.Path.{refl}
use Rattle.cg_run_cases.specs.Replaying.{put_by, written}
use Rattle.cg_run_cases.specs.Computing.{cases_compute}

-- Followers beside disks of the older format and recoveries that are stopped.
follow_beside_old_disks_a :
    put_by "follow" (
    "start 1 2" ∷
    "merge 1 2" ∷
    "rounds 2" ∷
    "stop 2 3 -" ∷
    "split 1" ∷
    "follower 3 1" ∷
    "rounds 1" ∷
    "feed 2 3 5" ∷
    "request 2 put \"x\" 8" ∷
    "fstop 3 3 00" ∷
    "fstop 3 0 01" ∷
    "downgrade 2" ∷
    "downgrade 2" ∷
    "recover 2 13 01" ∷
    "frecover 3" ∷
    "follower 3 1" ∷
    "rounds 1" ∷
    "follower 7 1" ∷
    "recover 2" ∷
    "merge 1 2" ∷
    "follower 7 1" ∷
    "end" ∷
    [])
    ≡ written (
    "= 1" ∷
    "1 NonPrim - g0 w0 p0@0{1,2} a0 v- y- r[] o[] x{} b0" ∷
    "2 NonPrim - g0 w0 p0@0{1,2} a0 v- y- r[] o[] x{} b0" ∷
    "= 2" ∷
    "1 ExchangeStates c1 g0 w0 p0@0{1,2} a0 v- y- r[] o[] x{} b0" ∷
    "2 ExchangeStates c1 g0 w0 p0@0{1,2} a0 v- y- r[] o[] x{} b0" ∷
    "= 4" ∷
    "1 Construct c1 g0 w0 p0@0{1,2} a1 v1/0{1,2}{1} y- r[] o[] x{} b0" ∷
    "= 5" ∷
    "2 Construct c1 g0 w0 p0@0{1,2} a1 v1/0{1,2}{2} y- r[] o[] x{} b0" ∷
    "= 7" ∷
    "1 RegPrim c1 g0 w0 p1@1{1,2} a0 v1/0{1,2}{1} y- r[] o[] x{} b0" ∷
    "= 8" ∷
    "2 RegPrim c1 g0 w0 p1@1{1,2} a0 v1/0{1,2}{2} y- r[] o[] x{} b0" ∷
    "= 10" ∷
    "1 TransPrim t1 g0 w0 p1@1{1,2} a0 v1/0{1,2}{1} y- r[] o[] x{} b0" ∷
    "= 11" ∷
    "follower 3 0" ∷
    "= 14" ∷
    "2 Down" ∷
    "= 16" ∷
    "follower 3 down" ∷
    "= 20" ∷
    "follower 3 0" ∷
    "= 23" ∷
    "follower 7 0" ∷
    "= 24" ∷
    "2 NonPrim - g0 w0 p1@1{1,2} a0 v1/0{1,2}{2} y- r[] o[] x{} b0" ∷
    "= 25" ∷
    "1 ExchangeStates c2 g0 w0 p1@1{1,2} a0 v- y![] r[] o[] x{} b0" ∷
    "2 ExchangeStates c2 g0 w0 p1@1{1,2} a0 v1/0{1,2}{2} y- r[] o[] x{} b0" ∷
    "end 26" ∷
    [])
unfolding cases_compute
follow_beside_old_disks_a = refl

-- Followers beside disks of the older format and recoveries that are stopped.
follow_beside_old_disks_b :
    put_by "follow" (
    "start 1 2 3" ∷
    "merge 1 2 3" ∷
    "rounds 2" ∷
    "stop 3 3 01" ∷
    "split 1" ∷
    "rounds 1" ∷
    "follower 3 1" ∷
    "request 3 put \"x\" 9" ∷
    "downgrade 3" ∷
    "follower 3 2" ∷
    "downgrade 3" ∷
    "fstop 3 0 01" ∷
    "recover 3 12 01" ∷
    "follower 7 1" ∷
    "stop 2 0 -" ∷
    "frecover 3" ∷
    "stop 1 0 01" ∷
    "recover 2" ∷
    "merge 2" ∷
    "recover 3 17 01" ∷
    "fweak 3 get \"x\"" ∷
    "recover 1 17 ff" ∷
    "fweak 3 get \"x\"" ∷
    "end" ∷
    [])
    ≡ written (
    "= 1" ∷
    "1 NonPrim - g0 w0 p0@0{1,2,3} a0 v- y- r[] o[] x{} b0" ∷
    "2 NonPrim - g0 w0 p0@0{1,2,3} a0 v- y- r[] o[] x{} b0" ∷
    "3 NonPrim - g0 w0 p0@0{1,2,3} a0 v- y- r[] o[] x{} b0" ∷
    "= 2" ∷
    "1 ExchangeStates c1 g0 w0 p0@0{1,2,3} a0 v- y- r[] o[] x{} b0" ∷
    "2 ExchangeStates c1 g0 w0 p0@0{1,2,3} a0 v- y- r[] o[] x{} b0" ∷
    "3 ExchangeStates c1 g0 w0 p0@0{1,2,3} a0 v- y- r[] o[] x{} b0" ∷
    "= 4" ∷
    "1 Construct c1 g0 w0 p0@0{1,2,3} a1 v1/0{1,2,3}{1} y- r[] o[] x{} b0" ∷
    "= 5" ∷
    "2 Construct c1 g0 w0 p0@0{1,2,3} a1 v1/0{1,2,3}{2} y- r[] o[] x{} b0" ∷
    "= 6" ∷
    "3 Construct c1 g0 w0 p0@0{1,2,3} a1 v1/0{1,2,3}{3} y- r[] o[] x{} b0" ∷
    "= 8" ∷
    "1 RegPrim c1 g0 w0 p1@1{1,2,3} a0 v1/0{1,2,3}{1} y- r[] o[] x{} b0" ∷
    "= 9" ∷
    "2 RegPrim c1 g0 w0 p1@1{1,2,3} a0 v1/0{1,2,3}{2} y- r[] o[] x{} b0" ∷
    "= 10" ∷
    "3 RegPrim c1 g0 w0 p1@1{1,2,3} a0 v1/0{1,2,3}{3} y- r[] o[] x{} b0" ∷
    "= 12" ∷
    "1 TransPrim t1 g0 w0 p1@1{1,2,3} a0 v1/0{1,2,3}{1} y- r[] o[] x{} b0" ∷
    "= 14" ∷
    "follower 3 0" ∷
    "= 15" ∷
    "3 Down" ∷
    "= 19" ∷
    "follower 3 down" ∷
    "= 21" ∷
    "follower 7 0" ∷
    "= 22" ∷
    "2 Down" ∷
    "= 23" ∷
    "follower 3 0" ∷
    "= 24" ∷
    "1 Down" ∷
    "= 25" ∷
    "2 NonPrim - g0 w0 p1@1{1,2,3} a0 v1/0{1,2,3}{2} y- r[] o[] x{} b0" ∷
    "= 26" ∷
    "2 ExchangeStates c2 g0 w0 p1@1{1,2,3} a0 v1/0{1,2,3}{2} y- r[] o[] x{} b0" ∷
    "= 27" ∷
    "made 3:1 put \"x\" 9" ∷
    "3 NonPrim - g0 w0 p1@1{1,2,3} a0 v1/0{1,2,3}{3} y- r[3:1] o[] x{} b0" ∷
    "= 28" ∷
    "fweak 3 absent" ∷
    "= 29" ∷
    "1 NonPrim - g0 w0 p1@1{1,2,3} a0 v1/0{1,2,3}{1} y- r[] o[] x{} b0" ∷
    "= 30" ∷
    "fweak 3 absent" ∷
    "end 30" ∷
    [])
unfolding cases_compute
follow_beside_old_disks_b = refl

-- Followers beside disks of the older format and recoveries that are stopped.
follow_beside_old_disks_c :
    put_by "follow" (
    "start 1 2" ∷
    "merge 1 2" ∷
    "rounds 2" ∷
    "request 1 put \"x\" 2" ∷
    "follower 7 2" ∷
    "request 1 put \"x\" 2" ∷
    "fstop 7 0 -" ∷
    "split 1" ∷
    "request 1 put \"x\" 8" ∷
    "rounds 1" ∷
    "follower 7 2" ∷
    "stop 1 3 -" ∷
    "feed 1 7 2" ∷
    "stop 1 0 -" ∷
    "follower 3 2" ∷
    "fstop 3 5 01" ∷
    "downgrade 1" ∷
    "fstop 3 3 00" ∷
    "recover 1 9 -" ∷
    "fweak 7 get \"x\"" ∷
    "recover 1 12 01" ∷
    "follower 7 2" ∷
    "downgrade 1" ∷
    "stop 2 0 -" ∷
    "fstop 3 0 00" ∷
    "end" ∷
    [])
    ≡ written (
    "= 1" ∷
    "1 NonPrim - g0 w0 p0@0{1,2} a0 v- y- r[] o[] x{} b0" ∷
    "2 NonPrim - g0 w0 p0@0{1,2} a0 v- y- r[] o[] x{} b0" ∷
    "= 2" ∷
    "1 ExchangeStates c1 g0 w0 p0@0{1,2} a0 v- y- r[] o[] x{} b0" ∷
    "2 ExchangeStates c1 g0 w0 p0@0{1,2} a0 v- y- r[] o[] x{} b0" ∷
    "= 4" ∷
    "1 Construct c1 g0 w0 p0@0{1,2} a1 v1/0{1,2}{1} y- r[] o[] x{} b0" ∷
    "= 5" ∷
    "2 Construct c1 g0 w0 p0@0{1,2} a1 v1/0{1,2}{2} y- r[] o[] x{} b0" ∷
    "= 7" ∷
    "1 RegPrim c1 g0 w0 p1@1{1,2} a0 v1/0{1,2}{1} y- r[] o[] x{} b0" ∷
    "= 8" ∷
    "2 RegPrim c1 g0 w0 p1@1{1,2} a0 v1/0{1,2}{2} y- r[] o[] x{} b0" ∷
    "= 9" ∷
    "made 1:1 put \"x\" 2" ∷
    "1 RegPrim c1 g0 w0 p1@1{1,2} a0 v1/0{1,2}{1} y- r[] o[1:1] x{} b0" ∷
    "= 10" ∷
    "follower 7 0" ∷
    "= 11" ∷
    "made 1:2 put \"x\" 2" ∷
    "1 RegPrim c1 g0 w0 p1@1{1,2} a0 v1/0{1,2}{1} y- r[] o[1:1,1:2] x{} b0" ∷
    "= 12" ∷
    "follower 7 down" ∷
    "= 13" ∷
    "1 TransPrim t1 g0 w0 p1@1{1,2} a0 v1/0{1,2}{1} y- r[] o[1:1,1:2] x{} b0" ∷
    "= 14" ∷
    "1 TransPrim t1 g0 w0 p1@1{1,2} a0 v1/0{1,2}{1} y- r[] o[1:1,1:2] x{} b1" ∷
    "= 16" ∷
    "follower 7 0" ∷
    "= 19" ∷
    "1 Down" ∷
    "= 20" ∷
    "follower 3 0" ∷
    "= 25" ∷
    "fweak 7 absent" ∷
    "= 29" ∷
    "2 Down" ∷
    "= 30" ∷
    "follower 3 down" ∷
    "end 30" ∷
    [])
unfolding cases_compute
follow_beside_old_disks_c = refl

-- A follower is made, fed, asked, stopped and recovered; where nothing changes nothing is printed.
follow_each_word :
    put_by "follow" (
    "start 1 2 3" ∷
    "merge 1 2 3" ∷
    "rounds 2" ∷
    "follower 7 2" ∷
    "fweak 7 count" ∷
    "feed 2 7 5" ∷
    "request 1 put \"x\" 1" ∷
    "request 2 put \"xy\" \"t\"" ∷
    "request 3 inc \"z\" 4" ∷
    "rounds 1" ∷
    "feed 2 7 1" ∷
    "fweak 7 get \"x\"" ∷
    "fweak 7 get \"xy\"" ∷
    "feed 1 7 1" ∷
    "fweak 7 keys \"x\"" ∷
    "feed 3 7 1000000" ∷
    "fweak 7 count" ∷
    "fweak 7 keys \"\"" ∷
    "feed 3 7 1" ∷
    "fstop 7 0 -" ∷
    "frecover 7" ∷
    "fweak 7 get \"z\"" ∷
    "fweak 7 keys \"q\"" ∷
    "end" ∷
    [])
    ≡ written (
    "= 1" ∷
    "1 NonPrim - g0 w0 p0@0{1,2,3} a0 v- y- r[] o[] x{} b0" ∷
    "2 NonPrim - g0 w0 p0@0{1,2,3} a0 v- y- r[] o[] x{} b0" ∷
    "3 NonPrim - g0 w0 p0@0{1,2,3} a0 v- y- r[] o[] x{} b0" ∷
    "= 2" ∷
    "1 ExchangeStates c1 g0 w0 p0@0{1,2,3} a0 v- y- r[] o[] x{} b0" ∷
    "2 ExchangeStates c1 g0 w0 p0@0{1,2,3} a0 v- y- r[] o[] x{} b0" ∷
    "3 ExchangeStates c1 g0 w0 p0@0{1,2,3} a0 v- y- r[] o[] x{} b0" ∷
    "= 4" ∷
    "1 Construct c1 g0 w0 p0@0{1,2,3} a1 v1/0{1,2,3}{1} y- r[] o[] x{} b0" ∷
    "= 5" ∷
    "2 Construct c1 g0 w0 p0@0{1,2,3} a1 v1/0{1,2,3}{2} y- r[] o[] x{} b0" ∷
    "= 6" ∷
    "3 Construct c1 g0 w0 p0@0{1,2,3} a1 v1/0{1,2,3}{3} y- r[] o[] x{} b0" ∷
    "= 8" ∷
    "1 RegPrim c1 g0 w0 p1@1{1,2,3} a0 v1/0{1,2,3}{1} y- r[] o[] x{} b0" ∷
    "= 9" ∷
    "2 RegPrim c1 g0 w0 p1@1{1,2,3} a0 v1/0{1,2,3}{2} y- r[] o[] x{} b0" ∷
    "= 10" ∷
    "3 RegPrim c1 g0 w0 p1@1{1,2,3} a0 v1/0{1,2,3}{3} y- r[] o[] x{} b0" ∷
    "= 11" ∷
    "follower 7 0" ∷
    "= 12" ∷
    "fweak 7 count 0" ∷
    "= 14" ∷
    "made 1:1 put \"x\" 1" ∷
    "1 RegPrim c1 g0 w0 p1@1{1,2,3} a0 v1/0{1,2,3}{1} y- r[] o[1:1] x{} b0" ∷
    "= 15" ∷
    "made 2:1 put \"xy\" \"t\"" ∷
    "2 RegPrim c1 g0 w0 p1@1{1,2,3} a0 v1/0{1,2,3}{2} y- r[] o[2:1] x{} b0" ∷
    "= 16" ∷
    "made 3:1 inc \"z\" 4" ∷
    "3 RegPrim c1 g0 w0 p1@1{1,2,3} a0 v1/0{1,2,3}{3} y- r[] o[3:1] x{} b0" ∷
    "= 18" ∷
    "order 1 1:1" ∷
    "order 2 2:1" ∷
    "order 3 3:1" ∷
    "1 RegPrim c1 g3 w0 p1@1{1,2,3} a0 v1/0{1,2,3}{1} y- r[] o[] x{} b0" ∷
    "reply 1:1 done" ∷
    "= 19" ∷
    "2 RegPrim c1 g3 w0 p1@1{1,2,3} a0 v1/0{1,2,3}{2} y- r[] o[] x{} b0" ∷
    "reply 2:1 done" ∷
    "= 20" ∷
    "3 RegPrim c1 g3 w0 p1@1{1,2,3} a0 v1/0{1,2,3}{3} y- r[] o[] x{} b0" ∷
    "reply 3:1 done" ∷
    "= 21" ∷
    "follower 7 1" ∷
    "= 22" ∷
    "fweak 7 1" ∷
    "= 23" ∷
    "fweak 7 absent" ∷
    "= 24" ∷
    "follower 7 2" ∷
    "= 25" ∷
    "fweak 7 keys \"x\" \"xy\"" ∷
    "= 26" ∷
    "follower 7 3" ∷
    "= 27" ∷
    "fweak 7 count 3" ∷
    "= 28" ∷
    "fweak 7 keys \"x\" \"xy\" \"z\"" ∷
    "= 30" ∷
    "follower 7 down" ∷
    "= 31" ∷
    "follower 7 3" ∷
    "= 32" ∷
    "fweak 7 4" ∷
    "= 33" ∷
    "fweak 7 keys" ∷
    "end 33" ∷
    [])
unfolding cases_compute
follow_each_word = refl

-- A follower whose cursor is the white count is fed; one made anew from a replica that discarded is fed too.
follow_fed_at_the_last_discarded_place :
    put_by "follow" (
    "start 1 2 3" ∷
    "merge 1 2 3" ∷
    "rounds 2" ∷
    "request 1 put \"a\" 1" ∷
    "rounds 1" ∷
    "follower 5 1" ∷
    "request 1 put \"b\" 2" ∷
    "request 2 put \"c\" 3" ∷
    "request 3 put \"d\" 4" ∷
    "rounds 1" ∷
    "follower 6 2" ∷
    "feed 3 5 3" ∷
    "request 1 inc \"a\" 1" ∷
    "request 2 inc \"b\" 1" ∷
    "request 3 inc \"c\" 1" ∷
    "rounds 1" ∷
    "feed 1 5 2" ∷
    "feed 2 5 2" ∷
    "feed 3 6 3" ∷
    "fweak 5 keys \"\"" ∷
    "fweak 6 get \"c\"" ∷
    "follower 4 3" ∷
    "fweak 4 get \"b\"" ∷
    "end" ∷
    [])
    ≡ written (
    "= 1" ∷
    "1 NonPrim - g0 w0 p0@0{1,2,3} a0 v- y- r[] o[] x{} b0" ∷
    "2 NonPrim - g0 w0 p0@0{1,2,3} a0 v- y- r[] o[] x{} b0" ∷
    "3 NonPrim - g0 w0 p0@0{1,2,3} a0 v- y- r[] o[] x{} b0" ∷
    "= 2" ∷
    "1 ExchangeStates c1 g0 w0 p0@0{1,2,3} a0 v- y- r[] o[] x{} b0" ∷
    "2 ExchangeStates c1 g0 w0 p0@0{1,2,3} a0 v- y- r[] o[] x{} b0" ∷
    "3 ExchangeStates c1 g0 w0 p0@0{1,2,3} a0 v- y- r[] o[] x{} b0" ∷
    "= 4" ∷
    "1 Construct c1 g0 w0 p0@0{1,2,3} a1 v1/0{1,2,3}{1} y- r[] o[] x{} b0" ∷
    "= 5" ∷
    "2 Construct c1 g0 w0 p0@0{1,2,3} a1 v1/0{1,2,3}{2} y- r[] o[] x{} b0" ∷
    "= 6" ∷
    "3 Construct c1 g0 w0 p0@0{1,2,3} a1 v1/0{1,2,3}{3} y- r[] o[] x{} b0" ∷
    "= 8" ∷
    "1 RegPrim c1 g0 w0 p1@1{1,2,3} a0 v1/0{1,2,3}{1} y- r[] o[] x{} b0" ∷
    "= 9" ∷
    "2 RegPrim c1 g0 w0 p1@1{1,2,3} a0 v1/0{1,2,3}{2} y- r[] o[] x{} b0" ∷
    "= 10" ∷
    "3 RegPrim c1 g0 w0 p1@1{1,2,3} a0 v1/0{1,2,3}{3} y- r[] o[] x{} b0" ∷
    "= 11" ∷
    "made 1:1 put \"a\" 1" ∷
    "1 RegPrim c1 g0 w0 p1@1{1,2,3} a0 v1/0{1,2,3}{1} y- r[] o[1:1] x{} b0" ∷
    "= 13" ∷
    "order 1 1:1" ∷
    "1 RegPrim c1 g1 w0 p1@1{1,2,3} a0 v1/0{1,2,3}{1} y- r[] o[] x{} b0" ∷
    "reply 1:1 done" ∷
    "= 14" ∷
    "2 RegPrim c1 g1 w0 p1@1{1,2,3} a0 v1/0{1,2,3}{2} y- r[] o[] x{} b0" ∷
    "= 15" ∷
    "3 RegPrim c1 g1 w0 p1@1{1,2,3} a0 v1/0{1,2,3}{3} y- r[] o[] x{} b0" ∷
    "= 16" ∷
    "follower 5 1" ∷
    "= 17" ∷
    "made 1:2 put \"b\" 2" ∷
    "1 RegPrim c1 g1 w0 p1@1{1,2,3} a0 v1/0{1,2,3}{1} y- r[] o[1:2] x{} b0" ∷
    "= 18" ∷
    "made 2:1 put \"c\" 3" ∷
    "2 RegPrim c1 g1 w0 p1@1{1,2,3} a0 v1/0{1,2,3}{2} y- r[] o[2:1] x{} b0" ∷
    "= 19" ∷
    "made 3:1 put \"d\" 4" ∷
    "3 RegPrim c1 g1 w0 p1@1{1,2,3} a0 v1/0{1,2,3}{3} y- r[] o[3:1] x{} b0" ∷
    "= 21" ∷
    "order 2 1:2" ∷
    "order 3 2:1" ∷
    "order 4 3:1" ∷
    "1 RegPrim c1 g4 w1 p1@1{1,2,3} a0 v1/0{1,2,3}{1} y- r[] o[] x{} b0" ∷
    "reply 1:2 done" ∷
    "= 22" ∷
    "2 RegPrim c1 g4 w1 p1@1{1,2,3} a0 v1/0{1,2,3}{2} y- r[] o[] x{} b0" ∷
    "reply 2:1 done" ∷
    "= 23" ∷
    "3 RegPrim c1 g4 w1 p1@1{1,2,3} a0 v1/0{1,2,3}{3} y- r[] o[] x{} b0" ∷
    "reply 3:1 done" ∷
    "= 24" ∷
    "follower 6 4" ∷
    "= 25" ∷
    "follower 5 4" ∷
    "= 26" ∷
    "made 1:3 inc \"a\" 1" ∷
    "1 RegPrim c1 g4 w1 p1@1{1,2,3} a0 v1/0{1,2,3}{1} y- r[] o[1:3] x{} b0" ∷
    "= 27" ∷
    "made 2:2 inc \"b\" 1" ∷
    "2 RegPrim c1 g4 w1 p1@1{1,2,3} a0 v1/0{1,2,3}{2} y- r[] o[2:2] x{} b0" ∷
    "= 28" ∷
    "made 3:2 inc \"c\" 1" ∷
    "3 RegPrim c1 g4 w1 p1@1{1,2,3} a0 v1/0{1,2,3}{3} y- r[] o[3:2] x{} b0" ∷
    "= 30" ∷
    "order 5 1:3" ∷
    "order 6 2:2" ∷
    "order 7 3:2" ∷
    "1 RegPrim c1 g7 w4 p1@1{1,2,3} a0 v1/0{1,2,3}{1} y- r[] o[] x{} b0" ∷
    "reply 1:3 done" ∷
    "= 31" ∷
    "2 RegPrim c1 g7 w4 p1@1{1,2,3} a0 v1/0{1,2,3}{2} y- r[] o[] x{} b0" ∷
    "reply 2:2 done" ∷
    "= 32" ∷
    "3 RegPrim c1 g7 w4 p1@1{1,2,3} a0 v1/0{1,2,3}{3} y- r[] o[] x{} b0" ∷
    "reply 3:2 done" ∷
    "= 33" ∷
    "follower 5 6" ∷
    "= 34" ∷
    "follower 5 7" ∷
    "= 35" ∷
    "follower 6 7" ∷
    "= 36" ∷
    "fweak 5 keys \"a\" \"b\" \"c\" \"d\"" ∷
    "= 37" ∷
    "fweak 6 4" ∷
    "= 38" ∷
    "follower 4 7" ∷
    "= 39" ∷
    "fweak 4 3" ∷
    "end 39" ∷
    [])
unfolding cases_compute
follow_fed_at_the_last_discarded_place = refl

-- A replica at or behind the follower feeds nothing; after the merge it goes on.
follow_fed_by_one_behind :
    put_by "follow" (
    "start 1 2 3" ∷
    "merge 1 2 3" ∷
    "rounds 2" ∷
    "split 1 2" ∷
    "split 3" ∷
    "merge 1 2" ∷
    "merge 3" ∷
    "rounds 2" ∷
    "request 1 put \"x\" 5" ∷
    "request 3 put \"x\" 6" ∷
    "rounds 1" ∷
    "follower 2 1" ∷
    "feed 3 2 4" ∷
    "feed 1 2 4" ∷
    "split 1 2" ∷
    "split 3" ∷
    "merge 1 2 3" ∷
    "rounds 4" ∷
    "feed 3 2 4" ∷
    "fweak 2 get \"x\"" ∷
    "end" ∷
    [])
    ≡ written (
    "= 1" ∷
    "1 NonPrim - g0 w0 p0@0{1,2,3} a0 v- y- r[] o[] x{} b0" ∷
    "2 NonPrim - g0 w0 p0@0{1,2,3} a0 v- y- r[] o[] x{} b0" ∷
    "3 NonPrim - g0 w0 p0@0{1,2,3} a0 v- y- r[] o[] x{} b0" ∷
    "= 2" ∷
    "1 ExchangeStates c1 g0 w0 p0@0{1,2,3} a0 v- y- r[] o[] x{} b0" ∷
    "2 ExchangeStates c1 g0 w0 p0@0{1,2,3} a0 v- y- r[] o[] x{} b0" ∷
    "3 ExchangeStates c1 g0 w0 p0@0{1,2,3} a0 v- y- r[] o[] x{} b0" ∷
    "= 4" ∷
    "1 Construct c1 g0 w0 p0@0{1,2,3} a1 v1/0{1,2,3}{1} y- r[] o[] x{} b0" ∷
    "= 5" ∷
    "2 Construct c1 g0 w0 p0@0{1,2,3} a1 v1/0{1,2,3}{2} y- r[] o[] x{} b0" ∷
    "= 6" ∷
    "3 Construct c1 g0 w0 p0@0{1,2,3} a1 v1/0{1,2,3}{3} y- r[] o[] x{} b0" ∷
    "= 8" ∷
    "1 RegPrim c1 g0 w0 p1@1{1,2,3} a0 v1/0{1,2,3}{1} y- r[] o[] x{} b0" ∷
    "= 9" ∷
    "2 RegPrim c1 g0 w0 p1@1{1,2,3} a0 v1/0{1,2,3}{2} y- r[] o[] x{} b0" ∷
    "= 10" ∷
    "3 RegPrim c1 g0 w0 p1@1{1,2,3} a0 v1/0{1,2,3}{3} y- r[] o[] x{} b0" ∷
    "= 11" ∷
    "1 TransPrim t1 g0 w0 p1@1{1,2,3} a0 v1/0{1,2,3}{1} y- r[] o[] x{} b0" ∷
    "2 TransPrim t1 g0 w0 p1@1{1,2,3} a0 v1/0{1,2,3}{2} y- r[] o[] x{} b0" ∷
    "= 12" ∷
    "3 TransPrim t1 g0 w0 p1@1{1,2,3} a0 v1/0{1,2,3}{3} y- r[] o[] x{} b0" ∷
    "= 13" ∷
    "1 ExchangeStates c2 g0 w0 p1@1{1,2,3} a0 v- y![] r[] o[] x{} b0" ∷
    "2 ExchangeStates c2 g0 w0 p1@1{1,2,3} a0 v- y![] r[] o[] x{} b0" ∷
    "= 14" ∷
    "3 ExchangeStates c3 g0 w0 p1@1{1,2,3} a0 v- y![] r[] o[] x{} b0" ∷
    "= 16" ∷
    "1 Construct c2 g0 w0 p1@1{1,2,3} a1 v2/1{1,2}{1} y![] r[] o[] x{} b0" ∷
    "= 17" ∷
    "2 Construct c2 g0 w0 p1@1{1,2,3} a1 v2/1{1,2}{2} y![] r[] o[] x{} b0" ∷
    "= 18" ∷
    "3 NonPrim c3 g0 w0 p1@1{1,2,3} a0 v- y![] r[] o[] x{} b0" ∷
    "= 20" ∷
    "1 RegPrim c2 g0 w0 p2@2{1,2} a0 v2/1{1,2}{1} y- r[] o[] x{} b0" ∷
    "= 21" ∷
    "2 RegPrim c2 g0 w0 p2@2{1,2} a0 v2/1{1,2}{2} y- r[] o[] x{} b0" ∷
    "= 22" ∷
    "made 1:1 put \"x\" 5" ∷
    "1 RegPrim c2 g0 w0 p2@2{1,2} a0 v2/1{1,2}{1} y- r[] o[1:1] x{} b0" ∷
    "= 23" ∷
    "made 3:1 put \"x\" 6" ∷
    "3 NonPrim c3 g0 w0 p1@1{1,2,3} a0 v- y![] r[] o[3:1] x{} b0" ∷
    "= 25" ∷
    "order 1 1:1" ∷
    "1 RegPrim c2 g1 w0 p2@2{1,2} a0 v2/1{1,2}{1} y- r[] o[] x{} b0" ∷
    "reply 1:1 done" ∷
    "= 26" ∷
    "2 RegPrim c2 g1 w0 p2@2{1,2} a0 v2/1{1,2}{2} y- r[] o[] x{} b0" ∷
    "= 27" ∷
    "3 NonPrim c3 g0 w0 p1@1{1,2,3} a0 v- y![] r[3:1] o[] x{} b0" ∷
    "= 28" ∷
    "follower 2 1" ∷
    "= 31" ∷
    "1 TransPrim t2 g1 w0 p2@2{1,2} a0 v2/1{1,2}{1} y- r[] o[] x{} b0" ∷
    "2 TransPrim t2 g1 w0 p2@2{1,2} a0 v2/1{1,2}{2} y- r[] o[] x{} b0" ∷
    "= 32" ∷
    "3 NonPrim t3 g0 w0 p1@1{1,2,3} a0 v- y![] r[3:1] o[] x{} b0" ∷
    "= 33" ∷
    "1 ExchangeStates c4 g1 w0 p2@2{1,2} a0 v- y![] r[] o[] x{} b0" ∷
    "2 ExchangeStates c4 g1 w0 p2@2{1,2} a0 v- y![] r[] o[] x{} b0" ∷
    "3 ExchangeStates c4 g0 w0 p1@1{1,2,3} a0 v- y![] r[3:1] o[] x{} b0" ∷
    "= 35" ∷
    "1 ExchangeActions c4 g1 w0 p2@2{1,2} a0 v- y![] r[] o[] x{} b0" ∷
    "= 36" ∷
    "2 ExchangeActions c4 g1 w0 p2@2{1,2} a0 v- y![] r[] o[] x{} b0" ∷
    "= 37" ∷
    "3 ExchangeActions c4 g0 w0 p1@1{1,2,3} a0 v- y![] r[3:1] o[] x{} b0" ∷
    "= 41" ∷
    "3 ExchangeActions c4 g1 w0 p1@1{1,2,3} a0 v- y![] r[3:1] o[] x{} b0" ∷
    "= 43" ∷
    "1 Construct c4 g1 w0 p2@2{1,2} a1 v4/2{1,2,3}{1} y![] r[3:1] o[] x{} b0" ∷
    "= 44" ∷
    "2 Construct c4 g1 w0 p2@2{1,2} a1 v4/2{1,2,3}{2} y![] r[3:1] o[] x{} b0" ∷
    "= 45" ∷
    "3 Construct c4 g1 w0 p2@2{1,2} a1 v4/2{1,2,3}{3} y![] r[3:1] o[] x{} b0" ∷
    "= 47" ∷
    "order 2 3:1" ∷
    "1 RegPrim c4 g2 w0 p3@4{1,2,3} a0 v4/2{1,2,3}{1} y- r[] o[] x{} b0" ∷
    "= 48" ∷
    "2 RegPrim c4 g2 w0 p3@4{1,2,3} a0 v4/2{1,2,3}{2} y- r[] o[] x{} b0" ∷
    "= 49" ∷
    "3 RegPrim c4 g2 w0 p3@4{1,2,3} a0 v4/2{1,2,3}{3} y- r[] o[] x{} b0" ∷
    "reply 3:1 done" ∷
    "= 50" ∷
    "follower 2 2" ∷
    "= 51" ∷
    "fweak 2 6" ∷
    "end 51" ∷
    [])
unfolding cases_compute
follow_fed_by_one_behind = refl

-- A follower behind what a replica has discarded is not fed by it.
follow_fed_past_a_discarded_place :
    put_by "follow" (
    "start 1 2 3" ∷
    "merge 1 2 3" ∷
    "rounds 2" ∷
    "request 1 put \"a\" 1" ∷
    "rounds 1" ∷
    "follower 4 1" ∷
    "request 1 put \"b\" 2" ∷
    "request 2 put \"c\" 3" ∷
    "request 3 put \"d\" 4" ∷
    "rounds 1" ∷
    "request 1 inc \"a\" 1" ∷
    "request 2 inc \"b\" 1" ∷
    "request 3 inc \"c\" 1" ∷
    "rounds 1" ∷
    "feed 1 4 9" ∷
    [])
    ≡ written (
    "= 1" ∷
    "1 NonPrim - g0 w0 p0@0{1,2,3} a0 v- y- r[] o[] x{} b0" ∷
    "2 NonPrim - g0 w0 p0@0{1,2,3} a0 v- y- r[] o[] x{} b0" ∷
    "3 NonPrim - g0 w0 p0@0{1,2,3} a0 v- y- r[] o[] x{} b0" ∷
    "= 2" ∷
    "1 ExchangeStates c1 g0 w0 p0@0{1,2,3} a0 v- y- r[] o[] x{} b0" ∷
    "2 ExchangeStates c1 g0 w0 p0@0{1,2,3} a0 v- y- r[] o[] x{} b0" ∷
    "3 ExchangeStates c1 g0 w0 p0@0{1,2,3} a0 v- y- r[] o[] x{} b0" ∷
    "= 4" ∷
    "1 Construct c1 g0 w0 p0@0{1,2,3} a1 v1/0{1,2,3}{1} y- r[] o[] x{} b0" ∷
    "= 5" ∷
    "2 Construct c1 g0 w0 p0@0{1,2,3} a1 v1/0{1,2,3}{2} y- r[] o[] x{} b0" ∷
    "= 6" ∷
    "3 Construct c1 g0 w0 p0@0{1,2,3} a1 v1/0{1,2,3}{3} y- r[] o[] x{} b0" ∷
    "= 8" ∷
    "1 RegPrim c1 g0 w0 p1@1{1,2,3} a0 v1/0{1,2,3}{1} y- r[] o[] x{} b0" ∷
    "= 9" ∷
    "2 RegPrim c1 g0 w0 p1@1{1,2,3} a0 v1/0{1,2,3}{2} y- r[] o[] x{} b0" ∷
    "= 10" ∷
    "3 RegPrim c1 g0 w0 p1@1{1,2,3} a0 v1/0{1,2,3}{3} y- r[] o[] x{} b0" ∷
    "= 11" ∷
    "made 1:1 put \"a\" 1" ∷
    "1 RegPrim c1 g0 w0 p1@1{1,2,3} a0 v1/0{1,2,3}{1} y- r[] o[1:1] x{} b0" ∷
    "= 13" ∷
    "order 1 1:1" ∷
    "1 RegPrim c1 g1 w0 p1@1{1,2,3} a0 v1/0{1,2,3}{1} y- r[] o[] x{} b0" ∷
    "reply 1:1 done" ∷
    "= 14" ∷
    "2 RegPrim c1 g1 w0 p1@1{1,2,3} a0 v1/0{1,2,3}{2} y- r[] o[] x{} b0" ∷
    "= 15" ∷
    "3 RegPrim c1 g1 w0 p1@1{1,2,3} a0 v1/0{1,2,3}{3} y- r[] o[] x{} b0" ∷
    "= 16" ∷
    "follower 4 1" ∷
    "= 17" ∷
    "made 1:2 put \"b\" 2" ∷
    "1 RegPrim c1 g1 w0 p1@1{1,2,3} a0 v1/0{1,2,3}{1} y- r[] o[1:2] x{} b0" ∷
    "= 18" ∷
    "made 2:1 put \"c\" 3" ∷
    "2 RegPrim c1 g1 w0 p1@1{1,2,3} a0 v1/0{1,2,3}{2} y- r[] o[2:1] x{} b0" ∷
    "= 19" ∷
    "made 3:1 put \"d\" 4" ∷
    "3 RegPrim c1 g1 w0 p1@1{1,2,3} a0 v1/0{1,2,3}{3} y- r[] o[3:1] x{} b0" ∷
    "= 21" ∷
    "order 2 1:2" ∷
    "order 3 2:1" ∷
    "order 4 3:1" ∷
    "1 RegPrim c1 g4 w1 p1@1{1,2,3} a0 v1/0{1,2,3}{1} y- r[] o[] x{} b0" ∷
    "reply 1:2 done" ∷
    "= 22" ∷
    "2 RegPrim c1 g4 w1 p1@1{1,2,3} a0 v1/0{1,2,3}{2} y- r[] o[] x{} b0" ∷
    "reply 2:1 done" ∷
    "= 23" ∷
    "3 RegPrim c1 g4 w1 p1@1{1,2,3} a0 v1/0{1,2,3}{3} y- r[] o[] x{} b0" ∷
    "reply 3:1 done" ∷
    "= 24" ∷
    "made 1:3 inc \"a\" 1" ∷
    "1 RegPrim c1 g4 w1 p1@1{1,2,3} a0 v1/0{1,2,3}{1} y- r[] o[1:3] x{} b0" ∷
    "= 25" ∷
    "made 2:2 inc \"b\" 1" ∷
    "2 RegPrim c1 g4 w1 p1@1{1,2,3} a0 v1/0{1,2,3}{2} y- r[] o[2:2] x{} b0" ∷
    "= 26" ∷
    "made 3:2 inc \"c\" 1" ∷
    "3 RegPrim c1 g4 w1 p1@1{1,2,3} a0 v1/0{1,2,3}{3} y- r[] o[3:2] x{} b0" ∷
    "= 28" ∷
    "order 5 1:3" ∷
    "order 6 2:2" ∷
    "order 7 3:2" ∷
    "1 RegPrim c1 g7 w4 p1@1{1,2,3} a0 v1/0{1,2,3}{1} y- r[] o[] x{} b0" ∷
    "reply 1:3 done" ∷
    "= 29" ∷
    "2 RegPrim c1 g7 w4 p1@1{1,2,3} a0 v1/0{1,2,3}{2} y- r[] o[] x{} b0" ∷
    "reply 2:2 done" ∷
    "= 30" ∷
    "3 RegPrim c1 g7 w4 p1@1{1,2,3} a0 v1/0{1,2,3}{3} y- r[] o[] x{} b0" ∷
    "reply 3:2 done" ∷
    "refused 15 18 4" ∷
    [])
unfolding cases_compute
follow_fed_past_a_discarded_place = refl
