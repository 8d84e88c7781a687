-- Cases of cases/ with their whole reports, which `.ci/theorems` writes down here.
use Rattle.std.specs.Prelude.{◌≡◌, [], ◌∷◌}
use mathlib.Core.Path.{refl}
use Rattle.cg_run_cases.specs.Replaying.{put_by, written}
use Rattle.cg_run_cases.specs.Computing.{cases_compute}

-- A replica that was told that it left still tells what it knows.
relaxed_at_a_leaver :
    put_by "relaxed" (
    "start 1 2 3" ∷
    "merge 1 2 3" ∷
    "rounds 2" ∷
    "split 1 2" ∷
    "split 3" ∷
    "merge 1 2" ∷
    "merge 3" ∷
    "rounds 2" ∷
    "leave 1 3" ∷
    "rounds 1" ∷
    "request 3 inc \"x\" 3" ∷
    "split 1 2" ∷
    "split 3" ∷
    "merge 1 2 3" ∷
    "rounds 3" ∷
    "relaxed 3 \"x\"" ∷
    "relaxed 1 \"x\"" ∷
    "joined 1 3 \"x\"" ∷
    "end" ∷
    [])
    ≡ written (
    "= 1" ∷
    "1 NonPrim - g0 w0 p0@0{1,2,3} a0 v- y- r[] o[] x{} b0" ∷
    "2 NonPrim - g0 w0 p0@0{1,2,3} a0 v- y- r[] o[] x{} b0" ∷
    "3 NonPrim - g0 w0 p0@0{1,2,3} a0 v- y- r[] o[] x{} b0" ∷
    "= 2" ∷
    "1 ExchangeStates c1 g0 w0 p0@0{1,2,3} a0 v- y- r[] o[] x{} b0" ∷
    "2 ExchangeStates c1 g0 w0 p0@0{1,2,3} a0 v- y- r[] o[] x{} b0" ∷
    "3 ExchangeStates c1 g0 w0 p0@0{1,2,3} a0 v- y- r[] o[] x{} b0" ∷
    "= 4" ∷
    "1 Construct c1 g0 w0 p0@0{1,2,3} a1 v1/0{1,2,3}{1} y- r[] o[] x{} b0" ∷
    "= 5" ∷
    "2 Construct c1 g0 w0 p0@0{1,2,3} a1 v1/0{1,2,3}{2} y- r[] o[] x{} b0" ∷
    "= 6" ∷
    "3 Construct c1 g0 w0 p0@0{1,2,3} a1 v1/0{1,2,3}{3} y- r[] o[] x{} b0" ∷
    "= 8" ∷
    "1 RegPrim c1 g0 w0 p1@1{1,2,3} a0 v1/0{1,2,3}{1} y- r[] o[] x{} b0" ∷
    "= 9" ∷
    "2 RegPrim c1 g0 w0 p1@1{1,2,3} a0 v1/0{1,2,3}{2} y- r[] o[] x{} b0" ∷
    "= 10" ∷
    "3 RegPrim c1 g0 w0 p1@1{1,2,3} a0 v1/0{1,2,3}{3} y- r[] o[] x{} b0" ∷
    "= 11" ∷
    "1 TransPrim t1 g0 w0 p1@1{1,2,3} a0 v1/0{1,2,3}{1} y- r[] o[] x{} b0" ∷
    "2 TransPrim t1 g0 w0 p1@1{1,2,3} a0 v1/0{1,2,3}{2} y- r[] o[] x{} b0" ∷
    "= 12" ∷
    "3 TransPrim t1 g0 w0 p1@1{1,2,3} a0 v1/0{1,2,3}{3} y- r[] o[] x{} b0" ∷
    "= 13" ∷
    "1 ExchangeStates c2 g0 w0 p1@1{1,2,3} a0 v- y![] r[] o[] x{} b0" ∷
    "2 ExchangeStates c2 g0 w0 p1@1{1,2,3} a0 v- y![] r[] o[] x{} b0" ∷
    "= 14" ∷
    "3 ExchangeStates c3 g0 w0 p1@1{1,2,3} a0 v- y![] r[] o[] x{} b0" ∷
    "= 16" ∷
    "1 Construct c2 g0 w0 p1@1{1,2,3} a1 v2/1{1,2}{1} y![] r[] o[] x{} b0" ∷
    "= 17" ∷
    "2 Construct c2 g0 w0 p1@1{1,2,3} a1 v2/1{1,2}{2} y![] r[] o[] x{} b0" ∷
    "= 18" ∷
    "3 NonPrim c3 g0 w0 p1@1{1,2,3} a0 v- y![] r[] o[] x{} b0" ∷
    "= 20" ∷
    "1 RegPrim c2 g0 w0 p2@2{1,2} a0 v2/1{1,2}{1} y- r[] o[] x{} b0" ∷
    "= 21" ∷
    "2 RegPrim c2 g0 w0 p2@2{1,2} a0 v2/1{1,2}{2} y- r[] o[] x{} b0" ∷
    "= 22" ∷
    "made 1:1 leave 3" ∷
    "1 RegPrim c2 g0 w0 p2@2{1,2} a0 v2/1{1,2}{1} y- r[] o[1:1] x{} b0" ∷
    "= 24" ∷
    "order 1 1:1" ∷
    "1 RegPrim c2 g1 w0 p2@2{1,2} a0 v2/1{1,2}{1} y- r[] o[] x{3} b0" ∷
    "reply 1:1 done" ∷
    "= 25" ∷
    "2 RegPrim c2 g1 w0 p2@2{1,2} a0 v2/1{1,2}{2} y- r[] o[] x{3} b0" ∷
    "= 26" ∷
    "made 3:1 inc \"x\" 3" ∷
    "3 NonPrim c3 g0 w0 p1@1{1,2,3} a0 v- y![] r[] o[3:1] x{} b0" ∷
    "= 27" ∷
    "1 TransPrim t2 g1 w0 p2@2{1,2} a0 v2/1{1,2}{1} y- r[] o[] x{3} b0" ∷
    "2 TransPrim t2 g1 w0 p2@2{1,2} a0 v2/1{1,2}{2} y- r[] o[] x{3} b0" ∷
    "= 28" ∷
    "3 NonPrim t3 g0 w0 p1@1{1,2,3} a0 v- y![] r[] o[3:1] x{} b0" ∷
    "= 29" ∷
    "1 ExchangeStates c4 g1 w0 p2@2{1,2} a0 v- y![] r[] o[] x{3} b0" ∷
    "2 ExchangeStates c4 g1 w0 p2@2{1,2} a0 v- y![] r[] o[] x{3} b0" ∷
    "3 ExchangeStates c4 g0 w0 p1@1{1,2,3} a0 v- y![] r[3:1] o[] x{} b0" ∷
    "= 31" ∷
    "1 ExchangeActions c4 g1 w0 p2@2{1,2} a0 v- y![] r[] o[] x{3} b0" ∷
    "= 32" ∷
    "2 ExchangeActions c4 g1 w0 p2@2{1,2} a0 v- y![] r[] o[] x{3} b0" ∷
    "= 33" ∷
    "3 ExchangeActions c4 g0 w0 p1@1{1,2,3} a0 v- y![] r[3:1] o[] x{} b0" ∷
    "= 35" ∷
    "1 Construct c4 g1 w0 p2@2{1,2} a1 v4/2{1,2}{1} y![] r[3:1] o[] x{3} b0" ∷
    "= 36" ∷
    "2 Construct c4 g1 w0 p2@2{1,2} a1 v4/2{1,2}{2} y![] r[3:1] o[] x{3} b0" ∷
    "= 37" ∷
    "3 Left c4 g0 w0 p1@1{1,2,3} a0 v- y![] r[3:1] o[] x{} b0" ∷
    "= 39" ∷
    "order 2 3:1" ∷
    "1 RegPrim c4 g2 w0 p3@4{1,2} a0 v4/2{1,2}{1} y- r[] o[] x{3} b0" ∷
    "= 40" ∷
    "2 RegPrim c4 g2 w0 p3@4{1,2} a0 v4/2{1,2}{2} y- r[] o[] x{3} b0" ∷
    "= 42" ∷
    "relaxed 3 absent 3" ∷
    "= 43" ∷
    "relaxed 1 absent 3" ∷
    "= 44" ∷
    "joined 1 3 absent 3" ∷
    "end 44" ∷
    [])
unfolding cases_compute
relaxed_at_a_leaver = refl

-- Relaxed queries beside disks of the older format and recoveries that are stopped.
relaxed_beside_old_disks_a :
    put_by "relaxed" (
    "start 1 2" ∷
    "merge 1 2" ∷
    "rounds 2" ∷
    "stop 1 3 01" ∷
    "relaxed 1 \"x\"" ∷
    "split 1" ∷
    "relaxed 1 \"x\"" ∷
    "stop 2 0 01" ∷
    "recover 2" ∷
    "merge 1 2" ∷
    "recover 1 9 01" ∷
    "joined 1 2 \"x\"" ∷
    "stop 1 0 01" ∷
    "joined 2 2 \"x\"" ∷
    "recover 1" ∷
    "joined 2 2 \"x\"" ∷
    "stop 2 0 01" ∷
    "joined 1 1 \"x\"" ∷
    "rounds 1" ∷
    "downgrade 2" ∷
    "request 1 put \"x\" 2" ∷
    "end" ∷
    [])
    ≡ written (
    "= 1" ∷
    "1 NonPrim - g0 w0 p0@0{1,2} a0 v- y- r[] o[] x{} b0" ∷
    "2 NonPrim - g0 w0 p0@0{1,2} a0 v- y- r[] o[] x{} b0" ∷
    "= 2" ∷
    "1 ExchangeStates c1 g0 w0 p0@0{1,2} a0 v- y- r[] o[] x{} b0" ∷
    "2 ExchangeStates c1 g0 w0 p0@0{1,2} a0 v- y- r[] o[] x{} b0" ∷
    "= 4" ∷
    "1 Construct c1 g0 w0 p0@0{1,2} a1 v1/0{1,2}{1} y- r[] o[] x{} b0" ∷
    "= 5" ∷
    "2 Construct c1 g0 w0 p0@0{1,2} a1 v1/0{1,2}{2} y- r[] o[] x{} b0" ∷
    "= 7" ∷
    "1 RegPrim c1 g0 w0 p1@1{1,2} a0 v1/0{1,2}{1} y- r[] o[] x{} b0" ∷
    "= 8" ∷
    "2 RegPrim c1 g0 w0 p1@1{1,2} a0 v1/0{1,2}{2} y- r[] o[] x{} b0" ∷
    "= 10" ∷
    "relaxed 1 absent 0" ∷
    "= 11" ∷
    "1 TransPrim t1 g0 w0 p1@1{1,2} a0 v1/0{1,2}{1} y- r[] o[] x{} b0" ∷
    "= 12" ∷
    "relaxed 1 absent 0" ∷
    "= 13" ∷
    "2 Down" ∷
    "= 14" ∷
    "2 NonPrim - g0 w0 p1@1{1,2} a0 v1/0{1,2}{2} y- r[] o[] x{} b0" ∷
    "= 15" ∷
    "1 Down" ∷
    "2 ExchangeStates c2 g0 w0 p1@1{1,2} a0 v1/0{1,2}{2} y- r[] o[] x{} b0" ∷
    "= 16" ∷
    "1 NonPrim - g0 w0 p1@1{1,2} a0 v- y![] r[] o[] x{} b0" ∷
    "= 17" ∷
    "joined 1 2 absent 0" ∷
    "= 18" ∷
    "1 Down" ∷
    "= 19" ∷
    "joined 2 2 absent 0" ∷
    "= 20" ∷
    "1 NonPrim - g0 w0 p1@1{1,2} a0 v- y![] r[] o[] x{} b0" ∷
    "= 21" ∷
    "joined 2 2 absent 0" ∷
    "= 22" ∷
    "2 Down" ∷
    "= 23" ∷
    "joined 1 1 absent 0" ∷
    "= 26" ∷
    "1 NonPrim - g0 w0 p1@1{1,2} a0 v- y![] r[] o[] x{} b1" ∷
    "end 26" ∷
    [])
unfolding cases_compute
relaxed_beside_old_disks_a = refl

-- Relaxed queries beside disks of the older format and recoveries that are stopped.
relaxed_beside_old_disks_b :
    put_by "relaxed" (
    "start 1 2" ∷
    "merge 1 2" ∷
    "rounds 2" ∷
    "stop 2 0 01" ∷
    "relaxed 1 \"x\"" ∷
    "rounds 1" ∷
    "joined 1 1 \"x\"" ∷
    "downgrade 2" ∷
    "recover 2 17 ff" ∷
    "joined 2 1 \"x\"" ∷
    "split 1" ∷
    "joined 1 1 \"x\"" ∷
    "stop 1 0 01" ∷
    "joined 2 2 \"x\"" ∷
    "joined 2 2 \"x\"" ∷
    "recover 1" ∷
    "merge 1 2" ∷
    "joined 2 1 \"x\"" ∷
    "request 1 put \"x\" 1" ∷
    "joined 1 2 \"x\"" ∷
    "split 1" ∷
    "joined 2 1 \"x\"" ∷
    "rounds 1" ∷
    "relaxed 1 \"x\"" ∷
    "stop 2 0 01" ∷
    "end" ∷
    [])
    ≡ written (
    "= 1" ∷
    "1 NonPrim - g0 w0 p0@0{1,2} a0 v- y- r[] o[] x{} b0" ∷
    "2 NonPrim - g0 w0 p0@0{1,2} a0 v- y- r[] o[] x{} b0" ∷
    "= 2" ∷
    "1 ExchangeStates c1 g0 w0 p0@0{1,2} a0 v- y- r[] o[] x{} b0" ∷
    "2 ExchangeStates c1 g0 w0 p0@0{1,2} a0 v- y- r[] o[] x{} b0" ∷
    "= 4" ∷
    "1 Construct c1 g0 w0 p0@0{1,2} a1 v1/0{1,2}{1} y- r[] o[] x{} b0" ∷
    "= 5" ∷
    "2 Construct c1 g0 w0 p0@0{1,2} a1 v1/0{1,2}{2} y- r[] o[] x{} b0" ∷
    "= 7" ∷
    "1 RegPrim c1 g0 w0 p1@1{1,2} a0 v1/0{1,2}{1} y- r[] o[] x{} b0" ∷
    "= 8" ∷
    "2 RegPrim c1 g0 w0 p1@1{1,2} a0 v1/0{1,2}{2} y- r[] o[] x{} b0" ∷
    "= 9" ∷
    "2 Down" ∷
    "= 10" ∷
    "relaxed 1 absent 0" ∷
    "= 12" ∷
    "joined 1 1 absent 0" ∷
    "= 14" ∷
    "2 NonPrim - g0 w0 p1@1{1,2} a0 v1/0{1,2}{2} y- r[] o[] x{} b0" ∷
    "= 15" ∷
    "joined 2 1 absent 0" ∷
    "= 16" ∷
    "1 TransPrim t1 g0 w0 p1@1{1,2} a0 v1/0{1,2}{1} y- r[] o[] x{} b0" ∷
    "= 17" ∷
    "joined 1 1 absent 0" ∷
    "= 18" ∷
    "1 Down" ∷
    "= 19" ∷
    "joined 2 2 absent 0" ∷
    "= 20" ∷
    "joined 2 2 absent 0" ∷
    "= 21" ∷
    "1 NonPrim - g0 w0 p1@1{1,2} a0 v1/0{1,2}{1} y- r[] o[] x{} b0" ∷
    "= 22" ∷
    "1 ExchangeStates c2 g0 w0 p1@1{1,2} a0 v1/0{1,2}{1} y- r[] o[] x{} b0" ∷
    "2 ExchangeStates c2 g0 w0 p1@1{1,2} a0 v1/0{1,2}{2} y- r[] o[] x{} b0" ∷
    "= 23" ∷
    "joined 2 1 absent 0" ∷
    "= 24" ∷
    "1 ExchangeStates c2 g0 w0 p1@1{1,2} a0 v1/0{1,2}{1} y- r[] o[] x{} b1" ∷
    "= 25" ∷
    "joined 1 2 absent 0" ∷
    "= 26" ∷
    "1 NonPrim t2 g0 w0 p1@1{1,2} a0 v1/0{1,2}{1} y- r[] o[] x{} b1" ∷
    "= 27" ∷
    "joined 2 1 absent 0" ∷
    "= 29" ∷
    "relaxed 1 absent 0" ∷
    "= 30" ∷
    "2 Down" ∷
    "end 30" ∷
    [])
unfolding cases_compute
relaxed_beside_old_disks_b = refl

-- Relaxed queries beside disks of the older format and recoveries that are stopped.
relaxed_beside_old_disks_c :
    put_by "relaxed" (
    "start 1 2 3" ∷
    "merge 1 2 3" ∷
    "rounds 2" ∷
    "split 1" ∷
    "joined 3 1 \"x\"" ∷
    "request 1 inc \"x\" 2" ∷
    "joined 2 3 \"x\"" ∷
    "request 1 put \"x\" 9" ∷
    "relaxed 2 \"x\"" ∷
    "relaxed 1 \"x\"" ∷
    "rounds 1" ∷
    "relaxed 1 \"x\"" ∷
    "stop 3 2 -" ∷
    "relaxed 1 \"x\"" ∷
    "stop 2 0 01" ∷
    "recover 2 9 01" ∷
    "joined 1 3 \"x\"" ∷
    "request 3 put \"x\" 9" ∷
    "relaxed 2 \"x\"" ∷
    "relaxed 1 \"x\"" ∷
    "downgrade 3" ∷
    "joined 2 2 \"x\"" ∷
    "downgrade 3" ∷
    "recover 3" ∷
    "merge 1 2 3" ∷
    "joined 2 1 \"x\"" ∷
    "end" ∷
    [])
    ≡ written (
    "= 1" ∷
    "1 NonPrim - g0 w0 p0@0{1,2,3} a0 v- y- r[] o[] x{} b0" ∷
    "2 NonPrim - g0 w0 p0@0{1,2,3} a0 v- y- r[] o[] x{} b0" ∷
    "3 NonPrim - g0 w0 p0@0{1,2,3} a0 v- y- r[] o[] x{} b0" ∷
    "= 2" ∷
    "1 ExchangeStates c1 g0 w0 p0@0{1,2,3} a0 v- y- r[] o[] x{} b0" ∷
    "2 ExchangeStates c1 g0 w0 p0@0{1,2,3} a0 v- y- r[] o[] x{} b0" ∷
    "3 ExchangeStates c1 g0 w0 p0@0{1,2,3} a0 v- y- r[] o[] x{} b0" ∷
    "= 4" ∷
    "1 Construct c1 g0 w0 p0@0{1,2,3} a1 v1/0{1,2,3}{1} y- r[] o[] x{} b0" ∷
    "= 5" ∷
    "2 Construct c1 g0 w0 p0@0{1,2,3} a1 v1/0{1,2,3}{2} y- r[] o[] x{} b0" ∷
    "= 6" ∷
    "3 Construct c1 g0 w0 p0@0{1,2,3} a1 v1/0{1,2,3}{3} y- r[] o[] x{} b0" ∷
    "= 8" ∷
    "1 RegPrim c1 g0 w0 p1@1{1,2,3} a0 v1/0{1,2,3}{1} y- r[] o[] x{} b0" ∷
    "= 9" ∷
    "2 RegPrim c1 g0 w0 p1@1{1,2,3} a0 v1/0{1,2,3}{2} y- r[] o[] x{} b0" ∷
    "= 10" ∷
    "3 RegPrim c1 g0 w0 p1@1{1,2,3} a0 v1/0{1,2,3}{3} y- r[] o[] x{} b0" ∷
    "= 11" ∷
    "1 TransPrim t1 g0 w0 p1@1{1,2,3} a0 v1/0{1,2,3}{1} y- r[] o[] x{} b0" ∷
    "= 12" ∷
    "joined 3 1 absent 0" ∷
    "= 13" ∷
    "1 TransPrim t1 g0 w0 p1@1{1,2,3} a0 v1/0{1,2,3}{1} y- r[] o[] x{} b1" ∷
    "= 14" ∷
    "joined 2 3 absent 0" ∷
    "= 15" ∷
    "1 TransPrim t1 g0 w0 p1@1{1,2,3} a0 v1/0{1,2,3}{1} y- r[] o[] x{} b2" ∷
    "= 16" ∷
    "relaxed 2 absent 0" ∷
    "= 17" ∷
    "relaxed 1 absent 0" ∷
    "= 19" ∷
    "relaxed 1 absent 0" ∷
    "= 21" ∷
    "relaxed 1 absent 0" ∷
    "= 22" ∷
    "2 Down" ∷
    "= 23" ∷
    "2 NonPrim - g0 w0 p1@1{1,2,3} a0 v1/0{1,2,3}{2} y- r[] o[] x{} b0" ∷
    "= 24" ∷
    "joined 1 3 absent 0" ∷
    "= 25" ∷
    "3 Down" ∷
    "= 26" ∷
    "relaxed 2 absent 0" ∷
    "= 27" ∷
    "relaxed 1 absent 0" ∷
    "= 29" ∷
    "joined 2 2 absent 0" ∷
    "= 31" ∷
    "3 NonPrim - g0 w0 p1@1{1,2,3} a0 v1/0{1,2,3}{3} y- r[] o[] x{} b0" ∷
    "= 32" ∷
    "1 ExchangeStates c2 g0 w0 p1@1{1,2,3} a0 v- y![] r[] o[] x{} b2" ∷
    "2 ExchangeStates c2 g0 w0 p1@1{1,2,3} a0 v1/0{1,2,3}{2} y- r[] o[] x{} b0" ∷
    "3 ExchangeStates c2 g0 w0 p1@1{1,2,3} a0 v1/0{1,2,3}{3} y- r[] o[] x{} b0" ∷
    "= 33" ∷
    "joined 2 1 absent 0" ∷
    "end 33" ∷
    [])
unfolding cases_compute
relaxed_beside_old_disks_c = refl

-- Red marks that no commit had written are lost at a crash, and the sum and the register fall with them.
relaxed_cut_falls_at_a_crash :
    put_by "relaxed" (
    "start 1 2 3" ∷
    "merge 1 2 3" ∷
    "rounds 2" ∷
    "split 1" ∷
    "split 2 3" ∷
    "merge 1" ∷
    "merge 2 3" ∷
    "rounds 2" ∷
    "request 1 inc \"x\" 1" ∷
    "request 1 put \"x\" \"a\"" ∷
    "rounds 1" ∷
    "relaxed 1 \"x\"" ∷
    "split 1" ∷
    "merge 1" ∷
    "split 2 3" ∷
    "rounds 1" ∷
    "merge 2 3" ∷
    "rounds 1" ∷
    "relaxed 1 \"x\"" ∷
    "stop 1 0 -" ∷
    "recover 1" ∷
    "relaxed 1 \"x\"" ∷
    "joined 1 2 \"x\"" ∷
    "end" ∷
    [])
    ≡ written (
    "= 1" ∷
    "1 NonPrim - g0 w0 p0@0{1,2,3} a0 v- y- r[] o[] x{} b0" ∷
    "2 NonPrim - g0 w0 p0@0{1,2,3} a0 v- y- r[] o[] x{} b0" ∷
    "3 NonPrim - g0 w0 p0@0{1,2,3} a0 v- y- r[] o[] x{} b0" ∷
    "= 2" ∷
    "1 ExchangeStates c1 g0 w0 p0@0{1,2,3} a0 v- y- r[] o[] x{} b0" ∷
    "2 ExchangeStates c1 g0 w0 p0@0{1,2,3} a0 v- y- r[] o[] x{} b0" ∷
    "3 ExchangeStates c1 g0 w0 p0@0{1,2,3} a0 v- y- r[] o[] x{} b0" ∷
    "= 4" ∷
    "1 Construct c1 g0 w0 p0@0{1,2,3} a1 v1/0{1,2,3}{1} y- r[] o[] x{} b0" ∷
    "= 5" ∷
    "2 Construct c1 g0 w0 p0@0{1,2,3} a1 v1/0{1,2,3}{2} y- r[] o[] x{} b0" ∷
    "= 6" ∷
    "3 Construct c1 g0 w0 p0@0{1,2,3} a1 v1/0{1,2,3}{3} y- r[] o[] x{} b0" ∷
    "= 8" ∷
    "1 RegPrim c1 g0 w0 p1@1{1,2,3} a0 v1/0{1,2,3}{1} y- r[] o[] x{} b0" ∷
    "= 9" ∷
    "2 RegPrim c1 g0 w0 p1@1{1,2,3} a0 v1/0{1,2,3}{2} y- r[] o[] x{} b0" ∷
    "= 10" ∷
    "3 RegPrim c1 g0 w0 p1@1{1,2,3} a0 v1/0{1,2,3}{3} y- r[] o[] x{} b0" ∷
    "= 11" ∷
    "1 TransPrim t1 g0 w0 p1@1{1,2,3} a0 v1/0{1,2,3}{1} y- r[] o[] x{} b0" ∷
    "= 12" ∷
    "2 TransPrim t1 g0 w0 p1@1{1,2,3} a0 v1/0{1,2,3}{2} y- r[] o[] x{} b0" ∷
    "3 TransPrim t1 g0 w0 p1@1{1,2,3} a0 v1/0{1,2,3}{3} y- r[] o[] x{} b0" ∷
    "= 13" ∷
    "1 ExchangeStates c2 g0 w0 p1@1{1,2,3} a0 v- y![] r[] o[] x{} b0" ∷
    "= 14" ∷
    "2 ExchangeStates c3 g0 w0 p1@1{1,2,3} a0 v- y![] r[] o[] x{} b0" ∷
    "3 ExchangeStates c3 g0 w0 p1@1{1,2,3} a0 v- y![] r[] o[] x{} b0" ∷
    "= 16" ∷
    "1 NonPrim c2 g0 w0 p1@1{1,2,3} a0 v- y![] r[] o[] x{} b0" ∷
    "= 17" ∷
    "2 Construct c3 g0 w0 p1@1{1,2,3} a1 v3/1{2,3}{2} y![] r[] o[] x{} b0" ∷
    "= 18" ∷
    "3 Construct c3 g0 w0 p1@1{1,2,3} a1 v3/1{2,3}{3} y![] r[] o[] x{} b0" ∷
    "= 20" ∷
    "2 RegPrim c3 g0 w0 p2@3{2,3} a0 v3/1{2,3}{2} y- r[] o[] x{} b0" ∷
    "= 21" ∷
    "3 RegPrim c3 g0 w0 p2@3{2,3} a0 v3/1{2,3}{3} y- r[] o[] x{} b0" ∷
    "= 22" ∷
    "made 1:1 inc \"x\" 1" ∷
    "1 NonPrim c2 g0 w0 p1@1{1,2,3} a0 v- y![] r[] o[1:1] x{} b0" ∷
    "= 23" ∷
    "made 1:2 put \"x\" \"a\"" ∷
    "1 NonPrim c2 g0 w0 p1@1{1,2,3} a0 v- y![] r[] o[1:1,1:2] x{} b0" ∷
    "= 25" ∷
    "1 NonPrim c2 g0 w0 p1@1{1,2,3} a0 v- y![] r[1:1,1:2] o[] x{} b0" ∷
    "= 26" ∷
    "relaxed 1 \"a\" 1" ∷
    "= 27" ∷
    "1 NonPrim t2 g0 w0 p1@1{1,2,3} a0 v- y![] r[1:1,1:2] o[] x{} b0" ∷
    "= 28" ∷
    "1 ExchangeStates c4 g0 w0 p1@1{1,2,3} a0 v- y![] r[1:1,1:2] o[] x{} b0" ∷
    "= 29" ∷
    "2 TransPrim t3 g0 w0 p2@3{2,3} a0 v3/1{2,3}{2} y- r[] o[] x{} b0" ∷
    "3 TransPrim t3 g0 w0 p2@3{2,3} a0 v3/1{2,3}{3} y- r[] o[] x{} b0" ∷
    "= 31" ∷
    "1 NonPrim c4 g0 w0 p1@1{1,2,3} a0 v- y![] r[1:1,1:2] o[] x{} b0" ∷
    "= 32" ∷
    "2 ExchangeStates c5 g0 w0 p2@3{2,3} a0 v- y![] r[] o[] x{} b0" ∷
    "3 ExchangeStates c5 g0 w0 p2@3{2,3} a0 v- y![] r[] o[] x{} b0" ∷
    "= 34" ∷
    "2 Construct c5 g0 w0 p2@3{2,3} a1 v5/2{2,3}{2} y![] r[] o[] x{} b0" ∷
    "= 35" ∷
    "3 Construct c5 g0 w0 p2@3{2,3} a1 v5/2{2,3}{3} y![] r[] o[] x{} b0" ∷
    "= 36" ∷
    "relaxed 1 \"a\" 1" ∷
    "= 37" ∷
    "1 Down" ∷
    "= 38" ∷
    "1 NonPrim - g0 w0 p1@1{1,2,3} a0 v- y![] r[1:1,1:2] o[] x{} b0" ∷
    "= 39" ∷
    "relaxed 1 \"a\" 1" ∷
    "= 40" ∷
    "joined 1 2 \"a\" 1" ∷
    "end 40" ∷
    [])
unfolding cases_compute
relaxed_cut_falls_at_a_crash = refl

-- Actions that were discarded count on, also at a replica that joined by a snapshot.
relaxed_discarded_are_counted :
    put_by "relaxed" (
    "start 1 2 3" ∷
    "merge 1 2 3" ∷
    "rounds 2" ∷
    "request 1 put \"a\" 1" ∷
    "request 2 inc \"a\" 2" ∷
    "request 3 inc \"a\" 3" ∷
    "rounds 1" ∷
    "request 1 inc \"a\" 10" ∷
    "request 2 inc \"a\" 20" ∷
    "request 3 inc \"a\" 30" ∷
    "rounds 1" ∷
    "relaxed 1 \"a\"" ∷
    "join 1 5" ∷
    "rounds 1" ∷
    "transfer 1 5 1000000" ∷
    "relaxed 5 \"a\"" ∷
    "joined 5 2 \"a\"" ∷
    "stop 2 0 -" ∷
    "recover 2" ∷
    "relaxed 2 \"a\"" ∷
    "end" ∷
    [])
    ≡ written (
    "= 1" ∷
    "1 NonPrim - g0 w0 p0@0{1,2,3} a0 v- y- r[] o[] x{} b0" ∷
    "2 NonPrim - g0 w0 p0@0{1,2,3} a0 v- y- r[] o[] x{} b0" ∷
    "3 NonPrim - g0 w0 p0@0{1,2,3} a0 v- y- r[] o[] x{} b0" ∷
    "= 2" ∷
    "1 ExchangeStates c1 g0 w0 p0@0{1,2,3} a0 v- y- r[] o[] x{} b0" ∷
    "2 ExchangeStates c1 g0 w0 p0@0{1,2,3} a0 v- y- r[] o[] x{} b0" ∷
    "3 ExchangeStates c1 g0 w0 p0@0{1,2,3} a0 v- y- r[] o[] x{} b0" ∷
    "= 4" ∷
    "1 Construct c1 g0 w0 p0@0{1,2,3} a1 v1/0{1,2,3}{1} y- r[] o[] x{} b0" ∷
    "= 5" ∷
    "2 Construct c1 g0 w0 p0@0{1,2,3} a1 v1/0{1,2,3}{2} y- r[] o[] x{} b0" ∷
    "= 6" ∷
    "3 Construct c1 g0 w0 p0@0{1,2,3} a1 v1/0{1,2,3}{3} y- r[] o[] x{} b0" ∷
    "= 8" ∷
    "1 RegPrim c1 g0 w0 p1@1{1,2,3} a0 v1/0{1,2,3}{1} y- r[] o[] x{} b0" ∷
    "= 9" ∷
    "2 RegPrim c1 g0 w0 p1@1{1,2,3} a0 v1/0{1,2,3}{2} y- r[] o[] x{} b0" ∷
    "= 10" ∷
    "3 RegPrim c1 g0 w0 p1@1{1,2,3} a0 v1/0{1,2,3}{3} y- r[] o[] x{} b0" ∷
    "= 11" ∷
    "made 1:1 put \"a\" 1" ∷
    "1 RegPrim c1 g0 w0 p1@1{1,2,3} a0 v1/0{1,2,3}{1} y- r[] o[1:1] x{} b0" ∷
    "= 12" ∷
    "made 2:1 inc \"a\" 2" ∷
    "2 RegPrim c1 g0 w0 p1@1{1,2,3} a0 v1/0{1,2,3}{2} y- r[] o[2:1] x{} b0" ∷
    "= 13" ∷
    "made 3:1 inc \"a\" 3" ∷
    "3 RegPrim c1 g0 w0 p1@1{1,2,3} a0 v1/0{1,2,3}{3} y- r[] o[3:1] x{} b0" ∷
    "= 15" ∷
    "order 1 1:1" ∷
    "order 2 2:1" ∷
    "order 3 3:1" ∷
    "1 RegPrim c1 g3 w0 p1@1{1,2,3} a0 v1/0{1,2,3}{1} y- r[] o[] x{} b0" ∷
    "reply 1:1 done" ∷
    "= 16" ∷
    "2 RegPrim c1 g3 w0 p1@1{1,2,3} a0 v1/0{1,2,3}{2} y- r[] o[] x{} b0" ∷
    "reply 2:1 done" ∷
    "= 17" ∷
    "3 RegPrim c1 g3 w0 p1@1{1,2,3} a0 v1/0{1,2,3}{3} y- r[] o[] x{} b0" ∷
    "reply 3:1 done" ∷
    "= 18" ∷
    "made 1:2 inc \"a\" 10" ∷
    "1 RegPrim c1 g3 w0 p1@1{1,2,3} a0 v1/0{1,2,3}{1} y- r[] o[1:2] x{} b0" ∷
    "= 19" ∷
    "made 2:2 inc \"a\" 20" ∷
    "2 RegPrim c1 g3 w0 p1@1{1,2,3} a0 v1/0{1,2,3}{2} y- r[] o[2:2] x{} b0" ∷
    "= 20" ∷
    "made 3:2 inc \"a\" 30" ∷
    "3 RegPrim c1 g3 w0 p1@1{1,2,3} a0 v1/0{1,2,3}{3} y- r[] o[3:2] x{} b0" ∷
    "= 22" ∷
    "order 4 1:2" ∷
    "order 5 2:2" ∷
    "order 6 3:2" ∷
    "1 RegPrim c1 g6 w3 p1@1{1,2,3} a0 v1/0{1,2,3}{1} y- r[] o[] x{} b0" ∷
    "reply 1:2 done" ∷
    "= 23" ∷
    "2 RegPrim c1 g6 w3 p1@1{1,2,3} a0 v1/0{1,2,3}{2} y- r[] o[] x{} b0" ∷
    "reply 2:2 done" ∷
    "= 24" ∷
    "3 RegPrim c1 g6 w3 p1@1{1,2,3} a0 v1/0{1,2,3}{3} y- r[] o[] x{} b0" ∷
    "reply 3:2 done" ∷
    "= 25" ∷
    "relaxed 1 1 65" ∷
    "= 26" ∷
    "made 1:3 join 5" ∷
    "1 RegPrim c1 g6 w3 p1@1{1,2,3} a0 v1/0{1,2,3}{1} y- r[] o[1:3] x{} b0" ∷
    "= 28" ∷
    "order 7 1:3" ∷
    "1 RegPrim c1 g7 w3 p1@1{1,2,3} a0 v1/0{1,2,3}{1} y- r[] o[] x{} b0" ∷
    "reply 1:3 done" ∷
    "= 29" ∷
    "2 RegPrim c1 g7 w3 p1@1{1,2,3} a0 v1/0{1,2,3}{2} y- r[] o[] x{} b0" ∷
    "= 30" ∷
    "3 RegPrim c1 g7 w3 p1@1{1,2,3} a0 v1/0{1,2,3}{3} y- r[] o[] x{} b0" ∷
    "= 31" ∷
    "5 NonPrim - g7 w3 p1@1{1,2,3} a0 v- y- r[] o[] x{} b0" ∷
    "pieces 5 7/7" ∷
    "= 32" ∷
    "relaxed 5 1 65" ∷
    "= 33" ∷
    "joined 5 2 1 65" ∷
    "= 34" ∷
    "2 Down" ∷
    "= 35" ∷
    "2 NonPrim - g7 w3 p1@1{1,2,3} a0 v1/0{1,2,3}{2} y- r[] o[] x{} b0" ∷
    "= 36" ∷
    "relaxed 2 1 65" ∷
    "end 36" ∷
    [])
unfolding cases_compute
relaxed_discarded_are_counted = refl

-- A write with a greater green line wins over a greater index and creator.
relaxed_later_line_wins :
    put_by "relaxed" (
    "start 1 2 3" ∷
    "merge 1 2 3" ∷
    "rounds 2" ∷
    "split 1 2" ∷
    "split 3" ∷
    "merge 1 2" ∷
    "merge 3" ∷
    "rounds 2" ∷
    "request 3 put \"k\" 31" ∷
    "request 3 put \"k\" 32" ∷
    "request 3 put \"k\" 33" ∷
    "request 1 inc \"n\" 1" ∷
    "rounds 1" ∷
    "request 1 put \"k\" 12" ∷
    "rounds 1" ∷
    "relaxed 3 \"k\"" ∷
    "joined 3 1 \"k\"" ∷
    "joined 1 3 \"k\"" ∷
    "end" ∷
    [])
    ≡ written (
    "= 1" ∷
    "1 NonPrim - g0 w0 p0@0{1,2,3} a0 v- y- r[] o[] x{} b0" ∷
    "2 NonPrim - g0 w0 p0@0{1,2,3} a0 v- y- r[] o[] x{} b0" ∷
    "3 NonPrim - g0 w0 p0@0{1,2,3} a0 v- y- r[] o[] x{} b0" ∷
    "= 2" ∷
    "1 ExchangeStates c1 g0 w0 p0@0{1,2,3} a0 v- y- r[] o[] x{} b0" ∷
    "2 ExchangeStates c1 g0 w0 p0@0{1,2,3} a0 v- y- r[] o[] x{} b0" ∷
    "3 ExchangeStates c1 g0 w0 p0@0{1,2,3} a0 v- y- r[] o[] x{} b0" ∷
    "= 4" ∷
    "1 Construct c1 g0 w0 p0@0{1,2,3} a1 v1/0{1,2,3}{1} y- r[] o[] x{} b0" ∷
    "= 5" ∷
    "2 Construct c1 g0 w0 p0@0{1,2,3} a1 v1/0{1,2,3}{2} y- r[] o[] x{} b0" ∷
    "= 6" ∷
    "3 Construct c1 g0 w0 p0@0{1,2,3} a1 v1/0{1,2,3}{3} y- r[] o[] x{} b0" ∷
    "= 8" ∷
    "1 RegPrim c1 g0 w0 p1@1{1,2,3} a0 v1/0{1,2,3}{1} y- r[] o[] x{} b0" ∷
    "= 9" ∷
    "2 RegPrim c1 g0 w0 p1@1{1,2,3} a0 v1/0{1,2,3}{2} y- r[] o[] x{} b0" ∷
    "= 10" ∷
    "3 RegPrim c1 g0 w0 p1@1{1,2,3} a0 v1/0{1,2,3}{3} y- r[] o[] x{} b0" ∷
    "= 11" ∷
    "1 TransPrim t1 g0 w0 p1@1{1,2,3} a0 v1/0{1,2,3}{1} y- r[] o[] x{} b0" ∷
    "2 TransPrim t1 g0 w0 p1@1{1,2,3} a0 v1/0{1,2,3}{2} y- r[] o[] x{} b0" ∷
    "= 12" ∷
    "3 TransPrim t1 g0 w0 p1@1{1,2,3} a0 v1/0{1,2,3}{3} y- r[] o[] x{} b0" ∷
    "= 13" ∷
    "1 ExchangeStates c2 g0 w0 p1@1{1,2,3} a0 v- y![] r[] o[] x{} b0" ∷
    "2 ExchangeStates c2 g0 w0 p1@1{1,2,3} a0 v- y![] r[] o[] x{} b0" ∷
    "= 14" ∷
    "3 ExchangeStates c3 g0 w0 p1@1{1,2,3} a0 v- y![] r[] o[] x{} b0" ∷
    "= 16" ∷
    "1 Construct c2 g0 w0 p1@1{1,2,3} a1 v2/1{1,2}{1} y![] r[] o[] x{} b0" ∷
    "= 17" ∷
    "2 Construct c2 g0 w0 p1@1{1,2,3} a1 v2/1{1,2}{2} y![] r[] o[] x{} b0" ∷
    "= 18" ∷
    "3 NonPrim c3 g0 w0 p1@1{1,2,3} a0 v- y![] r[] o[] x{} b0" ∷
    "= 20" ∷
    "1 RegPrim c2 g0 w0 p2@2{1,2} a0 v2/1{1,2}{1} y- r[] o[] x{} b0" ∷
    "= 21" ∷
    "2 RegPrim c2 g0 w0 p2@2{1,2} a0 v2/1{1,2}{2} y- r[] o[] x{} b0" ∷
    "= 22" ∷
    "made 3:1 put \"k\" 31" ∷
    "3 NonPrim c3 g0 w0 p1@1{1,2,3} a0 v- y![] r[] o[3:1] x{} b0" ∷
    "= 23" ∷
    "made 3:2 put \"k\" 32" ∷
    "3 NonPrim c3 g0 w0 p1@1{1,2,3} a0 v- y![] r[] o[3:1,3:2] x{} b0" ∷
    "= 24" ∷
    "made 3:3 put \"k\" 33" ∷
    "3 NonPrim c3 g0 w0 p1@1{1,2,3} a0 v- y![] r[] o[3:1,3:2,3:3] x{} b0" ∷
    "= 25" ∷
    "made 1:1 inc \"n\" 1" ∷
    "1 RegPrim c2 g0 w0 p2@2{1,2} a0 v2/1{1,2}{1} y- r[] o[1:1] x{} b0" ∷
    "= 27" ∷
    "order 1 1:1" ∷
    "1 RegPrim c2 g1 w0 p2@2{1,2} a0 v2/1{1,2}{1} y- r[] o[] x{} b0" ∷
    "reply 1:1 done" ∷
    "= 28" ∷
    "2 RegPrim c2 g1 w0 p2@2{1,2} a0 v2/1{1,2}{2} y- r[] o[] x{} b0" ∷
    "= 29" ∷
    "3 NonPrim c3 g0 w0 p1@1{1,2,3} a0 v- y![] r[3:1,3:2,3:3] o[] x{} b0" ∷
    "= 30" ∷
    "made 1:2 put \"k\" 12" ∷
    "1 RegPrim c2 g1 w0 p2@2{1,2} a0 v2/1{1,2}{1} y- r[] o[1:2] x{} b0" ∷
    "= 32" ∷
    "order 2 1:2" ∷
    "1 RegPrim c2 g2 w0 p2@2{1,2} a0 v2/1{1,2}{1} y- r[] o[] x{} b0" ∷
    "reply 1:2 done" ∷
    "= 33" ∷
    "2 RegPrim c2 g2 w0 p2@2{1,2} a0 v2/1{1,2}{2} y- r[] o[] x{} b0" ∷
    "= 34" ∷
    "relaxed 3 33 0" ∷
    "= 35" ∷
    "joined 3 1 12 0" ∷
    "= 36" ∷
    "joined 1 3 12 0" ∷
    "end 36" ∷
    [])
unfolding cases_compute
relaxed_later_line_wins = refl
