-- Cases of cases/ with their whole reports, which `.ci/theorems` writes down here.
use Rattle.std.specs.Prelude.{◌≡◌, [], ◌∷◌}
use mathlib.Core.Path.{refl}
use Rattle.cg_run_cases.specs.Replaying.{put_by, written}
use Rattle.cg_run_cases.specs.Computing.{cases_compute}

-- A session reads at no replica that has left.
sessions_refused_read_at_a_leaver :
    put_by "sessions" (
    "start 1 2 3" ∷
    "merge 1 2 3" ∷
    "rounds 2" ∷
    "split 1 2" ∷
    "split 3" ∷
    "merge 1 2" ∷
    "merge 3" ∷
    "rounds 2" ∷
    "leave 1 3" ∷
    "rounds 1" ∷
    "split 1 2" ∷
    "split 3" ∷
    "merge 1 2 3" ∷
    "rounds 3" ∷
    "session 1" ∷
    "sweak 1 3 count" ∷
    [])
    ≡ written (
    "= 1" ∷
    "1 NonPrim - g0 w0 p0@0{1,2,3} a0 v- y- r[] o[] x{} b0" ∷
    "2 NonPrim - g0 w0 p0@0{1,2,3} a0 v- y- r[] o[] x{} b0" ∷
    "3 NonPrim - g0 w0 p0@0{1,2,3} a0 v- y- r[] o[] x{} b0" ∷
    "= 2" ∷
    "1 ExchangeStates c1 g0 w0 p0@0{1,2,3} a0 v- y- r[] o[] x{} b0" ∷
    "2 ExchangeStates c1 g0 w0 p0@0{1,2,3} a0 v- y- r[] o[] x{} b0" ∷
    "3 ExchangeStates c1 g0 w0 p0@0{1,2,3} a0 v- y- r[] o[] x{} b0" ∷
    "= 4" ∷
    "1 Construct c1 g0 w0 p0@0{1,2,3} a1 v1/0{1,2,3}{1} y- r[] o[] x{} b0" ∷
    "= 5" ∷
    "2 Construct c1 g0 w0 p0@0{1,2,3} a1 v1/0{1,2,3}{2} y- r[] o[] x{} b0" ∷
    "= 6" ∷
    "3 Construct c1 g0 w0 p0@0{1,2,3} a1 v1/0{1,2,3}{3} y- r[] o[] x{} b0" ∷
    "= 8" ∷
    "1 RegPrim c1 g0 w0 p1@1{1,2,3} a0 v1/0{1,2,3}{1} y- r[] o[] x{} b0" ∷
    "= 9" ∷
    "2 RegPrim c1 g0 w0 p1@1{1,2,3} a0 v1/0{1,2,3}{2} y- r[] o[] x{} b0" ∷
    "= 10" ∷
    "3 RegPrim c1 g0 w0 p1@1{1,2,3} a0 v1/0{1,2,3}{3} y- r[] o[] x{} b0" ∷
    "= 11" ∷
    "1 TransPrim t1 g0 w0 p1@1{1,2,3} a0 v1/0{1,2,3}{1} y- r[] o[] x{} b0" ∷
    "2 TransPrim t1 g0 w0 p1@1{1,2,3} a0 v1/0{1,2,3}{2} y- r[] o[] x{} b0" ∷
    "= 12" ∷
    "3 TransPrim t1 g0 w0 p1@1{1,2,3} a0 v1/0{1,2,3}{3} y- r[] o[] x{} b0" ∷
    "= 13" ∷
    "1 ExchangeStates c2 g0 w0 p1@1{1,2,3} a0 v- y![] r[] o[] x{} b0" ∷
    "2 ExchangeStates c2 g0 w0 p1@1{1,2,3} a0 v- y![] r[] o[] x{} b0" ∷
    "= 14" ∷
    "3 ExchangeStates c3 g0 w0 p1@1{1,2,3} a0 v- y![] r[] o[] x{} b0" ∷
    "= 16" ∷
    "1 Construct c2 g0 w0 p1@1{1,2,3} a1 v2/1{1,2}{1} y![] r[] o[] x{} b0" ∷
    "= 17" ∷
    "2 Construct c2 g0 w0 p1@1{1,2,3} a1 v2/1{1,2}{2} y![] r[] o[] x{} b0" ∷
    "= 18" ∷
    "3 NonPrim c3 g0 w0 p1@1{1,2,3} a0 v- y![] r[] o[] x{} b0" ∷
    "= 20" ∷
    "1 RegPrim c2 g0 w0 p2@2{1,2} a0 v2/1{1,2}{1} y- r[] o[] x{} b0" ∷
    "= 21" ∷
    "2 RegPrim c2 g0 w0 p2@2{1,2} a0 v2/1{1,2}{2} y- r[] o[] x{} b0" ∷
    "= 22" ∷
    "made 1:1 leave 3" ∷
    "1 RegPrim c2 g0 w0 p2@2{1,2} a0 v2/1{1,2}{1} y- r[] o[1:1] x{} b0" ∷
    "= 24" ∷
    "order 1 1:1" ∷
    "1 RegPrim c2 g1 w0 p2@2{1,2} a0 v2/1{1,2}{1} y- r[] o[] x{3} b0" ∷
    "reply 1:1 done" ∷
    "= 25" ∷
    "2 RegPrim c2 g1 w0 p2@2{1,2} a0 v2/1{1,2}{2} y- r[] o[] x{3} b0" ∷
    "= 26" ∷
    "1 TransPrim t2 g1 w0 p2@2{1,2} a0 v2/1{1,2}{1} y- r[] o[] x{3} b0" ∷
    "2 TransPrim t2 g1 w0 p2@2{1,2} a0 v2/1{1,2}{2} y- r[] o[] x{3} b0" ∷
    "= 27" ∷
    "3 NonPrim t3 g0 w0 p1@1{1,2,3} a0 v- y![] r[] o[] x{} b0" ∷
    "= 28" ∷
    "1 ExchangeStates c4 g1 w0 p2@2{1,2} a0 v- y![] r[] o[] x{3} b0" ∷
    "2 ExchangeStates c4 g1 w0 p2@2{1,2} a0 v- y![] r[] o[] x{3} b0" ∷
    "3 ExchangeStates c4 g0 w0 p1@1{1,2,3} a0 v- y![] r[] o[] x{} b0" ∷
    "= 30" ∷
    "1 Construct c4 g1 w0 p2@2{1,2} a1 v4/2{1,2}{1} y![] r[] o[] x{3} b0" ∷
    "= 31" ∷
    "2 Construct c4 g1 w0 p2@2{1,2} a1 v4/2{1,2}{2} y![] r[] o[] x{3} b0" ∷
    "= 32" ∷
    "3 Left c4 g0 w0 p1@1{1,2,3} a0 v- y![] r[] o[] x{} b0" ∷
    "= 34" ∷
    "1 RegPrim c4 g1 w0 p3@4{1,2} a0 v4/2{1,2}{1} y- r[] o[] x{3} b0" ∷
    "= 35" ∷
    "2 RegPrim c4 g1 w0 p3@4{1,2} a0 v4/2{1,2}{2} y- r[] o[] x{3} b0" ∷
    "refused 16 14 3" ∷
    [])
unfolding cases_compute
sessions_refused_read_at_a_leaver = refl

-- A session reads at no replica that has not begun.
sessions_refused_read_at_an_unknown_replica :
    put_by "sessions" (
    "start 1 2 3" ∷
    "merge 1 2 3" ∷
    "rounds 2" ∷
    "session 1" ∷
    "sweak 1 4 count" ∷
    [])
    ≡ written (
    "= 1" ∷
    "1 NonPrim - g0 w0 p0@0{1,2,3} a0 v- y- r[] o[] x{} b0" ∷
    "2 NonPrim - g0 w0 p0@0{1,2,3} a0 v- y- r[] o[] x{} b0" ∷
    "3 NonPrim - g0 w0 p0@0{1,2,3} a0 v- y- r[] o[] x{} b0" ∷
    "= 2" ∷
    "1 ExchangeStates c1 g0 w0 p0@0{1,2,3} a0 v- y- r[] o[] x{} b0" ∷
    "2 ExchangeStates c1 g0 w0 p0@0{1,2,3} a0 v- y- r[] o[] x{} b0" ∷
    "3 ExchangeStates c1 g0 w0 p0@0{1,2,3} a0 v- y- r[] o[] x{} b0" ∷
    "= 4" ∷
    "1 Construct c1 g0 w0 p0@0{1,2,3} a1 v1/0{1,2,3}{1} y- r[] o[] x{} b0" ∷
    "= 5" ∷
    "2 Construct c1 g0 w0 p0@0{1,2,3} a1 v1/0{1,2,3}{2} y- r[] o[] x{} b0" ∷
    "= 6" ∷
    "3 Construct c1 g0 w0 p0@0{1,2,3} a1 v1/0{1,2,3}{3} y- r[] o[] x{} b0" ∷
    "= 8" ∷
    "1 RegPrim c1 g0 w0 p1@1{1,2,3} a0 v1/0{1,2,3}{1} y- r[] o[] x{} b0" ∷
    "= 9" ∷
    "2 RegPrim c1 g0 w0 p1@1{1,2,3} a0 v1/0{1,2,3}{2} y- r[] o[] x{} b0" ∷
    "= 10" ∷
    "3 RegPrim c1 g0 w0 p1@1{1,2,3} a0 v1/0{1,2,3}{3} y- r[] o[] x{} b0" ∷
    "refused 5 11 4" ∷
    [])
unfolding cases_compute
sessions_refused_read_at_an_unknown_replica = refl

-- A session reads at no replica that is down.
sessions_refused_read_at_one_that_is_down :
    put_by "sessions" (
    "start 1 2 3" ∷
    "merge 1 2 3" ∷
    "rounds 2" ∷
    "session 1" ∷
    "stop 2 0 -" ∷
    "sweak 1 2 count" ∷
    [])
    ≡ written (
    "= 1" ∷
    "1 NonPrim - g0 w0 p0@0{1,2,3} a0 v- y- r[] o[] x{} b0" ∷
    "2 NonPrim - g0 w0 p0@0{1,2,3} a0 v- y- r[] o[] x{} b0" ∷
    "3 NonPrim - g0 w0 p0@0{1,2,3} a0 v- y- r[] o[] x{} b0" ∷
    "= 2" ∷
    "1 ExchangeStates c1 g0 w0 p0@0{1,2,3} a0 v- y- r[] o[] x{} b0" ∷
    "2 ExchangeStates c1 g0 w0 p0@0{1,2,3} a0 v- y- r[] o[] x{} b0" ∷
    "3 ExchangeStates c1 g0 w0 p0@0{1,2,3} a0 v- y- r[] o[] x{} b0" ∷
    "= 4" ∷
    "1 Construct c1 g0 w0 p0@0{1,2,3} a1 v1/0{1,2,3}{1} y- r[] o[] x{} b0" ∷
    "= 5" ∷
    "2 Construct c1 g0 w0 p0@0{1,2,3} a1 v1/0{1,2,3}{2} y- r[] o[] x{} b0" ∷
    "= 6" ∷
    "3 Construct c1 g0 w0 p0@0{1,2,3} a1 v1/0{1,2,3}{3} y- r[] o[] x{} b0" ∷
    "= 8" ∷
    "1 RegPrim c1 g0 w0 p1@1{1,2,3} a0 v1/0{1,2,3}{1} y- r[] o[] x{} b0" ∷
    "= 9" ∷
    "2 RegPrim c1 g0 w0 p1@1{1,2,3} a0 v1/0{1,2,3}{2} y- r[] o[] x{} b0" ∷
    "= 10" ∷
    "3 RegPrim c1 g0 w0 p1@1{1,2,3} a0 v1/0{1,2,3}{3} y- r[] o[] x{} b0" ∷
    "= 12" ∷
    "2 Down" ∷
    "refused 6 1 2" ∷
    [])
unfolding cases_compute
sessions_refused_read_at_one_that_is_down = refl

-- A session is opened once.
sessions_refused_session_opened_twice :
    put_by "sessions" (
    "start 1 2 3" ∷
    "merge 1 2 3" ∷
    "rounds 2" ∷
    "session 32" ∷
    "session 32" ∷
    [])
    ≡ written (
    "= 1" ∷
    "1 NonPrim - g0 w0 p0@0{1,2,3} a0 v- y- r[] o[] x{} b0" ∷
    "2 NonPrim - g0 w0 p0@0{1,2,3} a0 v- y- r[] o[] x{} b0" ∷
    "3 NonPrim - g0 w0 p0@0{1,2,3} a0 v- y- r[] o[] x{} b0" ∷
    "= 2" ∷
    "1 ExchangeStates c1 g0 w0 p0@0{1,2,3} a0 v- y- r[] o[] x{} b0" ∷
    "2 ExchangeStates c1 g0 w0 p0@0{1,2,3} a0 v- y- r[] o[] x{} b0" ∷
    "3 ExchangeStates c1 g0 w0 p0@0{1,2,3} a0 v- y- r[] o[] x{} b0" ∷
    "= 4" ∷
    "1 Construct c1 g0 w0 p0@0{1,2,3} a1 v1/0{1,2,3}{1} y- r[] o[] x{} b0" ∷
    "= 5" ∷
    "2 Construct c1 g0 w0 p0@0{1,2,3} a1 v1/0{1,2,3}{2} y- r[] o[] x{} b0" ∷
    "= 6" ∷
    "3 Construct c1 g0 w0 p0@0{1,2,3} a1 v1/0{1,2,3}{3} y- r[] o[] x{} b0" ∷
    "= 8" ∷
    "1 RegPrim c1 g0 w0 p1@1{1,2,3} a0 v1/0{1,2,3}{1} y- r[] o[] x{} b0" ∷
    "= 9" ∷
    "2 RegPrim c1 g0 w0 p1@1{1,2,3} a0 v1/0{1,2,3}{2} y- r[] o[] x{} b0" ∷
    "= 10" ∷
    "3 RegPrim c1 g0 w0 p1@1{1,2,3} a0 v1/0{1,2,3}{3} y- r[] o[] x{} b0" ∷
    "refused 5 24 32" ∷
    [])
unfolding cases_compute
sessions_refused_session_opened_twice = refl

-- A session that was not opened does not read, and that is tested before the replica.
sessions_refused_unknown_session_read :
    put_by "sessions" (
    "start 1 2 3" ∷
    "merge 1 2 3" ∷
    "rounds 2" ∷
    "session 2" ∷
    "sweak 1 9 count" ∷
    [])
    ≡ written (
    "= 1" ∷
    "1 NonPrim - g0 w0 p0@0{1,2,3} a0 v- y- r[] o[] x{} b0" ∷
    "2 NonPrim - g0 w0 p0@0{1,2,3} a0 v- y- r[] o[] x{} b0" ∷
    "3 NonPrim - g0 w0 p0@0{1,2,3} a0 v- y- r[] o[] x{} b0" ∷
    "= 2" ∷
    "1 ExchangeStates c1 g0 w0 p0@0{1,2,3} a0 v- y- r[] o[] x{} b0" ∷
    "2 ExchangeStates c1 g0 w0 p0@0{1,2,3} a0 v- y- r[] o[] x{} b0" ∷
    "3 ExchangeStates c1 g0 w0 p0@0{1,2,3} a0 v- y- r[] o[] x{} b0" ∷
    "= 4" ∷
    "1 Construct c1 g0 w0 p0@0{1,2,3} a1 v1/0{1,2,3}{1} y- r[] o[] x{} b0" ∷
    "= 5" ∷
    "2 Construct c1 g0 w0 p0@0{1,2,3} a1 v1/0{1,2,3}{2} y- r[] o[] x{} b0" ∷
    "= 6" ∷
    "3 Construct c1 g0 w0 p0@0{1,2,3} a1 v1/0{1,2,3}{3} y- r[] o[] x{} b0" ∷
    "= 8" ∷
    "1 RegPrim c1 g0 w0 p1@1{1,2,3} a0 v1/0{1,2,3}{1} y- r[] o[] x{} b0" ∷
    "= 9" ∷
    "2 RegPrim c1 g0 w0 p1@1{1,2,3} a0 v1/0{1,2,3}{2} y- r[] o[] x{} b0" ∷
    "= 10" ∷
    "3 RegPrim c1 g0 w0 p1@1{1,2,3} a0 v1/0{1,2,3}{3} y- r[] o[] x{} b0" ∷
    "refused 5 23 1" ∷
    [])
unfolding cases_compute
sessions_refused_unknown_session_read = refl

-- A session that was not opened does not write, and that is tested before the replica.
sessions_refused_unknown_session_write :
    put_by "sessions" (
    "start 1 2 3" ∷
    "merge 1 2 3" ∷
    "rounds 2" ∷
    "swrite 1 9 put \"x\" 1" ∷
    [])
    ≡ written (
    "= 1" ∷
    "1 NonPrim - g0 w0 p0@0{1,2,3} a0 v- y- r[] o[] x{} b0" ∷
    "2 NonPrim - g0 w0 p0@0{1,2,3} a0 v- y- r[] o[] x{} b0" ∷
    "3 NonPrim - g0 w0 p0@0{1,2,3} a0 v- y- r[] o[] x{} b0" ∷
    "= 2" ∷
    "1 ExchangeStates c1 g0 w0 p0@0{1,2,3} a0 v- y- r[] o[] x{} b0" ∷
    "2 ExchangeStates c1 g0 w0 p0@0{1,2,3} a0 v- y- r[] o[] x{} b0" ∷
    "3 ExchangeStates c1 g0 w0 p0@0{1,2,3} a0 v- y- r[] o[] x{} b0" ∷
    "= 4" ∷
    "1 Construct c1 g0 w0 p0@0{1,2,3} a1 v1/0{1,2,3}{1} y- r[] o[] x{} b0" ∷
    "= 5" ∷
    "2 Construct c1 g0 w0 p0@0{1,2,3} a1 v1/0{1,2,3}{2} y- r[] o[] x{} b0" ∷
    "= 6" ∷
    "3 Construct c1 g0 w0 p0@0{1,2,3} a1 v1/0{1,2,3}{3} y- r[] o[] x{} b0" ∷
    "= 8" ∷
    "1 RegPrim c1 g0 w0 p1@1{1,2,3} a0 v1/0{1,2,3}{1} y- r[] o[] x{} b0" ∷
    "= 9" ∷
    "2 RegPrim c1 g0 w0 p1@1{1,2,3} a0 v1/0{1,2,3}{2} y- r[] o[] x{} b0" ∷
    "= 10" ∷
    "3 RegPrim c1 g0 w0 p1@1{1,2,3} a0 v1/0{1,2,3}{3} y- r[] o[] x{} b0" ∷
    "refused 4 23 1" ∷
    [])
unfolding cases_compute
sessions_refused_unknown_session_write = refl

-- That a replica has left is told before that it does not create.
sessions_refused_write_at_a_leaver :
    put_by "sessions" (
    "start 1 2 3" ∷
    "merge 1 2 3" ∷
    "rounds 2" ∷
    "split 1 2" ∷
    "split 3" ∷
    "merge 1 2" ∷
    "merge 3" ∷
    "rounds 2" ∷
    "leave 1 3" ∷
    "rounds 1" ∷
    "split 1 2" ∷
    "split 3" ∷
    "merge 1 2 3" ∷
    "rounds 3" ∷
    "session 1" ∷
    "swrite 1 3 put \"x\" 1" ∷
    [])
    ≡ written (
    "= 1" ∷
    "1 NonPrim - g0 w0 p0@0{1,2,3} a0 v- y- r[] o[] x{} b0" ∷
    "2 NonPrim - g0 w0 p0@0{1,2,3} a0 v- y- r[] o[] x{} b0" ∷
    "3 NonPrim - g0 w0 p0@0{1,2,3} a0 v- y- r[] o[] x{} b0" ∷
    "= 2" ∷
    "1 ExchangeStates c1 g0 w0 p0@0{1,2,3} a0 v- y- r[] o[] x{} b0" ∷
    "2 ExchangeStates c1 g0 w0 p0@0{1,2,3} a0 v- y- r[] o[] x{} b0" ∷
    "3 ExchangeStates c1 g0 w0 p0@0{1,2,3} a0 v- y- r[] o[] x{} b0" ∷
    "= 4" ∷
    "1 Construct c1 g0 w0 p0@0{1,2,3} a1 v1/0{1,2,3}{1} y- r[] o[] x{} b0" ∷
    "= 5" ∷
    "2 Construct c1 g0 w0 p0@0{1,2,3} a1 v1/0{1,2,3}{2} y- r[] o[] x{} b0" ∷
    "= 6" ∷
    "3 Construct c1 g0 w0 p0@0{1,2,3} a1 v1/0{1,2,3}{3} y- r[] o[] x{} b0" ∷
    "= 8" ∷
    "1 RegPrim c1 g0 w0 p1@1{1,2,3} a0 v1/0{1,2,3}{1} y- r[] o[] x{} b0" ∷
    "= 9" ∷
    "2 RegPrim c1 g0 w0 p1@1{1,2,3} a0 v1/0{1,2,3}{2} y- r[] o[] x{} b0" ∷
    "= 10" ∷
    "3 RegPrim c1 g0 w0 p1@1{1,2,3} a0 v1/0{1,2,3}{3} y- r[] o[] x{} b0" ∷
    "= 11" ∷
    "1 TransPrim t1 g0 w0 p1@1{1,2,3} a0 v1/0{1,2,3}{1} y- r[] o[] x{} b0" ∷
    "2 TransPrim t1 g0 w0 p1@1{1,2,3} a0 v1/0{1,2,3}{2} y- r[] o[] x{} b0" ∷
    "= 12" ∷
    "3 TransPrim t1 g0 w0 p1@1{1,2,3} a0 v1/0{1,2,3}{3} y- r[] o[] x{} b0" ∷
    "= 13" ∷
    "1 ExchangeStates c2 g0 w0 p1@1{1,2,3} a0 v- y![] r[] o[] x{} b0" ∷
    "2 ExchangeStates c2 g0 w0 p1@1{1,2,3} a0 v- y![] r[] o[] x{} b0" ∷
    "= 14" ∷
    "3 ExchangeStates c3 g0 w0 p1@1{1,2,3} a0 v- y![] r[] o[] x{} b0" ∷
    "= 16" ∷
    "1 Construct c2 g0 w0 p1@1{1,2,3} a1 v2/1{1,2}{1} y![] r[] o[] x{} b0" ∷
    "= 17" ∷
    "2 Construct c2 g0 w0 p1@1{1,2,3} a1 v2/1{1,2}{2} y![] r[] o[] x{} b0" ∷
    "= 18" ∷
    "3 NonPrim c3 g0 w0 p1@1{1,2,3} a0 v- y![] r[] o[] x{} b0" ∷
    "= 20" ∷
    "1 RegPrim c2 g0 w0 p2@2{1,2} a0 v2/1{1,2}{1} y- r[] o[] x{} b0" ∷
    "= 21" ∷
    "2 RegPrim c2 g0 w0 p2@2{1,2} a0 v2/1{1,2}{2} y- r[] o[] x{} b0" ∷
    "= 22" ∷
    "made 1:1 leave 3" ∷
    "1 RegPrim c2 g0 w0 p2@2{1,2} a0 v2/1{1,2}{1} y- r[] o[1:1] x{} b0" ∷
    "= 24" ∷
    "order 1 1:1" ∷
    "1 RegPrim c2 g1 w0 p2@2{1,2} a0 v2/1{1,2}{1} y- r[] o[] x{3} b0" ∷
    "reply 1:1 done" ∷
    "= 25" ∷
    "2 RegPrim c2 g1 w0 p2@2{1,2} a0 v2/1{1,2}{2} y- r[] o[] x{3} b0" ∷
    "= 26" ∷
    "1 TransPrim t2 g1 w0 p2@2{1,2} a0 v2/1{1,2}{1} y- r[] o[] x{3} b0" ∷
    "2 TransPrim t2 g1 w0 p2@2{1,2} a0 v2/1{1,2}{2} y- r[] o[] x{3} b0" ∷
    "= 27" ∷
    "3 NonPrim t3 g0 w0 p1@1{1,2,3} a0 v- y![] r[] o[] x{} b0" ∷
    "= 28" ∷
    "1 ExchangeStates c4 g1 w0 p2@2{1,2} a0 v- y![] r[] o[] x{3} b0" ∷
    "2 ExchangeStates c4 g1 w0 p2@2{1,2} a0 v- y![] r[] o[] x{3} b0" ∷
    "3 ExchangeStates c4 g0 w0 p1@1{1,2,3} a0 v- y![] r[] o[] x{} b0" ∷
    "= 30" ∷
    "1 Construct c4 g1 w0 p2@2{1,2} a1 v4/2{1,2}{1} y![] r[] o[] x{3} b0" ∷
    "= 31" ∷
    "2 Construct c4 g1 w0 p2@2{1,2} a1 v4/2{1,2}{2} y![] r[] o[] x{3} b0" ∷
    "= 32" ∷
    "3 Left c4 g0 w0 p1@1{1,2,3} a0 v- y![] r[] o[] x{} b0" ∷
    "= 34" ∷
    "1 RegPrim c4 g1 w0 p3@4{1,2} a0 v4/2{1,2}{1} y- r[] o[] x{3} b0" ∷
    "= 35" ∷
    "2 RegPrim c4 g1 w0 p3@4{1,2} a0 v4/2{1,2}{2} y- r[] o[] x{3} b0" ∷
    "refused 16 14 3" ∷
    [])
unfolding cases_compute
sessions_refused_write_at_a_leaver = refl

-- A session writes at no replica that has not begun.
sessions_refused_write_at_an_unknown_replica :
    put_by "sessions" (
    "start 1 2 3" ∷
    "merge 1 2 3" ∷
    "rounds 2" ∷
    "session 1" ∷
    "swrite 1 4 put \"x\" 1" ∷
    [])
    ≡ written (
    "= 1" ∷
    "1 NonPrim - g0 w0 p0@0{1,2,3} a0 v- y- r[] o[] x{} b0" ∷
    "2 NonPrim - g0 w0 p0@0{1,2,3} a0 v- y- r[] o[] x{} b0" ∷
    "3 NonPrim - g0 w0 p0@0{1,2,3} a0 v- y- r[] o[] x{} b0" ∷
    "= 2" ∷
    "1 ExchangeStates c1 g0 w0 p0@0{1,2,3} a0 v- y- r[] o[] x{} b0" ∷
    "2 ExchangeStates c1 g0 w0 p0@0{1,2,3} a0 v- y- r[] o[] x{} b0" ∷
    "3 ExchangeStates c1 g0 w0 p0@0{1,2,3} a0 v- y- r[] o[] x{} b0" ∷
    "= 4" ∷
    "1 Construct c1 g0 w0 p0@0{1,2,3} a1 v1/0{1,2,3}{1} y- r[] o[] x{} b0" ∷
    "= 5" ∷
    "2 Construct c1 g0 w0 p0@0{1,2,3} a1 v1/0{1,2,3}{2} y- r[] o[] x{} b0" ∷
    "= 6" ∷
    "3 Construct c1 g0 w0 p0@0{1,2,3} a1 v1/0{1,2,3}{3} y- r[] o[] x{} b0" ∷
    "= 8" ∷
    "1 RegPrim c1 g0 w0 p1@1{1,2,3} a0 v1/0{1,2,3}{1} y- r[] o[] x{} b0" ∷
    "= 9" ∷
    "2 RegPrim c1 g0 w0 p1@1{1,2,3} a0 v1/0{1,2,3}{2} y- r[] o[] x{} b0" ∷
    "= 10" ∷
    "3 RegPrim c1 g0 w0 p1@1{1,2,3} a0 v1/0{1,2,3}{3} y- r[] o[] x{} b0" ∷
    "refused 5 11 4" ∷
    [])
unfolding cases_compute
sessions_refused_write_at_an_unknown_replica = refl

-- A replica outside any configuration does not create.
sessions_refused_write_at_one_alone :
    put_by "sessions" (
    "start 1 2 3" ∷
    "merge 1 2 3" ∷
    "rounds 2" ∷
    "session 1" ∷
    "stop 2 0 -" ∷
    "recover 2" ∷
    "swrite 1 2 put \"x\" 1" ∷
    [])
    ≡ written (
    "= 1" ∷
    "1 NonPrim - g0 w0 p0@0{1,2,3} a0 v- y- r[] o[] x{} b0" ∷
    "2 NonPrim - g0 w0 p0@0{1,2,3} a0 v- y- r[] o[] x{} b0" ∷
    "3 NonPrim - g0 w0 p0@0{1,2,3} a0 v- y- r[] o[] x{} b0" ∷
    "= 2" ∷
    "1 ExchangeStates c1 g0 w0 p0@0{1,2,3} a0 v- y- r[] o[] x{} b0" ∷
    "2 ExchangeStates c1 g0 w0 p0@0{1,2,3} a0 v- y- r[] o[] x{} b0" ∷
    "3 ExchangeStates c1 g0 w0 p0@0{1,2,3} a0 v- y- r[] o[] x{} b0" ∷
    "= 4" ∷
    "1 Construct c1 g0 w0 p0@0{1,2,3} a1 v1/0{1,2,3}{1} y- r[] o[] x{} b0" ∷
    "= 5" ∷
    "2 Construct c1 g0 w0 p0@0{1,2,3} a1 v1/0{1,2,3}{2} y- r[] o[] x{} b0" ∷
    "= 6" ∷
    "3 Construct c1 g0 w0 p0@0{1,2,3} a1 v1/0{1,2,3}{3} y- r[] o[] x{} b0" ∷
    "= 8" ∷
    "1 RegPrim c1 g0 w0 p1@1{1,2,3} a0 v1/0{1,2,3}{1} y- r[] o[] x{} b0" ∷
    "= 9" ∷
    "2 RegPrim c1 g0 w0 p1@1{1,2,3} a0 v1/0{1,2,3}{2} y- r[] o[] x{} b0" ∷
    "= 10" ∷
    "3 RegPrim c1 g0 w0 p1@1{1,2,3} a0 v1/0{1,2,3}{3} y- r[] o[] x{} b0" ∷
    "= 12" ∷
    "2 Down" ∷
    "= 13" ∷
    "2 NonPrim - g0 w0 p1@1{1,2,3} a0 v1/0{1,2,3}{2} y- r[] o[] x{} b0" ∷
    "refused 7 25 2" ∷
    [])
unfolding cases_compute
sessions_refused_write_at_one_alone = refl

-- A session writes at no replica that is down.
sessions_refused_write_at_one_that_is_down :
    put_by "sessions" (
    "start 1 2 3" ∷
    "merge 1 2 3" ∷
    "rounds 2" ∷
    "session 1" ∷
    "stop 2 0 -" ∷
    "swrite 1 2 put \"x\" 1" ∷
    [])
    ≡ written (
    "= 1" ∷
    "1 NonPrim - g0 w0 p0@0{1,2,3} a0 v- y- r[] o[] x{} b0" ∷
    "2 NonPrim - g0 w0 p0@0{1,2,3} a0 v- y- r[] o[] x{} b0" ∷
    "3 NonPrim - g0 w0 p0@0{1,2,3} a0 v- y- r[] o[] x{} b0" ∷
    "= 2" ∷
    "1 ExchangeStates c1 g0 w0 p0@0{1,2,3} a0 v- y- r[] o[] x{} b0" ∷
    "2 ExchangeStates c1 g0 w0 p0@0{1,2,3} a0 v- y- r[] o[] x{} b0" ∷
    "3 ExchangeStates c1 g0 w0 p0@0{1,2,3} a0 v- y- r[] o[] x{} b0" ∷
    "= 4" ∷
    "1 Construct c1 g0 w0 p0@0{1,2,3} a1 v1/0{1,2,3}{1} y- r[] o[] x{} b0" ∷
    "= 5" ∷
    "2 Construct c1 g0 w0 p0@0{1,2,3} a1 v1/0{1,2,3}{2} y- r[] o[] x{} b0" ∷
    "= 6" ∷
    "3 Construct c1 g0 w0 p0@0{1,2,3} a1 v1/0{1,2,3}{3} y- r[] o[] x{} b0" ∷
    "= 8" ∷
    "1 RegPrim c1 g0 w0 p1@1{1,2,3} a0 v1/0{1,2,3}{1} y- r[] o[] x{} b0" ∷
    "= 9" ∷
    "2 RegPrim c1 g0 w0 p1@1{1,2,3} a0 v1/0{1,2,3}{2} y- r[] o[] x{} b0" ∷
    "= 10" ∷
    "3 RegPrim c1 g0 w0 p1@1{1,2,3} a0 v1/0{1,2,3}{3} y- r[] o[] x{} b0" ∷
    "= 12" ∷
    "2 Down" ∷
    "refused 6 1 2" ∷
    [])
unfolding cases_compute
sessions_refused_write_at_one_that_is_down = refl

-- A replica in the transitional phase of a primary does not create.
sessions_refused_write_in_a_broken_primary :
    put_by "sessions" (
    "start 1 2 3" ∷
    "merge 1 2 3" ∷
    "rounds 2" ∷
    "split 1 2" ∷
    "session 1" ∷
    "swrite 1 2 put \"x\" 1" ∷
    [])
    ≡ written (
    "= 1" ∷
    "1 NonPrim - g0 w0 p0@0{1,2,3} a0 v- y- r[] o[] x{} b0" ∷
    "2 NonPrim - g0 w0 p0@0{1,2,3} a0 v- y- r[] o[] x{} b0" ∷
    "3 NonPrim - g0 w0 p0@0{1,2,3} a0 v- y- r[] o[] x{} b0" ∷
    "= 2" ∷
    "1 ExchangeStates c1 g0 w0 p0@0{1,2,3} a0 v- y- r[] o[] x{} b0" ∷
    "2 ExchangeStates c1 g0 w0 p0@0{1,2,3} a0 v- y- r[] o[] x{} b0" ∷
    "3 ExchangeStates c1 g0 w0 p0@0{1,2,3} a0 v- y- r[] o[] x{} b0" ∷
    "= 4" ∷
    "1 Construct c1 g0 w0 p0@0{1,2,3} a1 v1/0{1,2,3}{1} y- r[] o[] x{} b0" ∷
    "= 5" ∷
    "2 Construct c1 g0 w0 p0@0{1,2,3} a1 v1/0{1,2,3}{2} y- r[] o[] x{} b0" ∷
    "= 6" ∷
    "3 Construct c1 g0 w0 p0@0{1,2,3} a1 v1/0{1,2,3}{3} y- r[] o[] x{} b0" ∷
    "= 8" ∷
    "1 RegPrim c1 g0 w0 p1@1{1,2,3} a0 v1/0{1,2,3}{1} y- r[] o[] x{} b0" ∷
    "= 9" ∷
    "2 RegPrim c1 g0 w0 p1@1{1,2,3} a0 v1/0{1,2,3}{2} y- r[] o[] x{} b0" ∷
    "= 10" ∷
    "3 RegPrim c1 g0 w0 p1@1{1,2,3} a0 v1/0{1,2,3}{3} y- r[] o[] x{} b0" ∷
    "= 11" ∷
    "1 TransPrim t1 g0 w0 p1@1{1,2,3} a0 v1/0{1,2,3}{1} y- r[] o[] x{} b0" ∷
    "2 TransPrim t1 g0 w0 p1@1{1,2,3} a0 v1/0{1,2,3}{2} y- r[] o[] x{} b0" ∷
    "refused 6 25 2" ∷
    [])
unfolding cases_compute
sessions_refused_write_in_a_broken_primary = refl

-- A replica without a quorum does not create once its configuration is broken.
sessions_refused_write_in_a_transitional_phase :
    put_by "sessions" (
    "start 1 2 3" ∷
    "merge 3" ∷
    "rounds 1" ∷
    "split 3" ∷
    "session 1" ∷
    "swrite 1 3 put \"x\" 1" ∷
    [])
    ≡ written (
    "= 1" ∷
    "1 NonPrim - g0 w0 p0@0{1,2,3} a0 v- y- r[] o[] x{} b0" ∷
    "2 NonPrim - g0 w0 p0@0{1,2,3} a0 v- y- r[] o[] x{} b0" ∷
    "3 NonPrim - g0 w0 p0@0{1,2,3} a0 v- y- r[] o[] x{} b0" ∷
    "= 2" ∷
    "3 ExchangeStates c1 g0 w0 p0@0{1,2,3} a0 v- y- r[] o[] x{} b0" ∷
    "= 4" ∷
    "3 NonPrim c1 g0 w0 p0@0{1,2,3} a0 v- y- r[] o[] x{} b0" ∷
    "= 5" ∷
    "3 NonPrim t1 g0 w0 p0@0{1,2,3} a0 v- y- r[] o[] x{} b0" ∷
    "refused 6 25 3" ∷
    [])
unfolding cases_compute
sessions_refused_write_in_a_transitional_phase = refl

-- A replica in an attempt at a primary does not create.
sessions_refused_write_in_an_attempt :
    put_by "sessions" (
    "start 1 2 3" ∷
    "merge 1 2 3" ∷
    "rounds 1" ∷
    "session 1" ∷
    "swrite 1 2 put \"x\" 1" ∷
    [])
    ≡ written (
    "= 1" ∷
    "1 NonPrim - g0 w0 p0@0{1,2,3} a0 v- y- r[] o[] x{} b0" ∷
    "2 NonPrim - g0 w0 p0@0{1,2,3} a0 v- y- r[] o[] x{} b0" ∷
    "3 NonPrim - g0 w0 p0@0{1,2,3} a0 v- y- r[] o[] x{} b0" ∷
    "= 2" ∷
    "1 ExchangeStates c1 g0 w0 p0@0{1,2,3} a0 v- y- r[] o[] x{} b0" ∷
    "2 ExchangeStates c1 g0 w0 p0@0{1,2,3} a0 v- y- r[] o[] x{} b0" ∷
    "3 ExchangeStates c1 g0 w0 p0@0{1,2,3} a0 v- y- r[] o[] x{} b0" ∷
    "= 4" ∷
    "1 Construct c1 g0 w0 p0@0{1,2,3} a1 v1/0{1,2,3}{1} y- r[] o[] x{} b0" ∷
    "= 5" ∷
    "2 Construct c1 g0 w0 p0@0{1,2,3} a1 v1/0{1,2,3}{2} y- r[] o[] x{} b0" ∷
    "= 6" ∷
    "3 Construct c1 g0 w0 p0@0{1,2,3} a1 v1/0{1,2,3}{3} y- r[] o[] x{} b0" ∷
    "refused 5 25 2" ∷
    [])
unfolding cases_compute
sessions_refused_write_in_an_attempt = refl

-- A replica that exchanges states does not create.
sessions_refused_write_in_an_exchange :
    put_by "sessions" (
    "start 1 2" ∷
    "merge 1 2" ∷
    "session 1" ∷
    "swrite 1 2 put \"x\" 1" ∷
    [])
    ≡ written (
    "= 1" ∷
    "1 NonPrim - g0 w0 p0@0{1,2} a0 v- y- r[] o[] x{} b0" ∷
    "2 NonPrim - g0 w0 p0@0{1,2} a0 v- y- r[] o[] x{} b0" ∷
    "= 2" ∷
    "1 ExchangeStates c1 g0 w0 p0@0{1,2} a0 v- y- r[] o[] x{} b0" ∷
    "2 ExchangeStates c1 g0 w0 p0@0{1,2} a0 v- y- r[] o[] x{} b0" ∷
    "refused 4 25 2" ∷
    [])
unfolding cases_compute
sessions_refused_write_in_an_exchange = refl

-- One split gives the replies of two replicas in the order of the places, and the tokens go with them.
sessions_replies_of_a_split :
    put_by "sessions" (
    "start 1 2 3" ∷
    "merge 1 2 3" ∷
    "rounds 2" ∷
    "session 1" ∷
    "session 2" ∷
    "swrite 2 3 put \"a\" 3" ∷
    "swrite 1 2 put \"a\" 2" ∷
    "swrite 1 3 put \"b\" 3" ∷
    "gather" ∷
    "deliver 1 3" ∷
    "split 1 2 3" ∷
    "sweak 2 1 get \"a\"" ∷
    "end" ∷
    [])
    ≡ written (
    "= 1" ∷
    "1 NonPrim - g0 w0 p0@0{1,2,3} a0 v- y- r[] o[] x{} b0" ∷
    "2 NonPrim - g0 w0 p0@0{1,2,3} a0 v- y- r[] o[] x{} b0" ∷
    "3 NonPrim - g0 w0 p0@0{1,2,3} a0 v- y- r[] o[] x{} b0" ∷
    "= 2" ∷
    "1 ExchangeStates c1 g0 w0 p0@0{1,2,3} a0 v- y- r[] o[] x{} b0" ∷
    "2 ExchangeStates c1 g0 w0 p0@0{1,2,3} a0 v- y- r[] o[] x{} b0" ∷
    "3 ExchangeStates c1 g0 w0 p0@0{1,2,3} a0 v- y- r[] o[] x{} b0" ∷
    "= 4" ∷
    "1 Construct c1 g0 w0 p0@0{1,2,3} a1 v1/0{1,2,3}{1} y- r[] o[] x{} b0" ∷
    "= 5" ∷
    "2 Construct c1 g0 w0 p0@0{1,2,3} a1 v1/0{1,2,3}{2} y- r[] o[] x{} b0" ∷
    "= 6" ∷
    "3 Construct c1 g0 w0 p0@0{1,2,3} a1 v1/0{1,2,3}{3} y- r[] o[] x{} b0" ∷
    "= 8" ∷
    "1 RegPrim c1 g0 w0 p1@1{1,2,3} a0 v1/0{1,2,3}{1} y- r[] o[] x{} b0" ∷
    "= 9" ∷
    "2 RegPrim c1 g0 w0 p1@1{1,2,3} a0 v1/0{1,2,3}{2} y- r[] o[] x{} b0" ∷
    "= 10" ∷
    "3 RegPrim c1 g0 w0 p1@1{1,2,3} a0 v1/0{1,2,3}{3} y- r[] o[] x{} b0" ∷
    "= 13" ∷
    "made 3:1 put \"a\" 3" ∷
    "3 RegPrim c1 g0 w0 p1@1{1,2,3} a0 v1/0{1,2,3}{3} y- r[] o[3:1] x{} b0" ∷
    "session 2 wrote 3:1" ∷
    "= 14" ∷
    "made 2:1 put \"a\" 2" ∷
    "2 RegPrim c1 g0 w0 p1@1{1,2,3} a0 v1/0{1,2,3}{2} y- r[] o[2:1] x{} b0" ∷
    "session 1 wrote 2:1" ∷
    "= 15" ∷
    "made 3:2 put \"b\" 3" ∷
    "3 RegPrim c1 g0 w0 p1@1{1,2,3} a0 v1/0{1,2,3}{3} y- r[] o[3:1,3:2] x{} b0" ∷
    "session 1 wrote 3:2" ∷
    "= 17" ∷
    "order 1 2:1" ∷
    "order 2 3:1" ∷
    "order 3 3:2" ∷
    "1 RegPrim c1 g3 w0 p1@1{1,2,3} a0 v1/0{1,2,3}{1} y- r[] o[] x{} b0" ∷
    "= 18" ∷
    "1 TransPrim t1 g3 w0 p1@1{1,2,3} a0 v1/0{1,2,3}{1} y- r[] o[] x{} b0" ∷
    "2 TransPrim t1 g3 w0 p1@1{1,2,3} a0 v1/0{1,2,3}{2} y- r[] o[] x{} b0" ∷
    "3 TransPrim t1 g3 w0 p1@1{1,2,3} a0 v1/0{1,2,3}{3} y- r[] o[] x{} b0" ∷
    "reply 2:1 done" ∷
    "reply 3:1 done" ∷
    "reply 3:2 done" ∷
    "session 1 at 1" ∷
    "session 2 at 2" ∷
    "session 1 at 3" ∷
    "= 19" ∷
    "sweak 2 3 at 3" ∷
    "end 19" ∷
    [])
unfolding cases_compute
sessions_replies_of_a_split = refl

-- The replies come in another order than the writes; a place below the token raises nothing.
sessions_replies_out_of_order :
    put_by "sessions" (
    "start 1 2 3" ∷
    "merge 1 2 3" ∷
    "rounds 2" ∷
    "session 1" ∷
    "swrite 1 3 put \"x\" 3" ∷
    "swrite 1 1 put \"x\" 1" ∷
    "swrite 1 2 put \"x\" 2" ∷
    "order 2" ∷
    "order 1" ∷
    "order 3" ∷
    "gather" ∷
    "deliver 3 3" ∷
    "deliver 2 3" ∷
    "deliver 1 3" ∷
    "sweak 1 1 get \"x\"" ∷
    "end" ∷
    [])
    ≡ written (
    "= 1" ∷
    "1 NonPrim - g0 w0 p0@0{1,2,3} a0 v- y- r[] o[] x{} b0" ∷
    "2 NonPrim - g0 w0 p0@0{1,2,3} a0 v- y- r[] o[] x{} b0" ∷
    "3 NonPrim - g0 w0 p0@0{1,2,3} a0 v- y- r[] o[] x{} b0" ∷
    "= 2" ∷
    "1 ExchangeStates c1 g0 w0 p0@0{1,2,3} a0 v- y- r[] o[] x{} b0" ∷
    "2 ExchangeStates c1 g0 w0 p0@0{1,2,3} a0 v- y- r[] o[] x{} b0" ∷
    "3 ExchangeStates c1 g0 w0 p0@0{1,2,3} a0 v- y- r[] o[] x{} b0" ∷
    "= 4" ∷
    "1 Construct c1 g0 w0 p0@0{1,2,3} a1 v1/0{1,2,3}{1} y- r[] o[] x{} b0" ∷
    "= 5" ∷
    "2 Construct c1 g0 w0 p0@0{1,2,3} a1 v1/0{1,2,3}{2} y- r[] o[] x{} b0" ∷
    "= 6" ∷
    "3 Construct c1 g0 w0 p0@0{1,2,3} a1 v1/0{1,2,3}{3} y- r[] o[] x{} b0" ∷
    "= 8" ∷
    "1 RegPrim c1 g0 w0 p1@1{1,2,3} a0 v1/0{1,2,3}{1} y- r[] o[] x{} b0" ∷
    "= 9" ∷
    "2 RegPrim c1 g0 w0 p1@1{1,2,3} a0 v1/0{1,2,3}{2} y- r[] o[] x{} b0" ∷
    "= 10" ∷
    "3 RegPrim c1 g0 w0 p1@1{1,2,3} a0 v1/0{1,2,3}{3} y- r[] o[] x{} b0" ∷
    "= 12" ∷
    "made 3:1 put \"x\" 3" ∷
    "3 RegPrim c1 g0 w0 p1@1{1,2,3} a0 v1/0{1,2,3}{3} y- r[] o[3:1] x{} b0" ∷
    "session 1 wrote 3:1" ∷
    "= 13" ∷
    "made 1:1 put \"x\" 1" ∷
    "1 RegPrim c1 g0 w0 p1@1{1,2,3} a0 v1/0{1,2,3}{1} y- r[] o[1:1] x{} b0" ∷
    "session 1 wrote 1:1" ∷
    "= 14" ∷
    "made 2:1 put \"x\" 2" ∷
    "2 RegPrim c1 g0 w0 p1@1{1,2,3} a0 v1/0{1,2,3}{2} y- r[] o[2:1] x{} b0" ∷
    "session 1 wrote 2:1" ∷
    "= 19" ∷
    "order 1 2:1" ∷
    "order 2 1:1" ∷
    "order 3 3:1" ∷
    "3 RegPrim c1 g3 w0 p1@1{1,2,3} a0 v1/0{1,2,3}{3} y- r[] o[] x{} b0" ∷
    "reply 3:1 done" ∷
    "session 1 at 3" ∷
    "= 20" ∷
    "2 RegPrim c1 g3 w0 p1@1{1,2,3} a0 v1/0{1,2,3}{2} y- r[] o[] x{} b0" ∷
    "reply 2:1 done" ∷
    "= 21" ∷
    "1 RegPrim c1 g3 w0 p1@1{1,2,3} a0 v1/0{1,2,3}{1} y- r[] o[] x{} b0" ∷
    "reply 1:1 done" ∷
    "= 22" ∷
    "sweak 1 3 at 3" ∷
    "end 22" ∷
    [])
unfolding cases_compute
sessions_replies_out_of_order = refl
