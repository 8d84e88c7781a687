-- Cases of cases/ with their whole reports, which `.ci/theorems` writes down here.
use Rattle.std.specs.Prelude.{◌≡◌, [], ◌∷◌}
use mathlib.Core.Path.{refl}
use Rattle.cg_run_cases.specs.Replaying.{replayed_text, written}
use Rattle.cg_run_cases.specs.Computing.{cases_compute}

-- A stop of a recovery that doesn't reach it strikes no later event.
old_disk_no_stop_is_armed_behind_a_recovery :
    replayed_text (
    "start 1 2 3" ∷
    "merge 1 2 3" ∷
    "rounds 2" ∷
    "request 1 put \"x\" 1" ∷
    "rounds 1" ∷
    "stop 1 0 -" ∷
    "downgrade 1" ∷
    "recover 1 17 -" ∷
    "merge 1" ∷
    "gather" ∷
    "deliver 1 1" ∷
    "request 1 put \"y\" 2" ∷
    "end" ∷
    [])
    ≡ written (
    "= 1" ∷
    "1 NonPrim - g0 w0 p0@0{1,2,3} a0 v- y- r[] o[] x{} b0" ∷
    "2 NonPrim - g0 w0 p0@0{1,2,3} a0 v- y- r[] o[] x{} b0" ∷
    "3 NonPrim - g0 w0 p0@0{1,2,3} a0 v- y- r[] o[] x{} b0" ∷
    "= 2" ∷
    "1 ExchangeStates c1 g0 w0 p0@0{1,2,3} a0 v- y- r[] o[] x{} b0" ∷
    "2 ExchangeStates c1 g0 w0 p0@0{1,2,3} a0 v- y- r[] o[] x{} b0" ∷
    "3 ExchangeStates c1 g0 w0 p0@0{1,2,3} a0 v- y- r[] o[] x{} b0" ∷
    "= 4" ∷
    "1 Construct c1 g0 w0 p0@0{1,2,3} a1 v1/0{1,2,3}{1} y- r[] o[] x{} b0" ∷
    "= 5" ∷
    "2 Construct c1 g0 w0 p0@0{1,2,3} a1 v1/0{1,2,3}{2} y- r[] o[] x{} b0" ∷
    "= 6" ∷
    "3 Construct c1 g0 w0 p0@0{1,2,3} a1 v1/0{1,2,3}{3} y- r[] o[] x{} b0" ∷
    "= 8" ∷
    "1 RegPrim c1 g0 w0 p1@1{1,2,3} a0 v1/0{1,2,3}{1} y- r[] o[] x{} b0" ∷
    "= 9" ∷
    "2 RegPrim c1 g0 w0 p1@1{1,2,3} a0 v1/0{1,2,3}{2} y- r[] o[] x{} b0" ∷
    "= 10" ∷
    "3 RegPrim c1 g0 w0 p1@1{1,2,3} a0 v1/0{1,2,3}{3} y- r[] o[] x{} b0" ∷
    "= 11" ∷
    "made 1:1 put \"x\" 1" ∷
    "1 RegPrim c1 g0 w0 p1@1{1,2,3} a0 v1/0{1,2,3}{1} y- r[] o[1:1] x{} b0" ∷
    "= 13" ∷
    "order 1 1:1" ∷
    "1 RegPrim c1 g1 w0 p1@1{1,2,3} a0 v1/0{1,2,3}{1} y- r[] o[] x{} b0" ∷
    "reply 1:1 done" ∷
    "= 14" ∷
    "2 RegPrim c1 g1 w0 p1@1{1,2,3} a0 v1/0{1,2,3}{2} y- r[] o[] x{} b0" ∷
    "= 15" ∷
    "3 RegPrim c1 g1 w0 p1@1{1,2,3} a0 v1/0{1,2,3}{3} y- r[] o[] x{} b0" ∷
    "= 16" ∷
    "1 Down" ∷
    "= 18" ∷
    "1 NonPrim - g1 w0 p1@1{1,2,3} a0 v1/0{1,2,3}{1} y- r[] o[] x{} b0" ∷
    "= 19" ∷
    "1 ExchangeStates c2 g1 w0 p1@1{1,2,3} a0 v1/0{1,2,3}{1} y- r[] o[] x{} b0" ∷
    "= 21" ∷
    "1 NonPrim c2 g1 w0 p1@1{1,2,3} a0 v1/0{1,2,3}{1} y- r[] o[] x{} b0" ∷
    "= 22" ∷
    "made 1:2 put \"y\" 2" ∷
    "1 NonPrim c2 g1 w0 p1@1{1,2,3} a0 v1/0{1,2,3}{1} y- r[] o[1:2] x{} b0" ∷
    "end 22" ∷
    [])
unfolding cases_compute
old_disk_no_stop_is_armed_behind_a_recovery = refl

-- Once the join was discarded and its server has left, no weight is in the state.
old_disk_of_a_weight_that_is_gone :
    replayed_text (
    "start 1 2 3" ∷
    "merge 1 2 3" ∷
    "rounds 2" ∷
    "join 1 4*2" ∷
    "leave 2 4" ∷
    "rounds 1" ∷
    "request 1 put \"a\" 1" ∷
    "request 2 put \"a\" 2" ∷
    "request 3 put \"a\" 3" ∷
    "rounds 1" ∷
    "request 1 put \"a\" 1" ∷
    "request 2 put \"a\" 2" ∷
    "request 3 put \"a\" 3" ∷
    "rounds 1" ∷
    "stop 1 0 -" ∷
    "downgrade 1" ∷
    "recover 1 12 00" ∷
    "recover 1" ∷
    "show 1" ∷
    "end" ∷
    [])
    ≡ written (
    "= 1" ∷
    "1 NonPrim - g0 w0 p0@0{1,2,3} a0 v- y- r[] o[] x{} b0" ∷
    "2 NonPrim - g0 w0 p0@0{1,2,3} a0 v- y- r[] o[] x{} b0" ∷
    "3 NonPrim - g0 w0 p0@0{1,2,3} a0 v- y- r[] o[] x{} b0" ∷
    "= 2" ∷
    "1 ExchangeStates c1 g0 w0 p0@0{1,2,3} a0 v- y- r[] o[] x{} b0" ∷
    "2 ExchangeStates c1 g0 w0 p0@0{1,2,3} a0 v- y- r[] o[] x{} b0" ∷
    "3 ExchangeStates c1 g0 w0 p0@0{1,2,3} a0 v- y- r[] o[] x{} b0" ∷
    "= 4" ∷
    "1 Construct c1 g0 w0 p0@0{1,2,3} a1 v1/0{1,2,3}{1} y- r[] o[] x{} b0" ∷
    "= 5" ∷
    "2 Construct c1 g0 w0 p0@0{1,2,3} a1 v1/0{1,2,3}{2} y- r[] o[] x{} b0" ∷
    "= 6" ∷
    "3 Construct c1 g0 w0 p0@0{1,2,3} a1 v1/0{1,2,3}{3} y- r[] o[] x{} b0" ∷
    "= 8" ∷
    "1 RegPrim c1 g0 w0 p1@1{1,2,3} a0 v1/0{1,2,3}{1} y- r[] o[] x{} b0" ∷
    "= 9" ∷
    "2 RegPrim c1 g0 w0 p1@1{1,2,3} a0 v1/0{1,2,3}{2} y- r[] o[] x{} b0" ∷
    "= 10" ∷
    "3 RegPrim c1 g0 w0 p1@1{1,2,3} a0 v1/0{1,2,3}{3} y- r[] o[] x{} b0" ∷
    "= 11" ∷
    "made 1:1 join 4*2" ∷
    "1 RegPrim c1 g0 w0 p1@1{1,2,3} a0 v1/0{1,2,3}{1} y- r[] o[1:1] x{} b0" ∷
    "= 12" ∷
    "made 2:1 leave 4" ∷
    "2 RegPrim c1 g0 w0 p1@1{1,2,3} a0 v1/0{1,2,3}{2} y- r[] o[2:1] x{} b0" ∷
    "= 14" ∷
    "order 1 1:1" ∷
    "order 2 2:1" ∷
    "1 RegPrim c1 g2 w0 p1@1{1,2,3} a0 v1/0{1,2,3}{1} y- r[] o[] x{4} b0" ∷
    "reply 1:1 done" ∷
    "= 15" ∷
    "2 RegPrim c1 g2 w0 p1@1{1,2,3} a0 v1/0{1,2,3}{2} y- r[] o[] x{4} b0" ∷
    "reply 2:1 done" ∷
    "= 16" ∷
    "3 RegPrim c1 g2 w0 p1@1{1,2,3} a0 v1/0{1,2,3}{3} y- r[] o[] x{4} b0" ∷
    "= 17" ∷
    "made 1:2 put \"a\" 1" ∷
    "1 RegPrim c1 g2 w0 p1@1{1,2,3} a0 v1/0{1,2,3}{1} y- r[] o[1:2] x{4} b0" ∷
    "= 18" ∷
    "made 2:2 put \"a\" 2" ∷
    "2 RegPrim c1 g2 w0 p1@1{1,2,3} a0 v1/0{1,2,3}{2} y- r[] o[2:2] x{4} b0" ∷
    "= 19" ∷
    "made 3:1 put \"a\" 3" ∷
    "3 RegPrim c1 g2 w0 p1@1{1,2,3} a0 v1/0{1,2,3}{3} y- r[] o[3:1] x{4} b0" ∷
    "= 21" ∷
    "order 3 1:2" ∷
    "order 4 2:2" ∷
    "order 5 3:1" ∷
    "1 RegPrim c1 g5 w2 p1@1{1,2,3} a0 v1/0{1,2,3}{1} y- r[] o[] x{4} b0" ∷
    "reply 1:2 done" ∷
    "= 22" ∷
    "2 RegPrim c1 g5 w2 p1@1{1,2,3} a0 v1/0{1,2,3}{2} y- r[] o[] x{4} b0" ∷
    "reply 2:2 done" ∷
    "= 23" ∷
    "3 RegPrim c1 g5 w2 p1@1{1,2,3} a0 v1/0{1,2,3}{3} y- r[] o[] x{4} b0" ∷
    "reply 3:1 done" ∷
    "= 24" ∷
    "made 1:3 put \"a\" 1" ∷
    "1 RegPrim c1 g5 w2 p1@1{1,2,3} a0 v1/0{1,2,3}{1} y- r[] o[1:3] x{4} b0" ∷
    "= 25" ∷
    "made 2:3 put \"a\" 2" ∷
    "2 RegPrim c1 g5 w2 p1@1{1,2,3} a0 v1/0{1,2,3}{2} y- r[] o[2:3] x{4} b0" ∷
    "= 26" ∷
    "made 3:2 put \"a\" 3" ∷
    "3 RegPrim c1 g5 w2 p1@1{1,2,3} a0 v1/0{1,2,3}{3} y- r[] o[3:2] x{4} b0" ∷
    "= 28" ∷
    "order 6 1:3" ∷
    "order 7 2:3" ∷
    "order 8 3:2" ∷
    "1 RegPrim c1 g8 w5 p1@1{1,2,3} a0 v1/0{1,2,3}{1} y- r[] o[] x{4} b0" ∷
    "reply 1:3 done" ∷
    "= 29" ∷
    "2 RegPrim c1 g8 w5 p1@1{1,2,3} a0 v1/0{1,2,3}{2} y- r[] o[] x{4} b0" ∷
    "reply 2:3 done" ∷
    "= 30" ∷
    "3 RegPrim c1 g8 w5 p1@1{1,2,3} a0 v1/0{1,2,3}{3} y- r[] o[] x{4} b0" ∷
    "reply 3:2 done" ∷
    "= 31" ∷
    "1 Down" ∷
    "= 34" ∷
    "1 NonPrim - g8 w5 p1@1{1,2,3} a0 v1/0{1,2,3}{1} y- r[] o[] x{4} b0" ∷
    "= 35" ∷
    "greens 1 [1:3,2:3,3:2]" ∷
    "db 1 \"a\"=3" ∷
    "end 35" ∷
    [])
unfolding cases_compute
old_disk_of_a_weight_that_is_gone = refl

-- A replica that has not begun has no disk.
old_disk_refused_downgrade_of_an_unknown_replica :
    replayed_text (
    "start 1 2 3" ∷
    "merge 1 2 3" ∷
    "rounds 2" ∷
    "downgrade 4" ∷
    [])
    ≡ written (
    "= 1" ∷
    "1 NonPrim - g0 w0 p0@0{1,2,3} a0 v- y- r[] o[] x{} b0" ∷
    "2 NonPrim - g0 w0 p0@0{1,2,3} a0 v- y- r[] o[] x{} b0" ∷
    "3 NonPrim - g0 w0 p0@0{1,2,3} a0 v- y- r[] o[] x{} b0" ∷
    "= 2" ∷
    "1 ExchangeStates c1 g0 w0 p0@0{1,2,3} a0 v- y- r[] o[] x{} b0" ∷
    "2 ExchangeStates c1 g0 w0 p0@0{1,2,3} a0 v- y- r[] o[] x{} b0" ∷
    "3 ExchangeStates c1 g0 w0 p0@0{1,2,3} a0 v- y- r[] o[] x{} b0" ∷
    "= 4" ∷
    "1 Construct c1 g0 w0 p0@0{1,2,3} a1 v1/0{1,2,3}{1} y- r[] o[] x{} b0" ∷
    "= 5" ∷
    "2 Construct c1 g0 w0 p0@0{1,2,3} a1 v1/0{1,2,3}{2} y- r[] o[] x{} b0" ∷
    "= 6" ∷
    "3 Construct c1 g0 w0 p0@0{1,2,3} a1 v1/0{1,2,3}{3} y- r[] o[] x{} b0" ∷
    "= 8" ∷
    "1 RegPrim c1 g0 w0 p1@1{1,2,3} a0 v1/0{1,2,3}{1} y- r[] o[] x{} b0" ∷
    "= 9" ∷
    "2 RegPrim c1 g0 w0 p1@1{1,2,3} a0 v1/0{1,2,3}{2} y- r[] o[] x{} b0" ∷
    "= 10" ∷
    "3 RegPrim c1 g0 w0 p1@1{1,2,3} a0 v1/0{1,2,3}{3} y- r[] o[] x{} b0" ∷
    "refused 4 11 4" ∷
    [])
unfolding cases_compute
old_disk_refused_downgrade_of_an_unknown_replica = refl

-- A replica that is up keeps its disk, and that is told before a weight.
old_disk_refused_downgrade_of_one_that_is_up :
    replayed_text (
    "start 1*2" ∷
    "downgrade 1" ∷
    [])
    ≡ written (
    "= 1" ∷
    "1 NonPrim - g0 w0 p0@0{1*2} a0 v- y- r[] o[] x{} b0" ∷
    "refused 2 10 1" ∷
    [])
unfolding cases_compute
old_disk_refused_downgrade_of_one_that_is_up = refl

-- A recovery with a stop has the tests of a recovery: it has begun.
old_disk_refused_recovery_with_a_stop_of_an_unknown_replica :
    replayed_text (
    "start 1 2 3" ∷
    "merge 1 2 3" ∷
    "rounds 2" ∷
    "recover 9 1 -" ∷
    [])
    ≡ written (
    "= 1" ∷
    "1 NonPrim - g0 w0 p0@0{1,2,3} a0 v- y- r[] o[] x{} b0" ∷
    "2 NonPrim - g0 w0 p0@0{1,2,3} a0 v- y- r[] o[] x{} b0" ∷
    "3 NonPrim - g0 w0 p0@0{1,2,3} a0 v- y- r[] o[] x{} b0" ∷
    "= 2" ∷
    "1 ExchangeStates c1 g0 w0 p0@0{1,2,3} a0 v- y- r[] o[] x{} b0" ∷
    "2 ExchangeStates c1 g0 w0 p0@0{1,2,3} a0 v- y- r[] o[] x{} b0" ∷
    "3 ExchangeStates c1 g0 w0 p0@0{1,2,3} a0 v- y- r[] o[] x{} b0" ∷
    "= 4" ∷
    "1 Construct c1 g0 w0 p0@0{1,2,3} a1 v1/0{1,2,3}{1} y- r[] o[] x{} b0" ∷
    "= 5" ∷
    "2 Construct c1 g0 w0 p0@0{1,2,3} a1 v1/0{1,2,3}{2} y- r[] o[] x{} b0" ∷
    "= 6" ∷
    "3 Construct c1 g0 w0 p0@0{1,2,3} a1 v1/0{1,2,3}{3} y- r[] o[] x{} b0" ∷
    "= 8" ∷
    "1 RegPrim c1 g0 w0 p1@1{1,2,3} a0 v1/0{1,2,3}{1} y- r[] o[] x{} b0" ∷
    "= 9" ∷
    "2 RegPrim c1 g0 w0 p1@1{1,2,3} a0 v1/0{1,2,3}{2} y- r[] o[] x{} b0" ∷
    "= 10" ∷
    "3 RegPrim c1 g0 w0 p1@1{1,2,3} a0 v1/0{1,2,3}{3} y- r[] o[] x{} b0" ∷
    "refused 4 11 9" ∷
    [])
unfolding cases_compute
old_disk_refused_recovery_with_a_stop_of_an_unknown_replica = refl

-- A recovery with a stop has the tests of a recovery.
old_disk_refused_recovery_with_a_stop_of_one_that_is_up :
    replayed_text (
    "start 1 2 3" ∷
    "merge 1 2 3" ∷
    "rounds 2" ∷
    "recover 3 1 -" ∷
    [])
    ≡ written (
    "= 1" ∷
    "1 NonPrim - g0 w0 p0@0{1,2,3} a0 v- y- r[] o[] x{} b0" ∷
    "2 NonPrim - g0 w0 p0@0{1,2,3} a0 v- y- r[] o[] x{} b0" ∷
    "3 NonPrim - g0 w0 p0@0{1,2,3} a0 v- y- r[] o[] x{} b0" ∷
    "= 2" ∷
    "1 ExchangeStates c1 g0 w0 p0@0{1,2,3} a0 v- y- r[] o[] x{} b0" ∷
    "2 ExchangeStates c1 g0 w0 p0@0{1,2,3} a0 v- y- r[] o[] x{} b0" ∷
    "3 ExchangeStates c1 g0 w0 p0@0{1,2,3} a0 v- y- r[] o[] x{} b0" ∷
    "= 4" ∷
    "1 Construct c1 g0 w0 p0@0{1,2,3} a1 v1/0{1,2,3}{1} y- r[] o[] x{} b0" ∷
    "= 5" ∷
    "2 Construct c1 g0 w0 p0@0{1,2,3} a1 v1/0{1,2,3}{2} y- r[] o[] x{} b0" ∷
    "= 6" ∷
    "3 Construct c1 g0 w0 p0@0{1,2,3} a1 v1/0{1,2,3}{3} y- r[] o[] x{} b0" ∷
    "= 8" ∷
    "1 RegPrim c1 g0 w0 p1@1{1,2,3} a0 v1/0{1,2,3}{1} y- r[] o[] x{} b0" ∷
    "= 9" ∷
    "2 RegPrim c1 g0 w0 p1@1{1,2,3} a0 v1/0{1,2,3}{2} y- r[] o[] x{} b0" ∷
    "= 10" ∷
    "3 RegPrim c1 g0 w0 p1@1{1,2,3} a0 v1/0{1,2,3}{3} y- r[] o[] x{} b0" ∷
    "refused 4 10 3" ∷
    [])
unfolding cases_compute
old_disk_refused_recovery_with_a_stop_of_one_that_is_up = refl

-- A join that changed nothing has its weight all the same while it is kept.
old_disk_refused_weight_in_a_join_without_effect :
    replayed_text (
    "start 1 2 3" ∷
    "merge 1 2 3" ∷
    "rounds 2" ∷
    "join 1 4*2" ∷
    "leave 2 4" ∷
    "rounds 1" ∷
    "stop 1 0 -" ∷
    "downgrade 1" ∷
    [])
    ≡ written (
    "= 1" ∷
    "1 NonPrim - g0 w0 p0@0{1,2,3} a0 v- y- r[] o[] x{} b0" ∷
    "2 NonPrim - g0 w0 p0@0{1,2,3} a0 v- y- r[] o[] x{} b0" ∷
    "3 NonPrim - g0 w0 p0@0{1,2,3} a0 v- y- r[] o[] x{} b0" ∷
    "= 2" ∷
    "1 ExchangeStates c1 g0 w0 p0@0{1,2,3} a0 v- y- r[] o[] x{} b0" ∷
    "2 ExchangeStates c1 g0 w0 p0@0{1,2,3} a0 v- y- r[] o[] x{} b0" ∷
    "3 ExchangeStates c1 g0 w0 p0@0{1,2,3} a0 v- y- r[] o[] x{} b0" ∷
    "= 4" ∷
    "1 Construct c1 g0 w0 p0@0{1,2,3} a1 v1/0{1,2,3}{1} y- r[] o[] x{} b0" ∷
    "= 5" ∷
    "2 Construct c1 g0 w0 p0@0{1,2,3} a1 v1/0{1,2,3}{2} y- r[] o[] x{} b0" ∷
    "= 6" ∷
    "3 Construct c1 g0 w0 p0@0{1,2,3} a1 v1/0{1,2,3}{3} y- r[] o[] x{} b0" ∷
    "= 8" ∷
    "1 RegPrim c1 g0 w0 p1@1{1,2,3} a0 v1/0{1,2,3}{1} y- r[] o[] x{} b0" ∷
    "= 9" ∷
    "2 RegPrim c1 g0 w0 p1@1{1,2,3} a0 v1/0{1,2,3}{2} y- r[] o[] x{} b0" ∷
    "= 10" ∷
    "3 RegPrim c1 g0 w0 p1@1{1,2,3} a0 v1/0{1,2,3}{3} y- r[] o[] x{} b0" ∷
    "= 11" ∷
    "made 1:1 join 4*2" ∷
    "1 RegPrim c1 g0 w0 p1@1{1,2,3} a0 v1/0{1,2,3}{1} y- r[] o[1:1] x{} b0" ∷
    "= 12" ∷
    "made 2:1 leave 4" ∷
    "2 RegPrim c1 g0 w0 p1@1{1,2,3} a0 v1/0{1,2,3}{2} y- r[] o[2:1] x{} b0" ∷
    "= 14" ∷
    "order 1 1:1" ∷
    "order 2 2:1" ∷
    "1 RegPrim c1 g2 w0 p1@1{1,2,3} a0 v1/0{1,2,3}{1} y- r[] o[] x{4} b0" ∷
    "reply 1:1 done" ∷
    "= 15" ∷
    "2 RegPrim c1 g2 w0 p1@1{1,2,3} a0 v1/0{1,2,3}{2} y- r[] o[] x{4} b0" ∷
    "reply 2:1 done" ∷
    "= 16" ∷
    "3 RegPrim c1 g2 w0 p1@1{1,2,3} a0 v1/0{1,2,3}{3} y- r[] o[] x{4} b0" ∷
    "= 17" ∷
    "1 Down" ∷
    "refused 8 17 1" ∷
    [])
unfolding cases_compute
old_disk_refused_weight_in_a_join_without_effect = refl

-- A weight in a red join has no bytes in the older format.
old_disk_refused_weight_in_a_red_join :
    replayed_text (
    "start 1 2 3" ∷
    "merge 1 2 3" ∷
    "rounds 2" ∷
    "split 1 2" ∷
    "split 3" ∷
    "merge 1 2" ∷
    "merge 3" ∷
    "rounds 2" ∷
    "join 3 4*2" ∷
    "split 3" ∷
    "merge 3" ∷
    "rounds 2" ∷
    "stop 3 0 -" ∷
    "downgrade 3" ∷
    [])
    ≡ written (
    "= 1" ∷
    "1 NonPrim - g0 w0 p0@0{1,2,3} a0 v- y- r[] o[] x{} b0" ∷
    "2 NonPrim - g0 w0 p0@0{1,2,3} a0 v- y- r[] o[] x{} b0" ∷
    "3 NonPrim - g0 w0 p0@0{1,2,3} a0 v- y- r[] o[] x{} b0" ∷
    "= 2" ∷
    "1 ExchangeStates c1 g0 w0 p0@0{1,2,3} a0 v- y- r[] o[] x{} b0" ∷
    "2 ExchangeStates c1 g0 w0 p0@0{1,2,3} a0 v- y- r[] o[] x{} b0" ∷
    "3 ExchangeStates c1 g0 w0 p0@0{1,2,3} a0 v- y- r[] o[] x{} b0" ∷
    "= 4" ∷
    "1 Construct c1 g0 w0 p0@0{1,2,3} a1 v1/0{1,2,3}{1} y- r[] o[] x{} b0" ∷
    "= 5" ∷
    "2 Construct c1 g0 w0 p0@0{1,2,3} a1 v1/0{1,2,3}{2} y- r[] o[] x{} b0" ∷
    "= 6" ∷
    "3 Construct c1 g0 w0 p0@0{1,2,3} a1 v1/0{1,2,3}{3} y- r[] o[] x{} b0" ∷
    "= 8" ∷
    "1 RegPrim c1 g0 w0 p1@1{1,2,3} a0 v1/0{1,2,3}{1} y- r[] o[] x{} b0" ∷
    "= 9" ∷
    "2 RegPrim c1 g0 w0 p1@1{1,2,3} a0 v1/0{1,2,3}{2} y- r[] o[] x{} b0" ∷
    "= 10" ∷
    "3 RegPrim c1 g0 w0 p1@1{1,2,3} a0 v1/0{1,2,3}{3} y- r[] o[] x{} b0" ∷
    "= 11" ∷
    "1 TransPrim t1 g0 w0 p1@1{1,2,3} a0 v1/0{1,2,3}{1} y- r[] o[] x{} b0" ∷
    "2 TransPrim t1 g0 w0 p1@1{1,2,3} a0 v1/0{1,2,3}{2} y- r[] o[] x{} b0" ∷
    "= 12" ∷
    "3 TransPrim t1 g0 w0 p1@1{1,2,3} a0 v1/0{1,2,3}{3} y- r[] o[] x{} b0" ∷
    "= 13" ∷
    "1 ExchangeStates c2 g0 w0 p1@1{1,2,3} a0 v- y![] r[] o[] x{} b0" ∷
    "2 ExchangeStates c2 g0 w0 p1@1{1,2,3} a0 v- y![] r[] o[] x{} b0" ∷
    "= 14" ∷
    "3 ExchangeStates c3 g0 w0 p1@1{1,2,3} a0 v- y![] r[] o[] x{} b0" ∷
    "= 16" ∷
    "1 Construct c2 g0 w0 p1@1{1,2,3} a1 v2/1{1,2}{1} y![] r[] o[] x{} b0" ∷
    "= 17" ∷
    "2 Construct c2 g0 w0 p1@1{1,2,3} a1 v2/1{1,2}{2} y![] r[] o[] x{} b0" ∷
    "= 18" ∷
    "3 NonPrim c3 g0 w0 p1@1{1,2,3} a0 v- y![] r[] o[] x{} b0" ∷
    "= 20" ∷
    "1 RegPrim c2 g0 w0 p2@2{1,2} a0 v2/1{1,2}{1} y- r[] o[] x{} b0" ∷
    "= 21" ∷
    "2 RegPrim c2 g0 w0 p2@2{1,2} a0 v2/1{1,2}{2} y- r[] o[] x{} b0" ∷
    "= 22" ∷
    "made 3:1 join 4*2" ∷
    "3 NonPrim c3 g0 w0 p1@1{1,2,3} a0 v- y![] r[] o[3:1] x{} b0" ∷
    "= 23" ∷
    "3 NonPrim t3 g0 w0 p1@1{1,2,3} a0 v- y![] r[] o[3:1] x{} b0" ∷
    "= 24" ∷
    "3 ExchangeStates c4 g0 w0 p1@1{1,2,3} a0 v- y![] r[3:1] o[] x{} b0" ∷
    "= 26" ∷
    "3 NonPrim c4 g0 w0 p1@1{1,2,3} a0 v- y![] r[3:1] o[] x{} b0" ∷
    "= 28" ∷
    "3 Down" ∷
    "refused 14 17 3" ∷
    [])
unfolding cases_compute
old_disk_refused_weight_in_a_red_join = refl

-- A weight in an own join that was not delivered has no bytes in the older format.
old_disk_refused_weight_in_an_own_join :
    replayed_text (
    "start 1 2 3" ∷
    "merge 1 2 3" ∷
    "rounds 2" ∷
    "join 1 4*255" ∷
    "stop 1 0 -" ∷
    "downgrade 1" ∷
    [])
    ≡ written (
    "= 1" ∷
    "1 NonPrim - g0 w0 p0@0{1,2,3} a0 v- y- r[] o[] x{} b0" ∷
    "2 NonPrim - g0 w0 p0@0{1,2,3} a0 v- y- r[] o[] x{} b0" ∷
    "3 NonPrim - g0 w0 p0@0{1,2,3} a0 v- y- r[] o[] x{} b0" ∷
    "= 2" ∷
    "1 ExchangeStates c1 g0 w0 p0@0{1,2,3} a0 v- y- r[] o[] x{} b0" ∷
    "2 ExchangeStates c1 g0 w0 p0@0{1,2,3} a0 v- y- r[] o[] x{} b0" ∷
    "3 ExchangeStates c1 g0 w0 p0@0{1,2,3} a0 v- y- r[] o[] x{} b0" ∷
    "= 4" ∷
    "1 Construct c1 g0 w0 p0@0{1,2,3} a1 v1/0{1,2,3}{1} y- r[] o[] x{} b0" ∷
    "= 5" ∷
    "2 Construct c1 g0 w0 p0@0{1,2,3} a1 v1/0{1,2,3}{2} y- r[] o[] x{} b0" ∷
    "= 6" ∷
    "3 Construct c1 g0 w0 p0@0{1,2,3} a1 v1/0{1,2,3}{3} y- r[] o[] x{} b0" ∷
    "= 8" ∷
    "1 RegPrim c1 g0 w0 p1@1{1,2,3} a0 v1/0{1,2,3}{1} y- r[] o[] x{} b0" ∷
    "= 9" ∷
    "2 RegPrim c1 g0 w0 p1@1{1,2,3} a0 v1/0{1,2,3}{2} y- r[] o[] x{} b0" ∷
    "= 10" ∷
    "3 RegPrim c1 g0 w0 p1@1{1,2,3} a0 v1/0{1,2,3}{3} y- r[] o[] x{} b0" ∷
    "= 11" ∷
    "made 1:1 join 4*255" ∷
    "1 RegPrim c1 g0 w0 p1@1{1,2,3} a0 v1/0{1,2,3}{1} y- r[] o[1:1] x{} b0" ∷
    "= 12" ∷
    "1 Down" ∷
    "refused 6 17 1" ∷
    [])
unfolding cases_compute
old_disk_refused_weight_in_an_own_join = refl

-- A weight in the last known primary has no bytes in the older format.
old_disk_refused_weight_in_the_primary :
    replayed_text (
    "start 1*2 2" ∷
    "merge 1 2" ∷
    "rounds 2" ∷
    "stop 2 0 -" ∷
    "downgrade 2" ∷
    [])
    ≡ written (
    "= 1" ∷
    "1 NonPrim - g0 w0 p0@0{1*2,2} a0 v- y- r[] o[] x{} b0" ∷
    "2 NonPrim - g0 w0 p0@0{1*2,2} a0 v- y- r[] o[] x{} b0" ∷
    "= 2" ∷
    "1 ExchangeStates c1 g0 w0 p0@0{1*2,2} a0 v- y- r[] o[] x{} b0" ∷
    "2 ExchangeStates c1 g0 w0 p0@0{1*2,2} a0 v- y- r[] o[] x{} b0" ∷
    "= 4" ∷
    "1 Construct c1 g0 w0 p0@0{1*2,2} a1 v1/0{1,2}{1} y- r[] o[] x{} b0" ∷
    "= 5" ∷
    "2 Construct c1 g0 w0 p0@0{1*2,2} a1 v1/0{1,2}{2} y- r[] o[] x{} b0" ∷
    "= 7" ∷
    "1 RegPrim c1 g0 w0 p1@1{1*2,2} a0 v1/0{1,2}{1} y- r[] o[] x{} b0" ∷
    "= 8" ∷
    "2 RegPrim c1 g0 w0 p1@1{1*2,2} a0 v1/0{1,2}{2} y- r[] o[] x{} b0" ∷
    "= 9" ∷
    "2 Down" ∷
    "refused 5 17 2" ∷
    [])
unfolding cases_compute
old_disk_refused_weight_in_the_primary = refl

-- A weight in the server set has no bytes in the older format.
old_disk_refused_weight_of_a_joiner :
    replayed_text (
    "start 1 2 3" ∷
    "merge 1 2 3" ∷
    "rounds 2" ∷
    "join 1 4*9" ∷
    "rounds 1" ∷
    "stop 2 0 -" ∷
    "downgrade 2" ∷
    [])
    ≡ written (
    "= 1" ∷
    "1 NonPrim - g0 w0 p0@0{1,2,3} a0 v- y- r[] o[] x{} b0" ∷
    "2 NonPrim - g0 w0 p0@0{1,2,3} a0 v- y- r[] o[] x{} b0" ∷
    "3 NonPrim - g0 w0 p0@0{1,2,3} a0 v- y- r[] o[] x{} b0" ∷
    "= 2" ∷
    "1 ExchangeStates c1 g0 w0 p0@0{1,2,3} a0 v- y- r[] o[] x{} b0" ∷
    "2 ExchangeStates c1 g0 w0 p0@0{1,2,3} a0 v- y- r[] o[] x{} b0" ∷
    "3 ExchangeStates c1 g0 w0 p0@0{1,2,3} a0 v- y- r[] o[] x{} b0" ∷
    "= 4" ∷
    "1 Construct c1 g0 w0 p0@0{1,2,3} a1 v1/0{1,2,3}{1} y- r[] o[] x{} b0" ∷
    "= 5" ∷
    "2 Construct c1 g0 w0 p0@0{1,2,3} a1 v1/0{1,2,3}{2} y- r[] o[] x{} b0" ∷
    "= 6" ∷
    "3 Construct c1 g0 w0 p0@0{1,2,3} a1 v1/0{1,2,3}{3} y- r[] o[] x{} b0" ∷
    "= 8" ∷
    "1 RegPrim c1 g0 w0 p1@1{1,2,3} a0 v1/0{1,2,3}{1} y- r[] o[] x{} b0" ∷
    "= 9" ∷
    "2 RegPrim c1 g0 w0 p1@1{1,2,3} a0 v1/0{1,2,3}{2} y- r[] o[] x{} b0" ∷
    "= 10" ∷
    "3 RegPrim c1 g0 w0 p1@1{1,2,3} a0 v1/0{1,2,3}{3} y- r[] o[] x{} b0" ∷
    "= 11" ∷
    "made 1:1 join 4*9" ∷
    "1 RegPrim c1 g0 w0 p1@1{1,2,3} a0 v1/0{1,2,3}{1} y- r[] o[1:1] x{} b0" ∷
    "= 13" ∷
    "order 1 1:1" ∷
    "1 RegPrim c1 g1 w0 p1@1{1,2,3} a0 v1/0{1,2,3}{1} y- r[] o[] x{} b0" ∷
    "reply 1:1 done" ∷
    "= 14" ∷
    "2 RegPrim c1 g1 w0 p1@1{1,2,3} a0 v1/0{1,2,3}{2} y- r[] o[] x{} b0" ∷
    "= 15" ∷
    "3 RegPrim c1 g1 w0 p1@1{1,2,3} a0 v1/0{1,2,3}{3} y- r[] o[] x{} b0" ∷
    "= 16" ∷
    "2 Down" ∷
    "refused 7 17 2" ∷
    [])
unfolding cases_compute
old_disk_refused_weight_of_a_joiner = refl

-- A recovery with a stop has a call and bytes; a downgrade has one replica.
old_disk_syntax_downgrade_of_none :
    replayed_text (
    "start 1" ∷
    "merge 1" ∷
    "rounds 2" ∷
    "stop 1 0 -" ∷
    "downgrade" ∷
    "end" ∷
    [])
    ≡ written (
    "= 1" ∷
    "1 NonPrim - g0 w0 p0@0{1} a0 v- y- r[] o[] x{} b0" ∷
    "= 2" ∷
    "1 ExchangeStates c1 g0 w0 p0@0{1} a0 v- y- r[] o[] x{} b0" ∷
    "= 4" ∷
    "1 Construct c1 g0 w0 p0@0{1} a1 v1/0{1}{1} y- r[] o[] x{} b0" ∷
    "= 6" ∷
    "1 RegPrim c1 g0 w0 p1@1{1} a0 v1/0{1}{1} y- r[] o[] x{} b0" ∷
    "= 7" ∷
    "1 Down" ∷
    "syntax 5 3" ∷
    [])
unfolding cases_compute
old_disk_syntax_downgrade_of_none = refl

-- A recovery with a stop has a call and bytes; a downgrade has one replica.
old_disk_syntax_downgrade_of_two :
    replayed_text (
    "start 1" ∷
    "merge 1" ∷
    "rounds 2" ∷
    "stop 1 0 -" ∷
    "downgrade 1 2" ∷
    "end" ∷
    [])
    ≡ written (
    "= 1" ∷
    "1 NonPrim - g0 w0 p0@0{1} a0 v- y- r[] o[] x{} b0" ∷
    "= 2" ∷
    "1 ExchangeStates c1 g0 w0 p0@0{1} a0 v- y- r[] o[] x{} b0" ∷
    "= 4" ∷
    "1 Construct c1 g0 w0 p0@0{1} a1 v1/0{1}{1} y- r[] o[] x{} b0" ∷
    "= 6" ∷
    "1 RegPrim c1 g0 w0 p1@1{1} a0 v1/0{1}{1} y- r[] o[] x{} b0" ∷
    "= 7" ∷
    "1 Down" ∷
    "syntax 5 4" ∷
    [])
unfolding cases_compute
old_disk_syntax_downgrade_of_two = refl

-- A recovery with a stop has a call and bytes; a downgrade has one replica.
old_disk_syntax_downgrade_with_a_weight :
    replayed_text (
    "start 1" ∷
    "merge 1" ∷
    "rounds 2" ∷
    "stop 1 0 -" ∷
    "downgrade 1*2" ∷
    "end" ∷
    [])
    ≡ written (
    "= 1" ∷
    "1 NonPrim - g0 w0 p0@0{1} a0 v- y- r[] o[] x{} b0" ∷
    "= 2" ∷
    "1 ExchangeStates c1 g0 w0 p0@0{1} a0 v- y- r[] o[] x{} b0" ∷
    "= 4" ∷
    "1 Construct c1 g0 w0 p0@0{1} a1 v1/0{1}{1} y- r[] o[] x{} b0" ∷
    "= 6" ∷
    "1 RegPrim c1 g0 w0 p1@1{1} a0 v1/0{1}{1} y- r[] o[] x{} b0" ∷
    "= 7" ∷
    "1 Down" ∷
    "syntax 5 5" ∷
    [])
unfolding cases_compute
old_disk_syntax_downgrade_with_a_weight = refl

-- A recovery with a stop has a call and bytes; a downgrade has one replica.
old_disk_syntax_stop_of_call_zero :
    replayed_text (
    "start 1" ∷
    "merge 1" ∷
    "rounds 2" ∷
    "stop 1 0 -" ∷
    "recover 1 0 -" ∷
    "end" ∷
    [])
    ≡ written (
    "= 1" ∷
    "1 NonPrim - g0 w0 p0@0{1} a0 v- y- r[] o[] x{} b0" ∷
    "= 2" ∷
    "1 ExchangeStates c1 g0 w0 p0@0{1} a0 v- y- r[] o[] x{} b0" ∷
    "= 4" ∷
    "1 Construct c1 g0 w0 p0@0{1} a1 v1/0{1}{1} y- r[] o[] x{} b0" ∷
    "= 6" ∷
    "1 RegPrim c1 g0 w0 p1@1{1} a0 v1/0{1}{1} y- r[] o[] x{} b0" ∷
    "= 7" ∷
    "1 Down" ∷
    "syntax 5 5" ∷
    [])
unfolding cases_compute
old_disk_syntax_stop_of_call_zero = refl

-- A recovery with a stop has a call and bytes; a downgrade has one replica.
old_disk_syntax_stop_of_no_number :
    replayed_text (
    "start 1" ∷
    "merge 1" ∷
    "rounds 2" ∷
    "stop 1 0 -" ∷
    "recover 1 -" ∷
    "end" ∷
    [])
    ≡ written (
    "= 1" ∷
    "1 NonPrim - g0 w0 p0@0{1} a0 v- y- r[] o[] x{} b0" ∷
    "= 2" ∷
    "1 ExchangeStates c1 g0 w0 p0@0{1} a0 v- y- r[] o[] x{} b0" ∷
    "= 4" ∷
    "1 Construct c1 g0 w0 p0@0{1} a1 v1/0{1}{1} y- r[] o[] x{} b0" ∷
    "= 6" ∷
    "1 RegPrim c1 g0 w0 p1@1{1} a0 v1/0{1}{1} y- r[] o[] x{} b0" ∷
    "= 7" ∷
    "1 Down" ∷
    "syntax 5 5" ∷
    [])
unfolding cases_compute
old_disk_syntax_stop_of_no_number = refl

-- A recovery with a stop has a call and bytes; a downgrade has one replica.
old_disk_syntax_stop_with_bad_bytes :
    replayed_text (
    "start 1" ∷
    "merge 1" ∷
    "rounds 2" ∷
    "stop 1 0 -" ∷
    "recover 1 1 0" ∷
    "end" ∷
    [])
    ≡ written (
    "= 1" ∷
    "1 NonPrim - g0 w0 p0@0{1} a0 v- y- r[] o[] x{} b0" ∷
    "= 2" ∷
    "1 ExchangeStates c1 g0 w0 p0@0{1} a0 v- y- r[] o[] x{} b0" ∷
    "= 4" ∷
    "1 Construct c1 g0 w0 p0@0{1} a1 v1/0{1}{1} y- r[] o[] x{} b0" ∷
    "= 6" ∷
    "1 RegPrim c1 g0 w0 p1@1{1} a0 v1/0{1}{1} y- r[] o[] x{} b0" ∷
    "= 7" ∷
    "1 Down" ∷
    "syntax 5 6" ∷
    [])
unfolding cases_compute
old_disk_syntax_stop_with_bad_bytes = refl

-- A recovery with a stop has a call and bytes; a downgrade has one replica.
old_disk_syntax_stop_with_more :
    replayed_text (
    "start 1" ∷
    "merge 1" ∷
    "rounds 2" ∷
    "stop 1 0 -" ∷
    "recover 1 1 - -" ∷
    "end" ∷
    [])
    ≡ written (
    "= 1" ∷
    "1 NonPrim - g0 w0 p0@0{1} a0 v- y- r[] o[] x{} b0" ∷
    "= 2" ∷
    "1 ExchangeStates c1 g0 w0 p0@0{1} a0 v- y- r[] o[] x{} b0" ∷
    "= 4" ∷
    "1 Construct c1 g0 w0 p0@0{1} a1 v1/0{1}{1} y- r[] o[] x{} b0" ∷
    "= 6" ∷
    "1 RegPrim c1 g0 w0 p1@1{1} a0 v1/0{1}{1} y- r[] o[] x{} b0" ∷
    "= 7" ∷
    "1 Down" ∷
    "syntax 5 4" ∷
    [])
unfolding cases_compute
old_disk_syntax_stop_with_more = refl

-- A recovery with a stop has a call and bytes; a downgrade has one replica.
old_disk_syntax_stop_without_its_bytes :
    replayed_text (
    "start 1" ∷
    "merge 1" ∷
    "rounds 2" ∷
    "stop 1 0 -" ∷
    "recover 1 1" ∷
    "end" ∷
    [])
    ≡ written (
    "= 1" ∷
    "1 NonPrim - g0 w0 p0@0{1} a0 v- y- r[] o[] x{} b0" ∷
    "= 2" ∷
    "1 ExchangeStates c1 g0 w0 p0@0{1} a0 v- y- r[] o[] x{} b0" ∷
    "= 4" ∷
    "1 Construct c1 g0 w0 p0@0{1} a1 v1/0{1}{1} y- r[] o[] x{} b0" ∷
    "= 6" ∷
    "1 RegPrim c1 g0 w0 p1@1{1} a0 v1/0{1}{1} y- r[] o[] x{} b0" ∷
    "= 7" ∷
    "1 Down" ∷
    "syntax 5 3" ∷
    [])
unfolding cases_compute
old_disk_syntax_stop_without_its_bytes = refl
