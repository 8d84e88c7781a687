-- Cases of cases/ with their whole reports, which `.ci/theorems` writes down here.
use Rattle.std.specs.Prelude.{◌≡◌, [], ◌∷◌}
use mathlib.Core.Path.{refl}
use Rattle.cg_run_cases.specs.Replaying.{put_by, written}
use Rattle.cg_run_cases.specs.Computing.{cases_compute}

-- A write has an update.
sessions_syntax_write_without_its_update :
    put_by "sessions" (
    "start 1" ∷
    "merge 1" ∷
    "rounds 2" ∷
    "swrite 1 1" ∷
    [])
    ≡ written (
    "= 1" ∷
    "1 NonPrim - g0 w0 p0@0{1} a0 v- y- r[] o[] x{} b0" ∷
    "= 2" ∷
    "1 ExchangeStates c1 g0 w0 p0@0{1} a0 v- y- r[] o[] x{} b0" ∷
    "= 4" ∷
    "1 Construct c1 g0 w0 p0@0{1} a1 v1/0{1}{1} y- r[] o[] x{} b0" ∷
    "= 6" ∷
    "1 RegPrim c1 g0 w0 p1@1{1} a0 v1/0{1}{1} y- r[] o[] x{} b0" ∷
    "syntax 4 3" ∷
    [])
unfolding cases_compute
sessions_syntax_write_without_its_update = refl

-- A replica alone in its configuration and without a quorum takes writes, and a primary made later answers them.
sessions_write_before_a_quorum :
    put_by "sessions" (
    "start 1 2 3" ∷
    "merge 3" ∷
    "rounds 1" ∷
    "session 8" ∷
    "swrite 8 3 put \"x\" 1" ∷
    "rounds 1" ∷
    "sweak 8 3 get \"x\"" ∷
    "split 3" ∷
    "merge 1 2 3" ∷
    "rounds 3" ∷
    "sweak 8 1 get \"x\"" ∷
    "sweak 8 3 get \"x\"" ∷
    "end" ∷
    [])
    ≡ written (
    "= 1" ∷
    "1 NonPrim - g0 w0 p0@0{1,2,3} a0 v- y- r[] o[] x{} b0" ∷
    "2 NonPrim - g0 w0 p0@0{1,2,3} a0 v- y- r[] o[] x{} b0" ∷
    "3 NonPrim - g0 w0 p0@0{1,2,3} a0 v- y- r[] o[] x{} b0" ∷
    "= 2" ∷
    "3 ExchangeStates c1 g0 w0 p0@0{1,2,3} a0 v- y- r[] o[] x{} b0" ∷
    "= 4" ∷
    "3 NonPrim c1 g0 w0 p0@0{1,2,3} a0 v- y- r[] o[] x{} b0" ∷
    "= 6" ∷
    "made 3:1 put \"x\" 1" ∷
    "3 NonPrim c1 g0 w0 p0@0{1,2,3} a0 v- y- r[] o[3:1] x{} b0" ∷
    "session 8 wrote 3:1" ∷
    "= 8" ∷
    "3 NonPrim c1 g0 w0 p0@0{1,2,3} a0 v- y- r[3:1] o[] x{} b0" ∷
    "= 9" ∷
    "sweak 8 absent at 0" ∷
    "= 10" ∷
    "3 NonPrim t1 g0 w0 p0@0{1,2,3} a0 v- y- r[3:1] o[] x{} b0" ∷
    "= 11" ∷
    "1 ExchangeStates c2 g0 w0 p0@0{1,2,3} a0 v- y- r[] o[] x{} b0" ∷
    "2 ExchangeStates c2 g0 w0 p0@0{1,2,3} a0 v- y- r[] o[] x{} b0" ∷
    "3 ExchangeStates c2 g0 w0 p0@0{1,2,3} a0 v- y- r[3:1] o[] x{} b0" ∷
    "= 13" ∷
    "1 ExchangeActions c2 g0 w0 p0@0{1,2,3} a0 v- y- r[] o[] x{} b0" ∷
    "= 14" ∷
    "2 ExchangeActions c2 g0 w0 p0@0{1,2,3} a0 v- y- r[] o[] x{} b0" ∷
    "= 15" ∷
    "3 ExchangeActions c2 g0 w0 p0@0{1,2,3} a0 v- y- r[3:1] o[] x{} b0" ∷
    "= 17" ∷
    "1 Construct c2 g0 w0 p0@0{1,2,3} a1 v2/0{1,2,3}{1} y- r[3:1] o[] x{} b0" ∷
    "= 18" ∷
    "2 Construct c2 g0 w0 p0@0{1,2,3} a1 v2/0{1,2,3}{2} y- r[3:1] o[] x{} b0" ∷
    "= 19" ∷
    "3 Construct c2 g0 w0 p0@0{1,2,3} a1 v2/0{1,2,3}{3} y- r[3:1] o[] x{} b0" ∷
    "= 21" ∷
    "order 1 3:1" ∷
    "1 RegPrim c2 g1 w0 p1@2{1,2,3} a0 v2/0{1,2,3}{1} y- r[] o[] x{} b0" ∷
    "= 22" ∷
    "2 RegPrim c2 g1 w0 p1@2{1,2,3} a0 v2/0{1,2,3}{2} y- r[] o[] x{} b0" ∷
    "= 23" ∷
    "3 RegPrim c2 g1 w0 p1@2{1,2,3} a0 v2/0{1,2,3}{3} y- r[] o[] x{} b0" ∷
    "reply 3:1 done" ∷
    "session 8 at 1" ∷
    "= 24" ∷
    "sweak 8 1 at 1" ∷
    "= 25" ∷
    "sweak 8 1 at 1" ∷
    "end 25" ∷
    [])
unfolding cases_compute
sessions_write_before_a_quorum = refl

-- A write in a component without a quorum stays red; its reply raises the token after the merge.
sessions_write_in_a_minority :
    put_by "sessions" (
    "start 1 2 3" ∷
    "merge 1 2 3" ∷
    "rounds 2" ∷
    "split 1 2" ∷
    "split 3" ∷
    "merge 1 2" ∷
    "merge 3" ∷
    "rounds 2" ∷
    "session 1" ∷
    "swrite 1 3 put \"x\" 3" ∷
    "swrite 1 1 put \"x\" 1" ∷
    "rounds 1" ∷
    "sweak 1 3 get \"x\"" ∷
    "sweak 1 2 get \"x\"" ∷
    "split 1 2" ∷
    "split 3" ∷
    "merge 1 2 3" ∷
    "rounds 4" ∷
    "sweak 1 3 get \"x\"" ∷
    "end" ∷
    [])
    ≡ written (
    "= 1" ∷
    "1 NonPrim - g0 w0 p0@0{1,2,3} a0 v- y- r[] o[] x{} b0" ∷
    "2 NonPrim - g0 w0 p0@0{1,2,3} a0 v- y- r[] o[] x{} b0" ∷
    "3 NonPrim - g0 w0 p0@0{1,2,3} a0 v- y- r[] o[] x{} b0" ∷
    "= 2" ∷
    "1 ExchangeStates c1 g0 w0 p0@0{1,2,3} a0 v- y- r[] o[] x{} b0" ∷
    "2 ExchangeStates c1 g0 w0 p0@0{1,2,3} a0 v- y- r[] o[] x{} b0" ∷
    "3 ExchangeStates c1 g0 w0 p0@0{1,2,3} a0 v- y- r[] o[] x{} b0" ∷
    "= 4" ∷
    "1 Construct c1 g0 w0 p0@0{1,2,3} a1 v1/0{1,2,3}{1} y- r[] o[] x{} b0" ∷
    "= 5" ∷
    "2 Construct c1 g0 w0 p0@0{1,2,3} a1 v1/0{1,2,3}{2} y- r[] o[] x{} b0" ∷
    "= 6" ∷
    "3 Construct c1 g0 w0 p0@0{1,2,3} a1 v1/0{1,2,3}{3} y- r[] o[] x{} b0" ∷
    "= 8" ∷
    "1 RegPrim c1 g0 w0 p1@1{1,2,3} a0 v1/0{1,2,3}{1} y- r[] o[] x{} b0" ∷
    "= 9" ∷
    "2 RegPrim c1 g0 w0 p1@1{1,2,3} a0 v1/0{1,2,3}{2} y- r[] o[] x{} b0" ∷
    "= 10" ∷
    "3 RegPrim c1 g0 w0 p1@1{1,2,3} a0 v1/0{1,2,3}{3} y- r[] o[] x{} b0" ∷
    "= 11" ∷
    "1 TransPrim t1 g0 w0 p1@1{1,2,3} a0 v1/0{1,2,3}{1} y- r[] o[] x{} b0" ∷
    "2 TransPrim t1 g0 w0 p1@1{1,2,3} a0 v1/0{1,2,3}{2} y- r[] o[] x{} b0" ∷
    "= 12" ∷
    "3 TransPrim t1 g0 w0 p1@1{1,2,3} a0 v1/0{1,2,3}{3} y- r[] o[] x{} b0" ∷
    "= 13" ∷
    "1 ExchangeStates c2 g0 w0 p1@1{1,2,3} a0 v- y![] r[] o[] x{} b0" ∷
    "2 ExchangeStates c2 g0 w0 p1@1{1,2,3} a0 v- y![] r[] o[] x{} b0" ∷
    "= 14" ∷
    "3 ExchangeStates c3 g0 w0 p1@1{1,2,3} a0 v- y![] r[] o[] x{} b0" ∷
    "= 16" ∷
    "1 Construct c2 g0 w0 p1@1{1,2,3} a1 v2/1{1,2}{1} y![] r[] o[] x{} b0" ∷
    "= 17" ∷
    "2 Construct c2 g0 w0 p1@1{1,2,3} a1 v2/1{1,2}{2} y![] r[] o[] x{} b0" ∷
    "= 18" ∷
    "3 NonPrim c3 g0 w0 p1@1{1,2,3} a0 v- y![] r[] o[] x{} b0" ∷
    "= 20" ∷
    "1 RegPrim c2 g0 w0 p2@2{1,2} a0 v2/1{1,2}{1} y- r[] o[] x{} b0" ∷
    "= 21" ∷
    "2 RegPrim c2 g0 w0 p2@2{1,2} a0 v2/1{1,2}{2} y- r[] o[] x{} b0" ∷
    "= 23" ∷
    "made 3:1 put \"x\" 3" ∷
    "3 NonPrim c3 g0 w0 p1@1{1,2,3} a0 v- y![] r[] o[3:1] x{} b0" ∷
    "session 1 wrote 3:1" ∷
    "= 24" ∷
    "made 1:1 put \"x\" 1" ∷
    "1 RegPrim c2 g0 w0 p2@2{1,2} a0 v2/1{1,2}{1} y- r[] o[1:1] x{} b0" ∷
    "session 1 wrote 1:1" ∷
    "= 26" ∷
    "order 1 1:1" ∷
    "1 RegPrim c2 g1 w0 p2@2{1,2} a0 v2/1{1,2}{1} y- r[] o[] x{} b0" ∷
    "reply 1:1 done" ∷
    "session 1 at 1" ∷
    "= 27" ∷
    "2 RegPrim c2 g1 w0 p2@2{1,2} a0 v2/1{1,2}{2} y- r[] o[] x{} b0" ∷
    "= 28" ∷
    "3 NonPrim c3 g0 w0 p1@1{1,2,3} a0 v- y![] r[3:1] o[] x{} b0" ∷
    "= 29" ∷
    "sweak 1 behind 0 1" ∷
    "= 30" ∷
    "sweak 1 1 at 1" ∷
    "= 31" ∷
    "1 TransPrim t2 g1 w0 p2@2{1,2} a0 v2/1{1,2}{1} y- r[] o[] x{} b0" ∷
    "2 TransPrim t2 g1 w0 p2@2{1,2} a0 v2/1{1,2}{2} y- r[] o[] x{} b0" ∷
    "= 32" ∷
    "3 NonPrim t3 g0 w0 p1@1{1,2,3} a0 v- y![] r[3:1] o[] x{} b0" ∷
    "= 33" ∷
    "1 ExchangeStates c4 g1 w0 p2@2{1,2} a0 v- y![] r[] o[] x{} b0" ∷
    "2 ExchangeStates c4 g1 w0 p2@2{1,2} a0 v- y![] r[] o[] x{} b0" ∷
    "3 ExchangeStates c4 g0 w0 p1@1{1,2,3} a0 v- y![] r[3:1] o[] x{} b0" ∷
    "= 35" ∷
    "1 ExchangeActions c4 g1 w0 p2@2{1,2} a0 v- y![] r[] o[] x{} b0" ∷
    "= 36" ∷
    "2 ExchangeActions c4 g1 w0 p2@2{1,2} a0 v- y![] r[] o[] x{} b0" ∷
    "= 37" ∷
    "3 ExchangeActions c4 g0 w0 p1@1{1,2,3} a0 v- y![] r[3:1] o[] x{} b0" ∷
    "= 41" ∷
    "3 ExchangeActions c4 g1 w0 p1@1{1,2,3} a0 v- y![] r[3:1] o[] x{} b0" ∷
    "= 43" ∷
    "1 Construct c4 g1 w0 p2@2{1,2} a1 v4/2{1,2,3}{1} y![] r[3:1] o[] x{} b0" ∷
    "= 44" ∷
    "2 Construct c4 g1 w0 p2@2{1,2} a1 v4/2{1,2,3}{2} y![] r[3:1] o[] x{} b0" ∷
    "= 45" ∷
    "3 Construct c4 g1 w0 p2@2{1,2} a1 v4/2{1,2,3}{3} y![] r[3:1] o[] x{} b0" ∷
    "= 47" ∷
    "order 2 3:1" ∷
    "1 RegPrim c4 g2 w0 p3@4{1,2,3} a0 v4/2{1,2,3}{1} y- r[] o[] x{} b0" ∷
    "= 48" ∷
    "2 RegPrim c4 g2 w0 p3@4{1,2,3} a0 v4/2{1,2,3}{2} y- r[] o[] x{} b0" ∷
    "= 49" ∷
    "3 RegPrim c4 g2 w0 p3@4{1,2,3} a0 v4/2{1,2,3}{3} y- r[] o[] x{} b0" ∷
    "reply 3:1 done" ∷
    "session 1 at 2" ∷
    "= 50" ∷
    "sweak 1 3 at 2" ∷
    "end 50" ∷
    [])
unfolding cases_compute
sessions_write_in_a_minority = refl
