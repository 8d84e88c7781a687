-- Cases of cases/ with their whole reports, which `.ci/theorems` writes down here.
use Rattle.std.specs.Prelude.{◌≡◌, [], ◌∷◌}
use mathlib.Core.Path.{refl}
use Rattle.cg_run_cases.specs.Replaying.{replayed_text, written}
use Rattle.cg_run_cases.specs.Computing.{cases_compute}

-- The header of the side that is cleared is torn; the next recovery clears again, or sees that it needs not.
header_torn_inside_call_13_with_00 :
    replayed_text (
    "start 1 2 3" ∷
    "merge 1 2 3" ∷
    "rounds 2" ∷
    "request 1 put \"x\" 1" ∷
    "request 2 put \"y\" 2" ∷
    "rounds 1" ∷
    "split 1" ∷
    "split 2 3" ∷
    "merge 1" ∷
    "merge 2 3" ∷
    "rounds 2" ∷
    "request 1 inc \"x\" 5" ∷
    "rounds 1" ∷
    "request 1 put \"own\" \"o\"" ∷
    "stop 1 0 -" ∷
    "downgrade 1" ∷
    "recover 1 13 00" ∷
    "recover 1 6 -" ∷
    "recover 1 9 00" ∷
    "recover 1" ∷
    "end" ∷
    [])
    ≡ written (
    "= 1" ∷
    "1 NonPrim - g0 w0 p0@0{1,2,3} a0 v- y- r[] o[] x{} b0" ∷
    "2 NonPrim - g0 w0 p0@0{1,2,3} a0 v- y- r[] o[] x{} b0" ∷
    "3 NonPrim - g0 w0 p0@0{1,2,3} a0 v- y- r[] o[] x{} b0" ∷
    "= 2" ∷
    "1 ExchangeStates c1 g0 w0 p0@0{1,2,3} a0 v- y- r[] o[] x{} b0" ∷
    "2 ExchangeStates c1 g0 w0 p0@0{1,2,3} a0 v- y- r[] o[] x{} b0" ∷
    "3 ExchangeStates c1 g0 w0 p0@0{1,2,3} a0 v- y- r[] o[] x{} b0" ∷
    "= 4" ∷
    "1 Construct c1 g0 w0 p0@0{1,2,3} a1 v1/0{1,2,3}{1} y- r[] o[] x{} b0" ∷
    "= 5" ∷
    "2 Construct c1 g0 w0 p0@0{1,2,3} a1 v1/0{1,2,3}{2} y- r[] o[] x{} b0" ∷
    "= 6" ∷
    "3 Construct c1 g0 w0 p0@0{1,2,3} a1 v1/0{1,2,3}{3} y- r[] o[] x{} b0" ∷
    "= 8" ∷
    "1 RegPrim c1 g0 w0 p1@1{1,2,3} a0 v1/0{1,2,3}{1} y- r[] o[] x{} b0" ∷
    "= 9" ∷
    "2 RegPrim c1 g0 w0 p1@1{1,2,3} a0 v1/0{1,2,3}{2} y- r[] o[] x{} b0" ∷
    "= 10" ∷
    "3 RegPrim c1 g0 w0 p1@1{1,2,3} a0 v1/0{1,2,3}{3} y- r[] o[] x{} b0" ∷
    "= 11" ∷
    "made 1:1 put \"x\" 1" ∷
    "1 RegPrim c1 g0 w0 p1@1{1,2,3} a0 v1/0{1,2,3}{1} y- r[] o[1:1] x{} b0" ∷
    "= 12" ∷
    "made 2:1 put \"y\" 2" ∷
    "2 RegPrim c1 g0 w0 p1@1{1,2,3} a0 v1/0{1,2,3}{2} y- r[] o[2:1] x{} b0" ∷
    "= 14" ∷
    "order 1 1:1" ∷
    "order 2 2:1" ∷
    "1 RegPrim c1 g2 w0 p1@1{1,2,3} a0 v1/0{1,2,3}{1} y- r[] o[] x{} b0" ∷
    "reply 1:1 done" ∷
    "= 15" ∷
    "2 RegPrim c1 g2 w0 p1@1{1,2,3} a0 v1/0{1,2,3}{2} y- r[] o[] x{} b0" ∷
    "reply 2:1 done" ∷
    "= 16" ∷
    "3 RegPrim c1 g2 w0 p1@1{1,2,3} a0 v1/0{1,2,3}{3} y- r[] o[] x{} b0" ∷
    "= 17" ∷
    "1 TransPrim t1 g2 w0 p1@1{1,2,3} a0 v1/0{1,2,3}{1} y- r[] o[] x{} b0" ∷
    "= 18" ∷
    "2 TransPrim t1 g2 w0 p1@1{1,2,3} a0 v1/0{1,2,3}{2} y- r[] o[] x{} b0" ∷
    "3 TransPrim t1 g2 w0 p1@1{1,2,3} a0 v1/0{1,2,3}{3} y- r[] o[] x{} b0" ∷
    "= 19" ∷
    "1 ExchangeStates c2 g2 w0 p1@1{1,2,3} a0 v- y![] r[] o[] x{} b0" ∷
    "= 20" ∷
    "2 ExchangeStates c3 g2 w0 p1@1{1,2,3} a0 v- y![] r[] o[] x{} b0" ∷
    "3 ExchangeStates c3 g2 w0 p1@1{1,2,3} a0 v- y![] r[] o[] x{} b0" ∷
    "= 22" ∷
    "1 NonPrim c2 g2 w0 p1@1{1,2,3} a0 v- y![] r[] o[] x{} b0" ∷
    "= 23" ∷
    "2 Construct c3 g2 w0 p1@1{1,2,3} a1 v3/1{2,3}{2} y![] r[] o[] x{} b0" ∷
    "= 24" ∷
    "3 Construct c3 g2 w0 p1@1{1,2,3} a1 v3/1{2,3}{3} y![] r[] o[] x{} b0" ∷
    "= 26" ∷
    "2 RegPrim c3 g2 w0 p2@3{2,3} a0 v3/1{2,3}{2} y- r[] o[] x{} b0" ∷
    "= 27" ∷
    "3 RegPrim c3 g2 w0 p2@3{2,3} a0 v3/1{2,3}{3} y- r[] o[] x{} b0" ∷
    "= 28" ∷
    "made 1:2 inc \"x\" 5" ∷
    "1 NonPrim c2 g2 w0 p1@1{1,2,3} a0 v- y![] r[] o[1:2] x{} b0" ∷
    "= 30" ∷
    "1 NonPrim c2 g2 w0 p1@1{1,2,3} a0 v- y![] r[1:2] o[] x{} b0" ∷
    "= 31" ∷
    "made 1:3 put \"own\" \"o\"" ∷
    "1 NonPrim c2 g2 w0 p1@1{1,2,3} a0 v- y![] r[1:2] o[1:3] x{} b0" ∷
    "= 32" ∷
    "1 Down" ∷
    "= 37" ∷
    "1 NonPrim - g2 w0 p1@1{1,2,3} a0 v- y![] r[1:2,1:3] o[] x{} b0" ∷
    "end 37" ∷
    [])
unfolding cases_compute
header_torn_inside_call_13_with_00 = refl

-- The header of the side that is cleared is torn; the next recovery clears again, or sees that it needs not.
header_torn_inside_call_14_with_01 :
    replayed_text (
    "start 1 2 3" ∷
    "merge 1 2 3" ∷
    "rounds 2" ∷
    "request 1 put \"x\" 1" ∷
    "request 2 put \"y\" 2" ∷
    "rounds 1" ∷
    "split 1" ∷
    "split 2 3" ∷
    "merge 1" ∷
    "merge 2 3" ∷
    "rounds 2" ∷
    "request 1 inc \"x\" 5" ∷
    "rounds 1" ∷
    "request 1 put \"own\" \"o\"" ∷
    "stop 1 0 -" ∷
    "downgrade 1" ∷
    "recover 1 14 01" ∷
    "recover 1 6 -" ∷
    "recover 1 9 00" ∷
    "recover 1" ∷
    "end" ∷
    [])
    ≡ written (
    "= 1" ∷
    "1 NonPrim - g0 w0 p0@0{1,2,3} a0 v- y- r[] o[] x{} b0" ∷
    "2 NonPrim - g0 w0 p0@0{1,2,3} a0 v- y- r[] o[] x{} b0" ∷
    "3 NonPrim - g0 w0 p0@0{1,2,3} a0 v- y- r[] o[] x{} b0" ∷
    "= 2" ∷
    "1 ExchangeStates c1 g0 w0 p0@0{1,2,3} a0 v- y- r[] o[] x{} b0" ∷
    "2 ExchangeStates c1 g0 w0 p0@0{1,2,3} a0 v- y- r[] o[] x{} b0" ∷
    "3 ExchangeStates c1 g0 w0 p0@0{1,2,3} a0 v- y- r[] o[] x{} b0" ∷
    "= 4" ∷
    "1 Construct c1 g0 w0 p0@0{1,2,3} a1 v1/0{1,2,3}{1} y- r[] o[] x{} b0" ∷
    "= 5" ∷
    "2 Construct c1 g0 w0 p0@0{1,2,3} a1 v1/0{1,2,3}{2} y- r[] o[] x{} b0" ∷
    "= 6" ∷
    "3 Construct c1 g0 w0 p0@0{1,2,3} a1 v1/0{1,2,3}{3} y- r[] o[] x{} b0" ∷
    "= 8" ∷
    "1 RegPrim c1 g0 w0 p1@1{1,2,3} a0 v1/0{1,2,3}{1} y- r[] o[] x{} b0" ∷
    "= 9" ∷
    "2 RegPrim c1 g0 w0 p1@1{1,2,3} a0 v1/0{1,2,3}{2} y- r[] o[] x{} b0" ∷
    "= 10" ∷
    "3 RegPrim c1 g0 w0 p1@1{1,2,3} a0 v1/0{1,2,3}{3} y- r[] o[] x{} b0" ∷
    "= 11" ∷
    "made 1:1 put \"x\" 1" ∷
    "1 RegPrim c1 g0 w0 p1@1{1,2,3} a0 v1/0{1,2,3}{1} y- r[] o[1:1] x{} b0" ∷
    "= 12" ∷
    "made 2:1 put \"y\" 2" ∷
    "2 RegPrim c1 g0 w0 p1@1{1,2,3} a0 v1/0{1,2,3}{2} y- r[] o[2:1] x{} b0" ∷
    "= 14" ∷
    "order 1 1:1" ∷
    "order 2 2:1" ∷
    "1 RegPrim c1 g2 w0 p1@1{1,2,3} a0 v1/0{1,2,3}{1} y- r[] o[] x{} b0" ∷
    "reply 1:1 done" ∷
    "= 15" ∷
    "2 RegPrim c1 g2 w0 p1@1{1,2,3} a0 v1/0{1,2,3}{2} y- r[] o[] x{} b0" ∷
    "reply 2:1 done" ∷
    "= 16" ∷
    "3 RegPrim c1 g2 w0 p1@1{1,2,3} a0 v1/0{1,2,3}{3} y- r[] o[] x{} b0" ∷
    "= 17" ∷
    "1 TransPrim t1 g2 w0 p1@1{1,2,3} a0 v1/0{1,2,3}{1} y- r[] o[] x{} b0" ∷
    "= 18" ∷
    "2 TransPrim t1 g2 w0 p1@1{1,2,3} a0 v1/0{1,2,3}{2} y- r[] o[] x{} b0" ∷
    "3 TransPrim t1 g2 w0 p1@1{1,2,3} a0 v1/0{1,2,3}{3} y- r[] o[] x{} b0" ∷
    "= 19" ∷
    "1 ExchangeStates c2 g2 w0 p1@1{1,2,3} a0 v- y![] r[] o[] x{} b0" ∷
    "= 20" ∷
    "2 ExchangeStates c3 g2 w0 p1@1{1,2,3} a0 v- y![] r[] o[] x{} b0" ∷
    "3 ExchangeStates c3 g2 w0 p1@1{1,2,3} a0 v- y![] r[] o[] x{} b0" ∷
    "= 22" ∷
    "1 NonPrim c2 g2 w0 p1@1{1,2,3} a0 v- y![] r[] o[] x{} b0" ∷
    "= 23" ∷
    "2 Construct c3 g2 w0 p1@1{1,2,3} a1 v3/1{2,3}{2} y![] r[] o[] x{} b0" ∷
    "= 24" ∷
    "3 Construct c3 g2 w0 p1@1{1,2,3} a1 v3/1{2,3}{3} y![] r[] o[] x{} b0" ∷
    "= 26" ∷
    "2 RegPrim c3 g2 w0 p2@3{2,3} a0 v3/1{2,3}{2} y- r[] o[] x{} b0" ∷
    "= 27" ∷
    "3 RegPrim c3 g2 w0 p2@3{2,3} a0 v3/1{2,3}{3} y- r[] o[] x{} b0" ∷
    "= 28" ∷
    "made 1:2 inc \"x\" 5" ∷
    "1 NonPrim c2 g2 w0 p1@1{1,2,3} a0 v- y![] r[] o[1:2] x{} b0" ∷
    "= 30" ∷
    "1 NonPrim c2 g2 w0 p1@1{1,2,3} a0 v- y![] r[1:2] o[] x{} b0" ∷
    "= 31" ∷
    "made 1:3 put \"own\" \"o\"" ∷
    "1 NonPrim c2 g2 w0 p1@1{1,2,3} a0 v- y![] r[1:2] o[1:3] x{} b0" ∷
    "= 32" ∷
    "1 Down" ∷
    "= 37" ∷
    "1 NonPrim - g2 w0 p1@1{1,2,3} a0 v- y![] r[1:2,1:3] o[] x{} b0" ∷
    "end 37" ∷
    [])
unfolding cases_compute
header_torn_inside_call_14_with_01 = refl

-- The header of the side that is cleared is torn; the next recovery clears again, or sees that it needs not.
header_torn_inside_call_15_with_43 :
    replayed_text (
    "start 1 2 3" ∷
    "merge 1 2 3" ∷
    "rounds 2" ∷
    "request 1 put \"x\" 1" ∷
    "request 2 put \"y\" 2" ∷
    "rounds 1" ∷
    "split 1" ∷
    "split 2 3" ∷
    "merge 1" ∷
    "merge 2 3" ∷
    "rounds 2" ∷
    "request 1 inc \"x\" 5" ∷
    "rounds 1" ∷
    "request 1 put \"own\" \"o\"" ∷
    "stop 1 0 -" ∷
    "downgrade 1" ∷
    "recover 1 15 43" ∷
    "recover 1 6 -" ∷
    "recover 1 9 00" ∷
    "recover 1" ∷
    "end" ∷
    [])
    ≡ written (
    "= 1" ∷
    "1 NonPrim - g0 w0 p0@0{1,2,3} a0 v- y- r[] o[] x{} b0" ∷
    "2 NonPrim - g0 w0 p0@0{1,2,3} a0 v- y- r[] o[] x{} b0" ∷
    "3 NonPrim - g0 w0 p0@0{1,2,3} a0 v- y- r[] o[] x{} b0" ∷
    "= 2" ∷
    "1 ExchangeStates c1 g0 w0 p0@0{1,2,3} a0 v- y- r[] o[] x{} b0" ∷
    "2 ExchangeStates c1 g0 w0 p0@0{1,2,3} a0 v- y- r[] o[] x{} b0" ∷
    "3 ExchangeStates c1 g0 w0 p0@0{1,2,3} a0 v- y- r[] o[] x{} b0" ∷
    "= 4" ∷
    "1 Construct c1 g0 w0 p0@0{1,2,3} a1 v1/0{1,2,3}{1} y- r[] o[] x{} b0" ∷
    "= 5" ∷
    "2 Construct c1 g0 w0 p0@0{1,2,3} a1 v1/0{1,2,3}{2} y- r[] o[] x{} b0" ∷
    "= 6" ∷
    "3 Construct c1 g0 w0 p0@0{1,2,3} a1 v1/0{1,2,3}{3} y- r[] o[] x{} b0" ∷
    "= 8" ∷
    "1 RegPrim c1 g0 w0 p1@1{1,2,3} a0 v1/0{1,2,3}{1} y- r[] o[] x{} b0" ∷
    "= 9" ∷
    "2 RegPrim c1 g0 w0 p1@1{1,2,3} a0 v1/0{1,2,3}{2} y- r[] o[] x{} b0" ∷
    "= 10" ∷
    "3 RegPrim c1 g0 w0 p1@1{1,2,3} a0 v1/0{1,2,3}{3} y- r[] o[] x{} b0" ∷
    "= 11" ∷
    "made 1:1 put \"x\" 1" ∷
    "1 RegPrim c1 g0 w0 p1@1{1,2,3} a0 v1/0{1,2,3}{1} y- r[] o[1:1] x{} b0" ∷
    "= 12" ∷
    "made 2:1 put \"y\" 2" ∷
    "2 RegPrim c1 g0 w0 p1@1{1,2,3} a0 v1/0{1,2,3}{2} y- r[] o[2:1] x{} b0" ∷
    "= 14" ∷
    "order 1 1:1" ∷
    "order 2 2:1" ∷
    "1 RegPrim c1 g2 w0 p1@1{1,2,3} a0 v1/0{1,2,3}{1} y- r[] o[] x{} b0" ∷
    "reply 1:1 done" ∷
    "= 15" ∷
    "2 RegPrim c1 g2 w0 p1@1{1,2,3} a0 v1/0{1,2,3}{2} y- r[] o[] x{} b0" ∷
    "reply 2:1 done" ∷
    "= 16" ∷
    "3 RegPrim c1 g2 w0 p1@1{1,2,3} a0 v1/0{1,2,3}{3} y- r[] o[] x{} b0" ∷
    "= 17" ∷
    "1 TransPrim t1 g2 w0 p1@1{1,2,3} a0 v1/0{1,2,3}{1} y- r[] o[] x{} b0" ∷
    "= 18" ∷
    "2 TransPrim t1 g2 w0 p1@1{1,2,3} a0 v1/0{1,2,3}{2} y- r[] o[] x{} b0" ∷
    "3 TransPrim t1 g2 w0 p1@1{1,2,3} a0 v1/0{1,2,3}{3} y- r[] o[] x{} b0" ∷
    "= 19" ∷
    "1 ExchangeStates c2 g2 w0 p1@1{1,2,3} a0 v- y![] r[] o[] x{} b0" ∷
    "= 20" ∷
    "2 ExchangeStates c3 g2 w0 p1@1{1,2,3} a0 v- y![] r[] o[] x{} b0" ∷
    "3 ExchangeStates c3 g2 w0 p1@1{1,2,3} a0 v- y![] r[] o[] x{} b0" ∷
    "= 22" ∷
    "1 NonPrim c2 g2 w0 p1@1{1,2,3} a0 v- y![] r[] o[] x{} b0" ∷
    "= 23" ∷
    "2 Construct c3 g2 w0 p1@1{1,2,3} a1 v3/1{2,3}{2} y![] r[] o[] x{} b0" ∷
    "= 24" ∷
    "3 Construct c3 g2 w0 p1@1{1,2,3} a1 v3/1{2,3}{3} y![] r[] o[] x{} b0" ∷
    "= 26" ∷
    "2 RegPrim c3 g2 w0 p2@3{2,3} a0 v3/1{2,3}{2} y- r[] o[] x{} b0" ∷
    "= 27" ∷
    "3 RegPrim c3 g2 w0 p2@3{2,3} a0 v3/1{2,3}{3} y- r[] o[] x{} b0" ∷
    "= 28" ∷
    "made 1:2 inc \"x\" 5" ∷
    "1 NonPrim c2 g2 w0 p1@1{1,2,3} a0 v- y![] r[] o[1:2] x{} b0" ∷
    "= 30" ∷
    "1 NonPrim c2 g2 w0 p1@1{1,2,3} a0 v- y![] r[1:2] o[] x{} b0" ∷
    "= 31" ∷
    "made 1:3 put \"own\" \"o\"" ∷
    "1 NonPrim c2 g2 w0 p1@1{1,2,3} a0 v- y![] r[1:2] o[1:3] x{} b0" ∷
    "= 32" ∷
    "1 Down" ∷
    "= 37" ∷
    "1 NonPrim - g2 w0 p1@1{1,2,3} a0 v- y![] r[1:2,1:3] o[] x{} b0" ∷
    "end 37" ∷
    [])
unfolding cases_compute
header_torn_inside_call_15_with_43 = refl

-- The header of the side that is cleared is torn; the next recovery clears again, or sees that it needs not.
header_torn_inside_call_15_with_43475255495459 :
    replayed_text (
    "start 1 2 3" ∷
    "merge 1 2 3" ∷
    "rounds 2" ∷
    "request 1 put \"x\" 1" ∷
    "request 2 put \"y\" 2" ∷
    "rounds 1" ∷
    "split 1" ∷
    "split 2 3" ∷
    "merge 1" ∷
    "merge 2 3" ∷
    "rounds 2" ∷
    "request 1 inc \"x\" 5" ∷
    "rounds 1" ∷
    "request 1 put \"own\" \"o\"" ∷
    "stop 1 0 -" ∷
    "downgrade 1" ∷
    "recover 1 15 43475255495459" ∷
    "recover 1 6 -" ∷
    "recover 1 9 00" ∷
    "recover 1" ∷
    "end" ∷
    [])
    ≡ written (
    "= 1" ∷
    "1 NonPrim - g0 w0 p0@0{1,2,3} a0 v- y- r[] o[] x{} b0" ∷
    "2 NonPrim - g0 w0 p0@0{1,2,3} a0 v- y- r[] o[] x{} b0" ∷
    "3 NonPrim - g0 w0 p0@0{1,2,3} a0 v- y- r[] o[] x{} b0" ∷
    "= 2" ∷
    "1 ExchangeStates c1 g0 w0 p0@0{1,2,3} a0 v- y- r[] o[] x{} b0" ∷
    "2 ExchangeStates c1 g0 w0 p0@0{1,2,3} a0 v- y- r[] o[] x{} b0" ∷
    "3 ExchangeStates c1 g0 w0 p0@0{1,2,3} a0 v- y- r[] o[] x{} b0" ∷
    "= 4" ∷
    "1 Construct c1 g0 w0 p0@0{1,2,3} a1 v1/0{1,2,3}{1} y- r[] o[] x{} b0" ∷
    "= 5" ∷
    "2 Construct c1 g0 w0 p0@0{1,2,3} a1 v1/0{1,2,3}{2} y- r[] o[] x{} b0" ∷
    "= 6" ∷
    "3 Construct c1 g0 w0 p0@0{1,2,3} a1 v1/0{1,2,3}{3} y- r[] o[] x{} b0" ∷
    "= 8" ∷
    "1 RegPrim c1 g0 w0 p1@1{1,2,3} a0 v1/0{1,2,3}{1} y- r[] o[] x{} b0" ∷
    "= 9" ∷
    "2 RegPrim c1 g0 w0 p1@1{1,2,3} a0 v1/0{1,2,3}{2} y- r[] o[] x{} b0" ∷
    "= 10" ∷
    "3 RegPrim c1 g0 w0 p1@1{1,2,3} a0 v1/0{1,2,3}{3} y- r[] o[] x{} b0" ∷
    "= 11" ∷
    "made 1:1 put \"x\" 1" ∷
    "1 RegPrim c1 g0 w0 p1@1{1,2,3} a0 v1/0{1,2,3}{1} y- r[] o[1:1] x{} b0" ∷
    "= 12" ∷
    "made 2:1 put \"y\" 2" ∷
    "2 RegPrim c1 g0 w0 p1@1{1,2,3} a0 v1/0{1,2,3}{2} y- r[] o[2:1] x{} b0" ∷
    "= 14" ∷
    "order 1 1:1" ∷
    "order 2 2:1" ∷
    "1 RegPrim c1 g2 w0 p1@1{1,2,3} a0 v1/0{1,2,3}{1} y- r[] o[] x{} b0" ∷
    "reply 1:1 done" ∷
    "= 15" ∷
    "2 RegPrim c1 g2 w0 p1@1{1,2,3} a0 v1/0{1,2,3}{2} y- r[] o[] x{} b0" ∷
    "reply 2:1 done" ∷
    "= 16" ∷
    "3 RegPrim c1 g2 w0 p1@1{1,2,3} a0 v1/0{1,2,3}{3} y- r[] o[] x{} b0" ∷
    "= 17" ∷
    "1 TransPrim t1 g2 w0 p1@1{1,2,3} a0 v1/0{1,2,3}{1} y- r[] o[] x{} b0" ∷
    "= 18" ∷
    "2 TransPrim t1 g2 w0 p1@1{1,2,3} a0 v1/0{1,2,3}{2} y- r[] o[] x{} b0" ∷
    "3 TransPrim t1 g2 w0 p1@1{1,2,3} a0 v1/0{1,2,3}{3} y- r[] o[] x{} b0" ∷
    "= 19" ∷
    "1 ExchangeStates c2 g2 w0 p1@1{1,2,3} a0 v- y![] r[] o[] x{} b0" ∷
    "= 20" ∷
    "2 ExchangeStates c3 g2 w0 p1@1{1,2,3} a0 v- y![] r[] o[] x{} b0" ∷
    "3 ExchangeStates c3 g2 w0 p1@1{1,2,3} a0 v- y![] r[] o[] x{} b0" ∷
    "= 22" ∷
    "1 NonPrim c2 g2 w0 p1@1{1,2,3} a0 v- y![] r[] o[] x{} b0" ∷
    "= 23" ∷
    "2 Construct c3 g2 w0 p1@1{1,2,3} a1 v3/1{2,3}{2} y![] r[] o[] x{} b0" ∷
    "= 24" ∷
    "3 Construct c3 g2 w0 p1@1{1,2,3} a1 v3/1{2,3}{3} y![] r[] o[] x{} b0" ∷
    "= 26" ∷
    "2 RegPrim c3 g2 w0 p2@3{2,3} a0 v3/1{2,3}{2} y- r[] o[] x{} b0" ∷
    "= 27" ∷
    "3 RegPrim c3 g2 w0 p2@3{2,3} a0 v3/1{2,3}{3} y- r[] o[] x{} b0" ∷
    "= 28" ∷
    "made 1:2 inc \"x\" 5" ∷
    "1 NonPrim c2 g2 w0 p1@1{1,2,3} a0 v- y![] r[] o[1:2] x{} b0" ∷
    "= 30" ∷
    "1 NonPrim c2 g2 w0 p1@1{1,2,3} a0 v- y![] r[1:2] o[] x{} b0" ∷
    "= 31" ∷
    "made 1:3 put \"own\" \"o\"" ∷
    "1 NonPrim c2 g2 w0 p1@1{1,2,3} a0 v- y![] r[1:2] o[1:3] x{} b0" ∷
    "= 32" ∷
    "1 Down" ∷
    "= 37" ∷
    "1 NonPrim - g2 w0 p1@1{1,2,3} a0 v- y![] r[1:2,1:3] o[] x{} b0" ∷
    "end 37" ∷
    [])
unfolding cases_compute
header_torn_inside_call_15_with_43475255495459 = refl

-- The header of the side that is cleared is torn; the next recovery clears again, or sees that it needs not.
header_torn_inside_call_15_with_4347525549545932 :
    replayed_text (
    "start 1 2 3" ∷
    "merge 1 2 3" ∷
    "rounds 2" ∷
    "request 1 put \"x\" 1" ∷
    "request 2 put \"y\" 2" ∷
    "rounds 1" ∷
    "split 1" ∷
    "split 2 3" ∷
    "merge 1" ∷
    "merge 2 3" ∷
    "rounds 2" ∷
    "request 1 inc \"x\" 5" ∷
    "rounds 1" ∷
    "request 1 put \"own\" \"o\"" ∷
    "stop 1 0 -" ∷
    "downgrade 1" ∷
    "recover 1 15 4347525549545932" ∷
    "recover 1 6 -" ∷
    "split 2 3" ∷
    "end" ∷
    [])
    ≡ written (
    "= 1" ∷
    "1 NonPrim - g0 w0 p0@0{1,2,3} a0 v- y- r[] o[] x{} b0" ∷
    "2 NonPrim - g0 w0 p0@0{1,2,3} a0 v- y- r[] o[] x{} b0" ∷
    "3 NonPrim - g0 w0 p0@0{1,2,3} a0 v- y- r[] o[] x{} b0" ∷
    "= 2" ∷
    "1 ExchangeStates c1 g0 w0 p0@0{1,2,3} a0 v- y- r[] o[] x{} b0" ∷
    "2 ExchangeStates c1 g0 w0 p0@0{1,2,3} a0 v- y- r[] o[] x{} b0" ∷
    "3 ExchangeStates c1 g0 w0 p0@0{1,2,3} a0 v- y- r[] o[] x{} b0" ∷
    "= 4" ∷
    "1 Construct c1 g0 w0 p0@0{1,2,3} a1 v1/0{1,2,3}{1} y- r[] o[] x{} b0" ∷
    "= 5" ∷
    "2 Construct c1 g0 w0 p0@0{1,2,3} a1 v1/0{1,2,3}{2} y- r[] o[] x{} b0" ∷
    "= 6" ∷
    "3 Construct c1 g0 w0 p0@0{1,2,3} a1 v1/0{1,2,3}{3} y- r[] o[] x{} b0" ∷
    "= 8" ∷
    "1 RegPrim c1 g0 w0 p1@1{1,2,3} a0 v1/0{1,2,3}{1} y- r[] o[] x{} b0" ∷
    "= 9" ∷
    "2 RegPrim c1 g0 w0 p1@1{1,2,3} a0 v1/0{1,2,3}{2} y- r[] o[] x{} b0" ∷
    "= 10" ∷
    "3 RegPrim c1 g0 w0 p1@1{1,2,3} a0 v1/0{1,2,3}{3} y- r[] o[] x{} b0" ∷
    "= 11" ∷
    "made 1:1 put \"x\" 1" ∷
    "1 RegPrim c1 g0 w0 p1@1{1,2,3} a0 v1/0{1,2,3}{1} y- r[] o[1:1] x{} b0" ∷
    "= 12" ∷
    "made 2:1 put \"y\" 2" ∷
    "2 RegPrim c1 g0 w0 p1@1{1,2,3} a0 v1/0{1,2,3}{2} y- r[] o[2:1] x{} b0" ∷
    "= 14" ∷
    "order 1 1:1" ∷
    "order 2 2:1" ∷
    "1 RegPrim c1 g2 w0 p1@1{1,2,3} a0 v1/0{1,2,3}{1} y- r[] o[] x{} b0" ∷
    "reply 1:1 done" ∷
    "= 15" ∷
    "2 RegPrim c1 g2 w0 p1@1{1,2,3} a0 v1/0{1,2,3}{2} y- r[] o[] x{} b0" ∷
    "reply 2:1 done" ∷
    "= 16" ∷
    "3 RegPrim c1 g2 w0 p1@1{1,2,3} a0 v1/0{1,2,3}{3} y- r[] o[] x{} b0" ∷
    "= 17" ∷
    "1 TransPrim t1 g2 w0 p1@1{1,2,3} a0 v1/0{1,2,3}{1} y- r[] o[] x{} b0" ∷
    "= 18" ∷
    "2 TransPrim t1 g2 w0 p1@1{1,2,3} a0 v1/0{1,2,3}{2} y- r[] o[] x{} b0" ∷
    "3 TransPrim t1 g2 w0 p1@1{1,2,3} a0 v1/0{1,2,3}{3} y- r[] o[] x{} b0" ∷
    "= 19" ∷
    "1 ExchangeStates c2 g2 w0 p1@1{1,2,3} a0 v- y![] r[] o[] x{} b0" ∷
    "= 20" ∷
    "2 ExchangeStates c3 g2 w0 p1@1{1,2,3} a0 v- y![] r[] o[] x{} b0" ∷
    "3 ExchangeStates c3 g2 w0 p1@1{1,2,3} a0 v- y![] r[] o[] x{} b0" ∷
    "= 22" ∷
    "1 NonPrim c2 g2 w0 p1@1{1,2,3} a0 v- y![] r[] o[] x{} b0" ∷
    "= 23" ∷
    "2 Construct c3 g2 w0 p1@1{1,2,3} a1 v3/1{2,3}{2} y![] r[] o[] x{} b0" ∷
    "= 24" ∷
    "3 Construct c3 g2 w0 p1@1{1,2,3} a1 v3/1{2,3}{3} y![] r[] o[] x{} b0" ∷
    "= 26" ∷
    "2 RegPrim c3 g2 w0 p2@3{2,3} a0 v3/1{2,3}{2} y- r[] o[] x{} b0" ∷
    "= 27" ∷
    "3 RegPrim c3 g2 w0 p2@3{2,3} a0 v3/1{2,3}{3} y- r[] o[] x{} b0" ∷
    "= 28" ∷
    "made 1:2 inc \"x\" 5" ∷
    "1 NonPrim c2 g2 w0 p1@1{1,2,3} a0 v- y![] r[] o[1:2] x{} b0" ∷
    "= 30" ∷
    "1 NonPrim c2 g2 w0 p1@1{1,2,3} a0 v- y![] r[1:2] o[] x{} b0" ∷
    "= 31" ∷
    "made 1:3 put \"own\" \"o\"" ∷
    "1 NonPrim c2 g2 w0 p1@1{1,2,3} a0 v- y![] r[1:2] o[1:3] x{} b0" ∷
    "= 32" ∷
    "1 Down" ∷
    "= 35" ∷
    "1 NonPrim - g2 w0 p1@1{1,2,3} a0 v- y![] r[1:2,1:3] o[] x{} b0" ∷
    "= 36" ∷
    "2 TransPrim t3 g2 w0 p2@3{2,3} a0 v3/1{2,3}{2} y- r[] o[] x{} b0" ∷
    "3 TransPrim t3 g2 w0 p2@3{2,3} a0 v3/1{2,3}{3} y- r[] o[] x{} b0" ∷
    "end 36" ∷
    [])
unfolding cases_compute
header_torn_inside_call_15_with_4347525549545932 = refl

-- The header of the side that is cleared is torn; the next recovery clears again, or sees that it needs not.
header_torn_inside_call_15_with_no_bytes :
    replayed_text (
    "start 1 2 3" ∷
    "merge 1 2 3" ∷
    "rounds 2" ∷
    "request 1 put \"x\" 1" ∷
    "request 2 put \"y\" 2" ∷
    "rounds 1" ∷
    "split 1" ∷
    "split 2 3" ∷
    "merge 1" ∷
    "merge 2 3" ∷
    "rounds 2" ∷
    "request 1 inc \"x\" 5" ∷
    "rounds 1" ∷
    "request 1 put \"own\" \"o\"" ∷
    "stop 1 0 -" ∷
    "downgrade 1" ∷
    "recover 1 15 -" ∷
    "recover 1 6 -" ∷
    "recover 1 9 00" ∷
    "recover 1" ∷
    "end" ∷
    [])
    ≡ written (
    "= 1" ∷
    "1 NonPrim - g0 w0 p0@0{1,2,3} a0 v- y- r[] o[] x{} b0" ∷
    "2 NonPrim - g0 w0 p0@0{1,2,3} a0 v- y- r[] o[] x{} b0" ∷
    "3 NonPrim - g0 w0 p0@0{1,2,3} a0 v- y- r[] o[] x{} b0" ∷
    "= 2" ∷
    "1 ExchangeStates c1 g0 w0 p0@0{1,2,3} a0 v- y- r[] o[] x{} b0" ∷
    "2 ExchangeStates c1 g0 w0 p0@0{1,2,3} a0 v- y- r[] o[] x{} b0" ∷
    "3 ExchangeStates c1 g0 w0 p0@0{1,2,3} a0 v- y- r[] o[] x{} b0" ∷
    "= 4" ∷
    "1 Construct c1 g0 w0 p0@0{1,2,3} a1 v1/0{1,2,3}{1} y- r[] o[] x{} b0" ∷
    "= 5" ∷
    "2 Construct c1 g0 w0 p0@0{1,2,3} a1 v1/0{1,2,3}{2} y- r[] o[] x{} b0" ∷
    "= 6" ∷
    "3 Construct c1 g0 w0 p0@0{1,2,3} a1 v1/0{1,2,3}{3} y- r[] o[] x{} b0" ∷
    "= 8" ∷
    "1 RegPrim c1 g0 w0 p1@1{1,2,3} a0 v1/0{1,2,3}{1} y- r[] o[] x{} b0" ∷
    "= 9" ∷
    "2 RegPrim c1 g0 w0 p1@1{1,2,3} a0 v1/0{1,2,3}{2} y- r[] o[] x{} b0" ∷
    "= 10" ∷
    "3 RegPrim c1 g0 w0 p1@1{1,2,3} a0 v1/0{1,2,3}{3} y- r[] o[] x{} b0" ∷
    "= 11" ∷
    "made 1:1 put \"x\" 1" ∷
    "1 RegPrim c1 g0 w0 p1@1{1,2,3} a0 v1/0{1,2,3}{1} y- r[] o[1:1] x{} b0" ∷
    "= 12" ∷
    "made 2:1 put \"y\" 2" ∷
    "2 RegPrim c1 g0 w0 p1@1{1,2,3} a0 v1/0{1,2,3}{2} y- r[] o[2:1] x{} b0" ∷
    "= 14" ∷
    "order 1 1:1" ∷
    "order 2 2:1" ∷
    "1 RegPrim c1 g2 w0 p1@1{1,2,3} a0 v1/0{1,2,3}{1} y- r[] o[] x{} b0" ∷
    "reply 1:1 done" ∷
    "= 15" ∷
    "2 RegPrim c1 g2 w0 p1@1{1,2,3} a0 v1/0{1,2,3}{2} y- r[] o[] x{} b0" ∷
    "reply 2:1 done" ∷
    "= 16" ∷
    "3 RegPrim c1 g2 w0 p1@1{1,2,3} a0 v1/0{1,2,3}{3} y- r[] o[] x{} b0" ∷
    "= 17" ∷
    "1 TransPrim t1 g2 w0 p1@1{1,2,3} a0 v1/0{1,2,3}{1} y- r[] o[] x{} b0" ∷
    "= 18" ∷
    "2 TransPrim t1 g2 w0 p1@1{1,2,3} a0 v1/0{1,2,3}{2} y- r[] o[] x{} b0" ∷
    "3 TransPrim t1 g2 w0 p1@1{1,2,3} a0 v1/0{1,2,3}{3} y- r[] o[] x{} b0" ∷
    "= 19" ∷
    "1 ExchangeStates c2 g2 w0 p1@1{1,2,3} a0 v- y![] r[] o[] x{} b0" ∷
    "= 20" ∷
    "2 ExchangeStates c3 g2 w0 p1@1{1,2,3} a0 v- y![] r[] o[] x{} b0" ∷
    "3 ExchangeStates c3 g2 w0 p1@1{1,2,3} a0 v- y![] r[] o[] x{} b0" ∷
    "= 22" ∷
    "1 NonPrim c2 g2 w0 p1@1{1,2,3} a0 v- y![] r[] o[] x{} b0" ∷
    "= 23" ∷
    "2 Construct c3 g2 w0 p1@1{1,2,3} a1 v3/1{2,3}{2} y![] r[] o[] x{} b0" ∷
    "= 24" ∷
    "3 Construct c3 g2 w0 p1@1{1,2,3} a1 v3/1{2,3}{3} y![] r[] o[] x{} b0" ∷
    "= 26" ∷
    "2 RegPrim c3 g2 w0 p2@3{2,3} a0 v3/1{2,3}{2} y- r[] o[] x{} b0" ∷
    "= 27" ∷
    "3 RegPrim c3 g2 w0 p2@3{2,3} a0 v3/1{2,3}{3} y- r[] o[] x{} b0" ∷
    "= 28" ∷
    "made 1:2 inc \"x\" 5" ∷
    "1 NonPrim c2 g2 w0 p1@1{1,2,3} a0 v- y![] r[] o[1:2] x{} b0" ∷
    "= 30" ∷
    "1 NonPrim c2 g2 w0 p1@1{1,2,3} a0 v- y![] r[1:2] o[] x{} b0" ∷
    "= 31" ∷
    "made 1:3 put \"own\" \"o\"" ∷
    "1 NonPrim c2 g2 w0 p1@1{1,2,3} a0 v- y![] r[1:2] o[1:3] x{} b0" ∷
    "= 32" ∷
    "1 Down" ∷
    "= 37" ∷
    "1 NonPrim - g2 w0 p1@1{1,2,3} a0 v- y![] r[1:2,1:3] o[] x{} b0" ∷
    "end 37" ∷
    [])
unfolding cases_compute
header_torn_inside_call_15_with_no_bytes = refl

-- The header of the side that is cleared is torn; the next recovery clears again, or sees that it needs not.
header_torn_inside_call_16_with_00 :
    replayed_text (
    "start 1 2 3" ∷
    "merge 1 2 3" ∷
    "rounds 2" ∷
    "request 1 put \"x\" 1" ∷
    "request 2 put \"y\" 2" ∷
    "rounds 1" ∷
    "split 1" ∷
    "split 2 3" ∷
    "merge 1" ∷
    "merge 2 3" ∷
    "rounds 2" ∷
    "request 1 inc \"x\" 5" ∷
    "rounds 1" ∷
    "request 1 put \"own\" \"o\"" ∷
    "stop 1 0 -" ∷
    "downgrade 1" ∷
    "recover 1 16 00" ∷
    "recover 1 6 -" ∷
    "recover 1 9 00" ∷
    "recover 1" ∷
    "end" ∷
    [])
    ≡ written (
    "= 1" ∷
    "1 NonPrim - g0 w0 p0@0{1,2,3} a0 v- y- r[] o[] x{} b0" ∷
    "2 NonPrim - g0 w0 p0@0{1,2,3} a0 v- y- r[] o[] x{} b0" ∷
    "3 NonPrim - g0 w0 p0@0{1,2,3} a0 v- y- r[] o[] x{} b0" ∷
    "= 2" ∷
    "1 ExchangeStates c1 g0 w0 p0@0{1,2,3} a0 v- y- r[] o[] x{} b0" ∷
    "2 ExchangeStates c1 g0 w0 p0@0{1,2,3} a0 v- y- r[] o[] x{} b0" ∷
    "3 ExchangeStates c1 g0 w0 p0@0{1,2,3} a0 v- y- r[] o[] x{} b0" ∷
    "= 4" ∷
    "1 Construct c1 g0 w0 p0@0{1,2,3} a1 v1/0{1,2,3}{1} y- r[] o[] x{} b0" ∷
    "= 5" ∷
    "2 Construct c1 g0 w0 p0@0{1,2,3} a1 v1/0{1,2,3}{2} y- r[] o[] x{} b0" ∷
    "= 6" ∷
    "3 Construct c1 g0 w0 p0@0{1,2,3} a1 v1/0{1,2,3}{3} y- r[] o[] x{} b0" ∷
    "= 8" ∷
    "1 RegPrim c1 g0 w0 p1@1{1,2,3} a0 v1/0{1,2,3}{1} y- r[] o[] x{} b0" ∷
    "= 9" ∷
    "2 RegPrim c1 g0 w0 p1@1{1,2,3} a0 v1/0{1,2,3}{2} y- r[] o[] x{} b0" ∷
    "= 10" ∷
    "3 RegPrim c1 g0 w0 p1@1{1,2,3} a0 v1/0{1,2,3}{3} y- r[] o[] x{} b0" ∷
    "= 11" ∷
    "made 1:1 put \"x\" 1" ∷
    "1 RegPrim c1 g0 w0 p1@1{1,2,3} a0 v1/0{1,2,3}{1} y- r[] o[1:1] x{} b0" ∷
    "= 12" ∷
    "made 2:1 put \"y\" 2" ∷
    "2 RegPrim c1 g0 w0 p1@1{1,2,3} a0 v1/0{1,2,3}{2} y- r[] o[2:1] x{} b0" ∷
    "= 14" ∷
    "order 1 1:1" ∷
    "order 2 2:1" ∷
    "1 RegPrim c1 g2 w0 p1@1{1,2,3} a0 v1/0{1,2,3}{1} y- r[] o[] x{} b0" ∷
    "reply 1:1 done" ∷
    "= 15" ∷
    "2 RegPrim c1 g2 w0 p1@1{1,2,3} a0 v1/0{1,2,3}{2} y- r[] o[] x{} b0" ∷
    "reply 2:1 done" ∷
    "= 16" ∷
    "3 RegPrim c1 g2 w0 p1@1{1,2,3} a0 v1/0{1,2,3}{3} y- r[] o[] x{} b0" ∷
    "= 17" ∷
    "1 TransPrim t1 g2 w0 p1@1{1,2,3} a0 v1/0{1,2,3}{1} y- r[] o[] x{} b0" ∷
    "= 18" ∷
    "2 TransPrim t1 g2 w0 p1@1{1,2,3} a0 v1/0{1,2,3}{2} y- r[] o[] x{} b0" ∷
    "3 TransPrim t1 g2 w0 p1@1{1,2,3} a0 v1/0{1,2,3}{3} y- r[] o[] x{} b0" ∷
    "= 19" ∷
    "1 ExchangeStates c2 g2 w0 p1@1{1,2,3} a0 v- y![] r[] o[] x{} b0" ∷
    "= 20" ∷
    "2 ExchangeStates c3 g2 w0 p1@1{1,2,3} a0 v- y![] r[] o[] x{} b0" ∷
    "3 ExchangeStates c3 g2 w0 p1@1{1,2,3} a0 v- y![] r[] o[] x{} b0" ∷
    "= 22" ∷
    "1 NonPrim c2 g2 w0 p1@1{1,2,3} a0 v- y![] r[] o[] x{} b0" ∷
    "= 23" ∷
    "2 Construct c3 g2 w0 p1@1{1,2,3} a1 v3/1{2,3}{2} y![] r[] o[] x{} b0" ∷
    "= 24" ∷
    "3 Construct c3 g2 w0 p1@1{1,2,3} a1 v3/1{2,3}{3} y![] r[] o[] x{} b0" ∷
    "= 26" ∷
    "2 RegPrim c3 g2 w0 p2@3{2,3} a0 v3/1{2,3}{2} y- r[] o[] x{} b0" ∷
    "= 27" ∷
    "3 RegPrim c3 g2 w0 p2@3{2,3} a0 v3/1{2,3}{3} y- r[] o[] x{} b0" ∷
    "= 28" ∷
    "made 1:2 inc \"x\" 5" ∷
    "1 NonPrim c2 g2 w0 p1@1{1,2,3} a0 v- y![] r[] o[1:2] x{} b0" ∷
    "= 30" ∷
    "1 NonPrim c2 g2 w0 p1@1{1,2,3} a0 v- y![] r[1:2] o[] x{} b0" ∷
    "= 31" ∷
    "made 1:3 put \"own\" \"o\"" ∷
    "1 NonPrim c2 g2 w0 p1@1{1,2,3} a0 v- y![] r[1:2] o[1:3] x{} b0" ∷
    "= 32" ∷
    "1 Down" ∷
    "= 37" ∷
    "1 NonPrim - g2 w0 p1@1{1,2,3} a0 v- y![] r[1:2,1:3] o[] x{} b0" ∷
    "end 37" ∷
    [])
unfolding cases_compute
header_torn_inside_call_16_with_00 = refl
