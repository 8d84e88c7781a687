-- Cases of cases/ with their whole reports, which `.ci/theorems` writes down here.
use Rattle.std.specs.Prelude.{◌≡◌, [], ◌∷◌}
use mathlib.Core.Path.{refl}
use Rattle.cg_run_cases.specs.Replaying.{replayed_text, written}
use Rattle.cg_run_cases.specs.Computing.{cases_compute}

-- A migration struck while it cleared the other side is followed by a recovery that clears again, and is struck too.
clearing_stopped_inside_call_03_with_no_bytes :
    replayed_text (
    "start 1 2 3" ∷
    "merge 1 2 3" ∷
    "rounds 2" ∷
    "request 1 put \"x\" 1" ∷
    "rounds 1" ∷
    "stop 1 0 -" ∷
    "downgrade 1" ∷
    "recover 1 14 -" ∷
    "recover 1 8 -" ∷
    "recover 1" ∷
    "split 2 3" ∷
    "merge 1 2 3" ∷
    "rounds 4" ∷
    "request 1 inc \"x\" 1 ? get \"x\"" ∷
    "rounds 1" ∷
    "end" ∷
    [])
    ≡ written (
    "= 1" ∷
    "1 NonPrim - g0 w0 p0@0{1,2,3} a0 v- y- r[] o[] x{} b0" ∷
    "2 NonPrim - g0 w0 p0@0{1,2,3} a0 v- y- r[] o[] x{} b0" ∷
    "3 NonPrim - g0 w0 p0@0{1,2,3} a0 v- y- r[] o[] x{} b0" ∷
    "= 2" ∷
    "1 ExchangeStates c1 g0 w0 p0@0{1,2,3} a0 v- y- r[] o[] x{} b0" ∷
    "2 ExchangeStates c1 g0 w0 p0@0{1,2,3} a0 v- y- r[] o[] x{} b0" ∷
    "3 ExchangeStates c1 g0 w0 p0@0{1,2,3} a0 v- y- r[] o[] x{} b0" ∷
    "= 4" ∷
    "1 Construct c1 g0 w0 p0@0{1,2,3} a1 v1/0{1,2,3}{1} y- r[] o[] x{} b0" ∷
    "= 5" ∷
    "2 Construct c1 g0 w0 p0@0{1,2,3} a1 v1/0{1,2,3}{2} y- r[] o[] x{} b0" ∷
    "= 6" ∷
    "3 Construct c1 g0 w0 p0@0{1,2,3} a1 v1/0{1,2,3}{3} y- r[] o[] x{} b0" ∷
    "= 8" ∷
    "1 RegPrim c1 g0 w0 p1@1{1,2,3} a0 v1/0{1,2,3}{1} y- r[] o[] x{} b0" ∷
    "= 9" ∷
    "2 RegPrim c1 g0 w0 p1@1{1,2,3} a0 v1/0{1,2,3}{2} y- r[] o[] x{} b0" ∷
    "= 10" ∷
    "3 RegPrim c1 g0 w0 p1@1{1,2,3} a0 v1/0{1,2,3}{3} y- r[] o[] x{} b0" ∷
    "= 11" ∷
    "made 1:1 put \"x\" 1" ∷
    "1 RegPrim c1 g0 w0 p1@1{1,2,3} a0 v1/0{1,2,3}{1} y- r[] o[1:1] x{} b0" ∷
    "= 13" ∷
    "order 1 1:1" ∷
    "1 RegPrim c1 g1 w0 p1@1{1,2,3} a0 v1/0{1,2,3}{1} y- r[] o[] x{} b0" ∷
    "reply 1:1 done" ∷
    "= 14" ∷
    "2 RegPrim c1 g1 w0 p1@1{1,2,3} a0 v1/0{1,2,3}{2} y- r[] o[] x{} b0" ∷
    "= 15" ∷
    "3 RegPrim c1 g1 w0 p1@1{1,2,3} a0 v1/0{1,2,3}{3} y- r[] o[] x{} b0" ∷
    "= 16" ∷
    "1 Down" ∷
    "= 20" ∷
    "1 NonPrim - g1 w0 p1@1{1,2,3} a0 v1/0{1,2,3}{1} y- r[] o[] x{} b0" ∷
    "= 21" ∷
    "2 TransPrim t1 g1 w0 p1@1{1,2,3} a0 v1/0{1,2,3}{2} y- r[] o[] x{} b0" ∷
    "3 TransPrim t1 g1 w0 p1@1{1,2,3} a0 v1/0{1,2,3}{3} y- r[] o[] x{} b0" ∷
    "= 22" ∷
    "1 ExchangeStates c2 g1 w0 p1@1{1,2,3} a0 v1/0{1,2,3}{1} y- r[] o[] x{} b0" ∷
    "2 ExchangeStates c2 g1 w0 p1@1{1,2,3} a0 v- y![] r[] o[] x{} b0" ∷
    "3 ExchangeStates c2 g1 w0 p1@1{1,2,3} a0 v- y![] r[] o[] x{} b0" ∷
    "= 24" ∷
    "1 Construct c2 g1 w0 p1@1{1,2,3} a1 v2/1{1,2,3}{1} y![] r[] o[] x{} b0" ∷
    "= 25" ∷
    "2 Construct c2 g1 w0 p1@1{1,2,3} a1 v2/1{1,2,3}{2} y![] r[] o[] x{} b0" ∷
    "= 26" ∷
    "3 Construct c2 g1 w0 p1@1{1,2,3} a1 v2/1{1,2,3}{3} y![] r[] o[] x{} b0" ∷
    "= 28" ∷
    "1 RegPrim c2 g1 w0 p2@2{1,2,3} a0 v2/1{1,2,3}{1} y- r[] o[] x{} b0" ∷
    "= 29" ∷
    "2 RegPrim c2 g1 w0 p2@2{1,2,3} a0 v2/1{1,2,3}{2} y- r[] o[] x{} b0" ∷
    "= 30" ∷
    "3 RegPrim c2 g1 w0 p2@2{1,2,3} a0 v2/1{1,2,3}{3} y- r[] o[] x{} b0" ∷
    "= 33" ∷
    "made 1:2 inc \"x\" 1 ? get \"x\"" ∷
    "1 RegPrim c2 g1 w0 p2@2{1,2,3} a0 v2/1{1,2,3}{1} y- r[] o[1:2] x{} b0" ∷
    "= 35" ∷
    "order 2 1:2" ∷
    "1 RegPrim c2 g2 w0 p2@2{1,2,3} a0 v2/1{1,2,3}{1} y- r[] o[] x{} b0" ∷
    "reply 1:2 done ? 2" ∷
    "= 36" ∷
    "2 RegPrim c2 g2 w0 p2@2{1,2,3} a0 v2/1{1,2,3}{2} y- r[] o[] x{} b0" ∷
    "= 37" ∷
    "3 RegPrim c2 g2 w0 p2@2{1,2,3} a0 v2/1{1,2,3}{3} y- r[] o[] x{} b0" ∷
    "end 37" ∷
    [])
unfolding cases_compute
clearing_stopped_inside_call_03_with_no_bytes = refl

-- A migration struck while it cleared the other side is followed by a recovery that clears again, and is struck too.
clearing_stopped_inside_call_03_with_one_byte_of_one :
    replayed_text (
    "start 1 2 3" ∷
    "merge 1 2 3" ∷
    "rounds 2" ∷
    "request 1 put \"x\" 1" ∷
    "rounds 1" ∷
    "stop 1 0 -" ∷
    "downgrade 1" ∷
    "recover 1 14 -" ∷
    "recover 1 8 01" ∷
    "recover 1" ∷
    "split 2 3" ∷
    "merge 1 2 3" ∷
    "rounds 4" ∷
    "request 1 inc \"x\" 1 ? get \"x\"" ∷
    "rounds 1" ∷
    "end" ∷
    [])
    ≡ written (
    "= 1" ∷
    "1 NonPrim - g0 w0 p0@0{1,2,3} a0 v- y- r[] o[] x{} b0" ∷
    "2 NonPrim - g0 w0 p0@0{1,2,3} a0 v- y- r[] o[] x{} b0" ∷
    "3 NonPrim - g0 w0 p0@0{1,2,3} a0 v- y- r[] o[] x{} b0" ∷
    "= 2" ∷
    "1 ExchangeStates c1 g0 w0 p0@0{1,2,3} a0 v- y- r[] o[] x{} b0" ∷
    "2 ExchangeStates c1 g0 w0 p0@0{1,2,3} a0 v- y- r[] o[] x{} b0" ∷
    "3 ExchangeStates c1 g0 w0 p0@0{1,2,3} a0 v- y- r[] o[] x{} b0" ∷
    "= 4" ∷
    "1 Construct c1 g0 w0 p0@0{1,2,3} a1 v1/0{1,2,3}{1} y- r[] o[] x{} b0" ∷
    "= 5" ∷
    "2 Construct c1 g0 w0 p0@0{1,2,3} a1 v1/0{1,2,3}{2} y- r[] o[] x{} b0" ∷
    "= 6" ∷
    "3 Construct c1 g0 w0 p0@0{1,2,3} a1 v1/0{1,2,3}{3} y- r[] o[] x{} b0" ∷
    "= 8" ∷
    "1 RegPrim c1 g0 w0 p1@1{1,2,3} a0 v1/0{1,2,3}{1} y- r[] o[] x{} b0" ∷
    "= 9" ∷
    "2 RegPrim c1 g0 w0 p1@1{1,2,3} a0 v1/0{1,2,3}{2} y- r[] o[] x{} b0" ∷
    "= 10" ∷
    "3 RegPrim c1 g0 w0 p1@1{1,2,3} a0 v1/0{1,2,3}{3} y- r[] o[] x{} b0" ∷
    "= 11" ∷
    "made 1:1 put \"x\" 1" ∷
    "1 RegPrim c1 g0 w0 p1@1{1,2,3} a0 v1/0{1,2,3}{1} y- r[] o[1:1] x{} b0" ∷
    "= 13" ∷
    "order 1 1:1" ∷
    "1 RegPrim c1 g1 w0 p1@1{1,2,3} a0 v1/0{1,2,3}{1} y- r[] o[] x{} b0" ∷
    "reply 1:1 done" ∷
    "= 14" ∷
    "2 RegPrim c1 g1 w0 p1@1{1,2,3} a0 v1/0{1,2,3}{2} y- r[] o[] x{} b0" ∷
    "= 15" ∷
    "3 RegPrim c1 g1 w0 p1@1{1,2,3} a0 v1/0{1,2,3}{3} y- r[] o[] x{} b0" ∷
    "= 16" ∷
    "1 Down" ∷
    "= 20" ∷
    "1 NonPrim - g1 w0 p1@1{1,2,3} a0 v1/0{1,2,3}{1} y- r[] o[] x{} b0" ∷
    "= 21" ∷
    "2 TransPrim t1 g1 w0 p1@1{1,2,3} a0 v1/0{1,2,3}{2} y- r[] o[] x{} b0" ∷
    "3 TransPrim t1 g1 w0 p1@1{1,2,3} a0 v1/0{1,2,3}{3} y- r[] o[] x{} b0" ∷
    "= 22" ∷
    "1 ExchangeStates c2 g1 w0 p1@1{1,2,3} a0 v1/0{1,2,3}{1} y- r[] o[] x{} b0" ∷
    "2 ExchangeStates c2 g1 w0 p1@1{1,2,3} a0 v- y![] r[] o[] x{} b0" ∷
    "3 ExchangeStates c2 g1 w0 p1@1{1,2,3} a0 v- y![] r[] o[] x{} b0" ∷
    "= 24" ∷
    "1 Construct c2 g1 w0 p1@1{1,2,3} a1 v2/1{1,2,3}{1} y![] r[] o[] x{} b0" ∷
    "= 25" ∷
    "2 Construct c2 g1 w0 p1@1{1,2,3} a1 v2/1{1,2,3}{2} y![] r[] o[] x{} b0" ∷
    "= 26" ∷
    "3 Construct c2 g1 w0 p1@1{1,2,3} a1 v2/1{1,2,3}{3} y![] r[] o[] x{} b0" ∷
    "= 28" ∷
    "1 RegPrim c2 g1 w0 p2@2{1,2,3} a0 v2/1{1,2,3}{1} y- r[] o[] x{} b0" ∷
    "= 29" ∷
    "2 RegPrim c2 g1 w0 p2@2{1,2,3} a0 v2/1{1,2,3}{2} y- r[] o[] x{} b0" ∷
    "= 30" ∷
    "3 RegPrim c2 g1 w0 p2@2{1,2,3} a0 v2/1{1,2,3}{3} y- r[] o[] x{} b0" ∷
    "= 33" ∷
    "made 1:2 inc \"x\" 1 ? get \"x\"" ∷
    "1 RegPrim c2 g1 w0 p2@2{1,2,3} a0 v2/1{1,2,3}{1} y- r[] o[1:2] x{} b0" ∷
    "= 35" ∷
    "order 2 1:2" ∷
    "1 RegPrim c2 g2 w0 p2@2{1,2,3} a0 v2/1{1,2,3}{1} y- r[] o[] x{} b0" ∷
    "reply 1:2 done ? 2" ∷
    "= 36" ∷
    "2 RegPrim c2 g2 w0 p2@2{1,2,3} a0 v2/1{1,2,3}{2} y- r[] o[] x{} b0" ∷
    "= 37" ∷
    "3 RegPrim c2 g2 w0 p2@2{1,2,3} a0 v2/1{1,2,3}{3} y- r[] o[] x{} b0" ∷
    "end 37" ∷
    [])
unfolding cases_compute
clearing_stopped_inside_call_03_with_one_byte_of_one = refl

-- A migration struck while it cleared the other side is followed by a recovery that clears again, and is struck too.
clearing_stopped_inside_call_04_with_no_bytes :
    replayed_text (
    "start 1 2 3" ∷
    "merge 1 2 3" ∷
    "rounds 2" ∷
    "request 1 put \"x\" 1" ∷
    "rounds 1" ∷
    "stop 1 0 -" ∷
    "downgrade 1" ∷
    "recover 1 14 -" ∷
    "recover 1 9 -" ∷
    "recover 1" ∷
    "split 2 3" ∷
    "merge 1 2 3" ∷
    "rounds 4" ∷
    "request 1 inc \"x\" 1 ? get \"x\"" ∷
    "rounds 1" ∷
    "end" ∷
    [])
    ≡ written (
    "= 1" ∷
    "1 NonPrim - g0 w0 p0@0{1,2,3} a0 v- y- r[] o[] x{} b0" ∷
    "2 NonPrim - g0 w0 p0@0{1,2,3} a0 v- y- r[] o[] x{} b0" ∷
    "3 NonPrim - g0 w0 p0@0{1,2,3} a0 v- y- r[] o[] x{} b0" ∷
    "= 2" ∷
    "1 ExchangeStates c1 g0 w0 p0@0{1,2,3} a0 v- y- r[] o[] x{} b0" ∷
    "2 ExchangeStates c1 g0 w0 p0@0{1,2,3} a0 v- y- r[] o[] x{} b0" ∷
    "3 ExchangeStates c1 g0 w0 p0@0{1,2,3} a0 v- y- r[] o[] x{} b0" ∷
    "= 4" ∷
    "1 Construct c1 g0 w0 p0@0{1,2,3} a1 v1/0{1,2,3}{1} y- r[] o[] x{} b0" ∷
    "= 5" ∷
    "2 Construct c1 g0 w0 p0@0{1,2,3} a1 v1/0{1,2,3}{2} y- r[] o[] x{} b0" ∷
    "= 6" ∷
    "3 Construct c1 g0 w0 p0@0{1,2,3} a1 v1/0{1,2,3}{3} y- r[] o[] x{} b0" ∷
    "= 8" ∷
    "1 RegPrim c1 g0 w0 p1@1{1,2,3} a0 v1/0{1,2,3}{1} y- r[] o[] x{} b0" ∷
    "= 9" ∷
    "2 RegPrim c1 g0 w0 p1@1{1,2,3} a0 v1/0{1,2,3}{2} y- r[] o[] x{} b0" ∷
    "= 10" ∷
    "3 RegPrim c1 g0 w0 p1@1{1,2,3} a0 v1/0{1,2,3}{3} y- r[] o[] x{} b0" ∷
    "= 11" ∷
    "made 1:1 put \"x\" 1" ∷
    "1 RegPrim c1 g0 w0 p1@1{1,2,3} a0 v1/0{1,2,3}{1} y- r[] o[1:1] x{} b0" ∷
    "= 13" ∷
    "order 1 1:1" ∷
    "1 RegPrim c1 g1 w0 p1@1{1,2,3} a0 v1/0{1,2,3}{1} y- r[] o[] x{} b0" ∷
    "reply 1:1 done" ∷
    "= 14" ∷
    "2 RegPrim c1 g1 w0 p1@1{1,2,3} a0 v1/0{1,2,3}{2} y- r[] o[] x{} b0" ∷
    "= 15" ∷
    "3 RegPrim c1 g1 w0 p1@1{1,2,3} a0 v1/0{1,2,3}{3} y- r[] o[] x{} b0" ∷
    "= 16" ∷
    "1 Down" ∷
    "= 20" ∷
    "1 NonPrim - g1 w0 p1@1{1,2,3} a0 v1/0{1,2,3}{1} y- r[] o[] x{} b0" ∷
    "= 21" ∷
    "2 TransPrim t1 g1 w0 p1@1{1,2,3} a0 v1/0{1,2,3}{2} y- r[] o[] x{} b0" ∷
    "3 TransPrim t1 g1 w0 p1@1{1,2,3} a0 v1/0{1,2,3}{3} y- r[] o[] x{} b0" ∷
    "= 22" ∷
    "1 ExchangeStates c2 g1 w0 p1@1{1,2,3} a0 v1/0{1,2,3}{1} y- r[] o[] x{} b0" ∷
    "2 ExchangeStates c2 g1 w0 p1@1{1,2,3} a0 v- y![] r[] o[] x{} b0" ∷
    "3 ExchangeStates c2 g1 w0 p1@1{1,2,3} a0 v- y![] r[] o[] x{} b0" ∷
    "= 24" ∷
    "1 Construct c2 g1 w0 p1@1{1,2,3} a1 v2/1{1,2,3}{1} y![] r[] o[] x{} b0" ∷
    "= 25" ∷
    "2 Construct c2 g1 w0 p1@1{1,2,3} a1 v2/1{1,2,3}{2} y![] r[] o[] x{} b0" ∷
    "= 26" ∷
    "3 Construct c2 g1 w0 p1@1{1,2,3} a1 v2/1{1,2,3}{3} y![] r[] o[] x{} b0" ∷
    "= 28" ∷
    "1 RegPrim c2 g1 w0 p2@2{1,2,3} a0 v2/1{1,2,3}{1} y- r[] o[] x{} b0" ∷
    "= 29" ∷
    "2 RegPrim c2 g1 w0 p2@2{1,2,3} a0 v2/1{1,2,3}{2} y- r[] o[] x{} b0" ∷
    "= 30" ∷
    "3 RegPrim c2 g1 w0 p2@2{1,2,3} a0 v2/1{1,2,3}{3} y- r[] o[] x{} b0" ∷
    "= 33" ∷
    "made 1:2 inc \"x\" 1 ? get \"x\"" ∷
    "1 RegPrim c2 g1 w0 p2@2{1,2,3} a0 v2/1{1,2,3}{1} y- r[] o[1:2] x{} b0" ∷
    "= 35" ∷
    "order 2 1:2" ∷
    "1 RegPrim c2 g2 w0 p2@2{1,2,3} a0 v2/1{1,2,3}{1} y- r[] o[] x{} b0" ∷
    "reply 1:2 done ? 2" ∷
    "= 36" ∷
    "2 RegPrim c2 g2 w0 p2@2{1,2,3} a0 v2/1{1,2,3}{2} y- r[] o[] x{} b0" ∷
    "= 37" ∷
    "3 RegPrim c2 g2 w0 p2@2{1,2,3} a0 v2/1{1,2,3}{3} y- r[] o[] x{} b0" ∷
    "end 37" ∷
    [])
unfolding cases_compute
clearing_stopped_inside_call_04_with_no_bytes = refl

-- A migration struck while it cleared the other side is followed by a recovery that clears again, and is struck too.
clearing_stopped_inside_call_04_with_one_byte_of_one :
    replayed_text (
    "start 1 2 3" ∷
    "merge 1 2 3" ∷
    "rounds 2" ∷
    "request 1 put \"x\" 1" ∷
    "rounds 1" ∷
    "stop 1 0 -" ∷
    "downgrade 1" ∷
    "recover 1 14 -" ∷
    "recover 1 9 01" ∷
    "recover 1" ∷
    "split 2 3" ∷
    "merge 1 2 3" ∷
    "rounds 4" ∷
    "request 1 inc \"x\" 1 ? get \"x\"" ∷
    "rounds 1" ∷
    "end" ∷
    [])
    ≡ written (
    "= 1" ∷
    "1 NonPrim - g0 w0 p0@0{1,2,3} a0 v- y- r[] o[] x{} b0" ∷
    "2 NonPrim - g0 w0 p0@0{1,2,3} a0 v- y- r[] o[] x{} b0" ∷
    "3 NonPrim - g0 w0 p0@0{1,2,3} a0 v- y- r[] o[] x{} b0" ∷
    "= 2" ∷
    "1 ExchangeStates c1 g0 w0 p0@0{1,2,3} a0 v- y- r[] o[] x{} b0" ∷
    "2 ExchangeStates c1 g0 w0 p0@0{1,2,3} a0 v- y- r[] o[] x{} b0" ∷
    "3 ExchangeStates c1 g0 w0 p0@0{1,2,3} a0 v- y- r[] o[] x{} b0" ∷
    "= 4" ∷
    "1 Construct c1 g0 w0 p0@0{1,2,3} a1 v1/0{1,2,3}{1} y- r[] o[] x{} b0" ∷
    "= 5" ∷
    "2 Construct c1 g0 w0 p0@0{1,2,3} a1 v1/0{1,2,3}{2} y- r[] o[] x{} b0" ∷
    "= 6" ∷
    "3 Construct c1 g0 w0 p0@0{1,2,3} a1 v1/0{1,2,3}{3} y- r[] o[] x{} b0" ∷
    "= 8" ∷
    "1 RegPrim c1 g0 w0 p1@1{1,2,3} a0 v1/0{1,2,3}{1} y- r[] o[] x{} b0" ∷
    "= 9" ∷
    "2 RegPrim c1 g0 w0 p1@1{1,2,3} a0 v1/0{1,2,3}{2} y- r[] o[] x{} b0" ∷
    "= 10" ∷
    "3 RegPrim c1 g0 w0 p1@1{1,2,3} a0 v1/0{1,2,3}{3} y- r[] o[] x{} b0" ∷
    "= 11" ∷
    "made 1:1 put \"x\" 1" ∷
    "1 RegPrim c1 g0 w0 p1@1{1,2,3} a0 v1/0{1,2,3}{1} y- r[] o[1:1] x{} b0" ∷
    "= 13" ∷
    "order 1 1:1" ∷
    "1 RegPrim c1 g1 w0 p1@1{1,2,3} a0 v1/0{1,2,3}{1} y- r[] o[] x{} b0" ∷
    "reply 1:1 done" ∷
    "= 14" ∷
    "2 RegPrim c1 g1 w0 p1@1{1,2,3} a0 v1/0{1,2,3}{2} y- r[] o[] x{} b0" ∷
    "= 15" ∷
    "3 RegPrim c1 g1 w0 p1@1{1,2,3} a0 v1/0{1,2,3}{3} y- r[] o[] x{} b0" ∷
    "= 16" ∷
    "1 Down" ∷
    "= 20" ∷
    "1 NonPrim - g1 w0 p1@1{1,2,3} a0 v1/0{1,2,3}{1} y- r[] o[] x{} b0" ∷
    "= 21" ∷
    "2 TransPrim t1 g1 w0 p1@1{1,2,3} a0 v1/0{1,2,3}{2} y- r[] o[] x{} b0" ∷
    "3 TransPrim t1 g1 w0 p1@1{1,2,3} a0 v1/0{1,2,3}{3} y- r[] o[] x{} b0" ∷
    "= 22" ∷
    "1 ExchangeStates c2 g1 w0 p1@1{1,2,3} a0 v1/0{1,2,3}{1} y- r[] o[] x{} b0" ∷
    "2 ExchangeStates c2 g1 w0 p1@1{1,2,3} a0 v- y![] r[] o[] x{} b0" ∷
    "3 ExchangeStates c2 g1 w0 p1@1{1,2,3} a0 v- y![] r[] o[] x{} b0" ∷
    "= 24" ∷
    "1 Construct c2 g1 w0 p1@1{1,2,3} a1 v2/1{1,2,3}{1} y![] r[] o[] x{} b0" ∷
    "= 25" ∷
    "2 Construct c2 g1 w0 p1@1{1,2,3} a1 v2/1{1,2,3}{2} y![] r[] o[] x{} b0" ∷
    "= 26" ∷
    "3 Construct c2 g1 w0 p1@1{1,2,3} a1 v2/1{1,2,3}{3} y![] r[] o[] x{} b0" ∷
    "= 28" ∷
    "1 RegPrim c2 g1 w0 p2@2{1,2,3} a0 v2/1{1,2,3}{1} y- r[] o[] x{} b0" ∷
    "= 29" ∷
    "2 RegPrim c2 g1 w0 p2@2{1,2,3} a0 v2/1{1,2,3}{2} y- r[] o[] x{} b0" ∷
    "= 30" ∷
    "3 RegPrim c2 g1 w0 p2@2{1,2,3} a0 v2/1{1,2,3}{3} y- r[] o[] x{} b0" ∷
    "= 33" ∷
    "made 1:2 inc \"x\" 1 ? get \"x\"" ∷
    "1 RegPrim c2 g1 w0 p2@2{1,2,3} a0 v2/1{1,2,3}{1} y- r[] o[1:2] x{} b0" ∷
    "= 35" ∷
    "order 2 1:2" ∷
    "1 RegPrim c2 g2 w0 p2@2{1,2,3} a0 v2/1{1,2,3}{1} y- r[] o[] x{} b0" ∷
    "reply 1:2 done ? 2" ∷
    "= 36" ∷
    "2 RegPrim c2 g2 w0 p2@2{1,2,3} a0 v2/1{1,2,3}{2} y- r[] o[] x{} b0" ∷
    "= 37" ∷
    "3 RegPrim c2 g2 w0 p2@2{1,2,3} a0 v2/1{1,2,3}{3} y- r[] o[] x{} b0" ∷
    "end 37" ∷
    [])
unfolding cases_compute
clearing_stopped_inside_call_04_with_one_byte_of_one = refl

-- common yellow comes before lower names
common_yellow_comes_before_lower_names :
    replayed_text (
    "start 1 2 3" ∷
    "merge 1 2 3" ∷
    "rounds 2" ∷
    "request 3 put \"a\" 1" ∷
    "request 1 put \"b\" 2" ∷
    "order 3" ∷
    "receive 1 7" ∷
    "receive 2 7" ∷
    "order 1" ∷
    "split 2 3" ∷
    "split 1" ∷
    "merge 1 2 3" ∷
    "rounds 4" ∷
    "end" ∷
    [])
    ≡ written (
    "= 1" ∷
    "1 NonPrim - g0 w0 p0@0{1,2,3} a0 v- y- r[] o[] x{} b0" ∷
    "2 NonPrim - g0 w0 p0@0{1,2,3} a0 v- y- r[] o[] x{} b0" ∷
    "3 NonPrim - g0 w0 p0@0{1,2,3} a0 v- y- r[] o[] x{} b0" ∷
    "= 2" ∷
    "1 ExchangeStates c1 g0 w0 p0@0{1,2,3} a0 v- y- r[] o[] x{} b0" ∷
    "2 ExchangeStates c1 g0 w0 p0@0{1,2,3} a0 v- y- r[] o[] x{} b0" ∷
    "3 ExchangeStates c1 g0 w0 p0@0{1,2,3} a0 v- y- r[] o[] x{} b0" ∷
    "= 4" ∷
    "1 Construct c1 g0 w0 p0@0{1,2,3} a1 v1/0{1,2,3}{1} y- r[] o[] x{} b0" ∷
    "= 5" ∷
    "2 Construct c1 g0 w0 p0@0{1,2,3} a1 v1/0{1,2,3}{2} y- r[] o[] x{} b0" ∷
    "= 6" ∷
    "3 Construct c1 g0 w0 p0@0{1,2,3} a1 v1/0{1,2,3}{3} y- r[] o[] x{} b0" ∷
    "= 8" ∷
    "1 RegPrim c1 g0 w0 p1@1{1,2,3} a0 v1/0{1,2,3}{1} y- r[] o[] x{} b0" ∷
    "= 9" ∷
    "2 RegPrim c1 g0 w0 p1@1{1,2,3} a0 v1/0{1,2,3}{2} y- r[] o[] x{} b0" ∷
    "= 10" ∷
    "3 RegPrim c1 g0 w0 p1@1{1,2,3} a0 v1/0{1,2,3}{3} y- r[] o[] x{} b0" ∷
    "= 11" ∷
    "made 3:1 put \"a\" 1" ∷
    "3 RegPrim c1 g0 w0 p1@1{1,2,3} a0 v1/0{1,2,3}{3} y- r[] o[3:1] x{} b0" ∷
    "= 12" ∷
    "made 1:1 put \"b\" 2" ∷
    "1 RegPrim c1 g0 w0 p1@1{1,2,3} a0 v1/0{1,2,3}{1} y- r[] o[1:1] x{} b0" ∷
    "= 17" ∷
    "2 TransPrim t1 g0 w0 p1@1{1,2,3} a0 v1/0{1,2,3}{2} y?[3:1] r[] o[] x{} b0" ∷
    "3 TransPrim t1 g0 w0 p1@1{1,2,3} a0 v1/0{1,2,3}{3} y?[3:1] r[] o[] x{} b0" ∷
    "= 18" ∷
    "1 TransPrim t1 g0 w0 p1@1{1,2,3} a0 v1/0{1,2,3}{1} y?[3:1,1:1] r[] o[] x{} b0" ∷
    "= 19" ∷
    "1 ExchangeStates c2 g0 w0 p1@1{1,2,3} a0 v- y![3:1,1:1] r[] o[] x{} b0" ∷
    "2 ExchangeStates c2 g0 w0 p1@1{1,2,3} a0 v- y![3:1] r[] o[] x{} b0" ∷
    "3 ExchangeStates c2 g0 w0 p1@1{1,2,3} a0 v- y![3:1] r[] o[] x{} b0" ∷
    "= 21" ∷
    "1 ExchangeActions c2 g0 w0 p1@1{1,2,3} a0 v- y![3:1,1:1] r[] o[] x{} b0" ∷
    "= 22" ∷
    "2 ExchangeActions c2 g0 w0 p1@1{1,2,3} a0 v- y![3:1] r[] o[] x{} b0" ∷
    "= 23" ∷
    "3 ExchangeActions c2 g0 w0 p1@1{1,2,3} a0 v- y![3:1] r[] o[] x{} b0" ∷
    "= 25" ∷
    "1 Construct c2 g0 w0 p1@1{1,2,3} a1 v2/1{1,2,3}{1} y![3:1] r[1:1] o[] x{} b0" ∷
    "= 26" ∷
    "2 Construct c2 g0 w0 p1@1{1,2,3} a1 v2/1{1,2,3}{2} y![3:1] r[1:1] o[] x{} b0" ∷
    "= 27" ∷
    "3 Construct c2 g0 w0 p1@1{1,2,3} a1 v2/1{1,2,3}{3} y![3:1] r[1:1] o[] x{} b0" ∷
    "= 29" ∷
    "order 1 3:1" ∷
    "order 2 1:1" ∷
    "1 RegPrim c2 g2 w0 p2@2{1,2,3} a0 v2/1{1,2,3}{1} y- r[] o[] x{} b0" ∷
    "reply 1:1 done" ∷
    "= 30" ∷
    "2 RegPrim c2 g2 w0 p2@2{1,2,3} a0 v2/1{1,2,3}{2} y- r[] o[] x{} b0" ∷
    "= 31" ∷
    "3 RegPrim c2 g2 w0 p2@2{1,2,3} a0 v2/1{1,2,3}{3} y- r[] o[] x{} b0" ∷
    "reply 3:1 done" ∷
    "end 32" ∷
    [])
unfolding cases_compute
common_yellow_comes_before_lower_names = refl

-- A dirty answer takes the yellow actions too.
dirty_answer_takes_yellow_a :
    replayed_text (
    "start 1 2 3 4" ∷
    "merge 1 2 3 4" ∷
    "rounds 3" ∷
    "request 1 put \"z\" -2; put \"y\" 77" ∷
    "gather" ∷
    "split 1 2 4" ∷
    "dirty 4 get \"z\"" ∷
    "end" ∷
    [])
    ≡ written (
    "= 1" ∷
    "1 NonPrim - g0 w0 p0@0{1,2,3,4} a0 v- y- r[] o[] x{} b0" ∷
    "2 NonPrim - g0 w0 p0@0{1,2,3,4} a0 v- y- r[] o[] x{} b0" ∷
    "3 NonPrim - g0 w0 p0@0{1,2,3,4} a0 v- y- r[] o[] x{} b0" ∷
    "4 NonPrim - g0 w0 p0@0{1,2,3,4} a0 v- y- r[] o[] x{} b0" ∷
    "= 2" ∷
    "1 ExchangeStates c1 g0 w0 p0@0{1,2,3,4} a0 v- y- r[] o[] x{} b0" ∷
    "2 ExchangeStates c1 g0 w0 p0@0{1,2,3,4} a0 v- y- r[] o[] x{} b0" ∷
    "3 ExchangeStates c1 g0 w0 p0@0{1,2,3,4} a0 v- y- r[] o[] x{} b0" ∷
    "4 ExchangeStates c1 g0 w0 p0@0{1,2,3,4} a0 v- y- r[] o[] x{} b0" ∷
    "= 4" ∷
    "1 Construct c1 g0 w0 p0@0{1,2,3,4} a1 v1/0{1,2,3,4}{1} y- r[] o[] x{} b0" ∷
    "= 5" ∷
    "2 Construct c1 g0 w0 p0@0{1,2,3,4} a1 v1/0{1,2,3,4}{2} y- r[] o[] x{} b0" ∷
    "= 6" ∷
    "3 Construct c1 g0 w0 p0@0{1,2,3,4} a1 v1/0{1,2,3,4}{3} y- r[] o[] x{} b0" ∷
    "= 7" ∷
    "4 Construct c1 g0 w0 p0@0{1,2,3,4} a1 v1/0{1,2,3,4}{4} y- r[] o[] x{} b0" ∷
    "= 9" ∷
    "1 RegPrim c1 g0 w0 p1@1{1,2,3,4} a0 v1/0{1,2,3,4}{1} y- r[] o[] x{} b0" ∷
    "= 10" ∷
    "2 RegPrim c1 g0 w0 p1@1{1,2,3,4} a0 v1/0{1,2,3,4}{2} y- r[] o[] x{} b0" ∷
    "= 11" ∷
    "3 RegPrim c1 g0 w0 p1@1{1,2,3,4} a0 v1/0{1,2,3,4}{3} y- r[] o[] x{} b0" ∷
    "= 12" ∷
    "4 RegPrim c1 g0 w0 p1@1{1,2,3,4} a0 v1/0{1,2,3,4}{4} y- r[] o[] x{} b0" ∷
    "= 14" ∷
    "made 1:1 put \"z\" -2; put \"y\" 77" ∷
    "1 RegPrim c1 g0 w0 p1@1{1,2,3,4} a0 v1/0{1,2,3,4}{1} y- r[] o[1:1] x{} b0" ∷
    "= 16" ∷
    "1 TransPrim t1 g0 w0 p1@1{1,2,3,4} a0 v1/0{1,2,3,4}{1} y?[1:1] r[] o[] x{} b0" ∷
    "2 TransPrim t1 g0 w0 p1@1{1,2,3,4} a0 v1/0{1,2,3,4}{2} y?[1:1] r[] o[] x{} b0" ∷
    "4 TransPrim t1 g0 w0 p1@1{1,2,3,4} a0 v1/0{1,2,3,4}{4} y?[1:1] r[] o[] x{} b0" ∷
    "= 17" ∷
    "dirty 4 -2" ∷
    "end 17" ∷
    [])
unfolding cases_compute
dirty_answer_takes_yellow_a = refl

-- A dirty answer takes the yellow actions too.
dirty_answer_takes_yellow_b :
    replayed_text (
    "start 1 2 3" ∷
    "merge 1 2" ∷
    "split 1 2" ∷
    "merge 1 2 3" ∷
    "split 1" ∷
    "split 2 3" ∷
    "merge 1 2 3" ∷
    "rounds 2" ∷
    "request 3 put \"ab\" 76" ∷
    "gather" ∷
    "split 1 2 3" ∷
    "dirty 2 get \"ab\"" ∷
    "end" ∷
    [])
    ≡ written (
    "= 1" ∷
    "1 NonPrim - g0 w0 p0@0{1,2,3} a0 v- y- r[] o[] x{} b0" ∷
    "2 NonPrim - g0 w0 p0@0{1,2,3} a0 v- y- r[] o[] x{} b0" ∷
    "3 NonPrim - g0 w0 p0@0{1,2,3} a0 v- y- r[] o[] x{} b0" ∷
    "= 2" ∷
    "1 ExchangeStates c1 g0 w0 p0@0{1,2,3} a0 v- y- r[] o[] x{} b0" ∷
    "2 ExchangeStates c1 g0 w0 p0@0{1,2,3} a0 v- y- r[] o[] x{} b0" ∷
    "= 3" ∷
    "1 NonPrim t1 g0 w0 p0@0{1,2,3} a0 v- y- r[] o[] x{} b0" ∷
    "2 NonPrim t1 g0 w0 p0@0{1,2,3} a0 v- y- r[] o[] x{} b0" ∷
    "= 4" ∷
    "1 ExchangeStates c2 g0 w0 p0@0{1,2,3} a0 v- y- r[] o[] x{} b0" ∷
    "2 ExchangeStates c2 g0 w0 p0@0{1,2,3} a0 v- y- r[] o[] x{} b0" ∷
    "3 ExchangeStates c2 g0 w0 p0@0{1,2,3} a0 v- y- r[] o[] x{} b0" ∷
    "= 5" ∷
    "1 NonPrim t2 g0 w0 p0@0{1,2,3} a0 v- y- r[] o[] x{} b0" ∷
    "= 6" ∷
    "2 NonPrim t2 g0 w0 p0@0{1,2,3} a0 v- y- r[] o[] x{} b0" ∷
    "3 NonPrim t2 g0 w0 p0@0{1,2,3} a0 v- y- r[] o[] x{} b0" ∷
    "= 7" ∷
    "1 ExchangeStates c3 g0 w0 p0@0{1,2,3} a0 v- y- r[] o[] x{} b0" ∷
    "2 ExchangeStates c3 g0 w0 p0@0{1,2,3} a0 v- y- r[] o[] x{} b0" ∷
    "3 ExchangeStates c3 g0 w0 p0@0{1,2,3} a0 v- y- r[] o[] x{} b0" ∷
    "= 9" ∷
    "1 Construct c3 g0 w0 p0@0{1,2,3} a1 v3/0{1,2,3}{1} y- r[] o[] x{} b0" ∷
    "= 10" ∷
    "2 Construct c3 g0 w0 p0@0{1,2,3} a1 v3/0{1,2,3}{2} y- r[] o[] x{} b0" ∷
    "= 11" ∷
    "3 Construct c3 g0 w0 p0@0{1,2,3} a1 v3/0{1,2,3}{3} y- r[] o[] x{} b0" ∷
    "= 13" ∷
    "1 RegPrim c3 g0 w0 p1@3{1,2,3} a0 v3/0{1,2,3}{1} y- r[] o[] x{} b0" ∷
    "= 14" ∷
    "2 RegPrim c3 g0 w0 p1@3{1,2,3} a0 v3/0{1,2,3}{2} y- r[] o[] x{} b0" ∷
    "= 15" ∷
    "3 RegPrim c3 g0 w0 p1@3{1,2,3} a0 v3/0{1,2,3}{3} y- r[] o[] x{} b0" ∷
    "= 16" ∷
    "made 3:1 put \"ab\" 76" ∷
    "3 RegPrim c3 g0 w0 p1@3{1,2,3} a0 v3/0{1,2,3}{3} y- r[] o[3:1] x{} b0" ∷
    "= 18" ∷
    "1 TransPrim t3 g0 w0 p1@3{1,2,3} a0 v3/0{1,2,3}{1} y?[3:1] r[] o[] x{} b0" ∷
    "2 TransPrim t3 g0 w0 p1@3{1,2,3} a0 v3/0{1,2,3}{2} y?[3:1] r[] o[] x{} b0" ∷
    "3 TransPrim t3 g0 w0 p1@3{1,2,3} a0 v3/0{1,2,3}{3} y?[3:1] r[] o[] x{} b0" ∷
    "= 19" ∷
    "dirty 2 76" ∷
    "end 19" ∷
    [])
unfolding cases_compute
dirty_answer_takes_yellow_b = refl

-- A dirty answer takes the yellow actions too.
dirty_answer_takes_yellow_c :
    replayed_text (
    "start 1 5 17 29" ∷
    "merge 1 5 17 29" ∷
    "split 1 5 17" ∷
    "split 29" ∷
    "merge 1 5 17 29" ∷
    "rounds 4" ∷
    "request 29 put \"x\" 36" ∷
    "order 29" ∷
    "split 1 5 17 29" ∷
    "dirty 17 get \"x\"" ∷
    "end" ∷
    [])
    ≡ written (
    "= 1" ∷
    "1 NonPrim - g0 w0 p0@0{1,5,17,29} a0 v- y- r[] o[] x{} b0" ∷
    "5 NonPrim - g0 w0 p0@0{1,5,17,29} a0 v- y- r[] o[] x{} b0" ∷
    "17 NonPrim - g0 w0 p0@0{1,5,17,29} a0 v- y- r[] o[] x{} b0" ∷
    "29 NonPrim - g0 w0 p0@0{1,5,17,29} a0 v- y- r[] o[] x{} b0" ∷
    "= 2" ∷
    "1 ExchangeStates c1 g0 w0 p0@0{1,5,17,29} a0 v- y- r[] o[] x{} b0" ∷
    "5 ExchangeStates c1 g0 w0 p0@0{1,5,17,29} a0 v- y- r[] o[] x{} b0" ∷
    "17 ExchangeStates c1 g0 w0 p0@0{1,5,17,29} a0 v- y- r[] o[] x{} b0" ∷
    "29 ExchangeStates c1 g0 w0 p0@0{1,5,17,29} a0 v- y- r[] o[] x{} b0" ∷
    "= 3" ∷
    "1 NonPrim t1 g0 w0 p0@0{1,5,17,29} a0 v- y- r[] o[] x{} b0" ∷
    "5 NonPrim t1 g0 w0 p0@0{1,5,17,29} a0 v- y- r[] o[] x{} b0" ∷
    "17 NonPrim t1 g0 w0 p0@0{1,5,17,29} a0 v- y- r[] o[] x{} b0" ∷
    "= 4" ∷
    "29 NonPrim t1 g0 w0 p0@0{1,5,17,29} a0 v- y- r[] o[] x{} b0" ∷
    "= 5" ∷
    "1 ExchangeStates c2 g0 w0 p0@0{1,5,17,29} a0 v- y- r[] o[] x{} b0" ∷
    "5 ExchangeStates c2 g0 w0 p0@0{1,5,17,29} a0 v- y- r[] o[] x{} b0" ∷
    "17 ExchangeStates c2 g0 w0 p0@0{1,5,17,29} a0 v- y- r[] o[] x{} b0" ∷
    "29 ExchangeStates c2 g0 w0 p0@0{1,5,17,29} a0 v- y- r[] o[] x{} b0" ∷
    "= 7" ∷
    "1 Construct c2 g0 w0 p0@0{1,5,17,29} a1 v2/0{1,5,17,29}{1} y- r[] o[] x{} b0" ∷
    "= 8" ∷
    "5 Construct c2 g0 w0 p0@0{1,5,17,29} a1 v2/0{1,5,17,29}{5} y- r[] o[] x{} b0" ∷
    "= 9" ∷
    "17 Construct c2 g0 w0 p0@0{1,5,17,29} a1 v2/0{1,5,17,29}{17} y- r[] o[] x{} b0" ∷
    "= 10" ∷
    "29 Construct c2 g0 w0 p0@0{1,5,17,29} a1 v2/0{1,5,17,29}{29} y- r[] o[] x{} b0" ∷
    "= 12" ∷
    "1 RegPrim c2 g0 w0 p1@2{1,5,17,29} a0 v2/0{1,5,17,29}{1} y- r[] o[] x{} b0" ∷
    "= 13" ∷
    "5 RegPrim c2 g0 w0 p1@2{1,5,17,29} a0 v2/0{1,5,17,29}{5} y- r[] o[] x{} b0" ∷
    "= 14" ∷
    "17 RegPrim c2 g0 w0 p1@2{1,5,17,29} a0 v2/0{1,5,17,29}{17} y- r[] o[] x{} b0" ∷
    "= 15" ∷
    "29 RegPrim c2 g0 w0 p1@2{1,5,17,29} a0 v2/0{1,5,17,29}{29} y- r[] o[] x{} b0" ∷
    "= 18" ∷
    "made 29:1 put \"x\" 36" ∷
    "29 RegPrim c2 g0 w0 p1@2{1,5,17,29} a0 v2/0{1,5,17,29}{29} y- r[] o[29:1] x{} b0" ∷
    "= 20" ∷
    "1 TransPrim t2 g0 w0 p1@2{1,5,17,29} a0 v2/0{1,5,17,29}{1} y?[29:1] r[] o[] x{} b0" ∷
    "5 TransPrim t2 g0 w0 p1@2{1,5,17,29} a0 v2/0{1,5,17,29}{5} y?[29:1] r[] o[] x{} b0" ∷
    "17 TransPrim t2 g0 w0 p1@2{1,5,17,29} a0 v2/0{1,5,17,29}{17} y?[29:1] r[] o[] x{} b0" ∷
    "29 TransPrim t2 g0 w0 p1@2{1,5,17,29} a0 v2/0{1,5,17,29}{29} y?[29:1] r[] o[] x{} b0" ∷
    "= 21" ∷
    "dirty 17 36" ∷
    "end 21" ∷
    [])
unfolding cases_compute
dirty_answer_takes_yellow_c = refl

-- An empty start is refused.
empty_start :
    replayed_text (
    "start" ∷
    [])
    ≡ written (
    "refused 1 9" ∷
    [])
unfolding cases_compute
empty_start = refl

-- The first event must be start.
end_before_start :
    replayed_text (
    "end" ∷
    [])
    ≡ written (
    "syntax 1 9" ∷
    [])
unfolding cases_compute
end_before_start = refl

-- A fault at a device call leaves the state before or after its commit, and the run goes on to the same end.
fault_at_call_01 :
    replayed_text (
    "start 1 2 3" ∷
    "fail 1 1" ∷
    "merge 1 2 3" ∷
    "rounds 2" ∷
    "request 2 put \"x\" 1" ∷
    "rounds 1" ∷
    "recover 1" ∷
    "split 2 3" ∷
    "merge 1 2 3" ∷
    "rounds 4" ∷
    "show order" ∷
    "end" ∷
    [])
    ≡ written (
    "= 1" ∷
    "1 NonPrim - g0 w0 p0@0{1,2,3} a0 v- y- r[] o[] x{} b0" ∷
    "2 NonPrim - g0 w0 p0@0{1,2,3} a0 v- y- r[] o[] x{} b0" ∷
    "3 NonPrim - g0 w0 p0@0{1,2,3} a0 v- y- r[] o[] x{} b0" ∷
    "= 3" ∷
    "1 ExchangeStates c1 g0 w0 p0@0{1,2,3} a0 v- y- r[] o[] x{} b0" ∷
    "2 ExchangeStates c1 g0 w0 p0@0{1,2,3} a0 v- y- r[] o[] x{} b0" ∷
    "3 ExchangeStates c1 g0 w0 p0@0{1,2,3} a0 v- y- r[] o[] x{} b0" ∷
    "= 5" ∷
    "1 Down" ∷
    "= 6" ∷
    "2 Construct c1 g0 w0 p0@0{1,2,3} a1 v1/0{1,2,3}{2} y- r[] o[] x{} b0" ∷
    "= 7" ∷
    "3 Construct c1 g0 w0 p0@0{1,2,3} a1 v1/0{1,2,3}{3} y- r[] o[] x{} b0" ∷
    "= 9" ∷
    "2 Construct c1 g0 w0 p0@0{1,2,3} a1 v1/0{1,2,3}{2} y- r[] o[] x{} b1" ∷
    "= 11" ∷
    "1 NonPrim - g0 w0 p0@0{1,2,3} a0 v- y- r[] o[] x{} b0" ∷
    "= 12" ∷
    "2 No t1 g0 w0 p0@0{1,2,3} a1 v1/0{1,2,3}{2} y- r[] o[] x{} b1" ∷
    "3 No t1 g0 w0 p0@0{1,2,3} a1 v1/0{1,2,3}{3} y- r[] o[] x{} b0" ∷
    "= 13" ∷
    "1 ExchangeStates c2 g0 w0 p0@0{1,2,3} a0 v- y- r[] o[] x{} b0" ∷
    "2 ExchangeStates c2 g0 w0 p0@0{1,2,3} a1 v- y- r[] o[] x{} b1" ∷
    "3 ExchangeStates c2 g0 w0 p0@0{1,2,3} a1 v- y- r[] o[] x{} b0" ∷
    "= 15" ∷
    "1 Construct c2 g0 w0 p0@0{1,2,3} a2 v2/0{1,2,3}{1} y- r[] o[] x{} b0" ∷
    "= 16" ∷
    "2 Construct c2 g0 w0 p0@0{1,2,3} a2 v2/0{1,2,3}{2} y- r[] o[] x{} b1" ∷
    "= 17" ∷
    "3 Construct c2 g0 w0 p0@0{1,2,3} a2 v2/0{1,2,3}{3} y- r[] o[] x{} b0" ∷
    "= 19" ∷
    "1 RegPrim c2 g0 w0 p1@2{1,2,3} a0 v2/0{1,2,3}{1} y- r[] o[] x{} b0" ∷
    "= 20" ∷
    "made 2:1 put \"x\" 1" ∷
    "2 RegPrim c2 g0 w0 p1@2{1,2,3} a0 v2/0{1,2,3}{2} y- r[] o[2:1] x{} b0" ∷
    "= 21" ∷
    "3 RegPrim c2 g0 w0 p1@2{1,2,3} a0 v2/0{1,2,3}{3} y- r[] o[] x{} b0" ∷
    "= 23" ∷
    "order 1 2:1" ∷
    "1 RegPrim c2 g1 w0 p1@2{1,2,3} a0 v2/0{1,2,3}{1} y- r[] o[] x{} b0" ∷
    "= 24" ∷
    "2 RegPrim c2 g1 w0 p1@2{1,2,3} a0 v2/0{1,2,3}{2} y- r[] o[] x{} b0" ∷
    "reply 2:1 done" ∷
    "= 25" ∷
    "3 RegPrim c2 g1 w0 p1@2{1,2,3} a0 v2/0{1,2,3}{3} y- r[] o[] x{} b0" ∷
    "= 27" ∷
    "all [2:1]" ∷
    "end 27" ∷
    [])
unfolding cases_compute
fault_at_call_01 = refl
