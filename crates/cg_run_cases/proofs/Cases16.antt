-- Cases of cases/ with their whole reports, which `.ci/theorems` writes down here.
use Rattle.std.specs.Prelude.{◌≡◌, [], ◌∷◌}
use mathlib.Core.Path.{refl}
use Rattle.cg_run_cases.specs.Replaying.{replayed_text, written}
use Rattle.cg_run_cases.specs.Computing.{cases_compute}

-- The header of the side that is cleared is torn; the next recovery clears again, or sees that it needs not.
header_torn_inside_call_16_with_4347525549545900 :
    replayed_text (
    "start 1 2 3" ∷
    "merge 1 2 3" ∷
    "rounds 2" ∷
    "request 1 put \"x\" 1" ∷
    "request 2 put \"y\" 2" ∷
    "rounds 1" ∷
    "split 1" ∷
    "split 2 3" ∷
    "merge 1" ∷
    "merge 2 3" ∷
    "rounds 2" ∷
    "request 1 inc \"x\" 5" ∷
    "rounds 1" ∷
    "request 1 put \"own\" \"o\"" ∷
    "stop 1 0 -" ∷
    "downgrade 1" ∷
    "recover 1 16 4347525549545900" ∷
    "recover 1 6 -" ∷
    "recover 1 9 00" ∷
    "recover 1" ∷
    "end" ∷
    [])
    ≡ written (
    "= 1" ∷
    "1 NonPrim - g0 w0 p0@0{1,2,3} a0 v- y- r[] o[] x{} b0" ∷
    "2 NonPrim - g0 w0 p0@0{1,2,3} a0 v- y- r[] o[] x{} b0" ∷
    "3 NonPrim - g0 w0 p0@0{1,2,3} a0 v- y- r[] o[] x{} b0" ∷
    "= 2" ∷
    "1 ExchangeStates c1 g0 w0 p0@0{1,2,3} a0 v- y- r[] o[] x{} b0" ∷
    "2 ExchangeStates c1 g0 w0 p0@0{1,2,3} a0 v- y- r[] o[] x{} b0" ∷
    "3 ExchangeStates c1 g0 w0 p0@0{1,2,3} a0 v- y- r[] o[] x{} b0" ∷
    "= 4" ∷
    "1 Construct c1 g0 w0 p0@0{1,2,3} a1 v1/0{1,2,3}{1} y- r[] o[] x{} b0" ∷
    "= 5" ∷
    "2 Construct c1 g0 w0 p0@0{1,2,3} a1 v1/0{1,2,3}{2} y- r[] o[] x{} b0" ∷
    "= 6" ∷
    "3 Construct c1 g0 w0 p0@0{1,2,3} a1 v1/0{1,2,3}{3} y- r[] o[] x{} b0" ∷
    "= 8" ∷
    "1 RegPrim c1 g0 w0 p1@1{1,2,3} a0 v1/0{1,2,3}{1} y- r[] o[] x{} b0" ∷
    "= 9" ∷
    "2 RegPrim c1 g0 w0 p1@1{1,2,3} a0 v1/0{1,2,3}{2} y- r[] o[] x{} b0" ∷
    "= 10" ∷
    "3 RegPrim c1 g0 w0 p1@1{1,2,3} a0 v1/0{1,2,3}{3} y- r[] o[] x{} b0" ∷
    "= 11" ∷
    "made 1:1 put \"x\" 1" ∷
    "1 RegPrim c1 g0 w0 p1@1{1,2,3} a0 v1/0{1,2,3}{1} y- r[] o[1:1] x{} b0" ∷
    "= 12" ∷
    "made 2:1 put \"y\" 2" ∷
    "2 RegPrim c1 g0 w0 p1@1{1,2,3} a0 v1/0{1,2,3}{2} y- r[] o[2:1] x{} b0" ∷
    "= 14" ∷
    "order 1 1:1" ∷
    "order 2 2:1" ∷
    "1 RegPrim c1 g2 w0 p1@1{1,2,3} a0 v1/0{1,2,3}{1} y- r[] o[] x{} b0" ∷
    "reply 1:1 done" ∷
    "= 15" ∷
    "2 RegPrim c1 g2 w0 p1@1{1,2,3} a0 v1/0{1,2,3}{2} y- r[] o[] x{} b0" ∷
    "reply 2:1 done" ∷
    "= 16" ∷
    "3 RegPrim c1 g2 w0 p1@1{1,2,3} a0 v1/0{1,2,3}{3} y- r[] o[] x{} b0" ∷
    "= 17" ∷
    "1 TransPrim t1 g2 w0 p1@1{1,2,3} a0 v1/0{1,2,3}{1} y- r[] o[] x{} b0" ∷
    "= 18" ∷
    "2 TransPrim t1 g2 w0 p1@1{1,2,3} a0 v1/0{1,2,3}{2} y- r[] o[] x{} b0" ∷
    "3 TransPrim t1 g2 w0 p1@1{1,2,3} a0 v1/0{1,2,3}{3} y- r[] o[] x{} b0" ∷
    "= 19" ∷
    "1 ExchangeStates c2 g2 w0 p1@1{1,2,3} a0 v- y![] r[] o[] x{} b0" ∷
    "= 20" ∷
    "2 ExchangeStates c3 g2 w0 p1@1{1,2,3} a0 v- y![] r[] o[] x{} b0" ∷
    "3 ExchangeStates c3 g2 w0 p1@1{1,2,3} a0 v- y![] r[] o[] x{} b0" ∷
    "= 22" ∷
    "1 NonPrim c2 g2 w0 p1@1{1,2,3} a0 v- y![] r[] o[] x{} b0" ∷
    "= 23" ∷
    "2 Construct c3 g2 w0 p1@1{1,2,3} a1 v3/1{2,3}{2} y![] r[] o[] x{} b0" ∷
    "= 24" ∷
    "3 Construct c3 g2 w0 p1@1{1,2,3} a1 v3/1{2,3}{3} y![] r[] o[] x{} b0" ∷
    "= 26" ∷
    "2 RegPrim c3 g2 w0 p2@3{2,3} a0 v3/1{2,3}{2} y- r[] o[] x{} b0" ∷
    "= 27" ∷
    "3 RegPrim c3 g2 w0 p2@3{2,3} a0 v3/1{2,3}{3} y- r[] o[] x{} b0" ∷
    "= 28" ∷
    "made 1:2 inc \"x\" 5" ∷
    "1 NonPrim c2 g2 w0 p1@1{1,2,3} a0 v- y![] r[] o[1:2] x{} b0" ∷
    "= 30" ∷
    "1 NonPrim c2 g2 w0 p1@1{1,2,3} a0 v- y![] r[1:2] o[] x{} b0" ∷
    "= 31" ∷
    "made 1:3 put \"own\" \"o\"" ∷
    "1 NonPrim c2 g2 w0 p1@1{1,2,3} a0 v- y![] r[1:2] o[1:3] x{} b0" ∷
    "= 32" ∷
    "1 Down" ∷
    "= 37" ∷
    "1 NonPrim - g2 w0 p1@1{1,2,3} a0 v- y![] r[1:2,1:3] o[] x{} b0" ∷
    "end 37" ∷
    [])
unfolding cases_compute
header_torn_inside_call_16_with_4347525549545900 = refl

-- The input is cut after 12 of its 107 bytes.
input_cut_after_012_bytes :
    replayed_text (
    "start 1 2 3" ∷
    [])
    ≡ written (
    "= 1" ∷
    "1 NonPrim - g0 w0 p0@0{1,2,3} a0 v- y- r[] o[] x{} b0" ∷
    "2 NonPrim - g0 w0 p0@0{1,2,3} a0 v- y- r[] o[] x{} b0" ∷
    "3 NonPrim - g0 w0 p0@0{1,2,3} a0 v- y- r[] o[] x{} b0" ∷
    "no end 1" ∷
    [])
unfolding cases_compute
input_cut_after_012_bytes = refl

-- The input is cut after 24 of its 107 bytes.
input_cut_after_024_bytes :
    replayed_text (
    "start 1 2 3" ∷
    "merge 1 2 3" ∷
    [])
    ≡ written (
    "= 1" ∷
    "1 NonPrim - g0 w0 p0@0{1,2,3} a0 v- y- r[] o[] x{} b0" ∷
    "2 NonPrim - g0 w0 p0@0{1,2,3} a0 v- y- r[] o[] x{} b0" ∷
    "3 NonPrim - g0 w0 p0@0{1,2,3} a0 v- y- r[] o[] x{} b0" ∷
    "= 2" ∷
    "1 ExchangeStates c1 g0 w0 p0@0{1,2,3} a0 v- y- r[] o[] x{} b0" ∷
    "2 ExchangeStates c1 g0 w0 p0@0{1,2,3} a0 v- y- r[] o[] x{} b0" ∷
    "3 ExchangeStates c1 g0 w0 p0@0{1,2,3} a0 v- y- r[] o[] x{} b0" ∷
    "no end 2" ∷
    [])
unfolding cases_compute
input_cut_after_024_bytes = refl

-- The input is cut after 33 of its 107 bytes.
input_cut_after_033_bytes :
    replayed_text (
    "start 1 2 3" ∷
    "merge 1 2 3" ∷
    "rounds 2" ∷
    [])
    ≡ written (
    "= 1" ∷
    "1 NonPrim - g0 w0 p0@0{1,2,3} a0 v- y- r[] o[] x{} b0" ∷
    "2 NonPrim - g0 w0 p0@0{1,2,3} a0 v- y- r[] o[] x{} b0" ∷
    "3 NonPrim - g0 w0 p0@0{1,2,3} a0 v- y- r[] o[] x{} b0" ∷
    "= 2" ∷
    "1 ExchangeStates c1 g0 w0 p0@0{1,2,3} a0 v- y- r[] o[] x{} b0" ∷
    "2 ExchangeStates c1 g0 w0 p0@0{1,2,3} a0 v- y- r[] o[] x{} b0" ∷
    "3 ExchangeStates c1 g0 w0 p0@0{1,2,3} a0 v- y- r[] o[] x{} b0" ∷
    "= 4" ∷
    "1 Construct c1 g0 w0 p0@0{1,2,3} a1 v1/0{1,2,3}{1} y- r[] o[] x{} b0" ∷
    "= 5" ∷
    "2 Construct c1 g0 w0 p0@0{1,2,3} a1 v1/0{1,2,3}{2} y- r[] o[] x{} b0" ∷
    "= 6" ∷
    "3 Construct c1 g0 w0 p0@0{1,2,3} a1 v1/0{1,2,3}{3} y- r[] o[] x{} b0" ∷
    "= 8" ∷
    "1 RegPrim c1 g0 w0 p1@1{1,2,3} a0 v1/0{1,2,3}{1} y- r[] o[] x{} b0" ∷
    "= 9" ∷
    "2 RegPrim c1 g0 w0 p1@1{1,2,3} a0 v1/0{1,2,3}{2} y- r[] o[] x{} b0" ∷
    "= 10" ∷
    "3 RegPrim c1 g0 w0 p1@1{1,2,3} a0 v1/0{1,2,3}{3} y- r[] o[] x{} b0" ∷
    "no end 3" ∷
    [])
unfolding cases_compute
input_cut_after_033_bytes = refl

-- The input is cut after 53 of its 107 bytes.
input_cut_after_053_bytes :
    replayed_text (
    "start 1 2 3" ∷
    "merge 1 2 3" ∷
    "rounds 2" ∷
    "request 1 put \"x\" 1" ∷
    [])
    ≡ written (
    "= 1" ∷
    "1 NonPrim - g0 w0 p0@0{1,2,3} a0 v- y- r[] o[] x{} b0" ∷
    "2 NonPrim - g0 w0 p0@0{1,2,3} a0 v- y- r[] o[] x{} b0" ∷
    "3 NonPrim - g0 w0 p0@0{1,2,3} a0 v- y- r[] o[] x{} b0" ∷
    "= 2" ∷
    "1 ExchangeStates c1 g0 w0 p0@0{1,2,3} a0 v- y- r[] o[] x{} b0" ∷
    "2 ExchangeStates c1 g0 w0 p0@0{1,2,3} a0 v- y- r[] o[] x{} b0" ∷
    "3 ExchangeStates c1 g0 w0 p0@0{1,2,3} a0 v- y- r[] o[] x{} b0" ∷
    "= 4" ∷
    "1 Construct c1 g0 w0 p0@0{1,2,3} a1 v1/0{1,2,3}{1} y- r[] o[] x{} b0" ∷
    "= 5" ∷
    "2 Construct c1 g0 w0 p0@0{1,2,3} a1 v1/0{1,2,3}{2} y- r[] o[] x{} b0" ∷
    "= 6" ∷
    "3 Construct c1 g0 w0 p0@0{1,2,3} a1 v1/0{1,2,3}{3} y- r[] o[] x{} b0" ∷
    "= 8" ∷
    "1 RegPrim c1 g0 w0 p1@1{1,2,3} a0 v1/0{1,2,3}{1} y- r[] o[] x{} b0" ∷
    "= 9" ∷
    "2 RegPrim c1 g0 w0 p1@1{1,2,3} a0 v1/0{1,2,3}{2} y- r[] o[] x{} b0" ∷
    "= 10" ∷
    "3 RegPrim c1 g0 w0 p1@1{1,2,3} a0 v1/0{1,2,3}{3} y- r[] o[] x{} b0" ∷
    "= 11" ∷
    "made 1:1 put \"x\" 1" ∷
    "1 RegPrim c1 g0 w0 p1@1{1,2,3} a0 v1/0{1,2,3}{1} y- r[] o[1:1] x{} b0" ∷
    "no end 4" ∷
    [])
unfolding cases_compute
input_cut_after_053_bytes = refl

-- The input is cut after 83 of its 107 bytes.
input_cut_after_083_bytes :
    replayed_text (
    "start 1 2 3" ∷
    "merge 1 2 3" ∷
    "rounds 2" ∷
    "request 1 put \"x\" 1" ∷
    "request 2 inc \"x\" 4 ? get \"x\"" ∷
    [])
    ≡ written (
    "= 1" ∷
    "1 NonPrim - g0 w0 p0@0{1,2,3} a0 v- y- r[] o[] x{} b0" ∷
    "2 NonPrim - g0 w0 p0@0{1,2,3} a0 v- y- r[] o[] x{} b0" ∷
    "3 NonPrim - g0 w0 p0@0{1,2,3} a0 v- y- r[] o[] x{} b0" ∷
    "= 2" ∷
    "1 ExchangeStates c1 g0 w0 p0@0{1,2,3} a0 v- y- r[] o[] x{} b0" ∷
    "2 ExchangeStates c1 g0 w0 p0@0{1,2,3} a0 v- y- r[] o[] x{} b0" ∷
    "3 ExchangeStates c1 g0 w0 p0@0{1,2,3} a0 v- y- r[] o[] x{} b0" ∷
    "= 4" ∷
    "1 Construct c1 g0 w0 p0@0{1,2,3} a1 v1/0{1,2,3}{1} y- r[] o[] x{} b0" ∷
    "= 5" ∷
    "2 Construct c1 g0 w0 p0@0{1,2,3} a1 v1/0{1,2,3}{2} y- r[] o[] x{} b0" ∷
    "= 6" ∷
    "3 Construct c1 g0 w0 p0@0{1,2,3} a1 v1/0{1,2,3}{3} y- r[] o[] x{} b0" ∷
    "= 8" ∷
    "1 RegPrim c1 g0 w0 p1@1{1,2,3} a0 v1/0{1,2,3}{1} y- r[] o[] x{} b0" ∷
    "= 9" ∷
    "2 RegPrim c1 g0 w0 p1@1{1,2,3} a0 v1/0{1,2,3}{2} y- r[] o[] x{} b0" ∷
    "= 10" ∷
    "3 RegPrim c1 g0 w0 p1@1{1,2,3} a0 v1/0{1,2,3}{3} y- r[] o[] x{} b0" ∷
    "= 11" ∷
    "made 1:1 put \"x\" 1" ∷
    "1 RegPrim c1 g0 w0 p1@1{1,2,3} a0 v1/0{1,2,3}{1} y- r[] o[1:1] x{} b0" ∷
    "= 12" ∷
    "made 2:1 inc \"x\" 4 ? get \"x\"" ∷
    "2 RegPrim c1 g0 w0 p1@1{1,2,3} a0 v1/0{1,2,3}{2} y- r[] o[2:1] x{} b0" ∷
    "no end 5" ∷
    [])
unfolding cases_compute
input_cut_after_083_bytes = refl

-- The input is cut after 92 of its 107 bytes.
input_cut_after_092_bytes :
    replayed_text (
    "start 1 2 3" ∷
    "merge 1 2 3" ∷
    "rounds 2" ∷
    "request 1 put \"x\" 1" ∷
    "request 2 inc \"x\" 4 ? get \"x\"" ∷
    "rounds 1" ∷
    [])
    ≡ written (
    "= 1" ∷
    "1 NonPrim - g0 w0 p0@0{1,2,3} a0 v- y- r[] o[] x{} b0" ∷
    "2 NonPrim - g0 w0 p0@0{1,2,3} a0 v- y- r[] o[] x{} b0" ∷
    "3 NonPrim - g0 w0 p0@0{1,2,3} a0 v- y- r[] o[] x{} b0" ∷
    "= 2" ∷
    "1 ExchangeStates c1 g0 w0 p0@0{1,2,3} a0 v- y- r[] o[] x{} b0" ∷
    "2 ExchangeStates c1 g0 w0 p0@0{1,2,3} a0 v- y- r[] o[] x{} b0" ∷
    "3 ExchangeStates c1 g0 w0 p0@0{1,2,3} a0 v- y- r[] o[] x{} b0" ∷
    "= 4" ∷
    "1 Construct c1 g0 w0 p0@0{1,2,3} a1 v1/0{1,2,3}{1} y- r[] o[] x{} b0" ∷
    "= 5" ∷
    "2 Construct c1 g0 w0 p0@0{1,2,3} a1 v1/0{1,2,3}{2} y- r[] o[] x{} b0" ∷
    "= 6" ∷
    "3 Construct c1 g0 w0 p0@0{1,2,3} a1 v1/0{1,2,3}{3} y- r[] o[] x{} b0" ∷
    "= 8" ∷
    "1 RegPrim c1 g0 w0 p1@1{1,2,3} a0 v1/0{1,2,3}{1} y- r[] o[] x{} b0" ∷
    "= 9" ∷
    "2 RegPrim c1 g0 w0 p1@1{1,2,3} a0 v1/0{1,2,3}{2} y- r[] o[] x{} b0" ∷
    "= 10" ∷
    "3 RegPrim c1 g0 w0 p1@1{1,2,3} a0 v1/0{1,2,3}{3} y- r[] o[] x{} b0" ∷
    "= 11" ∷
    "made 1:1 put \"x\" 1" ∷
    "1 RegPrim c1 g0 w0 p1@1{1,2,3} a0 v1/0{1,2,3}{1} y- r[] o[1:1] x{} b0" ∷
    "= 12" ∷
    "made 2:1 inc \"x\" 4 ? get \"x\"" ∷
    "2 RegPrim c1 g0 w0 p1@1{1,2,3} a0 v1/0{1,2,3}{2} y- r[] o[2:1] x{} b0" ∷
    "= 14" ∷
    "order 1 1:1" ∷
    "order 2 2:1" ∷
    "1 RegPrim c1 g2 w0 p1@1{1,2,3} a0 v1/0{1,2,3}{1} y- r[] o[] x{} b0" ∷
    "reply 1:1 done" ∷
    "= 15" ∷
    "2 RegPrim c1 g2 w0 p1@1{1,2,3} a0 v1/0{1,2,3}{2} y- r[] o[] x{} b0" ∷
    "reply 2:1 done ? 5" ∷
    "= 16" ∷
    "3 RegPrim c1 g2 w0 p1@1{1,2,3} a0 v1/0{1,2,3}{3} y- r[] o[] x{} b0" ∷
    "no end 6" ∷
    [])
unfolding cases_compute
input_cut_after_092_bytes = refl

-- The input is cut after 103 of its 107 bytes.
input_cut_after_103_bytes :
    replayed_text (
    "start 1 2 3" ∷
    "merge 1 2 3" ∷
    "rounds 2" ∷
    "request 1 put \"x\" 1" ∷
    "request 2 inc \"x\" 4 ? get \"x\"" ∷
    "rounds 1" ∷
    "show order" ∷
    [])
    ≡ written (
    "= 1" ∷
    "1 NonPrim - g0 w0 p0@0{1,2,3} a0 v- y- r[] o[] x{} b0" ∷
    "2 NonPrim - g0 w0 p0@0{1,2,3} a0 v- y- r[] o[] x{} b0" ∷
    "3 NonPrim - g0 w0 p0@0{1,2,3} a0 v- y- r[] o[] x{} b0" ∷
    "= 2" ∷
    "1 ExchangeStates c1 g0 w0 p0@0{1,2,3} a0 v- y- r[] o[] x{} b0" ∷
    "2 ExchangeStates c1 g0 w0 p0@0{1,2,3} a0 v- y- r[] o[] x{} b0" ∷
    "3 ExchangeStates c1 g0 w0 p0@0{1,2,3} a0 v- y- r[] o[] x{} b0" ∷
    "= 4" ∷
    "1 Construct c1 g0 w0 p0@0{1,2,3} a1 v1/0{1,2,3}{1} y- r[] o[] x{} b0" ∷
    "= 5" ∷
    "2 Construct c1 g0 w0 p0@0{1,2,3} a1 v1/0{1,2,3}{2} y- r[] o[] x{} b0" ∷
    "= 6" ∷
    "3 Construct c1 g0 w0 p0@0{1,2,3} a1 v1/0{1,2,3}{3} y- r[] o[] x{} b0" ∷
    "= 8" ∷
    "1 RegPrim c1 g0 w0 p1@1{1,2,3} a0 v1/0{1,2,3}{1} y- r[] o[] x{} b0" ∷
    "= 9" ∷
    "2 RegPrim c1 g0 w0 p1@1{1,2,3} a0 v1/0{1,2,3}{2} y- r[] o[] x{} b0" ∷
    "= 10" ∷
    "3 RegPrim c1 g0 w0 p1@1{1,2,3} a0 v1/0{1,2,3}{3} y- r[] o[] x{} b0" ∷
    "= 11" ∷
    "made 1:1 put \"x\" 1" ∷
    "1 RegPrim c1 g0 w0 p1@1{1,2,3} a0 v1/0{1,2,3}{1} y- r[] o[1:1] x{} b0" ∷
    "= 12" ∷
    "made 2:1 inc \"x\" 4 ? get \"x\"" ∷
    "2 RegPrim c1 g0 w0 p1@1{1,2,3} a0 v1/0{1,2,3}{2} y- r[] o[2:1] x{} b0" ∷
    "= 14" ∷
    "order 1 1:1" ∷
    "order 2 2:1" ∷
    "1 RegPrim c1 g2 w0 p1@1{1,2,3} a0 v1/0{1,2,3}{1} y- r[] o[] x{} b0" ∷
    "reply 1:1 done" ∷
    "= 15" ∷
    "2 RegPrim c1 g2 w0 p1@1{1,2,3} a0 v1/0{1,2,3}{2} y- r[] o[] x{} b0" ∷
    "reply 2:1 done ? 5" ∷
    "= 16" ∷
    "3 RegPrim c1 g2 w0 p1@1{1,2,3} a0 v1/0{1,2,3}{3} y- r[] o[] x{} b0" ∷
    "= 17" ∷
    "all [1:1,2:1]" ∷
    "no end 7" ∷
    [])
unfolding cases_compute
input_cut_after_103_bytes = refl

-- The input is cut after 107 of its 107 bytes.
input_cut_after_107_bytes :
    replayed_text (
    "start 1 2 3" ∷
    "merge 1 2 3" ∷
    "rounds 2" ∷
    "request 1 put \"x\" 1" ∷
    "request 2 inc \"x\" 4 ? get \"x\"" ∷
    "rounds 1" ∷
    "show order" ∷
    "end" ∷
    [])
    ≡ written (
    "= 1" ∷
    "1 NonPrim - g0 w0 p0@0{1,2,3} a0 v- y- r[] o[] x{} b0" ∷
    "2 NonPrim - g0 w0 p0@0{1,2,3} a0 v- y- r[] o[] x{} b0" ∷
    "3 NonPrim - g0 w0 p0@0{1,2,3} a0 v- y- r[] o[] x{} b0" ∷
    "= 2" ∷
    "1 ExchangeStates c1 g0 w0 p0@0{1,2,3} a0 v- y- r[] o[] x{} b0" ∷
    "2 ExchangeStates c1 g0 w0 p0@0{1,2,3} a0 v- y- r[] o[] x{} b0" ∷
    "3 ExchangeStates c1 g0 w0 p0@0{1,2,3} a0 v- y- r[] o[] x{} b0" ∷
    "= 4" ∷
    "1 Construct c1 g0 w0 p0@0{1,2,3} a1 v1/0{1,2,3}{1} y- r[] o[] x{} b0" ∷
    "= 5" ∷
    "2 Construct c1 g0 w0 p0@0{1,2,3} a1 v1/0{1,2,3}{2} y- r[] o[] x{} b0" ∷
    "= 6" ∷
    "3 Construct c1 g0 w0 p0@0{1,2,3} a1 v1/0{1,2,3}{3} y- r[] o[] x{} b0" ∷
    "= 8" ∷
    "1 RegPrim c1 g0 w0 p1@1{1,2,3} a0 v1/0{1,2,3}{1} y- r[] o[] x{} b0" ∷
    "= 9" ∷
    "2 RegPrim c1 g0 w0 p1@1{1,2,3} a0 v1/0{1,2,3}{2} y- r[] o[] x{} b0" ∷
    "= 10" ∷
    "3 RegPrim c1 g0 w0 p1@1{1,2,3} a0 v1/0{1,2,3}{3} y- r[] o[] x{} b0" ∷
    "= 11" ∷
    "made 1:1 put \"x\" 1" ∷
    "1 RegPrim c1 g0 w0 p1@1{1,2,3} a0 v1/0{1,2,3}{1} y- r[] o[1:1] x{} b0" ∷
    "= 12" ∷
    "made 2:1 inc \"x\" 4 ? get \"x\"" ∷
    "2 RegPrim c1 g0 w0 p1@1{1,2,3} a0 v1/0{1,2,3}{2} y- r[] o[2:1] x{} b0" ∷
    "= 14" ∷
    "order 1 1:1" ∷
    "order 2 2:1" ∷
    "1 RegPrim c1 g2 w0 p1@1{1,2,3} a0 v1/0{1,2,3}{1} y- r[] o[] x{} b0" ∷
    "reply 1:1 done" ∷
    "= 15" ∷
    "2 RegPrim c1 g2 w0 p1@1{1,2,3} a0 v1/0{1,2,3}{2} y- r[] o[] x{} b0" ∷
    "reply 2:1 done ? 5" ∷
    "= 16" ∷
    "3 RegPrim c1 g2 w0 p1@1{1,2,3} a0 v1/0{1,2,3}{3} y- r[] o[] x{} b0" ∷
    "= 17" ∷
    "all [1:1,2:1]" ∷
    "end 17" ∷
    [])
unfolding cases_compute
input_cut_after_107_bytes = refl

-- late installer answers before others
late_installer_answers_before_others :
    replayed_text (
    "start 1 2 3" ∷
    "merge 1 2 3" ∷
    "rounds 1" ∷
    "request 2 put \"q\" 1" ∷
    "request 1 put \"r\" 2 ? get \"q\"" ∷
    "gather" ∷
    "deliver 1 3" ∷
    "request 1 put \"s\" 3 ? count" ∷
    "gather" ∷
    "split 2 3" ∷
    "split 1" ∷
    "merge 1 2 3" ∷
    "rounds 4" ∷
    "show order" ∷
    "show 2" ∷
    "end" ∷
    [])
    ≡ written (
    "= 1" ∷
    "1 NonPrim - g0 w0 p0@0{1,2,3} a0 v- y- r[] o[] x{} b0" ∷
    "2 NonPrim - g0 w0 p0@0{1,2,3} a0 v- y- r[] o[] x{} b0" ∷
    "3 NonPrim - g0 w0 p0@0{1,2,3} a0 v- y- r[] o[] x{} b0" ∷
    "= 2" ∷
    "1 ExchangeStates c1 g0 w0 p0@0{1,2,3} a0 v- y- r[] o[] x{} b0" ∷
    "2 ExchangeStates c1 g0 w0 p0@0{1,2,3} a0 v- y- r[] o[] x{} b0" ∷
    "3 ExchangeStates c1 g0 w0 p0@0{1,2,3} a0 v- y- r[] o[] x{} b0" ∷
    "= 4" ∷
    "1 Construct c1 g0 w0 p0@0{1,2,3} a1 v1/0{1,2,3}{1} y- r[] o[] x{} b0" ∷
    "= 5" ∷
    "2 Construct c1 g0 w0 p0@0{1,2,3} a1 v1/0{1,2,3}{2} y- r[] o[] x{} b0" ∷
    "= 6" ∷
    "3 Construct c1 g0 w0 p0@0{1,2,3} a1 v1/0{1,2,3}{3} y- r[] o[] x{} b0" ∷
    "= 7" ∷
    "2 Construct c1 g0 w0 p0@0{1,2,3} a1 v1/0{1,2,3}{2} y- r[] o[] x{} b1" ∷
    "= 8" ∷
    "1 Construct c1 g0 w0 p0@0{1,2,3} a1 v1/0{1,2,3}{1} y- r[] o[] x{} b1" ∷
    "= 10" ∷
    "made 1:1 put \"r\" 2 ? get \"q\"" ∷
    "1 RegPrim c1 g0 w0 p1@1{1,2,3} a0 v1/0{1,2,3}{1} y- r[] o[1:1] x{} b0" ∷
    "= 11" ∷
    "made 1:2 put \"s\" 3 ? count" ∷
    "1 RegPrim c1 g0 w0 p1@1{1,2,3} a0 v1/0{1,2,3}{1} y- r[] o[1:1,1:2] x{} b0" ∷
    "= 13" ∷
    "2 TransPrim t1 g0 w0 p1@1{1,2,3} a0 v1/0{1,2,3}{2} y?[1:1,1:2] r[] o[] x{} b1" ∷
    "3 TransPrim t1 g0 w0 p1@1{1,2,3} a0 v1/0{1,2,3}{3} y?[1:1,1:2] r[] o[] x{} b0" ∷
    "= 14" ∷
    "1 TransPrim t1 g0 w0 p1@1{1,2,3} a0 v1/0{1,2,3}{1} y?[1:1,1:2] r[] o[] x{} b0" ∷
    "= 15" ∷
    "1 ExchangeStates c2 g0 w0 p1@1{1,2,3} a0 v- y![1:1,1:2] r[] o[] x{} b0" ∷
    "2 ExchangeStates c2 g0 w0 p1@1{1,2,3} a0 v- y![1:1,1:2] r[] o[] x{} b1" ∷
    "3 ExchangeStates c2 g0 w0 p1@1{1,2,3} a0 v- y![1:1,1:2] r[] o[] x{} b0" ∷
    "= 17" ∷
    "1 Construct c2 g0 w0 p1@1{1,2,3} a1 v2/1{1,2,3}{1} y![1:1,1:2] r[] o[] x{} b0" ∷
    "= 18" ∷
    "2 Construct c2 g0 w0 p1@1{1,2,3} a1 v2/1{1,2,3}{2} y![1:1,1:2] r[] o[] x{} b1" ∷
    "= 19" ∷
    "3 Construct c2 g0 w0 p1@1{1,2,3} a1 v2/1{1,2,3}{3} y![1:1,1:2] r[] o[] x{} b0" ∷
    "= 21" ∷
    "order 1 1:1" ∷
    "order 2 1:2" ∷
    "1 RegPrim c2 g2 w0 p2@2{1,2,3} a0 v2/1{1,2,3}{1} y- r[] o[] x{} b0" ∷
    "reply 1:1 done ? absent" ∷
    "reply 1:2 done ? count 2" ∷
    "= 22" ∷
    "made 2:1 put \"q\" 1" ∷
    "2 RegPrim c2 g2 w0 p2@2{1,2,3} a0 v2/1{1,2,3}{2} y- r[] o[2:1] x{} b0" ∷
    "= 23" ∷
    "3 RegPrim c2 g2 w0 p2@2{1,2,3} a0 v2/1{1,2,3}{3} y- r[] o[] x{} b0" ∷
    "= 25" ∷
    "order 3 2:1" ∷
    "1 RegPrim c2 g3 w0 p2@2{1,2,3} a0 v2/1{1,2,3}{1} y- r[] o[] x{} b0" ∷
    "= 26" ∷
    "2 RegPrim c2 g3 w0 p2@2{1,2,3} a0 v2/1{1,2,3}{2} y- r[] o[] x{} b0" ∷
    "reply 2:1 done" ∷
    "= 27" ∷
    "3 RegPrim c2 g3 w0 p2@2{1,2,3} a0 v2/1{1,2,3}{3} y- r[] o[] x{} b0" ∷
    "= 29" ∷
    "all [1:1,1:2,2:1]" ∷
    "= 30" ∷
    "greens 2 [1:1,1:2,2:1]" ∷
    "db 2 \"q\"=1 \"r\"=2 \"s\"=3" ∷
    "end 30" ∷
    [])
unfolding cases_compute
late_installer_answers_before_others = refl

-- A server that was removed drops its buffered requests.
leaver_drops_its_buffer_a :
    replayed_text (
    "start 1 5 10 13 21" ∷
    "merge 1 5 10 13 21" ∷
    "rounds 1" ∷
    "leave 21 10" ∷
    "rounds 2" ∷
    "split 10" ∷
    "merge 10" ∷
    "request 10 inc \"ab\" 0" ∷
    "rounds 2" ∷
    "end" ∷
    [])
    ≡ written (
    "= 1" ∷
    "1 NonPrim - g0 w0 p0@0{1,5,10,13,21} a0 v- y- r[] o[] x{} b0" ∷
    "5 NonPrim - g0 w0 p0@0{1,5,10,13,21} a0 v- y- r[] o[] x{} b0" ∷
    "10 NonPrim - g0 w0 p0@0{1,5,10,13,21} a0 v- y- r[] o[] x{} b0" ∷
    "13 NonPrim - g0 w0 p0@0{1,5,10,13,21} a0 v- y- r[] o[] x{} b0" ∷
    "21 NonPrim - g0 w0 p0@0{1,5,10,13,21} a0 v- y- r[] o[] x{} b0" ∷
    "= 2" ∷
    "1 ExchangeStates c1 g0 w0 p0@0{1,5,10,13,21} a0 v- y- r[] o[] x{} b0" ∷
    "5 ExchangeStates c1 g0 w0 p0@0{1,5,10,13,21} a0 v- y- r[] o[] x{} b0" ∷
    "10 ExchangeStates c1 g0 w0 p0@0{1,5,10,13,21} a0 v- y- r[] o[] x{} b0" ∷
    "13 ExchangeStates c1 g0 w0 p0@0{1,5,10,13,21} a0 v- y- r[] o[] x{} b0" ∷
    "21 ExchangeStates c1 g0 w0 p0@0{1,5,10,13,21} a0 v- y- r[] o[] x{} b0" ∷
    "= 4" ∷
    "1 Construct c1 g0 w0 p0@0{1,5,10,13,21} a1 v1/0{1,5,10,13,21}{1} y- r[] o[] x{} b0" ∷
    "= 5" ∷
    "5 Construct c1 g0 w0 p0@0{1,5,10,13,21} a1 v1/0{1,5,10,13,21}{5} y- r[] o[] x{} b0" ∷
    "= 6" ∷
    "10 Construct c1 g0 w0 p0@0{1,5,10,13,21} a1 v1/0{1,5,10,13,21}{10} y- r[] o[] x{} b0" ∷
    "= 7" ∷
    "13 Construct c1 g0 w0 p0@0{1,5,10,13,21} a1 v1/0{1,5,10,13,21}{13} y- r[] o[] x{} b0" ∷
    "= 8" ∷
    "21 Construct c1 g0 w0 p0@0{1,5,10,13,21} a1 v1/0{1,5,10,13,21}{21} y- r[] o[] x{} b0" ∷
    "= 9" ∷
    "21 Construct c1 g0 w0 p0@0{1,5,10,13,21} a1 v1/0{1,5,10,13,21}{21} y- r[] o[] x{} b1" ∷
    "= 11" ∷
    "1 RegPrim c1 g0 w0 p1@1{1,5,10,13,21} a0 v1/0{1,5,10,13,21}{1} y- r[] o[] x{} b0" ∷
    "= 12" ∷
    "5 RegPrim c1 g0 w0 p1@1{1,5,10,13,21} a0 v1/0{1,5,10,13,21}{5} y- r[] o[] x{} b0" ∷
    "= 13" ∷
    "10 RegPrim c1 g0 w0 p1@1{1,5,10,13,21} a0 v1/0{1,5,10,13,21}{10} y- r[] o[] x{} b0" ∷
    "= 14" ∷
    "13 RegPrim c1 g0 w0 p1@1{1,5,10,13,21} a0 v1/0{1,5,10,13,21}{13} y- r[] o[] x{} b0" ∷
    "= 15" ∷
    "made 21:1 leave 10" ∷
    "21 RegPrim c1 g0 w0 p1@1{1,5,10,13,21} a0 v1/0{1,5,10,13,21}{21} y- r[] o[21:1] x{} b0" ∷
    "= 17" ∷
    "order 1 21:1" ∷
    "1 RegPrim c1 g1 w0 p1@1{1,5,10,13,21} a0 v1/0{1,5,10,13,21}{1} y- r[] o[] x{10} b0" ∷
    "= 18" ∷
    "5 RegPrim c1 g1 w0 p1@1{1,5,10,13,21} a0 v1/0{1,5,10,13,21}{5} y- r[] o[] x{10} b0" ∷
    "= 19" ∷
    "10 RegPrim c1 g1 w0 p1@1{1,5,10,13,21} a0 v1/0{1,5,10,13,21}{10} y- r[] o[] x{10} b0" ∷
    "= 20" ∷
    "13 RegPrim c1 g1 w0 p1@1{1,5,10,13,21} a0 v1/0{1,5,10,13,21}{13} y- r[] o[] x{10} b0" ∷
    "= 21" ∷
    "21 RegPrim c1 g1 w0 p1@1{1,5,10,13,21} a0 v1/0{1,5,10,13,21}{21} y- r[] o[] x{10} b0" ∷
    "reply 21:1 done" ∷
    "= 22" ∷
    "10 TransPrim t1 g1 w0 p1@1{1,5,10,13,21} a0 v1/0{1,5,10,13,21}{10} y- r[] o[] x{10} b0" ∷
    "= 23" ∷
    "10 ExchangeStates c2 g1 w0 p1@1{1,5,10,13,21} a0 v- y![] r[] o[] x{10} b0" ∷
    "= 24" ∷
    "10 ExchangeStates c2 g1 w0 p1@1{1,5,10,13,21} a0 v- y![] r[] o[] x{10} b1" ∷
    "= 26" ∷
    "10 Left c2 g1 w0 p1@1{1,5,10,13,21} a0 v- y![] r[] o[] x{10} b0" ∷
    "end 27" ∷
    [])
unfolding cases_compute
leaver_drops_its_buffer_a = refl

-- A server that was removed drops its buffered requests.
leaver_drops_its_buffer_b :
    replayed_text (
    "start 8 24 27" ∷
    "merge 8 24 27" ∷
    "split 8 27" ∷
    "split 24" ∷
    "merge 8 24 27" ∷
    "split 8 24" ∷
    "merge 8 24" ∷
    "leave 24 8" ∷
    "gather" ∷
    "deliver 24 1" ∷
    "deliver 24 1" ∷
    "deliver 8 2" ∷
    "rounds 2" ∷
    "split 8 24" ∷
    "merge 8 24" ∷
    "request 8 cas \"x\" absent 36" ∷
    "rounds 1" ∷
    "end" ∷
    [])
    ≡ written (
    "= 1" ∷
    "8 NonPrim - g0 w0 p0@0{8,24,27} a0 v- y- r[] o[] x{} b0" ∷
    "24 NonPrim - g0 w0 p0@0{8,24,27} a0 v- y- r[] o[] x{} b0" ∷
    "27 NonPrim - g0 w0 p0@0{8,24,27} a0 v- y- r[] o[] x{} b0" ∷
    "= 2" ∷
    "8 ExchangeStates c1 g0 w0 p0@0{8,24,27} a0 v- y- r[] o[] x{} b0" ∷
    "24 ExchangeStates c1 g0 w0 p0@0{8,24,27} a0 v- y- r[] o[] x{} b0" ∷
    "27 ExchangeStates c1 g0 w0 p0@0{8,24,27} a0 v- y- r[] o[] x{} b0" ∷
    "= 3" ∷
    "8 NonPrim t1 g0 w0 p0@0{8,24,27} a0 v- y- r[] o[] x{} b0" ∷
    "27 NonPrim t1 g0 w0 p0@0{8,24,27} a0 v- y- r[] o[] x{} b0" ∷
    "= 4" ∷
    "24 NonPrim t1 g0 w0 p0@0{8,24,27} a0 v- y- r[] o[] x{} b0" ∷
    "= 5" ∷
    "8 ExchangeStates c2 g0 w0 p0@0{8,24,27} a0 v- y- r[] o[] x{} b0" ∷
    "24 ExchangeStates c2 g0 w0 p0@0{8,24,27} a0 v- y- r[] o[] x{} b0" ∷
    "27 ExchangeStates c2 g0 w0 p0@0{8,24,27} a0 v- y- r[] o[] x{} b0" ∷
    "= 6" ∷
    "8 NonPrim t2 g0 w0 p0@0{8,24,27} a0 v- y- r[] o[] x{} b0" ∷
    "24 NonPrim t2 g0 w0 p0@0{8,24,27} a0 v- y- r[] o[] x{} b0" ∷
    "= 7" ∷
    "8 ExchangeStates c3 g0 w0 p0@0{8,24,27} a0 v- y- r[] o[] x{} b0" ∷
    "24 ExchangeStates c3 g0 w0 p0@0{8,24,27} a0 v- y- r[] o[] x{} b0" ∷
    "= 8" ∷
    "24 ExchangeStates c3 g0 w0 p0@0{8,24,27} a0 v- y- r[] o[] x{} b1" ∷
    "= 11" ∷
    "24 Construct c3 g0 w0 p0@0{8,24,27} a1 v3/0{8,24}{24} y- r[] o[] x{} b1" ∷
    "= 12" ∷
    "8 Construct c3 g0 w0 p0@0{8,24,27} a1 v3/0{8,24}{8} y- r[] o[] x{} b0" ∷
    "= 14" ∷
    "8 RegPrim c3 g0 w0 p1@3{8,24} a0 v3/0{8,24}{8} y- r[] o[] x{} b0" ∷
    "= 15" ∷
    "made 24:1 leave 8" ∷
    "24 RegPrim c3 g0 w0 p1@3{8,24} a0 v3/0{8,24}{24} y- r[] o[24:1] x{} b0" ∷
    "= 17" ∷
    "order 1 24:1" ∷
    "8 RegPrim c3 g1 w0 p1@3{8,24} a0 v3/0{8,24}{8} y- r[] o[] x{8} b0" ∷
    "= 18" ∷
    "24 RegPrim c3 g1 w0 p1@3{8,24} a0 v3/0{8,24}{24} y- r[] o[] x{8} b0" ∷
    "reply 24:1 done" ∷
    "= 19" ∷
    "8 TransPrim t3 g1 w0 p1@3{8,24} a0 v3/0{8,24}{8} y- r[] o[] x{8} b0" ∷
    "24 TransPrim t3 g1 w0 p1@3{8,24} a0 v3/0{8,24}{24} y- r[] o[] x{8} b0" ∷
    "= 20" ∷
    "8 ExchangeStates c4 g1 w0 p1@3{8,24} a0 v- y![] r[] o[] x{8} b0" ∷
    "24 ExchangeStates c4 g1 w0 p1@3{8,24} a0 v- y![] r[] o[] x{8} b0" ∷
    "= 21" ∷
    "8 ExchangeStates c4 g1 w0 p1@3{8,24} a0 v- y![] r[] o[] x{8} b1" ∷
    "= 23" ∷
    "8 Left c4 g1 w0 p1@3{8,24} a0 v- y![] r[] o[] x{8} b0" ∷
    "= 24" ∷
    "24 NonPrim c4 g1 w0 p1@3{8,24} a0 v- y![] r[] o[] x{8} b0" ∷
    "end 24" ∷
    [])
unfolding cases_compute
leaver_drops_its_buffer_b = refl

-- A server that was removed drops its buffered requests.
leaver_drops_its_buffer_c :
    replayed_text (
    "start 1 2 3 4" ∷
    "merge 1 2 3 4" ∷
    "rounds 2" ∷
    "leave 3 4" ∷
    "rounds 1" ∷
    "split 2" ∷
    "split 1 3 4" ∷
    "merge 1 3 4" ∷
    "join 4 6" ∷
    "split 1 3 4" ∷
    "merge 1 2 3 4" ∷
    "rounds 2" ∷
    "end" ∷
    [])
    ≡ written (
    "= 1" ∷
    "1 NonPrim - g0 w0 p0@0{1,2,3,4} a0 v- y- r[] o[] x{} b0" ∷
    "2 NonPrim - g0 w0 p0@0{1,2,3,4} a0 v- y- r[] o[] x{} b0" ∷
    "3 NonPrim - g0 w0 p0@0{1,2,3,4} a0 v- y- r[] o[] x{} b0" ∷
    "4 NonPrim - g0 w0 p0@0{1,2,3,4} a0 v- y- r[] o[] x{} b0" ∷
    "= 2" ∷
    "1 ExchangeStates c1 g0 w0 p0@0{1,2,3,4} a0 v- y- r[] o[] x{} b0" ∷
    "2 ExchangeStates c1 g0 w0 p0@0{1,2,3,4} a0 v- y- r[] o[] x{} b0" ∷
    "3 ExchangeStates c1 g0 w0 p0@0{1,2,3,4} a0 v- y- r[] o[] x{} b0" ∷
    "4 ExchangeStates c1 g0 w0 p0@0{1,2,3,4} a0 v- y- r[] o[] x{} b0" ∷
    "= 4" ∷
    "1 Construct c1 g0 w0 p0@0{1,2,3,4} a1 v1/0{1,2,3,4}{1} y- r[] o[] x{} b0" ∷
    "= 5" ∷
    "2 Construct c1 g0 w0 p0@0{1,2,3,4} a1 v1/0{1,2,3,4}{2} y- r[] o[] x{} b0" ∷
    "= 6" ∷
    "3 Construct c1 g0 w0 p0@0{1,2,3,4} a1 v1/0{1,2,3,4}{3} y- r[] o[] x{} b0" ∷
    "= 7" ∷
    "4 Construct c1 g0 w0 p0@0{1,2,3,4} a1 v1/0{1,2,3,4}{4} y- r[] o[] x{} b0" ∷
    "= 9" ∷
    "1 RegPrim c1 g0 w0 p1@1{1,2,3,4} a0 v1/0{1,2,3,4}{1} y- r[] o[] x{} b0" ∷
    "= 10" ∷
    "2 RegPrim c1 g0 w0 p1@1{1,2,3,4} a0 v1/0{1,2,3,4}{2} y- r[] o[] x{} b0" ∷
    "= 11" ∷
    "3 RegPrim c1 g0 w0 p1@1{1,2,3,4} a0 v1/0{1,2,3,4}{3} y- r[] o[] x{} b0" ∷
    "= 12" ∷
    "4 RegPrim c1 g0 w0 p1@1{1,2,3,4} a0 v1/0{1,2,3,4}{4} y- r[] o[] x{} b0" ∷
    "= 13" ∷
    "made 3:1 leave 4" ∷
    "3 RegPrim c1 g0 w0 p1@1{1,2,3,4} a0 v1/0{1,2,3,4}{3} y- r[] o[3:1] x{} b0" ∷
    "= 15" ∷
    "order 1 3:1" ∷
    "1 RegPrim c1 g1 w0 p1@1{1,2,3,4} a0 v1/0{1,2,3,4}{1} y- r[] o[] x{4} b0" ∷
    "= 16" ∷
    "2 RegPrim c1 g1 w0 p1@1{1,2,3,4} a0 v1/0{1,2,3,4}{2} y- r[] o[] x{4} b0" ∷
    "= 17" ∷
    "3 RegPrim c1 g1 w0 p1@1{1,2,3,4} a0 v1/0{1,2,3,4}{3} y- r[] o[] x{4} b0" ∷
    "reply 3:1 done" ∷
    "= 18" ∷
    "4 RegPrim c1 g1 w0 p1@1{1,2,3,4} a0 v1/0{1,2,3,4}{4} y- r[] o[] x{4} b0" ∷
    "= 19" ∷
    "2 TransPrim t1 g1 w0 p1@1{1,2,3,4} a0 v1/0{1,2,3,4}{2} y- r[] o[] x{4} b0" ∷
    "= 20" ∷
    "1 TransPrim t1 g1 w0 p1@1{1,2,3,4} a0 v1/0{1,2,3,4}{1} y- r[] o[] x{4} b0" ∷
    "3 TransPrim t1 g1 w0 p1@1{1,2,3,4} a0 v1/0{1,2,3,4}{3} y- r[] o[] x{4} b0" ∷
    "4 TransPrim t1 g1 w0 p1@1{1,2,3,4} a0 v1/0{1,2,3,4}{4} y- r[] o[] x{4} b0" ∷
    "= 21" ∷
    "1 ExchangeStates c2 g1 w0 p1@1{1,2,3,4} a0 v- y![] r[] o[] x{4} b0" ∷
    "3 ExchangeStates c2 g1 w0 p1@1{1,2,3,4} a0 v- y![] r[] o[] x{4} b0" ∷
    "4 ExchangeStates c2 g1 w0 p1@1{1,2,3,4} a0 v- y![] r[] o[] x{4} b0" ∷
    "= 22" ∷
    "4 ExchangeStates c2 g1 w0 p1@1{1,2,3,4} a0 v- y![] r[] o[] x{4} b1" ∷
    "= 23" ∷
    "1 NonPrim t2 g1 w0 p1@1{1,2,3,4} a0 v- y![] r[] o[] x{4} b0" ∷
    "3 NonPrim t2 g1 w0 p1@1{1,2,3,4} a0 v- y![] r[] o[] x{4} b0" ∷
    "4 NonPrim t2 g1 w0 p1@1{1,2,3,4} a0 v- y![] r[] o[] x{4} b1" ∷
    "= 24" ∷
    "1 ExchangeStates c3 g1 w0 p1@1{1,2,3,4} a0 v- y![] r[] o[] x{4} b0" ∷
    "2 ExchangeStates c3 g1 w0 p1@1{1,2,3,4} a0 v- y![] r[] o[] x{4} b0" ∷
    "3 ExchangeStates c3 g1 w0 p1@1{1,2,3,4} a0 v- y![] r[] o[] x{4} b0" ∷
    "4 ExchangeStates c3 g1 w0 p1@1{1,2,3,4} a0 v- y![] r[] o[] x{4} b1" ∷
    "= 26" ∷
    "1 Construct c3 g1 w0 p1@1{1,2,3,4} a1 v3/1{1,2,3}{1} y![] r[] o[] x{4} b0" ∷
    "= 27" ∷
    "2 Construct c3 g1 w0 p1@1{1,2,3,4} a1 v3/1{1,2,3}{2} y![] r[] o[] x{4} b0" ∷
    "= 28" ∷
    "3 Construct c3 g1 w0 p1@1{1,2,3,4} a1 v3/1{1,2,3}{3} y![] r[] o[] x{4} b0" ∷
    "= 29" ∷
    "4 Left c3 g1 w0 p1@1{1,2,3,4} a0 v- y![] r[] o[] x{4} b0" ∷
    "= 31" ∷
    "1 RegPrim c3 g1 w0 p2@3{1,2,3} a0 v3/1{1,2,3}{1} y- r[] o[] x{4} b0" ∷
    "= 32" ∷
    "2 RegPrim c3 g1 w0 p2@3{1,2,3} a0 v3/1{1,2,3}{2} y- r[] o[] x{4} b0" ∷
    "= 33" ∷
    "3 RegPrim c3 g1 w0 p2@3{1,2,3} a0 v3/1{1,2,3}{3} y- r[] o[] x{4} b0" ∷
    "end 34" ∷
    [])
unfolding cases_compute
leaver_drops_its_buffer_c = refl
