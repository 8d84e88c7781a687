-- A request that comes before the primary component is formed is kept, and made once it is formed.
use Rattle.std.specs.Prelude.{◌≡◌, [], ◌∷◌}
use mathlib.Core.Path.{refl}
use Rattle.cg_run_cases.specs.Replaying.{replayed_text, written}
use Rattle.cg_run_cases.specs.Computing.{cases_compute}

kept_request :
    replayed_text (
    "start 1 2 3" ∷
    "merge 1 2 3" ∷
    "order 2" ∷
    "request 2 inc \"z\" -3" ∷
    "request 1 move \"a\" \"x\" 1; need \"a\" absent; inc \"z\" 4; inc \"\\\\\" 11; cas \"x\" \"v\" \"absent\"; put \"\\\"\" \"yes \\\"no\\\"\"; put \"k1\" \"\u{80}\"; del \"y\"; inc \"x\" 1; put \"x\" \"; ? #\"; put \"z\" \"hi\"; inc \"é\" 3; put \"日本\" \"back\\\\slash\"; cas \"a\" \"hi\" \"; ? #\"; put \"b\" \"hi\"; inc \"x\" 8" ∷
    "receive 1 1" ∷
    "request 2 inc \"k2\" -1" ∷
    "rounds 2" ∷
    "rounds 3" ∷
    "request 3 inc \"y\" 11 ?\tget \"x\"" ∷
    "gather" ∷
    "end" ∷
    [])
    ≡ written (
    "= 1" ∷
    "1 NonPrim - g0 w0 p0@0{1,2,3} a0 v- y- r[] o[] x{} b0" ∷
    "2 NonPrim - g0 w0 p0@0{1,2,3} a0 v- y- r[] o[] x{} b0" ∷
    "3 NonPrim - g0 w0 p0@0{1,2,3} a0 v- y- r[] o[] x{} b0" ∷
    "= 2" ∷
    "1 ExchangeStates c1 g0 w0 p0@0{1,2,3} a0 v- y- r[] o[] x{} b0" ∷
    "2 ExchangeStates c1 g0 w0 p0@0{1,2,3} a0 v- y- r[] o[] x{} b0" ∷
    "3 ExchangeStates c1 g0 w0 p0@0{1,2,3} a0 v- y- r[] o[] x{} b0" ∷
    "= 4" ∷
    "2 ExchangeStates c1 g0 w0 p0@0{1,2,3} a0 v- y- r[] o[] x{} b1" ∷
    "= 5" ∷
    "1 ExchangeStates c1 g0 w0 p0@0{1,2,3} a0 v- y- r[] o[] x{} b1" ∷
    "= 7" ∷
    "2 ExchangeStates c1 g0 w0 p0@0{1,2,3} a0 v- y- r[] o[] x{} b2" ∷
    "= 9" ∷
    "1 Construct c1 g0 w0 p0@0{1,2,3} a1 v1/0{1,2,3}{1} y- r[] o[] x{} b1" ∷
    "= 10" ∷
    "2 Construct c1 g0 w0 p0@0{1,2,3} a1 v1/0{1,2,3}{2} y- r[] o[] x{} b2" ∷
    "= 11" ∷
    "3 Construct c1 g0 w0 p0@0{1,2,3} a1 v1/0{1,2,3}{3} y- r[] o[] x{} b0" ∷
    "= 13" ∷
    "made 1:1 move \"a\" \"x\" 1; need \"a\" absent; inc \"z\" 4; inc \"\\\\\" 11; cas \"x\" \"v\" \"absent\"; put \"\\\"\" \"yes \\\"no\\\"\"; put \"k1\" \"\u{80}\"; del \"y\"; inc \"x\" 1; put \"x\" \"; ? #\"; put \"z\" \"hi\"; inc \"é\" 3; put \"日本\" \"back\\\\slash\"; cas \"a\" \"hi\" \"; ? #\"; put \"b\" \"hi\"; inc \"x\" 8" ∷
    "1 RegPrim c1 g0 w0 p1@1{1,2,3} a0 v1/0{1,2,3}{1} y- r[] o[1:1] x{} b0" ∷
    "= 14" ∷
    "made 2:1 inc \"z\" -3" ∷
    "made 2:2 inc \"k2\" -1" ∷
    "2 RegPrim c1 g0 w0 p1@1{1,2,3} a0 v1/0{1,2,3}{2} y- r[] o[2:1,2:2] x{} b0" ∷
    "= 15" ∷
    "3 RegPrim c1 g0 w0 p1@1{1,2,3} a0 v1/0{1,2,3}{3} y- r[] o[] x{} b0" ∷
    "= 17" ∷
    "order 1 1:1" ∷
    "order 2 2:1" ∷
    "order 3 2:2" ∷
    "1 RegPrim c1 g3 w0 p1@1{1,2,3} a0 v1/0{1,2,3}{1} y- r[] o[] x{} b0" ∷
    "reply 1:1 aborted 1" ∷
    "= 18" ∷
    "2 RegPrim c1 g3 w0 p1@1{1,2,3} a0 v1/0{1,2,3}{2} y- r[] o[] x{} b0" ∷
    "reply 2:1 done" ∷
    "reply 2:2 done" ∷
    "= 19" ∷
    "3 RegPrim c1 g3 w0 p1@1{1,2,3} a0 v1/0{1,2,3}{3} y- r[] o[] x{} b0" ∷
    "= 22" ∷
    "made 3:1 inc \"y\" 11 ? get \"x\"" ∷
    "3 RegPrim c1 g3 w0 p1@1{1,2,3} a0 v1/0{1,2,3}{3} y- r[] o[3:1] x{} b0" ∷
    "end 23" ∷
    [])
unfolding cases_compute
kept_request = refl
