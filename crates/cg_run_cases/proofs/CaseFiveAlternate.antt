-- Five replicas: requests that are kept, actions that are aborted, and at the end a place that was received before.
use Rattle.std.specs.Prelude.{◌≡◌, [], ◌∷◌}
use mathlib.Core.Path.{refl}
use Rattle.cg_run_cases.specs.Replaying.{replayed_text, written}
use Rattle.cg_run_cases.specs.Computing.{cases_compute}

five_alternate :
    replayed_text (
    "start 1 2 3 4 5" ∷
    "merge 1 2 3 4 5" ∷
    "gather" ∷
    "deliver 1 5" ∷
    "request 2 inc \"b\" -2 ? count" ∷
    "gather" ∷
    "deliver 1 1" ∷
    "request 4 del \"a\"; put \"z\" 52; put \"abc\" 72; move \"b\" \"b\" 9223372036854775807; inc \"a\" 2; inc \"ab\" 3; move \"b\" \"x\" 9223372036854775807; inc \"z\" 1; inc \"ab\" 6; need \"x\" -3; put \"a\" 61; put \"y\" 40; cas \"a\" 9 2; put \"ab\" 98; cas \"z\" absent 83; put \"x\" \"-1\"" ∷
    "request 4 inc \"b\" 11; inc \"a\" 2; move \"z\" \"x\" 9223372036854775807; need \"y\" -1" ∷
    "deliver 3 6" ∷
    "deliver 2 6" ∷
    "request 2 move \"z\" \"x\" 0 ? get \"z\"" ∷
    "rounds 1" ∷
    "request 4 cas \"ab\" absent 29" ∷
    "rounds 3" ∷
    "request 1 need \"z\" absent; need \"z\" absent; inc \"x\" 3; put \"x\" 79; put \"z\" -6; move \"y\" \"a\" 1; inc \"z\" -2; put \"ab\" 0; inc \"ab\" 2; need \"y\" absent; put \"a\" -8; put \"z\" 64; del \"k2\"; put \"z\" \"\u{80}\"; inc \"ab\" 9; cas \"a\" -9223372036854775807 \"back\\\\slash\"" ∷
    "request 2 inc \"x\" 11; inc \"z\" 1" ∷
    "receive 1 7" ∷
    "end" ∷
    [])
    ≡ written (
    "= 1" ∷
    "1 NonPrim - g0 w0 p0@0{1,2,3,4,5} a0 v- y- r[] o[] x{} b0" ∷
    "2 NonPrim - g0 w0 p0@0{1,2,3,4,5} a0 v- y- r[] o[] x{} b0" ∷
    "3 NonPrim - g0 w0 p0@0{1,2,3,4,5} a0 v- y- r[] o[] x{} b0" ∷
    "4 NonPrim - g0 w0 p0@0{1,2,3,4,5} a0 v- y- r[] o[] x{} b0" ∷
    "5 NonPrim - g0 w0 p0@0{1,2,3,4,5} a0 v- y- r[] o[] x{} b0" ∷
    "= 2" ∷
    "1 ExchangeStates c1 g0 w0 p0@0{1,2,3,4,5} a0 v- y- r[] o[] x{} b0" ∷
    "2 ExchangeStates c1 g0 w0 p0@0{1,2,3,4,5} a0 v- y- r[] o[] x{} b0" ∷
    "3 ExchangeStates c1 g0 w0 p0@0{1,2,3,4,5} a0 v- y- r[] o[] x{} b0" ∷
    "4 ExchangeStates c1 g0 w0 p0@0{1,2,3,4,5} a0 v- y- r[] o[] x{} b0" ∷
    "5 ExchangeStates c1 g0 w0 p0@0{1,2,3,4,5} a0 v- y- r[] o[] x{} b0" ∷
    "= 4" ∷
    "1 Construct c1 g0 w0 p0@0{1,2,3,4,5} a1 v1/0{1,2,3,4,5}{1} y- r[] o[] x{} b0" ∷
    "= 5" ∷
    "2 ExchangeStates c1 g0 w0 p0@0{1,2,3,4,5} a0 v- y- r[] o[] x{} b1" ∷
    "= 8" ∷
    "4 ExchangeStates c1 g0 w0 p0@0{1,2,3,4,5} a0 v- y- r[] o[] x{} b1" ∷
    "= 9" ∷
    "4 ExchangeStates c1 g0 w0 p0@0{1,2,3,4,5} a0 v- y- r[] o[] x{} b2" ∷
    "= 10" ∷
    "3 Construct c1 g0 w0 p0@0{1,2,3,4,5} a1 v1/0{1,2,3,4,5}{3} y- r[] o[] x{} b0" ∷
    "= 11" ∷
    "2 Construct c1 g0 w0 p0@0{1,2,3,4,5} a1 v1/0{1,2,3,4,5}{2} y- r[] o[] x{} b1" ∷
    "= 12" ∷
    "2 Construct c1 g0 w0 p0@0{1,2,3,4,5} a1 v1/0{1,2,3,4,5}{2} y- r[] o[] x{} b2" ∷
    "= 17" ∷
    "4 Construct c1 g0 w0 p0@0{1,2,3,4,5} a1 v1/0{1,2,3,4,5}{4} y- r[] o[] x{} b2" ∷
    "= 18" ∷
    "5 Construct c1 g0 w0 p0@0{1,2,3,4,5} a1 v1/0{1,2,3,4,5}{5} y- r[] o[] x{} b0" ∷
    "= 19" ∷
    "4 Construct c1 g0 w0 p0@0{1,2,3,4,5} a1 v1/0{1,2,3,4,5}{4} y- r[] o[] x{} b3" ∷
    "= 21" ∷
    "1 RegPrim c1 g0 w0 p1@1{1,2,3,4,5} a0 v1/0{1,2,3,4,5}{1} y- r[] o[] x{} b0" ∷
    "= 22" ∷
    "made 2:1 inc \"b\" -2 ? count" ∷
    "made 2:2 move \"z\" \"x\" 0 ? get \"z\"" ∷
    "2 RegPrim c1 g0 w0 p1@1{1,2,3,4,5} a0 v1/0{1,2,3,4,5}{2} y- r[] o[2:1,2:2] x{} b0" ∷
    "= 23" ∷
    "3 RegPrim c1 g0 w0 p1@1{1,2,3,4,5} a0 v1/0{1,2,3,4,5}{3} y- r[] o[] x{} b0" ∷
    "= 24" ∷
    "made 4:1 del \"a\"; put \"z\" 52; put \"abc\" 72; move \"b\" \"b\" 9223372036854775807; inc \"a\" 2; inc \"ab\" 3; move \"b\" \"x\" 9223372036854775807; inc \"z\" 1; inc \"ab\" 6; need \"x\" -3; put \"a\" 61; put \"y\" 40; cas \"a\" 9 2; put \"ab\" 98; cas \"z\" absent 83; put \"x\" \"-1\"" ∷
    "made 4:2 inc \"b\" 11; inc \"a\" 2; move \"z\" \"x\" 9223372036854775807; need \"y\" -1" ∷
    "made 4:3 cas \"ab\" absent 29" ∷
    "4 RegPrim c1 g0 w0 p1@1{1,2,3,4,5} a0 v1/0{1,2,3,4,5}{4} y- r[] o[4:1,4:2,4:3] x{} b0" ∷
    "= 25" ∷
    "5 RegPrim c1 g0 w0 p1@1{1,2,3,4,5} a0 v1/0{1,2,3,4,5}{5} y- r[] o[] x{} b0" ∷
    "= 27" ∷
    "order 1 2:1" ∷
    "order 2 2:2" ∷
    "order 3 4:1" ∷
    "order 4 4:2" ∷
    "order 5 4:3" ∷
    "1 RegPrim c1 g5 w0 p1@1{1,2,3,4,5} a0 v1/0{1,2,3,4,5}{1} y- r[] o[] x{} b0" ∷
    "= 28" ∷
    "2 RegPrim c1 g5 w0 p1@1{1,2,3,4,5} a0 v1/0{1,2,3,4,5}{2} y- r[] o[] x{} b0" ∷
    "reply 2:1 done ? count 1" ∷
    "reply 2:2 done ? 0" ∷
    "= 29" ∷
    "3 RegPrim c1 g5 w0 p1@1{1,2,3,4,5} a0 v1/0{1,2,3,4,5}{3} y- r[] o[] x{} b0" ∷
    "= 30" ∷
    "4 RegPrim c1 g5 w0 p1@1{1,2,3,4,5} a0 v1/0{1,2,3,4,5}{4} y- r[] o[] x{} b0" ∷
    "reply 4:1 aborted 4" ∷
    "reply 4:2 aborted 3" ∷
    "reply 4:3 done" ∷
    "= 31" ∷
    "5 RegPrim c1 g5 w0 p1@1{1,2,3,4,5} a0 v1/0{1,2,3,4,5}{5} y- r[] o[] x{} b0" ∷
    "= 33" ∷
    "made 1:1 need \"z\" absent; need \"z\" absent; inc \"x\" 3; put \"x\" 79; put \"z\" -6; move \"y\" \"a\" 1; inc \"z\" -2; put \"ab\" 0; inc \"ab\" 2; need \"y\" absent; put \"a\" -8; put \"z\" 64; del \"k2\"; put \"z\" \"\u{80}\"; inc \"ab\" 9; cas \"a\" -9223372036854775807 \"back\\\\slash\"" ∷
    "1 RegPrim c1 g5 w0 p1@1{1,2,3,4,5} a0 v1/0{1,2,3,4,5}{1} y- r[] o[1:1] x{} b0" ∷
    "= 34" ∷
    "made 2:3 inc \"x\" 11; inc \"z\" 1" ∷
    "2 RegPrim c1 g5 w0 p1@1{1,2,3,4,5} a0 v1/0{1,2,3,4,5}{2} y- r[] o[2:3] x{} b0" ∷
    "refused 18 5 7" ∷
    [])
unfolding cases_compute
five_alternate = refl
