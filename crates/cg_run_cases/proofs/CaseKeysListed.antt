-- Keys that are listed, databases that are shown, and an event of a replica that has not begun.
use Rattle.std.specs.Prelude.{◌≡◌, [], ◌∷◌}
use mathlib.Core.Path.{refl}
use Rattle.cg_run_cases.specs.Replaying.{replayed_text, written}
use Rattle.cg_run_cases.specs.Computing.{cases_compute}

keys_listed :
    replayed_text (
    "start 1 2" ∷
    "merge 1 2" ∷
    "rounds 2" ∷
    "request 2 inc \"a\" -1; inc \"k1\" 2; inc \"x\" 0" ∷
    "rounds 3" ∷
    "request 2 inc \"y\" 6 ? keys \"\"" ∷
    "show order" ∷
    "show 1" ∷
    "order 2" ∷
    "gather" ∷
    "show 1" ∷
    "request 2 del \"y\"; put \"x\" 74; put \"x\" \"12\"; need \"a\" -4; inc \"b\" 11; del \"k1\"; put \"a\" 28; need \"a\" 30; put \"k2\" 10; move \"x\" \"z\" 5; inc \"b\" 12; cas \"y\" \"\u{10ffff}\" 0; inc \"x\" -2; put \"z\" 52; del \"a\"; move \"k1\" \"k1\" 9223372036854775807" ∷
    "deliver 1 1" ∷
    "deliver 2 1" ∷
    "order 2" ∷
    "request 1 inc \"y\" 7" ∷
    "order 1" ∷
    "show 2" ∷
    "request 2 put \"x\" 92" ∷
    "receive 2 8" ∷
    "request 1 need \"z\" -2; cas \"z\" absent 7" ∷
    "request 2 del \"x\" ? get \"b\"" ∷
    "order 2" ∷
    "request 2 inc \"a\" 1" ∷
    "order 11" ∷
    "end" ∷
    [])
    ≡ written (
    "= 1" ∷
    "1 NonPrim - g0 w0 p0@0{1,2} a0 v- y- r[] o[] x{} b0" ∷
    "2 NonPrim - g0 w0 p0@0{1,2} a0 v- y- r[] o[] x{} b0" ∷
    "= 2" ∷
    "1 ExchangeStates c1 g0 w0 p0@0{1,2} a0 v- y- r[] o[] x{} b0" ∷
    "2 ExchangeStates c1 g0 w0 p0@0{1,2} a0 v- y- r[] o[] x{} b0" ∷
    "= 4" ∷
    "1 Construct c1 g0 w0 p0@0{1,2} a1 v1/0{1,2}{1} y- r[] o[] x{} b0" ∷
    "= 5" ∷
    "2 Construct c1 g0 w0 p0@0{1,2} a1 v1/0{1,2}{2} y- r[] o[] x{} b0" ∷
    "= 7" ∷
    "1 RegPrim c1 g0 w0 p1@1{1,2} a0 v1/0{1,2}{1} y- r[] o[] x{} b0" ∷
    "= 8" ∷
    "2 RegPrim c1 g0 w0 p1@1{1,2} a0 v1/0{1,2}{2} y- r[] o[] x{} b0" ∷
    "= 9" ∷
    "made 2:1 inc \"a\" -1; inc \"k1\" 2; inc \"x\" 0" ∷
    "2 RegPrim c1 g0 w0 p1@1{1,2} a0 v1/0{1,2}{2} y- r[] o[2:1] x{} b0" ∷
    "= 11" ∷
    "order 1 2:1" ∷
    "1 RegPrim c1 g1 w0 p1@1{1,2} a0 v1/0{1,2}{1} y- r[] o[] x{} b0" ∷
    "= 12" ∷
    "2 RegPrim c1 g1 w0 p1@1{1,2} a0 v1/0{1,2}{2} y- r[] o[] x{} b0" ∷
    "reply 2:1 done" ∷
    "= 15" ∷
    "made 2:2 inc \"y\" 6 ? keys \"\"" ∷
    "2 RegPrim c1 g1 w0 p1@1{1,2} a0 v1/0{1,2}{2} y- r[] o[2:2] x{} b0" ∷
    "= 16" ∷
    "all [2:1]" ∷
    "= 17" ∷
    "greens 1 [2:1]" ∷
    "db 1 \"a\"=-1 \"k1\"=2 \"x\"=0" ∷
    "= 20" ∷
    "greens 1 [2:1]" ∷
    "db 1 \"a\"=-1 \"k1\"=2 \"x\"=0" ∷
    "= 21" ∷
    "made 2:3 del \"y\"; put \"x\" 74; put \"x\" \"12\"; need \"a\" -4; inc \"b\" 11; del \"k1\"; put \"a\" 28; need \"a\" 30; put \"k2\" 10; move \"x\" \"z\" 5; inc \"b\" 12; cas \"y\" \"\u{10ffff}\" 0; inc \"x\" -2; put \"z\" 52; del \"a\"; move \"k1\" \"k1\" 9223372036854775807" ∷
    "2 RegPrim c1 g1 w0 p1@1{1,2} a0 v1/0{1,2}{2} y- r[] o[2:2,2:3] x{} b0" ∷
    "= 22" ∷
    "order 2 2:2" ∷
    "1 RegPrim c1 g2 w0 p1@1{1,2} a0 v1/0{1,2}{1} y- r[] o[] x{} b0" ∷
    "= 23" ∷
    "2 RegPrim c1 g2 w0 p1@1{1,2} a0 v1/0{1,2}{2} y- r[] o[2:3] x{} b0" ∷
    "reply 2:2 done ? keys \"a\" \"k1\" \"x\" \"y\"" ∷
    "= 25" ∷
    "made 1:1 inc \"y\" 7" ∷
    "1 RegPrim c1 g2 w0 p1@1{1,2} a0 v1/0{1,2}{1} y- r[] o[1:1] x{} b0" ∷
    "= 27" ∷
    "greens 2 [2:1,2:2]" ∷
    "db 2 \"a\"=-1 \"k1\"=2 \"x\"=0 \"y\"=6" ∷
    "= 28" ∷
    "made 2:4 put \"x\" 92" ∷
    "2 RegPrim c1 g2 w0 p1@1{1,2} a0 v1/0{1,2}{2} y- r[] o[2:3,2:4] x{} b0" ∷
    "= 30" ∷
    "made 1:2 need \"z\" -2; cas \"z\" absent 7" ∷
    "1 RegPrim c1 g2 w0 p1@1{1,2} a0 v1/0{1,2}{1} y- r[] o[1:1,1:2] x{} b0" ∷
    "= 31" ∷
    "made 2:5 del \"x\" ? get \"b\"" ∷
    "2 RegPrim c1 g2 w0 p1@1{1,2} a0 v1/0{1,2}{2} y- r[] o[2:3,2:4,2:5] x{} b0" ∷
    "= 33" ∷
    "made 2:6 inc \"a\" 1" ∷
    "2 RegPrim c1 g2 w0 p1@1{1,2} a0 v1/0{1,2}{2} y- r[] o[2:3,2:4,2:5,2:6] x{} b0" ∷
    "refused 25 11 11" ∷
    [])
unfolding cases_compute
keys_listed = refl
