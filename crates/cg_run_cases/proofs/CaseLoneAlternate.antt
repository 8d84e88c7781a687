-- A long run of a replica alone: what is added to a text, or moved from a key that has too little, is aborted at its place.
use Rattle.std.specs.Prelude.{◌≡◌, [], ◌∷◌}
use mathlib.Core.Path.{refl}
use Rattle.cg_run_cases.specs.Replaying.{replayed_text, written}
use Rattle.cg_run_cases.specs.Computing.{cases_compute}

lone_alternate :
    replayed_text (
    "start 1" ∷
    "merge 1" ∷
    "rounds 2" ∷
    "request 1 put \"b\" \"\u{10ffff}\"" ∷
    "rounds 1" ∷
    "request 1 need \"z\" \"; ? #\"" ∷
    "rounds 3" ∷
    "request 1 move \"y\" \"z\" 3 ? get \"x\"" ∷
    "rounds 3" ∷
    "show order" ∷
    "request 1 cas \"ab\" \"\" 93; inc \"ab\" 2; inc \"b\" 5 ? get \"ab\"" ∷
    "rounds 1" ∷
    "request 1 inc \"abc\" 10; inc \"b\" 11 ? keys \"\"" ∷
    "request 1 inc \"y\" 10; inc \"z\" 8" ∷
    "request 1 move \"ab\" \"x\" 0" ∷
    "rounds 1" ∷
    "request 1 inc \"a\" 12" ∷
    "request 1 inc \"b\" 6" ∷
    "request 1 inc \"a\" 0 ? get \"z\"" ∷
    "request 1 inc \"y\" -2" ∷
    "rounds 1" ∷
    "request 1 inc \"ab\" -1" ∷
    "rounds 1" ∷
    "request 1 inc \"y\" 5" ∷
    "request 1 ? get \"x\"" ∷
    "request 1 move \"ab\" \"ab\" 3" ∷
    "request 1 inc \"b\" 2; cas \"a\" absent \"üß\"; inc \"x\" 5; put \"ab\" 60; inc \"z\" 4; need \"z\" absent; inc \"ab\" -2; inc \"x\" 7; cas \"k1\" absent 42; need \"x\" absent; del \"ab\"; del \"b\"; put \"a\" 32; put \"a\" 56; move \"z\" \"y\" 1; inc \"y\" -9223372036854775808" ∷
    "rounds 3" ∷
    "rounds 3" ∷
    "rounds 1" ∷
    "request 1 put \"a\" 63" ∷
    "request 1 inc \"x\" 9" ∷
    "request 1 inc \"b\" 4" ∷
    "request 1 inc \"a\" 4" ∷
    "request 1 ? keys \"q\"" ∷
    "request 1 put \"z\" \"\u{80}\"" ∷
    "rounds 2" ∷
    "request 1 del \"x\" ? count" ∷
    "request 1 del \"y\"" ∷
    "request 1 inc \"y\" -1 ? get \"a\"" ∷
    "request 1 move \"a\" \"z\" 2" ∷
    "rounds 3" ∷
    "request 1 inc \"z\" 5; inc \"k1\" 6 ? get \"abc\"" ∷
    "request 1 ? get \"z\"" ∷
    "request 1 put \"x\" 51 ? keys \"q\"" ∷
    "request 1 put \"y\" 25" ∷
    "request 1 put \"abc\" 97 ? get \"ab\"" ∷
    "end" ∷
    [])
    ≡ written (
    "= 1" ∷
    "1 NonPrim - g0 w0 p0@0{1} a0 v- y- r[] o[] x{} b0" ∷
    "= 2" ∷
    "1 ExchangeStates c1 g0 w0 p0@0{1} a0 v- y- r[] o[] x{} b0" ∷
    "= 4" ∷
    "1 Construct c1 g0 w0 p0@0{1} a1 v1/0{1}{1} y- r[] o[] x{} b0" ∷
    "= 6" ∷
    "1 RegPrim c1 g0 w0 p1@1{1} a0 v1/0{1}{1} y- r[] o[] x{} b0" ∷
    "= 7" ∷
    "made 1:1 put \"b\" \"\u{10ffff}\"" ∷
    "1 RegPrim c1 g0 w0 p1@1{1} a0 v1/0{1}{1} y- r[] o[1:1] x{} b0" ∷
    "= 9" ∷
    "order 1 1:1" ∷
    "1 RegPrim c1 g1 w0 p1@1{1} a0 v1/0{1}{1} y- r[] o[] x{} b0" ∷
    "reply 1:1 done" ∷
    "= 10" ∷
    "made 1:2 need \"z\" \"; ? #\"" ∷
    "1 RegPrim c1 g1 w0 p1@1{1} a0 v1/0{1}{1} y- r[] o[1:2] x{} b0" ∷
    "= 12" ∷
    "order 2 1:2" ∷
    "1 RegPrim c1 g2 w1 p1@1{1} a0 v1/0{1}{1} y- r[] o[] x{} b0" ∷
    "reply 1:2 aborted 1" ∷
    "= 15" ∷
    "made 1:3 move \"y\" \"z\" 3 ? get \"x\"" ∷
    "1 RegPrim c1 g2 w1 p1@1{1} a0 v1/0{1}{1} y- r[] o[1:3] x{} b0" ∷
    "= 17" ∷
    "order 3 1:3" ∷
    "1 RegPrim c1 g3 w2 p1@1{1} a0 v1/0{1}{1} y- r[] o[] x{} b0" ∷
    "reply 1:3 aborted 1 ? absent" ∷
    "= 20" ∷
    "all [1:1,1:2,1:3]" ∷
    "= 21" ∷
    "made 1:4 cas \"ab\" \"\" 93; inc \"ab\" 2; inc \"b\" 5 ? get \"ab\"" ∷
    "1 RegPrim c1 g3 w2 p1@1{1} a0 v1/0{1}{1} y- r[] o[1:4] x{} b0" ∷
    "= 23" ∷
    "order 4 1:4" ∷
    "1 RegPrim c1 g4 w3 p1@1{1} a0 v1/0{1}{1} y- r[] o[] x{} b0" ∷
    "reply 1:4 aborted 3 ? absent" ∷
    "= 24" ∷
    "made 1:5 inc \"abc\" 10; inc \"b\" 11 ? keys \"\"" ∷
    "1 RegPrim c1 g4 w3 p1@1{1} a0 v1/0{1}{1} y- r[] o[1:5] x{} b0" ∷
    "= 25" ∷
    "made 1:6 inc \"y\" 10; inc \"z\" 8" ∷
    "1 RegPrim c1 g4 w3 p1@1{1} a0 v1/0{1}{1} y- r[] o[1:5,1:6] x{} b0" ∷
    "= 26" ∷
    "made 1:7 move \"ab\" \"x\" 0" ∷
    "1 RegPrim c1 g4 w3 p1@1{1} a0 v1/0{1}{1} y- r[] o[1:5,1:6,1:7] x{} b0" ∷
    "= 28" ∷
    "order 5 1:5" ∷
    "order 6 1:6" ∷
    "order 7 1:7" ∷
    "1 RegPrim c1 g7 w4 p1@1{1} a0 v1/0{1}{1} y- r[] o[] x{} b0" ∷
    "reply 1:5 aborted 2 ? keys \"b\"" ∷
    "reply 1:6 done" ∷
    "reply 1:7 done" ∷
    "= 29" ∷
    "made 1:8 inc \"a\" 12" ∷
    "1 RegPrim c1 g7 w4 p1@1{1} a0 v1/0{1}{1} y- r[] o[1:8] x{} b0" ∷
    "= 30" ∷
    "made 1:9 inc \"b\" 6" ∷
    "1 RegPrim c1 g7 w4 p1@1{1} a0 v1/0{1}{1} y- r[] o[1:8,1:9] x{} b0" ∷
    "= 31" ∷
    "made 1:10 inc \"a\" 0 ? get \"z\"" ∷
    "1 RegPrim c1 g7 w4 p1@1{1} a0 v1/0{1}{1} y- r[] o[1:8,1:9,1:10] x{} b0" ∷
    "= 32" ∷
    "made 1:11 inc \"y\" -2" ∷
    "1 RegPrim c1 g7 w4 p1@1{1} a0 v1/0{1}{1} y- r[] o[1:8,1:9,1:10,1:11] x{} b0" ∷
    "= 34" ∷
    "order 8 1:8" ∷
    "order 9 1:9" ∷
    "order 10 1:10" ∷
    "order 11 1:11" ∷
    "1 RegPrim c1 g11 w7 p1@1{1} a0 v1/0{1}{1} y- r[] o[] x{} b0" ∷
    "reply 1:8 done" ∷
    "reply 1:9 aborted 1" ∷
    "reply 1:10 done ? 8" ∷
    "reply 1:11 done" ∷
    "= 35" ∷
    "made 1:12 inc \"ab\" -1" ∷
    "1 RegPrim c1 g11 w7 p1@1{1} a0 v1/0{1}{1} y- r[] o[1:12] x{} b0" ∷
    "= 37" ∷
    "order 12 1:12" ∷
    "1 RegPrim c1 g12 w11 p1@1{1} a0 v1/0{1}{1} y- r[] o[] x{} b0" ∷
    "reply 1:12 done" ∷
    "= 38" ∷
    "made 1:13 inc \"y\" 5" ∷
    "1 RegPrim c1 g12 w11 p1@1{1} a0 v1/0{1}{1} y- r[] o[1:13] x{} b0" ∷
    "= 39" ∷
    "made 1:14 ? get \"x\"" ∷
    "1 RegPrim c1 g12 w11 p1@1{1} a0 v1/0{1}{1} y- r[] o[1:13,1:14] x{} b0" ∷
    "= 40" ∷
    "made 1:15 move \"ab\" \"ab\" 3" ∷
    "1 RegPrim c1 g12 w11 p1@1{1} a0 v1/0{1}{1} y- r[] o[1:13,1:14,1:15] x{} b0" ∷
    "= 41" ∷
    "made 1:16 inc \"b\" 2; cas \"a\" absent \"üß\"; inc \"x\" 5; put \"ab\" 60; inc \"z\" 4; need \"z\" absent; inc \"ab\" -2; inc \"x\" 7; cas \"k1\" absent 42; need \"x\" absent; del \"ab\"; del \"b\"; put \"a\" 32; put \"a\" 56; move \"z\" \"y\" 1; inc \"y\" -9223372036854775808" ∷
    "1 RegPrim c1 g12 w11 p1@1{1} a0 v1/0{1}{1} y- r[] o[1:13,1:14,1:15,1:16] x{} b0" ∷
    "= 43" ∷
    "order 13 1:13" ∷
    "order 14 1:14" ∷
    "order 15 1:15" ∷
    "order 16 1:16" ∷
    "1 RegPrim c1 g16 w12 p1@1{1} a0 v1/0{1}{1} y- r[] o[] x{} b0" ∷
    "reply 1:13 done" ∷
    "reply 1:14 done ? 0" ∷
    "reply 1:15 aborted 1" ∷
    "reply 1:16 aborted 1" ∷
    "= 50" ∷
    "made 1:17 put \"a\" 63" ∷
    "1 RegPrim c1 g16 w12 p1@1{1} a0 v1/0{1}{1} y- r[] o[1:17] x{} b0" ∷
    "= 51" ∷
    "made 1:18 inc \"x\" 9" ∷
    "1 RegPrim c1 g16 w12 p1@1{1} a0 v1/0{1}{1} y- r[] o[1:17,1:18] x{} b0" ∷
    "= 52" ∷
    "made 1:19 inc \"b\" 4" ∷
    "1 RegPrim c1 g16 w12 p1@1{1} a0 v1/0{1}{1} y- r[] o[1:17,1:18,1:19] x{} b0" ∷
    "= 53" ∷
    "made 1:20 inc \"a\" 4" ∷
    "1 RegPrim c1 g16 w12 p1@1{1} a0 v1/0{1}{1} y- r[] o[1:17,1:18,1:19,1:20] x{} b0" ∷
    "= 54" ∷
    "made 1:21 ? keys \"q\"" ∷
    "1 RegPrim c1 g16 w12 p1@1{1} a0 v1/0{1}{1} y- r[] o[1:17,1:18,1:19,1:20,1:21] x{} b0" ∷
    "= 55" ∷
    "made 1:22 put \"z\" \"\u{80}\"" ∷
    "1 RegPrim c1 g16 w12 p1@1{1} a0 v1/0{1}{1} y- r[] o[1:17,1:18,1:19,1:20,1:21,1:22] x{} b0" ∷
    "= 57" ∷
    "order 17 1:17" ∷
    "order 18 1:18" ∷
    "order 19 1:19" ∷
    "order 20 1:20" ∷
    "order 21 1:21" ∷
    "order 22 1:22" ∷
    "1 RegPrim c1 g22 w16 p1@1{1} a0 v1/0{1}{1} y- r[] o[] x{} b0" ∷
    "reply 1:17 done" ∷
    "reply 1:18 done" ∷
    "reply 1:19 aborted 1" ∷
    "reply 1:20 done" ∷
    "reply 1:21 done ? keys" ∷
    "reply 1:22 done" ∷
    "= 59" ∷
    "made 1:23 del \"x\" ? count" ∷
    "1 RegPrim c1 g22 w16 p1@1{1} a0 v1/0{1}{1} y- r[] o[1:23] x{} b0" ∷
    "= 60" ∷
    "made 1:24 del \"y\"" ∷
    "1 RegPrim c1 g22 w16 p1@1{1} a0 v1/0{1}{1} y- r[] o[1:23,1:24] x{} b0" ∷
    "= 61" ∷
    "made 1:25 inc \"y\" -1 ? get \"a\"" ∷
    "1 RegPrim c1 g22 w16 p1@1{1} a0 v1/0{1}{1} y- r[] o[1:23,1:24,1:25] x{} b0" ∷
    "= 62" ∷
    "made 1:26 move \"a\" \"z\" 2" ∷
    "1 RegPrim c1 g22 w16 p1@1{1} a0 v1/0{1}{1} y- r[] o[1:23,1:24,1:25,1:26] x{} b0" ∷
    "= 64" ∷
    "order 23 1:23" ∷
    "order 24 1:24" ∷
    "order 25 1:25" ∷
    "order 26 1:26" ∷
    "1 RegPrim c1 g26 w22 p1@1{1} a0 v1/0{1}{1} y- r[] o[] x{} b0" ∷
    "reply 1:23 done ? count 5" ∷
    "reply 1:24 done" ∷
    "reply 1:25 done ? 67" ∷
    "reply 1:26 aborted 1" ∷
    "= 67" ∷
    "made 1:27 inc \"z\" 5; inc \"k1\" 6 ? get \"abc\"" ∷
    "1 RegPrim c1 g26 w22 p1@1{1} a0 v1/0{1}{1} y- r[] o[1:27] x{} b0" ∷
    "= 68" ∷
    "made 1:28 ? get \"z\"" ∷
    "1 RegPrim c1 g26 w22 p1@1{1} a0 v1/0{1}{1} y- r[] o[1:27,1:28] x{} b0" ∷
    "= 69" ∷
    "made 1:29 put \"x\" 51 ? keys \"q\"" ∷
    "1 RegPrim c1 g26 w22 p1@1{1} a0 v1/0{1}{1} y- r[] o[1:27,1:28,1:29] x{} b0" ∷
    "= 70" ∷
    "made 1:30 put \"y\" 25" ∷
    "1 RegPrim c1 g26 w22 p1@1{1} a0 v1/0{1}{1} y- r[] o[1:27,1:28,1:29,1:30] x{} b0" ∷
    "= 71" ∷
    "made 1:31 put \"abc\" 97 ? get \"ab\"" ∷
    "1 RegPrim c1 g26 w22 p1@1{1} a0 v1/0{1}{1} y- r[] o[1:27,1:28,1:29,1:30,1:31] x{} b0" ∷
    "end 71" ∷
    [])
unfolding cases_compute
lone_alternate = refl
