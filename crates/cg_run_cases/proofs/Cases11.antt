-- Cases of cases/ with their whole reports, which `.ci/theorems` writes down here.
use Rattle.std.specs.Prelude.{◌≡◌, [], ◌∷◌}
use mathlib.Core.Path.{refl}
use Rattle.cg_run_cases.specs.Replaying.{replayed_text, written}
use Rattle.cg_run_cases.specs.Computing.{cases_compute}

-- Replicas at the start: 4: actions are ordered.
four_replicas_actions_ordered_f_from_discarding :
    replayed_text (
    "start 1 2 3 4" ∷
    "merge 1 2 3 4" ∷
    "request 1 inc \"a\" 10 ? keys \"q\"" ∷
    "order 3" ∷
    "request 2 del \"k1\" ? get \"ab\"" ∷
    "request 2 inc \"z\" -3 ? get \"abc\"" ∷
    "request 4 need \"x\" absent; need \"z\" 66" ∷
    "order 4" ∷
    "receive 1 2" ∷
    "order 2" ∷
    "rounds 2" ∷
    "request 1 put \"a\" \"; ? #\"" ∷
    "request 3 move \"a\" \"ab\" 5 ? get \"a\"" ∷
    "request 1 put \"k1\" \"-1\"" ∷
    "rounds 2" ∷
    "rounds 3" ∷
    "request 2 put \"ab\" -7" ∷
    "request 1 inc \"y\" 7; inc \"a\" 9; cas \"x\" 3 \"TTTTTTTTTTTTTTTTTTTTTTTTTTTTTTTTTTTTTTTTTTTTTTTTTTTTTTTTTTTTTTTTTTTTTTTTTTTTTTTTTTTTTTTTTTTTTTTTTTTTTTTTTTTTTTTTTTTTTTTTTTTTTTTTTTTTTTTTTTTTTTTTTTTTTTTTTTTTTTTTTTTTTTTTTTTTTTTTTTTTTTTTTTTTTTTTTTTTTTTTTTTTTTTTTTTTTTTTTTTTTTTTTTTTTTTTTTTTTTTTTTTTTTTTTTTTTTTTTTTTTTTTTTTTTTTTTTTTTTTTTTTTTTTTTTTTTTTTTTTTTTTTTTTTTTTTTTTTTTTTTTTTTTTTTTTTTTTTTTTTTTTTTTTTTTTTTTTTTTTTTTTTTTTTTTTTTTTTTTTTTTTTTTTTTTTTTTTTTTTTTTTTTTTTTTTTTTTTTTTTTTTTTTTTTTTTTTTTTTTTTTTTTTTTTTTTTTTTTTTTTTTTTTTTTTTTTTTTTTTTTTTTTTTTTTTTTTTTTTTTTTTTTTTTTTTTTTTTTTTTTTTTTTTTTTTTTTTTTTTTTTTTTTTTTTTTTTTTTTTTTTTTTTTTTTTTTTTTTTTTTTTTTTTTTTTTTTTTTTTTTTTTTTTTTTTTTTTTTTTTTTTTTTTTTTTTTTTTTTTTTTTTTTTTTTTTTTTTTTTTTTTTTTTTTTTTTTTTTTTTTTTTTTTTTTTTTTTTTTTTTTTTTTTTTTTTTTTTTTTTTTTTTTTTTTTTTTTTTTTTTTTTTTTTTTTTTTTTTTTTTTTTTTTTTTTTTTTTTTTTTTTTTTTTTTTTTTTTTTTTTTTTTTTTTTTTTTTTTTTTTTTTTTTTTTTTTTTTTTTTTTTTTTTTTTTTTTTTTTTTTTTTTTTTTTTTTTTTTTTTTTTTTTTTTTTTTTTTTTTTTTTTTTTTTTTTTTTTTTTTTTTTTTTTTTTTTTTTTTTTTTTTTTTTTTTTTTTTTTTTTTTTTTTTTTTTTTTTTTTTTTTTTTTTTTTTTTTTTTTTTTTTTTTTTTTTTTTTTTTTTTTT\"; put \"y\" 74 ? get \"k2\"" ∷
    "request 3 put \"x\" 97" ∷
    "rounds 3" ∷
    "request 2 put \"y\" 87; inc \"x\" 0; inc \"ab\" 9; move \"z\" \"a\" 8; inc \"a\" -3; cas \"k1\" \"yes \\\"no\\\"\" \"T\"; cas \"x\" absent 95; cas \"abc\" absent \"absent\"; inc \"a\" 6; need \"k2\" absent; inc \"a\" 4; del \"a\"; need \"z\" 15; del \"x\"; move \"k1\" \"b\" 5; need \"x\" 47" ∷
    "gather" ∷
    "deliver 1 1" ∷
    "request 2 inc \"z\" 3; put \"b\" \"back\\\\slash\"; cas \"y\" 2 \"TTTTTTTTTTTTTTTTTTTTTTTTTTTTTTTTTTTTTTTTTTTTTTTTTTTTTTTTTTTTTTTTTTTTTTTTTTTTTTTTTTTTTTTTTTTTTTTTTTTTTTTTTTTTTTTTTTTTTTTTTTTTTTTTTTTTTTTTTTTTTTTTTTTTTTTTTTTTTTTTTTTTTTTTTTTTTTTTTTTTTTTTTTTTTTTTTTTTTTTTTTTTTTTTTTTTTTTTTTTTTTTTTTTTTTTTTTTTTTTTTTTTTTTTTTTTTTT\"; put \"ab\" 19 ? get \"a\"" ∷
    "gather" ∷
    "deliver 4 2" ∷
    "deliver 2 2" ∷
    "show order" ∷
    "deliver 3 2" ∷
    "rounds 1" ∷
    "request 1 need \"y\" 2; inc \"z\" 8" ∷
    "gather" ∷
    "request 1 put \"x\" 21 ? count" ∷
    "gather" ∷
    "request 3 inc \"y\" 9223372036854775807" ∷
    "deliver 2 2" ∷
    "gather" ∷
    "show 2" ∷
    "show 2" ∷
    "request 4 put \"a\" 64 ? get \"a\"" ∷
    "deliver 4 3" ∷
    "request 2 inc \"z\" 0 ? count" ∷
    "request 4 need \"a\" -9" ∷
    "order 4" ∷
    "receive 1 24" ∷
    "deliver 3 3" ∷
    "gather" ∷
    "request 2 inc \"a\" 12; need \"x\" absent; inc \"b\" 4 ? get \"z\"" ∷
    "rounds 3" ∷
    "rounds 3" ∷
    "gather" ∷
    "request 4 inc \"y\" 1 ? get \"y\"" ∷
    "rounds 3" ∷
    "end" ∷
    [])
    ≡ written (
    "= 1" ∷
    "1 NonPrim - g0 w0 p0@0{1,2,3,4} a0 v- y- r[] o[] x{} b0" ∷
    "2 NonPrim - g0 w0 p0@0{1,2,3,4} a0 v- y- r[] o[] x{} b0" ∷
    "3 NonPrim - g0 w0 p0@0{1,2,3,4} a0 v- y- r[] o[] x{} b0" ∷
    "4 NonPrim - g0 w0 p0@0{1,2,3,4} a0 v- y- r[] o[] x{} b0" ∷
    "= 2" ∷
    "1 ExchangeStates c1 g0 w0 p0@0{1,2,3,4} a0 v- y- r[] o[] x{} b0" ∷
    "2 ExchangeStates c1 g0 w0 p0@0{1,2,3,4} a0 v- y- r[] o[] x{} b0" ∷
    "3 ExchangeStates c1 g0 w0 p0@0{1,2,3,4} a0 v- y- r[] o[] x{} b0" ∷
    "4 ExchangeStates c1 g0 w0 p0@0{1,2,3,4} a0 v- y- r[] o[] x{} b0" ∷
    "= 3" ∷
    "1 ExchangeStates c1 g0 w0 p0@0{1,2,3,4} a0 v- y- r[] o[] x{} b1" ∷
    "= 5" ∷
    "2 ExchangeStates c1 g0 w0 p0@0{1,2,3,4} a0 v- y- r[] o[] x{} b1" ∷
    "= 6" ∷
    "2 ExchangeStates c1 g0 w0 p0@0{1,2,3,4} a0 v- y- r[] o[] x{} b2" ∷
    "= 7" ∷
    "4 ExchangeStates c1 g0 w0 p0@0{1,2,3,4} a0 v- y- r[] o[] x{} b1" ∷
    "= 12" ∷
    "1 Construct c1 g0 w0 p0@0{1,2,3,4} a1 v1/0{1,2,3,4}{1} y- r[] o[] x{} b1" ∷
    "= 13" ∷
    "2 Construct c1 g0 w0 p0@0{1,2,3,4} a1 v1/0{1,2,3,4}{2} y- r[] o[] x{} b2" ∷
    "= 14" ∷
    "3 Construct c1 g0 w0 p0@0{1,2,3,4} a1 v1/0{1,2,3,4}{3} y- r[] o[] x{} b0" ∷
    "= 15" ∷
    "4 Construct c1 g0 w0 p0@0{1,2,3,4} a1 v1/0{1,2,3,4}{4} y- r[] o[] x{} b1" ∷
    "= 17" ∷
    "made 1:1 inc \"a\" 10 ? keys \"q\"" ∷
    "1 RegPrim c1 g0 w0 p1@1{1,2,3,4} a0 v1/0{1,2,3,4}{1} y- r[] o[1:1] x{} b0" ∷
    "= 18" ∷
    "made 2:1 del \"k1\" ? get \"ab\"" ∷
    "made 2:2 inc \"z\" -3 ? get \"abc\"" ∷
    "2 RegPrim c1 g0 w0 p1@1{1,2,3,4} a0 v1/0{1,2,3,4}{2} y- r[] o[2:1,2:2] x{} b0" ∷
    "= 19" ∷
    "3 RegPrim c1 g0 w0 p1@1{1,2,3,4} a0 v1/0{1,2,3,4}{3} y- r[] o[] x{} b0" ∷
    "= 20" ∷
    "made 4:1 need \"x\" absent; need \"z\" 66" ∷
    "4 RegPrim c1 g0 w0 p1@1{1,2,3,4} a0 v1/0{1,2,3,4}{4} y- r[] o[4:1] x{} b0" ∷
    "= 21" ∷
    "made 1:2 put \"a\" \"; ? #\"" ∷
    "1 RegPrim c1 g0 w0 p1@1{1,2,3,4} a0 v1/0{1,2,3,4}{1} y- r[] o[1:1,1:2] x{} b0" ∷
    "= 22" ∷
    "made 3:1 move \"a\" \"ab\" 5 ? get \"a\"" ∷
    "3 RegPrim c1 g0 w0 p1@1{1,2,3,4} a0 v1/0{1,2,3,4}{3} y- r[] o[3:1] x{} b0" ∷
    "= 23" ∷
    "made 1:3 put \"k1\" \"-1\"" ∷
    "1 RegPrim c1 g0 w0 p1@1{1,2,3,4} a0 v1/0{1,2,3,4}{1} y- r[] o[1:1,1:2,1:3] x{} b0" ∷
    "= 25" ∷
    "order 1 1:1" ∷
    "order 2 1:2" ∷
    "order 3 1:3" ∷
    "order 4 2:1" ∷
    "order 5 2:2" ∷
    "order 6 3:1" ∷
    "order 7 4:1" ∷
    "1 RegPrim c1 g7 w0 p1@1{1,2,3,4} a0 v1/0{1,2,3,4}{1} y- r[] o[] x{} b0" ∷
    "reply 1:1 done ? keys" ∷
    "reply 1:2 done" ∷
    "reply 1:3 done" ∷
    "= 26" ∷
    "2 RegPrim c1 g7 w0 p1@1{1,2,3,4} a0 v1/0{1,2,3,4}{2} y- r[] o[] x{} b0" ∷
    "reply 2:1 done ? absent" ∷
    "reply 2:2 done ? absent" ∷
    "= 27" ∷
    "3 RegPrim c1 g7 w0 p1@1{1,2,3,4} a0 v1/0{1,2,3,4}{3} y- r[] o[] x{} b0" ∷
    "reply 3:1 aborted 1 ? \"; ? #\"" ∷
    "= 28" ∷
    "4 RegPrim c1 g7 w0 p1@1{1,2,3,4} a0 v1/0{1,2,3,4}{4} y- r[] o[] x{} b0" ∷
    "reply 4:1 aborted 2" ∷
    "= 33" ∷
    "made 2:3 put \"ab\" -7" ∷
    "2 RegPrim c1 g7 w0 p1@1{1,2,3,4} a0 v1/0{1,2,3,4}{2} y- r[] o[2:3] x{} b0" ∷
    "= 34" ∷
    "made 1:4 inc \"y\" 7; inc \"a\" 9; cas \"x\" 3 \"TTTTTTTTTTTTTTTTTTTTTTTTTTTTTTTTTTTTTTTTTTTTTTTTTTTTTTTTTTTTTTTTTTTTTTTTTTTTTTTTTTTTTTTTTTTTTTTTTTTTTTTTTTTTTTTTTTTTTTTTTTTTTTTTTTTTTTTTTTTTTTTTTTTTTTTTTTTTTTTTTTTTTTTTTTTTTTTTTTTTTTTTTTTTTTTTTTTTTTTTTTTTTTTTTTTTTTTTTTTTTTTTTTTTTTTTTTTTTTTTTTTTTTTTTTTTTTTTTTTTTTTTTTTTTTTTTTTTTTTTTTTTTTTTTTTTTTTTTTTTTTTTTTTTTTTTTTTTTTTTTTTTTTTTTTTTTTTTTTTTTTTTTTTTTTTTTTTTTTTTTTTTTTTTTTTTTTTTTTTTTTTTTTTTTTTTTTTTTTTTTTTTTTTTTTTTTTTTTTTTTTTTTTTTTTTTTTTTTTTTTTTTTTTTTTTTTTTTTTTTTTTTTTTTTTTTTTTTTTTTTTTTTTTTTTTTTTTTTTTTTTTTTTTTTTTTTTTTTTTTTTTTTTTTTTTTTTTTTTTTTTTTTTTTTTTTTTTTTTTTTTTTTTTTTTTTTTTTTTTTTTTTTTTTTTTTTTTTTTTTTTTTTTTTTTTTTTTTTTTTTTTTTTTTTTTTTTTTTTTTTTTTTTTTTTTTTTTTTTTTTTTTTTTTTTTTTTTTTTTTTTTTTTTTTTTTTTTTTTTTTTTTTTTTTTTTTTTTTTTTTTTTTTTTTTTTTTTTTTTTTTTTTTTTTTTTTTTTTTTTTTTTTTTTTTTTTTTTTTTTTTTTTTTTTTTTTTTTTTTTTTTTTTTTTTTTTTTTTTTTTTTTTTTTTTTTTTTTTTTTTTTTTTTTTTTTTTTTTTTTTTTTTTTTTTTTTTTTTTTTTTTTTTTTTTTTTTTTTTTTTTTTTTTTTTTTTTTTTTTTTTTTTTTTTTTTTTTTTTTTTTTTTTTTTTTTTTTTTTTTTTTTTTTTTTTTTTTTTTTTTTTTTTTTTTTTTTTTTTTTTTTTTTTTTTTTTTTTTTTTTTTT\"; put \"y\" 74 ? get \"k2\"" ∷
    "1 RegPrim c1 g7 w0 p1@1{1,2,3,4} a0 v1/0{1,2,3,4}{1} y- r[] o[1:4] x{} b0" ∷
    "= 35" ∷
    "made 3:2 put \"x\" 97" ∷
    "3 RegPrim c1 g7 w0 p1@1{1,2,3,4} a0 v1/0{1,2,3,4}{3} y- r[] o[3:2] x{} b0" ∷
    "= 37" ∷
    "order 8 1:4" ∷
    "order 9 2:3" ∷
    "order 10 3:2" ∷
    "1 RegPrim c1 g10 w0 p1@1{1,2,3,4} a0 v1/0{1,2,3,4}{1} y- r[] o[] x{} b0" ∷
    "reply 1:4 aborted 2 ? absent" ∷
    "= 38" ∷
    "2 RegPrim c1 g10 w0 p1@1{1,2,3,4} a0 v1/0{1,2,3,4}{2} y- r[] o[] x{} b0" ∷
    "reply 2:3 done" ∷
    "= 39" ∷
    "3 RegPrim c1 g10 w0 p1@1{1,2,3,4} a0 v1/0{1,2,3,4}{3} y- r[] o[] x{} b0" ∷
    "reply 3:2 done" ∷
    "= 40" ∷
    "4 RegPrim c1 g10 w0 p1@1{1,2,3,4} a0 v1/0{1,2,3,4}{4} y- r[] o[] x{} b0" ∷
    "= 43" ∷
    "made 2:4 put \"y\" 87; inc \"x\" 0; inc \"ab\" 9; move \"z\" \"a\" 8; inc \"a\" -3; cas \"k1\" \"yes \\\"no\\\"\" \"T\"; cas \"x\" absent 95; cas \"abc\" absent \"absent\"; inc \"a\" 6; need \"k2\" absent; inc \"a\" 4; del \"a\"; need \"z\" 15; del \"x\"; move \"k1\" \"b\" 5; need \"x\" 47" ∷
    "2 RegPrim c1 g10 w0 p1@1{1,2,3,4} a0 v1/0{1,2,3,4}{2} y- r[] o[2:4] x{} b0" ∷
    "= 45" ∷
    "order 11 2:4" ∷
    "1 RegPrim c1 g11 w0 p1@1{1,2,3,4} a0 v1/0{1,2,3,4}{1} y- r[] o[] x{} b0" ∷
    "= 46" ∷
    "made 2:5 inc \"z\" 3; put \"b\" \"back\\\\slash\"; cas \"y\" 2 \"TTTTTTTTTTTTTTTTTTTTTTTTTTTTTTTTTTTTTTTTTTTTTTTTTTTTTTTTTTTTTTTTTTTTTTTTTTTTTTTTTTTTTTTTTTTTTTTTTTTTTTTTTTTTTTTTTTTTTTTTTTTTTTTTTTTTTTTTTTTTTTTTTTTTTTTTTTTTTTTTTTTTTTTTTTTTTTTTTTTTTTTTTTTTTTTTTTTTTTTTTTTTTTTTTTTTTTTTTTTTTTTTTTTTTTTTTTTTTTTTTTTTTTTTTTTTTTT\"; put \"ab\" 19 ? get \"a\"" ∷
    "2 RegPrim c1 g10 w0 p1@1{1,2,3,4} a0 v1/0{1,2,3,4}{2} y- r[] o[2:4,2:5] x{} b0" ∷
    "= 48" ∷
    "order 12 2:5" ∷
    "4 RegPrim c1 g12 w0 p1@1{1,2,3,4} a0 v1/0{1,2,3,4}{4} y- r[] o[] x{} b0" ∷
    "= 49" ∷
    "2 RegPrim c1 g12 w0 p1@1{1,2,3,4} a0 v1/0{1,2,3,4}{2} y- r[] o[] x{} b0" ∷
    "reply 2:4 aborted 4" ∷
    "reply 2:5 done ? \"; ? #\"" ∷
    "= 50" ∷
    "all [1:1,1:2,1:3,2:1,2:2,3:1,4:1,1:4,2:3,3:2,2:4,2:5]" ∷
    "= 51" ∷
    "3 RegPrim c1 g12 w0 p1@1{1,2,3,4} a0 v1/0{1,2,3,4}{3} y- r[] o[] x{} b0" ∷
    "= 53" ∷
    "1 RegPrim c1 g12 w0 p1@1{1,2,3,4} a0 v1/0{1,2,3,4}{1} y- r[] o[] x{} b0" ∷
    "= 54" ∷
    "made 1:5 need \"y\" 2; inc \"z\" 8" ∷
    "1 RegPrim c1 g12 w0 p1@1{1,2,3,4} a0 v1/0{1,2,3,4}{1} y- r[] o[1:5] x{} b0" ∷
    "= 56" ∷
    "made 1:6 put \"x\" 21 ? count" ∷
    "1 RegPrim c1 g12 w0 p1@1{1,2,3,4} a0 v1/0{1,2,3,4}{1} y- r[] o[1:5,1:6] x{} b0" ∷
    "= 58" ∷
    "made 3:3 inc \"y\" 9223372036854775807" ∷
    "3 RegPrim c1 g12 w0 p1@1{1,2,3,4} a0 v1/0{1,2,3,4}{3} y- r[] o[3:3] x{} b0" ∷
    "= 59" ∷
    "order 13 1:5" ∷
    "order 14 1:6" ∷
    "2 RegPrim c1 g14 w0 p1@1{1,2,3,4} a0 v1/0{1,2,3,4}{2} y- r[] o[] x{} b0" ∷
    "= 61" ∷
    "greens 2 [1:1,1:2,1:3,2:1,2:2,3:1,4:1,1:4,2:3,3:2,2:4,2:5,1:5,1:6]" ∷
    "db 2 \"a\"=\"; ? #\" \"ab\"=19 \"b\"=\"back\\\\slash\" \"x\"=21 \"z\"=0" ∷
    "= 62" ∷
    "greens 2 [1:1,1:2,1:3,2:1,2:2,3:1,4:1,1:4,2:3,3:2,2:4,2:5,1:5,1:6]" ∷
    "db 2 \"a\"=\"; ? #\" \"ab\"=19 \"b\"=\"back\\\\slash\" \"x\"=21 \"z\"=0" ∷
    "= 63" ∷
    "made 4:2 put \"a\" 64 ? get \"a\"" ∷
    "4 RegPrim c1 g12 w0 p1@1{1,2,3,4} a0 v1/0{1,2,3,4}{4} y- r[] o[4:2] x{} b0" ∷
    "= 64" ∷
    "order 15 3:3" ∷
    "4 RegPrim c1 g15 w0 p1@1{1,2,3,4} a0 v1/0{1,2,3,4}{4} y- r[] o[4:2] x{} b0" ∷
    "= 65" ∷
    "made 2:6 inc \"z\" 0 ? count" ∷
    "2 RegPrim c1 g14 w0 p1@1{1,2,3,4} a0 v1/0{1,2,3,4}{2} y- r[] o[2:6] x{} b0" ∷
    "= 66" ∷
    "made 4:3 need \"a\" -9" ∷
    "4 RegPrim c1 g15 w0 p1@1{1,2,3,4} a0 v1/0{1,2,3,4}{4} y- r[] o[4:2,4:3] x{} b0" ∷
    "= 69" ∷
    "3 RegPrim c1 g15 w0 p1@1{1,2,3,4} a0 v1/0{1,2,3,4}{3} y- r[] o[] x{} b0" ∷
    "reply 3:3 done" ∷
    "= 71" ∷
    "made 2:7 inc \"a\" 12; need \"x\" absent; inc \"b\" 4 ? get \"z\"" ∷
    "2 RegPrim c1 g14 w0 p1@1{1,2,3,4} a0 v1/0{1,2,3,4}{2} y- r[] o[2:6,2:7] x{} b0" ∷
    "= 73" ∷
    "order 16 4:2" ∷
    "order 17 2:6" ∷
    "order 18 4:3" ∷
    "order 19 2:7" ∷
    "1 RegPrim c1 g19 w12 p1@1{1,2,3,4} a0 v1/0{1,2,3,4}{1} y- r[] o[] x{} b0" ∷
    "reply 1:5 aborted 1" ∷
    "reply 1:6 done ? count 5" ∷
    "= 74" ∷
    "2 RegPrim c1 g19 w12 p1@1{1,2,3,4} a0 v1/0{1,2,3,4}{2} y- r[] o[] x{} b0" ∷
    "reply 2:6 done ? count 6" ∷
    "reply 2:7 aborted 2 ? 0" ∷
    "= 75" ∷
    "3 RegPrim c1 g19 w12 p1@1{1,2,3,4} a0 v1/0{1,2,3,4}{3} y- r[] o[] x{} b0" ∷
    "= 76" ∷
    "4 RegPrim c1 g19 w12 p1@1{1,2,3,4} a0 v1/0{1,2,3,4}{4} y- r[] o[] x{} b0" ∷
    "reply 4:2 done ? 64" ∷
    "reply 4:3 aborted 1" ∷
    "= 83" ∷
    "made 4:4 inc \"y\" 1 ? get \"y\"" ∷
    "4 RegPrim c1 g19 w12 p1@1{1,2,3,4} a0 v1/0{1,2,3,4}{4} y- r[] o[4:4] x{} b0" ∷
    "= 85" ∷
    "order 20 4:4" ∷
    "1 RegPrim c1 g20 w12 p1@1{1,2,3,4} a0 v1/0{1,2,3,4}{1} y- r[] o[] x{} b0" ∷
    "= 86" ∷
    "2 RegPrim c1 g20 w12 p1@1{1,2,3,4} a0 v1/0{1,2,3,4}{2} y- r[] o[] x{} b0" ∷
    "= 87" ∷
    "3 RegPrim c1 g20 w12 p1@1{1,2,3,4} a0 v1/0{1,2,3,4}{3} y- r[] o[] x{} b0" ∷
    "= 88" ∷
    "4 RegPrim c1 g20 w12 p1@1{1,2,3,4} a0 v1/0{1,2,3,4}{4} y- r[] o[] x{} b0" ∷
    "reply 4:4 range 1 ? 9223372036854775807" ∷
    "end 90" ∷
    [])
unfolding cases_compute
four_replicas_actions_ordered_f_from_discarding = refl

-- Replicas at the start: 4: actions are ordered.
four_replicas_actions_ordered_g :
    replayed_text (
    "start 1 2 3 4" ∷
    "merge 1 2 3 4" ∷
    "rounds 3" ∷
    "request 1 inc \"y\" 8" ∷
    "order 1" ∷
    "receive 2 9" ∷
    "receive 3 9" ∷
    "receive 4 9" ∷
    "deliver 1 1" ∷
    "deliver 2 1" ∷
    "show order" ∷
    "end" ∷
    [])
    ≡ written (
    "= 1" ∷
    "1 NonPrim - g0 w0 p0@0{1,2,3,4} a0 v- y- r[] o[] x{} b0" ∷
    "2 NonPrim - g0 w0 p0@0{1,2,3,4} a0 v- y- r[] o[] x{} b0" ∷
    "3 NonPrim - g0 w0 p0@0{1,2,3,4} a0 v- y- r[] o[] x{} b0" ∷
    "4 NonPrim - g0 w0 p0@0{1,2,3,4} a0 v- y- r[] o[] x{} b0" ∷
    "= 2" ∷
    "1 ExchangeStates c1 g0 w0 p0@0{1,2,3,4} a0 v- y- r[] o[] x{} b0" ∷
    "2 ExchangeStates c1 g0 w0 p0@0{1,2,3,4} a0 v- y- r[] o[] x{} b0" ∷
    "3 ExchangeStates c1 g0 w0 p0@0{1,2,3,4} a0 v- y- r[] o[] x{} b0" ∷
    "4 ExchangeStates c1 g0 w0 p0@0{1,2,3,4} a0 v- y- r[] o[] x{} b0" ∷
    "= 4" ∷
    "1 Construct c1 g0 w0 p0@0{1,2,3,4} a1 v1/0{1,2,3,4}{1} y- r[] o[] x{} b0" ∷
    "= 5" ∷
    "2 Construct c1 g0 w0 p0@0{1,2,3,4} a1 v1/0{1,2,3,4}{2} y- r[] o[] x{} b0" ∷
    "= 6" ∷
    "3 Construct c1 g0 w0 p0@0{1,2,3,4} a1 v1/0{1,2,3,4}{3} y- r[] o[] x{} b0" ∷
    "= 7" ∷
    "4 Construct c1 g0 w0 p0@0{1,2,3,4} a1 v1/0{1,2,3,4}{4} y- r[] o[] x{} b0" ∷
    "= 9" ∷
    "1 RegPrim c1 g0 w0 p1@1{1,2,3,4} a0 v1/0{1,2,3,4}{1} y- r[] o[] x{} b0" ∷
    "= 10" ∷
    "2 RegPrim c1 g0 w0 p1@1{1,2,3,4} a0 v1/0{1,2,3,4}{2} y- r[] o[] x{} b0" ∷
    "= 11" ∷
    "3 RegPrim c1 g0 w0 p1@1{1,2,3,4} a0 v1/0{1,2,3,4}{3} y- r[] o[] x{} b0" ∷
    "= 12" ∷
    "4 RegPrim c1 g0 w0 p1@1{1,2,3,4} a0 v1/0{1,2,3,4}{4} y- r[] o[] x{} b0" ∷
    "= 14" ∷
    "made 1:1 inc \"y\" 8" ∷
    "1 RegPrim c1 g0 w0 p1@1{1,2,3,4} a0 v1/0{1,2,3,4}{1} y- r[] o[1:1] x{} b0" ∷
    "= 19" ∷
    "order 1 1:1" ∷
    "1 RegPrim c1 g1 w0 p1@1{1,2,3,4} a0 v1/0{1,2,3,4}{1} y- r[] o[] x{} b0" ∷
    "reply 1:1 done" ∷
    "= 20" ∷
    "2 RegPrim c1 g1 w0 p1@1{1,2,3,4} a0 v1/0{1,2,3,4}{2} y- r[] o[] x{} b0" ∷
    "= 21" ∷
    "all [1:1]" ∷
    "end 21" ∷
    [])
unfolding cases_compute
four_replicas_actions_ordered_g = refl

-- Replicas at the start: 4: an attempt at a primary is broken off; a crash strikes inside a device call.
four_replicas_attempt_broken_off_crash_in_a_device_call_a :
    replayed_text (
    "start 1 2 3 4" ∷
    "merge 1 2 3 4" ∷
    "order 3" ∷
    "gather" ∷
    "gather" ∷
    "deliver 2 1" ∷
    "gather" ∷
    "deliver 4 1" ∷
    "deliver 1 4" ∷
    "request 2 cas \"abc\" 59 58; inc \"k2\" 3; inc \"b\" 12; inc \"y\" 9223372036854775807 ? get \"z\"" ∷
    "show 1" ∷
    "deliver 2 3" ∷
    "stop 3 0 -" ∷
    "order 2" ∷
    "recover 3" ∷
    "split 1 2 4" ∷
    "merge 1 2 3 4" ∷
    "rounds 3" ∷
    "stop 2 10 01" ∷
    "stop 1 9 0100000101010101010000010100" ∷
    "stop 3 4 81" ∷
    "stop 4 0 cc" ∷
    "request 2 move \"x\" \"a\" 0; cas \"z\" absent 78" ∷
    "stop 1 0 -" ∷
    "request 2 inc \"y\" -3 ? get \"y\"" ∷
    "split 2" ∷
    "recover 4" ∷
    "split 3" ∷
    "merge 2 3 4" ∷
    "recover 2" ∷
    "recover 1" ∷
    "recover 3" ∷
    "rounds 1" ∷
    "request 1 put \"x\" 73; put \"b\" 6 ? get \"x\"" ∷
    "request 3 inc \"x\" 12 ? keys \"ab\"" ∷
    "request 1 del \"k1\" ? get \"b\"" ∷
    "gather" ∷
    "split 4" ∷
    "merge 1 2 3 4" ∷
    "show 4" ∷
    "fail 1 4" ∷
    "stop 4 0 00" ∷
    "request 2 inc \"z\" 11; move \"x\" \"y\" 5" ∷
    "show 3" ∷
    "request 2 inc \"k1\" 0 ? count" ∷
    "stop 2 3 -" ∷
    "split 1 2" ∷
    "rounds 3" ∷
    "recover 4" ∷
    "merge 1 2" ∷
    "rounds 1" ∷
    "fail 1 10" ∷
    "stop 3 16 ffffffffffffffffff" ∷
    "end" ∷
    [])
    ≡ written (
    "= 1" ∷
    "1 NonPrim - g0 w0 p0@0{1,2,3,4} a0 v- y- r[] o[] x{} b0" ∷
    "2 NonPrim - g0 w0 p0@0{1,2,3,4} a0 v- y- r[] o[] x{} b0" ∷
    "3 NonPrim - g0 w0 p0@0{1,2,3,4} a0 v- y- r[] o[] x{} b0" ∷
    "4 NonPrim - g0 w0 p0@0{1,2,3,4} a0 v- y- r[] o[] x{} b0" ∷
    "= 2" ∷
    "1 ExchangeStates c1 g0 w0 p0@0{1,2,3,4} a0 v- y- r[] o[] x{} b0" ∷
    "2 ExchangeStates c1 g0 w0 p0@0{1,2,3,4} a0 v- y- r[] o[] x{} b0" ∷
    "3 ExchangeStates c1 g0 w0 p0@0{1,2,3,4} a0 v- y- r[] o[] x{} b0" ∷
    "4 ExchangeStates c1 g0 w0 p0@0{1,2,3,4} a0 v- y- r[] o[] x{} b0" ∷
    "= 9" ∷
    "1 Construct c1 g0 w0 p0@0{1,2,3,4} a1 v1/0{1,2,3,4}{1} y- r[] o[] x{} b0" ∷
    "= 10" ∷
    "2 ExchangeStates c1 g0 w0 p0@0{1,2,3,4} a0 v- y- r[] o[] x{} b1" ∷
    "= 11" ∷
    "greens 1 []" ∷
    "db 1" ∷
    "= 12" ∷
    "2 Construct c1 g0 w0 p0@0{1,2,3,4} a1 v1/0{1,2,3,4}{2} y- r[] o[] x{} b1" ∷
    "= 13" ∷
    "3 Down" ∷
    "= 15" ∷
    "3 NonPrim - g0 w0 p0@0{1,2,3,4} a0 v- y- r[] o[] x{} b0" ∷
    "= 16" ∷
    "1 No t1 g0 w0 p0@0{1,2,3,4} a1 v1/0{1,2,3,4}{1} y- r[] o[] x{} b0" ∷
    "2 No t1 g0 w0 p0@0{1,2,3,4} a1 v1/0{1,2,3,4}{2} y- r[] o[] x{} b1" ∷
    "4 No t1 g0 w0 p0@0{1,2,3,4} a1 v1/0{1,2,3,4}{4} y- r[] o[] x{} b0" ∷
    "= 17" ∷
    "1 ExchangeStates c2 g0 w0 p0@0{1,2,3,4} a1 v- y- r[] o[] x{} b0" ∷
    "2 ExchangeStates c2 g0 w0 p0@0{1,2,3,4} a1 v- y- r[] o[] x{} b1" ∷
    "3 ExchangeStates c2 g0 w0 p0@0{1,2,3,4} a0 v- y- r[] o[] x{} b0" ∷
    "4 ExchangeStates c2 g0 w0 p0@0{1,2,3,4} a1 v- y- r[] o[] x{} b0" ∷
    "= 19" ∷
    "1 Construct c2 g0 w0 p0@0{1,2,3,4} a2 v2/0{1,2,3,4}{1} y- r[] o[] x{} b0" ∷
    "= 20" ∷
    "2 Construct c2 g0 w0 p0@0{1,2,3,4} a2 v2/0{1,2,3,4}{2} y- r[] o[] x{} b1" ∷
    "= 21" ∷
    "3 Construct c2 g0 w0 p0@0{1,2,3,4} a2 v2/0{1,2,3,4}{3} y- r[] o[] x{} b0" ∷
    "= 22" ∷
    "4 Construct c2 g0 w0 p0@0{1,2,3,4} a2 v2/0{1,2,3,4}{4} y- r[] o[] x{} b0" ∷
    "= 24" ∷
    "1 RegPrim c2 g0 w0 p1@2{1,2,3,4} a0 v2/0{1,2,3,4}{1} y- r[] o[] x{} b0" ∷
    "= 25" ∷
    "made 2:1 cas \"abc\" 59 58; inc \"k2\" 3; inc \"b\" 12; inc \"y\" 9223372036854775807 ? get \"z\"" ∷
    "2 RegPrim c2 g0 w0 p1@2{1,2,3,4} a0 v2/0{1,2,3,4}{2} y- r[] o[2:1] x{} b0" ∷
    "= 26" ∷
    "3 RegPrim c2 g0 w0 p1@2{1,2,3,4} a0 v2/0{1,2,3,4}{3} y- r[] o[] x{} b0" ∷
    "= 27" ∷
    "4 RegPrim c2 g0 w0 p1@2{1,2,3,4} a0 v2/0{1,2,3,4}{4} y- r[] o[] x{} b0" ∷
    "= 29" ∷
    "order 1 2:1" ∷
    "1 RegPrim c2 g1 w0 p1@2{1,2,3,4} a0 v2/0{1,2,3,4}{1} y- r[] o[] x{} b0" ∷
    "= 30" ∷
    "2 RegPrim c2 g1 w0 p1@2{1,2,3,4} a0 v2/0{1,2,3,4}{2} y- r[] o[] x{} b0" ∷
    "reply 2:1 done ? absent" ∷
    "= 31" ∷
    "3 RegPrim c2 g1 w0 p1@2{1,2,3,4} a0 v2/0{1,2,3,4}{3} y- r[] o[] x{} b0" ∷
    "= 32" ∷
    "4 RegPrim c2 g1 w0 p1@2{1,2,3,4} a0 v2/0{1,2,3,4}{4} y- r[] o[] x{} b0" ∷
    "= 36" ∷
    "4 Down" ∷
    "= 37" ∷
    "made 2:2 move \"x\" \"a\" 0; cas \"z\" absent 78" ∷
    "2 RegPrim c2 g1 w0 p1@2{1,2,3,4} a0 v2/0{1,2,3,4}{2} y- r[] o[2:2] x{} b0" ∷
    "= 38" ∷
    "1 Down" ∷
    "= 39" ∷
    "made 2:3 inc \"y\" -3 ? get \"y\"" ∷
    "2 RegPrim c2 g1 w0 p1@2{1,2,3,4} a0 v2/0{1,2,3,4}{2} y- r[] o[2:2,2:3] x{} b0" ∷
    "= 40" ∷
    "2 TransPrim t2 g1 w0 p1@2{1,2,3,4} a0 v2/0{1,2,3,4}{2} y- r[] o[2:2,2:3] x{} b0" ∷
    "= 41" ∷
    "4 NonPrim - g1 w0 p1@2{1,2,3,4} a0 v2/0{1,2,3,4}{4} y- r[] o[] x{} b0" ∷
    "= 42" ∷
    "3 TransPrim t2 g1 w0 p1@2{1,2,3,4} a0 v2/0{1,2,3,4}{3} y- r[] o[] x{} b0" ∷
    "= 43" ∷
    "2 Down" ∷
    "3 Down" ∷
    "4 ExchangeStates c3 g1 w0 p1@2{1,2,3,4} a0 v2/0{1,2,3,4}{4} y- r[] o[] x{} b0" ∷
    "= 44" ∷
    "2 NonPrim - g1 w0 p1@2{1,2,3,4} a0 v2/0{1,2,3,4}{2} y- r[2:2,2:3] o[] x{} b0" ∷
    "= 45" ∷
    "1 NonPrim - g1 w0 p1@2{1,2,3,4} a0 v2/0{1,2,3,4}{1} y- r[] o[] x{} b0" ∷
    "= 46" ∷
    "3 NonPrim - g1 w0 p1@2{1,2,3,4} a0 v2/0{1,2,3,4}{3} y- r[] o[] x{} b0" ∷
    "= 48" ∷
    "1 NonPrim - g1 w0 p1@2{1,2,3,4} a0 v2/0{1,2,3,4}{1} y- r[] o[] x{} b1" ∷
    "= 49" ∷
    "3 NonPrim - g1 w0 p1@2{1,2,3,4} a0 v2/0{1,2,3,4}{3} y- r[] o[] x{} b1" ∷
    "= 50" ∷
    "1 NonPrim - g1 w0 p1@2{1,2,3,4} a0 v2/0{1,2,3,4}{1} y- r[] o[] x{} b2" ∷
    "= 52" ∷
    "4 NonPrim t3 g1 w0 p1@2{1,2,3,4} a0 v2/0{1,2,3,4}{4} y- r[] o[] x{} b0" ∷
    "= 53" ∷
    "1 ExchangeStates c4 g1 w0 p1@2{1,2,3,4} a0 v2/0{1,2,3,4}{1} y- r[] o[] x{} b2" ∷
    "2 ExchangeStates c4 g1 w0 p1@2{1,2,3,4} a0 v2/0{1,2,3,4}{2} y- r[2:2,2:3] o[] x{} b0" ∷
    "3 ExchangeStates c4 g1 w0 p1@2{1,2,3,4} a0 v2/0{1,2,3,4}{3} y- r[] o[] x{} b1" ∷
    "4 ExchangeStates c4 g1 w0 p1@2{1,2,3,4} a0 v2/0{1,2,3,4}{4} y- r[] o[] x{} b0" ∷
    "= 54" ∷
    "greens 4 [2:1]" ∷
    "db 4 \"b\"=12 \"k2\"=3 \"y\"=9223372036854775807" ∷
    "= 56" ∷
    "4 Down" ∷
    "= 57" ∷
    "2 ExchangeStates c4 g1 w0 p1@2{1,2,3,4} a0 v2/0{1,2,3,4}{2} y- r[2:2,2:3] o[] x{} b1" ∷
    "= 58" ∷
    "greens 3 [2:1]" ∷
    "db 3 \"b\"=12 \"k2\"=3 \"y\"=9223372036854775807" ∷
    "= 59" ∷
    "2 ExchangeStates c4 g1 w0 p1@2{1,2,3,4} a0 v2/0{1,2,3,4}{2} y- r[2:2,2:3] o[] x{} b2" ∷
    "= 61" ∷
    "1 NonPrim t4 g1 w0 p1@2{1,2,3,4} a0 v2/0{1,2,3,4}{1} y- r[] o[] x{} b2" ∷
    "2 NonPrim t4 g1 w0 p1@2{1,2,3,4} a0 v2/0{1,2,3,4}{2} y- r[2:2,2:3] o[] x{} b2" ∷
    "= 65" ∷
    "4 NonPrim - g1 w0 p1@2{1,2,3,4} a0 v2/0{1,2,3,4}{4} y- r[] o[] x{} b0" ∷
    "= 66" ∷
    "1 ExchangeStates c5 g1 w0 p1@2{1,2,3,4} a0 v2/0{1,2,3,4}{1} y- r[] o[] x{} b2" ∷
    "2 ExchangeStates c5 g1 w0 p1@2{1,2,3,4} a0 v2/0{1,2,3,4}{2} y- r[2:2,2:3] o[] x{} b2" ∷
    "= 68" ∷
    "1 ExchangeActions c5 g1 w0 p1@2{1,2,3,4} a0 v2/0{1,2,3,4}{1} y- r[] o[] x{} b2" ∷
    "= 69" ∷
    "2 ExchangeActions c5 g1 w0 p1@2{1,2,3,4} a0 v2/0{1,2,3,4}{2} y- r[2:2,2:3] o[] x{} b2" ∷
    "end 71" ∷
    [])
unfolding cases_compute
four_replicas_attempt_broken_off_crash_in_a_device_call_a = refl

-- Replicas at the start: 4: no primary is formed.
four_replicas_no_primary_a :
    replayed_text (
    "start 1 2 3 4" ∷
    "merge 1 2 3 4" ∷
    "request 1 put \"z\" 28" ∷
    "request 1 inc \"y\" -9223372036854775808" ∷
    "request 1 inc \"x\" 12 ? get \"z\"" ∷
    "request 4 move \"k1\" \"z\" 2 ? keys \"q\"" ∷
    "order 3" ∷
    "split 1 2" ∷
    "split 3 4" ∷
    "merge 1 2 3 4" ∷
    "end" ∷
    [])
    ≡ written (
    "= 1" ∷
    "1 NonPrim - g0 w0 p0@0{1,2,3,4} a0 v- y- r[] o[] x{} b0" ∷
    "2 NonPrim - g0 w0 p0@0{1,2,3,4} a0 v- y- r[] o[] x{} b0" ∷
    "3 NonPrim - g0 w0 p0@0{1,2,3,4} a0 v- y- r[] o[] x{} b0" ∷
    "4 NonPrim - g0 w0 p0@0{1,2,3,4} a0 v- y- r[] o[] x{} b0" ∷
    "= 2" ∷
    "1 ExchangeStates c1 g0 w0 p0@0{1,2,3,4} a0 v- y- r[] o[] x{} b0" ∷
    "2 ExchangeStates c1 g0 w0 p0@0{1,2,3,4} a0 v- y- r[] o[] x{} b0" ∷
    "3 ExchangeStates c1 g0 w0 p0@0{1,2,3,4} a0 v- y- r[] o[] x{} b0" ∷
    "4 ExchangeStates c1 g0 w0 p0@0{1,2,3,4} a0 v- y- r[] o[] x{} b0" ∷
    "= 3" ∷
    "1 ExchangeStates c1 g0 w0 p0@0{1,2,3,4} a0 v- y- r[] o[] x{} b1" ∷
    "= 4" ∷
    "1 ExchangeStates c1 g0 w0 p0@0{1,2,3,4} a0 v- y- r[] o[] x{} b2" ∷
    "= 5" ∷
    "1 ExchangeStates c1 g0 w0 p0@0{1,2,3,4} a0 v- y- r[] o[] x{} b3" ∷
    "= 6" ∷
    "4 ExchangeStates c1 g0 w0 p0@0{1,2,3,4} a0 v- y- r[] o[] x{} b1" ∷
    "= 8" ∷
    "1 NonPrim t1 g0 w0 p0@0{1,2,3,4} a0 v- y- r[] o[] x{} b3" ∷
    "2 NonPrim t1 g0 w0 p0@0{1,2,3,4} a0 v- y- r[] o[] x{} b0" ∷
    "= 9" ∷
    "3 NonPrim t1 g0 w0 p0@0{1,2,3,4} a0 v- y- r[] o[] x{} b0" ∷
    "4 NonPrim t1 g0 w0 p0@0{1,2,3,4} a0 v- y- r[] o[] x{} b1" ∷
    "= 10" ∷
    "1 ExchangeStates c2 g0 w0 p0@0{1,2,3,4} a0 v- y- r[] o[] x{} b3" ∷
    "2 ExchangeStates c2 g0 w0 p0@0{1,2,3,4} a0 v- y- r[] o[] x{} b0" ∷
    "3 ExchangeStates c2 g0 w0 p0@0{1,2,3,4} a0 v- y- r[] o[] x{} b0" ∷
    "4 ExchangeStates c2 g0 w0 p0@0{1,2,3,4} a0 v- y- r[] o[] x{} b1" ∷
    "end 10" ∷
    [])
unfolding cases_compute
four_replicas_no_primary_a = refl

-- Replicas at the start: 4: no primary is formed; a replica crashes; the last event is refused.
four_replicas_no_primary_crash_refused_a :
    replayed_text (
    "start 1 2 3 4" ∷
    "merge 1 2 3 4" ∷
    "rounds 1" ∷
    "request 2 put \"ab\" 26" ∷
    "order 1" ∷
    "request 2 put \"b\" 91; put \"x\" -6; put \"x\" 27; inc \"ab\" 6; move \"y\" \"z\" 2; move \"y\" \"abc\" 1; inc \"y\" 9223372036854775807; put \"y\" -9; need \"y\" absent; inc \"a\" -1; need \"k2\" absent; put \"ab\" \"12\"; put \"a\" 9223372036854775806; put \"z\" 58; inc \"y\" -9223372036854775808; inc \"x\" 6 ? keys \"ab\"" ∷
    "stop 4 2 0101010101" ∷
    "receive 4 5" ∷
    "show 2" ∷
    "gather" ∷
    "stop 1 0 3e0033000101000001" ∷
    "receive 4 3" ∷
    "end" ∷
    [])
    ≡ written (
    "= 1" ∷
    "1 NonPrim - g0 w0 p0@0{1,2,3,4} a0 v- y- r[] o[] x{} b0" ∷
    "2 NonPrim - g0 w0 p0@0{1,2,3,4} a0 v- y- r[] o[] x{} b0" ∷
    "3 NonPrim - g0 w0 p0@0{1,2,3,4} a0 v- y- r[] o[] x{} b0" ∷
    "4 NonPrim - g0 w0 p0@0{1,2,3,4} a0 v- y- r[] o[] x{} b0" ∷
    "= 2" ∷
    "1 ExchangeStates c1 g0 w0 p0@0{1,2,3,4} a0 v- y- r[] o[] x{} b0" ∷
    "2 ExchangeStates c1 g0 w0 p0@0{1,2,3,4} a0 v- y- r[] o[] x{} b0" ∷
    "3 ExchangeStates c1 g0 w0 p0@0{1,2,3,4} a0 v- y- r[] o[] x{} b0" ∷
    "4 ExchangeStates c1 g0 w0 p0@0{1,2,3,4} a0 v- y- r[] o[] x{} b0" ∷
    "= 4" ∷
    "1 Construct c1 g0 w0 p0@0{1,2,3,4} a1 v1/0{1,2,3,4}{1} y- r[] o[] x{} b0" ∷
    "= 5" ∷
    "2 Construct c1 g0 w0 p0@0{1,2,3,4} a1 v1/0{1,2,3,4}{2} y- r[] o[] x{} b0" ∷
    "= 6" ∷
    "3 Construct c1 g0 w0 p0@0{1,2,3,4} a1 v1/0{1,2,3,4}{3} y- r[] o[] x{} b0" ∷
    "= 7" ∷
    "4 Construct c1 g0 w0 p0@0{1,2,3,4} a1 v1/0{1,2,3,4}{4} y- r[] o[] x{} b0" ∷
    "= 8" ∷
    "2 Construct c1 g0 w0 p0@0{1,2,3,4} a1 v1/0{1,2,3,4}{2} y- r[] o[] x{} b1" ∷
    "= 10" ∷
    "2 Construct c1 g0 w0 p0@0{1,2,3,4} a1 v1/0{1,2,3,4}{2} y- r[] o[] x{} b2" ∷
    "= 13" ∷
    "greens 2 []" ∷
    "db 2" ∷
    "= 15" ∷
    "1 Down" ∷
    "refused 12 5 3" ∷
    [])
unfolding cases_compute
four_replicas_no_primary_crash_refused_a = refl

-- Replicas at the start: 4: a primary is formed.
four_replicas_primary_formed_a :
    replayed_text (
    "start 3 5 8 18" ∷
    "merge 3 5 8 18" ∷
    "rounds 2" ∷
    "show 5" ∷
    "request 3 put \"a\" 38" ∷
    "request 5 inc \"b\" -1; inc \"a\" -1; put \"a\" 60" ∷
    "request 5 inc \"y\" 12 ? keys \"a\"" ∷
    "end" ∷
    [])
    ≡ written (
    "= 1" ∷
    "3 NonPrim - g0 w0 p0@0{3,5,8,18} a0 v- y- r[] o[] x{} b0" ∷
    "5 NonPrim - g0 w0 p0@0{3,5,8,18} a0 v- y- r[] o[] x{} b0" ∷
    "8 NonPrim - g0 w0 p0@0{3,5,8,18} a0 v- y- r[] o[] x{} b0" ∷
    "18 NonPrim - g0 w0 p0@0{3,5,8,18} a0 v- y- r[] o[] x{} b0" ∷
    "= 2" ∷
    "3 ExchangeStates c1 g0 w0 p0@0{3,5,8,18} a0 v- y- r[] o[] x{} b0" ∷
    "5 ExchangeStates c1 g0 w0 p0@0{3,5,8,18} a0 v- y- r[] o[] x{} b0" ∷
    "8 ExchangeStates c1 g0 w0 p0@0{3,5,8,18} a0 v- y- r[] o[] x{} b0" ∷
    "18 ExchangeStates c1 g0 w0 p0@0{3,5,8,18} a0 v- y- r[] o[] x{} b0" ∷
    "= 4" ∷
    "3 Construct c1 g0 w0 p0@0{3,5,8,18} a1 v1/0{3,5,8,18}{3} y- r[] o[] x{} b0" ∷
    "= 5" ∷
    "5 Construct c1 g0 w0 p0@0{3,5,8,18} a1 v1/0{3,5,8,18}{5} y- r[] o[] x{} b0" ∷
    "= 6" ∷
    "8 Construct c1 g0 w0 p0@0{3,5,8,18} a1 v1/0{3,5,8,18}{8} y- r[] o[] x{} b0" ∷
    "= 7" ∷
    "18 Construct c1 g0 w0 p0@0{3,5,8,18} a1 v1/0{3,5,8,18}{18} y- r[] o[] x{} b0" ∷
    "= 9" ∷
    "3 RegPrim c1 g0 w0 p1@1{3,5,8,18} a0 v1/0{3,5,8,18}{3} y- r[] o[] x{} b0" ∷
    "= 10" ∷
    "5 RegPrim c1 g0 w0 p1@1{3,5,8,18} a0 v1/0{3,5,8,18}{5} y- r[] o[] x{} b0" ∷
    "= 11" ∷
    "8 RegPrim c1 g0 w0 p1@1{3,5,8,18} a0 v1/0{3,5,8,18}{8} y- r[] o[] x{} b0" ∷
    "= 12" ∷
    "18 RegPrim c1 g0 w0 p1@1{3,5,8,18} a0 v1/0{3,5,8,18}{18} y- r[] o[] x{} b0" ∷
    "= 13" ∷
    "greens 5 []" ∷
    "db 5" ∷
    "= 14" ∷
    "made 3:1 put \"a\" 38" ∷
    "3 RegPrim c1 g0 w0 p1@1{3,5,8,18} a0 v1/0{3,5,8,18}{3} y- r[] o[3:1] x{} b0" ∷
    "= 15" ∷
    "made 5:1 inc \"b\" -1; inc \"a\" -1; put \"a\" 60" ∷
    "5 RegPrim c1 g0 w0 p1@1{3,5,8,18} a0 v1/0{3,5,8,18}{5} y- r[] o[5:1] x{} b0" ∷
    "= 16" ∷
    "made 5:2 inc \"y\" 12 ? keys \"a\"" ∷
    "5 RegPrim c1 g0 w0 p1@1{3,5,8,18} a0 v1/0{3,5,8,18}{5} y- r[] o[5:1,5:2] x{} b0" ∷
    "end 16" ∷
    [])
unfolding cases_compute
four_replicas_primary_formed_a = refl
