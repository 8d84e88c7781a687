-- Cases of cases/ with their whole reports, which `.ci/theorems` writes down here.
use Rattle.std.specs.Prelude.{◌≡◌, [], ◌∷◌}
use mathlib.Core.Path.{refl}
use Rattle.cg_run_cases.specs.Replaying.{replayed_text, written}
use Rattle.cg_run_cases.specs.Computing.{cases_compute}

-- Replicas at the start: 4: actions are ordered.
four_replicas_actions_ordered_a :
    replayed_text (
    "start 1 2 3 4" ∷
    "merge 1 2 3 4" ∷
    "rounds 2" ∷
    "request 2 inc \"x\" 65 ? get \"it's\"" ∷
    "request 4 inc \"x\" 83" ∷
    "request 3 inc \"it's\" 26" ∷
    "request 3 put \"k1\" 25 ? get \"a\"" ∷
    "request 3 put \"y\" -9 ? get \"x\"" ∷
    "request 3 inc \"it's\" -6 ? get \"it's\"" ∷
    "request 4 inc \"long-key\" -9223372036854775807" ∷
    "rounds 2" ∷
    "request 3 put \"it's\" 89 ? get \"x\"" ∷
    "request 2 inc \"y\" 10" ∷
    "rounds 3" ∷
    "request 1 put \"a\" 34" ∷
    "request 2 put \"y\" -9223372036854775807" ∷
    "request 4 inc \"a\" -9223372036854775807 ? get \"x\"" ∷
    "end" ∷
    [])
    ≡ written (
    "= 1" ∷
    "1 NonPrim - g0 w0 p0@0{1,2,3,4} a0 v- y- r[] o[] x{} b0" ∷
    "2 NonPrim - g0 w0 p0@0{1,2,3,4} a0 v- y- r[] o[] x{} b0" ∷
    "3 NonPrim - g0 w0 p0@0{1,2,3,4} a0 v- y- r[] o[] x{} b0" ∷
    "4 NonPrim - g0 w0 p0@0{1,2,3,4} a0 v- y- r[] o[] x{} b0" ∷
    "= 2" ∷
    "1 ExchangeStates c1 g0 w0 p0@0{1,2,3,4} a0 v- y- r[] o[] x{} b0" ∷
    "2 ExchangeStates c1 g0 w0 p0@0{1,2,3,4} a0 v- y- r[] o[] x{} b0" ∷
    "3 ExchangeStates c1 g0 w0 p0@0{1,2,3,4} a0 v- y- r[] o[] x{} b0" ∷
    "4 ExchangeStates c1 g0 w0 p0@0{1,2,3,4} a0 v- y- r[] o[] x{} b0" ∷
    "= 4" ∷
    "1 Construct c1 g0 w0 p0@0{1,2,3,4} a1 v1/0{1,2,3,4}{1} y- r[] o[] x{} b0" ∷
    "= 5" ∷
    "2 Construct c1 g0 w0 p0@0{1,2,3,4} a1 v1/0{1,2,3,4}{2} y- r[] o[] x{} b0" ∷
    "= 6" ∷
    "3 Construct c1 g0 w0 p0@0{1,2,3,4} a1 v1/0{1,2,3,4}{3} y- r[] o[] x{} b0" ∷
    "= 7" ∷
    "4 Construct c1 g0 w0 p0@0{1,2,3,4} a1 v1/0{1,2,3,4}{4} y- r[] o[] x{} b0" ∷
    "= 9" ∷
    "1 RegPrim c1 g0 w0 p1@1{1,2,3,4} a0 v1/0{1,2,3,4}{1} y- r[] o[] x{} b0" ∷
    "= 10" ∷
    "2 RegPrim c1 g0 w0 p1@1{1,2,3,4} a0 v1/0{1,2,3,4}{2} y- r[] o[] x{} b0" ∷
    "= 11" ∷
    "3 RegPrim c1 g0 w0 p1@1{1,2,3,4} a0 v1/0{1,2,3,4}{3} y- r[] o[] x{} b0" ∷
    "= 12" ∷
    "4 RegPrim c1 g0 w0 p1@1{1,2,3,4} a0 v1/0{1,2,3,4}{4} y- r[] o[] x{} b0" ∷
    "= 13" ∷
    "made 2:1 inc \"x\" 65 ? get \"it's\"" ∷
    "2 RegPrim c1 g0 w0 p1@1{1,2,3,4} a0 v1/0{1,2,3,4}{2} y- r[] o[2:1] x{} b0" ∷
    "= 14" ∷
    "made 4:1 inc \"x\" 83" ∷
    "4 RegPrim c1 g0 w0 p1@1{1,2,3,4} a0 v1/0{1,2,3,4}{4} y- r[] o[4:1] x{} b0" ∷
    "= 15" ∷
    "made 3:1 inc \"it's\" 26" ∷
    "3 RegPrim c1 g0 w0 p1@1{1,2,3,4} a0 v1/0{1,2,3,4}{3} y- r[] o[3:1] x{} b0" ∷
    "= 16" ∷
    "made 3:2 put \"k1\" 25 ? get \"a\"" ∷
    "3 RegPrim c1 g0 w0 p1@1{1,2,3,4} a0 v1/0{1,2,3,4}{3} y- r[] o[3:1,3:2] x{} b0" ∷
    "= 17" ∷
    "made 3:3 put \"y\" -9 ? get \"x\"" ∷
    "3 RegPrim c1 g0 w0 p1@1{1,2,3,4} a0 v1/0{1,2,3,4}{3} y- r[] o[3:1,3:2,3:3] x{} b0" ∷
    "= 18" ∷
    "made 3:4 inc \"it's\" -6 ? get \"it's\"" ∷
    "3 RegPrim c1 g0 w0 p1@1{1,2,3,4} a0 v1/0{1,2,3,4}{3} y- r[] o[3:1,3:2,3:3,3:4] x{} b0" ∷
    "= 19" ∷
    "made 4:2 inc \"long-key\" -9223372036854775807" ∷
    "4 RegPrim c1 g0 w0 p1@1{1,2,3,4} a0 v1/0{1,2,3,4}{4} y- r[] o[4:1,4:2] x{} b0" ∷
    "= 21" ∷
    "order 1 2:1" ∷
    "order 2 3:1" ∷
    "order 3 3:2" ∷
    "order 4 3:3" ∷
    "order 5 3:4" ∷
    "order 6 4:1" ∷
    "order 7 4:2" ∷
    "1 RegPrim c1 g7 w0 p1@1{1,2,3,4} a0 v1/0{1,2,3,4}{1} y- r[] o[] x{} b0" ∷
    "= 22" ∷
    "2 RegPrim c1 g7 w0 p1@1{1,2,3,4} a0 v1/0{1,2,3,4}{2} y- r[] o[] x{} b0" ∷
    "reply 2:1 done ? absent" ∷
    "= 23" ∷
    "3 RegPrim c1 g7 w0 p1@1{1,2,3,4} a0 v1/0{1,2,3,4}{3} y- r[] o[] x{} b0" ∷
    "reply 3:1 done" ∷
    "reply 3:2 done ? absent" ∷
    "reply 3:3 done ? 65" ∷
    "reply 3:4 done ? 20" ∷
    "= 24" ∷
    "4 RegPrim c1 g7 w0 p1@1{1,2,3,4} a0 v1/0{1,2,3,4}{4} y- r[] o[] x{} b0" ∷
    "reply 4:1 done" ∷
    "reply 4:2 done" ∷
    "= 26" ∷
    "made 3:5 put \"it's\" 89 ? get \"x\"" ∷
    "3 RegPrim c1 g7 w0 p1@1{1,2,3,4} a0 v1/0{1,2,3,4}{3} y- r[] o[3:5] x{} b0" ∷
    "= 27" ∷
    "made 2:2 inc \"y\" 10" ∷
    "2 RegPrim c1 g7 w0 p1@1{1,2,3,4} a0 v1/0{1,2,3,4}{2} y- r[] o[2:2] x{} b0" ∷
    "= 29" ∷
    "order 8 2:2" ∷
    "order 9 3:5" ∷
    "1 RegPrim c1 g9 w0 p1@1{1,2,3,4} a0 v1/0{1,2,3,4}{1} y- r[] o[] x{} b0" ∷
    "= 30" ∷
    "2 RegPrim c1 g9 w0 p1@1{1,2,3,4} a0 v1/0{1,2,3,4}{2} y- r[] o[] x{} b0" ∷
    "reply 2:2 done" ∷
    "= 31" ∷
    "3 RegPrim c1 g9 w0 p1@1{1,2,3,4} a0 v1/0{1,2,3,4}{3} y- r[] o[] x{} b0" ∷
    "reply 3:5 done ? 148" ∷
    "= 32" ∷
    "4 RegPrim c1 g9 w0 p1@1{1,2,3,4} a0 v1/0{1,2,3,4}{4} y- r[] o[] x{} b0" ∷
    "= 35" ∷
    "made 1:1 put \"a\" 34" ∷
    "1 RegPrim c1 g9 w0 p1@1{1,2,3,4} a0 v1/0{1,2,3,4}{1} y- r[] o[1:1] x{} b0" ∷
    "= 36" ∷
    "made 2:3 put \"y\" -9223372036854775807" ∷
    "2 RegPrim c1 g9 w0 p1@1{1,2,3,4} a0 v1/0{1,2,3,4}{2} y- r[] o[2:3] x{} b0" ∷
    "= 37" ∷
    "made 4:3 inc \"a\" -9223372036854775807 ? get \"x\"" ∷
    "4 RegPrim c1 g9 w0 p1@1{1,2,3,4} a0 v1/0{1,2,3,4}{4} y- r[] o[4:3] x{} b0" ∷
    "end 37" ∷
    [])
unfolding cases_compute
four_replicas_actions_ordered_a = refl

-- Replicas at the start: 4: actions are ordered.
four_replicas_actions_ordered_b_from_discarding :
    replayed_text (
    "start 8 18 21 27" ∷
    "merge 8 18 21 27" ∷
    "rounds 1" ∷
    "request 27 inc \"z~\" 82" ∷
    "request 21 inc \"y\" 82 ? get \"k1\"" ∷
    "request 21 put \"a\" 72 ? get \"z~\"" ∷
    "rounds 2" ∷
    "request 21 inc \"it's\" -9223372036854775808" ∷
    "show order" ∷
    "request 18 inc \"it's\" -1" ∷
    "request 8 put \"long-key\" -1 ? get \"z~\"" ∷
    "request 8 inc \"y\" -9223372036854775808 ? get \"k1\"" ∷
    "request 8 put \"a\" 24" ∷
    "request 18 inc \"a\" 9223372036854775806" ∷
    "request 21 inc \"k1\" 62" ∷
    "request 27 inc \"k1\" -1" ∷
    "show order" ∷
    "request 18 inc \"z~\" 86" ∷
    "request 27 put \"x\" 67 ? get \"y\"" ∷
    "show order" ∷
    "show order" ∷
    "request 18 inc \"x\" 55 ? get \"it's\"" ∷
    "request 8 inc \"long-key\" 39" ∷
    "request 21 put \"z~\" 62 ? get \"a\"" ∷
    "request 8 put \"x\" -1" ∷
    "request 21 inc \"x\" 41 ? get \"a\"" ∷
    "request 21 put \"z~\" -6 ? get \"k1\"" ∷
    "show order" ∷
    "request 18 put \"a\" 56" ∷
    "show order" ∷
    "rounds 3" ∷
    "request 27 inc \"a\" 43 ? get \"it's\"" ∷
    "rounds 1" ∷
    "request 8 put \"k1\" 15" ∷
    "request 27 put \"z~\" 48" ∷
    "show order" ∷
    "request 8 put \"it's\" 96" ∷
    "show order" ∷
    "show order" ∷
    "request 18 put \"x\" 81" ∷
    "request 8 put \"y\" 30" ∷
    "request 8 put \"a\" 85" ∷
    "request 27 put \"z~\" 0" ∷
    "request 27 inc \"x\" 80" ∷
    "request 27 inc \"y\" 89" ∷
    "rounds 1" ∷
    "request 27 put \"long-key\" 50" ∷
    "request 27 put \"it's\" 82" ∷
    "request 8 inc \"a\" -9223372036854775808" ∷
    "request 8 put \"it's\" 31" ∷
    "request 21 inc \"z~\" 76 ? get \"k1\"" ∷
    "request 27 inc \"x\" 16" ∷
    "rounds 3" ∷
    "rounds 2" ∷
    "request 18 put \"it's\" 3" ∷
    "request 27 inc \"x\" 75 ? get \"it's\"" ∷
    "request 8 inc \"z~\" 65" ∷
    "request 8 inc \"x\" 14 ? get \"z~\"" ∷
    "rounds 2" ∷
    "end" ∷
    [])
    ≡ written (
    "= 1" ∷
    "8 NonPrim - g0 w0 p0@0{8,18,21,27} a0 v- y- r[] o[] x{} b0" ∷
    "18 NonPrim - g0 w0 p0@0{8,18,21,27} a0 v- y- r[] o[] x{} b0" ∷
    "21 NonPrim - g0 w0 p0@0{8,18,21,27} a0 v- y- r[] o[] x{} b0" ∷
    "27 NonPrim - g0 w0 p0@0{8,18,21,27} a0 v- y- r[] o[] x{} b0" ∷
    "= 2" ∷
    "8 ExchangeStates c1 g0 w0 p0@0{8,18,21,27} a0 v- y- r[] o[] x{} b0" ∷
    "18 ExchangeStates c1 g0 w0 p0@0{8,18,21,27} a0 v- y- r[] o[] x{} b0" ∷
    "21 ExchangeStates c1 g0 w0 p0@0{8,18,21,27} a0 v- y- r[] o[] x{} b0" ∷
    "27 ExchangeStates c1 g0 w0 p0@0{8,18,21,27} a0 v- y- r[] o[] x{} b0" ∷
    "= 4" ∷
    "8 Construct c1 g0 w0 p0@0{8,18,21,27} a1 v1/0{8,18,21,27}{8} y- r[] o[] x{} b0" ∷
    "= 5" ∷
    "18 Construct c1 g0 w0 p0@0{8,18,21,27} a1 v1/0{8,18,21,27}{18} y- r[] o[] x{} b0" ∷
    "= 6" ∷
    "21 Construct c1 g0 w0 p0@0{8,18,21,27} a1 v1/0{8,18,21,27}{21} y- r[] o[] x{} b0" ∷
    "= 7" ∷
    "27 Construct c1 g0 w0 p0@0{8,18,21,27} a1 v1/0{8,18,21,27}{27} y- r[] o[] x{} b0" ∷
    "= 8" ∷
    "27 Construct c1 g0 w0 p0@0{8,18,21,27} a1 v1/0{8,18,21,27}{27} y- r[] o[] x{} b1" ∷
    "= 9" ∷
    "21 Construct c1 g0 w0 p0@0{8,18,21,27} a1 v1/0{8,18,21,27}{21} y- r[] o[] x{} b1" ∷
    "= 10" ∷
    "21 Construct c1 g0 w0 p0@0{8,18,21,27} a1 v1/0{8,18,21,27}{21} y- r[] o[] x{} b2" ∷
    "= 12" ∷
    "8 RegPrim c1 g0 w0 p1@1{8,18,21,27} a0 v1/0{8,18,21,27}{8} y- r[] o[] x{} b0" ∷
    "= 13" ∷
    "18 RegPrim c1 g0 w0 p1@1{8,18,21,27} a0 v1/0{8,18,21,27}{18} y- r[] o[] x{} b0" ∷
    "= 14" ∷
    "made 21:1 inc \"y\" 82 ? get \"k1\"" ∷
    "made 21:2 put \"a\" 72 ? get \"z~\"" ∷
    "21 RegPrim c1 g0 w0 p1@1{8,18,21,27} a0 v1/0{8,18,21,27}{21} y- r[] o[21:1,21:2] x{} b0" ∷
    "= 15" ∷
    "made 27:1 inc \"z~\" 82" ∷
    "27 RegPrim c1 g0 w0 p1@1{8,18,21,27} a0 v1/0{8,18,21,27}{27} y- r[] o[27:1] x{} b0" ∷
    "= 17" ∷
    "order 1 21:1" ∷
    "order 2 21:2" ∷
    "order 3 27:1" ∷
    "8 RegPrim c1 g3 w0 p1@1{8,18,21,27} a0 v1/0{8,18,21,27}{8} y- r[] o[] x{} b0" ∷
    "= 18" ∷
    "18 RegPrim c1 g3 w0 p1@1{8,18,21,27} a0 v1/0{8,18,21,27}{18} y- r[] o[] x{} b0" ∷
    "= 19" ∷
    "21 RegPrim c1 g3 w0 p1@1{8,18,21,27} a0 v1/0{8,18,21,27}{21} y- r[] o[] x{} b0" ∷
    "reply 21:1 done ? absent" ∷
    "reply 21:2 done ? absent" ∷
    "= 20" ∷
    "27 RegPrim c1 g3 w0 p1@1{8,18,21,27} a0 v1/0{8,18,21,27}{27} y- r[] o[] x{} b0" ∷
    "reply 27:1 done" ∷
    "= 21" ∷
    "made 21:3 inc \"it's\" -9223372036854775808" ∷
    "21 RegPrim c1 g3 w0 p1@1{8,18,21,27} a0 v1/0{8,18,21,27}{21} y- r[] o[21:3] x{} b0" ∷
    "= 22" ∷
    "all [21:1,21:2,27:1]" ∷
    "= 23" ∷
    "made 18:1 inc \"it's\" -1" ∷
    "18 RegPrim c1 g3 w0 p1@1{8,18,21,27} a0 v1/0{8,18,21,27}{18} y- r[] o[18:1] x{} b0" ∷
    "= 24" ∷
    "made 8:1 put \"long-key\" -1 ? get \"z~\"" ∷
    "8 RegPrim c1 g3 w0 p1@1{8,18,21,27} a0 v1/0{8,18,21,27}{8} y- r[] o[8:1] x{} b0" ∷
    "= 25" ∷
    "made 8:2 inc \"y\" -9223372036854775808 ? get \"k1\"" ∷
    "8 RegPrim c1 g3 w0 p1@1{8,18,21,27} a0 v1/0{8,18,21,27}{8} y- r[] o[8:1,8:2] x{} b0" ∷
    "= 26" ∷
    "made 8:3 put \"a\" 24" ∷
    "8 RegPrim c1 g3 w0 p1@1{8,18,21,27} a0 v1/0{8,18,21,27}{8} y- r[] o[8:1,8:2,8:3] x{} b0" ∷
    "= 27" ∷
    "made 18:2 inc \"a\" 9223372036854775806" ∷
    "18 RegPrim c1 g3 w0 p1@1{8,18,21,27} a0 v1/0{8,18,21,27}{18} y- r[] o[18:1,18:2] x{} b0" ∷
    "= 28" ∷
    "made 21:4 inc \"k1\" 62" ∷
    "21 RegPrim c1 g3 w0 p1@1{8,18,21,27} a0 v1/0{8,18,21,27}{21} y- r[] o[21:3,21:4] x{} b0" ∷
    "= 29" ∷
    "made 27:2 inc \"k1\" -1" ∷
    "27 RegPrim c1 g3 w0 p1@1{8,18,21,27} a0 v1/0{8,18,21,27}{27} y- r[] o[27:2] x{} b0" ∷
    "= 30" ∷
    "all [21:1,21:2,27:1]" ∷
    "= 31" ∷
    "made 18:3 inc \"z~\" 86" ∷
    "18 RegPrim c1 g3 w0 p1@1{8,18,21,27} a0 v1/0{8,18,21,27}{18} y- r[] o[18:1,18:2,18:3] x{} b0" ∷
    "= 32" ∷
    "made 27:3 put \"x\" 67 ? get \"y\"" ∷
    "27 RegPrim c1 g3 w0 p1@1{8,18,21,27} a0 v1/0{8,18,21,27}{27} y- r[] o[27:2,27:3] x{} b0" ∷
    "= 33" ∷
    "all [21:1,21:2,27:1]" ∷
    "= 34" ∷
    "all [21:1,21:2,27:1]" ∷
    "= 35" ∷
    "made 18:4 inc \"x\" 55 ? get \"it's\"" ∷
    "18 RegPrim c1 g3 w0 p1@1{8,18,21,27} a0 v1/0{8,18,21,27}{18} y- r[] o[18:1,18:2,18:3,18:4] x{} b0" ∷
    "= 36" ∷
    "made 8:4 inc \"long-key\" 39" ∷
    "8 RegPrim c1 g3 w0 p1@1{8,18,21,27} a0 v1/0{8,18,21,27}{8} y- r[] o[8:1,8:2,8:3,8:4] x{} b0" ∷
    "= 37" ∷
    "made 21:5 put \"z~\" 62 ? get \"a\"" ∷
    "21 RegPrim c1 g3 w0 p1@1{8,18,21,27} a0 v1/0{8,18,21,27}{21} y- r[] o[21:3,21:4,21:5] x{} b0" ∷
    "= 38" ∷
    "made 8:5 put \"x\" -1" ∷
    "8 RegPrim c1 g3 w0 p1@1{8,18,21,27} a0 v1/0{8,18,21,27}{8} y- r[] o[8:1,8:2,8:3,8:4,8:5] x{} b0" ∷
    "= 39" ∷
    "made 21:6 inc \"x\" 41 ? get \"a\"" ∷
    "21 RegPrim c1 g3 w0 p1@1{8,18,21,27} a0 v1/0{8,18,21,27}{21} y- r[] o[21:3,21:4,21:5,21:6] x{} b0" ∷
    "= 40" ∷
    "made 21:7 put \"z~\" -6 ? get \"k1\"" ∷
    "21 RegPrim c1 g3 w0 p1@1{8,18,21,27} a0 v1/0{8,18,21,27}{21} y- r[] o[21:3,21:4,21:5,21:6,21:7] x{} b0" ∷
    "= 41" ∷
    "all [21:1,21:2,27:1]" ∷
    "= 42" ∷
    "made 18:5 put \"a\" 56" ∷
    "18 RegPrim c1 g3 w0 p1@1{8,18,21,27} a0 v1/0{8,18,21,27}{18} y- r[] o[18:1,18:2,18:3,18:4,18:5] x{} b0" ∷
    "= 43" ∷
    "all [21:1,21:2,27:1]" ∷
    "= 45" ∷
    "order 4 8:1" ∷
    "order 5 8:2" ∷
    "order 6 8:3" ∷
    "order 7 8:4" ∷
    "order 8 8:5" ∷
    "order 9 18:1" ∷
    "order 10 18:2" ∷
    "order 11 18:3" ∷
    "order 12 18:4" ∷
    "order 13 18:5" ∷
    "order 14 21:3" ∷
    "order 15 21:4" ∷
    "order 16 21:5" ∷
    "order 17 21:6" ∷
    "order 18 21:7" ∷
    "order 19 27:2" ∷
    "order 20 27:3" ∷
    "8 RegPrim c1 g20 w3 p1@1{8,18,21,27} a0 v1/0{8,18,21,27}{8} y- r[] o[] x{} b0" ∷
    "reply 8:1 done ? 82" ∷
    "reply 8:2 done ? absent" ∷
    "reply 8:3 done" ∷
    "reply 8:4 done" ∷
    "reply 8:5 done" ∷
    "= 46" ∷
    "18 RegPrim c1 g20 w3 p1@1{8,18,21,27} a0 v1/0{8,18,21,27}{18} y- r[] o[] x{} b0" ∷
    "reply 18:1 done" ∷
    "reply 18:2 range 1" ∷
    "reply 18:3 done" ∷
    "reply 18:4 done ? -1" ∷
    "reply 18:5 done" ∷
    "= 47" ∷
    "21 RegPrim c1 g20 w3 p1@1{8,18,21,27} a0 v1/0{8,18,21,27}{21} y- r[] o[] x{} b0" ∷
    "reply 21:3 range 1" ∷
    "reply 21:4 done" ∷
    "reply 21:5 done ? 56" ∷
    "reply 21:6 done ? 56" ∷
    "reply 21:7 done ? 62" ∷
    "= 48" ∷
    "27 RegPrim c1 g20 w3 p1@1{8,18,21,27} a0 v1/0{8,18,21,27}{27} y- r[] o[] x{} b0" ∷
    "reply 27:2 done" ∷
    "reply 27:3 done ? -9223372036854775726" ∷
    "= 51" ∷
    "made 27:4 inc \"a\" 43 ? get \"it's\"" ∷
    "27 RegPrim c1 g20 w3 p1@1{8,18,21,27} a0 v1/0{8,18,21,27}{27} y- r[] o[27:4] x{} b0" ∷
    "= 53" ∷
    "order 21 27:4" ∷
    "8 RegPrim c1 g21 w3 p1@1{8,18,21,27} a0 v1/0{8,18,21,27}{8} y- r[] o[] x{} b0" ∷
    "= 54" ∷
    "18 RegPrim c1 g21 w3 p1@1{8,18,21,27} a0 v1/0{8,18,21,27}{18} y- r[] o[] x{} b0" ∷
    "= 55" ∷
    "21 RegPrim c1 g21 w3 p1@1{8,18,21,27} a0 v1/0{8,18,21,27}{21} y- r[] o[] x{} b0" ∷
    "= 56" ∷
    "27 RegPrim c1 g21 w3 p1@1{8,18,21,27} a0 v1/0{8,18,21,27}{27} y- r[] o[] x{} b0" ∷
    "reply 27:4 done ? -1" ∷
    "= 57" ∷
    "made 8:6 put \"k1\" 15" ∷
    "8 RegPrim c1 g21 w3 p1@1{8,18,21,27} a0 v1/0{8,18,21,27}{8} y- r[] o[8:6] x{} b0" ∷
    "= 58" ∷
    "made 27:5 put \"z~\" 48" ∷
    "27 RegPrim c1 g21 w3 p1@1{8,18,21,27} a0 v1/0{8,18,21,27}{27} y- r[] o[27:5] x{} b0" ∷
    "= 59" ∷
    "all [21:1,21:2,27:1,8:1,8:2,8:3,8:4,8:5,18:1,18:2,18:3,18:4,18:5,21:3,21:4,21:5,21:6,21:7,27:2,27:3,27:4]" ∷
    "= 60" ∷
    "made 8:7 put \"it's\" 96" ∷
    "8 RegPrim c1 g21 w3 p1@1{8,18,21,27} a0 v1/0{8,18,21,27}{8} y- r[] o[8:6,8:7] x{} b0" ∷
    "= 61" ∷
    "all [21:1,21:2,27:1,8:1,8:2,8:3,8:4,8:5,18:1,18:2,18:3,18:4,18:5,21:3,21:4,21:5,21:6,21:7,27:2,27:3,27:4]" ∷
    "= 62" ∷
    "all [21:1,21:2,27:1,8:1,8:2,8:3,8:4,8:5,18:1,18:2,18:3,18:4,18:5,21:3,21:4,21:5,21:6,21:7,27:2,27:3,27:4]" ∷
    "= 63" ∷
    "made 18:6 put \"x\" 81" ∷
    "18 RegPrim c1 g21 w3 p1@1{8,18,21,27} a0 v1/0{8,18,21,27}{18} y- r[] o[18:6] x{} b0" ∷
    "= 64" ∷
    "made 8:8 put \"y\" 30" ∷
    "8 RegPrim c1 g21 w3 p1@1{8,18,21,27} a0 v1/0{8,18,21,27}{8} y- r[] o[8:6,8:7,8:8] x{} b0" ∷
    "= 65" ∷
    "made 8:9 put \"a\" 85" ∷
    "8 RegPrim c1 g21 w3 p1@1{8,18,21,27} a0 v1/0{8,18,21,27}{8} y- r[] o[8:6,8:7,8:8,8:9] x{} b0" ∷
    "= 66" ∷
    "made 27:6 put \"z~\" 0" ∷
    "27 RegPrim c1 g21 w3 p1@1{8,18,21,27} a0 v1/0{8,18,21,27}{27} y- r[] o[27:5,27:6] x{} b0" ∷
    "= 67" ∷
    "made 27:7 inc \"x\" 80" ∷
    "27 RegPrim c1 g21 w3 p1@1{8,18,21,27} a0 v1/0{8,18,21,27}{27} y- r[] o[27:5,27:6,27:7] x{} b0" ∷
    "= 68" ∷
    "made 27:8 inc \"y\" 89" ∷
    "27 RegPrim c1 g21 w3 p1@1{8,18,21,27} a0 v1/0{8,18,21,27}{27} y- r[] o[27:5,27:6,27:7,27:8] x{} b0" ∷
    "= 70" ∷
    "order 22 8:6" ∷
    "order 23 8:7" ∷
    "order 24 8:8" ∷
    "order 25 8:9" ∷
    "order 26 18:6" ∷
    "order 27 27:5" ∷
    "order 28 27:6" ∷
    "order 29 27:7" ∷
    "order 30 27:8" ∷
    "8 RegPrim c1 g30 w3 p1@1{8,18,21,27} a0 v1/0{8,18,21,27}{8} y- r[] o[] x{} b0" ∷
    "reply 8:6 done" ∷
    "reply 8:7 done" ∷
    "reply 8:8 done" ∷
    "reply 8:9 done" ∷
    "= 71" ∷
    "18 RegPrim c1 g30 w3 p1@1{8,18,21,27} a0 v1/0{8,18,21,27}{18} y- r[] o[] x{} b0" ∷
    "reply 18:6 done" ∷
    "= 72" ∷
    "21 RegPrim c1 g30 w3 p1@1{8,18,21,27} a0 v1/0{8,18,21,27}{21} y- r[] o[] x{} b0" ∷
    "= 73" ∷
    "27 RegPrim c1 g30 w3 p1@1{8,18,21,27} a0 v1/0{8,18,21,27}{27} y- r[] o[] x{} b0" ∷
    "reply 27:5 done" ∷
    "reply 27:6 done" ∷
    "reply 27:7 done" ∷
    "reply 27:8 done" ∷
    "= 74" ∷
    "made 27:9 put \"long-key\" 50" ∷
    "27 RegPrim c1 g30 w3 p1@1{8,18,21,27} a0 v1/0{8,18,21,27}{27} y- r[] o[27:9] x{} b0" ∷
    "= 75" ∷
    "made 27:10 put \"it's\" 82" ∷
    "27 RegPrim c1 g30 w3 p1@1{8,18,21,27} a0 v1/0{8,18,21,27}{27} y- r[] o[27:9,27:10] x{} b0" ∷
    "= 76" ∷
    "made 8:10 inc \"a\" -9223372036854775808" ∷
    "8 RegPrim c1 g30 w3 p1@1{8,18,21,27} a0 v1/0{8,18,21,27}{8} y- r[] o[8:10] x{} b0" ∷
    "= 77" ∷
    "made 8:11 put \"it's\" 31" ∷
    "8 RegPrim c1 g30 w3 p1@1{8,18,21,27} a0 v1/0{8,18,21,27}{8} y- r[] o[8:10,8:11] x{} b0" ∷
    "= 78" ∷
    "made 21:8 inc \"z~\" 76 ? get \"k1\"" ∷
    "21 RegPrim c1 g30 w3 p1@1{8,18,21,27} a0 v1/0{8,18,21,27}{21} y- r[] o[21:8] x{} b0" ∷
    "= 79" ∷
    "made 27:11 inc \"x\" 16" ∷
    "27 RegPrim c1 g30 w3 p1@1{8,18,21,27} a0 v1/0{8,18,21,27}{27} y- r[] o[27:9,27:10,27:11] x{} b0" ∷
    "= 81" ∷
    "order 31 8:10" ∷
    "order 32 8:11" ∷
    "order 33 21:8" ∷
    "order 34 27:9" ∷
    "order 35 27:10" ∷
    "order 36 27:11" ∷
    "8 RegPrim c1 g36 w21 p1@1{8,18,21,27} a0 v1/0{8,18,21,27}{8} y- r[] o[] x{} b0" ∷
    "reply 8:10 done" ∷
    "reply 8:11 done" ∷
    "= 82" ∷
    "18 RegPrim c1 g36 w21 p1@1{8,18,21,27} a0 v1/0{8,18,21,27}{18} y- r[] o[] x{} b0" ∷
    "= 83" ∷
    "21 RegPrim c1 g36 w21 p1@1{8,18,21,27} a0 v1/0{8,18,21,27}{21} y- r[] o[] x{} b0" ∷
    "reply 21:8 done ? 15" ∷
    "= 84" ∷
    "27 RegPrim c1 g36 w21 p1@1{8,18,21,27} a0 v1/0{8,18,21,27}{27} y- r[] o[] x{} b0" ∷
    "reply 27:9 done" ∷
    "reply 27:10 done" ∷
    "reply 27:11 done" ∷
    "= 89" ∷
    "made 18:7 put \"it's\" 3" ∷
    "18 RegPrim c1 g36 w21 p1@1{8,18,21,27} a0 v1/0{8,18,21,27}{18} y- r[] o[18:7] x{} b0" ∷
    "= 90" ∷
    "made 27:12 inc \"x\" 75 ? get \"it's\"" ∷
    "27 RegPrim c1 g36 w21 p1@1{8,18,21,27} a0 v1/0{8,18,21,27}{27} y- r[] o[27:12] x{} b0" ∷
    "= 91" ∷
    "made 8:12 inc \"z~\" 65" ∷
    "8 RegPrim c1 g36 w21 p1@1{8,18,21,27} a0 v1/0{8,18,21,27}{8} y- r[] o[8:12] x{} b0" ∷
    "= 92" ∷
    "made 8:13 inc \"x\" 14 ? get \"z~\"" ∷
    "8 RegPrim c1 g36 w21 p1@1{8,18,21,27} a0 v1/0{8,18,21,27}{8} y- r[] o[8:12,8:13] x{} b0" ∷
    "= 94" ∷
    "order 37 8:12" ∷
    "order 38 8:13" ∷
    "order 39 18:7" ∷
    "order 40 27:12" ∷
    "8 RegPrim c1 g40 w30 p1@1{8,18,21,27} a0 v1/0{8,18,21,27}{8} y- r[] o[] x{} b0" ∷
    "reply 8:12 done" ∷
    "reply 8:13 done ? 141" ∷
    "= 95" ∷
    "18 RegPrim c1 g40 w30 p1@1{8,18,21,27} a0 v1/0{8,18,21,27}{18} y- r[] o[] x{} b0" ∷
    "reply 18:7 done" ∷
    "= 96" ∷
    "21 RegPrim c1 g40 w30 p1@1{8,18,21,27} a0 v1/0{8,18,21,27}{21} y- r[] o[] x{} b0" ∷
    "= 97" ∷
    "27 RegPrim c1 g40 w30 p1@1{8,18,21,27} a0 v1/0{8,18,21,27}{27} y- r[] o[] x{} b0" ∷
    "reply 27:12 done ? 3" ∷
    "end 98" ∷
    [])
unfolding cases_compute
four_replicas_actions_ordered_b_from_discarding = refl

-- Replicas at the start: 4: actions are ordered.
four_replicas_actions_ordered_e_from_discarding :
    replayed_text (
    "start 1 2 3 4" ∷
    "merge 1 2 3 4" ∷
    "rounds 2" ∷
    "rounds 1" ∷
    "request 1 cas \"ab\" absent -1 ? get \"z\"" ∷
    "request 2 put \"y\" 36" ∷
    "request 2 move \"k2\" \"z\" 5" ∷
    "rounds 2" ∷
    "request 2 cas \"abc\" \"-1\" 77 ? count" ∷
    "rounds 3" ∷
    "request 2 put \"a\" 88" ∷
    "gather" ∷
    "deliver 3 1" ∷
    "request 1 move \"ab\" \"x\" 5 ? get \"y\"" ∷
    "order 1" ∷
    "gather" ∷
    "request 1 inc \"a\" 2" ∷
    "deliver 1 2" ∷
    "request 1 need \"z\" 16 ? get \"ab\"" ∷
    "deliver 4 2" ∷
    "gather" ∷
    "request 2 inc \"z\" 12" ∷
    "deliver 2 4" ∷
    "request 4 inc \"b\" 4; put \"a\" 43; inc \"y\" 9223372036854775807; put \"y\" \"\" ? count" ∷
    "request 2 put \"a\" -8; move \"a\" \"x\" 9223372036854775807 ? get \"z\"" ∷
    "request 4 cas \"x\" \"absent\" 9223372036854775806 ? get \"y\"" ∷
    "rounds 3" ∷
    "gather" ∷
    "gather" ∷
    "request 3 need \"z\" 87; move \"y\" \"b\" 6; put \"y\" 0" ∷
    "order 3" ∷
    "request 2 inc \"b\" 7" ∷
    "rounds 3" ∷
    "request 3 inc \"a\" 6 ? get \"y\"" ∷
    "request 1 inc \"z\" 4" ∷
    "rounds 3" ∷
    "rounds 3" ∷
    "rounds 1" ∷
    "request 3 need \"y\" -9223372036854775808 ? get \"y\"" ∷
    "request 3 inc \"ab\" 7; inc \"x\" 1; put \"a\" 22; del \"a\"" ∷
    "request 4 inc \"b\" 2; need \"y\" 71; put \"y\" 82; inc \"z\" 6 ? get \"a\"" ∷
    "request 1 need \"y\" 45" ∷
    "gather" ∷
    "request 2 put \"y\" 74; need \"y\" 20; inc \"a\" -1" ∷
    "show 3" ∷
    "deliver 1 3" ∷
    "show order" ∷
    "deliver 3 3" ∷
    "request 1 put \"a\" 47; put \"z\" 8" ∷
    "request 3 inc \"ab\" -2; inc \"y\" 7; need \"b\" absent" ∷
    "request 3 cas \"a\" \"\" 38" ∷
    "request 2 put \"z\" 14; del \"z\"; inc \"ab\" 8" ∷
    "request 1 del \"z\"" ∷
    "end" ∷
    [])
    ≡ written (
    "= 1" ∷
    "1 NonPrim - g0 w0 p0@0{1,2,3,4} a0 v- y- r[] o[] x{} b0" ∷
    "2 NonPrim - g0 w0 p0@0{1,2,3,4} a0 v- y- r[] o[] x{} b0" ∷
    "3 NonPrim - g0 w0 p0@0{1,2,3,4} a0 v- y- r[] o[] x{} b0" ∷
    "4 NonPrim - g0 w0 p0@0{1,2,3,4} a0 v- y- r[] o[] x{} b0" ∷
    "= 2" ∷
    "1 ExchangeStates c1 g0 w0 p0@0{1,2,3,4} a0 v- y- r[] o[] x{} b0" ∷
    "2 ExchangeStates c1 g0 w0 p0@0{1,2,3,4} a0 v- y- r[] o[] x{} b0" ∷
    "3 ExchangeStates c1 g0 w0 p0@0{1,2,3,4} a0 v- y- r[] o[] x{} b0" ∷
    "4 ExchangeStates c1 g0 w0 p0@0{1,2,3,4} a0 v- y- r[] o[] x{} b0" ∷
    "= 4" ∷
    "1 Construct c1 g0 w0 p0@0{1,2,3,4} a1 v1/0{1,2,3,4}{1} y- r[] o[] x{} b0" ∷
    "= 5" ∷
    "2 Construct c1 g0 w0 p0@0{1,2,3,4} a1 v1/0{1,2,3,4}{2} y- r[] o[] x{} b0" ∷
    "= 6" ∷
    "3 Construct c1 g0 w0 p0@0{1,2,3,4} a1 v1/0{1,2,3,4}{3} y- r[] o[] x{} b0" ∷
    "= 7" ∷
    "4 Construct c1 g0 w0 p0@0{1,2,3,4} a1 v1/0{1,2,3,4}{4} y- r[] o[] x{} b0" ∷
    "= 9" ∷
    "1 RegPrim c1 g0 w0 p1@1{1,2,3,4} a0 v1/0{1,2,3,4}{1} y- r[] o[] x{} b0" ∷
    "= 10" ∷
    "2 RegPrim c1 g0 w0 p1@1{1,2,3,4} a0 v1/0{1,2,3,4}{2} y- r[] o[] x{} b0" ∷
    "= 11" ∷
    "3 RegPrim c1 g0 w0 p1@1{1,2,3,4} a0 v1/0{1,2,3,4}{3} y- r[] o[] x{} b0" ∷
    "= 12" ∷
    "4 RegPrim c1 g0 w0 p1@1{1,2,3,4} a0 v1/0{1,2,3,4}{4} y- r[] o[] x{} b0" ∷
    "= 14" ∷
    "made 1:1 cas \"ab\" absent -1 ? get \"z\"" ∷
    "1 RegPrim c1 g0 w0 p1@1{1,2,3,4} a0 v1/0{1,2,3,4}{1} y- r[] o[1:1] x{} b0" ∷
    "= 15" ∷
    "made 2:1 put \"y\" 36" ∷
    "2 RegPrim c1 g0 w0 p1@1{1,2,3,4} a0 v1/0{1,2,3,4}{2} y- r[] o[2:1] x{} b0" ∷
    "= 16" ∷
    "made 2:2 move \"k2\" \"z\" 5" ∷
    "2 RegPrim c1 g0 w0 p1@1{1,2,3,4} a0 v1/0{1,2,3,4}{2} y- r[] o[2:1,2:2] x{} b0" ∷
    "= 18" ∷
    "order 1 1:1" ∷
    "order 2 2:1" ∷
    "order 3 2:2" ∷
    "1 RegPrim c1 g3 w0 p1@1{1,2,3,4} a0 v1/0{1,2,3,4}{1} y- r[] o[] x{} b0" ∷
    "reply 1:1 done ? absent" ∷
    "= 19" ∷
    "2 RegPrim c1 g3 w0 p1@1{1,2,3,4} a0 v1/0{1,2,3,4}{2} y- r[] o[] x{} b0" ∷
    "reply 2:1 done" ∷
    "reply 2:2 aborted 1" ∷
    "= 20" ∷
    "3 RegPrim c1 g3 w0 p1@1{1,2,3,4} a0 v1/0{1,2,3,4}{3} y- r[] o[] x{} b0" ∷
    "= 21" ∷
    "4 RegPrim c1 g3 w0 p1@1{1,2,3,4} a0 v1/0{1,2,3,4}{4} y- r[] o[] x{} b0" ∷
    "= 23" ∷
    "made 2:3 cas \"abc\" \"-1\" 77 ? count" ∷
    "2 RegPrim c1 g3 w0 p1@1{1,2,3,4} a0 v1/0{1,2,3,4}{2} y- r[] o[2:3] x{} b0" ∷
    "= 25" ∷
    "order 4 2:3" ∷
    "1 RegPrim c1 g4 w0 p1@1{1,2,3,4} a0 v1/0{1,2,3,4}{1} y- r[] o[] x{} b0" ∷
    "= 26" ∷
    "2 RegPrim c1 g4 w0 p1@1{1,2,3,4} a0 v1/0{1,2,3,4}{2} y- r[] o[] x{} b0" ∷
    "reply 2:3 done ? count 2" ∷
    "= 27" ∷
    "3 RegPrim c1 g4 w0 p1@1{1,2,3,4} a0 v1/0{1,2,3,4}{3} y- r[] o[] x{} b0" ∷
    "= 28" ∷
    "4 RegPrim c1 g4 w0 p1@1{1,2,3,4} a0 v1/0{1,2,3,4}{4} y- r[] o[] x{} b0" ∷
    "= 31" ∷
    "made 2:4 put \"a\" 88" ∷
    "2 RegPrim c1 g4 w0 p1@1{1,2,3,4} a0 v1/0{1,2,3,4}{2} y- r[] o[2:4] x{} b0" ∷
    "= 33" ∷
    "order 5 2:4" ∷
    "3 RegPrim c1 g5 w0 p1@1{1,2,3,4} a0 v1/0{1,2,3,4}{3} y- r[] o[] x{} b0" ∷
    "= 34" ∷
    "made 1:2 move \"ab\" \"x\" 5 ? get \"y\"" ∷
    "1 RegPrim c1 g4 w0 p1@1{1,2,3,4} a0 v1/0{1,2,3,4}{1} y- r[] o[1:2] x{} b0" ∷
    "= 37" ∷
    "made 1:3 inc \"a\" 2" ∷
    "1 RegPrim c1 g4 w0 p1@1{1,2,3,4} a0 v1/0{1,2,3,4}{1} y- r[] o[1:2,1:3] x{} b0" ∷
    "= 38" ∷
    "order 6 1:2" ∷
    "1 RegPrim c1 g6 w0 p1@1{1,2,3,4} a0 v1/0{1,2,3,4}{1} y- r[] o[1:3] x{} b0" ∷
    "reply 1:2 aborted 1 ? 36" ∷
    "= 39" ∷
    "made 1:4 need \"z\" 16 ? get \"ab\"" ∷
    "1 RegPrim c1 g6 w0 p1@1{1,2,3,4} a0 v1/0{1,2,3,4}{1} y- r[] o[1:3,1:4] x{} b0" ∷
    "= 40" ∷
    "4 RegPrim c1 g6 w0 p1@1{1,2,3,4} a0 v1/0{1,2,3,4}{4} y- r[] o[] x{} b0" ∷
    "= 42" ∷
    "made 2:5 inc \"z\" 12" ∷
    "2 RegPrim c1 g4 w0 p1@1{1,2,3,4} a0 v1/0{1,2,3,4}{2} y- r[] o[2:4,2:5] x{} b0" ∷
    "= 43" ∷
    "order 7 1:3" ∷
    "order 8 1:4" ∷
    "2 RegPrim c1 g8 w0 p1@1{1,2,3,4} a0 v1/0{1,2,3,4}{2} y- r[] o[2:5] x{} b0" ∷
    "reply 2:4 done" ∷
    "= 44" ∷
    "made 4:1 inc \"b\" 4; put \"a\" 43; inc \"y\" 9223372036854775807; put \"y\" \"\" ? count" ∷
    "4 RegPrim c1 g6 w0 p1@1{1,2,3,4} a0 v1/0{1,2,3,4}{4} y- r[] o[4:1] x{} b0" ∷
    "= 45" ∷
    "made 2:6 put \"a\" -8; move \"a\" \"x\" 9223372036854775807 ? get \"z\"" ∷
    "2 RegPrim c1 g8 w0 p1@1{1,2,3,4} a0 v1/0{1,2,3,4}{2} y- r[] o[2:5,2:6] x{} b0" ∷
    "= 46" ∷
    "made 4:2 cas \"x\" \"absent\" 9223372036854775806 ? get \"y\"" ∷
    "4 RegPrim c1 g6 w0 p1@1{1,2,3,4} a0 v1/0{1,2,3,4}{4} y- r[] o[4:1,4:2] x{} b0" ∷
    "= 48" ∷
    "order 9 2:5" ∷
    "order 10 2:6" ∷
    "order 11 4:1" ∷
    "order 12 4:2" ∷
    "1 RegPrim c1 g12 w0 p1@1{1,2,3,4} a0 v1/0{1,2,3,4}{1} y- r[] o[] x{} b0" ∷
    "reply 1:3 done" ∷
    "reply 1:4 aborted 1 ? -1" ∷
    "= 49" ∷
    "2 RegPrim c1 g12 w0 p1@1{1,2,3,4} a0 v1/0{1,2,3,4}{2} y- r[] o[] x{} b0" ∷
    "reply 2:5 done" ∷
    "reply 2:6 aborted 2 ? 12" ∷
    "= 50" ∷
    "3 RegPrim c1 g12 w0 p1@1{1,2,3,4} a0 v1/0{1,2,3,4}{3} y- r[] o[] x{} b0" ∷
    "= 51" ∷
    "4 RegPrim c1 g12 w0 p1@1{1,2,3,4} a0 v1/0{1,2,3,4}{4} y- r[] o[] x{} b0" ∷
    "reply 4:1 range 3 ? count 4" ∷
    "reply 4:2 done ? 36" ∷
    "= 56" ∷
    "made 3:1 need \"z\" 87; move \"y\" \"b\" 6; put \"y\" 0" ∷
    "3 RegPrim c1 g12 w0 p1@1{1,2,3,4} a0 v1/0{1,2,3,4}{3} y- r[] o[3:1] x{} b0" ∷
    "= 58" ∷
    "made 2:7 inc \"b\" 7" ∷
    "2 RegPrim c1 g12 w0 p1@1{1,2,3,4} a0 v1/0{1,2,3,4}{2} y- r[] o[2:7] x{} b0" ∷
    "= 60" ∷
    "order 13 3:1" ∷
    "order 14 2:7" ∷
    "1 RegPrim c1 g14 w6 p1@1{1,2,3,4} a0 v1/0{1,2,3,4}{1} y- r[] o[] x{} b0" ∷
    "= 61" ∷
    "2 RegPrim c1 g14 w6 p1@1{1,2,3,4} a0 v1/0{1,2,3,4}{2} y- r[] o[] x{} b0" ∷
    "reply 2:7 done" ∷
    "= 62" ∷
    "3 RegPrim c1 g14 w6 p1@1{1,2,3,4} a0 v1/0{1,2,3,4}{3} y- r[] o[] x{} b0" ∷
    "reply 3:1 aborted 1" ∷
    "= 63" ∷
    "4 RegPrim c1 g14 w6 p1@1{1,2,3,4} a0 v1/0{1,2,3,4}{4} y- r[] o[] x{} b0" ∷
    "= 66" ∷
    "made 3:2 inc \"a\" 6 ? get \"y\"" ∷
    "3 RegPrim c1 g14 w6 p1@1{1,2,3,4} a0 v1/0{1,2,3,4}{3} y- r[] o[3:2] x{} b0" ∷
    "= 67" ∷
    "made 1:5 inc \"z\" 4" ∷
    "1 RegPrim c1 g14 w6 p1@1{1,2,3,4} a0 v1/0{1,2,3,4}{1} y- r[] o[1:5] x{} b0" ∷
    "= 69" ∷
    "order 15 1:5" ∷
    "order 16 3:2" ∷
    "1 RegPrim c1 g16 w6 p1@1{1,2,3,4} a0 v1/0{1,2,3,4}{1} y- r[] o[] x{} b0" ∷
    "reply 1:5 done" ∷
    "= 70" ∷
    "2 RegPrim c1 g16 w6 p1@1{1,2,3,4} a0 v1/0{1,2,3,4}{2} y- r[] o[] x{} b0" ∷
    "= 71" ∷
    "3 RegPrim c1 g16 w6 p1@1{1,2,3,4} a0 v1/0{1,2,3,4}{3} y- r[] o[] x{} b0" ∷
    "reply 3:2 done ? 36" ∷
    "= 72" ∷
    "4 RegPrim c1 g16 w6 p1@1{1,2,3,4} a0 v1/0{1,2,3,4}{4} y- r[] o[] x{} b0" ∷
    "= 79" ∷
    "made 3:3 need \"y\" -9223372036854775808 ? get \"y\"" ∷
    "3 RegPrim c1 g16 w6 p1@1{1,2,3,4} a0 v1/0{1,2,3,4}{3} y- r[] o[3:3] x{} b0" ∷
    "= 80" ∷
    "made 3:4 inc \"ab\" 7; inc \"x\" 1; put \"a\" 22; del \"a\"" ∷
    "3 RegPrim c1 g16 w6 p1@1{1,2,3,4} a0 v1/0{1,2,3,4}{3} y- r[] o[3:3,3:4] x{} b0" ∷
    "= 81" ∷
    "made 4:3 inc \"b\" 2; need \"y\" 71; put \"y\" 82; inc \"z\" 6 ? get \"a\"" ∷
    "4 RegPrim c1 g16 w6 p1@1{1,2,3,4} a0 v1/0{1,2,3,4}{4} y- r[] o[4:3] x{} b0" ∷
    "= 82" ∷
    "made 1:6 need \"y\" 45" ∷
    "1 RegPrim c1 g16 w6 p1@1{1,2,3,4} a0 v1/0{1,2,3,4}{1} y- r[] o[1:6] x{} b0" ∷
    "= 84" ∷
    "made 2:8 put \"y\" 74; need \"y\" 20; inc \"a\" -1" ∷
    "2 RegPrim c1 g16 w6 p1@1{1,2,3,4} a0 v1/0{1,2,3,4}{2} y- r[] o[2:8] x{} b0" ∷
    "= 85" ∷
    "greens 3 [1:3,1:4,2:5,2:6,4:1,4:2,3:1,2:7,1:5,3:2]" ∷
    "db 3 \"a\"=96 \"ab\"=-1 \"b\"=7 \"y\"=36 \"z\"=16" ∷
    "= 86" ∷
    "order 17 1:6" ∷
    "order 18 3:3" ∷
    "order 19 3:4" ∷
    "1 RegPrim c1 g19 w6 p1@1{1,2,3,4} a0 v1/0{1,2,3,4}{1} y- r[] o[] x{} b0" ∷
    "reply 1:6 aborted 1" ∷
    "= 87" ∷
    "all [1:1,2:1,2:2,2:3,2:4,1:2,1:3,1:4,2:5,2:6,4:1,4:2,3:1,2:7,1:5,3:2,1:6,3:3,3:4]" ∷
    "= 88" ∷
    "3 RegPrim c1 g19 w6 p1@1{1,2,3,4} a0 v1/0{1,2,3,4}{3} y- r[] o[] x{} b0" ∷
    "reply 3:3 aborted 1 ? 36" ∷
    "reply 3:4 done" ∷
    "= 89" ∷
    "made 1:7 put \"a\" 47; put \"z\" 8" ∷
    "1 RegPrim c1 g19 w6 p1@1{1,2,3,4} a0 v1/0{1,2,3,4}{1} y- r[] o[1:7] x{} b0" ∷
    "= 90" ∷
    "made 3:5 inc \"ab\" -2; inc \"y\" 7; need \"b\" absent" ∷
    "3 RegPrim c1 g19 w6 p1@1{1,2,3,4} a0 v1/0{1,2,3,4}{3} y- r[] o[3:5] x{} b0" ∷
    "= 91" ∷
    "made 3:6 cas \"a\" \"\" 38" ∷
    "3 RegPrim c1 g19 w6 p1@1{1,2,3,4} a0 v1/0{1,2,3,4}{3} y- r[] o[3:5,3:6] x{} b0" ∷
    "= 92" ∷
    "made 2:9 put \"z\" 14; del \"z\"; inc \"ab\" 8" ∷
    "2 RegPrim c1 g16 w6 p1@1{1,2,3,4} a0 v1/0{1,2,3,4}{2} y- r[] o[2:8,2:9] x{} b0" ∷
    "= 93" ∷
    "made 1:8 del \"z\"" ∷
    "1 RegPrim c1 g19 w6 p1@1{1,2,3,4} a0 v1/0{1,2,3,4}{1} y- r[] o[1:7,1:8] x{} b0" ∷
    "end 93" ∷
    [])
unfolding cases_compute
four_replicas_actions_ordered_e_from_discarding = refl
