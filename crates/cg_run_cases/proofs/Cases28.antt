-- Cases of cases/ with their whole reports, which `.ci/theorems` writes down here.
use Rattle.std.specs.Prelude.{◌≡◌, [], ◌∷◌}
use mathlib.Core.Path.{refl}
use Rattle.cg_run_cases.specs.Replaying.{replayed_text, written}
use Rattle.cg_run_cases.specs.Computing.{cases_compute}

-- Replicas at the start: 3: actions are ordered.
three_replicas_actions_ordered_a_from_discarding :
    replayed_text (
    "start 6 12 25" ∷
    "merge 6 12 25" ∷
    "rounds 1" ∷
    "request 12 put \"k1\" 65 ? get \"it's\"" ∷
    "request 25 inc \"k1\" 84" ∷
    "request 12 put \"x\" 99" ∷
    "request 6 put \"y\" 66 ? get \"z~\"" ∷
    "request 12 put \"k1\" 63" ∷
    "rounds 3" ∷
    "request 25 put \"z~\" 66" ∷
    "request 6 put \"z~\" 68" ∷
    "rounds 1" ∷
    "request 12 inc \"it's\" -1 ? get \"a\"" ∷
    "request 25 inc \"z~\" 69" ∷
    "request 12 inc \"z~\" 64" ∷
    "request 25 put \"a\" 9223372036854775806 ? get \"y\"" ∷
    "rounds 1" ∷
    "request 6 put \"long-key\" 73" ∷
    "show order" ∷
    "request 12 put \"x\" 70" ∷
    "rounds 3" ∷
    "rounds 1" ∷
    "rounds 3" ∷
    "show order" ∷
    "rounds 3" ∷
    "rounds 1" ∷
    "request 25 put \"k1\" -9223372036854775807 ? get \"y\"" ∷
    "request 25 inc \"y\" 47" ∷
    "rounds 3" ∷
    "rounds 3" ∷
    "request 6 put \"k1\" 18" ∷
    "request 12 inc \"long-key\" -1 ? get \"y\"" ∷
    "rounds 3" ∷
    "request 6 inc \"it's\" 69 ? get \"y\"" ∷
    "request 6 put \"a\" 80 ? get \"long-key\"" ∷
    "show order" ∷
    "request 6 put \"it's\" 32" ∷
    "show order" ∷
    "request 12 put \"long-key\" 82" ∷
    "rounds 2" ∷
    "rounds 2" ∷
    "request 12 inc \"y\" 67" ∷
    "rounds 3" ∷
    "rounds 2" ∷
    "request 12 put \"long-key\" 18" ∷
    "request 25 put \"it's\" 5" ∷
    "request 25 put \"long-key\" 10 ? get \"y\"" ∷
    "rounds 3" ∷
    "rounds 3" ∷
    "rounds 2" ∷
    "request 25 put \"a\" 71" ∷
    "request 6 put \"it's\" 17" ∷
    "request 25 inc \"a\" -1 ? get \"x\"" ∷
    "end" ∷
    [])
    ≡ written (
    "= 1" ∷
    "6 NonPrim - g0 w0 p0@0{6,12,25} a0 v- y- r[] o[] x{} b0" ∷
    "12 NonPrim - g0 w0 p0@0{6,12,25} a0 v- y- r[] o[] x{} b0" ∷
    "25 NonPrim - g0 w0 p0@0{6,12,25} a0 v- y- r[] o[] x{} b0" ∷
    "= 2" ∷
    "6 ExchangeStates c1 g0 w0 p0@0{6,12,25} a0 v- y- r[] o[] x{} b0" ∷
    "12 ExchangeStates c1 g0 w0 p0@0{6,12,25} a0 v- y- r[] o[] x{} b0" ∷
    "25 ExchangeStates c1 g0 w0 p0@0{6,12,25} a0 v- y- r[] o[] x{} b0" ∷
    "= 4" ∷
    "6 Construct c1 g0 w0 p0@0{6,12,25} a1 v1/0{6,12,25}{6} y- r[] o[] x{} b0" ∷
    "= 5" ∷
    "12 Construct c1 g0 w0 p0@0{6,12,25} a1 v1/0{6,12,25}{12} y- r[] o[] x{} b0" ∷
    "= 6" ∷
    "25 Construct c1 g0 w0 p0@0{6,12,25} a1 v1/0{6,12,25}{25} y- r[] o[] x{} b0" ∷
    "= 7" ∷
    "12 Construct c1 g0 w0 p0@0{6,12,25} a1 v1/0{6,12,25}{12} y- r[] o[] x{} b1" ∷
    "= 8" ∷
    "25 Construct c1 g0 w0 p0@0{6,12,25} a1 v1/0{6,12,25}{25} y- r[] o[] x{} b1" ∷
    "= 9" ∷
    "12 Construct c1 g0 w0 p0@0{6,12,25} a1 v1/0{6,12,25}{12} y- r[] o[] x{} b2" ∷
    "= 10" ∷
    "6 Construct c1 g0 w0 p0@0{6,12,25} a1 v1/0{6,12,25}{6} y- r[] o[] x{} b1" ∷
    "= 11" ∷
    "12 Construct c1 g0 w0 p0@0{6,12,25} a1 v1/0{6,12,25}{12} y- r[] o[] x{} b3" ∷
    "= 13" ∷
    "made 6:1 put \"y\" 66 ? get \"z~\"" ∷
    "6 RegPrim c1 g0 w0 p1@1{6,12,25} a0 v1/0{6,12,25}{6} y- r[] o[6:1] x{} b0" ∷
    "= 14" ∷
    "made 12:1 put \"k1\" 65 ? get \"it's\"" ∷
    "made 12:2 put \"x\" 99" ∷
    "made 12:3 put \"k1\" 63" ∷
    "12 RegPrim c1 g0 w0 p1@1{6,12,25} a0 v1/0{6,12,25}{12} y- r[] o[12:1,12:2,12:3] x{} b0" ∷
    "= 15" ∷
    "made 25:1 inc \"k1\" 84" ∷
    "25 RegPrim c1 g0 w0 p1@1{6,12,25} a0 v1/0{6,12,25}{25} y- r[] o[25:1] x{} b0" ∷
    "= 17" ∷
    "order 1 6:1" ∷
    "order 2 12:1" ∷
    "order 3 12:2" ∷
    "order 4 12:3" ∷
    "order 5 25:1" ∷
    "6 RegPrim c1 g5 w0 p1@1{6,12,25} a0 v1/0{6,12,25}{6} y- r[] o[] x{} b0" ∷
    "reply 6:1 done ? absent" ∷
    "= 18" ∷
    "12 RegPrim c1 g5 w0 p1@1{6,12,25} a0 v1/0{6,12,25}{12} y- r[] o[] x{} b0" ∷
    "reply 12:1 done ? absent" ∷
    "reply 12:2 done" ∷
    "reply 12:3 done" ∷
    "= 19" ∷
    "25 RegPrim c1 g5 w0 p1@1{6,12,25} a0 v1/0{6,12,25}{25} y- r[] o[] x{} b0" ∷
    "reply 25:1 done" ∷
    "= 21" ∷
    "made 25:2 put \"z~\" 66" ∷
    "25 RegPrim c1 g5 w0 p1@1{6,12,25} a0 v1/0{6,12,25}{25} y- r[] o[25:2] x{} b0" ∷
    "= 22" ∷
    "made 6:2 put \"z~\" 68" ∷
    "6 RegPrim c1 g5 w0 p1@1{6,12,25} a0 v1/0{6,12,25}{6} y- r[] o[6:2] x{} b0" ∷
    "= 24" ∷
    "order 6 6:2" ∷
    "order 7 25:2" ∷
    "6 RegPrim c1 g7 w0 p1@1{6,12,25} a0 v1/0{6,12,25}{6} y- r[] o[] x{} b0" ∷
    "reply 6:2 done" ∷
    "= 25" ∷
    "12 RegPrim c1 g7 w0 p1@1{6,12,25} a0 v1/0{6,12,25}{12} y- r[] o[] x{} b0" ∷
    "= 26" ∷
    "25 RegPrim c1 g7 w0 p1@1{6,12,25} a0 v1/0{6,12,25}{25} y- r[] o[] x{} b0" ∷
    "reply 25:2 done" ∷
    "= 27" ∷
    "made 12:4 inc \"it's\" -1 ? get \"a\"" ∷
    "12 RegPrim c1 g7 w0 p1@1{6,12,25} a0 v1/0{6,12,25}{12} y- r[] o[12:4] x{} b0" ∷
    "= 28" ∷
    "made 25:3 inc \"z~\" 69" ∷
    "25 RegPrim c1 g7 w0 p1@1{6,12,25} a0 v1/0{6,12,25}{25} y- r[] o[25:3] x{} b0" ∷
    "= 29" ∷
    "made 12:5 inc \"z~\" 64" ∷
    "12 RegPrim c1 g7 w0 p1@1{6,12,25} a0 v1/0{6,12,25}{12} y- r[] o[12:4,12:5] x{} b0" ∷
    "= 30" ∷
    "made 25:4 put \"a\" 9223372036854775806 ? get \"y\"" ∷
    "25 RegPrim c1 g7 w0 p1@1{6,12,25} a0 v1/0{6,12,25}{25} y- r[] o[25:3,25:4] x{} b0" ∷
    "= 32" ∷
    "order 8 12:4" ∷
    "order 9 12:5" ∷
    "order 10 25:3" ∷
    "order 11 25:4" ∷
    "6 RegPrim c1 g11 w5 p1@1{6,12,25} a0 v1/0{6,12,25}{6} y- r[] o[] x{} b0" ∷
    "= 33" ∷
    "12 RegPrim c1 g11 w5 p1@1{6,12,25} a0 v1/0{6,12,25}{12} y- r[] o[] x{} b0" ∷
    "reply 12:4 done ? absent" ∷
    "reply 12:5 done" ∷
    "= 34" ∷
    "25 RegPrim c1 g11 w5 p1@1{6,12,25} a0 v1/0{6,12,25}{25} y- r[] o[] x{} b0" ∷
    "reply 25:3 done" ∷
    "reply 25:4 done ? 66" ∷
    "= 35" ∷
    "made 6:3 put \"long-key\" 73" ∷
    "6 RegPrim c1 g11 w5 p1@1{6,12,25} a0 v1/0{6,12,25}{6} y- r[] o[6:3] x{} b0" ∷
    "= 36" ∷
    "all [6:1,12:1,12:2,12:3,25:1,6:2,25:2,12:4,12:5,25:3,25:4]" ∷
    "= 37" ∷
    "made 12:6 put \"x\" 70" ∷
    "12 RegPrim c1 g11 w5 p1@1{6,12,25} a0 v1/0{6,12,25}{12} y- r[] o[12:6] x{} b0" ∷
    "= 39" ∷
    "order 12 6:3" ∷
    "order 13 12:6" ∷
    "6 RegPrim c1 g13 w7 p1@1{6,12,25} a0 v1/0{6,12,25}{6} y- r[] o[] x{} b0" ∷
    "reply 6:3 done" ∷
    "= 40" ∷
    "12 RegPrim c1 g13 w7 p1@1{6,12,25} a0 v1/0{6,12,25}{12} y- r[] o[] x{} b0" ∷
    "reply 12:6 done" ∷
    "= 41" ∷
    "25 RegPrim c1 g13 w7 p1@1{6,12,25} a0 v1/0{6,12,25}{25} y- r[] o[] x{} b0" ∷
    "= 48" ∷
    "all [6:1,12:1,12:2,12:3,25:1,6:2,25:2,12:4,12:5,25:3,25:4,6:3,12:6]" ∷
    "= 53" ∷
    "made 25:5 put \"k1\" -9223372036854775807 ? get \"y\"" ∷
    "25 RegPrim c1 g13 w7 p1@1{6,12,25} a0 v1/0{6,12,25}{25} y- r[] o[25:5] x{} b0" ∷
    "= 54" ∷
    "made 25:6 inc \"y\" 47" ∷
    "25 RegPrim c1 g13 w7 p1@1{6,12,25} a0 v1/0{6,12,25}{25} y- r[] o[25:5,25:6] x{} b0" ∷
    "= 56" ∷
    "order 14 25:5" ∷
    "order 15 25:6" ∷
    "6 RegPrim c1 g15 w11 p1@1{6,12,25} a0 v1/0{6,12,25}{6} y- r[] o[] x{} b0" ∷
    "= 57" ∷
    "12 RegPrim c1 g15 w11 p1@1{6,12,25} a0 v1/0{6,12,25}{12} y- r[] o[] x{} b0" ∷
    "= 58" ∷
    "25 RegPrim c1 g15 w11 p1@1{6,12,25} a0 v1/0{6,12,25}{25} y- r[] o[] x{} b0" ∷
    "reply 25:5 done ? 66" ∷
    "reply 25:6 done" ∷
    "= 64" ∷
    "made 6:4 put \"k1\" 18" ∷
    "6 RegPrim c1 g15 w11 p1@1{6,12,25} a0 v1/0{6,12,25}{6} y- r[] o[6:4] x{} b0" ∷
    "= 65" ∷
    "made 12:7 inc \"long-key\" -1 ? get \"y\"" ∷
    "12 RegPrim c1 g15 w11 p1@1{6,12,25} a0 v1/0{6,12,25}{12} y- r[] o[12:7] x{} b0" ∷
    "= 67" ∷
    "order 16 6:4" ∷
    "order 17 12:7" ∷
    "6 RegPrim c1 g17 w13 p1@1{6,12,25} a0 v1/0{6,12,25}{6} y- r[] o[] x{} b0" ∷
    "reply 6:4 done" ∷
    "= 68" ∷
    "12 RegPrim c1 g17 w13 p1@1{6,12,25} a0 v1/0{6,12,25}{12} y- r[] o[] x{} b0" ∷
    "reply 12:7 done ? 113" ∷
    "= 69" ∷
    "25 RegPrim c1 g17 w13 p1@1{6,12,25} a0 v1/0{6,12,25}{25} y- r[] o[] x{} b0" ∷
    "= 72" ∷
    "made 6:5 inc \"it's\" 69 ? get \"y\"" ∷
    "6 RegPrim c1 g17 w13 p1@1{6,12,25} a0 v1/0{6,12,25}{6} y- r[] o[6:5] x{} b0" ∷
    "= 73" ∷
    "made 6:6 put \"a\" 80 ? get \"long-key\"" ∷
    "6 RegPrim c1 g17 w13 p1@1{6,12,25} a0 v1/0{6,12,25}{6} y- r[] o[6:5,6:6] x{} b0" ∷
    "= 74" ∷
    "all [6:1,12:1,12:2,12:3,25:1,6:2,25:2,12:4,12:5,25:3,25:4,6:3,12:6,25:5,25:6,6:4,12:7]" ∷
    "= 75" ∷
    "made 6:7 put \"it's\" 32" ∷
    "6 RegPrim c1 g17 w13 p1@1{6,12,25} a0 v1/0{6,12,25}{6} y- r[] o[6:5,6:6,6:7] x{} b0" ∷
    "= 76" ∷
    "all [6:1,12:1,12:2,12:3,25:1,6:2,25:2,12:4,12:5,25:3,25:4,6:3,12:6,25:5,25:6,6:4,12:7]" ∷
    "= 77" ∷
    "made 12:8 put \"long-key\" 82" ∷
    "12 RegPrim c1 g17 w13 p1@1{6,12,25} a0 v1/0{6,12,25}{12} y- r[] o[12:8] x{} b0" ∷
    "= 79" ∷
    "order 18 6:5" ∷
    "order 19 6:6" ∷
    "order 20 6:7" ∷
    "order 21 12:8" ∷
    "6 RegPrim c1 g21 w13 p1@1{6,12,25} a0 v1/0{6,12,25}{6} y- r[] o[] x{} b0" ∷
    "reply 6:5 done ? 113" ∷
    "reply 6:6 done ? 72" ∷
    "reply 6:7 done" ∷
    "= 80" ∷
    "12 RegPrim c1 g21 w13 p1@1{6,12,25} a0 v1/0{6,12,25}{12} y- r[] o[] x{} b0" ∷
    "reply 12:8 done" ∷
    "= 81" ∷
    "25 RegPrim c1 g21 w13 p1@1{6,12,25} a0 v1/0{6,12,25}{25} y- r[] o[] x{} b0" ∷
    "= 85" ∷
    "made 12:9 inc \"y\" 67" ∷
    "12 RegPrim c1 g21 w13 p1@1{6,12,25} a0 v1/0{6,12,25}{12} y- r[] o[12:9] x{} b0" ∷
    "= 87" ∷
    "order 22 12:9" ∷
    "6 RegPrim c1 g22 w13 p1@1{6,12,25} a0 v1/0{6,12,25}{6} y- r[] o[] x{} b0" ∷
    "= 88" ∷
    "12 RegPrim c1 g22 w13 p1@1{6,12,25} a0 v1/0{6,12,25}{12} y- r[] o[] x{} b0" ∷
    "reply 12:9 done" ∷
    "= 89" ∷
    "25 RegPrim c1 g22 w13 p1@1{6,12,25} a0 v1/0{6,12,25}{25} y- r[] o[] x{} b0" ∷
    "= 94" ∷
    "made 12:10 put \"long-key\" 18" ∷
    "12 RegPrim c1 g22 w13 p1@1{6,12,25} a0 v1/0{6,12,25}{12} y- r[] o[12:10] x{} b0" ∷
    "= 95" ∷
    "made 25:7 put \"it's\" 5" ∷
    "25 RegPrim c1 g22 w13 p1@1{6,12,25} a0 v1/0{6,12,25}{25} y- r[] o[25:7] x{} b0" ∷
    "= 96" ∷
    "made 25:8 put \"long-key\" 10 ? get \"y\"" ∷
    "25 RegPrim c1 g22 w13 p1@1{6,12,25} a0 v1/0{6,12,25}{25} y- r[] o[25:7,25:8] x{} b0" ∷
    "= 98" ∷
    "order 23 12:10" ∷
    "order 24 25:7" ∷
    "order 25 25:8" ∷
    "6 RegPrim c1 g25 w17 p1@1{6,12,25} a0 v1/0{6,12,25}{6} y- r[] o[] x{} b0" ∷
    "= 99" ∷
    "12 RegPrim c1 g25 w17 p1@1{6,12,25} a0 v1/0{6,12,25}{12} y- r[] o[] x{} b0" ∷
    "reply 12:10 done" ∷
    "= 100" ∷
    "25 RegPrim c1 g25 w17 p1@1{6,12,25} a0 v1/0{6,12,25}{25} y- r[] o[] x{} b0" ∷
    "reply 25:7 done" ∷
    "reply 25:8 done ? 180" ∷
    "= 108" ∷
    "made 25:9 put \"a\" 71" ∷
    "25 RegPrim c1 g25 w17 p1@1{6,12,25} a0 v1/0{6,12,25}{25} y- r[] o[25:9] x{} b0" ∷
    "= 109" ∷
    "made 6:8 put \"it's\" 17" ∷
    "6 RegPrim c1 g25 w17 p1@1{6,12,25} a0 v1/0{6,12,25}{6} y- r[] o[6:8] x{} b0" ∷
    "= 110" ∷
    "made 25:10 inc \"a\" -1 ? get \"x\"" ∷
    "25 RegPrim c1 g25 w17 p1@1{6,12,25} a0 v1/0{6,12,25}{25} y- r[] o[25:9,25:10] x{} b0" ∷
    "end 110" ∷
    [])
unfolding cases_compute
three_replicas_actions_ordered_a_from_discarding = refl

-- Replicas at the start: 3: actions are ordered.
three_replicas_actions_ordered_c :
    replayed_text (
    "start 16 19 32" ∷
    "merge 16 19 32" ∷
    "rounds 1" ∷
    "request 19 del \"a\"?  count" ∷
    "request 19 need \"y\" \"yes \\\"no\\\"\"" ∷
    "rounds 3" ∷
    "#" ∷
    "end" ∷
    [])
    ≡ written (
    "= 1" ∷
    "16 NonPrim - g0 w0 p0@0{16,19,32} a0 v- y- r[] o[] x{} b0" ∷
    "19 NonPrim - g0 w0 p0@0{16,19,32} a0 v- y- r[] o[] x{} b0" ∷
    "32 NonPrim - g0 w0 p0@0{16,19,32} a0 v- y- r[] o[] x{} b0" ∷
    "= 2" ∷
    "16 ExchangeStates c1 g0 w0 p0@0{16,19,32} a0 v- y- r[] o[] x{} b0" ∷
    "19 ExchangeStates c1 g0 w0 p0@0{16,19,32} a0 v- y- r[] o[] x{} b0" ∷
    "32 ExchangeStates c1 g0 w0 p0@0{16,19,32} a0 v- y- r[] o[] x{} b0" ∷
    "= 4" ∷
    "16 Construct c1 g0 w0 p0@0{16,19,32} a1 v1/0{16,19,32}{16} y- r[] o[] x{} b0" ∷
    "= 5" ∷
    "19 Construct c1 g0 w0 p0@0{16,19,32} a1 v1/0{16,19,32}{19} y- r[] o[] x{} b0" ∷
    "= 6" ∷
    "32 Construct c1 g0 w0 p0@0{16,19,32} a1 v1/0{16,19,32}{32} y- r[] o[] x{} b0" ∷
    "= 7" ∷
    "19 Construct c1 g0 w0 p0@0{16,19,32} a1 v1/0{16,19,32}{19} y- r[] o[] x{} b1" ∷
    "= 8" ∷
    "19 Construct c1 g0 w0 p0@0{16,19,32} a1 v1/0{16,19,32}{19} y- r[] o[] x{} b2" ∷
    "= 10" ∷
    "16 RegPrim c1 g0 w0 p1@1{16,19,32} a0 v1/0{16,19,32}{16} y- r[] o[] x{} b0" ∷
    "= 11" ∷
    "made 19:1 del \"a\" ? count" ∷
    "made 19:2 need \"y\" \"yes \\\"no\\\"\"" ∷
    "19 RegPrim c1 g0 w0 p1@1{16,19,32} a0 v1/0{16,19,32}{19} y- r[] o[19:1,19:2] x{} b0" ∷
    "= 12" ∷
    "32 RegPrim c1 g0 w0 p1@1{16,19,32} a0 v1/0{16,19,32}{32} y- r[] o[] x{} b0" ∷
    "= 14" ∷
    "order 1 19:1" ∷
    "order 2 19:2" ∷
    "16 RegPrim c1 g2 w0 p1@1{16,19,32} a0 v1/0{16,19,32}{16} y- r[] o[] x{} b0" ∷
    "= 15" ∷
    "19 RegPrim c1 g2 w0 p1@1{16,19,32} a0 v1/0{16,19,32}{19} y- r[] o[] x{} b0" ∷
    "reply 19:1 done ? count 0" ∷
    "reply 19:2 aborted 1" ∷
    "= 16" ∷
    "32 RegPrim c1 g2 w0 p1@1{16,19,32} a0 v1/0{16,19,32}{32} y- r[] o[] x{} b0" ∷
    "end 17" ∷
    [])
unfolding cases_compute
three_replicas_actions_ordered_c = refl

-- Replicas at the start: 3: actions are ordered; a crash strikes inside a device call.
three_replicas_actions_ordered_crash_in_a_device_call_a :
    replayed_text (
    "start 1 2 3" ∷
    "merge 1 2 3" ∷
    "rounds 2" ∷
    "request 3 ? get \"x\"" ∷
    "fail 2 7" ∷
    "order 3" ∷
    "gather" ∷
    "request 1 cas \"a\" absent 31 ? get \"ab\"" ∷
    "request 3 inc \"x\" 6" ∷
    "rounds 3" ∷
    "request 1 put \"b\" 57 ? get \"a\"" ∷
    "request 1 put \"x\" \"12\" ? get \"a\"" ∷
    "request 3 inc \"y\" 4 ? count" ∷
    "request 3 put \"b\" 79; cas \"x\" absent 0" ∷
    "gather" ∷
    "stop 1 16 -" ∷
    "recover 2" ∷
    "request 3 put \"abc\" 40; inc \"a\" 6; cas \"z\" absent 9223372036854775806; put \"a\" 87; inc \"y\" 8; put \"x\" \"-1\"; need \"x\" 27; need \"z\" 92; cas \"z\" absent 13; inc \"k1\" 9223372036854775807; put \"ab\" \"hi\"; inc \"k1\" 2; inc \"a\" 7; cas \"a\" 25 9; inc \"y\" 9223372036854775807; put \"y\" -6" ∷
    "request 3 need \"y\" 17" ∷
    "gather" ∷
    "gather" ∷
    "request 2 cas \"a\" 44 70 ? count" ∷
    "request 1 ? get \"a\"" ∷
    "rounds 1" ∷
    "request 1 del \"b\" ? get \"z\"" ∷
    "stop 2 2 02" ∷
    "order 1" ∷
    "gather" ∷
    "request 1 ? get \"a\"" ∷
    "end" ∷
    [])
    ≡ written (
    "= 1" ∷
    "1 NonPrim - g0 w0 p0@0{1,2,3} a0 v- y- r[] o[] x{} b0" ∷
    "2 NonPrim - g0 w0 p0@0{1,2,3} a0 v- y- r[] o[] x{} b0" ∷
    "3 NonPrim - g0 w0 p0@0{1,2,3} a0 v- y- r[] o[] x{} b0" ∷
    "= 2" ∷
    "1 ExchangeStates c1 g0 w0 p0@0{1,2,3} a0 v- y- r[] o[] x{} b0" ∷
    "2 ExchangeStates c1 g0 w0 p0@0{1,2,3} a0 v- y- r[] o[] x{} b0" ∷
    "3 ExchangeStates c1 g0 w0 p0@0{1,2,3} a0 v- y- r[] o[] x{} b0" ∷
    "= 4" ∷
    "1 Construct c1 g0 w0 p0@0{1,2,3} a1 v1/0{1,2,3}{1} y- r[] o[] x{} b0" ∷
    "= 5" ∷
    "2 Construct c1 g0 w0 p0@0{1,2,3} a1 v1/0{1,2,3}{2} y- r[] o[] x{} b0" ∷
    "= 6" ∷
    "3 Construct c1 g0 w0 p0@0{1,2,3} a1 v1/0{1,2,3}{3} y- r[] o[] x{} b0" ∷
    "= 8" ∷
    "1 RegPrim c1 g0 w0 p1@1{1,2,3} a0 v1/0{1,2,3}{1} y- r[] o[] x{} b0" ∷
    "= 9" ∷
    "2 RegPrim c1 g0 w0 p1@1{1,2,3} a0 v1/0{1,2,3}{2} y- r[] o[] x{} b0" ∷
    "= 10" ∷
    "3 RegPrim c1 g0 w0 p1@1{1,2,3} a0 v1/0{1,2,3}{3} y- r[] o[] x{} b0" ∷
    "= 11" ∷
    "made 3:1 ? get \"x\"" ∷
    "3 RegPrim c1 g0 w0 p1@1{1,2,3} a0 v1/0{1,2,3}{3} y- r[] o[3:1] x{} b0" ∷
    "= 15" ∷
    "made 1:1 cas \"a\" absent 31 ? get \"ab\"" ∷
    "1 RegPrim c1 g0 w0 p1@1{1,2,3} a0 v1/0{1,2,3}{1} y- r[] o[1:1] x{} b0" ∷
    "= 16" ∷
    "made 3:2 inc \"x\" 6" ∷
    "3 RegPrim c1 g0 w0 p1@1{1,2,3} a0 v1/0{1,2,3}{3} y- r[] o[3:1,3:2] x{} b0" ∷
    "= 18" ∷
    "order 1 3:1" ∷
    "order 2 1:1" ∷
    "order 3 3:2" ∷
    "1 RegPrim c1 g3 w0 p1@1{1,2,3} a0 v1/0{1,2,3}{1} y- r[] o[] x{} b0" ∷
    "reply 1:1 done ? absent" ∷
    "= 19" ∷
    "2 RegPrim c1 g3 w0 p1@1{1,2,3} a0 v1/0{1,2,3}{2} y- r[] o[] x{} b0" ∷
    "= 20" ∷
    "3 RegPrim c1 g3 w0 p1@1{1,2,3} a0 v1/0{1,2,3}{3} y- r[] o[] x{} b0" ∷
    "reply 3:1 done ? absent" ∷
    "reply 3:2 done" ∷
    "= 23" ∷
    "made 1:2 put \"b\" 57 ? get \"a\"" ∷
    "1 RegPrim c1 g3 w0 p1@1{1,2,3} a0 v1/0{1,2,3}{1} y- r[] o[1:2] x{} b0" ∷
    "= 24" ∷
    "made 1:3 put \"x\" \"12\" ? get \"a\"" ∷
    "1 RegPrim c1 g3 w0 p1@1{1,2,3} a0 v1/0{1,2,3}{1} y- r[] o[1:2,1:3] x{} b0" ∷
    "= 25" ∷
    "made 3:3 inc \"y\" 4 ? count" ∷
    "3 RegPrim c1 g3 w0 p1@1{1,2,3} a0 v1/0{1,2,3}{3} y- r[] o[3:3] x{} b0" ∷
    "= 26" ∷
    "made 3:4 put \"b\" 79; cas \"x\" absent 0" ∷
    "3 RegPrim c1 g3 w0 p1@1{1,2,3} a0 v1/0{1,2,3}{3} y- r[] o[3:3,3:4] x{} b0" ∷
    "refused 17 10 2" ∷
    [])
unfolding cases_compute
three_replicas_actions_ordered_crash_in_a_device_call_a = refl

-- Replicas at the start: 3: actions are ordered; a replica crashes; the last event is refused.
three_replicas_actions_ordered_crash_refused_a :
    replayed_text (
    "start 1 2 3" ∷
    "merge 1 2 3" ∷
    "rounds 1" ∷
    "request 1 put \"x\" 85; cas \"a\" 23 9223372036854775806; inc \"x\" -2" ∷
    "request 3 del \"k1\"" ∷
    "request 1 inc \"a\" 6 ? count" ∷
    "order 2" ∷
    "request 1 put \"z\" 96" ∷
    "order 1" ∷
    "request 3 put \"a\" -9223372036854775807 ? get \"a\"" ∷
    "rounds 2" ∷
    "request 1 put \"b\" \"-1\"" ∷
    "rounds 3" ∷
    "request 1 cas \"x\" absent 34" ∷
    "stop 3 0 81" ∷
    "recover 3" ∷
    "gather" ∷
    "stop 1 9 01" ∷
    "request 1 ? keys \"\"" ∷
    "show 2" ∷
    "stop 1 0 0101" ∷
    "request 2 cas \"b\" 23 40 ? get \"abc\"" ∷
    "show order" ∷
    "stop 3 0 000101000150" ∷
    "recover 1" ∷
    "recover 3" ∷
    "request 3 put \"a\" 82" ∷
    "stop 3 0 ffffffffffffffffffffffffffffffffffffffff" ∷
    "request 1 put \"b\" -9223372036854775807 ? get \"abc\"" ∷
    "request 2 need \"a\" absent" ∷
    "request 1 cas \"y\" absent 18" ∷
    "fail 1 7" ∷
    "request 2 inc \"b\" 2" ∷
    "recover 3" ∷
    "stop 1 0 -" ∷
    "request 2 put \"y\" 23; put \"y\" 42; inc \"y\" 11 ? keys \"k\"" ∷
    "recover 1" ∷
    "request 3 del \"b\" ? keys \"q\"" ∷
    "rounds 1" ∷
    "stop 2 9 01" ∷
    "rounds 2" ∷
    "request 2 need \"a\" absent" ∷
    "order 2" ∷
    "stop 3 8 0101010101010101010101010101010101010101" ∷
    "request 3 put \"x\" -1; inc \"ab\" 0 ? get \"ab\"" ∷
    "gather" ∷
    "gather" ∷
    "deliver 1 50" ∷
    "end" ∷
    [])
    ≡ written (
    "= 1" ∷
    "1 NonPrim - g0 w0 p0@0{1,2,3} a0 v- y- r[] o[] x{} b0" ∷
    "2 NonPrim - g0 w0 p0@0{1,2,3} a0 v- y- r[] o[] x{} b0" ∷
    "3 NonPrim - g0 w0 p0@0{1,2,3} a0 v- y- r[] o[] x{} b0" ∷
    "= 2" ∷
    "1 ExchangeStates c1 g0 w0 p0@0{1,2,3} a0 v- y- r[] o[] x{} b0" ∷
    "2 ExchangeStates c1 g0 w0 p0@0{1,2,3} a0 v- y- r[] o[] x{} b0" ∷
    "3 ExchangeStates c1 g0 w0 p0@0{1,2,3} a0 v- y- r[] o[] x{} b0" ∷
    "= 4" ∷
    "1 Construct c1 g0 w0 p0@0{1,2,3} a1 v1/0{1,2,3}{1} y- r[] o[] x{} b0" ∷
    "= 5" ∷
    "2 Construct c1 g0 w0 p0@0{1,2,3} a1 v1/0{1,2,3}{2} y- r[] o[] x{} b0" ∷
    "= 6" ∷
    "3 Construct c1 g0 w0 p0@0{1,2,3} a1 v1/0{1,2,3}{3} y- r[] o[] x{} b0" ∷
    "= 7" ∷
    "1 Construct c1 g0 w0 p0@0{1,2,3} a1 v1/0{1,2,3}{1} y- r[] o[] x{} b1" ∷
    "= 8" ∷
    "3 Construct c1 g0 w0 p0@0{1,2,3} a1 v1/0{1,2,3}{3} y- r[] o[] x{} b1" ∷
    "= 9" ∷
    "1 Construct c1 g0 w0 p0@0{1,2,3} a1 v1/0{1,2,3}{1} y- r[] o[] x{} b2" ∷
    "= 11" ∷
    "1 Construct c1 g0 w0 p0@0{1,2,3} a1 v1/0{1,2,3}{1} y- r[] o[] x{} b3" ∷
    "= 13" ∷
    "3 Construct c1 g0 w0 p0@0{1,2,3} a1 v1/0{1,2,3}{3} y- r[] o[] x{} b2" ∷
    "= 15" ∷
    "made 1:1 put \"x\" 85; cas \"a\" 23 9223372036854775806; inc \"x\" -2" ∷
    "made 1:2 inc \"a\" 6 ? count" ∷
    "made 1:3 put \"z\" 96" ∷
    "1 RegPrim c1 g0 w0 p1@1{1,2,3} a0 v1/0{1,2,3}{1} y- r[] o[1:1,1:2,1:3] x{} b0" ∷
    "= 16" ∷
    "2 RegPrim c1 g0 w0 p1@1{1,2,3} a0 v1/0{1,2,3}{2} y- r[] o[] x{} b0" ∷
    "= 17" ∷
    "made 3:1 del \"k1\"" ∷
    "made 3:2 put \"a\" -9223372036854775807 ? get \"a\"" ∷
    "3 RegPrim c1 g0 w0 p1@1{1,2,3} a0 v1/0{1,2,3}{3} y- r[] o[3:1,3:2] x{} b0" ∷
    "= 19" ∷
    "order 1 1:1" ∷
    "order 2 1:2" ∷
    "order 3 1:3" ∷
    "order 4 3:1" ∷
    "order 5 3:2" ∷
    "1 RegPrim c1 g5 w0 p1@1{1,2,3} a0 v1/0{1,2,3}{1} y- r[] o[] x{} b0" ∷
    "reply 1:1 done" ∷
    "reply 1:2 done ? count 2" ∷
    "reply 1:3 done" ∷
    "= 20" ∷
    "2 RegPrim c1 g5 w0 p1@1{1,2,3} a0 v1/0{1,2,3}{2} y- r[] o[] x{} b0" ∷
    "= 21" ∷
    "3 RegPrim c1 g5 w0 p1@1{1,2,3} a0 v1/0{1,2,3}{3} y- r[] o[] x{} b0" ∷
    "reply 3:1 done" ∷
    "reply 3:2 done ? -9223372036854775807" ∷
    "= 22" ∷
    "made 1:4 put \"b\" \"-1\"" ∷
    "1 RegPrim c1 g5 w0 p1@1{1,2,3} a0 v1/0{1,2,3}{1} y- r[] o[1:4] x{} b0" ∷
    "= 24" ∷
    "order 6 1:4" ∷
    "1 RegPrim c1 g6 w0 p1@1{1,2,3} a0 v1/0{1,2,3}{1} y- r[] o[] x{} b0" ∷
    "reply 1:4 done" ∷
    "= 25" ∷
    "2 RegPrim c1 g6 w0 p1@1{1,2,3} a0 v1/0{1,2,3}{2} y- r[] o[] x{} b0" ∷
    "= 26" ∷
    "3 RegPrim c1 g6 w0 p1@1{1,2,3} a0 v1/0{1,2,3}{3} y- r[] o[] x{} b0" ∷
    "= 29" ∷
    "made 1:5 cas \"x\" absent 34" ∷
    "1 RegPrim c1 g6 w0 p1@1{1,2,3} a0 v1/0{1,2,3}{1} y- r[] o[1:5] x{} b0" ∷
    "= 30" ∷
    "3 Down" ∷
    "= 31" ∷
    "3 NonPrim - g6 w0 p1@1{1,2,3} a0 v1/0{1,2,3}{3} y- r[] o[] x{} b0" ∷
    "= 34" ∷
    "made 1:6 ? keys \"\"" ∷
    "1 RegPrim c1 g6 w0 p1@1{1,2,3} a0 v1/0{1,2,3}{1} y- r[] o[1:5,1:6] x{} b0" ∷
    "= 35" ∷
    "greens 2 [1:1,1:2,1:3,3:1,3:2,1:4]" ∷
    "db 2 \"a\"=-9223372036854775807 \"b\"=\"-1\" \"x\"=83 \"z\"=96" ∷
    "= 36" ∷
    "1 Down" ∷
    "= 37" ∷
    "made 2:1 cas \"b\" 23 40 ? get \"abc\"" ∷
    "2 RegPrim c1 g6 w0 p1@1{1,2,3} a0 v1/0{1,2,3}{2} y- r[] o[2:1] x{} b0" ∷
    "= 38" ∷
    "all [1:1,1:2,1:3,3:1,3:2,1:4]" ∷
    "= 39" ∷
    "3 Down" ∷
    "= 40" ∷
    "1 NonPrim - g6 w0 p1@1{1,2,3} a0 v1/0{1,2,3}{1} y- r[1:5,1:6] o[] x{} b0" ∷
    "= 41" ∷
    "3 NonPrim - g6 w0 p1@1{1,2,3} a0 v1/0{1,2,3}{3} y- r[] o[] x{} b0" ∷
    "= 42" ∷
    "3 NonPrim - g6 w0 p1@1{1,2,3} a0 v1/0{1,2,3}{3} y- r[] o[] x{} b1" ∷
    "= 43" ∷
    "3 Down" ∷
    "= 44" ∷
    "1 NonPrim - g6 w0 p1@1{1,2,3} a0 v1/0{1,2,3}{1} y- r[1:5,1:6] o[] x{} b1" ∷
    "= 45" ∷
    "made 2:2 need \"a\" absent" ∷
    "2 RegPrim c1 g6 w0 p1@1{1,2,3} a0 v1/0{1,2,3}{2} y- r[] o[2:1,2:2] x{} b0" ∷
    "= 46" ∷
    "1 NonPrim - g6 w0 p1@1{1,2,3} a0 v1/0{1,2,3}{1} y- r[1:5,1:6] o[] x{} b2" ∷
    "= 48" ∷
    "made 2:3 inc \"b\" 2" ∷
    "2 RegPrim c1 g6 w0 p1@1{1,2,3} a0 v1/0{1,2,3}{2} y- r[] o[2:1,2:2,2:3] x{} b0" ∷
    "= 49" ∷
    "3 NonPrim - g6 w0 p1@1{1,2,3} a0 v1/0{1,2,3}{3} y- r[] o[] x{} b0" ∷
    "= 50" ∷
    "1 Down" ∷
    "= 51" ∷
    "made 2:4 put \"y\" 23; put \"y\" 42; inc \"y\" 11 ? keys \"k\"" ∷
    "2 RegPrim c1 g6 w0 p1@1{1,2,3} a0 v1/0{1,2,3}{2} y- r[] o[2:1,2:2,2:3,2:4] x{} b0" ∷
    "= 52" ∷
    "1 NonPrim - g6 w0 p1@1{1,2,3} a0 v1/0{1,2,3}{1} y- r[1:5,1:6] o[] x{} b0" ∷
    "= 53" ∷
    "3 NonPrim - g6 w0 p1@1{1,2,3} a0 v1/0{1,2,3}{3} y- r[] o[] x{} b1" ∷
    "= 58" ∷
    "made 2:5 need \"a\" absent" ∷
    "2 RegPrim c1 g6 w0 p1@1{1,2,3} a0 v1/0{1,2,3}{2} y- r[] o[2:1,2:2,2:3,2:4,2:5] x{} b0" ∷
    "= 61" ∷
    "3 NonPrim - g6 w0 p1@1{1,2,3} a0 v1/0{1,2,3}{3} y- r[] o[] x{} b2" ∷
    "refused 48 2 1" ∷
    [])
unfolding cases_compute
three_replicas_actions_ordered_crash_refused_a = refl

-- Replicas at the start: 3: actions are ordered.
three_replicas_actions_ordered_e :
    replayed_text (
    "start 1 2 3" ∷
    "merge 1 2 3" ∷
    "rounds 3" ∷
    "show 1" ∷
    "rounds 3" ∷
    "request 1 inc \"a\" -1 ? get \"z\"" ∷
    "request 1 put \"z\" 83" ∷
    "show order" ∷
    "rounds 1" ∷
    "rounds 1" ∷
    "request 1 put \"b\" 21" ∷
    "end" ∷
    [])
    ≡ written (
    "= 1" ∷
    "1 NonPrim - g0 w0 p0@0{1,2,3} a0 v- y- r[] o[] x{} b0" ∷
    "2 NonPrim - g0 w0 p0@0{1,2,3} a0 v- y- r[] o[] x{} b0" ∷
    "3 NonPrim - g0 w0 p0@0{1,2,3} a0 v- y- r[] o[] x{} b0" ∷
    "= 2" ∷
    "1 ExchangeStates c1 g0 w0 p0@0{1,2,3} a0 v- y- r[] o[] x{} b0" ∷
    "2 ExchangeStates c1 g0 w0 p0@0{1,2,3} a0 v- y- r[] o[] x{} b0" ∷
    "3 ExchangeStates c1 g0 w0 p0@0{1,2,3} a0 v- y- r[] o[] x{} b0" ∷
    "= 4" ∷
    "1 Construct c1 g0 w0 p0@0{1,2,3} a1 v1/0{1,2,3}{1} y- r[] o[] x{} b0" ∷
    "= 5" ∷
    "2 Construct c1 g0 w0 p0@0{1,2,3} a1 v1/0{1,2,3}{2} y- r[] o[] x{} b0" ∷
    "= 6" ∷
    "3 Construct c1 g0 w0 p0@0{1,2,3} a1 v1/0{1,2,3}{3} y- r[] o[] x{} b0" ∷
    "= 8" ∷
    "1 RegPrim c1 g0 w0 p1@1{1,2,3} a0 v1/0{1,2,3}{1} y- r[] o[] x{} b0" ∷
    "= 9" ∷
    "2 RegPrim c1 g0 w0 p1@1{1,2,3} a0 v1/0{1,2,3}{2} y- r[] o[] x{} b0" ∷
    "= 10" ∷
    "3 RegPrim c1 g0 w0 p1@1{1,2,3} a0 v1/0{1,2,3}{3} y- r[] o[] x{} b0" ∷
    "= 12" ∷
    "greens 1 []" ∷
    "db 1" ∷
    "= 16" ∷
    "made 1:1 inc \"a\" -1 ? get \"z\"" ∷
    "1 RegPrim c1 g0 w0 p1@1{1,2,3} a0 v1/0{1,2,3}{1} y- r[] o[1:1] x{} b0" ∷
    "= 17" ∷
    "made 1:2 put \"z\" 83" ∷
    "1 RegPrim c1 g0 w0 p1@1{1,2,3} a0 v1/0{1,2,3}{1} y- r[] o[1:1,1:2] x{} b0" ∷
    "= 18" ∷
    "all []" ∷
    "= 20" ∷
    "order 1 1:1" ∷
    "order 2 1:2" ∷
    "1 RegPrim c1 g2 w0 p1@1{1,2,3} a0 v1/0{1,2,3}{1} y- r[] o[] x{} b0" ∷
    "reply 1:1 done ? absent" ∷
    "reply 1:2 done" ∷
    "= 21" ∷
    "2 RegPrim c1 g2 w0 p1@1{1,2,3} a0 v1/0{1,2,3}{2} y- r[] o[] x{} b0" ∷
    "= 22" ∷
    "3 RegPrim c1 g2 w0 p1@1{1,2,3} a0 v1/0{1,2,3}{3} y- r[] o[] x{} b0" ∷
    "= 24" ∷
    "made 1:3 put \"b\" 21" ∷
    "1 RegPrim c1 g2 w0 p1@1{1,2,3} a0 v1/0{1,2,3}{1} y- r[] o[1:3] x{} b0" ∷
    "end 24" ∷
    [])
unfolding cases_compute
three_replicas_actions_ordered_e = refl

-- Replicas at the start: 3: actions are ordered.
three_replicas_actions_ordered_f :
    replayed_text (
    "start 6 7 21" ∷
    "merge 6 7 21" ∷
    "rounds 2" ∷
    "gather" ∷
    "request 7 put \"k1\" 6" ∷
    "gather" ∷
    "show 7" ∷
    "deliver 6 1" ∷
    "end" ∷
    [])
    ≡ written (
    "= 1" ∷
    "6 NonPrim - g0 w0 p0@0{6,7,21} a0 v- y- r[] o[] x{} b0" ∷
    "7 NonPrim - g0 w0 p0@0{6,7,21} a0 v- y- r[] o[] x{} b0" ∷
    "21 NonPrim - g0 w0 p0@0{6,7,21} a0 v- y- r[] o[] x{} b0" ∷
    "= 2" ∷
    "6 ExchangeStates c1 g0 w0 p0@0{6,7,21} a0 v- y- r[] o[] x{} b0" ∷
    "7 ExchangeStates c1 g0 w0 p0@0{6,7,21} a0 v- y- r[] o[] x{} b0" ∷
    "21 ExchangeStates c1 g0 w0 p0@0{6,7,21} a0 v- y- r[] o[] x{} b0" ∷
    "= 4" ∷
    "6 Construct c1 g0 w0 p0@0{6,7,21} a1 v1/0{6,7,21}{6} y- r[] o[] x{} b0" ∷
    "= 5" ∷
    "7 Construct c1 g0 w0 p0@0{6,7,21} a1 v1/0{6,7,21}{7} y- r[] o[] x{} b0" ∷
    "= 6" ∷
    "21 Construct c1 g0 w0 p0@0{6,7,21} a1 v1/0{6,7,21}{21} y- r[] o[] x{} b0" ∷
    "= 8" ∷
    "6 RegPrim c1 g0 w0 p1@1{6,7,21} a0 v1/0{6,7,21}{6} y- r[] o[] x{} b0" ∷
    "= 9" ∷
    "7 RegPrim c1 g0 w0 p1@1{6,7,21} a0 v1/0{6,7,21}{7} y- r[] o[] x{} b0" ∷
    "= 10" ∷
    "21 RegPrim c1 g0 w0 p1@1{6,7,21} a0 v1/0{6,7,21}{21} y- r[] o[] x{} b0" ∷
    "= 12" ∷
    "made 7:1 put \"k1\" 6" ∷
    "7 RegPrim c1 g0 w0 p1@1{6,7,21} a0 v1/0{6,7,21}{7} y- r[] o[7:1] x{} b0" ∷
    "= 14" ∷
    "greens 7 []" ∷
    "db 7" ∷
    "= 15" ∷
    "order 1 7:1" ∷
    "6 RegPrim c1 g1 w0 p1@1{6,7,21} a0 v1/0{6,7,21}{6} y- r[] o[] x{} b0" ∷
    "end 15" ∷
    [])
unfolding cases_compute
three_replicas_actions_ordered_f = refl
