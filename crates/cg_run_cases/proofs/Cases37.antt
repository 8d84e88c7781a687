-- Cases of cases/ with their whole reports, which `.ci/theorems` writes down here.
use Rattle.std.specs.Prelude.{◌≡◌, [], ◌∷◌}
use mathlib.Core.Path.{refl}
use Rattle.cg_run_cases.specs.Replaying.{replayed_text, written}
use Rattle.cg_run_cases.specs.Computing.{cases_compute}

-- Replicas at the start: 2: several primaries follow one another.
two_replicas_several_primaries_a_from_discarding :
    replayed_text (
    "start 1 2" ∷
    "merge 1 2" ∷
    "rounds 2" ∷
    "gather" ∷
    "split 1" ∷
    "split 2" ∷
    "merge 1" ∷
    "merge 2" ∷
    "order 2" ∷
    "rounds 1" ∷
    "order 1" ∷
    "deliver 1 1" ∷
    "split 2" ∷
    "gather" ∷
    "gather" ∷
    "gather" ∷
    "rounds 1" ∷
    "gather" ∷
    "request 2 move \"y\" \"x\" 5 ? keys \"k\"" ∷
    "gather" ∷
    "request 2 inc \"y\" -2" ∷
    "request 2 del \"x\"; inc \"y\" -2; put \"x\" 86; put \"a\" 73; del \"b\"; inc \"x\" 9223372036854775807; inc \"abc\" 12; move \"z\" \"z\" 5; inc \"z\" 6; del \"y\"; cas \"a\" 18 19; put \"x\" \"yes \\\"no\\\"\"; move \"a\" \"a\" 1; del \"a\"; cas \"a\" absent -7; inc \"a\" 9223372036854775807" ∷
    "request 1 put \"a\" 47" ∷
    "gather" ∷
    "deliver 1 1" ∷
    "gather" ∷
    "split 1" ∷
    "merge 1 2" ∷
    "split 1 2" ∷
    "merge 1 2" ∷
    "rounds 4" ∷
    "request 2 inc \"y\" 1 ? keys \"x\"" ∷
    "request 2 need \"y\" 52" ∷
    "request 1 ? get \"k2\"" ∷
    "split 1 2" ∷
    "merge 1 2" ∷
    "rounds 3" ∷
    "request 2 move \"y\" \"abc\" 9223372036854775807 ? get \"y\"" ∷
    "order 1" ∷
    "receive 2 6" ∷
    "gather" ∷
    "gather" ∷
    "gather" ∷
    "gather" ∷
    "gather" ∷
    "request 2 inc \"x\" 8 ? count" ∷
    "request 1 put \"ab\" 57" ∷
    "gather" ∷
    "deliver 2 2" ∷
    "split 1" ∷
    "merge 1" ∷
    "show 1" ∷
    "gather" ∷
    "request 2 inc \"k1\" 6; inc \"a\" 3" ∷
    "split 2" ∷
    "deliver 1 1" ∷
    "gather" ∷
    "gather" ∷
    "deliver 1 1" ∷
    "end" ∷
    [])
    ≡ written (
    "= 1" ∷
    "1 NonPrim - g0 w0 p0@0{1,2} a0 v- y- r[] o[] x{} b0" ∷
    "2 NonPrim - g0 w0 p0@0{1,2} a0 v- y- r[] o[] x{} b0" ∷
    "= 2" ∷
    "1 ExchangeStates c1 g0 w0 p0@0{1,2} a0 v- y- r[] o[] x{} b0" ∷
    "2 ExchangeStates c1 g0 w0 p0@0{1,2} a0 v- y- r[] o[] x{} b0" ∷
    "= 4" ∷
    "1 Construct c1 g0 w0 p0@0{1,2} a1 v1/0{1,2}{1} y- r[] o[] x{} b0" ∷
    "= 5" ∷
    "2 Construct c1 g0 w0 p0@0{1,2} a1 v1/0{1,2}{2} y- r[] o[] x{} b0" ∷
    "= 7" ∷
    "1 RegPrim c1 g0 w0 p1@1{1,2} a0 v1/0{1,2}{1} y- r[] o[] x{} b0" ∷
    "= 8" ∷
    "2 RegPrim c1 g0 w0 p1@1{1,2} a0 v1/0{1,2}{2} y- r[] o[] x{} b0" ∷
    "= 10" ∷
    "1 TransPrim t1 g0 w0 p1@1{1,2} a0 v1/0{1,2}{1} y- r[] o[] x{} b0" ∷
    "= 11" ∷
    "2 TransPrim t1 g0 w0 p1@1{1,2} a0 v1/0{1,2}{2} y- r[] o[] x{} b0" ∷
    "= 12" ∷
    "1 ExchangeStates c2 g0 w0 p1@1{1,2} a0 v- y![] r[] o[] x{} b0" ∷
    "= 13" ∷
    "2 ExchangeStates c3 g0 w0 p1@1{1,2} a0 v- y![] r[] o[] x{} b0" ∷
    "= 16" ∷
    "1 Construct c2 g0 w0 p1@1{1,2} a1 v2/1{1}{1} y![] r[] o[] x{} b0" ∷
    "= 17" ∷
    "2 NonPrim c3 g0 w0 p1@1{1,2} a0 v- y![] r[] o[] x{} b0" ∷
    "= 19" ∷
    "1 RegPrim c2 g0 w0 p2@2{1} a0 v2/1{1}{1} y- r[] o[] x{} b0" ∷
    "= 20" ∷
    "2 NonPrim t3 g0 w0 p1@1{1,2} a0 v- y![] r[] o[] x{} b0" ∷
    "= 26" ∷
    "2 NonPrim t3 g0 w0 p1@1{1,2} a0 v- y![] r[] o[] x{} b1" ∷
    "= 28" ∷
    "2 NonPrim t3 g0 w0 p1@1{1,2} a0 v- y![] r[] o[] x{} b2" ∷
    "= 29" ∷
    "2 NonPrim t3 g0 w0 p1@1{1,2} a0 v- y![] r[] o[] x{} b3" ∷
    "= 30" ∷
    "made 1:1 put \"a\" 47" ∷
    "1 RegPrim c2 g0 w0 p2@2{1} a0 v2/1{1}{1} y- r[] o[1:1] x{} b0" ∷
    "= 32" ∷
    "order 1 1:1" ∷
    "1 RegPrim c2 g1 w0 p2@2{1} a0 v2/1{1}{1} y- r[] o[] x{} b0" ∷
    "reply 1:1 done" ∷
    "= 34" ∷
    "1 TransPrim t2 g1 w0 p2@2{1} a0 v2/1{1}{1} y- r[] o[] x{} b0" ∷
    "= 35" ∷
    "1 ExchangeStates c4 g1 w0 p2@2{1} a0 v- y![] r[] o[] x{} b0" ∷
    "2 ExchangeStates c4 g0 w0 p1@1{1,2} a0 v- y![] r[] o[] x{} b3" ∷
    "= 36" ∷
    "1 NonPrim t4 g1 w0 p2@2{1} a0 v- y![] r[] o[] x{} b0" ∷
    "2 NonPrim t4 g0 w0 p1@1{1,2} a0 v- y![] r[] o[] x{} b3" ∷
    "= 37" ∷
    "1 ExchangeStates c5 g1 w0 p2@2{1} a0 v- y![] r[] o[] x{} b0" ∷
    "2 ExchangeStates c5 g0 w0 p1@1{1,2} a0 v- y![] r[] o[] x{} b3" ∷
    "= 39" ∷
    "1 ExchangeActions c5 g1 w0 p2@2{1} a0 v- y![] r[] o[] x{} b0" ∷
    "= 40" ∷
    "2 ExchangeActions c5 g0 w0 p1@1{1,2} a0 v- y![] r[] o[] x{} b3" ∷
    "= 42" ∷
    "1 Construct c5 g1 w0 p2@2{1} a1 v5/2{1,2}{1} y![] r[] o[] x{} b0" ∷
    "= 43" ∷
    "2 Construct c5 g1 w0 p2@2{1} a1 v5/2{1,2}{2} y![] r[] o[] x{} b3" ∷
    "= 45" ∷
    "1 RegPrim c5 g1 w0 p3@5{1,2} a0 v5/2{1,2}{1} y- r[] o[] x{} b0" ∷
    "= 46" ∷
    "made 2:1 move \"y\" \"x\" 5 ? keys \"k\"" ∷
    "made 2:2 inc \"y\" -2" ∷
    "made 2:3 del \"x\"; inc \"y\" -2; put \"x\" 86; put \"a\" 73; del \"b\"; inc \"x\" 9223372036854775807; inc \"abc\" 12; move \"z\" \"z\" 5; inc \"z\" 6; del \"y\"; cas \"a\" 18 19; put \"x\" \"yes \\\"no\\\"\"; move \"a\" \"a\" 1; del \"a\"; cas \"a\" absent -7; inc \"a\" 9223372036854775807" ∷
    "2 RegPrim c5 g1 w0 p3@5{1,2} a0 v5/2{1,2}{2} y- r[] o[2:1,2:2,2:3] x{} b0" ∷
    "= 48" ∷
    "order 2 2:1" ∷
    "order 3 2:2" ∷
    "order 4 2:3" ∷
    "1 RegPrim c5 g4 w0 p3@5{1,2} a0 v5/2{1,2}{1} y- r[] o[] x{} b0" ∷
    "= 49" ∷
    "2 RegPrim c5 g4 w0 p3@5{1,2} a0 v5/2{1,2}{2} y- r[] o[] x{} b0" ∷
    "reply 2:1 aborted 1 ? keys" ∷
    "reply 2:2 done" ∷
    "reply 2:3 range 6" ∷
    "= 50" ∷
    "made 2:4 inc \"y\" 1 ? keys \"x\"" ∷
    "2 RegPrim c5 g4 w0 p3@5{1,2} a0 v5/2{1,2}{2} y- r[] o[2:4] x{} b0" ∷
    "= 51" ∷
    "made 2:5 need \"y\" 52" ∷
    "2 RegPrim c5 g4 w0 p3@5{1,2} a0 v5/2{1,2}{2} y- r[] o[2:4,2:5] x{} b0" ∷
    "= 52" ∷
    "made 1:2 ? get \"k2\"" ∷
    "1 RegPrim c5 g4 w0 p3@5{1,2} a0 v5/2{1,2}{1} y- r[] o[1:2] x{} b0" ∷
    "= 53" ∷
    "1 TransPrim t5 g4 w0 p3@5{1,2} a0 v5/2{1,2}{1} y- r[] o[1:2] x{} b0" ∷
    "2 TransPrim t5 g4 w0 p3@5{1,2} a0 v5/2{1,2}{2} y- r[] o[2:4,2:5] x{} b0" ∷
    "= 54" ∷
    "1 ExchangeStates c6 g4 w0 p3@5{1,2} a0 v- y![] r[1:2] o[] x{} b0" ∷
    "2 ExchangeStates c6 g4 w0 p3@5{1,2} a0 v- y![] r[2:4,2:5] o[] x{} b0" ∷
    "= 56" ∷
    "1 ExchangeActions c6 g4 w0 p3@5{1,2} a0 v- y![] r[1:2] o[] x{} b0" ∷
    "= 57" ∷
    "2 ExchangeActions c6 g4 w0 p3@5{1,2} a0 v- y![] r[2:4,2:5] o[] x{} b0" ∷
    "= 60" ∷
    "2 ExchangeActions c6 g4 w0 p3@5{1,2} a0 v- y![] r[1:2,2:4,2:5] o[] x{} b0" ∷
    "= 62" ∷
    "1 Construct c6 g4 w0 p3@5{1,2} a1 v6/3{1,2}{1} y![] r[1:2,2:4,2:5] o[] x{} b0" ∷
    "= 63" ∷
    "2 Construct c6 g4 w0 p3@5{1,2} a1 v6/3{1,2}{2} y![] r[1:2,2:4,2:5] o[] x{} b0" ∷
    "= 64" ∷
    "2 Construct c6 g4 w0 p3@5{1,2} a1 v6/3{1,2}{2} y![] r[1:2,2:4,2:5] o[] x{} b1" ∷
    "= 72" ∷
    "2 Construct c6 g4 w0 p3@5{1,2} a1 v6/3{1,2}{2} y![] r[1:2,2:4,2:5] o[] x{} b2" ∷
    "= 73" ∷
    "1 Construct c6 g4 w0 p3@5{1,2} a1 v6/3{1,2}{1} y![] r[1:2,2:4,2:5] o[] x{} b1" ∷
    "= 75" ∷
    "made 2:6 move \"y\" \"abc\" 9223372036854775807 ? get \"y\"" ∷
    "made 2:7 inc \"x\" 8 ? count" ∷
    "order 5 1:2" ∷
    "order 6 2:4" ∷
    "order 7 2:5" ∷
    "2 RegPrim c6 g7 w4 p4@6{1,2} a0 v6/3{1,2}{2} y- r[] o[2:6,2:7] x{} b0" ∷
    "reply 2:4 done ? keys" ∷
    "reply 2:5 aborted 1" ∷
    "= 76" ∷
    "1 Un t6 g4 w0 p3@5{1,2} a1 v6/3{1,2}{1} y![] r[1:2,2:4,2:5] o[] x{} b1" ∷
    "= 77" ∷
    "1 ExchangeStates c7 g4 w0 p3@5{1,2} a1 v6/3{1,2}{1} y![] r[1:2,2:4,2:5] o[] x{} b1" ∷
    "= 78" ∷
    "greens 1 [1:1,2:1,2:2,2:3]" ∷
    "db 1 \"a\"=47 \"y\"=-2" ∷
    "= 80" ∷
    "made 2:8 inc \"k1\" 6; inc \"a\" 3" ∷
    "2 RegPrim c6 g7 w4 p4@6{1,2} a0 v6/3{1,2}{2} y- r[] o[2:6,2:7,2:8] x{} b0" ∷
    "= 81" ∷
    "2 TransPrim t6 g7 w4 p4@6{1,2} a0 v6/3{1,2}{2} y?[2:6,2:7] r[] o[2:8] x{} b0" ∷
    "= 82" ∷
    "made 1:3 put \"ab\" 57" ∷
    "1 NonPrim c7 g4 w0 p3@5{1,2} a1 v6/3{1,2}{1} y![] r[1:2,2:4,2:5] o[1:3] x{} b0" ∷
    "= 85" ∷
    "1 NonPrim c7 g4 w0 p3@5{1,2} a1 v6/3{1,2}{1} y![] r[1:2,1:3,2:4,2:5] o[] x{} b0" ∷
    "end 85" ∷
    [])
unfolding cases_compute
two_replicas_several_primaries_a_from_discarding = refl

-- Three replicas form a primary component, and two requests are ordered and answered.
two_requests_on_three_replicas :
    replayed_text (
    "start 1 2 3" ∷
    "merge 1 2 3" ∷
    "rounds 2" ∷
    "request 1 put \"x\" 1" ∷
    "request 2 inc \"x\" 4 ? get \"x\"" ∷
    "rounds 1" ∷
    "show order" ∷
    "end" ∷
    [])
    ≡ written (
    "= 1" ∷
    "1 NonPrim - g0 w0 p0@0{1,2,3} a0 v- y- r[] o[] x{} b0" ∷
    "2 NonPrim - g0 w0 p0@0{1,2,3} a0 v- y- r[] o[] x{} b0" ∷
    "3 NonPrim - g0 w0 p0@0{1,2,3} a0 v- y- r[] o[] x{} b0" ∷
    "= 2" ∷
    "1 ExchangeStates c1 g0 w0 p0@0{1,2,3} a0 v- y- r[] o[] x{} b0" ∷
    "2 ExchangeStates c1 g0 w0 p0@0{1,2,3} a0 v- y- r[] o[] x{} b0" ∷
    "3 ExchangeStates c1 g0 w0 p0@0{1,2,3} a0 v- y- r[] o[] x{} b0" ∷
    "= 4" ∷
    "1 Construct c1 g0 w0 p0@0{1,2,3} a1 v1/0{1,2,3}{1} y- r[] o[] x{} b0" ∷
    "= 5" ∷
    "2 Construct c1 g0 w0 p0@0{1,2,3} a1 v1/0{1,2,3}{2} y- r[] o[] x{} b0" ∷
    "= 6" ∷
    "3 Construct c1 g0 w0 p0@0{1,2,3} a1 v1/0{1,2,3}{3} y- r[] o[] x{} b0" ∷
    "= 8" ∷
    "1 RegPrim c1 g0 w0 p1@1{1,2,3} a0 v1/0{1,2,3}{1} y- r[] o[] x{} b0" ∷
    "= 9" ∷
    "2 RegPrim c1 g0 w0 p1@1{1,2,3} a0 v1/0{1,2,3}{2} y- r[] o[] x{} b0" ∷
    "= 10" ∷
    "3 RegPrim c1 g0 w0 p1@1{1,2,3} a0 v1/0{1,2,3}{3} y- r[] o[] x{} b0" ∷
    "= 11" ∷
    "made 1:1 put \"x\" 1" ∷
    "1 RegPrim c1 g0 w0 p1@1{1,2,3} a0 v1/0{1,2,3}{1} y- r[] o[1:1] x{} b0" ∷
    "= 12" ∷
    "made 2:1 inc \"x\" 4 ? get \"x\"" ∷
    "2 RegPrim c1 g0 w0 p1@1{1,2,3} a0 v1/0{1,2,3}{2} y- r[] o[2:1] x{} b0" ∷
    "= 14" ∷
    "order 1 1:1" ∷
    "order 2 2:1" ∷
    "1 RegPrim c1 g2 w0 p1@1{1,2,3} a0 v1/0{1,2,3}{1} y- r[] o[] x{} b0" ∷
    "reply 1:1 done" ∷
    "= 15" ∷
    "2 RegPrim c1 g2 w0 p1@1{1,2,3} a0 v1/0{1,2,3}{2} y- r[] o[] x{} b0" ∷
    "reply 2:1 done ? 5" ∷
    "= 16" ∷
    "3 RegPrim c1 g2 w0 p1@1{1,2,3} a0 v1/0{1,2,3}{3} y- r[] o[] x{} b0" ∷
    "= 17" ∷
    "all [1:1,2:1]" ∷
    "end 17" ∷
    [])
unfolding cases_compute
two_requests_on_three_replicas = refl

-- A weight of one is not written.
weight_of_one_has_no_spelling :
    replayed_text (
    "start 1*1" ∷
    [])
    ≡ written (
    "syntax 1 5" ∷
    [])
unfolding cases_compute
weight_of_one_has_no_spelling = refl

-- who has left need not be named in a merge
who_has_left_need_not_be_named_in_a_merge :
    replayed_text (
    "start 1 2 3" ∷
    "merge 1 2 3" ∷
    "rounds 2" ∷
    "split 1 2" ∷
    "split 3" ∷
    "merge 1 2" ∷
    "merge 3" ∷
    "rounds 2" ∷
    "leave 1 3" ∷
    "rounds 1" ∷
    "split 1 2" ∷
    "split 3" ∷
    "merge 1 2 3" ∷
    "rounds 3" ∷
    "split 1 2 3" ∷
    "merge 1 2" ∷
    "rounds 3" ∷
    "request 1 put \"a\" 1 ? count" ∷
    "rounds 1" ∷
    "show 3" ∷
    "show order" ∷
    "end" ∷
    [])
    ≡ written (
    "= 1" ∷
    "1 NonPrim - g0 w0 p0@0{1,2,3} a0 v- y- r[] o[] x{} b0" ∷
    "2 NonPrim - g0 w0 p0@0{1,2,3} a0 v- y- r[] o[] x{} b0" ∷
    "3 NonPrim - g0 w0 p0@0{1,2,3} a0 v- y- r[] o[] x{} b0" ∷
    "= 2" ∷
    "1 ExchangeStates c1 g0 w0 p0@0{1,2,3} a0 v- y- r[] o[] x{} b0" ∷
    "2 ExchangeStates c1 g0 w0 p0@0{1,2,3} a0 v- y- r[] o[] x{} b0" ∷
    "3 ExchangeStates c1 g0 w0 p0@0{1,2,3} a0 v- y- r[] o[] x{} b0" ∷
    "= 4" ∷
    "1 Construct c1 g0 w0 p0@0{1,2,3} a1 v1/0{1,2,3}{1} y- r[] o[] x{} b0" ∷
    "= 5" ∷
    "2 Construct c1 g0 w0 p0@0{1,2,3} a1 v1/0{1,2,3}{2} y- r[] o[] x{} b0" ∷
    "= 6" ∷
    "3 Construct c1 g0 w0 p0@0{1,2,3} a1 v1/0{1,2,3}{3} y- r[] o[] x{} b0" ∷
    "= 8" ∷
    "1 RegPrim c1 g0 w0 p1@1{1,2,3} a0 v1/0{1,2,3}{1} y- r[] o[] x{} b0" ∷
    "= 9" ∷
    "2 RegPrim c1 g0 w0 p1@1{1,2,3} a0 v1/0{1,2,3}{2} y- r[] o[] x{} b0" ∷
    "= 10" ∷
    "3 RegPrim c1 g0 w0 p1@1{1,2,3} a0 v1/0{1,2,3}{3} y- r[] o[] x{} b0" ∷
    "= 11" ∷
    "1 TransPrim t1 g0 w0 p1@1{1,2,3} a0 v1/0{1,2,3}{1} y- r[] o[] x{} b0" ∷
    "2 TransPrim t1 g0 w0 p1@1{1,2,3} a0 v1/0{1,2,3}{2} y- r[] o[] x{} b0" ∷
    "= 12" ∷
    "3 TransPrim t1 g0 w0 p1@1{1,2,3} a0 v1/0{1,2,3}{3} y- r[] o[] x{} b0" ∷
    "= 13" ∷
    "1 ExchangeStates c2 g0 w0 p1@1{1,2,3} a0 v- y![] r[] o[] x{} b0" ∷
    "2 ExchangeStates c2 g0 w0 p1@1{1,2,3} a0 v- y![] r[] o[] x{} b0" ∷
    "= 14" ∷
    "3 ExchangeStates c3 g0 w0 p1@1{1,2,3} a0 v- y![] r[] o[] x{} b0" ∷
    "= 16" ∷
    "1 Construct c2 g0 w0 p1@1{1,2,3} a1 v2/1{1,2}{1} y![] r[] o[] x{} b0" ∷
    "= 17" ∷
    "2 Construct c2 g0 w0 p1@1{1,2,3} a1 v2/1{1,2}{2} y![] r[] o[] x{} b0" ∷
    "= 18" ∷
    "3 NonPrim c3 g0 w0 p1@1{1,2,3} a0 v- y![] r[] o[] x{} b0" ∷
    "= 20" ∷
    "1 RegPrim c2 g0 w0 p2@2{1,2} a0 v2/1{1,2}{1} y- r[] o[] x{} b0" ∷
    "= 21" ∷
    "2 RegPrim c2 g0 w0 p2@2{1,2} a0 v2/1{1,2}{2} y- r[] o[] x{} b0" ∷
    "= 22" ∷
    "made 1:1 leave 3" ∷
    "1 RegPrim c2 g0 w0 p2@2{1,2} a0 v2/1{1,2}{1} y- r[] o[1:1] x{} b0" ∷
    "= 24" ∷
    "order 1 1:1" ∷
    "1 RegPrim c2 g1 w0 p2@2{1,2} a0 v2/1{1,2}{1} y- r[] o[] x{3} b0" ∷
    "reply 1:1 done" ∷
    "= 25" ∷
    "2 RegPrim c2 g1 w0 p2@2{1,2} a0 v2/1{1,2}{2} y- r[] o[] x{3} b0" ∷
    "= 26" ∷
    "1 TransPrim t2 g1 w0 p2@2{1,2} a0 v2/1{1,2}{1} y- r[] o[] x{3} b0" ∷
    "2 TransPrim t2 g1 w0 p2@2{1,2} a0 v2/1{1,2}{2} y- r[] o[] x{3} b0" ∷
    "= 27" ∷
    "3 NonPrim t3 g0 w0 p1@1{1,2,3} a0 v- y![] r[] o[] x{} b0" ∷
    "= 28" ∷
    "1 ExchangeStates c4 g1 w0 p2@2{1,2} a0 v- y![] r[] o[] x{3} b0" ∷
    "2 ExchangeStates c4 g1 w0 p2@2{1,2} a0 v- y![] r[] o[] x{3} b0" ∷
    "3 ExchangeStates c4 g0 w0 p1@1{1,2,3} a0 v- y![] r[] o[] x{} b0" ∷
    "= 30" ∷
    "1 Construct c4 g1 w0 p2@2{1,2} a1 v4/2{1,2}{1} y![] r[] o[] x{3} b0" ∷
    "= 31" ∷
    "2 Construct c4 g1 w0 p2@2{1,2} a1 v4/2{1,2}{2} y![] r[] o[] x{3} b0" ∷
    "= 32" ∷
    "3 Left c4 g0 w0 p1@1{1,2,3} a0 v- y![] r[] o[] x{} b0" ∷
    "= 34" ∷
    "1 RegPrim c4 g1 w0 p3@4{1,2} a0 v4/2{1,2}{1} y- r[] o[] x{3} b0" ∷
    "= 35" ∷
    "2 RegPrim c4 g1 w0 p3@4{1,2} a0 v4/2{1,2}{2} y- r[] o[] x{3} b0" ∷
    "= 38" ∷
    "1 TransPrim t4 g1 w0 p3@4{1,2} a0 v4/2{1,2}{1} y- r[] o[] x{3} b0" ∷
    "2 TransPrim t4 g1 w0 p3@4{1,2} a0 v4/2{1,2}{2} y- r[] o[] x{3} b0" ∷
    "3 Left t4 g0 w0 p1@1{1,2,3} a0 v- y![] r[] o[] x{} b0" ∷
    "= 39" ∷
    "1 ExchangeStates c5 g1 w0 p3@4{1,2} a0 v- y![] r[] o[] x{3} b0" ∷
    "2 ExchangeStates c5 g1 w0 p3@4{1,2} a0 v- y![] r[] o[] x{3} b0" ∷
    "= 41" ∷
    "1 Construct c5 g1 w0 p3@4{1,2} a1 v5/3{1,2}{1} y![] r[] o[] x{3} b0" ∷
    "= 42" ∷
    "2 Construct c5 g1 w0 p3@4{1,2} a1 v5/3{1,2}{2} y![] r[] o[] x{3} b0" ∷
    "= 44" ∷
    "1 RegPrim c5 g1 w0 p4@5{1,2} a0 v5/3{1,2}{1} y- r[] o[] x{3} b0" ∷
    "= 45" ∷
    "2 RegPrim c5 g1 w0 p4@5{1,2} a0 v5/3{1,2}{2} y- r[] o[] x{3} b0" ∷
    "= 47" ∷
    "made 1:2 put \"a\" 1 ? count" ∷
    "1 RegPrim c5 g1 w0 p4@5{1,2} a0 v5/3{1,2}{1} y- r[] o[1:2] x{3} b0" ∷
    "= 49" ∷
    "order 2 1:2" ∷
    "1 RegPrim c5 g2 w0 p4@5{1,2} a0 v5/3{1,2}{1} y- r[] o[] x{3} b0" ∷
    "reply 1:2 done ? count 1" ∷
    "= 50" ∷
    "2 RegPrim c5 g2 w0 p4@5{1,2} a0 v5/3{1,2}{2} y- r[] o[] x{3} b0" ∷
    "= 51" ∷
    "greens 3 []" ∷
    "db 3" ∷
    "= 52" ∷
    "all [1:1,1:2]" ∷
    "end 52" ∷
    [])
unfolding cases_compute
who_has_left_need_not_be_named_in_a_merge = refl

-- Only what stands in every valid yellow list stays yellow.
yellow_action_not_in_every_list_a :
    replayed_text (
    "start 1 2 3" ∷
    "merge 1 2 3" ∷
    "rounds 2" ∷
    "split 2 3" ∷
    "request 1 del \"k1\"; put \"x\" 18; need \"y\" 97; need \"b\" absent; cas \"abc\" -1 12; cas \"abc\" absent -1; put \"a\" 40; inc \"b\" -3; put \"k1\" 97; need \"y\" absent; inc \"z\" 0; put \"a\" -9223372036854775807; put \"z\" 70; inc \"x\" 1; move \"y\" \"a\" 9223372036854775807; inc \"y\" -9223372036854775808" ∷
    "gather" ∷
    "split 1" ∷
    "merge 1 2 3" ∷
    "split 1 2 3" ∷
    "merge 1 2 3" ∷
    "split 1 2 3" ∷
    "merge 1 2 3" ∷
    "rounds 3" ∷
    "end" ∷
    [])
    ≡ written (
    "= 1" ∷
    "1 NonPrim - g0 w0 p0@0{1,2,3} a0 v- y- r[] o[] x{} b0" ∷
    "2 NonPrim - g0 w0 p0@0{1,2,3} a0 v- y- r[] o[] x{} b0" ∷
    "3 NonPrim - g0 w0 p0@0{1,2,3} a0 v- y- r[] o[] x{} b0" ∷
    "= 2" ∷
    "1 ExchangeStates c1 g0 w0 p0@0{1,2,3} a0 v- y- r[] o[] x{} b0" ∷
    "2 ExchangeStates c1 g0 w0 p0@0{1,2,3} a0 v- y- r[] o[] x{} b0" ∷
    "3 ExchangeStates c1 g0 w0 p0@0{1,2,3} a0 v- y- r[] o[] x{} b0" ∷
    "= 4" ∷
    "1 Construct c1 g0 w0 p0@0{1,2,3} a1 v1/0{1,2,3}{1} y- r[] o[] x{} b0" ∷
    "= 5" ∷
    "2 Construct c1 g0 w0 p0@0{1,2,3} a1 v1/0{1,2,3}{2} y- r[] o[] x{} b0" ∷
    "= 6" ∷
    "3 Construct c1 g0 w0 p0@0{1,2,3} a1 v1/0{1,2,3}{3} y- r[] o[] x{} b0" ∷
    "= 8" ∷
    "1 RegPrim c1 g0 w0 p1@1{1,2,3} a0 v1/0{1,2,3}{1} y- r[] o[] x{} b0" ∷
    "= 9" ∷
    "2 RegPrim c1 g0 w0 p1@1{1,2,3} a0 v1/0{1,2,3}{2} y- r[] o[] x{} b0" ∷
    "= 10" ∷
    "3 RegPrim c1 g0 w0 p1@1{1,2,3} a0 v1/0{1,2,3}{3} y- r[] o[] x{} b0" ∷
    "= 11" ∷
    "2 TransPrim t1 g0 w0 p1@1{1,2,3} a0 v1/0{1,2,3}{2} y- r[] o[] x{} b0" ∷
    "3 TransPrim t1 g0 w0 p1@1{1,2,3} a0 v1/0{1,2,3}{3} y- r[] o[] x{} b0" ∷
    "= 12" ∷
    "made 1:1 del \"k1\"; put \"x\" 18; need \"y\" 97; need \"b\" absent; cas \"abc\" -1 12; cas \"abc\" absent -1; put \"a\" 40; inc \"b\" -3; put \"k1\" 97; need \"y\" absent; inc \"z\" 0; put \"a\" -9223372036854775807; put \"z\" 70; inc \"x\" 1; move \"y\" \"a\" 9223372036854775807; inc \"y\" -9223372036854775808" ∷
    "1 RegPrim c1 g0 w0 p1@1{1,2,3} a0 v1/0{1,2,3}{1} y- r[] o[1:1] x{} b0" ∷
    "= 14" ∷
    "1 TransPrim t1 g0 w0 p1@1{1,2,3} a0 v1/0{1,2,3}{1} y?[1:1] r[] o[] x{} b0" ∷
    "= 15" ∷
    "1 ExchangeStates c2 g0 w0 p1@1{1,2,3} a0 v- y![1:1] r[] o[] x{} b0" ∷
    "2 ExchangeStates c2 g0 w0 p1@1{1,2,3} a0 v- y![] r[] o[] x{} b0" ∷
    "3 ExchangeStates c2 g0 w0 p1@1{1,2,3} a0 v- y![] r[] o[] x{} b0" ∷
    "= 16" ∷
    "1 NonPrim t2 g0 w0 p1@1{1,2,3} a0 v- y![1:1] r[] o[] x{} b0" ∷
    "2 NonPrim t2 g0 w0 p1@1{1,2,3} a0 v- y![] r[] o[] x{} b0" ∷
    "3 NonPrim t2 g0 w0 p1@1{1,2,3} a0 v- y![] r[] o[] x{} b0" ∷
    "= 17" ∷
    "1 ExchangeStates c3 g0 w0 p1@1{1,2,3} a0 v- y![1:1] r[] o[] x{} b0" ∷
    "2 ExchangeStates c3 g0 w0 p1@1{1,2,3} a0 v- y![] r[] o[] x{} b0" ∷
    "3 ExchangeStates c3 g0 w0 p1@1{1,2,3} a0 v- y![] r[] o[] x{} b0" ∷
    "= 18" ∷
    "1 NonPrim t3 g0 w0 p1@1{1,2,3} a0 v- y![1:1] r[] o[] x{} b0" ∷
    "2 NonPrim t3 g0 w0 p1@1{1,2,3} a0 v- y![] r[] o[] x{} b0" ∷
    "3 NonPrim t3 g0 w0 p1@1{1,2,3} a0 v- y![] r[] o[] x{} b0" ∷
    "= 19" ∷
    "1 ExchangeStates c4 g0 w0 p1@1{1,2,3} a0 v- y![1:1] r[] o[] x{} b0" ∷
    "2 ExchangeStates c4 g0 w0 p1@1{1,2,3} a0 v- y![] r[] o[] x{} b0" ∷
    "3 ExchangeStates c4 g0 w0 p1@1{1,2,3} a0 v- y![] r[] o[] x{} b0" ∷
    "= 21" ∷
    "1 ExchangeActions c4 g0 w0 p1@1{1,2,3} a0 v- y![1:1] r[] o[] x{} b0" ∷
    "= 22" ∷
    "2 ExchangeActions c4 g0 w0 p1@1{1,2,3} a0 v- y![] r[] o[] x{} b0" ∷
    "= 23" ∷
    "3 ExchangeActions c4 g0 w0 p1@1{1,2,3} a0 v- y![] r[] o[] x{} b0" ∷
    "= 25" ∷
    "1 Construct c4 g0 w0 p1@1{1,2,3} a1 v4/1{1,2,3}{1} y![] r[1:1] o[] x{} b0" ∷
    "= 26" ∷
    "2 Construct c4 g0 w0 p1@1{1,2,3} a1 v4/1{1,2,3}{2} y![] r[1:1] o[] x{} b0" ∷
    "= 27" ∷
    "3 Construct c4 g0 w0 p1@1{1,2,3} a1 v4/1{1,2,3}{3} y![] r[1:1] o[] x{} b0" ∷
    "= 29" ∷
    "order 1 1:1" ∷
    "1 RegPrim c4 g1 w0 p2@4{1,2,3} a0 v4/1{1,2,3}{1} y- r[] o[] x{} b0" ∷
    "reply 1:1 aborted 3" ∷
    "= 30" ∷
    "2 RegPrim c4 g1 w0 p2@4{1,2,3} a0 v4/1{1,2,3}{2} y- r[] o[] x{} b0" ∷
    "= 31" ∷
    "3 RegPrim c4 g1 w0 p2@4{1,2,3} a0 v4/1{1,2,3}{3} y- r[] o[] x{} b0" ∷
    "end 31" ∷
    [])
unfolding cases_compute
yellow_action_not_in_every_list_a = refl

-- Only what stands in every valid yellow list stays yellow.
yellow_action_not_in_every_list_b :
    replayed_text (
    "start 1 2 3" ∷
    "merge 1 2 3" ∷
    "rounds 2" ∷
    "request 1 inc \"x\" -2" ∷
    "order 1" ∷
    "split 1" ∷
    "split 2 3" ∷
    "merge 1 2 3" ∷
    "rounds 3" ∷
    "end" ∷
    [])
    ≡ written (
    "= 1" ∷
    "1 NonPrim - g0 w0 p0@0{1,2,3} a0 v- y- r[] o[] x{} b0" ∷
    "2 NonPrim - g0 w0 p0@0{1,2,3} a0 v- y- r[] o[] x{} b0" ∷
    "3 NonPrim - g0 w0 p0@0{1,2,3} a0 v- y- r[] o[] x{} b0" ∷
    "= 2" ∷
    "1 ExchangeStates c1 g0 w0 p0@0{1,2,3} a0 v- y- r[] o[] x{} b0" ∷
    "2 ExchangeStates c1 g0 w0 p0@0{1,2,3} a0 v- y- r[] o[] x{} b0" ∷
    "3 ExchangeStates c1 g0 w0 p0@0{1,2,3} a0 v- y- r[] o[] x{} b0" ∷
    "= 4" ∷
    "1 Construct c1 g0 w0 p0@0{1,2,3} a1 v1/0{1,2,3}{1} y- r[] o[] x{} b0" ∷
    "= 5" ∷
    "2 Construct c1 g0 w0 p0@0{1,2,3} a1 v1/0{1,2,3}{2} y- r[] o[] x{} b0" ∷
    "= 6" ∷
    "3 Construct c1 g0 w0 p0@0{1,2,3} a1 v1/0{1,2,3}{3} y- r[] o[] x{} b0" ∷
    "= 8" ∷
    "1 RegPrim c1 g0 w0 p1@1{1,2,3} a0 v1/0{1,2,3}{1} y- r[] o[] x{} b0" ∷
    "= 9" ∷
    "2 RegPrim c1 g0 w0 p1@1{1,2,3} a0 v1/0{1,2,3}{2} y- r[] o[] x{} b0" ∷
    "= 10" ∷
    "3 RegPrim c1 g0 w0 p1@1{1,2,3} a0 v1/0{1,2,3}{3} y- r[] o[] x{} b0" ∷
    "= 11" ∷
    "made 1:1 inc \"x\" -2" ∷
    "1 RegPrim c1 g0 w0 p1@1{1,2,3} a0 v1/0{1,2,3}{1} y- r[] o[1:1] x{} b0" ∷
    "= 13" ∷
    "1 TransPrim t1 g0 w0 p1@1{1,2,3} a0 v1/0{1,2,3}{1} y?[1:1] r[] o[] x{} b0" ∷
    "= 14" ∷
    "2 TransPrim t1 g0 w0 p1@1{1,2,3} a0 v1/0{1,2,3}{2} y- r[] o[] x{} b0" ∷
    "3 TransPrim t1 g0 w0 p1@1{1,2,3} a0 v1/0{1,2,3}{3} y- r[] o[] x{} b0" ∷
    "= 15" ∷
    "1 ExchangeStates c2 g0 w0 p1@1{1,2,3} a0 v- y![1:1] r[] o[] x{} b0" ∷
    "2 ExchangeStates c2 g0 w0 p1@1{1,2,3} a0 v- y![] r[] o[] x{} b0" ∷
    "3 ExchangeStates c2 g0 w0 p1@1{1,2,3} a0 v- y![] r[] o[] x{} b0" ∷
    "= 17" ∷
    "1 ExchangeActions c2 g0 w0 p1@1{1,2,3} a0 v- y![1:1] r[] o[] x{} b0" ∷
    "= 18" ∷
    "2 ExchangeActions c2 g0 w0 p1@1{1,2,3} a0 v- y![] r[] o[] x{} b0" ∷
    "= 19" ∷
    "3 ExchangeActions c2 g0 w0 p1@1{1,2,3} a0 v- y![] r[] o[] x{} b0" ∷
    "= 21" ∷
    "1 Construct c2 g0 w0 p1@1{1,2,3} a1 v2/1{1,2,3}{1} y![] r[1:1] o[] x{} b0" ∷
    "= 22" ∷
    "2 Construct c2 g0 w0 p1@1{1,2,3} a1 v2/1{1,2,3}{2} y![] r[1:1] o[] x{} b0" ∷
    "= 23" ∷
    "3 Construct c2 g0 w0 p1@1{1,2,3} a1 v2/1{1,2,3}{3} y![] r[1:1] o[] x{} b0" ∷
    "= 25" ∷
    "order 1 1:1" ∷
    "1 RegPrim c2 g1 w0 p2@2{1,2,3} a0 v2/1{1,2,3}{1} y- r[] o[] x{} b0" ∷
    "reply 1:1 done" ∷
    "= 26" ∷
    "2 RegPrim c2 g1 w0 p2@2{1,2,3} a0 v2/1{1,2,3}{2} y- r[] o[] x{} b0" ∷
    "= 27" ∷
    "3 RegPrim c2 g1 w0 p2@2{1,2,3} a0 v2/1{1,2,3}{3} y- r[] o[] x{} b0" ∷
    "end 27" ∷
    [])
unfolding cases_compute
yellow_action_not_in_every_list_b = refl

-- Only what stands in every valid yellow list stays yellow.
yellow_action_not_in_every_list_c :
    replayed_text (
    "start 1 2 3 4 5" ∷
    "merge 1 2 3 4 5" ∷
    "rounds 1" ∷
    "gather" ∷
    "split 4" ∷
    "merge 4" ∷
    "deliver 3 5" ∷
    "split 3" ∷
    "merge 3" ∷
    "deliver 1 5" ∷
    "split 2" ∷
    "request 1 del \"b\"" ∷
    "rounds 1" ∷
    "split 5" ∷
    "split 1" ∷
    "split 4" ∷
    "split 3" ∷
    "merge 1 2 3 4 5" ∷
    "split 5" ∷
    "split 1 2 3 4" ∷
    "merge 1 2 3 4" ∷
    "merge 5" ∷
    "split 1 2 3 4" ∷
    "split 5" ∷
    "merge 1 2 3 4 5" ∷
    "rounds 2" ∷
    "end" ∷
    [])
    ≡ written (
    "= 1" ∷
    "1 NonPrim - g0 w0 p0@0{1,2,3,4,5} a0 v- y- r[] o[] x{} b0" ∷
    "2 NonPrim - g0 w0 p0@0{1,2,3,4,5} a0 v- y- r[] o[] x{} b0" ∷
    "3 NonPrim - g0 w0 p0@0{1,2,3,4,5} a0 v- y- r[] o[] x{} b0" ∷
    "4 NonPrim - g0 w0 p0@0{1,2,3,4,5} a0 v- y- r[] o[] x{} b0" ∷
    "5 NonPrim - g0 w0 p0@0{1,2,3,4,5} a0 v- y- r[] o[] x{} b0" ∷
    "= 2" ∷
    "1 ExchangeStates c1 g0 w0 p0@0{1,2,3,4,5} a0 v- y- r[] o[] x{} b0" ∷
    "2 ExchangeStates c1 g0 w0 p0@0{1,2,3,4,5} a0 v- y- r[] o[] x{} b0" ∷
    "3 ExchangeStates c1 g0 w0 p0@0{1,2,3,4,5} a0 v- y- r[] o[] x{} b0" ∷
    "4 ExchangeStates c1 g0 w0 p0@0{1,2,3,4,5} a0 v- y- r[] o[] x{} b0" ∷
    "5 ExchangeStates c1 g0 w0 p0@0{1,2,3,4,5} a0 v- y- r[] o[] x{} b0" ∷
    "= 4" ∷
    "1 Construct c1 g0 w0 p0@0{1,2,3,4,5} a1 v1/0{1,2,3,4,5}{1} y- r[] o[] x{} b0" ∷
    "= 5" ∷
    "2 Construct c1 g0 w0 p0@0{1,2,3,4,5} a1 v1/0{1,2,3,4,5}{2} y- r[] o[] x{} b0" ∷
    "= 6" ∷
    "3 Construct c1 g0 w0 p0@0{1,2,3,4,5} a1 v1/0{1,2,3,4,5}{3} y- r[] o[] x{} b0" ∷
    "= 7" ∷
    "4 Construct c1 g0 w0 p0@0{1,2,3,4,5} a1 v1/0{1,2,3,4,5}{4} y- r[] o[] x{} b0" ∷
    "= 8" ∷
    "5 Construct c1 g0 w0 p0@0{1,2,3,4,5} a1 v1/0{1,2,3,4,5}{5} y- r[] o[] x{} b0" ∷
    "= 10" ∷
    "4 Un t1 g0 w0 p0@0{1,2,3,4,5} a1 v1/0{1,2,3,4,5}{4} y- r[] o[] x{} b0" ∷
    "= 11" ∷
    "4 ExchangeStates c2 g0 w0 p0@0{1,2,3,4,5} a1 v1/0{1,2,3,4,5}{4} y- r[] o[] x{} b0" ∷
    "= 12" ∷
    "3 RegPrim c1 g0 w0 p1@1{1,2,3,4,5} a0 v1/0{1,2,3,4,5}{3} y- r[] o[] x{} b0" ∷
    "= 13" ∷
    "3 TransPrim t1 g0 w0 p1@1{1,2,3,4,5} a0 v1/0{1,2,3,4,5}{3} y- r[] o[] x{} b0" ∷
    "= 14" ∷
    "3 ExchangeStates c3 g0 w0 p1@1{1,2,3,4,5} a0 v- y![] r[] o[] x{} b0" ∷
    "= 15" ∷
    "1 RegPrim c1 g0 w0 p1@1{1,2,3,4,5} a0 v1/0{1,2,3,4,5}{1} y- r[] o[] x{} b0" ∷
    "= 16" ∷
    "2 Un t1 g0 w0 p0@0{1,2,3,4,5} a1 v1/0{1,2,3,4,5}{2} y- r[] o[] x{} b0" ∷
    "= 17" ∷
    "made 1:1 del \"b\"" ∷
    "1 RegPrim c1 g0 w0 p1@1{1,2,3,4,5} a0 v1/0{1,2,3,4,5}{1} y- r[] o[1:1] x{} b0" ∷
    "= 19" ∷
    "3 NonPrim c3 g0 w0 p1@1{1,2,3,4,5} a0 v- y![] r[] o[] x{} b0" ∷
    "= 20" ∷
    "4 NonPrim c2 g0 w0 p0@0{1,2,3,4,5} a1 v1/0{1,2,3,4,5}{4} y- r[] o[] x{} b0" ∷
    "= 21" ∷
    "5 RegPrim c1 g0 w0 p1@1{1,2,3,4,5} a0 v1/0{1,2,3,4,5}{5} y- r[] o[] x{} b0" ∷
    "= 22" ∷
    "5 TransPrim t1 g0 w0 p1@1{1,2,3,4,5} a0 v1/0{1,2,3,4,5}{5} y?[1:1] r[] o[] x{} b0" ∷
    "= 23" ∷
    "1 TransPrim t1 g0 w0 p1@1{1,2,3,4,5} a0 v1/0{1,2,3,4,5}{1} y?[1:1] r[] o[] x{} b0" ∷
    "= 24" ∷
    "4 NonPrim t2 g0 w0 p0@0{1,2,3,4,5} a1 v1/0{1,2,3,4,5}{4} y- r[] o[] x{} b0" ∷
    "= 25" ∷
    "3 NonPrim t3 g0 w0 p1@1{1,2,3,4,5} a0 v- y![] r[] o[] x{} b0" ∷
    "= 26" ∷
    "1 ExchangeStates c4 g0 w0 p1@1{1,2,3,4,5} a0 v- y![1:1] r[] o[] x{} b0" ∷
    "2 ExchangeStates c4 g0 w0 p0@0{1,2,3,4,5} a1 v1/0{1,2,3,4,5}{2} y- r[] o[] x{} b0" ∷
    "3 ExchangeStates c4 g0 w0 p1@1{1,2,3,4,5} a0 v- y![] r[] o[] x{} b0" ∷
    "4 ExchangeStates c4 g0 w0 p0@0{1,2,3,4,5} a1 v1/0{1,2,3,4,5}{4} y- r[] o[] x{} b0" ∷
    "5 ExchangeStates c4 g0 w0 p1@1{1,2,3,4,5} a0 v- y![1:1] r[] o[] x{} b0" ∷
    "= 27" ∷
    "5 NonPrim t4 g0 w0 p1@1{1,2,3,4,5} a0 v- y![1:1] r[] o[] x{} b0" ∷
    "= 28" ∷
    "1 NonPrim t4 g0 w0 p1@1{1,2,3,4,5} a0 v- y![1:1] r[] o[] x{} b0" ∷
    "2 NonPrim t4 g0 w0 p0@0{1,2,3,4,5} a1 v1/0{1,2,3,4,5}{2} y- r[] o[] x{} b0" ∷
    "3 NonPrim t4 g0 w0 p1@1{1,2,3,4,5} a0 v- y![] r[] o[] x{} b0" ∷
    "4 NonPrim t4 g0 w0 p0@0{1,2,3,4,5} a1 v1/0{1,2,3,4,5}{4} y- r[] o[] x{} b0" ∷
    "= 29" ∷
    "1 ExchangeStates c5 g0 w0 p1@1{1,2,3,4,5} a0 v- y![1:1] r[] o[] x{} b0" ∷
    "2 ExchangeStates c5 g0 w0 p0@0{1,2,3,4,5} a1 v1/0{1,2,3,4,5}{2} y- r[] o[] x{} b0" ∷
    "3 ExchangeStates c5 g0 w0 p1@1{1,2,3,4,5} a0 v- y![] r[] o[] x{} b0" ∷
    "4 ExchangeStates c5 g0 w0 p0@0{1,2,3,4,5} a1 v1/0{1,2,3,4,5}{4} y- r[] o[] x{} b0" ∷
    "= 30" ∷
    "5 ExchangeStates c6 g0 w0 p1@1{1,2,3,4,5} a0 v- y![1:1] r[] o[] x{} b0" ∷
    "= 31" ∷
    "1 NonPrim t5 g0 w0 p1@1{1,2,3,4,5} a0 v- y![1:1] r[] o[] x{} b0" ∷
    "2 NonPrim t5 g0 w0 p0@0{1,2,3,4,5} a1 v1/0{1,2,3,4,5}{2} y- r[] o[] x{} b0" ∷
    "3 NonPrim t5 g0 w0 p1@1{1,2,3,4,5} a0 v- y![] r[] o[] x{} b0" ∷
    "4 NonPrim t5 g0 w0 p0@0{1,2,3,4,5} a1 v1/0{1,2,3,4,5}{4} y- r[] o[] x{} b0" ∷
    "= 32" ∷
    "5 NonPrim t6 g0 w0 p1@1{1,2,3,4,5} a0 v- y![1:1] r[] o[] x{} b0" ∷
    "= 33" ∷
    "1 ExchangeStates c7 g0 w0 p1@1{1,2,3,4,5} a0 v- y![1:1] r[] o[] x{} b0" ∷
    "2 ExchangeStates c7 g0 w0 p0@0{1,2,3,4,5} a1 v1/0{1,2,3,4,5}{2} y- r[] o[] x{} b0" ∷
    "3 ExchangeStates c7 g0 w0 p1@1{1,2,3,4,5} a0 v- y![] r[] o[] x{} b0" ∷
    "4 ExchangeStates c7 g0 w0 p0@0{1,2,3,4,5} a1 v1/0{1,2,3,4,5}{4} y- r[] o[] x{} b0" ∷
    "5 ExchangeStates c7 g0 w0 p1@1{1,2,3,4,5} a0 v- y![1:1] r[] o[] x{} b0" ∷
    "= 35" ∷
    "1 ExchangeActions c7 g0 w0 p1@1{1,2,3,4,5} a0 v- y![1:1] r[] o[] x{} b0" ∷
    "= 36" ∷
    "2 ExchangeActions c7 g0 w0 p0@0{1,2,3,4,5} a1 v1/0{1,2,3,4,5}{2} y- r[] o[] x{} b0" ∷
    "= 37" ∷
    "3 ExchangeActions c7 g0 w0 p1@1{1,2,3,4,5} a0 v- y![] r[] o[] x{} b0" ∷
    "= 38" ∷
    "4 ExchangeActions c7 g0 w0 p0@0{1,2,3,4,5} a1 v1/0{1,2,3,4,5}{4} y- r[] o[] x{} b0" ∷
    "= 39" ∷
    "5 ExchangeActions c7 g0 w0 p1@1{1,2,3,4,5} a0 v- y![1:1] r[] o[] x{} b0" ∷
    "= 41" ∷
    "1 Construct c7 g0 w0 p1@1{1,2,3,4,5} a1 v7/1{1,2,3,4,5}{1} y![] r[1:1] o[] x{} b0" ∷
    "= 42" ∷
    "2 Construct c7 g0 w0 p1@1{1,2,3,4,5} a1 v7/1{1,2,3,4,5}{2} y![] r[1:1] o[] x{} b0" ∷
    "= 43" ∷
    "3 Construct c7 g0 w0 p1@1{1,2,3,4,5} a1 v7/1{1,2,3,4,5}{3} y![] r[1:1] o[] x{} b0" ∷
    "= 44" ∷
    "4 Construct c7 g0 w0 p1@1{1,2,3,4,5} a1 v7/1{1,2,3,4,5}{4} y![] r[1:1] o[] x{} b0" ∷
    "= 45" ∷
    "5 Construct c7 g0 w0 p1@1{1,2,3,4,5} a1 v7/1{1,2,3,4,5}{5} y![] r[1:1] o[] x{} b0" ∷
    "end 45" ∷
    [])
unfolding cases_compute
yellow_action_not_in_every_list_c = refl
