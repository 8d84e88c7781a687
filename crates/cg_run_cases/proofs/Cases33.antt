-- Cases of cases/ with their whole reports, which `.ci/theorems` writes down here.
use Rattle.std.specs.Prelude.{◌≡◌, [], ◌∷◌}
use mathlib.Core.Path.{refl}
use Rattle.cg_run_cases.specs.Replaying.{replayed_text, written}
use Rattle.cg_run_cases.specs.Computing.{cases_compute}

-- Replicas at the start: 3: several primaries follow one another.
three_replicas_several_primaries_a :
    replayed_text (
    "start 1 2 3" ∷
    "merge 1 2 3" ∷
    "rounds 2" ∷
    "split 1" ∷
    "split 2 3" ∷
    "merge 2 3" ∷
    "merge 1" ∷
    "split 1" ∷
    "rounds 1" ∷
    "request 1 del \"a\"" ∷
    "request 1 ? get \"a\"" ∷
    "gather" ∷
    "rounds 2" ∷
    "split 2 3" ∷
    "merge 2 3" ∷
    "request 3 inc \"b\" -1" ∷
    "gather" ∷
    "deliver 3 1" ∷
    "deliver 2 2" ∷
    "gather" ∷
    "deliver 3 2" ∷
    "deliver 2 1" ∷
    "gather" ∷
    "gather" ∷
    "split 2 3" ∷
    "merge 1 2 3" ∷
    "rounds 3" ∷
    "gather" ∷
    "split 2 3" ∷
    "split 1" ∷
    "merge 1" ∷
    "merge 2 3" ∷
    "request 2 inc \"b\" -2 ? get \"y\"" ∷
    "split 1" ∷
    "split 2 3" ∷
    "merge 1 2 3" ∷
    "gather" ∷
    "gather" ∷
    "gather" ∷
    "gather" ∷
    "gather" ∷
    "end" ∷
    [])
    ≡ written (
    "= 1" ∷
    "1 NonPrim - g0 w0 p0@0{1,2,3} a0 v- y- r[] o[] x{} b0" ∷
    "2 NonPrim - g0 w0 p0@0{1,2,3} a0 v- y- r[] o[] x{} b0" ∷
    "3 NonPrim - g0 w0 p0@0{1,2,3} a0 v- y- r[] o[] x{} b0" ∷
    "= 2" ∷
    "1 ExchangeStates c1 g0 w0 p0@0{1,2,3} a0 v- y- r[] o[] x{} b0" ∷
    "2 ExchangeStates c1 g0 w0 p0@0{1,2,3} a0 v- y- r[] o[] x{} b0" ∷
    "3 ExchangeStates c1 g0 w0 p0@0{1,2,3} a0 v- y- r[] o[] x{} b0" ∷
    "= 4" ∷
    "1 Construct c1 g0 w0 p0@0{1,2,3} a1 v1/0{1,2,3}{1} y- r[] o[] x{} b0" ∷
    "= 5" ∷
    "2 Construct c1 g0 w0 p0@0{1,2,3} a1 v1/0{1,2,3}{2} y- r[] o[] x{} b0" ∷
    "= 6" ∷
    "3 Construct c1 g0 w0 p0@0{1,2,3} a1 v1/0{1,2,3}{3} y- r[] o[] x{} b0" ∷
    "= 8" ∷
    "1 RegPrim c1 g0 w0 p1@1{1,2,3} a0 v1/0{1,2,3}{1} y- r[] o[] x{} b0" ∷
    "= 9" ∷
    "2 RegPrim c1 g0 w0 p1@1{1,2,3} a0 v1/0{1,2,3}{2} y- r[] o[] x{} b0" ∷
    "= 10" ∷
    "3 RegPrim c1 g0 w0 p1@1{1,2,3} a0 v1/0{1,2,3}{3} y- r[] o[] x{} b0" ∷
    "= 11" ∷
    "1 TransPrim t1 g0 w0 p1@1{1,2,3} a0 v1/0{1,2,3}{1} y- r[] o[] x{} b0" ∷
    "= 12" ∷
    "2 TransPrim t1 g0 w0 p1@1{1,2,3} a0 v1/0{1,2,3}{2} y- r[] o[] x{} b0" ∷
    "3 TransPrim t1 g0 w0 p1@1{1,2,3} a0 v1/0{1,2,3}{3} y- r[] o[] x{} b0" ∷
    "= 13" ∷
    "2 ExchangeStates c2 g0 w0 p1@1{1,2,3} a0 v- y![] r[] o[] x{} b0" ∷
    "3 ExchangeStates c2 g0 w0 p1@1{1,2,3} a0 v- y![] r[] o[] x{} b0" ∷
    "= 14" ∷
    "1 ExchangeStates c3 g0 w0 p1@1{1,2,3} a0 v- y![] r[] o[] x{} b0" ∷
    "= 15" ∷
    "1 NonPrim t3 g0 w0 p1@1{1,2,3} a0 v- y![] r[] o[] x{} b0" ∷
    "= 17" ∷
    "2 Construct c2 g0 w0 p1@1{1,2,3} a1 v2/1{2,3}{2} y![] r[] o[] x{} b0" ∷
    "= 18" ∷
    "3 Construct c2 g0 w0 p1@1{1,2,3} a1 v2/1{2,3}{3} y![] r[] o[] x{} b0" ∷
    "= 19" ∷
    "1 NonPrim t3 g0 w0 p1@1{1,2,3} a0 v- y![] r[] o[] x{} b1" ∷
    "= 20" ∷
    "1 NonPrim t3 g0 w0 p1@1{1,2,3} a0 v- y![] r[] o[] x{} b2" ∷
    "= 23" ∷
    "2 RegPrim c2 g0 w0 p2@2{2,3} a0 v2/1{2,3}{2} y- r[] o[] x{} b0" ∷
    "= 24" ∷
    "3 RegPrim c2 g0 w0 p2@2{2,3} a0 v2/1{2,3}{3} y- r[] o[] x{} b0" ∷
    "= 26" ∷
    "2 TransPrim t2 g0 w0 p2@2{2,3} a0 v2/1{2,3}{2} y- r[] o[] x{} b0" ∷
    "3 TransPrim t2 g0 w0 p2@2{2,3} a0 v2/1{2,3}{3} y- r[] o[] x{} b0" ∷
    "= 27" ∷
    "2 ExchangeStates c4 g0 w0 p2@2{2,3} a0 v- y![] r[] o[] x{} b0" ∷
    "3 ExchangeStates c4 g0 w0 p2@2{2,3} a0 v- y![] r[] o[] x{} b0" ∷
    "= 28" ∷
    "3 ExchangeStates c4 g0 w0 p2@2{2,3} a0 v- y![] r[] o[] x{} b1" ∷
    "= 31" ∷
    "2 Construct c4 g0 w0 p2@2{2,3} a1 v4/2{2,3}{2} y![] r[] o[] x{} b0" ∷
    "= 33" ∷
    "3 Construct c4 g0 w0 p2@2{2,3} a1 v4/2{2,3}{3} y![] r[] o[] x{} b1" ∷
    "= 37" ∷
    "2 Un t4 g0 w0 p2@2{2,3} a1 v4/2{2,3}{2} y![] r[] o[] x{} b0" ∷
    "3 Un t4 g0 w0 p2@2{2,3} a1 v4/2{2,3}{3} y![] r[] o[] x{} b1" ∷
    "= 38" ∷
    "1 ExchangeStates c5 g0 w0 p1@1{1,2,3} a0 v- y![] r[] o[] x{} b2" ∷
    "2 ExchangeStates c5 g0 w0 p2@2{2,3} a1 v4/2{2,3}{2} y![] r[] o[] x{} b0" ∷
    "3 ExchangeStates c5 g0 w0 p2@2{2,3} a1 v4/2{2,3}{3} y![] r[] o[] x{} b1" ∷
    "= 40" ∷
    "1 Construct c5 g0 w0 p2@2{2,3} a2 v5/2{1,2,3}{1} y![] r[] o[] x{} b2" ∷
    "= 41" ∷
    "2 Construct c5 g0 w0 p2@2{2,3} a2 v5/2{1,2,3}{2} y![] r[] o[] x{} b0" ∷
    "= 42" ∷
    "3 Construct c5 g0 w0 p2@2{2,3} a2 v5/2{1,2,3}{3} y![] r[] o[] x{} b1" ∷
    "= 44" ∷
    "made 1:1 del \"a\"" ∷
    "made 1:2 ? get \"a\"" ∷
    "1 RegPrim c5 g0 w0 p3@5{1,2,3} a0 v5/2{1,2,3}{1} y- r[] o[1:1,1:2] x{} b0" ∷
    "= 45" ∷
    "2 RegPrim c5 g0 w0 p3@5{1,2,3} a0 v5/2{1,2,3}{2} y- r[] o[] x{} b0" ∷
    "= 46" ∷
    "made 3:1 inc \"b\" -1" ∷
    "3 RegPrim c5 g0 w0 p3@5{1,2,3} a0 v5/2{1,2,3}{3} y- r[] o[3:1] x{} b0" ∷
    "= 48" ∷
    "order 1 1:1" ∷
    "order 2 1:2" ∷
    "order 3 3:1" ∷
    "1 RegPrim c5 g3 w0 p3@5{1,2,3} a0 v5/2{1,2,3}{1} y- r[] o[] x{} b0" ∷
    "reply 1:1 done" ∷
    "reply 1:2 done ? absent" ∷
    "= 49" ∷
    "2 RegPrim c5 g3 w0 p3@5{1,2,3} a0 v5/2{1,2,3}{2} y- r[] o[] x{} b0" ∷
    "= 50" ∷
    "3 RegPrim c5 g3 w0 p3@5{1,2,3} a0 v5/2{1,2,3}{3} y- r[] o[] x{} b0" ∷
    "reply 3:1 done" ∷
    "= 52" ∷
    "2 TransPrim t5 g3 w0 p3@5{1,2,3} a0 v5/2{1,2,3}{2} y- r[] o[] x{} b0" ∷
    "3 TransPrim t5 g3 w0 p3@5{1,2,3} a0 v5/2{1,2,3}{3} y- r[] o[] x{} b0" ∷
    "= 53" ∷
    "1 TransPrim t5 g3 w0 p3@5{1,2,3} a0 v5/2{1,2,3}{1} y- r[] o[] x{} b0" ∷
    "= 54" ∷
    "1 ExchangeStates c6 g3 w0 p3@5{1,2,3} a0 v- y![] r[] o[] x{} b0" ∷
    "= 55" ∷
    "2 ExchangeStates c7 g3 w0 p3@5{1,2,3} a0 v- y![] r[] o[] x{} b0" ∷
    "3 ExchangeStates c7 g3 w0 p3@5{1,2,3} a0 v- y![] r[] o[] x{} b0" ∷
    "= 56" ∷
    "2 ExchangeStates c7 g3 w0 p3@5{1,2,3} a0 v- y![] r[] o[] x{} b1" ∷
    "= 57" ∷
    "1 NonPrim t6 g3 w0 p3@5{1,2,3} a0 v- y![] r[] o[] x{} b0" ∷
    "= 58" ∷
    "2 NonPrim t7 g3 w0 p3@5{1,2,3} a0 v- y![] r[] o[] x{} b1" ∷
    "3 NonPrim t7 g3 w0 p3@5{1,2,3} a0 v- y![] r[] o[] x{} b0" ∷
    "= 59" ∷
    "1 ExchangeStates c8 g3 w0 p3@5{1,2,3} a0 v- y![] r[] o[] x{} b0" ∷
    "2 ExchangeStates c8 g3 w0 p3@5{1,2,3} a0 v- y![] r[] o[] x{} b1" ∷
    "3 ExchangeStates c8 g3 w0 p3@5{1,2,3} a0 v- y![] r[] o[] x{} b0" ∷
    "end 64" ∷
    [])
unfolding cases_compute
three_replicas_several_primaries_a = refl

-- Replicas at the start: 3: several primaries follow one another; a server that was removed is told so; a snapshot is handed on in pieces.
three_replicas_several_primaries_leaver_joiner_a_from_discarding :
    replayed_text (
    "start 1 2 3" ∷
    "merge 1 2 3" ∷
    "rounds 3" ∷
    "gather" ∷
    "leave 1 1" ∷
    "order 1" ∷
    "rounds 3" ∷
    "request 2 need \"b\" absent" ∷
    "rounds 1" ∷
    "stop 1 9 01" ∷
    "split 1 2 3" ∷
    "merge 1 2 3" ∷
    "leave 3 1" ∷
    "rounds 3" ∷
    "request 2 put \"b\" \"; ? #\"" ∷
    "order 2" ∷
    "receive 3 7" ∷
    "split 1" ∷
    "split 3" ∷
    "request 2 inc \"a\" 2" ∷
    "request 3 move \"b\" \"a\" 1" ∷
    "leave 2 2" ∷
    "join 2 4" ∷
    "rounds 1" ∷
    "rounds 1" ∷
    "rounds 3" ∷
    "request 2 inc \"y\" -3" ∷
    "rounds 2" ∷
    "join 3 20" ∷
    "rounds 2" ∷
    "split 2" ∷
    "merge 2 3" ∷
    "rounds 1" ∷
    "rounds 1" ∷
    "rounds 1" ∷
    "transfer 3 4 100" ∷
    "request 3 inc \"a\" -2; need \"k1\" 32" ∷
    "split 2 3" ∷
    "merge 2 3" ∷
    "request 2 del \"z\" ? get \"x\"" ∷
    "rounds 2" ∷
    "request 4 put \"k1\" 81" ∷
    "leave 3 20" ∷
    "request 3 put \"y\" 85; del \"b\"; put \"z\" 16; del \"x\"; inc \"a\" 7; inc \"z\" 7; inc \"abc\" -3; cas \"x\" 98 8; cas \"a\" absent -9223372036854775808; cas \"y\" absent 50; inc \"b\" 2; inc \"a\" 9; need \"x\" absent; put \"z\" 58; need \"z\" -7; put \"a\" -9223372036854775808" ∷
    "request 4 put \"x\" 70; need \"b\" absent" ∷
    "request 3 put \"b\" 77" ∷
    "order 3" ∷
    "end" ∷
    [])
    ≡ written (
    "= 1" ∷
    "1 NonPrim - g0 w0 p0@0{1,2,3} a0 v- y- r[] o[] x{} b0" ∷
    "2 NonPrim - g0 w0 p0@0{1,2,3} a0 v- y- r[] o[] x{} b0" ∷
    "3 NonPrim - g0 w0 p0@0{1,2,3} a0 v- y- r[] o[] x{} b0" ∷
    "= 2" ∷
    "1 ExchangeStates c1 g0 w0 p0@0{1,2,3} a0 v- y- r[] o[] x{} b0" ∷
    "2 ExchangeStates c1 g0 w0 p0@0{1,2,3} a0 v- y- r[] o[] x{} b0" ∷
    "3 ExchangeStates c1 g0 w0 p0@0{1,2,3} a0 v- y- r[] o[] x{} b0" ∷
    "= 4" ∷
    "1 Construct c1 g0 w0 p0@0{1,2,3} a1 v1/0{1,2,3}{1} y- r[] o[] x{} b0" ∷
    "= 5" ∷
    "2 Construct c1 g0 w0 p0@0{1,2,3} a1 v1/0{1,2,3}{2} y- r[] o[] x{} b0" ∷
    "= 6" ∷
    "3 Construct c1 g0 w0 p0@0{1,2,3} a1 v1/0{1,2,3}{3} y- r[] o[] x{} b0" ∷
    "= 8" ∷
    "1 RegPrim c1 g0 w0 p1@1{1,2,3} a0 v1/0{1,2,3}{1} y- r[] o[] x{} b0" ∷
    "= 9" ∷
    "2 RegPrim c1 g0 w0 p1@1{1,2,3} a0 v1/0{1,2,3}{2} y- r[] o[] x{} b0" ∷
    "= 10" ∷
    "3 RegPrim c1 g0 w0 p1@1{1,2,3} a0 v1/0{1,2,3}{3} y- r[] o[] x{} b0" ∷
    "= 13" ∷
    "made 1:1 leave 1" ∷
    "1 RegPrim c1 g0 w0 p1@1{1,2,3} a0 v1/0{1,2,3}{1} y- r[] o[1:1] x{} b0" ∷
    "= 16" ∷
    "order 1 1:1" ∷
    "1 RegPrim c1 g1 w0 p1@1{1,2,3} a0 v1/0{1,2,3}{1} y- r[] o[] x{1} b0" ∷
    "reply 1:1 done" ∷
    "= 17" ∷
    "2 RegPrim c1 g1 w0 p1@1{1,2,3} a0 v1/0{1,2,3}{2} y- r[] o[] x{1} b0" ∷
    "= 18" ∷
    "3 RegPrim c1 g1 w0 p1@1{1,2,3} a0 v1/0{1,2,3}{3} y- r[] o[] x{1} b0" ∷
    "= 21" ∷
    "made 2:1 need \"b\" absent" ∷
    "2 RegPrim c1 g1 w0 p1@1{1,2,3} a0 v1/0{1,2,3}{2} y- r[] o[2:1] x{1} b0" ∷
    "= 23" ∷
    "order 2 2:1" ∷
    "1 RegPrim c1 g2 w0 p1@1{1,2,3} a0 v1/0{1,2,3}{1} y- r[] o[] x{1} b0" ∷
    "= 24" ∷
    "2 RegPrim c1 g2 w0 p1@1{1,2,3} a0 v1/0{1,2,3}{2} y- r[] o[] x{1} b0" ∷
    "reply 2:1 done" ∷
    "= 25" ∷
    "3 RegPrim c1 g2 w0 p1@1{1,2,3} a0 v1/0{1,2,3}{3} y- r[] o[] x{1} b0" ∷
    "= 27" ∷
    "1 TransPrim t1 g2 w0 p1@1{1,2,3} a0 v1/0{1,2,3}{1} y- r[] o[] x{1} b0" ∷
    "2 TransPrim t1 g2 w0 p1@1{1,2,3} a0 v1/0{1,2,3}{2} y- r[] o[] x{1} b0" ∷
    "3 TransPrim t1 g2 w0 p1@1{1,2,3} a0 v1/0{1,2,3}{3} y- r[] o[] x{1} b0" ∷
    "= 28" ∷
    "1 ExchangeStates c2 g2 w0 p1@1{1,2,3} a0 v- y![] r[] o[] x{1} b0" ∷
    "2 ExchangeStates c2 g2 w0 p1@1{1,2,3} a0 v- y![] r[] o[] x{1} b0" ∷
    "3 ExchangeStates c2 g2 w0 p1@1{1,2,3} a0 v- y![] r[] o[] x{1} b0" ∷
    "= 29" ∷
    "3 ExchangeStates c2 g2 w0 p1@1{1,2,3} a0 v- y![] r[] o[] x{1} b1" ∷
    "= 31" ∷
    "1 Left c2 g2 w0 p1@1{1,2,3} a0 v- y![] r[] o[] x{1} b0" ∷
    "= 32" ∷
    "2 Construct c2 g2 w0 p1@1{1,2,3} a1 v2/1{2,3}{2} y![] r[] o[] x{1} b0" ∷
    "= 33" ∷
    "3 Construct c2 g2 w0 p1@1{1,2,3} a1 v2/1{2,3}{3} y![] r[] o[] x{1} b1" ∷
    "= 36" ∷
    "2 RegPrim c2 g2 w0 p2@2{2,3} a0 v2/1{2,3}{2} y- r[] o[] x{1} b0" ∷
    "= 37" ∷
    "made 3:1 leave 1" ∷
    "3 RegPrim c2 g2 w0 p2@2{2,3} a0 v2/1{2,3}{3} y- r[] o[3:1] x{1} b0" ∷
    "= 40" ∷
    "order 3 3:1" ∷
    "2 RegPrim c2 g3 w1 p2@2{2,3} a0 v2/1{2,3}{2} y- r[] o[] x{1} b0" ∷
    "= 41" ∷
    "3 RegPrim c2 g3 w1 p2@2{2,3} a0 v2/1{2,3}{3} y- r[] o[] x{1} b0" ∷
    "reply 3:1 done" ∷
    "= 42" ∷
    "made 2:2 put \"b\" \"; ? #\"" ∷
    "2 RegPrim c2 g3 w1 p2@2{2,3} a0 v2/1{2,3}{2} y- r[] o[2:2] x{1} b0" ∷
    "= 45" ∷
    "1 Left t2 g2 w0 p1@1{1,2,3} a0 v- y![] r[] o[] x{1} b0" ∷
    "= 46" ∷
    "3 TransPrim t2 g3 w1 p2@2{2,3} a0 v2/1{2,3}{3} y?[2:2] r[] o[] x{1} b0" ∷
    "= 47" ∷
    "made 2:3 inc \"a\" 2" ∷
    "2 RegPrim c2 g3 w1 p2@2{2,3} a0 v2/1{2,3}{2} y- r[] o[2:2,2:3] x{1} b0" ∷
    "= 48" ∷
    "3 TransPrim t2 g3 w1 p2@2{2,3} a0 v2/1{2,3}{3} y?[2:2] r[] o[] x{1} b1" ∷
    "= 49" ∷
    "made 2:4 leave 2" ∷
    "2 RegPrim c2 g3 w1 p2@2{2,3} a0 v2/1{2,3}{2} y- r[] o[2:2,2:3,2:4] x{1} b0" ∷
    "= 50" ∷
    "made 2:5 join 4" ∷
    "2 RegPrim c2 g3 w1 p2@2{2,3} a0 v2/1{2,3}{2} y- r[] o[2:2,2:3,2:4,2:5] x{1} b0" ∷
    "= 56" ∷
    "made 2:6 inc \"y\" -3" ∷
    "2 RegPrim c2 g3 w1 p2@2{2,3} a0 v2/1{2,3}{2} y- r[] o[2:2,2:3,2:4,2:5,2:6] x{1} b0" ∷
    "= 59" ∷
    "3 TransPrim t2 g3 w1 p2@2{2,3} a0 v2/1{2,3}{3} y?[2:2] r[] o[] x{1} b2" ∷
    "= 62" ∷
    "2 TransPrim t2 g3 w1 p2@2{2,3} a0 v2/1{2,3}{2} y?[2:2,2:3,2:4,2:5,2:6] r[] o[] x{1} b0" ∷
    "= 63" ∷
    "2 ExchangeStates c3 g3 w1 p2@2{2,3} a0 v- y![2:2,2:3,2:4,2:5,2:6] r[] o[] x{1} b0" ∷
    "3 ExchangeStates c3 g3 w1 p2@2{2,3} a0 v- y![2:2] r[] o[] x{1} b2" ∷
    "= 65" ∷
    "2 ExchangeActions c3 g3 w1 p2@2{2,3} a0 v- y![2:2,2:3,2:4,2:5,2:6] r[] o[] x{1} b0" ∷
    "= 66" ∷
    "3 ExchangeActions c3 g3 w1 p2@2{2,3} a0 v- y![2:2] r[] o[] x{1} b2" ∷
    "= 68" ∷
    "2 Construct c3 g3 w1 p2@2{2,3} a1 v3/2{2,3}{2} y![2:2] r[2:3,2:4,2:5,2:6] o[] x{1} b0" ∷
    "= 69" ∷
    "3 Construct c3 g3 w1 p2@2{2,3} a1 v3/2{2,3}{3} y![2:2] r[2:3,2:4,2:5,2:6] o[] x{1} b2" ∷
    "= 71" ∷
    "order 4 2:2" ∷
    "order 5 2:3" ∷
    "order 6 2:4" ∷
    "order 7 2:5" ∷
    "order 8 2:6" ∷
    "2 RegPrim c3 g8 w2 p3@3{2,3} a0 v3/2{2,3}{2} y- r[] o[] x{1,2} b0" ∷
    "reply 2:2 done" ∷
    "reply 2:3 done" ∷
    "reply 2:4 done" ∷
    "reply 2:5 done" ∷
    "reply 2:6 done" ∷
    "= 72" ∷
    "made 3:2 move \"b\" \"a\" 1" ∷
    "made 3:3 join 20" ∷
    "3 RegPrim c3 g8 w2 p3@3{2,3} a0 v3/2{2,3}{3} y- r[] o[3:2,3:3] x{1,2} b0" ∷
    "= 73" ∷
    "4 NonPrim - g8 w2 p3@3{2,3} a0 v- y- r[] o[] x{1,2} b0" ∷
    "pieces 4 11/11" ∷
    "= 74" ∷
    "made 3:4 inc \"a\" -2; need \"k1\" 32" ∷
    "3 RegPrim c3 g8 w2 p3@3{2,3} a0 v3/2{2,3}{3} y- r[] o[3:2,3:3,3:4] x{1,2} b0" ∷
    "= 75" ∷
    "2 TransPrim t3 g8 w2 p3@3{2,3} a0 v3/2{2,3}{2} y- r[] o[] x{1,2} b0" ∷
    "3 TransPrim t3 g8 w2 p3@3{2,3} a0 v3/2{2,3}{3} y- r[] o[3:2,3:3,3:4] x{1,2} b0" ∷
    "= 76" ∷
    "2 ExchangeStates c4 g8 w2 p3@3{2,3} a0 v- y![] r[] o[] x{1,2} b0" ∷
    "3 ExchangeStates c4 g8 w2 p3@3{2,3} a0 v- y![] r[3:2,3:3,3:4] o[] x{1,2} b0" ∷
    "= 77" ∷
    "2 ExchangeStates c4 g8 w2 p3@3{2,3} a0 v- y![] r[] o[] x{1,2} b1" ∷
    "= 79" ∷
    "2 Left c4 g8 w2 p3@3{2,3} a0 v- y![] r[] o[] x{1,2} b0" ∷
    "= 80" ∷
    "3 NonPrim c4 g8 w2 p3@3{2,3} a0 v- y![] r[3:2,3:3,3:4] o[] x{1,2} b0" ∷
    "= 82" ∷
    "4 NonPrim - g8 w2 p3@3{2,3} a0 v- y- r[] o[] x{1,2} b1" ∷
    "= 83" ∷
    "made 3:5 leave 20" ∷
    "3 NonPrim c4 g8 w2 p3@3{2,3} a0 v- y![] r[3:2,3:3,3:4] o[3:5] x{1,2} b0" ∷
    "= 84" ∷
    "made 3:6 put \"y\" 85; del \"b\"; put \"z\" 16; del \"x\"; inc \"a\" 7; inc \"z\" 7; inc \"abc\" -3; cas \"x\" 98 8; cas \"a\" absent -9223372036854775808; cas \"y\" absent 50; inc \"b\" 2; inc \"a\" 9; need \"x\" absent; put \"z\" 58; need \"z\" -7; put \"a\" -9223372036854775808" ∷
    "3 NonPrim c4 g8 w2 p3@3{2,3} a0 v- y![] r[3:2,3:3,3:4] o[3:5,3:6] x{1,2} b0" ∷
    "= 85" ∷
    "4 NonPrim - g8 w2 p3@3{2,3} a0 v- y- r[] o[] x{1,2} b2" ∷
    "= 86" ∷
    "made 3:7 put \"b\" 77" ∷
    "3 NonPrim c4 g8 w2 p3@3{2,3} a0 v- y![] r[3:2,3:3,3:4] o[3:5,3:6,3:7] x{1,2} b0" ∷
    "end 87" ∷
    [])
unfolding cases_compute
three_replicas_several_primaries_leaver_joiner_a_from_discarding = refl

-- Replicas at the start: 3: yellow actions pass through an exchange.
three_replicas_yellow_actions_a :
    replayed_text (
    "start 1 2 3" ∷
    "merge 1 2 3" ∷
    "rounds 2" ∷
    "rounds 3" ∷
    "request 3 cas \"x\" 34 94" ∷
    "gather" ∷
    "deliver 2 1" ∷
    "split 3" ∷
    "merge 3" ∷
    "request 2 del \"x\"" ∷
    "deliver 1 1" ∷
    "request 1 inc \"y\" 7 ? get \"y\"" ∷
    "gather" ∷
    "deliver 3 1" ∷
    "show 1" ∷
    "gather" ∷
    "gather" ∷
    "split 2" ∷
    "merge 2" ∷
    "gather" ∷
    "deliver 2 1" ∷
    "request 2 put \"a\" \"hi\" ? keys \"\"" ∷
    "request 2 put \"a\" 42 ? count" ∷
    "gather" ∷
    "split 1" ∷
    "merge 1" ∷
    "request 3 need \"b\" -9223372036854775807; cas \"x\" 19 34; cas \"b\" absent 39" ∷
    "request 1 ? get \"y\"" ∷
    "gather" ∷
    "end" ∷
    [])
    ≡ written (
    "= 1" ∷
    "1 NonPrim - g0 w0 p0@0{1,2,3} a0 v- y- r[] o[] x{} b0" ∷
    "2 NonPrim - g0 w0 p0@0{1,2,3} a0 v- y- r[] o[] x{} b0" ∷
    "3 NonPrim - g0 w0 p0@0{1,2,3} a0 v- y- r[] o[] x{} b0" ∷
    "= 2" ∷
    "1 ExchangeStates c1 g0 w0 p0@0{1,2,3} a0 v- y- r[] o[] x{} b0" ∷
    "2 ExchangeStates c1 g0 w0 p0@0{1,2,3} a0 v- y- r[] o[] x{} b0" ∷
    "3 ExchangeStates c1 g0 w0 p0@0{1,2,3} a0 v- y- r[] o[] x{} b0" ∷
    "= 4" ∷
    "1 Construct c1 g0 w0 p0@0{1,2,3} a1 v1/0{1,2,3}{1} y- r[] o[] x{} b0" ∷
    "= 5" ∷
    "2 Construct c1 g0 w0 p0@0{1,2,3} a1 v1/0{1,2,3}{2} y- r[] o[] x{} b0" ∷
    "= 6" ∷
    "3 Construct c1 g0 w0 p0@0{1,2,3} a1 v1/0{1,2,3}{3} y- r[] o[] x{} b0" ∷
    "= 8" ∷
    "1 RegPrim c1 g0 w0 p1@1{1,2,3} a0 v1/0{1,2,3}{1} y- r[] o[] x{} b0" ∷
    "= 9" ∷
    "2 RegPrim c1 g0 w0 p1@1{1,2,3} a0 v1/0{1,2,3}{2} y- r[] o[] x{} b0" ∷
    "= 10" ∷
    "3 RegPrim c1 g0 w0 p1@1{1,2,3} a0 v1/0{1,2,3}{3} y- r[] o[] x{} b0" ∷
    "= 14" ∷
    "made 3:1 cas \"x\" 34 94" ∷
    "3 RegPrim c1 g0 w0 p1@1{1,2,3} a0 v1/0{1,2,3}{3} y- r[] o[3:1] x{} b0" ∷
    "= 16" ∷
    "order 1 3:1" ∷
    "2 RegPrim c1 g1 w0 p1@1{1,2,3} a0 v1/0{1,2,3}{2} y- r[] o[] x{} b0" ∷
    "= 17" ∷
    "3 TransPrim t1 g0 w0 p1@1{1,2,3} a0 v1/0{1,2,3}{3} y?[3:1] r[] o[] x{} b0" ∷
    "= 18" ∷
    "3 ExchangeStates c2 g0 w0 p1@1{1,2,3} a0 v- y![3:1] r[] o[] x{} b0" ∷
    "= 19" ∷
    "made 2:1 del \"x\"" ∷
    "2 RegPrim c1 g1 w0 p1@1{1,2,3} a0 v1/0{1,2,3}{2} y- r[] o[2:1] x{} b0" ∷
    "= 20" ∷
    "1 RegPrim c1 g1 w0 p1@1{1,2,3} a0 v1/0{1,2,3}{1} y- r[] o[] x{} b0" ∷
    "= 21" ∷
    "made 1:1 inc \"y\" 7 ? get \"y\"" ∷
    "1 RegPrim c1 g1 w0 p1@1{1,2,3} a0 v1/0{1,2,3}{1} y- r[] o[1:1] x{} b0" ∷
    "= 23" ∷
    "3 NonPrim c2 g0 w0 p1@1{1,2,3} a0 v- y![3:1] r[] o[] x{} b0" ∷
    "= 24" ∷
    "greens 1 [3:1]" ∷
    "db 1" ∷
    "= 27" ∷
    "2 TransPrim t1 g1 w0 p1@1{1,2,3} a0 v1/0{1,2,3}{2} y?[1:1,2:1] r[] o[] x{} b0" ∷
    "= 28" ∷
    "2 ExchangeStates c3 g1 w0 p1@1{1,2,3} a0 v- y![1:1,2:1] r[] o[] x{} b0" ∷
    "= 30" ∷
    "2 NonPrim c3 g1 w0 p1@1{1,2,3} a0 v- y![1:1,2:1] r[] o[] x{} b0" ∷
    "= 31" ∷
    "made 2:2 put \"a\" \"hi\" ? keys \"\"" ∷
    "2 NonPrim c3 g1 w0 p1@1{1,2,3} a0 v- y![1:1,2:1] r[] o[2:2] x{} b0" ∷
    "= 32" ∷
    "made 2:3 put \"a\" 42 ? count" ∷
    "2 NonPrim c3 g1 w0 p1@1{1,2,3} a0 v- y![1:1,2:1] r[] o[2:2,2:3] x{} b0" ∷
    "= 34" ∷
    "1 TransPrim t1 g1 w0 p1@1{1,2,3} a0 v1/0{1,2,3}{1} y?[1:1,2:1] r[] o[] x{} b0" ∷
    "= 35" ∷
    "1 ExchangeStates c4 g1 w0 p1@1{1,2,3} a0 v- y![1:1,2:1] r[] o[] x{} b0" ∷
    "= 36" ∷
    "made 3:2 need \"b\" -9223372036854775807; cas \"x\" 19 34; cas \"b\" absent 39" ∷
    "3 NonPrim c2 g0 w0 p1@1{1,2,3} a0 v- y![3:1] r[] o[3:2] x{} b0" ∷
    "= 37" ∷
    "1 ExchangeStates c4 g1 w0 p1@1{1,2,3} a0 v- y![1:1,2:1] r[] o[] x{} b1" ∷
    "end 38" ∷
    [])
unfolding cases_compute
three_replicas_yellow_actions_a = refl

-- Replicas at the start: 3: yellow actions pass through an exchange; a crash strikes inside a device call.
three_replicas_yellow_actions_crash_in_a_device_call_a :
    replayed_text (
    "start 20 23 24" ∷
    "merge 20 23 24" ∷
    "rounds 2" ∷
    "stop 24 8 -" ∷
    "request 20 inc \"z\" 6; cas \"y\" 60 68; inc \"x\" 6; del \"b\"" ∷
    "rounds 3" ∷
    "request 20 put \"ab\" -2" ∷
    "request 24 inc \"b\" 6 ? keys \"q\"" ∷
    "gather" ∷
    "request 20 need \"z\" absent; cas \"y\" absent -4; cas \"a\" \"; ? #\" -3; need \"y\" 14" ∷
    "request 20 inc \"y\" 6 ? get \"b\"" ∷
    "dirty 23 count" ∷
    "recover 24" ∷
    "stop 24 0 -" ∷
    "gather" ∷
    "gather" ∷
    "gather" ∷
    "gather" ∷
    "gather" ∷
    "split 20 23" ∷
    "merge 20 23" ∷
    "gather" ∷
    "deliver 23 2" ∷
    "gather" ∷
    "split 23" ∷
    "merge 23" ∷
    "order 23" ∷
    "show order" ∷
    "request 23 put \"a\" -2" ∷
    "fail 23 7" ∷
    "rounds 1" ∷
    "request 20 cas \"a\" 49 75" ∷
    "request 20 need \"ab\" 55" ∷
    "gather" ∷
    "deliver 23 1" ∷
    "split 20" ∷
    "merge 20" ∷
    "order 20" ∷
    "gather" ∷
    "deliver 20 1" ∷
    "rounds 1" ∷
    "rounds 3" ∷
    "gather" ∷
    "request 23 inc \"b\" 1" ∷
    "request 20 inc \"z\" 5" ∷
    "gather" ∷
    "deliver 20 1" ∷
    "end" ∷
    [])
    ≡ written (
    "= 1" ∷
    "20 NonPrim - g0 w0 p0@0{20,23,24} a0 v- y- r[] o[] x{} b0" ∷
    "23 NonPrim - g0 w0 p0@0{20,23,24} a0 v- y- r[] o[] x{} b0" ∷
    "24 NonPrim - g0 w0 p0@0{20,23,24} a0 v- y- r[] o[] x{} b0" ∷
    "= 2" ∷
    "20 ExchangeStates c1 g0 w0 p0@0{20,23,24} a0 v- y- r[] o[] x{} b0" ∷
    "23 ExchangeStates c1 g0 w0 p0@0{20,23,24} a0 v- y- r[] o[] x{} b0" ∷
    "24 ExchangeStates c1 g0 w0 p0@0{20,23,24} a0 v- y- r[] o[] x{} b0" ∷
    "= 4" ∷
    "20 Construct c1 g0 w0 p0@0{20,23,24} a1 v1/0{20,23,24}{20} y- r[] o[] x{} b0" ∷
    "= 5" ∷
    "23 Construct c1 g0 w0 p0@0{20,23,24} a1 v1/0{20,23,24}{23} y- r[] o[] x{} b0" ∷
    "= 6" ∷
    "24 Construct c1 g0 w0 p0@0{20,23,24} a1 v1/0{20,23,24}{24} y- r[] o[] x{} b0" ∷
    "= 8" ∷
    "20 RegPrim c1 g0 w0 p1@1{20,23,24} a0 v1/0{20,23,24}{20} y- r[] o[] x{} b0" ∷
    "= 9" ∷
    "23 RegPrim c1 g0 w0 p1@1{20,23,24} a0 v1/0{20,23,24}{23} y- r[] o[] x{} b0" ∷
    "= 10" ∷
    "24 RegPrim c1 g0 w0 p1@1{20,23,24} a0 v1/0{20,23,24}{24} y- r[] o[] x{} b0" ∷
    "= 12" ∷
    "made 20:1 inc \"z\" 6; cas \"y\" 60 68; inc \"x\" 6; del \"b\"" ∷
    "20 RegPrim c1 g0 w0 p1@1{20,23,24} a0 v1/0{20,23,24}{20} y- r[] o[20:1] x{} b0" ∷
    "= 14" ∷
    "order 1 20:1" ∷
    "20 RegPrim c1 g1 w0 p1@1{20,23,24} a0 v1/0{20,23,24}{20} y- r[] o[] x{} b0" ∷
    "reply 20:1 done" ∷
    "= 15" ∷
    "23 RegPrim c1 g1 w0 p1@1{20,23,24} a0 v1/0{20,23,24}{23} y- r[] o[] x{} b0" ∷
    "= 16" ∷
    "24 RegPrim c1 g1 w0 p1@1{20,23,24} a0 v1/0{20,23,24}{24} y- r[] o[] x{} b0" ∷
    "= 19" ∷
    "made 20:2 put \"ab\" -2" ∷
    "20 RegPrim c1 g1 w0 p1@1{20,23,24} a0 v1/0{20,23,24}{20} y- r[] o[20:2] x{} b0" ∷
    "= 20" ∷
    "24 Down" ∷
    "= 22" ∷
    "made 20:3 need \"z\" absent; cas \"y\" absent -4; cas \"a\" \"; ? #\" -3; need \"y\" 14" ∷
    "20 RegPrim c1 g1 w0 p1@1{20,23,24} a0 v1/0{20,23,24}{20} y- r[] o[20:2,20:3] x{} b0" ∷
    "= 23" ∷
    "made 20:4 inc \"y\" 6 ? get \"b\"" ∷
    "20 RegPrim c1 g1 w0 p1@1{20,23,24} a0 v1/0{20,23,24}{20} y- r[] o[20:2,20:3,20:4] x{} b0" ∷
    "= 24" ∷
    "dirty 23 count 2" ∷
    "= 25" ∷
    "24 NonPrim - g1 w0 p1@1{20,23,24} a0 v1/0{20,23,24}{24} y- r[] o[] x{} b0" ∷
    "= 26" ∷
    "24 Down" ∷
    "= 32" ∷
    "20 TransPrim t1 g1 w0 p1@1{20,23,24} a0 v1/0{20,23,24}{20} y?[20:2,20:3,20:4] r[] o[] x{} b0" ∷
    "23 TransPrim t1 g1 w0 p1@1{20,23,24} a0 v1/0{20,23,24}{23} y?[20:2,20:3,20:4] r[] o[] x{} b0" ∷
    "= 33" ∷
    "20 ExchangeStates c2 g1 w0 p1@1{20,23,24} a0 v- y![20:2,20:3,20:4] r[] o[] x{} b0" ∷
    "23 ExchangeStates c2 g1 w0 p1@1{20,23,24} a0 v- y![20:2,20:3,20:4] r[] o[] x{} b0" ∷
    "= 35" ∷
    "23 Construct c2 g1 w0 p1@1{20,23,24} a1 v2/1{20,23}{23} y![20:2,20:3,20:4] r[] o[] x{} b0" ∷
    "= 37" ∷
    "23 No t2 g1 w0 p1@1{20,23,24} a1 v2/1{20,23}{23} y![20:2,20:3,20:4] r[] o[] x{} b0" ∷
    "= 38" ∷
    "23 ExchangeStates c3 g1 w0 p1@1{20,23,24} a1 v- y![20:2,20:3,20:4] r[] o[] x{} b0" ∷
    "= 40" ∷
    "all [20:1]" ∷
    "= 41" ∷
    "23 ExchangeStates c3 g1 w0 p1@1{20,23,24} a1 v- y![20:2,20:3,20:4] r[] o[] x{} b1" ∷
    "= 44" ∷
    "20 Construct c2 g1 w0 p1@1{20,23,24} a1 v2/1{20,23}{20} y![20:2,20:3,20:4] r[] o[] x{} b0" ∷
    "= 45" ∷
    "made 23:1 put \"a\" -2" ∷
    "23 NonPrim c3 g1 w0 p1@1{20,23,24} a1 v- y![20:2,20:3,20:4] r[] o[23:1] x{} b0" ∷
    "= 46" ∷
    "20 Construct c2 g1 w0 p1@1{20,23,24} a1 v2/1{20,23}{20} y![20:2,20:3,20:4] r[] o[] x{} b1" ∷
    "= 47" ∷
    "20 Construct c2 g1 w0 p1@1{20,23,24} a1 v2/1{20,23}{20} y![20:2,20:3,20:4] r[] o[] x{} b2" ∷
    "= 49" ∷
    "23 NonPrim c3 g1 w0 p1@1{20,23,24} a1 v- y![20:2,20:3,20:4] r[23:1] o[] x{} b0" ∷
    "= 50" ∷
    "20 Un t2 g1 w0 p1@1{20,23,24} a1 v2/1{20,23}{20} y![20:2,20:3,20:4] r[] o[] x{} b2" ∷
    "= 51" ∷
    "20 ExchangeStates c4 g1 w0 p1@1{20,23,24} a1 v2/1{20,23}{20} y![20:2,20:3,20:4] r[] o[] x{} b2" ∷
    "= 54" ∷
    "made 20:5 cas \"a\" 49 75" ∷
    "made 20:6 need \"ab\" 55" ∷
    "20 NonPrim c4 g1 w0 p1@1{20,23,24} a1 v2/1{20,23}{20} y![20:2,20:3,20:4] r[] o[20:5,20:6] x{} b0" ∷
    "= 56" ∷
    "20 NonPrim c4 g1 w0 p1@1{20,23,24} a1 v2/1{20,23}{20} y![20:2,20:3,20:4] r[20:5,20:6] o[] x{} b0" ∷
    "= 61" ∷
    "23 Down" ∷
    "= 62" ∷
    "made 20:7 inc \"z\" 5" ∷
    "20 NonPrim c4 g1 w0 p1@1{20,23,24} a1 v2/1{20,23}{20} y![20:2,20:3,20:4] r[20:5,20:6] o[20:7] x{} b0" ∷
    "= 64" ∷
    "20 NonPrim c4 g1 w0 p1@1{20,23,24} a1 v2/1{20,23}{20} y![20:2,20:3,20:4] r[20:5,20:6,20:7] o[] x{} b0" ∷
    "end 64" ∷
    [])
unfolding cases_compute
three_replicas_yellow_actions_crash_in_a_device_call_a = refl

-- Of members with equal green counts the lowest is the most updated.
tie_of_green_counts_goes_to_the_lowest_a :
    replayed_text (
    "start 6 7 19 28 31" ∷
    "merge 6 28 31" ∷
    "merge 7 19" ∷
    "request 28 put \"k1\" 9223372036854775806" ∷
    "rounds 3" ∷
    "split 6 28" ∷
    "split 7 19" ∷
    "merge 6 7 19 28" ∷
    "gather" ∷
    "deliver 28 1" ∷
    "deliver 28 3" ∷
    "rounds 2" ∷
    "end" ∷
    [])
    ≡ written (
    "= 1" ∷
    "6 NonPrim - g0 w0 p0@0{6,7,19,28,31} a0 v- y- r[] o[] x{} b0" ∷
    "7 NonPrim - g0 w0 p0@0{6,7,19,28,31} a0 v- y- r[] o[] x{} b0" ∷
    "19 NonPrim - g0 w0 p0@0{6,7,19,28,31} a0 v- y- r[] o[] x{} b0" ∷
    "28 NonPrim - g0 w0 p0@0{6,7,19,28,31} a0 v- y- r[] o[] x{} b0" ∷
    "31 NonPrim - g0 w0 p0@0{6,7,19,28,31} a0 v- y- r[] o[] x{} b0" ∷
    "= 2" ∷
    "6 ExchangeStates c1 g0 w0 p0@0{6,7,19,28,31} a0 v- y- r[] o[] x{} b0" ∷
    "28 ExchangeStates c1 g0 w0 p0@0{6,7,19,28,31} a0 v- y- r[] o[] x{} b0" ∷
    "31 ExchangeStates c1 g0 w0 p0@0{6,7,19,28,31} a0 v- y- r[] o[] x{} b0" ∷
    "= 3" ∷
    "7 ExchangeStates c2 g0 w0 p0@0{6,7,19,28,31} a0 v- y- r[] o[] x{} b0" ∷
    "19 ExchangeStates c2 g0 w0 p0@0{6,7,19,28,31} a0 v- y- r[] o[] x{} b0" ∷
    "= 4" ∷
    "28 ExchangeStates c1 g0 w0 p0@0{6,7,19,28,31} a0 v- y- r[] o[] x{} b1" ∷
    "= 6" ∷
    "6 Construct c1 g0 w0 p0@0{6,7,19,28,31} a1 v1/0{6,28,31}{6} y- r[] o[] x{} b0" ∷
    "= 7" ∷
    "7 NonPrim c2 g0 w0 p0@0{6,7,19,28,31} a0 v- y- r[] o[] x{} b0" ∷
    "= 8" ∷
    "19 NonPrim c2 g0 w0 p0@0{6,7,19,28,31} a0 v- y- r[] o[] x{} b0" ∷
    "= 9" ∷
    "28 Construct c1 g0 w0 p0@0{6,7,19,28,31} a1 v1/0{6,28,31}{28} y- r[] o[] x{} b1" ∷
    "= 10" ∷
    "31 Construct c1 g0 w0 p0@0{6,7,19,28,31} a1 v1/0{6,28,31}{31} y- r[] o[] x{} b0" ∷
    "= 12" ∷
    "6 RegPrim c1 g0 w0 p1@1{6,28,31} a0 v1/0{6,28,31}{6} y- r[] o[] x{} b0" ∷
    "= 13" ∷
    "made 28:1 put \"k1\" 9223372036854775806" ∷
    "28 RegPrim c1 g0 w0 p1@1{6,28,31} a0 v1/0{6,28,31}{28} y- r[] o[28:1] x{} b0" ∷
    "= 14" ∷
    "31 RegPrim c1 g0 w0 p1@1{6,28,31} a0 v1/0{6,28,31}{31} y- r[] o[] x{} b0" ∷
    "= 16" ∷
    "order 1 28:1" ∷
    "6 RegPrim c1 g1 w0 p1@1{6,28,31} a0 v1/0{6,28,31}{6} y- r[] o[] x{} b0" ∷
    "= 17" ∷
    "28 RegPrim c1 g1 w0 p1@1{6,28,31} a0 v1/0{6,28,31}{28} y- r[] o[] x{} b0" ∷
    "reply 28:1 done" ∷
    "= 18" ∷
    "31 RegPrim c1 g1 w0 p1@1{6,28,31} a0 v1/0{6,28,31}{31} y- r[] o[] x{} b0" ∷
    "= 19" ∷
    "6 TransPrim t1 g1 w0 p1@1{6,28,31} a0 v1/0{6,28,31}{6} y- r[] o[] x{} b0" ∷
    "28 TransPrim t1 g1 w0 p1@1{6,28,31} a0 v1/0{6,28,31}{28} y- r[] o[] x{} b0" ∷
    "= 20" ∷
    "7 NonPrim t2 g0 w0 p0@0{6,7,19,28,31} a0 v- y- r[] o[] x{} b0" ∷
    "19 NonPrim t2 g0 w0 p0@0{6,7,19,28,31} a0 v- y- r[] o[] x{} b0" ∷
    "= 21" ∷
    "6 ExchangeStates c3 g1 w0 p1@1{6,28,31} a0 v- y![] r[] o[] x{} b0" ∷
    "7 ExchangeStates c3 g0 w0 p0@0{6,7,19,28,31} a0 v- y- r[] o[] x{} b0" ∷
    "19 ExchangeStates c3 g0 w0 p0@0{6,7,19,28,31} a0 v- y- r[] o[] x{} b0" ∷
    "28 ExchangeStates c3 g1 w0 p1@1{6,28,31} a0 v- y![] r[] o[] x{} b0" ∷
    "= 24" ∷
    "28 ExchangeActions c3 g1 w0 p1@1{6,28,31} a0 v- y![] r[] o[] x{} b0" ∷
    "= 26" ∷
    "6 ExchangeActions c3 g1 w0 p1@1{6,28,31} a0 v- y![] r[] o[] x{} b0" ∷
    "= 27" ∷
    "7 ExchangeActions c3 g0 w0 p0@0{6,7,19,28,31} a0 v- y- r[] o[] x{} b0" ∷
    "= 28" ∷
    "19 ExchangeActions c3 g0 w0 p0@0{6,7,19,28,31} a0 v- y- r[] o[] x{} b0" ∷
    "= 30" ∷
    "6 Construct c3 g1 w0 p1@1{6,28,31} a1 v3/1{6,7,19,28}{6} y![] r[] o[] x{} b0" ∷
    "= 31" ∷
    "7 Construct c3 g1 w0 p1@1{6,28,31} a1 v3/1{6,7,19,28}{7} y![] r[] o[] x{} b0" ∷
    "= 32" ∷
    "19 Construct c3 g1 w0 p1@1{6,28,31} a1 v3/1{6,7,19,28}{19} y![] r[] o[] x{} b0" ∷
    "= 33" ∷
    "28 Construct c3 g1 w0 p1@1{6,28,31} a1 v3/1{6,7,19,28}{28} y![] r[] o[] x{} b0" ∷
    "end 33" ∷
    [])
unfolding cases_compute
tie_of_green_counts_goes_to_the_lowest_a = refl
