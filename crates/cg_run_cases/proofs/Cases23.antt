-- Cases of cases/ with their whole reports, which `.ci/theorems` writes down here.
use Rattle.std.specs.Prelude.{◌≡◌, [], ◌∷◌}
use mathlib.Core.Path.{refl}
use Rattle.cg_run_cases.specs.Replaying.{replayed_text, written}
use Rattle.cg_run_cases.specs.Computing.{cases_compute}

-- A replica that heard all but left before installing keeps its record.
record_kept_by_one_that_cannot_know_b :
    replayed_text (
    "start 1 2 3 4" ∷
    "merge 1 2 3 4" ∷
    "rounds 2" ∷
    "request 1 del \"a\"; move \"a\" \"y\" 0; inc \"y\" 2; inc \"abc\" 10 ? count" ∷
    "split 1 2 3 4" ∷
    "merge 1 2 3 4" ∷
    "rounds 2" ∷
    "gather" ∷
    "split 1 2 3 4" ∷
    "merge 1 2 3 4" ∷
    "end" ∷
    [])
    ≡ written (
    "= 1" ∷
    "1 NonPrim - g0 w0 p0@0{1,2,3,4} a0 v- y- r[] o[] x{} b0" ∷
    "2 NonPrim - g0 w0 p0@0{1,2,3,4} a0 v- y- r[] o[] x{} b0" ∷
    "3 NonPrim - g0 w0 p0@0{1,2,3,4} a0 v- y- r[] o[] x{} b0" ∷
    "4 NonPrim - g0 w0 p0@0{1,2,3,4} a0 v- y- r[] o[] x{} b0" ∷
    "= 2" ∷
    "1 ExchangeStates c1 g0 w0 p0@0{1,2,3,4} a0 v- y- r[] o[] x{} b0" ∷
    "2 ExchangeStates c1 g0 w0 p0@0{1,2,3,4} a0 v- y- r[] o[] x{} b0" ∷
    "3 ExchangeStates c1 g0 w0 p0@0{1,2,3,4} a0 v- y- r[] o[] x{} b0" ∷
    "4 ExchangeStates c1 g0 w0 p0@0{1,2,3,4} a0 v- y- r[] o[] x{} b0" ∷
    "= 4" ∷
    "1 Construct c1 g0 w0 p0@0{1,2,3,4} a1 v1/0{1,2,3,4}{1} y- r[] o[] x{} b0" ∷
    "= 5" ∷
    "2 Construct c1 g0 w0 p0@0{1,2,3,4} a1 v1/0{1,2,3,4}{2} y- r[] o[] x{} b0" ∷
    "= 6" ∷
    "3 Construct c1 g0 w0 p0@0{1,2,3,4} a1 v1/0{1,2,3,4}{3} y- r[] o[] x{} b0" ∷
    "= 7" ∷
    "4 Construct c1 g0 w0 p0@0{1,2,3,4} a1 v1/0{1,2,3,4}{4} y- r[] o[] x{} b0" ∷
    "= 9" ∷
    "1 RegPrim c1 g0 w0 p1@1{1,2,3,4} a0 v1/0{1,2,3,4}{1} y- r[] o[] x{} b0" ∷
    "= 10" ∷
    "2 RegPrim c1 g0 w0 p1@1{1,2,3,4} a0 v1/0{1,2,3,4}{2} y- r[] o[] x{} b0" ∷
    "= 11" ∷
    "3 RegPrim c1 g0 w0 p1@1{1,2,3,4} a0 v1/0{1,2,3,4}{3} y- r[] o[] x{} b0" ∷
    "= 12" ∷
    "4 RegPrim c1 g0 w0 p1@1{1,2,3,4} a0 v1/0{1,2,3,4}{4} y- r[] o[] x{} b0" ∷
    "= 13" ∷
    "made 1:1 del \"a\"; move \"a\" \"y\" 0; inc \"y\" 2; inc \"abc\" 10 ? count" ∷
    "1 RegPrim c1 g0 w0 p1@1{1,2,3,4} a0 v1/0{1,2,3,4}{1} y- r[] o[1:1] x{} b0" ∷
    "= 14" ∷
    "1 TransPrim t1 g0 w0 p1@1{1,2,3,4} a0 v1/0{1,2,3,4}{1} y- r[] o[1:1] x{} b0" ∷
    "2 TransPrim t1 g0 w0 p1@1{1,2,3,4} a0 v1/0{1,2,3,4}{2} y- r[] o[] x{} b0" ∷
    "3 TransPrim t1 g0 w0 p1@1{1,2,3,4} a0 v1/0{1,2,3,4}{3} y- r[] o[] x{} b0" ∷
    "4 TransPrim t1 g0 w0 p1@1{1,2,3,4} a0 v1/0{1,2,3,4}{4} y- r[] o[] x{} b0" ∷
    "= 15" ∷
    "1 ExchangeStates c2 g0 w0 p1@1{1,2,3,4} a0 v- y![] r[1:1] o[] x{} b0" ∷
    "2 ExchangeStates c2 g0 w0 p1@1{1,2,3,4} a0 v- y![] r[] o[] x{} b0" ∷
    "3 ExchangeStates c2 g0 w0 p1@1{1,2,3,4} a0 v- y![] r[] o[] x{} b0" ∷
    "4 ExchangeStates c2 g0 w0 p1@1{1,2,3,4} a0 v- y![] r[] o[] x{} b0" ∷
    "= 17" ∷
    "1 ExchangeActions c2 g0 w0 p1@1{1,2,3,4} a0 v- y![] r[1:1] o[] x{} b0" ∷
    "= 18" ∷
    "2 ExchangeActions c2 g0 w0 p1@1{1,2,3,4} a0 v- y![] r[] o[] x{} b0" ∷
    "= 19" ∷
    "3 ExchangeActions c2 g0 w0 p1@1{1,2,3,4} a0 v- y![] r[] o[] x{} b0" ∷
    "= 20" ∷
    "4 ExchangeActions c2 g0 w0 p1@1{1,2,3,4} a0 v- y![] r[] o[] x{} b0" ∷
    "= 22" ∷
    "1 Construct c2 g0 w0 p1@1{1,2,3,4} a1 v2/1{1,2,3,4}{1} y![] r[1:1] o[] x{} b0" ∷
    "= 23" ∷
    "2 Construct c2 g0 w0 p1@1{1,2,3,4} a1 v2/1{1,2,3,4}{2} y![] r[1:1] o[] x{} b0" ∷
    "= 24" ∷
    "3 Construct c2 g0 w0 p1@1{1,2,3,4} a1 v2/1{1,2,3,4}{3} y![] r[1:1] o[] x{} b0" ∷
    "= 25" ∷
    "4 Construct c2 g0 w0 p1@1{1,2,3,4} a1 v2/1{1,2,3,4}{4} y![] r[1:1] o[] x{} b0" ∷
    "= 27" ∷
    "1 Un t2 g0 w0 p1@1{1,2,3,4} a1 v2/1{1,2,3,4}{1} y![] r[1:1] o[] x{} b0" ∷
    "2 Un t2 g0 w0 p1@1{1,2,3,4} a1 v2/1{1,2,3,4}{2} y![] r[1:1] o[] x{} b0" ∷
    "3 Un t2 g0 w0 p1@1{1,2,3,4} a1 v2/1{1,2,3,4}{3} y![] r[1:1] o[] x{} b0" ∷
    "4 Un t2 g0 w0 p1@1{1,2,3,4} a1 v2/1{1,2,3,4}{4} y![] r[1:1] o[] x{} b0" ∷
    "= 28" ∷
    "1 ExchangeStates c3 g0 w0 p1@1{1,2,3,4} a1 v2/1{1,2,3,4}{1} y![] r[1:1] o[] x{} b0" ∷
    "2 ExchangeStates c3 g0 w0 p1@1{1,2,3,4} a1 v2/1{1,2,3,4}{2} y![] r[1:1] o[] x{} b0" ∷
    "3 ExchangeStates c3 g0 w0 p1@1{1,2,3,4} a1 v2/1{1,2,3,4}{3} y![] r[1:1] o[] x{} b0" ∷
    "4 ExchangeStates c3 g0 w0 p1@1{1,2,3,4} a1 v2/1{1,2,3,4}{4} y![] r[1:1] o[] x{} b0" ∷
    "end 28" ∷
    [])
unfolding cases_compute
record_kept_by_one_that_cannot_know_b = refl

-- A replica that heard all but left before installing keeps its record.
record_kept_by_one_that_cannot_know_c :
    replayed_text (
    "start 1 2 3" ∷
    "merge 1 2 3" ∷
    "gather" ∷
    "deliver 2 3" ∷
    "deliver 3 3" ∷
    "deliver 1 3" ∷
    "gather" ∷
    "split 1 2 3" ∷
    "merge 1 2 3" ∷
    "end" ∷
    [])
    ≡ written (
    "= 1" ∷
    "1 NonPrim - g0 w0 p0@0{1,2,3} a0 v- y- r[] o[] x{} b0" ∷
    "2 NonPrim - g0 w0 p0@0{1,2,3} a0 v- y- r[] o[] x{} b0" ∷
    "3 NonPrim - g0 w0 p0@0{1,2,3} a0 v- y- r[] o[] x{} b0" ∷
    "= 2" ∷
    "1 ExchangeStates c1 g0 w0 p0@0{1,2,3} a0 v- y- r[] o[] x{} b0" ∷
    "2 ExchangeStates c1 g0 w0 p0@0{1,2,3} a0 v- y- r[] o[] x{} b0" ∷
    "3 ExchangeStates c1 g0 w0 p0@0{1,2,3} a0 v- y- r[] o[] x{} b0" ∷
    "= 4" ∷
    "2 Construct c1 g0 w0 p0@0{1,2,3} a1 v1/0{1,2,3}{2} y- r[] o[] x{} b0" ∷
    "= 5" ∷
    "3 Construct c1 g0 w0 p0@0{1,2,3} a1 v1/0{1,2,3}{3} y- r[] o[] x{} b0" ∷
    "= 6" ∷
    "1 Construct c1 g0 w0 p0@0{1,2,3} a1 v1/0{1,2,3}{1} y- r[] o[] x{} b0" ∷
    "= 8" ∷
    "1 Un t1 g0 w0 p0@0{1,2,3} a1 v1/0{1,2,3}{1} y- r[] o[] x{} b0" ∷
    "2 Un t1 g0 w0 p0@0{1,2,3} a1 v1/0{1,2,3}{2} y- r[] o[] x{} b0" ∷
    "3 Un t1 g0 w0 p0@0{1,2,3} a1 v1/0{1,2,3}{3} y- r[] o[] x{} b0" ∷
    "= 9" ∷
    "1 ExchangeStates c2 g0 w0 p0@0{1,2,3} a1 v1/0{1,2,3}{1} y- r[] o[] x{} b0" ∷
    "2 ExchangeStates c2 g0 w0 p0@0{1,2,3} a1 v1/0{1,2,3}{2} y- r[] o[] x{} b0" ∷
    "3 ExchangeStates c2 g0 w0 p0@0{1,2,3} a1 v1/0{1,2,3}{3} y- r[] o[] x{} b0" ∷
    "end 9" ∷
    [])
unfolding cases_compute
record_kept_by_one_that_cannot_know_c = refl

-- A record is kept though its holder is not in the last known primary.
record_kept_outside_the_last_primary_a :
    replayed_text (
    "start 1 2 3 4" ∷
    "merge 1 2 3" ∷
    "rounds 2" ∷
    "request 1 del \"b\"; inc \"k1\" -3; move \"k1\" \"a\" 0" ∷
    "request 3 inc \"a\" -9223372036854775808 ? get \"ab\"" ∷
    "split 3" ∷
    "split 1 2" ∷
    "merge 1 2 3 4" ∷
    "rounds 3" ∷
    "split 3 4" ∷
    "split 1 2" ∷
    "merge 1 2" ∷
    "rounds 2" ∷
    "split 1 2" ∷
    "merge 1 2 3 4" ∷
    "rounds 2" ∷
    "stop 3 0 -" ∷
    "recover 3" ∷
    "merge 3" ∷
    "rounds 3" ∷
    "end" ∷
    [])
    ≡ written (
    "= 1" ∷
    "1 NonPrim - g0 w0 p0@0{1,2,3,4} a0 v- y- r[] o[] x{} b0" ∷
    "2 NonPrim - g0 w0 p0@0{1,2,3,4} a0 v- y- r[] o[] x{} b0" ∷
    "3 NonPrim - g0 w0 p0@0{1,2,3,4} a0 v- y- r[] o[] x{} b0" ∷
    "4 NonPrim - g0 w0 p0@0{1,2,3,4} a0 v- y- r[] o[] x{} b0" ∷
    "= 2" ∷
    "1 ExchangeStates c1 g0 w0 p0@0{1,2,3,4} a0 v- y- r[] o[] x{} b0" ∷
    "2 ExchangeStates c1 g0 w0 p0@0{1,2,3,4} a0 v- y- r[] o[] x{} b0" ∷
    "3 ExchangeStates c1 g0 w0 p0@0{1,2,3,4} a0 v- y- r[] o[] x{} b0" ∷
    "= 4" ∷
    "1 Construct c1 g0 w0 p0@0{1,2,3,4} a1 v1/0{1,2,3}{1} y- r[] o[] x{} b0" ∷
    "= 5" ∷
    "2 Construct c1 g0 w0 p0@0{1,2,3,4} a1 v1/0{1,2,3}{2} y- r[] o[] x{} b0" ∷
    "= 6" ∷
    "3 Construct c1 g0 w0 p0@0{1,2,3,4} a1 v1/0{1,2,3}{3} y- r[] o[] x{} b0" ∷
    "= 8" ∷
    "1 RegPrim c1 g0 w0 p1@1{1,2,3} a0 v1/0{1,2,3}{1} y- r[] o[] x{} b0" ∷
    "= 9" ∷
    "2 RegPrim c1 g0 w0 p1@1{1,2,3} a0 v1/0{1,2,3}{2} y- r[] o[] x{} b0" ∷
    "= 10" ∷
    "3 RegPrim c1 g0 w0 p1@1{1,2,3} a0 v1/0{1,2,3}{3} y- r[] o[] x{} b0" ∷
    "= 11" ∷
    "made 1:1 del \"b\"; inc \"k1\" -3; move \"k1\" \"a\" 0" ∷
    "1 RegPrim c1 g0 w0 p1@1{1,2,3} a0 v1/0{1,2,3}{1} y- r[] o[1:1] x{} b0" ∷
    "= 12" ∷
    "made 3:1 inc \"a\" -9223372036854775808 ? get \"ab\"" ∷
    "3 RegPrim c1 g0 w0 p1@1{1,2,3} a0 v1/0{1,2,3}{3} y- r[] o[3:1] x{} b0" ∷
    "= 13" ∷
    "3 TransPrim t1 g0 w0 p1@1{1,2,3} a0 v1/0{1,2,3}{3} y- r[] o[3:1] x{} b0" ∷
    "= 14" ∷
    "1 TransPrim t1 g0 w0 p1@1{1,2,3} a0 v1/0{1,2,3}{1} y- r[] o[1:1] x{} b0" ∷
    "2 TransPrim t1 g0 w0 p1@1{1,2,3} a0 v1/0{1,2,3}{2} y- r[] o[] x{} b0" ∷
    "= 15" ∷
    "1 ExchangeStates c2 g0 w0 p1@1{1,2,3} a0 v- y![] r[1:1] o[] x{} b0" ∷
    "2 ExchangeStates c2 g0 w0 p1@1{1,2,3} a0 v- y![] r[] o[] x{} b0" ∷
    "3 ExchangeStates c2 g0 w0 p1@1{1,2,3} a0 v- y![] r[3:1] o[] x{} b0" ∷
    "4 ExchangeStates c2 g0 w0 p0@0{1,2,3,4} a0 v- y- r[] o[] x{} b0" ∷
    "= 17" ∷
    "1 ExchangeActions c2 g0 w0 p1@1{1,2,3} a0 v- y![] r[1:1] o[] x{} b0" ∷
    "= 18" ∷
    "2 ExchangeActions c2 g0 w0 p1@1{1,2,3} a0 v- y![] r[] o[] x{} b0" ∷
    "= 19" ∷
    "3 ExchangeActions c2 g0 w0 p1@1{1,2,3} a0 v- y![] r[3:1] o[] x{} b0" ∷
    "= 20" ∷
    "4 ExchangeActions c2 g0 w0 p0@0{1,2,3,4} a0 v- y- r[] o[] x{} b0" ∷
    "= 23" ∷
    "2 ExchangeActions c2 g0 w0 p1@1{1,2,3} a0 v- y![] r[1:1] o[] x{} b0" ∷
    "= 24" ∷
    "3 ExchangeActions c2 g0 w0 p1@1{1,2,3} a0 v- y![] r[1:1,3:1] o[] x{} b0" ∷
    "= 25" ∷
    "4 ExchangeActions c2 g0 w0 p0@0{1,2,3,4} a0 v- y- r[1:1] o[] x{} b0" ∷
    "= 27" ∷
    "1 Construct c2 g0 w0 p1@1{1,2,3} a1 v2/1{1,2,3,4}{1} y![] r[1:1,3:1] o[] x{} b0" ∷
    "= 28" ∷
    "2 Construct c2 g0 w0 p1@1{1,2,3} a1 v2/1{1,2,3,4}{2} y![] r[1:1,3:1] o[] x{} b0" ∷
    "= 29" ∷
    "3 Construct c2 g0 w0 p1@1{1,2,3} a1 v2/1{1,2,3,4}{3} y![] r[1:1,3:1] o[] x{} b0" ∷
    "= 30" ∷
    "4 Construct c2 g0 w0 p1@1{1,2,3} a1 v2/1{1,2,3,4}{4} y![] r[1:1,3:1] o[] x{} b0" ∷
    "= 31" ∷
    "3 No t2 g0 w0 p1@1{1,2,3} a1 v2/1{1,2,3,4}{3} y![] r[1:1,3:1] o[] x{} b0" ∷
    "4 No t2 g0 w0 p1@1{1,2,3} a1 v2/1{1,2,3,4}{4} y![] r[1:1,3:1] o[] x{} b0" ∷
    "= 32" ∷
    "1 No t2 g0 w0 p1@1{1,2,3} a1 v2/1{1,2,3,4}{1} y![] r[1:1,3:1] o[] x{} b0" ∷
    "2 No t2 g0 w0 p1@1{1,2,3} a1 v2/1{1,2,3,4}{2} y![] r[1:1,3:1] o[] x{} b0" ∷
    "= 33" ∷
    "1 ExchangeStates c3 g0 w0 p1@1{1,2,3} a1 v- y![] r[1:1,3:1] o[] x{} b0" ∷
    "2 ExchangeStates c3 g0 w0 p1@1{1,2,3} a1 v- y![] r[1:1,3:1] o[] x{} b0" ∷
    "= 35" ∷
    "1 Construct c3 g0 w0 p1@1{1,2,3} a2 v3/1{1,2}{1} y![] r[1:1,3:1] o[] x{} b0" ∷
    "= 36" ∷
    "2 Construct c3 g0 w0 p1@1{1,2,3} a2 v3/1{1,2}{2} y![] r[1:1,3:1] o[] x{} b0" ∷
    "= 38" ∷
    "order 1 1:1" ∷
    "order 2 3:1" ∷
    "1 RegPrim c3 g2 w0 p2@3{1,2} a0 v3/1{1,2}{1} y- r[] o[] x{} b0" ∷
    "reply 1:1 aborted 3" ∷
    "= 39" ∷
    "2 RegPrim c3 g2 w0 p2@3{1,2} a0 v3/1{1,2}{2} y- r[] o[] x{} b0" ∷
    "= 40" ∷
    "1 TransPrim t3 g2 w0 p2@3{1,2} a0 v3/1{1,2}{1} y- r[] o[] x{} b0" ∷
    "2 TransPrim t3 g2 w0 p2@3{1,2} a0 v3/1{1,2}{2} y- r[] o[] x{} b0" ∷
    "= 41" ∷
    "1 ExchangeStates c4 g2 w0 p2@3{1,2} a0 v- y![] r[] o[] x{} b0" ∷
    "2 ExchangeStates c4 g2 w0 p2@3{1,2} a0 v- y![] r[] o[] x{} b0" ∷
    "3 ExchangeStates c4 g0 w0 p1@1{1,2,3} a1 v- y![] r[1:1,3:1] o[] x{} b0" ∷
    "4 ExchangeStates c4 g0 w0 p1@1{1,2,3} a1 v- y![] r[1:1,3:1] o[] x{} b0" ∷
    "= 43" ∷
    "1 ExchangeActions c4 g2 w0 p2@3{1,2} a0 v- y![] r[] o[] x{} b0" ∷
    "= 44" ∷
    "2 ExchangeActions c4 g2 w0 p2@3{1,2} a0 v- y![] r[] o[] x{} b0" ∷
    "= 45" ∷
    "3 ExchangeActions c4 g0 w0 p1@1{1,2,3} a1 v- y![] r[1:1,3:1] o[] x{} b0" ∷
    "= 46" ∷
    "4 ExchangeActions c4 g0 w0 p1@1{1,2,3} a1 v- y![] r[1:1,3:1] o[] x{} b0" ∷
    "= 48" ∷
    "1 Construct c4 g2 w0 p2@3{1,2} a1 v4/2{1,2,3,4}{1} y![] r[] o[] x{} b0" ∷
    "= 49" ∷
    "2 Construct c4 g2 w0 p2@3{1,2} a1 v4/2{1,2,3,4}{2} y![] r[] o[] x{} b0" ∷
    "= 50" ∷
    "3 Construct c4 g2 w0 p2@3{1,2} a1 v4/2{1,2,3,4}{3} y![] r[] o[] x{} b0" ∷
    "reply 3:1 done ? absent" ∷
    "= 51" ∷
    "4 Construct c4 g2 w0 p2@3{1,2} a1 v4/2{1,2,3,4}{4} y![] r[] o[] x{} b0" ∷
    "= 52" ∷
    "3 Down" ∷
    "= 53" ∷
    "3 NonPrim - g2 w0 p2@3{1,2} a1 v4/2{1,2,3,4}{3} y![] r[] o[] x{} b0" ∷
    "= 54" ∷
    "3 ExchangeStates c5 g2 w0 p2@3{1,2} a1 v4/2{1,2,3,4}{3} y![] r[] o[] x{} b0" ∷
    "= 56" ∷
    "3 NonPrim c5 g2 w0 p2@3{1,2} a1 v4/2{1,2,3,4}{3} y![] r[] o[] x{} b0" ∷
    "end 58" ∷
    [])
unfolding cases_compute
record_kept_outside_the_last_primary_a = refl

-- A record is kept though its holder is not in the last known primary.
record_kept_outside_the_last_primary_b :
    replayed_text (
    "start 1 2 3 4" ∷
    "merge 3" ∷
    "merge 1 2 4" ∷
    "rounds 2" ∷
    "request 4 inc \"b\" 8" ∷
    "split 3" ∷
    "split 4" ∷
    "split 1 2" ∷
    "merge 1 2 3 4" ∷
    "rounds 2" ∷
    "gather" ∷
    "split 2 3 4" ∷
    "merge 2 3 4" ∷
    "rounds 2" ∷
    "end" ∷
    [])
    ≡ written (
    "= 1" ∷
    "1 NonPrim - g0 w0 p0@0{1,2,3,4} a0 v- y- r[] o[] x{} b0" ∷
    "2 NonPrim - g0 w0 p0@0{1,2,3,4} a0 v- y- r[] o[] x{} b0" ∷
    "3 NonPrim - g0 w0 p0@0{1,2,3,4} a0 v- y- r[] o[] x{} b0" ∷
    "4 NonPrim - g0 w0 p0@0{1,2,3,4} a0 v- y- r[] o[] x{} b0" ∷
    "= 2" ∷
    "3 ExchangeStates c1 g0 w0 p0@0{1,2,3,4} a0 v- y- r[] o[] x{} b0" ∷
    "= 3" ∷
    "1 ExchangeStates c2 g0 w0 p0@0{1,2,3,4} a0 v- y- r[] o[] x{} b0" ∷
    "2 ExchangeStates c2 g0 w0 p0@0{1,2,3,4} a0 v- y- r[] o[] x{} b0" ∷
    "4 ExchangeStates c2 g0 w0 p0@0{1,2,3,4} a0 v- y- r[] o[] x{} b0" ∷
    "= 5" ∷
    "1 Construct c2 g0 w0 p0@0{1,2,3,4} a1 v2/0{1,2,4}{1} y- r[] o[] x{} b0" ∷
    "= 6" ∷
    "2 Construct c2 g0 w0 p0@0{1,2,3,4} a1 v2/0{1,2,4}{2} y- r[] o[] x{} b0" ∷
    "= 7" ∷
    "3 NonPrim c1 g0 w0 p0@0{1,2,3,4} a0 v- y- r[] o[] x{} b0" ∷
    "= 8" ∷
    "4 Construct c2 g0 w0 p0@0{1,2,3,4} a1 v2/0{1,2,4}{4} y- r[] o[] x{} b0" ∷
    "= 10" ∷
    "1 RegPrim c2 g0 w0 p1@2{1,2,4} a0 v2/0{1,2,4}{1} y- r[] o[] x{} b0" ∷
    "= 11" ∷
    "2 RegPrim c2 g0 w0 p1@2{1,2,4} a0 v2/0{1,2,4}{2} y- r[] o[] x{} b0" ∷
    "= 12" ∷
    "4 RegPrim c2 g0 w0 p1@2{1,2,4} a0 v2/0{1,2,4}{4} y- r[] o[] x{} b0" ∷
    "= 13" ∷
    "made 4:1 inc \"b\" 8" ∷
    "4 RegPrim c2 g0 w0 p1@2{1,2,4} a0 v2/0{1,2,4}{4} y- r[] o[4:1] x{} b0" ∷
    "= 14" ∷
    "3 NonPrim t1 g0 w0 p0@0{1,2,3,4} a0 v- y- r[] o[] x{} b0" ∷
    "= 15" ∷
    "4 TransPrim t2 g0 w0 p1@2{1,2,4} a0 v2/0{1,2,4}{4} y- r[] o[4:1] x{} b0" ∷
    "= 16" ∷
    "1 TransPrim t2 g0 w0 p1@2{1,2,4} a0 v2/0{1,2,4}{1} y- r[] o[] x{} b0" ∷
    "2 TransPrim t2 g0 w0 p1@2{1,2,4} a0 v2/0{1,2,4}{2} y- r[] o[] x{} b0" ∷
    "= 17" ∷
    "1 ExchangeStates c3 g0 w0 p1@2{1,2,4} a0 v- y![] r[] o[] x{} b0" ∷
    "2 ExchangeStates c3 g0 w0 p1@2{1,2,4} a0 v- y![] r[] o[] x{} b0" ∷
    "3 ExchangeStates c3 g0 w0 p0@0{1,2,3,4} a0 v- y- r[] o[] x{} b0" ∷
    "4 ExchangeStates c3 g0 w0 p1@2{1,2,4} a0 v- y![] r[4:1] o[] x{} b0" ∷
    "= 19" ∷
    "1 ExchangeActions c3 g0 w0 p1@2{1,2,4} a0 v- y![] r[] o[] x{} b0" ∷
    "= 20" ∷
    "2 ExchangeActions c3 g0 w0 p1@2{1,2,4} a0 v- y![] r[] o[] x{} b0" ∷
    "= 21" ∷
    "3 ExchangeActions c3 g0 w0 p0@0{1,2,3,4} a0 v- y- r[] o[] x{} b0" ∷
    "= 22" ∷
    "4 ExchangeActions c3 g0 w0 p1@2{1,2,4} a0 v- y![] r[4:1] o[] x{} b0" ∷
    "= 24" ∷
    "1 Construct c3 g0 w0 p1@2{1,2,4} a1 v3/1{1,2,3,4}{1} y![] r[4:1] o[] x{} b0" ∷
    "= 25" ∷
    "2 Construct c3 g0 w0 p1@2{1,2,4} a1 v3/1{1,2,3,4}{2} y![] r[4:1] o[] x{} b0" ∷
    "= 26" ∷
    "3 Construct c3 g0 w0 p1@2{1,2,4} a1 v3/1{1,2,3,4}{3} y![] r[4:1] o[] x{} b0" ∷
    "= 27" ∷
    "4 Construct c3 g0 w0 p1@2{1,2,4} a1 v3/1{1,2,3,4}{4} y![] r[4:1] o[] x{} b0" ∷
    "= 29" ∷
    "2 Un t3 g0 w0 p1@2{1,2,4} a1 v3/1{1,2,3,4}{2} y![] r[4:1] o[] x{} b0" ∷
    "3 Un t3 g0 w0 p1@2{1,2,4} a1 v3/1{1,2,3,4}{3} y![] r[4:1] o[] x{} b0" ∷
    "4 Un t3 g0 w0 p1@2{1,2,4} a1 v3/1{1,2,3,4}{4} y![] r[4:1] o[] x{} b0" ∷
    "= 30" ∷
    "2 ExchangeStates c4 g0 w0 p1@2{1,2,4} a1 v3/1{1,2,3,4}{2} y![] r[4:1] o[] x{} b0" ∷
    "3 ExchangeStates c4 g0 w0 p1@2{1,2,4} a1 v3/1{1,2,3,4}{3} y![] r[4:1] o[] x{} b0" ∷
    "4 ExchangeStates c4 g0 w0 p1@2{1,2,4} a1 v3/1{1,2,3,4}{4} y![] r[4:1] o[] x{} b0" ∷
    "= 32" ∷
    "order 1 4:1" ∷
    "1 RegPrim c3 g1 w0 p2@3{1,2,3,4} a0 v3/1{1,2,3,4}{1} y- r[] o[] x{} b0" ∷
    "= 33" ∷
    "2 NonPrim c4 g0 w0 p1@2{1,2,4} a1 v3/1{1,2,3,4}{2,3,4} y![] r[4:1] o[] x{} b0" ∷
    "= 34" ∷
    "3 NonPrim c4 g0 w0 p1@2{1,2,4} a1 v3/1{1,2,3,4}{2,3,4} y![] r[4:1] o[] x{} b0" ∷
    "= 35" ∷
    "4 NonPrim c4 g0 w0 p1@2{1,2,4} a1 v3/1{1,2,3,4}{2,3,4} y![] r[4:1] o[] x{} b0" ∷
    "end 36" ∷
    [])
unfolding cases_compute
record_kept_outside_the_last_primary_b = refl

-- A request of a replica that has not begun is refused.
request_to_an_unknown_replica :
    replayed_text (
    "start 1" ∷
    "request 2 put \"x\" 1" ∷
    [])
    ≡ written (
    "= 1" ∷
    "1 NonPrim - g0 w0 p0@0{1} a0 v- y- r[] o[] x{} b0" ∷
    "refused 2 11 2" ∷
    [])
unfolding cases_compute
request_to_an_unknown_replica = refl

-- Replicas at the start: 7: an attempt at a primary is broken off; a crash strikes inside a device call.
seven_replicas_attempt_broken_off_crash_in_a_device_call_a :
    replayed_text (
    "start 1 2 3 4 5 6 7" ∷
    "merge 1 2 3 4 5 6 7" ∷
    "split 1 3 4 5 6" ∷
    "order 2" ∷
    "split 2" ∷
    "split 7" ∷
    "merge 2" ∷
    "merge 7" ∷
    "split 7" ∷
    "merge 7" ∷
    "request 1 ? get \"a\"" ∷
    "gather" ∷
    "merge 1 3 4 5 6" ∷
    "deliver 2 1" ∷
    "order 1" ∷
    "gather" ∷
    "deliver 3 5" ∷
    "order 3" ∷
    "deliver 7 1" ∷
    "deliver 5 5" ∷
    "split 7" ∷
    "split 2" ∷
    "split 1 3 4 5 6" ∷
    "merge 1 2 3 4 5 6 7" ∷
    "gather" ∷
    "gather" ∷
    "split 1 2 3 4 5 6 7" ∷
    "merge 1 2 3 4 5 6 7" ∷
    "request 3 move \"x\" \"a\" 5; put \"ab\" 57; cas \"ab\" 77 7; move \"k1\" \"b\" 1" ∷
    "split 1 2 3 7" ∷
    "request 5 cas \"x\" 23 48; inc \"z\" 0; inc \"a\" 2" ∷
    "request 1 del \"abc\"" ∷
    "request 6 cas \"z\" absent \"; ? #\"" ∷
    "order 5" ∷
    "split 6" ∷
    "split 5" ∷
    "merge 1 2 3 5 6 7" ∷
    "fail 4 3" ∷
    "gather" ∷
    "deliver 3 1" ∷
    "split 4" ∷
    "split 1 2 3 5 6 7" ∷
    "merge 1 2 3 4 5 6 7" ∷
    "rounds 4" ∷
    "split 6" ∷
    "split 1 2 3 5 7" ∷
    "merge 1 2 3 5 7" ∷
    "merge 6" ∷
    "split 1 2 3 5 7" ∷
    "gather" ∷
    "gather" ∷
    "deliver 6 1" ∷
    "gather" ∷
    "split 6" ∷
    "merge 6" ∷
    "gather" ∷
    "gather" ∷
    "gather" ∷
    "gather" ∷
    "end" ∷
    [])
    ≡ written (
    "= 1" ∷
    "1 NonPrim - g0 w0 p0@0{1,2,3,4,5,6,7} a0 v- y- r[] o[] x{} b0" ∷
    "2 NonPrim - g0 w0 p0@0{1,2,3,4,5,6,7} a0 v- y- r[] o[] x{} b0" ∷
    "3 NonPrim - g0 w0 p0@0{1,2,3,4,5,6,7} a0 v- y- r[] o[] x{} b0" ∷
    "4 NonPrim - g0 w0 p0@0{1,2,3,4,5,6,7} a0 v- y- r[] o[] x{} b0" ∷
    "5 NonPrim - g0 w0 p0@0{1,2,3,4,5,6,7} a0 v- y- r[] o[] x{} b0" ∷
    "6 NonPrim - g0 w0 p0@0{1,2,3,4,5,6,7} a0 v- y- r[] o[] x{} b0" ∷
    "7 NonPrim - g0 w0 p0@0{1,2,3,4,5,6,7} a0 v- y- r[] o[] x{} b0" ∷
    "= 2" ∷
    "1 ExchangeStates c1 g0 w0 p0@0{1,2,3,4,5,6,7} a0 v- y- r[] o[] x{} b0" ∷
    "2 ExchangeStates c1 g0 w0 p0@0{1,2,3,4,5,6,7} a0 v- y- r[] o[] x{} b0" ∷
    "3 ExchangeStates c1 g0 w0 p0@0{1,2,3,4,5,6,7} a0 v- y- r[] o[] x{} b0" ∷
    "4 ExchangeStates c1 g0 w0 p0@0{1,2,3,4,5,6,7} a0 v- y- r[] o[] x{} b0" ∷
    "5 ExchangeStates c1 g0 w0 p0@0{1,2,3,4,5,6,7} a0 v- y- r[] o[] x{} b0" ∷
    "6 ExchangeStates c1 g0 w0 p0@0{1,2,3,4,5,6,7} a0 v- y- r[] o[] x{} b0" ∷
    "7 ExchangeStates c1 g0 w0 p0@0{1,2,3,4,5,6,7} a0 v- y- r[] o[] x{} b0" ∷
    "= 3" ∷
    "1 NonPrim t1 g0 w0 p0@0{1,2,3,4,5,6,7} a0 v- y- r[] o[] x{} b0" ∷
    "3 NonPrim t1 g0 w0 p0@0{1,2,3,4,5,6,7} a0 v- y- r[] o[] x{} b0" ∷
    "4 NonPrim t1 g0 w0 p0@0{1,2,3,4,5,6,7} a0 v- y- r[] o[] x{} b0" ∷
    "5 NonPrim t1 g0 w0 p0@0{1,2,3,4,5,6,7} a0 v- y- r[] o[] x{} b0" ∷
    "6 NonPrim t1 g0 w0 p0@0{1,2,3,4,5,6,7} a0 v- y- r[] o[] x{} b0" ∷
    "= 5" ∷
    "2 NonPrim t1 g0 w0 p0@0{1,2,3,4,5,6,7} a0 v- y- r[] o[] x{} b0" ∷
    "= 6" ∷
    "7 NonPrim t1 g0 w0 p0@0{1,2,3,4,5,6,7} a0 v- y- r[] o[] x{} b0" ∷
    "= 7" ∷
    "2 ExchangeStates c2 g0 w0 p0@0{1,2,3,4,5,6,7} a0 v- y- r[] o[] x{} b0" ∷
    "= 8" ∷
    "7 ExchangeStates c3 g0 w0 p0@0{1,2,3,4,5,6,7} a0 v- y- r[] o[] x{} b0" ∷
    "= 9" ∷
    "7 NonPrim t3 g0 w0 p0@0{1,2,3,4,5,6,7} a0 v- y- r[] o[] x{} b0" ∷
    "= 10" ∷
    "7 ExchangeStates c4 g0 w0 p0@0{1,2,3,4,5,6,7} a0 v- y- r[] o[] x{} b0" ∷
    "= 11" ∷
    "1 NonPrim t1 g0 w0 p0@0{1,2,3,4,5,6,7} a0 v- y- r[] o[] x{} b1" ∷
    "= 13" ∷
    "1 ExchangeStates c5 g0 w0 p0@0{1,2,3,4,5,6,7} a0 v- y- r[] o[] x{} b1" ∷
    "3 ExchangeStates c5 g0 w0 p0@0{1,2,3,4,5,6,7} a0 v- y- r[] o[] x{} b0" ∷
    "4 ExchangeStates c5 g0 w0 p0@0{1,2,3,4,5,6,7} a0 v- y- r[] o[] x{} b0" ∷
    "5 ExchangeStates c5 g0 w0 p0@0{1,2,3,4,5,6,7} a0 v- y- r[] o[] x{} b0" ∷
    "6 ExchangeStates c5 g0 w0 p0@0{1,2,3,4,5,6,7} a0 v- y- r[] o[] x{} b0" ∷
    "= 14" ∷
    "2 NonPrim c2 g0 w0 p0@0{1,2,3,4,5,6,7} a0 v- y- r[] o[] x{} b0" ∷
    "= 17" ∷
    "3 Construct c5 g0 w0 p0@0{1,2,3,4,5,6,7} a1 v5/0{1,3,4,5,6}{3} y- r[] o[] x{} b0" ∷
    "= 19" ∷
    "7 NonPrim c4 g0 w0 p0@0{1,2,3,4,5,6,7} a0 v- y- r[] o[] x{} b0" ∷
    "= 20" ∷
    "5 Construct c5 g0 w0 p0@0{1,2,3,4,5,6,7} a1 v5/0{1,3,4,5,6}{5} y- r[] o[] x{} b0" ∷
    "= 21" ∷
    "7 NonPrim t4 g0 w0 p0@0{1,2,3,4,5,6,7} a0 v- y- r[] o[] x{} b0" ∷
    "= 22" ∷
    "2 NonPrim t2 g0 w0 p0@0{1,2,3,4,5,6,7} a0 v- y- r[] o[] x{} b0" ∷
    "= 23" ∷
    "1 No t5 g0 w0 p0@0{1,2,3,4,5,6,7} a1 v5/0{1,3,4,5,6}{1} y- r[] o[] x{} b1" ∷
    "3 No t5 g0 w0 p0@0{1,2,3,4,5,6,7} a1 v5/0{1,3,4,5,6}{3} y- r[] o[] x{} b0" ∷
    "4 No t5 g0 w0 p0@0{1,2,3,4,5,6,7} a1 v5/0{1,3,4,5,6}{4} y- r[] o[] x{} b0" ∷
    "5 No t5 g0 w0 p0@0{1,2,3,4,5,6,7} a1 v5/0{1,3,4,5,6}{5} y- r[] o[] x{} b0" ∷
    "6 No t5 g0 w0 p0@0{1,2,3,4,5,6,7} a1 v5/0{1,3,4,5,6}{6} y- r[] o[] x{} b0" ∷
    "= 24" ∷
    "1 ExchangeStates c6 g0 w0 p0@0{1,2,3,4,5,6,7} a1 v- y- r[] o[] x{} b1" ∷
    "2 ExchangeStates c6 g0 w0 p0@0{1,2,3,4,5,6,7} a0 v- y- r[] o[] x{} b0" ∷
    "3 ExchangeStates c6 g0 w0 p0@0{1,2,3,4,5,6,7} a1 v- y- r[] o[] x{} b0" ∷
    "4 ExchangeStates c6 g0 w0 p0@0{1,2,3,4,5,6,7} a1 v- y- r[] o[] x{} b0" ∷
    "5 ExchangeStates c6 g0 w0 p0@0{1,2,3,4,5,6,7} a1 v- y- r[] o[] x{} b0" ∷
    "6 ExchangeStates c6 g0 w0 p0@0{1,2,3,4,5,6,7} a1 v- y- r[] o[] x{} b0" ∷
    "7 ExchangeStates c6 g0 w0 p0@0{1,2,3,4,5,6,7} a0 v- y- r[] o[] x{} b0" ∷
    "= 27" ∷
    "1 NonPrim t6 g0 w0 p0@0{1,2,3,4,5,6,7} a1 v- y- r[] o[] x{} b1" ∷
    "2 NonPrim t6 g0 w0 p0@0{1,2,3,4,5,6,7} a0 v- y- r[] o[] x{} b0" ∷
    "3 NonPrim t6 g0 w0 p0@0{1,2,3,4,5,6,7} a1 v- y- r[] o[] x{} b0" ∷
    "4 NonPrim t6 g0 w0 p0@0{1,2,3,4,5,6,7} a1 v- y- r[] o[] x{} b0" ∷
    "5 NonPrim t6 g0 w0 p0@0{1,2,3,4,5,6,7} a1 v- y- r[] o[] x{} b0" ∷
    "6 NonPrim t6 g0 w0 p0@0{1,2,3,4,5,6,7} a1 v- y- r[] o[] x{} b0" ∷
    "7 NonPrim t6 g0 w0 p0@0{1,2,3,4,5,6,7} a0 v- y- r[] o[] x{} b0" ∷
    "= 28" ∷
    "1 ExchangeStates c7 g0 w0 p0@0{1,2,3,4,5,6,7} a1 v- y- r[] o[] x{} b1" ∷
    "2 ExchangeStates c7 g0 w0 p0@0{1,2,3,4,5,6,7} a0 v- y- r[] o[] x{} b0" ∷
    "3 ExchangeStates c7 g0 w0 p0@0{1,2,3,4,5,6,7} a1 v- y- r[] o[] x{} b0" ∷
    "4 ExchangeStates c7 g0 w0 p0@0{1,2,3,4,5,6,7} a1 v- y- r[] o[] x{} b0" ∷
    "5 ExchangeStates c7 g0 w0 p0@0{1,2,3,4,5,6,7} a1 v- y- r[] o[] x{} b0" ∷
    "6 ExchangeStates c7 g0 w0 p0@0{1,2,3,4,5,6,7} a1 v- y- r[] o[] x{} b0" ∷
    "7 ExchangeStates c7 g0 w0 p0@0{1,2,3,4,5,6,7} a0 v- y- r[] o[] x{} b0" ∷
    "= 29" ∷
    "3 ExchangeStates c7 g0 w0 p0@0{1,2,3,4,5,6,7} a1 v- y- r[] o[] x{} b1" ∷
    "= 30" ∷
    "1 NonPrim t7 g0 w0 p0@0{1,2,3,4,5,6,7} a1 v- y- r[] o[] x{} b1" ∷
    "2 NonPrim t7 g0 w0 p0@0{1,2,3,4,5,6,7} a0 v- y- r[] o[] x{} b0" ∷
    "3 NonPrim t7 g0 w0 p0@0{1,2,3,4,5,6,7} a1 v- y- r[] o[] x{} b1" ∷
    "7 NonPrim t7 g0 w0 p0@0{1,2,3,4,5,6,7} a0 v- y- r[] o[] x{} b0" ∷
    "= 31" ∷
    "5 ExchangeStates c7 g0 w0 p0@0{1,2,3,4,5,6,7} a1 v- y- r[] o[] x{} b1" ∷
    "= 32" ∷
    "1 NonPrim t7 g0 w0 p0@0{1,2,3,4,5,6,7} a1 v- y- r[] o[] x{} b2" ∷
    "= 33" ∷
    "6 ExchangeStates c7 g0 w0 p0@0{1,2,3,4,5,6,7} a1 v- y- r[] o[] x{} b1" ∷
    "= 35" ∷
    "6 NonPrim t7 g0 w0 p0@0{1,2,3,4,5,6,7} a1 v- y- r[] o[] x{} b1" ∷
    "= 36" ∷
    "5 NonPrim t7 g0 w0 p0@0{1,2,3,4,5,6,7} a1 v- y- r[] o[] x{} b1" ∷
    "= 37" ∷
    "1 ExchangeStates c8 g0 w0 p0@0{1,2,3,4,5,6,7} a1 v- y- r[] o[] x{} b2" ∷
    "2 ExchangeStates c8 g0 w0 p0@0{1,2,3,4,5,6,7} a0 v- y- r[] o[] x{} b0" ∷
    "3 ExchangeStates c8 g0 w0 p0@0{1,2,3,4,5,6,7} a1 v- y- r[] o[] x{} b1" ∷
    "5 ExchangeStates c8 g0 w0 p0@0{1,2,3,4,5,6,7} a1 v- y- r[] o[] x{} b1" ∷
    "6 ExchangeStates c8 g0 w0 p0@0{1,2,3,4,5,6,7} a1 v- y- r[] o[] x{} b1" ∷
    "7 ExchangeStates c8 g0 w0 p0@0{1,2,3,4,5,6,7} a0 v- y- r[] o[] x{} b0" ∷
    "= 41" ∷
    "4 NonPrim t7 g0 w0 p0@0{1,2,3,4,5,6,7} a1 v- y- r[] o[] x{} b0" ∷
    "= 42" ∷
    "1 NonPrim t8 g0 w0 p0@0{1,2,3,4,5,6,7} a1 v- y- r[] o[] x{} b2" ∷
    "2 NonPrim t8 g0 w0 p0@0{1,2,3,4,5,6,7} a0 v- y- r[] o[] x{} b0" ∷
    "3 NonPrim t8 g0 w0 p0@0{1,2,3,4,5,6,7} a1 v- y- r[] o[] x{} b1" ∷
    "5 NonPrim t8 g0 w0 p0@0{1,2,3,4,5,6,7} a1 v- y- r[] o[] x{} b1" ∷
    "6 NonPrim t8 g0 w0 p0@0{1,2,3,4,5,6,7} a1 v- y- r[] o[] x{} b1" ∷
    "7 NonPrim t8 g0 w0 p0@0{1,2,3,4,5,6,7} a0 v- y- r[] o[] x{} b0" ∷
    "= 43" ∷
    "1 ExchangeStates c9 g0 w0 p0@0{1,2,3,4,5,6,7} a1 v- y- r[] o[] x{} b2" ∷
    "2 ExchangeStates c9 g0 w0 p0@0{1,2,3,4,5,6,7} a0 v- y- r[] o[] x{} b0" ∷
    "3 ExchangeStates c9 g0 w0 p0@0{1,2,3,4,5,6,7} a1 v- y- r[] o[] x{} b1" ∷
    "4 ExchangeStates c9 g0 w0 p0@0{1,2,3,4,5,6,7} a1 v- y- r[] o[] x{} b0" ∷
    "5 ExchangeStates c9 g0 w0 p0@0{1,2,3,4,5,6,7} a1 v- y- r[] o[] x{} b1" ∷
    "6 ExchangeStates c9 g0 w0 p0@0{1,2,3,4,5,6,7} a1 v- y- r[] o[] x{} b1" ∷
    "7 ExchangeStates c9 g0 w0 p0@0{1,2,3,4,5,6,7} a0 v- y- r[] o[] x{} b0" ∷
    "= 45" ∷
    "1 Construct c9 g0 w0 p0@0{1,2,3,4,5,6,7} a2 v9/0{1,2,3,4,5,6,7}{1} y- r[] o[] x{} b2" ∷
    "= 46" ∷
    "2 Construct c9 g0 w0 p0@0{1,2,3,4,5,6,7} a2 v9/0{1,2,3,4,5,6,7}{2} y- r[] o[] x{} b0" ∷
    "= 47" ∷
    "3 Construct c9 g0 w0 p0@0{1,2,3,4,5,6,7} a2 v9/0{1,2,3,4,5,6,7}{3} y- r[] o[] x{} b1" ∷
    "= 48" ∷
    "4 Down" ∷
    "= 49" ∷
    "5 Construct c9 g0 w0 p0@0{1,2,3,4,5,6,7} a2 v9/0{1,2,3,4,5,6,7}{5} y- r[] o[] x{} b1" ∷
    "= 50" ∷
    "6 Construct c9 g0 w0 p0@0{1,2,3,4,5,6,7} a2 v9/0{1,2,3,4,5,6,7}{6} y- r[] o[] x{} b1" ∷
    "= 51" ∷
    "7 Construct c9 g0 w0 p0@0{1,2,3,4,5,6,7} a2 v9/0{1,2,3,4,5,6,7}{7} y- r[] o[] x{} b0" ∷
    "= 55" ∷
    "6 No t9 g0 w0 p0@0{1,2,3,4,5,6,7} a2 v9/0{1,2,3,4,5,6,7}{6} y- r[] o[] x{} b1" ∷
    "= 56" ∷
    "1 No t9 g0 w0 p0@0{1,2,3,4,5,6,7} a2 v9/0{1,2,3,4,5,6,7}{1} y- r[] o[] x{} b2" ∷
    "2 No t9 g0 w0 p0@0{1,2,3,4,5,6,7} a2 v9/0{1,2,3,4,5,6,7}{2} y- r[] o[] x{} b0" ∷
    "3 No t9 g0 w0 p0@0{1,2,3,4,5,6,7} a2 v9/0{1,2,3,4,5,6,7}{3} y- r[] o[] x{} b1" ∷
    "5 No t9 g0 w0 p0@0{1,2,3,4,5,6,7} a2 v9/0{1,2,3,4,5,6,7}{5} y- r[] o[] x{} b1" ∷
    "7 No t9 g0 w0 p0@0{1,2,3,4,5,6,7} a2 v9/0{1,2,3,4,5,6,7}{7} y- r[] o[] x{} b0" ∷
    "= 57" ∷
    "1 ExchangeStates c10 g0 w0 p0@0{1,2,3,4,5,6,7} a2 v- y- r[] o[] x{} b2" ∷
    "2 ExchangeStates c10 g0 w0 p0@0{1,2,3,4,5,6,7} a2 v- y- r[] o[] x{} b0" ∷
    "3 ExchangeStates c10 g0 w0 p0@0{1,2,3,4,5,6,7} a2 v- y- r[] o[] x{} b1" ∷
    "5 ExchangeStates c10 g0 w0 p0@0{1,2,3,4,5,6,7} a2 v- y- r[] o[] x{} b1" ∷
    "7 ExchangeStates c10 g0 w0 p0@0{1,2,3,4,5,6,7} a2 v- y- r[] o[] x{} b0" ∷
    "= 58" ∷
    "6 ExchangeStates c11 g0 w0 p0@0{1,2,3,4,5,6,7} a2 v- y- r[] o[] x{} b1" ∷
    "= 59" ∷
    "1 NonPrim t10 g0 w0 p0@0{1,2,3,4,5,6,7} a2 v- y- r[] o[] x{} b2" ∷
    "2 NonPrim t10 g0 w0 p0@0{1,2,3,4,5,6,7} a2 v- y- r[] o[] x{} b0" ∷
    "3 NonPrim t10 g0 w0 p0@0{1,2,3,4,5,6,7} a2 v- y- r[] o[] x{} b1" ∷
    "5 NonPrim t10 g0 w0 p0@0{1,2,3,4,5,6,7} a2 v- y- r[] o[] x{} b1" ∷
    "7 NonPrim t10 g0 w0 p0@0{1,2,3,4,5,6,7} a2 v- y- r[] o[] x{} b0" ∷
    "= 62" ∷
    "made 6:1 cas \"z\" absent \"; ? #\"" ∷
    "6 NonPrim c11 g0 w0 p0@0{1,2,3,4,5,6,7} a2 v- y- r[] o[6:1] x{} b0" ∷
    "= 64" ∷
    "6 NonPrim t11 g0 w0 p0@0{1,2,3,4,5,6,7} a2 v- y- r[6:1] o[] x{} b0" ∷
    "= 65" ∷
    "6 ExchangeStates c12 g0 w0 p0@0{1,2,3,4,5,6,7} a2 v- y- r[6:1] o[] x{} b0" ∷
    "end 69" ∷
    [])
unfolding cases_compute
seven_replicas_attempt_broken_off_crash_in_a_device_call_a = refl
