-- Cases of cases/ with their whole reports, which `.ci/theorems` writes down here.
use Rattle.std.specs.Prelude.{◌≡◌, [], ◌∷◌}
use mathlib.Core.Path.{refl}
use Rattle.cg_run_cases.specs.Replaying.{put_by, written}
use Rattle.cg_run_cases.specs.Computing.{cases_compute}

-- Writes with one green line and one index: the greater creator wins, in whatever order they come.
relaxed_one_line_two_creators :
    put_by "relaxed" (
    "start 1 2 3" ∷
    "merge 1 2 3" ∷
    "rounds 2" ∷
    "split 1 2" ∷
    "split 3" ∷
    "merge 1 2" ∷
    "merge 3" ∷
    "rounds 2" ∷
    "request 3 put \"k\" \"three\"" ∷
    "request 1 put \"k\" \"one\"" ∷
    "request 2 put \"k\" \"two\"" ∷
    "rounds 1" ∷
    "relaxed 1 \"k\"" ∷
    "relaxed 2 \"k\"" ∷
    "relaxed 3 \"k\"" ∷
    "joined 1 3 \"k\"" ∷
    "joined 3 1 \"k\"" ∷
    "joined 2 2 \"k\"" ∷
    "split 1 2" ∷
    "split 3" ∷
    "merge 1 2 3" ∷
    "rounds 4" ∷
    "relaxed 1 \"k\"" ∷
    "relaxed 2 \"k\"" ∷
    "relaxed 3 \"k\"" ∷
    "weak 1 get \"k\"" ∷
    "end" ∷
    [])
    ≡ written (
    "= 1" ∷
    "1 NonPrim - g0 w0 p0@0{1,2,3} a0 v- y- r[] o[] x{} b0" ∷
    "2 NonPrim - g0 w0 p0@0{1,2,3} a0 v- y- r[] o[] x{} b0" ∷
    "3 NonPrim - g0 w0 p0@0{1,2,3} a0 v- y- r[] o[] x{} b0" ∷
    "= 2" ∷
    "1 ExchangeStates c1 g0 w0 p0@0{1,2,3} a0 v- y- r[] o[] x{} b0" ∷
    "2 ExchangeStates c1 g0 w0 p0@0{1,2,3} a0 v- y- r[] o[] x{} b0" ∷
    "3 ExchangeStates c1 g0 w0 p0@0{1,2,3} a0 v- y- r[] o[] x{} b0" ∷
    "= 4" ∷
    "1 Construct c1 g0 w0 p0@0{1,2,3} a1 v1/0{1,2,3}{1} y- r[] o[] x{} b0" ∷
    "= 5" ∷
    "2 Construct c1 g0 w0 p0@0{1,2,3} a1 v1/0{1,2,3}{2} y- r[] o[] x{} b0" ∷
    "= 6" ∷
    "3 Construct c1 g0 w0 p0@0{1,2,3} a1 v1/0{1,2,3}{3} y- r[] o[] x{} b0" ∷
    "= 8" ∷
    "1 RegPrim c1 g0 w0 p1@1{1,2,3} a0 v1/0{1,2,3}{1} y- r[] o[] x{} b0" ∷
    "= 9" ∷
    "2 RegPrim c1 g0 w0 p1@1{1,2,3} a0 v1/0{1,2,3}{2} y- r[] o[] x{} b0" ∷
    "= 10" ∷
    "3 RegPrim c1 g0 w0 p1@1{1,2,3} a0 v1/0{1,2,3}{3} y- r[] o[] x{} b0" ∷
    "= 11" ∷
    "1 TransPrim t1 g0 w0 p1@1{1,2,3} a0 v1/0{1,2,3}{1} y- r[] o[] x{} b0" ∷
    "2 TransPrim t1 g0 w0 p1@1{1,2,3} a0 v1/0{1,2,3}{2} y- r[] o[] x{} b0" ∷
    "= 12" ∷
    "3 TransPrim t1 g0 w0 p1@1{1,2,3} a0 v1/0{1,2,3}{3} y- r[] o[] x{} b0" ∷
    "= 13" ∷
    "1 ExchangeStates c2 g0 w0 p1@1{1,2,3} a0 v- y![] r[] o[] x{} b0" ∷
    "2 ExchangeStates c2 g0 w0 p1@1{1,2,3} a0 v- y![] r[] o[] x{} b0" ∷
    "= 14" ∷
    "3 ExchangeStates c3 g0 w0 p1@1{1,2,3} a0 v- y![] r[] o[] x{} b0" ∷
    "= 16" ∷
    "1 Construct c2 g0 w0 p1@1{1,2,3} a1 v2/1{1,2}{1} y![] r[] o[] x{} b0" ∷
    "= 17" ∷
    "2 Construct c2 g0 w0 p1@1{1,2,3} a1 v2/1{1,2}{2} y![] r[] o[] x{} b0" ∷
    "= 18" ∷
    "3 NonPrim c3 g0 w0 p1@1{1,2,3} a0 v- y![] r[] o[] x{} b0" ∷
    "= 20" ∷
    "1 RegPrim c2 g0 w0 p2@2{1,2} a0 v2/1{1,2}{1} y- r[] o[] x{} b0" ∷
    "= 21" ∷
    "2 RegPrim c2 g0 w0 p2@2{1,2} a0 v2/1{1,2}{2} y- r[] o[] x{} b0" ∷
    "= 22" ∷
    "made 3:1 put \"k\" \"three\"" ∷
    "3 NonPrim c3 g0 w0 p1@1{1,2,3} a0 v- y![] r[] o[3:1] x{} b0" ∷
    "= 23" ∷
    "made 1:1 put \"k\" \"one\"" ∷
    "1 RegPrim c2 g0 w0 p2@2{1,2} a0 v2/1{1,2}{1} y- r[] o[1:1] x{} b0" ∷
    "= 24" ∷
    "made 2:1 put \"k\" \"two\"" ∷
    "2 RegPrim c2 g0 w0 p2@2{1,2} a0 v2/1{1,2}{2} y- r[] o[2:1] x{} b0" ∷
    "= 26" ∷
    "order 1 1:1" ∷
    "order 2 2:1" ∷
    "1 RegPrim c2 g2 w0 p2@2{1,2} a0 v2/1{1,2}{1} y- r[] o[] x{} b0" ∷
    "reply 1:1 done" ∷
    "= 27" ∷
    "2 RegPrim c2 g2 w0 p2@2{1,2} a0 v2/1{1,2}{2} y- r[] o[] x{} b0" ∷
    "reply 2:1 done" ∷
    "= 28" ∷
    "3 NonPrim c3 g0 w0 p1@1{1,2,3} a0 v- y![] r[3:1] o[] x{} b0" ∷
    "= 29" ∷
    "relaxed 1 \"two\" 0" ∷
    "= 30" ∷
    "relaxed 2 \"two\" 0" ∷
    "= 31" ∷
    "relaxed 3 \"three\" 0" ∷
    "= 32" ∷
    "joined 1 3 \"three\" 0" ∷
    "= 33" ∷
    "joined 3 1 \"three\" 0" ∷
    "= 34" ∷
    "joined 2 2 \"two\" 0" ∷
    "= 35" ∷
    "1 TransPrim t2 g2 w0 p2@2{1,2} a0 v2/1{1,2}{1} y- r[] o[] x{} b0" ∷
    "2 TransPrim t2 g2 w0 p2@2{1,2} a0 v2/1{1,2}{2} y- r[] o[] x{} b0" ∷
    "= 36" ∷
    "3 NonPrim t3 g0 w0 p1@1{1,2,3} a0 v- y![] r[3:1] o[] x{} b0" ∷
    "= 37" ∷
    "1 ExchangeStates c4 g2 w0 p2@2{1,2} a0 v- y![] r[] o[] x{} b0" ∷
    "2 ExchangeStates c4 g2 w0 p2@2{1,2} a0 v- y![] r[] o[] x{} b0" ∷
    "3 ExchangeStates c4 g0 w0 p1@1{1,2,3} a0 v- y![] r[3:1] o[] x{} b0" ∷
    "= 39" ∷
    "1 ExchangeActions c4 g2 w0 p2@2{1,2} a0 v- y![] r[] o[] x{} b0" ∷
    "= 40" ∷
    "2 ExchangeActions c4 g2 w0 p2@2{1,2} a0 v- y![] r[] o[] x{} b0" ∷
    "= 41" ∷
    "3 ExchangeActions c4 g0 w0 p1@1{1,2,3} a0 v- y![] r[3:1] o[] x{} b0" ∷
    "= 45" ∷
    "3 ExchangeActions c4 g2 w0 p1@1{1,2,3} a0 v- y![] r[3:1] o[] x{} b0" ∷
    "= 47" ∷
    "1 Construct c4 g2 w0 p2@2{1,2} a1 v4/2{1,2,3}{1} y![] r[3:1] o[] x{} b0" ∷
    "= 48" ∷
    "2 Construct c4 g2 w0 p2@2{1,2} a1 v4/2{1,2,3}{2} y![] r[3:1] o[] x{} b0" ∷
    "= 49" ∷
    "3 Construct c4 g2 w0 p2@2{1,2} a1 v4/2{1,2,3}{3} y![] r[3:1] o[] x{} b0" ∷
    "= 51" ∷
    "order 3 3:1" ∷
    "1 RegPrim c4 g3 w0 p3@4{1,2,3} a0 v4/2{1,2,3}{1} y- r[] o[] x{} b0" ∷
    "= 52" ∷
    "2 RegPrim c4 g3 w0 p3@4{1,2,3} a0 v4/2{1,2,3}{2} y- r[] o[] x{} b0" ∷
    "= 53" ∷
    "3 RegPrim c4 g3 w0 p3@4{1,2,3} a0 v4/2{1,2,3}{3} y- r[] o[] x{} b0" ∷
    "reply 3:1 done" ∷
    "= 54" ∷
    "relaxed 1 \"three\" 0" ∷
    "= 55" ∷
    "relaxed 2 \"three\" 0" ∷
    "= 56" ∷
    "relaxed 3 \"three\" 0" ∷
    "= 57" ∷
    "weak 1 \"three\"" ∷
    "end 57" ∷
    [])
unfolding cases_compute
relaxed_one_line_two_creators = refl

-- Writes with one green line: the greater index wins over the greater creator.
relaxed_one_line_two_indexes :
    put_by "relaxed" (
    "start 1 2 3" ∷
    "merge 1 2 3" ∷
    "rounds 2" ∷
    "split 1 2" ∷
    "split 3" ∷
    "merge 1 2" ∷
    "merge 3" ∷
    "rounds 2" ∷
    "request 3 put \"k\" \"three one\"" ∷
    "request 1 put \"k\" \"one one\"" ∷
    "request 1 put \"k\" \"one two\"" ∷
    "gather" ∷
    "relaxed 1 \"k\"" ∷
    "rounds 1" ∷
    "joined 1 3 \"k\"" ∷
    "joined 3 2 \"k\"" ∷
    "request 3 del \"k\"" ∷
    "rounds 1" ∷
    "joined 1 3 \"k\"" ∷
    "relaxed 1 \"k\"" ∷
    "end" ∷
    [])
    ≡ written (
    "= 1" ∷
    "1 NonPrim - g0 w0 p0@0{1,2,3} a0 v- y- r[] o[] x{} b0" ∷
    "2 NonPrim - g0 w0 p0@0{1,2,3} a0 v- y- r[] o[] x{} b0" ∷
    "3 NonPrim - g0 w0 p0@0{1,2,3} a0 v- y- r[] o[] x{} b0" ∷
    "= 2" ∷
    "1 ExchangeStates c1 g0 w0 p0@0{1,2,3} a0 v- y- r[] o[] x{} b0" ∷
    "2 ExchangeStates c1 g0 w0 p0@0{1,2,3} a0 v- y- r[] o[] x{} b0" ∷
    "3 ExchangeStates c1 g0 w0 p0@0{1,2,3} a0 v- y- r[] o[] x{} b0" ∷
    "= 4" ∷
    "1 Construct c1 g0 w0 p0@0{1,2,3} a1 v1/0{1,2,3}{1} y- r[] o[] x{} b0" ∷
    "= 5" ∷
    "2 Construct c1 g0 w0 p0@0{1,2,3} a1 v1/0{1,2,3}{2} y- r[] o[] x{} b0" ∷
    "= 6" ∷
    "3 Construct c1 g0 w0 p0@0{1,2,3} a1 v1/0{1,2,3}{3} y- r[] o[] x{} b0" ∷
    "= 8" ∷
    "1 RegPrim c1 g0 w0 p1@1{1,2,3} a0 v1/0{1,2,3}{1} y- r[] o[] x{} b0" ∷
    "= 9" ∷
    "2 RegPrim c1 g0 w0 p1@1{1,2,3} a0 v1/0{1,2,3}{2} y- r[] o[] x{} b0" ∷
    "= 10" ∷
    "3 RegPrim c1 g0 w0 p1@1{1,2,3} a0 v1/0{1,2,3}{3} y- r[] o[] x{} b0" ∷
    "= 11" ∷
    "1 TransPrim t1 g0 w0 p1@1{1,2,3} a0 v1/0{1,2,3}{1} y- r[] o[] x{} b0" ∷
    "2 TransPrim t1 g0 w0 p1@1{1,2,3} a0 v1/0{1,2,3}{2} y- r[] o[] x{} b0" ∷
    "= 12" ∷
    "3 TransPrim t1 g0 w0 p1@1{1,2,3} a0 v1/0{1,2,3}{3} y- r[] o[] x{} b0" ∷
    "= 13" ∷
    "1 ExchangeStates c2 g0 w0 p1@1{1,2,3} a0 v- y![] r[] o[] x{} b0" ∷
    "2 ExchangeStates c2 g0 w0 p1@1{1,2,3} a0 v- y![] r[] o[] x{} b0" ∷
    "= 14" ∷
    "3 ExchangeStates c3 g0 w0 p1@1{1,2,3} a0 v- y![] r[] o[] x{} b0" ∷
    "= 16" ∷
    "1 Construct c2 g0 w0 p1@1{1,2,3} a1 v2/1{1,2}{1} y![] r[] o[] x{} b0" ∷
    "= 17" ∷
    "2 Construct c2 g0 w0 p1@1{1,2,3} a1 v2/1{1,2}{2} y![] r[] o[] x{} b0" ∷
    "= 18" ∷
    "3 NonPrim c3 g0 w0 p1@1{1,2,3} a0 v- y![] r[] o[] x{} b0" ∷
    "= 20" ∷
    "1 RegPrim c2 g0 w0 p2@2{1,2} a0 v2/1{1,2}{1} y- r[] o[] x{} b0" ∷
    "= 21" ∷
    "2 RegPrim c2 g0 w0 p2@2{1,2} a0 v2/1{1,2}{2} y- r[] o[] x{} b0" ∷
    "= 22" ∷
    "made 3:1 put \"k\" \"three one\"" ∷
    "3 NonPrim c3 g0 w0 p1@1{1,2,3} a0 v- y![] r[] o[3:1] x{} b0" ∷
    "= 23" ∷
    "made 1:1 put \"k\" \"one one\"" ∷
    "1 RegPrim c2 g0 w0 p2@2{1,2} a0 v2/1{1,2}{1} y- r[] o[1:1] x{} b0" ∷
    "= 24" ∷
    "made 1:2 put \"k\" \"one two\"" ∷
    "1 RegPrim c2 g0 w0 p2@2{1,2} a0 v2/1{1,2}{1} y- r[] o[1:1,1:2] x{} b0" ∷
    "= 26" ∷
    "relaxed 1 absent 0" ∷
    "= 28" ∷
    "order 1 1:1" ∷
    "order 2 1:2" ∷
    "1 RegPrim c2 g2 w0 p2@2{1,2} a0 v2/1{1,2}{1} y- r[] o[] x{} b0" ∷
    "reply 1:1 done" ∷
    "reply 1:2 done" ∷
    "= 29" ∷
    "2 RegPrim c2 g2 w0 p2@2{1,2} a0 v2/1{1,2}{2} y- r[] o[] x{} b0" ∷
    "= 30" ∷
    "3 NonPrim c3 g0 w0 p1@1{1,2,3} a0 v- y![] r[3:1] o[] x{} b0" ∷
    "= 31" ∷
    "joined 1 3 \"one two\" 0" ∷
    "= 32" ∷
    "joined 3 2 \"one two\" 0" ∷
    "= 33" ∷
    "made 3:2 del \"k\"" ∷
    "3 NonPrim c3 g0 w0 p1@1{1,2,3} a0 v- y![] r[3:1] o[3:2] x{} b0" ∷
    "= 35" ∷
    "3 NonPrim c3 g0 w0 p1@1{1,2,3} a0 v- y![] r[3:1,3:2] o[] x{} b0" ∷
    "= 36" ∷
    "joined 1 3 absent 0" ∷
    "= 37" ∷
    "relaxed 1 \"one two\" 0" ∷
    "end 37" ∷
    [])
unfolding cases_compute
relaxed_one_line_two_indexes = refl

-- An update with cas, move or need is passed over with all its commands, and so are joins, leaves and queries alone.
relaxed_passed_over_whole :
    put_by "relaxed" (
    "start 1 2 3" ∷
    "merge 1 2 3" ∷
    "rounds 2" ∷
    "request 1 put \"a\" 1; cas \"a\" 1 2" ∷
    "request 1 inc \"a\" 7; move \"a\" \"b\" 0" ∷
    "request 2 need \"zz\" absent; put \"a\" 3; inc \"a\" 1" ∷
    "request 3 inc \"a\" 2 ? get \"a\"" ∷
    "request 3 ? get \"a\"" ∷
    "join 1 4" ∷
    "leave 2 4" ∷
    "rounds 1" ∷
    "weak 1 get \"a\"" ∷
    "relaxed 1 \"a\"" ∷
    "relaxed 1 \"b\"" ∷
    "request 1 put \"a\" 9" ∷
    "rounds 1" ∷
    "relaxed 2 \"a\"" ∷
    "end" ∷
    [])
    ≡ written (
    "= 1" ∷
    "1 NonPrim - g0 w0 p0@0{1,2,3} a0 v- y- r[] o[] x{} b0" ∷
    "2 NonPrim - g0 w0 p0@0{1,2,3} a0 v- y- r[] o[] x{} b0" ∷
    "3 NonPrim - g0 w0 p0@0{1,2,3} a0 v- y- r[] o[] x{} b0" ∷
    "= 2" ∷
    "1 ExchangeStates c1 g0 w0 p0@0{1,2,3} a0 v- y- r[] o[] x{} b0" ∷
    "2 ExchangeStates c1 g0 w0 p0@0{1,2,3} a0 v- y- r[] o[] x{} b0" ∷
    "3 ExchangeStates c1 g0 w0 p0@0{1,2,3} a0 v- y- r[] o[] x{} b0" ∷
    "= 4" ∷
    "1 Construct c1 g0 w0 p0@0{1,2,3} a1 v1/0{1,2,3}{1} y- r[] o[] x{} b0" ∷
    "= 5" ∷
    "2 Construct c1 g0 w0 p0@0{1,2,3} a1 v1/0{1,2,3}{2} y- r[] o[] x{} b0" ∷
    "= 6" ∷
    "3 Construct c1 g0 w0 p0@0{1,2,3} a1 v1/0{1,2,3}{3} y- r[] o[] x{} b0" ∷
    "= 8" ∷
    "1 RegPrim c1 g0 w0 p1@1{1,2,3} a0 v1/0{1,2,3}{1} y- r[] o[] x{} b0" ∷
    "= 9" ∷
    "2 RegPrim c1 g0 w0 p1@1{1,2,3} a0 v1/0{1,2,3}{2} y- r[] o[] x{} b0" ∷
    "= 10" ∷
    "3 RegPrim c1 g0 w0 p1@1{1,2,3} a0 v1/0{1,2,3}{3} y- r[] o[] x{} b0" ∷
    "= 11" ∷
    "made 1:1 put \"a\" 1; cas \"a\" 1 2" ∷
    "1 RegPrim c1 g0 w0 p1@1{1,2,3} a0 v1/0{1,2,3}{1} y- r[] o[1:1] x{} b0" ∷
    "= 12" ∷
    "made 1:2 inc \"a\" 7; move \"a\" \"b\" 0" ∷
    "1 RegPrim c1 g0 w0 p1@1{1,2,3} a0 v1/0{1,2,3}{1} y- r[] o[1:1,1:2] x{} b0" ∷
    "= 13" ∷
    "made 2:1 need \"zz\" absent; put \"a\" 3; inc \"a\" 1" ∷
    "2 RegPrim c1 g0 w0 p1@1{1,2,3} a0 v1/0{1,2,3}{2} y- r[] o[2:1] x{} b0" ∷
    "= 14" ∷
    "made 3:1 inc \"a\" 2 ? get \"a\"" ∷
    "3 RegPrim c1 g0 w0 p1@1{1,2,3} a0 v1/0{1,2,3}{3} y- r[] o[3:1] x{} b0" ∷
    "= 15" ∷
    "made 3:2 ? get \"a\"" ∷
    "3 RegPrim c1 g0 w0 p1@1{1,2,3} a0 v1/0{1,2,3}{3} y- r[] o[3:1,3:2] x{} b0" ∷
    "= 16" ∷
    "made 1:3 join 4" ∷
    "1 RegPrim c1 g0 w0 p1@1{1,2,3} a0 v1/0{1,2,3}{1} y- r[] o[1:1,1:2,1:3] x{} b0" ∷
    "= 17" ∷
    "made 2:2 leave 4" ∷
    "2 RegPrim c1 g0 w0 p1@1{1,2,3} a0 v1/0{1,2,3}{2} y- r[] o[2:1,2:2] x{} b0" ∷
    "= 19" ∷
    "order 1 1:1" ∷
    "order 2 1:2" ∷
    "order 3 1:3" ∷
    "order 4 2:1" ∷
    "order 5 2:2" ∷
    "order 6 3:1" ∷
    "order 7 3:2" ∷
    "1 RegPrim c1 g7 w0 p1@1{1,2,3} a0 v1/0{1,2,3}{1} y- r[] o[] x{4} b0" ∷
    "reply 1:1 done" ∷
    "reply 1:2 done" ∷
    "reply 1:3 done" ∷
    "= 20" ∷
    "2 RegPrim c1 g7 w0 p1@1{1,2,3} a0 v1/0{1,2,3}{2} y- r[] o[] x{4} b0" ∷
    "reply 2:1 done" ∷
    "reply 2:2 done" ∷
    "= 21" ∷
    "3 RegPrim c1 g7 w0 p1@1{1,2,3} a0 v1/0{1,2,3}{3} y- r[] o[] x{4} b0" ∷
    "reply 3:1 done ? 6" ∷
    "reply 3:2 done ? 6" ∷
    "= 22" ∷
    "weak 1 6" ∷
    "= 23" ∷
    "relaxed 1 absent 2" ∷
    "= 24" ∷
    "relaxed 1 absent 0" ∷
    "= 25" ∷
    "made 1:4 put \"a\" 9" ∷
    "1 RegPrim c1 g7 w0 p1@1{1,2,3} a0 v1/0{1,2,3}{1} y- r[] o[1:4] x{4} b0" ∷
    "= 27" ∷
    "order 8 1:4" ∷
    "1 RegPrim c1 g8 w0 p1@1{1,2,3} a0 v1/0{1,2,3}{1} y- r[] o[] x{4} b0" ∷
    "reply 1:4 done" ∷
    "= 28" ∷
    "2 RegPrim c1 g8 w0 p1@1{1,2,3} a0 v1/0{1,2,3}{2} y- r[] o[] x{4} b0" ∷
    "= 29" ∷
    "3 RegPrim c1 g8 w0 p1@1{1,2,3} a0 v1/0{1,2,3}{3} y- r[] o[] x{4} b0" ∷
    "= 30" ∷
    "relaxed 2 9 2" ∷
    "end 30" ∷
    [])
unfolding cases_compute
relaxed_passed_over_whole = refl

-- In one action the later command wins; sums of all its commands are added.
relaxed_places_in_one_action :
    put_by "relaxed" (
    "start 1 2 3" ∷
    "merge 1 2 3" ∷
    "rounds 2" ∷
    "request 1 put \"k\" 1; inc \"k\" 4; put \"k\" 2; inc \"j\" 1; del \"k\"; put \"k\" \"last\"; inc \"k\" -1" ∷
    "request 2 put \"j\" 1; del \"j\"" ∷
    "rounds 1" ∷
    "relaxed 1 \"k\"" ∷
    "relaxed 2 \"j\"" ∷
    "end" ∷
    [])
    ≡ written (
    "= 1" ∷
    "1 NonPrim - g0 w0 p0@0{1,2,3} a0 v- y- r[] o[] x{} b0" ∷
    "2 NonPrim - g0 w0 p0@0{1,2,3} a0 v- y- r[] o[] x{} b0" ∷
    "3 NonPrim - g0 w0 p0@0{1,2,3} a0 v- y- r[] o[] x{} b0" ∷
    "= 2" ∷
    "1 ExchangeStates c1 g0 w0 p0@0{1,2,3} a0 v- y- r[] o[] x{} b0" ∷
    "2 ExchangeStates c1 g0 w0 p0@0{1,2,3} a0 v- y- r[] o[] x{} b0" ∷
    "3 ExchangeStates c1 g0 w0 p0@0{1,2,3} a0 v- y- r[] o[] x{} b0" ∷
    "= 4" ∷
    "1 Construct c1 g0 w0 p0@0{1,2,3} a1 v1/0{1,2,3}{1} y- r[] o[] x{} b0" ∷
    "= 5" ∷
    "2 Construct c1 g0 w0 p0@0{1,2,3} a1 v1/0{1,2,3}{2} y- r[] o[] x{} b0" ∷
    "= 6" ∷
    "3 Construct c1 g0 w0 p0@0{1,2,3} a1 v1/0{1,2,3}{3} y- r[] o[] x{} b0" ∷
    "= 8" ∷
    "1 RegPrim c1 g0 w0 p1@1{1,2,3} a0 v1/0{1,2,3}{1} y- r[] o[] x{} b0" ∷
    "= 9" ∷
    "2 RegPrim c1 g0 w0 p1@1{1,2,3} a0 v1/0{1,2,3}{2} y- r[] o[] x{} b0" ∷
    "= 10" ∷
    "3 RegPrim c1 g0 w0 p1@1{1,2,3} a0 v1/0{1,2,3}{3} y- r[] o[] x{} b0" ∷
    "= 11" ∷
    "made 1:1 put \"k\" 1; inc \"k\" 4; put \"k\" 2; inc \"j\" 1; del \"k\"; put \"k\" \"last\"; inc \"k\" -1" ∷
    "1 RegPrim c1 g0 w0 p1@1{1,2,3} a0 v1/0{1,2,3}{1} y- r[] o[1:1] x{} b0" ∷
    "= 12" ∷
    "made 2:1 put \"j\" 1; del \"j\"" ∷
    "2 RegPrim c1 g0 w0 p1@1{1,2,3} a0 v1/0{1,2,3}{2} y- r[] o[2:1] x{} b0" ∷
    "= 14" ∷
    "order 1 1:1" ∷
    "order 2 2:1" ∷
    "1 RegPrim c1 g2 w0 p1@1{1,2,3} a0 v1/0{1,2,3}{1} y- r[] o[] x{} b0" ∷
    "reply 1:1 aborted 7" ∷
    "= 15" ∷
    "2 RegPrim c1 g2 w0 p1@1{1,2,3} a0 v1/0{1,2,3}{2} y- r[] o[] x{} b0" ∷
    "reply 2:1 done" ∷
    "= 16" ∷
    "3 RegPrim c1 g2 w0 p1@1{1,2,3} a0 v1/0{1,2,3}{3} y- r[] o[] x{} b0" ∷
    "= 17" ∷
    "relaxed 1 \"last\" 3" ∷
    "= 18" ∷
    "relaxed 2 absent 1" ∷
    "end 18" ∷
    [])
unfolding cases_compute
relaxed_places_in_one_action = refl

-- In a component without a quorum another member's action is red, lost at a crash, and known again after the merge.
relaxed_red_marks_lost_and_known_again :
    put_by "relaxed" (
    "start 1 2 3 4 5" ∷
    "merge 1 2 3 4 5" ∷
    "rounds 2" ∷
    "split 1 2 3" ∷
    "split 4 5" ∷
    "merge 4 5" ∷
    "merge 1 2 3" ∷
    "rounds 2" ∷
    "request 4 inc \"x\" 4" ∷
    "request 4 put \"x\" \"four\"" ∷
    "rounds 1" ∷
    "relaxed 5 \"x\"" ∷
    "joined 5 1 \"x\"" ∷
    "stop 5 0 -" ∷
    "recover 5" ∷
    "relaxed 5 \"x\"" ∷
    "joined 5 4 \"x\"" ∷
    "split 4" ∷
    "merge 4 5" ∷
    "rounds 4" ∷
    "relaxed 5 \"x\"" ∷
    "end" ∷
    [])
    ≡ written (
    "= 1" ∷
    "1 NonPrim - g0 w0 p0@0{1,2,3,4,5} a0 v- y- r[] o[] x{} b0" ∷
    "2 NonPrim - g0 w0 p0@0{1,2,3,4,5} a0 v- y- r[] o[] x{} b0" ∷
    "3 NonPrim - g0 w0 p0@0{1,2,3,4,5} a0 v- y- r[] o[] x{} b0" ∷
    "4 NonPrim - g0 w0 p0@0{1,2,3,4,5} a0 v- y- r[] o[] x{} b0" ∷
    "5 NonPrim - g0 w0 p0@0{1,2,3,4,5} a0 v- y- r[] o[] x{} b0" ∷
    "= 2" ∷
    "1 ExchangeStates c1 g0 w0 p0@0{1,2,3,4,5} a0 v- y- r[] o[] x{} b0" ∷
    "2 ExchangeStates c1 g0 w0 p0@0{1,2,3,4,5} a0 v- y- r[] o[] x{} b0" ∷
    "3 ExchangeStates c1 g0 w0 p0@0{1,2,3,4,5} a0 v- y- r[] o[] x{} b0" ∷
    "4 ExchangeStates c1 g0 w0 p0@0{1,2,3,4,5} a0 v- y- r[] o[] x{} b0" ∷
    "5 ExchangeStates c1 g0 w0 p0@0{1,2,3,4,5} a0 v- y- r[] o[] x{} b0" ∷
    "= 4" ∷
    "1 Construct c1 g0 w0 p0@0{1,2,3,4,5} a1 v1/0{1,2,3,4,5}{1} y- r[] o[] x{} b0" ∷
    "= 5" ∷
    "2 Construct c1 g0 w0 p0@0{1,2,3,4,5} a1 v1/0{1,2,3,4,5}{2} y- r[] o[] x{} b0" ∷
    "= 6" ∷
    "3 Construct c1 g0 w0 p0@0{1,2,3,4,5} a1 v1/0{1,2,3,4,5}{3} y- r[] o[] x{} b0" ∷
    "= 7" ∷
    "4 Construct c1 g0 w0 p0@0{1,2,3,4,5} a1 v1/0{1,2,3,4,5}{4} y- r[] o[] x{} b0" ∷
    "= 8" ∷
    "5 Construct c1 g0 w0 p0@0{1,2,3,4,5} a1 v1/0{1,2,3,4,5}{5} y- r[] o[] x{} b0" ∷
    "= 10" ∷
    "1 RegPrim c1 g0 w0 p1@1{1,2,3,4,5} a0 v1/0{1,2,3,4,5}{1} y- r[] o[] x{} b0" ∷
    "= 11" ∷
    "2 RegPrim c1 g0 w0 p1@1{1,2,3,4,5} a0 v1/0{1,2,3,4,5}{2} y- r[] o[] x{} b0" ∷
    "= 12" ∷
    "3 RegPrim c1 g0 w0 p1@1{1,2,3,4,5} a0 v1/0{1,2,3,4,5}{3} y- r[] o[] x{} b0" ∷
    "= 13" ∷
    "4 RegPrim c1 g0 w0 p1@1{1,2,3,4,5} a0 v1/0{1,2,3,4,5}{4} y- r[] o[] x{} b0" ∷
    "= 14" ∷
    "5 RegPrim c1 g0 w0 p1@1{1,2,3,4,5} a0 v1/0{1,2,3,4,5}{5} y- r[] o[] x{} b0" ∷
    "= 15" ∷
    "1 TransPrim t1 g0 w0 p1@1{1,2,3,4,5} a0 v1/0{1,2,3,4,5}{1} y- r[] o[] x{} b0" ∷
    "2 TransPrim t1 g0 w0 p1@1{1,2,3,4,5} a0 v1/0{1,2,3,4,5}{2} y- r[] o[] x{} b0" ∷
    "3 TransPrim t1 g0 w0 p1@1{1,2,3,4,5} a0 v1/0{1,2,3,4,5}{3} y- r[] o[] x{} b0" ∷
    "= 16" ∷
    "4 TransPrim t1 g0 w0 p1@1{1,2,3,4,5} a0 v1/0{1,2,3,4,5}{4} y- r[] o[] x{} b0" ∷
    "5 TransPrim t1 g0 w0 p1@1{1,2,3,4,5} a0 v1/0{1,2,3,4,5}{5} y- r[] o[] x{} b0" ∷
    "= 17" ∷
    "4 ExchangeStates c2 g0 w0 p1@1{1,2,3,4,5} a0 v- y![] r[] o[] x{} b0" ∷
    "5 ExchangeStates c2 g0 w0 p1@1{1,2,3,4,5} a0 v- y![] r[] o[] x{} b0" ∷
    "= 18" ∷
    "1 ExchangeStates c3 g0 w0 p1@1{1,2,3,4,5} a0 v- y![] r[] o[] x{} b0" ∷
    "2 ExchangeStates c3 g0 w0 p1@1{1,2,3,4,5} a0 v- y![] r[] o[] x{} b0" ∷
    "3 ExchangeStates c3 g0 w0 p1@1{1,2,3,4,5} a0 v- y![] r[] o[] x{} b0" ∷
    "= 20" ∷
    "1 Construct c3 g0 w0 p1@1{1,2,3,4,5} a1 v3/1{1,2,3}{1} y![] r[] o[] x{} b0" ∷
    "= 21" ∷
    "2 Construct c3 g0 w0 p1@1{1,2,3,4,5} a1 v3/1{1,2,3}{2} y![] r[] o[] x{} b0" ∷
    "= 22" ∷
    "3 Construct c3 g0 w0 p1@1{1,2,3,4,5} a1 v3/1{1,2,3}{3} y![] r[] o[] x{} b0" ∷
    "= 23" ∷
    "4 NonPrim c2 g0 w0 p1@1{1,2,3,4,5} a0 v- y![] r[] o[] x{} b0" ∷
    "= 24" ∷
    "5 NonPrim c2 g0 w0 p1@1{1,2,3,4,5} a0 v- y![] r[] o[] x{} b0" ∷
    "= 26" ∷
    "1 RegPrim c3 g0 w0 p2@3{1,2,3} a0 v3/1{1,2,3}{1} y- r[] o[] x{} b0" ∷
    "= 27" ∷
    "2 RegPrim c3 g0 w0 p2@3{1,2,3} a0 v3/1{1,2,3}{2} y- r[] o[] x{} b0" ∷
    "= 28" ∷
    "3 RegPrim c3 g0 w0 p2@3{1,2,3} a0 v3/1{1,2,3}{3} y- r[] o[] x{} b0" ∷
    "= 29" ∷
    "made 4:1 inc \"x\" 4" ∷
    "4 NonPrim c2 g0 w0 p1@1{1,2,3,4,5} a0 v- y![] r[] o[4:1] x{} b0" ∷
    "= 30" ∷
    "made 4:2 put \"x\" \"four\"" ∷
    "4 NonPrim c2 g0 w0 p1@1{1,2,3,4,5} a0 v- y![] r[] o[4:1,4:2] x{} b0" ∷
    "= 32" ∷
    "4 NonPrim c2 g0 w0 p1@1{1,2,3,4,5} a0 v- y![] r[4:1,4:2] o[] x{} b0" ∷
    "= 33" ∷
    "5 NonPrim c2 g0 w0 p1@1{1,2,3,4,5} a0 v- y![] r[4:1,4:2] o[] x{} b0" ∷
    "= 34" ∷
    "relaxed 5 \"four\" 4" ∷
    "= 35" ∷
    "joined 5 1 \"four\" 4" ∷
    "= 36" ∷
    "5 Down" ∷
    "= 37" ∷
    "5 NonPrim - g0 w0 p1@1{1,2,3,4,5} a0 v- y![] r[] o[] x{} b0" ∷
    "= 38" ∷
    "relaxed 5 absent 0" ∷
    "= 39" ∷
    "joined 5 4 \"four\" 4" ∷
    "= 40" ∷
    "4 NonPrim t2 g0 w0 p1@1{1,2,3,4,5} a0 v- y![] r[4:1,4:2] o[] x{} b0" ∷
    "= 41" ∷
    "4 ExchangeStates c4 g0 w0 p1@1{1,2,3,4,5} a0 v- y![] r[4:1,4:2] o[] x{} b0" ∷
    "5 ExchangeStates c4 g0 w0 p1@1{1,2,3,4,5} a0 v- y![] r[] o[] x{} b0" ∷
    "= 43" ∷
    "4 ExchangeActions c4 g0 w0 p1@1{1,2,3,4,5} a0 v- y![] r[4:1,4:2] o[] x{} b0" ∷
    "= 44" ∷
    "5 ExchangeActions c4 g0 w0 p1@1{1,2,3,4,5} a0 v- y![] r[] o[] x{} b0" ∷
    "= 46" ∷
    "4 NonPrim c4 g0 w0 p1@1{1,2,3,4,5} a0 v- y![] r[4:1,4:2] o[] x{} b0" ∷
    "= 47" ∷
    "5 NonPrim c4 g0 w0 p1@1{1,2,3,4,5} a0 v- y![] r[4:1,4:2] o[] x{} b0" ∷
    "= 50" ∷
    "relaxed 5 \"four\" 4" ∷
    "end 50" ∷
    [])
unfolding cases_compute
relaxed_red_marks_lost_and_known_again = refl

-- Of two replicas the first is tested first, wholly.
relaxed_refused_first_of_two_is_down :
    put_by "relaxed" (
    "start 1 2 3" ∷
    "merge 1 2 3" ∷
    "rounds 2" ∷
    "stop 2 0 -" ∷
    "joined 2 9 \"x\"" ∷
    [])
    ≡ written (
    "= 1" ∷
    "1 NonPrim - g0 w0 p0@0{1,2,3} a0 v- y- r[] o[] x{} b0" ∷
    "2 NonPrim - g0 w0 p0@0{1,2,3} a0 v- y- r[] o[] x{} b0" ∷
    "3 NonPrim - g0 w0 p0@0{1,2,3} a0 v- y- r[] o[] x{} b0" ∷
    "= 2" ∷
    "1 ExchangeStates c1 g0 w0 p0@0{1,2,3} a0 v- y- r[] o[] x{} b0" ∷
    "2 ExchangeStates c1 g0 w0 p0@0{1,2,3} a0 v- y- r[] o[] x{} b0" ∷
    "3 ExchangeStates c1 g0 w0 p0@0{1,2,3} a0 v- y- r[] o[] x{} b0" ∷
    "= 4" ∷
    "1 Construct c1 g0 w0 p0@0{1,2,3} a1 v1/0{1,2,3}{1} y- r[] o[] x{} b0" ∷
    "= 5" ∷
    "2 Construct c1 g0 w0 p0@0{1,2,3} a1 v1/0{1,2,3}{2} y- r[] o[] x{} b0" ∷
    "= 6" ∷
    "3 Construct c1 g0 w0 p0@0{1,2,3} a1 v1/0{1,2,3}{3} y- r[] o[] x{} b0" ∷
    "= 8" ∷
    "1 RegPrim c1 g0 w0 p1@1{1,2,3} a0 v1/0{1,2,3}{1} y- r[] o[] x{} b0" ∷
    "= 9" ∷
    "2 RegPrim c1 g0 w0 p1@1{1,2,3} a0 v1/0{1,2,3}{2} y- r[] o[] x{} b0" ∷
    "= 10" ∷
    "3 RegPrim c1 g0 w0 p1@1{1,2,3} a0 v1/0{1,2,3}{3} y- r[] o[] x{} b0" ∷
    "= 11" ∷
    "2 Down" ∷
    "refused 5 1 2" ∷
    [])
unfolding cases_compute
relaxed_refused_first_of_two_is_down = refl

-- A replica that is down is not asked.
relaxed_refused_one_that_is_down :
    put_by "relaxed" (
    "start 1 2 3" ∷
    "merge 1 2 3" ∷
    "rounds 2" ∷
    "stop 2 0 -" ∷
    "relaxed 2 \"x\"" ∷
    [])
    ≡ written (
    "= 1" ∷
    "1 NonPrim - g0 w0 p0@0{1,2,3} a0 v- y- r[] o[] x{} b0" ∷
    "2 NonPrim - g0 w0 p0@0{1,2,3} a0 v- y- r[] o[] x{} b0" ∷
    "3 NonPrim - g0 w0 p0@0{1,2,3} a0 v- y- r[] o[] x{} b0" ∷
    "= 2" ∷
    "1 ExchangeStates c1 g0 w0 p0@0{1,2,3} a0 v- y- r[] o[] x{} b0" ∷
    "2 ExchangeStates c1 g0 w0 p0@0{1,2,3} a0 v- y- r[] o[] x{} b0" ∷
    "3 ExchangeStates c1 g0 w0 p0@0{1,2,3} a0 v- y- r[] o[] x{} b0" ∷
    "= 4" ∷
    "1 Construct c1 g0 w0 p0@0{1,2,3} a1 v1/0{1,2,3}{1} y- r[] o[] x{} b0" ∷
    "= 5" ∷
    "2 Construct c1 g0 w0 p0@0{1,2,3} a1 v1/0{1,2,3}{2} y- r[] o[] x{} b0" ∷
    "= 6" ∷
    "3 Construct c1 g0 w0 p0@0{1,2,3} a1 v1/0{1,2,3}{3} y- r[] o[] x{} b0" ∷
    "= 8" ∷
    "1 RegPrim c1 g0 w0 p1@1{1,2,3} a0 v1/0{1,2,3}{1} y- r[] o[] x{} b0" ∷
    "= 9" ∷
    "2 RegPrim c1 g0 w0 p1@1{1,2,3} a0 v1/0{1,2,3}{2} y- r[] o[] x{} b0" ∷
    "= 10" ∷
    "3 RegPrim c1 g0 w0 p1@1{1,2,3} a0 v1/0{1,2,3}{3} y- r[] o[] x{} b0" ∷
    "= 11" ∷
    "2 Down" ∷
    "refused 5 1 2" ∷
    [])
unfolding cases_compute
relaxed_refused_one_that_is_down = refl

-- The second of two replicas must be up.
relaxed_refused_second_of_two_is_down :
    put_by "relaxed" (
    "start 1 2 3" ∷
    "merge 1 2 3" ∷
    "rounds 2" ∷
    "stop 2 0 -" ∷
    "joined 1 2 \"x\"" ∷
    [])
    ≡ written (
    "= 1" ∷
    "1 NonPrim - g0 w0 p0@0{1,2,3} a0 v- y- r[] o[] x{} b0" ∷
    "2 NonPrim - g0 w0 p0@0{1,2,3} a0 v- y- r[] o[] x{} b0" ∷
    "3 NonPrim - g0 w0 p0@0{1,2,3} a0 v- y- r[] o[] x{} b0" ∷
    "= 2" ∷
    "1 ExchangeStates c1 g0 w0 p0@0{1,2,3} a0 v- y- r[] o[] x{} b0" ∷
    "2 ExchangeStates c1 g0 w0 p0@0{1,2,3} a0 v- y- r[] o[] x{} b0" ∷
    "3 ExchangeStates c1 g0 w0 p0@0{1,2,3} a0 v- y- r[] o[] x{} b0" ∷
    "= 4" ∷
    "1 Construct c1 g0 w0 p0@0{1,2,3} a1 v1/0{1,2,3}{1} y- r[] o[] x{} b0" ∷
    "= 5" ∷
    "2 Construct c1 g0 w0 p0@0{1,2,3} a1 v1/0{1,2,3}{2} y- r[] o[] x{} b0" ∷
    "= 6" ∷
    "3 Construct c1 g0 w0 p0@0{1,2,3} a1 v1/0{1,2,3}{3} y- r[] o[] x{} b0" ∷
    "= 8" ∷
    "1 RegPrim c1 g0 w0 p1@1{1,2,3} a0 v1/0{1,2,3}{1} y- r[] o[] x{} b0" ∷
    "= 9" ∷
    "2 RegPrim c1 g0 w0 p1@1{1,2,3} a0 v1/0{1,2,3}{2} y- r[] o[] x{} b0" ∷
    "= 10" ∷
    "3 RegPrim c1 g0 w0 p1@1{1,2,3} a0 v1/0{1,2,3}{3} y- r[] o[] x{} b0" ∷
    "= 11" ∷
    "2 Down" ∷
    "refused 5 1 2" ∷
    [])
unfolding cases_compute
relaxed_refused_second_of_two_is_down = refl

-- The second of two replicas must have begun.
relaxed_refused_second_of_two_is_unknown :
    put_by "relaxed" (
    "start 1 2 3" ∷
    "merge 1 2 3" ∷
    "rounds 2" ∷
    "stop 2 0 -" ∷
    "joined 1 9 \"x\"" ∷
    [])
    ≡ written (
    "= 1" ∷
    "1 NonPrim - g0 w0 p0@0{1,2,3} a0 v- y- r[] o[] x{} b0" ∷
    "2 NonPrim - g0 w0 p0@0{1,2,3} a0 v- y- r[] o[] x{} b0" ∷
    "3 NonPrim - g0 w0 p0@0{1,2,3} a0 v- y- r[] o[] x{} b0" ∷
    "= 2" ∷
    "1 ExchangeStates c1 g0 w0 p0@0{1,2,3} a0 v- y- r[] o[] x{} b0" ∷
    "2 ExchangeStates c1 g0 w0 p0@0{1,2,3} a0 v- y- r[] o[] x{} b0" ∷
    "3 ExchangeStates c1 g0 w0 p0@0{1,2,3} a0 v- y- r[] o[] x{} b0" ∷
    "= 4" ∷
    "1 Construct c1 g0 w0 p0@0{1,2,3} a1 v1/0{1,2,3}{1} y- r[] o[] x{} b0" ∷
    "= 5" ∷
    "2 Construct c1 g0 w0 p0@0{1,2,3} a1 v1/0{1,2,3}{2} y- r[] o[] x{} b0" ∷
    "= 6" ∷
    "3 Construct c1 g0 w0 p0@0{1,2,3} a1 v1/0{1,2,3}{3} y- r[] o[] x{} b0" ∷
    "= 8" ∷
    "1 RegPrim c1 g0 w0 p1@1{1,2,3} a0 v1/0{1,2,3}{1} y- r[] o[] x{} b0" ∷
    "= 9" ∷
    "2 RegPrim c1 g0 w0 p1@1{1,2,3} a0 v1/0{1,2,3}{2} y- r[] o[] x{} b0" ∷
    "= 10" ∷
    "3 RegPrim c1 g0 w0 p1@1{1,2,3} a0 v1/0{1,2,3}{3} y- r[] o[] x{} b0" ∷
    "= 11" ∷
    "2 Down" ∷
    "refused 5 11 9" ∷
    [])
unfolding cases_compute
relaxed_refused_second_of_two_is_unknown = refl

-- A replica that has not begun is not asked.
relaxed_refused_unknown_replica :
    put_by "relaxed" (
    "start 1 2 3" ∷
    "merge 1 2 3" ∷
    "rounds 2" ∷
    "relaxed 9 \"x\"" ∷
    [])
    ≡ written (
    "= 1" ∷
    "1 NonPrim - g0 w0 p0@0{1,2,3} a0 v- y- r[] o[] x{} b0" ∷
    "2 NonPrim - g0 w0 p0@0{1,2,3} a0 v- y- r[] o[] x{} b0" ∷
    "3 NonPrim - g0 w0 p0@0{1,2,3} a0 v- y- r[] o[] x{} b0" ∷
    "= 2" ∷
    "1 ExchangeStates c1 g0 w0 p0@0{1,2,3} a0 v- y- r[] o[] x{} b0" ∷
    "2 ExchangeStates c1 g0 w0 p0@0{1,2,3} a0 v- y- r[] o[] x{} b0" ∷
    "3 ExchangeStates c1 g0 w0 p0@0{1,2,3} a0 v- y- r[] o[] x{} b0" ∷
    "= 4" ∷
    "1 Construct c1 g0 w0 p0@0{1,2,3} a1 v1/0{1,2,3}{1} y- r[] o[] x{} b0" ∷
    "= 5" ∷
    "2 Construct c1 g0 w0 p0@0{1,2,3} a1 v1/0{1,2,3}{2} y- r[] o[] x{} b0" ∷
    "= 6" ∷
    "3 Construct c1 g0 w0 p0@0{1,2,3} a1 v1/0{1,2,3}{3} y- r[] o[] x{} b0" ∷
    "= 8" ∷
    "1 RegPrim c1 g0 w0 p1@1{1,2,3} a0 v1/0{1,2,3}{1} y- r[] o[] x{} b0" ∷
    "= 9" ∷
    "2 RegPrim c1 g0 w0 p1@1{1,2,3} a0 v1/0{1,2,3}{2} y- r[] o[] x{} b0" ∷
    "= 10" ∷
    "3 RegPrim c1 g0 w0 p1@1{1,2,3} a0 v1/0{1,2,3}{3} y- r[] o[] x{} b0" ∷
    "refused 4 11 9" ∷
    [])
unfolding cases_compute
relaxed_refused_unknown_replica = refl
