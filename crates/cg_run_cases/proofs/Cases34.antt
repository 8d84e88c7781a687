-- Cases of cases/ with their whole reports, which `.ci/theorems` writes down here.
use Rattle.std.specs.Prelude.{◌≡◌, [], ◌∷◌}
use mathlib.Core.Path.{refl}
use Rattle.cg_run_cases.specs.Replaying.{replayed_text, written}
use Rattle.cg_run_cases.specs.Computing.{cases_compute}

-- Of members with equal green counts the lowest is the most updated.
tie_of_green_counts_goes_to_the_lowest_b :
    replayed_text (
    "start 1 2 3 4" ∷
    "merge 1 2 3 4" ∷
    "split 2 3 4" ∷
    "split 1" ∷
    "merge 1" ∷
    "merge 2 3 4" ∷
    "join 4 11" ∷
    "rounds 2" ∷
    "join 2 5" ∷
    "gather" ∷
    "deliver 4 2" ∷
    "split 2 3 4" ∷
    "split 1" ∷
    "merge 1 2 3 4" ∷
    "gather" ∷
    "deliver 4 4" ∷
    "rounds 1" ∷
    "end" ∷
    [])
    ≡ written (
    "= 1" ∷
    "1 NonPrim - g0 w0 p0@0{1,2,3,4} a0 v- y- r[] o[] x{} b0" ∷
    "2 NonPrim - g0 w0 p0@0{1,2,3,4} a0 v- y- r[] o[] x{} b0" ∷
    "3 NonPrim - g0 w0 p0@0{1,2,3,4} a0 v- y- r[] o[] x{} b0" ∷
    "4 NonPrim - g0 w0 p0@0{1,2,3,4} a0 v- y- r[] o[] x{} b0" ∷
    "= 2" ∷
    "1 ExchangeStates c1 g0 w0 p0@0{1,2,3,4} a0 v- y- r[] o[] x{} b0" ∷
    "2 ExchangeStates c1 g0 w0 p0@0{1,2,3,4} a0 v- y- r[] o[] x{} b0" ∷
    "3 ExchangeStates c1 g0 w0 p0@0{1,2,3,4} a0 v- y- r[] o[] x{} b0" ∷
    "4 ExchangeStates c1 g0 w0 p0@0{1,2,3,4} a0 v- y- r[] o[] x{} b0" ∷
    "= 3" ∷
    "2 NonPrim t1 g0 w0 p0@0{1,2,3,4} a0 v- y- r[] o[] x{} b0" ∷
    "3 NonPrim t1 g0 w0 p0@0{1,2,3,4} a0 v- y- r[] o[] x{} b0" ∷
    "4 NonPrim t1 g0 w0 p0@0{1,2,3,4} a0 v- y- r[] o[] x{} b0" ∷
    "= 4" ∷
    "1 NonPrim t1 g0 w0 p0@0{1,2,3,4} a0 v- y- r[] o[] x{} b0" ∷
    "= 5" ∷
    "1 ExchangeStates c2 g0 w0 p0@0{1,2,3,4} a0 v- y- r[] o[] x{} b0" ∷
    "= 6" ∷
    "2 ExchangeStates c3 g0 w0 p0@0{1,2,3,4} a0 v- y- r[] o[] x{} b0" ∷
    "3 ExchangeStates c3 g0 w0 p0@0{1,2,3,4} a0 v- y- r[] o[] x{} b0" ∷
    "4 ExchangeStates c3 g0 w0 p0@0{1,2,3,4} a0 v- y- r[] o[] x{} b0" ∷
    "= 7" ∷
    "4 ExchangeStates c3 g0 w0 p0@0{1,2,3,4} a0 v- y- r[] o[] x{} b1" ∷
    "= 9" ∷
    "1 NonPrim c2 g0 w0 p0@0{1,2,3,4} a0 v- y- r[] o[] x{} b0" ∷
    "= 10" ∷
    "2 Construct c3 g0 w0 p0@0{1,2,3,4} a1 v3/0{2,3,4}{2} y- r[] o[] x{} b0" ∷
    "= 11" ∷
    "3 Construct c3 g0 w0 p0@0{1,2,3,4} a1 v3/0{2,3,4}{3} y- r[] o[] x{} b0" ∷
    "= 12" ∷
    "4 Construct c3 g0 w0 p0@0{1,2,3,4} a1 v3/0{2,3,4}{4} y- r[] o[] x{} b1" ∷
    "= 14" ∷
    "2 RegPrim c3 g0 w0 p1@3{2,3,4} a0 v3/0{2,3,4}{2} y- r[] o[] x{} b0" ∷
    "= 15" ∷
    "3 RegPrim c3 g0 w0 p1@3{2,3,4} a0 v3/0{2,3,4}{3} y- r[] o[] x{} b0" ∷
    "= 16" ∷
    "made 4:1 join 11" ∷
    "4 RegPrim c3 g0 w0 p1@3{2,3,4} a0 v3/0{2,3,4}{4} y- r[] o[4:1] x{} b0" ∷
    "= 17" ∷
    "made 2:1 join 5" ∷
    "2 RegPrim c3 g0 w0 p1@3{2,3,4} a0 v3/0{2,3,4}{2} y- r[] o[2:1] x{} b0" ∷
    "= 19" ∷
    "order 1 2:1" ∷
    "order 2 4:1" ∷
    "4 RegPrim c3 g2 w0 p1@3{2,3,4} a0 v3/0{2,3,4}{4} y- r[] o[] x{} b0" ∷
    "reply 4:1 done" ∷
    "= 20" ∷
    "2 TransPrim t3 g2 w0 p1@3{2,3,4} a0 v3/0{2,3,4}{2} y- r[] o[] x{} b0" ∷
    "3 TransPrim t3 g2 w0 p1@3{2,3,4} a0 v3/0{2,3,4}{3} y- r[] o[] x{} b0" ∷
    "4 TransPrim t3 g2 w0 p1@3{2,3,4} a0 v3/0{2,3,4}{4} y- r[] o[] x{} b0" ∷
    "reply 2:1 done" ∷
    "= 21" ∷
    "1 NonPrim t2 g0 w0 p0@0{1,2,3,4} a0 v- y- r[] o[] x{} b0" ∷
    "= 22" ∷
    "1 ExchangeStates c4 g0 w0 p0@0{1,2,3,4} a0 v- y- r[] o[] x{} b0" ∷
    "2 ExchangeStates c4 g2 w0 p1@3{2,3,4} a0 v- y![] r[] o[] x{} b0" ∷
    "3 ExchangeStates c4 g2 w0 p1@3{2,3,4} a0 v- y![] r[] o[] x{} b0" ∷
    "4 ExchangeStates c4 g2 w0 p1@3{2,3,4} a0 v- y![] r[] o[] x{} b0" ∷
    "= 24" ∷
    "4 ExchangeActions c4 g2 w0 p1@3{2,3,4} a0 v- y![] r[] o[] x{} b0" ∷
    "= 26" ∷
    "1 ExchangeActions c4 g0 w0 p0@0{1,2,3,4} a0 v- y- r[] o[] x{} b0" ∷
    "= 27" ∷
    "2 ExchangeActions c4 g2 w0 p1@3{2,3,4} a0 v- y![] r[] o[] x{} b0" ∷
    "= 28" ∷
    "3 ExchangeActions c4 g2 w0 p1@3{2,3,4} a0 v- y![] r[] o[] x{} b0" ∷
    "end 28" ∷
    [])
unfolding cases_compute
tie_of_green_counts_goes_to_the_lowest_b = refl

-- Of members with equal green counts the lowest is the most updated.
tie_of_green_counts_goes_to_the_lowest_c :
    replayed_text (
    "start 2 3 12 19 23 24 25 31" ∷
    "merge 2 3 12 19 23 24 25 31" ∷
    "split 2 3 23 24 31" ∷
    "merge 2 3 23 24 31" ∷
    "stop 19 0 0101" ∷
    "join 3 28" ∷
    "rounds 1" ∷
    "rounds 2" ∷
    "transfer 24 28 9" ∷
    "recover 19" ∷
    "split 2 3 31" ∷
    "merge 2 3 19 28 31" ∷
    "gather" ∷
    "deliver 2 5" ∷
    "rounds 1" ∷
    "end" ∷
    [])
    ≡ written (
    "= 1" ∷
    "2 NonPrim - g0 w0 p0@0{2,3,12,19,23,24,25,31} a0 v- y- r[] o[] x{} b0" ∷
    "3 NonPrim - g0 w0 p0@0{2,3,12,19,23,24,25,31} a0 v- y- r[] o[] x{} b0" ∷
    "12 NonPrim - g0 w0 p0@0{2,3,12,19,23,24,25,31} a0 v- y- r[] o[] x{} b0" ∷
    "19 NonPrim - g0 w0 p0@0{2,3,12,19,23,24,25,31} a0 v- y- r[] o[] x{} b0" ∷
    "23 NonPrim - g0 w0 p0@0{2,3,12,19,23,24,25,31} a0 v- y- r[] o[] x{} b0" ∷
    "24 NonPrim - g0 w0 p0@0{2,3,12,19,23,24,25,31} a0 v- y- r[] o[] x{} b0" ∷
    "25 NonPrim - g0 w0 p0@0{2,3,12,19,23,24,25,31} a0 v- y- r[] o[] x{} b0" ∷
    "31 NonPrim - g0 w0 p0@0{2,3,12,19,23,24,25,31} a0 v- y- r[] o[] x{} b0" ∷
    "= 2" ∷
    "2 ExchangeStates c1 g0 w0 p0@0{2,3,12,19,23,24,25,31} a0 v- y- r[] o[] x{} b0" ∷
    "3 ExchangeStates c1 g0 w0 p0@0{2,3,12,19,23,24,25,31} a0 v- y- r[] o[] x{} b0" ∷
    "12 ExchangeStates c1 g0 w0 p0@0{2,3,12,19,23,24,25,31} a0 v- y- r[] o[] x{} b0" ∷
    "19 ExchangeStates c1 g0 w0 p0@0{2,3,12,19,23,24,25,31} a0 v- y- r[] o[] x{} b0" ∷
    "23 ExchangeStates c1 g0 w0 p0@0{2,3,12,19,23,24,25,31} a0 v- y- r[] o[] x{} b0" ∷
    "24 ExchangeStates c1 g0 w0 p0@0{2,3,12,19,23,24,25,31} a0 v- y- r[] o[] x{} b0" ∷
    "25 ExchangeStates c1 g0 w0 p0@0{2,3,12,19,23,24,25,31} a0 v- y- r[] o[] x{} b0" ∷
    "31 ExchangeStates c1 g0 w0 p0@0{2,3,12,19,23,24,25,31} a0 v- y- r[] o[] x{} b0" ∷
    "= 3" ∷
    "2 NonPrim t1 g0 w0 p0@0{2,3,12,19,23,24,25,31} a0 v- y- r[] o[] x{} b0" ∷
    "3 NonPrim t1 g0 w0 p0@0{2,3,12,19,23,24,25,31} a0 v- y- r[] o[] x{} b0" ∷
    "23 NonPrim t1 g0 w0 p0@0{2,3,12,19,23,24,25,31} a0 v- y- r[] o[] x{} b0" ∷
    "24 NonPrim t1 g0 w0 p0@0{2,3,12,19,23,24,25,31} a0 v- y- r[] o[] x{} b0" ∷
    "31 NonPrim t1 g0 w0 p0@0{2,3,12,19,23,24,25,31} a0 v- y- r[] o[] x{} b0" ∷
    "= 4" ∷
    "2 ExchangeStates c2 g0 w0 p0@0{2,3,12,19,23,24,25,31} a0 v- y- r[] o[] x{} b0" ∷
    "3 ExchangeStates c2 g0 w0 p0@0{2,3,12,19,23,24,25,31} a0 v- y- r[] o[] x{} b0" ∷
    "23 ExchangeStates c2 g0 w0 p0@0{2,3,12,19,23,24,25,31} a0 v- y- r[] o[] x{} b0" ∷
    "24 ExchangeStates c2 g0 w0 p0@0{2,3,12,19,23,24,25,31} a0 v- y- r[] o[] x{} b0" ∷
    "31 ExchangeStates c2 g0 w0 p0@0{2,3,12,19,23,24,25,31} a0 v- y- r[] o[] x{} b0" ∷
    "= 5" ∷
    "19 Down" ∷
    "= 6" ∷
    "3 ExchangeStates c2 g0 w0 p0@0{2,3,12,19,23,24,25,31} a0 v- y- r[] o[] x{} b1" ∷
    "= 8" ∷
    "2 Construct c2 g0 w0 p0@0{2,3,12,19,23,24,25,31} a1 v2/0{2,3,23,24,31}{2} y- r[] o[] x{} b0" ∷
    "= 9" ∷
    "3 Construct c2 g0 w0 p0@0{2,3,12,19,23,24,25,31} a1 v2/0{2,3,23,24,31}{3} y- r[] o[] x{} b1" ∷
    "= 10" ∷
    "23 Construct c2 g0 w0 p0@0{2,3,12,19,23,24,25,31} a1 v2/0{2,3,23,24,31}{23} y- r[] o[] x{} b0" ∷
    "= 11" ∷
    "24 Construct c2 g0 w0 p0@0{2,3,12,19,23,24,25,31} a1 v2/0{2,3,23,24,31}{24} y- r[] o[] x{} b0" ∷
    "= 12" ∷
    "31 Construct c2 g0 w0 p0@0{2,3,12,19,23,24,25,31} a1 v2/0{2,3,23,24,31}{31} y- r[] o[] x{} b0" ∷
    "= 14" ∷
    "2 RegPrim c2 g0 w0 p1@2{2,3,23,24,31} a0 v2/0{2,3,23,24,31}{2} y- r[] o[] x{} b0" ∷
    "= 15" ∷
    "made 3:1 join 28" ∷
    "3 RegPrim c2 g0 w0 p1@2{2,3,23,24,31} a0 v2/0{2,3,23,24,31}{3} y- r[] o[3:1] x{} b0" ∷
    "= 16" ∷
    "23 RegPrim c2 g0 w0 p1@2{2,3,23,24,31} a0 v2/0{2,3,23,24,31}{23} y- r[] o[] x{} b0" ∷
    "= 17" ∷
    "24 RegPrim c2 g0 w0 p1@2{2,3,23,24,31} a0 v2/0{2,3,23,24,31}{24} y- r[] o[] x{} b0" ∷
    "= 18" ∷
    "31 RegPrim c2 g0 w0 p1@2{2,3,23,24,31} a0 v2/0{2,3,23,24,31}{31} y- r[] o[] x{} b0" ∷
    "= 20" ∷
    "order 1 3:1" ∷
    "2 RegPrim c2 g1 w0 p1@2{2,3,23,24,31} a0 v2/0{2,3,23,24,31}{2} y- r[] o[] x{} b0" ∷
    "= 21" ∷
    "3 RegPrim c2 g1 w0 p1@2{2,3,23,24,31} a0 v2/0{2,3,23,24,31}{3} y- r[] o[] x{} b0" ∷
    "reply 3:1 done" ∷
    "= 22" ∷
    "23 RegPrim c2 g1 w0 p1@2{2,3,23,24,31} a0 v2/0{2,3,23,24,31}{23} y- r[] o[] x{} b0" ∷
    "= 23" ∷
    "24 RegPrim c2 g1 w0 p1@2{2,3,23,24,31} a0 v2/0{2,3,23,24,31}{24} y- r[] o[] x{} b0" ∷
    "= 24" ∷
    "31 RegPrim c2 g1 w0 p1@2{2,3,23,24,31} a0 v2/0{2,3,23,24,31}{31} y- r[] o[] x{} b0" ∷
    "= 25" ∷
    "28 NonPrim - g1 w0 p1@2{2,3,23,24,31} a0 v- y- r[] o[] x{} b0" ∷
    "pieces 28 3/3" ∷
    "= 26" ∷
    "19 NonPrim - g0 w0 p0@0{2,3,12,19,23,24,25,31} a0 v- y- r[] o[] x{} b0" ∷
    "= 27" ∷
    "2 TransPrim t2 g1 w0 p1@2{2,3,23,24,31} a0 v2/0{2,3,23,24,31}{2} y- r[] o[] x{} b0" ∷
    "3 TransPrim t2 g1 w0 p1@2{2,3,23,24,31} a0 v2/0{2,3,23,24,31}{3} y- r[] o[] x{} b0" ∷
    "31 TransPrim t2 g1 w0 p1@2{2,3,23,24,31} a0 v2/0{2,3,23,24,31}{31} y- r[] o[] x{} b0" ∷
    "= 28" ∷
    "2 ExchangeStates c3 g1 w0 p1@2{2,3,23,24,31} a0 v- y![] r[] o[] x{} b0" ∷
    "3 ExchangeStates c3 g1 w0 p1@2{2,3,23,24,31} a0 v- y![] r[] o[] x{} b0" ∷
    "19 ExchangeStates c3 g0 w0 p0@0{2,3,12,19,23,24,25,31} a0 v- y- r[] o[] x{} b0" ∷
    "28 ExchangeStates c3 g1 w0 p1@2{2,3,23,24,31} a0 v- y- r[] o[] x{} b0" ∷
    "31 ExchangeStates c3 g1 w0 p1@2{2,3,23,24,31} a0 v- y![] r[] o[] x{} b0" ∷
    "= 30" ∷
    "2 ExchangeActions c3 g1 w0 p1@2{2,3,23,24,31} a0 v- y![] r[] o[] x{} b0" ∷
    "= 32" ∷
    "2 Construct c3 g1 w0 p1@2{2,3,23,24,31} a1 v3/1{2,3,19,28,31}{2} y![] r[] o[] x{} b0" ∷
    "= 33" ∷
    "3 Construct c3 g1 w0 p1@2{2,3,23,24,31} a1 v3/1{2,3,19,28,31}{3} y![] r[] o[] x{} b0" ∷
    "= 34" ∷
    "19 Construct c3 g1 w0 p1@2{2,3,23,24,31} a1 v3/1{2,3,19,28,31}{19} y![] r[] o[] x{} b0" ∷
    "= 35" ∷
    "28 Construct c3 g1 w0 p1@2{2,3,23,24,31} a1 v3/1{2,3,19,28,31}{28} y![] r[] o[] x{} b0" ∷
    "= 36" ∷
    "31 Construct c3 g1 w0 p1@2{2,3,23,24,31} a1 v3/1{2,3,19,28,31}{31} y![] r[] o[] x{} b0" ∷
    "end 36" ∷
    [])
unfolding cases_compute
tie_of_green_counts_goes_to_the_lowest_c = refl

-- A place that no member of the split received is left out, and later ones are not.
transitional_list_with_a_hole_a :
    replayed_text (
    "start 1 2 3" ∷
    "merge 1 2 3" ∷
    "request 1 put \"y\" \"TTTTTTTTTTTTTTTTTTTTTTTTTTTTTTTTTTTTTTTTTTTTTTTTTTTTTTTTTTTTTTTTTTTTTTTTTTTTTTTTTTTTTTTTTTTTTTTTTTTTTTTTTTTTTTTTTTTTTTTTTTTTTTTTTTTTTTTTTTTTTTTTTTTTTTTTTTTTTTTTTTTTTTTTTTTTTTTTTTTTTTTTTTTTTTTTTTTTTTTTTTTTTTTTTTTTTTTTTTTTTTTTTTTTTTTTTTTTTTTTTTTTTTTTTTTTTTT\"" ∷
    "rounds 2" ∷
    "request 3 put \"z\" 64" ∷
    "order 1" ∷
    "order 3" ∷
    "split 3" ∷
    "end" ∷
    [])
    ≡ written (
    "= 1" ∷
    "1 NonPrim - g0 w0 p0@0{1,2,3} a0 v- y- r[] o[] x{} b0" ∷
    "2 NonPrim - g0 w0 p0@0{1,2,3} a0 v- y- r[] o[] x{} b0" ∷
    "3 NonPrim - g0 w0 p0@0{1,2,3} a0 v- y- r[] o[] x{} b0" ∷
    "= 2" ∷
    "1 ExchangeStates c1 g0 w0 p0@0{1,2,3} a0 v- y- r[] o[] x{} b0" ∷
    "2 ExchangeStates c1 g0 w0 p0@0{1,2,3} a0 v- y- r[] o[] x{} b0" ∷
    "3 ExchangeStates c1 g0 w0 p0@0{1,2,3} a0 v- y- r[] o[] x{} b0" ∷
    "= 3" ∷
    "1 ExchangeStates c1 g0 w0 p0@0{1,2,3} a0 v- y- r[] o[] x{} b1" ∷
    "= 5" ∷
    "1 Construct c1 g0 w0 p0@0{1,2,3} a1 v1/0{1,2,3}{1} y- r[] o[] x{} b1" ∷
    "= 6" ∷
    "2 Construct c1 g0 w0 p0@0{1,2,3} a1 v1/0{1,2,3}{2} y- r[] o[] x{} b0" ∷
    "= 7" ∷
    "3 Construct c1 g0 w0 p0@0{1,2,3} a1 v1/0{1,2,3}{3} y- r[] o[] x{} b0" ∷
    "= 9" ∷
    "made 1:1 put \"y\" \"TTTTTTTTTTTTTTTTTTTTTTTTTTTTTTTTTTTTTTTTTTTTTTTTTTTTTTTTTTTTTTTTTTTTTTTTTTTTTTTTTTTTTTTTTTTTTTTTTTTTTTTTTTTTTTTTTTTTTTTTTTTTTTTTTTTTTTTTTTTTTTTTTTTTTTTTTTTTTTTTTTTTTTTTTTTTTTTTTTTTTTTTTTTTTTTTTTTTTTTTTTTTTTTTTTTTTTTTTTTTTTTTTTTTTTTTTTTTTTTTTTTTTTTTTTTTTTT\"" ∷
    "1 RegPrim c1 g0 w0 p1@1{1,2,3} a0 v1/0{1,2,3}{1} y- r[] o[1:1] x{} b0" ∷
    "= 10" ∷
    "2 RegPrim c1 g0 w0 p1@1{1,2,3} a0 v1/0{1,2,3}{2} y- r[] o[] x{} b0" ∷
    "= 11" ∷
    "3 RegPrim c1 g0 w0 p1@1{1,2,3} a0 v1/0{1,2,3}{3} y- r[] o[] x{} b0" ∷
    "= 12" ∷
    "made 3:1 put \"z\" 64" ∷
    "3 RegPrim c1 g0 w0 p1@1{1,2,3} a0 v1/0{1,2,3}{3} y- r[] o[3:1] x{} b0" ∷
    "= 15" ∷
    "3 TransPrim t1 g0 w0 p1@1{1,2,3} a0 v1/0{1,2,3}{3} y?[3:1] r[] o[] x{} b0" ∷
    "end 15" ∷
    [])
unfolding cases_compute
transitional_list_with_a_hole_a = refl

-- A place that no member of the split received is left out, and later ones are not.
transitional_list_with_a_hole_b :
    replayed_text (
    "start 1 2 3" ∷
    "merge 1 2 3" ∷
    "request 3 put \"ab\" 92 ? get \"b\"" ∷
    "request 2 put \"y\" 86" ∷
    "rounds 1" ∷
    "rounds 2" ∷
    "request 2 need \"z\" absent" ∷
    "request 3 inc \"z\" 4; put \"y\" 87" ∷
    "order 2" ∷
    "order 3" ∷
    "receive 1 10" ∷
    "split 1" ∷
    "end" ∷
    [])
    ≡ written (
    "= 1" ∷
    "1 NonPrim - g0 w0 p0@0{1,2,3} a0 v- y- r[] o[] x{} b0" ∷
    "2 NonPrim - g0 w0 p0@0{1,2,3} a0 v- y- r[] o[] x{} b0" ∷
    "3 NonPrim - g0 w0 p0@0{1,2,3} a0 v- y- r[] o[] x{} b0" ∷
    "= 2" ∷
    "1 ExchangeStates c1 g0 w0 p0@0{1,2,3} a0 v- y- r[] o[] x{} b0" ∷
    "2 ExchangeStates c1 g0 w0 p0@0{1,2,3} a0 v- y- r[] o[] x{} b0" ∷
    "3 ExchangeStates c1 g0 w0 p0@0{1,2,3} a0 v- y- r[] o[] x{} b0" ∷
    "= 3" ∷
    "3 ExchangeStates c1 g0 w0 p0@0{1,2,3} a0 v- y- r[] o[] x{} b1" ∷
    "= 4" ∷
    "2 ExchangeStates c1 g0 w0 p0@0{1,2,3} a0 v- y- r[] o[] x{} b1" ∷
    "= 6" ∷
    "1 Construct c1 g0 w0 p0@0{1,2,3} a1 v1/0{1,2,3}{1} y- r[] o[] x{} b0" ∷
    "= 7" ∷
    "2 Construct c1 g0 w0 p0@0{1,2,3} a1 v1/0{1,2,3}{2} y- r[] o[] x{} b1" ∷
    "= 8" ∷
    "3 Construct c1 g0 w0 p0@0{1,2,3} a1 v1/0{1,2,3}{3} y- r[] o[] x{} b1" ∷
    "= 10" ∷
    "1 RegPrim c1 g0 w0 p1@1{1,2,3} a0 v1/0{1,2,3}{1} y- r[] o[] x{} b0" ∷
    "= 11" ∷
    "made 2:1 put \"y\" 86" ∷
    "2 RegPrim c1 g0 w0 p1@1{1,2,3} a0 v1/0{1,2,3}{2} y- r[] o[2:1] x{} b0" ∷
    "= 12" ∷
    "made 3:1 put \"ab\" 92 ? get \"b\"" ∷
    "3 RegPrim c1 g0 w0 p1@1{1,2,3} a0 v1/0{1,2,3}{3} y- r[] o[3:1] x{} b0" ∷
    "= 14" ∷
    "order 1 2:1" ∷
    "order 2 3:1" ∷
    "1 RegPrim c1 g2 w0 p1@1{1,2,3} a0 v1/0{1,2,3}{1} y- r[] o[] x{} b0" ∷
    "= 15" ∷
    "2 RegPrim c1 g2 w0 p1@1{1,2,3} a0 v1/0{1,2,3}{2} y- r[] o[] x{} b0" ∷
    "reply 2:1 done" ∷
    "= 16" ∷
    "3 RegPrim c1 g2 w0 p1@1{1,2,3} a0 v1/0{1,2,3}{3} y- r[] o[] x{} b0" ∷
    "reply 3:1 done ? absent" ∷
    "= 17" ∷
    "made 2:2 need \"z\" absent" ∷
    "2 RegPrim c1 g2 w0 p1@1{1,2,3} a0 v1/0{1,2,3}{2} y- r[] o[2:2] x{} b0" ∷
    "= 18" ∷
    "made 3:2 inc \"z\" 4; put \"y\" 87" ∷
    "3 RegPrim c1 g2 w0 p1@1{1,2,3} a0 v1/0{1,2,3}{3} y- r[] o[3:2] x{} b0" ∷
    "= 22" ∷
    "1 TransPrim t1 g2 w0 p1@1{1,2,3} a0 v1/0{1,2,3}{1} y?[3:2] r[] o[] x{} b0" ∷
    "end 22" ∷
    [])
unfolding cases_compute
transitional_list_with_a_hole_b = refl

-- A place that no member of the split received is left out, and later ones are not.
transitional_list_with_a_hole_c :
    replayed_text (
    "start 6 28 31" ∷
    "merge 6 28 31" ∷
    "split 6 28 31" ∷
    "merge 6 28 31" ∷
    "rounds 2" ∷
    "request 6 ? count" ∷
    "order 6" ∷
    "request 31 inc \"x\" 10; put \"ab\" -1; need \"y\" absent" ∷
    "order 31" ∷
    "split 31" ∷
    "end" ∷
    [])
    ≡ written (
    "= 1" ∷
    "6 NonPrim - g0 w0 p0@0{6,28,31} a0 v- y- r[] o[] x{} b0" ∷
    "28 NonPrim - g0 w0 p0@0{6,28,31} a0 v- y- r[] o[] x{} b0" ∷
    "31 NonPrim - g0 w0 p0@0{6,28,31} a0 v- y- r[] o[] x{} b0" ∷
    "= 2" ∷
    "6 ExchangeStates c1 g0 w0 p0@0{6,28,31} a0 v- y- r[] o[] x{} b0" ∷
    "28 ExchangeStates c1 g0 w0 p0@0{6,28,31} a0 v- y- r[] o[] x{} b0" ∷
    "31 ExchangeStates c1 g0 w0 p0@0{6,28,31} a0 v- y- r[] o[] x{} b0" ∷
    "= 3" ∷
    "6 NonPrim t1 g0 w0 p0@0{6,28,31} a0 v- y- r[] o[] x{} b0" ∷
    "28 NonPrim t1 g0 w0 p0@0{6,28,31} a0 v- y- r[] o[] x{} b0" ∷
    "31 NonPrim t1 g0 w0 p0@0{6,28,31} a0 v- y- r[] o[] x{} b0" ∷
    "= 4" ∷
    "6 ExchangeStates c2 g0 w0 p0@0{6,28,31} a0 v- y- r[] o[] x{} b0" ∷
    "28 ExchangeStates c2 g0 w0 p0@0{6,28,31} a0 v- y- r[] o[] x{} b0" ∷
    "31 ExchangeStates c2 g0 w0 p0@0{6,28,31} a0 v- y- r[] o[] x{} b0" ∷
    "= 6" ∷
    "6 Construct c2 g0 w0 p0@0{6,28,31} a1 v2/0{6,28,31}{6} y- r[] o[] x{} b0" ∷
    "= 7" ∷
    "28 Construct c2 g0 w0 p0@0{6,28,31} a1 v2/0{6,28,31}{28} y- r[] o[] x{} b0" ∷
    "= 8" ∷
    "31 Construct c2 g0 w0 p0@0{6,28,31} a1 v2/0{6,28,31}{31} y- r[] o[] x{} b0" ∷
    "= 10" ∷
    "6 RegPrim c2 g0 w0 p1@2{6,28,31} a0 v2/0{6,28,31}{6} y- r[] o[] x{} b0" ∷
    "= 11" ∷
    "28 RegPrim c2 g0 w0 p1@2{6,28,31} a0 v2/0{6,28,31}{28} y- r[] o[] x{} b0" ∷
    "= 12" ∷
    "31 RegPrim c2 g0 w0 p1@2{6,28,31} a0 v2/0{6,28,31}{31} y- r[] o[] x{} b0" ∷
    "= 13" ∷
    "made 6:1 ? count" ∷
    "6 RegPrim c2 g0 w0 p1@2{6,28,31} a0 v2/0{6,28,31}{6} y- r[] o[6:1] x{} b0" ∷
    "= 15" ∷
    "made 31:1 inc \"x\" 10; put \"ab\" -1; need \"y\" absent" ∷
    "31 RegPrim c2 g0 w0 p1@2{6,28,31} a0 v2/0{6,28,31}{31} y- r[] o[31:1] x{} b0" ∷
    "= 17" ∷
    "31 TransPrim t2 g0 w0 p1@2{6,28,31} a0 v2/0{6,28,31}{31} y?[31:1] r[] o[] x{} b0" ∷
    "end 17" ∷
    [])
unfolding cases_compute
transitional_list_with_a_hole_c = refl

-- Replicas at the start: 2: actions are ordered.
two_replicas_actions_ordered_a :
    replayed_text (
    "start 1 2" ∷
    "merge 1 2" ∷
    "rounds 2" ∷
    "rounds 2" ∷
    "request 1 cas \"ab\" 0 -1" ∷
    "request 1 inc \"z\" 9223372036854775807" ∷
    "request 1 cas \"y\" 99 25 ? get \"y\"" ∷
    "rounds 2" ∷
    "rounds 2" ∷
    "request 2 inc \"k2\" -1" ∷
    "request 2 cas \"b\" 66 59; need \"z\" absent; cas \"y\" \"v\" \"\" ? get \"k2\"" ∷
    "end" ∷
    [])
    ≡ written (
    "= 1" ∷
    "1 NonPrim - g0 w0 p0@0{1,2} a0 v- y- r[] o[] x{} b0" ∷
    "2 NonPrim - g0 w0 p0@0{1,2} a0 v- y- r[] o[] x{} b0" ∷
    "= 2" ∷
    "1 ExchangeStates c1 g0 w0 p0@0{1,2} a0 v- y- r[] o[] x{} b0" ∷
    "2 ExchangeStates c1 g0 w0 p0@0{1,2} a0 v- y- r[] o[] x{} b0" ∷
    "= 4" ∷
    "1 Construct c1 g0 w0 p0@0{1,2} a1 v1/0{1,2}{1} y- r[] o[] x{} b0" ∷
    "= 5" ∷
    "2 Construct c1 g0 w0 p0@0{1,2} a1 v1/0{1,2}{2} y- r[] o[] x{} b0" ∷
    "= 7" ∷
    "1 RegPrim c1 g0 w0 p1@1{1,2} a0 v1/0{1,2}{1} y- r[] o[] x{} b0" ∷
    "= 8" ∷
    "2 RegPrim c1 g0 w0 p1@1{1,2} a0 v1/0{1,2}{2} y- r[] o[] x{} b0" ∷
    "= 11" ∷
    "made 1:1 cas \"ab\" 0 -1" ∷
    "1 RegPrim c1 g0 w0 p1@1{1,2} a0 v1/0{1,2}{1} y- r[] o[1:1] x{} b0" ∷
    "= 12" ∷
    "made 1:2 inc \"z\" 9223372036854775807" ∷
    "1 RegPrim c1 g0 w0 p1@1{1,2} a0 v1/0{1,2}{1} y- r[] o[1:1,1:2] x{} b0" ∷
    "= 13" ∷
    "made 1:3 cas \"y\" 99 25 ? get \"y\"" ∷
    "1 RegPrim c1 g0 w0 p1@1{1,2} a0 v1/0{1,2}{1} y- r[] o[1:1,1:2,1:3] x{} b0" ∷
    "= 15" ∷
    "order 1 1:1" ∷
    "order 2 1:2" ∷
    "order 3 1:3" ∷
    "1 RegPrim c1 g3 w0 p1@1{1,2} a0 v1/0{1,2}{1} y- r[] o[] x{} b0" ∷
    "reply 1:1 done" ∷
    "reply 1:2 done" ∷
    "reply 1:3 done ? absent" ∷
    "= 16" ∷
    "2 RegPrim c1 g3 w0 p1@1{1,2} a0 v1/0{1,2}{2} y- r[] o[] x{} b0" ∷
    "= 20" ∷
    "made 2:1 inc \"k2\" -1" ∷
    "2 RegPrim c1 g3 w0 p1@1{1,2} a0 v1/0{1,2}{2} y- r[] o[2:1] x{} b0" ∷
    "= 21" ∷
    "made 2:2 cas \"b\" 66 59; need \"z\" absent; cas \"y\" \"v\" \"\" ? get \"k2\"" ∷
    "2 RegPrim c1 g3 w0 p1@1{1,2} a0 v1/0{1,2}{2} y- r[] o[2:1,2:2] x{} b0" ∷
    "end 21" ∷
    [])
unfolding cases_compute
two_replicas_actions_ordered_a = refl

-- Replicas at the start: 2: actions are ordered.
two_replicas_actions_ordered_b_from_discarding :
    replayed_text (
    "start 1 2" ∷
    "merge 1 2" ∷
    "rounds 2" ∷
    "gather" ∷
    "request 1 inc \"z\" 12; need \"a\" 26 ? get \"a\"" ∷
    "gather" ∷
    "deliver 2 1" ∷
    "gather" ∷
    "deliver 1 1" ∷
    "gather" ∷
    "rounds 3" ∷
    "rounds 1" ∷
    "rounds 1" ∷
    "gather" ∷
    "rounds 2" ∷
    "request 1 del \"ab\" ? keys \"\"" ∷
    "gather" ∷
    "deliver 2 1" ∷
    "gather" ∷
    "show 1" ∷
    "request 2 inc \"x\" 1 ? keys \"x\"" ∷
    "request 1 put \"z\" 83; inc \"y\" -3" ∷
    "gather" ∷
    "deliver 2 2" ∷
    "deliver 1 2" ∷
    "request 1 del \"ab\"" ∷
    "order 1" ∷
    "deliver 1 1" ∷
    "receive 2 9" ∷
    "request 2 put \"a\" 0" ∷
    "deliver 1 1" ∷
    "gather" ∷
    "rounds 3" ∷
    "request 2 put \"x\" 62 ? get \"b\"" ∷
    "gather" ∷
    "deliver 2 1" ∷
    "deliver 1 1" ∷
    "request 1 inc \"ab\" -9223372036854775808" ∷
    "request 1 move \"x\" \"x\" 0 ? keys \"ab\"" ∷
    "gather" ∷
    "request 2 inc \"y\" -3 ? get \"a\"" ∷
    "end" ∷
    [])
    ≡ written (
    "= 1" ∷
    "1 NonPrim - g0 w0 p0@0{1,2} a0 v- y- r[] o[] x{} b0" ∷
    "2 NonPrim - g0 w0 p0@0{1,2} a0 v- y- r[] o[] x{} b0" ∷
    "= 2" ∷
    "1 ExchangeStates c1 g0 w0 p0@0{1,2} a0 v- y- r[] o[] x{} b0" ∷
    "2 ExchangeStates c1 g0 w0 p0@0{1,2} a0 v- y- r[] o[] x{} b0" ∷
    "= 4" ∷
    "1 Construct c1 g0 w0 p0@0{1,2} a1 v1/0{1,2}{1} y- r[] o[] x{} b0" ∷
    "= 5" ∷
    "2 Construct c1 g0 w0 p0@0{1,2} a1 v1/0{1,2}{2} y- r[] o[] x{} b0" ∷
    "= 7" ∷
    "1 RegPrim c1 g0 w0 p1@1{1,2} a0 v1/0{1,2}{1} y- r[] o[] x{} b0" ∷
    "= 8" ∷
    "2 RegPrim c1 g0 w0 p1@1{1,2} a0 v1/0{1,2}{2} y- r[] o[] x{} b0" ∷
    "= 10" ∷
    "made 1:1 inc \"z\" 12; need \"a\" 26 ? get \"a\"" ∷
    "1 RegPrim c1 g0 w0 p1@1{1,2} a0 v1/0{1,2}{1} y- r[] o[1:1] x{} b0" ∷
    "= 12" ∷
    "order 1 1:1" ∷
    "2 RegPrim c1 g1 w0 p1@1{1,2} a0 v1/0{1,2}{2} y- r[] o[] x{} b0" ∷
    "= 14" ∷
    "1 RegPrim c1 g1 w0 p1@1{1,2} a0 v1/0{1,2}{1} y- r[] o[] x{} b0" ∷
    "reply 1:1 aborted 2 ? absent" ∷
    "= 24" ∷
    "made 1:2 del \"ab\" ? keys \"\"" ∷
    "1 RegPrim c1 g1 w0 p1@1{1,2} a0 v1/0{1,2}{1} y- r[] o[1:2] x{} b0" ∷
    "= 26" ∷
    "order 2 1:2" ∷
    "2 RegPrim c1 g2 w0 p1@1{1,2} a0 v1/0{1,2}{2} y- r[] o[] x{} b0" ∷
    "= 28" ∷
    "greens 1 [1:1]" ∷
    "db 1" ∷
    "= 29" ∷
    "made 2:1 inc \"x\" 1 ? keys \"x\"" ∷
    "2 RegPrim c1 g2 w0 p1@1{1,2} a0 v1/0{1,2}{2} y- r[] o[2:1] x{} b0" ∷
    "= 30" ∷
    "made 1:3 put \"z\" 83; inc \"y\" -3" ∷
    "1 RegPrim c1 g1 w0 p1@1{1,2} a0 v1/0{1,2}{1} y- r[] o[1:2,1:3] x{} b0" ∷
    "= 32" ∷
    "order 3 1:3" ∷
    "order 4 2:1" ∷
    "2 RegPrim c1 g4 w1 p1@1{1,2} a0 v1/0{1,2}{2} y- r[] o[] x{} b0" ∷
    "reply 2:1 done ? keys \"x\"" ∷
    "= 33" ∷
    "1 RegPrim c1 g3 w0 p1@1{1,2} a0 v1/0{1,2}{1} y- r[] o[] x{} b0" ∷
    "reply 1:2 done ? keys" ∷
    "reply 1:3 done" ∷
    "= 34" ∷
    "made 1:4 del \"ab\"" ∷
    "1 RegPrim c1 g3 w0 p1@1{1,2} a0 v1/0{1,2}{1} y- r[] o[1:4] x{} b0" ∷
    "= 36" ∷
    "1 RegPrim c1 g4 w1 p1@1{1,2} a0 v1/0{1,2}{1} y- r[] o[1:4] x{} b0" ∷
    "= 38" ∷
    "made 2:2 put \"a\" 0" ∷
    "2 RegPrim c1 g4 w1 p1@1{1,2} a0 v1/0{1,2}{2} y- r[] o[2:2] x{} b0" ∷
    "= 39" ∷
    "order 5 1:4" ∷
    "1 RegPrim c1 g5 w2 p1@1{1,2} a0 v1/0{1,2}{1} y- r[] o[] x{} b0" ∷
    "reply 1:4 done" ∷
    "= 42" ∷
    "order 6 2:2" ∷
    "1 RegPrim c1 g6 w3 p1@1{1,2} a0 v1/0{1,2}{1} y- r[] o[] x{} b0" ∷
    "= 43" ∷
    "2 RegPrim c1 g6 w3 p1@1{1,2} a0 v1/0{1,2}{2} y- r[] o[] x{} b0" ∷
    "reply 2:2 done" ∷
    "= 46" ∷
    "made 2:3 put \"x\" 62 ? get \"b\"" ∷
    "2 RegPrim c1 g6 w3 p1@1{1,2} a0 v1/0{1,2}{2} y- r[] o[2:3] x{} b0" ∷
    "= 48" ∷
    "order 7 2:3" ∷
    "2 RegPrim c1 g7 w3 p1@1{1,2} a0 v1/0{1,2}{2} y- r[] o[] x{} b0" ∷
    "reply 2:3 done ? absent" ∷
    "= 49" ∷
    "1 RegPrim c1 g7 w3 p1@1{1,2} a0 v1/0{1,2}{1} y- r[] o[] x{} b0" ∷
    "= 50" ∷
    "made 1:5 inc \"ab\" -9223372036854775808" ∷
    "1 RegPrim c1 g7 w3 p1@1{1,2} a0 v1/0{1,2}{1} y- r[] o[1:5] x{} b0" ∷
    "= 51" ∷
    "made 1:6 move \"x\" \"x\" 0 ? keys \"ab\"" ∷
    "1 RegPrim c1 g7 w3 p1@1{1,2} a0 v1/0{1,2}{1} y- r[] o[1:5,1:6] x{} b0" ∷
    "= 53" ∷
    "made 2:4 inc \"y\" -3 ? get \"a\"" ∷
    "2 RegPrim c1 g7 w3 p1@1{1,2} a0 v1/0{1,2}{2} y- r[] o[2:4] x{} b0" ∷
    "end 53" ∷
    [])
unfolding cases_compute
two_replicas_actions_ordered_b_from_discarding = refl

-- Replicas at the start: 2: actions are ordered.
two_replicas_actions_ordered_c :
    replayed_text (
    "start 1 2" ∷
    "merge 1 2" ∷
    "rounds 2" ∷
    "request 2 inc \"z\" 7" ∷
    "rounds 2" ∷
    "rounds 2" ∷
    "request 2 ? count" ∷
    "request 2 put \"z\" -9" ∷
    "gather" ∷
    "end" ∷
    [])
    ≡ written (
    "= 1" ∷
    "1 NonPrim - g0 w0 p0@0{1,2} a0 v- y- r[] o[] x{} b0" ∷
    "2 NonPrim - g0 w0 p0@0{1,2} a0 v- y- r[] o[] x{} b0" ∷
    "= 2" ∷
    "1 ExchangeStates c1 g0 w0 p0@0{1,2} a0 v- y- r[] o[] x{} b0" ∷
    "2 ExchangeStates c1 g0 w0 p0@0{1,2} a0 v- y- r[] o[] x{} b0" ∷
    "= 4" ∷
    "1 Construct c1 g0 w0 p0@0{1,2} a1 v1/0{1,2}{1} y- r[] o[] x{} b0" ∷
    "= 5" ∷
    "2 Construct c1 g0 w0 p0@0{1,2} a1 v1/0{1,2}{2} y- r[] o[] x{} b0" ∷
    "= 7" ∷
    "1 RegPrim c1 g0 w0 p1@1{1,2} a0 v1/0{1,2}{1} y- r[] o[] x{} b0" ∷
    "= 8" ∷
    "2 RegPrim c1 g0 w0 p1@1{1,2} a0 v1/0{1,2}{2} y- r[] o[] x{} b0" ∷
    "= 9" ∷
    "made 2:1 inc \"z\" 7" ∷
    "2 RegPrim c1 g0 w0 p1@1{1,2} a0 v1/0{1,2}{2} y- r[] o[2:1] x{} b0" ∷
    "= 11" ∷
    "order 1 2:1" ∷
    "1 RegPrim c1 g1 w0 p1@1{1,2} a0 v1/0{1,2}{1} y- r[] o[] x{} b0" ∷
    "= 12" ∷
    "2 RegPrim c1 g1 w0 p1@1{1,2} a0 v1/0{1,2}{2} y- r[] o[] x{} b0" ∷
    "reply 2:1 done" ∷
    "= 16" ∷
    "made 2:2 ? count" ∷
    "2 RegPrim c1 g1 w0 p1@1{1,2} a0 v1/0{1,2}{2} y- r[] o[2:2] x{} b0" ∷
    "= 17" ∷
    "made 2:3 put \"z\" -9" ∷
    "2 RegPrim c1 g1 w0 p1@1{1,2} a0 v1/0{1,2}{2} y- r[] o[2:2,2:3] x{} b0" ∷
    "end 18" ∷
    [])
unfolding cases_compute
two_replicas_actions_ordered_c = refl

-- Replicas at the start: 2: actions are ordered; a crash strikes inside a device call.
two_replicas_actions_ordered_crash_in_a_device_call_a :
    replayed_text (
    "start 7 16" ∷
    "merge 7 16" ∷
    "rounds 1" ∷
    "rounds 3" ∷
    "gather" ∷
    "request 7 del \"x\" ? get \"k1\"" ∷
    "stop 7 12 01010101010101010101010101010101010101010101010101010101010101010101010101010101010101010101010101010101010101010101010101010101010101010101010101010101010101010101010101010101010101010101010101010101" ∷
    "request 16 del \"y\"" ∷
    "request 7 put \"y\" 75" ∷
    "request 16 inc \"a\" 1" ∷
    "request 16 inc \"z\" -3; need \"a\" 65; put \"abc\" -8; inc \"z\" 4 ? get \"abc\"" ∷
    "gather" ∷
    "deliver 7 5" ∷
    "recover 7" ∷
    "deliver 16 4" ∷
    "stop 16 4 01" ∷
    "deliver 16 1" ∷
    "request 7 inc \"ab\" 10" ∷
    "stop 7 10 -" ∷
    "recover 16" ∷
    "request 16 move \"y\" \"y\" 1" ∷
    "request 16 put \"b\" 35" ∷
    "rounds 1" ∷
    "request 7 ? get \"z\"" ∷
    "end" ∷
    [])
    ≡ written (
    "= 1" ∷
    "7 NonPrim - g0 w0 p0@0{7,16} a0 v- y- r[] o[] x{} b0" ∷
    "16 NonPrim - g0 w0 p0@0{7,16} a0 v- y- r[] o[] x{} b0" ∷
    "= 2" ∷
    "7 ExchangeStates c1 g0 w0 p0@0{7,16} a0 v- y- r[] o[] x{} b0" ∷
    "16 ExchangeStates c1 g0 w0 p0@0{7,16} a0 v- y- r[] o[] x{} b0" ∷
    "= 4" ∷
    "7 Construct c1 g0 w0 p0@0{7,16} a1 v1/0{7,16}{7} y- r[] o[] x{} b0" ∷
    "= 5" ∷
    "16 Construct c1 g0 w0 p0@0{7,16} a1 v1/0{7,16}{16} y- r[] o[] x{} b0" ∷
    "= 7" ∷
    "7 RegPrim c1 g0 w0 p1@1{7,16} a0 v1/0{7,16}{7} y- r[] o[] x{} b0" ∷
    "= 8" ∷
    "16 RegPrim c1 g0 w0 p1@1{7,16} a0 v1/0{7,16}{16} y- r[] o[] x{} b0" ∷
    "= 12" ∷
    "made 7:1 del \"x\" ? get \"k1\"" ∷
    "7 RegPrim c1 g0 w0 p1@1{7,16} a0 v1/0{7,16}{7} y- r[] o[7:1] x{} b0" ∷
    "= 14" ∷
    "made 16:1 del \"y\"" ∷
    "16 RegPrim c1 g0 w0 p1@1{7,16} a0 v1/0{7,16}{16} y- r[] o[16:1] x{} b0" ∷
    "= 15" ∷
    "made 7:2 put \"y\" 75" ∷
    "7 RegPrim c1 g0 w0 p1@1{7,16} a0 v1/0{7,16}{7} y- r[] o[7:1,7:2] x{} b0" ∷
    "= 16" ∷
    "made 16:2 inc \"a\" 1" ∷
    "16 RegPrim c1 g0 w0 p1@1{7,16} a0 v1/0{7,16}{16} y- r[] o[16:1,16:2] x{} b0" ∷
    "= 17" ∷
    "made 16:3 inc \"z\" -3; need \"a\" 65; put \"abc\" -8; inc \"z\" 4 ? get \"abc\"" ∷
    "16 RegPrim c1 g0 w0 p1@1{7,16} a0 v1/0{7,16}{16} y- r[] o[16:1,16:2,16:3] x{} b0" ∷
    "= 19" ∷
    "order 1 7:1" ∷
    "order 2 7:2" ∷
    "order 3 16:1" ∷
    "order 4 16:2" ∷
    "order 5 16:3" ∷
    "7 RegPrim c1 g5 w0 p1@1{7,16} a0 v1/0{7,16}{7} y- r[] o[] x{} b0" ∷
    "reply 7:1 done ? absent" ∷
    "reply 7:2 done" ∷
    "refused 14 10 7" ∷
    [])
unfolding cases_compute
two_replicas_actions_ordered_crash_in_a_device_call_a = refl
