-- Cases of cases/ with their whole reports, which `.ci/theorems` writes down here.
use Rattle.std.specs.Prelude.{◌≡◌, [], ◌∷◌}
use mathlib.Core.Path.{refl}
use Rattle.cg_run_cases.specs.Replaying.{replayed_text, written}
use Rattle.cg_run_cases.specs.Computing.{cases_compute}

-- An action that was ignored behind a gap is retransmitted in the next exchange, after the one before it.
action_behind_a_gap_is_known_later :
    replayed_text (
    "start 1 2 3 4 5" ∷
    "merge 1" ∷
    "rounds 1" ∷
    "request 1 put \"x\" 1" ∷
    "rounds 1" ∷
    "split 1" ∷
    "merge 1 2" ∷
    "rounds 1" ∷
    "gather" ∷
    "deliver 1 1" ∷
    "request 1 put \"y\" 2" ∷
    "order 1" ∷
    "receive 2 4" ∷
    "split 2" ∷
    "split 1" ∷
    "merge 1 2" ∷
    "rounds 3" ∷
    "end" ∷
    [])
    ≡ written (
    "= 1" ∷
    "1 NonPrim - g0 w0 p0@0{1,2,3,4,5} a0 v- y- r[] o[] x{} b0" ∷
    "2 NonPrim - g0 w0 p0@0{1,2,3,4,5} a0 v- y- r[] o[] x{} b0" ∷
    "3 NonPrim - g0 w0 p0@0{1,2,3,4,5} a0 v- y- r[] o[] x{} b0" ∷
    "4 NonPrim - g0 w0 p0@0{1,2,3,4,5} a0 v- y- r[] o[] x{} b0" ∷
    "5 NonPrim - g0 w0 p0@0{1,2,3,4,5} a0 v- y- r[] o[] x{} b0" ∷
    "= 2" ∷
    "1 ExchangeStates c1 g0 w0 p0@0{1,2,3,4,5} a0 v- y- r[] o[] x{} b0" ∷
    "= 4" ∷
    "1 NonPrim c1 g0 w0 p0@0{1,2,3,4,5} a0 v- y- r[] o[] x{} b0" ∷
    "= 5" ∷
    "made 1:1 put \"x\" 1" ∷
    "1 NonPrim c1 g0 w0 p0@0{1,2,3,4,5} a0 v- y- r[] o[1:1] x{} b0" ∷
    "= 7" ∷
    "1 NonPrim c1 g0 w0 p0@0{1,2,3,4,5} a0 v- y- r[1:1] o[] x{} b0" ∷
    "= 8" ∷
    "1 NonPrim t1 g0 w0 p0@0{1,2,3,4,5} a0 v- y- r[1:1] o[] x{} b0" ∷
    "= 9" ∷
    "1 ExchangeStates c2 g0 w0 p0@0{1,2,3,4,5} a0 v- y- r[1:1] o[] x{} b0" ∷
    "2 ExchangeStates c2 g0 w0 p0@0{1,2,3,4,5} a0 v- y- r[] o[] x{} b0" ∷
    "= 11" ∷
    "1 ExchangeActions c2 g0 w0 p0@0{1,2,3,4,5} a0 v- y- r[1:1] o[] x{} b0" ∷
    "= 12" ∷
    "2 ExchangeActions c2 g0 w0 p0@0{1,2,3,4,5} a0 v- y- r[] o[] x{} b0" ∷
    "= 14" ∷
    "1 NonPrim c2 g0 w0 p0@0{1,2,3,4,5} a0 v- y- r[1:1] o[] x{} b0" ∷
    "= 15" ∷
    "made 1:2 put \"y\" 2" ∷
    "1 NonPrim c2 g0 w0 p0@0{1,2,3,4,5} a0 v- y- r[1:1] o[1:2] x{} b0" ∷
    "= 18" ∷
    "2 NonPrim t2 g0 w0 p0@0{1,2,3,4,5} a0 v- y- r[] o[] x{} b0" ∷
    "= 19" ∷
    "1 NonPrim t2 g0 w0 p0@0{1,2,3,4,5} a0 v- y- r[1:1,1:2] o[] x{} b0" ∷
    "= 20" ∷
    "1 ExchangeStates c3 g0 w0 p0@0{1,2,3,4,5} a0 v- y- r[1:1,1:2] o[] x{} b0" ∷
    "2 ExchangeStates c3 g0 w0 p0@0{1,2,3,4,5} a0 v- y- r[] o[] x{} b0" ∷
    "= 22" ∷
    "1 ExchangeActions c3 g0 w0 p0@0{1,2,3,4,5} a0 v- y- r[1:1,1:2] o[] x{} b0" ∷
    "= 23" ∷
    "2 ExchangeActions c3 g0 w0 p0@0{1,2,3,4,5} a0 v- y- r[] o[] x{} b0" ∷
    "= 25" ∷
    "1 NonPrim c3 g0 w0 p0@0{1,2,3,4,5} a0 v- y- r[1:1,1:2] o[] x{} b0" ∷
    "= 26" ∷
    "2 NonPrim c3 g0 w0 p0@0{1,2,3,4,5} a0 v- y- r[1:1,1:2] o[] x{} b0" ∷
    "end 27" ∷
    [])
unfolding cases_compute
action_behind_a_gap_is_known_later = refl

-- Two holders of a record, who meet a primary two indexes above it, are no longer held up by it.
attempt_cleared_by_a_primary_two_indexes_later :
    replayed_text (
    "start 1 2 3 4 5" ∷
    "merge 1 2 3 4 5" ∷
    "rounds 2" ∷
    "split 1 2 3" ∷
    "split 4 5" ∷
    "merge 1 2 3" ∷
    "gather" ∷
    "deliver 1 3" ∷
    "deliver 2 3" ∷
    "deliver 3 3" ∷
    "order 1" ∷
    "order 2" ∷
    "order 3" ∷
    "receive 2 4" ∷
    "receive 2 6" ∷
    "split 2 3" ∷
    "split 1" ∷
    "merge 1 4 5" ∷
    "rounds 3" ∷
    "split 4 5" ∷
    "merge 4 5" ∷
    "rounds 2" ∷
    "split 4 5" ∷
    "merge 2 3 4 5" ∷
    "rounds 2" ∷
    "end" ∷
    [])
    ≡ written (
    "= 1" ∷
    "1 NonPrim - g0 w0 p0@0{1,2,3,4,5} a0 v- y- r[] o[] x{} b0" ∷
    "2 NonPrim - g0 w0 p0@0{1,2,3,4,5} a0 v- y- r[] o[] x{} b0" ∷
    "3 NonPrim - g0 w0 p0@0{1,2,3,4,5} a0 v- y- r[] o[] x{} b0" ∷
    "4 NonPrim - g0 w0 p0@0{1,2,3,4,5} a0 v- y- r[] o[] x{} b0" ∷
    "5 NonPrim - g0 w0 p0@0{1,2,3,4,5} a0 v- y- r[] o[] x{} b0" ∷
    "= 2" ∷
    "1 ExchangeStates c1 g0 w0 p0@0{1,2,3,4,5} a0 v- y- r[] o[] x{} b0" ∷
    "2 ExchangeStates c1 g0 w0 p0@0{1,2,3,4,5} a0 v- y- r[] o[] x{} b0" ∷
    "3 ExchangeStates c1 g0 w0 p0@0{1,2,3,4,5} a0 v- y- r[] o[] x{} b0" ∷
    "4 ExchangeStates c1 g0 w0 p0@0{1,2,3,4,5} a0 v- y- r[] o[] x{} b0" ∷
    "5 ExchangeStates c1 g0 w0 p0@0{1,2,3,4,5} a0 v- y- r[] o[] x{} b0" ∷
    "= 4" ∷
    "1 Construct c1 g0 w0 p0@0{1,2,3,4,5} a1 v1/0{1,2,3,4,5}{1} y- r[] o[] x{} b0" ∷
    "= 5" ∷
    "2 Construct c1 g0 w0 p0@0{1,2,3,4,5} a1 v1/0{1,2,3,4,5}{2} y- r[] o[] x{} b0" ∷
    "= 6" ∷
    "3 Construct c1 g0 w0 p0@0{1,2,3,4,5} a1 v1/0{1,2,3,4,5}{3} y- r[] o[] x{} b0" ∷
    "= 7" ∷
    "4 Construct c1 g0 w0 p0@0{1,2,3,4,5} a1 v1/0{1,2,3,4,5}{4} y- r[] o[] x{} b0" ∷
    "= 8" ∷
    "5 Construct c1 g0 w0 p0@0{1,2,3,4,5} a1 v1/0{1,2,3,4,5}{5} y- r[] o[] x{} b0" ∷
    "= 10" ∷
    "1 RegPrim c1 g0 w0 p1@1{1,2,3,4,5} a0 v1/0{1,2,3,4,5}{1} y- r[] o[] x{} b0" ∷
    "= 11" ∷
    "2 RegPrim c1 g0 w0 p1@1{1,2,3,4,5} a0 v1/0{1,2,3,4,5}{2} y- r[] o[] x{} b0" ∷
    "= 12" ∷
    "3 RegPrim c1 g0 w0 p1@1{1,2,3,4,5} a0 v1/0{1,2,3,4,5}{3} y- r[] o[] x{} b0" ∷
    "= 13" ∷
    "4 RegPrim c1 g0 w0 p1@1{1,2,3,4,5} a0 v1/0{1,2,3,4,5}{4} y- r[] o[] x{} b0" ∷
    "= 14" ∷
    "5 RegPrim c1 g0 w0 p1@1{1,2,3,4,5} a0 v1/0{1,2,3,4,5}{5} y- r[] o[] x{} b0" ∷
    "= 15" ∷
    "1 TransPrim t1 g0 w0 p1@1{1,2,3,4,5} a0 v1/0{1,2,3,4,5}{1} y- r[] o[] x{} b0" ∷
    "2 TransPrim t1 g0 w0 p1@1{1,2,3,4,5} a0 v1/0{1,2,3,4,5}{2} y- r[] o[] x{} b0" ∷
    "3 TransPrim t1 g0 w0 p1@1{1,2,3,4,5} a0 v1/0{1,2,3,4,5}{3} y- r[] o[] x{} b0" ∷
    "= 16" ∷
    "4 TransPrim t1 g0 w0 p1@1{1,2,3,4,5} a0 v1/0{1,2,3,4,5}{4} y- r[] o[] x{} b0" ∷
    "5 TransPrim t1 g0 w0 p1@1{1,2,3,4,5} a0 v1/0{1,2,3,4,5}{5} y- r[] o[] x{} b0" ∷
    "= 17" ∷
    "1 ExchangeStates c2 g0 w0 p1@1{1,2,3,4,5} a0 v- y![] r[] o[] x{} b0" ∷
    "2 ExchangeStates c2 g0 w0 p1@1{1,2,3,4,5} a0 v- y![] r[] o[] x{} b0" ∷
    "3 ExchangeStates c2 g0 w0 p1@1{1,2,3,4,5} a0 v- y![] r[] o[] x{} b0" ∷
    "= 19" ∷
    "1 Construct c2 g0 w0 p1@1{1,2,3,4,5} a1 v2/1{1,2,3}{1} y![] r[] o[] x{} b0" ∷
    "= 20" ∷
    "2 Construct c2 g0 w0 p1@1{1,2,3,4,5} a1 v2/1{1,2,3}{2} y![] r[] o[] x{} b0" ∷
    "= 21" ∷
    "3 Construct c2 g0 w0 p1@1{1,2,3,4,5} a1 v2/1{1,2,3}{3} y![] r[] o[] x{} b0" ∷
    "= 27" ∷
    "2 Un t2 g0 w0 p1@1{1,2,3,4,5} a1 v2/1{1,2,3}{2} y![] r[] o[] x{} b0" ∷
    "3 Un t2 g0 w0 p1@1{1,2,3,4,5} a1 v2/1{1,2,3}{3} y![] r[] o[] x{} b0" ∷
    "= 28" ∷
    "1 No t2 g0 w0 p1@1{1,2,3,4,5} a1 v2/1{1,2,3}{1} y![] r[] o[] x{} b0" ∷
    "= 29" ∷
    "1 ExchangeStates c3 g0 w0 p1@1{1,2,3,4,5} a1 v- y![] r[] o[] x{} b0" ∷
    "4 ExchangeStates c3 g0 w0 p1@1{1,2,3,4,5} a0 v- y![] r[] o[] x{} b0" ∷
    "5 ExchangeStates c3 g0 w0 p1@1{1,2,3,4,5} a0 v- y![] r[] o[] x{} b0" ∷
    "= 31" ∷
    "1 Construct c3 g0 w0 p1@1{1,2,3,4,5} a2 v3/1{1,4,5}{1} y![] r[] o[] x{} b0" ∷
    "= 32" ∷
    "4 Construct c3 g0 w0 p1@1{1,2,3,4,5} a2 v3/1{1,4,5}{4} y![] r[] o[] x{} b0" ∷
    "= 33" ∷
    "5 Construct c3 g0 w0 p1@1{1,2,3,4,5} a2 v3/1{1,4,5}{5} y![] r[] o[] x{} b0" ∷
    "= 35" ∷
    "1 RegPrim c3 g0 w0 p2@3{1,4,5} a0 v3/1{1,4,5}{1} y- r[] o[] x{} b0" ∷
    "= 36" ∷
    "4 RegPrim c3 g0 w0 p2@3{1,4,5} a0 v3/1{1,4,5}{4} y- r[] o[] x{} b0" ∷
    "= 37" ∷
    "5 RegPrim c3 g0 w0 p2@3{1,4,5} a0 v3/1{1,4,5}{5} y- r[] o[] x{} b0" ∷
    "= 39" ∷
    "4 TransPrim t3 g0 w0 p2@3{1,4,5} a0 v3/1{1,4,5}{4} y- r[] o[] x{} b0" ∷
    "5 TransPrim t3 g0 w0 p2@3{1,4,5} a0 v3/1{1,4,5}{5} y- r[] o[] x{} b0" ∷
    "= 40" ∷
    "4 ExchangeStates c4 g0 w0 p2@3{1,4,5} a0 v- y![] r[] o[] x{} b0" ∷
    "5 ExchangeStates c4 g0 w0 p2@3{1,4,5} a0 v- y![] r[] o[] x{} b0" ∷
    "= 42" ∷
    "4 Construct c4 g0 w0 p2@3{1,4,5} a1 v4/2{4,5}{4} y![] r[] o[] x{} b0" ∷
    "= 43" ∷
    "5 Construct c4 g0 w0 p2@3{1,4,5} a1 v4/2{4,5}{5} y![] r[] o[] x{} b0" ∷
    "= 45" ∷
    "4 RegPrim c4 g0 w0 p3@4{4,5} a0 v4/2{4,5}{4} y- r[] o[] x{} b0" ∷
    "= 46" ∷
    "5 RegPrim c4 g0 w0 p3@4{4,5} a0 v4/2{4,5}{5} y- r[] o[] x{} b0" ∷
    "= 47" ∷
    "4 TransPrim t4 g0 w0 p3@4{4,5} a0 v4/2{4,5}{4} y- r[] o[] x{} b0" ∷
    "5 TransPrim t4 g0 w0 p3@4{4,5} a0 v4/2{4,5}{5} y- r[] o[] x{} b0" ∷
    "= 48" ∷
    "2 ExchangeStates c5 g0 w0 p1@1{1,2,3,4,5} a1 v2/1{1,2,3}{2} y![] r[] o[] x{} b0" ∷
    "3 ExchangeStates c5 g0 w0 p1@1{1,2,3,4,5} a1 v2/1{1,2,3}{3} y![] r[] o[] x{} b0" ∷
    "4 ExchangeStates c5 g0 w0 p3@4{4,5} a0 v- y![] r[] o[] x{} b0" ∷
    "5 ExchangeStates c5 g0 w0 p3@4{4,5} a0 v- y![] r[] o[] x{} b0" ∷
    "= 50" ∷
    "2 Construct c5 g0 w0 p3@4{4,5} a1 v5/3{2,3,4,5}{2} y![] r[] o[] x{} b0" ∷
    "= 51" ∷
    "3 Construct c5 g0 w0 p3@4{4,5} a1 v5/3{2,3,4,5}{3} y![] r[] o[] x{} b0" ∷
    "= 52" ∷
    "4 Construct c5 g0 w0 p3@4{4,5} a1 v5/3{2,3,4,5}{4} y![] r[] o[] x{} b0" ∷
    "= 53" ∷
    "5 Construct c5 g0 w0 p3@4{4,5} a1 v5/3{2,3,4,5}{5} y![] r[] o[] x{} b0" ∷
    "= 55" ∷
    "2 RegPrim c5 g0 w0 p4@5{2,3,4,5} a0 v5/3{2,3,4,5}{2} y- r[] o[] x{} b0" ∷
    "= 56" ∷
    "3 RegPrim c5 g0 w0 p4@5{2,3,4,5} a0 v5/3{2,3,4,5}{3} y- r[] o[] x{} b0" ∷
    "= 57" ∷
    "4 RegPrim c5 g0 w0 p4@5{2,3,4,5} a0 v5/3{2,3,4,5}{4} y- r[] o[] x{} b0" ∷
    "= 58" ∷
    "5 RegPrim c5 g0 w0 p4@5{2,3,4,5} a0 v5/3{2,3,4,5}{5} y- r[] o[] x{} b0" ∷
    "end 58" ∷
    [])
unfolding cases_compute
attempt_cleared_by_a_primary_two_indexes_later = refl

-- Two holders of a record, who meet a primary that others made from the same index, are no longer held up by it.
attempt_cleared_by_another_primary_from_its_index :
    replayed_text (
    "start 1 2 3 4 5" ∷
    "merge 1 2 3 4 5" ∷
    "rounds 2" ∷
    "split 1 2 3" ∷
    "split 4 5" ∷
    "merge 1 2 3" ∷
    "gather" ∷
    "deliver 1 3" ∷
    "deliver 2 3" ∷
    "deliver 3 3" ∷
    "order 1" ∷
    "order 2" ∷
    "order 3" ∷
    "receive 2 4" ∷
    "receive 2 6" ∷
    "split 2 3" ∷
    "split 1" ∷
    "merge 1 4 5" ∷
    "rounds 3" ∷
    "split 4 5" ∷
    "merge 2 3 4 5" ∷
    "rounds 2" ∷
    "end" ∷
    [])
    ≡ written (
    "= 1" ∷
    "1 NonPrim - g0 w0 p0@0{1,2,3,4,5} a0 v- y- r[] o[] x{} b0" ∷
    "2 NonPrim - g0 w0 p0@0{1,2,3,4,5} a0 v- y- r[] o[] x{} b0" ∷
    "3 NonPrim - g0 w0 p0@0{1,2,3,4,5} a0 v- y- r[] o[] x{} b0" ∷
    "4 NonPrim - g0 w0 p0@0{1,2,3,4,5} a0 v- y- r[] o[] x{} b0" ∷
    "5 NonPrim - g0 w0 p0@0{1,2,3,4,5} a0 v- y- r[] o[] x{} b0" ∷
    "= 2" ∷
    "1 ExchangeStates c1 g0 w0 p0@0{1,2,3,4,5} a0 v- y- r[] o[] x{} b0" ∷
    "2 ExchangeStates c1 g0 w0 p0@0{1,2,3,4,5} a0 v- y- r[] o[] x{} b0" ∷
    "3 ExchangeStates c1 g0 w0 p0@0{1,2,3,4,5} a0 v- y- r[] o[] x{} b0" ∷
    "4 ExchangeStates c1 g0 w0 p0@0{1,2,3,4,5} a0 v- y- r[] o[] x{} b0" ∷
    "5 ExchangeStates c1 g0 w0 p0@0{1,2,3,4,5} a0 v- y- r[] o[] x{} b0" ∷
    "= 4" ∷
    "1 Construct c1 g0 w0 p0@0{1,2,3,4,5} a1 v1/0{1,2,3,4,5}{1} y- r[] o[] x{} b0" ∷
    "= 5" ∷
    "2 Construct c1 g0 w0 p0@0{1,2,3,4,5} a1 v1/0{1,2,3,4,5}{2} y- r[] o[] x{} b0" ∷
    "= 6" ∷
    "3 Construct c1 g0 w0 p0@0{1,2,3,4,5} a1 v1/0{1,2,3,4,5}{3} y- r[] o[] x{} b0" ∷
    "= 7" ∷
    "4 Construct c1 g0 w0 p0@0{1,2,3,4,5} a1 v1/0{1,2,3,4,5}{4} y- r[] o[] x{} b0" ∷
    "= 8" ∷
    "5 Construct c1 g0 w0 p0@0{1,2,3,4,5} a1 v1/0{1,2,3,4,5}{5} y- r[] o[] x{} b0" ∷
    "= 10" ∷
    "1 RegPrim c1 g0 w0 p1@1{1,2,3,4,5} a0 v1/0{1,2,3,4,5}{1} y- r[] o[] x{} b0" ∷
    "= 11" ∷
    "2 RegPrim c1 g0 w0 p1@1{1,2,3,4,5} a0 v1/0{1,2,3,4,5}{2} y- r[] o[] x{} b0" ∷
    "= 12" ∷
    "3 RegPrim c1 g0 w0 p1@1{1,2,3,4,5} a0 v1/0{1,2,3,4,5}{3} y- r[] o[] x{} b0" ∷
    "= 13" ∷
    "4 RegPrim c1 g0 w0 p1@1{1,2,3,4,5} a0 v1/0{1,2,3,4,5}{4} y- r[] o[] x{} b0" ∷
    "= 14" ∷
    "5 RegPrim c1 g0 w0 p1@1{1,2,3,4,5} a0 v1/0{1,2,3,4,5}{5} y- r[] o[] x{} b0" ∷
    "= 15" ∷
    "1 TransPrim t1 g0 w0 p1@1{1,2,3,4,5} a0 v1/0{1,2,3,4,5}{1} y- r[] o[] x{} b0" ∷
    "2 TransPrim t1 g0 w0 p1@1{1,2,3,4,5} a0 v1/0{1,2,3,4,5}{2} y- r[] o[] x{} b0" ∷
    "3 TransPrim t1 g0 w0 p1@1{1,2,3,4,5} a0 v1/0{1,2,3,4,5}{3} y- r[] o[] x{} b0" ∷
    "= 16" ∷
    "4 TransPrim t1 g0 w0 p1@1{1,2,3,4,5} a0 v1/0{1,2,3,4,5}{4} y- r[] o[] x{} b0" ∷
    "5 TransPrim t1 g0 w0 p1@1{1,2,3,4,5} a0 v1/0{1,2,3,4,5}{5} y- r[] o[] x{} b0" ∷
    "= 17" ∷
    "1 ExchangeStates c2 g0 w0 p1@1{1,2,3,4,5} a0 v- y![] r[] o[] x{} b0" ∷
    "2 ExchangeStates c2 g0 w0 p1@1{1,2,3,4,5} a0 v- y![] r[] o[] x{} b0" ∷
    "3 ExchangeStates c2 g0 w0 p1@1{1,2,3,4,5} a0 v- y![] r[] o[] x{} b0" ∷
    "= 19" ∷
    "1 Construct c2 g0 w0 p1@1{1,2,3,4,5} a1 v2/1{1,2,3}{1} y![] r[] o[] x{} b0" ∷
    "= 20" ∷
    "2 Construct c2 g0 w0 p1@1{1,2,3,4,5} a1 v2/1{1,2,3}{2} y![] r[] o[] x{} b0" ∷
    "= 21" ∷
    "3 Construct c2 g0 w0 p1@1{1,2,3,4,5} a1 v2/1{1,2,3}{3} y![] r[] o[] x{} b0" ∷
    "= 27" ∷
    "2 Un t2 g0 w0 p1@1{1,2,3,4,5} a1 v2/1{1,2,3}{2} y![] r[] o[] x{} b0" ∷
    "3 Un t2 g0 w0 p1@1{1,2,3,4,5} a1 v2/1{1,2,3}{3} y![] r[] o[] x{} b0" ∷
    "= 28" ∷
    "1 No t2 g0 w0 p1@1{1,2,3,4,5} a1 v2/1{1,2,3}{1} y![] r[] o[] x{} b0" ∷
    "= 29" ∷
    "1 ExchangeStates c3 g0 w0 p1@1{1,2,3,4,5} a1 v- y![] r[] o[] x{} b0" ∷
    "4 ExchangeStates c3 g0 w0 p1@1{1,2,3,4,5} a0 v- y![] r[] o[] x{} b0" ∷
    "5 ExchangeStates c3 g0 w0 p1@1{1,2,3,4,5} a0 v- y![] r[] o[] x{} b0" ∷
    "= 31" ∷
    "1 Construct c3 g0 w0 p1@1{1,2,3,4,5} a2 v3/1{1,4,5}{1} y![] r[] o[] x{} b0" ∷
    "= 32" ∷
    "4 Construct c3 g0 w0 p1@1{1,2,3,4,5} a2 v3/1{1,4,5}{4} y![] r[] o[] x{} b0" ∷
    "= 33" ∷
    "5 Construct c3 g0 w0 p1@1{1,2,3,4,5} a2 v3/1{1,4,5}{5} y![] r[] o[] x{} b0" ∷
    "= 35" ∷
    "1 RegPrim c3 g0 w0 p2@3{1,4,5} a0 v3/1{1,4,5}{1} y- r[] o[] x{} b0" ∷
    "= 36" ∷
    "4 RegPrim c3 g0 w0 p2@3{1,4,5} a0 v3/1{1,4,5}{4} y- r[] o[] x{} b0" ∷
    "= 37" ∷
    "5 RegPrim c3 g0 w0 p2@3{1,4,5} a0 v3/1{1,4,5}{5} y- r[] o[] x{} b0" ∷
    "= 39" ∷
    "4 TransPrim t3 g0 w0 p2@3{1,4,5} a0 v3/1{1,4,5}{4} y- r[] o[] x{} b0" ∷
    "5 TransPrim t3 g0 w0 p2@3{1,4,5} a0 v3/1{1,4,5}{5} y- r[] o[] x{} b0" ∷
    "= 40" ∷
    "2 ExchangeStates c4 g0 w0 p1@1{1,2,3,4,5} a1 v2/1{1,2,3}{2} y![] r[] o[] x{} b0" ∷
    "3 ExchangeStates c4 g0 w0 p1@1{1,2,3,4,5} a1 v2/1{1,2,3}{3} y![] r[] o[] x{} b0" ∷
    "4 ExchangeStates c4 g0 w0 p2@3{1,4,5} a0 v- y![] r[] o[] x{} b0" ∷
    "5 ExchangeStates c4 g0 w0 p2@3{1,4,5} a0 v- y![] r[] o[] x{} b0" ∷
    "= 42" ∷
    "2 Construct c4 g0 w0 p2@3{1,4,5} a1 v4/2{2,3,4,5}{2} y![] r[] o[] x{} b0" ∷
    "= 43" ∷
    "3 Construct c4 g0 w0 p2@3{1,4,5} a1 v4/2{2,3,4,5}{3} y![] r[] o[] x{} b0" ∷
    "= 44" ∷
    "4 Construct c4 g0 w0 p2@3{1,4,5} a1 v4/2{2,3,4,5}{4} y![] r[] o[] x{} b0" ∷
    "= 45" ∷
    "5 Construct c4 g0 w0 p2@3{1,4,5} a1 v4/2{2,3,4,5}{5} y![] r[] o[] x{} b0" ∷
    "= 47" ∷
    "2 RegPrim c4 g0 w0 p3@4{2,3,4,5} a0 v4/2{2,3,4,5}{2} y- r[] o[] x{} b0" ∷
    "= 48" ∷
    "3 RegPrim c4 g0 w0 p3@4{2,3,4,5} a0 v4/2{2,3,4,5}{3} y- r[] o[] x{} b0" ∷
    "= 49" ∷
    "4 RegPrim c4 g0 w0 p3@4{2,3,4,5} a0 v4/2{2,3,4,5}{4} y- r[] o[] x{} b0" ∷
    "= 50" ∷
    "5 RegPrim c4 g0 w0 p3@4{2,3,4,5} a0 v4/2{2,3,4,5}{5} y- r[] o[] x{} b0" ∷
    "end 50" ∷
    [])
unfolding cases_compute
attempt_cleared_by_another_primary_from_its_index = refl

-- The attempt index is the greatest of the members with the last primary.
attempt_index_of_the_last_primary_a :
    replayed_text (
    "start 1 2 3 4 5 6 7" ∷
    "merge 1 2 3 4 5 6 7" ∷
    "split 1 4 7" ∷
    "split 5" ∷
    "split 3" ∷
    "merge 1 3 4 5 7" ∷
    "gather" ∷
    "deliver 1 5" ∷
    "deliver 4 5" ∷
    "gather" ∷
    "deliver 5 7" ∷
    "deliver 7 7" ∷
    "deliver 3 7" ∷
    "gather" ∷
    "split 2" ∷
    "split 1 4 5 7" ∷
    "deliver 3 3" ∷
    "split 3" ∷
    "split 6" ∷
    "merge 1 2 3 4 5 6 7" ∷
    "rounds 4" ∷
    "end" ∷
    [])
    ≡ written (
    "= 1" ∷
    "1 NonPrim - g0 w0 p0@0{1,2,3,4,5,6,7} a0 v- y- r[] o[] x{} b0" ∷
    "2 NonPrim - g0 w0 p0@0{1,2,3,4,5,6,7} a0 v- y- r[] o[] x{} b0" ∷
    "3 NonPrim - g0 w0 p0@0{1,2,3,4,5,6,7} a0 v- y- r[] o[] x{} b0" ∷
    "4 NonPrim - g0 w0 p0@0{1,2,3,4,5,6,7} a0 v- y- r[] o[] x{} b0" ∷
    "5 NonPrim - g0 w0 p0@0{1,2,3,4,5,6,7} a0 v- y- r[] o[] x{} b0" ∷
    "6 NonPrim - g0 w0 p0@0{1,2,3,4,5,6,7} a0 v- y- r[] o[] x{} b0" ∷
    "7 NonPrim - g0 w0 p0@0{1,2,3,4,5,6,7} a0 v- y- r[] o[] x{} b0" ∷
    "= 2" ∷
    "1 ExchangeStates c1 g0 w0 p0@0{1,2,3,4,5,6,7} a0 v- y- r[] o[] x{} b0" ∷
    "2 ExchangeStates c1 g0 w0 p0@0{1,2,3,4,5,6,7} a0 v- y- r[] o[] x{} b0" ∷
    "3 ExchangeStates c1 g0 w0 p0@0{1,2,3,4,5,6,7} a0 v- y- r[] o[] x{} b0" ∷
    "4 ExchangeStates c1 g0 w0 p0@0{1,2,3,4,5,6,7} a0 v- y- r[] o[] x{} b0" ∷
    "5 ExchangeStates c1 g0 w0 p0@0{1,2,3,4,5,6,7} a0 v- y- r[] o[] x{} b0" ∷
    "6 ExchangeStates c1 g0 w0 p0@0{1,2,3,4,5,6,7} a0 v- y- r[] o[] x{} b0" ∷
    "7 ExchangeStates c1 g0 w0 p0@0{1,2,3,4,5,6,7} a0 v- y- r[] o[] x{} b0" ∷
    "= 3" ∷
    "1 NonPrim t1 g0 w0 p0@0{1,2,3,4,5,6,7} a0 v- y- r[] o[] x{} b0" ∷
    "4 NonPrim t1 g0 w0 p0@0{1,2,3,4,5,6,7} a0 v- y- r[] o[] x{} b0" ∷
    "7 NonPrim t1 g0 w0 p0@0{1,2,3,4,5,6,7} a0 v- y- r[] o[] x{} b0" ∷
    "= 4" ∷
    "5 NonPrim t1 g0 w0 p0@0{1,2,3,4,5,6,7} a0 v- y- r[] o[] x{} b0" ∷
    "= 5" ∷
    "3 NonPrim t1 g0 w0 p0@0{1,2,3,4,5,6,7} a0 v- y- r[] o[] x{} b0" ∷
    "= 6" ∷
    "1 ExchangeStates c2 g0 w0 p0@0{1,2,3,4,5,6,7} a0 v- y- r[] o[] x{} b0" ∷
    "3 ExchangeStates c2 g0 w0 p0@0{1,2,3,4,5,6,7} a0 v- y- r[] o[] x{} b0" ∷
    "4 ExchangeStates c2 g0 w0 p0@0{1,2,3,4,5,6,7} a0 v- y- r[] o[] x{} b0" ∷
    "5 ExchangeStates c2 g0 w0 p0@0{1,2,3,4,5,6,7} a0 v- y- r[] o[] x{} b0" ∷
    "7 ExchangeStates c2 g0 w0 p0@0{1,2,3,4,5,6,7} a0 v- y- r[] o[] x{} b0" ∷
    "= 8" ∷
    "1 Construct c2 g0 w0 p0@0{1,2,3,4,5,6,7} a1 v2/0{1,3,4,5,7}{1} y- r[] o[] x{} b0" ∷
    "= 9" ∷
    "4 Construct c2 g0 w0 p0@0{1,2,3,4,5,6,7} a1 v2/0{1,3,4,5,7}{4} y- r[] o[] x{} b0" ∷
    "= 11" ∷
    "5 Construct c2 g0 w0 p0@0{1,2,3,4,5,6,7} a1 v2/0{1,3,4,5,7}{5} y- r[] o[] x{} b0" ∷
    "= 12" ∷
    "7 Construct c2 g0 w0 p0@0{1,2,3,4,5,6,7} a1 v2/0{1,3,4,5,7}{7} y- r[] o[] x{} b0" ∷
    "= 13" ∷
    "3 Construct c2 g0 w0 p0@0{1,2,3,4,5,6,7} a1 v2/0{1,3,4,5,7}{3} y- r[] o[] x{} b0" ∷
    "= 15" ∷
    "2 NonPrim t1 g0 w0 p0@0{1,2,3,4,5,6,7} a0 v- y- r[] o[] x{} b0" ∷
    "= 16" ∷
    "1 Un t2 g0 w0 p0@0{1,2,3,4,5,6,7} a1 v2/0{1,3,4,5,7}{1} y- r[] o[] x{} b0" ∷
    "4 Un t2 g0 w0 p0@0{1,2,3,4,5,6,7} a1 v2/0{1,3,4,5,7}{4} y- r[] o[] x{} b0" ∷
    "5 Un t2 g0 w0 p0@0{1,2,3,4,5,6,7} a1 v2/0{1,3,4,5,7}{5} y- r[] o[] x{} b0" ∷
    "7 Un t2 g0 w0 p0@0{1,2,3,4,5,6,7} a1 v2/0{1,3,4,5,7}{7} y- r[] o[] x{} b0" ∷
    "= 17" ∷
    "3 RegPrim c2 g0 w0 p1@2{1,3,4,5,7} a0 v2/0{1,3,4,5,7}{3} y- r[] o[] x{} b0" ∷
    "= 18" ∷
    "3 TransPrim t2 g0 w0 p1@2{1,3,4,5,7} a0 v2/0{1,3,4,5,7}{3} y- r[] o[] x{} b0" ∷
    "= 19" ∷
    "6 NonPrim t1 g0 w0 p0@0{1,2,3,4,5,6,7} a0 v- y- r[] o[] x{} b0" ∷
    "= 20" ∷
    "1 ExchangeStates c3 g0 w0 p0@0{1,2,3,4,5,6,7} a1 v2/0{1,3,4,5,7}{1} y- r[] o[] x{} b0" ∷
    "2 ExchangeStates c3 g0 w0 p0@0{1,2,3,4,5,6,7} a0 v- y- r[] o[] x{} b0" ∷
    "3 ExchangeStates c3 g0 w0 p1@2{1,3,4,5,7} a0 v- y![] r[] o[] x{} b0" ∷
    "4 ExchangeStates c3 g0 w0 p0@0{1,2,3,4,5,6,7} a1 v2/0{1,3,4,5,7}{4} y- r[] o[] x{} b0" ∷
    "5 ExchangeStates c3 g0 w0 p0@0{1,2,3,4,5,6,7} a1 v2/0{1,3,4,5,7}{5} y- r[] o[] x{} b0" ∷
    "6 ExchangeStates c3 g0 w0 p0@0{1,2,3,4,5,6,7} a0 v- y- r[] o[] x{} b0" ∷
    "7 ExchangeStates c3 g0 w0 p0@0{1,2,3,4,5,6,7} a1 v2/0{1,3,4,5,7}{7} y- r[] o[] x{} b0" ∷
    "= 22" ∷
    "1 Construct c3 g0 w0 p1@2{1,3,4,5,7} a1 v3/1{1,2,3,4,5,6,7}{1} y![] r[] o[] x{} b0" ∷
    "= 23" ∷
    "2 Construct c3 g0 w0 p1@2{1,3,4,5,7} a1 v3/1{1,2,3,4,5,6,7}{2} y![] r[] o[] x{} b0" ∷
    "= 24" ∷
    "3 Construct c3 g0 w0 p1@2{1,3,4,5,7} a1 v3/1{1,2,3,4,5,6,7}{3} y![] r[] o[] x{} b0" ∷
    "= 25" ∷
    "4 Construct c3 g0 w0 p1@2{1,3,4,5,7} a1 v3/1{1,2,3,4,5,6,7}{4} y![] r[] o[] x{} b0" ∷
    "= 26" ∷
    "5 Construct c3 g0 w0 p1@2{1,3,4,5,7} a1 v3/1{1,2,3,4,5,6,7}{5} y![] r[] o[] x{} b0" ∷
    "= 27" ∷
    "6 Construct c3 g0 w0 p1@2{1,3,4,5,7} a1 v3/1{1,2,3,4,5,6,7}{6} y![] r[] o[] x{} b0" ∷
    "= 28" ∷
    "7 Construct c3 g0 w0 p1@2{1,3,4,5,7} a1 v3/1{1,2,3,4,5,6,7}{7} y![] r[] o[] x{} b0" ∷
    "= 30" ∷
    "1 RegPrim c3 g0 w0 p2@3{1,2,3,4,5,6,7} a0 v3/1{1,2,3,4,5,6,7}{1} y- r[] o[] x{} b0" ∷
    "= 31" ∷
    "2 RegPrim c3 g0 w0 p2@3{1,2,3,4,5,6,7} a0 v3/1{1,2,3,4,5,6,7}{2} y- r[] o[] x{} b0" ∷
    "= 32" ∷
    "3 RegPrim c3 g0 w0 p2@3{1,2,3,4,5,6,7} a0 v3/1{1,2,3,4,5,6,7}{3} y- r[] o[] x{} b0" ∷
    "= 33" ∷
    "4 RegPrim c3 g0 w0 p2@3{1,2,3,4,5,6,7} a0 v3/1{1,2,3,4,5,6,7}{4} y- r[] o[] x{} b0" ∷
    "= 34" ∷
    "5 RegPrim c3 g0 w0 p2@3{1,2,3,4,5,6,7} a0 v3/1{1,2,3,4,5,6,7}{5} y- r[] o[] x{} b0" ∷
    "= 35" ∷
    "6 RegPrim c3 g0 w0 p2@3{1,2,3,4,5,6,7} a0 v3/1{1,2,3,4,5,6,7}{6} y- r[] o[] x{} b0" ∷
    "= 36" ∷
    "7 RegPrim c3 g0 w0 p2@3{1,2,3,4,5,6,7} a0 v3/1{1,2,3,4,5,6,7}{7} y- r[] o[] x{} b0" ∷
    "end 38" ∷
    [])
unfolding cases_compute
attempt_index_of_the_last_primary_a = refl

-- The attempt index is the greatest of the members with the last primary.
attempt_index_of_the_last_primary_b :
    replayed_text (
    "start 19 21 22" ∷
    "merge 21" ∷
    "merge 19 22" ∷
    "gather" ∷
    "deliver 19 1" ∷
    "deliver 22 1" ∷
    "split 21" ∷
    "merge 21" ∷
    "deliver 19 1" ∷
    "deliver 22 1" ∷
    "gather" ∷
    "deliver 22 1" ∷
    "deliver 22 1" ∷
    "split 19" ∷
    "merge 19" ∷
    "split 22" ∷
    "split 19" ∷
    "split 21" ∷
    "merge 19 21 22" ∷
    "rounds 3" ∷
    "end" ∷
    [])
    ≡ written (
    "= 1" ∷
    "19 NonPrim - g0 w0 p0@0{19,21,22} a0 v- y- r[] o[] x{} b0" ∷
    "21 NonPrim - g0 w0 p0@0{19,21,22} a0 v- y- r[] o[] x{} b0" ∷
    "22 NonPrim - g0 w0 p0@0{19,21,22} a0 v- y- r[] o[] x{} b0" ∷
    "= 2" ∷
    "21 ExchangeStates c1 g0 w0 p0@0{19,21,22} a0 v- y- r[] o[] x{} b0" ∷
    "= 3" ∷
    "19 ExchangeStates c2 g0 w0 p0@0{19,21,22} a0 v- y- r[] o[] x{} b0" ∷
    "22 ExchangeStates c2 g0 w0 p0@0{19,21,22} a0 v- y- r[] o[] x{} b0" ∷
    "= 7" ∷
    "21 NonPrim t1 g0 w0 p0@0{19,21,22} a0 v- y- r[] o[] x{} b0" ∷
    "= 8" ∷
    "21 ExchangeStates c3 g0 w0 p0@0{19,21,22} a0 v- y- r[] o[] x{} b0" ∷
    "= 9" ∷
    "19 Construct c2 g0 w0 p0@0{19,21,22} a1 v2/0{19,22}{19} y- r[] o[] x{} b0" ∷
    "= 10" ∷
    "22 Construct c2 g0 w0 p0@0{19,21,22} a1 v2/0{19,22}{22} y- r[] o[] x{} b0" ∷
    "= 13" ∷
    "22 RegPrim c2 g0 w0 p1@2{19,22} a0 v2/0{19,22}{22} y- r[] o[] x{} b0" ∷
    "= 14" ∷
    "19 Un t2 g0 w0 p0@0{19,21,22} a1 v2/0{19,22}{19} y- r[] o[] x{} b0" ∷
    "= 15" ∷
    "19 ExchangeStates c4 g0 w0 p0@0{19,21,22} a1 v2/0{19,22}{19} y- r[] o[] x{} b0" ∷
    "= 16" ∷
    "22 TransPrim t2 g0 w0 p1@2{19,22} a0 v2/0{19,22}{22} y- r[] o[] x{} b0" ∷
    "= 17" ∷
    "19 NonPrim t4 g0 w0 p0@0{19,21,22} a1 v2/0{19,22}{19} y- r[] o[] x{} b0" ∷
    "= 18" ∷
    "21 NonPrim t3 g0 w0 p0@0{19,21,22} a0 v- y- r[] o[] x{} b0" ∷
    "= 19" ∷
    "19 ExchangeStates c5 g0 w0 p0@0{19,21,22} a1 v2/0{19,22}{19} y- r[] o[] x{} b0" ∷
    "21 ExchangeStates c5 g0 w0 p0@0{19,21,22} a0 v- y- r[] o[] x{} b0" ∷
    "22 ExchangeStates c5 g0 w0 p1@2{19,22} a0 v- y![] r[] o[] x{} b0" ∷
    "= 21" ∷
    "19 Construct c5 g0 w0 p1@2{19,22} a1 v5/1{19,21,22}{19} y![] r[] o[] x{} b0" ∷
    "= 22" ∷
    "21 Construct c5 g0 w0 p1@2{19,22} a1 v5/1{19,21,22}{21} y![] r[] o[] x{} b0" ∷
    "= 23" ∷
    "22 Construct c5 g0 w0 p1@2{19,22} a1 v5/1{19,21,22}{22} y![] r[] o[] x{} b0" ∷
    "= 25" ∷
    "19 RegPrim c5 g0 w0 p2@5{19,21,22} a0 v5/1{19,21,22}{19} y- r[] o[] x{} b0" ∷
    "= 26" ∷
    "21 RegPrim c5 g0 w0 p2@5{19,21,22} a0 v5/1{19,21,22}{21} y- r[] o[] x{} b0" ∷
    "= 27" ∷
    "22 RegPrim c5 g0 w0 p2@5{19,21,22} a0 v5/1{19,21,22}{22} y- r[] o[] x{} b0" ∷
    "end 28" ∷
    [])
unfolding cases_compute
attempt_index_of_the_last_primary_b = refl

-- The attempt index is the greatest of the members with the last primary.
attempt_index_of_the_last_primary_c :
    replayed_text (
    "start 4 11 21" ∷
    "merge 4 11 21" ∷
    "rounds 1" ∷
    "split 4 11 21" ∷
    "merge 4 11 21" ∷
    "split 11" ∷
    "split 4 21" ∷
    "merge 4 21" ∷
    "merge 11" ∷
    "split 4" ∷
    "split 11" ∷
    "merge 4 11" ∷
    "rounds 2" ∷
    "split 21" ∷
    "split 4 11" ∷
    "merge 4 11 21" ∷
    "split 11 21" ∷
    "split 4" ∷
    "merge 11 21" ∷
    "split 11 21" ∷
    "merge 4 11 21" ∷
    "rounds 2" ∷
    "end" ∷
    [])
    ≡ written (
    "= 1" ∷
    "4 NonPrim - g0 w0 p0@0{4,11,21} a0 v- y- r[] o[] x{} b0" ∷
    "11 NonPrim - g0 w0 p0@0{4,11,21} a0 v- y- r[] o[] x{} b0" ∷
    "21 NonPrim - g0 w0 p0@0{4,11,21} a0 v- y- r[] o[] x{} b0" ∷
    "= 2" ∷
    "4 ExchangeStates c1 g0 w0 p0@0{4,11,21} a0 v- y- r[] o[] x{} b0" ∷
    "11 ExchangeStates c1 g0 w0 p0@0{4,11,21} a0 v- y- r[] o[] x{} b0" ∷
    "21 ExchangeStates c1 g0 w0 p0@0{4,11,21} a0 v- y- r[] o[] x{} b0" ∷
    "= 4" ∷
    "4 Construct c1 g0 w0 p0@0{4,11,21} a1 v1/0{4,11,21}{4} y- r[] o[] x{} b0" ∷
    "= 5" ∷
    "11 Construct c1 g0 w0 p0@0{4,11,21} a1 v1/0{4,11,21}{11} y- r[] o[] x{} b0" ∷
    "= 6" ∷
    "21 Construct c1 g0 w0 p0@0{4,11,21} a1 v1/0{4,11,21}{21} y- r[] o[] x{} b0" ∷
    "= 7" ∷
    "4 No t1 g0 w0 p0@0{4,11,21} a1 v1/0{4,11,21}{4} y- r[] o[] x{} b0" ∷
    "11 No t1 g0 w0 p0@0{4,11,21} a1 v1/0{4,11,21}{11} y- r[] o[] x{} b0" ∷
    "21 No t1 g0 w0 p0@0{4,11,21} a1 v1/0{4,11,21}{21} y- r[] o[] x{} b0" ∷
    "= 8" ∷
    "4 ExchangeStates c2 g0 w0 p0@0{4,11,21} a1 v- y- r[] o[] x{} b0" ∷
    "11 ExchangeStates c2 g0 w0 p0@0{4,11,21} a1 v- y- r[] o[] x{} b0" ∷
    "21 ExchangeStates c2 g0 w0 p0@0{4,11,21} a1 v- y- r[] o[] x{} b0" ∷
    "= 9" ∷
    "11 NonPrim t2 g0 w0 p0@0{4,11,21} a1 v- y- r[] o[] x{} b0" ∷
    "= 10" ∷
    "4 NonPrim t2 g0 w0 p0@0{4,11,21} a1 v- y- r[] o[] x{} b0" ∷
    "21 NonPrim t2 g0 w0 p0@0{4,11,21} a1 v- y- r[] o[] x{} b0" ∷
    "= 11" ∷
    "4 ExchangeStates c3 g0 w0 p0@0{4,11,21} a1 v- y- r[] o[] x{} b0" ∷
    "21 ExchangeStates c3 g0 w0 p0@0{4,11,21} a1 v- y- r[] o[] x{} b0" ∷
    "= 12" ∷
    "11 ExchangeStates c4 g0 w0 p0@0{4,11,21} a1 v- y- r[] o[] x{} b0" ∷
    "= 13" ∷
    "4 NonPrim t3 g0 w0 p0@0{4,11,21} a1 v- y- r[] o[] x{} b0" ∷
    "= 14" ∷
    "11 NonPrim t4 g0 w0 p0@0{4,11,21} a1 v- y- r[] o[] x{} b0" ∷
    "= 15" ∷
    "4 ExchangeStates c5 g0 w0 p0@0{4,11,21} a1 v- y- r[] o[] x{} b0" ∷
    "11 ExchangeStates c5 g0 w0 p0@0{4,11,21} a1 v- y- r[] o[] x{} b0" ∷
    "= 17" ∷
    "4 Construct c5 g0 w0 p0@0{4,11,21} a2 v5/0{4,11}{4} y- r[] o[] x{} b0" ∷
    "= 18" ∷
    "11 Construct c5 g0 w0 p0@0{4,11,21} a2 v5/0{4,11}{11} y- r[] o[] x{} b0" ∷
    "= 20" ∷
    "4 RegPrim c5 g0 w0 p1@5{4,11} a0 v5/0{4,11}{4} y- r[] o[] x{} b0" ∷
    "= 21" ∷
    "11 RegPrim c5 g0 w0 p1@5{4,11} a0 v5/0{4,11}{11} y- r[] o[] x{} b0" ∷
    "= 22" ∷
    "21 NonPrim t3 g0 w0 p0@0{4,11,21} a1 v- y- r[] o[] x{} b0" ∷
    "= 23" ∷
    "4 TransPrim t5 g0 w0 p1@5{4,11} a0 v5/0{4,11}{4} y- r[] o[] x{} b0" ∷
    "11 TransPrim t5 g0 w0 p1@5{4,11} a0 v5/0{4,11}{11} y- r[] o[] x{} b0" ∷
    "= 24" ∷
    "4 ExchangeStates c6 g0 w0 p1@5{4,11} a0 v- y![] r[] o[] x{} b0" ∷
    "11 ExchangeStates c6 g0 w0 p1@5{4,11} a0 v- y![] r[] o[] x{} b0" ∷
    "21 ExchangeStates c6 g0 w0 p0@0{4,11,21} a1 v- y- r[] o[] x{} b0" ∷
    "= 25" ∷
    "11 NonPrim t6 g0 w0 p1@5{4,11} a0 v- y![] r[] o[] x{} b0" ∷
    "21 NonPrim t6 g0 w0 p0@0{4,11,21} a1 v- y- r[] o[] x{} b0" ∷
    "= 26" ∷
    "4 NonPrim t6 g0 w0 p1@5{4,11} a0 v- y![] r[] o[] x{} b0" ∷
    "= 27" ∷
    "11 ExchangeStates c7 g0 w0 p1@5{4,11} a0 v- y![] r[] o[] x{} b0" ∷
    "21 ExchangeStates c7 g0 w0 p0@0{4,11,21} a1 v- y- r[] o[] x{} b0" ∷
    "= 28" ∷
    "11 NonPrim t7 g0 w0 p1@5{4,11} a0 v- y![] r[] o[] x{} b0" ∷
    "21 NonPrim t7 g0 w0 p0@0{4,11,21} a1 v- y- r[] o[] x{} b0" ∷
    "= 29" ∷
    "4 ExchangeStates c8 g0 w0 p1@5{4,11} a0 v- y![] r[] o[] x{} b0" ∷
    "11 ExchangeStates c8 g0 w0 p1@5{4,11} a0 v- y![] r[] o[] x{} b0" ∷
    "21 ExchangeStates c8 g0 w0 p0@0{4,11,21} a1 v- y- r[] o[] x{} b0" ∷
    "= 31" ∷
    "4 Construct c8 g0 w0 p1@5{4,11} a1 v8/1{4,11,21}{4} y![] r[] o[] x{} b0" ∷
    "= 32" ∷
    "11 Construct c8 g0 w0 p1@5{4,11} a1 v8/1{4,11,21}{11} y![] r[] o[] x{} b0" ∷
    "= 33" ∷
    "21 Construct c8 g0 w0 p1@5{4,11} a1 v8/1{4,11,21}{21} y![] r[] o[] x{} b0" ∷
    "= 35" ∷
    "4 RegPrim c8 g0 w0 p2@8{4,11,21} a0 v8/1{4,11,21}{4} y- r[] o[] x{} b0" ∷
    "= 36" ∷
    "11 RegPrim c8 g0 w0 p2@8{4,11,21} a0 v8/1{4,11,21}{11} y- r[] o[] x{} b0" ∷
    "= 37" ∷
    "21 RegPrim c8 g0 w0 p2@8{4,11,21} a0 v8/1{4,11,21}{21} y- r[] o[] x{} b0" ∷
    "end 37" ∷
    [])
unfolding cases_compute
attempt_index_of_the_last_primary_c = refl

-- The bits of all holders of a record are joined.
bits_of_all_holders_joined_a :
    replayed_text (
    "start 1 2 3" ∷
    "merge 1 2 3" ∷
    "gather" ∷
    "deliver 2 3" ∷
    "deliver 3 3" ∷
    "deliver 1 3" ∷
    "gather" ∷
    "split 1 2 3" ∷
    "merge 1 2 3" ∷
    "split 1 2" ∷
    "merge 1 2" ∷
    "gather" ∷
    "deliver 2 2" ∷
    "end" ∷
    [])
    ≡ written (
    "= 1" ∷
    "1 NonPrim - g0 w0 p0@0{1,2,3} a0 v- y- r[] o[] x{} b0" ∷
    "2 NonPrim - g0 w0 p0@0{1,2,3} a0 v- y- r[] o[] x{} b0" ∷
    "3 NonPrim - g0 w0 p0@0{1,2,3} a0 v- y- r[] o[] x{} b0" ∷
    "= 2" ∷
    "1 ExchangeStates c1 g0 w0 p0@0{1,2,3} a0 v- y- r[] o[] x{} b0" ∷
    "2 ExchangeStates c1 g0 w0 p0@0{1,2,3} a0 v- y- r[] o[] x{} b0" ∷
    "3 ExchangeStates c1 g0 w0 p0@0{1,2,3} a0 v- y- r[] o[] x{} b0" ∷
    "= 4" ∷
    "2 Construct c1 g0 w0 p0@0{1,2,3} a1 v1/0{1,2,3}{2} y- r[] o[] x{} b0" ∷
    "= 5" ∷
    "3 Construct c1 g0 w0 p0@0{1,2,3} a1 v1/0{1,2,3}{3} y- r[] o[] x{} b0" ∷
    "= 6" ∷
    "1 Construct c1 g0 w0 p0@0{1,2,3} a1 v1/0{1,2,3}{1} y- r[] o[] x{} b0" ∷
    "= 8" ∷
    "1 Un t1 g0 w0 p0@0{1,2,3} a1 v1/0{1,2,3}{1} y- r[] o[] x{} b0" ∷
    "2 Un t1 g0 w0 p0@0{1,2,3} a1 v1/0{1,2,3}{2} y- r[] o[] x{} b0" ∷
    "3 Un t1 g0 w0 p0@0{1,2,3} a1 v1/0{1,2,3}{3} y- r[] o[] x{} b0" ∷
    "= 9" ∷
    "1 ExchangeStates c2 g0 w0 p0@0{1,2,3} a1 v1/0{1,2,3}{1} y- r[] o[] x{} b0" ∷
    "2 ExchangeStates c2 g0 w0 p0@0{1,2,3} a1 v1/0{1,2,3}{2} y- r[] o[] x{} b0" ∷
    "3 ExchangeStates c2 g0 w0 p0@0{1,2,3} a1 v1/0{1,2,3}{3} y- r[] o[] x{} b0" ∷
    "= 10" ∷
    "1 NonPrim t2 g0 w0 p0@0{1,2,3} a1 v1/0{1,2,3}{1} y- r[] o[] x{} b0" ∷
    "2 NonPrim t2 g0 w0 p0@0{1,2,3} a1 v1/0{1,2,3}{2} y- r[] o[] x{} b0" ∷
    "= 11" ∷
    "1 ExchangeStates c3 g0 w0 p0@0{1,2,3} a1 v1/0{1,2,3}{1} y- r[] o[] x{} b0" ∷
    "2 ExchangeStates c3 g0 w0 p0@0{1,2,3} a1 v1/0{1,2,3}{2} y- r[] o[] x{} b0" ∷
    "= 13" ∷
    "2 NonPrim c3 g0 w0 p0@0{1,2,3} a1 v1/0{1,2,3}{1,2} y- r[] o[] x{} b0" ∷
    "end 13" ∷
    [])
unfolding cases_compute
bits_of_all_holders_joined_a = refl
