-- Cases of cases/ with their whole reports, which `.ci/theorems` writes down here.
use Rattle.std.specs.Prelude.{◌≡◌, [], ◌∷◌}
use mathlib.Core.Path.{refl}
use Rattle.cg_run_cases.specs.Replaying.{replayed_text, written}
use Rattle.cg_run_cases.specs.Computing.{cases_compute}

-- The bits of all holders of a record are joined.
bits_of_all_holders_joined_b :
    replayed_text (
    "start 1 2 3" ∷
    "merge 1 2 3" ∷
    "split 1 2 3" ∷
    "merge 1 2 3" ∷
    "split 1" ∷
    "merge 1" ∷
    "split 2 3" ∷
    "rounds 3" ∷
    "stop 3 0 02" ∷
    "request 1 move \"a\" \"y\" 9223372036854775807 ? count" ∷
    "merge 2" ∷
    "recover 3" ∷
    "split 1" ∷
    "split 2" ∷
    "merge 1 2 3" ∷
    "rounds 2" ∷
    "gather" ∷
    "split 1 3" ∷
    "split 2" ∷
    "merge 1 2 3" ∷
    "split 1 2 3" ∷
    "merge 1 2 3" ∷
    "split 1 3" ∷
    "merge 1 3" ∷
    "rounds 3" ∷
    "end" ∷
    [])
    ≡ written (
    "= 1" ∷
    "1 NonPrim - g0 w0 p0@0{1,2,3} a0 v- y- r[] o[] x{} b0" ∷
    "2 NonPrim - g0 w0 p0@0{1,2,3} a0 v- y- r[] o[] x{} b0" ∷
    "3 NonPrim - g0 w0 p0@0{1,2,3} a0 v- y- r[] o[] x{} b0" ∷
    "= 2" ∷
    "1 ExchangeStates c1 g0 w0 p0@0{1,2,3} a0 v- y- r[] o[] x{} b0" ∷
    "2 ExchangeStates c1 g0 w0 p0@0{1,2,3} a0 v- y- r[] o[] x{} b0" ∷
    "3 ExchangeStates c1 g0 w0 p0@0{1,2,3} a0 v- y- r[] o[] x{} b0" ∷
    "= 3" ∷
    "1 NonPrim t1 g0 w0 p0@0{1,2,3} a0 v- y- r[] o[] x{} b0" ∷
    "2 NonPrim t1 g0 w0 p0@0{1,2,3} a0 v- y- r[] o[] x{} b0" ∷
    "3 NonPrim t1 g0 w0 p0@0{1,2,3} a0 v- y- r[] o[] x{} b0" ∷
    "= 4" ∷
    "1 ExchangeStates c2 g0 w0 p0@0{1,2,3} a0 v- y- r[] o[] x{} b0" ∷
    "2 ExchangeStates c2 g0 w0 p0@0{1,2,3} a0 v- y- r[] o[] x{} b0" ∷
    "3 ExchangeStates c2 g0 w0 p0@0{1,2,3} a0 v- y- r[] o[] x{} b0" ∷
    "= 5" ∷
    "1 NonPrim t2 g0 w0 p0@0{1,2,3} a0 v- y- r[] o[] x{} b0" ∷
    "= 6" ∷
    "1 ExchangeStates c3 g0 w0 p0@0{1,2,3} a0 v- y- r[] o[] x{} b0" ∷
    "= 7" ∷
    "2 NonPrim t2 g0 w0 p0@0{1,2,3} a0 v- y- r[] o[] x{} b0" ∷
    "3 NonPrim t2 g0 w0 p0@0{1,2,3} a0 v- y- r[] o[] x{} b0" ∷
    "= 9" ∷
    "1 NonPrim c3 g0 w0 p0@0{1,2,3} a0 v- y- r[] o[] x{} b0" ∷
    "= 12" ∷
    "3 Down" ∷
    "= 13" ∷
    "made 1:1 move \"a\" \"y\" 9223372036854775807 ? count" ∷
    "1 NonPrim c3 g0 w0 p0@0{1,2,3} a0 v- y- r[] o[1:1] x{} b0" ∷
    "= 14" ∷
    "2 ExchangeStates c4 g0 w0 p0@0{1,2,3} a0 v- y- r[] o[] x{} b0" ∷
    "= 15" ∷
    "3 NonPrim - g0 w0 p0@0{1,2,3} a0 v- y- r[] o[] x{} b0" ∷
    "= 16" ∷
    "1 NonPrim t3 g0 w0 p0@0{1,2,3} a0 v- y- r[] o[1:1] x{} b0" ∷
    "= 17" ∷
    "2 NonPrim t4 g0 w0 p0@0{1,2,3} a0 v- y- r[] o[] x{} b0" ∷
    "= 18" ∷
    "1 ExchangeStates c5 g0 w0 p0@0{1,2,3} a0 v- y- r[1:1] o[] x{} b0" ∷
    "2 ExchangeStates c5 g0 w0 p0@0{1,2,3} a0 v- y- r[] o[] x{} b0" ∷
    "3 ExchangeStates c5 g0 w0 p0@0{1,2,3} a0 v- y- r[] o[] x{} b0" ∷
    "= 20" ∷
    "1 ExchangeActions c5 g0 w0 p0@0{1,2,3} a0 v- y- r[1:1] o[] x{} b0" ∷
    "= 21" ∷
    "2 ExchangeActions c5 g0 w0 p0@0{1,2,3} a0 v- y- r[] o[] x{} b0" ∷
    "= 22" ∷
    "3 ExchangeActions c5 g0 w0 p0@0{1,2,3} a0 v- y- r[] o[] x{} b0" ∷
    "= 24" ∷
    "1 Construct c5 g0 w0 p0@0{1,2,3} a1 v5/0{1,2,3}{1} y- r[1:1] o[] x{} b0" ∷
    "= 25" ∷
    "2 Construct c5 g0 w0 p0@0{1,2,3} a1 v5/0{1,2,3}{2} y- r[1:1] o[] x{} b0" ∷
    "= 26" ∷
    "3 Construct c5 g0 w0 p0@0{1,2,3} a1 v5/0{1,2,3}{3} y- r[1:1] o[] x{} b0" ∷
    "= 28" ∷
    "1 Un t5 g0 w0 p0@0{1,2,3} a1 v5/0{1,2,3}{1} y- r[1:1] o[] x{} b0" ∷
    "3 Un t5 g0 w0 p0@0{1,2,3} a1 v5/0{1,2,3}{3} y- r[1:1] o[] x{} b0" ∷
    "= 29" ∷
    "2 Un t5 g0 w0 p0@0{1,2,3} a1 v5/0{1,2,3}{2} y- r[1:1] o[] x{} b0" ∷
    "= 30" ∷
    "1 ExchangeStates c6 g0 w0 p0@0{1,2,3} a1 v5/0{1,2,3}{1} y- r[1:1] o[] x{} b0" ∷
    "2 ExchangeStates c6 g0 w0 p0@0{1,2,3} a1 v5/0{1,2,3}{2} y- r[1:1] o[] x{} b0" ∷
    "3 ExchangeStates c6 g0 w0 p0@0{1,2,3} a1 v5/0{1,2,3}{3} y- r[1:1] o[] x{} b0" ∷
    "= 31" ∷
    "1 NonPrim t6 g0 w0 p0@0{1,2,3} a1 v5/0{1,2,3}{1} y- r[1:1] o[] x{} b0" ∷
    "2 NonPrim t6 g0 w0 p0@0{1,2,3} a1 v5/0{1,2,3}{2} y- r[1:1] o[] x{} b0" ∷
    "3 NonPrim t6 g0 w0 p0@0{1,2,3} a1 v5/0{1,2,3}{3} y- r[1:1] o[] x{} b0" ∷
    "= 32" ∷
    "1 ExchangeStates c7 g0 w0 p0@0{1,2,3} a1 v5/0{1,2,3}{1} y- r[1:1] o[] x{} b0" ∷
    "2 ExchangeStates c7 g0 w0 p0@0{1,2,3} a1 v5/0{1,2,3}{2} y- r[1:1] o[] x{} b0" ∷
    "3 ExchangeStates c7 g0 w0 p0@0{1,2,3} a1 v5/0{1,2,3}{3} y- r[1:1] o[] x{} b0" ∷
    "= 33" ∷
    "1 NonPrim t7 g0 w0 p0@0{1,2,3} a1 v5/0{1,2,3}{1} y- r[1:1] o[] x{} b0" ∷
    "3 NonPrim t7 g0 w0 p0@0{1,2,3} a1 v5/0{1,2,3}{3} y- r[1:1] o[] x{} b0" ∷
    "= 34" ∷
    "1 ExchangeStates c8 g0 w0 p0@0{1,2,3} a1 v5/0{1,2,3}{1} y- r[1:1] o[] x{} b0" ∷
    "3 ExchangeStates c8 g0 w0 p0@0{1,2,3} a1 v5/0{1,2,3}{3} y- r[1:1] o[] x{} b0" ∷
    "= 36" ∷
    "1 NonPrim c8 g0 w0 p0@0{1,2,3} a1 v5/0{1,2,3}{1,3} y- r[1:1] o[] x{} b0" ∷
    "= 37" ∷
    "3 NonPrim c8 g0 w0 p0@0{1,2,3} a1 v5/0{1,2,3}{1,3} y- r[1:1] o[] x{} b0" ∷
    "end 39" ∷
    [])
unfolding cases_compute
bits_of_all_holders_joined_b = refl

-- The bits of all holders of a record are joined.
bits_of_all_holders_joined_c :
    replayed_text (
    "start 1 2 3" ∷
    "merge 1 2 3" ∷
    "gather" ∷
    "deliver 1 3" ∷
    "deliver 3 3" ∷
    "gather" ∷
    "deliver 2 5" ∷
    "gather" ∷
    "split 1 2" ∷
    "merge 1 2" ∷
    "gather" ∷
    "deliver 1 1" ∷
    "deliver 1 1" ∷
    "end" ∷
    [])
    ≡ written (
    "= 1" ∷
    "1 NonPrim - g0 w0 p0@0{1,2,3} a0 v- y- r[] o[] x{} b0" ∷
    "2 NonPrim - g0 w0 p0@0{1,2,3} a0 v- y- r[] o[] x{} b0" ∷
    "3 NonPrim - g0 w0 p0@0{1,2,3} a0 v- y- r[] o[] x{} b0" ∷
    "= 2" ∷
    "1 ExchangeStates c1 g0 w0 p0@0{1,2,3} a0 v- y- r[] o[] x{} b0" ∷
    "2 ExchangeStates c1 g0 w0 p0@0{1,2,3} a0 v- y- r[] o[] x{} b0" ∷
    "3 ExchangeStates c1 g0 w0 p0@0{1,2,3} a0 v- y- r[] o[] x{} b0" ∷
    "= 4" ∷
    "1 Construct c1 g0 w0 p0@0{1,2,3} a1 v1/0{1,2,3}{1} y- r[] o[] x{} b0" ∷
    "= 5" ∷
    "3 Construct c1 g0 w0 p0@0{1,2,3} a1 v1/0{1,2,3}{3} y- r[] o[] x{} b0" ∷
    "= 7" ∷
    "2 Construct c1 g0 w0 p0@0{1,2,3} a1 v1/0{1,2,3}{2} y- r[] o[] x{} b0" ∷
    "= 9" ∷
    "1 Un t1 g0 w0 p0@0{1,2,3} a1 v1/0{1,2,3}{1} y- r[] o[] x{} b0" ∷
    "2 Un t1 g0 w0 p0@0{1,2,3} a1 v1/0{1,2,3}{2} y- r[] o[] x{} b0" ∷
    "= 10" ∷
    "1 ExchangeStates c2 g0 w0 p0@0{1,2,3} a1 v1/0{1,2,3}{1} y- r[] o[] x{} b0" ∷
    "2 ExchangeStates c2 g0 w0 p0@0{1,2,3} a1 v1/0{1,2,3}{2} y- r[] o[] x{} b0" ∷
    "= 13" ∷
    "1 NonPrim c2 g0 w0 p0@0{1,2,3} a1 v1/0{1,2,3}{1,2} y- r[] o[] x{} b0" ∷
    "end 13" ∷
    [])
unfolding cases_compute
bits_of_all_holders_joined_c = refl

-- A clearing makes four calls, so a stop at the fifth does not strike.
clearing_ends_before_the_stop_with_no_bytes :
    replayed_text (
    "start 1 2 3" ∷
    "merge 1 2 3" ∷
    "rounds 2" ∷
    "request 1 put \"x\" 1" ∷
    "rounds 1" ∷
    "stop 1 0 -" ∷
    "downgrade 1" ∷
    "recover 1 14 -" ∷
    "recover 1 10 -" ∷
    "split 2 3" ∷
    "merge 1 2 3" ∷
    "rounds 4" ∷
    "request 1 inc \"x\" 1 ? get \"x\"" ∷
    "rounds 1" ∷
    "end" ∷
    [])
    ≡ written (
    "= 1" ∷
    "1 NonPrim - g0 w0 p0@0{1,2,3} a0 v- y- r[] o[] x{} b0" ∷
    "2 NonPrim - g0 w0 p0@0{1,2,3} a0 v- y- r[] o[] x{} b0" ∷
    "3 NonPrim - g0 w0 p0@0{1,2,3} a0 v- y- r[] o[] x{} b0" ∷
    "= 2" ∷
    "1 ExchangeStates c1 g0 w0 p0@0{1,2,3} a0 v- y- r[] o[] x{} b0" ∷
    "2 ExchangeStates c1 g0 w0 p0@0{1,2,3} a0 v- y- r[] o[] x{} b0" ∷
    "3 ExchangeStates c1 g0 w0 p0@0{1,2,3} a0 v- y- r[] o[] x{} b0" ∷
    "= 4" ∷
    "1 Construct c1 g0 w0 p0@0{1,2,3} a1 v1/0{1,2,3}{1} y- r[] o[] x{} b0" ∷
    "= 5" ∷
    "2 Construct c1 g0 w0 p0@0{1,2,3} a1 v1/0{1,2,3}{2} y- r[] o[] x{} b0" ∷
    "= 6" ∷
    "3 Construct c1 g0 w0 p0@0{1,2,3} a1 v1/0{1,2,3}{3} y- r[] o[] x{} b0" ∷
    "= 8" ∷
    "1 RegPrim c1 g0 w0 p1@1{1,2,3} a0 v1/0{1,2,3}{1} y- r[] o[] x{} b0" ∷
    "= 9" ∷
    "2 RegPrim c1 g0 w0 p1@1{1,2,3} a0 v1/0{1,2,3}{2} y- r[] o[] x{} b0" ∷
    "= 10" ∷
    "3 RegPrim c1 g0 w0 p1@1{1,2,3} a0 v1/0{1,2,3}{3} y- r[] o[] x{} b0" ∷
    "= 11" ∷
    "made 1:1 put \"x\" 1" ∷
    "1 RegPrim c1 g0 w0 p1@1{1,2,3} a0 v1/0{1,2,3}{1} y- r[] o[1:1] x{} b0" ∷
    "= 13" ∷
    "order 1 1:1" ∷
    "1 RegPrim c1 g1 w0 p1@1{1,2,3} a0 v1/0{1,2,3}{1} y- r[] o[] x{} b0" ∷
    "reply 1:1 done" ∷
    "= 14" ∷
    "2 RegPrim c1 g1 w0 p1@1{1,2,3} a0 v1/0{1,2,3}{2} y- r[] o[] x{} b0" ∷
    "= 15" ∷
    "3 RegPrim c1 g1 w0 p1@1{1,2,3} a0 v1/0{1,2,3}{3} y- r[] o[] x{} b0" ∷
    "= 16" ∷
    "1 Down" ∷
    "= 19" ∷
    "1 NonPrim - g1 w0 p1@1{1,2,3} a0 v1/0{1,2,3}{1} y- r[] o[] x{} b0" ∷
    "= 20" ∷
    "2 TransPrim t1 g1 w0 p1@1{1,2,3} a0 v1/0{1,2,3}{2} y- r[] o[] x{} b0" ∷
    "3 TransPrim t1 g1 w0 p1@1{1,2,3} a0 v1/0{1,2,3}{3} y- r[] o[] x{} b0" ∷
    "= 21" ∷
    "1 ExchangeStates c2 g1 w0 p1@1{1,2,3} a0 v1/0{1,2,3}{1} y- r[] o[] x{} b0" ∷
    "2 ExchangeStates c2 g1 w0 p1@1{1,2,3} a0 v- y![] r[] o[] x{} b0" ∷
    "3 ExchangeStates c2 g1 w0 p1@1{1,2,3} a0 v- y![] r[] o[] x{} b0" ∷
    "= 23" ∷
    "1 Construct c2 g1 w0 p1@1{1,2,3} a1 v2/1{1,2,3}{1} y![] r[] o[] x{} b0" ∷
    "= 24" ∷
    "2 Construct c2 g1 w0 p1@1{1,2,3} a1 v2/1{1,2,3}{2} y![] r[] o[] x{} b0" ∷
    "= 25" ∷
    "3 Construct c2 g1 w0 p1@1{1,2,3} a1 v2/1{1,2,3}{3} y![] r[] o[] x{} b0" ∷
    "= 27" ∷
    "1 RegPrim c2 g1 w0 p2@2{1,2,3} a0 v2/1{1,2,3}{1} y- r[] o[] x{} b0" ∷
    "= 28" ∷
    "2 RegPrim c2 g1 w0 p2@2{1,2,3} a0 v2/1{1,2,3}{2} y- r[] o[] x{} b0" ∷
    "= 29" ∷
    "3 RegPrim c2 g1 w0 p2@2{1,2,3} a0 v2/1{1,2,3}{3} y- r[] o[] x{} b0" ∷
    "= 32" ∷
    "made 1:2 inc \"x\" 1 ? get \"x\"" ∷
    "1 RegPrim c2 g1 w0 p2@2{1,2,3} a0 v2/1{1,2,3}{1} y- r[] o[1:2] x{} b0" ∷
    "= 34" ∷
    "order 2 1:2" ∷
    "1 RegPrim c2 g2 w0 p2@2{1,2,3} a0 v2/1{1,2,3}{1} y- r[] o[] x{} b0" ∷
    "reply 1:2 done ? 2" ∷
    "= 35" ∷
    "2 RegPrim c2 g2 w0 p2@2{1,2,3} a0 v2/1{1,2,3}{2} y- r[] o[] x{} b0" ∷
    "= 36" ∷
    "3 RegPrim c2 g2 w0 p2@2{1,2,3} a0 v2/1{1,2,3}{3} y- r[] o[] x{} b0" ∷
    "end 36" ∷
    [])
unfolding cases_compute
clearing_ends_before_the_stop_with_no_bytes = refl

-- A clearing makes four calls, so a stop at the fifth does not strike.
clearing_ends_before_the_stop_with_one_byte_of_one :
    replayed_text (
    "start 1 2 3" ∷
    "merge 1 2 3" ∷
    "rounds 2" ∷
    "request 1 put \"x\" 1" ∷
    "rounds 1" ∷
    "stop 1 0 -" ∷
    "downgrade 1" ∷
    "recover 1 14 -" ∷
    "recover 1 10 01" ∷
    "split 2 3" ∷
    "merge 1 2 3" ∷
    "rounds 4" ∷
    "request 1 inc \"x\" 1 ? get \"x\"" ∷
    "rounds 1" ∷
    "end" ∷
    [])
    ≡ written (
    "= 1" ∷
    "1 NonPrim - g0 w0 p0@0{1,2,3} a0 v- y- r[] o[] x{} b0" ∷
    "2 NonPrim - g0 w0 p0@0{1,2,3} a0 v- y- r[] o[] x{} b0" ∷
    "3 NonPrim - g0 w0 p0@0{1,2,3} a0 v- y- r[] o[] x{} b0" ∷
    "= 2" ∷
    "1 ExchangeStates c1 g0 w0 p0@0{1,2,3} a0 v- y- r[] o[] x{} b0" ∷
    "2 ExchangeStates c1 g0 w0 p0@0{1,2,3} a0 v- y- r[] o[] x{} b0" ∷
    "3 ExchangeStates c1 g0 w0 p0@0{1,2,3} a0 v- y- r[] o[] x{} b0" ∷
    "= 4" ∷
    "1 Construct c1 g0 w0 p0@0{1,2,3} a1 v1/0{1,2,3}{1} y- r[] o[] x{} b0" ∷
    "= 5" ∷
    "2 Construct c1 g0 w0 p0@0{1,2,3} a1 v1/0{1,2,3}{2} y- r[] o[] x{} b0" ∷
    "= 6" ∷
    "3 Construct c1 g0 w0 p0@0{1,2,3} a1 v1/0{1,2,3}{3} y- r[] o[] x{} b0" ∷
    "= 8" ∷
    "1 RegPrim c1 g0 w0 p1@1{1,2,3} a0 v1/0{1,2,3}{1} y- r[] o[] x{} b0" ∷
    "= 9" ∷
    "2 RegPrim c1 g0 w0 p1@1{1,2,3} a0 v1/0{1,2,3}{2} y- r[] o[] x{} b0" ∷
    "= 10" ∷
    "3 RegPrim c1 g0 w0 p1@1{1,2,3} a0 v1/0{1,2,3}{3} y- r[] o[] x{} b0" ∷
    "= 11" ∷
    "made 1:1 put \"x\" 1" ∷
    "1 RegPrim c1 g0 w0 p1@1{1,2,3} a0 v1/0{1,2,3}{1} y- r[] o[1:1] x{} b0" ∷
    "= 13" ∷
    "order 1 1:1" ∷
    "1 RegPrim c1 g1 w0 p1@1{1,2,3} a0 v1/0{1,2,3}{1} y- r[] o[] x{} b0" ∷
    "reply 1:1 done" ∷
    "= 14" ∷
    "2 RegPrim c1 g1 w0 p1@1{1,2,3} a0 v1/0{1,2,3}{2} y- r[] o[] x{} b0" ∷
    "= 15" ∷
    "3 RegPrim c1 g1 w0 p1@1{1,2,3} a0 v1/0{1,2,3}{3} y- r[] o[] x{} b0" ∷
    "= 16" ∷
    "1 Down" ∷
    "= 19" ∷
    "1 NonPrim - g1 w0 p1@1{1,2,3} a0 v1/0{1,2,3}{1} y- r[] o[] x{} b0" ∷
    "= 20" ∷
    "2 TransPrim t1 g1 w0 p1@1{1,2,3} a0 v1/0{1,2,3}{2} y- r[] o[] x{} b0" ∷
    "3 TransPrim t1 g1 w0 p1@1{1,2,3} a0 v1/0{1,2,3}{3} y- r[] o[] x{} b0" ∷
    "= 21" ∷
    "1 ExchangeStates c2 g1 w0 p1@1{1,2,3} a0 v1/0{1,2,3}{1} y- r[] o[] x{} b0" ∷
    "2 ExchangeStates c2 g1 w0 p1@1{1,2,3} a0 v- y![] r[] o[] x{} b0" ∷
    "3 ExchangeStates c2 g1 w0 p1@1{1,2,3} a0 v- y![] r[] o[] x{} b0" ∷
    "= 23" ∷
    "1 Construct c2 g1 w0 p1@1{1,2,3} a1 v2/1{1,2,3}{1} y![] r[] o[] x{} b0" ∷
    "= 24" ∷
    "2 Construct c2 g1 w0 p1@1{1,2,3} a1 v2/1{1,2,3}{2} y![] r[] o[] x{} b0" ∷
    "= 25" ∷
    "3 Construct c2 g1 w0 p1@1{1,2,3} a1 v2/1{1,2,3}{3} y![] r[] o[] x{} b0" ∷
    "= 27" ∷
    "1 RegPrim c2 g1 w0 p2@2{1,2,3} a0 v2/1{1,2,3}{1} y- r[] o[] x{} b0" ∷
    "= 28" ∷
    "2 RegPrim c2 g1 w0 p2@2{1,2,3} a0 v2/1{1,2,3}{2} y- r[] o[] x{} b0" ∷
    "= 29" ∷
    "3 RegPrim c2 g1 w0 p2@2{1,2,3} a0 v2/1{1,2,3}{3} y- r[] o[] x{} b0" ∷
    "= 32" ∷
    "made 1:2 inc \"x\" 1 ? get \"x\"" ∷
    "1 RegPrim c2 g1 w0 p2@2{1,2,3} a0 v2/1{1,2,3}{1} y- r[] o[1:2] x{} b0" ∷
    "= 34" ∷
    "order 2 1:2" ∷
    "1 RegPrim c2 g2 w0 p2@2{1,2,3} a0 v2/1{1,2,3}{1} y- r[] o[] x{} b0" ∷
    "reply 1:2 done ? 2" ∷
    "= 35" ∷
    "2 RegPrim c2 g2 w0 p2@2{1,2,3} a0 v2/1{1,2,3}{2} y- r[] o[] x{} b0" ∷
    "= 36" ∷
    "3 RegPrim c2 g2 w0 p2@2{1,2,3} a0 v2/1{1,2,3}{3} y- r[] o[] x{} b0" ∷
    "end 36" ∷
    [])
unfolding cases_compute
clearing_ends_before_the_stop_with_one_byte_of_one = refl

-- A migration struck while it cleared the other side is followed by a recovery that clears again, and is struck too.
clearing_stopped_inside_call_01_with_no_bytes :
    replayed_text (
    "start 1 2 3" ∷
    "merge 1 2 3" ∷
    "rounds 2" ∷
    "request 1 put \"x\" 1" ∷
    "rounds 1" ∷
    "stop 1 0 -" ∷
    "downgrade 1" ∷
    "recover 1 14 -" ∷
    "recover 1 6 -" ∷
    "recover 1" ∷
    "split 2 3" ∷
    "merge 1 2 3" ∷
    "rounds 4" ∷
    "request 1 inc \"x\" 1 ? get \"x\"" ∷
    "rounds 1" ∷
    "end" ∷
    [])
    ≡ written (
    "= 1" ∷
    "1 NonPrim - g0 w0 p0@0{1,2,3} a0 v- y- r[] o[] x{} b0" ∷
    "2 NonPrim - g0 w0 p0@0{1,2,3} a0 v- y- r[] o[] x{} b0" ∷
    "3 NonPrim - g0 w0 p0@0{1,2,3} a0 v- y- r[] o[] x{} b0" ∷
    "= 2" ∷
    "1 ExchangeStates c1 g0 w0 p0@0{1,2,3} a0 v- y- r[] o[] x{} b0" ∷
    "2 ExchangeStates c1 g0 w0 p0@0{1,2,3} a0 v- y- r[] o[] x{} b0" ∷
    "3 ExchangeStates c1 g0 w0 p0@0{1,2,3} a0 v- y- r[] o[] x{} b0" ∷
    "= 4" ∷
    "1 Construct c1 g0 w0 p0@0{1,2,3} a1 v1/0{1,2,3}{1} y- r[] o[] x{} b0" ∷
    "= 5" ∷
    "2 Construct c1 g0 w0 p0@0{1,2,3} a1 v1/0{1,2,3}{2} y- r[] o[] x{} b0" ∷
    "= 6" ∷
    "3 Construct c1 g0 w0 p0@0{1,2,3} a1 v1/0{1,2,3}{3} y- r[] o[] x{} b0" ∷
    "= 8" ∷
    "1 RegPrim c1 g0 w0 p1@1{1,2,3} a0 v1/0{1,2,3}{1} y- r[] o[] x{} b0" ∷
    "= 9" ∷
    "2 RegPrim c1 g0 w0 p1@1{1,2,3} a0 v1/0{1,2,3}{2} y- r[] o[] x{} b0" ∷
    "= 10" ∷
    "3 RegPrim c1 g0 w0 p1@1{1,2,3} a0 v1/0{1,2,3}{3} y- r[] o[] x{} b0" ∷
    "= 11" ∷
    "made 1:1 put \"x\" 1" ∷
    "1 RegPrim c1 g0 w0 p1@1{1,2,3} a0 v1/0{1,2,3}{1} y- r[] o[1:1] x{} b0" ∷
    "= 13" ∷
    "order 1 1:1" ∷
    "1 RegPrim c1 g1 w0 p1@1{1,2,3} a0 v1/0{1,2,3}{1} y- r[] o[] x{} b0" ∷
    "reply 1:1 done" ∷
    "= 14" ∷
    "2 RegPrim c1 g1 w0 p1@1{1,2,3} a0 v1/0{1,2,3}{2} y- r[] o[] x{} b0" ∷
    "= 15" ∷
    "3 RegPrim c1 g1 w0 p1@1{1,2,3} a0 v1/0{1,2,3}{3} y- r[] o[] x{} b0" ∷
    "= 16" ∷
    "1 Down" ∷
    "= 20" ∷
    "1 NonPrim - g1 w0 p1@1{1,2,3} a0 v1/0{1,2,3}{1} y- r[] o[] x{} b0" ∷
    "= 21" ∷
    "2 TransPrim t1 g1 w0 p1@1{1,2,3} a0 v1/0{1,2,3}{2} y- r[] o[] x{} b0" ∷
    "3 TransPrim t1 g1 w0 p1@1{1,2,3} a0 v1/0{1,2,3}{3} y- r[] o[] x{} b0" ∷
    "= 22" ∷
    "1 ExchangeStates c2 g1 w0 p1@1{1,2,3} a0 v1/0{1,2,3}{1} y- r[] o[] x{} b0" ∷
    "2 ExchangeStates c2 g1 w0 p1@1{1,2,3} a0 v- y![] r[] o[] x{} b0" ∷
    "3 ExchangeStates c2 g1 w0 p1@1{1,2,3} a0 v- y![] r[] o[] x{} b0" ∷
    "= 24" ∷
    "1 Construct c2 g1 w0 p1@1{1,2,3} a1 v2/1{1,2,3}{1} y![] r[] o[] x{} b0" ∷
    "= 25" ∷
    "2 Construct c2 g1 w0 p1@1{1,2,3} a1 v2/1{1,2,3}{2} y![] r[] o[] x{} b0" ∷
    "= 26" ∷
    "3 Construct c2 g1 w0 p1@1{1,2,3} a1 v2/1{1,2,3}{3} y![] r[] o[] x{} b0" ∷
    "= 28" ∷
    "1 RegPrim c2 g1 w0 p2@2{1,2,3} a0 v2/1{1,2,3}{1} y- r[] o[] x{} b0" ∷
    "= 29" ∷
    "2 RegPrim c2 g1 w0 p2@2{1,2,3} a0 v2/1{1,2,3}{2} y- r[] o[] x{} b0" ∷
    "= 30" ∷
    "3 RegPrim c2 g1 w0 p2@2{1,2,3} a0 v2/1{1,2,3}{3} y- r[] o[] x{} b0" ∷
    "= 33" ∷
    "made 1:2 inc \"x\" 1 ? get \"x\"" ∷
    "1 RegPrim c2 g1 w0 p2@2{1,2,3} a0 v2/1{1,2,3}{1} y- r[] o[1:2] x{} b0" ∷
    "= 35" ∷
    "order 2 1:2" ∷
    "1 RegPrim c2 g2 w0 p2@2{1,2,3} a0 v2/1{1,2,3}{1} y- r[] o[] x{} b0" ∷
    "reply 1:2 done ? 2" ∷
    "= 36" ∷
    "2 RegPrim c2 g2 w0 p2@2{1,2,3} a0 v2/1{1,2,3}{2} y- r[] o[] x{} b0" ∷
    "= 37" ∷
    "3 RegPrim c2 g2 w0 p2@2{1,2,3} a0 v2/1{1,2,3}{3} y- r[] o[] x{} b0" ∷
    "end 37" ∷
    [])
unfolding cases_compute
clearing_stopped_inside_call_01_with_no_bytes = refl

-- A migration struck while it cleared the other side is followed by a recovery that clears again, and is struck too.
clearing_stopped_inside_call_01_with_one_byte_of_one :
    replayed_text (
    "start 1 2 3" ∷
    "merge 1 2 3" ∷
    "rounds 2" ∷
    "request 1 put \"x\" 1" ∷
    "rounds 1" ∷
    "stop 1 0 -" ∷
    "downgrade 1" ∷
    "recover 1 14 -" ∷
    "recover 1 6 01" ∷
    "recover 1" ∷
    "split 2 3" ∷
    "merge 1 2 3" ∷
    "rounds 4" ∷
    "request 1 inc \"x\" 1 ? get \"x\"" ∷
    "rounds 1" ∷
    "end" ∷
    [])
    ≡ written (
    "= 1" ∷
    "1 NonPrim - g0 w0 p0@0{1,2,3} a0 v- y- r[] o[] x{} b0" ∷
    "2 NonPrim - g0 w0 p0@0{1,2,3} a0 v- y- r[] o[] x{} b0" ∷
    "3 NonPrim - g0 w0 p0@0{1,2,3} a0 v- y- r[] o[] x{} b0" ∷
    "= 2" ∷
    "1 ExchangeStates c1 g0 w0 p0@0{1,2,3} a0 v- y- r[] o[] x{} b0" ∷
    "2 ExchangeStates c1 g0 w0 p0@0{1,2,3} a0 v- y- r[] o[] x{} b0" ∷
    "3 ExchangeStates c1 g0 w0 p0@0{1,2,3} a0 v- y- r[] o[] x{} b0" ∷
    "= 4" ∷
    "1 Construct c1 g0 w0 p0@0{1,2,3} a1 v1/0{1,2,3}{1} y- r[] o[] x{} b0" ∷
    "= 5" ∷
    "2 Construct c1 g0 w0 p0@0{1,2,3} a1 v1/0{1,2,3}{2} y- r[] o[] x{} b0" ∷
    "= 6" ∷
    "3 Construct c1 g0 w0 p0@0{1,2,3} a1 v1/0{1,2,3}{3} y- r[] o[] x{} b0" ∷
    "= 8" ∷
    "1 RegPrim c1 g0 w0 p1@1{1,2,3} a0 v1/0{1,2,3}{1} y- r[] o[] x{} b0" ∷
    "= 9" ∷
    "2 RegPrim c1 g0 w0 p1@1{1,2,3} a0 v1/0{1,2,3}{2} y- r[] o[] x{} b0" ∷
    "= 10" ∷
    "3 RegPrim c1 g0 w0 p1@1{1,2,3} a0 v1/0{1,2,3}{3} y- r[] o[] x{} b0" ∷
    "= 11" ∷
    "made 1:1 put \"x\" 1" ∷
    "1 RegPrim c1 g0 w0 p1@1{1,2,3} a0 v1/0{1,2,3}{1} y- r[] o[1:1] x{} b0" ∷
    "= 13" ∷
    "order 1 1:1" ∷
    "1 RegPrim c1 g1 w0 p1@1{1,2,3} a0 v1/0{1,2,3}{1} y- r[] o[] x{} b0" ∷
    "reply 1:1 done" ∷
    "= 14" ∷
    "2 RegPrim c1 g1 w0 p1@1{1,2,3} a0 v1/0{1,2,3}{2} y- r[] o[] x{} b0" ∷
    "= 15" ∷
    "3 RegPrim c1 g1 w0 p1@1{1,2,3} a0 v1/0{1,2,3}{3} y- r[] o[] x{} b0" ∷
    "= 16" ∷
    "1 Down" ∷
    "= 20" ∷
    "1 NonPrim - g1 w0 p1@1{1,2,3} a0 v1/0{1,2,3}{1} y- r[] o[] x{} b0" ∷
    "= 21" ∷
    "2 TransPrim t1 g1 w0 p1@1{1,2,3} a0 v1/0{1,2,3}{2} y- r[] o[] x{} b0" ∷
    "3 TransPrim t1 g1 w0 p1@1{1,2,3} a0 v1/0{1,2,3}{3} y- r[] o[] x{} b0" ∷
    "= 22" ∷
    "1 ExchangeStates c2 g1 w0 p1@1{1,2,3} a0 v1/0{1,2,3}{1} y- r[] o[] x{} b0" ∷
    "2 ExchangeStates c2 g1 w0 p1@1{1,2,3} a0 v- y![] r[] o[] x{} b0" ∷
    "3 ExchangeStates c2 g1 w0 p1@1{1,2,3} a0 v- y![] r[] o[] x{} b0" ∷
    "= 24" ∷
    "1 Construct c2 g1 w0 p1@1{1,2,3} a1 v2/1{1,2,3}{1} y![] r[] o[] x{} b0" ∷
    "= 25" ∷
    "2 Construct c2 g1 w0 p1@1{1,2,3} a1 v2/1{1,2,3}{2} y![] r[] o[] x{} b0" ∷
    "= 26" ∷
    "3 Construct c2 g1 w0 p1@1{1,2,3} a1 v2/1{1,2,3}{3} y![] r[] o[] x{} b0" ∷
    "= 28" ∷
    "1 RegPrim c2 g1 w0 p2@2{1,2,3} a0 v2/1{1,2,3}{1} y- r[] o[] x{} b0" ∷
    "= 29" ∷
    "2 RegPrim c2 g1 w0 p2@2{1,2,3} a0 v2/1{1,2,3}{2} y- r[] o[] x{} b0" ∷
    "= 30" ∷
    "3 RegPrim c2 g1 w0 p2@2{1,2,3} a0 v2/1{1,2,3}{3} y- r[] o[] x{} b0" ∷
    "= 33" ∷
    "made 1:2 inc \"x\" 1 ? get \"x\"" ∷
    "1 RegPrim c2 g1 w0 p2@2{1,2,3} a0 v2/1{1,2,3}{1} y- r[] o[1:2] x{} b0" ∷
    "= 35" ∷
    "order 2 1:2" ∷
    "1 RegPrim c2 g2 w0 p2@2{1,2,3} a0 v2/1{1,2,3}{1} y- r[] o[] x{} b0" ∷
    "reply 1:2 done ? 2" ∷
    "= 36" ∷
    "2 RegPrim c2 g2 w0 p2@2{1,2,3} a0 v2/1{1,2,3}{2} y- r[] o[] x{} b0" ∷
    "= 37" ∷
    "3 RegPrim c2 g2 w0 p2@2{1,2,3} a0 v2/1{1,2,3}{3} y- r[] o[] x{} b0" ∷
    "end 37" ∷
    [])
unfolding cases_compute
clearing_stopped_inside_call_01_with_one_byte_of_one = refl

-- A migration struck while it cleared the other side is followed by a recovery that clears again, and is struck too.
clearing_stopped_inside_call_02_with_no_bytes :
    replayed_text (
    "start 1 2 3" ∷
    "merge 1 2 3" ∷
    "rounds 2" ∷
    "request 1 put \"x\" 1" ∷
    "rounds 1" ∷
    "stop 1 0 -" ∷
    "downgrade 1" ∷
    "recover 1 14 -" ∷
    "recover 1 7 -" ∷
    "recover 1" ∷
    "split 2 3" ∷
    "merge 1 2 3" ∷
    "rounds 4" ∷
    "request 1 inc \"x\" 1 ? get \"x\"" ∷
    "rounds 1" ∷
    "end" ∷
    [])
    ≡ written (
    "= 1" ∷
    "1 NonPrim - g0 w0 p0@0{1,2,3} a0 v- y- r[] o[] x{} b0" ∷
    "2 NonPrim - g0 w0 p0@0{1,2,3} a0 v- y- r[] o[] x{} b0" ∷
    "3 NonPrim - g0 w0 p0@0{1,2,3} a0 v- y- r[] o[] x{} b0" ∷
    "= 2" ∷
    "1 ExchangeStates c1 g0 w0 p0@0{1,2,3} a0 v- y- r[] o[] x{} b0" ∷
    "2 ExchangeStates c1 g0 w0 p0@0{1,2,3} a0 v- y- r[] o[] x{} b0" ∷
    "3 ExchangeStates c1 g0 w0 p0@0{1,2,3} a0 v- y- r[] o[] x{} b0" ∷
    "= 4" ∷
    "1 Construct c1 g0 w0 p0@0{1,2,3} a1 v1/0{1,2,3}{1} y- r[] o[] x{} b0" ∷
    "= 5" ∷
    "2 Construct c1 g0 w0 p0@0{1,2,3} a1 v1/0{1,2,3}{2} y- r[] o[] x{} b0" ∷
    "= 6" ∷
    "3 Construct c1 g0 w0 p0@0{1,2,3} a1 v1/0{1,2,3}{3} y- r[] o[] x{} b0" ∷
    "= 8" ∷
    "1 RegPrim c1 g0 w0 p1@1{1,2,3} a0 v1/0{1,2,3}{1} y- r[] o[] x{} b0" ∷
    "= 9" ∷
    "2 RegPrim c1 g0 w0 p1@1{1,2,3} a0 v1/0{1,2,3}{2} y- r[] o[] x{} b0" ∷
    "= 10" ∷
    "3 RegPrim c1 g0 w0 p1@1{1,2,3} a0 v1/0{1,2,3}{3} y- r[] o[] x{} b0" ∷
    "= 11" ∷
    "made 1:1 put \"x\" 1" ∷
    "1 RegPrim c1 g0 w0 p1@1{1,2,3} a0 v1/0{1,2,3}{1} y- r[] o[1:1] x{} b0" ∷
    "= 13" ∷
    "order 1 1:1" ∷
    "1 RegPrim c1 g1 w0 p1@1{1,2,3} a0 v1/0{1,2,3}{1} y- r[] o[] x{} b0" ∷
    "reply 1:1 done" ∷
    "= 14" ∷
    "2 RegPrim c1 g1 w0 p1@1{1,2,3} a0 v1/0{1,2,3}{2} y- r[] o[] x{} b0" ∷
    "= 15" ∷
    "3 RegPrim c1 g1 w0 p1@1{1,2,3} a0 v1/0{1,2,3}{3} y- r[] o[] x{} b0" ∷
    "= 16" ∷
    "1 Down" ∷
    "= 20" ∷
    "1 NonPrim - g1 w0 p1@1{1,2,3} a0 v1/0{1,2,3}{1} y- r[] o[] x{} b0" ∷
    "= 21" ∷
    "2 TransPrim t1 g1 w0 p1@1{1,2,3} a0 v1/0{1,2,3}{2} y- r[] o[] x{} b0" ∷
    "3 TransPrim t1 g1 w0 p1@1{1,2,3} a0 v1/0{1,2,3}{3} y- r[] o[] x{} b0" ∷
    "= 22" ∷
    "1 ExchangeStates c2 g1 w0 p1@1{1,2,3} a0 v1/0{1,2,3}{1} y- r[] o[] x{} b0" ∷
    "2 ExchangeStates c2 g1 w0 p1@1{1,2,3} a0 v- y![] r[] o[] x{} b0" ∷
    "3 ExchangeStates c2 g1 w0 p1@1{1,2,3} a0 v- y![] r[] o[] x{} b0" ∷
    "= 24" ∷
    "1 Construct c2 g1 w0 p1@1{1,2,3} a1 v2/1{1,2,3}{1} y![] r[] o[] x{} b0" ∷
    "= 25" ∷
    "2 Construct c2 g1 w0 p1@1{1,2,3} a1 v2/1{1,2,3}{2} y![] r[] o[] x{} b0" ∷
    "= 26" ∷
    "3 Construct c2 g1 w0 p1@1{1,2,3} a1 v2/1{1,2,3}{3} y![] r[] o[] x{} b0" ∷
    "= 28" ∷
    "1 RegPrim c2 g1 w0 p2@2{1,2,3} a0 v2/1{1,2,3}{1} y- r[] o[] x{} b0" ∷
    "= 29" ∷
    "2 RegPrim c2 g1 w0 p2@2{1,2,3} a0 v2/1{1,2,3}{2} y- r[] o[] x{} b0" ∷
    "= 30" ∷
    "3 RegPrim c2 g1 w0 p2@2{1,2,3} a0 v2/1{1,2,3}{3} y- r[] o[] x{} b0" ∷
    "= 33" ∷
    "made 1:2 inc \"x\" 1 ? get \"x\"" ∷
    "1 RegPrim c2 g1 w0 p2@2{1,2,3} a0 v2/1{1,2,3}{1} y- r[] o[1:2] x{} b0" ∷
    "= 35" ∷
    "order 2 1:2" ∷
    "1 RegPrim c2 g2 w0 p2@2{1,2,3} a0 v2/1{1,2,3}{1} y- r[] o[] x{} b0" ∷
    "reply 1:2 done ? 2" ∷
    "= 36" ∷
    "2 RegPrim c2 g2 w0 p2@2{1,2,3} a0 v2/1{1,2,3}{2} y- r[] o[] x{} b0" ∷
    "= 37" ∷
    "3 RegPrim c2 g2 w0 p2@2{1,2,3} a0 v2/1{1,2,3}{3} y- r[] o[] x{} b0" ∷
    "end 37" ∷
    [])
unfolding cases_compute
clearing_stopped_inside_call_02_with_no_bytes = refl

-- A migration struck while it cleared the other side is followed by a recovery that clears again, and is struck too.
clearing_stopped_inside_call_02_with_one_byte_of_one :
    replayed_text (
    "start 1 2 3" ∷
    "merge 1 2 3" ∷
    "rounds 2" ∷
    "request 1 put \"x\" 1" ∷
    "rounds 1" ∷
    "stop 1 0 -" ∷
    "downgrade 1" ∷
    "recover 1 14 -" ∷
    "recover 1 7 01" ∷
    "recover 1" ∷
    "split 2 3" ∷
    "merge 1 2 3" ∷
    "rounds 4" ∷
    "request 1 inc \"x\" 1 ? get \"x\"" ∷
    "rounds 1" ∷
    "end" ∷
    [])
    ≡ written (
    "= 1" ∷
    "1 NonPrim - g0 w0 p0@0{1,2,3} a0 v- y- r[] o[] x{} b0" ∷
    "2 NonPrim - g0 w0 p0@0{1,2,3} a0 v- y- r[] o[] x{} b0" ∷
    "3 NonPrim - g0 w0 p0@0{1,2,3} a0 v- y- r[] o[] x{} b0" ∷
    "= 2" ∷
    "1 ExchangeStates c1 g0 w0 p0@0{1,2,3} a0 v- y- r[] o[] x{} b0" ∷
    "2 ExchangeStates c1 g0 w0 p0@0{1,2,3} a0 v- y- r[] o[] x{} b0" ∷
    "3 ExchangeStates c1 g0 w0 p0@0{1,2,3} a0 v- y- r[] o[] x{} b0" ∷
    "= 4" ∷
    "1 Construct c1 g0 w0 p0@0{1,2,3} a1 v1/0{1,2,3}{1} y- r[] o[] x{} b0" ∷
    "= 5" ∷
    "2 Construct c1 g0 w0 p0@0{1,2,3} a1 v1/0{1,2,3}{2} y- r[] o[] x{} b0" ∷
    "= 6" ∷
    "3 Construct c1 g0 w0 p0@0{1,2,3} a1 v1/0{1,2,3}{3} y- r[] o[] x{} b0" ∷
    "= 8" ∷
    "1 RegPrim c1 g0 w0 p1@1{1,2,3} a0 v1/0{1,2,3}{1} y- r[] o[] x{} b0" ∷
    "= 9" ∷
    "2 RegPrim c1 g0 w0 p1@1{1,2,3} a0 v1/0{1,2,3}{2} y- r[] o[] x{} b0" ∷
    "= 10" ∷
    "3 RegPrim c1 g0 w0 p1@1{1,2,3} a0 v1/0{1,2,3}{3} y- r[] o[] x{} b0" ∷
    "= 11" ∷
    "made 1:1 put \"x\" 1" ∷
    "1 RegPrim c1 g0 w0 p1@1{1,2,3} a0 v1/0{1,2,3}{1} y- r[] o[1:1] x{} b0" ∷
    "= 13" ∷
    "order 1 1:1" ∷
    "1 RegPrim c1 g1 w0 p1@1{1,2,3} a0 v1/0{1,2,3}{1} y- r[] o[] x{} b0" ∷
    "reply 1:1 done" ∷
    "= 14" ∷
    "2 RegPrim c1 g1 w0 p1@1{1,2,3} a0 v1/0{1,2,3}{2} y- r[] o[] x{} b0" ∷
    "= 15" ∷
    "3 RegPrim c1 g1 w0 p1@1{1,2,3} a0 v1/0{1,2,3}{3} y- r[] o[] x{} b0" ∷
    "= 16" ∷
    "1 Down" ∷
    "= 20" ∷
    "1 NonPrim - g1 w0 p1@1{1,2,3} a0 v1/0{1,2,3}{1} y- r[] o[] x{} b0" ∷
    "= 21" ∷
    "2 TransPrim t1 g1 w0 p1@1{1,2,3} a0 v1/0{1,2,3}{2} y- r[] o[] x{} b0" ∷
    "3 TransPrim t1 g1 w0 p1@1{1,2,3} a0 v1/0{1,2,3}{3} y- r[] o[] x{} b0" ∷
    "= 22" ∷
    "1 ExchangeStates c2 g1 w0 p1@1{1,2,3} a0 v1/0{1,2,3}{1} y- r[] o[] x{} b0" ∷
    "2 ExchangeStates c2 g1 w0 p1@1{1,2,3} a0 v- y![] r[] o[] x{} b0" ∷
    "3 ExchangeStates c2 g1 w0 p1@1{1,2,3} a0 v- y![] r[] o[] x{} b0" ∷
    "= 24" ∷
    "1 Construct c2 g1 w0 p1@1{1,2,3} a1 v2/1{1,2,3}{1} y![] r[] o[] x{} b0" ∷
    "= 25" ∷
    "2 Construct c2 g1 w0 p1@1{1,2,3} a1 v2/1{1,2,3}{2} y![] r[] o[] x{} b0" ∷
    "= 26" ∷
    "3 Construct c2 g1 w0 p1@1{1,2,3} a1 v2/1{1,2,3}{3} y![] r[] o[] x{} b0" ∷
    "= 28" ∷
    "1 RegPrim c2 g1 w0 p2@2{1,2,3} a0 v2/1{1,2,3}{1} y- r[] o[] x{} b0" ∷
    "= 29" ∷
    "2 RegPrim c2 g1 w0 p2@2{1,2,3} a0 v2/1{1,2,3}{2} y- r[] o[] x{} b0" ∷
    "= 30" ∷
    "3 RegPrim c2 g1 w0 p2@2{1,2,3} a0 v2/1{1,2,3}{3} y- r[] o[] x{} b0" ∷
    "= 33" ∷
    "made 1:2 inc \"x\" 1 ? get \"x\"" ∷
    "1 RegPrim c2 g1 w0 p2@2{1,2,3} a0 v2/1{1,2,3}{1} y- r[] o[1:2] x{} b0" ∷
    "= 35" ∷
    "order 2 1:2" ∷
    "1 RegPrim c2 g2 w0 p2@2{1,2,3} a0 v2/1{1,2,3}{1} y- r[] o[] x{} b0" ∷
    "reply 1:2 done ? 2" ∷
    "= 36" ∷
    "2 RegPrim c2 g2 w0 p2@2{1,2,3} a0 v2/1{1,2,3}{2} y- r[] o[] x{} b0" ∷
    "= 37" ∷
    "3 RegPrim c2 g2 w0 p2@2{1,2,3} a0 v2/1{1,2,3}{3} y- r[] o[] x{} b0" ∷
    "end 37" ∷
    [])
unfolding cases_compute
clearing_stopped_inside_call_02_with_one_byte_of_one = refl
