-- Cases of cases/ with their whole reports, which `.ci/theorems` writes down here.
use Rattle.std.specs.Prelude.{◌≡◌, [], ◌∷◌}
use mathlib.Core.Path.{refl}
use Rattle.cg_run_cases.specs.Replaying.{replayed_text, written}
use Rattle.cg_run_cases.specs.Computing.{cases_compute}

-- A disk of the older format with red and own actions, whose migration is struck, is migrated again.
migration_with_reds_and_own_inside_call_09_with_many_01 :
    replayed_text (
    "start 1 2 3" ∷
    "merge 1 2 3" ∷
    "rounds 2" ∷
    "request 1 put \"x\" 1" ∷
    "request 2 put \"y\" 2" ∷
    "rounds 1" ∷
    "split 1" ∷
    "split 2 3" ∷
    "merge 1" ∷
    "merge 2 3" ∷
    "rounds 2" ∷
    "request 1 inc \"x\" 5" ∷
    "rounds 1" ∷
    "request 1 put \"own\" \"o\"" ∷
    "stop 1 0 -" ∷
    "downgrade 1" ∷
    "recover 1 9 010101010101010101010101010101010101010101010101010101010101" ∷
    "recover 1 4 01" ∷
    "recover 1" ∷
    "show 1" ∷
    "split 2 3" ∷
    "merge 1 2 3" ∷
    "rounds 4" ∷
    "show 3" ∷
    "show order" ∷
    "end" ∷
    [])
    ≡ written (
    "= 1" ∷
    "1 NonPrim - g0 w0 p0@0{1,2,3} a0 v- y- r[] o[] x{} b0" ∷
    "2 NonPrim - g0 w0 p0@0{1,2,3} a0 v- y- r[] o[] x{} b0" ∷
    "3 NonPrim - g0 w0 p0@0{1,2,3} a0 v- y- r[] o[] x{} b0" ∷
    "= 2" ∷
    "1 ExchangeStates c1 g0 w0 p0@0{1,2,3} a0 v- y- r[] o[] x{} b0" ∷
    "2 ExchangeStates c1 g0 w0 p0@0{1,2,3} a0 v- y- r[] o[] x{} b0" ∷
    "3 ExchangeStates c1 g0 w0 p0@0{1,2,3} a0 v- y- r[] o[] x{} b0" ∷
    "= 4" ∷
    "1 Construct c1 g0 w0 p0@0{1,2,3} a1 v1/0{1,2,3}{1} y- r[] o[] x{} b0" ∷
    "= 5" ∷
    "2 Construct c1 g0 w0 p0@0{1,2,3} a1 v1/0{1,2,3}{2} y- r[] o[] x{} b0" ∷
    "= 6" ∷
    "3 Construct c1 g0 w0 p0@0{1,2,3} a1 v1/0{1,2,3}{3} y- r[] o[] x{} b0" ∷
    "= 8" ∷
    "1 RegPrim c1 g0 w0 p1@1{1,2,3} a0 v1/0{1,2,3}{1} y- r[] o[] x{} b0" ∷
    "= 9" ∷
    "2 RegPrim c1 g0 w0 p1@1{1,2,3} a0 v1/0{1,2,3}{2} y- r[] o[] x{} b0" ∷
    "= 10" ∷
    "3 RegPrim c1 g0 w0 p1@1{1,2,3} a0 v1/0{1,2,3}{3} y- r[] o[] x{} b0" ∷
    "= 11" ∷
    "made 1:1 put \"x\" 1" ∷
    "1 RegPrim c1 g0 w0 p1@1{1,2,3} a0 v1/0{1,2,3}{1} y- r[] o[1:1] x{} b0" ∷
    "= 12" ∷
    "made 2:1 put \"y\" 2" ∷
    "2 RegPrim c1 g0 w0 p1@1{1,2,3} a0 v1/0{1,2,3}{2} y- r[] o[2:1] x{} b0" ∷
    "= 14" ∷
    "order 1 1:1" ∷
    "order 2 2:1" ∷
    "1 RegPrim c1 g2 w0 p1@1{1,2,3} a0 v1/0{1,2,3}{1} y- r[] o[] x{} b0" ∷
    "reply 1:1 done" ∷
    "= 15" ∷
    "2 RegPrim c1 g2 w0 p1@1{1,2,3} a0 v1/0{1,2,3}{2} y- r[] o[] x{} b0" ∷
    "reply 2:1 done" ∷
    "= 16" ∷
    "3 RegPrim c1 g2 w0 p1@1{1,2,3} a0 v1/0{1,2,3}{3} y- r[] o[] x{} b0" ∷
    "= 17" ∷
    "1 TransPrim t1 g2 w0 p1@1{1,2,3} a0 v1/0{1,2,3}{1} y- r[] o[] x{} b0" ∷
    "= 18" ∷
    "2 TransPrim t1 g2 w0 p1@1{1,2,3} a0 v1/0{1,2,3}{2} y- r[] o[] x{} b0" ∷
    "3 TransPrim t1 g2 w0 p1@1{1,2,3} a0 v1/0{1,2,3}{3} y- r[] o[] x{} b0" ∷
    "= 19" ∷
    "1 ExchangeStates c2 g2 w0 p1@1{1,2,3} a0 v- y![] r[] o[] x{} b0" ∷
    "= 20" ∷
    "2 ExchangeStates c3 g2 w0 p1@1{1,2,3} a0 v- y![] r[] o[] x{} b0" ∷
    "3 ExchangeStates c3 g2 w0 p1@1{1,2,3} a0 v- y![] r[] o[] x{} b0" ∷
    "= 22" ∷
    "1 NonPrim c2 g2 w0 p1@1{1,2,3} a0 v- y![] r[] o[] x{} b0" ∷
    "= 23" ∷
    "2 Construct c3 g2 w0 p1@1{1,2,3} a1 v3/1{2,3}{2} y![] r[] o[] x{} b0" ∷
    "= 24" ∷
    "3 Construct c3 g2 w0 p1@1{1,2,3} a1 v3/1{2,3}{3} y![] r[] o[] x{} b0" ∷
    "= 26" ∷
    "2 RegPrim c3 g2 w0 p2@3{2,3} a0 v3/1{2,3}{2} y- r[] o[] x{} b0" ∷
    "= 27" ∷
    "3 RegPrim c3 g2 w0 p2@3{2,3} a0 v3/1{2,3}{3} y- r[] o[] x{} b0" ∷
    "= 28" ∷
    "made 1:2 inc \"x\" 5" ∷
    "1 NonPrim c2 g2 w0 p1@1{1,2,3} a0 v- y![] r[] o[1:2] x{} b0" ∷
    "= 30" ∷
    "1 NonPrim c2 g2 w0 p1@1{1,2,3} a0 v- y![] r[1:2] o[] x{} b0" ∷
    "= 31" ∷
    "made 1:3 put \"own\" \"o\"" ∷
    "1 NonPrim c2 g2 w0 p1@1{1,2,3} a0 v- y![] r[1:2] o[1:3] x{} b0" ∷
    "= 32" ∷
    "1 Down" ∷
    "= 36" ∷
    "1 NonPrim - g2 w0 p1@1{1,2,3} a0 v- y![] r[1:2,1:3] o[] x{} b0" ∷
    "= 37" ∷
    "greens 1 [1:1,2:1]" ∷
    "db 1 \"x\"=1 \"y\"=2" ∷
    "= 38" ∷
    "2 TransPrim t3 g2 w0 p2@3{2,3} a0 v3/1{2,3}{2} y- r[] o[] x{} b0" ∷
    "3 TransPrim t3 g2 w0 p2@3{2,3} a0 v3/1{2,3}{3} y- r[] o[] x{} b0" ∷
    "= 39" ∷
    "1 ExchangeStates c4 g2 w0 p1@1{1,2,3} a0 v- y![] r[1:2,1:3] o[] x{} b0" ∷
    "2 ExchangeStates c4 g2 w0 p2@3{2,3} a0 v- y![] r[] o[] x{} b0" ∷
    "3 ExchangeStates c4 g2 w0 p2@3{2,3} a0 v- y![] r[] o[] x{} b0" ∷
    "= 41" ∷
    "1 ExchangeActions c4 g2 w0 p1@1{1,2,3} a0 v- y![] r[1:2,1:3] o[] x{} b0" ∷
    "= 42" ∷
    "2 ExchangeActions c4 g2 w0 p2@3{2,3} a0 v- y![] r[] o[] x{} b0" ∷
    "= 43" ∷
    "3 ExchangeActions c4 g2 w0 p2@3{2,3} a0 v- y![] r[] o[] x{} b0" ∷
    "= 45" ∷
    "1 Construct c4 g2 w0 p2@3{2,3} a1 v4/2{1,2,3}{1} y![] r[1:2,1:3] o[] x{} b0" ∷
    "= 46" ∷
    "2 Construct c4 g2 w0 p2@3{2,3} a1 v4/2{1,2,3}{2} y![] r[1:2,1:3] o[] x{} b0" ∷
    "= 47" ∷
    "3 Construct c4 g2 w0 p2@3{2,3} a1 v4/2{1,2,3}{3} y![] r[1:2,1:3] o[] x{} b0" ∷
    "= 49" ∷
    "order 3 1:2" ∷
    "order 4 1:3" ∷
    "1 RegPrim c4 g4 w0 p3@4{1,2,3} a0 v4/2{1,2,3}{1} y- r[] o[] x{} b0" ∷
    "= 50" ∷
    "2 RegPrim c4 g4 w0 p3@4{1,2,3} a0 v4/2{1,2,3}{2} y- r[] o[] x{} b0" ∷
    "= 51" ∷
    "3 RegPrim c4 g4 w0 p3@4{1,2,3} a0 v4/2{1,2,3}{3} y- r[] o[] x{} b0" ∷
    "= 53" ∷
    "greens 3 [1:1,2:1,1:2,1:3]" ∷
    "db 3 \"own\"=\"o\" \"x\"=6 \"y\"=2" ∷
    "= 54" ∷
    "all [1:1,2:1,1:2,1:3]" ∷
    "end 54" ∷
    [])
unfolding cases_compute
migration_with_reds_and_own_inside_call_09_with_many_01 = refl

-- A disk of the older format with red and own actions, whose migration is struck, is migrated again.
migration_with_reds_and_own_inside_call_10_with_many_ff :
    replayed_text (
    "start 1 2 3" ∷
    "merge 1 2 3" ∷
    "rounds 2" ∷
    "request 1 put \"x\" 1" ∷
    "request 2 put \"y\" 2" ∷
    "rounds 1" ∷
    "split 1" ∷
    "split 2 3" ∷
    "merge 1" ∷
    "merge 2 3" ∷
    "rounds 2" ∷
    "request 1 inc \"x\" 5" ∷
    "rounds 1" ∷
    "request 1 put \"own\" \"o\"" ∷
    "stop 1 0 -" ∷
    "downgrade 1" ∷
    "recover 1 10 ffffffffffffffffffffffffffffffffffffffffffffffffffffffffffff" ∷
    "recover 1 5 01" ∷
    "recover 1" ∷
    "show 1" ∷
    "split 2 3" ∷
    "merge 1 2 3" ∷
    "rounds 4" ∷
    "show 3" ∷
    "show order" ∷
    "end" ∷
    [])
    ≡ written (
    "= 1" ∷
    "1 NonPrim - g0 w0 p0@0{1,2,3} a0 v- y- r[] o[] x{} b0" ∷
    "2 NonPrim - g0 w0 p0@0{1,2,3} a0 v- y- r[] o[] x{} b0" ∷
    "3 NonPrim - g0 w0 p0@0{1,2,3} a0 v- y- r[] o[] x{} b0" ∷
    "= 2" ∷
    "1 ExchangeStates c1 g0 w0 p0@0{1,2,3} a0 v- y- r[] o[] x{} b0" ∷
    "2 ExchangeStates c1 g0 w0 p0@0{1,2,3} a0 v- y- r[] o[] x{} b0" ∷
    "3 ExchangeStates c1 g0 w0 p0@0{1,2,3} a0 v- y- r[] o[] x{} b0" ∷
    "= 4" ∷
    "1 Construct c1 g0 w0 p0@0{1,2,3} a1 v1/0{1,2,3}{1} y- r[] o[] x{} b0" ∷
    "= 5" ∷
    "2 Construct c1 g0 w0 p0@0{1,2,3} a1 v1/0{1,2,3}{2} y- r[] o[] x{} b0" ∷
    "= 6" ∷
    "3 Construct c1 g0 w0 p0@0{1,2,3} a1 v1/0{1,2,3}{3} y- r[] o[] x{} b0" ∷
    "= 8" ∷
    "1 RegPrim c1 g0 w0 p1@1{1,2,3} a0 v1/0{1,2,3}{1} y- r[] o[] x{} b0" ∷
    "= 9" ∷
    "2 RegPrim c1 g0 w0 p1@1{1,2,3} a0 v1/0{1,2,3}{2} y- r[] o[] x{} b0" ∷
    "= 10" ∷
    "3 RegPrim c1 g0 w0 p1@1{1,2,3} a0 v1/0{1,2,3}{3} y- r[] o[] x{} b0" ∷
    "= 11" ∷
    "made 1:1 put \"x\" 1" ∷
    "1 RegPrim c1 g0 w0 p1@1{1,2,3} a0 v1/0{1,2,3}{1} y- r[] o[1:1] x{} b0" ∷
    "= 12" ∷
    "made 2:1 put \"y\" 2" ∷
    "2 RegPrim c1 g0 w0 p1@1{1,2,3} a0 v1/0{1,2,3}{2} y- r[] o[2:1] x{} b0" ∷
    "= 14" ∷
    "order 1 1:1" ∷
    "order 2 2:1" ∷
    "1 RegPrim c1 g2 w0 p1@1{1,2,3} a0 v1/0{1,2,3}{1} y- r[] o[] x{} b0" ∷
    "reply 1:1 done" ∷
    "= 15" ∷
    "2 RegPrim c1 g2 w0 p1@1{1,2,3} a0 v1/0{1,2,3}{2} y- r[] o[] x{} b0" ∷
    "reply 2:1 done" ∷
    "= 16" ∷
    "3 RegPrim c1 g2 w0 p1@1{1,2,3} a0 v1/0{1,2,3}{3} y- r[] o[] x{} b0" ∷
    "= 17" ∷
    "1 TransPrim t1 g2 w0 p1@1{1,2,3} a0 v1/0{1,2,3}{1} y- r[] o[] x{} b0" ∷
    "= 18" ∷
    "2 TransPrim t1 g2 w0 p1@1{1,2,3} a0 v1/0{1,2,3}{2} y- r[] o[] x{} b0" ∷
    "3 TransPrim t1 g2 w0 p1@1{1,2,3} a0 v1/0{1,2,3}{3} y- r[] o[] x{} b0" ∷
    "= 19" ∷
    "1 ExchangeStates c2 g2 w0 p1@1{1,2,3} a0 v- y![] r[] o[] x{} b0" ∷
    "= 20" ∷
    "2 ExchangeStates c3 g2 w0 p1@1{1,2,3} a0 v- y![] r[] o[] x{} b0" ∷
    "3 ExchangeStates c3 g2 w0 p1@1{1,2,3} a0 v- y![] r[] o[] x{} b0" ∷
    "= 22" ∷
    "1 NonPrim c2 g2 w0 p1@1{1,2,3} a0 v- y![] r[] o[] x{} b0" ∷
    "= 23" ∷
    "2 Construct c3 g2 w0 p1@1{1,2,3} a1 v3/1{2,3}{2} y![] r[] o[] x{} b0" ∷
    "= 24" ∷
    "3 Construct c3 g2 w0 p1@1{1,2,3} a1 v3/1{2,3}{3} y![] r[] o[] x{} b0" ∷
    "= 26" ∷
    "2 RegPrim c3 g2 w0 p2@3{2,3} a0 v3/1{2,3}{2} y- r[] o[] x{} b0" ∷
    "= 27" ∷
    "3 RegPrim c3 g2 w0 p2@3{2,3} a0 v3/1{2,3}{3} y- r[] o[] x{} b0" ∷
    "= 28" ∷
    "made 1:2 inc \"x\" 5" ∷
    "1 NonPrim c2 g2 w0 p1@1{1,2,3} a0 v- y![] r[] o[1:2] x{} b0" ∷
    "= 30" ∷
    "1 NonPrim c2 g2 w0 p1@1{1,2,3} a0 v- y![] r[1:2] o[] x{} b0" ∷
    "= 31" ∷
    "made 1:3 put \"own\" \"o\"" ∷
    "1 NonPrim c2 g2 w0 p1@1{1,2,3} a0 v- y![] r[1:2] o[1:3] x{} b0" ∷
    "= 32" ∷
    "1 Down" ∷
    "= 36" ∷
    "1 NonPrim - g2 w0 p1@1{1,2,3} a0 v- y![] r[1:2,1:3] o[] x{} b0" ∷
    "= 37" ∷
    "greens 1 [1:1,2:1]" ∷
    "db 1 \"x\"=1 \"y\"=2" ∷
    "= 38" ∷
    "2 TransPrim t3 g2 w0 p2@3{2,3} a0 v3/1{2,3}{2} y- r[] o[] x{} b0" ∷
    "3 TransPrim t3 g2 w0 p2@3{2,3} a0 v3/1{2,3}{3} y- r[] o[] x{} b0" ∷
    "= 39" ∷
    "1 ExchangeStates c4 g2 w0 p1@1{1,2,3} a0 v- y![] r[1:2,1:3] o[] x{} b0" ∷
    "2 ExchangeStates c4 g2 w0 p2@3{2,3} a0 v- y![] r[] o[] x{} b0" ∷
    "3 ExchangeStates c4 g2 w0 p2@3{2,3} a0 v- y![] r[] o[] x{} b0" ∷
    "= 41" ∷
    "1 ExchangeActions c4 g2 w0 p1@1{1,2,3} a0 v- y![] r[1:2,1:3] o[] x{} b0" ∷
    "= 42" ∷
    "2 ExchangeActions c4 g2 w0 p2@3{2,3} a0 v- y![] r[] o[] x{} b0" ∷
    "= 43" ∷
    "3 ExchangeActions c4 g2 w0 p2@3{2,3} a0 v- y![] r[] o[] x{} b0" ∷
    "= 45" ∷
    "1 Construct c4 g2 w0 p2@3{2,3} a1 v4/2{1,2,3}{1} y![] r[1:2,1:3] o[] x{} b0" ∷
    "= 46" ∷
    "2 Construct c4 g2 w0 p2@3{2,3} a1 v4/2{1,2,3}{2} y![] r[1:2,1:3] o[] x{} b0" ∷
    "= 47" ∷
    "3 Construct c4 g2 w0 p2@3{2,3} a1 v4/2{1,2,3}{3} y![] r[1:2,1:3] o[] x{} b0" ∷
    "= 49" ∷
    "order 3 1:2" ∷
    "order 4 1:3" ∷
    "1 RegPrim c4 g4 w0 p3@4{1,2,3} a0 v4/2{1,2,3}{1} y- r[] o[] x{} b0" ∷
    "= 50" ∷
    "2 RegPrim c4 g4 w0 p3@4{1,2,3} a0 v4/2{1,2,3}{2} y- r[] o[] x{} b0" ∷
    "= 51" ∷
    "3 RegPrim c4 g4 w0 p3@4{1,2,3} a0 v4/2{1,2,3}{3} y- r[] o[] x{} b0" ∷
    "= 53" ∷
    "greens 3 [1:1,2:1,1:2,1:3]" ∷
    "db 3 \"own\"=\"o\" \"x\"=6 \"y\"=2" ∷
    "= 54" ∷
    "all [1:1,2:1,1:2,1:3]" ∷
    "end 54" ∷
    [])
unfolding cases_compute
migration_with_reds_and_own_inside_call_10_with_many_ff = refl

-- A disk of the older format with red and own actions, whose migration is struck, is migrated again.
migration_with_reds_and_own_inside_call_11_with_01 :
    replayed_text (
    "start 1 2 3" ∷
    "merge 1 2 3" ∷
    "rounds 2" ∷
    "request 1 put \"x\" 1" ∷
    "request 2 put \"y\" 2" ∷
    "rounds 1" ∷
    "split 1" ∷
    "split 2 3" ∷
    "merge 1" ∷
    "merge 2 3" ∷
    "rounds 2" ∷
    "request 1 inc \"x\" 5" ∷
    "rounds 1" ∷
    "request 1 put \"own\" \"o\"" ∷
    "stop 1 0 -" ∷
    "downgrade 1" ∷
    "recover 1 11 01" ∷
    "recover 1 6 01" ∷
    "recover 1" ∷
    "show 1" ∷
    "split 2 3" ∷
    "merge 1 2 3" ∷
    "rounds 4" ∷
    "show 3" ∷
    "show order" ∷
    "end" ∷
    [])
    ≡ written (
    "= 1" ∷
    "1 NonPrim - g0 w0 p0@0{1,2,3} a0 v- y- r[] o[] x{} b0" ∷
    "2 NonPrim - g0 w0 p0@0{1,2,3} a0 v- y- r[] o[] x{} b0" ∷
    "3 NonPrim - g0 w0 p0@0{1,2,3} a0 v- y- r[] o[] x{} b0" ∷
    "= 2" ∷
    "1 ExchangeStates c1 g0 w0 p0@0{1,2,3} a0 v- y- r[] o[] x{} b0" ∷
    "2 ExchangeStates c1 g0 w0 p0@0{1,2,3} a0 v- y- r[] o[] x{} b0" ∷
    "3 ExchangeStates c1 g0 w0 p0@0{1,2,3} a0 v- y- r[] o[] x{} b0" ∷
    "= 4" ∷
    "1 Construct c1 g0 w0 p0@0{1,2,3} a1 v1/0{1,2,3}{1} y- r[] o[] x{} b0" ∷
    "= 5" ∷
    "2 Construct c1 g0 w0 p0@0{1,2,3} a1 v1/0{1,2,3}{2} y- r[] o[] x{} b0" ∷
    "= 6" ∷
    "3 Construct c1 g0 w0 p0@0{1,2,3} a1 v1/0{1,2,3}{3} y- r[] o[] x{} b0" ∷
    "= 8" ∷
    "1 RegPrim c1 g0 w0 p1@1{1,2,3} a0 v1/0{1,2,3}{1} y- r[] o[] x{} b0" ∷
    "= 9" ∷
    "2 RegPrim c1 g0 w0 p1@1{1,2,3} a0 v1/0{1,2,3}{2} y- r[] o[] x{} b0" ∷
    "= 10" ∷
    "3 RegPrim c1 g0 w0 p1@1{1,2,3} a0 v1/0{1,2,3}{3} y- r[] o[] x{} b0" ∷
    "= 11" ∷
    "made 1:1 put \"x\" 1" ∷
    "1 RegPrim c1 g0 w0 p1@1{1,2,3} a0 v1/0{1,2,3}{1} y- r[] o[1:1] x{} b0" ∷
    "= 12" ∷
    "made 2:1 put \"y\" 2" ∷
    "2 RegPrim c1 g0 w0 p1@1{1,2,3} a0 v1/0{1,2,3}{2} y- r[] o[2:1] x{} b0" ∷
    "= 14" ∷
    "order 1 1:1" ∷
    "order 2 2:1" ∷
    "1 RegPrim c1 g2 w0 p1@1{1,2,3} a0 v1/0{1,2,3}{1} y- r[] o[] x{} b0" ∷
    "reply 1:1 done" ∷
    "= 15" ∷
    "2 RegPrim c1 g2 w0 p1@1{1,2,3} a0 v1/0{1,2,3}{2} y- r[] o[] x{} b0" ∷
    "reply 2:1 done" ∷
    "= 16" ∷
    "3 RegPrim c1 g2 w0 p1@1{1,2,3} a0 v1/0{1,2,3}{3} y- r[] o[] x{} b0" ∷
    "= 17" ∷
    "1 TransPrim t1 g2 w0 p1@1{1,2,3} a0 v1/0{1,2,3}{1} y- r[] o[] x{} b0" ∷
    "= 18" ∷
    "2 TransPrim t1 g2 w0 p1@1{1,2,3} a0 v1/0{1,2,3}{2} y- r[] o[] x{} b0" ∷
    "3 TransPrim t1 g2 w0 p1@1{1,2,3} a0 v1/0{1,2,3}{3} y- r[] o[] x{} b0" ∷
    "= 19" ∷
    "1 ExchangeStates c2 g2 w0 p1@1{1,2,3} a0 v- y![] r[] o[] x{} b0" ∷
    "= 20" ∷
    "2 ExchangeStates c3 g2 w0 p1@1{1,2,3} a0 v- y![] r[] o[] x{} b0" ∷
    "3 ExchangeStates c3 g2 w0 p1@1{1,2,3} a0 v- y![] r[] o[] x{} b0" ∷
    "= 22" ∷
    "1 NonPrim c2 g2 w0 p1@1{1,2,3} a0 v- y![] r[] o[] x{} b0" ∷
    "= 23" ∷
    "2 Construct c3 g2 w0 p1@1{1,2,3} a1 v3/1{2,3}{2} y![] r[] o[] x{} b0" ∷
    "= 24" ∷
    "3 Construct c3 g2 w0 p1@1{1,2,3} a1 v3/1{2,3}{3} y![] r[] o[] x{} b0" ∷
    "= 26" ∷
    "2 RegPrim c3 g2 w0 p2@3{2,3} a0 v3/1{2,3}{2} y- r[] o[] x{} b0" ∷
    "= 27" ∷
    "3 RegPrim c3 g2 w0 p2@3{2,3} a0 v3/1{2,3}{3} y- r[] o[] x{} b0" ∷
    "= 28" ∷
    "made 1:2 inc \"x\" 5" ∷
    "1 NonPrim c2 g2 w0 p1@1{1,2,3} a0 v- y![] r[] o[1:2] x{} b0" ∷
    "= 30" ∷
    "1 NonPrim c2 g2 w0 p1@1{1,2,3} a0 v- y![] r[1:2] o[] x{} b0" ∷
    "= 31" ∷
    "made 1:3 put \"own\" \"o\"" ∷
    "1 NonPrim c2 g2 w0 p1@1{1,2,3} a0 v- y![] r[1:2] o[1:3] x{} b0" ∷
    "= 32" ∷
    "1 Down" ∷
    "= 36" ∷
    "1 NonPrim - g2 w0 p1@1{1,2,3} a0 v- y![] r[1:2,1:3] o[] x{} b0" ∷
    "= 37" ∷
    "greens 1 [1:1,2:1]" ∷
    "db 1 \"x\"=1 \"y\"=2" ∷
    "= 38" ∷
    "2 TransPrim t3 g2 w0 p2@3{2,3} a0 v3/1{2,3}{2} y- r[] o[] x{} b0" ∷
    "3 TransPrim t3 g2 w0 p2@3{2,3} a0 v3/1{2,3}{3} y- r[] o[] x{} b0" ∷
    "= 39" ∷
    "1 ExchangeStates c4 g2 w0 p1@1{1,2,3} a0 v- y![] r[1:2,1:3] o[] x{} b0" ∷
    "2 ExchangeStates c4 g2 w0 p2@3{2,3} a0 v- y![] r[] o[] x{} b0" ∷
    "3 ExchangeStates c4 g2 w0 p2@3{2,3} a0 v- y![] r[] o[] x{} b0" ∷
    "= 41" ∷
    "1 ExchangeActions c4 g2 w0 p1@1{1,2,3} a0 v- y![] r[1:2,1:3] o[] x{} b0" ∷
    "= 42" ∷
    "2 ExchangeActions c4 g2 w0 p2@3{2,3} a0 v- y![] r[] o[] x{} b0" ∷
    "= 43" ∷
    "3 ExchangeActions c4 g2 w0 p2@3{2,3} a0 v- y![] r[] o[] x{} b0" ∷
    "= 45" ∷
    "1 Construct c4 g2 w0 p2@3{2,3} a1 v4/2{1,2,3}{1} y![] r[1:2,1:3] o[] x{} b0" ∷
    "= 46" ∷
    "2 Construct c4 g2 w0 p2@3{2,3} a1 v4/2{1,2,3}{2} y![] r[1:2,1:3] o[] x{} b0" ∷
    "= 47" ∷
    "3 Construct c4 g2 w0 p2@3{2,3} a1 v4/2{1,2,3}{3} y![] r[1:2,1:3] o[] x{} b0" ∷
    "= 49" ∷
    "order 3 1:2" ∷
    "order 4 1:3" ∷
    "1 RegPrim c4 g4 w0 p3@4{1,2,3} a0 v4/2{1,2,3}{1} y- r[] o[] x{} b0" ∷
    "= 50" ∷
    "2 RegPrim c4 g4 w0 p3@4{1,2,3} a0 v4/2{1,2,3}{2} y- r[] o[] x{} b0" ∷
    "= 51" ∷
    "3 RegPrim c4 g4 w0 p3@4{1,2,3} a0 v4/2{1,2,3}{3} y- r[] o[] x{} b0" ∷
    "= 53" ∷
    "greens 3 [1:1,2:1,1:2,1:3]" ∷
    "db 3 \"own\"=\"o\" \"x\"=6 \"y\"=2" ∷
    "= 54" ∷
    "all [1:1,2:1,1:2,1:3]" ∷
    "end 54" ∷
    [])
unfolding cases_compute
migration_with_reds_and_own_inside_call_11_with_01 = refl

-- A disk of the older format with red and own actions, whose migration is struck, is migrated again.
migration_with_reds_and_own_inside_call_12_with_00 :
    replayed_text (
    "start 1 2 3" ∷
    "merge 1 2 3" ∷
    "rounds 2" ∷
    "request 1 put \"x\" 1" ∷
    "request 2 put \"y\" 2" ∷
    "rounds 1" ∷
    "split 1" ∷
    "split 2 3" ∷
    "merge 1" ∷
    "merge 2 3" ∷
    "rounds 2" ∷
    "request 1 inc \"x\" 5" ∷
    "rounds 1" ∷
    "request 1 put \"own\" \"o\"" ∷
    "stop 1 0 -" ∷
    "downgrade 1" ∷
    "recover 1 12 00" ∷
    "recover 1 3 01" ∷
    "recover 1" ∷
    "show 1" ∷
    "split 2 3" ∷
    "merge 1 2 3" ∷
    "rounds 4" ∷
    "show 3" ∷
    "show order" ∷
    "end" ∷
    [])
    ≡ written (
    "= 1" ∷
    "1 NonPrim - g0 w0 p0@0{1,2,3} a0 v- y- r[] o[] x{} b0" ∷
    "2 NonPrim - g0 w0 p0@0{1,2,3} a0 v- y- r[] o[] x{} b0" ∷
    "3 NonPrim - g0 w0 p0@0{1,2,3} a0 v- y- r[] o[] x{} b0" ∷
    "= 2" ∷
    "1 ExchangeStates c1 g0 w0 p0@0{1,2,3} a0 v- y- r[] o[] x{} b0" ∷
    "2 ExchangeStates c1 g0 w0 p0@0{1,2,3} a0 v- y- r[] o[] x{} b0" ∷
    "3 ExchangeStates c1 g0 w0 p0@0{1,2,3} a0 v- y- r[] o[] x{} b0" ∷
    "= 4" ∷
    "1 Construct c1 g0 w0 p0@0{1,2,3} a1 v1/0{1,2,3}{1} y- r[] o[] x{} b0" ∷
    "= 5" ∷
    "2 Construct c1 g0 w0 p0@0{1,2,3} a1 v1/0{1,2,3}{2} y- r[] o[] x{} b0" ∷
    "= 6" ∷
    "3 Construct c1 g0 w0 p0@0{1,2,3} a1 v1/0{1,2,3}{3} y- r[] o[] x{} b0" ∷
    "= 8" ∷
    "1 RegPrim c1 g0 w0 p1@1{1,2,3} a0 v1/0{1,2,3}{1} y- r[] o[] x{} b0" ∷
    "= 9" ∷
    "2 RegPrim c1 g0 w0 p1@1{1,2,3} a0 v1/0{1,2,3}{2} y- r[] o[] x{} b0" ∷
    "= 10" ∷
    "3 RegPrim c1 g0 w0 p1@1{1,2,3} a0 v1/0{1,2,3}{3} y- r[] o[] x{} b0" ∷
    "= 11" ∷
    "made 1:1 put \"x\" 1" ∷
    "1 RegPrim c1 g0 w0 p1@1{1,2,3} a0 v1/0{1,2,3}{1} y- r[] o[1:1] x{} b0" ∷
    "= 12" ∷
    "made 2:1 put \"y\" 2" ∷
    "2 RegPrim c1 g0 w0 p1@1{1,2,3} a0 v1/0{1,2,3}{2} y- r[] o[2:1] x{} b0" ∷
    "= 14" ∷
    "order 1 1:1" ∷
    "order 2 2:1" ∷
    "1 RegPrim c1 g2 w0 p1@1{1,2,3} a0 v1/0{1,2,3}{1} y- r[] o[] x{} b0" ∷
    "reply 1:1 done" ∷
    "= 15" ∷
    "2 RegPrim c1 g2 w0 p1@1{1,2,3} a0 v1/0{1,2,3}{2} y- r[] o[] x{} b0" ∷
    "reply 2:1 done" ∷
    "= 16" ∷
    "3 RegPrim c1 g2 w0 p1@1{1,2,3} a0 v1/0{1,2,3}{3} y- r[] o[] x{} b0" ∷
    "= 17" ∷
    "1 TransPrim t1 g2 w0 p1@1{1,2,3} a0 v1/0{1,2,3}{1} y- r[] o[] x{} b0" ∷
    "= 18" ∷
    "2 TransPrim t1 g2 w0 p1@1{1,2,3} a0 v1/0{1,2,3}{2} y- r[] o[] x{} b0" ∷
    "3 TransPrim t1 g2 w0 p1@1{1,2,3} a0 v1/0{1,2,3}{3} y- r[] o[] x{} b0" ∷
    "= 19" ∷
    "1 ExchangeStates c2 g2 w0 p1@1{1,2,3} a0 v- y![] r[] o[] x{} b0" ∷
    "= 20" ∷
    "2 ExchangeStates c3 g2 w0 p1@1{1,2,3} a0 v- y![] r[] o[] x{} b0" ∷
    "3 ExchangeStates c3 g2 w0 p1@1{1,2,3} a0 v- y![] r[] o[] x{} b0" ∷
    "= 22" ∷
    "1 NonPrim c2 g2 w0 p1@1{1,2,3} a0 v- y![] r[] o[] x{} b0" ∷
    "= 23" ∷
    "2 Construct c3 g2 w0 p1@1{1,2,3} a1 v3/1{2,3}{2} y![] r[] o[] x{} b0" ∷
    "= 24" ∷
    "3 Construct c3 g2 w0 p1@1{1,2,3} a1 v3/1{2,3}{3} y![] r[] o[] x{} b0" ∷
    "= 26" ∷
    "2 RegPrim c3 g2 w0 p2@3{2,3} a0 v3/1{2,3}{2} y- r[] o[] x{} b0" ∷
    "= 27" ∷
    "3 RegPrim c3 g2 w0 p2@3{2,3} a0 v3/1{2,3}{3} y- r[] o[] x{} b0" ∷
    "= 28" ∷
    "made 1:2 inc \"x\" 5" ∷
    "1 NonPrim c2 g2 w0 p1@1{1,2,3} a0 v- y![] r[] o[1:2] x{} b0" ∷
    "= 30" ∷
    "1 NonPrim c2 g2 w0 p1@1{1,2,3} a0 v- y![] r[1:2] o[] x{} b0" ∷
    "= 31" ∷
    "made 1:3 put \"own\" \"o\"" ∷
    "1 NonPrim c2 g2 w0 p1@1{1,2,3} a0 v- y![] r[1:2] o[1:3] x{} b0" ∷
    "= 32" ∷
    "1 Down" ∷
    "= 36" ∷
    "1 NonPrim - g2 w0 p1@1{1,2,3} a0 v- y![] r[1:2,1:3] o[] x{} b0" ∷
    "= 37" ∷
    "greens 1 [1:1,2:1]" ∷
    "db 1 \"x\"=1 \"y\"=2" ∷
    "= 38" ∷
    "2 TransPrim t3 g2 w0 p2@3{2,3} a0 v3/1{2,3}{2} y- r[] o[] x{} b0" ∷
    "3 TransPrim t3 g2 w0 p2@3{2,3} a0 v3/1{2,3}{3} y- r[] o[] x{} b0" ∷
    "= 39" ∷
    "1 ExchangeStates c4 g2 w0 p1@1{1,2,3} a0 v- y![] r[1:2,1:3] o[] x{} b0" ∷
    "2 ExchangeStates c4 g2 w0 p2@3{2,3} a0 v- y![] r[] o[] x{} b0" ∷
    "3 ExchangeStates c4 g2 w0 p2@3{2,3} a0 v- y![] r[] o[] x{} b0" ∷
    "= 41" ∷
    "1 ExchangeActions c4 g2 w0 p1@1{1,2,3} a0 v- y![] r[1:2,1:3] o[] x{} b0" ∷
    "= 42" ∷
    "2 ExchangeActions c4 g2 w0 p2@3{2,3} a0 v- y![] r[] o[] x{} b0" ∷
    "= 43" ∷
    "3 ExchangeActions c4 g2 w0 p2@3{2,3} a0 v- y![] r[] o[] x{} b0" ∷
    "= 45" ∷
    "1 Construct c4 g2 w0 p2@3{2,3} a1 v4/2{1,2,3}{1} y![] r[1:2,1:3] o[] x{} b0" ∷
    "= 46" ∷
    "2 Construct c4 g2 w0 p2@3{2,3} a1 v4/2{1,2,3}{2} y![] r[1:2,1:3] o[] x{} b0" ∷
    "= 47" ∷
    "3 Construct c4 g2 w0 p2@3{2,3} a1 v4/2{1,2,3}{3} y![] r[1:2,1:3] o[] x{} b0" ∷
    "= 49" ∷
    "order 3 1:2" ∷
    "order 4 1:3" ∷
    "1 RegPrim c4 g4 w0 p3@4{1,2,3} a0 v4/2{1,2,3}{1} y- r[] o[] x{} b0" ∷
    "= 50" ∷
    "2 RegPrim c4 g4 w0 p3@4{1,2,3} a0 v4/2{1,2,3}{2} y- r[] o[] x{} b0" ∷
    "= 51" ∷
    "3 RegPrim c4 g4 w0 p3@4{1,2,3} a0 v4/2{1,2,3}{3} y- r[] o[] x{} b0" ∷
    "= 53" ∷
    "greens 3 [1:1,2:1,1:2,1:3]" ∷
    "db 3 \"own\"=\"o\" \"x\"=6 \"y\"=2" ∷
    "= 54" ∷
    "all [1:1,2:1,1:2,1:3]" ∷
    "end 54" ∷
    [])
unfolding cases_compute
migration_with_reds_and_own_inside_call_12_with_00 = refl

-- A disk of the older format with red and own actions, whose migration is struck, is migrated again.
migration_with_reds_and_own_inside_call_12_with_01 :
    replayed_text (
    "start 1 2 3" ∷
    "merge 1 2 3" ∷
    "rounds 2" ∷
    "request 1 put \"x\" 1" ∷
    "request 2 put \"y\" 2" ∷
    "rounds 1" ∷
    "split 1" ∷
    "split 2 3" ∷
    "merge 1" ∷
    "merge 2 3" ∷
    "rounds 2" ∷
    "request 1 inc \"x\" 5" ∷
    "rounds 1" ∷
    "request 1 put \"own\" \"o\"" ∷
    "stop 1 0 -" ∷
    "downgrade 1" ∷
    "recover 1 12 01" ∷
    "recover 1 3 01" ∷
    "recover 1" ∷
    "show 1" ∷
    "split 2 3" ∷
    "merge 1 2 3" ∷
    "rounds 4" ∷
    "show 3" ∷
    "show order" ∷
    "end" ∷
    [])
    ≡ written (
    "= 1" ∷
    "1 NonPrim - g0 w0 p0@0{1,2,3} a0 v- y- r[] o[] x{} b0" ∷
    "2 NonPrim - g0 w0 p0@0{1,2,3} a0 v- y- r[] o[] x{} b0" ∷
    "3 NonPrim - g0 w0 p0@0{1,2,3} a0 v- y- r[] o[] x{} b0" ∷
    "= 2" ∷
    "1 ExchangeStates c1 g0 w0 p0@0{1,2,3} a0 v- y- r[] o[] x{} b0" ∷
    "2 ExchangeStates c1 g0 w0 p0@0{1,2,3} a0 v- y- r[] o[] x{} b0" ∷
    "3 ExchangeStates c1 g0 w0 p0@0{1,2,3} a0 v- y- r[] o[] x{} b0" ∷
    "= 4" ∷
    "1 Construct c1 g0 w0 p0@0{1,2,3} a1 v1/0{1,2,3}{1} y- r[] o[] x{} b0" ∷
    "= 5" ∷
    "2 Construct c1 g0 w0 p0@0{1,2,3} a1 v1/0{1,2,3}{2} y- r[] o[] x{} b0" ∷
    "= 6" ∷
    "3 Construct c1 g0 w0 p0@0{1,2,3} a1 v1/0{1,2,3}{3} y- r[] o[] x{} b0" ∷
    "= 8" ∷
    "1 RegPrim c1 g0 w0 p1@1{1,2,3} a0 v1/0{1,2,3}{1} y- r[] o[] x{} b0" ∷
    "= 9" ∷
    "2 RegPrim c1 g0 w0 p1@1{1,2,3} a0 v1/0{1,2,3}{2} y- r[] o[] x{} b0" ∷
    "= 10" ∷
    "3 RegPrim c1 g0 w0 p1@1{1,2,3} a0 v1/0{1,2,3}{3} y- r[] o[] x{} b0" ∷
    "= 11" ∷
    "made 1:1 put \"x\" 1" ∷
    "1 RegPrim c1 g0 w0 p1@1{1,2,3} a0 v1/0{1,2,3}{1} y- r[] o[1:1] x{} b0" ∷
    "= 12" ∷
    "made 2:1 put \"y\" 2" ∷
    "2 RegPrim c1 g0 w0 p1@1{1,2,3} a0 v1/0{1,2,3}{2} y- r[] o[2:1] x{} b0" ∷
    "= 14" ∷
    "order 1 1:1" ∷
    "order 2 2:1" ∷
    "1 RegPrim c1 g2 w0 p1@1{1,2,3} a0 v1/0{1,2,3}{1} y- r[] o[] x{} b0" ∷
    "reply 1:1 done" ∷
    "= 15" ∷
    "2 RegPrim c1 g2 w0 p1@1{1,2,3} a0 v1/0{1,2,3}{2} y- r[] o[] x{} b0" ∷
    "reply 2:1 done" ∷
    "= 16" ∷
    "3 RegPrim c1 g2 w0 p1@1{1,2,3} a0 v1/0{1,2,3}{3} y- r[] o[] x{} b0" ∷
    "= 17" ∷
    "1 TransPrim t1 g2 w0 p1@1{1,2,3} a0 v1/0{1,2,3}{1} y- r[] o[] x{} b0" ∷
    "= 18" ∷
    "2 TransPrim t1 g2 w0 p1@1{1,2,3} a0 v1/0{1,2,3}{2} y- r[] o[] x{} b0" ∷
    "3 TransPrim t1 g2 w0 p1@1{1,2,3} a0 v1/0{1,2,3}{3} y- r[] o[] x{} b0" ∷
    "= 19" ∷
    "1 ExchangeStates c2 g2 w0 p1@1{1,2,3} a0 v- y![] r[] o[] x{} b0" ∷
    "= 20" ∷
    "2 ExchangeStates c3 g2 w0 p1@1{1,2,3} a0 v- y![] r[] o[] x{} b0" ∷
    "3 ExchangeStates c3 g2 w0 p1@1{1,2,3} a0 v- y![] r[] o[] x{} b0" ∷
    "= 22" ∷
    "1 NonPrim c2 g2 w0 p1@1{1,2,3} a0 v- y![] r[] o[] x{} b0" ∷
    "= 23" ∷
    "2 Construct c3 g2 w0 p1@1{1,2,3} a1 v3/1{2,3}{2} y![] r[] o[] x{} b0" ∷
    "= 24" ∷
    "3 Construct c3 g2 w0 p1@1{1,2,3} a1 v3/1{2,3}{3} y![] r[] o[] x{} b0" ∷
    "= 26" ∷
    "2 RegPrim c3 g2 w0 p2@3{2,3} a0 v3/1{2,3}{2} y- r[] o[] x{} b0" ∷
    "= 27" ∷
    "3 RegPrim c3 g2 w0 p2@3{2,3} a0 v3/1{2,3}{3} y- r[] o[] x{} b0" ∷
    "= 28" ∷
    "made 1:2 inc \"x\" 5" ∷
    "1 NonPrim c2 g2 w0 p1@1{1,2,3} a0 v- y![] r[] o[1:2] x{} b0" ∷
    "= 30" ∷
    "1 NonPrim c2 g2 w0 p1@1{1,2,3} a0 v- y![] r[1:2] o[] x{} b0" ∷
    "= 31" ∷
    "made 1:3 put \"own\" \"o\"" ∷
    "1 NonPrim c2 g2 w0 p1@1{1,2,3} a0 v- y![] r[1:2] o[1:3] x{} b0" ∷
    "= 32" ∷
    "1 Down" ∷
    "= 36" ∷
    "1 NonPrim - g2 w0 p1@1{1,2,3} a0 v- y![] r[1:2,1:3] o[] x{} b0" ∷
    "= 37" ∷
    "greens 1 [1:1,2:1]" ∷
    "db 1 \"x\"=1 \"y\"=2" ∷
    "= 38" ∷
    "2 TransPrim t3 g2 w0 p2@3{2,3} a0 v3/1{2,3}{2} y- r[] o[] x{} b0" ∷
    "3 TransPrim t3 g2 w0 p2@3{2,3} a0 v3/1{2,3}{3} y- r[] o[] x{} b0" ∷
    "= 39" ∷
    "1 ExchangeStates c4 g2 w0 p1@1{1,2,3} a0 v- y![] r[1:2,1:3] o[] x{} b0" ∷
    "2 ExchangeStates c4 g2 w0 p2@3{2,3} a0 v- y![] r[] o[] x{} b0" ∷
    "3 ExchangeStates c4 g2 w0 p2@3{2,3} a0 v- y![] r[] o[] x{} b0" ∷
    "= 41" ∷
    "1 ExchangeActions c4 g2 w0 p1@1{1,2,3} a0 v- y![] r[1:2,1:3] o[] x{} b0" ∷
    "= 42" ∷
    "2 ExchangeActions c4 g2 w0 p2@3{2,3} a0 v- y![] r[] o[] x{} b0" ∷
    "= 43" ∷
    "3 ExchangeActions c4 g2 w0 p2@3{2,3} a0 v- y![] r[] o[] x{} b0" ∷
    "= 45" ∷
    "1 Construct c4 g2 w0 p2@3{2,3} a1 v4/2{1,2,3}{1} y![] r[1:2,1:3] o[] x{} b0" ∷
    "= 46" ∷
    "2 Construct c4 g2 w0 p2@3{2,3} a1 v4/2{1,2,3}{2} y![] r[1:2,1:3] o[] x{} b0" ∷
    "= 47" ∷
    "3 Construct c4 g2 w0 p2@3{2,3} a1 v4/2{1,2,3}{3} y![] r[1:2,1:3] o[] x{} b0" ∷
    "= 49" ∷
    "order 3 1:2" ∷
    "order 4 1:3" ∷
    "1 RegPrim c4 g4 w0 p3@4{1,2,3} a0 v4/2{1,2,3}{1} y- r[] o[] x{} b0" ∷
    "= 50" ∷
    "2 RegPrim c4 g4 w0 p3@4{1,2,3} a0 v4/2{1,2,3}{2} y- r[] o[] x{} b0" ∷
    "= 51" ∷
    "3 RegPrim c4 g4 w0 p3@4{1,2,3} a0 v4/2{1,2,3}{3} y- r[] o[] x{} b0" ∷
    "= 53" ∷
    "greens 3 [1:1,2:1,1:2,1:3]" ∷
    "db 3 \"own\"=\"o\" \"x\"=6 \"y\"=2" ∷
    "= 54" ∷
    "all [1:1,2:1,1:2,1:3]" ∷
    "end 54" ∷
    [])
unfolding cases_compute
migration_with_reds_and_own_inside_call_12_with_01 = refl

-- Behind a whole recovery both sides have the newer header, and the next one makes five calls.
old_disk_is_newer_on_both_sides_behind_a_recovery :
    replayed_text (
    "start 1 2 3" ∷
    "merge 1 2 3" ∷
    "rounds 2" ∷
    "request 1 put \"x\" 1" ∷
    "rounds 1" ∷
    "stop 1 0 -" ∷
    "downgrade 1" ∷
    "recover 1" ∷
    "stop 1 0 -" ∷
    "recover 1 5 -" ∷
    "recover 1 6 -" ∷
    "end" ∷
    [])
    ≡ written (
    "= 1" ∷
    "1 NonPrim - g0 w0 p0@0{1,2,3} a0 v- y- r[] o[] x{} b0" ∷
    "2 NonPrim - g0 w0 p0@0{1,2,3} a0 v- y- r[] o[] x{} b0" ∷
    "3 NonPrim - g0 w0 p0@0{1,2,3} a0 v- y- r[] o[] x{} b0" ∷
    "= 2" ∷
    "1 ExchangeStates c1 g0 w0 p0@0{1,2,3} a0 v- y- r[] o[] x{} b0" ∷
    "2 ExchangeStates c1 g0 w0 p0@0{1,2,3} a0 v- y- r[] o[] x{} b0" ∷
    "3 ExchangeStates c1 g0 w0 p0@0{1,2,3} a0 v- y- r[] o[] x{} b0" ∷
    "= 4" ∷
    "1 Construct c1 g0 w0 p0@0{1,2,3} a1 v1/0{1,2,3}{1} y- r[] o[] x{} b0" ∷
    "= 5" ∷
    "2 Construct c1 g0 w0 p0@0{1,2,3} a1 v1/0{1,2,3}{2} y- r[] o[] x{} b0" ∷
    "= 6" ∷
    "3 Construct c1 g0 w0 p0@0{1,2,3} a1 v1/0{1,2,3}{3} y- r[] o[] x{} b0" ∷
    "= 8" ∷
    "1 RegPrim c1 g0 w0 p1@1{1,2,3} a0 v1/0{1,2,3}{1} y- r[] o[] x{} b0" ∷
    "= 9" ∷
    "2 RegPrim c1 g0 w0 p1@1{1,2,3} a0 v1/0{1,2,3}{2} y- r[] o[] x{} b0" ∷
    "= 10" ∷
    "3 RegPrim c1 g0 w0 p1@1{1,2,3} a0 v1/0{1,2,3}{3} y- r[] o[] x{} b0" ∷
    "= 11" ∷
    "made 1:1 put \"x\" 1" ∷
    "1 RegPrim c1 g0 w0 p1@1{1,2,3} a0 v1/0{1,2,3}{1} y- r[] o[1:1] x{} b0" ∷
    "= 13" ∷
    "order 1 1:1" ∷
    "1 RegPrim c1 g1 w0 p1@1{1,2,3} a0 v1/0{1,2,3}{1} y- r[] o[] x{} b0" ∷
    "reply 1:1 done" ∷
    "= 14" ∷
    "2 RegPrim c1 g1 w0 p1@1{1,2,3} a0 v1/0{1,2,3}{2} y- r[] o[] x{} b0" ∷
    "= 15" ∷
    "3 RegPrim c1 g1 w0 p1@1{1,2,3} a0 v1/0{1,2,3}{3} y- r[] o[] x{} b0" ∷
    "= 16" ∷
    "1 Down" ∷
    "= 18" ∷
    "1 NonPrim - g1 w0 p1@1{1,2,3} a0 v1/0{1,2,3}{1} y- r[] o[] x{} b0" ∷
    "= 19" ∷
    "1 Down" ∷
    "= 21" ∷
    "1 NonPrim - g1 w0 p1@1{1,2,3} a0 v1/0{1,2,3}{1} y- r[] o[] x{} b0" ∷
    "end 21" ∷
    [])
unfolding cases_compute
old_disk_is_newer_on_both_sides_behind_a_recovery = refl
