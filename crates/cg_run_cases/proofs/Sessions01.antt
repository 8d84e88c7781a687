-- Cases of cases/ with their whole reports, which `.ci/theorems` writes down here.
use Rattle.std.specs.Prelude.{◌≡◌, [], ◌∷◌}
use mathlib.Core.Path.{refl}
use Rattle.cg_run_cases.specs.Replaying.{put_by, written}
use Rattle.cg_run_cases.specs.Computing.{cases_compute}

-- Sessions: a write comes where nothing is created.
generated_sessions_a_write_comes_where_nothing_is_created_a :
    put_by "sessions" (
    "start 17 32" ∷
    "merge 17 32" ∷
    "rounds 2" ∷
    "split 32" ∷
    "gather" ∷
    "split 17" ∷
    "merge 17 32" ∷
    "order 17" ∷
    "split 17" ∷
    "merge 17" ∷
    "receive 32 1" ∷
    "gather" ∷
    "deliver 32 1" ∷
    "deliver 17 1" ∷
    "order 17" ∷
    "session 2" ∷
    "rounds 3" ∷
    "request 32 inc \"y\" -2 ? get \"k2\"" ∷
    "gather" ∷
    "request 32 del \"ab\"" ∷
    "gather" ∷
    "gather" ∷
    "gather" ∷
    "split 32" ∷
    "split 17" ∷
    "merge 17" ∷
    "gather" ∷
    "deliver 17 1" ∷
    "order 17" ∷
    "swrite 2 17 del \"abc\"" ∷
    "end" ∷
    [])
    ≡ written (
    "= 1" ∷
    "17 NonPrim - g0 w0 p0@0{17,32} a0 v- y- r[] o[] x{} b0" ∷
    "32 NonPrim - g0 w0 p0@0{17,32} a0 v- y- r[] o[] x{} b0" ∷
    "= 2" ∷
    "17 ExchangeStates c1 g0 w0 p0@0{17,32} a0 v- y- r[] o[] x{} b0" ∷
    "32 ExchangeStates c1 g0 w0 p0@0{17,32} a0 v- y- r[] o[] x{} b0" ∷
    "= 4" ∷
    "17 Construct c1 g0 w0 p0@0{17,32} a1 v1/0{17,32}{17} y- r[] o[] x{} b0" ∷
    "= 5" ∷
    "32 Construct c1 g0 w0 p0@0{17,32} a1 v1/0{17,32}{32} y- r[] o[] x{} b0" ∷
    "= 7" ∷
    "17 RegPrim c1 g0 w0 p1@1{17,32} a0 v1/0{17,32}{17} y- r[] o[] x{} b0" ∷
    "= 8" ∷
    "32 RegPrim c1 g0 w0 p1@1{17,32} a0 v1/0{17,32}{32} y- r[] o[] x{} b0" ∷
    "= 9" ∷
    "32 TransPrim t1 g0 w0 p1@1{17,32} a0 v1/0{17,32}{32} y- r[] o[] x{} b0" ∷
    "= 11" ∷
    "17 TransPrim t1 g0 w0 p1@1{17,32} a0 v1/0{17,32}{17} y- r[] o[] x{} b0" ∷
    "= 12" ∷
    "17 ExchangeStates c2 g0 w0 p1@1{17,32} a0 v- y![] r[] o[] x{} b0" ∷
    "32 ExchangeStates c2 g0 w0 p1@1{17,32} a0 v- y![] r[] o[] x{} b0" ∷
    "= 14" ∷
    "17 NonPrim t2 g0 w0 p1@1{17,32} a0 v- y![] r[] o[] x{} b0" ∷
    "= 15" ∷
    "17 ExchangeStates c3 g0 w0 p1@1{17,32} a0 v- y![] r[] o[] x{} b0" ∷
    "= 19" ∷
    "17 Construct c3 g0 w0 p1@1{17,32} a1 v3/1{17}{17} y![] r[] o[] x{} b0" ∷
    "= 23" ∷
    "17 RegPrim c3 g0 w0 p2@3{17} a0 v3/1{17}{17} y- r[] o[] x{} b0" ∷
    "= 26" ∷
    "32 ExchangeStates c2 g0 w0 p1@1{17,32} a0 v- y![] r[] o[] x{} b1" ∷
    "= 28" ∷
    "32 ExchangeStates c2 g0 w0 p1@1{17,32} a0 v- y![] r[] o[] x{} b2" ∷
    "= 32" ∷
    "32 NonPrim t2 g0 w0 p1@1{17,32} a0 v- y![] r[] o[] x{} b2" ∷
    "= 33" ∷
    "17 TransPrim t3 g0 w0 p2@3{17} a0 v3/1{17}{17} y- r[] o[] x{} b0" ∷
    "= 34" ∷
    "17 ExchangeStates c4 g0 w0 p2@3{17} a0 v- y![] r[] o[] x{} b0" ∷
    "= 36" ∷
    "17 Construct c4 g0 w0 p2@3{17} a1 v4/2{17}{17} y![] r[] o[] x{} b0" ∷
    "refused 30 25 17" ∷
    [])
unfolding cases_compute
generated_sessions_a_write_comes_where_nothing_is_created_a = refl

-- Sessions: events of all kinds.
generated_sessions_any_a :
    put_by "sessions" (
    "start 1 2 3 4 5" ∷
    "merge 1 2 3 4 5" ∷
    "rounds 1" ∷
    "gather" ∷
    "gather" ∷
    "gather" ∷
    "deliver 4 5" ∷
    "deliver 2 1" ∷
    "deliver 3 5" ∷
    "deliver 2 4" ∷
    "gather" ∷
    "gather" ∷
    "gather" ∷
    "deliver 1 3" ∷
    "deliver 5 5" ∷
    "session 4" ∷
    "split 1 2 3 4 5" ∷
    "merge 1 2 3 4 5" ∷
    "split 1 2 3 4 5" ∷
    "merge 1 2 3 4 5" ∷
    "dirty 1 get \"k2\"" ∷
    "gather" ∷
    "deliver 4 1" ∷
    "gather" ∷
    "gather" ∷
    "gather" ∷
    "deliver 1 2" ∷
    "gather" ∷
    "deliver 2 1" ∷
    "gather" ∷
    "sweak 4 4 get \"a\"" ∷
    "sweak 4 5 get \"b\"" ∷
    "sweak 4 1 get \"z\"" ∷
    "request 4 put \"ab\" -4; del \"x\"" ∷
    "request 3 inc \"b\" 0 ? count" ∷
    "deliver 2 4" ∷
    "order 2" ∷
    "gather" ∷
    "gather" ∷
    "end" ∷
    [])
    ≡ written (
    "= 1" ∷
    "1 NonPrim - g0 w0 p0@0{1,2,3,4,5} a0 v- y- r[] o[] x{} b0" ∷
    "2 NonPrim - g0 w0 p0@0{1,2,3,4,5} a0 v- y- r[] o[] x{} b0" ∷
    "3 NonPrim - g0 w0 p0@0{1,2,3,4,5} a0 v- y- r[] o[] x{} b0" ∷
    "4 NonPrim - g0 w0 p0@0{1,2,3,4,5} a0 v- y- r[] o[] x{} b0" ∷
    "5 NonPrim - g0 w0 p0@0{1,2,3,4,5} a0 v- y- r[] o[] x{} b0" ∷
    "= 2" ∷
    "1 ExchangeStates c1 g0 w0 p0@0{1,2,3,4,5} a0 v- y- r[] o[] x{} b0" ∷
    "2 ExchangeStates c1 g0 w0 p0@0{1,2,3,4,5} a0 v- y- r[] o[] x{} b0" ∷
    "3 ExchangeStates c1 g0 w0 p0@0{1,2,3,4,5} a0 v- y- r[] o[] x{} b0" ∷
    "4 ExchangeStates c1 g0 w0 p0@0{1,2,3,4,5} a0 v- y- r[] o[] x{} b0" ∷
    "5 ExchangeStates c1 g0 w0 p0@0{1,2,3,4,5} a0 v- y- r[] o[] x{} b0" ∷
    "= 4" ∷
    "1 Construct c1 g0 w0 p0@0{1,2,3,4,5} a1 v1/0{1,2,3,4,5}{1} y- r[] o[] x{} b0" ∷
    "= 5" ∷
    "2 Construct c1 g0 w0 p0@0{1,2,3,4,5} a1 v1/0{1,2,3,4,5}{2} y- r[] o[] x{} b0" ∷
    "= 6" ∷
    "3 Construct c1 g0 w0 p0@0{1,2,3,4,5} a1 v1/0{1,2,3,4,5}{3} y- r[] o[] x{} b0" ∷
    "= 7" ∷
    "4 Construct c1 g0 w0 p0@0{1,2,3,4,5} a1 v1/0{1,2,3,4,5}{4} y- r[] o[] x{} b0" ∷
    "= 8" ∷
    "5 Construct c1 g0 w0 p0@0{1,2,3,4,5} a1 v1/0{1,2,3,4,5}{5} y- r[] o[] x{} b0" ∷
    "= 12" ∷
    "4 RegPrim c1 g0 w0 p1@1{1,2,3,4,5} a0 v1/0{1,2,3,4,5}{4} y- r[] o[] x{} b0" ∷
    "= 14" ∷
    "3 RegPrim c1 g0 w0 p1@1{1,2,3,4,5} a0 v1/0{1,2,3,4,5}{3} y- r[] o[] x{} b0" ∷
    "= 15" ∷
    "2 RegPrim c1 g0 w0 p1@1{1,2,3,4,5} a0 v1/0{1,2,3,4,5}{2} y- r[] o[] x{} b0" ∷
    "= 20" ∷
    "5 RegPrim c1 g0 w0 p1@1{1,2,3,4,5} a0 v1/0{1,2,3,4,5}{5} y- r[] o[] x{} b0" ∷
    "= 22" ∷
    "1 TransPrim t1 g0 w0 p1@1{1,2,3,4,5} a0 v1/0{1,2,3,4,5}{1} y- r[] o[] x{} b0" ∷
    "2 TransPrim t1 g0 w0 p1@1{1,2,3,4,5} a0 v1/0{1,2,3,4,5}{2} y- r[] o[] x{} b0" ∷
    "3 TransPrim t1 g0 w0 p1@1{1,2,3,4,5} a0 v1/0{1,2,3,4,5}{3} y- r[] o[] x{} b0" ∷
    "4 TransPrim t1 g0 w0 p1@1{1,2,3,4,5} a0 v1/0{1,2,3,4,5}{4} y- r[] o[] x{} b0" ∷
    "5 TransPrim t1 g0 w0 p1@1{1,2,3,4,5} a0 v1/0{1,2,3,4,5}{5} y- r[] o[] x{} b0" ∷
    "= 23" ∷
    "1 ExchangeStates c2 g0 w0 p1@1{1,2,3,4,5} a0 v- y![] r[] o[] x{} b0" ∷
    "2 ExchangeStates c2 g0 w0 p1@1{1,2,3,4,5} a0 v- y![] r[] o[] x{} b0" ∷
    "3 ExchangeStates c2 g0 w0 p1@1{1,2,3,4,5} a0 v- y![] r[] o[] x{} b0" ∷
    "4 ExchangeStates c2 g0 w0 p1@1{1,2,3,4,5} a0 v- y![] r[] o[] x{} b0" ∷
    "5 ExchangeStates c2 g0 w0 p1@1{1,2,3,4,5} a0 v- y![] r[] o[] x{} b0" ∷
    "= 24" ∷
    "1 NonPrim t2 g0 w0 p1@1{1,2,3,4,5} a0 v- y![] r[] o[] x{} b0" ∷
    "2 NonPrim t2 g0 w0 p1@1{1,2,3,4,5} a0 v- y![] r[] o[] x{} b0" ∷
    "3 NonPrim t2 g0 w0 p1@1{1,2,3,4,5} a0 v- y![] r[] o[] x{} b0" ∷
    "4 NonPrim t2 g0 w0 p1@1{1,2,3,4,5} a0 v- y![] r[] o[] x{} b0" ∷
    "5 NonPrim t2 g0 w0 p1@1{1,2,3,4,5} a0 v- y![] r[] o[] x{} b0" ∷
    "= 25" ∷
    "1 ExchangeStates c3 g0 w0 p1@1{1,2,3,4,5} a0 v- y![] r[] o[] x{} b0" ∷
    "2 ExchangeStates c3 g0 w0 p1@1{1,2,3,4,5} a0 v- y![] r[] o[] x{} b0" ∷
    "3 ExchangeStates c3 g0 w0 p1@1{1,2,3,4,5} a0 v- y![] r[] o[] x{} b0" ∷
    "4 ExchangeStates c3 g0 w0 p1@1{1,2,3,4,5} a0 v- y![] r[] o[] x{} b0" ∷
    "5 ExchangeStates c3 g0 w0 p1@1{1,2,3,4,5} a0 v- y![] r[] o[] x{} b0" ∷
    "= 26" ∷
    "dirty 1 absent" ∷
    "= 36" ∷
    "sweak 4 absent at 0" ∷
    "= 37" ∷
    "sweak 4 absent at 0" ∷
    "= 38" ∷
    "sweak 4 absent at 0" ∷
    "= 39" ∷
    "4 ExchangeStates c3 g0 w0 p1@1{1,2,3,4,5} a0 v- y![] r[] o[] x{} b1" ∷
    "= 40" ∷
    "3 ExchangeStates c3 g0 w0 p1@1{1,2,3,4,5} a0 v- y![] r[] o[] x{} b1" ∷
    "= 41" ∷
    "2 Construct c3 g0 w0 p1@1{1,2,3,4,5} a1 v3/1{1,2,3,4,5}{2} y![] r[] o[] x{} b0" ∷
    "end 44" ∷
    [])
unfolding cases_compute
generated_sessions_any_a = refl

-- Sessions: replies raise the token; actions are red.
generated_sessions_at_red_a :
    put_by "sessions" (
    "start 1 2" ∷
    "merge 1 2" ∷
    "rounds 1" ∷
    "rounds 1" ∷
    "session 3" ∷
    "rounds 3" ∷
    "swrite 3 2 move \"b\" \"z\" 5" ∷
    "rounds 1" ∷
    "request 2 move \"x\" \"ab\" 9223372036854775807" ∷
    "request 2 ? get \"z\"" ∷
    "request 2 need \"b\" 84; move \"ab\" \"z\" 0; put \"k2\" 89; put \"b\" 84 ? get \"b\"" ∷
    "split 1 2" ∷
    "merge 1 2" ∷
    "split 1 2" ∷
    "merge 1 2" ∷
    "rounds 1" ∷
    "request 2 need \"ab\" 10; del \"z\"" ∷
    "request 1 move \"y\" \"a\" 9223372036854775807" ∷
    "rounds 3" ∷
    "end" ∷
    [])
    ≡ written (
    "= 1" ∷
    "1 NonPrim - g0 w0 p0@0{1,2} a0 v- y- r[] o[] x{} b0" ∷
    "2 NonPrim - g0 w0 p0@0{1,2} a0 v- y- r[] o[] x{} b0" ∷
    "= 2" ∷
    "1 ExchangeStates c1 g0 w0 p0@0{1,2} a0 v- y- r[] o[] x{} b0" ∷
    "2 ExchangeStates c1 g0 w0 p0@0{1,2} a0 v- y- r[] o[] x{} b0" ∷
    "= 4" ∷
    "1 Construct c1 g0 w0 p0@0{1,2} a1 v1/0{1,2}{1} y- r[] o[] x{} b0" ∷
    "= 5" ∷
    "2 Construct c1 g0 w0 p0@0{1,2} a1 v1/0{1,2}{2} y- r[] o[] x{} b0" ∷
    "= 7" ∷
    "1 RegPrim c1 g0 w0 p1@1{1,2} a0 v1/0{1,2}{1} y- r[] o[] x{} b0" ∷
    "= 8" ∷
    "2 RegPrim c1 g0 w0 p1@1{1,2} a0 v1/0{1,2}{2} y- r[] o[] x{} b0" ∷
    "= 13" ∷
    "made 2:1 move \"b\" \"z\" 5" ∷
    "2 RegPrim c1 g0 w0 p1@1{1,2} a0 v1/0{1,2}{2} y- r[] o[2:1] x{} b0" ∷
    "session 3 wrote 2:1" ∷
    "= 15" ∷
    "order 1 2:1" ∷
    "1 RegPrim c1 g1 w0 p1@1{1,2} a0 v1/0{1,2}{1} y- r[] o[] x{} b0" ∷
    "= 16" ∷
    "2 RegPrim c1 g1 w0 p1@1{1,2} a0 v1/0{1,2}{2} y- r[] o[] x{} b0" ∷
    "reply 2:1 aborted 1" ∷
    "session 3 at 1" ∷
    "= 17" ∷
    "made 2:2 move \"x\" \"ab\" 9223372036854775807" ∷
    "2 RegPrim c1 g1 w0 p1@1{1,2} a0 v1/0{1,2}{2} y- r[] o[2:2] x{} b0" ∷
    "= 18" ∷
    "made 2:3 ? get \"z\"" ∷
    "2 RegPrim c1 g1 w0 p1@1{1,2} a0 v1/0{1,2}{2} y- r[] o[2:2,2:3] x{} b0" ∷
    "= 19" ∷
    "made 2:4 need \"b\" 84; move \"ab\" \"z\" 0; put \"k2\" 89; put \"b\" 84 ? get \"b\"" ∷
    "2 RegPrim c1 g1 w0 p1@1{1,2} a0 v1/0{1,2}{2} y- r[] o[2:2,2:3,2:4] x{} b0" ∷
    "= 20" ∷
    "1 TransPrim t1 g1 w0 p1@1{1,2} a0 v1/0{1,2}{1} y- r[] o[] x{} b0" ∷
    "2 TransPrim t1 g1 w0 p1@1{1,2} a0 v1/0{1,2}{2} y- r[] o[2:2,2:3,2:4] x{} b0" ∷
    "= 21" ∷
    "1 ExchangeStates c2 g1 w0 p1@1{1,2} a0 v- y![] r[] o[] x{} b0" ∷
    "2 ExchangeStates c2 g1 w0 p1@1{1,2} a0 v- y![] r[2:2,2:3,2:4] o[] x{} b0" ∷
    "= 22" ∷
    "1 NonPrim t2 g1 w0 p1@1{1,2} a0 v- y![] r[] o[] x{} b0" ∷
    "2 NonPrim t2 g1 w0 p1@1{1,2} a0 v- y![] r[2:2,2:3,2:4] o[] x{} b0" ∷
    "= 23" ∷
    "1 ExchangeStates c3 g1 w0 p1@1{1,2} a0 v- y![] r[] o[] x{} b0" ∷
    "2 ExchangeStates c3 g1 w0 p1@1{1,2} a0 v- y![] r[2:2,2:3,2:4] o[] x{} b0" ∷
    "= 25" ∷
    "1 ExchangeActions c3 g1 w0 p1@1{1,2} a0 v- y![] r[] o[] x{} b0" ∷
    "= 26" ∷
    "2 ExchangeActions c3 g1 w0 p1@1{1,2} a0 v- y![] r[2:2,2:3,2:4] o[] x{} b0" ∷
    "= 27" ∷
    "2 ExchangeActions c3 g1 w0 p1@1{1,2} a0 v- y![] r[2:2,2:3,2:4] o[] x{} b1" ∷
    "= 28" ∷
    "1 ExchangeActions c3 g1 w0 p1@1{1,2} a0 v- y![] r[] o[] x{} b1" ∷
    "= 30" ∷
    "1 Construct c3 g1 w0 p1@1{1,2} a1 v3/1{1,2}{1} y![] r[2:2,2:3,2:4] o[] x{} b1" ∷
    "= 31" ∷
    "2 Construct c3 g1 w0 p1@1{1,2} a1 v3/1{1,2}{2} y![] r[2:2,2:3,2:4] o[] x{} b1" ∷
    "= 33" ∷
    "made 1:1 move \"y\" \"a\" 9223372036854775807" ∷
    "order 2 2:2" ∷
    "order 3 2:3" ∷
    "order 4 2:4" ∷
    "1 RegPrim c3 g4 w0 p2@3{1,2} a0 v3/1{1,2}{1} y- r[] o[1:1] x{} b0" ∷
    "= 34" ∷
    "made 2:5 need \"ab\" 10; del \"z\"" ∷
    "2 RegPrim c3 g4 w0 p2@3{1,2} a0 v3/1{1,2}{2} y- r[] o[2:5] x{} b0" ∷
    "reply 2:2 aborted 1" ∷
    "reply 2:3 done ? absent" ∷
    "reply 2:4 aborted 1 ? absent" ∷
    "= 36" ∷
    "order 5 1:1" ∷
    "order 6 2:5" ∷
    "1 RegPrim c3 g6 w4 p2@3{1,2} a0 v3/1{1,2}{1} y- r[] o[] x{} b0" ∷
    "reply 1:1 aborted 1" ∷
    "= 37" ∷
    "2 RegPrim c3 g6 w4 p2@3{1,2} a0 v3/1{1,2}{2} y- r[] o[] x{} b0" ∷
    "reply 2:5 aborted 1" ∷
    "end 37" ∷
    [])
unfolding cases_compute
generated_sessions_at_red_a = refl

-- Sessions: a replica is behind the token.
generated_sessions_behind_a :
    put_by "sessions" (
    "start 14 17 29 32" ∷
    "merge 14 17 29 32" ∷
    "rounds 2" ∷
    "stop 29 1 4347525549545933" ∷
    "session 1" ∷
    "request 14 need \"z\" 40; put \"y\" 1" ∷
    "request 29 cas \"y\" 93 90" ∷
    "request 17 inc \"a\" 0 ? keys \"k\"" ∷
    "rounds 3" ∷
    "join 32 1*5" ∷
    "swrite 1 17 inc \"x\" 7" ∷
    "recover 29 4 0000000000000000000000000000000000000000" ∷
    "recover 29" ∷
    "join 14 2*5" ∷
    "order 14" ∷
    "stop 29 10 0101010101" ∷
    "split 32" ∷
    "split 14 17" ∷
    "merge 32" ∷
    "merge 14 17" ∷
    "sweak 1 29 get \"ab\"" ∷
    "rounds 2" ∷
    "gather" ∷
    "deliver 17 2" ∷
    "deliver 14 1" ∷
    "gather" ∷
    "gather" ∷
    "gather" ∷
    "split 14" ∷
    "stop 29 3 010101f2014c0001010010010101" ∷
    "merge 14 29" ∷
    "rounds 1" ∷
    "sweak 1 32 keys \"k\"" ∷
    "rounds 2" ∷
    "end" ∷
    [])
    ≡ written (
    "= 1" ∷
    "14 NonPrim - g0 w0 p0@0{14,17,29,32} a0 v- y- r[] o[] x{} b0" ∷
    "17 NonPrim - g0 w0 p0@0{14,17,29,32} a0 v- y- r[] o[] x{} b0" ∷
    "29 NonPrim - g0 w0 p0@0{14,17,29,32} a0 v- y- r[] o[] x{} b0" ∷
    "32 NonPrim - g0 w0 p0@0{14,17,29,32} a0 v- y- r[] o[] x{} b0" ∷
    "= 2" ∷
    "14 ExchangeStates c1 g0 w0 p0@0{14,17,29,32} a0 v- y- r[] o[] x{} b0" ∷
    "17 ExchangeStates c1 g0 w0 p0@0{14,17,29,32} a0 v- y- r[] o[] x{} b0" ∷
    "29 ExchangeStates c1 g0 w0 p0@0{14,17,29,32} a0 v- y- r[] o[] x{} b0" ∷
    "32 ExchangeStates c1 g0 w0 p0@0{14,17,29,32} a0 v- y- r[] o[] x{} b0" ∷
    "= 4" ∷
    "14 Construct c1 g0 w0 p0@0{14,17,29,32} a1 v1/0{14,17,29,32}{14} y- r[] o[] x{} b0" ∷
    "= 5" ∷
    "17 Construct c1 g0 w0 p0@0{14,17,29,32} a1 v1/0{14,17,29,32}{17} y- r[] o[] x{} b0" ∷
    "= 6" ∷
    "29 Construct c1 g0 w0 p0@0{14,17,29,32} a1 v1/0{14,17,29,32}{29} y- r[] o[] x{} b0" ∷
    "= 7" ∷
    "32 Construct c1 g0 w0 p0@0{14,17,29,32} a1 v1/0{14,17,29,32}{32} y- r[] o[] x{} b0" ∷
    "= 9" ∷
    "14 RegPrim c1 g0 w0 p1@1{14,17,29,32} a0 v1/0{14,17,29,32}{14} y- r[] o[] x{} b0" ∷
    "= 10" ∷
    "17 RegPrim c1 g0 w0 p1@1{14,17,29,32} a0 v1/0{14,17,29,32}{17} y- r[] o[] x{} b0" ∷
    "= 11" ∷
    "29 RegPrim c1 g0 w0 p1@1{14,17,29,32} a0 v1/0{14,17,29,32}{29} y- r[] o[] x{} b0" ∷
    "= 12" ∷
    "32 RegPrim c1 g0 w0 p1@1{14,17,29,32} a0 v1/0{14,17,29,32}{32} y- r[] o[] x{} b0" ∷
    "= 15" ∷
    "made 14:1 need \"z\" 40; put \"y\" 1" ∷
    "14 RegPrim c1 g0 w0 p1@1{14,17,29,32} a0 v1/0{14,17,29,32}{14} y- r[] o[14:1] x{} b0" ∷
    "= 16" ∷
    "29 Down" ∷
    "= 17" ∷
    "made 17:1 inc \"a\" 0 ? keys \"k\"" ∷
    "17 RegPrim c1 g0 w0 p1@1{14,17,29,32} a0 v1/0{14,17,29,32}{17} y- r[] o[17:1] x{} b0" ∷
    "= 21" ∷
    "made 32:1 join 1*5" ∷
    "32 RegPrim c1 g0 w0 p1@1{14,17,29,32} a0 v1/0{14,17,29,32}{32} y- r[] o[32:1] x{} b0" ∷
    "= 22" ∷
    "made 17:2 inc \"x\" 7" ∷
    "17 RegPrim c1 g0 w0 p1@1{14,17,29,32} a0 v1/0{14,17,29,32}{17} y- r[] o[17:1,17:2] x{} b0" ∷
    "session 1 wrote 17:2" ∷
    "= 24" ∷
    "29 NonPrim - g0 w0 p1@1{14,17,29,32} a0 v1/0{14,17,29,32}{29} y- r[] o[] x{} b0" ∷
    "= 25" ∷
    "made 14:2 join 2*5" ∷
    "14 RegPrim c1 g0 w0 p1@1{14,17,29,32} a0 v1/0{14,17,29,32}{14} y- r[] o[14:1,14:2] x{} b0" ∷
    "= 28" ∷
    "32 TransPrim t1 g0 w0 p1@1{14,17,29,32} a0 v1/0{14,17,29,32}{32} y?[14:1,17:1] r[] o[32:1] x{} b0" ∷
    "= 29" ∷
    "14 TransPrim t1 g0 w0 p1@1{14,17,29,32} a0 v1/0{14,17,29,32}{14} y?[14:1,17:1,14:2] r[] o[] x{} b0" ∷
    "17 TransPrim t1 g0 w0 p1@1{14,17,29,32} a0 v1/0{14,17,29,32}{17} y?[14:1,17:1,14:2] r[] o[17:2] x{} b0" ∷
    "= 30" ∷
    "32 ExchangeStates c2 g0 w0 p1@1{14,17,29,32} a0 v- y![14:1,17:1] r[32:1] o[] x{} b0" ∷
    "= 31" ∷
    "14 ExchangeStates c3 g0 w0 p1@1{14,17,29,32} a0 v- y![14:1,17:1,14:2] r[] o[] x{} b0" ∷
    "17 ExchangeStates c3 g0 w0 p1@1{14,17,29,32} a0 v- y![14:1,17:1,14:2] r[17:2] o[] x{} b0" ∷
    "= 32" ∷
    "sweak 1 absent at 0" ∷
    "= 34" ∷
    "14 ExchangeActions c3 g0 w0 p1@1{14,17,29,32} a0 v- y![14:1,17:1,14:2] r[] o[] x{} b0" ∷
    "= 35" ∷
    "17 ExchangeActions c3 g0 w0 p1@1{14,17,29,32} a0 v- y![14:1,17:1,14:2] r[17:2] o[] x{} b0" ∷
    "= 36" ∷
    "32 NonPrim c2 g0 w0 p1@1{14,17,29,32} a0 v- y![14:1,17:1] r[32:1] o[] x{} b0" ∷
    "= 38" ∷
    "14 Construct c3 g0 w0 p1@1{14,17,29,32} a1 v3/1{14,17}{14} y![14:1,17:1,14:2] r[17:2] o[] x{} b0" ∷
    "= 39" ∷
    "17 Construct c3 g0 w0 p1@1{14,17,29,32} a1 v3/1{14,17}{17} y![14:1,17:1,14:2] r[17:2] o[] x{} b0" ∷
    "= 41" ∷
    "order 1 14:1" ∷
    "order 2 17:1" ∷
    "order 3 14:2" ∷
    "order 4 17:2" ∷
    "17 RegPrim c3 g4 w0 p2@3{14,17} a0 v3/1{14,17}{17} y- r[] o[] x{} b0" ∷
    "reply 17:1 done ? keys" ∷
    "reply 17:2 done" ∷
    "session 1 at 4" ∷
    "= 46" ∷
    "14 Un t3 g0 w0 p1@1{14,17,29,32} a1 v3/1{14,17}{14} y![14:1,17:1,14:2] r[17:2] o[] x{} b0" ∷
    "= 48" ∷
    "14 ExchangeStates c4 g0 w0 p1@1{14,17,29,32} a1 v3/1{14,17}{14} y![14:1,17:1,14:2] r[17:2] o[] x{} b0" ∷
    "29 ExchangeStates c4 g0 w0 p1@1{14,17,29,32} a0 v1/0{14,17,29,32}{29} y- r[] o[] x{} b0" ∷
    "= 50" ∷
    "14 ExchangeActions c4 g0 w0 p1@1{14,17,29,32} a1 v3/1{14,17}{14} y![14:1,17:1,14:2] r[17:2] o[] x{} b0" ∷
    "= 51" ∷
    "29 ExchangeActions c4 g0 w0 p1@1{14,17,29,32} a0 v1/0{14,17,29,32}{29} y- r[] o[] x{} b0" ∷
    "= 52" ∷
    "sweak 1 behind 0 4" ∷
    "= 55" ∷
    "29 ExchangeActions c4 g0 w0 p1@1{14,17,29,32} a0 v1/0{14,17,29,32}{29} y- r[14:1,14:2] o[] x{} b0" ∷
    "= 57" ∷
    "14 NonPrim c4 g0 w0 p1@1{14,17,29,32} a1 v3/1{14,17}{14} y![14:1,17:1,14:2] r[17:2] o[] x{} b0" ∷
    "= 58" ∷
    "29 Down" ∷
    "end 58" ∷
    [])
unfolding cases_compute
generated_sessions_behind_a = refl

-- Sessions: a replica crashes; replies raise the token.
generated_sessions_crash_at_a :
    put_by "sessions" (
    "start 1 2 3 4" ∷
    "merge 1 2 3 4" ∷
    "rounds 2" ∷
    "session 1" ∷
    "sweak 1 3 get \"b\"" ∷
    "weak 4 get \"z\"" ∷
    "swrite 1 1 inc \"a\" 7" ∷
    "rounds 1" ∷
    "split 2 3" ∷
    "request 4 need \"a\" absent ? count" ∷
    "rounds 3" ∷
    "merge 2 3" ∷
    "stop 2 0 -" ∷
    "transfer 1 3 1000000" ∷
    "end" ∷
    [])
    ≡ written (
    "= 1" ∷
    "1 NonPrim - g0 w0 p0@0{1,2,3,4} a0 v- y- r[] o[] x{} b0" ∷
    "2 NonPrim - g0 w0 p0@0{1,2,3,4} a0 v- y- r[] o[] x{} b0" ∷
    "3 NonPrim - g0 w0 p0@0{1,2,3,4} a0 v- y- r[] o[] x{} b0" ∷
    "4 NonPrim - g0 w0 p0@0{1,2,3,4} a0 v- y- r[] o[] x{} b0" ∷
    "= 2" ∷
    "1 ExchangeStates c1 g0 w0 p0@0{1,2,3,4} a0 v- y- r[] o[] x{} b0" ∷
    "2 ExchangeStates c1 g0 w0 p0@0{1,2,3,4} a0 v- y- r[] o[] x{} b0" ∷
    "3 ExchangeStates c1 g0 w0 p0@0{1,2,3,4} a0 v- y- r[] o[] x{} b0" ∷
    "4 ExchangeStates c1 g0 w0 p0@0{1,2,3,4} a0 v- y- r[] o[] x{} b0" ∷
    "= 4" ∷
    "1 Construct c1 g0 w0 p0@0{1,2,3,4} a1 v1/0{1,2,3,4}{1} y- r[] o[] x{} b0" ∷
    "= 5" ∷
    "2 Construct c1 g0 w0 p0@0{1,2,3,4} a1 v1/0{1,2,3,4}{2} y- r[] o[] x{} b0" ∷
    "= 6" ∷
    "3 Construct c1 g0 w0 p0@0{1,2,3,4} a1 v1/0{1,2,3,4}{3} y- r[] o[] x{} b0" ∷
    "= 7" ∷
    "4 Construct c1 g0 w0 p0@0{1,2,3,4} a1 v1/0{1,2,3,4}{4} y- r[] o[] x{} b0" ∷
    "= 9" ∷
    "1 RegPrim c1 g0 w0 p1@1{1,2,3,4} a0 v1/0{1,2,3,4}{1} y- r[] o[] x{} b0" ∷
    "= 10" ∷
    "2 RegPrim c1 g0 w0 p1@1{1,2,3,4} a0 v1/0{1,2,3,4}{2} y- r[] o[] x{} b0" ∷
    "= 11" ∷
    "3 RegPrim c1 g0 w0 p1@1{1,2,3,4} a0 v1/0{1,2,3,4}{3} y- r[] o[] x{} b0" ∷
    "= 12" ∷
    "4 RegPrim c1 g0 w0 p1@1{1,2,3,4} a0 v1/0{1,2,3,4}{4} y- r[] o[] x{} b0" ∷
    "= 14" ∷
    "sweak 1 absent at 0" ∷
    "= 15" ∷
    "weak 4 absent" ∷
    "= 16" ∷
    "made 1:1 inc \"a\" 7" ∷
    "1 RegPrim c1 g0 w0 p1@1{1,2,3,4} a0 v1/0{1,2,3,4}{1} y- r[] o[1:1] x{} b0" ∷
    "session 1 wrote 1:1" ∷
    "= 18" ∷
    "order 1 1:1" ∷
    "1 RegPrim c1 g1 w0 p1@1{1,2,3,4} a0 v1/0{1,2,3,4}{1} y- r[] o[] x{} b0" ∷
    "reply 1:1 done" ∷
    "session 1 at 1" ∷
    "= 19" ∷
    "2 RegPrim c1 g1 w0 p1@1{1,2,3,4} a0 v1/0{1,2,3,4}{2} y- r[] o[] x{} b0" ∷
    "= 20" ∷
    "3 RegPrim c1 g1 w0 p1@1{1,2,3,4} a0 v1/0{1,2,3,4}{3} y- r[] o[] x{} b0" ∷
    "= 21" ∷
    "4 RegPrim c1 g1 w0 p1@1{1,2,3,4} a0 v1/0{1,2,3,4}{4} y- r[] o[] x{} b0" ∷
    "= 22" ∷
    "2 TransPrim t1 g1 w0 p1@1{1,2,3,4} a0 v1/0{1,2,3,4}{2} y- r[] o[] x{} b0" ∷
    "3 TransPrim t1 g1 w0 p1@1{1,2,3,4} a0 v1/0{1,2,3,4}{3} y- r[] o[] x{} b0" ∷
    "= 23" ∷
    "made 4:1 need \"a\" absent ? count" ∷
    "4 RegPrim c1 g1 w0 p1@1{1,2,3,4} a0 v1/0{1,2,3,4}{4} y- r[] o[4:1] x{} b0" ∷
    "= 27" ∷
    "2 ExchangeStates c2 g1 w0 p1@1{1,2,3,4} a0 v- y![] r[] o[] x{} b0" ∷
    "3 ExchangeStates c2 g1 w0 p1@1{1,2,3,4} a0 v- y![] r[] o[] x{} b0" ∷
    "= 28" ∷
    "2 Down" ∷
    "refused 14 10 3" ∷
    [])
unfolding cases_compute
generated_sessions_crash_at_a = refl

-- Sessions: a server joins.
generated_sessions_joiner_a :
    put_by "sessions" (
    "start 4 28 29" ∷
    "merge 4 28 29" ∷
    "rounds 3" ∷
    "request 28 inc \"b\" -2 ? count" ∷
    "show 28" ∷
    "session 2" ∷
    "request 4 ? get \"x\"" ∷
    "leave 29 28" ∷
    "order 28" ∷
    "join 28 1*5" ∷
    "split 4 28 29" ∷
    "merge 4 28 29" ∷
    "rounds 4" ∷
    "rounds 1" ∷
    "join 28 2*5" ∷
    "rounds 2" ∷
    "transfer 29 1 1000000" ∷
    "request 29 del \"b\"; inc \"a\" -2 ? get \"abc\"" ∷
    "merge 1" ∷
    "order 1" ∷
    "rounds 3" ∷
    "join 28 3" ∷
    "transfer 29 2 2" ∷
    "transfer 1 2 5" ∷
    "sweak 2 1 get \"a\"" ∷
    "order 28" ∷
    "gather" ∷
    "deliver 4 1" ∷
    "deliver 28 1" ∷
    "deliver 29 1" ∷
    "gather" ∷
    "gather" ∷
    "rounds 1" ∷
    "request 29 ? count" ∷
    "rounds 1" ∷
    "split 4 28 29" ∷
    "split 1" ∷
    "merge 1 4 28 29" ∷
    "order 28" ∷
    "end" ∷
    [])
    ≡ written (
    "= 1" ∷
    "4 NonPrim - g0 w0 p0@0{4,28,29} a0 v- y- r[] o[] x{} b0" ∷
    "28 NonPrim - g0 w0 p0@0{4,28,29} a0 v- y- r[] o[] x{} b0" ∷
    "29 NonPrim - g0 w0 p0@0{4,28,29} a0 v- y- r[] o[] x{} b0" ∷
    "= 2" ∷
    "4 ExchangeStates c1 g0 w0 p0@0{4,28,29} a0 v- y- r[] o[] x{} b0" ∷
    "28 ExchangeStates c1 g0 w0 p0@0{4,28,29} a0 v- y- r[] o[] x{} b0" ∷
    "29 ExchangeStates c1 g0 w0 p0@0{4,28,29} a0 v- y- r[] o[] x{} b0" ∷
    "= 4" ∷
    "4 Construct c1 g0 w0 p0@0{4,28,29} a1 v1/0{4,28,29}{4} y- r[] o[] x{} b0" ∷
    "= 5" ∷
    "28 Construct c1 g0 w0 p0@0{4,28,29} a1 v1/0{4,28,29}{28} y- r[] o[] x{} b0" ∷
    "= 6" ∷
    "29 Construct c1 g0 w0 p0@0{4,28,29} a1 v1/0{4,28,29}{29} y- r[] o[] x{} b0" ∷
    "= 8" ∷
    "4 RegPrim c1 g0 w0 p1@1{4,28,29} a0 v1/0{4,28,29}{4} y- r[] o[] x{} b0" ∷
    "= 9" ∷
    "28 RegPrim c1 g0 w0 p1@1{4,28,29} a0 v1/0{4,28,29}{28} y- r[] o[] x{} b0" ∷
    "= 10" ∷
    "29 RegPrim c1 g0 w0 p1@1{4,28,29} a0 v1/0{4,28,29}{29} y- r[] o[] x{} b0" ∷
    "= 12" ∷
    "made 28:1 inc \"b\" -2 ? count" ∷
    "28 RegPrim c1 g0 w0 p1@1{4,28,29} a0 v1/0{4,28,29}{28} y- r[] o[28:1] x{} b0" ∷
    "= 13" ∷
    "greens 28 []" ∷
    "db 28" ∷
    "= 15" ∷
    "made 4:1 ? get \"x\"" ∷
    "4 RegPrim c1 g0 w0 p1@1{4,28,29} a0 v1/0{4,28,29}{4} y- r[] o[4:1] x{} b0" ∷
    "= 16" ∷
    "made 29:1 leave 28" ∷
    "29 RegPrim c1 g0 w0 p1@1{4,28,29} a0 v1/0{4,28,29}{29} y- r[] o[29:1] x{} b0" ∷
    "= 18" ∷
    "made 28:2 join 1*5" ∷
    "28 RegPrim c1 g0 w0 p1@1{4,28,29} a0 v1/0{4,28,29}{28} y- r[] o[28:1,28:2] x{} b0" ∷
    "= 19" ∷
    "4 TransPrim t1 g0 w0 p1@1{4,28,29} a0 v1/0{4,28,29}{4} y?[28:1] r[] o[4:1] x{} b0" ∷
    "28 TransPrim t1 g0 w0 p1@1{4,28,29} a0 v1/0{4,28,29}{28} y?[28:1] r[] o[28:2] x{} b0" ∷
    "29 TransPrim t1 g0 w0 p1@1{4,28,29} a0 v1/0{4,28,29}{29} y?[28:1] r[] o[29:1] x{} b0" ∷
    "= 20" ∷
    "4 ExchangeStates c2 g0 w0 p1@1{4,28,29} a0 v- y![28:1] r[4:1] o[] x{} b0" ∷
    "28 ExchangeStates c2 g0 w0 p1@1{4,28,29} a0 v- y![28:1] r[28:2] o[] x{} b0" ∷
    "29 ExchangeStates c2 g0 w0 p1@1{4,28,29} a0 v- y![28:1] r[29:1] o[] x{} b0" ∷
    "= 22" ∷
    "4 ExchangeActions c2 g0 w0 p1@1{4,28,29} a0 v- y![28:1] r[4:1] o[] x{} b0" ∷
    "= 23" ∷
    "28 ExchangeActions c2 g0 w0 p1@1{4,28,29} a0 v- y![28:1] r[28:2] o[] x{} b0" ∷
    "= 24" ∷
    "29 ExchangeActions c2 g0 w0 p1@1{4,28,29} a0 v- y![28:1] r[29:1] o[] x{} b0" ∷
    "= 27" ∷
    "28 ExchangeActions c2 g0 w0 p1@1{4,28,29} a0 v- y![28:1] r[4:1,28:2] o[] x{} b0" ∷
    "= 28" ∷
    "29 ExchangeActions c2 g0 w0 p1@1{4,28,29} a0 v- y![28:1] r[4:1,29:1] o[] x{} b0" ∷
    "= 30" ∷
    "4 ExchangeActions c2 g0 w0 p1@1{4,28,29} a0 v- y![28:1] r[4:1,28:2] o[] x{} b0" ∷
    "= 32" ∷
    "29 ExchangeActions c2 g0 w0 p1@1{4,28,29} a0 v- y![28:1] r[4:1,28:2,29:1] o[] x{} b0" ∷
    "= 34" ∷
    "4 Construct c2 g0 w0 p1@1{4,28,29} a1 v2/1{4,28,29}{4} y![28:1] r[4:1,28:2,29:1] o[] x{} b0" ∷
    "= 35" ∷
    "28 Construct c2 g0 w0 p1@1{4,28,29} a1 v2/1{4,28,29}{28} y![28:1] r[4:1,28:2,29:1] o[] x{} b0" ∷
    "= 36" ∷
    "29 Construct c2 g0 w0 p1@1{4,28,29} a1 v2/1{4,28,29}{29} y![28:1] r[4:1,28:2,29:1] o[] x{} b0" ∷
    "= 38" ∷
    "order 1 28:1" ∷
    "order 2 4:1" ∷
    "order 3 28:2" ∷
    "order 4 29:1" ∷
    "4 RegPrim c2 g4 w0 p2@2{4,28,29} a0 v2/1{4,28,29}{4} y- r[] o[] x{28} b0" ∷
    "reply 4:1 done ? absent" ∷
    "= 39" ∷
    "28 RegPrim c2 g4 w0 p2@2{4,28,29} a0 v2/1{4,28,29}{28} y- r[] o[] x{28} b0" ∷
    "reply 28:1 done ? count 1" ∷
    "reply 28:2 done" ∷
    "= 40" ∷
    "29 RegPrim c2 g4 w0 p2@2{4,28,29} a0 v2/1{4,28,29}{29} y- r[] o[] x{28} b0" ∷
    "reply 29:1 done" ∷
    "= 41" ∷
    "made 28:3 join 2*5" ∷
    "28 RegPrim c2 g4 w0 p2@2{4,28,29} a0 v2/1{4,28,29}{28} y- r[] o[28:3] x{28} b0" ∷
    "= 43" ∷
    "order 5 28:3" ∷
    "4 RegPrim c2 g5 w0 p2@2{4,28,29} a0 v2/1{4,28,29}{4} y- r[] o[] x{28} b0" ∷
    "= 44" ∷
    "28 RegPrim c2 g5 w0 p2@2{4,28,29} a0 v2/1{4,28,29}{28} y- r[] o[] x{28} b0" ∷
    "reply 28:3 done" ∷
    "= 45" ∷
    "29 RegPrim c2 g5 w0 p2@2{4,28,29} a0 v2/1{4,28,29}{29} y- r[] o[] x{28} b0" ∷
    "= 47" ∷
    "1 NonPrim - g5 w0 p2@2{4,28,29} a0 v- y- r[] o[] x{28} b0" ∷
    "pieces 1 8/8" ∷
    "= 48" ∷
    "made 29:2 del \"b\"; inc \"a\" -2 ? get \"abc\"" ∷
    "29 RegPrim c2 g5 w0 p2@2{4,28,29} a0 v2/1{4,28,29}{29} y- r[] o[29:2] x{28} b0" ∷
    "= 49" ∷
    "1 ExchangeStates c3 g5 w0 p2@2{4,28,29} a0 v- y- r[] o[] x{28} b0" ∷
    "= 52" ∷
    "1 NonPrim c3 g5 w0 p2@2{4,28,29} a0 v- y- r[] o[] x{28} b0" ∷
    "= 53" ∷
    "order 6 29:2" ∷
    "4 RegPrim c2 g6 w0 p2@2{4,28,29} a0 v2/1{4,28,29}{4} y- r[] o[] x{28} b0" ∷
    "= 54" ∷
    "28 RegPrim c2 g6 w0 p2@2{4,28,29} a0 v2/1{4,28,29}{28} y- r[] o[] x{28} b0" ∷
    "= 55" ∷
    "29 RegPrim c2 g6 w0 p2@2{4,28,29} a0 v2/1{4,28,29}{29} y- r[] o[] x{28} b0" ∷
    "reply 29:2 done ? absent" ∷
    "= 58" ∷
    "made 28:4 join 3" ∷
    "28 RegPrim c2 g6 w0 p2@2{4,28,29} a0 v2/1{4,28,29}{28} y- r[] o[28:4] x{28} b0" ∷
    "= 59" ∷
    "pieces 2 2/9" ∷
    "= 60" ∷
    "pieces 2 5/8" ∷
    "= 61" ∷
    "sweak 2 absent at 5" ∷
    "= 64" ∷
    "order 7 28:4" ∷
    "4 RegPrim c2 g7 w0 p2@2{4,28,29} a0 v2/1{4,28,29}{4} y- r[] o[] x{28} b0" ∷
    "= 65" ∷
    "28 RegPrim c2 g7 w0 p2@2{4,28,29} a0 v2/1{4,28,29}{28} y- r[] o[] x{28} b0" ∷
    "reply 28:4 done" ∷
    "= 66" ∷
    "29 RegPrim c2 g7 w0 p2@2{4,28,29} a0 v2/1{4,28,29}{29} y- r[] o[] x{28} b0" ∷
    "= 70" ∷
    "made 29:3 ? count" ∷
    "29 RegPrim c2 g7 w0 p2@2{4,28,29} a0 v2/1{4,28,29}{29} y- r[] o[29:3] x{28} b0" ∷
    "= 72" ∷
    "order 8 29:3" ∷
    "4 RegPrim c2 g8 w0 p2@2{4,28,29} a0 v2/1{4,28,29}{4} y- r[] o[] x{28} b0" ∷
    "= 73" ∷
    "28 RegPrim c2 g8 w0 p2@2{4,28,29} a0 v2/1{4,28,29}{28} y- r[] o[] x{28} b0" ∷
    "= 74" ∷
    "29 RegPrim c2 g8 w0 p2@2{4,28,29} a0 v2/1{4,28,29}{29} y- r[] o[] x{28} b0" ∷
    "reply 29:3 done ? count 1" ∷
    "= 75" ∷
    "4 TransPrim t2 g8 w0 p2@2{4,28,29} a0 v2/1{4,28,29}{4} y- r[] o[] x{28} b0" ∷
    "28 TransPrim t2 g8 w0 p2@2{4,28,29} a0 v2/1{4,28,29}{28} y- r[] o[] x{28} b0" ∷
    "29 TransPrim t2 g8 w0 p2@2{4,28,29} a0 v2/1{4,28,29}{29} y- r[] o[] x{28} b0" ∷
    "= 76" ∷
    "1 NonPrim t3 g5 w0 p2@2{4,28,29} a0 v- y- r[] o[] x{28} b0" ∷
    "= 77" ∷
    "1 ExchangeStates c4 g5 w0 p2@2{4,28,29} a0 v- y- r[] o[] x{28} b0" ∷
    "4 ExchangeStates c4 g8 w0 p2@2{4,28,29} a0 v- y![] r[] o[] x{28} b0" ∷
    "28 ExchangeStates c4 g8 w0 p2@2{4,28,29} a0 v- y![] r[] o[] x{28} b0" ∷
    "29 ExchangeStates c4 g8 w0 p2@2{4,28,29} a0 v- y![] r[] o[] x{28} b0" ∷
    "end 78" ∷
    [])
unfolding cases_compute
generated_sessions_joiner_a = refl
