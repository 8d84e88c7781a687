-- Cases of cases/ with their whole reports, which `.ci/theorems` writes down here.
use Rattle.std.specs.Prelude.{◌≡◌, [], ◌∷◌}
use mathlib.Core.Path.{refl}
use Rattle.cg_run_cases.specs.Replaying.{put_by, written}
use Rattle.cg_run_cases.specs.Computing.{cases_compute}

-- Sessions: several sessions write.
generated_sessions_several_a :
    put_by "sessions" (
    "start 16 17 25" ∷
    "merge 16 17 25" ∷
    "gather" ∷
    "split 25" ∷
    "split 16 17" ∷
    "merge 16 17 25" ∷
    "split 16 17 25" ∷
    "merge 16 17 25" ∷
    "rounds 3" ∷
    "request 16 put \"y\" \"back\\\\slash\"" ∷
    "stop 16 3 01" ∷
    "request 17 cas \"ab\" 51 99" ∷
    "request 17 move \"z\" \"a\" 9" ∷
    "request 16 inc \"x\" 10" ∷
    "gather" ∷
    "split 17 25" ∷
    "merge 17 25" ∷
    "rounds 3" ∷
    "request 25 inc \"z\" 9223372036854775807" ∷
    "dirty 17 get \"abc\"" ∷
    "gather" ∷
    "request 17 put \"b\" 23" ∷
    "show 25" ∷
    "rounds 2" ∷
    "request 17 inc \"k1\" 4" ∷
    "session 1" ∷
    "sweak 1 17 get \"abc\"" ∷
    "show 17" ∷
    "request 25 ? get \"y\"" ∷
    "request 17 need \"ab\" absent; inc \"y\" 9223372036854775807 ? keys \"ab\"" ∷
    "request 17 inc \"abc\" 9" ∷
    "recover 16" ∷
    "gather" ∷
    "gather" ∷
    "deliver 17 1" ∷
    "deliver 25 1" ∷
    "session 30" ∷
    "deliver 25 3" ∷
    "swrite 1 17 del \"x\"; put \"a\" 56; put \"z\" \"back\\\\slash\"; move \"z\" \"y\" 3" ∷
    "leave 25 17" ∷
    "swrite 30 17 put \"z\" \"hi\" ? keys \"\"" ∷
    "split 17 25" ∷
    "merge 17 25" ∷
    "gather" ∷
    "end" ∷
    [])
    ≡ written (
    "= 1" ∷
    "16 NonPrim - g0 w0 p0@0{16,17,25} a0 v- y- r[] o[] x{} b0" ∷
    "17 NonPrim - g0 w0 p0@0{16,17,25} a0 v- y- r[] o[] x{} b0" ∷
    "25 NonPrim - g0 w0 p0@0{16,17,25} a0 v- y- r[] o[] x{} b0" ∷
    "= 2" ∷
    "16 ExchangeStates c1 g0 w0 p0@0{16,17,25} a0 v- y- r[] o[] x{} b0" ∷
    "17 ExchangeStates c1 g0 w0 p0@0{16,17,25} a0 v- y- r[] o[] x{} b0" ∷
    "25 ExchangeStates c1 g0 w0 p0@0{16,17,25} a0 v- y- r[] o[] x{} b0" ∷
    "= 4" ∷
    "25 NonPrim t1 g0 w0 p0@0{16,17,25} a0 v- y- r[] o[] x{} b0" ∷
    "= 5" ∷
    "16 NonPrim t1 g0 w0 p0@0{16,17,25} a0 v- y- r[] o[] x{} b0" ∷
    "17 NonPrim t1 g0 w0 p0@0{16,17,25} a0 v- y- r[] o[] x{} b0" ∷
    "= 6" ∷
    "16 ExchangeStates c2 g0 w0 p0@0{16,17,25} a0 v- y- r[] o[] x{} b0" ∷
    "17 ExchangeStates c2 g0 w0 p0@0{16,17,25} a0 v- y- r[] o[] x{} b0" ∷
    "25 ExchangeStates c2 g0 w0 p0@0{16,17,25} a0 v- y- r[] o[] x{} b0" ∷
    "= 7" ∷
    "16 NonPrim t2 g0 w0 p0@0{16,17,25} a0 v- y- r[] o[] x{} b0" ∷
    "17 NonPrim t2 g0 w0 p0@0{16,17,25} a0 v- y- r[] o[] x{} b0" ∷
    "25 NonPrim t2 g0 w0 p0@0{16,17,25} a0 v- y- r[] o[] x{} b0" ∷
    "= 8" ∷
    "16 ExchangeStates c3 g0 w0 p0@0{16,17,25} a0 v- y- r[] o[] x{} b0" ∷
    "17 ExchangeStates c3 g0 w0 p0@0{16,17,25} a0 v- y- r[] o[] x{} b0" ∷
    "25 ExchangeStates c3 g0 w0 p0@0{16,17,25} a0 v- y- r[] o[] x{} b0" ∷
    "= 10" ∷
    "16 Construct c3 g0 w0 p0@0{16,17,25} a1 v3/0{16,17,25}{16} y- r[] o[] x{} b0" ∷
    "= 11" ∷
    "17 Construct c3 g0 w0 p0@0{16,17,25} a1 v3/0{16,17,25}{17} y- r[] o[] x{} b0" ∷
    "= 12" ∷
    "25 Construct c3 g0 w0 p0@0{16,17,25} a1 v3/0{16,17,25}{25} y- r[] o[] x{} b0" ∷
    "= 14" ∷
    "16 RegPrim c3 g0 w0 p1@3{16,17,25} a0 v3/0{16,17,25}{16} y- r[] o[] x{} b0" ∷
    "= 15" ∷
    "17 RegPrim c3 g0 w0 p1@3{16,17,25} a0 v3/0{16,17,25}{17} y- r[] o[] x{} b0" ∷
    "= 16" ∷
    "25 RegPrim c3 g0 w0 p1@3{16,17,25} a0 v3/0{16,17,25}{25} y- r[] o[] x{} b0" ∷
    "= 18" ∷
    "made 16:1 put \"y\" \"back\\\\slash\"" ∷
    "16 RegPrim c3 g0 w0 p1@3{16,17,25} a0 v3/0{16,17,25}{16} y- r[] o[16:1] x{} b0" ∷
    "= 20" ∷
    "made 17:1 cas \"ab\" 51 99" ∷
    "17 RegPrim c3 g0 w0 p1@3{16,17,25} a0 v3/0{16,17,25}{17} y- r[] o[17:1] x{} b0" ∷
    "= 21" ∷
    "made 17:2 move \"z\" \"a\" 9" ∷
    "17 RegPrim c3 g0 w0 p1@3{16,17,25} a0 v3/0{16,17,25}{17} y- r[] o[17:1,17:2] x{} b0" ∷
    "= 22" ∷
    "16 Down" ∷
    "= 24" ∷
    "17 TransPrim t3 g0 w0 p1@3{16,17,25} a0 v3/0{16,17,25}{17} y?[17:1,17:2] r[] o[] x{} b0" ∷
    "25 TransPrim t3 g0 w0 p1@3{16,17,25} a0 v3/0{16,17,25}{25} y?[17:1,17:2] r[] o[] x{} b0" ∷
    "= 25" ∷
    "17 ExchangeStates c4 g0 w0 p1@3{16,17,25} a0 v- y![17:1,17:2] r[] o[] x{} b0" ∷
    "25 ExchangeStates c4 g0 w0 p1@3{16,17,25} a0 v- y![17:1,17:2] r[] o[] x{} b0" ∷
    "= 27" ∷
    "17 Construct c4 g0 w0 p1@3{16,17,25} a1 v4/1{17,25}{17} y![17:1,17:2] r[] o[] x{} b0" ∷
    "= 28" ∷
    "25 Construct c4 g0 w0 p1@3{16,17,25} a1 v4/1{17,25}{25} y![17:1,17:2] r[] o[] x{} b0" ∷
    "= 30" ∷
    "order 1 17:1" ∷
    "order 2 17:2" ∷
    "17 RegPrim c4 g2 w0 p2@4{17,25} a0 v4/1{17,25}{17} y- r[] o[] x{} b0" ∷
    "reply 17:1 done" ∷
    "reply 17:2 aborted 1" ∷
    "= 31" ∷
    "25 RegPrim c4 g2 w0 p2@4{17,25} a0 v4/1{17,25}{25} y- r[] o[] x{} b0" ∷
    "= 33" ∷
    "made 25:1 inc \"z\" 9223372036854775807" ∷
    "25 RegPrim c4 g2 w0 p2@4{17,25} a0 v4/1{17,25}{25} y- r[] o[25:1] x{} b0" ∷
    "= 34" ∷
    "dirty 17 absent" ∷
    "= 36" ∷
    "made 17:3 put \"b\" 23" ∷
    "17 RegPrim c4 g2 w0 p2@4{17,25} a0 v4/1{17,25}{17} y- r[] o[17:3] x{} b0" ∷
    "= 37" ∷
    "greens 25 [17:1,17:2]" ∷
    "db 25" ∷
    "= 39" ∷
    "order 3 25:1" ∷
    "order 4 17:3" ∷
    "17 RegPrim c4 g4 w0 p2@4{17,25} a0 v4/1{17,25}{17} y- r[] o[] x{} b0" ∷
    "reply 17:3 done" ∷
    "= 40" ∷
    "25 RegPrim c4 g4 w0 p2@4{17,25} a0 v4/1{17,25}{25} y- r[] o[] x{} b0" ∷
    "reply 25:1 done" ∷
    "= 42" ∷
    "made 17:4 inc \"k1\" 4" ∷
    "17 RegPrim c4 g4 w0 p2@4{17,25} a0 v4/1{17,25}{17} y- r[] o[17:4] x{} b0" ∷
    "= 44" ∷
    "sweak 1 absent at 4" ∷
    "= 45" ∷
    "greens 17 [17:1,17:2,25:1,17:3]" ∷
    "db 17 \"b\"=23 \"z\"=9223372036854775807" ∷
    "= 46" ∷
    "made 25:2 ? get \"y\"" ∷
    "25 RegPrim c4 g4 w0 p2@4{17,25} a0 v4/1{17,25}{25} y- r[] o[25:2] x{} b0" ∷
    "= 47" ∷
    "made 17:5 need \"ab\" absent; inc \"y\" 9223372036854775807 ? keys \"ab\"" ∷
    "17 RegPrim c4 g4 w0 p2@4{17,25} a0 v4/1{17,25}{17} y- r[] o[17:4,17:5] x{} b0" ∷
    "= 48" ∷
    "made 17:6 inc \"abc\" 9" ∷
    "17 RegPrim c4 g4 w0 p2@4{17,25} a0 v4/1{17,25}{17} y- r[] o[17:4,17:5,17:6] x{} b0" ∷
    "= 49" ∷
    "made 16:2 inc \"x\" 10" ∷
    "16 NonPrim - g0 w0 p1@3{16,17,25} a0 v3/0{16,17,25}{16} y- r[16:1,16:2] o[] x{} b0" ∷
    "= 52" ∷
    "order 5 17:4" ∷
    "17 RegPrim c4 g5 w0 p2@4{17,25} a0 v4/1{17,25}{17} y- r[] o[17:5,17:6] x{} b0" ∷
    "reply 17:4 done" ∷
    "= 53" ∷
    "25 RegPrim c4 g5 w0 p2@4{17,25} a0 v4/1{17,25}{25} y- r[] o[25:2] x{} b0" ∷
    "= 55" ∷
    "order 6 17:5" ∷
    "order 7 17:6" ∷
    "order 8 25:2" ∷
    "25 RegPrim c4 g8 w0 p2@4{17,25} a0 v4/1{17,25}{25} y- r[] o[] x{} b0" ∷
    "reply 25:2 done ? 9223372036854775807" ∷
    "= 56" ∷
    "made 17:7 del \"x\"; put \"a\" 56; put \"z\" \"back\\\\slash\"; move \"z\" \"y\" 3" ∷
    "17 RegPrim c4 g5 w0 p2@4{17,25} a0 v4/1{17,25}{17} y- r[] o[17:5,17:6,17:7] x{} b0" ∷
    "session 1 wrote 17:7" ∷
    "= 57" ∷
    "made 25:3 leave 17" ∷
    "25 RegPrim c4 g8 w0 p2@4{17,25} a0 v4/1{17,25}{25} y- r[] o[25:3] x{} b0" ∷
    "= 58" ∷
    "made 17:8 put \"z\" \"hi\" ? keys \"\"" ∷
    "17 RegPrim c4 g5 w0 p2@4{17,25} a0 v4/1{17,25}{17} y- r[] o[17:5,17:6,17:7,17:8] x{} b0" ∷
    "session 30 wrote 17:8" ∷
    "= 59" ∷
    "17 TransPrim t4 g8 w0 p2@4{17,25} a0 v4/1{17,25}{17} y- r[] o[17:7,17:8] x{} b0" ∷
    "25 TransPrim t4 g8 w0 p2@4{17,25} a0 v4/1{17,25}{25} y- r[] o[25:3] x{} b0" ∷
    "reply 17:5 done ? keys" ∷
    "reply 17:6 done" ∷
    "= 60" ∷
    "17 ExchangeStates c5 g8 w0 p2@4{17,25} a0 v- y![] r[17:7,17:8] o[] x{} b0" ∷
    "25 ExchangeStates c5 g8 w0 p2@4{17,25} a0 v- y![] r[25:3] o[] x{} b0" ∷
    "end 61" ∷
    [])
unfolding cases_compute
generated_sessions_several_a = refl

-- Sessions: a write is struck.
generated_sessions_struck_write_a :
    put_by "sessions" (
    "start 1 2" ∷
    "merge 1 2" ∷
    "rounds 3" ∷
    "gather" ∷
    "show 2" ∷
    "fail 2 8" ∷
    "fail 1 12" ∷
    "gather" ∷
    "session 2" ∷
    "stop 1 5 01" ∷
    "swrite 2 2 put \"z\" 94" ∷
    "swrite 2 2 move \"a\" \"b\" 0" ∷
    "recover 2" ∷
    "sweak 2 1 get \"ab\"" ∷
    "session 1" ∷
    "request 1 ? keys \"a\"" ∷
    "split 1" ∷
    "merge 1" ∷
    "merge 2" ∷
    "recover 1" ∷
    "gather" ∷
    "request 2 need \"a\" absent; inc \"y\" 9" ∷
    "gather" ∷
    "deliver 2 1" ∷
    "sweak 2 1 get \"a\"" ∷
    "rounds 2" ∷
    "request 2 del \"x\"" ∷
    "show order" ∷
    "stop 1 4 0101" ∷
    "order 2" ∷
    "request 1 move \"x\" \"x\" 1; put \"z\" 26" ∷
    "deliver 2 1" ∷
    "request 1 del \"y\"; inc \"abc\" -3; inc \"z\" -1; put \"y\" 95" ∷
    "request 2 inc \"a\" -3" ∷
    "end" ∷
    [])
    ≡ written (
    "= 1" ∷
    "1 NonPrim - g0 w0 p0@0{1,2} a0 v- y- r[] o[] x{} b0" ∷
    "2 NonPrim - g0 w0 p0@0{1,2} a0 v- y- r[] o[] x{} b0" ∷
    "= 2" ∷
    "1 ExchangeStates c1 g0 w0 p0@0{1,2} a0 v- y- r[] o[] x{} b0" ∷
    "2 ExchangeStates c1 g0 w0 p0@0{1,2} a0 v- y- r[] o[] x{} b0" ∷
    "= 4" ∷
    "1 Construct c1 g0 w0 p0@0{1,2} a1 v1/0{1,2}{1} y- r[] o[] x{} b0" ∷
    "= 5" ∷
    "2 Construct c1 g0 w0 p0@0{1,2} a1 v1/0{1,2}{2} y- r[] o[] x{} b0" ∷
    "= 7" ∷
    "1 RegPrim c1 g0 w0 p1@1{1,2} a0 v1/0{1,2}{1} y- r[] o[] x{} b0" ∷
    "= 8" ∷
    "2 RegPrim c1 g0 w0 p1@1{1,2} a0 v1/0{1,2}{2} y- r[] o[] x{} b0" ∷
    "= 11" ∷
    "greens 2 []" ∷
    "db 2" ∷
    "= 17" ∷
    "made 2:1 put \"z\" 94" ∷
    "2 RegPrim c1 g0 w0 p1@1{1,2} a0 v1/0{1,2}{2} y- r[] o[2:1] x{} b0" ∷
    "session 2 wrote 2:1" ∷
    "= 18" ∷
    "2 Down" ∷
    "= 19" ∷
    "made 2:2 move \"a\" \"b\" 0" ∷
    "2 NonPrim - g0 w0 p1@1{1,2} a0 v1/0{1,2}{2} y- r[2:1,2:2] o[] x{} b0" ∷
    "= 20" ∷
    "sweak 2 absent at 0" ∷
    "= 22" ∷
    "made 1:1 ? keys \"a\"" ∷
    "1 RegPrim c1 g0 w0 p1@1{1,2} a0 v1/0{1,2}{1} y- r[] o[1:1] x{} b0" ∷
    "= 23" ∷
    "1 TransPrim t1 g0 w0 p1@1{1,2} a0 v1/0{1,2}{1} y- r[] o[1:1] x{} b0" ∷
    "= 24" ∷
    "1 Down" ∷
    "= 25" ∷
    "2 ExchangeStates c3 g0 w0 p1@1{1,2} a0 v1/0{1,2}{2} y- r[2:1,2:2] o[] x{} b0" ∷
    "= 26" ∷
    "1 NonPrim - g0 w0 p1@1{1,2} a0 v1/0{1,2}{1} y- r[1:1] o[] x{} b0" ∷
    "= 28" ∷
    "2 ExchangeStates c3 g0 w0 p1@1{1,2} a0 v1/0{1,2}{2} y- r[2:1,2:2] o[] x{} b1" ∷
    "= 30" ∷
    "made 2:3 need \"a\" absent; inc \"y\" 9" ∷
    "2 NonPrim c3 g0 w0 p1@1{1,2} a0 v1/0{1,2}{2} y- r[2:1,2:2] o[2:3] x{} b0" ∷
    "= 31" ∷
    "sweak 2 absent at 0" ∷
    "= 33" ∷
    "2 NonPrim c3 g0 w0 p1@1{1,2} a0 v1/0{1,2}{2} y- r[2:1,2:2,2:3] o[] x{} b0" ∷
    "= 35" ∷
    "made 2:4 del \"x\"" ∷
    "2 NonPrim c3 g0 w0 p1@1{1,2} a0 v1/0{1,2}{2} y- r[2:1,2:2,2:3] o[2:4] x{} b0" ∷
    "= 36" ∷
    "all []" ∷
    "= 39" ∷
    "1 NonPrim - g0 w0 p1@1{1,2} a0 v1/0{1,2}{1} y- r[1:1] o[] x{} b1" ∷
    "= 40" ∷
    "2 NonPrim c3 g0 w0 p1@1{1,2} a0 v1/0{1,2}{2} y- r[2:1,2:2,2:3,2:4] o[] x{} b0" ∷
    "= 41" ∷
    "1 NonPrim - g0 w0 p1@1{1,2} a0 v1/0{1,2}{1} y- r[1:1] o[] x{} b2" ∷
    "= 42" ∷
    "made 2:5 inc \"a\" -3" ∷
    "2 NonPrim c3 g0 w0 p1@1{1,2} a0 v1/0{1,2}{2} y- r[2:1,2:2,2:3,2:4] o[2:5] x{} b0" ∷
    "end 42" ∷
    [])
unfolding cases_compute
generated_sessions_struck_write_a = refl

-- A read at a replica behind the token says so and changes nothing; once the replica has caught up it is answered.
sessions_behind_and_no_more :
    put_by "sessions" (
    "start 1 2 3" ∷
    "merge 1 2 3" ∷
    "rounds 2" ∷
    "session 4" ∷
    "swrite 4 1 put \"x\" 1" ∷
    "swrite 4 1 put \"x\" 2" ∷
    "gather" ∷
    "deliver 1 2" ∷
    "sweak 4 2 get \"x\"" ∷
    "deliver 2 1" ∷
    "sweak 4 2 get \"x\"" ∷
    "sweak 4 3 get \"x\"" ∷
    "deliver 2 1" ∷
    "sweak 4 2 get \"x\"" ∷
    "sweak 4 3 get \"x\"" ∷
    "deliver 3 2" ∷
    "sweak 4 3 get \"x\"" ∷
    "end" ∷
    [])
    ≡ written (
    "= 1" ∷
    "1 NonPrim - g0 w0 p0@0{1,2,3} a0 v- y- r[] o[] x{} b0" ∷
    "2 NonPrim - g0 w0 p0@0{1,2,3} a0 v- y- r[] o[] x{} b0" ∷
    "3 NonPrim - g0 w0 p0@0{1,2,3} a0 v- y- r[] o[] x{} b0" ∷
    "= 2" ∷
    "1 ExchangeStates c1 g0 w0 p0@0{1,2,3} a0 v- y- r[] o[] x{} b0" ∷
    "2 ExchangeStates c1 g0 w0 p0@0{1,2,3} a0 v- y- r[] o[] x{} b0" ∷
    "3 ExchangeStates c1 g0 w0 p0@0{1,2,3} a0 v- y- r[] o[] x{} b0" ∷
    "= 4" ∷
    "1 Construct c1 g0 w0 p0@0{1,2,3} a1 v1/0{1,2,3}{1} y- r[] o[] x{} b0" ∷
    "= 5" ∷
    "2 Construct c1 g0 w0 p0@0{1,2,3} a1 v1/0{1,2,3}{2} y- r[] o[] x{} b0" ∷
    "= 6" ∷
    "3 Construct c1 g0 w0 p0@0{1,2,3} a1 v1/0{1,2,3}{3} y- r[] o[] x{} b0" ∷
    "= 8" ∷
    "1 RegPrim c1 g0 w0 p1@1{1,2,3} a0 v1/0{1,2,3}{1} y- r[] o[] x{} b0" ∷
    "= 9" ∷
    "2 RegPrim c1 g0 w0 p1@1{1,2,3} a0 v1/0{1,2,3}{2} y- r[] o[] x{} b0" ∷
    "= 10" ∷
    "3 RegPrim c1 g0 w0 p1@1{1,2,3} a0 v1/0{1,2,3}{3} y- r[] o[] x{} b0" ∷
    "= 12" ∷
    "made 1:1 put \"x\" 1" ∷
    "1 RegPrim c1 g0 w0 p1@1{1,2,3} a0 v1/0{1,2,3}{1} y- r[] o[1:1] x{} b0" ∷
    "session 4 wrote 1:1" ∷
    "= 13" ∷
    "made 1:2 put \"x\" 2" ∷
    "1 RegPrim c1 g0 w0 p1@1{1,2,3} a0 v1/0{1,2,3}{1} y- r[] o[1:1,1:2] x{} b0" ∷
    "session 4 wrote 1:2" ∷
    "= 15" ∷
    "order 1 1:1" ∷
    "order 2 1:2" ∷
    "1 RegPrim c1 g2 w0 p1@1{1,2,3} a0 v1/0{1,2,3}{1} y- r[] o[] x{} b0" ∷
    "reply 1:1 done" ∷
    "reply 1:2 done" ∷
    "session 4 at 1" ∷
    "session 4 at 2" ∷
    "= 16" ∷
    "sweak 4 behind 0 2" ∷
    "= 17" ∷
    "2 RegPrim c1 g1 w0 p1@1{1,2,3} a0 v1/0{1,2,3}{2} y- r[] o[] x{} b0" ∷
    "= 18" ∷
    "sweak 4 behind 1 2" ∷
    "= 19" ∷
    "sweak 4 behind 0 2" ∷
    "= 20" ∷
    "2 RegPrim c1 g2 w0 p1@1{1,2,3} a0 v1/0{1,2,3}{2} y- r[] o[] x{} b0" ∷
    "= 21" ∷
    "sweak 4 2 at 2" ∷
    "= 22" ∷
    "sweak 4 behind 0 2" ∷
    "= 23" ∷
    "3 RegPrim c1 g2 w0 p1@1{1,2,3} a0 v1/0{1,2,3}{3} y- r[] o[] x{} b0" ∷
    "= 24" ∷
    "sweak 4 2 at 2" ∷
    "end 24" ∷
    [])
unfolding cases_compute
sessions_behind_and_no_more = refl

-- Sessions beside disks of the older format and recoveries that are stopped.
sessions_beside_old_disks_a :
    put_by "sessions" (
    "start 1 2" ∷
    "merge 1 2" ∷
    "rounds 2" ∷
    "split 1" ∷
    "session 1" ∷
    "request 2 put \"x\" 9" ∷
    "rounds 1" ∷
    "swrite 1 2 inc \"x\" 3" ∷
    "stop 2 2 01" ∷
    "sweak 1 2 get \"x\"" ∷
    "request 2 put \"x\" 2" ∷
    "sweak 1 1 count" ∷
    "downgrade 2" ∷
    "sweak 1 1 count" ∷
    "recover 2 15 -" ∷
    "recover 2" ∷
    "merge 1 2" ∷
    "sweak 1 1 get \"x\"" ∷
    "split 1" ∷
    "stop 1 0 -" ∷
    "rounds 1" ∷
    "end" ∷
    [])
    ≡ written (
    "= 1" ∷
    "1 NonPrim - g0 w0 p0@0{1,2} a0 v- y- r[] o[] x{} b0" ∷
    "2 NonPrim - g0 w0 p0@0{1,2} a0 v- y- r[] o[] x{} b0" ∷
    "= 2" ∷
    "1 ExchangeStates c1 g0 w0 p0@0{1,2} a0 v- y- r[] o[] x{} b0" ∷
    "2 ExchangeStates c1 g0 w0 p0@0{1,2} a0 v- y- r[] o[] x{} b0" ∷
    "= 4" ∷
    "1 Construct c1 g0 w0 p0@0{1,2} a1 v1/0{1,2}{1} y- r[] o[] x{} b0" ∷
    "= 5" ∷
    "2 Construct c1 g0 w0 p0@0{1,2} a1 v1/0{1,2}{2} y- r[] o[] x{} b0" ∷
    "= 7" ∷
    "1 RegPrim c1 g0 w0 p1@1{1,2} a0 v1/0{1,2}{1} y- r[] o[] x{} b0" ∷
    "= 8" ∷
    "2 RegPrim c1 g0 w0 p1@1{1,2} a0 v1/0{1,2}{2} y- r[] o[] x{} b0" ∷
    "= 9" ∷
    "1 TransPrim t1 g0 w0 p1@1{1,2} a0 v1/0{1,2}{1} y- r[] o[] x{} b0" ∷
    "= 11" ∷
    "made 2:1 put \"x\" 9" ∷
    "2 RegPrim c1 g0 w0 p1@1{1,2} a0 v1/0{1,2}{2} y- r[] o[2:1] x{} b0" ∷
    "= 13" ∷
    "made 2:2 inc \"x\" 3" ∷
    "2 RegPrim c1 g0 w0 p1@1{1,2} a0 v1/0{1,2}{2} y- r[] o[2:1,2:2] x{} b0" ∷
    "session 1 wrote 2:2" ∷
    "= 15" ∷
    "sweak 1 absent at 0" ∷
    "= 16" ∷
    "2 Down" ∷
    "= 17" ∷
    "sweak 1 count 0 at 0" ∷
    "= 19" ∷
    "sweak 1 count 0 at 0" ∷
    "= 21" ∷
    "2 NonPrim - g0 w0 p1@1{1,2} a0 v1/0{1,2}{2} y- r[2:1,2:2] o[] x{} b0" ∷
    "= 22" ∷
    "1 ExchangeStates c2 g0 w0 p1@1{1,2} a0 v- y![] r[] o[] x{} b0" ∷
    "2 ExchangeStates c2 g0 w0 p1@1{1,2} a0 v1/0{1,2}{2} y- r[2:1,2:2] o[] x{} b0" ∷
    "= 23" ∷
    "sweak 1 absent at 0" ∷
    "= 24" ∷
    "1 NonPrim t2 g0 w0 p1@1{1,2} a0 v- y![] r[] o[] x{} b0" ∷
    "= 25" ∷
    "1 Down" ∷
    "end 26" ∷
    [])
unfolding cases_compute
sessions_beside_old_disks_a = refl

-- Sessions beside disks of the older format and recoveries that are stopped.
sessions_beside_old_disks_b :
    put_by "sessions" (
    "start 1" ∷
    "merge 1" ∷
    "rounds 2" ∷
    "rounds 1" ∷
    "session 1" ∷
    "rounds 1" ∷
    "swrite 1 1 inc \"x\" 3" ∷
    "rounds 1" ∷
    "session 2" ∷
    "sweak 1 1 count" ∷
    "stop 1 2 01" ∷
    "request 1 inc \"x\" 6" ∷
    "recover 1 12 01" ∷
    "sweak 1 1 count" ∷
    "sweak 1 1 count" ∷
    "request 1 put \"x\" 9" ∷
    "sweak 1 1 get \"x\"" ∷
    "stop 1 0 -" ∷
    "downgrade 1" ∷
    "recover 1" ∷
    "merge 1" ∷
    "sweak 2 1 count" ∷
    "stop 1 0 01" ∷
    "end" ∷
    [])
    ≡ written (
    "= 1" ∷
    "1 NonPrim - g0 w0 p0@0{1} a0 v- y- r[] o[] x{} b0" ∷
    "= 2" ∷
    "1 ExchangeStates c1 g0 w0 p0@0{1} a0 v- y- r[] o[] x{} b0" ∷
    "= 4" ∷
    "1 Construct c1 g0 w0 p0@0{1} a1 v1/0{1}{1} y- r[] o[] x{} b0" ∷
    "= 6" ∷
    "1 RegPrim c1 g0 w0 p1@1{1} a0 v1/0{1}{1} y- r[] o[] x{} b0" ∷
    "= 10" ∷
    "made 1:1 inc \"x\" 3" ∷
    "1 RegPrim c1 g0 w0 p1@1{1} a0 v1/0{1}{1} y- r[] o[1:1] x{} b0" ∷
    "session 1 wrote 1:1" ∷
    "= 12" ∷
    "order 1 1:1" ∷
    "1 RegPrim c1 g1 w0 p1@1{1} a0 v1/0{1}{1} y- r[] o[] x{} b0" ∷
    "reply 1:1 done" ∷
    "session 1 at 1" ∷
    "= 14" ∷
    "sweak 1 count 1 at 1" ∷
    "= 16" ∷
    "1 Down" ∷
    "= 17" ∷
    "1 NonPrim - g1 w0 p1@1{1} a0 v1/0{1}{1} y- r[] o[] x{} b0" ∷
    "= 18" ∷
    "sweak 1 count 1 at 1" ∷
    "= 19" ∷
    "sweak 1 count 1 at 1" ∷
    "= 20" ∷
    "1 NonPrim - g1 w0 p1@1{1} a0 v1/0{1}{1} y- r[] o[] x{} b1" ∷
    "= 21" ∷
    "sweak 1 3 at 1" ∷
    "= 22" ∷
    "1 Down" ∷
    "= 24" ∷
    "1 NonPrim - g1 w0 p1@1{1} a0 v1/0{1}{1} y- r[] o[] x{} b0" ∷
    "= 25" ∷
    "1 ExchangeStates c2 g1 w0 p1@1{1} a0 v1/0{1}{1} y- r[] o[] x{} b0" ∷
    "= 26" ∷
    "sweak 2 count 1 at 1" ∷
    "= 27" ∷
    "1 Down" ∷
    "end 27" ∷
    [])
unfolding cases_compute
sessions_beside_old_disks_b = refl

-- Sessions beside disks of the older format and recoveries that are stopped.
sessions_beside_old_disks_c :
    put_by "sessions" (
    "start 1 2" ∷
    "merge 1 2" ∷
    "rounds 2" ∷
    "request 1 inc \"x\" 4" ∷
    "stop 2 0 -" ∷
    "recover 2" ∷
    "split 1" ∷
    "stop 1 0 -" ∷
    "session 2" ∷
    "recover 1 6 -" ∷
    "stop 1 0 01" ∷
    "sweak 2 2 count" ∷
    "downgrade 1" ∷
    "recover 1" ∷
    "merge 1 2" ∷
    "rounds 1" ∷
    "session 1" ∷
    "request 2 inc \"x\" 3" ∷
    "end" ∷
    [])
    ≡ written (
    "= 1" ∷
    "1 NonPrim - g0 w0 p0@0{1,2} a0 v- y- r[] o[] x{} b0" ∷
    "2 NonPrim - g0 w0 p0@0{1,2} a0 v- y- r[] o[] x{} b0" ∷
    "= 2" ∷
    "1 ExchangeStates c1 g0 w0 p0@0{1,2} a0 v- y- r[] o[] x{} b0" ∷
    "2 ExchangeStates c1 g0 w0 p0@0{1,2} a0 v- y- r[] o[] x{} b0" ∷
    "= 4" ∷
    "1 Construct c1 g0 w0 p0@0{1,2} a1 v1/0{1,2}{1} y- r[] o[] x{} b0" ∷
    "= 5" ∷
    "2 Construct c1 g0 w0 p0@0{1,2} a1 v1/0{1,2}{2} y- r[] o[] x{} b0" ∷
    "= 7" ∷
    "1 RegPrim c1 g0 w0 p1@1{1,2} a0 v1/0{1,2}{1} y- r[] o[] x{} b0" ∷
    "= 8" ∷
    "2 RegPrim c1 g0 w0 p1@1{1,2} a0 v1/0{1,2}{2} y- r[] o[] x{} b0" ∷
    "= 9" ∷
    "made 1:1 inc \"x\" 4" ∷
    "1 RegPrim c1 g0 w0 p1@1{1,2} a0 v1/0{1,2}{1} y- r[] o[1:1] x{} b0" ∷
    "= 10" ∷
    "2 Down" ∷
    "= 11" ∷
    "2 NonPrim - g0 w0 p1@1{1,2} a0 v1/0{1,2}{2} y- r[] o[] x{} b0" ∷
    "= 12" ∷
    "1 TransPrim t1 g0 w0 p1@1{1,2} a0 v1/0{1,2}{1} y- r[] o[1:1] x{} b0" ∷
    "= 13" ∷
    "1 Down" ∷
    "= 15" ∷
    "1 NonPrim - g0 w0 p1@1{1,2} a0 v1/0{1,2}{1} y- r[1:1] o[] x{} b0" ∷
    "= 16" ∷
    "1 Down" ∷
    "= 17" ∷
    "sweak 2 count 0 at 0" ∷
    "= 19" ∷
    "1 NonPrim - g0 w0 p1@1{1,2} a0 v1/0{1,2}{1} y- r[1:1] o[] x{} b0" ∷
    "= 20" ∷
    "1 ExchangeStates c2 g0 w0 p1@1{1,2} a0 v1/0{1,2}{1} y- r[1:1] o[] x{} b0" ∷
    "2 ExchangeStates c2 g0 w0 p1@1{1,2} a0 v1/0{1,2}{2} y- r[] o[] x{} b0" ∷
    "= 22" ∷
    "1 ExchangeActions c2 g0 w0 p1@1{1,2} a0 v1/0{1,2}{1} y- r[1:1] o[] x{} b0" ∷
    "= 23" ∷
    "2 ExchangeActions c2 g0 w0 p1@1{1,2} a0 v1/0{1,2}{2} y- r[] o[] x{} b0" ∷
    "= 25" ∷
    "2 ExchangeActions c2 g0 w0 p1@1{1,2} a0 v1/0{1,2}{2} y- r[] o[] x{} b1" ∷
    "end 25" ∷
    [])
unfolding cases_compute
sessions_beside_old_disks_c = refl

-- A session is opened, writes and reads; its token goes up with its replies and its reads.
sessions_each_word :
    put_by "sessions" (
    "start 1 2 3" ∷
    "merge 1 2 3" ∷
    "rounds 2" ∷
    "session 1" ∷
    "sweak 1 1 get \"x\"" ∷
    "swrite 1 1 put \"x\" 1 ? get \"x\"" ∷
    "sweak 1 1 get \"x\"" ∷
    "rounds 1" ∷
    "sweak 1 2 get \"x\"" ∷
    "swrite 1 3 ? count" ∷
    "rounds 1" ∷
    "sweak 1 3 keys \"\"" ∷
    "sweak 1 1 count" ∷
    "end" ∷
    [])
    ≡ written (
    "= 1" ∷
    "1 NonPrim - g0 w0 p0@0{1,2,3} a0 v- y- r[] o[] x{} b0" ∷
    "2 NonPrim - g0 w0 p0@0{1,2,3} a0 v- y- r[] o[] x{} b0" ∷
    "3 NonPrim - g0 w0 p0@0{1,2,3} a0 v- y- r[] o[] x{} b0" ∷
    "= 2" ∷
    "1 ExchangeStates c1 g0 w0 p0@0{1,2,3} a0 v- y- r[] o[] x{} b0" ∷
    "2 ExchangeStates c1 g0 w0 p0@0{1,2,3} a0 v- y- r[] o[] x{} b0" ∷
    "3 ExchangeStates c1 g0 w0 p0@0{1,2,3} a0 v- y- r[] o[] x{} b0" ∷
    "= 4" ∷
    "1 Construct c1 g0 w0 p0@0{1,2,3} a1 v1/0{1,2,3}{1} y- r[] o[] x{} b0" ∷
    "= 5" ∷
    "2 Construct c1 g0 w0 p0@0{1,2,3} a1 v1/0{1,2,3}{2} y- r[] o[] x{} b0" ∷
    "= 6" ∷
    "3 Construct c1 g0 w0 p0@0{1,2,3} a1 v1/0{1,2,3}{3} y- r[] o[] x{} b0" ∷
    "= 8" ∷
    "1 RegPrim c1 g0 w0 p1@1{1,2,3} a0 v1/0{1,2,3}{1} y- r[] o[] x{} b0" ∷
    "= 9" ∷
    "2 RegPrim c1 g0 w0 p1@1{1,2,3} a0 v1/0{1,2,3}{2} y- r[] o[] x{} b0" ∷
    "= 10" ∷
    "3 RegPrim c1 g0 w0 p1@1{1,2,3} a0 v1/0{1,2,3}{3} y- r[] o[] x{} b0" ∷
    "= 12" ∷
    "sweak 1 absent at 0" ∷
    "= 13" ∷
    "made 1:1 put \"x\" 1 ? get \"x\"" ∷
    "1 RegPrim c1 g0 w0 p1@1{1,2,3} a0 v1/0{1,2,3}{1} y- r[] o[1:1] x{} b0" ∷
    "session 1 wrote 1:1" ∷
    "= 14" ∷
    "sweak 1 absent at 0" ∷
    "= 16" ∷
    "order 1 1:1" ∷
    "1 RegPrim c1 g1 w0 p1@1{1,2,3} a0 v1/0{1,2,3}{1} y- r[] o[] x{} b0" ∷
    "reply 1:1 done ? 1" ∷
    "session 1 at 1" ∷
    "= 17" ∷
    "2 RegPrim c1 g1 w0 p1@1{1,2,3} a0 v1/0{1,2,3}{2} y- r[] o[] x{} b0" ∷
    "= 18" ∷
    "3 RegPrim c1 g1 w0 p1@1{1,2,3} a0 v1/0{1,2,3}{3} y- r[] o[] x{} b0" ∷
    "= 19" ∷
    "sweak 1 1 at 1" ∷
    "= 20" ∷
    "made 3:1 ? count" ∷
    "3 RegPrim c1 g1 w0 p1@1{1,2,3} a0 v1/0{1,2,3}{3} y- r[] o[3:1] x{} b0" ∷
    "session 1 wrote 3:1" ∷
    "= 22" ∷
    "order 2 3:1" ∷
    "1 RegPrim c1 g2 w0 p1@1{1,2,3} a0 v1/0{1,2,3}{1} y- r[] o[] x{} b0" ∷
    "= 23" ∷
    "2 RegPrim c1 g2 w0 p1@1{1,2,3} a0 v1/0{1,2,3}{2} y- r[] o[] x{} b0" ∷
    "= 24" ∷
    "3 RegPrim c1 g2 w0 p1@1{1,2,3} a0 v1/0{1,2,3}{3} y- r[] o[] x{} b0" ∷
    "reply 3:1 done ? count 1" ∷
    "session 1 at 2" ∷
    "= 25" ∷
    "sweak 1 keys \"x\" at 2" ∷
    "= 26" ∷
    "sweak 1 count 1 at 2" ∷
    "end 26" ∷
    [])
unfolding cases_compute
sessions_each_word = refl

-- A read has raised the token past the place of a reply that comes later, so that reply raises nothing.
sessions_read_goes_past_a_reply :
    put_by "sessions" (
    "start 1 2 3" ∷
    "merge 1 2 3" ∷
    "rounds 2" ∷
    "session 2" ∷
    "swrite 2 1 put \"x\" 1" ∷
    "request 2 put \"y\" 1" ∷
    "gather" ∷
    "deliver 3 2" ∷
    "sweak 2 3 get \"y\"" ∷
    "deliver 1 1" ∷
    "sweak 2 1 get \"y\"" ∷
    "deliver 1 1" ∷
    "sweak 2 1 get \"y\"" ∷
    "end" ∷
    [])
    ≡ written (
    "= 1" ∷
    "1 NonPrim - g0 w0 p0@0{1,2,3} a0 v- y- r[] o[] x{} b0" ∷
    "2 NonPrim - g0 w0 p0@0{1,2,3} a0 v- y- r[] o[] x{} b0" ∷
    "3 NonPrim - g0 w0 p0@0{1,2,3} a0 v- y- r[] o[] x{} b0" ∷
    "= 2" ∷
    "1 ExchangeStates c1 g0 w0 p0@0{1,2,3} a0 v- y- r[] o[] x{} b0" ∷
    "2 ExchangeStates c1 g0 w0 p0@0{1,2,3} a0 v- y- r[] o[] x{} b0" ∷
    "3 ExchangeStates c1 g0 w0 p0@0{1,2,3} a0 v- y- r[] o[] x{} b0" ∷
    "= 4" ∷
    "1 Construct c1 g0 w0 p0@0{1,2,3} a1 v1/0{1,2,3}{1} y- r[] o[] x{} b0" ∷
    "= 5" ∷
    "2 Construct c1 g0 w0 p0@0{1,2,3} a1 v1/0{1,2,3}{2} y- r[] o[] x{} b0" ∷
    "= 6" ∷
    "3 Construct c1 g0 w0 p0@0{1,2,3} a1 v1/0{1,2,3}{3} y- r[] o[] x{} b0" ∷
    "= 8" ∷
    "1 RegPrim c1 g0 w0 p1@1{1,2,3} a0 v1/0{1,2,3}{1} y- r[] o[] x{} b0" ∷
    "= 9" ∷
    "2 RegPrim c1 g0 w0 p1@1{1,2,3} a0 v1/0{1,2,3}{2} y- r[] o[] x{} b0" ∷
    "= 10" ∷
    "3 RegPrim c1 g0 w0 p1@1{1,2,3} a0 v1/0{1,2,3}{3} y- r[] o[] x{} b0" ∷
    "= 12" ∷
    "made 1:1 put \"x\" 1" ∷
    "1 RegPrim c1 g0 w0 p1@1{1,2,3} a0 v1/0{1,2,3}{1} y- r[] o[1:1] x{} b0" ∷
    "session 2 wrote 1:1" ∷
    "= 13" ∷
    "made 2:1 put \"y\" 1" ∷
    "2 RegPrim c1 g0 w0 p1@1{1,2,3} a0 v1/0{1,2,3}{2} y- r[] o[2:1] x{} b0" ∷
    "= 15" ∷
    "order 1 1:1" ∷
    "order 2 2:1" ∷
    "3 RegPrim c1 g2 w0 p1@1{1,2,3} a0 v1/0{1,2,3}{3} y- r[] o[] x{} b0" ∷
    "= 16" ∷
    "sweak 2 1 at 2" ∷
    "= 17" ∷
    "1 RegPrim c1 g1 w0 p1@1{1,2,3} a0 v1/0{1,2,3}{1} y- r[] o[] x{} b0" ∷
    "reply 1:1 done" ∷
    "= 18" ∷
    "sweak 2 behind 1 2" ∷
    "= 19" ∷
    "1 RegPrim c1 g2 w0 p1@1{1,2,3} a0 v1/0{1,2,3}{1} y- r[] o[] x{} b0" ∷
    "= 20" ∷
    "sweak 2 1 at 2" ∷
    "end 20" ∷
    [])
unfolding cases_compute
sessions_read_goes_past_a_reply = refl
