-- Cases of cases/ with their whole reports, which `.ci/theorems` writes down here.
use Rattle.std.specs.Prelude.{◌≡◌, [], ◌∷◌}
use mathlib.Core.Path.{refl}
use Rattle.cg_run_cases.specs.Replaying.{replayed_text, written}
use Rattle.cg_run_cases.specs.Computing.{cases_compute}

-- Replicas at the start: 4: a primary is formed; a crash strikes inside a device call.
four_replicas_primary_formed_crash_in_a_device_call_a :
    replayed_text (
    "start 1 2 3 4" ∷
    "merge 1 2 3 4" ∷
    "order 4" ∷
    "request 2 need \"ab\" \"yes \\\"no\\\"\"" ∷
    "request 2 inc \"y\" 10; need \"z\" 65" ∷
    "request 1 need \"x\" absent; inc \"x\" 9223372036854775807; put \"z\" 10 ? get \"z\"" ∷
    "gather" ∷
    "request 1 need \"k2\" 8 ? keys \"x\"" ∷
    "rounds 1" ∷
    "request 4 inc \"a\" 7" ∷
    "stop 4 9 02" ∷
    "rounds 1" ∷
    "request 4 cas \"a\" absent 74; put \"abc\" 68" ∷
    "request 1 inc \"z\" 2" ∷
    "request 3 move \"y\" \"x\" 1" ∷
    "request 2 cas \"z\" 99 43" ∷
    "stop 2 8 01" ∷
    "rounds 3" ∷
    "stop 2 5 -" ∷
    "request 2 put \"a\" 58" ∷
    "gather" ∷
    "stop 2 3 0101010101010101010101010101010101010101" ∷
    "stop 2 0 01" ∷
    "recover 4" ∷
    "stop 3 9 01" ∷
    "gather" ∷
    "stop 4 0 0185f6010101019701" ∷
    "stop 3 0 01" ∷
    "recover 3" ∷
    "recover 2" ∷
    "rounds 1" ∷
    "request 3 cas \"y\" absent -1" ∷
    "recover 4" ∷
    "gather" ∷
    "rounds 2" ∷
    "request 3 del \"a\"" ∷
    "request 4 move \"abc\" \"y\" 3 ? get \"ab\"" ∷
    "request 3 inc \"a\" 8" ∷
    "request 4 cas \"x\" absent 97 ? get \"y\"" ∷
    "show order" ∷
    "request 2 inc \"x\" 4 ? get \"k1\"" ∷
    "gather" ∷
    "rounds 3" ∷
    "request 1 cas \"a\" absent 63" ∷
    "request 1 put \"x\" \"absent\" ? get \"abc\"" ∷
    "request 3 inc \"a\" 9223372036854775807 ? keys \"q\"" ∷
    "gather" ∷
    "request 1 put \"a\" -3" ∷
    "request 3 del \"z\"" ∷
    "request 3 del \"abc\" ? keys \"ab\"" ∷
    "gather" ∷
    "rounds 3" ∷
    "stop 3 0 01" ∷
    "stop 4 0 0101010101010101010101010101010101010101" ∷
    "recover 4" ∷
    "recover 3" ∷
    "stop 1 0 01" ∷
    "recover 1" ∷
    "rounds 2" ∷
    "end" ∷
    [])
    ≡ written (
    "= 1" ∷
    "1 NonPrim - g0 w0 p0@0{1,2,3,4} a0 v- y- r[] o[] x{} b0" ∷
    "2 NonPrim - g0 w0 p0@0{1,2,3,4} a0 v- y- r[] o[] x{} b0" ∷
    "3 NonPrim - g0 w0 p0@0{1,2,3,4} a0 v- y- r[] o[] x{} b0" ∷
    "4 NonPrim - g0 w0 p0@0{1,2,3,4} a0 v- y- r[] o[] x{} b0" ∷
    "= 2" ∷
    "1 ExchangeStates c1 g0 w0 p0@0{1,2,3,4} a0 v- y- r[] o[] x{} b0" ∷
    "2 ExchangeStates c1 g0 w0 p0@0{1,2,3,4} a0 v- y- r[] o[] x{} b0" ∷
    "3 ExchangeStates c1 g0 w0 p0@0{1,2,3,4} a0 v- y- r[] o[] x{} b0" ∷
    "4 ExchangeStates c1 g0 w0 p0@0{1,2,3,4} a0 v- y- r[] o[] x{} b0" ∷
    "= 4" ∷
    "2 ExchangeStates c1 g0 w0 p0@0{1,2,3,4} a0 v- y- r[] o[] x{} b1" ∷
    "= 5" ∷
    "2 ExchangeStates c1 g0 w0 p0@0{1,2,3,4} a0 v- y- r[] o[] x{} b2" ∷
    "= 6" ∷
    "1 ExchangeStates c1 g0 w0 p0@0{1,2,3,4} a0 v- y- r[] o[] x{} b1" ∷
    "= 8" ∷
    "1 ExchangeStates c1 g0 w0 p0@0{1,2,3,4} a0 v- y- r[] o[] x{} b2" ∷
    "= 10" ∷
    "1 Construct c1 g0 w0 p0@0{1,2,3,4} a1 v1/0{1,2,3,4}{1} y- r[] o[] x{} b2" ∷
    "= 11" ∷
    "2 Construct c1 g0 w0 p0@0{1,2,3,4} a1 v1/0{1,2,3,4}{2} y- r[] o[] x{} b2" ∷
    "= 12" ∷
    "3 Construct c1 g0 w0 p0@0{1,2,3,4} a1 v1/0{1,2,3,4}{3} y- r[] o[] x{} b0" ∷
    "= 13" ∷
    "4 Construct c1 g0 w0 p0@0{1,2,3,4} a1 v1/0{1,2,3,4}{4} y- r[] o[] x{} b0" ∷
    "= 14" ∷
    "4 Construct c1 g0 w0 p0@0{1,2,3,4} a1 v1/0{1,2,3,4}{4} y- r[] o[] x{} b1" ∷
    "= 17" ∷
    "made 1:1 need \"x\" absent; inc \"x\" 9223372036854775807; put \"z\" 10 ? get \"z\"" ∷
    "made 1:2 need \"k2\" 8 ? keys \"x\"" ∷
    "1 RegPrim c1 g0 w0 p1@1{1,2,3,4} a0 v1/0{1,2,3,4}{1} y- r[] o[1:1,1:2] x{} b0" ∷
    "= 18" ∷
    "made 2:1 need \"ab\" \"yes \\\"no\\\"\"" ∷
    "made 2:2 inc \"y\" 10; need \"z\" 65" ∷
    "2 RegPrim c1 g0 w0 p1@1{1,2,3,4} a0 v1/0{1,2,3,4}{2} y- r[] o[2:1,2:2] x{} b0" ∷
    "= 19" ∷
    "3 RegPrim c1 g0 w0 p1@1{1,2,3,4} a0 v1/0{1,2,3,4}{3} y- r[] o[] x{} b0" ∷
    "= 20" ∷
    "made 4:1 inc \"a\" 7" ∷
    "4 RegPrim c1 g0 w0 p1@1{1,2,3,4} a0 v1/0{1,2,3,4}{4} y- r[] o[4:1] x{} b0" ∷
    "= 21" ∷
    "made 4:2 cas \"a\" absent 74; put \"abc\" 68" ∷
    "4 RegPrim c1 g0 w0 p1@1{1,2,3,4} a0 v1/0{1,2,3,4}{4} y- r[] o[4:1,4:2] x{} b0" ∷
    "= 22" ∷
    "made 1:3 inc \"z\" 2" ∷
    "1 RegPrim c1 g0 w0 p1@1{1,2,3,4} a0 v1/0{1,2,3,4}{1} y- r[] o[1:1,1:2,1:3] x{} b0" ∷
    "= 23" ∷
    "made 3:1 move \"y\" \"x\" 1" ∷
    "3 RegPrim c1 g0 w0 p1@1{1,2,3,4} a0 v1/0{1,2,3,4}{3} y- r[] o[3:1] x{} b0" ∷
    "= 24" ∷
    "made 2:3 cas \"z\" 99 43" ∷
    "2 RegPrim c1 g0 w0 p1@1{1,2,3,4} a0 v1/0{1,2,3,4}{2} y- r[] o[2:1,2:2,2:3] x{} b0" ∷
    "= 27" ∷
    "order 1 1:1" ∷
    "order 2 1:2" ∷
    "order 3 1:3" ∷
    "order 4 2:1" ∷
    "order 5 2:2" ∷
    "order 6 2:3" ∷
    "order 7 3:1" ∷
    "order 8 4:1" ∷
    "order 9 4:2" ∷
    "1 RegPrim c1 g9 w0 p1@1{1,2,3,4} a0 v1/0{1,2,3,4}{1} y- r[] o[] x{} b0" ∷
    "reply 1:1 done ? 10" ∷
    "reply 1:2 aborted 1 ? keys \"x\"" ∷
    "reply 1:3 done" ∷
    "= 28" ∷
    "2 RegPrim c1 g9 w0 p1@1{1,2,3,4} a0 v1/0{1,2,3,4}{2} y- r[] o[] x{} b0" ∷
    "reply 2:1 aborted 1" ∷
    "reply 2:2 aborted 2" ∷
    "reply 2:3 done" ∷
    "= 29" ∷
    "3 RegPrim c1 g9 w0 p1@1{1,2,3,4} a0 v1/0{1,2,3,4}{3} y- r[] o[] x{} b0" ∷
    "reply 3:1 aborted 1" ∷
    "= 30" ∷
    "4 Down" ∷
    "= 34" ∷
    "made 2:4 put \"a\" 58" ∷
    "2 RegPrim c1 g9 w0 p1@1{1,2,3,4} a0 v1/0{1,2,3,4}{2} y- r[] o[2:4] x{} b0" ∷
    "= 37" ∷
    "2 Down" ∷
    "= 38" ∷
    "4 NonPrim - g0 w0 p1@1{1,2,3,4} a0 v1/0{1,2,3,4}{4} y- r[4:1,4:2] o[] x{} b0" ∷
    "= 41" ∷
    "4 Down" ∷
    "= 42" ∷
    "3 Down" ∷
    "= 43" ∷
    "3 NonPrim - g9 w0 p1@1{1,2,3,4} a0 v1/0{1,2,3,4}{3} y- r[] o[] x{} b0" ∷
    "= 44" ∷
    "2 NonPrim - g9 w0 p1@1{1,2,3,4} a0 v1/0{1,2,3,4}{2} y- r[2:4] o[] x{} b0" ∷
    "= 46" ∷
    "3 NonPrim - g9 w0 p1@1{1,2,3,4} a0 v1/0{1,2,3,4}{3} y- r[] o[] x{} b1" ∷
    "= 47" ∷
    "4 NonPrim - g0 w0 p1@1{1,2,3,4} a0 v1/0{1,2,3,4}{4} y- r[4:1,4:2] o[] x{} b0" ∷
    "= 51" ∷
    "3 NonPrim - g9 w0 p1@1{1,2,3,4} a0 v1/0{1,2,3,4}{3} y- r[] o[] x{} b2" ∷
    "= 52" ∷
    "4 NonPrim - g0 w0 p1@1{1,2,3,4} a0 v1/0{1,2,3,4}{4} y- r[4:1,4:2] o[] x{} b1" ∷
    "= 53" ∷
    "3 NonPrim - g9 w0 p1@1{1,2,3,4} a0 v1/0{1,2,3,4}{3} y- r[] o[] x{} b3" ∷
    "= 54" ∷
    "4 NonPrim - g0 w0 p1@1{1,2,3,4} a0 v1/0{1,2,3,4}{4} y- r[4:1,4:2] o[] x{} b2" ∷
    "= 55" ∷
    "all [1:1,1:2,1:3,2:1,2:2,2:3,3:1,4:1,4:2]" ∷
    "= 56" ∷
    "2 NonPrim - g9 w0 p1@1{1,2,3,4} a0 v1/0{1,2,3,4}{2} y- r[2:4] o[] x{} b1" ∷
    "= 61" ∷
    "made 1:4 cas \"a\" absent 63" ∷
    "1 RegPrim c1 g9 w0 p1@1{1,2,3,4} a0 v1/0{1,2,3,4}{1} y- r[] o[1:4] x{} b0" ∷
    "= 62" ∷
    "made 1:5 put \"x\" \"absent\" ? get \"abc\"" ∷
    "1 RegPrim c1 g9 w0 p1@1{1,2,3,4} a0 v1/0{1,2,3,4}{1} y- r[] o[1:4,1:5] x{} b0" ∷
    "= 63" ∷
    "3 NonPrim - g9 w0 p1@1{1,2,3,4} a0 v1/0{1,2,3,4}{3} y- r[] o[] x{} b4" ∷
    "= 65" ∷
    "made 1:6 put \"a\" -3" ∷
    "1 RegPrim c1 g9 w0 p1@1{1,2,3,4} a0 v1/0{1,2,3,4}{1} y- r[] o[1:4,1:5,1:6] x{} b0" ∷
    "= 66" ∷
    "3 NonPrim - g9 w0 p1@1{1,2,3,4} a0 v1/0{1,2,3,4}{3} y- r[] o[] x{} b5" ∷
    "= 67" ∷
    "3 NonPrim - g9 w0 p1@1{1,2,3,4} a0 v1/0{1,2,3,4}{3} y- r[] o[] x{} b6" ∷
    "= 72" ∷
    "3 Down" ∷
    "= 73" ∷
    "4 Down" ∷
    "= 74" ∷
    "4 NonPrim - g0 w0 p1@1{1,2,3,4} a0 v1/0{1,2,3,4}{4} y- r[4:1,4:2] o[] x{} b0" ∷
    "= 75" ∷
    "3 NonPrim - g9 w0 p1@1{1,2,3,4} a0 v1/0{1,2,3,4}{3} y- r[] o[] x{} b0" ∷
    "= 76" ∷
    "1 Down" ∷
    "= 77" ∷
    "1 NonPrim - g9 w0 p1@1{1,2,3,4} a0 v1/0{1,2,3,4}{1} y- r[1:4,1:5,1:6] o[] x{} b0" ∷
    "end 79" ∷
    [])
unfolding cases_compute
four_replicas_primary_formed_crash_in_a_device_call_a = refl

-- Replicas at the start: 4: a primary is lost in a partition, and after a merge red actions are ordered.
four_replicas_primary_lost_and_reds_ordered_a :
    replayed_text (
    "start 2 13 22 31" ∷
    "merge 2 13 22 31" ∷
    "rounds 1" ∷
    "rounds 2" ∷
    "split 2 13 22 31" ∷
    "merge 2 13 22 31" ∷
    "rounds 4" ∷
    "request 22 ? get \"z\"" ∷
    "request 2 inc \"x\" -2" ∷
    "gather" ∷
    "gather" ∷
    "gather" ∷
    "gather" ∷
    "gather" ∷
    "gather" ∷
    "gather" ∷
    "request 22 inc \"k1\" 9223372036854775807" ∷
    "deliver 13 2" ∷
    "split 2 13 22 31" ∷
    "merge 2 13 22 31" ∷
    "split 2 13 22 31" ∷
    "show 2" ∷
    "merge 2 13 22 31" ∷
    "weak 2 get \"z\"" ∷
    "rounds 3" ∷
    "request 31 move \"b\" \"z\" 8; put \"y\" 97; put \"z\" 44; inc \"z\" 10; del \"x\"; cas \"b\" -1 \"; ? #\"; put \"b\" 9223372036854775806; inc \"a\" -9223372036854775808; cas \"z\" 65 16; cas \"ab\" \"\" 99; put \"b\" 3; inc \"z\" 8; inc \"b\" -2; inc \"x\" 10; inc \"y\" -3; del \"z\"" ∷
    "request 31 need \"z\" absent" ∷
    "request 2 put \"x\" 5; put \"a\" \"hi\"; del \"y\"; inc \"x\" 0; inc \"z\" 4; move \"x\" \"y\" 5; inc \"b\" -1; inc \"z\" 10; move \"b\" \"ab\" 5; cas \"b\" absent 49; put \"y\" 43; inc \"k2\" -2; inc \"z\" 3; inc \"z\" -3; inc \"y\" 9; need \"z\" 66 ? get \"b\"" ∷
    "rounds 1" ∷
    "request 31 need \"z\" absent" ∷
    "order 31" ∷
    "receive 2 13" ∷
    "request 13 inc \"y\" 12" ∷
    "split 2 13 22 31" ∷
    "merge 2 13 22 31" ∷
    "split 2 22 31" ∷
    "order 13" ∷
    "rounds 1" ∷
    "gather" ∷
    "request 31 inc \"y\" 11 ? count" ∷
    "request 22 need \"z\" \"12\"; inc \"a\" -3 ? keys \"\"" ∷
    "show order" ∷
    "stop 13 15 01" ∷
    "request 31 move \"z\" \"ab\" 7" ∷
    "request 22 inc \"ab\" 3" ∷
    "gather" ∷
    "request 13 put \"ab\" 59 ? get \"a\"" ∷
    "request 2 inc \"ab\" 10" ∷
    "split 13" ∷
    "merge 2 13 22 31" ∷
    "request 22 move \"a\" \"b\" 9223372036854775807 ? get \"k1\"" ∷
    "request 22 move \"abc\" \"ab\" 2" ∷
    "order 2" ∷
    "end" ∷
    [])
    ≡ written (
    "= 1" ∷
    "2 NonPrim - g0 w0 p0@0{2,13,22,31} a0 v- y- r[] o[] x{} b0" ∷
    "13 NonPrim - g0 w0 p0@0{2,13,22,31} a0 v- y- r[] o[] x{} b0" ∷
    "22 NonPrim - g0 w0 p0@0{2,13,22,31} a0 v- y- r[] o[] x{} b0" ∷
    "31 NonPrim - g0 w0 p0@0{2,13,22,31} a0 v- y- r[] o[] x{} b0" ∷
    "= 2" ∷
    "2 ExchangeStates c1 g0 w0 p0@0{2,13,22,31} a0 v- y- r[] o[] x{} b0" ∷
    "13 ExchangeStates c1 g0 w0 p0@0{2,13,22,31} a0 v- y- r[] o[] x{} b0" ∷
    "22 ExchangeStates c1 g0 w0 p0@0{2,13,22,31} a0 v- y- r[] o[] x{} b0" ∷
    "31 ExchangeStates c1 g0 w0 p0@0{2,13,22,31} a0 v- y- r[] o[] x{} b0" ∷
    "= 4" ∷
    "2 Construct c1 g0 w0 p0@0{2,13,22,31} a1 v1/0{2,13,22,31}{2} y- r[] o[] x{} b0" ∷
    "= 5" ∷
    "13 Construct c1 g0 w0 p0@0{2,13,22,31} a1 v1/0{2,13,22,31}{13} y- r[] o[] x{} b0" ∷
    "= 6" ∷
    "22 Construct c1 g0 w0 p0@0{2,13,22,31} a1 v1/0{2,13,22,31}{22} y- r[] o[] x{} b0" ∷
    "= 7" ∷
    "31 Construct c1 g0 w0 p0@0{2,13,22,31} a1 v1/0{2,13,22,31}{31} y- r[] o[] x{} b0" ∷
    "= 9" ∷
    "2 RegPrim c1 g0 w0 p1@1{2,13,22,31} a0 v1/0{2,13,22,31}{2} y- r[] o[] x{} b0" ∷
    "= 10" ∷
    "13 RegPrim c1 g0 w0 p1@1{2,13,22,31} a0 v1/0{2,13,22,31}{13} y- r[] o[] x{} b0" ∷
    "= 11" ∷
    "22 RegPrim c1 g0 w0 p1@1{2,13,22,31} a0 v1/0{2,13,22,31}{22} y- r[] o[] x{} b0" ∷
    "= 12" ∷
    "31 RegPrim c1 g0 w0 p1@1{2,13,22,31} a0 v1/0{2,13,22,31}{31} y- r[] o[] x{} b0" ∷
    "= 14" ∷
    "2 TransPrim t1 g0 w0 p1@1{2,13,22,31} a0 v1/0{2,13,22,31}{2} y- r[] o[] x{} b0" ∷
    "13 TransPrim t1 g0 w0 p1@1{2,13,22,31} a0 v1/0{2,13,22,31}{13} y- r[] o[] x{} b0" ∷
    "22 TransPrim t1 g0 w0 p1@1{2,13,22,31} a0 v1/0{2,13,22,31}{22} y- r[] o[] x{} b0" ∷
    "31 TransPrim t1 g0 w0 p1@1{2,13,22,31} a0 v1/0{2,13,22,31}{31} y- r[] o[] x{} b0" ∷
    "= 15" ∷
    "2 ExchangeStates c2 g0 w0 p1@1{2,13,22,31} a0 v- y![] r[] o[] x{} b0" ∷
    "13 ExchangeStates c2 g0 w0 p1@1{2,13,22,31} a0 v- y![] r[] o[] x{} b0" ∷
    "22 ExchangeStates c2 g0 w0 p1@1{2,13,22,31} a0 v- y![] r[] o[] x{} b0" ∷
    "31 ExchangeStates c2 g0 w0 p1@1{2,13,22,31} a0 v- y![] r[] o[] x{} b0" ∷
    "= 17" ∷
    "2 Construct c2 g0 w0 p1@1{2,13,22,31} a1 v2/1{2,13,22,31}{2} y![] r[] o[] x{} b0" ∷
    "= 18" ∷
    "13 Construct c2 g0 w0 p1@1{2,13,22,31} a1 v2/1{2,13,22,31}{13} y![] r[] o[] x{} b0" ∷
    "= 19" ∷
    "22 Construct c2 g0 w0 p1@1{2,13,22,31} a1 v2/1{2,13,22,31}{22} y![] r[] o[] x{} b0" ∷
    "= 20" ∷
    "31 Construct c2 g0 w0 p1@1{2,13,22,31} a1 v2/1{2,13,22,31}{31} y![] r[] o[] x{} b0" ∷
    "= 22" ∷
    "2 RegPrim c2 g0 w0 p2@2{2,13,22,31} a0 v2/1{2,13,22,31}{2} y- r[] o[] x{} b0" ∷
    "= 23" ∷
    "13 RegPrim c2 g0 w0 p2@2{2,13,22,31} a0 v2/1{2,13,22,31}{13} y- r[] o[] x{} b0" ∷
    "= 24" ∷
    "22 RegPrim c2 g0 w0 p2@2{2,13,22,31} a0 v2/1{2,13,22,31}{22} y- r[] o[] x{} b0" ∷
    "= 25" ∷
    "31 RegPrim c2 g0 w0 p2@2{2,13,22,31} a0 v2/1{2,13,22,31}{31} y- r[] o[] x{} b0" ∷
    "= 28" ∷
    "made 22:1 ? get \"z\"" ∷
    "22 RegPrim c2 g0 w0 p2@2{2,13,22,31} a0 v2/1{2,13,22,31}{22} y- r[] o[22:1] x{} b0" ∷
    "= 29" ∷
    "made 2:1 inc \"x\" -2" ∷
    "2 RegPrim c2 g0 w0 p2@2{2,13,22,31} a0 v2/1{2,13,22,31}{2} y- r[] o[2:1] x{} b0" ∷
    "= 37" ∷
    "made 22:2 inc \"k1\" 9223372036854775807" ∷
    "22 RegPrim c2 g0 w0 p2@2{2,13,22,31} a0 v2/1{2,13,22,31}{22} y- r[] o[22:1,22:2] x{} b0" ∷
    "= 38" ∷
    "order 1 2:1" ∷
    "order 2 22:1" ∷
    "13 RegPrim c2 g2 w0 p2@2{2,13,22,31} a0 v2/1{2,13,22,31}{13} y- r[] o[] x{} b0" ∷
    "= 39" ∷
    "2 TransPrim t2 g2 w0 p2@2{2,13,22,31} a0 v2/1{2,13,22,31}{2} y- r[] o[] x{} b0" ∷
    "13 TransPrim t2 g2 w0 p2@2{2,13,22,31} a0 v2/1{2,13,22,31}{13} y- r[] o[] x{} b0" ∷
    "22 TransPrim t2 g2 w0 p2@2{2,13,22,31} a0 v2/1{2,13,22,31}{22} y- r[] o[22:2] x{} b0" ∷
    "31 TransPrim t2 g2 w0 p2@2{2,13,22,31} a0 v2/1{2,13,22,31}{31} y- r[] o[] x{} b0" ∷
    "reply 2:1 done" ∷
    "reply 22:1 done ? absent" ∷
    "= 40" ∷
    "2 ExchangeStates c3 g2 w0 p2@2{2,13,22,31} a0 v- y![] r[] o[] x{} b0" ∷
    "13 ExchangeStates c3 g2 w0 p2@2{2,13,22,31} a0 v- y![] r[] o[] x{} b0" ∷
    "22 ExchangeStates c3 g2 w0 p2@2{2,13,22,31} a0 v- y![] r[22:2] o[] x{} b0" ∷
    "31 ExchangeStates c3 g2 w0 p2@2{2,13,22,31} a0 v- y![] r[] o[] x{} b0" ∷
    "= 41" ∷
    "2 NonPrim t3 g2 w0 p2@2{2,13,22,31} a0 v- y![] r[] o[] x{} b0" ∷
    "13 NonPrim t3 g2 w0 p2@2{2,13,22,31} a0 v- y![] r[] o[] x{} b0" ∷
    "22 NonPrim t3 g2 w0 p2@2{2,13,22,31} a0 v- y![] r[22:2] o[] x{} b0" ∷
    "31 NonPrim t3 g2 w0 p2@2{2,13,22,31} a0 v- y![] r[] o[] x{} b0" ∷
    "= 42" ∷
    "greens 2 [2:1,22:1]" ∷
    "db 2 \"x\"=-2" ∷
    "= 43" ∷
    "2 ExchangeStates c4 g2 w0 p2@2{2,13,22,31} a0 v- y![] r[] o[] x{} b0" ∷
    "13 ExchangeStates c4 g2 w0 p2@2{2,13,22,31} a0 v- y![] r[] o[] x{} b0" ∷
    "22 ExchangeStates c4 g2 w0 p2@2{2,13,22,31} a0 v- y![] r[22:2] o[] x{} b0" ∷
    "31 ExchangeStates c4 g2 w0 p2@2{2,13,22,31} a0 v- y![] r[] o[] x{} b0" ∷
    "= 44" ∷
    "weak 2 absent" ∷
    "= 46" ∷
    "2 ExchangeActions c4 g2 w0 p2@2{2,13,22,31} a0 v- y![] r[] o[] x{} b0" ∷
    "= 47" ∷
    "13 ExchangeActions c4 g2 w0 p2@2{2,13,22,31} a0 v- y![] r[] o[] x{} b0" ∷
    "= 48" ∷
    "22 ExchangeActions c4 g2 w0 p2@2{2,13,22,31} a0 v- y![] r[22:2] o[] x{} b0" ∷
    "= 49" ∷
    "31 ExchangeActions c4 g2 w0 p2@2{2,13,22,31} a0 v- y![] r[] o[] x{} b0" ∷
    "= 51" ∷
    "2 Construct c4 g2 w0 p2@2{2,13,22,31} a1 v4/2{2,13,22,31}{2} y![] r[22:2] o[] x{} b0" ∷
    "= 52" ∷
    "13 Construct c4 g2 w0 p2@2{2,13,22,31} a1 v4/2{2,13,22,31}{13} y![] r[22:2] o[] x{} b0" ∷
    "= 53" ∷
    "22 Construct c4 g2 w0 p2@2{2,13,22,31} a1 v4/2{2,13,22,31}{22} y![] r[22:2] o[] x{} b0" ∷
    "= 54" ∷
    "31 Construct c4 g2 w0 p2@2{2,13,22,31} a1 v4/2{2,13,22,31}{31} y![] r[22:2] o[] x{} b0" ∷
    "= 56" ∷
    "order 3 22:2" ∷
    "2 RegPrim c4 g3 w0 p3@4{2,13,22,31} a0 v4/2{2,13,22,31}{2} y- r[] o[] x{} b0" ∷
    "= 57" ∷
    "13 RegPrim c4 g3 w0 p3@4{2,13,22,31} a0 v4/2{2,13,22,31}{13} y- r[] o[] x{} b0" ∷
    "= 58" ∷
    "22 RegPrim c4 g3 w0 p3@4{2,13,22,31} a0 v4/2{2,13,22,31}{22} y- r[] o[] x{} b0" ∷
    "reply 22:2 done" ∷
    "= 59" ∷
    "31 RegPrim c4 g3 w0 p3@4{2,13,22,31} a0 v4/2{2,13,22,31}{31} y- r[] o[] x{} b0" ∷
    "= 60" ∷
    "made 31:1 move \"b\" \"z\" 8; put \"y\" 97; put \"z\" 44; inc \"z\" 10; del \"x\"; cas \"b\" -1 \"; ? #\"; put \"b\" 9223372036854775806; inc \"a\" -9223372036854775808; cas \"z\" 65 16; cas \"ab\" \"\" 99; put \"b\" 3; inc \"z\" 8; inc \"b\" -2; inc \"x\" 10; inc \"y\" -3; del \"z\"" ∷
    "31 RegPrim c4 g3 w0 p3@4{2,13,22,31} a0 v4/2{2,13,22,31}{31} y- r[] o[31:1] x{} b0" ∷
    "= 61" ∷
    "made 31:2 need \"z\" absent" ∷
    "31 RegPrim c4 g3 w0 p3@4{2,13,22,31} a0 v4/2{2,13,22,31}{31} y- r[] o[31:1,31:2] x{} b0" ∷
    "= 62" ∷
    "made 2:2 put \"x\" 5; put \"a\" \"hi\"; del \"y\"; inc \"x\" 0; inc \"z\" 4; move \"x\" \"y\" 5; inc \"b\" -1; inc \"z\" 10; move \"b\" \"ab\" 5; cas \"b\" absent 49; put \"y\" 43; inc \"k2\" -2; inc \"z\" 3; inc \"z\" -3; inc \"y\" 9; need \"z\" 66 ? get \"b\"" ∷
    "2 RegPrim c4 g3 w0 p3@4{2,13,22,31} a0 v4/2{2,13,22,31}{2} y- r[] o[2:2] x{} b0" ∷
    "= 64" ∷
    "order 4 2:2" ∷
    "order 5 31:1" ∷
    "order 6 31:2" ∷
    "2 RegPrim c4 g6 w0 p3@4{2,13,22,31} a0 v4/2{2,13,22,31}{2} y- r[] o[] x{} b0" ∷
    "reply 2:2 aborted 9 ? absent" ∷
    "= 65" ∷
    "13 RegPrim c4 g6 w0 p3@4{2,13,22,31} a0 v4/2{2,13,22,31}{13} y- r[] o[] x{} b0" ∷
    "= 66" ∷
    "22 RegPrim c4 g6 w0 p3@4{2,13,22,31} a0 v4/2{2,13,22,31}{22} y- r[] o[] x{} b0" ∷
    "= 67" ∷
    "31 RegPrim c4 g6 w0 p3@4{2,13,22,31} a0 v4/2{2,13,22,31}{31} y- r[] o[] x{} b0" ∷
    "reply 31:1 aborted 1" ∷
    "reply 31:2 done" ∷
    "= 68" ∷
    "made 31:3 need \"z\" absent" ∷
    "31 RegPrim c4 g6 w0 p3@4{2,13,22,31} a0 v4/2{2,13,22,31}{31} y- r[] o[31:3] x{} b0" ∷
    "= 71" ∷
    "made 13:1 inc \"y\" 12" ∷
    "13 RegPrim c4 g6 w0 p3@4{2,13,22,31} a0 v4/2{2,13,22,31}{13} y- r[] o[13:1] x{} b0" ∷
    "= 72" ∷
    "2 TransPrim t4 g6 w0 p3@4{2,13,22,31} a0 v4/2{2,13,22,31}{2} y?[31:3] r[] o[] x{} b0" ∷
    "13 TransPrim t4 g6 w0 p3@4{2,13,22,31} a0 v4/2{2,13,22,31}{13} y?[31:3] r[] o[13:1] x{} b0" ∷
    "22 TransPrim t4 g6 w0 p3@4{2,13,22,31} a0 v4/2{2,13,22,31}{22} y?[31:3] r[] o[] x{} b0" ∷
    "31 TransPrim t4 g6 w0 p3@4{2,13,22,31} a0 v4/2{2,13,22,31}{31} y?[31:3] r[] o[] x{} b0" ∷
    "= 73" ∷
    "2 ExchangeStates c5 g6 w0 p3@4{2,13,22,31} a0 v- y![31:3] r[] o[] x{} b0" ∷
    "13 ExchangeStates c5 g6 w0 p3@4{2,13,22,31} a0 v- y![31:3] r[13:1] o[] x{} b0" ∷
    "22 ExchangeStates c5 g6 w0 p3@4{2,13,22,31} a0 v- y![31:3] r[] o[] x{} b0" ∷
    "31 ExchangeStates c5 g6 w0 p3@4{2,13,22,31} a0 v- y![31:3] r[] o[] x{} b0" ∷
    "= 74" ∷
    "2 NonPrim t5 g6 w0 p3@4{2,13,22,31} a0 v- y![31:3] r[] o[] x{} b0" ∷
    "22 NonPrim t5 g6 w0 p3@4{2,13,22,31} a0 v- y![31:3] r[] o[] x{} b0" ∷
    "31 NonPrim t5 g6 w0 p3@4{2,13,22,31} a0 v- y![31:3] r[] o[] x{} b0" ∷
    "= 78" ∷
    "31 NonPrim t5 g6 w0 p3@4{2,13,22,31} a0 v- y![31:3] r[] o[] x{} b1" ∷
    "= 79" ∷
    "22 NonPrim t5 g6 w0 p3@4{2,13,22,31} a0 v- y![31:3] r[] o[] x{} b1" ∷
    "= 80" ∷
    "all [2:1,22:1,22:2,2:2,31:1,31:2]" ∷
    "= 82" ∷
    "31 NonPrim t5 g6 w0 p3@4{2,13,22,31} a0 v- y![31:3] r[] o[] x{} b2" ∷
    "= 83" ∷
    "22 NonPrim t5 g6 w0 p3@4{2,13,22,31} a0 v- y![31:3] r[] o[] x{} b2" ∷
    "= 85" ∷
    "13 ExchangeStates c5 g6 w0 p3@4{2,13,22,31} a0 v- y![31:3] r[13:1] o[] x{} b1" ∷
    "= 86" ∷
    "2 NonPrim t5 g6 w0 p3@4{2,13,22,31} a0 v- y![31:3] r[] o[] x{} b1" ∷
    "= 87" ∷
    "13 NonPrim t5 g6 w0 p3@4{2,13,22,31} a0 v- y![31:3] r[13:1] o[] x{} b1" ∷
    "= 88" ∷
    "2 ExchangeStates c6 g6 w0 p3@4{2,13,22,31} a0 v- y![31:3] r[] o[] x{} b1" ∷
    "13 ExchangeStates c6 g6 w0 p3@4{2,13,22,31} a0 v- y![31:3] r[13:1] o[] x{} b1" ∷
    "22 ExchangeStates c6 g6 w0 p3@4{2,13,22,31} a0 v- y![31:3] r[] o[] x{} b2" ∷
    "31 ExchangeStates c6 g6 w0 p3@4{2,13,22,31} a0 v- y![31:3] r[] o[] x{} b2" ∷
    "= 89" ∷
    "22 ExchangeStates c6 g6 w0 p3@4{2,13,22,31} a0 v- y![31:3] r[] o[] x{} b3" ∷
    "= 90" ∷
    "22 ExchangeStates c6 g6 w0 p3@4{2,13,22,31} a0 v- y![31:3] r[] o[] x{} b4" ∷
    "end 91" ∷
    [])
unfolding cases_compute
four_replicas_primary_lost_and_reds_ordered_a = refl

-- Replicas at the start: 4: a primary is lost in a partition, and after a merge red actions are ordered; a crash strikes inside a device call.
four_replicas_primary_lost_and_reds_ordered_crash_in_a_device_call_a_from_discarding :
    replayed_text (
    "start 1 2 3 4" ∷
    "merge 1 2 3 4" ∷
    "rounds 3" ∷
    "stop 3 8 01" ∷
    "request 1 put \"y\" \"v\"" ∷
    "rounds 1" ∷
    "split 2 3" ∷
    "request 1 inc \"b\" -1" ∷
    "request 3 put \"x\" 21 ? count" ∷
    "request 2 ? get \"k1\"" ∷
    "gather" ∷
    "split 1 4" ∷
    "merge 1 2 3 4" ∷
    "request 4 cas \"z\" 11 41 ? keys \"k\"" ∷
    "request 2 cas \"x\" 4 52" ∷
    "request 4 put \"z\" -2; del \"z\"; inc \"a\" 7 ? count" ∷
    "recover 3" ∷
    "split 1 2 4" ∷
    "merge 1 2 3 4" ∷
    "rounds 2" ∷
    "request 3 need \"abc\" \"TTTTTTTTTTTTTTTTTTTTTTTTTTTTTTTTTTTTTTTTTTTTTTTTTTTTTTTTTTTTTTTTTTTTTTTTTTTTTTTTTTTTTTTTTTTTTTTTTTTTTTTTTTTTTTTTTTTTTTTTTTTTTTTTTTTTTTTTTTTTTTTTTTTTTTTTTTTTTTTTTTTTTTTTTTTTTTTTTTTTTTTTTTTTTTTTTTTTTTTTTTTTTTTTTTTTTTTTTTTTTTTTTTTTTTTTTTTTTTTTTTTTTTTTTTTTTTTTTTTTTTTTTTTTTTTTTTTTTTTTTTTTTTTTTTTTTTTTTTTTTTTTTTTTTTTTTTTTTTTTTTTTTTTTTTTTTTTTTTTTTTTTTTTTTTTTTTTTTTTTTTTTTTTTTTTTTTTTTTTTTTTTTTTTTTTTTTTTTTTTTTTTTTTTTTTTTTTTTTTTTTTTTTTTTTTTTTTTTTTTTTTTTTTTTTTTTTTTTTTTTTTTTTTTTTTTTTTTTTTTTTTTTTTTTTTTTTTTTTTTTTTTTTTTTTTTTTTTTTTTTTTTTTTTTTTTTTTTTTTTTTTTTTTTTTTTTTTTTTTTTTTTTTTTTTTTTTTTTTTTTTTTTTTTTTTTTTTTTTTTTTTTTTTTTTTTTTTTTTTTTTTTTTTTTTTTTTTTTTTTTTTTTTTTTTTTTTTTTTTTTTTTTTTTTTTTTTTTTTTTTTTTTTTTTTTTTTTTTTTTTTTTTTTTTTTTTTTTTTTTTTTTTTTTTTTTTTTTTTTTTTTTTTTTTTTTTTTTTTTTTTTTTTTTTTTTTTTTTTTTTTTTTTTTTTTTTTTTTTTTTTTTTTTTTTTTTTTTTTTTTTTTTTTTTTTTTTTTTTTTTTTTTTTTTTTTTTTTTTTTTTTTTTTTTTTTTTTTTTTTTTTTTTTTTTTTTTTTTTTTTTTTTTTTTTTTTTTTTTTTTTTTTTTTTTTTTTTTTTTTTTTTTTTTTTTTTTTTTTTTTTTTTTTTTTTTTTTTTTTTTTTTTTTTTTTTTTTTTTTTTTTTTTTTTTTTTTTTTTTTTTTT\"" ∷
    "gather" ∷
    "rounds 2" ∷
    "rounds 2" ∷
    "rounds 1" ∷
    "gather" ∷
    "rounds 2" ∷
    "gather" ∷
    "rounds 1" ∷
    "gather" ∷
    "split 1 2 3 4" ∷
    "merge 1 2 3 4" ∷
    "rounds 2" ∷
    "stop 1 2 01" ∷
    "gather" ∷
    "request 4 need \"k1\" absent" ∷
    "request 4 move \"k1\" \"x\" 0" ∷
    "split 1 2" ∷
    "split 3 4" ∷
    "merge 1 2 3 4" ∷
    "rounds 1" ∷
    "split 3 4" ∷
    "recover 1" ∷
    "split 2" ∷
    "merge 1 2 3 4" ∷
    "rounds 1" ∷
    "rounds 3" ∷
    "end" ∷
    [])
    ≡ written (
    "= 1" ∷
    "1 NonPrim - g0 w0 p0@0{1,2,3,4} a0 v- y- r[] o[] x{} b0" ∷
    "2 NonPrim - g0 w0 p0@0{1,2,3,4} a0 v- y- r[] o[] x{} b0" ∷
    "3 NonPrim - g0 w0 p0@0{1,2,3,4} a0 v- y- r[] o[] x{} b0" ∷
    "4 NonPrim - g0 w0 p0@0{1,2,3,4} a0 v- y- r[] o[] x{} b0" ∷
    "= 2" ∷
    "1 ExchangeStates c1 g0 w0 p0@0{1,2,3,4} a0 v- y- r[] o[] x{} b0" ∷
    "2 ExchangeStates c1 g0 w0 p0@0{1,2,3,4} a0 v- y- r[] o[] x{} b0" ∷
    "3 ExchangeStates c1 g0 w0 p0@0{1,2,3,4} a0 v- y- r[] o[] x{} b0" ∷
    "4 ExchangeStates c1 g0 w0 p0@0{1,2,3,4} a0 v- y- r[] o[] x{} b0" ∷
    "= 4" ∷
    "1 Construct c1 g0 w0 p0@0{1,2,3,4} a1 v1/0{1,2,3,4}{1} y- r[] o[] x{} b0" ∷
    "= 5" ∷
    "2 Construct c1 g0 w0 p0@0{1,2,3,4} a1 v1/0{1,2,3,4}{2} y- r[] o[] x{} b0" ∷
    "= 6" ∷
    "3 Construct c1 g0 w0 p0@0{1,2,3,4} a1 v1/0{1,2,3,4}{3} y- r[] o[] x{} b0" ∷
    "= 7" ∷
    "4 Construct c1 g0 w0 p0@0{1,2,3,4} a1 v1/0{1,2,3,4}{4} y- r[] o[] x{} b0" ∷
    "= 9" ∷
    "1 RegPrim c1 g0 w0 p1@1{1,2,3,4} a0 v1/0{1,2,3,4}{1} y- r[] o[] x{} b0" ∷
    "= 10" ∷
    "2 RegPrim c1 g0 w0 p1@1{1,2,3,4} a0 v1/0{1,2,3,4}{2} y- r[] o[] x{} b0" ∷
    "= 11" ∷
    "3 RegPrim c1 g0 w0 p1@1{1,2,3,4} a0 v1/0{1,2,3,4}{3} y- r[] o[] x{} b0" ∷
    "= 12" ∷
    "4 RegPrim c1 g0 w0 p1@1{1,2,3,4} a0 v1/0{1,2,3,4}{4} y- r[] o[] x{} b0" ∷
    "= 15" ∷
    "made 1:1 put \"y\" \"v\"" ∷
    "1 RegPrim c1 g0 w0 p1@1{1,2,3,4} a0 v1/0{1,2,3,4}{1} y- r[] o[1:1] x{} b0" ∷
    "= 17" ∷
    "order 1 1:1" ∷
    "1 RegPrim c1 g1 w0 p1@1{1,2,3,4} a0 v1/0{1,2,3,4}{1} y- r[] o[] x{} b0" ∷
    "reply 1:1 done" ∷
    "= 18" ∷
    "2 RegPrim c1 g1 w0 p1@1{1,2,3,4} a0 v1/0{1,2,3,4}{2} y- r[] o[] x{} b0" ∷
    "= 19" ∷
    "3 RegPrim c1 g1 w0 p1@1{1,2,3,4} a0 v1/0{1,2,3,4}{3} y- r[] o[] x{} b0" ∷
    "= 20" ∷
    "4 RegPrim c1 g1 w0 p1@1{1,2,3,4} a0 v1/0{1,2,3,4}{4} y- r[] o[] x{} b0" ∷
    "= 21" ∷
    "2 TransPrim t1 g1 w0 p1@1{1,2,3,4} a0 v1/0{1,2,3,4}{2} y- r[] o[] x{} b0" ∷
    "3 TransPrim t1 g1 w0 p1@1{1,2,3,4} a0 v1/0{1,2,3,4}{3} y- r[] o[] x{} b0" ∷
    "= 22" ∷
    "made 1:2 inc \"b\" -1" ∷
    "1 RegPrim c1 g1 w0 p1@1{1,2,3,4} a0 v1/0{1,2,3,4}{1} y- r[] o[1:2] x{} b0" ∷
    "= 23" ∷
    "3 TransPrim t1 g1 w0 p1@1{1,2,3,4} a0 v1/0{1,2,3,4}{3} y- r[] o[] x{} b1" ∷
    "= 24" ∷
    "2 TransPrim t1 g1 w0 p1@1{1,2,3,4} a0 v1/0{1,2,3,4}{2} y- r[] o[] x{} b1" ∷
    "= 26" ∷
    "1 TransPrim t1 g1 w0 p1@1{1,2,3,4} a0 v1/0{1,2,3,4}{1} y?[1:2] r[] o[] x{} b0" ∷
    "4 TransPrim t1 g1 w0 p1@1{1,2,3,4} a0 v1/0{1,2,3,4}{4} y?[1:2] r[] o[] x{} b0" ∷
    "= 27" ∷
    "1 ExchangeStates c2 g1 w0 p1@1{1,2,3,4} a0 v- y![1:2] r[] o[] x{} b0" ∷
    "2 ExchangeStates c2 g1 w0 p1@1{1,2,3,4} a0 v- y![] r[] o[] x{} b1" ∷
    "3 Down" ∷
    "4 ExchangeStates c2 g1 w0 p1@1{1,2,3,4} a0 v- y![1:2] r[] o[] x{} b0" ∷
    "= 28" ∷
    "4 ExchangeStates c2 g1 w0 p1@1{1,2,3,4} a0 v- y![1:2] r[] o[] x{} b1" ∷
    "= 29" ∷
    "2 ExchangeStates c2 g1 w0 p1@1{1,2,3,4} a0 v- y![] r[] o[] x{} b2" ∷
    "= 30" ∷
    "4 ExchangeStates c2 g1 w0 p1@1{1,2,3,4} a0 v- y![1:2] r[] o[] x{} b2" ∷
    "= 31" ∷
    "3 NonPrim - g1 w0 p1@1{1,2,3,4} a0 v- y![] r[] o[] x{} b0" ∷
    "= 32" ∷
    "1 NonPrim t2 g1 w0 p1@1{1,2,3,4} a0 v- y![1:2] r[] o[] x{} b0" ∷
    "2 NonPrim t2 g1 w0 p1@1{1,2,3,4} a0 v- y![] r[] o[] x{} b2" ∷
    "4 NonPrim t2 g1 w0 p1@1{1,2,3,4} a0 v- y![1:2] r[] o[] x{} b2" ∷
    "= 33" ∷
    "1 ExchangeStates c3 g1 w0 p1@1{1,2,3,4} a0 v- y![1:2] r[] o[] x{} b0" ∷
    "2 ExchangeStates c3 g1 w0 p1@1{1,2,3,4} a0 v- y![] r[] o[] x{} b2" ∷
    "3 ExchangeStates c3 g1 w0 p1@1{1,2,3,4} a0 v- y![] r[] o[] x{} b0" ∷
    "4 ExchangeStates c3 g1 w0 p1@1{1,2,3,4} a0 v- y![1:2] r[] o[] x{} b2" ∷
    "= 35" ∷
    "1 ExchangeActions c3 g1 w0 p1@1{1,2,3,4} a0 v- y![1:2] r[] o[] x{} b0" ∷
    "= 36" ∷
    "2 ExchangeActions c3 g1 w0 p1@1{1,2,3,4} a0 v- y![] r[] o[] x{} b2" ∷
    "= 37" ∷
    "3 ExchangeActions c3 g1 w0 p1@1{1,2,3,4} a0 v- y![] r[] o[] x{} b0" ∷
    "= 38" ∷
    "4 ExchangeActions c3 g1 w0 p1@1{1,2,3,4} a0 v- y![1:2] r[] o[] x{} b2" ∷
    "= 40" ∷
    "1 Construct c3 g1 w0 p1@1{1,2,3,4} a1 v3/1{1,2,3,4}{1} y![] r[1:2] o[] x{} b0" ∷
    "= 41" ∷
    "2 Construct c3 g1 w0 p1@1{1,2,3,4} a1 v3/1{1,2,3,4}{2} y![] r[1:2] o[] x{} b2" ∷
    "= 42" ∷
    "3 Construct c3 g1 w0 p1@1{1,2,3,4} a1 v3/1{1,2,3,4}{3} y![] r[1:2] o[] x{} b0" ∷
    "= 43" ∷
    "4 Construct c3 g1 w0 p1@1{1,2,3,4} a1 v3/1{1,2,3,4}{4} y![] r[1:2] o[] x{} b2" ∷
    "= 44" ∷
    "3 Construct c3 g1 w0 p1@1{1,2,3,4} a1 v3/1{1,2,3,4}{3} y![] r[1:2] o[] x{} b1" ∷
    "= 47" ∷
    "order 2 1:2" ∷
    "1 RegPrim c3 g2 w0 p2@3{1,2,3,4} a0 v3/1{1,2,3,4}{1} y- r[] o[] x{} b0" ∷
    "reply 1:2 done" ∷
    "= 48" ∷
    "made 2:1 ? get \"k1\"" ∷
    "made 2:2 cas \"x\" 4 52" ∷
    "2 RegPrim c3 g2 w0 p2@3{1,2,3,4} a0 v3/1{1,2,3,4}{2} y- r[] o[2:1,2:2] x{} b0" ∷
    "= 49" ∷
    "made 3:1 need \"abc\" \"TTTTTTTTTTTTTTTTTTTTTTTTTTTTTTTTTTTTTTTTTTTTTTTTTTTTTTTTTTTTTTTTTTTTTTTTTTTTTTTTTTTTTTTTTTTTTTTTTTTTTTTTTTTTTTTTTTTTTTTTTTTTTTTTTTTTTTTTTTTTTTTTTTTTTTTTTTTTTTTTTTTTTTTTTTTTTTTTTTTTTTTTTTTTTTTTTTTTTTTTTTTTTTTTTTTTTTTTTTTTTTTTTTTTTTTTTTTTTTTTTTTTTTTTTTTTTTTTTTTTTTTTTTTTTTTTTTTTTTTTTTTTTTTTTTTTTTTTTTTTTTTTTTTTTTTTTTTTTTTTTTTTTTTTTTTTTTTTTTTTTTTTTTTTTTTTTTTTTTTTTTTTTTTTTTTTTTTTTTTTTTTTTTTTTTTTTTTTTTTTTTTTTTTTTTTTTTTTTTTTTTTTTTTTTTTTTTTTTTTTTTTTTTTTTTTTTTTTTTTTTTTTTTTTTTTTTTTTTTTTTTTTTTTTTTTTTTTTTTTTTTTTTTTTTTTTTTTTTTTTTTTTTTTTTTTTTTTTTTTTTTTTTTTTTTTTTTTTTTTTTTTTTTTTTTTTTTTTTTTTTTTTTTTTTTTTTTTTTTTTTTTTTTTTTTTTTTTTTTTTTTTTTTTTTTTTTTTTTTTTTTTTTTTTTTTTTTTTTTTTTTTTTTTTTTTTTTTTTTTTTTTTTTTTTTTTTTTTTTTTTTTTTTTTTTTTTTTTTTTTTTTTTTTTTTTTTTTTTTTTTTTTTTTTTTTTTTTTTTTTTTTTTTTTTTTTTTTTTTTTTTTTTTTTTTTTTTTTTTTTTTTTTTTTTTTTTTTTTTTTTTTTTTTTTTTTTTTTTTTTTTTTTTTTTTTTTTTTTTTTTTTTTTTTTTTTTTTTTTTTTTTTTTTTTTTTTTTTTTTTTTTTTTTTTTTTTTTTTTTTTTTTTTTTTTTTTTTTTTTTTTTTTTTTTTTTTTTTTTTTTTTTTTTTTTTTTTTTTTTTTTTTTTTTTTTTTTTTTTTTTTTTTTTTTTTTTTTTTTTTTTTT\"" ∷
    "3 RegPrim c3 g2 w0 p2@3{1,2,3,4} a0 v3/1{1,2,3,4}{3} y- r[] o[3:1] x{} b0" ∷
    "= 50" ∷
    "made 4:1 cas \"z\" 11 41 ? keys \"k\"" ∷
    "made 4:2 put \"z\" -2; del \"z\"; inc \"a\" 7 ? count" ∷
    "4 RegPrim c3 g2 w0 p2@3{1,2,3,4} a0 v3/1{1,2,3,4}{4} y- r[] o[4:1,4:2] x{} b0" ∷
    "= 52" ∷
    "order 3 2:1" ∷
    "order 4 2:2" ∷
    "order 5 3:1" ∷
    "order 6 4:1" ∷
    "order 7 4:2" ∷
    "1 RegPrim c3 g7 w1 p2@3{1,2,3,4} a0 v3/1{1,2,3,4}{1} y- r[] o[] x{} b0" ∷
    "= 53" ∷
    "2 RegPrim c3 g7 w1 p2@3{1,2,3,4} a0 v3/1{1,2,3,4}{2} y- r[] o[] x{} b0" ∷
    "reply 2:1 done ? absent" ∷
    "reply 2:2 done" ∷
    "= 54" ∷
    "3 RegPrim c3 g7 w1 p2@3{1,2,3,4} a0 v3/1{1,2,3,4}{3} y- r[] o[] x{} b0" ∷
    "reply 3:1 aborted 1" ∷
    "= 55" ∷
    "4 RegPrim c3 g7 w1 p2@3{1,2,3,4} a0 v3/1{1,2,3,4}{4} y- r[] o[] x{} b0" ∷
    "reply 4:1 done ? keys" ∷
    "reply 4:2 done ? count 3" ∷
    "= 65" ∷
    "1 TransPrim t3 g7 w1 p2@3{1,2,3,4} a0 v3/1{1,2,3,4}{1} y- r[] o[] x{} b0" ∷
    "2 TransPrim t3 g7 w1 p2@3{1,2,3,4} a0 v3/1{1,2,3,4}{2} y- r[] o[] x{} b0" ∷
    "3 TransPrim t3 g7 w1 p2@3{1,2,3,4} a0 v3/1{1,2,3,4}{3} y- r[] o[] x{} b0" ∷
    "4 TransPrim t3 g7 w1 p2@3{1,2,3,4} a0 v3/1{1,2,3,4}{4} y- r[] o[] x{} b0" ∷
    "= 66" ∷
    "1 ExchangeStates c4 g7 w1 p2@3{1,2,3,4} a0 v- y![] r[] o[] x{} b0" ∷
    "2 ExchangeStates c4 g7 w1 p2@3{1,2,3,4} a0 v- y![] r[] o[] x{} b0" ∷
    "3 ExchangeStates c4 g7 w1 p2@3{1,2,3,4} a0 v- y![] r[] o[] x{} b0" ∷
    "4 ExchangeStates c4 g7 w1 p2@3{1,2,3,4} a0 v- y![] r[] o[] x{} b0" ∷
    "= 68" ∷
    "1 Construct c4 g7 w1 p2@3{1,2,3,4} a1 v4/2{1,2,3,4}{1} y![] r[] o[] x{} b0" ∷
    "= 69" ∷
    "2 Construct c4 g7 w1 p2@3{1,2,3,4} a1 v4/2{1,2,3,4}{2} y![] r[] o[] x{} b0" ∷
    "= 70" ∷
    "3 Construct c4 g7 w1 p2@3{1,2,3,4} a1 v4/2{1,2,3,4}{3} y![] r[] o[] x{} b0" ∷
    "= 71" ∷
    "4 Construct c4 g7 w1 p2@3{1,2,3,4} a1 v4/2{1,2,3,4}{4} y![] r[] o[] x{} b0" ∷
    "= 73" ∷
    "1 RegPrim c4 g7 w1 p3@4{1,2,3,4} a0 v4/2{1,2,3,4}{1} y- r[] o[] x{} b0" ∷
    "= 74" ∷
    "2 RegPrim c4 g7 w1 p3@4{1,2,3,4} a0 v4/2{1,2,3,4}{2} y- r[] o[] x{} b0" ∷
    "= 75" ∷
    "3 RegPrim c4 g7 w1 p3@4{1,2,3,4} a0 v4/2{1,2,3,4}{3} y- r[] o[] x{} b0" ∷
    "= 76" ∷
    "4 RegPrim c4 g7 w1 p3@4{1,2,3,4} a0 v4/2{1,2,3,4}{4} y- r[] o[] x{} b0" ∷
    "= 79" ∷
    "made 4:3 need \"k1\" absent" ∷
    "4 RegPrim c4 g7 w1 p3@4{1,2,3,4} a0 v4/2{1,2,3,4}{4} y- r[] o[4:3] x{} b0" ∷
    "= 80" ∷
    "made 4:4 move \"k1\" \"x\" 0" ∷
    "4 RegPrim c4 g7 w1 p3@4{1,2,3,4} a0 v4/2{1,2,3,4}{4} y- r[] o[4:3,4:4] x{} b0" ∷
    "= 81" ∷
    "1 TransPrim t4 g7 w1 p3@4{1,2,3,4} a0 v4/2{1,2,3,4}{1} y- r[] o[] x{} b0" ∷
    "2 TransPrim t4 g7 w1 p3@4{1,2,3,4} a0 v4/2{1,2,3,4}{2} y- r[] o[] x{} b0" ∷
    "= 82" ∷
    "3 TransPrim t4 g7 w1 p3@4{1,2,3,4} a0 v4/2{1,2,3,4}{3} y- r[] o[] x{} b0" ∷
    "4 TransPrim t4 g7 w1 p3@4{1,2,3,4} a0 v4/2{1,2,3,4}{4} y- r[] o[4:3,4:4] x{} b0" ∷
    "= 83" ∷
    "1 Down" ∷
    "2 ExchangeStates c5 g7 w1 p3@4{1,2,3,4} a0 v- y![] r[] o[] x{} b0" ∷
    "3 ExchangeStates c5 g7 w1 p3@4{1,2,3,4} a0 v- y![] r[] o[] x{} b0" ∷
    "4 ExchangeStates c5 g7 w1 p3@4{1,2,3,4} a0 v- y![] r[4:3,4:4] o[] x{} b0" ∷
    "= 85" ∷
    "3 NonPrim t5 g7 w1 p3@4{1,2,3,4} a0 v- y![] r[] o[] x{} b0" ∷
    "4 NonPrim t5 g7 w1 p3@4{1,2,3,4} a0 v- y![] r[4:3,4:4] o[] x{} b0" ∷
    "= 86" ∷
    "1 NonPrim - g7 w1 p3@4{1,2,3,4} a0 v4/2{1,2,3,4}{1} y- r[] o[] x{} b0" ∷
    "= 87" ∷
    "2 NonPrim t5 g7 w1 p3@4{1,2,3,4} a0 v- y![] r[] o[] x{} b0" ∷
    "= 88" ∷
    "1 ExchangeStates c6 g7 w1 p3@4{1,2,3,4} a0 v4/2{1,2,3,4}{1} y- r[] o[] x{} b0" ∷
    "2 ExchangeStates c6 g7 w1 p3@4{1,2,3,4} a0 v- y![] r[] o[] x{} b0" ∷
    "3 ExchangeStates c6 g7 w1 p3@4{1,2,3,4} a0 v- y![] r[] o[] x{} b0" ∷
    "4 ExchangeStates c6 g7 w1 p3@4{1,2,3,4} a0 v- y![] r[4:3,4:4] o[] x{} b0" ∷
    "= 90" ∷
    "1 ExchangeActions c6 g7 w1 p3@4{1,2,3,4} a0 v4/2{1,2,3,4}{1} y- r[] o[] x{} b0" ∷
    "= 91" ∷
    "2 ExchangeActions c6 g7 w1 p3@4{1,2,3,4} a0 v- y![] r[] o[] x{} b0" ∷
    "= 92" ∷
    "3 ExchangeActions c6 g7 w1 p3@4{1,2,3,4} a0 v- y![] r[] o[] x{} b0" ∷
    "= 93" ∷
    "4 ExchangeActions c6 g7 w1 p3@4{1,2,3,4} a0 v- y![] r[4:3,4:4] o[] x{} b0" ∷
    "= 95" ∷
    "1 Construct c6 g7 w1 p3@4{1,2,3,4} a1 v6/3{1,2,3,4}{1} y![] r[4:3,4:4] o[] x{} b0" ∷
    "= 96" ∷
    "2 Construct c6 g7 w1 p3@4{1,2,3,4} a1 v6/3{1,2,3,4}{2} y![] r[4:3,4:4] o[] x{} b0" ∷
    "= 97" ∷
    "3 Construct c6 g7 w1 p3@4{1,2,3,4} a1 v6/3{1,2,3,4}{3} y![] r[4:3,4:4] o[] x{} b0" ∷
    "= 98" ∷
    "4 Construct c6 g7 w1 p3@4{1,2,3,4} a1 v6/3{1,2,3,4}{4} y![] r[4:3,4:4] o[] x{} b0" ∷
    "= 100" ∷
    "order 8 4:3" ∷
    "order 9 4:4" ∷
    "1 RegPrim c6 g9 w1 p4@6{1,2,3,4} a0 v6/3{1,2,3,4}{1} y- r[] o[] x{} b0" ∷
    "= 101" ∷
    "2 RegPrim c6 g9 w1 p4@6{1,2,3,4} a0 v6/3{1,2,3,4}{2} y- r[] o[] x{} b0" ∷
    "= 102" ∷
    "3 RegPrim c6 g9 w1 p4@6{1,2,3,4} a0 v6/3{1,2,3,4}{3} y- r[] o[] x{} b0" ∷
    "= 103" ∷
    "4 RegPrim c6 g9 w1 p4@6{1,2,3,4} a0 v6/3{1,2,3,4}{4} y- r[] o[] x{} b0" ∷
    "reply 4:3 done" ∷
    "reply 4:4 done" ∷
    "end 104" ∷
    [])
unfolding cases_compute
four_replicas_primary_lost_and_reds_ordered_crash_in_a_device_call_a_from_discarding = refl
