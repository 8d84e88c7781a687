-- Cases of cases/ with their whole reports, which `.ci/theorems` writes down here.
use Rattle.std.specs.Prelude.{◌≡◌, [], ◌∷◌}
use mathlib.Core.Path.{refl}
use Rattle.cg_run_cases.specs.Replaying.{put_by, written}
use Rattle.cg_run_cases.specs.Computing.{cases_compute}

-- A key has a register and a sum; put and del write the one, inc the other.
relaxed_registers_and_sums :
    put_by "relaxed" (
    "start 1 2 3" ∷
    "merge 1 2 3" ∷
    "rounds 2" ∷
    "relaxed 1 \"x\"" ∷
    "request 1 put \"x\" 5" ∷
    "request 2 inc \"x\" 3" ∷
    "rounds 1" ∷
    "relaxed 1 \"x\"" ∷
    "relaxed 3 \"x\"" ∷
    "request 3 put \"x\" \"te\\\"xt\"" ∷
    "rounds 1" ∷
    "relaxed 2 \"x\"" ∷
    "request 1 del \"x\"" ∷
    "request 2 inc \"x\" -10" ∷
    "rounds 1" ∷
    "relaxed 1 \"x\"" ∷
    "joined 1 2 \"x\"" ∷
    "relaxed 1 \"y\"" ∷
    "relaxed 1 \"xx\"" ∷
    "request 1 del \"never\"" ∷
    "rounds 1" ∷
    "relaxed 1 \"never\"" ∷
    "end" ∷
    [])
    ≡ written (
    "= 1" ∷
    "1 NonPrim - g0 w0 p0@0{1,2,3} a0 v- y- r[] o[] x{} b0" ∷
    "2 NonPrim - g0 w0 p0@0{1,2,3} a0 v- y- r[] o[] x{} b0" ∷
    "3 NonPrim - g0 w0 p0@0{1,2,3} a0 v- y- r[] o[] x{} b0" ∷
    "= 2" ∷
    "1 ExchangeStates c1 g0 w0 p0@0{1,2,3} a0 v- y- r[] o[] x{} b0" ∷
    "2 ExchangeStates c1 g0 w0 p0@0{1,2,3} a0 v- y- r[] o[] x{} b0" ∷
    "3 ExchangeStates c1 g0 w0 p0@0{1,2,3} a0 v- y- r[] o[] x{} b0" ∷
    "= 4" ∷
    "1 Construct c1 g0 w0 p0@0{1,2,3} a1 v1/0{1,2,3}{1} y- r[] o[] x{} b0" ∷
    "= 5" ∷
    "2 Construct c1 g0 w0 p0@0{1,2,3} a1 v1/0{1,2,3}{2} y- r[] o[] x{} b0" ∷
    "= 6" ∷
    "3 Construct c1 g0 w0 p0@0{1,2,3} a1 v1/0{1,2,3}{3} y- r[] o[] x{} b0" ∷
    "= 8" ∷
    "1 RegPrim c1 g0 w0 p1@1{1,2,3} a0 v1/0{1,2,3}{1} y- r[] o[] x{} b0" ∷
    "= 9" ∷
    "2 RegPrim c1 g0 w0 p1@1{1,2,3} a0 v1/0{1,2,3}{2} y- r[] o[] x{} b0" ∷
    "= 10" ∷
    "3 RegPrim c1 g0 w0 p1@1{1,2,3} a0 v1/0{1,2,3}{3} y- r[] o[] x{} b0" ∷
    "= 11" ∷
    "relaxed 1 absent 0" ∷
    "= 12" ∷
    "made 1:1 put \"x\" 5" ∷
    "1 RegPrim c1 g0 w0 p1@1{1,2,3} a0 v1/0{1,2,3}{1} y- r[] o[1:1] x{} b0" ∷
    "= 13" ∷
    "made 2:1 inc \"x\" 3" ∷
    "2 RegPrim c1 g0 w0 p1@1{1,2,3} a0 v1/0{1,2,3}{2} y- r[] o[2:1] x{} b0" ∷
    "= 15" ∷
    "order 1 1:1" ∷
    "order 2 2:1" ∷
    "1 RegPrim c1 g2 w0 p1@1{1,2,3} a0 v1/0{1,2,3}{1} y- r[] o[] x{} b0" ∷
    "reply 1:1 done" ∷
    "= 16" ∷
    "2 RegPrim c1 g2 w0 p1@1{1,2,3} a0 v1/0{1,2,3}{2} y- r[] o[] x{} b0" ∷
    "reply 2:1 done" ∷
    "= 17" ∷
    "3 RegPrim c1 g2 w0 p1@1{1,2,3} a0 v1/0{1,2,3}{3} y- r[] o[] x{} b0" ∷
    "= 18" ∷
    "relaxed 1 5 3" ∷
    "= 19" ∷
    "relaxed 3 5 3" ∷
    "= 20" ∷
    "made 3:1 put \"x\" \"te\\\"xt\"" ∷
    "3 RegPrim c1 g2 w0 p1@1{1,2,3} a0 v1/0{1,2,3}{3} y- r[] o[3:1] x{} b0" ∷
    "= 22" ∷
    "order 3 3:1" ∷
    "1 RegPrim c1 g3 w0 p1@1{1,2,3} a0 v1/0{1,2,3}{1} y- r[] o[] x{} b0" ∷
    "= 23" ∷
    "2 RegPrim c1 g3 w0 p1@1{1,2,3} a0 v1/0{1,2,3}{2} y- r[] o[] x{} b0" ∷
    "= 24" ∷
    "3 RegPrim c1 g3 w0 p1@1{1,2,3} a0 v1/0{1,2,3}{3} y- r[] o[] x{} b0" ∷
    "reply 3:1 done" ∷
    "= 25" ∷
    "relaxed 2 \"te\\\"xt\" 3" ∷
    "= 26" ∷
    "made 1:2 del \"x\"" ∷
    "1 RegPrim c1 g3 w0 p1@1{1,2,3} a0 v1/0{1,2,3}{1} y- r[] o[1:2] x{} b0" ∷
    "= 27" ∷
    "made 2:2 inc \"x\" -10" ∷
    "2 RegPrim c1 g3 w0 p1@1{1,2,3} a0 v1/0{1,2,3}{2} y- r[] o[2:2] x{} b0" ∷
    "= 29" ∷
    "order 4 1:2" ∷
    "order 5 2:2" ∷
    "1 RegPrim c1 g5 w2 p1@1{1,2,3} a0 v1/0{1,2,3}{1} y- r[] o[] x{} b0" ∷
    "reply 1:2 done" ∷
    "= 30" ∷
    "2 RegPrim c1 g5 w2 p1@1{1,2,3} a0 v1/0{1,2,3}{2} y- r[] o[] x{} b0" ∷
    "reply 2:2 done" ∷
    "= 31" ∷
    "3 RegPrim c1 g5 w2 p1@1{1,2,3} a0 v1/0{1,2,3}{3} y- r[] o[] x{} b0" ∷
    "= 32" ∷
    "relaxed 1 absent -7" ∷
    "= 33" ∷
    "joined 1 2 absent -7" ∷
    "= 34" ∷
    "relaxed 1 absent 0" ∷
    "= 35" ∷
    "relaxed 1 absent 0" ∷
    "= 36" ∷
    "made 1:3 del \"never\"" ∷
    "1 RegPrim c1 g5 w2 p1@1{1,2,3} a0 v1/0{1,2,3}{1} y- r[] o[1:3] x{} b0" ∷
    "= 38" ∷
    "order 6 1:3" ∷
    "1 RegPrim c1 g6 w2 p1@1{1,2,3} a0 v1/0{1,2,3}{1} y- r[] o[] x{} b0" ∷
    "reply 1:3 done" ∷
    "= 39" ∷
    "2 RegPrim c1 g6 w2 p1@1{1,2,3} a0 v1/0{1,2,3}{2} y- r[] o[] x{} b0" ∷
    "= 40" ∷
    "3 RegPrim c1 g6 w2 p1@1{1,2,3} a0 v1/0{1,2,3}{3} y- r[] o[] x{} b0" ∷
    "= 41" ∷
    "relaxed 1 absent 0" ∷
    "end 41" ∷
    [])
unfolding cases_compute
relaxed_registers_and_sums = refl

-- A delivery struck before its commit leaves nothing known of it, and one struck after it all.
relaxed_struck_delivery :
    put_by "relaxed" (
    "start 1 2 3" ∷
    "merge 1 2 3" ∷
    "rounds 2" ∷
    "request 2 inc \"x\" 2; put \"x\" 7" ∷
    "gather" ∷
    "stop 1 3 -" ∷
    "stop 3 3 01" ∷
    "deliver 1 1" ∷
    "deliver 3 1" ∷
    "deliver 2 1" ∷
    "recover 1" ∷
    "recover 3" ∷
    "relaxed 1 \"x\"" ∷
    "relaxed 3 \"x\"" ∷
    "relaxed 2 \"x\"" ∷
    "joined 1 3 \"x\"" ∷
    "end" ∷
    [])
    ≡ written (
    "= 1" ∷
    "1 NonPrim - g0 w0 p0@0{1,2,3} a0 v- y- r[] o[] x{} b0" ∷
    "2 NonPrim - g0 w0 p0@0{1,2,3} a0 v- y- r[] o[] x{} b0" ∷
    "3 NonPrim - g0 w0 p0@0{1,2,3} a0 v- y- r[] o[] x{} b0" ∷
    "= 2" ∷
    "1 ExchangeStates c1 g0 w0 p0@0{1,2,3} a0 v- y- r[] o[] x{} b0" ∷
    "2 ExchangeStates c1 g0 w0 p0@0{1,2,3} a0 v- y- r[] o[] x{} b0" ∷
    "3 ExchangeStates c1 g0 w0 p0@0{1,2,3} a0 v- y- r[] o[] x{} b0" ∷
    "= 4" ∷
    "1 Construct c1 g0 w0 p0@0{1,2,3} a1 v1/0{1,2,3}{1} y- r[] o[] x{} b0" ∷
    "= 5" ∷
    "2 Construct c1 g0 w0 p0@0{1,2,3} a1 v1/0{1,2,3}{2} y- r[] o[] x{} b0" ∷
    "= 6" ∷
    "3 Construct c1 g0 w0 p0@0{1,2,3} a1 v1/0{1,2,3}{3} y- r[] o[] x{} b0" ∷
    "= 8" ∷
    "1 RegPrim c1 g0 w0 p1@1{1,2,3} a0 v1/0{1,2,3}{1} y- r[] o[] x{} b0" ∷
    "= 9" ∷
    "2 RegPrim c1 g0 w0 p1@1{1,2,3} a0 v1/0{1,2,3}{2} y- r[] o[] x{} b0" ∷
    "= 10" ∷
    "3 RegPrim c1 g0 w0 p1@1{1,2,3} a0 v1/0{1,2,3}{3} y- r[] o[] x{} b0" ∷
    "= 11" ∷
    "made 2:1 inc \"x\" 2; put \"x\" 7" ∷
    "2 RegPrim c1 g0 w0 p1@1{1,2,3} a0 v1/0{1,2,3}{2} y- r[] o[2:1] x{} b0" ∷
    "= 15" ∷
    "1 Down" ∷
    "= 16" ∷
    "3 Down" ∷
    "= 17" ∷
    "order 1 2:1" ∷
    "2 RegPrim c1 g1 w0 p1@1{1,2,3} a0 v1/0{1,2,3}{2} y- r[] o[] x{} b0" ∷
    "reply 2:1 done" ∷
    "= 18" ∷
    "1 NonPrim - g0 w0 p1@1{1,2,3} a0 v1/0{1,2,3}{1} y- r[] o[] x{} b0" ∷
    "= 19" ∷
    "3 NonPrim - g1 w0 p1@1{1,2,3} a0 v1/0{1,2,3}{3} y- r[] o[] x{} b0" ∷
    "= 20" ∷
    "relaxed 1 absent 0" ∷
    "= 21" ∷
    "relaxed 3 7 2" ∷
    "= 22" ∷
    "relaxed 2 7 2" ∷
    "= 23" ∷
    "joined 1 3 7 2" ∷
    "end 23" ∷
    [])
unfolding cases_compute
relaxed_struck_delivery = refl

-- A sum goes past what a counter of the database holds, up and down.
relaxed_sums_past_the_counters :
    put_by "relaxed" (
    "start 1 2 3" ∷
    "merge 1 2 3" ∷
    "rounds 2" ∷
    "request 1 inc \"b\" 9223372036854775807; inc \"b\" 9223372036854775807; inc \"c\" -9223372036854775808" ∷
    "request 2 inc \"b\" 9223372036854775807" ∷
    "request 3 inc \"c\" -9223372036854775808; inc \"c\" -9223372036854775808" ∷
    "rounds 1" ∷
    "relaxed 1 \"b\"" ∷
    "relaxed 1 \"c\"" ∷
    "joined 1 3 \"b\"" ∷
    "end" ∷
    [])
    ≡ written (
    "= 1" ∷
    "1 NonPrim - g0 w0 p0@0{1,2,3} a0 v- y- r[] o[] x{} b0" ∷
    "2 NonPrim - g0 w0 p0@0{1,2,3} a0 v- y- r[] o[] x{} b0" ∷
    "3 NonPrim - g0 w0 p0@0{1,2,3} a0 v- y- r[] o[] x{} b0" ∷
    "= 2" ∷
    "1 ExchangeStates c1 g0 w0 p0@0{1,2,3} a0 v- y- r[] o[] x{} b0" ∷
    "2 ExchangeStates c1 g0 w0 p0@0{1,2,3} a0 v- y- r[] o[] x{} b0" ∷
    "3 ExchangeStates c1 g0 w0 p0@0{1,2,3} a0 v- y- r[] o[] x{} b0" ∷
    "= 4" ∷
    "1 Construct c1 g0 w0 p0@0{1,2,3} a1 v1/0{1,2,3}{1} y- r[] o[] x{} b0" ∷
    "= 5" ∷
    "2 Construct c1 g0 w0 p0@0{1,2,3} a1 v1/0{1,2,3}{2} y- r[] o[] x{} b0" ∷
    "= 6" ∷
    "3 Construct c1 g0 w0 p0@0{1,2,3} a1 v1/0{1,2,3}{3} y- r[] o[] x{} b0" ∷
    "= 8" ∷
    "1 RegPrim c1 g0 w0 p1@1{1,2,3} a0 v1/0{1,2,3}{1} y- r[] o[] x{} b0" ∷
    "= 9" ∷
    "2 RegPrim c1 g0 w0 p1@1{1,2,3} a0 v1/0{1,2,3}{2} y- r[] o[] x{} b0" ∷
    "= 10" ∷
    "3 RegPrim c1 g0 w0 p1@1{1,2,3} a0 v1/0{1,2,3}{3} y- r[] o[] x{} b0" ∷
    "= 11" ∷
    "made 1:1 inc \"b\" 9223372036854775807; inc \"b\" 9223372036854775807; inc \"c\" -9223372036854775808" ∷
    "1 RegPrim c1 g0 w0 p1@1{1,2,3} a0 v1/0{1,2,3}{1} y- r[] o[1:1] x{} b0" ∷
    "= 12" ∷
    "made 2:1 inc \"b\" 9223372036854775807" ∷
    "2 RegPrim c1 g0 w0 p1@1{1,2,3} a0 v1/0{1,2,3}{2} y- r[] o[2:1] x{} b0" ∷
    "= 13" ∷
    "made 3:1 inc \"c\" -9223372036854775808; inc \"c\" -9223372036854775808" ∷
    "3 RegPrim c1 g0 w0 p1@1{1,2,3} a0 v1/0{1,2,3}{3} y- r[] o[3:1] x{} b0" ∷
    "= 15" ∷
    "order 1 1:1" ∷
    "order 2 2:1" ∷
    "order 3 3:1" ∷
    "1 RegPrim c1 g3 w0 p1@1{1,2,3} a0 v1/0{1,2,3}{1} y- r[] o[] x{} b0" ∷
    "reply 1:1 range 2" ∷
    "= 16" ∷
    "2 RegPrim c1 g3 w0 p1@1{1,2,3} a0 v1/0{1,2,3}{2} y- r[] o[] x{} b0" ∷
    "reply 2:1 done" ∷
    "= 17" ∷
    "3 RegPrim c1 g3 w0 p1@1{1,2,3} a0 v1/0{1,2,3}{3} y- r[] o[] x{} b0" ∷
    "reply 3:1 range 2" ∷
    "= 18" ∷
    "relaxed 1 absent 27670116110564327421" ∷
    "= 19" ∷
    "relaxed 1 absent -27670116110564327424" ∷
    "= 20" ∷
    "joined 1 3 absent 27670116110564327421" ∷
    "end 20" ∷
    [])
unfolding cases_compute
relaxed_sums_past_the_counters = refl

-- A relaxed query after the end is misplaced, whatever follows its word.
relaxed_syntax_after_the_end :
    put_by "relaxed" (
    "start 1" ∷
    "merge 1" ∷
    "rounds 2" ∷
    "end" ∷
    "joined" ∷
    [])
    ≡ written (
    "= 1" ∷
    "1 NonPrim - g0 w0 p0@0{1} a0 v- y- r[] o[] x{} b0" ∷
    "= 2" ∷
    "1 ExchangeStates c1 g0 w0 p0@0{1} a0 v- y- r[] o[] x{} b0" ∷
    "= 4" ∷
    "1 Construct c1 g0 w0 p0@0{1} a1 v1/0{1}{1} y- r[] o[] x{} b0" ∷
    "= 6" ∷
    "1 RegPrim c1 g0 w0 p1@1{1} a0 v1/0{1}{1} y- r[] o[] x{} b0" ∷
    "syntax 5 9" ∷
    [])
unfolding cases_compute
relaxed_syntax_after_the_end = refl

-- A relaxed query before the start is misplaced.
relaxed_syntax_before_the_start :
    put_by "relaxed" (
    "# none" ∷
    "relaxed 1 \"x\"" ∷
    [])
    ≡ written (
    "syntax 2 9" ∷
    [])
unfolding cases_compute
relaxed_syntax_before_the_start = refl

-- A key has one byte or more.
relaxed_syntax_empty_key :
    put_by "relaxed" (
    "start 1" ∷
    "merge 1" ∷
    "rounds 2" ∷
    "relaxed 1 \"\"" ∷
    [])
    ≡ written (
    "= 1" ∷
    "1 NonPrim - g0 w0 p0@0{1} a0 v- y- r[] o[] x{} b0" ∷
    "= 2" ∷
    "1 ExchangeStates c1 g0 w0 p0@0{1} a0 v- y- r[] o[] x{} b0" ∷
    "= 4" ∷
    "1 Construct c1 g0 w0 p0@0{1} a1 v1/0{1}{1} y- r[] o[] x{} b0" ∷
    "= 6" ∷
    "1 RegPrim c1 g0 w0 p1@1{1} a0 v1/0{1}{1} y- r[] o[] x{} b0" ∷
    "syntax 4 6" ∷
    [])
unfolding cases_compute
relaxed_syntax_empty_key = refl

-- A question mark is no key.
relaxed_syntax_key_that_is_a_sign :
    put_by "relaxed" (
    "start 1" ∷
    "merge 1" ∷
    "rounds 2" ∷
    "joined 1 1 ?" ∷
    [])
    ≡ written (
    "= 1" ∷
    "1 NonPrim - g0 w0 p0@0{1} a0 v- y- r[] o[] x{} b0" ∷
    "= 2" ∷
    "1 ExchangeStates c1 g0 w0 p0@0{1} a0 v- y- r[] o[] x{} b0" ∷
    "= 4" ∷
    "1 Construct c1 g0 w0 p0@0{1} a1 v1/0{1}{1} y- r[] o[] x{} b0" ∷
    "= 6" ∷
    "1 RegPrim c1 g0 w0 p1@1{1} a0 v1/0{1}{1} y- r[] o[] x{} b0" ∷
    "syntax 4 6" ∷
    [])
unfolding cases_compute
relaxed_syntax_key_that_is_a_sign = refl

-- A key has at most 64 bytes.
relaxed_syntax_key_too_long :
    put_by "relaxed" (
    "start 1" ∷
    "merge 1" ∷
    "rounds 2" ∷
    "relaxed 1 \"kkkkkkkkkkkkkkkkkkkkkkkkkkkkkkkkkkkkkkkkkkkkkkkkkkkkkkkkkkkkkkkkk\"" ∷
    [])
    ≡ written (
    "= 1" ∷
    "1 NonPrim - g0 w0 p0@0{1} a0 v- y- r[] o[] x{} b0" ∷
    "= 2" ∷
    "1 ExchangeStates c1 g0 w0 p0@0{1} a0 v- y- r[] o[] x{} b0" ∷
    "= 4" ∷
    "1 Construct c1 g0 w0 p0@0{1} a1 v1/0{1}{1} y- r[] o[] x{} b0" ∷
    "= 6" ∷
    "1 RegPrim c1 g0 w0 p1@1{1} a0 v1/0{1}{1} y- r[] o[] x{} b0" ∷
    "syntax 4 6" ∷
    [])
unfolding cases_compute
relaxed_syntax_key_too_long = refl

-- A key is quoted.
relaxed_syntax_key_without_quotes :
    put_by "relaxed" (
    "start 1" ∷
    "merge 1" ∷
    "rounds 2" ∷
    "relaxed 1 x" ∷
    [])
    ≡ written (
    "= 1" ∷
    "1 NonPrim - g0 w0 p0@0{1} a0 v- y- r[] o[] x{} b0" ∷
    "= 2" ∷
    "1 ExchangeStates c1 g0 w0 p0@0{1} a0 v- y- r[] o[] x{} b0" ∷
    "= 4" ∷
    "1 Construct c1 g0 w0 p0@0{1} a1 v1/0{1}{1} y- r[] o[] x{} b0" ∷
    "= 6" ∷
    "1 RegPrim c1 g0 w0 p1@1{1} a0 v1/0{1}{1} y- r[] o[] x{} b0" ∷
    "syntax 4 6" ∷
    [])
unfolding cases_compute
relaxed_syntax_key_without_quotes = refl

-- A replica is 1 to 32.
relaxed_syntax_replica_past_its_range :
    put_by "relaxed" (
    "start 1" ∷
    "merge 1" ∷
    "rounds 2" ∷
    "joined 1 033 \"x\"" ∷
    [])
    ≡ written (
    "= 1" ∷
    "1 NonPrim - g0 w0 p0@0{1} a0 v- y- r[] o[] x{} b0" ∷
    "= 2" ∷
    "1 ExchangeStates c1 g0 w0 p0@0{1} a0 v- y- r[] o[] x{} b0" ∷
    "= 4" ∷
    "1 Construct c1 g0 w0 p0@0{1} a1 v1/0{1}{1} y- r[] o[] x{} b0" ∷
    "= 6" ∷
    "1 RegPrim c1 g0 w0 p1@1{1} a0 v1/0{1}{1} y- r[] o[] x{} b0" ∷
    "syntax 4 5" ∷
    [])
unfolding cases_compute
relaxed_syntax_replica_past_its_range = refl

-- Nothing follows the key.
relaxed_syntax_two_keys :
    put_by "relaxed" (
    "start 1" ∷
    "merge 1" ∷
    "rounds 2" ∷
    "relaxed 1 \"x\" \"y\"" ∷
    [])
    ≡ written (
    "= 1" ∷
    "1 NonPrim - g0 w0 p0@0{1} a0 v- y- r[] o[] x{} b0" ∷
    "= 2" ∷
    "1 ExchangeStates c1 g0 w0 p0@0{1} a0 v- y- r[] o[] x{} b0" ∷
    "= 4" ∷
    "1 Construct c1 g0 w0 p0@0{1} a1 v1/0{1}{1} y- r[] o[] x{} b0" ∷
    "= 6" ∷
    "1 RegPrim c1 g0 w0 p1@1{1} a0 v1/0{1}{1} y- r[] o[] x{} b0" ∷
    "syntax 4 4" ∷
    [])
unfolding cases_compute
relaxed_syntax_two_keys = refl

-- A relaxed query has a key.
relaxed_syntax_without_its_key :
    put_by "relaxed" (
    "start 1" ∷
    "merge 1" ∷
    "rounds 2" ∷
    "relaxed 1" ∷
    [])
    ≡ written (
    "= 1" ∷
    "1 NonPrim - g0 w0 p0@0{1} a0 v- y- r[] o[] x{} b0" ∷
    "= 2" ∷
    "1 ExchangeStates c1 g0 w0 p0@0{1} a0 v- y- r[] o[] x{} b0" ∷
    "= 4" ∷
    "1 Construct c1 g0 w0 p0@0{1} a1 v1/0{1}{1} y- r[] o[] x{} b0" ∷
    "= 6" ∷
    "1 RegPrim c1 g0 w0 p1@1{1} a0 v1/0{1}{1} y- r[] o[] x{} b0" ∷
    "syntax 4 3" ∷
    [])
unfolding cases_compute
relaxed_syntax_without_its_key = refl

-- A joined query has two replicas: the key stands where a number must.
relaxed_syntax_without_its_second_replica :
    put_by "relaxed" (
    "start 1" ∷
    "merge 1" ∷
    "rounds 2" ∷
    "joined 1 \"x\"" ∷
    [])
    ≡ written (
    "= 1" ∷
    "1 NonPrim - g0 w0 p0@0{1} a0 v- y- r[] o[] x{} b0" ∷
    "= 2" ∷
    "1 ExchangeStates c1 g0 w0 p0@0{1} a0 v- y- r[] o[] x{} b0" ∷
    "= 4" ∷
    "1 Construct c1 g0 w0 p0@0{1} a1 v1/0{1}{1} y- r[] o[] x{} b0" ∷
    "= 6" ∷
    "1 RegPrim c1 g0 w0 p1@1{1} a0 v1/0{1}{1} y- r[] o[] x{} b0" ∷
    "syntax 4 5" ∷
    [])
unfolding cases_compute
relaxed_syntax_without_its_second_replica = refl

-- The words of relaxed queries are in small letters.
relaxed_syntax_word_in_capitals :
    put_by "relaxed" (
    "start 1" ∷
    "merge 1" ∷
    "rounds 2" ∷
    "RELAXED 1 \"x\"" ∷
    [])
    ≡ written (
    "= 1" ∷
    "1 NonPrim - g0 w0 p0@0{1} a0 v- y- r[] o[] x{} b0" ∷
    "= 2" ∷
    "1 ExchangeStates c1 g0 w0 p0@0{1} a0 v- y- r[] o[] x{} b0" ∷
    "= 4" ∷
    "1 Construct c1 g0 w0 p0@0{1} a1 v1/0{1}{1} y- r[] o[] x{} b0" ∷
    "= 6" ∷
    "1 RegPrim c1 g0 w0 p1@1{1} a0 v1/0{1}{1} y- r[] o[] x{} b0" ∷
    "syntax 4 2" ∷
    [])
unfolding cases_compute
relaxed_syntax_word_in_capitals = refl

-- A word of followers is none here.
relaxed_syntax_word_of_followers :
    put_by "relaxed" (
    "start 1" ∷
    "merge 1" ∷
    "rounds 2" ∷
    "frecover 1" ∷
    [])
    ≡ written (
    "= 1" ∷
    "1 NonPrim - g0 w0 p0@0{1} a0 v- y- r[] o[] x{} b0" ∷
    "= 2" ∷
    "1 ExchangeStates c1 g0 w0 p0@0{1} a0 v- y- r[] o[] x{} b0" ∷
    "= 4" ∷
    "1 Construct c1 g0 w0 p0@0{1} a1 v1/0{1}{1} y- r[] o[] x{} b0" ∷
    "= 6" ∷
    "1 RegPrim c1 g0 w0 p1@1{1} a0 v1/0{1}{1} y- r[] o[] x{} b0" ∷
    "syntax 4 2" ∷
    [])
unfolding cases_compute
relaxed_syntax_word_of_followers = refl

-- What three components know is joined in pairs: sums of one creator are counted once, and each pair is the same either way.
relaxed_three_components :
    put_by "relaxed" (
    "start 1 2 3 4 5" ∷
    "merge 1 2 3 4 5" ∷
    "rounds 2" ∷
    "request 1 inc \"s\" 1" ∷
    "request 4 inc \"s\" 100" ∷
    "rounds 1" ∷
    "split 1 2 3" ∷
    "split 4" ∷
    "split 5" ∷
    "merge 1 2 3" ∷
    "merge 4" ∷
    "merge 5" ∷
    "rounds 2" ∷
    "request 1 inc \"s\" 2" ∷
    "request 4 inc \"s\" 200" ∷
    "request 4 put \"s\" 4" ∷
    "request 5 put \"s\" 5" ∷
    "request 5 inc \"s\" 1000" ∷
    "rounds 1" ∷
    "relaxed 1 \"s\"" ∷
    "relaxed 4 \"s\"" ∷
    "relaxed 5 \"s\"" ∷
    "joined 1 4 \"s\"" ∷
    "joined 4 1 \"s\"" ∷
    "joined 1 5 \"s\"" ∷
    "joined 4 5 \"s\"" ∷
    "joined 5 4 \"s\"" ∷
    "joined 4 4 \"s\"" ∷
    "joined 2 5 \"s\"" ∷
    "end" ∷
    [])
    ≡ written (
    "= 1" ∷
    "1 NonPrim - g0 w0 p0@0{1,2,3,4,5} a0 v- y- r[] o[] x{} b0" ∷
    "2 NonPrim - g0 w0 p0@0{1,2,3,4,5} a0 v- y- r[] o[] x{} b0" ∷
    "3 NonPrim - g0 w0 p0@0{1,2,3,4,5} a0 v- y- r[] o[] x{} b0" ∷
    "4 NonPrim - g0 w0 p0@0{1,2,3,4,5} a0 v- y- r[] o[] x{} b0" ∷
    "5 NonPrim - g0 w0 p0@0{1,2,3,4,5} a0 v- y- r[] o[] x{} b0" ∷
    "= 2" ∷
    "1 ExchangeStates c1 g0 w0 p0@0{1,2,3,4,5} a0 v- y- r[] o[] x{} b0" ∷
    "2 ExchangeStates c1 g0 w0 p0@0{1,2,3,4,5} a0 v- y- r[] o[] x{} b0" ∷
    "3 ExchangeStates c1 g0 w0 p0@0{1,2,3,4,5} a0 v- y- r[] o[] x{} b0" ∷
    "4 ExchangeStates c1 g0 w0 p0@0{1,2,3,4,5} a0 v- y- r[] o[] x{} b0" ∷
    "5 ExchangeStates c1 g0 w0 p0@0{1,2,3,4,5} a0 v- y- r[] o[] x{} b0" ∷
    "= 4" ∷
    "1 Construct c1 g0 w0 p0@0{1,2,3,4,5} a1 v1/0{1,2,3,4,5}{1} y- r[] o[] x{} b0" ∷
    "= 5" ∷
    "2 Construct c1 g0 w0 p0@0{1,2,3,4,5} a1 v1/0{1,2,3,4,5}{2} y- r[] o[] x{} b0" ∷
    "= 6" ∷
    "3 Construct c1 g0 w0 p0@0{1,2,3,4,5} a1 v1/0{1,2,3,4,5}{3} y- r[] o[] x{} b0" ∷
    "= 7" ∷
    "4 Construct c1 g0 w0 p0@0{1,2,3,4,5} a1 v1/0{1,2,3,4,5}{4} y- r[] o[] x{} b0" ∷
    "= 8" ∷
    "5 Construct c1 g0 w0 p0@0{1,2,3,4,5} a1 v1/0{1,2,3,4,5}{5} y- r[] o[] x{} b0" ∷
    "= 10" ∷
    "1 RegPrim c1 g0 w0 p1@1{1,2,3,4,5} a0 v1/0{1,2,3,4,5}{1} y- r[] o[] x{} b0" ∷
    "= 11" ∷
    "2 RegPrim c1 g0 w0 p1@1{1,2,3,4,5} a0 v1/0{1,2,3,4,5}{2} y- r[] o[] x{} b0" ∷
    "= 12" ∷
    "3 RegPrim c1 g0 w0 p1@1{1,2,3,4,5} a0 v1/0{1,2,3,4,5}{3} y- r[] o[] x{} b0" ∷
    "= 13" ∷
    "4 RegPrim c1 g0 w0 p1@1{1,2,3,4,5} a0 v1/0{1,2,3,4,5}{4} y- r[] o[] x{} b0" ∷
    "= 14" ∷
    "5 RegPrim c1 g0 w0 p1@1{1,2,3,4,5} a0 v1/0{1,2,3,4,5}{5} y- r[] o[] x{} b0" ∷
    "= 15" ∷
    "made 1:1 inc \"s\" 1" ∷
    "1 RegPrim c1 g0 w0 p1@1{1,2,3,4,5} a0 v1/0{1,2,3,4,5}{1} y- r[] o[1:1] x{} b0" ∷
    "= 16" ∷
    "made 4:1 inc \"s\" 100" ∷
    "4 RegPrim c1 g0 w0 p1@1{1,2,3,4,5} a0 v1/0{1,2,3,4,5}{4} y- r[] o[4:1] x{} b0" ∷
    "= 18" ∷
    "order 1 1:1" ∷
    "order 2 4:1" ∷
    "1 RegPrim c1 g2 w0 p1@1{1,2,3,4,5} a0 v1/0{1,2,3,4,5}{1} y- r[] o[] x{} b0" ∷
    "reply 1:1 done" ∷
    "= 19" ∷
    "2 RegPrim c1 g2 w0 p1@1{1,2,3,4,5} a0 v1/0{1,2,3,4,5}{2} y- r[] o[] x{} b0" ∷
    "= 20" ∷
    "3 RegPrim c1 g2 w0 p1@1{1,2,3,4,5} a0 v1/0{1,2,3,4,5}{3} y- r[] o[] x{} b0" ∷
    "= 21" ∷
    "4 RegPrim c1 g2 w0 p1@1{1,2,3,4,5} a0 v1/0{1,2,3,4,5}{4} y- r[] o[] x{} b0" ∷
    "reply 4:1 done" ∷
    "= 22" ∷
    "5 RegPrim c1 g2 w0 p1@1{1,2,3,4,5} a0 v1/0{1,2,3,4,5}{5} y- r[] o[] x{} b0" ∷
    "= 23" ∷
    "1 TransPrim t1 g2 w0 p1@1{1,2,3,4,5} a0 v1/0{1,2,3,4,5}{1} y- r[] o[] x{} b0" ∷
    "2 TransPrim t1 g2 w0 p1@1{1,2,3,4,5} a0 v1/0{1,2,3,4,5}{2} y- r[] o[] x{} b0" ∷
    "3 TransPrim t1 g2 w0 p1@1{1,2,3,4,5} a0 v1/0{1,2,3,4,5}{3} y- r[] o[] x{} b0" ∷
    "= 24" ∷
    "4 TransPrim t1 g2 w0 p1@1{1,2,3,4,5} a0 v1/0{1,2,3,4,5}{4} y- r[] o[] x{} b0" ∷
    "= 25" ∷
    "5 TransPrim t1 g2 w0 p1@1{1,2,3,4,5} a0 v1/0{1,2,3,4,5}{5} y- r[] o[] x{} b0" ∷
    "= 26" ∷
    "1 ExchangeStates c2 g2 w0 p1@1{1,2,3,4,5} a0 v- y![] r[] o[] x{} b0" ∷
    "2 ExchangeStates c2 g2 w0 p1@1{1,2,3,4,5} a0 v- y![] r[] o[] x{} b0" ∷
    "3 ExchangeStates c2 g2 w0 p1@1{1,2,3,4,5} a0 v- y![] r[] o[] x{} b0" ∷
    "= 27" ∷
    "4 ExchangeStates c3 g2 w0 p1@1{1,2,3,4,5} a0 v- y![] r[] o[] x{} b0" ∷
    "= 28" ∷
    "5 ExchangeStates c4 g2 w0 p1@1{1,2,3,4,5} a0 v- y![] r[] o[] x{} b0" ∷
    "= 30" ∷
    "1 Construct c2 g2 w0 p1@1{1,2,3,4,5} a1 v2/1{1,2,3}{1} y![] r[] o[] x{} b0" ∷
    "= 31" ∷
    "2 Construct c2 g2 w0 p1@1{1,2,3,4,5} a1 v2/1{1,2,3}{2} y![] r[] o[] x{} b0" ∷
    "= 32" ∷
    "3 Construct c2 g2 w0 p1@1{1,2,3,4,5} a1 v2/1{1,2,3}{3} y![] r[] o[] x{} b0" ∷
    "= 33" ∷
    "4 NonPrim c3 g2 w0 p1@1{1,2,3,4,5} a0 v- y![] r[] o[] x{} b0" ∷
    "= 34" ∷
    "5 NonPrim c4 g2 w0 p1@1{1,2,3,4,5} a0 v- y![] r[] o[] x{} b0" ∷
    "= 36" ∷
    "1 RegPrim c2 g2 w0 p2@2{1,2,3} a0 v2/1{1,2,3}{1} y- r[] o[] x{} b0" ∷
    "= 37" ∷
    "2 RegPrim c2 g2 w0 p2@2{1,2,3} a0 v2/1{1,2,3}{2} y- r[] o[] x{} b0" ∷
    "= 38" ∷
    "3 RegPrim c2 g2 w0 p2@2{1,2,3} a0 v2/1{1,2,3}{3} y- r[] o[] x{} b0" ∷
    "= 39" ∷
    "made 1:2 inc \"s\" 2" ∷
    "1 RegPrim c2 g2 w0 p2@2{1,2,3} a0 v2/1{1,2,3}{1} y- r[] o[1:2] x{} b0" ∷
    "= 40" ∷
    "made 4:2 inc \"s\" 200" ∷
    "4 NonPrim c3 g2 w0 p1@1{1,2,3,4,5} a0 v- y![] r[] o[4:2] x{} b0" ∷
    "= 41" ∷
    "made 4:3 put \"s\" 4" ∷
    "4 NonPrim c3 g2 w0 p1@1{1,2,3,4,5} a0 v- y![] r[] o[4:2,4:3] x{} b0" ∷
    "= 42" ∷
    "made 5:1 put \"s\" 5" ∷
    "5 NonPrim c4 g2 w0 p1@1{1,2,3,4,5} a0 v- y![] r[] o[5:1] x{} b0" ∷
    "= 43" ∷
    "made 5:2 inc \"s\" 1000" ∷
    "5 NonPrim c4 g2 w0 p1@1{1,2,3,4,5} a0 v- y![] r[] o[5:1,5:2] x{} b0" ∷
    "= 45" ∷
    "order 3 1:2" ∷
    "1 RegPrim c2 g3 w0 p2@2{1,2,3} a0 v2/1{1,2,3}{1} y- r[] o[] x{} b0" ∷
    "reply 1:2 done" ∷
    "= 46" ∷
    "2 RegPrim c2 g3 w0 p2@2{1,2,3} a0 v2/1{1,2,3}{2} y- r[] o[] x{} b0" ∷
    "= 47" ∷
    "3 RegPrim c2 g3 w0 p2@2{1,2,3} a0 v2/1{1,2,3}{3} y- r[] o[] x{} b0" ∷
    "= 48" ∷
    "4 NonPrim c3 g2 w0 p1@1{1,2,3,4,5} a0 v- y![] r[4:2,4:3] o[] x{} b0" ∷
    "= 49" ∷
    "5 NonPrim c4 g2 w0 p1@1{1,2,3,4,5} a0 v- y![] r[5:1,5:2] o[] x{} b0" ∷
    "= 50" ∷
    "relaxed 1 absent 103" ∷
    "= 51" ∷
    "relaxed 4 4 301" ∷
    "= 52" ∷
    "relaxed 5 5 1101" ∷
    "= 53" ∷
    "joined 1 4 4 303" ∷
    "= 54" ∷
    "joined 4 1 4 303" ∷
    "= 55" ∷
    "joined 1 5 5 1103" ∷
    "= 56" ∷
    "joined 4 5 4 1301" ∷
    "= 57" ∷
    "joined 5 4 4 1301" ∷
    "= 58" ∷
    "joined 4 4 4 301" ∷
    "= 59" ∷
    "joined 2 5 5 1103" ∷
    "end 59" ∷
    [])
unfolding cases_compute
relaxed_three_components = refl

-- An own action is known once it is delivered, or red after a recovery.
relaxed_undelivered_own_are_not_known :
    put_by "relaxed" (
    "start 1 2 3" ∷
    "merge 1 2 3" ∷
    "rounds 2" ∷
    "request 1 inc \"x\" 1" ∷
    "relaxed 1 \"x\"" ∷
    "order 1" ∷
    "relaxed 1 \"x\"" ∷
    "gather" ∷
    "relaxed 2 \"x\"" ∷
    "deliver 2 1" ∷
    "relaxed 2 \"x\"" ∷
    "relaxed 1 \"x\"" ∷
    "joined 1 2 \"x\"" ∷
    "joined 1 3 \"x\"" ∷
    "stop 1 0 -" ∷
    "recover 1" ∷
    "relaxed 1 \"x\"" ∷
    "end" ∷
    [])
    ≡ written (
    "= 1" ∷
    "1 NonPrim - g0 w0 p0@0{1,2,3} a0 v- y- r[] o[] x{} b0" ∷
    "2 NonPrim - g0 w0 p0@0{1,2,3} a0 v- y- r[] o[] x{} b0" ∷
    "3 NonPrim - g0 w0 p0@0{1,2,3} a0 v- y- r[] o[] x{} b0" ∷
    "= 2" ∷
    "1 ExchangeStates c1 g0 w0 p0@0{1,2,3} a0 v- y- r[] o[] x{} b0" ∷
    "2 ExchangeStates c1 g0 w0 p0@0{1,2,3} a0 v- y- r[] o[] x{} b0" ∷
    "3 ExchangeStates c1 g0 w0 p0@0{1,2,3} a0 v- y- r[] o[] x{} b0" ∷
    "= 4" ∷
    "1 Construct c1 g0 w0 p0@0{1,2,3} a1 v1/0{1,2,3}{1} y- r[] o[] x{} b0" ∷
    "= 5" ∷
    "2 Construct c1 g0 w0 p0@0{1,2,3} a1 v1/0{1,2,3}{2} y- r[] o[] x{} b0" ∷
    "= 6" ∷
    "3 Construct c1 g0 w0 p0@0{1,2,3} a1 v1/0{1,2,3}{3} y- r[] o[] x{} b0" ∷
    "= 8" ∷
    "1 RegPrim c1 g0 w0 p1@1{1,2,3} a0 v1/0{1,2,3}{1} y- r[] o[] x{} b0" ∷
    "= 9" ∷
    "2 RegPrim c1 g0 w0 p1@1{1,2,3} a0 v1/0{1,2,3}{2} y- r[] o[] x{} b0" ∷
    "= 10" ∷
    "3 RegPrim c1 g0 w0 p1@1{1,2,3} a0 v1/0{1,2,3}{3} y- r[] o[] x{} b0" ∷
    "= 11" ∷
    "made 1:1 inc \"x\" 1" ∷
    "1 RegPrim c1 g0 w0 p1@1{1,2,3} a0 v1/0{1,2,3}{1} y- r[] o[1:1] x{} b0" ∷
    "= 12" ∷
    "relaxed 1 absent 0" ∷
    "= 14" ∷
    "relaxed 1 absent 0" ∷
    "= 16" ∷
    "relaxed 2 absent 0" ∷
    "= 17" ∷
    "order 1 1:1" ∷
    "2 RegPrim c1 g1 w0 p1@1{1,2,3} a0 v1/0{1,2,3}{2} y- r[] o[] x{} b0" ∷
    "= 18" ∷
    "relaxed 2 absent 1" ∷
    "= 19" ∷
    "relaxed 1 absent 0" ∷
    "= 20" ∷
    "joined 1 2 absent 1" ∷
    "= 21" ∷
    "joined 1 3 absent 0" ∷
    "= 22" ∷
    "1 Down" ∷
    "= 23" ∷
    "1 NonPrim - g0 w0 p1@1{1,2,3} a0 v1/0{1,2,3}{1} y- r[1:1] o[] x{} b0" ∷
    "= 24" ∷
    "relaxed 1 absent 1" ∷
    "end 24" ∷
    [])
unfolding cases_compute
relaxed_undelivered_own_are_not_known = refl
