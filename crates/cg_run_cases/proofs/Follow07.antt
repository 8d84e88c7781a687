-- Cases of cases/ with their whole reports, which `.ci/theorems` writes down here.
use Rattle.std.specs.Prelude.{◌≡◌, [], ◌∷◌}
use mathlib.Core.Path.{refl}
use Rattle.cg_run_cases.specs.Replaying.{put_by, written}
use Rattle.cg_run_cases.specs.Computing.{cases_compute}

-- Follow: a follower is struck in a feed; it is asked after its recovery.
generated_follow_struck_feed_after_a :
    put_by "follow" (
    "start 1 2" ∷
    "merge 1 2" ∷
    "rounds 3" ∷
    "gather" ∷
    "follower 3 2" ∷
    "rounds 1" ∷
    "gather" ∷
    "leave 1 1" ∷
    "request 2 move \"x\" \"b\" 1 ? get \"y\"" ∷
    "rounds 2" ∷
    "request 2 put \"k1\" -9223372036854775808; cas \"k1\" 9223372036854775807 39" ∷
    "stop 1 0 01" ∷
    "recover 1" ∷
    "fstop 3 7 01" ∷
    "feed 2 3 1" ∷
    "request 2 need \"y\" absent" ∷
    "fweak 3 keys \"q\"" ∷
    "request 2 del \"x\"" ∷
    "rounds 3" ∷
    "rounds 2" ∷
    "feed 1 3 1" ∷
    "split 2" ∷
    "merge 1 2" ∷
    "rounds 1" ∷
    "gather" ∷
    "frecover 3" ∷
    "request 2 put \"a\" \"back\\\\slash\"; need \"z\" 28; need \"b\" 21; move \"ab\" \"b\" 9223372036854775807; put \"a\" 86; inc \"a\" 5; put \"b\" -1; inc \"b\" -3; inc \"y\" 7; cas \"x\" 54 80; move \"y\" \"y\" 0; inc \"ab\" -1; put \"z\" \"v\"; move \"ab\" \"z\" 1; need \"z\" absent; inc \"z\" 6" ∷
    "feed 2 3 3" ∷
    "split 1 2" ∷
    "merge 2" ∷
    "rounds 2" ∷
    "request 2 inc \"a\" 5" ∷
    "split 2" ∷
    "merge 2" ∷
    "rounds 4" ∷
    "fweak 3 count" ∷
    "feed 2 3 100" ∷
    "feed 2 3 1" ∷
    "split 2" ∷
    "merge 2" ∷
    "follower 1 2" ∷
    "split 2" ∷
    "feed 2 1 1000000" ∷
    "merge 2" ∷
    "follower 5 1" ∷
    "end" ∷
    [])
    ≡ written (
    "= 1" ∷
    "1 NonPrim - g0 w0 p0@0{1,2} a0 v- y- r[] o[] x{} b0" ∷
    "2 NonPrim - g0 w0 p0@0{1,2} a0 v- y- r[] o[] x{} b0" ∷
    "= 2" ∷
    "1 ExchangeStates c1 g0 w0 p0@0{1,2} a0 v- y- r[] o[] x{} b0" ∷
    "2 ExchangeStates c1 g0 w0 p0@0{1,2} a0 v- y- r[] o[] x{} b0" ∷
    "= 4" ∷
    "1 Construct c1 g0 w0 p0@0{1,2} a1 v1/0{1,2}{1} y- r[] o[] x{} b0" ∷
    "= 5" ∷
    "2 Construct c1 g0 w0 p0@0{1,2} a1 v1/0{1,2}{2} y- r[] o[] x{} b0" ∷
    "= 7" ∷
    "1 RegPrim c1 g0 w0 p1@1{1,2} a0 v1/0{1,2}{1} y- r[] o[] x{} b0" ∷
    "= 8" ∷
    "2 RegPrim c1 g0 w0 p1@1{1,2} a0 v1/0{1,2}{2} y- r[] o[] x{} b0" ∷
    "= 11" ∷
    "follower 3 0" ∷
    "= 14" ∷
    "made 1:1 leave 1" ∷
    "1 RegPrim c1 g0 w0 p1@1{1,2} a0 v1/0{1,2}{1} y- r[] o[1:1] x{} b0" ∷
    "= 15" ∷
    "made 2:1 move \"x\" \"b\" 1 ? get \"y\"" ∷
    "2 RegPrim c1 g0 w0 p1@1{1,2} a0 v1/0{1,2}{2} y- r[] o[2:1] x{} b0" ∷
    "= 17" ∷
    "order 1 1:1" ∷
    "order 2 2:1" ∷
    "1 RegPrim c1 g2 w0 p1@1{1,2} a0 v1/0{1,2}{1} y- r[] o[] x{1} b0" ∷
    "reply 1:1 done" ∷
    "= 18" ∷
    "2 RegPrim c1 g2 w0 p1@1{1,2} a0 v1/0{1,2}{2} y- r[] o[] x{1} b0" ∷
    "reply 2:1 aborted 1 ? absent" ∷
    "= 20" ∷
    "made 2:2 put \"k1\" -9223372036854775808; cas \"k1\" 9223372036854775807 39" ∷
    "2 RegPrim c1 g2 w0 p1@1{1,2} a0 v1/0{1,2}{2} y- r[] o[2:2] x{1} b0" ∷
    "= 21" ∷
    "1 Down" ∷
    "= 22" ∷
    "1 NonPrim - g2 w0 p1@1{1,2} a0 v1/0{1,2}{1} y- r[] o[] x{1} b0" ∷
    "= 24" ∷
    "follower 3 1" ∷
    "= 25" ∷
    "made 2:3 need \"y\" absent" ∷
    "2 RegPrim c1 g2 w0 p1@1{1,2} a0 v1/0{1,2}{2} y- r[] o[2:2,2:3] x{1} b0" ∷
    "= 26" ∷
    "fweak 3 keys" ∷
    "= 27" ∷
    "made 2:4 del \"x\"" ∷
    "2 RegPrim c1 g2 w0 p1@1{1,2} a0 v1/0{1,2}{2} y- r[] o[2:2,2:3,2:4] x{1} b0" ∷
    "= 33" ∷
    "follower 3 down" ∷
    "= 34" ∷
    "2 TransPrim t1 g2 w0 p1@1{1,2} a0 v1/0{1,2}{2} y?[2:2,2:3,2:4] r[] o[] x{1} b0" ∷
    "= 35" ∷
    "1 ExchangeStates c2 g2 w0 p1@1{1,2} a0 v1/0{1,2}{1} y- r[] o[] x{1} b0" ∷
    "2 ExchangeStates c2 g2 w0 p1@1{1,2} a0 v- y![2:2,2:3,2:4] r[] o[] x{1} b0" ∷
    "= 37" ∷
    "1 Left c2 g2 w0 p1@1{1,2} a0 v1/0{1,2}{1} y- r[] o[] x{1} b0" ∷
    "= 38" ∷
    "2 NonPrim c2 g2 w0 p1@1{1,2} a0 v- y![2:2,2:3,2:4] r[] o[] x{1} b0" ∷
    "= 40" ∷
    "follower 3 2" ∷
    "= 41" ∷
    "made 2:5 put \"a\" \"back\\\\slash\"; need \"z\" 28; need \"b\" 21; move \"ab\" \"b\" 9223372036854775807; put \"a\" 86; inc \"a\" 5; put \"b\" -1; inc \"b\" -3; inc \"y\" 7; cas \"x\" 54 80; move \"y\" \"y\" 0; inc \"ab\" -1; put \"z\" \"v\"; move \"ab\" \"z\" 1; need \"z\" absent; inc \"z\" 6" ∷
    "2 NonPrim c2 g2 w0 p1@1{1,2} a0 v- y![2:2,2:3,2:4] r[] o[2:5] x{1} b0" ∷
    "= 43" ∷
    "1 Left t2 g2 w0 p1@1{1,2} a0 v1/0{1,2}{1} y- r[] o[] x{1} b0" ∷
    "2 NonPrim t2 g2 w0 p1@1{1,2} a0 v- y![2:2,2:3,2:4] r[] o[2:5] x{1} b0" ∷
    "= 44" ∷
    "2 ExchangeStates c3 g2 w0 p1@1{1,2} a0 v- y![2:2,2:3,2:4] r[2:5] o[] x{1} b0" ∷
    "= 46" ∷
    "2 NonPrim c3 g2 w0 p1@1{1,2} a0 v- y![2:2,2:3,2:4] r[2:5] o[] x{1} b0" ∷
    "= 48" ∷
    "made 2:6 inc \"a\" 5" ∷
    "2 NonPrim c3 g2 w0 p1@1{1,2} a0 v- y![2:2,2:3,2:4] r[2:5] o[2:6] x{1} b0" ∷
    "= 49" ∷
    "2 NonPrim t3 g2 w0 p1@1{1,2} a0 v- y![2:2,2:3,2:4] r[2:5] o[2:6] x{1} b0" ∷
    "= 50" ∷
    "2 ExchangeStates c4 g2 w0 p1@1{1,2} a0 v- y![2:2,2:3,2:4] r[2:5,2:6] o[] x{1} b0" ∷
    "= 52" ∷
    "2 NonPrim c4 g2 w0 p1@1{1,2} a0 v- y![2:2,2:3,2:4] r[2:5,2:6] o[] x{1} b0" ∷
    "= 56" ∷
    "fweak 3 count 0" ∷
    "= 59" ∷
    "2 NonPrim t4 g2 w0 p1@1{1,2} a0 v- y![2:2,2:3,2:4] r[2:5,2:6] o[] x{1} b0" ∷
    "= 60" ∷
    "2 ExchangeStates c5 g2 w0 p1@1{1,2} a0 v- y![2:2,2:3,2:4] r[2:5,2:6] o[] x{1} b0" ∷
    "= 61" ∷
    "follower 1 2" ∷
    "= 62" ∷
    "2 NonPrim t5 g2 w0 p1@1{1,2} a0 v- y![2:2,2:3,2:4] r[2:5,2:6] o[] x{1} b0" ∷
    "= 64" ∷
    "2 ExchangeStates c6 g2 w0 p1@1{1,2} a0 v- y![2:2,2:3,2:4] r[2:5,2:6] o[] x{1} b0" ∷
    "refused 45 14 1" ∷
    [])
unfolding cases_compute
generated_follow_struck_feed_after_a = refl

-- Follow: a follower is struck in a feed; a replica crashes.
generated_follow_struck_feed_crash_a :
    put_by "follow" (
    "start 1" ∷
    "merge 1" ∷
    "rounds 3" ∷
    "show 1" ∷
    "gather" ∷
    "gather" ∷
    "follower 2 1" ∷
    "request 1 move \"y\" \"abc\" 8" ∷
    "request 1 put \"a\" \"12\"" ∷
    "leave 1 1" ∷
    "rounds 2" ∷
    "request 1 del \"abc\"" ∷
    "dirty 1 get \" \"" ∷
    "stop 1 0 01" ∷
    "recover 1" ∷
    "follower 3 1" ∷
    "merge 1" ∷
    "order 1" ∷
    "gather" ∷
    "split 1" ∷
    "follower 4 1" ∷
    "merge 1" ∷
    "leave 1 1" ∷
    "rounds 1" ∷
    "gather" ∷
    "show 1" ∷
    "gather" ∷
    "split 1" ∷
    "fstop 4 0 000000000000000000" ∷
    "rounds 2" ∷
    "show order" ∷
    "gather" ∷
    "frecover 4" ∷
    "# remark" ∷
    "#" ∷
    "show order" ∷
    "show 1" ∷
    "rounds 3" ∷
    "gather" ∷
    "show 1" ∷
    "fstop 4 4 ff" ∷
    "show 1" ∷
    "gather" ∷
    "fstop 3 5 4347525549545933" ∷
    "end" ∷
    [])
    ≡ written (
    "= 1" ∷
    "1 NonPrim - g0 w0 p0@0{1} a0 v- y- r[] o[] x{} b0" ∷
    "= 2" ∷
    "1 ExchangeStates c1 g0 w0 p0@0{1} a0 v- y- r[] o[] x{} b0" ∷
    "= 4" ∷
    "1 Construct c1 g0 w0 p0@0{1} a1 v1/0{1}{1} y- r[] o[] x{} b0" ∷
    "= 6" ∷
    "1 RegPrim c1 g0 w0 p1@1{1} a0 v1/0{1}{1} y- r[] o[] x{} b0" ∷
    "= 8" ∷
    "greens 1 []" ∷
    "db 1" ∷
    "= 11" ∷
    "follower 2 0" ∷
    "= 12" ∷
    "made 1:1 move \"y\" \"abc\" 8" ∷
    "1 RegPrim c1 g0 w0 p1@1{1} a0 v1/0{1}{1} y- r[] o[1:1] x{} b0" ∷
    "= 13" ∷
    "made 1:2 put \"a\" \"12\"" ∷
    "1 RegPrim c1 g0 w0 p1@1{1} a0 v1/0{1}{1} y- r[] o[1:1,1:2] x{} b0" ∷
    "= 14" ∷
    "made 1:3 leave 1" ∷
    "1 RegPrim c1 g0 w0 p1@1{1} a0 v1/0{1}{1} y- r[] o[1:1,1:2,1:3] x{} b0" ∷
    "= 16" ∷
    "order 1 1:1" ∷
    "order 2 1:2" ∷
    "order 3 1:3" ∷
    "1 RegPrim c1 g3 w0 p1@1{1} a0 v1/0{1}{1} y- r[] o[] x{1} b0" ∷
    "reply 1:1 aborted 1" ∷
    "reply 1:2 done" ∷
    "reply 1:3 done" ∷
    "= 18" ∷
    "made 1:4 del \"abc\"" ∷
    "1 RegPrim c1 g3 w0 p1@1{1} a0 v1/0{1}{1} y- r[] o[1:4] x{1} b0" ∷
    "= 19" ∷
    "dirty 1 absent" ∷
    "= 20" ∷
    "1 Down" ∷
    "= 21" ∷
    "1 NonPrim - g3 w0 p1@1{1} a0 v1/0{1}{1} y- r[1:4] o[] x{1} b0" ∷
    "= 22" ∷
    "follower 3 3" ∷
    "= 23" ∷
    "1 ExchangeStates c2 g3 w0 p1@1{1} a0 v1/0{1}{1} y- r[1:4] o[] x{1} b0" ∷
    "= 26" ∷
    "1 NonPrim t2 g3 w0 p1@1{1} a0 v1/0{1}{1} y- r[1:4] o[] x{1} b0" ∷
    "= 27" ∷
    "follower 4 3" ∷
    "= 28" ∷
    "1 ExchangeStates c3 g3 w0 p1@1{1} a0 v1/0{1}{1} y- r[1:4] o[] x{1} b0" ∷
    "= 29" ∷
    "1 ExchangeStates c3 g3 w0 p1@1{1} a0 v1/0{1}{1} y- r[1:4] o[] x{1} b1" ∷
    "= 31" ∷
    "1 Left c3 g3 w0 p1@1{1} a0 v1/0{1}{1} y- r[1:4] o[] x{1} b0" ∷
    "= 33" ∷
    "greens 1 [1:1,1:2,1:3]" ∷
    "db 1 \"a\"=\"12\"" ∷
    "= 35" ∷
    "1 Left t3 g3 w0 p1@1{1} a0 v1/0{1}{1} y- r[1:4] o[] x{1} b0" ∷
    "= 36" ∷
    "follower 4 down" ∷
    "= 39" ∷
    "all [1:1,1:2,1:3]" ∷
    "= 41" ∷
    "follower 4 3" ∷
    "= 42" ∷
    "all [1:1,1:2,1:3]" ∷
    "= 43" ∷
    "greens 1 [1:1,1:2,1:3]" ∷
    "db 1 \"a\"=\"12\"" ∷
    "= 48" ∷
    "greens 1 [1:1,1:2,1:3]" ∷
    "db 1 \"a\"=\"12\"" ∷
    "= 50" ∷
    "greens 1 [1:1,1:2,1:3]" ∷
    "db 1 \"a\"=\"12\"" ∷
    "end 52" ∷
    [])
unfolding cases_compute
generated_follow_struck_feed_crash_a = refl
