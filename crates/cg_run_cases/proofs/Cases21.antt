-- Cases of cases/ with their whole reports, which `.ci/theorems` writes down here.
use Rattle.std.specs.Prelude.{◌≡◌, [], ◌∷◌}
use mathlib.Core.Path.{refl}
use Rattle.cg_run_cases.specs.Replaying.{replayed_text, written}
use Rattle.cg_run_cases.specs.Computing.{cases_compute}

-- Replicas at the start: 1: actions are ordered; a crash strikes inside a device call; an old disk is migrated; a server that was removed is told so.
one_replica_actions_ordered_crash_in_a_device_call_old_disk_leaver_a :
    replayed_text (
    "start 1" ∷
    "merge 1" ∷
    "rounds 3" ∷
    "request 1 inc \"b\" 12 ? get \"x\"" ∷
    "leave 1 1" ∷
    "request 1 need \"y\" absent" ∷
    "leave 1 1" ∷
    "stop 1 15 c401" ∷
    "order 1" ∷
    "rounds 3" ∷
    "rounds 1" ∷
    "leave 1 1" ∷
    "rounds 2" ∷
    "request 1 cas \"b\" absent 15 ? get \"x\"" ∷
    "recover 1 10 01" ∷
    "merge 1" ∷
    "gather" ∷
    "gather" ∷
    "deliver 1 1" ∷
    "gather" ∷
    "gather" ∷
    "gather" ∷
    "split 1" ∷
    "rounds 1" ∷
    "rounds 3" ∷
    "gather" ∷
    "gather" ∷
    "gather" ∷
    "gather" ∷
    "rounds 3" ∷
    "rounds 3" ∷
    "rounds 2" ∷
    "rounds 3" ∷
    "show order" ∷
    "rounds 1" ∷
    "rounds 2" ∷
    "rounds 1" ∷
    "gather" ∷
    "gather" ∷
    "show order" ∷
    "gather" ∷
    "end" ∷
    [])
    ≡ written (
    "= 1" ∷
    "1 NonPrim - g0 w0 p0@0{1} a0 v- y- r[] o[] x{} b0" ∷
    "= 2" ∷
    "1 ExchangeStates c1 g0 w0 p0@0{1} a0 v- y- r[] o[] x{} b0" ∷
    "= 4" ∷
    "1 Construct c1 g0 w0 p0@0{1} a1 v1/0{1}{1} y- r[] o[] x{} b0" ∷
    "= 6" ∷
    "1 RegPrim c1 g0 w0 p1@1{1} a0 v1/0{1}{1} y- r[] o[] x{} b0" ∷
    "= 8" ∷
    "made 1:1 inc \"b\" 12 ? get \"x\"" ∷
    "1 RegPrim c1 g0 w0 p1@1{1} a0 v1/0{1}{1} y- r[] o[1:1] x{} b0" ∷
    "= 9" ∷
    "made 1:2 leave 1" ∷
    "1 RegPrim c1 g0 w0 p1@1{1} a0 v1/0{1}{1} y- r[] o[1:1,1:2] x{} b0" ∷
    "= 10" ∷
    "made 1:3 need \"y\" absent" ∷
    "1 RegPrim c1 g0 w0 p1@1{1} a0 v1/0{1}{1} y- r[] o[1:1,1:2,1:3] x{} b0" ∷
    "= 11" ∷
    "made 1:4 leave 1" ∷
    "1 RegPrim c1 g0 w0 p1@1{1} a0 v1/0{1}{1} y- r[] o[1:1,1:2,1:3,1:4] x{} b0" ∷
    "= 15" ∷
    "order 1 1:1" ∷
    "order 2 1:2" ∷
    "order 3 1:3" ∷
    "order 4 1:4" ∷
    "1 RegPrim c1 g4 w0 p1@1{1} a0 v1/0{1}{1} y- r[] o[] x{1} b0" ∷
    "reply 1:1 done ? absent" ∷
    "reply 1:2 done" ∷
    "reply 1:3 done" ∷
    "reply 1:4 done" ∷
    "= 19" ∷
    "made 1:5 leave 1" ∷
    "1 RegPrim c1 g4 w0 p1@1{1} a0 v1/0{1}{1} y- r[] o[1:5] x{1} b0" ∷
    "= 21" ∷
    "order 5 1:5" ∷
    "1 RegPrim c1 g5 w0 p1@1{1} a0 v1/0{1}{1} y- r[] o[] x{1} b0" ∷
    "reply 1:5 done" ∷
    "= 23" ∷
    "1 Down" ∷
    "= 24" ∷
    "1 NonPrim - g5 w0 p1@1{1} a0 v1/0{1}{1} y- r[] o[] x{1} b0" ∷
    "= 25" ∷
    "1 ExchangeStates c2 g5 w0 p1@1{1} a0 v1/0{1}{1} y- r[] o[] x{1} b0" ∷
    "= 28" ∷
    "1 Left c2 g5 w0 p1@1{1} a0 v1/0{1}{1} y- r[] o[] x{1} b0" ∷
    "= 32" ∷
    "1 Left t2 g5 w0 p1@1{1} a0 v1/0{1}{1} y- r[] o[] x{1} b0" ∷
    "= 52" ∷
    "all [1:1,1:2,1:3,1:4,1:5]" ∷
    "= 59" ∷
    "all [1:1,1:2,1:3,1:4,1:5]" ∷
    "end 60" ∷
    [])
unfolding cases_compute
one_replica_actions_ordered_crash_in_a_device_call_old_disk_leaver_a = refl

-- Replicas at the start: 1: no primary is formed.
one_replica_no_primary_a :
    replayed_text (
    "start 1" ∷
    "merge 1" ∷
    "rounds 1" ∷
    "end" ∷
    [])
    ≡ written (
    "= 1" ∷
    "1 NonPrim - g0 w0 p0@0{1} a0 v- y- r[] o[] x{} b0" ∷
    "= 2" ∷
    "1 ExchangeStates c1 g0 w0 p0@0{1} a0 v- y- r[] o[] x{} b0" ∷
    "= 4" ∷
    "1 Construct c1 g0 w0 p0@0{1} a1 v1/0{1}{1} y- r[] o[] x{} b0" ∷
    "end 4" ∷
    [])
unfolding cases_compute
one_replica_no_primary_a = refl

-- Replicas at the start: 1: a primary is formed.
one_replica_primary_formed_a :
    replayed_text (
    "start 1" ∷
    "merge 1" ∷
    "rounds 3" ∷
    "end" ∷
    [])
    ≡ written (
    "= 1" ∷
    "1 NonPrim - g0 w0 p0@0{1} a0 v- y- r[] o[] x{} b0" ∷
    "= 2" ∷
    "1 ExchangeStates c1 g0 w0 p0@0{1} a0 v- y- r[] o[] x{} b0" ∷
    "= 4" ∷
    "1 Construct c1 g0 w0 p0@0{1} a1 v1/0{1}{1} y- r[] o[] x{} b0" ∷
    "= 6" ∷
    "1 RegPrim c1 g0 w0 p1@1{1} a0 v1/0{1}{1} y- r[] o[] x{} b0" ∷
    "end 7" ∷
    [])
unfolding cases_compute
one_replica_primary_formed_a = refl

-- Replicas at the start: 1: a primary is formed.
one_replica_primary_formed_b :
    replayed_text (
    "start 1" ∷
    "merge 1" ∷
    "order 1" ∷
    "gather" ∷
    "gather" ∷
    "split 1" ∷
    "merge 1" ∷
    "split 1" ∷
    "merge 1" ∷
    "rounds 3" ∷
    "request 1 cas \"y\" absent 80 ? keys \"\"" ∷
    "end" ∷
    [])
    ≡ written (
    "= 1" ∷
    "1 NonPrim - g0 w0 p0@0{1} a0 v- y- r[] o[] x{} b0" ∷
    "= 2" ∷
    "1 ExchangeStates c1 g0 w0 p0@0{1} a0 v- y- r[] o[] x{} b0" ∷
    "= 6" ∷
    "1 NonPrim t1 g0 w0 p0@0{1} a0 v- y- r[] o[] x{} b0" ∷
    "= 7" ∷
    "1 ExchangeStates c2 g0 w0 p0@0{1} a0 v- y- r[] o[] x{} b0" ∷
    "= 8" ∷
    "1 NonPrim t2 g0 w0 p0@0{1} a0 v- y- r[] o[] x{} b0" ∷
    "= 9" ∷
    "1 ExchangeStates c3 g0 w0 p0@0{1} a0 v- y- r[] o[] x{} b0" ∷
    "= 11" ∷
    "1 Construct c3 g0 w0 p0@0{1} a1 v3/0{1}{1} y- r[] o[] x{} b0" ∷
    "= 13" ∷
    "1 RegPrim c3 g0 w0 p1@3{1} a0 v3/0{1}{1} y- r[] o[] x{} b0" ∷
    "= 15" ∷
    "made 1:1 cas \"y\" absent 80 ? keys \"\"" ∷
    "1 RegPrim c3 g0 w0 p1@3{1} a0 v3/0{1}{1} y- r[] o[1:1] x{} b0" ∷
    "end 15" ∷
    [])
unfolding cases_compute
one_replica_primary_formed_b = refl

-- Replicas at the start: 1: a primary is formed; the last event is refused.
one_replica_primary_formed_refused_a :
    replayed_text (
    "start 1" ∷
    "merge 1" ∷
    "gather" ∷
    "request 1 inc \"y\" 1; put \"b\" 56" ∷
    "deliver 1 1" ∷
    "request 1 put \"z\" 91; put \"b\" 5" ∷
    "request 1 put \"abc\" 29 ? get \"x\"" ∷
    "order 1" ∷
    "deliver 1 1" ∷
    "request 1 inc \"z\" -3 ? keys \"k\"" ∷
    "gather" ∷
    "merge 15" ∷
    "end" ∷
    [])
    ≡ written (
    "= 1" ∷
    "1 NonPrim - g0 w0 p0@0{1} a0 v- y- r[] o[] x{} b0" ∷
    "= 2" ∷
    "1 ExchangeStates c1 g0 w0 p0@0{1} a0 v- y- r[] o[] x{} b0" ∷
    "= 4" ∷
    "1 ExchangeStates c1 g0 w0 p0@0{1} a0 v- y- r[] o[] x{} b1" ∷
    "= 5" ∷
    "1 Construct c1 g0 w0 p0@0{1} a1 v1/0{1}{1} y- r[] o[] x{} b1" ∷
    "= 6" ∷
    "1 Construct c1 g0 w0 p0@0{1} a1 v1/0{1}{1} y- r[] o[] x{} b2" ∷
    "= 7" ∷
    "1 Construct c1 g0 w0 p0@0{1} a1 v1/0{1}{1} y- r[] o[] x{} b3" ∷
    "= 9" ∷
    "made 1:1 inc \"y\" 1; put \"b\" 56" ∷
    "made 1:2 put \"z\" 91; put \"b\" 5" ∷
    "made 1:3 put \"abc\" 29 ? get \"x\"" ∷
    "1 RegPrim c1 g0 w0 p1@1{1} a0 v1/0{1}{1} y- r[] o[1:1,1:2,1:3] x{} b0" ∷
    "= 10" ∷
    "made 1:4 inc \"z\" -3 ? keys \"k\"" ∷
    "1 RegPrim c1 g0 w0 p1@1{1} a0 v1/0{1}{1} y- r[] o[1:1,1:2,1:3,1:4] x{} b0" ∷
    "refused 12 11 15" ∷
    [])
unfolding cases_compute
one_replica_primary_formed_refused_a = refl

-- Replicas at the start: 1: a primary is lost in a partition, and after a merge red actions are ordered; a replica crashes.
one_replica_primary_lost_and_reds_ordered_crash_a_from_discarding :
    replayed_text (
    "start 1" ∷
    "merge 1" ∷
    "request 1 cas \"z\" absent 13; put \"b\" 87; put \"abc\" -1" ∷
    "request 1 put \"y\" 52; put \"x\" \"absent\" ? get \"y\"" ∷
    "gather" ∷
    "deliver 1 1" ∷
    "split 1" ∷
    "merge 1" ∷
    "split 1" ∷
    "merge 1" ∷
    "rounds 4" ∷
    "request 1 inc \"y\" 9" ∷
    "split 1" ∷
    "merge 1" ∷
    "request 1 put \"z\" \"12\"" ∷
    "request 1 move \"b\" \"y\" 5; inc \"y\" 10; put \"z\" 76; put \"z\" 83" ∷
    "request 1 need \"k2\" 94" ∷
    "rounds 1" ∷
    "split 1" ∷
    "merge 1" ∷
    "stop 1 0 -" ∷
    "recover 1" ∷
    "merge 1" ∷
    "rounds 4" ∷
    "rounds 1" ∷
    "request 1 ? count" ∷
    "split 1" ∷
    "merge 1" ∷
    "rounds 3" ∷
    "rounds 1" ∷
    "rounds 1" ∷
    "rounds 2" ∷
    "gather" ∷
    "gather" ∷
    "gather" ∷
    "request 1 inc \"x\" 10 ? get \"y\"" ∷
    "gather" ∷
    "deliver 1 1" ∷
    "split 1" ∷
    "merge 1" ∷
    "gather" ∷
    "end" ∷
    [])
    ≡ written (
    "= 1" ∷
    "1 NonPrim - g0 w0 p0@0{1} a0 v- y- r[] o[] x{} b0" ∷
    "= 2" ∷
    "1 ExchangeStates c1 g0 w0 p0@0{1} a0 v- y- r[] o[] x{} b0" ∷
    "= 3" ∷
    "1 ExchangeStates c1 g0 w0 p0@0{1} a0 v- y- r[] o[] x{} b1" ∷
    "= 4" ∷
    "1 ExchangeStates c1 g0 w0 p0@0{1} a0 v- y- r[] o[] x{} b2" ∷
    "= 6" ∷
    "1 Construct c1 g0 w0 p0@0{1} a1 v1/0{1}{1} y- r[] o[] x{} b2" ∷
    "= 7" ∷
    "1 No t1 g0 w0 p0@0{1} a1 v1/0{1}{1} y- r[] o[] x{} b2" ∷
    "= 8" ∷
    "1 ExchangeStates c2 g0 w0 p0@0{1} a1 v- y- r[] o[] x{} b2" ∷
    "= 9" ∷
    "1 NonPrim t2 g0 w0 p0@0{1} a1 v- y- r[] o[] x{} b2" ∷
    "= 10" ∷
    "1 ExchangeStates c3 g0 w0 p0@0{1} a1 v- y- r[] o[] x{} b2" ∷
    "= 12" ∷
    "1 Construct c3 g0 w0 p0@0{1} a2 v3/0{1}{1} y- r[] o[] x{} b2" ∷
    "= 14" ∷
    "made 1:1 cas \"z\" absent 13; put \"b\" 87; put \"abc\" -1" ∷
    "made 1:2 put \"y\" 52; put \"x\" \"absent\" ? get \"y\"" ∷
    "1 RegPrim c3 g0 w0 p1@3{1} a0 v3/0{1}{1} y- r[] o[1:1,1:2] x{} b0" ∷
    "= 16" ∷
    "order 1 1:1" ∷
    "order 2 1:2" ∷
    "1 RegPrim c3 g2 w0 p1@3{1} a0 v3/0{1}{1} y- r[] o[] x{} b0" ∷
    "reply 1:1 done" ∷
    "reply 1:2 done ? 52" ∷
    "= 18" ∷
    "made 1:3 inc \"y\" 9" ∷
    "1 RegPrim c3 g2 w0 p1@3{1} a0 v3/0{1}{1} y- r[] o[1:3] x{} b0" ∷
    "= 19" ∷
    "1 TransPrim t3 g2 w0 p1@3{1} a0 v3/0{1}{1} y- r[] o[1:3] x{} b0" ∷
    "= 20" ∷
    "1 ExchangeStates c4 g2 w0 p1@3{1} a0 v- y![] r[1:3] o[] x{} b0" ∷
    "= 21" ∷
    "1 ExchangeStates c4 g2 w0 p1@3{1} a0 v- y![] r[1:3] o[] x{} b1" ∷
    "= 22" ∷
    "1 ExchangeStates c4 g2 w0 p1@3{1} a0 v- y![] r[1:3] o[] x{} b2" ∷
    "= 23" ∷
    "1 ExchangeStates c4 g2 w0 p1@3{1} a0 v- y![] r[1:3] o[] x{} b3" ∷
    "= 25" ∷
    "1 Construct c4 g2 w0 p1@3{1} a1 v4/1{1}{1} y![] r[1:3] o[] x{} b3" ∷
    "= 26" ∷
    "1 No t4 g2 w0 p1@3{1} a1 v4/1{1}{1} y![] r[1:3] o[] x{} b3" ∷
    "= 27" ∷
    "1 ExchangeStates c5 g2 w0 p1@3{1} a1 v- y![] r[1:3] o[] x{} b3" ∷
    "= 28" ∷
    "1 Down" ∷
    "= 29" ∷
    "1 NonPrim - g2 w0 p1@3{1} a1 v- y![] r[1:3] o[] x{} b0" ∷
    "= 30" ∷
    "1 ExchangeStates c6 g2 w0 p1@3{1} a1 v- y![] r[1:3] o[] x{} b0" ∷
    "= 32" ∷
    "1 Construct c6 g2 w0 p1@3{1} a2 v6/1{1}{1} y![] r[1:3] o[] x{} b0" ∷
    "= 34" ∷
    "order 3 1:3" ∷
    "1 RegPrim c6 g3 w2 p2@6{1} a0 v6/1{1}{1} y- r[] o[] x{} b0" ∷
    "= 38" ∷
    "made 1:4 ? count" ∷
    "1 RegPrim c6 g3 w2 p2@6{1} a0 v6/1{1}{1} y- r[] o[1:4] x{} b0" ∷
    "= 39" ∷
    "1 TransPrim t6 g3 w2 p2@6{1} a0 v6/1{1}{1} y- r[] o[1:4] x{} b0" ∷
    "= 40" ∷
    "1 ExchangeStates c7 g3 w2 p2@6{1} a0 v- y![] r[1:4] o[] x{} b0" ∷
    "= 42" ∷
    "1 Construct c7 g3 w2 p2@6{1} a1 v7/2{1}{1} y![] r[1:4] o[] x{} b0" ∷
    "= 44" ∷
    "order 4 1:4" ∷
    "1 RegPrim c7 g4 w3 p3@7{1} a0 v7/2{1}{1} y- r[] o[] x{} b0" ∷
    "reply 1:4 done ? count 5" ∷
    "= 53" ∷
    "made 1:5 inc \"x\" 10 ? get \"y\"" ∷
    "1 RegPrim c7 g4 w3 p3@7{1} a0 v7/2{1}{1} y- r[] o[1:5] x{} b0" ∷
    "= 55" ∷
    "order 5 1:5" ∷
    "1 RegPrim c7 g5 w4 p3@7{1} a0 v7/2{1}{1} y- r[] o[] x{} b0" ∷
    "reply 1:5 aborted 1 ? 61" ∷
    "= 56" ∷
    "1 TransPrim t7 g5 w4 p3@7{1} a0 v7/2{1}{1} y- r[] o[] x{} b0" ∷
    "= 57" ∷
    "1 ExchangeStates c8 g5 w4 p3@7{1} a0 v- y![] r[] o[] x{} b0" ∷
    "end 58" ∷
    [])
unfolding cases_compute
one_replica_primary_lost_and_reds_ordered_crash_a_from_discarding = refl

-- Replicas at the start: 1: a primary is lost in a partition, and after a merge red actions are ordered; a replica crashes.
one_replica_primary_lost_and_reds_ordered_crash_b :
    replayed_text (
    "start 1" ∷
    "merge 1" ∷
    "gather" ∷
    "split 1" ∷
    "merge 1" ∷
    "request 1 put \"x\" 48" ∷
    "order 1" ∷
    "request 1 inc \"y\" 0 ? keys \"x\"" ∷
    "request 1 move \"x\" \"z\" 9223372036854775807 ? get \"b\"" ∷
    "deliver 1 1" ∷
    "rounds 2" ∷
    "gather" ∷
    "request 1 move \"y\" \"z\" 5; inc \"z\" 0; put \"x\" 49; put \"x\" 40; put \"x\" 9223372036854775806; cas \"x\" -6 -9223372036854775808; put \"b\" 36; need \"b\" 15; inc \"y\" 12; need \"a\" \"\"; put \"y\" 21; put \"abc\" 58; cas \"y\" absent 48; inc \"z\" 0; inc \"ab\" 7; need \"z\" \"v\" ? get \"x\"" ∷
    "request 1 put \"a\" \"\"" ∷
    "split 1" ∷
    "merge 1" ∷
    "request 1 inc \"ab\" 3; put \"k1\" \"-1\"; cas \"ab\" 99 11; cas \"z\" absent 46" ∷
    "request 1 put \"y\" 54 ? get \"x\"" ∷
    "request 1 inc \"x\" 3" ∷
    "request 1 inc \"a\" 8 ? get \"x\"" ∷
    "gather" ∷
    "deliver 1 1" ∷
    "split 1" ∷
    "merge 1" ∷
    "join 1 2" ∷
    "stop 1 0 01" ∷
    "gather" ∷
    "recover 1" ∷
    "merge 1" ∷
    "request 1 put \"ab\" 5" ∷
    "gather" ∷
    "deliver 1 1" ∷
    "request 1 cas \"y\" 10 93 ? keys \"k\"" ∷
    "gather" ∷
    "deliver 1 1" ∷
    "split 1" ∷
    "rounds 1" ∷
    "merge 1" ∷
    "join 1 3" ∷
    "gather" ∷
    "request 1 ? count" ∷
    "request 1 cas \"z\" -1 9223372036854775807 ? count" ∷
    "gather" ∷
    "deliver 1 1" ∷
    "split 1" ∷
    "merge 1" ∷
    "gather" ∷
    "end" ∷
    [])
    ≡ written (
    "= 1" ∷
    "1 NonPrim - g0 w0 p0@0{1} a0 v- y- r[] o[] x{} b0" ∷
    "= 2" ∷
    "1 ExchangeStates c1 g0 w0 p0@0{1} a0 v- y- r[] o[] x{} b0" ∷
    "= 4" ∷
    "1 NonPrim t1 g0 w0 p0@0{1} a0 v- y- r[] o[] x{} b0" ∷
    "= 5" ∷
    "1 ExchangeStates c2 g0 w0 p0@0{1} a0 v- y- r[] o[] x{} b0" ∷
    "= 6" ∷
    "1 ExchangeStates c2 g0 w0 p0@0{1} a0 v- y- r[] o[] x{} b1" ∷
    "= 8" ∷
    "1 ExchangeStates c2 g0 w0 p0@0{1} a0 v- y- r[] o[] x{} b2" ∷
    "= 9" ∷
    "1 ExchangeStates c2 g0 w0 p0@0{1} a0 v- y- r[] o[] x{} b3" ∷
    "= 10" ∷
    "1 Construct c2 g0 w0 p0@0{1} a1 v2/0{1}{1} y- r[] o[] x{} b3" ∷
    "= 12" ∷
    "made 1:1 put \"x\" 48" ∷
    "made 1:2 inc \"y\" 0 ? keys \"x\"" ∷
    "made 1:3 move \"x\" \"z\" 9223372036854775807 ? get \"b\"" ∷
    "1 RegPrim c2 g0 w0 p1@2{1} a0 v2/0{1}{1} y- r[] o[1:1,1:2,1:3] x{} b0" ∷
    "= 14" ∷
    "order 1 1:1" ∷
    "order 2 1:2" ∷
    "order 3 1:3" ∷
    "1 RegPrim c2 g3 w0 p1@2{1} a0 v2/0{1}{1} y- r[] o[] x{} b0" ∷
    "reply 1:1 done" ∷
    "reply 1:2 done ? keys \"x\"" ∷
    "reply 1:3 aborted 1 ? absent" ∷
    "= 16" ∷
    "made 1:4 move \"y\" \"z\" 5; inc \"z\" 0; put \"x\" 49; put \"x\" 40; put \"x\" 9223372036854775806; cas \"x\" -6 -9223372036854775808; put \"b\" 36; need \"b\" 15; inc \"y\" 12; need \"a\" \"\"; put \"y\" 21; put \"abc\" 58; cas \"y\" absent 48; inc \"z\" 0; inc \"ab\" 7; need \"z\" \"v\" ? get \"x\"" ∷
    "1 RegPrim c2 g3 w0 p1@2{1} a0 v2/0{1}{1} y- r[] o[1:4] x{} b0" ∷
    "= 17" ∷
    "made 1:5 put \"a\" \"\"" ∷
    "1 RegPrim c2 g3 w0 p1@2{1} a0 v2/0{1}{1} y- r[] o[1:4,1:5] x{} b0" ∷
    "= 18" ∷
    "1 TransPrim t2 g3 w0 p1@2{1} a0 v2/0{1}{1} y- r[] o[1:4,1:5] x{} b0" ∷
    "= 19" ∷
    "1 ExchangeStates c3 g3 w0 p1@2{1} a0 v- y![] r[1:4,1:5] o[] x{} b0" ∷
    "= 20" ∷
    "1 ExchangeStates c3 g3 w0 p1@2{1} a0 v- y![] r[1:4,1:5] o[] x{} b1" ∷
    "= 21" ∷
    "1 ExchangeStates c3 g3 w0 p1@2{1} a0 v- y![] r[1:4,1:5] o[] x{} b2" ∷
    "= 22" ∷
    "1 ExchangeStates c3 g3 w0 p1@2{1} a0 v- y![] r[1:4,1:5] o[] x{} b3" ∷
    "= 23" ∷
    "1 ExchangeStates c3 g3 w0 p1@2{1} a0 v- y![] r[1:4,1:5] o[] x{} b4" ∷
    "= 25" ∷
    "1 Construct c3 g3 w0 p1@2{1} a1 v3/1{1}{1} y![] r[1:4,1:5] o[] x{} b4" ∷
    "= 26" ∷
    "1 No t3 g3 w0 p1@2{1} a1 v3/1{1}{1} y![] r[1:4,1:5] o[] x{} b4" ∷
    "= 27" ∷
    "1 ExchangeStates c4 g3 w0 p1@2{1} a1 v- y![] r[1:4,1:5] o[] x{} b4" ∷
    "= 28" ∷
    "1 ExchangeStates c4 g3 w0 p1@2{1} a1 v- y![] r[1:4,1:5] o[] x{} b5" ∷
    "= 29" ∷
    "1 Down" ∷
    "= 31" ∷
    "1 NonPrim - g3 w0 p1@2{1} a1 v- y![] r[1:4,1:5] o[] x{} b0" ∷
    "= 32" ∷
    "1 ExchangeStates c5 g3 w0 p1@2{1} a1 v- y![] r[1:4,1:5] o[] x{} b0" ∷
    "= 33" ∷
    "1 ExchangeStates c5 g3 w0 p1@2{1} a1 v- y![] r[1:4,1:5] o[] x{} b1" ∷
    "= 35" ∷
    "1 Construct c5 g3 w0 p1@2{1} a2 v5/1{1}{1} y![] r[1:4,1:5] o[] x{} b1" ∷
    "= 36" ∷
    "1 Construct c5 g3 w0 p1@2{1} a2 v5/1{1}{1} y![] r[1:4,1:5] o[] x{} b2" ∷
    "= 38" ∷
    "made 1:6 put \"ab\" 5" ∷
    "made 1:7 cas \"y\" 10 93 ? keys \"k\"" ∷
    "order 4 1:4" ∷
    "order 5 1:5" ∷
    "1 RegPrim c5 g5 w3 p2@5{1} a0 v5/1{1}{1} y- r[] o[1:6,1:7] x{} b0" ∷
    "= 39" ∷
    "1 TransPrim t5 g5 w3 p2@5{1} a0 v5/1{1}{1} y- r[] o[1:6,1:7] x{} b0" ∷
    "= 41" ∷
    "1 ExchangeStates c6 g5 w3 p2@5{1} a0 v- y![] r[1:6,1:7] o[] x{} b0" ∷
    "= 42" ∷
    "1 ExchangeStates c6 g5 w3 p2@5{1} a0 v- y![] r[1:6,1:7] o[] x{} b1" ∷
    "= 44" ∷
    "1 ExchangeStates c6 g5 w3 p2@5{1} a0 v- y![] r[1:6,1:7] o[] x{} b2" ∷
    "= 45" ∷
    "1 ExchangeStates c6 g5 w3 p2@5{1} a0 v- y![] r[1:6,1:7] o[] x{} b3" ∷
    "= 47" ∷
    "1 Construct c6 g5 w3 p2@5{1} a1 v6/2{1}{1} y![] r[1:6,1:7] o[] x{} b3" ∷
    "= 48" ∷
    "1 No t6 g5 w3 p2@5{1} a1 v6/2{1}{1} y![] r[1:6,1:7] o[] x{} b3" ∷
    "= 49" ∷
    "1 ExchangeStates c7 g5 w3 p2@5{1} a1 v- y![] r[1:6,1:7] o[] x{} b3" ∷
    "end 50" ∷
    [])
unfolding cases_compute
one_replica_primary_lost_and_reds_ordered_crash_b = refl

-- Replicas at the start: 1: a primary is lost in a partition, and after a merge red actions are ordered; a crash strikes inside a device call.
one_replica_primary_lost_and_reds_ordered_crash_in_a_device_call_a_from_discarding :
    replayed_text (
    "start 1" ∷
    "merge 1" ∷
    "rounds 3" ∷
    "split 1" ∷
    "merge 1" ∷
    "request 1 need \"ab\" absent" ∷
    "rounds 2" ∷
    "split 1" ∷
    "merge 1" ∷
    "split 1" ∷
    "merge 1" ∷
    "split 1" ∷
    "merge 1" ∷
    "request 1 need \"a\" absent" ∷
    "stop 1 12 4347525549545931" ∷
    "gather" ∷
    "deliver 1 1" ∷
    "gather" ∷
    "rounds 3" ∷
    "recover 1" ∷
    "merge 1" ∷
    "gather" ∷
    "request 1 put \"k2\" 95; inc \"a\" -2; need \"b\" absent; inc \"b\" 4" ∷
    "deliver 1 1" ∷
    "split 1" ∷
    "merge 1" ∷
    "rounds 3" ∷
    "split 1" ∷
    "merge 1" ∷
    "split 1" ∷
    "request 1 cas \"ab\" absent 9" ∷
    "merge 1" ∷
    "request 1 inc \"ab\" 0; inc \"b\" -9223372036854775808; inc \"y\" -2" ∷
    "split 1" ∷
    "merge 1" ∷
    "request 1 need \"a\" 97; inc \"z\" 3; cas \"x\" absent 2; inc \"z\" 1; inc \"x\" 5; del \"x\"; inc \"ab\" 0; cas \"z\" absent 17; put \"z\" \"; ? #\"; inc \"abc\" 1; put \"ab\" 49; inc \"a\" -3; put \"k1\" -1; del \"a\"; inc \"abc\" -2; inc \"x\" -3" ∷
    "order 1" ∷
    "split 1" ∷
    "merge 1" ∷
    "split 1" ∷
    "merge 1" ∷
    "end" ∷
    [])
    ≡ written (
    "= 1" ∷
    "1 NonPrim - g0 w0 p0@0{1} a0 v- y- r[] o[] x{} b0" ∷
    "= 2" ∷
    "1 ExchangeStates c1 g0 w0 p0@0{1} a0 v- y- r[] o[] x{} b0" ∷
    "= 4" ∷
    "1 Construct c1 g0 w0 p0@0{1} a1 v1/0{1}{1} y- r[] o[] x{} b0" ∷
    "= 6" ∷
    "1 RegPrim c1 g0 w0 p1@1{1} a0 v1/0{1}{1} y- r[] o[] x{} b0" ∷
    "= 8" ∷
    "1 TransPrim t1 g0 w0 p1@1{1} a0 v1/0{1}{1} y- r[] o[] x{} b0" ∷
    "= 9" ∷
    "1 ExchangeStates c2 g0 w0 p1@1{1} a0 v- y![] r[] o[] x{} b0" ∷
    "= 10" ∷
    "1 ExchangeStates c2 g0 w0 p1@1{1} a0 v- y![] r[] o[] x{} b1" ∷
    "= 12" ∷
    "1 Construct c2 g0 w0 p1@1{1} a1 v2/1{1}{1} y![] r[] o[] x{} b1" ∷
    "= 14" ∷
    "made 1:1 need \"ab\" absent" ∷
    "1 RegPrim c2 g0 w0 p2@2{1} a0 v2/1{1}{1} y- r[] o[1:1] x{} b0" ∷
    "= 15" ∷
    "1 TransPrim t2 g0 w0 p2@2{1} a0 v2/1{1}{1} y- r[] o[1:1] x{} b0" ∷
    "= 16" ∷
    "1 ExchangeStates c3 g0 w0 p2@2{1} a0 v- y![] r[1:1] o[] x{} b0" ∷
    "= 17" ∷
    "1 NonPrim t3 g0 w0 p2@2{1} a0 v- y![] r[1:1] o[] x{} b0" ∷
    "= 18" ∷
    "1 ExchangeStates c4 g0 w0 p2@2{1} a0 v- y![] r[1:1] o[] x{} b0" ∷
    "= 19" ∷
    "1 NonPrim t4 g0 w0 p2@2{1} a0 v- y![] r[1:1] o[] x{} b0" ∷
    "= 20" ∷
    "1 ExchangeStates c5 g0 w0 p2@2{1} a0 v- y![] r[1:1] o[] x{} b0" ∷
    "= 21" ∷
    "1 ExchangeStates c5 g0 w0 p2@2{1} a0 v- y![] r[1:1] o[] x{} b1" ∷
    "= 24" ∷
    "1 Construct c5 g0 w0 p2@2{1} a1 v5/2{1}{1} y![] r[1:1] o[] x{} b1" ∷
    "= 27" ∷
    "made 1:2 need \"a\" absent" ∷
    "order 1 1:1" ∷
    "1 RegPrim c5 g1 w0 p3@5{1} a0 v5/2{1}{1} y- r[] o[1:2] x{} b0" ∷
    "reply 1:1 done" ∷
    "= 29" ∷
    "1 Down" ∷
    "= 31" ∷
    "1 NonPrim - g1 w0 p3@5{1} a0 v5/2{1}{1} y- r[1:2] o[] x{} b0" ∷
    "= 32" ∷
    "1 ExchangeStates c6 g1 w0 p3@5{1} a0 v5/2{1}{1} y- r[1:2] o[] x{} b0" ∷
    "= 34" ∷
    "1 ExchangeStates c6 g1 w0 p3@5{1} a0 v5/2{1}{1} y- r[1:2] o[] x{} b1" ∷
    "= 35" ∷
    "1 Construct c6 g1 w0 p3@5{1} a1 v6/3{1}{1} y- r[1:2] o[] x{} b1" ∷
    "= 36" ∷
    "1 No t6 g1 w0 p3@5{1} a1 v6/3{1}{1} y- r[1:2] o[] x{} b1" ∷
    "= 37" ∷
    "1 ExchangeStates c7 g1 w0 p3@5{1} a1 v- y- r[1:2] o[] x{} b1" ∷
    "= 39" ∷
    "1 Construct c7 g1 w0 p3@5{1} a2 v7/3{1}{1} y- r[1:2] o[] x{} b1" ∷
    "= 41" ∷
    "made 1:3 put \"k2\" 95; inc \"a\" -2; need \"b\" absent; inc \"b\" 4" ∷
    "order 2 1:2" ∷
    "1 RegPrim c7 g2 w1 p4@7{1} a0 v7/3{1}{1} y- r[] o[1:3] x{} b0" ∷
    "= 43" ∷
    "order 3 1:3" ∷
    "1 RegPrim c7 g3 w2 p4@7{1} a0 v7/3{1}{1} y- r[] o[] x{} b0" ∷
    "reply 1:3 done" ∷
    "= 44" ∷
    "1 TransPrim t7 g3 w2 p4@7{1} a0 v7/3{1}{1} y- r[] o[] x{} b0" ∷
    "= 45" ∷
    "1 ExchangeStates c8 g3 w2 p4@7{1} a0 v- y![] r[] o[] x{} b0" ∷
    "= 46" ∷
    "1 NonPrim t8 g3 w2 p4@7{1} a0 v- y![] r[] o[] x{} b0" ∷
    "= 47" ∷
    "1 NonPrim t8 g3 w2 p4@7{1} a0 v- y![] r[] o[] x{} b1" ∷
    "= 48" ∷
    "1 ExchangeStates c9 g3 w2 p4@7{1} a0 v- y![] r[] o[] x{} b1" ∷
    "= 49" ∷
    "1 ExchangeStates c9 g3 w2 p4@7{1} a0 v- y![] r[] o[] x{} b2" ∷
    "= 50" ∷
    "1 NonPrim t9 g3 w2 p4@7{1} a0 v- y![] r[] o[] x{} b2" ∷
    "= 51" ∷
    "1 ExchangeStates c10 g3 w2 p4@7{1} a0 v- y![] r[] o[] x{} b2" ∷
    "= 52" ∷
    "1 ExchangeStates c10 g3 w2 p4@7{1} a0 v- y![] r[] o[] x{} b3" ∷
    "= 54" ∷
    "1 NonPrim t10 g3 w2 p4@7{1} a0 v- y![] r[] o[] x{} b3" ∷
    "= 55" ∷
    "1 ExchangeStates c11 g3 w2 p4@7{1} a0 v- y![] r[] o[] x{} b3" ∷
    "= 56" ∷
    "1 NonPrim t11 g3 w2 p4@7{1} a0 v- y![] r[] o[] x{} b3" ∷
    "= 57" ∷
    "1 ExchangeStates c12 g3 w2 p4@7{1} a0 v- y![] r[] o[] x{} b3" ∷
    "end 57" ∷
    [])
unfolding cases_compute
one_replica_primary_lost_and_reds_ordered_crash_in_a_device_call_a_from_discarding = refl
