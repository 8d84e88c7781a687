-- Recoveries of a disk of the older format that are stopped in each of their sixteen calls: the next one shows the same,
-- whatever bytes are left.
use Rattle.std.specs.Prelude.{◌≡◌, ℕ, List, [], ◌∷◌, ◌++◌, codes, map, replicate}
use Rattle.std.specs.Fmt.{decimal}
use Prim.Native.String.{String}
use mathlib.Core.Path.{refl}
use Rattle.cg_outcome.specs.Outcome.{Ended}
use Rattle.cg_run_cases.specs.Replaying.{utf8, written, put_of}
use Rattle.cg_run_cases.specs.Computing.{cases_compute}

-- a replica that crashes, and whose disk becomes one of the older format
abbrev pub made_older : List String
made_older =
    "start 1 2 3" ∷
    "merge 1 2 3" ∷
    "rounds 2" ∷
    "request 1 put \"x\" 1" ∷
    "rounds 1" ∷
    "stop 1 0 -" ∷
    "downgrade 1" ∷
    []

-- what is put of these lines
abbrev pub up_to_crash : List String
up_to_crash =
    "= 1" ∷
    "1 NonPrim - g0 w0 p0@0{1,2,3} a0 v- y- r[] o[] x{} b0" ∷
    "2 NonPrim - g0 w0 p0@0{1,2,3} a0 v- y- r[] o[] x{} b0" ∷
    "3 NonPrim - g0 w0 p0@0{1,2,3} a0 v- y- r[] o[] x{} b0" ∷
    "= 2" ∷
    "1 ExchangeStates c1 g0 w0 p0@0{1,2,3} a0 v- y- r[] o[] x{} b0" ∷
    "2 ExchangeStates c1 g0 w0 p0@0{1,2,3} a0 v- y- r[] o[] x{} b0" ∷
    "3 ExchangeStates c1 g0 w0 p0@0{1,2,3} a0 v- y- r[] o[] x{} b0" ∷
    "= 4" ∷
    "1 Construct c1 g0 w0 p0@0{1,2,3} a1 v1/0{1,2,3}{1} y- r[] o[] x{} b0" ∷
    "= 5" ∷
    "2 Construct c1 g0 w0 p0@0{1,2,3} a1 v1/0{1,2,3}{2} y- r[] o[] x{} b0" ∷
    "= 6" ∷
    "3 Construct c1 g0 w0 p0@0{1,2,3} a1 v1/0{1,2,3}{3} y- r[] o[] x{} b0" ∷
    "= 8" ∷
    "1 RegPrim c1 g0 w0 p1@1{1,2,3} a0 v1/0{1,2,3}{1} y- r[] o[] x{} b0" ∷
    "= 9" ∷
    "2 RegPrim c1 g0 w0 p1@1{1,2,3} a0 v1/0{1,2,3}{2} y- r[] o[] x{} b0" ∷
    "= 10" ∷
    "3 RegPrim c1 g0 w0 p1@1{1,2,3} a0 v1/0{1,2,3}{3} y- r[] o[] x{} b0" ∷
    "= 11" ∷
    "made 1:1 put \"x\" 1" ∷
    "1 RegPrim c1 g0 w0 p1@1{1,2,3} a0 v1/0{1,2,3}{1} y- r[] o[1:1] x{} b0" ∷
    "= 13" ∷
    "order 1 1:1" ∷
    "1 RegPrim c1 g1 w0 p1@1{1,2,3} a0 v1/0{1,2,3}{1} y- r[] o[] x{} b0" ∷
    "reply 1:1 done" ∷
    "= 14" ∷
    "2 RegPrim c1 g1 w0 p1@1{1,2,3} a0 v1/0{1,2,3}{2} y- r[] o[] x{} b0" ∷
    "= 15" ∷
    "3 RegPrim c1 g1 w0 p1@1{1,2,3} a0 v1/0{1,2,3}{3} y- r[] o[] x{} b0" ∷
    "= 16" ∷
    "1 Down" ∷
    []

-- how the replica comes up from that disk, whenever it does
abbrev pub risen : String
risen = "1 NonPrim - g1 w0 p1@1{1,2,3} a0 v1/0{1,2,3}{1} y- r[] o[] x{} b0"

-- the report of a recovery that is stopped in this call, with this fill, and of what follows it
abbrev stopped : String → List String → ℕ → List ℕ
stopped fill lines call = put_of ("replay" ∷ []) (written made_older ++ line ++ written lines) Ended where
  line : List ℕ
  line = codes "recover 1 " ++ decimal call ++ 32 ∷ utf8 fill ++ 10 ∷ []

abbrev calls : List ℕ
calls = 1 ∷ 2 ∷ 3 ∷ 4 ∷ 5 ∷ 6 ∷ 7 ∷ 8 ∷ 9 ∷ 10 ∷ 11 ∷ 12 ∷ 13 ∷ 14 ∷ 15 ∷ 16 ∷ []

-- the reports of a recovery that is stopped in each of the sixteen calls, and of the next one
abbrev in_each_call : String → List (List ℕ)
in_each_call fill = map (stopped fill ("recover 1" ∷ "end" ∷ [])) calls

-- the stopped recovery is step 18, which shows nothing
abbrev shown_by_the_next : List (List ℕ)
shown_by_the_next = replicate 16 (written (up_to_crash ++ "= 19" ∷ risen ∷ "end 19" ∷ []))

with_no_bytes : in_each_call "-" ≡ shown_by_the_next
unfolding cases_compute
with_no_bytes = refl

with_one_byte_of_one : in_each_call "01" ≡ shown_by_the_next
unfolding cases_compute
with_one_byte_of_one = refl

with_many_bytes_of_one : in_each_call "0101010101010101010101010101010101010101" ≡ shown_by_the_next
unfolding cases_compute
with_many_bytes_of_one = refl

with_many_bytes_of_ff : in_each_call "ffffffffffffffffffffffffffffffffffffffff" ≡ shown_by_the_next
unfolding cases_compute
with_many_bytes_of_ff = refl

-- the header of the newer format may be left where it isn't whole yet
with_the_header : in_each_call "4347525549545932" ≡ shown_by_the_next
unfolding cases_compute
with_the_header = refl

-- a seventeenth call there is not
in_no_seventeenth_call : stopped "-" ("end" ∷ []) 17 ≡ written (up_to_crash ++ "= 18" ∷ risen ∷ "end 18" ∷ [])
unfolding cases_compute
in_no_seventeenth_call = refl

in_no_seventeenth_call_with_one : stopped "01" ("end" ∷ []) 17 ≡ written (up_to_crash ++ "= 18" ∷ risen ∷ "end 18" ∷ [])
unfolding cases_compute
in_no_seventeenth_call_with_one = refl
