-- Disks of the older format: how many calls a recovery that was stopped leaves to the next one, and which states have such a
-- disk.
use Rattle.std.specs.Prelude.{◌≡◌, List, [], ◌∷◌, ◌++◌}
use Prim.Native.String.{String}
use mathlib.Core.Path.{refl}
use Rattle.cg_run_cases.specs.Replaying.{written, replayed_text}
use Rattle.cg_run_cases.specs.Computing.{cases_compute}
use Rattle.cg_run_cases.proofs.CaseOldDiskTable.{made_older, up_to_crash, risen}

-- what is put where these lines follow those by which the disk becomes one of the older format
abbrev IsPut : List String → List String → Type 0
IsPut lines shown = replayed_text (made_older ++ lines ++ "end" ∷ []) ≡ written (up_to_crash ++ shown)

-- a disk of the older format is gone over to the newer one at the recovery, also after one that was struck
struck_once : IsPut ("recover 1 1 -" ∷ "recover 1" ∷ []) ("= 19" ∷ risen ∷ "end 19" ∷ [])
unfolding cases_compute
struck_once = refl

-- where the gate of the new checkpoint was opened nine calls are left, of which the last can be struck
behind_the_gate_09 : IsPut ("recover 1 11 01" ∷ "recover 1 9 -" ∷ []) ("end 19" ∷ [])
unfolding cases_compute
behind_the_gate_09 = refl

-- and a tenth there is not
behind_the_gate_10 : IsPut ("recover 1 11 01" ∷ "recover 1 10 -" ∷ []) ("= 19" ∷ risen ∷ "end 19" ∷ [])
unfolding cases_compute
behind_the_gate_10 = refl

-- where it was not opened all sixteen are left
before_the_gate_16 : IsPut ("recover 1 11 -" ∷ "recover 1 16 -" ∷ []) ("end 19" ∷ [])
unfolding cases_compute
before_the_gate_16 = refl

-- where the stop left the whole header on the other side, the five that read
behind_the_header_05 : IsPut ("recover 1 15 4347525549545932" ∷ "recover 1 5 -" ∷ []) ("end 19" ∷ [])
unfolding cases_compute
behind_the_header_05 = refl

-- and no sixth
behind_the_header_06 : IsPut ("recover 1 15 4347525549545932" ∷ "recover 1 6 -" ∷ []) ("= 19" ∷ risen ∷ "end 19" ∷ [])
unfolding cases_compute
behind_the_header_06 = refl

-- behind a torn header nine
behind_a_torn_header_09 : IsPut ("recover 1 15 41414141414141" ∷ "recover 1 9 -" ∷ []) ("end 19" ∷ [])
unfolding cases_compute
behind_a_torn_header_09 = refl

-- two stops may put the header together, byte by byte
put_together :
    IsPut ("recover 1 15 4141414141414132" ∷ "recover 1 8 43475255495459" ∷ "recover 1 6 -" ∷ [])
    ("= 20" ∷ risen ∷ "end 20" ∷ [])
unfolding cases_compute
put_together = refl

-- a disk may become one of the older format again, also where a recovery of it was struck
again :
    IsPut ("downgrade 1" ∷ "recover 1 16 -" ∷ "downgrade 1" ∷ "recover 1 12 01" ∷ "recover 1" ∷ [])
    ("= 22" ∷ risen ∷ "end 22" ∷ [])
unfolding cases_compute
again = refl

-- a weight above 1 has no bytes in the older format
weighted : replayed_text ("start 1*2" ∷ "merge 1" ∷ "stop 1 0 -" ∷ "downgrade 1" ∷ []) ≡ written (
    "= 1" ∷
    "1 NonPrim - g0 w0 p0@0{1*2} a0 v- y- r[] o[] x{} b0" ∷
    "= 2" ∷
    "1 ExchangeStates c1 g0 w0 p0@0{1*2} a0 v- y- r[] o[] x{} b0" ∷
    "= 3" ∷
    "1 Down" ∷
    "refused 4 17 1" ∷
    [])
unfolding cases_compute
weighted = refl
