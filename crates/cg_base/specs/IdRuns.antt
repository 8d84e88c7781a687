-- Names of actions held as runs: of each its creator, with the first and the last index.
use Rattle.std.specs.Prelude.{◌≡◌, ℕ, suc, ◌≤◌, ◌<◌, ◌^◌, ◌==◌, ◌&&◌, Bool, false, List, [], ◌∷◌, map}
use Rattle.std.specs.List.{flat_map}
use Rattle.cg_base.specs.declared.action_id.ActionId.{ActionId}
use Rattle.cg_base.specs.declared.id_runs.IdRun.{IdRun}
use Rattle.cg_base.specs.Lists.{above_up_to}
use Rattle.cg_base.specs.Sets.{IsId}

-- a creator's names above the first index and up to the second
abbrev pub names_above : ℕ → ℕ → ℕ → List ActionId
names_above low high creator = map (λ n. record { creator = creator; index = n }) (above_up_to low high)

-- the names of a run
abbrev pub ids_of : IdRun → List ActionId
ids_of run = record { creator = run.creator; index = run.first } ∷ names_above run.first run.last run.creator

-- the names of runs, one run behind another
abbrev pub ids_in : List IdRun → List ActionId
ids_in runs = flat_map ids_of runs

-- the second run begins where the first one ends
abbrev pub goes_on : IdRun → IdRun → Bool
goes_on a b = (a.creator == b.creator) && (suc a.last == b.first)

-- no run goes on behind this one
abbrev pub Ends : IdRun → List IdRun → Type 0
Ends a [] = Unit {0}
Ends a (b ∷ runs) = goes_on a b ≡ false

-- each run has a name, its indexes are within 64 bits, and no run goes on where the one before it ends. So the names say
-- which runs these are
abbrev pub AreRuns : List IdRun → Type 0
AreRuns [] = Unit {0}
AreRuns (run ∷ runs) = (run.first ≤ run.last) × Ends run runs × AreRuns runs × (run.last < 2 ^ 64)

-- each run is of names that a replica gave
abbrev pub AreOfReplicas : List IdRun → Type 0
AreOfReplicas [] = Unit {0}
AreOfReplicas (run ∷ runs) = IsId run.creator × AreOfReplicas runs
