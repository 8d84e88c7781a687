-- The values that the record before had.
use Rattle.std.specs.Prelude.{◌≡◌, ◌≢◌, ℕ, List, [], take, length, ◌⊎◌}
use Rattle.cg_records.specs.Bytes.{spelled_stable}
use Rattle.cg_records.specs.Limits.{IsStable}
use Rattle.cg_store.specs.declared.last_values.LastValues.{LastValues}

-- there are no bytes yet, or those that spell the values
abbrev pub IsRecent : LastValues → Type 0
IsRecent r = (r.front.now ≡ []) ⊎ (IsStable r.values × (r.front.now ≡ spelled_stable r.values))

-- the record begins with these bytes, and there are some
abbrev pub Repeats : List ℕ → List ℕ → Type 0
Repeats front body = (front ≢ []) × (front ≡ take (length front) body)
