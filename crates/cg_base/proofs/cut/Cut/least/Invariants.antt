use Rattle.std.proofs.Common.{◌≡◌, ℕ, ◌<◌, ◌≤◌, ◌^◌, min, get_or}
use Rattle.cg_base.specs.Slots.{IsArray}
use Rattle.cg_base.proofs.cut.Cut.least.Given as goal

-- the lesser indexes up to the slot, and from there on those of the first cut
abbrev pub invariant-loop-slot : goal.invariant-loop-slot
invariant-loop-slot l =
    IsArray l.indexes (2 ^ 64)
    × ((k : ℕ) → k < l.slot → get_or l.indexes k 0 ≡ min (get_or l.initial.indexes k 0) (get_or l.index-items k 0))
    × ((k : ℕ) → l.slot ≤ k → get_or l.indexes k 0 ≡ get_or l.initial.indexes k 0)
