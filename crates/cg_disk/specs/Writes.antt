-- What a write does, and what a crash may make of it.
use Rattle.std.specs.Prelude.{◌≡◌, ℕ, ◌+◌, ◌≤◌, max, List, ◌++◌, length, take, drop}
use Rattle.cg_disk.specs.Sides.{Image, bytes_of, opposite}
use Rattle.cg_disk.specs.declared.disk.Side.{Side}

-- these bytes over the old ones from an offset on, and past their end
abbrev pub overwritten : List ℕ → ℕ → List ℕ → List ℕ
overwritten old offset bytes = take offset old ++ bytes ++ drop (offset + length bytes) old

-- a write of some bytes at an offset that a crash cuts short: any bytes in its range and past the old end, the same elsewhere
pub record Torn (offset count : ℕ) (old new : List ℕ) : Type 0 where
  pub before : take offset new ≡ take offset old
  pub after : drop (offset + count) new ≡ drop (offset + count) old
  pub no_shorter : length old ≤ length new
  pub no_longer : length new ≤ max (length old) (offset + count)

-- such a write on one side
pub record TornSide (side : Side) (offset count : ℕ) (old new : Image) : Type 0 where
  pub torn : Torn offset count (bytes_of side old) (bytes_of side new)
  pub other : bytes_of (opposite side) new ≡ bytes_of (opposite side) old

-- each new outcome of a crash is an old one after a step
abbrev pub Follows : (Image → Image → Type 0) → (Image → Type 0) → (Image → Type 0) → Type 0
Follows step old new = (c : Image) → new c → (d : Image) × old d × step d c

-- a crash leaves this and nothing else
abbrev pub Only : Image → (Image → Type 0) → Type 0
Only image outcomes = (c : Image) → outcomes c → c ≡ image
