-- The two sides of a disk, and the bytes on them.
use Rattle.std.specs.Prelude.{ℕ, List}
use Rattle.cg_disk.specs.declared.disk.Side.{Side}
use Rattle.cg_disk.specs.declared.disk.Side.TheVariants.{A, B}

-- the bytes of both sides
pub record Image : Type 0 where
  pub a : List ℕ
  pub b : List ℕ

-- the bytes of one side
abbrev pub bytes_of : Side → Image → List ℕ
bytes_of A image = image.a
bytes_of B image = image.b

-- the image with other bytes on one side
abbrev pub with_bytes : Side → List ℕ → Image → Image
with_bytes A bytes image = record { a = bytes; b = image.b }
with_bytes B bytes image = record { a = image.a; b = bytes }

-- the other side
abbrev pub opposite : Side → Side
opposite A = B
opposite B = A
