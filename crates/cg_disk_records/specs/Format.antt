-- The format of a replica's disk.
use Rattle.std.specs.Prelude.{ℕ, List}
use Rattle.cg_journal.specs.Records.{header}

-- the side in use is of the older format; or of the newer one, and these bytes stand at the front of the other side
pub data Format : Type 0 where
  Older : Format
  Newer : (front : List ℕ) → Format

-- both sides have the header of the newer one
abbrev pub all_newer : Format
all_newer = Newer header
