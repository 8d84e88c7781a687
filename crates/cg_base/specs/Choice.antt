-- Of two things the one that a test picks.
use Rattle.std.specs.Prelude.{Bool, true, false}

-- the first of two for true, the second for false
abbrev pub Either : Bool → Type 0 → Type 0 → Type 0
Either true A B = A
Either false A B = B
