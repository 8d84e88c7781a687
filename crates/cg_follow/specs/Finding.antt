-- What the calls that read the records of a side find.
use Rattle.std.specs.Prelude.{◌≡◌, Bool, true, false, Option, Some, None}
use Rattle.cg_follow.specs.Followed.{Followed}

-- a record was put in, or is no feed
abbrev pub Follows : Option Followed → Followed → Bool → Type 0
Follows found now true = found ≡ Some now
Follows found now false = found ≡ None
