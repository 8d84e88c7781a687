-- What stands at the front after two steps, of which the last may have failed.
use Rattle.std.proofs.Common.{◌≡◌, ℕ, List, ◌++◌}
use Rattle.std.specs.Prelude.{Result, Ok, Err, OnErr}
use Rattle.cg_base.specs.Fronts.{KeepsFront}
use Rattle.cg_base.specs.TextLaws.{KeepsFront-less, grown_twice}

-- a text that grew twice is at the front, and so is what it grew from
pub front_after : (before x one y two now : List ℕ) → one ≡ before ++ x → two ≡ one ++ y → KeepsFront two now → KeepsFront before now
front_after before x one y two now first second keeps = KeepsFront-less before (x ++ y) now (rw (grown_twice before x one y two first second) at keeps)

-- the same where the last step may have failed
pub front_kept : {T E : Type 0} (r : Result T E) (before x one y two now : List ℕ) → one ≡ before ++ x → two ≡ one ++ y → OnErr r (KeepsFront two now) → OnErr r (KeepsFront before now)
front_kept (Ok v) before x one y two now first second keeps = tt
front_kept (Err e) before x one y two now first second keeps = front_after before x one y two now first second keeps
