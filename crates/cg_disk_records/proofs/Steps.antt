-- Steps of calls that write one part behind the other.
use Rattle.std.proofs.Common.{◌≡◌, ℕ, List, ◌++◌}
use Rattle.std.specs.Prelude.{Result, Ok, Err, OnErr}
use Rattle.cg_base.specs.Fronts.{KeepsFront}
use Rattle.cg_base.specs.TextLaws.{KeepsFront-less}

-- what was there before a part was put is at the front, if the next step keeps what there was then
pub front_after : {T E : Type 0} (r : Result T E) (before part one now : List ℕ) → one ≡ before ++ part → OnErr r (KeepsFront one now) → OnErr r (KeepsFront before now)
front_after (Ok v) before part one now first keeps = tt
front_after (Err e) before part one now first keeps = KeepsFront-less before part now (rw first at keeps)

pub keeps_after : (before part one now : List ℕ) → one ≡ before ++ part → KeepsFront one now → KeepsFront before now
keeps_after before part one now first keeps = KeepsFront-less before part now (rw first at keeps)
