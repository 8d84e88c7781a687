-- What a journal keeps of its disk.
use Rattle.std.specs.Prelude.{ℕ, ◌+◌, ◌<◌, List, length}
use Rattle.cg_base.specs.declared.limits.TheConstants.{NUMBER_LIMIT}
use Rattle.cg_disk.specs.Sides.{bytes_of}
use Rattle.cg_disk.specs.View.{DiskView, IsAtRest}
use Rattle.cg_disk.specs.declared.disk.Side.{Side}
use Rattle.cg_disk.specs.declared.disk.Side.TheVariants.{A, B}
use Rattle.cg_journal.specs.Records.{HasRecords, spelled}
use Rattle.cg_journal.specs.declared.ends.Ends.{Ends}

-- the offset just past the gate behind these records
abbrev pub end_of : List (List ℕ) → ℕ
end_of bodies = 9 + length (spelled bodies)

-- where the records of a side end
abbrev pub end_on : Side → Ends → ℕ
end_on A ends = ends.a
end_on B ends = ends.b

-- the ends with another one on a side
abbrev pub with_end : Side → ℕ → Ends → Ends
with_end A end ends = record { a = end; b = ends.b }
with_end B end ends = record { a = ends.a; b = end }

-- a side has records that end here
pub record EndsAt (side : List ℕ) (end : ℕ) : Type 0 where
  pub bodies : List (List ℕ)
  pub has : HasRecords side end bodies
  pub short : end < NUMBER_LIMIT

-- both sides have records that end at these offsets, and everything is synced
pub record IsJournal (d : DiskView) (ends : Ends) : Type 0 where
  pub on : (side : Side) → EndsAt (bytes_of side d.reads) (end_on side ends)
  pub rest : IsAtRest d
