-- What a journal keeps of a disk whose sides may be of either format.
use Rattle.std.specs.Prelude.{◌≡◌, ℕ, ◌≤◌, ◌==◌, Bool, List, length, get_or, take}
use Rattle.cg_disk.specs.Sides.{bytes_of}
use Rattle.cg_disk.specs.View.{DiskView, IsAtRest}
use Rattle.cg_disk.specs.declared.disk.Side.{Side}
use Rattle.cg_disk.specs.declared.disk.Side.TheVariants.{A, B}
use Rattle.cg_journal.specs.Records.{header}
use Rattle.cg_journal.specs.Held.{EndsAt}
use Rattle.cg_journal.specs.declared.heads.Head.{Head}
use Rattle.cg_journal.specs.declared.heads.Heads.{Heads}

abbrev pub head_on : Side → Heads → Head
head_on A heads = heads.a
head_on B heads = heads.b

abbrev pub with_head : Side → Head → Heads → Heads
with_head A head heads = record { a = head; b = heads.b }
with_head B head heads = record { a = heads.a; b = head }

-- whether the first gate of a side is open
abbrev pub gate_is_open : List ℕ → Bool
gate_is_open side = get_or side 8 0 == 1

-- a side of either format: whether its first gate is open, and where its records end if it is of the newer one
pub record IsHead (side : List ℕ) (head : Head) : Type 0 where
  pub long : 9 ≤ length side
  pub gate : head.is_open ≡ gate_is_open side
  pub ends : take 8 side ≡ header → EndsAt side head.end

-- both sides are such, and everything is synced
pub record IsMixedJournal (d : DiskView) (heads : Heads) : Type 0 where
  pub on : (side : Side) → IsHead (bytes_of side d.reads) (head_on side heads)
  pub rest : IsAtRest d
