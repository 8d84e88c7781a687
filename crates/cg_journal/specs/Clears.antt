-- A side that goes over to the newer format without records, in four calls: its gate is closed, and then its header is
-- written.
use Rattle.std.specs.Prelude.{◌≡◌, ℕ, ◌+◌, ◌≤◌, nat_lt, List, take, Some, Result, Ok, Err, if◌then◌else◌}
use Rattle.cg_disk.specs.Sides.{Image, bytes_of, opposite}
use Rattle.cg_disk.specs.State.{DiskState, DiskStrike, Blow, Fails, Stops, left_by}
use Rattle.cg_disk.specs.View.{DiskView, IsAtRest}
use Rattle.cg_disk.specs.Writes.{overwritten}
use Rattle.cg_disk.specs.declared.disk.Side.{Side}
use Rattle.cg_journal.specs.Records.{header}
use Rattle.cg_journal.specs.Strikes.{IsUnstruck, IsStruck}
use Rattle.cg_journal.specs.Found.{Sides, sides, front_on, blank, with_found}
use Rattle.cg_journal.specs.Renews.{IsUnrenewed}
use Rattle.cg_journal.specs.declared.open.MigrateErr.{MigrateErr}
use Rattle.cg_journal.specs.declared.open.MigrateErr.TheVariants.{Lost, NoMemory}

-- what stands at the front of the side after a strike in one of the four calls: the third writes the header, and the
-- fourth syncs it
abbrev pub front_left : Blow → ℕ → List ℕ → List ℕ → List ℕ
front_left Fails call fill front = if nat_lt 3 call then header else front
front_left Stops call fill front = if nat_lt 2 call then overwritten front 0 (take 8 fill) else front

-- what a disk tells that was struck there
pub record IsCutClearing (side : Side) (s : Sides) (front : List ℕ) (call : ℕ) (before after : DiskState) : Type 0 where
  pub strike : DiskStrike
  pub armed : before.strike ≡ Some strike
  pub images : (fill : List ℕ) → IsUnrenewed side s (left_by after fill)
  pub fronts : (fill : List ℕ) → front_on side (left_by after fill) ≡ front_left strike.blow call fill front

pub record IsLostClearing (side : Side) (s : Sides) (old new : DiskView) : Type 0 where
  pub call : ℕ
  pub within : (1 ≤ call) × (call ≤ 4)
  pub struck : IsStruck old new
  pub time : new.time ≡ old.time + call
  pub images : (c : Image) → new.may_leave c → IsUnrenewed side s c
  pub reads : new.may_leave new.reads
  pub told : (d e : DiskState) → old.state ≡ Some d → new.state ≡ Some e →
      IsCutClearing side s (front_on side old.reads) call d e

-- the side has no records, in the newer format; the other side is as it was
pub record IsClearedBy (side : Side) (s : Sides) (old new : DiskView) : Type 0 where
  pub is : sides new.reads ≡ Some (with_found side (blank 2) s)
  pub other : bytes_of (opposite side) new.reads ≡ bytes_of (opposite side) old.reads
  pub rest : IsAtRest new
  pub time : new.time ≡ old.time + 4
  pub unstruck : IsUnstruck old new

-- memory was refused, behind at most two calls: what stands at the front is as it was
pub record IsUnclearedBy (side : Side) (s : Sides) (old new : DiskView) : Type 0 where
  pub is : IsUnrenewed side s new.reads
  pub front : front_on side new.reads ≡ front_on side old.reads
  pub other : bytes_of (opposite side) new.reads ≡ bytes_of (opposite side) old.reads
  pub rest : IsAtRest new
  pub time : new.time ≤ old.time + 2
  pub unstruck : IsUnstruck old new

abbrev pub Clears : {D : Type 0} → (D → DiskView) → Side → Sides → DiskView → Result D (MigrateErr D) → Type 0
Clears view side s old (Ok journal) = IsClearedBy side s old (view journal)
Clears view side s old (Err (Lost disk)) = IsLostClearing side s old (view disk)
Clears view side s old (Err (NoMemory disk)) = IsUnclearedBy side s old (view disk)
