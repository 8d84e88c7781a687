-- How a disk that was read goes over to the newer format: what the calls behind those that read it leave.
use Rattle.std.specs.Prelude.{◌≡◌, ℕ, ◌+◌, ◌≤◌, List, Some, Result, Ok, Err}
use Rattle.cg_disk.specs.Sides.{Image, opposite}
use Rattle.cg_disk.specs.State.{DiskState, Blow}
use Rattle.cg_disk.specs.View.{DiskView, IsAtRest, LeavesOnly}
use Rattle.cg_disk.specs.declared.disk.Side.{Side}
use Rattle.cg_disk.specs.declared.disk.Side.TheVariants.{A, B}
use Rattle.cg_journal.specs.Found.{Sides, sides, found_at, front_on}
use Rattle.cg_journal.specs.Clears.{front_left}
use Rattle.cg_journal.specs.Strikes.{IsUnstruck, IsStruck}
use Rattle.cg_journal.specs.declared.open.MigrateErr.{MigrateErr}
use Rattle.cg_journal.specs.declared.open.MigrateErr.TheVariants.{Lost, NoMemory}
use Rattle.cg_records.specs.Limits.{IsNumber}
use Rattle.cg_disk_records.specs.Format.{Format, Older, Newer}
use Rattle.cg_disk_records.specs.Recovery.{clearing_calls, recovery_calls}
use Rattle.cg_store.specs.Stands.{OnDisk}
use Rattle.cg_store.specs.Formats.{chosen_in, Standing, StandsForState, opened}
use Rattle.cg_store.specs.Answers.{IsReached}
use Rattle.cg_store.specs.Migrating.{standing_left, IsCutOpening}
use Rattle.cg_store.specs.Opening.{IsSound}
use Rattle.cg_store.specs.declared.finding.OpenedSide.{OpenedSide}
use Rattle.cg_store.specs.declared.settling.Settled.{Settled}

-- a disk at rest, on whose sides this is found, stands for this
pub record IsUsed (id : ℕ) (s : Sides) (u : OnDisk) (d : DiskView) : Type 0 where
  pub found : sides d.reads ≡ Some s
  pub stands : chosen_in id s ≡ Some u
  pub rest : IsAtRest d

-- what was found, where the side in use is so long
abbrev pub disk_found : OpenedSide → ℕ → OnDisk
disk_found f size = record { side = f.side; generation = f.generation; size = size; content = f.core }

-- this was found on a disk, and the sides are of these versions
pub record IsAtHand (f : OpenedSide) (a b : ℕ) (d : DiskView) : Type 0 where
  pub on : Sides
  pub size : ℕ
  pub used : IsUsed f.core.id on (disk_found f size) d
  pub version_a : on.a.version ≡ a
  pub version_b : on.b.version ≡ b
  pub sound : IsSound f.core
  pub small : IsNumber f.generation

-- the same with the version of the side in use alone
pub record IsOfVersion (f : OpenedSide) (version : ℕ) (d : DiskView) : Type 0 where
  pub on : Sides
  pub size : ℕ
  pub used : IsUsed f.core.id on (disk_found f size) d
  pub version_is : (found_at f.side on).version ≡ version
  pub sound : IsSound f.core
  pub small : IsNumber f.generation

-- the calls behind the five that read the disk
abbrev pub settling_calls : Format → ℕ
settling_calls Older = 11
settling_calls (Newer front) = clearing_calls (Newer front)

-- both sides are of the newer format now
pub record IsSettled {D : Type 0} (view : D →
    DiskView) (id : ℕ) (s : Standing) (old : DiskView) (x : Settled D) : Type 0 where
  pub reached : IsReached id (settling_calls s.format) (opened s) old (view x.journal)
  pub side_is : x.side ≡ (opened s).side
  pub generation_is : x.generation ≡ (opened s).generation
  pub moments : LeavesOnly old (view x.journal) (StandsForState id s.on.content)

-- one of the calls was struck, of an opening that had made so many earlier ones
pub record IsLostSettling (id earlier : ℕ) (s : Standing) (old new : DiskView) : Type 0 where
  pub call : ℕ
  pub struck : IsStruck old new
  pub time : new.time + earlier ≡ old.time + call
  pub within : call ≤ recovery_calls s.format
  pub images : (c : Image) → new.may_leave c → StandsForState id s.on.content c
  pub reads : new.may_leave new.reads
  pub told : (d e : DiskState) → old.state ≡ Some d → new.state ≡ Some e → IsCutOpening id s call d e
  pub moments : LeavesOnly old new (StandsForState id s.on.content)

-- memory was refused
pub record IsUnsettled (id calls : ℕ) (s : Standing) (old new : DiskView) : Type 0 where
  pub stands : StandsForState id s.on.content new.reads
  pub time : new.time ≤ old.time + calls
  pub unstruck : IsUnstruck old new
  pub moments : LeavesOnly old new (StandsForState id s.on.content)

abbrev pub Settles : {D : Type 0} → (D → DiskView) → ℕ → Standing → DiskView →
    Result (Settled D) (MigrateErr D) → Type 0
Settles view id s old (Ok x) = IsSettled view id s old x
Settles view id s old (Err (Lost disk)) = IsLostSettling id 5 s old (view disk)
Settles view id s old (Err (NoMemory disk)) = IsUnsettled id 11 s old (view disk)

-- ---- its last part, in which the side that isn't in use is cleared

-- of an opening of a disk that stood for the one, which had made so many calls: now the disk stands for the other,
-- whose side in use is of the newer format
pub record IsClearing (id earlier : ℕ) (was : Standing) (s : Sides) (u : OnDisk) (d : DiskView) : Type 0 where
  pub used : IsUsed id s u d
  pub version_is : (found_at u.side s).version ≡ 2
  pub opened_is : opened was ≡ u
  pub content_is : was.on.content ≡ u.content
  pub within : earlier + 4 ≤ recovery_calls was.format
  pub left : (call : ℕ) (blow : Blow) (fill : List ℕ) → 1 ≤ call → call ≤ 4 →
      standing_left was (earlier + call) blow fill ≡
      record { on = u; format = Newer (front_left blow call fill (front_on (opposite u.side) d.reads)) }

-- a side is of the newer format
pub record IsNewerOn (side : Side) (d : DiskView) : Type 0 where
  pub on : Sides
  pub found : sides d.reads ≡ Some on
  pub version_is : (found_at side on).version ≡ 2

pub record IsCleared {D : Type 0} (view : D →
    DiskView) (id : ℕ) (s : Standing) (old : DiskView) (x : Settled D) : Type 0 where
  pub reached : IsReached id 4 (opened s) old (view x.journal)
  pub moments : LeavesOnly old (view x.journal) (StandsForState id s.on.content)

abbrev pub Clears : {D : Type 0} → (D → DiskView) → ℕ → ℕ → Standing → DiskView →
    Result (Settled D) (MigrateErr D) → Type 0
Clears view id earlier s old (Ok x) = IsCleared view id s old x
Clears view id earlier s old (Err (Lost disk)) = IsLostSettling id earlier s old (view disk)
Clears view id earlier s old (Err (NoMemory disk)) = IsUnsettled id 2 s old (view disk)

-- one of two values, by side
abbrev pub at_side : Side → ℕ → ℕ → ℕ
at_side A a b = a
at_side B a b = b
