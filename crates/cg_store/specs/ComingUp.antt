-- What the calls of an opening leave behind those that read the disk.
use Rattle.std.specs.Prelude.{◌≡◌, ◌⊎◌, ℕ, [], None, Result, Ok, Err}
use Rattle.cg_disk.specs.View.{DiskView, LeavesOnly}
use Rattle.cg_journal.specs.declared.open.JournalOpen.{JournalOpen}
use Rattle.cg_journal.specs.declared.open.JournalOpen.TheVariants.{Lost as ReadLost, NotAJournal, NoMemory as ReadNoMemory}
use Rattle.cg_journal.specs.declared.open.MigrateErr.{MigrateErr}
use Rattle.cg_journal.specs.declared.open.MigrateErr.TheVariants.{Lost as MoveLost, NoMemory as MoveNoMemory}
use Rattle.cg_client.specs.Replica.{Held}
use Rattle.cg_store.specs.Formats.{Standing, StandsFor, standing_on_disk, StandsForState, opened}
use Rattle.cg_store.specs.Answers.{IsReached}
use Rattle.cg_store.specs.Opening.{IsSound}
use Rattle.cg_store.specs.Settling.{settling_calls, IsLostSettling, IsUnsettled}
use Rattle.cg_store.specs.StoreState.{StoreState}
use Rattle.cg_store.specs.declared.errors.OpenErr.{OpenErr}
use Rattle.cg_store.specs.declared.errors.OpenErr.TheVariants.{Lost, NotAStore, NoMemory}

-- the store of a disk that stood for a state, and the core that holds it
pub record IsUp {D : Type 0} (view : D →
    DiskView) (id : ℕ) (old : DiskView) (store : StoreState D) (core : Held) : Type 0 where
  pub standing : Standing
  pub stands : StandsFor id old.reads standing
  pub core_is : core ≡ standing.on.content
  pub sound : IsSound standing.on.content
  pub owner : standing.on.content.id ≡ id
  pub id_is : store.id ≡ id
  pub unwritten : store.unwritten ≡ []
  pub reached : IsReached id (settling_calls standing.format) (opened standing) old (view store.disk)
  pub moments : LeavesOnly old (view store.disk) (StandsForState id standing.on.content)

-- one of the calls was struck of a disk that stood for a state
pub record IsLostComingUp (id : ℕ) (old new : DiskView) : Type 0 where
  pub standing : Standing
  pub stands : StandsFor id old.reads standing
  pub lost : IsLostSettling id 5 standing old new

-- memory was refused in one of them
pub record IsRefusedComingUp (id : ℕ) (old new : DiskView) : Type 0 where
  pub standing : Standing
  pub stands : StandsFor id old.reads standing
  pub unsettled : IsUnsettled id 11 standing old new

abbrev pub ComesUp : {D : Type 0} → (D → DiskView) → ℕ → D → Result (StoreState D × Held) (OpenErr D) → Type 0
ComesUp view id journal (Ok opened) = IsUp view id (view journal) opened.0 opened.1
ComesUp view id journal (Err (Lost disk)) = IsLostComingUp id (view journal) (view disk)
ComesUp view id journal (Err (NotAStore disk)) = (disk ≡ journal) × (standing_on_disk id (view journal).reads ≡ None)
ComesUp view id journal (Err (NoMemory disk)) = (disk ≡ journal) ⊎ IsRefusedComingUp id (view journal) (view disk)

-- what ended the going over to the newer format ends the opening
abbrev pub move_fault : {D : Type 0} → MigrateErr D → OpenErr D
move_fault (MoveLost disk) = Lost disk
move_fault (MoveNoMemory disk) = NoMemory disk

-- so does what ended the reading of the disk
abbrev pub read_fault : {D : Type 0} → JournalOpen D → OpenErr D
read_fault (ReadLost disk) = Lost disk
read_fault (NotAJournal disk) = NotAStore disk
read_fault (ReadNoMemory disk) = NoMemory disk
