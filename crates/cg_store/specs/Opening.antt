-- How a disk is opened.
use Rattle.std.specs.Prelude.{◌≡◌, ℕ, nat_lt, Bool, true, false, List, [], ◌∷◌, drop, Option, Some, None, Result, Ok, Err, if◌then◌else◌}
use Rattle.cg_disk.specs.View.{DiskView, LeavesOnly}
use Rattle.cg_disk.specs.declared.disk.Side.{Side}
use Rattle.cg_disk.specs.declared.disk.Side.TheVariants.{A, B}
use Rattle.cg_journal.specs.Records.{Records, on_side}
use Rattle.cg_journal.specs.Reads.{IsRead}
use Rattle.cg_records.specs.Limits.{IsNumber}
use Rattle.cg_client.specs.Replica.{Held}
use Rattle.cg_disk_records.specs.Stored.{Stored, stable_of}
use Rattle.cg_disk_records.specs.Parts.{Saved, saved_in, stored_in, checkpoint_in}
use Rattle.cg_disk_records.specs.Laws.{AreSaved}
use Rattle.cg_disk_records.specs.declared.checkpoint.Checkpoint.{Checkpoint}
use Rattle.cg_disk_records.specs.Holds.{Holds}
use Rattle.cg_disk_records.specs.Recovery.{recovery_calls}
use Rattle.cg_store.specs.Stands.{Live, live_from, standing_on, standing_in, led_by_all}
use Rattle.cg_store.specs.Formats.{Standing, StandsFor, standing_on_disk, opened}
use Rattle.cg_store.specs.Answers.{IsReached}
use Rattle.cg_store.specs.Migrating.{IsLostOpening, IsOpening, IsOpeningRefused}
use Rattle.cg_store.specs.StoreState.{StoreState}
use Rattle.cg_store.specs.declared.finding.OpenedSide.{OpenedSide}
use Rattle.cg_store.specs.declared.finding.SideFront.{SideFront}
use Rattle.cg_store.specs.declared.errors.OpenErr.{OpenErr}
use Rattle.cg_store.specs.declared.errors.OpenErr.TheVariants.{Lost, NotAStore, NoMemory}

-- a test of what was put into a state, and the state behind it
abbrev pub Follows : Option Stored → Held → Bool → Type 0
Follows next new true = next ≡ Some new
Follows next new false = next ≡ None

-- the checkpoint at the front of a side
abbrev pub first_on : ℕ → List (List ℕ) → Option Saved
first_on id [] = None
first_on id (body ∷ changes) = checkpoint_in id body

abbrev pub FindsFirst : ℕ → List (List ℕ) → Option Checkpoint → Type 0
FindsFirst id bodies None = first_on id bodies ≡ None
FindsFirst id bodies (Some p) = (first_on id bodies ≡ Some (saved_in id p)) × AreSaved id p

-- the number is the generation of the checkpoint at the front of a side, if there is one
abbrev pub IsInFront : List (List ℕ) → Option ℕ → Type 0
IsInFront bodies number = (id : ℕ) (s : Saved) → first_on id bodies ≡ Some s → number ≡ Some s.generation

-- of two sides that begin with checkpoints this is the one with the greater generation, A where the two are equal
abbrev pub later_side : ℕ → ℕ → Side
later_side a b = if nat_lt a b then B else A

abbrev pub IsLater : List (List ℕ) → List (List ℕ) → Side → Type 0
IsLater a b side = (id : ℕ) (s t : Saved) → first_on id a ≡ Some s → first_on id b ≡ Some t →
    side ≡ later_side s.generation t.generation

-- what stands on a side with this checkpoint at its front
abbrev pub live_of : ℕ → List (List ℕ) → Checkpoint → Live
live_of id bodies p = live_from bodies (drop 1 bodies) (saved_in id p)

-- the side in use begins with this checkpoint
pub record IsChosen (id : ℕ) (r : Records) (side : Side) (first : Checkpoint) : Type 0 where
  pub saved : AreSaved id first
  pub standing : standing_in id r ≡ standing_on side (live_of id (on_side side r) first)

abbrev pub FindsFront : ℕ → Records → Option SideFront → Type 0
FindsFront id r None = standing_in id r ≡ None
FindsFront id r (Some f) = IsChosen id r f.side f.first

-- the changes behind a checkpoint were put into what it stands for
pub record IsReplayed (id : ℕ) (side : Side) (first : Checkpoint) (changes : List (List ℕ)) (f : OpenedSide) : Type 0 where
  pub side_is : f.side ≡ side
  pub generation_is : f.generation ≡ first.generation
  pub leads : led_by_all (Some (stored_in id first)) changes ≡ Some f.core
  pub values : f.values ≡ stable_of f.core
  pub small : IsNumber f.generation

abbrev pub Replays : ℕ → Side → Checkpoint → List (List ℕ) → Option OpenedSide → Type 0
Replays id side first changes None = led_by_all (Some (stored_in id first)) changes ≡ None
Replays id side first changes (Some f) = IsReplayed id side first changes f

-- what stands on a disk: it holds, and has nothing that is kept in memory alone
pub record IsSound (s : Stored) : Type 0 where
  pub holds : Holds s
  pub buffered : s.buffered ≡ []
  pub owed : s.owed ≡ []

-- what these records stand for was found
pub record IsFound (id : ℕ) (r : Records) (f : OpenedSide) : Type 0 where
  pub size : ℕ
  pub stands : standing_in id r ≡
      Some (record { side = f.side; generation = f.generation; size = size; content = f.core })
  pub values : f.values ≡ stable_of f.core
  pub small : IsNumber f.generation
  pub sound : IsSound f.core

abbrev pub Finds : ℕ → Records → Option OpenedSide → Type 0
Finds id r None = standing_in id r ≡ None
Finds id r (Some f) = IsFound id r f

-- the store of a disk that stands for a state, and the core that holds it. The disk has gone over to the newer format
pub record IsOpened {D : Type 0} (view : D →
    DiskView) (id : ℕ) (old : DiskView) (store : StoreState D) (core : Held) : Type 0 where
  pub standing : Standing
  pub stands : StandsFor id old.reads standing
  pub core_is : core ≡ standing.on.content
  pub sound : IsSound standing.on.content
  pub owner : standing.on.content.id ≡ id
  pub id_is : store.id ≡ id
  pub unwritten : store.unwritten ≡ []
  pub reached : IsReached id (recovery_calls standing.format) (opened standing) old (view store.disk)
  pub moments : LeavesOnly old (view store.disk) (IsOpening id old)

-- the disk stands for no state of this replica
pub record IsNoStore (id : ℕ) (old new : DiskView) : Type 0 where
  pub stands_for_none : standing_on_disk id old.reads ≡ None
  pub read : IsRead 5 old new

abbrev pub OpensStore : {D : Type 0} → (D → DiskView) → ℕ → DiskView → Result (StoreState D × Held) (OpenErr D) → Type 0
OpensStore view id old (Ok opened) = IsOpened view id old opened.0 opened.1
OpensStore view id old (Err (Lost disk)) = IsLostOpening id old (view disk)
OpensStore view id old (Err (NotAStore disk)) = IsNoStore id old (view disk)
OpensStore view id old (Err (NoMemory disk)) = IsOpeningRefused id old (view disk)
