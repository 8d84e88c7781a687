-- A joiner, and how the making of its disk ends.
use Rattle.std.specs.Prelude.{◌≡◌, ℕ, List, Result, Ok, Err}
use Rattle.cg_client.specs.Replica.{Held}
use Rattle.cg_db.specs.Ascending.{Ascends}
use Rattle.cg_disk.specs.View.{DiskView}
use Rattle.cg_journal.specs.Fresh.{IsLostWithin, IsRefusedWithin}
use Rattle.cg_disk_records.specs.Agreeing.{Agrees}
use Rattle.cg_store.specs.Answers.{IsReached}
use Rattle.cg_store.specs.StoreState.{StoreState}
use Rattle.cg_store.specs.Stands.{OnDisk}
use Rattle.cg_store.specs.declared.errors.CommitErr.{CommitErr}
use Rattle.cg_store.specs.declared.errors.CommitErr.TheVariants.{Lost, NoMemory}
use Rattle.cg_join.specs.declared.name.SnapshotName.{SnapshotName}
use Rattle.cg_join.specs.declared.piece.PieceContent.{PieceContent}
use Rattle.cg_join.specs.Snapshot.{parts_of}
use Rattle.cg_client.specs.Joined.{joiner_content}

-- a joiner: its disk, whose it is, the snapshot that it takes, and the parts of the pieces that were taken
pub record Joining (D : Type 0) : Type 0 where
  pub disk : D
  pub id : ℕ
  pub name : SnapshotName
  pub parts : List PieceContent

-- the parts are those of one snapshot, and a replica may hold what it brings
pub record IsSnapshotFor (id : ℕ) (parts : List PieceContent) : Type 0 where
  pub source : Held
  pub ascends : Ascends source.db
  pub all : parts ≡ parts_of source
  pub agrees : Agrees (joiner_content id source)

-- a store's answer as a disk
abbrev pub ended : {D E : Type 0} → Result (StoreState D) E → Result D E
ended (Ok store) = Ok store.disk
ended (Err fault) = Err fault

-- the disk was made, in seven calls, and stands for this; after an error it may be no replica's disk
abbrev pub Finishes : {D : Type 0} → (D → DiskView) → ℕ → OnDisk → DiskView → Result D (CommitErr D) → Type 0
Finishes view id after old (Ok disk) = IsReached id 7 after old (view disk)
Finishes view id after old (Err (Lost disk)) = IsLostWithin 7 old (view disk)
Finishes view id after old (Err (NoMemory disk)) = IsRefusedWithin 7 old (view disk)
