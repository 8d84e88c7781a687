-- What each call of a store answers.
use Rattle.std.specs.Prelude.{◌≡◌, ◌⊎◌, ℕ, nat_lt, Bool, true, false, List, [], ◌++◌, Some, Result, Ok, Err}
use Rattle.cg_base.specs.Choice.{Either}
use Rattle.cg_action.specs.declared.action.Action.{Action}
use Rattle.cg_disk.specs.Sides.{Image}
use Rattle.cg_disk.specs.View.{DiskView}
use Rattle.cg_journal.specs.Fresh.{IsLostWithin, IsRefusedWithin}
use Rattle.cg_journal.specs.declared.journal.AppendErr.{AppendErr}
use Rattle.cg_journal.specs.declared.journal.AppendErr.TheVariants.{Lost as AppendLost, NoMemory as AppendNoMemory}
use Rattle.cg_client.specs.declared.parts.DraftParts.{DraftParts}
use Rattle.cg_disk_records.specs.Stored.{Stored, stable_of}
use Rattle.cg_disk_records.specs.Parts.{checkpoint_in}
use Rattle.cg_records.specs.declared.stable.Stable.{Stable}
use Rattle.cg_disk_records.specs.Checkpoint.{size_limit}
use Rattle.cg_store.specs.Stands.{OnDisk, Stands, checkpointed}
use Rattle.cg_store.specs.StoreState.{StoreState}
use Rattle.cg_store.specs.Answers.{IsReached, IsRefused, IsLost}
use Rattle.cg_store.specs.declared.outputs.Outputs.{Outputs}
use Rattle.cg_store.specs.declared.errors.CommitErr.{CommitErr}
use Rattle.cg_store.specs.declared.errors.CommitErr.TheVariants.{Lost, NoMemory}

-- what an event gives out, which was written or not
abbrev pub outputs_of : Bool → DraftParts → Outputs
outputs_of written d = record { made = d.made; sent = d.sent; replies = d.replies; green = d.green; written = written }

-- an image stands for one of two
abbrev pub IsEither : ℕ → OnDisk → OnDisk → Image → Type 0
IsEither id u v c = Stands id c u ⊎ Stands id c v

-- bytes are a checkpoint of this state, the first one
abbrev pub IsSaved : ℕ → List ℕ → Stored → Type 0
IsSaved id body s = checkpoint_in id body ≡ Some (record { generation = 1; content = s })

-- they are one of some state with these values
pub record IsFirst (id : ℕ) (body : List ℕ) (values : Stable) : Type 0 where
  pub state : Stored
  pub saved : IsSaved id body state
  pub values_are : values ≡ stable_of state

-- the first record was written on an empty disk, in four calls
abbrev pub Begins : {D : Type 0} → (D → DiskView) → ℕ → OnDisk → DiskView → Result (StoreState D) (CommitErr D) → Type 0
Begins view id after old (Ok store) = IsReached id 4 after old (view store.disk) × (store.id ≡ id)
    × (store.unwritten ≡ [])
Begins view id after old (Err (Lost disk)) = IsLostWithin 4 old (view disk)
Begins view id after old (Err (NoMemory disk)) = IsRefusedWithin 4 old (view disk)

-- the store of a new disk was made, in seven calls; after an error the disk may be no store
abbrev pub Creates : {D : Type 0} → (D → DiskView) → ℕ → OnDisk → DiskView → Result (StoreState D) (CommitErr D) → Type 0
Creates view id after old (Ok store) = IsReached id 7 after old (view store.disk) × (store.id ≡ id)
    × (store.unwritten ≡ [])
Creates view id after old (Err (Lost disk)) = IsLostWithin 7 old (view disk)
Creates view id after old (Err (NoMemory disk)) = IsRefusedWithin 7 old (view disk)

-- a record was written in four calls, and with it all red marks
abbrev pub Writes : {D : Type 0} → (D → DiskView) → StoreState D → OnDisk → OnDisk → Result (StoreState D) (CommitErr D) → Type 0
Writes view old before after (Ok store) = IsReached old.id 4 after (view old.disk) (view store.disk)
    × (store.id ≡ old.id) × (store.unwritten ≡ [])
Writes view old before after (Err (Lost disk)) = IsLost old.id 0 before after (view old.disk) (view disk)
Writes view old before after (Err (NoMemory disk)) = IsRefused old.id 2 before (view old.disk) (view disk)

-- so was an event, which gives out what it has brought about
abbrev pub Commits : {D : Type 0} → (D → DiskView) → StoreState D → OnDisk → OnDisk → DraftParts →
    Result (StoreState D × Outputs) (CommitErr D) → Type 0
Commits view old before after d (Ok done) = Writes view old before after (Ok done.0) × (done.1 ≡ outputs_of true d)
Commits view old before after d (Err fault) = Writes view old before after (Err fault)

-- no call was made, and these red marks are kept
abbrev pub KeepsMarks : {D : Type 0} → StoreState D → List Action → Result (StoreState D) (CommitErr D) → Type 0
KeepsMarks old known (Ok store) = store ≡ record old { unwritten = old.unwritten ++ known }
KeepsMarks old known (Err (Lost disk)) = ⊥
KeepsMarks old known (Err (NoMemory disk)) = disk ≡ old.disk

-- so it was with an event
abbrev pub Keeps : {D : Type 0} → StoreState D → DraftParts → Result (StoreState D × Outputs) (CommitErr D) → Type 0
Keeps old d (Ok done) = KeepsMarks old d.known (Ok done.0) × (done.1 ≡ outputs_of false d)
Keeps old d (Err fault) = KeepsMarks old d.known (Err fault)

-- the state was written in one record on the other side, in six calls
abbrev pub Moves : {D : Type 0} → (D → DiskView) → StoreState D → OnDisk → OnDisk → Result (StoreState D) (CommitErr D) → Type 0
Moves view old before after (Ok store) = IsReached old.id 6 after (view old.disk) (view store.disk)
    × (store.id ≡ old.id) × (store.unwritten ≡ old.unwritten)
Moves view old before after (Err (Lost disk)) = IsLost old.id 0 before before (view old.disk) (view disk)
    ⊎ IsLost old.id 2 before after (view old.disk) (view disk)
Moves view old before after (Err (NoMemory disk)) = IsRefused old.id 4 before (view old.disk) (view disk)

-- a call's answer, with what is given out behind it
abbrev pub paired : {S F : Type 0} → Result S F → Outputs → Result (S × Outputs) F
paired (Ok store) outputs = Ok (store, outputs)
paired (Err fault) outputs = Err fault

-- an event's commit left its side too long, and a checkpoint followed
abbrev pub EndsLong : {D : Type 0} → (D → DiskView) → StoreState D → OnDisk → OnDisk → OnDisk → DraftParts →
    Result (StoreState D × Outputs) (CommitErr D) → Type 0
EndsLong view old before after moved d (Ok done) =
    IsReached old.id 10 moved (view old.disk) (view done.0.disk) × (done.0.id ≡ old.id) × (done.0.unwritten ≡ [])
    × (done.1 ≡ outputs_of true d)
EndsLong view old before after moved d (Err (Lost disk)) =
    IsLost old.id 0 before after (view old.disk) (view disk)
    ⊎ (IsLost old.id 4 after after (view old.disk) (view disk)
    ⊎ IsLost old.id 6 after moved (view old.disk) (view disk))
EndsLong view old before after moved d (Err (NoMemory disk)) =
    IsRefused old.id 2 before (view old.disk) (view disk) ⊎ IsRefused old.id 8 after (view old.disk) (view disk)

-- so it was where the commit leaves the side too long; else the event ends with it
abbrev pub EndsWritten : {D : Type 0} → (D → DiskView) → StoreState D → OnDisk → OnDisk → DraftParts →
    Result (StoreState D × Outputs) (CommitErr D) → Type 0
EndsWritten view old before after d result =
    Either (nat_lt size_limit after.size) (EndsLong view old before after (checkpointed after) d result) (Commits view
    old before after d result)

-- an image stands for one of three
abbrev pub IsOneOfThree : ℕ → OnDisk → OnDisk → OnDisk → Image → Type 0
IsOneOfThree id u v w c = Stands id c u ⊎ (Stands id c v ⊎ Stands id c w)

-- what ended a call of the journal ends the store's call
abbrev pub commit_fault : {D : Type 0} → AppendErr D → CommitErr D
commit_fault (AppendLost disk) = Lost disk
commit_fault (AppendNoMemory journal) = NoMemory journal
