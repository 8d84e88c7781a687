-- What the bytes of a call that reads all of them say.
use Rattle.std.specs.Prelude.{◌≡◌, ◌≢◌, ℕ, List, Option, Some, None, Result, Ok, Err}
use Rattle.cg_codec.specs.Reading.{Unread}
use Rattle.cg_action.specs.declared.value.Value.{Value}
use Rattle.cg_action.specs.declared.entry.DbEntry.{DbEntry}
use Rattle.cg_db.specs.Map.{put}
use Rattle.cg_codec.specs.declared.fault.CodecFault.{CodecFault}
use Rattle.cg_codec.specs.declared.fault.CodecFault.TheVariants.{NoMemory}
use Rattle.cg_disk_records.specs.declared.checkpoint.Checkpoint.{Checkpoint}
use Rattle.cg_records.specs.Limits.{IsNumber}
use Rattle.cg_disk_records.specs.Stored.{Stored}
use Rattle.cg_disk_records.specs.Checkpoint.{spelled_parts, spelled_checkpoint}
use Rattle.cg_disk_records.specs.Limits.{IsStored, AreParts}
use Rattle.cg_disk_records.specs.Reading.{entry_reading}
use Rattle.cg_disk_records.specs.Parts.{stored_in, Fits, saved_in, checkpoint_in}
use Rattle.cg_disk_records.specs.Agreeing.{Agrees}

-- the call gave the one value that the bytes spell; where it gave none they spell none, unless memory was refused
abbrev pub Gives : {X : Type 0} → (X → Type 0) → (X → List ℕ) → List ℕ → Result X CodecFault → Type 0
Gives Has spelling bytes (Ok x) = Has x × (bytes ≡ spelling x)
Gives {X} Has spelling bytes (Err fault) = fault ≢ NoMemory → (x : X) → Has x → bytes ≢ spelling x

-- the same of the parts of a checkpoint
abbrev pub GivesParts : List ℕ → Result Checkpoint CodecFault → Type 0
GivesParts bytes r = Gives AreParts spelled_parts bytes r

-- the bytes are a checkpoint of a replica, of this generation and state
pub record IsCheckpoint (id : ℕ) (bytes : List ℕ) (generation : ℕ) (s : Stored) : Type 0 where
  pub spelled : bytes ≡ spelled_checkpoint generation s
  pub small : IsNumber generation
  pub of : s.id ≡ id
  pub is : IsStored s
  pub agrees : Agrees s

-- the parts of a checkpoint of a replica, within the limits
pub record AreSaved (id : ℕ) (p : Checkpoint) : Type 0 where
  pub parts : AreParts p
  pub fits : Fits id p
  pub stored : IsStored (stored_in id p)

-- a call found the parts of the checkpoint that the bytes are, or that they are none of this replica
abbrev pub FindsCheckpoint : ℕ → List ℕ → Option Checkpoint → Type 0
FindsCheckpoint id bytes None = checkpoint_in id bytes ≡ None
FindsCheckpoint id bytes (Some p) = (checkpoint_in id bytes ≡ Some (saved_in id p)) × AreSaved id p

-- an entry was read behind a key and put into a database, and its key, seen by a view, was given
abbrev pub TakesEntry : {X : Type 0} → (X → List ℕ) → List ℕ → List DbEntry → List DbEntry → Unread → Unread →
    Result X CodecFault → Type 0
TakesEntry view last before db old new (Ok key) = (value : Value)
    × (entry_reading last old ≡ Ok (record { key = view key; value = value }, new)) × (db ≡ put before (view key) value)
TakesEntry view last before db old new (Err fault) = fault ≢ NoMemory → entry_reading last old ≡ Err fault
