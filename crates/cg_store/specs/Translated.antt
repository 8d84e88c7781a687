-- Records of the older format, and records of the newer one that say the same.
use Rattle.std.specs.Prelude.{◌≡◌, ℕ, ◌==◌, List, [], ◌∷◌, Option, Some, None}
use Rattle.cg_base.specs.Choice.{Either}
use Rattle.cg_journal.specs.Found.{Sides}
use Rattle.cg_journal.specs.declared.open.SideRecords.{SideRecords}
use Rattle.cg_records.specs.Limits.{IsNumber}
use Rattle.cg_disk_records.specs.Stored.{stable_of}
use Rattle.cg_disk_records.specs.Parts.{change_in, checkpoint_in}
use Rattle.cg_older.specs.Older.{old_change_in, old_checkpoint_in}
use Rattle.cg_store.specs.Opening.{IsSound}
use Rattle.cg_store.specs.Formats.{chosen_in}
use Rattle.cg_store.specs.declared.finding.OpenedSide.{OpenedSide}

abbrev pub IsSameChange : List ℕ → List ℕ → Type 0
IsSameChange old new = change_in new ≡ old_change_in old

-- of whatever replica
abbrev pub IsSameCheckpoint : List ℕ → List ℕ → Type 0
IsSameCheckpoint old new = (id : ℕ) → checkpoint_in id new ≡ old_checkpoint_in id old

-- one by one
abbrev pub AreSameChanges : List (List ℕ) → List (List ℕ) → Type 0
AreSameChanges [] [] = Unit {0}
AreSameChanges [] (new ∷ rest) = ⊥
AreSameChanges (old ∷ olds) [] = ⊥
AreSameChanges (old ∷ olds) (new ∷ news) = IsSameChange old new × AreSameChanges olds news

-- a checkpoint, and the changes behind it
abbrev pub AreSame : List (List ℕ) → List (List ℕ) → Type 0
AreSame [] [] = Unit {0}
AreSame [] (new ∷ rest) = ⊥
AreSame (old ∷ olds) [] = ⊥
AreSame (old ∷ olds) (new ∷ news) = IsSameCheckpoint old new × AreSameChanges olds news

-- what was found on a side, in the newer format
abbrev pub IsInNewer : SideRecords → List (List ℕ) → Type 0
IsInNewer r bodies = Either (r.version == 1) (AreSame r.bodies bodies) (bodies ≡ r.bodies)

-- what stands on sides of either format was found
pub record IsFoundOn (id : ℕ) (s : Sides) (f : OpenedSide) : Type 0 where
  pub size : ℕ
  pub stands : chosen_in id s ≡
      Some (record { side = f.side; generation = f.generation; size = size; content = f.core })
  pub values : f.values ≡ stable_of f.core
  pub small : IsNumber f.generation
  pub sound : IsSound f.core
  pub owner : f.core.id ≡ id

abbrev pub FindsOn : ℕ → Sides → Option OpenedSide → Type 0
FindsOn id s None = chosen_in id s ≡ None
FindsOn id s (Some f) = IsFoundOn id s f
